-- `draw::draw` meets its contract.
use Rattle.draw.proofs.Cases.{of-uniform, of-first, of-second, drawn-uniform, drawn-first, drawn-second}
use Rattle.draw.proofs.draw.Goals as goal

pub ticks_of-requires : goal.ticks_of-requires
ticks_of-requires c = of-uniform _ _ _ c.in-Uniform.is c.requires

pub ticks_of-requires-then-u-w : goal.ticks_of-requires-then-u-w
ticks_of-requires-then-u-w c = of-first _ _ _ _ _ _ c.in-Mixture.is c.requires

pub ticks_of-requires-else-u-w : goal.ticks_of-requires-else-u-w
ticks_of-requires-else-u-w c = of-second _ _ _ _ _ _ c.in-Mixture.is c.requires

pub returns-in-Uniform : goal.returns-in-Uniform
returns-in-Uniform c = drawn-uniform _ _ _ _ c.requires _ _ c.in-Uniform.is c.ticks_of.ensures

pub returns-then-u-w : goal.returns-then-u-w
returns-then-u-w c = drawn-first _ _ _ _ c.requires _ _ _ _ _ _ c.in-Mixture.is c.unit_of-u.ensures c.if-u-w.true c.ticks_of-then-u-w.ensures

pub returns-else-u-w : goal.returns-else-u-w
returns-else-u-w c = drawn-second _ _ _ _ c.requires _ _ _ _ _ _ c.in-Mixture.is c.unit_of-u.ensures c.if-u-w.false c.ticks_of-else-u-w.ensures
