-- `sampling::draw_at` meets its contract.
use Rattle.drawing.specs.Draws.{lent}
use Rattle.sampling.proofs.DrawLaws.{stands-lawful, law-draws, no-law-draws}
use Rattle.sampling.proofs.draw_at.Goals as goal

pub by_law-requires : goal.by_law-requires
by_law-requires c = (c.requires, stands-lawful c.args.text.now c.args.at _ c.law_at.ensures _ _ c.in-Ok.is)

pub returns-in-Ok : goal.returns-in-Ok
returns-in-Ok c = let a = c.args in
    law-draws a.text.now a.at _ c.law_at.ensures _ _ c.in-Ok.is (lent a.numbers.now a.x) a.used c.by_law.result c.by_law.ensures

pub returns-in-Err : goal.returns-in-Err
returns-in-Err c = no-law-draws c.args.text.now c.args.at _ c.law_at.ensures _ c.in-Err.is _ _
