-- The buffer is long enough, so nothing is refused.
use Rattle.why.proofs.Filling.{is-filled, is-answered}
use Rattle.why.proofs.filled.Goals as goal

pub unwrap-requires : goal.unwrap-requires
unwrap-requires c = is-answered c.args.input.now c.args.out.now _ _ c.requires c.explain.ensures

pub returns : goal.returns
returns c = is-filled c.args.input.now c.args.out.now _ _ c.requires c.explain.ensures _ c.unwrap.ensures
