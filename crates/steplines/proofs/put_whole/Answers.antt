-- `steplines::put_whole` meets its contract.
use native.Mathlib.Omega.{arith}
use Rattle.tell.proofs.TellLaws.{put_as}
use Rattle.answer.specs.declared.Place.TheVariants.{Whole}
use Rattle.steplines.proofs.Most.{refused-most}
use Rattle.steplines.proofs.Refusals.{whole-text}
use Rattle.steplines.proofs.put_whole.Goals as goal

pub put_refused-requires : goal.put_refused-requires
put_refused-requires c = omega (arith, refused-most (record { number = c.args.number; place = Whole }), c.requires)

pub returns : goal.returns
returns c = put_as (whole-text c.args.number) c.put_refused.ensures
