-- `admit::check_own` meets its contract: 25 where no component has the index, and else what the check of that component says.
use mathlib.Core.Path.{sym, ◌∙◌, ap}
use mathlib.Core.Option.{some}
use Prim.Native.Nat.{◌≤◌, ◌<◌}
use native.Mathlib.Omega.{arith}
use lib.ListN.{length}
use Rattle.answer.specs.Told.{told, says_checked}
use Rattle.iosa.specs.Step.{unless}
use Rattle.iosa.proofs.Acceptance.InHalves.{nowhere-25}
use Rattle.layout.specs.Layout.{count_of}
use Rattle.layout.specs.Image.{model_of}
use Rattle.layout.proofs.ImageIsSane.{image-long}
use Rattle.layout.proofs.ModelOf.{model-length}
use Rattle.parts.proofs.Saying.{says-as}
use Rattle.admit.proofs.EachInTurn.{own-fault}
use Rattle.admit.proofs.check_own.Goals as goal

pub count_of-n-requires : goal.count_of-n-requires
count_of-n-requires c = image-long _ c.requires

pub returns : goal.returns
returns c = let t = c.args.t.now in
    let h : c.args.i < count_of t = omega (arith, c.count_of-n.ensures) in
    says-as _ _ _ (own-fault t c.requires c.args.i h) c.check_component.ensures

pub returns-then-n-i : goal.returns-then-n-i
unfolding says_checked told
returns-then-n-i c = let t = c.args.t.now in
    let h : length (model_of t) ≤ c.args.i = omega (arith, model-length t, c.count_of-n.ensures) in
    ap says_checked c.refused.ensures ∙ ap (λ o. some (unless o tt)) (sym (nowhere-25 (model_of t) c.args.i h))
