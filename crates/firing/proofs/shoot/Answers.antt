-- `firing::shoot` meets its contract.
use mathlib.Core.Path.{◌≡◌, sym, ap, ◌∙◌}
use native.Mathlib.Omega.{arith}
use Rattle.std.specs.Prelude.{Ok}
use lib.ListN.{length}
use Rattle.answer.specs.Limits.{max_components}
use Rattle.answer.specs.State.{parts_of}
use Rattle.timing.specs.Timed.{enabling_all}
use Rattle.layout.specs.Image.{model_of}
use Rattle.moves.proofs.Ready.{count-few}
use Rattle.firing.specs.Choices.{choice_of, answer_of}
use Rattle.laws.proofs.Exits.{handed-on}
use Rattle.firing.proofs.Choosing.{fires-chosen, choice-told}
use Rattle.firing.proofs.Judging.{refuses, stays-quiet, chosen-answer}
use borrow.Author.Rules.{rules}
use Rattle.firing.proofs.shoot.Goals as goal

pub returns-in_err-d : goal.returns-in_err-d
unfolding answer_of
returns-in_err-d c = let m = model_of c.args.t.now in
    let ss = parts_of c.args.x in
    let vs = c.args.values.now in
    let e = chosen-answer m ss vs _ _ _ c.enabling_all-e.ensures c.choose.ensures c.in_err-d.was in
    rw (handed-on _ c.from_residual.ensures.1) (refuses _ _ e _ (choice-told _ vs _ (sym c.choose.ensures ∙ c.in_err-d.was)) _ _)

pub fire-requires : goal.fire-requires
fire-requires c = let m = model_of c.args.t.now in
    let ss = parts_of c.args.x in
    let vs = c.args.values.now in
    let h = fires-chosen (enabling_all m ss) vs _ (ap (λ n. choice_of n vs) (sym c.enabling_all-e.ensures) ∙ sym c.choose.ensures ∙ c.in_ok-d.was
    ∙ ap (λ d. Ok d) c.in-Some.is) in
    (c.requires, record { below = h.below; enables = h.own; from_zero = h.from_zero })

pub returns-in-Some : goal.returns-in-Some
unfolding answer_of
returns-in-Some c = let m = model_of c.args.t.now in
    let ss = parts_of c.args.x in
    let vs = c.args.values.now in
    let e = chosen-answer m ss vs _ _ _ c.enabling_all-e.ensures c.choose.ensures (c.in_ok-d.was ∙ ap (λ d. Ok d) c.in-Some.is) in
    rw e c.fire.ensures

pub returns-in-None : goal.returns-in-None
unfolding answer_of
returns-in-None c = let m = model_of c.args.t.now in
    let ss = parts_of c.args.x in
    let vs = c.args.values.now in
    let e = chosen-answer m ss vs _ _ _ c.enabling_all-e.ensures c.choose.ensures (c.in_ok-d.was ∙ ap (λ d. Ok d) c.in-None.is) in
    let len : length c.args.x.parts ≡ max_components = search rules in
    stays-quiet _ _ _ e (omega (arith, len, count-few _ _ c.requires.standing))
