-- The contracts of `orderly` and `may_walk` say exactly what document 000 and the paper's order of refusals say.
use mathlib.Core.Path.{◌≡◌, refl, ◌∙◌, ap}
use mathlib.Core.Logic.{◌↔◌}
use mathlib.Core.List.{List, ◌∷◌}
use Prim.Native.Nat.{ℕ}
use Rattle.laws.specs.Search.{or_else}
use Rattle.answer.specs.Told.{Answer, answered}
use Rattle.answer.specs.Told.{Checked}
use Rattle.model.specs.Model.{Comp, Model}
use Rattle.model.specs.WellFormed.{WellFormed}
use Rattle.iosa.specs.Checks.{clash_among, accept_of}
use Rattle.iosa.specs.Step.{unless}
use Rattle.iosa.specs.InOrder.{◌▹◌}
use Rattle.answering.specs.Answers.{Fine}
use Rattle.answering.proofs.Answers.InOrder.{refused_or, or-refused, unless-refused, check-exactly, gives-exactly}
use Rattle.answering.proofs.Answers.Models.{check-accepted}
use Rattle.layout.specs.OnImage.{Tells}
use Rattle.table.proofs.OnImageExactly.{on-table-leaves}
use Rattle.triggering.specs.Test.{open_fault, unless_passes, orderly_of, else_orderly, entry_of}
use Rattle.walkable.specs.Entry.{closed, passing, settles}
use Rattle.walkable.proofs.Entry.{closed_decided, passing-decided, settles-decided}
use Rattle.orderly.specs.Calls.{OrderlyCall, MayWalk}
use Rattle.orderly.specs.OrderlyExactly.{OrderlyAnswer, MayWalkAnswer, OrderlyExactly, MayWalkExactly}

abbrev done : Unit {0}
done = tt

fine-exactly : (a : Answer (Unit {0})) → (answered done ≡ a) ↔ Fine a
fine-exactly = gives-exactly done (λ _. Unit {0}) (λ y. (λ e. tt, λ u. refl))

module _ (c : Comp) (cs : List Comp) (w : WellFormed (c ∷ cs)) where
  abbrev m : Model
  m = c ∷ cs

  -- 10 to 17, then 45, then 18
  orderly-model-exactly : (a : Answer (Unit {0})) → (unless (orderly_of m) tt ≡ a) ↔ OrderlyAnswer c cs a
  unfolding orderly_of
  orderly-model-exactly a =
      let x : Answer (Unit {0}) = answered done in
      let p = unless_passes m (clash_among 0 m) in
      let o = or_else (open_fault m) p in
      let e = or-refused (accept_of m) o x ∙ ap (refused_or (accept_of m)) (or-refused (open_fault m) p x) in
      rw (unless-refused (or_else (accept_of m) o) done ∙ e) (
      check-accepted m w (refused_or (open_fault m) (refused_or p x)) (closed m ▹ passing m ▹ Fine) (λ k.
      check-exactly (closed m) (open_fault m) (closed_decided m w) (refused_or p x) (passing m ▹ Fine) (λ n.
      check-exactly (passing m) p (passing-decided m w k) x Fine (λ h. fine-exactly))) a)

  -- 10 to 17, then check 18, or else 45, then 18
  may-walk-model-exactly : (a : Answer (Unit {0})) → (unless (entry_of m) tt ≡ a) ↔ MayWalkAnswer c cs a
  unfolding entry_of
  may-walk-model-exactly a =
      let o = else_orderly m (clash_among 0 m) in
      rw (unless-refused (or_else (accept_of m) o) done ∙ or-refused (accept_of m) o (answered done)) (
      check-accepted m w (refused_or o (answered done)) (settles m ▹ Fine) (λ k.
      check-exactly (settles m) o (settles-decided m w k) (answered done) Fine (λ h. fine-exactly)) a)

pub orderly-answers-exactly : (t : List ℕ) (r : Checked) → OrderlyCall t r ↔ OrderlyExactly t r
orderly-answers-exactly t r = on-table-leaves t (λ m. unless (orderly_of m) tt) OrderlyAnswer orderly-model-exactly (Tells r)

pub may-walk-answers-exactly : (t : List ℕ) (r : Checked) → MayWalk t r ↔ MayWalkExactly t r
may-walk-answers-exactly t r = on-table-leaves t (λ m. unless (entry_of m) tt) MayWalkAnswer may-walk-model-exactly (Tells r)
