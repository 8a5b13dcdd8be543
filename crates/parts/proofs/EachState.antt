-- A check asked of each number of a range in turn, as `try_for_each` asks it, says the first fault of the range.
use mathlib.Core.Path.{◌≡◌, sym, ◌∙◌, ap, subst}
use mathlib.Core.List.{List, [], ◌∷◌}
use mathlib.Core.Option.{Option}
use Prim.Native.Nat.{ℕ, ◌<◌}
use native.Mathlib.Omega.{arith}
use denote.Param.Members.{Mut}
use Rattle.std.specs.Fn.{Called}
use Rattle.std.specs.List.{FoldsTo}
use Rattle.std.specs.Iterator.{Yields, TryCallsOnEach, TryForEachTurn}
use Rattle.std.specs.declared.ops.Range.{Range}
use Rattle.std.specs.Prelude as Answered
use Rattle.std.specs.Prelude.{Some, None, Ok, Err, IsErr, IsErrAnd, MatchOption}
use Rattle.std.specs.Result.{result_from_control_flow}
use Rattle.std.proofs.Common.{ControlFlow, Break, Continue}
use Rattle.std.proofs.iter.Yields.{nat_range_steps}
use Rattle.laws.specs.Search.{seek}
use Rattle.laws.proofs.SearchLaws.{seek-next, seek-end}
use Rattle.answer.specs.Told.{Told, Checked}
use Rattle.answer.specs.declared.Refusal.{Refusal}
use Rattle.parts.specs.Faults.{Says}
use Rattle.parts.proofs.Saying.{says-fine, says-as, fine-none, exit-here}

-- g answers alike whenever it is called, and stays as it is; E is what a `?` hands on
module _ {F E : Type 0} (g : Mut F (ℕ × Unit {0}) Checked) (branches : Checked → ControlFlow E (Unit {0}) → Type 0) (resumes : E → Checked → Type 0)
    (goes : (v : Checked) → branches v (Continue tt) → v ≡ Ok tt)
    (ends : (v r : Checked) (e : E) → branches v (Break e) → resumes e r → (q : Refusal) × (v ≡ Err q) × IsErrAnd r (λ x. x ≡ q)) (f : F)
    (fault : ℕ → Option Told) (hi : ℕ) (asks : (k : ℕ) (r : Checked) (q : F) → k < hi → Called g f (k, tt) r q → (q ≡ f) × Says r (fault k)) where
  from : (xs : List ℕ) (s t u : Range ℕ) (o : Answered.Option ℕ) (p q : F) (r : Checked) → s.end ≡ hi → p ≡ f → Yields nat_range_steps s xs t
      → nat_range_steps t o u → FoldsTo (TryForEachTurn g branches) p xs q
      → MatchOption o (branches r (Continue tt)) (λ x. (v : Checked) × (h : F) × (e : E) × Called g q (x, tt) v h × branches v (Break e) × resumes e r)
      → Says r (seek fault s.start hi)
  from [] s t u None p q r e w y n c m =
      rw (goes r m) (says-fine _ (seek-end fault s.start hi (omega (arith, n.1.0, e, ap (λ (z : Range ℕ). z.start) y, ap (λ (z : Range ℕ). z.end) y))))
  from [] s t u (Some x) p q r e w y n c (v, h, d, call, b, k) =
      let at : x ≡ s.start = n.1.1 ∙ ap (λ (z : Range ℕ). z.start) (sym y) in
      let l : s.start < hi = omega (arith, n.1.0, e, ap (λ (z : Range ℕ). z.start) y, ap (λ (z : Range ℕ). z.end) y) in
      let a = asks x v h (omega arith) (subst (λ j. Called g j (x, tt) v h) (sym c ∙ w) call) in
      let z = ends v r d b k in
      exit-here z.0 r z.2 fault s.start hi l (subst (λ j. Says (Err z.0) (fault j)) at (subst (λ j. Says j (fault x)) z.1 a.1))
  from (x ∷ xs) s t u o p q r e w (j, n, y) m (p', (v, call, b), c) k =
      let l : s.start < hi = omega (arith, n.1.0, e) in
      let a = asks x v p' (omega (arith, n.1.1)) (subst (λ j. Called g j (x, tt) v p') w call) in
      let fine = fine-none (fault x) (subst (λ j. Says j (fault x)) (goes v b) a.1) in
      let ih = from xs j t u o p' q r (n.0 ∙ e) a.0 y m c k in
      says-as r (seek fault j.start hi) _ (ap (λ n. seek fault n hi) n.1.2 ∙ sym (seek-next fault s.start hi l (ap fault (sym n.1.1) ∙ fine))) ih

  each-in-turn : (s u : Range ℕ) (r : Checked) → s.end ≡ hi → TryCallsOnEach nat_range_steps g branches resumes s f r u → Says r (seek fault s.start hi)
  each-in-turn s u r e (xs, o, q, (t, y, n), c, m) = from xs s t u o f q r e (λ i. f) y n c m

-- as `?` hands a refusal on
pub first-fault : {F : Type 0} (g : Mut F (ℕ × Unit {0}) Checked) (f : F) (fault : ℕ → Option Told) (hi : ℕ)
    → ((k : ℕ) (r : Checked) (q : F) → k < hi → Called g f (k, tt) r q → (q ≡ f) × Says r (fault k)) → (s u : Range ℕ) (r : Checked) → s.end ≡ hi
    → TryCallsOnEach nat_range_steps g (λ v w. v ≡ result_from_control_flow w) (λ e r. IsErr r × IsErrAnd r (λ x. x ≡ e.0)) s f r u
    → Says r (seek fault s.start hi)
first-fault g f fault hi asks s u r e ran =
    each-in-turn g (λ v w. v ≡ result_from_control_flow w) (λ e r. IsErr r × IsErrAnd r (λ x. x ≡ e.0)) (λ v h. h) (λ v r e h k. (e.0, h, k.1)) f fault hi
    asks s u r e ran
