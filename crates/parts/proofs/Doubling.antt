-- 13 in a state: rows ascend by action, so the first row with the action of the row before it has the lowest action that leaves the state twice.
use mathlib.Core.Path.{◌≡◌, sym, ◌∙◌, ap, ap₂}
use mathlib.Core.Bool.{true, ◌&&◌, true≢false}
use mathlib.Core.Option.{Option, none, some}
use mathlib.Core.List.{List, [], ◌∷◌}
use Prim.Native.Nat.{ℕ, suc, ◌+◌, ◌-◌, ◌≤◌, ◌<◌}
use native.Mathlib.Omega.{arith}
use native.Mathlib.Decide.{dec_lt}
use lib.ListN.{length}
use lib.Dec.{eqb}
use borrow.Author.Tests.{eqb-true, eq-eqb}
use Rattle.laws.specs.Sets.{has, ◌∈◌}
use Rattle.laws.specs.Search.{seek, when, any}
use Rattle.laws.proofs.SearchLaws.{seek-some, seek-none, some-seek, none-seek, when-some, when-none, any-true, true-any}
use Rattle.laws.proofs.TestLaws.{and-true, not_so}
use Rattle.answer.specs.Limits.{max_actions}
use Rattle.answer.specs.Told.{tell}
use Rattle.model.specs.Model.{Comp, row_at}
use Rattle.iosa.specs.Checks.{leaves, unclocked, twice}
use Rattle.iosa.proofs.Acceptance.Rows.{leaves-true, leaves-parts}
use Rattle.layout.specs.Layout.{count_of, block_word, first_of, action_at}
use Rattle.layout.specs.Image.{Image, comp_of}
use Rattle.layout.proofs.RowsOfRange.{row-there, row_from, row-to, range-from, range-to, range-row}
use Rattle.layout.proofs.ImageIsSane.{row-ranges}
use Rattle.layout.proofs.LowestAction.{actions-ascend}
use Rattle.parts.specs.Faults.{twice_fault, again_at}

-- two rows of c leave s by action a
pub record Two (c : Comp) (s a : ℕ) : Type 0 where
  pub kind : a ∈ unclocked c
  pub earlier : ℕ
  pub later : ℕ
  pub above : earlier < later
  pub inside : later < length c.rows
  pub first : ((row_at c earlier).from ≡ s) × ((row_at c earlier).action ≡ a)
  pub second : ((row_at c later).from ≡ s) × ((row_at c later).action ≡ a)

pub two-twice : (c : Comp) (s a : ℕ) → Two c s a → twice c s a ≡ true
unfolding twice
two-twice c s a w =
    let inner : any (λ j. leaves (row_at c j) s a) w.later ≡ true = true-any (λ j. leaves (row_at c j) s a) w.later w.earlier w.above
    (leaves-true (row_at c w.earlier) s a w.first.0 w.first.1) in
    let outer : any (λ k. leaves (row_at c k) s a && any (λ j. leaves (row_at c j) s a) k) (length c.rows) ≡ true =
    true-any (λ k. leaves (row_at c k) s a && any (λ j. leaves (row_at c j) s a) k) (length c.rows) w.later w.inside
    (ap₂ ◌&&◌ (leaves-true (row_at c w.later) s a w.second.0 w.second.1) inner) in
    ap₂ ◌&&◌ w.kind outer

twice_two : (c : Comp) (s a : ℕ) → twice c s a ≡ true → Two c s a
unfolding twice
twice_two c s a e =
    let p = and-true (has (unclocked c) a) (any (λ k. leaves (row_at c k) s a && any (λ j. leaves (row_at c j) s a) k) (length c.rows)) e in
    let k = any-true (λ k. leaves (row_at c k) s a && any (λ j. leaves (row_at c j) s a) k) (length c.rows) p.1 in
    let q = and-true (leaves (row_at c k.0) s a) (any (λ j. leaves (row_at c j) s a) k.0) k.2 in
    let j = any-true (λ j. leaves (row_at c j) s a) k.0 q.1 in
    record {
      kind = p.0;
      earlier = j.0;
      later = k.0;
      above = j.1;
      inside = k.1;
      first = leaves-parts (row_at c j.0) s a j.2;
      second = leaves-parts (row_at c k.0) s a q.0;
    }

module _ (t : List ℕ) (im : Image t) (i : ℕ) (h : i < count_of t) (s : ℕ) (b : s < block_word t i 0) where
  abbrev c : Comp
  c = comp_of t i

  -- a row of the range with the action of the row before it
  abbrev Again : ℕ → Type 0
  Again r = (first_of t i s + 1 ≤ r) × (r < first_of t i (suc s)) × (again_at t (unclocked c) r ≡ true)

  again_two : (r : ℕ) → Again r → Two c s (action_at t r)
  unfolding again_at
  again_two r (p, q, e) =
      let w = and-true (eqb (action_at t r) (action_at t (r - 1))) (has (unclocked c) (action_at t r)) e in
      let x : first_of t i s ≤ r - 1 = omega arith in
      let y : r - 1 < first_of t i (suc s) = omega arith in
      let z : first_of t i s ≤ r = omega arith in
      let one = range-row t im i h s (r - 1) b x y in
      let two = range-row t im i h s r b z q in
      record {
        kind = w.1;
        earlier = r - 1 - first_of t i 0;
        later = r - first_of t i 0;
        above = omega (arith, range-from t im i h s (r - 1) b x y);
        inside = range-to t im i h s r b z q;
        first = (sym (ap (λ r. r.from) one), sym (ap (λ r. r.action) one) ∙ sym (eqb-true (action_at t r) (action_at t (r - 1)) w.0));
        second = (sym (ap (λ r. r.from) two), sym (ap (λ r. r.action) two));
      }

  -- where row k of c lies that leaves s
  placed : (k a : ℕ) → k < length c.rows → (row_at c k).from ≡ s → (row_at c k).action ≡ a
      → (first_of t i s ≤ first_of t i 0 + k) × (first_of t i 0 + k < first_of t i (suc s)) × (action_at t (first_of t i 0 + k) ≡ a)
  placed k a p f g = (rw f at (row_from t im i h k p), rw f at (row-to t im i h k p), ap (λ r. r.action) (row-there t im i h k p) ∙ g)

  two-again : (a : ℕ) → Two c s a → (r : ℕ) × (action_at t r ≡ a) × Again r
  unfolding again_at
  two-again a w =
      let x = placed w.earlier a (omega (arith, w.above, w.inside)) w.first.0 w.first.1 in
      let y = placed w.later a w.inside w.second.0 w.second.1 in
      let q = first_of t i 0 + w.earlier in
      let r = first_of t i 0 + w.later in
      let before : r - 1 < first_of t i (suc s) = omega (arith, y.1) in
      let from : first_of t i s ≤ r - 1 = omega (arith, x.0, w.above) in
      let up = actions-ascend t im i s h b q (r - 1) (x.0, x.1) (from, before) (omega (arith, w.above)) in
      let down = actions-ascend t im i s h b (r - 1) r (from, before) (y.0, y.1) (omega arith) in
      let same : action_at t r ≡ action_at t (r - 1) = omega (arith, x.2, y.2) in
      (r, y.2, (omega (arith, x.0, w.above), y.1, ap₂ ◌&&◌ (eq-eqb (action_at t r) (action_at t (r - 1)) same) (rw y.2 w.kind)))

  abbrev first_again : Option ℕ
  first_again = seek (λ r. when (again_at t (unclocked c) r) r) (first_of t i s + 1) (first_of t i (suc s))

  pub none-again : first_again ≡ none → twice_fault t i s ≡ none
  unfolding twice_fault
  none-again e =
      none-seek (λ a. when (twice c s a) (tell 13 (i ∷ s ∷ a ∷ []))) 0 max_actions
      (λ a p q. ap (λ v. when v (tell 13 (i ∷ s ∷ a ∷ []))) (not_so (twice c s a) (λ w.
      let r = two-again a (twice_two c s a w) in
      true≢false (sym r.2.2 ∙ when-none (again_at t (unclocked c) r.0) r.0
      (seek-none (λ r. when (again_at t (unclocked c) r) r) (first_of t i s + 1) (first_of t i (suc s)) e r.0 r.2.0 r.2.1)))))

  pub some-again : (r : ℕ) → first_again ≡ some r → twice_fault t i s ≡ some (tell 13 (i ∷ s ∷ action_at t r ∷ []))
  unfolding twice_fault
  some-again r e =
      let f = seek-some (λ r. when (again_at t (unclocked c) r) r) (first_of t i s + 1) (first_of t i (suc s)) r e in
      let w = when-some (again_at t (unclocked c) f.place) f.place f.here in
      let lo : first_of t i s + 1 ≤ r = omega (arith, f.from, w.1) in
      let hi : r < first_of t i (suc s) = omega (arith, f.below, w.1) in
      let here : again_at t (unclocked c) r ≡ true = rw w.1 at w.0 in
      some-seek (λ a. when (twice c s a) (tell 13 (i ∷ s ∷ a ∷ []))) 0 max_actions (record {
        place = action_at t r;
        from = omega arith;
        below = (row-ranges t im i s r h b (omega arith) hi).action;
        here = ap (λ v. when v (tell 13 (i ∷ s ∷ action_at t r ∷ []))) (two-twice c s (action_at t r) (again_two r (lo, hi, here)));
        least = λ a p q. ap (λ v. when v (tell 13 (i ∷ s ∷ a ∷ []))) (not_so (twice c s a) (λ v.
            let u = two-again a (twice_two c s a v) in
            elim (dec_lt u.0 r) [
              | yes l ↦ true≢false (sym u.2.2 ∙ when-none (again_at t (unclocked c) u.0) u.0 (f.least u.0 u.2.0 (omega (arith, w.1))))
              | no l ↦ let up : action_at t r ≤ action_at t u.0 = actions-ascend t im i s h b r u.0 (omega arith, hi) (
                omega (arith, u.2.0),
                u.2.1,
              ) (omega arith) in omega (arith, u.1)
            ]));
      })
