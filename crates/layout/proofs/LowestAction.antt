-- Rows ascend by action within the range of a state, so the first row with an action of a set has the lowest such action that leaves the state.
use mathlib.Core.Path.{◌≡◌, refl, sym, ◌∙◌, ap}
use mathlib.Core.Option.{Option, none, some}
use mathlib.Core.Bool.{true, false, false≢true}
use mathlib.Core.List.{List}
use Prim.Native.Nat.{ℕ, suc, ◌-◌, ◌≤◌, ◌<◌}
use native.Mathlib.Omega.{arith}
use native.Mathlib.Decide.{ℕ_discrete, dec_lt}
use lib.Dec.{eqb}
use borrow.Author.Tests.{eqb-true, eq-eqb, ne_eqb}
use Rattle.laws.specs.Sets.{has}
use Rattle.laws.specs.Search.{seek, when, is_some, map_some, least, Found}
use Rattle.laws.proofs.SearchLaws.{seek-some, seek-none, some-seek, when-some, when-none, is-some, none-least, some-least}
use Rattle.laws.proofs.TestLaws.{and-not-both}
use Rattle.answer.specs.Limits.{max_actions}
use Rattle.model.specs.WellFormed.{before}
use Rattle.iosa.specs.Checks.{row_for}
use Rattle.iosa.proofs.Acceptance.Order.{rows-ascend}
use Rattle.layout.specs.Layout.{count_of, block_word, first_of, action_at}
use Rattle.layout.specs.Image.{row_in, comp_of, Image}
use Rattle.layout.specs.Ranges.{first_by, leaves_by}
use Rattle.layout.proofs.Bridge.{row-for}
use Rattle.layout.proofs.RowsAscend.{before-action}
use Rattle.layout.proofs.RowsOfRange.{well-comp, range-from, range-to, range-row}
use Rattle.layout.proofs.ImageIsSane.{row-ranges}

some_of : {A B : Type 0} (f : A → B) (o : Option A) → is_some (map_some f o) ≡ true → is_some o ≡ true
some_of f none e = e
some_of f (some x) e = refl

module _ (t : List ℕ) (im : Image t) (i s : ℕ) (h : i < count_of t) (below : s < block_word t i 0) where
  abbrev InRange : ℕ → Type 0
  InRange r = (first_of t i s ≤ r) × (r < first_of t i (suc s))

  -- within the range of s
  pub range-ascends : (r q : ℕ) → InRange r → InRange q → r < q → before (row_in t s r) (row_in t s q) ≡ true
  range-ascends r q a b p =
      let x = range-from t im i h s r below a.0 a.1 in
      let y = range-from t im i h s q below b.0 b.1 in
      rw (range-row t im i h s r below a.0 a.1, range-row t im i h s q below b.0 b.1)
      (rows-ascend (comp_of t i) (well-comp t im i h) (r - first_of t i 0) (q - first_of t i 0) (omega arith) (range-to t im i h s q below b.0 b.1))

  pub actions-ascend : (r q : ℕ) → InRange r → InRange q → r ≤ q → action_at t r ≤ action_at t q
  actions-ascend r q a b p = elim (ℕ_discrete r q) [
    | yes e ↦ rw e (omega arith)
    | no e ↦ before-action (row_in t s r) (row_in t s q) (range-ascends r q a b (omega arith)) refl
  ]

  -- ---- the row by which an action leaves s
  pub row-for-some : (a : ℕ) → is_some (row_for (comp_of t i) s a) ≡ true → (r : ℕ) × InRange r × (action_at t r ≡ a)
  row-for-some a e =
      let o = is-some (seek (λ r. when (eqb (action_at t r) a) r) (first_of t i s) (first_of t i (suc s)))
      (some_of (row_in t s) (seek (λ r. when (eqb (action_at t r) a) r) (first_of t i s) (first_of t i (suc s))) (ap is_some (sym (row-for t i s below a))
      ∙ e)) in
      let f = seek-some (λ r. when (eqb (action_at t r) a) r) (first_of t i s) (first_of t i (suc s)) o.0 o.1 in
      let w = when-some (eqb (action_at t f.place) a) f.place f.here in
      (f.place, (f.from, f.below), eqb-true (action_at t f.place) a w.0)

  -- the first row with action a
  pub row-for-first : (r : ℕ) → InRange r → ((q : ℕ) → first_of t i s ≤ q → q < r → action_at t q ≡ action_at t r → ⊥)
      → row_for (comp_of t i) s (action_at t r) ≡ some (row_in t s r)
  row-for-first r p l =
      row-for t i s below (action_at t r)
      ∙ ap (map_some (row_in t s)) (some-seek (λ q. when (eqb (action_at t q) (action_at t r)) q) (first_of t i s) (first_of t i (suc s)) (record {
        place = r;
        from = p.0;
        below = p.1;
        here = rw (eq-eqb (action_at t r) (action_at t r) refl);
        least = λ q u v. rw (ne_eqb (action_at t q) (action_at t r) (l q u v));
      }))

  -- ---- the first row with an action of S
  module _ (S : ℕ) where
    pub lowest-none : first_by t i s S ≡ none → least (leaves_by t i s S) max_actions ≡ none
    lowest-none e = none-least (leaves_by t i s S) max_actions (λ a p. and-not-both (has S a) (is_some (row_for (comp_of t i) s a)) (λ u v.
        let r = row-for-some a v in
        let n = when-none (has S (action_at t r.0)) r.0 (seek-none (λ r. when (has S (action_at t r)) r) (first_of t i s) (first_of t i (suc s)) e
        r.0 r.1.0 r.1.1) in
        false≢true (sym n ∙ ap (has S) r.2 ∙ u)))

    module _ (r : ℕ) (e : first_by t i s S ≡ some r) where
      found : Found (λ r. when (has S (action_at t r)) r) (first_of t i s) (first_of t i (suc s)) r
      found = seek-some (λ r. when (has S (action_at t r)) r) (first_of t i s) (first_of t i (suc s)) r e

      hit : (has S (action_at t found.place) ≡ true) × (found.place ≡ r)
      hit = when-some (has S (action_at t found.place)) found.place found.here

      pub first-in : InRange r
      first-in = (omega (arith, hit.1, found.from), omega (arith, hit.1, found.below))

      pub first-has : has S (action_at t r) ≡ true
      first-has = rw hit.1 at hit.0

      earlier : (q : ℕ) → first_of t i s ≤ q → q < r → has S (action_at t q) ≡ false
      earlier q u v = when-none (has S (action_at t q)) q (found.least q u (omega (arith, hit.1)))

      pub first-row-for : row_for (comp_of t i) s (action_at t r) ≡ some (row_in t s r)
      first-row-for = row-for-first r first-in (λ q u v w. false≢true (sym (earlier q u v) ∙ ap (has S) w ∙ first-has))

      lower-not : (b : ℕ) → b < action_at t r → leaves_by t i s S b ≡ false
      lower-not b p = and-not-both (has S b) (is_some (row_for (comp_of t i) s b)) (λ u v.
          let q = row-for-some b v in
          elim (dec_lt q.0 r) [
            | yes l ↦ false≢true (sym (earlier q.0 q.1.0 l) ∙ ap (has S) q.2 ∙ u)
            | no l ↦ omega (arith, q.2, actions-ascend r q.0 first-in q.1 (omega arith))
          ])

      pub lowest-some : least (leaves_by t i s S) max_actions ≡ some (action_at t r)
      lowest-some = some-least (leaves_by t i s S) max_actions (action_at t r) (record {
        below = (row-ranges t im i s r h below first-in.0 first-in.1).action;
        here = rw (first-has, first-row-for);
        before = lower-not;
      })
