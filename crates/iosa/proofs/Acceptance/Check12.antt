-- 12 "(d) broken": the test of a state and an action, and that the search finds none exactly if (d) holds, given (a).
use mathlib.Core.Path.{◌≡◌, refl}
use mathlib.Core.Logic.{◌↔◌}
use mathlib.Core.Bool.{true, ◌&&◌, not}
use mathlib.Core.Option.{Option, none, some}
use Prim.Native.Nat.{ℕ, ◌<◌}
use borrow.Author.Tests.{not-true, not-false}
use Rattle.laws.specs.Sets.{has}
use Rattle.laws.specs.Search.{is_some}
use Rattle.laws.proofs.SearchLaws.{is-some, is_none, least2-none, none-least2}
use Rattle.laws.proofs.TestLaws.{and-true, and-false, not_so}
use Rattle.answer.specs.Limits.{max_actions}
use Rattle.model.specs.Model.{Row, Comp, inputs}
use Rattle.model.specs.WellFormed.{WellComp}
use Rattle.iosa.specs.Automaton.{auto_of, CondA, CondD}
use Rattle.iosa.specs.Checks.{row_for, lacks_row, cell_of, check12}
use Rattle.iosa.specs.Faults.{Broken12}
use Rattle.iosa.proofs.Acceptance.Rows.{row-found, found-leads, row-missing, input-unclocked, input-below}

module _ (c : Comp) where
  -- ---- the test of a state and an action
  pub lack-broken : (s a : ℕ) → s < c.states → lacks_row c s a ≡ true → Broken12 c s a
  unfolding lacks_row
  lack-broken s a h e =
      let p = and-true (has (inputs c) a) (not (is_some (row_for c s a))) e in
      record { state = h; input = p.0; lacks = λ l. row-missing c s a (is_none (row_for c s a) (not-true (is_some (row_for c s a)) p.1)) l }

  pub broken-lack : (s a : ℕ) → Broken12 c s a → lacks_row c s a ≡ true
  unfolding lacks_row
  broken-lack s a b = go (row_for c s a) refl
    where
      go : (o : Option Row) → row_for c s a ≡ o → (has (inputs c) a && not (is_some o)) ≡ true
      go none e = simp b.input
      go (some r) e = absurd (b.lacks (found-leads c s a r (row-found c s a r e)))

  -- ---- the search
  module _ (w : WellComp c) (ca : CondA (auto_of c)) where
    pub check12-exactly : (check12 c ≡ none) ↔ CondD (auto_of c)
    unfolding check12 lacks_row
    check12-exactly = (
      λ e. record {
        row = λ s h a k.
            let n = least2-none (lacks_row c) cell_of c.states max_actions e s a h (input-below c w a k) in
            let r = is-some (row_for c s a) (not-false (is_some (row_for c s a)) (and-false (has (inputs c) a) (not (is_some (row_for c s a))) n k)) in
            let l = found-leads c s a r.0 (row-found c s a r.0 r.1) in
            (r.0.resets, r.0.target, rw (ca.unguarded l (input-unclocked c a k)) at l);
      },
      λ cd. none-least2 (lacks_row c) cell_of c.states max_actions (λ s a h n. not_so (lacks_row c s a) (λ e.
          let b = lack-broken s a h e in
          b.lacks (cd.row s h a b.input).2)),
    )
