-- 10 "(a) or (b) broken": the test of a row, and that the search finds none exactly if (a) and (b) hold.
use mathlib.Core.Path.{◌≡◌, sym, ◌∙◌, ap}
use mathlib.Core.Logic.{◌↔◌, ◌⊎◌, inl, inr, ⊎_elim}
use mathlib.Core.Bool.{true, ◌&&◌, ◌||◌, not, true≢false}
use mathlib.Core.Option.{none}
use Prim.Native.Nat.{ℕ, ◌<◌}
use native.Mathlib.Decide.{ℕ_discrete}
use lib.ListN.{length}
use lib.Dec.{eqb}
use borrow.Author.Tests.{eqb-true, eqb-false, eq-eqb, ne_eqb, not-true}
use Rattle.laws.specs.Sets.{has, ◌∈◌}
use Rattle.laws.proofs.SetLaws.{in-or, or-in-l, or-in-r, or_cases, or_right}
use Rattle.laws.proofs.SearchLaws.{least-none, none-least}
use Rattle.laws.proofs.TestLaws.{and-true, not_so}
use Rattle.model.specs.Model.{Comp, row_at, guard_set, outputs, urgents}
use Rattle.model.specs.WellFormed.{WellComp}
use Rattle.iosa.specs.Automaton.{auto_of, CondA, CondB}
use Rattle.iosa.specs.Checks.{unclocked, bad_guard, check10}
use Rattle.iosa.specs.Faults.{AgainstA, AgainstB, Broken10}
use Rattle.iosa.proofs.Acceptance.Guards.{guard-zero, guard-some, only-some}
use Rattle.iosa.proofs.Acceptance.Rows.{leads-at}

module _ (c : Comp) (w : WellComp c) where
  -- `out` is output and not urgent
  pub out-calm : (a : ℕ) → a ∈ c.outs → (a ∈ outputs c) × (a ∈ urgents c → ⊥)
  out-calm a h = (or-in-l c.outs c.uouts a h, λ u. ⊎_elim (w.outs-uins a h) (w.outs-uouts a h) (in-or c.uins c.uouts a u))

  pub calm-out : (a : ℕ) → a ∈ outputs c → (a ∈ urgents c → ⊥) → a ∈ c.outs
  calm-out a h n = ⊎_elim (λ k. k) (λ k. absurd (n (or-in-r c.uins c.uouts a k))) (in-or c.outs c.uouts a h)

  -- ---- the test of a row
  pub guard-broken : (k : ℕ) → k < length c.rows → bad_guard c k ≡ true → Broken10 c k
  unfolding bad_guard
  guard-broken k h e = record {
    inside = h;
    against = ⊎_elim (λ p. inl (first p)) (λ p. inr (second p)) (or_cases
        (has (unclocked c) (row_at c k).action && not (eqb (row_at c k).guard 0)) (has c.outs (row_at c k).action && eqb (row_at c k).guard 0) e);
  }
    where
      first : (has (unclocked c) (row_at c k).action && not (eqb (row_at c k).guard 0)) ≡ true
          → AgainstA (auto_of c) (guard_set (row_at c k).guard) (row_at c k).action
      first p =
          let q = and-true (has (unclocked c) (row_at c k).action) (not (eqb (row_at c k).guard 0)) p in
          (q.0, λ z. eqb-false (row_at c k).guard 0 (not-true (eqb (row_at c k).guard 0) q.1) (guard-zero (row_at c k).guard z))

      second : (has c.outs (row_at c k).action && eqb (row_at c k).guard 0) ≡ true → AgainstB (auto_of c) (guard_set (row_at c k).guard) (row_at c k).action
      second p =
          let q = and-true (has c.outs (row_at c k).action) (eqb (row_at c k).guard 0) p in
          let o = out-calm (row_at c k).action q.0 in
          (o.0, o.1, λ x z. only-some x (sym z ∙ ap guard_set (eqb-true (row_at c k).guard 0 q.1)))

  pub broken-guard : (k : ℕ) → Broken10 c k → bad_guard c k ≡ true
  unfolding bad_guard
  broken-guard k b = go b.against
    where
      go : AgainstA (auto_of c) (guard_set (row_at c k).guard) (row_at c k).action ⊎ AgainstB (auto_of c) (guard_set (row_at c k).guard) (row_at c k).action
          → ((has (unclocked c) (row_at c k).action && not (eqb (row_at c k).guard 0)) || (has c.outs (row_at c k).action && eqb (row_at c k).guard
          0)) ≡ true
      go (inl p) = simp (p.0, ne_eqb (row_at c k).guard 0 (λ z. p.1 (ap guard_set z)))
      go (inr p) = elim (ℕ_discrete (row_at c k).guard 0) [
        | yes z ↦ or_right (has (unclocked c) (row_at c k).action && not (eqb (row_at c k).guard 0))
            (has c.outs (row_at c k).action && eqb (row_at c k).guard 0) (simp (
              calm-out (row_at c k).action p.0 p.1,
              eq-eqb (row_at c k).guard 0 z,
            ))
        | no ne ↦ let x = guard-some (row_at c k).guard ne in absurd (p.2 x.0 x.1)
      ]

  -- ---- the search
  pub check10-exactly : (check10 c ≡ none) ↔ CondA (auto_of c) × CondB (auto_of c)
  unfolding check10
  check10-exactly = (
    λ e. (
      record {
        unguarded = λ l h. elim (ℕ_discrete (row_at c l.place).guard 0) [
          | yes z ↦ sym l.guard ∙ ap guard_set z
          | no ne ↦ absurd (sound e l.place (record
              { inside = l.inside; against = inl (rw l.action h, λ z. ne (guard-zero (row_at c l.place).guard z)) }))
        ];
      },
      record {
        guarded = λ l h n. elim (ℕ_discrete (row_at c l.place).guard 0) [
          | yes z ↦ absurd (sound e l.place (record {
            inside = l.inside;
            against = inr (
              rw l.action h,
              (λ u. n (rw l.action at u)),
              λ x y. only-some x (sym y ∙ ap guard_set z),
            );
          }))
          | no ne ↦ let x = guard-some (row_at c l.place).guard ne in (x.0, sym l.guard ∙ x.1)
        ];
      },
    ),
    λ p. none-least (bad_guard c) (length c.rows) (λ k h. not_so (bad_guard c k) (λ e. refute p.0 p.1 k (guard-broken k h e))),
  )
    where
      sound : check10 c ≡ none → (k : ℕ) → Broken10 c k → ⊥
      sound e k b = true≢false (sym (broken-guard k b) ∙ least-none (bad_guard c) (length c.rows) e k b.inside)

      refute : CondA (auto_of c) → CondB (auto_of c) → (k : ℕ) → Broken10 c k → ⊥
      refute ca cb k b = ⊎_elim (λ p. p.1 (ca.unguarded (leads-at c k b.inside) p.0))
          (λ p. let x = cb.guarded (leads-at c k b.inside) p.0 p.1 in p.2 x.0 x.1) b.against
