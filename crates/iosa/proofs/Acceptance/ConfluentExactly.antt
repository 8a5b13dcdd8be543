-- Confluent exactly: of an accepted model no 18 exactly if every component is confluent where it can get.
use mathlib.Core.Path.{◌≡◌, refl}
use mathlib.Core.Logic.{◌↔◌}
use mathlib.Core.Option.{Option, none, some}
use mathlib.Core.List.{List, [], ◌∷◌}
use Prim.Native.Nat.{ℕ, zero, suc, ◌<◌}
use native.Mathlib.Omega.{arith}
use lib.ListN.{length}
use Rattle.laws.proofs.SearchLaws.{no-some, or_else_none}
use Rattle.answer.specs.Told.{Told, tell}
use Rattle.model.specs.Model.{Model, comp_at}
use Rattle.model.specs.WellFormed.{WellFormed}
use Rattle.iosa.specs.Automaton.{AllConfluent}
use Rattle.iosa.specs.Checks.{check18, clash_among, accept_of, confluent_of}
use Rattle.iosa.proofs.Acceptance.Rows.{Single}
use Rattle.iosa.proofs.Acceptance.Check18.{check18-exactly}
use Rattle.iosa.proofs.Acceptance.Accepted.{accepted-exactly}

among_none : (i : ℕ) (m : Model) → clash_among i m ≡ none → (j : ℕ) → j < length m → check18 (comp_at m j) ≡ none
unfolding clash_among
among_none i [] e j h = absurd (omega arith)
among_none i (c ∷ cs) e j h = go (among_none (suc i) cs) (check18 c) refl e j h
  where
    go : (clash_among (suc i) cs ≡ none → (j : ℕ) → j < length cs → check18 (comp_at cs j) ≡ none) → (o : Option (List ℕ)) → check18 c ≡ o
        → ◌≡◌ {A = Option Told} (elim o as (λ p. Option Told) [ none ↦ clash_among (suc i) cs | some p ↦ some (tell 18 (i ∷ p)) ]) none
        → (j : ℕ) → j < suc (length cs) → check18 (comp_at (c ∷ cs) j) ≡ none
    go ih none f e zero h = f
    go ih none f e (suc j) h = ih e j (omega arith)
    go ih (some t) f e j h = absurd (no-some e refl)

none-among : (i : ℕ) (m : Model) → ((j : ℕ) → j < length m → check18 (comp_at m j) ≡ none) → clash_among i m ≡ none
unfolding clash_among
none-among i [] h = refl
none-among i (c ∷ cs) h = rw (h 0 (omega arith), clash_among) (none-among (suc i) cs (λ j k. h (suc j) (omega arith)))

module _ (m : Model) (w : WellFormed m) (ok : accept_of m ≡ none) where
  -- each component of an accepted model has at most one row for a state and an action without clock
  pub accepted-single : (i : ℕ) → i < length m → Single (comp_at m i)
  accepted-single i h = let k = ((accepted-exactly m w).0 ok).0.each i h in record { cond_a = k.cond_a; cond_e = k.cond_e }

  pub confluent-exactly : (confluent_of m ≡ none) ↔ AllConfluent m
  unfolding confluent_of
  confluent-exactly = (
    λ e. record {
      each =
          λ i h. (check18-exactly (comp_at m i) (accepted-single i h) (w.each i h)).0 (among_none 0 m (or_else_none (accept_of m) (clash_among 0 m) e).1 i
          h);
    },
    λ al. simp (ok, none-among 0 m (λ i h. (check18-exactly (comp_at m i) (accepted-single i h) (w.each i h)).1 (al.each i h))),
  )

-- what a model without refusal of 10 to 18 is
pub confluent-accepted : (m : Model) → confluent_of m ≡ none → accept_of m ≡ none
unfolding confluent_of
confluent-accepted m e = (or_else_none (accept_of m) (clash_among 0 m) e).0
