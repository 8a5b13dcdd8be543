-- The rows of a table passed one after the other.
use mathlib.Core.Path.{◌≡◌, refl, sym, ◌∙◌, ap}
use mathlib.Core.Logic.{by_cases}
use mathlib.Core.Bool.{Bool, false, ◌||◌, ◌&&◌}
use mathlib.Core.List.{List, []}
use Prim.Native.Nat.{ℕ, ◌+◌, ◌≤◌, ◌<◌}
use native.Mathlib.Decide.{ℕ_discrete}
use native.Mathlib.Omega.{arith}
use lib.ListN.{length, get_or}
use Rattle.marks.specs.Marks.{rows_of_marks, mark_at, Joined, Passed}

-- the rows below a are joined with via where they have a mark at k, the others are as they were
pub record Passing (k : ℕ) (via : List Bool) (old : List (List Bool)) (a : ℕ) (m : List (List Bool)) : Type 0 where
  pub below : a ≤ rows_of_marks
  pub rows : length m ≡ rows_of_marks
  pub done : (i b : ℕ) → i < a → b < rows_of_marks → mark_at m i b ≡ (mark_at old i b || (mark_at old i k && get_or via b false))
  pub rest : (i : ℕ) → a ≤ i → get_or m i [] ≡ get_or old i []

module _ (k : ℕ) (via : List Bool) (old : List (List Bool)) where
  pub passing-none : length old ≡ rows_of_marks → Passing k via old 0 old
  passing-none c = record { below = omega arith; rows = c; done = λ i b h l. absurd (omega arith); rest = λ i h. refl }

  module _ (a : ℕ) (m : List (List Bool)) (w : Passing k via old a m) where
    pub passing-more : a < rows_of_marks → (n : List (List Bool)) → Joined a k via m n → Passing k via old (a + 1) n
    passing-more h n j = record {
      below = omega arith;
      rows = j.rows;
      done = λ i b g l. by_cases (ℕ_discrete i a) (here b l) (λ q. ap (λ r. get_or r b false) (j.others i q) ∙ w.done i b (omega arith) l);
      rest = λ i g. j.others i (λ q. omega arith) ∙ w.rest i (omega arith);
    }
      where
        here : (b : ℕ) → b < rows_of_marks → {i : ℕ} → i ≡ a → mark_at n i b ≡ (mark_at old i b || (mark_at old i k && get_or via b false))
        here b l {i} q =
            ap (λ x. mark_at n x b) q ∙ j.here b l ∙ ap (λ r. get_or r b false || (get_or r k false && get_or via b false)) (w.rest a (omega arith))
            ∙ sym (ap (λ x. mark_at old x b || (mark_at old x k && get_or via b false)) q)

    pub passing-all : via ≡ get_or old k [] → rows_of_marks ≤ a → Passed k old m
    passing-all e h = record {
      rows = w.rows;
      marks = λ i b g l. w.done i b (omega arith) l
          ∙ ap (λ v. mark_at old i b || (mark_at old i k && get_or v b false)) e;
    }
