-- The tests of a row, as the code makes them: a guard by one member, and the order of two rows number by number.
use mathlib.Core.Path.{◌≡◌, refl, sym, ◌∙◌, ap}
use mathlib.Core.Bool.{Bool, true, false, true≢false}
use mathlib.Core.List.{List, [], ◌∷◌}
use Prim.Native.Nat.{ℕ, zero, suc, ◌+◌, ◌-◌, ◌^◌, ◌≤◌, ◌<◌}
use native.Mathlib.Numerals.{add-one}
use native.Mathlib.Omega.{arith}
use lib.Dec.{eqb, ltb}
use Rattle.laws.specs.Sets.{has, within, only}
use Rattle.laws.proofs.SetLaws.{bit-above, one_in, in_one, none_in, within-true, true-within}
use Rattle.laws.proofs.TestLaws.{not_so}
use Rattle.sets.specs.Members.{word_bits}
use Rattle.model.specs.Model.{guard_set}
use Rattle.model.specs.WellFormed.{lower, before}
use Rattle.iosa.proofs.Acceptance.Order.{lower-same, lower-here, lower_last}
use Rattle.layout.specs.Layout.{action_at, guard_at, resets_at, target_at}
use Rattle.table.specs.Rows.{climbs}

-- a machine's word has no member at 64 or above
pub has-beyond : (s x : ℕ) → s < 2 ^ word_bits → word_bits ≤ x → has s x ≡ false
has-beyond s x h p = ap (λ n. eqb n 1) (bit-above word_bits s x h p)

-- ---- a guard
pub within-one : (x s : ℕ) → within (only x) s ≡ has s x
within-one x s = go (has s x) refl
  where
    go : (b : Bool) → has s x ≡ b → within (only x) s ≡ has s x
    go true e = true-within (only x) s (λ y m. rw (one_in x y m) e) ∙ sym e
    go false e = not_so (within (only x) s) (λ f. true≢false (sym (within-true (only x) s f x (in_one x)) ∙ e)) ∙ sym e

pub guard_none : (g s : ℕ) → g ≡ 0 → within (guard_set g) s ≡ true
guard_none g s e = rw e (true-within 0 s (λ x m. absurd (none_in x m)))

pub guard-one : (g s : ℕ) → 0 < g → within (guard_set g) s ≡ has s (g - 1)
guard-one zero s h = absurd (omega arith)
guard-one (suc x) s h = let e : suc x - 1 ≡ x = omega arith in rw e (within-one x s)

-- ---- the order of rows
-- actions a, b, guards g, h, resets x, y, targets d, e
module _ (a b g h x y d e : ℕ) where
  abbrev key : Bool
  key = lower (a ∷ g ∷ x ∷ d ∷ []) (b ∷ h ∷ y ∷ e ∷ [])

  pub by-action : (a ≡ b → ⊥) → ltb a b ≡ key
  by-action n = sym (lower-here a b (g ∷ x ∷ d ∷ []) (h ∷ y ∷ e ∷ []) n)

  pub by-guard : a ≡ b → (g ≡ h → ⊥) → ltb g h ≡ key
  by-guard p n = sym (lower-same a b (g ∷ x ∷ d ∷ []) (h ∷ y ∷ e ∷ []) p ∙ lower-here g h (x ∷ d ∷ []) (y ∷ e ∷ []) n)

  pub by-resets : a ≡ b → g ≡ h → (x ≡ y → ⊥) → ltb x y ≡ key
  by-resets p q n =
      sym (lower-same a b (g ∷ x ∷ d ∷ []) (h ∷ y ∷ e ∷ []) p ∙ lower-same g h (x ∷ d ∷ []) (y ∷ e ∷ []) q ∙ lower-here x y (d ∷ []) (e ∷ []) n)

  pub by-target : a ≡ b → g ≡ h → x ≡ y → ltb d e ≡ key
  by-target p q r =
      sym (lower-same a b (g ∷ x ∷ d ∷ []) (h ∷ y ∷ e ∷ []) p ∙ lower-same g h (x ∷ d ∷ []) (y ∷ e ∷ []) q ∙ lower-same x y (d ∷ []) (e ∷ []) r
      ∙ lower_last d e)

-- two rows that leave one state
pub climbs-is : (t : List ℕ) (s r : ℕ) → lower (action_at t r ∷ guard_at t r ∷ resets_at t r ∷ target_at t r ∷ [])
    (action_at t (r + 1) ∷ guard_at t (r + 1) ∷ resets_at t (r + 1) ∷ target_at t (r + 1) ∷ []) ≡ climbs t s r
unfolding climbs before
climbs-is t s r =
    rw add-one (sym (lower-same s s (action_at t r ∷ guard_at t r ∷ resets_at t r ∷ target_at t r ∷ [])
    (action_at t (suc r) ∷ guard_at t (suc r) ∷ resets_at t (suc r) ∷ target_at t (suc r) ∷ []) refl))
