-- What grows by one place: a set by one member, its members below a place, and lists over a range of places.
use mathlib.Core.Path.{◌≡◌, refl, sym, ◌∙◌, ap, ap₂}
use mathlib.Core.Logic.{by_cases}
use mathlib.Core.Bool.{Bool, true, false, ◌||◌, false≢true}
use mathlib.Core.List.{List, [], ◌++◌, append-nil, append_assoc}
use Prim.Native.Nat.{ℕ, zero, suc, ◌+◌, ◌*◌, ◌%◌, ◌^◌, ◌≤◌, ◌<◌}
use native.Mathlib.Omega.{arith}
use native.Mathlib.Decide.{ℕ_discrete}
use native.Mathlib.Nat.{mod-lt}
use lib.Bits.{bit_or, or_shifted_r}
use lib.Pow.{pow_pos, mod-pow-add}
use borrow.Author.Tests.{eqb-true, eqb-false}
use Rattle.laws.specs.Sets.{bit, has, ◌∪◌, only, ◌∈◌, ◌⊆◌, Apart}
use Rattle.laws.specs.Fold.{spread}
use Rattle.laws.proofs.SetLaws.{bit-or, bit-ext, has-or, or-in-r, in_one, one_in}
use Rattle.laws.proofs.TestLaws.{not_so}

-- ---- one member more
pub added-here : (s a : ℕ) → a ∈ s ∪ only a
added-here s a = or-in-r s (only a) a (in_one a)

pub added-there : (s a x : ℕ) → (x ≡ a → ⊥) → has (s ∪ only a) x ≡ has s x
added-there s a x ne = has-or s (only a) x ∙ rw (not_so (has (only a) x) (λ e. ne (one_in a x e))) (or_no (has s x))
  where
    or_no : (b : Bool) → (b || false) ≡ b
    or_no true = refl
    or_no false = refl

pub added-within : (s t a : ℕ) → s ⊆ t → a ∈ t → s ∪ only a ⊆ t
added-within s t a f h x p = by_cases (ℕ_discrete x a) (λ e. rw e h) (λ ne. f x (sym (added-there s a x ne) ∙ p))

pub added-apart : (s t a : ℕ) → Apart s t → has t a ≡ false → Apart (s ∪ only a) t
added-apart s t a f h x p q = by_cases (ℕ_discrete x a) (λ e. absurd (false≢true (sym (ap (has t) e ∙ h) ∙ q))) (λ ne. f x (sym (added-there s a x ne) ∙ p) q)

pub apart-flip : (s t : ℕ) → Apart s t → Apart t s
apart-flip s t f x p q = f x q p

-- a set joined last may be joined before
pub or-past : (s t u : ℕ) → s ∪ u ∪ t ≡ s ∪ t ∪ u
or-past s t u = bit-ext (s ∪ u ∪ t) (s ∪ t ∪ u) (λ x. simp bit-or (omega arith))

-- ---- the members below a place
below-digit : (s a : ℕ) → s % 2 ^ suc a ≡ bit s a * 2 ^ a + s % 2 ^ a
below-digit s a = ap (λ n. s % 2 ^ n) (let e : suc a ≡ 1 + a = omega arith in e) ∙ mod-pow-add s 1 a

pub below-zero : (s : ℕ) → s % 2 ^ 0 ≡ 0
below-zero s = omega arith

pub below_in : (s a : ℕ) → a ∈ s → s % 2 ^ suc a ≡ (s % 2 ^ a) ∪ only a
below_in s a h =
    below-digit s a
    ∙ rw (eqb-true (bit s a) 1 h) (sym (or_shifted_r 1 a (s % 2 ^ a) (mod-lt s (pow_pos a))))
    ∙ ap (λ n. bit_or (s % 2 ^ a) n) (let e : 1 * 2 ^ a ≡ 2 ^ a = omega arith in e)

pub below_out : (s a : ℕ) → has s a ≡ false → s % 2 ^ suc a ≡ s % 2 ^ a
below_out s a h = let ne = eqb-false (bit s a) 1 h in let z : bit s a ≡ 0 = omega arith in below-digit s a ∙ rw z (omega arith)

-- ---- lists over a range of places
module _ {A : Type 0} where
  pub spread_none : (f : ℕ → List A) (k n : ℕ) → ((j : ℕ) → k ≤ j → f j ≡ []) → spread f k n ≡ []
  spread_none f k zero h = refl
  spread_none f k (suc n) h = ap₂ {C = List A} (λ x y. x ++ y) (h k (omega arith)) (spread_none f (suc k) n (λ j p. h j (omega arith)))

  pub spread_same : (f g : ℕ → List A) (k n : ℕ) → ((j : ℕ) → f j ≡ g j) → spread f k n ≡ spread g k n
  spread_same f g k zero h = refl
  spread_same f g k (suc n) h = ap₂ {C = List A} (λ x y. x ++ y) (h k) (spread_same f g (suc k) n h)

  -- a list l at the place a, above which and at which f has nothing: it comes last
  pub spread-added : (f g : ℕ → List A) (l : List A) (a k n : ℕ) → k ≤ a → a < k + n → ((j : ℕ) → a ≤ j → f j ≡ []) → g a ≡ l
      → ((j : ℕ) → (j ≡ a → ⊥) → g j ≡ f j)
      → spread g k n ≡ spread f k n ++ l
  spread-added f g l a k zero p q none here there = absurd (omega arith)
  spread-added f g l a k (suc n) p q none here there = by_cases (ℕ_discrete k a)
      (λ e. ap₂ {C = List A} (λ x y. x ++ y) (ap g e ∙ here) (spread_none g (suc k) n (λ j h. there j (omega arith) ∙ none j (omega arith)))
      ∙ append-nil l ∙ sym (ap (λ (x : List A). x ++ l) (spread_none f k (suc n) (λ j h. none j (omega arith)))))
      (λ e. ap₂ {C = List A} (λ x y. x ++ y) (there k e) (spread-added f g l a (suc k) n (omega arith) (omega arith) none here there)
      ∙ sym (append_assoc (f k) (spread f (suc k) n) l))
