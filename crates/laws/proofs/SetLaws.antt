-- Laws of sets as numbers: the digits of the operations, their members, and equality by members.
use mathlib.Core.Path.{◌≡◌, refl, sym, ◌∙◌, ap, ap₂}
use mathlib.Core.Logic.{◌≢◌, ◌⊎◌, inl, inr, ⊎_elim, by_cases}
use mathlib.Core.Bool.{Bool, true, false, ◌&&◌, ◌||◌, not, true≢false, false≢true}
use Prim.Native.Nat.{ℕ, zero, suc, ◌+◌, ◌-◌, ◌/◌, ◌%◌, ◌^◌, ◌≤◌, ◌<◌, min, max}
use native.Mathlib.Omega.{arith}
use native.Mathlib.Nat.{div-one, div-div-eq-div-mul, div-eq_of_lt, div_self, mul-div_cancel, mul-mod_left, mod-eq_of_lt, pow-suc}
use native.Mathlib.Nat.{lt_of_lt_of_le, pow-succ', le-max_left, le-max_right}
use lib.Arith.{half_le}
use lib.Pow.{pow_mono, pow-lt, pow_pos, pow-add}
use native.Mathlib.Decide.{dec_lt, ℕ_discrete}
use lib.Bits.{bit_and, bit_or, bit_xor, differ, and_step, or_step, xor_step, or_shr, and_shr, xor_shr, or_comm, and_comm}
use lib.Bits.{and_mask, and_le_l, and_le_r, or_add_and}
use lib.Dec.{eqb}
use borrow.Author.Tests.{eqb-true, eq-eqb, not-true}
use Rattle.laws.proofs.TestLaws.{not_so, or-false, and-true}
use Rattle.laws.specs.Sets.{bit, has, ◌∖◌ as without, within, ◌∈◌, ◌⊆◌, Apart}

-- ---- the digits of the operations
or-odd : (a b : ℕ) → bit_or a b % 2 ≡ max (a % 2) (b % 2)
or-odd a b = omega (arith, or_step a b)

and-odd : (a b : ℕ) → bit_and a b % 2 ≡ min (a % 2) (b % 2)
and-odd a b = omega (arith, and_step a b)

differ-eq : (x y : ℕ) → differ x y ≡ max x y - min x y
differ-eq zero y = omega arith
differ-eq (suc x) zero = omega arith
differ-eq (suc x) (suc y) = omega (arith, differ-eq x y)

xor-odd : (a b : ℕ) → bit_xor a b % 2 ≡ max (a % 2) (b % 2) - min (a % 2) (b % 2)
xor-odd a b = omega (arith, xor_step a b, differ-eq (a % 2) (b % 2))

pub bit-or : (a b x : ℕ) → bit (bit_or a b) x ≡ max (bit a x) (bit b x)
bit-or a b x = ap (λ n. n % 2) (or_shr a b x) ∙ or-odd (a / 2 ^ x) (b / 2 ^ x)

pub bit-and : (a b x : ℕ) → bit (bit_and a b) x ≡ min (bit a x) (bit b x)
bit-and a b x = ap (λ n. n % 2) (and_shr a b x) ∙ and-odd (a / 2 ^ x) (b / 2 ^ x)

pub bit-xor : (a b x : ℕ) → bit (bit_xor a b) x ≡ max (bit a x) (bit b x) - min (bit a x) (bit b x)
bit-xor a b x = ap (λ n. n % 2) (xor_shr a b x) ∙ xor-odd (a / 2 ^ x) (b / 2 ^ x)

pub bit-without : (a b x : ℕ) → bit (without a b) x ≡ bit a x - bit b x
bit-without a b x = simp (bit-and, bit-xor) (omega arith)

bit-suc : (a x : ℕ) → bit (a / 2) x ≡ bit a (suc x)
bit-suc a x = ap (λ n. n % 2) (div-div-eq-div-mul a 2 (2 ^ x) ∙ ap (λ n. a / n) (sym (pow-succ' 2 x)))

bit-zero : (a : ℕ) → bit a 0 ≡ a % 2
bit-zero a = ap (λ n. n % 2) (div-one a)

-- two sets with the same members are one number
pub bit-ext : (a b : ℕ) → ((x : ℕ) → bit a x ≡ bit b x) → a ≡ b
bit-ext a b h = go (max a b) a b (le-max_left a b) (le-max_right a b) h
  where
    go : (f a b : ℕ) → a ≤ f → b ≤ f → ((x : ℕ) → bit a x ≡ bit b x) → a ≡ b
    go zero a b p q h = omega arith
    go (suc f) a b p q h =
        let e : a / 2 ≡ b / 2 = go f (a / 2) (b / 2) (half_le p) (half_le q) (λ x. bit-suc a x ∙ h (suc x) ∙ sym (bit-suc b x)) in
        omega (arith, bit-zero a, bit-zero b, h 0)

pub or_assoc : (a b c : ℕ) → bit_or (bit_or a b) c ≡ bit_or a (bit_or b c)
or_assoc a b c = bit-ext _ _ (λ x. simp bit-or (omega arith))

-- a union that is empty
pub or-none : (a b : ℕ) → bit_or a b ≡ 0 → (a ≡ 0) × (b ≡ 0)
or-none a b e = (omega (arith, or_add_and a b, and_le_r a b), omega (arith, or_add_and a b, and_le_l a b))

-- ---- the members of the operations
two : (P : ℕ → ℕ → Type 0) → P 0 0 → P 0 1 → P 1 0 → P 1 1 → (p q : ℕ) → p < 2 → q < 2 → P p q
two P a b c d zero zero h k = a
two P a b c d zero (suc zero) h k = b
two P a b c d zero (suc (suc q)) h k = absurd (omega arith)
two P a b c d (suc zero) zero h k = c
two P a b c d (suc zero) (suc zero) h k = d
two P a b c d (suc zero) (suc (suc q)) h k = absurd (omega arith)
two P a b c d (suc (suc p)) q h k = absurd (omega arith)

pub has-or : (s t x : ℕ) → has (bit_or s t) x ≡ (has s x || has t x)
has-or s t x = rw bit-or (two (λ p q. eqb (max p q) 1 ≡ (eqb p 1 || eqb q 1)) refl refl refl refl (bit s x) (bit t x) (omega arith) (omega arith))

pub has-and : (s t x : ℕ) → has (bit_and s t) x ≡ (has s x && has t x)
has-and s t x = rw bit-and (two (λ p q. eqb (min p q) 1 ≡ (eqb p 1 && eqb q 1)) refl refl refl refl (bit s x) (bit t x) (omega arith) (omega arith))

pub has-without : (s t x : ℕ) → has (without s t) x ≡ (has s x && not (has t x))
has-without s t x = rw bit-without (two (λ p q. eqb (p - q) 1 ≡ (eqb p 1 && not (eqb q 1))) refl refl refl refl (bit s x) (bit t x) (omega arith) (omega arith))

pub has-ext : (s t : ℕ) → ((x : ℕ) → has s x ≡ has t x) → s ≡ t
has-ext s t h =
    bit-ext s t (λ x. two (λ p q. eqb p 1 ≡ eqb q 1 → p ≡ q) (λ e. refl) (λ e. absurd (false≢true e)) (λ e. absurd (true≢false e)) (λ e. refl)
    (bit s x) (bit t x) (omega arith) (omega arith) (h x))

pub or_cases : (a b : Bool) → (a || b) ≡ true → (a ≡ true) ⊎ (b ≡ true)
or_cases true b e = inl refl
or_cases false b e = inr e

pub or_left : (a b : Bool) → a ≡ true → (a || b) ≡ true
or_left a b e = rw e

pub or_right : (a b : Bool) → b ≡ true → (a || b) ≡ true
or_right true b e = refl
or_right false b e = e

pub in-or : (s t x : ℕ) → x ∈ bit_or s t → (x ∈ s) ⊎ (x ∈ t)
in-or s t x h = or_cases (has s x) (has t x) (sym (has-or s t x) ∙ h)

pub or-in-l : (s t x : ℕ) → x ∈ s → x ∈ bit_or s t
or-in-l s t x h = has-or s t x ∙ or_left (has s x) (has t x) h

pub or-in-r : (s t x : ℕ) → x ∈ t → x ∈ bit_or s t
or-in-r s t x h = has-or s t x ∙ or_right (has s x) (has t x) h

pub in-below : (k s x : ℕ) → s < 2 ^ k → x ∈ s → x < k
in-below k s x h e = by_cases (dec_lt x k) (λ p. p) (λ p.
    absurd (false≢true (sym (ap (λ n. eqb (n % 2) 1) (div-eq_of_lt (lt_of_lt_of_le h (pow_mono (not-lt p))))) ∙ e)))
  where
    not-lt : ¬ (x < k) → k ≤ x
    not-lt p = omega arith

-- the set of one member
pub bit-one-same : (x : ℕ) → bit (2 ^ x) x ≡ 1
bit-one-same x = ap (λ n. n % 2) (div_self (pow_pos x))

pub bit-one-other : (x y : ℕ) → x ≢ y → bit (2 ^ x) y ≡ 0
bit-one-other x y ne = by_cases (dec_lt x y)
    (λ p. ap (λ n. n % 2) (div-eq_of_lt (pow-lt p)))
    (λ p. high (x - suc y) (let q : y < x = omega arith in omega arith))
  where
    high : (d : ℕ) → x ≡ suc d + y → bit (2 ^ x) y ≡ 0
    high d e = rw (e, pow-add 2 (suc d) y, mul-div_cancel (2 ^ suc d) (pow_pos y), pow-suc 2 d) (mul-mod_left (2 ^ d) 2)

pub not-or : (s t x : ℕ) → has (bit_or s t) x ≡ false → (has s x ≡ false) × (has t x ≡ false)
not-or s t x e = or-false (has s x) (has t x) (sym (has-or s t x) ∙ e)

pub or-not : (s t x : ℕ) → has s x ≡ false → has t x ≡ false → has (bit_or s t) x ≡ false
or-not s t x p q = has-or s t x ∙ ap₂ ◌||◌ p q

pub in_and : (s t x : ℕ) → x ∈ bit_and s t → (x ∈ s) × (x ∈ t)
in_and s t x h = and-true (has s x) (has t x) (sym (has-and s t x) ∙ h)

pub and_in : (s t x : ℕ) → x ∈ s → x ∈ t → x ∈ bit_and s t
and_in s t x h k = has-and s t x ∙ ap₂ ◌&&◌ h k

pub in_without : (s t x : ℕ) → x ∈ without s t → (x ∈ s) × (has t x ≡ false)
in_without s t x h = let p = and-true (has s x) (not (has t x)) (sym (has-without s t x) ∙ h) in (p.0, not-true (has t x) p.1)

pub without_in : (s t x : ℕ) → x ∈ s → has t x ≡ false → x ∈ without s t
without_in s t x h k = has-without s t x ∙ ap₂ (λ a b. a && not b) h k

-- the test `within` decides `⊆`
pub within-true : (s t : ℕ) → within s t ≡ true → s ⊆ t
within-true s t e x h = (in_and s t x (rw (eqb-true (bit_and s t) s e) h)).1

pub true-within : (s t : ℕ) → s ⊆ t → within s t ≡ true
true-within s t f = eq-eqb (bit_and s t) s (has-ext (bit_and s t) s (λ x. has-and s t x ∙ same x (has s x) refl))
  where
    same : (x : ℕ) (b : Bool) → has s x ≡ b → (has s x && has t x) ≡ has s x
    same x true e = rw (e, f x e)
    same x false e = rw e

-- a set within another is at most as great a number
pub subset-le : (s t : ℕ) → s ⊆ t → s ≤ t
subset-le s t f = omega (arith, eqb-true (bit_and s t) s (true-within s t f), and_comm s t, and_le_l t s)

-- the members of a set of one
pub in_one : (x : ℕ) → x ∈ 2 ^ x
in_one x = ap (λ n. eqb n 1) (bit-one-same x)

pub one_in : (x y : ℕ) → y ∈ 2 ^ x → y ≡ x
one_in x y h = by_cases (ℕ_discrete y x) (λ e. e) (λ ne. absurd (false≢true (sym (ap (λ n. eqb n 1) (bit-one-other x y (λ e. ne (sym e)))) ∙ h)))

pub none_in : (x : ℕ) → x ∈ 0 → ⊥
none_in x h = omega (arith, in-below 0 0 x (omega arith) h)

-- ---- words of k bits: all ones, and nothing above
pub bit-ones : (k x : ℕ) → x < k → bit (2 ^ k - 1) x ≡ 1
bit-ones k x h =
    let e : bit_and (2 ^ x) (2 ^ k - 1) ≡ 2 ^ x = and_mask (2 ^ x) k ∙ mod-eq_of_lt (pow-lt h) in
    omega (arith, bit-and (2 ^ x) (2 ^ k - 1) x, ap (λ n. bit n x) e, bit-one-same x)

pub bit-above : (k s x : ℕ) → s < 2 ^ k → k ≤ x → bit s x ≡ 0
bit-above k s x h p = ap (λ n. n % 2) (div-eq_of_lt (lt_of_lt_of_le h (pow_mono p)))

-- ---- sets by their members
pub same-members : (s t : ℕ) → s ⊆ t → t ⊆ s → s ≡ t
same-members s t f g = omega (arith, subset-le s t f, subset-le t s g)

pub without-lt : (k s t : ℕ) → s < 2 ^ k → without s t < 2 ^ k
without-lt k s t h = omega (arith, and_le_l s (bit_xor s t))

-- ---- sets regrouped
pub or-regroup : (a b c d : ℕ) → bit_or (bit_or a b) (bit_or c d) ≡ bit_or (bit_or a c) (bit_or b d)
or-regroup a b c d =
    or_assoc a b (bit_or c d) ∙ ap (bit_or a) (sym (or_assoc b c d) ∙ ap (λ n. bit_or n d) (or_comm b c) ∙ or_assoc c b d)
    ∙ sym (or_assoc a c (bit_or b d))

pub without-or : (s t : ℕ) → bit_or (without s t) t ≡ bit_or s t
without-or s t = has-ext (bit_or (without s t) t) (bit_or s t) (λ x. simp (has-or, has-without) (go (has s x) (has t x)))
  where
    go : (a b : Bool) → ((a && not b) || b) ≡ (a || b)
    go true true = refl
    go true false = refl
    go false b = refl

-- what is taken off two parts that have nothing in common may be taken off at once
pub without-regroup : (s t u v : ℕ) → Apart (bit_or s t) (bit_or u v) → bit_or (without s t) (without u v) ≡ without (bit_or s u) (bit_or t v)
without-regroup s t u v h = same-members (bit_or (without s t) (without u v)) (without (bit_or s u) (bit_or t v)) to from
  where
    to : bit_or (without s t) (without u v) ⊆ without (bit_or s u) (bit_or t v)
    to x m = ⊎_elim
        (λ l. let p = in_without s t x l in without_in (bit_or s u) (bit_or t v) x (or-in-l s u x p.0)
        (or-not t v x p.1 (not_so (has v x) (λ k. h x (or-in-l s t x p.0) (or-in-r u v x k)))))
        (λ l. let p = in_without u v x l in without_in (bit_or s u) (bit_or t v) x (or-in-r s u x p.0)
        (or-not t v x (not_so (has t x) (λ k. h x (or-in-r s t x k) (or-in-l u v x p.0))) p.1))
        (in-or (without s t) (without u v) x m)

    from : without (bit_or s u) (bit_or t v) ⊆ bit_or (without s t) (without u v)
    from x m =
        let p = in_without (bit_or s u) (bit_or t v) x m in
        let n = not-or t v x p.1 in
        ⊎_elim
        (λ l. or-in-l (without s t) (without u v) x (without_in s t x l n.0))
        (λ l. or-in-r (without s t) (without u v) x (without_in u v x l n.1))
        (in-or s u x p.0)
