-- The lengths of the text's fields (01, "The model text").
use mathlib.Core.Path.{◌≡◌, refl, sym, ◌∙◌, ap}
use mathlib.Core.Bool.{Bool, true, false, cond}
use mathlib.Core.List.{List, [], ◌∷◌}
use Prim.Native.Nat.{ℕ, zero, suc, ◌+◌, ◌*◌, ◌-◌, ◌/◌, ◌^◌, ◌≤◌, ◌<◌}
use native.Mathlib.Omega.{arith}
use native.Mathlib.Nat.{mul-le-mul_right, div-lt_iff_lt-mul, pow-suc}
use native.Mathlib.Decide.{dec_lt, ℕ_discrete}
use mathlib.Core.Logic.{by_cases}
use lib.ListN.{length, length-append}
use lib.Bits.{bit_and}
use lib.Dec.{ltb, eqb}
use borrow.Author.Tests.{ltb-true, ltb-false, lt-ltb, le-ltb}
use Rattle.laws.specs.Sets.{has}
use Rattle.laws.specs.Fold.{tab, sum}
use Rattle.laws.proofs.SetLaws.{bit-ones, bit-above, has-and, has-ext}
use Rattle.laws.proofs.TabLaws.{tab-same, sum-add, sum-le, sum-scale, sum-at-most}
use Rattle.answer.specs.Limits.{max_digits, max_clocks}
use Rattle.model.proofs.Reading.Joined.{joined-one, joined-more}
use Rattle.model.specs.Text.{digits_of, decimal, joined, members, guard_field, set_field, comma}
use Rattle.sets.specs.Members.{word_bits, size_of}
use Rattle.measure.specs.Measure.{most_beside, set_bytes, per_member}

-- ---- a number
one-digit : (k n : ℕ) → n < 10 → length (digits_of (suc k) n) ≡ 1
unfolding digits_of
one-digit k n h = rw (lt-ltb n 10 h, digits_of)

digit-more : (k n : ℕ) → 10 ≤ n → length (digits_of (suc k) n) ≡ suc (length (digits_of k (n / 10)))
unfolding digits_of
digit-more k n h = rw (le-ltb n 10 h, digits_of) (length-append (digits_of k (n / 10)) _ ∙ omega arith)

last-digit : (n : ℕ) → length (digits_of 1 n) ≡ 1
unfolding digits_of
last-digit n = go (ltb n 10) refl
  where
    go : (b : Bool) → ltb n 10 ≡ b → length (digits_of 1 n) ≡ 1
    go true e = one-digit 0 n (ltb-true n 10 e)
    go false e = digit-more 0 n (ltb-false n 10 e)

pub width-1 : (n : ℕ) → n < 10 → length (decimal n) ≡ 1
unfolding decimal
width-1 n h = one-digit 4 n h

pub width-2 : (n : ℕ) → 10 ≤ n → n < 100 → length (decimal n) ≡ 2
unfolding decimal
width-2 n h k = digit-more 4 n h ∙ ap suc (one-digit 3 (n / 10) (omega arith))

pub width-3 : (n : ℕ) → 100 ≤ n → n < 1000 → length (decimal n) ≡ 3
unfolding decimal
width-3 n h k = digit-more 4 n (omega arith) ∙ ap suc (digit-more 3 (n / 10) (omega arith) ∙ ap suc (one-digit 2 (n / 10 / 10) (omega arith)))

pub width-4 : (n : ℕ) → 1000 ≤ n → n < 10000 → length (decimal n) ≡ 4
unfolding decimal
width-4 n h k =
    digit-more 4 n (omega arith) ∙ ap suc (digit-more 3 (n / 10) (omega arith)
    ∙ ap suc (digit-more 2 (n / 10 / 10) (omega arith) ∙ ap suc (one-digit 1 (n / 10 / 10 / 10) (omega arith))))

pub width-5 : (n : ℕ) → 10000 ≤ n → length (decimal n) ≡ 5
unfolding decimal
width-5 n h =
    digit-more 4 n (omega arith) ∙ ap suc (digit-more 3 (n / 10) (omega arith)
    ∙ ap suc (digit-more 2 (n / 10 / 10) (omega arith) ∙ ap suc (digit-more 1 (n / 10 / 10 / 10) (omega arith) ∙ ap suc (last-digit (n / 10 / 10 / 10 / 10)))))

pub width-most : (n : ℕ) → length (decimal n) ≤ max_digits
width-most n =
    by_cases (dec_lt n 10) (λ h. omega (arith, width-1 n h)) (λ a.
    by_cases (dec_lt n 100) (λ h. omega (arith, width-2 n (omega arith) h)) (λ b.
    by_cases (dec_lt n 1000) (λ h. omega (arith, width-3 n (omega arith) h)) (λ d.
    by_cases (dec_lt n 10000) (λ h. omega (arith, width-4 n (omega arith) h)) (λ e. omega (arith, width-5 n (omega arith))))))

-- a number below 10 ^ d has at most d digits
digits-below : (k d n : ℕ) → n < 10 ^ suc d → length (digits_of k n) ≤ suc d
unfolding digits_of
digits-below zero d n h = omega arith
digits-below (suc k) zero n h = omega (arith, one-digit k n h)
digits-below (suc k) (suc d) n h =
    by_cases (dec_lt n 10) (λ a. omega (arith, one-digit k n a)) (λ a.
    let tenth = (div-lt_iff_lt-mul {k = 10} {x = n} {y = 10 ^ suc d} (omega arith)).1 (rw pow-suc at h) in
    omega (arith, digit-more k n (omega arith), digits-below k d (n / 10) tenth))

pub width-below : (d n : ℕ) → n < 10 ^ suc d → length (decimal n) ≤ suc d
unfolding decimal
width-below d n h = digits-below max_digits d n h

-- ---- members, with e bytes beside each
-- the numbers of one digit, as a set
abbrev pub low : ℕ
low = 1023

low-in : (x : ℕ) → x < 10 → has low x ≡ true
low-in x h = ap (λ n. eqb n 1) (bit-ones 10 x h)

low-out : (x : ℕ) → 10 ≤ x → has low x ≡ false
low-out x h = ap (λ n. eqb n 1) (bit-above 10 low x (omega arith) h)

module _ (s e x : ℕ) (h : x < word_bits) where
  each_member : (b : Bool) → has s x ≡ b → cond b (e + length (decimal x)) 0 + cond (has (bit_and s low) x) 1 0 ≡ (e + 2) * cond b 1 0
  each_member true q =
      rw (has-and s low x, q) (by_cases (dec_lt x 10)
      (λ p. rw (low-in x p) (omega (arith, width-1 x p)))
      (λ p. let r : 10 ≤ x = omega arith in rw (low-out x r) (omega (arith, width-2 x r (omega arith)))))
  each_member false q = rw (has-and s low x, q) (omega arith)

pub members-sized : (s e : ℕ) → per_member s e + size_of (bit_and s low) ≡ (e + 2) * size_of s
unfolding per_member size_of
members-sized s e =
    sym (sum-add (λ x. cond (has s x) (e + length (decimal x)) 0) (λ x. cond (has (bit_and s low) x) 1 0) 0 word_bits)
    ∙ ap sum (tab-same (λ x. cond (has s x) (e + length (decimal x)) 0 + cond (has (bit_and s low) x) 1 0) (λ x. (e + 2) * cond (has s x) 1 0) 0
    word_bits (λ x p q. each_member s e x (omega arith) (has s x) refl))
    ∙ sum-scale (e + 2) (λ x. cond (has s x) 1 0) 0 word_bits

pub size-most : (s : ℕ) → size_of s ≤ word_bits
unfolding size_of
size-most s = omega (arith, sum-at-most (λ x. cond (has s x) 1 0) 1 0 word_bits (λ x p q. go (has s x)))
  where
    go : (b : Bool) → cond b 1 0 ≤ 1
    go true = omega arith
    go false = omega arith

-- as the machine counts: n members, m of them of one digit
module _ (s e n m : ℕ) (p : n ≡ size_of s) (q : m ≡ size_of (bit_and s low)) where
  pub counted-most : e ≤ most_beside → (e + 2) * n ≤ (most_beside + 2) * word_bits
  counted-most h = omega (arith, mul-le-mul_right n (let g : e + 2 ≤ most_beside + 2 = omega arith in g), size-most s)

  pub counted : m + per_member s e ≡ (e + 2) * n
  counted = omega (arith, members-sized s e, ap (λ k. (e + 2) * k) p)

pub members-most : (s e : ℕ) → per_member s e ≤ (e + max_digits) * word_bits
unfolding per_member
members-most s e = sum-at-most (λ x. cond (has s x) (e + length (decimal x)) 0) (e + max_digits) 0 word_bits (λ x p q. go x (has s x))
  where
    go : (x : ℕ) (b : Bool) → cond b (e + length (decimal x)) 0 ≤ e + max_digits
    go x true = omega (arith, width-most x)
    go x false = omega arith

-- ---- a set
-- a list's numbers, each with a comma
commas : List ℕ → ℕ
commas [] = 0
commas (n ∷ ns) = suc (length (decimal n)) + commas ns

joined-width : (n : ℕ) (ns : List ℕ) → suc (length (joined (n ∷ ns))) ≡ commas (n ∷ ns)
unfolding commas
joined-width n [] = rw joined-one (omega (arith, length-append (decimal n) []))
joined-width n (m ∷ ns) = rw joined-more (omega (arith, length-append (decimal n) (comma ∷ joined (m ∷ ns)), joined-width m ns))

members-commas : (s n k : ℕ) → commas (members s n k) ≡ sum (tab (λ x. cond (has s x) (1 + length (decimal x)) 0) k n)
unfolding commas members
members-commas s zero k = refl
members-commas s (suc n) k = go (has s k) (members-commas s n (suc k))
  where
    go : (b : Bool) → commas (members s n (suc k)) ≡ sum (tab (λ x. cond (has s x) (1 + length (decimal x)) 0) (suc k) n)
        → commas (cond b (k ∷ members s n (suc k)) (members s n (suc k))) ≡ cond b (1 + length (decimal k)) 0 + sum
        (tab (λ x. cond (has s x) (1 + length (decimal x)) 0) (suc k) n)
    go true e = omega (arith, e)
    go false e = omega (arith, e)

set-commas : (s : ℕ) → commas (members s max_clocks 0) ≡ per_member s 1
unfolding per_member
set-commas s = members-commas s max_clocks 0

no-members : (s n k : ℕ) → members s n k ≡ [] → (x : ℕ) → k ≤ x → x < k + n → has s x ≡ false
unfolding members
no-members s zero k e x p q = absurd (omega arith)
no-members s (suc n) k e x p q = go (no-members s n (suc k)) (has s k) refl e
  where
    go : (members s n (suc k) ≡ [] → (y : ℕ) → suc k ≤ y → y < suc k + n → has s y ≡ false) → (b : Bool) → has s k ≡ b
        → cond b (k ∷ members s n (suc k)) (members s n (suc k)) ≡ [] → has s x ≡ false
    go ih true h e = absurd (let z : ◌≡◌ {A = ℕ} 0 1 = cc in omega arith)
    go ih false h e = by_cases (ℕ_discrete x k) (λ w. ap (has s) w ∙ h) (λ w. ih e x (omega arith) (omega arith))

set-nonempty : (s : ℕ) → 0 < s → s < 2 ^ word_bits → members s max_clocks 0 ≡ [] → ⊥
set-nonempty s h k e =
    absurd (let z : s ≡ 0 = has-ext s 0 (λ x. by_cases (dec_lt x word_bits) (λ p. no-members s max_clocks 0 e x (omega arith) (omega arith)
    ∙ sym (none x)) (λ p. beyond x (omega arith) ∙ sym (none x))) in omega arith)
  where
    none : (x : ℕ) → has 0 x ≡ false
    none x = ap (λ n. eqb n 1) (bit-above 0 0 x (omega arith) (omega arith))

    beyond : (x : ℕ) → word_bits ≤ x → has s x ≡ false
    beyond x p = ap (λ n. eqb n 1) (bit-above word_bits s x k p)

-- a set that has members: each with a comma, but the first
pub set-width : (s : ℕ) → 0 < s → s < 2 ^ word_bits → suc (length (set_field s)) ≡ per_member s 1
unfolding set_field
set-width zero h k = absurd (omega arith)
set-width (suc s) h k = go (members (suc s) max_clocks 0) refl
  where
    go : (ns : List ℕ) → members (suc s) max_clocks 0 ≡ ns → suc (length (joined (members (suc s) max_clocks 0))) ≡ per_member (suc s) 1
    go [] e = absurd (set-nonempty (suc s) h k e)
    go (n ∷ ns) e = ap (λ l. suc (length (joined l))) e ∙ joined-width n ns ∙ ap commas (sym e) ∙ set-commas (suc s)

-- every clock and a comma behind it
every-clock : sum (tab (λ x. 1 + length (decimal x)) 0 word_bits) ≡ set_bytes + 1
unfolding decimal digits_of
every-clock = refl

set-widest : (s : ℕ) → per_member s 1 ≤ set_bytes + 1
unfolding per_member
set-widest s = rw every-clock at (sum-le (λ x. cond (has s x) (1 + length (decimal x)) 0) (λ x. 1 + length (decimal x)) 0 word_bits (λ x p q. go x (has s x)))
  where
    go : (x : ℕ) (b : Bool) → cond b (1 + length (decimal x)) 0 ≤ 1 + length (decimal x)
    go x true = omega arith
    go x false = omega arith

-- no set is longer than that of all clocks
pub set-most : (s : ℕ) → length (set_field s) ≤ set_bytes
unfolding set_field joined
set-most zero = omega arith
set-most (suc s) = go (members (suc s) max_clocks 0) (set-commas (suc s))
  where
    go : (ns : List ℕ) → commas ns ≡ per_member (suc s) 1 → length (joined ns) ≤ set_bytes
    go [] e = omega arith
    go (n ∷ ns) e = omega (arith, joined-width n ns, e, set-widest (suc s))

-- ---- a guard
pub guard-most : (g : ℕ) → length (guard_field g) ≤ max_digits
unfolding guard_field
guard-most zero = omega arith
guard-most (suc x) = width-most x

pub guard-clock : (g : ℕ) → 0 < g → length (decimal (g - 1)) ≡ length (guard_field g)
unfolding guard_field
guard-clock zero h = absurd (omega arith)
guard-clock (suc x) h = let e : suc x - 1 ≡ x = omega arith in rw e
