-- The machine's counts of digits are the lowest member and the number of members.
use mathlib.Core.Path.{◌≡◌, refl, sym, ◌∙◌, ap}
use mathlib.Core.Option.{Option, none, some}
use mathlib.Core.Bool.{cond, true≢false}
use Prim.Native.Nat.{ℕ, zero, suc, ◌+◌, ◌/◌, ◌%◌, ◌^◌, ◌<◌}
use native.Mathlib.Nat.{div-one}
use native.Mathlib.Numerals.{add-one}
use native.Mathlib.Omega.{arith}
use lib.Count.{ones, ones_step, under, count_trailing_zeros}
use lib.Dec.{eqb}
use lib.Pow.{shr-shr}
use Rattle.laws.specs.Sets.{has, ◌∈◌}
use Rattle.laws.specs.Search.{first_from, seek, when, least}
use Rattle.laws.specs.Fold.{tab, sum}
use Rattle.laws.proofs.SetLaws.{same-members, none_in}
use Rattle.laws.proofs.SearchLaws.{least-none}
use Rattle.sets.specs.Members.{word_bits, or_end, lowest_of, size_of}

half : (s j : ℕ) → s / 2 ^ j / 2 ≡ s / 2 ^ suc j
half s j = shr-shr s j 1 ∙ ap (λ k. s / 2 ^ k) (add-one j)

-- the search from digit j on, at a digit d, with the search from the next digit on in o
abbrev step : ℕ → ℕ → Option ℕ → Option ℕ
step d j o = elim (when (eqb d 1) j) as (λ p. Option ℕ) [ none ↦ o | some x ↦ some x ]

under-step : (d t j n : ℕ) (o : Option ℕ) → d < 2 → t + suc j ≡ or_end o n → under d t + j ≡ or_end (step d j o) n
under-step zero t j n o h e = omega arith
under-step (suc zero) t j n o h e = omega arith
under-step (suc (suc d)) t j n o h e = absurd (omega arith)

lowest-from : (s k j : ℕ) → count_trailing_zeros k (s / 2 ^ j) + j ≡ or_end (first_from (λ x. when (has s x) x) k j) (k + j)
unfolding count_trailing_zeros first_from
lowest-from s zero j = refl
lowest-from s (suc k) j =
    let e : count_trailing_zeros k (s / 2 ^ suc j) + suc j ≡ or_end (first_from (λ x. when (has s x) x) k (suc j)) (suc k + j) =
    lowest-from s k (suc j) ∙ ap (or_end (first_from (λ x. when (has s x) x) k (suc j))) (omega arith) in
    under-step (s / 2 ^ j % 2) (count_trailing_zeros k (s / 2 ^ j / 2)) j (suc k + j) (first_from (λ x. when (has s x) x) k (suc j)) (omega arith) (rw half e)

pub lowest-is : (s : ℕ) → count_trailing_zeros word_bits s ≡ lowest_of s
unfolding lowest_of seek
lowest-is s =
    let e : count_trailing_zeros word_bits (s / 1) + 0 ≡ or_end (first_from (λ x. when (has s x) x) word_bits 0) word_bits = lowest-from s word_bits 0 in
    omega (arith, ap (count_trailing_zeros word_bits) (div-one s))

digit : (d : ℕ) → d < 2 → d ≡ cond (eqb d 1) 1 0
digit zero h = refl
digit (suc zero) h = refl
digit (suc (suc d)) h = absurd (omega arith)

size-from : (s k j : ℕ) → s / 2 ^ j < 2 ^ k → ones (s / 2 ^ j) ≡ sum (tab (λ x. cond (has s x) 1 0) j k)
size-from s zero j h = let e : s / 2 ^ j ≡ 0 = omega arith in rw e (unfold ones in refl)
size-from s (suc k) j h =
    let e : s / 2 ^ suc j < 2 ^ k = rw (← half s j) (omega arith) in
    ones_step (s / 2 ^ j) ∙ omega (arith, digit (s / 2 ^ j % 2) (omega arith), ap ones (half s j), size-from s k (suc j) e)

pub size_is : (s : ℕ) → s < 2 ^ word_bits → ones s ≡ size_of s
unfolding size_of
size_is s h = ap ones (sym (div-one s)) ∙ size-from s word_bits 0 (rw div-one h)

-- the lowest member of a set that has one
pub lowest-found : (s : ℕ) → ((x : ℕ) → x ∈ s → x < word_bits) → (s ≡ 0 → ⊥) → least (has s) word_bits ≡ some (lowest_of s)
unfolding lowest_of
lowest-found s low ne = go (least (has s) word_bits) refl
  where
    nothing : least (has s) word_bits ≡ none → s ≡ 0
    nothing e = same-members s 0 (λ x h. absurd (true≢false (sym h ∙ least-none (has s) word_bits e x (low x h)))) (λ x h. absurd (none_in x h))

    go : (o : Option ℕ) → least (has s) word_bits ≡ o → o ≡ some (or_end o word_bits)
    go none e = absurd (ne (nothing e))
    go (some k) e = refl
