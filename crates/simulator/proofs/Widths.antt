-- No line that is printed is wider than its widest, and how it ended fits into the buffer.
use mathlib.Core.Path.{◌≡◌, ap}
use mathlib.Core.Bool.{Bool, true, false, cond}
use mathlib.Core.List.{List, [], ◌∷◌, ◌++◌}
use Prim.Native.Nat.{ℕ, zero, suc, ◌+◌, ◌*◌, ◌/◌, ◌%◌, ◌≤◌}
use native.Mathlib.Omega.{arith}
use lib.Dec.{ltb}
use lib.IntN.{ℤ, pos, nat_abs}
use lib.ListN.{length, length-append}
use lib.Signed.{lt_z}
use Rattle.laws.specs.Fold.{spread}
use Rattle.laws.specs.Sets.{has}
use Rattle.answer.specs.Limits.{max_components, max_clocks}
use Rattle.model.specs.Text.{byte0, tab, lf, comma, digits_of, decimal, joined}
use Rattle.model.proofs.Reading.Joined.{joined-none, joined-one, joined-more}
use Rattle.iosa.specs.TimedExactly.{value_of}
use Rattle.measure.proofs.Fields.{width-most}
use Rattle.steplines.specs.Run.{most_bytes}
use Rattle.roundlines.specs.Lines.{long_digits, long, signed, done_line, clock_with, clock_line, clock_part, clock_lines, ended_text}
use Rattle.roundlines.proofs.RoundLaws.{clock-parts, done-parts, ended-parts}

-- ---- fields
digits-most : (k n : ℕ) → length (digits_of k n) ≤ k
unfolding digits_of
digits-most zero n = omega arith
digits-most (suc k) n = go (ltb n 10) (digits_of k (n / 10)) (digits-most k (n / 10))
  where
    go : (b : Bool) (ds : List ℕ) → length ds ≤ k → length {A = ℕ} (elim b as (λ _. List ℕ) [ true ↦ (byte0 + n) ∷ [] | false ↦ ds ++ (byte0 + n % 10) ∷ [] ]) ≤ suc k
    go true ds h = omega arith
    go false ds h = omega (arith, h, length-append ds ((byte0 + n % 10) ∷ []))

pub long-most : (n : ℕ) → length (long n) ≤ long_digits
unfolding long
long-most n = digits-most long_digits n

signed-most : (b : Bool) (n : ℕ) → length (signed b n) ≤ 1 + long_digits
unfolding signed
signed-most true n = omega (arith, long-most n)
signed-most false n = omega (arith, long-most n)

-- at most five digits and a comma for each number
pub joined-most : (ns : List ℕ) → length (joined ns) ≤ 6 * length ns
joined-most [] = rw joined-none (omega arith)
joined-most (n ∷ []) = rw (joined-one n) (omega (arith, length-append (decimal n) [], width-most n))
joined-most (n ∷ m ∷ ns) = rw (joined-more n m ns) (omega (arith, length-append (decimal n) (comma ∷ joined (m ∷ ns)), width-most n, joined-most (m ∷ ns)))

-- ---- lines
-- `clock`, a number of five digits, a value of 20 and its sign, each behind a tab, and LF
abbrev clock_bytes : ℕ
clock_bytes = 5 + (1 + 5) + (1 + 1 + long_digits) + 1

clock-most : (x : ℕ) (v : List ℕ) → length v ≤ 1 + long_digits → length (clock_with x v) ≤ clock_bytes
clock-most x v h =
    omega (
      arith,
      h,
      ap length (clock-parts x v),
      length-append (decimal x) ((tab ∷ []) ++ (v ++ (lf ∷ []))),
      length-append v (lf ∷ []),
      width-most x,
    )

part-most : (d : ℕ) (vs : List ℤ) (x : ℕ) → length (clock_part d vs x) ≤ clock_bytes
unfolding clock_part
part-most d vs x = go (has d x)
  where
    go : (b : Bool) → length (cond b (clock_line x (value_of vs x)) []) ≤ clock_bytes
    go true = clock-most x (signed (lt_z (value_of vs x) (pos 0)) (nat_abs (value_of vs x))) (signed-most (lt_z (value_of vs x) (pos 0)) (nat_abs (value_of vs x)))
    go false = omega arith

parts-most : (f : ℕ → List ℕ) → ((x : ℕ) → length (f x) ≤ clock_bytes) → (k n : ℕ) → length (spread f k n) ≤ clock_bytes * n
parts-most f h k zero = omega arith
parts-most f h k (suc n) = omega (arith, length-append (f k) (spread f (suc k) n), h k, parts-most f h (suc k) n)

clocks-most : (d : ℕ) (vs : List ℤ) → length (clock_lines d vs) ≤ clock_bytes * max_clocks
unfolding clock_lines
clocks-most d vs = parts-most (clock_part d vs) (part-most d vs) 0 max_clocks

done-most : (k : ℕ) (s : List ℕ) → length s ≤ max_components → length (done_line k s) ≤ 4 + (1 + 5) + (1 + 6 * max_components) + 1
done-most k s few =
    omega (
      arith,
      few,
      ap length (done-parts k s),
      length-append (decimal k) ((tab ∷ []) ++ (joined s ++ (lf ∷ []))),
      length-append (joined s) (lf ∷ []),
      width-most k,
      joined-most s,
    )

pub ended-most : (k : ℕ) (s : List ℕ) (d : ℕ) (vs : List ℤ) → length s ≤ max_components → length (ended_text k s d vs) ≤ most_bytes
ended-most k s d vs few = omega (arith, ap length (ended-parts k s d vs), length-append (done_line k s) (clock_lines d vs), done-most k s few, clocks-most d vs)
