-- No round's line is wider than its buffer.
use mathlib.Core.Path.{ap}
use mathlib.Core.Bool.{Bool, true, false}
use mathlib.Core.List.{List, [], ◌∷◌, ◌++◌}
use Prim.Native.Nat.{ℕ, zero, suc, ◌+◌, ◌*◌, ◌/◌, ◌%◌, ◌≤◌}
use native.Mathlib.Omega.{arith}
use lib.Dec.{ltb}
use lib.ListN.{length, length-append}
use Rattle.answer.specs.Limits.{max_components}
use Rattle.model.specs.Text.{byte0, tab, lf, comma, digits_of, decimal, joined, guard_field, set_field}
use Rattle.model.proofs.Reading.Joined.{joined-none, joined-one, joined-more}
use Rattle.measure.proofs.Fields.{width-most, guard-most, set-most}
use Rattle.roundlines.specs.Lines.{long_digits, long, fired_of, stood_of, round_line}
use Rattle.roundlines.proofs.RoundLaws.{fired-parts, stood-parts, round-parts}
use Rattle.lining.specs.Settled.{line_bytes}

digits-most : (k n : ℕ) → length (digits_of k n) ≤ k
unfolding digits_of
digits-most zero n = omega arith
digits-most (suc k) n = go (ltb n 10) (digits_of k (n / 10)) (digits-most k (n / 10))
  where
    go : (b : Bool) (ds : List ℕ) → length ds ≤ k
        → length {A = ℕ} (elim b as (λ _. List ℕ) [ true ↦ (byte0 + n) ∷ [] | false ↦ ds ++ (byte0 + n % 10) ∷ [] ]) ≤ suc k
    go true ds h = omega arith
    go false ds h = omega (arith, h, length-append ds ((byte0 + n % 10) ∷ []))

pub long-most : (n : ℕ) → length (long n) ≤ long_digits
unfolding long
long-most n = digits-most long_digits n

-- at most five digits and a comma for each number
pub joined-most : (ns : List ℕ) → length (joined ns) ≤ 6 * length ns
joined-most [] = rw joined-none (omega arith)
joined-most (n ∷ []) = rw (joined-one n) (omega (arith, length-append (decimal n) [], width-most n))
joined-most (n ∷ m ∷ ns) = rw (joined-more n m ns) (omega (arith, length-append (decimal n) (comma ∷ joined (m ∷ ns)), width-most n, joined-most (m ∷ ns)))

fired-most : (k v g : ℕ) → length (fired_of k v g) ≤ 5 + (1 + long_digits) + (1 + 5)
fired-most k v g =
    omega (
      arith,
      ap length (fired-parts k v g),
      length-append (decimal k) ((tab ∷ []) ++ (long v ++ ((tab ∷ []) ++ guard_field g))),
      length-append (long v) ((tab ∷ []) ++ guard_field g),
      width-most k,
      long-most v,
      guard-most g,
    )

stood-most : (s : List ℕ) (w : ℕ) → length s ≤ max_components → length (stood_of s w) ≤ 1 + 6 * max_components + (1 + length (set_field w)) + 1
stood-most s w few =
    omega (
      arith,
      few,
      ap length (stood-parts s w),
      length-append (joined s) ((tab ∷ []) ++ (set_field w ++ (lf ∷ []))),
      length-append (set_field w) (lf ∷ []),
      joined-most s,
    )

pub round-most : (k v g : ℕ) (s : List ℕ) (w : ℕ) → length s ≤ max_components → length (round_line k v g s w) ≤ line_bytes
round-most k v g s w few =
    omega (arith, ap length (round-parts k v g s w), length-append (fired_of k v g) (stood_of s w), fired-most k v g, stood-most s w few, set-most w)
