-- `print::put_set` meets its contract: what is put, and the members that are left, make the whole.
use mathlib.Core.Path.{◌≡◌, sym, ◌∙◌, ap}
use mathlib.Core.List.{List, ◌∷◌, ◌++◌}
use Prim.Native.Nat.{ℕ, ◌^◌, ◌<◌}
use native.Mathlib.Omega.{arith}
use lib.ListN.{length}
use Rattle.laws.specs.Sets.{only, ◌∖◌}
use Rattle.sets.specs.Members.{word_bits, lowest_of}
use Rattle.model.specs.Text.{comma, decimal, set_field}
use Rattle.print.specs.Put.{Room, Put}
use Rattle.print.proofs.LaidLaws.{Left, Next, left-all, left_as, left-room, left-next, left-none, left-last, left_is, last-room, put_as}
use Rattle.print.proofs.PrintLaws.{no-set, clocks_in, each, lowest-below, set-parts, each-parts, fewer, none_left}
use Rattle.print.proofs.put_set.Goals as goal

-- the set without a member that is its lowest
taken : (s x t u : ℕ) → x ≡ lowest_of s → t ≡ only x → u ≡ s ∖ t → u ≡ s ∖ only (lowest_of s)
taken s x t u p q r = r ∙ ap (λ w. s ∖ w) (q ∙ ap only p)

-- the first member, at the place where it is known
module _ (o : List ℕ) (at s x : ℕ) (r : Room o at (set_field s)) (some : s ≡ 0 → ⊥) (fits : s < 2 ^ word_bits) (lowest : x ≡ lowest_of s) where
  first : Next o at (set_field s) o at (decimal x) (each (clocks_in (s ∖ only (lowest_of s))))
  first = left_as (left-all _ _ _ r) _ _
      (set-parts s some fits ∙ ap (λ n. decimal n ++ each (clocks_in (s ∖ only (lowest_of s)))) (sym lowest))

  -- the other members, behind the first
  others : (t u : ℕ) → t ≡ only x → u ≡ s ∖ t → {o1 : List ℕ} {p1 : ℕ} → Put o at (decimal x) o1 p1
      → Left o at (set_field s) o1 p1 (each (clocks_in u))
  others t u e f p = left_is (left-next first p) _ (ap (λ u. each (clocks_in u)) (sym (taken s x t u lowest e f)))

-- a further member
module _ {o : List ℕ} {at : ℕ} {whole m : List ℕ} {here s : ℕ} (x : ℕ) (some : s ≡ 0 → ⊥) (fits : s < 2 ^ word_bits) (lowest : x ≡ lowest_of s)
    (l : Left o at whole m here (each (clocks_in s))) where
  further : Next o at whole m here (comma ∷ decimal x) (each (clocks_in (s ∖ only (lowest_of s))))
  further = left_as l _ _ (each-parts s some fits ∙ ap (λ n. (comma ∷ decimal n) ++ each (clocks_in (s ∖ only (lowest_of s)))) (sym lowest))

  after : (t u : ℕ) → t ≡ only x → u ≡ s ∖ t → {o1 : List ℕ} {p1 : ℕ} → Put m here (comma ∷ decimal x) o1 p1 → Left o at whole o1 p1 (each (clocks_in u))
  after t u e f p = rw (taken s x t u lowest e f) (left-next further p)

less-left : (s x t u : ℕ) → (s ≡ 0 → ⊥) → s < 2 ^ word_bits → x ≡ lowest_of s → t ≡ only x → u ≡ s ∖ t → u < s
less-left s x t u some fits p q r = omega (arith, taken s x t u p q r, fewer s some fits)

pub put_byte-requires : goal.put_byte-requires
put_byte-requires c = omega (arith, c.requires, ap length (no-set c.args.s c.if-s-eq0.true))

pub returns-then-s-eq0 : goal.returns-then-s-eq0
returns-then-s-eq0 c = put_as c.put_byte.ensures _ (sym (no-set c.args.s c.if-s-eq0.true))

pub put_decimal-next-requires : goal.put_decimal-next-requires
put_decimal-next-requires c =
    left-room (first c.args.out.now c.args.at c.args.s c.lowest-first.result c.requires c.if-s-eq0.false c.ranges.s.fits c.lowest-first.ensures)

pub single-requires : goal.single-requires
single-requires c = omega (arith, lowest-below c.args.s c.if-s-eq0.false c.ranges.s.fits, c.lowest-first.ensures)

pub loop-left-init : goal.loop-left-init
loop-left-init c =
    let s = c.args.s in
    let less = less-left s c.lowest-first.result c.single.result c.minus-left.result c.if-s-eq0.false c.ranges.s.fits c.lowest-first.ensures
    c.single.ensures c.minus-left.ensures in
    let l = others c.args.out.now c.args.at s c.lowest-first.result c.requires c.if-s-eq0.false c.ranges.s.fits c.lowest-first.ensures
    c.single.result c.minus-left.result c.single.ensures c.minus-left.ensures c.put_decimal-next.ensures in
    (omega (arith, less, c.ranges.s.fits), left-all _ _ _ (last-room l))

pub put_behind-next-requires : goal.put_behind-next-requires
put_behind-next-requires c = let x = c.lowest-x in
    let l = c.loop-left in
    left-room (further x.result c.loop-left-test.true l.invariant.0 x.ensures l.invariant.1)

pub single-requires-in-loop-left : goal.single-requires-in-loop-left
single-requires-in-loop-left c = let l = c.loop-left in
    omega (arith, lowest-below l.left c.loop-left-test.true l.invariant.0, c.lowest-x.ensures)

pub loop-left-smaller : goal.loop-left-smaller
loop-left-smaller c = less-left c.loop-left.left c.lowest-x.result c.single-in-loop-left.result c.minus-left-in-loop-left.result
    c.loop-left-test.true c.loop-left.invariant.0 c.lowest-x.ensures c.single-in-loop-left.ensures c.minus-left-in-loop-left.ensures

pub loop-left-preserved : goal.loop-left-preserved
loop-left-preserved c = let l = c.loop-left in
    let less = less-left l.left c.lowest-x.result c.single-in-loop-left.result c.minus-left-in-loop-left.result
    c.loop-left-test.true l.invariant.0 c.lowest-x.ensures c.single-in-loop-left.ensures c.minus-left-in-loop-left.ensures in (
      omega (arith, less, l.invariant.0),
      after c.lowest-x.result c.loop-left-test.true l.invariant.0 c.lowest-x.ensures l.invariant.1
          c.single-in-loop-left.result c.minus-left-in-loop-left.result c.single-in-loop-left.ensures c.minus-left-in-loop-left.ensures
          c.put_behind-next.ensures,
    )

pub returns : goal.returns
returns c =
    left-last (others c.args.out.now c.args.at c.args.s c.lowest-first.result c.requires c.if-s-eq0.false c.ranges.s.fits c.lowest-first.ensures
    c.single.result c.minus-left.result c.single.ensures c.minus-left.ensures c.put_decimal-next.ensures)
    (left-none c.loop-left.invariant.1 (none_left c.loop-left.left c.loop-left-test.false))
