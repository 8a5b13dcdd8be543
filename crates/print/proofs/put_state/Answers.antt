-- `print::put_state` meets its contract: what is put, and the numbers that are left, make the whole.
use mathlib.Core.Path.{◌≡◌, sym}
use mathlib.Core.List.{List, ◌∷◌}
use Prim.Native.Nat.{ℕ, ◌+◌, ◌-◌, ◌<◌}
use native.Mathlib.Omega.{arith}
use lib.ListN.{get_or}
use Rattle.answer.specs.declared.State.{State}
use Rattle.print.specs.Put.{Room, Put}
use Rattle.answer.specs.State.{numbers_from, parts_of}
use Rattle.model.specs.Text.{comma, decimal, joined}
use Rattle.print.proofs.LaidLaws.{Left, Next, left-all, left_as, left-room, left-next, left-none, left-last, last-room, put_as, nothing_put}
use Rattle.print.proofs.PrintLaws.{each, no-parts, joined-parts, numbers-next, numbers-done}
use Rattle.print.proofs.put_state.Goals as goal

-- the first number
pub returns-then-n-eq0 : goal.returns-then-n-eq0
returns-then-n-eq0 c = put_as (nothing_put _ _) _ (sym (no-parts c.args.x c.if-n-eq0.true))

module _ (o : List ℕ) (at : ℕ) (x : State) (r : Room o at (joined (parts_of x))) (some : x.count ≡ 0 → ⊥) where
  first : Next o at (joined (parts_of x)) o at (decimal (get_or x.parts 0 0)) (each (numbers_from x.parts 1 (x.count - 1)))
  first = left_as (left-all _ _ _ r) _ _ (joined-parts x some)

  -- the other numbers, behind the first
  others : {o1 : List ℕ} {p1 : ℕ} → Put o at (decimal (get_or x.parts 0 0)) o1 p1
      → Left o at (joined (parts_of x)) o1 p1 (each (numbers_from x.parts 1 (x.count - 1)))
  others p = left-next first p

-- a further number, in the loop
further : (ps : List ℕ) (i n : ℕ) {o : List ℕ} {at : ℕ} {whole m : List ℕ} {here : ℕ} → Left o at whole m here (each (numbers_from ps i (n - i))) → i < n
    → Next o at whole m here (comma ∷ decimal (get_or ps i 0)) (each (numbers_from ps (i + 1) (n - (i + 1))))
further ps i n l h = left_as l _ _ (numbers-next ps i n h)

pub put_decimal-next-requires : goal.put_decimal-next-requires
put_decimal-next-requires c = left-room (first c.args.out.now c.args.at c.args.x c.requires.1 c.if-n-eq0.false)

pub loop-i-init : goal.loop-i-init
loop-i-init c = let l = others c.args.out.now c.args.at c.args.x c.requires.1 c.if-n-eq0.false c.put_decimal-next.ensures in
    (omega arith, left-all _ _ _ (last-room l))

pub bounds-x-i : goal.bounds-x-i
bounds-x-i c = omega (arith, c.requires.0)

pub put_behind-next-requires : goal.put_behind-next-requires
put_behind-next-requires c = left-room (further c.args.x.parts c.loop-i.i c.args.x.count c.loop-i.invariant.1 c.loop-i-test.true)

pub overflow_step-i : goal.overflow_step-i
overflow_step-i c = omega (arith, c.requires.0)

pub loop-i-smaller : goal.loop-i-smaller
loop-i-smaller c = omega arith

pub loop-i-preserved : goal.loop-i-preserved
loop-i-preserved c =
    (omega arith, left-next (further c.args.x.parts c.loop-i.i c.args.x.count c.loop-i.invariant.1 c.loop-i-test.true) c.put_behind-next.ensures)

pub returns : goal.returns
returns c =
    left-last (others c.args.out.now c.args.at c.args.x c.requires.1 c.if-n-eq0.false c.put_decimal-next.ensures)
    (left-none c.loop-i.invariant.1 (numbers-done c.args.x.parts c.loop-i.i c.args.x.count c.loop-i-test.false))
