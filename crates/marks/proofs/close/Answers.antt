-- `marks::close` meets its contract: after k passes the marks are the ways by numbers below k.
use Prim.Native.Nat.{◌-◌}
use mathlib.Core.Path.{◌≡◌}
use mathlib.Core.Bool.{true}
use native.Mathlib.Omega.{arith}
use Rattle.marks.specs.Marks.{rows_of_marks, mark_at}
use Rattle.marks.proofs.Going.{links, one_more, idle-passed}
use Rattle.marks.proofs.close.Goals as goal

pub loop-k-init : goal.loop-k-init
loop-k-init c = (c.requires.0, omega arith, λ a b h k. links, c.requires.1)

pub loop-k-preserved : goal.loop-k-preserved
loop-k-preserved c = let l = c.loop-k in
    let m = c.args.m.now in
    let p = c.turn.ensures in (
      p.rows,
      omega arith,
      one_more (λ x y. mark_at m x y ≡ true) l.k rows_of_marks (mark_at l.m) (mark_at c.turn.new.m) (omega arith) l.invariant.2 p.marks,
      idle-passed _ l.k _ _ (omega arith) p l.invariant.3,
    )

pub returns : goal.returns
returns c = let l = c.loop-k in
    let e : l.k ≡ rows_of_marks = omega arith in
    record { rows = l.invariant.0; ways = rw e at l.invariant.2 }
