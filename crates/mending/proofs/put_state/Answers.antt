-- `mending::put_state`: what is read, the rows and first[s] make the next stage.
use mathlib.Core.Path.{◌≡◌, ap}
use Prim.Native.Nat.{◌+◌, ◌-◌}
use native.Mathlib.Omega.{arith}
use lib.ListN.{length}
use Rattle.mending.proofs.Whole.{long, few, low, first_read, next-read, upward, fits, raised-action, end_fits, size_is, state-done}
use Rattle.mending.proofs.put_state.Goals as goal

pub first_of-requires : goal.first_of-requires
first_of-requires c = let p = c.requires in (long p, few p, omega (arith, low p))

pub overflow_add-lo : goal.overflow_add-lo
overflow_add-lo c = let p = c.requires in omega (arith, c.first_of.ensures, first_read p, upward p, fits p)

pub overflow_add-s : goal.overflow_add-s
overflow_add-s c = omega (arith, low c.requires)

pub first_of-requires-2 : goal.first_of-requires-2
first_of-requires-2 c = let p = c.requires in (long p, few p, omega (arith, low p))

pub overflow_add-hi : goal.overflow_add-hi
overflow_add-hi c = let p = c.requires in omega (arith, c.first_of-2.ensures, next-read p, fits p)

pub lacking_in-left-requires : goal.lacking_in-left-requires
lacking_in-left-requires c = let p = c.requires in
    let el = c.first_of.ensures in
    let eh = c.first_of-2.ensures in
    (long p, few p, omega (arith, eh, next-read p, fits p), λ r a b. raised-action p r (omega (arith, a, el, first_read p)) (omega (arith, b, eh, next-read p)))

pub overflow_sub-end : goal.overflow_sub-end
overflow_sub-end c = let p = c.requires in
    omega (arith, c.first_of.ensures, c.first_of-2.ensures, first_read p, next-read p, upward p)

pub overflow_add-end : goal.overflow_add-end
overflow_add-end c = let p = c.requires in
    omega (
      arith,
      c.first_of.ensures,
      c.first_of-2.ensures,
      first_read p,
      next-read p,
      upward p,
      end_fits p,
      fits p,
    )

pub overflow_add-end-2 : goal.overflow_add-end-2
overflow_add-end-2 c = let p = c.requires in
    let el = ap (λ x. x + c.args.n) c.first_of.ensures in
    let eh = ap (λ x. x + c.args.n) c.first_of-2.ensures in
    omega (arith, c.count.ensures, size_is p _ _ _ 0 el eh c.lacking_in-left.ensures, end_fits p, fits p)

pub put_rows-requires : goal.put_rows-requires
put_rows-requires c = let p = c.requires in
    let el = ap (λ x. x + c.args.n) c.first_of.ensures in
    let eh = ap (λ x. x + c.args.n) c.first_of-2.ensures in
    let z = size_is p _ _ _ 0 el eh c.lacking_in-left.ensures in
    (long p, omega (arith, c.first_of-2.ensures, next-read p, fits p), omega (arith, c.count.ensures, z, end_fits p, fits p), omega arith)

pub put_first-requires : goal.put_first-requires
put_first-requires c = let p = c.requires in
    let k : length c.put_rows.new.t ≡ length c.args.t.now = c.put_rows.auto.t in
    (omega (arith, k, long p), few p, omega (arith, low p))

pub returns : goal.returns
returns c p = let el = ap (λ x. x + c.args.n) c.first_of.ensures in
    let eh = ap (λ x. x + c.args.n) c.first_of-2.ensures in
    state-done p _ _ _ _ el eh c.lacking_in-left.ensures _ _ (ap (λ x. c.args.w +
    (c.first_of-2.result + c.args.n - (c.first_of.result + c.args.n)) + x) c.count.ensures) c.put_rows.ensures
    c.put_first.ensures
