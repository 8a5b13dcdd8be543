-- `table::range_climbs`: what is left to test answers for the whole.
use mathlib.Core.Path.{◌≡◌, sym, ◌∙◌, ap}
use Prim.Native.Nat.{◌+◌, ◌-◌}
use native.Mathlib.Omega.{arith}
use Rattle.laws.specs.Fold.{all}
use Rattle.laws.proofs.FoldLaws.{all-fails, all-goes-on, all-passed}
use Rattle.table.specs.Rows.{climbs}
use Rattle.table.proofs.range_climbs.Goals as goal

pub loop-next-init : goal.loop-next-init
loop-next-init c = (omega arith, λ s. ap (λ k. all (climbs c.args.t.now s) k (c.args.hi - 1)) (omega arith))

pub returns-then-not-row_climbs : goal.returns-then-not-row_climbs
returns-then-not-row_climbs c s = let l = c.loop-next in
    all-fails (climbs c.args.t.now s) (l.next - 1) (c.args.hi - 1) (l.invariant.1 s) (omega arith) (sym (c.row_climbs.ensures s) ∙ c.if-not-row_climbs.true)

pub loop-next-preserved : goal.loop-next-preserved
loop-next-preserved c = let l = c.loop-next in
    let e : l.next - 1 + 1 ≡ l.next + 1 - 1 = omega arith in (
      omega arith,
      λ s. ap (λ k. all (climbs c.args.t.now s) k (c.args.hi - 1)) (sym e)
          ∙ all-goes-on (climbs c.args.t.now s) (l.next - 1) (c.args.hi - 1) (l.invariant.1 s) (omega arith) (sym (c.row_climbs.ensures s)
          ∙ c.if-not-row_climbs.false),
    )

pub returns : goal.returns
returns c s = all-passed (climbs c.args.t.now s) (c.loop-next.next - 1) (c.args.hi - 1) (c.loop-next.invariant.1 s) (omega arith)
