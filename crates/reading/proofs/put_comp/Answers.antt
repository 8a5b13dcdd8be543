-- `reading::put_comp` meets its contract.
use mathlib.Core.Path.{◌≡◌, ◌∙◌, ap}
use Prim.Native.Nat.{suc, ◌+◌, ◌*◌}
use native.Mathlib.Omega.{arith}
use lib.ListN.{set, length-set}
use Rattle.reading.proofs.Raise.{filled-to}
use Rattle.layout.specs.Layout.{block_words}
use Rattle.reading.proofs.put_comp.Goals as goal

pub bounds-table-at : goal.bounds-table-at
bounds-table-at c = simp length-set (omega (arith, c.fill_words.ensures.long, c.requires))

pub bounds-table-at-2 : goal.bounds-table-at-2
bounds-table-at-2 c = simp length-set (omega (arith, c.fill_words.ensures.long, c.requires))

pub returns : goal.returns
returns c = let a = c.args in
    let m = c.fill_words.new.table in
    let e : a.i + 1 ≡ suc a.i = omega arith in
    let f : 1 + block_words * a.i ≡ 1 + block_words * a.i + 0 = omega arith in
    record {
      mid = m;
      firsts = filled-to (omega arith) c.fill_words.ensures;
      words =
          ap (λ x. set (set (set m 0 x) (1 + block_words * a.i) a.states) (1 + block_words * a.i + 1) a.start) e
          ∙ ap (λ p. set (set (set m 0 (suc a.i)) p a.states) (1 + block_words * a.i + 1) a.start) f;
    }
