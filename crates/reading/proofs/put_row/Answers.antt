-- `reading::put_row` meets its contract.
use Prim.Native.Nat.{◌+◌, ◌*◌}
use native.Mathlib.Omega.{arith}
use lib.ListN.{length-set}
use Rattle.reading.proofs.Raise.{raised-to, raised-from}
use Rattle.reading.proofs.SetsLaws.{four-words}
use Rattle.layout.specs.Layout.{rows_at, row_words}
use Rattle.reading.proofs.put_row.Goals as goal

pub raise_words-requires : goal.raise_words-requires
raise_words-requires c = (omega (arith, c.requires), omega (arith, c.requires), λ j h l. c.requires.5 j (omega arith) (omega arith))

pub bounds-table-at-2 : goal.bounds-table-at-2
bounds-table-at-2 c = simp length-set (omega (arith, c.raise_words.ensures.long, c.requires))

pub bounds-table-at-3 : goal.bounds-table-at-3
bounds-table-at-3 c = simp length-set (omega (arith, c.raise_words.ensures.long, c.requires))

pub bounds-table-at-4 : goal.bounds-table-at-4
bounds-table-at-4 c = simp length-set (omega (arith, c.raise_words.ensures.long, c.requires))

pub returns : goal.returns
returns c = let a = c.args in
    record {
      mid = c.raise_words.new.table;
      firsts = raised-from (omega arith) (raised-to (omega arith) c.raise_words.ensures);
      words = four-words c.raise_words.new.table (rows_at + row_words * a.rows) a.action a.guard a.resets a.target;
    }
