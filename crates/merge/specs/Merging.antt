-- What the call `merge` answers (01, "Composition"; "Refusal numbers": as `accept`, then 24, 25, 26), and what the lent table to be written is then.
use Rattle.std.specs.Prelude.{◌≡◌, List, ℕ, length, ltb}
use Rattle.std.proofs.Math.Option.{Option, some}
use Rattle.laws.specs.Search.{when}
use Rattle.answer.specs.Told.{Told, Answer, says_checked, done_of}
use Rattle.answer.specs.Told.{Checked}
use Rattle.model.specs.Model.{Model}
use Rattle.merged.specs.Merge.{merge_of}
use Rattle.layout.specs.Layout.{image_words}
use Rattle.layout.specs.Lent.{table_too_short, table_after}
use Rattle.table.specs.OnTable.{on_table}

-- 24, asked of the buffer
unfoldable pub room_fault : List ℕ → Option Told
room_fault into = when (ltb (length into) image_words) table_too_short

-- the merged model, or a refusal
unfoldable pub merge_on : List ℕ → ℕ → List ℕ → Answer Model
merge_on t i into = on_table t (λ m. merge_of m i (room_fault into))

-- t is the table; was is the buffer before the call, and into after it
pub record Merging (t : List ℕ) (i : ℕ) (was : List ℕ) (r : Checked) (into : List ℕ) : Type 0 where
  pub answer : says_checked r ≡ some (done_of (merge_on t i was))
  pub table : into ≡ table_after (merge_on t i was) was
