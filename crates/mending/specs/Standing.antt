-- How far the work in the lent table has come: an old image, the new one that is to be, and the table between them.
use Rattle.std.specs.Prelude.{◌≡◌, List, ℕ, suc, ◌+◌, ◌*◌, ◌≤◌, ◌<◌, length, get_or, take}
use Rattle.model.specs.Model.{row_count}
use Rattle.layout.specs.Layout.{head_words, block_words, row_words, rows_at, count_of, block_word, first_of}
use Rattle.layout.specs.Image.{model_of, Image}
use Rattle.lacking.specs.Repair.{repaired_of}

-- new holds the repaired model of old, with n rows more
pub record Working (old new : List ℕ) (n : ℕ) : Type 0 where
  pub image : Image old
  pub again : Image new
  pub model : model_of new ≡ repaired_of (model_of old)
  pub long : length new ≡ length old
  pub rows : row_count (model_of new) ≡ row_count (model_of old) + n

-- the words below f are new, those from f up to the rows old; rows below w are new, and old rows from r on stand n rows higher
pub record Stage (old new : List ℕ) (n : ℕ) (u : List ℕ) (f r w : ℕ) : Type 0 where
  pub long : length u ≡ length new
  pub low : (x : ℕ) → x < f → get_or u x 0 ≡ get_or new x 0
  pub mid : (x : ℕ) → f ≤ x → x < rows_at → get_or u x 0 ≡ get_or old x 0
  pub done : (x : ℕ) → x < row_words * w → get_or u (rows_at + x) 0 ≡ get_or new (rows_at + x) 0
  pub left : (x : ℕ) → row_words * r ≤ x → x < row_words * row_count (model_of old) → get_or u (rows_at + (row_words * n + x)) 0 ≡ get_or old (rows_at + x) 0
  pub rest : (x : ℕ) → row_words * (row_count (model_of old) + n) ≤ x → get_or u (rows_at + x) 0 ≡ get_or new (rows_at + x) 0

-- where the block of component i begins, and where its first[s] stands
abbrev pub block_at : ℕ → ℕ
block_at i = 1 + block_words * i

abbrev pub first_at : ℕ → ℕ → ℕ
first_at i s = 1 + block_words * i + (head_words + s)

-- before state s of component i, and before component i
pub record AtState (u : List ℕ) (n i s w : ℕ) : Type 0 where
  pub old : List ℕ
  pub new : List ℕ
  pub work : Working old new n
  pub inside : i < count_of old
  pub below : s < block_word old i 0
  pub here : w ≡ first_of new i s
  pub stage : Stage old new n u (first_at i s) (first_of old i s) w

pub record AtComp (u : List ℕ) (n i w : ℕ) : Type 0 where
  pub old : List ℕ
  pub new : List ℕ
  pub work : Working old new n
  pub inside : i < count_of old
  pub here : w ≡ first_of new i 0
  pub stage : Stage old new n u (block_at i) (first_of old i 0) w

-- behind state s, where row w of the new table comes next; and behind component i
pub record After {u : List ℕ} {n i s w : ℕ} (p : AtState u n i s w) (u' : List ℕ) (r : ℕ) : Type 0 where
  pub here : r ≡ first_of p.new i (suc s)
  pub stage : Stage p.old p.new n u' (first_at i (suc s)) (first_of p.old i (suc s)) r

pub record Behind {u : List ℕ} {n i w : ℕ} (p : AtComp u n i w) (u' : List ℕ) (r : ℕ) : Type 0 where
  pub here : r ≡ first_of p.new i (block_word p.old i 0)
  pub stage : Stage p.old p.new n u' (block_at (suc i)) (first_of p.old i (block_word p.old i 0)) r

-- of any old and new image that the table stands between
abbrev pub AfterState : List ℕ → ℕ → ℕ → ℕ → ℕ → List ℕ → ℕ → Type 0
AfterState u n i s w u' r = (p : AtState u n i s w) → After p u' r

abbrev pub BehindComp : List ℕ → ℕ → ℕ → ℕ → List ℕ → ℕ → Type 0
BehindComp u n i w u' r = (p : AtComp u n i w) → Behind p u' r

-- before the first component, behind the rows that were raised; and where component i comes next
pub record AtStart (u : List ℕ) (n : ℕ) : Type 0 where
  pub old : List ℕ
  pub new : List ℕ
  pub work : Working old new n
  pub stage : Stage old new n u (block_at 0) 0 0

pub record Reached {u : List ℕ} {n : ℕ} (p : AtStart u n) (u' : List ℕ) (i w : ℕ) : Type 0 where
  pub here : w ≡ row_count (take i (model_of p.new))
  pub stage : Stage p.old p.new n u' (block_at i) (row_count (take i (model_of p.old))) w

abbrev pub Finished : List ℕ → ℕ → List ℕ → Type 0
Finished u n u' = (p : AtStart u n) → u' ≡ p.new
