-- Each kind of line, taken into the table as the definition takes it in; and the image once the whole text is read.
use mathlib.Core.Path.{◌≡◌, ◌∙◌, ap}
use mathlib.Core.Option.{Option}
use mathlib.Core.Bool.{Bool, true, false, cond}
use mathlib.Core.List.{List, [], ◌∷◌, reverse}
use Prim.Native.Nat.{ℕ, suc, ◌+◌, ◌-◌, ◌≤◌, ◌<◌}
use native.Mathlib.Omega.{arith}
use lib.ListN.{length, get_or, take}
use lib.Dec.{leb}
use Rattle.answer.specs.Limits.{max_components, max_rows, max_states}
use Rattle.answer.specs.Told.{answered}
use Rattle.model.specs.Model.{Comp, row_count}
use Rattle.model.specs.Text.{Kind}
use Rattle.model.specs.Reading.{comp-entry, act-entry, clk-entry, row-entry, guard_of, set_of, row_of, take_in, read_of}
use Rattle.model.proofs.Reading.TextOfRead.{text-of-read}
use Rattle.layout.specs.Layout.{head_words, image_words, block_word}
use Rattle.layout.specs.Image.{leave_below, first_word, image_of}
use Rattle.layout.proofs.RowsAscend.{below-le}
use Rattle.layout.proofs.FrontByWords.{holds-image}
use Rattle.reading.specs.Changes.{Joined, block_at, CompPut, RowPut}
use Rattle.reading.specs.Laid.{Laid}
use Rattle.reading.proofs.LaidHolds.{laid-holds}
use Rattle.reading.proofs.LaidWord.{kind_word_at, laid-act, laid-clock, laid-started}
use Rattle.reading.proofs.LaidRow.{first-at, laid-row}
use Rattle.reading.proofs.LaidComp.{laid-comp}

pub comp-taken : (t t' : List ℕ) (m : List Comp) (n s : ℕ) → Laid t m → length m < max_components → n ≤ max_states → CompPut t (length m) n s (row_count m) t'
    → Laid t' (take_in m (comp-entry n s))
unfolding take_in
comp-taken t t' m n s a l b p = rw p.words (laid-comp t p.mid m n s a p.firsts l b)

module _ (t t' : List ℕ) (c : Comp) (cs : List Comp) (a : Laid t (c ∷ cs)) (l : length cs < max_components) where
  pub act-taken : (x : ℕ) (k : Kind) → Joined t (block_at (length cs) (kind_word_at k)) x t' → Laid t' (take_in (c ∷ cs) (act-entry x k))
  unfolding take_in
  act-taken x k p = rw p.words (laid-act t c cs a l x k)

  pub clk-taken : (x : ℕ) → Joined t (block_at (length cs) 6) x t' → Laid t' (take_in (c ∷ cs) (clk-entry x 0))
  unfolding take_in
  clk-taken x p = rw p.words (laid-clock t c cs a l x)

  pub row-taken : (s : ℕ) (g : Option ℕ) (x : ℕ) (r : List ℕ) (to : ℕ) → s < c.states → c.states ≤ max_states → row_count (c ∷ cs) < max_rows
      → RowPut t (length cs) c.states (row_count (c ∷ cs)) s (x ∷ guard_of g ∷ set_of r ∷ to ∷ []) t' → Laid t' (take_in (c ∷ cs) (row-entry s g x r to))
  unfolding take_in
  row-taken s g x r to f b room p = rw p.words (laid-row t p.mid c cs (row_of s g x r to) a p.firsts l f b room)

-- a clock that is set at the start: the second word
pub started-taken : (t t' : List ℕ) (c : Comp) (cs : List Comp) (x : ℕ) → Laid t (take_in (c ∷ cs) (clk-entry x 0)) → length cs < max_components
    → Joined t (block_at (length cs) 7) x t' → Laid t' (take_in (c ∷ cs) (clk-entry x 1))
unfolding take_in
started-taken t t' c cs x a l p = rw p.words (laid-started t c cs x a l)

-- the whole text read: the front of the table is the image
pub read-image : (text t : List ℕ) (m : List Comp) → read_of text ≡ answered (reverse m) → Laid t m → take image_words t ≡ image_of (reverse m)
read-image text t m e a = holds-image (reverse m) t (text-of-read text (reverse m) e).0 (laid-holds t m a)

-- every first[s] that a row raises is below the limit of rows
first-most : (n : ℕ) (c : Comp) (s : ℕ) → first_word n c s ≤ n + length c.rows
unfolding first_word
first-most n c s = go (leb s c.states)
  where
    go : (b : Bool) → cond b (n + leave_below c.rows s) 0 ≤ n + length c.rows
    go true = omega (arith, below-le c.rows s)
    go false = omega arith

pub firsts-below : (t : List ℕ) (c : Comp) (cs : List Comp) → Laid t (c ∷ cs) → c.states ≤ max_states → row_count (c ∷ cs) < max_rows
    → (j : ℕ) → block_at (length cs) head_words ≤ j → j < block_at (length cs) (head_words + suc c.states) → get_or t j 0 < max_rows
unfolding block_word row_count
firsts-below t c cs a b room j h l =
    let s = j - block_at (length cs) head_words in
    let e : j ≡ block_at (length cs) (head_words + s) = omega arith in
    let f : get_or t j 0 ≡ first_word (row_count cs) c s = ap (λ k. get_or t k 0) e ∙ a.parts.0.words (head_words + s) (omega arith)
    ∙ first-at (row_count cs) c s (omega arith) in
    omega (arith, f, first-most (row_count cs) c s)
