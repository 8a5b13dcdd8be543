-- How one faultless line changes the table (docs/TABLE.md), told by what is kept of the lines before it.
use Rattle.std.specs.Prelude.{◌≡◌, Bool, true, false, List, [], ◌∷◌, ℕ, suc, ◌+◌, ◌-◌, ◌≤◌, ◌<◌, length, get_or, eqb}
use Rattle.answer.specs.Limits.{max_components, max_rows, max_states, max_actions, max_clocks}
use Rattle.fields.specs.declared.Kind.{Kind}
use Rattle.fields.specs.declared.Kind.TheVariants as OfKind
use Rattle.lines.specs.declared.Line.{Line}
use Rattle.lines.specs.declared.Line.TheVariants.{Comp, Act, Clk, Row}
use Rattle.judge.specs.declared.Progress.{Progress}
use Rattle.judge.specs.Judged.{guard_number}
use Rattle.layout.specs.Layout.{head_words, image_words}
use Rattle.reading.specs.Changes.{Joined, block_at, CompPut, RowPut}

-- the word of a block that an `act` line of this kind changes
abbrev pub set_word : Kind → ℕ
set_word OfKind.In = 2
set_word OfKind.Out = 3
set_word OfKind.Uin = 4
set_word OfKind.Uout = 5

-- "1 if set at the start, else 0": only then does the clock join the second set
abbrev pub Begins : Bool → List ℕ → ℕ → ℕ → List ℕ → Type 0
Begins true mid at x t' = Joined mid at x t'
Begins false mid at x t' = t' ≡ mid

pub record ClkPut (t : List ℕ) (i x b : ℕ) (t' : List ℕ) : Type 0 where
  pub mid : List ℕ
  pub declared : Joined t (block_at i 6) x mid
  pub started : Begins (eqb b 1) mid (block_at i 7) x t'

-- the words that the line changes; p tells of the lines before it, so that the block of the last component is that of p.components - 1
abbrev pub Change : List ℕ → Progress → Line → List ℕ → Type 0
Change t p (Comp n s) t' = CompPut t p.components n s p.rows t'
Change t p (Act a k) t' = Joined t (block_at (p.components - 1) (set_word k)) a t'
Change t p (Clk x b) t' = ClkPut t (p.components - 1) x b t'
Change t p (Row s g a r to) t' = RowPut t (p.components - 1) p.states p.rows s (a ∷ guard_number g ∷ r.set ∷ to ∷ []) t'

-- the last component has a block
abbrev pub Opened : Progress → Type 0
Opened p = (1 ≤ p.components) × (p.components ≤ max_components)

-- what a faultless line gives, so that every word that it changes is a word of the image
abbrev pub Fits : List ℕ → Progress → Line → Type 0
Fits t p (Comp n s) = (image_words ≤ length t) × (p.components < max_components) × (n ≤ max_states) × (p.rows ≤ max_rows)
Fits t p (Act a k) = (image_words ≤ length t) × Opened p × (a < max_actions)
Fits t p (Clk x b) = (image_words ≤ length t) × Opened p × (x < max_clocks)
Fits t p (Row s g a r to) =
    (image_words ≤ length t)
    × Opened p
    × (p.states ≤ max_states)
    × (s < p.states)
    × (p.rows < max_rows)
    × ((j : ℕ) → block_at (p.components - 1) (head_words + suc s) ≤ j → j < block_at (p.components - 1) (head_words + suc p.states) → get_or t j 0 < max_rows)
