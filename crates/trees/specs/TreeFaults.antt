-- Reading a tree by its faults: each as a predicate of its own, and the lines of a text in their turn. Nothing here computes.
use Rattle.std.specs.Prelude.{◌≡◌, ℕ, suc, ◌+◌, ◌≤◌, ◌<◌, length}
use Rattle.std.proofs.Math.Option.{none}
use mathlib.Core.List.{List, [], ◌∷◌, ◌++◌, map, Memᴰ as In}
use Rattle.laws.specs.Lowest.{Lowest}
use Rattle.answer.specs.Limits.{max_elements}
use Rattle.answer.specs.Told.{tell, Answer, answered, refused}
use Rattle.model.specs.Model.{Model}
use Rattle.model.specs.WellFormed.{WellFormed}
use Rattle.iosa.specs.Checks.{accept_of}
use Rattle.iosa.specs.Automaton.{Conforming, Joinable}
use Rattle.model.specs.Text.{decimal}
use Rattle.model.specs.Line.{AllFit}
use Rattle.model.specs.Column.{fields_up_to, WrongByteOf}
use Rattle.trees.specs.Tree.{Element, Tree}
use Rattle.trees.specs.Modules.{tree_model}
use Rattle.trees.specs.TreeText.{sort_word, fewest, at_most_more, numbers_of, element_text, tree_text}
use Rattle.trees.specs.Conditions.{Broken, Proper}
use Rattle.trees.specs.ReadTree.{InLimits}

-- ---- a line
-- each number has 1 to 5 digits, and there are as many inputs as the line may have
pub record ElementFits (e : Element) : Type 0 where
  pub digits : AllFit (numbers_of e)
  pub enough : fewest e.sort ≤ length e.ins
  pub no_more : length e.ins ≤ fewest e.sort + at_most_more e.sort

-- the bytes bs begin with the line e, and cs is behind it
pub record LineAt (bs : List ℕ) (e : Element) (cs : List ℕ) : Type 0 where
  pub fits : ElementFits e
  pub printed : bs ≡ element_text e ++ cs

-- "number 0 to 63"
abbrev pub InRange : Element → Type 0
InRange e = (n : ℕ) → In n (numbers_of e) → n < max_elements

-- ---- the faults of the line at the front of the bytes bs; the lines before it have numbers below low
pub data LineFault (low : ℕ) (bs : List ℕ) (n : ℕ) : Type 0 where
  -- 2 "line of wrong shape, or last line without LF"
  wrong-shape : n ≡ 2 → ((e : Element) (cs : List ℕ) → LineAt bs e cs → ⊥) → LineFault low bs n
  -- 4 "number outside its range"
  is_out_of_range : {e : Element} {cs : List ℕ} → n ≡ 4 → LineAt bs e cs → ¬ InRange e → LineFault low bs n
  -- 6 "not strictly ascending"
  is_out_of_order : {e : Element} {cs : List ℕ} → n ≡ 6 → LineAt bs e cs → e.number < low → LineFault low bs n

-- ---- columns (02, 2/13): "for 2 the first byte that no well-shaped line could have there (a missing LF counts one past the end), for 4 and 5 the first byte of the first value at fault"
-- as of a model's lines, by the tree's own shapes
abbrev pub WrongByte : List ℕ → ℕ → Type 0
WrongByte bs column = WrongByteOf element_text ElementFits bs column

-- the first number that is not fine stands at the column: those before it are fine
pub record FirstNumber (Fine : ℕ → Type 0) (e : Element) (column : ℕ) : Type 0 where
  pub before : List ℕ
  pub number : ℕ
  pub behind : List ℕ
  pub numbers : numbers_of e ≡ before ++ number ∷ behind
  pub fault : ¬ Fine number
  pub fine : (n : ℕ) → In n before → Fine n
  pub at : column ≡ suc (length (sort_word e.sort ++ fields_up_to (map decimal before)))

-- what stands behind the line in the place of n
pub data Carries (bs : List ℕ) (n : ℕ) (column : List ℕ) : Type 0 where
  wrong_byte : {k : ℕ} → n ≡ 2 → WrongByte bs k → column ≡ k ∷ [] → Carries bs n column
  range-number : {e : Element} {cs : List ℕ} {k : ℕ} → n ≡ 4 → LineAt bs e cs → FirstNumber (λ v. v < max_elements) e k → column ≡ k ∷ [] → Carries bs n column
  line-alone : n ≡ 6 → column ≡ [] → Carries bs n column

-- ---- the lines in their turn
-- the lines of the text before line k are faultless, their numbers below low, and the bytes bs are left
pub data Reaches (text : List ℕ) : ℕ → ℕ → List ℕ → Type 0 where
  first-line : Reaches text 1 0 text
  next-line : {k low : ℕ} {bs : List ℕ} {e : Element} {cs : List ℕ} → Reaches text k low bs → LineAt bs e cs → InRange e → low ≤ e.number
      → Reaches text (suc k) (suc e.number) cs

-- the text has a line k, the lines before it are faultless, and n is its lowest fault, with the column where n carries one
pub record LineFaultAt (text : List ℕ) (n k : ℕ) (column : List ℕ) : Type 0 where
  pub low : ℕ
  pub bytes : List ℕ
  pub reached : Reaches text k low bytes
  pub line : ¬ (bytes ≡ [])
  pub lowest : Lowest (LineFault low bytes) n
  pub carries : Carries bytes n column

-- ---- a text that has no such fault: the lines of a tree, its numbers ascending
pub data Ascending : ℕ → Tree → Type 0 where
  no_line : {low : ℕ} → Ascending low []
  line : {low : ℕ} {e : Element} {t : Tree} → low ≤ e.number → Ascending (suc e.number) t → Ascending low (e ∷ t)

pub record Drawn (t : Tree) : Type 0 where
  pub fits : (e : Element) → In e t → ElementFits e
  pub in-range : (e : Element) → In e t → InRange e
  pub ascends : Ascending 0 t

-- 5: a line defines v
abbrev pub Known : Tree → ℕ → Type 0
Known t v = (e : Element) × In e t × (e.number ≡ v)

-- 5 "an input no line defines": line k is the first that has one, the leftmost stands at the column
pub record UnknownAt (t : Tree) (k column : ℕ) : Type 0 where
  pub before : Tree
  pub element : Element
  pub behind : Tree
  pub lines : t ≡ before ++ element ∷ behind
  pub at : k ≡ suc (length before)
  pub known : (e : Element) → In e before → (v : ℕ) → In v e.ins → Known t v
  pub first : FirstNumber (Known t) element column

pub record AllKnown (t : Tree) : Type 0 where
  pub known : (e : Element) → In e t → (v : ℕ) → In v e.ins → Known t v

-- ---- every answer to a text
-- the text is that of t, a tree without a fault of a line
pub record TextOf (text : List ℕ) (t : Tree) : Type 0 where
  pub drawn : Drawn t
  pub bytes : tree_text t ≡ text

-- "2, 4 and 6 as for models, then 5 .., 47 .., 48 .."; else the model by the modules
pub data TreeAnswer (text : List ℕ) : Answer Model → Type 0 where
  is-fault : {n k : ℕ} {column : List ℕ} → LineFaultAt text n k column → TreeAnswer text (refused (tell n (k ∷ column)))
  is5 : {t : Tree} {k column : ℕ} → TextOf text t → UnknownAt t k column → TreeAnswer text (refused (tell 5 (k ∷ column ∷ [])))
  is47 : {t : Tree} {n : ℕ} → TextOf text t → AllKnown t → Lowest (Broken t) n → TreeAnswer text (refused (tell 47 (n ∷ [])))
  is48 : {t : Tree} → TextOf text t → AllKnown t → Proper t → ¬ InLimits t → TreeAnswer text (refused (tell 48 (0 ∷ [])))
  is-model : {t : Tree} → TextOf text t → AllKnown t → Proper t → InLimits t → TreeAnswer text (answered (tree_model t))

-- "Each component written is proved to pass 10 to 14 and the system 15 to 17": what holds of every model answered
pub record Accepted (m : Model) : Type 0 where
  pub well-formed : WellFormed m
  pub conforming : Conforming m
  pub joinable : Joinable m
  pub passes : accept_of m ≡ none
