-- The two passes over the lines of a good text, and what is told in the end.
use mathlib.Core.Path.{◌≡◌, refl, sym, ◌∙◌, ap, subst}
use mathlib.Core.Option.{Option, none, some}
use mathlib.Core.Bool.{Bool}
use mathlib.Core.List.{List, [], ◌∷◌, Memᴰ as In}
use Prim.Native.Nat.{ℕ, ◌≤◌}
use native.Mathlib.Omega.{arith}
use lib.ListN.{length, set, replicate, length-set, length-replicate}
use Rattle.laws.specs.Search.{map_some}
use Rattle.sets.specs.Members.{word_bits}
use Rattle.std.specs.Prelude.{Ok, Err}
use Rattle.answer.specs.declared.Refusal.{Refusal}
use Rattle.answer.specs.Told.{Told, told, Answer, answered, refused, as_refused, says_checked, done_of}
use Rattle.trees.specs.Tree.{Element as TheElement, Tree}
use Rattle.trees.specs.TreeText.{lines_from, tree_of, unless}
use Rattle.trees.specs.TreeFaults.{ElementFits, InRange, Ascending, AllKnown, TextOf}
use Rattle.trees.specs.Conditions.{cyclic, condition_of}
use Rattle.trees.specs.ReadTree.{condition_told, modelled, read_tree_of}
use Rattle.trees.proofs.Faults.{tree-lines}
use Rattle.trees.proofs.Answers.{tree-read-exactly}
use Rattle.treelines.specs.declared.Element.{Element}
use Rattle.treelines.specs.Elements.{element_is}
use Rattle.treenames.specs.Names.{lines_in, tree_in}
use Rattle.treenames.proofs.Passing.{Left, First, none_left}
use Rattle.treetests.specs.declared.Gathered.{Gathered}
use Rattle.treetests.specs.Gathering.{IsTree, proper, proper_of, limited, Small, line_sets, none_gathered, gathered, gathered_all}
use Rattle.treetests.specs.Gathering.{InputRows, lowest_broken, broken_as}
use Rattle.treetests.proofs.InputLaws.{small}
use Rattle.treetests.proofs.ConditionLaws.{lowest-same}
use Rattle.treetests.proofs.CycleLaws.{Ins, rows_all, no_rows, input-rows}

-- ---- the tree of a good text
pub is-tree : (text : List ℕ) (t : Tree) → tree_of text ≡ answered t → IsTree text
unfolding tree_in
is-tree text t e =
    let d = ((tree-read-exactly text t).0 e).0 in
    let l = subst (λ bs. lines_from (length bs) 1 0 bs ≡ answered t) d.bytes (tree-lines t d.drawn) in
    e ∙ ap (λ x. answered (lines_in x)) (sym l)

module _ (text : List ℕ) (good : IsTree text) where
  read : TextOf text (tree_in text) × AllKnown (tree_in text)
  read = (tree-read-exactly text (tree_in text)).0 good

  pub ascends : Ascending 0 (tree_in text)
  ascends = read.0.drawn.ascends

  pub ranges : (e : TheElement) → In e (tree_in text) → InRange e
  ranges = read.0.drawn.in-range

  pub all_fit : (e : TheElement) → In e (tree_in text) → ElementFits e
  all_fit = read.0.drawn.fits

  tree-left : Left text 0 (tree_in text)
  tree-left = record { bytes = sym read.0.bytes; fits = all_fit; in-range = ranges }

  -- what is told of what was gathered
  pub told-properly : (c : Bool) (g : Gathered) → c ≡ cyclic (tree_in text) → g ≡ gathered_all none_gathered (tree_in text)
      → broken_as (lowest_broken c g) ≡ done_of (proper_of text)
  unfolding proper_of
  told-properly c g p q =
      rw (p, q, lowest-same (tree_in text) ascends ranges all_fit read.1) (done (condition_of (tree_in text)) ∙ ap (λ a. done_of (proper a)) (sym good))
    where
      done : (o : Option ℕ) → broken_as o ≡ done_of (unless (map_some condition_told o) (answered (tree_in text)))
      done none = refl
      done (some n) = refl

-- what is answered to a text is this, then 48
pub read-limited : (text : List ℕ) → read_tree_of text ≡ limited (proper_of text)
unfolding read_tree_of proper_of
read-limited text = go (tree_of text)
  where
    told : (t : Tree) (o : Option ℕ) → unless (map_some condition_told o) (limited (answered t)) ≡ limited (unless (map_some condition_told o) (answered t))
    told t none = refl
    told t (some n) = refl

    go : (a : Answer Tree) → modelled a ≡ limited (proper a)
    go (refused f) = refl
    go (answered t) = told t (condition_of t)

-- ---- a line of it
pub line_small : (text : List ℕ) (rest : Tree) (e : Element) (to : ℕ) → First text rest e to → Small e
line_small text rest e to f = subst Small f.code (small f.it f.it-fits f.it-range)

-- ---- the pass that gathers
all_one : (g : Gathered) (e : TheElement) (es : Tree) → gathered_all g (e ∷ es) ≡ gathered_all (gathered g (element_is e)) es
unfolding gathered_all
all_one g e es = refl

all_none : (g : Gathered) → gathered_all g [] ≡ g
unfolding gathered_all
all_none g = refl

pub record Gathering (text : List ℕ) (g : Gathered) (at : ℕ) : Type 0 where
  pub rest : Tree
  pub left : Left text at rest
  pub same : gathered_all g rest ≡ gathered_all none_gathered (tree_in text)

pub gathering-begins : (text : List ℕ) → IsTree text → Gathering text none_gathered 0
gathering-begins text good = record { rest = tree_in text; left = tree-left text good; same = refl }

pub gathering-on : (text : List ℕ) (g : Gathered) (at : ℕ) (c : Gathering text g at) (e : Element) (to : ℕ) → First text c.rest e to
    → (n : Gathered) → n ≡ gathered g e → Gathering text n to
gathering-on text g at c e to f n q = record {
  rest = f.more;
  left = f.left;
  same =
      ap (λ x. gathered_all x f.more) (q ∙ ap (gathered g) (sym f.code))
      ∙ sym (all_one g f.it f.more) ∙ ap (gathered_all g) (sym f.lines) ∙ c.same;
}

pub gathering-done : (text : List ℕ) (g : Gathered) (at : ℕ) → Gathering text g at → length text ≤ at → g ≡ gathered_all none_gathered (tree_in text)
gathering-done text g at c h = sym (all_none g) ∙ ap (gathered_all g) (sym (none_left text at c.rest c.left h)) ∙ c.same

-- ---- the pass that stores the inputs
rows-one : (rows : List ℕ) (e : TheElement) (es : Tree) → rows_all rows (e ∷ es) ≡ rows_all (set rows e.number (Ins e)) es
unfolding rows_all
rows-one rows e es = refl

rows_none : (rows : List ℕ) → rows_all rows [] ≡ rows
unfolding rows_all
rows_none rows = refl

pub record Storing (text : List ℕ) (rows : List ℕ) (at : ℕ) : Type 0 where
  pub rest : Tree
  pub left : Left text at rest
  pub places : length rows ≡ word_bits
  pub same : rows_all rows rest ≡ rows_all no_rows (tree_in text)

pub storing-begins : (text : List ℕ) → IsTree text → Storing text (replicate word_bits 0) 0
unfolding no_rows
storing-begins text good = record { rest = tree_in text; left = tree-left text good; places = length-replicate {A = ℕ} word_bits 0; same = refl }

pub storing-on : (text : List ℕ) (rows : List ℕ) (at : ℕ) (c : Storing text rows at) (e : Element) (to : ℕ) → First text c.rest e to → (s : ℕ)
    → s ≡ (line_sets e).all → Storing text (set rows e.number s) to
storing-on text rows at c e to f s q = record {
  rest = f.more;
  left = f.left;
  places = length-set rows e.number s ∙ c.places;
  same =
      ap (λ x. rows_all (set rows e.number x) f.more) q
      ∙ ap (λ (x : Element). rows_all (set rows x.number (line_sets x).all) f.more) (sym f.code)
      ∙ sym (rows-one rows f.it f.more) ∙ ap (rows_all rows) (sym f.lines) ∙ c.same;
}

pub storing-done : (text : List ℕ) → IsTree text → (rows : List ℕ) (at : ℕ) → Storing text rows at → length text ≤ at → InputRows (tree_in text) rows
storing-done text good rows at c h =
    subst (InputRows (tree_in text)) (sym c.same ∙ ap (rows_all rows) (none_left text at c.rest c.left h) ∙ rows_none rows)
    (input-rows (tree_in text) (ascends text good) (all_fit text good) (ranges text good))

-- ---- what comes first is told first
refused-first : {B : Type 0} (k : Answer Tree → Answer B) → ((g : Told) → k (refused g) ≡ refused g) → (o : Option Told) (a : Answer Tree)
    → as_refused o ≡ some (done_of a) → as_refused {A = Unit {0}} o ≡ some (done_of (k a))
refused-first k h none a e = absurd (let z : ◌≡◌ {A = ℕ} 0 1 = cc in omega arith)
refused-first k h (some f) (answered t) e = absurd (let z : ◌≡◌ {A = ℕ} 0 1 = cc in omega arith)
refused-first k h (some f) (refused g) e = e ∙ ap (λ a. some (done_of a)) (sym (h g))

-- 2, 4, 6 and 5, then 47
pub tree-refused : (text : List ℕ) (q : Refusal) → says_checked (Err q) ≡ some (done_of (tree_of text))
    → says_checked (Err q) ≡ some (done_of (proper_of text))
unfolding says_checked proper_of
tree-refused text q e = refused-first proper (λ g. refl) (told q) (tree_of text) e

pub tree-fine : (text : List ℕ) → says_checked (Ok tt) ≡ some (done_of (tree_of text)) → IsTree text
unfolding says_checked
tree-fine text e = go (tree_of text) refl e
  where
    go : (a : Answer Tree) → tree_of text ≡ a → some (answered tt) ≡ some (done_of a) → IsTree text
    go (answered t) q e = is-tree text t q
    go (refused f) q e = absurd (let z : ◌≡◌ {A = ℕ} 0 1 = cc in omega arith)

-- these, then 48
pub well-refused : (text : List ℕ) (q : Refusal) → says_checked (Err q) ≡ some (done_of (proper_of text))
    → says_checked (Err q) ≡ some (done_of (read_tree_of text))
unfolding says_checked
well-refused text q e = refused-first limited (λ g. refl) (told q) (proper_of text) e ∙ ap (λ a. some (done_of a)) (sym (read-limited text))

pub well-fine : (text : List ℕ) → says_checked (Ok tt) ≡ some (done_of (proper_of text)) → IsTree text × (proper_of text ≡ answered (tree_in text))
unfolding says_checked proper_of
well-fine text e = go (tree_of text) refl e
  where
    told-fine : (t : Tree) → tree_of text ≡ answered t → (o : Option ℕ) → condition_of t ≡ o
        → some (answered tt) ≡ some (done_of (unless (map_some condition_told o) (answered t))) → IsTree text × (proper (tree_of text) ≡ answered (tree_in text))
    told-fine t q (some n) p e = absurd (let z : ◌≡◌ {A = ℕ} 0 1 = cc in omega arith)
    told-fine t q none p e =
        let good = is-tree text t q in
        (good, ap proper q ∙ ap (λ o. unless (map_some condition_told o) (answered t)) p ∙ sym q ∙ good)

    go : (a : Answer Tree) → tree_of text ≡ a → some (answered tt) ≡ some (done_of (proper a)) → IsTree text × (proper (tree_of text) ≡ answered (tree_in text))
    go (answered t) q e = told-fine t q (condition_of t) refl e
    go (refused f) q e = absurd (let z : ◌≡◌ {A = ℕ} 0 1 = cc in omega arith)
