-- A pass over the lines of a good text: at each place stands the text of the lines that are left, and a scan there finds the first of them.
use mathlib.Core.Path.{◌≡◌, refl, sym, ◌∙◌, ap, subst}
use mathlib.Core.List.Memᴰ.{head as here}
use mathlib.Core.List.Memᴰ.{tail as there}
use mathlib.Core.List.{List, [], ◌∷◌, ◌++◌, Memᴰ as In}
use Prim.Native.Nat.{ℕ, ◌≤◌, ◌<◌}
use native.Mathlib.Omega.{arith}
use lib.ListN.{length, drop, length-drop}
use Rattle.answer.specs.Told.{Answer, answered}
use Rattle.model.specs.Reading.{got}
use Rattle.model.proofs.Reading.Scans.{is-inj}
use Rattle.fields.specs.Resets.{valued}
use Rattle.fields.specs.declared.Cursor.{Cursor}
use Rattle.trees.specs.Tree.{Element as TheElement, Tree}
use Rattle.trees.specs.TreeText.{element_text, tree_text, element, lines_from}
use Rattle.trees.specs.TreeFaults.{ElementFits, InRange, Drawn}
use Rattle.trees.proofs.Scans.{element-exact}
use Rattle.trees.proofs.Faults.{Ends, as-tree, at-fault, text-ends, element-shortens}
use Rattle.treelines.specs.declared.Element.{Element}
use Rattle.std.specs.Prelude.{Result, Ok}
use Rattle.treelines.specs.Elements.{element_is, got_element}
use Rattle.treenames.specs.declared.Line.{Line}
use Rattle.treenames.specs.Names.{LinesOf, LineThere, LineRead}

-- the lines rest are left at a place of the text
pub record Left (text : List ℕ) (at : ℕ) (rest : Tree) : Type 0 where
  pub bytes : drop at text ≡ tree_text rest
  pub fits : (e : TheElement) → In e rest → ElementFits e
  pub in-range : (e : TheElement) → In e rest → InRange e

-- a good text is the text of its lines
pub drawn-lines : (text : List ℕ) (t : Tree) → LinesOf text t → Drawn t × (tree_text t ≡ text)
drawn-lines text t e = go (lines_from (length text) 1 0 text) (text-ends text) e
  where
    go : (a : Answer Tree) → Ends text 0 text a → a ≡ answered t → Drawn t × (tree_text t ≡ text)
    go a (at-fault f q) e = absurd (let z : ◌≡◌ {A = ℕ} 0 1 = cc in omega arith)
    go a (as-tree s b fits range up q) e =
        let z : s ≡ t = cc in
        subst (λ x. Drawn x × (tree_text x ≡ text)) z (record { fits = fits; in-range = range; ascends = up }, sym b)

pub all_left : (text : List ℕ) (t : Tree) → LinesOf text t → Left text 0 t
all_left text t e = let d = drawn-lines text t e in record { bytes = sym d.1; fits = d.0.fits; in-range = d.0.in-range }

-- where the text ends, no line is left
pub none_left : (text : List ℕ) (at : ℕ) (rest : Tree) → Left text at rest → length text ≤ at → rest ≡ []
unfolding tree_text
none_left text at [] l h = refl
none_left text at (e ∷ es) l h =
    let read = element-exact.printed e (tree_text es) (l.fits e (here refl)) tt in
    let s = element-shortens (element_text e ++ tree_text es) e (tree_text es) read in
    let b = ap length l.bytes in
    let d = length-drop at text in
    absurd (omega (arith, s, b, d))

-- what a scan at the place finds
pub record First (text : List ℕ) (rest : Tree) (e : Element) (to : ℕ) : Type 0 where
  pub it : TheElement
  pub more : Tree
  pub lines : rest ≡ it ∷ more
  pub code : element_is it ≡ e
  pub left : Left text to more
  pub it-fits : ElementFits it
  pub it-range : InRange it

module _ (text : List ℕ) (at : ℕ) (r : Result (Cursor × Element) Cursor) (scan : got_element text r ≡ valued element_is (element (drop at text))) where
  -- the scan of what is left
  scanned : (e : TheElement) (es : Tree) → Left text at (e ∷ es) → got_element text r ≡ got (element_is e) (tree_text es)
  unfolding tree_text
  scanned e es l = scan ∙ ap (valued element_is) (ap element l.bytes ∙ element-exact.printed e (tree_text es) (l.fits e (here refl)) tt)

  first-line : (rest : Tree) → Left text at rest → at < length text → (e : Element) (next : Cursor) → r ≡ Ok (next, e) → First text rest e next.at
  unfolding tree_text
  first-line [] l h e next q = absurd (let b = ap length l.bytes in let d = length-drop at text in omega (arith, b, d))
  first-line (x ∷ xs) l h e next q =
      let z = is-inj (sym (ap (got_element text) q) ∙ scanned x xs l) in
      record {
        it = x;
        more = xs;
        lines = refl;
        code = sym (ap (λ g. g.value) z);
        left = record { bytes = ap (λ g. g.rest) z; fits = λ d m. l.fits d (there m); in-range = λ d m. l.in-range d (there m) };
        it-fits = l.fits x (here refl);
        it-range = l.in-range x (here refl);
      }

  line_on : (rest : Tree) → Left text at rest → at < length text → (e : Element) (next : Cursor) → r ≡ Ok (next, e)
      → length (drop next.at text) < length (drop at text)
  unfolding tree_text
  line_on [] l h e next q = absurd (let b = ap length l.bytes in let d = length-drop at text in omega (arith, b, d))
  line_on (x ∷ xs) l h e next q =
      let f = first-line (x ∷ xs) l h e next q in
      let read = element-exact.printed x (tree_text xs) (l.fits x (here refl)) tt in
      let s = element-shortens (element_text x ++ tree_text xs) x (tree_text xs) read in
      let b = ap length l.bytes in
      let z = is-inj (sym (ap (got_element text) q) ∙ scanned x xs l) in
      let c = ap (λ g. length g.rest) z in
      omega (arith, s, b, c)

-- ---- as `line_at` finds it
pub line-there : (text : List ℕ) (at : ℕ) (rest : Tree) → Left text at rest → at < length text → LineThere text at
unfolding tree_text
line-there text at [] l h = absurd (let b = ap length l.bytes in let d = length-drop at text in omega (arith, b, d))
line-there text at (e ∷ es) l h = record {
  it = e;
  behind = tree_text es;
  read = ap element l.bytes ∙ element-exact.printed e (tree_text es) (l.fits e (here refl)) tt;
}

module _ (text : List ℕ) (at : ℕ) (rest : Tree) (l : Left text at rest) (h : at < length text) (x : Line) (q : LineRead text at x) where
  pub first_read : First text rest x.element x.next
  first_read = first-line text at (Ok (record { at = x.next }, x.element)) q rest l h x.element (record { at = x.next }) refl

  pub fewer_bytes : length (drop x.next text) < length (drop at text)
  fewer_bytes = line_on text at (Ok (record { at = x.next }, x.element)) q rest l h x.element (record { at = x.next }) refl
