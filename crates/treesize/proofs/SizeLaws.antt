-- The rows and bytes of a tree's model, line by line: what is counted so far, with what is left, is the whole.
use mathlib.Core.Path.{◌≡◌, refl, sym, ◌∙◌, ap, ap₂}
use mathlib.Core.Option.{Option, none}
use mathlib.Core.Bool.{Bool, true, false, cond}
use mathlib.Core.List.{List, [], ◌∷◌}
use Prim.Native.Nat.{ℕ, zero, suc, ◌+◌, ◌*◌, ◌-◌, ◌≤◌, ◌<◌}
use native.Mathlib.Omega.{arith}
use lib.ListN.{length, length-append}
use lib.Bits.{or_comm, or_zero_r}
use Rattle.laws.specs.Sets.{◌∪◌, only}
use Rattle.laws.specs.Fold.{spread}
use Rattle.laws.proofs.TabLaws.{spread-length, sum-at-most}
use Rattle.answer.specs.Limits.{max_actions, max_components}
use Rattle.model.specs.Model.{Row, Comp, row_count}
use Rattle.model.specs.Text.{Kind, comp_text, row_lines, text_of}
use Rattle.measure.specs.Measure.{bare}
use Rattle.measure.proofs.Lines.{comp-by-head, text-more, no_text, rows-most}
use Rattle.measure.proofs.Bounds.{bare-most}
use Rattle.product.specs.declared.Tally.{Tally}
use Rattle.product.specs.Walk.{out_of, listed}
use Rattle.product.proofs.WalkLaws.{listed-rows, listed-bytes, listed-dry}
use Rattle.trees.specs.Module.{Module, those, is_in, is_out, is_uin, is_uout, comp_by}
use Rattle.trees.specs.Tree.{Sort, be-sort, and-sort, or-sort, pand-sort, rbox-sort, Element as TheElement, Tree, is_be, bes, boxed}
use Rattle.trees.specs.Tree.{signals_of, meant, meanings_from, meanings, at, meaning_of}
use Rattle.trees.specs.Modules.{bound, be_module, count_module, pand_module, box_module, clockless, module_for, components_from, tree_model}
use Rattle.treelines.specs.declared.Element.{Element}
use Rattle.treelines.specs.Elements.{sort_is}
use Rattle.treenames.specs.Names.{tree_in, LinesOf}
use Rattle.treenames.proofs.Passing.{Left, all_left, none_left, First}
use Rattle.elements.specs.Parts.{element_of, Fit, states_by, kind_for}
use Rattle.meanings.proofs.FirstLine.{it-is}
use Rattle.treerows.specs.Rows.{state_rows, element_rows}
use Rattle.treerows.specs.KindSets.{kinds_below, word_kind}
use Rattle.treerows.specs.declared.Kinds.{Kinds}
use Rattle.treerows.proofs.RowLaws.{state-few, states-low}
use Rattle.treerows.proofs.ModuleLaws.{module-states, module-kind, element-rows}
use Rattle.treesize.specs.Size.{clocks_for, next_be, bare_by, Roomy, Longer, Hold, Sized}

-- ---- sets of actions
none_first : (s : ℕ) → 0 ∪ s ≡ s
none_first s = or_comm 0 s ∙ or_zero_r s

those-same : (g h : ℕ → Bool) (n : ℕ) → ((a : ℕ) → a < n → g a ≡ h a) → those g n ≡ those h n
unfolding those
those-same g h zero e = refl
those-same g h (suc n) e = ap₂ (λ b s. cond b (only n) 0 ∪ s) (e n (omega arith)) (those-same g h n (λ a l. e a (omega (arith, l))))

those-more : (g : ℕ → Bool) (n m : ℕ) → ((a : ℕ) → n ≤ a → g a ≡ false) → those g (m + n) ≡ those g n
unfolding those
those-more g n zero e = ap (those g) (let z : 0 + n ≡ n = omega arith in z)
those-more g n (suc m) e =
    ap (those g) (let z : suc m + n ≡ suc (m + n) = omega arith in z)
    ∙ ap₂ (λ b s. cond b (only (m + n)) 0 ∪ s) (e (m + n) (omega arith)) (those-more g n m e) ∙ none_first (those g n)

module _ (t : Tree) (words : List ℕ) (h : Hold t words) (k : ℕ) (e : TheElement) where
  abbrev n : ℕ
  n = length (meanings t)

  abbrev m : Module
  m = module_for e.sort t k e

  at_none : {A : Type 0} (xs : List A) (j : ℕ) → length xs ≤ j → at xs j ≡ none
  unfolding at
  at_none [] j l = refl
  at_none (x ∷ xs) zero l = absurd (omega arith)
  at_none (x ∷ xs) (suc j) l = at_none xs j (omega (arith, l))

  kind-here : (a : ℕ) → a < n → m.kind a ≡ word_kind words e a
  unfolding word_kind
  kind-here a l = module-kind t k e e.sort a ∙ ap (λ o. bound o (kind_for e.sort e)) (h.means a l)

  kind-none : (a : ℕ) → n ≤ a → m.kind a ≡ none
  unfolding meaning_of
  kind-none a l = module-kind t k e e.sort a ∙ ap (λ o. bound o (kind_for e.sort e)) (at_none (meanings t) a l)

  pub kinds-whole : (g : Option Kind → Bool) → g none ≡ false → those (λ a. g (m.kind a)) max_actions ≡ those (λ a. g (word_kind words e a)) n
  kinds-whole g z =
      let split : max_actions ≡ (max_actions - n) + n = (let q = h.few in omega (arith, q)) in
      ap (those (λ a. g (m.kind a))) split ∙ those-more (λ a. g (m.kind a)) n (max_actions - n) (λ a l. ap g (kind-none a l) ∙ z)
      ∙ those-same (λ a. g (m.kind a)) (λ a. g (word_kind words e a)) n (λ a l. ap g (kind-here a l))

  pub clocks-are : (q : Sort) → (module_for q t k e).clocks ≡ clocks_for q k
  unfolding be_module count_module pand_module box_module clockless
  clocks-are be-sort = refl
  clocks-are and-sort = refl
  clocks-are or-sort = refl
  clocks-are pand-sort = refl
  clocks-are rbox-sort = refl

  abbrev c : Comp
  c = comp_by m

  bare-is : bare c.states c.start c.ins c.outs c.uins c.uouts c.clocks ≡ bare_by words n e k
  unfolding comp_by bare_by kinds_below
  bare-is =
      rw (
        module-states t k e e.sort,
        clocks-are e.sort,
        kinds-whole is_in refl,
        kinds-whole is_out refl,
        kinds-whole is_uin refl,
        kinds-whole is_uout refl,
      )

  rows_are : c.rows ≡ element_rows words n e k
  unfolding comp_by
  rows_are = element-rows t words (record { few = h.few; means = h.means }) k e

  pub line-bytes-are : length (comp_text c) ≡ length (comp_text (bare_by words n e k)) + length (row_lines (element_rows words n e k))
  line-bytes-are = comp-by-head c ∙ ap₂ (λ x rs. length (comp_text x) + length (row_lines rs)) bare-is rows_are

  pub line-rows-are : length c.rows ≡ length (element_rows words n e k)
  line-rows-are = ap length rows_are

-- ---- a component is not large
spread-few : (g : ℕ → List Row) (b j l : ℕ) → ((i : ℕ) → length (g i) ≤ b) → length (spread g j l) ≤ b * l
spread-few g b j l h = omega (arith, spread-length g j l, sum-at-most (λ i. length (g i)) b j l (λ i p q. h i))

pub element-few : (words : List ℕ) (count : ℕ) (e : Element) (k : ℕ) → Fit e → count ≤ max_actions → length (element_rows words count (element_of e) k) ≤ 4096
unfolding element_rows
element-few words count e k f h =
    let g = spread-few (state_rows words count (element_of e) k) max_actions 0 (states_by (element_of e))
    (λ s. let z = state-few words count (element_of e) k s in omega (arith, z, h)) in
    omega (arith, g, states-low e f)

pub bare-few : (words : List ℕ) (count : ℕ) (e : TheElement) (k : ℕ) → length (comp_text (bare_by words count e k)) ≤ 5000
unfolding bare_by
bare-few words count e k =
    let h = kinds_below (word_kind words e) count in
    bare-most (states_by e) 0 h.ins h.outs h.uins h.uouts (clocks_for e.sort k)

-- ---- what the walk that counts says
module _ (words : List ℕ) (count : ℕ) (e : TheElement) (k b : ℕ) (n r : Tally) (l l' : List ℕ) (eb : b ≡ length (comp_text (bare_by words count e k)))
    (w : out_of r l' ≡ listed 0 (element_rows words count e k) (out_of (record { rows = n.rows; bytes = n.bytes + b }) l)) where
  pub longer : Longer words count e k n r
  longer =
      let rs = element_rows words count e k in
      let o = out_of (record { rows = n.rows; bytes = n.bytes + b }) l in
      record {
        rows = ap (λ x. x.rows) w ∙ listed-rows 0 rs o;
        bytes = ap (λ x. x.bytes) w ∙ listed-bytes 0 rs o ∙ ap (λ x. n.bytes + x + length (row_lines rs)) eb;
      }

  pub as_lent : l' ≡ l
  as_lent = ap (λ x. x.words) w ∙ listed-dry (element_rows words count e k) (out_of (record { rows = n.rows; bytes = n.bytes + b }) l)

-- ---- every basic element has four actions
four : (v : ℕ) (q : Sort) (b : Bool) → 4 * cond (is_be q) 1 0 ≤ length (meant v (signals_of q b))
four v be-sort true = omega arith
four v be-sort false = omega arith
four v and-sort b = omega arith
four v or-sort b = omega arith
four v pand-sort b = omega arith
four v rbox-sort b = omega arith

bes-from : (t : Tree) (es : List TheElement) → 4 * bes es ≤ length (meanings_from t es)
unfolding bes meanings_from
bes-from t [] = omega arith
bes-from t (e ∷ es) =
    let ms = meant e.number (signals_of e.sort (boxed t e.number)) in
    omega (arith, four e.number e.sort (boxed t e.number), bes-from t es, length-append ms (meanings_from t es))

pub bes-few : (t : Tree) → 4 * bes t ≤ length (meanings t)
unfolding meanings
bes-few t = bes-from t t

-- ---- the loop over the lines
pub record Sizing (text words : List ℕ) (count : ℕ) (n : Tally) (k at : ℕ) : Type 0 where
  pub hold : Hold (tree_in text) words
  pub all : count ≡ length (meanings (tree_in text))
  pub room : length (tree_in text) ≤ max_components
  pub rest : Tree
  pub left : Left text at rest
  pub done : ℕ
  pub lines : done + length rest ≡ length (tree_in text)
  pub be : k + bes rest ≡ bes (tree_in text)
  pub rows : n.rows + row_count (components_from (tree_in text) k rest) ≡ row_count (tree_model (tree_in text))
  pub bytes : n.bytes + length (text_of (components_from (tree_in text) k rest)) ≡ length (text_of (tree_model (tree_in text)))
  pub rows-low : n.rows ≤ 4096 * done
  pub bytes_low : n.bytes ≤ 2102152 * done

pub sizing-begins : (text words : List ℕ) (count : ℕ) → LinesOf text (tree_in text) → Hold (tree_in text) words
    → count ≡ length (meanings (tree_in text)) → length (tree_in text) ≤ max_components
    → Sizing text words count (record { rows = 0; bytes = 0 }) 0 0
unfolding tree_model
sizing-begins text words count h w e r = record {
  hold = w;
  all = e;
  room = r;
  rest = tree_in text;
  left = all_left text (tree_in text) h;
  done = 0;
  lines = omega arith;
  be = omega arith;
  rows = omega arith;
  bytes = omega arith;
  rows-low = omega arith;
  bytes_low = omega arith;
}

pub bes-next : (q : Sort) (k b : ℕ) → next_be q k + b ≡ k + (cond (is_be q) 1 0 + b)
bes-next be-sort k b = omega arith
bes-next and-sort k b = omega arith
bes-next or-sort k b = omega arith
bes-next pand-sort k b = omega arith
bes-next rbox-sort k b = omega arith

pub be-next : (q : Sort) (k : ℕ) → cond (is_be q) (suc k) k ≡ next_be q k
be-next be-sort k = refl
be-next and-sort k = refl
be-next or-sort k = refl
be-next pand-sort k = refl
be-next rbox-sort k = refl

module _ (text words : List ℕ) (count : ℕ) (n : Tally) (k at : ℕ) (c : Sizing text words count n k at) where
  pub k-low : k ≤ 16
  k-low = omega (arith, bes-few (tree_in text), c.hold.few, c.be)

  pub count_low : count ≤ max_actions
  count_low = omega (arith, c.all, c.hold.few)

  pub roomy : Roomy n
  roomy = record { rows = omega (arith, c.rows-low, c.lines, c.room); bytes = omega (arith, c.bytes_low, c.lines, c.room) }

  pub sizing-done : length text ≤ at → Sized (tree_in text) n
  unfolding components_from row_count
  sizing-done h =
      let z = none_left text at c.rest c.left h in
      let a : row_count (components_from (tree_in text) k c.rest) ≡ 0 = ap (λ x. row_count (components_from (tree_in text) k x)) z in
      let b : length (text_of (components_from (tree_in text) k c.rest)) ≡ 0 = ap (λ x. length (text_of (components_from (tree_in text) k x))) z ∙ no_text in
      record { rows = omega (arith, a, c.rows); bytes = omega (arith, b, c.bytes) }

  module _ (e : Element) (to : ℕ) (q : First text c.rest e to) (f : Fit e) where
    pub sizing-on : (m : Tally) (j : ℕ) → Longer words count (element_of e) k n m → j ≡ next_be (sort_is e.sort) k → Sizing text words count m j to
    unfolding components_from row_count bes
    sizing-on m j l ej =
        let t = tree_in text in
        let it = it-is text c.rest e to q in
        let E = element_of e in
        let line : c.rest ≡ E ∷ q.more = q.lines ∙ ap (λ (x : TheElement). x ∷ q.more) (sym it) in
        let C = comp_by (module_for E.sort t k E) in
        let more : components_from t k c.rest ≡ C ∷ components_from t j q.more =
        ap (components_from t k) line ∙ ap (λ x. C ∷ components_from t x q.more) (be-next (sort_is e.sort) k ∙ sym ej) in
        let few = element-few words count e k f count_low in
        let head = bare-few words count E k in
        let long = rows-most (element_rows words count E k) in
        let rows-here : length C.rows ≡ length (element_rows words count E k) = line-rows-are t words c.hold k E
        ∙ ap (λ x. length (element_rows words x E k)) (sym c.all) in
        let bytes-here : length (comp_text C) ≡ length (comp_text (bare_by words count E k)) + length (row_lines (element_rows words count E k)) =
        line-bytes-are t words c.hold k E ∙ ap (λ x. length (comp_text (bare_by words x E k)) + length (row_lines (element_rows words x E k))) (sym c.all) in
        let rows_all = ap row_count more in
        let bytes-all = ap (λ x. length (text_of x)) more ∙ text-more C (components_from t j q.more) in
        let bes-all = ap bes line in
        let bes-on = bes-next (sort_is e.sort) k (bes q.more) in
        let count-on = ap length line in
        record {
          hold = c.hold;
          all = c.all;
          room = c.room;
          rest = q.more;
          left = q.left;
          done = c.done + 1;
          lines = omega (arith, c.lines, count-on);
          be = omega (arith, c.be, bes-all, bes-on, ej);
          rows = omega (arith, l.rows, c.rows, rows_all, rows-here);
          bytes = omega (arith, l.bytes, c.bytes, bytes-all, bytes-here);
          rows-low = omega (arith, l.rows, few, c.rows-low);
          bytes_low = omega (arith, l.bytes, few, head, long, c.bytes_low);
        }

-- the lines beside the rows, as the code has them
pub bytes-by : (words : List ℕ) (count : ℕ) (e : TheElement) (k : ℕ) (h : Kinds) (states clocks : ℕ) → h ≡ kinds_below (word_kind words e) count
    → states ≡ states_by e → clocks ≡ clocks_for e.sort k
    → length (comp_text (bare states 0 h.ins h.outs h.uins h.uouts clocks)) ≡ length (comp_text (bare_by words count e k))
unfolding bare_by
bytes-by words count e k h states clocks p q r =
    ap (λ (x : Kinds). length (comp_text (bare states 0 x.ins x.outs x.uins x.uouts clocks))) p
    ∙ ap₂ (λ x y. let g = kinds_below (word_kind words e) count in length (comp_text (bare x 0 g.ins g.outs g.uins g.uouts y))) q r
