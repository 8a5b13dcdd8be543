-- A walk over the lines of a text that writes: what is written so far, with what the lines from here on are to write, is the whole.
use mathlib.Core.Path.{◌≡◌, refl, sym, ◌∙◌, ap, ap₂}
use mathlib.Core.Bool.{true}
use mathlib.Core.List.{List, [], ◌∷◌, ◌++◌}
use Prim.Native.Nat.{ℕ, suc, ◌+◌, ◌*◌, ◌-◌, ◌≤◌, ◌<◌}
use native.Mathlib.Omega.{arith}
use lib.ListN.{length, set, length-append}
use lib.Seq.{sets, length-sets}
use Rattle.answer.specs.Limits.{max_actions, max_components, max_rows}
use Rattle.model.specs.Model.{Comp, Model, row_count}
use Rattle.layout.specs.Layout.{block_words, row_words, rows_at, image_words}
use Rattle.layout.specs.Image.{block_of, blocks_of, rows_of, all_rows_of, zeros, image_of}
use Rattle.layout.proofs.ReadBack.{block-length, blocks-length, rows-length, all-rows-length}
use Rattle.fill.specs.Words.{zeros_of}
use Rattle.fill.proofs.FillLaws.{sets-append, then-sets, zeros-are}
use Rattle.product.specs.declared.Tally.{Tally}
use Rattle.product.specs.Walk.{out_of, listed}
use Rattle.product.proofs.WalkLaws.{listed-rows, listed-wet}
use Rattle.merging.specs.Starts.{firsts_of, head_of}
use Rattle.merging.specs.Parts.{front_part, row_part}
use Rattle.merging.proofs.MovedBlocks.{head-length, block-parts}
use Rattle.merging.proofs.ImageParts.{front_length, image-parts}
use Rattle.trees.specs.Tree.{Element as TheElement, Tree, bes}
use Rattle.trees.specs.Modules.{components_from, tree_model}
use Rattle.trees.specs.ReadTree.{fitting}
use Rattle.trees.proofs.Answers.{limits-exactly}
use Rattle.treelines.specs.declared.Element.{Element}
use Rattle.treelines.specs.Elements.{sort_is}
use Rattle.treenames.specs.Names.{tree_in, LinesOf}
use Rattle.treenames.proofs.Passing.{Left, all_left, none_left, First}
use Rattle.elements.specs.Parts.{element_of}
use Rattle.meanings.specs.declared.Named.{Named}
use Rattle.meanings.specs.Words.{NamedBy}
use Rattle.meanings.proofs.FirstLine.{it-is}
use Rattle.treerows.specs.Rows.{element_rows}
use Rattle.treesize.specs.Size.{next_be}
use Rattle.treesize.proofs.SizeLaws.{bes-few, bes-next, be-next}
use Rattle.treesize.proofs.FitLaws.{named-hold, named-long}
use Rattle.planting.specs.Planted.{plant_of, Plantable}
use Rattle.planting.proofs.PlantLaws.{plant-is}

-- the lines that are left, after n rows and k basic elements
pub record Walked (text words : List ℕ) (count n k at : ℕ) : Type 0 where
  pub plan : Plantable text words count
  pub rest : Tree
  pub left : Left text at rest
  pub done : ℕ
  pub lines : done + length rest ≡ length (tree_in text)
  pub be : k + bes rest ≡ bes (tree_in text)
  pub rows : n + row_count (components_from (tree_in text) k rest) ≡ row_count (tree_model (tree_in text))

walked-begins : (text words : List ℕ) (count : ℕ) → Plantable text words count → Walked text words count 0 0 0
unfolding tree_model
walked-begins text words count p =
    record { plan = p; rest = tree_in text; left = all_left text (tree_in text) p.lines; done = 0; lines = omega arith; be = omega arith; rows = omega arith }

module _ (text words : List ℕ) (count n k at : ℕ) (c : Walked text words count n k at) where
  pub k-low : k ≤ 16
  k-low = omega (arith, bes-few (tree_in text), c.plan.hold.few, c.be)

  pub count_low : count ≤ max_actions
  count_low = omega (arith, c.plan.all, c.plan.hold.few)

  none_more : length text ≤ at → c.rest ≡ []
  none_more h = none_left text at c.rest c.left h

  module _ (e : Element) (to : ℕ) (q : First text c.rest e to) where
    line-is : c.rest ≡ element_of e ∷ q.more
    line-is = q.lines ∙ ap (λ (x : TheElement). x ∷ q.more) (sym (it-is text c.rest e to q))

    line-more : (j : ℕ) → j ≡ next_be (sort_is e.sort) k
        → components_from (tree_in text) k c.rest ≡ plant_of words count (element_of e) k ∷ components_from (tree_in text) j q.more
    unfolding components_from
    line-more j ej =
        let t = tree_in text in
        ap (components_from t k) line-is
        ∙ ap₂ (λ (x : Comp) (y : Model). x ∷ y) (plant-is t words c.plan.hold k (element_of e) ∙ ap (λ x. plant_of words x (element_of e) k)
        (sym c.plan.all))
        (ap (λ x. components_from t x q.more) (be-next (sort_is e.sort) k ∙ sym ej))

    rows_split : (j : ℕ) → j ≡ next_be (sort_is e.sort) k
        → row_count (components_from (tree_in text) k c.rest) ≡ length (element_rows words count (element_of e) k) + row_count
        (components_from (tree_in text) j q.more)
    unfolding row_count plant_of
    rows_split j ej = ap row_count (line-more j ej)

    pub rows_fit : n + length (element_rows words count (element_of e) k) ≤ max_rows
    rows_fit = let r = rows_split (next_be (sort_is e.sort) k) refl in omega (arith, r, c.rows, c.plan.rows)

    pub line-fits : c.done < max_components
    line-fits = let l = ap length line-is in omega (arith, l, c.lines, c.plan.components)

    walked_on : (m j : ℕ) → m ≡ n + length (element_rows words count (element_of e) k) → j ≡ next_be (sort_is e.sort) k → Walked text words count m j to
    unfolding bes
    walked_on m j em ej =
        let r = rows_split j ej in
        let l = ap length line-is in
        let b = ap bes line-is in
        let s = bes-next (sort_is e.sort) k (bes q.more) in
        record {
          plan = c.plan;
          rest = q.more;
          left = q.left;
          done = c.done + 1;
          lines = omega (arith, c.lines, l);
          be = omega (arith, c.be, b, s, ej);
          rows = omega (arith, em, r, c.rows);
        }

-- ---- the blocks
pub record Blocking (text words : List ℕ) (count : ℕ) (into₀ into : List ℕ) (n k i at : ℕ) : Type 0 where
  pub walked : Walked text words count n k at
  pub index : i ≡ walked.done
  pub long : length into ≡ length into₀
  pub written : sets into (1 + block_words * i) (blocks_of n (components_from (tree_in text) k walked.rest))
      ≡ sets into₀ 1 (blocks_of 0 (tree_model (tree_in text)))

pub blocking-begins : (text words : List ℕ) (count : ℕ) (into : List ℕ) → Plantable text words count → Blocking text words count into into 0 0 0 0
unfolding tree_model walked-begins
blocking-begins text words count into p = record { walked = walked-begins text words count p; index = refl; long = refl; written = refl }

module _ (text words : List ℕ) (count : ℕ) (into₀ into : List ℕ) (n k i at : ℕ) (c : Blocking text words count into₀ into n k i at) where
  pub blocking-done : length text ≤ at → into ≡ sets into₀ 1 (blocks_of 0 (tree_model (tree_in text)))
  unfolding components_from blocks_of
  blocking-done h =
      let z = none_more text words count n k at c.walked h in
      ap (λ x. sets into (1 + block_words * i) (blocks_of n (components_from (tree_in text) k x))) (sym z) ∙ c.written

  module _ (e : Element) (to : ℕ) (q : First text c.walked.rest e to) where
    pub block-fits : 1 + block_words * i + block_words ≤ image_words
    block-fits = let l = line-fits text words count n k at c.walked e to q in omega (arith, l, c.index)

    pub blocking-on : (l : List ℕ) (m j : ℕ) → l ≡ sets into (1 + block_words * i) (block_of n (plant_of words count (element_of e) k))
        → m ≡ n + length (element_rows words count (element_of e) k) → j ≡ next_be (sort_is e.sort) k → Blocking text words count into₀ l m j (i + 1) to
    unfolding blocks_of plant_of walked_on
    blocking-on l m j el em ej =
        let t = tree_in text in
        let C = plant_of words count (element_of e) k in
        let B = block_of n C in
        let cs = components_from t j q.more in
        let P = 1 + block_words * i in
        let p : 1 + block_words * (i + 1) ≡ P + length B = omega (arith, block-length n C) in
        record {
          walked = walked_on text words count n k at c.walked e to q m j em ej;
          index = omega (arith, c.index);
          long = ap length el ∙ length-sets into P B ∙ c.long;
          written =
              ap (λ x. sets x (1 + block_words * (i + 1)) (blocks_of m cs)) el
              ∙ ap (λ x. sets (sets into P B) x (blocks_of m cs)) p
              ∙ sym (sets-append into B (blocks_of m cs) P)
              ∙ ap (λ x. sets into P (B ++ blocks_of x cs)) em
              ∙ ap (λ x. sets into P (blocks_of n x)) (sym (line-more text words count n k at c.walked e to q j ej))
              ∙ c.written;
        }

-- ---- the rows
pub record Rowing (text words : List ℕ) (count : ℕ) (into₀ into : List ℕ) (n k at : ℕ) : Type 0 where
  pub walked : Walked text words count n k at
  pub long : length into ≡ length into₀
  pub written : sets into (rows_at + row_words * n) (all_rows_of (components_from (tree_in text) k walked.rest))
      ≡ sets into₀ rows_at (all_rows_of (tree_model (tree_in text)))

pub rowing-begins : (text words : List ℕ) (count : ℕ) (into : List ℕ) → Plantable text words count → Rowing text words count into into 0 0 0
unfolding tree_model walked-begins
rowing-begins text words count into p = record { walked = walked-begins text words count p; long = refl; written = refl }

module _ (text words : List ℕ) (count : ℕ) (into₀ into : List ℕ) (n k at : ℕ) (c : Rowing text words count into₀ into n k at) where
  pub rowing-done : length text ≤ at → (into ≡ sets into₀ rows_at (all_rows_of (tree_model (tree_in text)))) × (n ≡ row_count (tree_model (tree_in text)))
  unfolding components_from all_rows_of row_count
  rowing-done h =
      let z = none_more text words count n k at c.walked h in
      let r : row_count (components_from (tree_in text) k c.walked.rest) ≡ 0 = ap (λ x. row_count (components_from (tree_in text) k x)) z in
      (ap (λ x. sets into (rows_at + row_words * n) (all_rows_of (components_from (tree_in text) k x))) (sym z) ∙ c.written, omega (arith, r, c.walked.rows))

  module _ (e : Element) (to : ℕ) (q : First text c.walked.rest e to) where
    pub rowing-on : (l : List ℕ) (m : Tally) (j : ℕ) → out_of m l ≡ listed max_rows (element_rows words count (element_of e) k)
        (out_of (record { rows = n; bytes = 0 }) into)
        → j ≡ next_be (sort_is e.sort) k → Rowing text words count into₀ l m.rows j to
    unfolding all_rows_of plant_of walked_on
    rowing-on l m j f ej =
        let t = tree_in text in
        let rs = element_rows words count (element_of e) k in
        let o = out_of (record { rows = n; bytes = 0 }) into in
        let R = rows_of rs in
        let cs = all_rows_of (components_from t j q.more) in
        let P = rows_at + row_words * n in
        let em : m.rows ≡ n + length rs = ap (λ x. x.rows) f ∙ listed-rows max_rows rs o in
        let el : l ≡ sets into P R = ap (λ x. x.words) f ∙ listed-wet max_rows rs o (rows_fit text words count n k at c.walked e to q) in
        let p : rows_at + row_words * m.rows ≡ P + length R = omega (arith, em, rows-length rs) in
        record {
          walked = walked_on text words count n k at c.walked e to q m.rows j em ej;
          long = ap length el ∙ length-sets into P R ∙ c.long;
          written =
              ap (λ x. sets x (rows_at + row_words * m.rows) cs) el
              ∙ ap (λ x. sets (sets into P R) x cs) p
              ∙ sym (sets-append into R cs P)
              ∙ ap (λ x. sets into P (all_rows_of x)) (sym (line-more text words count n k at c.walked e to q j ej))
              ∙ c.written;
        }

-- ---- the parts
pub block_written : (l l' l'' : List ℕ) (at n : ℕ) (c : Comp) → l' ≡ sets l at (head_of c) → l'' ≡ sets l' (at + 8) (firsts_of n c) → l'' ≡ sets l at (block_of n c)
block_written l l' l'' at n c e f =
    then-sets l l' l'' (head_of c) (firsts_of n c) at (at + 8) e (omega (arith, head-length c)) f ∙ ap (sets l at) (sym (block-parts n c))

components-many : (t : Tree) (k : ℕ) (es : Tree) → length (components_from t k es) ≡ length es
unfolding components_from
components-many t k [] = refl
components-many t k (e ∷ es) = ap suc (components-many t _ es)

module _ (t : Tree) where
  many : length (tree_model t) ≡ length t
  unfolding tree_model
  many = components-many t 0 t

  pub front-written : (l l₁ l₂ : List ℕ) (components : ℕ) → components ≡ length t → l₁ ≡ sets (set l 0 components) 1 (blocks_of 0 (tree_model t))
      → l₂ ≡ sets l₁ (1 + block_words * components) (zeros_of (block_words * (max_components - components))) → l₂ ≡ sets l 0 (front_part (tree_model t))
  unfolding front_part zeros
  front-written l l₁ l₂ components ec e₁ e₂ =
      let m = tree_model t in
      let C : List ℕ = components ∷ [] in
      let B = blocks_of 0 m in
      let Z = zeros_of (block_words * (max_components - components)) in
      let n : components ≡ length m = ec ∙ sym many in
      let f₁ = then-sets l (set l 0 components) l₁ C B 0 1 refl refl e₁ in
      let f₂ = then-sets l l₁ l₂ (C ++ B) Z 0 (1 + block_words * components) f₁ (omega (arith, n, blocks-length 0 m, length-append C B)) e₂ in
      f₂ ∙ ap (λ x. sets l 0 (components ∷ (B ++ x))) (zeros-are (block_words * (max_components - components)))
      ∙ ap (λ x. sets l 0 (x ∷ (B ++ zeros (block_words * (max_components - x))))) n

  pub rows_written : (l l₁ l₂ : List ℕ) (n : ℕ) → n ≡ row_count (tree_model t) → l₁ ≡ sets l rows_at (all_rows_of (tree_model t))
      → l₂ ≡ sets l₁ (rows_at + row_words * n) (zeros_of (row_words * (max_rows - n))) → l₂ ≡ sets l rows_at (row_part (tree_model t))
  unfolding row_part zeros
  rows_written l l₁ l₂ n en e₁ e₂ =
      let m = tree_model t in
      let R = all_rows_of m in
      let Z = zeros_of (row_words * (max_rows - n)) in
      then-sets l l₁ l₂ R Z rows_at (rows_at + row_words * n) e₁ (omega (arith, en, all-rows-length m)) e₂
      ∙ ap (λ x. sets l rows_at (R ++ x)) (zeros-are (row_words * (max_rows - n)))
      ∙ ap (λ x. sets l rows_at (R ++ zeros (row_words * (max_rows - x)))) en

  pub image-written : (l l' l'' : List ℕ) → length t ≤ max_components → l' ≡ sets l 0 (front_part (tree_model t))
      → l'' ≡ sets l' rows_at (row_part (tree_model t)) → l'' ≡ sets l 0 (image_of (tree_model t))
  image-written l l' l'' h e f =
      let m = tree_model t in
      then-sets l l' l'' (front_part m) (row_part m) 0 rows_at e (omega (arith, front_length m (omega (arith, many, h)))) f ∙ ap (sets l 0) (sym (image-parts m))

-- ---- what the names of the actions are known to be
pub plantable : (text old new : List ℕ) (r : Named) → LinesOf text (tree_in text) → fitting (tree_in text) ≡ true → NamedBy (tree_in text) old r new
    → length old ≡ max_actions → Plantable text new r.actions
plantable text old new r h f n l =
    let i = (limits-exactly (tree_in text)).0 f in
    record {
      lines = h;
      hold = named-hold (tree_in text) old new r n l i.actions;
      long = named-long (tree_in text) old new r n l i.actions;
      all = n.actions;
      components = i.components;
      rows = i.rows;
    }
