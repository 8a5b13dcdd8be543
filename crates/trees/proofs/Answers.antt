-- Every answer to a tree's text is the one that the definitions as relations have, and there is no other.
use mathlib.Core.Path.{◌≡◌, refl, sym, ◌∙◌, ap, ap₂, subst}
use mathlib.Core.Logic.{◌⊎◌, inl, inr, ◌↔◌}
use mathlib.Core.Option.{Option, none, some, some_inj}
use mathlib.Core.Bool.{Bool, true, false, true≢false, not}
use mathlib.Core.List.Memᴰ.{head as here}
use mathlib.Core.List.{List, [], ◌∷◌, ◌++◌, head-eq_of_cons-eq, tail-eq_of_cons-eq, Memᴰ as In}
use mathlib.Core.List.Memᴰ.{not-nil as in-none}
use mathlib.Core.List.Memᴰ.{tail as there}
use Prim.Native.Nat.{ℕ, suc, ◌+◌, ◌*◌}
use native.Mathlib.Omega.{arith}
use lib.ListN.{length}
use lib.Dec.{leb}
use borrow.Author.Tests.{leb-true, le-leb}
use Rattle.laws.specs.Search.{when, is_some, map_some}
use Rattle.laws.proofs.SearchLaws.{no-some}
use Rattle.laws.proofs.TestLaws.{and-true, not_so}
use Rattle.answer.specs.Limits.{max_components, max_rows, max_actions, max_clocks, max_bytes}
use Rattle.answer.specs.Told.{Told, tell, Answer, answered, refused}
use Rattle.model.specs.Model.{Model, row_count}
use Rattle.model.specs.Text.{text_of}
use Rattle.trees.specs.Tree.{Element, Tree, bes, meanings}
use Rattle.trees.specs.Modules.{tree_model}
use Rattle.trees.specs.TreeText.{numbers_of, column_of, lines_from, line_of, unknown, some_of, unknown_from, unless, all_known, tree_of}
use Rattle.trees.specs.Conditions.{Proper, condition_of}
use Rattle.trees.specs.ReadTree.{InLimits, fitting, condition_told, limit_told, modelled, read_tree_of}
use Rattle.trees.specs.TreeFaults.{FirstNumber, Drawn, Known, UnknownAt, AllKnown, TextOf, TreeAnswer, is-fault, is5}
use Rattle.trees.specs.TreeFaults.{is47, is48, is-model}
use Rattle.trees.proofs.Lookup.{some-of-in, none_of, line-in, in-line}
use Rattle.trees.proofs.FirstNumber.{first-number, one-first-number}
use Rattle.trees.proofs.Faults.{Ends, as-tree, at-fault, text-ends, fault-read, tree-lines}
use Rattle.trees.proofs.Broken.{condition-exactly, proper-exactly}

-- ---- 5
not-unknown : (t : Tree) → Drawn t → (v : ℕ) → (unknown t v ≡ false) ↔ Known t v
not-unknown t d v = (λ h. to (line_of t v) refl h, λ k. back k)
  where
    to : (o : Option Element) → line_of t v ≡ o → not (is_some (line_of t v)) ≡ false → Known t v
    to none q h = absurd (true≢false (ap (λ o. not (is_some o)) (sym q) ∙ h))
    to (some e) q h = let r = line-in t v e q in (e, r.0, r.1)

    back : Known t v → not (is_some (line_of t v)) ≡ false
    back k = ap (λ o. not (is_some o)) (ap (line_of t) (sym k.2) ∙ in-line t d.ascends k.0 k.1)

-- an element's own number is known: its line defines it
own-known : (t : Tree) (e : Element) → In e t → Known t e.number
own-known t e m = (e, m, refl)

in-numbers : (e : Element) (v : ℕ) → In v (numbers_of e) → (v ≡ e.number) ⊎ In v e.ins
in-numbers e v (here q) = inl q
in-numbers e v (there m) = inr m

middle : {A : Type 0} (xs : List A) (x : A) (ys : List A) → In x (xs ++ x ∷ ys)
middle [] x ys = here refl
middle (y ∷ xs) x ys = there (middle xs x ys)

-- a line with a number that is not known has such an input
lacking : (t : Tree) (u : Element) {c : ℕ} → In u t → FirstNumber (Known t) u c → ((v : ℕ) → In v u.ins → Known t v) → ⊥
lacking t u m f k = go (in-numbers u f.number (subst (In f.number) (sym f.numbers) (middle f.before f.number f.behind)))
  where
    go : (f.number ≡ u.number) ⊎ In f.number u.ins → ⊥
    go (inl e) = f.fault (subst (Known t) (sym e) (own-known t u m))
    go (inr i) = f.fault (k f.number i)

-- the lines from line n on: the first that has an unknown input
record Found (t : Tree) (n : ℕ) (es : Tree) (f : Told) : Type 0 where
  before : Tree
  element : Element
  behind : Tree
  lines : es ≡ before ++ element ∷ behind
  known : (e : Element) → In e before → (v : ℕ) → In v e.ins → Known t v
  column : ℕ
  first : FirstNumber (Known t) element column
  told : f ≡ tell 5 ((n + length before) ∷ column ∷ [])

module _ (t : Tree) (d : Drawn t) where
  unknown-here : (n : ℕ) (e : Element) (es : Tree) → some_of (unknown t) (numbers_of e) ≡ true
      → unknown_from t n (e ∷ es) ≡ some (tell 5 (n ∷ column_of (unknown t) e ∷ []))
  unfolding unknown_from
  unknown-here n e es h = rw (h, unknown_from)

  unknown-there : (n : ℕ) (e : Element) (es : Tree) → some_of (unknown t) (numbers_of e) ≡ false → unknown_from t n (e ∷ es) ≡ unknown_from t (suc n) es
  unfolding unknown_from
  unknown-there n e es h = rw (h, unknown_from)

  line_known : (e : Element) → some_of (unknown t) (numbers_of e) ≡ false → (v : ℕ) → In v e.ins → Known t v
  line_known e h v m = (not-unknown t d v).0 (none_of (unknown t) (numbers_of e) h v (there m))

  line_first : (e : Element) → some_of (unknown t) (numbers_of e) ≡ true → FirstNumber (Known t) e (column_of (unknown t) e)
  line_first e h = let r = some-of-in (unknown t) (numbers_of e) h in first-number (Known t) (unknown t) (not-unknown t d) e r.0 r.1 r.2

  found : (n : ℕ) (es : Tree) (f : Told) → unknown_from t n es ≡ some f → Found t n es f
  unfolding unknown_from
  found n [] f h = absurd (no-some refl h)
  found n (e ∷ es) f h = go (found (suc n) es f) (some_of (unknown t) (numbers_of e)) refl
    where
      go : (unknown_from t (suc n) es ≡ some f → Found t (suc n) es f) → (b : Bool) → some_of (unknown t) (numbers_of e) ≡ b → Found t n (e ∷ es) f
      go ih true q =
          let z = some_inj.0 (sym (unknown-here n e es q) ∙ h) in
          record {
            before = [];
            element = e;
            behind = es;
            lines = refl;
            known = λ x m. absurd (in-none m);
            column = column_of (unknown t) e;
            first = line_first e q;
            told = sym z ∙ ap (λ k. tell 5 (k ∷ column_of (unknown t) e ∷ [])) (let y : n ≡ n + 0 = omega arith in y);
          }
      go ih false q =
          let r = ih (sym (unknown-there n e es q) ∙ h) in
          record {
            before = e ∷ r.before;
            element = r.element;
            behind = r.behind;
            lines = ap {B = Tree} (λ l. e ∷ l) r.lines;
            known = known-too r q;
            column = r.column;
            first = r.first;
            told = r.told ∙ ap (λ k. tell 5 (k ∷ r.column ∷ [])) (let y : suc n + length r.before ≡ n + suc (length r.before) = omega arith in y);
          }
        where
          known-too : (r : Found t (suc n) es f) → some_of (unknown t) (numbers_of e) ≡ false → (x : Element) → In x (e ∷ r.before) → (v : ℕ)
              → In v x.ins → Known t v
          known-too r q x (here z) v i = line_known e q v (subst (λ (y : Element). In v y.ins) z i)
          known-too r q x (there m) v i = r.known x m v i

  all_known_lem : (n : ℕ) (es : Tree) → unknown_from t n es ≡ none → (e : Element) → In e es → (v : ℕ) → In v e.ins → Known t v
  unfolding unknown_from
  all_known_lem n [] h e m = absurd (in-none m)
  all_known_lem n (x ∷ es) h e m = go (all_known_lem (suc n) es) (some_of (unknown t) (numbers_of x)) refl m
    where
      go : (unknown_from t (suc n) es ≡ none → (e : Element) → In e es → (v : ℕ) → In v e.ins → Known t v) → (b : Bool) → some_of (unknown t) (numbers_of x) ≡ b
          → In e (x ∷ es) → (v : ℕ) → In v e.ins → Known t v
      go ih true q m v i = absurd (no-some h (unknown-here n x es q))
      go ih false q (here z) v i = line_known x q v (subst (λ (y : Element). In v y.ins) z i)
      go ih false q (there m) v i = ih (sym (unknown-there n x es q) ∙ h) e m v i

  -- 5, as the relation has it
  unknown-at : (f : Told) → unknown_from t 1 t ≡ some f → (k : ℕ) × (column : ℕ) × UnknownAt t k column × (f ≡ tell 5 (k ∷ column ∷ []))
  unknown-at f h =
      let r = found 1 t f h in (
        1 + length r.before,
        r.column,
        record { before = r.before; element = r.element; behind = r.behind; lines = r.lines; at = omega arith; known = r.known; first = r.first },
        r.told,
      )

  -- where an input is unknown, not all are known
  one-unknown : {k column : ℕ} → UnknownAt t k column → AllKnown t → ⊥
  one-unknown u a =
      let m = subst (In u.element) (sym u.lines) (middle u.before u.element u.behind) in
      lacking t u.element m u.first (a.known u.element m)

-- ---- 48
pub limits-exactly : (t : Tree) → (fitting t ≡ true) ↔ InLimits t
unfolding fitting
limits-exactly t = (
  λ h.
      let a = and-true (leb (length t) max_components) _ h in
      let b = and-true (leb (length (meanings t)) max_actions) _ a.1 in
      let c = and-true (leb (2 * bes t) max_clocks) _ b.1 in
      let d = and-true (leb (row_count (tree_model t)) max_rows) _ c.1 in
      record {
        components = leb-true (length t) max_components a.0;
        actions = leb-true (length (meanings t)) max_actions b.0;
        clocks = leb-true (2 * bes t) max_clocks c.0;
        rows = leb-true (row_count (tree_model t)) max_rows d.0;
        bytes = leb-true (length (text_of (tree_model t))) max_bytes d.1;
      },
  λ l. rw (
    le-leb (length t) max_components l.components,
    le-leb (length (meanings t)) max_actions l.actions,
    le-leb (2 * bes t) max_clocks l.clocks,
    le-leb (row_count (tree_model t)) max_rows l.rows,
    le-leb (length (text_of (tree_model t))) max_bytes l.bytes,
  ),
)

-- ---- the whole answer
-- reading the lines: a fault, or the tree that is drawn
tree-or-fault : (text : List ℕ) (a : Answer Model) → modelled (all_known (lines_from (length text) 1 0 text)) ≡ a → TreeAnswer text a
tree-or-fault text a e = go (lines_from (length text) 1 0 text) (text-ends text) e
  where
    limited : (t : Tree) → TextOf text t → AllKnown t → Proper t → (b : Bool) → fitting t ≡ b
        → unless (when (not b) limit_told) (answered (tree_model t)) ≡ a → TreeAnswer text a
    limited t w k p true q e = subst (TreeAnswer text) e (is-model w k p ((limits-exactly t).0 q))
    limited t w k p false q e = subst (TreeAnswer text) e (is48 w k p (λ l. true≢false (sym ((limits-exactly t).1 l) ∙ q)))

    conditioned : (t : Tree) → TextOf text t → AllKnown t → (o : Option ℕ) → condition_of t ≡ o
        → unless (map_some condition_told o) (unless (when (not (fitting t)) limit_told) (answered (tree_model t))) ≡ a → TreeAnswer text a
    conditioned t w k (some n) q e = subst (TreeAnswer text) e (is47 w k ((condition-exactly t w.drawn.ascends w.drawn.in-range k n).0 q))
    conditioned t w k none q e = limited t w k ((proper-exactly t w.drawn.ascends w.drawn.in-range k).0 q) (fitting t) refl e

    named : (t : Tree) → TextOf text t → (o : Option Told) → unknown_from t 1 t ≡ o → modelled (unless o (answered t)) ≡ a → TreeAnswer text a
    named t w (some f) q e =
        let r = unknown-at t w.drawn f q in
        subst (TreeAnswer text) (ap {B = Answer Model} refused (sym r.3) ∙ e) (is5 w r.2)
    named t w none q e = conditioned t w (record { known = all_known_lem t w.drawn 1 t q }) (condition_of t) refl e

    go : (l : Answer Tree) → Ends text 0 text l → modelled (all_known l) ≡ a → TreeAnswer text a
    go l (at-fault f q) e = subst (TreeAnswer text) (ap (λ x. modelled (all_known x)) (sym q) ∙ e) (is-fault f)
    go l (as-tree t b fits range up q) e =
        named t (record { drawn = record { fits = fits; in-range = range; ascends = up }; bytes = sym b }) (unknown_from t 1 t) refl
        (ap (λ x. modelled (all_known x)) (sym q) ∙ e)

-- the text of a tree without a fault of a line
of_tree : (text : List ℕ) (t : Tree) → TextOf text t → read_tree_of text ≡ modelled (unless (unknown_from t 1 t) (answered t))
unfolding read_tree_of tree_of
of_tree text t w = ap (λ b. modelled (all_known (lines_from (length b) 1 0 b))) (sym w.bytes) ∙ ap (λ x. modelled (all_known x)) (tree-lines t w.drawn)

none-unknown : (text : List ℕ) (t : Tree) → TextOf text t → AllKnown t → (o : Option Told) → unknown_from t 1 t ≡ o → unknown_from t 1 t ≡ none
none-unknown text t w k none q = q
none-unknown text t w k (some f) q = let r = unknown-at t w.drawn f q in absurd (one-unknown t w.drawn r.2 k)

of-known : (text : List ℕ) (t : Tree) → TextOf text t → AllKnown t
    → read_tree_of text ≡ unless (map_some condition_told (condition_of t)) (unless (when (not (fitting t)) limit_told) (answered (tree_model t)))
of-known text t w k = of_tree text t w ∙ ap (λ o. modelled (unless o (answered t))) (none-unknown text t w k (unknown_from t 1 t) refl)

of-proper : (text : List ℕ) (t : Tree) → TextOf text t → AllKnown t → Proper t → read_tree_of text ≡ unless (when (not (fitting t)) limit_told)
    (answered (tree_model t))
of-proper text t w k p =
    of-known text t w k
    ∙ ap (λ o. unless (map_some condition_told o) (unless (when (not (fitting t)) limit_told) (answered (tree_model t))))
    ((proper-exactly t w.drawn.ascends w.drawn.in-range k).1 p)

-- two first lines with an unknown input are one
same-unknown : (t : Tree) → Drawn t → {j k c d : ℕ} → UnknownAt t j c → UnknownAt t k d → (j ≡ k) × (c ≡ d)
same-unknown t w a b = (
  a.at ∙ ap (λ (l : Tree). suc (length l)) z.0 ∙ sym b.at,
  one-first-number (subst (λ x. FirstNumber (Known t) x _) z.1 a.first) b.first,
)
  where
    -- the lines that both have
    same : (p q : Tree) (x y : Element) (r s : Tree) {c d : ℕ} → p ++ x ∷ r ≡ q ++ y ∷ s → ((e : Element) → In e (p ++ x ∷ r) → In e t)
        → ((e : Element) → In e (q ++ y ∷ s) → In e t)
        → FirstNumber (Known t) x c → FirstNumber (Known t) y d
        → ((e : Element) → In e p → (v : ℕ) → In v e.ins → Known t v) → ((e : Element) → In e q → (v : ℕ) → In v e.ins → Known t v) → (p ≡ q) × (x ≡ y)
    same [] [] x y r s e m n f g k l = (refl, head-eq_of_cons-eq e)
    same [] (z ∷ q) x y r s e m n f g k l = absurd (lacking t x (m x (here refl)) f (l x (here (head-eq_of_cons-eq e))))
    same (z ∷ p) [] x y r s e m n f g k l = absurd (lacking t y (n y (here refl)) g (k y (here (sym (head-eq_of_cons-eq e)))))
    same (z ∷ p) (w ∷ q) x y r s e m n f g k l =
        let i = same p q x y r s (tail-eq_of_cons-eq e) (λ d h. m d (there h)) (λ d h. n d (there h)) f g (λ d h. k d (there h)) (λ d h. l d (there h)) in
        (ap₂ {C = Tree} (λ u v. u ∷ v) (head-eq_of_cons-eq e) i.0, i.1)

    z : (a.before ≡ b.before) × (a.element ≡ b.element)
    z =
        same a.before b.before a.element b.element a.behind b.behind (sym a.lines ∙ b.lines)
        (λ e m. subst (In e) (sym a.lines) m) (λ e m. subst (In e) (sym b.lines) m) a.first b.first a.known b.known

-- every answer, and no other
answer-read : (text : List ℕ) {a : Answer Model} → TreeAnswer text a → read_tree_of text ≡ a
unfolding read_tree_of tree_of
answer-read text (is-fault {n} {k} {column} f) = ap (λ x. modelled (all_known x)) (fault-read text n k column f)
answer-read text (is5 {t} {k} {column} w u) = go (unknown_from t 1 t) refl
  where
    go : (o : Option Told) → unknown_from t 1 t ≡ o → read_tree_of text ≡ refused (tell 5 (k ∷ column ∷ []))
    go none q = absurd (one-unknown t w.drawn u (record { known = all_known_lem t w.drawn 1 t q }))
    go (some f) q =
        let r = unknown-at t w.drawn f q in
        let s = same-unknown t w.drawn r.2 u in
        of_tree text t w ∙ ap (λ o. modelled (unless o (answered t))) q ∙ ap {B = Answer Model} refused r.3
        ∙ ap₂ {C = Answer Model} (λ i j. refused (tell 5 (i ∷ j ∷ []))) s.0 s.1
answer-read text (is47 {t} {n} w k l) =
    of-known text t w k
    ∙ ap (λ o. unless (map_some condition_told o) (unless (when (not (fitting t)) limit_told) (answered (tree_model t))))
    ((condition-exactly t w.drawn.ascends w.drawn.in-range k n).1 l)
answer-read text (is48 {t} w k p h) =
    of-proper text t w k p ∙ ap (λ b. unless (when (not b) limit_told) (answered (tree_model t))) (not_so (fitting t) (λ q. h ((limits-exactly t).0 q)))
answer-read text (is-model {t} w k p l) = of-proper text t w k p ∙ ap (λ b. unless (when (not b) limit_told) (answered (tree_model t))) ((limits-exactly t).1 l)

pub tree-answers-exactly : (text : List ℕ) (a : Answer Model) → (read_tree_of text ≡ a) ↔ TreeAnswer text a
unfolding read_tree_of tree_of
tree-answers-exactly text a = (λ e. tree-or-fault text a e, λ x. answer-read text x)

-- a text is read as t exactly if it is the text of t, t's numbers ascend below 64, its lines have as many inputs as they may, and each input is
-- known; so a tree has one text
pub tree-read-exactly : (text : List ℕ) (t : Tree) → (tree_of text ≡ answered t) ↔ (TextOf text t × AllKnown t)
unfolding tree_of
tree-read-exactly text t = (λ e. to (lines_from (length text) 1 0 text) (text-ends text) e, λ p. back p.0 p.1)
  where
    named : (s : Tree) → TextOf text s → (o : Option Told) → unknown_from s 1 s ≡ o → unless o (answered s) ≡ answered t → TextOf text t × AllKnown t
    named s w (some f) q e = absurd (let z : ◌≡◌ {A = ℕ} 0 1 = cc in omega arith)
    named s w none q e = let z : s ≡ t = cc in subst (λ x. TextOf text x × AllKnown x) z (w, record { known = all_known_lem s w.drawn 1 s q })

    to : (l : Answer Tree) → Ends text 0 text l → all_known l ≡ answered t → TextOf text t × AllKnown t
    to l (at-fault f q) e = absurd (let y = ap all_known (sym q) ∙ e in let z : ◌≡◌ {A = ℕ} 0 1 = cc in omega arith)
    to l (as-tree s b fits range up q) e =
        named s (record { drawn = record { fits = fits; in-range = range; ascends = up }; bytes = sym b }) (unknown_from s 1 s) refl (ap all_known (sym q) ∙ e)

    back : TextOf text t → AllKnown t → all_known (lines_from (length text) 1 0 text) ≡ answered t
    back w k =
        ap (λ b. all_known (lines_from (length b) 1 0 b)) (sym w.bytes) ∙ ap all_known (tree-lines t w.drawn)
        ∙ ap (λ o. unless o (answered t)) (none-unknown text t w k (unknown_from t 1 t) refl)
