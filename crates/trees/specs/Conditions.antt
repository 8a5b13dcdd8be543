-- "the conditions of 000 section 5.4 on these elements": Definition 5.2, (i) to (vi), as relations, and beside each the test that computes.
use Rattle.std.specs.Prelude.{◌≡◌, Bool, true, false, ◌&&◌, not, cond, ℕ, zero, suc, ◌+◌, ◌<◌, length, get_or, eqb}
use Rattle.std.proofs.Math.Option.{Option, none, some}
use mathlib.Core.List.{List, [], ◌∷◌, map, Memᴰ as In}
use Rattle.laws.specs.Sets.{has, ◌∪◌}
use Rattle.laws.specs.Search.{when, is_some, or_else, any}
use Rattle.laws.specs.Fold.{tab}
use Rattle.answer.specs.Limits.{max_elements}
use Rattle.trees.specs.Module.{those}
use Rattle.trees.specs.Tree.{Sort, Element, Tree, is_be, is_box, among}
use Rattle.trees.specs.TreeText.{line_of, some_of}

-- ---- as relations; V are the lines
-- "the set of pairs (v, w) such that v is an input of w"; elements by their numbers
pub record Edge (t : Tree) (v w : ℕ) : Type 0 where
  pub element : Element
  pub line : In element t
  pub number : element.number ≡ w
  pub input : In v element.ins

-- one edge after the other, one at least
pub data Chain (t : Tree) : ℕ → ℕ → Type 0 where
  one : {v w : ℕ} → Edge t v w → Chain t v w
  more : {v w x : ℕ} → Edge t v w → Chain t w x → Chain t v x

-- (i) "The tuple (V, E) is a direct acyclic graph"
pub record Acyclic (t : Tree) : Type 0 where
  pub none-back : (v : ℕ) → Chain t v v → ⊥

-- "for all w in V, (v, w) not in E and t(v) not in {fdep, rbox}"
pub record Top (t : Tree) (e : Element) : Type 0 where
  pub line : In e t
  pub no-box : is_box e.sort ≡ false
  pub no_edge : (w : ℕ) → Edge t e.number w → ⊥

-- (ii) "T has a unique top element"
pub record OneTop (t : Tree) : Type 0 where
  pub top : Element
  pub is-top : Top t top
  pub alone : (e : Element) → Top t e → e ≡ top

-- (iii) "for all j, k with i(w)[j] = i(w)[k], we have j = k"
pub record NoneTwice (t : Tree) : Type 0 where
  pub once : (e : Element) → In e t → (j k : ℕ) → j < length e.ins → k < length e.ins → get_or e.ins j 0 ≡ get_or e.ins k 0 → j ≡ k

-- (iv) "if (v, w) in E then t(v) not in {fdep, rbox}"
pub record NoBoxIn (t : Tree) : Type 0 where
  pub plain : (e : Element) → In e t → (w : ℕ) → Edge t e.number w → is_box e.sort ≡ false

-- (v) "if (v, w) in E and t(w) = rbox then t(v) = be"
pub record BoxesOfBes (t : Tree) : Type 0 where
  pub basic : (e d : Element) → In e t → In d t → is_box d.sort ≡ true → In e.number d.ins → is_be e.sort ≡ true

-- (vi) "if (v, w) in E and (v, w') in E and t(w) = t(w') = rbox, then w = w'"
pub record OneBox (t : Tree) : Type 0 where
  pub same : (d e : Element) → In d t → In e t → is_box d.sort ≡ true → is_box e.sort ≡ true → (v : ℕ) → In v d.ins → In v e.ins → d.number ≡ e.number

-- "well formed"
pub record Proper (t : Tree) : Type 0 where
  pub acyclic : Acyclic t
  pub one-top : OneTop t
  pub none-twice : NoneTwice t
  pub no-box-in : NoBoxIn t
  pub boxes-of-bes : BoxesOfBes t
  pub one-box : OneBox t

-- a condition is broken, by its number
pub data Broken (t : Tree) (n : ℕ) : Type 0 where
  is1 : n ≡ 1 → ¬ Acyclic t → Broken t n
  is2 : n ≡ 2 → ¬ OneTop t → Broken t n
  is3 : n ≡ 3 → ¬ NoneTwice t → Broken t n
  is4 : n ≡ 4 → ¬ NoBoxIn t → Broken t n
  is5 : n ≡ 5 → ¬ BoxesOfBes t → Broken t n
  is6 : n ≡ 6 → ¬ OneBox t → Broken t n

-- ---- as tests, each over the numbers of elements
abbrev pub ins_by : Option Element → List ℕ
ins_by none = []
ins_by (some e) = e.ins

abbrev pub sort_is : (Sort → Bool) → Option Element → Bool
sort_is g none = false
sort_is g (some e) = g e.sort

unfoldable pub ins_of : Tree → ℕ → List ℕ
ins_of t v = ins_by (line_of t v)

unfoldable pub box_at : Tree → ℕ → Bool
box_at t v = sort_is is_box (line_of t v)

unfoldable pub be_at : Tree → ℕ → Bool
be_at t v = sort_is is_be (line_of t v)

-- the set of the elements that v is an input of, of each v
unfoldable pub edges_from : Tree → ℕ → ℕ
edges_from t v = those (λ w. among v (ins_of t w)) max_elements

unfoldable pub edges_of : Tree → List ℕ
edges_of t = tab (edges_from t) 0 max_elements

-- (i): each way by k becomes an edge, for k = 0, 1, .. in turn; then an edge leads back to where it came from
unfoldable pub by_way : ℕ → List ℕ → List ℕ
by_way k rows = map (λ s. cond (has s k) (s ∪ get_or rows k 0) s) rows

unfoldable pub closed_below : ℕ → List ℕ → List ℕ
closed_below zero rows = rows
closed_below (suc k) rows = by_way k (closed_below k rows)

unfoldable pub cyclic : Tree → Bool
cyclic t = let rows = closed_below max_elements (edges_of t) in any (λ v. has (get_or rows v 0) v) max_elements

-- (ii)
unfoldable pub top_at : Tree → ℕ → Bool
top_at t v = is_some (line_of t v) && (not (box_at t v) && eqb (edges_from t v) 0)

-- how many numbers have the test, of n from k on
unfoldable pub count_from : (ℕ → Bool) → ℕ → ℕ → ℕ
count_from g zero k = 0
count_from g (suc n) k = cond (g k) 1 0 + count_from g n (suc k)

unfoldable pub not_one_top : Tree → Bool
not_one_top t = not (eqb (count_from (top_at t) max_elements 0) 1)

-- (iii)
unfoldable pub repeats : List ℕ → Bool
repeats [] = false
repeats (x ∷ xs) = elim (among x xs) [ true ↦ true | false ↦ repeats xs ]

unfoldable pub twice_in : Tree → Bool
twice_in t = any (λ w. repeats (ins_of t w)) max_elements

-- (iv)
unfoldable pub box_in : Tree → Bool
box_in t = any (λ w. some_of (box_at t) (ins_of t w)) max_elements

-- (v)
unfoldable pub box_of_other : Tree → Bool
box_of_other t = any (λ w. box_at t w && some_of (λ v. not (be_at t v)) (ins_of t w)) max_elements

-- (vi): a box shares an input with one of a lower number
unfoldable pub shared : List ℕ → List ℕ → Bool
shared xs ys = some_of (λ x. among x ys) xs

unfoldable pub in_two_boxes : Tree → Bool
in_two_boxes t = any (λ w. box_at t w && any (λ v. box_at t v && shared (ins_of t w) (ins_of t v)) w) max_elements

-- "47 lowest condition broken, as a number"
unfoldable pub condition_of : Tree → Option ℕ
condition_of t =
    let b : Option ℕ = when (not_one_top t) 2 in
    let c : Option ℕ = when (twice_in t) 3 in
    let d : Option ℕ = when (box_in t) 4 in
    let e : Option ℕ = when (box_of_other t) 5 in
    let f : Option ℕ = when (in_two_boxes t) 6 in
    or_else (when (cyclic t) 1) (or_else b (or_else c (or_else d (or_else e f))))
