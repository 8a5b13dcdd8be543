-- "Each component written is proved to pass 10 to 14 and the system 15 to 17" (02, 9/13): where a tree's text is answered with a model, that is well
-- formed and accepted.
use mathlib.Core.Path.{◌≡◌, refl, ap, subst}
use mathlib.Core.Option.{none, some}
use mathlib.Core.List.Memᴰ.{head as here}
use mathlib.Core.List.Memᴰ.{not-nil as in-none}
use mathlib.Core.List.Memᴰ.{tail as there}
use mathlib.Core.List.{List, [], ◌∷◌, Memᴰ as In}
use Prim.Native.Nat.{ℕ, suc, ◌+◌, ◌≤◌}
use native.Mathlib.Omega.{arith}
use lib.ListN.{length}
use Rattle.laws.proofs.ListLaws.{Pairwise}
use Rattle.answer.specs.Told.{Told, Answer, answered, refused}
use Rattle.model.specs.Model.{Model}
use Rattle.model.specs.WellFormed.{WellFormed}
use Rattle.iosa.specs.Checks.{accept_of}
use Rattle.iosa.proofs.Acceptance.Accepted.{accepted-exactly}
use Rattle.trees.specs.Tree.{Sort, be-sort, and-sort, or-sort, pand-sort, rbox-sort, Element, Tree}
use Rattle.trees.specs.Modules.{components_from, tree_model}
use Rattle.trees.specs.TreeText.{fewest, at_most_more}
use Rattle.trees.specs.Conditions.{OneTop, OneBox, Proper}
use Rattle.trees.specs.ReadTree.{InLimits, read_tree_of}
use Rattle.trees.specs.TreeFaults.{Ascending, line, Drawn, TreeAnswer, is-fault, is5, is47, is48, is-model}
use Rattle.trees.specs.TreeFaults.{Accepted}
use Rattle.trees.proofs.Numbers.{Ascends}
use Rattle.trees.proofs.Lookup.{low-enough, among_in}
use Rattle.trees.proofs.Accepted.{Sees, Good, every-component-conforms, every-component-is-well-formed, every-two-are-compatible}
use Rattle.trees.proofs.Answers.{tree-answers-exactly}

-- numbers that ascend line by line ascend over all
pairs-ascend : {low : ℕ} (t : Tree) → Ascending low t → Ascends t
pairs-ascend [] a = tt
pairs-ascend (e ∷ es) (line h a) = (λ d m. let l = low-enough a d m in omega (arith, l), pairs-ascend es a)

-- (vi), of lines in their order
pairs-see : (t : Tree) → Ascends t → OneBox t → Pairwise Sees t
pairs-see t a o = go t a (λ e m. m)
  where
    go : (es : Tree) → Ascends es → ((e : Element) → In e es → In e t) → Pairwise Sees es
    go [] a m = tt
    go (e ∷ es) a m = (
      λ d i. (
        a.0 d i,
        λ p q v x y. let z =
            o.same e d (m e (here refl)) (m d (there i)) p q v (among_in v e.ins x) (among_in v d.ins y) in let l = a.0 d i in omega (
              arith,
              z,
              l,
            ),
      ),
      go es a.1 (λ d i. m d (there i)),
    )

most : (s : Sort) → fewest s + at_most_more s ≤ 5
most be-sort = omega arith
most and-sort = omega arith
most or-sort = omega arith
most pand-sort = omega arith
most rbox-sort = omega arith

components-many : (t : Tree) (k : ℕ) (es : Tree) → length (components_from t k es) ≡ length es
unfolding components_from
components-many t k [] = refl
components-many t k (e ∷ es) = ap suc (components-many t _ es)

pub model-many : (t : Tree) → length (tree_model t) ≡ length t
unfolding tree_model
model-many t = components-many t 0 t

some-line : (t : Tree) → OneTop t → 1 ≤ length t
some-line [] o = absurd (in-none o.is-top.line)
some-line (e ∷ es) o = omega arith

module _ (t : Tree) (d : Drawn t) (p : Proper t) (l : InLimits t) where
  pub good : Good t
  good =
      let a = pairs-ascend t d.ascends in
      record {
        ascends = a;
        one-box = pairs-see t a p.one-box;
        boxes = λ e m. let h = (d.fits e m).no_more in let k = most e.sort in omega (arith, h, k);
        few = l.actions;
        clocks = l.clocks;
      }

  pub tree-well-formed : WellFormed (tree_model t)
  tree-well-formed = record {
    some = let n = model-many t in let h = some-line t p.one-top in omega (arith, n, h);
    components = let n = model-many t in let h = l.components in omega (arith, n, h);
    each = λ i h. every-component-is-well-formed t good i h;
    rows = l.rows;
    bytes = l.bytes;
  }

  tree-passes : accept_of (tree_model t) ≡ none
  tree-passes = (accepted-exactly (tree_model t) tree-well-formed).1 (every-component-conforms t good, every-two-are-compatible t good)

pub no_answer : {P : Type 0} {f : Told} {m : Model} → ◌≡◌ {A = Answer Model} (refused f) (answered m) → P
no_answer e = let z : ◌≡◌ {A = ℕ} 0 1 = cc in absurd (omega arith)

accepted-as : {text : List ℕ} {a : Answer Model} {m : Model} → TreeAnswer text a → a ≡ answered m → Accepted m
accepted-as (is-fault f) q = no_answer q
accepted-as (is5 w u) q = no_answer q
accepted-as (is47 w k l) q = no_answer q
accepted-as (is48 w k p h) q = no_answer q
accepted-as {m = m} (is-model {t} w k p l) q =
    let z : tree_model t ≡ m = cc in
    subst Accepted z (record {
      well-formed = tree-well-formed t w.drawn p l;
      conforming = every-component-conforms t (good t w.drawn p l);
      joinable = every-two-are-compatible t (good t w.drawn p l);
      passes = tree-passes t w.drawn p l;
    })

pub tree-accepted : (text : List ℕ) (m : Model) → read_tree_of text ≡ answered m → Accepted m
tree-accepted text m e = accepted-as ((tree-answers-exactly text (answered m)).0 e) refl
