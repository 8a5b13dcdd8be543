-- A tree does what is drawn, at rest and from one rest to the next.
use mathlib.Core.Path.{◌≡◌, refl}
use mathlib.Core.List.{List, ◌∷◌}
use Prim.Native.Nat.{ℕ}
use Rattle.answer.specs.Told.{Answer, answered}
use Rattle.model.specs.Model.{Comp, Model}
use Rattle.trees.specs.Tree.{Tree}
use Rattle.trees.specs.Modules.{tree_model}
use Rattle.trees.specs.Conditions.{Proper}
use Rattle.trees.specs.ReadTree.{InLimits, read_tree_of}
use Rattle.trees.specs.TreeFaults.{Drawn, AllKnown, TreeAnswer, is-fault, is5, is47, is48, is-model}
use Rattle.trees.proofs.TreeAccepted.{no_answer}
use Rattle.trees.proofs.Answers.{tree-answers-exactly}
use Rattle.treetheory.specs.AsDrawn.{AsDrawn, Drawing}
use Rattle.treetheory.proofs.Priority.{orders}
use Rattle.treetheory.proofs.Grown.{Grown, at_rest}
use Rattle.treetheory.proofs.Instants.{instant}
use Rattle.treetheory.proofs.Repairs.{repairs-at-rest, repairs-after}

-- "for every tree that is well formed and within the limits", at every rest
pub tree-as-drawn : (t : Tree) → Drawn t → AllKnown t → Proper t → InLimits t → AsDrawn t
tree-as-drawn t d known p l = record {
  rests = λ c cs e s w r st. at_rest (grown c cs e) s w r st;
  instants = λ c cs e a s z i. instant (grown c cs e) a s z i;
  repairs = λ c cs e s w r st. repairs-at-rest (grown c cs e) s w r st;
  orders = λ c cs e a s z i. repairs-after (grown c cs e) a s z i;
}
  where
    grown : (c : Comp) (cs : List Comp) → tree_model t ≡ c ∷ cs → Grown
    grown c cs e = record { tree = t; drawn = d; known = known; proper = p; limits = l; first = c; others = cs; model = e }

-- ---- where a tree's text is answered with a model
drawn-as : {text : List ℕ} {a : Answer Model} {m : Model} → TreeAnswer text a → a ≡ answered m → Drawing text m
drawn-as (is-fault f) q = no_answer q
drawn-as (is5 w u) q = no_answer q
drawn-as (is47 w k l) q = no_answer q
drawn-as (is48 w k p h) q = no_answer q
drawn-as {m = m} (is-model {t} w k p l) q = record { tree = t; printed = w; model = cc; drawn = tree-as-drawn t w.drawn k p l }

pub every-tree-as-drawn : (text : List ℕ) (m : Model) → read_tree_of text ≡ answered m → Drawing text m
every-tree-as-drawn text m e = drawn-as ((tree-answers-exactly text (answered m)).0 e) refl
