-- Every tree that is well formed and within the limits passes the test of 02, 8/13 (000, Theorem 5.1), and settles alike in every order.
use mathlib.Core.Path.{◌≡◌, refl, ◌∙◌, ap, subst}
use mathlib.Core.List.{List}
use Prim.Native.Nat.{ℕ, ◌/◌, ◌%◌, ◌<◌}
use native.Mathlib.Omega.{arith}
use lib.ListN.{length}
use Rattle.laws.specs.Search.{map_some}
use Rattle.answer.specs.Told.{Answer, answered}
use Rattle.model.specs.Model.{Model}
use Rattle.model.specs.WellFormed.{WellFormed}
use Rattle.iosa.specs.Automaton.{auto_of, Conforming, Joinable}
use Rattle.triggering.specs.Triggering.{part, Passes, NoOpenInput}
use Rattle.triggering.proofs.WhereReached.{demand-3-where-reached}
use Rattle.triggering.proofs.Passing.{passes-exactly}
use Rattle.trees.specs.Module.{comp_by, Sound}
use Rattle.trees.specs.Tree.{Sort, be-sort, and-sort, or-sort, pand-sort, rbox-sort, Element, Tree}
use Rattle.trees.specs.Modules.{plain_move, be_kind, be_move, be_role, gate_kind, gate_role, pand_role, count_move, pand_move, box_kind, box_move, box_role}
use Rattle.trees.specs.Modules.{clockless, be_module, count_module, pand_module, box_module, module_for, tree_model}
use Rattle.trees.specs.Conditions.{Proper}
use Rattle.trees.specs.ReadTree.{InLimits, read_tree_of}
use Rattle.trees.specs.TreeFaults.{Drawn, TreeAnswer, is-fault, is5, is47, is48, is-model}
use Rattle.trees.proofs.Owners.{has_part}
use Rattle.trees.proofs.Accepted.{Good, at_place, sound-of, every-component-conforms, every-two-are-compatible}
use Rattle.trees.proofs.Answers.{tree-answers-exactly}
use Rattle.trees.proofs.TreeAccepted.{good, tree-well-formed, no_answer}
use Rattle.treetheory.specs.TreeOrder.{TreeOrder}
use Rattle.treetheory.proofs.Colours.{Tame, tame-passes}
use Rattle.treetheory.proofs.Roles.{tame-module}
use Rattle.treetheory.proofs.TameGates.{and-roles, or-roles, pand-roles}
use Rattle.treetheory.proofs.TameBoxes.{box-roles}
use Rattle.treetheory.proofs.TameBasic.{be-roles}
use Rattle.treetheory.proofs.Owned.{tree-closed}

module _ (t : Tree) (g : Good t) where
  -- the component of every element keeps colours
  tame-of : (q : Sort) (n : ℕ) (e : Element) → e.sort ≡ q → Sound (module_for q t n e) → Tame t (auto_of (comp_by (module_for q t n e)))
  unfolding be_module count_module pand_module box_module clockless
  tame-of be-sort n e w o = tame-module t g.ascends e (be_module t n e) (be_role e) be_kind (λ s. be_move n (s / 3) (s % 3)) (λ a. refl) (λ s a. refl)
      (λ a k h. has_part t n e a k (ap (λ q. (module_for q t n e).kind a) w ∙ h)) (λ s a v. o.target_below) (be-roles n e)
  tame-of and-sort n e w o =
      tame-module t g.ascends e (count_module 2 t e) (gate_role e) gate_kind (λ s p. map_some plain_move (count_move 2 (s / 6) (s / 3 % 2) (s % 3) p)) (λ a. refl)
      (λ s a. refl)
      (λ a k h. has_part t n e a k (ap (λ q. (module_for q t n e).kind a) w ∙ h)) (λ s a v. o.target_below) (and-roles e)
  tame-of or-sort n e w o =
      tame-module t g.ascends e (count_module 1 t e) (gate_role e) gate_kind (λ s p. map_some plain_move (count_move 1 (s / 6) (s / 3 % 2) (s % 3) p)) (λ a. refl)
      (λ s a. refl)
      (λ a k h. has_part t n e a k (ap (λ q. (module_for q t n e).kind a) w ∙ h)) (λ s a v. o.target_below) (or-roles e)
  tame-of pand-sort n e w o =
      tame-module t g.ascends e (pand_module t e) (pand_role e) gate_kind (λ s p. map_some plain_move (pand_move (s / 10) (s / 5 % 2) (s % 5) p)) (λ a. refl)
      (λ s a. refl)
      (λ a k h. has_part t n e a k (ap (λ q. (module_for q t n e).kind a) w ∙ h)) (λ s a v. o.target_below) (pand-roles e)
  tame-of rbox-sort n e w o =
      tame-module t g.ascends e (box_module t e) (box_role e) box_kind (λ s p. map_some plain_move (box_move (length e.ins) s p)) (λ a. refl) (λ s a. refl)
      (λ a k h. has_part t n e a k (ap (λ q. (module_for q t n e).kind a) w ∙ h)) (λ s a v. o.target_below) (box-roles e)

  pub tame-at : (i : ℕ) → i < length (tree_model t) → Tame t (part (tree_model t) i)
  unfolding tree_model
  tame-at i h =
      let p = at_place t 0 t i h in
      let o = sound-of t g p.e.sort p.n p.e refl p.listed (λ b. omega (arith, p.below b, g.clocks)) in
      rw p.comp (tame-of p.e.sort p.n p.e refl o)

  pub good-tree-passes : Passes (tree_model t)
  good-tree-passes = tame-passes t (tree_model t) tame-at

-- "for every tree that is well formed and within the limits"
pub tree-in-order : (t : Tree) → Drawn t → Proper t → InLimits t → TreeOrder (tree_model t)
tree-in-order t d p l =
    let g = good t d p l in
    let closed = tree-closed t in
    let passes = good-tree-passes t g in
    record {
      closed = closed;
      passes = passes;
      tested = (passes-exactly (tree_model t) (tree-well-formed t d p l) (every-component-conforms t g) (every-two-are-compatible t g)).1 passes;
      settles = λ c cs e s h r.
          demand-3-where-reached c cs (subst WellFormed e (tree-well-formed t d p l)) (subst Conforming e (every-component-conforms t g))
          (subst Joinable e (every-two-are-compatible t g)) (subst NoOpenInput e closed) (subst Passes e passes) s h r;
    }

-- where a tree's text is answered with a model
in-order-as : {text : List ℕ} {a : Answer Model} {m : Model} → TreeAnswer text a → a ≡ answered m → TreeOrder m
in-order-as (is-fault f) q = no_answer q
in-order-as (is5 w u) q = no_answer q
in-order-as (is47 w k l) q = no_answer q
in-order-as (is48 w k p h) q = no_answer q
in-order-as {m = m} (is-model {t} w k p l) q = let z : tree_model t ≡ m = cc in subst TreeOrder z (tree-in-order t w.drawn p l)

pub every-tree-passes : (text : List ℕ) (m : Model) → read_tree_of text ≡ answered m → TreeOrder m
every-tree-passes text m e = in-order-as ((tree-answers-exactly text (answered m)).0 e) refl
