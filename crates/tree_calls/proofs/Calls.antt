-- Where `read_tree` answers fine: the table holds the tree's model, which does what is drawn, and `accept` and `orderly` answer fine on it.
use mathlib.Core.List.{List, [], ◌∷◌}
use Prim.Native.Nat.{ℕ}
use native.Mathlib.Omega.{arith}
use Rattle.answer.specs.Told.{Answer, answered}
use Rattle.std.specs.Prelude.{Ok}
use Rattle.model.specs.Model.{Comp, Model}
use Rattle.iosa.specs.InOrder.{passes, gives, accepted, Leaves}
use Rattle.answering.specs.Answers.{AcceptAnswer}
use Rattle.layout.specs.OnImage.{Holds, OnImage, of-model, Tells}
use Rattle.admit.specs.Admit.{Accepted}
use Rattle.admit.proofs.Answers.{accept-answers-exactly}
use Rattle.triggering.specs.Triggering.{Passes, NoOpenInput}
use Rattle.orderly.specs.Calls.{OrderlyCall}
use Rattle.orderly.specs.OrderlyExactly.{OrderlyAnswer}
use Rattle.orderly.proofs.Answers.{orderly-answers-exactly}
use Rattle.treetheory.proofs.Drawing.{every-tree-as-drawn}
use Rattle.plant.specs.ReadTreeCall.{ReadTreeCall}
use Rattle.tree_calls.specs.TreeTable.{TreeTable}
use Rattle.tree_calls.proofs.Filled.{Filled, says-fine, read-tree-fills}

-- a call answers fine of a table that holds a model of which P holds
fine-on : (P : Model → Type 0) (R : Comp → List Comp → Answer (Unit {0}) → Type 0) (t : List ℕ) (m : Model) → Holds t m → P m
    → ((c : Comp) (cs : List Comp) → P (c ∷ cs) → R c cs (answered tt)) → Leaves (OnImage t R) (Tells (Ok tt))
fine-on P R t [] h p k = let s = h.well.some in absurd (omega (arith, s))
fine-on P R t (c ∷ cs) h p k = record { answer = answered tt; right = of-model h (k c cs p); left = says-fine }

module _ (text old new : List ℕ) (g : ReadTreeCall text old new (Ok tt)) where
  w : Filled text new
  w = read-tree-fills text old new g

  -- the table is the image of the model of the tree
  pub tree-table-holds-the-tree : TreeTable text new
  tree-table-holds-the-tree = record { model = w.model; holds = w.holds; drawing = every-tree-as-drawn text w.model w.answered-with }

  -- "Each component written is proved to pass 10 to 14 and the system 15 to 17"
  pub tree-table-is-accepted : Accepted new (Ok tt)
  tree-table-is-accepted =
      (accept-answers-exactly new (Ok tt)).1
      (fine-on (λ m. (accepted m).Passes) AcceptAnswer new w.model w.holds w.conforms (λ c cs p. passes p (gives tt)))

  -- and it passes the test of request 8: neither 45 nor 18
  pub tree-table-is-orderly : OrderlyCall new (Ok tt)
  tree-table-is-orderly =
      (orderly-answers-exactly new (Ok tt)).1
      (fine-on (λ m. (accepted m).Passes × NoOpenInput m × Passes m) OrderlyAnswer new w.model w.holds (w.conforms, w.closed, w.passes)
      (λ c cs p. passes p.0 (passes p.1 (passes p.2 (gives tt)))))
