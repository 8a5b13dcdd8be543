-- Where the contract of `read_tree` says fine, the table holds the model that the text is answered with, accepted, closed and past the test of request 8.
use mathlib.Core.Path.{◌≡◌, refl, ◌∙◌, ap}
use mathlib.Core.Option.{some}
use mathlib.Core.List.{List}
use Prim.Native.Nat.{ℕ}
use native.Mathlib.Omega.{arith}
use lib.ListN.{take, drop}
use lib.Seq.{take_at}
use Rattle.answer.specs.Told.{Told, Answer, answered, refused, says_checked, done_of}
use Rattle.std.specs.Prelude.{Ok}
use Rattle.model.specs.Model.{Model}
use Rattle.iosa.specs.InOrder.{refuses, passes, gives, accepted}
use Rattle.iosa.proofs.Thesis.Proposition41.{conforming-definition}
use Rattle.layout.specs.Layout.{image_words}
use Rattle.layout.specs.Image.{image_of}
use Rattle.layout.specs.OnImage.{Holds, FillsTable, bytes_of, image_bytes}
use Rattle.layout.proofs.ReadBack.{length-of-image}
use Rattle.triggering.specs.Triggering.{Passes, NoOpenInput}
use Rattle.trees.specs.ReadTree.{read_tree_of}
use Rattle.trees.proofs.Answers.{tree-answers-exactly}
use Rattle.trees.proofs.TreeAccepted.{tree-accepted}
use Rattle.treetheory.proofs.TreePasses.{every-tree-passes}
use Rattle.plant.specs.ReadTreeCall.{ReadTreeCall}
use Rattle.plant.specs.TreeExactly.{ReadTreeAnswer}
use Rattle.plant.proofs.Exactly.{read-tree-answers-exactly}

pub record Filled (text table : List ℕ) : Type 0 where
  pub model : Model
  pub answered-with : read_tree_of text ≡ answered model
  pub holds : Holds table model
  pub conforms : (accepted model).Passes
  pub closed : NoOpenInput model
  pub passes : Passes model

pub says-fine : says_checked (Ok tt) ≡ some (answered tt)
unfolding says_checked
says-fine = refl

never : {P : Type 0} {f : Told} → says_checked (Ok tt) ≡ some (done_of {A = Model} (refused f)) → P
never e = let s = says-fine in let z : ◌≡◌ {A = ℕ} 0 1 = cc in absurd (omega arith)

module _ (text old new : List ℕ) where
  filled : {a : Answer Model} → ReadTreeAnswer text image_bytes (bytes_of old) a → FillsTable old new (Ok tt) a → Filled text new
  filled (refuses q) l = never l.answer
  filled (passes k (refuses q)) l = never l.answer
  filled (passes k (passes b (gives {x = m} r))) l =
      let e = (tree-answers-exactly text (answered m)).1 r in
      let a = tree-accepted text m e in
      let w = a.well-formed in
      let o = every-tree-passes text m e in
      record {
        model = m;
        answered-with = e;
        holds = record { well = w; front = ap (take image_words) l.table ∙ take_at (image_of m) (drop image_words old) image_words (length-of-image m w) };
        conforms = ((conforming-definition m w).0 a.conforming, a.joinable);
        closed = o.closed;
        passes = o.passes;
      }

  pub read-tree-fills : ReadTreeCall text old new (Ok tt) → Filled text new
  read-tree-fills g = let e = (read-tree-answers-exactly text old new (Ok tt)).0 g in filled e.right e.left
