-- Where the contract of `merge` says fine, the table holds a model, the second table holds the model that it is merged into, and neither holds another.
use mathlib.Core.Path.{◌≡◌, sym, ◌∙◌, ap}
use mathlib.Core.Option.{some}
use mathlib.Core.List.{List, ◌∷◌}
use Prim.Native.Nat.{ℕ}
use native.Mathlib.Omega.{arith}
use lib.ListN.{take, drop}
use lib.Seq.{take_at}
use Rattle.answer.specs.Told.{Told, Answer, refused, says_checked, done_of}
use Rattle.std.specs.Prelude.{Ok}
use Rattle.model.specs.Model.{Model}
use Rattle.iosa.specs.Automaton.{Conforming, Joinable}
use Rattle.iosa.specs.InOrder.{refuses, passes}
use Rattle.answering.specs.Answers.{MergeCallAnswer}
use Rattle.merged.specs.MergedAs.{is25, is26, is-merged}
use Rattle.iosa.proofs.Thesis.Proposition41.{conforming-definition}
use Rattle.layout.specs.Layout.{image_words}
use Rattle.layout.specs.Image.{image_of}
use Rattle.layout.specs.OnImage.{Holds, OnImage, is20, of-model, FillsTable, bytes_of, image_bytes}
use Rattle.layout.proofs.ReadBack.{length-of-image}
use Rattle.table.proofs.OnImageExactly.{held-model}
use Rattle.merge.specs.Merging.{Merging}
use Rattle.merge.proofs.Answers.{merge-answers-exactly}
use Rattle.alike.specs.Alike.{MergedInto}
use Rattle.alike.proofs.Models.{known}

-- a table holds one model
pub one-held : (t : List ℕ) (m n : Model) → Holds t m → Holds t n → m ≡ n
one-held t m n h k = sym (held-model t m h) ∙ held-model t n k

-- the model of the first table, and what it is merged into
pub record Written (t : List ℕ) (i : ℕ) (into : List ℕ) : Type 0 where
  pub before : Model
  pub after : Model
  pub holds : Holds t before
  pub holds-again : Holds into after
  pub conforming : Conforming before
  pub joinable : Joinable before
  pub merged-into : MergedInto before i after

never {ℓ} : {P : Type ℓ} {f : Told} → says_checked (Ok tt) ≡ some (done_of {A = Model} (refused f)) → P
unfolding says_checked
never e = let z : ◌≡◌ {A = ℕ} 0 1 = cc in absurd (omega arith)

module _ (t : List ℕ) (i : ℕ) (was into : List ℕ) where
  written : {a : Answer Model} → OnImage t (λ c cs. MergeCallAnswer c cs i image_bytes (bytes_of was)) a → FillsTable was into (Ok tt) a → Written t i into
  written (is20 n) l = never l.answer
  written (of-model h (refuses q)) l = never l.answer
  written (of-model h (passes k (refuses q))) l = never l.answer
  written (of-model h (passes k (passes b (is25 n)))) l = never l.answer
  written (of-model h (passes k (passes b (is26 r n)))) l = never l.answer
  written (of-model {c = c} {cs = cs} h (passes k (passes b (is-merged {n = n} r s)))) l =
      let conf = (conforming-definition (c ∷ cs) h.well).1 k.0 in
      let x : MergedInto (c ∷ cs) i n = record { replaced = r; small = s } in
      let w = (known (c ∷ cs) i n h.well conf k.1 x).exact.well-formed in
      record {
        before = c ∷ cs;
        after = n;
        holds = h;
        holds-again = record { well = w; front = ap (take image_words) l.table ∙ take_at (image_of n) (drop image_words was) image_words (length-of-image n w) };
        conforming = conf;
        joinable = k.1;
        merged-into = x;
      }

  pub merge-writes : Merging t i was (Ok tt) into → Written t i into
  merge-writes g = let e = (merge-answers-exactly t i was (Ok tt) into).0 g in written e.right e.left
