-- What the program prints, by the ways in which reading and repairing go.
use mathlib.Core.Path.{◌≡◌, refl, sym, ◌∙◌, ap}
use mathlib.Core.Option.{Option, none, some}
use mathlib.Core.List.{List}
use Prim.Native.Nat.{ℕ, ◌*◌}
use native.Mathlib.Omega.{arith}
use lib.ListN.{length}
use Rattle.answer.specs.Told.{Told, told, Answer, answered, refused, as_refused, says_written}
use Rattle.answer.specs.declared.Refusal.{Refusal}
use Rattle.answer.specs.Told.{Written}
use Rattle.std.specs.Prelude.{Ok, Err}
use Rattle.model.specs.Model.{Model}
use Rattle.model.specs.Text.{text_of}
use Rattle.model.specs.Reading.{read_of}
use Rattle.answering.specs.Report.{refused_line}
use Rattle.layout.specs.Image.{Image, model_of}
use Rattle.table.proofs.OnTableLaws.{on-image}
use Rattle.table.proofs.ImageExactly.{image-exactly}
use Rattle.lacking.specs.Repair.{repaired_of}
use Rattle.lacking.specs.Repaired.{Mended}
use Rattle.lacking.specs.Walk.{cell_bytes, most_cells}
use Rattle.repair.specs.Repairing.{repair_of, repair_on, number_in, Repairing}
use Rattle.repair.proofs.Exactly.{Done, repair-done, answered-is}
use Rattle.table.proofs.OnImageExactly.{held-model}
use Rattle.mend.specs.Mended.{repaired_text, mended_text}

pub read-refused : (input : List ℕ) (t : Told) → read_of input ≡ refused t → mended_text input ≡ refused_line t
unfolding mended_text
read-refused input t e = rw (e, mended_text)

pub read-fine : (input : List ℕ) (m : Model) → read_of input ≡ answered m → mended_text input ≡ repaired_text m
unfolding mended_text
read-fine input m e = rw (e, mended_text)

-- ---- the call on a table, with a list that is long enough
module _ (t l t' l' : List ℕ) (im : Image t) (long : cell_bytes * most_cells ≡ length l) where
  on : repair_on t l ≡ repair_of (cell_bytes * most_cells) (model_of t)
  unfolding repair_on
  on = on-image t (repair_of (length l)) ((image-exactly t).1 im) ∙ ap (λ n. repair_of n (model_of t)) (sym long)

  pub repair-refused : (r : Written) (f : Refusal) → r ≡ Err f → Repairing t l r t' l'
      → (u : Told) × (told f ≡ some u) × (repaired_text (model_of t) ≡ refused_line u)
  unfolding says_written repaired_text
  repair-refused r f e g = go (told f) refl (repair_of (cell_bytes * most_cells) (model_of t)) refl
      (ap says_written (sym e) ∙ g.answer ∙ ap (λ a. some (number_in a)) on)
    where
      go : (o : Option Told) → told f ≡ o → (a : Answer Mended) → repair_of (cell_bytes * most_cells) (model_of t) ≡ a
          → ◌≡◌ {A = Option (Answer ℕ)} (as_refused o) (some (number_in a))
          → (u : Told) × (told f ≡ some u) × (repaired_text (model_of t) ≡ refused_line u)
      go none p a q s = absurd (let z : ◌≡◌ {A = ℕ} 0 1 = cc in omega arith)
      go (some u) p (answered d) q s = absurd (let z : ◌≡◌ {A = ℕ} 0 1 = cc in omega arith)
      go (some u) p (refused v) q s = let w : u ≡ v = cc in (u, p, rw (q, repaired_text) (ap refused_line (sym w)))

  pub repair-fine : (r : Written) (n : ℕ) → r ≡ Ok n → Repairing t l r t' l' → Image t' × (repaired_text (model_of t) ≡ text_of (model_of t'))
  unfolding says_written repaired_text
  repair-fine r n e g = go (repair_of (cell_bytes * most_cells) (model_of t)) refl (ap says_written (sym e) ∙ g.answer ∙ ap (λ a. some (number_in a)) on)
    where
      d : Done t t'
      d = repair-done t l t' l' n (rw e at g)

      go : (a : Answer Mended) → repair_of (cell_bytes * most_cells) (model_of t) ≡ a → ◌≡◌ {A = Option (Answer ℕ)} (some (answered n)) (some (number_in a))
          → Image t' × (repaired_text (model_of t) ≡ text_of (model_of t'))
      go (refused v) q s = absurd (let z : ◌≡◌ {A = ℕ} 0 1 = cc in omega arith)
      go (answered x) q s = (
        d.image,
        rw (q, repaired_text) (ap text_of (answered-is (cell_bytes * most_cells) (model_of t) x q ∙ ap repaired_of (held-model t d.model d.held)
            ∙ sym d.now-held)),
      )
