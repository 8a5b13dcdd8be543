-- A step leaves as many numbers as it was given.
use mathlib.Core.Path.{◌≡◌, refl, sym, ◌∙◌}
use mathlib.Core.Bool.{Bool, true, false}
use mathlib.Core.List.{List, [], ◌∷◌}
use Prim.Native.Nat.{ℕ}
use native.Mathlib.Omega.{arith}
use lib.ListN.{length}
use Rattle.answer.specs.Told.{answered}
use Rattle.answer.specs.State.{parts_of}
use Rattle.answer.specs.declared.State.{State}
use Rattle.answer.proofs.StateLaws.{parts-length}
use Rattle.model.specs.Model.{Comp, Model}
use Rattle.model.specs.WellFormed.{WellFormed}
use Rattle.iosa.specs.Product.{Within}
use Rattle.iosa.specs.Step.{step_of}
use Rattle.iosa.specs.Stepped.{StepsByRule, is-stable, moves, Stepping}
use Rattle.iosa.proofs.Settling.Parts.{within-length}
use Rattle.iosa.proofs.Settling.StepCalled.{step-answers-exactly}
use Rattle.layout.specs.Image.{model_of}
use Rattle.layout.proofs.RowsOfRange.{well-formed}
use Rattle.table.specs.IsImage.{is_image}
use Rattle.table.proofs.ImageExactly.{image-exactly}
use Rattle.table.proofs.OnTableLaws.{on-image, on-no-image}
use Rattle.run.specs.Calls.{step_on}

by-rule : (c : Comp) (cs : List Comp) (s : List ℕ) → Within (c ∷ cs) s → (v : Stepping) → StepsByRule c cs s v → length v.state ≡ length s
by-rule c cs s w _ (is-stable st) = refl
by-rule c cs s w _ (moves {t = t} p f) = within-length (c ∷ cs) t p.range ∙ sym (within-length (c ∷ cs) s w)

in-model : (m : Model) → WellFormed m → (s : List ℕ) (v : Stepping) → step_of m s ≡ answered v → length v.state ≡ length s
in-model [] well s v e = absurd (omega (arith, well.some))
in-model (c ∷ cs) well s v e = let p = (step-answers-exactly c cs well s v).0 e in by-rule c cs s p.1 v p.2

pub step-keeps-length : (t : List ℕ) (x : State) (v : Stepping) → step_on t x ≡ answered v → length v.state ≡ x.count
step-keeps-length t x v e = go (is_image t) refl
  where
    go : (b : Bool) → is_image t ≡ b → length v.state ≡ x.count
    go true h = in-model (model_of t) (well-formed t ((image-exactly t).0 h)) (parts_of x) v (sym (on-image t (λ m. step_of m (parts_of x)) h) ∙ e) ∙ parts-length x
    go false h = let k = on-no-image t (λ m. step_of m (parts_of x)) h in let z : ◌≡◌ {A = ℕ} 0 1 = cc in absurd (omega arith)
