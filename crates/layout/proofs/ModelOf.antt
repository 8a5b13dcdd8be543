-- The model of a table by its components.
use mathlib.Core.Path.{◌≡◌, ◌∙◌, ap}
use mathlib.Core.List.{List}
use Prim.Native.Nat.{ℕ, ◌<◌}
use native.Mathlib.Omega.{arith}
use lib.ListN.{length}
use Rattle.laws.proofs.FoldLaws.{tab-length, tab-at}
use Rattle.model.specs.Model.{no_comp, comp_at}
use Rattle.layout.specs.Layout.{count_of}
use Rattle.layout.specs.Image.{comp_of, model_of}

pub model-length : (t : List ℕ) → length (model_of t) ≡ count_of t
unfolding model_of
model-length t = tab-length (comp_of t) 0 (count_of t)

pub comp-at : (t : List ℕ) (i : ℕ) → i < count_of t → comp_at (model_of t) i ≡ comp_of t i
unfolding model_of
comp-at t i h = tab-at (comp_of t) no_comp 0 (count_of t) i h ∙ ap (comp_of t) (omega arith)
