-- A word of every block joined is that set of the model: the clocks declared, and those set at the start.
use mathlib.Core.Path.{◌≡◌, refl, sym, ◌∙◌, ap}
use mathlib.Core.List.{List, [], ◌∷◌}
use Prim.Native.Nat.{ℕ, zero, suc, ◌-◌}
use native.Mathlib.Omega.{arith}
use lib.Bits.{or_zero_l, or_zero_r}
use Rattle.laws.specs.Sets.{◌∪◌}
use Rattle.laws.specs.Fold.{over_from, over, tab}
use Rattle.laws.proofs.SetLaws.{or_assoc}
use Rattle.model.specs.Model.{Model, declared}
use Rattle.iosa.specs.Start.{started_all}
use Rattle.layout.specs.Layout.{count_of, block_word, joined_word}
use Rattle.layout.specs.Image.{comp_of, model_of}

-- F joins one set of each component of a model, word k of its block
module _ (t : List ℕ) (k : ℕ) (F : Model → ℕ) (none : F [] ≡ 0) (more : (i : ℕ) (m : Model) → F (comp_of t i ∷ m) ≡ block_word t i k ∪ F m) where
  joined-from : (n i s : ℕ) → over_from (λ j r. r ∪ block_word t j k) n i s ≡ s ∪ F (tab (comp_of t) i n)
  unfolding over_from
  joined-from zero i s = sym (or_zero_r s) ∙ ap (λ r. s ∪ r) (sym none)
  joined-from (suc n) i s =
      joined-from n (suc i) (s ∪ block_word t i k)
      ∙ or_assoc s (block_word t i k) (F (tab (comp_of t) (suc i) n))
      ∙ ap (λ r. s ∪ r) (sym (more i (tab (comp_of t) (suc i) n)))

  joined_is : joined_word t k ≡ F (model_of t)
  unfolding joined_word over over_from model_of
  joined_is =
      let n : count_of t - 0 ≡ count_of t = omega arith in
      ap (λ j. over_from (λ i r. r ∪ block_word t i k) j 0 0) n ∙ joined-from (count_of t) 0 0 ∙ or_zero_l (F (model_of t))

pub declared-joined : (t : List ℕ) → joined_word t 6 ≡ declared (model_of t)
unfolding declared comp_of
declared-joined t = joined_is t 6 declared refl (λ i m. refl)

pub started-joined : (t : List ℕ) → joined_word t 7 ≡ started_all (model_of t)
unfolding started_all comp_of
started-joined t = joined_is t 7 started_all refl (λ i m. refl)
