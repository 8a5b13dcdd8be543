-- A line, by the clock's number in front of it.
use mathlib.Core.Path.{◌≡◌, ◌∙◌, ap}
use mathlib.Core.Bool.{cond}
use mathlib.Core.Option.{none}
use mathlib.Core.List.{List, []}
use Prim.Native.Nat.{ℕ, ◌≤◌}
use borrow.Author.Tests.{eq-eqb, ne_eqb}
use lib.ListN.{length, drop, drop_of_length-le}
use lib.Dec.{eqb}
use Rattle.model.specs.Text.{tab}
use Rattle.model.specs.Reading.{stops, got, number}
use Rattle.fields.proofs.ScanLaws.{exactly-end, then_is, then-stops}
use Rattle.draw.specs.declared.Law.{Law}
use Rattle.draw.specs.Draw.{lawful}
use Rattle.drawing.specs.File.{form_at, law_at, line_at}
use Rattle.distributions.specs.Found.{found, value_in, law_in, LineIs}

module _ (x : ℕ) (t : List ℕ) (at : ℕ) where
  pub line-none : {cs : List ℕ} → number (drop at t) ≡ stops cs → line_at x (drop at t) ≡ stops cs
  unfolding line_at
  line-none e = then-stops (λ y cs. cond (eqb y x) (law_at cs) (stops (drop at t))) e

  module _ (n b : ℕ) (e : number (drop at t) ≡ got n (drop b t)) where
    line-is : line_at x (drop at t) ≡ cond (eqb n x) (law_at (drop b t)) (stops (drop at t))
    unfolding line_at
    line-is = then_is (λ y cs. cond (eqb y x) (law_at cs) (stops (drop at t))) e

    pub line_other : (n ≡ x → ⊥) → line_at x (drop at t) ≡ stops (drop at t)
    line_other h = line-is ∙ rw (ne_eqb n x h)

    module _ (h : n ≡ x) where
      here : line_at x (drop at t) ≡ law_at (drop b t)
      here = line-is ∙ rw (eq-eqb n x h)

      pub line-bad : {cs : List ℕ} → law_at (drop b t) ≡ stops cs → line_at x (drop at t) ≡ stops cs
      line-bad q = here ∙ q

      pub line-good : (l : Law) (f : ℕ) → law_at (drop b t) ≡ got l (drop f t) → LineIs x t at b f
      unfolding law_in
      line-good l f q = record { law = l; line = here ∙ q; stands = ap (λ s. value_in (found s)) q }

-- no distribution stands at the text's end
law-nil : law_at [] ≡ stops []
unfolding law_at
law-nil = then-stops (λ l cs. cond (lawful l) (got l cs) (stops [])) (then-stops (λ _ cs. form_at cs) (exactly-end tab []))

pub none-stands : (t : List ℕ) (at : ℕ) → length t ≤ at → law_in t at ≡ none
unfolding law_in
none-stands t at h = ap (λ bs. value_in (found (law_at bs))) (drop_of_length-le t h) ∙ ap (λ s. value_in (found s)) law-nil
