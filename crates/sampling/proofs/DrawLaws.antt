-- A draw by one number, or by two; and the distribution that it is from.
use mathlib.Core.Path.{◌≡◌, refl, sym, ◌∙◌, ap, ap₂, subst}
use mathlib.Core.Option.{Option, none, some}
use mathlib.Core.List.{List}
use Prim.Native.Nat.{ℕ, ◌+◌}
use native.Mathlib.Omega.{arith}
use lib.ListN.{drop}
use lib.Dec.{T}
use lib.Ieee.{Float}
use Rattle.std.specs.Prelude as Answered
use Rattle.std.specs.Prelude.{None, Result, Ok, Err}
use Rattle.model.specs.Reading.{got}
use Rattle.fields.specs.declared.Cursor.{Cursor}
use Rattle.draw.specs.declared.Law.{Law}
use Rattle.draw.specs.declared.Law.TheVariants.{Uniform, Mixture}
use Rattle.draw.specs.Draw.{drawn, end_of, lawful, Between}
use Rattle.drawing.specs.File.{law_at}
use Rattle.drawing.specs.Draws.{by_two, draw_from, takes}
use Rattle.drawing.proofs.Lines.{law-lawful}
use Rattle.distributions.specs.Found.{found, got_law, value_in, law_in}
use Rattle.sampling.specs.Sampling.{OneNumber, TwoNumbers, from_law, DrawIs, DrawGives}

-- ---- which numbers a draw takes
pub uniform-one : (l : Law) (a b : Float) → l ≡ Uniform a b → OneNumber l
uniform-one l a b e = ap takes e

pub mixture-two : (l : Law) (w a b c d : Float) → l ≡ Mixture w a b c d → TwoNumbers l
mixture-two l w a b c d e = ap takes e

from_one : (l : Law) → OneNumber l → (f : ℕ → Option ℕ) (u : ℕ) → draw_from l f u ≡ by_two l (f u) (f u)
unfolding draw_from
from_one (Uniform a b) h f u = refl
from_one (Mixture w a b c d) h f u = absurd (omega arith)

from-two : (l : Law) → TwoNumbers l → (f : ℕ → Option ℕ) (u : ℕ) → draw_from l f u ≡ by_two l (f u) (f (u + 1))
unfolding draw_from
from-two (Uniform a b) h f u = absurd (omega arith)
from-two (Mixture w a b c d) h f u = refl

none_last : (l : Law) (o : Option ℕ) → by_two l o none ≡ none
none_last l none = refl
none_last l (some m) = refl

module _ (l : Law) (f : ℕ → Option ℕ) (u : ℕ) where
  -- ---- by one
  module _ (one : OneNumber l) where
    pub one-draws : (n v : ℕ) → some n ≡ f u → (v ≡ drawn l n n) × Between (end_of l n) v → DrawIs (some l) f u v (u + 1)
    one-draws n v e r = record {
      ticks = from_one l one f u ∙ ap₂ (by_two l) (sym e) (sym e) ∙ ap some (sym r.0);
      used = ap (λ k. u + k) (sym one);
      most = r.1.in-ticks;
    }

    pub one-lacks : none ≡ f u → from_law (some l) f u ≡ none
    one-lacks e = from_one l one f u ∙ ap₂ (by_two l) (sym e) (sym e)

  -- ---- by two
  module _ (two : TwoNumbers l) where
    pub two-draw : (m n v : ℕ) → some m ≡ f u → some n ≡ f (u + 1) → (v ≡ drawn l m n) × Between (end_of l m) v → DrawIs (some l) f u v (u + 2)
    two-draw m n v e g r = record {
      ticks = from-two l two f u ∙ ap₂ (by_two l) (sym e) (sym g) ∙ ap some (sym r.0);
      used = ap (λ k. u + k) (sym two);
      most = r.1.in-ticks;
    }

    pub first-lacks : none ≡ f u → from_law (some l) f u ≡ none
    first-lacks e = from-two l two f u ∙ ap (λ o. by_two l o (f (u + 1))) (sym e)

    pub second-lacks : none ≡ f (u + 1) → from_law (some l) f u ≡ none
    second-lacks e = from-two l two f u ∙ ap (by_two l (f u)) (sym e) ∙ none_last l (f u)

-- ---- the distribution at a place of the file
module _ (t : List ℕ) (at : ℕ) (r : Result (Cursor × Law) Cursor) (scan : got_law t r ≡ law_at (drop at t)) where
  module _ (c : Cursor) (l : Law) (e : r ≡ Ok (c, l)) where
    stands : law_at (drop at t) ≡ got l (drop c.at t)
    stands = sym scan ∙ ap (got_law t) e

    pub stands-lawful : T (lawful l)
    stands-lawful = law-lawful (drop at t) l (drop c.at t) stands

    pub law-draws : (f : ℕ → Option ℕ) (u : ℕ) (d : Answered.Option (ℕ × ℕ)) → DrawGives (some l) f u d → DrawGives (law_in t at) f u d
    unfolding law_in
    law-draws f u d g = subst (λ o. DrawGives o f u d) (ap (λ o. value_in (found o)) (sym stands)) g

  pub no-law-draws : (c : Cursor) → r ≡ Err c → (f : ℕ → Option ℕ) (u : ℕ) → DrawGives (law_in t at) f u None
  unfolding law_in
  no-law-draws c e f u = subst (λ o. DrawGives o f u None) (ap (λ o. value_in (found o)) (sym (ap (got_law t) e) ∙ scan)) refl
