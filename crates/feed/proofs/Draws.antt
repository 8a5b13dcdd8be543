-- The next draw of a clock: its distribution stays where it is, and the numbers taken are counted.
use mathlib.Core.Path.{◌≡◌, refl, sym, ◌∙◌, ap, subst}
use mathlib.Core.Option.{Option, none, some}
use mathlib.Core.List.{List}
use Prim.Native.Nat.{ℕ, suc, ◌+◌, ◌*◌}
use native.Mathlib.Omega.{arith}
use Rattle.draw.specs.declared.Law.{Law}
use Rattle.draw.specs.declared.Law.TheVariants.{Uniform, Mixture}
use Rattle.drawing.specs.Draws.{lent as numbers_of, draw_at, draw_of}
use Rattle.distributions.specs.Found.{law_in}
use Rattle.std.specs.Prelude.{Some, None}
use Rattle.sampling.specs.Sampling.{from_law, takes_of}
use Rattle.feed.specs.declared.Source.{Source}
use Rattle.feed.specs.declared.Source.TheVariants.{Draws}
use Rattle.feed.specs.Supply.{lent, InFile, DrawTakes, Taking, Gives, Small, TakeCall}

by-used : (o : Option Law) (f : ℕ → Option ℕ) (k : ℕ) → draw_of o f k ≡ from_law o f (takes_of o * k)
unfolding draw_at
by-used none f k = refl
by-used (some l) f k = refl

one_more : (o : Option Law) (k used u : ℕ) → used ≡ takes_of o * k → u ≡ used + takes_of o → u ≡ takes_of o * suc k
one_more none k used u e f = omega arith
one_more (some (Uniform a b)) k used u e f = omega arith
one_more (some (Mixture w a b c d)) k used u e f = omega arith

module _ (t ns : List ℕ) (x at used : ℕ) where
  gives-drawn : (r : Taking) → DrawTakes t ns x at used r → (g : ℕ → Option ℕ) (k : ℕ) → InFile t ns x at used g k → Gives (lent Draws t ns) x g k r
  gives-drawn (Some v) e g k s =
      let o = law_in t at in
      record {
        next = s.each k ∙ by-used o (numbers_of ns x) k ∙ ap (from_law o (numbers_of ns x)) (sym s.taken) ∙ e.1.ticks;
        stands = subst (λ i. InFile t ns x i v.used g (suc k)) (sym e.0) (record { taken = one_more o k used v.used s.taken e.1.used; each = s.each });
      }
  gives-drawn None e g k s =
      let o = law_in t at in
      s.each k ∙ by-used o (numbers_of ns x) k ∙ ap (from_law o (numbers_of ns x)) (sym s.taken) ∙ e

  small-drawn : (r : Taking) → DrawTakes t ns x at used r → Small r
  small-drawn (Some v) e = e.1.most
  small-drawn None e = tt

  pub takes-drawn : (from : Source) → from ≡ Draws → (r : Taking) → DrawTakes t ns x at used r → TakeCall (lent from t ns) x at used r
  takes-drawn from q r e = subst (λ s. TakeCall (lent s t ns) x at used r) (sym q) (record { small = small-drawn r e; gives = gives-drawn r e })
