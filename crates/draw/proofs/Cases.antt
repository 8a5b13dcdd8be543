-- A distribution by its cases: what is lawful of it, and what is drawn from it.
use Rattle.std.proofs.Common.{◌≡◌, ℕ, Bool, true, false, cond, ◌&&◌, T, sym, refl, ap, ◌∙◌, subst}
use lib.Ieee.{Float, binary64, add, sub, mul, lt}
use lib.Ieee.Fits.{and_l, and_r}
use Rattle.draw.specs.declared.Law.{Law}
use Rattle.draw.specs.declared.Law.TheVariants.{Uniform, Mixture}
use Rattle.draw.specs.Draw.{unit, value, held, held_of, ticks, drawn, end_of, ranged, weighed, lawful, Between}
use Rattle.draw.proofs.Ticks.{ticks-between}

-- ---- its ranges are ranges
pub of-uniform : (l : Law) (a b : Float) → l ≡ Uniform a b → T (lawful l) → T (ranged a b)
unfolding lawful
of-uniform l a b e h = subst (λ (x : Law). T (lawful x)) e h

module _ (l : Law) (w a b c d : Float) (e : l ≡ Mixture w a b c d) where
  module _ (h : T (lawful l)) where
    both : T (weighed w && ranged a b && ranged c d)
    unfolding lawful
    both = subst (λ (x : Law). T (lawful x)) e h

    pub of-first : T (ranged a b)
    of-first = and_r (weighed w) (ranged a b) (and_l (weighed w && ranged a b) (ranged c d) both)

    pub of-second : T (ranged c d)
    of-second = and_r (weighed w && ranged a b) (ranged c d) both

-- ---- what is drawn: the ticks of every draw from a lawful distribution lie between 1 and the upper end
pub law-between : (l : Law) (m n : ℕ) → T (lawful l) → Between (end_of l m) (drawn l m n)
unfolding drawn end_of
law-between (Uniform a b) m n h = ticks-between a b m (of-uniform (Uniform a b) a b refl h)
law-between (Mixture w a b c d) m n h = go (lt (unit m) w)
  where
    go : (z : Bool) → Between (cond z b d) (cond z (ticks a b n) (ticks c d n))
    go true = ticks-between a b n (of-first (Mixture w a b c d) w a b c d refl h)
    go false = ticks-between c d n (of-second (Mixture w a b c d) w a b c d refl h)

module _ (l : Law) (m n r : ℕ) (h : T (lawful l)) where
  abbrev Draws : Type 0
  Draws = (r ≡ drawn l m n) × Between (end_of l m) r

  drawn-so : r ≡ drawn l m n → Draws
  drawn-so e = (e, subst (Between (end_of l m)) (sym e) (law-between l m n h))

  pub drawn-uniform : (a b : Float) → l ≡ Uniform a b → r ≡ ticks a b m → Draws
  unfolding drawn
  drawn-uniform a b e t = drawn-so (t ∙ sym (ap (λ x. drawn x m n) e))

  module _ (w a b c d u : Float) (e : l ≡ Mixture w a b c d) (q : u ≡ unit m) where
    by : (z : Bool) → lt u w ≡ z → drawn l m n ≡ cond z (ticks a b n) (ticks c d n)
    unfolding drawn
    by z k = ap (λ x. drawn x m n) e ∙ ap (λ y. cond y (ticks a b n) (ticks c d n)) (ap (λ (x : Float). lt x w) (sym q) ∙ k)

    pub drawn-first : lt u w ≡ true → r ≡ ticks a b n → Draws
    drawn-first k t = drawn-so (t ∙ sym (by true k))

    pub drawn-second : lt u w ≡ false → r ≡ ticks c d n → Draws
    drawn-second k t = drawn-so (t ∙ sym (by false k))

-- the code's way to the value held
pub held_by : (lo hi u h : Float) (n : ℕ) → u ≡ unit n → h ≡ held lo hi (add binary64 lo (mul binary64 u (sub binary64 hi lo))) → h ≡ held_of lo hi n
unfolding value
held_by lo hi u h n p q = q ∙ ap (λ (x : Float). held lo hi (add binary64 lo (mul binary64 x (sub binary64 hi lo)))) p
