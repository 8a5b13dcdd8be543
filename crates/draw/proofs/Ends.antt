-- What is drawn from a range, before its whole part is taken, lies between the ends.
use Rattle.std.proofs.Common.{◌≡◌, ℕ, ◌-◌, ◌*◌, ◌^◌, ◌<◌, ◌≤◌, Bool, true, false, cond, not, ◌&&◌, T, ltb, sym, refl, subst, le_trans, le_of_eq, le_refl, mul-le-mul_right, zero-lt-suc, mul_assoc, mul-pos, one-mul, mul-one, not-le_of_lt, arith, lit≤, ltb→lt}
use lib.Ieee.{Float, nan, inf, fin, Format, binary64, up, down, round, neg, sum, add, sub, mul, lt, le}
use lib.Ieee.Fits.{and_l, and_r}
use lib.Ieee.Back.{round_whole}
use lib.Ieee.Order.{round_mono}
use lib.Ieee.Positive.{num, den, positive, den_pos, between, le→cross, cross→le, le_trans_positive}
use Rattle.draw.specs.Draw.{one, most, top_bits, unit, value, held, held_of, within, ranged}
use Rattle.draw.proofs.Unit.{unit-exact}
use Rattle.draw.proofs.Signs.{notneg, plain, round-notneg, capped, plain-of-value, plain-of-positive, mul-notneg, add-notneg, not-below, not-above}

-- ---- an end of a range
one-positive : T (positive one)
one-positive = tt

most-positive : T (positive most)
most-positive = tt

within-positive : (x : Float) → T (within x) → T (positive x)
unfolding within
within-positive x h = between one x most one-positive most-positive (and_l (le one x) (le x most) h) (and_r (le one x) (le x most) h)

-- as a fraction
pub at_most : (x : Float) → T (positive x) → T (le x most) → num x ≤ 2 ^ 40 * den x
at_most x p h = le_trans (le_of_eq (sym (mul-one (num x)))) (le→cross x most p most-positive h)

pub at_least : (x : Float) → T (positive x) → T (le one x) → den x ≤ num x
at_least x p h =
    le_trans (le_of_eq (sym (one-mul (den x)))) (le_trans (le→cross one x one-positive p h) (le_of_eq (mul-one (num x))))

pub record Ends (lo hi : Float) : Type 0 where
  pub low-positive : T (positive lo)
  pub high-positive : T (positive hi)
  pub from_one : T (le one lo)
  pub ordered : T (le lo hi)
  pub to-most : T (le hi most)

pub ends : (lo hi : Float) → T (ranged lo hi) → Ends lo hi
unfolding ranged within
ends lo hi h =
    let a = and_l (within lo && within hi) (le lo hi) h in
    let l = and_l (within lo) (within hi) a in
    let u = and_r (within lo) (within hi) a in
    record {
      low-positive = within-positive lo l;
      high-positive = within-positive hi u;
      from_one = and_l (le one lo) (le lo most) l;
      ordered = and_r (within lo && within hi) (le lo hi) h;
      to-most = and_r (le one hi) (le hi most) u;
    }

-- ---- upper - lower is rounded once, and is finite
pick : (f : Format) (a b c : ℕ) → b ≤ a → sum f false a true b c ≡ round f false (a - b) c
unfolding sum
pick f a b c h = go (ltb a b) (ltb→lt a b)
  where
    go : (t : Bool) → (T t → a < b) → cond t (round f true (b - a) c) (round f false (a - b) c) ≡ round f false (a - b) c
    go true k = absurd (not-le_of_lt (k tt) h)
    go false k = refl

width_is : (x y : Float) → T (positive x) → T (positive y) → T (le y x)
    → sub binary64 x y ≡ round binary64 false (num x * den y - num y * den x) (den x * den y)
unfolding sub add neg
width_is nan y p q h = absurd p
width_is (inf s) y p q h = absurd p
width_is (fin true m e) y p q h = absurd p
width_is (fin false m e) nan p q h = absurd q
width_is (fin false m e) (inf t) p q h = absurd q
width_is (fin false m e) (fin true n d) p q h = absurd q
width_is (fin false m e) (fin false n d) p q h =
    pick binary64 (m * up e * down d) (n * up d * down e) (down e * down d) (le→cross (fin false n d) (fin false m e) q p h)

less : (a b c : ℕ) → a ≤ c → (a - b) * 1 ≤ c
less a b c h = omega arith

width-plain : (x y : Float) → T (positive x) → T (positive y) → T (le y x) → T (le x most) → T (plain (sub binary64 x y))
width-plain x y p q h k =
    let r = round binary64 false (2 ^ 40) 1 in
    let a = num x * den y - num y * den x in
    let c = den x * den y in
    let top : T (plain r) = plain-of-value r (2 ^ 40) 1 (round_whole binary64 false (2 ^ 40) (lit≤ tt)) in
    let cap : num x * den y ≤ 2 ^ 40 * c = le_trans (mul-le-mul_right (den y) (at_most x p k)) (le_of_eq (mul_assoc (2 ^ 40) (den x) (den y))) in
    let below = round_mono binary64 a c (2 ^ 40) 1 (mul-pos (den_pos x) (den_pos y)) (zero-lt-suc 0) (less (num x * den y) (num y * den x) (2 ^ 40 * c) cap) in
    subst (λ (z : Float). T (plain z)) (sym (width_is x y p q h)) (capped (round binary64 false a c) r (round-notneg binary64 a c) top below)

-- ---- held within the ends
same-le : (x : Float) → T (positive x) → T (le x x)
same-le x p = cross→le x x p p (le_refl (num x * den x))

held-between : (lo hi v : Float) → T (positive lo) → T (positive hi) → T (le lo hi) → T (notneg v) → T (le lo (held lo hi v)) × T (le (held lo hi v) hi)
unfolding held
held-between lo hi v p q h n = go (lt v lo) (lt hi v) (not-below lo v p n) (not-above v hi q n)
  where
    go : (a b : Bool) → (T (not a) → T (le lo v)) → (T (not b) → T (le v hi))
        → T (le lo (cond a lo (cond b hi v))) × T (le (cond a lo (cond b hi v)) hi)
    go true b j k = (same-le lo p, h)
    go false true j k = (h, same-le hi q)
    go false false j k = (j tt, k tt)

value-notneg : (lo hi : Float) (n : ℕ) → Ends lo hi → T (notneg (value lo hi (unit n)))
unfolding value
value-notneg lo hi n e =
    add-notneg binary64 lo (mul binary64 (unit n) (sub binary64 hi lo)) (plain-of-positive lo e.low-positive)
    (mul-notneg binary64 (unit n) (sub binary64 hi lo) (plain-of-value (unit n) (top_bits n) (2 ^ 53) (unit-exact n))
    (width-plain hi lo e.high-positive e.low-positive e.ordered e.to-most))

pub record Held (lo hi x : Float) : Type 0 where
  pub finite : T (positive x)
  pub below-high : T (le x hi)
  pub above-one : T (le one x)
  pub below-most : T (le x most)

pub held-well : (lo hi : Float) (n : ℕ) → T (ranged lo hi) → Held lo hi (held_of lo hi n)
held-well lo hi n r =
    let e = ends lo hi r in
    let b = held-between lo hi (value lo hi (unit n)) e.low-positive e.high-positive e.ordered (value-notneg lo hi n e) in
    let x = held_of lo hi n in
    let p : T (positive x) = between lo x hi e.low-positive e.high-positive b.0 b.1 in
    record {
      finite = p;
      below-high = b.1;
      above-one = le_trans_positive one lo x one-positive e.low-positive p e.from_one b.0;
      below-most = le_trans_positive x hi most p e.high-positive most-positive b.1 e.to-most;
    }
