-- The tests of 29 and 30 and of the least value, for a set e of clocks that are the clocks W.
use mathlib.Core.Path.{◌≡◌, refl, sym, ◌∙◌, ap, ap₂}
use mathlib.Core.Logic.{◌≢◌}
use mathlib.Core.Option.{none, some}
use mathlib.Core.Bool.{Bool, true, false, ◌&&◌, not, true≢false}
use mathlib.Core.List.{List}
use Prim.Native.Nat.{ℕ, ◌<◌}
use lib.Dec.{eqb}
use lib.IntN.{ℤ, pos}
use lib.Signed.{lt_z}
use native.Mathlib.Decide.{ℕ_discrete}
use borrow.Author.Tests.{not-true, eqb-false, ne_eqb}
use Rattle.laws.specs.Sets.{has, ◌∈◌}
use Rattle.laws.specs.Search.{least, any}
use Rattle.laws.proofs.SearchLaws.{any-true, any_false, true-any, least-some, some-least, least-none, none-least}
use Rattle.laws.proofs.TestLaws.{and-true, and-false, not_so}
use Rattle.laws.proofs.TickLaws.{less-irreflexive, less-transitive, less-total}
use Rattle.laws.proofs.MinimalLaws.{has-minimal}
use Rattle.answer.specs.Limits.{max_clocks}
use Rattle.laws.specs.Lowest.{Lowest}
use Rattle.timing.specs.Timed.{below_zero, is_least, shares}
use Rattle.iosa.specs.TimedExactly.{LeastOf, BelowZero, Shares, value_of}

-- ---- the search for the lowest number below n with a test
-- f decides P, which holds only below n
pub record Decides (P : ℕ → Type 0) (f : ℕ → Bool) (n : ℕ) : Type 0 where
  pub to : (x : ℕ) → f x ≡ true → P x
  pub from : (x : ℕ) → P x → f x ≡ true
  pub below : (x : ℕ) → P x → x < n

module _ (P : ℕ → Type 0) (f : ℕ → Bool) (n : ℕ) (d : Decides P f n) where
  pub lowest-found : (x : ℕ) → least f n ≡ some x → Lowest P x
  lowest-found x e = let l = least-some f n x e in record { here = d.to x l.here; before = λ y h p. true≢false (sym (d.from y p) ∙ l.before y h) }

  pub found-lowest : (x : ℕ) → Lowest P x → least f n ≡ some x
  found-lowest x l =
      some-least f n x (record {
        below = d.below x l.here;
        here = d.from x l.here;
        before = λ y h. not_so (f y) (λ t. l.before y h (d.to y t));
      })

  pub none_found : least f n ≡ none → (x : ℕ) → P x → ⊥
  none_found e x p = true≢false (sym (d.from x p) ∙ least-none f n e x (d.below x p))

  pub found_none : ((x : ℕ) → P x → ⊥) → least f n ≡ none
  found_none h = none-least f n (λ x l. not_so (f x) (λ t. h x (d.to x t)))

-- the set e holds the clocks W
pub record Clocks (W : ℕ → Type 0) (e : ℕ) : Type 0 where
  pub to : (x : ℕ) → x ∈ e → W x
  pub from : (x : ℕ) → W x → x ∈ e
  pub below : (x : ℕ) → W x → x < max_clocks

module _ (W : ℕ → Type 0) (e : ℕ) (vs : List ℤ) (w : Clocks W e) where
  -- ---- 29
  test-negative : (x : ℕ) → below_zero e vs x ≡ true → BelowZero W vs x
  unfolding below_zero
  test-negative x t = let p = and-true (has e x) (lt_z (value_of vs x) (pos 0)) t in record { waits = w.to x p.0; negative = p.1 }

  negative-test : (x : ℕ) → BelowZero W vs x → below_zero e vs x ≡ true
  unfolding below_zero
  negative-test x b = ap₂ ◌&&◌ (w.from x b.waits) b.negative

  -- ---- the least value
  smaller : ℕ → ℕ → Bool
  smaller x y = has e y && lt_z (value_of vs y) (value_of vs x)

  test-least : (x : ℕ) → is_least e vs x ≡ true → LeastOf W vs x
  unfolding is_least smaller
  test-least x t =
      let p = and-true (has e x) (not (any (smaller x) max_clocks)) t in
      let n = any_false (smaller x) max_clocks (not-true (any (smaller x) max_clocks) p.1) in
      record { waits = w.to x p.0; least = λ y h. and-false (has e y) (lt_z (value_of vs y) (value_of vs x)) (n y (w.below y h)) (w.from y h) }

  least-test : (x : ℕ) → LeastOf W vs x → is_least e vs x ≡ true
  unfolding is_least smaller
  least-test x l = ap₂ ◌&&◌ (w.from x l.waits) (ap not (not_so (any (smaller x) max_clocks) (λ t.
      let p = any-true (smaller x) max_clocks t in
      let q = and-true (has e p.0) (lt_z (value_of vs p.0) (value_of vs x)) p.2 in
      true≢false (sym q.1 ∙ l.least p.0 (w.to p.0 q.0)))))

  -- ---- 30
  another : ℕ → ℕ → Bool
  another x y = not (eqb y x) && is_least e vs y

  test-shares : (x : ℕ) → shares e vs x ≡ true → Shares W vs x
  unfolding shares another
  test-shares x t =
      let p = and-true (is_least e vs x) (any (another x) max_clocks) t in
      let q = any-true (another x) max_clocks p.1 in
      let r = and-true (not (eqb q.0 x)) (is_least e vs q.0) q.2 in
      record { here = test-least x p.0; other = q.0; differs = eqb-false q.0 x (not-true (eqb q.0 x) r.0); there = test-least q.0 r.1 }

  shares-test : (x : ℕ) → Shares W vs x → shares e vs x ≡ true
  unfolding shares another
  shares-test x s =
      ap₂ ◌&&◌ (least-test x s.here)
      (true-any (another x) max_clocks s.other (w.below s.other s.there.waits)
      (ap₂ ◌&&◌ (ap not (ne_eqb s.other x s.differs)) (least-test s.other s.there)))

  -- ---- what the three tests decide
  pub negatives : Decides (BelowZero W vs) (below_zero e vs) max_clocks
  negatives = record { to = test-negative; from = negative-test; below = λ x b. w.below x b.waits }

  pub leasts : Decides (LeastOf W vs) (is_least e vs) max_clocks
  leasts = record { to = test-least; from = least-test; below = λ x l. w.below x l.waits }

  pub sharers : Decides (Shares W vs) (shares e vs) max_clocks
  sharers = record { to = test-shares; from = shares-test; below = λ x s. w.below x s.here.waits }

  -- ---- there is a least value where there is a clock
  pub has-least : (x : ℕ) → W x → (y : ℕ) × LeastOf W vs y
  has-least x h =
      let m = has-minimal (has e) (λ y z. lt_z (value_of vs y) (value_of vs z)) (λ y. less-irreflexive (value_of vs y))
      (λ y z u. less-transitive (value_of vs y) (value_of vs z) (value_of vs u)) max_clocks x (w.below x h) (w.from x h) in
      (m.0, record { waits = w.to m.0 m.1.here; least = λ y k. m.1.least y (w.below y k) (w.from y k) })

  pub none-least-none-waits : least (is_least e vs) max_clocks ≡ none → (x : ℕ) → W x → ⊥
  none-least-none-waits h x k =
      let y = has-least x k in
      none_found (LeastOf W vs) (is_least e vs) max_clocks leasts h y.0 y.1

  pub none-waits-none-least : ((x : ℕ) → W x → ⊥) → least (is_least e vs) max_clocks ≡ none
  none-waits-none-least h = found_none (LeastOf W vs) (is_least e vs) max_clocks leasts (λ x l. h x l.waits)

  -- a least value that is not shared is less than every other
  pub alone-is-less : ((x : ℕ) → Shares W vs x → ⊥) → (x : ℕ) → LeastOf W vs x → (y : ℕ) → y ≢ x → W y → lt_z (value_of vs x) (value_of vs y) ≡ true
  alone-is-less n x l y d h = go (lt_z (value_of vs x) (value_of vs y)) refl
    where
      same : lt_z (value_of vs x) (value_of vs y) ≡ false → value_of vs x ≡ value_of vs y
      same e = less-total (value_of vs x) (value_of vs y) e (l.least y h)

      go : (b : Bool) → lt_z (value_of vs x) (value_of vs y) ≡ b → b ≡ true
      go true e = refl
      go false e = absurd (n x (record { here = l; other = y; differs = d; there = record { waits = h; least = λ z k. rw (← same e) (l.least z k) } }))

  -- and back: a value less than every other is the least, and not shared
  pub less-is-alone : (x : ℕ) → W x → ((y : ℕ) → y ≢ x → W y → lt_z (value_of vs x) (value_of vs y) ≡ true) → (y : ℕ) → LeastOf W vs y → y ≡ x
  less-is-alone x h f y l = elim (ℕ_discrete y x) [ yes i ↦ i | no i ↦ absurd (true≢false (sym (f y i l.waits) ∙ l.least x h)) ]
