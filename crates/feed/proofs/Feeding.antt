-- The walk that feeds: the clocks of w that are no longer left have taken a sample, the others stand as they were.
use mathlib.Core.Path.{◌≡◌, refl, sym, ◌∙◌, ap, ap₂, subst}
use mathlib.Core.Logic.{by_cases}
use mathlib.Core.Bool.{Bool, true, false, ◌&&◌, not, cond, true≢false}
use mathlib.Core.Option.{none, some}
use mathlib.Core.List.{List}
use Prim.Native.Nat.{ℕ, suc, ◌^◌, ◌≤◌, ◌<◌}
use native.Mathlib.Decide.{ℕ_discrete}
use native.Mathlib.Omega.{arith}
use borrow.Author.Tests.{le-leb}
use lib.ListN.{length, get_or, set, length-set}
use lib.Seq.{ext_get_or, get_or-set_same, get_or-set_other}
use lib.IntN.{ℤ, pos}
use Rattle.laws.specs.Sets.{has, ◌∈◌}
use Rattle.laws.specs.Search.{is_some, least}
use Rattle.laws.proofs.SearchLaws.{none-least, some-least}
use Rattle.answer.specs.Limits.{max_clocks, max_ticks}
use Rattle.iosa.specs.TimedExactly.{value_of}
use Rattle.sets.specs.Members.{word_bits}
use Rattle.members.proofs.Walk.{Front, Rest, none_left}
use Rattle.ticks.specs.Ticks.{Tick, Ticking}
use Rattle.simulation.specs.Simulate.{Supply, each_from, taken_by, lacks, sampled, fed_at, counted_at}
use Rattle.simulation.proofs.Each.{each-length, each_at}
use Rattle.std.specs.Prelude.{Some, None}
use Rattle.feed.specs.declared.Taken.{Taken}
use Rattle.feed.specs.Supply.{Lent, Stands, Supplies, Taking, Gives, TakeCall}
use Rattle.feed.specs.Feeding.{Fed, FedCall}

-- clock x of those in w: it has taken a sample, or waits or is due none
pub data One (l : Lent) (p : Supply) (w left : ℕ) (ts : List ℕ) (was : List ℤ) (x at used : ℕ) (v : ℤ) : Type 0 where
  has-taken : (n : ℕ) → x ∈ w → has left x ≡ false → p.sample x (taken_by ts x) ≡ some n → v ≡ pos n
      → Stands l x at used (p.sample x) (suc (taken_by ts x)) → One l p w left ts was x at used v
  waits : (x ∈ w → x ∈ left) → v ≡ value_of was x → Stands l x at used (p.sample x) (taken_by ts x) → One l p w left ts was x at used v

pub record Walking (l : Lent) (w : ℕ) (at₀ used₀ : List ℕ) (was : List ℤ) (left : ℕ) (at used : List ℕ) (vs : List ℤ) : Type 0 where
  pub fits : left < 2 ^ word_bits
  pub within : (x : ℕ) → x ∈ left → x ∈ w
  pub at_count : length at ≡ max_clocks
  pub used-count : length used ≡ max_clocks
  pub was-count : length was ≡ max_clocks
  pub count : length vs ≡ max_clocks
  pub ticking : (d : ℕ) → Ticking d was → Ticking d vs
  pub each : (p : Supply) (ts : List ℕ) → Supplies l p ts at₀ used₀ → (x : ℕ) → x < max_clocks
      → One l p w left ts was x (get_or at x 0) (get_or used x 0) (value_of vs x)

pub count-tick : (n : ℕ) → n ≤ max_ticks → Tick (pos n)
count-tick n h = record { low = refl; high = le-leb n max_ticks h }

-- what a clock lacks, by what it takes
lacks-some : (p : Supply) (w : ℕ) (ts : List ℕ) (x n : ℕ) → p.sample x (taken_by ts x) ≡ some n → lacks p w ts x ≡ false
unfolding lacks
lacks-some p w ts x n e = ap (λ o. has w x && not (is_some o)) e ∙ and-false (has w x)
  where
    and-false : (b : Bool) → (b && false) ≡ false
    and-false true = refl
    and-false false = refl

lacks-none : (p : Supply) (w : ℕ) (ts : List ℕ) (x : ℕ) → x ∈ w → p.sample x (taken_by ts x) ≡ none → lacks p w ts x ≡ true
unfolding lacks
lacks-none p w ts x i e = ap₂ (λ b o. b && not (is_some o)) i e

lacks-out : (p : Supply) (w : ℕ) (ts : List ℕ) (x : ℕ) → has w x ≡ false → lacks p w ts x ≡ false
unfolding lacks
lacks-out p w ts x o = ap (λ b. b && not (is_some (p.sample x (taken_by ts x)))) o

module _ (l : Lent) (w : ℕ) (at₀ used₀ : List ℕ) (was : List ℤ) where
  pub walking-first : w < 2 ^ word_bits → length at₀ ≡ max_clocks → length used₀ ≡ max_clocks → length was ≡ max_clocks → Walking l w at₀ used₀ was w at₀ used₀ was
  walking-first f a u c = record {
    fits = f;
    within = λ x h. h;
    at_count = a;
    used-count = u;
    was-count = c;
    count = c;
    ticking = λ d k. k;
    each = λ p ts s x h. waits (λ i. i) refl (s.each x h);
  }

  module _ (left : ℕ) (at used : List ℕ) (vs : List ℤ) (k : Walking l w at₀ used₀ was left at used vs) where
    -- a clock that is not left lacks nothing
    not_left : (p : Supply) (ts : List ℕ) → Supplies l p ts at₀ used₀ → (y : ℕ) → y < max_clocks → has left y ≡ false → lacks p w ts y ≡ false
    not_left p ts s y h n = by (k.each p ts s y h) (has w y) refl
      where
        by : One l p w left ts was y (get_or at y 0) (get_or used y 0) (value_of vs y) → (b : Bool) → has w y ≡ b → lacks p w ts y ≡ false
        by (has-taken m i o e v st) b q = lacks-some p w ts y m e
        by (waits f e st) true q = absurd (true≢false (sym (f q) ∙ n))
        by (waits f e st) false q = lacks-out p w ts y q

    module _ (x : ℕ) (i : Front left x) where
      -- it has none left
      pub walking-lacks : (r : Taking) → TakeCall l x (get_or at x 0) (get_or used x 0) r → r ≡ None
          → FedCall l w at₀ used₀ was (Some x) at used vs
      walking-lacks r c e = record {
        at_count = k.at_count;
        used-count = k.used-count;
        count = k.count;
        ticking = k.ticking;
        fed = λ p ts s. subst (λ o. Fed o l p w ts was (Some x) at used vs) (sym (found p ts s)) refl;
      }
        where
          found : (p : Supply) (ts : List ℕ) → Supplies l p ts at₀ used₀ → least (lacks p w ts) max_clocks ≡ some x
          found p ts s = some-least (lacks p w ts) max_clocks x (record {
            below = i.below;
            here = here (k.each p ts s x i.below) r e (c.gives (p.sample x) (taken_by ts x));
            before = λ y h. not_left p ts s y (omega (arith, i.below)) (i.first y h);
          })
            where
              here : One l p w left ts was x (get_or at x 0) (get_or used x 0) (value_of vs x) → (q : Taking) → q ≡ None
                  → (Stands l x (get_or at x 0) (get_or used x 0) (p.sample x) (taken_by ts x) → Gives l x (p.sample x) (taken_by ts x) q)
                  → lacks p w ts x ≡ true
              here (has-taken m j o z v st) q f g = absurd (true≢false (sym i.member ∙ o))
              here (waits f z st) None h g = lacks-none p w ts x (k.within x i.member) (g st)
              here (waits f z st) (Some s) h g = let y : ◌≡◌ {A = ℕ} 0 1 = cc in absurd (omega arith)

      -- it takes one
      module _ (o : Taken) (c : TakeCall l x (get_or at x 0) (get_or used x 0) (Some o)) where
        taking : (v : ℤ) → v ≡ pos o.ticks → (t : ℕ) → Rest left x t
            → Walking l w at₀ used₀ was t (set at x o.at) (set used x o.used) (set vs x v)
        taking v ev t r = record {
          fits = r.fits;
          within = λ y h. k.within y (sym (r.same y (λ q. true≢false (sym h ∙ ap (has t) q ∙ r.gone))) ∙ h);
          at_count = length-set at x o.at ∙ k.at_count;
          used-count = length-set used x o.used ∙ k.used-count;
          was-count = k.was-count;
          count = length-set vs x v ∙ k.count;
          ticking = λ d q. record { count = length-set vs x v ∙ k.count; each = λ y h. by_cases (ℕ_discrete y x) tick-here (λ m. rw (get_or-set_other vs x y v (pos 0) m) ((k.ticking d q).each y h)) };
          each = λ p ts s y h. by_cases (ℕ_discrete y x) (here p ts s) (λ m. other p ts s y h m (k.each p ts s y h));
        }
          where
            tick-here : {y : ℕ} → y ≡ x → Tick (value_of (set vs x v) y)
            tick-here {y} q = subst Tick (sym (ap (λ m. value_of (set vs x v) m) q ∙ get_or-set_same vs x v (pos 0) (omega (arith, k.count, i.below)) ∙ ev)) (count-tick o.ticks c.small)

            here : (p : Supply) (ts : List ℕ) → Supplies l p ts at₀ used₀ → {y : ℕ} → y ≡ x
                → One l p w t ts was y (get_or (set at x o.at) y 0) (get_or (set used x o.used) y 0) (value_of (set vs x v) y)
            here p ts s {y} q =
                rw (q, get_or-set_same at x o.at 0 (omega (arith, k.at_count, i.below)), get_or-set_same used x o.used 0 (omega (arith, k.used-count, i.below)), get_or-set_same vs x v (pos 0) (omega (arith, k.count, i.below)))
                (go (k.each p ts s x i.below))
              where
                go : One l p w left ts was x (get_or at x 0) (get_or used x 0) (value_of vs x) → One l p w t ts was x o.at o.used v
                go (has-taken m j q' z w' st) = absurd (true≢false (sym i.member ∙ q'))
                go (waits f z st) =
                    let g = c.gives (p.sample x) (taken_by ts x) st in
                    has-taken o.ticks (k.within x i.member) r.gone g.next ev g.stands

            other : (p : Supply) (ts : List ℕ) → Supplies l p ts at₀ used₀ → (y : ℕ) → y < max_clocks → (y ≡ x → ⊥)
                → One l p w left ts was y (get_or at y 0) (get_or used y 0) (value_of vs y)
                → One l p w t ts was y (get_or (set at x o.at) y 0) (get_or (set used x o.used) y 0) (value_of (set vs x v) y)
            other p ts s y h m b = rw (get_or-set_other at x y o.at 0 m, get_or-set_other used x y o.used 0 m, get_or-set_other vs x y v (pos 0) m) (go b)
              where
                go : One l p w left ts was y (get_or at y 0) (get_or used y 0) (value_of vs y) → One l p w t ts was y (get_or at y 0) (get_or used y 0) (value_of vs y)
                go (has-taken m' j o' z w' st) = has-taken m' j (r.same y m ∙ o') z w' st
                go (waits f z st) = waits (λ j. r.same y m ∙ f j) z st

      pub walking-takes : (r : Taking) → TakeCall l x (get_or at x 0) (get_or used x 0) r → (s : Taken) → r ≡ Some s → (v : ℤ) → v ≡ pos s.ticks → (t : ℕ) → Rest left x t
          → Walking l w at₀ used₀ was t (set at x s.at) (set used x s.used) (set vs x v)
      walking-takes r c s e = taking s (subst (TakeCall l x (get_or at x 0) (get_or used x 0)) e c)

    -- ---- nothing is left
    module _ (z : left ≡ 0) where
      none-lacks : (p : Supply) (ts : List ℕ) → Supplies l p ts at₀ used₀ → least (lacks p w ts) max_clocks ≡ none
      none-lacks p ts s = none-least (lacks p w ts) max_clocks (λ y h. not_left p ts s y h (none_left left y z))

      value-is : (p : Supply) (ts : List ℕ) → Supplies l p ts at₀ used₀ → (y : ℕ) → y < max_clocks → value_of vs y ≡ fed_at p w ts y (value_of was y)
      unfolding fed_at
      value-is p ts s y h = by (k.each p ts s y h) (has w y) refl
        where
          by : One l p w left ts was y (get_or at y 0) (get_or used y 0) (value_of vs y) → (b : Bool) → has w y ≡ b
              → value_of vs y ≡ cond (has w y) (sampled (p.sample y (taken_by ts y)) (value_of was y)) (value_of was y)
          by (has-taken m i o e v st) b q = v ∙ sym (ap₂ (λ c o. cond c (sampled o (value_of was y)) (value_of was y)) i e)
          by (waits f e st) true q = absurd (true≢false (sym (f q) ∙ none_left left y z))
          by (waits f e st) false q = e ∙ sym (ap (λ c. cond c (sampled (p.sample y (taken_by ts y)) (value_of was y)) (value_of was y)) q)

      stands-is : (p : Supply) (ts : List ℕ) → Supplies l p ts at₀ used₀ → (y : ℕ) → y < max_clocks
          → Stands l y (get_or at y 0) (get_or used y 0) (p.sample y) (counted_at w y (taken_by ts y))
      unfolding counted_at
      stands-is p ts s y h = by (k.each p ts s y h) (has w y) refl
        where
          by : One l p w left ts was y (get_or at y 0) (get_or used y 0) (value_of vs y) → (b : Bool) → has w y ≡ b
              → Stands l y (get_or at y 0) (get_or used y 0) (p.sample y) (cond (has w y) (suc (taken_by ts y)) (taken_by ts y))
          by (has-taken m i o e v st) b q = rw i st
          by (waits f e st) true q = absurd (true≢false (sym (f q) ∙ none_left left y z))
          by (waits f e st) false q = rw q st

      pub walking-end : FedCall l w at₀ used₀ was None at used vs
      walking-end = record {
        at_count = k.at_count;
        used-count = k.used-count;
        count = k.count;
        ticking = k.ticking;
        fed = λ p ts s. subst (λ o. Fed o l p w ts was None at used vs) (sym (none-lacks p ts s)) (record {
          none_lacks = refl;
          values =
              ext_get_or (pos 0) vs (each_from (fed_at p w ts) 0 was)
              (k.count ∙ sym (each-length (fed_at p w ts) (pos 0) 0 was ∙ k.was-count))
              (λ y h. value-is p ts s y (omega (arith, k.count)) ∙ sym (each_at (fed_at p w ts) (pos 0) was y (omega (arith, k.count, k.was-count))));
          supplies = record {
            counted = each-length (counted_at w) 0 0 ts ∙ s.counted;
            number = s.number;
            each = λ y h. rw (each_at (counted_at w) 0 ts y (omega (arith, s.counted))) (stands-is p ts s y h);
          };
        });
      }
