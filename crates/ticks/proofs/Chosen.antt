-- The lowest clock with the least value, found one clock at a time, and whether another shares it.
use mathlib.Core.Path.{◌≡◌, refl, sym, ◌∙◌, ap, ap₂}
use mathlib.Core.Logic.{by_cases}
use mathlib.Core.Option.{none, some}
use mathlib.Core.Bool.{Bool, true, false, cond, ◌&&◌, not, true≢false, false≢true}
use mathlib.Core.List.{List}
use Prim.Native.Nat.{ℕ, ◌+◌, ◌^◌, ◌≤◌, ◌<◌}
use native.Mathlib.Omega.{arith}
use native.Mathlib.Decide.{ℕ_discrete, dec_lt}
use lib.Dec.{eqb}
use lib.IntN.{ℤ}
use lib.Signed.{lt_z, le_z}
use borrow.Author.Tests.{eqb-false, ne_eqb, not-true}
use Rattle.std.specs.Prelude.{Some, None, IfSome}
use Rattle.laws.specs.Sets.{has, ◌∈◌}
use Rattle.laws.specs.Search.{when, least, any, Least}
use Rattle.laws.proofs.SearchLaws.{none-least, some-least, least-some, least-none, any-true, any_false, true-any}
use Rattle.laws.proofs.TestLaws.{and-true, and-not-both, not_so}
use Rattle.laws.proofs.TickLaws.{less-irreflexive, less-transitive, less-total, at_most, not-less}
use Rattle.answer.specs.Limits.{max_clocks}
use Rattle.timing.specs.Timed.{is_least, shares, check30}
use Rattle.iosa.specs.TimedExactly.{value_of}
use Rattle.sets.specs.Members.{word_bits}
use Rattle.members.proofs.Walk.{Front, Rest, none_left}
use Rattle.ticks.specs.Ticks.{rivals, better_of, by_value, Clock, clock_of}

-- less than what is less than or equal to another
less-at-most : (a b c : ℤ) → lt_z a b ≡ true → lt_z c b ≡ false → lt_z a c ≡ true
less-at-most a b c h k = go (lt_z a c) refl (lt_z c a) refl
  where
    go : (p : Bool) → lt_z a c ≡ p → (q : Bool) → lt_z c a ≡ q → p ≡ true
    go true e q f = refl
    go false e true f = absurd (true≢false (sym (less-transitive c a b f h) ∙ k))
    go false e false f = absurd (true≢false (sym h ∙ ap (λ z. lt_z z b) (less-total a c e f) ∙ k))

module _ (e : ℕ) (vs : List ℤ) where
  -- b is the lowest of the clocks below k with the least value
  pub record Leads (k b : ℕ) : Type 0 where
    pub below : b < k
    pub here : b ∈ e
    pub least : (y : ℕ) → y < k → y ∈ e → lt_z (value_of vs y) (value_of vs b) ≡ false
    pub first : (y : ℕ) → y < b → y ∈ e → lt_z (value_of vs b) (value_of vs y) ≡ true

  -- b is that clock, if there is one
  abbrev pub Best : ℕ → Clock → Type 0
  Best k None = (y : ℕ) → y < k → has e y ≡ false
  Best k (Some b) = Leads k b

  pub best_none : Best 0 None
  best_none = λ y h. absurd (omega arith)

  pub best-bound : (k : ℕ) (b : Clock) → k ≤ max_clocks → Best k b → IfSome b (λ x. x < max_clocks)
  best-bound k None h f = tt
  best-bound k (Some b) h l = omega (arith, l.below)

  last : {P : Type 0} (k y : ℕ) → y < k + 1 → (y ≡ k → P) → (y < k → P) → P
  last k y h p q = by_cases (ℕ_discrete y k) p (λ n. q (omega arith))

  pub best-next : (k : ℕ) (b : Clock) → k < max_clocks → Best k b → Best (k + 1) (better_of e vs b k)
  unfolding better_of
  best-next k None h f = go (has e k) refl
    where
      go : (t : Bool) → has e k ≡ t → Best (k + 1) (cond t (Some k) None)
      go false n = λ y q. last k y q (λ w. ap (has e) w ∙ n) (λ w. f y w)
      go true i = record {
        below = omega arith;
        here = i;
        least = λ y q j. last k y q (λ w. rw w (less-irreflexive (value_of vs k))) (λ w. absurd (true≢false (sym j ∙ f y w)));
        first = λ y q j. absurd (true≢false (sym j ∙ f y q));
      }
  best-next k (Some b) h l = go (has e k) refl (lt_z (value_of vs k) (value_of vs b)) refl
    where
      out : has e k ≡ false → Leads (k + 1) b
      out n = record {
        below = omega (arith, l.below);
        here = l.here;
        least = λ y q i. last k y q (λ w. absurd (true≢false (sym i ∙ ap (has e) w ∙ n))) (λ w. l.least y w i);
        first = l.first;
      }

      over-taken : has e k ≡ true → lt_z (value_of vs k) (value_of vs b) ≡ true → Leads (k + 1) k
      over-taken i t = record {
        below = omega arith;
        here = i;
        least = λ y q j. last k y q (λ w. rw w (less-irreflexive (value_of vs k)))
            (λ w. not_so (lt_z (value_of vs y) (value_of vs k))
            (λ u. true≢false (sym (less-transitive (value_of vs y) (value_of vs k) (value_of vs b) u t) ∙ l.least y w j)));
        first = λ y q j. less-at-most (value_of vs k) (value_of vs b) (value_of vs y) t (l.least y q j);
      }

      kept : lt_z (value_of vs k) (value_of vs b) ≡ false → Leads (k + 1) b
      kept t = record {
        below = omega (arith, l.below);
        here = l.here;
        least = λ y q j. last k y q (λ w. rw w t) (λ w. l.least y w j);
        first = l.first;
      }

      go : (t : Bool) → has e k ≡ t → (u : Bool) → lt_z (value_of vs k) (value_of vs b) ≡ u → Best (k + 1) (cond (t && u) (Some k) (Some b))
      go false n u f = out n
      go true i true f = over-taken i f
      go true i false f = kept f

  -- the clocks from k up to x are not enabling
  best-skip : (k x : ℕ) (b : Clock) → k ≤ x → ((y : ℕ) → k ≤ y → y < x → has e y ≡ false) → Best k b → Best x b
  best-skip k x None h n f = λ y q. by_cases (dec_lt y k) (λ l. f y l) (λ l. n y (omega arith) q)
  best-skip k x (Some b) h n l = record {
    below = omega (arith, l.below);
    here = l.here;
    least = λ y q i. by_cases (dec_lt y k) (λ m. l.least y m i) (λ m. absurd (true≢false (sym i ∙ n y (omega arith) q)));
    first = l.first;
  }

  -- ---- the walk: of the clocks below `from`, b; the others are left
  pub record Walked (left : ℕ) (b : Clock) : Type 0 where
    pub fits : left < 2 ^ word_bits
    pub from : ℕ
    pub few : from ≤ max_clocks
    pub best : Best from b
    pub above : (y : ℕ) → y ∈ left → from ≤ y
    pub rest : (y : ℕ) → y ∈ e → from ≤ y → y ∈ left

  pub walked-first : e < 2 ^ word_bits → Walked e None
  walked-first f = record { fits = f; from = 0; few = omega arith; best = best_none; above = λ y h. omega arith; rest = λ y h l. h }

  module _ (left : ℕ) (b : Clock) (w : Walked left b) where
    pub walked-bound : IfSome b (λ x. x < max_clocks)
    walked-bound = best-bound w.from b w.few w.best

    pub walked_next : (x t : ℕ) → Front left x → Rest left x t → (c : Clock) → c ≡ better_of e vs b x → Walked t c
    walked_next x t i r c q = record {
      fits = r.fits;
      from = x + 1;
      few = omega (arith, i.below);
      best = rw q (best-next x b i.below (best-skip w.from x b (w.above x i.member) between w.best));
      above = λ y h. by_cases (dec_lt y (x + 1)) (λ l. absurd (not_lower y h l)) (λ l. omega arith);
      rest = λ y h l. r.same y (λ m. omega arith) ∙ w.rest y h (omega (arith, w.above x i.member));
    }
      where
        between : (y : ℕ) → w.from ≤ y → y < x → has e y ≡ false
        between y l m = not_so (has e y) (λ h. true≢false (sym (w.rest y h l) ∙ i.first y m))

        not_lower : (y : ℕ) → y ∈ t → y < x + 1 → ⊥
        not_lower y h l = by_cases (ℕ_discrete y x)
            (λ m. true≢false (sym h ∙ ap (has t) m ∙ r.gone))
            (λ m. true≢false (sym h ∙ r.same y m ∙ i.first y (omega arith)))

    pub walked_all : left ≡ 0 → Best max_clocks b
    walked_all z = best-skip w.from max_clocks b w.few (λ y l m. not_so (has e y) (λ h. true≢false (sym (w.rest y h l) ∙ none_left left y z))) w.best

  -- ---- the end of the loop
  smaller : ℕ → ℕ → Bool
  smaller x y = has e y && lt_z (value_of vs y) (value_of vs x)

  leads-least : (b : ℕ) → Leads max_clocks b → Least (is_least e vs) max_clocks b
  unfolding is_least smaller
  leads-least b l = record {
    below = l.below;
    here = ap₂ (λ p q. p && not q) l.here (not_so (any (smaller b) max_clocks) (λ t.
        let p = any-true (smaller b) max_clocks t in
        let q = and-true (has e p.0) (lt_z (value_of vs p.0) (value_of vs b)) p.2 in
        true≢false (sym q.1 ∙ l.least p.0 p.1 q.0)));
    before = λ j h. and-not-both (has e j) (not (any (smaller j) max_clocks)) (λ i t.
        true≢false (sym (true-any (smaller j) max_clocks b l.below (ap₂ ◌&&◌ l.here (l.first j h i))) ∙ not-true (any (smaller j) max_clocks) t));
  }

  pub best-end : (b : Clock) → Best max_clocks b → b ≡ clock_of (least (is_least e vs) max_clocks)
  unfolding is_least smaller
  best-end None f = sym (ap clock_of (none-least (is_least e vs) max_clocks (λ k h. ap (λ p. p && not (any (smaller k) max_clocks)) (f k h))))
  best-end (Some b) l = sym (ap clock_of (some-least (is_least e vs) max_clocks b (leads-least b l)))

  -- ---- 30: another clock shares the least value exactly where one other is not above it
  module _ (x : ℕ) (found : least (is_least e vs) max_clocks ≡ some x) where
    abbrev rival : ℕ → Bool
    rival = by_value (rivals e x (value_of vs x)) vs

    lowest : Least (is_least e vs) max_clocks x
    lowest = least-some (is_least e vs) max_clocks x found

    -- a clock with the least value has none below it
    not-under : (y z : ℕ) → is_least e vs y ≡ true → z < max_clocks → z ∈ e → lt_z (value_of vs z) (value_of vs y) ≡ false
    unfolding is_least smaller
    not-under y z t h i =
        let n = not-true (any (smaller y) max_clocks) (and-true (has e y) (not (any (smaller y) max_clocks)) t).1 in
        not_so (lt_z (value_of vs z) (value_of vs y)) (λ u. true≢false (sym (ap₂ ◌&&◌ i u) ∙ any_false (smaller y) max_clocks n z h))

    own : (y : ℕ) → is_least e vs y ≡ true → y ∈ e
    unfolding is_least smaller
    own y t = (and-true (has e y) (not (any (smaller y) max_clocks)) t).0

    -- another clock with the least value is a rival
    least-rival : (y : ℕ) → y < max_clocks → (y ≡ x → ⊥) → is_least e vs y ≡ true → rival y ≡ true
    unfolding rivals
    least-rival y h n t = ap₂ ◌&&◌ (own y t)
        (ap₂ (λ p q. not p && q) (ne_eqb y x n) (at_most (value_of vs y) (value_of vs x) (not-under y x t lowest.below (own x lowest.here))))

    -- a rival has the least value
    rival-least : (y : ℕ) → y < max_clocks → rival y ≡ true → (not (eqb y x) && is_least e vs y) ≡ true
    unfolding rivals is_least smaller
    rival-least y h t =
        let p = and-true (has e y) (not (eqb y x) && le_z (value_of vs y) (value_of vs x)) t in
        let q = and-true (not (eqb y x)) (le_z (value_of vs y) (value_of vs x)) p.1 in
        let same : value_of vs x ≡ value_of vs y =
        less-total (value_of vs x) (value_of vs y) (not-less (value_of vs y) (value_of vs x) q.1) (not-under x y lowest.here h p.0) in
        let n = (and-true (has e x) (not (any (smaller x) max_clocks)) lowest.here).1 in
        ap₂ ◌&&◌ q.0 (ap₂ ◌&&◌ p.0 (ap (λ v. not (any (λ z. has e z && lt_z (value_of vs z) v) max_clocks)) (sym same) ∙ n))

    sharing : ℕ → ℕ → Bool
    sharing k y = not (eqb y k) && is_least e vs y

    shared : any rival max_clocks ≡ true → check30 e vs ≡ some x
    unfolding check30 shares sharing
    shared t =
        let r = any-true rival max_clocks t in
        some-least (shares e vs) max_clocks x (record {
          below = lowest.below;
          here = ap₂ ◌&&◌ lowest.here (true-any (sharing x) max_clocks r.0 r.1 (rival-least r.0 r.1 r.2));
          before = λ j h. ap (λ p. p && any (sharing j) max_clocks) (lowest.before j h);
        })

    alone : any rival max_clocks ≡ false → check30 e vs ≡ none
    unfolding check30 shares sharing
    alone t = none-least (shares e vs) max_clocks (λ k h. and-not-both (is_least e vs k) (any (sharing k) max_clocks) (λ i u.
        let r = any-true (sharing k) max_clocks u in
        let q = and-true (not (eqb r.0 k)) (is_least e vs r.0) r.2 in
        let ne = eqb-false r.0 k (not-true (eqb r.0 k) q.0) in
        by_cases (ℕ_discrete k x)
        (λ w. false≢true (sym (any_false rival max_clocks t r.0 r.1) ∙ least-rival r.0 r.1 (λ v. ne (v ∙ sym w)) q.1))
        (λ w. false≢true (sym (any_false rival max_clocks t k h) ∙ least-rival k h w i))))

    pub shared-by-rival : check30 e vs ≡ when (any rival max_clocks) x
    shared-by-rival = go (any rival max_clocks) refl
      where
        go : (b : Bool) → any rival max_clocks ≡ b → check30 e vs ≡ when b x
        go true t = shared t
        go false t = alone t

  -- no clock, none shared
  pub none-shared : least (is_least e vs) max_clocks ≡ none → check30 e vs ≡ none
  unfolding check30 shares
  none-shared n = none-least (shares e vs) max_clocks
      (λ k h. ap (λ p. p && any (λ y. not (eqb y k) && is_least e vs y) max_clocks) (least-none (is_least e vs) max_clocks n k h))
