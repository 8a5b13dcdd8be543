-- 15 to 17 by sets: the set of what some two components clash by, its lowest member, and the first pair that clashes by that.
use mathlib.Core.Path.{◌≡◌, refl, sym, ◌∙◌, ap, ap₂}
use mathlib.Core.Logic.{⊎_elim}
use mathlib.Core.Bool.{Bool, true, false, ◌&&◌, ◌||◌, true≢false}
use mathlib.Core.Option.{Option, none, some}
use mathlib.Core.List.{List, [], ◌∷◌}
use Prim.Native.Nat.{ℕ, ◌+◌, ◌<◌}
use native.Mathlib.Omega.{arith}
use native.Mathlib.Numerals.{add-one}
use Rattle.laws.specs.Sets.{has, ◌∩◌, ◌∈◌}
use Rattle.laws.specs.Search.{seek, when, is_some, map_some, least}
use Rattle.laws.specs.Fold.{over}
use Rattle.laws.proofs.SetLaws.{has-or, has-and, in-or, or-in-l, or-in-r, in_and, and_in, none_in, in-below}
use Rattle.laws.proofs.SearchLaws.{is-some, seek-some, seek-none, some-seek, none-seek, when-some, when-none, least-some, no-some}
use Rattle.laws.proofs.RangeLaws.{seek-ext, seek-map}
use Rattle.laws.proofs.TestLaws.{not_so}
use Rattle.laws.proofs.UnionLaws.{join_all, has-joined}
use Rattle.answer.specs.Limits.{max_actions, max_clocks}
use Rattle.answer.specs.Told.{tell}
use Rattle.sets.specs.Members.{word_bits, lowest_of}
use Rattle.sets.proofs.MemberLaws.{lowest-found}
use Rattle.model.specs.Model.{Comp, Model, comp_at}
use Rattle.model.specs.WellFormed.{WellComp}
use Rattle.iosa.specs.Checks.{clash_in, clash_for, share_output, share_clock, differ_urgent, check15, check16, check17}
use Rattle.iosa.proofs.Acceptance.Rows.{output-below, urgent-below}
use Rattle.layout.specs.Layout.{count_of}
use Rattle.layout.specs.Image.{Image, comp_of, model_of}
use Rattle.layout.proofs.ModelOf.{model-length, comp-at}
use Rattle.layout.proofs.RowsOfRange.{well-comp}
use Rattle.pairs.specs.declared.Shared.{Shared}
use Rattle.pairs.specs.declared.Shared.TheVariants.{Outputs, Clocks, Urgency}
use Rattle.pairs.specs.Clashes.{number_of, shared_fault, left_of, right_of, clash_of, left_below, right_below, clash_at, clash_set, partner_of}

-- ---- a union over the numbers below n
joined_in : (g : ℕ → ℕ) (n x : ℕ) → x ∈ over (join_all g) 0 n 0 → (i : ℕ) × (i < n) × (x ∈ g i)
joined_in g n x m =
    let s = is-some (seek (λ k. when (has (g k) x) k) 0 n) (sym (has-joined g x 0 n) ∙ m) in
    let f = seek-some (λ k. when (has (g k) x) k) 0 n s.0 s.1 in
    (f.place, f.below, (when-some (has (g f.place) x) f.place f.here).0)

in-joined : (g : ℕ → ℕ) (n i x : ℕ) → i < n → x ∈ g i → x ∈ over (join_all g) 0 n 0
in-joined g n i x h m = has-joined g x 0 n ∙ go (seek (λ k. when (has (g k) x) k) 0 n) refl
  where
    go : (o : Option ℕ) → seek (λ k. when (has (g k) x) k) 0 n ≡ o → is_some o ≡ true
    go none e = absurd (true≢false (sym m ∙ when-none (has (g i) x) i (seek-none (λ k. when (has (g k) x) k) 0 n e i (omega arith) h)))
    go (some y) e = refl

-- ---- the tests of 15, 16 and 17
abbrev pub test_of : Shared → ℕ → Comp → Comp → Bool
test_of Outputs = share_output
test_of Clocks = share_clock
test_of Urgency = differ_urgent

twice-or : (a b : Bool) → (a && b) ≡ ((a && b) || (a && b))
twice-or true true = refl
twice-or true false = refl
twice-or false b = refl

by_members : (k : Shared) (x : ℕ) (c d : Comp)
    → has (clash_of k c d) x ≡ ((has (left_of k c) x && has (right_of k d) x) || (has (right_of k c) x && has (left_of k d) x))
unfolding clash_of
by_members k x c d =
    has-or (left_of k c ∩ right_of k d) (right_of k c ∩ left_of k d) x ∙ ap₂ ◌||◌ (has-and (left_of k c) (right_of k d) x)
    (has-and (right_of k c) (left_of k d) x)

test-is : (k : Shared) (x : ℕ) (c d : Comp) → test_of k x c d ≡ has (clash_of k c d) x
unfolding left_of right_of
test-is Outputs x c d = twice-or (has (left_of Outputs c) x) (has (right_of Outputs d) x) ∙ sym (by_members Outputs x c d)
test-is Clocks x c d = twice-or (has (left_of Clocks c) x) (has (right_of Clocks d) x) ∙ sym (by_members Clocks x c d)
test-is Urgency x c d = sym (by_members Urgency x c d)

-- ---- what a clash is by lies below the limits
left_below_lem : (k : Shared) (c : Comp) → WellComp c → (x : ℕ) → x ∈ left_of k c → x < word_bits
unfolding left_of
left_below_lem Outputs c w x m = output-below c w x m
left_below_lem Clocks c w x m = in-below max_clocks c.clocks x w.clocks m
left_below_lem Urgency c w x m = urgent-below c w x m

right-below : (k : Shared) (c : Comp) → WellComp c → (x : ℕ) → x ∈ right_of k c → x < word_bits
unfolding right_of
right-below Outputs c w x m = output-below c w x m
right-below Clocks c w x m = in-below max_clocks c.clocks x w.clocks m
right-below Urgency c w x m = ⊎_elim (in-below max_actions c.ins x w.ins) (in-below max_actions c.outs x w.outs) (in-or c.ins c.outs x m)

fault-is : (k : Shared) (m : Model) → shared_fault k m ≡ map_some (tell (number_of k)) (clash_for (test_of k) word_bits m)
unfolding shared_fault check15 check16 check17
fault-is Outputs m = refl
fault-is Clocks m = refl
fault-is Urgency m = refl

module _ (k : Shared) (t : List ℕ) (im : Image t) where
  abbrev at : ℕ → Comp
  at = comp_of t

  -- components i and j, in this order, clash by x
  pub record Pair (x : ℕ) : Type 0 where
    pub first : ℕ
    pub second : ℕ
    pub order : first < second
    pub inside : second < count_of t
    pub clash : x ∈ clash_of k (at first) (at second)

  set_pair : (x : ℕ) → x ∈ clash_set k t → Pair x
  unfolding clash_set clash_at left_below right_below clash_of
  set_pair x m =
      let j = joined_in (clash_at k t) (count_of t) x m in
      ⊎_elim
      (λ p. let q = in_and (left_below k t j.0) (right_of k (at j.0)) x p in let i = joined_in (λ i. left_of k (at i)) j.0 x q.0 in record {
        first = i.0;
        second = j.0;
        order = i.1;
        inside = j.1;
        clash =
            or-in-l (left_of k (at i.0) ∩ right_of k (at j.0)) (right_of k (at i.0) ∩ left_of k (at j.0)) x
            (and_in (left_of k (at i.0)) (right_of k (at j.0)) x i.2 q.1);
      })
      (λ p. let q = in_and (right_below k t j.0) (left_of k (at j.0)) x p in let i = joined_in (λ i. right_of k (at i)) j.0 x q.0 in record {
        first = i.0;
        second = j.0;
        order = i.1;
        inside = j.1;
        clash =
            or-in-r (left_of k (at i.0) ∩ right_of k (at j.0)) (right_of k (at i.0) ∩ left_of k (at j.0)) x
            (and_in (right_of k (at i.0)) (left_of k (at j.0)) x i.2 q.1);
      })
      (in-or (left_below k t j.0 ∩ right_of k (at j.0)) (right_below k t j.0 ∩ left_of k (at j.0)) x j.2)

  pair_set : (x : ℕ) → Pair x → x ∈ clash_set k t
  unfolding clash_set clash_at left_below right_below clash_of
  pair_set x r =
      let i = r.first in
      let j = r.second in
      in-joined (clash_at k t) (count_of t) j x r.inside (⊎_elim
      (λ p. let q = in_and (left_of k (at i)) (right_of k (at j)) x p in
      or-in-l (left_below k t j ∩ right_of k (at j)) (right_below k t j ∩ left_of k (at j)) x
      (and_in (left_below k t j) (right_of k (at j)) x (in-joined (λ i. left_of k (at i)) j i x r.order q.0) q.1))
      (λ p. let q = in_and (right_of k (at i)) (left_of k (at j)) x p in
      or-in-r (left_below k t j ∩ right_of k (at j)) (right_below k t j ∩ left_of k (at j)) x
      (and_in (right_below k t j) (left_of k (at j)) x (in-joined (λ i. right_of k (at i)) j i x r.order q.0) q.1))
      (in-or (left_of k (at i) ∩ right_of k (at j)) (right_of k (at i) ∩ left_of k (at j)) x r.clash))

  set_below : (x : ℕ) → x ∈ clash_set k t → x < word_bits
  unfolding clash_of
  set_below x m =
      let r = set_pair x m in
      let w = well-comp t im r.first (omega (arith, r.order, r.inside)) in
      ⊎_elim
      (λ p. left_below_lem k (at r.first) w x (in_and (left_of k (at r.first)) (right_of k (at r.second)) x p).0)
      (λ p. right-below k (at r.first) w x (in_and (right_of k (at r.first)) (left_of k (at r.second)) x p).0)
      (in-or (left_of k (at r.first) ∩ right_of k (at r.second)) (right_of k (at r.first) ∩ left_of k (at r.second)) x r.clash)

  -- ---- the pairs of component i
  abbrev pub pairs_from : ℕ → ℕ → Option (List ℕ)
  pairs_from x = clash_in (test_of k) (model_of t) x

  pub partners : (x i : ℕ) → i < count_of t → pairs_from x i ≡ map_some (λ j. x ∷ i ∷ j ∷ []) (partner_of k t x i)
  unfolding partner_of
  partners x i h =
      ap₂ (seek (λ j. when (test_of k x (comp_at (model_of t) i) (comp_at (model_of t) j)) (x ∷ i ∷ j ∷ []))) (sym (add-one i)) (model-length t)
      ∙ seek-ext (λ j. when (test_of k x (comp_at (model_of t) i) (comp_at (model_of t) j)) (x ∷ i ∷ j ∷ []))
      (λ j. when (has (clash_of k (at i) (at j)) x) (x ∷ i ∷ j ∷ [])) (i + 1) (count_of t)
      (λ j p q. ap (λ v. when v (x ∷ i ∷ j ∷ [])) (ap₂ (test_of k x) (comp-at t i h) (comp-at t j q) ∙ test-is k x (at i) (at j)))
      ∙ seek-map (λ j. has (clash_of k (at i) (at j)) x) (λ j. x ∷ i ∷ j ∷ []) (i + 1) (count_of t)

  none-partner : (x i : ℕ) → i < count_of t → (Pair x → ⊥) → pairs_from x i ≡ none
  unfolding partner_of
  none-partner x i h f =
      partners x i h ∙ ap (map_some (λ j. x ∷ i ∷ j ∷ [])) (none-seek (λ j. when (has (clash_of k (at i) (at j)) x) j) (i + 1) (count_of t) (λ j p q.
      ap (λ v. when v j) (not_so (has (clash_of k (at i) (at j)) x) (λ e. f (record { first = i; second = j; order = omega arith; inside = q; clash = e })))))

  none-pairs : (x : ℕ) → (Pair x → ⊥) → seek (pairs_from x) 0 (count_of t) ≡ none
  none-pairs x f = none-seek (pairs_from x) 0 (count_of t) (λ i p q. none-partner x i q f)

  pairs-some : (x : ℕ) → Pair x → seek (pairs_from x) 0 (count_of t) ≡ none → ⊥
  unfolding partner_of
  pairs-some x r e =
      let i = r.first in
      let below : i < count_of t = omega (arith, r.order, r.inside) in
      let z = sym (partners x i below) ∙ seek-none (pairs_from x) 0 (count_of t) e i (omega arith) below in
      go (partner_of k t x i) refl z
    where
      go : (o : Option ℕ) → partner_of k t x r.first ≡ o → map_some (λ j. x ∷ r.first ∷ j ∷ []) o ≡ none → ⊥
      go none h z =
          true≢false (sym r.clash ∙ when-none (has (clash_of k (at r.first) (at r.second)) x) r.second
          (seek-none (λ j. when (has (clash_of k (at r.first) (at j)) x) j) (r.first + 1) (count_of t) h r.second (omega (arith, r.order))
          r.inside))
      go (some j) h z = no-some z refl

  -- ---- the whole search
  search_is : shared_fault k (model_of t) ≡ map_some (tell (number_of k)) (seek (λ x. seek (pairs_from x) 0 (count_of t)) 0 word_bits)
  unfolding clash_for
  search_is = fault-is k (model_of t) ∙ ap (λ n. map_some (tell (number_of k)) (seek (λ x. seek (pairs_from x) 0 n) 0 word_bits)) (model-length t)

  pub none-shared : clash_set k t ≡ 0 → shared_fault k (model_of t) ≡ none
  none-shared z =
      search_is ∙ ap (map_some (tell (number_of k))) (none-seek (λ x. seek (pairs_from x) 0 (count_of t)) 0 word_bits
      (λ x p q. none-pairs x (λ r. none_in x (rw z at (pair_set x r)))))

  module _ (x : ℕ) (lowest : x ≡ lowest_of (clash_set k t)) (ne : clash_set k t ≡ 0 → ⊥) where
    found : least (has (clash_set k t)) word_bits ≡ some x
    found = lowest-found (clash_set k t) set_below ne ∙ ap some (sym lowest)

    pub lowest-below : x < word_bits
    lowest-below = (least-some (has (clash_set k t)) word_bits x found).below

    pub lowest-pairs : seek (pairs_from x) 0 (count_of t) ≡ none → ⊥
    lowest-pairs e = pairs-some x (set_pair x (least-some (has (clash_set k t)) word_bits x found).here) e

    pub lowest-shared : shared_fault k (model_of t) ≡ map_some (tell (number_of k)) (seek (pairs_from x) 0 (count_of t))
    lowest-shared = search_is ∙ ap (map_some (tell (number_of k))) (go (seek (pairs_from x) 0 (count_of t)) refl)
      where
        go : (o : Option (List ℕ)) → seek (pairs_from x) 0 (count_of t) ≡ o → seek (λ x. seek (pairs_from x) 0 (count_of t)) 0 word_bits
            ≡ seek (pairs_from x) 0 (count_of t)
        go none e = absurd (lowest-pairs e)
        go (some v) e = some-seek (λ x. seek (pairs_from x) 0 (count_of t)) 0 word_bits (record {
          place = x;
          from = omega arith;
          below = lowest-below;
          here = e;
          least = λ y p q. none-pairs y (λ r. true≢false (sym (pair_set y r) ∙ (least-some (has (clash_set k t)) word_bits x found).before y q));
        }) ∙ sym e
