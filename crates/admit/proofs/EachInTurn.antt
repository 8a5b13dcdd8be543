-- The checks of one component and of all in turn, of a table and of its model.
use mathlib.Core.Path.{◌≡◌, refl, sym, ◌∙◌, ap, ap₂}
use mathlib.Core.Option.{Option, none, some}
use mathlib.Core.List.{List, ◌∷◌}
use Prim.Native.Nat.{ℕ, zero, suc, ◌+◌, ◌≤◌, ◌<◌}
use native.Mathlib.Omega.{arith}
use native.Mathlib.Numerals.{add-one}
use lib.ListN.{length, drop, drop_of_length-le}
use lib.Seq.{drop-cons}
use Rattle.laws.specs.Search.{seek, or_else, map_some}
use Rattle.laws.proofs.SearchLaws.{seek-here, seek-next, seek-end}
use Rattle.laws.proofs.RangeLaws.{seek-ext}
use Rattle.answer.specs.Told.{Told, tell}
use Rattle.model.specs.Model.{Model, no_comp}
use Rattle.iosa.specs.Checks.{check13, check18, fault_at, fault_from, clash_among, component_of, compatible_of, accept_of}
use Rattle.iosa.proofs.Acceptance.Check13.{check13-exactly}
use Rattle.iosa.proofs.Acceptance.ConfluentExactly.{accepted-single}
use Rattle.iosa.proofs.Acceptance.InHalves.{there-own, faults-in-turn}
use Rattle.layout.specs.Layout.{count_of, first_of}
use Rattle.layout.specs.Image.{Image, comp_of, model_of}
use Rattle.layout.proofs.ModelOf.{model-length, comp-at}
use Rattle.layout.proofs.RowsOfRange.{well-formed, well-comp, first-start}
use Rattle.meets.specs.Meets.{fault18}
use Rattle.pairs.specs.declared.Shared.TheVariants.{Outputs, Clocks, Urgency}
use Rattle.pairs.specs.Clashes.{shared_fault}

-- 18 of the components from i on
unfoldable clashes_left : List ℕ → ℕ → Option Told
clashes_left t i = clash_among i (drop i (model_of t))

no-clash-left : (t : List ℕ) (i : ℕ) → count_of t ≤ i → clashes_left t i ≡ none
unfolding clashes_left clash_among
no-clash-left t i h = ap (clash_among i) (drop_of_length-le (model_of t) {i = i} (omega (arith, model-length t)))

-- a search is its first place, or what is left
seek-first : {A : Type 0} (f : ℕ → Option A) (lo hi : ℕ) → lo < hi → seek f lo hi ≡ or_else (f lo) (seek f (lo + 1) hi)
seek-first {A} f lo hi h = go (f lo) refl
  where
    go : (o : Option A) → f lo ≡ o → seek f lo hi ≡ or_else o (seek f (lo + 1) hi)
    go none e = seek-next f lo hi h e
    go (some x) e = seek-here f lo hi h e

module _ (t : List ℕ) (im : Image t) where
  abbrev m : Model
  m = model_of t

  module _ (i : ℕ) (h : i < count_of t) where
    inside : i < length m
    inside = omega (arith, model-length t)

    -- what the check of component i says is said of it by itself
    pub own-fault : fault_at i (first_of t i 0) (comp_of t i) ≡ component_of m i
    own-fault = ap₂ (fault_at i) (first-start t im i h) (sym (comp-at t i h)) ∙ sym (there-own m i inside)

    next : drop i m ≡ comp_of t i ∷ drop (i + 1) m
    next = drop-cons m i no_comp inside ∙ ap₂ (λ c k. c ∷ drop k m) (comp-at t i h) (sym (add-one i))

    clash-next : clashes_left t i ≡ or_else (fault18 i (comp_of t i)) (clashes_left t (i + 1))
    unfolding clashes_left clash_among fault18
    clash-next = ap (clash_among i) next ∙ go (check18 (comp_of t i))
      where
        go : (o : Option (List ℕ)) → ◌≡◌ {A = Option Told}
            (elim o as (λ p. Option Told) [ none ↦ clash_among (suc i) (drop (i + 1) m) | some p ↦ some (tell 18 (i ∷ p)) ])
            (or_else (map_some (λ p. tell 18 (i ∷ p)) o) (clash_among (i + 1) (drop (i + 1) m)))
        go none = ap (λ k. clash_among k (drop (i + 1) m)) (sym (add-one i))
        go (some p) = refl

    -- 13 has passed
    pub single-rows : accept_of m ≡ none → check13 (comp_of t i) ≡ none
    single-rows e = (check13-exactly (comp_of t i) (well-comp t im i h)).1 (rw (comp-at t i h) at (accepted-single m (well-formed t im) e i inside).cond_e)

  -- 10 to 14 of each component in turn
  pub all-faults : seek (λ i. fault_at i (first_of t i 0) (comp_of t i)) 0 (count_of t) ≡ fault_from 0 0 m
  all-faults =
      seek-ext (λ i. fault_at i (first_of t i 0) (comp_of t i)) (component_of m) 0 (count_of t) (λ i p q. own-fault i q)
      ∙ ap (seek (component_of m) 0) (sym (model-length t)) ∙ sym (faults-in-turn m)

  -- 18 of each in turn
  clashes_from : (n i : ℕ) → n + i ≡ count_of t → seek (λ i. fault18 i (comp_of t i)) i (count_of t) ≡ clashes_left t i
  clashes_from zero i e = seek-end (λ i. fault18 i (comp_of t i)) i (count_of t) (omega arith) ∙ sym (no-clash-left t i (omega arith))
  clashes_from (suc n) i e =
      let h : i < count_of t = omega arith in
      let ih = clashes_from n (i + 1) (omega arith) in
      seek-first (λ i. fault18 i (comp_of t i)) i (count_of t) h ∙ ap (or_else (fault18 i (comp_of t i))) ih ∙ sym (clash-next i h)

  pub all-clashes : seek (λ i. fault18 i (comp_of t i)) 0 (count_of t) ≡ clash_among 0 m
  unfolding clashes_left
  all-clashes = clashes_from (count_of t) 0 (omega arith)

-- 15 to 17 in turn, and after 10 to 14
pub compatible-turn : (m : Model) → or_else (shared_fault Outputs m) (or_else (shared_fault Clocks m) (shared_fault Urgency m)) ≡ compatible_of m
unfolding shared_fault
compatible-turn m = refl

pub accept-turn : (m : Model) → or_else (fault_from 0 0 m) (compatible_of m) ≡ accept_of m
unfolding accept_of
accept-turn m = refl
