-- What merging answers: the model with two neighbours replaced by their product, and nothing else changed.
use mathlib.Core.Path.{◌≡◌, refl, ap, ap₂}
use mathlib.Core.Logic.{◌↔◌, ◌⊎◌, inl, inr}
use mathlib.Core.Option.{Option, none, some}
use mathlib.Core.Bool.{Bool, false, ◌||◌, not}
use mathlib.Core.List.{[], ◌∷◌}
use Prim.Native.Nat.{ℕ, suc, ◌*◌, ◌<◌}
use native.Mathlib.Omega.{arith}
use lib.ListN.{length}
use lib.Dec.{ltb}
use borrow.Author.Tests.{ltb-true, ltb-false, lt-ltb, le-ltb}
use Rattle.laws.specs.Search.{or_else}
use Rattle.laws.proofs.SearchLaws.{when-fine, when-faulty}
use Rattle.laws.proofs.TestLaws.{apart-cases, or-false, decided, not-exactly}
use Rattle.laws.proofs.ListLaws.{joined_length, joined-before, joined-here, joined-after}
use Rattle.answer.specs.Limits.{max_states, max_rows, max_bytes}
use Rattle.answer.specs.Told.{Told, Answer, answered, refused, tell}
use Rattle.model.specs.Model.{Model, no_comp, comp_at, row_count}
use Rattle.model.specs.WellFormed.{WellComp, WellFormed}
use Rattle.model.specs.Text.{text_of}
use Rattle.iosa.specs.Automaton.{Conforming, Joinable}
use Rattle.iosa.specs.Checks.{accept_of}
use Rattle.merged.specs.Merge.{merged, merged_at, neighbour_fault, size_fault, merge_of}
use Rattle.merged.specs.MergedExactly.{MergedModel, FitsIn, MergeAnswer, no-neighbour, too_large, small-enough}
use Rattle.iosa.proofs.Acceptance.Accepted.{accepted-exactly}
use Rattle.merged.proofs.Merging.Product.{merged-is-the-product}
use Rattle.merged.proofs.Merging.WellFormed.{merged-is-well-formed}

-- ---- 25 and 26
neighbour-decided : (m : Model) (i : ℕ) → (not (ltb (suc i) (length m)) ≡ false) ↔ (suc i < length m)
neighbour-decided m i = not-exactly (ltb (suc i) (length m)) (ltb-true (suc i) (length m), lt-ltb (suc i) (length m))

abbrev too_big : Model → ℕ → Bool
too_big m i =
    ltb max_states ((comp_at m i).states * (comp_at m (suc i)).states) ||
    (ltb max_rows (row_count (merged_at m i)) || ltb max_bytes (length (text_of (merged_at m i))))

size-decided : (m : Model) (i : ℕ) → (too_big m i ≡ false) ↔ FitsIn m i
size-decided m i = (to, λ f. ap₂ ◌||◌ (le-ltb max_states _ f.states) (ap₂ ◌||◌ (le-ltb max_rows _ f.rows) (le-ltb max_bytes _ f.bytes)))
  where
    to : too_big m i ≡ false → FitsIn m i
    to e =
        let p = or-false (ltb max_states ((comp_at m i).states * (comp_at m (suc i)).states))
        (ltb max_rows (row_count (merged_at m i)) || ltb max_bytes (length (text_of (merged_at m i)))) e in
        let q = or-false (ltb max_rows (row_count (merged_at m i))) (ltb max_bytes (length (text_of (merged_at m i)))) p.1 in
        record {
          states = ltb-false max_states ((comp_at m i).states * (comp_at m (suc i)).states) p.0;
          rows = ltb-false max_rows (row_count (merged_at m i)) q.0;
          bytes = ltb-false max_bytes (length (text_of (merged_at m i))) q.1;
        }

-- ---- where an answer is found
abbrev RefusedOr : Option Told → Model → Answer Model
RefusedOr o x = elim o as (λ _. Answer Model) [ some t ↦ refused t | none ↦ answered x ]

module _ (m : Model) (i : ℕ) (acc : accept_of m ≡ none) where
  by-faults : (o : Option Told) → or_else (accept_of m) (or_else none (or_else (neighbour_fault m i) (size_fault m i))) ≡ o
      → merge_of m i none ≡ RefusedOr o (merged_at m i)
  unfolding merge_of
  by-faults o e = ap (λ z. RefusedOr z (merged_at m i)) e

  at25 : (suc i < length m → ⊥) → merge_of m i none ≡ refused (tell 25 (0 ∷ []))
  unfolding neighbour_fault
  at25 n = by-faults (some (tell 25 (0 ∷ []))) (rw (acc, when-faulty (not (ltb (suc i) (length m))) (neighbour-decided m i) (tell 25 (0 ∷ [])) n))

  neighbour-fine : suc i < length m → neighbour_fault m i ≡ none
  unfolding neighbour_fault
  neighbour-fine h = when-fine (not (ltb (suc i) (length m))) (neighbour-decided m i) (tell 25 (0 ∷ [])) h

  size-faulty : (FitsIn m i → ⊥) → size_fault m i ≡ some (tell 26 (0 ∷ []))
  unfolding size_fault
  size-faulty n = when-faulty (too_big m i) (size-decided m i) (tell 26 (0 ∷ [])) n

  size-fine : FitsIn m i → size_fault m i ≡ none
  unfolding size_fault
  size-fine f = when-fine (too_big m i) (size-decided m i) (tell 26 (0 ∷ [])) f

  so-answers : {t : Answer Model} → MergeAnswer m i t → merge_of m i none ≡ t
  so-answers (no-neighbour n) = at25 n
  so-answers (too_large h n) = by-faults (some (tell 26 (0 ∷ []))) (rw (acc, neighbour-fine h, size-faulty n))
  so-answers (small-enough h f) = by-faults none (rw (acc, neighbour-fine h, size-fine f))

  answers-so : MergeAnswer m i (merge_of m i none)
  answers-so = go (decided (suc i < length m) (not (ltb (suc i) (length m))) (neighbour-decided m i))
    where
      size : suc i < length m → FitsIn m i ⊎ (FitsIn m i → ⊥) → MergeAnswer m i (merge_of m i none)
      size h (inl f) = rw (so-answers (small-enough h f)) (small-enough h f)
      size h (inr n) = rw (so-answers (too_large h n)) (too_large h n)

      go : (suc i < length m) ⊎ (suc i < length m → ⊥) → MergeAnswer m i (merge_of m i none)
      go (inl h) = size h (decided (FitsIn m i) (too_big m i) (size-decided m i))
      go (inr n) = rw (so-answers (no-neighbour n)) (no-neighbour n)

  -- merging answers t exactly when t is what 01 says: 25, 26, or the model with the two replaced
  pub merge-exactly : (t : Answer Model) → (merge_of m i none ≡ t) ↔ MergeAnswer m i t
  merge-exactly t = (λ e. rw e at answers-so, so-answers)

-- ---- the model that is answered
module _ (m : Model) (i : ℕ) (w : WellFormed m) (o : Conforming m) (j : Joinable m) (next : suc i < length m) (f : FitsIn m i) where
  below : i < length m
  below = omega arith

  replaced-fewer : suc (length (merged_at m i)) ≡ length m
  unfolding merged_at
  replaced-fewer = joined_length no_comp (merged (comp_at m i) (comp_at m (suc i))) m i next

  replaced-before : (k : ℕ) → k < i → comp_at (merged_at m i) k ≡ comp_at m k
  unfolding merged_at
  replaced-before = joined-before no_comp (merged (comp_at m i) (comp_at m (suc i))) m i next

  replaced-here : comp_at (merged_at m i) i ≡ merged (comp_at m i) (comp_at m (suc i))
  unfolding merged_at
  replaced-here = joined-here no_comp (merged (comp_at m i) (comp_at m (suc i))) m i next

  replaced-after : (k : ℕ) → i < k → comp_at (merged_at m i) k ≡ comp_at m (suc k)
  unfolding merged_at
  replaced-after = joined-after no_comp (merged (comp_at m i) (comp_at m (suc i))) m i next

  pair-well : WellComp (merged (comp_at m i) (comp_at m (suc i)))
  pair-well =
      merged-is-well-formed (comp_at m i) (comp_at m (suc i)) (w.each i below) (w.each (suc i) next)
      (o.each i below) (o.each (suc i) next) (j.pair i (suc i) (omega arith) next) f.states

  pub merged-model-is-well-formed : WellFormed (merged_at m i)
  merged-model-is-well-formed = record {
    some = omega (arith, replaced-fewer, next);
    components = omega (arith, replaced-fewer, w.components);
    each = λ k h.
        apart-cases k i
        (λ e. rw (e, replaced-here) pair-well)
        (λ l. rw (replaced-before k l) (w.each k (omega (arith, below))))
        (λ l. rw (replaced-after k l) (w.each (suc k) (omega (arith, replaced-fewer))));
    rows = f.rows;
    bytes = f.bytes;
  }

  pub merged-model-is-exact : MergedModel m i (merged_at m i)
  merged-model-is-exact = record {
    neighbour = next;
    fewer = replaced-fewer;
    before = replaced-before;
    here = replaced-here;
    after = replaced-after;
    exact =
        merged-is-the-product (comp_at m i) (comp_at m (suc i)) (w.each i below) (w.each (suc i) next)
        (o.each i below) (o.each (suc i) next) (j.pair i (suc i) (omega arith) next);
    well-formed = merged-model-is-well-formed;
  }

-- an answer stands behind no refusal of 10 to 17, and none of 24
merge-accepted : (m : Model) (i : ℕ) (room : Option Told) (n : Model) → merge_of m i room ≡ answered n → (accept_of m ≡ none) × (room ≡ none)
unfolding merge_of
merge-accepted m i room n e = go (accept_of m) room e
  where
    go : (o r : Option Told) → RefusedOr (or_else o (or_else r (or_else (neighbour_fault m i) (size_fault m i)))) (merged_at m i) ≡ answered n
        → (o ≡ none) × (r ≡ none)
    go none none e = (refl, refl)
    go none (some t) e = absurd (let z : ◌≡◌ {A = ℕ} 0 1 = cc in omega arith)
    go (some t) r e = absurd (let z : ◌≡◌ {A = ℕ} 0 1 = cc in omega arith)

-- what is answered, and why
pub record Answered (m : Model) (i : ℕ) (n : Model) : Type 0 where
  pub conforming : Conforming m
  pub joinable : Joinable m
  pub neighbour : suc i < length m
  pub fits : FitsIn m i
  pub model : merged_at m i ≡ n

pub merge-answered : (m : Model) (i : ℕ) (room : Option Told) (n : Model) → WellFormed m → merge_of m i room ≡ answered n → Answered m i n
merge-answered m i room n w e =
    let p = merge-accepted m i room n e in
    go ((accepted-exactly m w).0 p.0) ((merge-exactly m i p.0 (answered n)).0 (rw p.1 at e)) refl
  where
    go : Conforming m × Joinable m → {t : Answer Model} → MergeAnswer m i t → t ≡ answered n → Answered m i n
    go a (no-neighbour h) z = absurd (let y : ◌≡◌ {A = ℕ} 0 1 = cc in omega arith)
    go a (too_large h f) z = absurd (let y : ◌≡◌ {A = ℕ} 0 1 = cc in omega arith)
    go a (small-enough h f) z = record { conforming = a.0; joinable = a.1; neighbour = h; fits = f; model = cc }

-- a model again, with the product in the place of the two
pub merging-is-exact : (m : Model) (i : ℕ) (room : Option Told) (n : Model) → WellFormed m → merge_of m i room ≡ answered n → MergedModel m i n
merging-is-exact m i room n w e =
    let a = merge-answered m i room n w e in
    rw a.model at (merged-model-is-exact m i w a.conforming a.joinable a.neighbour a.fits)
