-- A model that merging answers is accepted again: none of 10 to 17.
use mathlib.Core.Path.{◌≡◌, ap₂}
use mathlib.Core.Option.{Option, none}
use Prim.Native.Nat.{ℕ, suc, ◌<◌}
use native.Mathlib.Omega.{arith}
use lib.ListN.{length}
use Rattle.laws.specs.Sets.{◌∪◌}
use Rattle.laws.proofs.TestLaws.{apart-cases}
use Rattle.answer.specs.Told.{Told, answered}
use Rattle.model.specs.Model.{Model, comp_at}
use Rattle.model.specs.WellFormed.{WellFormed}
use Rattle.iosa.specs.Automaton.{Automaton, auto_of, Conditions, Compatible, Conforming, Joinable}
use Rattle.iosa.specs.Product.{◌⊗◌}
use Rattle.iosa.specs.Checks.{accept_of}
use Rattle.merged.specs.Merge.{merged, merge_of}
use Rattle.merged.specs.MergedExactly.{MergedModel}
use Rattle.iosa.proofs.Acceptance.Accepted.{accepted-exactly}
use Rattle.iosa.proofs.Settling.ProductConditions.{compatible-sym}
use Rattle.iosa.proofs.Settling.ProductOfMany.{compatible-goes-on}
use Rattle.merged.proofs.Merging.Conforms.{merged-conforms}
use Rattle.merged.proofs.Merging.Models.{merge-answered, merging-is-exact}

-- compatibility is a matter of labels
relabelled : (A B D : Automaton) → A.inputs ≡ B.inputs → A.outputs ≡ B.outputs → A.urgent ≡ B.urgent → A.clocks ≡ B.clocks → Compatible B D
    → Compatible A D
relabelled A B D i o u k j = record {
  outputs = rw o j.outputs;
  clocks = rw k j.clocks;
  left = λ a h. j.left a (rw u at h);
  right = λ a h n. rw u (j.right a h (rw (ap₂ ◌∪◌ i o) at n));
}

module _ (m : Model) (i : ℕ) (n : Model) (w : WellFormed m) (o : Conforming m) (j : Joinable m) (r : MergedModel m i n) where
  merged-compatible : (X : Automaton) → Compatible (auto_of (comp_at m i)) X → Compatible (auto_of (comp_at m (suc i))) X
      → Compatible (auto_of (merged (comp_at m i) (comp_at m (suc i)))) X
  merged-compatible X p q =
      let e = r.exact in
      relabelled (auto_of (merged (comp_at m i) (comp_at m (suc i)))) (auto_of (comp_at m i) ⊗ auto_of (comp_at m (suc i))) X e.ins e.outs e.urgent
      e.clocks
      (compatible-goes-on (auto_of (comp_at m i)) (auto_of (comp_at m (suc i))) X p q)

  below : i < length m
  below = omega (arith, r.neighbour)

  each_again : (k : ℕ) → k < length n → Conditions (auto_of (comp_at n k))
  each_again k h =
      apart-cases k i
      (λ e. rw (e, r.here) (merged-conforms (comp_at m i) (comp_at m (suc i)) (w.each i below) (w.each (suc i) r.neighbour) (o.each i below)
      (o.each (suc i) r.neighbour) (j.pair i (suc i) (omega arith) r.neighbour)))
      (λ l. rw (r.before k l) (o.each k (omega (arith, below))))
      (λ l. rw (r.after k l) (o.each (suc k) (omega (arith, r.fewer))))

  -- one behind the pair
  behind : (k l : ℕ) → k < l → i < l → l < length n → Compatible (auto_of (comp_at n k)) (auto_of (comp_at m (suc l)))
  behind k l h p q =
      let last : suc l < length m = omega (arith, r.fewer) in
      apart-cases k i
      (λ e. rw (e, r.here) (merged-compatible (auto_of (comp_at m (suc l))) (j.pair i (suc l) (omega arith) last) (j.pair (suc i) (suc l) (omega arith) last)))
      (λ b. rw (r.before k b) (j.pair k (suc l) (omega arith) last))
      (λ b. rw (r.after k b) (j.pair (suc k) (suc l) (omega arith) last))

  pair-again : (k l : ℕ) → k < l → l < length n → Compatible (auto_of (comp_at n k)) (auto_of (comp_at n l))
  pair-again k l h q =
      apart-cases l i
      (λ e.
      let b : k < i = omega arith in
      rw (e, r.here, r.before k b) (
      compatible-sym (auto_of (merged (comp_at m i) (comp_at m (suc i)))) (auto_of (comp_at m k))
      (merged-compatible (auto_of (comp_at m k))
      (compatible-sym (auto_of (comp_at m k)) (auto_of (comp_at m i)) (j.pair k i b below))
      (compatible-sym (auto_of (comp_at m k)) (auto_of (comp_at m (suc i))) (j.pair k (suc i) (omega arith) r.neighbour)))))
      (λ b. rw (r.before l b, r.before k (let z : k < i = omega arith in z)) (j.pair k l h (omega (arith, below))))
      (λ b. rw (r.after l b) (behind k l h b q))

  pub merged-model-conforms : Conforming n × Joinable n
  merged-model-conforms = (record { each = each_again }, record { pair = pair-again })

-- merging an accepted model gives one that is accepted
pub merging-keeps-acceptance : (m : Model) (i : ℕ) (room : Option Told) (n : Model) → WellFormed m → merge_of m i room ≡ answered n → accept_of n ≡ none
merging-keeps-acceptance m i room n w e =
    let a = merge-answered m i room n w e in
    let r = merging-is-exact m i room n w e in
    (accepted-exactly n r.well-formed).1 (merged-model-conforms m i n w a.conforming a.joinable r)
