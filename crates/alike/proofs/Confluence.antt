-- 18 is kept: where two components are confluent in the states that they can reach, the merged one is in those that it can reach; and so of a model.
use mathlib.Core.Path.{◌≡◌}
use mathlib.Core.Option.{Option, none}
use Prim.Native.Nat.{ℕ, suc, ◌<◌}
use native.Mathlib.Omega.{arith}
use lib.ListN.{length}
use Rattle.laws.proofs.TestLaws.{apart-cases}
use Rattle.answer.specs.Told.{Told, answered}
use Rattle.model.specs.Model.{Comp, Model, comp_at}
use Rattle.model.specs.WellFormed.{WellComp, WellFormed}
use Rattle.iosa.specs.Automaton.{Automaton, Leads, auto_of, ReachedIn, MeetsAt, Confluent, Conditions, Compatible, Conforming, Joinable, AllConfluent}
use Rattle.iosa.specs.Product.{◌⊗◌}
use Rattle.iosa.specs.Checks.{confluent_of}
use Rattle.merged.specs.Merge.{merged, merge_of}
use Rattle.merged.specs.MergedAs.{pair_of}
use Rattle.merged.specs.MergedExactly.{MergedModel, MergedExactly}
use Rattle.iosa.proofs.Acceptance.ConfluentExactly.{confluent-exactly, confluent-accepted}
use Rattle.iosa.proofs.Settling.OwnNames.{component-own, product-own}
use Rattle.iosa.proofs.Settling.ProductConditions.{conditions-constraints}
use Rattle.iosa.proofs.Settling.ProductConfluent.{product-is-confluent}
use Rattle.merged.proofs.Merging.Product.{merged-is-the-product}
use Rattle.merged.proofs.Merging.Models.{merge-answered, merging-is-exact}
use Rattle.merged.proofs.Merging.Accepted.{merging-keeps-acceptance}
use Rattle.iosa.proofs.Reaching.Keeps.{both-reachable}
use Rattle.merged.proofs.Merging.Reaching.{merged-reaches}

-- ---- one component for two
module _ (c d : Comp) (wc : WellComp c) (wd : WellComp d) (oc : Conditions (auto_of c)) (od : Conditions (auto_of d)) (j : Compatible (auto_of c) (auto_of d)) where
  abbrev A : Automaton
  A = auto_of c

  abbrev B : Automaton
  B = auto_of d

  exact : MergedExactly c d
  exact = merged-is-the-product c d wc wd oc od j

  leads-from : {C a R x y z : ℕ} → x ≡ y → Leads (merged c d) y C a R z → Leads (merged c d) x C a R z
  leads-from e l = rw e l

  -- what meets at a pair of the product meets at its number
  meets-again : (s t a b : ℕ) → s < c.states → t < d.states → MeetsAt (auto_of c ⊗ auto_of d) (s, t) a b → MeetsAt (auto_of (merged c d)) (pair_of d s t) a b
  meets-again s t a b hs ht k = record {
    meet = λ {R} {Q} {t = y} {u = z} p q.
        let e = exact.pairs (pair_of d s t) 0 a R y p in
        let f = exact.pairs (pair_of d s t) 0 b Q z q in
        let p' = (exact.rows s t e.s' e.t' 0 a R hs ht e.s'-below e.t'-below).0 (rw e.target at p) in
        let q' = (exact.rows s t f.s' f.t' 0 b Q hs ht f.s'-below f.t'-below).0 (rw f.target at q) in
        let v = k.meet p' q' in
        let o = ((product-own A B (component-own c wc) (component-own d wd)).rows {t = v.0} v.1).target in (
          pair_of d v.0.0 v.0.1,
          leads-from {z = pair_of d v.0.0 v.0.1} e.target
              ((exact.rows e.s' e.t' v.0.0 v.0.1 0 b Q e.s'-below e.t'-below o.0 o.1).1 v.1),
          leads-from {z = pair_of d v.0.0 v.0.1} f.target
              ((exact.rows f.s' f.t' v.0.0 v.0.1 0 a R f.s'-below f.t'-below o.0 o.1).1 v.2),
        );
  }

  pub merged-stays-confluent : Confluent (auto_of c) (ReachedIn c) → Confluent (auto_of d) (ReachedIn d)
      → Confluent (auto_of (merged c d)) (ReachedIn (merged c d))
  merged-stays-confluent k l =
      let p = product-is-confluent A B (ReachedIn c) (ReachedIn d) (component-own c wc) (component-own d wd) j k l in
      record {
        pair = λ a b ne ua ub. record {
          meets = λ x r.
              let i = merged-reaches c d wc wd exact r in
              let ca = conditions-constraints A oc in
              let cb = conditions-constraints B od in
              let both = both-reachable A B j ca cb (component-own c wc) (component-own d wd) i.reached in
              let at = (p.pair a b ne (rw exact.urgent at ua) (rw exact.urgent at ub)).meets (i.s, i.t) both in
              rw i.pair (meets-again i.s i.t a b i.s-below i.t-below at);
        };
      }

-- ---- a model
module _ (m : Model) (i : ℕ) (n : Model) (w : WellFormed m) (o : Conforming m) (j : Joinable m) (r : MergedModel m i n) where
  pub merged-model-stays-confluent : AllConfluent m → AllConfluent n
  merged-model-stays-confluent al = record {
    each = λ k h.
        let below : i < length m = omega (arith, r.neighbour) in
        apart-cases k i
        (λ e. rw (e, r.here) (merged-stays-confluent (comp_at m i) (comp_at m (suc i)) (w.each i below) (w.each (suc i) r.neighbour)
        (o.each i below) (o.each (suc i) r.neighbour) (j.pair i (suc i) (omega arith) r.neighbour)
        (al.each i below) (al.each (suc i) r.neighbour)))
        (λ l. rw (r.before k l) (al.each k (omega (arith, below))))
        (λ l. rw (r.after k l) (al.each (suc k) (omega (arith, r.fewer))));
  }

-- "Where it passed 18 before, so does the merged one"
pub merging-keeps-confluence : (m : Model) (i : ℕ) (room : Option Told) (n : Model) → WellFormed m → merge_of m i room ≡ answered n → confluent_of m ≡ none
    → confluent_of n ≡ none
merging-keeps-confluence m i room n w e f =
    let a = merge-answered m i room n w e in
    let r = merging-is-exact m i room n w e in
    (confluent-exactly n r.well-formed (merging-keeps-acceptance m i room n w e)).1
    (merged-model-stays-confluent m i n w a.conforming a.joinable r ((confluent-exactly m w (confluent-accepted m f)).0 f))
