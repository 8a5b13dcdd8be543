-- A merged component reaches exactly the pairs that the product of the two reaches: so pairs of reached states, though not all of them.
use mathlib.Core.Path.{◌≡◌, sym}
use mathlib.Core.Logic.{◌↔◌, ⊎_map}
use Prim.Native.Nat.{ℕ, ◌<◌}
use Rattle.model.specs.Model.{Comp}
use Rattle.model.specs.WellFormed.{WellComp}
use Rattle.iosa.specs.Automaton.{auto_of, Stable, Reachable, at-start, by_row, ReachedIn, Conditions, Compatible}
use Rattle.iosa.specs.Product.{◌⊗◌}
use Rattle.merged.specs.Merge.{merged}
use Rattle.merged.specs.MergedAs.{pair_of}
use Rattle.merged.specs.MergedExactly.{MergedExactly, ReachedPair}
use Rattle.laws.proofs.PairLaws.{pair_parts}
use Rattle.iosa.proofs.Settling.OwnNames.{component-own, product-own}
use Rattle.iosa.proofs.Settling.ProductConditions.{conditions-constraints}
use Rattle.merged.proofs.Merging.Product.{merged-is-the-product}
use Rattle.iosa.proofs.Reaching.Keeps.{both-reachable}

module _ (c d : Comp) (wc : WellComp c) (wd : WellComp d) (k : MergedExactly c d) where
  stable-merged : (s t : ℕ) → s < c.states → t < d.states → Stable (auto_of (merged c d)) (pair_of d s t) ↔ Stable (auto_of c ⊗ auto_of d) (s, t)
  stable-merged s t hs ht = (
    λ st. record {
      rests = λ {C} {a} {R} {t = y} u.
          let o = ((product-own (auto_of c) (auto_of d) (component-own c wc) (component-own d wd)).rows u.row).target in
          st.rests (record {
            output = rw k.outs u.output;
            urgent = rw k.urgent u.urgent;
            row = (k.rows s t y.0 y.1 C a R hs ht o.0 o.1).1 u.row;
          });
    },
    λ st. record {
      rests = λ {C} {a} {R} {t = y} u.
          let p = k.pairs (pair_of d s t) C a R y u.row in
          st.rests (record {
            output = rw k.outs at u.output;
            urgent = rw k.urgent at u.urgent;
            row = (k.rows s t p.s' p.t' C a R hs ht p.s'-below p.t'-below).0 (rw p.target at u.row);
          });
    },
  )

  pub merged-reaches : {x : ℕ} → ReachedIn (merged c d) x → ReachedPair c d x
  merged-reaches at-start = record { s = c.start; t = d.start; s-below = wc.start; t-below = wd.start; pair = k.start; reached = at-start }
  merged-reaches (by_row {t = y} {C = C} {a = a} {R = R} r way row) =
      let i = merged-reaches r in
      let l = rw i.pair at row in
      let p = k.pairs (pair_of d i.s i.t) C a R y l in
      record {
        s = p.s';
        t = p.t';
        s-below = p.s'-below;
        t-below = p.t'-below;
        pair = p.target;
        reached = by_row i.reached
            (⊎_map (λ u. rw k.urgent at u) (λ st. (stable-merged i.s i.t i.s-below i.t-below).0 (rw i.pair at st)) way)
            ((k.rows i.s i.t p.s' p.t' C a R i.s-below i.t-below p.s'-below p.t'-below).0 (rw p.target at l));
      }

  pub pairs-are-reached : {y : (auto_of c ⊗ auto_of d).State} → Reachable (auto_of c ⊗ auto_of d) y → ReachedIn (merged c d) (pair_of d y.0 y.1)
  pairs-are-reached at-start = rw (sym k.start) at-start
  pairs-are-reached (by_row {s = y} {t = z} {C = C} {a = a} {R = R} r way row) =
      let o = (product-own (auto_of c) (auto_of d) (component-own c wc) (component-own d wd)).rows row in
      by_row {a = a} (pairs-are-reached r)
      (⊎_map (λ u. rw k.urgent u) (λ st. (stable-merged y.0 y.1 o.from.0 o.from.1).1 st) way)
      ((k.rows y.0 y.1 z.0 z.1 C a R o.from.0 o.from.1 o.target.0 o.target.1).1 row)

-- what a merged component reaches is a pair of reached states
pub merged-reaches-reached-pairs : (c d : Comp) → WellComp c → WellComp d → Conditions (auto_of c) → Conditions (auto_of d) → Compatible (auto_of c) (auto_of d)
    → (s t : ℕ) → s < c.states → t < d.states → ReachedIn (merged c d) (pair_of d s t) → ReachedIn c s × ReachedIn d t
merged-reaches-reached-pairs c d wc wd oc od j s t hs ht r =
    let i = merged-reaches c d wc wd (merged-is-the-product c d wc wd oc od j) r in
    back i (pair_parts d.states s i.s t i.t ht i.t-below i.pair)
  where
    back : (i : ReachedPair c d (pair_of d s t)) → (s ≡ i.s) × (t ≡ i.t) → ReachedIn c s × ReachedIn d t
    back i e =
        let ca = conditions-constraints (auto_of c) oc in
        let cb = conditions-constraints (auto_of d) od in
        let b = both-reachable (auto_of c) (auto_of d) j ca cb (component-own c wc) (component-own d wd) i.reached in
        (rw (← e.0) at b.0, rw (← e.1) at b.1)
