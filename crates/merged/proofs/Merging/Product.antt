-- Merging two components gives their product.
use mathlib.Core.Path.{◌≡◌, refl, ◌∙◌, ap}
use mathlib.Core.Logic.{◌↔◌}
use mathlib.Core.List.{List, Memᴰ as In}
use Prim.Native.Nat.{ℕ, ◌<◌}
use native.Mathlib.Omega.{arith}
use Rattle.laws.specs.Fold.{spread}
use Rattle.laws.proofs.ListLaws.{in-at, at_in, in-spread, spread-in}
use Rattle.laws.proofs.PairLaws.{pair_parts}
use Rattle.answer.specs.Limits.{max_actions}
use Rattle.model.specs.Model.{Row, Comp, no_row, guard_set}
use Rattle.model.specs.WellFormed.{WellComp}
use Rattle.iosa.specs.Automaton.{Leads, auto_of, Conditions, Compatible}
use Rattle.iosa.specs.Product.{Joint, R1, R2, R3}
use Rattle.merged.specs.Merge.{pair_rows, product_rows, merged}
use Rattle.merged.specs.MergedAs.{pair_of}
use Rattle.merged.specs.MergedExactly.{MergedExactly, PairRow}
use Rattle.iosa.proofs.Acceptance.Rows.{act-below, from-below, target_below}
use Rattle.merged.proofs.Merging.Labels.{merged-inputs, merged-outputs, merged-urgent}
use Rattle.merged.proofs.Merging.Rows.{pair-rows-in, in-pair-rows}

-- ---- the list of all rows
-- x stands among the rows of pair (s, t) and action a
pub record Listed (c d : Comp) (x : Row) : Type 0 where
  pub s : ℕ
  pub t : ℕ
  pub a : ℕ
  pub s-below : s < c.states
  pub t-below : t < d.states
  pub a-below : a < max_actions
  pub listed : In x (pair_rows c d s t a)

module _ (c d : Comp) where
  abbrev rows_from : ℕ → ℕ → List Row
  rows_from s t = spread (pair_rows c d s t) 0 max_actions

  pub product-rows-in : {x : Row} → In x (product_rows c d) → Listed c d x
  unfolding product_rows
  product-rows-in m =
      let p = spread-in (λ s. spread (rows_from s) 0 d.states) 0 c.states m in
      let q = spread-in (rows_from p.0) 0 d.states p.3 in
      let r = spread-in (pair_rows c d p.0 q.0) 0 max_actions q.3 in
      record { s = p.0; t = q.0; a = r.0; s-below = omega (arith, p.2); t-below = omega (arith, q.2); a-below = omega (arith, r.2); listed = r.3 }

  pub in-product-rows : {x : Row} → Listed c d x → In x (product_rows c d)
  unfolding product_rows
  in-product-rows {x} l =
      in-spread (λ s. spread (rows_from s) 0 d.states) 0 c.states l.s (omega arith) (omega (arith, l.s-below))
      (in-spread (rows_from l.s) 0 d.states l.t (omega arith) (omega (arith, l.t-below))
      (in-spread (pair_rows c d l.s l.t) 0 max_actions l.a (omega arith) (omega (arith, l.a-below)) l.listed))

by-action : (c d : Comp) {a b s t C R s' t' : ℕ} → b ≡ a → Joint (auto_of c) (auto_of d) a s t C R s' t' → Joint (auto_of c) (auto_of d) b s t C R s' t'
by-action c d e r = rw e r

-- ---- a row of the product stays among the states and actions of the two
record InRange (c d : Comp) (a s t s' t' : ℕ) : Type 0 where
  s-below : s < c.states
  t-below : t < d.states
  s'-below : s' < c.states
  t'-below : t' < d.states
  a-below : a < max_actions

module _ (c d : Comp) (wc : WellComp c) (wd : WellComp d) where
  in-range : {a s t C R s' t' : ℕ} → Joint (auto_of c) (auto_of d) a s t C R s' t' → InRange c d a s t s' t'
  in-range {a} (R1 h k p l) = record { s-below = from-below c wc l; t-below = p; s'-below = target_below c wc l; t'-below = p; a-below = act-below c wc a h }
  in-range {a} (R2 h k p l) = record { s-below = p; t-below = from-below d wd l; s'-below = p; t'-below = target_below d wd l; a-below = act-below d wd a k }
  in-range {a} (R3 h k l q) =
      record {
        s-below = from-below c wc l;
        t-below = from-below d wd q;
        s'-below = target_below c wc l;
        t'-below = target_below d wd q;
        a-below = act-below c wc a h;
      }

  module _ (oc : Conditions (auto_of c)) (od : Conditions (auto_of d)) (j : Compatible (auto_of c) (auto_of d)) where
    pub row-is-a-pair : {x : Row} → In x (product_rows c d) → PairRow c d x.from (guard_set x.guard) x.action x.resets x.target
    row-is-a-pair m =
        let l = product-rows-in c d m in
        let p = pair-rows-in c d oc od j l.s l.t l.a l.s-below l.t-below l.listed in
        let b = in-range p.joint in
        record {
          s = l.s;
          t = l.t;
          s' = p.s';
          t' = p.t';
          s-below = l.s-below;
          t-below = l.t-below;
          s'-below = b.s'-below;
          t'-below = b.t'-below;
          from = p.from;
          target = p.target;
          joint = by-action c d p.action p.joint;
        }

    -- every row of the merged component is one of the product
    pub merged-rows-are-pairs : (x C a R y : ℕ) → Leads (merged c d) x C a R y → PairRow c d x C a R y
    unfolding merged
    merged-rows-are-pairs x C a R y l =
        rw (l.from, l.guard, l.action, l.resets, l.target) at (row-is-a-pair (in-at no_row (product_rows c d) l.place l.inside))

    rows-of-pairs : (s t s' t' C a R : ℕ) → t < d.states → t' < d.states → PairRow c d (pair_of d s t) C a R (pair_of d s' t')
        → Joint (auto_of c) (auto_of d) a s t C R s' t'
    rows-of-pairs s t s' t' C a R ht ht' p =
        let e = pair_parts d.states s p.s t p.t ht p.t-below p.from in
        let f = pair_parts d.states s' p.s' t' p.t' ht' p.t'-below p.target in
        rw (e.0, e.1, f.0, f.1) p.joint

    -- every row of the product is one of the merged component
    pub product-rows-are-merged : {a s t C R s' t' : ℕ} → Joint (auto_of c) (auto_of d) a s t C R s' t' → Leads (merged c d) (pair_of d s t) C a R (pair_of d s' t')
    unfolding merged
    product-rows-are-merged {a} {s} {t} r =
        let p = in-pair-rows c d oc od j r in
        let b = in-range r in
        let k = at_in no_row (product_rows c d) (in-product-rows c d
        (record { s = s; t = t; a = a; s-below = b.s-below; t-below = b.t-below; a-below = b.a-below; listed = p.listed })) in
        record {
          place = k.0;
          inside = k.1;
          from = ap (λ x. x.from) k.2 ∙ p.from;
          guard = ap (λ x. guard_set x.guard) k.2 ∙ p.guard;
          action = ap (λ x. x.action) k.2 ∙ p.action;
          resets = ap (λ x. x.resets) k.2 ∙ p.resets;
          target = ap (λ x. x.target) k.2 ∙ p.target;
        }

    pub merged-rows-are-the-products : (s t s' t' C a R : ℕ) → s < c.states → t < d.states → s' < c.states → t' < d.states
        → Leads (merged c d) (pair_of d s t) C a R (pair_of d s' t') ↔ Joint (auto_of c) (auto_of d) a s t C R s' t'
    merged-rows-are-the-products s t s' t' C a R hs ht hs' ht' =
        (λ l. rows-of-pairs s t s' t' C a R ht ht' (merged-rows-are-pairs (pair_of d s t) C a R (pair_of d s' t') l), product-rows-are-merged)

    pub merged-is-the-product : MergedExactly c d
    unfolding merged
    merged-is-the-product = record {
      states = refl;
      start = refl;
      ins = merged-inputs c d wc wd j;
      outs = merged-outputs c d;
      urgent = merged-urgent c d;
      clocks = refl;
      started = refl;
      rows = merged-rows-are-the-products;
      pairs = merged-rows-are-pairs;
    }
