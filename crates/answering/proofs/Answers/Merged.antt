-- Merging, of any model that is the product's: there is one such, and it is what computes.
use mathlib.Core.Path.{◌≡◌, sym, ◌∙◌, ap, subst}
use mathlib.Core.Logic.{◌↔◌, ⊎_elim}
use mathlib.Core.Bool.{true≢false}
use mathlib.Core.Option.{Option, none}
use mathlib.Core.List.{List, ◌∷◌, Memᴰ as In}
use Prim.Native.Nat.{ℕ, zero, suc, ◌+◌, ◌*◌, ◌/◌, ◌%◌, ◌≤◌, ◌<◌}
use native.Mathlib.Nat.{mod-lt, div-add-mod', div-lt_iff_lt-mul}
use native.Mathlib.Omega.{arith}
use lib.ListN.{length}
use lib.Seq.{ext_get_or}
use Rattle.laws.specs.Sets.{◌∪◌, ◌∈◌, Apart}
use Rattle.laws.specs.Search.{or_else}
use Rattle.laws.proofs.SetLaws.{in-or, or-in-l, or-in-r, same-members}
use Rattle.laws.proofs.PairLaws.{pair-below}
use Rattle.laws.proofs.TestLaws.{apart-cases}
use Rattle.laws.proofs.ListLaws.{in-at, at_in, joined_length, joined-before, joined-here, joined-after, pairwise-from, pairwise-next}
use Rattle.laws.proofs.OrderedLaws.{one-ordered-list}
use Rattle.answer.specs.Told.{Told, Answer, answered}
use Rattle.model.specs.Model.{Row, Comp, Model, no_row, no_comp, row_at, comp_at, guard_set, inputs, outputs, urgents}
use Rattle.model.specs.WellFormed.{WellComp, WellFormed}
use Rattle.iosa.specs.Automaton.{Leads, auto_of, Conditions, Compatible, Conforming, Joinable}
use Rattle.iosa.specs.Checks.{accept_of}
use Rattle.merged.specs.Merge.{product_rows, merged, merged_at, neighbour_fault, size_fault, merge_of}
use Rattle.merged.specs.MergedExactly.{FitsIn, MergeAnswer, no-neighbour, too_large, small-enough}
use Rattle.merged.specs.MergedAs.{ProductOf, Replaced, Small, MergedAnswer, is25, is26, is-merged}
use Rattle.iosa.specs.InOrder.{◌▹◌, room}
use Rattle.answering.specs.Answers.{MergeCallAnswer}
use Rattle.iosa.proofs.Acceptance.Accepted.{accepted-exactly}
use Rattle.iosa.proofs.Acceptance.Guards.{guard-same}
use Rattle.iosa.proofs.Acceptance.Order.{before-irreflexive, before-transitive}
use Rattle.merged.proofs.Merging.Ascend.{Before, merged-rows-ascend}
use Rattle.merged.proofs.Merging.Product.{merged-is-the-product}
use Rattle.merged.proofs.Merging.Labels.{kinds-apart}
use Rattle.merged.proofs.Merging.WellFormed.{apart-without, apart-left, apart-right, apart-outer, apart-inner}
use Rattle.merged.proofs.Merging.Models.{merge-exactly}
use Rattle.answering.proofs.Answers.InOrder.{Decided, refused_or, either, or-refused, check-exactly}
use Rattle.answering.proofs.Answers.Models.{check-accepted}

-- ---- a row by what it says
row-leads : (e : Comp) {r : Row} → In r e.rows → Leads e r.from (guard_set r.guard) r.action r.resets r.target
row-leads e m =
    let k = at_in no_row e.rows m in
    record {
      place = k.0;
      inside = k.1;
      from = ap (λ x. x.from) k.2;
      guard = ap (λ x. guard_set x.guard) k.2;
      action = ap (λ x. x.action) k.2;
      resets = ap (λ x. x.resets) k.2;
      target = ap (λ x. x.target) k.2;
    }

leads-row : (e : Comp) (r : Row) {x y : ℕ} → r.from ≡ x → r.target ≡ y → Leads e x (guard_set r.guard) r.action r.resets y → In r e.rows
leads-row e r f t n = subst (λ q. In q e.rows) same (in-at no_row e.rows n.place n.inside)
  where
    from : (row_at e n.place).from ≡ r.from
    from = n.from ∙ sym f

    target : (row_at e n.place).target ≡ r.target
    target = n.target ∙ sym t

    guard : (row_at e n.place).guard ≡ r.guard
    guard = guard-same (row_at e n.place).guard r.guard n.guard

    same : row_at e n.place ≡ r
    same = λ i. record { from = from i; guard = guard i; action = n.action i; resets = n.resets i; target = target i }

leads-at : (e : Comp) {x y x' y' C a R : ℕ} → x ≡ x' → y ≡ y' → Leads e x C a R y → Leads e x' C a R y'
leads-at e f g n = record {
  place = n.place;
  inside = n.inside;
  from = n.from ∙ f;
  guard = n.guard;
  action = n.action;
  resets = n.resets;
  target = n.target ∙ g;
}

-- ---- the kinds of the actions, by inputs, outputs and urgency
module _ (c d e : Comp) (p : ProductOf c d e) (a : ℕ) where
  calm-in : a ∈ e.ins → (a ∈ urgents e → ⊥)
  calm-in h u = ⊎_elim (p.in-or-uin a h)
      (λ o. p.input-or-output a (or-in-l e.ins e.uins a h) (or-in-r e.outs e.uouts a o)) (in-or e.uins e.uouts a u)

  calm-out : a ∈ e.outs → (a ∈ urgents e → ⊥)
  calm-out h u = ⊎_elim (λ i. p.input-or-output a (or-in-r e.ins e.uins a i) (or-in-l e.outs e.uouts a h))
      (p.out-or-uout a h) (in-or e.uins e.uouts a u)

-- a number below n * k is that of a pair
pair_of : (n k x : ℕ) → x < n * k → (s : ℕ) × (t : ℕ) × (s < n) × (t < k) × (x ≡ s * k + t)
pair_of n zero x h = absurd (omega arith)
pair_of n (suc j) x h = let some : 1 ≤ suc j = omega arith in (x / suc j, x % suc j, (div-lt_iff_lt-mul some).1 h, mod-lt x some, sym (div-add-mod' x (suc j)))

module _ (c d e e' : Comp) (p : ProductOf c d e) (p' : ProductOf c d e') where
  urgent-there : (a : ℕ) → a ∈ urgents e → a ∈ urgents e'
  urgent-there a h = rw (p.urgent ∙ sym p'.urgent) at h

  urgent-back : (a : ℕ) → a ∈ urgents e' → a ∈ urgents e
  urgent-back a h = rw (p'.urgent ∙ sym p.urgent) at h

  input-there : (a : ℕ) → a ∈ inputs e → a ∈ inputs e'
  input-there a h = rw (p.ins ∙ sym p'.ins) at h

  output-there : (a : ℕ) → a ∈ outputs e → a ∈ outputs e'
  output-there a h = rw (p.outs ∙ sym p'.outs) at h

  ins-there : (a : ℕ) → a ∈ e.ins → a ∈ e'.ins
  ins-there a h = ⊎_elim (λ i. i) (λ u. absurd (calm-in c d e p a h (urgent-back a (or-in-l e'.uins e'.uouts a u))))
      (in-or e'.ins e'.uins a (input-there a (or-in-l e.ins e.uins a h)))

  uins-there : (a : ℕ) → a ∈ e.uins → a ∈ e'.uins
  uins-there a h = ⊎_elim (λ i. absurd (calm-in c d e' p' a i (urgent-there a (or-in-l e.uins e.uouts a h)))) (λ u. u)
      (in-or e'.ins e'.uins a (input-there a (or-in-r e.ins e.uins a h)))

  outs-there : (a : ℕ) → a ∈ e.outs → a ∈ e'.outs
  outs-there a h = ⊎_elim (λ i. i) (λ u. absurd (calm-out c d e p a h (urgent-back a (or-in-r e'.uins e'.uouts a u))))
      (in-or e'.outs e'.uouts a (output-there a (or-in-l e.outs e.uouts a h)))

  uouts-there : (a : ℕ) → a ∈ e.uouts → a ∈ e'.uouts
  uouts-there a h = ⊎_elim (λ i. absurd (calm-out c d e' p' a i (urgent-there a (or-in-r e.uins e.uouts a h)))) (λ u. u)
      (in-or e'.outs e'.uouts a (output-there a (or-in-r e.outs e.uouts a h)))

  rows-there : (r : Row) → In r e.rows → In r e'.rows
  rows-there r m =
      let l = row-leads e m in
      let w = p.within r.from (guard_set r.guard) r.action r.resets r.target l in
      let x = pair_of c.states d.states r.from (rw p.states at w.0) in
      let y = pair_of c.states d.states r.target (rw p.states at w.1) in
      let C = guard_set r.guard in
      leads-row e' r x.4 y.4 ((p'.rows x.0 x.1 y.0 y.1 C r.action r.resets x.2 x.3 y.2 y.3).1
      ((p.rows x.0 x.1 y.0 y.1 C r.action r.resets x.2 x.3 y.2 y.3).0 (leads-at e x.4 y.4 l)))

not-before-itself : (r : Row) → Before r r → ⊥
not-before-itself r h = true≢false (sym h ∙ before-irreflexive r)

-- two components that are the product of c and d are one
pub one_product : (c d e e' : Comp) → ProductOf c d e → ProductOf c d e' → e ≡ e'
one_product c d e e' p p' =
    let states = p.states ∙ sym p'.states in
    let start = p.start ∙ sym p'.start in
    let ins = same-members e.ins e'.ins (ins-there c d e e' p p') (ins-there c d e' e p' p) in
    let outs = same-members e.outs e'.outs (outs-there c d e e' p p') (outs-there c d e' e p' p) in
    let uins = same-members e.uins e'.uins (uins-there c d e e' p p') (uins-there c d e' e p' p) in
    let uouts = same-members e.uouts e'.uouts (uouts-there c d e e' p p') (uouts-there c d e' e p' p) in
    let clocks = p.clocks ∙ sym p'.clocks in
    let started = p.started ∙ sym p'.started in
    let rows = one-ordered-list Before not-before-itself before-transitive e.rows e'.rows
    (pairwise-from Before no_row before-transitive e.rows p.ascend) (pairwise-from Before no_row before-transitive e'.rows p'.ascend)
    (rows-there c d e e' p p') (rows-there c d e' e p' p) in
    λ i. record {
      states = states i;
      start = start i;
      ins = ins i;
      outs = outs i;
      uins = uins i;
      uouts = uouts i;
      clocks = clocks i;
      started = started i;
      rows = rows i;
    }

-- ---- the one that computes
module _ (c d : Comp) (wc : WellComp c) (wd : WellComp d) (oc : Conditions (auto_of c)) (od : Conditions (auto_of d)) (j : Compatible (auto_of c) (auto_of d)) where
  inputs-outputs-apart : Apart (inputs (merged c d)) (outputs (merged c d))
  unfolding merged
  inputs-outputs-apart a h k =
      let s = c.ins ∪ d.ins in
      let t = c.outs ∪ d.outs in
      let u = c.uins ∪ d.uins in
      let v = c.uouts ∪ d.uouts in
      let ka = kinds-apart c d wc wd j in
      ⊎_elim
      (λ i. ⊎_elim (apart-without s t a i) (apart-outer s t u v ka a i) (in-or t v a k))
      (λ i. ⊎_elim (λ o. apart-inner s t u v ka a o i) (apart-without u v a i) (in-or t v a k))
      (in-or (merged c d).ins (merged c d).uins a h)

  merged-is-product : ProductOf c d (merged c d)
  unfolding merged
  merged-is-product =
      let x = merged-is-the-product c d wc wd oc od j in
      record {
        states = x.states;
        start = x.start;
        ins = x.ins;
        outs = x.outs;
        urgent = x.urgent;
        input-or-output = inputs-outputs-apart;
        in-or-uin = apart-left (c.ins ∪ d.ins) (c.outs ∪ d.outs) (c.uins ∪ d.uins) (c.uouts ∪ d.uouts) (kinds-apart c d wc wd j);
        out-or-uout = apart-right (c.ins ∪ d.ins) (c.outs ∪ d.outs) (c.uins ∪ d.uins) (c.uouts ∪ d.uouts) (kinds-apart c d wc wd j);
        clocks = x.clocks;
        started = x.started;
        rows = x.rows;
        within = λ z C a R y l. (
          rw (x.pairs z C a R y l).from (pair-below c.states d.states (x.pairs z C a R y l).s-below (x.pairs z C a R y l).t-below),
          rw (x.pairs z C a R y l).target (pair-below c.states d.states (x.pairs z C a R y l).s'-below (x.pairs z C a R y l).t'-below),
        );
        ascend = pairwise-next Before no_row (product_rows c d) (merged-rows-ascend c d wc wd oc od j);
      }

-- ---- models
module _ (m : Model) (i : ℕ) (w : WellFormed m) (o : Conforming m) (j : Joinable m) (next : suc i < length m) where
  below : i < length m
  below = omega arith

  product-here : ProductOf (comp_at m i) (comp_at m (suc i)) (merged (comp_at m i) (comp_at m (suc i)))
  product-here = merged-is-product (comp_at m i) (comp_at m (suc i)) (w.each i below) (w.each (suc i) next)
      (o.each i below) (o.each (suc i) next) (j.pair i (suc i) (omega arith) next)

  computed-here : comp_at (merged_at m i) i ≡ merged (comp_at m i) (comp_at m (suc i))
  unfolding merged_at
  computed-here = joined-here no_comp (merged (comp_at m i) (comp_at m (suc i))) m i next

  computed-replaces : Replaced m i (merged_at m i)
  unfolding merged_at
  computed-replaces =
      let x = merged (comp_at m i) (comp_at m (suc i)) in
      record {
        neighbour = next;
        fewer = joined_length no_comp x m i next;
        before = joined-before no_comp x m i next;
        here = subst (ProductOf (comp_at m i) (comp_at m (suc i))) (sym computed-here) product-here;
        after = joined-after no_comp x m i next;
      }

  pub one-replaced : (n : Model) → Replaced m i n → merged_at m i ≡ n
  one-replaced n r =
      let q = computed-replaces in
      ext_get_or no_comp (merged_at m i) n (omega (arith, q.fewer, r.fewer)) (λ k h.
      apart-cases k i
      (λ e. rw e (one_product (comp_at m i) (comp_at m (suc i)) (comp_at (merged_at m i) i) (comp_at n i) q.here r.here))
      (λ l. q.before k l ∙ sym (r.before k l))
      (λ l. q.after k l ∙ sym (r.after k l)))

  states-there : (comp_at (merged_at m i) i).states ≡ (comp_at m i).states * (comp_at m (suc i)).states
  states-there = computed-replaces.here.states

  small-fits : Small (merged_at m i) i → FitsIn m i
  small-fits s = record { states = rw (← states-there) s.states; rows = s.rows; bytes = s.bytes }

  fits-small : FitsIn m i → Small (merged_at m i) i
  fits-small f = record { states = rw states-there f.states; rows = f.rows; bytes = f.bytes }

module _ (m : Model) (i : ℕ) (w : WellFormed m) (k : Conforming m × Joinable m) where
  there : {a : Answer Model} → MergeAnswer m i a → MergedAnswer m i a
  there (no-neighbour n) = is25 n
  there (too_large h n) = is26 (computed-replaces m i w k.0 k.1 h) (λ s. n (small-fits m i w k.0 k.1 h s))
  there (small-enough h f) = is-merged (computed-replaces m i w k.0 k.1 h) (fits-small m i w k.0 k.1 h f)

  back : {a : Answer Model} → MergedAnswer m i a → MergeAnswer m i a
  back (is25 n) = no-neighbour n
  back (is26 {n = n} r f) =
      let e = one-replaced m i w k.0 k.1 r.neighbour n r in
      too_large r.neighbour (λ g. f (subst (λ x. Small x i) e (fits-small m i w k.0 k.1 r.neighbour g)))
  back (is-merged {n = n} r s) =
      let e = one-replaced m i w k.0 k.1 r.neighbour n r in
      subst (λ x. MergeAnswer m i (answered x)) e
      (small-enough r.neighbour (small-fits m i w k.0 k.1 r.neighbour (subst (λ x. Small x i) (sym e) s)))

  pub merged-answers-exactly : (a : Answer Model) → MergeAnswer m i a ↔ MergedAnswer m i a
  merged-answers-exactly a = (there, back)

-- "as `accept`, then 24, 25, 26", where o decides 24
pub merge-model-exactly : (c : Comp) (cs : List Comp) → WellFormed (c ∷ cs) → (i needed bytes : ℕ) (o : Option Told) → Decided (room needed bytes) o
    → (a : Answer Model) → (merge_of (c ∷ cs) i o ≡ a) ↔ MergeCallAnswer c cs i needed bytes a
unfolding merge_of
merge-model-exactly c cs w i needed bytes o d a =
    let m = c ∷ cs in
    let p = or_else (neighbour_fault m i) (size_fault m i) in
    let x : Answer Model = answered (merged_at m i) in
    let e = either (or_else (accept_of m) (or_else o p)) x ∙ or-refused (accept_of m) (or_else o p) x ∙ ap (refused_or (accept_of m)) (or-refused o p x) in
    rw e (check-accepted m w (refused_or o (refused_or p x)) (room needed bytes ▹ MergedAnswer m i) (λ k.
    check-exactly (room needed bytes) o d (refused_or p x) (MergedAnswer m i) (λ r b.
    let ok = (accepted-exactly m w).1 k in
    let f : merge_of m i none ≡ refused_or p x = either (or_else (accept_of m) p) x ∙ ap (λ q. refused_or (or_else q p) x) ok in
    let g = merge-exactly m i ok b in
    let h = merged-answers-exactly m i w k b in
    (λ z. h.0 (g.0 (f ∙ z)), λ z. sym f ∙ g.1 (h.1 z)))) a)
