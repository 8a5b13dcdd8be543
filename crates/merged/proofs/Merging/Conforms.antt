-- Proposition 4.1 for merging: the merged component meets the conditions (a) to (f) again.
use mathlib.Core.Path.{◌≡◌, refl, sym, ◌∙◌, ap, ap₂}
use Prim.Native.Nat.{ℕ, ◌*◌, ◌/◌, ◌%◌, ◌<◌}
use native.Mathlib.Nat.{mod-lt, div-add-mod', div-lt_iff_lt-mul}
use Rattle.laws.specs.Sets.{◌∪◌}
use Rattle.laws.proofs.PairLaws.{pair_parts}
use Rattle.model.specs.Model.{Comp, inputs, urgents}
use Rattle.model.specs.WellFormed.{WellComp}
use Rattle.iosa.specs.Automaton.{Automaton, Leads, auto_of, Stable, Enabling, Active, Conditions, Compatible}
use Rattle.iosa.specs.Product.{◌⊗◌}
use Rattle.merged.specs.Merge.{merged}
use Rattle.merged.specs.MergedAs.{pair_of}
use Rattle.iosa.proofs.Settling.OwnNames.{component-own}
use Rattle.iosa.proofs.Settling.ProductConditions.{product-is-an-automaton}
use Rattle.merged.proofs.Merging.Labels.{merged-inputs, merged-outputs, merged-urgent}
use Rattle.merged.proofs.Merging.Product.{merged-rows-are-pairs, product-rows-are-merged}

module _ (c d : Comp) (wc : WellComp c) (wd : WellComp d) (oc : Conditions (auto_of c)) (od : Conditions (auto_of d)) (j : Compatible (auto_of c) (auto_of d)) where
  abbrev P : Automaton
  P = auto_of c ⊗ auto_of d

  conditions : Conditions (auto_of c ⊗ auto_of d)
  conditions = product-is-an-automaton (auto_of c) (auto_of d) j oc od (component-own c wc) (component-own d wd)

  -- ---- the pair that a number stands for
  abbrev pair : ℕ → ℕ × ℕ
  pair x = (x / d.states, x % d.states)

  pair-number : (x : ℕ) → x ≡ pair_of d (pair x).0 (pair x).1
  pair-number x = sym (div-add-mod' x d.states)

  pair-below : (x : ℕ) → x < c.states * d.states → P.States (pair x)
  pair-below x h = ((div-lt_iff_lt-mul wd.some).1 h, mod-lt x wd.some)

  number-pair : (x s t : ℕ) → t < d.states → x ≡ pair_of d s t → (x / d.states ≡ s) × (x % d.states ≡ t)
  number-pair x s t h e = pair_parts d.states (x / d.states) s (x % d.states) t (mod-lt x wd.some) h (sym (pair-number x) ∙ e)

  -- ---- a row of the one is a row of the other
  to-product : {x C a R y : ℕ} → Leads (merged c d) x C a R y → (auto_of c ⊗ auto_of d).Row (pair x) C a R (pair y)
  to-product {x} {C} {a} {R} {y} l =
      let p = merged-rows-are-pairs c d wc wd oc od j x C a R y l in
      let e = number-pair x p.s p.t p.t-below p.from in
      let f = number-pair y p.s' p.t' p.t'-below p.target in
      rw (e.0, e.1, f.0, f.1) p.joint

  to-merged : (x : ℕ) {C a R : ℕ} (q : ℕ × ℕ) → (auto_of c ⊗ auto_of d).Row (pair x) C a R q → Leads (merged c d) x C a R (pair_of d q.0 q.1)
  to-merged x q r = from-number x (pair-number x) (product-rows-are-merged c d wc wd oc od j r)
    where
      from-number : {C a R y z : ℕ} (x : ℕ) → x ≡ z → Leads (merged c d) z C a R y → Leads (merged c d) x C a R y
      from-number x e l = rw e l

  same_number : (x y : ℕ) → pair x ≡ pair y → x ≡ y
  same_number x y e = pair-number x ∙ ap (λ q. pair_of d q.0 q.1) e ∙ sym (pair-number y)

  unclocked-labels : inputs (merged c d) ∪ urgents (merged c d) ≡ P.inputs ∪ P.urgent
  unclocked-labels = ap₂ ◌∪◌ (merged-inputs c d wc wd j) (merged-urgent c d)

  to-enabling : (x y : ℕ) → Enabling (auto_of (merged c d)) x y → Enabling (auto_of c ⊗ auto_of d) (pair x) y
  to-enabling x y e =
      record { guard = e.guard; action = e.action; resets = e.resets; target = pair e.target; guards = e.guards; row = to-product e.row }

  to-stable : (x : ℕ) → Stable (auto_of (merged c d)) x → Stable (auto_of c ⊗ auto_of d) (pair x)
  to-stable x st = record {
    rests =
        λ {C} {a} {R} {t} u. st.rests (record {
          output = rw (merged-outputs c d) u.output;
          urgent = rw (merged-urgent c d) u.urgent;
          row = to-merged x t u.row;
        });
  }

  to-merged-enabling : (x y : ℕ) → Enabling (auto_of c ⊗ auto_of d) (pair x) y → Enabling (auto_of (merged c d)) x y
  to-merged-enabling x y e =
      record {
        guard = e.guard;
        action = e.action;
        resets = e.resets;
        target = pair_of d e.target.0 e.target.1;
        guards = e.guards;
        row = to-merged x e.target e.row;
      }

  -- (f): the product's sets, of the pair that a number stands for
  active-again : (f : ℕ × ℕ → ℕ) → Active (auto_of c ⊗ auto_of d) f → Active (auto_of (merged c d)) (λ x. f (pair x))
  unfolding merged
  active-again f act = record {
    own = λ s ok. act.own (pair s) (pair-below s ok);
    first =
        rw (
          (number-pair (pair_of d c.start d.start) c.start d.start wd.start refl).0,
          (number-pair (pair_of d c.start d.start) c.start d.start wd.start refl).1,
        ) act.first;
    enabled = λ s ok x e. act.enabled (pair s) (pair-below s ok) x (to-enabling s x e);
    equal = λ s ok st x h. to-merged-enabling s x (act.equal (pair s) (pair-below s ok) (to-stable s st) x h);
    kept = λ {C} {a} {R} {s} {t} l. act.kept (to-product l);
  }

  pub merged-conforms : Conditions (auto_of (merged c d))
  unfolding merged
  merged-conforms = record {
    cond_a = record { unguarded = λ {C} {a} {R} {s} {t} l u. conditions.cond_a.unguarded (to-product l) (rw unclocked-labels at u) };
    cond_b =
        record {
          guarded = λ {C} {a} {R} {s} {t} l o n. conditions.cond_b.guarded (to-product l) (rw (merged-outputs c d) at o)
              (λ u. n (rw (merged-urgent c d) u));
        };
    cond_c = record {
      same = λ x {C} {D} {a} {b} {R} {Q} {s} {t} {u} h k l m.
          let e = conditions.cond_c.same x h k (to-product l) (to-product m) in
          (e.0, e.1, e.2, same_number t u e.3);
    };
    cond_d = record {
      row = λ s ok a i.
          let r = conditions.cond_d.row (pair s) (pair-below s ok) a (rw (merged-inputs c d wc wd j) at i) in
          (r.0, pair_of d r.1.0 r.1.1, to-merged s r.1 r.2);
    };
    cond_e = record {
      same = λ {C} {D} {a} {R} {Q} {s} {t} {u} i l m.
          let e = conditions.cond_e.same (rw unclocked-labels at i) (to-product l) (to-product m) in
          (e.0, e.1, same_number t u e.2);
    };
    cond_f = (λ x. conditions.cond_f.0 (pair x), active-again conditions.cond_f.0 conditions.cond_f.1);
  }
