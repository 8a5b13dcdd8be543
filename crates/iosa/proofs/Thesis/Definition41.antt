-- The conditions that are checked are Definition 4.1 of document 000, clause by clause, and the house rule; compatibility is its Definition 4.3.
use mathlib.Core.Path.{◌≡◌, refl, sym, ◌∙◌, ap}
use mathlib.Core.Logic.{◌↔◌, ⊎_elim}
use mathlib.Core.Bool.{Bool, true, false, true≢false}
use Prim.Native.Nat.{ℕ}
use Rattle.laws.specs.Sets.{has, ◌∪◌, ◌∩◌, ◌∖◌, only, ◌∈◌, ◌⊆◌, Apart}
use Rattle.laws.proofs.SetLaws.{in-or, or-in-l, or-in-r, in_and, and_in, in_without, without_in, in_one, one_in, none_in, same-members}
use Rattle.laws.proofs.TestLaws.{not_so}
use Rattle.iosa.specs.Automaton.{Automaton, alphabet, Stable, Enabling, CondA, CondB, CondE, Active, Conditions, Compatible}
use Rattle.iosa.specs.Thesis.{Structure, Enabling41, Stable41, Active41, Definition41, HouseRule, Definition43, OwnNames}
use Rattle.iosa.proofs.Settling.ProductConditions.{Constraints, conditions-constraints}

module _ (A : Automaton) where
  -- ---- by (a) and (b) a guard with a clock is that clock alone, and an urgent row has no guard
  module _ (own : OwnNames A) (ca : CondA A) (cb : CondB A) where
    one-guard : {C a R : ℕ} {s t : A.State} (x : ℕ) → x ∈ C → A.Row s C a R t → C ≡ only x
    one-guard {C} {a} x h r = go (has A.urgent a) refl
      where
        single : (p : (y : ℕ) × (C ≡ only y)) → C ≡ only x
        single p = p.1 ∙ ap only (sym (one_in p.0 x (rw p.1 at h)))

        empty : a ∈ A.inputs ∪ A.urgent → C ≡ only x
        empty u = absurd (none_in x (rw (ca.unguarded r u) at h))

        go : (q : Bool) → has A.urgent a ≡ q → C ≡ only x
        go true u = empty (or-in-r A.inputs A.urgent a u)
        go false u = ⊎_elim
            (λ i. empty (or-in-l A.inputs A.urgent a i))
            (λ o. single (cb.guarded r o (λ v. true≢false (sym v ∙ u))))
            (in-or A.inputs A.outputs a (own.rows r).action)

    enabling-41 : (s : A.State) (x : ℕ) → Enabling A s x ↔ Enabling41 A s x
    enabling-41 s x = (
      λ e. record { action = e.action; resets = e.resets; target = e.target; row = rw (one-guard x e.guards e.row) at e.row },
      λ e. record { guard = only x; action = e.action; resets = e.resets; target = e.target; guards = in_one x; row = e.row },
    )

    stable-41 : (s : A.State) → Stable A s ↔ Stable41 A s
    stable-41 s = (
      λ st. record { none = λ {a} u r. let x = in_and A.urgent A.outputs a u in st.rests (record { output = x.1; urgent = x.0; row = r }) },
      λ st. record {
        rests = λ {C} {a} u.
            let e = ca.unguarded u.row (or-in-r A.inputs A.urgent a u.urgent) in
            st.none (and_in A.urgent A.outputs a u.urgent u.output) (rw e at u.row);
      },
    )

    -- ---- (f): sets that will do, cut down to the clocks of A, will do
    active-41 : (active : A.State → ℕ) → Active A active → Active41 A active
    active-41 active f = record {
      i = f.first;
      ii = λ s ok x e. f.enabled s ok x ((enabling-41 s x).1 e);
      iii = λ s ok st x. (λ h. (enabling-41 s x).0 (f.equal s ok ((stable-41 s).1 st) x h), λ e. f.enabled s ok x ((enabling-41 s x).1 e));
      iv = f.kept;
    }

    cut-active : (active : A.State → ℕ) → Active41 A active → Active A (λ s. active s ∩ A.clocks)
    cut-active active f = record {
      own = λ s ok x h. (in_and (active s) A.clocks x h).1;
      first = λ x h. f.i x (in_and (active A.start) A.clocks x h).0;
      enabled = λ s ok x e. and_in (active s) A.clocks x (f.ii s ok x ((enabling-41 s x).0 e)) ((own.rows e.row).guard x e.guards);
      equal = λ s ok st x h. (enabling-41 s x).1 ((f.iii s ok ((stable-41 s).0 st) x).0 (in_and (active s) A.clocks x h).0);
      kept = λ {C} {a} {R} {s} {t} r x h.
          let w = in_and (active s) A.clocks x h in
          ⊎_elim (λ v. or-in-l ((active t ∩ A.clocks) ∖ C) R x (keep (active t) C x w.1 v)) (or-in-r ((active t ∩ A.clocks) ∖ C) R x)
          (in-or (active t ∖ C) R x (f.iv r x w.0));
    }
      where
        keep : (F C x : ℕ) → x ∈ A.clocks → x ∈ F ∖ C → x ∈ (F ∩ A.clocks) ∖ C
        keep F C x h v = let z = in_without F C x v in without_in (F ∩ A.clocks) C x (and_in F A.clocks x z.0 h) z.1

  -- ---- with the structure given
  module _ (st : Structure A) where
    own : OwnNames A
    own = st.own

    pub constraints-definition : Constraints A → Definition41 A
    constraints-definition k = record {
      structure = st;
      a = λ r u. k.cond_a.unguarded r u;
      b = λ {C} {a} r u. let x = in_without A.outputs A.urgent a u in k.cond_b.guarded r x.0 (λ v. true≢false (sym v ∙ x.1));
      c = λ x r q. let e = k.cond_c.same x (in_one x) (in_one x) r q in (e.1, e.2, e.3);
      d = λ a h s ok. k.cond_d.row s ok a h;
      e = λ h r q. let e = k.inputs.same h r q in (e.1, e.2);
      f = (k.cond_f.0, active-41 own k.cond_a k.cond_b k.cond_f.0 k.cond_f.1);
    }

    module _ (k : Definition41 A) where
      cond_a : CondA A
      cond_a = record { unguarded = λ r u. k.a r u }

      cond_b : CondB A
      cond_b = record { guarded = λ {C} {a} r o n. k.b r (without_in A.outputs A.urgent a o (not_so (has A.urgent a) n)) }

      pub definition-constraints : Constraints A
      definition-constraints = record {
        cond_a = cond_a;
        cond_b = cond_b;
        cond_c = record {
          same = λ x {C} {D} h g r q.
              let i = one-guard own cond_a cond_b x h r in
              let j = one-guard own cond_a cond_b x g q in
              let e = k.c x (rw i at r) (rw j at q) in
              (i ∙ sym j, e.0, e.1, e.2);
        };
        cond_d = record { row = λ s ok a h. k.d a h s ok };
        inputs = record {
          same = λ {C} {D} {a} h r q.
              let i = k.a r (or-in-l A.inputs A.urgent a h) in
              let j = k.a q (or-in-l A.inputs A.urgent a h) in
              let e = k.e h (rw i at r) (rw j at q) in
              (i ∙ sym j, e.0, e.1);
        };
        cond_f = ((λ s. k.f.0 s ∩ A.clocks), cut-active own cond_a cond_b k.f.0 k.f.1);
      }

      -- (e) and the house rule together
      pub house-rule-condition : HouseRule A → CondE A
      house-rule-condition h = record {
        same = λ {C} {D} {a} u r q.
            let i = k.a r u in
            let j = k.a q u in
            let e = ⊎_elim (λ v. k.e v (rw i at r) (rw j at q)) (λ v. ⊎_elim
            (λ w. k.e w (rw i at r) (rw j at q))
            (λ w. h.one (and_in A.urgent A.outputs a v w) (rw i at r) (rw j at q))
            (in-or A.inputs A.outputs a (own.rows r).action)) (in-or A.inputs A.urgent a u) in
            (i ∙ sym j, e.0, e.1);
      }

    pub condition-house-rule : CondE A → HouseRule A
    condition-house-rule k = record {
      one = λ {a} u r q. let e = k.same (or-in-r A.inputs A.urgent a (in_and A.urgent A.outputs a u).0) r q in (e.1, e.2);
    }

    pub conditions-are-definition-4-1 : Conditions A ↔ Definition41 A × HouseRule A
    conditions-are-definition-4-1 = (
      λ k. (constraints-definition (conditions-constraints A k), condition-house-rule k.cond_e),
      λ p. let k = definition-constraints p.0 in record {
        cond_a = k.cond_a;
        cond_b = k.cond_b;
        cond_c = k.cond_c;
        cond_d = k.cond_d;
        cond_e = house-rule-condition p.0 p.1;
        cond_f = k.cond_f;
      },
    )

-- (f) asks for active : S → 2^C: of any sets that will do, the clocks of A in them will do
pub active-within-the-clocks : (A : Automaton) → Definition41 A
    → (active : A.State → ℕ) × Active41 A active × ((s : A.State) → A.States s → active s ⊆ A.clocks)
active-within-the-clocks A k =
    let o = k.structure.own in
    let ca = cond_a A k.structure k in
    let cb = cond_b A k.structure k in
    let f = cut-active A o ca cb k.f.0 k.f.1 in
    ((λ s. k.f.0 s ∩ A.clocks), active-41 A o ca cb (λ s. k.f.0 s ∩ A.clocks) f, f.own)

-- ---- Definition 4.3
apart_none : (s t : ℕ) → Apart s t ↔ (s ∩ t ≡ 0)
apart_none s t = (
  λ f. same-members (s ∩ t) 0 (λ x h. let p = in_and s t x h in absurd (f x p.0 p.1)) (λ x h. absurd (none_in x h)),
  λ e x h k. none_in x (rw e at (and_in s t x h k)),
)

pub compatible-is-definition-4-3 : (A B : Automaton) → Structure A → Structure B → Compatible A B ↔ Definition43 A B
compatible-is-definition-4-3 A B sa sb = (
  λ k. record {
    outputs = (apart_none A.outputs B.outputs).0 k.outputs;
    clocks = (apart_none A.clocks B.clocks).0 k.clocks;
    urgent = same-members (alphabet A ∩ B.urgent) (alphabet B ∩ A.urgent)
        (λ x h. let p = in_and (alphabet A) B.urgent x h in and_in (alphabet B) A.urgent x (sb.urgent x p.1) (k.right x p.1 p.0))
        (λ x h. let p = in_and (alphabet B) A.urgent x h in and_in (alphabet A) B.urgent x (sa.urgent x p.1) (k.left x p.1 p.0));
  },
  λ d. record {
    outputs = (apart_none A.outputs B.outputs).1 d.outputs;
    clocks = (apart_none A.clocks B.clocks).1 d.clocks;
    left = λ a u h. (in_and (alphabet A) B.urgent a (rw (← d.urgent) at (and_in (alphabet B) A.urgent a h u))).1;
    right = λ a u h. (in_and (alphabet B) A.urgent a (rw d.urgent at (and_in (alphabet A) B.urgent a h u))).1;
  },
)
