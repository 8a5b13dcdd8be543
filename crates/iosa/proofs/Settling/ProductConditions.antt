-- Proposition 4.1 of document 000: the product of compatible automata that meet (a) to (f) meets them again, with the house rule and without it.
use mathlib.Core.Path.{◌≡◌, refl, sym, ◌∙◌, ap₂}
use mathlib.Core.Logic.{◌⊎◌, inl, inr, ⊎_elim}
use mathlib.Core.Bool.{Bool, true, false, true≢false}
use Prim.Native.Nat.{ℕ}
use lib.Bits.{or_zero_r}
use Rattle.laws.specs.Sets.{has, ◌∪◌, ◌∖◌, only, ◌∈◌, ◌⊆◌}
use Rattle.laws.proofs.SetLaws.{or-in-l, or-in-r, in-or, not-or, or-not, in_without, without_in, none_in}
use Rattle.laws.proofs.TestLaws.{not_so}
use Rattle.iosa.specs.Automaton.{Automaton, alphabet, Stable, Enabling, CondA, CondB, CondC, CondD, CondE, Active, CondF, Conditions, Compatible}
use Rattle.iosa.specs.Product.{◌⊗◌}
use Rattle.iosa.proofs.Settling.Parts.{Parts, go-row, joint-parts, parts-go, alphabet-joins}
use Rattle.iosa.specs.Parts.{Go, goes, sits-out}
use Rattle.iosa.specs.Thesis.{OwnNames}
use Rattle.iosa.proofs.Settling.OwnNames.{go-own, or-within}

pub compatible-sym : (A B : Automaton) → Compatible A B → Compatible B A
compatible-sym A B k = record {
  outputs = λ x h g. k.outputs x g h;
  clocks = λ x h g. k.clocks x g h;
  left = k.right;
  right = k.left;
}

-- at most one row leaves a state by an action of the set K
pub record OneRow (A : Automaton) (K : ℕ) : Type 0 where
  pub same : {C D a R Q : ℕ} {s t u : A.State} → a ∈ K → A.Row s C a R t → A.Row s D a Q u → (C ≡ D) × (R ≡ Q) × (t ≡ u)

-- (a) to (f) without the house rule, which `Conditions` has in (e)
pub record Constraints (A : Automaton) : Type 0 where
  pub cond_a : CondA A
  pub cond_b : CondB A
  pub cond_c : CondC A
  pub cond_d : CondD A
  pub inputs : OneRow A A.inputs
  pub cond_f : CondF A

pub conditions-constraints : (A : Automaton) → Conditions A → Constraints A
conditions-constraints A k = record {
  cond_a = k.cond_a;
  cond_b = k.cond_b;
  cond_c = k.cond_c;
  cond_d = k.cond_d;
  inputs = record { same = λ {C} {D} {a} h r q. k.cond_e.same (or-in-l A.inputs A.urgent a h) r q };
  cond_f = k.cond_f;
}

-- ---- one automaton, by a row or at rest
module _ (A : Automaton) where
  -- an action that is no output of A is an input of A, where A has it
  known-input : (a : ℕ) → (a ∈ A.outputs → ⊥) → a ∈ alphabet A → a ∈ A.inputs
  known-input a n h = ⊎_elim (λ k. k) (λ k. absurd (n k)) (in-or A.inputs A.outputs a h)

  input-unclocked : (a : ℕ) → a ∈ A.inputs → a ∈ A.inputs ∪ A.urgent
  input-unclocked a h = or-in-l A.inputs A.urgent a h

  module _ (a : ℕ) (un : a ∈ alphabet A → a ∈ A.inputs ∪ A.urgent) where
    go-unguarded : CondA A → {s t : A.State} {C R : ℕ} → Go A a s C R t → C ≡ 0
    go-unguarded ca (goes h r) = ca.unguarded r (un h)
    go-unguarded ca (sits-out h p) = refl

  go_same : (K a : ℕ) → (a ∈ alphabet A → a ∈ K) → OneRow A K → {s t u : A.State} {C D R Q : ℕ} → Go A a s C R t → Go A a s D Q u → (C ≡ D) × (R ≡ Q) × (t ≡ u)
  go_same K a f ce (goes h r) (goes k q) = ce.same (f h) r q
  go_same K a f ce (goes h r) (sits-out k p) = absurd (true≢false (sym h ∙ k))
  go_same K a f ce (sits-out h p) (goes k q) = absurd (true≢false (sym k ∙ h))
  go_same K a f ce (sits-out h p) (sits-out k q) = (refl, refl, refl)

  -- by an action that is no output of A, it always can go
  go-input : CondD A → (a : ℕ) → (a ∈ A.outputs → ⊥) → (s : A.State) → A.States s → (R : ℕ) × (t : A.State) × Go A a s 0 R t
  go-input cd a n s ok = go (has (alphabet A) a) refl
    where
      go : (b : Bool) → has (alphabet A) a ≡ b → (R : ℕ) × (t : A.State) × Go A a s 0 R t
      go true h = let r = cd.row s ok a (known-input a n h) in (r.0, r.1, goes h r.2)
      go false h = (0, s, sits-out h ok)

  -- a guard makes it a row, and no rest
  go-enabling : {a C R : ℕ} {s t : A.State} (x : ℕ) → x ∈ C → Go A a s C R t → A.Row s C a R t
  go-enabling x h (goes k r) = r
  go-enabling x h (sits-out k p) = absurd (none_in x h)

  -- a clock guards only outputs that are not urgent
  guard-output : CondA A → OwnNames A → {a C R : ℕ} {s t : A.State} (x : ℕ) → x ∈ C → A.Row s C a R t → a ∈ A.outputs
  guard-output ca cl {a} {C} x h r = ⊎_elim
      (λ k. absurd (none_in x (rw (ca.unguarded r (input-unclocked a k)) at h)))
      (λ k. k)
      (in-or A.inputs A.outputs a (cl.rows r).action)

  go-kept : (active : A.State → ℕ) → Active A active → {a C R : ℕ} {s t : A.State} → Go A a t C R s → active s ⊆ active t ∖ C ∪ R
  go-kept active f (goes h r) = λ x k. f.kept r x k
  go-kept active f (sits-out {s = s} h p) = λ x k. or-in-l (active s ∖ 0) 0 x (without_in (active s) 0 x k (not_so (has 0 x) (none_in x)))

-- ---- two of them
-- what is unclocked in the whole, an input that nobody outputs or an urgent action, is so in the side that has it
side : (I O U X Y W a : ℕ) → O ⊆ Y → (a ∈ W → a ∈ U) → a ∈ X ∖ Y ∪ W → a ∈ I ∪ O → a ∈ I ∪ U
side I O U X Y W a f g h k = ⊎_elim
    (λ p. ⊎_elim
    (λ q. or-in-l I U a q)
    (λ q. absurd (true≢false (sym (f a q) ∙ (in_without X Y a p).1)))
    (in-or I O a k))
    (λ p. or-in-r I U a (g p))
    (in-or (X ∖ Y) W a h)

module _ (A B : Automaton) (k : Compatible A B) (a : ℕ) where
  -- an urgent action of either side is urgent in A, where A has it
  pub urgent-left : a ∈ A.urgent ∪ B.urgent → a ∈ alphabet A → a ∈ A.urgent
  urgent-left u h = ⊎_elim (λ p. p) (λ p. k.right a p h) (in-or A.urgent B.urgent a u)

  pub urgent-right : a ∈ A.urgent ∪ B.urgent → a ∈ alphabet B → a ∈ B.urgent
  urgent-right u h = ⊎_elim (λ p. k.left a p h) (λ p. p) (in-or A.urgent B.urgent a u)

  unclocked-left : a ∈ (A ⊗ B).inputs ∪ (A ⊗ B).urgent → a ∈ alphabet A → a ∈ A.inputs ∪ A.urgent
  unclocked-left u h = side A.inputs A.outputs A.urgent (A.inputs ∪ B.inputs) (A.outputs ∪ B.outputs) (A.urgent ∪ B.urgent) a
      (or-in-l A.outputs B.outputs) (λ p. urgent-left p h) u h

  unclocked-right : a ∈ (A ⊗ B).inputs ∪ (A ⊗ B).urgent → a ∈ alphabet B → a ∈ B.inputs ∪ B.urgent
  unclocked-right u h = side B.inputs B.outputs B.urgent (A.inputs ∪ B.inputs) (A.outputs ∪ B.outputs) (A.urgent ∪ B.urgent) a
      (or-in-r A.outputs B.outputs) (λ p. urgent-right p h) u h

-- the clock of a guard is one side's: its rows by that clock are one, and the other side follows, to which the action is an input or nothing
module _ (A B : Automaton) (k : Compatible A B) (ca : CondA A) (cc' : CondC A) (ce : OneRow B B.inputs) (oa : OwnNames A) where
  one-clock : {a b C D R Q C' D' R' Q' : ℕ} {s t u : A.State} {s' t' u' : B.State} (x : ℕ) → x ∈ C → x ∈ D
      → Go A a s C R t → Go B a s' C' R' t' → Go A b s D Q u → Go B b s' D' Q' u'
      → (a ≡ b) × (C ≡ D) × (R ≡ Q) × (t ≡ u) × (C' ≡ D') × (R' ≡ Q') × (t' ≡ u')
  one-clock {a} {b} x h g r p q w =
      let e = cc'.same x h g (go-enabling A x h r) (go-enabling A x g q) in
      let o = guard-output A ca oa x h (go-enabling A x h r) in
      let f = go_same B B.inputs a (known-input B a (λ z. k.outputs a o z)) ce p (rw (← e.1) at w) in
      (e.1, e.0, e.2, e.3, f.0, f.1, f.2)

-- what one side hands on, the pair does
hand_on : (P P' C D R R' x : ℕ) → (x ∈ P → x ∈ P') → (x ∈ P → has C x ≡ false → has D x ≡ false) → (x ∈ R → x ∈ R') → x ∈ P ∖ C ∪ R → x ∈ P' ∖ D ∪ R'
hand_on P P' C D R R' x f g r h = ⊎_elim
    (λ i. let w = in_without P C x i in or-in-l (P' ∖ D) R' x (without_in P' D x (f w.0) (g w.0 w.1)))
    (λ i. or-in-r (P' ∖ D) R' x (r i))
    (in-or (P ∖ C) R x h)

-- X in state s is a side of P in state p: its rows by outputs are P's with the same guard. Where P is stable so is X, and then X's active clocks
-- guard rows of P
module _ (X P : Automaton) (s : X.State) (p : P.State) (out : X.outputs ⊆ P.outputs) (ur : X.urgent ⊆ P.urgent)
    (lift : (C a R : ℕ) (t : X.State) → a ∈ X.outputs → X.Row s C a R t → (Q : ℕ) × (y : P.State) × P.Row p C a Q y) where
  pub stable-side : Stable P p → Stable X s
  stable-side st =
      record {
        rests = λ {C} {a} {R} {t} r. st.rests
            (record { output = out a r.output; urgent = ur a r.urgent; row = (lift C a R t r.output r.row).2 });
      }

  enabling-side : CondA X → OwnNames X → (x : ℕ) → Enabling X s x → Enabling P p x
  enabling-side ca o x e =
      let w = lift e.guard e.action e.resets e.target (guard-output X ca o x e.guards e.row) e.row in
      record { guard = e.guard; action = e.action; resets = w.0; target = w.1; guards = e.guards; row = w.2 }

  equal-side : CondA X → OwnNames X → (active : X.State → ℕ) → Active X active → X.States s → Stable P p → (x : ℕ) → x ∈ active s → Enabling P p x
  equal-side ca o active f ok st x h = enabling-side ca o x (f.equal s ok (stable-side st) x h)

-- one row by an action of K, where K is among K₁ of A and among K₂ of B
module _ (A B : Automaton) (K K₁ K₂ : ℕ) (f : (a : ℕ) → a ∈ K → a ∈ alphabet A → a ∈ K₁) (g : (a : ℕ) → a ∈ K → a ∈ alphabet B → a ∈ K₂) where
  product-one-row : OneRow A K₁ → OneRow B K₂ → OneRow (A ⊗ B) K
  product-one-row ea eb = record { same = λ {C} {D} {a} {R} {Q} {s} {t} {u} h r q. build h (joint-parts A B a r) (joint-parts A B a q) }
    where
      build : {C D a R Q : ℕ} {s t u : A.State × B.State} → a ∈ K → Parts A B a s C R t → Parts A B a s D Q u → (C ≡ D) × (R ≡ Q) × (t ≡ u)
      build {a = a} h p q =
          let x = go_same A K₁ a (f a h) ea p.left q.left in
          let y = go_same B K₂ a (g a h) eb p.right q.right in
          (p.guards ∙ ap₂ ◌∪◌ x.0 y.0 ∙ sym q.guards, p.sets ∙ ap₂ ◌∪◌ x.1 y.1 ∙ sym q.sets, λ i. (x.2 i, y.2 i))

-- the conditions, one by one
module _ (A B : Automaton) (k : Compatible A B) (ca : Constraints A) (cb : Constraints B) (oa : OwnNames A) (ob : OwnNames B) where
  product-meets-a : CondA (A ⊗ B)
  product-meets-a = record {
    unguarded = λ {C} {a} {R} {s} {t} r u.
        let p = joint-parts A B a r in
        p.guards ∙ ap₂ ◌∪◌ (go-unguarded A a (unclocked-left A B k a u) ca.cond_a p.left)
        (go-unguarded B a (unclocked-right A B k a u) cb.cond_a p.right);
  }

  -- (e): an input of the product is no output of either side
  product-meets-e : OneRow (A ⊗ B) (A ⊗ B).inputs
  product-meets-e = product-one-row A B (A ⊗ B).inputs A.inputs B.inputs
      (λ a h. known-input A a (λ v. nobody a h (or-in-l A.outputs B.outputs a v)))
      (λ a h. known-input B a (λ v. nobody a h (or-in-r A.outputs B.outputs a v)))
      ca.inputs cb.inputs
    where
      nobody : (a : ℕ) → a ∈ (A ⊗ B).inputs → a ∈ (A ⊗ B).outputs → ⊥
      nobody a h v = true≢false (sym v ∙ (in_without (A.inputs ∪ B.inputs) (A.outputs ∪ B.outputs) a h).1)

  -- an output of A is none of B, so B can always go with it
  pub with-left : {a C R : ℕ} {s s' : A.State} (t : B.State) → B.States t → a ∈ A.outputs → A.Row s C a R s'
      → (Q : ℕ) × (y : A.State × B.State) × (A ⊗ B).Row (s, t) C a Q y
  with-left {a} {C} {R} {s} {s'} t ok o r =
      let q = go-input B cb.cond_d a (λ p. k.outputs a o p) t ok in
      let g = parts-go A B a (goes (oa.rows r).action r) q.2 in
      (R ∪ q.0, (s', q.1), rw (or_zero_r C) at (go-row (A ⊗ B) (rw (alphabet-joins A B) (or-in-l (alphabet A) (alphabet B) a (oa.rows r).action)) g))

  pub with-right : {a C R : ℕ} (s : A.State) {t t' : B.State} → A.States s → a ∈ B.outputs → B.Row t C a R t'
      → (Q : ℕ) × (y : A.State × B.State) × (A ⊗ B).Row (s, t) C a Q y
  with-right {a} {C} {R} s {t} {t'} ok o r =
      let q = go-input A ca.cond_d a (λ p. k.outputs a p o) s ok in
      let g = parts-go A B a q.2 (goes (ob.rows r).action r) in
      (q.0 ∪ R, (q.1, t'), go-row (A ⊗ B) (rw (alphabet-joins A B) (or-in-r (alphabet A) (alphabet B) a (ob.rows r).action)) g)

  product-meets-b : CondB (A ⊗ B)
  product-meets-b = record { guarded = λ {C} {a} {R} {s} {t} r o n. build o n (joint-parts A B a r) }
    where
      build : {C a R : ℕ} {s t : A.State × B.State} → a ∈ A.outputs ∪ B.outputs → (a ∈ A.urgent ∪ B.urgent → ⊥) → Parts A B a s C R t
          → (x : ℕ) × (C ≡ only x)
      build {a = a} o n p = ⊎_elim
          (λ h.
          let x = ca.cond_b.guarded (go-row A (or-in-r A.inputs A.outputs a h) p.left) h (λ u. n (or-in-l A.urgent B.urgent a u)) in
          let z = go-unguarded B a (λ v. input-unclocked B a (known-input B a (λ w. k.outputs a h w) v)) cb.cond_a p.right in
          (x.0, p.guards ∙ ap₂ ◌∪◌ x.1 z ∙ or_zero_r (only x.0)))
          (λ h.
          let x = cb.cond_b.guarded (go-row B (or-in-r B.inputs B.outputs a h) p.right) h (λ u. n (or-in-r A.urgent B.urgent a u)) in
          let z = go-unguarded A a (λ v. input-unclocked A a (known-input A a (λ w. k.outputs a w h) v)) ca.cond_a p.left in
          (x.0, p.guards ∙ ap₂ ◌∪◌ z x.1))
          (in-or A.outputs B.outputs a o)

  product-meets-d : CondD (A ⊗ B)
  product-meets-d = record {
    row = λ s ok a h.
        let i = in_without (A.inputs ∪ B.inputs) (A.outputs ∪ B.outputs) a h in
        let n = not-or A.outputs B.outputs a i.1 in
        let p = go-input A ca.cond_d a (λ v. true≢false (sym v ∙ n.0)) s.0 ok.0 in
        let q = go-input B cb.cond_d a (λ v. true≢false (sym v ∙ n.1)) s.1 ok.1 in
        (p.0 ∪ q.0, (p.1, q.1), go-row (A ⊗ B) (or-in-l (A ⊗ B).inputs (A ⊗ B).outputs a h) (parts-go A B a p.2 q.2));
  }

  product-meets-c : CondC (A ⊗ B)
  product-meets-c = record { same = λ x {C} {D} {a} {b} {R} {Q} {s} {t} {u} h g r q. build x h g (joint-parts A B a r) (joint-parts A B b q) }
    where
      build : {C D a b R Q : ℕ} {s t u : A.State × B.State} (x : ℕ) → x ∈ C → x ∈ D → Parts A B a s C R t → Parts A B b s D Q u
          → (C ≡ D) × (a ≡ b) × (R ≡ Q) × (t ≡ u)
      build {C = C} {D = D} {a = a} {b = b} {R = R} {Q = Q} {t = t} {u = u} x h g p q = sides
          (in-or p.guard₁ p.guard₂ x (rw p.guards at h))
          (in-or q.guard₁ q.guard₂ x (rw q.guards at g))
        where
          sides : (x ∈ p.guard₁) ⊎ (x ∈ p.guard₂) → (x ∈ q.guard₁) ⊎ (x ∈ q.guard₂) → (C ≡ D) × (a ≡ b) × (R ≡ Q) × (t ≡ u)
          sides (inl i) (inl j) =
              let e = one-clock A B k ca.cond_a ca.cond_c cb.inputs oa x i j p.left p.right q.left q.right in
              (p.guards ∙ ap₂ ◌∪◌ e.1 e.4 ∙ sym q.guards, e.0, p.sets ∙ ap₂ ◌∪◌ e.2 e.5 ∙ sym q.sets, λ i. (e.3 i, e.6 i))
          sides (inl i) (inr j) = absurd (k.clocks x ((go-own A oa p.left).guard x i) ((go-own B ob q.right).guard x j))
          sides (inr i) (inl j) = absurd (k.clocks x ((go-own A oa q.left).guard x j) ((go-own B ob p.right).guard x i))
          sides (inr i) (inr j) =
              let e = one-clock B A (compatible-sym A B k) cb.cond_a cb.cond_c ca.inputs ob x i j p.right p.left q.right q.left in
              (p.guards ∙ ap₂ ◌∪◌ e.4 e.1 ∙ sym q.guards, e.0, p.sets ∙ ap₂ ◌∪◌ e.5 e.2 ∙ sym q.sets, λ i. (e.6 i, e.3 i))

  -- ---- (f): the clocks active in a pair are those of either side
  module _ (fa : CondF A) (fb : CondF B) where
    abbrev active : A.State × B.State → ℕ
    active x = fa.0 x.0 ∪ fb.0 x.1

    -- a clock that guards in the pair guards in one side
    enabling-sides : (s : A.State × B.State) (x : ℕ) → Enabling (A ⊗ B) s x → Enabling A s.0 x ⊎ Enabling B s.1 x
    enabling-sides s x e = build (joint-parts A B e.action e.row) e.guards
      where
        build : {a C R : ℕ} {t : A.State × B.State} → Parts A B a s C R t → x ∈ C → Enabling A s.0 x ⊎ Enabling B s.1 x
        build {a} {C} {R} {t} p h = ⊎_elim
            (λ i. inl (record { guard = p.guard₁; action = a; resets = p.resets₁; target = t.0; guards = i; row = go-enabling A x i p.left }))
            (λ i. inr (record { guard = p.guard₂; action = a; resets = p.resets₂; target = t.1; guards = i; row = go-enabling B x i p.right }))
            (in-or p.guard₁ p.guard₂ x (rw p.guards at h))

    product-active : Active (A ⊗ B) active
    product-active = record {
      own = λ s ok. or-within (fa.0 s.0) (fb.0 s.1) A.clocks B.clocks (fa.1.own s.0 ok.0) (fb.1.own s.1 ok.1);
      first = or-within (fa.0 A.start) (fb.0 B.start) A.started B.started fa.1.first fb.1.first;
      enabled = λ s ok x e. ⊎_elim
          (λ i. or-in-l (fa.0 s.0) (fb.0 s.1) x (fa.1.enabled s.0 ok.0 x i))
          (λ i. or-in-r (fa.0 s.0) (fb.0 s.1) x (fb.1.enabled s.1 ok.1 x i))
          (enabling-sides s x e);
      equal = λ s ok st x h. ⊎_elim
          (λ i. equal-side A (A ⊗ B) s.0 s (or-in-l A.outputs B.outputs) (or-in-l A.urgent B.urgent) (λ C a R t. with-left s.1 ok.1)
          ca.cond_a oa fa.0 fa.1 ok.0 st x i)
          (λ i. equal-side B (A ⊗ B) s.1 s (or-in-r A.outputs B.outputs) (or-in-r A.urgent B.urgent) (λ C a R t. with-right s.0 ok.0)
          cb.cond_a ob fb.0 fb.1 ok.1 st x i)
          (in-or (fa.0 s.0) (fb.0 s.1) x h);
      kept = λ {C} {a} {R} {s} {t} r. handed (joint-parts A B a r);
    }
      where
        handed : {C a R : ℕ} {s t : A.State × B.State} → Parts A B a t C R s → active s ⊆ active t ∖ C ∪ R
        handed {C = C} {R = R} {s = s} {t = t} p x h = ⊎_elim
            (λ i. hand_on (fa.0 t.0) (active t) p.guard₁ C p.resets₁ R x
            (or-in-l (fa.0 t.0) (fb.0 t.1) x)
            (λ j n. rw p.guards (or-not p.guard₁ p.guard₂ x n (not_so (has p.guard₂ x) (λ w.
            k.clocks x (fa.1.own t.0 (go-own A oa p.left).from x j) ((go-own B ob p.right).guard x w)))))
            (λ j. rw p.sets (or-in-l p.resets₁ p.resets₂ x j))
            (go-kept A fa.0 fa.1 p.left x i))
            (λ i. hand_on (fb.0 t.1) (active t) p.guard₂ C p.resets₂ R x
            (or-in-r (fa.0 t.0) (fb.0 t.1) x)
            (λ j n. rw p.guards (or-not p.guard₁ p.guard₂ x (not_so (has p.guard₁ x) (λ w.
            k.clocks x ((go-own A oa p.left).guard x w) (fb.1.own t.1 (go-own B ob p.right).from x j))) n))
            (λ j. rw p.sets (or-in-r p.resets₁ p.resets₂ x j))
            (go-kept B fb.0 fb.1 p.right x i))
            (in-or (fa.0 s.0) (fb.0 s.1) x h)

  -- where the product is stable, both sides are
  pub stable-sides : (s : A.State) (t : B.State) → A.States s → B.States t → Stable (A ⊗ B) (s, t) → Stable A s × Stable B t
  stable-sides s t oks okt st = (
    stable-side A (A ⊗ B) s (s, t) (or-in-l A.outputs B.outputs) (or-in-l A.urgent B.urgent) (λ C a R y. with-left t okt) st,
    stable-side B (A ⊗ B) t (s, t) (or-in-r A.outputs B.outputs) (or-in-r A.urgent B.urgent) (λ C a R y. with-right s oks) st,
  )

  -- Proposition 4.1, without the house rule
  pub product-keeps-constraints : Constraints (A ⊗ B)
  product-keeps-constraints = record {
    cond_a = product-meets-a;
    cond_b = product-meets-b;
    cond_c = product-meets-c;
    cond_d = product-meets-d;
    inputs = product-meets-e;
    cond_f = (active ca.cond_f cb.cond_f, product-active ca.cond_f cb.cond_f);
  }

-- the house rule
pub product-keeps-house-rule : (A B : Automaton) → Compatible A B → CondE A → CondE B → CondE (A ⊗ B)
product-keeps-house-rule A B k ea eb =
    let e = product-one-row A B ((A ⊗ B).inputs ∪ (A ⊗ B).urgent) (A.inputs ∪ A.urgent) (B.inputs ∪ B.urgent)
    (unclocked-left A B k) (unclocked-right A B k) (record { same = ea.same }) (record { same = eb.same }) in
    record { same = e.same }

-- Proposition 4.1, with the house rule
pub product-is-an-automaton : (A B : Automaton) → Compatible A B → Conditions A → Conditions B → OwnNames A → OwnNames B → Conditions (A ⊗ B)
product-is-an-automaton A B k ca cb oa ob =
    let c = product-keeps-constraints A B k (conditions-constraints A ca) (conditions-constraints B cb) oa ob in
    record {
      cond_a = c.cond_a;
      cond_b = c.cond_b;
      cond_c = c.cond_c;
      cond_d = c.cond_d;
      cond_e = product-keeps-house-rule A B k ca.cond_e cb.cond_e;
      cond_f = c.cond_f;
    }
