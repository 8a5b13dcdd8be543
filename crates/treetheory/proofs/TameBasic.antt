-- A basic element keeps colours: an order touches only what is broken, telling only what is to be told.
use mathlib.Core.Path.{◌≡◌, refl, sym, ◌∙◌, ap}
use mathlib.Core.Logic.{◌≢◌, ◌⊎◌, inl, inr, ⊎_elim}
use mathlib.Core.Option.{Option, none, some, some_inj}
use mathlib.Core.Bool.{Bool, true, false, false≢true, true≢false, cond}
use Prim.Native.Nat.{ℕ, ◌+◌, ◌*◌, ◌/◌, ◌%◌, ◌≤◌, ◌<◌}
use native.Mathlib.Omega.{arith}
use lib.Dec.{eqb}
use borrow.Author.Tests.{eqb-true}
use Rattle.laws.specs.Sets.{only}
use Rattle.laws.proofs.SearchLaws.{no-some}
use Rattle.trees.specs.Module.{Move, is_uout}
use Rattle.trees.specs.Tree.{Element, Signal, fl, up, f, u, r, Meaning}
use Rattle.trees.specs.Modules.{plain_move, be_state, be_kind, be_move, be_role}
use Rattle.trees.proofs.Basic.{when-some}
use Rattle.trees.proofs.Owners.{is_urgent, urgent_signal}
use Rattle.treetheory.proofs.Colours.{Wakes, failure-told, repair-told, Peaceful, failures, mendings, order-left, order-right}
use Rattle.treetheory.proofs.Roles.{Meet, TameRoles}

pub be-from : (e : Element) (x : Meaning) (p : Signal) → be_role e x ≡ some p → (x.of ≡ e.number) × (x.signal ≡ p)
unfolding be_role
be-from e x p h = let w = when-some (eqb x.of e.number) x.signal h in (eqb-true x.of e.number w.0, w.1)

module _ (k : ℕ) where
  -- ---- f and u are enabled where `signal` says so
  abbrev code : Signal → ℕ
  code fl = 3
  code up = 3
  code f = 1
  code u = 2
  code r = 3

  telling : (q : Signal) (signal broken : ℕ) (w : Move) → is_uout (some (be_kind q)) ≡ true → be_move k signal broken q ≡ some w
      → (signal ≡ code q) × (1 ≤ signal) × (plain_move (be_state 0 broken) ≡ w)
  telling fl signal broken w o e = absurd (false≢true o)
  telling up signal broken w o e = absurd (false≢true o)
  telling f signal broken w o e = let p = when-some (eqb signal 1) _ e in let z = eqb-true signal 1 p.0 in (z, omega (arith, z), p.1)
  telling u signal broken w o e = let p = when-some (eqb signal 2) _ e in let z = eqb-true signal 2 p.0 in (z, omega (arith, z), p.1)
  telling r signal broken w o e = absurd (false≢true o)

  tells : (q : Signal) (broken : ℕ) → is_uout (some (be_kind q)) ≡ true → be_move k (code q) broken q ≡ some (plain_move (be_state 0 broken))
  tells fl broken o = absurd (false≢true o)
  tells up broken o = absurd (false≢true o)
  tells f broken o = refl
  tells u broken o = refl
  tells r broken o = absurd (false≢true o)

  -- ---- r, one way to write it
  abbrev onward : ℕ → ℕ
  onward broken = cond (eqb broken 1) 2 broken

  abbrev order : ℕ → ℕ → Move
  order signal broken = record { guard = 0; resets = cond (eqb broken 1) (only (2 * k + 1)) 0; target = be_state signal (onward broken) }

  orders : (signal broken : ℕ) → be_move k signal broken r ≡ some (order signal broken)
  orders signal broken = go (eqb broken 1)
    where
      go : (b : Bool)
          → ◌≡◌ {A =
          Option Move} (some (cond b (record { guard = 0; resets = only (2 * k + 1); target = be_state signal 2 })
          (plain_move (be_state signal broken))))
          (some (record { guard = 0; resets = cond b (only (2 * k + 1)) 0; target = be_state signal (cond b 2 broken) }))
      go true = refl
      go false = refl

  onward-below : (broken : ℕ) → broken < 3 → onward broken < 3
  onward-below broken h = go (eqb broken 1)
    where
      go : (b : Bool) → cond b 2 broken < 3
      go true = omega arith
      go false = h

  -- ---- what is to be told after an urgent action: nothing, or what was before
  after : (p : Signal) (signal broken : ℕ) (v : Move) → is_urgent (be_kind p) ≡ true → broken < 3 → be_move k signal broken p ≡ some v
      → (v.target / 3 ≡ 0) ⊎ (v.target / 3 ≡ signal)
  after fl signal broken v a h e = absurd (false≢true a)
  after up signal broken v a h e = absurd (false≢true a)
  after f signal broken v a h e = let z = ap (λ (m : Move). m.target) (telling f signal broken v refl e).2 in inl (omega (arith, z, h))
  after u signal broken v a h e = let z = ap (λ (m : Move). m.target) (telling u signal broken v refl e).2 in inl (omega (arith, z, h))
  after r signal broken v a h e =
      let y : order signal broken ≡ v = some_inj.0 (sym (orders signal broken) ∙ e) in
      let z = ap (λ (m : Move). m.target) y in
      let l = onward-below broken h in
      inr (omega (arith, z, l))

  -- so nothing is triggered
  untouched : (p q : Signal) (s : ℕ) (v w : Move) → is_urgent (be_kind p) ≡ true → is_uout (some (be_kind q)) ≡ true → be_move k (s / 3) (s % 3) p ≡ some v
      → be_move k (v.target / 3) (v.target % 3) q ≡ some w → be_move k (s / 3) (s % 3) q ≡ none → ⊥
  untouched p q s v w a o d e n =
      let x = telling q (v.target / 3) (v.target % 3) w o e in
      ⊎_elim
      (λ z. omega (arith, z, x.1))
      (λ z. no-some n (ap (λ y. be_move k y (s % 3) q) (sym z ∙ x.0) ∙ tells q (s % 3) o))
      (after p (s / 3) (s % 3) v a (omega arith) d)

  waking : (p q : Signal) (s : ℕ) (v w : Move) → is_urgent (be_kind p) ≡ false → is_uout (some (be_kind q)) ≡ true → be_move k (s / 3) (s % 3) p ≡ some v
      → be_move k (v.target / 3) (v.target % 3) q ≡ some w → Wakes p q
  waking fl q s v w a o d e = by-failure q o (telling q (v.target / 3) (v.target % 3) w o e).0
    where
      by-failure : (q : Signal) → is_uout (some (be_kind q)) ≡ true → v.target / 3 ≡ code q → Wakes fl q
      by-failure fl o z = absurd (false≢true o)
      by-failure up o z = absurd (false≢true o)
      by-failure f o z = failure-told refl refl
      by-failure u o z = let y = ap (λ (m : Move). m.target) (when-some (eqb (s % 3) 0) _ d).1 in absurd (omega (arith, y, z))
      by-failure r o z = absurd (false≢true o)
  waking up q s v w a o d e = by-repair q o (telling q (v.target / 3) (v.target % 3) w o e).0
    where
      by-repair : (q : Signal) → is_uout (some (be_kind q)) ≡ true → v.target / 3 ≡ code q → Wakes up q
      by-repair fl o z = absurd (false≢true o)
      by-repair up o z = absurd (false≢true o)
      by-repair f o z = let y = ap (λ (m : Move). m.target) (when-some (eqb (s % 3) 2) _ d).1 in absurd (omega (arith, y, z))
      by-repair u o z = repair-told refl refl
      by-repair r o z = absurd (false≢true o)
  waking f q s v w a o d e = absurd (true≢false a)
  waking u q s v w a o d e = absurd (true≢false a)
  waking r q s v w a o d e = absurd (true≢false a)

  -- ---- telling and an order, in either order
  module _ (e : Element) where
    abbrev to : ℕ → Signal → Option Move
    to s = be_move k (s / 3) (s % 3)

    abbrev Meets : Signal → Signal → Move → Move → Type 0
    Meets p q v w = Meet (be_role e) be_kind 9 to p q v w

    turned : {p q : Signal} {v w : Move} → Meets p q v w → Meets q p w v
    turned x = record {
      left = x.right;
      right = x.left;
      goes_left = x.goes-right;
      goes-right = x.goes_left;
      guard-left = x.guard-right;
      guard-right = x.guard-left;
      resets-left = x.resets-right;
      resets-right = x.resets-left;
      target = sym x.target;
    }

    told-and-ordered : (q : Signal) (s : ℕ) (v w : Move) → is_uout (some (be_kind q)) ≡ true → to s q ≡ some v → to s r ≡ some w → Meets q r v w
    told-and-ordered q s v w o c d =
        let x = telling q (s / 3) (s % 3) v o c in
        let y : order (s / 3) (s % 3) ≡ w = some_inj.0 (sym (orders (s / 3) (s % 3)) ∙ d) in
        let tv = ap (λ (m : Move). m.target) x.2 in
        let tw = ap (λ (m : Move). m.target) y in
        let b : s % 3 < 3 = omega arith in
        let l = onward-below (s % 3) b in
        let v0 : v.target / 3 ≡ 0 = omega (arith, tv, b) in
        let v1 : v.target % 3 ≡ s % 3 = omega (arith, tv, b) in
        let w0 : w.target / 3 ≡ code q = (let z : w.target / 3 ≡ s / 3 = omega (arith, tw, l) in z ∙ x.0) in
        let w1 : w.target % 3 ≡ onward (s % 3) = omega (arith, tw, l) in
        record {
          left = order 0 (s % 3);
          right = plain_move (be_state 0 (onward (s % 3)));
          goes_left = orders (v.target / 3) (v.target % 3) ∙ ap (λ n. some (order n (v.target % 3))) v0 ∙ ap (λ n. some (order 0 n)) v1;
          goes-right = ap (λ n. be_move k n (w.target % 3) q) w0 ∙ tells q (w.target % 3) o ∙ ap (λ n. some (plain_move (be_state 0 n))) w1;
          guard-left = refl;
          guard-right = refl;
          resets-left = ap (λ (m : Move). m.resets) y;
          resets-right = ap (λ (m : Move). m.resets) x.2;
          target = refl;
        }

    other : (q : Signal) → urgent_signal q ≡ true → q ≢ r → is_uout (some (be_kind q)) ≡ true
    other fl a ne = absurd (false≢true a)
    other up a ne = absurd (false≢true a)
    other f a ne = refl
    other u a ne = refl
    other r a ne = absurd (ne refl)

    -- of two signals that are at peace and differ, one is r and the other f or u
    meeting : (p q : Signal) (s : ℕ) (v w : Move) → p ≢ q → Peaceful p q → to s p ≡ some v → to s q ≡ some w → Meets p q v w
    meeting p q s v w ne (failures i j) c d = absurd (ne (i ∙ sym j))
    meeting p q s v w ne (mendings i j) c d = absurd (ne (i ∙ sym j))
    meeting p q s v w ne (order-left i j) c d =
        turned (rw i (told-and-ordered q s w v (other q j (λ z. ne (i ∙ sym z))) d (ap (to s) (sym i) ∙ c)))
    meeting p q s v w ne (order-right i j) c d =
        rw j (told-and-ordered p s v w (other p i (λ z. ne (z ∙ sym j))) c (ap (to s) (sym j) ∙ d))

    pub be-roles : TameRoles (be_role e) be_kind 9 to
    be-roles = record {
      single = λ {x} {y} {p} i j a.
          let c = be-from e x p i in
          let d = be-from e y p j in
          (c.0 ∙ sym d.0, c.1 ∙ sym d.1);
      quiet = λ {q} {v} o i. let x = telling q 0 0 v o i in omega (arith, x.1);
      keeps = λ {x} {y} {p} {q} {s} {v} {w} h i j a o c d n. absurd (untouched p q s v w a o c d n);
      wakes = λ {x} {y} {p} {q} {s} {v} {w} h i j a o c d n. rw ((be-from e x p i).1, (be-from e y q j).1) (waking p q s v w a o c d);
      meets = λ {x} {y} {p} {q} {s} {v} {w} h i j a b ne pe c d. meeting p q s v w ne (rw ((be-from e x p i).1, (be-from e y q j).1) at pe) c d;
    }
