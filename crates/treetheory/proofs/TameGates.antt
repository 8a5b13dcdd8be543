-- AND, OR and PAND keep colours: antt computes their moves from every state, two by two.
use mathlib.Core.Path.{◌≡◌, refl, sym, ◌∙◌, ap}
use mathlib.Core.Logic.{◌≢◌}
use mathlib.Core.Option.{Option, none, some, some_inj}
use mathlib.Core.Bool.{Bool, true, false, false≢true, true≢false, ◌&&◌, not, cond}
use Prim.Native.Nat.{ℕ, ◌/◌, ◌%◌, ◌<◌}
use native.Mathlib.Omega.{arith}
use lib.Dec.{eqb}
use lib.ListN.{get_or}
use borrow.Author.Tests.{eqb-true, ne_eqb}
use Rattle.laws.specs.Fold.{all, all_from}
use Rattle.laws.specs.Search.{is_some, map_some}
use Rattle.laws.proofs.FoldLaws.{all_true}
use Rattle.laws.proofs.SearchLaws.{no-some}
use Rattle.laws.proofs.TestLaws.{and-true}
use Rattle.trees.specs.Module.{Move, is_uout}
use Rattle.trees.specs.Tree.{Element, Signal, fl, up, f, u, r, Meaning}
use Rattle.trees.specs.Modules.{plain_move, bound, GateRole, own-f, own-u, f0, u0, f1, u1, tick, gate_kind, told, ticked, gate_role, pand_role, count_move, pand_move}
use Rattle.trees.proofs.Gates.{every_role, at-role}
use Rattle.trees.proofs.Owners.{is_urgent}
use Rattle.treetheory.proofs.Colours.{code_of, told_as, same, alike, Peaceful, failures, mendings, order-left, order-right}
use Rattle.treetheory.proofs.Roles.{TameRoles, map-some, map-none}

-- ---- the signal of an urgent role, and the element it comes from
-- a failure, or else a repair
abbrev pub fails : GateRole → Bool
fails own-f = true
fails own-u = false
fails f0 = true
fails u0 = false
fails f1 = true
fails u1 = false
fails tick = true

abbrev pub source : Element → GateRole → ℕ
source e own-f = e.number
source e own-u = e.number
source e f0 = get_or e.ins 0 0
source e u0 = get_or e.ins 0 0
source e f1 = get_or e.ins 1 0
source e u1 = get_or e.ins 1 0
source e tick = 0

pub record From (e : Element) (x : Meaning) (p : GateRole) : Type 0 where
  pub of : x.of ≡ source e p
  pub signal : x.signal ≡ told_as (fails p)

told-from : (e : Element) (x : Meaning) (a b p : GateRole) (v : ℕ) → x.of ≡ v → source e a ≡ v → source e b ≡ v → fails a ≡ true → fails b ≡ false
    → (s : Signal) → x.signal ≡ s → told a b s ≡ some p → From e x p
told-from e x a b p v w ea eb fa fb fl h k = absurd (no-some refl k)
told-from e x a b p v w ea eb fa fb up h k = absurd (no-some refl k)
told-from e x a b p v w ea eb fa fb f h k = let z : a ≡ p = some_inj.0 k in rw (← z) (record { of = w ∙ sym ea; signal = h ∙ ap told_as (sym fa) })
told-from e x a b p v w ea eb fa fb u h k = let z : b ≡ p = some_inj.0 k in rw (← z) (record { of = w ∙ sym eb; signal = h ∙ ap told_as (sym fb) })
told-from e x a b p v w ea eb fa fb r h k = absurd (no-some refl k)

pub gate-from : (e : Element) (x : Meaning) (p : GateRole) → gate_role e x ≡ some p → From e x p
unfolding gate_role
gate-from e x p h = go (eqb x.of e.number) (eqb x.of (get_or e.ins 0 0)) (eqb x.of (get_or e.ins 1 0)) refl refl refl h
  where
    go : (b c d : Bool) → eqb x.of e.number ≡ b → eqb x.of (get_or e.ins 0 0) ≡ c → eqb x.of (get_or e.ins 1 0) ≡ d
        → cond b (told own-f own-u x.signal) (cond c (told f0 u0 x.signal) (cond d (told f1 u1 x.signal) none)) ≡ some p → From e x p
    go true c d i j k h = told-from e x own-f own-u p e.number (eqb-true x.of e.number i) refl refl refl refl x.signal refl h
    go false true d i j k h = told-from e x f0 u0 p (get_or e.ins 0 0) (eqb-true x.of (get_or e.ins 0 0) j) refl refl refl refl x.signal refl h
    go false false true i j k h = told-from e x f1 u1 p (get_or e.ins 1 0) (eqb-true x.of (get_or e.ins 1 0) k) refl refl refl refl x.signal refl h
    go false false false i j k h = absurd (no-some refl h)

pub pand-from : (e : Element) (x : Meaning) (p : GateRole) → pand_role e x ≡ some p → is_urgent (gate_kind p) ≡ true → From e x p
unfolding pand_role
pand-from e x p h n = go x.signal h
  where
    never : tick ≡ p → ⊥
    never z = false≢true (ap (λ q. is_urgent (gate_kind q)) z ∙ n)

    go : (s : Signal) → (elim (ticked s) as (λ _. Option GateRole) [ some t ↦ some t | none ↦ gate_role e x ]) ≡ some p → From e x p
    go fl h = absurd (never (some_inj.0 h))
    go up h = absurd (never (some_inj.0 h))
    go f h = gate-from e x p h
    go u h = gate-from e x p h
    go r h = gate-from e x p h

-- ---- roles told apart
abbrev place : GateRole → ℕ
place own-f = 0
place own-u = 1
place f0 = 2
place u0 = 3
place f1 = 4
place u1 = 5
place tick = 6

abbrev placed : ℕ → GateRole
placed n = cond (eqb n 0) own-f (cond (eqb n 1) own-u (cond (eqb n 2) f0 (cond (eqb n 3) u0 (cond (eqb n 4) f1 (cond (eqb n 5) u1 tick)))))

placed-place : (p : GateRole) → placed (place p) ≡ p
placed-place own-f = refl
placed-place own-u = refl
placed-place f0 = refl
placed-place u0 = refl
placed-place f1 = refl
placed-place u1 = refl
placed-place tick = refl

places-differ : (p q : GateRole) → p ≢ q → eqb (place p) (place q) ≡ false
places-differ p q ne = ne_eqb (place p) (place q) (λ w. ne (sym (placed-place p) ∙ ap placed w ∙ placed-place q))

-- ---- the tests
abbrev meeting : Option ℕ → Option ℕ → Bool
meeting none o = false
meeting (some x) none = false
meeting (some x) (some y) = eqb x y

module _ (to : ℕ → GateRole → Option ℕ) where
  -- nothing is told at the start
  unfoldable silent : GateRole → Bool
  silent q = not (is_uout (some (gate_kind q)) && is_some (to 0 q))

  -- if q gets enabled by p, both are urgent and alike
  unfoldable kept : ℕ → GateRole → GateRole → Bool
  kept s p q =
      cond (is_uout (some (gate_kind q)) && (is_some (bound (to s p) (λ v. to v q)) && not (is_some (to s q))))
      (is_urgent (gate_kind p) && same (fails p) (fails q)) true

  -- two different urgent actions that are alike meet again
  unfoldable met : ℕ → GateRole → GateRole → Bool
  met s p q =
      cond (not (eqb (place p) (place q)) && (is_urgent (gate_kind p)
      && (is_urgent (gate_kind q) && (same (fails p) (fails q) && (is_some (to s p) && is_some (to s q))))))
      (meeting (bound (to s p) (λ v. to v q)) (bound (to s q) (λ v. to v p))) true

  unfoldable tamed : ℕ → Bool
  tamed n = every_role silent && all (λ s. every_role (λ p. every_role (λ q. kept s p q && met s p q))) 0 n

abbrev count_to : ℕ → ℕ → GateRole → Option ℕ
count_to n s = count_move n (s / 6) (s / 3 % 2) (s % 3)

abbrev pand_to : ℕ → GateRole → Option ℕ
pand_to s = pand_move (s / 10) (s / 5 % 2) (s % 5)

and-tamed : tamed (count_to 2) 12 ≡ true
unfolding tamed every_role silent kept met all all_from
and-tamed = refl

or-tamed : tamed (count_to 1) 12 ≡ true
unfolding tamed every_role silent kept met all all_from
or-tamed = refl

pand-tamed : tamed pand_to 20 ≡ true
unfolding tamed every_role silent kept met all all_from
pand-tamed = refl

-- ---- and what they tell
met_at : (o i : Option ℕ) → meeting o i ≡ true → (x : ℕ) × (o ≡ some x) × (i ≡ some x)
met_at none i e = absurd (false≢true e)
met_at (some x) none e = absurd (false≢true e)
met_at (some x) (some y) e = (x, refl, ap some (sym (eqb-true x y e)))

both-fail : (b : Bool) → f ≡ told_as b → b ≡ true
both-fail true e = refl
both-fail false e = absurd (omega (arith, ap code_of e))

both-mend : (b : Bool) → u ≡ told_as b → b ≡ false
both-mend true e = absurd (omega (arith, ap code_of e))
both-mend false e = refl

never_r : (b : Bool) → r ≡ told_as b → ⊥
never_r true e = omega (arith, ap code_of e)
never_r false e = omega (arith, ap code_of e)

peaceful-same : (b c : Bool) {x y : Signal} → x ≡ told_as b → y ≡ told_as c → Peaceful x y → same b c ≡ true
peaceful-same b c i j (failures p q) = rw (both-fail b (sym p ∙ i), both-fail c (sym q ∙ j))
peaceful-same b c i j (mendings p q) = rw (both-mend b (sym p ∙ i), both-mend c (sym q ∙ j))
peaceful-same b c i j (order-left p q) = absurd (never_r b (sym p ∙ i))
peaceful-same b c i j (order-right p q) = absurd (never_r c (sym q ∙ j))

module _ (e : Element) (g : Meaning → Option GateRole) (from : (x : Meaning) (p : GateRole) → g x ≡ some p → is_urgent (gate_kind p) ≡ true → From e x p)
    (n : ℕ) (to : ℕ → GateRole → Option ℕ) (h : tamed to n ≡ true) where
  abbrev moved : ℕ → GateRole → Option Move
  moved s p = map_some plain_move (to s p)

  halves : (every_role (silent to) ≡ true) × (all (λ s. every_role (λ p. every_role (λ q. kept to s p q && met to s p q))) 0 n ≡ true)
  unfolding tamed
  halves = and-true (every_role (silent to)) _ h

  pair : (s : ℕ) (p q : GateRole) → s < n → (kept to s p q ≡ true) × (met to s p q ≡ true)
  pair s p q k =
      let a = all_true (λ s. every_role (λ p. every_role (λ q. kept to s p q && met to s p q))) 0 n halves.1 s (omega arith) k in
      let b = at-role (λ p. every_role (λ q. kept to s p q && met to s p q)) a p in
      and-true (kept to s p q) (met to s p q) (at-role (λ q. kept to s p q && met to s p q) b q)

  no-telling : (q : GateRole) (v : ℕ) → is_uout (some (gate_kind q)) ≡ true → to 0 q ≡ some v → ⊥
  unfolding silent
  no-telling q v o k = let z = at-role (silent to) halves.0 q in false≢true (rw (o, k) at z)

  keeping : (s : ℕ) (p q : GateRole) (v w : ℕ) → s < n → is_uout (some (gate_kind q)) ≡ true → to s p ≡ some v → to v q ≡ some w → to s q ≡ none
      → (is_urgent (gate_kind p) ≡ true) × (fails p ≡ fails q)
  unfolding kept
  keeping s p q v w k o i j l =
      let z = (pair s p q k).0 in
      let y = and-true (is_urgent (gate_kind p)) (same (fails p) (fails q)) (rw (o, i, j, l) at z) in
      (y.0, alike (fails p) (fails q) y.1)

  meet-again : (s : ℕ) (p q : GateRole) (v w : ℕ) → s < n → p ≢ q → is_urgent (gate_kind p) ≡ true → is_urgent (gate_kind q) ≡ true
      → same (fails p) (fails q) ≡ true
      → to s p ≡ some v → to s q ≡ some w → (x : ℕ) × (to v q ≡ some x) × (to w p ≡ some x)
  unfolding met
  meet-again s p q v w k ne a b c i j =
      let z = (pair s p q k).1 in
      let d = places-differ p q ne in
      met_at (to v q) (to w p) (rw (d, a, b, c, i, j) at z)

  gate-roles : TameRoles g gate_kind n moved
  gate-roles = record {
    single = λ {x} {y} {p} i j a.
        let k = from x p i a in
        let l = from y p j a in
        (k.of ∙ sym l.of, k.signal ∙ sym l.signal);
    quiet = λ {q} {v} o i. let k = map-some plain_move (to 0 q) i in no-telling q k.0 o k.1;
    keeps = λ {x} {y} {p} {q} {s} {v} {w} k i j a o c d l.
        let c1 = map-some plain_move (to s p) c in
        let d1 = map-some plain_move (to v.target q) d in
        let z = keeping s p q c1.0 d1.0 k o c1.1 (ap (λ (m : Move). to m.target q) (sym c1.2) ∙ d1.1) (map-none plain_move (to s q) l) in
        (from x p i a).signal ∙ ap told_as z.1 ∙ sym (from y q j (out-urgent q o)).signal;
    wakes = λ {x} {y} {p} {q} {s} {v} {w} k i j a o c d l.
        let c1 = map-some plain_move (to s p) c in
        let d1 = map-some plain_move (to v.target q) d in
        let z = keeping s p q c1.0 d1.0 k o c1.1 (ap (λ (m : Move). to m.target q) (sym c1.2) ∙ d1.1) (map-none plain_move (to s q) l) in
        absurd (true≢false (sym z.0 ∙ a));
    meets = λ {x} {y} {p} {q} {s} {v} {w} k i j a b ne pe c d.
        let c1 = map-some plain_move (to s p) c in
        let d1 = map-some plain_move (to s q) d in
        let z =
        meet-again s p q c1.0 d1.0 k ne a b (peaceful-same (fails p) (fails q) (from x p i a).signal (from y q j b).signal pe) c1.1 d1.1 in
        record {
          left = plain_move z.0;
          right = plain_move z.0;
          goes_left = ap (λ (m : Move). moved m.target q) c1.2 ∙ ap (map_some plain_move) z.1;
          goes-right = ap (λ (m : Move). moved m.target p) d1.2 ∙ ap (map_some plain_move) z.2;
          guard-left = refl;
          guard-right = refl;
          resets-left = sym (ap (λ (m : Move). m.resets) d1.2);
          resets-right = sym (ap (λ (m : Move). m.resets) c1.2);
          target = refl;
        };
  }
    where
      out-urgent : (q : GateRole) → is_uout (some (gate_kind q)) ≡ true → is_urgent (gate_kind q) ≡ true
      out-urgent own-f o = refl
      out-urgent own-u o = refl
      out-urgent f0 o = refl
      out-urgent u0 o = refl
      out-urgent f1 o = refl
      out-urgent u1 o = refl
      out-urgent tick o = absurd (false≢true o)

pub and-roles : (e : Element) → TameRoles (gate_role e) gate_kind 12 (λ s p. map_some plain_move (count_move 2 (s / 6) (s / 3 % 2) (s % 3) p))
and-roles e = gate-roles e (gate_role e) (λ x p i a. gate-from e x p i) 12 (count_to 2) and-tamed

pub or-roles : (e : Element) → TameRoles (gate_role e) gate_kind 12 (λ s p. map_some plain_move (count_move 1 (s / 6) (s / 3 % 2) (s % 3) p))
or-roles e = gate-roles e (gate_role e) (λ x p i a. gate-from e x p i) 12 (count_to 1) or-tamed

pub pand-roles : (e : Element) → TameRoles (pand_role e) gate_kind 20 (λ s p. map_some plain_move (pand_move (s / 10) (s / 5 % 2) (s % 5) p))
pand-roles e = gate-roles e (pand_role e) (λ x p i a. pand-from e x p i a) 20 pand_to pand-tamed
