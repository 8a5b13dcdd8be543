-- A repair box keeps colours: an order makes it busy, and no two orders are enabled in one state.
use mathlib.Core.Path.{◌≡◌, refl, sym, ◌∙◌, ap}
use mathlib.Core.Logic.{◌≢◌}
use mathlib.Core.Option.{Option, none, some, some_inj}
use mathlib.Core.Bool.{Bool, true, false, false≢true, true≢false, ◌&&◌, not}
use mathlib.Core.List.{List, [], ◌∷◌}
use Prim.Native.Nat.{ℕ, suc, ◌-◌, ◌^◌, ◌<◌}
use lib.Dec.{eqb}
use lib.ListN.{length, get_or}
use borrow.Author.Tests.{eqb-true, not-true}
use Rattle.laws.specs.Sets.{has, ◌∪◌, only}
use Rattle.laws.specs.Search.{map_some, any}
use Rattle.laws.proofs.SetLaws.{or-in-r, in_one, none_in}
use Rattle.laws.proofs.SearchLaws.{no-some, any_false}
use Rattle.laws.proofs.TestLaws.{and-true, apart-cases}
use Rattle.trees.specs.Module.{Move, is_uout}
use Rattle.trees.specs.Tree.{Element, Signal, fl, up, f, u, r, Meaning}
use Rattle.trees.specs.Modules.{plain_move, BoxRole, box-fl, box-up, box-r, box_kind, box_move, box_hears, box_role, place_of}
use Rattle.trees.proofs.Basic.{when-some}
use Rattle.trees.proofs.Owners.{is_urgent}
use Rattle.treetheory.proofs.Colours.{Wakes, failure-ordered, repair-ordered}
use Rattle.treetheory.proofs.Roles.{TameRoles, map-some}

-- ---- a role's signal and place
abbrev pub heard_as : BoxRole → Signal
heard_as (box-fl i) = fl
heard_as (box-up i) = up
heard_as (box-r i) = r

abbrev pub index_of : BoxRole → ℕ
index_of (box-fl i) = i
index_of (box-up i) = i
index_of (box-r i) = i

pub record From (e : Element) (x : Meaning) (p : BoxRole) : Type 0 where
  pub place : place_of x.of e.ins ≡ some (index_of p)
  pub signal : x.signal ≡ heard_as p

pub box-from : (e : Element) (x : Meaning) (p : BoxRole) → box_role e x ≡ some p → From e x p
unfolding box_role
box-from e x p h = go (place_of x.of e.ins) refl h
  where
    by-signal : (s : Signal) (i : ℕ) → x.signal ≡ s → place_of x.of e.ins ≡ some i → box_hears s i ≡ some p → From e x p
    by-signal fl i w k h = let z : box-fl i ≡ p = some_inj.0 h in rw (← z) (record { place = k; signal = w })
    by-signal up i w k h = let z : box-up i ≡ p = some_inj.0 h in rw (← z) (record { place = k; signal = w })
    by-signal f i w k h = absurd (no-some refl h)
    by-signal u i w k h = absurd (no-some refl h)
    by-signal r i w k h = let z : box-r i ≡ p = some_inj.0 h in rw (← z) (record { place = k; signal = w })

    go : (o : Option ℕ) → place_of x.of e.ins ≡ o → (elim o as (λ _. Option BoxRole) [ none ↦ none | some i ↦ box_hears x.signal i ]) ≡ some p
        → From e x p
    go none k h = absurd (no-some refl h)
    go (some i) k h = by-signal x.signal i refl k h

-- the place tells what stands there
pub place-tells : (v : ℕ) (xs : List ℕ) (i : ℕ) → place_of v xs ≡ some i → get_or xs i 0 ≡ v
unfolding place_of
place-tells v [] i e = absurd (no-some refl e)
place-tells v (x ∷ xs) i e = go (place-tells v xs) (eqb v x) refl e
  where
    go : ((j : ℕ) → place_of v xs ≡ some j → get_or xs j 0 ≡ v) → (b : Bool) → eqb v x ≡ b
        → (elim b as (λ _. Option ℕ) [ true ↦ some 0 | false ↦ map_some suc (place_of v xs) ]) ≡ some i → get_or (x ∷ xs) i 0 ≡ v
    go ih true w e = let z : 0 ≡ i = some_inj.0 e in rw (← z) (sym (eqb-true v x w))
    go ih false w e = let k = map-some suc (place_of v xs) e in rw k.2 (ih k.0 k.1)

-- ---- an order
pub record Ordered (n s i t : ℕ) : Type 0 where
  pub idle : has s 0 ≡ false
  pub broken : has s (n - i) ≡ true
  pub first : any (λ j. has s (n - j)) i ≡ false
  pub target : s ∪ only 0 ≡ t

pub ordered : (n s i t : ℕ) → box_move n s (box-r i) ≡ some t → Ordered n s i t
ordered n s i t e =
    let w = when-some (not (has s 0) && (has s (n - i) && not (any (λ j. has s (n - j)) i))) (s ∪ only 0) e in
    let p = and-true (not (has s 0)) (has s (n - i) && not (any (λ j. has s (n - j)) i)) w.0 in
    let q = and-true (has s (n - i)) (not (any (λ j. has s (n - j)) i)) p.1 in
    record { idle = not-true (has s 0) p.0; broken = q.0; first = not-true (any (λ j. has s (n - j)) i) q.1; target = w.1 }

module _ (n : ℕ) where
  quiet : (q : BoxRole) (t : ℕ) → is_uout (some (box_kind q)) ≡ true → box_move n 0 q ≡ some t → ⊥
  quiet (box-fl i) t o e = false≢true o
  quiet (box-up i) t o e = false≢true o
  quiet (box-r i) t o e = none_in (n - i) (ordered n 0 i t e).broken

  -- busy, a box orders nothing
  busy : (p q : BoxRole) (s t w : ℕ) → is_urgent (box_kind p) ≡ true → is_uout (some (box_kind q)) ≡ true → box_move n s p ≡ some t → box_move n t q ≡ some w → ⊥
  busy (box-fl i) q s t w a o d e = false≢true a
  busy (box-up i) q s t w a o d e = false≢true a
  busy (box-r i) (box-fl j) s t w a o d e = false≢true o
  busy (box-r i) (box-up j) s t w a o d e = false≢true o
  busy (box-r i) (box-r j) s t w a o d e =
      let x = ordered n s i t d in
      true≢false (sym (or-in-r s (only 0) 0 (in_one 0)) ∙ ap (λ y. has y 0) x.target ∙ (ordered n t j w e).idle)

  waking : (p q : BoxRole) {a b : Signal} → a ≡ heard_as p → b ≡ heard_as q → is_urgent (box_kind p) ≡ false → is_uout (some (box_kind q)) ≡ true → Wakes a b
  waking (box-fl i) (box-fl j) d e h o = absurd (false≢true o)
  waking (box-fl i) (box-up j) d e h o = absurd (false≢true o)
  waking (box-fl i) (box-r j) d e h o = failure-ordered d e
  waking (box-up i) (box-fl j) d e h o = absurd (false≢true o)
  waking (box-up i) (box-up j) d e h o = absurd (false≢true o)
  waking (box-up i) (box-r j) d e h o = repair-ordered d e
  waking (box-r i) q d e h o = absurd (true≢false h)

  earlier : (s i j t w : ℕ) → i < j → box_move n s (box-r i) ≡ some t → box_move n s (box-r j) ≡ some w → ⊥
  earlier s i j t w h d e = true≢false (sym (ordered n s i t d).broken ∙ any_false (λ k. has s (n - k)) j (ordered n s j w e).first i h)

  -- two orders of one state are one
  one-order : (p q : BoxRole) (s t w : ℕ) → is_urgent (box_kind p) ≡ true → is_urgent (box_kind q) ≡ true → p ≢ q → box_move n s p ≡ some t → box_move n s q ≡ some w
      → ⊥
  one-order (box-fl i) q s t w a b ne d e = false≢true a
  one-order (box-up i) q s t w a b ne d e = false≢true a
  one-order (box-r i) (box-fl j) s t w a b ne d e = false≢true b
  one-order (box-r i) (box-up j) s t w a b ne d e = false≢true b
  one-order (box-r i) (box-r j) s t w a b ne d e = apart-cases i j (λ z. ne (ap box-r z)) (λ h. earlier s i j t w h d e) (λ h. earlier s j i w t h e d)

module _ (e : Element) where
  abbrev n : ℕ
  n = length e.ins

  pub box-roles : TameRoles (box_role e) box_kind (2 ^ suc (length e.ins)) (λ s p. map_some plain_move (box_move (length e.ins) s p))
  box-roles = record {
    single = λ {x} {y} {p} i j a.
        let k = box-from e x p i in
        let l = box-from e y p j in
        (sym (place-tells x.of e.ins (index_of p) k.place) ∙ place-tells y.of e.ins (index_of p) l.place, k.signal ∙ sym l.signal);
    quiet = λ {q} o i. let k = map-some plain_move (box_move n 0 q) i in quiet n q k.0 o k.1;
    keeps = λ {x} {y} {p} {q} {s} {v} {w} k i j a o c d l.
        let c1 = map-some plain_move (box_move n s p) c in
        let d1 = map-some plain_move (box_move n v.target q) d in
        absurd (busy n p q s c1.0 d1.0 a o c1.1 (ap (λ (m : Move). box_move n m.target q) (sym c1.2) ∙ d1.1));
    wakes = λ {x} {y} {p} {q} {s} k i j a o c d l. waking n p q (box-from e x p i).signal (box-from e y q j).signal a o;
    meets = λ {x} {y} {p} {q} {s} k i j a b ne pe c d.
        let c1 = map-some plain_move (box_move n s p) c in
        let d1 = map-some plain_move (box_move n s q) d in
        absurd (one-order n p q s c1.0 d1.0 a b ne c1.1 d1.1);
  }
