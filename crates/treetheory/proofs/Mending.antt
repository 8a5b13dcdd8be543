-- A step at a basic element and at its box: what is down, what is being repaired, and what the box knows of it.
use mathlib.Core.Path.{◌≡◌, refl, sym, ◌∙◌, ap}
use mathlib.Core.Logic.{◌≢◌}
use mathlib.Core.Option.{Option, none, some, some_inj}
use mathlib.Core.Bool.{Bool, true, false, false≢true, true≢false, ◌&&◌, ◌||◌, not}
use mathlib.Core.List.{List}
use Prim.Native.Nat.{ℕ, suc, ◌-◌, ◌^◌}
use native.Mathlib.Omega.{arith}
use native.Mathlib.Decide.{ℕ_discrete}
use lib.ListN.{length, get_or}
use borrow.Author.Tests.{not-true}
use Rattle.laws.specs.Sets.{has, ◌∪◌, ◌∖◌, only}
use Rattle.laws.specs.Search.{map_some}
use Rattle.laws.specs.Fold.{all, all_from}
use Rattle.laws.proofs.FoldLaws.{all_true}
use Rattle.laws.proofs.SearchLaws.{no-some}
use Rattle.laws.proofs.SetLaws.{has-or, has-without, in_one, one_in, or-in-r}
use Rattle.laws.proofs.TestLaws.{and-true, not_so}
use Rattle.trees.specs.Module.{Move}
use Rattle.trees.specs.Tree.{be-sort, Element, Signal, fl, up, f, u, r, Meaning}
use Rattle.trees.specs.Modules.{plain_move, be_kind, be_role, BoxRole, box-fl, box-up, box-r, box_kind, box_move, box_hears, box_role, place_of}
use Rattle.trees.proofs.Boxes.{place-below}
use Rattle.treetheory.specs.AsDrawn.{down_in, mending_in}
use Rattle.treetheory.proofs.Colours.{code_of, same, alike}
use Rattle.treetheory.proofs.Roles.{Moved, by-role, by-none, map-some}
use Rattle.treetheory.proofs.TameBasic.{be-from}
use Rattle.treetheory.proofs.TameBoxes.{Ordered, ordered, place-tells, box-from}
use Rattle.treetheory.proofs.TellingBasic.{be_go, own-signal, every_signal, at-signal}

-- the signals that a box hears or gives
abbrev pub box_signal : Signal → Bool
box_signal fl = true
box_signal up = true
box_signal f = false
box_signal u = false
box_signal r = true

-- ---- a basic element v: down b and being repaired m before, c and n after, by an action that means y
pub data MendStep (v : ℕ) (y : Meaning) (b m c n : Bool) : Type 0 where
  m-fails : y.of ≡ v → y.signal ≡ fl → m ≡ false → n ≡ false → c ≡ true → MendStep v y b m c n
  m-mends : y.of ≡ v → y.signal ≡ up → m ≡ true → n ≡ false → c ≡ false → MendStep v y b m c n
  m-begins : y.of ≡ v → y.signal ≡ r → c ≡ b → (b ≡ true → n ≡ true) → MendStep v y b m c n
  m-stays : (y.of ≡ v → box_signal y.signal ≡ true → ⊥) → c ≡ b → n ≡ m → MendStep v y b m c n

abbrev onto : (ℕ → Bool) → Option Move → Bool
onto h none = true
onto h (some v) = h v.target

abbrev dn : ℕ → Bool
dn x = down_in be-sort x

abbrev mn : ℕ → Bool
mn x = mending_in be-sort x

abbrev right : Signal → ℕ → ℕ → Bool
right fl s v = not (mn s) && (not (mn v) && dn v)
right up s v = mn s && (not (mn v) && not (dn v))
right f s v = same (dn v) (dn s) && same (mn v) (mn s)
right u s v = same (dn v) (dn s) && same (mn v) (mn s)
right r s v = same (dn v) (dn s) && (not (dn s) || mn v)

unfoldable rightly : ℕ → ℕ → Signal → Bool
rightly k s p = onto (right p s) (be_go k s p)

all-rightly : (k : ℕ) → all (λ s. every_signal (rightly k s)) 0 9 ≡ true
unfolding rightly every_signal all all_from
all-rightly k = refl

or-then : (a b : Bool) → (not a || b) ≡ true → a ≡ true → b ≡ true
or-then true b h e = h
or-then false b h e = absurd (false≢true e)

quiet-signal : {s : Signal} (p : Signal) → s ≡ p → box_signal p ≡ false → box_signal s ≡ true → ⊥
quiet-signal p h q w = false≢true (sym q ∙ ap box_signal (sym h) ∙ w)

module _ (e : Element) (k : ℕ) where
  by-signal : (y : Meaning) (p : Signal) (x z : ℕ) → be_role e y ≡ some p → right p x z ≡ true → MendStep e.number y (dn x) (mn x) (dn z) (mn z)
  by-signal y fl x z i h =
      let q = be-from e y fl i in
      let a = and-true (not (mn x)) (not (mn z) && dn z) h in
      let b = and-true (not (mn z)) (dn z) a.1 in
      m-fails q.0 q.1 (not-true (mn x) a.0) (not-true (mn z) b.0) b.1
  by-signal y up x z i h =
      let q = be-from e y up i in
      let a = and-true (mn x) (not (mn z) && not (dn z)) h in
      let b = and-true (not (mn z)) (not (dn z)) a.1 in
      m-mends q.0 q.1 a.0 (not-true (mn z) b.0) (not-true (dn z) b.1)
  by-signal y f x z i h =
      let a = and-true (same (dn z) (dn x)) (same (mn z) (mn x)) h in
      m-stays (λ w. quiet-signal f (be-from e y f i).1 refl) (alike (dn z) (dn x) a.0) (alike (mn z) (mn x) a.1)
  by-signal y u x z i h =
      let a = and-true (same (dn z) (dn x)) (same (mn z) (mn x)) h in
      m-stays (λ w. quiet-signal u (be-from e y u i).1 refl) (alike (dn z) (dn x) a.0) (alike (mn z) (mn x) a.1)
  by-signal y r x z i h =
      let q = be-from e y r i in
      let a = and-true (same (dn z) (dn x)) (not (dn x) || mn z) h in
      m-begins q.0 q.1 (alike (dn z) (dn x) a.0) (or-then (dn x) (mn z) a.1)

  pub mend-step : (y : Meaning) (x z : ℕ) → Moved (be_role e) be_kind 9 (be_go k) y x z → MendStep e.number y (dn x) (mn x) (dn z) (mn z)
  unfolding rightly
  mend-step y x z (by-role {p} {v} i h d w) =
      let o = at-signal (rightly k x) (all_true (λ s. every_signal (rightly k s)) 0 9 (all-rightly k) x (omega arith) h) p in
      rw (← w) (by-signal y p x v.target i (sym (ap (onto (right p x)) d) ∙ o))
  mend-step y x z (by-none i w) = m-stays (λ n q. no-some i (own-signal e y y.signal n refl)) (ap (down_in be-sort) (sym w)) (ap (mending_in be-sort) (sym w))

-- ---- a box of the list l
pub data BoxStep (l : List ℕ) (y : Meaning) (x z : ℕ) : Type 0 where
  x-fails : (k : ℕ) → place_of y.of l ≡ some k → y.signal ≡ fl → x ∪ only (length l - k) ≡ z → BoxStep l y x z
  x-mends : (k : ℕ) → place_of y.of l ≡ some k → y.signal ≡ up → x ∖ only (length l - k) ∖ only 0 ≡ z → BoxStep l y x z
  x-orders : (k : ℕ) → place_of y.of l ≡ some k → y.signal ≡ r → Ordered (length l) x k z → BoxStep l y x z
  x-rests : ((k : ℕ) → place_of y.of l ≡ some k → box_signal y.signal ≡ true → ⊥) → x ≡ z → BoxStep l y x z

abbrev pub box_go : ℕ → ℕ → BoxRole → Option Move
box_go n s p = map_some plain_move (box_move n s p)

module _ (e : Element) where
  box-by : (y : Meaning) (p : BoxRole) (x z : ℕ) → box_role e y ≡ some p → box_move (length e.ins) x p ≡ some z → BoxStep e.ins y x z
  box-by y (box-fl k) x z i h = let q = box-from e y (box-fl k) i in x-fails k q.place q.signal (some_inj.0 h)
  box-by y (box-up k) x z i h = let q = box-from e y (box-up k) i in x-mends k q.place q.signal (some_inj.0 h)
  box-by y (box-r k) x z i h = let q = box-from e y (box-r k) i in x-orders k q.place q.signal (ordered (length e.ins) x k z h)

  box-hears : (y : Meaning) (k : ℕ) → box_role e y ≡ none → place_of y.of e.ins ≡ some k → box_signal y.signal ≡ true → ⊥
  unfolding box_role
  box-hears y k i h s = go y.signal s (sym (ap (λ o. elim o as (λ _. Option BoxRole) [ none ↦ none | some j ↦ box_hears y.signal j ]) h) ∙ i)
    where
      go : (s : Signal) → box_signal s ≡ true → box_hears s k ≡ none → ⊥
      go fl s q = no-some q refl
      go up s q = no-some q refl
      go f s q = false≢true s
      go u s q = false≢true s
      go r s q = no-some q refl

  pub box-step : (y : Meaning) (x z : ℕ) → Moved (box_role e) box_kind (2 ^ suc (length e.ins)) (box_go (length e.ins)) y x z → BoxStep e.ins y x z
  box-step y x z (by-role {p} {v} i h d w) =
      let q = map-some plain_move (box_move (length e.ins) x p) d in
      rw (← w) (box-by y p x v.target i (q.1 ∙ ap some (sym (ap (λ (m : Move). m.target) q.2))))
  box-step y x z (by-none i w) = x-rests (λ k h s. box-hears y k i h s) w

-- ---- what a box of the list l knows in state x
pub record BoxKnows (l : List ℕ) (x : ℕ) (down mend : ℕ → Bool) : Type 0 where
  pub bits : (v k : ℕ) → place_of v l ≡ some k → has x (length l - k) ≡ down v
  pub free : has x 0 ≡ false → (v k : ℕ) → place_of v l ≡ some k → mend v ≡ false
  pub single : (v w i j : ℕ) → place_of v l ≡ some i → place_of w l ≡ some j → mend v ≡ true → mend w ≡ true → v ≡ w
  pub busy : has x 0 ≡ true → (v : ℕ) × (k : ℕ) × (place_of v l ≡ some k) × (mend v ≡ true)

-- sets
not-one : (i j : ℕ) → i ≢ j → has (only i) j ≡ false
not-one i j ne = not_so (has (only i) j) (λ h. ne (sym (one_in i j h)))

or-false-r : (a b : Bool) → b ≡ false → (a || b) ≡ a
or-false-r true b h = refl
or-false-r false b h = h

and_true_r : (a b : Bool) → b ≡ true → (a && b) ≡ a
and_true_r true b h = h
and_true_r false b h = refl

join-other : (x i j : ℕ) → i ≢ j → has (x ∪ only i) j ≡ has x j
join-other x i j ne = has-or x (only i) j ∙ or-false-r (has x j) (has (only i) j) (not-one i j ne)

drop-other : (x i j : ℕ) → i ≢ j → has (x ∖ only i) j ≡ has x j
drop-other x i j ne = has-without x (only i) j ∙ and_true_r (has x j) (not (has (only i) j)) (ap not (not-one i j ne))

drop-same : (x i : ℕ) → has (x ∖ only i) i ≡ false
drop-same x i = has-without x (only i) i ∙ go (has x i) (ap not (in_one i))
  where
    go : (a : Bool) {b : Bool} → b ≡ false → (a && b) ≡ false
    go true h = h
    go false h = refl

module _ (l : List ℕ) (y : Meaning) (x z : ℕ) (d m d' m' : ℕ → Bool) (ok : BoxKnows l x d m)
    (bes : (v k : ℕ) → place_of v l ≡ some k → MendStep v y (d v) (m v) (d' v) (m' v)) where
  abbrev n : ℕ
  n = length l

  same_place : {v w i j : ℕ} → v ≡ w → place_of v l ≡ some i → place_of w l ≡ some j → i ≡ j
  same_place e p q = some_inj.0 (sym p ∙ ap (λ v. place_of v l) e ∙ q)

  other_place : {v w i j : ℕ} → v ≢ w → place_of v l ≡ some i → place_of w l ≡ some j → length l - i ≢ length l - j
  other_place {v} {w} {i} {j} ne p q e =
      let a = place-below v l i p in
      let b = place-below w l j q in
      let z : i ≡ j = omega (arith, a, b, e) in
      ne (sym (place-tells v l i p) ∙ ap (λ k. get_or l k 0) z ∙ place-tells w l j q)

  not-zero : (v : ℕ) {i : ℕ} → place_of v l ≡ some i → length l - i ≢ 0
  not-zero v {i} p e = let a = place-below v l i p in omega (arith, a, e)

  -- one that is not meant stays
  stay : (v k : ℕ) → place_of v l ≡ some k → (y.of ≡ v → ⊥) → (d' v ≡ d v) × (m' v ≡ m v)
  stay v k p ne = go (bes v k p)
    where
      go : MendStep v y (d v) (m v) (d' v) (m' v) → (d' v ≡ d v) × (m' v ≡ m v)
      go (m-fails o s a b c) = absurd (ne o)
      go (m-mends o s a b c) = absurd (ne o)
      go (m-begins o s a b) = absurd (ne o)
      go (m-stays o a b) = (a, b)

  clash : {P : Type 0} {s a b : Signal} → s ≡ a → s ≡ b → code_of a ≢ code_of b → P
  clash p q ne = absurd (ne (ap code_of (sym p ∙ q)))

  failed-one : (v k : ℕ) → place_of v l ≡ some k → y.of ≡ v → y.signal ≡ fl → (m v ≡ false) × (m' v ≡ false) × (d' v ≡ true)
  failed-one v k p w s = go (bes v k p)
    where
      go : MendStep v y (d v) (m v) (d' v) (m' v) → (m v ≡ false) × (m' v ≡ false) × (d' v ≡ true)
      go (m-fails o h a b c) = (a, b, c)
      go (m-mends o h a b c) = clash h s (λ q. omega (arith, q))
      go (m-begins o h a b) = clash h s (λ q. omega (arith, q))
      go (m-stays o a b) = absurd (o w (ap box_signal s))

  mended-one : (v k : ℕ) → place_of v l ≡ some k → y.of ≡ v → y.signal ≡ up → (m v ≡ true) × (m' v ≡ false) × (d' v ≡ false)
  mended-one v k p w s = go (bes v k p)
    where
      go : MendStep v y (d v) (m v) (d' v) (m' v) → (m v ≡ true) × (m' v ≡ false) × (d' v ≡ false)
      go (m-fails o h a b c) = clash h s (λ q. omega (arith, q))
      go (m-mends o h a b c) = (a, b, c)
      go (m-begins o h a b) = clash h s (λ q. omega (arith, q))
      go (m-stays o a b) = absurd (o w (ap box_signal s))

  begun-one : (v k : ℕ) → place_of v l ≡ some k → y.of ≡ v → y.signal ≡ r → (d' v ≡ d v) × (d v ≡ true → m' v ≡ true)
  begun-one v k p w s = go (bes v k p)
    where
      go : MendStep v y (d v) (m v) (d' v) (m' v) → (d' v ≡ d v) × (d v ≡ true → m' v ≡ true)
      go (m-fails o h a b c) = clash h s (λ q. omega (arith, q))
      go (m-mends o h a b c) = clash h s (λ q. omega (arith, q))
      go (m-begins o h a b) = (a, b)
      go (m-stays o a b) = absurd (o w (ap box_signal s))

  at-failure : (k : ℕ) → place_of y.of l ≡ some k → y.signal ≡ fl → x ∪ only (length l - k) ≡ z → BoxKnows l z d' m'
  at-failure k p s e = rw (← e) (record {
    bits = λ v i q. elim (ℕ_discrete y.of v) [
      | yes w ↦ ap (has (x ∪ only (length l - k))) (ap (λ j. length l - j) (sym (same_place w p q))) ∙ or-in-r x (only (length l - k)) (length l - k)
          (in_one (length l - k)) ∙ sym (failed-one v i q w s).2
      | no w ↦ join-other x (length l - k) (length l - i) (other_place w p q) ∙ ok.bits v i q ∙ sym (stay v i q w).0
    ];
    free = λ h v i q. elim (ℕ_discrete y.of v) [
      | yes w ↦ (failed-one v i q w s).1
      | no w ↦ (stay v i q w).1 ∙ ok.free (sym (join-other x (length l - k) 0 (not-zero y.of p)) ∙ h) v i q
    ];
    single = λ v w i j a b h g. ok.single v w i j a b (was v i a h) (was w j b g);
    busy = λ h.
        let o = ok.busy (sym (join-other x (length l - k) 0 (not-zero y.of p)) ∙ h) in
        (o.0, o.1, o.2, (stay o.0 o.1 o.2 (λ w. true≢false (sym o.3 ∙ (failed-one o.0 o.1 o.2 w s).0))).1 ∙ o.3);
  })
    where
      was : (v i : ℕ) → place_of v l ≡ some i → m' v ≡ true → m v ≡ true
      was v i q h = sym (stay v i q (λ w. true≢false (sym h ∙ (failed-one v i q w s).1))).1 ∙ h

  at-repair : (k : ℕ) → place_of y.of l ≡ some k → y.signal ≡ up → x ∖ only (length l - k) ∖ only 0 ≡ z → BoxKnows l z d' m'
  at-repair k p s e = rw (← e) (record {
    bits = λ v i q.
        drop-other (x ∖ only (length l - k)) 0 (length l - i) (λ h. not-zero v q (sym h)) ∙ elim (ℕ_discrete y.of v) [
          | yes w ↦ ap (has (x ∖ only (length l - k))) (ap (λ j. length l - j) (sym (same_place w p q))) ∙ drop-same x (length l - k)
              ∙ sym (mended-one v i q w s).2
          | no w ↦ drop-other x (length l - k) (length l - i) (other_place w p q) ∙ ok.bits v i q ∙ sym (stay v i q w).0
        ];
    free = λ h v i q. not_so (m' v) (λ g. none_left v i q g);
    single = λ v w i j a b h g. absurd (none_left v i a h);
    busy = λ h. absurd (true≢false (sym h ∙ drop-same (x ∖ only (length l - k)) 0));
  })
    where
      none_left : (v i : ℕ) → place_of v l ≡ some i → m' v ≡ true → ⊥
      none_left v i q h =
          let it = mended-one y.of k p refl s in
          elim (ℕ_discrete y.of v) [
            | yes w ↦ true≢false (sym h ∙ (mended-one v i q w s).1)
            | no w ↦ w (ok.single y.of v k i p q it.0 (sym (stay v i q w).1 ∙ h))
          ]

  at-order : (k : ℕ) → place_of y.of l ≡ some k → y.signal ≡ r → Ordered (length l) x k z → BoxKnows l z d' m'
  at-order k p s o = rw (← o.target) (record {
    bits = λ v i q. join-other x 0 (length l - i) (λ h. not-zero v q (sym h)) ∙ ok.bits v i q ∙ sym (downs v i q);
    free = λ h. absurd (true≢false (sym (or-in-r x (only 0) 0 (in_one 0)) ∙ h));
    single = λ v w i j a b h g. sym (it v i a h) ∙ it w j b g;
    busy = λ h. (y.of, k, p, (begun-one y.of k p refl s).1 (sym (ok.bits y.of k p) ∙ o.broken));
  })
    where
      downs : (v i : ℕ) → place_of v l ≡ some i → d' v ≡ d v
      downs v i q = elim (ℕ_discrete y.of v) [ yes w ↦ (begun-one v i q w s).0 | no w ↦ (stay v i q w).0 ]

      it : (v i : ℕ) → place_of v l ≡ some i → m' v ≡ true → y.of ≡ v
      it v i q h = elim (ℕ_discrete y.of v) [ yes w ↦ w | no w ↦ absurd (true≢false (sym h ∙ (stay v i q w).1 ∙ ok.free o.idle v i q)) ]

  at_rest : ((k : ℕ) → place_of y.of l ≡ some k → box_signal y.signal ≡ true → ⊥) → x ≡ z → BoxKnows l z d' m'
  at_rest h e = rw (← e) (record {
    bits = λ v i q. ok.bits v i q ∙ sym (all_stay v i q).0;
    free = λ g v i q. (all_stay v i q).1 ∙ ok.free g v i q;
    single = λ v w i j a b g k. ok.single v w i j a b (sym (all_stay v i a).1 ∙ g) (sym (all_stay w j b).1 ∙ k);
    busy = λ g. let o = ok.busy g in (o.0, o.1, o.2, (all_stay o.0 o.1 o.2).1 ∙ o.3);
  })
    where
      all_stay : (v i : ℕ) → place_of v l ≡ some i → (d' v ≡ d v) × (m' v ≡ m v)
      all_stay v i q = go (bes v i q)
        where
          go : MendStep v y (d v) (m v) (d' v) (m' v) → (d' v ≡ d v) × (m' v ≡ m v)
          go (m-fails o s a b c) = absurd (h i (ap (λ k. place_of k l) o ∙ q) (ap box_signal s))
          go (m-mends o s a b c) = absurd (h i (ap (λ k. place_of k l) o ∙ q) (ap box_signal s))
          go (m-begins o s a b) = absurd (h i (ap (λ k. place_of k l) o ∙ q) (ap box_signal s))
          go (m-stays o a b) = (a, b)

  pub box-knows-on : BoxStep l y x z → BoxKnows l z d' m'
  box-knows-on (x-fails k p s e) = at-failure k p s e
  box-knows-on (x-mends k p s e) = at-repair k p s e
  box-knows-on (x-orders k p s o) = at-order k p s o
  box-knows-on (x-rests h e) = at_rest h e
