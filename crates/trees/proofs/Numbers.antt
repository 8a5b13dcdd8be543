-- Every signal has one number: no two places of `meanings` hold the same.
use mathlib.Core.Path.{◌≡◌, refl, sym, ap}
use mathlib.Core.Logic.{⊎_elim}
use mathlib.Core.Option.{some, some_inj}
use mathlib.Core.Bool.{Bool, true, false, ◌&&◌}
use mathlib.Core.List.Memᴰ.{head as here}
use mathlib.Core.List.Memᴰ.{not-nil as in-none}
use mathlib.Core.List.Memᴰ.{tail as there}
use mathlib.Core.List.{List, [], ◌∷◌, Memᴰ as In}
use mathlib.Core.List.Memᴰ.{append_cases}
use mathlib.Core.List.Memᴰ.{append_left as in_left}
use mathlib.Core.List.Memᴰ.{append_right as in_right}
use Prim.Native.Nat.{ℕ, zero, suc, ◌+◌, ◌*◌, ◌≤◌, ◌<◌}
use native.Mathlib.Omega.{arith}
use lib.Dec.{leb}
use lib.ListN.{length}
use borrow.Author.Tests.{leb-true}
use Rattle.laws.proofs.TestLaws.{and-true}
use Rattle.laws.proofs.SearchLaws.{no-some}
use Rattle.laws.proofs.ListLaws.{Pairwise, pairwise_append}
use Rattle.trees.specs.Tree.{Sort, be-sort, and-sort, or-sort, pand-sort, rbox-sort, Element, Tree, Signal, fl, up, f, u, r, Meaning, boxed}
use Rattle.trees.specs.Tree.{signals_of, meant, meanings_from, meanings, at, meaning_of}

-- "number 0 to 63 ascending"
abbrev pub Ascends : List Element → Type 0
Ascends es = Pairwise (λ x y. x.number < y.number) es

abbrev rank : Signal → ℕ
rank fl = 0
rank up = 1
rank f = 2
rank u = 3
rank r = 4

-- meanings in the order of their elements, then of the signals
abbrev key_of : Meaning → ℕ
key_of x = x.of * 5 + rank x.signal

abbrev Earlier : Meaning → Meaning → Type 0
Earlier x y = key_of x < key_of y

rank_below : (s : Signal) → rank s < 5
rank_below fl = omega arith
rank_below up = omega arith
rank_below f = omega arith
rank_below u = omega arith
rank_below r = omega arith

of-meant : (v : ℕ) (ss : List Signal) {x : Meaning} → In x (meant v ss) → x.of ≡ v
of-meant v [] m = absurd (in-none m)
of-meant v (s ∷ ss) (here e) = ap (λ x. x.of) e
of-meant v (s ∷ ss) (there m) = of-meant v ss m

-- the signals of one element: their ranks rise, from n on
abbrev rising : ℕ → List Signal → Bool
rising n [] = true
rising n (s ∷ ss) = leb n (rank s) && rising (suc (rank s)) ss

later : (v n : ℕ) (ss : List Signal) {x : Meaning} → rising n ss ≡ true → In x (meant v ss) → v * 5 + n ≤ key_of x
later v n [] h m = absurd (in-none m)
later v n (s ∷ ss) {x} h (here e) = let p = leb-true n (rank s) (and-true (leb n (rank s)) _ h).0 in rw e (omega (arith, p))
later v n (s ∷ ss) {x} h (there m) =
    let p = and-true (leb n (rank s)) _ h in
    omega (arith, leb-true n (rank s) p.0, later v (suc (rank s)) ss p.1 m)

rising-ascends : (v n : ℕ) (ss : List Signal) → rising n ss ≡ true → Pairwise Earlier (meant v ss)
rising-ascends v n [] h = tt
rising-ascends v n (s ∷ ss) h =
    let p = (and-true (leb n (rank s)) _ h).1 in
    (λ y m. omega (arith, later v (suc (rank s)) ss p m), rising-ascends v (suc (rank s)) ss p)

signals-ascend : (v : ℕ) (q : Sort) (b : Bool) → Pairwise Earlier (meant v (signals_of q b))
signals-ascend v be-sort true = rising-ascends v 0 (signals_of be-sort true) refl
signals-ascend v be-sort false = rising-ascends v 0 (signals_of be-sort false) refl
signals-ascend v and-sort b = rising-ascends v 0 (signals_of and-sort b) refl
signals-ascend v or-sort b = rising-ascends v 0 (signals_of or-sort b) refl
signals-ascend v pand-sort b = rising-ascends v 0 (signals_of pand-sort b) refl
signals-ascend v rbox-sort b = tt

of_some : (t : Tree) (es : List Element) {x : Meaning} → In x (meanings_from t es) → (e : Element) × In e es × (x.of ≡ e.number)
unfolding meanings_from
of_some t [] m = absurd (in-none m)
of_some t (e ∷ es) m =
    ⊎_elim
    (λ l. (e, here refl, of-meant e.number (signals_of e.sort (boxed t e.number)) l))
    (λ l. let p = of_some t es l in (p.0, there p.1, p.2))
    (append_cases (meant e.number (signals_of e.sort (boxed t e.number))) m)

meanings-ascend : (t : Tree) (es : List Element) → Ascends es → Pairwise Earlier (meanings_from t es)
unfolding meanings_from
meanings-ascend t [] h = tt
meanings-ascend t (e ∷ es) h =
    pairwise_append Earlier (meant e.number (signals_of e.sort (boxed t e.number))) (meanings_from t es)
    (signals-ascend e.number e.sort (boxed t e.number))
    (meanings-ascend t es h.1)
    (λ x y m n.
    let p = of-meant e.number (signals_of e.sort (boxed t e.number)) m in
    let q = of_some t es n in
    omega (arith, p, q.2, h.0 q.0 q.1, rank_below x.signal, rank_below y.signal))

-- ---- a place of the list
pub at-member : (xs : List Meaning) (n : ℕ) {x : Meaning} → at xs n ≡ some x → In x xs
unfolding at
at-member [] n e = absurd (no-some refl e)
at-member (y ∷ ys) zero e = here (sym (some_inj.0 e))
at-member (y ∷ ys) (suc n) e = there (at-member ys n e)

one_place : (xs : List Meaning) → Pairwise Earlier xs → (m n : ℕ) {x y : Meaning} → at xs m ≡ some x → at xs n ≡ some y → key_of x ≡ key_of y → m ≡ n
unfolding at
one_place [] p m n e g k = absurd (no-some refl e)
one_place (z ∷ zs) p zero zero e g k = refl
one_place (z ∷ zs) p zero (suc n) {x} {y} e g k = absurd (omega (arith, p.0 y (at-member zs n g), k, ap key_of (some_inj.0 e)))
one_place (z ∷ zs) p (suc m) zero {x} {y} e g k = absurd (omega (arith, p.0 x (at-member zs m e), k, ap key_of (some_inj.0 g)))
one_place (z ∷ zs) p (suc m) (suc n) e g k = ap suc (one_place zs p.1 m n e g k)

pub one_number : (t : Tree) → Ascends t → (a b : ℕ) {x y : Meaning} → meaning_of t a ≡ some x → meaning_of t b ≡ some y → x.of ≡ y.of
    → x.signal ≡ y.signal → a ≡ b
unfolding meaning_of meanings
one_number t h a b {x} {y} e g k l =
    one_place (meanings_from t t) (meanings-ascend t t h) a b e g (let z : rank x.signal ≡ rank y.signal = ap rank l in omega (arith, k, z))

-- ---- every signal of every element has a number
in-at : (xs : List Meaning) {x : Meaning} → In x xs → (n : ℕ) × (n < length xs) × (at xs n ≡ some x)
unfolding at
in-at (y ∷ ys) (here e) = (0, omega arith, ap some (sym e))
in-at (y ∷ ys) (there m) = let p = in-at ys m in (suc p.0, omega (arith, p.1), p.2)
in-at [] m = elim m [ ]

meant-in : (v : ℕ) (ss : List Signal) {s : Signal} → In s ss → In (record { of = v; signal = s }) (meant v ss)
meant-in v (s ∷ ss) (here e) = here (ap (λ q. record { of = v; signal = q }) e)
meant-in v (s ∷ ss) (there m) = there (meant-in v ss m)
meant-in v [] m = elim m [ ]

in-meanings : (t : Tree) (es : List Element) {e : Element} {s : Signal} → In e es → In s (signals_of e.sort (boxed t e.number))
    → In (record { of = e.number; signal = s }) (meanings_from t es)
unfolding meanings_from
in-meanings t (q ∷ es) {e} {s} (here w) m =
    in_left {s = meant q.number (signals_of q.sort (boxed t q.number))} (meanings_from t es)
    (rw (← w) (meant-in e.number (signals_of e.sort (boxed t e.number)) m))
in-meanings t (q ∷ es) (there l) m = in_right (meant q.number (signals_of q.sort (boxed t q.number))) (in-meanings t es l m)
in-meanings t [] l m = elim l [ ]

pub has-number : (t : Tree) (e : Element) (s : Signal) → In e t → In s (signals_of e.sort (boxed t e.number))
    → (a : ℕ) × (a < length (meanings t)) × (meaning_of t a ≡ some (record { of = e.number; signal = s }))
unfolding meaning_of meanings
has-number t e s l m = in-at (meanings_from t t) (in-meanings t t l m)
