-- A sheet by the places where its names stand: the name of each action, and one name more.
use mathlib.Core.Path.{◌≡◌, refl, sym, ◌∙◌, ap}
use mathlib.Core.Option.{Option, none, some}
use mathlib.Core.Bool.{Bool, true, false, not, true≢false}
use mathlib.Core.List.{List, [], ◌∷◌}
use Prim.Native.Nat.{ℕ, zero, suc, ◌+◌, ◌≤◌, ◌<◌}
use native.Mathlib.Numerals.{add-one}
use native.Mathlib.Omega.{arith}
use native.Mathlib.Decide.{ℕ_discrete, dec_lt}
use lib.ListN.{length, get_or, set, length-set}
use lib.Seq.{get_or-set_same, get_or-set_other}
use lib.Dec.{ltb, leb}
use borrow.Author.Tests.{lt-ltb, le-ltb, le-leb, lt-leb, eq-eqb, ne_eqb, not-true, not-false}
use Rattle.laws.specs.Sets.{has}
use Rattle.laws.specs.Search.{least, when, or_else}
use Rattle.laws.proofs.SearchLaws.{least-none, none-least, least-some, some-least}
use Rattle.answer.specs.Limits.{max_actions}
use Rattle.named.specs.NamedText.{Name, Sheet, name_of, is_named, number_of}
use Rattle.named.specs.ReadNamed.{above, unused}
use Rattle.namedtheory.proofs.Lookup.{name-here, name-there}
use Rattle.namefields.specs.NameFields.{name_from, name_by, number_by}
use Rattle.namelaws.specs.Sheets.{sheet_by, sheet_of, SoFar, line_at, unused_at, line_after}

-- ---- one action more
module _ (t P : List ℕ) (n : ℕ) where
  pub sheet-none : get_or P n 0 ≡ 0 → sheet_by t P (suc n) ≡ sheet_by t P n
  unfolding sheet_by
  sheet-none e = rw (eq-eqb (get_or P n 0) 0 e, sheet_by)

  pub sheet-one : (get_or P n 0 ≡ 0 → ⊥) → sheet_by t P (suc n) ≡ record { number = n; name = name_from t (get_or P n 0) } ∷ sheet_by t P n
  unfolding sheet_by
  sheet-one h = rw (ne_eqb (get_or P n 0) 0 h, sheet_by)

no_names : (a : ℕ) → name_of [] a ≡ none
unfolding name_of
no_names a = refl

first-empty : (t P : List ℕ) → sheet_by t P 0 ≡ []
unfolding sheet_by
first-empty t P = refl

-- ---- the name of an action
name-above : (t P : List ℕ) (n a : ℕ) → n ≤ a → name_of (sheet_by t P n) a ≡ none
name-above t P zero a h = ap (λ s. name_of s a) (first-empty t P) ∙ no_names a
name-above t P (suc n) a h = elim (ℕ_discrete (get_or P n 0) 0) [
  | yes e ↦ ap (λ s. name_of s a) (sheet-none t P n e) ∙ name-above t P n a (omega arith)
  | no w ↦ ap (λ s. name_of s a) (sheet-one t P n w) ∙ name-there n a (name_from t (get_or P n 0)) (sheet_by t P n) (λ e. omega arith)
      ∙ name-above t P n a (omega arith)
]

by-none : (t : List ℕ) (v : ℕ) → v ≡ 0 → name_by t v ≡ none
by-none t v e = rw (eq-eqb v 0 e)

by-some : (t : List ℕ) (v : ℕ) → (v ≡ 0 → ⊥) → name_by t v ≡ some (name_from t v)
by-some t v w = rw (ne_eqb v 0 w)

name_below : (t P : List ℕ) (n a : ℕ) → a < n → name_of (sheet_by t P n) a ≡ name_by t (get_or P a 0)
name_below t P zero a h = absurd (omega arith)
name_below t P (suc n) a h = elim (ℕ_discrete (get_or P n 0) 0) [
  | yes e ↦ ap (λ s. name_of s a) (sheet-none t P n e) ∙ empty (λ l. name_below t P n a l) e (ℕ_discrete n a)
  | no w ↦ ap (λ s. name_of s a) (sheet-one t P n w) ∙ full (λ l. name_below t P n a l) w (ℕ_discrete n a)
]
  where
    empty : (a < n → name_of (sheet_by t P n) a ≡ name_by t (get_or P a 0)) → get_or P n 0 ≡ 0 → Dec (n ≡ a) → name_of (sheet_by t P n) a ≡ name_by t (get_or P a 0)
    empty ih e (yes q) = name-above t P n a (omega arith) ∙ sym (by-none t (get_or P a 0) (ap (λ i. get_or P i 0) (sym q) ∙ e))
    empty ih e (no q) = ih (omega arith)

    full : (a < n → name_of (sheet_by t P n) a ≡ name_by t (get_or P a 0)) → (get_or P n 0 ≡ 0 → ⊥) → Dec (n ≡ a)
        → name_of (record { number = n; name = name_from t (get_or P n 0) } ∷ sheet_by t P n) a ≡ name_by t (get_or P a 0)
    full ih w (yes q) =
        ap (name_of (record { number = n; name = name_from t (get_or P n 0) } ∷ sheet_by t P n)) (sym q) ∙ name-here n (name_from t (get_or P n 0)) (sheet_by t P n)
        ∙ sym (by-some t (get_or P n 0) w) ∙ ap (λ i. name_by t (get_or P i 0)) q
    full ih w (no q) = name-there n a (name_from t (get_or P n 0)) (sheet_by t P n) q ∙ ih (omega arith)

-- ---- the action of a name
least-same : (f g : ℕ → Bool) (n : ℕ) → ((k : ℕ) → k < n → f k ≡ g k) → least f n ≡ least g n
least-same f g n h = go (least g n) refl
  where
    go : (o : Option ℕ) → least g n ≡ o → least f n ≡ least g n
    go none e = none-least f n (λ k l. h k l ∙ least-none g n e k l) ∙ sym e
    go (some k) e =
        let q = least-some g n k e in
        some-least f n k (record { below = q.below; here = h k q.below ∙ q.here; before = λ j l. h j (omega (arith, q.below)) ∙ q.before j l }) ∙ sym e

pub number-as : (t P : List ℕ) (w : Name) → number_of (sheet_of t P) w ≡ number_by t P w
unfolding number_of
number-as t P w = least-same (λ a. is_named w (name_of (sheet_of t P) a)) (λ a. is_named w (name_by t (get_or P a 0)))
    max_actions (λ a l. ap (is_named w) (name_below t P max_actions a l))

-- ---- one name more
sheet-on : (t P : List ℕ) (low : ℕ) → ((a : ℕ) → low ≤ a → get_or P a 0 ≡ 0) → (n : ℕ) → low ≤ n → sheet_by t P n ≡ sheet_by t P low
sheet-on t P low h zero l = ap (sheet_by t P) (let e : 0 ≡ low = omega arith in e)
sheet-on t P low h (suc n) l = elim (ℕ_discrete (suc n) low) [
  | yes e ↦ ap (sheet_by t P) e
  | no w ↦ sheet-none t P n (h n (omega arith)) ∙ sheet-on t P low h n (omega arith)
]

sheet-same : (t P Q : List ℕ) (n : ℕ) → ((a : ℕ) → a < n → get_or P a 0 ≡ get_or Q a 0) → sheet_by t P n ≡ sheet_by t Q n
sheet-same t P Q zero h = first-empty t P ∙ sym (first-empty t Q)
sheet-same t P Q (suc n) h = elim (ℕ_discrete (get_or P n 0) 0) [
  | yes e ↦ sheet-none t P n e ∙ sheet-same t P Q n (λ a l. h a (omega arith)) ∙ sym (sheet-none t Q n (sym (h n (omega arith)) ∙ e))
  | no w ↦
      sheet-one t P n w ∙ ap {B = Sheet} (λ v. record { number = n; name = name_from t v } ∷ sheet_by t P n) (h n (omega arith))
      ∙ ap {B = Sheet} (λ s. record { number = n; name = name_from t (get_or Q n 0) } ∷ s) (sheet-same t P Q n (λ a l. h a (omega arith)))
      ∙ sym (sheet-one t Q n (λ e. w (h n (omega arith) ∙ e)))
]

ltb-leb : (n m : ℕ) → ltb n m ≡ leb (n + 1) m
ltb-leb n m = elim (dec_lt n m) [
  | yes h ↦ lt-ltb n m h ∙ sym (le-leb (n + 1) m (omega arith))
  | no h ↦ le-ltb n m (omega arith) ∙ sym (lt-leb (n + 1) m (omega arith))
]

pub so-far-none : (t P : List ℕ) → length P ≡ max_actions → ((a : ℕ) → get_or P a 0 ≡ 0) → SoFar t P 0 × (sheet_of t P ≡ [])
so-far-none t P l h =
    let e : sheet_of t P ≡ [] = sheet-on t P 0 (λ a _. h a) max_actions (omega arith) ∙ first-empty t P in
    (record { long = l; clear = λ a _. h a; least = λ n. ap (λ s. above s n) e ∙ sym (le-leb 0 n (omega arith)) }, e)

module _ (t P : List ℕ) (low n v : ℕ) (s : SoFar t P low) (from : low ≤ n) (below : n < max_actions) (there : 1 ≤ v) where
  abbrev stored : List ℕ
  stored = set P n v

  here : get_or stored n 0 ≡ v
  here = get_or-set_same P n v 0 (omega (arith, s.long))

  others : (a : ℕ) → (a ≡ n → ⊥) → get_or stored a 0 ≡ get_or P a 0
  others a w = get_or-set_other P n a v 0 w

  clear-on : (a : ℕ) → n + 1 ≤ a → get_or stored a 0 ≡ 0
  clear-on a l = others a (λ e. omega arith) ∙ s.clear a (omega arith)

  pub sheet-stored : sheet_of t stored ≡ record { number = n; name = name_from t v } ∷ sheet_of t P
  sheet-stored =
      sheet-on t stored (suc n) (λ a l. clear-on a (omega arith)) max_actions (omega arith)
      ∙ sheet-one t stored n (λ e. let q : v ≡ 0 = sym here ∙ e in omega arith)
      ∙ ap {B = Sheet} (λ x. record { number = n; name = name_from t x } ∷ sheet_by t stored n) here
      ∙ ap {B = Sheet} (λ z. record { number = n; name = name_from t v } ∷ z)
      (sheet-same t stored P n (λ a l. others a (λ e. omega arith)) ∙ sym (sheet-on t P n (λ a l. s.clear a (omega arith)) max_actions (omega arith)))

  pub so-far-next : SoFar t stored (n + 1)
  so-far-next = record {
    long = length-set P n v ∙ s.long;
    clear = clear-on;
    least = λ m. ap (λ z. above z m) sheet-stored ∙ ltb-leb n m;
  }

-- ---- unused names
pub line-at : (r k : ℕ) → r ≡ k + 2 → line_at r ≡ some r
line-at zero k e = absurd (omega arith)
line-at (suc r) k e = refl

module _ (d : ℕ) (t P : List ℕ) where
  pub unused-empty : unused d (sheet_by t P 0) ≡ none
  unfolding unused sheet_by
  unused-empty = refl

  unused-over : (n a : ℕ) (w : Name) (s : Sheet)
      → unused d (record { number = n; name = w } ∷ s) ≡ or_else (unused d s) (when (not (has d n)) (length s + 2))
  unfolding unused
  unused-over n a w s = refl

  step : (a : ℕ) → (get_or P a 0 ≡ 0 → ⊥) → unused d (sheet_by t P (suc a)) ≡ or_else (unused d (sheet_by t P a)) (when (not (has d a)) (length (sheet_by t P a) + 2))
  step a w = ap (unused d) (sheet-one t P a w) ∙ unused-over a a (name_from t (get_or P a 0)) (sheet_by t P a)

  pub unused-skip : (a : ℕ) → get_or P a 0 ≡ 0 → unused d (sheet_by t P (suc a)) ≡ unused d (sheet_by t P a)
  unused-skip a e = ap (unused d) (sheet-none t P a e)

  pub unused-declared : (a : ℕ) → (get_or P a 0 ≡ 0 → ⊥) → unused d (sheet_by t P a) ≡ none → has d a ≡ true → unused d (sheet_by t P (suc a)) ≡ none
  unused-declared a w e h = step a w ∙ go (unused d (sheet_by t P a)) e (has d a) h
    where
      go : (o : Option ℕ) → o ≡ none → (b : Bool) → b ≡ true → or_else o (when (not b) (length (sheet_by t P a) + 2)) ≡ none
      go o e b h = rw (e, h)

  pub unused-here : (a : ℕ) → (get_or P a 0 ≡ 0 → ⊥) → unused d (sheet_by t P a) ≡ none → has d a ≡ false
      → unused d (sheet_by t P (suc a)) ≡ some (length (sheet_by t P a) + 2)
  unused-here a w e h = step a w ∙ go (unused d (sheet_by t P a)) e (has d a) h
    where
      go : (o : Option ℕ) → o ≡ none → (b : Bool) → b ≡ false
          → or_else o (when (not b) (length (sheet_by t P a) + 2)) ≡ some (length (sheet_by t P a) + 2)
      go o e b h = rw (e, h)

  -- the first stays the first
  pub unused-on : (l a n : ℕ) → unused d (sheet_by t P a) ≡ some l → a ≤ n → unused d (sheet_by t P n) ≡ some l
  unused-on l a zero e h = ap (λ i. unused d (sheet_by t P i)) (let q : 0 ≡ a = omega arith in q) ∙ e
  unused-on l a (suc n) e h = elim (ℕ_discrete (suc n) a) [
    | yes q ↦ ap (λ i. unused d (sheet_by t P i)) q ∙ e
    | no w ↦ more (unused-on l a n e (omega arith)) (ℕ_discrete (get_or P n 0) 0)
  ]
    where
      more : unused d (sheet_by t P n) ≡ some l → Dec (get_or P n 0 ≡ 0) → unused d (sheet_by t P (suc n)) ≡ some l
      more ih (yes q) = unused-skip n q ∙ ih
      more ih (no q) = step n q ∙ ap (λ o. or_else o (when (not (has d n)) (length (sheet_by t P n) + 2))) ih

  pub longer : (a : ℕ) → (get_or P a 0 ≡ 0 → ⊥) → length (sheet_by t P (suc a)) ≡ length (sheet_by t P a) + 1
  longer a w = ap length (sheet-one t P a w) ∙ (let e : suc (length (sheet_by t P a)) ≡ length (sheet_by t P a) + 1 = omega arith in e)

-- the search for the first of them, before action a
pub record Searched (d : ℕ) (P : List ℕ) (a line : ℕ) : Type 0 where
  pub none_yet : (t : List ℕ) → unused d (sheet_by t P a) ≡ none
  pub count : (t : List ℕ) → line ≡ length (sheet_by t P a) + 2
  pub few : line ≤ a + 2

pub searched-first : (d : ℕ) (P : List ℕ) → Searched d P 0 2
searched-first d P = record { none_yet = λ t. unused-empty d t P; count = λ t. omega (arith, ap length (first-empty t P)); few = omega arith }

module _ (d : ℕ) (P : List ℕ) (a line place : ℕ) (s : Searched d P a line) (e : place ≡ get_or P a 0) where
  pub searched-here : unused_at d a place ≡ true → a < max_actions → (t : List ℕ) → unused d (sheet_of t P) ≡ line_at line
  searched-here h l t = elim (ℕ_discrete place 0) [
    | yes z ↦ absurd (true≢false (sym h ∙ rw (eq-eqb place 0 z)))
    | no z ↦
        let k : has d a ≡ false = not-true (has d a) (sym (rw (ne_eqb place 0 z)) ∙ h) in
        unused-on d t P line (suc a) max_actions (unused-here d t P a (λ q. z (e ∙ q)) (s.none_yet t) k ∙ ap some (sym (s.count t))) (omega arith)
        ∙ sym (line-at line (length (sheet_by t P a)) (s.count t))
  ]

  pub searched-next : unused_at d a place ≡ false → Searched d P (a + 1) (line_after place line)
  searched-next h = elim (ℕ_discrete place 0) [
    | yes z ↦ rw (eq-eqb place 0 z, add-one) (record {
      none_yet = λ t. unused-skip d t P a (sym e ∙ z) ∙ s.none_yet t;
      count = λ t. s.count t ∙ ap (λ (l : Sheet). length l + 2) (sym (sheet-none t P a (sym e ∙ z)));
      few = omega (arith, s.few);
    })
    | no z ↦
        let k : has d a ≡ true = not-false (has d a) (sym (rw (ne_eqb place 0 z)) ∙ h) in
        rw (ne_eqb place 0 z, add-one) (record {
          none_yet = λ t. unused-declared d t P a (λ q. z (e ∙ q)) (s.none_yet t) k;
          count = λ t. omega (arith, s.count t, longer d t P a (λ q. z (e ∙ q)));
          few = omega (arith, s.few);
        })
  ]

pub searched-end : (d : ℕ) (P : List ℕ) (a line : ℕ) → Searched d P a line → a ≡ max_actions → (t : List ℕ) → unused d (sheet_of t P) ≡ line_at 0
searched-end d P a line s e t = ap (λ i. unused d (sheet_by t P i)) (sym e) ∙ s.none_yet t
