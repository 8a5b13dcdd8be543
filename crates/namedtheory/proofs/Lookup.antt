-- In a good sheet a name has the number that it stands at, and no other.
use mathlib.Core.Path.{◌≡◌, refl, sym, ◌∙◌, ap}
use mathlib.Core.Logic.{⊎_elim}
use mathlib.Core.Bool.{Bool, true, false, ◌&&◌, true≢false}
use mathlib.Core.Option.{Option, none, some}
use mathlib.Core.List.{[], ◌∷◌}
use Prim.Native.Nat.{ℕ, ◌≤◌, ◌<◌}
use native.Mathlib.Omega.{arith}
use lib.Dec.{eqb, leb}
use lib.ListN.{length}
use borrow.Author.Tests.{eqb-true, eqb-false, eq-eqb, ne_eqb, ltb-true, leb-true}
use Rattle.laws.proofs.SearchLaws.{no-some, least-some, some-least}
use Rattle.laws.proofs.TestLaws.{and-true, not_so}
use Rattle.laws.proofs.SetLaws.{or_cases, or_left}
use Rattle.answer.specs.Limits.{max_actions}
use Rattle.named.specs.NamedText.{Name, is_letter, is_letter_or_digit, letters_or_digits, good_name, ends_name, Sheet, name_of, is_named, number_of, NameFits}
use Rattle.named.proofs.Names.{same_true, same_refl}
use Rattle.named.specs.ReadNamed.{above}
use Rattle.namedtheory.specs.Named.{Names, no_name, name}

-- ---- a name by its number
pub name-here : (n : ℕ) (w : Name) (sheet : Sheet) → name_of (record { number = n; name = w } ∷ sheet) n ≡ some w
unfolding name_of
name-here n w sheet = rw (eq-eqb n n refl)

pub name-there : (n a : ℕ) (w : Name) (sheet : Sheet) → (n ≡ a → ⊥) → name_of (record { number = n; name = w } ∷ sheet) a ≡ name_of sheet a
unfolding name_of
name-there n a w sheet h = rw (ne_eqb n a h)

no_names : (a : ℕ) → name_of [] a ≡ none
unfolding name_of
no_names a = refl

-- a number that a name has is below 64
pub named-below : {sheet : Sheet} → Names sheet → (a : ℕ) (v : Name) → name_of sheet a ≡ some v → a < max_actions
named-below no_name a v h = absurd (no-some (no_names a) h)
named-below (name {sheet} n w k l u g d) a v h = go (λ x. named-below k a v x) (eqb n a) refl
  where
    go : (name_of sheet a ≡ some v → a < max_actions) → (b : Bool) → eqb n a ≡ b → a < max_actions
    go ih true e = let q = eqb-true n a e in omega arith
    go ih false e = ih (sym (name-there n a w sheet (eqb-false n a e)) ∙ h)

-- one name, one number
pub one_number : {sheet : Sheet} → Names sheet → (i j : ℕ) (v : Name) → name_of sheet i ≡ some v → name_of sheet j ≡ some v → i ≡ j
one_number no_name i j v h k = absurd (no-some (no_names i) h)
one_number (name {sheet} n w s l u g d) i j v h k = go (λ x y. one_number s i j v x y) (eqb n i) refl (eqb n j) refl
  where
    go : (name_of sheet i ≡ some v → name_of sheet j ≡ some v → i ≡ j) → (b : Bool) → eqb n i ≡ b → (c : Bool) → eqb n j ≡ c → i ≡ j
    go ih true e true f = sym (eqb-true n i e) ∙ eqb-true n j f
    go ih true e false f =
        let q : some w ≡ some v = sym (name-here n w sheet) ∙ ap (name_of (record { number = n; name = w } ∷ sheet)) (eqb-true n i e) ∙ h in
        let r : name_of sheet j ≡ some w = sym (name-there n j w sheet (eqb-false n j f)) ∙ k ∙ sym q in
        absurd (d j r)
    go ih false e true f =
        let q : some w ≡ some v = sym (name-here n w sheet) ∙ ap (name_of (record { number = n; name = w } ∷ sheet)) (eqb-true n j f) ∙ k in
        let r : name_of sheet i ≡ some w = sym (name-there n i w sheet (eqb-false n i e)) ∙ h ∙ sym q in
        absurd (d i r)
    go ih false e false f =
        ih (sym (name-there n i w sheet (eqb-false n i e)) ∙ h) (sym (name-there n j w sheet (eqb-false n j f)) ∙ k)

is-named : (o : Option Name) (w : Name) → is_named w o ≡ true → o ≡ some w
is-named none w h = absurd (true≢false (sym h))
is-named (some v) w h = ap some (same_true v w h)

-- ---- a number by its name
pub number-of : {sheet : Sheet} → Names sheet → (a : ℕ) (w : Name) → name_of sheet a ≡ some w → number_of sheet w ≡ some a
unfolding number_of
number-of {sheet} s a w h =
    some-least (λ k. is_named w (name_of sheet k)) max_actions a
    (record {
      below = named-below s a w h;
      here = ap (is_named w) h ∙ same_refl w;
      before = λ j l. not_so (is_named w (name_of sheet j)) (λ t. let e = one_number s j a w (is-named (name_of sheet j) w t) h in omega arith);
    })

pub name-of : (sheet : Sheet) (a : ℕ) (w : Name) → number_of sheet w ≡ some a → (name_of sheet a ≡ some w) × (a < max_actions)
unfolding number_of
name-of sheet a w h =
    let l = least-some (λ k. is_named w (name_of sheet k)) max_actions a h in
    (is-named (name_of sheet a) w l.here, l.below)

-- ---- a good name has a good shape
letter-fits : (b : ℕ) → is_letter_or_digit b ≡ true → ends_name b ≡ false
letter-fits b h = ⊎_elim letter digit (or_cases (is_letter b) (leb 48 b && leb b 57) h)
  where
    high : 11 ≤ b → ends_name b ≡ false
    high l = rw (ne_eqb b 9 (λ e. omega arith), ne_eqb b 10 (λ e. omega arith))

    letter : is_letter b ≡ true → ends_name b ≡ false
    letter g = let p = and-true (leb 97 b) (leb b 122) g in high (let l = leb-true 97 b p.0 in omega arith)

    digit : (leb 48 b && leb b 57) ≡ true → ends_name b ≡ false
    digit g = let p = and-true (leb 48 b) (leb b 57) g in high (let l = leb-true 48 b p.0 in omega arith)

letters-fit : (w : Name) → letters_or_digits w ≡ true → NameFits w
unfolding letters_or_digits
letters-fit [] h = tt
letters-fit (b ∷ w) h = let p = and-true (is_letter_or_digit b) (letters_or_digits w) h in (letter-fits b p.0, letters-fit w p.1)

pub good-fits : (w : Name) → good_name w ≡ true → NameFits w
unfolding good_name
good-fits [] h = tt
good-fits (b ∷ w) h =
    let p = and-true (is_letter b) (leb (length (b ∷ w)) 16 && letters_or_digits w) h in
    let q = and-true (leb (length (b ∷ w)) 16) (letters_or_digits w) p.1 in
    (letter-fits b (or_left (is_letter b) (leb 48 b && leb b 57) p.0), letters-fit w q.1)

pub names-fit : {sheet : Sheet} → Names sheet → (a : ℕ) (v : Name) → name_of sheet a ≡ some v → NameFits v
names-fit no_name a v h = absurd (no-some (no_names a) h)
names-fit (name {sheet} n w s l u g d) a v h = go (λ x. names-fit s a v x) (eqb n a) refl
  where
    go : (name_of sheet a ≡ some v → NameFits v) → (b : Bool) → eqb n a ≡ b → NameFits v
    go ih true e =
        let q : some w ≡ some v = sym (name-here n w sheet) ∙ ap (name_of (record { number = n; name = w } ∷ sheet)) (eqb-true n a e) ∙ h in
        let r : w ≡ v = cc in
        rw (← r) (good-fits w g)
    go ih false e = ih (sym (name-there n a w sheet (eqb-false n a e)) ∙ h)

-- the numbers of the sheet are below the next
pub lower : {sheet : Sheet} → Names sheet → (n : ℕ) → above sheet n ≡ true → (a : ℕ) (v : Name) → name_of sheet a ≡ some v → a < n
lower no_name n u a v h = absurd (no-some (no_names a) h)
lower (name {sheet} m w s l z g d) n u a v h = go (λ x. lower s m z a v x) (eqb m a) refl
  where
    less : m < n
    less = ltb-true m n u

    go : (name_of sheet a ≡ some v → a < m) → (b : Bool) → eqb m a ≡ b → a < n
    go ih true e = let q = eqb-true m a e in let y = less in omega arith
    go ih false e = let x = ih (sym (name-there m a w sheet (eqb-false m a e)) ∙ h) in let y = less in omega arith
