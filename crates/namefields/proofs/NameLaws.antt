-- A name at a place goes byte by byte.
use mathlib.Core.Path.{◌≡◌, refl, ◌∙◌, ap}
use mathlib.Core.Bool.{Bool, true, false, true≢false}
use mathlib.Core.List.{List, [], ◌∷◌}
use Prim.Native.Nat.{ℕ, ◌+◌, ◌≤◌, ◌<◌}
use native.Mathlib.Omega.{arith}
use lib.ListN.{length, drop, get_or, drop_of_length-le}
use lib.Dec.{eqb}
use borrow.Author.Tests.{eq-eqb, ne_eqb, le-leb, lt-leb}
use Rattle.std.specs.Prelude.{Some, None, MatchOption}
use Rattle.laws.specs.Search.{least}
use Rattle.laws.proofs.SearchLaws.{none-least, some-least}
use Rattle.laws.proofs.TestLaws.{apart-cases}
use Rattle.fields.proofs.ScanLaws.{front}
use Rattle.named.specs.NamedText.{Name, max_name, is_letter, is_letter_or_digit, letters_or_digits, good_name, same_name, is_named, ends_name, name_at}
use Rattle.named.proofs.Names.{Stops, name-end, name-next}
use Rattle.namefields.specs.NameFields.{name_from, name_stops, name_by, Found, found_is}

stopped : (bs : List ℕ) → name_stops bs ≡ true → Stops bs
stopped [] h = tt
stopped (b ∷ bs) h = h

module _ (t : List ℕ) (at : ℕ) where
  pub stops_end : length t ≤ at → true ≡ name_stops (drop at t)
  stops_end h = rw (drop_of_length-le t h)

  pub stops-byte : at < length t → ends_name (get_or t at 0) ≡ name_stops (drop at t)
  stops-byte h = rw (front t at h)

  pub stops-tab : at < length t → get_or t at 0 ≡ 9 → true ≡ name_stops (drop at t)
  stops-tab h e = rw (front t at h) (rw (eq-eqb (get_or t at 0) 9 e))

  pub stops-other : at < length t → (get_or t at 0 ≡ 9 → ⊥) → eqb (get_or t at 0) 10 ≡ name_stops (drop at t)
  stops-other h e = rw (front t at h) (rw (ne_eqb (get_or t at 0) 9 e))

  pub inside : name_stops (drop at t) ≡ false → at < length t
  inside h = apart-cases at (length t) (λ e. absurd (true≢false (stops_end (omega arith) ∙ h)))
      (λ l. l) (λ l. absurd (true≢false (stops_end (omega arith) ∙ h)))

  pub name-over : name_stops (drop at t) ≡ true → name_from t at ≡ []
  name-over h = ap (λ g. g.value) (name-end (drop at t) (stopped (drop at t) h))

  pub name-on : name_stops (drop at t) ≡ false → name_from t at ≡ get_or t at 0 ∷ name_from t (at + 1)
  name-on h =
      let l = inside h in
      let e = front t at l in
      ap (λ bs. (name_at bs).value) e ∙ ap (λ g. g.value) (name-next (get_or t at 0) (drop (at + 1) t) (stops-byte l ∙ h))

-- ---- the same name
pub same_over : (v w : Name) (b : Bool) → v ≡ [] → (b ≡ true → w ≡ []) → (b ≡ false → (x : ℕ) × (u : Name) × (w ≡ x ∷ u)) → b ≡ same_name v w
unfolding same_name
same_over v w true e f g = rw (e, f refl, same_name)
same_over v w false e f g = rw (e, (g refl).2, same_name)

pub same-short : (v w : Name) (x : ℕ) (u : Name) → v ≡ x ∷ u → w ≡ [] → false ≡ same_name v w
unfolding same_name
same-short v w x u e f = rw (e, f, same_name)

pub same-other : (v w : Name) (x y : ℕ) (u z : Name) → v ≡ x ∷ u → w ≡ y ∷ z → (x ≡ y → ⊥) → false ≡ same_name v w
unfolding same_name
same-other v w x y u z e f n = rw (e, f, ne_eqb x y n, same_name)

pub same-on : (v w : Name) (x y : ℕ) (u z : Name) → v ≡ x ∷ u → w ≡ y ∷ z → x ≡ y → same_name u z ≡ same_name v w
unfolding same_name
same-on v w x y u z e f n = rw (e, f, eq-eqb x y n, same_name)

-- ---- a good name
pub letters-over : (v : Name) → v ≡ [] → true ≡ letters_or_digits v
unfolding letters_or_digits
letters-over v e = rw (e, letters_or_digits)

pub letters-on : (v : Name) (x : ℕ) (u : Name) → v ≡ x ∷ u → is_letter_or_digit x ≡ true → letters_or_digits u ≡ letters_or_digits v
unfolding letters_or_digits
letters-on v x u e h = rw (e, h, letters_or_digits)

pub letters-bad : (v : Name) (x : ℕ) (u : Name) → v ≡ x ∷ u → is_letter_or_digit x ≡ false → false ≡ letters_or_digits v
unfolding letters_or_digits
letters-bad v x u e h = rw (e, h, letters_or_digits)

pub good_none : (v : Name) → v ≡ [] → false ≡ good_name v
unfolding good_name
good_none v e = rw (e, good_name)

pub good-first : (v : Name) (x : ℕ) (u : Name) → v ≡ x ∷ u → is_letter x ≡ false → false ≡ good_name v
unfolding good_name
good-first v x u e h = rw (e, h, good_name)

pub good-long : (v : Name) (x : ℕ) (u : Name) → v ≡ x ∷ u → is_letter x ≡ true → max_name < length v → false ≡ good_name v
unfolding good_name
good-long v x u e h l = rw (e, h, lt-leb (length (x ∷ u)) max_name (let z = ap length e in omega arith), good_name)

pub good-as : (v : Name) (x : ℕ) (u : Name) → v ≡ x ∷ u → is_letter x ≡ true → length v ≤ max_name → letters_or_digits u ≡ good_name v
unfolding good_name
good-as v x u e h l = rw (e, h, le-leb (length (x ∷ u)) max_name (let z = ap length e in omega arith), good_name)

-- ---- a name at a place
pub named_none : (t : List ℕ) (place at : ℕ) → place ≡ 0 → false ≡ is_named (name_from t at) (name_by t place)
named_none t place at e = rw (eq-eqb place 0 e)

pub named-as : (t : List ℕ) (place at : ℕ) → (place ≡ 0 → ⊥) → same_name (name_from t place) (name_from t at) ≡ is_named (name_from t at) (name_by t place)
named-as t place at n = rw (ne_eqb place 0 n)

-- ---- what `find` over 0 .. n answers by a test
pub found-least : (test : ℕ → Bool) (n : ℕ) (r : Found)
    → MatchOption r ((k : ℕ) → 0 ≤ k → k < n → test k ≡ false)
    (λ i. (0 ≤ i) × (i < n) × (test i ≡ true) × ((k : ℕ) → 0 ≤ k → k < i → test k ≡ false))
    → found_is r ≡ least test n
found-least test n None h = rw (none-least test n (λ k p. h k (omega arith) p))
found-least test n (Some i) h = rw (some-least test n i (record { below = h.1; here = h.2; before = λ k p. h.3 k (omega arith) p }))
