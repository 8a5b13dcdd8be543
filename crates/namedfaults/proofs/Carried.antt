-- The place that reading tells of a line's fault, in the second form, is the one that the fault carries.
use mathlib.Core.Path.{◌≡◌, refl, sym, ◌∙◌, ap, subst}
use mathlib.Core.Logic.{◌↔◌}
use mathlib.Core.Option.{Option, none, some, some_inj}
use mathlib.Core.List.{List, [], ◌∷◌, ◌++◌}
use Prim.Native.Nat.{ℕ, ◌<◌, ◌≤◌}
use native.Mathlib.Omega.{arith}
use lib.ListN.{length}
use borrow.Author.Tests.{ne_eqb}
use Rattle.laws.specs.Sets.{◌∈◌}
use Rattle.laws.proofs.SearchLaws.{no-some}
use Rattle.laws.proofs.SetLaws.{none_in}
use Rattle.model.specs.Model.{Comp, acts}
use Rattle.model.specs.Text.{decimal}
use Rattle.model.specs.Reading.{Entry, row-entry, Progress, current, states_by, outside, unnamed, first_column, column_of, action-value}
use Rattle.model.specs.Column.{fields_up_to, Ranged, Owned}
use Rattle.model.proofs.Reading.FirstValue.{first-value-exactly, first-name-exactly}
use Rattle.model.proofs.Reading.Stopped.{one-wrong}
use Rattle.named.specs.NamedText.{Name, name_word, number_of, Line, form-line, name-line, act-line, row-line, plain-line, line_text, LineFits₂}
use Rattle.named.specs.ReadNamed.{Progress₂, without_acts, name_column, moved_by, moved_in, behind_line}
use Rattle.namedtheory.proofs.Lookup.{name-of}
use Rattle.namedfaults.specs.NamedFaults.{InRange₂, Named₂, LineAt₂, Declared, Value₂, value, Stands₂, number_at, FirstValue₂, states_by₂, Ranged₂, Owned₂}
use Rattle.namedfaults.specs.NamedFaults.{LineFault₂, wrong-shape, out-of-turn, is_out_of_range, not_named, is_out_of_order, bad-name, not_known, is_too_many}
use Rattle.namedfaults.specs.NamedFaults.{Carries₂, wrong_byte, range-value, name-value, line-alone}
use Rattle.namedfaults.proofs.LowestNamed.{one_line}
use Rattle.namedfaults.proofs.FirstNamed.{row_first, plain-first, one-first}

itself : {A : Type 0} → A ↔ A
itself = (λ a. a, λ a. a)

-- ---- no column but for 4 and 5
no-column : (c : Comp) (f : ℕ) (e : Entry) → ¬ (f ≡ 4) → ¬ (f ≡ 5) → column_of c f e ≡ []
unfolding column_of
no-column c f e h k = rw (ne_eqb f 4 h, ne_eqb f 5 k)

module _ (p : Progress₂) where
  abbrev c : Comp
  c = current p.model

  abbrev c' : Comp
  c' = current (without_acts p.model)

  row-known : (f s : ℕ) (g : Option ℕ) (w : Name) (r : List ℕ) (t a : ℕ) → number_of p.sheet w ≡ some a
      → behind_line p f (row-line s g w r t) ≡ moved_in s g w a (column_of c f (row-entry s g a r t))
  unfolding behind_line
  row-known f s g w r t a e = rw (e, behind_line)

  row-unknown : (f s : ℕ) (g : Option ℕ) (w : Name) (r : List ℕ) (t : ℕ) → number_of p.sheet w ≡ none
      → behind_line p f (row-line s g w r t) ≡ moved_in s g w 0 (column_of c' f (row-entry s g 0 r t))
  unfolding behind_line
  row-unknown f s g w r t e = rw (e, behind_line)

  alone : (f : ℕ) (l : Line) → ¬ (f ≡ 4) → ¬ (f ≡ 5) → behind_line p f l ≡ []
  unfolding behind_line
  alone f form-line h k = refl
  alone f (name-line n w) h k = rw (ne_eqb f 4 h)
  alone f (act-line w i) h k = refl
  alone f (plain-line e) h k = no-column c f e h k
  alone f (row-line s g w r t) h k = go (number_of p.sheet w) refl
    where
      go : (o : Option ℕ) → number_of p.sheet w ≡ o → behind_line p f (row-line s g w r t) ≡ []
      go (some a) e = row-known f s g w r t a e ∙ ap (moved_in s g w a) (no-column c f (row-entry s g a r t) h k)
      go none e = row-unknown f s g w r t e ∙ ap (moved_in s g w 0) (no-column c' f (row-entry s g 0 r t) h k)

  -- ---- a component without its actions
  less-acts : (q : Progress) → ((current (without_acts q)).states ≡ (current q).states) × ((current (without_acts q)).clocks ≡ (current q).clocks)
      × ((0 ∈ acts (current (without_acts q))) → ⊥)
  less-acts q = go q.comps
    where
      go : (cs : List Comp) → let q : Progress = record { comps = cs; last = q.last } in
          ((current (without_acts q)).states ≡ (current q).states) × ((current (without_acts q)).clocks ≡ (current q).clocks)
          × ((0 ∈ acts (current (without_acts q))) → ⊥)
      go [] = (refl, refl, none_in 0)
      go (x ∷ cs) = (refl, refl, none_in 0)

  states-same : c'.states ≡ c.states
  states-same = (less-acts p.model).0

  clocks-same : c'.clocks ≡ c.clocks
  clocks-same = (less-acts p.model).1

  both : {A : Type 0} (P : A → Type 0) {x y : A} → x ≡ y → P x ↔ P y
  both P e = (subst P e, subst P (sym e))

  -- ---- 4
  Told4 : Line → List ℕ → Type 0
  Told4 l column = (k : ℕ) × FirstValue₂ (Ranged₂ (states_by₂ c l)) l k × (column ≡ k ∷ [])

  column4 : (d : Comp) (e : Entry) → column_of d 4 e ≡ first_column (outside (states_by d e)) e ∷ []
  unfolding column_of
  column4 d e = refl

  name-least : (n : ℕ) (w : Name) (v : Value₂) (b : List ℕ) → Stands₂ (name-line n w) v b → length (name_word ++ fields_up_to []) ≤ length b
  name-least n w v b number_at = omega arith

  told4 : (l : Line) → ¬ InRange₂ p l → Told4 l (behind_line p 4 l)
  unfolding behind_line fields_up_to Told4
  told4 form-line h = absurd (h tt)
  told4 (name-line n w) h =
      let f : FirstValue₂ (Ranged₂ c.states) (name-line n w) 6 = record {
        value = value (action-value n);
        before = name_word ++ fields_up_to [];
        stands = number_at;
        fault = h;
        first = λ v b z _. name-least n w v b z;
        at = refl;
      } in
      (6, f, refl)
  told4 (act-line w k) h = absurd (h tt)
  told4 (plain-line e) h =
      let f = (first-value-exactly c e h (first_column (outside (states_by c e)) e)).0 refl in
      (first_column (outside (states_by c e)) e, plain-first e (Ranged (states_by c e)) (Ranged₂ (states_by c e)) (λ v. itself) _ f, column4 c e)
  told4 (row-line s g w r t) h = go (number_of p.sheet w) refl
    where
      go : (o : Option ℕ) → number_of p.sheet w ≡ o → Told4 (row-line s g w r t) (behind_line p 4 (row-line s g w r t))
      go (some a) e =
          let d = row-entry s g a r t in
          let k = first_column (outside c.states) d in
          let f = (first-value-exactly c d (λ q. h (q.0, q.1, q.3, q.4)) k).0 refl in (
            moved_by (name_column s g) (length w) (length (decimal a)) k,
            row_first s a w r t (Ranged c.states) (Ranged₂ c.states) (λ n. itself) (λ x. itself) (λ _. tt, λ _. (name-of p.sheet a w e).1) g k f,
            row-known 4 s g w r t a e ∙ ap (moved_in s g w a) (column4 c d),
          )
      go none e =
          let d = row-entry s g 0 r t in
          let k = first_column (outside c'.states) d in
          let z = states-same in
          let f = (first-value-exactly c' d (λ q. h (subst (λ i. s < i) z q.0, q.1, q.3, subst (λ i. t < i) z q.4)) k).0 refl in (
            moved_by (name_column s g) (length w) (length (decimal 0)) k,
            row_first s 0 w r t (Ranged c'.states) (Ranged₂ c.states) (λ n. both (λ i. n < i) z) (λ x. itself) (λ _. tt, λ _. omega arith) g k f,
            row-unknown 4 s g w r t e ∙ ap (moved_in s g w 0) (column4 c' d),
          )

  -- ---- 5
  Told5 : Line → List ℕ → Type 0
  Told5 l column = (k : ℕ) × FirstValue₂ (Owned₂ p) l k × (column ≡ k ∷ [])

  column5 : (d : Comp) (e : Entry) → column_of d 5 e ≡ first_column (unnamed d) e ∷ []
  unfolding column_of
  column5 d e = refl

  told5 : (l : Line) → ¬ Named₂ p l → Told5 l (behind_line p 5 l)
  unfolding behind_line Told5
  told5 form-line h = absurd (h tt)
  told5 (name-line n w) h = absurd (h tt)
  told5 (act-line w k) h = absurd (h tt)
  told5 (plain-line e) h =
      let f = (first-name-exactly c e h (first_column (unnamed c) e)).0 refl in
      (first_column (unnamed c) e, plain-first e (Owned c) (Owned₂ p) (λ v. itself) _ f, column5 c e)
  told5 (row-line s g w r t) h = go (number_of p.sheet w) refl
    where
      go : (o : Option ℕ) → number_of p.sheet w ≡ o → Told5 (row-line s g w r t) (behind_line p 5 (row-line s g w r t))
      go (some a) e =
          let d = row-entry s g a r t in
          let k = first_column (unnamed c) d in
          let f = (first-name-exactly c d (λ q. h (q.0, (a, e, q.1), q.2)) k).0 refl in
          let same : (a ∈ acts c) ↔ Declared p w = (λ x. (a, e, x), λ x. subst (λ i. i ∈ acts c) (some_inj.0 (sym x.1 ∙ e)) x.2) in (
            moved_by (name_column s g) (length w) (length (decimal a)) k,
            row_first s a w r t (Owned c) (Owned₂ p) (λ n. itself) (λ x. itself) same g k f,
            row-known 5 s g w r t a e ∙ ap (moved_in s g w a) (column5 c d),
          )
      go none e =
          let d = row-entry s g 0 r t in
          let k = first_column (unnamed c') d in
          let no : (0 ∈ acts c') → ⊥ = (less-acts p.model).2 in
          let f = (first-name-exactly c' d (λ q. no q.1) k).0 refl in (
            moved_by (name_column s g) (length w) (length (decimal 0)) k,
            row_first s 0 w r t (Owned c') (Owned₂ p) (λ n. itself) (λ x. both (λ i. x ∈ i) clocks-same)
                (λ x. absurd (no x), λ x. absurd (no-some e x.1)) g k f,
            row-unknown 5 s g w r t e ∙ ap (moved_in s g w 0) (column5 c' d),
          )

  -- ---- whatever the fault
  module _ (bs : List ℕ) (l : Line) (cs : List ℕ) (here : LineAt₂ bs l cs) where
    bare : (n i : ℕ) → n ≡ i → ¬ (i ≡ 2) → ¬ (i ≡ 4) → ¬ (i ≡ 5) → Carries₂ p bs n (behind_line p n l)
    bare n i z a b d = line-alone (λ q. a (sym z ∙ q)) (λ q. b (sym z ∙ q)) (λ q. d (sym z ∙ q)) (alone n l (λ q. b (sym z ∙ q)) (λ q. d (sym z ∙ q)))

    pub carries : (n : ℕ) → LineFault₂ p bs n → Carries₂ p bs n (behind_line p n l)
    unfolding Told4 Told5
    carries n (wrong-shape z h) = absurd (h l cs here)
    carries n (out-of-turn z h w) = bare n 3 z (λ q. omega arith) (λ q. omega arith) (λ q. omega arith)
    carries n (is_out_of_range z h w) =
        let t = told4 l (λ q. w (subst (InRange₂ p) (one_line here h) q)) in
        rw z (range-value refl here t.1 t.2)
    carries n (not_named z h w) =
        let t = told5 l (λ q. w (subst (Named₂ p) (one_line here h) q)) in
        rw z (name-value refl here t.1 t.2)
    carries n (is_out_of_order z h w) = bare n 6 z (λ q. omega arith) (λ q. omega arith) (λ q. omega arith)
    carries n (bad-name z h w) = bare n 43 z (λ q. omega arith) (λ q. omega arith) (λ q. omega arith)
    carries n (not_known z h w) = bare n 44 z (λ q. omega arith) (λ q. omega arith) (λ q. omega arith)
    carries n (is_too_many z h w) = bare n 7 z (λ q. omega arith) (λ q. omega arith) (λ q. omega arith)

-- ---- a fault carries no other column
pub one-column : {p : Progress₂} {bs : List ℕ} {n : ℕ} {a b : List ℕ} → Carries₂ p bs n a → Carries₂ p bs n b → a ≡ b
one-column (wrong_byte z w q) (wrong_byte y v r) = q ∙ ap (λ k. k ∷ []) (one-wrong line_text LineFits₂ w v) ∙ sym r
one-column (wrong_byte z w q) (range-value y l v r) = absurd (omega arith)
one-column (wrong_byte z w q) (name-value y l v r) = absurd (omega arith)
one-column (wrong_byte z w q) (line-alone x y v r) = absurd (x z)
one-column (range-value z l w q) (wrong_byte y v r) = absurd (omega arith)
one-column {p} (range-value {l = e} {k = j} z l w q) (range-value {l = d} {k = k} y m v r) =
    let f : FirstValue₂ (Ranged₂ (states_by₂ (current p.model) e)) e k = subst (λ e. FirstValue₂ (Ranged₂ (states_by₂ (current p.model) e)) e k)
    (one_line m l) v in
    q ∙ ap (λ k. k ∷ []) (one-first w f) ∙ sym r
one-column (range-value z l w q) (name-value y m v r) = absurd (omega arith)
one-column (range-value z l w q) (line-alone x y v r) = absurd (y z)
one-column (name-value z l w q) (wrong_byte y v r) = absurd (omega arith)
one-column (name-value z l w q) (range-value y m v r) = absurd (omega arith)
one-column {p} (name-value {l = e} {k = j} z l w q) (name-value {l = d} {k = k} y m v r) =
    let f : FirstValue₂ (Owned₂ p) e k = subst (λ e. FirstValue₂ (Owned₂ p) e k) (one_line m l) v in
    q ∙ ap (λ k. k ∷ []) (one-first w f) ∙ sym r
one-column (name-value z l w q) (line-alone x y v r) = absurd (v z)
one-column (line-alone x y v q) (wrong_byte z w r) = absurd (x z)
one-column (line-alone x y v q) (range-value z l w r) = absurd (y z)
one-column (line-alone x y v q) (name-value z l w r) = absurd (v z)
one-column (line-alone x y v q) (line-alone x₂ y₂ v₂ r) = q ∙ sym r
