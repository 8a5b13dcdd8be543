-- A line of the second form is judged and taken in as the old line that it is.
use mathlib.Core.Path.{◌≡◌, refl, sym, ◌∙◌, ap}
use mathlib.Core.Option.{Option, none, some}
use mathlib.Core.Bool.{Bool, true, false, ◌&&◌, not, cond, true≢false}
use mathlib.Core.List.{List, [], ◌∷◌}
use Prim.Native.Nat.{ℕ}
use Rattle.laws.specs.Sets.{has}
use Rattle.laws.specs.Search.{when, or_else, map_some}
use Rattle.laws.proofs.SetLaws.{none_in}
use Rattle.laws.proofs.SearchLaws.{no-some}
use Rattle.laws.proofs.TestLaws.{not_so}
use Rattle.model.specs.Model.{Comp, acts}
use Rattle.model.specs.Text.{Kind}
use Rattle.model.specs.Reading.{Entry, act-entry, row-entry, Progress, current, guard_in, all_in, lacks, out_of_turn, out_of_range, out_of_order, too_many, fault_of}
use Rattle.named.specs.NamedText.{Name, number_of, Line, form-line, name-line, act-line, row-line, plain-line}
use Rattle.named.specs.ReadNamed.{Progress₂, resolve, without_acts, fault_named, with_old, taken}

-- ---- a name that has a number
module _ (p : Progress₂) where
  pub act-known : (w : Name) (k : Kind) {a : ℕ} → number_of p.sheet w ≡ some a → fault_named p (act-line w k) ≡ fault_of p.model (act-entry a k)
  unfolding fault_named
  act-known w k h = rw (h, fault_named)

  pub row-known : (s : ℕ) (g : Option ℕ) (w : Name) (r : List ℕ) (t : ℕ) {a : ℕ} → number_of p.sheet w ≡ some a
      → fault_named p (row-line s g w r t) ≡ fault_of p.model (row-entry s g a r t)
  unfolding fault_named
  row-known s g w r t h = rw (h, fault_named)

  pub act-unknown : (w : Name) (k : Kind) → number_of p.sheet w ≡ none
      → fault_named p (act-line w k) ≡ cond (out_of_turn p.model.last (act-entry 0 k)) (some 3) (some 44)
  unfolding fault_named
  act-unknown w k h = rw (h, fault_named)

  pub row-unknown : (s : ℕ) (g : Option ℕ) (w : Name) (r : List ℕ) (t : ℕ) → number_of p.sheet w ≡ none
      → fault_named p (row-line s g w r t) ≡ fault_of (without_acts p.model) (row-entry s g 0 r t)
  unfolding fault_named
  row-unknown s g w r t h = rw (h, fault_named)

  pub plain-fault : (e : Entry) → fault_named p (plain-line e) ≡ fault_of p.model e
  unfolding fault_named
  plain-fault e = refl

-- a component without actions lacks every one
no-act : (p : Progress) → has (acts (current (without_acts p))) 0 ≡ false
no-act p = go p.comps
  where
    go : (m : List Comp) → has (acts (current (without_acts (record { comps = m; last = p.last })))) 0 ≡ false
    go [] = not_so (has 0 0) (none_in 0)
    go (c ∷ m) = not_so (has 0 0) (none_in 0)

and-mid : (a b : Bool) → not (a && (false && b)) ≡ true
and-mid true b = refl
and-mid false b = refl

pub unknown-lacks : (p : Progress) (s : ℕ) (g : Option ℕ) (r : List ℕ) (t : ℕ) → lacks (current (without_acts p)) (row-entry s g 0 r t) ≡ true
unfolding lacks
unknown-lacks p s g r t = rw (no-act p) (and-mid (guard_in (current (without_acts p)).clocks g) (all_in (current (without_acts p)).clocks r))

pub unknown-faulty : (p : Progress) (s : ℕ) (g : Option ℕ) (r : List ℕ) (t : ℕ) → fault_of (without_acts p) (row-entry s g 0 r t) ≡ none → ⊥
unfolding fault_of
unknown-faulty p s g r t h =
    go (out_of_turn p.last (row-entry s g 0 r t)) (out_of_range (current (without_acts p)) (row-entry s g 0 r t))
    (lacks (current (without_acts p)) (row-entry s g 0 r t))
    (unknown-lacks p s g r t) h
  where
    rest : Option ℕ
    rest = or_else (when (out_of_order p.last (row-entry s g 0 r t)) 6) (when (too_many (without_acts p).comps (row-entry s g 0 r t)) 7)

    go : (a b c : Bool) → c ≡ true → or_else (when a 3) (or_else (when b 4) (or_else (when c 5) rest)) ≡ none → ⊥
    go true b c e h = no-some h refl
    go false true c e h = no-some h refl
    go false false true e h = no-some h refl
    go false false false e h = true≢false (sym e)

-- ---- what a faultless line is
pub data Good (p : Progress₂) : Line → Type 0 where
  good-name : (n : ℕ) (w : Name) → p.model.last ≡ none → Good p (name-line n w)
  good_old : {l : Line} (e : Entry) → resolve p.sheet l ≡ some e → fault_of p.model e ≡ none → taken p l ≡ with_old p (some e) → Good p l

act-taken : (p : Progress₂) (w : Name) (k : Kind) {a : ℕ} → number_of p.sheet w ≡ some a → taken p (act-line w k) ≡ with_old p (some (act-entry a k))
unfolding taken
act-taken p w k h = rw (h)

row-taken : (p : Progress₂) (s : ℕ) (g : Option ℕ) (w : Name) (r : List ℕ) (t : ℕ) {a : ℕ} → number_of p.sheet w ≡ some a
    → taken p (row-line s g w r t) ≡ with_old p (some (row-entry s g a r t))
unfolding taken
row-taken p s g w r t h = rw (h)

pub good : (p : Progress₂) (l : Line) → fault_named p l ≡ none → Good p l
unfolding fault_named taken
good p form-line h = absurd (no-some h refl)
good p (name-line n w) h = go p.model.last refl h
  where
    go : (o : Option Entry) → p.model.last ≡ o → fault_named p (name-line n w) ≡ none → Good p (name-line n w)
    go none e h = good-name n w e
    go (some d) e h = absurd (no-some {x = 3} h (rw (e, fault_named)))
good p (act-line w k) h = go (number_of p.sheet w) refl h
  where
    turned : (b : Bool) → cond {A = Option ℕ} b (some 3) (some 44) ≡ none → ⊥
    turned true e = no-some e refl
    turned false e = no-some e refl

    go : (o : Option ℕ) → number_of p.sheet w ≡ o → fault_named p (act-line w k) ≡ none → Good p (act-line w k)
    go none e h = absurd (turned (out_of_turn p.model.last (act-entry 0 k)) (sym (act-unknown p w k e) ∙ h))
    go (some a) e h = good_old (act-entry a k) (ap (map_some (λ a. act-entry a k)) e) (sym (act-known p w k e) ∙ h) (act-taken p w k e)
good p (row-line s g w r t) h = go (number_of p.sheet w) refl h
  where
    go : (o : Option ℕ) → number_of p.sheet w ≡ o → fault_named p (row-line s g w r t) ≡ none → Good p (row-line s g w r t)
    go none e h = absurd (unknown-faulty p.model s g r t (sym (row-unknown p s g w r t e) ∙ h))
    go (some a) e h = good_old (row-entry s g a r t) (ap (map_some (λ a. row-entry s g a r t)) e) (sym (row-known p s g w r t e) ∙ h) (row-taken p s g w r t e)
good p (plain-line e) h = good_old e refl (sym (plain-fault p e) ∙ h) refl

-- the other way
pub resolved-fault : (p : Progress₂) (l : Line) (e : Entry) → resolve p.sheet l ≡ some e
    → (fault_named p l ≡ fault_of p.model e) × (taken p l ≡ with_old p (some e))
unfolding taken
resolved-fault p form-line e h = absurd (no-some refl h)
resolved-fault p (name-line n w) e h = absurd (no-some refl h)
resolved-fault p (act-line w k) e h = go (number_of p.sheet w) refl h
  where
    go : (o : Option ℕ) → number_of p.sheet w ≡ o → map_some (λ a. act-entry a k) o ≡ some e
        → (fault_named p (act-line w k) ≡ fault_of p.model e) × (taken p (act-line w k) ≡ with_old p (some e))
    go none q h = absurd (no-some refl h)
    go (some a) q h = let d : act-entry a k ≡ e = cc in (act-known p w k q ∙ ap (fault_of p.model) d, act-taken p w k q ∙ ap (λ x. with_old p (some x)) d)
resolved-fault p (row-line s g w r t) e h = go (number_of p.sheet w) refl h
  where
    go : (o : Option ℕ) → number_of p.sheet w ≡ o → map_some (λ a. row-entry s g a r t) o ≡ some e
        → (fault_named p (row-line s g w r t) ≡ fault_of p.model e) × (taken p (row-line s g w r t) ≡ with_old p (some e))
    go none q h = absurd (no-some refl h)
    go (some a) q h = let d : row-entry s g a r t ≡ e = cc in
        (row-known p s g w r t q ∙ ap (fault_of p.model) d, row-taken p s g w r t q ∙ ap (λ x. with_old p (some x)) d)
resolved-fault p (plain-line d) e h = let q : d ≡ e = cc in (plain-fault p d ∙ ap (fault_of p.model) q, ap (λ x. with_old p (some x)) q)
