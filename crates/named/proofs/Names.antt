-- A name is scanned as it is printed, and two names are the same exactly if their bytes are.
use mathlib.Core.Path.{◌≡◌, refl, ◌∙◌, ap, ap₂}
use mathlib.Core.Bool.{Bool, true, false}
use mathlib.Core.List.{List, [], ◌∷◌, ◌++◌, append_assoc}
use Prim.Native.Nat.{ℕ}
use native.Mathlib.Omega.{arith}
use lib.Dec.{eqb}
use borrow.Author.Tests.{eqb-true, eq-eqb}
use Rattle.laws.proofs.TestLaws.{and-true}
use Rattle.model.specs.Text.{fields_after}
use Rattle.model.specs.Reading.{Got, is, got, exactly, field}
use Rattle.model.specs.Line.{Exact}
use Rattle.named.specs.NamedText.{Name, ends_name, name_at, name_scan, with_byte, same_name, NameFits}

-- a name may end before these bytes
abbrev pub Stops : List ℕ → Type 0
Stops [] = Unit {0}
Stops (b ∷ bs) = ends_name b ≡ true

pub name-end : (bs : List ℕ) → Stops bs → name_at bs ≡ record { value = []; rest = bs }
unfolding name_at
name-end [] h = refl
name-end (b ∷ bs) h = rw (h, name_at)

pub name-next : (b : ℕ) (bs : List ℕ) → ends_name b ≡ false → name_at (b ∷ bs) ≡ with_byte b (name_at bs)
unfolding name_at
name-next b bs h = rw (h, name_at)

name-printed : (w bs : List ℕ) → NameFits w → Stops bs → name_at (w ++ bs) ≡ record { value = w; rest = bs }
name-printed [] bs f h = name-end bs h
name-printed (b ∷ w) bs f h = name-next b (w ++ bs) f.0 ∙ ap (with_byte b) (name-printed w bs f.1 h)

-- what stands at the front is the name, and it ends there
pub record NameHere (bs : List ℕ) (g : Got Name) : Type 0 where
  pub bytes : bs ≡ g.value ++ g.rest
  pub fits : NameFits g.value
  pub stops : Stops g.rest

pub name-here : (bs : List ℕ) → NameHere bs (name_at bs)
name-here [] = rw (name-end [] tt) (record { bytes = refl; fits = tt; stops = tt })
name-here (b ∷ bs) = go (name-here bs) (ends_name b) refl
  where
    go : NameHere bs (name_at bs) → (e : Bool) → ends_name b ≡ e → NameHere (b ∷ bs) (name_at (b ∷ bs))
    go ih true h = rw (name-end (b ∷ bs) h) (record { bytes = refl; fits = tt; stops = h })
    go ih false h = rw (name-next b bs h) (record { bytes = ap {B = List ℕ} (λ l. b ∷ l) ih.bytes; fits = (h, ih.fits); stops = ih.stops })

pub name-exact : Exact name_scan (λ (w : Name). w) NameFits Stops
name-exact =
    record {
      printed = λ w bs f h. ap is (name-printed w bs f h);
      scanned = λ bs g e. let q : name_at bs ≡ g = cc in rw (← q) ((name-here bs).bytes, (name-here bs).fits);
    }

pub fields-stop : (fs : List (List ℕ)) (bs : List ℕ) → Stops (fields_after fs ++ bs)
unfolding fields_after
fields-stop [] bs = refl
fields-stop (f ∷ fs) bs = refl

pub name-field : (w : Name) → NameFits w → (fs : List (List ℕ)) (bs : List ℕ) → field name_scan (fields_after (w ∷ fs) ++ bs) ≡ got w (fields_after fs ++ bs)
unfolding fields_after exactly
name-field w h fs bs = ap name_scan (append_assoc w (fields_after fs) bs) ∙ name-exact.printed w (fields_after fs ++ bs) h (fields-stop fs bs)

-- ---- the same name
pub same_true : (v w : Name) → same_name v w ≡ true → v ≡ w
unfolding same_name
same_true [] [] h = refl
same_true [] (b ∷ w) h = let z : ◌≡◌ {A = Bool} false true = h in let y : ◌≡◌ {A = ℕ} 0 1 = cc in absurd (omega arith)
same_true (a ∷ v) [] h = let z : ◌≡◌ {A = Bool} false true = h in let y : ◌≡◌ {A = ℕ} 0 1 = cc in absurd (omega arith)
same_true (a ∷ v) (b ∷ w) h = let p = and-true (eqb a b) (same_name v w) h in ap₂ {C = List ℕ} (λ n l. n ∷ l) (eqb-true a b p.0) (same_true v w p.1)

pub same_refl : (w : Name) → same_name w w ≡ true
unfolding same_name
same_refl [] = refl
same_refl (b ∷ w) = rw (eq-eqb b b refl, same_name) (same_refl w)
