-- What an answer says of a fault: fine exactly where there is none, and a refusal of the first of two faults is one of both.
use mathlib.Core.Path.{◌≡◌, refl, sym, ◌∙◌, ap}
use mathlib.Core.Option.{Option, none, some}
use Prim.Native.Nat.{ℕ, ◌<◌}
use native.Mathlib.Omega.{arith}
use Rattle.laws.specs.Search.{or_else, seek}
use Rattle.laws.proofs.SearchLaws.{seek-here}
use Rattle.laws.proofs.Exits.{handed-on}
use Rattle.answer.specs.Told.{Told, told, Answer, answered, refused, as_refused, says_checked}
use Rattle.answer.specs.Told.{Checked}
use Rattle.std.specs.Prelude.{Ok, Err, IsErrAnd}
use Rattle.answer.specs.declared.Refusal.{Refusal}
use Rattle.iosa.specs.Step.{unless}
use Rattle.parts.specs.Faults.{Says}

unequal : {t : Told} → ◌≡◌ {A = Option (Answer (Unit {0}))} (some (answered tt)) (some (refused t)) → ⊥
unequal e = let z : ◌≡◌ {A = ℕ} 0 1 = cc in omega arith

pub says-fine : (o : Option Told) → o ≡ none → Says (Ok tt) o
unfolding says_checked
says-fine o e = rw e

pub says-refused : (r : Refusal) (t : Told) (o : Option Told) → told r ≡ some t → o ≡ some t → Says (Err r) o
unfolding says_checked
says-refused r t o e f = rw (e, f)

pub fine-none : (o : Option Told) → Says (Ok tt) o → o ≡ none
unfolding says_checked
fine-none none e = refl
fine-none (some t) e = absurd (unequal e)

-- the answer to the first of two faults, if that is a fault
pub refused-first : (r : Checked) (o p : Option Told) → Says r o → (r ≡ (Ok tt) → ⊥) → Says r (or_else o p)
unfolding says_checked
refused-first (Ok tt) o p e ne = absurd (ne refl)
refused-first (Err r) (some t) p e ne = e
refused-first (Err r) none p e ne = go (told r) e
  where
    go : (u : Option Told) → as_refused {A = Unit {0}} u ≡ some (answered tt) → as_refused {A = Unit {0}} u ≡ some (unless p tt)
    go none e = absurd (let z : ◌≡◌ {A = ℕ} 0 1 = cc in omega arith)
    go (some t) e = absurd (unequal (sym e))

pub fine-next : (r q : Checked) (o p : Option Told) → Says r o → r ≡ (Ok tt) → Says q p → Says q (or_else o p)
fine-next r q o p e f g = rw (fine-none o (rw f at e)) g

-- the answer at a place of a search
pub refused-some : (r : Checked) (o : Option Told) → Says r o → (r ≡ (Ok tt) → ⊥) → (t : Told) × (o ≡ some t)
unfolding says_checked
refused-some (Ok tt) o e ne = absurd (ne refl)
refused-some (Err r) (some t) e ne = (t, refl)
refused-some (Err r) none e ne = go (told r) e
  where
    go : (u : Option Told) → as_refused {A = Unit {0}} u ≡ some (answered tt) → (t : Told) × (◌≡◌ {A = Option Told} none (some t))
    go none e = absurd (let z : ◌≡◌ {A = ℕ} 0 1 = cc in omega arith)
    go (some t) e = absurd (unequal (sym e))

pub not-fine : (r : Checked) (x : Refusal) → r ≡ Err x → r ≡ (Ok tt) → ⊥
not-fine r x e f = let z : ◌≡◌ {A = ℕ} 0 1 = cc in omega arith

-- the same fault under another name
pub says-as : (r : Checked) (o p : Option Told) → o ≡ p → Says r o → Says r p
says-as r o p e s = s ∙ ap (λ u. some (unless u tt)) e

-- ---- the exit of a `?` hands the refusal q on
module _ (q : Refusal) (r : Checked) (h : IsErrAnd r (λ x. x ≡ q)) where
  -- the first of two faults
  pub exit-first : (o p : Option Told) → Says (Err q) o → Says r (or_else o p)
  exit-first o p s = rw (handed-on r h) (refused-first (Err q) o p s (not-fine (Err q) q refl))

  -- the first fault of a search, at the place where it is
  pub exit-here : (f : ℕ → Option Told) (lo hi : ℕ) → lo < hi → Says (Err q) (f lo) → Says r (seek f lo hi)
  exit-here f lo hi l s =
      let u = refused-some (Err q) (f lo) s (not-fine (Err q) q refl) in
      rw (handed-on r h) (says-as (Err q) (f lo) _ (u.1 ∙ sym (seek-here f lo hi l u.1)) s)
