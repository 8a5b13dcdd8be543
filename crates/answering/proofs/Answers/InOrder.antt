-- Refusals in their order: a check that is decided, before what comes after it.
use mathlib.Core.Path.{◌≡◌, refl, sym, ◌∙◌, ap, subst}
use mathlib.Core.Logic.{◌↔◌}
use mathlib.Core.Bool.{Bool, true, false, true≢false}
use mathlib.Core.Option.{Option, none, some, some_inj}
use mathlib.Core.List.{[], ◌∷◌}
use Prim.Native.Nat.{ℕ, ◌≤◌, ◌<◌}
use lib.Dec.{ltb}
use borrow.Author.Tests.{ltb-true, ltb-false, lt-ltb, le-ltb}
use Rattle.laws.specs.Search.{when, or_else}
use Rattle.laws.proofs.SearchLaws.{no-some}
use Rattle.answer.specs.Told.{Told, tell, Answer, answered, refused}
use Rattle.iosa.specs.Step.{unless}
use Rattle.iosa.specs.InOrder.{Check, ◌▹◌, refuses, passes, Gives, gives, Leaves, needs, room}

-- o is some t exactly where k refuses with t, and nothing exactly where it passes
pub record Decided (k : Check) (o : Option Told) : Type 0 where
  pub told : (t : Told) → (o ≡ some t) ↔ k.Refuses t
  pub fine : (o ≡ none) ↔ k.Passes

-- a refusal, or else x
abbrev pub refused_or : {A : Type 0} → Option Told → Answer A → Answer A
refused_or none x = x
refused_or (some t) x = refused t

-- ---- the forms in which the calls' definitions have it
pub either : {A : Type 0} (o : Option Told) (x : Answer A) → (elim o as (λ _. Answer A) [ some t ↦ refused t | none ↦ x ]) ≡ refused_or o x
either none x = refl
either (some t) x = refl

pub or-refused : {A : Type 0} (o p : Option Told) (x : Answer A) → refused_or (or_else o p) x ≡ refused_or o (refused_or p x)
or-refused none p x = refl
or-refused (some t) p x = refl

pub unless-refused : {A : Type 0} (o : Option Told) (x : A) → unless o x ≡ refused_or o (answered x)
unless-refused none x = refl
unless-refused (some t) x = refl

-- ---- a check that is decided, then what comes after it
module _ {A : Type 0} (k : Check) (o : Option Told) (d : Decided k o) (x : Answer A) (R : Answer A → Type 0)
    (rest : k.Passes → (a : Answer A) → (x ≡ a) ↔ R a) where
  there : (p : Option Told) → o ≡ p → {a : Answer A} → refused_or p x ≡ a → (k ▹ R) a
  there none h {a} e = passes (d.fine.0 h) ((rest (d.fine.0 h) a).0 e)
  there (some t) h e = subst (k ▹ R) e (refuses ((d.told t).0 h))

  back : {a : Answer A} → (k ▹ R) a → refused_or o x ≡ a
  back (refuses {t = t} r) = ap (λ p. refused_or p x) ((d.told t).1 r)
  back (passes {a = a} p r) = ap (λ q. refused_or q x) (d.fine.1 p) ∙ (rest p a).1 r

  pub check-exactly : (a : Answer A) → (refused_or o x ≡ a) ↔ (k ▹ R) a
  check-exactly a = (there o refl, back)

pub gives-exactly : {A : Type 0} (x : A) (P : A → Type 0) → ((y : A) → (x ≡ y) ↔ P y) → (a : Answer A) → (answered x ≡ a) ↔ Gives P a
gives-exactly {A} x P f a = (λ e. subst (Gives P) e (gives ((f x).0 refl)), back)
  where
    back : {a : Answer A} → Gives P a → answered x ≡ a
    back (gives {x = y} p) = ap answered ((f y).1 p)

-- what a call leaves, said of what computes, is what it leaves of the answer that is right
pub leaves-exactly : {A : Type 0} (x : Answer A) (Right Left : Answer A → Type 0) → ((a : Answer A) → (x ≡ a) ↔ Right a) → Left x ↔ Leaves Right Left
leaves-exactly x Right Left f = (
  λ l. record { answer = x; right = (f x).0 refl; left = l },
  λ r. subst Left (sym ((f r.answer).1 r.right)) r.left,
)

-- ---- the checks
told_same : (b : Bool) (t u : Told) → when b t ≡ some u → (b ≡ true) × (u ≡ t)
told_same true t u e = (refl, sym (some_inj.0 e))
told_same false t u e = absurd (no-some refl e)

-- a test that refuses with t
pub test-decided : (P : Type 0) (b : Bool) (t : Told) (N : Type 0) → (b ≡ false) ↔ P → (b ≡ true) ↔ N
    → Decided (record { Refuses = λ u. N × (u ≡ t); Passes = P }) (when b t)
test-decided P b t N f g = record {
  told = λ u. (λ e. let p = told_same b t u e in (g.0 p.0, p.1), λ p. ap (λ c. when c t) (g.1 p.0) ∙ ap some (sym p.1));
  fine = (λ e. f.0 (shut b e), λ p. ap (λ c. when c t) (f.1 p));
}
  where
    shut : (c : Bool) → when c t ≡ none → c ≡ false
    shut true e = absurd (no-some e refl)
    shut false e = refl

pub needs-decided : (n : ℕ) (P : Type 0) (b : Bool) → (b ≡ false) ↔ P → Decided (needs n P) (when b (tell n (0 ∷ [])))
needs-decided n P b f = test-decided P b (tell n (0 ∷ [])) (P → ⊥) f (λ e p. true≢false (sym e ∙ f.1 p), λ g. other b refl g)
  where
    other : (c : Bool) → b ≡ c → (P → ⊥) → b ≡ true
    other true e g = e
    other false e g = absurd (g (f.0 e))

pub room-decided : (needed bytes : ℕ) → Decided (room needed bytes) (when (ltb bytes needed) (tell 24 (needed ∷ [])))
room-decided needed bytes = test-decided (needed ≤ bytes) (ltb bytes needed) (tell 24 (needed ∷ [])) (bytes < needed)
    (ltb-false bytes needed, le-ltb bytes needed) (ltb-true bytes needed, lt-ltb bytes needed)
