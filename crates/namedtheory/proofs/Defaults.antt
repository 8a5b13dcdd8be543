-- "Old to new names each action `a` and its number": the default names of a model's actions are a good sheet.
use mathlib.Core.Path.{◌≡◌, refl, sym, ◌∙◌, ap}
use mathlib.Core.Bool.{Bool, true, false, cond, true≢false}
use mathlib.Core.Option.{some}
use mathlib.Core.List.{List, [], ◌∷◌, ◌++◌}
use Prim.Native.Nat.{ℕ, zero, suc, ◌≤◌, ◌<◌}
use native.Mathlib.Omega.{arith}
use lib.Dec.{eqb}
use borrow.Author.Tests.{eqb-true, eqb-false, lt-ltb}
use Rattle.laws.specs.Sets.{has, ◌∈◌}
use Rattle.laws.specs.Fold.{all, all_from}
use Rattle.laws.proofs.FoldLaws.{all_true}
use Rattle.laws.proofs.SearchLaws.{no-some}
use Rattle.laws.proofs.ListLaws.{All}
use Rattle.answer.specs.Limits.{max_actions}
use Rattle.model.specs.Model.{Model}
use Rattle.model.specs.Text.{decimal, digits_of}
use Rattle.model.specs.WellFormed.{WellComp}
use Rattle.model.specs.Reading.{number}
use Rattle.model.proofs.Reading.Scans.{is-inj}
use Rattle.model.proofs.Reading.Fields.{number-exact}
use Rattle.named.specs.NamedText.{Name, good_name, letters_or_digits, name_of, default_name, defaults, defaults_of, declared_in, entries_of}
use Rattle.named.specs.ReadNamed.{above}
use Rattle.namedtheory.specs.Named.{Names, no_name, name, GoodSheet}
use Rattle.namedtheory.proofs.Lookup.{name-here, name-there}
use Rattle.namedtheory.proofs.Declared.{declared-below}

all-good : all (λ n. good_name (default_name n)) 0 max_actions ≡ true
unfolding all all_from good_name letters_or_digits decimal digits_of
all-good = refl

good-default : (n : ℕ) → n < max_actions → good_name (default_name n) ≡ true
good-default n h = all_true (λ n. good_name (default_name n)) 0 max_actions all-good n (omega arith) h

-- a number is told by its digits
one-decimal : (a b : ℕ) → a < max_actions → b < max_actions → decimal a ≡ decimal b → a ≡ b
one-decimal a b h k e =
    let p = number-exact.printed a [] (omega arith) tt in
    let q = number-exact.printed b [] (omega arith) tt in
    ap (λ g. g.value) (is-inj (sym p ∙ ap (λ (x : List ℕ). number (x ++ [])) e ∙ q))

one-default : (a b : ℕ) → a < max_actions → b < max_actions → default_name a ≡ default_name b → a ≡ b
one-default a b h k e = one-decimal a b h k (ap (λ (x : List ℕ). elim x as (λ _. List ℕ) [ [] ↦ [] | y ∷ ys ↦ ys ]) e)

-- ---- by number
default-only : (s n a : ℕ) (w : Name) → name_of (defaults s n) a ≡ some w → (a < n) × (a ∈ s) × (w ≡ default_name a)
unfolding defaults name_of
default-only s zero a w h = absurd (no-some refl h)
default-only s (suc n) a w h = go (λ x. default-only s n a w x) (has s n) refl h
  where
    there : (name_of (defaults s n) a ≡ some w → (a < n) × (a ∈ s) × (w ≡ default_name a))
        → name_of (defaults s n) a ≡ some w → (a < suc n) × (a ∈ s) × (w ≡ default_name a)
    there ih h = let r = ih h in (omega (arith, r.0), r.1, r.2)

    go : (name_of (defaults s n) a ≡ some w → (a < n) × (a ∈ s) × (w ≡ default_name a)) → (b : Bool) → has s n ≡ b
        → name_of (cond b (record { number = n; name = default_name n } ∷ defaults s n) (defaults s n)) a ≡ some w
        → (a < suc n) × (a ∈ s) × (w ≡ default_name a)
    go ih false e h = there ih h
    go ih true e h = here (eqb n a) refl
      where
        here : (b : Bool) → eqb n a ≡ b → (a < suc n) × (a ∈ s) × (w ≡ default_name a)
        here true q =
            let z = eqb-true n a q in
            let v : some (default_name n) ≡ some w = sym (name-here n (default_name n) (defaults s n))
            ∙ ap (name_of (record { number = n; name = default_name n } ∷ defaults s n)) z ∙ h in
            let u : default_name n ≡ w = cc in
            (omega arith, rw (← z) e, sym u ∙ ap default_name z)
        here false q = there ih (sym (name-there n a (default_name n) (defaults s n) (eqb-false n a q)) ∙ h)

default-name : (s n a : ℕ) → a < n → a ∈ s → name_of (defaults s n) a ≡ some (default_name a)
unfolding defaults
default-name s zero a l m = absurd (omega arith)
default-name s (suc n) a l m = go (λ x. default-name s n a x m) (has s n) refl (eqb n a) refl
  where
    go : (a < n → name_of (defaults s n) a ≡ some (default_name a)) → (b : Bool) → has s n ≡ b → (c : Bool) → eqb n a ≡ c
        → name_of (cond b (record { number = n; name = default_name n } ∷ defaults s n) (defaults s n)) a ≡ some (default_name a)
    go ih true e true q = let z = eqb-true n a q in rw (← z) (name-here n (default_name n) (defaults s n))
    go ih true e false q = let z = eqb-false n a q in name-there n a (default_name n) (defaults s n) z ∙ ih (omega arith)
    go ih false e true q = let z = eqb-true n a q in absurd (true≢false (sym m ∙ ap (has s) (sym z) ∙ e))
    go ih false e false q = let z = eqb-false n a q in ih (omega arith)

-- ---- in their order
default-above : (s n : ℕ) → above (defaults s n) n ≡ true
unfolding defaults
default-above s n = go s n n (omega arith)
  where
    go : (s m n : ℕ) → m ≤ n → above (defaults s m) n ≡ true
    go s zero n l = refl
    go s (suc m) n l = one (has s m) (go s m n (omega arith))
      where
        one : (b : Bool) → above (defaults s m) n ≡ true → above (cond b (record { number = m; name = default_name m } ∷ defaults s m) (defaults s m)) n ≡ true
        one true h = lt-ltb m n (omega arith)
        one false h = h

pub default-names : (s n : ℕ) → n ≤ max_actions → Names (defaults s n)
unfolding defaults
default-names s zero l = no_name
default-names s (suc n) l = go (default-names s n (omega arith)) (has s n)
  where
    new : (a : ℕ) → name_of (defaults s n) a ≡ some (default_name n) → ⊥
    new a h = let r = default-only s n a (default_name n) h in let z = one-default n a (omega arith) (omega (arith, r.0)) r.2 in omega (arith, r.0)

    go : Names (defaults s n) → (b : Bool) → Names (cond b (record { number = n; name = default_name n } ∷ defaults s n) (defaults s n))
    go ih true = name n (default_name n) ih (omega arith) (default-above s n) (good-default n (omega arith)) new
    go ih false = ih

pub defaults-good : (m : Model) → All WellComp m → GoodSheet (defaults_of m) m
defaults-good m w =
    let s = declared_in (entries_of m) in
    record {
      names = default-names s max_actions (omega arith);
      each = λ a h. (default_name a, default-name s max_actions a (declared-below m w a h) h);
      only = λ a v h. (default-only s max_actions a v h).1;
    }
