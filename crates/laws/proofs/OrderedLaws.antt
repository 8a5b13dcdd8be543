-- Two lists in one strict order that have the same members are one list.
use mathlib.Core.Path.{◌≡◌, refl, sym, ◌∙◌, ap₂, subst}
use mathlib.Core.List.Memᴰ.{head as here}
use mathlib.Core.List.Memᴰ.{not-nil as in-none}
use mathlib.Core.List.Memᴰ.{tail as there}
use mathlib.Core.List.{List, [], ◌∷◌, Memᴰ as In}
use Rattle.laws.proofs.ListLaws.{Pairwise}

module _ {A : Type 0} (R : A → A → Type 0) (irreflexive : (x : A) → R x x → ⊥) (transitive : (x y z : A) → R x y → R y z → R x z) where
  heads-agree : {x y : A} {xs ys : List A} → Pairwise R (x ∷ xs) → Pairwise R (y ∷ ys) → In x (y ∷ ys) → In y (x ∷ xs) → x ≡ y
  heads-agree p q (here e) m = e
  heads-agree p q (there l) (here e) = sym e
  heads-agree {x} {y} p q (there l) (there m) = absurd (irreflexive x (transitive x y x (p.0 y m) (q.0 x l)))

  -- a later member of the one is a later member of the other
  later : {x y : A} {xs ys : List A} → x ≡ y → Pairwise R (x ∷ xs) → {z : A} → In z xs → In z (y ∷ ys) → In z ys
  later {x} e p {z} l (here f) = absurd (irreflexive x (subst (R x) (f ∙ sym e) (p.0 z l)))
  later e p l (there m) = m

  pub one-ordered-list : (xs ys : List A) → Pairwise R xs → Pairwise R ys → ((x : A) → In x xs → In x ys) → ((x : A) → In x ys → In x xs) → xs ≡ ys
  one-ordered-list [] [] p q f g = refl
  one-ordered-list [] (y ∷ ys) p q f g = absurd (in-none (g y (here refl)))
  one-ordered-list (x ∷ xs) [] p q f g = absurd (in-none (f x (here refl)))
  one-ordered-list (x ∷ xs) (y ∷ ys) p q f g =
      let e = heads-agree p q (f x (here refl)) (g y (here refl)) in
      ap₂ ◌∷◌ e (one-ordered-list xs ys p.1 q.1 (λ z l. later e p l (f z (there l))) (λ z l. later (sym e) q l (g z (there l))))
