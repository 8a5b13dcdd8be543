-- Two lists that ascend and have the same members are equal.
use mathlib.Core.Path.{◌≡◌, refl, sym, ◌∙◌, ap₂}
use mathlib.Core.Logic.{◌⊎◌, inl, inr, ⊎_elim}
use mathlib.Core.List.Memᴰ.{head as here}
use mathlib.Core.List.Memᴰ.{not-nil as in-none}
use mathlib.Core.List.Memᴰ.{tail as there}
use mathlib.Core.List.{List, [], ◌∷◌, Memᴰ as In}
use Rattle.laws.proofs.ListLaws.{Pairwise}

module _ {A : Type 0} (R : A → A → Type 0) (irreflexive : (x : A) → R x x → ⊥) (transitive : (x y z : A) → R x y → R y z → R x z) where
  asym : (x y : A) → R x y → R y x → ⊥
  asym x y p q = irreflexive x (transitive x y x p q)

  front : (x y : A) (ys : List A) → In x (y ∷ ys) → Pairwise R (y ∷ ys) → (x ≡ y) ⊎ R y x
  front x y ys (here e) p = inl e
  front x y ys (there m) p = inr (p.0 x m)

  behind : (x y z : A) (xs ys : List A) → x ≡ y → Pairwise R (x ∷ xs) → In z xs → In z (y ∷ ys) → In z ys
  behind x y z xs ys e p m (here f) = absurd (irreflexive z (rw (e ∙ sym f) at (p.0 z m)))
  behind x y z xs ys e p m (there n) = n

  pub same-ascending : (xs ys : List A) → Pairwise R xs → Pairwise R ys → ((z : A) → In z xs → In z ys) → ((z : A) → In z ys → In z xs) → xs ≡ ys
  same-ascending [] [] p q f g = refl
  same-ascending [] (y ∷ ys) p q f g = absurd (in-none (g y (here refl)))
  same-ascending (x ∷ xs) [] p q f g = absurd (in-none (f x (here refl)))
  same-ascending (x ∷ xs) (y ∷ ys) p q f g =
      let e : x ≡ y = ⊎_elim (λ e. e) (λ r. ⊎_elim (λ e. sym e) (λ s. absurd (asym y x r s)) (front y x xs (g y (here refl)) p))
      (front x y ys (f x (here refl)) q) in
      ap₂ ◌∷◌ e (same-ascending xs ys p.1 q.1 (λ z m. behind x y z xs ys e p m (f z (there m))) (λ z m. behind y x z ys xs (sym e) q m (g z (there m))))
