-- Number and values fix the refusal: two refusals that tell the same are the same.
use mathlib.Core.Path.{◌≡◌, refl, sym, ◌∙◌, ap, ap₂}
use mathlib.Core.Option.{Option, none, some, some_inj}
use mathlib.Core.List.{List}
use Prim.Native.Nat.{ℕ}
use native.Mathlib.Omega.{arith}
use lib.ListN.{get_or}
use Rattle.answer.specs.declared.Place.{Place}
use Rattle.answer.specs.declared.Place.TheVariants.{Whole, Line, Row, Bytes, Index, Clock, Component, Cell, Clash, SharedAction, SharedClock}
use Rattle.answer.specs.declared.Place.TheVariants.{Spot, Condition, Action}
use Rattle.answer.specs.declared.Refusal.{Refusal}
use Rattle.answer.specs.Told.{Told, Shape, nowhere, whole, line, row, bytes, index, clock, component, cell, clash, shared-action, shared-clock}
use Rattle.answer.specs.Told.{spot, condition, action, same_shape, tell, told, shape_of, shape_at, values_at}

-- the place of a shape with these values
place_of : Shape → List ℕ → Place
place_of nowhere l = Whole
place_of whole l = Whole
place_of line l = Line (get_or l 0 0)
place_of row l = Row (get_or l 0 0)
place_of bytes l = Bytes (get_or l 0 0)
place_of index l = Index (get_or l 0 0)
place_of clock l = Clock (get_or l 0 0)
place_of component l = Component (get_or l 0 0)
place_of cell l = Cell (get_or l 0 0) (get_or l 1 0) (get_or l 2 0)
place_of clash l = Clash (get_or l 0 0) (get_or l 1 0) (get_or l 2 0) (get_or l 3 0)
place_of shared-action l = SharedAction (get_or l 0 0) (get_or l 1 0) (get_or l 2 0)
place_of shared-clock l = SharedClock (get_or l 0 0) (get_or l 1 0) (get_or l 2 0)
place_of spot l = Spot (get_or l 0 0) (get_or l 1 0)
place_of condition l = Condition (get_or l 0 0)
place_of action l = Action (get_or l 0 0)

place-of : (p : Place) → place_of (shape_at p) (values_at p) ≡ p
unfolding place_of
place-of Whole = refl
place-of (Line n) = refl
place-of (Row n) = refl
place-of (Bytes n) = refl
place-of (Index n) = refl
place-of (Clock x) = refl
place-of (Component i) = refl
place-of (Cell i s a) = refl
place-of (Clash i s a b) = refl
place-of (SharedAction a i j) = refl
place-of (SharedClock x i j) = refl
place-of (Spot n k) = refl
place-of (Condition n) = refl
place-of (Action a) = refl

told-parts : (r : Refusal) (t : Told) → told r ≡ some t → (shape_of r.number ≡ shape_at r.place) × (tell r.number (values_at r.place) ≡ t)
unfolding told
told-parts r t e = go (same_shape (shape_of r.number) (shape_at r.place)) e
  where
    go : (d : Dec (shape_of r.number ≡ shape_at r.place))
        → ◌≡◌ {A = Option Told} (elim d as (λ _. Option Told) [ yes e ↦ some (tell r.number (values_at r.place)) | no n ↦ none ]) (some t)
        → (shape_of r.number ≡ shape_at r.place) × (tell r.number (values_at r.place) ≡ t)
    go (yes p) e = (p, some_inj.0 e)
    go (no n) e = let z : ◌≡◌ {A = ℕ} 0 1 = cc in absurd (omega arith)

pub told-fixes : (r q : Refusal) (t : Told) → told r ≡ some t → told q ≡ some t → r ≡ q
told-fixes r q t e f =
    let p = told-parts r t e in
    let k = told-parts q t f in
    let same : tell r.number (values_at r.place) ≡ tell q.number (values_at q.place) = p.1 ∙ sym k.1 in
    let n : r.number ≡ q.number = ap (λ u. u.number) same in
    let v : values_at r.place ≡ values_at q.place = ap (λ u. u.place) same in
    let s : shape_at r.place ≡ shape_at q.place = sym p.0 ∙ ap shape_of n ∙ k.0 in
    let at : r.place ≡ q.place = sym (place-of r.place) ∙ ap₂ place_of s v ∙ place-of q.place in
    λ i. record { number = n i; place = at i }
