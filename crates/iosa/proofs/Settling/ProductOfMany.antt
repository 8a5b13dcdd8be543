-- Proposition 4.1 of document 000 for a system, "A system of several is the product from the left" (paper 01); its states are lists of numbers.
use mathlib.Core.Path.{◌≡◌, refl}
use mathlib.Core.Logic.{⊎_elim}
use mathlib.Core.List.{List, [], ◌∷◌}
use Prim.Native.Nat.{ℕ, suc}
use native.Mathlib.Omega.{arith}
use Rattle.laws.proofs.SetLaws.{or-in-l, or-in-r, in-or}
use Rattle.model.specs.Model.{Comp, Model}
use Rattle.model.specs.WellFormed.{WellComp, WellFormed}
use Rattle.iosa.specs.Automaton.{Automaton, alphabet, auto_of, Conditions, Compatible, Conforming, Joinable}
use Rattle.iosa.specs.Product.{◌⊗◌, product_from, product, embed, state_of, Within}
use Rattle.iosa.proofs.Settling.Each.{All, each_all}
use Rattle.iosa.proofs.Settling.Parts.{alphabet-joins}
use Rattle.iosa.specs.Thesis.{OwnNames}
use Rattle.iosa.proofs.Settling.OwnNames.{component-own, product-own, products-own}
use Rattle.iosa.proofs.Settling.ProductConditions.{product-is-an-automaton}

-- what is compatible with both sides is compatible with their product
pub compatible-goes-on : (A B D : Automaton) → Compatible A D → Compatible B D → Compatible (A ⊗ B) D
compatible-goes-on A B D p q = record {
  outputs = λ x h k. ⊎_elim (λ i. p.outputs x i k) (λ i. q.outputs x i k) (in-or A.outputs B.outputs x h);
  clocks = λ x h k. ⊎_elim (λ i. p.clocks x i k) (λ i. q.clocks x i k) (in-or A.clocks B.clocks x h);
  left = λ a h k. ⊎_elim (λ i. p.left a i k) (λ i. q.left a i k) (in-or A.urgent B.urgent a h);
  right = λ a h k. ⊎_elim
      (λ i. or-in-l A.urgent B.urgent a (p.right a h i))
      (λ i. or-in-r A.urgent B.urgent a (q.right a h i))
      (in-or (alphabet A) (alphabet B) a (rw (alphabet-joins A B) at k));
}

-- A is compatible with each component
abbrev pub Fits : Automaton → Model → Type 0
Fits A cs = All (λ d. Compatible A (auto_of d)) cs

-- every two components are compatible
abbrev pub Pairwise : Model → Type 0
Pairwise [] = Unit {0}
Pairwise (c ∷ cs) = Fits (auto_of c) cs × Pairwise cs

pub joinable-pairwise : (m : Model) → Joinable m → Pairwise m
joinable-pairwise [] j = tt
joinable-pairwise (c ∷ cs) j = (
  each_all (λ d. Compatible (auto_of c) (auto_of d)) cs (λ i h. j.pair 0 (suc i) (omega arith) (omega arith)),
  joinable-pairwise cs (record { pair = λ i k h l. j.pair (suc i) (suc k) (omega arith) (omega arith) }),
)

pub fits_on : (A B : Automaton) (cs : Model) → Fits A cs → Fits B cs → Fits (A ⊗ B) cs
fits_on A B [] f g = tt
fits_on A B (c ∷ cs) f g = (compatible-goes-on A B (auto_of c) f.0 g.0, fits_on A B cs f.1 g.1)

pub products-conform : (cs : Model) (A : Automaton) → OwnNames A → Conditions A → All WellComp cs → All (λ c. Conditions (auto_of c)) cs → Fits A cs
    → Pairwise cs
    → Conditions (product_from A cs)
products-conform [] A o k w al f p = k
products-conform (c ∷ cs) A o k w al f p =
    let q = component-own c w.0 in
    products-conform cs (A ⊗ auto_of c) (product-own A (auto_of c) o q) (product-is-an-automaton A (auto_of c) f.0 k al.0 o q) w.1 al.1
    (fits_on A (auto_of c) cs f.1 p.0) p.1

pub wells : (m : Model) → WellFormed m → All WellComp m
wells m w = each_all WellComp m w.each

-- ---- a system
module _ (c : Comp) (cs : List Comp) (well : WellFormed (c ∷ cs)) where
  pub system-own : OwnNames (product c cs)
  system-own = let w = wells (c ∷ cs) well in products-own cs (auto_of c) (component-own c w.0) w.1

  pub system-is-an-automaton : Conforming (c ∷ cs) → Joinable (c ∷ cs) → Conditions (product c cs)
  system-is-an-automaton k j =
      let w = wells (c ∷ cs) well in
      let a = each_all (λ d. Conditions (auto_of d)) (c ∷ cs) k.each in
      let p = joinable-pairwise (c ∷ cs) j in
      products-conform cs (auto_of c) (component-own c w.0) a.0 w.1 a.1 p.0 p.1

-- ---- a composed state in range is a state of the product, and every state of the product is one
embed-states : (cs : List Comp) (A : Automaton) (x : A.State) (ss : List ℕ) → A.States x → Within cs ss → (product_from A cs).States (embed A cs x ss)
embed-states [] A x [] h w = h
embed-states [] A x (s ∷ ss) h w = absurd w
embed-states (c ∷ cs) A x [] h w = absurd w
embed-states (c ∷ cs) A x (s ∷ ss) h w = embed-states cs (A ⊗ auto_of c) (x, s) ss (h, w.0) w.1

pub in-range-is-a-state : (c : Comp) (cs : List Comp) (s : List ℕ) → Within (c ∷ cs) s → (product c cs).States (state_of c cs s)
in-range-is-a-state c cs [] w = absurd w
in-range-is-a-state c cs (s ∷ ss) w = embed-states cs (auto_of c) s ss w.0 w.1

embed-onto : (cs : List Comp) (A : Automaton) (y : (product_from A cs).State) → (product_from A cs).States y
    → (x : A.State) × (ss : List ℕ) × A.States x × Within cs ss × (y ≡ embed A cs x ss)
embed-onto [] A y h = (y, [], h, tt, refl)
embed-onto (c ∷ cs) A y h =
    let p = embed-onto cs (A ⊗ auto_of c) y h in
    (p.0.0, p.0.1 ∷ p.1, p.2.0, (p.2.1, p.3), p.4)

pub state-has-a-list : (c : Comp) (cs : List Comp) (y : (product c cs).State) → (product c cs).States y → (s : List ℕ) × Within (c ∷ cs) s × (y ≡ state_of c cs s)
state-has-a-list c cs y h = let p = embed-onto cs (auto_of c) y h in (p.0 ∷ p.1, (p.2, p.3), p.4)
