-- Proposition 4.2 of document 000 for a system, pair by pair: at one composed state, over composed states made of parts that count, and of reached ones.
use mathlib.Core.Path.{refl}
use mathlib.Core.List.{List, [], ◌∷◌}
use Prim.Native.Nat.{ℕ}
use Rattle.laws.specs.Sets.{◌∈◌}
use Rattle.model.specs.Model.{Comp, Model, acts, urgents}
use Rattle.model.specs.WellFormed.{WellComp, WellFormed}
use Rattle.iosa.specs.Automaton.{Automaton, auto_of, ReachedIn, MeetsAt, ConfluentFor, Confluent, Joinable, AllConfluent, Meets}
use Rattle.iosa.specs.Product.{◌⊗◌, product_from, product, embed, state_of, EachPart, MadeOf}
use Rattle.iosa.proofs.Settling.Each.{All, each_all, all_map, all-zip}
use Rattle.iosa.proofs.Settling.Parts.{label-parts}
use Rattle.iosa.specs.Thesis.{OwnNames}
use Rattle.iosa.proofs.Settling.OwnNames.{component-own, product-own}
use Rattle.iosa.proofs.Settling.ProductConfluent.{product-meets-at}
use Rattle.iosa.proofs.Settling.ProductOfMany.{joinable-pairwise, wells, system-own}
use Rattle.iosa.proofs.Settling.UrgentOutputs.{urgent-everywhere}

-- what holds of each component, and of each part, together
pub parts-with : {P Q : Comp → ℕ → Type 0} {R : Comp → Type 0} (m : Model) (s : List ℕ) → ((c : Comp) (x : ℕ) → R c → P c x → Q c x) → All R m
    → EachPart P m s → EachPart Q m s
parts-with [] [] f al e = tt
parts-with [] (s ∷ ss) f al e = absurd e
parts-with (c ∷ cs) [] f al e = absurd e
parts-with (c ∷ cs) (s ∷ ss) f al e = (f c s al.0 e.0, parts-with cs ss f al.1 e.1)

products-meet : (a b : ℕ) (cs : List Comp) (A : Automaton) → OwnNames A → All WellComp cs → (x : A.State) (ss : List ℕ)
    → Meets A x a b → EachPart (λ c s. Meets (auto_of c) s a b) cs ss → Meets (product_from A cs) (embed A cs x ss) a b
products-meet a b [] A o w x [] k e = k
products-meet a b [] A o w x (s ∷ ss) k e = absurd e
products-meet a b (c ∷ cs) A o w x [] k e = absurd e
products-meet a b (c ∷ cs) A o w x (s ∷ ss) k e =
    let q = component-own c w.0 in
    products-meet a b cs (A ⊗ auto_of c) (product-own A (auto_of c) o q) w.1 (x, s) ss (λ h i. product-meets-at A (auto_of c) o q x s a b k e.0) e.1

module _ (c : Comp) (cs : List Comp) (well : WellFormed (c ∷ cs)) where
  -- where each component that has both a and b lets them meet at its part, the product lets them meet
  pub system-meets-at : (s : List ℕ) (a b : ℕ) → EachPart (λ d x. Meets (auto_of d) x a b) (c ∷ cs) s → MeetsAt (product c cs) (state_of c cs s) a b
  system-meets-at [] a b e = absurd e
  system-meets-at (s ∷ ss) a b e =
      let w = wells (c ∷ cs) well in
      let k = products-meet a b cs (auto_of c) (component-own c w.0) w.1 s ss e.0 e.1 in
      let o = system-own c cs well in
      record { meet = λ r q. (k (o.rows r).action (o.rows q).action).meet r q }

  -- ---- over composed states made of parts that count
  module _ (P : Comp → ℕ → Type 0) where
    -- a and b meet wherever d counts
    abbrev Meet : ℕ → ℕ → Comp → Type 0
    Meet a b d = (x : ℕ) → P d x → Meets (auto_of d) x a b

    made-meet : (a b : ℕ) → All (Meet a b) (c ∷ cs) → ConfluentFor (product c cs) (MadeOf P c cs) a b
    made-meet a b al = record {
      meets = λ y n. rw n.state (system-meets-at n.list a b (parts-with {R = Meet a b} (c ∷ cs) n.list (λ d x k h. k x h) al n.parts));
    }

    -- "If both are confluent w.r.t. urgent actions a and b, then so is" the product
    pub system-is-confluent-for : (a b : ℕ) → All (λ d. ConfluentFor (auto_of d) (P d) a b) (c ∷ cs) → ConfluentFor (product c cs) (MadeOf P c cs) a b
    system-is-confluent-for a b al = made-meet a b (all_map {Q = Meet a b} (c ∷ cs) (λ d k x h i j. k.meets x h) al)

    pub system-is-confluent-where : Joinable (c ∷ cs) → All (λ d. Confluent (auto_of d) (P d)) (c ∷ cs) → Confluent (product c cs) (MadeOf P c cs)
    system-is-confluent-where join al = record {
      pair = λ a b ne ua ub.
          made-meet a b (all-zip {R = Meet a b} (c ∷ cs) (λ d f u x h i j. f (u i) x h j)
          (all-zip {R = λ d. a ∈ urgents d → (x : ℕ) → P d x → b ∈ acts d → MeetsAt (auto_of d) x a b} (c ∷ cs)
          (λ d k u v x h j. (k.pair a b ne v (u j)).meets x h) al (everywhere b ub)) (everywhere a ua));
    }
      where
        everywhere : (a : ℕ) → a ∈ (product c cs).urgent → All (λ d. a ∈ acts d → a ∈ urgents d) (c ∷ cs)
        everywhere a u = urgent-everywhere (c ∷ cs) a (joinable-pairwise (c ∷ cs) join) (label-parts (λ A. A.urgent) (λ A B. refl) cs (auto_of c) a u)

  -- ---- over composed states made of reached parts
  pub system-is-confluent : Joinable (c ∷ cs) → AllConfluent (c ∷ cs) → Confluent (product c cs) (MadeOf ReachedIn c cs)
  system-is-confluent join al = system-is-confluent-where ReachedIn join (each_all (λ d. Confluent (auto_of d) (ReachedIn d)) (c ∷ cs) al.each)
