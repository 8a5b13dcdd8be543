-- A step of a product, part by part (01, "Composition"): a row, or rest, of each.
use Rattle.std.specs.Prelude.{◌≡◌, false, List, [], ◌∷◌, ℕ}
use Rattle.laws.specs.Sets.{has, ◌∪◌, ◌∈◌}
use Rattle.model.specs.Model.{Comp}
use Rattle.iosa.specs.Automaton.{Automaton, alphabet, auto_of}

-- by action a: a row, or rest where the automaton lacks a
pub data Go (A : Automaton) (a : ℕ) : A.State → ℕ → ℕ → A.State → Type 0 where
  goes : {s t : A.State} {C R : ℕ} → a ∈ alphabet A → A.Row s C a R t → Go A a s C R t
  sits-out : {s : A.State} → has (alphabet A) a ≡ false → A.States s → Go A a s 0 0 s

-- every component by action a: one number for each
pub data GoAll (a : ℕ) : List Comp → List ℕ → ℕ → ℕ → List ℕ → Type 0 where
  end : GoAll a [] [] 0 0 []
  and : {c : Comp} {cs : List Comp} {s t C D R Q : ℕ} {ss ts : List ℕ} → Go (auto_of c) a s C R t → GoAll a cs ss D Q ts
      → GoAll a (c ∷ cs) (s ∷ ss) (C ∪ D) (R ∪ Q) (t ∷ ts)
