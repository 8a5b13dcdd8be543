-- Proposition 4.1 of document 000, whole: the product of compatible automata of Definition 4.1 is one, its structure too; so is a system; and what is accepted.
use mathlib.Core.Path.{◌≡◌, sym, ◌∙◌}
use mathlib.Core.Logic.{◌↔◌, ⊎_elim}
use mathlib.Core.Bool.{true≢false}
use mathlib.Core.Option.{none}
use mathlib.Core.List.{List, [], ◌∷◌}
use Prim.Native.Nat.{ℕ, ◌<◌}
use lib.ListN.{length}
use Rattle.laws.specs.Sets.{◌∪◌, ◌⊆◌, Apart}
use Rattle.laws.proofs.SetLaws.{in-or, or-in-l, or-in-r, in_without}
use Rattle.model.specs.Model.{Comp, Model, comp_at, inputs, outputs}
use Rattle.model.specs.WellFormed.{WellComp, WellFormed}
use Rattle.iosa.specs.Automaton.{Automaton, alphabet, auto_of, Conditions, Compatible, Conforming, Joinable}
use Rattle.iosa.specs.Product.{◌⊗◌, product_from, product}
use Rattle.iosa.specs.Thesis.{Structure, Definition41, HouseRule, AllDefinition41, OwnNames}
use Rattle.iosa.specs.Checks.{accept_of}
use Rattle.iosa.proofs.Acceptance.Accepted.{accepted-exactly}
use Rattle.iosa.proofs.Settling.Each.{All}
use Rattle.iosa.proofs.Settling.Parts.{alphabet-joins}
use Rattle.iosa.proofs.Settling.OwnNames.{component-own, product-own, or-within}
use Rattle.iosa.proofs.Settling.ProductConditions.{product-keeps-constraints, product-keeps-house-rule}
use Rattle.iosa.proofs.Settling.ProductOfMany.{wells, system-is-an-automaton}
use Rattle.iosa.proofs.Thesis.Definition41.{constraints-definition, definition-constraints}
use Rattle.iosa.proofs.Thesis.Definition41.{house-rule-condition, condition-house-rule, conditions-are-definition-4-1}

-- ---- the structure
own-structure : (A : Automaton) → OwnNames A → Apart A.inputs A.outputs → A.urgent ⊆ alphabet A → Structure A
own-structure A o p u = record { partition = p; urgent = u; own = o }

pub component-structure : (c : Comp) → WellComp c → Structure (auto_of c)
component-structure c w = own-structure (auto_of c) (component-own c w)
    (λ a h k. ⊎_elim
    (λ i. ⊎_elim (w.ins-outs a i) (w.ins-uouts a i) (in-or c.outs c.uouts a k))
    (λ i. ⊎_elim (λ j. w.outs-uins a j i) (w.uins-uouts a i) (in-or c.outs c.uouts a k))
    (in-or c.ins c.uins a h))
    (λ a h. ⊎_elim
    (λ i. or-in-l (inputs c) (outputs c) a (or-in-r c.ins c.uins a i))
    (λ i. or-in-r (inputs c) (outputs c) a (or-in-r c.outs c.uouts a i))
    (in-or c.uins c.uouts a h))

pub product-structure : (A B : Automaton) → Structure A → Structure B → Structure (A ⊗ B)
product-structure A B p q = own-structure (A ⊗ B) (product-own A B p.own q.own)
    (λ a h k. true≢false (sym k ∙ (in_without (A.inputs ∪ B.inputs) (A.outputs ∪ B.outputs) a h).1))
    (λ a h. rw (alphabet-joins A B) (or-within A.urgent B.urgent (alphabet A) (alphabet B) p.urgent q.urgent a h))

-- ---- Proposition 4.1: "Let I1 and I2 be two compatible IOSA_us. Then I1 || I2 is indeed an IOSA_u"
module _ (A B : Automaton) (k : Compatible A B) (p : Definition41 A) (q : Definition41 B) where
  pub product-meets-definition-4-1 : Definition41 (A ⊗ B)
  product-meets-definition-4-1 = constraints-definition (A ⊗ B) (product-structure A B p.structure q.structure) (
      product-keeps-constraints A B k (definition-constraints A p.structure p) (definition-constraints B q.structure q)
      p.structure.own q.structure.own)

  -- and the house rule, where both have it
  pub product-meets-the-house-rule : HouseRule A → HouseRule B → HouseRule (A ⊗ B)
  product-meets-the-house-rule h g = condition-house-rule (A ⊗ B) (product-structure A B p.structure q.structure)
      (product-keeps-house-rule A B k (house-rule-condition A p.structure p h) (house-rule-condition B q.structure q g))

-- ---- a system
products-structure : (cs : List Comp) (A : Automaton) → Structure A → All WellComp cs → Structure (product_from A cs)
products-structure [] A s w = s
products-structure (c ∷ cs) A s w = products-structure cs (A ⊗ auto_of c) (product-structure A (auto_of c) s (component-structure c w.0)) w.1

system-meets : (c : Comp) (cs : List Comp) → WellFormed (c ∷ cs) → Conforming (c ∷ cs) → Joinable (c ∷ cs)
    → Definition41 (product c cs) × HouseRule (product c cs)
system-meets c cs well conf join =
    let w = wells (c ∷ cs) well in
    let s = products-structure cs (auto_of c) (component-structure c w.0) w.1 in
    (conditions-are-definition-4-1 (product c cs) s).0 (system-is-an-automaton c cs well conf join)

-- ---- what the checks 10 to 17 accept
pub component-definition : (m : Model) → WellFormed m → (i : ℕ) → i < length m
    → Conditions (auto_of (comp_at m i)) ↔ Definition41 (auto_of (comp_at m i)) × HouseRule (auto_of (comp_at m i))
component-definition m well i h = conditions-are-definition-4-1 (auto_of (comp_at m i)) (component-structure (comp_at m i) (well.each i h))

pub conforming-definition : (m : Model) → WellFormed m → Conforming m ↔ AllDefinition41 m
conforming-definition m well = (
  λ k. record { each = λ i h. (component-definition m well i h).0 (k.each i h) },
  λ k. record { each = λ i h. (component-definition m well i h).1 (k.each i h) },
)

pub accepted-is-definition-4-1 : (m : Model) → WellFormed m → (accept_of m ≡ none) ↔ AllDefinition41 m × Joinable m
accepted-is-definition-4-1 m well = (
  λ e. let k = (accepted-exactly m well).0 e in ((conforming-definition m well).0 k.0, k.1),
  λ p. (accepted-exactly m well).1 ((conforming-definition m well).1 p.0, p.1),
)

pub system-meets-definition-4-1 : (c : Comp) (cs : List Comp) → WellFormed (c ∷ cs) → AllDefinition41 (c ∷ cs) → Joinable (c ∷ cs)
    → Definition41 (product c cs) × HouseRule (product c cs)
system-meets-definition-4-1 c cs well k join = system-meets c cs well ((conforming-definition (c ∷ cs) well).1 k) join
