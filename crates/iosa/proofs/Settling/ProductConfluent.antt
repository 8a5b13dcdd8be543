-- Proposition 4.2 of document 000, pair by pair: of two automata confluent with respect to a and b, the product is; where they are compatible, for all.
use mathlib.Core.Path.{◌≡◌, sym}
use Prim.Native.Nat.{ℕ}
use Rattle.laws.specs.Sets.{◌∈◌}
use Rattle.laws.proofs.SetLaws.{or-none}
use Rattle.iosa.specs.Automaton.{Automaton, alphabet, MeetsAt, Meets, ConfluentFor, Confluent, Compatible}
use Rattle.iosa.specs.Product.{◌⊗◌}
use Rattle.iosa.proofs.Settling.Parts.{Parts, go-row, joint-parts, parts-go, joint-known}
use Rattle.iosa.specs.Parts.{Go, goes, sits-out}
use Rattle.iosa.specs.Thesis.{OwnNames}
use Rattle.iosa.proofs.Settling.ProductConditions.{urgent-left, urgent-right}

-- one automaton, by rows or at rest
go-meet : (A : Automaton) → OwnNames A → {a b R Q : ℕ} {s t u : A.State} → Meets A s a b → Go A a s 0 R t → Go A b s 0 Q u
    → (v : A.State) × Go A b t 0 Q v × Go A a u 0 R v
go-meet A own k (goes h r) (goes j q) = let x = (k h j).meet r q in (x.0, goes j x.1, goes h x.2)
go-meet A own {t} k (goes h r) (sits-out j p) = (t, sits-out j (own.rows r).target, goes h r)
go-meet A own {u} k (sits-out h p) (goes j q) = (u, goes j q, sits-out h (own.rows q).target)
go-meet A own {s} k (sits-out h p) (sits-out j q) = (s, sits-out j q, sits-out h p)

unguarded-parts : {A B : Automaton} {a R : ℕ} {x y : A.State × B.State} (p : Parts A B a x 0 R y)
    → Go A a x.0 0 p.resets₁ y.0 × Go B a x.1 0 p.resets₂ y.1
unguarded-parts p = let z = or-none p.guard₁ p.guard₂ (sym p.guards) in (rw z.0 at p.left, rw z.1 at p.right)

row-resets : (A : Automaton) (s t : A.State) (C a : ℕ) {R Q : ℕ} → R ≡ Q → A.Row s C a Q t → A.Row s C a R t
row-resets A s t C a e r = rw e r

-- ---- two actions at one state: neither urgency nor compatibility is asked for
module _ (A B : Automaton) (oa : OwnNames A) (ob : OwnNames B) (s : A.State) (t : B.State) (a b : ℕ) where
  pub product-meets-at : Meets A s a b → Meets B t a b → MeetsAt (A ⊗ B) (s, t) a b
  product-meets-at k j = record { meet = λ r q. build (joint-known A B a r) (joint-known A B b q) (joint-parts A B a r) (joint-parts A B b q) }
    where
      build : {R Q : ℕ} {x y : A.State × B.State} → a ∈ alphabet (A ⊗ B) → b ∈ alphabet (A ⊗ B) → Parts A B a (s, t) 0 R x → Parts A B b (s, t) 0 Q y
          → (v : A.State × B.State) × (A ⊗ B).Row x 0 b Q v × (A ⊗ B).Row y 0 a R v
      build {x = x} {y = y} ha hb p q =
          let f = unguarded-parts p in
          let g = unguarded-parts q in
          let l = go-meet A oa k f.0 g.0 in
          let r = go-meet B ob j f.1 g.1 in (
            (l.0, r.0),
            row-resets (A ⊗ B) x (l.0, r.0) 0 b q.sets (go-row (A ⊗ B) hb (parts-go A B b l.1 r.1)),
            row-resets (A ⊗ B) y (l.0, r.0) 0 a p.sets (go-row (A ⊗ B) ha (parts-go A B a l.2 r.2)),
          )

-- ---- Proposition 4.2
module _ (A B : Automaton) (P : A.State → Type 0) (Q : B.State → Type 0) (oa : OwnNames A) (ob : OwnNames B) where
  -- "If both are confluent w.r.t. urgent actions a and b, then so is" the product
  pub product-is-confluent-for : (a b : ℕ) → ConfluentFor A P a b → ConfluentFor B Q a b → ConfluentFor (A ⊗ B) (λ x. P x.0 × Q x.1) a b
  product-is-confluent-for a b k j = record {
    meets = λ x ok. product-meets-at A B oa ob x.0 x.1 a b (λ h i. k.meets x.0 ok.0) (λ h i. j.meets x.1 ok.1);
  }

  -- "Therefore, if" both "are confluent", the product "is also confluent"
  pub product-is-confluent : Compatible A B → Confluent A P → Confluent B Q → Confluent (A ⊗ B) (λ x. P x.0 × Q x.1)
  product-is-confluent c k j = record {
    pair = λ a b ne ua ub. record {
      meets = λ x ok. product-meets-at A B oa ob x.0 x.1 a b
          (λ h i. (k.pair a b ne (urgent-left A B c a ua h) (urgent-left A B c b ub i)).meets x.0 ok.0)
          (λ h i. (j.pair a b ne (urgent-right A B c a ua h) (urgent-right A B c b ub i)).meets x.1 ok.1);
    };
  }
