-- A row of a product is a row, or rest, of each of its parts: of two automata, and of a list of components from the left.
use mathlib.Core.Path.{◌≡◌, refl, sym, ◌∙◌, ap}
use mathlib.Core.Logic.{◌⊎◌, inl, inr, ⊎_elim, ⊎_map}
use mathlib.Core.Bool.{Bool, true, false, ◌||◌, ◌&&◌, not, true≢false}
use mathlib.Core.List.{List, [], ◌∷◌}
use Prim.Native.Nat.{ℕ, suc}
use native.Mathlib.Omega.{arith}
use lib.ListN.{length}
use lib.Bits.{or_zero_r}
use Rattle.laws.specs.Sets.{has, ◌∪◌, ◌∈◌}
use Rattle.laws.proofs.SetLaws.{or_assoc, has-or, has-without, has-ext, or-in-l, or-in-r, in-or, not-or, or-not}
use Rattle.model.specs.Model.{Comp, Model, acts}
use Rattle.iosa.specs.Automaton.{Automaton, alphabet, auto_of}
use Rattle.iosa.specs.Product.{Joint, R1, R2, R3, ◌⊗◌, product_from, product, embed, state_of, Within}
use Rattle.iosa.specs.Parts.{Go, goes, sits-out, GoAll, end, and}
use Rattle.iosa.proofs.Settling.Each.{Any}

-- where the action is known, it is a row
pub go-row : (A : Automaton) {a : ℕ} {x y : A.State} {C R : ℕ} → a ∈ alphabet A → Go A a x C R y → A.Row x C a R y
go-row A h (goes k r) = r
go-row A h (sits-out k p) = absurd (true≢false (sym h ∙ k))

-- ---- two automata
-- the actions of a product are those of either side
pub alphabet-joins : (A B : Automaton) → alphabet (A ⊗ B) ≡ alphabet A ∪ alphabet B
alphabet-joins A B =
    has-ext (alphabet (A ⊗ B)) (alphabet A ∪ alphabet B)
    (λ x. simp (has-or, has-without) (go (has A.inputs x) (has B.inputs x) (has A.outputs x) (has B.outputs x)))
  where
    go : (p q r s : Bool) → (((p || q) && not (r || s)) || (r || s)) ≡ ((p || r) || (q || s))
    go true true true true = refl
    go true true true false = refl
    go true true false true = refl
    go true true false false = refl
    go true false true true = refl
    go true false true false = refl
    go true false false true = refl
    go true false false false = refl
    go false true true true = refl
    go false true true false = refl
    go false true false true = refl
    go false true false false = refl
    go false false true true = refl
    go false false true false = refl
    go false false false true = refl
    go false false false false = refl

-- a step of a product, as one of each side
pub record Parts (A B : Automaton) (a : ℕ) (x : A.State × B.State) (C R : ℕ) (y : A.State × B.State) : Type 0 where
  pub guard₁ : ℕ
  pub guard₂ : ℕ
  pub resets₁ : ℕ
  pub resets₂ : ℕ
  pub left : Go A a x.0 guard₁ resets₁ y.0
  pub right : Go B a x.1 guard₂ resets₂ y.1
  pub guards : C ≡ guard₁ ∪ guard₂
  pub sets : R ≡ resets₁ ∪ resets₂

module _ (A B : Automaton) (a : ℕ) where
  pub joint-parts : {s s' : A.State} {t t' : B.State} {C R : ℕ} → Joint A B a s t C R s' t' → Parts A B a (s, t) C R (s', t')
  joint-parts (R1 {C = C} {R = R} h k p r) =
      record {
        guard₁ = C;
        guard₂ = 0;
        resets₁ = R;
        resets₂ = 0;
        left = goes h r;
        right = sits-out k p;
        guards = sym (or_zero_r C);
        sets = sym (or_zero_r R);
      }
  joint-parts (R2 {C = C} {R = R} h k p r) =
      record { guard₁ = 0; guard₂ = C; resets₁ = 0; resets₂ = R; left = sits-out h p; right = goes k r; guards = refl; sets = refl }
  joint-parts (R3 {C = C} {D = D} {R = R} {Q = Q} h k r q) =
      record { guard₁ = C; guard₂ = D; resets₁ = R; resets₂ = Q; left = goes h r; right = goes k q; guards = refl; sets = refl }

  pub go-parts : {x y : A.State × B.State} {C R : ℕ} → Go (A ⊗ B) a x C R y → Parts A B a x C R y
  go-parts (goes h r) = joint-parts r
  go-parts (sits-out h p) =
      let n = not-or (alphabet A) (alphabet B) a (rw (alphabet-joins A B) at h) in
      record { guard₁ = 0; guard₂ = 0; resets₁ = 0; resets₂ = 0; left = sits-out n.0 p.0; right = sits-out n.1 p.1; guards = refl; sets = refl }

  known : (a ∈ alphabet A) ⊎ (a ∈ alphabet B) → a ∈ alphabet (A ⊗ B)
  known u = rw (alphabet-joins A B) (⊎_elim (or-in-l (alphabet A) (alphabet B) a) (or-in-r (alphabet A) (alphabet B) a) u)

  -- a row's action is one of the product's
  pub joint-known : {s s' : A.State} {t t' : B.State} {C R : ℕ} → Joint A B a s t C R s' t' → a ∈ alphabet (A ⊗ B)
  joint-known (R1 h k p r) = known (inl h)
  joint-known (R2 h k p r) = known (inr k)
  joint-known (R3 h k r q) = known (inl h)

  pub parts-go : {s s' : A.State} {t t' : B.State} {C D R Q : ℕ} → Go A a s C R s' → Go B a t D Q t' → Go (A ⊗ B) a (s, t) (C ∪ D) (R ∪ Q) (s', t')
  parts-go (goes h r) (goes k q) = goes (known (inl h)) (R3 h k r q)
  parts-go {C} {R} (goes h r) (sits-out k p) = rw (or_zero_r C, or_zero_r R) (goes (known (inl h)) (R1 h k p r))
  parts-go (sits-out h p) (goes k q) = goes (known (inr k)) (R2 h k p q)
  parts-go (sits-out h p) (sits-out k q) = sits-out (rw (alphabet-joins A B) (or-not (alphabet A) (alphabet B) a h k)) (p, q)

-- ---- a list of components, from the left
pub all_go : {a : ℕ} (A : Automaton) {x y : A.State} {cs : List Comp} {ss ts : List ℕ} {C R D Q : ℕ} → Go A a x C R y → GoAll a cs ss D Q ts
    → Go (product_from A cs) a (embed A cs x ss) (C ∪ D) (R ∪ Q) (embed A cs y ts)
all_go A {C} {R} g end = rw (or_zero_r C, or_zero_r R) g
all_go {a} A {C} {R} g (and {c = c} {C = D} {D = E} {R = Q} {Q = P} h rest) =
    rw (← or_assoc C D E, ← or_assoc R Q P) (all_go (A ⊗ auto_of c) (parts-go A (auto_of c) a g h) rest)

-- a step of a product from the left, as one of A and one of each further component
pub record Split (A : Automaton) (a : ℕ) (cs : List Comp) (x : A.State) (ss : List ℕ) (C R : ℕ) (y : (product_from A cs).State) : Type 0 where
  pub guard₁ : ℕ
  pub guard₂ : ℕ
  pub resets₁ : ℕ
  pub resets₂ : ℕ
  pub to : A.State
  pub others : List ℕ
  pub left : Go A a x guard₁ resets₁ to
  pub right : GoAll a cs ss guard₂ resets₂ others
  pub guards : C ≡ guard₁ ∪ guard₂
  pub sets : R ≡ resets₁ ∪ resets₂
  pub whole : y ≡ embed A cs to others

regroup : {n p : ℕ} (d x y : ℕ) → n ≡ p ∪ d → p ≡ x ∪ y → n ≡ x ∪ (y ∪ d)
regroup d x y e f = e ∙ ap (λ k. k ∪ d) f ∙ or_assoc x y d

pub go_all : (a : ℕ) (A : Automaton) (cs : List Comp) (x : A.State) (ss : List ℕ) (C R : ℕ) (y : (product_from A cs).State) → length ss ≡ length cs
    → Go (product_from A cs) a (embed A cs x ss) C R y → Split A a cs x ss C R y
go_all a A [] x [] C R y e g = record {
  guard₁ = C;
  guard₂ = 0;
  resets₁ = R;
  resets₂ = 0;
  to = y;
  others = [];
  left = g;
  right = end;
  guards = sym (or_zero_r C);
  sets = sym (or_zero_r R);
  whole = refl;
}
go_all a A [] x (s ∷ ss) C R y e g = absurd (omega arith)
go_all a A (c ∷ cs) x [] C R y e g = absurd (omega arith)
go_all a A (c ∷ cs) x (s ∷ ss) C R y e g =
    let p = go_all a (A ⊗ auto_of c) cs (x, s) ss C R y (omega arith) g in
    let q = go-parts A (auto_of c) a p.left in
    record {
      guard₁ = q.guard₁;
      guard₂ = q.guard₂ ∪ p.guard₂;
      resets₁ = q.resets₁;
      resets₂ = q.resets₂ ∪ p.resets₂;
      to = p.to.0;
      others = p.to.1 ∷ p.others;
      left = q.left;
      right = and q.right p.right;
      guards = regroup p.guard₂ q.guard₁ q.guard₂ p.guards q.guards;
      sets = regroup p.resets₂ q.resets₁ q.resets₂ p.sets q.sets;
      whole = p.whole;
    }

-- ---- a row of the product of a list is a row, or rest, of each component
same-sets : {a : ℕ} {m : Model} {s t : List ℕ} {C D R Q : ℕ} → C ≡ D → R ≡ Q → GoAll a m s D Q t → GoAll a m s C R t
same-sets p q g = rw (p, q) g

pub within-length : (m : Model) (s : List ℕ) → Within m s → length s ≡ length m
within-length [] [] w = refl
within-length [] (s ∷ ss) w = absurd w
within-length (c ∷ cs) [] w = absurd w
within-length (c ∷ cs) (s ∷ ss) w = ap suc (within-length cs ss w.1)

module _ (c : Comp) (cs : List Comp) (a : ℕ) where
  pub parts-row : {s t : List ℕ} {C R : ℕ} → a ∈ alphabet (product c cs) → GoAll a (c ∷ cs) s C R t → (product c cs).Row (state_of c cs s) C a R (state_of c cs t)
  parts-row h (and g rest) = go-row (product c cs) h (all_go (auto_of c) g rest)

  pub row-parts : {C R : ℕ} (s : List ℕ) (y : (product c cs).State) → length s ≡ length (c ∷ cs) → a ∈ alphabet (product c cs)
      → (product c cs).Row (state_of c cs s) C a R y → (t : List ℕ) × GoAll a (c ∷ cs) s C R t × (y ≡ state_of c cs t)
  row-parts [] y e h r = absurd (omega arith)
  row-parts {C} {R} (s ∷ ss) y e h r =
      let p = go_all a (auto_of c) cs s ss C R y (omega arith) (goes h r) in
      (p.to ∷ p.others, same-sets p.guards p.sets (and p.left p.right), p.whole)

-- ---- the labels of a product
-- a set of actions or clocks that a product joins, f: what is in it is in that of some part, and back
module _ (f : Automaton → ℕ) (joins : (A B : Automaton) → f (A ⊗ B) ≡ f A ∪ f B) where
  pub label-parts : (cs : List Comp) (A : Automaton) (a : ℕ) → a ∈ f (product_from A cs) → (a ∈ f A) ⊎ Any (λ c. a ∈ f (auto_of c)) cs
  label-parts [] A a h = inl h
  label-parts (c ∷ cs) A a h =
      ⊎_elim
      (λ k. ⊎_map (λ x. x) (λ x. inl x) (in-or (f A) (f (auto_of c)) a (rw joins at k)))
      (λ k. inr (inr k))
      (label-parts cs (A ⊗ auto_of c) a h)

  pub parts-label : (cs : List Comp) (A : Automaton) (a : ℕ) → (a ∈ f A) ⊎ Any (λ c. a ∈ f (auto_of c)) cs → a ∈ f (product_from A cs)
  parts-label [] A a (inl h) = h
  parts-label [] A a (inr h) = absurd h
  parts-label (c ∷ cs) A a (inl h) = parts-label cs (A ⊗ auto_of c) a (inl (rw joins (or-in-l (f A) (f (auto_of c)) a h)))
  parts-label (c ∷ cs) A a (inr (inl h)) = parts-label cs (A ⊗ auto_of c) a (inl (rw joins (or-in-r (f A) (f (auto_of c)) a h)))
  parts-label (c ∷ cs) A a (inr (inr h)) = parts-label cs (A ⊗ auto_of c) a (inr h)

-- an action of the product is one of some component, and back
pub action-parts : (c : Comp) (cs : List Comp) (a : ℕ) → a ∈ alphabet (product c cs) → Any (λ d. a ∈ acts d) (c ∷ cs)
action-parts c cs a h = label-parts alphabet alphabet-joins cs (auto_of c) a h

pub parts-action : (c : Comp) (cs : List Comp) (a : ℕ) → Any (λ d. a ∈ acts d) (c ∷ cs) → a ∈ alphabet (product c cs)
parts-action c cs a u = parts-label alphabet alphabet-joins cs (auto_of c) a u
