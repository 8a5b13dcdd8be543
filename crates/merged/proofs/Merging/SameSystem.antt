-- Merging leaves the system as it was: the product of the merged model has the rows of the product of the model, pair for pair.
use mathlib.Core.Path.{◌≡◌, refl, sym, ◌∙◌, ap, ap₂}
use mathlib.Core.Logic.{inl, inr, ⊎_elim}
use mathlib.Core.List.{List, [], ◌∷◌}
use Prim.Native.Nat.{ℕ, zero, suc, ◌<◌}
use native.Mathlib.Omega.{arith}
use lib.ListN.{length}
use Rattle.laws.specs.Sets.{◌∪◌, ◌∈◌}
use Rattle.laws.proofs.SetLaws.{or_assoc, in-or, or-in-l, or-in-r}
use Rattle.laws.proofs.PairLaws.{pair_parts, pair-below}
use Rattle.model.specs.Model.{Comp, Model, comp_at}
use Rattle.model.specs.WellFormed.{WellComp}
use Rattle.iosa.specs.Automaton.{Automaton, alphabet, auto_of, Conditions, Compatible}
use Rattle.iosa.specs.Product.{◌⊗◌, Within}
use Rattle.merged.specs.Merge.{merged, merged_at}
use Rattle.merged.specs.MergedAs.{pair_of}
use Rattle.merged.specs.MergedExactly.{paired_at}
use Rattle.iosa.proofs.Settling.Each.{All, Any}
use Rattle.iosa.proofs.Settling.Parts.{parts-go, go-parts}
use Rattle.iosa.specs.Parts.{Go, goes, sits-out, GoAll, and}
use Rattle.iosa.proofs.Settling.ProductOfMany.{Pairwise}
use Rattle.merged.proofs.Merging.Labels.{merged-inputs, merged-outputs}
use Rattle.merged.proofs.Merging.Product.{merged-rows-are-the-products, product-rows-are-merged}

-- ---- the two, by one action
module _ (c d : Comp) (wc : WellComp c) (wd : WellComp d) (oc : Conditions (auto_of c)) (od : Conditions (auto_of d)) (j : Compatible (auto_of c) (auto_of d)) where
  pub merged-alphabet : alphabet (auto_of (merged c d)) ≡ alphabet (auto_of c ⊗ auto_of d)
  merged-alphabet = ap₂ ◌∪◌ (merged-inputs c d wc wd j) (merged-outputs c d)

  two-go : {a s t C R s' t' : ℕ} → Go (auto_of c ⊗ auto_of d) a (s, t) C R (s', t') → Go (auto_of (merged c d)) a (pair_of d s t) C R (pair_of d s' t')
  unfolding merged
  two-go (goes h r) = goes (rw merged-alphabet h) (product-rows-are-merged c d wc wd oc od j r)
  two-go (sits-out h p) = sits-out (rw merged-alphabet h) (pair-below c.states d.states p.0 p.1)

  go-two : {a x C R y : ℕ} (s t s' t' : ℕ) → s < c.states → t < d.states → s' < c.states → t' < d.states → x ≡ pair_of d s t → y ≡ pair_of d s' t'
      → Go (auto_of (merged c d)) a x C R y → Go (auto_of c ⊗ auto_of d) a (s, t) C R (s', t')
  go-two {a} {C} {R} s t s' t' hs ht hs' ht' e f (goes h r) =
      goes (rw merged-alphabet at h) ((merged-rows-are-the-products c d wc wd oc od j s t s' t' C a R hs ht hs' ht').0 (rw (e, f) at r))
  go-two s t s' t' hs ht hs' ht' e f (sits-out h p) =
      let q = pair_parts d.states s' s t' t ht' ht (sym f ∙ e) in
      rw (q.0, q.1) (sits-out (rw merged-alphabet at h) (hs, ht))

-- ---- each component by one action
regrouped : {a : ℕ} {m : Model} {s t : List ℕ} {C D R Q : ℕ} → C ≡ D → R ≡ Q → GoAll a m s C R t → GoAll a m s D Q t
regrouped e f g = rw (← e, ← f) g

pub go-merged : (i : ℕ) (m : Model) → All WellComp m → All (λ c. Conditions (auto_of c)) m → Pairwise m → suc i < length m → {a C R : ℕ} {s t : List ℕ}
    → GoAll a m s C R t → GoAll a (merged_at m i) (paired_at m i s) C R (paired_at m i t)
unfolding merged_at
go-merged i [] w o j h g = absurd (omega arith)
go-merged zero (c ∷ []) w o j h g = absurd (omega arith)
go-merged zero (c ∷ d ∷ cs) w o j h {a} (and {C = C} {R = R} g (and {C = D} {D = E} {R = Q} {Q = T} k rest)) =
    regrouped (or_assoc C D E) (or_assoc R Q T) (and (two-go c d w.0 w.1.0 o.0 o.1.0 j.0.0 (parts-go (auto_of c) (auto_of d) a g k)) rest)
go-merged (suc i) (c ∷ cs) w o j h (and g rest) = and g (go-merged i cs w.1 o.1 j.1 (omega arith) rest)

-- the first component and the others
record First (a : ℕ) (c : Comp) (cs : Model) (s : ℕ) (ss : List ℕ) (C R t : ℕ) (ts : List ℕ) : Type 0 where
  guard₁ : ℕ
  guard₂ : ℕ
  resets₁ : ℕ
  resets₂ : ℕ
  here : Go (auto_of c) a s guard₁ resets₁ t
  others : GoAll a cs ss guard₂ resets₂ ts
  guards : C ≡ guard₁ ∪ guard₂
  sets : R ≡ resets₁ ∪ resets₂

first : {a : ℕ} {c : Comp} {cs : Model} {s t : ℕ} {ss ts : List ℕ} {C R : ℕ} → GoAll a (c ∷ cs) (s ∷ ss) C R (t ∷ ts) → First a c cs s ss C R t ts
first (and {C = C} {D = D} {R = R} {Q = Q} g rest) =
    record { guard₁ = C; guard₂ = D; resets₁ = R; resets₂ = Q; here = g; others = rest; guards = refl; sets = refl }

pub merged-go : (i : ℕ) (m : Model) → All WellComp m → All (λ c. Conditions (auto_of c)) m → Pairwise m → suc i < length m → {a C R : ℕ} (s t : List ℕ)
    → Within m s → Within m t
    → GoAll a (merged_at m i) (paired_at m i s) C R (paired_at m i t) → GoAll a m s C R t
unfolding merged_at
merged-go i [] w o j h s t ok ok' g = absurd (omega arith)
merged-go i (c ∷ cs) w o j h [] t ok ok' g = absurd ok
merged-go i (c ∷ cs) w o j h (s ∷ ss) [] ok ok' g = absurd ok'
merged-go zero (c ∷ []) w o j h (s ∷ ss) (t ∷ ts) ok ok' g = absurd (omega arith)
merged-go zero (c ∷ d ∷ cs) w o j h (s ∷ []) (t ∷ ts) ok ok' g = absurd ok.1
merged-go zero (c ∷ d ∷ cs) w o j h (s ∷ u ∷ ss) (t ∷ []) ok ok' g = absurd ok'.1
merged-go zero (c ∷ d ∷ cs) w o j h {a} (s ∷ u ∷ ss) (t ∷ v ∷ ts) ok ok' g =
    let p = first g in
    let q = go-parts (auto_of c) (auto_of d) a (
    go-two c d w.0 w.1.0 o.0 o.1.0 j.0.0 s u t v ok.0 ok.1.0 ok'.0 ok'.1.0 refl refl p.here) in
    regrouped
    (sym (p.guards ∙ ap (λ n. n ∪ p.guard₂) q.guards ∙ or_assoc q.guard₁ q.guard₂ p.guard₂))
    (sym (p.sets ∙ ap (λ n. n ∪ p.resets₂) q.sets ∙ or_assoc q.resets₁ q.resets₂ p.resets₂))
    (and q.left (and q.right p.others))
merged-go (suc i) (c ∷ cs) w o j h (s ∷ ss) (t ∷ ts) ok ok' g =
    let p = first g in
    regrouped (sym p.guards) (sym p.sets) (and p.here (merged-go i cs w.1 o.1 j.1 (omega arith) ss ts ok.1 ok'.1 p.others))

-- ---- the labels of the system
-- a set f of labels that a product joins, and that the merged component has joined
module _ (f : Automaton → ℕ) (a : ℕ) where
  abbrev pub Has : Comp → Type 0
  Has c = a ∈ f (auto_of c)

  pub label-merged : (i : ℕ) (m : Model) → suc i < length m → f (auto_of (merged (comp_at m i) (comp_at m (suc i)))) ≡ f (auto_of (comp_at m i)) ∪ f
      (auto_of (comp_at m (suc i)))
      → Any Has m → Any Has (merged_at m i)
  unfolding merged_at
  label-merged i [] h e u = absurd (omega arith)
  label-merged zero (c ∷ []) h e u = absurd (omega arith)
  label-merged zero (c ∷ d ∷ cs) h e (inl u) = inl (rw e (or-in-l (f (auto_of c)) (f (auto_of d)) a u))
  label-merged zero (c ∷ d ∷ cs) h e (inr (inl u)) = inl (rw e (or-in-r (f (auto_of c)) (f (auto_of d)) a u))
  label-merged zero (c ∷ d ∷ cs) h e (inr (inr u)) = inr u
  label-merged (suc i) (c ∷ cs) h e (inl u) = inl u
  label-merged (suc i) (c ∷ cs) h e (inr u) = inr (label-merged i cs (omega arith) e u)

  pub merged-label : (i : ℕ) (m : Model) → suc i < length m → f (auto_of (merged (comp_at m i) (comp_at m (suc i)))) ≡ f (auto_of (comp_at m i)) ∪ f
      (auto_of (comp_at m (suc i)))
      → Any Has (merged_at m i) → Any Has m
  unfolding merged_at
  merged-label i [] h e u = absurd (omega arith)
  merged-label zero (c ∷ []) h e u = absurd (omega arith)
  merged-label zero (c ∷ d ∷ cs) h e (inl u) = ⊎_elim (λ v. inl v) (λ v. inr (inl v)) (in-or (f (auto_of c)) (f (auto_of d)) a (rw e at u))
  merged-label zero (c ∷ d ∷ cs) h e (inr u) = inr (inr u)
  merged-label (suc i) (c ∷ cs) h e (inl u) = inl u
  merged-label (suc i) (c ∷ cs) h e (inr u) = inr (merged-label i cs (omega arith) e u)
