-- Two simulations over one supply, urgent steps freely chosen and neither refused, end each round alike.
use mathlib.Core.Path.{◌≡◌, sym, ◌∙◌, ap, subst}
use mathlib.Core.Option.{none}
use mathlib.Core.Bool.{true, true≢false}
use mathlib.Core.List.{List, ◌∷◌}
use Prim.Native.Nat.{ℕ}
use native.Mathlib.Decide.{ℕ_discrete}
use lib.IntN.{ℤ, pos}
use lib.Signed.{lt_z}
use Rattle.laws.specs.Sets.{◌∪◌, only}
use Rattle.laws.proofs.SetLaws.{in_one}
use Rattle.laws.proofs.TickLaws.{less-irreflexive, less-transitive}
use Rattle.model.specs.Model.{Comp}
use Rattle.model.specs.WellFormed.{WellFormed}
use Rattle.iosa.specs.Automaton.{Stable, Conditions}
use Rattle.iosa.specs.Product.{product, state_of, Within}
use Rattle.iosa.specs.Checks.{accept_of}
use Rattle.iosa.specs.TimedExactly.{value_of, Fires, Falls}
use Rattle.iosa.proofs.Acceptance.Accepted.{accepted-exactly}
use Rattle.iosa.proofs.Settling.Parts.{within-length}
use Rattle.iosa.proofs.Settling.ProductOfMany.{system-is-an-automaton}
use Rattle.iosa.proofs.Settling.Start.{start-in-range}
use Rattle.iosa.proofs.Settling.Steps.{state-is-one-list}
use Rattle.timing.proofs.Timing.Values.{falls-once}
use Rattle.simulation.specs.Simulate.{Supply, Round}
use Rattle.simulation.specs.Free.{Takes, Closes, After, first, later, Counting}
use Rattle.simulation.proofs.Fed.{takes-once}

-- one list of numbers for one state of the product
pub one_list : (c : Comp) (cs : List Comp) {s t : List ℕ} → Within (c ∷ cs) s → Within (c ∷ cs) t → state_of c cs s ≡ state_of c cs t → s ≡ t
one_list c cs {s} {t} w v q = state-is-one-list c cs s t (within-length (c ∷ cs) s w) (within-length (c ∷ cs) t v) q

-- ---- a firing is one
module _ (c : Comp) (cs : List Comp) (well : WellFormed (c ∷ cs)) (acc : accept_of (c ∷ cs) ≡ none) where
  conditions : Conditions (product c cs)
  conditions = let k = (accepted-exactly (c ∷ cs) well).0 acc in system-is-an-automaton c cs well k.0 k.1

  -- what two firings have in common
  record Alike (v R : ℕ) (s : List ℕ) (v' R' : ℕ) (s' : List ℕ) : Type 0 where
    pub ticks : v ≡ v'
    pub resets : R ≡ R'
    pub state : s ≡ s'

  -- the clock that fires is one: each of two would be strictly less than the other
  clock-once : {x v a R x' v' a' R' : ℕ} {o s s' : List ℕ} {vs : List ℤ} → Fires c cs o vs x v a R s → Fires c cs o vs x' v' a' R' s' → x ≡ x'
  clock-once {x} {v} {x' = x'} {v' = v'} {vs = vs} f g = elim (ℕ_discrete x x') [
    | yes q ↦ q
    | no n ↦
        let a : lt_z (pos v) (pos v') ≡ true = ap (lt_z (pos v)) (sym g.value) ∙ f.least x' (λ q. n (sym q)) g.waits in
        let b : lt_z (pos v') (pos v) ≡ true = ap (lt_z (pos v')) (sym f.value) ∙ g.least x n f.waits in
        absurd (true≢false (sym (less-transitive (pos v) (pos v') (pos v) a b) ∙ less-irreflexive (pos v)))
  ]

  shot-once : {x v a R x' v' a' R' : ℕ} {o s s' : List ℕ} {vs : List ℤ} → Fires c cs o vs x v a R s → Fires c cs o vs x' v' a' R' s' → Alike v R s v' R' s'
  shot-once {x} {a' = a'} {R' = R'} {o} {s} {s'} {vs} f g =
      let q = clock-once f g in
      let row = subst (λ n. (product c cs).Row (state_of c cs o) (only n) a' R' (state_of c cs s')) (sym q) g.row in
      let k = conditions.cond_c.same x (in_one x) (in_one x) f.row row in
      record { ticks = pos-once (sym f.value ∙ ap (value_of vs) q ∙ g.value); resets = k.2; state = one_list c cs f.within g.within k.3 }
    where
      pos-once : {n m : ℕ} → pos n ≡ pos m → n ≡ m
      pos-once h = cc

module _ (c : Comp) (cs : List Comp) (p : Supply) where
  pub after-within : {k : ℕ} {q : Round} → After c cs p k q → Within (c ∷ cs) q.state
  after-within (first k) = k.settles.within
  after-within (later h f g k) = k.settles.within

  pub after-stable : {k : ℕ} {q : Round} → After c cs p k q → Stable (product c cs) (state_of c cs q.state)
  after-stable (first k) = k.settles.stable
  after-stable (later h f g k) = k.settles.stable

-- ---- over any states that count
module _ (c : Comp) (cs : List Comp) (well : WellFormed (c ∷ cs)) (acc : accept_of (c ∷ cs) ≡ none) (P : List ℕ → Type 0) (count : Counting c cs P)
    (p : Supply) where
  -- a round's end does not depend on the choice of urgent steps
  closes-once : {w : ℕ} {s : List ℕ} {vs : List ℤ} {ts : List ℕ} {q q' : Round} → Within (c ∷ cs) s → P s → Closes c cs p w s vs ts q
      → Closes c cs p w s vs ts q' → q ≡ q'
  closes-once {w} {s} {vs} {ts} {q} {q'} i ok k k' =
      let d = count.settles s i ok in
      let same = (d.stops k.settles.series k.settles.stable).same k'.settles.series k'.settles.stable in
      let st : q'.state ≡ q.state = one_list c cs k'.settles.within k.settles.within same.end in
      takes-once p (w ∪ k.resets) ts (sym st) k.takes (subst (λ R. Takes p (w ∪ R) vs ts q') same.resets k'.takes)

  -- every state on the way counts
  pub after-counts : {k : ℕ} {q : Round} → After c cs p k q → P q.state
  after-counts (first k) = count.urgent count.start (start-in-range (c ∷ cs) well) k.settles.within k.settles.series
  after-counts (later h f g k) =
      count.urgent (count.fires (after-counts h) (after-within c cs p h) (after-stable c cs p h) f) f.within k.settles.within k.settles.series

  -- what is left to say once the earlier round is the same
  later-once : {x v a R x' v' a' R' : ℕ} {q o q₁ q₂ : Round} {s s' : List ℕ} {vs vs' : List ℤ} → q ≡ o → P s
      → Fires c cs q.state q.values x v a R s → Falls (c ∷ cs) q.values v vs → Closes c cs p R s vs q.taken q₁
      → Fires c cs o.state o.values x' v' a' R' s' → Falls (c ∷ cs) o.values v' vs' → Closes c cs p R' s' vs' o.taken q₂ → q₁ ≡ q₂
  later-once {v = v} {R} {x'} {v'} {a'} {R'} {q} {o} {q₁} {q₂} {s} {s'} {vs} {vs'} e ok f g k f' g' k' =
      let f'' = subst (λ z. Fires c cs z.state z.values x' v' a' R' s') (sym e) f' in
      let g'' = subst (λ z. Falls (c ∷ cs) z.values v' vs') (sym e) g' in
      let h = shot-once c cs well acc f f'' in
      let fall : vs ≡ vs' = falls-once (c ∷ cs) q.values v vs vs' g (subst (λ n. Falls (c ∷ cs) q.values n vs') (sym h.ticks) g'') in
      let k₁ : Closes c cs p R' s' vs' q.taken q₂ = subst (λ z. Closes c cs p R' s' vs' z.taken q₂) (sym e) k' in
      let k₂ : Closes c cs p R' s' vs q.taken q₂ = subst (λ l. Closes c cs p R' s' l q.taken q₂) (sym fall) k₁ in
      let k₃ : Closes c cs p R' s vs q.taken q₂ = subst (λ l. Closes c cs p R' l vs q.taken q₂) (sym h.state) k₂ in
      closes-once f.within ok k (subst (λ n. Closes c cs p n s vs q.taken q₂) (sym h.resets) k₃)

  -- "two simulations over the same lists, urgent steps freely chosen and neither refused, end each round with equal state and clock values"
  pub rounds-agree-over : {k : ℕ} {q q' : Round} → After c cs p k q → After c cs p k q' → q ≡ q'
  rounds-agree-over (first k) (first k') = closes-once (start-in-range (c ∷ cs) well) count.start k k'
  rounds-agree-over (later h f g k) (later h' f' g' k') =
      later-once (rounds-agree-over h h') (count.fires (after-counts h) (after-within c cs p h) (after-stable c cs p h) f) f g k f' g' k'
