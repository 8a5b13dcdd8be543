-- Reached parts stay reached: by an urgent row of the product, and by any row that leaves a stable state. So the parts of a reached state are reached
-- (000, Lemma 4.5).
use mathlib.Core.Path.{◌≡◌, refl, sym}
use mathlib.Core.Logic.{◌⊎◌, inl, inr, ⊎_elim}
use mathlib.Core.List.{List, [], ◌∷◌}
use Prim.Native.Nat.{ℕ, ◌<◌}
use lib.IntN.{ℤ}
use Rattle.laws.specs.Sets.{only, ◌∈◌}
use Rattle.model.specs.Model.{Comp, Model, acts, urgents}
use Rattle.model.specs.WellFormed.{WellComp, WellFormed}
use Rattle.iosa.specs.Automaton.{Automaton, alphabet, auto_of, Stable, Reachable, at-start, by_row, ReachedIn, Conditions, Compatible}
use Rattle.iosa.specs.Automaton.{Conforming, Joinable}
use Rattle.iosa.specs.Product.{◌⊗◌, product_from, product, embed, state_of, EachPart, Within, Reached, MadeOf, Series, over, next}
use Rattle.iosa.specs.TimedExactly.{Ready, Fires}
use Rattle.iosa.proofs.Settling.Each.{All, each_all}
use Rattle.iosa.proofs.Settling.Parts.{row-parts, label-parts, within-length, joint-parts}
use Rattle.iosa.specs.Parts.{Go, goes, sits-out, GoAll, end, and}
use Rattle.iosa.specs.Thesis.{OwnNames}
use Rattle.iosa.proofs.Settling.OwnNames.{component-own, product-own}
use Rattle.iosa.proofs.Settling.ProductConditions.{Constraints, conditions-constraints, product-keeps-constraints}
use Rattle.iosa.proofs.Settling.ProductConditions.{stable-sides, urgent-left, urgent-right}
use Rattle.iosa.proofs.Settling.ProductOfMany.{Fits, Pairwise, fits_on, joinable-pairwise, wells, system-own}
use Rattle.iosa.proofs.Settling.SystemConfluent.{parts-with}
use Rattle.iosa.proofs.Settling.UrgentOutputs.{urgent-everywhere}
use Rattle.iosa.proofs.Reaching.ReachExactly.{reachable-is-a-state}

-- a row that may be taken, or rest, keeps a state reached
pub go-reached : (A : Automaton) {a C R : ℕ} {s t : A.State} → (a ∈ alphabet A → (a ∈ A.urgent) ⊎ Stable A s) → Reachable A s → Go A a s C R t → Reachable A t
go-reached A f r (goes h w) = by_row r (f h) w
go-reached A f r (sits-out h p) = r

-- ---- two automata
module _ (A B : Automaton) (k : Compatible A B) (ca : Constraints A) (cb : Constraints B) (oa : OwnNames A) (ob : OwnNames B) where
  pub row-keeps-both : {a C R : ℕ} {x y : (A ⊗ B).State} → (a ∈ (A ⊗ B).urgent) ⊎ Stable (A ⊗ B) x → (A ⊗ B).Row x C a R y
      → Reachable A x.0 → Reachable B x.1 → Reachable A y.0 × Reachable B y.1
  row-keeps-both {a} {x = x} way row r q =
      let p = joint-parts A B a row in
      let sides : (Stable (A ⊗ B) x → Stable A x.0 × Stable B x.1) =
      stable-sides A B k ca cb oa ob x.0 x.1 (reachable-is-a-state A oa r) (reachable-is-a-state B ob q) in (
        go-reached A (λ h. ⊎_elim (λ u. inl (urgent-left A B k a u h)) (λ st. inr (sides st).0) way) r p.left,
        go-reached B (λ h. ⊎_elim (λ u. inl (urgent-right A B k a u h)) (λ st. inr (sides st).1) way) q p.right,
      )

  -- 000, Lemma 4.5, for two
  pub both-reachable : {x : (A ⊗ B).State} → Reachable (A ⊗ B) x → Reachable A x.0 × Reachable B x.1
  both-reachable at-start = (at-start, at-start)
  both-reachable (by_row r way row) = let i = both-reachable r in row-keeps-both way row i.0 i.1

-- ---- a system: where it is stable, every part is
stable-from : (cs : Model) (A : Automaton) → OwnNames A → Constraints A → All WellComp cs → All (λ c. Conditions (auto_of c)) cs → Fits A cs → Pairwise cs
    → (x : A.State) (ss : List ℕ) → A.States x → Within cs ss → Stable (product_from A cs) (embed A cs x ss)
    → Stable A x × EachPart (λ c. Stable (auto_of c)) cs ss
stable-from [] A o k w al f p x [] ok wi st = (st, tt)
stable-from [] A o k w al f p x (s ∷ ss) ok wi st = absurd wi
stable-from (c ∷ cs) A o k w al f p x [] ok wi st = absurd wi
stable-from (c ∷ cs) A o k w al f p x (s ∷ ss) ok wi st =
    let q = component-own c w.0 in
    let j = conditions-constraints (auto_of c) al.0 in
    let r = stable-from cs (A ⊗ auto_of c) (product-own A (auto_of c) o q) (product-keeps-constraints A (auto_of c) f.0 k j o q) w.1 al.1
    (fits_on A (auto_of c) cs f.1 p.0) p.1 (x, s) ss (ok, wi.0) wi.1 st in
    let b = stable-sides A (auto_of c) f.0 k j o q x s ok wi.0 r.0 in
    (b.0, (b.1, r.1))

-- each component by one action
all-reached : {a C R : ℕ} {m : Model} {s t : List ℕ} → GoAll a m s C R t → EachPart (λ d x. a ∈ acts d → (a ∈ urgents d) ⊎ Stable (auto_of d) x) m s
    → Reached m s → Reached m t
all-reached end f r = tt
all-reached (and {c = c} g rest) f r = (go-reached (auto_of c) f.0 r.0 g, all-reached rest f.1 r.1)

pub reached-within : (m : Model) (s : List ℕ) → All WellComp m → Reached m s → Within m s
reached-within m s w r = parts-with m s (λ d x k q. reachable-is-a-state (auto_of d) (component-own d k) q) w r

-- the composed state of the starts
abbrev pub starts_of : Model → List ℕ
starts_of [] = []
starts_of (c ∷ cs) = c.start ∷ starts_of cs

starts-reached : (m : Model) → Reached m (starts_of m)
starts-reached [] = tt
starts-reached (c ∷ cs) = (at-start, starts-reached cs)

embed-starts : (cs : List Comp) (A : Automaton) → embed A cs A.start (starts_of cs) ≡ (product_from A cs).start
embed-starts [] A = refl
embed-starts (c ∷ cs) A = embed-starts cs (A ⊗ auto_of c)

module _ (c : Comp) (cs : List Comp) (well : WellFormed (c ∷ cs)) (conf : Conforming (c ∷ cs)) (join : Joinable (c ∷ cs)) where
  each-well : All WellComp (c ∷ cs)
  each-well = wells (c ∷ cs) well

  pairs : Pairwise (c ∷ cs)
  pairs = joinable-pairwise (c ∷ cs) join

  pub stable-parts : (s : List ℕ) → Within (c ∷ cs) s → Stable (product c cs) (state_of c cs s) → EachPart (λ d. Stable (auto_of d)) (c ∷ cs) s
  stable-parts [] w st = absurd w
  stable-parts (s ∷ ss) w st =
      let k = each_all (λ d. Conditions (auto_of d)) (c ∷ cs) conf.each in
      stable-from cs (auto_of c) (component-own c each-well.0) (conditions-constraints (auto_of c) k.0) each-well.1 k.1
      pairs.0 pairs.1 s ss w.0 w.1 st

  -- in each component that has the action it is urgent, or the part is stable
  ways : (a : ℕ) (s : List ℕ) → Within (c ∷ cs) s → (a ∈ (product c cs).urgent) ⊎ Stable (product c cs) (state_of c cs s)
      → EachPart (λ d x. a ∈ acts d → (a ∈ urgents d) ⊎ Stable (auto_of d) x) (c ∷ cs) s
  ways a s w (inl u) =
      let al = urgent-everywhere (c ∷ cs) a pairs (label-parts (λ A. A.urgent) (λ A B. refl) cs (auto_of c) a u) in
      parts-with {P = λ d x. x < d.states} {Q = λ d x. a ∈ acts d → (a ∈ urgents d) ⊎ Stable (auto_of d) x} {R = λ d. a ∈ acts d → a ∈ urgents d} (c ∷ cs) s (λ d x f h k. inl (f k)) al w
  ways a s w (inr st) = parts-with {P = λ d. Stable (auto_of d)} {Q = λ d x. a ∈ acts d → (a ∈ urgents d) ⊎ Stable (auto_of d) x} {R = WellComp} (c ∷ cs) s (λ d x k q h. inr q) each-well (stable-parts s w st)

  -- a row of the product, urgent or from a stable state, keeps reached parts
  pub row-keeps-reached-parts : (C a R : ℕ) (y z : (product c cs).State) → (a ∈ (product c cs).urgent) ⊎ Stable (product c cs) y → (product c cs).Row y C a R z
      → MadeOf ReachedIn c cs y → MadeOf ReachedIn c cs z
  row-keeps-reached-parts C a R y z way row n =
      let w = reached-within (c ∷ cs) n.list each-well n.parts in
      let h = ((system-own c cs well).rows row).action in
      let p = row-parts c cs a {C = C} {R = R} n.list z (within-length (c ∷ cs) n.list w) h (rw n.state at row) in
      record { list = p.0; parts = all-reached p.1 (ways a n.list w (rw n.state at way)) n.parts; state = p.2 }

  -- 000, Lemma 4.5
  pub reached-state-has-reached-parts : {y : (product c cs).State} → Reachable (product c cs) y → MadeOf ReachedIn c cs y
  reached-state-has-reached-parts at-start = record { list = starts_of (c ∷ cs); parts = starts-reached (c ∷ cs); state = sym (embed-starts cs (auto_of c)) }
  reached-state-has-reached-parts (by_row {s = y} {t = z} {C = C} {a = a} {R = R} r way row) =
      row-keeps-reached-parts C a R y z way row (reached-state-has-reached-parts r)

-- ---- what goes on reaching: series of urgent steps, and a clock that fires
pub series-reaches : (A : Automaton) {x y : A.State} {l : List ℕ} {R : ℕ} → Reachable A x → Series A x l R y → Reachable A y
series-reaches A r over = r
series-reaches A r (next u more) = series-reaches A (by_row r (inl u.urgent) u.row) more

module _ (c : Comp) (cs : List Comp) (well : WellFormed (c ∷ cs)) (conf : Conforming (c ∷ cs)) (join : Joinable (c ∷ cs)) where
  pub series-keeps-reached-parts : {x y : (product c cs).State} {l : List ℕ} {R : ℕ} → MadeOf ReachedIn c cs x → Series (product c cs) x l R y
      → MadeOf ReachedIn c cs y
  series-keeps-reached-parts n over = n
  series-keeps-reached-parts n (next {x = x} {y = y} {C = C} {a = a} {R = R} u more) =
      series-keeps-reached-parts (row-keeps-reached-parts c cs well conf join C a R x y (inl u.urgent) u.row n) more

  pub firing-keeps-reached-parts : {s s' : List ℕ} {vs : List ℤ} {x v a R : ℕ} → Ready c cs s vs → Fires c cs s vs x v a R s'
      → MadeOf ReachedIn c cs (state_of c cs s) → MadeOf ReachedIn c cs (state_of c cs s')
  firing-keeps-reached-parts {s} {s'} {x = x} {a = a} {R = R} ok f n =
      row-keeps-reached-parts c cs well conf join (only x) a R (state_of c cs s) (state_of c cs s') (inr ok.stable) f.row n
