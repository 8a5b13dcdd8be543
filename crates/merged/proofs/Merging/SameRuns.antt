-- Merging leaves the system's rows and series as they were: of the merged model's product they are those of the model's, pair for pair.
use mathlib.Core.Path.{◌≡◌, refl, ◌∙◌, ap}
use mathlib.Core.Logic.{◌↔◌}
use mathlib.Core.Option.{Option}
use mathlib.Core.List.{List, ◌∷◌}
use Prim.Native.Nat.{ℕ, suc, ◌<◌}
use native.Mathlib.Omega.{arith}
use lib.ListN.{length, get_or}
use Rattle.laws.specs.Sets.{◌∪◌, ◌∈◌}
use Rattle.laws.proofs.ListLaws.{joined_length}
use Rattle.answer.specs.Told.{Told, answered}
use Rattle.model.specs.Model.{Comp, Model, no_comp, comp_at}
use Rattle.model.specs.WellFormed.{WellComp, WellFormed}
use Rattle.iosa.specs.Automaton.{Automaton, alphabet, auto_of, UrgentRow, Conditions, Conforming, Joinable}
use Rattle.iosa.specs.Product.{◌⊗◌, product, state_of, Within, Series, over, next}
use Rattle.merged.specs.Merge.{merged, merged_at, merge_of}
use Rattle.merged.specs.MergedAs.{pair_of}
use Rattle.merged.specs.MergedExactly.{FitsIn, paired_at}
use Rattle.iosa.proofs.Settling.Each.{All, each_all}
use Rattle.iosa.proofs.Settling.Parts.{parts-row, row-parts, within-length, alphabet-joins, label-parts, parts-label}
use Rattle.iosa.specs.Parts.{GoAll, end, and}
use Rattle.iosa.proofs.Settling.ProductOfMany.{Pairwise, joinable-pairwise, wells, system-own}
use Rattle.iosa.proofs.Settling.Moves.{go-within}
use Rattle.iosa.proofs.Settling.Steps.{state-is-one-list}
use Rattle.merged.proofs.Merging.Labels.{merged-outputs, merged-urgent}
use Rattle.merged.proofs.Merging.Models.{merged-model-is-well-formed, Answered, merge-answered}
use Rattle.merged.proofs.Merging.SameSystem.{merged-alphabet, go-merged, merged-go, label-merged, merged-label}

go-length : {a : ℕ} {m : Model} {s t : List ℕ} {C R : ℕ} → GoAll a m s C R t → length t ≡ length m
go-length end = refl
go-length (and g rest) = ap suc (go-length rest)

module _ (c : Comp) (cs : List Comp) (well : WellFormed (c ∷ cs)) (conf : Conforming (c ∷ cs)) (join : Joinable (c ∷ cs)) (i : ℕ)
    (h : suc i < length (c ∷ cs)) (f : FitsIn (c ∷ cs) i)
    (e : Comp) (es : List Comp) (q : merged_at (c ∷ cs) i ≡ e ∷ es) where
  w : All WellComp (c ∷ cs)
  w = wells (c ∷ cs) well

  o : All (λ d. Conditions (auto_of d)) (c ∷ cs)
  o = each_all (λ d. Conditions (auto_of d)) (c ∷ cs) conf.each

  j : Pairwise (c ∷ cs)
  j = joinable-pairwise (c ∷ cs) join

  well-again : WellFormed (e ∷ es)
  well-again = rw q at (merged-model-is-well-formed (c ∷ cs) i well conf join h f)

  -- the state of the merged model
  abbrev again : List ℕ → List ℕ
  again s = paired_at (c ∷ cs) i s

  again-length : (s : List ℕ) → length s ≡ length (c ∷ cs) → length (again s) ≡ length (e ∷ es)
  unfolding merged_at
  again-length s k = omega (
    arith,
    joined_length 0 (pair_of (comp_at (c ∷ cs) (suc i)) (get_or s i 0) (get_or s (suc i) 0)) s i (omega (arith, k, h)),
    joined_length no_comp (merged (comp_at (c ∷ cs) i) (comp_at (c ∷ cs) (suc i))) (c ∷ cs) i h,
    ap length q,
    k,
  )

  -- ---- labels
  module _ (g : Automaton → ℕ) (joins : (A B : Automaton) → g (A ⊗ B) ≡ g A ∪ g B)
      (here : g (auto_of (merged (comp_at (c ∷ cs) i) (comp_at (c ∷ cs) (suc i)))) ≡ g (auto_of (comp_at (c ∷ cs) i)) ∪ g
      (auto_of (comp_at (c ∷ cs) (suc i)))) (a : ℕ) where
    label-again : a ∈ g (product c cs) → a ∈ g (product e es)
    label-again k = parts-label g joins es (auto_of e) a (rw q at (label-merged g a i (c ∷ cs) h here (label-parts g joins cs (auto_of c) a k)))

    label-back : a ∈ g (product e es) → a ∈ g (product c cs)
    label-back k = parts-label g joins cs (auto_of c) a (merged-label g a i (c ∷ cs) h here (rw q (label-parts g joins es (auto_of e) a k)))

  i-well : WellComp (comp_at (c ∷ cs) i)
  i-well = well.each i (omega (arith, h))

  next-well : WellComp (comp_at (c ∷ cs) (suc i))
  next-well = well.each (suc i) h

  alphabet-here : alphabet (auto_of (merged (comp_at (c ∷ cs) i) (comp_at (c ∷ cs) (suc i)))) ≡ alphabet (auto_of (comp_at (c ∷ cs) i)) ∪ alphabet
      (auto_of (comp_at (c ∷ cs) (suc i)))
  alphabet-here =
      merged-alphabet (comp_at (c ∷ cs) i) (comp_at (c ∷ cs) (suc i)) i-well next-well (conf.each i (omega (arith, h))) (conf.each (suc i) h)
      (join.pair i (suc i) (omega arith) h)
      ∙ alphabet-joins (auto_of (comp_at (c ∷ cs) i)) (auto_of (comp_at (c ∷ cs) (suc i)))

  -- ---- rows
  row-again : (a C R : ℕ) (s t : List ℕ) → Within (c ∷ cs) s → Within (c ∷ cs) t → (product c cs).Row (state_of c cs s) C a R (state_of c cs t)
      → (product e es).Row (state_of e es (again s)) C a R (state_of e es (again t))
  row-again a C R s t ok ok' r =
      let k = ((system-own c cs well).rows r).action in
      let p = row-parts c cs a s (state_of c cs t) (within-length (c ∷ cs) s ok) k r in
      let z = state-is-one-list c cs t p.0 (within-length (c ∷ cs) t ok') (go-length p.1) p.2 in
      let g : GoAll a (c ∷ cs) s C R t = rw z p.1 in
      parts-row e es a (label-again alphabet alphabet-joins alphabet-here a k) (rw q at (go-merged i (c ∷ cs) w o j h g))

  row_back_lem : (a C R : ℕ) (s t : List ℕ) → Within (c ∷ cs) s → Within (c ∷ cs) t → (product e es).Row (state_of e es (again s)) C a R (state_of e es (again t))
      → (product c cs).Row (state_of c cs s) C a R (state_of c cs t)
  row_back_lem a C R s t ok ok' r =
      let k = ((system-own e es well-again).rows r).action in
      let p = row-parts e es a (again s) (state_of e es (again t)) (again-length s (within-length (c ∷ cs) s ok)) k r in
      let z = state-is-one-list e es (again t) p.0 (again-length t (within-length (c ∷ cs) t ok')) (go-length p.1) p.2 in
      let g : GoAll a (e ∷ es) (again s) C R (again t) = rw z p.1 in
      parts-row c cs a (label-back alphabet alphabet-joins alphabet-here a k) (merged-go i (c ∷ cs) w o j h s t ok ok' (rw q g))

  rows-exactly : (a C R : ℕ) (s t : List ℕ) → Within (c ∷ cs) s → Within (c ∷ cs) t
      → (product c cs).Row (state_of c cs s) C a R (state_of c cs t) ↔ (product e es).Row (state_of e es (again s)) C a R (state_of e es (again t))
  rows-exactly a C R s t ok ok' = (row-again a C R s t ok ok', row_back_lem a C R s t ok ok')

  -- ---- series
  outputs-here : (auto_of (merged (comp_at (c ∷ cs) i) (comp_at (c ∷ cs) (suc i)))).outputs ≡ (auto_of (comp_at (c ∷ cs) i)).outputs ∪ (auto_of
      (comp_at (c ∷ cs) (suc i))).outputs
  outputs-here = merged-outputs (comp_at (c ∷ cs) i) (comp_at (c ∷ cs) (suc i))

  urgent-here : (auto_of (merged (comp_at (c ∷ cs) i) (comp_at (c ∷ cs) (suc i)))).urgent ≡ (auto_of (comp_at (c ∷ cs) i)).urgent ∪ (auto_of
      (comp_at (c ∷ cs) (suc i))).urgent
  urgent-here = merged-urgent (comp_at (c ∷ cs) i) (comp_at (c ∷ cs) (suc i))

  urgent-again : {a C R : ℕ} (s t : List ℕ) → Within (c ∷ cs) s → Within (c ∷ cs) t → UrgentRow (product c cs) (state_of c cs s) C a R (state_of c cs t)
      → UrgentRow (product e es) (state_of e es (again s)) C a R (state_of e es (again t))
  urgent-again {a} {C} {R} s t ok ok' u = record {
    output = label-again (λ A. A.outputs) (λ A B. refl) outputs-here a u.output;
    urgent = label-again (λ A. A.urgent) (λ A B. refl) urgent-here a u.urgent;
    row = row-again a C R s t ok ok' u.row;
  }

  -- where a row of the product goes is a composed state in range
  record Goes (C a R : ℕ) (s : List ℕ) (y : (product c cs).State) : Type 0 where
    after : List ℕ
    within : Within (c ∷ cs) after
    state : y ≡ state_of c cs after

  row_goes : {a C R : ℕ} (s : List ℕ) (y : (product c cs).State) → Within (c ∷ cs) s → (product c cs).Row (state_of c cs s) C a R y → Goes C a R s y
  row_goes {a} s y ok r =
      let p = row-parts c cs a s y (within-length (c ∷ cs) s ok) ((system-own c cs well).rows r).action r in
      record { after = p.0; within = (go-within (c ∷ cs) a w p.1).1; state = p.2 }

  record SeriesAgain (s l : List ℕ) (R : ℕ) (y : (product c cs).State) : Type 0 where
    last : List ℕ
    within : Within (c ∷ cs) last
    state : y ≡ state_of c cs last
    series : Series (product e es) (state_of e es (again s)) l R (state_of e es (again last))

  series-on : {x y : (product c cs).State} {l : List ℕ} {R : ℕ} → Series (product c cs) x l R y → (s : List ℕ) → Within (c ∷ cs) s → x ≡ state_of c cs s
      → SeriesAgain s l R y
  series-on over s ok z = record { last = s; within = ok; state = z; series = over }
  series-on (next {y = y} {C = C} {a = a} {R = R} u rest) s ok z =
      let v : UrgentRow (product c cs) (state_of c cs s) C a R y = rw (← z) u in
      let g = row_goes s y ok v.row in
      let n = series-on rest g.after g.within g.state in
      let v' : UrgentRow (product c cs) (state_of c cs s) C a R (state_of c cs g.after) = rw (← g.state) v in
      record { last = n.last; within = n.within; state = n.state; series = next (urgent-again s g.after ok g.within v') n.series }

  series-again : (s t l : List ℕ) (R : ℕ) → Within (c ∷ cs) s → Within (c ∷ cs) t → Series (product c cs) (state_of c cs s) l R (state_of c cs t)
      → Series (product e es) (state_of e es (again s)) l R (state_of e es (again t))
  series-again s t l R ok ok' r =
      let n = series-on r s ok refl in
      let z = state-is-one-list c cs t n.last (within-length (c ∷ cs) t ok') (within-length (c ∷ cs) n.last n.within) n.state in
      rw z n.series

-- ---- of the call: the model e, es is what merging c, cs at i answers
module _ (c : Comp) (cs : List Comp) (i : ℕ) (room : Option Told) (e : Comp) (es : List Comp) (well : WellFormed (c ∷ cs))
    (z : merge_of (c ∷ cs) i room ≡ answered (e ∷ es)) where
  answer : Answered (c ∷ cs) i (e ∷ es)
  answer = merge-answered (c ∷ cs) i room (e ∷ es) well z

  -- a row of the product before is one after, between the states with the pair where the two were, and back
  pub merging-keeps-the-rows : (a C R : ℕ) (s t : List ℕ) → Within (c ∷ cs) s → Within (c ∷ cs) t
      → (product c cs).Row (state_of c cs s) C a R (state_of c cs t)
      ↔ (product e es).Row (state_of e es (paired_at (c ∷ cs) i s)) C a R (state_of e es (paired_at (c ∷ cs) i t))
  merging-keeps-the-rows = rows-exactly c cs well answer.conforming answer.joinable i answer.neighbour answer.fits e es answer.model

  -- "a series of urgent steps" before is one after, with the same actions and resets
  pub merging-keeps-the-series : (s t l : List ℕ) (R : ℕ) → Within (c ∷ cs) s → Within (c ∷ cs) t → Series (product c cs) (state_of c cs s) l R (state_of c cs t)
      → Series (product e es) (state_of e es (paired_at (c ∷ cs) i s)) l R (state_of e es (paired_at (c ∷ cs) i t))
  merging-keeps-the-series = series-again c cs well answer.conforming answer.joinable i answer.neighbour answer.fits e es answer.model
