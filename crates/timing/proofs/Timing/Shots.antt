-- The enabling clocks that are computed are the product's, and the one that fires takes a row of the product.
use mathlib.Core.Path.{◌≡◌, ◌∙◌}
use mathlib.Core.List.{List, ◌∷◌}
use Prim.Native.Nat.{ℕ}
use lib.IntN.{ℤ, pos}
use Rattle.laws.specs.Sets.{◌∈◌, only}
use Rattle.laws.proofs.SetLaws.{or-in-r, in_one}
use Rattle.answer.specs.Told.{fired}
use Rattle.model.specs.Model.{Row, Comp, declared, inputs, outputs}
use Rattle.model.specs.WellFormed.{WellComp, WellFormed}
use Rattle.iosa.specs.Automaton.{auto_of, Conditions, Conforming, Joinable}
use Rattle.iosa.specs.Product.{product, state_of, Within}
use Rattle.timing.specs.Timed.{enabling_all, aged_from, fired_by, fire}
use Rattle.iosa.specs.TimedExactly.{Waits, value_of}
use Rattle.iosa.proofs.Settling.Each.{All, each_all, any-map}
use Rattle.iosa.proofs.Settling.Parts.{parts-row, parts-action}
use Rattle.iosa.proofs.Settling.ProductOfMany.{joinable-pairwise, wells, system-own}
use Rattle.iosa.proofs.Settling.Moves.{go-within}
use Rattle.timing.proofs.Timing.Enabling.{EnablesIn, enabling-enables, enables-enabling, enables-clock, clock-declared, declared-below, product-enables}
use Rattle.timing.proofs.Timing.Least.{Clocks}
use Rattle.timing.proofs.Timing.Fire.{Shoots, enabling-shoots}

module _ (c : Comp) (cs : List Comp) (well : WellFormed (c ∷ cs)) (conf : Conforming (c ∷ cs)) (join : Joinable (c ∷ cs)) where
  pub each-well : All WellComp (c ∷ cs)
  each-well = wells (c ∷ cs) well

  each-conforms : All (λ d. Conditions (auto_of d)) (c ∷ cs)
  each-conforms = each_all (λ d. Conditions (auto_of d)) (c ∷ cs) conf.each

  module _ (s : List ℕ) (ok : Within (c ∷ cs) s) where
    -- what clock x does, as a row of the product
    record Shot (x : ℕ) (r : Row) : Type 0 where
      shoots : Shoots (c ∷ cs) s x r
      row : (product c cs).Row (state_of c cs s) (only x) r.action shoots.all.gone.resets (state_of c cs shoots.all.gone.after)
      within : Within (c ∷ cs) shoots.all.gone.after

    shot : (x : ℕ) → EnablesIn (c ∷ cs) s x → (r : Row) × Shot x r
    shot x h =
        let p = enabling-shoots (c ∷ cs) each-well each-conforms (joinable-pairwise (c ∷ cs) join) s ok x h in
        let a = p.0.action in
        let known = parts-action c cs a (any-map (c ∷ cs) (λ d q. or-in-r (inputs d) (outputs d) a q.0) p.1.owner) in
        (p.0, record { shoots = p.1; row = parts-row c cs a known p.1.all.steps; within = (go-within (c ∷ cs) a each-well p.1.all.steps).1 })

    waits-to : (x : ℕ) → x ∈ enabling_all (c ∷ cs) s → Waits c cs s x
    waits-to x h =
        let p = shot x (enabling-enables (c ∷ cs) s x h) in
        let g = p.1.shoots.all.gone in
        record { guard = only x; action = p.0.action; resets = g.resets; target = state_of c cs g.after; guards = in_one x; row = p.1.row }

    waits_in : (x : ℕ) → Waits c cs s x → EnablesIn (c ∷ cs) s x
    waits_in x h = product-enables c cs (system-own c cs well) s ok x h

    waits-from : (x : ℕ) → Waits c cs s x → x ∈ enabling_all (c ∷ cs) s
    waits-from x h = enables-enabling (c ∷ cs) s x (waits_in x h)

    pub waits-declared : (x : ℕ) → Waits c cs s x → x ∈ declared (c ∷ cs)
    waits-declared x h = clock-declared (c ∷ cs) x (enables-clock (c ∷ cs) each-well s x (waits_in x h))

    pub waiting : Clocks (Waits c cs s) (enabling_all (c ∷ cs) s)
    waiting = record { to = waits-to; from = waits-from; below = λ x h. declared-below (c ∷ cs) each-well x (waits-declared x h) }

    -- "The answer gives v, action, resets, state": the case of `fire` that arises
    pub record FiredBy (vs : List ℤ) (x v : ℕ) : Type 0 where
      pub a : ℕ
      pub R : ℕ
      pub s' : List ℕ
      pub answer : fire (c ∷ cs) s vs x ≡ record { shot = fired v a R; state = s'; values = aged_from (declared (c ∷ cs)) (pos v) 0 vs }
      pub row : (product c cs).Row (state_of c cs s) (only x) a R (state_of c cs s')
      pub within : Within (c ∷ cs) s'

    fires-by : (vs : List ℤ) (x : ℕ) (r : Row) (k : Shoots (c ∷ cs) s x r) → fire (c ∷ cs) s vs x ≡ fired_by (c ∷ cs) vs x r.action k.all.gone
    unfolding fire
    fires-by vs x r k = rw (k.row, fire) (rw k.all.fires)

    pub fire-is-a-row : (vs : List ℤ) (x v : ℕ) → Waits c cs s x → value_of vs x ≡ pos v → FiredBy vs x v
    fire-is-a-row vs x v h e =
        let p = shot x (waits_in x h) in
        let g = p.1.shoots.all.gone in
        record {
          a = p.0.action;
          R = g.resets;
          s' = g.after;
          answer = fires-by vs x p.0 p.1.shoots ∙ rw e;
          row = p.1.row;
          within = p.1.within;
        }
