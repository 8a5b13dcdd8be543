-- In an accepted model an enabling clock has its row and the others theirs, so what the loops over components compute is what the definition fires.
use mathlib.Core.Path.{◌≡◌, refl, sym, ◌∙◌, ap}
use mathlib.Core.Option.{Option, none, some, some_inj}
use mathlib.Core.List.{List, [], ◌∷◌}
use Prim.Native.Nat.{ℕ}
use lib.IntN.{ℤ}
use Rattle.laws.specs.Sets.{◌∪◌, ◌∈◌}
use Rattle.laws.proofs.SearchLaws.{no-some}
use Rattle.model.specs.Model.{Model}
use Rattle.model.specs.WellFormed.{WellFormed}
use Rattle.iosa.specs.Automaton.{Conditions, auto_of, Conforming, Joinable}
use Rattle.iosa.specs.Product.{Within}
use Rattle.iosa.specs.Step.{together}
use Rattle.iosa.specs.Stepped.{Gone}
use Rattle.timing.specs.Timed.{enabling_all, clock_row_of, fire_one, fire_all, fired_by, fire}
use Rattle.iosa.proofs.Settling.Each.{each_all}
use Rattle.iosa.proofs.Settling.ProductOfMany.{joinable-pairwise, wells}
use Rattle.timing.proofs.Timing.Enabling.{enabling-enables}
use Rattle.timing.proofs.Timing.Fire.{enabling-shoots}
use Rattle.moves.specs.Moves.{or_stays, reset_by, after_by}
use Rattle.firing.specs.Fired.{action_or, fired_one, fired_all}

-- where all components go, each goes as the loop has it
together-is : (o : Option (Gone ℕ)) (p : Option (Gone (List ℕ))) (s : ℕ) (g : Gone (List ℕ)) → together o p ≡ some g
    → (h : Gone (List ℕ)) × (p ≡ some h) × (g ≡ record { resets = (or_stays s o).resets ∪ h.resets; after = (or_stays s o).after ∷ h.after })
together-is none p s g e = absurd (no-some refl e)
together-is (some k) none s g e = absurd (no-some refl e)
together-is (some k) (some h) s g e = (h, refl, sym (some_inj.0 e))

pub fires-as-all : (m : Model) (ss : List ℕ) (x a : ℕ) (g : Gone (List ℕ)) → fire_all m ss x a ≡ some g → g ≡ fired_all m ss x a
unfolding fire_all reset_by after_by fired_one
fires-as-all [] [] x a g e = sym (some_inj.0 e)
fires-as-all [] (s ∷ ss) x a g e = absurd (no-some refl e)
fires-as-all (c ∷ cs) [] x a g e = absurd (no-some refl e)
fires-as-all (c ∷ cs) (s ∷ ss) x a g e =
    let p = together-is (fire_one c s x a) (fire_all cs ss x a) s g e in
    let q = fires-as-all cs ss x a p.0 p.1 in
    let o = or_stays s (fire_one c s x a) in
    p.2 ∙ ap (λ (h : Gone (List ℕ)). record { resets = o.resets ∪ h.resets; after = o.after ∷ h.after }) q

module _ (m : Model) (well : WellFormed m) (good : Conforming m) (fit : Joinable m) (ss : List ℕ) (w : Within m ss) (x : ℕ) (h : x ∈ enabling_all m ss) where
  pub fires-so : (vs : List ℤ) → fire m ss vs x ≡ fired_by m vs x (action_or (clock_row_of m ss x)) (fired_all m ss x (action_or (clock_row_of m ss x)))
  unfolding fire
  fires-so vs =
      let p = enabling-shoots m (wells m well) (each_all (λ d. Conditions (auto_of d)) m good.each) (joinable-pairwise m fit) ss w x (enabling-enables m ss x h) in
      let a : action_or (clock_row_of m ss x) ≡ p.0.action = ap action_or p.1.row in
      let g = fires-as-all m ss x p.0.action p.1.all.gone p.1.all.fires in
      rw (p.1.row, fire) (rw p.1.all.fires (ap (fired_by m vs x p.0.action) g))
