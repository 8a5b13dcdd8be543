-- Where the product begins: each component's start, and the clocks that any of them sets there; and what a component or a part more adds.
use mathlib.Core.Path.{◌≡◌, refl, sym, ◌∙◌, ap}
use mathlib.Core.Logic.{◌↔◌}
use mathlib.Core.List.{List, [], ◌∷◌}
use Prim.Native.Nat.{ℕ, zero, suc}
use lib.ListN.{length, get_or}
use lib.Bits.{or_zero_r}
use Rattle.laws.specs.Sets.{◌∪◌}
use Rattle.laws.proofs.SetLaws.{or_assoc}
use Rattle.model.specs.Model.{Comp, Model, comp_at}
use Rattle.model.specs.WellFormed.{WellComp, WellFormed}
use Rattle.iosa.specs.Automaton.{Automaton, auto_of}
use Rattle.iosa.specs.Product.{◌⊗◌, product_from, product, embed, state_of, Within}
use Rattle.iosa.specs.Start.{start_all, started_all, Beginning, start_of, StartOf}
use Rattle.iosa.proofs.Settling.Each.{All}
use Rattle.iosa.proofs.Settling.Parts.{within-length}
use Rattle.iosa.proofs.Settling.ProductOfMany.{wells}
use Rattle.iosa.proofs.Settling.Steps.{state-is-one-list}

-- ---- by index
pub start-length : (m : Model) → length (start_all m) ≡ length m
unfolding start_all
start-length [] = refl
start-length (c ∷ cs) = ap suc (start-length cs)

-- past the last component both are 0
pub start-at : (m : Model) (i : ℕ) → get_or (start_all m) i 0 ≡ (comp_at m i).start
unfolding start_all
start-at [] i = refl
start-at (c ∷ cs) zero = refl
start-at (c ∷ cs) (suc i) = start-at cs i

-- ---- an automaton, and further components
start-from : (cs : List Comp) (A : Automaton) → embed A cs A.start (start_all cs) ≡ (product_from A cs).start
unfolding start_all
start-from [] A = refl
start-from (c ∷ cs) A = start-from cs (A ⊗ auto_of c)

started-from : (cs : List Comp) (A : Automaton) → A.started ∪ started_all cs ≡ (product_from A cs).started
unfolding started_all
started-from [] A = or_zero_r A.started
started-from (c ∷ cs) A = sym (or_assoc A.started c.started (started_all cs)) ∙ started-from cs (A ⊗ auto_of c)

-- ---- in range
starts-within : (m : Model) → All WellComp m → Within m (start_all m)
unfolding start_all
starts-within [] h = tt
starts-within (c ∷ cs) h = (h.0.start, starts-within cs h.1)

pub start-in-range : (m : Model) → WellFormed m → Within m (start_all m)
start-in-range m w = starts-within m (wells m w)

module _ (c : Comp) (cs : List Comp) where
  pub start-of-the-product : (state_of c cs (start_all (c ∷ cs)) ≡ (product c cs).start) × (started_all (c ∷ cs) ≡ (product c cs).started)
  unfolding start_all started_all
  start-of-the-product = (start-from cs (auto_of c), started-from cs (auto_of c))

  -- and nothing else is
  pub start-exactly : WellFormed (c ∷ cs) → (b : Beginning) → StartOf c cs b ↔ (b ≡ start_of (c ∷ cs))
  start-exactly w b = (
    λ h.
        let v = start-in-range (c ∷ cs) w in
        let s : b.state ≡ start_all (c ∷ cs) =
        state-is-one-list c cs b.state (start_all (c ∷ cs)) (within-length (c ∷ cs) b.state h.within) (within-length (c ∷ cs) (start_all (c ∷ cs)) v)
        (h.state ∙ sym start-of-the-product.0) in
        let k = h.started ∙ sym start-of-the-product.1 in
        λ i. record { state = s i; started = k i },
    λ e. rw e (record { state = start-of-the-product.0; within = start-in-range (c ∷ cs) w; started = start-of-the-product.1 }),
  )
