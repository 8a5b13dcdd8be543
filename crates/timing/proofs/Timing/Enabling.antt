-- The enabling clocks of a composed state: computed, of some component, and of the product.
use mathlib.Core.Logic.{◌⊎◌, inl, inr, ⊎_map}
use mathlib.Core.List.{List, [], ◌∷◌}
use Prim.Native.Nat.{ℕ, ◌^◌, ◌<◌}
use lib.Bits.{or_lt}
use lib.Pow.{pow_pos}
use Rattle.laws.specs.Sets.{◌∈◌}
use Rattle.laws.proofs.SetLaws.{in-or, or-in-l, or-in-r, none_in, in-below}
use Rattle.answer.specs.Limits.{max_clocks}
use Rattle.model.specs.Model.{Comp, Model, declared}
use Rattle.model.specs.WellFormed.{WellComp}
use Rattle.iosa.specs.Automaton.{auto_of, Enabling}
use Rattle.iosa.specs.Product.{product, state_of, Within}
use Rattle.iosa.specs.Checks.{enabling_of}
use Rattle.timing.specs.Timed.{enabling_all}
use Rattle.iosa.proofs.Acceptance.Enabled.{enabling-row, row-enabling, enabling-own}
use Rattle.iosa.proofs.Settling.Each.{All, Any}
use Rattle.iosa.proofs.Settling.Parts.{row-parts, within-length}
use Rattle.iosa.specs.Parts.{Go, goes, sits-out, GoAll, end, and}
use Rattle.iosa.specs.Thesis.{OwnNames}

-- clock x guards a row of some component, in that component's state
abbrev pub EnablesIn : Model → List ℕ → ℕ → Type 0
EnablesIn [] ss x = ⊥
EnablesIn (c ∷ cs) [] x = ⊥
EnablesIn (c ∷ cs) (s ∷ ss) x = Enabling (auto_of c) s x ⊎ EnablesIn cs ss x

pub enabling-enables : (m : Model) (s : List ℕ) (x : ℕ) → x ∈ enabling_all m s → EnablesIn m s x
unfolding enabling_all
enabling-enables [] ss x h = absurd (none_in x h)
enabling-enables (c ∷ cs) [] x h = absurd (none_in x h)
enabling-enables (c ∷ cs) (s ∷ ss) x h = ⊎_map (enabling-row c s x) (enabling-enables cs ss x) (in-or (enabling_of c s) (enabling_all cs ss) x h)

pub enables-enabling : (m : Model) (s : List ℕ) (x : ℕ) → EnablesIn m s x → x ∈ enabling_all m s
unfolding enabling_all
enables-enabling [] ss x h = absurd h
enables-enabling (c ∷ cs) [] x h = absurd h
enables-enabling (c ∷ cs) (s ∷ ss) x (inl h) = or-in-l (enabling_of c s) (enabling_all cs ss) x (row-enabling c s x h)
enables-enabling (c ∷ cs) (s ∷ ss) x (inr h) = or-in-r (enabling_of c s) (enabling_all cs ss) x (enables-enabling cs ss x h)

-- ---- an enabling clock is declared
pub enabling-clock : (c : Comp) → WellComp c → (s x : ℕ) → Enabling (auto_of c) s x → x ∈ c.clocks
enabling-clock c w s x h = enabling-own c w s x (row-enabling c s x h)

pub enables-clock : (m : Model) → All WellComp m → (s : List ℕ) (x : ℕ) → EnablesIn m s x → Any (λ c. x ∈ c.clocks) m
enables-clock [] w ss x h = absurd h
enables-clock (c ∷ cs) w [] x h = absurd h
enables-clock (c ∷ cs) w (s ∷ ss) x (inl h) = inl (enabling-clock c w.0 s x h)
enables-clock (c ∷ cs) w (s ∷ ss) x (inr h) = inr (enables-clock cs w.1 ss x h)

pub clock-declared : (m : Model) (x : ℕ) → Any (λ c. x ∈ c.clocks) m → x ∈ declared m
unfolding declared
clock-declared [] x h = absurd h
clock-declared (c ∷ cs) x (inl h) = or-in-l c.clocks (declared cs) x h
clock-declared (c ∷ cs) x (inr h) = or-in-r c.clocks (declared cs) x (clock-declared cs x h)

declared-lt : (m : Model) → All WellComp m → declared m < 2 ^ max_clocks
unfolding declared
declared-lt [] w = pow_pos max_clocks
declared-lt (c ∷ cs) w = or_lt max_clocks c.clocks (declared cs) w.0.clocks (declared-lt cs w.1)

pub declared-below : (m : Model) → All WellComp m → (x : ℕ) → x ∈ declared m → x < max_clocks
declared-below m w x h = in-below max_clocks (declared m) x (declared-lt m w) h

-- ---- a clock that guards a row of the product guards one of a component
go-enables : (x : ℕ) {a : ℕ} {m : Model} {s t : List ℕ} {C R : ℕ} → GoAll a m s C R t → x ∈ C → EnablesIn m s x
go-enables x end h = absurd (none_in x h)
go-enables x {a} (and {c = c} {C = C} {D = D} g rest) h = ⊎_map (λ k. one g k) (λ k. go-enables x rest k) (in-or C D x h)
  where
    one : {s t C R : ℕ} → Go (auto_of c) a s C R t → x ∈ C → Enabling (auto_of c) s x
    one {t} {C} {R} (goes h r) k = record { guard = C; action = a; resets = R; target = t; guards = k; row = r }
    one (sits-out h p) k = absurd (none_in x k)

module _ (c : Comp) (cs : List Comp) (cl : OwnNames (product c cs)) (s : List ℕ) (w : Within (c ∷ cs) s) where
  pub product-enables : (x : ℕ) → Enabling (product c cs) (state_of c cs s) x → EnablesIn (c ∷ cs) s x
  product-enables x e =
      let p = row-parts c cs e.action s e.target (within-length (c ∷ cs) s w) (cl.rows e.row).action e.row in
      go-enables x p.1 e.guards
