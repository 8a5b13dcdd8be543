-- What a component, and each component of a system, does by an action without a clock: the move that computes is the row of the relation, or rest.
use mathlib.Core.Path.{◌≡◌, refl, sym, ap₂}
use mathlib.Core.Bool.{Bool, true, false}
use mathlib.Core.Option.{Option, none, some, some_inj}
use mathlib.Core.List.{List, [], ◌∷◌}
use Prim.Native.Nat.{ℕ, ◌<◌}
use Rattle.laws.specs.Sets.{has, ◌∪◌, ◌∈◌}
use Rattle.laws.proofs.SearchLaws.{no-some}
use Rattle.model.specs.Model.{Row, Comp, Model, acts}
use Rattle.model.specs.WellFormed.{WellComp}
use Rattle.iosa.specs.Automaton.{auto_of}
use Rattle.iosa.specs.Product.{Within}
use Rattle.iosa.specs.Checks.{row_for, unclocked}
use Rattle.iosa.specs.Step.{gone_by, move, together, move_all}
use Rattle.iosa.specs.Stepped.{Gone}
use Rattle.iosa.proofs.Acceptance.Rows.{Single, row-leads, leads-row}
use Rattle.iosa.proofs.Settling.Each.{All}
use Rattle.iosa.specs.Parts.{Go, goes, sits-out, GoAll, end, and}
use Rattle.iosa.proofs.Settling.OwnNames.{component-own, go-own}

-- ---- one component
module _ (c : Comp) (one : Single c) (s a : ℕ) (un : a ∈ acts c → a ∈ unclocked c) where
  pub move-goes : s < c.states → (g : Gone ℕ) → move c s a ≡ some g → Go (auto_of c) a s 0 g.resets g.after
  unfolding move
  move-goes ok g e = go (has (acts c) a) refl e
    where
      by : (o : Option Row) → a ∈ acts c → row_for c s a ≡ o → gone_by o ≡ some g → Go (auto_of c) a s 0 g.resets g.after
      by none h f e = absurd (no-some refl e)
      by (some r) h f e = rw (← some_inj.0 e) (goes h (row-leads c one s a (un h) r f))

      go : (b : Bool) → has (acts c) a ≡ b → (elim b as (λ _. Option (Gone ℕ)) [
        | true ↦ gone_by (row_for c s a)
        | false ↦ some (record { resets = 0; after = s })
      ]) ≡ some g
          → Go (auto_of c) a s 0 g.resets g.after
      go true h e = by (row_for c s a) h refl e
      go false h e = rw (← some_inj.0 e) (sits-out h ok)

  pub goes-move : {C R t : ℕ} → Go (auto_of c) a s C R t → (C ≡ 0) × (move c s a ≡ some (record { resets = R; after = t }))
  unfolding move
  goes-move (sits-out h p) = (refl, rw (h, move))
  goes-move (goes h l) =
      let r = leads-row c one s a (un h) l in
      (one.cond_a.unguarded l (un h), rw (h, move) (rw r.1 (λ i. some (record { resets = r.2 i; after = r.3 i }))))

-- ---- each component
-- what one and the others yield
pub record Together (x : Option (Gone ℕ)) (y : Option (Gone (List ℕ))) (g : Gone (List ℕ)) : Type 0 where
  pub one : Gone ℕ
  pub others : Gone (List ℕ)
  pub left : x ≡ some one
  pub right : y ≡ some others
  pub whole : g ≡ record { resets = one.resets ∪ others.resets; after = one.after ∷ others.after }

pub together-some : (x : Option (Gone ℕ)) (y : Option (Gone (List ℕ))) (g : Gone (List ℕ)) → together x y ≡ some g → Together x y g
together-some none y g e = absurd (no-some refl e)
together-some (some p) none g e = absurd (no-some refl e)
together-some (some p) (some q) g e = record { one = p; others = q; left = refl; right = refl; whole = sym (some_inj.0 e) }

-- wherever a is known, its rows have no clock
abbrev pub Unclocked : ℕ → Model → Type 0
Unclocked a m = All (λ c. a ∈ acts c → a ∈ unclocked c) m

pub moves-go : (m : Model) (a : ℕ) → All Single m → Unclocked a m → (s : List ℕ) → Within m s → (g : Gone (List ℕ)) → move_all m s a ≡ some g
    → GoAll a m s 0 g.resets g.after
unfolding move_all
moves-go [] a si un [] w g e = rw (← some_inj.0 e) end
moves-go [] a si un (s ∷ ss) w g e = absurd w
moves-go (c ∷ cs) a si un [] w g e = absurd w
moves-go (c ∷ cs) a si un (s ∷ ss) w g e =
    let b = together-some (move c s a) (move_all cs ss a) g e in
    rw b.whole (and (move-goes c si.0 s a un.0 w.0 b.one b.left) (moves-go cs a si.1 un.1 ss w.1 b.others b.right))

moves-by : {a : ℕ} {m : Model} {s t : List ℕ} {C R : ℕ} → GoAll a m s C R t → All Single m → Unclocked a m
    → (C ≡ 0) × (move_all m s a ≡ some (record { resets = R; after = t }))
unfolding move_all
moves-by end si un = (refl, refl)
moves-by {a = a} (and {c = c} {cs = cs} {s = s} g rest) si un =
    let p = goes-move c si.0 s a un.0 g in
    let q = moves-by rest si.1 un.1 in
    (ap₂ ◌∪◌ p.0 q.0, ap₂ together p.1 q.1)

pub go-moves : (m : Model) (a : ℕ) → All Single m → Unclocked a m → {s t : List ℕ} {C R : ℕ} → GoAll a m s C R t
    → (C ≡ 0) × (move_all m s a ≡ some (record { resets = R; after = t }))
go-moves m a si un g = moves-by g si un

-- rows and rest keep a composed state in range
within-by : {a : ℕ} {m : Model} {s t : List ℕ} {C R : ℕ} → GoAll a m s C R t → All WellComp m → Within m s × Within m t
within-by end w = (tt, tt)
within-by (and {c = c} {cs = cs} g rest) w =
    let o = go-own (auto_of c) (component-own c w.0) g in
    let r = within-by rest w.1 in
    ((o.from, r.0), (o.target, r.1))

pub go-within : (m : Model) (a : ℕ) → All WellComp m → {s t : List ℕ} {C R : ℕ} → GoAll a m s C R t → Within m s × Within m t
go-within m a w g = within-by g w
