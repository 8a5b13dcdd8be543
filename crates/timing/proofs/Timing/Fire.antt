-- "The row of that clock is taken": an enabling clock has its row, the others have theirs, and together they are a row of the product.
use mathlib.Core.Path.{◌≡◌, refl, sym, ◌∙◌, ap, ap₂}
use mathlib.Core.Logic.{inl, inr, ⊎_elim}
use mathlib.Core.Option.{Option, none, some}
use mathlib.Core.Bool.{Bool, true, false, ◌&&◌, true≢false}
use mathlib.Core.List.{List, [], ◌∷◌}
use Prim.Native.Nat.{ℕ, suc, ◌<◌}
use native.Mathlib.Omega.{arith}
use lib.ListN.{length}
use lib.Dec.{eqb}
use lib.Bits.{or_zero_r}
use borrow.Author.Tests.{eqb-true, eq-eqb}
use Rattle.laws.specs.Sets.{has, ◌∪◌, ◌∈◌, only}
use Rattle.laws.specs.Search.{when, or_else}
use Rattle.laws.proofs.SetLaws.{in-or, or-in-l, in_one}
use Rattle.laws.proofs.SearchLaws.{seek-some, seek-none, when-some, when-none}
use Rattle.laws.proofs.TestLaws.{and-true, not_so}
use Rattle.model.specs.Model.{Row, Comp, Model, row_at, guard_set, inputs, outputs, urgents, acts}
use Rattle.model.specs.WellFormed.{WellComp}
use Rattle.iosa.specs.Automaton.{Leads, auto_of, Enabling, Conditions}
use Rattle.iosa.specs.Product.{Within}
use Rattle.iosa.specs.Step.{gone_by, together}
use Rattle.iosa.specs.Stepped.{Gone}
use Rattle.timing.specs.Timed.{clock_row, clock_row_of, fire_one, fire_all}
use Rattle.iosa.proofs.Acceptance.Guards.{only-some, guard-in}
use Rattle.iosa.proofs.Settling.Each.{All, Any, all_map}
use Rattle.iosa.specs.Parts.{Go, goes, sits-out, GoAll, end, and}
use Rattle.iosa.proofs.Settling.OwnNames.{component-own}
use Rattle.iosa.proofs.Settling.ProductOfMany.{Fits, Pairwise}
use Rattle.iosa.proofs.Settling.Moves.{goes-move}
use Rattle.timing.proofs.Timing.Enabling.{EnablesIn, enabling-clock}

-- ---- the row of a clock in one component
abbrev waits_at : Comp → ℕ → ℕ → ℕ → Bool
waits_at c s x k = eqb (row_at c k).from s && eqb (row_at c k).guard (suc x)

pub clock-row-leads : (c : Comp) (s x : ℕ) (r : Row) → clock_row c s x ≡ some r → Leads c s (only x) r.action r.resets r.target
unfolding clock_row
clock-row-leads c s x r e =
    let f = seek-some (λ k. when (waits_at c s x k) (row_at c k)) 0 (length c.rows) r e in
    let w = when-some (waits_at c s x f.place) (row_at c f.place) f.here in
    let p = and-true (eqb (row_at c f.place).from s) (eqb (row_at c f.place).guard (suc x)) w.0 in
    record {
      place = f.place;
      inside = f.below;
      from = eqb-true (row_at c f.place).from s p.0;
      guard = ap guard_set (eqb-true (row_at c f.place).guard (suc x) p.1);
      action = ap (λ q. q.action) w.1;
      resets = ap (λ q. q.resets) w.1;
      target = ap (λ q. q.target) w.1;
    }

-- an enabling clock has its row
pub enabling-has-row : (c : Comp) (s x : ℕ) → Enabling (auto_of c) s x → (r : Row) × (clock_row c s x ≡ some r)
unfolding clock_row
enabling-has-row c s x e = go (clock_row c s x) refl
  where
    found : waits_at c s x e.row.place ≡ true
    found =
        ap₂ ◌&&◌ (eq-eqb (row_at c e.row.place).from s e.row.from)
        (eq-eqb (row_at c e.row.place).guard (suc x) (guard-in (row_at c e.row.place).guard x (rw e.row.guard e.guards)))

    go : (o : Option Row) → clock_row c s x ≡ o → (r : Row) × (clock_row c s x ≡ some r)
    go (some r) h = (r, h)
    go none h =
        let n = seek-none (λ k. when (waits_at c s x k) (row_at c k)) 0 (length c.rows) h e.row.place (omega arith) e.row.inside in
        absurd (true≢false (sym found ∙ when-none (waits_at c s x e.row.place) (row_at c e.row.place) n))

-- only a component's own clock has one
no-clock-no-row : (c : Comp) → WellComp c → (s x : ℕ) → (x ∈ c.clocks → ⊥) → clock_row c s x ≡ none
no-clock-no-row c w s x n = go (clock_row c s x) refl
  where
    go : (o : Option Row) → clock_row c s x ≡ o → o ≡ none
    go none e = refl
    go (some r) e = absurd (n (((component-own c w).rows (clock-row-leads c s x r e)).guard x (in_one x)))

-- (a): a row with a clock is one of an output
pub clocked-is-output : (c : Comp) → WellComp c → Conditions (auto_of c) → (x : ℕ) {s a R t : ℕ} → Leads c s (only x) a R t → a ∈ outputs c
clocked-is-output c w o x {s} {a} l =
    ⊎_elim
    (λ i. absurd (only-some x (o.cond_a.unguarded l (or-in-l (inputs c) (urgents c) a i))))
    (λ p. p)
    (in-or (inputs c) (outputs c) a ((component-own c w).rows l).action)

-- ---- a component that has neither the clock nor the output: it hears the action or rests
record Follows (c : Comp) (s x a : ℕ) : Type 0 where
  gone : Gone ℕ
  fires : fire_one c s x a ≡ some gone
  steps : Go (auto_of c) a s 0 gone.resets gone.after

module _ (c : Comp) (o : Conditions (auto_of c)) (s x a : ℕ) (ok : s < c.states) where
  heard : (a ∈ outputs c → ⊥) → a ∈ acts c → a ∈ inputs c
  heard n h = ⊎_elim (λ i. i) (λ p. absurd (n p)) (in-or (inputs c) (outputs c) a h)

  hears : (a ∈ outputs c → ⊥) → (R : ℕ) × (t : ℕ) × Go (auto_of c) a s 0 R t
  hears n = go (has (acts c) a) refl
    where
      go : (b : Bool) → has (acts c) a ≡ b → (R : ℕ) × (t : ℕ) × Go (auto_of c) a s 0 R t
      go true h =
          let r = o.cond_d.row s ok a (heard n h) in
          (r.0, r.1, goes h r.2)
      go false h = (0, s, sits-out h ok)

  follows : (a ∈ outputs c → ⊥) → (x ∈ c.clocks → ⊥) → Follows c s x a
  unfolding fire_one
  follows n k =
      let r = hears n in
      let m = goes-move c (record { cond_a = o.cond_a; cond_e = o.cond_e }) s a (λ h. or-in-l (inputs c) (urgents c) a (heard n h)) r.2 in
      record {
        gone = record { resets = r.0; after = r.1 };
        fires = rw (not_so (has c.clocks x) k, fire_one) m.1;
        steps = r.2;
      }

-- ---- all components
-- what the system does: the guard sets joined are C
pub record FiresAll (m : Model) (s : List ℕ) (x a C : ℕ) : Type 0 where
  pub gone : Gone (List ℕ)
  pub fires : fire_all m s x a ≡ some gone
  pub steps : GoAll a m s C gone.resets gone.after

-- none has the clock or the output
abbrev Others : Model → ℕ → ℕ → Type 0
Others m x a = All (λ c. (a ∈ outputs c → ⊥) × (x ∈ c.clocks → ⊥)) m

others-follow : (m : Model) (s : List ℕ) (x a : ℕ) → All (λ c. Conditions (auto_of c)) m → Others m x a → Within m s → FiresAll m s x a 0
unfolding fire_all
others-follow [] [] x a o n w = record { gone = record { resets = 0; after = [] }; fires = refl; steps = end }
others-follow [] (s ∷ ss) x a o n w = absurd w
others-follow (c ∷ cs) [] x a o n w = absurd w
others-follow (c ∷ cs) (s ∷ ss) x a o n w =
    let f = follows c o.0 s x a w.0 n.0.0 n.0.1 in
    let g = others-follow cs ss x a o.1 n.1 w.1 in
    record {
      gone = record { resets = f.gone.resets ∪ g.gone.resets; after = f.gone.after ∷ g.gone.after };
      fires = ap₂ together f.fires g.fires;
      steps = and f.steps g.steps;
    }

-- what one component has, those that are compatible with it have not
fits-others : (c : Comp) (cs : List Comp) (x a : ℕ) → Fits (auto_of c) cs → a ∈ outputs c → x ∈ c.clocks → Others cs x a
fits-others c cs x a f p k = all_map cs (λ d j. (λ q. j.outputs a p q, λ l. j.clocks x k l)) f

not-both : (c : Comp) (cs : List Comp) (x a : ℕ) → Fits (auto_of c) cs → Any (λ d. (a ∈ outputs d) × (x ∈ d.clocks)) cs
    → (a ∈ outputs c → ⊥) × (x ∈ c.clocks → ⊥)
not-both c (d ∷ ds) x a f (inl h) = (λ p. f.0.outputs a p h.0, λ k. f.0.clocks x k h.1)
not-both c (d ∷ ds) x a f (inr h) = not-both c ds x a f.1 h
not-both c [] x a f x4 = elim x4 [ ]

-- ---- the clock's row, and what the system does by it
pub record Shoots (m : Model) (s : List ℕ) (x : ℕ) (r : Row) : Type 0 where
  pub row : clock_row_of m s x ≡ some r
  pub owner : Any (λ c. (r.action ∈ outputs c) × (x ∈ c.clocks)) m
  pub all : FiresAll m s x r.action (only x)

pub enabling-shoots : (m : Model) → All WellComp m → All (λ c. Conditions (auto_of c)) m → Pairwise m → (s : List ℕ) → Within m s → (x : ℕ) → EnablesIn m s x
    → (r : Row) × Shoots m s x r
unfolding clock_row_of fire_all fire_one
enabling-shoots [] w o j s ok x h = absurd h
enabling-shoots (c ∷ cs) w o j [] ok x h = absurd h
enabling-shoots (c ∷ cs) w o j (s ∷ ss) ok x (inl h) =
    let r = enabling-has-row c s x h in
    let l = clock-row-leads c s x r.0 r.1 in
    let p = clocked-is-output c w.0 o.0 x l in
    let k = enabling-clock c w.0 s x h in
    let g = others-follow cs ss x r.0.action o.1 (fits-others c cs x r.0.action j.0 p k) ok.1 in
    let e : fire_one c s x r.0.action ≡ some (record { resets = r.0.resets; after = r.0.target }) = rw (k, fire_one) (ap gone_by r.1) in (
      r.0,
      record {
        row = ap (λ z. or_else z (clock_row_of cs ss x)) r.1;
        owner = inl (p, k);
        all = record {
          gone = record { resets = r.0.resets ∪ g.gone.resets; after = r.0.target ∷ g.gone.after };
          fires = ap₂ together e g.fires;
          steps = rw (← or_zero_r (only x)) (and (goes ((component-own c w.0).rows l).action l) g.steps);
        };
      },
    )
enabling-shoots (c ∷ cs) w o j (s ∷ ss) ok x (inr h) =
    let q = enabling-shoots cs w.1 o.1 j.1 ss ok.1 x h in
    let n = not-both c cs x q.0.action j.0 q.1.owner in
    let f = follows c o.0 s x q.0.action ok.0 n.0 n.1 in
    let g = q.1.all in (
      q.0,
      record {
        row = ap (λ z. or_else z (clock_row_of cs ss x)) (no-clock-no-row c w.0 s x n.1) ∙ q.1.row;
        owner = inr q.1.owner;
        all = record {
          gone = record { resets = f.gone.resets ∪ g.gone.resets; after = f.gone.after ∷ g.gone.after };
          fires = ap₂ together f.fires g.fires;
          steps = and f.steps g.steps;
        };
      },
    )
