-- The new test called, exactly: fine if and only if the system is accepted, closed and passes; else the first fault, 45 or check 18's 18.
use mathlib.Core.Path.{◌≡◌, refl, sym}
use mathlib.Core.Logic.{◌↔◌, inl, inr}
use mathlib.Core.Option.{Option, none, some}
use mathlib.Core.List.{List, ◌∷◌}
use Prim.Native.Nat.{ℕ}
use Rattle.laws.proofs.SearchLaws.{or_else_none}
use Rattle.answer.specs.Told.{Told}
use Rattle.model.specs.Model.{Comp, Model}
use Rattle.model.specs.WellFormed.{WellFormed}
use Rattle.iosa.specs.Automaton.{Conforming, Joinable, Reachable}
use Rattle.iosa.specs.Product.{product, state_of, Within}
use Rattle.iosa.specs.Checks.{clash_among, accept_of, confluent_of}
use Rattle.iosa.specs.Demand3.{Demand3}
use Rattle.iosa.proofs.Acceptance.Accepted.{accepted-exactly}
use Rattle.answering.proofs.Answers.Models.{confluent-decided}
use Rattle.iosa.proofs.Settling.Demand3.{demand-3-from-reached-parts}
use Rattle.iosa.proofs.Settling.Parts.{within-length}
use Rattle.iosa.proofs.Settling.Steps.{state-is-one-list}
use Rattle.iosa.proofs.Settling.ProductOfMany.{wells}
use Rattle.iosa.proofs.Reaching.Keeps.{reached-within, reached-state-has-reached-parts}
use Rattle.triggering.specs.Triggering.{Passes}
use Rattle.triggering.specs.Test.{open_fault, unless_passes, orderly_of, entry_of}
use Rattle.triggering.proofs.WhereReached.{demand-3-where-reached}
use Rattle.walkable.specs.Orderly.{Orderly, EitherTest, Settles}
use Rattle.walkable.proofs.Opening.{closed-exactly}
use Rattle.walkable.proofs.Entry.{passing-decided, settles-decided}

module _ (m : Model) (w : WellFormed m) where
  -- ---- the new test called
  pub orderly-exactly : (orderly_of m ≡ none) ↔ Orderly m
  unfolding orderly_of
  orderly-exactly = (
    λ e.
        let p = or_else_none (accept_of m) _ e in
        let q = or_else_none (open_fault m) _ p.1 in
        let k = (accepted-exactly m w).0 p.0 in
        record { conforms = k.0; joins = k.1; closed = (closed-exactly m w).0 q.0; passes = (passing-decided m w k).fine.0 q.1 },
    λ o.
        let k : Conforming m × Joinable m = (o.conforms, o.joins) in
        simp ((accepted-exactly m w).1 k, (closed-exactly m w).1 o.closed, (passing-decided m w k).fine.1 o.passes),
  )

  -- where neither test passes, the refusal is that of check 18
  pub refused-as-18 : accept_of m ≡ none → open_fault m ≡ none → (Passes m → ⊥) → orderly_of m ≡ confluent_of m
  unfolding orderly_of confluent_of
  refused-as-18 ok op f = rw (ok, op) (go (clash_among 0 m) refl)
    where
      go : (o : Option Told) → clash_among 0 m ≡ o → unless_passes m o ≡ o
      go none e = refl
      go (some t) e =
          let k = (accepted-exactly m w).0 ok in
          rw e at (((passing-decided m w k).told t).1 (f, ((confluent-decided m w k).told t).0 e))

  -- ---- settling after a path, and simulation: check 18, or else 45 and 18
  pub entry-exactly : (entry_of m ≡ none) ↔ Settles m
  unfolding entry_of
  entry-exactly = (
    λ e.
        let p = or_else_none (accept_of m) _ e in
        let k = (accepted-exactly m w).0 p.0 in
        record { conforms = k.0; joins = k.1; either = (settles-decided m w k).fine.0 p.1 },
    λ s. let k : Conforming m × Joinable m = (s.conforms, s.joins) in simp ((accepted-exactly m w).1 k, (settles-decided m w k).fine.1 s.either),
  )

-- ---- demand 3 wherever such a system gets
pub demand-3-after-a-path : (c : Comp) (cs : List Comp) → WellFormed (c ∷ cs) → Settles (c ∷ cs) → (s : List ℕ) → Within (c ∷ cs) s
    → Reachable (product c cs) (state_of c cs s) → Demand3 c cs s
demand-3-after-a-path c cs w e s h r = go e.either
  where
    go : EitherTest (c ∷ cs) → Demand3 c cs s
    go (inl al) =
        let n = reached-state-has-reached-parts c cs w e.conforms e.joins r in
        let v = reached-within (c ∷ cs) n.list (wells (c ∷ cs) w) n.parts in
        let q = state-is-one-list c cs n.list s (within-length (c ∷ cs) n.list v) (within-length (c ∷ cs) s h) (sym n.state) in
        demand-3-from-reached-parts c cs w e.conforms e.joins al s (rw q at n.parts)
    go (inr p) = demand-3-where-reached c cs w e.conforms e.joins p.0 p.1 s h r
