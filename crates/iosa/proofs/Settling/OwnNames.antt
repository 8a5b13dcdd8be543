-- The rows of a component, and of a product, stay among its own states, actions and clocks.
use mathlib.Core.Logic.{⊎_elim}
use mathlib.Core.List.{List, [], ◌∷◌}
use Prim.Native.Nat.{ℕ}
use Rattle.laws.specs.Sets.{◌∪◌, ◌⊆◌}
use Rattle.laws.proofs.SetLaws.{or-in-l, or-in-r, in-or, none_in}
use Rattle.model.specs.Model.{Comp}
use Rattle.model.specs.WellFormed.{WellComp}
use Rattle.iosa.specs.Automaton.{Automaton, auto_of}
use Rattle.iosa.specs.Product.{◌⊗◌, product_from}
use Rattle.iosa.specs.Parts.{Go, goes, sits-out}
use Rattle.iosa.specs.Thesis.{OwnNames}
use Rattle.iosa.proofs.Acceptance.Rows.{from-below, target_below}
use Rattle.iosa.proofs.Settling.Each.{All}
use Rattle.iosa.proofs.Settling.Parts.{Parts, joint-parts, joint-known}

-- the same of a row or rest: its action need not be one of A's
pub record Inside (A : Automaton) (s : A.State) (C R : ℕ) (t : A.State) : Type 0 where
  pub from : A.States s
  pub guard : C ⊆ A.clocks
  pub resets : R ⊆ A.clocks
  pub target : A.States t

pub component-own : (c : Comp) → WellComp c → OwnNames (auto_of c)
component-own c w = record {
  rows = λ l.
      let r = w.rows l.place l.inside in
      record {
        from = from-below c w l;
        guard = rw l.guard at r.guard;
        action = rw l.action at r.action;
        resets = rw l.resets at r.resets;
        target = target_below c w l;
      };
  initialized = w.started;
  initial = w.start;
}

pub go-own : (A : Automaton) → OwnNames A → {a C R : ℕ} {s t : A.State} → Go A a s C R t → Inside A s C R t
go-own A cl (goes h r) = let x = cl.rows r in record { from = x.from; guard = x.guard; resets = x.resets; target = x.target }
go-own A cl (sits-out h p) = record { from = p; guard = λ x h. absurd (none_in x h); resets = λ x h. absurd (none_in x h); target = p }

pub or-within : (C D X Y : ℕ) → C ⊆ X → D ⊆ Y → C ∪ D ⊆ X ∪ Y
or-within C D X Y f g x h = ⊎_elim (λ k. or-in-l X Y x (f x k)) (λ k. or-in-r X Y x (g x k)) (in-or C D x h)

module _ (A B : Automaton) (ca : OwnNames A) (cb : OwnNames B) where
  joined : {a : ℕ} {x y : A.State × B.State} {C R : ℕ} → Parts A B a x C R y → Inside (A ⊗ B) x C R y
  joined p =
      let l = go-own A ca p.left in
      let r = go-own B cb p.right in
      record {
        from = (l.from, r.from);
        guard = rw p.guards (or-within _ _ A.clocks B.clocks l.guard r.guard);
        resets = rw p.sets (or-within _ _ A.clocks B.clocks l.resets r.resets);
        target = (l.target, r.target);
      }

  pub product-own : OwnNames (A ⊗ B)
  product-own = record {
    rows = λ {C} {a} {R} {s} {t} r.
        let x = joined (joint-parts A B a r) in
        record { from = x.from; guard = x.guard; action = joint-known A B a r; resets = x.resets; target = x.target };
    initialized = or-within A.started B.started A.clocks B.clocks ca.initialized cb.initialized;
    initial = (ca.initial, cb.initial);
  }

pub products-own : (cs : List Comp) (A : Automaton) → OwnNames A → All WellComp cs → OwnNames (product_from A cs)
products-own [] A ca w = ca
products-own (c ∷ cs) A ca w = products-own cs (A ⊗ auto_of c) (product-own A (auto_of c) ca (component-own c w.0)) w.1
