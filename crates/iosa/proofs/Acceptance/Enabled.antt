-- Stable and enabling, computed exactly: the test `unstable` and the set `enabling_of` say what document 000 does.
use mathlib.Core.Path.{◌≡◌, refl, sym, ◌∙◌}
use mathlib.Core.Logic.{⊎_elim}
use mathlib.Core.Bool.{Bool, true, false, ◌&&◌, cond, true≢false}
use mathlib.Core.List.{List, [], ◌∷◌}
use Prim.Native.Nat.{ℕ, zero, suc, ◌<◌}
use native.Mathlib.Omega.{arith}
use lib.ListN.{length, get_or}
use lib.Dec.{eqb}
use borrow.Author.Tests.{eqb-true, eq-eqb}
use Rattle.laws.specs.Sets.{has, ◌∈◌, ◌⊆◌}
use Rattle.laws.proofs.SetLaws.{in-or, or-in-l, or-in-r, none_in}
use Rattle.laws.proofs.SearchLaws.{any-true, any_false}
use Rattle.laws.proofs.TestLaws.{and-true, not_so}
use Rattle.model.specs.Model.{Row, Comp, row_at, no_row, guard_set}
use Rattle.model.specs.WellFormed.{WellComp}
use Rattle.iosa.specs.Automaton.{auto_of, Stable, Enabling}
use Rattle.iosa.specs.Checks.{enabling_in, enabling_of, unstable}

-- ---- enabling
abbrev guard_from : Row → ℕ → ℕ
guard_from r s = cond (eqb r.from s) (guard_set r.guard) 0

from_in : (r : Row) (s x : ℕ) → x ∈ guard_from r s → (r.from ≡ s) × (x ∈ guard_set r.guard)
from_in r s x h = go (eqb r.from s) refl h
  where
    go : (b : Bool) → eqb r.from s ≡ b → x ∈ cond b (guard_set r.guard) 0 → (r.from ≡ s) × (x ∈ guard_set r.guard)
    go true e h = (eqb-true r.from s e, h)
    go false e h = absurd (none_in x h)

enabling-in : (rs : List Row) (s x : ℕ) → x ∈ enabling_in rs s → (k : ℕ) × (k < length rs) × ((get_or rs k no_row).from ≡ s)
    × (x ∈ guard_set (get_or rs k no_row).guard)
enabling-in [] s x h = absurd (none_in x h)
enabling-in (r ∷ rs) s x h = ⊎_elim
    (λ p. let f = from_in r s x p in (0, omega arith, f.0, f.1))
    (λ p. let i = enabling-in rs s x p in (suc i.0, omega (arith, i.1), i.2, i.3))
    (in-or (guard_from r s) (enabling_in rs s) x h)

in-enabling : (rs : List Row) (s x k : ℕ) → k < length rs → (get_or rs k no_row).from ≡ s → x ∈ guard_set (get_or rs k no_row).guard → x ∈ enabling_in rs s
in-enabling [] s x k h f g = absurd (omega arith)
in-enabling (r ∷ rs) s x zero h f g = or-in-l (guard_from r s) (enabling_in rs s) x (rw (eq-eqb r.from s f) g)
in-enabling (r ∷ rs) s x (suc k) h f g = or-in-r (guard_from r s) (enabling_in rs s) x (in-enabling rs s x k (omega arith) f g)

module _ (c : Comp) (s x : ℕ) where
  pub enabling-row : x ∈ enabling_of c s → Enabling (auto_of c) s x
  unfolding enabling_of
  enabling-row h =
      let e = enabling-in c.rows s x h in
      record {
        guard = guard_set (row_at c e.0).guard;
        action = (row_at c e.0).action;
        resets = (row_at c e.0).resets;
        target = (row_at c e.0).target;
        guards = e.3;
        row = record { place = e.0; inside = e.1; from = e.2; guard = refl; action = refl; resets = refl; target = refl };
      }

  pub row-enabling : Enabling (auto_of c) s x → x ∈ enabling_of c s
  unfolding enabling_of
  row-enabling e = in-enabling c.rows s x e.row.place e.row.inside e.row.from (rw e.row.guard e.guards)

-- an enabling clock is the component's own
pub enabling-own : (c : Comp) → WellComp c → (s : ℕ) → enabling_of c s ⊆ c.clocks
enabling-own c w s x h = let e = enabling-row c s x h in (w.rows e.row.place e.row.inside).guard x (rw e.row.guard e.guards)

-- ---- stable
module _ (c : Comp) (w : WellComp c) where
  -- `uout` is output and urgent
  pub urgent-output : (a : ℕ) → a ∈ (auto_of c).outputs → a ∈ (auto_of c).urgent → a ∈ c.uouts
  urgent-output a o u = ⊎_elim
      (λ h. absurd (⊎_elim (w.outs-uins a h) (w.outs-uouts a h) (in-or c.uins c.uouts a u)))
      (λ h. h)
      (in-or c.outs c.uouts a o)

  module _ (s : ℕ) where
    pub stable-test : Stable (auto_of c) s → unstable c s ≡ false
    unfolding unstable
    stable-test k = not_so (unstable c s) (λ e.
        let a = any-true (λ k. eqb (row_at c k).from s && has c.uouts (row_at c k).action) (length c.rows) e in
        let p = and-true (eqb (row_at c a.0).from s) (has c.uouts (row_at c a.0).action) a.2 in
        k.rests (record {
          output = or-in-r c.outs c.uouts (row_at c a.0).action p.1;
          urgent = or-in-r c.uins c.uouts (row_at c a.0).action p.1;
          row =
              record {
                place = a.0;
                inside = a.1;
                from = eqb-true (row_at c a.0).from s p.0;
                guard = refl;
                action = refl;
                resets = refl;
                target = refl;
              };
        }))

    pub test-stable : unstable c s ≡ false → Stable (auto_of c) s
    unfolding unstable
    test-stable e = record {
      rests = λ u.
          let l = u.row in
          true≢false (
          sym (simp (eq-eqb (row_at c l.place).from s l.from, l.action, urgent-output _ u.output u.urgent))
          ∙ any_false (λ k. eqb (row_at c k).from s && has c.uouts (row_at c k).action) (length c.rows) e l.place l.inside);
    }
