-- The urgent outputs that are enabled in a state, exactly.
use mathlib.Core.Path.{refl, sym}
use mathlib.Core.Logic.{◌↔◌}
use mathlib.Core.Bool.{cond}
use Prim.Native.Nat.{ℕ, ◌<◌}
use lib.ListN.{length}
use lib.Dec.{eqb}
use borrow.Author.Tests.{eqb-true, eq-eqb}
use Rattle.laws.specs.Sets.{◌∈◌, only}
use Rattle.laws.proofs.SetLaws.{in_and, and_in, or-in-r, in_one, one_in}
use Rattle.answer.specs.Limits.{max_actions}
use Rattle.model.specs.Model.{Comp, row_at}
use Rattle.model.specs.WellFormed.{WellComp}
use Rattle.iosa.specs.Automaton.{auto_of}
use Rattle.iosa.proofs.Acceptance.Rows.{output-below}
use Rattle.iosa.proofs.Acceptance.Enabled.{urgent-output}
use Rattle.triggering.specs.Triggering.{Enabled}
use Rattle.triggering.specs.Test.{joined, uouts_at}
use Rattle.triggering.proofs.Tables.{cond-in, in-joined}

module _ (c : Comp) (w : WellComp c) where
  abbrev leaving : ℕ → ℕ → ℕ
  leaving s k = cond (eqb (row_at c k).from s) (only (row_at c k).action) 0

  pub uouts-exactly : (s b : ℕ) → (b ∈ uouts_at c s) ↔ Enabled (auto_of c) s b
  unfolding uouts_at
  uouts-exactly s b = (there, back)
    where
      there : b ∈ uouts_at c s → Enabled (auto_of c) s b
      there h =
          let p = in_and c.uouts (joined (leaving s) (length c.rows)) b h in
          let q = (in-joined (leaving s) (length c.rows) b).0 p.1 in
          let k = q.0 in
          let r = (cond-in (eqb (row_at c k).from s) (only (row_at c k).action) b).0 q.2 in
          record {
            guard = _;
            resets = _;
            target = _;
            row = record {
              output = or-in-r c.outs c.uouts b p.0;
              urgent = or-in-r c.uins c.uouts b p.0;
              row = record {
                place = k;
                inside = q.1;
                from = eqb-true (row_at c k).from s r.0;
                guard = refl;
                action = sym (one_in (row_at c k).action b r.1);
                resets = refl;
                target = refl;
              };
            };
          }

      back : Enabled (auto_of c) s b → b ∈ uouts_at c s
      back e =
          let l = e.row.row in
          and_in c.uouts (joined (leaving s) (length c.rows)) b (urgent-output c w b e.row.output e.row.urgent)
          ((in-joined (leaving s) (length c.rows) b).1 (
            l.place,
            l.inside,
            (cond-in (eqb (row_at c l.place).from s) (only (row_at c l.place).action) b).1
                (eq-eqb (row_at c l.place).from s l.from, rw l.action (in_one b)),
          ))

  -- what is enabled is one of the model's actions
  pub enabled-below : {s b : ℕ} → Enabled (auto_of c) s b → b < max_actions
  enabled-below {s} {b} e = output-below c w b e.row.output
