-- A test that computes, for worked examples: where it holds, the model is well-formed.
use mathlib.Core.Path.{◌≡◌}
use mathlib.Core.Bool.{Bool, true}
use mathlib.Core.List.{[], ◌∷◌}
use Prim.Native.Nat.{ℕ, suc, ◌-◌, ◌^◌}
use native.Mathlib.Omega.{arith}
use lib.ListN.{length}
use lib.Dec.{eqb, ltb, leb}
use borrow.Author.Tests.{eqb-true, ltb-true, leb-true}
use Rattle.laws.specs.Sets.{has, ◌∩◌, within, Apart}
use Rattle.laws.specs.Fold.{all}
use Rattle.laws.specs.Tests.{all_of}
use Rattle.laws.proofs.SetLaws.{within-true, and_in, none_in}
use Rattle.laws.proofs.FoldLaws.{all_true}
use Rattle.laws.proofs.TestLaws.{test_at}
use Rattle.answer.specs.Limits.{max_components, max_rows, max_states, max_actions, max_clocks, max_bytes}
use Rattle.model.specs.Model.{Row, Comp, Model, row_at, comp_at, acts, guard_set, row_count}
use Rattle.model.specs.Text.{text_of}
use Rattle.model.specs.WellFormed.{WellRow, WellComp, WellFormed, before}

unfoldable pub well_row : Comp → Row → Bool
well_row c r = all_of (
    ltb r.from c.states ∷ within (guard_set r.guard) c.clocks ∷ has (acts c) r.action ∷ within r.resets c.clocks ∷ ltb r.target
    c.states ∷ [])

abbrev pub apart : ℕ → ℕ → Bool
apart s t = eqb (s ∩ t) 0

unfoldable pub well_comp : Comp → Bool
well_comp c = all_of (
    leb 1 c.states ∷ leb c.states max_states ∷ ltb c.start c.states
    ∷ ltb c.ins (2 ^ max_actions) ∷ ltb c.outs (2 ^ max_actions) ∷ ltb c.uins (2 ^ max_actions) ∷ ltb c.uouts (2 ^ max_actions)
    ∷ apart c.ins c.outs ∷ apart c.ins c.uins ∷ apart c.ins c.uouts ∷ apart c.outs c.uins ∷ apart c.outs c.uouts
    ∷ apart c.uins c.uouts
    ∷ ltb c.clocks (2 ^ max_clocks) ∷ within c.started c.clocks
    ∷ all (λ k. well_row c (row_at c k)) 0 (length c.rows) ∷ all (λ k. before (row_at c k) (row_at c (suc k))) 0 (length c.rows - 1) ∷ [])

unfoldable pub well_formed : Model → Bool
well_formed m = all_of (
    leb 1 (length m) ∷ leb (length m) max_components ∷ all (λ i. well_comp (comp_at m i)) 0 (length m) ∷ leb (row_count m) max_rows
    ∷ leb (length (text_of m)) max_bytes ∷ [])

well-row : (c : Comp) (r : Row) → well_row c r ≡ true → WellRow c r
unfolding well_row
well-row c r e =
    let p = test_at _ e in
    record {
      from = ltb-true r.from c.states (p 0);
      guard = within-true (guard_set r.guard) c.clocks (p 1);
      action = p 2;
      resets = within-true r.resets c.clocks (p 3);
      target = ltb-true r.target c.states (p 4);
    }

apart-true : (s t : ℕ) → apart s t ≡ true → Apart s t
apart-true s t e x h k = none_in x (rw (eqb-true (s ∩ t) 0 e) at (and_in s t x h k))

well-comp : (c : Comp) → well_comp c ≡ true → WellComp c
unfolding well_comp
well-comp c e =
    let p = test_at _ e in
    record {
      some = leb-true 1 c.states (p 0);
      states = leb-true c.states max_states (p 1);
      start = ltb-true c.start c.states (p 2);
      ins = ltb-true c.ins (2 ^ max_actions) (p 3);
      outs = ltb-true c.outs (2 ^ max_actions) (p 4);
      uins = ltb-true c.uins (2 ^ max_actions) (p 5);
      uouts = ltb-true c.uouts (2 ^ max_actions) (p 6);
      ins-outs = apart-true c.ins c.outs (p 7);
      ins-uins = apart-true c.ins c.uins (p 8);
      ins-uouts = apart-true c.ins c.uouts (p 9);
      outs-uins = apart-true c.outs c.uins (p 10);
      outs-uouts = apart-true c.outs c.uouts (p 11);
      uins-uouts = apart-true c.uins c.uouts (p 12);
      clocks = ltb-true c.clocks (2 ^ max_clocks) (p 13);
      started = within-true c.started c.clocks (p 14);
      rows = λ k h. well-row c (row_at c k) (all_true (λ k. well_row c (row_at c k)) 0 (length c.rows) (p 15) k (omega arith) h);
      ascend = λ k h. all_true (λ k. before (row_at c k) (row_at c (suc k))) 0 (length c.rows - 1) (p 16) k (omega arith) (omega arith);
    }

pub well-formed : (m : Model) → well_formed m ≡ true → WellFormed m
unfolding well_formed
well-formed m e =
    let p = test_at _ e in
    record {
      some = leb-true 1 (length m) (p 0);
      components = leb-true (length m) max_components (p 1);
      each = λ i h. well-comp (comp_at m i) (all_true (λ i. well_comp (comp_at m i)) 0 (length m) (p 2) i (omega arith) h);
      rows = leb-true (row_count m) max_rows (p 3);
      bytes = leb-true (length (text_of m)) max_bytes (p 4);
    }
