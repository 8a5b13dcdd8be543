-- The merged component is one that a text can state, within its limit of states.
use mathlib.Core.Path.{sym, ◌∙◌, ap₂}
use mathlib.Core.Bool.{true≢false}
use mathlib.Core.List.{Memᴰ as In}
use Prim.Native.Nat.{ℕ, ◌*◌, ◌≤◌}
use native.Mathlib.Omega.{arith}
use native.Mathlib.Nat.{mul-le-mul_right}
use lib.Bits.{or_lt}
use Rattle.laws.specs.Sets.{◌∪◌, ◌∖◌, ◌∈◌, Apart}
use Rattle.laws.proofs.SetLaws.{or-in-l, or-in-r, in_without, without-lt}
use Rattle.laws.proofs.ListLaws.{in-at, pairwise-next}
use Rattle.laws.proofs.PairLaws.{pair-below}
use Rattle.answer.specs.Limits.{max_states, max_actions, max_clocks}
use Rattle.model.specs.Model.{Row, Comp, no_row}
use Rattle.model.specs.WellFormed.{WellRow, WellComp}
use Rattle.iosa.specs.Automaton.{auto_of, Conditions, Compatible}
use Rattle.merged.specs.Merge.{product_rows, merged}
use Rattle.iosa.proofs.Settling.OwnNames.{component-own, product-own, or-within}
use Rattle.merged.proofs.Merging.Labels.{kinds-apart, merged-inputs, merged-outputs}
use Rattle.merged.proofs.Merging.Product.{row-is-a-pair}
use Rattle.merged.proofs.Merging.Ascend.{Before, merged-rows-ascend}

pub apart-without : (s t : ℕ) → Apart (s ∖ t) t
apart-without s t x h k = true≢false (sym k ∙ (in_without s t x h).1)

-- two parts with nothing in common, each split in two
module _ (s t u v : ℕ) (h : Apart (s ∪ t) (u ∪ v)) where
  left-part : (a b x : ℕ) → x ∈ a ∖ b → x ∈ a ∪ b
  left-part a b x m = or-in-l a b x (in_without a b x m).0

  pub apart-left : Apart (s ∖ t) (u ∖ v)
  apart-left x m n = h x (left-part s t x m) (left-part u v x n)

  pub apart-outer : Apart (s ∖ t) v
  apart-outer x m n = h x (left-part s t x m) (or-in-r u v x n)

  pub apart-inner : Apart t (u ∖ v)
  apart-inner x m n = h x (or-in-r s t x m) (left-part u v x n)

  pub apart-right : Apart t v
  apart-right x m n = h x (or-in-r s t x m) (or-in-r u v x n)

module _ (c d : Comp) (wc : WellComp c) (wd : WellComp d) (oc : Conditions (auto_of c)) (od : Conditions (auto_of d)) (j : Compatible (auto_of c) (auto_of d)) where
  -- a row of the merged component names its own states, actions and clocks
  row-is-well : {x : Row} → In x (product_rows c d) → WellRow (merged c d) x
  unfolding merged
  row-is-well {x} m =
      let p = row-is-a-pair c d wc wd oc od j m in
      let cl = product-own (auto_of c) (auto_of d) (component-own c wc) (component-own d wd) in
      let own = cl.rows p.joint in
      record {
        from = rw p.from (pair-below c.states d.states p.s-below p.t-below);
        guard = own.guard;
        action = rw (ap₂ ◌∪◌ (merged-inputs c d wc wd j) (merged-outputs c d)) own.action;
        resets = own.resets;
        target = rw p.target (pair-below c.states d.states p.s'-below p.t'-below);
      }

  pub merged-is-well-formed : c.states * d.states ≤ max_states → WellComp (merged c d)
  unfolding merged
  merged-is-well-formed h = record {
    some = omega (arith, mul-le-mul_right d.states wc.some, wd.some);
    states = h;
    start = pair-below c.states d.states wc.start wd.start;
    ins = without-lt max_actions (c.ins ∪ d.ins) (c.outs ∪ d.outs) (or_lt max_actions c.ins d.ins wc.ins wd.ins);
    outs = or_lt max_actions c.outs d.outs wc.outs wd.outs;
    uins = without-lt max_actions (c.uins ∪ d.uins) (c.uouts ∪ d.uouts) (or_lt max_actions c.uins d.uins wc.uins wd.uins);
    uouts = or_lt max_actions c.uouts d.uouts wc.uouts wd.uouts;
    ins-outs = apart-without (c.ins ∪ d.ins) (c.outs ∪ d.outs);
    ins-uins = apart-left (c.ins ∪ d.ins) (c.outs ∪ d.outs) (c.uins ∪ d.uins) (c.uouts ∪ d.uouts) (kinds-apart c d wc wd j);
    ins-uouts = apart-outer (c.ins ∪ d.ins) (c.outs ∪ d.outs) (c.uins ∪ d.uins) (c.uouts ∪ d.uouts) (kinds-apart c d wc wd j);
    outs-uins = apart-inner (c.ins ∪ d.ins) (c.outs ∪ d.outs) (c.uins ∪ d.uins) (c.uouts ∪ d.uouts) (kinds-apart c d wc wd j);
    outs-uouts = apart-right (c.ins ∪ d.ins) (c.outs ∪ d.outs) (c.uins ∪ d.uins) (c.uouts ∪ d.uouts) (kinds-apart c d wc wd j);
    uins-uouts = apart-without (c.uins ∪ d.uins) (c.uouts ∪ d.uouts);
    clocks = or_lt max_clocks c.clocks d.clocks wc.clocks wd.clocks;
    started = or-within c.started d.started c.clocks d.clocks wc.started wd.started;
    rows = λ k p. row-is-well (in-at no_row (product_rows c d) k p);
    ascend = pairwise-next Before no_row (product_rows c d) (merged-rows-ascend c d wc wd oc od j);
  }
