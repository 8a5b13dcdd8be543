-- The four kinds of a component's actions, each apart from the others: what one action more does to them.
use mathlib.Core.Path.{◌≡◌, ap}
use mathlib.Core.Bool.{false, true}
use mathlib.Core.List.{[]}
use Prim.Native.Nat.{ℕ, suc, ◌^◌, ◌≤◌, ◌<◌}
use native.Mathlib.Omega.{arith}
use lib.ListN.{length}
use lib.Bits.{or_lt}
use lib.Pow.{pow-lt}
use Rattle.laws.specs.Sets.{has, ◌∪◌, only, ◌⊆◌, Apart}
use Rattle.laws.proofs.GrowLaws.{added-apart, apart-flip}
use Rattle.answer.specs.Limits.{max_states, max_actions, max_clocks}
use Rattle.model.specs.Model.{Comp, row_at}
use Rattle.model.specs.WellFormed.{before, WellRow, WellComp}

pub record FourApart (p q r s : ℕ) : Type 0 where
  pub first : p < 2 ^ max_actions
  pub second : q < 2 ^ max_actions
  pub third : r < 2 ^ max_actions
  pub fourth : s < 2 ^ max_actions
  pub one-two : Apart p q
  pub one-three : Apart p r
  pub one-four : Apart p s
  pub two-three : Apart q r
  pub two-four : Apart q s
  pub three-four : Apart r s

-- the four in turn
pub four-turn : {p q r s : ℕ} → FourApart p q r s → FourApart q r s p
four-turn {p} {q} {r} {s} f =
    record {
      first = f.second;
      second = f.third;
      third = f.fourth;
      fourth = f.first;
      one-two = f.two-three;
      one-three = f.two-four;
      one-four = apart-flip p q f.one-two;
      two-three = f.three-four;
      two-four = apart-flip p r f.one-three;
      three-four = apart-flip p s f.one-four;
    }

-- an action that the others lack is added to the first
pub four-grow : {p q r s : ℕ} (a : ℕ) → a < max_actions → has q a ≡ false → has r a ≡ false → has s a ≡ false → FourApart p q r s → FourApart (p ∪ only a) q r s
four-grow {p} {q} {r} {s} a h nq nr ns f =
    record {
      first = or_lt max_actions p (only a) f.first (pow-lt h);
      second = f.second;
      third = f.third;
      fourth = f.fourth;
      one-two = added-apart p q a f.one-two nq;
      one-three = added-apart p r a f.one-three nr;
      one-four = added-apart p s a f.one-four ns;
      two-three = f.two-three;
      two-four = f.two-four;
      three-four = f.three-four;
    }

abbrev pub KindsApart : Comp → Type 0
KindsApart c = FourApart c.ins c.outs c.uins c.uouts

pub kinds-apart : (c : Comp) → WellComp c → KindsApart c
kinds-apart c w =
    record {
      first = w.ins;
      second = w.outs;
      third = w.uins;
      fourth = w.uouts;
      one-two = w.ins-outs;
      one-three = w.ins-uins;
      one-four = w.ins-uouts;
      two-three = w.outs-uins;
      two-four = w.outs-uouts;
      three-four = w.uins-uouts;
    }

-- a component is well-formed if its kinds are apart and the rest of it is in order
pub well-by-kinds : (c : Comp) → 1 ≤ c.states → c.states ≤ max_states → c.start < c.states → KindsApart c → c.clocks < 2 ^ max_clocks
    → c.started ⊆ c.clocks
    → ((k : ℕ) → k < length c.rows → WellRow c (row_at c k)) → ((k : ℕ) → suc k < length c.rows → before (row_at c k) (row_at c (suc k)) ≡ true) → WellComp c
well-by-kinds c some states start f clocks started rows ascend =
    record {
      some = some;
      states = states;
      start = start;
      ins = f.first;
      outs = f.second;
      uins = f.third;
      uouts = f.fourth;
      ins-outs = f.one-two;
      ins-uins = f.one-three;
      ins-uouts = f.one-four;
      outs-uins = f.two-three;
      outs-uouts = f.two-four;
      uins-uouts = f.three-four;
      clocks = clocks;
      started = started;
      rows = rows;
      ascend = ascend;
    }

-- the same, where there is no row yet
pub well-with-no-row : (c : Comp) → 1 ≤ c.states → c.states ≤ max_states → c.start < c.states → KindsApart c → c.clocks < 2 ^ max_clocks
    → c.started ⊆ c.clocks → c.rows ≡ [] → WellComp c
well-with-no-row c some states start f clocks started e =
    well-by-kinds c some states start f clocks started (λ k h. absurd (omega (arith, ap length e))) (λ k h. absurd (omega (arith, ap length e)))
