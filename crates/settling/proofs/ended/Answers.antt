-- `settling::ended` meets its contract.
use mathlib.Core.Path.{refl, sym}
use Rattle.settling.proofs.Rests.{rests, goes_on}
use Rattle.settling.proofs.ended.Goals as goal

pub returns-then-a : goal.returns-then-a
returns-then-a c = record {
  verdict = sym (goes_on _ _ c.requires _ c.lowest_all-a.ensures c.if-a.true);
  steps-are = refl;
  resets-are = refl;
  state = refl;
}

pub returns-else-a : goal.returns-else-a
returns-else-a c = record {
  verdict = sym (rests _ _ c.requires _ c.lowest_all-a.ensures c.if-a.false);
  steps-are = refl;
  resets-are = refl;
  state = refl;
}
