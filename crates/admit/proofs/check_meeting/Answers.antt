-- `admit::check_meeting` meets its contract: the first component that is not confluent.
use mathlib.Core.Path.{◌≡◌}
use mathlib.Core.Option.{none}
use Prim.Native.Nat.{◌<◌}
use Rattle.iosa.specs.Checks.{check13}
use native.Mathlib.Omega.{arith}
use borrow.Author.Rules.{rules}
use borrow.Author.Tests.{tests}
use Rattle.std.proofs.lemmas.Iterator.{serves_from_Range}
use Rattle.layout.specs.Layout.{count_of}
use Rattle.layout.specs.Image.{comp_of}
use Rattle.layout.proofs.ImageIsSane.{image-long}
use Rattle.meets.specs.Meets.{fault18}
use Rattle.parts.proofs.Saying.{says-as}
use Rattle.parts.proofs.EachState.{first-fault}
use Rattle.admit.proofs.EachInTurn.{single-rows, all-clashes}
use Rattle.admit.proofs.check_meeting.Goals as goal

pub count_of-n-requires : goal.count_of-n-requires
count_of-n-requires c = image-long _ c.requires.0

pub try_for_each-requires : goal.try_for_each-requires
try_for_each-requires c = let t = c.args.t.now in
    record {
      can = tt;
      finite = tt;
      callable = serves_from_Range (λ x q k. search (rules, tests)) (λ x low high.
          let h : x < count_of t = omega (arith, c.count_of-n.ensures, high) in
          let single : check13 (comp_of t x) ≡ none = single-rows t c.requires.0 x h c.requires.1 in search rules);
    }

pub returns : goal.returns
returns c = let t = c.args.t.now in
    says-as _ _ _ (all-clashes t c.requires.0) (first-fault _ _ (λ i. fault18 i (comp_of t i)) (count_of t) (λ k r q l call. search (rules, tests))
    _ _ _ c.count_of-n.ensures c.try_for_each.ensures.ran)
