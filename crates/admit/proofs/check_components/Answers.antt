-- `admit::check_components` meets its contract: the first component with a fault.
use borrow.Author.Rules.{rules}
use borrow.Author.Tests.{tests}
use Rattle.iosa.specs.Checks.{fault_at}
use Rattle.layout.specs.Layout.{count_of, first_of}
use Rattle.layout.specs.Image.{comp_of}
use Rattle.layout.proofs.ImageIsSane.{image-long}
use Rattle.parts.proofs.Saying.{says-as}
use Rattle.parts.proofs.EachState.{first-fault}
use Rattle.admit.proofs.EachInTurn.{all-faults}
use Rattle.admit.proofs.check_components.Goals as goal

pub count_of-n-requires : goal.count_of-n-requires
count_of-n-requires c = image-long _ c.requires

pub returns : goal.returns
returns c = let t = c.args.t.now in
    says-as _ _ _ (all-faults t c.requires) (first-fault _ _ (λ i. fault_at i (first_of t i 0) (comp_of t i)) (count_of t) (λ k r q l call. search
    (rules, tests))
    _ _ _ c.count_of-n.ensures c.try_for_each.ensures.ran)
