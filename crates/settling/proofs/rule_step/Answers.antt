-- `settling::rule_step` meets its contract.
use mathlib.Core.Path.{◌≡◌, sym, ap, ◌∙◌}
use native.Mathlib.Omega.{arith}
use borrow.Author.Rules.{rules}
use lib.ListN.{length}
use Rattle.answer.specs.Limits.{max_components}
use Rattle.answer.specs.State.{parts_of, with_parts}
use Rattle.answer.proofs.StateLaws.{with-own-parts}
use Rattle.iosa.specs.Step.{taken}
use Rattle.layout.specs.Image.{model_of}
use Rattle.moves.proofs.Ready.{count-few}
use Rattle.moves.proofs.Lowest.{lowest-here, lowest-nowhere}
use Rattle.settling.proofs.rule_step.Goals as goal

pub returns-else-a : goal.returns-else-a
returns-else-a c = let t = c.args.t.now in
    let x = c.args.x in
    let r = c.requires in
    let e = ap (taken (parts_of x)) (lowest-nowhere (model_of t) r.conforming r.joinable (parts_of x) r.standing.within _
    c.lowest_all-a.ensures (omega (arith, c.if-a.false))) in
    let len : length x.parts ≡ max_components = search rules in
    record {
      outcome = ap (λ v. v.step) (sym e);
      state = sym (with-own-parts x (omega (arith, len, count-few t x r.standing))) ∙ ap (λ v. with_parts x v.state) (sym e);
    }

pub returns-then-a : goal.returns-then-a
returns-then-a c = let x = c.args.x in
    let r = c.requires in
    let m = model_of c.args.t.now in
    let e = ap (taken (parts_of x)) (lowest-here m r.conforming r.joinable (parts_of x) r.standing.within _
    c.lowest_all-a.ensures c.if-a.true) in
    record {
      outcome = c.moved_by.ensures.outcome ∙ ap (λ v. v.step) (sym e);
      state = c.moved_by.ensures.state ∙ ap (λ v. with_parts x v.state) (sym e);
    }
