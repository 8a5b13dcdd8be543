-- What the call answered, or its refusal.
use borrow.Author.Rules.{rules}
use Rattle.simulation.specs.Simulate.{no_values}
use Rattle.printout.proofs.Printing.{printed-line}
use Rattle.simulator.proofs.Ending.{ends-refused, ends-few, ends-room, ends-put}
use Rattle.simulator.proofs.put_ends.Goals as goal

pub put_ended-requires : goal.put_ended-requires
unfolding no_values
put_ended-requires c = let r = ends-room _ _ _ _ c.requires.0 _ c.in-Ok.ensures _ c.args.out.now c.requires.1 in
    (ends-few _ _ _ _ c.requires.0 _ c.in-Ok.ensures, search rules, r)

pub returns-in-Err : goal.returns-in-Err
unfolding no_values
returns-in-Err c =
    let p = ends-refused _ _ _ _ c.requires.0 c.in-Err.f c.in-Err.ensures in
    printed-line c.in-Err.f p.0 _ p.1 p.2 c.put_refusal.ensures

pub returns-in-Ok : goal.returns-in-Ok
unfolding no_values
returns-in-Ok c = ends-put _ _ _ _ c.requires.0 _ c.in-Ok.ensures _ c.declared.ensures c.args.out.now _ _ c.requires.1 c.put_ended.ensures
