-- `rounds::end` meets its contract.
use Rattle.rounds.proofs.Ending.{ends-lacking, ends-fed}
use Rattle.rounds.proofs.end.Goals as goal

pub fed-requires : goal.fed-requires
fed-requires c = (c.requires.0.at_count, c.requires.0.used-count, c.requires.1)

pub returns-in-Some : goal.returns-in-Some
returns-in-Some c = ends-lacking _ c.args.s _ _ _ _ _ _ _ c.fed.ensures _ c.in-Some.is _ c.ran_out.ensures

pub returns-in-None : goal.returns-in-None
returns-in-None c = ends-fed _ c.args.s _ _ _ _ _ _ _ c.fed.ensures c.in-None.is
