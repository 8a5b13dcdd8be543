-- `feed::has_run_out` meets its contract.
use mathlib.Core.Path.{sym, ap}
use Rattle.feed.specs.Supply.{ran_out_of}
use Rattle.feed.proofs.ran_out.Goals as goal

pub returns-in-Lists : goal.returns-in-Lists
returns-in-Lists c = sym (ap ran_out_of c.in-Lists.is)

pub returns-in-Draws : goal.returns-in-Draws
returns-in-Draws c = sym (ap ran_out_of c.in-Draws.is)
