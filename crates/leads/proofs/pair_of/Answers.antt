-- `leads::pair_of` meets its contract: each kind's pair.
use mathlib.Core.Path.{ap, ◌∙◌}
use Rattle.laws.specs.Sets.{only}
use Rattle.layout.proofs.ImageIsSane.{image-long}
use Rattle.leads.specs.Learning.{to_of, new_of}
use Rattle.leads.proofs.Standing.{row_here}
use Rattle.leads.proofs.pair_of.Goals as goal

pub action_at-requires : goal.action_at-requires
action_at-requires c = let p = c.requires in (image-long _ p.state.image, (row_here p).place)

pub single-own-requires : goal.single-own-requires
single-own-requires c = rw c.action_at.ensures (row_here c.requires).action

pub returns-in-Triggers : goal.returns-in-Triggers
unfolding to_of new_of
returns-in-Triggers c = rw c.in-Triggers.is (record { to = c.single-own.ensures ∙ ap only c.action_at.ensures; new = c.stirred.ensures })

pub returns-in-Sets : goal.returns-in-Sets
unfolding to_of new_of
returns-in-Sets c = rw c.in-Sets.is (record { to = c.woken-set.ensures; new = c.woken-set.ensures })

pub returns-in-Wakers : goal.returns-in-Wakers
unfolding to_of new_of
returns-in-Wakers c = rw c.in-Wakers.is (record { to = c.woken.ensures; new = c.single-own.ensures ∙ ap only c.action_at.ensures })
