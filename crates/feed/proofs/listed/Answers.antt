-- `feed::listed` meets its contract.
use mathlib.Core.Path.{sym, ap, ◌∙◌}
use Rattle.fields.specs.Fields.{got_number}
use Rattle.feed.proofs.listed.Goals as goal

pub returns-in-Ok : goal.returns-in-Ok
returns-in-Ok c = sym c.next.ensures ∙ ap (got_number c.args.text.now) c.in-Ok.is

pub returns-in-Err : goal.returns-in-Err
returns-in-Err c = (_, sym c.next.ensures ∙ ap (got_number c.args.text.now) c.in-Err.is)
