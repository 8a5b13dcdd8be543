-- `linking::lead_table` meets its contract: what is learnt, closed.
use mathlib.Core.Path.{ap, ◌∙◌}
use lib.ListN.{length}
use Rattle.laws.specs.Sets.{only}
use Rattle.laws.proofs.FoldLaws.{tab-length}
use Rattle.answer.specs.Limits.{max_actions}
use Rattle.layout.specs.Image.{model_of}
use Rattle.layout.proofs.RowsOfRange.{well-formed}
use Rattle.leads.specs.declared.Kind.TheVariants.{Triggers}
use Rattle.leads.specs.Learning.{learn_of}
use Rattle.linking.proofs.Tables.{system-length, learnt-triggers, lead-table-is}
use Rattle.linking.proofs.lead_table.Goals as goal

pub close_sets-requires : goal.close_sets-requires
close_sets-requires c = let m = model_of c.args.t.now in
    ap length (c.learn.ensures ∙ ap (learn_of Triggers m) c.singles.ensures) ∙ system-length Triggers m _ (tab-length only 0 max_actions)

pub returns : goal.returns
returns c = let t = c.args.t.now in
    let e = c.learn.ensures ∙ ap (learn_of Triggers (model_of t)) c.singles.ensures ∙ learnt-triggers (model_of t) in
    lead-table-is (model_of t) (well-formed t c.requires.0) _ (rw e at c.close_sets.ensures)
