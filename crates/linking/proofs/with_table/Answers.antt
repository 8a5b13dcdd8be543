-- `linking::with_table` meets its contract.
use mathlib.Core.Path.{◌≡◌, ap, ap₂, ◌∙◌}
use lib.ListN.{length}
use Rattle.layout.specs.Image.{model_of}
use Rattle.triggering.specs.Test.{elsewhere, wakers_of}
use Rattle.leads.specs.declared.Kind.TheVariants.{Sets, Wakers}
use Rattle.leads.specs.Learning.{learn_of}
use Rattle.leads.proofs.Standing.{crossed-length}
use Rattle.linking.proofs.Walking.{no-sets}
use Rattle.linking.proofs.Tables.{none-length, system-length, wakers-length, learnt-wakers, together-is}
use Rattle.linking.proofs.with_table.Goals as goal
use Rattle.linking.proofs.with_table.Goals.{After-learn}

-- the actions that enable each
wakers : (c : After-learn) → c.learn.new.table ≡ wakers_of (model_of c.args.t.now)
wakers c =
    let m = model_of c.args.t.now in
    c.learn.ensures ∙ ap (learn_of Wakers m) no-sets ∙ learnt-wakers m

pub cross-requires : goal.cross-requires
cross-requires c = ap length c.requires.1 ∙ none-length

pub learn-requires-2 : goal.learn-requires-2
learn-requires-2 c = (c.requires.0, ap length c.cross.ensures ∙ crossed-length _ _ _)

pub add_elsewhere-requires : goal.add_elsewhere-requires
add_elsewhere-requires c = let w = (goal.at.add_elsewhere-requires c).After-learn in
    let m = model_of c.args.t.now in (
      c.requires.0,
      ap length (wakers w) ∙ wakers-length m,
      ap length c.learn-2.ensures ∙ system-length Sets m _ (ap length c.cross.ensures ∙ crossed-length _ _ _),
    )

pub returns : goal.returns
returns c = let w = (goal.at.returns c).After-learn in
    let m = model_of c.args.t.now in
    let begun = rw (c.starts-s.ensures, c.requires.1) at c.cross.ensures in
    c.add_elsewhere.ensures ∙ ap₂ (elsewhere m) (wakers w) c.learn-2.ensures ∙ together-is m _ begun
