-- `floodneedle::floodneedle_component` meets its contract: the words are those of what the call says.
use borrow.Author.Rules.{rules}
use Rattle.floodneedle.specs.Told.{component_on}
use Rattle.floodneedle.proofs.floodneedle_component.Goals as goal

pub returns : goal.returns
returns c = let args = c.args in
    c.checked_words.ensures (component_on args.table.now args.i) c.component-checked.ensures
