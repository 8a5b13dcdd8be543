-- `floodneedle::floodneedle_report` meets its contract: the words and the buffer are those of the call.
use borrow.Author.Rules.{rules}
use Rattle.report.specs.Reported.{length_told}
use Rattle.floodneedle.proofs.floodneedle_report.Goals as goal

pub returns : goal.returns
returns c = let args = c.args in
    let call = c.report-written.ensures in
    record { answer = c.written_words.ensures (length_told args.input.now args.out.now) call.answer; buffer = call.buffer }
