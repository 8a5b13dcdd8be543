-- The words and the number are put one after the other: what is left at each place is the rest of the line.
use Rattle.std.proofs.Common.{◌≡◌, w32}
use mathlib.Core.Path.{ap, ◌∙◌}
use mir.ValLaws.{to_z-of_z}
use Rattle.print.proofs.LaidLaws.{left-room, left-last, last-room}
use Rattle.failing.specs.Line.{error_number}
use Rattle.failing.proofs.Line.{after-words, after_number}
use Rattle.failing.proofs.put_failure.Goals as goal

pub put_decimal-close-requires : goal.put_decimal-close-requires
put_decimal-close-requires c =
    let same : c.number.result ≡ error_number c.args.error = c.number.ensures ∙ ap error_number (to_z-of_z w32 c.args.error c.ranges.error) in
    left-room (after-words c.args.error c.requires c.put_word-word.ensures c.put_word-digits.ensures same)

pub put_word-requires : goal.put_word-requires
put_word-requires c =
    let same : c.number.result ≡ error_number c.args.error = c.number.ensures ∙ ap error_number (to_z-of_z w32 c.args.error c.ranges.error) in
    last-room (after_number c.args.error c.requires c.put_word-word.ensures c.put_word-digits.ensures same c.put_decimal-close.ensures)

pub returns : goal.returns
returns c =
    let same : c.number.result ≡ error_number c.args.error = c.number.ensures ∙ ap error_number (to_z-of_z w32 c.args.error c.ranges.error) in
    left-last (after_number c.args.error c.requires c.put_word-word.ensures c.put_word-digits.ensures same c.put_decimal-close.ensures) c.put_word.ensures
