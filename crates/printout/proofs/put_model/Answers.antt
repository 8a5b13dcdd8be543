-- `printout::put_model` meets its contract: no model's text is longer than the longest report.
use native.Mathlib.Omega.{arith}
use Rattle.layout.proofs.ImageIsSane.{image-is-sane}
use Rattle.printout.proofs.Printing.{text-room}
use Rattle.printout.proofs.put_model.Goals as goal

pub write_text-requires : goal.write_text-requires
write_text-requires c = (image-is-sane _ c.requires.0, text-room c.args.out.now _ c.requires.0 c.requires.1)

pub returns : goal.returns
returns c = record { put = c.write_text.ensures; room = omega (arith, text-room c.args.out.now _ c.requires.0 c.requires.1) }
