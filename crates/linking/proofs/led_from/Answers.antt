-- `linking::led_from` meets its contract.
use mathlib.Core.Path.{ap, ◌∙◌}
use lib.ListN.{length}
use Rattle.iosa.proofs.Acceptance.Accepted.{accepted-exactly}
use Rattle.layout.specs.Image.{model_of}
use Rattle.layout.proofs.RowsOfRange.{well-formed}
use Rattle.linking.specs.Linking.{led_from}
use Rattle.linking.proofs.Tables.{together-length}
use Rattle.linking.proofs.Spreading.{led-table-is}
use Rattle.linking.proofs.led_from.Goals as goal

pub add_led-requires : goal.add_led-requires
add_led-requires c = (c.lead_table.ensures.places, ap length c.requires.2 ∙ together-length (model_of c.args.t.now))

pub returns : goal.returns
returns c = let t = c.args.t.now in
    let w = well-formed t c.requires.0 in
    let join = ((accepted-exactly (model_of t) w).0 c.requires.1).1 in
    led-table-is (model_of t) w join _ c.lead_table.ensures _ (c.add_led.ensures ∙ ap (led_from _) c.requires.2)
