-- A component without its rows: its text is the lines beside them.
use Rattle.model.specs.Model.{Comp}
use Rattle.measure.specs.Measure.{bare}

unfoldable pub bare_of : Comp → Comp
bare_of c = bare c.states c.start c.ins c.outs c.uins c.uouts c.clocks
