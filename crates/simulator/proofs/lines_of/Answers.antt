-- A good text has a place for each clock.
use mathlib.Core.Path.{subst}
use Rattle.model.specs.Model.{declared}
use Rattle.layout.specs.Image.{model_of}
use Rattle.samples.specs.Text.{Scans}
use Rattle.simulation.specs.Samples.{samples_of}
use Rattle.simulate.proofs.Listed.{fine-count}
use Rattle.simulator.proofs.lines_of.Goals as goal

pub lines-requires : goal.lines-requires
lines-requires c =
    let x = c.args.recorded.now in
    let at = c.scan.new.at in
    let scanned = subst (λ d. Scans (samples_of d x) x c.scan.result at) c.declared.ensures c.scan.ensures in
    (c.requires, fine-count (samples_of (declared (model_of c.args.t.now)) x) x c.scan.result at scanned c.in-Ok.is)
