-- `simulate::play_text` meets its contract: 22, 28, 40, then the rounds.
use mathlib.Core.Path.{◌≡◌, refl, subst}
use mathlib.Core.List.{List}
use Prim.Native.Nat.{ℕ}
use Rattle.laws.proofs.Exits.{handed-on}
use Rattle.answer.specs.Told.{Checked}
use Rattle.model.specs.Model.{declared}
use Rattle.layout.specs.Image.{model_of}
use Rattle.samples.specs.Text.{Scans}
use Rattle.simulation.specs.Samples.{samples_of}
use Rattle.simulation.specs.Call.{simulate_text}
use Rattle.simulate.proofs.Called.{told-22, told-28}
use Rattle.simulate.proofs.Listed.{fine-count, told-40, plays-lists}
use Rattle.simulate.proofs.play_text.Goals as goal

-- what the scan found, of the clocks that the model declares
scanned : (t x : List ℕ) (d : ℕ) (r : Checked) (at : List ℕ) → d ≡ declared (model_of t) → Scans (samples_of d x) x r at → Scans (samples_of (declared (model_of t)) x) x r at
scanned t x d r at e h = subst (λ d. Scans (samples_of d x) x r at) e h

pub returns-then-rounds-gt-BUDGET : goal.returns-then-rounds-gt-BUDGET
unfolding simulate_text
returns-then-rounds-gt-BUDGET c = told-22 _ _ _ _ c.requires.1 c.if-rounds-gt-BUDGET.true

pub returns-then-clocks-ne-CLOCKS : goal.returns-then-clocks-ne-CLOCKS
unfolding simulate_text
returns-then-clocks-ne-CLOCKS c = told-28 _ _ _ _ c.requires.1 c.if-rounds-gt-BUDGET.false c.if-clocks-ne-CLOCKS.true

pub declared-requires : goal.declared-requires
declared-requires c = c.requires.0.image

pub play-requires : goal.play-requires
play-requires c = let x = c.args.text.now in
    let o = samples_of (declared (model_of c.args.t.now)) x in
    (c.requires.0, fine-count o x c.scan.result c.scan.new.at (scanned _ _ _ _ _ c.declared.ensures c.scan.ensures) c.in_ok-scan.was, c.if-clocks-ne-CLOCKS.false)

pub returns : goal.returns
returns c = plays-lists _ _ _ _ c.requires.1 c.if-rounds-gt-BUDGET.false c.if-clocks-ne-CLOCKS.false c.scan.result c.scan.new.at (scanned _ _ _ _ _ c.declared.ensures c.scan.ensures) _ _ refl c.in_ok-scan.was _ _ c.play.ensures

pub returns-in_err-scan : goal.returns-in_err-scan
returns-in_err-scan c = rw (handed-on _ c.from_residual.ensures.1) (told-40 _ _ _ _ c.requires.1 c.if-rounds-gt-BUDGET.false c.if-clocks-ne-CLOCKS.false c.scan.result c.scan.new.at (scanned _ _ _ _ _ c.declared.ensures c.scan.ensures) _ c.in_err-scan.was)
