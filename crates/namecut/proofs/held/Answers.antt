-- `namecut::held` meets its contract.
use native.Mathlib.Omega.{arith}
use Rattle.cutlaws.proofs.CutLaws.{held}
use Rattle.namecut.proofs.held.Goals as goal

pub returns : goal.returns
returns c = let a = c.args in held a.text.now a.at c.min.result (λ h. omega (arith, c.min.ensures)) (λ h. omega (arith, c.min.ensures))
