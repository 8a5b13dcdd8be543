-- The number of an error by its sign: below zero it is 0, and else itself.
use Rattle.std.proofs.Common.{◌≡◌, ℤ, pos, to_z, of_z, w32}
use mathlib.Core.Path.{sym, ap, ◌∙◌}
use lib.Signed.{lt_z}
use mir.ValLaws.{to_z-of_z}
use Rattle.failing.proofs.Numbers.{number-below, number-own}
use Rattle.failing.proofs.number.Goals as goal

pub returns-then-error-lt0 : goal.returns-then-error-lt0
returns-then-error-lt0 c =
    let e : to_z w32 (of_z w32 c.args.error) ≡ c.args.error = to_z-of_z w32 c.args.error c.ranges.error in
    number-below c.args.error (ap (λ (z : ℤ). lt_z z (pos 0)) (sym e) ∙ c.if-error-lt0.true)

pub returns-else-error-lt0 : goal.returns-else-error-lt0
returns-else-error-lt0 c =
    let e : to_z w32 (of_z w32 c.args.error) ≡ c.args.error = to_z-of_z w32 c.args.error c.ranges.error in
    rw e (number-own c.args.error (ap (λ (z : ℤ). lt_z z (pos 0)) (sym e) ∙ c.if-error-lt0.false))
