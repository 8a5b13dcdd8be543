-- Each of the four ways out is a case of `tried_of`.
use Rattle.std.proofs.Common.{◌≡◌, ℤ, pos, to_z, of_z, w32, w64}
use mathlib.Core.Path.{sym, ap, ◌∙◌}
use lib.Signed.{le_z}
use mir.ValLaws.{to_z-of_z}
use Rattle.stream.proofs.Meanings.{moved-of, again-of, failed-of, passes-4, passes-11, stays}
use Rattle.stream.proofs.meant.Goals as goal

pub returns-then-got-ge0 : goal.returns-then-got-ge0
returns-then-got-ge0 c =
    let e : to_z w64 (of_z w64 c.args.got) ≡ c.args.got = to_z-of_z w64 c.args.got c.ranges.got in
    rw e (moved-of c.args.got c.args.error (ap (λ (z : ℤ). le_z (pos 0) z) (sym e) ∙ c.if-got-ge0.true))

pub returns-then-error-eq-EINTR : goal.returns-then-error-eq-EINTR
returns-then-error-eq-EINTR c =
    let e : to_z w64 (of_z w64 c.args.got) ≡ c.args.got = to_z-of_z w64 c.args.got c.ranges.got in
    again-of c.args.got c.args.error (ap (λ (z : ℤ). le_z (pos 0) z) (sym e) ∙ c.if-got-ge0.false) (passes-4 c.args.error c.ranges.error c.if-error-eq-EINTR.true)

pub returns-then-error-eq-EAGAIN : goal.returns-then-error-eq-EAGAIN
returns-then-error-eq-EAGAIN c =
    let e : to_z w64 (of_z w64 c.args.got) ≡ c.args.got = to_z-of_z w64 c.args.got c.ranges.got in
    again-of c.args.got c.args.error (ap (λ (z : ℤ). le_z (pos 0) z) (sym e) ∙ c.if-got-ge0.false) (passes-11 c.args.error c.ranges.error c.if-error-eq-EAGAIN.true)

pub returns : goal.returns
returns c =
    let e : to_z w64 (of_z w64 c.args.got) ≡ c.args.got = to_z-of_z w64 c.args.got c.ranges.got in
    let f : to_z w32 (of_z w32 c.args.error) ≡ c.args.error = to_z-of_z w32 c.args.error c.ranges.error in
    rw f (failed-of c.args.got c.args.error (ap (λ (z : ℤ). le_z (pos 0) z) (sym e) ∙ c.if-got-ge0.false) (stays c.args.error c.if-error-eq-EINTR.false c.if-error-eq-EAGAIN.false))
