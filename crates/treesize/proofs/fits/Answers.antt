-- `treesize::fits` meets its contract.
use mathlib.Core.Path.{refl}
use native.Mathlib.Omega.{arith}
use Rattle.treesize.proofs.FitLaws.{named-hold, named-long, many-components, many-actions, sized-fits}
use Rattle.treesize.proofs.fits.Goals as goal

pub returns-then-named-gt-COMPONENTS : goal.returns-then-named-gt-COMPONENTS
returns-then-named-gt-COMPONENTS c = let v = c.name_actions-named.ensures in (many-components _ _ v.components c.if-named-gt-COMPONENTS.true, refl)

pub returns-then-named-gt-ACTIONS : goal.returns-then-named-gt-ACTIONS
returns-then-named-gt-ACTIONS c = let v = c.name_actions-named.ensures in
    (many-actions _ _ _ v.components c.if-named-gt-COMPONENTS.false v.actions c.if-named-gt-ACTIONS.true, refl)

pub size-n-requires : goal.size-n-requires
size-n-requires c = let n = c.name_actions-named.ensures in
    let a = n.actions in
    let b = c.if-named-gt-ACTIONS.false in
    (c.requires, named-hold _ _ _ _ n refl (omega (arith, a, b)), named-long _ _ _ _ n refl (omega (arith, a, b)), a, omega (arith, n.components, c.if-named-gt-COMPONENTS.false))

pub returns : goal.returns
returns c = let n = c.name_actions-named.ensures in
    (sized-fits _ _ _ _ n.components c.if-named-gt-COMPONENTS.false n.actions c.if-named-gt-ACTIONS.false c.size-n.ensures.0, c.size-n.ensures.1)
