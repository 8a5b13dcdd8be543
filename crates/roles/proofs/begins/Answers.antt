-- `roles::begins` meets its contract.
use mathlib.Core.Path.{◌∙◌, ap}
use Rattle.laws.specs.Sets.{has}
use Rattle.roles.proofs.MoveLaws.{begin-is}
use Rattle.roles.proofs.begins.Goals as goal

pub returns : goal.returns
returns c = let a = c.args in
    let broken = c.has-broken.ensures ∙ ap (has a.s) c.digit.ensures in
    c.to.ensures ∙ begin-is a.n a.s a.i _ _ _ _ c.has-busy.ensures broken c.earlier-before.ensures c.union.ensures
