-- `elements::states_of` meets its contract.
use mathlib.Core.Path.{◌≡◌, ◌∙◌, ap}
use Prim.Native.Nat.{suc, ◌+◌, ◌^◌}
use native.Mathlib.Omega.{arith}
use lib.ListN.{length}
use Rattle.treecheck.specs.Numbers.{ins_in}
use Rattle.elements.proofs.PartLaws.{ins-length}
use Rattle.elements.proofs.states_of.Goals as goal

pub single-requires : goal.single-requires
single-requires c = omega (arith, c.requires.few)

pub returns-in-Rbox : goal.returns-in-Rbox
returns-in-Rbox c = let i = c.args.e.inputs in
    let n : i.count + 1 ≡ suc (length (ins_in i)) = omega (arith, ins-length i) in
    rw c.in-Rbox.is (c.single.ensures ∙ ap (λ x. 2 ^ x) n)
