-- `pairs::partner` meets its contract: the first component of those after i that clashes with it.
use mathlib.Core.Path.{ap, ◌∙◌}
use Prim.Native.Nat.{ℕ, ◌+◌}
use native.Mathlib.Omega.{arith}
use borrow.Author.Rules.{rules}
use borrow.Author.Tests.{tests}
use Rattle.std.proofs.lemmas.Iterator.{first_from_Range}
use Rattle.laws.specs.Sets.{has}
use Rattle.laws.specs.Search.{seek, when}
use Rattle.layout.specs.Image.{comp_of}
use Rattle.layout.proofs.ImageIsSane.{image-long, count-below}
use Rattle.rows.specs.Ranges.{found_of}
use Rattle.rows.proofs.FoundLaws.{sought}
use Rattle.pairs.specs.Clashes.{clash_of, partner_of}
use Rattle.pairs.proofs.partner.Goals as goal

pub count_of-n-requires : goal.count_of-n-requires
count_of-n-requires c = image-long _ c.requires.0

pub overflow_add-i : goal.overflow_add-i
overflow_add-i c = omega (arith, c.requires.1, count-below _ c.requires.0)

pub returns : goal.returns
unfolding partner_of
returns c = let a = c.args in
    let test = λ (j : ℕ). has (clash_of a.kind (comp_of a.t.now a.i) (comp_of a.t.now j)) a.x in
    sought test (a.i + 1) c.count_of-n.result _
    (first_from_Range _ _ _ _ _ _ c.find.ensures.ran (λ k q e. search (rules, tests)) (λ k q e. search (rules, tests)))
    ∙ ap (λ n. found_of (seek (λ j. when (test j) j) (a.i + 1) n)) c.count_of-n.ensures
