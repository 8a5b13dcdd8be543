-- `outset::start_state` meets its contract: the places hold the starts of the components.
use mathlib.Core.Path.{sym, ◌∙◌, ap}
use Prim.Native.Nat.{ℕ}
use native.Mathlib.Omega.{arith}
use borrow.Author.Rules.{rules}
use borrow.Author.Tests.{tests}
use lib.ListN.{get_or}
use Rattle.answer.specs.Limits.{max_components}
use Rattle.iosa.specs.Start.{start_all}
use Rattle.layout.specs.Image.{model_of}
use Rattle.layout.proofs.ImageIsSane.{image-long}
use Rattle.words.proofs.Filled.{made}
use Rattle.outset.proofs.Called.{as_many}
use Rattle.outset.proofs.Made.{made-at}
use Rattle.outset.proofs.start_state.Goals as goal

pub count_of-requires : goal.count_of-requires
count_of-requires c = image-long _ c.requires

pub returns : goal.returns
returns c = let t = c.args.t.now in
    let starts = start_all (model_of t) in
    let items = c.from_fn.ensures.items in
    ap (λ (n : ℕ). record { count = n; parts = c.from_fn.result }) (c.count_of.ensures ∙ sym (as_many t c.requires))
    ∙ made starts c.from_fn.result max_components items.long (omega arith) (made-at _ (λ i. get_or starts i 0) _ _ max_components
    (λ i y q h call. search (rules, tests)) items)
