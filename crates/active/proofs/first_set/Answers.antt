-- `active::first_set` meets its contract: what the start allows, and what stability allows.
use mathlib.Core.Path.{◌≡◌, sym, ap, ap₂, ◌∙◌}
use native.Mathlib.Omega.{arith}
use mathlib.Core.Bool.{cond}
use lib.Dec.{eqb}
use borrow.Author.Tests.{eq-eqb, ne_eqb}
use Rattle.laws.specs.Sets.{◌∩◌}
use Rattle.iosa.specs.Checks.{enabling_of, unstable, allowed}
use Rattle.layout.specs.Layout.{block_word}
use Rattle.layout.specs.Image.{comp_of}
use Rattle.rows.proofs.Ready.{word-ready}
use Rattle.active.proofs.first_set.Goals as goal
use Rattle.active.proofs.first_set.Goals.{then-s-start, else-s-start, then-is_unstable, else-is_unstable}

pub block_word-clocks-requires : goal.block_word-clocks-requires
block_word-clocks-requires c = word-ready _ c.requires.0 _ c.requires.1 _ (omega arith)

pub block_word-started-requires : goal.block_word-started-requires
block_word-started-requires c = word-ready _ c.requires.0 _ c.requires.1 _ (omega arith)

pub block_word-start-requires : goal.block_word-start-requires
block_word-start-requires c = word-ready _ c.requires.0 _ c.requires.1 _ (omega arith)

pub returns : goal.returns
unfolding allowed comp_of
returns c = let t = c.args.t.now in
    let i = c.args.i in
    let s = c.args.s in
    let clocks = c.block_word-clocks in
    let started = c.block_word-started in
    let start = c.block_word-start in
    let one : c.if-s-start.first ≡ cond (eqb s (block_word t i 1)) (block_word t i 7) (block_word t i 6) = elim c.if-s-start.branch [
      | then-s-start w ↦ w.first-is ∙ started.ensures ∙ sym (ap (λ b. cond b (block_word t i 7) (block_word t i 6)) (eq-eqb s (block_word t i 1) (w.if-s-start.true ∙ start.ensures)))
      | else-s-start w ↦ w.first-is ∙ clocks.ensures ∙ sym (ap (λ b. cond b (block_word t i 7) (block_word t i 6)) (ne_eqb s (block_word t i 1) (λ e. w.if-s-start.false (e ∙ sym start.ensures))))
    ] in
    let two : c.if-is_unstable.rest ≡ cond (unstable (comp_of t i) s) (block_word t i 6) (enabling_of (comp_of t i) s) = elim c.if-is_unstable.branch [
      | then-is_unstable w ↦ w.rest-is ∙ clocks.ensures ∙ ap (λ b. cond b (block_word t i 6) (enabling_of (comp_of t i) s)) (sym w.if-is_unstable.true ∙ c.is_unstable.ensures)
      | else-is_unstable w ↦ w.rest-is ∙ w.enabling-rest.ensures ∙ ap (λ b. cond b (block_word t i 6) (enabling_of (comp_of t i) s)) (sym w.if-is_unstable.false ∙ c.is_unstable.ensures)
    ] in
    ap₂ ◌∩◌ clocks.ensures (ap₂ ◌∩◌ one two)
