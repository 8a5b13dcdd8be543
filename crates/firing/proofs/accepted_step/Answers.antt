-- `firing::accepted_step` meets its contract: 21, 27 and 28 in their order, and then what the clocks decide.
use mathlib.Core.Path.{refl, sym, ap, ◌∙◌}
use borrow.Author.Tests.{eq-eqb, ne_eqb}
use lib.ListN.{length}
use Rattle.laws.specs.Search.{any}
use Rattle.answer.specs.Limits.{max_clocks}
use Rattle.answer.specs.Told.{told}
use Rattle.answer.specs.State.{parts_of}
use Rattle.iosa.proofs.Acceptance.Accepted.{accepted-exactly}
use Rattle.iosa.proofs.Settling.Range.{range-exactly}
use Rattle.layout.specs.Image.{model_of}
use Rattle.layout.proofs.RowsOfRange.{well-formed}
use Rattle.moves.proofs.Lowest.{lowest-here, lowest-nowhere}
use Rattle.ticks.specs.Ticks.{outside, by_value}
use Rattle.firing.proofs.Judging.{refuses, is-21, is-27, is-28, is-on, moves-on, at_rest, bad-count, bad-by-test, ticking-so}
use Rattle.firing.proofs.accepted_step.Goals as goal

pub returns-then-not-in_range : goal.returns-then-not-in_range
unfolding told
returns-then-not-in_range c = let m = model_of c.args.t.now in
    let ss = parts_of c.args.x in
    let vs = c.args.values.now in
    let r = sym c.in_range.ensures ∙ c.if-not-in_range.true in
    rw c.refused.ensures (refuses _ _ (is-21 m ss vs c.requires.1 r) _ refl c.args.x vs)

pub lowest_all-requires : goal.lowest_all-requires
lowest_all-requires c = record { image = c.requires.0; within = (range-exactly _ _).0 (sym c.in_range.ensures ∙ c.if-not-in_range.false) }

pub returns-then-lowest_all : goal.returns-then-lowest_all
unfolding told
returns-then-lowest_all c = let m = model_of c.args.t.now in
    let ss = parts_of c.args.x in
    let vs = c.args.values.now in
    let r = sym c.in_range.ensures ∙ c.if-not-in_range.false in
    let a = (accepted-exactly m (well-formed _ c.requires.0)).0 c.requires.1 in
    let u = moves-on m ss _ (lowest-here m a.0 a.1 ss ((range-exactly m ss).0 r) _ c.lowest_all.ensures c.if-lowest_all.true) in
    rw c.refused-then-lowest_all.ensures (refuses _ _ (is-27 m ss vs c.requires.1 r u) _ refl c.args.x vs)

pub returns-then-values-ne-CLOCKS : goal.returns-then-values-ne-CLOCKS
unfolding told
returns-then-values-ne-CLOCKS c = let m = model_of c.args.t.now in
    let ss = parts_of c.args.x in
    let vs = c.args.values.now in
    let r = sym c.in_range.ensures ∙ c.if-not-in_range.false in
    let a = (accepted-exactly m (well-formed _ c.requires.0)).0 c.requires.1 in
    let u = at_rest m ss (lowest-nowhere m a.0 a.1 ss ((range-exactly m ss).0 r) _ c.lowest_all.ensures c.if-lowest_all.false) in
    rw c.refused-then-values-ne-CLOCKS.ensures (refuses _ _ (is-28 m ss vs c.requires.1 r u (bad-count m vs (ne_eqb (length vs) max_clocks c.if-values-ne-CLOCKS.true))) _ refl c.args.x vs)

pub returns-then-any_outside : goal.returns-then-any_outside
unfolding told
returns-then-any_outside c = let m = model_of c.args.t.now in
    let ss = parts_of c.args.x in
    let vs = c.args.values.now in
    let r = sym c.in_range.ensures ∙ c.if-not-in_range.false in
    let a = (accepted-exactly m (well-formed _ c.requires.0)).0 c.requires.1 in
    let u = at_rest m ss (lowest-nowhere m a.0 a.1 ss ((range-exactly m ss).0 r) _ c.lowest_all.ensures c.if-lowest_all.false) in
    let b = bad-by-test m vs (eq-eqb (length vs) max_clocks c.if-values-ne-CLOCKS.false) _ (c.any_outside.ensures ∙ ap (λ n. any (by_value (outside n) vs) max_clocks) c.declared.ensures) in
    rw c.refused-then-any_outside.ensures (refuses _ _ (is-28 m ss vs c.requires.1 r u (b ∙ c.if-any_outside.true)) _ refl c.args.x vs)

pub shoot-requires : goal.shoot-requires
shoot-requires c = let m = model_of c.args.t.now in
    let ss = parts_of c.args.x in
    let vs = c.args.values.now in
    let r = sym c.in_range.ensures ∙ c.if-not-in_range.false in
    let a = (accepted-exactly m (well-formed _ c.requires.0)).0 c.requires.1 in
    let b = bad-by-test m vs (eq-eqb (length vs) max_clocks c.if-values-ne-CLOCKS.false) _ (c.any_outside.ensures ∙ ap (λ n. any (by_value (outside n) vs) max_clocks) c.declared.ensures) in
    record { standing = record { image = c.requires.0; within = (range-exactly m ss).0 r }; conforming = a.0; joinable = a.1; ticking = ticking-so m vs (well-formed _ c.requires.0) (b ∙ c.if-any_outside.false) }

pub returns : goal.returns
returns c = let m = model_of c.args.t.now in
    let ss = parts_of c.args.x in
    let vs = c.args.values.now in
    let r = sym c.in_range.ensures ∙ c.if-not-in_range.false in
    let a = (accepted-exactly m (well-formed _ c.requires.0)).0 c.requires.1 in
    let u = at_rest m ss (lowest-nowhere m a.0 a.1 ss ((range-exactly m ss).0 r) _ c.lowest_all.ensures c.if-lowest_all.false) in
    let b = bad-by-test m vs (eq-eqb (length vs) max_clocks c.if-values-ne-CLOCKS.false) _ (c.any_outside.ensures ∙ ap (λ n. any (by_value (outside n) vs) max_clocks) c.declared.ensures) in
    rw (is-on m ss vs c.requires.1 r u (b ∙ c.if-any_outside.false)) c.shoot.ensures
