-- `firing::action_of` meets its contract: what is left to search from component i on is the whole search.
use mathlib.Core.Path.{◌≡◌, refl, sym, ap, ap₂, ◌∙◌}
use Prim.Native.Nat.{◌<◌}
use native.Mathlib.Omega.{arith}
use borrow.Author.Rules.{rules}
use lib.ListN.{get_or}
use Rattle.answer.specs.Limits.{max_actions}
use Rattle.answer.specs.State.{parts_of}
use Rattle.answer.proofs.StateLaws.{parts_at}
use Rattle.model.specs.Model.{comp_at}
use Rattle.timing.specs.Timed.{clock_row}
use Rattle.layout.specs.Image.{comp_of, model_of}
use Rattle.moves.proofs.Ready.{count-model, count-few, in_table, in-model, in_parts, comp-is, part_low}
use Rattle.firing.specs.Fired.{action_or}
use Rattle.firing.proofs.GuardRow.{row-action-low}
use Rattle.firing.proofs.FiredAlong.{action-here, action-next, action-end}
use Rattle.firing.proofs.action_of.Goals as goal

pub loop-i-init : goal.loop-i-init
loop-i-init c = (search rules, refl)

pub bounds-x-i : goal.bounds-x-i
bounds-x-i c = omega (arith, count-few _ _ c.requires.0)

pub action_in-a-requires : goal.action_in-a-requires
action_in-a-requires c = let i = c.loop-i.i in
    let h : i < c.args.x.count = omega arith in
    (c.requires.0.image, in_table _ _ c.requires.0 i h, part_low _ _ c.requires.0 i h, c.requires.1)

pub returns-then-a : goal.returns-then-a
returns-then-a c = let l = c.loop-i in
    let t = c.args.t.now in
    let x = c.args.x in
    let st = c.requires.0 in
    let h : l.i < x.count = omega arith in
    let a : c.action_in-a.result ≡ action_or (clock_row (comp_at (model_of t) l.i) (get_or (parts_of x) l.i 0) c.args.c) =
    c.action_in-a.ensures ∙ sym (ap₂ (λ d s. action_or (clock_row d s c.args.c)) (comp-is t x st l.i h) (parts_at x l.i h)) in
    a ∙ sym (action-here (model_of t) (parts_of x) c.args.c l.i (in-model t x st l.i h) (in_parts t x st l.i h) (rw (← a) c.if-a.true)) ∙ ap action_or l.invariant.1

pub loop-i-preserved : goal.loop-i-preserved
loop-i-preserved c = let l = c.loop-i in
    let t = c.args.t.now in
    let x = c.args.x in
    let st = c.requires.0 in
    let h : l.i < x.count = omega arith in
    let one : clock_row (comp_at (model_of t) l.i) (get_or (parts_of x) l.i 0) c.args.c ≡ clock_row (comp_of t l.i) (get_or x.parts l.i 0) c.args.c =
    ap₂ (λ d s. clock_row d s c.args.c) (comp-is t x st l.i h) (parts_at x l.i h) in
    let a : action_or (clock_row (comp_at (model_of t) l.i) (get_or (parts_of x) l.i 0) c.args.c) ≡ c.action_in-a.result = ap action_or one ∙ sym c.action_in-a.ensures in (
      omega arith,
      sym (action-next (model_of t) (parts_of x) c.args.c l.i (in-model t x st l.i h) (in_parts t x st l.i h)
          (λ r e. row-action-low t st.image l.i (get_or x.parts l.i 0) c.args.c (in_table t x st l.i h) (part_low t x st l.i h) r (sym one ∙ e))
          (λ q. let z : c.action_in-a.result < max_actions = rw a at q in omega arith))
          ∙ l.invariant.1,
    )

pub returns : goal.returns
returns c = let l = c.loop-i in
    let t = c.args.t.now in
    let x = c.args.x in
    ap action_or (sym (action-end (model_of t) (parts_of x) c.args.c l.i (omega (arith, count-model t x c.requires.0))) ∙ l.invariant.1)
