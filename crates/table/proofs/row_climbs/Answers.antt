-- `table::row_climbs`: the first number that differs decides.
use mathlib.Core.Path.{sym, ◌∙◌, ap₂}
use Prim.Native.Nat.{◌+◌}
use lib.Dec.{ltb}
use Rattle.layout.specs.Layout.{action_at, guard_at, resets_at, target_at}
use Rattle.table.proofs.RowTests.{by-action, by-guard, by-resets, by-target, climbs-is}
use Rattle.table.proofs.row_climbs.Goals as goal

pub returns-then-action-action_next : goal.returns-then-action-action_next
returns-then-action-action_next c s = let args = c.args in
    let action-at = c.action_at-action in
    let action-at2 = c.action_at-action_next in
    let r = args.r in
    let t = args.t.now in
    ap₂ ltb action-at.ensures action-at2.ensures
    ∙ by-action (action_at t r) (action_at t (r + 1)) (guard_at t r) (guard_at t (r + 1)) (resets_at t r) (resets_at t (r + 1)) (target_at t r)
    (target_at t (r + 1)) (λ q. c.if-action-action_next.true (action-at.ensures ∙ q ∙ sym action-at2.ensures))
    ∙ climbs-is t s r

pub returns-then-guard-guard_next : goal.returns-then-guard-guard_next
returns-then-guard-guard_next c s = let args = c.args in
    let action-at = c.action_at-action in
    let action-at2 = c.action_at-action_next in
    let if1 = c.if-action-action_next in
    let guard-at = c.guard_at-guard in
    let guard-at2 = c.guard_at-guard_next in
    let r = args.r in
    let t = args.t.now in
    ap₂ ltb guard-at.ensures guard-at2.ensures
    ∙ by-guard (action_at t r) (action_at t (r + 1)) (guard_at t r) (guard_at t (r + 1)) (resets_at t r) (resets_at t (r + 1)) (target_at t r)
    (target_at t (r + 1)) (sym action-at.ensures ∙ if1.false ∙ action-at2.ensures)
    (λ q. c.if-guard-guard_next.true (guard-at.ensures ∙ q ∙ sym guard-at2.ensures))
    ∙ climbs-is t s r

pub returns-then-resets-resets_next : goal.returns-then-resets-resets_next
returns-then-resets-resets_next c s = let args = c.args in
    let action-at = c.action_at-action in
    let action-at2 = c.action_at-action_next in
    let if1 = c.if-action-action_next in
    let guard-at = c.guard_at-guard in
    let guard-at2 = c.guard_at-guard_next in
    let if2 = c.if-guard-guard_next in
    let resets-at = c.resets_at-resets in
    let resets-at2 = c.resets_at-resets_next in
    let r = args.r in
    let t = args.t.now in
    ap₂ ltb resets-at.ensures resets-at2.ensures
    ∙ by-resets (action_at t r) (action_at t (r + 1)) (guard_at t r) (guard_at t (r + 1)) (resets_at t r) (resets_at t (r + 1)) (target_at t r)
    (target_at t (r + 1)) (sym action-at.ensures ∙ if1.false ∙ action-at2.ensures) (sym guard-at.ensures ∙ if2.false ∙ guard-at2.ensures)
    (λ q. c.if-resets-resets_next.true (resets-at.ensures ∙ q ∙ sym resets-at2.ensures))
    ∙ climbs-is t s r

pub returns : goal.returns
returns c s = let args = c.args in
    let action-at = c.action_at-action in
    let action-at2 = c.action_at-action_next in
    let if1 = c.if-action-action_next in
    let guard-at = c.guard_at-guard in
    let guard-at2 = c.guard_at-guard_next in
    let if2 = c.if-guard-guard_next in
    let resets-at = c.resets_at-resets in
    let resets-at2 = c.resets_at-resets_next in
    let if3 = c.if-resets-resets_next in
    let r = args.r in
    let t = args.t.now in
    ap₂ ltb c.target_at.ensures c.target_at-2.ensures
    ∙ by-target (action_at t r) (action_at t (r + 1)) (guard_at t r) (guard_at t (r + 1)) (resets_at t r) (resets_at t (r + 1)) (target_at t r)
    (target_at t (r + 1)) (sym action-at.ensures ∙ if1.false ∙ action-at2.ensures) (sym guard-at.ensures ∙ if2.false ∙ guard-at2.ensures)
    (sym resets-at.ensures ∙ if3.false ∙ resets-at2.ensures)
    ∙ climbs-is t s r
