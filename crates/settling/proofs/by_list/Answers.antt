-- `settling::by_list` meets its contract: the actions done, before what the rest of the list does, are what the list does.
use mathlib.Core.Path.{◌≡◌, refl, sym, ap, ◌∙◌, subst}
use mathlib.Core.Option.{some}
use mathlib.Core.List.{List, [], ◌∷◌}
use Prim.Native.Nat.{ℕ}
use native.Mathlib.Omega.{arith}
use borrow.Author.Rules.{rules}
use Rattle.std.specs.Prelude.{Err}
use Rattle.answer.specs.Told.{Answer, tell, told}
use Rattle.iosa.specs.Orders.{Settling}
use Rattle.settling.specs.Gives.{SettleAnswers}
use Rattle.settling.proofs.Reached.{reached-ready}
use Rattle.settling.proofs.Listed.{first, plays-on, stops, plays-all}
use Rattle.settling.proofs.by_list.Goals as goal

pub loop-i-init : goal.loop-i-init
loop-i-init c = first _ _ _ c.requires (search rules)

pub offered-requires : goal.offered-requires
offered-requires c = c.loop-i.invariant.reached.standing

pub returns-then-not-offered : goal.returns-then-not-offered
unfolding told
returns-then-not-offered c = let l = c.loop-i in
    let o = c.offered in
    let f : told c.not_enabled.result ≡ some (tell 23 (l.i ∷ [])) = ap told c.not_enabled.ensures in
    subst (λ (v : Answer (Settling (List ℕ))). SettleAnswers v c.args.x (Err c.not_enabled.result))
    (sym (stops _ _ _ c.requires.conforming c.requires.joinable _ _ _ l.invariant (search rules) _ refl
    (sym o.ensures ∙ c.if-not-offered.true)))
    f

pub move_all-m-requires : goal.move_all-m-requires
move_all-m-requires c = c.loop-i.invariant.reached.standing

pub loop-i-preserved : goal.loop-i-preserved
loop-i-preserved c = let l = c.loop-i in
    let m = c.move_all-m in
    let o = c.offered in
    plays-on _ _ _ c.requires.conforming c.requires.joinable _ _ _ l.invariant (search rules) _ refl
    (sym o.ensures ∙ c.if-not-offered.false)
    _ _ _ m.ensures.1 m.ensures.0 c.union-resets.ensures

pub ended-requires : goal.ended-requires
ended-requires c = reached-ready _ _ _ c.requires c.loop-i.invariant.reached

pub returns : goal.returns
returns c = let r = c.requires in
    plays-all _ _ _ r.conforming r.joinable _ _ _ c.loop-i.invariant (omega (arith, c.loop-i.invariant.within)) _ c.ended.ensures
