-- `marks::join_row` meets its contract.
use mathlib.Core.Path.{◌≡◌, refl, sym, ◌∙◌, ap}
use mathlib.Core.Bool.{Bool, true, false, ◌||◌, ◌&&◌}
use mathlib.Core.List.{[]}
use lib.ListN.{get_or, length-set}
use lib.Seq.{get_or-set_same, get_or-set_other}
use borrow.Author.Rules.{rules}
use Rattle.marks.specs.Marks.{mark_at}
use Rattle.marks.proofs.join_row.Goals as goal

without : (x y : Bool) → x ≡ (x || (false && y))
without true y = refl
without false y = refl

pub returns-then-on : goal.returns-then-on
returns-then-on c = let x = c.args in
    let m = x.m.now in
    let r = c.joined.result in
    let s = get_or-set_same m x.a r [] (search rules) in
    record {
      rows = length-set m x.a r ∙ search rules;
      here = λ b h. ap (λ l. get_or l b false) s ∙ c.joined.ensures b h;
      others = λ i n. get_or-set_other m x.a i r [] n;
    }

pub returns-else-on : goal.returns-else-on
returns-else-on c = let x = c.args in
    let m = x.m.now in
    record {
      rows = search rules;
      here = λ b h. without (mark_at m x.a b) (get_or x.via b false) ∙ ap (λ o. mark_at m x.a b || (o && get_or x.via b false)) (sym c.if-on.false);
      others = λ i n. refl;
    }
