-- `naming::put_names` meets its contract. The loop's invariant: the `name` lines of the actions below a are put.
use mathlib.Core.Path.{◌≡◌, refl, sym, ◌∙◌, ap}
use mathlib.Core.List.{List, ◌++◌}
use Prim.Native.Nat.{ℕ, suc, ◌+◌, ◌≤◌}
use native.Mathlib.Numerals.{add-one}
use native.Mathlib.Omega.{arith}
use lib.ListN.{length, length-append}
use Rattle.answer.specs.Limits.{max_actions}
use Rattle.print.specs.Put.{Room, Put}
use Rattle.print.proofs.LaidLaws.{left-all, left_as, left-next, left-last, put_as, put-length, nothing_put}
use Rattle.naminglaws.specs.Naming.{name_part}
use Rattle.naminglaws.proofs.SheetLaws.{sheet-none, sheet-next, sheet-more}
use Rattle.naming.proofs.put_names.Invariants.{below, Going}
use Rattle.naming.proofs.put_names.Goals as goal

put_then : {old : List ℕ} {at : ℕ} {x mid : List ℕ} {n : ℕ} {y new : List ℕ} {m : ℕ}
    → Put old at x mid n → Put mid n y new m → Room old at (x ++ y) → Put old at (x ++ y) new m
put_then {old} {at} {x} {y = y} p q h = left-last (left-next (left_as (left-all old at (x ++ y) h) x y refl) p) q

module _ {old : List ℕ} {to set : ℕ} {out : List ℕ} {a next : ℕ} (g : Going old to set out a next) where
  long : length out ≡ length old
  long = put-length g.put (omega (arith, g.room, sheet-more set a max_actions g.most))

  all_room : suc a ≤ max_actions → Room old to (below set a ++ name_part set a)
  all_room h = omega (arith, g.room, sheet-more set (suc a) max_actions h, ap length (sheet-next set a))

  next-room : suc a ≤ max_actions → Room out next (name_part set a)
  next-room h = omega (arith, all_room h, long, g.put.place, length-append (below set a) (name_part set a))

  going_next : suc a ≤ max_actions → (new : List ℕ) (to' : ℕ) → Put out next (name_part set a) new to' → Going old to set new (a + 1) to'
  going_next h new to' p =
      record {
        most = omega arith;
        room = g.room;
        put = put_as (put_then g.put p (all_room h)) _ (sym (ap (below set) (add-one a) ∙ sheet-next set a));
      }

pub loop-a-init : goal.loop-a-init
loop-a-init c = record { most = omega arith; room = c.requires; put = put_as (nothing_put c.args.out.now c.args.to) _ (sym (sheet-none c.args.set)) }

pub put_name-next-requires : goal.put_name-next-requires
put_name-next-requires c = (c.loop-a-test.true, next-room c.loop-a.invariant c.loop-a-test.true)

pub loop-a-preserved : goal.loop-a-preserved
loop-a-preserved c = going_next c.loop-a.invariant c.loop-a-test.true _ _ c.put_name-next.ensures

pub returns : goal.returns
returns c = let g = c.loop-a.invariant in
    let e : c.loop-a.a ≡ max_actions = omega (arith, g.most, c.loop-a-test.false) in
    put_as g.put _ (ap (below c.args.set) e)
