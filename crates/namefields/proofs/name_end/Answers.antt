-- `namefields::name_end` meets its contract. The loop's invariant: the place behind the name is the same from here on.
use mathlib.Core.Path.{◌≡◌, refl, sym, ◌∙◌, ap}
use mathlib.Core.Bool.{false}
use Prim.Native.Nat.{◌<◌}
use native.Mathlib.Omega.{arith}
use lib.ListN.{length, drop}
use Rattle.namefields.specs.NameFields.{name_stops}
use Rattle.namefields.proofs.NameLaws.{inside, name-over, name-on}
use Rattle.namefields.proofs.name_end.Goals as goal
use Rattle.namefields.proofs.name_end.Goals.{In-loop-i}

goes : (c : In-loop-i) → name_stops (drop c.loop-i.i c.args.text.now) ≡ false
goes c = sym c.name_stops.ensures ∙ c.loop-i-test.true

below : (c : In-loop-i) → c.loop-i.i < length c.args.text.now
below c = inside c.args.text.now c.loop-i.i (goes c)

pub loop-i-init : goal.loop-i-init
loop-i-init c = refl

pub overflow_add-i : goal.overflow_add-i
overflow_add-i c = let h = below c in omega arith

pub loop-i-smaller : goal.loop-i-smaller
loop-i-smaller c = let h = below c in omega arith

pub loop-i-preserved : goal.loop-i-preserved
loop-i-preserved c = let t = c.args.text.now in
    let l = c.loop-i in
    omega (arith, l.invariant, ap length (name-on t l.i (goes c)))

pub returns : goal.returns
returns c = let t = c.args.text.now in
    let l = c.loop-i in
    let e = sym c.name_stops.ensures ∙ c.loop-i-test.false in
    omega (arith, l.invariant, ap length (name-over t l.i e))
