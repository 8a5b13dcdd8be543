-- `namefields::same_name` meets its contract. The loop's invariant: what is left of the two is the same exactly if the whole is.
use mathlib.Core.Path.{◌≡◌, refl, sym, ◌∙◌}
use mathlib.Core.Bool.{false}
use Prim.Native.Nat.{ℕ, ◌<◌}
use native.Mathlib.Omega.{arith}
use lib.ListN.{length, drop}
use mathlib.Core.List.{List}
use Rattle.namefields.specs.NameFields.{name_stops}
use Rattle.namefields.proofs.NameLaws.{inside, name-over, name-on, same_over, same-short, same-other, same-on}
use Rattle.namefields.proofs.same_name.Goals as goal
use Rattle.namefields.proofs.same_name.Goals.{Else-name_stops}

abbrev text : Else-name_stops → List ℕ
text c = c.args.text.now

abbrev one : Else-name_stops → ℕ
one c = c.loop-a.i

abbrev two : Else-name_stops → ℕ
two c = c.loop-a.j

first_goes : (c : Else-name_stops) → name_stops (drop (one c) (text c)) ≡ false
first_goes c = sym c.name_stops.ensures ∙ c.loop-a-test.true

second-goes : (c : Else-name_stops) → name_stops (drop (two c) (text c)) ≡ false
second-goes c = sym c.name_stops-in-loop-a.ensures ∙ c.if-name_stops.false

first_below : (c : Else-name_stops) → one c < length (text c)
first_below c = inside (text c) (one c) (first_goes c)

second_below : (c : Else-name_stops) → two c < length (text c)
second_below c = inside (text c) (two c) (second-goes c)

pub loop-a-init : goal.loop-a-init
loop-a-init c = refl

pub returns-then-name_stops : goal.returns-then-name_stops
returns-then-name_stops c = let t = c.args.text.now in
    let l = c.loop-a in
    let e = sym c.name_stops.ensures ∙ c.loop-a-test.true in
    let f = sym c.name_stops-in-loop-a.ensures ∙ c.if-name_stops.true in
    same-short _ _ _ _ (name-on t l.i e) (name-over t l.j f) ∙ l.invariant

pub bounds-text-i : goal.bounds-text-i
bounds-text-i c = first_below (goal.at.bounds-text-i c).Else-name_stops

pub bounds-text-j : goal.bounds-text-j
bounds-text-j c = second_below (goal.at.bounds-text-j c).Else-name_stops

pub returns-then-text-i : goal.returns-then-text-i
returns-then-text-i c = same-other _ _ _ _ _ _ (name-on (text (goal.at.returns-then-text-i c).Else-name_stops) (one (goal.at.returns-then-text-i c).Else-name_stops) (first_goes (goal.at.returns-then-text-i c).Else-name_stops)) (name-on (text (goal.at.returns-then-text-i c).Else-name_stops) (two (goal.at.returns-then-text-i c).Else-name_stops) (second-goes (goal.at.returns-then-text-i c).Else-name_stops)) c.if-text-i.true
    ∙ c.loop-a.invariant

pub overflow_add-i : goal.overflow_add-i
overflow_add-i c = let h = first_below (goal.at.overflow_add-i c).Else-name_stops in omega arith

pub overflow_add-j : goal.overflow_add-j
overflow_add-j c = let h = second_below (goal.at.overflow_add-j c).Else-name_stops in omega arith

pub loop-a-smaller : goal.loop-a-smaller
loop-a-smaller c = let h = first_below (goal.at.loop-a-smaller c).Else-name_stops in omega arith

pub loop-a-preserved : goal.loop-a-preserved
loop-a-preserved c = same-on _ _ _ _ _ _ (name-on (text (goal.at.loop-a-preserved c).Else-name_stops) (one (goal.at.loop-a-preserved c).Else-name_stops) (first_goes (goal.at.loop-a-preserved c).Else-name_stops)) (name-on (text (goal.at.loop-a-preserved c).Else-name_stops) (two (goal.at.loop-a-preserved c).Else-name_stops) (second-goes (goal.at.loop-a-preserved c).Else-name_stops)) c.if-text-i.false
    ∙ c.loop-a.invariant

pub returns : goal.returns
returns c = let t = c.args.text.now in
    let l = c.loop-a in
    let e = sym c.name_stops.ensures ∙ c.loop-a-test.false in
    let s = c.name_stops-2 in
    same_over _ _ s.result (name-over t l.i e) (λ h. name-over t l.j (sym s.ensures ∙ h))
    (λ h. (_, _, name-on t l.j (sym s.ensures ∙ h))) ∙ l.invariant
