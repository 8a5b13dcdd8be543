-- `ticks::has_rival` meets its contract: whatever is a rival is left.
use mathlib.Core.Path.{◌≡◌, sym, ap, ◌∙◌}
use mathlib.Core.Bool.{Bool}
use mathlib.Core.List.{List}
use Prim.Native.Nat.{ℕ}
use native.Mathlib.Omega.{arith}
use lib.IntN.{ℤ}
use mir.Val.{SFits, to_z, of_z}
use mir.ValLaws.{to_z-of_z}
use mir.Syntax.{w64}
use Rattle.laws.specs.Sets.{has}
use Rattle.laws.specs.Search.{is_some, any}
use Rattle.laws.proofs.TestLaws.{and-true}
use Rattle.answer.specs.Limits.{max_clocks}
use Rattle.iosa.specs.TimedExactly.{value_of}
use Rattle.members.proofs.Walk.{Front, Rest, front, rest, awaits-here, awaits-next, awaits-none}
use Rattle.ticks.specs.Ticks.{rivals, by_value}
use Rattle.ticks.proofs.ByValue.{told}
use Rattle.ticks.proofs.has_rival.Goals as goal
use Rattle.ticks.proofs.has_rival.Goals.{After-lowest-k, After-minus-left}

-- the test, with clock x's value as a machine's word holds it
abbrev word : ℕ → ℕ → List ℤ → ℕ → ℤ → Bool
word e x vs = rivals e x (to_z w64 (of_z w64 (value_of vs x)))

word_back : (e x : ℕ) (vs : List ℤ) → SFits w64 (value_of vs x)
    → any (by_value (word e x vs) vs) max_clocks ≡ any (by_value (rivals e x (value_of vs x)) vs) max_clocks
word_back e x vs f = ap (λ v. any (by_value (rivals e x v) vs) max_clocks) (to_z-of_z w64 (value_of vs x) f)

first : (c : After-lowest-k) → Front c.loop-left.left c.lowest-k.result
first c = front _ c.loop-left.invariant.0 c.loop-left-test.true _ c.lowest-k.ensures

without : (c : After-minus-left)
    → Rest c.loop-left.left c.lowest-k.result c.minus-left.result
without c =
    rest _ c.loop-left.invariant.0 c.loop-left-test.true _ c.lowest-k.ensures _ _ c.single.ensures c.minus-left.ensures

pub loop-left-init : goal.loop-left-init
unfolding rivals
loop-left-init c = (c.ranges.e.fits, record { among = λ y h t. (and-true (has c.args.e y) _ t).0 })

pub offset_bounds-values-k : goal.offset_bounds-values-k
offset_bounds-values-k c = omega (arith, (first c).below)

pub bounds-values-k : goal.bounds-values-k
bounds-values-k c = omega (arith, (first c).below, c.requires.0)

pub is_rival-requires : goal.is_rival-requires
is_rival-requires c = (first (goal.at.is_rival-requires c).After-lowest-k).below

pub returns-then-is_rival : goal.returns-then-is_rival
returns-then-is_rival c = let vs = c.args.values.now in
    let f = word c.args.e c.args.x vs in
    ap is_some (sym (awaits-here (by_value f vs) _ c.loop-left.invariant.1 _ (first (goal.at.returns-then-is_rival c).After-lowest-k)
    (told f vs _ (first (goal.at.returns-then-is_rival c).After-lowest-k).below (record { sfits = c.z-1.given }) _ c.is_rival.ensures ∙ c.if-is_rival.true)))
    ∙ word_back c.args.e c.args.x vs (record { sfits = c.v-1.given })

pub single-requires : goal.single-requires
single-requires c = (first (goal.at.single-requires c).After-lowest-k).below

pub loop-left-smaller : goal.loop-left-smaller
loop-left-smaller c = (without c).less

pub loop-left-preserved : goal.loop-left-preserved
loop-left-preserved c = let vs = c.args.values.now in
    let f = word c.args.e c.args.x vs in (
      (without c).fits,
      awaits-next (by_value f vs) _ c.loop-left.invariant.1 _ _ (without c)
          (told f vs _ (first (goal.at.loop-left-preserved c).After-lowest-k).below (record { sfits = c.z-1.given }) _ c.is_rival.ensures ∙ c.if-is_rival.false),
    )

pub returns : goal.returns
returns c = let vs = c.args.values.now in
    ap is_some (sym (awaits-none (by_value (word c.args.e c.args.x vs) vs) _ c.loop-left.invariant.1 c.loop-left-test.false))
    ∙ word_back c.args.e c.args.x vs (record { sfits = c.v-1.given })
