-- `planting::put_firsts`: the starts of the states, counted state by state.
use Prim.Native.Nat.{◌+◌, ◌-◌, ◌≤◌}
use mathlib.Core.Path.{◌≡◌, refl, sym, ◌∙◌, ap}
use native.Mathlib.Omega.{arith}
use lib.ListN.{length, set, length-set}
use Rattle.answer.specs.Limits.{max_elements}
use Rattle.elements.specs.Parts.{element_of}
use Rattle.treerows.proofs.RowLaws.{states-low}
use Rattle.fill.proofs.FillLaws.{fill_start, fill_on, fill_end}
use Rattle.planting.specs.Planted.{start_of}
use Rattle.planting.proofs.FirstWords.{start_first, start-end, start-low, state-next, firsts-written}
use Rattle.planting.proofs.put_firsts.Goals as goal

pub states_of-states-requires : goal.states_of-states-requires
states_of-states-requires c = c.requires.2

pub loop-s-init : goal.loop-s-init
loop-s-init c = let a = c.args in (
  refl,
  sym (start_first a.base a.words.now a.count (element_of a.e) a.k),
  omega arith,
  fill_start (start_of c.args.base c.args.words.now c.args.count (element_of c.args.e) c.args.k) a.at c.states_of-states.result a.into.now,
)

pub overflow_add-into : goal.overflow_add-into
overflow_add-into c =
    let states-fit : c.states_of-states.result ≤ max_elements = omega (arith, c.states_of-states.ensures, states-low c.args.e c.requires.2) in
    let p = c.requires in omega (arith, c.loop-s-test.true, states-fit, p.5)

pub offset_bounds-into-at : goal.offset_bounds-into-at
offset_bounds-into-at c =
    let states-fit : c.states_of-states.result ≤ max_elements = omega (arith, c.states_of-states.ensures, states-low c.args.e c.requires.2) in
    let p = c.requires in omega (arith, c.loop-s-test.true, states-fit, p.5)

pub bounds-into-at : goal.bounds-into-at
bounds-into-at c =
    let states-fit : c.states_of-states.result ≤ max_elements = omega (arith, c.states_of-states.ensures, states-low c.args.e c.requires.2) in
    let p = c.requires in
    omega (arith, c.loop-s-test.true, states-fit, p.4, p.5, c.loop-s.invariant.0)

pub emit_state-m-requires : goal.emit_state-m-requires
emit_state-m-requires c =
    let states-fit : c.states_of-states.result ≤ max_elements = omega (arith, c.states_of-states.ensures, states-low c.args.e c.requires.2) in
    let l = c.loop-s in
    let a = c.args in
    let p = c.requires in
    let h = c.loop-s-test.true in
    let f = states-fit in
    let few = p.1 in
    let low =
    start-low a.base a.words.now a.count (element_of a.e) a.k l.s l.n c.states_of-states.result l.invariant.1 l.invariant.2
    c.states_of-states.ensures p.6 in (
      p.0,
      few,
      omega arith,
      p.2,
      p.3,
      omega (arith, h, f),
      record { rows = omega (arith, low, few); bytes = omega (arith, few); long = λ z. absurd (omega (arith, z)) },
    )

pub loop-s-preserved : goal.loop-s-preserved
loop-s-preserved c = let l = c.loop-s in
    let a = c.args in
    let h = c.loop-s-test.true in
    let n =
    state-next a.base a.words.now a.count (element_of a.e) a.k l.s l.n (set l.into (a.at + l.s) l.n) _
    c.emit_state-m.result l.invariant.1
    c.emit_state-m.ensures in (
      ap length n.0 ∙ simp length-set l.invariant.0,
      n.1,
      omega (arith, h),
      fill_on (start_of c.args.base c.args.words.now c.args.count (element_of c.args.e) c.args.k) a.at c.states_of-states.result l.s l.into _ _ h l.invariant.3 (n.0 ∙ ap (set l.into (a.at + l.s)) l.invariant.1),
    )

pub overflow_add-into-2 : goal.overflow_add-into-2
overflow_add-into-2 c =
    let states-fit : c.states_of-states.result ≤ max_elements = omega (arith, c.states_of-states.ensures, states-low c.args.e c.requires.2) in
    let p = c.requires in omega (arith, states-fit, p.5)

pub offset_bounds-into-at-2 : goal.offset_bounds-into-at-2
offset_bounds-into-at-2 c =
    let states-fit : c.states_of-states.result ≤ max_elements = omega (arith, c.states_of-states.ensures, states-low c.args.e c.requires.2) in
    let p = c.requires in omega (arith, states-fit, p.5)

pub bounds-into-at-2 : goal.bounds-into-at-2
bounds-into-at-2 c =
    let states-fit : c.states_of-states.result ≤ max_elements = omega (arith, c.states_of-states.ensures, states-low c.args.e c.requires.2) in
    let p = c.requires in omega (arith, states-fit, p.4, p.5, c.loop-s.invariant.0)

pub overflow_add-at : goal.overflow_add-at
overflow_add-at c =
    let states-fit : c.states_of-states.result ≤ max_elements = omega (arith, c.states_of-states.ensures, states-low c.args.e c.requires.2) in
    let p = c.requires in omega (arith, states-fit, p.5)

pub overflow_add-at-2 : goal.overflow_add-at-2
overflow_add-at-2 c =
    let states-fit : c.states_of-states.result ≤ max_elements = omega (arith, c.states_of-states.ensures, states-low c.args.e c.requires.2) in
    let p = c.requires in omega (arith, states-fit, p.5)

pub overflow_sub-states : goal.overflow_sub-states
overflow_sub-states c =
    let states-fit : c.states_of-states.result ≤ max_elements = omega (arith, c.states_of-states.ensures, states-low c.args.e c.requires.2) in
    omega (arith, states-fit)

pub zero_words-requires : goal.zero_words-requires
zero_words-requires c =
    let states-fit : c.states_of-states.result ≤ max_elements = omega (arith, c.states_of-states.ensures, states-low c.args.e c.requires.2) in
    let p = c.requires in
    (simp length-set (omega (arith, states-fit, p.4, p.5, c.loop-s.invariant.0)), omega (arith, states-fit, p.5))

pub returns : goal.returns
returns c =
    let states-fit : c.states_of-states.result ≤ max_elements = omega (arith, c.states_of-states.ensures, states-low c.args.e c.requires.2) in
    let l = c.loop-s in
    let a = c.args in
    let n = c.states_of-states.result in
    let e = c.states_of-states.ensures in
    let left = c.loop-s-test.false in
    let f = states-fit in
    let w : l.s ≡ n = omega (arith, left, l.invariant.2) in (
      firsts-written a.base a.words.now a.count (element_of a.e) a.k a.into.now l.into _ a.at n l.n e (omega (arith, f))
          (fill_end (start_of c.args.base c.args.words.now c.args.count (element_of c.args.e) c.args.k) a.at n l.s l.into _ left l.invariant.3) (l.invariant.1 ∙ ap (start_of c.args.base c.args.words.now c.args.count (element_of c.args.e) c.args.k) w) c.zero_words.ensures,
      l.invariant.1 ∙ start-end a.base a.words.now a.count (element_of a.e) a.k l.s (w ∙ e),
    )
