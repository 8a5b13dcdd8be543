-- `parts::check_component` meets its contract: each check in its turn, after those before it were fine.
use mathlib.Core.List.{List}
use mathlib.Core.Option.{Option}
use Prim.Native.Nat.{ℕ, ◌<◌}
use native.Mathlib.Omega.{arith}
use borrow.Author.Rules.{rules}
use borrow.Author.Tests.{tests}
use Rattle.laws.specs.Search.{seek, or_else}
use Rattle.answer.specs.Told.{Told, Checked}
use Rattle.iosa.specs.Checks.{fault_at}
use Rattle.layout.specs.Layout.{count_of, block_word, first_of}
use Rattle.layout.specs.Image.{Image, comp_of}
use Rattle.rows.proofs.Ready.{word-ready}
use Rattle.parts.specs.Faults.{Says, fault10, fault14, repeat_fault, lack_fault, twice_fault}
use Rattle.parts.proofs.Saying.{says-as, exit-first, fine-next}
use Rattle.parts.proofs.EachState.{first-fault}
use Rattle.parts.proofs.ByStates.{turn-by-states}
use Rattle.parts.proofs.check_component.Goals as goal
use Rattle.parts.proofs.check_component.Goals.{After-try_for_each, After-try_for_each-2, After-try_for_each-3}

-- ---- 10, then 11, 12 and 13 state by state, then 14: each before those behind it
abbrev guards : List ℕ → ℕ → Option Told
guards t i = fault10 (first_of t i 0) (comp_of t i)

abbrev by-states : (List ℕ → ℕ → ℕ → Option Told) → List ℕ → ℕ → Option Told
by-states fault t i = seek (fault t i) 0 (block_word t i 0)

abbrev active : List ℕ → ℕ → Option Told
active t i = fault14 i (comp_of t i)

abbrev from-single : List ℕ → ℕ → Option Told
from-single t i = or_else (by-states twice_fault t i) (active t i)

abbrev from-inputs : List ℕ → ℕ → Option Told
from-inputs t i = or_else (by-states lack_fault t i) (from-single t i)

abbrev from-clocks : List ℕ → ℕ → Option Told
from-clocks t i = or_else (by-states repeat_fault t i) (from-inputs t i)

-- ---- what is said of those checks in turn is said of all
all_left : (t : List ℕ) (i : ℕ) (h : Image t × (i < count_of t)) (r : Checked) → Says r (or_else (guards t i) (from-clocks t i))
    → Says r (fault_at i (first_of t i 0) (comp_of t i))
all_left t i h r e = says-as r _ _ (turn-by-states _ h.0 _ h.1) e

said-11 : (c : After-try_for_each) → Says c.try_for_each.result (by-states repeat_fault c.args.t.now c.args.i)
said-11 c =
    first-fault _ _ (repeat_fault c.args.t.now c.args.i) (block_word c.args.t.now c.args.i 0) (λ k r q l call. search (rules, tests)) _ _ _
    c.block_word-states.ensures c.try_for_each.ensures.ran

said-12 : (c : After-try_for_each-2) → Says c.try_for_each-2.result (by-states lack_fault c.args.t.now c.args.i)
said-12 c =
    first-fault _ _ (lack_fault c.args.t.now c.args.i) (block_word c.args.t.now c.args.i 0) (λ k r q l call. search (rules, tests)) _ _ _
    c.block_word-states.ensures c.try_for_each-2.ensures.ran

said-13 : (c : After-try_for_each-3) → Says c.try_for_each-3.result (by-states twice_fault c.args.t.now c.args.i)
said-13 c =
    first-fault _ _ (twice_fault c.args.t.now c.args.i) (block_word c.args.t.now c.args.i 0) (λ k r q l call. search (rules, tests)) _ _ _
    c.block_word-states.ensures c.try_for_each-3.ensures.ran

-- ---- each check after those before it were fine
pub block_word-states-requires : goal.block_word-states-requires
block_word-states-requires c = word-ready _ c.requires.0 _ c.requires.1 _ (omega arith)

pub returns-in_err-check_guards : goal.returns-in_err-check_guards
returns-in_err-check_guards c = let t = c.args.t.now in
    let i = c.args.i in
    all_left t i c.requires _ (exit-first _ _ c.from_residual.ensures.1 (guards t i) (from-clocks t i) c.in_err-check_guards.ensures)

pub returns-in_err-try_for_each : goal.returns-in_err-try_for_each
returns-in_err-try_for_each c = let t = c.args.t.now in
    let i = c.args.i in
    let at = goal.at.returns-in_err-try_for_each c in
    let here = rw c.in_err-try_for_each.was at (said-11 at.After-try_for_each) in
    let r = exit-first _ _ c.from_residual-in_err-try_for_each.ensures.1 (by-states repeat_fault t i) (from-inputs t i) here in
    all_left t i c.requires _ (fine-next _ _ (guards t i) (from-clocks t i) c.check_guards.ensures c.in_ok-check_guards.was r)

pub returns-in_err-try_for_each-2 : goal.returns-in_err-try_for_each-2
returns-in_err-try_for_each-2 c = let t = c.args.t.now in
    let i = c.args.i in
    let at = goal.at.returns-in_err-try_for_each-2 c in
    let here = rw c.in_err-try_for_each-2.was at (said-12 at.After-try_for_each-2) in
    let r = exit-first _ _ c.from_residual-in_err-try_for_each-2.ensures.1 (by-states lack_fault t i) (from-single t i) here in
    let r₂ = fine-next _ _ (by-states repeat_fault t i) (from-inputs t i) (said-11 at.After-try_for_each) c.in_ok-try_for_each.was r in
    all_left t i c.requires _ (fine-next _ _ (guards t i) (from-clocks t i) c.check_guards.ensures c.in_ok-check_guards.was r₂)

pub returns-in_err-try_for_each-3 : goal.returns-in_err-try_for_each-3
returns-in_err-try_for_each-3 c = let t = c.args.t.now in
    let i = c.args.i in
    let at = goal.at.returns-in_err-try_for_each-3 c in
    let here = rw c.in_err-try_for_each-3.was at (said-13 at.After-try_for_each-3) in
    let r = exit-first _ _ c.from_residual-in_err-try_for_each-3.ensures.1 (by-states twice_fault t i) (active t i) here in
    let r₃ = fine-next _ _ (by-states lack_fault t i) (from-single t i) (said-12 at.After-try_for_each-2) c.in_ok-try_for_each-2.was r in
    let r₂ = fine-next _ _ (by-states repeat_fault t i) (from-inputs t i) (said-11 at.After-try_for_each) c.in_ok-try_for_each.was r₃ in
    all_left t i c.requires _ (fine-next _ _ (guards t i) (from-clocks t i) c.check_guards.ensures c.in_ok-check_guards.was r₂)

pub returns : goal.returns
returns c = let t = c.args.t.now in
    let i = c.args.i in
    let at = goal.at.returns c in
    let r₄ = fine-next _ _ (by-states twice_fault t i) (active t i) (said-13 at.After-try_for_each-3) c.in_ok-try_for_each-3.was c.check_active.ensures in
    let r₃ = fine-next _ _ (by-states lack_fault t i) (from-single t i) (said-12 at.After-try_for_each-2) c.in_ok-try_for_each-2.was r₄ in
    let r₂ = fine-next _ _ (by-states repeat_fault t i) (from-inputs t i) (said-11 at.After-try_for_each) c.in_ok-try_for_each.was r₃ in
    all_left t i c.requires _ (fine-next _ _ (guards t i) (from-clocks t i) c.check_guards.ensures c.in_ok-check_guards.was r₂)
