-- `elements::move_of` meets its contract: one arm for each sort.
use mathlib.Core.Path.{sym, ◌∙◌, ap}
use Prim.Native.Nat.{◌/◌, ◌%◌}
use Rattle.laws.specs.Search.{map_some}
use Rattle.trees.specs.Modules.{plain_move, gate_role, pand_role, count_move, pand_move, bound}
use Rattle.treecheck.specs.Numbers.{ins_in}
use Rattle.treelines.specs.Elements.{sort_is}
use Rattle.elements.specs.Parts.{meaning_at, element_of, be_move_by, box_move_by, move_for}
use Rattle.elements.proofs.PartLaws.{meant, gate-is, pand-is, and-two, or-two, pand-two}
use Rattle.elements.proofs.move_of.Goals as goal

pub returns-in-Be : goal.returns-in-Be
returns-in-Be c = let a = c.args in
    let e = a.e in
    let w = meant a.w c.signal_of-signal.result c.signal_of-signal.ensures in
    c.be_part.ensures ∙ ap (be_move_by e.number a.k a.s) w ∙ ap (λ z. move_for (sort_is z) (element_of e) a.k a.s (meaning_at a.w))
    (sym c.in-Be.is)

pub returns-in-And : goal.returns-in-And
returns-in-And c = let a = c.args in
    let e = a.e in
    let w = meant a.w c.signal_of-signal.result c.signal_of-signal.ensures in
    c.count_move.ensures ∙ ap (λ o. bound o (λ y. map_some plain_move (count_move 2 (a.s / 6) (a.s / 3 % 2) (a.s % 3) y)))
    (c.gate_role-gate.ensures ∙ gate-is e (and-two e c.requires.0 c.in-And.is) _
    ∙ ap (gate_role (element_of e)) w) ∙ ap (λ z. move_for (sort_is z) (element_of e) a.k a.s (meaning_at a.w))
    (sym c.in-And.is)

pub returns-in-Or : goal.returns-in-Or
returns-in-Or c = let a = c.args in
    let e = a.e in
    let w = meant a.w c.signal_of-signal.result c.signal_of-signal.ensures in
    c.count_move-in-Or.ensures ∙ ap (λ o. bound o (λ y. map_some plain_move (count_move 1 (a.s / 6) (a.s / 3 % 2) (a.s % 3) y)))
    (c.gate_role-gate.ensures ∙ gate-is e (or-two e c.requires.0 c.in-Or.is) _
    ∙ ap (gate_role (element_of e)) w) ∙ ap (λ z. move_for (sort_is z) (element_of e) a.k a.s (meaning_at a.w))
    (sym c.in-Or.is)

pub returns-in-Pand : goal.returns-in-Pand
returns-in-Pand c = let a = c.args in
    let e = a.e in
    let w = meant a.w c.signal_of-signal.result c.signal_of-signal.ensures in
    c.pand_move.ensures ∙ ap (λ o. bound o (λ y. map_some plain_move (pand_move (a.s / 10) (a.s / 5 % 2) (a.s % 5) y)))
    (c.pand_role-pand.ensures ∙ pand-is e (pand-two e c.requires.0 c.in-Pand.is) _ ∙ ap (pand_role (element_of e)) w)
    ∙ ap (λ z. move_for (sort_is z) (element_of e) a.k a.s (meaning_at a.w)) (sym c.in-Pand.is)

pub returns-in-Rbox : goal.returns-in-Rbox
returns-in-Rbox c = let a = c.args in
    let e = a.e in
    let w = meant a.w c.signal_of-signal.result c.signal_of-signal.ensures in
    c.box_part.ensures ∙ ap (box_move_by (ins_in e.inputs) a.s) w ∙ ap (λ z. move_for (sort_is z) (element_of e) a.k a.s (meaning_at a.w))
    (sym c.in-Rbox.is)
