-- `elements::kind_of` meets its contract: one arm for each sort.
use mathlib.Core.Path.{sym, ◌∙◌, ap}
use Rattle.laws.specs.Search.{map_some}
use Rattle.trees.specs.Modules.{gate_kind, gate_role, pand_role}
use Rattle.treecheck.specs.Numbers.{ins_in}
use Rattle.treelines.specs.Elements.{sort_is}
use Rattle.elements.specs.Parts.{meaning_at, element_of, be_kind_by, box_kind_by, kind_for}
use Rattle.elements.proofs.PartLaws.{meant, gate-is, pand-is, and-two, or-two, pand-two}
use Rattle.elements.proofs.kind_of.Goals as goal

pub returns-in-Be : goal.returns-in-Be
returns-in-Be c = let a = c.args in
    let e = a.e in
    let w = meant a.w c.signal_of-signal.result c.signal_of-signal.ensures in
    c.be_kind_part.ensures ∙ ap (be_kind_by e.number) w ∙ ap (λ z. kind_for (sort_is z) (element_of e) (meaning_at a.w))
    (sym c.in-Be.is)

pub returns-in-And : goal.returns-in-And
returns-in-And c = let a = c.args in
    let e = a.e in
    let w = meant a.w c.signal_of-signal.result c.signal_of-signal.ensures in
    c.gate_kind.ensures ∙ ap (map_some gate_kind) (c.gate_role-gate.ensures
    ∙ gate-is e (and-two e c.requires c.in-And.is) _ ∙ ap (gate_role (element_of e)) w)
    ∙ ap (λ z. kind_for (sort_is z) (element_of e) (meaning_at a.w)) (sym c.in-And.is)

pub returns-in-Or : goal.returns-in-Or
returns-in-Or c = let a = c.args in
    let e = a.e in
    let w = meant a.w c.signal_of-signal.result c.signal_of-signal.ensures in
    c.gate_kind-in-Or.ensures ∙ ap (map_some gate_kind) (c.gate_role-gate.ensures
    ∙ gate-is e (or-two e c.requires c.in-Or.is) _ ∙ ap (gate_role (element_of e)) w)
    ∙ ap (λ z. kind_for (sort_is z) (element_of e) (meaning_at a.w)) (sym c.in-Or.is)

pub returns-in-Pand : goal.returns-in-Pand
returns-in-Pand c = let a = c.args in
    let e = a.e in
    let w = meant a.w c.signal_of-signal.result c.signal_of-signal.ensures in
    c.gate_kind-in-Pand.ensures ∙ ap (map_some gate_kind)
    (c.pand_role-pand.ensures ∙ pand-is e (pand-two e c.requires c.in-Pand.is) _ ∙ ap (pand_role (element_of e)) w)
    ∙ ap (λ z. kind_for (sort_is z) (element_of e) (meaning_at a.w)) (sym c.in-Pand.is)

pub returns-in-Rbox : goal.returns-in-Rbox
returns-in-Rbox c = let a = c.args in
    let e = a.e in
    let w = meant a.w c.signal_of-signal.result c.signal_of-signal.ensures in
    c.box_kind_part.ensures ∙ ap (box_kind_by (ins_in e.inputs)) w ∙ ap (λ z. kind_for (sort_is z) (element_of e) (meaning_at a.w))
    (sym c.in-Rbox.is)
