-- Worked trees and stated answers: antt computes them.
use mathlib.Core.Path.{refl}
use Prim.Native.Nat.{ℕ}
use Rattle.laws.specs.Search.{seek, first_from}
use Rattle.model.specs.Model.{row_count}
use Rattle.model.specs.Text.{text_of, digits_of, decimal, joined, members, guard_field, set_field, fields_after, comp_line, act_line, clk_line, row_line}
use Rattle.model.specs.Text.{kind_of, act_part, clk_part, row_lines, comp_text}
use Rattle.model.specs.Reading.{exactly, number, more_digits, all_below, shorter}
use Rattle.trees.specs.Module.{those, rows_of, all_rows, comp_by}
use Rattle.trees.specs.Tree.{among, bes, boxed, meanings_from, meanings, at, meaning_of}
use Rattle.trees.specs.Modules.{be_role, gate_role, pand_role, box_role, place_of, be_module, clockless, count_module, pand_module, box_module}
use Rattle.trees.specs.Modules.{components_from, tree_model}
use Rattle.trees.specs.TreeText.{sort_scan, more_inputs, inputs, behind_word, element, out_of_range, fault_of, first_bad, behind_line, lines_from}
use Rattle.trees.specs.TreeText.{line_of, some_of, unknown_from, tree_of}
use Rattle.trees.specs.Conditions.{ins_of, box_at, be_at, edges_from, edges_of, by_way, closed_below, cyclic, top_at, count_from, not_one_top, repeats}
use Rattle.trees.specs.Conditions.{twice_in, box_in, box_of_other, shared, in_two_boxes, condition_of}
use Rattle.trees.specs.ReadTree.{fitting, read_tree_of}
use Rattle.trees.specs.WorkedTrees.{Written, w1, w2, w3, w4, w5, w6, w7, w8, w9}
use Rattle.trees.specs.TreeExamples.{Hold, tree_cases, limit_cases}

-- What is computed, in groups: to unfold one of these is to unfold what its line names.
texts₁ : ℕ
unfolding text_of digits_of decimal joined members guard_field set_field fields_after
texts₁ = 0

texts₂ : ℕ
unfolding comp_line act_line clk_line row_line kind_of act_part clk_part row_lines comp_text
texts₂ = 0

trees_of : ℕ
unfolding those rows_of all_rows comp_by among boxed meanings_from meanings at meaning_of bes row_count
trees_of = 0

modules_of : ℕ
unfolding be_role gate_role pand_role box_role place_of be_module clockless count_module pand_module box_module components_from tree_model
modules_of = 0

reading_of : ℕ
unfolding all_below exactly more_digits number shorter seek first_from fitting read_tree_of
reading_of = 0

lines_of : ℕ
unfolding behind_line behind_word element fault_of first_bad inputs line_of lines_from more_inputs out_of_range some_of sort_scan tree_of unknown_from
lines_of = 0

conditions₁ : ℕ
unfolding be_at box_at box_in box_of_other by_way closed_below condition_of count_from cyclic
conditions₁ = 0

conditions₂ : ℕ
unfolding edges_from edges_of in_two_boxes ins_of not_one_top repeats shared top_at twice_in
conditions₂ = 0

everything : ℕ
unfolding texts₁ texts₂ trees_of modules_of reading_of lines_of conditions₁ conditions₂
everything = 0

pub w1-written : Written w1
unfolding everything w1
w1-written = refl

pub w2-written : Written w2
unfolding everything w2
w2-written = refl

pub w3-written : Written w3
unfolding everything w3
w3-written = refl

pub w4-written : Written w4
unfolding everything w4
w4-written = refl

pub w5-written : Written w5
unfolding everything w5
w5-written = refl

pub w6-written : Written w6
unfolding everything w6
w6-written = refl

pub w7-written : Written w7
unfolding everything w7
w7-written = refl

pub w8-written : Written w8
unfolding everything w8
w8-written = refl

pub w9-written : Written w9
unfolding everything w9
w9-written = refl

pub tree-examples-hold : Hold tree_cases
unfolding everything tree_cases
tree-examples-hold = refl

pub limit-examples-hold : Hold limit_cases
unfolding everything limit_cases
limit-examples-hold = refl
