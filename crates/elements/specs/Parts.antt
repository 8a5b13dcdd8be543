-- The word of an action (8 times its element's number, and its signal's), an element as the code has it, and its module by what an action means.
use Rattle.std.proofs.Math.Option.{Option, none, some}
use Rattle.std.specs.Prelude.{Bool, true, false, cond, List, ℕ, suc, ◌+◌, ◌*◌, ◌/◌, ◌%◌, ◌^◌, ◌≤◌, length, eqb}
use Rattle.laws.specs.Search.{when, map_some}
use Rattle.answer.specs.Limits.{max_inputs}
use Rattle.model.specs.Text.{Kind}
use Rattle.trees.specs.Module.{Move}
use Rattle.trees.specs.Tree.{Sort, be-sort, and-sort, or-sort, pand-sort, rbox-sort, Element as TheElement, Signal, fl, up, f, u, r, Meaning}
use Rattle.trees.specs.TreeText.{fewest, at_most_more}
use Rattle.trees.specs.Modules.{plain_move, be_kind, be_move, be_role, gate_kind, gate_role, pand_role, count_move, pand_move, BoxRole, box_kind, box_move, box_hears, place_of, box_role, bound}
use Rattle.treelines.specs.declared.Element.{Element}
use Rattle.treelines.specs.Elements.{sort_is}
use Rattle.treecheck.specs.Numbers.{ins_in}

-- ---- words
unfoldable pub signal_no : ℕ → Signal
signal_no n = cond (eqb n 0) fl (cond (eqb n 1) up (cond (eqb n 2) f (cond (eqb n 3) u r)))

abbrev pub meaning_at : ℕ → Meaning
meaning_at w = record { of = w / 8; signal = signal_no (w % 8) }

-- ---- elements
abbrev pub element_of : Element → TheElement
element_of e = record { sort = sort_is e.sort; number = e.number; ins = ins_in e.inputs }

-- as many inputs as the line may have
pub record Fit (e : Element) : Type 0 where
  pub few : e.inputs.count ≤ max_inputs
  pub enough : fewest (sort_is e.sort) ≤ e.inputs.count
  pub no_more : e.inputs.count ≤ fewest (sort_is e.sort) + at_most_more (sort_is e.sort)

-- ---- the module of an element by what an action means: `states`, `kind` and `move` of module_for
abbrev pub states_for : Sort → List ℕ → ℕ
states_for be-sort xs = 9
states_for and-sort xs = 12
states_for or-sort xs = 12
states_for pand-sort xs = 20
states_for rbox-sort xs = 2 ^ suc (length xs)

abbrev pub states_by : TheElement → ℕ
states_by e = states_for e.sort e.ins

unfoldable pub be_move_by : ℕ → ℕ → ℕ → Meaning → Option Move
be_move_by v k s x = bound (when (eqb x.of v) x.signal) (be_move k (s / 3) (s % 3))

unfoldable pub be_kind_by : ℕ → Meaning → Option Kind
be_kind_by v x = map_some be_kind (when (eqb x.of v) x.signal)

unfoldable pub box_role_by : List ℕ → Meaning → Option BoxRole
box_role_by xs x = elim (place_of x.of xs) [ none ↦ none | some i ↦ box_hears x.signal i ]

unfoldable pub box_move_by : List ℕ → ℕ → Meaning → Option Move
box_move_by xs s x = bound (box_role_by xs x) (λ y. map_some plain_move (box_move (length xs) s y))

unfoldable pub box_kind_by : List ℕ → Meaning → Option Kind
box_kind_by xs x = map_some box_kind (box_role_by xs x)

abbrev pub move_for : Sort → TheElement → ℕ → ℕ → Meaning → Option Move
move_for be-sort e k s x = be_move_by e.number k s x
move_for and-sort e k s x = bound (gate_role e x) (λ y. map_some plain_move (count_move 2 (s / 6) (s / 3 % 2) (s % 3) y))
move_for or-sort e k s x = bound (gate_role e x) (λ y. map_some plain_move (count_move 1 (s / 6) (s / 3 % 2) (s % 3) y))
move_for pand-sort e k s x = bound (pand_role e x) (λ y. map_some plain_move (pand_move (s / 10) (s / 5 % 2) (s % 5) y))
move_for rbox-sort e k s x = box_move_by e.ins s x

abbrev pub kind_for : Sort → TheElement → Meaning → Option Kind
kind_for be-sort e x = be_kind_by e.number x
kind_for and-sort e x = map_some gate_kind (gate_role e x)
kind_for or-sort e x = map_some gate_kind (gate_role e x)
kind_for pand-sort e x = map_some gate_kind (pand_role e x)
kind_for rbox-sort e x = box_kind_by e.ins x

abbrev pub move_by : TheElement → ℕ → ℕ → Meaning → Option Move
move_by e k s x = move_for e.sort e k s x

abbrev pub kind_by : TheElement → Meaning → Option Kind
kind_by e x = kind_for e.sort e x
