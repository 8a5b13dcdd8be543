-- 12 in a state: the inputs that do not leave it, as a set; its lowest member is the place.
use mathlib.Core.Path.{◌≡◌, sym, ◌∙◌, ap}
use mathlib.Core.Bool.{◌&&◌, not}
use mathlib.Core.Option.{none, some}
use mathlib.Core.List.{List, [], ◌∷◌}
use Prim.Native.Nat.{ℕ, suc, ◌<◌}
use native.Mathlib.Decide.{ℕ_discrete}
use lib.Dec.{eqb}
use borrow.Author.Tests.{eq-eqb, ne_eqb}
use Rattle.laws.specs.Sets.{has, ◌∖◌, only}
use Rattle.laws.specs.Search.{seek, when, is_some, map_some}
use Rattle.laws.proofs.SetLaws.{has-without, in_without, in_one, one_in, none_in}
use Rattle.laws.proofs.SearchLaws.{none-seek}
use Rattle.laws.proofs.RangeLaws.{seek-ext, seek-map, some-map}
use Rattle.laws.proofs.TestLaws.{not_so}
use Rattle.laws.proofs.UnionLaws.{has-joined}
use Rattle.answer.specs.Limits.{max_actions}
use Rattle.answer.specs.Told.{tell}
use Rattle.sets.specs.Members.{lowest_of}
use Rattle.sets.proofs.MemberLaws.{lowest-found}
use Rattle.model.specs.Model.{inputs}
use Rattle.iosa.specs.Checks.{row_for, lacks_row}
use Rattle.iosa.proofs.Acceptance.Rows.{input-below}
use Rattle.layout.specs.Layout.{count_of, block_word, first_of, action_at}
use Rattle.layout.specs.Image.{Image, comp_of, row_in}
use Rattle.layout.proofs.Bridge.{row-for}
use Rattle.layout.proofs.RowsOfRange.{well-comp}
use Rattle.parts.specs.Faults.{lack_fault, actions_in}

has-only : (x a : ℕ) → has (only x) a ≡ eqb x a
has-only x a =
    elim (ℕ_discrete x a) [
      | yes e ↦ rw (eq-eqb x a e, ← e) (in_one x)
      | no e ↦ rw (ne_eqb x a e) (not_so (has (only x) a) (λ m. e (sym (one_in x a m))))
    ]

module _ (t : List ℕ) (im : Image t) (i : ℕ) (h : i < count_of t) (s : ℕ) (b : s < block_word t i 0) where
  has-actions : (a : ℕ) → has (actions_in t i s) a ≡ is_some (row_for (comp_of t i) s a)
  unfolding actions_in
  has-actions a =
      has-joined (λ r. only (action_at t r)) a (first_of t i s) (first_of t i (suc s))
      ∙ ap is_some (seek-ext (λ r. when (has (only (action_at t r)) a) r) (λ r. when (eqb (action_at t r) a) r) (first_of t i s) (first_of t i (suc s))
      (λ r p q. ap (λ v. when v r) (has-only (action_at t r) a)))
      ∙ sym (some-map (row_in t s) (seek (λ r. when (eqb (action_at t r) a) r) (first_of t i s) (first_of t i (suc s))))
      ∙ ap is_some (sym (row-for t i s b a))

  abbrev lacking : ℕ
  lacking = inputs (comp_of t i) ∖ actions_in t i s

  lacks-is : (a : ℕ) → lacks_row (comp_of t i) s a ≡ has lacking a
  unfolding lacks_row
  lacks-is a = ap (λ v. has (inputs (comp_of t i)) a && not v) (sym (has-actions a)) ∙ sym (has-without (inputs (comp_of t i)) (actions_in t i s) a)

  pub none-lacking : lacking ≡ 0 → lack_fault t i s ≡ none
  unfolding lack_fault
  none-lacking z =
      none-seek (λ a. when (lacks_row (comp_of t i) s a) (tell 12 (i ∷ s ∷ a ∷ []))) 0 max_actions
      (λ a p q. ap (λ v. when v (tell 12 (i ∷ s ∷ a ∷ []))) (lacks-is a ∙ ap (λ n. has n a) z ∙ not_so (has 0 a) (none_in a)))

  pub lowest-lacking : (lacking ≡ 0 → ⊥) → lack_fault t i s ≡ some (tell 12 (i ∷ s ∷ lowest_of lacking ∷ []))
  unfolding lack_fault
  lowest-lacking ne =
      seek-ext (λ a. when (lacks_row (comp_of t i) s a) (tell 12 (i ∷ s ∷ a ∷ []))) (λ a. when (has lacking a) (tell 12 (i ∷ s ∷ a ∷ []))) 0 max_actions
      (λ a p q. ap (λ v. when v (tell 12 (i ∷ s ∷ a ∷ []))) (lacks-is a))
      ∙ seek-map (has lacking) (λ a. tell 12 (i ∷ s ∷ a ∷ [])) 0 max_actions
      ∙ ap (map_some (λ a. tell 12 (i ∷ s ∷ a ∷ [])))
      (lowest-found lacking (λ x m. input-below (comp_of t i) (well-comp t im i h) x (in_without (inputs (comp_of t i)) (actions_in t i s) x m).0) ne)
