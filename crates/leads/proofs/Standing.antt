-- What stands ready at a row of a state; the tests and sets of a row by what the code reads.
use mathlib.Core.Path.{◌≡◌, refl, sym, ◌∙◌, ap, ap₂}
use mathlib.Core.Logic.{by_cases}
use mathlib.Core.Bool.{false, cond, true≢false}
use mathlib.Core.List.{List}
use Prim.Native.Nat.{ℕ, suc, ◌^◌, ◌<◌}
use native.Mathlib.Decide.{ℕ_discrete}
use native.Mathlib.Omega.{arith}
use lib.ListN.{length, get_or, set, length-set}
use lib.Seq.{get_or-set_same, get_or-set_other, ext_get_or}
use lib.Bits.{or_zero_r}
use borrow.Author.Tests.{eq-eqb, ne_eqb}
use lib.Dec.{eqb}
use Rattle.laws.specs.Sets.{has, ◌∪◌, ◌∩◌, only, ◌∈◌}
use Rattle.laws.specs.Fold.{over}
use Rattle.laws.proofs.RangeLaws.{over-ext}
use Rattle.laws.proofs.FoldLaws.{tab-length}
use Rattle.answer.specs.Limits.{max_actions}
use Rattle.model.specs.Model.{Row}
use Rattle.layout.specs.Layout.{block_word, first_of, action_at}
use Rattle.layout.specs.Image.{comp_of, row_in}
use Rattle.layout.specs.Ranges.{RowRanges}
use Rattle.layout.proofs.ImageIsSane.{row-ranges}
use Rattle.layout.proofs.Bridge.{over-leaving}
use Rattle.sets.specs.Members.{word_bits}
use Rattle.members.proofs.Walk.{Front, Rest, none_left}
use Rattle.triggering.proofs.Tables.{tab-here}
use Rattle.triggering.specs.Test.{crossed, uouts_at}
use Rattle.leads.specs.declared.Spot.{Spot}
use Rattle.leads.specs.Learning.{AtRow}

-- ---- the urgent outputs of a state, joined row by row
module _ (t : List ℕ) (i s : ℕ) (b : s < block_word t i 0) where
  acting : Row → ℕ
  acting r = cond (eqb r.from s) (only r.action) 0

  pub uouts-are : uouts_at (comp_of t i) s ≡ block_word t i 5 ∩ over (λ r x. x ∪ only (action_at t r)) (first_of t i s) (first_of t i (suc s)) 0
  unfolding uouts_at acting comp_of
  uouts-are = ap (λ x. block_word t i 5 ∩ x) (
      over-leaving t i s b (λ r x. x ∪ acting r) 0 (λ r y ne. rw (ne_eqb r.from s ne) (or_zero_r y))
      ∙ over-ext (λ r y. y ∪ acting (row_in t s r)) (λ r y. y ∪ only (action_at t r)) (first_of t i s) (first_of t i (suc s)) 0 (λ r y lo hi. rw (eq-eqb s s refl)))

-- ---- a table crossed, place by place
pub crossed-length : (X Y : ℕ) (T : List ℕ) → length (crossed X Y T) ≡ max_actions
unfolding crossed
crossed-length X Y T = tab-length (λ a. get_or T a 0 ∪ cond (has X a) Y 0) 0 max_actions

pub row_here : {t : List ℕ} {x : Spot} {r : ℕ} → AtRow t x r → RowRanges t x.component r
row_here {t} {x} {r} h = row-ranges t h.state.image x.component x.state r h.state.inside h.state.below h.from h.to

-- ---- the places that are no longer left are crossed, and the others are as they were
pub record Crossing (X Y left : ℕ) (S T : List ℕ) : Type 0 where
  pub fits : left < 2 ^ word_bits
  pub within : (y : ℕ) → y ∈ left → y ∈ X
  pub long : length T ≡ max_actions
  pub waits : (y : ℕ) → y ∈ left → get_or T y 0 ≡ get_or S y 0
  pub done : (y : ℕ) → has left y ≡ false → get_or T y 0 ≡ get_or S y 0 ∪ cond (has X y) Y 0

pub crossing-first : (X Y : ℕ) (T : List ℕ) → X < 2 ^ word_bits → length T ≡ max_actions → Crossing X Y X T T
crossing-first X Y T f l = record {
  fits = f;
  within = λ y h. h;
  long = l;
  waits = λ y h. refl;
  done = λ y h. sym (ap (λ b. get_or T y 0 ∪ cond b Y 0) h ∙ or_zero_r (get_or T y 0));
}

pub crossing-next : {X Y left : ℕ} {S T : List ℕ} → Crossing X Y left S T → (x t v : ℕ) → Front left x
    → Rest left x t → v ≡ get_or T x 0 ∪ Y → Crossing X Y t S (set T x v)
crossing-next {X} {Y} {left} {S} {T} k x t v i r e = record {
  fits = r.fits;
  within = λ y h. k.within y (in_left y h);
  long = length-set T x v ∙ k.long;
  waits = λ y h. get_or-set_other T x y v 0 (λ q. true≢false (sym h ∙ ap (has t) q ∙ r.gone)) ∙ k.waits y (in_left y h);
  done = λ y h. by_cases (ℕ_discrete y x) here (λ n. get_or-set_other T x y v 0 n ∙ k.done y (sym (r.same y n) ∙ h));
}
  where
    in_left : (y : ℕ) → y ∈ t → y ∈ left
    in_left y h = sym (r.same y (λ q. true≢false (sym h ∙ ap (has t) q ∙ r.gone))) ∙ h

    here : {y : ℕ} → y ≡ x → get_or (set T x v) y 0 ≡ get_or S y 0 ∪ cond (has X y) Y 0
    here {y} q =
        ap (λ n. get_or (set T x v) n 0) q ∙ get_or-set_same T x v 0 (omega (arith, k.long, i.below)) ∙ e
        ∙ ap₂ (λ z b. z ∪ cond b Y 0) (k.waits x i.member) (sym (k.within x i.member))
        ∙ sym (ap (λ n. get_or S n 0 ∪ cond (has X n) Y 0) q)

pub crossing-all : {X Y left : ℕ} {S T : List ℕ} → left ≡ 0 → Crossing X Y left S T → T ≡ crossed X Y S
unfolding crossed
crossing-all {X} {Y} {left} {S} {T} z k =
    ext_get_or 0 T (crossed X Y S) (k.long ∙ sym (crossed-length X Y S)) (λ j l.
    k.done j (none_left left j z) ∙ sym (tab-here (λ a. get_or S a 0 ∪ cond (has X a) Y 0) max_actions j (omega (arith, k.long))))
