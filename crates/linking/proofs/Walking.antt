-- The rows of a component are walked state by state, and those of a system component by component.
use mathlib.Core.Path.{◌≡◌, refl, sym, ◌∙◌, ap}
use mathlib.Core.Bool.{Bool, true, false, not, cond}
use mathlib.Core.List.{List}
use Prim.Native.Nat.{ℕ, suc, ◌+◌, ◌≤◌, ◌<◌}
use native.Mathlib.Omega.{arith}
use lib.ListN.{length, get_or, replicate}
use lib.Seq.{ext_get_or}
use lib.Bits.{and_zero_l, or_zero_r}
use lib.Dec.{eqb}
use Rattle.laws.specs.Sets.{has, only, ◌∪◌, ◌∩◌}
use Rattle.laws.specs.Fold.{over, tab}
use Rattle.laws.proofs.RangeLaws.{over-ext, over-still}
use Rattle.laws.proofs.FoldLaws.{over-next, over-end, tab-length}
use Rattle.laws.proofs.UnionLaws.{over-keeps}
use Rattle.members.proofs.Walk.{none_left}
use Rattle.answer.specs.Limits.{max_actions}
use Rattle.model.specs.Model.{Comp, comp_at}
use Rattle.iosa.specs.Checks.{reach_of}
use Rattle.layout.specs.Layout.{count_of, block_word, first_of}
use Rattle.layout.specs.Image.{Image, comp_of, row_in, model_of}
use Rattle.layout.proofs.ModelOf.{comp-at}
use Rattle.layout.proofs.WalkByStates.{over-rows}
use Rattle.reach.specs.Marks.{Marked}
use Rattle.reach.proofs.Marking.{mark-zero}
use Rattle.triggering.specs.Test.{nothing, sharing, spread_by}
use Rattle.triggering.proofs.Tables.{tab-here}
use Rattle.leads.specs.declared.Kind.{Kind}
use Rattle.leads.specs.Learning.{to_of, new_of, learn_row, learn_state, learn_in}
use Rattle.leads.proofs.Standing.{crossed-length}

-- ---- a table keeps its length
pub state-length : (t : List ℕ) (i s : ℕ) (k : Kind) (T : List ℕ) → length T ≡ max_actions → length (learn_state t i s k T) ≡ max_actions
unfolding learn_state
state-length t i s k T h = over-keeps (λ r. learn_row k (comp_of t i) (row_in t s r)) (λ T. length T ≡ max_actions) (first_of t i s) (first_of t i (suc s)) T
    (λ r U a b l. crossed-length (to_of k (comp_of t i) (row_in t s r)) (new_of k (comp_of t i) (row_in t s r)) U) h

pub comp-length : (k : Kind) (c : Comp) (T : List ℕ) → length T ≡ max_actions → length (learn_in k c T) ≡ max_actions
unfolding learn_in
comp-length k c T h = over-keeps _ (λ T. length T ≡ max_actions) 0 (length c.rows) T (λ r U a b l. crossed-length _ _ U) h

-- ---- state by state
pub learn-by-states : (t : List ℕ) → Image t → (i : ℕ) → i < count_of t → (k : Kind) (T : List ℕ)
    → over (λ s. learn_state t i s k) 0 (block_word t i 0) T ≡ learn_in k (comp_of t i) T
unfolding learn_state learn_in
learn-by-states t im i h k T = sym (over-rows t im i h (λ j r. learn_row k (comp_of t i) r) T)

-- ---- component by component
pub model-length : (t : List ℕ) → length (model_of t) ≡ count_of t
unfolding model_of
model-length t = tab-length (comp_of t) 0 (count_of t)

pub over-components : {A : Type 0} (t : List ℕ) (g : Comp → A → A) (x : A)
    → over (λ i. g (comp_of t i)) 0 (count_of t) x ≡ over (λ i. g (comp_at (model_of t) i)) 0 (length (model_of t)) x
over-components t g x = rw (model-length t)
    (over-ext (λ i. g (comp_of t i)) (λ i. g (comp_at (model_of t) i)) 0 (count_of t) x (λ i y a b. ap (λ c. g c y) (sym (comp-at t i b))))

-- ---- the mark of a state tells whether it counts
twice : (b : Bool) → not (not b) ≡ b
twice true = refl
twice false = refl

pub mark-counts : (t : List ℕ) (i : ℕ) (M : List ℕ) → Marked (comp_of t i) M → (s : ℕ) → s < block_word t i 0 → not (eqb (get_or M s 0) 0) ≡ reach_of (comp_of t i) s
unfolding comp_of
mark-counts t i M k s h = ap not (mark-zero (comp_of t i) M k s h) ∙ twice (reach_of (comp_of t i) s)

-- ---- tables to begin with
pub no-sets : replicate max_actions 0 ≡ nothing
unfolding nothing
no-sets = refl

-- each place passed has its own set
pub own-sets : (T : List ℕ) → length T ≡ max_actions → ((j : ℕ) → j < max_actions → get_or T j 0 ≡ only j) → T ≡ tab only 0 max_actions
own-sets T l h = ext_get_or 0 T (tab only 0 max_actions) (l ∙ sym (tab-length only 0 max_actions)) (λ j k.
    h j (omega (arith, l)) ∙ sym (tab-here only max_actions j (omega (arith, l))))

-- ---- nothing shared, and nothing to lead on
pub none-shared : (K : List ℕ) (a : ℕ) → get_or K a 0 ≡ 0 → 0 ≡ sharing K a
unfolding sharing
none-shared K a e = sym (over-still (λ d x. x ∪ cond (not (eqb (get_or K a 0 ∩ get_or K d 0) 0)) (only d) 0) 0 max_actions 0 (λ j y p q.
    ap (λ z. y ∪ cond (not (eqb z 0)) (only j) 0) (ap (λ z. z ∩ get_or K j 0) e ∙ and_zero_l (get_or K j 0)) ∙ or_zero_r y))

pub none-spread : (L : List ℕ) (x : ℕ) → x ≡ 0 → 0 ≡ spread_by L x
unfolding spread_by
none-spread L x e = sym (over-still (λ d y. y ∪ cond (has x d) (get_or L d 0) 0) 0 max_actions 0 (λ j y p q.
    ap (λ b. y ∪ cond b (get_or L j 0) 0) (none_left x j e) ∙ or_zero_r y))

-- ---- a loop, where what is left comes to x
module _ {A : Type 0} (f : ℕ → A → A) {x : A} (k hi : ℕ) (cur : A) (inv : over f k hi cur ≡ x) where
  pub fold_next : (v : A) → k < hi → v ≡ f k cur → over f (k + 1) hi v ≡ x
  fold_next v h e = ap (over f (k + 1) hi) e ∙ sym (over-next f k hi cur h) ∙ inv

  pub fold_end : hi ≤ k → cur ≡ x
  fold_end h = sym (over-end f k hi cur h) ∙ inv
