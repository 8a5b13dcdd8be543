-- The rows of a table filled, and the sets of its rows taken out, for the numbers of w.
use mathlib.Core.Path.{◌≡◌, refl, sym, ◌∙◌, ap}
use mathlib.Core.Logic.{by_cases}
use mathlib.Core.Bool.{Bool, false, true≢false}
use mathlib.Core.List.{List, []}
use Prim.Native.Nat.{ℕ, ◌^◌, ◌<◌}
use native.Mathlib.Decide.{ℕ_discrete}
use native.Mathlib.Omega.{arith}
use lib.ListN.{length, get_or, set, replicate, length-set, length-replicate, get_or-replicate}
use lib.Seq.{get_or-set_same, get_or-set_other}
use Rattle.laws.specs.Sets.{has, ◌∈◌}
use Rattle.sets.specs.Members.{word_bits}
use Rattle.members.proofs.Walk.{Front, Rest, none_left}
use Rattle.marks.specs.Marks.{rows_of_marks, RowOf}
use Rattle.marks.specs.Busy.{RowsOf, SetsOf}

-- ---- rows filled
pub record Filling (w : ℕ) (s : List ℕ) (left : ℕ) (m : List (List Bool)) : Type 0 where
  pub fits : left < 2 ^ word_bits
  pub within : (y : ℕ) → y ∈ left → y ∈ w
  pub count : length m ≡ rows_of_marks
  pub filled : (y : ℕ) → y < rows_of_marks → y ∈ w → has left y ≡ false → RowOf (get_or s y 0) (get_or m y [])
  pub empty : (y b : ℕ) → y < rows_of_marks → b < rows_of_marks → has w y ≡ false → get_or (get_or m y []) b false ≡ false

in_rest : {left x t : ℕ} → Rest left x t → (y : ℕ) → y ∈ t → y ∈ left
in_rest {left} {x} {t} r y h = sym (r.same y (λ q. true≢false (sym h ∙ ap (has t) q ∙ r.gone))) ∙ h

module _ (w : ℕ) (s : List ℕ) where
  pub filling-first : w < 2 ^ word_bits → Filling w s w (replicate rows_of_marks (replicate rows_of_marks false))
  filling-first f = record {
    fits = f;
    within = λ y h. h;
    count = length-replicate {A = List Bool} rows_of_marks (replicate rows_of_marks false);
    filled = λ y h i o. absurd (true≢false (sym i ∙ o));
    empty = λ y b h l o. ap (λ r. get_or r b false) (get_or-replicate {A = List Bool} rows_of_marks y (replicate rows_of_marks false) [] h)
        ∙ get_or-replicate {A = Bool} rows_of_marks b false false l;
  }

  module _ (left : ℕ) (m : List (List Bool)) (k : Filling w s left m) where
    pub filling-next : (x t : ℕ) → Front left x → Rest left x t → (r : List Bool) → RowOf (get_or s x 0) r → Filling w s t (set m x r)
    filling-next x t i g r o = record {
      fits = g.fits;
      within = λ y h. k.within y (in_rest g y h);
      count = length-set m x r ∙ k.count;
      filled = λ y h j q. by_cases (ℕ_discrete y x) here (λ n. rw (get_or-set_other m x y r [] n) (k.filled y h j (sym (g.same y n) ∙ q)));
      empty = λ y b h l q.
          ap (λ u. get_or u b false) (get_or-set_other m x y r [] (λ e. true≢false (sym (k.within x i.member) ∙ sym (ap (has w) e) ∙ q))) ∙ k.empty y b h l q;
    }
      where
        here : {y : ℕ} → y ≡ x → RowOf (get_or s y 0) (get_or (set m x r) y [])
        here {y} e = rw (e, get_or-set_same m x r [] (omega (arith, k.count, i.below))) o

    pub filling-all : left ≡ 0 → RowsOf w s m
    filling-all z = record { rows = λ a h i. k.filled a h i (none_left left a z); idle = record { none = λ a b h l o. k.empty a b h l o } }

-- ---- sets taken out
pub record Taking (w : ℕ) (m : List (List Bool)) (old : List ℕ) (left : ℕ) (s : List ℕ) : Type 0 where
  pub fits : left < 2 ^ word_bits
  pub within : (y : ℕ) → y ∈ left → y ∈ w
  pub count : length s ≡ rows_of_marks
  pub taken : (y : ℕ) → y < rows_of_marks → y ∈ w → has left y ≡ false → RowOf (get_or s y 0) (get_or m y [])
  pub others : (y : ℕ) → has w y ≡ false → get_or s y 0 ≡ get_or old y 0

module _ (w : ℕ) (m : List (List Bool)) (old : List ℕ) where
  pub taking-first : w < 2 ^ word_bits → length old ≡ rows_of_marks → Taking w m old w old
  taking-first f c = record { fits = f; within = λ y h. h; count = c; taken = λ y h i o. absurd (true≢false (sym i ∙ o)); others = λ y o. refl }

  module _ (left : ℕ) (s : List ℕ) (k : Taking w m old left s) where
    pub taking-next : (x t : ℕ) → Front left x → Rest left x t → (v : ℕ) → RowOf v (get_or m x []) → Taking w m old t (set s x v)
    taking-next x t i g v o = record {
      fits = g.fits;
      within = λ y h. k.within y (in_rest g y h);
      count = length-set s x v ∙ k.count;
      taken = λ y h j q. by_cases (ℕ_discrete y x) here (λ n. rw (get_or-set_other s x y v 0 n) (k.taken y h j (sym (g.same y n) ∙ q)));
      others = λ y q. get_or-set_other s x y v 0 (λ e. true≢false (sym (k.within x i.member) ∙ sym (ap (has w) e) ∙ q)) ∙ k.others y q;
    }
      where
        here : {y : ℕ} → y ≡ x → RowOf (get_or (set s x v) y 0) (get_or m y [])
        here {y} e = rw (e, get_or-set_same s x v 0 (omega (arith, k.count, i.below))) o

    pub taking-all : left ≡ 0 → SetsOf w m old s
    taking-all z = record { places = k.count; sets = λ a h i. k.taken a h i (none_left left a z); others = λ a o. k.others a o }
