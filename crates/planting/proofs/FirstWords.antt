-- The words first[0] to first[max_states] of an element's component: where the rows of each state begin, then their end, then zeros.
use mathlib.Core.Path.{◌≡◌, refl, sym, ◌∙◌, ap, ap₂}
use mathlib.Core.Option.{Option, none, some}
use mathlib.Core.Bool.{Bool, true, false, cond}
use mathlib.Core.List.{List, [], ◌∷◌, ◌++◌, append_assoc}
use Prim.Native.Nat.{ℕ, zero, suc, ◌+◌, ◌-◌, ◌≤◌, ◌<◌}
use native.Mathlib.Omega.{arith}
use lib.ListN.{length, get_or, length-append}
use lib.Seq.{sets}
use lib.Dec.{ltb}
use borrow.Author.Tests.{le-leb, lt-leb}
use Rattle.laws.specs.Fold.{tab, spread}
use Rattle.laws.proofs.FoldLaws.{tab-length}
use Rattle.laws.proofs.TabLaws.{tab-append, tab-same, spread-append}
use Rattle.answer.specs.Limits.{max_states, max_rows}
use Rattle.model.specs.Model.{Row}
use Rattle.layout.specs.Image.{leave_below, first_word}
use Rattle.product.specs.declared.Tally.{Tally}
use Rattle.product.specs.Walk.{out_of, listed}
use Rattle.product.proofs.WalkLaws.{listed-rows, listed-dry}
use Rattle.trees.specs.Module.{Move}
use Rattle.trees.specs.Tree.{Element}
use Rattle.fill.specs.Words.{zeros_of}
use Rattle.fill.proofs.FillLaws.{then-sets}
use Rattle.elements.specs.Parts.{meaning_at, states_by, move_by}
use Rattle.merging.specs.Starts.{firsts_of}
use Rattle.merging.proofs.FirstsOfPairs.{below-spread}
use Rattle.treerows.specs.Rows.{row_by, word_rows, state_rows, element_rows}
use Rattle.planting.specs.Planted.{plant_of, start_of}

-- ---- rows that all leave s: those that leave a state below x are all of them, or none
below-append : (xs ys : List Row) (x : ℕ) → leave_below (xs ++ ys) x ≡ leave_below xs x + leave_below ys x
unfolding leave_below
below-append [] ys x = omega arith
below-append (r ∷ rs) ys x = omega (arith, below-append rs ys x)

all-or-none : (b : Bool) (m n : ℕ) → cond b m 0 + cond b n 0 ≡ cond b (m + n) 0
all-or-none true m n = refl
all-or-none false m n = refl

none_of : (b : Bool) → ◌≡◌ {A = ℕ} 0 (cond b 0 0)
none_of true = refl
none_of false = refl

row_below : (o : Option Move) (s a x : ℕ) → leave_below (row_by o s a) x ≡ cond (ltb s x) (length (row_by o s a)) 0
unfolding leave_below
row_below none s a x = none_of (ltb s x)
row_below (some v) s a x = omega arith

spread-below : (g : ℕ → List Row) (s x k n : ℕ) → ((a : ℕ) → leave_below (g a) x ≡ cond (ltb s x) (length (g a)) 0) → leave_below (spread g k n) x
    ≡ cond (ltb s x) (length (spread g k n)) 0
unfolding leave_below
spread-below g s x k zero e = none_of (ltb s x)
spread-below g s x k (suc n) e =
    below-append (g k) (spread g (suc k) n) x ∙ ap₂ ◌+◌ (e k) (spread-below g s x (suc k) n e) ∙ all-or-none (ltb s x) (length (g k))
    (length (spread g (suc k) n))
    ∙ ap (λ m. cond (ltb s x) m 0) (sym (length-append (g k) (spread g (suc k) n)))

module _ (base : ℕ) (words : List ℕ) (count : ℕ) (e : Element) (k : ℕ) where
  pub start_first : start_of base words count e k 0 ≡ base
  unfolding start_of
  start_first = omega arith

  pub start-next : (s : ℕ) → start_of base words count e k (s + 1) ≡ start_of base words count e k s + length (state_rows words count e k s)
  unfolding start_of
  start-next s =
      let g = state_rows words count e k in
      let z : 0 + s ≡ s = omega arith in
      omega (
        arith,
        ap length (spread-append g 0 s 1),
        length-append (spread g 0 s) (spread g (0 + s) 1),
        ap (λ j. length (spread g j 1)) z,
        length-append (g s) [],
      )

  -- no state's rows begin past the end of all
  pub start-most : (s : ℕ) → s ≤ states_by e → start_of base words count e k s ≤ base + length (element_rows words count e k)
  unfolding start_of element_rows
  start-most s h =
      let g = state_rows words count e k in
      let m = states_by e - s in
      let w : states_by e ≡ s + m = omega (arith, h) in
      omega (arith, ap (λ j. length (spread g 0 j)) w, ap length (spread-append g 0 s m), length-append (spread g 0 s) (spread g (0 + s) m))

  pub start-end : (s : ℕ) → s ≡ states_by e → start_of base words count e k s ≡ base + length (element_rows words count e k)
  unfolding start_of element_rows
  start-end s h = ap (λ j. base + length (spread (state_rows words count e k) 0 j)) h

  state-below : (s x : ℕ) → leave_below (state_rows words count e k s) x ≡ cond (ltb s x) (length (state_rows words count e k s)) 0
  unfolding state_rows word_rows
  state-below s x = spread-below (word_rows words e k s) s x 0 count (λ a. row_below (move_by e k s (meaning_at (get_or words a 0))) s a x)

  states-below : (s : ℕ) → s ≤ states_by e → leave_below (element_rows words count e k) s ≡ length (spread (state_rows words count e k) 0 s)
  unfolding element_rows
  states-below s h =
      let z : s - 0 ≡ s = omega arith in
      below-spread (state_rows words count e k) state-below 0 (states_by e) s (omega arith) (omega (arith, h))
      ∙ ap (λ n. length (spread (state_rows words count e k) 0 n)) z

  first-start : (s : ℕ) → s ≤ states_by e → start_of base words count e k s ≡ first_word base (plant_of words count e k) s
  unfolding first_word plant_of start_of
  first-start s h = rw (le-leb s (states_by e) h, states-below s h)

  first-zero : (s : ℕ) → states_by e < s → 0 ≡ first_word base (plant_of words count e k) s
  unfolding first_word plant_of
  first-zero s h = rw (lt-leb s (states_by e) h)

  zeros-from : (j n : ℕ) → states_by e < j → tab {A = ℕ} (λ i. 0) 0 n ≡ tab (first_word base (plant_of words count e k)) j n
  zeros-from j n h = same-zeros 0 j n ∙ tab-same (λ i. 0) (first_word base (plant_of words count e k)) j n (λ i p q. first-zero i (omega (arith, h, p)))
    where
      same-zeros : (i j n : ℕ) → tab {A = ℕ} (λ i. 0) i n ≡ tab {A = ℕ} (λ i. 0) j n
      same-zeros i j zero = refl
      same-zeros i j (suc n) = ap (λ l. 0 ∷ l) (same-zeros (suc i) (suc j) n)

  firsts-are : (states : ℕ) → states ≡ states_by e → states ≤ max_states
      → (tab (start_of base words count e k) 0 states ++ start_of base words count e k states ∷ []) ++ zeros_of (max_states - states)
      ≡ firsts_of base (plant_of words count e k)
  unfolding zeros_of firsts_of
  firsts-are states q h =
      let g = start_of base words count e k in
      let f = first_word base (plant_of words count e k) in
      let n = max_states - states in
      let w : suc max_states ≡ states + suc n = omega (arith, h) in
      let z : 0 + states ≡ states = omega arith in
      append_assoc (tab g 0 states) (g states ∷ []) (tab (λ j. 0) 0 n)
      ∙ ap₂ ◌++◌ (tab-same g f 0 states (λ j p r. first-start j (omega (arith, q, r))))
      (ap₂ ◌∷◌ (first-start states (omega (arith, q))) (zeros-from (suc states) n (omega (arith, q))))
      ∙ ap (λ j. tab f 0 states ++ tab f j (suc n)) (sym z)
      ∙ sym (tab-append f 0 states (suc n))
      ∙ ap (tab f 0) (sym w)

  -- as they are written: the starts, the end, the zeros
  pub firsts-written : (l l' l'' : List ℕ) (at states n : ℕ) → states ≡ states_by e → states ≤ max_states
      → l' ≡ sets l at (tab (start_of base words count e k) 0 states)
      → n ≡ start_of base words count e k states → l'' ≡ sets (sets l' (at + states) (n ∷ [])) (at + states + 1) (zeros_of (max_states - states))
      → l'' ≡ sets l at (firsts_of base (plant_of words count e k))
  firsts-written l l' l'' at states n q h el en e'' =
      let g = start_of base words count e k in
      let s = tab g 0 states in
      let m : length s ≡ states = tab-length g 0 states in
      then-sets l (sets l' (at + states) (n ∷ [])) l'' (s ++ g states ∷ []) (zeros_of (max_states - states)) at (at + states + 1)
      (then-sets l l' (sets l' (at + states) (n ∷ [])) s (g states ∷ []) at (at + states) el (omega (arith, m)) (ap (λ x. sets l' (at + states) (x ∷ [])) en))
      (omega (arith, m, length-append s (g states ∷ []))) e''
      ∙ ap (sets l at) (firsts-are states q h)

  -- a state's rows are counted: nothing is written, and the next state's begin behind them
  pub state-next : (s n : ℕ) (l l' : List ℕ) (m : Tally) → n ≡ start_of base words count e k s
      → out_of m l' ≡ listed 0 (state_rows words count e k s) (out_of (record { rows = n; bytes = 0 }) l)
      → (l' ≡ l) × (m.rows ≡ start_of base words count e k (s + 1))
  state-next s n l l' m en q =
      let rs = state_rows words count e k s in
      let o = out_of (record { rows = n; bytes = 0 }) l in
      (ap (λ x. x.words) q ∙ listed-dry rs o, omega (arith, ap (λ x. x.rows) q, listed-rows 0 rs o, en, start-next s))

  pub start-low : (s n states : ℕ) → n ≡ start_of base words count e k s → s ≤ states → states ≡ states_by e
      → base + length (element_rows words count e k) ≤ max_rows → n ≤ max_rows
  start-low s n states en h q b = omega (arith, en, start-most s (omega (arith, h, q)), b)
