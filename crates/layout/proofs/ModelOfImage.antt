-- The model of an image is the model it was made from, so one model has one image, and one image one model.
use mathlib.Core.Path.{◌≡◌, sym, ◌∙◌, ap}
use mathlib.Core.List.{List, ◌∷◌, ◌++◌}
use Prim.Native.Nat.{ℕ, zero, suc, ◌+◌, ◌-◌, ◌≤◌, ◌<◌}
use native.Mathlib.Omega.{arith}
use native.Mathlib.Decide.{dec_lt}
use lib.ListN.{length, get_or, take, drop}
use lib.Seq.{take_all, drop-length, drop-cons, ext_get_or}
use Rattle.laws.specs.Fold.{tab, spread}
use Rattle.model.specs.Model.{Comp, Model, no_row, no_comp, row_at, comp_at, row_count}
use Rattle.model.specs.WellFormed.{WellFormed}
use Rattle.layout.specs.Layout.{block_words, image_words, block_word}
use Rattle.layout.specs.Image.{leave_below, block_of, image_of, row_in, rows_leaving, comp_of, model_of, Image}
use Rattle.layout.proofs.ModelOf.{model-length, comp-at}
use Rattle.layout.proofs.ReadBack.{length-of-image, count-is, block-is, first-is, action-is, guard-is, resets-is, target_is}
use Rattle.layout.proofs.RowsAscend.{froms-ascend, below-le, none_below, all-below, below_up, below-leaves, leaves-below}

-- a part of a list, and what comes after it
tab-drop : {A : Type 0} (g : ℕ → A) (d : A) (l : List A) (n j f : ℕ) → f + j ≤ length l → ((k : ℕ) → f ≤ k → k < f + j → g (n + k) ≡ get_or l k d)
    → tab g (n + f) j ++ drop (f + j) l ≡ drop f l
tab-drop g d l n zero f h e = let p : f + 0 ≡ f = omega arith in rw p
tab-drop {A} g d l n (suc j) f h e =
    let p : suc (n + f) ≡ n + suc f = omega arith in
    let q : f + suc j ≡ suc f + j = omega arith in
    rw (p, q) (ap {B = List A} (λ x. x ∷ (tab g (n + suc f) j ++ drop (suc f + j) l)) (e f (omega arith) (omega arith))
    ∙ ap {B = List A} (λ r. get_or l f d ∷ r) (tab-drop g d l n j (suc f) (omega arith) (λ k a b. e k (omega arith) (omega arith)))
    ∙ sym (drop-cons l f d (omega arith)))

module _ (m : Model) (t : List ℕ) (w : WellFormed m) (front : take image_words t ≡ image_of m) (i : ℕ) (h : i < length m) where
  -- the component, the rows before its own, and how many of its own leave a state below s
  abbrev c : Comp
  c = comp_at m i

  abbrev n : ℕ
  n = row_count (take i m)

  abbrev L : ℕ → ℕ
  L s = leave_below c.rows s

  -- row k, read as one that leaves its own state
  pub row_is : (s k : ℕ) → k < length c.rows → (row_at c k).from ≡ s → row_in t s (n + k) ≡ row_at c k
  row_is s k p e =
      rw (action-is m t w front i k h p, guard-is m t w front i k h p, resets-is m t w front i k h p, target_is m t w front i k h p, ← e)

  ascends : (j k : ℕ) → j ≤ k → k < length c.rows → (row_at c j).from ≤ (row_at c k).from
  ascends = froms-ascend c (w.each i h)

  -- the rows that leave s are the k from L s up to L (suc s)
  pub leaves-own : (s k : ℕ) → L s ≤ k → k < L (suc s) → (row_at c k).from ≡ s
  leaves-own s k p q =
      let r : k < length c.rows = omega (arith, below-le c.rows (suc s)) in
      let a : (row_at c k).from < suc s = below-leaves c.rows (suc s) ascends k q in
      elim (dec_lt (row_at c k).from s) [
        | yes b ↦ absurd (omega (arith, leaves-below c.rows s ascends k r b))
        | no b ↦ omega (arith, b)
      ]

  leaving-is : (s : ℕ) → s < c.states → rows_leaving t i s ≡ tab (row_in t s) (n + L s) (L (suc s) - L s)
  unfolding rows_leaving
  leaving-is s p =
      let e : n + L (suc s) - (n + L s) ≡ L (suc s) - L s = omega arith in
      rw (first-is m t w front i s h (omega arith), first-is m t w front i (suc s) h p, e)

  -- the rows that leave s or a later state
  rest-is : (j s : ℕ) → s + j ≡ c.states → spread (rows_leaving t i) s j ≡ drop (L s) c.rows
  rest-is zero s e =
      let f : L s ≡ length c.rows = all-below c.rows s (λ k p. omega (arith, ((w.each i h).rows k p).from)) in
      rw f (sym (drop-length c.rows))
  rest-is (suc j) s e =
      let u = below_up c.rows s (suc s) (omega arith) in
      let v = below-le c.rows (suc s) in
      let f : L (suc s) ≡ L s + (L (suc s) - L s) = omega arith in
      rw (leaving-is s (omega arith), rest-is j (suc s) (omega arith))
      (ap (λ k. tab (row_in t s) (n + L s) (L (suc s) - L s) ++ drop k c.rows) f
      ∙ tab-drop (row_in t s) no_row c.rows n (L (suc s) - L s) (L s) (omega arith)
      (λ k a b. row_is s k (omega arith) (leaves-own s k a (omega arith))))

  pub rows_are : spread (rows_leaving t i) 0 c.states ≡ c.rows
  rows_are = rest-is c.states 0 (omega arith) ∙ ap (λ k. drop k c.rows) (none_below c.rows 0 (λ k p. omega arith))

  word : (k : ℕ) → k < block_words → block_word t i k ≡ get_or (block_of n c) k 0
  word k q = block-is m t w front i k h q

  pub comp-is : comp_of t i ≡ comp_at m i
  unfolding comp_of block_of
  comp-is =
      rw (
        word 0 (omega arith),
        word 1 (omega arith),
        word 2 (omega arith),
        word 3 (omega arith),
        word 4 (omega arith),
        word 5 (omega arith),
        word 6 (omega arith),
        word 7 (omega arith),
        rows_are,
      )

-- the table's model is the one its front was made from
pub model_is : (m : Model) (t : List ℕ) → WellFormed m → take image_words t ≡ image_of m → model_of t ≡ m
model_is m t w front =
    ext_get_or no_comp (model_of t) m (model-length t ∙ count-is m t w front)
    (λ i h. let p : i < length m = omega (arith, model-length t, count-is m t w front) in comp-at t i (omega (arith, model-length t)) ∙ comp-is m t w front i p)

-- reading an image back
pub model-of-image : (m : Model) → WellFormed m → model_of (image_of m) ≡ m
model-of-image m w = model_is m (image_of m) w (take_all image_words (image_of m) (omega (arith, length-of-image m w)))

-- "one model has one image": and no two models share one
pub one-model : (m m' : Model) → WellFormed m → WellFormed m' → image_of m ≡ image_of m' → m ≡ m'
one-model m m' w w' e = sym (model-of-image m w) ∙ ap model_of e ∙ model-of-image m' w'

pub model_of_lem : (t : List ℕ) (im : Image t) → model_of t ≡ im.model
model_of_lem t im = model_is im.model t im.well im.front

-- every well-formed model has its image
pub image-of-model : (m : Model) → WellFormed m → Image (image_of m)
image-of-model m w = record { model = m; well = w; front = take_all image_words (image_of m) (omega (arith, length-of-image m w)) }

-- and only the one: two tables of one model have one front
pub one-image : (t t' : List ℕ) → Image t → Image t' → model_of t ≡ model_of t' → take image_words t ≡ take image_words t'
one-image t t' im im' e = im.front ∙ ap image_of (sym (model_of_lem t im) ∙ e ∙ model_of_lem t' im') ∙ sym im'.front

-- what stands behind the front does not count
pub image-by-front : (t t' : List ℕ) → take image_words t ≡ take image_words t' → Image t → Image t'
image-by-front t t' e im = record { model = im.model; well = im.well; front = sym e ∙ im.front }
