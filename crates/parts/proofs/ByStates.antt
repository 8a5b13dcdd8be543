-- 11, 12 and 13 of a component, state by state.
use mathlib.Core.Path.{◌≡◌, refl, sym, ◌∙◌, ap}
use mathlib.Core.Bool.{Bool}
use mathlib.Core.List.{List, [], ◌∷◌}
use Prim.Native.Nat.{ℕ, suc, ◌+◌, ◌-◌, ◌<◌}
use native.Mathlib.Omega.{arith}
use lib.ListN.{length}
use Rattle.laws.specs.Search.{seek, when, map_some, least2, or_else}
use Rattle.laws.proofs.RangeLaws.{map-when, map-seek, seek-ext}
use Rattle.answer.specs.Limits.{max_actions}
use Rattle.answer.specs.Told.{tell}
use Rattle.model.specs.Model.{Comp}
use Rattle.iosa.specs.Checks.{repeats, lacks_row, twice, cell_of, check11, check12, check13, fault_at}
use Rattle.layout.specs.Layout.{count_of, block_word, first_of}
use Rattle.layout.specs.Image.{Image, comp_of}
use Rattle.layout.proofs.RowsOfRange.{range-from}
use Rattle.layout.proofs.WalkByStates.{seek-rows}
use Rattle.parts.specs.Faults.{fault10, fault11, fault12, fault13, fault14, lack_fault, repeat_fault, twice_fault}

-- places of a state and an action, told as number n of component i
by-cells : (f : ℕ → ℕ → Bool) (n i states : ℕ)
    → seek (λ s. seek (λ a. when (f s a) (tell n (i ∷ s ∷ a ∷ []))) 0 max_actions) 0 states ≡ map_some (λ p. tell n (i ∷ p)) (least2 f cell_of states max_actions)
by-cells f n i states =
    seek-ext (λ s. seek (λ a. when (f s a) (tell n (i ∷ s ∷ a ∷ []))) 0 max_actions)
    (λ s. map_some (λ p. tell n (i ∷ p)) (seek (λ a. when (f s a) (cell_of s a)) 0 max_actions)) 0 states
    (λ s p q.
    seek-ext (λ a. when (f s a) (tell n (i ∷ s ∷ a ∷ []))) (λ a. map_some (λ p. tell n (i ∷ p)) (when (f s a) (cell_of s a))) 0 max_actions
    (λ a u v. sym (map-when (λ p. tell n (i ∷ p)) (f s a) (cell_of s a)))
    ∙ sym (map-seek (λ p. tell n (i ∷ p)) (λ a. when (f s a) (cell_of s a)) 0 max_actions))
    ∙ sym (map-seek (λ p. tell n (i ∷ p)) (λ s. seek (λ a. when (f s a) (cell_of s a)) 0 max_actions) 0 states)

module _ (t : List ℕ) (im : Image t) (i : ℕ) (h : i < count_of t) where
  pub inputs-by-states : seek (lack_fault t i) 0 (block_word t i 0) ≡ fault12 i (comp_of t i)
  unfolding lack_fault fault12 check12 comp_of
  inputs-by-states = by-cells (lacks_row (comp_of t i)) 12 i (block_word t i 0)

  pub single-by-states : seek (twice_fault t i) 0 (block_word t i 0) ≡ fault13 i (comp_of t i)
  unfolding twice_fault fault13 check13 comp_of
  single-by-states = by-cells (twice (comp_of t i)) 13 i (block_word t i 0)

  pub clocks-by-states : seek (repeat_fault t i) 0 (block_word t i 0) ≡ fault11 (first_of t i 0) (comp_of t i)
  unfolding repeat_fault fault11 check11
  clocks-by-states =
      let n = first_of t i 0 in
      let c = comp_of t i in
      seek-ext (repeat_fault t i) (λ s. seek (λ r. when (repeats c (r - n)) (tell 11 ((n + (r - n)) ∷ []))) (first_of t i s)
      (first_of t i (suc s))) 0 (block_word t i 0)
      (λ s p q. seek-ext (λ r. when (repeats c (r - n)) (tell 11 (r ∷ []))) (λ r. when (repeats c (r - n)) (tell 11 ((n + (r - n)) ∷ [])))
      (first_of t i s) (first_of t i (suc s))
      (λ r u v. let e : r ≡ n + (r - n) = omega (arith, range-from t im i h s r q u v) in ap (λ m. when (repeats c (r - n)) (tell 11 (m ∷ []))) e))
      ∙ sym (seek-rows t im i h (λ k r. when (repeats c k) (tell 11 ((n + k) ∷ []))))
      ∙ seek-ext (λ k. when (repeats c k) (tell 11 ((n + k) ∷ []))) (λ k. map_some (λ j. tell 11 ((n + j) ∷ [])) (when (repeats c k) k)) 0
      (length c.rows) (λ k u v. sym (map-when (λ j. tell 11 ((n + j) ∷ [])) (repeats c k) k))
      ∙ sym (map-seek (λ j. tell 11 ((n + j) ∷ [])) (λ k. when (repeats c k) k) 0 (length c.rows))

-- 10 to 14 in turn
pub in-turn : (i n : ℕ) (c : Comp) → or_else (fault10 n c) (or_else (fault11 n c) (or_else (fault12 i c) (or_else (fault13 i c) (fault14 i c)))) ≡ fault_at i n c
unfolding fault_at fault10 fault11 fault12 fault13 fault14
in-turn i n c = refl

-- as the code asks them
pub turn-by-states : (t : List ℕ) (im : Image t) (i : ℕ) (h : i < count_of t)
    → or_else (fault10 (first_of t i 0) (comp_of t i)) (or_else (seek (repeat_fault t i) 0 (block_word t i 0))
    (or_else (seek (lack_fault t i) 0 (block_word t i 0)) (or_else (seek (twice_fault t i) 0 (block_word t i 0)) (fault14 i (comp_of t i)))))
    ≡ fault_at i (first_of t i 0) (comp_of t i)
turn-by-states t im i h = rw (clocks-by-states t im i h, inputs-by-states t im i h, single-by-states t im i h) (in-turn i (first_of t i 0) (comp_of t i))
