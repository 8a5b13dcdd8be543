-- An image keeps every range that the code below the recogniser counts on.
use mathlib.Core.Path.{ap}
use mathlib.Core.List.{List}
use Prim.Native.Nat.{ℕ, zero, suc, ◌+◌, ◌≤◌, ◌<◌}
use native.Mathlib.Omega.{arith}
use native.Mathlib.Decide.{dec_lt, dec_le}
use lib.ListN.{length, length-take}
use Rattle.laws.specs.Sets.{◌∪◌, ◌∈◌, ◌⊆◌}
use Rattle.laws.proofs.SetLaws.{in-below, in-or, in_one}
use Rattle.answer.specs.Limits.{max_components, max_states, max_rows, max_actions, max_clocks}
use Rattle.model.specs.Model.{Comp, acts, guard_set}
use Rattle.model.specs.WellFormed.{WellComp}
use Rattle.layout.specs.Layout.{head_words, image_words, count_of, block_word, first_of, action_at, guard_at}
use Rattle.layout.specs.Image.{comp_of, model_of, Image, Sane}
use Rattle.layout.specs.Ranges.{CompRanges, RowRanges}
use Rattle.layout.proofs.ModelOf.{model-length}
use Rattle.layout.proofs.ReadBack.{length-of-image, no_block}
use Rattle.layout.proofs.RowsOfRange.{well-formed, image-front, well-comp, first-up, rows_end, rows_fit, well-row, first-over}
use mathlib.Core.Logic.{⊎_elim}

-- a component's actions lie below 64
pub acts-below : (c : Comp) → WellComp c → (a : ℕ) → a ∈ acts c → a < max_actions
acts-below c w a h =
    ⊎_elim
    (λ p. ⊎_elim (in-below max_actions c.ins a w.ins) (in-below max_actions c.uins a w.uins) (in-or c.ins c.uins a p))
    (λ p. ⊎_elim (in-below max_actions c.outs a w.outs) (in-below max_actions c.uouts a w.uouts) (in-or c.outs c.uouts a p))
    (in-or (c.ins ∪ c.uins) (c.outs ∪ c.uouts) a h)

-- and so do the clocks that guard its rows
pub guard-below : (c : Comp) → WellComp c → (g : ℕ) → guard_set g ⊆ c.clocks → g ≤ max_clocks
guard-below c w zero h = omega arith
guard-below c w (suc x) h = in-below max_clocks c.clocks x w.clocks (h x (in_one x))

module _ (t : List ℕ) (im : Image t) where
  pub image-long : image_words ≤ length t
  image-long = omega (arith, length-take image_words t, ap length (image-front t im), length-of-image (model_of t) (well-formed t im))

  pub count-below : count_of t ≤ max_components
  count-below = omega (arith, model-length t, (well-formed t im).components)

  pub comp-ranges : (i : ℕ) → i < count_of t → CompRanges t i
  unfolding comp_of
  comp-ranges i h =
      let w = well-comp t im i h in
      record {
        some = w.some;
        states = w.states;
        start = w.start;
        up = first-up t im i h;
        rows = λ s p. omega (arith, first-up t im i h s (block_word t i 0) p (omega arith), rows_end t im i h, rows_fit t im i h);
      }

  -- row r in the range of state s of component i
  pub row-ranges : (i s r : ℕ) → i < count_of t → s < block_word t i 0 → first_of t i s ≤ r → r < first_of t i (suc s) → RowRanges t i r
  unfolding comp_of
  row-ranges i s r h b p q =
      let w = well-row t im i h s r b p q in
      let c = well-comp t im i h in
      record {
        place = omega (arith, (comp-ranges i h).rows (suc s) b);
        action = acts-below (comp_of t i) c (action_at t r) w.action;
        guard = guard-below (comp_of t i) c (guard_at t r) w.guard;
        target = w.target;
        known = w.action;
        clock = w.guard;
        resets = w.resets;
      }

  pub image-is-sane : Sane t
  image-is-sane = record {
    long = image-long;
    count = count-below;
    states = λ i h. elim (dec_lt i (count_of t)) [
      | yes p ↦ (comp-ranges i p).states
      | no p ↦ omega (arith, no_block (model_of t) t (well-formed t im) (image-front t im) i 0 (omega (arith, model-length t)) h (omega arith))
    ];
    firsts = λ i s h q. elim (dec_lt i (count_of t)) [
      | yes p ↦ firsts i s p q
      | no p ↦ unfold first_of in omega (
        arith,
        no_block (model_of t) t (well-formed t im) (image-front t im) i (head_words + s) (omega (arith, model-length t)) h (omega arith),
      )
    ];
  }
    where
      firsts : (i s : ℕ) → i < count_of t → s ≤ max_states → first_of t i s ≤ max_rows
      firsts i s p q = elim (dec_le s (block_word t i 0)) [
        | yes b ↦ (comp-ranges i p).rows s b
        | no b ↦ omega (arith, first-over t im i p s (omega arith) q)
      ]
