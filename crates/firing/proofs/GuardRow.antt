-- One component when a clock fires, from the row that the search over its state's range finds.
use mathlib.Core.Path.{◌≡◌, refl, sym, ◌∙◌, ap}
use mathlib.Core.Option.{none, some}
use mathlib.Core.Bool.{true, false}
use mathlib.Core.List.{List}
use Prim.Native.Nat.{ℕ, suc, ◌+◌, ◌<◌}
use native.Mathlib.Numerals.{add-one}
use native.Mathlib.Omega.{arith}
use lib.Dec.{eqb}
use Rattle.laws.specs.Sets.{has}
use Rattle.laws.specs.Search.{when, map_some}
use Rattle.laws.proofs.SearchLaws.{seek-some, when-some, map-some}
use Rattle.answer.specs.Limits.{max_actions}
use Rattle.model.specs.Model.{Row, Comp}
use Rattle.iosa.specs.Step.{gone_by}
use Rattle.timing.specs.Timed.{clock_row, fire_one}
use Rattle.layout.specs.Layout.{count_of, block_word, first_of, guard_at, resets_at, target_at}
use Rattle.layout.specs.Image.{Image, comp_of, row_in}
use Rattle.layout.specs.Ranges.{RowRanges}
use Rattle.layout.proofs.Bridge.{clock-row}
use Rattle.layout.proofs.ImageIsSane.{row-ranges, comp-ranges}
use Rattle.rows.specs.Ranges.{found_of, by_guard}
use Rattle.rows.specs.Ranges.{Found}
use Rattle.std.specs.Prelude.{Some, None}
use Rattle.rows.proofs.FoundLaws.{at_some, nothing-none}
use Rattle.moves.specs.Moves.{or_stays, moved_one, RowFound, gone_found}
use Rattle.firing.specs.Fired.{by_clock, guarded_one, fired_one}

-- the range as the code reads it
pub range-is : (t : List ℕ) (i s x lo hi : ℕ) → lo ≡ first_of t i s → hi ≡ first_of t i (s + 1) → by_guard t (x + 1) lo hi ≡ by_clock t i s x
unfolding by_clock
range-is t i s x lo hi e f = rw (e, f, add-one s, add-one x)

module _ (t : List ℕ) (im : Image t) (i s x : ℕ) (h : i < count_of t) (b : s < block_word t i 0) where
  row_is : clock_row (comp_of t i) s x ≡ map_some (row_in t s) (by_clock t i s x)
  unfolding by_clock by_guard
  row_is = clock-row t i s b x

  at-ranges : (k : ℕ) → by_clock t i s x ≡ some k → RowRanges t i k
  unfolding by_clock by_guard
  at-ranges k e =
      let p = seek-some (λ r. when (eqb (guard_at t r) (suc x)) r) (first_of t i s) (first_of t i (suc s)) k e in
      let w = when-some (eqb (guard_at t p.place) (suc x)) p.place p.here in
      row-ranges t im i s k h b (rw w.1 at p.from) (rw w.1 at p.below)

  -- the action of a clock's row is an action at all
  pub row-action-low : (r : Row) → clock_row (comp_of t i) s x ≡ some r → r.action < max_actions
  row-action-low r e =
      let q = map-some (row_in t s) (by_clock t i s x) r (sym row_is ∙ e) in
      rw (← q.2) (at-ranges q.0 q.1).action

  module _ (f : Found) (e : f ≡ found_of (by_clock t i s x)) where
    -- ---- found
    module _ (k : ℕ) (at : f ≡ Some k) where
      found : by_clock t i s x ≡ some k
      found = at_some (by_clock t i s x) k (sym e ∙ at)

      pub guard-ranges : RowRanges t i k
      guard-ranges = at-ranges k found

      pub guard-row : clock_row (comp_of t i) s x ≡ some (row_in t s k)
      guard-row = row_is ∙ ap (map_some (row_in t s)) found

      guard-move : guarded_one x (comp_of t i) s ≡ record { resets = resets_at t k; after = target_at t k }
      unfolding guarded_one
      guard-move = ap (λ o. or_stays s (gone_by o)) guard-row

    -- ---- not found
    pub no-guard-row : f ≡ None → clock_row (comp_of t i) s x ≡ none
    no-guard-row n = row_is ∙ ap (map_some (row_in t s)) (nothing-none (by_clock t i s x) (sym e ∙ n))

    no-guard-move : f ≡ None → guarded_one x (comp_of t i) s ≡ record { resets = 0; after = s }
    unfolding guarded_one
    no-guard-move n = ap (λ o. or_stays s (gone_by o)) (no-guard-row n)

    -- ---- either way
    pub guard-found : RowFound t f
    guard-found = record { place = λ k at. (guard-ranges k at).place; target = λ k at. omega (arith, (guard-ranges k at).target, (comp-ranges t im i h).states) }

    pub guarded-by : guarded_one x (comp_of t i) s ≡ gone_found t s f
    guarded-by = go f refl
      where
        go : (g : Found) → f ≡ g → guarded_one x (comp_of t i) s ≡ gone_found t s g
        go (Some k) at = guard-move k at
        go None n = no-guard-move n

-- ---- the owner of the clock, and another
pub owner-fires : (c : Comp) (s x a : ℕ) → has c.clocks x ≡ true → fired_one x a c s ≡ guarded_one x c s
unfolding fired_one fire_one guarded_one
owner-fires c s x a h = rw (h, fire_one)

pub other-fires : (c : Comp) (s x a : ℕ) → has c.clocks x ≡ false → fired_one x a c s ≡ moved_one c s a
unfolding fired_one fire_one moved_one
other-fires c s x a h = rw (h, fire_one)
