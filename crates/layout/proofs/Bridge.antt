-- The bridge: the rows of a component that leave a state are those of its range first[s] up to first[s + 1], so a walk over the one is a walk over the other.
use mathlib.Core.Path.{◌≡◌, refl, sym, ◌∙◌, ap}
use mathlib.Core.Option.{Option, none}
use mathlib.Core.Bool.{Bool, false, ◌&&◌, cond}
use mathlib.Core.List.{List, [], ◌∷◌}
use Prim.Native.Nat.{ℕ, suc, ◌<◌}
use native.Mathlib.Omega.{arith}
use lib.ListN.{length}
use lib.Dec.{eqb}
use lib.Bits.{or_zero_r}
use borrow.Author.Tests.{eq-eqb, ne_eqb}
use Rattle.laws.specs.Sets.{has, ◌∪◌}
use Rattle.laws.specs.Search.{seek, when, is_some, or_else, map_some, any}
use Rattle.laws.specs.Fold.{over}
use Rattle.laws.proofs.SetLaws.{or_assoc}
use Rattle.laws.proofs.RangeLaws.{folded, folded-tab, folded-spread, over-list, over-still, over-ext, else-none, over-seek, seek-ext, seek-map, seek-any}
use Rattle.model.specs.Model.{Row, no_row, row_at, guard_set}
use Rattle.iosa.specs.Checks.{row_for, unstable, enabling_in, enabling_of}
use Rattle.timing.specs.Timed.{clock_row}
use Rattle.layout.specs.Layout.{block_word, first_of, action_at, guard_at}
use Rattle.layout.specs.Image.{row_in, rows_leaving, comp_of}

-- state s of component i of any table
module _ (t : List ℕ) (i s : ℕ) (below : s < block_word t i 0) where
  -- a fold in which only rows that leave s take part
  pub over-leaving : {A : Type 0} (g : Row → A → A) (x : A) → ((r : Row) (y : A) → (r.from ≡ s → ⊥) → g r y ≡ y)
      → over (λ k. g (row_at (comp_of t i) k)) 0 (length (comp_of t i).rows) x ≡ over (λ r. g (row_in t s r)) (first_of t i s) (first_of t i (suc s)) x
  unfolding comp_of rows_leaving
  over-leaving g x still =
      over-list g no_row (comp_of t i).rows x
      ∙ folded-spread g (rows_leaving t i) 0 (block_word t i 0) s x (omega arith) (omega arith)
      (λ j y ne. folded-tab g (row_in t j) (first_of t i j) (first_of t i (suc j)) y ∙ over-still (λ r. g (row_in t j r)) (first_of t i j)
      (first_of t i (suc j)) y (λ r z p q. still (row_in t j r) z ne))
      ∙ folded-tab g (row_in t s) (first_of t i s) (first_of t i (suc s)) x

  -- a search for a row that leaves s
  pub seek-leaving : {A : Type 0} (f : Row → Option A) → ((r : Row) → (r.from ≡ s → ⊥) → f r ≡ none)
      → seek (λ k. f (row_at (comp_of t i) k)) 0 (length (comp_of t i).rows) ≡ seek (λ r. f (row_in t s r)) (first_of t i s) (first_of t i (suc s))
  seek-leaving f e =
      sym (over-seek (λ k. f (row_at (comp_of t i) k)) 0 (length (comp_of t i).rows))
      ∙ over-leaving (λ r o. or_else o (f r)) none (λ r o ne. ap (or_else o) (e r ne) ∙ else-none o)
      ∙ over-seek (λ r. f (row_in t s r)) (first_of t i s) (first_of t i (suc s))

  -- whether there is one
  pub any-leaving : (p : Row → Bool) → ((r : Row) → (r.from ≡ s → ⊥) → p r ≡ false)
      → any (λ k. p (row_at (comp_of t i) k)) (length (comp_of t i).rows) ≡ is_some (seek (λ r. when (p (row_in t s r)) r) (first_of t i s) (first_of t i (suc s)))
  any-leaving p e =
      seek-any (λ k. p (row_at (comp_of t i) k)) (λ k. k) (row_at (comp_of t i)) 0 (length (comp_of t i).rows)
      ∙ ap is_some (seek-leaving (λ r. when (p r) r) (λ r ne. ap (λ b. when b r) (e r ne)))
      ∙ seek-any (λ r. p (row_in t s r)) (row_in t s) (λ r. r) (first_of t i s) (first_of t i (suc s))

  -- ---- a row by a test beside that of its state
  own : (b : Bool) → (eqb s s && b) ≡ b
  own b = rw (eq-eqb s s refl)

  other : (r : Row) (b : Bool) → (r.from ≡ s → ⊥) → (eqb r.from s && b) ≡ false
  other r b ne = rw (ne_eqb r.from s ne)

  pub row_by : (p : Row → Bool)
      → seek (λ k. when (eqb (row_at (comp_of t i) k).from s && p (row_at (comp_of t i) k)) (row_at (comp_of t i) k)) 0 (length (comp_of t i).rows)
      ≡ map_some (row_in t s) (seek (λ r. when (p (row_in t s r)) r) (first_of t i s) (first_of t i (suc s)))
  row_by p =
      seek-leaving (λ r. when (eqb r.from s && p r) r) (λ r ne. ap (λ b. when b r) (other r (p r) ne))
      ∙ seek-ext (λ r. when (eqb s s && p (row_in t s r)) (row_in t s r)) (λ r. when (p (row_in t s r)) (row_in t s r)) (first_of t i s) (first_of t i (suc s))
      (λ r lo hi. ap (λ b. when b (row_in t s r)) (own (p (row_in t s r))))
      ∙ seek-map (λ r. p (row_in t s r)) (row_in t s) (first_of t i s) (first_of t i (suc s))

  pub some-by : (p : Row → Bool)
      → any (λ k. eqb (row_at (comp_of t i) k).from s && p (row_at (comp_of t i) k)) (length (comp_of t i).rows)
      ≡ is_some (seek (λ r. when (p (row_in t s r)) r) (first_of t i s) (first_of t i (suc s)))
  some-by p =
      any-leaving (λ r. eqb r.from s && p r) (λ r ne. other r (p r) ne)
      ∙ ap is_some (seek-ext (λ r. when (eqb s s && p (row_in t s r)) r) (λ r. when (p (row_in t s r)) r) (first_of t i s) (first_of t i (suc s))
      (λ r lo hi. ap (λ b. when b r) (own (p (row_in t s r)))))

  -- ---- the definitions of `iosa`
  -- the row by which action a leaves s
  pub row-for : (a : ℕ) → row_for (comp_of t i) s a ≡ map_some (row_in t s) (seek (λ r. when (eqb (action_at t r) a) r) (first_of t i s) (first_of t i (suc s)))
  unfolding row_for
  row-for a = row_by (λ r. eqb r.action a)

  -- the row that clock x guards
  pub clock-row : (x : ℕ) → clock_row (comp_of t i) s x ≡ map_some (row_in t s) (seek (λ r. when (eqb (guard_at t r) (suc x)) r) (first_of t i s)
      (first_of t i (suc s)))
  unfolding clock_row
  clock-row x = row_by (λ r. eqb r.guard (suc x))

  -- a row with a `uout` action leaves s
  pub unstable-is : unstable (comp_of t i) s ≡ is_some (seek (λ r. when (has (block_word t i 5) (action_at t r)) r) (first_of t i s) (first_of t i (suc s)))
  unfolding unstable comp_of
  unstable-is = some-by (λ r. has (block_word t i 5) r.action)

  -- the clocks that guard rows that leave s, joined row by row
  guards : Row → ℕ
  guards r = cond (eqb r.from s) (guard_set r.guard) 0

  joined : (rs : List Row) (x : ℕ) → folded (λ r y. y ∪ guards r) rs x ≡ x ∪ enabling_in rs s
  unfolding guards
  joined [] x = sym (or_zero_r x)
  joined (r ∷ rs) x = joined rs (x ∪ guards r) ∙ or_assoc x (guards r) (enabling_in rs s)

  pub enabling-is : enabling_of (comp_of t i) s ≡ over (λ r x. x ∪ guard_set (guard_at t r)) (first_of t i s) (first_of t i (suc s)) 0
  unfolding enabling_of guards
  enabling-is =
      sym (joined (comp_of t i).rows 0)
      ∙ sym (over-list (λ r y. y ∪ guards r) no_row (comp_of t i).rows 0)
      ∙ over-leaving (λ r y. y ∪ guards r) 0 (λ r y ne. rw (ne_eqb r.from s ne) (or_zero_r y))
      ∙ over-ext (λ r y. y ∪ guards (row_in t s r)) (λ r y. y ∪ guard_set (guard_at t r)) (first_of t i s) (first_of t i (suc s)) 0
      (λ r y lo hi. rw (eq-eqb s s refl))
