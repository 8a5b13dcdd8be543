-- A walk over cells, one cell or one list at a time: what it says of the whole it says of each part.
use mathlib.Core.Path.{◌≡◌, refl, sym, ◌∙◌, ap, subst}
use mathlib.Core.Bool.{Bool, true, false, cond}
use mathlib.Core.List.{List, [], ◌∷◌, ◌++◌}
use Prim.Native.Nat.{ℕ, suc, ◌+◌, ◌*◌, ◌-◌, ◌≤◌, ◌<◌}
use native.Mathlib.Omega.{arith}
use lib.ListN.{length, set}
use lib.Seq.{sets, length-sets}
use mir.Val.{Fits}
use mir.Syntax.{w64}
use Rattle.laws.specs.Sets.{has}
use Rattle.laws.specs.Fold.{spread}
use Rattle.laws.proofs.SetLaws.{none_in}
use Rattle.laws.proofs.TestLaws.{not_so}
use Rattle.laws.proofs.TabLaws.{spread-next, spread-done}
use Rattle.laws.proofs.GrowLaws.{spread_none}
use Rattle.answer.specs.Limits.{max_actions}
use Rattle.model.specs.Text.{row_line}
use Rattle.layout.specs.Layout.{block_word}
use Rattle.lacking.specs.declared.Tally.{Tally}
use Rattle.lacking.specs.Repair.{loop_at, cell}
use Rattle.lacking.specs.Walk.{most_cells, cell_bytes, Out, out_of, width_of, one_more, walked, Roomy, lack_of, cell_in, cells_in, cells_by}

-- three stores are a cell's bytes
stored : (l : List ℕ) (at i s a : ℕ) → set (set (set l at i) (at + 1) s) (at + 2) a ≡ sets l at (cell i s a)
stored l at i s a =
    let one : at + 1 ≡ suc at = omega arith in
    let two : at + 2 ≡ suc (suc at) = omega arith in
    rw (one, two)

-- the line of a cell's row
pub width_is : (i s a w : ℕ) → w ≡ length (row_line (loop_at s a)) → w ≡ width_of (cell i s a)
unfolding width_of
width_is i s a w e = e

module _ (write : Bool) where
  length-one : (x : List ℕ) (o : Out) → length (one_more write x o).list ≡ length o.list
  unfolding one_more
  length-one x o = go write
    where
      go : (b : Bool) → length (cond b (sets o.list (cell_bytes * o.rows) x) o.list) ≡ length o.list
      go true = length-sets o.list (cell_bytes * o.rows) x
      go false = refl

  walked_none : (o : Out) → walked write [] o ≡ o
  unfolding walked
  walked_none o = refl

  walked-append : (xs ys : List (List ℕ)) (o : Out) → walked write (xs ++ ys) o ≡ walked write ys (walked write xs o)
  unfolding walked
  walked-append [] ys o = refl
  walked-append (x ∷ xs) ys o = walked-append xs ys (one_more write x o)

  pub length-walked : (xs : List (List ℕ)) (o : Out) → length (walked write xs o).list ≡ length o.list
  unfolding walked
  length-walked [] o = refl
  length-walked (x ∷ xs) o = length-walked xs (one_more write x o) ∙ length-one x o

  -- ---- room at the end was room before
  roomy-one : (x : List ℕ) (o : Out) → Roomy write (one_more write x o) → Roomy write o
  unfolding one_more
  roomy-one x o h = record { rows = omega (arith, h.rows); bytes = omega (arith, h.bytes); list = λ e. omega (arith, h.list e, length-one x o) }

  roomy-all : (xs : List (List ℕ)) (o : Out) → Roomy write (walked write xs o) → Roomy write o
  unfolding walked
  roomy-all [] o h = h
  roomy-all (x ∷ xs) o h = roomy-one x o (roomy-all xs (one_more write x o) h)

  -- room for one more
  module _ (x : List ℕ) (o : Out) (room : Roomy write (one_more write x o)) where
    pub rows-below : o.rows < most_cells
    unfolding one_more
    rows-below = omega (arith, room.rows)

    pub list-long : write ≡ true → cell_bytes * (o.rows + 1) ≤ length o.list
    unfolding one_more
    list-long e = omega (arith, room.list e, length-one x o)

    pub bytes_fit : (w : ℕ) → w ≡ width_of x → Fits w64 (o.bytes + w)
    unfolding one_more
    bytes_fit w e = omega (arith, room.bytes)

  pub cell-walked : (n : Tally) (x l l' : List ℕ) (w : ℕ) → l' ≡ cond write (sets l (cell_bytes * n.rows) x) l → w ≡ width_of x
      → out_of (record { rows = n.rows + 1; bytes = n.bytes + w }) l' ≡ one_more write x (out_of n l)
  unfolding one_more
  cell-walked n x l l' w e f = rw (e, f)

  -- ---- lists one after the other, from lo on, below hi
  module _ (g : ℕ → List (List ℕ)) (lo hi : ℕ) (o : Out) where
    walk-next : lo < hi → walked write (spread g lo (hi - lo)) o ≡ walked write (spread g (lo + 1) (hi - (lo + 1))) (walked write (g lo) o)
    walk-next h = ap (λ l. walked write l o) (spread-next g lo hi h) ∙ walked-append (g lo) (spread g (lo + 1) (hi - (lo + 1))) o

    -- where a walk has come so far that it ends in the whole, there is room for its next list
    pub walk-room : (whole : Out) → lo < hi → walked write (spread g lo (hi - lo)) o ≡ whole → Roomy write whole → Roomy write (walked write (g lo) o)
    walk-room whole h e r = roomy-all (spread g (lo + 1) (hi - (lo + 1))) (walked write (g lo) o) (subst (Roomy write) (sym e ∙ walk-next h) r)

    -- and the walk goes on from what that list gives
    pub walk-on : (whole o' : Out) → lo < hi → walked write (spread g lo (hi - lo)) o ≡ whole → o' ≡ walked write (g lo) o
        → walked write (spread g (lo + 1) (hi - (lo + 1))) o' ≡ whole
    walk-on whole o' h e f = ap (walked write (spread g (lo + 1) (hi - (lo + 1)))) f ∙ sym (walk-next h) ∙ e

    pub walk_end : (whole : Out) → hi ≤ lo → walked write (spread g lo (hi - lo)) o ≡ whole → o ≡ whole
    walk_end whole h e = sym (ap (λ l. walked write l o) (spread-done g lo hi h) ∙ walked_none o) ∙ e

  -- ---- one action: where the set has it, and where not
  module _ (lacking i s a : ℕ) (o : Out) where
    pub cell-there : has lacking a ≡ true → walked write (cell_in lacking i s a) o ≡ one_more write (cell i s a) o
    unfolding cell_in walked
    cell-there e = rw e

    pub cell-not : has lacking a ≡ false → walked write (cell_in lacking i s a) o ≡ o
    unfolding cell_in walked
    cell-not e = rw e

  pub nothing-lacks : (lacking i s : ℕ) (o : Out) → lacking ≡ 0 → walked write (cells_in lacking i s) o ≡ o
  unfolding cells_in cell_in
  nothing-lacks lacking i s o z =
      ap (λ l. walked write l o) (spread_none (cell_in lacking i s) 0 max_actions
      (λ a p. ap (λ b. cond b (cell i s a ∷ []) []) (ap (λ n. has n a) z ∙ not_so (has 0 a) (none_in a))))
      ∙ walked_none o

pub cell-stored : (write : Bool) (l : List ℕ) (rows i s a : ℕ) → write ≡ true
    → set (set (set l (cell_bytes * rows) i) (cell_bytes * rows + 1) s) (cell_bytes * rows + 2) a ≡ cond write (sets l (cell_bytes * rows) (cell i s a)) l
cell-stored write l rows i s a e = rw e (stored l (cell_bytes * rows) i s a)

-- ---- a component's cells state by state, and a table's component by component
module _ (write : Bool) (t : List ℕ) (i states : ℕ) (e : states ≡ block_word t i 0) where
  pub by-states : (o : Out) → walked write (spread (λ s. cells_in (lack_of t i s) i s) 0 (states - 0)) o ≡ walked write (cells_by t i) o
  unfolding cells_by
  by-states o = let z : states - 0 ≡ states = omega arith in rw (z, e)
