-- What the two walks of `repair` count and write.
use mathlib.Core.Path.{◌≡◌, refl, sym, ◌∙◌, ap, ap₂}
use mathlib.Core.Bool.{Bool, true, false, ◌||◌, cond, false≢true}
use mathlib.Core.List.{List, [], ◌∷◌, ◌++◌}
use Prim.Native.Nat.{ℕ, ◌+◌, ◌*◌, ◌≤◌, ◌<◌}
use native.Mathlib.Omega.{arith}
use lib.ListN.{length, get_or, drop, length-append}
use lib.Seq.{sets, sets-eq}
use lib.Dec.{ltb}
use Rattle.laws.specs.Fold.{spread}
use Rattle.laws.proofs.TabLaws.{spread-length, sum-at-most}
use Rattle.laws.proofs.ListLaws.{All, at_all, in-at}
use Rattle.answer.specs.Limits.{max_actions, max_states, max_rows, max_bytes}
use Rattle.model.specs.Model.{Comp, Model, comp_at, row_count}
use Rattle.model.specs.Text.{text_of}
use Rattle.iosa.specs.Checks.{lacks_row}
use Rattle.model.specs.WellFormed.{WellFormed}
use Rattle.measure.proofs.Lines.{rows_more, no_rows, rows-most}
use Rattle.fill.proofs.FillLaws.{sets-append}
use Rattle.lacking.specs.Repair.{loop_at, repaired_of, cell, cell_at, cells_of, added_to, bytes_in}
use Rattle.lacking.specs.declared.Tally.{Tally}
use Rattle.lacking.specs.Walk.{most_cells, cell_bytes, Out, out_of, width_of, one_more, walked, Roomy}
use Rattle.lacking.proofs.WalkLaws.{length-walked}
use Rattle.lacking.proofs.Counts.{widths, repaired-row-count, repaired-byte-count}
use Rattle.lacking.proofs.RepairedModels.{added-has}

module _ (write : Bool) where
  walked-rows : (xs : List (List ℕ)) (o : Out) → (walked write xs o).rows ≡ o.rows + length xs
  unfolding walked one_more
  walked-rows [] o = omega arith
  walked-rows (x ∷ xs) o = omega (arith, walked-rows xs (one_more write x o))

  walked-bytes : (xs : List (List ℕ)) (o : Out) → (walked write xs o).bytes ≡ o.bytes + widths xs
  unfolding walked one_more
  walked-bytes [] o = omega arith
  walked-bytes (x ∷ xs) o = omega (arith, walked-bytes xs (one_more write x o))

-- nothing is written
walked-dry : (xs : List (List ℕ)) (o : Out) → (walked false xs o).list ≡ o.list
unfolding walked one_more
walked-dry [] o = refl
walked-dry (x ∷ xs) o = walked-dry xs (one_more false x o)

-- every cell is
walked-wet : (xs : List (List ℕ)) (o : Out) → All (λ x. length x ≡ cell_bytes) xs
    → (walked true xs o).list ≡ sets o.list (cell_bytes * o.rows) (bytes_in xs)
unfolding walked one_more bytes_in
walked-wet [] o h = refl
walked-wet (x ∷ xs) o h =
    let e : cell_bytes * (o.rows + 1) ≡ cell_bytes * o.rows + length x = omega (arith, h.0) in
    walked-wet xs (one_more true x o) h.1 ∙ ap (λ k. sets (sets o.list (cell_bytes * o.rows) x) k (bytes_in xs)) e
    ∙ sym (sets-append o.list x (bytes_in xs) (cell_bytes * o.rows))

bytes-length : (xs : List (List ℕ)) → All (λ x. length x ≡ cell_bytes) xs → length (bytes_in xs) ≡ cell_bytes * length xs
unfolding bytes_in
bytes-length [] h = refl
bytes-length (x ∷ xs) h = omega (arith, length-append x (bytes_in xs), h.0, bytes-length xs h.1)

width-most : (x : List ℕ) → width_of x ≤ 512
unfolding width_of
width-most x = let r = loop_at (get_or x 1 0) (get_or x 2 0) in omega (arith, rows-most (r ∷ []), rows_more r [], no_rows)

widths-most : (xs : List (List ℕ)) → widths xs ≤ 512 * length xs
widths-most [] = omega arith
widths-most (x ∷ xs) = omega (arith, width-most x, widths-most xs)

one-most : (i : ℕ) (c : Comp) (s a : ℕ) → length (cell_at i c s a) ≤ 1
unfolding cell_at
one-most i c s a = go (lacks_row c s a)
  where
    go : (b : Bool) → length (cond b (cell i s a ∷ []) []) ≤ 1
    go true = omega arith
    go false = omega arith

bound : (x y n : ℕ) → x ≡ y → y ≤ 1 * n → x ≤ n
bound x y n e h = omega arith

state-most : (i : ℕ) (c : Comp) (s : ℕ) → length (spread (cell_at i c s) 0 max_actions) ≤ max_actions
state-most i c s = bound _ _ max_actions (spread-length (cell_at i c s) 0 max_actions)
    (sum-at-most (λ a. length (cell_at i c s a)) 1 0 max_actions (λ a p q. one-most i c s a))

bound_by : (x y n m : ℕ) → x ≡ y → y ≤ max_actions * n → n ≤ m → x ≤ max_actions * m
bound_by x y n m e h l = omega arith

cells-most : (i : ℕ) (c : Comp) → c.states ≤ max_states → length (cells_of i c) ≤ max_actions * max_states
unfolding cells_of
cells-most i c h =
    bound_by _ _ c.states max_states (spread-length (λ s. spread (cell_at i c s) 0 max_actions) 0 c.states)
    (sum-at-most (λ s. length (spread (cell_at i c s) 0 max_actions)) max_actions 0 c.states (λ s p q. state-most i c s)) h

module _ (m : Model) (w : WellFormed m) where
  added-most : length (added_to m) ≤ most_cells
  unfolding added_to
  added-most =
      let e = spread-length (λ i. cells_of i (comp_at m i)) 0 (length m) in
      let f = sum-at-most (λ i. length (cells_of i (comp_at m i))) (max_actions * max_states) 0 (length m)
      (λ i p q. cells-most i (comp_at m i) (w.each i (omega arith)).states) in
      omega (arith, e, f, w.components)

  added-cells : All (λ x. length x ≡ cell_bytes) (added_to m)
  added-cells = at_all (λ x. length x ≡ cell_bytes) [] (added_to m) (λ k h. ap length ((added-has m w _).0 (in-at [] (added_to m) k h)).bytes)

  -- a walk from no rows and the bytes of the text
  module _ (write : Bool) (bytes : ℕ) (list : List ℕ) (eb : bytes ≡ length (text_of m))
      (long : write ≡ true → cell_bytes * length (added_to m) ≤ length list) where
    abbrev start : Out
    start = record { rows = 0; bytes = bytes; list = list }

    abbrev end : Out
    end = walked write (added_to m) start

    end-rows : end.rows ≡ length (added_to m)
    end-rows = omega (arith, walked-rows write (added_to m) start)

    end-bytes : end.bytes ≡ length (text_of (repaired_of m))
    end-bytes = omega (arith, walked-bytes write (added_to m) start, repaired-byte-count m w, eb)

    end-roomy : Roomy write end
    end-roomy = record {
      rows = omega (arith, end-rows, added-most);
      bytes = omega (arith, walked-bytes write (added_to m) start, widths-most (added_to m), added-most, w.bytes, eb);
      list = λ e. omega (arith, end-rows, long e, length-walked write (added_to m) start);
    }

  end_list : (bytes : ℕ) (list : List ℕ) → cell_bytes * length (added_to m) ≤ length list
      → (walked true (added_to m) (record { rows = 0; bytes = bytes; list = list })).list ≡ bytes_in (added_to m) ++ drop (cell_bytes * length (added_to m)) list
  end_list bytes list h =
      let e = bytes-length (added_to m) added-cells in
      let z : 0 + length (bytes_in (added_to m)) ≡ cell_bytes * length (added_to m) = omega (arith, e) in
      walked-wet (added_to m) (record { rows = 0; bytes = bytes; list = list }) added-cells
      ∙ sets-eq (bytes_in (added_to m)) list 0 (omega (arith, e, h)) ∙ ap (λ k. bytes_in (added_to m) ++ drop k list) z

-- ---- what the code learns from the first walk and from the second
module _ (m : Model) (w : WellFormed m) (bytes : ℕ) (l : List ℕ) (eb : bytes ≡ length (text_of m)) where
  pub dry-roomy : Roomy false (walked false (added_to m) (record { rows = 0; bytes = bytes; list = l }))
  dry-roomy = end-roomy m w false bytes l eb (λ e. absurd (false≢true e))

  module _ (n : Tally) (l' : List ℕ) (e : out_of n l' ≡ walked false (added_to m) (record { rows = 0; bytes = bytes; list = l })) where
    pub dry-rows : n.rows ≡ length (added_to m)
    dry-rows = ap (λ o. o.rows) e ∙ end-rows m w false bytes l eb (λ e. absurd (false≢true e))

    dry-bytes : n.bytes ≡ length (text_of (repaired_of m))
    dry-bytes = ap (λ o. o.bytes) e ∙ end-bytes m w false bytes l eb (λ e. absurd (false≢true e))

    pub dry-list : l' ≡ l
    dry-list = ap (λ o. o.list) e ∙ walked-dry (added_to m) (record { rows = 0; bytes = bytes; list = l })

    pub rows_fit : n.rows ≤ most_cells
    rows_fit = omega (arith, dry-rows, added-most m w)

    pub needed-is : 3 * n.rows ≡ cell_bytes * length (added_to m)
    needed-is = ap (λ x. cell_bytes * x) dry-rows

    -- room in the list as it is after the walk is room in the list
    pub room-there : 3 * n.rows ≤ length l' → cell_bytes * length (added_to m) ≤ length l
    room-there h = omega (arith, h, needed-is, ap length dry-list)

    pub no-room-there : length l' < 3 * n.rows → length l < 3 * n.rows
    no-room-there h = omega (arith, h, ap length dry-list)

    pub wet-roomy : 3 * n.rows ≤ length l' → Roomy true (walked true (added_to m) (record { rows = 0; bytes = bytes; list = l' }))
    wet-roomy h = end-roomy m w true bytes l' eb (λ _. omega (arith, h, needed-is))

    pub wet-list : 3 * n.rows ≤ length l' → (k : Tally) (l'' : List ℕ) → out_of k l'' ≡ walked true (added_to m) (record { rows = 0; bytes = bytes; list = l' })
        → l'' ≡ bytes_in (added_to m) ++ drop (cell_bytes * length (added_to m)) l
    wet-list h k l'' f =
        ap (λ o. o.list) f ∙ end_list m w bytes l' (omega (arith, h, needed-is))
        ∙ ap (λ x. bytes_in (added_to m) ++ drop (cell_bytes * length (added_to m)) x) dry-list

    -- 26, counted
    pub size-there : (rows : ℕ) (b : Bool) → rows ≡ row_count m → b ≡ (ltb max_rows (rows + n.rows) || ltb max_bytes n.bytes)
        → (ltb max_rows (row_count (repaired_of m)) || ltb max_bytes (length (text_of (repaired_of m)))) ≡ b
    size-there rows b er eb =
        let e : row_count (repaired_of m) ≡ rows + n.rows = repaired-row-count m w ∙ ap₂ (λ x y. x + y) (sym er) (sym dry-rows) in
        ap₂ (λ x y. ltb max_rows x || ltb max_bytes y) e (sym dry-bytes) ∙ sym eb
