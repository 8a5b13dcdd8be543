-- The composed step of the merged model from the pairs of s is the one of the model from s, with its end paired.
use mathlib.Core.Path.{◌≡◌, refl, sym, ◌∙◌, ap, ap₂}
use mathlib.Core.Bool.{Bool, true, false, cond, ◌||◌}
use mathlib.Core.Option.{Option, none, some}
use mathlib.Core.List.{List, [], ◌∷◌, map}
use Prim.Native.Nat.{ℕ, zero, suc, ◌+◌, ◌<◌}
use native.Mathlib.Omega.{arith}
use lib.ListN.{length, get_or}
use lib.Bits.{or_zero_r}
use Rattle.laws.specs.Sets.{has, ◌∪◌}
use Rattle.laws.specs.Search.{seek, when, map_some}
use Rattle.laws.proofs.SetLaws.{has-or, or_assoc}
use Rattle.laws.proofs.SearchLaws.{seek-here, seek-next, seek-end}
use Rattle.laws.proofs.RangeLaws.{seek-shift, seek-ext}
use Rattle.model.specs.Model.{Row, Comp, Model, no_row, acts}
use Rattle.model.specs.WellFormed.{WellComp}
use Rattle.iosa.specs.Product.{Within}
use Rattle.iosa.specs.Stepped.{Gone}
use Rattle.iosa.specs.Checks.{leaves, row_for}
use Rattle.iosa.specs.Step.{gone_by, move, together, move_all, is_uout, urgent_step}
use Rattle.merged.specs.Merge.{rows_by, first_moves, second_moves, each_with, pair_rows, merged, merged_at}
use Rattle.merged.specs.MergedAs.{pair_of}
use Rattle.merged.specs.MergedExactly.{paired_at}
use Rattle.iosa.proofs.Acceptance.Rows.{act-below}
use Rattle.iosa.proofs.Settling.Each.{All}
use Rattle.alike.proofs.Rows.{rows-of-pair, acts-of-merged}

-- ---- the first row by an action
abbrev head_of : List Row → Option Row
head_of [] = none
head_of (r ∷ rs) = some r

-- row k where it leaves s by a
abbrev leaving : List Row → ℕ → ℕ → ℕ → Option Row
leaving rs s a k = when (leaves (get_or rs k no_row) s a) (get_or rs k no_row)

first-of : (rs : List Row) (s a : ℕ) → seek (leaving rs s a) 0 (length rs) ≡ head_of (rows_by rs s a)
unfolding rows_by
first-of [] s a = seek-end (leaving [] s a) 0 0 (omega arith)
first-of (r ∷ rs) s a = go (leaves r s a) refl (first-of rs s a)
  where
    go : (b : Bool) → leaves r s a ≡ b → seek (leaving rs s a) 0 (length rs) ≡ head_of (rows_by rs s a)
        → seek (leaving (r ∷ rs) s a) 0 (suc (length rs)) ≡ head_of (cond b (r ∷ rows_by rs s a) (rows_by rs s a))
    go true e ih = seek-here (leaving (r ∷ rs) s a) 0 (suc (length rs)) (omega arith) (ap (λ b. when b r) e)
    go false e ih =
        let n : suc (length rs) ≡ 1 + length rs = omega arith in
        seek-next (leaving (r ∷ rs) s a) 0 (suc (length rs)) (omega arith) (ap (λ b. when b r) e)
        ∙ ap (seek (leaving (r ∷ rs) s a) 1) n
        ∙ seek-shift (leaving (r ∷ rs) s a) 1 0 (length rs)
        ∙ seek-ext (λ j. leaving (r ∷ rs) s a (1 + j)) (leaving rs s a) 0 (length rs)
        (λ j p q. let n : 1 + j ≡ suc j = omega arith in ap (leaving (r ∷ rs) s a) n)
        ∙ ih

row-for : (c : Comp) (s a : ℕ) → row_for c s a ≡ head_of (rows_by c.rows s a)
unfolding row_for
row-for c s a = first-of c.rows s a

-- ---- one component for two
-- both moves, of which the second is d's
abbrev pair_gone : Comp → Option (Gone ℕ) → Option (Gone ℕ) → Option (Gone ℕ)
pair_gone d none o = none
pair_gone d (some g) none = none
pair_gone d (some g) (some h) = some (record { resets = g.resets ∪ h.resets; after = pair_of d g.after h.after })

module _ (d : Comp) (s t : ℕ) where
  both-none : (rs : List Row) → each_with d s t rs [] ≡ []
  unfolding each_with
  both-none [] = refl
  both-none (r ∷ rs) = both-none rs

  both-gone : (rs qs : List Row) → gone_by (head_of (each_with d s t rs qs)) ≡ pair_gone d (gone_by (head_of rs)) (gone_by (head_of qs))
  unfolding each_with
  both-gone [] qs = refl
  both-gone (r ∷ rs) [] = ap (λ l. gone_by (head_of l)) (both-none rs)
  both-gone (r ∷ rs) (q ∷ qs) = refl

  first-gone : (rs : List Row) → gone_by (head_of (map (first_moves d s t) rs)) ≡ pair_gone d (gone_by (head_of rs)) (some (record { resets = 0; after = t }))
  first-gone [] = refl
  first-gone (r ∷ rs) = λ i. some (record { resets = sym (or_zero_r r.resets) i; after = pair_of d r.target t })

  second-gone : (qs : List Row) → gone_by (head_of (map (second_moves d s t) qs)) ≡ pair_gone d (some (record { resets = 0; after = s })) (gone_by (head_of qs))
  second-gone [] = refl
  second-gone (q ∷ qs) = refl

module _ (c d : Comp) (wc : WellComp c) (wd : WellComp d) (s t a : ℕ) (hs : s < c.states) (ht : t < d.states) where
  abbrev by_rows : Bool → List Row → ℕ → Option (Gone ℕ)
  by_rows b rs x = elim b as (λ _. Option (Gone ℕ)) [ true ↦ gone_by (head_of rs) | false ↦ some (record { resets = 0; after = x }) ]

  move-by-rows : (e : Comp) (x : ℕ) → move e x a ≡ by_rows (has (acts e) a) (rows_by e.rows x a) x
  unfolding move
  move-by-rows e x =
      ap (λ o. elim (has (acts e) a) as (λ _. Option (Gone ℕ)) [ true ↦ gone_by o | false ↦ some (record { resets = 0; after = x }) ]) (row-for e x a)

  abbrev joined : Bool → Bool → List Row
  joined b k =
      cond b (cond k (each_with d s t (rows_by c.rows s a) (rows_by d.rows t a)) (map (first_moves d s t) (rows_by c.rows s a)))
      (cond k (map (second_moves d s t) (rows_by d.rows t a)) [])

  cases : (b k : Bool) → by_rows (b || k) (joined b k) (pair_of d s t) ≡ pair_gone d (by_rows b (rows_by c.rows s a) s) (by_rows k (rows_by d.rows t a) t)
  cases true true = both-gone d s t (rows_by c.rows s a) (rows_by d.rows t a)
  cases true false = first-gone d s t (rows_by c.rows s a)
  cases false true = second-gone d s t (rows_by d.rows t a)
  cases false false = refl

  -- where neither has the action no row is asked for
  rows-asked : (b k : Bool) → has (acts c) a ≡ b → has (acts d) a ≡ k
      → by_rows (b || k) (rows_by (merged c d).rows (pair_of d s t) a) (pair_of d s t) ≡ by_rows (b || k) (joined b k) (pair_of d s t)
  unfolding pair_rows
  rows-asked true k e f = ap (λ l. by_rows true l (pair_of d s t)) (rows-of-pair c d s t a hs ht (act-below c wc a e) ∙ ap₂ joined e f)
  rows-asked false true e f = ap (λ l. by_rows true l (pair_of d s t)) (rows-of-pair c d s t a hs ht (act-below d wd a f) ∙ ap₂ joined e f)
  rows-asked false false e f = refl

  pub move-of-pair : move (merged c d) (pair_of d s t) a ≡ pair_gone d (move c s a) (move d t a)
  move-of-pair =
      move-by-rows (merged c d) (pair_of d s t)
      ∙ ap (λ b. by_rows b (rows_by (merged c d).rows (pair_of d s t) a) (pair_of d s t)) (acts-of-merged c d a)
      ∙ rows-asked (has (acts c) a) (has (acts d) a) refl refl
      ∙ cases (has (acts c) a) (has (acts d) a)
      ∙ ap₂ (pair_gone d) (sym (move-by-rows c s)) (sym (move-by-rows d t))

-- ---- all components
-- where a step went, with the state paired
abbrev pub gone_into : {S T : Type 0} → (S → T) → Gone S → Gone T
gone_into f g = record { resets = g.resets; after = f g.after }

three-together : (c d : Comp) (cs : Model) (o p : Option (Gone ℕ)) (q : Option (Gone (List ℕ)))
    → together (pair_gone d o p) q ≡ map_some (gone_into (paired_at (c ∷ d ∷ cs) 0)) (together o (together p q))
three-together c d cs none p q = refl
three-together c d cs (some g) none q = refl
three-together c d cs (some g) (some h) none = refl
three-together c d cs (some g) (some h) (some k) =
    λ i. some (record { resets = or_assoc g.resets h.resets k.resets i; after = pair_of d g.after h.after ∷ k.after })

one-together : (c : Comp) (cs : Model) (i : ℕ) (o : Option (Gone ℕ)) (q : Option (Gone (List ℕ)))
    → together o (map_some (gone_into (paired_at cs i)) q) ≡ map_some (gone_into (paired_at (c ∷ cs) (suc i))) (together o q)
one-together c cs i none q = refl
one-together c cs i (some g) none = refl
one-together c cs i (some g) (some k) = refl

pub moves-of-pairs : (i : ℕ) (m : Model) → All WellComp m → suc i < length m → (s : List ℕ) → Within m s → (a : ℕ)
    → move_all (merged_at m i) (paired_at m i s) a ≡ map_some (gone_into (paired_at m i)) (move_all m s a)
unfolding merged_at move_all
moves-of-pairs i [] w h s ok a = absurd (omega arith)
moves-of-pairs i (c ∷ cs) w h [] ok a = absurd ok
moves-of-pairs zero (c ∷ []) w h (s ∷ ss) ok a = absurd (omega arith)
moves-of-pairs zero (c ∷ d ∷ cs) w h (s ∷ []) ok a = absurd ok.1
moves-of-pairs zero (c ∷ d ∷ cs) w h (s ∷ t ∷ ss) ok a =
    ap (λ o. together o (move_all cs ss a)) (move-of-pair c d w.0 w.1.0 s t a ok.0 ok.1.0)
    ∙ three-together c d cs (move c s a) (move d t a) (move_all cs ss a)
moves-of-pairs (suc i) (c ∷ cs) w h (s ∷ ss) ok a =
    ap (together (move c s a)) (moves-of-pairs i cs w.1 (omega arith) ss ok.1 a)
    ∙ one-together c cs i (move c s a) (move_all cs ss a)

-- ---- urgent outputs
or-regrouped : (x y z : Bool) → ((x || y) || z) ≡ (x || (y || z))
or-regrouped true y z = refl
or-regrouped false y z = refl

pub uouts-of-pairs : (i : ℕ) (m : Model) → suc i < length m → (a : ℕ) → is_uout (merged_at m i) a ≡ is_uout m a
unfolding merged_at is_uout merged
uouts-of-pairs i [] h a = absurd (omega arith)
uouts-of-pairs zero (c ∷ []) h a = absurd (omega arith)
uouts-of-pairs zero (c ∷ d ∷ cs) h a =
    ap (λ b. b || is_uout cs a) (has-or c.uouts d.uouts a) ∙ or-regrouped (has c.uouts a) (has d.uouts a) (is_uout cs a)
uouts-of-pairs (suc i) (c ∷ cs) h a = ap (λ b. has c.uouts a || b) (uouts-of-pairs i cs (omega arith) a)

-- "An urgent step takes one enabled `uout` action of the composition": merged or not, the same
pub steps-of-pairs : (i : ℕ) (m : Model) → All WellComp m → suc i < length m → (s : List ℕ) → Within m s → (a : ℕ)
    → urgent_step (merged_at m i) (paired_at m i s) a ≡ map_some (gone_into (paired_at m i)) (urgent_step m s a)
unfolding urgent_step
steps-of-pairs i m w h s ok a =
    ap₂ step_of (uouts-of-pairs i m h a) (moves-of-pairs i m w h s ok a) ∙ go (is_uout m a) (move_all m s a)
  where
    step_of : Bool → Option (Gone (List ℕ)) → Option (Gone (List ℕ))
    step_of b o = elim b as (λ _. Option (Gone (List ℕ))) [ true ↦ o | false ↦ none ]

    go : (b : Bool) (o : Option (Gone (List ℕ))) → step_of b (map_some (gone_into (paired_at m i)) o) ≡ map_some (gone_into (paired_at m i)) (step_of b o)
    go true o = refl
    go false o = refl
