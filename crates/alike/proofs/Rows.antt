-- The rows of a merged component that leave a pair by an action are those that the two have for it, in order.
use mathlib.Core.Path.{◌≡◌, refl, sym, ◌∙◌, ap, ap₂}
use mathlib.Core.Bool.{Bool, true, false, cond, ◌||◌}
use mathlib.Core.List.Memᴰ.{head as here}
use mathlib.Core.List.Memᴰ.{not-nil as in-none}
use mathlib.Core.List.Memᴰ.{tail as there}
use mathlib.Core.List.{List, [], ◌∷◌, ◌++◌, map, Memᴰ as In}
use Prim.Native.Nat.{ℕ, zero, suc, ◌<◌}
use native.Mathlib.Omega.{arith}
use Rattle.laws.specs.Sets.{has, ◌∪◌, ◌∖◌}
use Rattle.laws.specs.Fold.{spread}
use Rattle.laws.proofs.SetLaws.{has-or, or-regroup, without-or}
use Rattle.laws.proofs.ListLaws.{map-in, spread-in}
use Rattle.laws.proofs.PairLaws.{pair_parts}
use Rattle.answer.specs.Limits.{max_actions}
use Rattle.model.specs.Model.{Row, Comp, inputs, outputs, acts}
use Rattle.merged.specs.Merge.{rows_by, first_moves, second_moves, each_with, pair_rows, product_rows, merged}
use Rattle.merged.specs.MergedAs.{pair_of}
use Rattle.iosa.proofs.Acceptance.Rows.{leaves-true}
use Rattle.merged.proofs.Merging.Rows.{rows-by-in, by_append, each-with-in}
use Rattle.alike.proofs.Lists.{spread-one}

-- ---- the rows by which action a leaves x, of a list of rows
by-spread : (f : ℕ → List Row) (x a k n : ℕ) → rows_by (spread f k n) x a ≡ spread (λ j. rows_by (f j) x a) k n
unfolding rows_by
by-spread f x a k zero = refl
by-spread f x a k (suc n) = by_append (f k) (spread f (suc k) n) x a ∙ ap (λ l. rows_by (f k) x a ++ l) (by-spread f x a (suc k) n)

-- none of them, or all
no-row : (l : List Row) → ((r : Row) → In r l → ⊥) → l ≡ []
no-row [] h = refl
no-row (r ∷ l) h = absurd (h r (here refl))

by-none : (rs : List Row) (x a : ℕ) → ((r : Row) → In r rs → r.from ≡ x → r.action ≡ a → ⊥) → rows_by rs x a ≡ []
by-none rs x a h = no-row (rows_by rs x a) (λ r m. let p = rows-by-in rs x a m in h r p.0 p.1 p.2)

by_all : (rs : List Row) (x a : ℕ) → ((r : Row) → In r rs → (r.from ≡ x) × (r.action ≡ a)) → rows_by rs x a ≡ rs
unfolding rows_by
by_all [] x a h = refl
by_all (r ∷ rs) x a h =
    let p = h r (here refl) in
    rw (leaves-true r x a p.0 p.1, rows_by) (ap (λ l. r ∷ l) (by_all rs x a (λ q m. h q (there m))))

-- ---- of a pair
module _ (c d : Comp) where
  pair-leaves : (s t a : ℕ) {x : Row} → In x (pair_rows c d s t a) → (x.from ≡ pair_of d s t) × (x.action ≡ a)
  unfolding pair_rows
  pair-leaves s t a {x} m = go (has (acts c) a) (has (acts d) a) m
    where
      first : In x (map (first_moves d s t) (rows_by c.rows s a)) → (x.from ≡ pair_of d s t) × (x.action ≡ a)
      first m = let p = map-in (first_moves d s t) (rows_by c.rows s a) m in rw p.2 (refl, (rows-by-in c.rows s a p.1).2)

      second : In x (map (second_moves d s t) (rows_by d.rows t a)) → (x.from ≡ pair_of d s t) × (x.action ≡ a)
      second m = let p = map-in (second_moves d s t) (rows_by d.rows t a) m in rw p.2 (refl, (rows-by-in d.rows t a p.1).2)

      both : In x (each_with d s t (rows_by c.rows s a) (rows_by d.rows t a)) → (x.from ≡ pair_of d s t) × (x.action ≡ a)
      both m = let p = each-with-in d s t (rows_by c.rows s a) (rows_by d.rows t a) m in rw p.4 (refl, (rows-by-in c.rows s a p.2).2)

      go : (b e : Bool)
          → In x (cond b (cond e (each_with d s t (rows_by c.rows s a) (rows_by d.rows t a)) (map (first_moves d s t) (rows_by c.rows s a)))
          (cond e (map (second_moves d s t) (rows_by d.rows t a)) []))
          → (x.from ≡ pair_of d s t) × (x.action ≡ a)
      go true true m = both m
      go true false m = first m
      go false true m = second m
      go false false m = absurd (in-none m)

  abbrev rows_from : ℕ → ℕ → List Row
  rows_from s t = spread (pair_rows c d s t) 0 max_actions

  from-leaves : (s t : ℕ) {x : Row} → In x (rows_from s t) → x.from ≡ pair_of d s t
  from-leaves s t m = let p = spread-in (pair_rows c d s t) 0 max_actions m in (pair-leaves s t p.0 p.3).0

  module _ (s t a : ℕ) (hs : s < c.states) (ht : t < d.states) (ha : a < max_actions) where
    abbrev x : ℕ
    x = pair_of d s t

    in-actions : rows_by (rows_from s t) x a ≡ pair_rows c d s t a
    in-actions =
        by-spread (pair_rows c d s t) x a 0 max_actions
        ∙ spread-one (λ b. rows_by (pair_rows c d s t b) x a) 0 max_actions a (omega arith) (omega arith)
        (λ b p q n. by-none (pair_rows c d s t b) x a (λ r m f g. n (sym (pair-leaves s t b m).1 ∙ g)))
        ∙ by_all (pair_rows c d s t a) x a (λ r m. pair-leaves s t a m)

    in-seconds : rows_by (spread (rows_from s) 0 d.states) x a ≡ pair_rows c d s t a
    in-seconds =
        by-spread (rows_from s) x a 0 d.states
        ∙ spread-one (λ u. rows_by (rows_from s u) x a) 0 d.states t (omega arith) (omega arith)
        (λ u p q n. by-none (rows_from s u) x a (λ r m f g.
        n (pair_parts d.states s s u t (omega arith) ht (sym (from-leaves s u m) ∙ f)).1))
        ∙ in-actions

    -- the rows of the merged component from the pair (s, t) by a
    pub rows-of-pair : rows_by (merged c d).rows (pair_of d s t) a ≡ pair_rows c d s t a
    unfolding merged product_rows
    rows-of-pair =
        by-spread (λ v. spread (rows_from v) 0 d.states) x a 0 c.states
        ∙ spread-one (λ v. rows_by (spread (rows_from v) 0 d.states) x a) 0 c.states s (omega arith) (omega arith)
        (λ v p q n. by-none (spread (rows_from v) 0 d.states) x a (λ r m f g.
        let k = spread-in (rows_from v) 0 d.states m in
        n (pair_parts d.states v s k.0 t (omega (arith, k.2)) ht (sym (from-leaves v k.0 k.3) ∙ f)).0))
        ∙ in-seconds

  -- its actions are those of both
  acts-joined : acts (merged c d) ≡ acts c ∪ acts d
  unfolding merged
  acts-joined =
      let i = c.ins ∪ d.ins in
      let o = c.outs ∪ d.outs in
      let u = c.uins ∪ d.uins in
      let v = c.uouts ∪ d.uouts in
      or-regroup (i ∖ o) (u ∖ v) o v
      ∙ ap₂ ◌∪◌ (without-or i o) (without-or u v)
      ∙ or-regroup i o u v
      ∙ ap₂ ◌∪◌ (or-regroup c.ins d.ins c.uins d.uins) (or-regroup c.outs d.outs c.uouts d.uouts)
      ∙ or-regroup (inputs c) (inputs d) (outputs c) (outputs d)

  pub acts-of-merged : (a : ℕ) → has (acts (merged c d)) a ≡ (has (acts c) a || has (acts d) a)
  acts-of-merged a = ap (λ s. has s a) acts-joined ∙ has-or (acts c) (acts d) a
