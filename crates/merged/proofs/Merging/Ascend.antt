-- The rows of the merged component "ascend strictly by from, action, guard, resets, target".
use mathlib.Core.Path.{◌≡◌, refl, sym, ◌∙◌, ap}
use mathlib.Core.Logic.{⊎_elim}
use mathlib.Core.Bool.{Bool, true, false, cond, true≢false, false≢true}
use mathlib.Core.List.Memᴰ.{head as here}
use mathlib.Core.List.Memᴰ.{tail as there}
use mathlib.Core.List.{List, [], ◌∷◌, map, Memᴰ as In}
use Prim.Native.Nat.{ℕ, suc, ◌+◌, ◌≤◌, ◌<◌}
use native.Mathlib.Omega.{arith}
use native.Mathlib.Nat.{mul-le-mul_right}
use Rattle.laws.specs.Sets.{has, ◌∈◌}
use Rattle.laws.specs.Fold.{spread}
use Rattle.laws.proofs.SetLaws.{in-or, or-in-l, or-in-r, in_one}
use Rattle.laws.proofs.ListLaws.{map-in, spread-in, Pairwise, pairwise_append, pairwise-spread, pairwise-from, pairwise_map}
use Rattle.laws.proofs.PairLaws.{pair_lt}
use Rattle.answer.specs.Limits.{max_actions}
use Rattle.model.specs.Model.{Row, Comp, no_row, guard_set, inputs, outputs, urgents, acts}
use Rattle.model.specs.WellFormed.{lower, before, WellComp}
use Rattle.iosa.specs.Automaton.{Leads, auto_of, Conditions, Compatible}
use Rattle.iosa.specs.Checks.{leaves, unclocked}
use Rattle.merged.specs.Merge.{rows_by, first_moves, second_moves, both_move, join_guards, each_with, pair_rows, product_rows}
use Rattle.merged.specs.MergedAs.{pair_of}
use Rattle.iosa.proofs.Acceptance.Order.{lower-less, lower-same, lower-cases, before-irreflexive, before-transitive}
use Rattle.iosa.proofs.Acceptance.Guards.{guard-zero, guard-same}
use Rattle.merged.proofs.Merging.Rows.{rows-by-in, rows-by-lead, each-with-in, input-unguarded, pair-rows-in}

abbrev pub Before : Row → Row → Type 0
Before r q = before r q ≡ true

abbrev pub Ascending : List Row → Type 0
Ascending rs = Pairwise Before rs

-- behind from and action: guard, resets, target
abbrev Tail : Row → Row → Type 0
Tail r q = lower (r.guard ∷ r.resets ∷ r.target ∷ []) (q.guard ∷ q.resets ∷ q.target ∷ []) ≡ true

pub by-from : (r q : Row) → r.from < q.from → Before r q
unfolding before
by-from r q h = lower-less r.from q.from (r.action ∷ r.guard ∷ r.resets ∷ r.target ∷ []) (q.action ∷ q.guard ∷ q.resets ∷ q.target ∷ []) h

by-action : (r q : Row) → r.from ≡ q.from → r.action < q.action → Before r q
unfolding before
by-action r q e h =
    lower-same r.from q.from (r.action ∷ r.guard ∷ r.resets ∷ r.target ∷ []) (q.action ∷ q.guard ∷ q.resets ∷ q.target ∷ []) e
    ∙ lower-less r.action q.action (r.guard ∷ r.resets ∷ r.target ∷ []) (q.guard ∷ q.resets ∷ q.target ∷ []) h

same_head : (r q : Row) → r.from ≡ q.from → r.action ≡ q.action
    → before r q ≡ lower (r.guard ∷ r.resets ∷ r.target ∷ []) (q.guard ∷ q.resets ∷ q.target ∷ [])
unfolding before
same_head r q e f =
    lower-same r.from q.from (r.action ∷ r.guard ∷ r.resets ∷ r.target ∷ []) (q.action ∷ q.guard ∷ q.resets ∷ q.target ∷ []) e
    ∙ lower-same r.action q.action (r.guard ∷ r.resets ∷ r.target ∷ []) (q.guard ∷ q.resets ∷ q.target ∷ []) f

by-tail : (r q : Row) → r.from ≡ q.from → r.action ≡ q.action → Tail r q → Before r q
by-tail r q e f h = same_head r q e f ∙ h

tail_of : (r q : Row) → r.from ≡ q.from → r.action ≡ q.action → Before r q → Tail r q
tail_of r q e f h = sym (same_head r q e f) ∙ h

by-guard : (r q : Row) → r.from ≡ q.from → r.action ≡ q.action → r.guard < q.guard → Before r q
by-guard r q e f h = by-tail r q e f (lower-less r.guard q.guard (r.resets ∷ r.target ∷ []) (q.resets ∷ q.target ∷ []) h)

-- other targets in the same order
retarget : (g g' R R' u u' v v' : ℕ) → (u < u' → v < v') → lower (g ∷ R ∷ u ∷ []) (g' ∷ R' ∷ u' ∷ []) ≡ true → lower (g ∷ R ∷ v ∷ []) (g' ∷ R' ∷ v' ∷ []) ≡ true
unfolding lower
retarget g g' R R' u u' v v' f h =
    ⊎_elim
    (λ l. lower-less g g' (R ∷ v ∷ []) (R' ∷ v' ∷ []) l)
    (λ p. lower-same g g' (R ∷ v ∷ []) (R' ∷ v' ∷ []) p.0 ∙ ⊎_elim
    (λ l. lower-less R R' (v ∷ []) (v' ∷ []) l)
    (λ q. lower-same R R' (v ∷ []) (v' ∷ []) q.0 ∙ ⊎_elim
    (λ l. lower-less v v' [] [] (f l))
    (λ z. absurd (false≢true z.1))
    (lower-cases u u' [] [] q.1))
    (lower-cases R R' (u ∷ []) (u' ∷ []) p.1))
    (lower-cases g g' (R ∷ u ∷ []) (R' ∷ u' ∷ []) h)

-- ---- the rows of one state and action ascend too
pub rows-ascending : (c : Comp) → WellComp c → Ascending c.rows
rows-ascending c w = pairwise-from Before no_row before-transitive c.rows w.ascend

pub rows-by-ascend : (rs : List Row) (s a : ℕ) → Ascending rs → Ascending (rows_by rs s a)
unfolding rows_by
rows-by-ascend [] s a p = tt
rows-by-ascend (r ∷ rs) s a p = go (rows-by-ascend rs s a p.1) (leaves r s a)
  where
    go : Ascending (rows_by rs s a) → (b : Bool) → Ascending (cond b (r ∷ rows_by rs s a) (rows_by rs s a))
    go k true = (λ q m. p.0 q (rows-by-in rs s a m).0, k)
    go k false = k

-- ---- two rows of one state and action differ in their clocks
record Clocked (c : Comp) (a : ℕ) (r q : Row) : Type 0 where
  output : a ∈ outputs c
  x : ℕ
  y : ℕ
  first : r.guard ≡ suc x
  second : q.guard ≡ suc y
  less : x < y

not-before : (r q : Row) → Before r q → r.from ≡ q.from → r.guard ≡ q.guard → r.action ≡ q.action → r.resets ≡ q.resets → r.target ≡ q.target → ⊥
not-before r q h e f g k l =
    let w : r ≡ q = λ i. record { from = e i; guard = f i; action = g i; resets = k i; target = l i } in
    true≢false (sym h ∙ ap (λ z. before z q) w ∙ before-irreflexive q)

module _ (c : Comp) (o : Conditions (auto_of c)) (s a : ℕ) where
  two-rows-have-clocks : {r q : Row} → a ∈ acts c → In r (rows_by c.rows s a) → In q (rows_by c.rows s a) → Before r q → Clocked c a r q
  two-rows-have-clocks {r} {q} h m n b = go (has (unclocked c) a) refl
    where
      lr : Leads c s (guard_set r.guard) a r.resets r.target
      lr = rows-by-lead c s a m

      lq : Leads c s (guard_set q.guard) a q.resets q.target
      lq = rows-by-lead c s a n

      same_from : r.from ≡ q.from
      same_from = (rows-by-in c.rows s a m).1 ∙ sym (rows-by-in c.rows s a n).1

      same-action : r.action ≡ q.action
      same-action = (rows-by-in c.rows s a m).2 ∙ sym (rows-by-in c.rows s a n).2

      single : a ∈ unclocked c → ⊥
      single u =
          let e = o.cond_e.same u lr lq in
          not-before r q b same_from (guard-zero r.guard (o.cond_a.unguarded lr u) ∙ sym (guard-zero q.guard (o.cond_a.unguarded lq u)))
          same-action e.1 e.2

      less : (x y : ℕ) → r.guard ≡ suc x → q.guard ≡ suc y → x < y
      less x y e f =
          ⊎_elim
          (λ l. omega arith)
          (λ p.
          let i : x ∈ guard_set r.guard = rw e (in_one x) in
          let k : x ∈ guard_set q.guard = rw (← p.0) i in
          let z = o.cond_c.same x i k lr lq in
          absurd (not-before r q b same_from p.0 same-action z.2 z.3))
          (lower-cases r.guard q.guard (r.resets ∷ r.target ∷ []) (q.resets ∷ q.target ∷ []) (tail_of r q same_from same-action b))

      go : (v : Bool) → has (unclocked c) a ≡ v → Clocked c a r q
      go true u = absurd (single u)
      go false u =
          let out : a ∈ outputs c = ⊎_elim (λ i. absurd (true≢false (sym (or-in-l (inputs c) (urgents c) a i) ∙ u))) (λ p. p)
          (in-or (inputs c) (outputs c) a h) in
          let calm : a ∈ urgents c → ⊥ = λ i. true≢false (sym (or-in-r (inputs c) (urgents c) a i) ∙ u) in
          let x = o.cond_b.guarded lr out calm in
          let y = o.cond_b.guarded lq out calm in
          let e = guard-same r.guard (suc x.0) x.1 in
          let f = guard-same q.guard (suc y.0) y.1 in
          record { output = out; x = x.0; y = y.0; first = e; second = f; less = less x.0 y.0 e f }

-- ---- the rows of one pair and action
module _ (d : Comp) (s t : ℕ) where
  each-with-ascend : (rs qs : List Row) → Ascending rs → Ascending qs
      → ((r q q' : Row) → In r rs → In q qs → In q' qs → Before q q' → Before (both_move d s t r q) (both_move d s t r q'))
      → ((r r' q q' : Row) → In r rs → In r' rs → In q qs → In q' qs → Before r r' → Before (both_move d s t r q) (both_move d s t r' q'))
      → Ascending (each_with d s t rs qs)
  unfolding each_with
  each-with-ascend [] qs p k f g = tt
  each-with-ascend (r ∷ rs) qs p k f g =
      pairwise_append Before (map (both_move d s t r) qs) (each_with d s t rs qs)
      (pairwise_map Before Before (both_move d s t r) qs k (λ q q' m n. f r q q' (here refl) m n))
      (each-with-ascend rs qs p.1 k (λ r q q' m. f r q q' (there m)) (λ r r' q q' m n. g r r' q q' (there m) (there n)))
      (λ x y m n. let u = map-in (both_move d s t r) qs m in let v = each-with-in d s t rs qs n in
      rw (u.2, v.4) (g r v.0 u.0 v.1 (here refl) (there v.2) u.1 v.3 (p.0 v.0 v.2)))

-- R1 and R2: from x, with other targets in the same order
moved : ℕ → (ℕ → ℕ) → Row → Row
moved x f r = record { from = x; guard = r.guard; action = r.action; resets = r.resets; target = f r.target }

moved-ascend : (x : ℕ) (f : ℕ → ℕ) → ((u v : ℕ) → u < v → f u < f v) → (rs : List Row) (s a : ℕ) → Ascending rs → Ascending (map (moved x f) (rows_by rs s a))
unfolding moved
moved-ascend x f mono rs s a p = pairwise_map Before Before (moved x f) (rows_by rs s a) (rows-by-ascend rs s a p) go
  where
    go : (r q : Row) → In r (rows_by rs s a) → In q (rows_by rs s a) → Before r q → Before (moved x f r) (moved x f q)
    go r q m n b =
        let e = rows-by-in rs s a m in
        let g = rows-by-in rs s a n in
        by-tail (moved x f r) (moved x f q) refl (e.2 ∙ sym g.2)
        (retarget r.guard q.guard r.resets q.resets r.target q.target (f r.target) (f q.target) (mono r.target q.target)
        (tail_of r q (e.1 ∙ sym g.1) (e.2 ∙ sym g.2) b))

clock-stands : (g h x : ℕ) → g ≡ suc x → join_guards g h ≡ suc x
clock-stands g h x e = rw e

other-stands : (g h x : ℕ) → g ≡ 0 → h ≡ suc x → join_guards g h ≡ suc x
other-stands g h x e f = rw (e, f)

module _ (c d : Comp) (wc : WellComp c) (wd : WellComp d) (oc : Conditions (auto_of c)) (od : Conditions (auto_of d)) (j : Compatible (auto_of c) (auto_of d)) where
  both-ascend : (s t a : ℕ) → a ∈ acts c → a ∈ acts d → Ascending (each_with d s t (rows_by c.rows s a) (rows_by d.rows t a))
  both-ascend s t a h k =
      each-with-ascend d s t rs qs (rows-by-ascend c.rows s a (rows-ascending c wc)) (rows-by-ascend d.rows t a (rows-ascending d wd)) inner outer
    where
      rs : List Row
      rs = rows_by c.rows s a

      qs : List Row
      qs = rows_by d.rows t a

      inner : (r q q' : Row) → In r rs → In q qs → In q' qs → Before q q' → Before (both_move d s t r q) (both_move d s t r q')
      inner r q q' m n n' b =
          let z = two-rows-have-clocks d od t a k n n' b in
          let g : r.guard ≡ 0 = input-unguarded c oc s a (⊎_elim (λ i. i) (λ p. absurd (j.outputs a p z.output)) (in-or (inputs c) (outputs c) a h)) m in
          let e = other-stands r.guard q.guard z.x g z.first in
          let f = other-stands r.guard q'.guard z.y g z.second in
          by-guard (both_move d s t r q) (both_move d s t r q') refl refl (omega (arith, e, f, z.less))

      outer : (r r' q q' : Row) → In r rs → In r' rs → In q qs → In q' qs → Before r r' → Before (both_move d s t r q) (both_move d s t r' q')
      outer r r' q q' m m' n n' b =
          let z = two-rows-have-clocks c oc s a h m m' b in
          let e = clock-stands r.guard q.guard z.x z.first in
          let f = clock-stands r'.guard q'.guard z.y z.second in
          by-guard (both_move d s t r q) (both_move d s t r' q') refl ((rows-by-in c.rows s a m).2 ∙ sym (rows-by-in c.rows s a m').2)
          (omega (arith, e, f, z.less))

  pair-rows-ascend : (s t a : ℕ) → Ascending (pair_rows c d s t a)
  unfolding pair_rows moved
  pair-rows-ascend s t a = go (has (acts c) a) (has (acts d) a) refl refl
    where
      go : (b e : Bool) → has (acts c) a ≡ b → has (acts d) a ≡ e
          → Ascending (cond b (cond e (each_with d s t (rows_by c.rows s a) (rows_by d.rows t a)) (map (first_moves d s t) (rows_by c.rows s a)))
          (cond e (map (second_moves d s t) (rows_by d.rows t a)) []))
      go true true h k = both-ascend s t a h k
      go true false h k =
          moved-ascend (pair_of d s t) (λ u. pair_of d u t) (λ u v n. omega (arith, mul-le-mul_right d.states n, wd.some)) c.rows s a
          (rows-ascending c wc)
      go false true h k = moved-ascend (pair_of d s t) (λ u. pair_of d s u) (λ u v n. omega arith) d.rows t a (rows-ascending d wd)
      go false false h k = tt

  -- ---- all rows
  leaves-pair : (s t a : ℕ) {x : Row} → s < c.states → t < d.states → In x (pair_rows c d s t a) → (x.from ≡ pair_of d s t) × (x.action ≡ a)
  leaves-pair s t a hs ht m = let p = pair-rows-in c d oc od j s t a hs ht m in (p.from, p.action)

  rows-from-pair : (s t : ℕ) {x : Row} → s < c.states → t < d.states → In x (spread (pair_rows c d s t) 0 max_actions) → x.from ≡ pair_of d s t
  rows-from-pair s t hs ht m = let p = spread-in (pair_rows c d s t) 0 max_actions m in (leaves-pair s t p.0 hs ht p.3).0

  rows-from-first : (s : ℕ) {x : Row} → s < c.states → In x (spread (λ t. spread (pair_rows c d s t) 0 max_actions) 0 d.states)
      → (t : ℕ) × (t < d.states) × (x.from ≡ pair_of d s t)
  rows-from-first s hs m =
      let p = spread-in (λ t. spread (pair_rows c d s t) 0 max_actions) 0 d.states m in
      let ht : p.0 < d.states = omega (arith, p.2) in
      (p.0, ht, rows-from-pair s p.0 hs ht p.3)

  pub merged-rows-ascend : Ascending (product_rows c d)
  unfolding product_rows
  merged-rows-ascend = pairwise-spread Before (λ s. spread (λ t. spread (pair_rows c d s t) 0 max_actions) 0 d.states) 0 c.states of-first by_first
    where
      of_pair : (s t : ℕ) → s < c.states → t < d.states → Ascending (spread (pair_rows c d s t) 0 max_actions)
      of_pair s t hs ht = pairwise-spread Before (pair_rows c d s t) 0 max_actions (λ a p q. pair-rows-ascend s t a) (λ a b x y p h q m n.
          let e = leaves-pair s t a hs ht m in
          let f = leaves-pair s t b hs ht n in
          by-action x y (e.0 ∙ sym f.0) (omega (arith, e.1, f.1, h)))

      of-first : (s : ℕ) → 0 ≤ s → s < 0 + c.states → Ascending (spread (λ t. spread (pair_rows c d s t) 0 max_actions) 0 d.states)
      of-first s z hs =
          pairwise-spread Before (λ t. spread (pair_rows c d s t) 0 max_actions) 0 d.states (λ t p q. of_pair s t (omega arith) (omega arith))
          (λ t u x y p h q m n.
          by-from x y (omega (arith, rows-from-pair s t (omega arith) (omega arith) m, rows-from-pair s u (omega arith) (omega arith) n, h)))

      by_first : (s u : ℕ) (x y : Row) → 0 ≤ s → s < u → u < 0 + c.states
          → In x (spread (λ t. spread (pair_rows c d s t) 0 max_actions) 0 d.states)
          → In y (spread (λ t. spread (pair_rows c d u t) 0 max_actions) 0 d.states) → Before x y
      by_first s u x y z h hu m n =
          let e = rows-from-first s (omega arith) m in
          let f = rows-from-first u (omega arith) n in
          by-from x y (omega (arith, e.2, f.2, pair_lt d.states f.0 h e.1))
