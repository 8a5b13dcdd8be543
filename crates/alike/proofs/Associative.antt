-- Merging is associative: (first, second), third and first, (second, third) are one component, row by row in order. Nothing is asked of the three.
use mathlib.Core.Path.{◌≡◌, refl, sym, ◌∙◌, ap, ap₂}
use mathlib.Core.Bool.{Bool, true, false, cond, ◌&&◌, ◌||◌, not}
use mathlib.Core.List.{List, [], ◌∷◌, ◌++◌, map, map-map}
use Prim.Native.Nat.{ℕ, zero, suc, ◌+◌, ◌*◌, ◌<◌}
use native.Mathlib.Nat.{add_assoc, add-mul, mul_assoc}
use native.Mathlib.Omega.{arith}
use lib.Bits.{or_comm}
use Rattle.laws.specs.Sets.{has, ◌∪◌, ◌∖◌}
use Rattle.laws.specs.Fold.{spread}
use Rattle.laws.proofs.SetLaws.{has-or, has-without, has-ext, or_assoc}
use Rattle.laws.proofs.TabLaws.{spread_same, spread-pairs}
use Rattle.answer.specs.Limits.{max_actions}
use Rattle.model.specs.Model.{Row, Comp, acts}
use Rattle.merged.specs.Merge.{rows_by, first_moves, second_moves, join_guards, both_move, each_with, pair_rows, product_rows, merged}
use Rattle.merged.specs.MergedAs.{pair_of}
use Rattle.alike.proofs.Lists.{every, every-map-left, every-map-right, map-every, every-regroups}
use Rattle.alike.proofs.Rows.{rows-of-pair, acts-of-merged}

-- ---- sets: what is an input of one of three and an output of none
still-taken : (s t u v : ℕ) → (s ∖ t ∪ u) ∖ (t ∪ v) ≡ (s ∪ u) ∖ (t ∪ v)
still-taken s t u v = has-ext ((s ∖ t ∪ u) ∖ (t ∪ v)) ((s ∪ u) ∖ (t ∪ v)) (λ x.
    has-without (s ∖ t ∪ u) (t ∪ v) x
    ∙ ap₂ (λ p q. p && not q) (has-or (s ∖ t) u x ∙ ap (λ p. p || has u x) (has-without s t x)) (has-or t v x)
    ∙ go (has s x) (has t x) (has u x) (has v x)
    ∙ sym (has-without (s ∪ u) (t ∪ v) x ∙ ap₂ (λ p q. p && not q) (has-or s u x) (has-or t v x)))
  where
    go : (s t u v : Bool) → (((s && not t) || u) && not (t || v)) ≡ ((s || u) && not (t || v))
    go true true true v = refl
    go true true false v = refl
    go true false u v = refl
    go false t u v = refl

inputs-regroup : (i o j p k q : ℕ) → ((i ∪ j) ∖ (o ∪ p) ∪ k) ∖ ((o ∪ p) ∪ q) ≡ (i ∪ (j ∪ k) ∖ (p ∪ q)) ∖ (o ∪ (p ∪ q))
inputs-regroup i o j p k q =
    still-taken (i ∪ j) (o ∪ p) k q
    ∙ ap₂ ◌∖◌ (or_assoc i j k ∙ or_comm i (j ∪ k)) (or_assoc o p q ∙ or_comm o (p ∪ q))
    ∙ sym (still-taken (j ∪ k) (p ∪ q) i o)
    ∙ ap₂ ◌∖◌ (or_comm ((j ∪ k) ∖ (p ∪ q)) i) (or_comm (p ∪ q) o)

-- ---- the numbers of pairs
pub number-regroups : (n k s t u : ℕ) → (s * n + t) * k + u ≡ s * (n * k) + (t * k + u)
number-regroups n k s t u = ap (λ x. x + u) (add-mul (s * n) t k ∙ ap (λ x. x + t * k) (mul_assoc s n k)) ∙ add_assoc (s * (n * k)) (t * k) u

guards-regroup : (g h k : ℕ) → join_guards (join_guards g h) k ≡ join_guards g (join_guards h k)
guards-regroup zero h k = refl
guards-regroup (suc g) h k = refl

each-is-every : (d : Comp) (s t : ℕ) (rs qs : List Row) → each_with d s t rs qs ≡ every (both_move d s t) rs qs
unfolding each_with every
each-is-every d s t [] qs = refl
each-is-every d s t (r ∷ rs) qs = ap (λ l. map (both_move d s t r) qs ++ l) (each-is-every d s t rs qs)

-- ---- the rows of a triple of states and an action
module _ (c d e : Comp) (s t u a : ℕ) (hs : s < c.states) (ht : t < d.states) (hu : u < e.states) (ha : a < max_actions) where
  abbrev x : ℕ
  x = pair_of d s t

  abbrev y : ℕ
  y = pair_of e t u

  abbrev de : Comp
  de = merged d e

  abbrev rs : List Row
  rs = rows_by c.rows s a

  abbrev qs : List Row
  qs = rows_by d.rows t a

  abbrev zs : List Row
  zs = rows_by e.rows u a

  number : (s t u : ℕ) → pair_of e (pair_of d s t) u ≡ pair_of (merged d e) s (pair_of e t u)
  unfolding merged
  number = number-regroups d.states e.states

  first : ◌≡◌ {A = Row → Row} (λ r. first_moves e x u (first_moves d s t r)) (first_moves de s y)
  first = λ i r. record { from = number s t u i; guard = r.guard; action = r.action; resets = r.resets; target = number r.target t u i }

  second : ◌≡◌ {A = Row → Row} (λ q. first_moves e x u (second_moves d s t q)) (λ q. second_moves de s y (first_moves e t u q))
  second = λ i q. record { from = number s t u i; guard = q.guard; action = q.action; resets = q.resets; target = number s q.target u i }

  third : ◌≡◌ {A = Row → Row} (second_moves e x u) (λ z. second_moves de s y (second_moves e t u z))
  third = λ i z. record { from = number s t u i; guard = z.guard; action = z.action; resets = z.resets; target = number s t z.target i }

  first-second : ◌≡◌ {A = Row → Row → Row} (λ r q. first_moves e x u (both_move d s t r q)) (λ r q. both_move de s y r (first_moves e t u q))
  first-second = λ i r q. record {
    from = number s t u i;
    guard = join_guards r.guard q.guard;
    action = r.action;
    resets = r.resets ∪ q.resets;
    target = number r.target q.target u i;
  }

  first-third : ◌≡◌ {A = Row → Row → Row} (λ r z. both_move e x u (first_moves d s t r) z) (λ r z. both_move de s y r (second_moves e t u z))
  first-third = λ i r z. record {
    from = number s t u i;
    guard = join_guards r.guard z.guard;
    action = r.action;
    resets = r.resets ∪ z.resets;
    target = number r.target t z.target i;
  }

  second-third : ◌≡◌ {A = Row → Row → Row} (λ q z. both_move e x u (second_moves d s t q) z) (λ q z. second_moves de s y (both_move e t u q z))
  second-third = λ i q z. record {
    from = number s t u i;
    guard = join_guards q.guard z.guard;
    action = q.action;
    resets = q.resets ∪ z.resets;
    target = number s q.target z.target i;
  }

  all_three : ◌≡◌ {A = Row → Row → Row → Row} (λ r q z. both_move e x u (both_move d s t r q) z) (λ r q z. both_move de s y r (both_move e t u q z))
  all_three = λ i r q z. record {
    from = number s t u i;
    guard = guards-regroup r.guard q.guard z.guard i;
    action = r.action;
    resets = or_assoc r.resets q.resets z.resets i;
    target = number r.target q.target z.target i;
  }

  -- the rows of a pair of components, by which of the two have the action
  abbrev joined : (d : Comp) → ℕ → ℕ → List Row → List Row → Bool → Bool → List Row
  joined d s t rs qs b k = cond b (cond k (each_with d s t rs qs) (map (first_moves d s t) rs)) (cond k (map (second_moves d s t) qs) [])

  cases : (b k l : Bool) → joined e x u (joined d s t rs qs b k) zs (b || k) l ≡ joined de s y rs (joined e t u qs zs k l) b (k || l)
  cases true true true =
      each-is-every e x u (each_with d s t rs qs) zs
      ∙ ap (λ l. every (both_move e x u) l zs) (each-is-every d s t rs qs)
      ∙ every-regroups (both_move e x u) (both_move d s t) (both_move de s y) (both_move e t u) all_three rs qs zs
      ∙ sym (each-is-every de s y rs (each_with e t u qs zs) ∙ ap (every (both_move de s y) rs) (each-is-every e t u qs zs))
  cases true true false =
      ap (map (first_moves e x u)) (each-is-every d s t rs qs)
      ∙ map-every (first_moves e x u) (both_move d s t) rs qs
      ∙ ap (λ f. every f rs qs) first-second
      ∙ sym (each-is-every de s y rs (map (first_moves e t u) qs) ∙ every-map-right (both_move de s y) (first_moves e t u) rs qs)
  cases true false true =
      each-is-every e x u (map (first_moves d s t) rs) zs
      ∙ every-map-left (both_move e x u) (first_moves d s t) rs zs
      ∙ ap (λ f. every f rs zs) first-third
      ∙ sym (each-is-every de s y rs (map (second_moves e t u) zs) ∙ every-map-right (both_move de s y) (second_moves e t u) rs zs)
  cases true false false = map-map (first_moves e x u) (first_moves d s t) rs ∙ ap (λ f. map f rs) first
  cases false true true =
      each-is-every e x u (map (second_moves d s t) qs) zs
      ∙ every-map-left (both_move e x u) (second_moves d s t) qs zs
      ∙ ap (λ f. every f qs zs) second-third
      ∙ sym (ap (map (second_moves de s y)) (each-is-every e t u qs zs) ∙ map-every (second_moves de s y) (both_move e t u) qs zs)
  cases false true false =
      map-map (first_moves e x u) (second_moves d s t) qs
      ∙ ap (λ f. map f qs) second
      ∙ sym (map-map (second_moves de s y) (first_moves e t u) qs)
  cases false false true = ap (λ f. map f zs) third ∙ sym (map-map (second_moves de s y) (second_moves e t u) zs)
  cases false false false = refl

  triple-rows : pair_rows (merged c d) e (pair_of d s t) u a ≡ pair_rows c (merged d e) s (pair_of e t u) a
  unfolding pair_rows
  triple-rows =
      ap₂ (λ l b. joined e x u l zs b (has (acts e) a)) (rows-of-pair c d s t a hs ht ha) (acts-of-merged c d a)
      ∙ cases (has (acts c) a) (has (acts d) a) (has (acts e) a)
      ∙ sym (ap₂ (λ l b. joined de s y rs l (has (acts c) a) b) (rows-of-pair d e t u a ht hu ha) (acts-of-merged d e a))

-- ---- all rows, and the component
module _ (c d e : Comp) where
  -- the rows from a triple, both ways
  abbrev on_left : ℕ → ℕ → List Row
  on_left p u = spread (pair_rows (merged c d) e p u) 0 max_actions

  abbrev on_right : ℕ → ℕ → List Row
  on_right s q = spread (pair_rows c (merged d e) s q) 0 max_actions

  rows-regroup : product_rows (merged c d) e ≡ product_rows c (merged d e)
  unfolding product_rows merged
  rows-regroup =
      spread-pairs (λ p. spread (on_left p) 0 e.states) c.states d.states
      ∙ spread_same (λ s. spread (λ t. spread (on_left (pair_of d s t)) 0 e.states) 0 d.states)
      (λ s. spread (on_right s) 0 (d.states * e.states)) 0 c.states
      (λ s p hs.
      spread_same (λ t. spread (on_left (pair_of d s t)) 0 e.states) (λ t. spread (λ u. on_right s (pair_of e t u)) 0 e.states) 0 d.states
      (λ t q ht.
      spread_same (on_left (pair_of d s t)) (λ u. on_right s (pair_of e t u)) 0 e.states
      (λ u r hu.
      spread_same (pair_rows (merged c d) e (pair_of d s t) u) (pair_rows c (merged d e) s (pair_of e t u)) 0 max_actions
      (λ a v ha. triple-rows c d e s t u a (omega arith) (omega arith) (omega arith) (omega arith))))
      ∙ sym (spread-pairs (on_right s) d.states e.states))

  pub merged-regroups : merged (merged c d) e ≡ merged c (merged d e)
  unfolding merged
  merged-regroups = λ i. record {
    states = mul_assoc c.states d.states e.states i;
    start = number-regroups d.states e.states c.start d.start e.start i;
    ins = inputs-regroup c.ins c.outs d.ins d.outs e.ins e.outs i;
    outs = or_assoc c.outs d.outs e.outs i;
    uins = inputs-regroup c.uins c.uouts d.uins d.uouts e.uins e.uouts i;
    uouts = or_assoc c.uouts d.uouts e.uouts i;
    clocks = or_assoc c.clocks d.clocks e.clocks i;
    started = or_assoc c.started d.started e.started i;
    rows = rows-regroup i;
  }
