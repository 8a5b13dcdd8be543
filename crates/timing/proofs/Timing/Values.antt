-- The clocks' new values: each declared one falls by v and stops at the floor; enabling ones stay from zero on; all stay within the range of 28.
use mathlib.Core.Path.{◌≡◌, refl, sym, ◌∙◌, ap}
use mathlib.Core.Bool.{Bool, true, false, cond, true≢false}
use mathlib.Core.List.{List, [], ◌∷◌}
use Prim.Native.Nat.{ℕ, zero, suc, ◌+◌, ◌≤◌, ◌<◌}
use native.Mathlib.Omega.{arith}
use native.Mathlib.Decide.{dec_lt}
use mathlib.Core.Logic.{by_cases}
use lib.ListN.{length, get_or-eq_default}
use lib.Seq.{ext_get_or}
use lib.IntN.{ℤ, pos, negsuc, ◌-ℤ◌}
use lib.Signed.{lt_z, le_z}
use Rattle.laws.specs.Sets.{has, ◌∈◌}
use Rattle.laws.proofs.TickLaws.{less-irreflexive, at_most, at-most-transitive, less-count-at-most, less-count-not-below}
use Rattle.answer.specs.Limits.{max_clocks, max_ticks}
use Rattle.model.specs.Model.{Model, declared}
use Rattle.timing.specs.Timed.{fallen, aged_from}
use Rattle.iosa.specs.TimedExactly.{greater, InTicks, Falls, floor, value_of}

-- ---- the list of values, place by place
aged-length : (d : ℕ) (v : ℤ) (k : ℕ) (zs : List ℤ) → length (aged_from d v k zs) ≡ length zs
unfolding aged_from
aged-length d v k [] = refl
aged-length d v k (z ∷ zs) = ap suc (aged-length d v (suc k) zs)

aged-at : (d : ℕ) (v : ℤ) (k : ℕ) (zs : List ℤ) (j : ℕ) → j < length zs → value_of (aged_from d v k zs) j
    ≡ cond (has d (k + j)) (fallen v (value_of zs j)) (value_of zs j)
unfolding aged_from
aged-at d v k [] j h = absurd (omega arith)
aged-at d v k (z ∷ zs) zero h = let e : k ≡ k + 0 = omega arith in ap (λ n. cond (has d n) (fallen v z) z) e
aged-at d v k (z ∷ zs) (suc j) h =
    let e : suc k + j ≡ k + suc j = omega arith in
    aged-at d v (suc k) zs j (omega arith) ∙ ap (λ n. cond (has d n) (fallen v (value_of zs j)) (value_of zs j)) e

aged-beyond : (d : ℕ) (v : ℤ) (zs : List ℤ) (j : ℕ) → length zs ≤ j → value_of (aged_from d v 0 zs) j ≡ value_of zs j
aged-beyond d v zs j h = get_or-eq_default (aged_from d v 0 zs) (pos 0) (omega (arith, aged-length d v 0 zs)) ∙ sym (get_or-eq_default zs (pos 0) h)

pub aged-falls : (m : Model) (vs : List ℤ) (v : ℕ) → Falls m vs v (aged_from (declared m) (pos v) 0 vs)
unfolding fallen
aged-falls m vs v = record {
  count = aged-length (declared m) (pos v) 0 vs;
  falls = λ x h e. aged-at (declared m) (pos v) 0 vs x h ∙ at x e;
  stays =
      λ x e. by_cases (dec_lt x (length vs)) (λ h. aged-at (declared m) (pos v) 0 vs x h ∙ kept x e)
      (λ h. aged-beyond (declared m) (pos v) vs x (omega arith));
}
  where
    here : (x : ℕ) → 0 + x ≡ x
    here x = omega arith

    at : (x : ℕ) → has (declared m) x ≡ true → cond (has (declared m) (0 + x)) (fallen (pos v) (value_of vs x)) (value_of vs x)
        ≡ greater (value_of vs x -ℤ pos v) floor
    at x e = rw (here x, e)

    kept : (x : ℕ) → has (declared m) x ≡ false → cond (has (declared m) (0 + x)) (fallen (pos v) (value_of vs x)) (value_of vs x) ≡ value_of vs x
    kept x e = rw (here x, e)

-- no two lists fall so
pub falls-once : (m : Model) (vs : List ℤ) (v : ℕ) (us ws : List ℤ) → Falls m vs v us → Falls m vs v ws → us ≡ ws
falls-once m vs v us ws f g = ext_get_or (pos 0) us ws (f.count ∙ sym g.count) (λ x h. go x (omega (arith, f.count)) (has (declared m) x) refl)
  where
    go : (x : ℕ) → x < length vs → (b : Bool) → has (declared m) x ≡ b → value_of us x ≡ value_of ws x
    go x h true e = f.falls x h e ∙ sym (g.falls x h e)
    go x h false e = f.stays x e ∙ sym (g.stays x e)

-- ---- the greater of two
greater-above : (a b : ℤ) → le_z b (greater a b) ≡ true
greater-above a b = go (lt_z a b) refl
  where
    go : (t : Bool) → lt_z a b ≡ t → le_z b (cond t b a) ≡ true
    go true e = at_most b b (less-irreflexive b)
    go false e = at_most b a e

greater-below : (a b c : ℤ) → le_z a c ≡ true → le_z b c ≡ true → le_z (greater a b) c ≡ true
greater-below a b c h k = go (lt_z a b)
  where
    go : (t : Bool) → le_z (cond t b a) c ≡ true
    go true = k
    go false = h

-- ---- a declared clock stays within the range of 28
pub falls-in-ticks : (m : Model) (vs : List ℤ) (v : ℕ) (us : List ℤ) → ((x : ℕ) → x ∈ declared m → x < max_clocks) → InTicks m vs → Falls m vs v us
    → InTicks m us
falls-in-ticks m vs v us below t f = record {
  count = f.count ∙ t.count;
  low = λ x h. rw (f.falls x (omega (arith, t.count, below x h)) h) (greater-above (value_of vs x -ℤ pos v) floor);
  high = λ x h.
      rw (f.falls x (omega (arith, t.count, below x h)) h)
      (greater-below (value_of vs x -ℤ pos v) floor (pos max_ticks) (at-most-transitive (value_of vs x -ℤ pos v) (value_of vs x) (pos max_ticks)
      (less-count-at-most (value_of vs x) v) (t.high x h)) refl);
}

-- ---- a clock with a value of v or more does not end below zero
pub falls-not-below : (m : Model) (vs : List ℤ) (v : ℕ) (us : List ℤ) (x : ℕ) → x < length vs → x ∈ declared m → lt_z (value_of vs x) (pos v) ≡ false
    → Falls m vs v us
    → lt_z (value_of us x) (pos 0) ≡ false
falls-not-below m vs v us x l h e f =
    let n = less-count-not-below (value_of vs x) v e in
    rw (f.falls x l h) (go (lt_z (value_of vs x -ℤ pos v) floor) refl n)
  where
    above_floor : (z : ℤ) → lt_z z (pos 0) ≡ false → lt_z z floor ≡ true → ⊥
    above_floor (pos z) h k = true≢false (sym k)
    above_floor (negsuc z) h k = true≢false h

    go : (t : Bool) → lt_z (value_of vs x -ℤ pos v) floor ≡ t → lt_z (value_of vs x -ℤ pos v) (pos 0) ≡ false
        → lt_z (cond t floor (value_of vs x -ℤ pos v)) (pos 0) ≡ false
    go true e n = absurd (above_floor (value_of vs x -ℤ pos v) n e)
    go false e n = n
