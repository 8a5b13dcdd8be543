-- What an element has told the gates: it changes by its own f and u alone, where what is told in one instant is all failures or all repairs.
use mathlib.Core.Path.{◌≡◌, refl, sym, ◌∙◌, ap}
use mathlib.Core.Logic.{◌⊎◌, ⊎_elim}
use mathlib.Core.Option.{Option, none, some, some_inj}
use mathlib.Core.Bool.{Bool, true, false, false≢true, ◌&&◌, ◌||◌, not, cond}
use mathlib.Core.List.Memᴰ.{head as here}
use mathlib.Core.List.Memᴰ.{tail as there}
use mathlib.Core.List.{List, [], ◌∷◌, Memᴰ as In}
use Prim.Native.Nat.{ℕ, ◌<◌}
use native.Mathlib.Omega.{arith}
use Rattle.laws.specs.Fold.{all}
use Rattle.laws.specs.Search.{is_some, map_some}
use Rattle.laws.proofs.FoldLaws.{all_true}
use Rattle.laws.proofs.SearchLaws.{no-some}
use Rattle.laws.proofs.TestLaws.{and-true}
use Rattle.model.specs.Text.{Kind}
use Rattle.trees.specs.Module.{Move}
use Rattle.trees.specs.Tree.{Sort, be-sort, and-sort, or-sort, pand-sort, rbox-sort, Element, among, Signal, fl, up, f, u, Meaning}
use Rattle.treetheory.proofs.Colours.{code_of, told_as, same, alike, Peaceful, failures, mendings, order-left, order-right}
use Rattle.treetheory.proofs.Roles.{Moved, by-role, by-none}

-- ---- a module's states that a tree gets to, and those where its element has told that it is down (and not yet that it is up again)
abbrev pub fine_in : Sort → ℕ → Bool
fine_in be-sort x = among x (0 ∷ 1 ∷ 2 ∷ 4 ∷ 5 ∷ 6 ∷ [])
fine_in and-sort x = among x (0 ∷ 1 ∷ 2 ∷ 3 ∷ 4 ∷ 8 ∷ [])
fine_in or-sort x = among x (0 ∷ 1 ∷ 2 ∷ 3 ∷ 7 ∷ 8 ∷ [])
fine_in pand-sort x = among x (0 ∷ 3 ∷ 5 ∷ 7 ∷ 9 ∷ 10 ∷ 13 ∷ 16 ∷ 17 ∷ 19 ∷ [])
fine_in rbox-sort x = true

abbrev pub told_in : Sort → ℕ → Bool
told_in be-sort x = among x (1 ∷ 2 ∷ 6 ∷ [])
told_in and-sort x = among x (2 ∷ 3 ∷ 4 ∷ [])
told_in or-sort x = among x (1 ∷ 2 ∷ 3 ∷ [])
told_in pand-sort x = among x (3 ∷ 7 ∷ 13 ∷ 17 ∷ [])
told_in rbox-sort x = false

-- by an action that means y, from told b to told c
pub data ToldStep (e : Element) (y : Meaning) (b c : Bool) : Type 0 where
  fails : y.of ≡ e.number → y.signal ≡ f → b ≡ false → c ≡ true → ToldStep e y b c
  mends : y.of ≡ e.number → y.signal ≡ u → b ≡ true → c ≡ false → ToldStep e y b c
  stays : (y.of ≡ e.number → y.signal ≡ f → ⊥) → (y.of ≡ e.number → y.signal ≡ u → ⊥) → c ≡ b → ToldStep e y b c

pub not-f-u : Peaceful f u → ⊥
not-f-u (failures p q) = omega (arith, ap code_of q)
not-f-u (mendings p q) = omega (arith, ap code_of p)
not-f-u (order-left p q) = omega (arith, ap code_of p)
not-f-u (order-right p q) = omega (arith, ap code_of q)

pub not-u-f : Peaceful u f → ⊥
not-u-f (failures p q) = omega (arith, ap code_of p)
not-u-f (mendings p q) = omega (arith, ap code_of q)
not-u-f (order-left p q) = omega (arith, ap code_of p)
not-u-f (order-right p q) = omega (arith, ap code_of q)

pub not-fl : {d : Signal} → Peaceful fl d → ⊥
not-fl (failures p q) = omega (arith, ap code_of p)
not-fl (mendings p q) = omega (arith, ap code_of p)
not-fl (order-left p q) = omega (arith, ap code_of p)
not-fl (order-right p q) = false≢true p

pub not-up : {d : Signal} → Peaceful up d → ⊥
not-up (failures p q) = omega (arith, ap code_of p)
not-up (mendings p q) = omega (arith, ap code_of p)
not-up (order-left p q) = omega (arith, ap code_of p)
not-up (order-right p q) = false≢true p

-- ---- the tests, over any roles
abbrev told_by : Option Bool → Bool → Bool → Bool
told_by none x y = same x y
told_by (some b) x y = same x (not b) && same y b

abbrev after : (ℕ → Bool) → Option ℕ → Bool
after k none = true
after k (some v) = k v

abbrev target_of : Move → ℕ
target_of v = v.target

module _ {A : Type 0} (every : (A → Bool) → Bool) (fine told : ℕ → Bool) (to : ℕ → A → Option Move) where
  -- where it leads
  abbrev pub aims : ℕ → A → Option ℕ
  aims s p = map_some target_of (to s p)

  -- one of these is enabled
  unfoldable pub barred : ℕ → List A → Bool
  barred s [] = false
  barred s (b ∷ bs) = is_some (to s b) || barred s bs

  module _ (tells : A → Option Bool) (bars : A → List A) where
    unfoldable pub telling : ℕ → A → Bool
    telling s p = cond (fine s && not (barred s (bars p))) (after (λ v. fine v && told_by (tells p) (told s) (told v)) (aims s p)) true

    -- by p from every state: the states are kept, and what is told changes by telling alone
    unfoldable pub tellings : ℕ → Bool
    tellings n = all (λ s. every (telling s)) 0 n

  -- where nothing of its own is enabled, what is told is what is
  module _ (down : ℕ → Bool) (own : List A) where
    unfoldable pub settled : ℕ → Bool
    settled s = cond (fine s && not (barred s own)) (same (told s) (down s)) true

    unfoldable pub settleds : ℕ → Bool
    settleds n = all settled 0 n

  not-barred : (s : ℕ) (bs : List A) → ((b : A) → In b bs → to s b ≡ none) → barred s bs ≡ false
  unfolding barred
  not-barred s [] h = refl
  not-barred s (b ∷ bs) h = let z = h b (here refl) in let w = not-barred s bs (λ c m. h c (there m)) in rw (z, w)

  pub settled_at : (down : ℕ → Bool) (own : List A) (n : ℕ) → settleds down own n ≡ true → (s : ℕ) → s < n → fine s ≡ true
      → ((b : A) → In b own → to s b ≡ none) → told s ≡ down s
  unfolding settleds settled
  settled_at down own n h s k fi nb =
      let z = all_true (settled down own) 0 n h s (omega arith) k in
      let w = not-barred s own nb in
      alike (told s) (down s) (rw (fi, w) at z)

  -- ---- and what they tell
  module _ (at_every : (k : A → Bool) → every k ≡ true → (p : A) → k p ≡ true) (e : Element) (g : Meaning → Option A) (kind_of : A → Kind) (n : ℕ)
      (tells : A → Option Bool) (bars : A → List A) (own_f own_u : A)
      (test : tellings tells bars n ≡ true)
      (role-f : (y : Meaning) → y.of ≡ e.number → y.signal ≡ f → g y ≡ some own_f) (tells-f : tells own_f ≡ some true)
      (role-u : (y : Meaning) → y.of ≡ e.number → y.signal ≡ u → g y ≡ some own_u) (tells-u : tells own_u ≡ some false)
      (teller : (y : Meaning) (p : A) (b : Bool) → g y ≡ some p → tells p ≡ some b → (y.of ≡ e.number) × (y.signal ≡ told_as b))
      (barring : (y : Meaning) (p b : A) → g y ≡ some p → In b (bars p)
      → ((b ≡ own_f) × (Peaceful y.signal f → ⊥)) ⊎ ((b ≡ own_u) × (Peaceful y.signal u → ⊥))) where
    at : (s : ℕ) (p : A) (v : Move) → s < n → fine s ≡ true → ((b : A) → In b (bars p) → to s b ≡ none) → to s p ≡ some v
        → (fine v.target ≡ true) × (told_by (tells p) (told s) (told v.target) ≡ true)
    unfolding tellings telling
    at s p v k fi nb i =
        let z = at_every (telling tells bars s) (all_true (λ s. every (telling tells bars s)) 0 n test s (omega arith) k) p in
        let w = not-barred s (bars p) nb in
        and-true (fine v.target) (told_by (tells p) (told s) (told v.target)) (rw (fi, w, i) at z)

    step_by : (y : Meaning) (p : A) (x z : ℕ) → g y ≡ some p → (o : Option Bool) → tells p ≡ o → told_by o (told x) (told z) ≡ true
        → ToldStep e y (told x) (told z)
    step_by y p x z i none k h = stays
        (λ a b. let w : p ≡ own_f = some_inj.0 (sym i ∙ role-f y a b) in no-some k (ap tells w ∙ tells-f))
        (λ a b. let w : p ≡ own_u = some_inj.0 (sym i ∙ role-u y a b) in no-some k (ap tells w ∙ tells-u))
        (sym (alike (told x) (told z) h))
    step_by y p x z i (some true) k h =
        let t = teller y p true i k in
        let w = and-true (same (told x) false) (same (told z) true) h in
        fails t.0 t.1 (alike (told x) false w.0) (alike (told z) true w.1)
    step_by y p x z i (some false) k h =
        let t = teller y p false i k in
        let w = and-true (same (told x) true) (same (told z) false) h in
        mends t.0 t.1 (alike (told x) true w.0) (alike (told z) false w.1)

    pub told-step : (y : Meaning) (x z : ℕ) → fine x ≡ true → ((Peaceful y.signal f → ⊥) → to x own_f ≡ none)
        → ((Peaceful y.signal u → ⊥) → to x own_u ≡ none)
        → Moved g kind_of n to y x z → (fine z ≡ true) × ToldStep e y (told x) (told z)
    told-step y x z fi nf nu (by-role {p} {v} i h d w) =
        let q = at x p v h fi (λ b m. ⊎_elim (λ c. ap (to x) c.0 ∙ nf c.1) (λ c. ap (to x) c.0 ∙ nu c.1) (barring y p b i m)) d in
        (ap fine (sym w) ∙ q.0, rw (← w) (step_by y p x v.target i (tells p) refl q.1))
    told-step y x z fi nf nu (by-none i w) = (
      ap fine (sym w) ∙ fi,
      stays (λ a b. no-some i (role-f y a b)) (λ a b. no-some i (role-u y a b)) (ap told (sym w)),
    )
