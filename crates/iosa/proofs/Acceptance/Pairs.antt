-- 15 to 17: the tests of two components, and that the searches find none exactly if every two components are compatible.
use mathlib.Core.Path.{◌≡◌, refl, sym, ◌∙◌}
use mathlib.Core.Logic.{◌↔◌, ◌⊎◌, inl, inr, ⊎_elim}
use mathlib.Core.Bool.{Bool, true, false, ◌&&◌, ◌||◌, true≢false}
use mathlib.Core.Option.{none}
use mathlib.Core.List.{[], ◌∷◌}
use Prim.Native.Nat.{ℕ, suc, ◌<◌}
use native.Mathlib.Omega.{arith}
use lib.ListN.{length}
use Rattle.laws.specs.Sets.{has, ◌∈◌}
use Rattle.laws.specs.Search.{seek, when}
use Rattle.laws.proofs.SetLaws.{in-or, or-in-l, or-in-r, or_cases, or_right, in-below}
use Rattle.laws.proofs.SearchLaws.{seek-none, none-seek, when-none}
use Rattle.laws.proofs.TestLaws.{and-true, not_so}
use Rattle.answer.specs.Limits.{max_actions, max_clocks}
use Rattle.model.specs.Model.{Comp, Model, comp_at, inputs, outputs, urgents}
use Rattle.model.specs.WellFormed.{WellComp, WellFormed}
use Rattle.iosa.specs.Automaton.{auto_of, alphabet, Joinable}
use Rattle.iosa.specs.Checks.{clash_in, clash_for, share_output, share_clock, calm_acts, differ_urgent, check15, check16, check17}
use Rattle.iosa.specs.Faults.{OnlyThere}
use Rattle.iosa.proofs.Acceptance.Rows.{output-below, urgent-below}

-- ---- the search
pub clash-none : (f : ℕ → Comp → Comp → Bool) (n : ℕ) (m : Model) → clash_for f n m ≡ none → (x i j : ℕ) → x < n → i < j → j < length m
    → f x (comp_at m i) (comp_at m j) ≡ false
unfolding clash_for
clash-none f n m e x i j h k l =
    when-none (f x (comp_at m i) (comp_at m j)) (x ∷ i ∷ j ∷ [])
    (seek-none (λ j. when (f x (comp_at m i) (comp_at m j)) (x ∷ i ∷ j ∷ [])) (suc i) (length m)
    (seek-none (clash_in f m x) 0 (length m) (seek-none (λ x. seek (clash_in f m x) 0 (length m)) 0 n e x (omega arith) h) i (omega arith) (omega arith))
    j k l)

pub none-clash : (f : ℕ → Comp → Comp → Bool) (n : ℕ) (m : Model)
    → ((x i j : ℕ) → x < n → i < j → j < length m → f x (comp_at m i) (comp_at m j) ≡ false) → clash_for f n m ≡ none
unfolding clash_for
none-clash f n m h =
    none-seek (λ x. seek (clash_in f m x) 0 (length m)) 0 n (λ x p q.
    none-seek (clash_in f m x) 0 (length m) (λ i u v.
    none-seek (λ j. when (f x (comp_at m i) (comp_at m j)) (x ∷ i ∷ j ∷ [])) (suc i) (length m) (λ j y z. rw (h x i j q y z))))

-- ---- the tests
pub output-shared : (c d : Comp) (a : ℕ) → (share_output a c d ≡ true) ↔ (a ∈ outputs c) × (a ∈ outputs d)
output-shared c d a = (and-true (has (outputs c) a) (has (outputs d) a), λ p. simp (p.0, p.1))

pub clock-shared : (c d : Comp) (x : ℕ) → (share_clock x c d ≡ true) ↔ (x ∈ c.clocks) × (x ∈ d.clocks)
clock-shared c d x = (and-true (has c.clocks x) (has d.clocks x), λ p. simp (p.0, p.1))

-- an action of c is urgent or calm, and not both
module _ (c : Comp) (w : WellComp c) (a : ℕ) where
  calm-here : a ∈ calm_acts c → (a ∈ alphabet (auto_of c)) × (a ∈ urgents c → ⊥)
  calm-here h = ⊎_elim
      (λ k. (
        or-in-l (inputs c) (outputs c) a (or-in-l c.ins c.uins a k),
        λ u. ⊎_elim (w.ins-uins a k) (w.ins-uouts a k) (in-or c.uins c.uouts a u),
      ))
      (λ k. (
        or-in-r (inputs c) (outputs c) a (or-in-l c.outs c.uouts a k),
        λ u. ⊎_elim (w.outs-uins a k) (w.outs-uouts a k) (in-or c.uins c.uouts a u),
      ))
      (in-or c.ins c.outs a h)

  here-calm : a ∈ alphabet (auto_of c) → (a ∈ urgents c) ⊎ (a ∈ calm_acts c)
  here-calm h = ⊎_elim
      (λ k. ⊎_elim (λ p. inr (or-in-l c.ins c.outs a p)) (λ p. inl (or-in-l c.uins c.uouts a p)) (in-or c.ins c.uins a k))
      (λ k. ⊎_elim (λ p. inr (or-in-r c.ins c.outs a p)) (λ p. inl (or-in-r c.uins c.uouts a p)) (in-or c.outs c.uouts a k))
      (in-or (inputs c) (outputs c) a h)

  pub calm-exactly : (a ∈ calm_acts c) ↔ (a ∈ alphabet (auto_of c)) × (a ∈ urgents c → ⊥)
  calm-exactly = (calm-here, λ p. ⊎_elim (λ u. absurd (p.1 u)) (λ h. h) (here-calm p.0))

pub urgency-differs : (c d : Comp) → WellComp c → WellComp d → (a : ℕ) → (differ_urgent a c d ≡ true) ↔ OnlyThere a (auto_of c) (auto_of d) ⊎ OnlyThere a
    (auto_of d) (auto_of c)
urgency-differs c d v w a = (
  λ e. ⊎_elim
      (λ p. let q = and-true (has (urgents c) a) (has (calm_acts d) a) p in let k = (calm-exactly d w a).0 q.1 in inl (q.0, k.0, k.1))
      (λ p. let q = and-true (has (calm_acts c) a) (has (urgents d) a) p in let k = (calm-exactly c v a).0 q.0 in inr (q.1, k.0, k.1))
      (or_cases (has (urgents c) a && has (calm_acts d) a) (has (calm_acts c) a && has (urgents d) a) e),
  back,
)
  where
    back : OnlyThere a (auto_of c) (auto_of d) ⊎ OnlyThere a (auto_of d) (auto_of c)
        → ((has (urgents c) a && has (calm_acts d) a) || (has (calm_acts c) a && has (urgents d) a)) ≡ true
    back (inl p) = simp (p.0, (calm-exactly d w a).1 (p.1, p.2))
    back (inr p) =
        or_right (has (urgents c) a && has (calm_acts d) a) (has (calm_acts c) a && has (urgents d) a) (simp (p.0, (calm-exactly c v a).1 (p.1, p.2)))

-- ---- every two components are compatible
module _ (m : Model) (w : WellFormed m) where
  -- a test that means P, over the places below n: none found, none there
  module _ (f : ℕ → Comp → Comp → Bool) (n : ℕ) (P : ℕ → Comp → Comp → Type 0) (to : (c d : Comp) → WellComp c → WellComp d → (x : ℕ) → P x c d
      → f x c d ≡ true) where
    unmet : clash_for f n m ≡ none → (i j : ℕ) → i < j → j < length m → (x : ℕ) → x < n → P x (comp_at m i) (comp_at m j) → ⊥
    unmet e i j h k x l p = true≢false (sym (to (comp_at m i) (comp_at m j) (w.each i (omega arith)) (w.each j k) x p) ∙ clash-none f n m e x i j l h k)

  pub pairs-compatible : check15 m ≡ none → check16 m ≡ none → check17 m ≡ none → Joinable m
  unfolding check15 check16 check17
  pairs-compatible e f g = record {
    pair = λ i j h k.
        let ci = comp_at m i in
        let cj = comp_at m j in
        let wi = w.each i (omega arith) in
        let wj = w.each j k in
        let d = unmet differ_urgent max_actions (λ a c d. OnlyThere a (auto_of c) (auto_of d) ⊎ OnlyThere a (auto_of d) (auto_of c))
        (λ c d v u a. (urgency-differs c d v u a).1) g i j h k in
        record {
          outputs =
              λ a p q. unmet share_output max_actions (λ a c d. (a ∈ outputs c) × (a ∈ outputs d)) (λ c d v u a. (output-shared c d a).1) e i j h k a
              (output-below ci wi a p) (p, q);
          clocks =
              λ x p q. unmet share_clock max_clocks (λ x c d. (x ∈ c.clocks) × (x ∈ d.clocks)) (λ c d v u x. (clock-shared c d x).1) f i j h k x
              (in-below max_clocks ci.clocks x wi.clocks p) (p, q);
          left = λ a u t. decide cj a (λ n. d a (urgent-below ci wi a u) (inl (u, t, n)));
          right = λ a u t. decide ci a (λ n. d a (urgent-below cj wj a u) (inr (u, t, n)));
        };
  }
    where
      decide : (c : Comp) (a : ℕ) → ((a ∈ urgents c → ⊥) → ⊥) → a ∈ urgents c
      decide c a f = go (has (urgents c) a) refl
        where
          go : (b : Bool) → has (urgents c) a ≡ b → has (urgents c) a ≡ true
          go true e = e
          go false e = absurd (f (λ t. true≢false (sym t ∙ e)))

  module _ (jo : Joinable m) where
    no_shared : (f : ℕ → Comp → Comp → Bool) (n : ℕ) → ((x i j : ℕ) → i < j → j < length m → f x (comp_at m i) (comp_at m j) ≡ true → ⊥) → clash_for f n m ≡ none
    no_shared f n h = none-clash f n m (λ x i j p q r. not_so (f x (comp_at m i) (comp_at m j)) (h x i j q r))

    pub compatible-15 : check15 m ≡ none
    unfolding check15
    compatible-15 =
        no_shared share_output max_actions (λ a i j h k e. let p = (output-shared (comp_at m i) (comp_at m j) a).0 e in (jo.pair i j h k).outputs a p.0
        p.1)

    pub compatible-16 : check16 m ≡ none
    unfolding check16
    compatible-16 =
        no_shared share_clock max_clocks (λ x i j h k e. let p = (clock-shared (comp_at m i) (comp_at m j) x).0 e in (jo.pair i j h k).clocks x p.0
        p.1)

    pub compatible-17 : check17 m ≡ none
    unfolding check17
    compatible-17 = no_shared differ_urgent max_actions (λ a i j h k e. ⊎_elim
        (λ p. p.2 ((jo.pair i j h k).left a p.0 p.1)) (λ p. p.2 ((jo.pair i j h k).right a p.0 p.1))
        ((urgency-differs (comp_at m i) (comp_at m j) (w.each i (omega arith)) (w.each j k) a).0 e))
