-- What stands in a list after a run of words was written into it, and after one word was raised.
use mathlib.Core.Path.{◌≡◌, refl, ◌∙◌}
use mathlib.Core.List.{List, [], ◌∷◌}
use Prim.Native.Nat.{ℕ, zero, suc, ◌+◌, ◌*◌, ◌-◌, ◌≤◌, ◌<◌}
use native.Mathlib.Omega.{arith}
use native.Mathlib.Decide.{ℕ_discrete}
use lib.ListN.{length, get_or, set, length-set}
use lib.Seq.{sets, get_or-set_same, get_or-set_other}
use Rattle.laws.specs.Fold.{tab}
use Rattle.layout.specs.Layout.{row_words, rows_at, action_at, guard_at, resets_at, target_at}
use Rattle.layout.specs.Image.{row_in, rows_of}
use Rattle.layout.specs.Words.{words_of}
use Rattle.mending.specs.Raised.{Raised}

pub sets_below : (l : List ℕ) (at : ℕ) (vs : List ℕ) (y : ℕ) → y < at → get_or (sets l at vs) y 0 ≡ get_or l y 0
sets_below l at [] y h = refl
sets_below l at (v ∷ vs) y h = sets_below (set l at v) (suc at) vs y (omega arith) ∙ get_or-set_other l at y v 0 (λ e. omega arith)

pub sets-above : (l : List ℕ) (at : ℕ) (vs : List ℕ) (y : ℕ) → at + length vs ≤ y → get_or (sets l at vs) y 0 ≡ get_or l y 0
sets-above l at [] y h = refl
sets-above l at (v ∷ vs) y h = sets-above (set l at v) (suc at) vs y (omega arith) ∙ get_or-set_other l at y v 0 (λ e. omega arith)

pub sets-inside : (l : List ℕ) (at : ℕ) (vs : List ℕ) (k : ℕ) → k < length vs → at + length vs ≤ length l → get_or (sets l at vs) (at + k) 0 ≡ get_or vs k 0
sets-inside l at [] k h b = absurd (omega arith)
sets-inside l at (v ∷ vs) zero h b =
    let e : at + 0 ≡ at = omega arith in
    rw e (sets_below (set l at v) (suc at) vs at (omega arith) ∙ get_or-set_same l at v 0 (omega arith))
sets-inside l at (v ∷ vs) (suc k) h b =
    let e : at + suc k ≡ suc at + k = omega arith in
    rw e (sets-inside (set l at v) (suc at) vs k (omega arith) (simp length-set (omega arith)))

-- ---- four stores are a row's words
pub row-stored : (l : List ℕ) (at a g r b : ℕ) → set (set (set (set l at a) (at + 1) g) (at + 2) r) (at + 3) b ≡ sets l at (a ∷ g ∷ r ∷ b ∷ [])
row-stored l at a g r b =
    let one : at + 1 ≡ suc at = omega arith in
    let two : at + 2 ≡ suc (suc at) = omega arith in
    let three : at + 3 ≡ suc (suc (suc at)) = omega arith in
    rw (one, two, three)

pub row_words_lem : (u : List ℕ) (at s r a g q b : ℕ) → a ≡ action_at u r → g ≡ guard_at u r → q ≡ resets_at u r → b ≡ target_at u r
    → sets u at (a ∷ g ∷ q ∷ b ∷ []) ≡ sets u at (words_of (row_in u s r))
row_words_lem u at s r a g q b ea eg eq eb = rw (ea, eg, eq, eb)

-- rows of a table are its words
pub rows-of-tab : (u : List ℕ) (s k n y : ℕ) → y < row_words * n → get_or (rows_of (tab (row_in u s) k n)) y 0 ≡ get_or u (rows_at + (row_words * k + y)) 0
unfolding rows_of action_at guard_at resets_at target_at
rows-of-tab u s k zero y h = absurd (omega arith)
rows-of-tab u s k (suc n) zero h = let e : rows_at + (row_words * k + 0) ≡ rows_at + row_words * k = omega arith in rw e
rows-of-tab u s k (suc n) (suc zero) h = let e : rows_at + (row_words * k + 1) ≡ rows_at + row_words * k + 1 = omega arith in rw e
rows-of-tab u s k (suc n) (suc (suc zero)) h = let e : rows_at + (row_words * k + 2) ≡ rows_at + row_words * k + 2 = omega arith in rw e
rows-of-tab u s k (suc n) (suc (suc (suc zero))) h = let e : rows_at + (row_words * k + 3) ≡ rows_at + row_words * k + 3 = omega arith in rw e
rows-of-tab u s k (suc n) (suc (suc (suc (suc y)))) h =
    let e : rows_at + (row_words * k + suc (suc (suc (suc y)))) ≡ rows_at + (row_words * suc k + y) = omega arith in
    rw e (rows-of-tab u s (suc k) n y (omega arith))

-- a row is its four words
pub same_row : (u t : List ℕ) (s r q : ℕ) → ((v : ℕ) → v < row_words → get_or u (rows_at + row_words * r + v) 0 ≡ get_or t (rows_at + row_words * q + v) 0)
    → row_in u s r ≡ row_in t s q
unfolding action_at guard_at resets_at target_at
same_row u t s r q h =
    let e : rows_at + row_words * r + 0 ≡ rows_at + row_words * r = omega arith in
    let f : rows_at + row_words * q + 0 ≡ rows_at + row_words * q = omega arith in
    let z : get_or u (rows_at + row_words * r) 0 ≡ get_or t (rows_at + row_words * q) 0 = rw (e, f) at (h 0 (omega arith)) in
    rw (z, h 1 (omega arith), h 2 (omega arith), h 3 (omega arith))

-- ---- words raised from the last to the first: those from k on are up
pub record Raising (t u : List ℕ) (words by k : ℕ) : Type 0 where
  pub long : length u ≡ length t
  pub most : k ≤ words
  pub moved : (x : ℕ) → k ≤ x → x < words → get_or u (rows_at + (by + x)) 0 ≡ get_or t (rows_at + x) 0
  pub below : (x : ℕ) → x < rows_at + (by + k) → get_or u x 0 ≡ get_or t x 0
  pub above : (x : ℕ) → rows_at + (by + words) ≤ x → get_or u x 0 ≡ get_or t x 0

module _ (t u : List ℕ) (words by : ℕ) (room : rows_at + (by + words) ≤ length t) where
  pub raising-start : Raising t t words by words
  raising-start = record { long = refl; most = omega arith; moved = λ x p q. absurd (omega arith); below = λ x p. refl; above = λ x p. refl }

  pub raising-on : (k : ℕ) → 0 < k → Raising t u words by k → Raising t (set u (rows_at + (by + (k - 1))) (get_or u (rows_at + (k - 1)) 0)) words by (k - 1)
  raising-on k pos r = record {
    long = length-set u at v ∙ r.long;
    most = omega (arith, r.most);
    moved = λ x p q. elim (ℕ_discrete x (k - 1)) [
      | yes e ↦ rw e (get_or-set_same u at v 0 (omega (arith, r.long, r.most)) ∙ r.below (rows_at + (k - 1)) (omega arith))
      | no e ↦ get_or-set_other u at (rows_at + (by + x)) v 0 (λ w. e (omega arith)) ∙ r.moved x (omega arith) q
    ];
    below = λ x p. get_or-set_other u at x v 0 (λ w. omega arith) ∙ r.below x (omega arith);
    above = λ x p. get_or-set_other u at x v 0 (λ w. omega (arith, r.most)) ∙ r.above x p;
  }
    where
      at : ℕ
      at = rows_at + (by + (k - 1))

      v : ℕ
      v = get_or u (rows_at + (k - 1)) 0

  pub raising-end : (k : ℕ) → k ≤ 0 → Raising t u words by k → Raised t u words by
  raising-end k z r = record {
    long = r.long;
    moved = λ x p. r.moved x (omega arith) p;
    below = λ x p. r.below x (omega arith);
    above = r.above;
  }
