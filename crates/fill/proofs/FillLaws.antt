-- A loop that writes one word a turn, and words written one run after the other.
use mathlib.Core.Path.{◌≡◌, refl, sym, ◌∙◌, ap, ap₂}
use mathlib.Core.List.{List, [], ◌∷◌, ◌++◌, append_assoc}
use Prim.Native.Nat.{ℕ, zero, suc, ◌+◌, ◌-◌, ◌≤◌, ◌<◌}
use native.Mathlib.Omega.{arith}
use lib.ListN.{length, get_or, set, take, drop, replicate}
use lib.Seq.{sets, drop-cons, drop-append-add}
use borrow.Rule.Slice.PartMut.{put_mid}
use Rattle.std.proofs.lemmas.List.Edits.{paste_all, sets-eq}
use Rattle.std.proofs.lemmas.Slice.{put_mid-paste}
use Rattle.laws.specs.Fold.{tab}
use Rattle.laws.proofs.TabLaws.{tab-next, tab-done}
use Rattle.fill.specs.Words.{words_from, zeros_of}

-- two runs, one behind the other
pub sets-append : (l xs ys : List ℕ) (at : ℕ) → sets l at (xs ++ ys) ≡ sets (sets l at xs) (at + length xs) ys
sets-append l [] ys at = let e : at + 0 ≡ at = omega arith in rw e
sets-append l (x ∷ xs) ys at = let e : at + suc (length xs) ≡ suc at + length xs = omega arith in rw e (sets-append (set l at x) xs ys (suc at))

-- a run written behind what is written already
pub then-sets : (l l' l'' xs ys : List ℕ) (at here : ℕ) → l' ≡ sets l at xs → here ≡ at + length xs → l'' ≡ sets l' here ys → l'' ≡ sets l at (xs ++ ys)
then-sets l l' l'' xs ys at here e h f = f ∙ ap₂ (λ a k. sets a k ys) e h ∙ sym (sets-append l xs ys at)

-- ---- n words, word k at place at + k
module _ (f : ℕ → ℕ) (at n : ℕ) where
  pub fill_start : (l : List ℕ) → sets l (at + 0) (tab f 0 (n - 0)) ≡ sets l at (tab f 0 n)
  fill_start l = let e : at + 0 ≡ at = omega arith in let g : n - 0 ≡ n = omega arith in rw (e, g)

  pub fill_on : (k : ℕ) (l l' whole : List ℕ) → k < n → sets l (at + k) (tab f k (n - k)) ≡ whole → l' ≡ set l (at + k) (f k)
      → sets l' (at + (k + 1)) (tab f (k + 1) (n - (k + 1))) ≡ whole
  fill_on k l l' whole h e g =
      let s : at + (k + 1) ≡ suc (at + k) = omega arith in
      rw (g, s) (ap (sets l (at + k)) (sym (tab-next f k n h)) ∙ e)

  pub fill_end : (k : ℕ) (l whole : List ℕ) → n ≤ k → sets l (at + k) (tab f k (n - k)) ≡ whole → l ≡ whole
  fill_end k l whole h e = ap (sets l (at + k)) (sym (tab-done f k n h)) ∙ e

-- ---- a part of a list, read word by word
tab-prefix : (l ys : List ℕ) (xs : List ℕ) (k n : ℕ) → drop k l ≡ xs ++ ys → length xs ≡ n → k + n ≤ length l → tab (λ j. get_or l j 0) k n ≡ xs
tab-prefix l ys [] k zero e h b = refl
tab-prefix l ys [] k (suc n) e h b = absurd (omega arith)
tab-prefix l ys (x ∷ xs) k zero e h b = absurd (omega arith)
tab-prefix l ys (x ∷ xs) k (suc n) e h b =
    let c : get_or l k 0 ∷ drop (suc k) l ≡ x ∷ (xs ++ ys) = sym (drop-cons l k 0 (omega arith)) ∙ e in
    ap₂ ◌∷◌ (ap (λ r. get_or r 0 0) c) (tab-prefix l ys xs (suc k) n (ap (drop 1) c) (omega arith) (omega arith))

tab-shift : (t : List ℕ) (from k n : ℕ) → tab (λ j. get_or t (from + j) 0) k n ≡ tab (λ j. get_or t j 0) (from + k) n
tab-shift t from k zero = refl
tab-shift t from k (suc n) =
    let e : from + suc k ≡ suc (from + k) = omega arith in
    ap (λ r. get_or t (from + k) 0 ∷ r) (tab-shift t from (suc k) n ∙ ap (λ x. tab (λ j. get_or t j 0) x n) e)

-- the middle of three
pub part_of : (t xs ys zs : List ℕ) (from n : ℕ) → t ≡ xs ++ (ys ++ zs) → from ≡ length xs → n ≡ length ys → from + n ≤ length t → words_from t from n ≡ ys
unfolding words_from
part_of t xs ys zs from n e f h b =
    let z : from + 0 ≡ from = omega arith in
    let g : length xs + 0 ≡ length xs = omega arith in
    tab-shift t from 0 n ∙ ap (λ k. tab (λ j. get_or t j 0) k n) z
    ∙ tab-prefix t zs ys from n (ap₂ drop f e ∙ ap (λ k. drop k (xs ++ (ys ++ zs))) (sym g) ∙ drop-append-add xs (ys ++ zs) 0) (sym h) b

-- a part of a buffer that is written over by so many words
pub put-is : (at n : ℕ) (l ys ws : List ℕ) → at + n ≤ length l → ys ≡ ws → length ws ≡ n → put_mid at (at + n - at) l ys ≡ sets l at ws
put-is at n l ys ws h e g =
    put_mid-paste at (at + n - at) l ys ws n e (omega arith) (sym g) ∙ paste_all l at ws n (sym g)
    ∙ ap (λ k. take at l ++ (ws ++ drop (at + k) l)) (sym g) ∙ sym (append_assoc (take at l) ws (drop (at + length ws) l))
    ∙ sym (sets-eq ws l at (omega arith))

pub zeros-are : (n : ℕ) → zeros_of n ≡ replicate n 0
unfolding zeros_of
zeros-are n = go n 0
  where
    go : (n k : ℕ) → tab {A = ℕ} (λ k. 0) k n ≡ replicate n 0
    go zero k = refl
    go (suc n) k = ap (λ l. 0 ∷ l) (go n (suc k))
