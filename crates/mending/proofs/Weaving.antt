-- What the walk over a state's rows leaves in the table: its rows and loops, one after the other, although the rows are read from the same table.
use mathlib.Core.Path.{◌≡◌, refl, sym, ◌∙◌, ap, ap₂}
use mathlib.Core.Bool.{Bool, true, false, ◌&&◌, cond}
use mathlib.Core.List.{List, ◌∷◌}
use Prim.Native.Nat.{ℕ, zero, suc, ◌+◌, ◌*◌, ◌-◌, ◌≤◌, ◌<◌}
use native.Mathlib.Omega.{arith}
use native.Mathlib.Decide.{dec_lt}
use native.Mathlib.Numerals.{add-one}
use lib.Seq.{sets}
use lib.Dec.{ltb}
use borrow.Author.Tests.{le-ltb}
use Rattle.sets.specs.Members.{lowest_of, size_of}
use Rattle.model.specs.Model.{Row}
use Rattle.layout.specs.Layout.{row_words, rows_at}
use Rattle.layout.specs.Image.{row_in, rows_of}
use Rattle.layout.specs.Words.{words_of}
use Rattle.lacking.specs.Repair.{loop_at}
use Rattle.mending.specs.Weave.{takes, later, woven, put_row, weave}
use Rattle.mending.proofs.SetsAt.{sets-above, same_row}
use Rattle.mending.proofs.Stepwise.{takes-below}
use Rattle.mending.proofs.Woven.{Ready, after-row, after-loop}

-- only the rows of the range count
takes_same : (g h : ℕ → Row) (hi left r : ℕ) → (r < hi → g r ≡ h r) → takes g hi left r ≡ takes h hi left r
unfolding takes
takes_same g h hi left r e = elim (dec_lt r hi) [
  | yes p ↦ ap (λ q. ltb r hi && ltb q.action (lowest_of left)) (e p)
  | no p ↦ rw (le-ltb r hi (omega arith))
]

woven-same : (g h : ℕ → Row) (s hi k left r : ℕ) → ((x : ℕ) → r ≤ x → x < hi → g x ≡ h x) → woven g s hi k left r ≡ woven h s hi k left r
unfolding woven
woven-same g h s hi zero left r e = refl
woven-same g h s hi (suc k) left r e =
    rw (takes_same g h hi left r (λ p. e r (omega arith) p))
    (go (takes h hi left r) refl (λ p. woven-same g h s hi k left (suc r) (λ x a b. e x (omega arith) b)) (woven-same g h s hi k (later left) r e))
  where
    go : (b : Bool) → takes h hi left r ≡ b → (r < hi → woven g s hi k left (suc r) ≡ woven h s hi k left (suc r))
        → woven g s hi k (later left) r ≡ woven h s hi k (later left) r
        → cond b (g r ∷ woven g s hi k left (suc r)) (loop_at s (lowest_of left) ∷ woven g s hi k (later left) r)
        ≡ cond b (h r ∷ woven h s hi k left (suc r)) (loop_at s (lowest_of left) ∷ woven h s hi k (later left) r)
    go true t p q = let l = takes-below h hi left r t in ap₂ ◌∷◌ (e r (omega arith) l) (p l)
    go false t p q = ap (λ z. loop_at s (lowest_of left) ∷ z) q

-- a row put at v leaves the later ones as they were
row_kept : (u : List ℕ) (s v x : ℕ) (q : Row) → v < x → row_in (put_row u v q) s x ≡ row_in u s x
row_kept u s v x q h = same_row (put_row u v q) u s x x (λ j p. sets-above u (rows_at + row_words * v) (words_of q) (rows_at + row_words * x + j) (omega arith))

ready-same : (g h : ℕ → Row) (s lo hi left : ℕ) → ((x : ℕ) → lo ≤ x → x < hi → g x ≡ h x) → Ready g s lo hi left → Ready h s lo hi left
ready-same g h s lo hi left e d = record {
  upward = d.upward;
  from = λ x p q. rw (← e x p q) (d.from x p q);
  action = λ x p q. rw (← e x p q) (d.action x p q);
  ascend = λ x y p l q. rw (← e x p (omega arith), ← e y (omega arith) q) (d.ascend x y p l q);
  apart = λ x p q. rw (← e x p q) (d.apart x p q);
  low = d.low;
}

abbrev Woven : ℕ → ℕ → ℕ → ℕ → ℕ → ℕ → List ℕ → Type 0
Woven s hi k v left r u = weave s hi k v left r u ≡ sets u (rows_at + row_words * v) (rows_of (woven (row_in u s) s hi k left r))

-- one row put, and the rest behind it
module _ (s hi k v left r : ℕ) (u : List ℕ) (q : Row) (h : v < r) where
  kept : (x : ℕ) → r ≤ x → x < hi → row_in (put_row u v q) s x ≡ row_in u s x
  kept x p l = row_kept u s v x q (omega arith)

  put-ready : Ready (row_in u s) s r hi left → Ready (row_in (put_row u v q) s) s r hi left
  put-ready d = ready-same (row_in u s) (row_in (put_row u v q) s) s r hi left (λ x p l. sym (kept x p l)) d

  put_then : Woven s hi k (v + 1) left r (put_row u v q) → weave s hi k (v + 1) left r (put_row u v q)
      ≡ sets u (rows_at + row_words * v) (rows_of (q ∷ woven (row_in u s) s hi k left r))
  unfolding rows_of
  put_then ih =
      let next : rows_at + row_words * (v + 1) ≡ suc (suc (suc (suc (rows_at + row_words * v)))) = omega arith in
      ih ∙ ap₂ (λ at l. sets (put_row u v q) at (rows_of l)) next (woven-same (row_in (put_row u v q) s) (row_in u s) s hi k left r kept)

pub weave-is : (s hi k v left r : ℕ) (u : List ℕ) → Ready (row_in u s) s r hi left → k ≡ (hi - r) + size_of left → v + k ≤ hi → Woven s hi k v left r u
unfolding weave woven
weave-is s hi zero v left r u d e b = unfold rows_of in refl
weave-is s hi (suc k) v left r u d e b =
    go (weave-is s hi k (v + 1) left (suc r) (put_row u v (row_in u s r))) (weave-is s hi k (v + 1) (later left) r (put_row u v (loop_at s (lowest_of left))))
    (takes (row_in u s) hi left r) refl
  where
    go : (Ready (row_in (put_row u v (row_in u s r)) s) s (suc r) hi left → k ≡ (hi - suc r) + size_of left → v + 1 + k ≤ hi
        → Woven s hi k (v + 1) left (suc r) (put_row u v (row_in u s r)))
        → (Ready (row_in (put_row u v (loop_at s (lowest_of left))) s) s r hi (later left) → k ≡ (hi - r) + size_of (later left) → v + 1 + k ≤ hi
        → Woven s hi k (v + 1) (later left) r (put_row u v (loop_at s (lowest_of left))))
        → (c : Bool) → takes (row_in u s) hi left r ≡ c
        → cond c (weave s hi k (v + 1) left (r + 1) (put_row u v (row_in u s r))) (weave s hi k (v + 1) (later left) r (put_row u v (loop_at s (lowest_of left))))
        ≡ sets u (rows_at + row_words * v) (rows_of (cond c (row_in u s r ∷ woven (row_in u s) s hi k left (suc r))
        (loop_at s (lowest_of left) ∷ woven (row_in u s) s hi k (later left) r)))
    go ir il true t =
        let a = after-row (row_in u s) s hi k r left d e t in
        let q = row_in u s r in
        let h : v < suc r = omega (arith, d.upward) in
        rw (add-one r) (put_then s hi k v left (suc r) u q h (ir (put-ready s hi k v left (suc r) u q h a.0) a.1 (omega arith)))
    go ir il false t =
        let a = after-loop (row_in u s) s hi k r left d e t in
        let q = loop_at s (lowest_of left) in
        let h : v < r = omega (arith, d.upward, a.1) in
        put_then s hi k v (later left) r u q h (il (put-ready s hi k v (later left) r u q h a.0) a.1 (omega arith))
