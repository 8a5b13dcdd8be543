-- One row of a state's walk at a time.
use mathlib.Core.Path.{◌≡◌, refl}
use mathlib.Core.Bool.{Bool, true, false, cond}
use mathlib.Core.List.{List, [], ◌∷◌}
use Prim.Native.Nat.{ℕ, suc, ◌+◌, ◌*◌, ◌-◌, ◌≤◌, ◌<◌}
use native.Mathlib.Omega.{arith}
use lib.Seq.{sets}
use lib.Dec.{ltb}
use borrow.Author.Tests.{ltb-true, ltb-false, lt-ltb, le-ltb}
use Rattle.laws.proofs.TestLaws.{and-true, and-false}
use Rattle.sets.specs.Members.{lowest_of}
use Rattle.model.specs.Model.{Row}
use Rattle.layout.specs.Layout.{row_words, rows_at, action_at}
use Rattle.layout.specs.Image.{row_in}
use Rattle.lacking.specs.Repair.{loop_at}
use Rattle.mending.specs.declared.Next.{Next}
use Rattle.mending.specs.Weave.{takes, later, put_row, weave}
use Rattle.mending.specs.Next.{Put}

-- ---- whether a row comes first
pub takes-below : (g : ℕ → Row) (hi left r : ℕ) → takes g hi left r ≡ true → r < hi
unfolding takes
takes-below g hi left r e = ltb-true r hi (and-true (ltb r hi) (ltb (g r).action (lowest_of left)) e).0

pub takes-lower : (g : ℕ → Row) (hi left r : ℕ) → takes g hi left r ≡ true → (g r).action < lowest_of left
unfolding takes
takes-lower g hi left r e = ltb-true (g r).action (lowest_of left) (and-true (ltb r hi) (ltb (g r).action (lowest_of left)) e).1

pub takes-not : (g : ℕ → Row) (hi left r : ℕ) → takes g hi left r ≡ false → r < hi → lowest_of left ≤ (g r).action
unfolding takes
takes-not g hi left r e h = ltb-false (g r).action (lowest_of left) (and-false (ltb r hi) (ltb (g r).action (lowest_of left)) e (lt-ltb r hi h))

pub takes-some : (u : List ℕ) (s hi left r a l : ℕ) → r < hi → a ≡ action_at u r → l ≡ lowest_of left → ltb a l ≡ takes (row_in u s) hi left r
unfolding takes
takes-some u s hi left r a l h ea el = rw (lt-ltb r hi h, ea, el)

pub takes_none : (u : List ℕ) (s hi left r : ℕ) → hi ≤ r → false ≡ takes (row_in u s) hi left r
unfolding takes
takes_none u s hi left r h = rw (le-ltb r hi h)

-- ---- one row put
module _ (u : List ℕ) (s hi v : ℕ) (x : Next) where
  pub put-taken : (u' : List ℕ) → takes (row_in u s) hi x.left x.r ≡ true → u' ≡ put_row u v (row_in u s x.r)
      → Put u s hi v x (record { r = x.r + 1; left = x.left }) u'
  put-taken u' e h = record { next = rw e; table = rw e h }

  pub put-loop : (a l : ℕ) (u' : List ℕ) → takes (row_in u s) hi x.left x.r ≡ false → a ≡ lowest_of x.left → l ≡ later x.left
      → u' ≡ sets u (rows_at + row_words * v) (a ∷ 0 ∷ 0 ∷ s ∷ []) → Put u s hi v x (record { r = x.r; left = l }) u'
  put-loop a l u' e f g h = record { next = rw (e, g); table = rw e (rw f at h) }

-- ---- and the walk goes on
module _ (s hi v end : ℕ) (u : List ℕ) where
  pub weave-on : (u' : List ℕ) (x y : Next) → v < end → Put u s hi v x y u'
      → weave s hi (end - v) v x.left x.r u ≡ weave s hi (end - (v + 1)) (v + 1) y.left y.r u'
  unfolding weave
  weave-on u' x y h p =
      let e : end - v ≡ suc (end - (v + 1)) = omega arith in
      let k = end - (v + 1) in
      rw (e, p.next, p.table) (go k (takes (row_in u s) hi x.left x.r))
    where
      go : (k : ℕ) (b : Bool)
          → cond b (weave s hi k (v + 1) x.left (x.r + 1) (put_row u v (row_in u s x.r)))
          (weave s hi k (v + 1) (later x.left) x.r (put_row u v (loop_at s (lowest_of x.left))))
          ≡ weave s hi k (v + 1) (cond {A = Next} b (record { r = x.r + 1; left = x.left }) (record { r = x.r; left = later x.left })).left
          (cond {A = Next} b (record { r = x.r + 1; left = x.left }) (record { r = x.r; left = later x.left })).r
          (cond b (put_row u v (row_in u s x.r)) (put_row u v (loop_at s (lowest_of x.left))))
      go k true = refl
      go k false = refl

  pub weave-end : (left r : ℕ) → end ≤ v → weave s hi (end - v) v left r u ≡ u
  unfolding weave
  weave-end left r h = let e : end - v ≡ 0 = omega arith in rw e
