-- A way by numbers up to n goes by n once, or not at all.
use mathlib.Core.Path.{◌≡◌, refl, sym, ◌∙◌, ap, ap₂, subst}
use mathlib.Core.Logic.{◌↔◌, ◌⊎◌, inl, inr, ⊎_elim, by_cases}
use mathlib.Core.Bool.{Bool, true, false, ◌||◌, ◌&&◌, not, true≢false}
use mathlib.Core.List.{List}
use Prim.Native.Nat.{ℕ, ◌+◌, ◌<◌}
use native.Mathlib.Omega.{arith}
use native.Mathlib.Decide.{ℕ_discrete}
use lib.ListN.{length, get_or}
use lib.Dec.{eqb}
use borrow.Author.Tests.{eqb-true, not-false}
use Rattle.laws.specs.Sets.{has, only, ◌∈◌, ◌∖◌}
use Rattle.laws.proofs.SetLaws.{or_cases, or_left, or_right, none_in, one_in, without_in}
use Rattle.laws.proofs.TestLaws.{and-true, not_so}
use Rattle.marks.specs.Ways.{Way, edge, join}
use Rattle.marks.specs.Marks.{rows_of_marks, mark_at, Idle, Passed, Closed, ClosedSets}
use Rattle.marks.specs.Busy.{Busy, RowsOf, SetsOf}

-- the same links between numbers below n, the same ways
pub way-map : {E F : ℕ → ℕ → Type 0} (n : ℕ) → ((a b : ℕ) → a < n → b < n → E a b → F a b) → {a b : ℕ} → a < n → b < n → Way E n a b → Way F n a b
way-map n f {a} {b} h k (edge e) = edge (f a b h k e)
way-map n f h k (join l p q) = join l (way-map n f h l p) (way-map n f l k q)

module _ (E : ℕ → ℕ → Type 0) (n : ℕ) where
  more : {a b : ℕ} → Way E n a b → Way E (n + 1) a b
  more (edge e) = edge e
  more (join {k = k} h p q) = join {k = k} (omega arith) (more p) (more q)

  -- by n, or not
  abbrev Split : ℕ → ℕ → Type 0
  Split a b = Way E n a b ⊎ (Way E n a n × Way E n n b)

  to-n : {a : ℕ} → Split a n → Way E n a n
  to-n (inl u) = u
  to-n (inr u) = u.0

  from-n : {b : ℕ} → Split n b → Way E n n b
  from-n (inl u) = u
  from-n (inr u) = u.1

  by : {a k b : ℕ} → k < n → Split a k → Split k b → Split a b
  by h (inl u) (inl v) = inl (join h u v)
  by h (inl u) (inr v) = inr (join h u v.0, v.1)
  by h (inr u) (inl v) = inr (u.0, join h u.1 v)
  by h (inr u) (inr v) = inr (u.0, v.1)

  split : {a b : ℕ} → Way E (n + 1) a b → Split a b
  split (edge e) = inl (edge e)
  split (join {k = k} h p q) = elim (ℕ_discrete k n) [
    | yes e ↦ inr (to-n (rw e at (split p)), from-n (rw e at (split q)))
    | no e ↦ by (omega arith) (split p) (split q)
  ]

  -- f marks the ways by numbers below n, g those by n too
  module _ (size : ℕ) (f g : ℕ → ℕ → Bool) (h : n < size) (known : (a b : ℕ) → a < size → b < size → (f a b ≡ true) ↔ Way E n a b)
      (step : (a b : ℕ) → a < size → b < size → g a b ≡ (f a b || (f a n && f n b))) where
    pub one_more : (a b : ℕ) → a < size → b < size → (g a b ≡ true) ↔ Way E (n + 1) a b
    one_more a b p q = (
      λ e. ⊎_elim
          (λ u. more ((known a b p q).0 u))
          (λ u. let w = and-true (f a n) (f n b) u in join {k = n} (omega arith) (more ((known a n p h).0 w.0)) (more ((known n b h q).0 w.1)))
          (or_cases (f a b) (f a n && f n b) (sym (step a b p q) ∙ e)),
      λ v. step a b p q ∙ ⊎_elim
          (λ u. or_left (f a b) (f a n && f n b) ((known a b p q).1 u))
          (λ u. or_right (f a b) (f a n && f n b) (both ((known a n p h).1 u.0) ((known n b h q).1 u.1)))
          (split v),
    )
      where
        both : {x y : Bool} → x ≡ true → y ≡ true → (x && y) ≡ true
        both e f = rw (e, f)

-- by no number at all: a link itself
pub links : {E : ℕ → ℕ → Type 0} {a b : ℕ} → E a b ↔ Way E 0 a b
links {E} {a} {b} = (edge, back)
  where
    back : {a b : ℕ} → Way E 0 a b → E a b
    back (edge e) = e
    back (join h p q) = absurd (omega arith)

-- ---- a number that leads to itself at most, and the others
pub busy-all : (s : List ℕ) (w : ℕ) → ((k : ℕ) → k < rows_of_marks → not (eqb (get_or s k 0 ∖ only k) 0) ≡ has w k) → Busy s w
busy-all s w h = record {
  itself = λ k l o b e. by_cases (ℕ_discrete b k) (λ q. q) (λ q.
      let z : get_or s k 0 ∖ only k ≡ 0 = eqb-true (get_or s k 0 ∖ only k) 0 (not-false (eqb (get_or s k 0 ∖ only k) 0) (h k l ∙ o)) in
      absurd (none_in b (rw z at (without_in (get_or s k 0) (only k) b e (not_so (has (only k) b) (λ i. q (one_in k b i)))))));
}

module _ (s : List ℕ) (w : ℕ) (busy : Busy s w) where
  E : ℕ → ℕ → Type 0
  E x y = y ∈ get_or s x 0

  -- from an idle number there is no way but its own link
  idle-way : {a b : ℕ} → a < rows_of_marks → has w a ≡ false → Way E rows_of_marks a b → b ∈ get_or s a 0
  unfolding E
  idle-way h i (edge e) = e
  idle-way {a} {b} h i (join {k = k} l p q) =
      let e : k ≡ a = busy.itself a h i k (idle-way h i p) in
      subst (λ n. b ∈ get_or s n 0) e (idle-way l (ap (has w) e ∙ i) q)

  module _ (m : List (List Bool)) (t : RowsOf w s m) where
    to : (a b : ℕ) → a < rows_of_marks → b < rows_of_marks → mark_at m a b ≡ true → E a b
    unfolding E
    to a b h l e = go (has w a) refl
      where
        go : (x : Bool) → has w a ≡ x → b ∈ get_or s a 0
        go true i = sym ((t.rows a h i).marks b l) ∙ e
        go false i = absurd (true≢false (sym e ∙ t.idle.none a b h l i))

    back : {a b : ℕ} → a < rows_of_marks → b < rows_of_marks → a ∈ w → Way E rows_of_marks a b → Way (λ x y. mark_at m x y ≡ true) rows_of_marks a b
    unfolding E
    back {a} {b} h l i (edge e) = edge ((t.rows a h i).marks b l ∙ e)
    back {a} {b} h l i (join {k = k} g p q) = by (has w k) refl (back h g i p) (λ j. back g l j q)
      where
        by : (x : Bool) → has w k ≡ x → Way (λ x y. mark_at m x y ≡ true) rows_of_marks a k → (k ∈ w → Way (λ x y. mark_at m x y ≡ true) rows_of_marks k b)
            → Way (λ x y. mark_at m x y ≡ true) rows_of_marks a b
        by true j u v = join {k = k} g u (v j)
        by false j u v = subst (Way (λ x y. mark_at m x y ≡ true) rows_of_marks a) (sym (busy.itself k g j b (idle-way g j q))) u

    -- the table of these sets, its closure, and the sets of that
    pub closed-sets : (n : List (List Bool)) → Closed m n → (r : List ℕ) → SetsOf w n s r → ClosedSets s r
    unfolding E
    closed-sets n c r u = record { places = u.places; ways = λ a b h l. by a b h l (has w a) refl }
      where
        by : (a b : ℕ) → a < rows_of_marks → b < rows_of_marks → (x : Bool) → has w a ≡ x → (b ∈ get_or r a 0) ↔ Way (λ x y. y ∈ get_or s x 0) rows_of_marks a b
        by a b h l true i = (
          λ e. way-map rows_of_marks to h l ((c.ways a b h l).0 ((u.sets a h i).marks b l ∙ e)),
          λ v. sym ((u.sets a h i).marks b l) ∙ (c.ways a b h l).1 (back h l i v),
        )
        by a b h l false i = (
          λ e. edge (rw (u.others a i) at e),
          λ v. rw (u.others a i) (idle-way h i v),
        )

-- ---- rows without marks stay so, and where k has none nothing is passed
pub idle-passed : (w k : ℕ) (m n : List (List Bool)) → k < rows_of_marks → Passed k m n → Idle w m → Idle w n
idle-passed w k m n l p i = record {
  none = λ a b h g o.
      p.marks a b h g ∙ ap₂ (λ x y. x || (y && mark_at m k b)) (i.none a b h g o) (i.none a k h l o);
}

pub passed-idle : (w k : ℕ) (m : List (List Bool)) → length m ≡ rows_of_marks → k < rows_of_marks → Idle w m → has w k ≡ false → Passed k m m
passed-idle w k m c l i o = record {
  rows = c;
  marks = λ a b h g.
      sym (ap (λ x. mark_at m a b || (mark_at m a k && x)) (i.none k b l g o) ∙ plain (mark_at m a b) (mark_at m a k));
}
  where
    plain : (x y : Bool) → (x || (y && false)) ≡ x
    plain true true = refl
    plain true false = refl
    plain false true = refl
    plain false false = refl
