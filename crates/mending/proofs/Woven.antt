-- The rows of a state with its loops: they ascend, and they are the rows of the range and a loop for each member of the set.
use mathlib.Core.Path.{◌≡◌, refl, sym, ◌∙◌, ap}
use mathlib.Core.Logic.{◌⊎◌, inl, inr, ⊎_elim}
use mathlib.Core.Bool.{Bool, true, false, cond, true≢false}
use mathlib.Core.List.Memᴰ.{head as here}
use mathlib.Core.List.Memᴰ.{not-nil as in-none}
use mathlib.Core.List.Memᴰ.{tail as there}
use mathlib.Core.List.{◌∷◌, Memᴰ as In}
use Prim.Native.Nat.{ℕ, zero, suc, ◌+◌, ◌-◌, ◌≤◌, ◌<◌}
use native.Mathlib.Omega.{arith}
use native.Mathlib.Decide.{ℕ_discrete, dec_lt}
use lib.ListN.{length}
use Rattle.laws.specs.Sets.{has, ◌∈◌}
use Rattle.laws.proofs.SetLaws.{none_in}
use Rattle.laws.proofs.TestLaws.{not_so}
use Rattle.sets.specs.Members.{word_bits, lowest_of, size_of}
use Rattle.model.specs.Model.{Row}
use Rattle.merged.proofs.Merging.Ascend.{Before, Ascending}
use Rattle.layout.proofs.RowsAscend.{before-action}
use Rattle.lacking.specs.Repair.{loop_at}
use Rattle.lacking.proofs.RepairedRows.{by-action}
use Rattle.mending.specs.Weave.{takes, later, woven}
use Rattle.mending.proofs.Sizes.{Low, lowest-least, later-in, later-not, in-later, later-low, size-later, size_none, lowest-none}
use Rattle.mending.proofs.Stepwise.{takes-below, takes-lower, takes-not}

-- the lowest member is below every other
lowest-le : (l : ℕ) → Low l → (a : ℕ) → a ∈ l → lowest_of l ≤ a
lowest-le l low a m =
    let f = lowest-least l low (λ z. none_in a (rw z at m)) in
    elim (dec_lt a (lowest_of l)) [
      | yes h ↦ absurd (true≢false (sym m ∙ f.before a h))
      | no h ↦ omega arith
    ]

strict : (x y : ℕ) → x ≤ y → (y ≡ x → ⊥) → x < y
strict x y p q = elim (ℕ_discrete y x) [ yes e ↦ absurd (q e) | no e ↦ omega arith ]

-- rows lo .. hi of g that leave s and ascend, and a set of actions that none of them has
pub record Ready (g : ℕ → Row) (s lo hi left : ℕ) : Type 0 where
  pub upward : lo ≤ hi
  pub from : (x : ℕ) → lo ≤ x → x < hi → (g x).from ≡ s
  pub action : (x : ℕ) → lo ≤ x → x < hi → (g x).action < word_bits
  pub ascend : (x y : ℕ) → lo ≤ x → x < y → y < hi → Before (g x) (g y)
  pub apart : (x : ℕ) → lo ≤ x → x < hi → has left (g x).action ≡ false
  pub low : Low left

pub woven-length : (g : ℕ → Row) (s hi k left r : ℕ) → length (woven g s hi k left r) ≡ k
unfolding woven
woven-length g s hi zero left r = refl
woven-length g s hi (suc k) left r = go (takes g hi left r) (woven-length g s hi k left (suc r)) (woven-length g s hi k (later left) r)
  where
    go : (b : Bool) → length (woven g s hi k left (suc r)) ≡ k → length (woven g s hi k (later left) r) ≡ k
        → length (cond b (g r ∷ woven g s hi k left (suc r)) (loop_at s (lowest_of left) ∷ woven g s hi k (later left) r)) ≡ suc k
    go true p q = ap suc p
    go false p q = ap suc q

module _ (g : ℕ → Row) (s hi : ℕ) where
  -- ---- the next row, and the next loop
  ready-row : (r left : ℕ) → Ready g s r hi left → r < hi → Ready g s (suc r) hi left
  ready-row r left d h = record {
    upward = h;
    from = λ x p q. d.from x (omega arith) q;
    action = λ x p q. d.action x (omega arith) q;
    ascend = λ x y p. d.ascend x y (omega arith);
    apart = λ x p q. d.apart x (omega arith) q;
    low = d.low;
  }

  ready-loop : (r left : ℕ) → Ready g s r hi left → Ready g s r hi (later left)
  ready-loop r left d = record {
    upward = d.upward;
    from = d.from;
    action = d.action;
    ascend = d.ascend;
    apart = λ x p q. not_so (has (later left) (g x).action) (λ m. true≢false (sym (later-in left (g x).action m) ∙ d.apart x p q));
    low = later-low left d.low;
  }

  -- where a loop comes next there is one
  some_left : (k r left : ℕ) → Ready g s r hi left → suc k ≡ (hi - r) + size_of left → takes g hi left r ≡ false → left ≡ 0 → ⊥
  some_left k r left d e t z = elim (dec_lt r hi) [
    | yes h ↦ nothing (takes-not g hi left r t h) (d.action r (omega arith) h)
    | no h ↦ let n : size_of left ≡ 0 = ap size_of z ∙ size_none in omega (arith, d.upward)
  ]
    where
      nothing : lowest_of left ≤ (g r).action → (g r).action < word_bits → ⊥
      nothing p q = let m : lowest_of left ≡ word_bits = ap lowest_of z ∙ lowest-none in omega arith

  module _ (k r left : ℕ) (d : Ready g s r hi left) (e : suc k ≡ (hi - r) + size_of left) where
    pub after-row : takes g hi left r ≡ true → (Ready g s (suc r) hi left) × (k ≡ (hi - suc r) + size_of left)
    after-row t = let h = takes-below g hi left r t in (ready-row r left d h, omega arith)

    pub after-loop : takes g hi left r ≡ false → (Ready g s r hi (later left)) × (k ≡ (hi - r) + size_of (later left))
    after-loop t = (ready-loop r left d, omega (arith, size-later left d.low (some_left k r left d e t)))

  -- what is known where a row, or a loop, comes next
  abbrev IfRow : ℕ → ℕ → ℕ → Type 0 → Type 0
  IfRow k r left P = Ready g s (suc r) hi left → k ≡ (hi - suc r) + size_of left → P

  abbrev IfLoop : ℕ → ℕ → ℕ → Type 0 → Type 0
  IfLoop k r left P = Ready g s r hi (later left) → k ≡ (hi - r) + size_of (later left) → P

  abbrev Old : ℕ → Row → Type 0
  Old r z = (x : ℕ) × (r ≤ x) × (x < hi) × (z ≡ g x)

  abbrev New : ℕ → Row → Type 0
  New left z = (a : ℕ) × (a ∈ left) × (z ≡ loop_at s a)

  -- ---- members
  pub woven-in : (k r left : ℕ) {z : Row} → Ready g s r hi left → k ≡ (hi - r) + size_of left → In z (woven g s hi k left r) → Old r z ⊎ New left z
  unfolding woven
  woven-in zero r left d e m = absurd (in-none m)
  woven-in (suc k) r left {z} d e m = go (woven-in k (suc r) left) (woven-in k r (later left)) (takes g hi left r) refl m
    where
      wider : Old (suc r) z ⊎ New left z → Old r z ⊎ New left z
      wider w = ⊎_elim (λ o. inl (o.0, omega (arith, o.1), o.2, o.3)) (λ n. inr n) w

      more : Old r z ⊎ New (later left) z → Old r z ⊎ New left z
      more w = ⊎_elim (λ o. inl o) (λ n. inr (n.0, later-in left n.0 n.1, n.2)) w

      row : (IfRow k r left (In z (woven g s hi k left (suc r)) → Old (suc r) z ⊎ New left z)) → takes g hi left r ≡ true
          → In z (g r ∷ woven g s hi k left (suc r)) → Old r z ⊎ New left z
      row ih t (here q) = inl (r, omega arith, takes-below g hi left r t, q)
      row ih t (there q) = let a = after-row k r left d e t in wider (ih a.0 a.1 q)

      loop : (IfLoop k r left (In z (woven g s hi k (later left) r) → Old r z ⊎ New (later left) z)) → takes g hi left r ≡ false
          → In z (loop_at s (lowest_of left) ∷ woven g s hi k (later left) r) → Old r z ⊎ New left z
      loop ih t (here q) = inr (lowest_of left, (lowest-least left d.low (some_left k r left d e t)).here, q)
      loop ih t (there q) = let a = after-loop k r left d e t in more (ih a.0 a.1 q)

      go : (IfRow k r left (In z (woven g s hi k left (suc r)) → Old (suc r) z ⊎ New left z))
          → (IfLoop k r left (In z (woven g s hi k (later left) r) → Old r z ⊎ New (later left) z)) → (b : Bool) → takes g hi left r ≡ b
          → In z (cond b (g r ∷ woven g s hi k left (suc r)) (loop_at s (lowest_of left) ∷ woven g s hi k (later left) r)) → Old r z ⊎ New left z
      go ir il true t q = row ir t q
      go ir il false t q = loop il t q

  pub old-in : (k r left : ℕ) {z : Row} → Ready g s r hi left → k ≡ (hi - r) + size_of left → Old r z → In z (woven g s hi k left r)
  unfolding woven
  old-in zero r left d e o = absurd (omega (arith, o.1, o.2))
  old-in (suc k) r left {z} d e o = go (old-in k (suc r) left) (old-in k r (later left)) (takes g hi left r) refl
    where
      row : (IfRow k r left (Old (suc r) z → In z (woven g s hi k left (suc r)))) → takes g hi left r ≡ true → In z (g r ∷ woven g s hi k left (suc r))
      row ih t = elim (ℕ_discrete o.0 r) [
        | yes q ↦ here (o.3 ∙ ap g q)
        | no q ↦ let a = after-row k r left d e t in there (ih a.0 a.1 (o.0, omega (arith, o.1), o.2, o.3))
      ]

      go : (IfRow k r left (Old (suc r) z → In z (woven g s hi k left (suc r)))) → (IfLoop k r left (Old r z → In z (woven g s hi k (later left) r)))
          → (b : Bool) → takes g hi left r ≡ b → In z (cond b (g r ∷ woven g s hi k left (suc r)) (loop_at s (lowest_of left) ∷ woven g s hi k (later left) r))
      go ir il true t = row ir t
      go ir il false t = let a = after-loop k r left d e t in there (il a.0 a.1 o)

  none-of-none : (r left a : ℕ) → Ready g s r hi left → 0 ≡ (hi - r) + size_of left → a ∈ left → ⊥
  none-of-none r left a d e m = let n = size-later left d.low (λ z. true≢false (sym m ∙ ap (λ l. has l a) z ∙ not_so (has 0 a) (none_in a))) in omega arith

  pub new_in : (k r left : ℕ) {z : Row} → Ready g s r hi left → k ≡ (hi - r) + size_of left → New left z → In z (woven g s hi k left r)
  unfolding woven
  new_in zero r left d e n = absurd (none-of-none r left n.0 d e n.1)
  new_in (suc k) r left {z} d e n = go (new_in k (suc r) left) (new_in k r (later left)) (takes g hi left r) refl
    where
      loop : (IfLoop k r left (New (later left) z → In z (woven g s hi k (later left) r))) → takes g hi left r ≡ false
          → In z (loop_at s (lowest_of left) ∷ woven g s hi k (later left) r)
      loop ih t = elim (ℕ_discrete n.0 (lowest_of left)) [
        | yes q ↦ here (n.2 ∙ ap (loop_at s) q)
        | no q ↦ let a = after-loop k r left d e t in there (ih a.0 a.1 (n.0, in-later left n.0 n.1 q, n.2))
      ]

      go : (IfRow k r left (New left z → In z (woven g s hi k left (suc r)))) → (IfLoop k r left (New (later left) z → In z (woven g s hi k (later left) r)))
          → (b : Bool) → takes g hi left r ≡ b → In z (cond b (g r ∷ woven g s hi k left (suc r)) (loop_at s (lowest_of left) ∷ woven g s hi k (later left) r))
      go ir il true t = let a = after-row k r left d e t in there (ir a.0 a.1 n)
      go ir il false t = loop il t

  -- ---- order
  pub woven-ascends : (k r left : ℕ) → Ready g s r hi left → k ≡ (hi - r) + size_of left → Ascending (woven g s hi k left r)
  unfolding woven
  woven-ascends zero r left d e = tt
  woven-ascends (suc k) r left d e = go (woven-ascends k (suc r) left) (woven-ascends k r (later left)) (takes g hi left r) refl
    where
      first-row : takes g hi left r ≡ true → (z : Row) → Old (suc r) z ⊎ New left z → Before (g r) z
      first-row t z w =
          let h = takes-below g hi left r t in
          ⊎_elim (λ o. rw o.3 (d.ascend r o.0 (omega arith) o.1 o.2))
          (λ n. by-action (g r) z (d.from r (omega arith) h ∙ sym (ap (λ q. q.from) n.2))
          (omega (arith, lowest-le left d.low n.0 n.1, takes-lower g hi left r t, ap (λ q. q.action) n.2))) w

      row-above : takes g hi left r ≡ false → (x : ℕ) → r ≤ x → x < hi → lowest_of left ≤ (g x).action
      row-above t x p q = elim (ℕ_discrete r x) [
        | yes w ↦ rw w at (takes-not g hi left r t (omega arith))
        | no w ↦
            let h : r < hi = omega arith in
            let b = takes-not g hi left r t h in
            omega (arith, before-action (g r) (g x) (d.ascend r x (omega arith) (omega arith) q) (d.from r (omega arith) h ∙ sym (d.from x p q)))
      ]

      first-loop : takes g hi left r ≡ false → (z : Row) → Old r z ⊎ New (later left) z → Before (loop_at s (lowest_of left)) z
      first-loop t z w =
          let ne = some_left k r left d e t in
          let here-is = (lowest-least left d.low ne).here in
          ⊎_elim
          (λ o.
          let f = d.from o.0 o.1 o.2 in
          let p = row-above t o.0 o.1 o.2 in
          let q : (g o.0).action ≡ lowest_of left → ⊥ = λ x. true≢false (sym here-is ∙ ap (has left) (sym x) ∙ d.apart o.0 o.1 o.2) in
          by-action (loop_at s (lowest_of left)) z (sym (ap (λ q. q.from) o.3 ∙ f))
          (omega (arith, p, ap (λ q. q.action) o.3, strict (lowest_of left) (g o.0).action p q)))
          (λ n.
          let p = lowest-le left d.low n.0 (later-in left n.0 n.1) in
          by-action (loop_at s (lowest_of left)) z (sym (ap (λ q. q.from) n.2))
          (omega (arith, ap (λ q. q.action) n.2, strict (lowest_of left) n.0 p (later-not left n.0 n.1)))) w

      go : IfRow k r left (Ascending (woven g s hi k left (suc r))) → IfLoop k r left (Ascending (woven g s hi k (later left) r))
          → (b : Bool) → takes g hi left r ≡ b → Ascending (cond b (g r ∷ woven g s hi k left (suc r))
          (loop_at s (lowest_of left) ∷ woven g s hi k (later left) r))
      go ir il true t = let a = after-row k r left d e t in (λ z m. first-row t z (woven-in k (suc r) left a.0 a.1 m), ir a.0 a.1)
      go ir il false t = let a = after-loop k r left d e t in (λ z m. first-loop t z (woven-in k r (later left) a.0 a.1 m), il a.0 a.1)
