-- 11 in a state: a row of its range repeats a clock exactly where the set of the guards before it, from the range's start on, has its clock.
use mathlib.Core.Path.{◌≡◌, refl, sym, ◌∙◌, ap}
use mathlib.Core.Bool.{Bool, true, false, true≢false}
use mathlib.Core.Option.{Option, none, some}
use mathlib.Core.List.{List}
use Prim.Native.Nat.{ℕ, suc, ◌+◌, ◌-◌, ◌≤◌, ◌<◌}
use native.Mathlib.Omega.{arith}
use lib.ListN.{length}
use Rattle.laws.specs.Sets.{has, ◌∪◌, ◌∩◌, ◌∈◌}
use Rattle.laws.specs.Search.{seek, when, is_some}
use Rattle.laws.specs.Fold.{over}
use Rattle.laws.proofs.SetLaws.{in_and, and_in, same-members, none_in}
use Rattle.laws.proofs.SearchLaws.{is-some, seek-some, seek-none, when-some, when-none}
use Rattle.laws.proofs.TestLaws.{not_so}
use Rattle.laws.proofs.UnionLaws.{join_all, has-joined, over_last}
use Rattle.laws.proofs.FoldLaws.{over-end}
use Rattle.model.specs.Model.{row_at, guard_set}
use Rattle.iosa.specs.Checks.{repeats}
use Rattle.iosa.specs.Faults.{Broken11}
use Rattle.iosa.proofs.Acceptance.Check11.{repeat-broken, broken-repeat}
use Rattle.layout.specs.Layout.{count_of, block_word, first_of, guard_at}
use Rattle.layout.specs.Image.{Image, comp_of, row_in}
use Rattle.layout.proofs.RowsOfRange.{row-there, row_from, range-from, range-to, range-row}

-- the guards of lo .. k, as a set
unfoldable pub guards_in : List ℕ → ℕ → ℕ → ℕ
guards_in t lo k = over (join_all (λ r. guard_set (guard_at t r))) lo k 0

pub guards_none : (t : List ℕ) (lo : ℕ) → guards_in t lo lo ≡ 0
unfolding guards_in
guards_none t lo = over-end (join_all (λ r. guard_set (guard_at t r))) lo lo 0 (omega arith)

pub guards-next : (t : List ℕ) (lo k : ℕ) → lo ≤ k → guards_in t lo (k + 1) ≡ guards_in t lo k ∪ guard_set (guard_at t k)
unfolding guards_in
guards-next t lo k h = over_last (join_all (λ r. guard_set (guard_at t r))) lo k 0 h

in-guards : (t : List ℕ) (lo k j x : ℕ) → lo ≤ j → j < k → x ∈ guard_set (guard_at t j) → x ∈ guards_in t lo k
unfolding guards_in
in-guards t lo k j x p q m = has-joined (λ r. guard_set (guard_at t r)) x lo k ∙ go (seek (λ r. when (has (guard_set (guard_at t r)) x) r) lo k) refl
  where
    go : (o : Option ℕ) → seek (λ r. when (has (guard_set (guard_at t r)) x) r) lo k ≡ o → is_some o ≡ true
    go none e =
        absurd (true≢false (sym m ∙ when-none (has (guard_set (guard_at t j)) x) j (seek-none (λ r. when (has (guard_set (guard_at t r)) x) r) lo k e j p
        q)))
    go (some y) e = refl

guards-in : (t : List ℕ) (lo k x : ℕ) → x ∈ guards_in t lo k → (j : ℕ) × (lo ≤ j) × (j < k) × (x ∈ guard_set (guard_at t j))
unfolding guards_in
guards-in t lo k x m =
    let s = is-some (seek (λ r. when (has (guard_set (guard_at t r)) x) r) lo k) (sym (has-joined (λ r. guard_set (guard_at t r)) x lo k) ∙ m) in
    let f = seek-some (λ r. when (has (guard_set (guard_at t r)) x) r) lo k s.0 s.1 in
    (f.place, f.from, f.below, (when-some (has (guard_set (guard_at t f.place)) x) f.place f.here).0)

-- a set that is not empty has a member
some-member : (s : ℕ) → (s ≡ 0 → ⊥) → ((x : ℕ) → x ∈ s → ⊥) → ⊥
some-member s ne f = ne (same-members s 0 (λ x h. absurd (f x h)) (λ x h. absurd (none_in x h)))

module _ (t : List ℕ) (im : Image t) (i : ℕ) (h : i < count_of t) (s r : ℕ) (b : s < block_word t i 0) (p : first_of t i s ≤ r) (q : r < first_of t i (suc s)) where
  at_row : row_in t s r ≡ row_at (comp_of t i) (r - first_of t i 0)
  at_row = range-row t im i h s r b p q

  shared : Broken11 (comp_of t i) (r - first_of t i 0) → (x : ℕ) × (x ∈ guards_in t (first_of t i s) r) × (x ∈ guard_set (guard_at t r))
  shared k =
      let j = k.earlier in
      let inside : j < length (comp_of t i).rows = omega (arith, k.above, k.inside) in
      let there = row-there t im i h j inside in
      let leaves : (row_at (comp_of t i) j).from ≡ s = k.from ∙ sym (ap (λ r. r.from) at_row) in
      let below = range-from t im i h s r b p q in
      let lo : first_of t i s ≤ first_of t i 0 + j = rw leaves at (row_from t im i h j inside) in (
        k.clock,
        in-guards t (first_of t i s) r (first_of t i 0 + j) k.clock lo (omega (arith, k.above)) (rw (sym (ap (λ r. r.guard) there)) at k.first),
        rw (sym (ap (λ r. r.guard) at_row)) at k.again,
      )

  repeated : (x : ℕ) → x ∈ guards_in t (first_of t i s) r → x ∈ guard_set (guard_at t r) → Broken11 (comp_of t i) (r - first_of t i 0)
  repeated x m n =
      let j = guards-in t (first_of t i s) r x m in
      let to : j.0 < first_of t i (suc s) = omega (arith, j.2) in
      let other = range-row t im i h s j.0 b j.1 to in
      record {
        inside = range-to t im i h s r b p q;
        earlier = j.0 - first_of t i 0;
        above = omega (arith, j.2, range-from t im i h s j.0 b j.1 to);
        from = sym (ap (λ r. r.from) other) ∙ ap (λ r. r.from) at_row;
        clock = x;
        first = rw (ap (λ r. r.guard) other) at j.3;
        again = rw (ap (λ r. r.guard) at_row) at n;
      }

  pub repeats-shared : (guards_in t (first_of t i s) r ∩ guard_set (guard_at t r) ≡ 0 → ⊥) → repeats (comp_of t i) (r - first_of t i 0) ≡ true
  repeats-shared ne = go (repeats (comp_of t i) (r - first_of t i 0)) refl
    where
      go : (v : Bool) → repeats (comp_of t i) (r - first_of t i 0) ≡ v → v ≡ true
      go true e = refl
      go false e = absurd (some-member (guards_in t (first_of t i s) r ∩ guard_set (guard_at t r)) ne (λ x m.
          let w = in_and (guards_in t (first_of t i s) r) (guard_set (guard_at t r)) x m in
          true≢false (sym (broken-repeat (comp_of t i) (r - first_of t i 0) (repeated x w.0 w.1)) ∙ e)))

  pub unshared : guards_in t (first_of t i s) r ∩ guard_set (guard_at t r) ≡ 0 → repeats (comp_of t i) (r - first_of t i 0) ≡ false
  unshared z = not_so (repeats (comp_of t i) (r - first_of t i 0)) (λ e.
      let w = shared (repeat-broken (comp_of t i) (r - first_of t i 0) (range-to t im i h s r b p q) e) in
      none_in w.0 (rw z at (and_in (guards_in t (first_of t i s) r) (guard_set (guard_at t r)) w.0 w.1 w.2)))
