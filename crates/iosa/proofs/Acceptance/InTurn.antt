-- "for each component in turn": searches of the components one after another answer the least rank over the system.
use mathlib.Core.Path.{◌≡◌, refl}
use mathlib.Core.Logic.{◌⊎◌, inl, inr}
use mathlib.Core.Option.{Option, none}
use mathlib.Core.List.{List, [], ◌∷◌}
use Prim.Native.Nat.{ℕ, zero, suc, ◌+◌, ◌<◌}
use native.Mathlib.Omega.{arith}
use lib.ListN.{length, take}
use Rattle.laws.specs.Search.{or_else}
use Rattle.laws.proofs.SearchLaws.{no-some}
use Rattle.answer.specs.Told.{Told}
use Rattle.model.specs.Model.{Comp, Model, comp_at, row_count}
use Rattle.iosa.proofs.Acceptance.Ranks.{Decides, decides-as, decides-under, Under}
use Rattle.iosa.proofs.Acceptance.Places.{headed, decides-next}

-- `at` answers for component i, whose first row is row n of the system
abbrev pub in_turn : (ℕ → ℕ → Comp → Option Told) → ℕ → ℕ → Model → Option Told
in_turn at i n [] = none
in_turn at i n (c ∷ cs) = or_else (at i n c) (in_turn at (suc i) (n + length c.rows) cs)

pub record InTurn (F : Comp → ℕ → ℕ → List ℕ → Told → Type 0) (i n : ℕ) (m : Model) (q : List ℕ) (t : Told) : Type 0 where
  pub place : ℕ
  pub tail : List ℕ
  pub below : place < length m
  pub split : q ≡ (i + place) ∷ tail
  pub there : F (comp_at m place) (i + place) (n + row_count (take place m)) tail t

module _ (at : ℕ → ℕ → Comp → Option Told) (F : Comp → ℕ → ℕ → List ℕ → Told → Type 0) where
  split-turn : (c : Comp) (cs : Model) (i n : ℕ) (q : List ℕ) (t : Told) → InTurn F i n (c ∷ cs) q t
      → Under i (F c i n) q t ⊎ InTurn F (suc i) (n + length c.rows) cs q t
  unfolding row_count
  split-turn c cs i n q t u = go u.place u.tail u.below u.split u.there
    where
      go : (j : ℕ) (r : List ℕ) → j < suc (length cs) → q ≡ (i + j) ∷ r → F (comp_at (c ∷ cs) j) (i + j) (n + row_count (take j (c ∷ cs))) r t
          → Under i (F c i n) q t ⊎ InTurn F (suc i) (n + length c.rows) cs q t
      go zero r h e f =
          let p : i + 0 ≡ i = omega arith in
          let s : n + 0 ≡ n = omega arith in
          inl (record { tail = r; split = rw p at e; there = rw (p, s) at f })
      go (suc j) r h e f =
          let p : i + suc j ≡ suc i + j = omega arith in
          let s : n + (length c.rows + row_count (take j cs)) ≡ n + length c.rows + row_count (take j cs) = omega arith in
          inr (record { place = j; tail = r; below = omega arith; split = rw p at e; there = rw (p, s) at f })

  turn-split : (c : Comp) (cs : Model) (i n : ℕ) (q : List ℕ) (t : Told) → Under i (F c i n) q t ⊎ InTurn F (suc i) (n + length c.rows) cs q t
      → InTurn F i n (c ∷ cs) q t
  unfolding row_count
  turn-split c cs i n q t (inl u) =
      let p : i + 0 ≡ i = omega arith in
      let s : n + 0 ≡ n = omega arith in
      record { place = 0; tail = u.tail; below = omega arith; split = rw p u.split; there = rw (p, s) u.there }
  turn-split c cs i n q t (inr u) =
      let p : i + suc u.place ≡ suc i + u.place = omega arith in
      let s : n + (length c.rows + row_count (take u.place cs)) ≡ n + length c.rows + row_count (take u.place cs) = omega arith in
      record { place = suc u.place; tail = u.tail; below = omega (arith, u.below); split = rw p u.split; there = rw (p, s) u.there }

  pub decides-turn : (i n : ℕ) (m : Model) → ((j : ℕ) → j < length m → (k l : ℕ) → Decides (F (comp_at m j) k l) (at k l (comp_at m j)))
      → Decides (InTurn F i n m) (in_turn at i n m)
  decides-turn i n [] d =
      record {
        found = λ t e. absurd (no-some refl e);
        first = λ t p. absurd (omega (arith, p.here.below));
        nowhere = λ e q t u. omega (arith, u.below);
      }
  decides-turn i n (c ∷ cs) d =
      decides-as (λ q t. (turn-split c cs i n q t, split-turn c cs i n q t))
      (decides-next i (headed i (F c i n)) (λ q t u. (suc i + u.place, u.tail, u.split, omega arith))
      (decides-under i (d 0 (omega arith) i n)) (decides-turn (suc i) (n + length c.rows) cs (λ j h. d (suc j) (omega arith))))
