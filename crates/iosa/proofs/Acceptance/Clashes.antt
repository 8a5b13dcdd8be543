-- 18 with its place, exactly: of an accepted model it is answered with the least component, reached state, lower and higher action that clash.
use mathlib.Core.Path.{◌≡◌, refl, ◌∙◌}
use mathlib.Core.Logic.{◌↔◌, ◌⊎◌, inl, inr, ⊎_elim}
use mathlib.Core.Option.{Option, none, some}
use mathlib.Core.List.{List, [], ◌∷◌}
use Prim.Native.Nat.{ℕ, suc, ◌+◌}
use native.Mathlib.Omega.{arith}
use lib.ListN.{length}
use Rattle.laws.specs.Search.{or_else, map_some}
use Rattle.answer.specs.Told.{Told, tell}
use Rattle.model.specs.Model.{Comp, Model, comp_at}
use Rattle.model.specs.WellFormed.{WellFormed}
use Rattle.iosa.specs.Checks.{check18, clash_among, accept_of, confluent_of}
use Rattle.iosa.specs.Faults.{Broken18, Clash, clash, Fault, First}
use Rattle.iosa.proofs.Acceptance.Check18.{decides-18}
use Rattle.iosa.proofs.Acceptance.ConfluentExactly.{accepted-single}
use Rattle.iosa.proofs.Acceptance.Ranks.{Decides, decided-exactly, decides-as, decides-map, Retold}
use Rattle.iosa.proofs.Acceptance.Places.{AtThree}
use Rattle.iosa.proofs.Acceptance.InTurn.{in_turn, InTurn, decides-turn}
use Rattle.iosa.proofs.Acceptance.Refused.{refused-exactly, unrefused-exactly}

-- ---- a component
clash_at : ℕ → ℕ → Comp → Option Told
clash_at i n c = map_some (λ p. tell 18 (i ∷ p)) (check18 c)

abbrev Clashing : Comp → ℕ → ℕ → List ℕ → Told → Type 0
Clashing c i n = Retold (λ p. tell 18 (i ∷ p)) (AtThree (Broken18 c))

-- ---- the components in turn
among-turn : (i n : ℕ) (m : Model) → clash_among i m ≡ in_turn clash_at i n m
unfolding clash_among clash_at
among-turn i n [] = refl
among-turn i n (c ∷ cs) = go (check18 c) (among-turn (suc i) (n + length c.rows) cs)
  where
    go : (o : Option (List ℕ)) → clash_among (suc i) cs ≡ in_turn clash_at (suc i) (n + length c.rows) cs
        → ◌≡◌ {A =
        Option Told} (elim o as (λ p. Option Told) [ none ↦ clash_among (suc i) cs | some p ↦ some (tell 18 (i ∷ p)) ])
        (or_else (map_some (λ p. tell 18 (i ∷ p)) o) (in_turn clash_at (suc i) (n + length c.rows) cs))
    go none e = e
    go (some p) e = refl

module _ (m : Model) where
  turn-clash : (q : List ℕ) (t : Told) → InTurn Clashing 0 0 m q t → Clash m q t
  turn-clash q t u =
      let v = u.there.there in
      let p : 0 + u.place ≡ u.place = omega arith in
      let e : q ≡ u.place ∷ u.tail = rw p at u.split in
      let d : t ≡ tell 18 (u.place ∷ u.there.value) = rw p at u.there.told in
      rw (e, v.rank, d, v.told) (clash u.below v.holds)

  clash-turn : (q : List ℕ) (t : Told) → Clash m q t → InTurn Clashing 0 0 m q t
  clash-turn q t (clash {i} {s} {a} {b} h k) =
      let p : 0 + i ≡ i = omega arith in
      record {
        place = i;
        tail = s ∷ a ∷ b ∷ [];
        below = h;
        split = rw p;
        there = record { value = s ∷ a ∷ b ∷ []; told = rw p; there = record { one = s; two = a; three = b; rank = refl; told = refl; holds = k } };
      }

  module _ (w : WellFormed m) where
    module _ (ok : accept_of m ≡ none) where
      pub decides-clashes : Decides (Clash m) (clash_among 0 m)
      unfolding clash_at
      decides-clashes = decides-as (λ q t. (turn-clash q t, clash-turn q t)) (rw (among-turn 0 0 m) (
          decides-turn clash_at Clashing 0 0 m (λ j h k l. decides-map (λ p. tell 18 (k ∷ p))
          (decides-18 (comp_at m j) (accepted-single m w ok j h) (w.each j h)))))

      pub clash-exactly : (t : Told) → (confluent_of m ≡ some t) ↔ First (Clash m) t
      unfolding confluent_of
      clash-exactly t = rw ok (decided-exactly decides-clashes t)

    -- of any model: the first fault of 10 to 17, or, where there is none, the first clash
    pub unconfluent-exactly : (t : Told) → (confluent_of m ≡ some t) ↔ First (Fault m) t ⊎ ((q : List ℕ) (u : Told) → Fault m q u → ⊥) × First (Clash m) t
    unfolding confluent_of
    unconfluent-exactly t = (
      λ e. go (accept_of m) refl e,
      ⊎_elim
          (λ f. let e : accept_of m ≡ some t = (refused-exactly m w t).1 f in rw e)
          (λ p. (clash-exactly ((unrefused-exactly m w).1 p.0) t).1 p.1),
    )
      where
        go : (o : Option Told) → accept_of m ≡ o → or_else o (clash_among 0 m) ≡ some t → First (Fault m) t ⊎ ((q : List ℕ) (u : Told) → Fault m q u → ⊥)
            × First (Clash m) t
        go none h e = inr ((unrefused-exactly m w).0 h, (decided-exactly (decides-clashes h) t).0 e)
        go (some u) h e = inl ((refused-exactly m w t).0 (h ∙ e))
