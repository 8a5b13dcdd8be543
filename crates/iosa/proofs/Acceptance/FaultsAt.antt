-- 10 to 14 of a component: `fault_at` answers the fault of the least rank.
use mathlib.Core.Path.{◌≡◌, refl, sym, ◌∙◌}
use mathlib.Core.Logic.{◌⊎◌, inl, inr}
use mathlib.Core.Bool.{Bool, true, false, true≢false}
use mathlib.Core.List.{List, [], ◌∷◌}
use Prim.Native.Nat.{ℕ, ◌+◌}
use lib.ListN.{length}
use Rattle.answer.specs.Limits.{max_actions}
use Rattle.answer.specs.Told.{Told, tell}
use Rattle.model.specs.Model.{Comp}
use Rattle.model.specs.WellFormed.{WellComp}
use Rattle.iosa.specs.Checks.{bad_guard, repeats, lacks_row, twice, check10, check11, check12, check13, check14, fault_at}
use Rattle.iosa.specs.Faults.{Broken10, Broken11, Broken12, Broken13, Broken14, FaultAt, guarded, repeated, lacking, doubled, inactive}
use Rattle.iosa.proofs.Acceptance.Rows.{input-below, unclocked-below, from-below}
use Rattle.iosa.proofs.Acceptance.Check10.{guard-broken, broken-guard}
use Rattle.iosa.proofs.Acceptance.Check11.{repeat-broken, broken-repeat}
use Rattle.iosa.proofs.Acceptance.Check12.{lack-broken, broken-lack}
use Rattle.iosa.proofs.Acceptance.Check13.{twice-broken, broken-twice}
use Rattle.iosa.proofs.Acceptance.Check14.{check14-exactly}
use Rattle.iosa.proofs.Acceptance.Ranks.{Decides, decides-as, decides-when, decides-under, decides-map, Here, Under}
use Rattle.iosa.proofs.Acceptance.Places.{AtOne, AtTwo, decides-one, decides-two, decides-next, heads-next, Numbered, headed, heads}

-- of component i, whose first row is row n of the system
module _ (c : Comp) (i n : ℕ) where
  abbrev row_told : ℕ → ℕ → Told
  row_told d k = tell d ((n + k) ∷ [])

  abbrev cell_told : ℕ → List ℕ → Told
  cell_told d p = tell d (i ∷ p)

  abbrev F10 : List ℕ → Told → Type 0
  F10 = Numbered 10 (row_told 10) (AtOne (Broken10 c))

  abbrev F11 : List ℕ → Told → Type 0
  F11 = Numbered 11 (row_told 11) (AtOne (Broken11 c))

  abbrev F12 : List ℕ → Told → Type 0
  F12 = Numbered 12 (cell_told 12) (AtTwo (Broken12 c))

  abbrev F13 : List ℕ → Told → Type 0
  F13 = Numbered 13 (cell_told 13) (AtTwo (Broken13 c))

  abbrev F14 : List ℕ → Told → Type 0
  F14 = Under 14 (Here (Broken14 c) (tell 14 (i ∷ [])))

  abbrev Five : List ℕ → Told → Type 0
  Five q t = F10 q t ⊎ (F11 q t ⊎ (F12 q t ⊎ (F13 q t ⊎ F14 q t)))

  five-fault : (q : List ℕ) (t : Told) → Five q t → FaultAt c i n q t
  five-fault q t (inl u) = rw (u.split, u.there.there.rank, u.there.told) (guarded u.there.there.holds)
  five-fault q t (inr (inl u)) = rw (u.split, u.there.there.rank, u.there.told) (repeated u.there.there.holds)
  five-fault q t (inr (inr (inl u))) = rw (u.split, u.there.there.rank, u.there.told, u.there.there.told) (lacking u.there.there.holds)
  five-fault q t (inr (inr (inr (inl u)))) = rw (u.split, u.there.there.rank, u.there.told, u.there.there.told) (doubled u.there.there.holds)
  five-fault q t (inr (inr (inr (inr u)))) = rw (u.split, u.there.rank, u.there.told) (inactive u.there.holds)

  fault-five : (q : List ℕ) (t : Told) → FaultAt c i n q t → Five q t
  fault-five q t (guarded {k} b) =
      inl (record { tail = k ∷ []; split = refl; there = record { value = k; told = refl; there = record { rank = refl; holds = b } } })
  fault-five q t (repeated {k} b) =
      inr (inl (record { tail = k ∷ []; split = refl; there = record { value = k; told = refl; there = record { rank = refl; holds = b } } }))
  fault-five q t (lacking {s} {a} b) =
      inr (inr (inl (record {
        tail = s ∷ a ∷ [];
        split = refl;
        there = record { value = s ∷ a ∷ []; told = refl; there = record { one = s; two = a; rank = refl; told = refl; holds = b } };
      })))
  fault-five q t (doubled {s} {a} b) =
      inr (inr (inr (inl (record {
        tail = s ∷ a ∷ [];
        split = refl;
        there = record { value = s ∷ a ∷ []; told = refl; there = record { one = s; two = a; rank = refl; told = refl; holds = b } };
      }))))
  fault-five q t (inactive b) = inr (inr (inr (inr (record { tail = []; split = refl; there = record { rank = refl; told = refl; holds = b } }))))

module _ (c : Comp) (w : WellComp c) where
  inactive-test : check14 c ≡ true → Broken14 c
  inactive-test e f = true≢false (sym e ∙ (check14-exactly c w).1 f)

  test-inactive : Broken14 c → check14 c ≡ true
  test-inactive b = go (check14 c) refl
    where
      go : (v : Bool) → check14 c ≡ v → v ≡ true
      go true e = refl
      go false e = absurd (b ((check14-exactly c w).0 e))

  pub decides_at : (i n : ℕ) → Decides (FaultAt c i n) (fault_at i n c)
  unfolding fault_at check10 check11 check12 check13
  decides_at i n = decides-as (λ q t. (five-fault c i n q t, fault-five c i n q t)) (
      decides-next 10 (headed 10 _) (heads-next 11 (headed 11 _) (heads-next 12 (headed 12 _) (heads-next 13 (headed 13 _) (heads 14 _))))
      (decides-under 10 (decides-map (row_told c i n 10) (decides-one (Broken10 c) (bad_guard c) (length c.rows) (guard-broken c w)
      (broken-guard c w) (λ k b. b.inside))))
      (decides-next 11 (headed 11 _) (heads-next 12 (headed 12 _) (heads-next 13 (headed 13 _) (heads 14 _)))
      (decides-under 11 (decides-map (row_told c i n 11) (decides-one (Broken11 c) (repeats c) (length c.rows) (repeat-broken c) (broken-repeat c)
      (λ k b. b.inside))))
      (decides-next 12 (headed 12 _) (heads-next 13 (headed 13 _) (heads 14 _))
      (decides-under 12 (decides-map (cell_told c i n 12) (decides-two (Broken12 c) (lacks_row c) c.states max_actions
      (λ s a h k. lack-broken c s a h) (broken-lack c) (λ s a b. (b.state, input-below c w a b.input)))))
      (decides-next 13 (headed 13 _) (heads 14 _)
      (decides-under 13 (decides-map (cell_told c i n 13) (decides-two (Broken13 c) (twice c) c.states max_actions (λ s a h k. twice-broken c w s a)
      (broken-twice c w) (λ s a b. (from-below c w b.row, unclocked-below c w a b.kind)))))
      (decides-under 14 (decides-when (check14 c) (tell 14 (i ∷ [])) inactive-test test-inactive))))))
