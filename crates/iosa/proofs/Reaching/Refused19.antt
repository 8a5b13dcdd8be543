-- 19 exactly: the lowest component whose part it cannot reach; none exactly if the composed state is made of reached parts.
use mathlib.Core.Path.{◌≡◌, refl, sym, ◌∙◌, ap}
use mathlib.Core.Logic.{◌↔◌}
use mathlib.Core.Bool.{Bool, true, false, true≢false}
use mathlib.Core.Option.{Option, none, some, some_inj}
use mathlib.Core.List.{List, [], ◌∷◌}
use Prim.Native.Nat.{ℕ, zero, suc, ◌+◌, ◌<◌}
use native.Mathlib.Omega.{arith}
use lib.ListN.{length, get_or}
use Rattle.laws.specs.Search.{map_some}
use Rattle.laws.proofs.SearchLaws.{no-some, map-none, map-some}
use Rattle.laws.proofs.TestLaws.{apart-cases}
use Rattle.answer.specs.Told.{Told, tell}
use Rattle.model.specs.Model.{Comp, Model, comp_at}
use Rattle.model.specs.WellFormed.{WellComp}
use Rattle.iosa.specs.Automaton.{auto_of, Reachable}
use Rattle.iosa.specs.Product.{EachPart, Within, Reached}
use Rattle.iosa.specs.Checks.{reach_of}
use Rattle.iosa.specs.Faults.{FirstUnreached}
use Rattle.iosa.specs.Settle.{unreached_from, reach_fault}
use Rattle.iosa.proofs.Settling.Each.{All}
use Rattle.iosa.proofs.Reaching.ReachExactly.{reach-exactly}

-- ---- the search, from component i on
-- what the first of them that is found tells
found : (i : ℕ) (m : Model) (s : List ℕ) → All WellComp m → Within m s → (k : ℕ) → unreached_from i m s ≡ some k → (j : ℕ) × (k ≡ i + j) × FirstUnreached m s j
unfolding unreached_from
found i [] [] al w k e = absurd (no-some refl e)
found i [] (s ∷ ss) al w k e = absurd w
found i (c ∷ cs) [] al w k e = absurd w
found i (c ∷ cs) (s ∷ ss) al w k e = go (found (suc i) cs ss al.1 w.1 k) (reach_of c s) refl e
  where
    go : (unreached_from (suc i) cs ss ≡ some k → (j : ℕ) × (k ≡ suc i + j) × FirstUnreached cs ss j) → (b : Bool) → reach_of c s ≡ b
        → (elim b as (λ _. Option ℕ) [ true ↦ unreached_from (suc i) cs ss | false ↦ some i ]) ≡ some k
        → (j : ℕ) × (k ≡ i + j) × FirstUnreached (c ∷ cs) (s ∷ ss) j
    go ih true r e =
        let p = ih e in (
          suc p.0,
          omega (arith, p.1),
          record {
            inside = omega (arith, p.2.inside);
            here = p.2.here;
            before = λ j h. earlier j p.0 h p.2.before;
          },
        )
      where
        earlier : (j n : ℕ) → j < suc n → ((j : ℕ) → j < n → Reachable (auto_of (comp_at cs j)) (get_or ss j 0))
            → Reachable (auto_of (comp_at (c ∷ cs) j)) (get_or (s ∷ ss) j 0)
        earlier zero n h f = (reach-exactly c al.0 s w.0).0 r
        earlier (suc j) n h f = f j (omega arith)
    go ih false r e = (
      0,
      omega (arith, sym (some_inj.0 e)),
      record {
        inside = omega arith;
        here = λ q. true≢false (sym ((reach-exactly c al.0 s w.0).1 q) ∙ r);
        before = λ j h. absurd (omega arith);
      },
    )

-- nothing is found where every part is reached, and only there
nowhere : (i : ℕ) (m : Model) (s : List ℕ) → All WellComp m → Within m s → unreached_from i m s ≡ none → Reached m s
unfolding unreached_from
nowhere i [] [] al w e = tt
nowhere i [] (s ∷ ss) al w e = absurd w
nowhere i (c ∷ cs) [] al w e = absurd w
nowhere i (c ∷ cs) (s ∷ ss) al w e = go (nowhere (suc i) cs ss al.1 w.1) (reach_of c s) refl e
  where
    go : (unreached_from (suc i) cs ss ≡ none → Reached cs ss) → (b : Bool) → reach_of c s ≡ b
        → ◌≡◌ {A = Option ℕ} (elim b as (λ _. Option ℕ) [ true ↦ unreached_from (suc i) cs ss | false ↦ some i ]) none → Reached (c ∷ cs) (s ∷ ss)
    go ih true r e = ((reach-exactly c al.0 s w.0).0 r, ih e)
    go ih false r e = absurd (no-some e refl)

reached-none : (i : ℕ) (m : Model) (s : List ℕ) → All WellComp m → Within m s → Reached m s → unreached_from i m s ≡ none
unfolding unreached_from
reached-none i [] [] al w r = refl
reached-none i [] (s ∷ ss) al w r = absurd w
reached-none i (c ∷ cs) [] al w r = absurd w
reached-none i (c ∷ cs) (s ∷ ss) al w r = rw ((reach-exactly c al.0 s w.0).1 r.0, unreached_from) (reached-none (suc i) cs ss al.1 w.1 r.1)

-- ---- by index
pub part-at : (P : Comp → ℕ → Type 0) (m : Model) (s : List ℕ) → EachPart P m s → (i : ℕ) → i < length m → P (comp_at m i) (get_or s i 0)
part-at P [] [] al i h = absurd (omega arith)
part-at P [] (s ∷ ss) al i h = absurd al
part-at P (c ∷ cs) [] al i h = absurd al
part-at P (c ∷ cs) (s ∷ ss) al zero h = al.0
part-at P (c ∷ cs) (s ∷ ss) al (suc i) h = part-at P cs ss al.1 i (omega arith)

-- ---- 19
module _ (m : Model) (s : List ℕ) (al : All WellComp m) (w : Within m s) where
  pub reach-faultless : (reach_fault m s ≡ none) ↔ Reached m s
  unfolding reach_fault
  reach-faultless = (λ e. nowhere 0 m s al w (map-none (λ i. tell 19 (i ∷ [])) (unreached_from 0 m s) e), λ r. rw (reached-none 0 m s al w r))

  first-is-one : (i j : ℕ) → FirstUnreached m s i → FirstUnreached m s j → i ≡ j
  first-is-one i j p q = apart-cases i j (λ e. e) (λ h. absurd (p.here (q.before i h))) (λ h. absurd (q.here (p.before j h)))

  pub reach-fault-exactly : (t : Told) → (reach_fault m s ≡ some t) ↔ ((i : ℕ) × FirstUnreached m s i × (t ≡ tell 19 (i ∷ [])))
  unfolding reach_fault
  reach-fault-exactly t = (
    λ e.
        let x = map-some (λ i. tell 19 (i ∷ [])) (unreached_from 0 m s) t e in
        let f = found 0 m s al w x.0 x.1 in
        (f.0, f.2, sym x.2 ∙ ap (λ k. tell 19 (k ∷ [])) (f.1 ∙ omega arith)),
    λ p. go p.0 p.1 p.2 (unreached_from 0 m s) refl,
  )
    where
      go : (i : ℕ) → FirstUnreached m s i → t ≡ tell 19 (i ∷ []) → (o : Option ℕ) → unreached_from 0 m s ≡ o → map_some (λ i. tell 19 (i ∷ [])) o ≡ some t
      go i p e none f = absurd (p.here (part-at (λ c. Reachable (auto_of c)) m s (nowhere 0 m s al w f) i p.inside))
      go i p e (some k) f =
          let x = found 0 m s al w k f in
          ap (λ n. some (tell 19 (n ∷ []))) (omega (arith, x.1, first-is-one x.0 i x.2 p)) ∙ ap some (sym e)
