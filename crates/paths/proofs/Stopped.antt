-- A path that is not possible, exactly: the walk answers 46 at the index of its first step that is not.
use mathlib.Core.Path.{◌≡◌, refl, sym, ◌∙◌, ap}
use mathlib.Core.Logic.{◌↔◌}
use mathlib.Core.Option.{Option, none, some}
use mathlib.Core.List.{List, [], ◌∷◌}
use Prim.Native.Nat.{ℕ, suc, ◌+◌}
use native.Mathlib.Omega.{arith}
use Rattle.laws.proofs.SearchLaws.{no-some}
use Rattle.answer.specs.Told.{Told, tell, refused}
use Rattle.model.specs.Model.{Comp, Model}
use Rattle.model.specs.WellFormed.{WellFormed}
use Rattle.iosa.specs.Automaton.{Conforming, Joinable}
use Rattle.iosa.specs.Product.{product, state_of, Within}
use Rattle.iosa.specs.Start.{start_all}
use Rattle.iosa.proofs.Settling.Called.{no_answer, same-refusal}
use Rattle.iosa.proofs.Settling.Start.{start-in-range, start-of-the-product}
use Rattle.paths.specs.Path.{StopsAt, no-guard, not-possible, later, path_step, walk_on, walk}
use Rattle.paths.proofs.Stepping.{step-there, step_back}

module _ (c : Comp) (cs : List Comp) (well : WellFormed (c ∷ cs)) (conf : Conforming (c ∷ cs)) (join : Joinable (c ∷ cs)) where
  abbrev m : Model
  m = c ∷ cs

  abbrev told : ℕ → ℕ → Told
  told i k = tell 46 ((i + k) ∷ [])

  walk-stops : (i : ℕ) (l s : List ℕ) (t : Told) → Within m s → walk m i l s ≡ refused t
      → (k : ℕ) × (t ≡ told i k) × StopsAt (product c cs) (state_of c cs s) l k
  unfolding walk
  walk-stops i [] s t w e = absurd (no_answer (sym e))
  walk-stops i (a ∷ []) s t w e = (0, sym (same-refusal e) ∙ ap (λ n. tell 46 (n ∷ [])) (omega arith), no-guard)
  walk-stops i (a ∷ g ∷ l) s t w e = go (path_step m s a g) refl e (λ u v. walk-stops (suc i) l u t v)
    where
      go : (o : Option (List ℕ)) → path_step m s a g ≡ o → walk_on (walk m (suc i) l) i o ≡ refused t
          → ((u : List ℕ) → Within m u → walk m (suc i) l u ≡ refused t → (k : ℕ) × (t ≡ told (suc i) k) × StopsAt (product c cs) (state_of c cs u) l k)
          → (k : ℕ) × (t ≡ told i k) × StopsAt (product c cs) (state_of c cs s) (a ∷ g ∷ l) k
      go none f e ih = (
        0,
        sym (same-refusal e) ∙ ap (λ n. tell 46 (n ∷ [])) (omega arith),
        not-possible (λ y h. no-some f (step_back c cs well conf join s w a g y h).step),
      )
      go (some u) f e ih =
          let p = step-there c cs well conf join s w a g u f in
          let q = ih u p.1 e in
          (suc q.0, q.1 ∙ ap (λ n. tell 46 (n ∷ [])) (omega arith), later p.0 q.2)

  stops-walk : (i : ℕ) (s : List ℕ) → Within m s → {x : (product c cs).State} {l : List ℕ} {k : ℕ} → x ≡ state_of c cs s → StopsAt (product c cs) x l k
      → walk m i l s ≡ refused (told i k)
  unfolding walk
  stops-walk i s w e no-guard = ap (λ n. refused (tell 46 (n ∷ []))) (omega arith)
  stops-walk i s w e (not-possible {a = a} {g = g} {l = l} never) = go (path_step m s a g) refl
    where
      go : (o : Option (List ℕ)) → path_step m s a g ≡ o → walk_on (walk m (suc i) l) i o ≡ refused (told i 0)
      go none f = ap (λ n. refused (tell 46 (n ∷ []))) (omega arith)
      go (some u) f = absurd (never (state_of c cs u) (rw e (step-there c cs well conf join s w a g u f).0))
  stops-walk i s w e (later {y = y} {a = a} {g = g} {i = k} {l = l} u more) =
      let p = step_back c cs well conf join s w a g y (rw e at u) in
      ap (walk_on (walk m (suc i) l) i) p.step ∙ stops-walk (suc i) p.after p.within p.state more ∙ ap (λ n. refused (tell 46 (n ∷ [])))
      (omega arith)

  -- from the start
  pub stopped-exactly : (l : List ℕ) (t : Told)
      → (walk m 0 l (start_all m) ≡ refused t) ↔ ((k : ℕ) × (t ≡ tell 46 (k ∷ [])) × StopsAt (product c cs) (product c cs).start l k)
  stopped-exactly l t =
      let o = (start-of-the-product c cs).0 in
      let w = start-in-range m well in (
        λ e. let p = walk-stops 0 l (start_all m) t w e in (p.0, p.1 ∙ ap (λ n. tell 46 (n ∷ [])) (omega arith), rw o at p.2),
        λ p. stops-walk 0 (start_all m) w (sym o) p.2 ∙ ap refused (ap (λ n. tell 46 (n ∷ [])) (omega arith) ∙ sym p.1),
      )
