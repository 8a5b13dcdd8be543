-- The walk of a path, exactly: it answers a state exactly if the path is one of possible steps, and then that state is reached; else 46 at the first
-- step that is not possible.
use mathlib.Core.Path.{◌≡◌, refl, sym, ◌∙◌, ap}
use mathlib.Core.Logic.{◌↔◌, inl, inr}
use mathlib.Core.Option.{Option, none, some}
use mathlib.Core.List.{List, [], ◌∷◌}
use Prim.Native.Nat.{ℕ, suc}
use native.Mathlib.Omega.{arith}
use Rattle.answer.specs.Told.{Told, Answer, answered, refused}
use Rattle.model.specs.Model.{Comp, Model}
use Rattle.model.specs.WellFormed.{WellFormed}
use Rattle.iosa.specs.Automaton.{Automaton, Reachable, at-start, by_row, Conforming, Joinable}
use Rattle.iosa.specs.Product.{product, state_of, Within}
use Rattle.iosa.specs.Start.{start_all}
use Rattle.iosa.proofs.Settling.Start.{start-in-range, start-of-the-product}
use Rattle.iosa.proofs.Settling.Parts.{within-length}
use Rattle.iosa.proofs.Settling.Steps.{state-is-one-list}
use Rattle.paths.specs.Path.{Steps, urgently, calmly, Path, over, next, path_step, walk_on, walk}
use Rattle.paths.proofs.Stepping.{step-there, step_back}

-- a path goes on reaching
pub step-reaches : (A : Automaton) {a g : ℕ} {x y : A.State} → Reachable A x → Steps A a x g y → Reachable A y
step-reaches A r (urgently u) = by_row r (inl u.urgent) u.row
step-reaches A r (calmly o n st row) = by_row r (inr st) row

pub path-reaches : (A : Automaton) {x y : A.State} {l : List ℕ} → Reachable A x → Path A x l y → Reachable A y
path-reaches A r over = r
path-reaches A r (next u more) = path-reaches A (step-reaches A r u) more

refusal : {S : Type 0} {t : Told} {x : S} → ◌≡◌ {A = Answer S} (refused t) (answered x) → ⊥
refusal {S} {t} {x} e = let z : ◌≡◌ {A = ℕ} 0 1 = cc in absurd (no z)
  where
    no : ◌≡◌ {A = ℕ} 0 1 → ⊥
    no z = omega arith

module _ (c : Comp) (cs : List Comp) (well : WellFormed (c ∷ cs)) (conf : Conforming (c ∷ cs)) (join : Joinable (c ∷ cs)) where
  abbrev m : Model
  m = c ∷ cs

  pub walk-path : (i : ℕ) (l s t : List ℕ) → Within m s → walk m i l s ≡ answered t → Path (product c cs) (state_of c cs s) l (state_of c cs t) × Within m t
  unfolding walk
  walk-path i [] s t w e =
      let q : s ≡ t = cc in
      let p : Path (product c cs) (state_of c cs s) [] (state_of c cs s) × Within m s = (over, w) in
      rw (sym q) p
  walk-path i (a ∷ []) s t w e = absurd (refusal e)
  walk-path i (a ∷ g ∷ l) s t w e = go (path_step m s a g) refl e (λ u v. walk-path (suc i) l u t v)
    where
      go : (o : Option (List ℕ)) → path_step m s a g ≡ o
          → walk_on (walk m (suc i) l) i o ≡ answered t
          → ((u : List ℕ) → Within m u → walk m (suc i) l u ≡ answered t → Path (product c cs) (state_of c cs u) l (state_of c cs t) × Within m t)
          → Path (product c cs) (state_of c cs s) (a ∷ g ∷ l) (state_of c cs t) × Within m t
      go none f e ih = absurd (refusal e)
      go (some u) f e ih =
          let p = step-there c cs well conf join s w a g u f in
          let q = ih u p.1 e in
          (next p.0 q.0, q.1)

  pub record Walks (i : ℕ) (l s : List ℕ) (y : (product c cs).State) : Type 0 where
    pub after : List ℕ
    pub answer : walk m i l s ≡ answered after
    pub within : Within m after
    pub state : y ≡ state_of c cs after

  pub path-walk : (i : ℕ) (s : List ℕ) → Within m s → {x y : (product c cs).State} {l : List ℕ} → x ≡ state_of c cs s → Path (product c cs) x l y → Walks i l s y
  unfolding walk
  path-walk i s w e over = record { after = s; answer = refl; within = w; state = e }
  path-walk i s w e (next {y = z} {a = a} {g = g} {l = l} u more) =
      let p = step_back c cs well conf join s w a g z (rw e at u) in
      let q = path-walk (suc i) p.after p.within p.state more in
      record { after = q.after; answer = ap (walk_on (walk m (suc i) l) i) p.step ∙ q.answer; within = q.within; state = q.state }

  -- from the start
  pub walked-exactly : (l t : List ℕ) → (walk m 0 l (start_all m) ≡ answered t) ↔ (Path (product c cs) (product c cs).start l (state_of c cs t) × Within m t)
  walked-exactly l t =
      let o = (start-of-the-product c cs).0 in
      let w = start-in-range m well in (
        λ e. rw o at (walk-path 0 l (start_all m) t w e),
        λ p.
            let q = path-walk 0 (start_all m) w (sym o) p.0 in
            let e = state-is-one-list c cs q.after t (within-length m q.after q.within) (within-length m t p.1) (sym q.state) in
            q.answer ∙ ap answered e,
      )

  pub walked-reaches : (l t : List ℕ) → walk m 0 l (start_all m) ≡ answered t → Reachable (product c cs) (state_of c cs t)
  walked-reaches l t e = path-reaches (product c cs) at-start ((walked-exactly l t).0 e).0
