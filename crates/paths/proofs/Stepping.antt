-- One step of a path, exactly: what is computed is a row of the product, urgent with guard `-` or with its clock from a stable state, and the only one.
use mathlib.Core.Path.{◌≡◌, refl, sym, ◌∙◌, ap}
use mathlib.Core.Logic.{inl, inr}
use mathlib.Core.Bool.{Bool, true, false}
use mathlib.Core.Option.{Option, none, some, some_inj}
use mathlib.Core.List.{List, [], ◌∷◌}
use Prim.Native.Nat.{ℕ, zero, suc}
use lib.Dec.{eqb}
use borrow.Author.Tests.{eqb-true, eq-eqb}
use Rattle.laws.specs.Sets.{has, ◌∈◌, only}
use Rattle.laws.specs.Search.{or_else}
use Rattle.laws.proofs.SetLaws.{or-in-r, in_one, none_in}
use Rattle.laws.proofs.SearchLaws.{no-some, map-some}
use Rattle.model.specs.Model.{Row, Comp, Model, outputs}
use Rattle.model.specs.WellFormed.{WellFormed}
use Rattle.iosa.specs.Automaton.{auto_of, Stable, Conditions, Conforming, Joinable}
use Rattle.iosa.specs.Product.{product, state_of, Within}
use Rattle.iosa.specs.Stepped.{Gone}
use Rattle.iosa.specs.Step.{urgent_step, is_stable}
use Rattle.timing.specs.Timed.{clock_row, clock_row_of, fire_all}
use Rattle.iosa.proofs.Settling.Each.{each_all, any-map}
use Rattle.iosa.proofs.Settling.Parts.{parts-row, parts-label}
use Rattle.iosa.proofs.Settling.Moves.{go-within}
use Rattle.iosa.proofs.Settling.ProductOfMany.{joinable-pairwise, wells, system-own, system-is-an-automaton}
use Rattle.iosa.proofs.Settling.Steps.{step-is-a-row, row-is-a-step, stable-exactly}
use Rattle.timing.proofs.Timing.Enabling.{EnablesIn, product-enables}
use Rattle.timing.proofs.Timing.Fire.{clock-row-leads, Shoots, enabling-shoots}
use Rattle.paths.specs.Path.{Steps, urgently, calmly, after_of, only_if, by_row, calm_step, path_step}

-- a row with a clock that some component has here is enabling
pub row-enables : (m : Model) (s : List ℕ) (x : ℕ) (r : Row) → clock_row_of m s x ≡ some r → EnablesIn m s x
unfolding clock_row_of
row-enables [] s x r e = absurd (no-some refl e)
row-enables (c ∷ cs) [] x r e = absurd (no-some refl e)
row-enables (c ∷ cs) (s ∷ ss) x r e = go (clock_row c s x) refl e (row-enables cs ss x r)
  where
    go : (o : Option Row) → clock_row c s x ≡ o → or_else o (clock_row_of cs ss x) ≡ some r → (clock_row_of cs ss x ≡ some r → EnablesIn cs ss x)
        → EnablesIn (c ∷ cs) (s ∷ ss) x
    go none f e ih = inr (ih e)
    go (some q) f e ih = inl (record { guard = only x; action = _; resets = _; target = _; guards = in_one x; row = clock-row-leads c s x q f })

-- a clock that fires, by what each part of the step says
pub calm-some : (m : Model) (s : List ℕ) (a x : ℕ) (r : Row) (g : Gone (List ℕ)) → is_stable m s ≡ true → clock_row_of m s x ≡ some r → r.action ≡ a
    → fire_all m s x a ≡ some g → calm_step m s a x ≡ some g.after
unfolding calm_step
calm-some m s a x r g st f q e =
    ap (λ b. only_if b (by_row (λ r. only_if (eqb r.action a) (after_of (fire_all m s x a))) (clock_row_of m s x))) st
    ∙ ap (by_row (λ r. only_if (eqb r.action a) (after_of (fire_all m s x a)))) f
    ∙ ap (λ b. only_if b (after_of (fire_all m s x a))) (eq-eqb r.action a q)
    ∙ ap after_of e

module _ (c : Comp) (cs : List Comp) (well : WellFormed (c ∷ cs)) (conf : Conforming (c ∷ cs)) (join : Joinable (c ∷ cs)) (s : List ℕ)
    (w : Within (c ∷ cs) s) where
  abbrev m : Model
  m = c ∷ cs

  -- what a clock that guards a row here does
  record Fired (x : ℕ) : Type 0 where
    row : Row
    shoots : Shoots m s x row
    output : row.action ∈ (product c cs).outputs
    calm : row.action ∈ (product c cs).urgent → ⊥
    step : (product c cs).Row (state_of c cs s) (only x) row.action shoots.all.gone.resets (state_of c cs shoots.all.gone.after)
    within : Within m shoots.all.gone.after

  fired : (x : ℕ) → EnablesIn m s x → Fired x
  fired x en =
      let k = each_all (λ d. Conditions (auto_of d)) m conf.each in
      let p = enabling-shoots m (wells m well) k (joinable-pairwise m join) s w x en in
      let g = p.1.all in
      let a = p.0.action in
      let o = parts-label (λ A. A.outputs) (λ A B. refl) cs (auto_of c) a (any-map m (λ d h. h.0) p.1.owner) in
      let r = parts-row c cs a (or-in-r (product c cs).inputs (product c cs).outputs a o) g.steps in
      record {
        row = p.0;
        shoots = p.1;
        output = o;
        calm = λ u.
            let e : only x ≡ 0 = (system-is-an-automaton c cs well conf join).cond_a.unguarded r (or-in-r (product c cs).inputs (product c cs).urgent a u) in
            none_in x (sym (ap (λ C. has C x) e) ∙ in_one x);
        step = r;
        within = (go-within m a (wells m well) g.steps).1;
      }

  -- ---- from what is computed to a row
  calm-there : (a x : ℕ) (t : List ℕ) → calm_step m s a x ≡ some t → Steps (product c cs) a (state_of c cs s) (suc x) (state_of c cs t) × Within m t
  unfolding calm_step
  calm-there a x t e = go (is_stable m s) refl e
    where
      last : (r : Row) → clock_row_of m s x ≡ some r → r.action ≡ a → Stable (product c cs) (state_of c cs s) → after_of (fire_all m s x a) ≡ some t
          → Steps (product c cs) a (state_of c cs s) (suc x) (state_of c cs t) × Within m t
      last r f q st e =
          let k = fired x (row-enables m s x r f) in
          let same : k.row ≡ r = some_inj.0 (sym k.shoots.row ∙ f) in
          let act : k.row.action ≡ a = ap (λ r. r.action) same ∙ q in
          let y = map-some (λ g. g.after) (fire_all m s x a) t e in
          let z : k.shoots.all.gone ≡ y.0 = some_inj.0 (sym k.shoots.all.fires ∙ ap (fire_all m s x) act ∙ y.1) in
          let there : k.shoots.all.gone.after ≡ t = ap (λ g. g.after) z ∙ y.2 in (
            calmly (rw act at k.output) (rw act at k.calm) st (rw (act, there) at k.step),
            rw there at k.within,
          )

      act : (r : Row) → clock_row_of m s x ≡ some r → Stable (product c cs) (state_of c cs s) → (b : Bool) → eqb r.action a ≡ b
          → only_if b (after_of (fire_all m s x a)) ≡ some t → Steps (product c cs) a (state_of c cs s) (suc x) (state_of c cs t) × Within m t
      act r f st true q e = last r f (eqb-true r.action a q) st e
      act r f st false q e = absurd (no-some refl e)

      row : (o : Option Row) → clock_row_of m s x ≡ o → Stable (product c cs) (state_of c cs s)
          → by_row (λ r. only_if (eqb r.action a) (after_of (fire_all m s x a))) o ≡ some t
          → Steps (product c cs) a (state_of c cs s) (suc x) (state_of c cs t) × Within m t
      row none f st e = absurd (no-some refl e)
      row (some r) f st e = act r f st (eqb r.action a) refl e

      go : (b : Bool) → is_stable m s ≡ b → only_if b (by_row (λ r. only_if (eqb r.action a) (after_of (fire_all m s x a))) (clock_row_of m s x)) ≡ some t
          → Steps (product c cs) a (state_of c cs s) (suc x) (state_of c cs t) × Within m t
      go true q e = row (clock_row_of m s x) refl ((stable-exactly c cs well conf join s w).0 q) e
      go false q e = absurd (no-some refl e)

  pub step-there : (a g : ℕ) (t : List ℕ) → path_step m s a g ≡ some t → Steps (product c cs) a (state_of c cs s) g (state_of c cs t) × Within m t
  unfolding path_step
  step-there a zero t e =
      let y = map-some (λ g. g.after) (urgent_step m s a) t e in
      let p = step-is-a-row c cs well conf join s w a y.0 y.1 in
      (rw y.2 at (urgently p.0), rw y.2 at p.1)
  step-there a (suc x) t e = calm-there a x t e

  -- ---- and back
  pub record Stepped (a g : ℕ) (y : (product c cs).State) : Type 0 where
    pub after : List ℕ
    pub step : path_step m s a g ≡ some after
    pub within : Within m after
    pub state : y ≡ state_of c cs after

  pub step_back : (a g : ℕ) (y : (product c cs).State) → Steps (product c cs) a (state_of c cs s) g y → Stepped a g y
  unfolding path_step
  step_back a zero y (urgently u) =
      let r = row-is-a-step c cs well conf join s w y u in
      record { after = r.after; step = ap after_of r.step; within = r.within; state = r.state }
  step_back a (suc k) y (calmly {R = R} o n st row) =
      let en = product-enables c cs (system-own c cs well) s w k
      (record { guard = only k; action = a; resets = R; target = y; guards = in_one k; row = row }) in
      let f = fired k en in
      let same = (system-is-an-automaton c cs well conf join).cond_c.same k (in_one k) (in_one k) f.step row in
      let st? : is_stable m s ≡ true = (stable-exactly c cs well conf join s w).1 st in
      let fires : fire_all m s k a ≡ some f.shoots.all.gone = rw same.1 at f.shoots.all.fires in
      record {
        after = f.shoots.all.gone.after;
        step = calm-some m s a k f.row f.shoots.all.gone st? f.shoots.row same.1 fires;
        within = f.within;
        state = sym same.3;
      }
