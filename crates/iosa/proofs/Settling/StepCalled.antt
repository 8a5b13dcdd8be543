-- Steps exactly, of the calls: one step by our rule and by a named action answer the product's urgent rows and nothing else.
use mathlib.Core.Path.{◌≡◌, refl, ◌∙◌, ap}
use mathlib.Core.Logic.{◌↔◌}
use mathlib.Core.Option.{Option, none, some}
use mathlib.Core.List.{List, [], ◌∷◌}
use Prim.Native.Nat.{ℕ, ◌<◌}
use native.Mathlib.Omega.{arith}
use Rattle.laws.specs.Search.{or_else}
use Rattle.laws.proofs.SearchLaws.{no-some, some-seek, none-seek, or_else_none}
use Rattle.answer.specs.Limits.{max_actions}
use Rattle.answer.specs.Told.{Told, tell, answered, refused}
use Rattle.model.specs.Model.{Comp, Model}
use Rattle.model.specs.WellFormed.{WellFormed}
use Rattle.iosa.specs.Automaton.{Conforming, Joinable, UrgentRow}
use Rattle.iosa.specs.Product.{product, state_of, Within}
use Rattle.iosa.specs.Checks.{accept_of}
use Rattle.iosa.specs.Step.{Went, named, lowest, urgent_step, state_fault, unless, taken, step_of, taken_by, step_by_of}
use Rattle.iosa.specs.Stepped.{StepsByRule, is-stable, moves, StepsByName, by-action, Gone, Stepping}
use Rattle.iosa.proofs.Acceptance.Accepted.{accepted-exactly}
use Rattle.iosa.proofs.Settling.Rule.{lowest-none, lowest-some}
use Rattle.iosa.proofs.Settling.Steps.{step-is-a-row, row-is-a-step, steps-exactly, steps-are-bounded, stable-stuck, stuck-stable, no-row-no-step}
use Rattle.iosa.proofs.Settling.Called.{state-faultless, answers-exactly, not-refused, same_answer, no_answer}

module _ {S : Type 0} (step : S → ℕ → Option (Gone S)) where
  pub stuck-lowest : (s : S) → ((a : ℕ) → step s a ≡ none) → lowest step s ≡ none
  unfolding lowest
  stuck-lowest s st = none-seek (λ a. named a (step s a)) 0 max_actions (λ a h k. rw (st a))

  pub some-lowest : (s : S) (a : ℕ) (g : Gone S) → a < max_actions → step s a ≡ some g → ((b : ℕ) → b < a → step s b ≡ none)
      → lowest step s ≡ some (record { action = a; gone = g })
  unfolding lowest
  some-lowest s a g h e f =
      some-seek (λ b. named b (step s b)) 0 max_actions (record { place = a; from = omega arith; below = h; here = rw e; least = λ b p q. rw (f b q) })

module _ (c : Comp) (cs : List Comp) (well : WellFormed (c ∷ cs)) (conf : Conforming (c ∷ cs)) (join : Joinable (c ∷ cs)) (s : List ℕ)
    (w : Within (c ∷ cs) s) where
  pub rule-taken : (o : Option (Went (List ℕ))) → lowest (urgent_step (c ∷ cs)) s ≡ o → StepsByRule c cs s (taken s o)
  rule-taken none e = is-stable (stuck-stable c cs well conf join s w (lowest-none (urgent_step (c ∷ cs)) s (steps-are-bounded c cs well conf join) e))
  rule-taken (some v) e =
      let q = lowest-some (urgent_step (c ∷ cs)) s v e in
      let p = step-is-a-row c cs well conf join s w v.action v.gone q.0 in
      moves (record { row = p.0; range = p.1 }) (λ b C Q y h r. no-some (q.1 b h) (row-is-a-step c cs well conf join s w y r).step)

  pub taken-rule : {x : Stepping} → StepsByRule c cs s x → taken s (lowest (urgent_step (c ∷ cs)) s) ≡ x
  taken-rule (is-stable st) = ap (taken s) (stuck-lowest (urgent_step (c ∷ cs)) s (stable-stuck c cs well conf join s w st))
  taken-rule (moves {a = a} {R = R} {t = t} p f) =
      let g : Gone (List ℕ) = record { resets = R; after = t } in
      let e = (steps-exactly c cs well conf join s w a g).1 (p.row, p.range) in
      ap (taken s) (some-lowest (urgent_step (c ∷ cs)) s a g (steps-are-bounded c cs well conf join s a g e) e
      (λ b h. no-row-no-step c cs well conf join s w b (λ C Q y r. f b C Q y h r)))

  pub by_name : (a : ℕ) (o : Option (Gone (List ℕ))) (x : Stepping) → urgent_step (c ∷ cs) s a ≡ o → taken_by (named a o) ≡ answered x → StepsByName c cs s a x
  by_name a none x e h = absurd (no_answer h)
  by_name a (some g) x e h = let p = step-is-a-row c cs well conf join s w a g e in rw (← same_answer h) (by-action (record { row = p.0; range = p.1 }))

  pub name_by : (a : ℕ) {x : Stepping} → StepsByName c cs s a x → taken_by (named a (urgent_step (c ∷ cs) s a)) ≡ answered x
  name_by a (by-action {R = R} {t = t} p) =
      ap (λ o. taken_by (named a o)) ((steps-exactly c cs well conf join s w a (record { resets = R; after = t })).1 (p.row, p.range))

unless-exactly : {A : Type 0} (o : Option Told) (x y : A) → (unless o x ≡ answered y) ↔ (o ≡ none) × (x ≡ y)
unless-exactly none x y = (λ e. (refl, same_answer e), λ p. ap answered p.1)
unless-exactly (some t) x y = (λ e. absurd (no_answer e), λ p. absurd (no-some p.0 refl))

-- no refusal of 10 to 17 and of 21
before-the-step : (m : Model) (s : List ℕ) → (or_else (accept_of m) (state_fault m s) ≡ none) ↔ (accept_of m ≡ none) × Within m s
before-the-step m s = (
  λ e. let p = or_else_none (accept_of m) (state_fault m s) e in (p.0, (state-faultless m s).0 p.1),
  λ p. simp (p.0, (state-faultless m s).1 p.1),
)

module _ (c : Comp) (cs : List Comp) (well : WellFormed (c ∷ cs)) (s : List ℕ) where
  -- "One step, by our rule"
  pub step-answers-exactly : (x : Stepping) → (step_of (c ∷ cs) s ≡ answered x) ↔ (accept_of (c ∷ cs) ≡ none) × Within (c ∷ cs) s × StepsByRule c cs s x
  unfolding step_of
  step-answers-exactly x =
      let u = unless-exactly (or_else (accept_of (c ∷ cs)) (state_fault (c ∷ cs) s)) (taken s (lowest (urgent_step (c ∷ cs)) s)) x in
      let b = before-the-step (c ∷ cs) s in (
        λ e.
            let p = u.0 e in
            let q = b.0 p.0 in
            let k = (accepted-exactly (c ∷ cs) well).0 q.0 in
            (q.0, q.1, rw (← p.1) (rule-taken c cs well k.0 k.1 s q.1 (lowest (urgent_step (c ∷ cs)) s) refl)),
        λ p. let k = (accepted-exactly (c ∷ cs) well).0 p.0 in u.1 (b.1 (p.0, p.1), taken-rule c cs well k.0 k.1 s p.1 p.2),
      )

  -- "or by a named action"
  pub named-step-answers-exactly : (a : ℕ) (x : Stepping) → (step_by_of (c ∷ cs) s a ≡ answered x)
      ↔ (accept_of (c ∷ cs) ≡ none) × Within (c ∷ cs) s × StepsByName c cs s a x
  unfolding step_by_of
  named-step-answers-exactly a x =
      let u = answers-exactly (or_else (accept_of (c ∷ cs)) (state_fault (c ∷ cs) s)) (taken_by (named a (urgent_step (c ∷ cs) s a))) x in
      let b = before-the-step (c ∷ cs) s in (
        λ e.
            let p = u.0 e in
            let q = b.0 p.0 in
            let k = (accepted-exactly (c ∷ cs) well).0 q.0 in
            (q.0, q.1, by_name c cs well k.0 k.1 s q.1 a (urgent_step (c ∷ cs) s a) x refl p.1),
        λ p. let k = (accepted-exactly (c ∷ cs) well).0 p.0 in u.1 (b.1 (p.0, p.1), name_by c cs well k.0 k.1 s p.1 a p.2),
      )

  -- "a named action not enabled is 23 at 0"
  pub named-step-not-enabled : (a : ℕ) → accept_of (c ∷ cs) ≡ none → Within (c ∷ cs) s
      → ((C R : ℕ) (y : (product c cs).State) → UrgentRow (product c cs) (state_of c cs s) C a R y → ⊥) → step_by_of (c ∷ cs) s a ≡ refused (tell 23 (0 ∷ []))
  unfolding step_by_of
  named-step-not-enabled a ok w f =
      let k = (accepted-exactly (c ∷ cs) well).0 ok in
      not-refused (or_else (accept_of (c ∷ cs)) (state_fault (c ∷ cs) s)) (taken_by (named a (urgent_step (c ∷ cs) s a))) ((before-the-step (c ∷ cs) s).1 (ok, w))
      ∙ ap (λ o. taken_by (named a o)) (no-row-no-step c cs well k.0 k.1 s w a f)
