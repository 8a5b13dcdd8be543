-- What the checks of the new test find in a table, and what is said of its model: 45 by sets of actions, 18 unless the test passes, both behind `accept`.
use mathlib.Core.Path.{◌≡◌, refl, sym, ◌∙◌, ap}
use mathlib.Core.Logic.{⊎_elim}
use mathlib.Core.Bool.{Bool, true, false, ◌&&◌, not}
use mathlib.Core.Option.{Option, none, some}
use mathlib.Core.List.{List, [], ◌∷◌}
use Prim.Native.Nat.{ℕ, ◌≤◌, ◌<◌}
use native.Mathlib.Omega.{arith}
use Rattle.laws.specs.Sets.{has, ◌∪◌, ◌∖◌}
use Rattle.laws.specs.Search.{or_else, least}
use Rattle.laws.proofs.Exits.{handed-on}
use Rattle.laws.proofs.SetLaws.{in-or, or-in-l, or-in-r, same-members, has-without}
use Rattle.laws.proofs.SearchLaws.{no-some, least-none, none-least, least-some, some-least}
use Rattle.answer.specs.Limits.{max_actions}
use Rattle.answer.specs.Told.{Told, told, tell, says_checked}
use Rattle.answer.specs.Told.{Checked}
use Rattle.std.specs.Prelude.{Ok, Err, IsErrAnd, MatchResult}
use Rattle.answer.specs.declared.Place.TheVariants.{Action}
use Rattle.answer.specs.declared.Refusal.{Refusal}
use Rattle.sets.specs.Members.{or_end, lowest_of}
use Rattle.model.specs.Model.{Model, comp_at, inputs, outputs}
use Rattle.iosa.specs.Checks.{accept_of, clash_among}
use Rattle.iosa.specs.Step.{unless}
use Rattle.layout.specs.Layout.{count_of, block_word, joined_word}
use Rattle.layout.specs.Image.{comp_of, model_of}
use Rattle.layout.proofs.ModelOf.{model-length, comp-at}
use Rattle.parts.specs.Faults.{Says}
use Rattle.parts.proofs.Saying.{says-refused, says-fine, says-as, fine-none, refused-some, not-fine}
use Rattle.table.specs.OnTable.{check_on}
use Rattle.table.proofs.OnTableLaws.{on-image}
use Rattle.table.proofs.CheckedLaws.{Follows, refused-tells, call-refuses}
use Rattle.table.proofs.ImageExactly.{image-exactly}
use Rattle.admit.specs.Admit.{Accepted}
use Rattle.admit.proofs.Exactly.{accept-fine}
use Rattle.triggering.specs.Test.{joined, inputs_of, outputs_of, passes_of, open_fault, unless_passes, else_orderly, orderly_of, entry_of}
use Rattle.triggering.proofs.Tables.{in-joined}
use Rattle.orderly.specs.Calls.{called_fault, either_fault}

-- ---- the sets of the system: two words of every block
two-joined : (f g h : ℕ → ℕ) (n : ℕ) → ((k : ℕ) → k < n → h k ≡ f k ∪ g k) → joined f n ∪ joined g n ≡ joined h n
two-joined f g h n e = same-members (joined f n ∪ joined g n) (joined h n) (
    λ x m. ⊎_elim
    (λ l. let p = (in-joined f n x).0 l in (in-joined h n x).1 (p.0, p.1, rw (e p.0 p.1) (or-in-l (f p.0) (g p.0) x p.2)))
    (λ l. let p = (in-joined g n x).0 l in (in-joined h n x).1 (p.0, p.1, rw (e p.0 p.1) (or-in-r (f p.0) (g p.0) x p.2)))
    (in-or (joined f n) (joined g n) x m)
    ) (
    λ x m.
    let p = (in-joined h n x).0 m in
    ⊎_elim
    (λ l. or-in-l (joined f n) (joined g n) x ((in-joined f n x).1 (p.0, p.1, l)))
    (λ l. or-in-r (joined f n) (joined g n) x ((in-joined g n x).1 (p.0, p.1, l)))
    (in-or (f p.0) (g p.0) x (rw (e p.0 p.1) at p.2))
    )

pub inputs-joined : (t : List ℕ) → joined_word t 2 ∪ joined_word t 4 ≡ inputs_of (model_of t)
unfolding joined_word inputs_of comp_of
inputs-joined t =
    let h : ℕ → ℕ = λ i. inputs (comp_at (model_of t) i) in
    two-joined (λ i. block_word t i 2) (λ i. block_word t i 4) h (count_of t) (λ i l. ap inputs (comp-at t i l)) ∙ ap (joined h) (sym (model-length t))

pub outputs-joined : (t : List ℕ) → joined_word t 3 ∪ joined_word t 5 ≡ outputs_of (model_of t)
unfolding joined_word outputs_of comp_of
outputs-joined t =
    let h : ℕ → ℕ = λ i. outputs (comp_at (model_of t) i) in
    two-joined (λ i. block_word t i 3) (λ i. block_word t i 5) h (count_of t) (λ i l. ap outputs (comp-at t i l)) ∙ ap (joined h) (sym (model-length t))

-- ---- 45: the lowest member of the inputs without the outputs
module _ (m : Model) (a : ℕ) (e : a ≡ lowest_of (inputs_of m ∖ outputs_of m)) where
  abbrev left : ℕ
  left = inputs_of m ∖ outputs_of m

  abbrev open? : ℕ → Bool
  open? x = has (inputs_of m) x && not (has (outputs_of m) x)

  same : (x : ℕ) → open? x ≡ has left x
  same x = sym (has-without (inputs_of m) (outputs_of m) x)

  abbrev Told45 : Option ℕ → Option Told
  Told45 o = elim o as (λ _. Option Told) [ none ↦ none | some x ↦ some (tell 45 (x ∷ [])) ]

  -- what the search finds, and what the machine does
  pub lowest-open : a < max_actions → open_fault m ≡ some (tell 45 (a ∷ []))
  unfolding open_fault lowest_of
  lowest-open h = go (least (has left) max_actions) refl e
    where
      go : (o : Option ℕ) → least (has left) max_actions ≡ o → a ≡ or_end o max_actions → Told45 (least open? max_actions) ≡ some (tell 45 (a ∷ []))
      go none f q = absurd (omega arith)
      go (some k) f q =
          let l = least-some (has left) max_actions k f in
          ap Told45 (some-least open? max_actions k (record { below = l.below; here = same k ∙ l.here; before = λ j i. same j ∙ l.before j i }))
          ∙ ap (λ x. some (tell 45 (x ∷ []))) (sym q)

  pub none_open : max_actions ≤ a → open_fault m ≡ none
  unfolding open_fault lowest_of
  none_open h = go (least (has left) max_actions) refl e
    where
      go : (o : Option ℕ) → least (has left) max_actions ≡ o → a ≡ or_end o max_actions → Told45 (least open? max_actions) ≡ none
      go none f q = ap Told45 (none-least open? max_actions (λ k i. same k ∙ least-none (has left) max_actions f k i))
      go (some k) f q = absurd (omega (arith, (least-some (has left) max_actions k f).below))

  pub says-45 : (r : Checked) → a < max_actions → r ≡ Err (record { number = 45; place = Action a }) → Says r (open_fault m)
  unfolding told
  says-45 r h q = rw q (says-refused _ (tell 45 (a ∷ [])) (open_fault m) refl (lowest-open h))

-- ---- 18, unless the test passes
abbrev done : Unit {0}
done = tt

module _ (m : Model) where
  abbrev Unless : Bool → Told → Option Told
  Unless b t = elim b as (λ _. Option Told) [ true ↦ none | false ↦ some t ]

  pub passed : (o : Option Told) → passes_of m ≡ true → unless_passes m o ≡ none
  passed none e = refl
  passed (some t) e = ap (λ b. Unless b t) e

  pub failed : (o : Option Told) → passes_of m ≡ false → o ≡ unless_passes m o
  failed none e = refl
  failed (some t) e = sym (ap (λ b. Unless b t) e)

  -- check 18 has passed; it has failed
  pub either-passed : (o : Option Told) → o ≡ none → else_orderly m o ≡ none
  either-passed o e = ap (else_orderly m) e

  pub either-failed : (o : Option Told) (t : Told) → o ≡ some t → or_else (open_fault m) (unless_passes m o) ≡ else_orderly m o
  either-failed none t e = absurd (no-some refl e)
  either-failed (some u) t e = refl

-- what check 18 says, or else what is called then
pub or-called : (m : Model) (q r : Checked) → Says q (clash_among 0 m)
    → MatchResult q (λ x. r ≡ Ok x) (λ f. Says r (called_fault m)) → Says r (either_fault m)
or-called m (Ok tt) r s h = rw h (says-fine _ (either-passed m (clash_among 0 m) (fine-none _ s)))
or-called m (Err f) r s h =
    let some = refused-some _ (clash_among 0 m) s (not-fine _ f refl) in
    says-as _ _ _ (either-failed m (clash_among 0 m) some.0 some.1) h

-- ---- behind `accept`
pub orderly-behind : (m : Model) → orderly_of m ≡ or_else (accept_of m) (called_fault m)
unfolding orderly_of
orderly-behind m = refl

pub either-behind : (m : Model) → entry_of m ≡ or_else (accept_of m) (either_fault m)
unfolding entry_of
either-behind m = refl

module _ (t : List ℕ) (whole rest : Model → Option Told) (behind : (m : Model) → whole m ≡ or_else (accept_of m) (rest m)) where
  pub not-accepted : (f : Refusal) → Accepted t (Err f) → (r : Checked) → IsErrAnd r (λ x. x ≡ f) → says_checked r ≡ some (check_on t whole)
  not-accepted f a r h =
      let x = refused-tells t accept_of f a in
      rw (handed-on r h) (a ∙ ap some (x.2 ∙ sym (call-refuses t accept_of (λ m. unless (whole m) done) follows x.0 x.2)))
    where
      follows : Follows t accept_of (λ m. unless (whole m) done)
      follows m u h = ap (λ o. unless o done) (behind m ∙ ap (λ o. or_else o (rest m)) h)

  pub accepted-then : Accepted t (Ok tt) → (r : Checked) → Says r (rest (model_of t)) → says_checked r ≡ some (check_on t whole)
  accepted-then a r s =
      let d = accept-fine t a in
      let m = model_of t in
      let z = on-image t (λ m. unless (whole m) done) ((image-exactly t).1 d.image) in
      s ∙ ap some (sym (z ∙ ap (λ o. unless o done) (behind m ∙ ap (λ o. or_else o (rest m)) d.accepted)))
