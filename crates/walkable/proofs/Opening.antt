-- 45 exactly: the lowest action that is an input and nobody's output; none exactly if the system is closed.
use mathlib.Core.Path.{◌≡◌, refl, sym, ◌∙◌, ap}
use mathlib.Core.Logic.{◌↔◌}
use mathlib.Core.Bool.{Bool, true, false, ◌&&◌, not, true≢false}
use mathlib.Core.Option.{Option, none, some, some_inj}
use mathlib.Core.List.{[], ◌∷◌}
use Prim.Native.Nat.{ℕ, ◌<◌}
use lib.ListN.{length}
use borrow.Author.Tests.{not-true}
use Rattle.laws.specs.Sets.{has, ◌∈◌}
use Rattle.laws.specs.Search.{least}
use Rattle.laws.proofs.SearchLaws.{no-some, least-none, none-least, least-some, some-least}
use Rattle.laws.proofs.TestLaws.{and-true, not_so}
use Rattle.answer.specs.Limits.{max_actions}
use Rattle.answer.specs.Told.{Told, tell}
use Rattle.model.specs.Model.{Model, comp_at, inputs, outputs}
use Rattle.model.specs.WellFormed.{WellFormed}
use Rattle.iosa.proofs.Acceptance.Rows.{input-below}
use Rattle.triggering.specs.Triggering.{NoOpenInput, OpenInput}
use Rattle.triggering.specs.Test.{inputs_of, outputs_of, open_fault}
use Rattle.triggering.proofs.Tables.{in-joined}
use Rattle.walkable.specs.Orderly.{Open}

module _ (m : Model) (w : WellFormed m) where
  abbrev open? : ℕ → Bool
  open? a = has (inputs_of m) a && not (has (outputs_of m) a)

  in-inputs : (a : ℕ) → (a ∈ inputs_of m) ↔ ((i : ℕ) × (i < length m) × (a ∈ inputs (comp_at m i)))
  unfolding inputs_of
  in-inputs a = in-joined (λ i. inputs (comp_at m i)) (length m) a

  in-outputs : (a : ℕ) → (a ∈ outputs_of m) ↔ ((i : ℕ) × (i < length m) × (a ∈ outputs (comp_at m i)))
  unfolding outputs_of
  in-outputs a = in-joined (λ i. outputs (comp_at m i)) (length m) a

  open-test : (a : ℕ) → (open? a ≡ true) ↔ OpenInput m a
  open-test a = (
    λ e.
        let p = and-true (has (inputs_of m) a) (not (has (outputs_of m) a)) e in
        let x = (in-inputs a).0 p.0 in
        record {
          index = x.0;
          inside = x.1;
          input = x.2;
          nobody = λ j h o. true≢false (sym ((in-outputs a).1 (j, h, o)) ∙ not-true (has (outputs_of m) a) p.1);
        },
    λ o.
        let i = (in-inputs a).1 (o.index, o.inside, o.input) in
        let n : has (outputs_of m) a ≡ false = not_so (has (outputs_of m) a) (λ x. let y = (in-outputs a).0 x in o.nobody y.0 y.1 y.2) in
        simp (i, n),
  )

  open-below : {a : ℕ} → OpenInput m a → a < max_actions
  open-below {a} o = input-below (comp_at m o.index) (w.each o.index o.inside) a o.input

  closed-open : NoOpenInput m → (a : ℕ) → OpenInput m a → ⊥
  closed-open c a o = let x = c.answered o.index o.inside a o.input in o.nobody x.0 x.1 x.2

  -- nothing is open: somebody outputs each input
  none_open : ((a : ℕ) → OpenInput m a → ⊥) → NoOpenInput m
  none_open f = record { answered = λ i h a k. go i h a k (has (outputs_of m) a) refl }
    where
      go : (i : ℕ) → i < length m → (a : ℕ) → a ∈ inputs (comp_at m i) → (b : Bool) → has (outputs_of m) a ≡ b
          → (j : ℕ) × (j < length m) × (a ∈ outputs (comp_at m j))
      go i h a k true e = (in-outputs a).0 e
      go i h a k false e = absurd (f a (record {
        index = i;
        inside = h;
        input = k;
        nobody = λ j l o. true≢false (sym ((in-outputs a).1 (j, l, o)) ∙ e);
      }))

  abbrev Told45 : Option ℕ → Option Told
  Told45 o = elim o as (λ _. Option Told) [ none ↦ none | some a ↦ some (tell 45 (a ∷ [])) ]

  pub closed-exactly : (open_fault m ≡ none) ↔ NoOpenInput m
  unfolding open_fault
  closed-exactly = (
    λ e. none_open (λ a o. true≢false (sym ((open-test a).1 o) ∙ least-none open? max_actions (quiet (least open? max_actions) e) a (open-below o))),
    λ c. ap Told45 (none-least open? max_actions (λ a h. not_so (open? a) (λ e. closed-open c a ((open-test a).0 e)))),
  )
    where
      quiet : (o : Option ℕ) → Told45 o ≡ none → o ≡ none
      quiet none e = refl
      quiet (some a) e = absurd (no-some e refl)

  pub open-exactly : (t : Told) → (open_fault m ≡ some t) ↔ Open m t
  unfolding open_fault
  open-exactly t = (
    λ e. there (least open? max_actions) refl e,
    λ o. ap Told45 (some-least open? max_actions o.action (record {
      below = open-below o.lowest.here;
      here = (open-test o.action).1 o.lowest.here;
      before = λ b h. not_so (open? b) (λ e. o.lowest.before b h ((open-test b).0 e));
    })) ∙ ap some (sym o.told),
  )
    where
      there : (o : Option ℕ) → least open? max_actions ≡ o → Told45 o ≡ some t → Open m t
      there none f e = absurd (no-some refl e)
      there (some a) f e =
          let l = least-some open? max_actions a f in
          record {
            action = a;
            lowest = record { here = (open-test a).0 l.here; before = λ b h o. true≢false (sym ((open-test b).1 o) ∙ l.before b h) };
            told = sym (some_inj.0 e);
          }
