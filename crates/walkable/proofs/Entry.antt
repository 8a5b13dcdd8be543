-- The checks of the new test, and of the calls that take systems that pass either test, are decided by what computes.
use mathlib.Core.Path.{◌≡◌, refl, sym, ◌∙◌, ap}
use mathlib.Core.Logic.{◌↔◌, ◌⊎◌, inl, inr}
use mathlib.Core.Bool.{Bool, true, false, true≢false}
use mathlib.Core.Option.{Option, none, some}
use Rattle.laws.specs.Search.{or_else}
use Rattle.laws.proofs.SearchLaws.{no-some}
use Rattle.answer.specs.Told.{Told, Answer}
use Rattle.model.specs.Model.{Model}
use Rattle.model.specs.WellFormed.{WellFormed}
use Rattle.iosa.specs.Automaton.{Conforming, Joinable, AllConfluent}
use Rattle.iosa.specs.Faults.{Clash, First}
use Rattle.iosa.specs.Checks.{clash_among, accept_of}
use Rattle.iosa.specs.InOrder.{◌▹◌, accepted}
use Rattle.answering.proofs.Answers.InOrder.{Decided, refused_or, or-refused, check-exactly}
use Rattle.answering.proofs.Answers.Models.{confluent-decided, check-accepted}
use Rattle.triggering.specs.Triggering.{Passes, NoOpenInput}
use Rattle.triggering.specs.Test.{passes_of, open_fault, unless_passes, else_orderly, entry_of}
use Rattle.triggering.proofs.Passing.{passes-exactly, confluent-passes}
use Rattle.walkable.specs.Orderly.{EitherTest, Open, Settles}
use Rattle.walkable.specs.Entry.{closed, passing, Unsettled, settles}
use Rattle.walkable.proofs.Opening.{closed-exactly, open-exactly}

module _ (m : Model) (w : WellFormed m) where
  pub closed_decided : Decided (closed m) (open_fault m)
  closed_decided = record { told = open-exactly m w; fine = closed-exactly m w }

  module _ (k : Conforming m × Joinable m) where
    clash : Decided (record { Refuses = First (Clash m); Passes = AllConfluent m }) (clash_among 0 m)
    clash = confluent-decided m w k

    test : (passes_of m ≡ true) ↔ Passes m
    test = passes-exactly m w k.0 k.1

    abbrev Unless : Bool → Told → Option Told
    Unless b t = elim b as (λ _. Option Told) [ true ↦ none | false ↦ some t ]

    -- 18 where the new test fails: the first clash
    refused-18 : (o : Option Told) → clash_among 0 m ≡ o → (t : Told) → (unless_passes m o ≡ some t) ↔ ((Passes m → ⊥) × First (Clash m) t)
    refused-18 none e t = (
      λ f. absurd (no-some refl f),
      λ p. absurd (p.0 (confluent-passes m w k.0 k.1 (clash.fine.0 e))),
    )
    refused-18 (some u) e t = (λ f. there (passes_of m) refl f, λ p. back (passes_of m) refl p.0 ∙ sym e ∙ (clash.told t).1 p.1)
      where
        there : (b : Bool) → passes_of m ≡ b → Unless b u ≡ some t → (Passes m → ⊥) × First (Clash m) t
        there true q f = absurd (no-some refl f)
        there false q f = (λ p. true≢false (sym (test.1 p) ∙ q), (clash.told t).0 (e ∙ f))

        back : (b : Bool) → passes_of m ≡ b → (Passes m → ⊥) → Unless b u ≡ some u
        back true q p = absurd (p (test.0 q))
        back false q p = refl

    -- nothing exactly if it passes
    fine-18 : (o : Option Told) → clash_among 0 m ≡ o → (unless_passes m o ≡ none) ↔ Passes m
    fine-18 none e = (λ f. confluent-passes m w k.0 k.1 (clash.fine.0 e), λ p. refl)
    fine-18 (some u) e = (λ f. there (passes_of m) refl f, λ p. ap (λ b. Unless b u) (test.1 p))
      where
        there : (b : Bool) → passes_of m ≡ b → Unless b u ≡ none → Passes m
        there true q f = test.0 q
        there false q f = absurd (no-some f refl)

    pub passing-decided : Decided (passing m) (unless_passes m (clash_among 0 m))
    passing-decided = record { told = refused-18 (clash_among 0 m) refl; fine = fine-18 (clash_among 0 m) refl }

    -- ---- check 18, or else 45, then 18
    abbrev Both : Option Told → Option Told → Option Told
    Both o p = or_else o p

    settles-told : (o : Option Told) → clash_among 0 m ≡ o → (t : Told) → (else_orderly m o ≡ some t) ↔ Unsettled m t
    settles-told none e t = (λ f. absurd (no-some refl f), λ u. absurd (u.failed (clash.fine.0 e)))
    settles-told (some u) e t = (λ f. there (open_fault m) refl f, λ x. back x.why)
      where
        failed : AllConfluent m → ⊥
        failed al = no-some (clash.fine.1 al) e

        there : (o : Option Told) → open_fault m ≡ o → Both o (unless_passes m (some u)) ≡ some t → Unsettled m t
        there (some f) q g = record { failed = failed; why = inl ((closed_decided.told t).0 (q ∙ g)) }
        there none q g =
            let p = (refused-18 (some u) e t).0 g in
            record { failed = failed; why = inr (closed_decided.fine.0 q, p.0, p.1) }

        back : Open m t ⊎ (NoOpenInput m × (Passes m → ⊥) × First (Clash m) t) → else_orderly m (some u) ≡ some t
        back (inl o) = ap (λ x. Both x (unless_passes m (some u))) ((closed_decided.told t).1 o)
        back (inr p) = ap (λ x. Both x (unless_passes m (some u))) (closed_decided.fine.1 p.0) ∙ (refused-18 (some u) e t).1 (p.1, p.2)

    settles-fine : (o : Option Told) → clash_among 0 m ≡ o → (else_orderly m o ≡ none) ↔ EitherTest m
    settles-fine none e = (λ f. inl (clash.fine.0 e), λ p. refl)
    settles-fine (some u) e = (λ f. there (open_fault m) refl f, back)
      where
        there : (o : Option Told) → open_fault m ≡ o → Both o (unless_passes m (some u)) ≡ none → EitherTest m
        there (some f) q g = absurd (no-some g refl)
        there none q g = inr (closed_decided.fine.0 q, (fine-18 (some u) e).0 g)

        back : EitherTest m → else_orderly m (some u) ≡ none
        back (inl al) = absurd (no-some (clash.fine.1 al) e)
        back (inr p) = ap (λ x. Both x (unless_passes m (some u))) (closed_decided.fine.1 p.0) ∙ (fine-18 (some u) e).1 p.1

    pub settles-decided : Decided (settles m) (else_orderly m (clash_among 0 m))
    settles-decided = record { told = settles-told (clash_among 0 m) refl; fine = settles-fine (clash_among 0 m) refl }

-- what comes after the checks of either test may count on it
pub check-settles : {A : Type 0} (m : Model) → WellFormed m → (x : Answer A) (R : Answer A → Type 0) → (Settles m → (a : Answer A) → (x ≡ a) ↔ R a)
    → (a : Answer A) → (refused_or (entry_of m) x ≡ a) ↔ (accepted m ▹ settles m ▹ R) a
unfolding entry_of
check-settles m w x R f a =
    let o = else_orderly m (clash_among 0 m) in
    rw (or-refused (accept_of m) o x) (
    check-accepted m w (refused_or o x) (settles m ▹ R) (λ k.
    check-exactly (settles m) o (settles-decided m w k) x R (λ e. f (record { conforms = k.0; joins = k.1; either = e }))) a)
