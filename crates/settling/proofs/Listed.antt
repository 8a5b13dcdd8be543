-- Settling by a list: the actions done, before what the rest of the list does.
use mathlib.Core.Path.{◌≡◌, refl, sym, ap, ap₂, subst, ◌∙◌}
use mathlib.Core.Bool.{true, false}
use mathlib.Core.Option.{Option, none, some}
use mathlib.Core.List.{List, [], ◌∷◌}
use Prim.Native.Nat.{ℕ, suc, ◌+◌, ◌≤◌, ◌<◌}
use native.Mathlib.Omega.{arith}
use native.Mathlib.Numerals.{add-one}
use Rattle.std.specs.Prelude.{Ok}
use Rattle.std.proofs.Common.{le_of_eq}
use lib.ListN.{length, get_or, drop, drop_of_length-le}
use lib.Seq.{drop-cons}
use lib.Bits.{or_zero_r}
use Rattle.laws.specs.Sets.{◌∪◌}
use Rattle.laws.proofs.SetLaws.{or_assoc}
use Rattle.answer.specs.Limits.{max_components}
use Rattle.answer.specs.Told.{tell, Answer, answered, refused}
use Rattle.answer.specs.declared.State.{State}
use Rattle.answer.specs.declared.Settled.{Settled}
use Rattle.answer.specs.State.{parts_of, with_parts}
use Rattle.model.specs.Model.{Model}
use Rattle.iosa.specs.Automaton.{Conforming, Joinable}
use Rattle.iosa.specs.Step.{urgent_step, is_stable}
use Rattle.iosa.specs.Stepped.{Gone}
use Rattle.iosa.specs.Settle.{resting, after_listed, play}
use Rattle.iosa.specs.Orders.{Settling}
use Rattle.layout.specs.Image.{model_of}
use Rattle.moves.specs.Moves.{reset_all, after_all, moved_all, offers_all}
use Rattle.moves.proofs.StepsByOffers.{offered-step, no-offer-no-step}
use Rattle.settling.specs.Gives.{Ready, EndsAt, SettleAnswers}
use Rattle.settling.proofs.Reached.{Reached, reached-first, next-parts, reached-next}

-- k listed actions done, with resets r, before what d says
unfoldable pub plus_listed : ℕ → ℕ → Answer (Settling (List ℕ)) → Answer (Settling (List ℕ))
plus_listed k r (refused t) = refused t
plus_listed k r (answered d) = answered (record { stable = d.stable; steps = k + d.steps; resets = r ∪ d.resets; trace = []; state = d.state })

plus-after : (k r : ℕ) (g : Gone (List ℕ)) (d : Answer (Settling (List ℕ))) → plus_listed k r (after_listed g d) ≡ plus_listed (k + 1) (r ∪ g.resets) d
unfolding plus_listed
plus-after k r g (refused t) = refl
plus-after k r g (answered d) =
    let e : k + suc d.steps ≡ k + 1 + d.steps = omega arith in
    let f = sym (or_assoc r g.resets d.resets) in
    λ i. answered (record { stable = d.stable; steps = e i; resets = f i; trace = []; state = d.state })

module _ (m : Model) where
  plus-first : (i : ℕ) (l s : List ℕ) → plus_listed 0 0 (play m i l s) ≡ play m i l s
  unfolding plus_listed play
  plus-first i [] s = refl
  plus-first i (a ∷ l) s = go (urgent_step m s a)
    where
      by : (g : Gone (List ℕ)) (d : Answer (Settling (List ℕ))) → plus_listed 0 0 (after_listed g d) ≡ after_listed g d
      by g (refused t) = refl
      by g (answered d) =
          let e : 0 + suc d.steps ≡ suc d.steps = omega arith in
          λ i. answered (record { stable = d.stable; steps = e i; resets = g.resets ∪ d.resets; trace = []; state = d.state })

      go : (o : Option (Gone (List ℕ)))
          → plus_listed 0 0 (elim o as (λ _. Answer (Settling (List ℕ))) [
            | none ↦ refused (tell 23 (i ∷ []))
            | some g ↦ after_listed g (play m (suc i) l g.after)
          ])
          ≡ (elim o as (λ _. Answer (Settling (List ℕ))) [ none ↦ refused (tell 23 (i ∷ [])) | some g ↦ after_listed g (play m (suc i) l g.after) ])
      go none = refl
      go (some g) = by g (play m (suc i) l g.after)

  play-go : (i : ℕ) (l s : List ℕ) (g : Gone (List ℕ)) → i < length l → urgent_step m s (get_or l i 0) ≡ some g
      → play m i (drop i l) s ≡ after_listed g (play m (i + 1) (drop (i + 1) l) g.after)
  unfolding play
  play-go i l s g h e = rw (drop-cons l i 0 h, e, play) (ap (λ k. after_listed g (play m k (drop k l) g.after)) (sym (add-one i)))

  play-stop : (i : ℕ) (l s : List ℕ) → i < length l → urgent_step m s (get_or l i 0) ≡ none → play m i (drop i l) s ≡ refused (tell 23 (i ∷ []))
  unfolding play
  play-stop i l s h e = rw (drop-cons l i 0 h, e, play)

  play-end : (i : ℕ) (l s : List ℕ) → length l ≤ i → play m i (drop i l) s ≡ answered (resting (is_stable m s) s)
  unfolding play
  play-end i l s h = ap (λ r. play m i r s) (drop_of_length-le l h)

-- i actions of the list are done, with these resets, and cur is reached
pub record Plays (t list : List ℕ) (x cur : State) (resets i : ℕ) : Type 0 where
  pub within : i ≤ length list
  pub reached : Reached t x cur
  pub run : plus_listed i resets (play (model_of t) i (drop i list) (parts_of cur)) ≡ play (model_of t) 0 list (parts_of x)

module _ (t list : List ℕ) (x : State) where
  pub first : Ready t x → length x.parts ≡ max_components → Plays t list x x 0 0
  first r len = record { within = omega arith; reached = reached-first t x r len; run = plus-first (model_of t) 0 list (parts_of x) }

  module _ (good : Conforming (model_of t)) (fit : Joinable (model_of t)) (cur : State) (resets i : ℕ) (at : Plays t list x cur resets i) where
    module _ (h : i < length list) (a : ℕ) (here : a ≡ get_or list i 0) where
      -- one action more
      pub plays-on : offers_all (model_of t) (parts_of cur) a ≡ true → (next : State) (more all : ℕ) → next ≡ with_parts cur (after_all (model_of t) (parts_of cur) a)
          → more ≡ reset_all (model_of t) (parts_of cur) a → all ≡ resets ∪ more → Plays t list x next all (i + 1)
      plays-on o next more all en em ea =
          let m = model_of t in
          let g = moved_all m (parts_of cur) a in
          let s = offered-step m good fit (parts_of cur) at.reached.standing.within a o in
          record {
            within = omega arith;
            reached = reached-next t x cur at.reached a next en;
            run =
                ap₂ (λ r p. plus_listed (i + 1) r (play m (i + 1) (drop (i + 1) list) p)) (ea ∙ ap (λ n. resets ∪ n) em)
                (next-parts t x cur at.reached a next en)
                ∙ sym (plus-after i resets g (play m (i + 1) (drop (i + 1) list) g.after))
                ∙ ap (plus_listed i resets) (sym (play-go m i list (parts_of cur) g h (ap (urgent_step m (parts_of cur)) (sym here) ∙ s)))
                ∙ at.run;
          }

      -- 23
      pub stops : offers_all (model_of t) (parts_of cur) a ≡ false → play (model_of t) 0 list (parts_of x) ≡ refused (tell 23 (i ∷ []))
      unfolding plus_listed
      stops o =
          sym at.run
          ∙ ap (plus_listed i resets) (play-stop (model_of t) i list (parts_of cur) h
          (rw here at (no-offer-no-step (model_of t) good fit (parts_of cur) at.reached.standing.within a o)))

    -- the end of the list
    pub plays-all : i ≡ length list → (r : Settled) → EndsAt (model_of t) cur (length list) resets r
        → SettleAnswers (play (model_of t) 0 list (parts_of x)) x (Ok r)
    unfolding plus_listed
    plays-all h r e =
        let n : i + 0 ≡ length list = omega arith in
        let z = or_zero_r resets in
        let b = is_stable (model_of t) (parts_of cur) in
        subst (λ (v : Answer (Settling (List ℕ))). SettleAnswers v x (Ok r))
        (sym (ap (plus_listed i resets) (play-end (model_of t) i list (parts_of cur) (le_of_eq (sym h)))
        ∙ (λ j. answered (record { stable = b; steps = n j; resets = z j; trace = []; state = parts_of cur })))
        ∙ at.run)
        (record { verdict = e.verdict; steps = e.steps-are; resets = e.resets-are; state = e.state ∙ sym at.reached.same })
