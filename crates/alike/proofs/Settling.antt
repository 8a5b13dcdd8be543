-- Settling of the merged model from the pairs of s, by our rule and by a list, is settling of the model from s, with its end paired.
use mathlib.Core.Path.{◌≡◌, refl, sym, ◌∙◌, ap}
use mathlib.Core.Bool.{true, false, not}
use mathlib.Core.Option.{Option, none, some}
use mathlib.Core.List.{List, [], ◌∷◌}
use Prim.Native.Nat.{ℕ, zero, suc, ◌<◌}
use lib.ListN.{length}
use Rattle.laws.specs.Search.{is_some, or_else, map_some}
use Rattle.laws.proofs.RangeLaws.{seek-ext, map-seek, some-map}
use Rattle.answer.specs.Limits.{max_actions}
use Rattle.answer.specs.Told.{Told, tell, Answer, answered, refused}
use Rattle.model.specs.Model.{Model}
use Rattle.model.specs.WellFormed.{WellComp}
use Rattle.iosa.specs.Product.{Within}
use Rattle.iosa.specs.Stepped.{Gone}
use Rattle.iosa.specs.Checks.{confluent_of}
use Rattle.iosa.specs.Step.{Went, named, lowest, urgent_step, is_stable}
use Rattle.iosa.specs.Settle.{resting, after, settle, begin_fault, budget_fault, trace_fault, settle_of, after_listed, play, settle_list_of}
use Rattle.iosa.specs.Orders.{Settling}
use Rattle.merged.specs.Merge.{merged_at}
use Rattle.merged.specs.MergedExactly.{paired_at}
use Rattle.iosa.proofs.Settling.Each.{All}
use Rattle.iosa.proofs.Settling.Descent.{Keeps}
use Rattle.iosa.proofs.Settling.Rule.{lowest-some}
use Rattle.alike.specs.Alike.{SameAnswer, both_settle, both-refuse}
use Rattle.alike.proofs.Moves.{gone_into, steps-of-pairs}

-- ---- one system whose steps are another's, its states read through f
abbrev went_into : {S T : Type 0} → (S → T) → Went S → Went T
went_into f w = record { action = w.action; gone = gone_into f w.gone }

abbrev settling_into : {S T : Type 0} → (S → T) → Settling S → Settling T
settling_into f d = record { stable = d.stable; steps = d.steps; resets = d.resets; trace = d.trace; state = f d.state }

abbrev pub answer_into : {S T : Type 0} → (S → T) → Answer (Settling S) → Answer (Settling T)
answer_into f (answered d) = answered (settling_into f d)
answer_into f (refused t) = refused t

module _ {S T : Type 0} (f : S → T) (P : S → Type 0) (step : S → ℕ → Option (Gone S)) (step' : T → ℕ → Option (Gone T)) (keeps : Keeps step P)
    (same : (s : S) → P s → (a : ℕ) → step' (f s) a ≡ map_some (gone_into f) (step s a)) where
  name-into : (a : ℕ) (o : Option (Gone S)) → named a (map_some (gone_into f) o) ≡ map_some (went_into f) (named a o)
  name-into a none = refl
  name-into a (some g) = refl

  lowest-into : (s : S) → P s → lowest step' (f s) ≡ map_some (went_into f) (lowest step s)
  unfolding lowest
  lowest-into s p =
      seek-ext (λ a. named a (step' (f s) a)) (λ a. map_some (went_into f) (named a (step s a))) 0 max_actions
      (λ a x y. ap (named a) (same s p a) ∙ name-into a (step s a))
      ∙ sym (map-seek (went_into f) (λ a. named a (step s a)) 0 max_actions)

  went-keeps : (s : S) → P s → (w : Went S) → lowest step s ≡ some w → P w.gone.after
  went-keeps s p w e = keeps s w.action w.gone p (lowest-some step s w e).0

  settle-into : (n : ℕ) (s : S) → P s → settle step' n (f s) ≡ settling_into f (settle step n s)
  unfolding settle
  settle-into zero s p =
      ap (λ o. elim o as (λ _. Settling T) [ none ↦ resting true (f s) | some w ↦ resting false (f s) ]) (lowest-into s p) ∙ go (lowest step s)
    where
      go : (o : Option (Went S)) → (elim (map_some (went_into f) o) as (λ _. Settling T) [ none ↦ resting true (f s) | some w ↦ resting false (f s) ])
          ≡ settling_into f (elim o as (λ _. Settling S) [ none ↦ resting true s | some w ↦ resting false s ])
      go none = refl
      go (some w) = refl
  settle-into (suc n) s p =
      ap (λ o. elim o as (λ _. Settling T) [ none ↦ resting true (f s) | some w ↦ after w (settle step' n w.gone.after) ]) (lowest-into s p)
      ∙ go (lowest step s) (λ w e. settle-into n w.gone.after (went-keeps s p w e))
    where
      go : (o : Option (Went S)) → ((w : Went S) → o ≡ some w → settle step' n (f w.gone.after) ≡ settling_into f (settle step n w.gone.after))
          → (elim (map_some (went_into f) o) as (λ _. Settling T) [ none ↦ resting true (f s) | some w ↦ after w (settle step' n w.gone.after) ])
          ≡ settling_into f (elim o as (λ _. Settling S) [ none ↦ resting true s | some w ↦ after w (settle step n w.gone.after) ])
      go none ih = refl
      go (some w) ih = ap (after (went_into f w)) (ih w refl)

-- ---- a model and the merged one
module _ (m : Model) (i : ℕ) (w : All WellComp m) (h : suc i < length m) (keeps : Keeps (urgent_step m) (Within m)) where
  abbrev f : List ℕ → List ℕ
  f = paired_at m i

  same : (s : List ℕ) → Within m s → (a : ℕ) → urgent_step (merged_at m i) (f s) a ≡ map_some (gone_into f) (urgent_step m s a)
  same = steps-of-pairs i m w h

  pub merged-settles-alike : (n : ℕ) (s : List ℕ) → Within m s
      → settle (urgent_step (merged_at m i)) n (paired_at m i s) ≡ settling_into (paired_at m i) (settle (urgent_step m) n s)
  merged-settles-alike = settle-into f (Within m) (urgent_step m) (urgent_step (merged_at m i)) keeps same

  pub merged-stable-alike : (s : List ℕ) → Within m s → is_stable (merged_at m i) (paired_at m i s) ≡ is_stable m s
  unfolding is_stable
  merged-stable-alike s ok =
      ap (λ o. not (is_some o)) (lowest-into f (Within m) (urgent_step m) (urgent_step (merged_at m i)) keeps same s ok)
      ∙ ap not (some-map (went_into f) (lowest (urgent_step m) s))

  -- by list, from index k on
  listed-into : (g : Gone (List ℕ)) (a : Answer (Settling (List ℕ))) → after_listed (gone_into f g) (answer_into f a) ≡ answer_into f (after_listed g a)
  listed-into g (answered d) = refl
  listed-into g (refused t) = refl

  pub merged-plays-alike : (k : ℕ) (l s : List ℕ) → Within m s → play (merged_at m i) k l (paired_at m i s) ≡ answer_into (paired_at m i) (play m k l s)
  unfolding play
  merged-plays-alike k [] s ok = ap (λ b. answered (resting b (f s))) (merged-stable-alike s ok)
  merged-plays-alike k (a ∷ l) s ok =
      ap (λ o. elim o as (λ _. Answer (Settling (List ℕ)))
      [ none ↦ refused (tell 23 (k ∷ [])) | some g ↦ after_listed g (play (merged_at m i) (suc k) l g.after) ])
      (same s ok a)
      ∙ go (urgent_step m s a) (λ g e. merged-plays-alike (suc k) l g.after (keeps s a g ok e))
    where
      go : (o : Option (Gone (List ℕ)))
          → ((g : Gone (List ℕ)) → o ≡ some g → play (merged_at m i) (suc k) l (f g.after) ≡ answer_into f (play m (suc k) l g.after))
          → (elim (map_some (gone_into f) o) as (λ _. Answer (Settling (List ℕ)))
          [ none ↦ refused (tell 23 (k ∷ [])) | some g ↦ after_listed g (play (merged_at m i) (suc k) l g.after) ])
          ≡ answer_into f (elim o as (λ _. Answer (Settling (List ℕ)))
          [ none ↦ refused (tell 23 (k ∷ [])) | some g ↦ after_listed g (play m (suc k) l g.after) ])
      go none ih = refl
      go (some g) ih = ap (after_listed (gone_into f g)) (ih g refl) ∙ listed-into g (play m (suc k) l g.after)

  -- ---- with the refusals
  -- a refusal, or else a settling that may itself be one
  abbrev refused_or : Option Told → Answer (Settling (List ℕ)) → Answer (Settling (List ℕ))
  refused_or o x = elim o as (λ _. Answer (Settling (List ℕ))) [ some t ↦ refused t | none ↦ x ]

  refused-into : (o : Option Told) (a : Answer (Settling (List ℕ))) → refused_or o (answer_into f a) ≡ answer_into f (refused_or o a)
  refused-into none a = refl
  refused-into (some t) a = refl

  -- "a composed state that both accept"
  module _ (before : confluent_of m ≡ none) (again : confluent_of (merged_at m i) ≡ none) (s : List ℕ) (ok : Within m s)
      (begins : begin_fault m s ≡ none) (begins-again : begin_fault (merged_at m i) (paired_at m i s) ≡ none) where
    pub settle-alike : (budget room : ℕ) → settle_of (merged_at m i) (paired_at m i s) budget room ≡ answer_into (paired_at m i) (settle_of m s budget room)
    unfolding settle_of
    settle-alike budget room =
        let d = or_else (budget_fault budget) (trace_fault budget room) in
        let x : Answer (Settling (List ℕ)) = answered (settle (urgent_step m) budget s) in
        let y : Answer (Settling (List ℕ)) = answered (settle (urgent_step (merged_at m i)) budget (f s)) in
        ap (λ o. refused_or (or_else o (or_else (begin_fault (merged_at m i) (f s)) d)) y) again
        ∙ ap (λ o. refused_or (or_else o d) y) begins-again
        ∙ ap (λ z. refused_or d (answered z)) (merged-settles-alike budget s ok)
        ∙ refused-into d x
        ∙ ap (λ o. answer_into f (refused_or (or_else o d) x)) (sym begins)
        ∙ ap (λ o. answer_into f (refused_or (or_else o (or_else (begin_fault m s) d)) x)) (sym before)

    pub listing-alike : (l : List ℕ) → settle_list_of (merged_at m i) (paired_at m i s) l ≡ answer_into (paired_at m i) (settle_list_of m s l)
    unfolding settle_list_of
    listing-alike l =
        let d = budget_fault (length l) in
        let x = play m 0 l s in
        let y = play (merged_at m i) 0 l (f s) in
        ap (λ o. refused_or (or_else o (or_else (begin_fault (merged_at m i) (f s)) d)) y) again
        ∙ ap (λ o. refused_or (or_else o d) y) begins-again
        ∙ ap (refused_or d) (merged-plays-alike 0 l s ok)
        ∙ refused-into d x
        ∙ ap (λ o. answer_into f (refused_or (or_else o d) x)) (sym begins)
        ∙ ap (λ o. answer_into f (refused_or (or_else o (or_else (begin_fault m s) d)) x)) (sym before)

-- read through the pairs, an answer is the same
pub same-into : (m : Model) (i : ℕ) (a : Answer (Settling (List ℕ))) → SameAnswer m i a (answer_into (paired_at m i) a)
same-into m i (answered d) = both_settle (record { verdict = refl; count = refl; resets = refl; trace = refl; end = refl })
same-into m i (refused t) = both-refuse
