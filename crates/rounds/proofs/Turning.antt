-- A later round, by what the timed step says.
use mathlib.Core.Path.{◌≡◌, refl, sym, ◌∙◌, ap, subst}
use mathlib.Core.Option.{none, some}
use mathlib.Core.List.{List}
use Prim.Native.Nat.{ℕ}
use lib.IntN.{ℤ}
use Rattle.std.specs.Prelude.{Some, None, IfSome, Ok, Err, IfOk}
use Rattle.answer.specs.Told.{Told, told, Answer, answered, refused, Shot, fired, quiet, shot_said}
use Rattle.answer.specs.declared.Refusal.{Refusal}
use Rattle.answer.specs.declared.State.{State}
use Rattle.answer.specs.declared.Timed.{Timed}
use Rattle.answer.specs.declared.Firing.TheVariants as OfFiring
use Rattle.answer.specs.State.{parts_of}
use Rattle.model.specs.Model.{Model}
use Rattle.timing.specs.Timed.{enabling_all, timed_from}
use Rattle.iosa.specs.TimedExactly.{Timing}
use Rattle.layout.specs.Image.{model_of}
use Rattle.layout.proofs.RowsOfRange.{well-formed}
use Rattle.firing.specs.Shots.{TimingGives, TimingAnswers, Armed}
use Rattle.simulation.specs.Simulate.{Supply, Round, close_of, and_then}
use Rattle.feed.specs.Supply.{Lent}
use Rattle.rounds.specs.declared.Stand.{Stand}
use Rattle.rounds.specs.Rounds.{Posed, Placed, Closing, Closes, later_of, Turn, Later, CloseCall, LaterCall}
use Rattle.rounds.proofs.Keeps.{Kept, shot-keeps}
use Rattle.rounds.proofs.Poses.{ticking-in, in-ticking, posed-parts, posed-with}

pub armed : (t : List ℕ) (x : State) (vs : List ℤ) → Posed t x vs → Armed t x vs
armed t x vs k = record { standing = k.ready.standing; conforming = k.ready.conforming; joinable = k.ready.joinable; ticking = k.ticking }

-- ---- what a firing says of the timed step's answer: it shot, or was quiet
pub record Shoots (a : Answer Timing) (x : State) (r : Timed) (vs : List ℤ) (s : Shot) : Type 0 where
  pub timing : Timing
  pub answer : a ≡ answered timing
  pub shot : timing.shot ≡ s
  pub gives : TimingGives timing x r vs

module _ (x : State) (was vs : List ℤ) where
  shoots-so : (a : Answer Timing) (r : Timed) → TimingAnswers a x was (Ok r) vs → (s : Shot) → shot_said r.firing ≡ s → Shoots a x r vs s
  shoots-so (answered τ) r e s h = record { timing = τ; answer = refl; shot = sym e.firing ∙ h; gives = e }
  shoots-so (refused f) r e s h = absurd e.told

  refused-so : (a : Answer Timing) (q : Refusal) → TimingAnswers a x was (Err q) vs → (f : Told) × (a ≡ refused f) × (told q ≡ some f) × (vs ≡ was)
  refused-so (answered τ) q e = absurd e
  refused-so (refused f) q e = (f, refl, e.told, e.values)

-- ---- the round
module _ (m : Model) (p : Supply) (k : ℕ) (s : List ℕ) (vs : List ℤ) (ts : List ℕ) where
  later-refused : (f : Told) → timed_from m s vs (enabling_all m s) ≡ refused f → later_of m p k s vs ts ≡ refused f
  unfolding later_of
  later-refused f e = rw (e, later_of)

  module _ (τ : Timing) (e : timed_from m s vs (enabling_all m s) ≡ answered τ) where
    later-quiet : τ.shot ≡ quiet → later_of m p k s vs ts ≡ answered none
    unfolding later_of
    later-quiet h = rw (e, later_of) (rw h)

    later-fired : (v a R : ℕ) → τ.shot ≡ fired v a R → later_of m p k s vs ts ≡ and_then (close_of m p k R τ.state τ.values ts) (λ q. answered (some q))
    unfolding later_of
    later-fired v a R h = rw (e, later_of) (rw h)

-- a round that is done, or a refusal
abbrev pub done : Closing → Turn
done (Ok x) = Ok (Some x)
done (Err q) = Err q

closes-later : (a : Answer Round) (l : Lent) (p : Supply) (was : List ℤ) (r : Closing) (at used : List ℕ) (vs : List ℤ) → Closes a l p r at used vs
    → Later (and_then a (λ q. answered (some q))) l p was (done r) at used vs
closes-later (answered q) l p was (Ok x) at used vs e = e
closes-later (answered q) l p was (Err f) at used vs e = absurd e
closes-later (refused f) l p was (Ok x) at used vs e = absurd e
closes-later (refused f) l p was (Err q) at used vs e = e

posed-later : (t : List ℕ) (vs : List ℤ) (r : Closing) → IfOk r (λ x. Posed t x vs) → IfOk (done r) (λ o. IfSome o (λ x. Posed t x vs))
posed-later t vs (Ok x) k = k
posed-later t vs (Err q) k = tt

module _ (t : List ℕ) (s : Stand) (was : List ℤ) (posed : Posed t s.state was) (vs : List ℤ) where
  abbrev step : Answer Timing
  step = timed_from (model_of t) (parts_of s.state) was (enabling_all (model_of t) (parts_of s.state))

  kept : (τ : Timing) → step ≡ answered τ → Kept (model_of t) was τ
  kept τ e =
      shot-keeps (model_of t) (well-formed t posed.ready.standing.image) posed.ready.conforming posed.ready.joinable (parts_of s.state)
      posed.ready.standing.within was (in-ticking (model_of t) was posed.ticking) τ e

  -- a clock fired
  module _ (shot : Timed) (given : TimingAnswers step s.state was (Ok shot) vs) (v a R : ℕ) (f : shot.firing ≡ OfFiring.Fired v a R) where
    hit : Shoots step s.state shot vs (fired v a R)
    hit = shoots-so s.state was vs step shot given (fired v a R) (ap shot_said f)

    hit-values : vs ≡ hit.timing.values
    hit-values = hit.gives.values

    pub fired-posed : Posed t shot.state vs
    fired-posed =
        let h = kept hit.timing hit.answer in
        posed-with t s.state was posed shot.state hit.timing.state hit.gives.state h.within vs
        (rw hit-values (ticking-in (model_of t) hit.timing.values h.ticks))

    pub later-closes : (l : Lent) (at used : List ℕ) (r : Closing) (at' used' : List ℕ) (us : List ℤ)
        → CloseCall t l (record { from = s.from; round = s.round; state = shot.state; resets = R }) at used vs r at' used' us
        → LaterCall t l s at used was (done r) at' used' us
    later-closes l at used r at' used' us c =
        let τ = hit.timing in
        let h = kept τ hit.answer in
        let parts = posed-parts t s.state was posed shot.state τ.state hit.gives.state h.within in
        let k = s.round in
        record {
          goes = λ p ts m.
              subst (λ a. Later a l p was (done r) at' used' us)
              (ap (λ u. and_then (close_of (model_of t) p k R u vs ts) (λ q. answered (some q))) parts
              ∙ ap (λ u. and_then (close_of (model_of t) p k R τ.state u ts) (λ q. answered (some q))) hit-values
              ∙ sym (later-fired (model_of t) p k (parts_of s.state) was ts τ hit.answer v a R hit.shot))
              (closes-later (close_of (model_of t) p k R (parts_of shot.state) vs ts) l p was r at' used' us (c.closes p ts m));
          placed = c.placed;
          posed = posed-later t us r c.posed;
          ticking = c.ticking;
        }

  module _ (l : Lent) (at used : List ℕ) (placed : Placed at used) where
    -- no clock waits
    pub later-rests : (shot : Timed) → TimingAnswers step s.state was (Ok shot) vs → shot.firing ≡ OfFiring.Quiet → LaterCall t l s at used was (Ok None) at used vs
    later-rests shot given f =
        let h = shoots-so s.state was vs step shot given quiet (ap shot_said f) in
        let same : vs ≡ was = h.gives.values ∙ (kept h.timing h.answer).rests h.shot in
        record {
          goes = λ p ts m.
              subst (λ a. Later a l p was (Ok None) at used vs) (sym (later-quiet (model_of t) p s.round (parts_of s.state) was ts h.timing h.answer h.shot))
              (refl, same);
          placed = placed;
          posed = tt;
          ticking = rw same posed.ticking;
        }

    -- 30, or 29, which does not arise
    pub later-told : (q : Refusal) → TimingAnswers step s.state was (Err q) vs → LaterCall t l s at used was (Err q) at used vs
    later-told q given =
        let h = refused-so s.state was vs step q given in
        record {
          goes = λ p ts m.
              subst (λ a. Later a l p was (Err q) at used vs) (sym (later-refused (model_of t) p s.round (parts_of s.state) was ts h.0 h.1)) h.2;
          placed = placed;
          posed = tt;
          ticking = rw h.3 posed.ticking;
        }
