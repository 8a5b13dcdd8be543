-- A round's end, by whether a clock lacks a sample; and the end of a round that settles, or does not.
use mathlib.Core.Path.{◌≡◌, refl, sym, ◌∙◌, ap, ap₂, subst}
use mathlib.Core.Bool.{true, false}
use mathlib.Core.Option.{Option, none, some}
use mathlib.Core.List.{List, [], ◌∷◌}
use Prim.Native.Nat.{ℕ}
use native.Mathlib.Omega.{arith}
use lib.IntN.{ℤ}
use Rattle.laws.specs.Sets.{◌∪◌}
use Rattle.laws.specs.Search.{least}
use Rattle.answer.specs.Limits.{max_clocks, max_budget}
use Rattle.std.specs.Prelude as Answered
use Rattle.std.specs.Prelude.{Some, None, Ok, Err, IfOk}
use Rattle.answer.specs.Told.{tell, told, answered, refused, stable_said}
use Rattle.answer.specs.declared.Place.TheVariants as OfPlace
use Rattle.answer.specs.declared.Settled.{Settled}
use Rattle.answer.specs.declared.Verdict.TheVariants as OfVerdict
use Rattle.answer.specs.State.{parts_of}
use Rattle.model.specs.Model.{declared}
use Rattle.iosa.specs.Product.{Within}
use Rattle.iosa.specs.Step.{urgent_step}
use Rattle.iosa.specs.Settle.{settle}
use Rattle.iosa.specs.Orders.{Settling}
use Rattle.layout.specs.Image.{model_of}
use Rattle.layout.proofs.RowsOfRange.{well-formed}
use Rattle.words.specs.Bytes.{state_of}
use Rattle.settling.specs.Gives.{SettleGives}
use Rattle.simulation.specs.Simulate.{Supply, lacks, fed, end_of, close_of}
use Rattle.feed.specs.Supply.{Lent, ran_out_of, Supplies}
use Rattle.feed.specs.Feeding.{Fed, FedCall}
use Rattle.feed.proofs.Supplied.{ran-out-told}
use Rattle.rounds.specs.declared.Stand.{Stand}
use Rattle.rounds.specs.Rounds.{Posed, Placed, Closing, Closes, EndCall, CloseCall}
use Rattle.ticks.specs.Ticks.{Ticking}
use Rattle.rounds.proofs.Keeps.{settle-keeps}
use Rattle.rounds.proofs.Poses.{posed-parts, posed-with, posed-again}

-- ---- the end
module _ (p : Supply) (w : ℕ) (s : List ℕ) (vs : List ℤ) (ts : List ℕ) where
  end-lacks : (x : ℕ) → least (lacks p w ts) max_clocks ≡ some x → end_of p w s vs ts ≡ refused (tell p.ran_out (x ∷ []))
  unfolding end_of
  end-lacks x e = rw (e, end_of)

  end-fed : least (lacks p w ts) max_clocks ≡ none → end_of p w s vs ts ≡ answered (fed p w s vs ts)
  unfolding end_of
  end-fed e = rw (e, end_of)

module _ (l : Lent) (s : Stand) (at used : List ℕ) (was : List ℤ) (c : Answered.Option ℕ) (at' used' : List ℕ) (vs : List ℤ)
    (call : FedCall l s.resets at used was c at' used' vs) where
  ends_so : (r : Closing) → IfOk r (λ x. x ≡ s.state)
      → ((p : Supply) (ts : List ℕ) → Supplies l p ts at used → s.state ≡ state_of (parts_of s.state) → (o : Option ℕ) → least (lacks p s.resets ts) max_clocks ≡ o
      → Fed o l p s.resets ts was c at' used' vs → Closes (end_of p s.resets (parts_of s.state) was ts) l p r at' used' vs)
      → EndCall l s at used was r at' used' vs
  ends_so r e by = record {
    ends = λ p ts k z. by p ts k z (least (lacks p s.resets ts) max_clocks) refl (call.fed p ts k);
    placed = record { at_count = call.at_count; used-count = call.used-count };
    state = e;
    ticking = call.ticking;
  }

  pub ends-lacking : (x : ℕ) → c ≡ Some x → (n : ℕ) → n ≡ ran_out_of l.source
      → EndCall l s at used was (Err (record { number = n; place = OfPlace.Clock x })) at' used' vs
  ends-lacking x h n en = ends_so (Err (record { number = n; place = OfPlace.Clock x })) tt by
    where
      tells : (p : Supply) → p.ran_out ≡ ran_out_of l.source → (y : ℕ) → x ≡ y
          → told (record { number = n; place = OfPlace.Clock x }) ≡ some (tell p.ran_out (y ∷ []))
      tells p ep y ey = rw (en, ep, ey) (ran-out-told l.source y)

      by : (p : Supply) (ts : List ℕ) → Supplies l p ts at used → s.state ≡ state_of (parts_of s.state) → (o : Option ℕ) → least (lacks p s.resets ts) max_clocks ≡ o
          → Fed o l p s.resets ts was c at' used' vs
          → Closes (end_of p s.resets (parts_of s.state) was ts) l p (Err (record { number = n; place = OfPlace.Clock x })) at' used' vs
      by p ts k z none q f = let g : c ≡ None = f.none_lacks in let w : ◌≡◌ {A = ℕ} 0 1 = cc in absurd (omega arith)
      by p ts k z (some y) q f =
          let same : x ≡ y = cc in
          subst (λ a. Closes a l p (Err (record { number = n; place = OfPlace.Clock x })) at' used' vs) (sym (end-lacks p s.resets (parts_of s.state) was ts y q))
          (tells p k.number y same)

  pub ends-fed : c ≡ None → EndCall l s at used was (Ok s.state) at' used' vs
  ends-fed h = ends_so (Ok s.state) refl by
    where
      by : (p : Supply) (ts : List ℕ) → Supplies l p ts at used → s.state ≡ state_of (parts_of s.state) → (o : Option ℕ) → least (lacks p s.resets ts) max_clocks ≡ o
          → Fed o l p s.resets ts was c at' used' vs → Closes (end_of p s.resets (parts_of s.state) was ts) l p (Ok s.state) at' used' vs
      by p ts k z none q f = subst (λ a. Closes a l p (Ok s.state) at' used' vs) (sym (end-fed p s.resets (parts_of s.state) was ts q)) (record {
        state = z;
        values = f.values;
        supplies = f.supplies;
      })
      by p ts k z (some y) q f = let g : c ≡ Some y = f in let w : ◌≡◌ {A = ℕ} 0 1 = cc in absurd (omega arith)

-- ---- settling, then the end
module _ (t : List ℕ) (s : Stand) (was : List ℤ) (posed : Posed t s.state was) (d : Settled)
    (given : SettleGives (model_of t) max_budget s.state d) where
  abbrev ours : Settling (List ℕ)
  ours = settle (urgent_step (model_of t)) max_budget (parts_of s.state)

  close-stable : (p : Supply) (ts : List ℕ) → ours.stable ≡ true
      → close_of (model_of t) p s.round s.resets (parts_of s.state) was ts ≡ end_of p (s.resets ∪ ours.resets) ours.state was ts
  unfolding close_of
  close-stable p ts e = rw (e, close_of)

  close-42 : (p : Supply) (ts : List ℕ) → ours.stable ≡ false → close_of (model_of t) p s.round s.resets (parts_of s.state) was ts ≡ refused (tell 42 (s.round ∷ []))
  unfolding close_of
  close-42 p ts e = rw (e, close_of)

  kept : Within (model_of t) ours.state
  kept = settle-keeps (model_of t) (well-formed t posed.ready.standing.image) posed.ready.conforming posed.ready.joinable (parts_of s.state)
      posed.ready.standing.within max_budget

  settled-posed : Posed t d.state was
  settled-posed = posed-with t s.state was posed d.state ours.state given.state kept was posed.ticking

  settled-parts : parts_of d.state ≡ ours.state
  settled-parts = posed-parts t s.state was posed d.state ours.state given.state kept

  posed-ok : (us : List ℤ) → Ticking (declared (model_of t)) us → (r : Closing) → IfOk r (λ x. x ≡ d.state) → IfOk r (λ x. Posed t x us)
  posed-ok us k (Ok x) e = posed-again t d.state x was us settled-posed e k
  posed-ok us k (Err q) e = tt

  pub closes-stable : (l : Lent) (at used : List ℕ) → d.verdict ≡ OfVerdict.Stable → (R : ℕ) → R ≡ s.resets ∪ d.resets → (r : Closing) (at' used' : List ℕ) (vs : List ℤ)
      → EndCall l (record { from = s.from; round = s.round; state = d.state; resets = R }) at used was r at' used' vs → CloseCall t l s at used was r at' used' vs
  closes-stable l at used v R er r at' used' vs e =
      let st : ours.stable ≡ true = sym given.verdict ∙ ap stable_said v in
      let rs : R ≡ s.resets ∪ ours.resets = er ∙ ap (λ n. s.resets ∪ n) given.resets in
      let ticks = e.ticking (declared (model_of t)) posed.ticking in
      record {
        closes = λ p ts m.
            subst (λ a. Closes a l p r at' used' vs)
            (ap₂ (λ n u. end_of p n u was ts) rs settled-parts ∙ sym (close-stable p ts st))
            (e.ends p ts m settled-posed.zeros);
        placed = e.placed;
        posed = posed-ok vs ticks r e.state;
        ticking = ticks;
      }

  pub closes-42 : (l : Lent) (at used : List ℕ) → d.verdict ≡ OfVerdict.Unsettled → Placed at used
      → CloseCall t l s at used was (Err (record { number = 42; place = OfPlace.Index s.round })) at used was
  unfolding told
  closes-42 l at used v c =
      let st : ours.stable ≡ false = sym given.verdict ∙ ap stable_said v in
      record {
        closes = λ p ts m.
            subst (λ a. Closes a l p (Err (record { number = 42; place = OfPlace.Index s.round })) at used was) (sym (close-42 p ts st)) refl;
        placed = c;
        posed = tt;
        ticking = posed.ticking;
      }
