-- What is left to print: once some steps are printed, the lines of the rest of the run.
use mathlib.Core.Path.{◌≡◌, refl, sym, ◌∙◌, ap, ap₂}
use mathlib.Core.Bool.{Bool, true, false}
use mathlib.Core.Option.{some}
use mathlib.Core.List.{List, [], ◌∷◌, ◌++◌, append_assoc}
use Prim.Native.Nat.{ℕ, ◌+◌, ◌-◌, ◌≤◌, ◌<◌}
use native.Mathlib.Omega.{arith}
use native.Mathlib.Numerals.{add-one}
use lib.ListN.{length}
use lib.Bits.{or_zero_r}
use Rattle.laws.specs.Sets.{◌∪◌}
use Rattle.answer.specs.Limits.{max_actions, max_components, max_budget}
use Rattle.answer.specs.declared.State.{State}
use Rattle.answer.specs.State.{parts_of, with_parts}
use Rattle.model.specs.Model.{Model}
use Rattle.iosa.specs.Automaton.{Conforming, Joinable}
use Rattle.iosa.specs.Step.{Went, urgent_step, lowest}
use Rattle.iosa.specs.Stepped.{Gone}
use Rattle.iosa.specs.Settle.{resting, settle}
use Rattle.iosa.specs.Orders.{Settling}
use Rattle.answering.specs.Report.{step_line, step_lines, last_line}
use Rattle.iosa.proofs.Settling.Rule.{lowest-some}
use Rattle.layout.specs.Image.{model_of}
use Rattle.layout.proofs.RowsOfRange.{well-formed}
use Rattle.moves.specs.Moves.{reset_all, after_all, moved_all, lowest_all}
use Rattle.settling.specs.Gives.{Ready}
use Rattle.settling.proofs.Plus.{plus, plus-nothing, plus_step, settle-rests, settle-out}
use Rattle.moves.proofs.Lowest.{lowest-here, lowest-nowhere}
use Rattle.settling.proofs.Reached.{Reached, reached-first, next-parts, reached-next}
use Rattle.print.specs.Put.{Room, Put}
use Rattle.print.proofs.LaidLaws.{Left, left-all}
use Rattle.tell.proofs.TellLaws.{part_room, part-put}
use Rattle.tell.specs.Tell.{gone_with, ends_with}
use Rattle.steplines.specs.Run.{most_bytes, lines_of, run_text}
use Rattle.steplines.proofs.Most.{run-most}

-- k steps with resets r are done, n are allowed, from s
unfoldable pub rest_of : Model → ℕ → ℕ → ℕ → List ℕ → List ℕ
rest_of m k r n s = step_lines m (k + 1) s (settle (urgent_step m) n s).trace ++ last_line (plus k r [] (settle (urgent_step m) n s))

pub rest_all : (m : Model) (s : List ℕ) (n : ℕ) → run_text m s n ≡ rest_of m 0 0 n s
unfolding rest_of run_text lines_of
rest_all m s n = let d = settle (urgent_step m) n s in ap (λ e. step_lines m 1 s d.trace ++ last_line e) (sym (plus-nothing d))

-- nothing is left but the last line
rest-done : (m : Model) (k r n : ℕ) (s : List ℕ) (b : Bool) → settle (urgent_step m) n s ≡ resting b s
    → rest_of m k r n s ≡ last_line (record { stable = b; steps = k; resets = r; trace = []; state = s })
unfolding rest_of step_lines plus
rest-done m k r n s b e =
    ap (λ d. step_lines m (k + 1) s d.trace ++ last_line (plus k r [] d)) e
    ∙ ap₂ (λ i q. last_line (record { stable = b; steps = i; resets = q; trace = []; state = s })) (let z : k + 0 ≡ k = omega arith in z) (or_zero_r r)

-- the line of a step, then what is left behind it
lines_step : (m : Model) (n : ℕ) (s : List ℕ) (a : ℕ) (g : Gone (List ℕ)) (l : List ℕ) → urgent_step m s a ≡ some g
    → step_lines m n s (a ∷ l) ≡ step_line n a g ++ step_lines m (n + 1) g.after l
unfolding step_lines
lines_step m n s a g l e = rw (e, step_lines) (ap (λ i. step_line n a g ++ step_lines m i g.after l) (sym (add-one n)))

last-any : (k r : ℕ) (l : List ℕ) (d : Settling (List ℕ)) → last_line (plus k r l d) ≡ last_line (plus k r [] d)
unfolding last_line plus
last-any k r l d = refl

rest-step : (m : Model) (budget k r : ℕ) (s : List ℕ) (a : ℕ) (g : Gone (List ℕ)) → k < budget
    → lowest (urgent_step m) s ≡ some (record { action = a; gone = g })
    → rest_of m k r (budget - k) s ≡ step_line (k + 1) a g ++ rest_of m (k + 1) (r ∪ g.resets) (budget - (k + 1)) g.after
unfolding rest_of plus
rest-step m budget k r s a g h e =
    let w : Went (List ℕ) = record { action = a; gone = g } in
    let p = plus_step (urgent_step m) budget k r [] s w h e in
    let d = settle (urgent_step m) (budget - (k + 1)) g.after in
    let tr : (settle (urgent_step m) (budget - k) s).trace ≡ a ∷ d.trace = ap (λ v. v.trace) p in
    ap₂ ◌++◌ (ap (step_lines m (k + 1) s) tr ∙ lines_step m (k + 1) s a g d.trace (lowest-some (urgent_step m) s w e).0)
    (ap last_line p ∙ last-any (k + 1) (r ∪ g.resets) (a ∷ []) d)
    ∙ append_assoc (step_line (k + 1) a g) (step_lines m (k + 1 + 1) g.after d.trace) (last_line (plus (k + 1) (r ∪ g.resets) [] d))

-- ---- the loop: k steps of a run from x are printed, with these resets, and cur is reached
pub record Tells (t : List ℕ) (budget : ℕ) (x : State) (old : List ℕ) (cur : State) (resets k : ℕ) (out : List ℕ) (at : ℕ) : Type 0 where
  pub within : k ≤ budget
  pub reached : Reached t x cur
  pub left : Left old 0 (run_text (model_of t) (parts_of x) budget) out at (rest_of (model_of t) k resets (budget - k) (parts_of cur))

left-same : {old : List ℕ} {at : ℕ} {whole now : List ℕ} {here : ℕ} {rest other : List ℕ} → Left old at whole now here rest → rest ≡ other
    → Left old at whole now here other
left-same l e = rw e at l

pub begins : (t : List ℕ) (budget : ℕ) (x : State) (old : List ℕ) → Ready t x → length x.parts ≡ max_components → budget ≤ max_budget
    → most_bytes ≤ length old → Tells t budget x old x 0 0 old 0
begins t budget x old r len b room =
    let m = model_of t in
    let s = parts_of x in
    let n : budget ≡ budget - 0 = omega arith in
    record {
      within = omega arith;
      reached = reached-first t x r len;
      left =
          left-same
          (left-all old 0 (run_text m s budget) (omega (
            arith,
            run-most m (well-formed t r.standing.image) r.conforming r.joinable s budget r.standing.within b,
          )))
          (rest_all m s budget ∙ ap (λ k. rest_of m 0 0 k s) n);
    }

module _ {t : List ℕ} {budget : ℕ} {x : State} {old : List ℕ} {cur : State} {resets k : ℕ} {out : List ℕ} {at : ℕ} (good : Conforming (model_of t))
    (fit : Joinable (model_of t))
    (here : Tells t budget x old cur resets k out at) (a : ℕ) (e : a ≡ lowest_all (model_of t) (parts_of cur)) where
  -- the state is stable: the last line is left
  pub ends-stable : max_actions ≤ a → Left old 0 (run_text (model_of t) (parts_of x) budget) out at (last_line (ends_with true k resets cur))
  ends-stable h =
      left-same here.left (rest-done (model_of t) k resets (budget - k) (parts_of cur) true
      (settle-rests (urgent_step (model_of t)) (budget - k) (parts_of cur)
      (lowest-nowhere (model_of t) good fit (parts_of cur) here.reached.standing.within a e h)))

  -- the budget is used up
  pub ends-unsettled : budget ≤ k → a < max_actions → Left old 0 (run_text (model_of t) (parts_of x) budget) out at (last_line (ends_with false k resets cur))
  ends-unsettled h low =
      left-same here.left (rest-done (model_of t) k resets (budget - k) (parts_of cur) false
      (settle-out (urgent_step (model_of t)) (budget - k) (parts_of cur) (record { action = a; gone = moved_all (model_of t) (parts_of cur) a }) (omega arith)
      (lowest-here (model_of t) good fit (parts_of cur) here.reached.standing.within a e low)))

  -- a step: its line is left, and then the rest of the run from the state after it
  module _ (more : k < budget) (low : a < max_actions) (next : State) (some-resets : ℕ)
      (en : next ≡ with_parts cur (after_all (model_of t) (parts_of cur) a)) (em : some-resets ≡ reset_all (model_of t) (parts_of cur) a) where
    pub step_left : Left old 0 (run_text (model_of t) (parts_of x) budget) out at
        (step_line (k + 1) a (gone_with some-resets next) ++ rest_of (model_of t) (k + 1) (resets ∪ some-resets) (budget - (k + 1)) (parts_of next))
    step_left =
        let m = model_of t in
        let new : parts_of next ≡ after_all m (parts_of cur) a = next-parts t x cur here.reached a next en in
        left-same here.left
        (rest-step m budget k resets (parts_of cur) a (moved_all m (parts_of cur) a) more
        (lowest-here m good fit (parts_of cur) here.reached.standing.within a e low)
        ∙ ap₂ (λ q l. step_line (k + 1) a (record { resets = q; after = l }) ++ rest_of m (k + 1) (resets ∪ q) (budget - (k + 1)) l) (sym em) (sym new))

    pub next-reached : Reached t x next
    next-reached = reached-next t x cur here.reached a next en

    pub step_room : Room out at (step_line (k + 1) a (gone_with some-resets next))
    step_room =
        part_room (step_line (k + 1) a (gone_with some-resets next)) (rest_of (model_of t) (k + 1) (resets ∪ some-resets) (budget - (k + 1))
        (parts_of next)) step_left

    pub step-told : (all : ℕ) {new : List ℕ} {p : ℕ} → all ≡ resets ∪ some-resets → Put out at (step_line (k + 1) a (gone_with some-resets next)) new p
        → Tells t budget x old next all (k + 1) new p
    step-told all ea q =
        record {
          within = omega arith;
          reached = next-reached;
          left =
              left-same
              (part-put (step_line (k + 1) a (gone_with some-resets next)) (rest_of (model_of t) (k + 1) (resets ∪ some-resets) (budget - (k + 1))
              (parts_of next)) step_left q)
              (ap (λ r. rest_of (model_of t) (k + 1) r (budget - (k + 1)) (parts_of next)) (sym ea));
        }
