-- No report is longer than most_bytes: no line is wider than its widest, and there are no more steps than the largest budget.
use mathlib.Core.Path.{◌≡◌, ap}
use mathlib.Core.Bool.{Bool, true, false}
use mathlib.Core.Logic.{by_cases}
use mathlib.Core.List.{List, [], ◌∷◌, ◌++◌}
use Prim.Native.Nat.{ℕ, suc, ◌+◌, ◌*◌, ◌-◌, ◌≤◌, ◌<◌}
use native.Mathlib.Decide.{dec_lt}
use native.Mathlib.Omega.{arith}
use lib.ListN.{length, length-append}
use Rattle.answer.specs.Limits.{max_components, max_states, max_actions, max_budget}
use Rattle.answer.specs.Told.{Told, tell, values_at}
use Rattle.answer.specs.declared.Place.{Place}
use Rattle.answer.specs.declared.Place.TheVariants.{Whole, Line, Row, Bytes, Index, Clock, Component, Cell, Clash, SharedAction, SharedClock, Spot}
use Rattle.answer.specs.declared.Place.TheVariants.{Condition, Action}
use Rattle.answer.specs.declared.Refusal.{Refusal}
use Rattle.model.specs.Model.{Model, comp_at}
use Rattle.iosa.specs.Automaton.{Conforming, Joinable}
use Rattle.iosa.specs.Product.{Within}
use Rattle.model.specs.WellFormed.{WellComp, WellFormed}
use Rattle.model.specs.Text.{tab, lf, comma, decimal, joined, set_field, fields_after}
use Rattle.iosa.specs.Step.{urgent_step}
use Rattle.iosa.specs.Stepped.{Gone}
use Rattle.iosa.specs.Settle.{settle}
use Rattle.iosa.specs.Orders.{Settling}
use Rattle.answering.specs.Report.{refused_line, step_line, step_lines, last_line}
use Rattle.model.proofs.Reading.Joined.{joined-none, joined-one, joined-more}
use Rattle.iosa.proofs.Settling.Descent.{Keeps}
use Rattle.iosa.proofs.Settling.Parts.{within-length}
use Rattle.iosa.proofs.Settling.Rule.{Bounded, LowRun, stay, low, settle-ran}
use Rattle.iosa.proofs.Settling.Steps.{steps-keep-the-range, steps-are-bounded}
use Rattle.measure.specs.Measure.{set_bytes}
use Rattle.measure.proofs.Fields.{width-1, width-2, width-3, width-4, width-most, width-below, set-most}
use Rattle.tell.specs.Tell.{tail_of, verdict_word, refused_text}
use Rattle.tell.proofs.TellLaws.{tail-parts, step-parts, last-parts}
use Rattle.steplines.specs.Run.{state_digits, state_bytes, step_bytes, last_bytes, most_bytes, lines_of, run_text}

-- ---- one line
-- the numbers of a state are those of a component's states
abbrev pub Small : List ℕ → Type 0
Small [] = Unit {0}
Small (n ∷ ns) = (n < max_states) × Small ns

width-state : (n : ℕ) → n < max_states → length (decimal n) ≤ state_digits
width-state n h = width-below (state_digits - 1) n (omega arith)

-- so many digits and a comma for each, but the last
states-most : (n : ℕ) (ns : List ℕ) → Small (n ∷ ns) → suc (length (joined (n ∷ ns))) ≤ (1 + state_digits) * length (n ∷ ns)
states-most n [] h = rw (joined-one n) (omega (arith, length-append (decimal n) [], width-state n h.0))
states-most n (m ∷ ns) h =
    rw (joined-more n m ns) (omega (arith, length-append (decimal n) (comma ∷ joined (m ∷ ns)), width-state n h.0, states-most m ns h.1))

state-most : (s : List ℕ) → Small s → length s ≤ max_components → suc (length (joined s)) ≤ state_bytes
state-most [] h few = rw joined-none (omega arith)
state-most (n ∷ ns) h few = omega (arith, states-most n ns h)

tail-most : (r : ℕ) (s : List ℕ) → Small s → length s ≤ max_components → length (tail_of r s) ≤ 1 + set_bytes + state_bytes + 1
tail-most r s h few =
    omega (
      arith,
      ap length (tail-parts r s),
      length-append (set_field r) ((tab ∷ []) ++ (joined s ++ (lf ∷ []))),
      length-append (joined s) (lf ∷ []),
      set-most r,
      state-most s h few,
    )

step-most : (n a : ℕ) (g : Gone (List ℕ)) → a < max_actions → Small g.after → length g.after ≤ max_components
    → length (step_line n a g) + 4 ≤ step_bytes + length (decimal n)
step-most n a g below h few =
    omega (
      arith,
      ap length (step-parts n a g),
      length-append (decimal n) ((tab ∷ decimal a) ++ tail_of g.resets g.after),
      length-append (decimal a) (tail_of g.resets g.after),
      width-below 1 a (omega arith),
      tail-most g.resets g.after h few,
    )

verdict-most : (b : Bool) → length (verdict_word b) ≤ 9
verdict-most true = omega arith
verdict-most false = omega arith

last-most : (d : Settling (List ℕ)) → Small d.state → length d.state ≤ max_components → length (last_line d) + 4 ≤ last_bytes + length (decimal d.steps)
last-most d h few =
    omega (
      arith,
      ap length (last-parts d),
      length-append (verdict_word d.stable) ((tab ∷ decimal d.steps) ++ tail_of d.resets d.state),
      length-append (decimal d.steps) (tail_of d.resets d.state),
      verdict-most d.stable,
      tail-most d.resets d.state h few,
    )

-- ---- the line of a refusal
joined-most : (ns : List ℕ) → length (joined ns) ≤ 6 * length ns
joined-most [] = rw joined-none (omega arith)
joined-most (n ∷ []) = rw (joined-one n) (omega (arith, length-append (decimal n) [], width-most n))
joined-most (n ∷ m ∷ ns) = rw (joined-more n m ns) (omega (arith, length-append (decimal n) (comma ∷ joined (m ∷ ns)), width-most n, joined-most (m ∷ ns)))

-- a place has at most four values
abbrev pub Brief : Told → Type 0
Brief t = length t.place ≤ 4

-- `refused`, a number, and four more with their commas
pub refusal-short : (t : Told) → Brief t → length (refused_line t) ≤ 40
unfolding refused_line fields_after
refusal-short t h =
    omega (
      arith,
      length-append (decimal t.number) (tab ∷ (joined t.place ++ (lf ∷ []))),
      length-append (joined t.place) (lf ∷ []),
      width-most t.number,
      joined-most t.place,
    )

pub refusal-most : (t : Told) → Brief t → length (refused_line t) ≤ most_bytes
refusal-most t h = omega (arith, refusal-short t h)

values-few : (p : Place) → length (values_at p) ≤ 4
values-few Whole = omega arith
values-few (Line n) = omega arith
values-few (Row n) = omega arith
values-few (Bytes n) = omega arith
values-few (Index n) = omega arith
values-few (Clock x) = omega arith
values-few (Component i) = omega arith
values-few (Cell i s a) = omega arith
values-few (Clash i s a b) = omega arith
values-few (SharedAction a i j) = omega arith
values-few (SharedClock x i j) = omega arith
values-few (Spot n k) = omega arith
values-few (Condition n) = omega arith
values-few (Action a) = omega arith

pub refused-short : (r : Refusal) → length (refused_text r) ≤ 40
unfolding refused_text
refused-short r = refusal-short (tell r.number (values_at r.place)) (values-few r.place)

pub refused-most : (r : Refusal) → length (refused_text r) ≤ most_bytes
refused-most r = omega (arith, refused-short r)

-- ---- the digits of the counts
-- of the numbers below n, those below b
unfoldable lacks : ℕ → ℕ → ℕ
lacks b n = n - (n - b)

lacks-next : (b n : ℕ) → n < b → lacks b (suc n) ≡ suc (lacks b n)
unfolding lacks
lacks-next b n h = omega arith

lacks_rest : (b n : ℕ) → b ≤ n → lacks b (suc n) ≡ lacks b n
unfolding lacks
lacks_rest b n h = omega arith

lacks-all : (b n : ℕ) → b ≤ n → lacks b n ≡ b
unfolding lacks
lacks-all b n h = omega arith

one : (b : ℕ) → lacks b 1 ≤ 1
unfolding lacks
one b = omega arith

-- the digits that the numbers below n lack to four each
abbrev spared : ℕ → ℕ
spared n = lacks 10 n + lacks 100 n + lacks 1000 n

count-width : (n : ℕ) → n < 10000 → length (decimal n) + spared (suc n) ≤ 4 + spared n
count-width n h =
    by_cases (dec_lt n 10) (λ a. omega (arith, width-1 n a, lacks-next 10 n a, lacks-next 100 n (omega arith), lacks-next 1000 n (omega arith))) (λ a.
    by_cases (dec_lt n 100) (λ b. omega (
      arith,
      width-2 n (omega arith) b,
      lacks_rest 10 n (omega arith),
      lacks-next 100 n b,
      lacks-next 1000 n (omega arith),
    )) (λ b.
    by_cases (dec_lt n 1000) (λ c. omega (
      arith,
      width-3 n (omega arith) c,
      lacks_rest 10 n (omega arith),
      lacks_rest 100 n (omega arith),
      lacks-next 1000 n c,
    )) (λ c.
    omega (arith, width-4 n (omega arith) h, lacks_rest 10 n (omega arith), lacks_rest 100 n (omega arith), lacks_rest 1000 n (omega arith)))))

width-count : (n : ℕ) → n < 10000 → length (decimal n) ≤ 4
width-count n h = width-below 3 n h

-- the most that k lines of steps have
lines-bytes : (k : ℕ) → k ≤ max_budget → step_bytes * k + spared 1 + last_bytes ≤ most_bytes + spared (1 + k)
lines-bytes k h =
    by_cases (dec_lt k 1000) (λ b. omega (arith, one 10, one 100, one 1000)) (λ b.
    omega (arith, one 10, one 100, one 1000, lacks-all 10 (1 + k) (omega arith), lacks-all 100 (1 + k) (omega arith), lacks-all 1000 (1 + k) (omega arith)))

-- ---- the lines of a run
-- the states of a model within its limits
small : (m : Model) → ((i : ℕ) → i < length m → WellComp (comp_at m i)) → (s : List ℕ) → Within m s → Small s
small [] f [] w = w
small [] f (s ∷ ss) w = absurd w
small (c ∷ cs) f [] w = absurd w
small (c ∷ cs) f (s ∷ ss) w = (omega (arith, w.0, (f 0 (omega arith)).states), small cs (λ i h. f (suc i) (omega arith)) ss w.1)

module _ (m : Model) (well : WellFormed m) (keeps : Keeps (urgent_step m) (Within m)) (bounded : Bounded (urgent_step m)) where
  fits : (s : List ℕ) → Within m s → length s ≤ max_components
  fits s w = omega (arith, within-length m s w, well.components)

  lines-most : (n : ℕ) {s u l : List ℕ} {r : ℕ} → LowRun (urgent_step m) s l r u → Within m s → n + length l ≤ 10000
      → length (step_lines m n s l) + spared (n + length l) ≤ step_bytes * length l + spared n
  unfolding step_lines
  lines-most n stay w h = let z : n + 0 ≡ n = omega arith in rw z (omega arith)
  lines-most n (low {l = l} a g e f more) w h =
      let v = keeps _ a g w e in
      let z : n + suc (length l) ≡ suc n + length l = omega arith in
      rw (e, step_lines, z) (omega (
        arith,
        length-append (step_line n a g) (step_lines m (suc n) g.after l),
        step-most n a g (omega (arith, bounded _ a g e)) (small m well.each g.after v) (fits g.after v),
        count-width n (omega arith),
        lines-most (suc n) more v (omega arith),
      ))

  ends-within : {s u : List ℕ} {l : List ℕ} {r : ℕ} → LowRun (urgent_step m) s l r u → Within m s → Within m u
  ends-within stay w = w
  ends-within (low a g e f more) w = ends-within more (keeps _ a g w e)

  run_fits : (s : List ℕ) (n : ℕ) → Within m s → n ≤ max_budget → length (run_text m s n) ≤ most_bytes
  unfolding run_text lines_of
  run_fits s n w b =
      let d = settle (urgent_step m) n s in
      let p = settle-ran (urgent_step m) bounded n s in
      let v = ends-within p.run w in
      omega (
        arith,
        length-append (step_lines m 1 s d.trace) (last_line d),
        lines-most 1 p.run w (omega (arith, p.steps, p.within)),
        lines-bytes (length d.trace) (omega (arith, p.steps, p.within)),
        last-most d (small m well.each d.state v) (fits d.state v),
        width-count d.steps (omega (arith, p.within)),
      )

-- every run of an accepted model fits
pub run-most : (m : Model) → WellFormed m → Conforming m → Joinable m → (s : List ℕ) (n : ℕ) → Within m s → n ≤ max_budget → length (run_text m s n) ≤ most_bytes
run-most [] well good fit s n w b = absurd (omega (arith, well.some))
run-most (c ∷ cs) well good fit s n w b = run_fits (c ∷ cs) well (steps-keep-the-range c cs well good fit) (steps-are-bounded c cs well good fit) s n w b
