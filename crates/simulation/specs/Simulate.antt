-- A simulation over a supply of samples (02, 4/13), as values that compute.
use Rattle.std.proofs.Math.Option.{Option, none, some}
use Rattle.std.specs.Prelude.{Bool, true, false, ◌&&◌, not, cond, List, [], ◌∷◌, ℕ, zero, suc, get_or, replicate, ℤ, pos}
use Rattle.laws.specs.Sets.{has, ◌∪◌}
use Rattle.laws.specs.Search.{is_some, least}
use Rattle.answer.specs.Limits.{max_clocks, max_budget}
use Rattle.answer.specs.Told.{tell, Answer, answered, refused, fired, quiet}
use Rattle.model.specs.Model.{Model}
use Rattle.iosa.specs.Start.{start_all, started_all}
use Rattle.iosa.specs.Step.{urgent_step}
use Rattle.iosa.specs.Settle.{settle}
use Rattle.timing.specs.Timed.{timed_from, enabling_all}

-- Where the samples come from: what clock x takes after j samples before, or nothing where it has none left; and the number of that refusal, 41 of lists
pub record Supply : Type 0 where
  pub sample : ℕ → ℕ → Option ℕ
  pub ran_out : ℕ

-- what a round ends with: the state, 64 clock values, and how many samples each clock has taken
pub record Round : Type 0 where
  pub state : List ℕ
  pub values : List ℤ
  pub taken : List ℕ

-- what f makes of each place of a list, its places counted from k on
unfoldable pub each_from : {A : Type 0} → (ℕ → A → A) → ℕ → List A → List A
each_from f k [] = []
each_from f k (z ∷ zs) = f k z ∷ each_from f (suc k) zs

abbrev pub taken_by : List ℕ → ℕ → ℕ
taken_by ts x = get_or ts x 0

-- ---- "As a round ends, each clock set or reset in it takes one sample, the next of its own list": w is the set of these clocks
-- a clock of w that has none left
unfoldable pub lacks : Supply → ℕ → List ℕ → ℕ → Bool
lacks p w ts x = has w x && not (is_some (p.sample x (taken_by ts x)))

abbrev pub sampled : Option ℕ → ℤ → ℤ
sampled none z = z
sampled (some n) z = pos n

-- the value of clock x then, where z was its value, and how many samples it has taken, where these were t
unfoldable pub fed_at : Supply → ℕ → List ℕ → ℕ → ℤ → ℤ
fed_at p w ts x z = cond (has w x) (sampled (p.sample x (taken_by ts x)) z) z

unfoldable pub counted_at : ℕ → ℕ → ℕ → ℕ
counted_at w x t = cond (has w x) (suc t) t

abbrev pub fed : Supply → ℕ → List ℕ → List ℤ → List ℕ → Round
fed p w s vs ts = record { state = s; values = each_from (fed_at p w ts) 0 vs; taken = each_from (counted_at w) 0 ts }

-- 41 "a list ran out (lowest such clock)", or the round's end in state s
unfoldable pub end_of : Supply → ℕ → List ℕ → List ℤ → List ℕ → Answer Round
end_of p w s vs ts = elim (least (lacks p w ts) max_clocks) [ some x ↦ refused (tell p.ran_out (x ∷ [])) | none ↦ answered (fed p w s vs ts) ]

-- round r settles from s, "with budget 4,096", and ends; w are the clocks set or reset in it so far. 42 "unsettled (the round)"
unfoldable pub close_of : Model → Supply → ℕ → ℕ → List ℕ → List ℤ → List ℕ → Answer Round
close_of m p r w s vs ts =
    let d = settle (urgent_step m) max_budget s in
    let e = end_of p (w ∪ d.resets) d.state vs ts in
    elim d.stable [ false ↦ refused (tell 42 (r ∷ [])) | true ↦ e ]

-- ---- the rounds
-- "others begin at 0"
unfoldable pub no_values : List ℤ
no_values = replicate max_clocks (pos 0)

unfoldable pub none_taken : List ℕ
none_taken = replicate max_clocks 0

-- "round 0 sets the starting clocks and settles at the start state"
unfoldable pub round_zero : Model → Supply → Answer Round
round_zero m p = close_of m p 0 (started_all m) (start_all m) no_values none_taken

-- a refusal, or what f makes of the value
abbrev pub and_then : {A B : Type 0} → Answer A → (A → Answer B) → Answer B
and_then (refused t) f = refused t
and_then (answered x) f = f x

-- the later rounds done, and what the last round ended with
pub record Simulation : Type 0 where
  pub rounds : ℕ
  pub last : Round

-- "each of 0 to 4,096 later rounds does a timed step and settles again": n of them after round r, which ended with q. "A quiet timed step ends it, uncounted"
unfoldable pub rounds_from : Model → Supply → ℕ → ℕ → Round → Answer Simulation
rounds_from m p zero r q = answered (record { rounds = r; last = q })
rounds_from m p (suc n) r q = and_then (timed_from m q.state q.values (enabling_all m q.state)) (λ τ. elim τ.shot [
  | quiet ↦ answered (record { rounds = r; last = q })
  | fired v a R ↦ and_then (close_of m p (suc r) R τ.state τ.values q.taken) (rounds_from m p n (suc r))
])

unfoldable pub simulate_of : Model → Supply → ℕ → Answer Simulation
simulate_of m p n = and_then (round_zero m p) (rounds_from m p n 0)
