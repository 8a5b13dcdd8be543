-- No report is longer than what `report` asks of a buffer.
use mathlib.Core.Path.{◌≡◌, refl}
use mathlib.Core.Logic.{⊎_elim}
use mathlib.Core.Bool.{Bool, true, false, not, cond}
use mathlib.Core.Option.{Option, none, some}
use mathlib.Core.List.{List, [], ◌∷◌}
use Prim.Native.Nat.{ℕ, zero, suc, ◌≤◌}
use native.Mathlib.Omega.{arith}
use lib.ListN.{length}
use lib.Dec.{eqb, ltb}
use Rattle.laws.specs.Search.{when, or_else, map_some}
use Rattle.answer.specs.Limits.{max_bytes, max_budget}
use Rattle.answer.specs.Told.{Told, tell, Answer, answered, refused}
use Rattle.model.specs.Model.{Comp, Model}
use Rattle.model.specs.WellFormed.{WellFormed}
use Rattle.iosa.specs.Faults.{FaultAt, guarded, repeated, lacking, doubled, inactive, Fault, inside, output-shared, clock-shared, urgency-differs, Clash, clash}
use Rattle.iosa.specs.Checks.{confluent_of}
use Rattle.model.specs.Reading.{Got, Scan, is, stops, Entry, Progress, current, entry, fault_of, column_of, stop_column, first_column, outside, unnamed}
use Rattle.model.specs.Reading.{states_by, take_in, finish, lines_from, at_start, read_of}
use Rattle.iosa.specs.Step.{state_fault, in_range, urgent_step}
use Rattle.iosa.specs.Settle.{settle, unreached_from, reach_fault, begin_fault, budget_fault, trace_fault, settle_of}
use Rattle.iosa.specs.Orders.{Settling}
use Rattle.answering.specs.Report.{Request, request_of, refused_line, answer_lines, run_lines, report_of}
use Rattle.iosa.proofs.Acceptance.Accepted.{accepted-exactly}
use Rattle.iosa.proofs.Acceptance.Clashes.{unconfluent-exactly}
use Rattle.iosa.proofs.Acceptance.ConfluentExactly.{confluent-accepted}
use Rattle.model.proofs.Reading.ReadOfText.{read-exactly}
use Rattle.iosa.proofs.Settling.Called.{settle-answers-exactly}
use Rattle.steplines.specs.Run.{most_bytes, lines_of, run_text}
use Rattle.steplines.proofs.Most.{Brief, refusal-most, run-most}

-- ---- the places of refusals have few values
abbrev BriefIf : Option Told → Type 0
BriefIf none = Unit {0}
BriefIf (some t) = Brief t

abbrev BriefOr : {A : Type 0} → Answer A → Type 0
BriefOr (answered x) = Unit {0}
BriefOr (refused t) = Brief t

when-brief : (b : Bool) (t : Told) → Brief t → BriefIf (when b t)
when-brief true t h = h
when-brief false t h = tt

or-brief : (o p : Option Told) → BriefIf o → BriefIf p → BriefIf (or_else o p)
or-brief none p h k = k
or-brief (some t) p h k = h

unless-brief : {A : Type 0} (o : Option Told) (x : A) → BriefIf o → BriefOr {A = A} (elim o as (λ _. Answer A) [ some t ↦ refused t | none ↦ answered x ])
unless-brief none x h = tt
unless-brief (some t) x h = h

-- 8
finish-brief : (cs : List Comp) → BriefOr (finish cs)
finish-brief [] = omega arith
finish-brief (c ∷ cs) = tt

-- 2 to 7: the line, and a column at most
column-brief : (c : Comp) (f : ℕ) (e : Entry) → length (column_of c f e) ≤ 1
unfolding column_of
column-brief c f e = go (eqb f 4) (eqb f 5)
  where
    go : (a b : Bool) → length (cond a (first_column (outside (states_by c e)) e ∷ []) (cond b (first_column (unnamed c) e ∷ []) [])) ≤ 1
    go true b = omega arith
    go false true = omega arith
    go false false = omega arith

lines-brief : (k n : ℕ) (p : Progress) (bs : List ℕ) → BriefOr (lines_from k n p bs)
unfolding lines_from
lines-brief zero n p bs = finish-brief p.comps
lines-brief (suc k) n p [] = finish-brief p.comps
lines-brief (suc k) n p (b ∷ bs) = go (lines-brief k (suc n)) (entry (b ∷ bs))
  where
    next : Got Entry → Progress
    next g = record { comps = take_in p.comps g.value; last = some g.value }

    one : ((q : Progress) (cs : List ℕ) → BriefOr (lines_from k (suc n) q cs)) → (g : Got Entry) (f : Option ℕ)
        → BriefOr {A = Model} (elim f as (λ _. Answer Model) [
          | some f ↦ refused (tell f (n ∷ column_of (current p) f g.value))
          | none ↦ lines_from k (suc n)
              (next g) g.rest
        ])
    one ih g (some f) = omega (arith, column-brief (current p) f g.value)
    one ih g none = ih (next g) g.rest

    go : ((q : Progress) (cs : List ℕ) → BriefOr (lines_from k (suc n) q cs)) → (o : Scan Entry)
        → BriefOr {A = Model} (elim o as (λ _. Answer Model) [
          | stops cs ↦ refused (tell 2 (n ∷ stop_column (b ∷ bs) cs ∷ []))
          | is g ↦ elim (fault_of p g.value) [
            | some f ↦ refused (tell f (n ∷ column_of (current p) f g.value))
            | none ↦ lines_from k (suc n) (next g)
                g.rest
          ]
        ])
    go ih (stops cs) = omega arith
    go ih (is g) = one ih g (fault_of p g.value)

-- 1
read-brief : (bs : List ℕ) → BriefOr (read_of bs)
unfolding read_of
read-brief bs = go (ltb max_bytes (length bs))
  where
    go : (b : Bool) → BriefOr {A = Model} (elim b as (λ _. Answer Model) [ true ↦ refused (tell 1 (0 ∷ [])) | false ↦ lines_from (length bs) 1 at_start bs ])
    go true = omega arith
    go false = lines-brief (length bs) 1 at_start bs

-- 10 to 18
part-brief : {c : Comp} {i n : ℕ} {q : List ℕ} {t : Told} → FaultAt c i n q t → Brief t
part-brief (guarded b) = omega arith
part-brief (repeated b) = omega arith
part-brief (lacking b) = omega arith
part-brief (doubled b) = omega arith
part-brief (inactive b) = omega arith

fault-brief : {m : Model} {q : List ℕ} {t : Told} → Fault m q t → Brief t
fault-brief (inside h f) = part-brief f
fault-brief (output-shared b) = omega arith
fault-brief (clock-shared b) = omega arith
fault-brief (urgency-differs b) = omega arith

clash-brief : {m : Model} {q : List ℕ} {t : Told} → Clash m q t → Brief t
clash-brief (clash h b) = omega arith

confluent-brief : (m : Model) → WellFormed m → BriefIf (confluent_of m)
confluent-brief m w = go (confluent_of m) refl
  where
    go : (o : Option Told) → confluent_of m ≡ o → BriefIf o
    go none e = tt
    go (some t) e = ⊎_elim (λ f. fault-brief f.here) (λ f. clash-brief f.1.here) ((unconfluent-exactly m w t).0 e)

-- 19
reach-brief : (m : Model) (s : List ℕ) → BriefIf (reach_fault m s)
unfolding reach_fault
reach-brief m s = go (unreached_from 0 m s)
  where
    go : (o : Option ℕ) → BriefIf (map_some (λ i. tell 19 (i ∷ [])) o)
    go none = tt
    go (some i) = omega arith

-- 21, 19, 22, 24
settle-brief : (m : Model) → WellFormed m → (s : List ℕ) (n : ℕ) → BriefOr (settle_of m s n n)
unfolding settle_of begin_fault state_fault budget_fault trace_fault
settle-brief m w s n =
    unless-brief (or_else (confluent_of m) (or_else (begin_fault m s) (or_else (budget_fault n) (trace_fault n n)))) (settle (urgent_step m) n s)
    (or-brief (confluent_of m) _ (confluent-brief m w)
    (or-brief (begin_fault m s) _ (or-brief (state_fault m s) _ (when-brief (not (in_range m s)) (tell 21 (0 ∷ [])) (omega arith)) (reach-brief m s))
    (or-brief (budget_fault n) _ (when-brief (ltb max_budget n) (tell 22 (0 ∷ [])) (omega arith)) (when-brief (ltb n n) (tell 24 (n ∷ [])) (omega arith)))))

-- ---- the report by its cases
answer-most : (m : Model) → WellFormed m → (s : List ℕ) (n : ℕ) → length (answer_lines m s (settle_of m s n n)) ≤ most_bytes
unfolding answer_lines run_text lines_of
answer-most m w s n = go (settle_of m s n n) refl (settle-brief m w s n)
  where
    go : (o : Answer (Settling (List ℕ))) → settle_of m s n n ≡ o → BriefOr o → length (answer_lines m s o) ≤ most_bytes
    go (refused t) e h = refusal-most t h
    go (answered d) e h =
        let p = (settle-answers-exactly m s n n d).0 e in
        let k = (accepted-exactly m w).0 (confluent-accepted m p.0) in
        rw (← p.4) (run-most m w k.0 k.1 s n p.1.0 p.2)

pub no-report-is-longer : (input : List ℕ) → length (report_of input) ≤ most_bytes
unfolding report_of run_lines
no-report-is-longer input = go (request_of input)
  where
    text : (q : Request) (bs : List ℕ) (o : Answer Model) → read_of bs ≡ o → BriefOr o → length (run_lines q o) ≤ most_bytes
    text q bs (refused t) e h = refusal-most t h
    text q bs (answered m) e h = answer-most m ((read-exactly bs m).0 e).0 q.state q.budget

    go : (o : Option (Got Request)) → length {A = ℕ}
        (elim o as (λ _. List ℕ) [ none ↦ refused_line (tell 9 (0 ∷ [])) | some g ↦ run_lines g.value (read_of g.rest) ]) ≤ most_bytes
    go none = refusal-most (tell 9 (0 ∷ [])) (omega arith)
    go (some g) = text g.value g.rest (read_of g.rest) refl (read-brief g.rest)
