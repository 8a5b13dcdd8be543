-- What each call answers of a model (01, "Refusal numbers": the order of each call's refusals), in the terms of document 000. Here c, cs is the model: its first component and the others.
use Rattle.std.specs.Prelude.{◌≡◌, List, [], ◌∷◌, ℕ, ◌≤◌, ◌<◌, length, ℤ}
use Rattle.answer.specs.Limits.{max_budget, max_bytes}
use Rattle.answer.specs.Told.{tell, Answer, answered, refused}
use Rattle.model.specs.Model.{Comp, Model}
use Rattle.model.specs.Text.{text_of}
use Rattle.model.specs.WellFormed.{WellFormed}
use Rattle.model.specs.Faulty.{LineFaultAt}
use Rattle.iosa.specs.Faults.{FirstUnreached}
use Rattle.iosa.specs.Automaton.{UrgentRow, Stable}
use Rattle.iosa.specs.Product.{product, state_of, Within, Reached}
use Rattle.iosa.specs.Stepped.{StepsByRule, StepsByName, Stepping}
use Rattle.iosa.specs.Orders.{Called, CalledByList, NotEnabledAt, Settling}
use Rattle.iosa.specs.TimedExactly.{Waits, InTicks, BelowZero, Shares, Timing, Shoots}
use Rattle.merged.specs.MergedAs.{MergedAnswer}
use Rattle.iosa.specs.InOrder.{Check, ◌▹◌, Gives, needs, room, no_clock, accepted, conforms, joinable, confluent}

-- nothing more is answered
abbrev pub Fine : Answer (Unit {0}) → Type 0
Fine = Gives (λ _. Unit {0})

-- "10 to 14 for each component in turn; then 15 to 17"
abbrev pub AcceptAnswer : Comp → List Comp → Answer (Unit {0}) → Type 0
AcceptAnswer c cs = accepted (c ∷ cs) ▹ Fine

-- "one call for a component's own conditions", which "takes an index and gives 25 if there is none" (02, 10/13)
abbrev pub ComponentAnswer : ℕ → Comp → List Comp → Answer (Unit {0}) → Type 0
ComponentAnswer i c cs = needs 25 (i < length (c ∷ cs)) ▹ conforms (c ∷ cs) i ▹ Fine

-- "another for the compatibility of several" (02, 10/13)
abbrev pub CompatibleAnswer : Comp → List Comp → Answer (Unit {0}) → Type 0
CompatibleAnswer c cs = joinable (c ∷ cs) ▹ Fine

-- "then 18 where .. the confluence check is called"
abbrev pub ConfluentAnswer : Comp → List Comp → Answer (Unit {0}) → Type 0
ConfluentAnswer c cs = accepted (c ∷ cs) ▹ confluent (c ∷ cs) ▹ Fine

-- 21 "state of wrong length or range"
abbrev pub state_ok : Comp → List Comp → List ℕ → Check
state_ok c cs s = needs 21 (Within (c ∷ cs) s)

-- "One step, by our rule .. needs no 18"
abbrev pub StepAnswer : Comp → List Comp → List ℕ → Answer Stepping → Type 0
StepAnswer c cs s = accepted (c ∷ cs) ▹ state_ok c cs s ▹ Gives (StepsByRule c cs s)

-- an urgent output a of the product leaves the composed state
abbrev pub Enabled : Comp → List Comp → List ℕ → ℕ → Type 0
Enabled c cs s a = (C : ℕ) × (R : ℕ) × (y : (product c cs).State) × UrgentRow (product c cs) (state_of c cs s) C a R y

-- "or by a named action"; "a named action not enabled is 23 at 0"
abbrev pub StepByAnswer : Comp → List Comp → List ℕ → ℕ → Answer Stepping → Type 0
StepByAnswer c cs s a = accepted (c ∷ cs) ▹ state_ok c cs s ▹ needs 23 (Enabled c cs s a) ▹ Gives (StepsByName c cs s a)

-- 19 "component, a part not reachable": "Settling, also by list, accepts a composed state only if each part is such a state"
abbrev pub parts_ok : Comp → List Comp → List ℕ → Check
parts_ok c cs s = record { Refuses = λ t. (i : ℕ) × FirstUnreached (c ∷ cs) s i × (t ≡ tell 19 (i ∷ [])); Passes = Reached (c ∷ cs) s }

-- 19 "directly after 21"; 22 "budget or list over 4,096"; 24 "trace shorter than the budget"
abbrev pub SettleAnswer : Comp → List Comp → List ℕ → ℕ → ℕ → Answer (Settling (List ℕ)) → Type 0
SettleAnswer c cs s budget trace =
    accepted (c ∷ cs) ▹ confluent (c ∷ cs) ▹ state_ok c cs s ▹ parts_ok c cs s ▹ needs 22 (budget ≤ max_budget) ▹ room budget trace ▹ Gives (Called c cs s budget)

-- 23 at the first listed action that is not enabled, or the list is a series
pub data ListAnswer (c : Comp) (cs : List Comp) (s l : List ℕ) : Answer (Settling (List ℕ)) → Type 0 where
  is23 : {i : ℕ} → NotEnabledAt (product c cs) (state_of c cs s) l i → ListAnswer c cs s l (refused (tell 23 (i ∷ [])))
  is-series : {d : Settling (List ℕ)} → CalledByList c cs s l d → ListAnswer c cs s l (answered d)

abbrev pub SettleListAnswer : Comp → List Comp → List ℕ → List ℕ → Answer (Settling (List ℕ)) → Type 0
SettleListAnswer c cs s l = accepted (c ∷ cs) ▹ confluent (c ∷ cs) ▹ state_ok c cs s ▹ parts_ok c cs s ▹ needs 22 (length l ≤ max_budget) ▹ ListAnswer c cs s l

-- "as `accept`", then 21, 27, 28, 29, 30
abbrev pub TimedStepAnswer : Comp → List Comp → List ℕ → List ℤ → Answer Timing → Type 0
TimedStepAnswer c cs s vs =
    accepted (c ∷ cs) ▹ state_ok c cs s ▹ needs 27 (Stable (product c cs) (state_of c cs s)) ▹ needs 28 (InTicks (c ∷ cs) vs)
    ▹ no_clock 29 (BelowZero (Waits c cs s) vs) ▹ no_clock 30 (Shares (Waits c cs s) vs) ▹ Gives (Shoots c cs s vs)

-- "as `accept`", then 24, 25, 26: a second table of so many bytes, and the bytes that it needs
abbrev pub MergeCallAnswer : Comp → List Comp → ℕ → ℕ → ℕ → Answer Model → Type 0
MergeCallAnswer c cs i needed bytes = accepted (c ∷ cs) ▹ room needed bytes ▹ MergedAnswer (c ∷ cs) i

-- ---- text
-- "1; lines in file order, within a line 2 to 7; 8": or the one model whose text this is
pub data ReadAnswer (t : List ℕ) : Answer Model → Type 0 where
  is1 : max_bytes < length t → ReadAnswer t (refused (tell 1 (0 ∷ [])))
  is-fault : {n k : ℕ} {column : List ℕ} → LineFaultAt t n k column → ReadAnswer t (refused (tell n (k ∷ column)))
  is8 : t ≡ [] → ReadAnswer t (refused (tell 8 (0 ∷ [])))
  is-text : {m : Model} → WellFormed m → text_of m ≡ t → ReadAnswer t (answered m)

-- reading, as a check before what is done with the model
abbrev pub readable : List ℕ → Check
readable t = record { Refuses = λ f. ReadAnswer t (refused f); Passes = (m : Model) × ReadAnswer t (answered m) }

-- "then 24": a table of so many bytes, and the bytes that it needs
abbrev pub ReadCallAnswer : List ℕ → ℕ → ℕ → Answer Model → Type 0
ReadCallAnswer t needed bytes = readable t ▹ room needed bytes ▹ Gives (λ m. ReadAnswer t (answered m))

-- "Writing needs 20 and 24 only": the model's one text, in a buffer of so many bytes
abbrev pub WriteAnswer : ℕ → Comp → List Comp → Answer (List ℕ) → Type 0
WriteAnswer bytes c cs = room (length (text_of (c ∷ cs))) bytes ▹ Gives (λ text. text ≡ text_of (c ∷ cs))
