-- What the program prints (01, "The program and its example"), said of the request line, the text's model and the product's rows.
use Rattle.std.specs.Prelude.{◌≡◌, List, [], ◌∷◌, ◌++◌, ℕ, suc, ◌≤◌, length}
use Rattle.answer.specs.Limits.{max_request}
use Rattle.answer.specs.Told.{Told, tell, Answer, answered, refused}
use Rattle.model.specs.Model.{Comp}
use Rattle.iosa.specs.Stepped.{StepsBy}
use Rattle.iosa.specs.Orders.{Settling}
use Rattle.answering.specs.Answers.{SettleAnswer, ReadAnswer}
use Rattle.answering.specs.Report.{Request, RequestFits, request_text, refused_line, step_line, last_line}

-- the bytes of these lines, one line after the other
abbrev pub lined : List (List ℕ) → List ℕ
lined [] = []
lined (l ∷ ls) = l ++ lined ls

-- "Step lines: `step`, count, action, resets, state after": the actions from s on, counted from n on, have these lines, each of a row of the product
pub data StepLines (c : Comp) (cs : List Comp) : ℕ → List ℕ → List ℕ → List (List ℕ) → Type 0 where
  no_step : {n : ℕ} {s : List ℕ} → StepLines c cs n s [] []
  one_step_line : {n a R : ℕ} {s t l : List ℕ} {ls : List (List ℕ)} → StepsBy c cs s a R t → StepLines c cs (suc n) t l ls
      → StepLines c cs n s (a ∷ l) (step_line n a (record { resets = R; after = t }) ∷ ls)

-- "Last line: `stable` or `unsettled`, steps, clocks reset, state", behind as many step lines as steps
pub record RunPrinted (c : Comp) (cs : List Comp) (s : List ℕ) (d : Settling (List ℕ)) (out : List ℕ) : Type 0 where
  pub lines : List (List ℕ)
  pub steps : StepLines c cs 1 s d.trace lines
  pub count : length lines ≡ d.steps
  pub bytes : out ≡ lined lines ++ last_line d

-- "A refusal prints one line only"
abbrev pub AnswerPrinted : Comp → List Comp → List ℕ → Answer (Settling (List ℕ)) → List ℕ → Type 0
AnswerPrinted c cs s (answered d) out = RunPrinted c cs s d out
AnswerPrinted c cs s (refused t) out = out ≡ refused_line t

-- the input is a request line, with its LF no longer than 256 bytes, and a text behind it
pub record Asks (input : List ℕ) (q : Request) (text : List ℕ) : Type 0 where
  pub fits : RequestFits q
  pub line : input ≡ request_text q ++ text
  pub short : length (request_text q) ≤ max_request

-- "9 comes first"; then what the text is refused for; then the run that was asked for
pub data Prints (input : List ℕ) : List ℕ → Type 0 where
  is9 : ((q : Request) (text : List ℕ) → Asks input q text → ⊥) → Prints input (refused_line (tell 9 (0 ∷ [])))
  no-model : {q : Request} {text : List ℕ} {t : Told} → Asks input q text → ReadAnswer text (refused t) → Prints input (refused_line t)
  runs : {q : Request} {text : List ℕ} {c : Comp} {cs : List Comp} {a : Answer (Settling (List ℕ))} {out : List ℕ}
      → Asks input q text → ReadAnswer text (answered (c ∷ cs)) → SettleAnswer c cs q.state q.budget q.budget a
      → AnswerPrinted c cs q.state a out → Prints input out
