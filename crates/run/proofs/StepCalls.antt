-- A step's answer, branch by branch, is what its call promises.
use mathlib.Core.Path.{◌≡◌, ◌∙◌, ap}
use mathlib.Core.Bool.{true, false}
use mathlib.Core.Option.{some}
use mathlib.Core.List.{List, [], ◌∷◌}
use Prim.Native.Nat.{ℕ}
use Rattle.answer.specs.Told.{tell, told, says_checked, Answer, answered, refused}
use Rattle.answer.specs.Told.{Checked}
use Rattle.std.specs.Prelude.{Result, Ok, Err}
use Rattle.answer.specs.declared.Refusal.{Refusal}
use Rattle.answer.specs.declared.State.{State}
use Rattle.answer.specs.declared.Stepped.{Stepped}
use Rattle.answer.specs.State.{parts_of}
use Rattle.model.specs.Model.{Model}
use Rattle.iosa.specs.Checks.{accept_of}
use Rattle.iosa.specs.Step.{in_range, step_of, step_by_of}
use Rattle.iosa.specs.Stepped.{Stepping}
use Rattle.layout.specs.Image.{model_of}
use Rattle.settling.specs.Gives.{StepAnswers, StepGives, by_rule_of, by_name_of}
use Rattle.table.specs.OnTable.{on_table, check_on}
use Rattle.table.proofs.OnTableLaws.{on-image}
use Rattle.table.proofs.CheckedLaws.{call-refuses}
use Rattle.run.specs.Refusals.{whole_at}
use Rattle.run.specs.Calls.{StepCall, StepByCall}
use Rattle.run.proofs.Answers.{step-answers, step-refused, named-refused, step-wrong, named-wrong, step-goes, named-goes}
use Rattle.run.proofs.Ready.{Passed, refused-by}

module _ (t : List ℕ) (x : State) where
  -- what a call answers, once it is known to be that of its model
  says : (call : Model → Answer Stepping) (w : Answer Stepping) (r : Result Stepped Refusal) → on_table t call ≡ w → StepAnswers w x r
      → StepAnswers (on_table t call) x r
  says call w r e g = step-answers (on_table t call) w x r e g

  module _ (ch : Checked) (pre : says_checked ch ≡ some (check_on t accept_of)) (q : Refusal) (is : ch ≡ Err q) where
    pub step-is-refused : StepCall t x (Err q)
    step-is-refused =
        let p = refused-by t accept_of ch pre q is in
        record {
          answer =
              says (λ m. step_of m (parts_of x)) (refused p.0) (Err q)
              (call-refuses t accept_of (λ m. step_of m (parts_of x)) (λ m f e. step-refused m (parts_of x) f e) p.0 p.2) p.1;
        }

    pub named-is-refused : (a : ℕ) → StepByCall t x a (Err q)
    named-is-refused a =
        let p = refused-by t accept_of ch pre q is in
        record {
          answer =
              says (λ m. step_by_of m (parts_of x) a) (refused p.0) (Err q) (call-refuses t accept_of (λ m. step_by_of m (parts_of x) a)
              (λ m f e. named-refused m (parts_of x) a f e) p.0 p.2) p.1;
        }

  module _ (ok : Passed t accept_of) where
    pub step-is-wrong : in_range (model_of t) (parts_of x) ≡ false → (q : Refusal) → q ≡ whole_at 21 → StepCall t x (Err q)
    unfolding told
    step-is-wrong h q k =
        record {
          answer = says (λ m. step_of m (parts_of x)) (refused (tell 21 (0 ∷ []))) (Err q)
              (on-image t (λ m. step_of m (parts_of x)) ok.image ∙ step-wrong (model_of t) (parts_of x) ok.none h) (ap told k);
        }

    pub named-is-wrong : (a : ℕ) → in_range (model_of t) (parts_of x) ≡ false → (q : Refusal) → q ≡ whole_at 21 → StepByCall t x a (Err q)
    unfolding told
    named-is-wrong a h q k =
        record {
          answer = says (λ m. step_by_of m (parts_of x) a) (refused (tell 21 (0 ∷ []))) (Err q)
              (on-image t (λ m. step_by_of m (parts_of x) a) ok.image ∙ named-wrong (model_of t) (parts_of x) ok.none a h) (ap told k);
        }

    pub step-is-taken : in_range (model_of t) (parts_of x) ≡ true → (r : Stepped) → StepGives (by_rule_of (model_of t) (parts_of x)) x r → StepCall t x (Ok r)
    step-is-taken h r g =
        record {
          answer = says (λ m. step_of m (parts_of x)) (answered (by_rule_of (model_of t) (parts_of x))) (Ok r)
              (on-image t (λ m. step_of m (parts_of x)) ok.image ∙ step-goes (model_of t) (parts_of x) ok.none h) g;
        }

    pub named-is-taken : (a : ℕ) → in_range (model_of t) (parts_of x) ≡ true → (r : Result Stepped Refusal)
        → StepAnswers (by_name_of (model_of t) (parts_of x) a) x r → StepByCall t x a r
    named-is-taken a h r g =
        record {
          answer = says (λ m. step_by_of m (parts_of x) a) (by_name_of (model_of t) (parts_of x) a) r
              (on-image t (λ m. step_by_of m (parts_of x) a) ok.image ∙ named-goes (model_of t) (parts_of x) ok.none a h) g;
        }
