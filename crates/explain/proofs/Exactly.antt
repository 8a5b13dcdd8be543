-- The contracts of `explain` and `explain_table` say exactly what is printed of a text, or of the text of a table's model.
use mathlib.Core.Path.{◌≡◌, refl, sym, ◌∙◌}
use mathlib.Core.Logic.{◌↔◌}
use mathlib.Core.Bool.{Bool, true, false, cond}
use mathlib.Core.Option.{Option}
use mathlib.Core.List.{List, [], ◌∷◌}
use Prim.Native.Nat.{ℕ}
use lib.ListN.{length}
use lib.Dec.{ltb}
use Rattle.laws.specs.Search.{when}
use Rattle.answer.specs.Told.{Told, tell, Answer, answered, refused}
use Rattle.answer.specs.Told.{Written}
use Rattle.model.specs.Model.{Comp}
use Rattle.model.specs.WellFormed.{WellFormed}
use Rattle.model.specs.Text.{text_of}
use Rattle.iosa.specs.InOrder.{◌▹◌, Gives, room}
use Rattle.iosa.specs.Lent.{Fills}
use Rattle.iosa.specs.Checks.{accept_of}
use Rattle.model.proofs.Reading.ReadOfText.{read-of-text}
use Rattle.answering.proofs.Answers.InOrder.{refused_or, either, check-exactly, gives-exactly, leaves-exactly, room-decided}
use Rattle.answering.proofs.Answers.Models.{check-accepted}
use Rattle.table.proofs.OnImageExactly.{on-table-leaves}
use Rattle.whys.specs.Explanation.{Explains, explain_model, explanation_of}
use Rattle.whys.proofs.Explained.{explained-exactly}
use Rattle.explaining.specs.Longest.{explanation_bytes}
use Rattle.explain.specs.Explain.{in_room, explain_in, text_explained, table_explained, Puts, ExplainCall, ExplainTableCall}
use Rattle.explain.specs.ExplainExactly.{longest_explanation, ExplainExactly, ExplainTableAnswer, ExplainTableExactly}
use Rattle.explain.proofs.Called.{read-lines}

-- what a call leaves in a buffer
left-exactly : (a : Answer (List ℕ)) (old new : List ℕ) (r : Written) → Puts a old new r ↔ Fills old new r a
left-exactly (answered bytes) old new r = (
  λ p. record { length-told = p.answer; buffer = p.buffer },
  λ f. record { answer = f.length-told; buffer = f.buffer },
)
left-exactly (refused t) old new r = (
  λ p. record { refusal = p.answer; buffer = p.buffer },
  λ f. record { answer = f.refusal; buffer = f.buffer },
)

-- 24, then what is printed
short : ℕ → Option Told
short bytes = when (ltb bytes explanation_bytes) (tell 24 (explanation_bytes ∷ []))

in-room : (bytes : ℕ) (x : List ℕ) → in_room bytes x ≡ refused_or (short bytes) (answered x)
unfolding in_room short
in-room bytes x = go (ltb bytes explanation_bytes)
  where
    go : (b : Bool) → ◌≡◌ {A = Answer (List ℕ)} (cond b (refused (tell 24 (explanation_bytes ∷ []))) (answered x))
        (refused_or (when b (tell 24 (explanation_bytes ∷ []))) (answered x))
    go true = refl
    go false = refl

module _ (bytes : ℕ) (text x : List ℕ) (e : x ≡ explanation_of text) where
  after-room : (a : Answer (List ℕ)) → (refused_or (short bytes) (answered x) ≡ a) ↔ (room longest_explanation bytes ▹ Gives (Explains text)) a
  unfolding short
  after-room =
      check-exactly (room longest_explanation bytes) _ (room-decided longest_explanation bytes) (answered x) (Gives (Explains text)) (λ p.
      gives-exactly x (Explains text) (λ y. (λ h. (explained-exactly text y).0 (sym e ∙ h), λ h. e ∙ (explained-exactly text y).1 h)))

  pub room-exactly : (a : Answer (List ℕ)) → (in_room bytes x ≡ a) ↔ (room longest_explanation bytes ▹ Gives (Explains text)) a
  room-exactly a = rw (in-room bytes x) (after-room a)

-- ---- a text
pub explain-answers-exactly : (text old new : List ℕ) (r : Written) → ExplainCall text old new r ↔ ExplainExactly text old new r
unfolding text_explained
explain-answers-exactly text old new r =
    let k = room-exactly (length old) text (explanation_of text) refl in
    let e = leaves-exactly (text_explained text old) (room longest_explanation (length old) ▹ Gives (Explains text)) (Fills old new r) k in
    let f = left-exactly (text_explained text old) old new r in
    (λ g. e.0 (f.0 g), λ g. f.1 (e.1 g))

-- ---- a table
model-exactly : (bytes : ℕ) (c : Comp) (cs : List Comp) → WellFormed (c ∷ cs) → (a : Answer (List ℕ))
    → (explain_in bytes (c ∷ cs) ≡ a) ↔ ExplainTableAnswer bytes c cs a
unfolding explain_in
model-exactly bytes c cs w a =
    let m = c ∷ cs in
    let x = in_room bytes (explain_model m) in
    let e = read-lines (text_of m) m (read-of-text m w) in
    let k = check-accepted m w x (room longest_explanation bytes ▹ Gives (Explains (text_of m))) (λ p. room-exactly bytes (text_of m) (explain_model m) e) a in
    rw (either (accept_of m) x) k

pub explain_table-answers-exactly : (t old new : List ℕ) (r : Written) → ExplainTableCall t old new r ↔ ExplainTableExactly t old new r
unfolding table_explained
explain_table-answers-exactly t old new r =
    let e = on-table-leaves t (explain_in (length old)) (ExplainTableAnswer (length old)) (model-exactly (length old)) (Fills old new r) in
    let f = left-exactly (table_explained t old) old new r in
    (λ g. e.0 (f.0 g), λ g. f.1 (e.1 g))
