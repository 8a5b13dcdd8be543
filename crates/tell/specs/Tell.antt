-- The parts of the printed lines (01, "The program and its example").
use Rattle.std.specs.Prelude.{Bool, cond, List, [], ◌∷◌, ℕ}
use Rattle.answer.specs.Told.{tell, values_at}
use Rattle.answer.specs.State.{parts_of}
use Rattle.answer.specs.declared.State.{State}
use Rattle.answer.specs.declared.Refusal.{Refusal}
use Rattle.model.specs.Text.{joined, set_field, fields_after}
use Rattle.iosa.specs.Stepped.{Gone}
use Rattle.iosa.specs.Orders.{Settling}
use Rattle.answering.specs.Report.{stable_word, unsettled_word, refused_line}

-- "resets, state after", "clocks reset, state": the last fields, with LF
unfoldable pub tail_of : ℕ → List ℕ → List ℕ
tail_of r s = fields_after (set_field r ∷ joined s ∷ [])

abbrev pub verdict_word : Bool → List ℕ
verdict_word b = cond b stable_word unsettled_word

abbrev pub gone_with : ℕ → State → Gone (List ℕ)
gone_with r x = record { resets = r; after = parts_of x }

-- the last line needs no trace
abbrev pub ends_with : Bool → ℕ → ℕ → State → Settling (List ℕ)
ends_with b n r x = record { stable = b; steps = n; resets = r; trace = []; state = parts_of x }

-- the line of a refusal, by its number and place
unfoldable pub refused_text : Refusal → List ℕ
refused_text r = refused_line (tell r.number (values_at r.place))
