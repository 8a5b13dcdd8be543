-- What a program puts into its buffer, by the ways in which its calls go.
use mathlib.Core.Path.{◌≡◌, sym, ◌∙◌, ap}
use mathlib.Core.Option.{some}
use mathlib.Core.List.{List, ◌++◌}
use Prim.Native.Nat.{ℕ, ◌+◌, ◌≤◌}
use native.Mathlib.Omega.{arith}
use lib.ListN.{length, take, drop, length-append}
use lib.Seq.{take_at, length-take-le}
use Rattle.answer.specs.Told.{Told, told}
use Rattle.answer.specs.declared.Refusal.{Refusal}
use Rattle.answering.specs.Report.{refused_line}
use Rattle.model.specs.Text.{text_of}
use Rattle.layout.specs.Image.{Image, model_of}
use Rattle.layout.proofs.RowsOfRange.{well-formed}
use Rattle.print.specs.Put.{laid}
use Rattle.tell.specs.Tell.{refused_text}
use Rattle.tell.proofs.TellLaws.{told_text}
use Rattle.steplines.specs.Run.{most_bytes}
use Rattle.steplines.proofs.Most.{refused-most}
use Rattle.printout.specs.Printed.{Printed, Filled}

pub as-printed : {text text' old new : List ℕ} {r : ℕ} → text ≡ text' → Printed text old new r → Printed text' old new r
as-printed e p = rw e at p

-- a buffer that is longer than any text has room for one
pub text-room : (old t : List ℕ) → Image t → most_bytes ≤ length old → 0 + length (text_of (model_of t)) ≤ length old
text-room old t im room = omega (arith, (well-formed t im).bytes, room)

pub line-room : (old : List ℕ) (f : Refusal) → most_bytes ≤ length old → 0 + length (refused_text f) ≤ length old
line-room old f room = omega (arith, refused-most f, room)

-- the line of what a refusal tells
pub printed-line : {old new : List ℕ} {r : ℕ} (f : Refusal) (t : Told) (text : List ℕ) → told f ≡ some t → text ≡ refused_line t
    → Printed (refused_text f) old new r → Printed text old new r
printed-line f t text e h p = as-printed (told_text f t e ∙ sym h) p

-- what is printed fills the buffer's front
pub is-filled : {text old new : List ℕ} {r : ℕ} → Printed text old new r → Filled text new r
unfolding laid
is-filled {text} {old} {new} {r} p =
    let n : r ≡ length text = omega (arith, p.put.place) in
    let z : 0 + length text ≡ length text = omega arith in
    let front : new ≡ text ++ drop (length text) old = p.put.buffer ∙ ap (λ k. text ++ drop k old) z in
    let within : r ≤ length new = omega (arith, ap length front, length-append text (drop (length text) old)) in
    record { within = within; long = sym (length-take-le r new within); bytes = ap (take r) front ∙ take_at text (drop (length text) old) r (sym n) }
