-- The printed lines by the parts in which they are put.
use mathlib.Core.Path.{◌≡◌, refl, ap}
use mathlib.Core.Option.{Option, none, some, some_inj}
use mathlib.Core.Bool.{Bool, true, false}
use mathlib.Core.List.{List, [], ◌∷◌, ◌++◌}
use Prim.Native.Nat.{ℕ}
use native.Mathlib.Omega.{arith}
use Rattle.answer.specs.Told.{Told, tell, shape_of, shape_at, same_shape, values_at, told}
use Rattle.answer.specs.declared.Refusal.{Refusal}
use Rattle.model.specs.Text.{tab, lf, decimal, joined, set_field, fields_after}
use Rattle.iosa.specs.Stepped.{Gone}
use Rattle.iosa.specs.Orders.{Settling}
use Rattle.answering.specs.Report.{step_word, stable_word, unsettled_word, refused_word, step_line, last_line, refused_line}
use Rattle.print.specs.Put.{Room, Put}
pub use Rattle.print.proofs.LaidLaws.{left-parts, part_room, part-put}
use Rattle.tell.specs.Tell.{tail_of, verdict_word, refused_text}

pub tail-parts : (r : ℕ) (s : List ℕ) → tail_of r s ≡ (tab ∷ []) ++ (set_field r ++ ((tab ∷ []) ++ (joined s ++ (lf ∷ []))))
unfolding tail_of fields_after
tail-parts r s = refl

pub step-parts : (n a : ℕ) (g : Gone (List ℕ)) → step_line n a g ≡ step_word ++ ((tab ∷ decimal n) ++ ((tab ∷ decimal a) ++ tail_of g.resets g.after))
unfolding step_line tail_of fields_after
step-parts n a g = refl

pub last-parts : (d : Settling (List ℕ)) → last_line d ≡ verdict_word d.stable ++ ((tab ∷ decimal d.steps) ++ tail_of d.resets d.state)
unfolding last_line tail_of fields_after
last-parts d = refl

pub refused-parts : (r : Refusal) → refused_text r ≡ refused_word ++ ((tab ∷ decimal r.number) ++ ((tab ∷ []) ++ (joined (values_at r.place) ++ (lf ∷ []))))
unfolding refused_text refused_line fields_after
refused-parts r = refl

-- ---- in whatever way the bytes are written
pub room_as : {a b : List ℕ} (old : List ℕ) (at : ℕ) → a ≡ b → Room old at a → Room old at b
room_as old at e h = rw e at h

pub put_as : {old : List ℕ} {at : ℕ} {a b new : List ℕ} {next : ℕ} → a ≡ b → Put old at a new next → Put old at b new next
put_as e p = rw e at p

pub verdict-stable : (b : Bool) → b ≡ true → verdict_word b ≡ stable_word
verdict-stable b e = ap verdict_word e

pub verdict-unsettled : (b : Bool) → b ≡ false → verdict_word b ≡ unsettled_word
verdict-unsettled b e = ap verdict_word e

-- ---- what a refusal tells is its line
pub told_text : (r : Refusal) (t : Told) → told r ≡ some t → refused_text r ≡ refused_line t
unfolding refused_text told
told_text r t e = go (same_shape (shape_of r.number) (shape_at r.place)) e
  where
    go : (d : Dec (shape_of r.number ≡ shape_at r.place)) → elim d as (λ _. Option Told) [
      | yes p ↦ some (tell r.number (values_at r.place))
      | no n ↦ none
    ] ≡ some t
        → refused_line (tell r.number (values_at r.place)) ≡ refused_line t
    go (yes p) e = ap refused_line (some_inj.0 e)
    go (no n) e = let z : ◌≡◌ {A = ℕ} 0 1 = cc in absurd (omega arith)
