-- A buffer that is long enough for every explanation is filled with what is printed, and its length is answered.
use borrow.Author.Rules.{rules}
use mathlib.Core.Path.{◌≡◌, refl, sym, ◌∙◌, ap}
use mathlib.Core.Option.{Option, none, some}
use mathlib.Core.List.{List, ◌++◌}
use Prim.Native.Nat.{ℕ, ◌≤◌}
use native.Mathlib.Omega.{arith}
use borrow.Author.Tests.{le-ltb}
use lib.ListN.{length, take, drop, length-append}
use lib.Seq.{take_at, length-take-le}
use Rattle.answer.specs.Told.{Told, Answer, answered, told, as_refused, says_written}
use Rattle.answer.specs.declared.Refusal.{Refusal}
use Rattle.answer.specs.Told.{Written}
use Rattle.std.specs.Prelude.{Ok, Err, IsOk}
use Rattle.whys.specs.Explanation.{explanation_of}
use Rattle.explaining.specs.Longest.{explanation_bytes}
use Rattle.explain.specs.Explain.{in_room, text_explained, length_in, buffer_with, ExplainCall}
use Rattle.printout.specs.Printed.{Filled}

module _ (input old new : List ℕ) (r : Written) (long : explanation_bytes ≡ length old) (g : ExplainCall input old new r) where
  abbrev text : List ℕ
  text = explanation_of input

  given : text_explained input old ≡ answered text
  unfolding text_explained in_room
  given = rw (le-ltb (length old) explanation_bytes (omega (arith, long)))

  length-told : says_written r ≡ some (answered (length text))
  length-told = g.answer ∙ ap (λ a. some (length_in a)) given

  front : new ≡ text ++ drop (length text) old
  front = g.buffer ∙ ap (λ a. buffer_with a old) given

  pub is-filled : (k : ℕ) → r ≡ Ok k → Filled text new k
  unfolding says_written
  is-filled k e =
      let w : ◌≡◌ {A = Option (Answer ℕ)} (some (answered k)) (some (answered (length text))) = ap says_written (sym e) ∙ length-told in
      let n : k ≡ length text = cc in
      let within : k ≤ length new = omega (arith, n, ap length front, length-append text (drop (length text) old)) in
      record { within = within; long = sym (length-take-le k new within); bytes = ap (take k) front ∙ take_at text _ k (sym n) }

  never-refused : (f : Refusal) → r ≡ Err f → ⊥
  unfolding says_written
  never-refused f e = go (told f) (ap says_written (sym e) ∙ length-told)
    where
      go : (t : Option Told) → as_refused t ≡ some (answered (length text)) → ⊥
      go none h = let z : ◌≡◌ {A = ℕ} 0 1 = cc in omega arith
      go (some t) h = let z : ◌≡◌ {A = ℕ} 0 1 = cc in omega arith

  pub is-answered : IsOk r
  is-answered = go r refl
    where
      go : (q : Written) → r ≡ q → IsOk q
      go (Ok n) e = search rules
      go (Err f) e = absurd (never-refused f e)
