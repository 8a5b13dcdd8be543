-- What a call answers that writes a converted text: its refusal, 24, 26, or the text.
use mathlib.Core.Path.{◌≡◌, refl, sym, ◌∙◌, ap, subst}
use mathlib.Core.Option.{some}
use mathlib.Core.List.{List, [], ◌∷◌, ◌++◌}
use Prim.Native.Nat.{ℕ, zero, suc, ◌+◌, ◌≤◌, ◌<◌}
use native.Mathlib.Omega.{arith}
use lib.ListN.{length, drop, get_or, replicate}
use borrow.Author.Tests.{lt-ltb, le-ltb}
use Rattle.answer.specs.Limits.{max_bytes}
use Rattle.answer.specs.Told.{Told, told, tell, Answer, answered, refused, as_refused, says_written}
use Rattle.answer.specs.declared.Refusal.{Refusal}
use Rattle.answer.specs.declared.Place.TheVariants.{Whole, Bytes}
use Rattle.std.specs.Prelude.{Ok, Err}
use Rattle.print.specs.Put.{laid, Put}
use Rattle.named.specs.NamedText.{lines_text}
use Rattle.named.specs.ReadNamed.{Read, read_named}
use Rattle.named.specs.Converted.{to_numbers, fitted, left_by, Converts}
use Rattle.namelaws.specs.Sheets.{Refuses}

pub is-refused : (o : Answer (List ℕ)) (old : List ℕ) (f : Refusal) (τ : Told) → told f ≡ some τ → o ≡ refused τ → Converts o old old (Err f)
unfolding says_written
is-refused o old f τ h e = subst (λ o. Converts o old old (Err f)) (sym e) (record { answer = ap as_refused h; buffer = refl })

-- the text t is to be written
module _ (o : Answer (List ℕ)) (t old : List ℕ) (e : o ≡ answered t) where
  pub no_room : (n : ℕ) → n ≡ length t → length old < n → Converts o old old (Err (record { number = 24; place = Bytes n }))
  unfolding says_written told fitted
  no_room n q h =
      let w : fitted (length old) t ≡ refused (tell 24 (length t ∷ [])) = rw (lt-ltb (length old) (length t) (omega arith), fitted) in
      subst (λ o. Converts o old old (Err (record { number = 24; place = Bytes n }))) (sym e)
      (record { answer = ap (λ i. some (refused (tell 24 (i ∷ [])))) q ∙ ap some (sym w); buffer = ap (λ a. left_by a (answered t) old) (sym w) })

  pub too_long : (n : ℕ) → n ≡ length t → n ≤ length old → max_bytes < n → Converts o old old (Err (record { number = 26; place = Whole }))
  unfolding says_written told fitted
  too_long n q h k =
      let w : fitted (length old) t ≡ refused (tell 26 (0 ∷ [])) = rw (le-ltb (length old) (length t) (omega arith), lt-ltb max_bytes (length t) (omega arith), fitted) in
      subst (λ o. Converts o old old (Err (record { number = 26; place = Whole }))) (sym e)
      (record { answer = ap some (sym w); buffer = ap (λ a. left_by a (answered t) old) (sym w) })

  pub written : (n : ℕ) → n ≡ length t → n ≤ length old → n ≤ max_bytes → (new : List ℕ) (r : ℕ) → Put old 0 t new r → Converts o old new (Ok r)
  unfolding says_written fitted laid
  written n q h k new r p =
      let w : fitted (length old) t ≡ answered (length t) = rw (le-ltb (length old) (length t) (omega arith), le-ltb max_bytes (length t) (omega arith), fitted) in
      let z : 0 + length t ≡ length t = omega arith in
      let r-is : r ≡ length t = p.place ∙ z in
      subst (λ o. Converts o old new (Ok r)) (sym e)
      (record {
        answer = ap (λ i. some (answered i)) r-is ∙ ap some (sym w);
        buffer = p.buffer ∙ ap (λ i. t ++ drop i old) z ∙ ap (λ a. left_by a (answered t) old) (sym w);
      })

-- ---- new to old
pub to-refused : (t : List ℕ) (f : Refusal) (r : Refuses (read_named t) f) → to_numbers t ≡ refused r.tells
unfolding to_numbers
to-refused t f r = rw (r.same, to_numbers)

pub to-answered : (t : List ℕ) (it : Read) → read_named t ≡ answered it → to_numbers t ≡ answered (lines_text it.lines)
unfolding to_numbers
to-answered t it e = rw (e, to_numbers)

-- nothing was kept yet
pub zeros : (n a : ℕ) → get_or {A = ℕ} (replicate n 0) a 0 ≡ 0
zeros zero a = refl
zeros (suc n) zero = refl
zeros (suc n) (suc a) = zeros n a
