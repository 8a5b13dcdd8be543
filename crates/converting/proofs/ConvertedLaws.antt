-- What a program prints of a conversion, by the ways in which it goes.
use mathlib.Core.Path.{◌≡◌, refl, sym, ◌∙◌, ap, subst}
use mathlib.Core.Option.{Option, none, some}
use mathlib.Core.Bool.{Bool, true, false}
use mathlib.Core.List.{List, [], ◌∷◌, ◌++◌}
use Prim.Native.Nat.{ℕ, ◌+◌, ◌≤◌}
use native.Mathlib.Omega.{arith}
use lib.ListN.{length, drop}
use lib.Dec.{ltb}
use borrow.Author.Tests.{ltb-false}
use Rattle.laws.proofs.SearchLaws.{no-some}
use Rattle.answer.specs.Limits.{max_bytes}
use Rattle.answer.specs.Told.{Told, told, tell, Answer, answered, refused, as_refused, says_written}
use Rattle.answer.specs.declared.Refusal.{Refusal}
use Rattle.answer.specs.Told.{Written}
use Rattle.std.specs.Prelude.{Ok, Err}
use Rattle.answering.specs.Report.{refused_line}
use Rattle.print.specs.Put.{laid, Put}
use Rattle.printout.specs.Printed.{Printed}
use Rattle.steplines.specs.Run.{most_bytes}
use Rattle.named.specs.Converted.{fitted, written_by, left_by, Converts}
use Rattle.converting.specs.Converting.{converted_text}

text-refused : (o : Answer (List ℕ)) (f : Told) → o ≡ refused f → converted_text o ≡ refused_line f
unfolding converted_text
text-refused o f e = rw (e, converted_text)

text-unfit : (o : Answer (List ℕ)) (t : List ℕ) (f : Told) → o ≡ answered t → fitted most_bytes t ≡ refused f → converted_text o ≡ refused_line f
unfolding converted_text
text-unfit o t f e h = rw (e, h, converted_text)

text-fit : (o : Answer (List ℕ)) (t : List ℕ) (n : ℕ) → o ≡ answered t → fitted most_bytes t ≡ answered n → converted_text o ≡ t
unfolding converted_text
text-fit o t n e h = rw (e, h, converted_text)

fits : (room : ℕ) (t : List ℕ) (n : ℕ) → fitted room t ≡ answered n → (n ≡ length t) × (length t ≤ room)
unfolding fitted
fits room t n h = go (ltb room (length t)) refl (ltb max_bytes (length t)) h
  where
    go : (b : Bool) → ltb room (length t) ≡ b → (c : Bool)
        → (elim b as (λ _. Answer ℕ) [
          | true ↦ refused (tell 24 (length t ∷ []))
          | false ↦ elim c as (λ _. Answer ℕ) [ true ↦ refused (tell 26 (0 ∷ [])) | false ↦ answered (length t) ]
        ]) ≡ answered n
        → (n ≡ length t) × (length t ≤ room)
    go true e c h = let z : ◌≡◌ {A = ℕ} 0 1 = cc in absurd (omega arith)
    go false e true h = let z : ◌≡◌ {A = ℕ} 0 1 = cc in absurd (omega arith)
    go false e false h = let z : length t ≡ n = cc in (sym z, ltb-false room (length t) e)

pub record RefusedAs (o : Answer (List ℕ)) (old new : List ℕ) (f : Refusal) : Type 0 where
  pub tells : Told
  pub says : told f ≡ some tells
  pub line : converted_text o ≡ refused_line tells
  pub same : new ≡ old

pub data Goes (o : Answer (List ℕ)) (old new : List ℕ) : Written → Type 0 where
  is-length : {k : ℕ} → Printed (converted_text o) old new k → Goes o old new (Ok k)
  is-refused : {f : Refusal} → RefusedAs o old new f → Goes o old new (Err f)

module _ (x : Answer (List ℕ)) (old new : List ℕ) (h : most_bytes ≡ length old) where
  refused-told : (f : Refusal) (τ : Told) → says_written (Err f) ≡ some (refused τ) → told f ≡ some τ
  unfolding says_written
  refused-told f τ e = go (told f) e
    where
      go : (o : Option Told) → as_refused {A = ℕ} o ≡ some (refused τ) → o ≡ some τ
      go none e = absurd (no-some refl e)
      go (some σ) e = cc

  not-both : (k : ℕ) (τ : Told) → says_written (Ok k) ≡ some (refused τ) → ⊥
  unfolding says_written
  not-both k τ e = let z : ◌≡◌ {A = ℕ} 0 1 = cc in omega arith

  not-refused : (f : Refusal) (n : ℕ) → says_written (Err f) ≡ some (answered n) → ⊥
  unfolding says_written
  not-refused f n e = go (told f) e
    where
      go : (o : Option Told) → as_refused {A = ℕ} o ≡ some (answered n) → ⊥
      go none e = no-some refl e
      go (some σ) e = let z : ◌≡◌ {A = ℕ} 0 1 = cc in omega arith

  one-length : (k n : ℕ) → says_written (Ok k) ≡ some (answered n) → k ≡ n
  unfolding says_written
  one-length k n e = cc

  put-there : (t : List ℕ) (n k : ℕ) → n ≡ length t → k ≡ n → new ≡ t ++ drop n old → Put old 0 t new k
  unfolding laid
  put-there t n k e q b = let z : n ≡ 0 + length t = omega arith in record { buffer = b ∙ ap (λ i. t ++ drop i old) z; place = q ∙ z }

  by_answer : (r : Written) (o : Answer (List ℕ)) → x ≡ o → says_written r ≡ some (written_by (length old) o) → new ≡ left_by (written_by (length old) o) o old
      → Goes x old new r
  by_answer (Ok k) (refused τ) e a b = absurd (not-both k τ a)
  by_answer (Err f) (refused τ) e a b = is-refused (record { tells = τ; says = refused-told f τ a; line = text-refused x τ e; same = b })
  by_answer r (answered t) e a b = go r (fitted (length old) t) refl a b
    where
      go : (r : Written) (v : Answer ℕ) → fitted (length old) t ≡ v → says_written r ≡ some v → new ≡ left_by v (answered t) old → Goes x old new r
      go (Ok k) (refused τ) w a b = absurd (not-both k τ a)
      go (Err f) (refused τ) w a b =
          is-refused (record { tells = τ; says = refused-told f τ a; line = text-unfit x t τ e (ap (λ n. fitted n t) h ∙ w); same = b })
      go (Err f) (answered n) w a b = absurd (not-refused f n a)
      go (Ok k) (answered n) w a b =
          let q = fits (length old) t n w in
          is-length (subst (λ u. Printed u old new k) (sym (text-fit x t n e (ap (λ n. fitted n t) h ∙ w))) (record {
            put = put-there t n k q.0
                (one-length k n a) b;
            room = q.1;
          }))

  pub goes : (r : Written) → Converts x old new r → Goes x old new r
  goes r c = by_answer r x refl c.answer c.buffer

pub length-printed : (o : Answer (List ℕ)) (old new : List ℕ) (k : ℕ) → Goes o old new (Ok k) → Printed (converted_text o) old new k
length-printed o old new k (is-length p) = p

pub refusal-there : (o : Answer (List ℕ)) (old new : List ℕ) (f : Refusal) → Goes o old new (Err f) → RefusedAs o old new f
refusal-there o old new f (is-refused p) = p
