-- A call that writes a converted text meets its contract exactly where it answers as the order of its refusals has it, 24 before 26, and leaves that in
-- the buffer.
use mathlib.Core.Path.{◌≡◌, refl, sym, ◌∙◌, ap, subst}
use mathlib.Core.Logic.{◌↔◌}
use mathlib.Core.Option.{some}
use mathlib.Core.List.{List, [], ◌∷◌}
use Prim.Native.Nat.{ℕ, ◌≤◌, ◌<◌}
use native.Mathlib.Omega.{arith}
use native.Mathlib.Decide.{dec_lt}
use lib.ListN.{length}
use borrow.Author.Tests.{lt-ltb, le-ltb}
use Rattle.answer.specs.Limits.{max_bytes}
use Rattle.answer.specs.Told.{tell, Answer, answered, refused}
use Rattle.answer.specs.Told.{Written}
use Rattle.iosa.specs.InOrder.{Leaves}
use Rattle.iosa.specs.Lent.{Fills}
use Rattle.named.specs.Converted.{fitted, left_by, Converts}
use Rattle.names.specs.NamesExactly.{Fitting, is-refused, is24, is26, is-fine}

-- ---- the text u in a buffer of so many bytes
pub fitted_short : (bytes : ℕ) (u : List ℕ) → bytes < length u → fitted bytes u ≡ refused (tell 24 (length u ∷ []))
unfolding fitted
fitted_short bytes u h = rw (lt-ltb bytes (length u) h, fitted)

pub fitted-long : (bytes : ℕ) (u : List ℕ) → length u ≤ bytes → max_bytes < length u → fitted bytes u ≡ refused (tell 26 (0 ∷ []))
unfolding fitted
fitted-long bytes u h k = rw (le-ltb bytes (length u) h, lt-ltb max_bytes (length u) k, fitted)

pub fitted-fine : (bytes : ℕ) (u : List ℕ) → length u ≤ bytes → length u ≤ max_bytes → fitted bytes u ≡ answered (length u)
unfolding fitted
fitted-fine bytes u h k = rw (le-ltb bytes (length u) h, le-ltb max_bytes (length u) k, fitted)

-- ---- o is what is to be written, or why nothing is, and R says the same
module _ (o : Answer (List ℕ)) (R : Answer (List ℕ) → Type 0) (exact : (a : Answer (List ℕ)) → (o ≡ a) ↔ R a) (old new : List ℕ) (r : Written) where
  abbrev Left : Type 0
  Left = Leaves (Fitting R (length old)) (Fills old new r)

  there : (v : Answer (List ℕ)) → o ≡ v → Converts v old new r → Left
  there (refused f) e c = record { answer = refused f; right = is-refused ((exact (refused f)).0 e); left = record { refusal = c.answer; buffer = c.buffer } }
  there (answered u) e c =
      elim (dec_lt (length old) (length u)) [
        | yes h ↦ short h
        | no h ↦ elim (dec_lt max_bytes (length u)) [
          | yes k ↦ long (omega arith) k
          | no k ↦ fine
              (omega arith) (omega arith)
        ]
      ]
    where
      short : length old < length u → Left
      short h =
          let w = fitted_short (length old) u h in
          record {
            answer = refused (tell 24 (length u ∷ []));
            right = is24 ((exact (answered u)).0 e) h;
            left = record { refusal = c.answer ∙ ap some w; buffer = c.buffer ∙ ap (λ a. left_by a (answered u) old) w };
          }

      long : length u ≤ length old → max_bytes < length u → Left
      long h k =
          let w = fitted-long (length old) u h k in
          record {
            answer = refused (tell 26 (0 ∷ []));
            right = is26 ((exact (answered u)).0 e) h k;
            left = record { refusal = c.answer ∙ ap some w; buffer = c.buffer ∙ ap (λ a. left_by a (answered u) old) w };
          }

      fine : length u ≤ length old → length u ≤ max_bytes → Left
      fine h k =
          let w = fitted-fine (length old) u h k in
          record {
            answer = answered u;
            right = is-fine ((exact (answered u)).0 e) h k;
            left = record { length-told = c.answer ∙ ap some w; buffer = c.buffer ∙ ap (λ a. left_by a (answered u) old) w };
          }

  alike : {v : Answer (List ℕ)} → R v → Converts v old new r → Converts o old new r
  alike {v} x c = subst (λ a. Converts a old new r) (sym ((exact v).1 x)) c

  back : {a : Answer (List ℕ)} → Fitting R (length old) a → Fills old new r a → Converts o old new r
  back (is-refused x) l = alike x (record { answer = l.refusal; buffer = l.buffer })
  back (is24 {u = u} x h) l =
      let w = sym (fitted_short (length old) u h) in
      alike x (record { answer = l.refusal ∙ ap some w; buffer = l.buffer ∙ ap (λ a. left_by a (answered u) old) w })
  back (is26 {u = u} x h k) l =
      let w = sym (fitted-long (length old) u h k) in
      alike x (record { answer = l.refusal ∙ ap some w; buffer = l.buffer ∙ ap (λ a. left_by a (answered u) old) w })
  back (is-fine {u = u} x h k) l =
      let w = sym (fitted-fine (length old) u h k) in
      alike x (record { answer = l.length-told ∙ ap some w; buffer = l.buffer ∙ ap (λ a. left_by a (answered u) old) w })

  pub converts-exactly : Converts o old new r ↔ Left
  converts-exactly = (there o refl, λ l. back l.right l.left)
