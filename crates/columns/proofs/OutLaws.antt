-- The first number that is no member, looked for byte by byte: one turn of the search.
use mathlib.Core.Path.{◌≡◌, refl, sym, ◌∙◌, ap}
use mathlib.Core.Bool.{true, false}
use mathlib.Core.List.{List, []}
use Prim.Native.Nat.{ℕ, zero, suc, ◌+◌, ◌-◌, ◌≤◌, ◌<◌}
use native.Mathlib.Nat.{le_refl}
use native.Mathlib.Omega.{arith}
use lib.ListN.{length, get_or, drop, length-drop, drop_of_length-le}
use lib.Seq.{drop-drop}
use borrow.Author.Tests.{eq-eqb, ne_eqb}
use Rattle.model.specs.Text.{comma, dash}
use Rattle.model.specs.Reading.{stops, got, number}
use Rattle.fields.proofs.ScanLaws.{front, byte-here, byte-other, byte-end}
use Rattle.fields.proofs.NumberLaws.{number-shortens}
use Rattle.columns.specs.Columns.{member_of, behind_one, numbers_out, resets_out}

nothing_left : (s k : ℕ) → numbers_out s k [] ≡ []
unfolding numbers_out number
nothing_left s zero = refl
nothing_left s (suc k) = refl

no_number : (s k : ℕ) (bs cs : List ℕ) → number bs ≡ stops cs → numbers_out s k bs ≡ bs
unfolding numbers_out
no_number s zero bs cs e = refl
no_number s (suc k) bs cs e = rw (e, numbers_out)

no_member : (s k : ℕ) (bs cs : List ℕ) (n : ℕ) → number bs ≡ got n cs → member_of s n ≡ false → numbers_out s k bs ≡ bs
unfolding numbers_out
no_member s zero bs cs n e h = refl
no_member s (suc k) bs cs n e h = rw (e, numbers_out) (rw h)

-- what is still to look through
pub record Looking (s : ℕ) (t : List ℕ) (at i : ℕ) : Type 0 where
  pub turns : ℕ
  pub enough : length (drop i t) ≤ turns
  pub same : numbers_out s turns (drop i t) ≡ numbers_out s (length (drop at t)) (drop at t)

pub looking-first : (s : ℕ) (t : List ℕ) (at : ℕ) → Looking s t at at
looking-first s t at = record { turns = length (drop at t); enough = le_refl (length (drop at t)); same = refl }

module _ (s : ℕ) (t : List ℕ) (at i : ℕ) (l : Looking s t at i) where
  pub out-end : length t ≤ i → drop i t ≡ numbers_out s (length (drop at t)) (drop at t)
  out-end h = let e = drop_of_length-le t h in e ∙ sym (nothing_left s l.turns) ∙ ap (numbers_out s l.turns) (sym e) ∙ l.same

  pub out-stops : (cs : List ℕ) → number (drop i t) ≡ stops cs → drop i t ≡ numbers_out s (length (drop at t)) (drop at t)
  out-stops cs e = sym (no_number s l.turns (drop i t) cs e) ∙ l.same

  module _ (n next : ℕ) (read : number (drop i t) ≡ got n (drop next t)) where
    pub out-here : member_of s n ≡ false → drop i t ≡ numbers_out s (length (drop at t)) (drop at t)
    out-here h = sym (no_member s l.turns (drop i t) (drop next t) n read h) ∙ l.same

    shorter : length (drop next t) < length (drop i t)
    shorter = number-shortens (drop i t) (record { value = n; rest = drop next t }) read

    module _ (h : member_of s n ≡ true) where
      on : (k : ℕ) → numbers_out s (suc k) (drop i t) ≡ behind_one (numbers_out s k) (drop next t)
      unfolding numbers_out
      on k = rw (read, numbers_out) (rw h)

      -- the number of turns is no matter: there is one for this number
      turn : (k : ℕ) → l.turns ≡ k → (j : ℕ) × (k ≡ suc j)
      turn zero e = absurd (omega (arith, l.enough, shorter))
      turn (suc j) e = (j, refl)

      step : (j : ℕ) × (length (drop next t) ≤ j) × (behind_one (numbers_out s j) (drop next t) ≡ numbers_out s (length (drop at t)) (drop at t))
      step =
          let k = turn l.turns refl in
          (k.0, omega (arith, l.enough, shorter, k.1), sym (on k.0) ∙ ap (λ i₀. numbers_out s i₀ (drop i t)) (sym k.1) ∙ l.same)

      pub out-last : length t ≤ next → drop next t ≡ numbers_out s (length (drop at t)) (drop at t)
      out-last h = let e = drop_of_length-le t h in e ∙ ap (λ b. behind_one (numbers_out s step.0) b) (sym e) ∙ step.2

      pub out-behind : next < length t → (get_or t next 0 ≡ comma → ⊥) → drop (next + 1) t ≡ numbers_out s (length (drop at t)) (drop at t)
      out-behind k d = sym (rw (front t next k) (rw (ne_eqb (get_or t next 0) comma d))) ∙ step.2

      pub out-more : next < length t → get_or t next 0 ≡ comma → Looking s t at (next + 1)
      out-more k d = record {
        turns = step.0;
        enough = omega (arith, step.1, length-drop next t, length-drop (next + 1) t);
        same = sym (rw (front t next k) (rw (eq-eqb (get_or t next 0) comma d))) ∙ step.2;
      }

      pub out-less : next < length t → length t - (next + 1) < length t - i
      out-less k = omega (arith, shorter, length-drop next t, length-drop i t)

-- ---- a resets field
pub out-dash : (s : ℕ) (t : List ℕ) (at : ℕ) → at < length t → get_or t at 0 ≡ dash → drop (at + 2) t ≡ resets_out s (drop at t)
unfolding resets_out
out-dash s t at h e = sym (rw (byte-here t at dash h e, resets_out) (drop-drop 2 at t))

pub out-other : (s : ℕ) (t : List ℕ) (at : ℕ) → at < length t → (get_or t at 0 ≡ dash → ⊥)
    → numbers_out s (length (drop at t)) (drop at t) ≡ resets_out s (drop at t)
unfolding resets_out
out-other s t at h e = rw (byte-other t at dash h e, resets_out)

pub out-past : (s : ℕ) (t : List ℕ) (at : ℕ) → length t ≤ at → drop at t ≡ resets_out s (drop at t)
unfolding resets_out
out-past s t at h =
    let e = drop_of_length-le t h in
    rw (byte-end t at dash h, resets_out) (e ∙ sym (nothing_left s (length (drop at t))) ∙ ap (numbers_out s (length (drop at t))) (sym e))
