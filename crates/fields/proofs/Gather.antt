-- The loops over further numbers, each behind a comma: what is kept so far, with the numbers from here on, is what is kept of all.
use mathlib.Core.Path.{◌≡◌, refl, sym, ◌∙◌, ap}
use mathlib.Core.List.{List, [], ◌∷◌}
use Prim.Native.Nat.{ℕ, ◌+◌, ◌-◌, ◌≤◌, ◌<◌}
use native.Mathlib.Nat.{le_refl}
use native.Mathlib.Omega.{arith}
use lib.ListN.{length, get_or, drop, length-drop}
use Rattle.model.specs.Text.{comma}
use Rattle.model.specs.Reading.{Scan, stops, got, number, more_numbers}
use Rattle.fields.specs.declared.Cursor.{Cursor}
use Rattle.std.specs.Prelude.{Result, Ok, Err}
use Rattle.fields.specs.Fields.{got_number}
use Rattle.fields.specs.Resets.{valued}
use Rattle.fields.proofs.NumberLaws.{number-shortens, numbers-end, numbers-other, numbers-missing, numbers_more}

-- what is kept of all the numbers from a place on
abbrev pub kept : {A : Type 0} → (A → List ℕ → A) → List ℕ → A → ℕ → Scan A
kept all t s at = valued (all s) (more_numbers (length (drop at t)) (drop at t))

pub record Gathered {A : Type 0} (all : A → List ℕ → A) (t : List ℕ) (s₀ : A) (at₀ : ℕ) (s : A) (at : ℕ) : Type 0 where
  pub turns : ℕ
  pub enough : length (drop at t) ≤ turns
  pub same : valued (all s) (more_numbers turns (drop at t)) ≡ kept all t s₀ at₀

module _ {A : Type 0} (with : A → ℕ → A) (all : A → List ℕ → A) (nothing : (s : A) → all s [] ≡ s) (one : (s : A) (n : ℕ) (ns : List ℕ)
    → all s (n ∷ ns) ≡ all (with s n) ns)
    (t : List ℕ) (s₀ : A) (at₀ : ℕ) where
  pub gathered_none : Gathered all t s₀ at₀ s₀ at₀
  gathered_none = record { turns = length (drop at₀ t); enough = le_refl (length (drop at₀ t)); same = refl }

  module _ (s : A) (at : ℕ) (g : Gathered all t s₀ at₀ s at) where
    pub gathered-end : length t ≤ at → got s (drop at t) ≡ kept all t s₀ at₀
    gathered-end h = sym (numbers-end with all nothing one t s at g.turns h) ∙ g.same

    module _ (h : at < length t) where
      pub gathered-other : (get_or t at 0 ≡ comma → ⊥) → got s (drop at t) ≡ kept all t s₀ at₀
      gathered-other e = sym (numbers-other with all nothing one t s at g.turns h e) ∙ g.same

      -- ---- behind a comma
      module _ (e : get_or t at 0 ≡ comma) (r : Result (Cursor × ℕ) Cursor) (scan : got_number t r ≡ number (drop (at + 1) t)) where
        pub gathered-missing : (m : Cursor) → r ≡ Err m → stops (drop m.at t) ≡ kept all t s₀ at₀
        gathered-missing m is = sym (numbers-missing with all nothing one t s at g.turns h e g.enough (sym scan ∙ ap (got_number t) is)) ∙ g.same

        module _ (n : ℕ) (next : Cursor) (is : r ≡ Ok (next, n)) where
          read : number (drop (at + 1) t) ≡ got n (drop next.at t)
          read = sym scan ∙ ap (got_number t) is

          pub gathered-less : length t - next.at < length t - at
          gathered-less =
              omega (
                arith,
                number-shortens (drop (at + 1) t) (record { value = n; rest = drop next.at t }) read,
                length-drop (at + 1) t,
                length-drop next.at t,
              )

          pub gathered-more : (s' : A) → s' ≡ with s n → Gathered all t s₀ at₀ s' next.at
          gathered-more s' k =
              let m = numbers_more with all nothing one t s at g.turns n next.at h e g.enough read in
              record { turns = m.0; enough = m.1; same = ap (λ x. valued (all x) (more_numbers m.0 (drop next.at t))) k ∙ sym m.2 ∙ g.same }
