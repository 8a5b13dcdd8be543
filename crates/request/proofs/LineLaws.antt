-- The request line goes field by field; its numbers are kept from left to right.
use mathlib.Core.Path.{◌≡◌, refl, sym, ◌∙◌, ap}
use mathlib.Core.Logic.{by_cases}
use mathlib.Core.Option.{Option, none, some, some_inj}
use Rattle.laws.proofs.SearchLaws.{no-some}
use mathlib.Core.List.{List, [], ◌∷◌}
use Prim.Native.Nat.{ℕ, min, ◌-◌, ◌≤◌, ◌<◌}
use native.Mathlib.Omega.{arith}
use native.Mathlib.Decide.{dec_lt}
use lib.ListN.{length, drop, length-drop, drop_of_length-le}
use borrow.Author.Tests.{lt-ltb, le-ltb}
use Rattle.std.specs.Prelude as Answered
use Rattle.std.specs.Prelude.{Result, Ok, Err, Some, None}
use Rattle.std.specs.Result.{result_ok}
use Rattle.answer.specs.Limits.{max_request, no_state}
use Rattle.answer.specs.declared.State.{State}
use Rattle.model.specs.Text.{lf}
use Rattle.model.specs.Reading.{Got, Scan, is, stops, got, then, exactly, the_byte, number, more_numbers, numbers, field}
use Rattle.answering.specs.Report.{Request, from_word, request_line, request_of}
use Rattle.model.proofs.Reading.Scans.{no-is, stops-inj}
use Rattle.fields.specs.Resets.{valued}
use Rattle.fields.proofs.NumberLaws.{numbers-all, no_number}
use Rattle.request.specs.Kept.{with, with_all, held, there, kept}

pub nothing-more : (x : State) → with_all x [] ≡ x
unfolding with_all
nothing-more x = refl

pub one_more : (x : State) (n : ℕ) (ns : List ℕ) → with_all x (n ∷ ns) ≡ with_all (with x n) ns
unfolding with_all
one_more x n ns = refl

-- ---- the state's field
pub parts-missing : (o : Scan (Unit {0})) {ds : List ℕ} → then o (λ _ cs. number cs) ≡ stops ds → valued held (then o (λ _ cs. numbers cs)) ≡ stops ds
parts-missing (stops cs) e = ap (λ l. stops l) (stops-inj e)
parts-missing (is g) {ds} e = ap (valued held) (no_number g.rest ds e)

pub parts_all : (o : Scan (Unit {0})) (n : ℕ) (cs : List ℕ) → then o (λ _ cs. number cs) ≡ got n cs
    → valued held (then o (λ _ cs. numbers cs)) ≡ valued (with_all (with no_state n)) (more_numbers (length cs) cs)
unfolding held
parts_all (stops ds) n cs e = absurd (no-is refl e)
parts_all (is g) n cs e = numbers-all with with_all nothing-more one_more no_state g.rest cs n e

-- ---- the line, field by field: the first field that is missing, or all of them there
pub line-no-1 : (b0 : List ℕ) {x : List ℕ} → exactly from_word b0 ≡ stops x → request_line b0 ≡ stops x
unfolding request_line
line-no-1 b0 e0 = rw (e0, request_line)

pub line-no-2 : (b0 : List ℕ) {b1 x : List ℕ} → exactly from_word b0 ≡ got tt b1 → field numbers b1 ≡ stops x → request_line b0 ≡ stops x
unfolding request_line
line-no-2 b0 e0 e1 = rw (e0, e1, request_line)

pub line-no-3 : (b0 : List ℕ) {b1 b2 ns x : List ℕ} → exactly from_word b0 ≡ got tt b1 → field numbers b1 ≡ got ns b2 → field number b2 ≡ stops x
    → request_line b0 ≡ stops x
unfolding request_line
line-no-3 b0 e0 e1 e2 = rw (e0, e1, e2, request_line)

pub line-no-4 : (b0 : List ℕ) {b1 b2 b3 ns x : List ℕ} {n : ℕ} → exactly from_word b0 ≡ got tt b1 → field numbers b1 ≡ got ns b2 → field number b2 ≡ got n b3
    → the_byte lf b3 ≡ stops x → request_line b0 ≡ stops x
unfolding request_line
line-no-4 b0 e0 e1 e2 e3 = rw (e0, e1, e2, e3, request_line)

pub line-is : (b0 : List ℕ) {b1 b2 b3 b4 ns : List ℕ} {n : ℕ} → exactly from_word b0 ≡ got tt b1 → field numbers b1 ≡ got ns b2 → field number b2 ≡ got n b3
    → the_byte lf b3 ≡ got tt b4 → request_line b0 ≡ got (record { state = ns; budget = n }) b4
unfolding request_line
line-is b0 e0 e1 e2 e3 = rw (e0, e1, e2, e3, request_line)

-- ---- its length: where it ends, but no further than the input
pub min-drop : (t : List ℕ) (at : ℕ) → drop (min at (length t)) t ≡ drop at t
min-drop t at = by_cases (dec_lt at (length t))
    (λ h. let e : min at (length t) ≡ at = omega arith in ap (λ k. drop k t) e)
    (λ h. drop_of_length-le t {i = min at (length t)} (omega arith) ∙ sym (drop_of_length-le t {i = at} (omega arith)))

pub min-length : (t : List ℕ) (at : ℕ) → length t - length (drop at t) ≡ min at (length t)
min-length t at = omega (arith, length-drop at t)

pub no_line : (t cs : List ℕ) → request_line t ≡ stops cs → request_of t ≡ none
unfolding request_of
no_line t cs e = rw (e, request_of)

module _ (t : List ℕ) (at : ℕ) (q : Request) (e : request_line t ≡ got q (drop at t)) where
  pub too_long : max_request < min at (length t) → request_of t ≡ none
  unfolding request_of
  too_long h = rw (e, request_of) (rw (min-length t at, lt-ltb max_request (min at (length t)) h))

  pub short-enough : min at (length t) ≤ max_request → request_of t ≡ there q (drop at t)
  unfolding request_of
  short-enough h = rw (e, request_of) (rw (min-length t at, le-ltb max_request (min at (length t)) h))

-- what is kept of a request that is there, and that there is none
pub kept-some : {A B : Type 0} (f : A → B) (o : Option (Got A)) {y : B} {bs : List ℕ} → kept f o ≡ there y bs → (x : A) × (o ≡ there x bs) × (f x ≡ y)
kept-some f none e = absurd (no-some refl e)
kept-some f (some g) {y} {bs} e =
    let s = some_inj.0 e in
    (g.value, ap (λ h. there g.value h.rest) s, ap (λ h. h.value) s)

pub kept-none : {A B : Type 0} (f : A → B) (o : Option (Got A)) → kept f o ≡ none → o ≡ none
kept-none f none e = refl
kept-none f (some g) e = absurd (no-some e refl)

-- a scan's answer where only that it is there is kept
pub ok-none : {A E : Type 0} (r : Result A E) → ◌≡◌ {A = Answered.Option A} None (result_ok r) → (e : E) × (r ≡ Err e)
ok-none (Ok a) e = absurd (cc)
ok-none (Err c) e = (c, refl)

pub ok-some : {A E : Type 0} (r : Result A E) (a : A) → ◌≡◌ {A = Answered.Option A} (Some a) (result_ok r) → r ≡ Ok a
ok-some (Ok b) a e = cc
ok-some (Err c) a e = absurd (cc)
