-- What an answer says fixes it, of each kind of answer.
use mathlib.Core.Path.{◌≡◌, refl, sym, ◌∙◌, ap}
use mathlib.Core.Option.{Option, none, some}
use Prim.Native.Nat.{ℕ}
use native.Mathlib.Omega.{arith}
use Rattle.answer.specs.Told.{Told, told, Answer, answered, refused, as_refused, says, Checked, says_checked, Written, says_written}
use Rattle.answer.specs.Told.{step_said, stable_said, shot_said, RefusedWith}
use Rattle.answer.specs.declared.Refusal.{Refusal}
use Rattle.std.specs.Prelude.{Result, Ok, Err}
use Rattle.answer.specs.declared.Firing.{Firing}
use Rattle.answer.specs.declared.Firing.TheVariants as F
use Rattle.answer.specs.declared.Outcome.{Outcome}
use Rattle.answer.specs.declared.Outcome.TheVariants as O
use Rattle.answer.specs.declared.Verdict.{Verdict}
use Rattle.answer.specs.declared.Verdict.TheVariants as Of
use Rattle.answer.proofs.ToldFixes.{told-fixes}

-- a refusal tells, and tells no value
pub tells : {A : Type 0} (q : Refusal) (a : Answer A) → as_refused (told q) ≡ some a → (f : Told) × (told q ≡ some f) × (a ≡ refused f)
tells {A} q a e = go (told q) refl e
  where
    go : (o : Option Told) → told q ≡ o → as_refused o ≡ some a → (f : Told) × (told q ≡ some f) × (a ≡ refused f)
    go none h e = let z : ◌≡◌ {A = ℕ} 0 1 = cc in absurd (omega arith)
    go (some f) h e = let p : refused f ≡ a = cc in (f, h, sym p)

tells_alike : {A : Type 0} (p q : Refusal) (a : Answer A) → as_refused (told p) ≡ some a → as_refused (told q) ≡ some a → p ≡ q
tells_alike p q a e h =
    let x = tells p a e in
    let y = tells q a h in
    let same : x.0 ≡ y.0 = cc in
    told-fixes p q y.0 (x.1 ∙ ap some same) y.1

no-refusal : {A : Type 0} {P : Type 0} (q : Refusal) (x : A) (a : Answer A) → as_refused (told q) ≡ some a → some (answered x) ≡ some a → P
no-refusal q x a e h = let y = tells q a e in let z : ◌≡◌ {A = ℕ} 0 1 = cc in absurd (omega arith)

-- what a result says fixes it, where what is read off its value fixes that
pub says-fixed : {A B : Type 0} (f : A → B) → ((x y : A) → f x ≡ f y → x ≡ y) → (r q : Result A Refusal) (a : Answer B)
    → says f r ≡ some a → says f q ≡ some a → r ≡ q
says-fixed f one (Ok x) (Ok y) a e h = let i : f x ≡ f y = cc in ap (λ z. Ok z) (one x y i)
says-fixed f one (Ok x) (Err q) a e h = no-refusal q (f x) a h e
says-fixed f one (Err p) (Ok y) a e h = no-refusal p (f y) a e h
says-fixed f one (Err p) (Err q) a e h = ap (λ z. Err z) (tells_alike p q a e h)

pub checked-fixed : (r q : Checked) (a : Answer (Unit {0})) → says_checked r ≡ some a → says_checked q ≡ some a → r ≡ q
unfolding says_checked
checked-fixed r q a e h = says-fixed (λ _. tt) (λ _ _ _. refl) r q a e h

pub written-fixed : (r q : Written) (a : Answer ℕ) → says_written r ≡ some a → says_written q ≡ some a → r ≡ q
unfolding says_written
written-fixed r q a e h = says-fixed (λ n. n) (λ _ _ k. k) r q a e h

-- a length is answered only where the call answers it
pub says-the-length : (n : ℕ) (a : Answer ℕ) → says_written (Ok n) ≡ some a → a ≡ answered n
unfolding says_written
says-the-length n a e = let p : answered n ≡ a = cc in sym p

-- two refusals that tell the same are one
pub refused-fixed : {A : Type 0} (r q : Result A Refusal) (f : Told) → RefusedWith f r → RefusedWith f q → r ≡ q
refused-fixed (Err p) (Err q) f e h = ap (λ z. Err z) (told-fixes p q f e h)
refused-fixed (Ok x) q f e h = absurd e
refused-fixed (Err p) (Ok y) f e h = absurd h

pub firing-fixed : (r q : Firing) → shot_said r ≡ shot_said q → r ≡ q
firing-fixed (F.Fired v b r) (F.Fired w d q) e = cc
firing-fixed (F.Fired v b r) F.Quiet e = let z : ◌≡◌ {A = ℕ} 0 1 = cc in absurd (omega arith)
firing-fixed F.Quiet (F.Fired w d q) e = let z : ◌≡◌ {A = ℕ} 0 1 = cc in absurd (omega arith)
firing-fixed F.Quiet F.Quiet e = refl

pub outcome-fixed : (o p : Outcome) → step_said o ≡ step_said p → o ≡ p
outcome-fixed (O.Moved a r) (O.Moved b q) e = let i : a ≡ b = cc in let j : r ≡ q = cc in λ k. O.Moved (i k) (j k)
outcome-fixed (O.Moved a r) O.Stable e = let z : ◌≡◌ {A = ℕ} 0 1 = cc in absurd (omega arith)
outcome-fixed O.Stable (O.Moved b q) e = let z : ◌≡◌ {A = ℕ} 0 1 = cc in absurd (omega arith)
outcome-fixed O.Stable O.Stable e = refl

pub verdict-fixed : (v w : Verdict) → stable_said v ≡ stable_said w → v ≡ w
verdict-fixed Of.Stable Of.Stable e = refl
verdict-fixed Of.Stable Of.Unsettled e = let y : ◌≡◌ {A = ℕ} 0 1 = cc in absurd (omega arith)
verdict-fixed Of.Unsettled Of.Stable e = let y : ◌≡◌ {A = ℕ} 0 1 = cc in absurd (omega arith)
verdict-fixed Of.Unsettled Of.Unsettled e = refl
