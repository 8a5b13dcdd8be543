-- How the calls `component` and `compatible` answer `accept` (02, 10/13): "Together they answer what the old call did".
use Rattle.std.specs.Prelude.{◌≡◌, ℕ, ◌<◌}
use Rattle.answer.specs.Told.{Checked}
use Rattle.std.specs.Prelude.{Ok, Err}
use Rattle.answer.specs.declared.Refusal.{Refusal}

-- r is the first refusal of n components in turn; and where none refuses, the answer of the last, which is a refusal or fine
pub data FirstRefusal (n : ℕ) (each : ℕ → Checked) (last r : Checked) : Type 0 where
  of-component : {i : ℕ} {q : Refusal} → i < n → ((j : ℕ) → j < i → each j ≡ (Ok tt)) → each i ≡ Err q → r ≡ Err q → FirstRefusal n each last r
  of-last : ((j : ℕ) → j < n → each j ≡ (Ok tt)) → r ≡ last → FirstRefusal n each last r
