-- What the checks of a table answer (01, "Refusal numbers"): "Tables: 20; then 10 to 14 for each component in turn; then 15 to 17; then 18 where .. the confluence check is called".
-- 02, 10/13: "The check for 10 to 17 is split: one call for a component's own conditions, another for the compatibility of several".
use Rattle.std.specs.Prelude.{◌≡◌, List, ℕ}
use Rattle.std.proofs.Math.Option.{none, some}
use Rattle.answer.specs.Told.{says_checked}
use Rattle.answer.specs.Told.{Checked}
use Rattle.iosa.specs.Checks.{component_of, compatible_of, accept_of, confluent_of}
use Rattle.table.specs.OnTable.{check_on}

-- 20, or nothing
abbrev pub Recognised : List ℕ → Checked → Type 0
Recognised t r = says_checked r ≡ some (check_on t (λ m. none))

-- of the call `component`: "gives 25 if there is none, after 20", then 10 to 14 of component i
abbrev pub ByItself : List ℕ → ℕ → Checked → Type 0
ByItself t i r = says_checked r ≡ some (check_on t (λ m. component_of m i))

-- of the call `compatible`
abbrev pub Compatibly : List ℕ → Checked → Type 0
Compatibly t r = says_checked r ≡ some (check_on t compatible_of)

-- of the call `accept`
abbrev pub Accepted : List ℕ → Checked → Type 0
Accepted t r = says_checked r ≡ some (check_on t accept_of)

-- of the call `confluent`
abbrev pub Confluently : List ℕ → Checked → Type 0
Confluently t r = says_checked r ≡ some (check_on t confluent_of)
