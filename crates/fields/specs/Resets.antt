-- What reading needs of the numbers of a resets field ("`-`, or clocks strictly ascending, joined by commas"), gathered from left to right.
use Rattle.std.specs.Prelude.{true, false, ◌&&◌, cond, List, [], ◌∷◌, ℕ, ltb, Result}
use Rattle.laws.specs.Sets.{◌∪◌, only}
use Rattle.answer.specs.Limits.{max_clocks}
use Rattle.model.specs.Reading.{Scan, is, stops, got}
use Rattle.fields.specs.declared.Resets.{Resets}
use Rattle.fields.specs.declared.Cursor.{Cursor}
use Rattle.fields.specs.Fields.{scanned}

abbrev pub none_yet : Resets
none_yet = record { clocks = true; ascend = true; last = 0; set = 0 }

abbrev pub first : ℕ → Resets
first x = record { clocks = ltb x max_clocks; ascend = true; last = x; set = cond (ltb x max_clocks) (only x) 0 }

-- one number more: 4 where it is no clock, 6 where it is not above the last
abbrev pub with : Resets → ℕ → Resets
with s x = record {
  clocks = cond (ltb x max_clocks) s.clocks false;
  ascend = s.ascend && ltb s.last x;
  last = x;
  set = cond (ltb x max_clocks) (s.set ∪ only x) s.set;
}

unfoldable pub with_all : Resets → List ℕ → Resets
with_all s [] = s
with_all s (x ∷ xs) = with_all (with s x) xs

unfoldable pub summary : List ℕ → Resets
summary [] = none_yet
summary (x ∷ xs) = with_all (first x) xs

-- a scan's value, changed
abbrev pub valued : {A B : Type 0} → (A → B) → Scan A → Scan B
valued f (stops cs) = stops cs
valued f (is g) = got (f g.value) g.rest

abbrev pub got_resets : List ℕ → Result (Cursor × Resets) Cursor → Scan Resets
got_resets t r = scanned (λ s. s) t r
