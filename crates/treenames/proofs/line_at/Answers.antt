-- `treenames::line_at` meets its contract.
use mathlib.Core.Path.{◌≡◌, refl, sym, ◌∙◌, ap}
use mathlib.Core.List.{List}
use Prim.Native.Nat.{ℕ}
use native.Mathlib.Omega.{arith}
use Rattle.std.specs.Prelude.{Result, Ok, Err, IsOk}
use Rattle.model.specs.Reading.{got}
use Rattle.fields.specs.Resets.{valued}
use Rattle.fields.specs.declared.Cursor.{Cursor}
use Rattle.treelines.specs.declared.Element.{Element}
use Rattle.treelines.specs.Elements.{element_is, got_element}
use Rattle.treenames.proofs.line_at.Goals as goal

-- where a line stands, none is missing
is-there : (text : List ℕ) (r : Result (Cursor × Element) Cursor) (e : Element) (cs : List ℕ) → got_element text r ≡ got e cs → IsOk r
is-there text (Ok p) e cs h = refl
is-there text (Err d) e cs h = let z : ◌≡◌ {A = ℕ} 0 1 = cc in absurd (omega arith)

pub unwrap-requires : goal.unwrap-requires
unwrap-requires c = is-there c.args.text.now _ _ _ (c.element_at.ensures ∙ ap (valued element_is) c.requires.read)

pub returns : goal.returns
returns c = ap (got_element c.args.text.now) (sym c.unwrap.ensures) ∙ c.element_at.ensures
