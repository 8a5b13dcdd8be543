-- A good text has lines behind its names.
use mathlib.Core.Path.{◌≡◌, sym, ◌∙◌, ap}
use mathlib.Core.List.{List, [], ◌∷◌}
use Prim.Native.Nat.{ℕ, ◌≤◌}
use native.Mathlib.Omega.{arith}
use native.Mathlib.Decide.{dec_lt}
use lib.ListN.{length, drop_of_length-le}
use Rattle.answer.specs.Limits.{max_bytes}
use Rattle.answer.specs.Told.{tell, answered, refused}
use Rattle.named.specs.NamedText.{Sheet}
use Rattle.named.specs.ReadNamed.{Read, lines_from₂, begun}
use Rattle.named.proofs.Onward.{lines_end}
use Rattle.namelaws.specs.Sheets.{sheet_of, with_sheet, onward, SheetIs}
use Rattle.namelaws.specs.OldLines.{GoodText}
use Rattle.namelaws.proofs.OldLaws.{lines-by}

lines-there : (t : List ℕ) (s : Sheet) (at n : ℕ) (it : Read) → onward t (with_sheet s) at n ≡ answered it → at ≤ length t
lines-there t s at n it e = elim (dec_lt (length t) at) [
  | yes h ↦
      let z = ap (λ (b : List ℕ). lines_from₂ (length b) n (with_sheet s) b) (drop_of_length-le t {i = at} (omega arith)) ∙ lines_end n (with_sheet s) 0 in
      let y : refused (tell 8 (0 ∷ [])) ≡ answered it = sym z ∙ e in
      let x : ◌≡◌ {A = ℕ} 0 1 = cc in
      absurd (omega arith)
  | no h ↦ omega arith
]

pub good-text : (t P : List ℕ) (at n : ℕ) (it : Read) → SheetIs t 7 P at n → length t ≤ max_bytes → onward t (with_sheet (sheet_of t P)) at n ≡ answered it
    → GoodText t (onward t begun 7 2) P at
good-text t P at n it s l e = record {
  it = it;
  read = sym s.same ∙ e;
  long = s.long;
  inside = lines-there t (sheet_of t P) at n it e;
  short = l;
  old = lines-by t P at n 7 it s e;
}
