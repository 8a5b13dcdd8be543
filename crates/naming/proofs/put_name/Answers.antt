-- `naming::put_name` meets its contract: field by field.
use mathlib.Core.Path.{sym, ◌∙◌}
use mathlib.Core.List.{List, [], ◌∷◌, ◌++◌}
use Prim.Native.Nat.{ℕ}
use native.Mathlib.Omega.{arith}
use Rattle.model.specs.Text.{tab, lf, decimal}
use Rattle.print.proofs.LaidLaws.{Left, left-last, last-room, left-parts, part_room, part-put, put_as, nothing_put}
use Rattle.named.specs.NamedText.{name_word}
use Rattle.naminglaws.specs.Naming.{name_part}
use Rattle.naminglaws.proofs.SheetLaws.{name-parts, name-none}
use Rattle.naming.proofs.put_name.Goals as goal
use Rattle.naming.proofs.put_name.Goals.{After-put_decimal-c, After-put_decimal-e, After-put_word-b, After-put_word-d, Start, Then-has}

abbrev start : Then-has → Start
start c = (goal.at.Then-has c).Start

abbrev number : Then-has → List ℕ
number c = decimal (start c).args.a

abbrev word : List ℕ
word = name_word ++ (tab ∷ [])

abbrev letter : List ℕ
letter = tab ∷ 97 ∷ []

abbrev r3 : Then-has → List ℕ
r3 c = number c ++ lf ∷ []

abbrev r2 : Then-has → List ℕ
r2 c = letter ++ r3 c

abbrev r1 : Then-has → List ℕ
r1 c = number c ++ r2 c

abbrev Rest : Then-has → List ℕ → ℕ → List ℕ → Type 0
Rest c out at rest = let a = (start c).args in Left a.out.now a.to (name_part a.set a.a) out at rest

l0 : (c : Then-has) → Rest c (start c).args.out.now (start c).args.to (word ++ r1 c)
l0 c =
    let a = (start c).args in
    left-parts _ _ _ (name-parts a.set a.a (sym c.has.ensures ∙ c.if-has.true)) (start c).requires.1

abbrev at0 : After-put_word-b → Then-has
at0 c = (goal.at.After-put_word-b c).Then-has

l1 : (c : After-put_word-b) → Rest (at0 c) c.put_word-b.new.out c.put_word-b.result (r1 (at0 c))
l1 c = part-put word _ (l0 (at0 c)) c.put_word-b.ensures

abbrev at1 : After-put_decimal-c → Then-has
at1 c = at0 (goal.at.After-put_decimal-c c).After-put_word-b

l2 : (c : After-put_decimal-c) → Rest (at1 c) c.put_decimal-c.new.out c.put_decimal-c.result (r2 (at1 c))
l2 c = part-put (number (at1 c)) _ (l1 (goal.at.After-put_decimal-c c).After-put_word-b) c.put_decimal-c.ensures

abbrev at2 : After-put_word-d → Then-has
at2 c = at1 (goal.at.After-put_word-d c).After-put_decimal-c

l3 : (c : After-put_word-d) → Rest (at2 c) c.put_word-d.new.out c.put_word-d.result (r3 (at2 c))
l3 c = part-put letter _ (l2 (goal.at.After-put_word-d c).After-put_decimal-c) c.put_word-d.ensures

abbrev at3 : After-put_decimal-e → Then-has
at3 c = at2 (goal.at.After-put_decimal-e c).After-put_word-d

l4 : (c : After-put_decimal-e) → Rest (at3 c) c.put_decimal-e.new.out c.put_decimal-e.result (lf ∷ [])
l4 c = part-put (number (at3 c)) _ (l3 (goal.at.After-put_decimal-e c).After-put_word-d) c.put_decimal-e.ensures

pub put_word-b-requires : goal.put_word-b-requires
put_word-b-requires c = part_room word _ (l0 (goal.at.put_word-b-requires c).Then-has)

pub put_decimal-c-requires : goal.put_decimal-c-requires
put_decimal-c-requires c = part_room (number (at0 (goal.at.put_decimal-c-requires c).After-put_word-b)) _ (l1 (goal.at.put_decimal-c-requires c).After-put_word-b)

pub put_word-d-requires : goal.put_word-d-requires
put_word-d-requires c = part_room letter _ (l2 (goal.at.put_word-d-requires c).After-put_decimal-c)

pub put_decimal-e-requires : goal.put_decimal-e-requires
put_decimal-e-requires c = part_room (number (at2 (goal.at.put_decimal-e-requires c).After-put_word-d)) _ (l3 (goal.at.put_decimal-e-requires c).After-put_word-d)

pub put_byte-requires : goal.put_byte-requires
put_byte-requires c = omega (arith, last-room (l4 (goal.at.put_byte-requires c).After-put_decimal-e))

pub returns-then-has : goal.returns-then-has
returns-then-has c = left-last (l4 (goal.at.returns-then-has c).After-put_decimal-e) c.put_byte.ensures

pub returns : goal.returns
returns c = let a = c.args in
    put_as (nothing_put a.out.now a.to) _ (sym (name-none a.set a.a (sym c.has.ensures ∙ c.if-has.false)))
