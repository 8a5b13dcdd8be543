-- `naming::write_new` meets its contract: `form`, the `name` lines, the lines.
use mathlib.Core.List.{List, ◌++◌}
use Prim.Native.Nat.{ℕ}
use Rattle.print.proofs.LaidLaws.{Left, left-parts, part_room, part-put, last-room, left-last}
use Rattle.named.specs.NamedText.{form_line}
use Rattle.naminglaws.specs.Naming.{entries_at, sheet_part, default_lines, new_text}
use Rattle.naminglaws.proofs.NewText.{new-parts}
use Rattle.naming.proofs.write_new.Goals as goal
use Rattle.naming.proofs.write_new.Goals.{After-put_names-b, After-put_word-a, Start}

abbrev Rest : Start → List ℕ → ℕ → List ℕ → Type 0
Rest s out at rest = Left s.args.out.now 0 (new_text s.args.text.now) out at rest

abbrev lines : Start → List ℕ
lines s = default_lines (entries_at s.args.text.now 0)

abbrev behind : Start → List ℕ
behind s = sheet_part s.args.declared ++ lines s

l0 : (c : Start) → Rest c c.args.out.now 0 (form_line ++ behind c)
l0 c = left-parts _ _ _ (new-parts c.args.text.now c.args.declared c.requires.0) c.requires.1

abbrev at0 : After-put_word-a → Start
at0 c = (goal.at.After-put_word-a c).Start

l1 : (c : After-put_word-a) → Rest (at0 c) c.put_word-a.new.out c.put_word-a.result (behind (at0 c))
l1 c = part-put form_line _ (l0 (at0 c)) c.put_word-a.ensures

abbrev at1 : After-put_names-b → Start
at1 c = at0 (goal.at.After-put_names-b c).After-put_word-a

l2 : (c : After-put_names-b) → Rest (at1 c) c.put_names-b.new.out c.put_names-b.result (lines (at1 c))
l2 c = part-put (sheet_part (at1 c).args.declared) _ (l1 (goal.at.After-put_names-b c).After-put_word-a) c.put_names-b.ensures

pub put_word-a-requires : goal.put_word-a-requires
put_word-a-requires c = part_room form_line _ (l0 (goal.at.put_word-a-requires c).Start)

pub put_names-b-requires : goal.put_names-b-requires
put_names-b-requires c = part_room (sheet_part (at0 (goal.at.put_names-b-requires c).After-put_word-a).args.declared) _ (l1 (goal.at.put_names-b-requires c).After-put_word-a)

pub put_lines-requires : goal.put_lines-requires
put_lines-requires c = last-room (l2 (goal.at.put_lines-requires c).After-put_names-b)

pub returns : goal.returns
returns c = left-last (l2 (goal.at.returns c).After-put_names-b) c.put_lines.ensures
