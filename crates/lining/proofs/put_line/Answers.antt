-- `lining::put_line` meets its contract: the line of what settling gives.
use Rattle.lining.proofs.Lined.{line-few, line-room, line-filled}
use Rattle.lining.proofs.put_line.Goals as goal

pub put_round-requires : goal.put_round-requires
put_round-requires c = (
  line-few _ _ c.requires.0 _ c.untraced-d.ensures,
  line-room _ _ c.requires.0 _ c.untraced-d.ensures _ _ _ c.args.s.resets _ c.union-resets.ensures c.args.line.now c.requires.1,
)

pub returns : goal.returns
returns c = line-filled _ _ c.requires.0 _ c.untraced-d.ensures _ _ _ _ _ c.union-resets.ensures c.args.line.now c.requires.1 _ _
    c.put_round.ensures
