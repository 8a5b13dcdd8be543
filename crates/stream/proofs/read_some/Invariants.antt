-- What was kept so far is kept.
use Rattle.std.proofs.Common.{length, take, ◌≡◌}
use Rattle.stream.proofs.read_some.Given as goal

abbrev pub invariant-loop : goal.invariant-loop
invariant-loop g l = (length l.buf ≡ length l.fn.buf) × (take l.from l.buf ≡ take l.from l.fn.buf)
