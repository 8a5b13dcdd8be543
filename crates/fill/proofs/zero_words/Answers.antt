-- `fill::zero_words`: what is written is zeros.
use mathlib.Core.Path.{sym, ◌∙◌, ap}
use Prim.Native.Nat.{◌+◌}
use native.Mathlib.Omega.{arith}
use lib.ListN.{replicate, length-replicate}
use Rattle.std.proofs.lemmas.List.Edits.{length-between}
use Rattle.fill.specs.Words.{zeros_of}
use Rattle.fill.proofs.FillLaws.{put-is, zeros-are}
use Rattle.fill.proofs.zero_words.Goals as goal

pub returns : goal.returns
returns c = let a = c.args in
    put-is a.at a.n a.into.now c.fill.new.self (zeros_of a.n) c.requires.0
    (c.fill.ensures.after (λ y e. e)
    ∙ ap (λ n. replicate n 0) (omega (arith, length-between a.into.now a.at (a.at + a.n) c.requires.0))
    ∙ sym (zeros-are a.n))
    (rw zeros-are (length-replicate a.n 0))
