-- `floodneedle::floodneedle_start` meets its contract: words and state are those of the call.
use mathlib.Core.Path.{refl}
use Rattle.floodneedle.proofs.Tells.{begun-told, not-begun-told}
use Rattle.floodneedle.proofs.floodneedle_start.Goals as goal

pub returns-in-Ok : goal.returns-in-Ok
returns-in-Ok c = begun-told _ _ c.start.ensures _ _ c.in-Ok.o c.in-Ok.is refl c.started_words.ensures

pub returns-in-Err : goal.returns-in-Err
returns-in-Err c = not-begun-told _ _ c.start.ensures _ _ c.in-Err.f c.in-Err.is refl c.started_words-in-Err.ensures
