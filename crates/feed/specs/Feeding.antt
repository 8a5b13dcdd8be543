-- What a round's end gives: every clock of a set has taken its next sample, or the lowest that has none left.
use Rattle.std.specs.Prelude as Answered
use Rattle.std.specs.Prelude.{Some, None, ◌≡◌, List, ℕ, length, ℤ}
use Rattle.std.proofs.Math.Option.{Option, none, some}
use Rattle.laws.specs.Search.{least}
use Rattle.answer.specs.Limits.{max_clocks}
use Rattle.ticks.specs.Ticks.{Ticking}
use Rattle.simulation.specs.Simulate.{Supply, each_from, lacks, fed_at, counted_at}
use Rattle.feed.specs.Supply.{Lent, Supplies}

-- all of w are fed
pub record AllFed (l : Lent) (p : Supply) (w : ℕ) (ts : List ℕ) (was : List ℤ) (r : Answered.Option ℕ) (at used : List ℕ) (vs : List ℤ) : Type 0 where
  pub none_lacks : r ≡ None
  pub values : vs ≡ each_from (fed_at p w ts) 0 was
  pub supplies : Supplies l p (each_from (counted_at w) 0 ts) at used

-- by the lowest clock that has none left
abbrev pub Fed : Option ℕ → Lent → Supply → ℕ → List ℕ → List ℤ → Answered.Option ℕ → List ℕ → List ℕ → List ℤ → Type 0
Fed none l p w ts was r at used vs = AllFed l p w ts was r at used vs
Fed (some x) l p w ts was r at used vs = r ≡ Some x

-- of `fed`: at, used and was are the places and values before, at', used' and vs those after
pub record FedCall (l : Lent) (w : ℕ) (at used : List ℕ) (was : List ℤ) (r : Answered.Option ℕ) (at' used' : List ℕ) (vs : List ℤ) : Type 0 where
  pub at_count : length at' ≡ max_clocks
  pub used-count : length used' ≡ max_clocks
  pub count : length vs ≡ max_clocks
  pub ticking : (d : ℕ) → Ticking d was → Ticking d vs
  pub fed : (p : Supply) (ts : List ℕ) → Supplies l p ts at used → Fed (least (lacks p w ts) max_clocks) l p w ts was r at' used' vs
