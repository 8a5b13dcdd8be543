-- Where a simulation's samples stand: of each source what a clock takes next, and what is left then. Only here lists are told from other sources.
use Rattle.std.specs.Prelude as Answered
use Rattle.std.specs.Prelude.{Some, None, IfSome, ◌≡◌, List, ℕ, suc, ◌+◌, ◌*◌, ◌≤◌, ◌<◌, length, get_or, drop}
use Rattle.std.proofs.Math.Option.{Option, none, some}
use Rattle.answer.specs.Limits.{max_clocks, max_ticks}
use Rattle.model.specs.Reading.{stops, got, field}
use Rattle.simulation.specs.Simulate.{Supply, taken_by}
use Rattle.simulation.specs.Samples.{sample_at, nth}
use Rattle.samples.specs.Lines.{Left}
use Rattle.drawing.specs.Draws.{lent as numbers_of, draw_of}
use Rattle.distributions.specs.Found.{law_in}
use Rattle.sampling.specs.Sampling.{from_law, takes_of, DrawIs}
use Rattle.feed.specs.declared.Source.{Source}
use Rattle.feed.specs.declared.Source.TheVariants.{Lists, Draws}
use Rattle.feed.specs.declared.Taken.{Taken}

-- what is lent of samples: their source, a text, and numbers
pub record Lent : Type 0 where
  pub source : Source
  pub text : List ℕ
  pub numbers : List ℕ

abbrev pub lent : Source → List ℕ → List ℕ → Lent
lent s t n = record { source = s; text = t; numbers = n }

-- 41 "a list ran out", 50 "lent numbers used up"
abbrev pub ran_out_of : Source → ℕ
ran_out_of Lists = 41
ran_out_of Draws = 50

-- ---- from these places on, the samples of clock x are g k, g (k + 1), ..
pub record InList (t : List ℕ) (at : ℕ) (g : ℕ → Option ℕ) (k : ℕ) : Type 0 where
  pub samples : List ℕ
  pub left : Left (drop at t) samples
  pub each : (j : ℕ) → g (k + j) ≡ nth samples j

-- the distribution stands at the place, and each draw before took its numbers
pub record InFile (t ns : List ℕ) (x at used : ℕ) (g : ℕ → Option ℕ) (k : ℕ) : Type 0 where
  pub taken : used ≡ takes_of (law_in t at) * k
  pub each : (j : ℕ) → g j ≡ draw_of (law_in t at) (numbers_of ns x) j

abbrev stands_by : Source → List ℕ → List ℕ → ℕ → ℕ → ℕ → (ℕ → Option ℕ) → ℕ → Type 0
stands_by Lists t n x at used g k = InList t at g k
stands_by Draws t n x at used g k = InFile t n x at used g k

abbrev pub Stands : Lent → ℕ → ℕ → ℕ → (ℕ → Option ℕ) → ℕ → Type 0
Stands l x at used g k = stands_by l.source l.text l.numbers x at used g k

-- the places supply what p does, after the samples taken
pub record Supplies (l : Lent) (p : Supply) (ts at used : List ℕ) : Type 0 where
  pub counted : length ts ≡ max_clocks
  pub number : p.ran_out ≡ ran_out_of l.source
  pub each : (x : ℕ) → x < max_clocks → Stands l x (get_or at x 0) (get_or used x 0) (p.sample x) (taken_by ts x)

-- ---- one sample: what is taken, or nothing where none is left
abbrev pub Taking : Type 0
Taking = Answered.Option Taken

-- of `listed`
abbrev pub ListTakes : List ℕ → ℕ → Taking → Type 0
ListTakes t at (Some s) = field sample_at (drop at t) ≡ got s.ticks (drop s.at t)
ListTakes t at None = (cs : List ℕ) × (field sample_at (drop at t) ≡ stops cs)

-- of `drawn`
abbrev pub DrawTakes : List ℕ → List ℕ → ℕ → ℕ → ℕ → Taking → Type 0
DrawTakes t ns x at used (Some s) = (s.at ≡ at) × DrawIs (law_in t at) (numbers_of ns x) used s.ticks s.used
DrawTakes t ns x at used None = from_law (law_in t at) (numbers_of ns x) used ≡ none

-- clock x, whose samples are g k, g (k + 1), .., takes the first of them
pub record TakesNext (l : Lent) (x : ℕ) (g : ℕ → Option ℕ) (k : ℕ) (s : Taken) : Type 0 where
  pub next : g k ≡ some s.ticks
  pub stands : Stands l x s.at s.used g (suc k)

abbrev pub Gives : Lent → ℕ → (ℕ → Option ℕ) → ℕ → Taking → Type 0
Gives l x g k (Some s) = TakesNext l x g k s
Gives l x g k None = g k ≡ none

-- "samples are 1 to 2^40"
abbrev pub Small : Taking → Type 0
Small r = IfSome r (λ s. s.ticks ≤ max_ticks)

-- of `take`
pub record TakeCall (l : Lent) (x at used : ℕ) (r : Taking) : Type 0 where
  pub small : Small r
  pub gives : (g : ℕ → Option ℕ) (k : ℕ) → Stands l x at used g k → Gives l x g k r
