-- What the timed step answers, said of the product and its clocks (01, "The timed step"; 21 and 27 to 30).
use Rattle.std.specs.Prelude.{◌≡◌, ◌≢◌, true, false, cond, List, [], ◌∷◌, ℕ, ◌-◌, ◌<◌, length, get_or, ℤ, pos, negsuc, ◌-ℤ◌}
use Rattle.std.specs.Int.Signed.{lt_z, le_z}
use Rattle.laws.specs.Sets.{has, only, ◌∈◌}
use Rattle.laws.specs.Lowest.{Lowest}
use Rattle.answer.specs.Limits.{max_clocks, max_ticks}
use Rattle.answer.specs.Told.{tell, Answer, answered, refused, Shot, fired, quiet}
use Rattle.model.specs.Model.{Comp, Model, declared}
use Rattle.iosa.specs.Automaton.{Stable, Enabling}
use Rattle.iosa.specs.Product.{product, state_of, Within}

-- -2^40, where a clock that runs on stops
abbrev pub floor : ℤ
floor = negsuc (max_ticks - 1)

-- the value of clock x
abbrev pub value_of : List ℤ → ℕ → ℤ
value_of vs x = get_or vs x (pos 0)

-- clock x guards a row of the product that leaves the composed state
abbrev pub Waits : Comp → List Comp → List ℕ → ℕ → Type 0
Waits c cs s x = Enabling (product c cs) (state_of c cs s) x

-- "64 clock values", the declared ones not "outside -2^40 to 2^40"
pub record InTicks (m : Model) (vs : List ℤ) : Type 0 where
  pub count : length vs ≡ max_clocks
  pub low : (x : ℕ) → x ∈ declared m → le_z floor (value_of vs x) ≡ true
  pub high : (x : ℕ) → x ∈ declared m → le_z (value_of vs x) (pos max_ticks) ≡ true

-- of the clocks W, x has "the least value": none has a smaller one
pub record LeastOf (W : ℕ → Type 0) (vs : List ℤ) (x : ℕ) : Type 0 where
  pub waits : W x
  pub least : (y : ℕ) → W y → lt_z (value_of vs y) (value_of vs x) ≡ false

-- x is "below zero"
pub record BelowZero (W : ℕ → Type 0) (vs : List ℤ) (x : ℕ) : Type 0 where
  pub waits : W x
  pub negative : lt_z (value_of vs x) (pos 0) ≡ true

-- x and another "share the least value"
pub record Shares (W : ℕ → Type 0) (vs : List ℤ) (x : ℕ) : Type 0 where
  pub here : LeastOf W vs x
  pub other : ℕ
  pub differs : other ≢ x
  pub there : LeastOf W vs other

-- "In a stable composed state the enabling clock with the least value v fires": every other enabling clock has a greater one.
-- "The row of that clock is taken": a row of the product
pub record Fires (c : Comp) (cs : List Comp) (s : List ℕ) (vs : List ℤ) (x v a R : ℕ) (s' : List ℕ) : Type 0 where
  pub waits : Waits c cs s x
  pub value : value_of vs x ≡ pos v
  pub least : (y : ℕ) → y ≢ x → Waits c cs s y → lt_z (pos v) (value_of vs y) ≡ true
  pub row : (product c cs).Row (state_of c cs s) (only x) a R (state_of c cs s')
  pub within : Within (c ∷ cs) s'

abbrev pub greater : ℤ → ℤ → ℤ
greater a b = cond (lt_z a b) b a

-- "every declared clock falls by v, .. stops at -2^40, undeclared places stay"
pub record Falls (m : Model) (vs : List ℤ) (v : ℕ) (vs' : List ℤ) : Type 0 where
  pub count : length vs' ≡ length vs
  pub falls : (x : ℕ) → x < length vs → x ∈ declared m → value_of vs' x ≡ greater (value_of vs x -ℤ pos v) floor
  pub stays : (x : ℕ) → has (declared m) x ≡ false → value_of vs' x ≡ value_of vs x

-- "The answer gives v, action, resets, state", and what the lent values are then
pub record Timing : Type 0 where
  pub shot : Shot
  pub state : List ℕ
  pub values : List ℤ

-- what is answered where nothing is refused
pub data Shoots (c : Comp) (cs : List Comp) (s : List ℕ) (vs : List ℤ) : Timing → Type 0 where
  -- "With no enabling clock the answer is quiet and nothing changes"
  no-shot : ((y : ℕ) → Waits c cs s y → ⊥) → Shoots c cs s vs (record { shot = quiet; state = s; values = vs })
  one-shot : {x v a R : ℕ} {s' : List ℕ} {vs' : List ℤ} → Fires c cs s vs x v a R s' → Falls (c ∷ cs) vs v vs'
      → Shoots c cs s vs (record { shot = fired v a R; state = s'; values = vs' })

-- ---- the same, answer by answer
-- none of 21, 27 and 28
pub record Ready (c : Comp) (cs : List Comp) (s : List ℕ) (vs : List ℤ) : Type 0 where
  pub within : Within (c ∷ cs) s
  pub stable : Stable (product c cs) (state_of c cs s)
  pub ticks : InTicks (c ∷ cs) vs

-- the answers for an accepted model, each with what it is given for
pub data TimedAnswer (c : Comp) (cs : List Comp) (s : List ℕ) (vs : List ℤ) : Answer Timing → Type 0 where
  is21 : (Within (c ∷ cs) s → ⊥) → TimedAnswer c cs s vs (refused (tell 21 (0 ∷ [])))
  is27 : Within (c ∷ cs) s → (Stable (product c cs) (state_of c cs s) → ⊥) → TimedAnswer c cs s vs (refused (tell 27 (0 ∷ [])))
  is28 : Within (c ∷ cs) s → Stable (product c cs) (state_of c cs s) → (InTicks (c ∷ cs) vs → ⊥) → TimedAnswer c cs s vs (refused (tell 28 (0 ∷ [])))
  -- 29 and 30: "lowest such clock"
  is29 : {x : ℕ} → Ready c cs s vs → Lowest (BelowZero (Waits c cs s) vs) x → TimedAnswer c cs s vs (refused (tell 29 (x ∷ [])))
  is30 : {x : ℕ} → Ready c cs s vs → ((y : ℕ) → BelowZero (Waits c cs s) vs y → ⊥) → Lowest (Shares (Waits c cs s) vs) x
      → TimedAnswer c cs s vs (refused (tell 30 (x ∷ [])))
  -- "With no enabling clock the answer is quiet and nothing changes"
  is-quiet : Ready c cs s vs → ((y : ℕ) → Waits c cs s y → ⊥) → TimedAnswer c cs s vs (answered (record { shot = quiet; state = s; values = vs }))
  is-fired : {x v a R : ℕ} {s' : List ℕ} {vs' : List ℤ} → Ready c cs s vs → Fires c cs s vs x v a R s' → Falls (c ∷ cs) vs v vs'
      → TimedAnswer c cs s vs (answered (record { shot = fired v a R; state = s'; values = vs' }))
