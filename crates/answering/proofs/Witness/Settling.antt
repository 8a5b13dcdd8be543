-- Demand 3 is not empty: it holds of the paper's M, and of three components that share actions and reset clocks, where two series in different
-- order stop; every hypothesis is computed. And two inputs alone that clash are refused.
use mathlib.Core.Path.{◌≡◌, refl, sym, ◌∙◌, ap}
use mathlib.Core.Bool.{true, false, true≢false}
use mathlib.Core.Option.{none, some}
use mathlib.Core.List.{List, [], ◌∷◌}
use Prim.Native.Nat.{ℕ, zero, suc, ◌≤◌}
use native.Mathlib.Omega.{arith}
use lib.ListN.{length}
use Rattle.laws.specs.Fold.{all}
use Rattle.laws.specs.Tests.{all_of}
use Rattle.answer.specs.Told.{tell, answered, refused}
use Rattle.model.specs.Model.{Row, Comp}
use Rattle.model.specs.WellFormed.{WellFormed}
use Rattle.iosa.specs.Automaton.{Stable, at-start, Conforming, Joinable}
use Rattle.iosa.specs.Product.{product, state_of, Within, Reached, Series}
use Rattle.iosa.specs.Checks.{accept_of, confluent_of}
use Rattle.model.specs.Reading.{read_of}
use Rattle.iosa.specs.Step.{urgent_step, is_stable}
use Rattle.iosa.specs.Settle.{settle, reach_fault, play, settle_of}
use Rattle.iosa.specs.Orders.{OneEnd, Called, Listed, CalledByList, Settling}
use Rattle.iosa.specs.Demand3.{Demand3, SettledAs, Same, Unsettled}
use Rattle.answering.specs.Examples.{M, loop, bytes_of, reply}
use Rattle.iosa.proofs.Acceptance.Accepted.{accepted-exactly}
use Rattle.iosa.proofs.Acceptance.ConfluentExactly.{confluent-accepted}
use Rattle.iosa.proofs.Settling.Range.{range-exactly}
use Rattle.iosa.proofs.Settling.ProductOfMany.{wells}
use Rattle.iosa.proofs.Settling.WellFormedTest.{well_formed, well_comp, well_row, well-formed}
use Rattle.iosa.proofs.Settling.Demand3.{demand-3}
use Rattle.iosa.proofs.Settling.Descent.{Run}
use Rattle.iosa.proofs.Settling.Steps.{stable-exactly}
use Rattle.iosa.proofs.Settling.SeriesAndRuns.{series-is-a-run}
use Rattle.iosa.proofs.Settling.Listed.{list-that-is-a-series}
use Rattle.iosa.proofs.Reaching.Refused19.{reach-faultless}

-- a row: from, guard, action, resets, target
abbrev row : ℕ → ℕ → ℕ → ℕ → ℕ → Row
row f g a r t = record { from = f; guard = g; action = a; resets = r; target = t }

-- ---- the paper's M
unfoldable pub M₀ : Comp
M₀ = record { states = 2; start = 0; ins = 0; outs = 1; uins = 0; uouts = 2; clocks = 1; started = 1; rows = row 0 1 0 0 1 ∷ row 1 0 1 1 0 ∷ [] }

unfoldable pub M₁ : Comp
M₁ =
    record {
      states = 3;
      start = 0;
      ins = 0;
      outs = 0;
      uins = 2;
      uouts = 4;
      clocks = 0;
      started = 0;
      rows = row 0 0 1 0 1 ∷ row 1 0 1 0 1 ∷ row 1 0 2 0 2 ∷ row 2 0 1 0 2 ∷ [];
    }

pub M-is-read : read_of (bytes_of M) ≡ answered (M₀ ∷ M₁ ∷ [])
unfolding reply M₀ M₁
M-is-read = refl

M-well : WellFormed (M₀ ∷ M₁ ∷ [])
unfolding reply M₀ M₁ well_formed well_comp well_row all all_of
M-well = well-formed (M₀ ∷ M₁ ∷ []) refl

M-confluent : confluent_of (M₀ ∷ M₁ ∷ []) ≡ none
unfolding reply M₀ M₁
M-confluent = refl

-- ---- two lists that are series and stop, and what demand 3 says of them
pub record TwoOrders (c : Comp) (cs : List Comp) (s l k : List ℕ) (d : Settling (List ℕ)) : Type 0 where
  pub one : Series (product c cs) (state_of c cs s) l d.resets (state_of c cs d.state)
  pub other : Series (product c cs) (state_of c cs s) k d.resets (state_of c cs d.state)
  pub stable : Stable (product c cs) (state_of c cs d.state)
  pub theorem : Demand3 c cs s
  pub same : Same (product c cs) l d.resets (state_of c cs d.state) k d.resets (state_of c cs d.state)
  pub settled : (budget : ℕ) → length l ≤ budget → SettledAs c cs (length l) d.resets (state_of c cs d.state) (settle (urgent_step (c ∷ cs)) budget s)

two-orders : (c : Comp) (cs : List Comp) → WellFormed (c ∷ cs) → confluent_of (c ∷ cs) ≡ none → (s : List ℕ) → Within (c ∷ cs) s
    → reach_fault (c ∷ cs) s ≡ none → (l k : List ℕ) (d d' : Settling (List ℕ))
    → play (c ∷ cs) 0 l s ≡ answered d → play (c ∷ cs) 0 k s ≡ answered d' → d.stable ≡ true → d.resets ≡ d'.resets → d.state ≡ d'.state
    → TwoOrders c cs s l k d
two-orders c cs well e s w r l k d d' p q st f g =
    let a = (accepted-exactly (c ∷ cs) well).0 (confluent-accepted (c ∷ cs) e) in
    let x = (list-that-is-a-series c cs well a.0 a.1 s w l d).0 p in
    let y = (list-that-is-a-series c cs well a.0 a.1 s w k d').0 q in
    let z = rw (← f, ← g) at y.series in
    let t = demand-3 c cs well e s ((reach-faultless (c ∷ cs) s (wells (c ∷ cs) well) w).0 r) in
    let v = x.stable.0 st in
    record {
      one = x.series;
      other = z;
      stable = v;
      theorem = t;
      same = (t.stops x.series v).same z v;
      settled = (t.stops x.series v).enough;
    }

-- the end of a run by a list: stable, n steps, resets R, state t
abbrev ended : ℕ → ℕ → List ℕ → Settling (List ℕ)
ended n R t = record { stable = true; steps = n; resets = R; trace = []; state = t }

-- P3 and P4 of paper 01: the two orders from (1,1)
pub M-in-two-orders : TwoOrders M₀ (M₁ ∷ []) (1 ∷ 1 ∷ []) (1 ∷ 2 ∷ []) (2 ∷ 1 ∷ []) (ended 2 1 (0 ∷ 2 ∷ []))
unfolding reply M₀ M₁
M-in-two-orders =
    two-orders M₀ (M₁ ∷ []) M-well M-confluent (1 ∷ 1 ∷ []) ((range-exactly (M₀ ∷ M₁ ∷ []) (1 ∷ 1 ∷ [])).0 refl) refl (1 ∷ 2 ∷ []) (2 ∷ 1 ∷ [])
    (ended 2 1 (0 ∷ 2 ∷ [])) (ended 2 1 (0 ∷ 2 ∷ [])) refl refl refl refl refl

-- ---- three components: two that tell the third by urgent outputs 0 and 1 and reset clocks 0 and 1; it waits for both, then tells by 2 and resets clock 2
unfoldable pub T₀ : Comp
T₀ = record { states = 2; start = 1; ins = 0; outs = 8; uins = 0; uouts = 1; clocks = 1; started = 1; rows = row 0 0 0 1 1 ∷ row 1 1 3 0 0 ∷ [] }

unfoldable pub T₁ : Comp
T₁ = record { states = 2; start = 1; ins = 0; outs = 16; uins = 0; uouts = 2; clocks = 2; started = 2; rows = row 0 0 1 2 1 ∷ row 1 2 4 0 0 ∷ [] }

unfoldable pub T₂ : Comp
T₂ =
    record {
      states = 5;
      start = 0;
      ins = 0;
      outs = 32;
      uins = 3;
      uouts = 4;
      clocks = 4;
      started = 0;
      rows =
          row 0 0 0 0 1 ∷ row 0 0 1 0 2 ∷ row 1 0 0 0 1 ∷ row 1 0 1 0 3 ∷ row 2 0 0 0 3 ∷ row 2 0 1 0 2 ∷ row 3 0 0 0 3 ∷ row 3 0 1 0 3 ∷ row 3 0 2 4
          4 ∷ row 4 0 0 0 4
          ∷ row 4 0 1 0 4 ∷ row 4 3 5 0 0 ∷ [];
    }

T-well : WellFormed (T₀ ∷ T₁ ∷ T₂ ∷ [])
unfolding reply T₀ T₁ T₂ well_formed well_comp well_row all all_of
T-well = well-formed (T₀ ∷ T₁ ∷ T₂ ∷ []) refl

T-confluent : confluent_of (T₀ ∷ T₁ ∷ T₂ ∷ []) ≡ none
unfolding reply T₀ T₁ T₂
T-confluent = refl

-- three steps in either order
pub three-in-two-orders : TwoOrders T₀ (T₁ ∷ T₂ ∷ []) (0 ∷ 0 ∷ 0 ∷ []) (0 ∷ 1 ∷ 2 ∷ []) (1 ∷ 0 ∷ 2 ∷ []) (ended 3 7 (1 ∷ 1 ∷ 4 ∷ []))
unfolding reply T₀ T₁ T₂
three-in-two-orders =
    two-orders T₀ (T₁ ∷ T₂ ∷ []) T-well T-confluent (0 ∷ 0 ∷ 0 ∷ []) ((range-exactly (T₀ ∷ T₁ ∷ T₂ ∷ []) (0 ∷ 0 ∷ 0 ∷ [])).0 refl) refl
    (0 ∷ 1 ∷ 2 ∷ []) (1 ∷ 0 ∷ 2 ∷ [])
    (ended 3 7 (1 ∷ 1 ∷ 4 ∷ [])) (ended 3 7 (1 ∷ 1 ∷ 4 ∷ [])) refl refl refl refl refl

-- ---- "Inputs count": the third remembers which of 0 and 1 came first, so its two inputs clash and nothing else does
unfoldable pub clashing : Comp
clashing =
    record {
      states = 3;
      start = 0;
      ins = 0;
      outs = 0;
      uins = 3;
      uouts = 0;
      clocks = 0;
      started = 0;
      rows = row 0 0 0 0 1 ∷ row 0 0 1 0 2 ∷ row 1 0 0 0 1 ∷ row 1 0 1 0 1 ∷ row 2 0 0 0 2 ∷ row 2 0 1 0 2 ∷ [];
    }

clashing-well : WellFormed (T₀ ∷ T₁ ∷ clashing ∷ [])
unfolding reply T₀ T₁ clashing well_formed well_comp well_row all all_of
clashing-well = well-formed (T₀ ∷ T₁ ∷ clashing ∷ []) refl

pub two-inputs-that-clash : WellFormed (T₀ ∷ T₁ ∷ clashing ∷ []) × (accept_of (T₀ ∷ T₁ ∷ clashing ∷ []) ≡ none)
    × (confluent_of (T₀ ∷ T₁ ∷ clashing ∷ []) ≡ some (tell 18 (2 ∷ 0 ∷ 0 ∷ 1 ∷ [])))
    × (settle_of (T₀ ∷ T₁ ∷ clashing ∷ []) (0 ∷ 0 ∷ 0 ∷ []) 2 2 ≡ refused (tell 18 (2 ∷ 0 ∷ 0 ∷ 1 ∷ [])))
unfolding reply T₀ T₁ clashing
two-inputs-that-clash = (clashing-well, refl, refl, refl)

-- and rightly: the two orders end in different states
orders-that-differ : (play (T₀ ∷ T₁ ∷ clashing ∷ []) 0 (0 ∷ 1 ∷ []) (0 ∷ 0 ∷ 0 ∷ []) ≡ answered (ended 2 3 (1 ∷ 1 ∷ 1 ∷ [])))
    × (play (T₀ ∷ T₁ ∷ clashing ∷ []) 0 (1 ∷ 0 ∷ []) (0 ∷ 0 ∷ 0 ∷ []) ≡ answered (ended 2 3 (1 ∷ 1 ∷ 2 ∷ [])))
unfolding reply T₀ T₁ clashing
orders-that-differ = (refl, refl)

-- so demand 3 does not hold of it, and no answer of settling from there has what `Called` asks, whatever its budget
pub differing-orders-have-no-one-end : OneEnd (product T₀ (T₁ ∷ clashing ∷ [])) (state_of T₀ (T₁ ∷ clashing ∷ []) (0 ∷ 0 ∷ 0 ∷ [])) → ⊥
unfolding reply T₀ T₁ clashing
differing-orders-have-no-one-end o =
    let e : ◌≡◌ {A = ℕ} 2 1 = ap (λ x. x.1) (o.same one.series (one.stable.0 refl) other.series (other.stable.0 refl)).end in omega arith
  where
    k : Conforming (T₀ ∷ T₁ ∷ clashing ∷ []) × Joinable (T₀ ∷ T₁ ∷ clashing ∷ [])
    k = (accepted-exactly (T₀ ∷ T₁ ∷ clashing ∷ []) clashing-well).0 two-inputs-that-clash.1

    starts : Within (T₀ ∷ T₁ ∷ clashing ∷ []) (0 ∷ 0 ∷ 0 ∷ [])
    starts = (range-exactly (T₀ ∷ T₁ ∷ clashing ∷ []) (0 ∷ 0 ∷ 0 ∷ [])).0 refl

    one : Listed T₀ (T₁ ∷ clashing ∷ []) (0 ∷ 0 ∷ 0 ∷ []) (0 ∷ 1 ∷ []) (ended 2 3 (1 ∷ 1 ∷ 1 ∷ []))
    one =
        (list-that-is-a-series T₀ (T₁ ∷ clashing ∷ []) clashing-well k.0 k.1 (0 ∷ 0 ∷ 0 ∷ []) starts (0 ∷ 1 ∷ [])
        (ended 2 3 (1 ∷ 1 ∷ 1 ∷ []))).0 orders-that-differ.0

    other : Listed T₀ (T₁ ∷ clashing ∷ []) (0 ∷ 0 ∷ 0 ∷ []) (1 ∷ 0 ∷ []) (ended 2 3 (1 ∷ 1 ∷ 2 ∷ []))
    other =
        (list-that-is-a-series T₀ (T₁ ∷ clashing ∷ []) clashing-well k.0 k.1 (0 ∷ 0 ∷ 0 ∷ []) starts (1 ∷ 0 ∷ [])
        (ended 2 3 (1 ∷ 1 ∷ 2 ∷ []))).0 orders-that-differ.1

pub differing-orders-settle-as-nothing : (budget : ℕ) (d : Settling (List ℕ)) → Called T₀ (T₁ ∷ clashing ∷ []) (0 ∷ 0 ∷ 0 ∷ []) budget d → ⊥
differing-orders-settle-as-nothing budget d r = differing-orders-have-no-one-end r.orders

pub differing-orders-are-listed-as-nothing : (l : List ℕ) (d : Settling (List ℕ)) → CalledByList T₀ (T₁ ∷ clashing ∷ []) (0 ∷ 0 ∷ 0 ∷ []) l d → ⊥
differing-orders-are-listed-as-nothing l d r = differing-orders-have-no-one-end r.orders

-- ---- where no series stops: the paper's loop, "One state, one `uout` loop"
unfoldable pub looping : Comp
looping = record { states = 1; start = 0; ins = 0; outs = 0; uins = 0; uouts = 1; clocks = 0; started = 0; rows = row 0 0 0 0 0 ∷ [] }

pub loop-is-read : read_of (bytes_of loop) ≡ answered (looping ∷ [])
unfolding reply looping
loop-is-read = refl

looping-well : WellFormed (looping ∷ [])
unfolding reply looping well_formed well_comp well_row all all_of
looping-well = well-formed (looping ∷ []) refl

looping-confluent : confluent_of (looping ∷ []) ≡ none
unfolding reply looping
looping-confluent = refl

only-state : (t : List ℕ) → Within (looping ∷ []) t → t ≡ 0 ∷ []
unfolding looping
only-state [] w = absurd w
only-state (zero ∷ []) w = refl
only-state (suc n ∷ []) w = absurd (omega (arith, w.0))
only-state (n ∷ t ∷ ts) w = absurd w.1

never-stable : is_stable (looping ∷ []) (0 ∷ []) ≡ false
unfolding reply looping
never-stable = refl

looping-starts : Within (looping ∷ []) (0 ∷ [])
unfolding reply looping
looping-starts = (range-exactly (looping ∷ []) (0 ∷ [])).0 refl

looping-reached : Reached (looping ∷ []) (0 ∷ [])
unfolding looping
looping-reached = (at-start, tt)

pub loop-never-settles : (budget : ℕ) → Unsettled budget (settle (urgent_step (looping ∷ [])) budget (0 ∷ []))
loop-never-settles budget =
    (demand-3 looping [] looping-well looping-confluent (0 ∷ []) looping-reached).never
    (λ l R y run st. stops (series-is-a-run looping [] looping-well accepted.0 accepted.1 (0 ∷ []) looping-starts refl run) st) budget
  where
    accepted : Conforming (looping ∷ []) × Joinable (looping ∷ [])
    accepted = (accepted-exactly (looping ∷ []) looping-well).0 (confluent-accepted (looping ∷ []) looping-confluent)

    stops : {l : List ℕ} {R : ℕ} {y : (product looping []).State} → (t : List ℕ) × Run (urgent_step (looping ∷ [])) (0 ∷ []) l R t
        × (y ≡ state_of looping [] t) × Within (looping ∷ []) t
        → Stable (product looping []) y → ⊥
    stops p st =
        let e : state_of looping [] p.0 ≡ state_of looping [] (0 ∷ []) = ap (state_of looping []) (only-state p.0 p.3) in
        true≢false (sym ((stable-exactly looping [] looping-well accepted.0 accepted.1 (0 ∷ []) looping-starts).1 (rw (p.2 ∙ e) at st)) ∙ never-stable)
