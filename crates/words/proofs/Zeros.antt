-- A state with zeros behind its parts, given other parts, has zeros behind them again.
use mathlib.Core.Path.{◌≡◌, sym, ◌∙◌, ap}
use mathlib.Core.Logic.{by_cases}
use mathlib.Core.List.{List, ◌++◌}
use Prim.Native.Nat.{ℕ, ◌+◌, ◌-◌, ◌≤◌, ◌<◌}
use native.Mathlib.Decide.{dec_lt}
use native.Mathlib.Nat.{le_refl}
use native.Mathlib.Omega.{arith}
use lib.ListN.{length, get_or, drop, length-append, length-drop, get_or-append, get_or-eq_default}
use lib.Seq.{get_or-append-add, get_or-drop}
use Rattle.answer.specs.Limits.{max_components}
use Rattle.answer.specs.declared.State.{State}
use Rattle.answer.specs.State.{parts_of, with_parts}
use Rattle.answer.proofs.StateLaws.{parts-length, parts_at}
use Rattle.words.specs.Bytes.{state_of}
use Rattle.words.proofs.Filled.{made}

module _ (x : State) (ps : List ℕ) (z : x ≡ state_of (parts_of x)) (e : length ps ≡ x.count) (few : x.count ≤ max_components) where
  -- all places, as numbers
  all-places : State
  all-places = record { count = max_components; parts = parts_of x }

  places-are : x.parts ≡ parts_of all-places
  unfolding state_of parts_of all-places
  places-are = ap (λ (y : State). y.parts) z

  places-length : length x.parts ≡ max_components
  unfolding all-places
  places-length = ap length places-are ∙ parts-length all-places

  pub with-zeros : with_parts x ps ≡ state_of ps
  unfolding with_parts all-places
  with-zeros =
      ap (λ (n : ℕ). record { count = n; parts = ps ++ drop x.count x.parts }) (sym e)
      ∙ made ps (ps ++ drop x.count x.parts) max_components
      (length-append ps (drop x.count x.parts) ∙ omega (arith, length-drop x.count x.parts, places-length))
      (le_refl max_components)
      (λ k h. by_cases (dec_lt k (length ps)) (λ l. get_or-append ps (drop x.count x.parts) 0 k l) (λ l. behind k h (omega arith)))
    where
      behind : (k : ℕ) → k < max_components → length ps ≤ k → get_or (ps ++ drop x.count x.parts) k 0 ≡ get_or ps k 0
      behind k h l =
          let j : k ≡ length ps + (k - length ps) = omega arith in
          let i : x.count + (k - length ps) ≡ k = omega (arith, e) in
          ap (λ n. get_or (ps ++ drop x.count x.parts) n 0) j
          ∙ get_or-append-add ps (drop x.count x.parts) (k - length ps) 0
          ∙ get_or-drop x.count x.parts (k - length ps) 0
          ∙ ap (λ n. get_or x.parts n 0) i
          ∙ ap (λ l. get_or l k 0) places-are
          ∙ parts_at all-places k h
          ∙ get_or-eq_default (parts_of x) 0 (omega (arith, parts-length x, e))
          ∙ sym (get_or-eq_default ps 0 l)
