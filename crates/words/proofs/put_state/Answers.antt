-- `words::put_state` meets its contract: the bytes or the places end first, and what was copied lies before the rest.
use mathlib.Core.Path.{◌≡◌, sym, ◌∙◌, ap, ap₂}
use mathlib.Core.Logic.{by_cases}
use mathlib.Core.List.{List, [], ◌++◌}
use Prim.Native.Nat.{ℕ, ◌≤◌, min}
use native.Mathlib.Decide.{dec_le}
use native.Mathlib.Omega.{arith}
use borrow.Author.Rules.{rules}
use lib.ListN.{length, take, drop, drop_of_length-le}
use lib.Seq.{take_all}
use Rattle.words.specs.Bytes.{laid_over}
use Rattle.words.proofs.put_state.Goals as goal

-- as many places as there are bytes, or all of them
copied : (old ps : List ℕ) (n : ℕ) → n ≡ min (length old) (length ps) → take n ps ++ drop n old ≡ laid_over ps old
unfolding laid_over
copied old ps n e = by_cases (dec_le (length old) (length ps)) (λ h. few h) (λ h. many (omega arith))
  where
    few : length old ≤ length ps → take n ps ++ drop n old ≡ take (length old) ps ++ drop (length ps) old
    few h =
        let at : n ≡ length old = omega arith in
        let none : drop n old ≡ [] = drop_of_length-le old {i = n} (omega arith) in
        let rest : drop (length ps) old ≡ [] = drop_of_length-le old {i = length ps} (omega arith) in
        ap₂ (λ a b. a ++ b) (ap (λ k. take k ps) at) (none ∙ sym rest)

    many : length ps ≤ length old → take n ps ++ drop n old ≡ take (length old) ps ++ drop (length ps) old
    many h =
        let at : n ≡ length ps = omega arith in
        let whole : take n ps ≡ ps = take_all n ps (omega arith) in
        let all : take (length old) ps ≡ ps = take_all (length old) ps (omega arith) in
        ap₂ (λ a b. a ++ b) (whole ∙ sym all) (ap (λ k. drop k old) at)

pub returns : goal.returns
returns c = let bytes = c.args.bytes.now in
    let ps = c.args.x.now.parts in
    let size : length ps ≡ 32 = search rules in
    ap (λ l. l ++ drop c.min-n.result bytes) c.copy_from_slice.ensures.after ∙ copied bytes ps c.min-n.result (c.min-n.ensures
    ∙ ap (min (length bytes)) (sym size))
