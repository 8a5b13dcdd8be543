-- `print::put_word` meets its contract: what is put, and what is left of the word, make the whole.
use mathlib.Core.Path.{◌≡◌, sym, ◌∙◌, ap}
use mathlib.Core.List.{List, [], ◌∷◌}
use Prim.Native.Nat.{ℕ, ◌+◌, ◌<◌}
use native.Mathlib.Omega.{arith}
use native.Mathlib.Numerals.{add-one}
use lib.ListN.{length, get_or, drop, drop_of_length-le}
use lib.Seq.{drop-cons}
use Rattle.print.proofs.LaidLaws.{Left, Next, left-all, left_as, left-room, left-next, left-none, stored}
use Rattle.print.proofs.put_word.Goals as goal

-- the byte that comes next
here : {o : List ℕ} {at : ℕ} {w m : List ℕ} {next i : ℕ} → Left o at w m next (drop i w) → i < length w
    → Next o at w m next (get_or w i 0 ∷ []) (drop (i + 1) w)
here {w = w} {i = i} l h = left_as l _ _ (drop-cons w i 0 h ∙ ap (λ k. get_or w i 0 ∷ drop k w) (sym (add-one i)))

pub loop-i-init : goal.loop-i-init
loop-i-init c = let e : c.args.at + 0 ≡ c.args.at = omega arith in
    (omega arith, rw e (left-all c.args.out.now c.args.at c.args.w.now c.requires))

pub bounds-w-i : goal.bounds-w-i
bounds-w-i c = omega arith

pub bounds-out-at : goal.bounds-out-at
bounds-out-at c = omega (arith, left-room (here c.loop-i.invariant.1 c.loop-i-test.true))

pub loop-i-preserved : goal.loop-i-preserved
loop-i-preserved c = let l = c.loop-i in
    let q = here l.invariant.1 c.loop-i-test.true in
    (omega arith, left-next q (stored l.out (c.args.at + l.i) _ _ (omega (arith, left-room q)) (omega arith)))

pub returns : goal.returns
returns c = let l = c.loop-i in
    let e : length c.args.w.now ≡ l.i = omega (arith, l.invariant.0, c.loop-i-test.false) in
    rw e (left-none l.invariant.1 (drop_of_length-le c.args.w.now {i = l.i} c.loop-i-test.false))
