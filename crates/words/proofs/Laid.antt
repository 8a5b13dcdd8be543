-- A state's places laid over the bytes that the state was made of.
use mathlib.Core.Path.{◌≡◌, refl, ◌∙◌, ap₂}
use mathlib.Core.Bool.{Bool, true, false}
use mathlib.Core.List.{List, [], ◌++◌, append-nil}
use Prim.Native.Nat.{ℕ, ◌≤◌, ◌<◌}
use native.Mathlib.Omega.{arith}
use lib.ListN.{length, take, drop, length-append, take-append-drop, drop_of_length-le}
use lib.Dec.{ltb}
use lib.Seq.{ext_get_or, get_or-take, length-take-le, take_all, take_at}
use borrow.Author.Tests.{ltb-true, ltb-false}
use Rattle.answer.specs.Limits.{max_components}
use Rattle.answer.specs.State.{numbers_from, parts_of, with_parts}
use Rattle.answer.specs.declared.State.{State}
use Rattle.answer.proofs.StateLaws.{parts-length, parts_at, parts-front}
use Rattle.words.specs.Bytes.{state_of, laid_over}

-- the places that the bytes fill
abbrev places : List ℕ → State
places bs = record { count = max_components; parts = bs }

-- laid over its own bytes, a state changes nothing
few : (bs : List ℕ) → length bs ≤ max_components → take (length bs) (parts_of (places bs)) ≡ bs
few bs h =
    let l = length-take-le (length bs) (parts_of (places bs)) (omega (arith, parts-length (places bs))) in
    ext_get_or 0 (take (length bs) (parts_of (places bs))) bs l (λ i k.
    let q : i < length bs = omega (arith, l) in
    get_or-take (length bs) (parts_of (places bs)) i 0 q ∙ parts_at (places bs) i (omega arith))

-- where there are no more bytes than places, they are the state's numbers
pub state-numbers : (bs : List ℕ) → length bs ≤ max_components → parts_of (state_of bs) ≡ bs
unfolding state_of parts_of
state-numbers bs h = parts-front (state_of bs) (omega (arith, parts-length (places bs))) ∙ few bs h

own : (bs : List ℕ) (b : Bool) → ltb max_components (length bs) ≡ b → take (length bs) (parts_of (places bs)) ++ drop (length (parts_of (places bs))) bs ≡ bs
own bs false h =
    let less = ltb-false max_components (length bs) h in
    let none : drop (length (parts_of (places bs))) bs ≡ [] = drop_of_length-le bs {i = length (parts_of (places bs))}
    (omega (arith, less, parts-length (places bs))) in
    ap₂ (λ a b. a ++ b) (few bs less) none ∙ append-nil bs
own bs true h =
    let more = ltb-true max_components (length bs) h in
    let all : take (length bs) (parts_of (places bs)) ≡ parts_of (places bs) = take_all (length bs) (parts_of (places bs))
    (omega (arith, more, parts-length (places bs))) in
    ap₂ (λ a k. a ++ drop k bs) (all ∙ parts-front (places bs) (omega (arith, more))) (parts-length (places bs)) ∙ take-append-drop max_components bs

pub laid-own : (bs : List ℕ) → laid_over (state_of bs).parts bs ≡ bs
unfolding laid_over state_of parts_of
laid-own bs = own bs (ltb max_components (length bs)) refl

-- laid over as many bytes, the new numbers stand there
pub laid-with : (bs ps : List ℕ) → length ps ≡ length bs → laid_over (with_parts (state_of bs) ps).parts bs ≡ ps
unfolding laid_over with_parts state_of
laid-with bs ps e =
    let rest = drop (length bs) (numbers_from bs 0 max_components) in
    let none : drop (length (ps ++ rest)) bs ≡ [] = drop_of_length-le bs {i = length (ps ++ rest)} (omega (arith, length-append ps rest)) in
    ap₂ (λ a b. a ++ b) (take_at ps rest (length bs) e) none ∙ append-nil ps
