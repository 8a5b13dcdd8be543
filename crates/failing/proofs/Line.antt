-- The line about a failure, by the parts in which it is put.
use mathlib.Core.Path.{◌≡◌, refl, sym, ap, ◌∙◌}
use mathlib.Core.List.{List, ◌++◌}
use Prim.Native.Nat.{ℕ, ◌+◌, ◌≤◌}
use native.Mathlib.Omega.{arith}
use lib.IntN.{ℤ}
use lib.ListN.{length, length-append}
use Rattle.model.specs.Text.{decimal}
use Rattle.measure.proofs.Fields.{width-most}
use Rattle.print.specs.Put.{Room, Put}
use Rattle.print.proofs.LaidLaws.{Left, Next, laid-length, left-all, left_as, left-next}
use Rattle.failing.specs.Line.{failure_line, error_number, error_word, close_word, longest_what}

-- what follows the first word, and what follows the second
abbrev pub behind : ℤ → List ℕ
behind e = error_word ++ (decimal (error_number e) ++ close_word)

abbrev pub digits : ℤ → List ℕ
digits e = decimal (error_number e) ++ close_word

pub line-length : (what : List ℕ) (e : ℤ) → length (failure_line what e) ≤ length what + 15
unfolding failure_line
line-length what e =
    omega (
      arith,
      length-append what (behind e),
      length-append error_word (digits e),
      length-append (decimal (error_number e)) close_word,
      width-most (error_number e),
    )

pub first-left : (line what : List ℕ) (e : ℤ) → length what + 15 ≤ length line → Next line 0 (failure_line what e) line 0 what (behind e)
unfolding failure_line
first-left line what e h = left_as (left-all line 0 (failure_line what e) (omega (arith, line-length what e))) what (behind e) refl

-- what is left once both words are put: the number, and the line's end; and once the number is put
pub after-words : {line what one two : List ℕ} {a b n : ℕ} (e : ℤ) → length what + 15 ≤ length line → Put line 0 what one a → Put one a error_word two b
    → n ≡ error_number e → Next line 0 (failure_line what e) two b (decimal n) close_word
after-words {line} {what} {n = n} e h p q same =
    left_as (left-next (left_as (left-next (first-left line what e h) p) error_word (digits e) refl) q) (decimal n) close_word (ap (λ (k : ℕ). decimal k ++ close_word) (sym same))

pub after_number : {line what one two three : List ℕ} {a b c n : ℕ} (e : ℤ) → length what + 15 ≤ length line → Put line 0 what one a → Put one a error_word two b
    → n ≡ error_number e → Put two b (decimal n) three c → Left line 0 (failure_line what e) three c close_word
after_number e h p q same r = left-next (after-words e h p q same) r

-- the line's end lies within a buffer of 128 bytes
pub line-ends : (what : List ℕ) (e : ℤ) {old new : List ℕ} {end : ℕ} → length old ≡ 128 → length what ≤ longest_what
    → Put old 0 (failure_line what e) new end → end ≤ length new
line-ends what e {old} {new} {end} h w p =
    let room : Room old 0 (failure_line what e) = omega (arith, line-length what e) in
    omega (arith, room, p.place, ap length p.buffer ∙ laid-length old 0 (failure_line what e) room)
