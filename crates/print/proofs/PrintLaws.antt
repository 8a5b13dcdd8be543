-- The fields by the parts in which they are put: digits, members, numbers behind commas.
use mathlib.Core.Path.{◌≡◌, refl, sym, ◌∙◌, ap}
use mathlib.Core.Logic.{by_cases}
use mathlib.Core.Bool.{Bool, true, false, ◌&&◌, true≢false}
use mathlib.Core.List.{List, [], ◌∷◌, ◌++◌}
use Prim.Native.Nat.{ℕ, zero, suc, ◌+◌, ◌-◌, ◌/◌, ◌%◌, ◌^◌, ◌≤◌, ◌<◌}
use native.Mathlib.Omega.{arith}
use native.Mathlib.Numerals.{add-one}
use native.Mathlib.Decide.{dec_lt}
use lib.ListN.{get_or}
use borrow.Author.Tests.{lt-ltb, le-ltb}
use Rattle.laws.specs.Sets.{has, only, ◌∖◌}
use Rattle.laws.specs.Search.{Least}
use Rattle.laws.proofs.SetLaws.{has-without, in_one, one_in, in_without, subset-le, in-below}
use Rattle.laws.proofs.SearchLaws.{least-some}
use Rattle.laws.proofs.TestLaws.{not_so}
use Rattle.answer.specs.Limits.{max_clocks}
use Rattle.answer.specs.declared.State.{State}
use Rattle.answer.specs.State.{numbers_from, parts_of}
use Rattle.sets.specs.Members.{word_bits, lowest_of}
use Rattle.sets.proofs.MemberLaws.{lowest-found}
use Rattle.model.proofs.Reading.Joined.{joined-none, joined-one, joined-more}
use Rattle.model.specs.Text.{byte0, comma, dash, digits_of, decimal, joined, members, guard_field, set_field}
use Rattle.model.proofs.Reading.Members.{members-same, members-none}
use Rattle.print.specs.Put.{leading}

-- ---- a number
pub below : (n scale : ℕ) → n < scale → leading n scale ≡ []
unfolding leading
below n scale h = rw (lt-ltb n scale h)

pub reaches : (n scale d : ℕ) → scale ≤ n → n / scale % 10 ≡ d → leading n scale ≡ (byte0 + d) ∷ []
unfolding leading
reaches n scale d h e = rw (le-ltb n scale h, e)

one-digit : (k n : ℕ) → n < 10 → digits_of (suc k) n ≡ (byte0 + n) ∷ []
unfolding digits_of
one-digit k n h = rw (lt-ltb n 10 h, digits_of)

more-digits : (k n : ℕ) → 10 ≤ n → digits_of (suc k) n ≡ digits_of k (n / 10) ++ (byte0 + n % 10) ∷ []
unfolding digits_of
more-digits k n h = rw (le-ltb n 10 h, digits_of)

last-digit : (n : ℕ) → digits_of 1 n ≡ (byte0 + n % 10) ∷ []
last-digit n = by_cases (dec_lt n 10)
    (λ h. one-digit 0 n h ∙ ap (λ d. (byte0 + d) ∷ []) (omega arith))
    (λ h. more-digits 0 n (omega arith) ∙ (unfold digits_of in refl))

-- l, and then the digit d
abbrev then : List ℕ → ℕ → List ℕ
then l d = l ++ (byte0 + d) ∷ []

-- the digits above the last, as far as the number reaches
abbrev parts : ℕ → List ℕ
parts n = leading n 10000 ++ (leading n 1000 ++ (leading n 100 ++ (leading n 10 ++ (byte0 + n % 10) ∷ [])))

parts-1 : (n : ℕ) → n < 10 → decimal n ≡ parts n
unfolding decimal
parts-1 n h =
    rw (below n 10000 (omega arith), below n 1000 (omega arith), below n 100 (omega arith), below n 10 h)
    (one-digit 4 n h ∙ ap (λ d. (byte0 + d) ∷ []) (omega arith))

parts-2 : (n : ℕ) → 10 ≤ n → n < 100 → decimal n ≡ parts n
unfolding decimal
parts-2 n h k =
    rw (below n 10000 (omega arith), below n 1000 (omega arith), below n 100 k, reaches n 10 (n / 10) h (omega arith))
    (more-digits 4 n h ∙ ap (λ l. then l (n % 10)) (one-digit 3 (n / 10) (omega arith)))

parts-3 : (n : ℕ) → 100 ≤ n → n < 1000 → decimal n ≡ parts n
unfolding decimal
parts-3 n h k =
    rw (below n 10000 (omega arith), below n 1000 k, reaches n 100 (n / 10 / 10) h (omega arith), reaches n 10 (n / 10 % 10) (omega arith) refl)
    (more-digits 4 n (omega arith) ∙ ap (λ l. then l (n % 10)) (more-digits 3 (n / 10) (omega arith) ∙ ap (λ l. then l (n / 10 % 10))
    (one-digit 2 (n / 10 / 10) (omega arith))))

parts-4 : (n : ℕ) → 1000 ≤ n → n < 10000 → decimal n ≡ parts n
unfolding decimal
parts-4 n h k =
    rw (
      below n 10000 k,
      reaches n 1000 (n / 10 / 10 / 10) h (omega arith),
      reaches n 100 (n / 10 / 10 % 10) (omega arith) (omega arith),
      reaches n 10 (n / 10 % 10) (omega arith) refl,
    )
    (more-digits 4 n (omega arith) ∙ ap (λ l. then l (n % 10)) (more-digits 3 (n / 10) (omega arith)
    ∙ ap (λ l. then l (n / 10 % 10)) (more-digits 2 (n / 10 / 10) (omega arith) ∙ ap (λ l. then l (n / 10 / 10 % 10))
    (one-digit 1 (n / 10 / 10 / 10) (omega arith)))))

parts-5 : (n : ℕ) → 10000 ≤ n → decimal n ≡ parts n
unfolding decimal
parts-5 n h =
    rw (
      reaches n 10000 (n / 10 / 10 / 10 / 10 % 10) h (omega arith),
      reaches n 1000 (n / 10 / 10 / 10 % 10) (omega arith) (omega arith),
      reaches n 100 (n / 10 / 10 % 10) (omega arith) (omega arith),
      reaches n 10 (n / 10 % 10) (omega arith) refl,
    )
    (more-digits 4 n (omega arith) ∙ ap (λ l. then l (n % 10)) (more-digits 3 (n / 10) (omega arith)
    ∙ ap (λ l. then l (n / 10 % 10)) (more-digits 2 (n / 10 / 10) (omega arith)
    ∙ ap (λ l. then l (n / 10 / 10 % 10)) (more-digits 1 (n / 10 / 10 / 10) (omega arith) ∙ ap (λ l. then l (n / 10 / 10 / 10 % 10))
    (last-digit (n / 10 / 10 / 10 / 10))))))

pub decimal-parts : (n : ℕ) → decimal n ≡ leading n 10000 ++ (leading n 1000 ++ (leading n 100 ++ (leading n 10 ++ (byte0 + n % 10) ∷ [])))
decimal-parts n =
    by_cases (dec_lt n 10) (parts-1 n) (λ a.
    by_cases (dec_lt n 100) (parts-2 n (omega arith)) (λ b.
    by_cases (dec_lt n 1000) (parts-3 n (omega arith)) (λ d.
    by_cases (dec_lt n 10000) (parts-4 n (omega arith)) (λ e. parts-5 n (omega arith)))))

-- ---- a guard
pub no-guard : (g : ℕ) → g ≡ 0 → guard_field g ≡ dash ∷ []
unfolding guard_field
no-guard zero e = refl
no-guard (suc x) e = absurd (omega arith)

pub some-guard : (g : ℕ) → (g ≡ 0 → ⊥) → guard_field g ≡ decimal (g - 1)
unfolding guard_field
some-guard zero h = absurd (h refl)
some-guard (suc x) h = ap decimal (omega arith)

-- ---- numbers joined by commas: the first, and each other behind a comma
unfoldable pub each : List ℕ → List ℕ
each [] = []
each (n ∷ ns) = (comma ∷ decimal n) ++ each ns

pub joined-each : (n : ℕ) (ns : List ℕ) → joined (n ∷ ns) ≡ decimal n ++ each ns
unfolding each
joined-each n [] = joined-one n
joined-each n (m ∷ ns) = joined-more n m ns ∙ ap (λ l. decimal n ++ comma ∷ l) (joined-each m ns)

-- ---- a set
pub no-set : (s : ℕ) → s ≡ 0 → set_field s ≡ dash ∷ []
unfolding set_field
no-set zero e = refl
no-set (suc x) e = absurd (omega arith)

some-set : (s : ℕ) → (s ≡ 0 → ⊥) → set_field s ≡ joined (members s max_clocks 0)
unfolding set_field
some-set zero h = absurd (h refl)
some-set (suc x) h = refl

-- the members of a word
abbrev pub clocks_in : ℕ → List ℕ
clocks_in s = members s max_clocks 0

-- the first member, and what is left without it
first_out : (s t x n k : ℕ) → k ≤ x → x < k + n → has s x ≡ true → has t x ≡ false
    → ((j : ℕ) → j < x → has s j ≡ false) → ((j : ℕ) → j < x → has t j ≡ false) → ((j : ℕ) → suc x ≤ j → has s j ≡ has t j)
    → members s n k ≡ x ∷ members t n k
unfolding members
first_out s t x zero k p q a b f g e = absurd (omega arith)
first_out s t x (suc n) k p q a b f g e = by_cases (dec_lt k x)
    (λ r. rw (f k r, g k r) (first_out s t x n (suc k) r (omega arith) a b f g e))
    (λ r. let z : k ≡ x = omega arith in rw (z, a, b) (ap (λ l. x ∷ l) (members-same s t n (suc x) (λ j h. e j h))))

module _ (s : ℕ) (inhabited : s ≡ 0 → ⊥) (fits : s < 2 ^ word_bits) where
  lowest-least : Least (has s) word_bits (lowest_of s)
  lowest-least = least-some (has s) word_bits (lowest_of s) (lowest-found s (λ x h. in-below word_bits s x fits h) inhabited)

  pub lowest-below : lowest_of s < word_bits
  lowest-below = lowest-least.below

  without-lowest : (j : ℕ) → (j ≡ lowest_of s → ⊥) → has (s ∖ only (lowest_of s)) j ≡ has s j
  without-lowest j h = has-without s (only (lowest_of s)) j ∙ rw (not_so (has (only (lowest_of s)) j) (λ e. h (one_in (lowest_of s) j e))) (and-not (has s j))
    where
      and-not : (b : Bool) → (b && true) ≡ b
      and-not true = refl
      and-not false = refl

  lowest-gone : has (s ∖ only (lowest_of s)) (lowest_of s) ≡ false
  lowest-gone =
      not_so (has (s ∖ only (lowest_of s)) (lowest_of s))
      (λ h. true≢false (sym (in_one (lowest_of s)) ∙ (in_without s (only (lowest_of s)) (lowest_of s) h).1))

  pub lowest-first : clocks_in s ≡ lowest_of s ∷ clocks_in (s ∖ only (lowest_of s))
  lowest-first =
      let l = lowest-least in
      first_out s (s ∖ only (lowest_of s)) (lowest_of s) max_clocks 0 (omega arith) lowest-below l.here lowest-gone l.before
      (λ j h. without-lowest j (λ e. omega arith) ∙ l.before j h)
      (λ j h. sym (without-lowest j (λ e. omega arith)))

  pub set-parts : set_field s ≡ decimal (lowest_of s) ++ each (clocks_in (s ∖ only (lowest_of s)))
  set-parts = some-set s inhabited ∙ ap joined lowest-first ∙ joined-each (lowest_of s) (clocks_in (s ∖ only (lowest_of s)))

  pub each-parts : each (clocks_in s) ≡ (comma ∷ decimal (lowest_of s)) ++ each (clocks_in (s ∖ only (lowest_of s)))
  unfolding each
  each-parts = ap each lowest-first

  pub fewer : s ∖ only (lowest_of s) < s
  fewer = by_cases (dec_lt (s ∖ only (lowest_of s)) s) (λ h. h) (λ h.
      let le = subset-le (s ∖ only (lowest_of s)) s (λ x p. (in_without s (only (lowest_of s)) x p).0) in
      let e : s ∖ only (lowest_of s) ≡ s = omega arith in
      absurd (true≢false (sym lowest-least.here ∙ ap (λ w. has w (lowest_of s)) (sym e) ∙ lowest-gone)))

no-members : each (clocks_in 0) ≡ []
unfolding each
no-members = ap each (members-none max_clocks 0)

pub none_left : (s : ℕ) → s ≡ 0 → each (clocks_in s) ≡ []
none_left s e = ap (λ w. each (clocks_in w)) e ∙ no-members

-- ---- a composed state
pub numbers-done : (ps : List ℕ) (i n : ℕ) → n ≤ i → each (numbers_from ps i (n - i)) ≡ []
unfolding numbers_from each
numbers-done ps i n h = let e : n - i ≡ 0 = omega arith in rw e

pub numbers-next : (ps : List ℕ) (i n : ℕ) → i < n → each (numbers_from ps i (n - i)) ≡ (comma ∷ decimal (get_or ps i 0))
    ++ each (numbers_from ps (i + 1) (n - (i + 1)))
unfolding numbers_from each
numbers-next ps i n h =
    let e : n - i ≡ suc (n - (i + 1)) = omega arith in
    rw e (ap (λ k. (comma ∷ decimal (get_or ps i 0)) ++ each (numbers_from ps k (n - (i + 1)))) (sym (add-one i)))

pub no-parts : (x : State) → x.count ≡ 0 → joined (parts_of x) ≡ []
unfolding parts_of numbers_from
no-parts x e = rw e joined-none

pub joined-parts : (x : State) → (x.count ≡ 0 → ⊥) → joined (parts_of x) ≡ decimal (get_or x.parts 0 0) ++ each (numbers_from x.parts 1 (x.count - 1))
unfolding parts_of numbers_from
joined-parts x h =
    let e : x.count ≡ suc (x.count - 1) = omega arith in
    ap (λ n. joined (numbers_from x.parts 0 n)) e ∙ joined-each (get_or x.parts 0 0) (numbers_from x.parts 1 (x.count - 1))
