-- A walk over the members of a set: its lowest member is taken out, then that of what is left, until nothing is.
use mathlib.Core.Path.{◌≡◌, refl, sym, ◌∙◌, ap}
use mathlib.Core.Logic.{by_cases}
use mathlib.Core.Option.{none, some}
use mathlib.Core.Bool.{Bool, true, false, ◌&&◌, true≢false}
use Prim.Native.Nat.{ℕ, ◌^◌, ◌<◌}
use native.Mathlib.Decide.{dec_lt}
use native.Mathlib.Omega.{arith}
use Rattle.laws.specs.Sets.{has, only, ◌∖◌, ◌∈◌}
use Rattle.laws.specs.Search.{least}
use Rattle.laws.proofs.SetLaws.{has-without, in_one, one_in, in_without, subset-le, in-below, none_in}
use Rattle.laws.proofs.SearchLaws.{least-some, none-least, some-least}
use Rattle.laws.proofs.TestLaws.{not_so}
use Rattle.sets.specs.Members.{word_bits, lowest_of}
use Rattle.sets.proofs.MemberLaws.{lowest-found}

-- x is the lowest member of s
pub record Front (s x : ℕ) : Type 0 where
  pub below : x < word_bits
  pub member : x ∈ s
  pub first : (y : ℕ) → y < x → has s y ≡ false

-- t is s without x
pub record Rest (s x t : ℕ) : Type 0 where
  pub fits : t < 2 ^ word_bits
  pub less : t < s
  pub gone : has t x ≡ false
  pub same : (y : ℕ) → (y ≡ x → ⊥) → has t y ≡ has s y

and-true : (b : Bool) → (b && true) ≡ b
and-true true = refl
and-true false = refl

module _ (s : ℕ) (fits : s < 2 ^ word_bits) (inhabited : s ≡ 0 → ⊥) (x : ℕ) (lowest : x ≡ lowest_of s) where
  pub front : Front s x
  front =
      let l = least-some (has s) word_bits (lowest_of s) (lowest-found s (λ y h. in-below word_bits s y fits h) inhabited) in
      rw lowest (record { below = l.below; member = l.here; first = l.before })

  pub rest : (o t : ℕ) → o ≡ only x → t ≡ s ∖ o → Rest s x t
  rest o t eo et = rw (et ∙ ap (λ w. s ∖ w) eo) (record {
    fits = omega (arith, less);
    less = less;
    gone = gone;
    same = λ y n. has-without s (only x) y ∙ rw (not_so (has (only x) y) (λ e. n (one_in x y e))) (and-true (has s y));
  })
    where
      gone : has (s ∖ only x) x ≡ false
      gone = not_so (has (s ∖ only x) x) (λ h. true≢false (sym (in_one x) ∙ (in_without s (only x) x h).1))

      less : s ∖ only x < s
      less = by_cases (dec_lt (s ∖ only x) s) (λ h. h) (λ h.
          let le = subset-le (s ∖ only x) s (λ y p. (in_without s (only x) y p).0) in
          let e : s ∖ only x ≡ s = omega arith in
          absurd (true≢false (sym front.member ∙ ap (λ w. has w x) (sym e) ∙ gone)))

-- nothing is left
pub none_left : (s y : ℕ) → s ≡ 0 → has s y ≡ false
none_left s y e = not_so (has s y) (λ h. none_in y (rw (← e) h))

-- ---- a search
-- whatever has the test is left
pub record Awaits (f : ℕ → Bool) (left : ℕ) : Type 0 where
  pub among : (y : ℕ) → y < word_bits → f y ≡ true → y ∈ left

module _ (f : ℕ → Bool) (left : ℕ) (w : Awaits f left) where
  pub awaits-here : (x : ℕ) → Front left x → f x ≡ true → least f word_bits ≡ some x
  awaits-here x i e = some-least f word_bits x (record {
    below = i.below;
    here = e;
    before = λ y h. not_so (f y) (λ t. true≢false (sym (w.among y (omega (arith, i.below)) t) ∙ i.first y h));
  })

  pub awaits-next : (x t : ℕ) → Rest left x t → f x ≡ false → Awaits f t
  awaits-next x t r e = record { among = λ y h q. r.same y (λ n. true≢false (sym q ∙ ap f n ∙ e)) ∙ w.among y h q }

  pub awaits-none : left ≡ 0 → least f word_bits ≡ none
  awaits-none z = none-least f word_bits (λ y h. not_so (f y) (λ t. true≢false (sym (w.among y h t) ∙ none_left left y z)))
