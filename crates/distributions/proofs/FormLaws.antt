-- A number by its bits, two ends, and either form, by what their parts come to.
use mathlib.Core.Path.{◌≡◌, refl, sym, ◌∙◌, ap}
use mathlib.Core.Bool.{Bool, true, false, cond}
use mathlib.Core.List.{List}
use Prim.Native.Nat.{ℕ}
use native.Mathlib.Omega.{arith}
use lib.Ieee.{Float, binary64, of_bits, nan_bits}
use Rattle.std.specs.Prelude.{Some, None}
use Rattle.model.specs.Reading.{Scan, stops, got, exactly, field}
use Rattle.fields.proofs.ScanLaws.{then_is, then-stops}
use Rattle.bits.specs.Bits.{real_of}
use Rattle.draw.specs.declared.Law.{Law}
use Rattle.draw.specs.declared.Law.TheVariants.{Uniform, Mixture}
use Rattle.draw.specs.Draw.{lawful}
use Rattle.drawing.specs.File.{hex_digits, hex_at, Range, real_at, range_at, ended, uni_word, mix_word, uni_at, mix_at, form_at, law_at}

-- ---- a number by its bits
module _ (bs : List ℕ) where
  abbrev number : ℕ → List ℕ → Scan Float
  number n cs = cond (nan_bits binary64 n) (stops bs) (got (of_bits binary64 n) cs)

  pub no-digits : {cs : List ℕ} → hex_at hex_digits bs ≡ stops cs → stops cs ≡ real_at bs
  unfolding real_at
  no-digits e = sym (then-stops number e)

  module _ {n : ℕ} {cs : List ℕ} (e : hex_at hex_digits bs ≡ got n cs) where
    pub is_number : (x : Float) → real_of n ≡ Some x → got x cs ≡ real_at bs
    unfolding real_at real_of
    is_number x w = go (nan_bits binary64 n) w ∙ sym (then_is number e)
      where
        go : (b : Bool) → cond b None (Some (of_bits binary64 n)) ≡ Some x → got x cs ≡ cond b (stops bs) (got (of_bits binary64 n) cs)
        go true f = let z : ◌≡◌ {A = ℕ} 0 1 = cc in absurd (omega arith)
        go false f = let y : x ≡ of_bits binary64 n = cc in ap (λ (y : Float). got y cs) y

    pub is_nan : real_of n ≡ None → stops bs ≡ real_at bs
    unfolding real_at real_of
    is_nan w = go (nan_bits binary64 n) w ∙ sym (then_is number e)
      where
        go : (b : Bool) → cond b None (Some (of_bits binary64 n)) ≡ None → stops bs ≡ cond b (stops bs) (got (of_bits binary64 n) cs)
        go true f = refl
        go false f = let z : ◌≡◌ {A = ℕ} 0 1 = cc in absurd (omega arith)

-- ---- two ends
module _ (bs : List ℕ) where
  pub no_lower : {cs : List ℕ} → field real_at bs ≡ stops cs → stops cs ≡ range_at bs
  unfolding range_at
  no_lower e = rw (e, range_at)

  module _ {a : Float} {cs : List ℕ} (e : field real_at bs ≡ got a cs) where
    pub no-upper : {ds : List ℕ} → field real_at cs ≡ stops ds → stops ds ≡ range_at bs
    unfolding range_at
    no-upper f = rw (e, range_at) (rw f)

    pub both_ends : {b : Float} {ds : List ℕ} → field real_at cs ≡ got b ds → got (record { lower = a; upper = b }) ds ≡ range_at bs
    unfolding range_at
    both_ends f = rw (e, range_at) (rw f)

-- ---- behind `uni`
module _ (bs : List ℕ) where
  pub uni-none : {cs : List ℕ} → range_at bs ≡ stops cs → stops cs ≡ uni_at bs
  unfolding uni_at
  uni-none e = rw (e, uni_at)

  pub uni-on : {r : Range} {cs : List ℕ} → range_at bs ≡ got r cs → ended (Uniform r.lower r.upper) cs ≡ uni_at bs
  unfolding uni_at
  uni-on e = rw (e, uni_at)

-- ---- behind `mix`
module _ (bs : List ℕ) where
  pub no-weight : {cs : List ℕ} → field real_at bs ≡ stops cs → stops cs ≡ mix_at bs
  unfolding mix_at
  no-weight e = rw (e, mix_at)

  module _ {w : Float} {cs : List ℕ} (e : field real_at bs ≡ got w cs) where
    pub no-first : {ds : List ℕ} → range_at cs ≡ stops ds → stops ds ≡ mix_at bs
    unfolding mix_at
    no-first f = rw (e, mix_at) (rw f)

    module _ {r : Range} {ds : List ℕ} (f : range_at cs ≡ got r ds) where
      pub no_second : {es : List ℕ} → range_at ds ≡ stops es → stops es ≡ mix_at bs
      unfolding mix_at
      no_second g = rw (e, mix_at) (rw f (rw g))

      pub mix-on : {q : Range} {es : List ℕ} → range_at ds ≡ got q es → ended (Mixture w r.lower r.upper q.lower q.upper) es ≡ mix_at bs
      unfolding mix_at
      mix-on g = rw (e, mix_at) (rw f (rw g))

-- ---- one word or the other
module _ (bs : List ℕ) where
  pub form-uni : {cs : List ℕ} → exactly uni_word bs ≡ got tt cs → uni_at cs ≡ form_at bs
  unfolding form_at
  form-uni e = rw (e, form_at)

  module _ {cs : List ℕ} (e : exactly uni_word bs ≡ stops cs) where
    pub form-mix : {ds : List ℕ} → exactly mix_word bs ≡ got tt ds → mix_at ds ≡ form_at bs
    unfolding form_at
    form-mix f = rw (e, form_at) (rw f)

    pub form-none : {ds : List ℕ} → exactly mix_word bs ≡ stops ds → stops ds ≡ form_at bs
    unfolding form_at
    form-none f = rw (e, form_at) (rw f)

-- ---- what stands behind a clock's number
module _ (bs : List ℕ) where
  pub law-none : {cs : List ℕ} → field form_at bs ≡ stops cs → stops cs ≡ law_at bs
  unfolding law_at
  law-none e = rw (e, law_at)

  module _ {l : Law} {cs : List ℕ} (e : field form_at bs ≡ got l cs) where
    pub law-is : lawful l ≡ true → got l cs ≡ law_at bs
    unfolding law_at
    law-is f = rw (e, law_at) (rw f)

    pub law-not : lawful l ≡ false → stops bs ≡ law_at bs
    unfolding law_at
    law-not f = rw (e, law_at) (rw f)
