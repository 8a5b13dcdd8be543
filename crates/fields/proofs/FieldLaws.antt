-- A guard, a kind: which of its words stands there decides.
use mathlib.Core.Path.{◌≡◌, sym, ◌∙◌, ap}
use mathlib.Core.Option.{none, some}
use mathlib.Core.List.{List, []}
use Prim.Native.Nat.{ℕ, ◌≤◌, ◌<◌}
use native.Mathlib.Omega.{arith}
use native.Mathlib.Decide.{dec_lt}
use lib.ListN.{length, drop, length-drop, drop_of_length-le}
use borrow.Author.Tests.{lt-ltb, le-ltb}
use Rattle.model.specs.Text.{dash, in-kind, out-kind, uin-kind, uout-kind, kind_word}
use Rattle.model.specs.Reading.{stops, got, then, shorter, exactly, the_byte, number, guard_or_dash, numbers, numbers_or_dash, kind}

module _ (bs : List ℕ) where
  pub guard-dash : {cs : List ℕ} → the_byte dash bs ≡ got tt cs → guard_or_dash bs ≡ got none cs
  unfolding guard_or_dash
  guard-dash e = rw (e, guard_or_dash)

  pub guard-clock : {ds : List ℕ} → the_byte dash bs ≡ stops ds → guard_or_dash bs ≡ then (number bs) (λ x cs. got (some x) cs)
  unfolding guard_or_dash
  guard-clock e = rw (e, guard_or_dash)

  pub resets-dash : {cs : List ℕ} → the_byte dash bs ≡ got tt cs → numbers_or_dash bs ≡ got [] cs
  unfolding numbers_or_dash
  resets-dash e = rw (e, numbers_or_dash)

  pub resets-numbers : {ds : List ℕ} → the_byte dash bs ≡ stops ds → numbers_or_dash bs ≡ numbers bs
  unfolding numbers_or_dash
  resets-numbers e = rw (e, numbers_or_dash)

  pub kind-in : {cs : List ℕ} → exactly (kind_word in-kind) bs ≡ got tt cs → kind bs ≡ got in-kind cs
  unfolding kind
  kind-in e = rw (e, kind)

  pub kind-out : {x cs : List ℕ} → exactly (kind_word in-kind) bs ≡ stops x → exactly (kind_word out-kind) bs ≡ got tt cs → kind bs ≡ got out-kind cs
  unfolding kind
  kind-out a e = rw (a, e, kind)

  pub kind-uin : {x y cs : List ℕ} → exactly (kind_word in-kind) bs ≡ stops x → exactly (kind_word out-kind) bs ≡ stops y
      → exactly (kind_word uin-kind) bs ≡ got tt cs
      → kind bs ≡ got uin-kind cs
  unfolding kind
  kind-uin a b e = rw (a, b, e, kind)

  pub kind-uout : {x y z cs : List ℕ} → exactly (kind_word in-kind) bs ≡ stops x → exactly (kind_word out-kind) bs ≡ stops y
      → exactly (kind_word uin-kind) bs ≡ stops z
      → exactly (kind_word uout-kind) bs ≡ got tt cs → kind bs ≡ got uout-kind cs
  unfolding kind
  kind-uout a b c e = rw (a, b, c, e, kind)

  pub kind-none : {x y z v : List ℕ} → exactly (kind_word in-kind) bs ≡ stops x → exactly (kind_word out-kind) bs ≡ stops y
      → exactly (kind_word uin-kind) bs ≡ stops z
      → exactly (kind_word uout-kind) bs ≡ stops v → kind bs ≡ stops (shorter x (shorter y (shorter z v)))
  unfolding kind
  kind-none a b c e = rw (a, b, c, e, kind)

-- of two places to stop, the one further on
pub further-on : (t : List ℕ) (a b : ℕ) → a < b → drop b t ≡ shorter (drop a t) (drop b t)
unfolding shorter
further-on t a b h = rw (le-ltb (length (drop a t)) (length (drop b t)) (omega (arith, length-drop a t, length-drop b t)))

pub not-further-on : (t : List ℕ) (a b : ℕ) → b ≤ a → drop a t ≡ shorter (drop a t) (drop b t)
unfolding shorter
not-further-on t a b h = go (dec_lt (length (drop a t)) (length (drop b t)))
  where
    same : length (drop b t) ≤ length (drop a t) → drop a t ≡ drop b t
    same l = at (dec_lt b (length t))
      where
        at : Dec (b < length t) → drop a t ≡ drop b t
        at (yes k) = ap (λ i. drop i t) (let e : a ≡ b = omega (arith, length-drop a t, length-drop b t) in e)
        at (no k) = let p : length t ≤ a = omega arith in let q : length t ≤ b = omega arith in drop_of_length-le t p ∙ sym (drop_of_length-le t q)

    go : Dec (length (drop a t) < length (drop b t)) → drop a t ≡ shorter (drop a t) (drop b t)
    go (yes k) = rw (lt-ltb (length (drop a t)) (length (drop b t)) k)
    go (no k) = let l : length (drop b t) ≤ length (drop a t) = omega arith in rw (le-ltb (length (drop a t)) (length (drop b t)) l) (same l)
