-- A request's numbers, kept as a state: in the range of a model exactly where they are, and the same there.
use mathlib.Core.Path.{◌≡◌, refl, sym, ◌∙◌, ap, ap₂}
use mathlib.Core.Logic.{by_cases}
use mathlib.Core.Bool.{true, ◌&&◌}
use mathlib.Core.List.{List, [], ◌∷◌, ◌++◌, map, append-nil}
use Prim.Native.Nat.{ℕ, ◌+◌, ◌≤◌, ◌<◌}
use native.Mathlib.Omega.{arith}
use native.Mathlib.Numerals.{add-one}
use native.Mathlib.Decide.{dec_lt}
use lib.ListN.{length, take, set, length-set, length-replicate}
use lib.Seq.{take-suc-set, append_snoc}
use lib.Dec.{ltb}
use borrow.Author.Tests.{lt-ltb, le-ltb, ltb-true}
use Rattle.laws.proofs.TestLaws.{and-true}
use Rattle.answer.specs.Limits.{max_components, max_states, no_state}
use Rattle.answer.specs.declared.State.{State}
use Rattle.answer.specs.State.{numbers_from, parts_of}
use Rattle.answer.proofs.StateLaws.{parts-front, parts-length}
use Rattle.model.specs.Model.{Model}
use Rattle.iosa.specs.Step.{in_range}
use Rattle.iosa.proofs.Settling.Range.{range_length, wrong-length}
use Rattle.request.specs.Kept.{byte_of, with, with_all, held}

-- ---- one number more
module _ (x : State) (n : ℕ) (len : length x.parts ≡ max_components) where
  with-place : x.count < max_components → with x n ≡ record { count = x.count + 1; parts = set x.parts x.count (byte_of n) }
  with-place h = rw (lt-ltb x.count max_components h)

  with_none : max_components ≤ x.count → with x n ≡ record { count = max_components + 1; parts = x.parts }
  with_none h = rw (le-ltb x.count max_components h)

  with-places : length (with x n).parts ≡ max_components
  with-places = by_cases (dec_lt x.count max_components)
      (λ h. ap (λ y. length y.parts) (with-place h) ∙ length-set x.parts x.count (byte_of n) ∙ len)
      (λ h. ap (λ y. length y.parts) (with_none (omega arith)) ∙ len)

  with-parts-more : x.count < max_components → parts_of (with x n) ≡ parts_of x ++ (byte_of n ∷ [])
  with-parts-more h =
      let y : State = record { count = x.count + 1; parts = set x.parts x.count (byte_of n) } in
      let room : y.count ≤ length y.parts = omega (arith, length-set x.parts x.count (byte_of n), len) in
      ap parts_of (with-place h) ∙ parts-front y room
      ∙ ap (λ k. take k (set x.parts x.count (byte_of n))) (add-one x.count)
      ∙ take-suc-set x.parts x.count (byte_of n) (omega (arith, len))
      ∙ ap (λ l. l ++ (byte_of n ∷ [])) (sym (parts-front x (omega (arith, len))))

-- ---- all of them
all_held : (x : State) (ns : List ℕ) → length x.parts ≡ max_components → x.count + length ns ≤ max_components
    → parts_of (with_all x ns) ≡ parts_of x ++ map byte_of ns
unfolding with_all
all_held x [] len h = sym (append-nil (parts_of x))
all_held x (n ∷ ns) len h =
    let c : (with x n).count ≡ x.count + 1 = ap (λ y. y.count) (with-place x n len (omega arith)) in
    all_held (with x n) ns (with-places x n len) (omega (arith, c))
    ∙ ap (λ l. l ++ map byte_of ns) (with-parts-more x n len (omega arith))
    ∙ append_snoc (parts_of x) (byte_of n) (map byte_of ns)

is_too_many : (x : State) (ns : List ℕ) → length x.parts ≡ max_components → x.count ≤ max_components + 1 → max_components < x.count + length ns
    → (with_all x ns).count ≡ max_components + 1
unfolding with_all
is_too_many x [] len le h = omega arith
is_too_many x (n ∷ ns) len le h = by_cases (dec_lt x.count max_components)
    (λ p. let c : (with x n).count ≡ x.count + 1 = ap (λ y. y.count) (with-place x n len p) in is_too_many (with x n) ns (with-places x n len)
    (omega (arith, c)) (omega (arith, c)))
    (λ p. let c : (with x n).count ≡ max_components + 1 = ap (λ y. y.count) (with_none x n len (omega arith)) in is_too_many (with x n) ns
    (with-places x n len) (omega (arith, c)) (omega (arith, c)))

pub held-few : (ns : List ℕ) → length ns ≤ max_components → parts_of (held ns) ≡ map byte_of ns
unfolding held parts_of numbers_from
held-few ns h = all_held no_state ns (length-replicate {A = ℕ} max_components 0) (omega arith)

pub held-many : (ns : List ℕ) → max_components < length ns → length (parts_of (held ns)) ≡ max_components + 1
unfolding held
held-many ns h = parts-length (with_all no_state ns) ∙ is_too_many no_state ns (length-replicate {A = ℕ} max_components 0) (omega arith) (omega arith)

-- ---- in range
-- every component has no more states than a model may have
unfoldable pub Few : Model → Type 0
Few [] = Unit {0}
Few (c ∷ cs) = (c.states ≤ max_states) × Few cs

byte-below : (n k : ℕ) → k ≤ max_states → ltb (byte_of n) k ≡ ltb n k
byte-below n k h =
    by_cases (dec_lt n 255) (λ p. rw (lt-ltb n 255 p))
    (λ p. rw (le-ltb n 255 (omega arith)) (le-ltb 255 k (omega arith) ∙ sym (le-ltb n k (omega arith))))

byte-same : (n k : ℕ) → k ≤ max_states → ltb n k ≡ true → byte_of n ≡ n
byte-same n k h e = rw (lt-ltb n 255 (omega (arith, ltb-true n k e)))

range-bytes : (m : Model) → Few m → (ns : List ℕ) → in_range m (map byte_of ns) ≡ in_range m ns
unfolding in_range Few
range-bytes [] f [] = refl
range-bytes [] f (n ∷ ns) = refl
range-bytes (c ∷ cs) f [] = refl
range-bytes (c ∷ cs) f (n ∷ ns) = ap₂ ◌&&◌ (byte-below n c.states f.0) (range-bytes cs f.1 ns)

bytes_same : (m : Model) → Few m → (ns : List ℕ) → in_range m ns ≡ true → map byte_of ns ≡ ns
unfolding in_range Few
bytes_same [] f [] e = refl
bytes_same [] f (n ∷ ns) e = absurd (let z : ◌≡◌ {A = ℕ} 0 1 = cc in omega arith)
bytes_same (c ∷ cs) f [] e = refl
bytes_same (c ∷ cs) f (n ∷ ns) e =
    let p = and-true (ltb n c.states) (in_range cs ns) e in
    ap₂ ◌∷◌ (byte-same n c.states f.0 p.0) (bytes_same cs f.1 ns p.1)

module _ (m : Model) (few : Few m) (size : length m ≤ max_components) (ns : List ℕ) where
  pub held-in-range : in_range m (parts_of (held ns)) ≡ in_range m ns
  held-in-range = by_cases (dec_lt max_components (length ns))
      (λ h. wrong-length m (parts_of (held ns)) (λ e. omega (arith, held-many ns h)) ∙ sym (wrong-length m ns (λ e. omega arith)))
      (λ h. ap (in_range m) (held-few ns (omega arith)) ∙ range-bytes m few ns)

  pub held_same : in_range m ns ≡ true → parts_of (held ns) ≡ ns
  held_same e = held-few ns (omega (arith, range_length m ns e)) ∙ bytes_same m few ns e
