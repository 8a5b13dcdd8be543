-- Parts of a text that begins, from a place on, with known bytes.
use mathlib.Core.Path.{◌≡◌, refl, sym, ◌∙◌, ap}
use mathlib.Core.List.{List, [], ◌∷◌, ◌++◌, append_assoc}
use Prim.Native.Nat.{ℕ, zero, suc, ◌+◌, ◌-◌, ◌≤◌, ◌<◌}
use native.Mathlib.Omega.{arith}
use native.Mathlib.Decide.{dec_lt}
use lib.ListN.{length, take, drop, length-append, length-drop, drop_of_length-le}
use lib.Seq.{slice, take_at, drop-drop, drop_at}

abbrev nothing : List ℕ
nothing = []

take-nil : (n : ℕ) → take n nothing ≡ []
take-nil zero = refl
take-nil (suc n) = refl

drop-nil : (n : ℕ) → drop n nothing ≡ []
drop-nil zero = refl
drop-nil (suc n) = refl

-- the k bytes from a place on
pub part : (l : List ℕ) (at k : ℕ) → slice at (at + k) l ≡ take k (drop at l)
part l zero k = ap (λ n. take n l) (let e : 0 + k ≡ k = omega arith in e)
part [] (suc at) k = ap (drop (suc at)) (take-nil (suc at + k)) ∙ drop-nil (suc at) ∙ sym (take-nil k)
part (x ∷ l) (suc at) k = ap (λ n. slice (suc at) n (x ∷ l)) (let e : suc at + k ≡ suc (at + k) = omega arith in e) ∙ part l at k

pub part-is : (l : List ℕ) (at stop : ℕ) (F X : List ℕ) → drop at l ≡ F ++ X → stop ≡ at + length F → slice at stop l ≡ F
part-is l at stop F X e h = ap (λ n. slice at n l) h ∙ part l at (length F) ∙ ap (take (length F)) e ∙ take_at F X (length F) refl

pub behind-is : (l : List ℕ) (at to : ℕ) (F X : List ℕ) → drop at l ≡ F ++ X → to ≡ at + length F → drop to l ≡ X
behind-is l at to F X e h = ap (λ n. drop n l) h ∙ sym (drop-drop (length F) at l) ∙ ap (drop (length F)) e ∙ drop_at F X (length F) refl

-- a place is held within the text
pub held : (l : List ℕ) (k to : ℕ) → (k ≤ length l → to ≡ k) → (length l < k → to ≡ length l) → (drop to l ≡ drop k l) × (to ≤ length l)
held l k to f g = elim (dec_lt (length l) k) [
  | yes h ↦
      let e = g h in
      (drop_of_length-le l {i = to} (omega arith) ∙ sym (drop_of_length-le l {i = k} (omega arith)), omega arith)
  | no h ↦ let e = f (omega arith) in (ap (λ n. drop n l) e, omega arith)
]

-- where what is behind a line begins
pub next-is : (l : List ℕ) (at next : ℕ) (F : List ℕ) → drop at l ≡ F ++ drop next l → at ≤ length l → next ≤ length l → next ≡ at + length F
next-is l at next F e h k = omega (arith, ap length e, length-append F (drop next l), length-drop at l, length-drop next l)

-- ---- two parts of a text and bytes between them, as the code takes them
part-as : (l : List ℕ) (at stop : ℕ) → at ≤ stop → slice at stop l ≡ take (stop - at) (drop at l)
part-as l at stop h = ap (λ n. slice at n l) (let e : stop ≡ at + (stop - at) = omega arith in e) ∙ part l at (stop - at)

pub three-parts : (l : List ℕ) (at stop go next : ℕ) (middle : List ℕ) → at ≤ stop → go ≤ next
    → slice at stop l ++ middle ++ slice go next l ≡ take (stop - at) (drop at l) ++ (middle ++ take (next - go) (drop go l))
three-parts l at stop go next middle h k =
    append_assoc (slice at stop l) middle (slice go next l) ∙ (λ i. part-as l at stop h i ++ (middle ++ part-as l go next k i))
