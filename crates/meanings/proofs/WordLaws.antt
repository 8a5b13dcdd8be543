-- The words of a tree's actions mean what `meanings` lists.
use mathlib.Core.Path.{◌≡◌, refl, sym, ◌∙◌, ap, ap₂}
use mathlib.Core.Bool.{Bool, true, false, ◌&&◌, ◌||◌, cond}
use mathlib.Core.List.{List, [], ◌∷◌, ◌++◌, map}
use Prim.Native.Nat.{ℕ, suc, ◌+◌, ◌*◌, ◌<◌}
use native.Mathlib.Omega.{arith}
use native.Mathlib.Decide.{ℕ_discrete}
use lib.ListN.{length}
use lib.Arith.{digits_div, digits_mod}
use lib.Dec.{eqb}
use borrow.Author.Tests.{eq-eqb, ne_eqb}
use Rattle.laws.specs.Sets.{bit, has, only}
use Rattle.laws.specs.Fold.{tab}
use Rattle.laws.proofs.SetLaws.{has-or, in_one, bit-one-other, none_in}
use Rattle.laws.proofs.TestLaws.{not_so}
use Rattle.trees.specs.Tree.{Sort, be-sort, and-sort, or-sort, pand-sort, rbox-sort, Element, Tree, is_box, among, boxed, Meaning, signals_of, meant}
use Rattle.trees.specs.Tree.{meanings_from, meanings}
use Rattle.elements.specs.Parts.{signal_no, meaning_at}
use Rattle.meanings.specs.Words.{set_of, box_set, boxed_in, first_signal, signal_count, words_for, words_from, words_of}

-- ---- the set of the elements in boxes
has-only : (x v : ℕ) → has (only x) v ≡ eqb v x
has-only x v = go (ℕ_discrete v x)
  where
    go : Dec (v ≡ x) → has (only x) v ≡ eqb v x
    go (yes e) = ap (λ z. has (only z) v) (sym e) ∙ in_one v ∙ sym (eq-eqb v x e)
    go (no e) = ne_eqb (bit (only x) v) 1 (λ q. let z = bit-one-other x v (λ k. e (sym k)) in omega (arith, z, q)) ∙ sym (ne_eqb v x e)

has-set : (xs : List ℕ) (v : ℕ) → has (set_of xs) v ≡ among v xs
unfolding set_of among
has-set [] v = not_so (has 0 v) (none_in v)
has-set (x ∷ xs) v = has-or (only x) (set_of xs) v ∙ ap₂ ◌||◌ (has-only x v) (has-set xs v)

has-box : (e : Element) (v : ℕ) → has (box_set e) v ≡ (is_box e.sort && among v e.ins)
unfolding box_set
has-box e v = go (is_box e.sort)
  where
    go : (b : Bool) → has (cond b (set_of e.ins) 0) v ≡ (b && among v e.ins)
    go true = has-set e.ins v
    go false = not_so (has 0 v) (none_in v)

pub has-boxed : (t : Tree) (v : ℕ) → has (boxed_in t) v ≡ boxed t v
unfolding boxed_in boxed
has-boxed [] v = not_so (has 0 v) (none_in v)
has-boxed (e ∷ es) v = has-or (box_set e) (boxed_in es) v ∙ ap₂ ◌||◌ (has-box e v) (has-boxed es v)

-- ---- a word
abbrev means : ℕ → ℕ → Meaning
means v k = record { of = v; signal = signal_no k }

word : (v k m : ℕ) → k < 8 → m ≡ v * 8 + k → meaning_at m ≡ means v k
word v k m h e =
    ap meaning_at e ∙ ap₂ (λ x y. record { of = x; signal = signal_no y }) (digits_div v h) (digits_mod v h)

two-words : (v : ℕ) → map meaning_at (tab (λ k. v * 8 + 2 + k) 0 2) ≡ means v 2 ∷ means v 3 ∷ []
two-words v = ap₂ ◌∷◌ (word v 2 (v * 8 + 2 + 0) (omega arith) (omega arith)) (ap₂ ◌∷◌ (word v 3 (v * 8 + 2 + 1) (omega arith) (omega arith)) refl)

four-words : (v : ℕ) → map meaning_at (tab (λ k. v * 8 + 0 + k) 0 4) ≡ means v 0 ∷ means v 1 ∷ means v 2 ∷ means v 3 ∷ []
four-words v =
    ap₂ ◌∷◌ (word v 0 (v * 8 + 0 + 0) (omega arith) (omega arith))
    (ap₂ ◌∷◌ (word v 1 (v * 8 + 0 + 1) (omega arith) (omega arith))
    (ap₂ ◌∷◌ (word v 2 (v * 8 + 0 + 2) (omega arith) (omega arith)) (ap₂ ◌∷◌ (word v 3 (v * 8 + 0 + 3) (omega arith) (omega arith)) refl)))

five-words : (v : ℕ) → map meaning_at (tab (λ k. v * 8 + 0 + k) 0 5) ≡ means v 0 ∷ means v 1 ∷ means v 2 ∷ means v 3 ∷ means v 4 ∷ []
five-words v =
    ap₂ ◌∷◌ (word v 0 (v * 8 + 0 + 0) (omega arith) (omega arith))
    (ap₂ ◌∷◌ (word v 1 (v * 8 + 0 + 1) (omega arith) (omega arith))
    (ap₂ ◌∷◌ (word v 2 (v * 8 + 0 + 2) (omega arith) (omega arith))
    (ap₂ ◌∷◌ (word v 3 (v * 8 + 0 + 3) (omega arith) (omega arith)) (ap₂ ◌∷◌ (word v 4 (v * 8 + 0 + 4) (omega arith) (omega arith)) refl))))

line-words : (q : Sort) (v : ℕ) (b : Bool) → map meaning_at (tab (λ k. v * 8 + first_signal q + k) 0 (signal_count q b)) ≡ meant v (signals_of q b)
unfolding signal_no
line-words be-sort v true = five-words v
line-words be-sort v false = four-words v
line-words and-sort v b = two-words v
line-words or-sort v b = two-words v
line-words pand-sort v b = two-words v
line-words rbox-sort v b = refl

map-join : (xs ys : List ℕ) → map meaning_at (xs ++ ys) ≡ map meaning_at xs ++ map meaning_at ys
map-join [] ys = refl
map-join (x ∷ xs) ys = ap (λ l. meaning_at x ∷ l) (map-join xs ys)

all_words : (t : Tree) (es : List Element) → map meaning_at (words_from (boxed_in t) es) ≡ meanings_from t es
unfolding words_from words_for meanings_from
all_words t [] = refl
all_words t (e ∷ es) =
    map-join (words_for (boxed_in t) e) (words_from (boxed_in t) es)
    ∙ ap₂ ◌++◌ (line-words e.sort e.number (has (boxed_in t) e.number) ∙ ap (λ b. meant e.number (signals_of e.sort b))
    (has-boxed t e.number)) (all_words t es)

-- an action's number is the place of its signal
pub words-mean : (t : Tree) → map meaning_at (words_of t) ≡ meanings t
unfolding words_of meanings
words-mean t = all_words t t

map-length : (xs : List ℕ) → length (map meaning_at xs) ≡ length xs
map-length [] = refl
map-length (x ∷ xs) = ap suc (map-length xs)

pub words-length : (t : Tree) → length (words_of t) ≡ length (meanings t)
words-length t = sym (map-length (words_of t)) ∙ ap length (words-mean t)
