-- 48: components, actions, rows and bytes; the clocks follow from the actions.
use mathlib.Core.Path.{◌≡◌, refl, sym, ◌∙◌, ap, ap₂}
use mathlib.Core.Option.{some}
use mathlib.Core.Bool.{false, ◌&&◌}
use mathlib.Core.List.{List, [], ◌∷◌, map}
use Prim.Native.Nat.{ℕ, zero, suc, ◌+◌, ◌*◌, ◌≤◌, ◌<◌}
use native.Mathlib.Omega.{arith}
use lib.ListN.{length, get_or}
use lib.Seq.{sets, length-sets}
use lib.Dec.{leb}
use borrow.Author.Tests.{le-leb, lt-leb}
use Rattle.answer.specs.Limits.{max_components, max_actions, max_clocks, max_rows, max_bytes}
use Rattle.reading.proofs.SetsLaws.{sets-inside}
use Rattle.product.specs.declared.Tally.{Tally}
use Rattle.trees.specs.Tree.{Tree, bes, meanings, at, meaning_of}
use Rattle.trees.specs.ReadTree.{fitting}
use Rattle.elements.specs.Parts.{meaning_at}
use Rattle.meanings.specs.declared.Named.{Named}
use Rattle.meanings.specs.Words.{words_of, NamedBy}
use Rattle.meanings.proofs.WordLaws.{words-mean, words-length}
use Rattle.treesize.specs.Size.{Hold, Sized}
use Rattle.treesize.proofs.SizeLaws.{bes-few}

-- ---- the words hold the meanings
at_map : (xs : List ℕ) (a : ℕ) → a < length xs → at (map meaning_at xs) a ≡ some (meaning_at (get_or xs a 0))
unfolding at
at_map [] a h = absurd (omega arith)
at_map (x ∷ xs) zero h = refl
at_map (x ∷ xs) (suc a) h = at_map xs a (omega (arith, h))

pub named-hold : (t : Tree) (old new : List ℕ) (r : Named) → NamedBy t old r new → length old ≡ max_actions → length (meanings t) ≤ max_actions → Hold t new
unfolding meaning_of
named-hold t old new r n l h = record {
  few = h;
  means = λ a q.
      let long = words-length t in
      let here : a < length (words_of t) = omega (arith, q, long) in
      let z : 0 + a ≡ a = omega arith in
      let there : get_or new a 0 ≡ get_or (words_of t) a 0 =
      ap (λ x. get_or x a 0) (n.words h) ∙ ap (λ x. get_or (sets old 0 (words_of t)) x 0) (sym z) ∙ sets-inside old 0 (words_of t) a here (omega (arith, q, h, l)) in
      ap (λ x. at x a) (sym (words-mean t)) ∙ at_map (words_of t) a here ∙ ap (λ x. some (meaning_at x)) (sym there);
}

pub named-long : (t : Tree) (old new : List ℕ) (r : Named) → NamedBy t old r new → length old ≡ max_actions → length (meanings t) ≤ max_actions
    → length new ≡ max_actions
named-long t old new r n l h = ap length (n.words h) ∙ length-sets old 0 (words_of t) ∙ l

-- ---- the limits
pub many-components : (t : Tree) (n : ℕ) → n ≡ length t → max_components < n → false ≡ fitting t
unfolding fitting
many-components t n e h = rw (lt-leb (length t) max_components (omega (arith, e, h)))

pub many-actions : (t : Tree) (c n : ℕ) → c ≡ length t → c ≤ max_components → n ≡ length (meanings t) → max_actions < n → false ≡ fitting t
unfolding fitting
many-actions t c n d g e h = rw (le-leb (length t) max_components (omega (arith, d, g)), lt-leb (length (meanings t)) max_actions (omega (arith, e, h)))

pub sized-fits : (t : Tree) (c k : ℕ) (n : Tally) → c ≡ length t → c ≤ max_components → k ≡ length (meanings t) → k ≤ max_actions → Sized t n
    → (leb n.rows max_rows && leb n.bytes max_bytes) ≡ fitting t
unfolding fitting
sized-fits t c k n d g e h s =
    rw (
      le-leb (length t) max_components (omega (arith, d, g)),
      le-leb (length (meanings t)) max_actions (omega (arith, e, h)),
      le-leb (2 * bes t) max_clocks (let b = bes-few t in omega (arith, b, e, h)),
    ) (ap₂ (λ x y. leb x max_rows && leb y max_bytes) s.rows s.bytes)
