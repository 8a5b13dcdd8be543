-- Looking an element up in a composed state, by its line.
use mathlib.Core.Path.{◌≡◌, refl, ◌∙◌, ap}
use mathlib.Core.Bool.{true, cond}
use mathlib.Core.List.{List, [], ◌∷◌, Memᴰ as In}
use Prim.Native.Nat.{ℕ, zero, suc, ◌+◌, ◌<◌}
use native.Mathlib.Omega.{arith}
use lib.ListN.{length, get_or}
use borrow.Author.Tests.{eq-eqb, ne_eqb}
use Rattle.laws.proofs.ListLaws.{in-at, at_in}
use Rattle.model.specs.Model.{comp_at}
use Rattle.trees.specs.Module.{comp_by, Sound}
use Rattle.trees.specs.Tree.{Sort, rbox-sort, Element, Tree, is_be, bes}
use Rattle.trees.specs.Modules.{module_for, components_from, tree_model}
use Rattle.trees.proofs.Numbers.{Ascends}
use Rattle.trees.proofs.Accepted.{Good, sound-of, next-rank}
use Rattle.treetheory.specs.AsDrawn.{look_at}

abbrev pub no_element : Element
no_element = record { sort = rbox-sort; number = 0; ins = [] }

abbrev pub line_at : Tree → ℕ → Element
line_at t i = get_or t i no_element

pub line-in : (t : Tree) (i : ℕ) → i < length t → In (line_at t i) t
line-in t i h = in-at no_element t i h

pub in-line : (t : Tree) (e : Element) → In e t → (i : ℕ) × (i < length t) × (line_at t i ≡ e)
in-line t e m = at_in no_element t m

-- ---- the number at a line
module _ {A : Type 0} (d : A) (h : Sort → ℕ → A) where
  pub look-line : (t : Tree) → Ascends t → (s : List ℕ) → length s ≡ length t → (i : ℕ) → i < length t
      → look_at d h t s (line_at t i).number ≡ h (line_at t i).sort (get_or s i 0)
  unfolding look_at
  look-line [] a s l i k = absurd (omega arith)
  look-line (e ∷ es) a [] l i k = absurd (omega arith)
  look-line (e ∷ es) a (x ∷ xs) l zero k = ap (λ b. cond b (h e.sort x) (look_at d h es xs e.number)) (eq-eqb e.number e.number refl)
  look-line (e ∷ es) a (x ∷ xs) l (suc i) k =
      let w = a.0 (line_at es i) (line-in es i (omega arith)) in
      ap (λ b. cond b (h e.sort x) (look_at d h es xs (line_at es i).number)) (ne_eqb e.number (line_at es i).number (λ z. omega (arith, w, z)))
      ∙ look-line es a.1 xs (omega arith) i (omega arith)

-- ---- the component of a line
component-from : (t : Tree) (k : ℕ) (es : List Element) (i : ℕ) → i < length es
    → (n : ℕ) × (comp_at (components_from t k es) i ≡ comp_by (module_for (line_at es i).sort t n (line_at es i))) × (is_be (line_at es i).sort ≡ true
    → n < k + bes es)
unfolding components_from bes
component-from t k [] i h = absurd (omega arith)
component-from t k (e ∷ es) zero h = (k, refl, λ b. rw b (omega arith))
component-from t k (e ∷ es) (suc i) h =
    let p = component-from t (cond (is_be e.sort) (suc k) k) es i (omega arith) in
    let w = next-rank e.sort k (bes es) in
    (p.0, p.1, λ b. let h = p.2 b in omega (arith, h, w))

-- and it is sound
pub sound-line : (t : Tree) (g : Good t) (i : ℕ) → i < length t
    → (n : ℕ) × (comp_at (tree_model t) i ≡ comp_by (module_for (line_at t i).sort t n (line_at t i))) × Sound (module_for (line_at t i).sort t n (line_at t i))
unfolding tree_model
sound-line t g i h =
    let p = component-from t 0 t i h in
    (p.0, p.1, sound-of t g (line_at t i).sort p.0 (line_at t i) refl (line-in t i h) (λ b. let k = p.2 b in omega (arith, k, g.clocks)))
