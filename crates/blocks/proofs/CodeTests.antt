-- A test that the code makes and leaves by, as the next part of a joined test.
use mathlib.Core.Path.{◌≡◌, sym, ◌∙◌}
use mathlib.Core.Bool.{Bool, true, false}
use Prim.Native.Nat.{ℕ}
use borrow.Author.Tests.{eq-eqb, ne_eqb}
use Rattle.laws.specs.Sets.{◌∩◌}
use Rattle.laws.specs.Tests.{both}
use Rattle.laws.proofs.TestLaws.{both-no, both_go}
use Rattle.blocks.specs.Blocks.{apart}

-- an answer w that stands for the test a
pub passed : (w : Bool) {a x : Bool} → w ≡ a → w ≡ true → both a x ≡ x
passed w e f = both_go _ _ (sym e ∙ f)

pub failed : (w : Bool) {a : Bool} (x : Bool) → w ≡ a → w ≡ false → both a x ≡ false
failed w x e f = both-no _ x (sym e ∙ f)

-- n, what the sets s and t share
pub shares-none : (s t : ℕ) {n : ℕ} {x : Bool} → n ≡ s ∩ t → n ≡ 0 → both (apart s t) x ≡ x
shares-none s t e f = both_go _ _ (eq-eqb (s ∩ t) 0 (sym e ∙ f))

pub shares-some : (s t : ℕ) {n : ℕ} (x : Bool) → n ≡ s ∩ t → (n ≡ 0 → ⊥) → both (apart s t) x ≡ false
shares-some s t x e f = both-no _ x (ne_eqb (s ∩ t) 0 (λ z. f (e ∙ z)))
