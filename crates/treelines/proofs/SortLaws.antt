-- The first word of a line: which of the five stands there decides.
use mathlib.Core.Path.{◌≡◌}
use mathlib.Core.List.{List}
use Prim.Native.Nat.{ℕ}
use Rattle.model.specs.Reading.{stops, got, shorter, exactly}
use Rattle.trees.specs.Tree.{Sort, be-sort, and-sort, or-sort, pand-sort, rbox-sort}
use Rattle.trees.specs.TreeText.{sort_word, sort_scan}

module _ (bs : List ℕ) where
  abbrev No : Sort → List ℕ → Type 0
  No s x = exactly (sort_word s) bs ≡ stops x

  abbrev Yes : Sort → List ℕ → Type 0
  Yes s cs = exactly (sort_word s) bs ≡ got tt cs

  pub sort-be : {cs : List ℕ} → Yes be-sort cs → sort_scan bs ≡ got be-sort cs
  unfolding sort_scan
  sort-be e = rw (e, sort_scan)

  pub sort-and : {x cs : List ℕ} → No be-sort x → Yes and-sort cs → sort_scan bs ≡ got and-sort cs
  unfolding sort_scan
  sort-and a e = rw (a, e, sort_scan)

  pub sort-or : {x y cs : List ℕ} → No be-sort x → No and-sort y → Yes or-sort cs → sort_scan bs ≡ got or-sort cs
  unfolding sort_scan
  sort-or a b e = rw (a, b, e, sort_scan)

  pub sort-pand : {x y z cs : List ℕ} → No be-sort x → No and-sort y → No or-sort z → Yes pand-sort cs → sort_scan bs ≡ got pand-sort cs
  unfolding sort_scan
  sort-pand a b c e = rw (a, b, c, e, sort_scan)

  pub sort-rbox : {x y z v cs : List ℕ} → No be-sort x → No and-sort y → No or-sort z → No pand-sort v → Yes rbox-sort cs → sort_scan bs ≡ got rbox-sort cs
  unfolding sort_scan
  sort-rbox a b c d e = rw (a, b, c, d, e, sort_scan)

  pub sort-none : {x y z v w : List ℕ} → No be-sort x → No and-sort y → No or-sort z → No pand-sort v → No rbox-sort w
      → sort_scan bs ≡ stops (shorter x (shorter y (shorter z (shorter v w))))
  unfolding sort_scan
  sort-none a b c d e = rw (a, b, c, d, e, sort_scan)
