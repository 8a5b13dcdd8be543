-- A line of a tree goes field by field: the number is missing, the inputs are, the LF is, or all are there.
use mathlib.Core.Path.{◌≡◌, refl, sym, ap, ap₂}
use mathlib.Core.List.{List}
use Prim.Native.Nat.{ℕ, ◌+◌, ◌≤◌}
use native.Mathlib.Omega.{arith}
use Rattle.answer.specs.Limits.{max_inputs}
use Rattle.model.specs.Text.{lf}
use Rattle.model.specs.Reading.{Scan, stops, got, the_byte, number, field}
use Rattle.trees.specs.Tree.{Sort as TheSort}
use Rattle.trees.specs.TreeText.{fewest, at_most_more, sort_scan, inputs, behind_word, element}
use Rattle.fields.specs.Resets.{valued}
use Rattle.lines.proofs.LineLaws.{valued-stops, valued-is}
use Rattle.treelines.specs.declared.Sort.{Sort}
use Rattle.treelines.specs.declared.Sort.TheVariants as OfSort
use Rattle.treelines.specs.declared.Inputs.{Inputs}
use Rattle.treelines.specs.declared.Element.{Element}
use Rattle.treelines.specs.Elements.{sort_is, sort_as, no_inputs, with_more, element_is}

sort-back : (s : Sort) → sort_as (sort_is s) ≡ s
sort-back OfSort.Be = refl
sort-back OfSort.And = refl
sort-back OfSort.Or = refl
sort-back OfSort.Pand = refl
sort-back OfSort.Rbox = refl

pub at-most-five : (s : Sort) → fewest (sort_is s) + at_most_more (sort_is s) ≤ max_inputs
at-most-five OfSort.Be = omega arith
at-most-five OfSort.And = omega arith
at-most-five OfSort.Or = omega arith
at-most-five OfSort.Pand = omega arith
at-most-five OfSort.Rbox = omega arith

-- the inputs as the code has them
abbrev pub the_inputs : Sort → List ℕ → Scan Inputs
the_inputs s cs = valued (with_more no_inputs) (inputs (fewest (sort_is s)) (at_most_more (sort_is s)) cs)

module _ (s : Sort) (bs : List ℕ) where
  pub line-no-number : {cs : List ℕ} → field number bs ≡ stops cs → stops cs ≡ valued element_is (behind_word (sort_is s) bs)
  unfolding behind_word
  line-no-number p = rw (p, behind_word)

  module _ {n : ℕ} {cs : List ℕ} (p : field number bs ≡ got n cs) where
    pub line-no-inputs : {ds : List ℕ} → the_inputs s cs ≡ stops ds → stops ds ≡ valued element_is (behind_word (sort_is s) bs)
    unfolding behind_word
    line-no-inputs q =
        let z = valued-stops (with_more no_inputs) (inputs (fewest (sort_is s)) (at_most_more (sort_is s)) cs) q in
        rw (p, behind_word) (rw z)

    module _ {i : Inputs} {ds : List ℕ} (q : the_inputs s cs ≡ got i ds) where
      pub line-no-end : {es : List ℕ} → the_byte lf ds ≡ stops es → stops es ≡ valued element_is (behind_word (sort_is s) bs)
      unfolding behind_word
      line-no-end r =
          let z = valued-is (with_more no_inputs) (inputs (fewest (sort_is s)) (at_most_more (sort_is s)) cs) q in
          rw (p, behind_word) (rw z.1 (rw r))

      pub line-is : {es : List ℕ} → the_byte lf ds ≡ got tt es → got (record { sort = s; number = n; inputs = i }) es
          ≡ valued element_is (behind_word (sort_is s) bs)
      unfolding behind_word
      line-is {es} r =
          let z = valued-is (with_more no_inputs) (inputs (fewest (sort_is s)) (at_most_more (sort_is s)) cs) q in
          let e : ◌≡◌ {A = Element} (record { sort = s; number = n; inputs = i })
          (record { sort = sort_as (sort_is s); number = n; inputs = with_more no_inputs z.0 }) =
          ap₂ {C = Element} (λ a b. record { sort = a; number = n; inputs = b }) (sym (sort-back s)) (sym z.2) in
          rw (p, behind_word) (rw z.1 (rw r (ap (λ x. got x es) e)))

-- ---- the first word, and what is behind it
pub element-none : (bs : List ℕ) {cs : List ℕ} → sort_scan bs ≡ stops cs → stops cs ≡ valued element_is (element bs)
unfolding element
element-none bs p = rw (p, element)

pub element-some : (bs : List ℕ) {s : TheSort} {cs : List ℕ} → sort_scan bs ≡ got s cs → valued element_is (behind_word s cs) ≡ valued element_is (element bs)
unfolding element
element-some bs p = rw (p, element)
