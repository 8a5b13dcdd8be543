-- The first line that is left, as the code has it: an element with as many inputs as it may have, and every number below 64; and there are no more
-- than 64 lines.
use mathlib.Core.Path.{◌≡◌, refl, sym, ◌∙◌, ap, ap₂, subst}
use mathlib.Core.List.Memᴰ.{head as here}
use mathlib.Core.List.Memᴰ.{tail as there}
use mathlib.Core.List.{List, [], ◌∷◌, Memᴰ as In}
use Prim.Native.Nat.{ℕ, zero, suc, ◌+◌, ◌≤◌, ◌<◌}
use native.Mathlib.Omega.{arith}
use native.Mathlib.Decide.{ℕ_discrete}
use lib.ListN.{length}
use Rattle.laws.specs.Fold.{tab}
use Rattle.answer.specs.Limits.{max_elements, max_inputs}
use Rattle.trees.specs.Tree.{Sort, Element as TheElement, Tree}
use Rattle.trees.specs.TreeText.{fewest, at_most_more}
use Rattle.trees.specs.TreeFaults.{InRange, Ascending, line}
use Rattle.treelines.specs.declared.Inputs.{Inputs}
use Rattle.treelines.specs.declared.Element.{Element}
use Rattle.treelines.specs.Elements.{sort_is, element_is}
use Rattle.treecheck.specs.Numbers.{input_at, ins_in}
use Rattle.treecheck.proofs.CodeLaws.{held, few-inputs, sort-there}
use Rattle.treenames.specs.Names.{tree_in, LinesOf}
use Rattle.treenames.proofs.Passing.{First, drawn-lines}
use Rattle.elements.specs.Parts.{element_of, Fit}
use Rattle.elements.proofs.PartLaws.{ins-length}

back : (e : TheElement) → length e.ins ≤ max_inputs → element_of (element_is e) ≡ e
back e h = ap₂ (λ (s : Sort) xs. record { sort = s; number = e.number; ins = xs }) (sort-there e.sort) (held e.ins h)

in-tab : (g : ℕ → ℕ) (k n j : ℕ) → k ≤ j → j < k + n → In (g j) (tab g k n)
in-tab g k zero j p q = absurd (omega arith)
in-tab g k (suc n) j p q = elim (ℕ_discrete k j) [ yes e ↦ here (ap g (sym e)) | no e ↦ there (in-tab g (suc k) n j (omega arith) (omega arith)) ]

in-ins : (i : Inputs) (j : ℕ) → j < i.count → In (input_at i j) (ins_in i)
unfolding ins_in
in-ins i j h = in-tab (input_at i) 0 i.count j (omega arith) (omega arith)

module _ (text : List ℕ) (rest : Tree) (e : Element) (to : ℕ) (q : First text rest e to) where
  pub it-is : element_of e ≡ q.it
  it-is = ap element_of (sym q.code) ∙ back q.it (few-inputs q.it q.it-fits)

  count-is : e.inputs.count ≡ length q.it.ins
  count-is = sym (ins-length e.inputs) ∙ ap (λ (x : TheElement). length x.ins) it-is

  pub fit : Fit e
  fit =
      let a : fewest (sort_is e.sort) ≡ fewest q.it.sort = ap (λ (x : TheElement). fewest x.sort) it-is in
      let b : at_most_more (sort_is e.sort) ≡ at_most_more q.it.sort = ap (λ (x : TheElement). at_most_more x.sort) it-is in
      record {
        few = omega (arith, count-is, few-inputs q.it q.it-fits);
        enough = omega (arith, count-is, a, q.it-fits.enough);
        no_more = omega (arith, count-is, a, b, q.it-fits.no_more);
      }

  pub number-low : e.number < max_elements
  number-low = subst (λ (x : TheElement). x.number < max_elements) (sym it-is) (q.it-range q.it.number (here refl))

  pub inputs-low : (j : ℕ) → j < e.inputs.count → input_at e.inputs j < max_elements
  inputs-low j h = q.it-range (input_at e.inputs j) (there (subst (λ (x : TheElement). In (input_at e.inputs j) x.ins) it-is (in-ins e.inputs j h)))

-- numbers that ascend below 64 are 64 at most
few-lines : {low : ℕ} (t : Tree) → Ascending low t → ((e : TheElement) → In e t → InRange e) → low ≤ max_elements → low + length t ≤ max_elements
few-lines [] a r h = omega arith
few-lines (e ∷ es) (line l a) r h =
    let n = r e (here refl) e.number (here refl) in
    let k = few-lines es a (λ d m. r d (there m)) n in
    omega (arith, l, k)

pub lines-few : (text : List ℕ) → LinesOf text (tree_in text) → length (tree_in text) ≤ max_elements
lines-few text h =
    let d = (drawn-lines text (tree_in text) h).0 in
    let k = few-lines (tree_in text) d.ascends d.in-range (omega arith) in
    omega (arith, k)
