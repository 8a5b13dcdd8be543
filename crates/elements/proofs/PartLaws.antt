-- An element's parts as the code has them: its signals, the place of an input, the roles of a gate.
use mathlib.Core.Path.{◌≡◌, refl, sym, ◌∙◌, ap, ap₂}
use mathlib.Core.Option.{Option, none, some}
use mathlib.Core.List.{List, [], ◌∷◌}
use Prim.Native.Nat.{ℕ, suc, ◌+◌, ◌-◌, ◌/◌, ◌%◌, ◌≤◌, ◌<◌}
use native.Mathlib.Omega.{arith}
use lib.ListN.{length}
use borrow.Author.Tests.{eq-eqb, ne_eqb}
use Rattle.laws.specs.Fold.{tab}
use Rattle.laws.specs.Search.{map_some}
use Rattle.laws.proofs.FoldLaws.{tab-length}
use Rattle.laws.proofs.TabLaws.{tab-next, tab-done}
use Rattle.sets.specs.Members.{or_end}
use Rattle.trees.specs.Tree.{fl, up, f, u, r, Meaning}
use Rattle.trees.specs.TreeText.{fewest, at_most_more}
use Rattle.trees.specs.Modules.{plain_move, be_kind, be_move, GateRole, gate_role, pand_role, ticked, box_kind, box_move, box_hears, place_of, bound}
use Rattle.trees.proofs.Boxes.{place-below}
use Rattle.treelines.specs.declared.Inputs.{Inputs}
use Rattle.treelines.specs.declared.Element.{Element}
use Rattle.treelines.specs.declared.Sort.TheVariants as OfSort
use Rattle.treelines.specs.Elements.{sort_is}
use Rattle.treecheck.specs.Numbers.{input_at, ins_in}
use Rattle.roles.specs.Roles.{signal_is, gate_of, meant_as}
use Rattle.roles.specs.declared.Signal.{Signal as CodeSignal}
use Rattle.elements.specs.Parts.{signal_no, meaning_at, element_of, Fit, box_role_by, be_move_by, be_kind_by, box_move_by, box_kind_by}

-- ---- a signal by its number
module _ (k : ℕ) where
  pub is-fl : k ≡ 0 → fl ≡ signal_no k
  unfolding signal_no
  is-fl h = rw (eq-eqb k 0 h)

  pub is_up : ¬ (k ≡ 0) → k ≡ 1 → up ≡ signal_no k
  unfolding signal_no
  is_up a h = rw (ne_eqb k 0 a, eq-eqb k 1 h)

  pub is_f : ¬ (k ≡ 0) → ¬ (k ≡ 1) → k ≡ 2 → f ≡ signal_no k
  unfolding signal_no
  is_f a b h = rw (ne_eqb k 0 a, ne_eqb k 1 b, eq-eqb k 2 h)

  pub is-u : ¬ (k ≡ 0) → ¬ (k ≡ 1) → ¬ (k ≡ 2) → k ≡ 3 → u ≡ signal_no k
  unfolding signal_no
  is-u a b c h = rw (ne_eqb k 0 a, ne_eqb k 1 b, ne_eqb k 2 c, eq-eqb k 3 h)

  pub is-r : ¬ (k ≡ 0) → ¬ (k ≡ 1) → ¬ (k ≡ 2) → ¬ (k ≡ 3) → r ≡ signal_no k
  unfolding signal_no
  is-r a b c h = rw (ne_eqb k 0 a, ne_eqb k 1 b, ne_eqb k 2 c, ne_eqb k 3 h)

pub meant : (w : ℕ) (g : CodeSignal) → signal_is g ≡ signal_no (w % 8) → meant_as (w / 8) g ≡ meaning_at w
meant w g h = ap (λ x. record { of = w / 8; signal = x }) h

-- ---- the place of an input: what is looked for from here on
place_none : (v : ℕ) → place_of v [] ≡ none
unfolding place_of
place_none v = refl

place-first : (v x : ℕ) (xs : List ℕ) → v ≡ x → place_of v (x ∷ xs) ≡ some 0
unfolding place_of
place-first v x xs h = rw (eq-eqb v x h, place_of)

place-later : (v x : ℕ) (xs : List ℕ) → ¬ (v ≡ x) → place_of v (x ∷ xs) ≡ map_some suc (place_of v xs)
unfolding place_of
place-later v x xs h = rw (ne_eqb v x h, place_of)

module _ (i : Inputs) (v : ℕ) where
  pub record Looking (j : ℕ) : Type 0 where
    pub same : or_end (map_some (λ x. x + j) (place_of v (tab (input_at i) j (i.count - j)))) i.count ≡ or_end (place_of v (ins_in i)) i.count

  pub looking-begins : Looking 0
  unfolding ins_in
  looking-begins =
      record {
        same = ap (λ o. or_end o i.count) (zeros (place_of v (tab (input_at i) 0 (i.count - 0))) ∙ ap (λ n. place_of v (tab (input_at i) 0 n))
            (let z : i.count - 0 ≡ i.count = omega arith in z));
      }
    where
      zeros : (o : Option ℕ) → map_some (λ x. x + 0) o ≡ o
      zeros none = refl
      zeros (some x) = ap some (let z : x + 0 ≡ x = omega arith in z)

  pub looking-here : (j : ℕ) → Looking j → j < i.count → (x : ℕ) → x ≡ input_at i j → v ≡ x → j ≡ or_end (place_of v (ins_in i)) i.count
  looking-here j l h x e q =
      (let z : j ≡ 0 + j = omega arith in z) ∙ sym
      (ap (λ o. or_end (map_some (λ y. y + j) o) i.count) (ap (place_of v) (tab-next (input_at i) j i.count h) ∙ place-first v (input_at i j) _
      (q ∙ e))) ∙ l.same

  pub looking-on : (j : ℕ) → Looking j → j < i.count → (x : ℕ) → x ≡ input_at i j → ¬ (v ≡ x) → Looking (j + 1)
  looking-on j l h x e q = let rest = tab (input_at i) (j + 1) (i.count - (j + 1)) in record {
    same =
        ap (λ o. or_end o i.count) (shift (place_of v rest))
        ∙ sym (ap (λ o. or_end (map_some (λ y. y + j) o) i.count) (ap (place_of v) (tab-next (input_at i) j i.count h) ∙ place-later v (input_at i j)
        rest (λ z. q (z ∙ sym e)))) ∙ l.same;
  }
    where
      shift : (o : Option ℕ) → map_some (λ y. y + (j + 1)) o ≡ map_some (λ y. y + j) (map_some suc o)
      shift none = refl
      shift (some y) = ap some (let z : y + (j + 1) ≡ suc y + j = omega arith in z)

  pub looking-ends : (j : ℕ) → Looking j → i.count ≤ j → i.count ≡ or_end (place_of v (ins_in i)) i.count
  looking-ends j l h = sym (ap (λ o. or_end (map_some (λ y. y + j) o) i.count) (ap (place_of v) (tab-done (input_at i) j i.count h) ∙ place_none v)) ∙ l.same

pub ins-length : (i : Inputs) → length (ins_in i) ≡ i.count
unfolding ins_in
ins-length i = tab-length (input_at i) 0 i.count

-- a place below the count is one of an input; the count says that there is none
module _ (i : Inputs) (v p : ℕ) (e : p ≡ or_end (place_of v (ins_in i)) i.count) where
  pub place-some : p < i.count → place_of v (ins_in i) ≡ some p
  place-some h = go (place_of v (ins_in i)) refl
    where
      go : (o : Option ℕ) → place_of v (ins_in i) ≡ o → o ≡ some p
      go none q = absurd (let z = e ∙ ap (λ o. or_end o i.count) q in omega (arith, h, z))
      go (some j) q = ap some (sym (e ∙ ap (λ o. or_end o i.count) q))

  pub place-no : i.count ≤ p → place_of v (ins_in i) ≡ none
  place-no h = go (place_of v (ins_in i)) refl
    where
      go : (o : Option ℕ) → place_of v (ins_in i) ≡ o → o ≡ none
      go none q = refl
      go (some j) q = absurd (
          let z = e ∙ ap (λ o. or_end o i.count) q in
          let b = place-below v (ins_in i) j q in
          let n = ins-length i in
          omega (arith, h, z, b, n))

-- ---- BE
module _ (v k s of : ℕ) (g : CodeSignal) where
  pub own-move : of ≡ v → be_move k (s / 3) (s % 3) (signal_is g) ≡ be_move_by v k s (meant_as of g)
  unfolding be_move_by
  own-move h = rw (eq-eqb of v h)

  pub no_move : ¬ (of ≡ v) → none ≡ be_move_by v k s (meant_as of g)
  unfolding be_move_by
  no_move h = rw (ne_eqb of v h)

  pub own-kind : of ≡ v → some (be_kind (signal_is g)) ≡ be_kind_by v (meant_as of g)
  unfolding be_kind_by
  own-kind h = rw (eq-eqb of v h)

  pub no_kind : ¬ (of ≡ v) → none ≡ be_kind_by v (meant_as of g)
  unfolding be_kind_by
  no_kind h = rw (ne_eqb of v h)

-- ---- RBOX
module _ (i : Inputs) (of p : ℕ) (g : CodeSignal) where
  role-some : place_of of (ins_in i) ≡ some p → box_role_by (ins_in i) (meant_as of g) ≡ box_hears (signal_is g) p
  unfolding box_role_by
  role-some h = rw (h, box_role_by)

  role-none : place_of of (ins_in i) ≡ none → box_role_by (ins_in i) (meant_as of g) ≡ none
  unfolding box_role_by
  role-none h = rw (h, box_role_by)

  module _ (e : p ≡ or_end (place_of of (ins_in i)) i.count) where
    pub box-move-is : (s : ℕ) → p < i.count → bound (box_hears (signal_is g) p) (λ x. map_some plain_move (box_move i.count s x))
        ≡ box_move_by (ins_in i) s (meant_as of g)
    unfolding box_move_by
    box-move-is s h =
        ap₂ (λ o n. bound o (λ x. map_some plain_move (box_move n s x))) (sym (role-some (place-some i of p e h))) (sym (ins-length i))

    pub box-move-none : (s : ℕ) → i.count ≤ p → none ≡ box_move_by (ins_in i) s (meant_as of g)
    unfolding box_move_by
    box-move-none s h = sym (ap (λ o. bound o (λ x. map_some plain_move (box_move (length (ins_in i)) s x))) (role-none (place-no i of p e h)))

    pub box-kind-is : p < i.count → map_some box_kind (box_hears (signal_is g) p) ≡ box_kind_by (ins_in i) (meant_as of g)
    unfolding box_kind_by
    box-kind-is h = ap (map_some box_kind) (sym (role-some (place-some i of p e h)))

    pub box-kind-none : i.count ≤ p → none ≡ box_kind_by (ins_in i) (meant_as of g)
    unfolding box_kind_by
    box-kind-none h = ap (map_some box_kind) (sym (role-none (place-no i of p e h)))

-- ---- gates
two-inputs : (i : Inputs) → i.count ≡ 2 → ins_in i ≡ i.first ∷ i.second ∷ []
unfolding ins_in input_at
two-inputs i h = ap (tab (input_at i) 0) h

module _ (e : Element) (h : e.inputs.count ≡ 2) (x : Meaning) where
  pub gate-is : gate_role (gate_of e.number e.inputs.first e.inputs.second) x ≡ gate_role (element_of e) x
  unfolding gate_role
  gate-is = rw (two-inputs e.inputs h)

  pub pand-is : pand_role (gate_of e.number e.inputs.first e.inputs.second) x ≡ pand_role (element_of e) x
  unfolding pand_role
  pand-is = go (ticked x.signal)
    where
      go : (o : Option GateRole) → ◌≡◌ {A = Option GateRole}
          (elim o as (λ _. Option GateRole) [ some t ↦ some t | none ↦ gate_role (gate_of e.number e.inputs.first e.inputs.second) x ])
          (elim o as (λ _. Option GateRole) [ some t ↦ some t | none ↦ gate_role (element_of e) x ])
      go none = gate-is
      go (some t) = refl

pub and-two : (e : Element) → Fit e → e.sort ≡ OfSort.And → e.inputs.count ≡ 2
and-two e q h =
    let a : fewest (sort_is e.sort) ≡ 2 = ap (λ s. fewest (sort_is s)) h in
    let b : at_most_more (sort_is e.sort) ≡ 0 = ap (λ s. at_most_more (sort_is s)) h in
    omega (arith, q.enough, q.no_more, a, b)

pub or-two : (e : Element) → Fit e → e.sort ≡ OfSort.Or → e.inputs.count ≡ 2
or-two e q h =
    let a : fewest (sort_is e.sort) ≡ 2 = ap (λ s. fewest (sort_is s)) h in
    let b : at_most_more (sort_is e.sort) ≡ 0 = ap (λ s. at_most_more (sort_is s)) h in
    omega (arith, q.enough, q.no_more, a, b)

pub pand-two : (e : Element) → Fit e → e.sort ≡ OfSort.Pand → e.inputs.count ≡ 2
pand-two e q h =
    let a : fewest (sort_is e.sort) ≡ 2 = ap (λ s. fewest (sort_is s)) h in
    let b : at_most_more (sort_is e.sort) ≡ 0 = ap (λ s. at_most_more (sort_is s)) h in
    omega (arith, q.enough, q.no_more, a, b)
