-- What the gathered sets say is broken is what the definition says is broken.
use mathlib.Core.Path.{◌≡◌, refl, sym, ◌∙◌, ap, subst}
use mathlib.Core.Logic.{◌↔◌}
use mathlib.Core.Option.{Option, none, some}
use mathlib.Core.Bool.{Bool, true, false, false≢true, true≢false, not, cond}
use mathlib.Core.List.{Memᴰ as In}
use Prim.Native.Nat.{ℕ, zero, suc, ◌+◌}
use lib.Dec.{eqb}
use borrow.Author.Tests.{eqb-true, eq-eqb}
use Rattle.laws.specs.Sets.{has, ◌∩◌, ◌∖◌, within, ◌∈◌}
use Rattle.laws.specs.Search.{when, or_else}
use Rattle.laws.specs.Fold.{tab, sum}
use Rattle.laws.proofs.SetLaws.{in_and, and_in, in_without, without_in, within-true, true-within, none_in}
use Rattle.laws.proofs.TestLaws.{not_so}
use Rattle.sets.specs.Members.{size_of}
use Rattle.answer.specs.Limits.{max_elements}
use Rattle.trees.specs.Tree.{Element as TheElement, Tree, is_be, is_box}
use Rattle.trees.specs.Conditions.{NoBoxIn, BoxesOfBes, cyclic, top_at, count_from, not_one_top, twice_in, box_in, box_of_other, in_two_boxes, condition_of}
use Rattle.trees.specs.TreeFaults.{ElementFits, InRange, Ascending, AllKnown}
use Rattle.trees.proofs.Lookup.{one_line}
use Rattle.trees.proofs.Broken.{once-only, none-repeats, top-exactly, none-twice-exactly, no-box-exactly, boxes-exactly, one-box-exactly}
use Rattle.treetests.specs.declared.Gathered.{Gathered}
use Rattle.treetests.specs.Gathering.{none_gathered, gathered_all, tops, lowest_broken}
use Rattle.treetests.proofs.GatherLaws.{no_member, not-not, numbers-are, boxes-are, basics-are, inputs_are, boxed-are, twice-are, shared-are}

-- ---- tests that agree
pub same-when-true : (a b : Bool) → (a ≡ true → b ≡ true) → (b ≡ true → a ≡ true) → a ≡ b
same-when-true true b h k = sym (h refl)
same-when-true false true h k = absurd (false≢true (k refl))
same-when-true false false h k = refl

-- two tests that fail exactly where P holds
pub same_test : {P : Type 0} (a b : Bool) → (a ≡ false) ↔ P → (b ≡ false) ↔ P → a ≡ b
same_test true true p q = refl
same_test true false p q = p.1 (q.0 refl)
same_test false true p q = sym (q.1 (p.0 refl))
same_test false false p q = refl

counted : (g : ℕ → Bool) (s n k : ℕ) → ((v : ℕ) → has s v ≡ g v) → sum (tab (λ x. cond (has s x) 1 0) k n) ≡ count_from g n k
unfolding count_from
counted g s zero k h = refl
counted g s (suc n) k h = rw (h k) (ap (λ m. cond (g k) 1 0 + m) (counted g s n (suc k) h))

-- ---- the six tests, in the order of the conditions: the first that holds tells its number
abbrev chain : (a b c d e f : Bool) → Option ℕ
chain a b c d e f = or_else (when a 1) (or_else (when b 2) (or_else (when c 3) (or_else (when d 4) (or_else (when e 5) (when f 6)))))

module _ (a : Bool) (g : Gathered) where
  abbrev B : Bool
  B = not (eqb (tops g) 1)

  abbrev D : Bool
  D = not (eqb (g.boxes ∩ g.inputs) 0)

  abbrev E : Bool
  E = not (within g.boxed g.basics)

  pub lowest-1 : a ≡ true → lowest_broken a g ≡ some 1
  unfolding lowest_broken
  lowest-1 p = rw p

  pub lowest-2 : a ≡ false → B ≡ true → lowest_broken a g ≡ some 2
  unfolding lowest_broken
  lowest-2 p q = rw (p, q)

  pub lowest-3 : a ≡ false → B ≡ false → g.twice ≡ true → lowest_broken a g ≡ some 3
  unfolding lowest_broken
  lowest-3 p q r = rw (p, q, r)

  pub lowest-4 : a ≡ false → B ≡ false → g.twice ≡ false → D ≡ true → lowest_broken a g ≡ some 4
  unfolding lowest_broken
  lowest-4 p q r s = rw (p, q, r, s)

  pub lowest-5 : a ≡ false → B ≡ false → g.twice ≡ false → D ≡ false → E ≡ true → lowest_broken a g ≡ some 5
  unfolding lowest_broken
  lowest-5 p q r s t = rw (p, q, r, s, t)

  pub lowest-6 : a ≡ false → B ≡ false → g.twice ≡ false → D ≡ false → E ≡ false → g.shared ≡ true → lowest_broken a g ≡ some 6
  unfolding lowest_broken
  lowest-6 p q r s t u = rw (p, q, r, s, t, u)

  pub lowest-none : a ≡ false → B ≡ false → g.twice ≡ false → D ≡ false → E ≡ false → g.shared ≡ false → lowest_broken a g ≡ none
  unfolding lowest_broken
  lowest-none p q r s t u = rw (p, q, r, s, t, u)

abbrev All : (TheElement → Type 0) → Tree → Type 0
All P t = (e : TheElement) → In e t → P e

module _ {low : ℕ} (t : Tree) (a : Ascending low t) (r : All InRange t) (fits : All ElementFits t) (known : AllKnown t) where
  abbrev G : Gathered
  G = gathered_all none_gathered t

  abbrev Tops : ℕ
  Tops = (G.numbers ∖ G.boxes) ∖ G.inputs

  -- (ii)
  top-member : (v : ℕ) → v ∈ Tops → top_at t v ≡ true
  top-member v h =
      let p = in_without (G.numbers ∖ G.boxes) G.inputs v h in
      let q = in_without G.numbers G.boxes v p.0 in
      let l = (numbers-are t v).0 q.0 in
      (top-exactly t a r known v).1 (
        l.0,
        record {
          line = l.1;
          no-box = not_so (is_box l.0.sort) (λ b. true≢false (sym ((boxes-are t v).1 (l.0, l.1, l.2, b)) ∙ q.1));
          no_edge = λ w d. true≢false (sym ((inputs_are t fits v).1 (d.element, d.line, subst (λ x. In x d.element.ins) l.2 d.input)) ∙ p.1);
        },
        l.2,
      )

  member-top : (v : ℕ) → top_at t v ≡ true → v ∈ Tops
  member-top v h =
      let p = (top-exactly t a r known v).0 h in
      without_in (G.numbers ∖ G.boxes) G.inputs v
      (without_in G.numbers G.boxes v ((numbers-are t v).1 (p.0, p.1.line, p.2)) (not_so (has G.boxes v) (λ b.
      let d = (boxes-are t v).0 b in
      let z = one_line t a d.0 p.0 d.1 p.1.line (d.2 ∙ sym p.2) in
      true≢false (sym d.3 ∙ ap (λ (x : TheElement). is_box x.sort) z ∙ p.1.no-box))))
      (not_so (has G.inputs v) (λ i.
      let d = (inputs_are t fits v).0 i in
      p.1.no_edge d.0.number (record { element = d.0; line = d.1; number = refl; input = subst (λ x. In x d.0.ins) (sym p.2) d.2 })))

  tops-count : tops G ≡ count_from (top_at t) max_elements 0
  unfolding size_of
  tops-count = counted (top_at t) Tops max_elements 0 (λ v. same-when-true (has Tops v) (top_at t v) (top-member v) (member-top v))

  same-2 : not (eqb (tops G) 1) ≡ not_one_top t
  unfolding not_one_top
  same-2 = ap (λ n. not (eqb n 1)) tops-count

  -- (iii)
  same-3 : G.twice ≡ twice_in t
  same-3 = same_test G.twice (twice_in t) (
    (λ h. record { once = λ e m. once-only e.ins ((twice-are t fits).0 h e m) }),
    (λ n. (twice-are t fits).1 (λ e m. none-repeats e.ins (n.once e m))),
  ) (none-twice-exactly t a r known)

  -- (iv)
  unmet : not (eqb (G.boxes ∩ G.inputs) 0) ≡ false → NoBoxIn t
  unmet h = record {
    plain = λ e m w d. not_so (is_box e.sort) (λ b.
        let z = eqb-true (G.boxes ∩ G.inputs) 0 (not-not (eqb (G.boxes ∩ G.inputs) 0) h) in
        let i = (inputs_are t fits e.number).1 (d.element, d.line, d.input) in
        none_in e.number (subst (λ s. e.number ∈ s) z (and_in G.boxes G.inputs e.number ((boxes-are t e.number).1 (e, m, refl, b)) i)));
  }

  not-met : NoBoxIn t → not (eqb (G.boxes ∩ G.inputs) 0) ≡ false
  not-met n = ap not (eq-eqb (G.boxes ∩ G.inputs) 0 (no_member (G.boxes ∩ G.inputs) (λ v h. clash v (in_and G.boxes G.inputs v h))))
    where
      clash : (v : ℕ) → (v ∈ G.boxes) × (v ∈ G.inputs) → ⊥
      clash v h =
          let b = (boxes-are t v).0 h.0 in
          let d = (inputs_are t fits v).0 h.1 in
          let i = subst (λ x. In x d.0.ins) (sym b.2) d.2 in
          true≢false (sym b.3 ∙ n.plain b.0 b.1 d.0.number (record { element = d.0; line = d.1; number = refl; input = i }))

  same-4 : not (eqb (G.boxes ∩ G.inputs) 0) ≡ box_in t
  same-4 = same_test (not (eqb (G.boxes ∩ G.inputs) 0)) (box_in t) (unmet, not-met) (no-box-exactly t a r known)

  -- (v)
  lies_in : not (within G.boxed G.basics) ≡ false → BoxesOfBes t
  lies_in h = record {
    basic = λ e d m n b i.
        let w = within-true G.boxed G.basics (not-not (within G.boxed G.basics) h) e.number ((boxed-are t fits e.number).1 (d, n, b, i)) in
        let l = (basics-are t e.number).0 w in
        sym (ap (λ (x : TheElement). is_be x.sort) (one_line t a l.0 e l.1 m l.2)) ∙ l.3;
  }

  in-lies : BoxesOfBes t → not (within G.boxed G.basics) ≡ false
  in-lies n = ap not (true-within G.boxed G.basics (λ v h.
      let d = (boxed-are t fits v).0 h in
      let k = known.known d.0 d.1 v d.3 in
      (basics-are t v).1 (k.0, k.1, k.2, n.basic k.0 d.0 k.1 d.1 d.2 (subst (λ x. In x d.0.ins) (sym k.2) d.3))))

  same-5 : not (within G.boxed G.basics) ≡ box_of_other t
  same-5 = same_test (not (within G.boxed G.basics)) (box_of_other t) (lies_in, in-lies) (boxes-exactly t a r known)

  -- (vi)
  same-6 : G.shared ≡ in_two_boxes t
  same-6 = same_test G.shared (in_two_boxes t) (shared-are t a fits) (one-box-exactly t a r known)

  pub lowest-same : lowest_broken (cyclic t) G ≡ condition_of t
  unfolding lowest_broken condition_of
  lowest-same =
      ap (λ x. chain (cyclic t) x G.twice (not (eqb (G.boxes ∩ G.inputs) 0)) (not (within G.boxed G.basics)) G.shared) same-2
      ∙ ap (λ x. chain (cyclic t) (not_one_top t) x (not (eqb (G.boxes ∩ G.inputs) 0)) (not (within G.boxed G.basics)) G.shared) same-3
      ∙ ap (λ x. chain (cyclic t) (not_one_top t) (twice_in t) x (not (within G.boxed G.basics)) G.shared) same-4
      ∙ ap (λ x. chain (cyclic t) (not_one_top t) (twice_in t) (box_in t) x G.shared) same-5
      ∙ ap (λ x. chain (cyclic t) (not_one_top t) (twice_in t) (box_in t) (box_of_other t) x) same-6
