-- The numbers of a tree's lines as a set: a number is a member exactly if a line defines it; so 5 is asked by membership.
use mathlib.Core.Path.{◌≡◌, refl, sym, ◌∙◌, ap, ap₂, subst}
use mathlib.Core.Option.{Option, none, some}
use mathlib.Core.Bool.{Bool, true, false, not, ◌||◌}
use mathlib.Core.List.Memᴰ.{head as here}
use mathlib.Core.List.{List, [], ◌∷◌, Memᴰ as In}
use Prim.Native.Nat.{ℕ, suc, ◌+◌, ◌≤◌, ◌<◌}
use native.Mathlib.Omega.{arith}
use native.Mathlib.Decide.{dec_lt, ℕ_discrete}
use lib.ListN.{length, drop}
use borrow.Author.Tests.{eq-eqb, ne_eqb, lt-ltb, le-ltb}
use lib.Bits.{or_comm, or_zero_r}
use Rattle.laws.specs.Sets.{bit, has, ◌∪◌, only}
use Rattle.laws.specs.Search.{is_some}
use Rattle.laws.proofs.SetLaws.{or_assoc, has-or, in_one, bit-one-other, none_in}
use Rattle.laws.proofs.TestLaws.{not_so}
use Rattle.sets.specs.Members.{word_bits}
use Rattle.answer.specs.Limits.{max_elements, max_inputs}
use Rattle.answer.specs.declared.Place.TheVariants.{Spot}
use Rattle.std.specs.Prelude.{Ok, Err}
use Rattle.answer.specs.Told.{Told, told, tell, answered, refused, says_checked, done_of}
use Rattle.columns.specs.Columns.{member_of}
use Rattle.trees.specs.Tree.{Element as TheElement, Tree}
use Rattle.trees.specs.TreeText.{sort_word, numbers_of, line_of, unknown, some_of, first_bad, column_of, unknown_from, unless, all_known, tree_of}
use Rattle.trees.specs.TreeFaults.{ElementFits, InRange}
use Rattle.trees.proofs.Lookup.{line-in}
use Rattle.treelines.specs.declared.Element.{Element}
use Rattle.treelines.specs.Elements.{sort_is, sort_as, element_is}
use Rattle.treecheck.specs.Numbers.{out_of, all_in, column_in}
use Rattle.treecheck.proofs.CodeLaws.{held, few-inputs, held-count, sort-there, same-bad}
use Rattle.treenames.specs.Names.{numbers_in, LinesOf}
use Rattle.treenames.proofs.Passing.{Left, drawn-lines, all_left, none_left, First}

-- ---- nothing joined
none_last : (s : ℕ) → s ∪ 0 ≡ s
none_last s = or_zero_r s

none_first : (s : ℕ) → 0 ∪ s ≡ s
none_first s = or_comm 0 s ∙ or_zero_r s

numbers-none : numbers_in [] ≡ 0
unfolding numbers_in
numbers-none = refl

numbers-one : (e : TheElement) (es : Tree) → numbers_in (e ∷ es) ≡ only e.number ∪ numbers_in es
unfolding numbers_in
numbers-one e es = refl

-- ---- a member is a number that a line defines
has-only : (n v : ℕ) → ¬ (n ≡ v) → has (only n) v ≡ false
has-only n v h = ne_eqb (bit (only n) v) 1 (λ e. let z = bit-one-other n v h in omega (arith, z, e))

has-line : (t : Tree) (v : ℕ) → has (numbers_in t) v ≡ is_some (line_of t v)
unfolding line_of numbers_in
has-line [] v = not_so (has 0 v) (none_in v)
has-line (e ∷ es) v = go (has-line es v) (ℕ_discrete e.number v)
  where
    go : has (numbers_in es) v ≡ is_some (line_of es v) → Dec (e.number ≡ v) → has (numbers_in (e ∷ es)) v ≡ is_some (line_of (e ∷ es) v)
    go ih (yes q) =
        has-or (only e.number) (numbers_in es) v ∙ ap (λ b. b || has (numbers_in es) v) (ap (λ x. has (only x) v) q ∙ in_one v)
        ∙ sym (let z : is_some (line_of (e ∷ es) v) ≡ true = rw (eq-eqb e.number v q, line_of) in z)
    go ih (no q) =
        has-or (only e.number) (numbers_in es) v ∙ ap (λ b. b || has (numbers_in es) v) (has-only e.number v q) ∙ ih
        ∙ sym (let z : is_some (line_of (e ∷ es) v) ≡ is_some (line_of es v) = rw (ne_eqb e.number v q, line_of) in z)

-- tests that agree find the same
some-here : (f : ℕ → Bool) (x : ℕ) (xs : List ℕ) → f x ≡ true → some_of f (x ∷ xs) ≡ true
unfolding some_of
some-here f x xs h = rw (h, some_of)

some-there : (f : ℕ → Bool) (x : ℕ) (xs : List ℕ) → f x ≡ false → some_of f (x ∷ xs) ≡ some_of f xs
unfolding some_of
some-there f x xs h = rw (h, some_of)

same_some : (f g : ℕ → Bool) → ((v : ℕ) → f v ≡ g v) → (xs : List ℕ) → some_of f xs ≡ some_of g xs
unfolding some_of
same_some f g h [] = refl
same_some f g h (x ∷ xs) = go (same_some f g h xs) (g x) refl
  where
    go : some_of f xs ≡ some_of g xs → (b : Bool) → g x ≡ b → some_of f (x ∷ xs) ≡ some_of g (x ∷ xs)
    go ih true q = some-here f x xs (h x ∙ q) ∙ sym (some-here g x xs q)
    go ih false q = some-there f x xs (h x ∙ q) ∙ ih ∙ sym (some-there g x xs q)

module _ (t : Tree) (r : (e : TheElement) → In e t → InRange e) where
  member-line : (v : ℕ) → member_of (numbers_in t) v ≡ is_some (line_of t v)
  member-line v = go (dec_lt v word_bits)
    where
      none-there : (o : Option TheElement) → line_of t v ≡ o → word_bits ≤ v → false ≡ is_some o
      none-there none q h = refl
      none-there (some e) q h =
          let p = line-in t v e q in
          let l = r e p.0 e.number (here refl) in
          let n = p.1 in
          absurd (omega (arith, l, n, h))

      go : Dec (v < word_bits) → member_of (numbers_in t) v ≡ is_some (line_of t v)
      go (yes h) = rw (lt-ltb v word_bits h) (has-line t v)
      go (no h) = rw (le-ltb v word_bits (omega arith)) (none-there (line_of t v) refl (omega arith))

  out-unknown : (v : ℕ) → out_of (numbers_in t) v ≡ unknown t v
  out-unknown v = ap not (member-line v)

  module _ (e : TheElement) (f : ElementFits e) where
    pub names-asked : not (all_in (element_is e) (numbers_in t)) ≡ some_of (unknown t) (numbers_of e)
    unfolding all_in
    names-asked =
        ap (λ l. not (not (some_of (out_of (numbers_in t)) (e.number ∷ l)))) (held e.ins (few-inputs e f))
        ∙ twice (some_of (out_of (numbers_in t)) (numbers_of e)) ∙ same_some (out_of (numbers_in t)) (unknown t) out-unknown (numbers_of e)
      where
        twice : (b : Bool) → not (not b) ≡ b
        twice true = refl
        twice false = refl

    pub names-column : column_in (element_is e) (numbers_in t) ≡ column_of (unknown t) e
    unfolding column_in
    names-column =
        ap (λ l. first_bad (out_of (numbers_in t)) (length (sort_word (sort_is (sort_as e.sort))) + 2) (e.number ∷ l)) (held e.ins (few-inputs e f))
        ∙ ap (λ s. first_bad (out_of (numbers_in t)) (length (sort_word s) + 2) (numbers_of e)) (sort-there e.sort)
        ∙ same-bad (out_of (numbers_in t)) (unknown t) out-unknown (length (sort_word e.sort) + 2) (numbers_of e)

-- ---- the loop that gathers the numbers
pub record Counted (text : List ℕ) (known at : ℕ) : Type 0 where
  pub tree : Tree
  pub lines : LinesOf text tree
  pub rest : Tree
  pub left : Left text at rest
  pub same : known ∪ numbers_in rest ≡ numbers_in tree

pub counted-begins : (text : List ℕ) (t : Tree) → LinesOf text t → Counted text 0 0
counted-begins text t e = record { tree = t; lines = e; rest = t; left = all_left text t e; same = none_first (numbers_in t) }

module _ (text : List ℕ) (known at : ℕ) (c : Counted text known at) where
  pub counted-done : length text ≤ at → (t : Tree) × LinesOf text t × (known ≡ numbers_in t)
  counted-done h =
      let z = none_left text at c.rest c.left h in
      (c.tree, c.lines, sym (none_last known) ∙ ap (λ x. known ∪ x) (sym numbers-none ∙ ap numbers_in (sym z)) ∙ c.same)

  pub counted-on : (e : Element) (to : ℕ) → First text c.rest e to → (s k : ℕ) → s ≡ only e.number → k ≡ known ∪ s → Counted text k to
  counted-on e to f s k p q =
      let n : f.it.number ≡ e.number = ap (λ (x : Element). x.number) f.code in
      record {
        tree = c.tree;
        lines = c.lines;
        rest = f.more;
        left = f.left;
        same =
            ap (λ x. x ∪ numbers_in f.more) (q ∙ ap (λ x. known ∪ x) (p ∙ ap only (sym n)))
            ∙ or_assoc known (only f.it.number) (numbers_in f.more) ∙ ap (λ x. known ∪ x) (sym (numbers-one f.it f.more)
            ∙ ap numbers_in (sym f.lines)) ∙ c.same;
      }

  pub number_fits : (e : Element) (to : ℕ) → First text c.rest e to → e.number < max_elements
  number_fits e to f = subst (λ (x : Element). x.number < max_elements) f.code (f.it-range f.it.number (here refl))

-- ---- the loop that asks every line
pub record Asked (text : List ℕ) (known at n : ℕ) : Type 0 where
  pub tree : Tree
  pub lines : LinesOf text tree
  pub set : known ≡ numbers_in tree
  pub rest : Tree
  pub left : Left text at rest
  pub same : unknown_from tree n rest ≡ unknown_from tree 1 tree
  pub count : n + length (drop at text) ≤ 1 + length text

pub asked-begins : (text : List ℕ) (known : ℕ) (t : Tree) → LinesOf text t → known ≡ numbers_in t → Asked text known 0 1
asked-begins text known t e s = record { tree = t; lines = e; set = s; rest = t; left = all_left text t e; same = refl; count = omega arith }

unknown-here : (t : Tree) (n : ℕ) (e : TheElement) (es : Tree) → some_of (unknown t) (numbers_of e) ≡ true
    → unknown_from t n (e ∷ es) ≡ some (tell 5 (n ∷ column_of (unknown t) e ∷ []))
unfolding unknown_from
unknown-here t n e es h = rw (h, unknown_from)

unknown-there : (t : Tree) (n : ℕ) (e : TheElement) (es : Tree) → some_of (unknown t) (numbers_of e) ≡ false → unknown_from t n (e ∷ es) ≡ unknown_from t (suc n) es
unfolding unknown_from
unknown-there t n e es h = rw (h, unknown_from)

unknown-end : (t : Tree) (n : ℕ) → unknown_from t n [] ≡ none
unfolding unknown_from
unknown-end t n = refl

tree-of : (text : List ℕ) (t : Tree) → LinesOf text t → (o : Option Told) → unknown_from t 1 t ≡ o → tree_of text ≡ unless o (answered t)
unfolding tree_of
tree-of text t e o q = ap all_known e ∙ ap (λ x. unless x (answered t)) q

module _ (text : List ℕ) (known at n : ℕ) (c : Asked text known at n) where
  ranges : (e : TheElement) → In e c.tree → InRange e
  ranges = (drawn-lines text c.tree c.lines).0.in-range

  pub names-fine : length text ≤ at → says_checked (Ok tt) ≡ some (done_of (tree_of text))
  unfolding says_checked
  names-fine h =
      let z = none_left text at c.rest c.left h in
      let u = sym c.same ∙ ap (unknown_from c.tree n) z ∙ unknown-end c.tree n in
      ap (λ a. some (done_of a)) (sym (tree-of text c.tree c.lines none u))

  module _ (e : Element) (to : ℕ) (f : First text c.rest e to) where
    asked : (b : Bool) → all_in e known ≡ b → some_of (unknown c.tree) (numbers_of f.it) ≡ not b
    asked b h =
        sym (names-asked c.tree ranges f.it f.it-fits) ∙ ap not (ap₂ (λ x s. all_in x s) f.code (sym c.set) ∙ h)

    pub few : e.inputs.count ≤ max_inputs
    few = subst (λ (x : Element). x.inputs.count ≤ max_inputs) f.code (held-count f.it.ins (few-inputs f.it f.it-fits))

    pub names-out : all_in e known ≡ false → (k : ℕ) → k ≡ column_in e known → says_checked (Err (record { number = 5; place = Spot n k }))
        ≡ some (done_of (tree_of text))
    unfolding says_checked told
    names-out h k q =
        let col : k ≡ column_of (unknown c.tree) f.it =
        q ∙ ap₂ (λ x s. column_in x s) (sym f.code) c.set ∙ names-column c.tree ranges f.it f.it-fits in
        let u = sym c.same ∙ ap (unknown_from c.tree n) f.lines ∙ unknown-here c.tree n f.it f.more (asked false h) in
        ap (λ x. some (refused (tell 5 (n ∷ x ∷ [])))) col ∙ ap (λ a. some (done_of a)) (sym (tree-of text c.tree c.lines _ u))

    pub names-on : all_in e known ≡ true → length (drop to text) < length (drop at text) → Asked text known to (n + 1)
    names-on h l =
        let b = c.count in
        record {
          tree = c.tree;
          lines = c.lines;
          set = c.set;
          rest = f.more;
          left = f.left;
          same =
              ap (λ m. unknown_from c.tree m f.more) (let z : n + 1 ≡ suc n = omega arith in z)
              ∙ sym (unknown-there c.tree n f.it f.more (asked true h)) ∙ ap (unknown_from c.tree n) (sym f.lines) ∙ c.same;
          count = omega (arith, b, l);
        }
