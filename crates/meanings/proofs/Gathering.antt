-- The loops over inputs and lines: what is gathered so far, with what is left, is the whole.
use mathlib.Core.Path.{◌≡◌, refl, sym, ◌∙◌, ap, ap₂}
use mathlib.Core.Bool.{Bool, true, false, cond}
use mathlib.Core.List.{List, ◌++◌}
use Prim.Native.Nat.{ℕ, ◌+◌, ◌*◌, ◌-◌, ◌≤◌, ◌<◌}
use native.Mathlib.Omega.{arith}
use lib.ListN.{length, length-append}
use lib.Seq.{sets, length-sets}
use lib.Bits.{or_comm, or_zero_r}
use lib.Dec.{leb}
use borrow.Author.Tests.{le-leb, lt-leb}
use Rattle.laws.specs.Sets.{has, ◌∪◌, only}
use Rattle.laws.specs.Fold.{tab}
use Rattle.laws.proofs.SetLaws.{or_assoc}
use Rattle.laws.proofs.FoldLaws.{tab-length}
use Rattle.laws.proofs.TabLaws.{tab-next, tab-done}
use Rattle.fill.proofs.FillLaws.{sets-append}
use Rattle.answer.specs.Limits.{max_actions, max_elements}
use Rattle.trees.specs.Tree.{Sort, be-sort, and-sort, or-sort, pand-sort, rbox-sort, Element as TheElement, Tree}
use Rattle.treelines.specs.declared.Inputs.{Inputs}
use Rattle.treelines.specs.declared.Element.{Element}
use Rattle.treelines.specs.Elements.{sort_is}
use Rattle.treecheck.specs.Numbers.{input_at, ins_in}
use Rattle.treenames.specs.Names.{tree_in, LinesOf}
use Rattle.treenames.proofs.Passing.{Left, all_left, none_left, First}
use Rattle.elements.specs.Parts.{element_of}
use Rattle.meanings.specs.declared.Named.{Named}
use Rattle.meanings.specs.Words.{set_of, box_set, boxed_in, first_signal, signal_count, words_for, words_from, words_of, put_at, NamedBy}
use Rattle.meanings.proofs.FirstLine.{it-is, lines-few}
use Rattle.meanings.proofs.WordLaws.{words-length}

none_last : (s : ℕ) → s ∪ 0 ≡ s
none_last s = or_zero_r s

none_first : (s : ℕ) → 0 ∪ s ≡ s
none_first s = or_comm 0 s ∙ or_zero_r s

-- ---- the inputs
module _ (i : Inputs) where
  pub record Some (set j : ℕ) : Type 0 where
    pub same : set ∪ set_of (tab (input_at i) j (i.count - j)) ≡ set_of (ins_in i)

  pub some-begins : Some 0 0
  unfolding ins_in
  some-begins =
      record {
        same = none_first (set_of (tab (input_at i) 0 (i.count - 0))) ∙ ap (λ n. set_of (tab (input_at i) 0 n))
            (let z : i.count - 0 ≡ i.count = omega arith in z);
      }

  pub some-on : (set j : ℕ) → Some set j → j < i.count → (x s r : ℕ) → x ≡ input_at i j → s ≡ only x → r ≡ (set ∪ s) → Some r (j + 1)
  unfolding set_of
  some-on set j h l x s r e f g =
      let rest = set_of (tab (input_at i) (j + 1) (i.count - (j + 1))) in
      record {
        same =
            ap (λ z. z ∪ rest) (g ∙ ap (λ z. set ∪ z) (f ∙ ap only e)) ∙ or_assoc set (only (input_at i j)) rest
            ∙ ap (λ z. set ∪ set_of z) (sym (tab-next (input_at i) j i.count l)) ∙ h.same;
      }

  pub some-ends : (set j : ℕ) → Some set j → i.count ≤ j → set ≡ set_of (ins_in i)
  unfolding set_of
  some-ends set j h l = sym (none_last set) ∙ ap (λ z. set ∪ set_of z) (sym (tab-done (input_at i) j i.count l)) ∙ h.same

-- ---- the lines: the elements in boxes
pub record Boxing (text : List ℕ) (boxed at : ℕ) : Type 0 where
  pub lines : LinesOf text (tree_in text)
  pub rest : Tree
  pub left : Left text at rest
  pub same : boxed ∪ boxed_in rest ≡ boxed_in (tree_in text)

pub boxing-begins : (text : List ℕ) → LinesOf text (tree_in text) → Boxing text 0 0
boxing-begins text h = record { lines = h; rest = tree_in text; left = all_left text (tree_in text) h; same = none_first (boxed_in (tree_in text)) }

module _ (text : List ℕ) (boxed at : ℕ) (c : Boxing text boxed at) where
  pub boxing-done : length text ≤ at → boxed ≡ boxed_in (tree_in text)
  unfolding boxed_in
  boxing-done h = sym (none_last boxed) ∙ ap (λ x. boxed ∪ boxed_in x) (sym (none_left text at c.rest c.left h)) ∙ c.same

  pub boxing-on : (e : Element) (to : ℕ) (q : First text c.rest e to) (s r : ℕ) → s ≡ box_set (element_of e) → r ≡ (boxed ∪ s) → Boxing text r to
  unfolding boxed_in
  boxing-on e to q s r f g = record {
    lines = c.lines;
    rest = q.more;
    left = q.left;
    same =
        ap (λ z. z ∪ boxed_in q.more) (g ∙ ap (λ z. boxed ∪ z) (f ∙ ap box_set (it-is text c.rest e to q)))
        ∙ or_assoc boxed (box_set q.it) (boxed_in q.more) ∙ ap (λ x. boxed ∪ boxed_in x) (sym q.lines) ∙ c.same;
  }

-- ---- the lines: words
pub few-signals : (q : Sort) (b : Bool) → signal_count q b ≤ 5
few-signals be-sort true = omega arith
few-signals be-sort false = omega arith
few-signals and-sort b = omega arith
few-signals or-sort b = omega arith
few-signals pand-sort b = omega arith
few-signals rbox-sort b = omega arith

pub low-signal : (q : Sort) → first_signal q ≤ 2
low-signal be-sort = omega arith
low-signal and-sort = omega arith
low-signal or-sort = omega arith
low-signal pand-sort = omega arith
low-signal rbox-sort = omega arith

put_some : (at : ℕ) (ws l : List ℕ) → at + length ws ≤ max_actions → put_at at ws l ≡ sets l at ws
unfolding put_at
put_some at ws l h = rw (le-leb (at + length ws) max_actions h)

pub put-none : (at : ℕ) (ws l : List ℕ) → max_actions < at + length ws → l ≡ put_at at ws l
unfolding put_at
put-none at ws l h = rw (lt-leb (at + length ws) max_actions h)

pub put_all : (at w n : ℕ) (l l' : List ℕ) → at + n ≤ max_actions → l' ≡ sets l at (tab (λ k. w + k) 0 n) → l' ≡ put_at at (tab (λ k. w + k) 0 n) l
put_all at w n l l' h e = e ∙ sym (put_some at (tab (λ k. w + k) 0 n) l (let z = tab-length (λ k. w + k) 0 n in omega (arith, h, z)))

length-put : (at : ℕ) (ws l : List ℕ) → length (put_at at ws l) ≡ length l
unfolding put_at
length-put at ws l = go (leb (at + length ws) max_actions)
  where
    go : (b : Bool) → length (cond b (sets l at ws) l) ≡ length l
    go true = length-sets l at ws
    go false = refl

pub record Naming (text : List ℕ) (boxed : ℕ) (old : List ℕ) (components actions at : ℕ) (new : List ℕ) : Type 0 where
  pub lines : LinesOf text (tree_in text)
  pub set : boxed ≡ boxed_in (tree_in text)
  pub rest : Tree
  pub left : Left text at rest
  pub count : components + length rest ≡ length (tree_in text)
  pub few : actions ≤ 5 * components
  pub acts : actions + length (words_from boxed rest) ≡ length (words_from boxed (tree_in text))
  pub long : length new ≡ max_actions
  pub same : length (words_from boxed (tree_in text)) ≤ max_actions → sets new actions (words_from boxed rest) ≡ sets old 0 (words_from boxed (tree_in text))

pub naming-begins : (text : List ℕ) (boxed : ℕ) (old : List ℕ) → LinesOf text (tree_in text) → boxed ≡ boxed_in (tree_in text) → length old ≡ max_actions
    → Naming text boxed old 0 0 0 old
naming-begins text boxed old h b l =
    record {
      lines = h;
      set = b;
      rest = tree_in text;
      left = all_left text (tree_in text) h;
      count = omega arith;
      few = omega arith;
      acts = omega arith;
      long = l;
      same = λ _. refl;
    }

module _ (text : List ℕ) (boxed : ℕ) (old : List ℕ) (components actions at : ℕ) (new : List ℕ) (c : Naming text boxed old components actions at new) where
  pub lines-low : components ≤ max_elements
  lines-low = let a = lines-few text c.lines in let b = c.count in omega (arith, a, b)

  pub naming-done : length text ≤ at → (r : Named) → r.components ≡ components → r.actions ≡ actions → NamedBy (tree_in text) old r new
  unfolding words_from words_of
  naming-done h r e f =
      let z = none_left text at c.rest c.left h in
      let n = ap length z in
      let m = ap (λ x. length (words_from boxed x)) z in
      let whole : words_from boxed (tree_in text) ≡ words_of (tree_in text) = ap (λ b. words_from b (tree_in text)) c.set in
      let k = ap length whole ∙ words-length (tree_in text) in
      record {
        components = omega (arith, e, n, c.count);
        actions = omega (arith, f, m, c.acts, k);
        words = λ l. ap (λ x. sets new actions (words_from boxed x)) (sym z) ∙ c.same (omega (arith, l, k)) ∙ ap (sets old 0) whole;
      }

  module _ (e : Element) (to : ℕ) (q : First text c.rest e to) where
    abbrev ws : List ℕ
    ws = words_for boxed (element_of e)

    pub naming-on : (n w : ℕ) (next : List ℕ) (b : Bool) (k : ℕ) → b ≡ has boxed e.number → n ≡ signal_count (sort_is e.sort) b
        → k ≡ first_signal (sort_is e.sort) → w ≡ e.number * 8 + k
        → next ≡ put_at actions (tab (λ j. w + j) 0 n) new → Naming text boxed old (components + 1) (actions + n) to next
    unfolding words_from words_for
    naming-on n w next b k eb en ek ew ex =
        let own : tab (λ j. w + j) 0 n ≡ ws =
        ap₂ (λ x m. tab (λ j. x + j) 0 m) (ew ∙ ap (λ x. e.number * 8 + x) ek) (en ∙ ap (signal_count (sort_is e.sort)) eb) in
        let split : words_from boxed c.rest ≡ ws ++ words_from boxed q.more =
        ap (words_from boxed) q.lines ∙ ap (λ (x : TheElement). words_for boxed x ++ words_from boxed q.more) (sym (it-is text c.rest e to q)) in
        let many : length (words_from boxed c.rest) ≡ n + length (words_from boxed q.more) =
        ap length split ∙ length-append ws (words_from boxed q.more) ∙ ap (λ m. m + length (words_from boxed q.more))
        (ap length (sym own) ∙ tab-length (λ j. w + j) 0 n) in
        let fewer = few-signals (sort_is e.sort) b in
        let line = ap length q.lines in
        let here : length (tab (λ j. w + j) 0 n) ≡ n = tab-length (λ j. w + j) 0 n in
        record {
          lines = c.lines;
          set = c.set;
          rest = q.more;
          left = q.left;
          count = omega (arith, line, c.count);
          few = omega (arith, fewer, en, c.few);
          acts = omega (arith, many, c.acts);
          long = ap length ex ∙ length-put actions (tab (λ j. w + j) 0 n) new ∙ c.long;
          same = λ l.
              ap (λ x. sets x (actions + n) (words_from boxed q.more))
              (ex ∙ put_some actions (tab (λ j. w + j) 0 n) new (omega (arith, l, c.acts, many, here)))
              ∙ ap (λ m. sets (sets new actions (tab (λ j. w + j) 0 n)) (actions + m) (words_from boxed q.more)) (sym here)
              ∙ sym (sets-append new (tab (λ j. w + j) 0 n) (words_from boxed q.more) actions)
              ∙ ap (λ x. sets new actions (x ++ words_from boxed q.more)) own ∙ ap (sets new actions) (sym split) ∙ c.same l;
        }
