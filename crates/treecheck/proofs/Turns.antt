-- One turn of reading a tree: how what the code keeps stands to what the definition keeps, before a line and behind it.
use mathlib.Core.Path.{◌≡◌, refl, sym, ◌∙◌, ap, ap₂, subst}
use mathlib.Core.Option.{some}
use mathlib.Core.List.Memᴰ.{head as here}
use mathlib.Core.List.{List, [], ◌∷◌}
use mathlib.Core.Bool.{Bool, true, false, not}
use Prim.Native.Nat.{ℕ, suc, ◌+◌, ◌-◌, ◌^◌, ◌≤◌, ◌<◌}
use native.Mathlib.Nat.{le_refl}
use native.Mathlib.Omega.{arith}
use lib.ListN.{length, drop, drop_of_length-le, length-drop}
use borrow.Author.Tests.{lt-ltb, le-ltb}
use Rattle.sets.specs.Members.{word_bits}
use Rattle.answer.specs.Limits.{max_elements, max_inputs}
use Rattle.answer.specs.declared.Place.TheVariants.{Line, Spot}
use Rattle.std.specs.Prelude.{Ok, Err}
use Rattle.answer.specs.Told.{told, tell, Answer, answered, refused, says_checked, done_of}
use Rattle.model.specs.Reading.{stops, got, stop_column}
use Rattle.fields.specs.Resets.{valued}
use Rattle.lines.proofs.LineLaws.{valued-is}
use Rattle.trees.specs.Tree.{Element as TheElement, Tree}
use Rattle.trees.specs.TreeText.{element, out_of_range, behind_line, consed, lines_from}
use Rattle.trees.specs.TreeFaults.{ElementFits}
use Rattle.trees.proofs.Scans.{line-exactly}
use Rattle.trees.proofs.Faults.{range-is, fault-4, fault-6, no-fault, element-shortens, lines_end, lines-shapeless, lines-fault, lines_next}
use Rattle.treelines.specs.declared.Element.{Element}
use Rattle.treelines.specs.Elements.{element_is}
use Rattle.treecheck.specs.Numbers.{all_in, column_in}
use Rattle.treecheck.proofs.CodeLaws.{held-count, few-inputs, range-asked, range-column}

abbrev pub all : ℕ
all = 2 ^ word_bits - 1

abbrev pub whole : List ℕ → Answer Tree
whole t = lines_from (length t) 1 0 t

pub record Stands (t : List ℕ) (low at n : ℕ) : Type 0 where
  pub same : done_of (lines_from (length (drop at t)) n low (drop at t)) ≡ done_of (whole t)
  pub count : n + length (drop at t) ≤ 1 + length t

pub stands-first : (t : List ℕ) → Stands t 0 0 1
stands-first t = record { same = refl; count = le_refl _ }

left : (t : List ℕ) (at : ℕ) → at < length t → (drop at t ≡ [] → ⊥)
left t at h e = omega (arith, length-drop at t, ap length e)

done-consed : (e : TheElement) (a : Answer Tree) → done_of (consed e a) ≡ done_of a
done-consed e (answered t) = refl
done-consed e (refused f) = refl

-- the line that a scan found, as an element
pub record Read (t : List ℕ) (at : ℕ) (l : Element) (to : ℕ) : Type 0 where
  pub it : TheElement
  pub found : element (drop at t) ≡ got it (drop to t)
  pub line : element_is it ≡ l

pub read-line : (t : List ℕ) (at : ℕ) (l : Element) (to : ℕ) → valued element_is (element (drop at t)) ≡ got l (drop to t) → Read t at l to
read-line t at l to e = let v = valued-is element_is (element (drop at t)) e in record { it = v.0; found = v.1; line = v.2 }

pub read-on : {t : List ℕ} {at : ℕ} {l : Element} {to : ℕ} → Read t at l to → length (drop to t) < length (drop at t)
read-on {t} {at} {l} {to} r = element-shortens (drop at t) r.it (drop to t) r.found

module _ {t : List ℕ} {at : ℕ} (l : Element) {to : ℕ} (r : Read t at l to) where
  fits : ElementFits r.it
  fits = ((line-exactly (drop at t) r.it (drop to t)).0 r.found).fits

  pub few : l.inputs.count ≤ max_inputs
  few = subst (λ (x : Element). x.inputs.count ≤ max_inputs) r.line (held-count r.it.ins (few-inputs r.it fits))

  range-said : (b : Bool) → all_in l all ≡ b → out_of_range r.it ≡ not b
  range-said b h = sym (range-asked r.it fits) ∙ ap not (ap (λ x. all_in x all) r.line ∙ h)

  number_same : r.it.number ≡ l.number
  number_same = ap (λ (x : Element). x.number) r.line

  pub number-below : all_in l all ≡ true → l.number < max_elements
  number-below h = subst (λ n. n < max_elements) number_same (range-is r.it (range-said true h) r.it.number (here refl))

  module _ {low n : ℕ} (s : Stands t low at n) where
    pub line-out : all_in l all ≡ false → done_of (whole t) ≡ refused (tell 4 (n ∷ column_in l all ∷ []))
    line-out h =
        sym s.same
        ∙ ap done_of (lines-fault n low (length (drop at t)) (drop at t) r.it (drop to t) 4 (le_refl _) r.found (fault-4 low r.it (range-said false h)))
        ∙ ap (λ c. refused (tell 4 (n ∷ c))) (sym (range-column r.it fits) ∙ ap (λ x. column_in x all ∷ []) r.line)

    module _ (h : all_in l all ≡ true) where
      pub line_low : l.number < low → done_of (whole t) ≡ refused (tell 6 (n ∷ []))
      unfolding behind_line
      line_low k =
          let q = lt-ltb r.it.number low (subst (λ x. x < low) (sym number_same) k) in
          sym s.same
          ∙ ap done_of (lines-fault n low (length (drop at t)) (drop at t) r.it (drop to t) 6 (le_refl _) r.found
          (fault-6 low r.it (range-said true h) q))

      pub line_taken : low ≤ l.number → Stands t (l.number + 1) to (n + 1)
      line_taken k =
          let q = le-ltb r.it.number low (subst (λ x. low ≤ x) (sym number_same) k) in
          let next = lines_next n low (length (drop at t)) (length (drop to t)) (drop at t) r.it (drop to t) (le_refl _) (le_refl _) r.found
          (no-fault low r.it (range-said true h) q) in
          let c = s.count in
          let o = read-on r in
          record {
            same =
                ap₂ (λ i m. done_of (lines_from (length (drop to t)) i m (drop to t))) (let z : n + 1 ≡ suc n = omega arith in z)
                (let z : l.number + 1 ≡ suc r.it.number = omega (arith, number_same) in z)
                ∙ sym (done-consed r.it (lines_from (length (drop to t)) (suc n) (suc r.it.number) (drop to t)))
                ∙ sym (ap done_of next) ∙ s.same;
            count = omega (arith, c, o);
          }

module _ {t : List ℕ} {low at n : ℕ} (s : Stands t low at n) where
  pub no_line : (cs : List ℕ) → at < length t → element (drop at t) ≡ stops cs → done_of (whole t) ≡ refused (tell 2 (n ∷ stop_column (drop at t) cs ∷ []))
  no_line cs h e = sym s.same ∙ ap done_of (lines-shapeless n low (length (drop at t)) (drop at t) cs (left t at h) (le_refl _) e)

  pub at-end : length t ≤ at → done_of (whole t) ≡ answered tt
  at-end h =
      let z : lines_from (length (drop at t)) n low (drop at t) ≡ answered [] = rw (drop_of_length-le t h) (lines_end n low 0) in
      sym s.same ∙ ap done_of z

-- what a refusal tells
pub says-2 : (n k : ℕ) (o : Answer (Unit {0})) → o ≡ refused (tell 2 (n ∷ k ∷ [])) → says_checked (Err (record { number = 2; place = Spot n k })) ≡ some o
unfolding says_checked told
says-2 n k o e = ap some (sym e)

pub says-4 : (n k : ℕ) (o : Answer (Unit {0})) → o ≡ refused (tell 4 (n ∷ k ∷ [])) → says_checked (Err (record { number = 4; place = Spot n k })) ≡ some o
unfolding says_checked told
says-4 n k o e = ap some (sym e)

pub says-6 : (n : ℕ) (o : Answer (Unit {0})) → o ≡ refused (tell 6 (n ∷ [])) → says_checked (Err (record { number = 6; place = Line n })) ≡ some o
unfolding says_checked told
says-6 n o e = ap some (sym e)

pub says-fine : (o : Answer (Unit {0})) → o ≡ answered tt → says_checked (Ok tt) ≡ some o
unfolding says_checked
says-fine o e = ap some (sym e)
