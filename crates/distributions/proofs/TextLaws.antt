-- The whole file, clock by clock: the distributions found so far, before those of the clocks to come, are all.
use mathlib.Core.Path.{◌≡◌, refl, sym, ◌∙◌, ap, subst}
use mathlib.Core.Logic.{by_cases}
use mathlib.Core.Bool.{true}
use mathlib.Core.Option.{Option, none, some}
use mathlib.Core.List.{List, [], ◌∷◌, ◌++◌, append-nil}
use Prim.Native.Nat.{ℕ, suc, ◌+◌, ◌-◌, ◌≤◌, ◌<◌}
use native.Mathlib.Decide.{ℕ_discrete}
use native.Mathlib.Numerals.{add-one}
use native.Mathlib.Omega.{arith}
use lib.ListN.{length, get_or, drop, set, length-set, length-append, get_or-append, drop_of_length-le}
use lib.Seq.{append_snoc, get_or-append-add, get_or-set_same, get_or-set_other}
use Rattle.laws.specs.Sets.{has}
use Rattle.answer.specs.Limits.{max_clocks}
use Rattle.answer.specs.Told.{tell, told, Answer, answered, refused, says_checked}
use Rattle.answer.specs.Told.{Checked}
use Rattle.std.specs.Prelude.{Ok, Err}
use Rattle.model.specs.Reading.{stops}
use Rattle.fields.proofs.ScanLaws.{front}
use Rattle.simulation.specs.Simulate.{and_then}
use Rattle.draw.specs.declared.Law.{Law}
use Rattle.drawing.specs.File.{line_at, laws_from, laws_of}
use Rattle.drawing.proofs.ReadExactly.{not-declared, good-line, bad-line}
use Rattle.distributions.specs.declared.Spot.{Spot}
use Rattle.distributions.specs.Found.{law_in}
use Rattle.distributions.specs.Text.{Begun, in-line, no_line, bad_line, Scans}

no-clock : (d n x k : ℕ) → n ≡ 0 → laws_from d n x k [] ≡ answered []
unfolding laws_from
no-clock d n x k e = rw (e, laws_from)

byte-too-many : (d n x k b : ℕ) (bs : List ℕ) → n ≡ 0 → laws_from d n x k (b ∷ bs) ≡ refused (tell 49 (k ∷ []))
unfolding laws_from
byte-too-many d n x k b bs e = rw (e, laws_from)

-- distributions found before others
abbrev after : List (Option Law) → Answer (List (Option Law)) → Answer (List (Option Law))
after ls o = and_then o (λ ms. answered (ls ++ ms))

after_none : (o : Answer (List (Option Law))) → after [] o ≡ o
after_none (answered ls) = refl
after_none (refused f) = refl

after_one : (ls : List (Option Law)) (l : Option Law) (o : Answer (List (Option Law)))
    → after ls (and_then o (λ ms. answered (l ∷ ms))) ≡ after (ls ++ (l ∷ [])) o
after_one ls l (answered ms) = ap answered (sym (append_snoc ls l ms))
after_one ls l (refused f) = refl

-- ---- the clocks below x are done
pub record Between (t : List ℕ) (d : ℕ) (at : List ℕ) (p : Spot) (x : ℕ) : Type 0 where
  pub below : x ≤ max_clocks
  pub line : p.line ≤ x + 1
  pub count : length at ≡ max_clocks
  pub laws : List (Option Law)
  pub size : length laws ≡ x
  pub same : after laws (laws_from d (max_clocks - x) x p.line (drop p.at t)) ≡ laws_of d t
  pub each : (y : ℕ) → y < x → law_in t (get_or at y 0) ≡ get_or laws y none

pub between_none : (t : List ℕ) (d : ℕ) (at : List ℕ) → length at ≡ max_clocks → Between t d at (record { at = 0; line = 1 }) 0
unfolding laws_of
between_none t d at c = record {
  below = omega arith;
  line = omega arith;
  count = c;
  laws = [];
  size = refl;
  same = after_none (laws_from d max_clocks 0 1 t);
  each = λ y h. absurd (omega arith);
}

module _ (t : List ℕ) (d : ℕ) (at : List ℕ) (p : Spot) (x : ℕ) (w : Between t d at p x) where
  -- one more, which stands at b
  module _ (h : x < max_clocks) (b : ℕ) (l : Option Law) (stands : law_in t b ≡ l) where
    one_more : (y : ℕ) → y < x + 1 → law_in t (get_or (set at x b) y 0) ≡ get_or (w.laws ++ (l ∷ [])) y none
    one_more y q = by_cases (ℕ_discrete y x) here before
      where
        here : y ≡ x → law_in t (get_or (set at x b) y 0) ≡ get_or (w.laws ++ (l ∷ [])) y none
        here e =
            let i : get_or (set at x b) y 0 ≡ b = ap (λ n. get_or (set at x b) n 0) e ∙ get_or-set_same at x b 0 (omega (arith, w.count)) in
            let j : y ≡ length w.laws + 0 = omega (arith, w.size) in
            ap (law_in t) i ∙ stands ∙ sym (ap (λ n. get_or (w.laws ++ (l ∷ [])) n none) j ∙ get_or-append-add w.laws (l ∷ []) 0 none)

        before : (y ≡ x → ⊥) → law_in t (get_or (set at x b) y 0) ≡ get_or (w.laws ++ (l ∷ [])) y none
        before e =
            ap (law_in t) (get_or-set_other at x y b 0 e) ∙ w.each y (omega arith)
            ∙ sym (get_or-append w.laws (l ∷ []) none y (omega (arith, w.size)))

    -- the rest of the clocks go on from q
    more : (q : Spot) → q.line ≤ x + 1 + 1
        → laws_from d (suc (max_clocks - (x + 1))) x p.line (drop p.at t)
        ≡ and_then (laws_from d (max_clocks - (x + 1)) (suc x) q.line (drop q.at t)) (λ ms. answered (l ∷ ms))
        → Between t d (set at x b) q (x + 1)
    more q i e =
        let n = max_clocks - (x + 1) in
        let o : max_clocks - x ≡ suc n = omega arith in
        record {
          below = omega arith;
          line = i;
          count = length-set at x b ∙ w.count;
          laws = w.laws ++ (l ∷ []);
          size = length-append w.laws (l ∷ []) ∙ omega (arith, w.size);
          same =
              ap (λ y. after (w.laws ++ (l ∷ [])) (laws_from d n y q.line (drop q.at t))) (add-one x)
              ∙ sym (after_one w.laws l (laws_from d n (suc x) q.line (drop q.at t)))
              ∙ sym (ap (after w.laws) (ap (λ n. laws_from d n x p.line (drop p.at t)) o ∙ e))
              ∙ w.same;
          each = one_more;
        }

  pub between_more : (h : x < max_clocks) (b : ℕ) (q : Spot) → Begun d x t p b q → Between t d (set at x b) q (x + 1)
  between_more h b q (no_line e s stands) =
      rw s (more h b none stands p (omega (arith, w.line)) (not-declared d (max_clocks - (x + 1)) x p.line (drop p.at t) e))
  between_more h b q (in-line e s line) =
      let n = max_clocks - (x + 1) in
      let l = line.law in
      more h b (some l) line.stands q (omega (arith, w.line, s))
      (good-line d n x p.line (drop p.at t) l (drop q.at t) e line.line
      ∙ ap (λ k. and_then (laws_from d n (suc x) k (drop q.at t)) (λ ms. answered (some l ∷ ms))) (sym s))

  -- ---- the end
  told-49 : (r : Checked) → r ≡ Err (bad_line p.line) → refused (tell 49 (p.line ∷ [])) ≡ laws_of d t → Scans (laws_of d t) t r at
  unfolding says_checked told
  told-49 r e s = subst (λ a. Scans a t r at) s (ap says_checked e)

  pub bad-here : x < max_clocks → has d x ≡ true → (cs : List ℕ) → line_at x (drop p.at t) ≡ stops cs → (r : Checked) → r ≡ Err (bad_line p.line)
      → Scans (laws_of d t) t r at
  bad-here h e cs l r q =
      let o : max_clocks - x ≡ suc (max_clocks - (x + 1)) = omega arith in
      told-49 r q (sym (ap (after w.laws) (ap (λ n. laws_from d n x p.line (drop p.at t)) o
      ∙ bad-line d (max_clocks - (x + 1)) x p.line (drop p.at t) cs e l)) ∙ w.same)

  pub bad-behind : max_clocks ≤ x → p.at < length t → (r : Checked) → r ≡ Err (bad_line p.line) → Scans (laws_of d t) t r at
  bad-behind h k r q =
      let z : max_clocks - x ≡ 0 = omega arith in
      let s : laws_from d (max_clocks - x) x p.line (drop p.at t) ≡ refused (tell 49 (p.line ∷ []))
      = ap (laws_from d (max_clocks - x) x p.line) (front t p.at k) ∙ byte-too-many d (max_clocks - x) x p.line (get_or t p.at 0) (drop (p.at + 1) t) z in
      told-49 r q (sym (ap (after w.laws) s) ∙ w.same)

  pub all-good : max_clocks ≤ x → length t ≤ p.at → (r : Checked) → r ≡ (Ok tt) → Scans (laws_of d t) t r at
  unfolding says_checked
  all-good h k r q =
      let z : max_clocks - x ≡ 0 = omega arith in
      let s : laws_from d (max_clocks - x) x p.line (drop p.at t) ≡ answered []
      = ap (laws_from d (max_clocks - x) x p.line) (drop_of_length-le t k) ∙ no-clock d (max_clocks - x) x p.line z in
      let a : answered w.laws ≡ laws_of d t = ap answered (sym (append-nil w.laws)) ∙ sym (ap (after w.laws) s) ∙ w.same in
      subst (λ a. Scans a t r at) a (rw q (refl, record { count = w.count; each = λ y l. w.each y (omega arith) }))
