-- The whole text, clock by clock: the lists found so far, before those of the clocks to come, are all lists.
use mathlib.Core.Path.{◌≡◌, refl, sym, ◌∙◌, ap, ap₂, subst}
use mathlib.Core.Logic.{by_cases}
use mathlib.Core.Bool.{true, false}
use mathlib.Core.List.{List, [], ◌∷◌, ◌++◌, append-nil}
use Prim.Native.Nat.{ℕ, suc, ◌+◌, ◌-◌, ◌≤◌, ◌<◌}
use native.Mathlib.Decide.{ℕ_discrete}
use native.Mathlib.Numerals.{add-one}
use native.Mathlib.Omega.{arith}
use lib.ListN.{length, get_or, drop, set, length-set, length-append, get_or-append, drop_of_length-le}
use lib.Seq.{append_snoc, get_or-append-add, get_or-set_same, get_or-set_other}
use Rattle.laws.specs.Sets.{has}
use Rattle.answer.specs.Limits.{max_clocks}
use Rattle.answer.specs.Told.{tell, told, Answer, answered, refused, says_checked}
use Rattle.model.specs.Reading.{stops, got}
use Rattle.fields.proofs.ScanLaws.{front}
use Rattle.simulation.specs.Simulate.{and_then}
use Rattle.simulation.specs.Samples.{line_at, lists_from, samples_of}
use Rattle.answer.specs.Told.{Checked}
use Rattle.std.specs.Prelude.{Ok, Err}
use Rattle.samples.specs.declared.Spot.{Spot}
use Rattle.samples.specs.Lines.{Left, over, LineBad}
use Rattle.samples.specs.Text.{Begun, in-line, no_line, bad_line, Scans}
use Rattle.samples.proofs.LineLaws.{field-nil}

-- ---- one clock
module _ (d n x k : ℕ) (bs : List ℕ) where
  not-declared : has d x ≡ false → lists_from d (suc n) x k bs ≡ and_then (lists_from d n (suc x) k bs) (λ ls. answered ([] ∷ ls))
  unfolding lists_from
  not-declared e = rw (e, lists_from)

  good-line : (l cs : List ℕ) → has d x ≡ true → line_at x bs ≡ got l cs
      → lists_from d (suc n) x k bs ≡ and_then (lists_from d n (suc x) (suc k) cs) (λ ls. answered (l ∷ ls))
  unfolding lists_from
  good-line l cs e q = rw (e, q, lists_from)

  bad-line-here : (cs : List ℕ) → has d x ≡ true → line_at x bs ≡ stops cs → lists_from d (suc n) x k bs ≡ refused (tell 40 (k ∷ []))
  unfolding lists_from
  bad-line-here cs e q = rw (e, q, lists_from)

no-clock : (d n x k : ℕ) → n ≡ 0 → lists_from d n x k [] ≡ answered []
unfolding lists_from
no-clock d n x k e = rw (e, lists_from)

line-too-many : (d n x k b : ℕ) (bs : List ℕ) → n ≡ 0 → lists_from d n x k (b ∷ bs) ≡ refused (tell 40 (k ∷ []))
unfolding lists_from
line-too-many d n x k b bs e = rw (e, lists_from)

-- lists found before others
abbrev after : List (List ℕ) → Answer (List (List ℕ)) → Answer (List (List ℕ))
after ls o = and_then o (λ ms. answered (ls ++ ms))

after_none : (o : Answer (List (List ℕ))) → after [] o ≡ o
after_none (answered ls) = refl
after_none (refused f) = refl

after_one : (ls : List (List ℕ)) (l : List ℕ) (o : Answer (List (List ℕ))) → after ls (and_then o (λ ms. answered (l ∷ ms))) ≡ after (ls ++ (l ∷ [])) o
after_one ls l (answered ms) = ap answered (sym (append_snoc ls l ms))
after_one ls l (refused f) = refl

-- ---- the clocks below x are done
pub record Between (t : List ℕ) (d : ℕ) (f : List ℕ) (p : Spot) (x : ℕ) : Type 0 where
  pub below : x ≤ max_clocks
  pub line : p.line ≤ x + 1
  pub count : length f ≡ max_clocks
  pub found : List (List ℕ)
  pub size : length found ≡ x
  pub same : after found (lists_from d (max_clocks - x) x p.line (drop p.at t)) ≡ samples_of d t
  pub each : (y : ℕ) → y < x → Left (drop (get_or f y 0) t) (get_or found y [])

pub between_none : (t : List ℕ) (d : ℕ) (f : List ℕ) → length f ≡ max_clocks → Between t d f (record { at = 0; line = 1 }) 0
unfolding samples_of
between_none t d f c = record {
  below = omega arith;
  line = omega arith;
  count = c;
  found = [];
  size = refl;
  same = after_none (lists_from d max_clocks 0 1 t);
  each = λ y h. absurd (omega arith);
}

pub none_left : (t : List ℕ) (at : ℕ) → length t ≤ at → Left (drop at t) []
none_left t at h = rw (drop_of_length-le t h) (over {bs = []} {cs = []} field-nil)

module _ (t : List ℕ) (d : ℕ) (f : List ℕ) (p : Spot) (x : ℕ) (w : Between t d f p x) where
  -- the lists with one more, at whose samples the cursor b stands
  module _ (h : x < max_clocks) (b : ℕ) (l : List ℕ) (left : Left (drop b t) l) where
    one_more : (y : ℕ) → y < x + 1 → Left (drop (get_or (set f x b) y 0) t) (get_or (w.found ++ (l ∷ [])) y [])
    one_more y q = by_cases (ℕ_discrete y x) here before
      where
        here : y ≡ x → Left (drop (get_or (set f x b) y 0) t) (get_or (w.found ++ (l ∷ [])) y [])
        here e =
            let i : get_or (set f x b) y 0 ≡ b = ap (λ n. get_or (set f x b) n 0) e ∙ get_or-set_same f x b 0 (omega (arith, w.count)) in
            let j : y ≡ length w.found + 0 = omega (arith, w.size) in
            let k : get_or (w.found ++ (l ∷ [])) y [] ≡ l = ap (λ n. get_or (w.found ++ (l ∷ [])) n []) j ∙ get_or-append-add w.found (l ∷ []) 0 [] in
            rw (i, k) left

        before : (y ≡ x → ⊥) → Left (drop (get_or (set f x b) y 0) t) (get_or (w.found ++ (l ∷ [])) y [])
        before e =
            let i : get_or (set f x b) y 0 ≡ get_or f y 0 = get_or-set_other f x y b 0 e in
            let k : get_or (w.found ++ (l ∷ [])) y [] ≡ get_or w.found y [] = get_or-append w.found (l ∷ []) [] y (omega (arith, w.size)) in
            rw (i, k) (w.each y (omega arith))

    more-size : length (w.found ++ (l ∷ [])) ≡ x + 1
    more-size = length-append w.found (l ∷ []) ∙ omega (arith, w.size)

  -- the rest of the clocks, one by one
  rest : x < max_clocks → lists_from d (max_clocks - x) x p.line (drop p.at t) ≡ lists_from d (suc (max_clocks - (x + 1))) x p.line (drop p.at t)
  rest h = let e : max_clocks - x ≡ suc (max_clocks - (x + 1)) = omega arith in ap (λ n. lists_from d n x p.line (drop p.at t)) e

  pub between_more : (h : x < max_clocks) (b : ℕ) (q : Spot) → Begun d x t p b q → Between t d (set f x b) q (x + 1)
  between_more h b q (no_line e s left) =
      let n = max_clocks - (x + 1) in
      rw s (record {
        below = omega arith;
        line = omega (arith, w.line);
        count = length-set f x b ∙ w.count;
        found = w.found ++ ([] ∷ []);
        size = more-size h b [] left;
        same =
            ap (λ y. after (w.found ++ ([] ∷ [])) (lists_from d n y p.line (drop p.at t))) (add-one x)
            ∙ sym (after_one w.found [] (lists_from d n (suc x) p.line (drop p.at t)))
            ∙ sym (ap (after w.found) (rest h ∙ not-declared d n x p.line (drop p.at t) e))
            ∙ w.same;
        each = one_more h b [] left;
      })
  between_more h b q (in-line e s line) =
      let n = max_clocks - (x + 1) in
      let l = line.samples in
      record {
        below = omega arith;
        line = omega (arith, w.line, s);
        count = length-set f x b ∙ w.count;
        found = w.found ++ (l ∷ []);
        size = more-size h b l line.left;
        same =
            ap₂ (λ y k. after (w.found ++ (l ∷ [])) (lists_from d n y k (drop q.at t))) (add-one x) s
            ∙ sym (after_one w.found l (lists_from d n (suc x) (suc p.line) (drop q.at t)))
            ∙ sym (ap (after w.found) (rest h ∙ good-line d n x p.line (drop p.at t) l (drop q.at t) e line.line))
            ∙ w.same;
        each = one_more h b l line.left;
      }

  -- ---- the end
  told-40 : (r : Checked) → r ≡ Err (bad_line p.line) → refused (tell 40 (p.line ∷ [])) ≡ samples_of d t → Scans (samples_of d t) t r f
  unfolding says_checked told
  told-40 r e s = subst (λ a. Scans a t r f) s (ap says_checked e)

  pub bad-here : x < max_clocks → has d x ≡ true → LineBad x t p.at → (r : Checked) → r ≡ Err (bad_line p.line) → Scans (samples_of d t) t r f
  bad-here h e l r q =
      told-40 r q (sym (ap (after w.found) (rest h ∙ bad-line-here d (max_clocks - (x + 1)) x p.line (drop p.at t) l.stop e l.line)) ∙ w.same)

  pub bad-behind : max_clocks ≤ x → p.at < length t → (r : Checked) → r ≡ Err (bad_line p.line) → Scans (samples_of d t) t r f
  bad-behind h k r q =
      let z : max_clocks - x ≡ 0 = omega arith in
      let s : lists_from d (max_clocks - x) x p.line (drop p.at t) ≡ refused (tell 40 (p.line ∷ []))
      = ap (lists_from d (max_clocks - x) x p.line) (front t p.at k)
      ∙ line-too-many d (max_clocks - x) x p.line (get_or t p.at 0) (drop (p.at + 1) t) z in
      told-40 r q (sym (ap (after w.found) s) ∙ w.same)

  pub all-good : max_clocks ≤ x → length t ≤ p.at → (r : Checked) → r ≡ (Ok tt) → Scans (samples_of d t) t r f
  unfolding says_checked
  all-good h k r q =
      let z : max_clocks - x ≡ 0 = omega arith in
      let s : lists_from d (max_clocks - x) x p.line (drop p.at t) ≡ answered []
      = ap (lists_from d (max_clocks - x) x p.line) (drop_of_length-le t k) ∙ no-clock d (max_clocks - x) x p.line z in
      let a : answered w.found ≡ samples_of d t = ap answered (sym (append-nil w.found)) ∙ sym (ap (after w.found) s) ∙ w.same in
      subst (λ a. Scans a t r f) a (ap says_checked q, record { count = w.count; each = λ y l. w.each y (omega arith) })
