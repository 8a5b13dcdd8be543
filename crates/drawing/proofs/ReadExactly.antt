-- The file is read exactly: its distributions where it is the file of some, and else 49 at the first bad line, or one past the last.
use mathlib.Core.Path.{◌≡◌, refl, sym, ◌∙◌, ap, subst}
use mathlib.Core.Logic.{◌↔◌}
use mathlib.Core.Bool.{Bool, true, false}
use mathlib.Core.Option.{Option, none, some}
use mathlib.Core.List.{List, [], ◌∷◌, ◌++◌}
use Prim.Native.Nat.{ℕ, zero, suc, ◌+◌, ◌≤◌}
use native.Mathlib.Omega.{arith}
use lib.ListN.{length}
use Rattle.laws.specs.Sets.{has}
use Rattle.answer.specs.Limits.{max_clocks}
use Rattle.answer.specs.Told.{tell, Answer, answered, refused}
use Rattle.model.specs.Reading.{Scan, is, stops, got}
use Rattle.model.proofs.Reading.Scans.{no-is}
use Rattle.simulation.specs.Simulate.{and_then}
use Rattle.draw.specs.declared.Law.{Law}
use Rattle.drawing.specs.File.{line_at, laws_from, laws_of, line_of, Good, part_of, lines_from, GoodFrom, LinesOf}
use Rattle.drawing.specs.File.{BadFrom, line-too-many, no_line, past-none, past-line, FileAnswer, are, is49}
use Rattle.drawing.proofs.Lines.{line-there, line-back}

-- distributions before others
abbrev before : Option Law → Answer (List (Option Law)) → Answer (List (Option Law))
before o a = and_then a (λ ls. answered (o ∷ ls))

module _ (d : ℕ) where
  -- ---- one clock
  module _ (n x k : ℕ) (bs : List ℕ) where
    pub not-declared : has d x ≡ false → laws_from d (suc n) x k bs ≡ before none (laws_from d n (suc x) k bs)
    unfolding laws_from
    not-declared e = rw (e, laws_from)

    pub good-line : (l : Law) (cs : List ℕ) → has d x ≡ true → line_at x bs ≡ got l cs
        → laws_from d (suc n) x k bs ≡ before (some l) (laws_from d n (suc x) (suc k) cs)
    unfolding laws_from
    good-line l cs e q = rw (e, q, laws_from)

    pub bad-line : (cs : List ℕ) → has d x ≡ true → line_at x bs ≡ stops cs → laws_from d (suc n) x k bs ≡ refused (tell 49 (k ∷ []))
    unfolding laws_from
    bad-line cs e q = rw (e, q, laws_from)

  -- ---- what is read of n clocks from x on, from line k on
  data FromHere (n x k : ℕ) (bs : List ℕ) : Answer (List (Option Law)) → Type 0 where
    lines : {ls : List (Option Law)} → LinesOf d n x bs ls → FromHere n x k bs (answered ls)
    bad : {j : ℕ} → BadFrom d n x bs j → FromHere n x k bs (refused (tell 49 ((k + j) ∷ [])))

  none_ahead : {n x k : ℕ} {bs : List ℕ} → has d x ≡ false → (a : Answer (List (Option Law))) → FromHere n (suc x) k bs a
      → FromHere (suc n) x k bs (before none a)
  unfolding lines_from part_of
  none_ahead e (answered ls) (lines t) = lines {ls = none ∷ ls} (record { count = ap suc t.count; good = (e, t.good); text = t.text })
  none_ahead e a (bad t) = bad (past-none e t)

  line-ahead : {n x k : ℕ} {cs : List ℕ} (l : Law) → has d x ≡ true → Good l → (a : Answer (List (Option Law))) → FromHere n (suc x) (suc k) cs a
      → FromHere (suc n) x k (line_of x l ++ cs) (before (some l) a)
  unfolding lines_from part_of
  line-ahead {x = x} l e h (answered ls) (lines t) =
      lines {ls = some l ∷ ls} (record { count = ap suc t.count; good = ((e, h), t.good); text = ap {B = List ℕ} (λ r. line_of x l ++ r) t.text })
  line-ahead {n} {x} {k} {cs} l e h a (bad {j = j} t) =
      let o : k + suc j ≡ suc k + j = omega arith in
      subst (λ y. FromHere (suc n) x k (line_of x l ++ cs) (refused (tell 49 (y ∷ [])))) o (bad (past-line l e h t))

  from_is : (n x k : ℕ) (bs : List ℕ) → x + n ≤ max_clocks → FromHere n x k bs (laws_from d n x k bs)
  unfolding laws_from lines_from
  from_is zero x k [] b = lines (record { count = refl; good = tt; text = refl })
  from_is zero x k (c ∷ bs) b =
      let e : k + 0 ≡ k = omega arith in
      subst (λ y. FromHere zero x k (c ∷ bs) (refused (tell 49 (y ∷ [])))) e (bad line-too-many)
  from_is (suc n) x k bs b = go (from_is n) (has d x) refl (line_at x bs) refl
    where
      none_here : {cs : List ℕ} → line_at x bs ≡ stops cs → (l : Law) (ds : List ℕ) → Good l → bs ≡ line_of x l ++ ds → ⊥
      none_here q l ds h t = no-is q (subst (λ r. line_at x r ≡ got l ds) (sym t) (line-there x l ds (omega arith) h))

      go : ((x k : ℕ) (bs : List ℕ) → x + n ≤ max_clocks → FromHere n x k bs (laws_from d n x k bs)) → (t : Bool) → has d x ≡ t
          → (s : Scan Law) → line_at x bs ≡ s → FromHere (suc n) x k bs (laws_from d (suc n) x k bs)
      go rec false e s q =
          subst (FromHere (suc n) x k bs) (sym (not-declared n x k bs e)) (none_ahead e (laws_from d n (suc x) k bs) (rec (suc x) k bs (omega arith)))
      go rec true e (is g) q =
          let r = line-back x bs g q in
          let later = line-ahead g.value e r.1 (laws_from d n (suc x) (suc k) g.rest) (rec (suc x) (suc k) g.rest (omega arith)) in
          subst (FromHere (suc n) x k bs) (sym (good-line n x k bs g.value g.rest e q))
          (subst (λ (r : List ℕ). FromHere (suc n) x k r (before (some g.value) (laws_from d n (suc x) (suc k) g.rest))) (sym r.0) later)
      go rec true e (stops cs) q =
          let o : k + 0 ≡ k = omega arith in
          subst (FromHere (suc n) x k bs) (sym (bad-line n x k bs cs e q))
          (subst (λ y. FromHere (suc n) x k bs (refused (tell 49 (y ∷ [])))) o (bad (no_line e (none_here q))))

  -- ---- and back
  lines-back : (n x k : ℕ) (ls : List (Option Law)) → x + n ≤ max_clocks → length ls ≡ n → GoodFrom d x ls → laws_from d n x k (lines_from x ls) ≡ answered ls
  unfolding laws_from lines_from part_of
  lines-back zero x k [] b c g = refl
  lines-back zero x k (o ∷ os) b c g = absurd (omega arith)
  lines-back (suc n) x k [] b c g = absurd (omega arith)
  lines-back (suc n) x k (none ∷ os) b c g =
      not-declared n x k (lines_from (suc x) os) g.0 ∙ ap (before none) (lines-back n (suc x) k os (omega arith) (omega arith) g.1)
  lines-back (suc n) x k (some l ∷ os) b c g =
      good-line n x k (line_of x l ++ lines_from (suc x) os) l (lines_from (suc x) os) g.0.0 (line-there x l (lines_from (suc x) os) (omega arith) g.0.1)
      ∙ ap (before (some l)) (lines-back n (suc x) (suc k) os (omega arith) (omega arith) g.1)

  bad-back : (n x k : ℕ) (bs : List ℕ) (j : ℕ) → x + n ≤ max_clocks → BadFrom d n x bs j → laws_from d n x k bs ≡ refused (tell 49 ((k + j) ∷ []))
  unfolding laws_from
  bad-back zero x k bs j b (line-too-many {b = c} {bs = cs}) = let o : k ≡ k + 0 = omega arith in ap (λ y. refused (tell 49 (y ∷ []))) o
  bad-back (suc n) x k bs j b (no_line e f) = go (line_at x bs) refl
    where
      go : (s : Scan Law) → line_at x bs ≡ s → laws_from d (suc n) x k bs ≡ refused (tell 49 ((k + 0) ∷ []))
      go (is g) q = let r = line-back x bs g q in absurd (f g.value g.rest r.1 r.0)
      go (stops cs) q = let o : k ≡ k + 0 = omega arith in bad-line n x k bs cs e q ∙ ap (λ y. refused (tell 49 (y ∷ []))) o
  bad-back (suc n) x k bs j b (past-none e t) = not-declared n x k bs e ∙ ap (before none) (bad-back n (suc x) k bs j (omega arith) t)
  bad-back (suc n) x k bs j b (past-line {j = i} {cs = cs} l e h t) =
      let o : suc k + i ≡ k + suc i = omega arith in
      good-line n x k (line_of x l ++ cs) l cs e (line-there x l cs (omega arith) h)
      ∙ ap (before (some l)) (bad-back n (suc x) (suc k) cs i (omega arith) t)
      ∙ ap (λ y. refused (tell 49 (y ∷ []))) o

-- the distributions are read from a file exactly where it is theirs, and 49 is at the first bad line exactly, or one past the last
pub file-read-exactly : (d : ℕ) (t : List ℕ) (a : Answer (List (Option Law))) → (laws_of d t ≡ a) ↔ FileAnswer d t a
unfolding laws_of
file-read-exactly d t a = (λ e. subst (FileAnswer d t) e (go (laws_from d max_clocks 0 1 t) (from_is d max_clocks 0 1 t (omega arith))), back a)
  where
    go : (o : Answer (List (Option Law))) → FromHere d max_clocks 0 1 t o → FileAnswer d t o
    go (answered ls) (lines k) = are k
    go o (bad {j = j} k) = let e : suc j ≡ 1 + j = omega arith in subst (λ y. FileAnswer d t (refused (tell 49 (y ∷ [])))) e (is49 k)

    back : (o : Answer (List (Option Law))) → FileAnswer d t o → laws_from d max_clocks 0 1 t ≡ o
    back (answered ls) (are k) = ap (laws_from d max_clocks 0 1) k.text ∙ lines-back d max_clocks 0 1 ls (omega arith) k.count k.good
    back o (is49 {j = j} k) = let e : 1 + j ≡ suc j = omega arith in bad-back d max_clocks 0 1 t j (omega arith) k ∙ ap (λ y. refused (tell 49 (y ∷ []))) e

-- one file for one list of distributions, and one list for one file
pub one-file : {d : ℕ} {t u : List ℕ} {ls : List (Option Law)} → FileAnswer d t (answered ls) → FileAnswer d u (answered ls) → t ≡ u
one-file (are k) (are j) = k.text ∙ sym j.text
