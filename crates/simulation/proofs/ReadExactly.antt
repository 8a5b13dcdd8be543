-- The sample text is read exactly: its lists where it is the text of lists, and else 40 at the first bad line, or one past the last.
use mathlib.Core.Path.{◌≡◌, refl, sym, ◌∙◌, ap, ap₂, subst}
use mathlib.Core.Logic.{◌↔◌}
use mathlib.Core.Bool.{Bool, true, false, cond, true≢false}
use mathlib.Core.List.{List, [], ◌∷◌, ◌++◌, append_assoc, append-nil}
use Prim.Native.Nat.{ℕ, zero, suc, ◌+◌, ◌-◌, ◌/◌, ◌%◌, ◌≤◌, ◌<◌}
use native.Mathlib.Nat.{zero-add}
use native.Mathlib.Omega.{arith}
use lib.ListN.{length}
use lib.Dec.{eqb, ltb}
use borrow.Author.Tests.{ne_eqb}
use Rattle.laws.specs.Sets.{has, ◌∈◌}
use Rattle.answer.specs.Limits.{max_clocks, max_digits, max_tick_digits}
use Rattle.answer.specs.Told.{tell, Answer, answered, refused}
use Rattle.model.specs.Text.{lf, byte0, digits_of, decimal, fields_after}
use Rattle.model.specs.Reading.{Scan, is, stops, got}
use Rattle.iosa.specs.Product.{count}
use Rattle.model.proofs.Reading.Scans.{no-is}
use Rattle.simulation.specs.Simulate.{and_then}
use Rattle.simulation.specs.Samples.{line_at, lists_from, samples_of, texts, line_of, lines_from, AllTicks, GoodFrom}
use Rattle.simulation.specs.Samples.{LinesOf, BadFrom, no_line, line-too-many, SamplesAnswer, are, is40}
use Rattle.simulation.proofs.Lines.{line-printed, line-scanned}

-- ---- a line has one LF
count-both : (b : ℕ) (xs ys : List ℕ) → count b (xs ++ ys) ≡ count b xs + count b ys
unfolding count
count-both b [] ys = sym (zero-add (count b ys))
count-both b (x ∷ xs) ys = go (eqb x b) (count-both b xs ys)
  where
    more : Bool → ℕ → ℕ
    more t n = elim t as (λ _. ℕ) [ true ↦ suc n | false ↦ n ]

    go : (t : Bool) → count b (xs ++ ys) ≡ count b xs + count b ys → more t (count b (xs ++ ys)) ≡ more t (count b xs) + count b ys
    go true e = omega (arith, e)
    go false e = e

digit-no-lf : (n : ℕ) → count lf ((byte0 + n) ∷ []) ≡ 0
unfolding count
digit-no-lf n = rw (ne_eqb (byte0 + n) lf (omega arith), count)

digits-no-lf : (k n : ℕ) → count lf (digits_of k n) ≡ 0
unfolding digits_of count
digits-no-lf zero n = refl
digits-no-lf (suc k) n = go (ltb n 10) (digits-no-lf k (n / 10))
  where
    go : (t : Bool) → count lf (digits_of k (n / 10)) ≡ 0
        → count lf (elim t as (λ _. List ℕ) [ true ↦ (byte0 + n) ∷ [] | false ↦ digits_of k (n / 10) ++ (byte0 + n % 10) ∷ [] ]) ≡ 0
    go true e = digit-no-lf n
    go false e = omega (arith, count-both lf (digits_of k (n / 10)) ((byte0 + n % 10) ∷ []), e, digit-no-lf (n % 10))

fields-one-lf : (l : List ℕ) → count lf (fields_after (texts l)) ≡ 1
unfolding fields_after count
fields-one-lf [] = refl
fields-one-lf (n ∷ ns) =
    omega (arith, count-both lf (digits_of max_tick_digits n) (fields_after (texts ns)), digits-no-lf max_tick_digits n, fields-one-lf ns)

line-one-lf : (x : ℕ) (l : List ℕ) → count lf (line_of x l) ≡ 1
unfolding line_of decimal
line-one-lf x l = omega (arith, count-both lf (decimal x) (fields_after (texts l)), digits-no-lf max_digits x, fields-one-lf l)

-- the bytes do not begin with a line of clock x
abbrev NoLine : List ℕ → ℕ → Type 0
NoLine bs x = (l cs : List ℕ) → AllTicks l → bs ≡ line_of x l ++ cs → ⊥

module _ (d : ℕ) where
  -- the line of clock x, if it is declared
  part : ℕ → List ℕ → List ℕ
  part x l = cond (has d x) (line_of x l) []

  declared-part : (x : ℕ) (l : List ℕ) → x ∈ d → part x l ≡ line_of x l
  unfolding part
  declared-part x l h = rw h

  other-part : (x : ℕ) (l : List ℕ) → has d x ≡ false → part x l ≡ []
  unfolding part
  other-part x l h = rw h

  lines_cons : (x : ℕ) (l : List ℕ) (ls : List (List ℕ)) → lines_from d x (l ∷ ls) ≡ part x l ++ lines_from d (suc x) ls
  unfolding lines_from part
  lines_cons x l ls = refl

  -- ---- what is read of n clocks from x on, from line k on
  data FromHere (n x k : ℕ) (bs : List ℕ) : Answer (List (List ℕ)) → Type 0 where
    lists : {ls : List (List ℕ)} → LinesOf d n x bs ls → FromHere n x k bs (answered ls)
    bad : {j : ℕ} → BadFrom d n x bs j → FromHere n x k bs (refused (tell 40 ((k + j) ∷ [])))

  -- a good line, or a clock that is not declared, ahead
  lists-ahead : {n x : ℕ} {bs : List ℕ} {ls : List (List ℕ)} (l : List ℕ) → AllTicks l → (has d x ≡ false → l ≡ []) → LinesOf d n (suc x) bs ls
      → LinesOf d (suc n) x (part x l ++ bs) (l ∷ ls)
  lists-ahead {n} {x} {bs} {ls} l h u k = record {
    count = ap suc k.count;
    good = (h, u, k.good);
    text = ap (λ (r : List ℕ). part x l ++ r) k.text ∙ sym (lines_cons x l ls);
  }

  text-ahead : (x : ℕ) (l : List ℕ) (ls : List (List ℕ)) (bs rest : List ℕ) → bs ≡ lines_from d (suc x) ls ++ rest
      → part x l ++ bs ≡ lines_from d x (l ∷ ls) ++ rest
  text-ahead x l ls bs rest t =
      ap (λ (r : List ℕ). part x l ++ r) t ∙ sym (append_assoc (part x l) (lines_from d (suc x) ls) rest)
      ∙ ap (λ (r : List ℕ). r ++ rest) (sym (lines_cons x l ls))

  lf-ahead : (x : ℕ) (l : List ℕ) (ls : List (List ℕ)) → count lf (lines_from d x (l ∷ ls)) ≡ count lf (part x l) + count lf (lines_from d (suc x) ls)
  lf-ahead x l ls = ap (count lf) (lines_cons x l ls) ∙ count-both lf (part x l) (lines_from d (suc x) ls)

  bad-ahead : {n x j : ℕ} {bs : List ℕ} (l : List ℕ) → AllTicks l → (has d x ≡ false → l ≡ []) → BadFrom d n (suc x) bs j
      → BadFrom d (suc n) x (part x l ++ bs) (count lf (part x l) + j)
  bad-ahead {n} {x} {bs = bs} l h u (no_line ls rest b g t i f) =
      let e : suc x + length ls ≡ x + suc (length ls) = omega arith in
      subst (BadFrom d (suc n) x (part x l ++ bs)) (lf-ahead x l ls)
      (no_line (l ∷ ls) rest (omega arith) (h, u, g) (text-ahead x l ls bs rest t) (subst (λ y. y ∈ d) e i) (subst (NoLine rest) e f))
  bad-ahead {n} {x} {bs = bs} l h u (line-too-many ls b rest c g t) =
      subst (BadFrom d (suc n) x (part x l ++ bs)) (lf-ahead x l ls) (line-too-many (l ∷ ls) b rest (ap suc c) (h, u, g) (text-ahead x l ls bs (b ∷ rest) t))

  from-ahead : {n x k : ℕ} {bs : List ℕ} (l : List ℕ) → AllTicks l → (has d x ≡ false → l ≡ []) → (o : Answer (List (List ℕ)))
      → FromHere n (suc x) (k + count lf (part x l)) bs o
      → FromHere (suc n) x k (part x l ++ bs) (and_then o (λ ls. answered (l ∷ ls)))
  from-ahead l h u (answered ls) (lists t) = lists (lists-ahead l h u t)
  from-ahead {n} {x} {k} {bs} l h u o (bad {j = j} t) =
      let e : k + (count lf (part x l) + j) ≡ k + count lf (part x l) + j = omega arith in
      subst (λ y. FromHere (suc n) x k (part x l ++ bs) (refused (tell 40 (y ∷ [])))) e (bad (bad-ahead l h u t))

  -- ---- the scan goes on behind a good line, or past a clock that is not declared
  goes_on : (n x k : ℕ) (l bs : List ℕ) → x < max_clocks → AllTicks l → (has d x ≡ false → l ≡ [])
      → lists_from d (suc n) x k (part x l ++ bs) ≡ and_then (lists_from d n (suc x) (k + count lf (part x l)) bs) (λ ls. answered (l ∷ ls))
  unfolding lists_from count
  goes_on n x k l bs b h u = go (has d x) refl
    where
      on : ℕ → Answer (List (List ℕ))
      on y = and_then (lists_from d n (suc x) y bs) (λ ls. answered (l ∷ ls))

      go : (t : Bool) → has d x ≡ t → lists_from d (suc n) x k (part x l ++ bs) ≡ on (k + count lf (part x l))
      go false e =
          let o : k ≡ k + 0 = omega arith in
          rw (other-part x l e, u e) (rw (e, lists_from) (ap (λ y. and_then (lists_from d n (suc x) y bs) (λ ls. answered ([] ∷ ls))) o))
      go true e =
          let o : suc k ≡ k + 1 = omega arith in
          rw (declared-part x l e, line-one-lf x l) (rw (e, line-printed x l bs (omega arith) h, lists_from) (ap on o))

  -- ---- both ways
  from_is : (n x k : ℕ) (bs : List ℕ) → x + n ≤ max_clocks → FromHere n x k bs (lists_from d n x k bs)
  unfolding lists_from lines_from count
  from_is zero x k [] b = lists (record { count = refl; good = tt; text = refl })
  from_is zero x k (c ∷ bs) b =
      let e : k + 0 ≡ k = omega arith in
      subst (λ y. FromHere zero x k (c ∷ bs) (refused (tell 40 (y ∷ [])))) e (bad (line-too-many [] c bs refl tt refl))
  from_is (suc n) x k bs b = go (has d x) refl (line_at x bs) refl (from_is n)
    where
      -- a good line, or a clock that is not declared, and what is read behind it
      on : (l rest : List ℕ) → AllTicks l → (has d x ≡ false → l ≡ [])
          → ((x k : ℕ) (bs : List ℕ) → x + n ≤ max_clocks → FromHere n x k bs (lists_from d n x k bs))
          → part x l ++ rest ≡ bs → FromHere (suc n) x k bs (lists_from d (suc n) x k bs)
      on l rest h u rec e =
          let j = k + count lf (part x l) in
          let later = from-ahead {n = n} {x = x} {k = k} {bs = rest} l h u (lists_from d n (suc x) j rest) (rec (suc x) j rest (omega arith)) in
          subst (λ (r : List ℕ). FromHere (suc n) x k r (lists_from d (suc n) x k r)) e
          (subst (FromHere (suc n) x k (part x l ++ rest)) (sym (goes_on n x k l rest (omega arith) h u)) later)

      -- no line of this clock
      at : x + 0 ≡ x
      at = omega arith

      here : k + 0 ≡ k
      here = omega arith

      none : {cs : List ℕ} → line_at x bs ≡ stops cs → NoLine bs (x + 0)
      none q l ds h t = no-is q (subst (λ r. line_at x r ≡ got l ds) (sym (t ∙ ap (λ y. line_of y l ++ ds) at)) (line-printed x l ds (omega arith) h))

      go : (t : Bool) → has d x ≡ t → (s : Scan (List ℕ)) → line_at x bs ≡ s
          → ((x k : ℕ) (bs : List ℕ) → x + n ≤ max_clocks → FromHere n x k bs (lists_from d n x k bs)) → FromHere (suc n) x k bs (lists_from d (suc n) x k bs)
      go false e s q rec = on [] bs tt (λ h. refl) rec (ap (λ (r : List ℕ). r ++ bs) (other-part x [] e))
      go true e (is g) q rec =
          let r = line-scanned x bs g q in
          let text = ap (λ (l : List ℕ). l ++ g.rest) (declared-part x g.value e) ∙ sym r.0 in
          on g.value g.rest r.1 (λ h. absurd (true≢false (sym e ∙ h))) rec text
      go true e (stops cs) q rec =
          rw (e, q, lists_from) (subst (λ y. FromHere (suc n) x k bs (refused (tell 40 (y ∷ [])))) here
          (bad (no_line [] bs (omega arith) tt refl (subst (λ y. y ∈ d) (sym at) e) (none q))))

  -- bytes that begin with a good line, or with a clock that is not declared
  cons-back : (n x k : ℕ) (l : List ℕ) (ls : List (List ℕ)) (bs rest : List ℕ) → x < max_clocks → AllTicks l → (has d x ≡ false → l ≡ [])
      → bs ≡ lines_from d x (l ∷ ls) ++ rest
      → lists_from d (suc n) x k bs ≡ and_then (lists_from d n (suc x) (k + count lf (part x l)) (lines_from d (suc x) ls ++ rest)) (λ ms. answered (l ∷ ms))
  cons-back n x k l ls bs rest b h u t =
      ap (lists_from d (suc n) x k) (t ∙ sym (text-ahead x l ls (lines_from d (suc x) ls ++ rest) rest refl))
      ∙ goes_on n x k l (lines_from d (suc x) ls ++ rest) b h u

  lists_back : (n x k : ℕ) (ls : List (List ℕ)) → x + n ≤ max_clocks → length ls ≡ n → GoodFrom d x ls → lists_from d n x k (lines_from d x ls ++ []) ≡ answered ls
  unfolding lists_from lines_from
  lists_back zero x k [] b c g = refl
  lists_back zero x k (l ∷ ls) b c g = absurd (omega arith)
  lists_back (suc n) x k [] b c g = absurd (omega arith)
  lists_back (suc n) x k (l ∷ ls) b c g =
      cons-back n x k l ls (lines_from d x (l ∷ ls) ++ []) [] (omega arith) g.0 g.1 refl
      ∙ ap (λ o. and_then o (λ ms. answered (l ∷ ms))) (lists_back n (suc x) (k + count lf (part x l)) ls (omega arith) (omega arith) g.2)

  -- 40 behind the good lines of ls, whatever makes it so there
  bad-back : (n x k : ℕ) (ls : List (List ℕ)) (rest : List ℕ) → x + n ≤ max_clocks → length ls ≤ n → GoodFrom d x ls
      → ((k : ℕ) → lists_from d (n - length ls) (x + length ls) k rest ≡ refused (tell 40 (k ∷ [])))
      → lists_from d n x k (lines_from d x ls ++ rest) ≡ refused (tell 40 ((k + count lf (lines_from d x ls)) ∷ []))
  unfolding lines_from count
  bad-back n x k [] rest b c g f =
      let e : n ≡ n - 0 = omega arith in
      let i : x ≡ x + 0 = omega arith in
      let o : k ≡ k + 0 = omega arith in
      ap (λ j. lists_from d j x k rest) e ∙ ap (λ y. lists_from d (n - 0) y k rest) i ∙ f k ∙ ap (λ y. refused (tell 40 (y ∷ []))) o
  bad-back zero x k (l ∷ ls) rest b c g f = absurd (omega arith)
  bad-back (suc n) x k (l ∷ ls) rest b c g f =
      let e : x + suc (length ls) ≡ suc x + length ls = omega arith in
      let i : n - length ls ≡ suc n - suc (length ls) = omega arith in
      let o : k + count lf (part x l) + count lf (lines_from d (suc x) ls) ≡ k + count lf (lines_from d x (l ∷ ls)) = omega (arith, lf-ahead x l ls) in
      cons-back n x k l ls (lines_from d x (l ∷ ls) ++ rest) rest (omega arith) g.0 g.1 refl
      ∙ ap (λ a. and_then a (λ ms. answered (l ∷ ms)))
      (bad-back n (suc x) (k + count lf (part x l)) ls rest (omega arith) (omega arith) g.2 (λ j. ap₂ (λ m y. lists_from d m y j rest) i (sym e) ∙ f j))
      ∙ ap (λ y. refused (tell 40 (y ∷ []))) o

  -- no line of the next declared clock, and a byte behind the last line
  stuck : (n x k : ℕ) (rest : List ℕ) → 1 ≤ n → x ∈ d → ((l cs : List ℕ) → AllTicks l → rest ≡ line_of x l ++ cs → ⊥)
      → lists_from d n x k rest ≡ refused (tell 40 (k ∷ []))
  unfolding lists_from
  stuck zero x k rest b i f = absurd (omega arith)
  stuck (suc n) x k rest b i f = rw (i, lists_from) (go (line_at x rest) refl)
    where
      go : (s : Scan (List ℕ)) → line_at x rest ≡ s
          → ◌≡◌ {A = Answer (List (List ℕ))}
          (elim s as (λ _. Answer (List (List ℕ))) [
            | is g ↦ and_then (lists_from d n (suc x) (suc k) g.rest) (λ ls. answered (g.value ∷ ls))
            | stops cs ↦ refused (tell 40 (k ∷ []))
          ]) (refused (tell 40 (k ∷ [])))
      go (stops cs) q = refl
      go (is g) q = let r = line-scanned x rest g q in absurd (f g.value g.rest r.1 r.0)

  more : (n x k b : ℕ) (rest : List ℕ) → n ≡ 0 → lists_from d n x k (b ∷ rest) ≡ refused (tell 40 (k ∷ []))
  unfolding lists_from
  more zero x k b rest e = refl
  more (suc n) x k b rest e = absurd (omega arith)

  is-bad : (n x k : ℕ) (bs : List ℕ) {j : ℕ} → x + n ≤ max_clocks → BadFrom d n x bs j → lists_from d n x k bs ≡ refused (tell 40 ((k + j) ∷ []))
  is-bad n x k bs b (no_line ls rest c g t i f) =
      ap (lists_from d n x k) t ∙ bad-back n x k ls rest b (omega arith) g (λ j. stuck (n - length ls) (x + length ls) j rest (omega arith) i f)
  is-bad n x k bs b (line-too-many ls c rest e g t) =
      ap (lists_from d n x k) t ∙ bad-back n x k ls (c ∷ rest) b (omega arith) g (λ j. more (n - length ls) (x + length ls) j c rest (omega arith))

-- the lists are read from a text exactly where it is their text, and 40 is at the first bad line exactly, or one past the last
pub samples-read-exactly : (d : ℕ) (t : List ℕ) (a : Answer (List (List ℕ))) → (samples_of d t ≡ a) ↔ SamplesAnswer d t a
unfolding samples_of
samples-read-exactly d t a = (λ e. subst (SamplesAnswer d t) e (go (lists_from d max_clocks 0 1 t) (from_is d max_clocks 0 1 t (omega arith))), back a)
  where
    go : (o : Answer (List (List ℕ))) → FromHere d max_clocks 0 1 t o → SamplesAnswer d t o
    go (answered ls) (lists k) = are k
    go o (bad {j = j} k) = let e : suc j ≡ 1 + j = omega arith in subst (λ y. SamplesAnswer d t (refused (tell 40 (y ∷ [])))) e (is40 k)

    back : (o : Answer (List (List ℕ))) → SamplesAnswer d t o → lists_from d max_clocks 0 1 t ≡ o
    back (answered ls) (are k) =
        ap (lists_from d max_clocks 0 1) (k.text ∙ sym (append-nil (lines_from d 0 ls))) ∙ lists_back d max_clocks 0 1 ls (omega arith) k.count k.good
    back o (is40 {j = j} k) = let e : 1 + j ≡ suc j = omega arith in is-bad d max_clocks 0 1 t (omega arith) k ∙ ap (λ y. refused (tell 40 (y ∷ []))) e
