-- Reading a tree by its faults: 2, 4 or 6 is answered at a line, with its column, exactly when every line before it is faultless and the number is
-- that line's lowest fault;
-- and a text without such a fault is the text of the tree that is read, its numbers ascending.
use mathlib.Core.Path.{◌≡◌, refl, sym, ◌∙◌, ap, ap₂, subst}
use mathlib.Core.Logic.{◌↔◌}
use mathlib.Core.Option.{none, some}
use mathlib.Core.Bool.{Bool, true, false, false≢true, true≢false, not, ◌&&◌}
use mathlib.Core.List.Memᴰ.{head as here}
use mathlib.Core.List.Memᴰ.{tail as there}
use mathlib.Core.List.{List, [], ◌∷◌, ◌++◌, cons≢nil, map, Memᴰ as In}
use mathlib.Core.List.Memᴰ.{not-nil as in-none}
use Prim.Native.Nat.{ℕ, zero, suc, ◌≤◌, ◌<◌}
use native.Mathlib.Omega.{arith}
use lib.ListN.{length, length-append}
use lib.Dec.{ltb}
use borrow.Author.Tests.{ltb-true, ltb-false, lt-ltb, le-ltb}
use Rattle.laws.specs.Lowest.{Lowest}
use Rattle.laws.proofs.TestLaws.{and-true, not_so, apart-cases}
use Rattle.answer.specs.Limits.{max_elements}
use Rattle.answer.specs.Told.{Told, tell, Answer, answered, refused}
use Rattle.model.specs.Text.{decimal, fields_after}
use Rattle.model.specs.Reading.{Got, Scan, is, stops, got, all_below, stop_column}
use Rattle.model.proofs.Reading.Scans.{is-inj}
use Rattle.trees.specs.Tree.{Sort, be-sort, and-sort, or-sort, pand-sort, rbox-sort, Element, Tree}
use Rattle.trees.specs.TreeText.{sort_word, numbers_of, element_text, tree_text, element, out_of_range, fault_of, behind_line}
use Rattle.trees.specs.TreeText.{consed, lines_from}
use Rattle.trees.specs.TreeFaults.{ElementFits, LineAt, InRange, LineFault, wrong-shape, is_out_of_range, is_out_of_order, FirstNumber}
use Rattle.trees.specs.TreeFaults.{Carries, wrong_byte, range-number, line-alone}
use Rattle.trees.specs.TreeFaults.{Reaches, first-line, next-line, LineFaultAt, Ascending, Drawn}
use Rattle.trees.specs.TreeFaults as F
use Rattle.trees.proofs.Scans.{element-exact, line-exactly, no_line}
use Rattle.trees.proofs.WrongByte.{wrong-byte-here, one-wrong-byte}
use Rattle.trees.proofs.FirstNumber.{first-number, one-first-number}

-- ---- the tests of a line
below_in : (n : ℕ) (xs : List ℕ) → all_below n xs ≡ true → (x : ℕ) → In x xs → x < n
unfolding all_below
below_in n [] h x m = absurd (in-none m)
below_in n (y ∷ ys) h x (here e) = subst (λ z. z < n) (sym e) (ltb-true y n (and-true (ltb y n) (all_below n ys) h).0)
below_in n (y ∷ ys) h x (there m) = below_in n ys (and-true (ltb y n) (all_below n ys) h).1 x m

not-below : (n : ℕ) (xs : List ℕ) → all_below n xs ≡ false → (x : ℕ) × In x xs × (ltb x n ≡ false)
unfolding all_below
not-below n [] h = absurd (true≢false h)
not-below n (y ∷ ys) h = go (not-below n ys) (ltb y n) refl h
  where
    go : (all_below n ys ≡ false → (x : ℕ) × In x ys × (ltb x n ≡ false)) → (b : Bool) → ltb y n ≡ b → (b && all_below n ys) ≡ false
        → (x : ℕ) × In x (y ∷ ys) × (ltb x n ≡ false)
    go ih false q h = (y, here refl, q)
    go ih true q h = let r = ih h in (r.0, there r.1, r.2)

not-not : (b : Bool) → not b ≡ false → b ≡ true
not-not true e = refl
not-not false e = absurd (true≢false e)

not-true : (b : Bool) → not b ≡ true → b ≡ false
not-true true e = absurd (false≢true e)
not-true false e = refl

pub range-is : (e : Element) → out_of_range e ≡ false → InRange e
unfolding out_of_range
range-is e h n m = below_in max_elements (numbers_of e) (not-not _ h) n m

-- a number that is 64 or more
range-not : (e : Element) → out_of_range e ≡ true → (x : ℕ) × In x (numbers_of e) × (ltb x max_elements ≡ false)
unfolding out_of_range
range-not e h = not-below max_elements (numbers_of e) (not-true _ h)

not-in-range : (e : Element) → out_of_range e ≡ true → InRange e → ⊥
not-in-range e h r =
    let p = range-not e h in
    let l = r p.0 p.1 in
    true≢false (sym (lt-ltb p.0 max_elements l) ∙ p.2)

range-test : (n : ℕ) → (not (ltb n max_elements) ≡ false) ↔ (n < max_elements)
range-test n = (λ h. ltb-true n max_elements (not-not _ h), λ l. rw (lt-ltb n max_elements l))

-- ---- the line at the front of the bytes
-- what is told of it: nothing, or a number and what stands behind the line
data Judged (low : ℕ) (bs : List ℕ) : Type 0 where
  shapeless : (cs : List ℕ) → element bs ≡ stops cs → Judged low bs
  outside : (e : Element) (cs : List ℕ) → element bs ≡ got e cs → out_of_range e ≡ true → Judged low bs
  unordered : (e : Element) (cs : List ℕ) → element bs ≡ got e cs → out_of_range e ≡ false → ltb e.number low ≡ true → Judged low bs
  faultless : (e : Element) (cs : List ℕ) → element bs ≡ got e cs → out_of_range e ≡ false → ltb e.number low ≡ false → Judged low bs

judge : (low : ℕ) (bs : List ℕ) → Judged low bs
judge low bs = go (element bs) refl
  where
    go : (o : Scan Element) → element bs ≡ o → Judged low bs
    go (stops cs) read = shapeless cs read
    go (is g) read = more (out_of_range g.value) refl (ltb g.value.number low) refl
      where
        more : (a : Bool) → out_of_range g.value ≡ a → (b : Bool) → ltb g.value.number low ≡ b → Judged low bs
        more true p b q = outside g.value g.rest read p
        more false p true q = unordered g.value g.rest read p q
        more false p false q = faultless g.value g.rest read p q

pub fault-4 : (low : ℕ) (e : Element) → out_of_range e ≡ true → fault_of low e ≡ some 4
unfolding fault_of
fault-4 low e h = rw h

pub fault-6 : (low : ℕ) (e : Element) → out_of_range e ≡ false → ltb e.number low ≡ true → fault_of low e ≡ some 6
unfolding fault_of
fault-6 low e h l = rw (h, l)

pub no-fault : (low : ℕ) (e : Element) → out_of_range e ≡ false → ltb e.number low ≡ false → fault_of low e ≡ none
unfolding fault_of
no-fault low e h l = rw (h, l)

module _ (low : ℕ) (bs : List ℕ) (e : Element) (cs : List ℕ) (read : element bs ≡ got e cs) where
  same_line : {d : Element} {ds : List ℕ} → LineAt bs d ds → e ≡ d
  same_line {d} {ds} h = ap (λ (g : Got Element). g.value) (is-inj (sym read ∙ (line-exactly bs d ds).1 h))

  there-is : LineAt bs e cs
  there-is = (line-exactly bs e cs).0 read

  none-of-it : (m : ℕ) → (m ≡ 4 → InRange e) → (m ≡ 6 → low ≤ e.number) → LineFault low bs m → ⊥
  none-of-it m a b (wrong-shape n h) = h e cs there-is
  none-of-it m a b (is_out_of_range n h w) = w (subst InRange (same_line h) (a n))
  none-of-it m a b (is_out_of_order n h w) = let l = subst (λ (x : Element). low ≤ x.number) (same_line h) (b n) in omega (arith, l, w)

  lowest-4 : out_of_range e ≡ true → Lowest (LineFault low bs) 4
  lowest-4 h = record {
    here = is_out_of_range refl there-is (not-in-range e h);
    before = λ m l. none-of-it m (λ q. absurd (omega arith)) (λ q. absurd (omega arith));
  }

  lowest-6 : out_of_range e ≡ false → ltb e.number low ≡ true → Lowest (LineFault low bs) 6
  lowest-6 h k = record {
    here = is_out_of_order refl there-is (ltb-true e.number low k);
    before = λ m l. none-of-it m (λ q. range-is e h) (λ q. absurd (omega arith));
  }

  carries-4 : out_of_range e ≡ true → Carries bs 4 (behind_line 4 e)
  unfolding behind_line
  carries-4 h =
      let p = range-not e h in
      range-number refl there-is (first-number (λ v. v < max_elements) (λ n. not (ltb n max_elements)) range-test e p.0 p.1 (rw p.2)) refl

  carries-6 : Carries bs 6 (behind_line 6 e)
  unfolding behind_line
  carries-6 = line-alone refl refl

lowest-2 : (low : ℕ) (bs cs : List ℕ) → element bs ≡ stops cs → Lowest (LineFault low bs) 2
lowest-2 low bs cs read = record { here = wrong-shape refl (λ e ds l. no_line bs cs read e ds l); before = λ m l f. early m l f }
  where
    early : (m : ℕ) → m < 2 → LineFault low bs m → ⊥
    early m l (wrong-shape n h) = omega arith
    early m l (is_out_of_range n h w) = omega arith
    early m l (is_out_of_order n h w) = omega arith

carries-2 : (bs cs : List ℕ) → element bs ≡ stops cs → Carries bs 2 (stop_column bs cs ∷ [])
carries-2 bs cs read = wrong_byte refl (wrong-byte-here bs cs read) refl

-- a line has one lowest fault, and that one column
one-lowest : {P : ℕ → Type 0} (m n : ℕ) → Lowest P m → Lowest P n → m ≡ n
one-lowest m n a b = apart-cases m n (λ z. z) (λ z. absurd (b.before m z a.here)) (λ z. absurd (a.before n z b.here))

same-element : {bs : List ℕ} {d e : Element} {cs ds : List ℕ} → LineAt bs d cs → LineAt bs e ds → d ≡ e
same-element {bs} {d} {e} {cs} {ds} a b = ap (λ (g : Got Element). g.value) (is-inj (sym ((line-exactly bs d cs).1 a) ∙ (line-exactly bs e ds).1 b))

same_first : {bs : List ℕ} {d e : Element} {cs ds : List ℕ} {j k : ℕ} → LineAt bs d cs → LineAt bs e ds → FirstNumber (λ v. v < max_elements) d j
    → FirstNumber (λ v. v < max_elements) e k → j ≡ k
same_first {j = j} l m a b = one-first-number (subst (λ x. FirstNumber (λ v. v < max_elements) x j) (same-element l m) a) b

apart : {P : Type 0} {n : ℕ} (i j : ℕ) → ¬ (i ≡ j) → n ≡ i → n ≡ j → P
apart i j h p q = absurd (h (sym p ∙ q))

one-column : {bs : List ℕ} {n : ℕ} {c d : List ℕ} → Carries bs n c → Carries bs n d → c ≡ d
one-column (wrong_byte p a e) (wrong_byte q b f) = e ∙ ap {B = List ℕ} (λ k. k ∷ []) (one-wrong-byte a b) ∙ sym f
one-column (wrong_byte p a e) (range-number q l b f) = apart 2 4 (λ z. omega arith) p q
one-column (wrong_byte p a e) (line-alone q f) = apart 2 6 (λ z. omega arith) p q
one-column (range-number p l a e) (wrong_byte q b f) = apart 4 2 (λ z. omega arith) p q
one-column (range-number p l a e) (range-number q m b f) = e ∙ ap {B = List ℕ} (λ k. k ∷ []) (same_first l m a b) ∙ sym f
one-column (range-number p l a e) (line-alone q f) = apart 4 6 (λ z. omega arith) p q
one-column (line-alone p e) (wrong_byte q b f) = apart 6 2 (λ z. omega arith) p q
one-column (line-alone p e) (range-number q m b f) = apart 6 4 (λ z. omega arith) p q
one-column (line-alone p e) (line-alone q f) = e ∙ sym f

-- ---- how reading goes on from a line, whatever its bound on lines, if that is no less than the bytes left
word-long : (s : Sort) → 1 ≤ length (sort_word s)
word-long be-sort = omega arith
word-long and-sort = omega arith
word-long or-sort = omega arith
word-long pand-sort = omega arith
word-long rbox-sort = omega arith

line-long : (e : Element) → 1 ≤ length (element_text e)
unfolding element_text
line-long e = let w = word-long e.sort in let l = length-append (sort_word e.sort) (fields_after (map decimal (numbers_of e))) in omega (arith, w, l)

pub element-shortens : (bs : List ℕ) (e : Element) (cs : List ℕ) → element bs ≡ got e cs → length cs < length bs
element-shortens bs e cs h =
    let p = ap length ((line-exactly bs e cs).0 h).printed in
    let q = length-append (element_text e) cs in
    let l = line-long e in
    omega (arith, p, q, l)

element-nothing : {e : Element} {cs : List ℕ} → element [] ≡ got e cs → ⊥
element-nothing {e} {cs} h = let l = element-shortens [] e cs h in omega (arith, l)

module _ (n low : ℕ) where
  pub lines_end : (f : ℕ) → lines_from f n low [] ≡ answered []
  unfolding lines_from
  lines_end zero = refl
  lines_end (suc f) = refl

  pub lines-shapeless : (f : ℕ) (bs cs : List ℕ) → ¬ (bs ≡ []) → length bs ≤ f → element bs ≡ stops cs
      → lines_from f n low bs ≡ refused (tell 2 (n ∷ stop_column bs cs ∷ []))
  unfolding lines_from
  lines-shapeless f [] cs w l read = absurd (w refl)
  lines-shapeless zero (b ∷ bs) cs w l read = absurd (omega arith)
  lines-shapeless (suc f) (b ∷ bs) cs w l read = rw (read, lines_from)

  pub lines-fault : (f : ℕ) (bs : List ℕ) (e : Element) (cs : List ℕ) (m : ℕ) → length bs ≤ f → element bs ≡ got e cs → fault_of low e ≡ some m
      → lines_from f n low bs ≡ refused (tell m (n ∷ behind_line m e))
  unfolding lines_from
  lines-fault f [] e cs m l read h = absurd (element-nothing read)
  lines-fault zero (b ∷ bs) e cs m l read h = absurd (omega arith)
  lines-fault (suc f) (b ∷ bs) e cs m l read h = rw (read, lines_from) (rw h)

  taken_in_lem : (f b : ℕ) (bs : List ℕ) (e : Element) (cs : List ℕ) → element (b ∷ bs) ≡ got e cs → fault_of low e ≡ none
      → lines_from (suc f) n low (b ∷ bs) ≡ consed e (lines_from f (suc n) (suc e.number) cs)
  unfolding lines_from
  taken_in_lem f b bs e cs read h = rw (read, lines_from) (rw h)

-- the bound does not matter
lines-bound : (f g n low : ℕ) (bs : List ℕ) → length bs ≤ f → length bs ≤ g → lines_from f n low bs ≡ lines_from g n low bs
lines-bound zero g n low [] l m = lines_end n low zero ∙ sym (lines_end n low g)
lines-bound zero g n low (b ∷ bs) l m = absurd (omega arith)
lines-bound (suc f) g n low [] l m = lines_end n low (suc f) ∙ sym (lines_end n low g)
lines-bound (suc f) zero n low (b ∷ bs) l m = absurd (omega arith)
lines-bound (suc f) (suc g) n low (b ∷ bs) l m = go (λ k cs l m. lines-bound f g (suc n) k cs l m) (judge low (b ∷ bs))
  where
    go : ((k : ℕ) (cs : List ℕ) → length cs ≤ f → length cs ≤ g → lines_from f (suc n) k cs ≡ lines_from g (suc n) k cs) → Judged low (b ∷ bs)
        → lines_from (suc f) n low (b ∷ bs) ≡ lines_from (suc g) n low (b ∷ bs)
    go ih (shapeless cs read) = lines-shapeless n low (suc f) (b ∷ bs) cs cons≢nil l read ∙ sym (lines-shapeless n low (suc g) (b ∷ bs) cs cons≢nil m read)
    go ih (outside e cs read p) =
        lines-fault n low (suc f) (b ∷ bs) e cs 4 l read (fault-4 low e p) ∙ sym (lines-fault n low (suc g) (b ∷ bs) e cs 4 m read (fault-4 low e p))
    go ih (unordered e cs read p q) =
        lines-fault n low (suc f) (b ∷ bs) e cs 6 l read (fault-6 low e p q) ∙ sym (lines-fault n low (suc g) (b ∷ bs) e cs 6 m read (fault-6 low e p q))
    go ih (faultless e cs read p q) =
        let s = element-shortens (b ∷ bs) e cs read in
        taken_in_lem n low f b bs e cs read (no-fault low e p q) ∙ ap (consed e) (ih (suc e.number) cs (omega arith) (omega arith))
        ∙ sym (taken_in_lem n low g b bs e cs read (no-fault low e p q))

-- a faultless line, and what is read behind it
pub lines_next : (n low f g : ℕ) (bs : List ℕ) (e : Element) (cs : List ℕ) → length bs ≤ f → length cs ≤ g → element bs ≡ got e cs → fault_of low e ≡ none
    → lines_from f n low bs ≡ consed e (lines_from g (suc n) (suc e.number) cs)
lines_next n low f g [] e cs l m read h = absurd (element-nothing read)
lines_next n low zero g (b ∷ bs) e cs l m read h = absurd (omega arith)
lines_next n low (suc f) g (b ∷ bs) e cs l m read h =
    let s = element-shortens (b ∷ bs) e cs read in
    taken_in_lem n low f b bs e cs read h ∙ ap (consed e) (lines-bound f g (suc n) (suc e.number) cs (omega arith) m)

-- ---- the lines in their turn
fine-line : (low : ℕ) (e : Element) → InRange e → low ≤ e.number → fault_of low e ≡ none
fine-line low e r l = no-fault low e (not_so (out_of_range e) (λ h. not-in-range e h r)) (le-ltb e.number low l)

-- what is refused further on is refused
reading-goes-on : {text : List ℕ} {k low : ℕ} {bs : List ℕ} {f : Told} → Reaches text k low bs → lines_from (length bs) k low bs ≡ refused f
    → lines_from (length text) 1 0 text ≡ refused f
reading-goes-on first-line h = h
reading-goes-on (next-line {k} {low} {bs} {e} {cs} r read range order) h =
    reading-goes-on r (lines_next k low (length bs) (length cs) bs e cs (omega arith) (omega arith) ((line-exactly bs e cs).1 read)
    (fine-line low e range order) ∙ ap (consed e) h)

-- how reading ends: a tree, or at the first line that has a fault
pub data Ends (text : List ℕ) (low : ℕ) (bs : List ℕ) (a : Answer Tree) : Type 0 where
  as-tree : (t : Tree) → bs ≡ tree_text t → ((e : Element) → In e t → ElementFits e) → ((e : Element) → In e t → InRange e) → Ascending low t
      → a ≡ answered t → Ends text low bs a
  at-fault : {n k : ℕ} {column : List ℕ} → LineFaultAt text n k column → a ≡ refused (tell n (k ∷ column)) → Ends text low bs a

-- a line in front
line_before : {text : List ℕ} {low : ℕ} {bs : List ℕ} (e : Element) (cs : List ℕ) (a : Answer Tree) → LineAt bs e cs → InRange e → low ≤ e.number
    → Ends text (suc e.number) cs a → Ends text low bs (consed e a)
unfolding tree_text
line_before e cs a l r o (at-fault f q) = at-fault f (ap (consed e) q)
line_before e cs a l r o (as-tree t b fits range up q) =
    as-tree (e ∷ t) (l.printed ∙ ap (λ (x : List ℕ). element_text e ++ x) b) (both fits l.fits) (both range r) (F.line o up) (ap (consed e) q)
  where
    both : {P : Element → Type 0} → ((d : Element) → In d t → P d) → P e → (d : Element) → In d (e ∷ t) → P d
    both {P} f p d (here z) = subst P (sym z) p
    both f p d (there m) = f d m

reading-ends : (f : ℕ) {text : List ℕ} {k low : ℕ} (bs : List ℕ) → Reaches text k low bs → length bs ≤ f → Ends text low bs (lines_from f k low bs)
unfolding tree_text
reading-ends zero {k = k} {low} [] r l = as-tree [] refl (λ e m. absurd (in-none m)) (λ e m. absurd (in-none m)) F.no_line (lines_end k low zero)
reading-ends zero (b ∷ bs) r l = absurd (omega arith)
reading-ends (suc f) {k = k} {low} [] r l = as-tree [] refl (λ e m. absurd (in-none m)) (λ e m. absurd (in-none m)) F.no_line (lines_end k low (suc f))
reading-ends (suc f) {text} {k} {low} (b ∷ bs) r l = go (λ j cs r h. reading-ends f cs r h) (judge low (b ∷ bs))
  where
    faulty : (n : ℕ) (column : List ℕ) → Lowest (LineFault low (b ∷ bs)) n → Carries (b ∷ bs) n column → LineFaultAt text n k column
    faulty n column a c = record { low = low; bytes = b ∷ bs; reached = r; line = cons≢nil; lowest = a; carries = c }

    go : ((j : ℕ) (cs : List ℕ) → Reaches text (suc k) j cs → length cs ≤ f → Ends text j cs (lines_from f (suc k) j cs)) → Judged low (b ∷ bs)
        → Ends text low (b ∷ bs) (lines_from (suc f) k low (b ∷ bs))
    go ih (shapeless cs read) =
        at-fault (faulty 2 (stop_column (b ∷ bs) cs ∷ []) (lowest-2 low (b ∷ bs) cs read) (carries-2 (b ∷ bs) cs read))
        (lines-shapeless k low (suc f) (b ∷ bs) cs cons≢nil l read)
    go ih (outside e cs read p) =
        at-fault (faulty 4 (behind_line 4 e) (lowest-4 low (b ∷ bs) e cs read p) (carries-4 low (b ∷ bs) e cs read p))
        (lines-fault k low (suc f) (b ∷ bs) e cs 4 l read (fault-4 low e p))
    go ih (unordered e cs read p q) =
        at-fault (faulty 6 (behind_line 6 e) (lowest-6 low (b ∷ bs) e cs read p q) (carries-6 low (b ∷ bs) e cs read))
        (lines-fault k low (suc f) (b ∷ bs) e cs 6 l read (fault-6 low e p q))
    go ih (faultless e cs read p q) =
        let s = element-shortens (b ∷ bs) e cs read in
        let at = (line-exactly (b ∷ bs) e cs).0 read in
        let o = ltb-false e.number low q in
        subst (Ends text low (b ∷ bs)) (sym (lines_next k low (suc f) f (b ∷ bs) e cs l (omega arith) read (no-fault low e p q)))
        (line_before e cs (lines_from f (suc k) (suc e.number) cs) at (range-is e p) o
        (ih (suc e.number) cs (next-line r at (range-is e p) o) (omega arith)))

-- a line that has a fault is refused with its lowest, and the column that this carries
line_refused : (k low : ℕ) (bs : List ℕ) (n : ℕ) (column : List ℕ) → ¬ (bs ≡ []) → Lowest (LineFault low bs) n → Carries bs n column
    → lines_from (length bs) k low bs ≡ refused (tell n (k ∷ column))
line_refused k low bs n column w h c = go (judge low bs)
  where
    told : (m : ℕ) (l : List ℕ) → Lowest (LineFault low bs) m → Carries bs m l
        → ◌≡◌ {A = Answer Tree} (refused (tell m (k ∷ l))) (refused (tell n (k ∷ column)))
    told m l a d =
        let e = one-lowest m n a h in
        ap₂ {C = Answer Tree} (λ m l. refused (tell m (k ∷ l))) e (one-column (subst (λ m. Carries bs m l) e d) c)

    go : Judged low bs → lines_from (length bs) k low bs ≡ refused (tell n (k ∷ column))
    go (shapeless cs read) =
        lines-shapeless k low (length bs) bs cs w (omega arith) read ∙ told 2 (stop_column bs cs ∷ []) (lowest-2 low bs cs read) (carries-2 bs cs read)
    go (outside e cs read p) =
        lines-fault k low (length bs) bs e cs 4 (omega arith) read (fault-4 low e p) ∙ told 4 (behind_line 4 e) (lowest-4 low bs e cs read p)
        (carries-4 low bs e cs read p)
    go (unordered e cs read p q) =
        lines-fault k low (length bs) bs e cs 6 (omega arith) read (fault-6 low e p q) ∙ told 6 (behind_line 6 e) (lowest-6 low bs e cs read p q)
        (carries-6 low bs e cs read)
    go (faultless e cs read p q) = absurd (none-of-it low bs e cs read n (λ _. range-is e p) (λ _. ltb-false e.number low q) h.here)

-- ---- the whole text
pub text-ends : (text : List ℕ) → Ends text 0 text (lines_from (length text) 1 0 text)
text-ends text = reading-ends (length text) text first-line (omega arith)

pub fault-read : (text : List ℕ) (n k : ℕ) (column : List ℕ) → LineFaultAt text n k column → lines_from (length text) 1 0 text ≡ refused (tell n (k ∷ column))
fault-read text n k column a = reading-goes-on a.reached (line_refused k a.low a.bytes n column a.line a.lowest a.carries)

-- the text of a tree is read as that tree
drawn-read : (n low : ℕ) (t : Tree) → ((e : Element) → In e t → ElementFits e) → ((e : Element) → In e t → InRange e) → Ascending low t
    → lines_from (length (tree_text t)) n low (tree_text t) ≡ answered t
unfolding tree_text
drawn-read n low [] fits range up = lines_end n low 0
drawn-read n low (e ∷ t) fits range (F.line o up) =
    let read : element (element_text e ++ tree_text t) ≡ got e (tree_text t) = element-exact.printed e (tree_text t) (fits e (here refl)) tt in
    lines_next n low (length (element_text e ++ tree_text t)) (length (tree_text t)) (element_text e ++ tree_text t) e (tree_text t) (omega arith) (omega arith) read
    (fine-line low e (range e (here refl)) o)
    ∙ ap (consed e) (drawn-read (suc n) (suc e.number) t (λ d m. fits d (there m)) (λ d m. range d (there m)) up)

pub tree-lines : (t : Tree) → Drawn t → lines_from (length (tree_text t)) 1 0 (tree_text t) ≡ answered t
tree-lines t d = drawn-read 1 0 t d.fits d.in-range d.ascends
