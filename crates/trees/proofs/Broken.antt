-- 47: each test finds its condition broken exactly where it is, so the number told is the lowest condition broken.
use mathlib.Core.Path.{◌≡◌, refl, sym, ◌∙◌, ap, subst}
use mathlib.Core.Logic.{◌↔◌}
use mathlib.Core.Option.{Option, none, some, some_inj}
use mathlib.Core.Bool.{Bool, true, false, false≢true, true≢false, ◌&&◌, not, cond}
use mathlib.Core.List.Memᴰ.{head as here}
use mathlib.Core.List.{List, [], ◌∷◌, Memᴰ as In}
use Prim.Native.Nat.{ℕ, zero, suc, ◌+◌, ◌≤◌, ◌<◌}
use native.Mathlib.Omega.{arith}
use lib.ListN.{length, get_or}
use lib.Dec.{eqb}
use borrow.Author.Tests.{eqb-true, eq-eqb}
use Rattle.laws.specs.Sets.{has, ◌∈◌}
use Rattle.laws.specs.Search.{when, is_some, or_else, any}
use Rattle.laws.specs.Lowest.{Lowest}
use Rattle.laws.proofs.SetLaws.{has-ext, none_in}
use Rattle.laws.proofs.SearchLaws.{no-some, any-true, any_false, true-any}
use Rattle.laws.proofs.TestLaws.{and-true, not_so, apart-cases}
use Rattle.laws.proofs.ListLaws.{in-at, at_in}
use Rattle.answer.specs.Limits.{max_elements}
use Rattle.trees.specs.Tree.{Element, Tree, is_be, is_box, among}
use Rattle.trees.specs.TreeText.{line_of, some_of}
use Rattle.trees.specs.Conditions.{Edge, Acyclic, Top, OneTop, NoneTwice, NoBoxIn, BoxesOfBes, OneBox, Proper, Broken, is1, is2, is3, is4, is5, is6}
use Rattle.trees.specs.Conditions.{ins_of, box_at, be_at, edges_from, cyclic, top_at, count_from, not_one_top, repeats, twice_in, box_in}
use Rattle.trees.specs.Conditions.{box_of_other, shared, in_two_boxes, condition_of}
use Rattle.trees.specs.TreeFaults.{Ascending, InRange, AllKnown}
use Rattle.trees.proofs.Lookup.{some-of-in, in-some-of, none_of, among_in, in-among, line-in, in-line, one_line, ins-of, sort-of}
use Rattle.trees.proofs.Lookup.{edge_test, sort-line}
use Rattle.trees.proofs.Ways.{edges-from, acyclic-exactly}

not-false : (b : Bool) → not b ≡ true → b ≡ false
not-false false e = refl
not-false true e = absurd (false≢true e)

-- no number has the test exactly where none is known to have it
any_none : (g : ℕ → Bool) (n : ℕ) → ((k : ℕ) → k < n → g k ≡ true → ⊥) → any g n ≡ false
any_none g n h = not_so (any g n) (λ e. let r = any-true g n e in h r.0 r.1 r.2)

-- ---- counting
module _ (g : ℕ → Bool) where
  count_none : (n k : ℕ) → count_from g n k ≡ 0 → (v : ℕ) → k ≤ v → v < k + n → g v ≡ false
  unfolding count_from
  count_none zero k e v l h = absurd (omega arith)
  count_none (suc n) k e v l h = go (count_none n (suc k)) (g k) refl e
    where
      go : (count_from g n (suc k) ≡ 0 → (v : ℕ) → suc k ≤ v → v < suc k + n → g v ≡ false) → (b : Bool) → g k ≡ b → cond b 1 0 + count_from g n (suc k)
          ≡ 0 → g v ≡ false
      go ih true q e = absurd (omega (arith, e))
      go ih false q e = apart-cases v k (λ z. ap g z ∙ q) (λ z. absurd (omega arith)) (λ z. ih (omega (arith, e)) v (omega arith) (omega arith))

  none-count : (n k : ℕ) → ((v : ℕ) → k ≤ v → v < k + n → g v ≡ false) → count_from g n k ≡ 0
  unfolding count_from
  none-count zero k h = refl
  none-count (suc n) k h = rw (h k (omega arith) (omega arith)) (let z = none-count n (suc k) (λ v l m. h v (omega arith) (omega arith)) in omega (arith, z))

  -- v alone, of n numbers from k on, has the test
  record Alone (n k v : ℕ) : Type 0 where
    from : k ≤ v
    below : v < k + n
    has-it : g v ≡ true
    only : (w : ℕ) → k ≤ w → w < k + n → g w ≡ true → w ≡ v

  count-one : (n k : ℕ) → count_from g n k ≡ 1 → (v : ℕ) × Alone n k v
  unfolding count_from
  count-one zero k e = absurd (omega (arith, e))
  count-one (suc n) k e = go (count-one n (suc k)) (g k) refl e
    where
      go : (count_from g n (suc k) ≡ 1 → (v : ℕ) × Alone n (suc k) v) → (b : Bool) → g k ≡ b → cond b 1 0 + count_from g n (suc k) ≡ 1
          → (v : ℕ) × Alone (suc n) k v
      go ih true q e =
          let z : count_from g n (suc k) ≡ 0 = omega (arith, e) in (
            k,
            record {
              from = omega arith;
              below = omega arith;
              has-it = q;
              only =
                  λ w l h p. apart-cases w k (λ x. x) (λ x. absurd (omega arith))
                  (λ x. absurd (true≢false (sym p ∙ count_none n (suc k) z w (omega arith) (omega arith))));
            },
          )
      go ih false q e =
          let r = ih (omega (arith, e)) in (
            r.0,
            record {
              from = let l = r.1.from in omega arith;
              below = let l = r.1.below in omega arith;
              has-it = r.1.has-it;
              only =
                  λ w l h p. apart-cases w k (λ x. absurd (true≢false (sym p ∙ ap g x ∙ q))) (λ x. absurd (omega arith))
                  (λ x. r.1.only w (omega arith) (omega arith) p);
            },
          )

  one-count : (n k v : ℕ) → Alone n k v → count_from g n k ≡ 1
  unfolding count_from
  one-count zero k v a = absurd (omega (arith, a.from, a.below))
  one-count (suc n) k v a = go (one-count n (suc k) v) (g k) refl
    where
      go : (Alone n (suc k) v → count_from g n (suc k) ≡ 1) → (b : Bool) → g k ≡ b → cond (g k) 1 0 + count_from g n (suc k) ≡ 1
      go ih true q =
          let z : k ≡ v = a.only k (omega arith) (omega arith) q in
          let none-else : count_from g n (suc k) ≡ 0 = none-count n (suc k)
          (λ w l h. not_so (g w) (λ p. let x = a.only w (omega arith) (omega arith) p in omega (arith, x, z, l))) in
          rw q (omega (arith, none-else))
      go ih false q =
          let ne : k ≡ v → ⊥ = λ z. true≢false (sym a.has-it ∙ ap g (sym z) ∙ q) in
          let l = a.from in
          let m = a.below in
          let z = ih (record {
            from = apart-cases k v (λ z. absurd (ne z)) (λ z. omega (arith, z)) (λ z. absurd (omega (arith, z, l)));
            below = omega (arith, m);
            has-it = a.has-it;
            only = λ w x y p. a.only w (omega arith) (omega arith) p;
          }) in
          rw q (omega (arith, z))

-- ---- a list without an element twice
pub repeats-here : (x : ℕ) (xs : List ℕ) → among x xs ≡ true → repeats (x ∷ xs) ≡ true
unfolding repeats
repeats-here x xs h = rw (h, repeats)

pub repeats-there : (x : ℕ) (xs : List ℕ) → among x xs ≡ false → repeats (x ∷ xs) ≡ repeats xs
unfolding repeats
repeats-there x xs h = rw (h, repeats)

pub once-only : (xs : List ℕ) → repeats xs ≡ false → (j k : ℕ) → j < length xs → k < length xs → get_or xs j 0 ≡ get_or xs k 0 → j ≡ k
once-only [] e j k h l q = absurd (omega arith)
once-only (x ∷ xs) e zero zero h l q = refl
once-only (x ∷ xs) e zero (suc k) h l q =
    absurd (true≢false (sym (repeats-here x xs (in-among x xs (subst (λ y. In y xs) (sym q) (in-at 0 xs k (omega arith))))) ∙ e))
once-only (x ∷ xs) e (suc j) zero h l q =
    absurd (true≢false (sym (repeats-here x xs (in-among x xs (subst (λ y. In y xs) q (in-at 0 xs j (omega arith))))) ∙ e))
once-only (x ∷ xs) e (suc j) (suc k) h l q = go (once-only xs) (among x xs) refl
  where
    go : (repeats xs ≡ false → (j k : ℕ) → j < length xs → k < length xs → get_or xs j 0 ≡ get_or xs k 0 → j ≡ k) → (b : Bool) → among x xs ≡ b → suc j ≡ suc k
    go ih true w = absurd (true≢false (sym (repeats-here x xs w) ∙ e))
    go ih false w = ap suc (ih (sym (repeats-there x xs w) ∙ e) j k (omega arith) (omega arith) q)

pub none-repeats : (xs : List ℕ) → ((j k : ℕ) → j < length xs → k < length xs → get_or xs j 0 ≡ get_or xs k 0 → j ≡ k) → repeats xs ≡ false
unfolding repeats
none-repeats [] h = refl
none-repeats (x ∷ xs) h = go (none-repeats xs (λ j k l m q. let z = h (suc j) (suc k) (omega arith) (omega arith) q in omega (arith, z))) (among x xs) refl
  where
    go : repeats xs ≡ false → (b : Bool) → among x xs ≡ b → repeats (x ∷ xs) ≡ false
    go ih false w = repeats-there x xs w ∙ ih
    go ih true w =
        let p = at_in 0 xs (among_in x xs w) in
        let z = h 0 (suc p.0) (omega arith) (let l = p.1 in omega arith) (sym p.2) in
        absurd (omega (arith, z))

-- ---- the six conditions; numbers ascend below 64, and every input is known
module _ {low : ℕ} (t : Tree) (a : Ascending low t) (r : (e : Element) → In e t → InRange e) (known : AllKnown t) where
  number-below : (e : Element) → In e t → e.number < max_elements
  number-below e m = r e m e.number (here refl)

  -- the tests at a line's number say what the line says
  box-at : (e : Element) → In e t → box_at t e.number ≡ is_box e.sort
  unfolding box_at
  box-at e m = sort-of t a is_box e m

  be-at : (e : Element) → In e t → be_at t e.number ≡ is_be e.sort
  unfolding be_at
  be-at e m = sort-of t a is_be e m

  box-line : (v : ℕ) → box_at t v ≡ true → (e : Element) × In e t × (e.number ≡ v) × (is_box e.sort ≡ true)
  unfolding box_at
  box-line v h = sort-line is_box t v h

  -- a test over the lines
  by_lines : (g : ℕ → Bool) → ((v : ℕ) → g v ≡ true → (e : Element) × In e t × (e.number ≡ v)) → ((e : Element) → In e t → g e.number ≡ true → ⊥)
      → any g max_elements ≡ false
  by_lines g l h = any_none g max_elements (λ k m e. let p = l k e in h p.0 p.1 (subst (λ v. g v ≡ true) (sym p.2) e))

  at-line : (g : ℕ → Bool) → any g max_elements ≡ false → (e : Element) → In e t → g e.number ≡ false
  at-line g h e m = any_false g max_elements h e.number (number-below e m)

  -- a list of inputs that is not empty has a line
  some-input : (v x : ℕ) → In x (ins_of t v) → (e : Element) × In e t × (e.number ≡ v)
  some-input v x m = let d = (edge_test t a x v).0 (in-among x (ins_of t v) m) in (d.element, d.line, d.number)

  -- (ii)
  pub top-exactly : (v : ℕ) → (top_at t v ≡ true) ↔ ((e : Element) × Top t e × (e.number ≡ v))
  unfolding top_at
  top-exactly v = (to, back)
    where
      to : is_some (line_of t v) && (not (box_at t v) && eqb (edges_from t v) 0) ≡ true → (e : Element) × Top t e × (e.number ≡ v)
      to h = go (line_of t v) refl
        where
          go : (o : Option Element) → line_of t v ≡ o → (e : Element) × Top t e × (e.number ≡ v)
          go none q = absurd (false≢true (ap is_some (sym q) ∙ (and-true (is_some (line_of t v)) _ h).0))
          go (some e) q =
              let m = line-in t v e q in
              let p = and-true (not (box_at t v)) (eqb (edges_from t v) 0) (and-true (is_some (line_of t v)) _ h).1 in
              let z = eqb-true (edges_from t v) 0 p.1 in (
                e,
                record {
                  line = m.0;
                  no-box = sym (box-at e m.0) ∙ ap (box_at t) m.1 ∙ not-false (box_at t v) p.0;
                  no_edge = λ w d. none_in w (subst (λ s. w ∈ s) z ((edges-from t a r v w).1 (subst (λ x. Edge t x w) m.1 d)));
                },
                m.1,
              )

      back : ((e : Element) × Top t e × (e.number ≡ v)) → is_some (line_of t v) && (not (box_at t v) && eqb (edges_from t v) 0) ≡ true
      back p =
          let e = p.0 in
          let l : line_of t v ≡ some e = ap (line_of t) (sym p.2) ∙ in-line t a e p.1.line in
          let b : box_at t v ≡ false = ap (box_at t) (sym p.2) ∙ box-at e p.1.line ∙ p.1.no-box in
          let n : edges_from t v ≡ 0 = has-ext (edges_from t v) 0 (λ w. no_edge w) in
          rw (l, b, eq-eqb (edges_from t v) 0 n)
        where
          no_edge : (w : ℕ) → has (edges_from t v) w ≡ has 0 w
          no_edge w = go (has (edges_from t v) w) refl (has 0 w) refl
            where
              go : (b : Bool) → has (edges_from t v) w ≡ b → (c : Bool) → has 0 w ≡ c → has (edges_from t v) w ≡ has 0 w
              go true q c s = absurd (p.1.no_edge w (subst (λ x. Edge t x w) (sym p.2) ((edges-from t a r v w).0 q)))
              go false q true s = absurd (none_in w s)
              go false q false s = q ∙ sym s

  one-top-exactly : (not_one_top t ≡ false) ↔ OneTop t
  unfolding not_one_top
  one-top-exactly = (to, back)
    where
      to : not (eqb (count_from (top_at t) max_elements 0) 1) ≡ false → OneTop t
      to h =
          let q = count-one (top_at t) max_elements 0 (eqb-true _ 1 (not-not _ h)) in
          let p = (top-exactly q.0).0 q.1.has-it in
          record {
            top = p.0;
            is-top = p.1;
            alone = λ e d.
                let z = q.1.only e.number (omega arith) (let l = number-below e d.line in omega arith) ((top-exactly e.number).1 (e, d, refl)) in
                one_line t a e p.0 d.line p.1.line (z ∙ sym p.2);
          }
        where
          not-not : (b : Bool) → not b ≡ false → b ≡ true
          not-not true e = refl
          not-not false e = absurd (true≢false e)

      back : OneTop t → not (eqb (count_from (top_at t) max_elements 0) 1) ≡ false
      back o =
          let v = o.top.number in
          let c = one-count (top_at t) max_elements 0 v (record {
            from = omega arith;
            below = let l = number-below o.top o.is-top.line in omega arith;
            has-it = (top-exactly v).1 (o.top, o.is-top, refl);
            only = λ w l h p. let d = (top-exactly w).0 p in sym d.2 ∙ ap (λ (e : Element). e.number) (o.alone d.0 d.1);
          }) in
          rw c

  -- (iii)
  pub none-twice-exactly : (twice_in t ≡ false) ↔ NoneTwice t
  unfolding twice_in repeats
  none-twice-exactly = (
    λ h. record { once = λ e m j k l n q. once-only e.ins (ap repeats (sym (ins-of t a e m)) ∙ at-line (λ w. repeats (ins_of t w)) h e m) j k l n q },
    λ n. by_lines (λ w. repeats (ins_of t w)) (λ v h. lined v (ins_of t v) refl h) (λ e m h.
        true≢false (sym h ∙ ap repeats (ins-of t a e m) ∙ none-repeats e.ins (n.once e m))),
  )
    where
      lined : (v : ℕ) (xs : List ℕ) → ins_of t v ≡ xs → repeats (ins_of t v) ≡ true → (e : Element) × In e t × (e.number ≡ v)
      lined v [] q h = absurd (false≢true (ap repeats (sym q) ∙ h))
      lined v (x ∷ xs) q h = some-input v x (subst (In x) (sym q) (here refl))

  -- (iv)
  pub no-box-exactly : (box_in t ≡ false) ↔ NoBoxIn t
  unfolding box_in
  no-box-exactly = (
    λ h. record {
      plain = λ e m w d.
          let q = none_of (box_at t) (ins_of t d.element.number) (at-line (λ w. some_of (box_at t) (ins_of t w)) h d.element d.line) in
          sym (box-at e m) ∙ q e.number (subst (In e.number) (sym (ins-of t a d.element d.line)) d.input);
    },
    λ n. by_lines (λ w. some_of (box_at t) (ins_of t w)) (λ v h. let s = some-of-in (box_at t) (ins_of t v) h in some-input v s.0 s.1) (λ e m h.
        let s = some-of-in (box_at t) (ins_of t e.number) h in
        let b = box-line s.0 s.2 in
        let i : In b.0.number e.ins = subst (λ l. In b.0.number l) (ins-of t a e m) (subst (λ x. In x (ins_of t e.number)) (sym b.2) s.1) in
        true≢false (sym b.3 ∙ n.plain b.0 b.1 e.number (record { element = e; line = m; number = refl; input = i }))),
  )

  -- (v)
  pub boxes-exactly : (box_of_other t ≡ false) ↔ BoxesOfBes t
  unfolding box_of_other
  boxes-exactly = (
    λ h. record {
      basic = λ e d m n b i.
          let q = and_second (box_at t d.number) _ (at-line (λ w. box_at t w && some_of (λ v. not (be_at t v)) (ins_of t w)) h d n) (box-at d n ∙ b) in
          let x = none_of (λ v. not (be_at t v)) (ins_of t d.number) q e.number (subst (In e.number) (sym (ins-of t a d n)) i) in
          sym (be-at e m) ∙ not-not (be_at t e.number) x;
    },
    λ n. by_lines (λ w. box_at t w && some_of (λ v. not (be_at t v)) (ins_of t w)) (λ v h. let b = box-line v (and-true (box_at t v) _ h).0 in (
      b.0,
      b.1,
      b.2,
    )) (λ e m h.
        let p = and-true (box_at t e.number) _ h in
        let s = some-of-in (λ v. not (be_at t v)) (ins_of t e.number) p.1 in
        let i = subst (In s.0) (ins-of t a e m) s.1 in
        let k = known.known e m s.0 i in
        let b : be_at t s.0 ≡ true = ap (be_at t) (sym k.2) ∙ be-at k.0 k.1 ∙ n.basic k.0 e k.1 m (sym (box-at e m) ∙ p.0)
        (subst (λ x. In x e.ins) (sym k.2) i) in
        true≢false (sym b ∙ not-false (be_at t s.0) s.2)),
  )
    where
      and_second : (x y : Bool) → (x && y) ≡ false → x ≡ true → y ≡ false
      and_second true y e h = e
      and_second false y e h = absurd (false≢true h)

      not-not : (b : Bool) → not b ≡ false → b ≡ true
      not-not true e = refl
      not-not false e = absurd (true≢false e)

  -- (vi)
  abbrev Clash : ℕ → ℕ → Bool
  Clash w v = box_at t v && shared (ins_of t w) (ins_of t v)

  shares : (d e : Element) → In d t → In e t → (v : ℕ) → In v d.ins → In v e.ins → shared (ins_of t d.number) (ins_of t e.number) ≡ true
  unfolding shared
  shares d e m n v i j =
      in-some-of (λ x. among x (ins_of t e.number)) (ins_of t d.number) v (subst (In v) (sym (ins-of t a d m)) i)
      (in-among v (ins_of t e.number) (subst (In v) (sym (ins-of t a e n)) j))

  shared-by : (w v : ℕ) → shared (ins_of t w) (ins_of t v) ≡ true → (x : ℕ) × In x (ins_of t w) × In x (ins_of t v)
  unfolding shared
  shared-by w v h = let s = some-of-in (λ x. among x (ins_of t v)) (ins_of t w) h in (s.0, s.1, among_in s.0 (ins_of t v) s.2)

  pub one-box-exactly : (in_two_boxes t ≡ false) ↔ OneBox t
  unfolding in_two_boxes
  one-box-exactly = (
    λ h. record {
      same = λ d e m n b c v i j. apart-cases d.number e.number (λ z. z)
          (λ l. absurd (clash h e d n m c b e.number l v j i)) (λ l. absurd (clash h d e m n b c d.number l v i j));
    },
    λ o. by_lines (λ w. box_at t w && any (Clash w) w) (λ v h. let b = box-line v (and-true (box_at t v) _ h).0 in (b.0, b.1, b.2)) (λ e m h.
        let p = and-true (box_at t e.number) _ h in
        let q = any-true (Clash e.number) e.number p.1 in
        let s = and-true (box_at t q.0) _ q.2 in
        let b = box-line q.0 s.0 in
        let x = shared-by e.number q.0 s.1 in
        let i = subst (In x.0) (ins-of t a e m) x.1 in
        let j = subst (In x.0) (ins-of t a b.0 b.1) (subst (λ y. In x.0 (ins_of t y)) (sym b.2) x.2) in
        let z = o.same b.0 e b.1 m b.3 (sym (box-at e m) ∙ p.0) x.0 j i in
        let l = q.1 in
        omega (arith, z, b.2, l)),
  )
    where
      clash : any (λ w. box_at t w && any (Clash w) w) max_elements ≡ false → (d e : Element) → In d t → In e t → is_box d.sort ≡ true → is_box e.sort ≡ true
          → (w : ℕ) → e.number < d.number → (v : ℕ) → In v d.ins → In v e.ins → ⊥
      clash h d e m n b c w l v i j =
          let f = at-line (λ w. box_at t w && any (Clash w) w) h d m in
          let g : any (Clash d.number) d.number ≡ true = true-any (Clash d.number) d.number e.number l
          (both (box-at e n ∙ c) (shares d e m n v i j)) in
          true≢false (sym (both (box-at d m ∙ b) g) ∙ f)
        where
          both : {x y : Bool} → x ≡ true → y ≡ true → (x && y) ≡ true
          both p q = rw (p, q)

  -- ---- the lowest
  abbrev chain : (a b c d e f : Bool) → Option ℕ
  chain a b c d e f = or_else (when a 1) (or_else (when b 2) (or_else (when c 3) (or_else (when d 4) (or_else (when e 5) (when f 6)))))

  -- a condition that holds is not broken
  no-break : (n : ℕ) → (n ≡ 1 → Acyclic t) → (n ≡ 2 → OneTop t) → (n ≡ 3 → NoneTwice t) → (n ≡ 4 → NoBoxIn t) → (n ≡ 5 → BoxesOfBes t)
      → (n ≡ 6 → OneBox t) → Broken t n → ⊥
  no-break n a b c d e f (is1 q h) = h (a q)
  no-break n a b c d e f (is2 q h) = h (b q)
  no-break n a b c d e f (is3 q h) = h (c q)
  no-break n a b c d e f (is4 q h) = h (d q)
  no-break n a b c d e f (is5 q h) = h (e q)
  no-break n a b c d e f (is6 q h) = h (f q)

  -- the tests, and what each says
  record Tests (b1 b2 b3 b4 b5 b6 : Bool) : Type 0 where
    t1 : (b1 ≡ false) ↔ Acyclic t
    t2 : (b2 ≡ false) ↔ OneTop t
    t3 : (b3 ≡ false) ↔ NoneTwice t
    t4 : (b4 ≡ false) ↔ NoBoxIn t
    t5 : (b5 ≡ false) ↔ BoxesOfBes t
    t6 : (b6 ≡ false) ↔ OneBox t

  -- what the chain answers
  data Says : Option ℕ → Type 0 where
    says_none : Proper t → Says none
    says_some : {n : ℕ} → Lowest (Broken t) n → Says (some n)

  says : (a b c d e f : Bool) → Tests a b c d e f → Says (chain a b c d e f)
  says true b c d e f s = says_some (record {
    here = is1 refl (λ p. true≢false (s.t1.1 p));
    before =
        λ m l. no-break m (λ q. absurd (omega arith)) (λ q. absurd (omega arith)) (λ q. absurd (omega arith)) (λ q. absurd (omega arith))
        (λ q. absurd (omega arith)) (λ q. absurd (omega arith));
  })
  says false true c d e f s = says_some (record {
    here = is2 refl (λ p. true≢false (s.t2.1 p));
    before =
        λ m l. no-break m (λ _. s.t1.0 refl) (λ q. absurd (omega arith)) (λ q. absurd (omega arith)) (λ q. absurd (omega arith))
        (λ q. absurd (omega arith)) (λ q. absurd (omega arith));
  })
  says false false true d e f s = says_some (record {
    here = is3 refl (λ p. true≢false (s.t3.1 p));
    before =
        λ m l. no-break m (λ _. s.t1.0 refl) (λ _. s.t2.0 refl) (λ q. absurd (omega arith)) (λ q. absurd (omega arith))
        (λ q. absurd (omega arith)) (λ q. absurd (omega arith));
  })
  says false false false true e f s = says_some (record {
    here = is4 refl (λ p. true≢false (s.t4.1 p));
    before =
        λ m l. no-break m (λ _. s.t1.0 refl) (λ _. s.t2.0 refl) (λ _. s.t3.0 refl) (λ q. absurd (omega arith)) (λ q. absurd (omega arith))
        (λ q. absurd (omega arith));
  })
  says false false false false true f s = says_some (record {
    here = is5 refl (λ p. true≢false (s.t5.1 p));
    before =
        λ m l. no-break m (λ _. s.t1.0 refl) (λ _. s.t2.0 refl) (λ _. s.t3.0 refl) (λ _. s.t4.0 refl) (λ q. absurd (omega arith))
        (λ q. absurd (omega arith));
  })
  says false false false false false true s = says_some (record {
    here = is6 refl (λ p. true≢false (s.t6.1 p));
    before =
        λ m l. no-break m (λ _. s.t1.0 refl) (λ _. s.t2.0 refl) (λ _. s.t3.0 refl) (λ _. s.t4.0 refl) (λ _. s.t5.0 refl)
        (λ q. absurd (omega arith));
  })
  says false false false false false false s = says_none (record {
    acyclic = s.t1.0 refl;
    one-top = s.t2.0 refl;
    none-twice = s.t3.0 refl;
    no-box-in = s.t4.0 refl;
    boxes-of-bes = s.t5.0 refl;
    one-box = s.t6.0 refl;
  })

  condition-says : Says (condition_of t)
  unfolding condition_of
  condition-says = says (cyclic t) (not_one_top t) (twice_in t) (box_in t) (box_of_other t) (in_two_boxes t) (record {
    t1 = acyclic-exactly t a r;
    t2 = one-top-exactly;
    t3 = none-twice-exactly;
    t4 = no-box-exactly;
    t5 = boxes-exactly;
    t6 = one-box-exactly;
  })

  -- a tree that meets all has none broken
  proper-unbroken : Proper t → (n : ℕ) → Broken t n → ⊥
  proper-unbroken p n = no-break n (λ _. p.acyclic) (λ _. p.one-top) (λ _. p.none-twice) (λ _. p.no-box-in) (λ _. p.boxes-of-bes) (λ _. p.one-box)

  -- "47 lowest condition broken, as a number"
  pub condition-exactly : (n : ℕ) → (condition_of t ≡ some n) ↔ Lowest (Broken t) n
  condition-exactly n = (λ e. to (condition_of t) condition-says e, λ l. back (condition_of t) condition-says l)
    where
      to : (o : Option ℕ) → Says o → o ≡ some n → Lowest (Broken t) n
      to none s e = absurd (no-some refl e)
      to (some m) (says_some l) e = subst (Lowest (Broken t)) (some_inj.0 e) l

      back : (o : Option ℕ) → Says o → Lowest (Broken t) n → o ≡ some n
      back none (says_none p) l = absurd (proper-unbroken p n l.here)
      back (some m) (says_some k) l = ap some (apart-cases m n (λ z. z) (λ z. absurd (l.before m z k.here)) (λ z. absurd (k.before n z l.here)))

  pub proper-exactly : (condition_of t ≡ none) ↔ Proper t
  proper-exactly = (λ e. to (condition_of t) condition-says e, λ p. back (condition_of t) condition-says p)
    where
      to : (o : Option ℕ) → Says o → o ≡ none → Proper t
      to none (says_none p) e = p
      to (some m) s e = absurd (no-some e refl)

      back : (o : Option ℕ) → Says o → Proper t → o ≡ none
      back none s p = refl
      back (some m) (says_some l) p = absurd (proper-unbroken p m l.here)
