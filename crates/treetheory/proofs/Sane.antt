-- A composed state in which every gate has counted what its inputs have told: so at the start, so after every step, and at rest it is what is drawn.
use mathlib.Core.Path.{◌≡◌, refl, sym, ◌∙◌, ap, subst}
use mathlib.Core.Logic.{◌≢◌, ◌⊎◌, inl, inr}
use mathlib.Core.Bool.{Bool, true, false, false≢true, ◌&&◌, ◌||◌, not, cond}
use mathlib.Core.List.Memᴰ.{head as here}
use mathlib.Core.List.Memᴰ.{not-nil as in-none}
use mathlib.Core.List.Memᴰ.{tail as there}
use mathlib.Core.List.{List, [], ◌∷◌, Memᴰ as In}
use Prim.Native.Nat.{ℕ, ◌+◌, ◌/◌, ◌%◌, ◌≤◌, ◌<◌}
use native.Mathlib.Omega.{arith}
use lib.Dec.{eqb}
use lib.ListN.{length, get_or}
use borrow.Author.Tests.{eqb-true}
use Rattle.laws.proofs.TestLaws.{and-true}
use Rattle.laws.proofs.ListLaws.{in-at}
use Rattle.trees.specs.Tree.{Sort, be-sort, and-sort, or-sort, pand-sort, rbox-sort, Element, Tree, among, Signal, f, u, Meaning}
use Rattle.trees.specs.TreeText.{fewest}
use Rattle.trees.specs.Conditions.{one, Proper}
use Rattle.trees.specs.TreeFaults.{Drawn, AllKnown}
use Rattle.trees.proofs.Numbers.{Ascends}
use Rattle.trees.proofs.Lookup.{among_in}
use Rattle.treetheory.specs.AsDrawn.{look_at, down_in, down_at, state_at, first_of, second_of, one_if, AtRest}
use Rattle.treetheory.proofs.Colours.{code_of, told_as}
use Rattle.treetheory.proofs.Standing.{line_at, line-in, in-line, look-line}
use Rattle.treetheory.proofs.Telling.{fine_in, told_in, ToldStep, fails, mends, stays}
use Rattle.treetheory.proofs.TellingGates.{CountStep, first-fails, first-mends, second-fails, second-mends, unheard}
use Rattle.treetheory.proofs.Lawful.{is_gate, Counts, Lawful, Apart}

-- ---- what a step tells of one element
f-not-u : {s : Signal} → s ≡ f → s ≡ u → ⊥
f-not-u p q = omega (arith, ap code_of (sym p ∙ q))

told-fails : {d : Element} {y : Meaning} {b c : Bool} → ToldStep d y b c → y.of ≡ d.number → y.signal ≡ f → (b ≡ false) × (c ≡ true)
told-fails (fails i j k l) w s = (k, l)
told-fails (mends i j k l) w s = absurd (f-not-u s j)
told-fails (stays i j k) w s = absurd (i w s)

told-mends : {d : Element} {y : Meaning} {b c : Bool} → ToldStep d y b c → y.of ≡ d.number → y.signal ≡ u → (b ≡ true) × (c ≡ false)
told-mends (fails i j k l) w s = absurd (f-not-u j s)
told-mends (mends i j k l) w s = (k, l)
told-mends (stays i j k) w s = absurd (j w s)

told-stays : {d : Element} {y : Meaning} {b c : Bool} → ToldStep d y b c → (y.of ≡ d.number → (v : Bool) → y.signal ≡ told_as v → ⊥) → c ≡ b
told-stays (fails i j k l) n = absurd (n i true j)
told-stays (mends i j k l) n = absurd (n i false j)
told-stays (stays i j k) n = k

-- ---- a count of two, with weights
abbrev pub weigh : ℕ → Bool → ℕ
weigh a b = cond b a 0

at_most : (a : ℕ) (b : Bool) → weigh a b ≤ a
at_most a true = omega arith
at_most a false = omega arith

weigh-on : (e d0 d1 : Element) (y : Meaning) (a b k l : ℕ) (b0 c0 b1 c1 : Bool) → first_of e ≢ second_of e → d0.number ≡ first_of e → d1.number ≡ second_of e
    → ToldStep d0 y b0 c0 → ToldStep d1 y b1 c1 → CountStep e y a b k l → k ≡ weigh a b0 + weigh b b1 → l ≡ weigh a c0 + weigh b c1
weigh-on e d0 d1 y a b k l b0 c0 b1 c1 ne n0 n1 t0 t1 (first-fails w s h) q =
    let p = told-fails t0 (w ∙ sym n0) s in
    let r = told-stays t1 (λ z v i. ne (sym w ∙ z ∙ n1)) in
    let z : k ≡ 0 + weigh b b1 = rw p.0 at q in
    let o = at_most b b1 in
    let m = h (omega (arith, z, o)) in
    rw (p.1, r) (omega (arith, m, z))
weigh-on e d0 d1 y a b k l b0 c0 b1 c1 ne n0 n1 t0 t1 (first-mends w s h) q =
    let p = told-mends t0 (w ∙ sym n0) s in
    let r = told-stays t1 (λ z v i. ne (sym w ∙ z ∙ n1)) in
    let z : k ≡ a + weigh b b1 = rw p.0 at q in
    let m = h (omega (arith, z)) in
    rw (p.1, r) (omega (arith, m, z))
weigh-on e d0 d1 y a b k l b0 c0 b1 c1 ne n0 n1 t0 t1 (second-fails w s h) q =
    let p = told-fails t1 (w ∙ sym n1) s in
    let r = told-stays t0 (λ z v i. ne (sym n0 ∙ sym z ∙ w)) in
    let z : k ≡ weigh a b0 + 0 = rw p.0 at q in
    let o = at_most a b0 in
    let m = h (omega (arith, z, o)) in
    rw (p.1, r) (omega (arith, m, z))
weigh-on e d0 d1 y a b k l b0 c0 b1 c1 ne n0 n1 t0 t1 (second-mends w s h) q =
    let p = told-mends t1 (w ∙ sym n1) s in
    let r = told-stays t0 (λ z v i. ne (sym n0 ∙ sym z ∙ w)) in
    let z : k ≡ weigh a b0 + b = rw p.0 at q in
    let m = h (omega (arith, z)) in
    rw (p.1, r) (omega (arith, m, z))
weigh-on e d0 d1 y a b k l b0 c0 b1 c1 ne n0 n1 t0 t1 (unheard i j h) q =
    let p = told-stays t0 (λ z v s. i (z ∙ n0) v s) in
    let r = told-stays t1 (λ z v s. j (z ∙ n1) v s) in
    rw (p, r) (h ∙ q)

-- ---- the state of a system
module _ (t : Tree) where
  abbrev pub told_at : List ℕ → ℕ → Bool
  told_at s v = look_at false told_in t s v

  abbrev pub Weighs : Element → List ℕ → ℕ → ℕ → ℕ → Type 0
  Weighs e s a b k = k ≡ weigh a (told_at s (first_of e)) + weigh b (told_at s (second_of e))

  -- a gate's count is what its inputs have told
  abbrev pub Counted : Sort → Element → List ℕ → ℕ → Type 0
  Counted be-sort e s x = Unit {0}
  Counted and-sort e s x = Weighs e s 1 1 (x % 3)
  Counted or-sort e s x = Weighs e s 1 1 (x % 3)
  Counted pand-sort e s x = Weighs e s 1 0 (x / 10) × Weighs e s 0 1 (x / 5 % 2)
  Counted rbox-sort e s x = Unit {0}

  pub record Sane (s : List ℕ) : Type 0 where
    pub long : length s ≡ length t
    pub fine : (i : ℕ) → i < length t → fine_in (line_at t i).sort (get_or s i 0) ≡ true
    pub counted : (i : ℕ) → i < length t → Counted (line_at t i).sort (line_at t i) s (get_or s i 0)

-- ---- two inputs and a gate
and-law : (k : ℕ) (b c : Bool) → k ≡ weigh 1 b + weigh 1 c → eqb k 2 ≡ (b && c)
and-law k true true h = rw h
and-law k true false h = rw h
and-law k false true h = rw h
and-law k false false h = rw h

or-law : (k : ℕ) (b c : Bool) → k ≡ weigh 1 b + weigh 1 c → not (eqb k 0) ≡ (b || c)
or-law k true true h = rw h
or-law k true false h = rw h
or-law k false true h = rw h
or-law k false false h = rw h

second-law : (b c : Bool) → 1 ≡ weigh 0 b + weigh 1 c → c ≡ true
second-law b true h = refl
second-law true false h = absurd (omega (arith, h))
second-law false false h = absurd (omega (arith, h))

flag-first : (k : ℕ) (b c : Bool) → k ≡ weigh 1 b + weigh 0 c → eqb k 1 ≡ b
flag-first k true true h = rw h
flag-first k true false h = rw h
flag-first k false true h = rw h
flag-first k false false h = rw h

flag-second : (k : ℕ) (b c : Bool) → k ≡ weigh 0 b + weigh 1 c → eqb k 1 ≡ c
flag-second k true true h = rw h
flag-second k true false h = rw h
flag-second k false true h = rw h
flag-second k false false h = rw h

-- in every state of a PAND that a tree gets to: down only where the second flag stands
unfoldable all_in : (ℕ → Bool) → List ℕ → Bool
all_in h [] = true
all_in h (x ∷ xs) = h x && all_in h xs

all_in_lem : (h : ℕ → Bool) (xs : List ℕ) → all_in h xs ≡ true → (x : ℕ) → In x xs → h x ≡ true
unfolding all_in
all_in_lem h [] k x m = absurd (in-none m)
all_in_lem h (y ∷ ys) k x (here w) = ap h w ∙ (and-true (h y) (all_in h ys) k).0
all_in_lem h (y ∷ ys) k x (there m) = all_in_lem h ys (and-true (h y) (all_in h ys) k).1 x m

flagged : (x : ℕ) → fine_in pand-sort x ≡ true → eqb (x % 5) 2 ≡ true → x / 5 % 2 ≡ 1
unfolding all_in
flagged x h k =
    let z = all_in_lem (λ x. not (eqb (x % 5) 2) || eqb (x / 5 % 2) 1) (0 ∷ 3 ∷ 5 ∷ 7 ∷ 9 ∷ 10 ∷ 13 ∷ 16 ∷ 17 ∷ 19 ∷ []) refl x
    (among_in x (0 ∷ 3 ∷ 5 ∷ 7 ∷ 9 ∷ 10 ∷ 13 ∷ 16 ∷ 17 ∷ 19 ∷ []) h) in
    eqb-true (x / 5 % 2) 1 (rw k at z)

gate-two : (q : Sort) → is_gate q ≡ true → fewest q ≡ 2
gate-two be-sort h = absurd (false≢true h)
gate-two and-sort h = refl
gate-two or-sort h = refl
gate-two pand-sort h = refl
gate-two rbox-sort h = absurd (false≢true h)

fine-start : (q : Sort) → fine_in q 0 ≡ true
unfolding among
fine-start be-sort = refl
fine-start and-sort = refl
fine-start or-sort = refl
fine-start pand-sort = refl
fine-start rbox-sort = refl

told-start : (q : Sort) → told_in q 0 ≡ false
unfolding among
told-start be-sort = refl
told-start and-sort = refl
told-start or-sort = refl
told-start pand-sort = refl
told-start rbox-sort = refl

module _ (t : Tree) (d : Drawn t) (p : Proper t) (known : AllKnown t) (asc : Ascends t) where
  -- ---- a gate and its inputs
  two-inputs : (e : Element) → In e t → is_gate e.sort ≡ true → 2 ≤ length e.ins
  two-inputs e m g = let h = (d.fits e m).enough in let k = gate-two e.sort g in omega (arith, h, k)

  first-in : (e : Element) → In e t → is_gate e.sort ≡ true → In (first_of e) e.ins
  first-in e m g = let h = two-inputs e m g in in-at 0 e.ins 0 (omega (arith, h))

  second-in : (e : Element) → In e t → is_gate e.sort ≡ true → In (second_of e) e.ins
  second-in e m g = let h = two-inputs e m g in in-at 0 e.ins 1 (omega (arith, h))

  not_itself : (e : Element) → In e t → (v : ℕ) → In v e.ins → v ≢ e.number
  not_itself e m v i w = p.acyclic.none-back v (one (record { element = e; line = m; number = sym w; input = i }))

  pub gate-apart : (e : Element) → In e t → is_gate e.sort ≡ true → Apart e
  gate-apart e m g =
      let h = two-inputs e m g in
      record {
        first = not_itself e m (first_of e) (first-in e m g);
        second = not_itself e m (second_of e) (second-in e m g);
        both = λ w. let z = p.none-twice.once e m 0 1 (omega (arith, h)) (omega (arith, h)) w in omega (arith, z);
      }

  -- an input is some line
  input-line : (e : Element) → In e t → (v : ℕ) → In v e.ins → (j : ℕ) × (j < length t) × ((line_at t j).number ≡ v)
  input-line e m v i =
      let k = known.known e m v i in
      let j = in-line t k.0 k.1 in
      (j.0, j.1, ap (λ (x : Element). x.number) j.2 ∙ k.2)

  looked : {A : Type 0} (c : A) (h : Sort → ℕ → A) (s : List ℕ) → length s ≡ length t → (j : ℕ) → j < length t → {v : ℕ} → (line_at t j).number ≡ v
      → look_at c h t s v ≡ h (line_at t j).sort (get_or s j 0)
  looked c h s l j k w = ap (look_at c h t s) (sym w) ∙ look-line c h t asc s l j k

  -- ---- at the start
  pub start-sane : (s : List ℕ) → length s ≡ length t → ((i : ℕ) → i < length t → get_or s i 0 ≡ 0) → Sane t s
  start-sane s l z = record {
    long = l;
    fine = λ i h. ap (fine_in (line_at t i).sort) (z i h) ∙ fine-start (line_at t i).sort;
    counted = λ i h. rw (z i h) (count (line_at t i).sort (line_at t i) (line-in t i h) refl);
  }
    where
      silent : (e : Element) → In e t → (v : ℕ) → In v e.ins → told_at t s v ≡ false
      silent e m v i =
          let j = input-line e m v i in
          looked false told_in s l j.0 j.1 j.2 ∙ ap (told_in (line_at t j.0).sort) (z j.0 j.1) ∙ told-start (line_at t j.0).sort

      none_yet : (e : Element) → In e t → is_gate e.sort ≡ true → (a b : ℕ) → Weighs t e s a b 0
      none_yet e m g a b =
          let i = silent e m (first_of e) (first-in e m g) in
          let j = silent e m (second_of e) (second-in e m g) in
          rw (i, j)

      count : (q : Sort) (e : Element) → In e t → e.sort ≡ q → Counted t q e s 0
      count be-sort e m w = tt
      count and-sort e m w = none_yet e m (ap is_gate w) 1 1
      count or-sort e m w = none_yet e m (ap is_gate w) 1 1
      count pand-sort e m w = (none_yet e m (ap is_gate w) 1 0, none_yet e m (ap is_gate w) 0 1)
      count rbox-sort e m w = tt

  -- ---- a step
  pub step-sane : (y : Meaning) (s z : List ℕ) → Sane t s → length z ≡ length t
      → ((i : ℕ) → i < length t → Lawful (line_at t i).sort (line_at t i) y (get_or s i 0) (get_or z i 0)) → Sane t z
  step-sane y s z ok l law = record {
    long = l;
    fine = λ i h. (law i h).fine;
    counted = λ i h. count (line_at t i).sort (line_at t i) (get_or s i 0) (get_or z i 0) (line-in t i h) refl (law i h).counts (ok.counted i h);
  }
    where
      told_of : (e : Element) → In e t → (v : ℕ) → In v e.ins → (c : Element) × (c.number ≡ v) × ToldStep c y (told_at t s v) (told_at t z v)
      told_of e m v i =
          let j = input-line e m v i in
          let before = looked false told_in s ok.long j.0 j.1 j.2 in
          let now = looked false told_in z l j.0 j.1 j.2 in
          (line_at t j.0, j.2, rw (before, now) (law j.0 j.1).told)

      on : (e : Element) → In e t → is_gate e.sort ≡ true → (a b k n : ℕ) → CountStep e y a b k n → Weighs t e s a b k → Weighs t e z a b n
      on e m g a b k n c w =
          let i = told_of e m (first_of e) (first-in e m g) in
          let j = told_of e m (second_of e) (second-in e m g) in
          weigh-on e i.0 j.0 y a b k n (told_at t s (first_of e)) (told_at t z (first_of e)) (told_at t s (second_of e)) (told_at t z (second_of e))
          (gate-apart e m g).both i.1 j.1 i.2 j.2 c w

      count : (q : Sort) (e : Element) (x v : ℕ) → In e t → e.sort ≡ q → Counts q e y x v → Counted t q e s x → Counted t q e z v
      count be-sort e x v m w c k = tt
      count and-sort e x v m w c k = on e m (ap is_gate w) 1 1 (x % 3) (v % 3) c k
      count or-sort e x v m w c k = on e m (ap is_gate w) 1 1 (x % 3) (v % 3) c k
      count pand-sort e x v m w c k = (on e m (ap is_gate w) 1 0 (x / 10) (v / 10) c.0 k.0, on e m (ap is_gate w) 0 1 (x / 5 % 2) (v / 5 % 2) c.1 k.1)
      count rbox-sort e x v m w c k = tt

  -- an element by its line
  pub look_at_lem : {A : Type 0} (c : A) (h : Sort → ℕ → A) (s : List ℕ) → length s ≡ length t → (i : ℕ) → i < length t → (e : Element) → line_at t i ≡ e
      → look_at c h t s e.number ≡ h e.sort (get_or s i 0)
  look_at_lem c h s l i k e w = looked c h s l i k (ap (λ (x : Element). x.number) w) ∙ ap (λ (x : Element). h x.sort (get_or s i 0)) w

  -- the flags of a PAND at rest are its inputs
  pub pand-flags : (s : List ℕ) → Sane t s → ((i : ℕ) → i < length t → told_in (line_at t i).sort (get_or s i 0) ≡ down_in (line_at t i).sort (get_or s i 0))
      → (i : ℕ) → (h : i < length t) → (line_at t i).sort ≡ pand-sort
      → (eqb (get_or s i 0 / 10) 1 ≡ down_at t s (first_of (line_at t i))) × (eqb (get_or s i 0 / 5 % 2) 1 ≡ down_at t s (second_of (line_at t i)))
  unfolding down_at
  pand-flags s ok rest i h w =
      let e = line_at t i in
      let m = line-in t i h in
      let k = subst (λ q. Counted t q e s (get_or s i 0)) w (ok.counted i h) in (
        flag-first (get_or s i 0 / 10) (told_at t s (first_of e)) (told_at t s (second_of e)) k.0 ∙ is-told (first_of e) (first-in e m (ap is_gate w)),
        flag-second (get_or s i 0 / 5 % 2) (told_at t s (first_of e)) (told_at t s (second_of e)) k.1 ∙ is-told (second_of e) (second-in e m (ap is_gate w)),
      )
    where
      is-told : (v : ℕ) → In v (line_at t i).ins → told_at t s v ≡ look_at false down_in t s v
      is-told v n =
          let j = input-line (line_at t i) (line-in t i h) v n in
          looked false told_in s ok.long j.0 j.1 j.2 ∙ rest j.0 j.1 ∙ sym (looked false down_in s ok.long j.0 j.1 j.2)

  -- ---- at rest
  pub sane-at-rest : (s : List ℕ) → Sane t s → ((i : ℕ) → i < length t → told_in (line_at t i).sort (get_or s i 0) ≡ down_in (line_at t i).sort (get_or s i 0))
      → AtRest t s
  unfolding down_at state_at
  sane-at-rest s ok rest = record {
    both = λ e m w.
        let x = own e m in
        let k = subst (λ q. Counted t q e s x.0) w x.1 in
        x.2 ∙ ap (λ q. down_in q x.0) w ∙ and-law (x.0 % 3) (told_at t s (first_of e)) (told_at t s (second_of e)) k
        ∙ ap (λ b. b && told_at t s (second_of e)) (first-is e m (ap is_gate w)) ∙ ap (λ b. down_at t s (first_of e) && b) (second_is e m (ap is_gate w));
    either = λ e m w.
        let x = own e m in
        let k = subst (λ q. Counted t q e s x.0) w x.1 in
        x.2 ∙ ap (λ q. down_in q x.0) w ∙ or-law (x.0 % 3) (told_at t s (first_of e)) (told_at t s (second_of e)) k
        ∙ ap (λ b. b || told_at t s (second_of e)) (first-is e m (ap is_gate w)) ∙ ap (λ b. down_at t s (first_of e) || b) (second_is e m (ap is_gate w));
    counted = λ e m w. count e m w;
    second = λ e m w h.
        let x = own e m in
        let k = subst (λ q. Counted t q e s x.0) w x.1 in
        let fi = subst (λ q. fine_in q x.0 ≡ true) w x.4 in
        let z = flagged x.0 fi (sym (ap (λ q. down_in q x.0) w) ∙ sym x.2 ∙ h) in
        sym (second_is e m (ap is_gate w)) ∙ second-law (told_at t s (first_of e)) (told_at t s (second_of e)) (sym z ∙ k.1);
  }
    where
      -- the state of a line
      own : (e : Element) → In e t
          → (x : ℕ) × Counted t e.sort e s x × (look_at false down_in t s e.number ≡ down_in e.sort x)
          × (look_at 0 (λ q x. x) t s e.number ≡ x) × (fine_in e.sort x ≡ true)
      own e m =
          let i = in-line t e m in
          let x = get_or s i.0 0 in
          let n = ap (λ (c : Element). c.number) i.2 in (
            x,
            subst (λ c. Counted t c.sort c s x) i.2 (ok.counted i.0 i.1),
            looked false down_in s ok.long i.0 i.1 n ∙ ap (λ (c : Element). down_in c.sort x) i.2,
            looked 0 (λ q x. x) s ok.long i.0 i.1 n,
            ap (λ (c : Element). fine_in c.sort x) (sym i.2) ∙ ok.fine i.0 i.1,
          )

      -- what an input has told is what it is
      is-told : (e : Element) → In e t → (v : ℕ) → In v e.ins → told_at t s v ≡ look_at false down_in t s v
      is-told e m v i =
          let j = input-line e m v i in
          looked false told_in s ok.long j.0 j.1 j.2 ∙ rest j.0 j.1 ∙ sym (looked false down_in s ok.long j.0 j.1 j.2)

      first-is : (e : Element) → In e t → is_gate e.sort ≡ true → told_at t s (first_of e) ≡ look_at false down_in t s (first_of e)
      first-is e m g = is-told e m (first_of e) (first-in e m g)

      second_is : (e : Element) → In e t → is_gate e.sort ≡ true → told_at t s (second_of e) ≡ look_at false down_in t s (second_of e)
      second_is e m g = is-told e m (second_of e) (second-in e m g)

      sum_is : (e : Element) (x : ℕ) → In e t → is_gate e.sort ≡ true → Weighs t e s 1 1 (x % 3) → look_at 0 (λ q x. x) t s e.number ≡ x
          → look_at 0 (λ q x. x) t s e.number % 3 ≡ one_if (look_at false down_in t s (first_of e)) + one_if (look_at false down_in t s (second_of e))
      sum_is e x m g k n =
          ap (λ z. z % 3) n ∙ k ∙ ap (λ b. one_if b + one_if (told_at t s (second_of e))) (first-is e m g)
          ∙ ap (λ b. one_if (look_at false down_in t s (first_of e)) + one_if b) (second_is e m g)

      count : (e : Element) → In e t → (e.sort ≡ and-sort) ⊎ (e.sort ≡ or-sort)
          → look_at 0 (λ q x. x) t s e.number % 3 ≡ one_if (look_at false down_in t s (first_of e)) + one_if (look_at false down_in t s (second_of e))
      count e m (inl w) = let x = own e m in sum_is e x.0 m (ap is_gate w) (subst (λ q. Counted t q e s x.0) w x.1) x.3
      count e m (inr w) = let x = own e m in sum_is e x.0 m (ap is_gate w) (subst (λ q. Counted t q e s x.0) w x.1) x.3
