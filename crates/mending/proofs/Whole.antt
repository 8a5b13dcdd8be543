-- The work in the table, from its start over every state and component to its end.
use mathlib.Core.Path.{◌≡◌, refl, sym, ◌∙◌, ap, ap₂}
use mathlib.Core.List.{List, ◌++◌}
use Prim.Native.Nat.{ℕ, suc, ◌+◌, ◌*◌, ◌-◌, ◌/◌, ◌%◌, ◌≤◌, ◌<◌}
use native.Mathlib.Omega.{arith}
use native.Mathlib.Numerals.{add-one}
use native.Mathlib.Decide.{ℕ_discrete, dec_lt}
use lib.ListN.{length, get_or, set, take, drop, length-set, length-append, length-drop}
use lib.Seq.{sets, ext_get_or, get_or-set_same, get_or-set_other, take_at, take_all, get_or-append-add, get_or-drop}
use Rattle.answer.specs.Limits.{max_components, max_states, max_rows}
use Rattle.sets.specs.Members.{word_bits, size_of}
use Rattle.model.specs.Model.{row_count}
use Rattle.model.specs.WellFormed.{WellFormed}
use Rattle.layout.specs.Layout.{block_words, row_words, rows_at, image_words, count_of, block_word, first_of, action_at}
use Rattle.layout.specs.Image.{Image, row_in, rows_of, rows_leaving, image_of, model_of}
use Rattle.layout.proofs.ModelOf.{model-length, comp-at}
use Rattle.layout.proofs.ReadBack.{length-of-image, rows_next}
use Rattle.layout.proofs.RowsOfRange.{well-formed, first-start, first-over, rows_end}
use Rattle.layout.proofs.ModelOfImage.{model_is}
use Rattle.layout.proofs.ImageIsSane.{image-long, count-below, comp-ranges}
use Rattle.layout.proofs.ImageIsLaid.{image-is-laid, rows_last}
use Rattle.lacking.specs.Repair.{repaired_of, added_to}
use Rattle.lacking.specs.Walk.{lack_in, lack_of}
use Rattle.lacking.proofs.Counts.{repaired-row-count}
use Rattle.mending.specs.Weave.{weave}
use Rattle.mending.specs.Raised.{Raised}
use Rattle.mending.specs.Standing.{Working, Stage, block_at, first_at, AtState, AtComp, After, Behind, AtStart, Reached}
use Rattle.mending.proofs.Woven.{Ready}
use Rattle.mending.proofs.Weaving.{weave-is}
use Rattle.mending.proofs.Steps.{same_count, head-same, next-first, state-ready, woven-is, room, all_fit, total-over, first-here, first-there}
use Rattle.mending.proofs.Steps.{raised-row, lack-read, state-put}

weave-same : (s w : ℕ) (u : List ℕ) {hi hi' k k' left left' r r' : ℕ} → hi ≡ hi' → k ≡ k' → left ≡ left' → r ≡ r'
    → weave s hi k w left r u ≡ weave s hi' k' w left' r' u
weave-same s w u a b c d = λ i. weave s (a i) (b i) w (c i) (d i) u

-- ---- one state
module _ {u : List ℕ} {n i s w : ℕ} (p : AtState u n i s w) where
  abbrev T : List ℕ
  T = p.old

  abbrev X : List ℕ
  X = p.new

  abbrev lo : ℕ
  lo = first_of T i s + n

  abbrev hi : ℕ
  hi = first_of T i (suc s) + n

  abbrev many : ℕ
  many = (hi - lo) + size_of (lack_of T i s)

  old-rows : (x : ℕ) → first_of T i s ≤ x → x < first_of T i (suc s) → row_in u s (x + n) ≡ row_in T s x
  old-rows = raised-row T X n p.work i p.inside s p.below u w p.stage

  ready : Ready (row_in u s) s lo hi (lack_of T i s)
  ready = state-ready T X n p.work i p.inside s p.below (row_in u s) old-rows

  pub long : image_words ≤ length u
  long = omega (arith, p.stage.long, image-long X p.work.again)

  pub few : i < max_components
  few = omega (arith, p.inside, count-below T p.work.image)

  pub low : s < max_states
  low = omega (arith, p.below, (comp-ranges T p.work.image i p.inside).states)

  pub first_read : first_of u i s ≡ first_of T i s
  first_read = first-here T X n p.work i p.inside s p.below u w p.stage

  pub next-read : first_of u i (s + 1) ≡ first_of T i (suc s)
  next-read = first-there T X n p.work i p.inside s p.below u w p.stage

  pub upward : first_of T i s ≤ first_of T i (suc s)
  upward = (comp-ranges T p.work.image i p.inside).up s (suc s) (omega arith) p.below

  pub fits : first_of T i (suc s) + n ≤ max_rows
  fits = omega (arith, total-over T p.work.image i p.inside (suc s) p.below, all_fit T X n p.work)

  pub raised-action : (r : ℕ) → lo ≤ r → r < hi → action_at u r < word_bits
  raised-action r a b = ready.action r a b

  next-new-first : first_of X i (suc s) ≡ w + many
  next-new-first = next-first T X n p.work i p.inside s p.below (row_in u s) old-rows ∙ ap (λ x. x + many) (sym p.here)

  pub end_fits : w + many ≤ first_of T i (suc s) + n
  end_fits = omega (arith, next-new-first, room T X n p.work i p.inside (suc s) p.below)

  -- what the code has read
  module _ (l h left end : ℕ) (el : l ≡ first_of u i s + n) (eh : h ≡ first_of u i (s + 1) + n) (ef : left ≡ lack_in u i l h) where
    low-is : l ≡ lo
    low-is = el ∙ ap (λ x. x + n) first_read

    high_is : h ≡ hi
    high_is = eh ∙ ap (λ x. x + n) next-read

    left_is : left ≡ lack_of T i s
    left_is = ef ∙ ap₂ (lack_in u i) low-is high_is ∙ lack-read T X n p.work i p.inside s p.below u w p.stage

    pub size_is : (h - l) + size_of left ≡ many
    size_is = ap₂ (λ x y. x + y) (ap₂ (λ x y. x - y) high_is low-is) (ap size_of left_is)

    pub state-done : (u1 u2 : List ℕ) → end ≡ w + (h - l) + size_of left → u1 ≡ weave s h (end - w) w left l u → u2 ≡ set u1 (first_at i s) w → After p u2 end
    state-done u1 u2 ee e1 e2 = record { here = all ∙ sym next-new-first; stage = rw (all ∙ sym next-new-first) put }
      where
        all : end ≡ w + many
        all = omega (arith, ee, size_is)

        left_over : end - w ≡ many
        left_over = omega (arith, all)

        rows : u1 ≡ sets u (rows_at + row_words * w) (rows_of (rows_leaving X i s))
        rows =
            e1 ∙ weave-same s w u high_is left_over left_is low-is
            ∙ weave-is s hi many w (lack_of T i s) lo u ready refl end_fits
            ∙ ap (λ z. sets u (rows_at + row_words * w) (rows_of z)) (woven-is T X n p.work i p.inside s p.below (row_in u s) old-rows)

        put : Stage T X n u2 (first_at i (suc s)) (first_of T i (suc s)) (first_of X i (suc s))
        put = state-put T X n p.work i p.inside s p.below u w p.stage u1 u2 p.here rows e2

-- ---- words that are the same in both are passed over
skip : (T X : List ℕ) (n : ℕ) (u : List ℕ) (f f' r w : ℕ) → f ≤ f' → f' ≤ rows_at → ((x : ℕ) → f ≤ x → x < f' → get_or T x 0 ≡ get_or X x 0) → Stage T X n u f r w
    → Stage T X n u f' r w
skip T X n u f f' r w a b same st = record {
  long = st.long;
  low = λ x p. elim (dec_lt x f) [
    | yes q ↦ st.low x q
    | no q ↦ st.mid x (omega arith) (omega arith) ∙ same x (omega arith) p
  ];
  mid = λ x p q. st.mid x (omega arith) q;
  done = st.done;
  left = st.left;
  rest = st.rest;
}

-- a word of a block, and a first word, by its place
words_same : (t t' : List ℕ) (i j : ℕ) → block_word t i j ≡ block_word t' i j → get_or t (1 + block_words * i + j) 0 ≡ get_or t' (1 + block_words * i + j) 0
unfolding block_word
words_same t t' i j e = e

firsts_same : (t t' : List ℕ) (i s : ℕ) → first_of t i s ≡ first_of t' i s → get_or t (first_at i s) 0 ≡ get_or t' (first_at i s) 0
unfolding first_of block_word
firsts_same t t' i s e = e

-- ---- one component
module _ {u : List ℕ} {n i w : ℕ} (p : AtComp u n i w) where
  abbrev TC : List ℕ
  TC = p.old

  abbrev XC : List ℕ
  XC = p.new

  abbrev states : ℕ
  states = block_word TC i 0

  pub comp-long : image_words ≤ length u
  comp-long = omega (arith, p.stage.long, image-long XC p.work.again)

  pub comp-few : i < max_components
  comp-few = omega (arith, p.inside, count-below TC p.work.image)

  pub comp-states : states ≤ max_states
  comp-states = (comp-ranges TC p.work.image i p.inside).states

  pub states-read : block_word u i 0 ≡ states
  states-read = unfold block_word in p.stage.mid (1 + block_words * i + 0) (omega arith) (omega (arith, comp-few))

  -- its head is as it was
  comp-begins : Stage TC XC n u (first_at i 0) (first_of TC i 0) w
  comp-begins = skip TC XC n u (block_at i) (first_at i 0) (first_of TC i 0) w (omega arith) (omega (arith, comp-few)) (λ x a b.
      let j = x - block_at i in
      let e : x ≡ 1 + block_words * i + j = omega arith in
      rw e (words_same TC XC i j (sym (head-same TC XC n p.work i p.inside j (omega arith))))) p.stage

  -- and its first words end
  comp-ends : (v : List ℕ) (k : ℕ) → k ≡ first_of XC i states → Stage TC XC n v (first_at i states) (first_of TC i states) k → (v' : List ℕ)
      → v' ≡ set v (first_at i states) k → Behind p v' k
  comp-ends v k ek st v' ev = record {
    here = ek;
    stage = skip TC XC n v' (first_at i (suc states)) (block_at (suc i)) (first_of TC i states) k (omega (arith, comp-states)) (omega (arith, comp-few)) above put;
  }
    where
      f : ℕ
      f = first_at i states

      before-rows : first_at i states < rows_at
      before-rows = omega (arith, comp-few, comp-states)

      other : (x : ℕ) → (x ≡ first_at i states → ⊥) → get_or v' x 0 ≡ get_or v x 0
      other x q = rw ev (get_or-set_other v (first_at i states) x k 0 q)

      word : first_of XC i states ≡ get_or XC (first_at i states) 0
      word = unfold first_of block_word in refl

      put : Stage TC XC n v' (first_at i (suc states)) (first_of TC i states) k
      put = record {
        long = ap length ev ∙ length-set v (first_at i states) k ∙ st.long;
        low = λ x a. elim (ℕ_discrete x (first_at i states)) [
          | yes q ↦ rw (ev, q) (get_or-set_same v (first_at i states) k 0 (omega (arith, st.long, image-long XC p.work.again, before-rows)) ∙ ek ∙ word)
          | no q ↦ other x q ∙ st.low x (omega arith)
        ];
        mid = λ x a b. other x (λ q. omega (arith, q, a)) ∙ st.mid x (omega arith) b;
        done = λ x a. other (rows_at + x) (λ q. omega (arith, q, before-rows)) ∙ st.done x a;
        left = λ x a b. other (rows_at + (row_words * n + x)) (λ q. omega (arith, q, before-rows)) ∙ st.left x a b;
        rest = λ x a. other (rows_at + x) (λ q. omega (arith, q, before-rows)) ∙ st.rest x a;
      }

      above : (x : ℕ) → first_at i (suc states) ≤ x → x < block_at (suc i) → get_or TC x 0 ≡ get_or XC x 0
      above x a b =
          let s = x - first_at i 0 in
          let e : x ≡ first_at i s = omega arith in
          let zt : first_of TC i s ≡ 0 = first-over TC p.work.image i p.inside s (omega arith) (omega arith) in
          let zx : first_of XC i s ≡ 0 = first-over XC p.work.again i (omega (arith, p.inside, same_count TC XC n p.work)) s
          (omega (arith, head-same TC XC n p.work i p.inside 0 (omega arith))) (omega arith) in
          rw e (firsts_same TC XC i s (zt ∙ sym zx))

-- ---- all components
module _ {u : List ℕ} {n : ℕ} (p : AtStart u n) where
  abbrev TA : List ℕ
  TA = p.old

  abbrev XA : List ℕ
  XA = p.new

  pub start-long : image_words ≤ length u
  start-long = omega (arith, p.stage.long, image-long XA p.work.again)

  pub count-read : count_of u ≡ count_of TA
  count-read = let e : count_of u ≡ count_of XA = unfold count_of in p.stage.low 0 (omega arith) in e ∙ same_count TA XA n p.work

  pub at_first : Reached p u 0 0
  unfolding row_count
  at_first = record { here = refl; stage = p.stage }

  rows-old : (i : ℕ) → i < count_of TA → row_count (take (suc i) (model_of TA)) ≡ first_of TA i (block_word TA i 0)
  rows-old i h =
      omega (
        arith,
        rows_next (model_of TA) i (omega (arith, model-length TA)),
        rows_end TA p.work.image i h,
        first-start TA p.work.image i h,
        ap (λ c. length c.rows) (comp-at TA i h),
      )

  rows_new : (i : ℕ) → i < count_of TA → row_count (take (suc i) (model_of XA)) ≡ first_of XA i (block_word TA i 0)
  rows_new i h =
      let g : i < count_of XA = omega (arith, same_count TA XA n p.work) in
      omega (
        arith,
        rows_next (model_of XA) i (omega (arith, model-length XA)),
        rows_end XA p.work.again i g,
        first-start XA p.work.again i g,
        ap (λ c. length c.rows) (comp-at XA i g),
        ap (first_of XA i) (head-same TA XA n p.work i h 0 (omega arith)),
      )

  abbrev pub at-comp : (v : List ℕ) (i w : ℕ) → i < count_of TA → Reached p v i w → AtComp v n i w
  at-comp v i w h r = record {
    old = TA;
    new = XA;
    work = p.work;
    inside = h;
    here = r.here ∙ sym (first-start XA p.work.again i (omega (arith, same_count TA XA n p.work)));
    stage = rw (first-start TA p.work.image i h) r.stage;
  }

  pub past-comp : (v : List ℕ) (i w : ℕ) (h : i < count_of TA) (r : Reached p v i w) (v' : List ℕ) (k : ℕ) → Behind (at-comp v i w h r) v' k
      → Reached p v' (suc i) k
  past-comp v i w h r v' k b = record { here = b.here ∙ sym (rows_new i h); stage = rw (rows-old i h) b.stage }

  -- ---- the end
  no_block : (x : ℕ) → block_at (count_of TA) ≤ x → x < rows_at → get_or TA x 0 ≡ get_or XA x 0
  no_block x a b =
      let i = (x - 1) / block_words in
      let j = (x - 1) % block_words in
      let e : x ≡ 1 + block_words * i + j = omega arith in
      let zt : block_word TA i j ≡ 0 = (image-is-laid TA p.work.image).blocks i j (omega arith) (omega arith) (omega arith) in
      let zx : block_word XA i j ≡ 0 = (image-is-laid XA p.work.again).blocks i j (omega (arith, same_count TA XA n p.work)) (omega arith) (omega arith) in
      rw e (words_same TA XA i j (zt ∙ sym zx))

  pub whole : (v : List ℕ) (w : ℕ) → Reached p v (count_of TA) w → v ≡ XA
  whole v w r = ext_get_or 0 v XA r.stage.long (λ x h. elim (dec_lt x (block_at (count_of TA))) [
    | yes q ↦ r.stage.low x q
    | no q ↦ elim (dec_lt x rows_at) [
      | yes l ↦ r.stage.mid x (omega arith) l ∙ no_block x (omega arith) l
      | no l ↦ behind (x - rows_at) x (omega arith)
    ]
  ])
    where
      all-rows : w ≡ row_count (model_of TA) + n
      all-rows =
          r.here ∙ ap row_count (take_all (count_of TA) (model_of XA) (omega (arith, model-length XA, same_count TA XA n p.work))) ∙ p.work.rows

      behind : (y x : ℕ) → x ≡ rows_at + y → get_or v x 0 ≡ get_or XA x 0
      behind y x e = rw e (elim (dec_lt y (row_words * w)) [
        | yes q ↦ r.stage.done y q
        | no q ↦ r.stage.rest y (omega (arith, all-rows))
      ])

-- ---- the beginning
module _ (t : List ℕ) (im : Image t) (well : WellFormed (repaired_of (model_of t))) (n : ℕ) (en : n ≡ length (added_to (model_of t))) where
  abbrev m : List ℕ
  m = image_of (repaired_of (model_of t))

  abbrev new : List ℕ
  new = m ++ drop image_words t

  front_long : length m ≡ image_words
  front_long = length-of-image (repaired_of (model_of t)) well

  front-is : take image_words new ≡ m
  front-is = take_at m (drop image_words t) image_words front_long

  working : Working t new n
  working = record {
    image = im;
    again = record { model = repaired_of (model_of t); well = well; front = front-is };
    model = model_is (repaired_of (model_of t)) new well front-is;
    long = omega (arith, length-append m (drop image_words t), front_long, length-drop image_words t, image-long t im);
    rows = ap row_count (model_is (repaired_of (model_of t)) new well front-is) ∙ repaired-row-count (model_of t) (well-formed t im)
        ∙ ap (λ x. row_count (model_of t) + x) (sym en);
  }

  last : (s : List ℕ) → Image s → (y : ℕ) → row_words * row_count (model_of s) ≤ y → rows_at + y < image_words → get_or s (rows_at + y) 0 ≡ 0
  last s is y a b =
      let r = y / row_words in
      let v = y % row_words in
      let e : rows_at + y ≡ rows_at + row_words * r + v = omega arith in
      let some = (well-formed s is).some in
      let i = count_of s - 1 in
      let c : suc i ≡ count_of s = omega (arith, some, model-length s) in
      rw e ((image-is-laid s is).rows i r v c (omega (arith, rows_last s is i c)) (omega arith) (omega arith))

  tail : (y : ℕ) → row_words * (row_count (model_of t) + n) ≤ y → get_or t (rows_at + y) 0 ≡ get_or new (rows_at + y) 0
  tail y a = elim (dec_lt (rows_at + y) image_words) [
    | yes q ↦ last t im y (omega arith) q ∙ sym (last new working.again y (omega (arith, working.rows)) q)
    | no q ↦
        let z = rows_at + y - image_words in
        let e : rows_at + y ≡ length m + z = omega (arith, front_long) in
        let f : image_words + z ≡ rows_at + y = omega arith in
        sym (ap (λ x. get_or new x 0) e ∙ get_or-append-add m (drop image_words t) z 0 ∙ get_or-drop image_words t z 0 ∙ ap (λ x. get_or t x 0) f)
  ]

  pub begun : (u : List ℕ) → Raised t u (row_words * row_count (model_of t)) (row_words * n) → AtStart u n
  unfolding count_of
  begun u r = record {
    old = t;
    new = new;
    work = working;
    stage = record {
      long = r.long ∙ sym working.long;
      low = λ x p. let z : x ≡ 0 = omega arith in rw z (r.below 0 (omega arith) ∙ count_word);
      mid = λ x p q. r.below x (omega arith);
      done = λ x p. absurd (omega arith);
      left = λ x p q. r.moved x q;
      rest = λ x p. r.above (rows_at + x) (omega arith) ∙ tail x p;
    };
  }
    where
      count_word : get_or t 0 0 ≡ get_or new 0 0
      count_word = sym (same_count t new n working)

  pub begun-new : (u : List ℕ) (r : Raised t u (row_words * row_count (model_of t)) (row_words * n))
      → (begun u r).new ≡ image_of (repaired_of (model_of t)) ++ drop image_words t
  unfolding begun
  begun-new u r = refl

-- ---- as the code has it: within a component
pub record Within {u : List ℕ} {n i w : ℕ} (p : AtComp u n i w) (v : List ℕ) (s k : ℕ) : Type 0 where
  pub here : k ≡ first_of p.new i s
  pub stage : Stage p.old p.new n v (first_at i s) (first_of p.old i s) k

module _ {u : List ℕ} {n i w : ℕ} (p : AtComp u n i w) where
  pub within_first : Within p u 0 w
  within_first = record { here = p.here; stage = comp-begins p }

  abbrev pub at-state : (v : List ℕ) (s k : ℕ) → s < block_word p.old i 0 → Within p v s k → AtState v n i s k
  at-state v s k b q = record { old = p.old; new = p.new; work = p.work; inside = p.inside; below = b; here = q.here; stage = q.stage }

  pub past-state : (v : List ℕ) (s k : ℕ) (b : s < block_word p.old i 0) (q : Within p v s k) (v' : List ℕ) (r : ℕ) → After (at-state v s k b q) v' r
      → Within p v' (s + 1) r
  past-state v s k b q v' r a = rw (add-one s) (record { here = a.here; stage = a.stage })

  pub comp-done : (v : List ℕ) (s k states : ℕ) → s ≡ states → states ≡ block_word p.old i 0 → Within p v s k → (v' : List ℕ)
      → v' ≡ set v (first_at i states) k → Behind p v' k
  comp-done v s k states a b q v' e =
      let z = a ∙ b in
      comp-ends p v k (q.here ∙ ap (first_of p.new i) z) (rw z at q.stage) v' (rw b at e)

-- the rows of a table, read off its last component
pub total-rows : (t : List ℕ) → Image t → (count states rows : ℕ) → count ≡ count_of t → states ≡ block_word t (count - 1) 0
    → rows ≡ first_of t (count - 1) states → rows ≡ row_count (model_of t)
total-rows t im count states rows ec es er =
    let some = (well-formed t im).some in
    er ∙ ap (first_of t (count - 1)) es ∙ rows_last t im (count - 1) (omega (arith, some, ec, model-length t))

pub last-inside : (t : List ℕ) → Image t → (count : ℕ) → count ≡ count_of t → (1 ≤ count) × (count - 1 < count_of t) × (count - 1 < max_components)
last-inside t im count ec = let some = (well-formed t im).some in
    (omega (arith, some, ec, model-length t), omega (arith, some, ec, model-length t), omega (arith, some, ec, model-length t, count-below t im))
