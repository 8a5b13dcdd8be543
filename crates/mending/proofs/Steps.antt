-- The work in the table, state by state: between an old image and the image of the repaired model.
use mathlib.Core.Path.{◌≡◌, refl, sym, ◌∙◌, ap, ap₂}
use mathlib.Core.Logic.{◌⊎◌, inl, inr, ⊎_elim}
use mathlib.Core.List.Memᴰ.{head as here}
use mathlib.Core.List.Memᴰ.{not-nil as in-none}
use mathlib.Core.List.Memᴰ.{tail as there}
use mathlib.Core.List.{List, Memᴰ as In}
use Prim.Native.Nat.{ℕ, zero, suc, ◌+◌, ◌*◌, ◌-◌, ◌≤◌, ◌<◌}
use native.Mathlib.Omega.{arith}
use native.Mathlib.Decide.{ℕ_discrete, dec_lt}
use lib.ListN.{length, get_or, set, length-set}
use lib.Seq.{sets, length-sets, get_or-set_same, get_or-set_other}
use Rattle.laws.specs.Sets.{has, ◌∪◌, ◌∖◌, only, ◌∈◌}
use Rattle.laws.specs.Fold.{tab, over}
use Rattle.laws.proofs.FoldLaws.{tab-length}
use Rattle.laws.proofs.ListLaws.{in-spread, spread-in}
use Rattle.laws.proofs.RangeLaws.{over-shift, over-ext}
use Rattle.laws.proofs.TestLaws.{not_so}
use Rattle.answer.specs.Limits.{max_rows}
use Rattle.sets.specs.Members.{size_of}
use Rattle.model.specs.Model.{Row, Comp, comp_at, row_count}
use Rattle.model.specs.WellFormed.{WellComp}
use Rattle.iosa.specs.Faults.{Broken12}
use Rattle.iosa.proofs.Acceptance.Rows.{input-below}
use Rattle.iosa.proofs.Acceptance.Check12.{lack-broken, broken-lack}
use Rattle.merged.proofs.Merging.Rows.{rows-by-lead, in-rows-by}
use Rattle.merged.proofs.Merging.Ascend.{Before, Ascending}
use Rattle.layout.specs.Layout.{head_words, block_words, row_words, rows_at, count_of, block_word, first_of, action_at}
use Rattle.layout.specs.Image.{Image, row_in, rows_of, rows_leaving, comp_of, model_of}
use Rattle.layout.proofs.ModelOf.{model-length, comp-at}
use Rattle.layout.proofs.ReadBack.{rows-length, rows_before}
use Rattle.layout.proofs.RowsOfRange.{well-formed, well-comp, first-up, first_next, first-start, rows_end}
use Rattle.layout.proofs.ImageIsSane.{image-long, count-below, comp-ranges, row-ranges}
use Rattle.layout.proofs.ImageIsLaid.{rows_last}
use Rattle.layout.proofs.LowestAction.{range-ascends}
use Rattle.lacking.specs.Repair.{loop_at, repaired}
use Rattle.lacking.specs.Repaired.{SelfLoop}
use Rattle.lacking.specs.Walk.{actions_from, lack_in, lack_of}
use Rattle.lacking.proofs.RepairedRows.{same_rows, repaired-has}
use Rattle.lacking.proofs.RepairedModels.{repaired-length, repaired-at}
use Rattle.lacking.proofs.LackLaws.{lacks-is}
use Rattle.mending.specs.Weave.{woven}
use Rattle.mending.specs.Standing.{Working, Stage, first_at}
use Rattle.mending.proofs.SetsAt.{sets_below, sets-above, sets-inside, rows-of-tab, same_row}
use Rattle.mending.proofs.Woven.{Ready, woven-length, woven-in, old-in, new_in, woven-ascends}

-- ---- the rows of a range
tab-in : {A : Type 0} (f : ℕ → A) (k n : ℕ) {z : A} → In z (tab f k n) → (x : ℕ) × (k ≤ x) × (x < k + n) × (z ≡ f x)
tab-in f k zero m = absurd (in-none m)
tab-in f k (suc n) (here e) = (k, omega arith, omega arith, e)
tab-in f k (suc n) (there m) = let p = tab-in f (suc k) n m in (p.0, omega (arith, p.1), omega (arith, p.2), p.3)

in-tab : {A : Type 0} (f : ℕ → A) (k n x : ℕ) → k ≤ x → x < k + n → In (f x) (tab f k n)
in-tab f k zero x p q = absurd (omega arith)
in-tab f k (suc n) x p q = elim (ℕ_discrete x k) [ yes e ↦ here (ap f e) | no e ↦ there (in-tab f (suc k) n x (omega arith) (omega arith)) ]

tab-ascends : (f : ℕ → Row) (k n : ℕ) → ((x y : ℕ) → k ≤ x → x < y → y < k + n → Before (f x) (f y)) → Ascending (tab f k n)
tab-ascends f k zero h = tt
tab-ascends f k (suc n) h = (
  λ z m. let p = tab-in f (suc k) n m in rw p.3 (h k p.0 (omega arith) p.1 (omega (arith, p.2))),
  tab-ascends f (suc k) n (λ x y a b c. h x y (omega arith) b (omega arith)),
)

-- of any image
module _ (t : List ℕ) (im : Image t) (i : ℕ) (h : i < count_of t) where
  leaving-in : (s : ℕ) {z : Row} → In z (rows_leaving t i s) → (x : ℕ) × (first_of t i s ≤ x) × (x < first_of t i (suc s)) × (z ≡ row_in t s x)
  unfolding rows_leaving
  leaving-in s m = let p = tab-in (row_in t s) (first_of t i s) (first_of t i (suc s) - first_of t i s) m in (p.0, p.1, omega (arith, p.1, p.2), p.3)

  in-leaving : (s x : ℕ) → first_of t i s ≤ x → x < first_of t i (suc s) → In (row_in t s x) (rows_leaving t i s)
  unfolding rows_leaving
  in-leaving s x p q = in-tab (row_in t s) (first_of t i s) (first_of t i (suc s) - first_of t i s) x p (omega arith)

  leaving-rows : (s : ℕ) → s < block_word t i 0 → {z : Row} → In z (rows_leaving t i s) → In z (comp_of t i).rows × (z.from ≡ s)
  unfolding comp_of
  leaving-rows s b m =
      (in-spread (rows_leaving t i) 0 (block_word t i 0) s (omega arith) (omega arith) m, ap (λ r. r.from) (leaving-in s m).3)

  rows-leaving : (s : ℕ) → {z : Row} → In z (comp_of t i).rows → z.from ≡ s → In z (rows_leaving t i s)
  unfolding comp_of
  rows-leaving s {z} m e =
      let p = spread-in (rows_leaving t i) 0 (block_word t i 0) m in
      let j : p.0 ≡ s = sym (ap (λ r. r.from) (leaving-in p.0 p.3).3) ∙ e in
      rw j at p.3

  leaving-ascends : (s : ℕ) → s < block_word t i 0 → Ascending (rows_leaving t i s)
  unfolding rows_leaving
  leaving-ascends s b =
      let up = first-up t im i h s (suc s) (omega arith) b in
      tab-ascends (row_in t s) (first_of t i s) (first_of t i (suc s) - first_of t i s)
      (λ x y p q r. range-ascends t im i s h b x y (p, omega arith) (omega arith, omega arith) q)

  pub total-over : (s : ℕ) → s ≤ block_word t i 0 → first_of t i s ≤ row_count (model_of t)
  total-over s p =
      let l : i < length (model_of t) = omega (arith, model-length t) in
      omega (
        arith,
        first-up t im i h s (block_word t i 0) p (omega arith),
        rows_end t im i h,
        first-start t im i h,
        rows_before (model_of t) i l,
        ap (λ c. length c.rows) (comp-at t i h),
      )

module _ (T X : List ℕ) (n : ℕ) (k : Working T X n) where
  pub same_count : count_of X ≡ count_of T
  same_count = sym (model-length X) ∙ ap length k.model ∙ repaired-length (model_of T) ∙ model-length T

  module _ (i : ℕ) (h : i < count_of T) where
    inX : i < count_of X
    inX = omega (arith, same_count)

    comp-new : comp_of X i ≡ repaired (comp_of T i)
    comp-new = sym (comp-at X i inX) ∙ ap (λ m. comp_at m i) k.model ∙ repaired-at (model_of T) i (omega (arith, model-length T)) ∙ ap repaired (comp-at T i h)

    -- "All else stays": the words of a block before first[0]
    pub head-same : (j : ℕ) → j < head_words → block_word X i j ≡ block_word T i j
    unfolding comp_of repaired
    head-same zero q = ap (λ c. c.states) comp-new
    head-same (suc zero) q = ap (λ c. c.start) comp-new
    head-same (suc (suc zero)) q = ap (λ c. c.ins) comp-new
    head-same (suc (suc (suc zero))) q = ap (λ c. c.outs) comp-new
    head-same (suc (suc (suc (suc zero)))) q = ap (λ c. c.uins) comp-new
    head-same (suc (suc (suc (suc (suc zero))))) q = ap (λ c. c.uouts) comp-new
    head-same (suc (suc (suc (suc (suc (suc zero)))))) q = ap (λ c. c.clocks) comp-new
    head-same (suc (suc (suc (suc (suc (suc (suc zero))))))) q = ap (λ c. c.started) comp-new
    head-same (suc (suc (suc (suc (suc (suc (suc (suc j)))))))) q = absurd (omega arith)

    w : WellComp (comp_of T i)
    w = well-comp T k.image i h

    module _ (s : ℕ) (b : s < block_word T i 0) where
      abbrev lo : ℕ
      lo = first_of T i s

      abbrev hi : ℕ
      hi = first_of T i (suc s)

      abbrev L : ℕ
      L = lack_of T i s

      abbrev c : Comp
      c = comp_of T i

      b_x : s < block_word X i 0
      b_x = omega (arith, head-same 0 (omega arith))

      own_row : (x : ℕ) → lo ≤ x → x < hi → In (row_in T s x) c.rows
      own_row x p q = (leaving-rows T k.image i h s b (in-leaving T k.image i h s x p q)).0

      broken : (a : ℕ) → a ∈ L → Broken12 c s a
      unfolding comp_of
      broken a m = lack-broken c s a b (lacks-is T i s b a ∙ m)

      lacked : (a : ℕ) → Broken12 c s a → a ∈ L
      lacked a m = sym (lacks-is T i s b a) ∙ broken-lack c s a m

      -- where the rows of g, n places higher, are the old ones
      module _ (g : ℕ → Row) (old : (x : ℕ) → lo ≤ x → x < hi → g (x + n) ≡ row_in T s x) where
        at : (x : ℕ) → lo + n ≤ x → x < hi + n → g x ≡ row_in T s (x - n)
        at x p q = let e : x - n + n ≡ x = omega arith in ap g (sym e) ∙ old (x - n) (omega arith) (omega arith)

        pub state-ready : Ready g s (lo + n) (hi + n) L
        state-ready = record {
          upward = let u = (comp-ranges T k.image i h).up s (suc s) (omega arith) b in omega arith;
          from = λ x p q. ap (λ r. r.from) (at x p q);
          action = λ x p q. rw (at x p q) (row-ranges T k.image i s (x - n) h b (omega arith) (omega arith)).action;
          ascend = λ x y p l q. rw (at x p (omega arith), at y (omega arith) q)
              (range-ascends T k.image i s h b (x - n) (y - n) (omega arith, omega arith) (omega arith, omega arith) (omega arith));
          apart = λ x p q. not_so (has L (g x).action) (λ m.
              let r = row_in T s (x - n) in
              let e : (g x).action ≡ r.action = ap (λ z. z.action) (at x p q) in
              (broken r.action (rw (← e) m)).lacks (rows-by-lead c s r.action
              (in-rows-by c.rows s r.action (own_row (x - n) (omega arith) (omega arith)) refl refl)));
          low = λ a m. input-below c w a (broken a m).input;
        }

        abbrev many : ℕ
        many = (hi + n - (lo + n)) + size_of L

        pub woven-is : woven g s (hi + n) many L (lo + n) ≡ rows_leaving X i s
        woven-is = same_rows (woven g s (hi + n) many L (lo + n)) (rows_leaving X i s) (woven-ascends g s (hi + n) many (lo + n) L state-ready refl)
            (leaving-ascends X k.again i inX s b_x) there-to back
          where
            put : {z : Row} → In z c.rows ⊎ SelfLoop c z → z.from ≡ s → In z (rows_leaving X i s)
            put {z} m e = rows-leaving X k.again i inX s (rw comp-new ((repaired-has c w z).1 m)) e

            there-to : (z : Row) → In z (woven g s (hi + n) many L (lo + n)) → In z (rows_leaving X i s)
            there-to z m = ⊎_elim
                (λ o. let e = o.3 ∙ at o.0 o.1 o.2 in put (inl (rw e (own_row (o.0 - n) (omega (arith, o.1)) (omega (arith, o.2, o.1)))))
                (ap (λ r. r.from) e))
                (λ v. put (inr (record { state = s; action = v.0; lacked = broken v.0 v.1; row = v.2 })) (ap (λ r. r.from) v.2))
                (woven-in g s (hi + n) many (lo + n) L state-ready refl m)

            back : (z : Row) → In z (rows_leaving X i s) → In z (woven g s (hi + n) many L (lo + n))
            back z m =
                let p = leaving-rows X k.again i inX s b_x m in
                ⊎_elim
                (λ o.
                let q = leaving-in T k.image i h s (rows-leaving T k.image i h s o p.1) in
                old-in g s (hi + n) many (lo + n) L state-ready refl (
                  q.0 + n,
                  omega (arith, q.1),
                  omega (arith, q.2),
                  q.3 ∙ sym (old q.0 q.1 q.2),
                ))
                (λ l.
                let e : l.state ≡ s = sym (ap (λ r. r.from) l.row) ∙ p.1 in
                new_in g s (hi + n) many (lo + n) L state-ready refl (
                  l.action,
                  lacked l.action (rw e at l.lacked),
                  l.row ∙ ap (λ x. loop_at x l.action) e,
                ))
                ((repaired-has c w z).0 (rw comp-new at p.0))

        pub next-first : first_of X i (suc s) ≡ first_of X i s + many
        unfolding rows_leaving
        next-first =
            let e = sym (ap length woven-is ∙ tab-length (row_in X s) (first_of X i s) (first_of X i (suc s) - first_of X i s))
            ∙ woven-length g s (hi + n) many L (lo + n) in
            omega (arith, e, first-up X k.again i inX s (suc s) (omega arith) b_x)

      -- a state gains no fewer rows than it had
      grows : first_of X i s + hi ≤ first_of X i (suc s) + lo
      grows =
          let g : ℕ → Row = λ x. row_in T s (x - n) in
          let e = next-first g (λ x p q. let z : x + n - n ≡ x = omega arith in ap (row_in T s) z) in
          omega (arith, e, (comp-ranges T k.image i h).up s (suc s) (omega arith) b)

    abbrev states : ℕ
    states = block_word T i 0

    gap_up : (j s : ℕ) → s + j ≡ states → first_of X i s + first_of T i states ≤ first_of X i states + first_of T i s
    gap_up zero s e = let z : s ≡ states = omega arith in rw z (omega arith)
    gap_up (suc j) s e = omega (arith, grows s (omega arith), gap_up j (suc s) (omega arith))

  total-old : (i : ℕ) → suc i ≡ count_of T → first_of T i (block_word T i 0) ≡ row_count (model_of T)
  total-old i e = rows_last T k.image i e

  total-new : (i : ℕ) → suc i ≡ count_of T → first_of X i (block_word T i 0) ≡ row_count (model_of X)
  total-new i e = ap (first_of X i) (sym (head-same i (omega arith) 0 (omega arith))) ∙ rows_last X k.again i (e ∙ sym same_count)

  next-old : (i : ℕ) → suc i < count_of T → first_of T (suc i) 0 ≡ first_of T i (block_word T i 0)
  next-old i h = first_next T k.image i h

  next-new : (i : ℕ) → suc i < count_of T → first_of X (suc i) 0 ≡ first_of X i (block_word T i 0)
  next-new i h = first_next X k.again i (omega (arith, same_count)) ∙ ap (first_of X i) (head-same i (omega arith) 0 (omega arith))

  -- behind component i the table still has as much to gain as stands in it
  gap-end : (j i : ℕ) → i + suc j ≡ count_of T → first_of X i (block_word T i 0) + row_count (model_of T) ≤ row_count (model_of X) + first_of T i (block_word T i 0)
  gap-end zero i e = omega (arith, total-old i (omega arith), total-new i (omega arith))
  gap-end (suc j) i e =
      let h : suc i < count_of T = omega arith in
      omega (arith, next-old i h, next-new i h, gap_up (suc i) h (block_word T (suc i) 0) 0 (omega arith), gap-end j (suc i) (omega arith))

  pub room : (i : ℕ) → i < count_of T → (s : ℕ) → s ≤ block_word T i 0 → first_of X i s ≤ first_of T i s + n
  room i h s p = omega (arith, gap_up i h (block_word T i 0 - s) s (omega arith), gap-end (count_of T - suc i) i (omega arith), k.rows)

  pub all_fit : row_count (model_of T) + n ≤ max_rows
  all_fit = omega (arith, k.rows, (well-formed X k.again).rows)

  -- ---- one state put
  module _ (i : ℕ) (h : i < count_of T) (s : ℕ) (b : s < block_word T i 0) (u : List ℕ) where
    in-front : first_at i s < rows_at
    in-front = omega (arith, count-below T k.image, (comp-ranges T k.image i h).states)

    module _ (wr : ℕ) (st : Stage T X n u (first_at i s) (first_of T i s) wr) where
      -- what is read there
      pub first-here : first_of u i s ≡ first_of T i s
      unfolding first_of block_word
      first-here = st.mid (first_at i s) (omega arith) in-front

      pub first-there : first_of u i (s + 1) ≡ first_of T i (suc s)
      unfolding first_of block_word
      first-there =
          let e : first_at i (s + 1) ≡ first_at i (suc s) = omega arith in
          st.mid (first_at i (s + 1)) (omega arith) (omega (arith, count-below T k.image, (comp-ranges T k.image i h).states)) ∙ ap (λ x. get_or T x 0) e

      head_read : (j : ℕ) → j < head_words → block_word u i j ≡ block_word T i j
      head_read j q = let e : block_word u i j ≡ block_word X i j = unfold block_word in st.low (1 + block_words * i + j) (omega arith) in e ∙ head-same i h j q

      pub raised-row : (x : ℕ) → first_of T i s ≤ x → x < first_of T i (suc s) → row_in u s (x + n) ≡ row_in T s x
      raised-row x p q = same_row u T s (x + n) x (λ v l.
          let e : rows_at + row_words * (x + n) + v ≡ rows_at + (row_words * n + (row_words * x + v)) = omega arith in
          let f : rows_at + row_words * x + v ≡ rows_at + (row_words * x + v) = omega arith in
          rw (e, f) (st.left (row_words * x + v) (omega arith) (omega (arith, total-over T k.image i h (suc s) b))))

      actions-read : over (λ r x. x ∪ only (action_at u r)) (first_of T i s + n) (first_of T i (suc s) + n) 0
          ≡ over (λ r x. x ∪ only (action_at T r)) (first_of T i s) (first_of T i (suc s)) 0
      actions-read =
          let e : first_of T i s + n ≡ n + first_of T i s = omega arith in
          let f : first_of T i (suc s) + n ≡ n + first_of T i (suc s) = omega arith in
          rw (e, f) (over-shift (λ r x. x ∪ only (action_at u r)) n (first_of T i s) (first_of T i (suc s)) 0
          ∙ over-ext (λ r x. x ∪ only (action_at u (n + r))) (λ r x. x ∪ only (action_at T r)) (first_of T i s) (first_of T i (suc s)) 0 (λ r x p q.
          let c : n + r ≡ r + n = omega arith in
          ap (λ a. x ∪ only a) (ap (action_at u) c ∙ ap (λ z. z.action) (raised-row r p q))))

      pub lack-read : lack_in u i (first_of T i s + n) (first_of T i (suc s) + n) ≡ lack_of T i s
      unfolding lack_in lack_of actions_from
      lack-read = ap₂ (λ a b. a ∖ b) (ap₂ (λ a b. a ∪ b) (head_read 2 (omega arith)) (head_read 4 (omega arith))) actions-read

      -- the rows put, and first[s]
      pub state-put : (u1 u2 : List ℕ) → wr ≡ first_of X i s
          → u1 ≡ sets u (rows_at + row_words * wr) (rows_of (rows_leaving X i s)) → u2 ≡ set u1 (first_at i s) wr
          → Stage T X n u2 (first_at i (suc s)) (first_of T i (suc s)) (first_of X i (suc s))
      unfolding rows_leaving
      state-put u1 u2 ew e1 e2 = record {
        long = ap length e2 ∙ length-set u1 (first_at i s) wr ∙ ap length e1 ∙ length-sets u at vs ∙ st.long;
        low = λ x p. elim (ℕ_discrete x (first_at i s)) [
          | yes q ↦ rw (e2, q) (get_or-set_same u1 (first_at i s) wr 0 (omega
              (arith, ap length e1, length-sets u at vs, st.long, image-long X k.again, in-front)) ∙ ew ∙ first-word)
          | no q ↦ front x (λ w. q w) (omega (arith, in-front, p, q)) ∙ st.low x (below_of x p q)
        ];
        mid = λ x p q. front x (λ w. omega (arith, p, w)) q ∙ st.mid x (omega arith) q;
        done = λ x p. elim (dec_lt x (row_words * wr)) [
          | yes q ↦ behind (rows_at + x) (omega (arith, in-front)) ∙ sets_below u at vs (rows_at + x) (omega arith) ∙ st.done x q
          | no q ↦
              let y = x - row_words * wr in
              let e : rows_at + x ≡ at + y = omega arith in
              let f : rows_at + (row_words * first_of X i s + y) ≡ rows_at + x = omega (arith, ew) in
              behind (rows_at + x) (omega (arith, in-front)) ∙ ap (λ z. get_or (sets u at vs) z 0) e
              ∙ sets-inside u at vs y (omega (arith, many-words)) (omega (arith, many-words, st.long, image-long X k.again, fits))
              ∙ rows-of-tab X s (first_of X i s) (first_of X i (suc s) - first_of X i s) y (omega arith) ∙ ap (λ z. get_or X z 0) f
        ];
        left = λ x p q.
            let c = room i h (suc s) b in
            behind (rows_at + (row_words * n + x)) (omega (arith, in-front))
            ∙ sets-above u at vs (rows_at + (row_words * n + x)) (omega (arith, many-words, c))
            ∙ st.left x (omega (arith, first-up T k.image i h s (suc s) (omega arith) b)) q;
        rest = λ x p. behind (rows_at + x) (omega (arith, in-front)) ∙ sets-above u at vs (rows_at + x)
            (omega (arith, many-words, room i h (suc s) b, total-over T k.image i h (suc s) b)) ∙ st.rest x p;
      }
        where
          at : ℕ
          at = rows_at + row_words * wr

          vs : List ℕ
          vs = rows_of (tab (row_in X s) (first_of X i s) (first_of X i (suc s) - first_of X i s))

          b_x' : s < block_word X i 0
          b_x' = omega (arith, head-same i h 0 (omega arith))

          up_x : first_of X i s ≤ first_of X i (suc s)
          up_x = first-up X k.again i (omega (arith, same_count)) s (suc s) (omega arith) b_x'

          many-words : row_words * wr + length vs ≡ row_words * first_of X i (suc s)
          many-words = omega (
            arith,
            rows-length (tab (row_in X s) (first_of X i s) (first_of X i (suc s) - first_of X i s)),
            tab-length (row_in X s) (first_of X i s) (first_of X i (suc s) - first_of X i s),
            up_x,
          )

          fits : first_of X i (suc s) ≤ max_rows
          fits = omega (arith, room i h (suc s) b, total-over T k.image i h (suc s) b, all_fit)

          first-word : first_of X i s ≡ get_or X (first_at i s) 0
          first-word = unfold first_of block_word in refl

          below_of : (x : ℕ) → x < first_at i (suc s) → (x ≡ first_at i s → ⊥) → x < first_at i s
          below_of x p q = elim (dec_lt x (first_at i s)) [ yes l ↦ l | no l ↦ absurd (q (omega arith)) ]

          front : (x : ℕ) → (x ≡ first_at i s → ⊥) → x < rows_at → get_or u2 x 0 ≡ get_or u x 0
          front x q l = rw e2 (get_or-set_other u1 (first_at i s) x wr 0 q ∙ ap (λ z. get_or z x 0) e1 ∙ sets_below u at vs x (omega arith))

          behind : (x : ℕ) → first_at i s < x → get_or u2 x 0 ≡ get_or (sets u at vs) x 0
          behind x l = rw e2 (get_or-set_other u1 (first_at i s) x wr 0 (λ q. omega arith) ∙ ap (λ z. get_or z x 0) e1)
