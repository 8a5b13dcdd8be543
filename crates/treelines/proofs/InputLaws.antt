-- Inputs, one after the other: what is there so far, with those from here on, is what there is of all.
use mathlib.Core.Path.{◌≡◌, refl, sym, ◌∙◌, ap}
use mathlib.Core.Bool.{Bool, true, false}
use mathlib.Core.List.{List, [], ◌∷◌}
use Prim.Native.Nat.{ℕ, zero, suc, ◌+◌, ◌-◌, ◌≤◌, ◌<◌}
use native.Mathlib.Omega.{arith}
use native.Mathlib.Decide.{ℕ_discrete}
use lib.ListN.{drop}
use lib.Dec.{eqb}
use borrow.Author.Tests.{eq-eqb, ne_eqb, eqb-true}
use Rattle.answer.specs.Limits.{max_inputs}
use Rattle.model.specs.Text.{tab}
use Rattle.model.specs.Reading.{Scan, is, stops, got, then, exactly, the_byte, number, field}
use Rattle.model.proofs.Reading.Scans.{no-is}
use Rattle.model.proofs.Reading.Fields.{exactly-scanned}
use Rattle.trees.specs.TreeText.{more_inputs, inputs}
use Rattle.trees.proofs.Scans.{more-end}
use Rattle.fields.specs.Fields.{past, got_number}
use Rattle.fields.specs.Resets.{valued}
use Rattle.fields.specs.declared.Cursor.{Cursor}
use Rattle.std.specs.Prelude.{Result, Ok, Err}
use Rattle.treelines.specs.declared.Inputs.{Inputs}
use Rattle.treelines.specs.Elements.{placed_at, with_more}

-- ---- a number in its place
module _ (i : Inputs) (at n : ℕ) where
  pub placed-0 : at ≡ 0 → record { count = at + 1; first = n; second = 0; third = 0; fourth = 0; fifth = 0 } ≡ placed_at i at n
  unfolding placed_at
  placed-0 h = rw (eq-eqb at 0 h)

  pub placed-1 : ¬ (at ≡ 0) → at ≡ 1 → record { count = at + 1; first = i.first; second = n; third = 0; fourth = 0; fifth = 0 } ≡ placed_at i at n
  unfolding placed_at
  placed-1 a h = rw (ne_eqb at 0 a, eq-eqb at 1 h)

  pub placed-2 : ¬ (at ≡ 0) → ¬ (at ≡ 1) → at ≡ 2 → record { count = at + 1; first = i.first; second = i.second; third = n; fourth = 0; fifth = 0 }
      ≡ placed_at i at n
  unfolding placed_at
  placed-2 a b h = rw (ne_eqb at 0 a, ne_eqb at 1 b, eq-eqb at 2 h)

  pub placed-3 : ¬ (at ≡ 0) → ¬ (at ≡ 1) → ¬ (at ≡ 2) → at ≡ 3
      → record { count = at + 1; first = i.first; second = i.second; third = i.third; fourth = n; fifth = 0 } ≡ placed_at i at n
  unfolding placed_at
  placed-3 a b c h = rw (ne_eqb at 0 a, ne_eqb at 1 b, ne_eqb at 2 c, eq-eqb at 3 h)

  pub placed-4 : ¬ (at ≡ 0) → ¬ (at ≡ 1) → ¬ (at ≡ 2) → ¬ (at ≡ 3)
      → record { count = at + 1; first = i.first; second = i.second; third = i.third; fourth = i.fourth; fifth = n } ≡ placed_at i at n
  unfolding placed_at
  placed-4 a b c d = rw (ne_eqb at 0 a, ne_eqb at 1 b, ne_eqb at 2 c, ne_eqb at 3 d)

  pub placed-count : (placed_at i at n).count ≡ at + 1
  unfolding placed_at
  placed-count = go (ℕ_discrete at 0) (ℕ_discrete at 1) (ℕ_discrete at 2) (ℕ_discrete at 3)
    where
      go : Dec (at ≡ 0) → Dec (at ≡ 1) → Dec (at ≡ 2) → Dec (at ≡ 3) → (placed_at i at n).count ≡ at + 1
      go (yes h) b c d = rw (eq-eqb at 0 h)
      go (no a) (yes h) c d = rw (ne_eqb at 0 a, eq-eqb at 1 h)
      go (no a) (no b) (yes h) d = rw (ne_eqb at 0 a, ne_eqb at 1 b, eq-eqb at 2 h)
      go (no a) (no b) (no c) (yes h) = rw (ne_eqb at 0 a, ne_eqb at 1 b, ne_eqb at 2 c, eq-eqb at 3 h)
      go (no a) (no b) (no c) (no d) = rw (ne_eqb at 0 a, ne_eqb at 1 b, ne_eqb at 2 c, ne_eqb at 3 d)

-- ---- further inputs
with_none : (s : Inputs) → with_more s [] ≡ s
unfolding with_more
with_none s = refl

with-one : (s : Inputs) (n : ℕ) (ns : List ℕ) → with_more s (n ∷ ns) ≡ with_more (placed_at s s.count n) ns
unfolding with_more
with-one s n ns = refl

more-zero : (s : Inputs) (bs : List ℕ) → valued (with_more s) (more_inputs 0 bs) ≡ got s bs
unfolding more_inputs
more-zero s bs = ap (λ x. got x bs) (with_none s)

-- no tab: nothing more, and no byte is taken
none-taken : (k : ℕ) (bs : List ℕ) {cs : List ℕ} → the_byte tab bs ≡ stops cs → more_inputs k bs ≡ got [] bs
unfolding more_inputs exactly
none-taken zero bs e = refl
none-taken (suc k) [] e = refl
none-taken (suc k) (b ∷ bs) {cs} e = go (eqb b tab) refl
  where
    go : (v : Bool) → eqb b tab ≡ v → more_inputs (suc k) (b ∷ bs) ≡ got [] (b ∷ bs)
    go false q = more-end k b bs q
    go true q = absurd (no-is {g = record { value = tt; rest = bs }} e (rw (eqb-true b tab q)))

pub more-no-tab : (s : Inputs) (k : ℕ) (bs cs : List ℕ) → the_byte tab bs ≡ stops cs → got s bs ≡ valued (with_more s) (more_inputs k bs)
more-no-tab s k bs cs e =
    ap (λ x. got x bs) (sym (with_none s)) ∙ ap (valued (with_more s)) (sym (none-taken k bs e))

-- a tab
tab-taken : (k : ℕ) (bs cs : List ℕ) → the_byte tab bs ≡ got tt cs
    → more_inputs (suc k) bs ≡ then (number cs) (λ n ds. then (more_inputs k ds) (λ ns es. got (n ∷ ns) es))
unfolding more_inputs
tab-taken k bs cs e = ap (more_inputs (suc k)) (exactly-scanned (tab ∷ []) bs (record { value = tt; rest = cs }) e)

pub more-no-number : (s : Inputs) (k : ℕ) (bs cs ds : List ℕ) → 1 ≤ k → the_byte tab bs ≡ got tt cs → number cs ≡ stops ds
    → stops ds ≡ valued (with_more s) (more_inputs k bs)
more-no-number s zero bs cs ds h e f = absurd (omega arith)
more-no-number s (suc k) bs cs ds h e f =
    sym (ap (valued (with_more s)) (tab-taken k bs cs e ∙ ap (λ o. then o (λ n ds. then (more_inputs k ds) (λ ns es. got (n ∷ ns) es))) f))

valued_one : (s : Inputs) (n : ℕ) (o : Scan (List ℕ)) → valued (with_more s) (then o (λ ns es. got (n ∷ ns) es)) ≡ valued (with_more (placed_at s s.count n)) o
valued_one s n (stops cs) = refl
valued_one s n (is g) = ap (λ x. got x g.rest) (with-one s n g.value)

pub more-number : (s : Inputs) (k : ℕ) (bs cs ds : List ℕ) (n : ℕ) → the_byte tab bs ≡ got tt cs → number cs ≡ got n ds
    → valued (with_more (placed_at s s.count n)) (more_inputs k ds) ≡ valued (with_more s) (more_inputs (suc k) bs)
more-number s k bs cs ds n e f =
    sym (ap (valued (with_more s)) (tab-taken k bs cs e ∙ ap (λ o. then o (λ n ds. then (more_inputs k ds) (λ ns es. got (n ∷ ns) es))) f)
    ∙ valued_one s n (more_inputs k ds))

-- the loop: k of them are looked at
pub record Further (t : List ℕ) (more : ℕ) (s₀ : Inputs) (at₀ : ℕ) (s : Inputs) (at k : ℕ) : Type 0 where
  pub turns : k ≤ more
  pub room : s.count + (more - k) ≤ max_inputs
  pub same : valued (with_more s) (more_inputs (more - k) (drop at t)) ≡ valued (with_more s₀) (more_inputs more (drop at₀ t))

module _ (t : List ℕ) (more : ℕ) (s₀ : Inputs) (at₀ : ℕ) where
  pub further-begins : s₀.count + more ≤ max_inputs → Further t more s₀ at₀ s₀ at₀ 0
  further-begins h =
      record {
        turns = omega arith;
        room = omega arith;
        same = ap (λ k. valued (with_more s₀) (more_inputs k (drop at₀ t))) (let z : more - 0 ≡ more = omega arith in z);
      }

  module _ (s : Inputs) (at k : ℕ) (f : Further t more s₀ at₀ s at k) where
    pub further-done : more ≤ k → got s (drop at t) ≡ valued (with_more s₀) (more_inputs more (drop at₀ t))
    further-done h =
        let z : more - k ≡ 0 = omega arith in
        sym (more-zero s (drop at t)) ∙ ap (λ k. valued (with_more s) (more_inputs k (drop at t))) (sym z) ∙ f.same

    pub further-no-tab : (r : Result Cursor Cursor) (e : Cursor) → past t r ≡ the_byte tab (drop at t) → r ≡ Err e
        → got s (drop at t) ≡ valued (with_more s₀) (more_inputs more (drop at₀ t))
    further-no-tab r e h q = more-no-tab s (more - k) (drop at t) (drop e.at t) (sym h ∙ ap (past t) q) ∙ f.same

    module _ (below : k < more) (r : Result Cursor Cursor) (d : Cursor) (tabbed : past t r ≡ the_byte tab (drop at t)) (q : r ≡ Ok d) (u : Result
        (Cursor × ℕ) Cursor)
        (scan : got_number t u ≡ number (drop d.at t)) where
      pub further-no-number : (e : Cursor) → u ≡ Err e → stops (drop e.at t) ≡ valued (with_more s₀) (more_inputs more (drop at₀ t))
      further-no-number e p =
          more-no-number s (more - k) (drop at t) (drop d.at t) (drop e.at t) (omega arith) (sym tabbed ∙ ap (past t) q)
          (sym scan ∙ ap (got_number t) p) ∙ f.same

      pub further-more : (n : ℕ) (next : Cursor) → u ≡ Ok (next, n) → (s' : Inputs) → s' ≡ placed_at s s.count n
          → Further t more s₀ at₀ s' next.at (k + 1)
      further-more n next p s' e =
          let c : s'.count ≡ s.count + 1 = ap (λ (x : Inputs). x.count) e ∙ placed-count s s.count n in
          let room = f.room in
          let z : suc (more - (k + 1)) ≡ more - k = omega arith in
          record {
            turns = omega arith;
            room = omega (arith, c, room);
            same =
                ap (λ x. valued (with_more x) (more_inputs (more - (k + 1)) (drop next.at t))) e
                ∙ more-number s (more - (k + 1)) (drop at t) (drop d.at t) (drop next.at t) n (sym tabbed ∙ ap (past t) q) (sym scan ∙ ap (got_number t) p)
                ∙ ap (λ j. valued (with_more s) (more_inputs j (drop at t))) z ∙ f.same;
          }

-- ---- so many inputs, then further ones
pub needed-no-number : (s : Inputs) (n k : ℕ) (bs cs : List ℕ) → 1 ≤ n → field number bs ≡ stops cs → stops cs ≡ valued (with_more s) (inputs n k bs)
unfolding inputs
needed-no-number s zero k bs cs h e = absurd (omega arith)
needed-no-number s (suc n) k bs cs h e = rw (e, inputs)

needed-number : (s : Inputs) (n k : ℕ) (bs cs : List ℕ) (x : ℕ) → field number bs ≡ got x cs
    → valued (with_more (placed_at s s.count x)) (inputs n k cs) ≡ valued (with_more s) (inputs (suc n) k bs)
unfolding inputs
needed-number s n k bs cs x e =
    sym (ap (λ o. valued (with_more s) (then o (λ x cs. then (inputs n k cs) (λ xs ds. got (x ∷ xs) ds)))) e ∙ valued_one s x (inputs n k cs))

needed-zero : (s : Inputs) (k : ℕ) (bs : List ℕ) → valued (with_more s) (more_inputs k bs) ≡ valued (with_more s) (inputs 0 k bs)
unfolding inputs
needed-zero s k bs = refl

pub record Needed (t : List ℕ) (least more : ℕ) (s₀ : Inputs) (at₀ : ℕ) (s : Inputs) (at k : ℕ) : Type 0 where
  pub turns : k ≤ least
  pub count : s.count ≡ k
  pub same : valued (with_more s) (inputs (least - k) more (drop at t)) ≡ valued (with_more s₀) (inputs least more (drop at₀ t))

module _ (t : List ℕ) (least more : ℕ) (s₀ : Inputs) (at₀ : ℕ) where
  pub needed-begins : s₀.count ≡ 0 → Needed t least more s₀ at₀ s₀ at₀ 0
  needed-begins h =
      record {
        turns = omega arith;
        count = h;
        same = ap (λ k. valued (with_more s₀) (inputs k more (drop at₀ t))) (let z : least - 0 ≡ least = omega arith in z);
      }

  module _ (s : Inputs) (at k : ℕ) (f : Needed t least more s₀ at₀ s at k) where
    pub needed-done : least ≤ k → valued (with_more s) (more_inputs more (drop at t)) ≡ valued (with_more s₀) (inputs least more (drop at₀ t))
    needed-done h =
        let z : 0 ≡ least - k = omega arith in
        needed-zero s more (drop at t) ∙ ap (λ j. valued (with_more s) (inputs j more (drop at t))) z ∙ f.same

    module _ (below : k < least) (u : Result (Cursor × ℕ) Cursor) (scan : got_number t u ≡ field number (drop at t)) where
      pub needed-missing : (e : Cursor) → u ≡ Err e → stops (drop e.at t) ≡ valued (with_more s₀) (inputs least more (drop at₀ t))
      needed-missing e p = needed-no-number s (least - k) more (drop at t) (drop e.at t) (omega arith) (sym scan ∙ ap (got_number t) p) ∙ f.same

      pub needed-more : (n : ℕ) (next : Cursor) → u ≡ Ok (next, n) → (s' : Inputs) → s' ≡ placed_at s k n
          → Needed t least more s₀ at₀ s' next.at (k + 1)
      needed-more n next p s' e =
          let here : s' ≡ placed_at s s.count n = e ∙ ap (λ j. placed_at s j n) (sym f.count) in
          let c : s'.count ≡ k + 1 = ap (λ (x : Inputs). x.count) e ∙ placed-count s k n in
          let z : suc (least - (k + 1)) ≡ least - k = omega arith in
          record {
            turns = omega arith;
            count = c;
            same =
                ap (λ x. valued (with_more x) (inputs (least - (k + 1)) more (drop next.at t))) here
                ∙ needed-number s (least - (k + 1)) more (drop at t) (drop next.at t) n (sym scan ∙ ap (got_number t) p)
                ∙ ap (λ j. valued (with_more s) (inputs j more (drop at t))) z ∙ f.same;
          }
