-- A repaired model: component by component; a model that a text can state where it is small; never 12; and a second repair adds nothing.
use mathlib.Core.Path.{◌≡◌, refl, sym, ◌∙◌, ap}
use mathlib.Core.Logic.{inl, ⊎_elim, ◌↔◌}
use mathlib.Core.Bool.{Bool, true, false, cond, true≢false}
use mathlib.Core.Option.{some, some_inj}
use mathlib.Core.List.Memᴰ.{not-nil as in-none}
use mathlib.Core.List.{List, [], ◌∷◌, map, Memᴰ as In}
use Prim.Native.Nat.{ℕ, zero, suc, ◌+◌, ◌≤◌, ◌<◌}
use native.Mathlib.Omega.{arith}
use native.Mathlib.Decide.{dec_lt}
use lib.ListN.{length, get_or}
use lib.Seq.{ext_get_or}
use Rattle.laws.specs.Fold.{tab, spread}
use Rattle.laws.proofs.FoldLaws.{tab-length, tab-at}
use Rattle.laws.proofs.TabLaws.{spread_same}
use Rattle.laws.proofs.GrowLaws.{spread_none}
use Rattle.laws.proofs.TestLaws.{not_so}
use Rattle.laws.proofs.ListLaws.{in-spread, spread-in, Pairwise, pairwise-spread, pairwise-next, pairwise-from}
use Rattle.answer.specs.Limits.{max_actions}
use Rattle.answer.specs.Told.{Told, tell}
use Rattle.model.specs.Model.{Comp, Model, no_comp, comp_at}
use Rattle.model.specs.WellFormed.{lower, WellFormed}
use Rattle.iosa.specs.Checks.{lacks_row, component_of, accept_of}
use Rattle.iosa.specs.Faults.{Broken12, FaultAt, guarded, repeated, lacking, doubled, inactive, Fault, inside, output-shared, clock-shared, urgency-differs}
use Rattle.iosa.proofs.Acceptance.Order.{lower-irreflexive, lower-transitive, lower-less, lower-same}
use Rattle.iosa.proofs.Acceptance.Rows.{input-below}
use Rattle.iosa.proofs.Acceptance.Check12.{lack-broken, broken-lack}
use Rattle.iosa.proofs.Acceptance.Refused.{refused-exactly, component-refused-exactly}
use Rattle.iosa.proofs.Acceptance.InHalves.{nowhere-25}
use Rattle.lacking.specs.Repair.{repaired, repaired_of, cell, cell_at, cells_of, added_to}
use Rattle.lacking.specs.Repaired.{Added, Mended, MendedAs, Small}
use Rattle.lacking.proofs.SameMembers.{same-ascending}
use Rattle.lacking.proofs.RepairedRows.{in-when, when-in, repaired-as, only-repaired, repaired-well, none-lacked}

map-length : {A B : Type 0} (f : A → B) (xs : List A) → length (map f xs) ≡ length xs
map-length f [] = refl
map-length f (x ∷ xs) = ap suc (map-length f xs)

map_at : {A B : Type 0} (f : A → B) (d : A) (e : B) (xs : List A) (i : ℕ) → i < length xs → get_or (map f xs) i e ≡ f (get_or xs i d)
map_at f d e [] i h = absurd (omega arith)
map_at f d e (x ∷ xs) zero h = refl
map_at f d e (x ∷ xs) (suc i) h = map_at f d e xs i (omega arith)

pub repaired-length : (m : Model) → length (repaired_of m) ≡ length m
unfolding repaired_of
repaired-length m = map-length repaired m

pub repaired-at : (m : Model) (i : ℕ) → i < length m → comp_at (repaired_of m) i ≡ repaired (comp_at m i)
unfolding repaired_of
repaired-at m i h = map_at repaired no_comp no_comp m i h

-- both models component by component
pub model-tab : (m : Model) → m ≡ tab (comp_at m) 0 (length m)
model-tab m = ext_get_or no_comp m (tab (comp_at m) 0 (length m)) (sym (tab-length (comp_at m) 0 (length m)))
    (λ i h. let z : 0 + i ≡ i = omega arith in ap (comp_at m) (sym z) ∙ sym (tab-at (comp_at m) no_comp 0 (length m) i h))

pub repaired-tab : (m : Model) → repaired_of m ≡ tab (λ i. repaired (comp_at m i)) 0 (length m)
repaired-tab m =
    ext_get_or no_comp (repaired_of m) (tab (λ i. repaired (comp_at m i)) 0 (length m))
    (repaired-length m ∙ sym (tab-length (λ i. repaired (comp_at m i)) 0 (length m)))
    (λ i h.
    let l : i < length m = omega (arith, repaired-length m) in
    let z : 0 + i ≡ i = omega arith in
    repaired-at m i l ∙ ap (λ k. repaired (comp_at m k)) (sym z) ∙ sym (tab-at (λ i. repaired (comp_at m i)) no_comp 0 (length m) i l))

-- ---- cells ascend: component, state, action
abbrev Lower : List ℕ → List ℕ → Type 0
Lower x y = lower x y ≡ true

never-lower : (x : List ℕ) → Lower x x → ⊥
never-lower x h = true≢false (sym h ∙ lower-irreflexive x)

by-component : (i j s t a b : ℕ) → i < j → Lower (cell i s a) (cell j t b)
by-component i j s t a b h = lower-less i j (s ∷ a ∷ []) (t ∷ b ∷ []) h

by_state : (i s t a b : ℕ) → s < t → Lower (cell i s a) (cell i t b)
by_state i s t a b h = lower-same i i (s ∷ a ∷ []) (t ∷ b ∷ []) refl ∙ lower-less s t (a ∷ []) (b ∷ []) h

by-action : (i s a b : ℕ) → a < b → Lower (cell i s a) (cell i s b)
by-action i s a b h = lower-same i i (s ∷ a ∷ []) (s ∷ b ∷ []) refl ∙ lower-same s s (a ∷ []) (b ∷ []) refl ∙ lower-less a b [] [] h

module _ (i : ℕ) (c : Comp) where
  one_in : (s a : ℕ) {x : List ℕ} → In x (cell_at i c s a) → (lacks_row c s a ≡ true) × (x ≡ cell i s a)
  unfolding cell_at
  one_in s a m = in-when (lacks_row c s a) m

  one-ascends : (s a : ℕ) → Pairwise Lower (cell_at i c s a)
  unfolding cell_at
  one-ascends s a = go (lacks_row c s a)
    where
      go : (b : Bool) → Pairwise Lower (cond b (cell i s a ∷ []) [])
      go true = (λ y m. absurd (in-none m), tt)
      go false = tt

  state-in : (s : ℕ) {x : List ℕ} → In x (spread (cell_at i c s) 0 max_actions) → (a : ℕ) × (a < max_actions) × (lacks_row c s a ≡ true) × (x ≡ cell i s a)
  state-in s m = let p = spread-in (cell_at i c s) 0 max_actions m in let q = one_in s p.0 p.3 in (p.0, omega (arith, p.2), q.0, q.1)

  state-ascends : (s : ℕ) → Pairwise Lower (spread (cell_at i c s) 0 max_actions)
  state-ascends s = pairwise-spread Lower (cell_at i c s) 0 max_actions (λ a p q. one-ascends s a)
      (λ a b x y p h q l m. rw ((one_in s a l).1, (one_in s b m).1) (by-action i s a b h))

  cells_in : {x : List ℕ} → In x (cells_of i c) → (s : ℕ) × (a : ℕ) × (s < c.states) × (lacks_row c s a ≡ true) × (x ≡ cell i s a)
  unfolding cells_of
  cells_in m =
      let p = spread-in (λ s. spread (cell_at i c s) 0 max_actions) 0 c.states m in
      let q = state-in p.0 p.3 in
      (p.0, q.0, omega (arith, p.2), q.2, q.3)

  cells-ascend : Pairwise Lower (cells_of i c)
  unfolding cells_of
  cells-ascend = pairwise-spread Lower (λ s. spread (cell_at i c s) 0 max_actions) 0 c.states (λ s p q. state-ascends s) (λ s t x y p h q l m.
      let e = state-in s l in
      let f = state-in t m in
      rw (e.3, f.3) (by_state i s t e.0 f.0 h))

  in_cells : (s a : ℕ) → s < c.states → a < max_actions → lacks_row c s a ≡ true → In (cell i s a) (cells_of i c)
  unfolding cells_of cell_at
  in_cells s a h k e =
      in-spread (λ s. spread (cell_at i c s) 0 max_actions) 0 c.states s (omega arith) (omega arith)
      (in-spread (cell_at i c s) 0 max_actions a (omega arith) (omega arith) (when-in (lacks_row c s a) e refl))

added-ascends : (m : Model) → Pairwise Lower (added_to m)
unfolding added_to
added-ascends m = pairwise-spread Lower (λ i. cells_of i (comp_at m i)) 0 (length m) (λ i p q. cells-ascend i (comp_at m i)) (λ i j x y p h q l n.
    let e = cells_in i (comp_at m i) l in
    let f = cells_in j (comp_at m j) n in
    rw (e.4, f.4) (by-component i j e.0 f.0 e.1 f.1 h))

module _ (m : Model) (w : WellFormed m) where
  pub added-has : (x : List ℕ) → In x (added_to m) ↔ Added m x
  unfolding added_to
  added-has x = (
    λ l.
        let p = spread-in (λ i. cells_of i (comp_at m i)) 0 (length m) l in
        let q = cells_in p.0 (comp_at m p.0) p.3 in
        record {
          component = p.0;
          state = q.0;
          action = q.1;
          inside = omega (arith, p.2);
          lacked = lack-broken (comp_at m p.0) q.0 q.1 q.2 q.3;
          bytes = q.4;
        },
    λ r.
        let c = comp_at m r.component in
        let b = r.lacked in
        rw r.bytes (in-spread (λ i. cells_of i (comp_at m i)) 0 (length m) r.component (omega arith) (omega (arith, r.inside))
        (in_cells r.component c r.state r.action b.state (input-below c (w.each r.component r.inside) r.action b.input)
        (broken-lack c r.state r.action b))),
  )

  -- ---- model and list are what the relation says, and no others are
  pub mended-as : MendedAs m (record { model = repaired_of m; added = added_to m })
  mended-as = record {
    components = repaired-length m;
    each = λ i h. rw (repaired-at m i h) (repaired-as (comp_at m i) (w.each i h));
    added = added-has;
    ascend = pairwise-next Lower (cell 0 0 0) (added_to m) (added-ascends m);
  }

  pub only-mended : (d : Mended) → MendedAs m d → d ≡ record { model = repaired_of m; added = added_to m }
  only-mended d r =
      let e : d.model ≡ repaired_of m = ext_get_or no_comp d.model (repaired_of m) (r.components ∙ sym (repaired-length m)) (λ i h.
      let l : i < length m = omega (arith, r.components) in only-repaired (comp_at m i) (w.each i l) (comp_at d.model i) (r.each i l)
      ∙ sym (repaired-at m i l)) in
      let f : d.added ≡ added_to m = same-ascending Lower never-lower lower-transitive d.added (added_to m)
      (pairwise-from Lower (cell 0 0 0) lower-transitive d.added r.ascend) (added-ascends m)
      (λ z l. (added-has z).1 ((r.added z).0 l)) (λ z l. (r.added z).1 ((added-has z).0 l)) in
      λ i. record { model = e i; added = f i }

  -- ---- a model that a text can state
  pub repaired-well-formed : Small (repaired_of m) → WellFormed (repaired_of m)
  repaired-well-formed s = record {
    some = omega (arith, repaired-length m, w.some);
    components = omega (arith, repaired-length m, w.components);
    each = λ i h. let l : i < length m = omega (arith, repaired-length m) in rw (repaired-at m i l) (repaired-well (comp_at m i) (w.each i l));
    rows = s.rows;
    bytes = s.bytes;
  }

  -- ---- never 12
  not-lacked : (i : ℕ) → i < length m → (s a : ℕ) → Broken12 (comp_at (repaired_of m) i) s a → ⊥
  not-lacked i h s a b = none-lacked (comp_at m i) (w.each i h) s a (rw (repaired-at m i h) at b)

  fault-not-12 : (q : List ℕ) (t : Told) → Fault (repaired_of m) q t → t.number ≡ 12 → ⊥
  fault-not-12 q t (inside {i = i} h f) e = at f e
    where
      at : {n : ℕ} {p : List ℕ} {u : Told} → FaultAt (comp_at (repaired_of m) i) i n p u → u.number ≡ 12 → ⊥
      at (guarded b) e = omega arith
      at (repeated b) e = omega arith
      at (lacking {s = s} {a = a} b) e = not-lacked i (omega (arith, repaired-length m)) s a b
      at (doubled b) e = omega arith
      at (inactive b) e = omega arith
  fault-not-12 q t (output-shared b) e = omega arith
  fault-not-12 q t (clock-shared b) e = omega arith
  fault-not-12 q t (urgency-differs b) e = omega arith

  module _ (v : WellFormed (repaired_of m)) where
    pub repaired-accept-never-12 : (t : Told) → accept_of (repaired_of m) ≡ some t → t.number ≡ 12 → ⊥
    repaired-accept-never-12 t e n = let f = (refused-exactly (repaired_of m) v t).0 e in fault-not-12 f.rank t f.here n

    pub repaired-component-never-12 : (i : ℕ) (t : Told) → component_of (repaired_of m) i ≡ some t → t.number ≡ 12 → ⊥
    repaired-component-never-12 i t e n = elim (dec_lt i (length (repaired_of m))) [
      | yes h ↦ let f = (component-refused-exactly (repaired_of m) v i h t).0 e in fault-not-12 (i ∷ f.rank) t f.here n
      | no h ↦ let z : 25 ≡ t.number = absent (sym (nowhere-25 (repaired_of m) i (omega arith)) ∙ e) in omega arith
    ]
      where
        absent : {u : Told} → some (tell 25 (0 ∷ [])) ≡ some u → 25 ≡ u.number
        absent e = ap (λ t. t.number) (some_inj.0 e)

  -- ---- a second repair adds nothing
  pub repaired-again : repaired_of (repaired_of m) ≡ repaired_of m
  repaired-again =
      ext_get_or no_comp (repaired_of (repaired_of m)) (repaired_of m) (repaired-length (repaired_of m)) (λ i h.
      let k : i < length (repaired_of m) = omega (arith, repaired-length (repaired_of m)) in
      let l : i < length m = omega (arith, repaired-length m) in
      let c = comp_at m i in
      let u = w.each i l in
      let v = repaired-well c u in
      let r = repaired-as c u in
      repaired-at (repaired_of m) i k ∙ ap repaired (repaired-at m i l)
      ∙ sym (only-repaired (repaired c) v (repaired c) (record {
        states = refl;
        start = refl;
        ins = refl;
        outs = refl;
        uins = refl;
        uouts = refl;
        clocks = refl;
        started = refl;
        rows = λ x. (λ n. inl n, ⊎_elim (λ n. n) (λ n. absurd (none-lacked c u n.state n.action n.lacked)));
        ascend = r.ascend;
      }))
      ∙ sym (repaired-at m i l))

pub nothing-added : (m : Model) → WellFormed m → added_to (repaired_of m) ≡ []
unfolding added_to cells_of cell_at
nothing-added m w =
    nowhere (λ i. cells_of i (comp_at (repaired_of m) i)) 0 (length (repaired_of m)) (λ i p q.
    let l : i < length m = omega (arith, repaired-length m) in
    let c = comp_at (repaired_of m) i in
    nowhere (λ s. spread (cell_at i c s) 0 max_actions) 0 c.states (λ s u v.
    nowhere (cell_at i c s) 0 max_actions (λ a x y.
    let e : lacks_row c s a ≡ false = not_so (lacks_row c s a) (λ t. none-lacked (comp_at m i) (w.each i l) s a
    (rw (repaired-at m i l) at (lack-broken c s a (omega arith) t))) in
    ap (λ b. cond b (cell i s a ∷ []) []) e)))
  where
    nowhere : {A : Type 0} (f : ℕ → List A) (k n : ℕ) → ((j : ℕ) → k ≤ j → j < k + n → f j ≡ []) → spread f k n ≡ []
    nowhere f k n h = spread_same f (λ j. []) k n h ∙ spread_none (λ j. []) k n (λ j p. refl)
