-- Repair boxes: one repair at a time, none broken off, the first of the list first.
use mathlib.Core.Path.{◌≡◌, refl, sym, ◌∙◌, ap, subst}
use mathlib.Core.Logic.{◌≢◌, ◌⊎◌, inl, inr}
use mathlib.Core.Option.{Option, none, some, some_inj}
use mathlib.Core.Bool.{Bool, true, false, true≢false, ◌&&◌}
use mathlib.Core.List.Memᴰ.{head as here}
use mathlib.Core.List.Memᴰ.{not-nil as in-none}
use mathlib.Core.List.Memᴰ.{tail as there}
use mathlib.Core.List.{List, [], ◌∷◌, Memᴰ as In}
use Prim.Native.Nat.{ℕ, ◌-◌, ◌<◌}
use native.Mathlib.Omega.{arith}
use lib.ListN.{length, get_or}
use Rattle.laws.specs.Sets.{has, ◌∪◌, only, ◌∈◌}
use Rattle.laws.proofs.SetLaws.{none_in, or_left, or_right}
use Rattle.laws.proofs.ListLaws.{in-at}
use Rattle.laws.specs.Search.{least, any, map_some}
use Rattle.laws.proofs.SearchLaws.{no-some, least-none, least-some, any-true, any_false}
use Rattle.laws.proofs.TestLaws.{not_so}
use Rattle.answer.specs.Limits.{max_actions}
use Rattle.model.specs.Model.{Comp, Model, comp_at}
use Rattle.iosa.specs.Automaton.{auto_of, UrgentRow, Stable, Reachable, at-start, by_row}
use Rattle.iosa.specs.Product.{product, state_of, Within, Series, over, next}
use Rattle.iosa.specs.Parts.{GoAll}
use Rattle.iosa.specs.Start.{start_all}
use Rattle.iosa.proofs.Settling.Parts.{row-parts, within-length}
use Rattle.iosa.proofs.Settling.ProductOfMany.{wells, system-own}
use Rattle.iosa.proofs.Settling.Moves.{go-within}
use Rattle.iosa.proofs.Settling.Start.{start-in-range, start-of-the-product}
use Rattle.iosa.proofs.Reaching.Keeps.{stable-parts}
use Rattle.iosa.proofs.Reaching.Refused19.{part-at}
use Rattle.triggering.proofs.Known.{go-at}
use Rattle.triggering.proofs.WhereReached.{Known, row-keeps-known, reached-known}
use Rattle.trees.specs.Module.{comp_by, Sound}
use Rattle.trees.specs.Tree.{Sort, be-sort, and-sort, or-sort, pand-sort, rbox-sort, Element, Tree, is_be, is_box, among, boxed, Signal, fl, up}
use Rattle.trees.specs.Tree.{r as told-r, Meaning, signals_of, meaning_of}
use Rattle.trees.specs.Modules.{plain_move, BoxRole, box-r, box_move, box_hears, box_role, place_of, box_module, module_for}
use Rattle.trees.proofs.Numbers.{has-number}
use Rattle.trees.proofs.Lookup.{in-among}
use Rattle.trees.proofs.Boxes.{place-below}
use Rattle.trees.proofs.Owners.{urgent_signal}
use Rattle.treetheory.specs.AsDrawn.{down_in, down_at, mending_in, mending_at, RepairsAtRest, RepairsAfter, Instant}
use Rattle.treetheory.proofs.Colours.{code_of}
use Rattle.treetheory.proofs.Owned.{named, among-place}
use Rattle.treetheory.proofs.Standing.{line_at, line-in, in-line}
use Rattle.treetheory.proofs.Lawful.{same_line, box-moved, box-quiet}
use Rattle.treetheory.proofs.TameBoxes.{place-tells}
use Rattle.treetheory.proofs.Mending.{MendStep, m-fails, m-mends, m-begins, m-stays, mend-step, BoxStep, x-fails, x-mends, x-orders, x-rests}
use Rattle.treetheory.proofs.Mending.{box_signal, box-step, box_go, BoxKnows, box-knows-on}
use Rattle.treetheory.proofs.Grown.{Grown, g, well, conf, join, inside, comp-is, meaning, taken, range, one_list, closed, start-zero, be-at}
use Rattle.treetheory.proofs.Grown.{calm-meaning, down_is, mend-is, long, on-urgent}

module _ (S : Grown) where
  abbrev t : Tree
  t = S.tree

  abbrev c : Comp
  c = S.first

  abbrev cs : List Comp
  cs = S.others

  abbrev m : Model
  m = c ∷ cs

  is-be : (q : Sort) → is_be q ≡ true → q ≡ be-sort
  is-be be-sort h = refl
  is-be and-sort h = absurd (true≢false (sym h))
  is-be or-sort h = absurd (true≢false (sym h))
  is-be pand-sort h = absurd (true≢false (sym h))
  is-be rbox-sort h = absurd (true≢false (sym h))

  place-in : (v : ℕ) (xs : List ℕ) (k : ℕ) → place_of v xs ≡ some k → In v xs
  place-in v xs k q = subst (λ w. In w xs) (place-tells v xs k q) (in-at 0 xs k (place-below v xs k q))

  in_place : (v : ℕ) (xs : List ℕ) → In v xs → (k : ℕ) × (place_of v xs ≡ some k)
  in_place v xs i = among-place v xs (in-among v xs i)

  -- an input of a box is the line of a basic element
  box-input : (i : ℕ) → i < length t → (line_at t i).sort ≡ rbox-sort → (v : ℕ) → In v (line_at t i).ins
      → (j : ℕ) × (j < length t) × ((line_at t j).number ≡ v) × ((line_at t j).sort ≡ be-sort)
  box-input i h w v iv =
      let e = line_at t i in
      let k = S.known.known e (line-in t i h) v iv in
      let b = S.proper.boxes-of-bes.basic k.0 e k.1 (line-in t i h) (ap is_box w) (subst (λ n. In n e.ins) (sym k.2) iv) in
      let j = in-line t k.0 k.1 in
      (j.0, j.1, ap (λ (x : Element). x.number) j.2 ∙ k.2, ap (λ (x : Element). x.sort) j.2 ∙ is-be k.0.sort b)

  box-line : (i : ℕ) → i < length t → (line_at t i).sort ≡ rbox-sort → (comp_at m i ≡ comp_by (box_module t (line_at t i))) × Sound (box_module t (line_at t i))
  box-line i h w =
      let q = comp-is S i h in
      (q.1 ∙ ap (λ k. comp_by (module_for k t q.0 (line_at t i))) w, subst (λ k. Sound (module_for k t q.0 (line_at t i))) w q.2)

  -- a step at a box, and at the elements of its list
  module _ {a C R : ℕ} {s z : List ℕ} {y : Meaning} (means : meaning_of t a ≡ some y) (ha : a < max_actions) (ws : Within m s) (wz : Within m z)
      (go : GoAll a m s C R z) where
    box-at : (i : ℕ) → i < length t → (line_at t i).sort ≡ rbox-sort → BoxStep (line_at t i).ins y (get_or s i 0) (get_or z i 0)
    box-at i h w =
        let k = box-line i h w in
        let x = go-at go i (inside S i h) in
        box-step (line_at t i) y (get_or s i 0) (get_or z i 0)
        (box-moved t (g S) 0 (line_at t i) (line-in t i h) (get_or s i 0) w k.1 means ha (rw k.0 at x.2))

    mend-at : (j : ℕ) → j < length t → (line_at t j).sort ≡ be-sort
        → MendStep (line_at t j).number y (down_at t s (line_at t j).number) (mending_at t s (line_at t j).number) (down_at t z (line_at t j).number)
        (mending_at t z (line_at t j).number)
    mend-at j h w =
        let mv = be-at S means ha go j h w in
        let ds = down_is S s (long S s ws) j h w in
        let ms = mend-is S s (long S s ws) j h w in
        let dz = down_is S z (long S z wz) j h w in
        let mz = mend-is S z (long S z wz) j h w in
        rw (ds, ms, dz, mz) (mend-step (line_at t j) mv.0 y (get_or s j 0) (get_or z j 0) mv.1)

    mend-of : (i : ℕ) → i < length t → (line_at t i).sort ≡ rbox-sort → (v k : ℕ) → place_of v (line_at t i).ins ≡ some k
        → MendStep v y (down_at t s v) (mending_at t s v) (down_at t z v) (mending_at t z v)
    mend-of i h w v k q =
        let j = box-input i h w v (place-in v (line_at t i).ins k q) in
        subst (λ n. MendStep n y (down_at t s n) (mending_at t s n) (down_at t z n) (mending_at t z n)) j.2 (mend-at j.0 j.1 j.3)

  abbrev Boxes : List ℕ → Type 0
  Boxes s = (i : ℕ) → i < length t → (line_at t i).sort ≡ rbox-sort → BoxKnows (line_at t i).ins (get_or s i 0) (down_at t s) (mending_at t s)

  boxes-on : {a C R : ℕ} {s z : List ℕ} {y : Meaning} → meaning_of t a ≡ some y → a < max_actions → Within m s → Within m z → GoAll a m s C R z → Boxes s
      → Boxes z
  boxes-on {s = s} {z = z} {y = y} means ha ws wz go ok i h w =
      box-knows-on (line_at t i).ins y (get_or s i 0) (get_or z i 0) (down_at t s) (mending_at t s) (down_at t z) (mending_at t z) (ok i h w)
      (mend-of means ha ws wz go i h w) (box-at means ha ws wz go i h w)

  boxes-start : Boxes (start_all m)
  boxes-start i h w =
      let x = start-zero S i h in
      rw x (record {
        bits = λ v k q. not_so (has 0 (length (line_at t i).ins - k)) (none_in (length (line_at t i).ins - k)) ∙ sym (at_zero v k q).0;
        free = λ f v k q. (at_zero v k q).1;
        single = λ v w i j a b f k. absurd (true≢false (sym f ∙ (at_zero v i a).1));
        busy = λ f. absurd (none_in 0 f);
      })
    where
      at_zero : (v k : ℕ) → place_of v (line_at t i).ins ≡ some k → (down_at t (start_all m) v ≡ false) × (mending_at t (start_all m) v ≡ false)
      at_zero v k q =
          let j = box-input i h w v (place-in v (line_at t i).ins k q) in
          let l = long S (start_all m) (start-in-range m (well S)) in (
            ap (down_at t (start_all m)) (sym j.2) ∙ down_is S (start_all m) l j.0 j.1 j.3 ∙ ap (down_in be-sort) (start-zero S j.0 j.1),
            ap (mending_at t (start_all m)) (sym j.2) ∙ mend-is S (start_all m) l j.0 j.1 j.3 ∙ ap (mending_in be-sort) (start-zero S j.0 j.1),
          )

  -- what is in no box is not repaired
  abbrev Unboxed : List ℕ → Type 0
  Unboxed s = (j : ℕ) → j < length t → (line_at t j).sort ≡ be-sort → boxed t (line_at t j).number ≡ false → mending_at t s (line_at t j).number ≡ false

  unboxed-start : Unboxed (start_all m)
  unboxed-start j h w b = mend-is S (start_all m) (long S (start_all m) (start-in-range m (well S))) j h w ∙ ap (mending_in be-sort) (start-zero S j h)

  no-order : (a : ℕ) {y : Meaning} → meaning_of t a ≡ some y → (j : ℕ) → j < length t → (line_at t j).sort ≡ be-sort → boxed t (line_at t j).number
      ≡ false → y.of ≡ (line_at t j).number
      → y.signal ≡ told-r → ⊥
  no-order a {y} means j h w b of sig =
      let n = named t a means in
      let e = same_line t (g S) n.element (line_at t j) n.line (line-in t j h) (sym n.number ∙ of) in
      none-of-them y.signal sig (subst (λ q. In y.signal (signals_of q false)) (ap (λ (x : Element). x.sort) e ∙ w)
      (subst (λ q. In y.signal (signals_of n.element.sort q)) (ap (λ (x : Element). boxed t x.number) e ∙ b) n.signal))
    where
      none-of-them : (k : Signal) → k ≡ told-r → In k (signals_of be-sort false) → ⊥
      none-of-them k q (here z) = omega (arith, ap code_of (sym q ∙ z))
      none-of-them k q (there (here z)) = omega (arith, ap code_of (sym q ∙ z))
      none-of-them k q (there (there (here z))) = omega (arith, ap code_of (sym q ∙ z))
      none-of-them k q (there (there (there (here z)))) = omega (arith, ap code_of (sym q ∙ z))
      none-of-them k q (there (there (there (there i)))) = in-none i

  unmended : {v : ℕ} {y : Meaning} {d0 m0 d1 m1 : Bool} → (y.of ≡ v → y.signal ≡ told-r → ⊥) → m0 ≡ false → MendStep v y d0 m0 d1 m1 → m1 ≡ false
  unmended never ok (m-fails q h i j k) = j
  unmended never ok (m-mends q h i j k) = j
  unmended never ok (m-begins q h i j) = absurd (never q h)
  unmended never ok (m-stays q i j) = j ∙ ok

  unboxed-on : {a C R : ℕ} {s z : List ℕ} {y : Meaning} → meaning_of t a ≡ some y → a < max_actions → Within m s → Within m z → GoAll a m s C R z
      → Unboxed s → Unboxed z
  unboxed-on {a} means ha ws wz go ok j h w b = unmended (no-order a means j h w b) (ok j h w b) (mend-at means ha ws wz go j h w)

  -- every composed state that is reached
  record Stored (y : (product c cs).State) : Type 0 where
    knows : Known c cs y
    boxes : Boxes knows.list
    unboxed : Unboxed knows.list

  stored-start : Stored (product c cs).start
  stored-start =
      let n = reached-known c cs (well S) (conf S) (join S) (closed S) at-start in
      let e = one_list S n (start_all m) (start-in-range m (well S)) (sym (start-of-the-product c cs).0) in
      record { knows = n; boxes = rw e boxes-start; unboxed = rw e unboxed-start }

  stored_row : (C a R : ℕ) (y z : (product c cs).State) → (a ∈ (product c cs).urgent) ⊎ Stable (product c cs) y → (product c cs).Row y C a R z → Stored y
      → Stored z
  stored_row C a R y z way row h =
      let n = h.knows in
      let w = range S n in
      let k = ((system-own c cs (well S)).rows row).action in
      let q = row-parts c cs a {C = C} {R = R} n.list z (within-length m n.list w) k (rw n.state at row) in
      let v = (go-within m a (wells m (well S)) q.1).1 in
      let o = row-keeps-known c cs (well S) (conf S) (join S) (closed S) C a R y z way row n in
      let e = one_list S o q.0 v q.2 in
      let x = meaning S a k in
      record { knows = o; boxes = rw e (boxes-on x.1 x.2 w v q.1 h.boxes); unboxed = rw e (unboxed-on x.1 x.2 w v q.1 h.unboxed) }

  stored : {y : (product c cs).State} → Reachable (product c cs) y → Stored y
  stored at-start = stored-start
  stored (by_row {s = y} {t = z} {C = C} {a = a} {R = R} r way row) = stored_row C a R y z way row (stored r)

  boxes-of : (s : List ℕ) → Within m s → Reachable (product c cs) (state_of c cs s) → Boxes s
  boxes-of s w r = let h = stored r in let e = one_list S h.knows s w refl in rw e at h.boxes

  -- ---- at rest a box that is free has nothing to do
  in-boxed : (es : Tree) (e : Element) → In e es → is_box e.sort ≡ true → (v : ℕ) → among v e.ins ≡ true → boxed es v ≡ true
  unfolding boxed
  in-boxed (x ∷ es) e (here w) b v h =
      or_left (is_box x.sort && among v x.ins) (boxed es v)
      (subst (λ (k : Element). (is_box k.sort && among v k.ins) ≡ true) w (both_so (is_box e.sort) (among v e.ins) b h))
    where
      both_so : (a b : Bool) → a ≡ true → b ≡ true → (a && b) ≡ true
      both_so a b i j = i-then a i j
        where
          i-then : (a : Bool) → a ≡ true → b ≡ true → (a && b) ≡ true
          i-then true i j = j
          i-then false i j = absurd (true≢false (sym i))
  in-boxed (x ∷ es) e (there m) b v h = or_right (is_box x.sort && among v x.ins) (boxed es v) (in-boxed es e m b v h)
  in-boxed [] e l b v h = elim l [ ]

  -- the number of the order to repair v
  order-number : (i : ℕ) → i < length t → (line_at t i).sort ≡ rbox-sort → (v : ℕ) → In v (line_at t i).ins
      → (b : ℕ) × (b < max_actions) × (meaning_of t b ≡ some (record { of = v; signal = told-r }))
  order-number i h w v iv =
      let j = box-input i h w v iv in
      let e = line_at t j.0 in
      let bx = in-boxed t (line_at t i) (line-in t i h) (ap is_box w) v (in-among v (line_at t i).ins iv) in
      let be : boxed t e.number ≡ true = ap (boxed t) j.2 ∙ bx in
      let n = has-number t e told-r (line-in t j.0 j.1) (rw (j.3, be) (there (there (there (there (here refl)))))) in
      let few = (g S).few in
      (n.0, omega (arith, n.1, few), n.2 ∙ ap (λ k. some (record { of = k; signal = told-r })) j.2)

  order-role : (e : Element) (v k : ℕ) → place_of v e.ins ≡ some k → box_role e (record { of = v; signal = told-r }) ≡ some (box-r k)
  unfolding box_role
  order-role e v k q = ap (λ o. elim o as (λ _. Option BoxRole) [ none ↦ none | some j ↦ box_hears told-r j ]) q

  can-order : (n x k : ℕ) → has x 0 ≡ false → has x (n - k) ≡ true → any (λ j. has x (n - j)) k ≡ false → box_go n x (box-r k) ≡ none → ⊥
  can-order n x k i b f h = let z : box_move n x (box-r k) ≡ some (x ∪ only 0) = rw (i, b, f) in no-some h (ap (map_some plain_move) z)

  stuck : (s : List ℕ) → Within m s → Stable (product c cs) (state_of c cs s) → (i : ℕ) → i < length t → (line_at t i).sort ≡ rbox-sort
      → has (get_or s i 0) 0 ≡ false
      → (k : ℕ) → k < length (line_at t i).ins → has (get_or s i 0) (length (line_at t i).ins - k) ≡ true
      → any (λ j. has (get_or s i 0) (length (line_at t i).ins - j)) k ≡ false → ⊥
  stuck s ws st i h w idle k hk bit before =
      let e = line_at t i in
      let v = get_or e.ins k 0 in
      let iv = in-at 0 e.ins k hk in
      let pl = in_place v e.ins iv in
      let same-k : pl.0 ≡ k =
      S.proper.none-twice.once e (line-in t i h) pl.0 k (place-below v e.ins pl.0 pl.1) hk (place-tells v e.ins pl.0 pl.1) in
      let b = order-number i h w v iv in
      let q = box-line i h w in
      let below = part-at (λ k x. x < k.states) m s ws i (inside S i h) in
      let calm = part-at (λ k x. Stable (auto_of k) x) m s (stable-parts c cs (well S) (conf S) (join S) s ws st) i (inside S i h) in
      can-order (length e.ins) (get_or s i 0) k idle bit before
      (box-quiet t (g S) 0 e (line-in t i h) (get_or s i 0) w q.1 (rw q.0 at below) (rw q.0 at calm) b.0 k b.2 b.1
      (order-role e v k (pl.1 ∙ ap some same-k)))

  never-idle : (s : List ℕ) → Within m s → Stable (product c cs) (state_of c cs s) → Boxes s → (i : ℕ) → i < length t → (line_at t i).sort ≡ rbox-sort → (v : ℕ)
      → In v (line_at t i).ins
      → down_at t s v ≡ true → (w : ℕ) × In w (line_at t i).ins × (mending_at t s w ≡ true)
  never-idle s ws st bx i h w v iv dv = go (has (get_or s i 0) 0) refl
    where
      free-bit : has (get_or s i 0) 0 ≡ false → (o : Option ℕ) → least (λ j. has (get_or s i 0) (length (line_at t i).ins - j)) (length (line_at t i).ins) ≡ o → ⊥
      free-bit idle none q =
          let pl = in_place v (line_at t i).ins iv in
          let no-bit = least-none (λ j. has (get_or s i 0) (length (line_at t i).ins - j)) (length (line_at t i).ins) q pl.0
          (place-below v (line_at t i).ins pl.0 pl.1) in
          true≢false (sym dv ∙ sym ((bx i h w).bits v pl.0 pl.1) ∙ no-bit)
      free-bit idle (some k) q =
          let f : (ℕ → Bool) = (λ j. has (get_or s i 0) (length (line_at t i).ins - j)) in
          let l = least-some f (length (line_at t i).ins) k q in
          stuck s ws st i h w idle k l.below l.here (not_so (any f k) (λ z. let n = any-true f k z in true≢false (sym n.2 ∙ l.before n.0 n.1)))

      go : (b : Bool) → has (get_or s i 0) 0 ≡ b → (w : ℕ) × In w (line_at t i).ins × (mending_at t s w ≡ true)
      go true q = let o = (bx i h w).busy q in (o.0, place-in o.0 (line_at t i).ins o.1 o.2, o.3)
      go false q = absurd (free-bit q (least (λ j. has (get_or s i 0) (length (line_at t i).ins - j)) (length (line_at t i).ins)) refl)

  pub repairs-at-rest : (s : List ℕ) → Within m s → Reachable (product c cs) (state_of c cs s) → Stable (product c cs) (state_of c cs s) → RepairsAtRest t s
  repairs-at-rest s ws reach st =
      let bx = boxes-of s ws reach in
      let st0 = stored reach in
      let e0 = one_list S st0.knows s ws refl in
      let free_of : Unboxed s = rw e0 at st0.unboxed in
      record {
        one-repair = λ e l w v u i j a b.
            let k = in-line t e l in
            let wk = ap (λ (x : Element). x.sort) k.2 ∙ w in
            let i0 = in_place v (line_at t k.0).ins (subst (λ (x : Element). In v x.ins) (sym k.2) i) in
            let j0 = in_place u (line_at t k.0).ins (subst (λ (x : Element). In u x.ins) (sym k.2) j) in
            (bx k.0 k.1 wk).single v u i0.0 j0.0 i0.1 j0.1 a b;
        no-idling = λ e l w v i a.
            let k = in-line t e l in
            let wk = ap (λ (x : Element). x.sort) k.2 ∙ w in
            let q = never-idle s ws st bx k.0 k.1 wk v (subst (λ (x : Element). In v x.ins) (sym k.2) i) a in
            (q.0, subst (λ (x : Element). In q.0 x.ins) k.2 q.1, q.2);
        in-no-box = λ e l w b.
            let k = in-line t e l in
            let n = ap (λ (x : Element). x.number) k.2 in
            ap (mending_at t s) (sym n) ∙ free_of k.0 k.1 (ap (λ (x : Element). x.sort) k.2 ∙ w) (ap (boxed t) n ∙ b);
      }

  -- ---- boxes from one rest to the next
  -- what was being repaired in s is so, or is no longer down; what has come to be repaired is the first of its list that is down
  record Mends (s : List ℕ) (y : (product c cs).State) : Type 0 where
    holds : Stored y
    on : (j : ℕ) → j < length t → (line_at t j).sort ≡ be-sort → mending_at t s (line_at t j).number ≡ true
        → (mending_at t holds.knows.list (line_at t j).number ≡ true) ⊎ (down_at t holds.knows.list (line_at t j).number ≡ false)
    firsts : (i : ℕ) → i < length t → (line_at t i).sort ≡ rbox-sort → (v k : ℕ) → place_of v (line_at t i).ins ≡ some k → mending_at t s v ≡ false
        → mending_at t holds.knows.list v ≡ true
        → (w l : ℕ) → place_of w (line_at t i).ins ≡ some l → l < k → down_at t holds.knows.list w ≡ false

  -- a step by an urgent action keeps what is down, and what is being repaired
  kept-down : {v : ℕ} {y : Meaning} {b n e o : Bool} → urgent_signal y.signal ≡ true → MendStep v y b n e o → e ≡ b
  kept-down ur (m-fails q h i j k) = absurd (true≢false (sym ur ∙ ap urgent_signal h))
  kept-down ur (m-mends q h i j k) = absurd (true≢false (sym ur ∙ ap urgent_signal h))
  kept-down ur (m-begins q h i j) = i
  kept-down ur (m-stays q i j) = i

  either_way : (b e o : Bool) → e ≡ b → (b ≡ true → o ≡ true) → (o ≡ true) ⊎ (e ≡ false)
  either_way true e o i j = inl (j refl)
  either_way false e o i j = inr i

  kept-mend : {v : ℕ} {y : Meaning} {b n e o : Bool} → urgent_signal y.signal ≡ true → MendStep v y b n e o → (n ≡ true) ⊎ (b ≡ false)
      → (o ≡ true) ⊎ (e ≡ false)
  kept-mend ur (m-fails q h i j k) w = absurd (true≢false (sym ur ∙ ap urgent_signal h))
  kept-mend ur (m-mends q h i j k) w = absurd (true≢false (sym ur ∙ ap urgent_signal h))
  kept-mend ur (m-begins q h i j) w = either_way _ _ _ i j
  kept-mend ur (m-stays q i j) (inl w) = inl (j ∙ w)
  kept-mend ur (m-stays q i j) (inr w) = inr (i ∙ w)

  -- an order is given to the first that is down
  not-told-r : {k n : Signal} → k ≡ n → k ≡ told-r → code_of n ≢ 4 → ⊥
  not-told-r h s ne = ne (ap code_of (sym h ∙ s))

  by_order : (l : List ℕ) (y : Meaning) (x z k : ℕ) (down mend : ℕ → Bool) → BoxKnows l x down mend → BoxStep l y x z → place_of y.of l ≡ some k
      → y.signal ≡ told-r
      → (w i : ℕ) → place_of w l ≡ some i → i < k → down w ≡ false
  by_order l y x z k down mend ok (x-fails n q h e) pl s w i j a = absurd (not-told-r h s (λ z. omega (arith, z)))
  by_order l y x z k down mend ok (x-mends n q h e) pl s w i j a = absurd (not-told-r h s (λ z. omega (arith, z)))
  by_order l y x z k down mend ok (x-orders n q h e) pl s w i j a =
      let same-n : n ≡ k = some_inj.0 (sym q ∙ pl) in
      sym (ok.bits w i j) ∙ any_false (λ k. has x (length l - k)) n e.first i (omega (arith, a, same-n))
  by_order l y x z k down mend ok (x-rests n e) pl s w i j a = absurd (n k pl (ap box_signal s))

  -- ---- an urgent step
  first_on : (s l z : List ℕ) (y : Meaning) (i : ℕ) (v k : ℕ) → urgent_signal y.signal ≡ true
      → BoxKnows (line_at t i).ins (get_or l i 0) (down_at t l) (mending_at t l)
      → BoxStep (line_at t i).ins y (get_or l i 0) (get_or z i 0) → place_of v (line_at t i).ins ≡ some k
      → ((w : ℕ) → mending_at t l v ≡ true → (n : ℕ) → place_of w (line_at t i).ins ≡ some n → n < k → down_at t l w ≡ false)
      → MendStep v y (down_at t l v) (mending_at t l v) (down_at t z v) (mending_at t z v) → mending_at t z v ≡ true
      → (w n : ℕ) → place_of w (line_at t i).ins ≡ some n → n < k → MendStep w y (down_at t l w) (mending_at t l w) (down_at t z w) (mending_at t z w)
      → down_at t z w ≡ false
  first_on s l z y i v k ur ok bs pl ih (m-fails q h a b e) mz w n pw lt mw = absurd (true≢false (sym ur ∙ ap urgent_signal h))
  first_on s l z y i v k ur ok bs pl ih (m-mends q h a b e) mz w n pw lt mw = absurd (true≢false (sym ur ∙ ap urgent_signal h))
  first_on s l z y i v k ur ok bs pl ih (m-begins q h a b) mz w n pw lt mw =
      kept-down ur mw ∙ by_order (line_at t i).ins y (get_or l i 0) (get_or z i 0) k (down_at t l) (mending_at t l) ok bs
      (ap (λ x. place_of x (line_at t i).ins) q ∙ pl) h w n pw lt
  first_on s l z y i v k ur ok bs pl ih (m-stays q a b) mz w n pw lt mw = kept-down ur mw ∙ ih w (sym b ∙ mz) n pw lt

  mends-on : (s : List ℕ) (C a R : ℕ) (y z : (product c cs).State) → UrgentRow (product c cs) y C a R z → Mends s y → Mends s z
  mends-on s C a R y z row h =
      let n = h.holds.knows in
      let w = range S n in
      let k = ((system-own c cs (well S)).rows row.row).action in
      let q = row-parts c cs a {C = C} {R = R} n.list z (within-length m n.list w) k (rw n.state at row.row) in
      let v = (go-within m a (wells m (well S)) q.1).1 in
      let st = stored_row C a R y z (inl row.urgent) row.row h.holds in
      let e = one_list S st.knows q.0 v q.2 in
      let x = meaning S a k in
      let ur = on-urgent S a (taken S x.1 x.2 row.urgent q.1) x.1 in
      record {
        holds = st;
        on = λ j hj wj ms. rw e (kept-mend ur (mend-at x.1 x.2 w v q.1 j hj wj) (h.on j hj wj ms));
        firsts =
            λ i hi wi u0 k0 pl ns mz w0 l0 pw lt. rw e (first_on s n.list q.0 x.0 i u0 k0 ur (h.holds.boxes i hi wi)
            (box-at x.1 x.2 w v q.1 i hi wi) pl
            (λ w1 ml n1 p1 lt1. h.firsts i hi wi u0 k0 pl ns ml w1 n1 p1 lt1) (mend-of x.1 x.2 w v q.1 i hi wi u0 k0 pl) (rw e at mz) w0 l0 pw lt
            (mend-of x.1 x.2 w v q.1 i hi wi w0 l0 pw));
      }

  mends-series : (s : List ℕ) {y z : (product c cs).State} {l : List ℕ} {Q : ℕ} → Series (product c cs) y l Q z → Mends s y → Mends s z
  mends-series s over h = h
  mends-series s (next {x = x} {y = y} {C = C} {a = a} {R = R} row more) h = mends-series s more (mends-on s C a R x y row h)

  -- ---- the first row
  clock-mend : {v : ℕ} {y : Meaning} {b n e o : Bool} → (y.signal ≡ fl) ⊎ (y.signal ≡ up) → MendStep v y b n e o → n ≡ true → (o ≡ true) ⊎ (e ≡ false)
  clock-mend w (m-fails q h i j k) z = absurd (true≢false (sym z ∙ i))
  clock-mend w (m-mends q h i j k) z = inr k
  clock-mend (inl w) (m-begins q h i j) z = absurd (not-told-r w h (λ x. omega (arith, x)))
  clock-mend (inr w) (m-begins q h i j) z = absurd (not-told-r w h (λ x. omega (arith, x)))
  clock-mend w (m-stays q i j) z = inl (j ∙ z)

  no-new : {v : ℕ} {y : Meaning} {b n e o : Bool} → (y.signal ≡ fl) ⊎ (y.signal ≡ up) → MendStep v y b n e o → n ≡ false → o ≡ true → ⊥
  no-new w (m-fails q h i j k) z x = true≢false (sym x ∙ j)
  no-new w (m-mends q h i j k) z x = true≢false (sym x ∙ j)
  no-new (inl w) (m-begins q h i j) z x = not-told-r w h (λ x. omega (arith, x))
  no-new (inr w) (m-begins q h i j) z x = not-told-r w h (λ x. omega (arith, x))
  no-new w (m-stays q i j) z x = true≢false (sym x ∙ j ∙ z)

  mends-begin : (C a R : ℕ) (s : List ℕ) (z : (product c cs).State) → Within m s → Reachable (product c cs) (state_of c cs s)
      → Stable (product c cs) (state_of c cs s)
      → (a ∈ (product c cs).urgent → ⊥) → (product c cs).Row (state_of c cs s) C a R z → Mends s z
  mends-begin C a R s z w reach stable calm row =
      let k = ((system-own c cs (well S)).rows row).action in
      let q = row-parts c cs a {C = C} {R = R} s z (within-length m s w) k row in
      let v = (go-within m a (wells m (well S)) q.1).1 in
      let st = stored_row C a R (state_of c cs s) z (inr stable) row (stored reach) in
      let e = one_list S st.knows q.0 v q.2 in
      let x = meaning S a k in
      let cause = calm-meaning S a k calm x.1 in
      record {
        holds = st;
        on = λ j hj wj ms. rw e (clock-mend cause (mend-at x.1 x.2 w v q.1 j hj wj) ms);
        firsts = λ i hi wi u0 k0 pl ns mz w0 l0 pw lt. absurd (no-new cause (mend-of x.1 x.2 w v q.1 i hi wi u0 k0 pl) ns (rw e at mz));
      }

  pub repairs-after : (a : ℕ) (s z : List ℕ) → Instant c cs a s z → RepairsAfter t s z
  repairs-after a s z i =
      let h = mends-series s i.told (mends-begin i.guard a i.resets s i.middle i.from i.reached i.rested i.calm i.row) in
      let e = one_list S h.holds.knows z i.to refl in
      record {
        goes_on = λ x l w ms dz.
            let j = in-line t x l in
            let n = ap (λ (k : Element). k.number) j.2 in
            let o = h.on j.0 j.1 (ap (λ (k : Element). k.sort) j.2 ∙ w) (ap (mending_at t s) n ∙ ms) in
            still-so n (rw e at o) dz;
        takes_first = λ x l w j k lt hk ns mz.
            let q = in-line t x l in
            let wq = ap (λ (y : Element). y.sort) q.2 ∙ w in
            first-of q wq l j k lt hk ns mz (λ v n pv w1 m1 pw ns mz lt. rw e at (h.firsts q.0 q.1 wq v n pv ns (rw e mz) w1 m1 pw lt));
      }
    where
      still-so : {v w : ℕ} → v ≡ w → (mending_at t z v ≡ true) ⊎ (down_at t z v ≡ false) → down_at t z w ≡ true → mending_at t z w ≡ true
      still-so n (inl o) dz = ap (mending_at t z) (sym n) ∙ o
      still-so n (inr o) dz = absurd (true≢false (sym dz ∙ ap (down_at t z) (sym n) ∙ o))

      -- by places of the list, where no element stands twice
      first-of : {x : Element} → (q : (i : ℕ) × (i < length t) × (line_at t i ≡ x)) → (line_at t q.0).sort ≡ rbox-sort → In x t → (j k : ℕ) → j < k
          → k < length x.ins
          → mending_at t s (get_or x.ins k 0) ≡ false → mending_at t z (get_or x.ins k 0) ≡ true
          → ((v n : ℕ) → place_of v (line_at t q.0).ins ≡ some n → (w m : ℕ) → place_of w (line_at t q.0).ins ≡ some m → mending_at t s v ≡ false
          → mending_at t z v ≡ true → m < n → down_at t z w ≡ false)
          → down_at t z (get_or x.ins j 0) ≡ false
      first-of {x} q wq l j k lt hk ns mz all_so =
          let ins = ap (λ (y : Element). y.ins) q.2 in
          let pk = placed l k hk in
          let pj = placed l j (omega arith) in
          all_so (get_or x.ins k 0) k (ap (place_of (get_or x.ins k 0)) ins ∙ pk) (get_or x.ins j 0) j (ap (place_of (get_or x.ins j 0)) ins ∙ pj) ns mz lt
        where
          placed : {x : Element} → In x t → (k : ℕ) → k < length x.ins → place_of (get_or x.ins k 0) x.ins ≡ some k
          placed {x} l k hk =
              let v = get_or x.ins k 0 in
              let pl = in_place v x.ins (in-at 0 x.ins k hk) in
              let same-k : pl.0 ≡ k =
              S.proper.none-twice.once x l pl.0 k (place-below v x.ins pl.0 pl.1) hk (place-tells v x.ins pl.0 pl.1) in
              pl.1 ∙ ap some same-k
