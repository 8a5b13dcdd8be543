-- From one rest to the next: what a basic element and a PAND stand as after an instant.
use mathlib.Core.Path.{◌≡◌, refl, sym, ◌∙◌, ap, subst}
use mathlib.Core.Logic.{◌≢◌, ◌⊎◌, inl, inr, ⊎_elim}
use mathlib.Core.Option.{none, some, some_inj}
use mathlib.Core.Bool.{Bool, true, false, true≢false, ◌&&◌, ◌||◌, not}
use mathlib.Core.List.Memᴰ.{head as here}
use mathlib.Core.List.Memᴰ.{not-nil as in-none}
use mathlib.Core.List.Memᴰ.{tail as there}
use mathlib.Core.List.{List, [], ◌∷◌, Memᴰ as In}
use Prim.Native.Nat.{ℕ, ◌<◌}
use native.Mathlib.Omega.{arith}
use lib.ListN.{length, get_or}
use Rattle.laws.specs.Sets.{has, ◌∈◌}
use Rattle.answer.specs.Limits.{max_actions}
use Rattle.model.specs.Model.{Comp, Model, comp_at}
use Rattle.iosa.specs.Automaton.{auto_of, UrgentRow, Stable, Reachable, ReachedIn}
use Rattle.iosa.specs.Product.{product, state_of, Within, Reached, Series, over, next}
use Rattle.iosa.specs.Parts.{Go, goes, sits-out, GoAll}
use Rattle.iosa.proofs.Settling.Parts.{row-parts, within-length}
use Rattle.iosa.proofs.Settling.ProductOfMany.{wells, system-own}
use Rattle.iosa.proofs.Settling.Moves.{go-within}
use Rattle.iosa.proofs.Reaching.Keeps.{stable-parts}
use Rattle.iosa.proofs.Reaching.Refused19.{part-at}
use Rattle.triggering.specs.Triggering.{Enabled, part, Triggers, Woken}
use Rattle.triggering.specs.Test.{uouts_at}
use Rattle.triggering.proofs.Enabling.{uouts-exactly}
use Rattle.triggering.proofs.Known.{On, go-at}
use Rattle.trees.specs.Tree.{Sort, be-sort, and-sort, or-sort, pand-sort, rbox-sort, Element, Tree, boxed, Signal, fl, up, f as told-f, u as told-u}
use Rattle.trees.specs.Tree.{r as told-r, Meaning, signals_of, meaning_of}
use Rattle.trees.specs.Modules.{own-f, own-u, gate_kind, pand_role}
use Rattle.treetheory.specs.AsDrawn.{down_in, down_at, mending_in, mending_at, first_of, second_of, Instant, AfterInstant}
use Rattle.treetheory.proofs.Colours.{signal_at, signal-at, code_of, told_as, Wakes, failure-told, failure-ordered, repair-told, repair-ordered}
use Rattle.treetheory.proofs.Owned.{named}
use Rattle.treetheory.proofs.Standing.{line_at, line-in, in-line}
use Rattle.treetheory.proofs.Telling.{fine_in}
use Rattle.treetheory.proofs.Lawful.{pand-moved, pand-quiet}
use Rattle.treetheory.proofs.Sane.{Sane, pand-flags}
use Rattle.treetheory.proofs.Roles.{Moved}
use Rattle.treetheory.proofs.TellingGates.{pand_go}
use Rattle.treetheory.proofs.Priority.{During, tells, orders, during-urgent, in_instant, first_flag, second_flag, end-at, pand-begins, pand-goes}
use Rattle.treetheory.proofs.Priority.{be-goes, be-fails, be-mends, be-repaired, be-keeps}
use Rattle.treetheory.proofs.Grown.{Grown, g, well, conf, join, inside, meaning, everywhere, taken, tame, Held, range, one_list, held-row}
use Rattle.treetheory.proofs.Grown.{held, told-is-down, pand-line, be-at, not-urgent-part, calm-meaning, down_is, mend-is, long}

module _ (S : Grown) where
  abbrev t : Tree
  t = S.tree

  abbrev c : Comp
  c = S.first

  abbrev cs : List Comp
  cs = S.others

  abbrev m : Model
  m = c ∷ cs

  -- the moves of a line
  pand-at : {a C R : ℕ} {s z : List ℕ} {y : Meaning} → meaning_of t a ≡ some y → a < max_actions → GoAll a m s C R z → (i : ℕ) → i < length t
      → (line_at t i).sort ≡ pand-sort
      → Moved (pand_role (line_at t i)) gate_kind 20 pand_go y (get_or s i 0) (get_or z i 0)
  pand-at {s = s} means ha go i h w =
      let k = pand-line S i h w in
      let x = go-at go i (inside S i h) in
      pand-moved t (g S) 0 (line_at t i) (line-in t i h) (get_or s i 0) w k.1 means ha (rw k.0 at x.2)

  -- a PAND at rest
  pand-still : (s : List ℕ) → Within m s → Stable (product c cs) (state_of c cs s) → (i : ℕ) → i < length t → (line_at t i).sort ≡ pand-sort
      → (get_or s i 0 < 20) × (pand_go (get_or s i 0) own-f ≡ none) × (pand_go (get_or s i 0) own-u ≡ none)
  pand-still s w st i h q =
      let k = pand-line S i h q in
      let below = part-at (λ k x. x < k.states) m s w i (inside S i h) in
      let calm = part-at (λ k x. Stable (auto_of k) x) m s (stable-parts c cs (well S) (conf S) (join S) s w st) i (inside S i h) in
      pand-quiet t (g S) 0 (line_at t i) (line-in t i h) (get_or s i 0) q k.1 (rw k.0 at below) (rw k.0 at calm)

  -- what is enabled, in an instant that began with a failure or with a repair
  abbrev Hued : Bool → List ℕ → Type 0
  Hued b s = (v : ℕ) → On m s v → (k : Signal) × (signal_at t v ≡ some k) × During b k

  -- from rest in s, by the clock's row to o, and on to y
  record Going (b : Bool) (s o : List ℕ) (y : (product c cs).State) : Type 0 where
    holds : Held S y
    hued : Hued b holds.knows.list
    pands : (i : ℕ) → i < length t → (line_at t i).sort ≡ pand-sort → in_instant b (get_or s i 0) (get_or holds.knows.list i 0) ≡ true
    bes : (i : ℕ) → i < length t → (line_at t i).sort ≡ be-sort → down_in be-sort (get_or holds.knows.list i 0) ≡ down_in be-sort (get_or o i 0)

  -- what is enabled after an urgent row was before, or is triggered
  came : {a v i x z C R : ℕ} → a ∈ (product c cs).urgent → (h : i < length m) → Reachable (part m i) x → Go (part m i) a x C R z → Enabled (part m i) z v
      → Enabled (part m i) x v ⊎ Triggers (part m i) a v
  came u h r (sits-out k q) e = inl e
  came {a} {v} {i} {x} {z} {C} {R} u h r (goes k row) e = go (has (uouts_at (comp_at m i) x) v) refl
    where
      go : (o : Bool) → has (uouts_at (comp_at m i) x) v ≡ o → Enabled (part m i) x v ⊎ Triggers (part m i) a v
      go true q = inl ((uouts-exactly (comp_at m i) ((well S).each i h) x v).0 q)
      go false q = inr (record {
        from = x;
        to = z;
        guard = C;
        resets = R;
        reached = r;
        urgent = everywhere S a u i h k;
        row = row;
        enabled = e;
        new = λ ne n. true≢false (sym ((uouts-exactly (comp_at m i) ((well S).each i h) x v).1 n) ∙ q);
      })

  hued-on : {a C R : ℕ} {s z : List ℕ} (b : Bool) → a ∈ (product c cs).urgent → Reached m s → GoAll a m s C R z → On m s a → Hued b s → Hued b z
  hued-on {a} {s = s} b u r go on hue v n =
      let i = n.index in
      ⊎_elim
      (λ e. hue v (record { index = i; inside = n.inside; enabled = e }))
      (λ x. let k = hue a on in (k.0, sym ((tame S i n.inside).keeps x) ∙ k.1, k.2))
      (came u n.inside (part-at ReachedIn m s r i n.inside) (go-at go i n.inside).2 n.enabled)

  going_on : (b : Bool) (s o : List ℕ) → Within m s → Stable (product c cs) (state_of c cs s) → (C a R : ℕ) (y z : (product c cs).State)
      → UrgentRow (product c cs) y C a R z → Going b s o y → Going b s o z
  going_on b s o ws st C a R y z row h =
      let n = h.holds.knows in
      let w = range S n in
      let k = ((system-own c cs (well S)).rows row.row).action in
      let q = row-parts c cs a {C = C} {R = R} n.list z (within-length m n.list w) k (rw n.state at row.row) in
      let v = (go-within m a (wells m (well S)) q.1).1 in
      let held-z = held-row S C a R y z (inl row.urgent) row.row h.holds in
      let e = one_list S held-z.knows q.0 v q.2 in
      let x = meaning S a k in
      let on = taken S x.1 x.2 row.urgent q.1 in
      let c0 = h.hued a on in
      let sig : c0.0 ≡ x.0.signal = some_inj.0 (sym c0.1 ∙ signal-at t a x.1) in
      let now : During b x.0.signal = rw sig at c0.2 in
      record {
        holds = held-z;
        hued = rw e (hued-on b row.urgent n.parts q.1 on h.hued);
        pands =
            λ i hi wi. rw e (pand-goes (line_at t i) b (get_or s i 0) (pand-still s ws st i hi wi).0 x.0 (get_or n.list i 0) (get_or q.0 i 0) now
            (h.pands i hi wi)
            (pand-at x.1 x.2 q.1 i hi wi));
        bes = λ i hi wi. rw e (
            let mv = be-at S x.1 x.2 q.1 i hi wi in
            be-goes (line_at t i) mv.0 x.0 (get_or n.list i 0) (get_or q.0 i 0) (during-urgent b now) mv.1 ∙ h.bes i hi wi);
      }

  going-series : (b : Bool) (s o : List ℕ) → Within m s → Stable (product c cs) (state_of c cs s) → {y z : (product c cs).State} {l : List ℕ} {Q : ℕ}
      → Series (product c cs) y l Q z → Going b s o y → Going b s o z
  going-series b s o ws st over h = h
  going-series b s o ws st (next {x = x} {y = y} {C = C} {a = a} {R = R} row more) h = going-series b s o ws st more (going_on b s o ws st C a R x y row h)

  -- ---- its first row
  abbrev failing : Signal → Bool
  failing fl = true
  failing up = false
  failing told-f = false
  failing told-u = false
  failing told-r = false

  wakes-during : {e k : Signal} → Wakes e k → During (failing e) k
  wakes-during (failure-told i j) = tells (j ∙ ap (λ q. told_as (failing q)) (sym i))
  wakes-during (failure-ordered i j) = orders j
  wakes-during (repair-told i j) = tells (j ∙ ap (λ q. told_as (failing q)) (sym i))
  wakes-during (repair-ordered i j) = orders j

  woken : {a v x z C R : ℕ} (i : ℕ) → (a ∈ (part m i).urgent → ⊥) → Reachable (part m i) x → Stable (part m i) x → Go (part m i) a x C R z
      → Enabled (part m i) z v → Woken (part m i) a z
  woken i calm r st (sits-out k q) e = absurd (st.rests e.row)
  woken {x = x} {C = C} {R = R} i calm r st (goes k row) e = record { from = x; guard = C; resets = R; reached = r; stable = st; calm = calm; row = row }

  record Begun (y : Meaning) (s : List ℕ) (z : (product c cs).State) : Type 0 where
    after : List ℕ
    on : Going (failing y.signal) s after z
    failed : (i : ℕ) → i < length t → (line_at t i).sort ≡ be-sort → y.of ≡ (line_at t i).number → y.signal ≡ fl → down_in be-sort (get_or after i 0) ≡ true
    mended : (i : ℕ) → i < length t → (line_at t i).sort ≡ be-sort → y.of ≡ (line_at t i).number → y.signal ≡ up → down_in be-sort (get_or after i 0) ≡ false
    repaired : (i : ℕ) → i < length t → (line_at t i).sort ≡ be-sort → y.of ≡ (line_at t i).number → y.signal ≡ up → mending_in be-sort (get_or s i 0) ≡ true
    kept : (i : ℕ) → i < length t → (line_at t i).sort ≡ be-sort → y.of ≢ (line_at t i).number → down_in be-sort (get_or after i 0) ≡ down_in be-sort (get_or s i 0)

  begin : (y : Meaning) (C a R : ℕ) (s : List ℕ) (z : (product c cs).State) → Within m s → Reachable (product c cs) (state_of c cs s)
      → Stable (product c cs) (state_of c cs s)
      → (a ∈ (product c cs).urgent → ⊥) → (y.signal ≡ fl) ⊎ (y.signal ≡ up) → meaning_of t a ≡ some y → a < max_actions
      → (product c cs).Row (state_of c cs s) C a R z → Begun y s z
  begin y C a R s z w reach st calm cause means ha row =
      let h = held S reach in
      let e = one_list S h.knows s w refl in
      let ok : Sane t s = rw e at h.sane in
      let k = ((system-own c cs (well S)).rows row).action in
      let q = row-parts c cs a {C = C} {R = R} s z (within-length m s w) k row in
      let v = (go-within m a (wells m (well S)) q.1).1 in
      let held-z = held-row S C a R (state_of c cs s) z (inr st) row h in
      let ez = one_list S held-z.knows q.0 v q.2 in
      let rests = part-at (λ k x. Stable (auto_of k) x) m s (stable-parts c cs (well S) (conf S) (join S) s w st) in
      let reached = part-at ReachedIn m s (rw e at h.knows.parts) in
      let hue : Hued (failing y.signal) q.0 = (λ v n.
      let i = n.index in
      let wk = woken i (not-urgent-part S a calm i n.inside) (reached i n.inside) (rests i n.inside) (go-at q.1 i n.inside).2 n.enabled in
      let o = (tame S i n.inside).wakes wk n.enabled in
      let c0 : o.cause ≡ y.signal = some_inj.0 (sym o.of-cause ∙ signal-at t a means) in
      (o.effect, o.of-effect, rw c0 at (wakes-during o.wakes))) in
      record {
        after = q.0;
        on = record {
          holds = held-z;
          hued = rw ez hue;
          pands = λ i hi wi. rw ez (
              let p0 = pand-still s w st i hi wi in
              let fi = subst (λ k. fine_in k (get_or s i 0) ≡ true) wi (ok.fine i hi) in
              pand-begins (line_at t i) (failing y.signal) (get_or s i 0) p0.0 y (get_or q.0 i 0) cause fi p0.1 p0.2
              (pand-at means ha q.1 i hi wi));
          bes = λ i hi wi. rw ez;
        };
        failed = λ i hi wi of sig. let mv = be-at S means ha q.1 i hi wi in be-fails (line_at t i) mv.0 y (get_or s i 0) (get_or q.0 i 0) of sig mv.1;
        mended = λ i hi wi of sig. let mv = be-at S means ha q.1 i hi wi in be-mends (line_at t i) mv.0 y (get_or s i 0) (get_or q.0 i 0) of sig mv.1;
        repaired =
            λ i hi wi of sig. let mv = be-at S means ha q.1 i hi wi in be-repaired (line_at t i) mv.0 y (get_or s i 0) (get_or q.0 i 0) of sig
            mv.1;
        kept = λ i hi wi ne. let mv = be-at S means ha q.1 i hi wi in be-keeps (line_at t i) mv.0 y (get_or s i 0) (get_or q.0 i 0) ne mv.1;
      }

  -- only a basic element has a clock
  no-clock : (k : Signal) → (k ≡ fl) ⊎ (k ≡ up) → In k (told-f ∷ told-u ∷ []) → ⊥
  no-clock k (inl w) (here h) = omega (arith, ap code_of (sym w ∙ h))
  no-clock k (inr w) (here h) = omega (arith, ap code_of (sym w ∙ h))
  no-clock k (inl w) (there (here h)) = omega (arith, ap code_of (sym w ∙ h))
  no-clock k (inr w) (there (here h)) = omega (arith, ap code_of (sym w ∙ h))
  no-clock k w (there (there i)) = in-none i

  be-of : (q : Sort) (b : Bool) (k : Signal) → (k ≡ fl) ⊎ (k ≡ up) → In k (signals_of q b) → q ≡ be-sort
  be-of be-sort b k w i = refl
  be-of and-sort b k w i = absurd (no-clock k w i)
  be-of or-sort b k w i = absurd (no-clock k w i)
  be-of pand-sort b k w i = absurd (no-clock k w i)
  be-of rbox-sort b k w i = absurd (in-none i)

  clock-line : (a : ℕ) {y : Meaning} → (y.signal ≡ fl) ⊎ (y.signal ≡ up) → meaning_of t a ≡ some y
      → (i : ℕ) × (i < length t) × ((line_at t i).sort ≡ be-sort) × (y.of ≡ (line_at t i).number)
  clock-line a {y} cause means =
      let n = named t a means in
      let i = in-line t n.element n.line in (
        i.0,
        i.1,
        ap (λ (k : Element). k.sort) i.2 ∙ be-of n.element.sort (boxed t n.element.number) y.signal cause n.signal,
        n.number ∙ ap (λ (k : Element). k.number) (sym i.2),
      )

  record Ended (y : Meaning) (s z : List ℕ) : Type 0 where
    began : List ℕ
    before : Sane t s
    later : Sane t z
    pands : (j : ℕ) → j < length t → (line_at t j).sort ≡ pand-sort → in_instant (failing y.signal) (get_or s j 0) (get_or z j 0) ≡ true
    bes : (j : ℕ) → j < length t → (line_at t j).sort ≡ be-sort → down_in be-sort (get_or z j 0) ≡ down_in be-sort (get_or began j 0)
    failed : (j : ℕ) → j < length t → (line_at t j).sort ≡ be-sort → y.of ≡ (line_at t j).number → y.signal ≡ fl → down_in be-sort (get_or began j 0) ≡ true
    mended : (j : ℕ) → j < length t → (line_at t j).sort ≡ be-sort → y.of ≡ (line_at t j).number → y.signal ≡ up → down_in be-sort (get_or began j 0) ≡ false
    repaired : (j : ℕ) → j < length t → (line_at t j).sort ≡ be-sort → y.of ≡ (line_at t j).number → y.signal ≡ up → mending_in be-sort (get_or s j 0) ≡ true
    kept : (j : ℕ) → j < length t → (line_at t j).sort ≡ be-sort → y.of ≢ (line_at t j).number → down_in be-sort (get_or began j 0) ≡ down_in be-sort (get_or s j 0)

  ended : (y : Meaning) (a : ℕ) (s z : List ℕ) (i : Instant c cs a s z) → (y.signal ≡ fl) ⊎ (y.signal ≡ up) → meaning_of t a ≡ some y → a < max_actions
      → Ended y s z
  ended y a s z i cause means ha =
      let b = begin y i.guard a i.resets s i.middle i.from i.reached i.rested i.calm cause means ha i.row in
      let h = going-series (failing y.signal) s b.after i.from i.rested i.told b.on in
      let ez = one_list S h.holds.knows z i.to refl in
      let k = held S i.reached in
      let es = one_list S k.knows s i.from refl in
      record {
        began = b.after;
        before = rw es at k.sane;
        later = rw ez at h.holds.sane;
        pands = λ j hj wj. rw ez at (h.pands j hj wj);
        bes = λ j hj wj. rw ez at (h.bes j hj wj);
        failed = b.failed;
        mended = b.mended;
        repaired = b.repaired;
        kept = b.kept;
      }

  module _ (y : Meaning) (a : ℕ) (s z : List ℕ) (i : Instant c cs a s z) (x : Ended y s z) where
    be-down : (j : ℕ) → j < length t → (line_at t j).sort ≡ be-sort → down_at t z (line_at t j).number ≡ down_in be-sort (get_or x.began j 0)
    be-down j hj wj = down_is S z x.later.long j hj wj ∙ x.bes j hj wj

    other : (j : ℕ) → j < length t → (line_at t j).sort ≡ be-sort → y.of ≢ (line_at t j).number → down_at t z (line_at t j).number ≡ down_at t s (line_at t j).number
    other j hj wj ne = be-down j hj wj ∙ x.kept j hj wj ne ∙ sym (down_is S s x.before.long j hj wj)

    prior : (j : ℕ) → j < length t → (line_at t j).sort ≡ pand-sort
        → down_at t z (line_at t j).number
        ≡ (down_at t z (second_of (line_at t j)) && (down_at t s (line_at t j).number || (not (down_at t s (second_of (line_at t j))) && down_at t z
        (first_of (line_at t j)))))
    prior j hj wj =
        let e = line_at t j in
        let sj = get_or s j 0 in
        let zj = get_or z j 0 in
        let qs = pand-still s i.from i.rested j hj wj in
        let qz = pand-still z i.to i.rests j hj wj in
        let fs = subst (λ k. fine_in k (get_or s j 0) ≡ true) wj (x.before.fine j hj) in
        let fz = subst (λ k. fine_in k (get_or z j 0) ≡ true) wj (x.later.fine j hj) in
        let us = pand-flags t S.drawn S.proper S.known (g S).ascends s x.before (told-is-down S s i.from x.before i.rested) j hj wj in
        let uz = pand-flags t S.drawn S.proper S.known (g S).ascends z x.later (told-is-down S z i.to x.later i.rests) j hj wj in
        down_is S z x.later.long j hj wj
        ∙ end-at (failing y.signal) sj qs.0 zj qz.0 (x.pands j hj wj) fs qs.1 qs.2 fz qz.1 qz.2
        ∙ ap (λ k. k && (down_in pand-sort sj || (not (second_flag sj) && first_flag zj))) uz.1
        ∙ ap (λ k. down_at t z (second_of e) && (k || (not (second_flag sj) && first_flag zj))) (sym (down_is S s x.before.long j hj wj))
        ∙ ap (λ k. down_at t z (second_of e) && (down_at t s e.number || (not k && first_flag zj))) us.1
        ∙ ap (λ k. down_at t z (second_of e) && (down_at t s e.number || (not (down_at t s (second_of e)) && k))) uz.0

    after-instant : (y.signal ≡ fl) ⊎ (y.signal ≡ up) → meaning_of t a ≡ some y → AfterInstant t y s z
    after-instant cause means =
        let cl = clock-line a cause means in
        record {
          cause = cause;
          failed = λ sig. ap (down_at t z) cl.3 ∙ be-down cl.0 cl.1 cl.2 ∙ x.failed cl.0 cl.1 cl.2 cl.3 sig;
          mended = λ sig. ap (down_at t z) cl.3 ∙ be-down cl.0 cl.1 cl.2 ∙ x.mended cl.0 cl.1 cl.2 cl.3 sig;
          repaired =
              λ sig. ap (mending_at t s) cl.3 ∙ mend-is S s x.before.long cl.0 cl.1 cl.2 ∙ x.repaired cl.0 cl.1 cl.2 cl.3
              sig;
          others = λ e l w ne.
              let j = in-line t e l in
              let n = ap (λ (k : Element). k.number) j.2 in
              let q = other j.0 j.1 (ap (λ (k : Element). k.sort) j.2 ∙ w) (λ v. ne (v ∙ n)) in
              ap (down_at t z) (sym n) ∙ q ∙ ap (down_at t s) n;
          priority = λ e l w.
              let j = in-line t e l in
              let q = prior j.0 j.1 (ap (λ (k : Element). k.sort) j.2 ∙ w) in
              subst (λ k. down_at t z k.number ≡ (down_at t z (second_of k)
              && (down_at t s k.number || (not (down_at t s (second_of k)) && down_at t z (first_of k))))) j.2 q;
        }

  pub instant : (a : ℕ) (s z : List ℕ) → Instant c cs a s z → (y : Meaning) × (meaning_of t a ≡ some y) × AfterInstant t y s z
  instant a s z i =
      let k = ((system-own c cs (well S)).rows i.row).action in
      let y = meaning S a k in
      let cause = calm-meaning S a k i.calm y.1 in
      (y.0, y.1, after-instant y.0 a s z i (ended y.0 a s z i cause y.1 y.2) cause y.1)
