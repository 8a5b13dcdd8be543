-- The system of a tree: its lines and their components, its actions, and what holds in every composed state that it reaches.
use mathlib.Core.Path.{◌≡◌, refl, sym, ◌∙◌, ap, subst}
use mathlib.Core.Logic.{◌⊎◌, inl, inr}
use mathlib.Core.Option.{some, some_inj}
use mathlib.Core.Bool.{true, false, true≢false}
use mathlib.Core.List.{List, ◌∷◌}
use Prim.Native.Nat.{ℕ, ◌<◌}
use native.Mathlib.Omega.{arith}
use lib.ListN.{length, get_or}
use Rattle.laws.specs.Sets.{◌∈◌}
use Rattle.laws.proofs.SetLaws.{or-in-r}
use Rattle.laws.proofs.TestLaws.{not_so}
use Rattle.answer.specs.Limits.{max_actions}
use Rattle.model.specs.Text.{Kind}
use Rattle.model.specs.Model.{Comp, Model, comp_at, inputs, outputs, urgents, acts}
use Rattle.model.specs.WellFormed.{WellFormed}
use Rattle.iosa.specs.Automaton.{alphabet, auto_of, Stable, Reachable, at-start, by_row, Conforming, Joinable}
use Rattle.iosa.specs.Product.{product, state_of, Within}
use Rattle.iosa.specs.Parts.{GoAll}
use Rattle.iosa.specs.Start.{start_all}
use Rattle.iosa.proofs.Settling.Each.{all-each}
use Rattle.iosa.proofs.Settling.Parts.{go-row, row-parts, within-length, label-parts, parts-label, action-parts}
use Rattle.iosa.proofs.Settling.ProductOfMany.{joinable-pairwise, wells, system-own}
use Rattle.iosa.proofs.Settling.Moves.{go-within}
use Rattle.iosa.proofs.Settling.UrgentOutputs.{urgent-everywhere}
use Rattle.iosa.proofs.Settling.Start.{start-at, start-in-range, start-of-the-product}
use Rattle.iosa.proofs.Settling.Steps.{state-is-one-list}
use Rattle.iosa.proofs.Reaching.Keeps.{reached-within, stable-parts}
use Rattle.iosa.proofs.Reaching.Refused19.{part-at}
use Rattle.triggering.specs.Triggering.{part, NoOpenInput}
use Rattle.triggering.proofs.Known.{On, AllLed, go-at}
use Rattle.triggering.proofs.WhereReached.{Known, any_at, at-any, row-keeps-known, reached-known}
use Rattle.trees.specs.Module.{comp_by, Sound}
use Rattle.trees.specs.Tree.{Sort, be-sort, pand-sort, Element, Tree, Signal, fl, up, f as told-f, u as told-u, r as told-r, Meaning, meaning_of}
use Rattle.trees.specs.Modules.{be_kind, be_role, be_module, pand_module, module_for, tree_model}
use Rattle.trees.specs.Conditions.{Proper}
use Rattle.trees.specs.ReadTree.{InLimits}
use Rattle.trees.specs.TreeFaults.{Drawn, AllKnown}
use Rattle.trees.proofs.Owners.{is_urgent, urgent_signal, has_part}
use Rattle.trees.proofs.Accepted.{Good, in-alphabet, in-urgents, urgent-in, every-component-conforms, every-two-are-compatible}
use Rattle.trees.proofs.TreeAccepted.{good, model-many, tree-well-formed}
use Rattle.treetheory.specs.AsDrawn.{down_in, down_at, mending_in, mending_at, AtRest}
use Rattle.treetheory.proofs.Colours.{signal-at, Tame, Clear, led-at-peace}
use Rattle.treetheory.proofs.TreePasses.{tame-at}
use Rattle.treetheory.proofs.Owned.{put-out, tree-closed}
use Rattle.treetheory.proofs.Standing.{line_at, line-in, sound-line}
use Rattle.treetheory.proofs.Telling.{told_in}
use Rattle.treetheory.proofs.Lawful.{Lawful, lawful, resting, be-moved}
use Rattle.treetheory.proofs.Sane.{Sane, gate-apart, start-sane, step-sane, look_at_lem, sane-at-rest}
use Rattle.treetheory.proofs.Roles.{Moved}
use Rattle.treetheory.proofs.TellingBasic.{be_go}

-- the tree of a text that is answered with a model, and its components
pub record Grown : Type 0 where
  pub tree : Tree
  pub drawn : Drawn tree
  pub known : AllKnown tree
  pub proper : Proper tree
  pub limits : InLimits tree
  pub first : Comp
  pub others : List Comp
  pub model : tree_model tree ≡ first ∷ others

module _ (S : Grown) where
  abbrev pub t : Tree
  t = S.tree

  abbrev pub c : Comp
  c = S.first

  abbrev pub cs : List Comp
  cs = S.others

  abbrev pub m : Model
  m = c ∷ cs

  pub g : Good t
  g = good t S.drawn S.proper S.limits

  pub well : WellFormed m
  well = subst WellFormed S.model (tree-well-formed t S.drawn S.proper S.limits)

  pub conf : Conforming m
  conf = subst Conforming S.model (every-component-conforms t g)

  pub join : Joinable m
  join = subst Joinable S.model (every-two-are-compatible t g)

  pub many : length m ≡ length t
  many = ap length (sym S.model) ∙ model-many t

  pub inside : (i : ℕ) → i < length t → i < length m
  inside i h = let w = many in omega (arith, w)

  -- the component of a line
  pub comp-is : (i : ℕ) → i < length t
      → (n : ℕ) × (comp_at m i ≡ comp_by (module_for (line_at t i).sort t n (line_at t i))) × Sound (module_for (line_at t i).sort t n (line_at t i))
  comp-is i h = let k = sound-line t g i h in (k.0, ap (λ x. comp_at x i) (sym S.model) ∙ k.1, k.2)

  -- ---- an action and its meaning
  pub meant : (a i : ℕ) → i < length m → a ∈ acts (comp_at m i) → (y : Meaning) × (meaning_of t a ≡ some y) × (a < max_actions)
  meant a i h k =
      let w = many in
      let q = comp-is i (omega (arith, w)) in
      let x = in-alphabet (module_for (line_at t i).sort t q.0 (line_at t i)) a (rw q.1 at k) in
      let y = has_part t q.0 (line_at t i) a x.0 x.1 in
      (y.x, y.means, x.2)

  pub meaning : (a : ℕ) → a ∈ alphabet (product c cs) → (y : Meaning) × (meaning_of t a ≡ some y) × (a < max_actions)
  meaning a h = let x = any_at (λ k. a ∈ acts k) m (action-parts c cs a h) in meant a x.0 x.1 x.2

  pub everywhere : (a : ℕ) → a ∈ (product c cs).urgent → (i : ℕ) → i < length m → a ∈ acts (comp_at m i) → a ∈ urgents (comp_at m i)
  everywhere a u =
      all-each (λ k. a ∈ acts k → a ∈ urgents k) m
      (urgent-everywhere m a (joinable-pairwise m join) (label-parts (λ A. A.urgent) (λ A B. refl) cs (auto_of c) a u))

  -- an urgent action that is taken was enabled
  pub taken : {a C R : ℕ} {s z : List ℕ} {y : Meaning} → meaning_of t a ≡ some y → a < max_actions → a ∈ (product c cs).urgent → GoAll a m s C R z → On m s a
  taken {a} {z = z} {y = y} means ha u go =
      let o = subst (λ k. (j : ℕ) × (j < length k) × (a ∈ outputs (comp_at k j))) S.model (put-out t a y means ha) in
      let i = o.0 in
      let k = or-in-r (inputs (comp_at m i)) (outputs (comp_at m i)) a o.2 in
      let x = go-at go i o.1 in
      record {
        index = i;
        inside = o.1;
        enabled = record {
          guard = x.0;
          resets = x.1;
          target = get_or z i 0;
          row = record { output = o.2; urgent = everywhere a u i o.1 k; row = go-row (part m i) k x.2 };
        };
      }

  pub tame : (i : ℕ) → i < length m → Tame t (part m i)
  tame = subst (λ k. (i : ℕ) → i < length k → Tame t (part k i)) S.model (tame-at t g)

  -- what is enabled in a part is at peace with what is taken
  pub clear : {a C R : ℕ} {s z : List ℕ} {y : Meaning} → meaning_of t a ≡ some y → a < max_actions
      → (a ∈ (product c cs).urgent) ⊎ Stable (product c cs) (state_of c cs s)
      → Within m s → AllLed m s → GoAll a m s C R z → (i : ℕ) → i < length m → Clear t (part m i) (get_or s i 0) y.signal
  clear {a} {s = s} {y = y} means ha (inl u) w led go i h = record {
    peace = λ {b} n.
        let q = led-at-peace t m tame (led a b (taken means ha u go) (record { index = i; inside = h; enabled = n })) in
        let e : q.left ≡ y.signal = some_inj.0 (sym q.of_left ∙ signal-at t a means) in
        (q.right, q.of_right, rw e at q.peaceful);
  }
  clear {s = s} means ha (inr st) w led go i h = record {
    peace = λ n. absurd ((part-at (λ k x. Stable (auto_of k) x) m s (stable-parts c cs well conf join s w st) i h).rests n.row);
  }

  -- ---- every step at every line
  pub laws : {a C R : ℕ} {s z : List ℕ} {y : Meaning} → meaning_of t a ≡ some y → a < max_actions
      → (a ∈ (product c cs).urgent) ⊎ Stable (product c cs) (state_of c cs s)
      → Within m s → AllLed m s → GoAll a m s C R z → Sane t s → (i : ℕ) → i < length t → Lawful (line_at t i).sort (line_at t i) y (get_or s i 0) (get_or z i 0)
  laws {a} {s = s} {z = z} {y = y} means ha way w led go ok i h =
      let e = line_at t i in
      let k = comp-is i h in
      let x = go-at go i (inside i h) in
      let below = part-at (λ k x. x < k.states) m s w i (inside i h) in
      lawful t g k.0 e (line-in t i h) (get_or s i 0) e.sort refl k.2 (rw k.1 at below)
      (gate-apart t S.drawn S.proper S.known g.ascends e (line-in t i h)) means ha
      (rw k.1 at x.2) (ok.fine i h) (rw k.1 at (clear means ha way w led go i (inside i h)))

  -- ---- every composed state that is reached
  pub record Held (y : (product c cs).State) : Type 0 where
    pub knows : Known c cs y
    pub sane : Sane t knows.list

  pub range : {y : (product c cs).State} (n : Known c cs y) → Within m n.list
  range n = reached-within m n.list (wells m well) n.parts

  pub one_list : {y : (product c cs).State} (n : Known c cs y) (s : List ℕ) → Within m s → y ≡ state_of c cs s → n.list ≡ s
  one_list n s w e = state-is-one-list c cs n.list s (within-length m n.list (range n)) (within-length m s w) (sym n.state ∙ e)

  pub closed : NoOpenInput m
  closed = subst NoOpenInput S.model (tree-closed t)

  pub start-zero : (i : ℕ) → i < length t → get_or (start_all m) i 0 ≡ 0
  unfolding comp_by
  start-zero i h = start-at m i ∙ ap (λ (k : Comp). k.start) (comp-is i h).1

  pub held_start : Held (product c cs).start
  held_start =
      let n = reached-known c cs well conf join closed at-start in
      let w = start-in-range m well in
      let e = one_list n (start_all m) w (sym (start-of-the-product c cs).0) in
      record {
        knows = n;
        sane = rw e (start-sane t S.drawn S.proper S.known g.ascends (start_all m) (within-length m (start_all m) w ∙ many) start-zero);
      }

  pub held-row : (C a R : ℕ) (y z : (product c cs).State) → (a ∈ (product c cs).urgent) ⊎ Stable (product c cs) y → (product c cs).Row y C a R z → Held y → Held z
  held-row C a R y z way row h =
      let n = h.knows in
      let w = range n in
      let k = ((system-own c cs well).rows row).action in
      let q = row-parts c cs a {C = C} {R = R} n.list z (within-length m n.list w) k (rw n.state at row) in
      let v = (go-within m a (wells m well) q.1).1 in
      let o = row-keeps-known c cs well conf join closed C a R y z way row n in
      let e = one_list o q.0 v q.2 in
      let x = meaning a k in
      record {
        knows = o;
        sane = rw e (step-sane t S.drawn S.proper S.known g.ascends x.0 n.list q.0 h.sane (within-length m q.0 v ∙ many)
            (laws x.1 x.2 (rw n.state at way) w n.led q.1 h.sane));
      }

  pub held : {y : (product c cs).State} → Reachable (product c cs) y → Held y
  held at-start = held_start
  held (by_row {s = y} {t = z} {C = C} {a = a} {R = R} r way row) = held-row C a R y z way row (held r)

  -- where it rests, every line does
  pub told-is-down : (s : List ℕ) → Within m s → Sane t s → Stable (product c cs) (state_of c cs s) → (i : ℕ) → i < length t
      → told_in (line_at t i).sort (get_or s i 0) ≡ down_in (line_at t i).sort (get_or s i 0)
  told-is-down s w ok st i k =
      let q = comp-is i k in
      let below = part-at (λ k x. x < k.states) m s w i (inside i k) in
      let calm = part-at (λ k x. Stable (auto_of k) x) m s (stable-parts c cs well conf join s w st) i (inside i k) in
      resting t g q.0 (line_at t i) (line-in t i k) (get_or s i 0) (line_at t i).sort refl q.2 (rw q.1 at below) (ok.fine i k) (rw q.1 at calm)

  pub at_rest : (s : List ℕ) → Within m s → Reachable (product c cs) (state_of c cs s) → Stable (product c cs) (state_of c cs s) → AtRest t s
  at_rest s w r st =
      let h = held r in
      let e = one_list h.knows s w refl in
      let ok : Sane t s = rw e at h.sane in
      sane-at-rest t S.drawn S.proper S.known g.ascends s ok (told-is-down s w ok st)

  -- ---- an instant
  pub pand-line : (i : ℕ) → i < length t → (line_at t i).sort ≡ pand-sort → (comp_at m i ≡ comp_by (pand_module t (line_at t i))) × Sound (pand_module t (line_at t i))
  pand-line i h w =
      let q = comp-is i h in
      (q.1 ∙ ap (λ k. comp_by (module_for k t q.0 (line_at t i))) w, subst (λ k. Sound (module_for k t q.0 (line_at t i))) w q.2)

  pub be-line : (i : ℕ) → i < length t → (line_at t i).sort ≡ be-sort
      → (n : ℕ) × (comp_at m i ≡ comp_by (be_module t n (line_at t i))) × Sound (be_module t n (line_at t i))
  be-line i h w =
      let q = comp-is i h in
      (q.0, q.1 ∙ ap (λ k. comp_by (module_for k t q.0 (line_at t i))) w, subst (λ k. Sound (module_for k t q.0 (line_at t i))) w q.2)

  pub be-at : {a C R : ℕ} {s z : List ℕ} {y : Meaning} → meaning_of t a ≡ some y → a < max_actions → GoAll a m s C R z → (i : ℕ) → i < length t
      → (line_at t i).sort ≡ be-sort
      → (n : ℕ) × Moved (be_role (line_at t i)) be_kind 9 (be_go n) y (get_or s i 0) (get_or z i 0)
  be-at {s = s} means ha go i h w =
      let k = be-line i h w in
      let x = go-at go i (inside i h) in
      (k.0, be-moved t g k.0 (line_at t i) (line-in t i h) (get_or s i 0) w k.2 means ha (rw k.1 at x.2))

  pub not-urgent-part : (a : ℕ) → (a ∈ (product c cs).urgent → ⊥) → (i : ℕ) → i < length m → a ∈ urgents (comp_at m i) → ⊥
  not-urgent-part a calm i h u = calm (parts-label (λ A. A.urgent) (λ A B. refl) cs (auto_of c) a (at-any (λ k. a ∈ urgents k) m i h u))

  -- ---- what the clock gave
  pub calm-signal : (k : Signal) → urgent_signal k ≡ false → (k ≡ fl) ⊎ (k ≡ up)
  calm-signal fl h = inl refl
  calm-signal up h = inr refl
  calm-signal told-f h = absurd (true≢false h)
  calm-signal told-u h = absurd (true≢false h)
  calm-signal told-r h = absurd (true≢false h)

  -- an action that some module has and the system does not call urgent
  pub calm-at : (a i : ℕ) → i < length m → (n : ℕ) (e : Element) → comp_at m i ≡ comp_by (module_for e.sort t n e) → (a ∈ (product c cs).urgent → ⊥)
      → {y : Meaning} → meaning_of t a ≡ some y
      → (k : Kind) → (module_for e.sort t n e).kind a ≡ some k → a < max_actions → (y.signal ≡ fl) ⊎ (y.signal ≡ up)
  calm-at a i h n e eqc calm {y} means k ek ha =
      let has-y = has_part t n e a k ek in
      let same-y : has-y.x ≡ y = some_inj.0 (sym has-y.means ∙ means) in
      let ur : is_urgent k ≡ urgent_signal y.signal = has-y.part.urgency ∙ ap (λ (x : Meaning). urgent_signal x.signal) same-y in
      calm-signal y.signal
      (not_so (urgent_signal y.signal) (λ z. not-urgent-part a calm i h (rw eqc (urgent-in (module_for e.sort t n e) a k ha ek (ur ∙ z)))))

  pub calm-meaning : (a : ℕ) → a ∈ alphabet (product c cs) → (a ∈ (product c cs).urgent → ⊥) → {y : Meaning} → meaning_of t a ≡ some y
      → (y.signal ≡ fl) ⊎ (y.signal ≡ up)
  calm-meaning a h calm means =
      let x = any_at (λ k. a ∈ acts k) m (action-parts c cs a h) in
      let w = many in
      let q = comp-is x.0 (omega (arith, x.1, w)) in
      let e = line_at t x.0 in
      let al = in-alphabet (module_for e.sort t q.0 e) a (rw q.1 at x.2) in
      calm-at a x.0 x.1 q.0 e q.1 calm means al.0 al.1 al.2

  -- ---- and what is so at its end
  pub down_is : (s : List ℕ) → length s ≡ length t → (j : ℕ) → j < length t → {q : Sort} → (line_at t j).sort ≡ q
      → down_at t s (line_at t j).number ≡ down_in q (get_or s j 0)
  unfolding down_at
  down_is s l j h w = look_at_lem t S.drawn S.proper S.known g.ascends false down_in s l j h (line_at t j) refl ∙ ap (λ q. down_in q (get_or s j 0)) w

  -- ---- boxes
  pub mend-is : (s : List ℕ) → length s ≡ length t → (j : ℕ) → j < length t → {q : Sort} → (line_at t j).sort ≡ q
      → mending_at t s (line_at t j).number ≡ mending_in q (get_or s j 0)
  unfolding mending_at
  mend-is s l j h w = look_at_lem t S.drawn S.proper S.known g.ascends false mending_in s l j h (line_at t j) refl ∙ ap (λ q. mending_in q (get_or s j 0)) w

  pub long : (s : List ℕ) → Within m s → length s ≡ length t
  long s w = within-length m s w ∙ many

  pub urgent-at : (a i : ℕ) → i < length m → (n : ℕ) (e : Element) → comp_at m i ≡ comp_by (module_for e.sort t n e) → a ∈ urgents (comp_at m i) → {y : Meaning}
      → meaning_of t a ≡ some y
      → urgent_signal y.signal ≡ true
  urgent-at a i h n e eqc ur {y} means =
      let k = in-urgents (module_for e.sort t n e) a (rw eqc at ur) in
      let has-y = has_part t n e a k.0 k.1 in
      let same-y : has-y.x ≡ y = some_inj.0 (sym has-y.means ∙ means) in
      sym (has-y.part.urgency ∙ ap (λ (x : Meaning). urgent_signal x.signal) same-y) ∙ k.2

  pub on-urgent : (a : ℕ) {s : List ℕ} → On m s a → {y : Meaning} → meaning_of t a ≡ some y → urgent_signal y.signal ≡ true
  on-urgent a o means =
      let w = many in
      let h = o.inside in
      let q = comp-is o.index (omega (arith, h, w)) in
      urgent-at a o.index h q.0 (line_at t o.index) q.1 o.enabled.row.urgent means
