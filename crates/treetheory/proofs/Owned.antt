-- Every action of a tree is somebody's output: the model is closed (45 never arises).
use mathlib.Core.Path.{◌≡◌, refl, sym, ◌∙◌, ap}
use mathlib.Core.Logic.{⊎_elim}
use mathlib.Core.Option.{Option, none, some}
use mathlib.Core.Bool.{Bool, true, false, false≢true, cond, ◌&&◌, ◌||◌}
use mathlib.Core.List.Memᴰ.{head as here}
use mathlib.Core.List.Memᴰ.{not-nil as in-none}
use mathlib.Core.List.Memᴰ.{tail as there}
use mathlib.Core.List.{List, [], ◌∷◌, Memᴰ as In}
use mathlib.Core.List.Memᴰ.{append_cases}
use Prim.Native.Nat.{ℕ, suc, ◌<◌}
use native.Mathlib.Omega.{arith}
use lib.Dec.{eqb}
use lib.ListN.{length}
use borrow.Author.Tests.{eq-eqb}
use Rattle.laws.specs.Sets.{◌∈◌}
use Rattle.laws.specs.Search.{map_some}
use Rattle.laws.proofs.SetLaws.{or-in-l, or-in-r, or_cases}
use Rattle.laws.proofs.TestLaws.{and-true}
use Rattle.answer.specs.Limits.{max_actions}
use Rattle.model.specs.Text.{Kind, in-kind, out-kind, uin-kind, uout-kind}
use Rattle.model.specs.Model.{comp_at, inputs, outputs}
use Rattle.triggering.specs.Triggering.{NoOpenInput}
use Rattle.trees.specs.Module.{Module, those, is_out, is_uout, comp_by}
use Rattle.trees.specs.Tree.{Sort, be-sort, and-sort, or-sort, pand-sort, rbox-sort, Element, Tree, is_be, is_box, among, boxed, Signal, fl, up, f, u}
use Rattle.trees.specs.Tree.{r, Meaning, signals_of, meant, meanings_from, meanings, meaning_of}
use Rattle.trees.specs.Modules.{of_meaning, GateRole, be_kind, be_role, own-f, own-u, gate_kind, gate_role, ticked, pand_role, BoxRole, box_kind, box_hears}
use Rattle.trees.specs.Modules.{box_role, place_of, clockless, be_module, count_module, pand_module, box_module, module_for, components_from, tree_model}
use Rattle.trees.proofs.Modules.{those-in}
use Rattle.trees.proofs.Numbers.{at-member}
use Rattle.trees.proofs.Owners.{is_output, has_part}
use Rattle.trees.proofs.Accepted.{at_place, in-alphabet}

-- ---- whose signal it is
of-meant : (v : ℕ) (ss : List Signal) {x : Meaning} → In x (meant v ss) → (x.of ≡ v) × In x.signal ss
of-meant v [] m = absurd (in-none m)
of-meant v (s ∷ ss) (here e) = (ap (λ (x : Meaning). x.of) e, here (ap (λ (x : Meaning). x.signal) e))
of-meant v (s ∷ ss) (there m) = let p = of-meant v ss m in (p.0, there p.1)

-- the element whose line gives the number
pub record Named (t : Tree) (x : Meaning) : Type 0 where
  pub element : Element
  pub line : In element t
  pub number : x.of ≡ element.number
  pub signal : In x.signal (signals_of element.sort (boxed t element.number))

named-from : (t : Tree) (es : List Element) {x : Meaning} → In x (meanings_from t es)
    → (e : Element) × In e es × (x.of ≡ e.number) × In x.signal (signals_of e.sort (boxed t e.number))
unfolding meanings_from
named-from t [] m = absurd (in-none m)
named-from t (e ∷ es) m =
    ⊎_elim
    (λ l. let p = of-meant e.number (signals_of e.sort (boxed t e.number)) l in (e, here refl, p.0, p.1))
    (λ l. let p = named-from t es l in (p.0, there p.1, p.2, p.3))
    (append_cases (meant e.number (signals_of e.sort (boxed t e.number))) m)

pub named : (t : Tree) (a : ℕ) {x : Meaning} → meaning_of t a ≡ some x → Named t x
unfolding meaning_of meanings
named t a h = let p = named-from t t (at-member (meanings_from t t) a h) in record { element = p.0; line = p.1; number = p.2; signal = p.3 }

-- ---- an element and its component
pub component-of : (t : Tree) (k : ℕ) (es : List Element) (e : Element) → In e es
    → (j : ℕ) × (j < length (components_from t k es)) × (n : ℕ) × (comp_at (components_from t k es) j ≡ comp_by (module_for e.sort t n e))
unfolding components_from
component-of t k [] e m = absurd (in-none m)
component-of t k (d ∷ es) e (here w) = (0, omega arith, k, ap (λ (x : Element). comp_by (module_for x.sort t k x)) (sym w))
component-of t k (d ∷ es) e (there m) = let p = component-of t (cond (is_be d.sort) (suc k) k) es e m in (suc p.0, omega (arith, p.1), p.2, p.3)

pub output-in : (m : Module) (a : ℕ) (k : Kind) → a < max_actions → m.kind a ≡ some k → is_output k ≡ true → a ∈ outputs (comp_by m)
unfolding comp_by
output-in m a in-kind h w o = absurd (false≢true o)
output-in m a out-kind h w o =
    or-in-l (those (λ a. is_out (m.kind a)) max_actions) (those (λ a. is_uout (m.kind a)) max_actions) a
    (those-in (λ a. is_out (m.kind a)) max_actions a h (ap is_out w))
output-in m a uin-kind h w o = absurd (false≢true o)
output-in m a uout-kind h w o =
    or-in-r (those (λ a. is_out (m.kind a)) max_actions) (those (λ a. is_uout (m.kind a)) max_actions) a
    (those-in (λ a. is_uout (m.kind a)) max_actions a h (ap is_uout w))

pub among-place : (v : ℕ) (xs : List ℕ) → among v xs ≡ true → (i : ℕ) × (place_of v xs ≡ some i)
unfolding among place_of
among-place v [] h = absurd (false≢true h)
among-place v (y ∷ ys) h = go (among-place v ys) (eqb v y) h
  where
    go : (among v ys ≡ true → (i : ℕ) × (place_of v ys ≡ some i)) → (b : Bool) → (b || among v ys) ≡ true
        → (i : ℕ) × ((elim b as (λ _. Option ℕ) [ true ↦ some 0 | false ↦ map_some suc (place_of v ys) ]) ≡ some i)
    go ih true h = (0, refl)
    go ih false h = let p = ih h in (suc p.0, ap (map_some suc) p.1)

-- ---- a gate's own f and u
pub gate-f : (e : Element) (x : Meaning) → x.of ≡ e.number → x.signal ≡ f → gate_role e x ≡ some own-f
unfolding gate_role
gate-f e x w h = rw (eq-eqb x.of e.number w, h)

pub gate-u : (e : Element) (x : Meaning) → x.of ≡ e.number → x.signal ≡ u → gate_role e x ≡ some own-u
unfolding gate_role
gate-u e x w h = rw (eq-eqb x.of e.number w, h)

-- of f and u a PAND thinks as any gate
pub pand-as-gate : (e : Element) (x : Meaning) (s : Signal) → x.signal ≡ s → ticked s ≡ none → pand_role e x ≡ gate_role e x
unfolding pand_role
pand-as-gate e x s h k = ap (λ o. elim o as (λ _. Option GateRole) [ some q ↦ some q | none ↦ gate_role e x ]) (ap ticked h ∙ k)

-- ---- by its own element, or, r, by the box
module _ (t : Tree) (a : ℕ) (x : Meaning) (means : meaning_of t a ≡ some x) where
  -- this element puts it out
  record Puts (e : Element) : Type 0 where
    kind : Kind
    is-kind : (n : ℕ) → (module_for e.sort t n e).kind a ≡ some kind
    output : is_output kind ≡ true

  by-be : (e : Element) → e.sort ≡ be-sort → x.of ≡ e.number → (s : Signal) → x.signal ≡ s → is_output (be_kind s) ≡ true → Puts e
  unfolding be_module be_role
  by-be e q w s h o = record { kind = be_kind s; is-kind = λ n. rw (q, means, eq-eqb x.of e.number w, h); output = o }

  gate-f-or-u : (e : Element) → x.of ≡ e.number → In x.signal (f ∷ u ∷ [])
      → (p : GateRole) × (gate_role e x ≡ some p) × (pand_role e x ≡ some p) × (gate_kind p ≡ uout-kind)
  gate-f-or-u e w (here h) = (own-f, gate-f e x w h, pand-as-gate e x f h refl ∙ gate-f e x w h, refl)
  gate-f-or-u e w (there (here h)) = (own-u, gate-u e x w h, pand-as-gate e x u h refl ∙ gate-u e x w h, refl)
  gate-f-or-u e w (there (there m)) = absurd (in-none m)

  by-gate : (q : Sort) (e : Element) → e.sort ≡ q → is_be q ≡ false → is_box q ≡ false → x.of ≡ e.number → In x.signal (f ∷ u ∷ []) → Puts e
  unfolding count_module pand_module clockless gate_role pand_role
  by-gate be-sort e q b c w m = absurd (false≢true (sym b))
  by-gate and-sort e q b c w m = let p = gate-f-or-u e w m in record { kind = uout-kind; is-kind = λ n. rw (q, means, p.1, p.3); output = refl }
  by-gate or-sort e q b c w m = let p = gate-f-or-u e w m in record { kind = uout-kind; is-kind = λ n. rw (q, means, p.1, p.3); output = refl }
  by-gate pand-sort e q b c w m = let p = gate-f-or-u e w m in record { kind = uout-kind; is-kind = λ n. rw (q, means, p.2, p.3); output = refl }
  by-gate rbox-sort e q b c w m = absurd (false≢true (sym c))

  -- ---- r
  box_of : (es : Tree) (v : ℕ) → boxed es v ≡ true → (d : Element) × In d es × (is_box d.sort ≡ true) × (among v d.ins ≡ true)
  unfolding boxed
  box_of [] v h = absurd (false≢true h)
  box_of (d ∷ es) v h =
      ⊎_elim
      (λ k. let p = and-true (is_box d.sort) (among v d.ins) k in (d, here refl, p.0, p.1))
      (λ k. let p = box_of es v k in (p.0, there p.1, p.2, p.3))
      (or_cases (is_box d.sort && among v d.ins) (boxed es v) h)

  box-orders : (d : Element) → among x.of d.ins ≡ true → x.signal ≡ r → (box_module t d).kind a ≡ some uout-kind
  unfolding box_module clockless box_role
  box-orders d m h =
      let p = among-place x.of d.ins m in
      ap (λ o. map_some box_kind (of_meaning (box_role d) o)) means
      ∙ ap (λ o. map_some box_kind (elim o as (λ _. Option BoxRole) [ none ↦ none | some i ↦ box_hears x.signal i ])) p.1
      ∙ ap (λ s. map_some box_kind (box_hears s p.0)) h

  by-box : (q : Sort) (d : Element) → d.sort ≡ q → is_box q ≡ true → among x.of d.ins ≡ true → x.signal ≡ r → Puts d
  by-box be-sort d q b m h = absurd (false≢true b)
  by-box and-sort d q b m h = absurd (false≢true b)
  by-box or-sort d q b m h = absurd (false≢true b)
  by-box pand-sort d q b m h = absurd (false≢true b)
  by-box rbox-sort d q b m h = record { kind = uout-kind; is-kind = λ n. ap (λ s. (module_for s t n d).kind a) q ∙ box-orders d m h; output = refl }

  abbrev Owner : Type 0
  Owner = (d : Element) × In d t × Puts d

  of-be : (e : Element) → In e t → e.sort ≡ be-sort → x.of ≡ e.number → (b : Bool) → boxed t e.number ≡ b → In x.signal (signals_of be-sort b) → Owner
  of-be e l q w true k (here h) = (e, l, by-be e q w fl h refl)
  of-be e l q w true k (there (here h)) = (e, l, by-be e q w up h refl)
  of-be e l q w true k (there (there (here h))) = (e, l, by-be e q w f h refl)
  of-be e l q w true k (there (there (there (here h)))) = (e, l, by-be e q w u h refl)
  of-be e l q w true k (there (there (there (there (here h))))) =
      let d = box_of t e.number k in (d.0, d.1, by-box d.0.sort d.0 refl d.2 (ap (λ v. among v d.0.ins) w ∙ d.3) h)
  of-be e l q w true k (there (there (there (there (there m))))) = absurd (in-none m)
  of-be e l q w false k (here h) = (e, l, by-be e q w fl h refl)
  of-be e l q w false k (there (here h)) = (e, l, by-be e q w up h refl)
  of-be e l q w false k (there (there (here h))) = (e, l, by-be e q w f h refl)
  of-be e l q w false k (there (there (there (here h)))) = (e, l, by-be e q w u h refl)
  of-be e l q w false k (there (there (there (there m)))) = absurd (in-none m)

  owner_of : (q : Sort) (e : Element) → In e t → e.sort ≡ q → x.of ≡ e.number → In x.signal (signals_of q (boxed t e.number)) → Owner
  owner_of be-sort e l q w m = of-be e l q w (boxed t e.number) refl m
  owner_of and-sort e l q w m = (e, l, by-gate and-sort e q refl refl w m)
  owner_of or-sort e l q w m = (e, l, by-gate or-sort e q refl refl w m)
  owner_of pand-sort e l q w m = (e, l, by-gate pand-sort e q refl refl w m)
  owner_of rbox-sort e l q w m = absurd (in-none m)

  pub put-out : a < max_actions → (j : ℕ) × (j < length (tree_model t)) × (a ∈ outputs (comp_at (tree_model t) j))
  unfolding tree_model
  put-out h =
      let e = named t a means in
      let o = owner_of e.element.sort e.element e.line refl e.number e.signal in
      let p = component-of t 0 t o.0 o.1 in
      (p.0, p.1, rw p.3 (output-in (module_for o.0.sort t p.2 o.0) a o.2.kind h (o.2.is-kind p.2) o.2.output))

-- ---- "every input of a component is an output of some component"
module _ (t : Tree) where
  abbrev Answered : ℕ → Type 0
  Answered a = (j : ℕ) × (j < length (tree_model t)) × (a ∈ outputs (comp_at (tree_model t) j))

  input-put-out : (e : Element) (n a : ℕ) → a ∈ inputs (comp_by (module_for e.sort t n e)) → Answered a
  input-put-out e n a h =
      let m = module_for e.sort t n e in
      let p = in-alphabet m a (or-in-l (inputs (comp_by m)) (outputs (comp_by m)) a h) in
      let x = has_part t n e a p.0 p.1 in
      put-out t a x.x x.means p.2

  pub element-at : (i : ℕ) → i < length (tree_model t) → (e : Element) × (n : ℕ) × In e t × (comp_at (tree_model t) i ≡ comp_by (module_for e.sort t n e))
  unfolding tree_model
  element-at i h = let p = at_place t 0 t i h in (p.e, p.n, p.listed, p.comp)

  pub tree-closed : NoOpenInput (tree_model t)
  tree-closed = record { answered = λ i h a k. let p = element-at i h in input-put-out p.0 p.1 a (rw p.3 at k) }
