-- The model of a tree is accepted: every component meets (a) to (f), and every two are compatible.
use mathlib.Core.Path.{◌≡◌, refl, sym, ◌∙◌, ap}
use mathlib.Core.Logic.{⊎_elim}
use mathlib.Core.Option.{Option, none, some, some_inj}
use mathlib.Core.Bool.{Bool, true, false, false≢true, cond}
use mathlib.Core.List.Memᴰ.{head as here}
use mathlib.Core.List.Memᴰ.{tail as there}
use mathlib.Core.List.{List, [], ◌∷◌, Memᴰ as In}
use Prim.Native.Nat.{ℕ, zero, suc, ◌+◌, ◌*◌, ◌≤◌, ◌<◌}
use native.Mathlib.Omega.{arith}
use lib.ListN.{length}
use Rattle.laws.specs.Sets.{only, ◌∈◌}
use Rattle.laws.proofs.SetLaws.{in-or, or-in-l, or-in-r, one_in, none_in}
use Rattle.laws.proofs.ListLaws.{Pairwise}
use Rattle.answer.specs.Limits.{max_actions, max_clocks}
use Rattle.model.specs.Text.{Kind, in-kind, out-kind, uin-kind, uout-kind}
use Rattle.model.specs.Model.{comp_at, inputs, outputs, urgents}
use Rattle.model.specs.WellFormed.{WellComp}
use Rattle.iosa.specs.Automaton.{auto_of, alphabet, Compatible, Conforming, Joinable}
use Rattle.trees.specs.Module.{Module, those, is_in, is_out, is_uin, is_uout, comp_by, Sound}
use Rattle.trees.specs.Tree.{Sort, be-sort, and-sort, or-sort, pand-sort, rbox-sort, Element, Tree, is_be, is_box, among, bes, Meaning}
use Rattle.trees.specs.Tree.{meanings, meaning_of}
use Rattle.trees.specs.Modules.{module_for, clockless, be_module, count_module, pand_module, box_module, components_from, tree_model}
use Rattle.trees.proofs.Modules.{in-those, those-in, module-is-well-formed, module-conforms}
use Rattle.trees.proofs.Numbers.{Ascends}
use Rattle.trees.proofs.Basic.{be-is-sound}
use Rattle.trees.proofs.Gates.{and-is-sound, or-is-sound, pand-is-sound}
use Rattle.trees.proofs.Boxes.{box-is-sound}
use Rattle.trees.proofs.Owners.{is_urgent, is_output, urgent_signal, Owns, tells, repairs, has_part}

-- ---- what is used of a tree: (vi) of Definition 5.2, "boxes one to five", and the limits
abbrev pub Sees : Element → Element → Type 0
Sees x y = (x.number < y.number) × (is_box x.sort ≡ true → is_box y.sort ≡ true → (v : ℕ) → among v x.ins ≡ true → among v y.ins ≡ true → ⊥)

pub record Good (t : Tree) : Type 0 where
  pub ascends : Ascends t
  pub one-box : Pairwise Sees t
  pub boxes : (e : Element) → In e t → length e.ins ≤ 5
  pub few : length (meanings t) ≤ max_actions
  pub clocks : 2 * bes t ≤ max_clocks

-- ---- by index
pub record At (t : Tree) (k : ℕ) (es : List Element) (i : ℕ) : Type 0 where
  pub e : Element
  pub n : ℕ
  pub listed : In e es
  pub comp : comp_at (components_from t k es) i ≡ comp_by (module_for e.sort t n e)
  pub from : k ≤ n
  pub below : is_be e.sort ≡ true → n < k + bes es

-- the rank behind an element
pub next-rank : (q : Sort) (k b : ℕ) → cond (is_be q) (suc k) k + b ≡ k + (cond (is_be q) 1 0 + b)
next-rank be-sort k b = omega arith
next-rank and-sort k b = omega arith
next-rank or-sort k b = omega arith
next-rank pand-sort k b = omega arith
next-rank rbox-sort k b = omega arith

rank-grows : (q : Sort) (k : ℕ) → k ≤ cond (is_be q) (suc k) k
rank-grows be-sort k = omega arith
rank-grows and-sort k = omega arith
rank-grows or-sort k = omega arith
rank-grows pand-sort k = omega arith
rank-grows rbox-sort k = omega arith

behind-be : (q : Sort) (k n : ℕ) → is_be q ≡ true → cond (is_be q) (suc k) k ≤ n → k < n
behind-be q k n b h = rw b at h

pub at_place : (t : Tree) (k : ℕ) (es : List Element) (i : ℕ) → i < length (components_from t k es) → At t k es i
unfolding components_from bes
at_place t k [] i h = absurd (omega arith)
at_place t k (e ∷ es) zero h = record { e = e; n = k; listed = here refl; comp = refl; from = omega arith; below = λ b. rw b (omega arith) }
at_place t k (e ∷ es) (suc i) h =
    let p = at_place t (cond (is_be e.sort) (suc k) k) es i (omega arith) in
    record {
      e = p.e;
      n = p.n;
      listed = there p.listed;
      comp = p.comp;
      from = omega (arith, p.from, rank-grows e.sort k);
      below = λ b. omega (arith, p.below b, next-rank e.sort k (bes es));
    }

pub record Two (t : Tree) (k : ℕ) (es : List Element) (i j : ℕ) : Type 0 where
  pub e : Element
  pub d : Element
  pub n : ℕ
  pub l : ℕ
  pub first : comp_at (components_from t k es) i ≡ comp_by (module_for e.sort t n e)
  pub second : comp_at (components_from t k es) j ≡ comp_by (module_for d.sort t l d)
  pub sees : Sees e d
  pub later : is_be e.sort ≡ true → n < l

two-places : (t : Tree) (k : ℕ) (es : List Element) → Pairwise Sees es → (i j : ℕ) → i < j → j < length (components_from t k es) → Two t k es i j
unfolding components_from
two-places t k [] p i j h q = absurd (omega arith)
two-places t k (e ∷ es) p zero zero h q = absurd (omega arith)
two-places t k (e ∷ es) p zero (suc j) h q =
    let r = at_place t (cond (is_be e.sort) (suc k) k) es j (omega arith) in
    record {
      e = e;
      d = r.e;
      n = k;
      l = r.n;
      first = refl;
      second = r.comp;
      sees = p.0 r.e r.listed;
      later = λ b. behind-be e.sort k r.n b r.from;
    }
two-places t k (e ∷ es) p (suc i) zero h q = absurd (omega arith)
two-places t k (e ∷ es) p (suc i) (suc j) h q =
    let r = two-places t (cond (is_be e.sort) (suc k) k) es p.1 i j (omega arith) (omega arith) in
    record { e = r.e; d = r.d; n = r.n; l = r.l; first = r.first; second = r.second; sees = r.sees; later = r.later }

-- ---- 10 to 14
pub sound-of : (t : Tree) → Good t → (q : Sort) (n : ℕ) (e : Element) → e.sort ≡ q → In e t → (is_be q ≡ true → 2 * n + 1 < max_clocks)
    → Sound (module_for q t n e)
sound-of t g be-sort n e w m h = be-is-sound t n e g.ascends m w g.few (h refl)
sound-of t g and-sort n e w m h = and-is-sound t e
sound-of t g or-sort n e w m h = or-is-sound t e
sound-of t g pand-sort n e w m h = pand-is-sound t e
sound-of t g rbox-sort n e w m h = box-is-sound t e (g.boxes e m)

module _ (t : Tree) (g : Good t) where
  sound-at : (i : ℕ) → (h : i < length (components_from t 0 t))
      → Sound (module_for (at_place t 0 t i h).e.sort t (at_place t 0 t i h).n (at_place t 0 t i h).e)
  sound-at i h = let p = at_place t 0 t i h in sound-of t g p.e.sort p.n p.e refl p.listed (λ b. omega (arith, p.below b, g.clocks))

  pub every-component-conforms : Conforming (tree_model t)
  unfolding tree_model
  every-component-conforms = record { each = λ i h. rw (at_place t 0 t i h).comp (module-conforms _ (sound-at i h)) }

  pub every-component-is-well-formed : (i : ℕ) → i < length (tree_model t) → WellComp (comp_at (tree_model t) i)
  unfolding tree_model
  every-component-is-well-formed i h = rw (at_place t 0 t i h).comp (module-is-well-formed _ (sound-at i h))

-- ---- what a component's sets tell of the module's kinds
module _ (m : Module) where
  pub in-outputs : (a : ℕ) → a ∈ outputs (comp_by m) → (k : Kind) × (m.kind a ≡ some k) × (is_output k ≡ true)
  unfolding comp_by
  in-outputs a h = ⊎_elim
      (λ p. outs (m.kind a) refl (in-those (λ a. is_out (m.kind a)) max_actions a p).1)
      (λ p. uouts (m.kind a) refl (in-those (λ a. is_uout (m.kind a)) max_actions a p).1)
      (in-or (those (λ a. is_out (m.kind a)) max_actions) (those (λ a. is_uout (m.kind a)) max_actions) a h)
    where
      outs : (o : Option Kind) → m.kind a ≡ o → is_out o ≡ true → (k : Kind) × (m.kind a ≡ some k) × (is_output k ≡ true)
      outs none w h = absurd (false≢true h)
      outs (some in-kind) w h = absurd (false≢true h)
      outs (some out-kind) w h = (out-kind, w, refl)
      outs (some uin-kind) w h = absurd (false≢true h)
      outs (some uout-kind) w h = absurd (false≢true h)

      uouts : (o : Option Kind) → m.kind a ≡ o → is_uout o ≡ true → (k : Kind) × (m.kind a ≡ some k) × (is_output k ≡ true)
      uouts none w h = absurd (false≢true h)
      uouts (some in-kind) w h = absurd (false≢true h)
      uouts (some out-kind) w h = absurd (false≢true h)
      uouts (some uin-kind) w h = absurd (false≢true h)
      uouts (some uout-kind) w h = (uout-kind, w, refl)

  pub in-urgents : (a : ℕ) → a ∈ urgents (comp_by m) → (k : Kind) × (m.kind a ≡ some k) × (is_urgent k ≡ true)
  unfolding comp_by
  in-urgents a h = ⊎_elim
      (λ p. uins (m.kind a) refl (in-those (λ a. is_uin (m.kind a)) max_actions a p).1)
      (λ p. uouts (m.kind a) refl (in-those (λ a. is_uout (m.kind a)) max_actions a p).1)
      (in-or (those (λ a. is_uin (m.kind a)) max_actions) (those (λ a. is_uout (m.kind a)) max_actions) a h)
    where
      uins : (o : Option Kind) → m.kind a ≡ o → is_uin o ≡ true → (k : Kind) × (m.kind a ≡ some k) × (is_urgent k ≡ true)
      uins none w h = absurd (false≢true h)
      uins (some in-kind) w h = absurd (false≢true h)
      uins (some out-kind) w h = absurd (false≢true h)
      uins (some uin-kind) w h = (uin-kind, w, refl)
      uins (some uout-kind) w h = absurd (false≢true h)

      uouts : (o : Option Kind) → m.kind a ≡ o → is_uout o ≡ true → (k : Kind) × (m.kind a ≡ some k) × (is_urgent k ≡ true)
      uouts none w h = absurd (false≢true h)
      uouts (some in-kind) w h = absurd (false≢true h)
      uouts (some out-kind) w h = absurd (false≢true h)
      uouts (some uin-kind) w h = absurd (false≢true h)
      uouts (some uout-kind) w h = (uout-kind, w, refl)

  pub in-alphabet : (a : ℕ) → a ∈ alphabet (auto_of (comp_by m)) → (k : Kind) × (m.kind a ≡ some k) × (a < max_actions)
  unfolding comp_by
  in-alphabet a h = ⊎_elim
      (λ p. ⊎_elim (some_of is_in refl) (some_of is_uin refl) (in-or (those (λ a. is_in (m.kind a)) max_actions) (those (λ a. is_uin (m.kind a)) max_actions) a p))
      (λ p. ⊎_elim (some_of is_out refl) (some_of is_uout refl)
      (in-or (those (λ a. is_out (m.kind a)) max_actions) (those (λ a. is_uout (m.kind a)) max_actions) a p))
      (in-or (inputs (comp_by m)) (outputs (comp_by m)) a h)
    where
      go : (g : Option Kind → Bool) → g none ≡ false → (o : Option Kind) → m.kind a ≡ o → g o ≡ true → (k : Kind) × (m.kind a ≡ some k)
      go g z none w h = absurd (false≢true (sym z ∙ h))
      go g z (some k) w h = (k, w)

      some_of : (g : Option Kind → Bool) → g none ≡ false → a ∈ those (λ a. g (m.kind a)) max_actions → (k : Kind) × (m.kind a ≡ some k) × (a < max_actions)
      some_of g z i = let p = in-those (λ a. g (m.kind a)) max_actions a i in let q = go g z (m.kind a) refl p.1 in (q.0, q.1, p.0)

  pub urgent-in : (a : ℕ) (k : Kind) → a < max_actions → m.kind a ≡ some k → is_urgent k ≡ true → a ∈ urgents (comp_by m)
  unfolding comp_by
  urgent-in a in-kind h w u = absurd (false≢true u)
  urgent-in a out-kind h w u = absurd (false≢true u)
  urgent-in a uin-kind h w u =
      or-in-l (those (λ a. is_uin (m.kind a)) max_actions) (those (λ a. is_uout (m.kind a)) max_actions) a
      (those-in (λ a. is_uin (m.kind a)) max_actions a h (ap is_uin w))
  urgent-in a uout-kind h w u =
      or-in-r (those (λ a. is_uin (m.kind a)) max_actions) (those (λ a. is_uout (m.kind a)) max_actions) a
      (those-in (λ a. is_uout (m.kind a)) max_actions a h (ap is_uout w))

-- ---- 15 to 17
same-meaning : (t : Tree) (a : ℕ) {x y : Meaning} → meaning_of t a ≡ some x → meaning_of t a ≡ some y → x ≡ y
same-meaning t a p q = some_inj.0 (sym p ∙ q)

one-owner : (e d : Element) (x : Meaning) → Sees e d → Owns e x → Owns d x → ⊥
one-owner e d x s (tells p q) (tells r w) = omega (arith, s.0, q, w)
one-owner e d x s (tells p q) (repairs r b w) = false≢true (sym p ∙ r)
one-owner e d x s (repairs p b q) (tells r w) = false≢true (sym r ∙ p)
one-owner e d x s (repairs p b q) (repairs r c w) = s.1 b c x.of q w

-- the clocks of an element
clocks-of : (q : Sort) (t : Tree) (n : ℕ) (e : Element) (x : ℕ) → x ∈ (comp_by (module_for q t n e)).clocks → (is_be q ≡ true) × (2 * n ≤ x) × (x ≤ 2 * n + 1)
unfolding comp_by be_module count_module pand_module box_module clockless
clocks-of be-sort t n e x h =
    ⊎_elim (λ p. let w = one_in (2 * n) x p in (refl, omega (arith, w), omega (arith, w))) (λ p. let w = one_in (2 * n + 1) x p in (
      refl,
      omega (arith, w),
      omega (arith, w),
    )) (in-or (only (2 * n)) (only (2 * n + 1)) x h)
clocks-of and-sort t n e x h = absurd (none_in x h)
clocks-of or-sort t n e x h = absurd (none_in x h)
clocks-of pand-sort t n e x h = absurd (none_in x h)
clocks-of rbox-sort t n e x h = absurd (none_in x h)

-- urgency is the signal's
urgent-too : (t : Tree) (e d : Element) (n l a : ℕ) → a ∈ urgents (comp_by (module_for e.sort t n e))
    → a ∈ alphabet (auto_of (comp_by (module_for d.sort t l d))) → a ∈ urgents (comp_by (module_for d.sort t l d))
urgent-too t e d n l a h i =
    let p = in-urgents (module_for e.sort t n e) a h in
    let q = in-alphabet (module_for d.sort t l d) a i in
    let v = has_part t n e a p.0 p.1 in
    let w = has_part t l d a q.0 q.1 in
    let z : urgent_signal w.x.signal ≡ urgent_signal v.x.signal = ap (λ x. urgent_signal x.signal) (same-meaning t a w.means v.means) in
    urgent-in (module_for d.sort t l d) a q.0 q.2 q.1 (w.part.urgency ∙ z ∙ sym v.part.urgency ∙ p.2)

compatible : (t : Tree) (e d : Element) (n l : ℕ) → Sees e d → (is_be e.sort ≡ true → n < l)
    → Compatible (auto_of (comp_by (module_for e.sort t n e))) (auto_of (comp_by (module_for d.sort t l d)))
compatible t e d n l s r = record {
  outputs = λ a h i.
      let p = in-outputs (module_for e.sort t n e) a h in
      let q = in-outputs (module_for d.sort t l d) a i in
      let v = has_part t n e a p.0 p.1 in
      let w = has_part t l d a q.0 q.1 in
      one-owner e d v.x s (v.part.owner p.2) (rw (same-meaning t a v.means w.means) (w.part.owner q.2));
  clocks = λ x h i. let p = clocks-of e.sort t n e x h in let q = clocks-of d.sort t l d x i in omega (arith, p.2, q.1, r p.0);
  left = λ a h i. urgent-too t e d n l a h i;
  right = λ a h i. urgent-too t d e l n a h i;
}

pub every-two-are-compatible : (t : Tree) → Good t → Joinable (tree_model t)
unfolding tree_model
every-two-are-compatible t g = record {
  pair = λ i j h k. let p = two-places t 0 t g.one-box i j h k in rw (p.first, p.second) (compatible t p.e p.d p.n p.l p.sees p.later);
}
