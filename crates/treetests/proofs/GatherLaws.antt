-- What is gathered from the lines: who is a member of each set, where an input is twice in a line, where two boxes share one.
use mathlib.Core.Path.{◌≡◌, refl, sym, ◌∙◌, ap, ap₂, subst}
use mathlib.Core.Logic.{◌↔◌, ◌⊎◌, inl, inr, ⊎_elim}
use mathlib.Core.Bool.{Bool, true, false, true≢false, ◌||◌, not, cond}
use mathlib.Core.List.Memᴰ.{head as here}
use mathlib.Core.List.Memᴰ.{not-nil as in-none}
use mathlib.Core.List.Memᴰ.{tail as there}
use mathlib.Core.List.{[], ◌∷◌, Memᴰ as In}
use Prim.Native.Nat.{ℕ, suc}
use native.Mathlib.Omega.{arith}
use lib.Dec.{eqb}
use borrow.Author.Tests.{eqb-true, eq-eqb}
use Rattle.laws.specs.Sets.{has, ◌∪◌, ◌∩◌, only, ◌∈◌}
use Rattle.laws.proofs.SetLaws.{in-or, or-in-l, or-in-r, not-or, or-not, in_and, and_in, has-ext, in_one, one_in, none_in}
use Rattle.laws.proofs.TestLaws.{or-false, not_so}
use Rattle.trees.specs.Tree.{Sort, Element as TheElement, Tree, is_be, is_box}
use Rattle.trees.specs.Conditions.{OneBox, repeats}
use Rattle.trees.specs.TreeFaults.{ElementFits, Ascending, line}
use Rattle.trees.proofs.Lookup.{low-enough}
use Rattle.treelines.specs.Elements.{element_is}
use Rattle.treecheck.proofs.CodeLaws.{sort-there}
use Rattle.treetests.specs.declared.Gathered.{Gathered}
use Rattle.treetests.specs.Gathering.{line_sets, none_gathered, gathered, gathered_all}
use Rattle.treetests.proofs.InputLaws.{line-inputs, line-twice, own-number, neither}

abbrev Fits : Tree → Type 0
Fits t = (e : TheElement) → In e t → ElementFits e

in-cond : (b : Bool) (s v : ℕ) → v ∈ cond b s 0 → (b ≡ true) × (v ∈ s)
in-cond true s v h = (refl, h)
in-cond false s v h = absurd (none_in v h)

cond-in : (b : Bool) (s v : ℕ) → b ≡ true → v ∈ s → v ∈ cond b s 0
cond-in b s v q h = rw q h

pub no_member : (s : ℕ) → ((v : ℕ) → v ∈ s → ⊥) → s ≡ 0
no_member s h = has-ext s 0 (λ v. not_so (has s v) (h v) ∙ sym (not_so (has 0 v) (none_in v)))

pub not-not : (b : Bool) → not b ≡ false → b ≡ true
not-not true e = refl
not-not false e = absurd (true≢false e)

-- ---- a set to which each line adds its part
module _ (field : Gathered → ℕ) (part : TheElement → ℕ) (step : (g : Gathered) (e : TheElement) → field (gathered g (element_is e)) ≡ field g ∪ part e) where
  joined_in : (t : Tree) (g : Gathered) (v : ℕ) → v ∈ field (gathered_all g t) → (v ∈ field g) ⊎ ((e : TheElement) × In e t × (v ∈ part e))
  unfolding gathered_all
  joined_in [] g v h = inl h
  joined_in (e ∷ es) g v h = ⊎_elim
      (λ m. ⊎_elim (λ k. inl k) (λ k. inr (e, here refl, k)) (in-or (field g) (part e) v (subst (λ s. v ∈ s) (step g e) m)))
      (λ r. inr (r.0, there r.1, r.2))
      (joined_in es (gathered g (element_is e)) v h)

  kept : (t : Tree) (g : Gathered) (v : ℕ) → v ∈ field g → v ∈ field (gathered_all g t)
  unfolding gathered_all
  kept [] g v h = h
  kept (e ∷ es) g v h = kept es (gathered g (element_is e)) v (subst (λ s. v ∈ s) (sym (step g e)) (or-in-l (field g) (part e) v h))

  in-joined : (t : Tree) (g : Gathered) (v : ℕ) (e : TheElement) → In e t → v ∈ part e → v ∈ field (gathered_all g t)
  unfolding gathered_all
  in-joined [] g v e m h = absurd (in-none m)
  in-joined (d ∷ ds) g v e (here q) h =
      kept ds (gathered g (element_is d)) v (subst (λ s. v ∈ s) (sym (step g d)) (or-in-r (field g) (part d) v (subst (λ x. v ∈ part x) q h)))
  in-joined (d ∷ ds) g v e (there m) h = in-joined ds (gathered g (element_is d)) v e m h

-- ---- the numbers of the lines of some sorts
module _ (field : Gathered → ℕ) (of : Sort → Bool) (begins : field none_gathered ≡ 0)
    (step : (g : Gathered) (e : TheElement) → field (gathered g (element_is e)) ≡ field g ∪ cond (of e.sort) (only e.number) 0) where
  abbrev Own : TheElement → ℕ
  Own e = cond (of e.sort) (only e.number) 0

  sorts-are : (t : Tree) (v : ℕ) → (v ∈ field (gathered_all none_gathered t)) ↔ ((e : TheElement) × In e t × (e.number ≡ v) × (of e.sort ≡ true))
  sorts-are t v = (
    λ h. ⊎_elim
        (λ z. absurd (none_in v (subst (λ s. v ∈ s) begins z)))
        (λ r. let p = in-cond (of r.0.sort) (only r.0.number) v r.2 in (r.0, r.1, sym (one_in r.0.number v p.1), p.0))
        (joined_in field Own step t none_gathered v h),
    λ r. in-joined field Own step t none_gathered v r.0 r.1
        (cond-in (of r.0.sort) (only r.0.number) v r.3 (subst (λ x. x ∈ only r.0.number) r.2 (in_one r.0.number))),
  )

pub numbers-are : (t : Tree) (v : ℕ) → (v ∈ (gathered_all none_gathered t).numbers) ↔ ((e : TheElement) × In e t × (e.number ≡ v))
unfolding gathered
numbers-are t v =
    let s = sorts-are (λ g. g.numbers) (λ _. true) refl step t v in
    (λ h. let r = s.0 h in (r.0, r.1, r.2), λ r. s.1 (r.0, r.1, r.2, refl))
  where
    step : (g : Gathered) (e : TheElement) → (gathered g (element_is e)).numbers ≡ g.numbers ∪ only e.number
    step g e = ap (λ n. g.numbers ∪ n) (own-number (element_is e))

pub boxes-are : (t : Tree) (v : ℕ) → (v ∈ (gathered_all none_gathered t).boxes) ↔ ((e : TheElement) × In e t × (e.number ≡ v) × (is_box e.sort ≡ true))
unfolding gathered
boxes-are = sorts-are (λ g. g.boxes) is_box refl step
  where
    step : (g : Gathered) (e : TheElement) → (gathered g (element_is e)).boxes ≡ g.boxes ∪ cond (is_box e.sort) (only e.number) 0
    step g e = ap₂ (λ s n. g.boxes ∪ cond (is_box s) n 0) (sort-there e.sort) (own-number (element_is e))

pub basics-are : (t : Tree) (v : ℕ) → (v ∈ (gathered_all none_gathered t).basics) ↔ ((e : TheElement) × In e t × (e.number ≡ v) × (is_be e.sort ≡ true))
unfolding gathered
basics-are = sorts-are (λ g. g.basics) is_be refl step
  where
    step : (g : Gathered) (e : TheElement) → (gathered g (element_is e)).basics ≡ g.basics ∪ cond (is_be e.sort) (only e.number) 0
    step g e = ap₂ (λ s n. g.basics ∪ cond (is_be s) n 0) (sort-there e.sort) (own-number (element_is e))

-- ---- the inputs
abbrev Ins : TheElement → ℕ
Ins e = (line_sets (element_is e)).all

abbrev BoxIns : TheElement → ℕ
BoxIns e = cond (is_box e.sort) (Ins e) 0

inputs-step : (g : Gathered) (e : TheElement) → (gathered g (element_is e)).inputs ≡ g.inputs ∪ Ins e
unfolding gathered
inputs-step g e = refl

boxed-step : (g : Gathered) (e : TheElement) → (gathered g (element_is e)).boxed ≡ g.boxed ∪ BoxIns e
unfolding gathered
boxed-step g e = ap (λ s. g.boxed ∪ cond (is_box s) (Ins e) 0) (sort-there e.sort)

twice-step : (g : Gathered) (e : TheElement) → (gathered g (element_is e)).twice ≡ (g.twice || (line_sets (element_is e)).twice)
unfolding gathered
twice-step g e = refl

shared_step : (g : Gathered) (e : TheElement) → (gathered g (element_is e)).shared ≡ (g.shared || not (eqb (g.boxed ∩ BoxIns e) 0))
unfolding gathered
shared_step g e = ap (λ s. g.shared || not (eqb (g.boxed ∩ cond (is_box s) (Ins e) 0) 0)) (sort-there e.sort)

pub inputs_are : (t : Tree) → Fits t → (v : ℕ) → (v ∈ (gathered_all none_gathered t).inputs) ↔ ((e : TheElement) × In e t × In v e.ins)
inputs_are t f v = (
  λ h. ⊎_elim
      (λ z. absurd (none_in v z))
      (λ r. (r.0, r.1, (line-inputs r.0 (f r.0 r.1) v).0 r.2))
      (joined_in (λ g. g.inputs) Ins inputs-step t none_gathered v h),
  λ r. in-joined (λ g. g.inputs) Ins inputs-step t none_gathered v r.0 r.1 ((line-inputs r.0 (f r.0 r.1) v).1 r.2),
)

-- the inputs of one box
box-input : (e : TheElement) → ElementFits e → (v : ℕ) → (v ∈ BoxIns e) ↔ ((is_box e.sort ≡ true) × In v e.ins)
box-input e f v = (
  λ h. let p = in-cond (is_box e.sort) (Ins e) v h in (p.0, (line-inputs e f v).0 p.1),
  λ p. cond-in (is_box e.sort) (Ins e) v p.0 ((line-inputs e f v).1 p.1),
)

pub boxed-are : (t : Tree) → Fits t → (v : ℕ) → (v ∈ (gathered_all none_gathered t).boxed) ↔ ((e : TheElement) × In e t × (is_box e.sort ≡ true) × In v e.ins)
boxed-are t f v = (
  λ h. ⊎_elim
      (λ z. absurd (none_in v z))
      (λ r. let p = (box-input r.0 (f r.0 r.1) v).0 r.2 in (r.0, r.1, p.0, p.1))
      (joined_in (λ g. g.boxed) BoxIns boxed-step t none_gathered v h),
  λ r. in-joined (λ g. g.boxed) BoxIns boxed-step t none_gathered v r.0 r.1 ((box-input r.0 (f r.0 r.1) v).1 (r.2, r.3)),
)

-- ---- an input twice in its line
twice-from : (t : Tree) → Fits t → (g : Gathered) → (gathered_all g t).twice ≡ false → (g.twice ≡ false) × ((e : TheElement) → In e t → repeats e.ins ≡ false)
unfolding gathered_all
twice-from [] f g h = (h, λ e m. absurd (in-none m))
twice-from (x ∷ xs) f g h =
    let r = twice-from xs (λ e m. f e (there m)) (gathered g (element_is x)) h in
    let p = or-false g.twice (line_sets (element_is x)).twice (sym (twice-step g x) ∙ r.0) in
    (p.0, each ((line-twice x (f x (here refl))).0 p.1) r.1)
  where
    each : repeats x.ins ≡ false → ((e : TheElement) → In e xs → repeats e.ins ≡ false) → (e : TheElement) → In e (x ∷ xs) → repeats e.ins ≡ false
    each h k e (here q) = ap (λ (y : TheElement). repeats y.ins) q ∙ h
    each h k e (there m) = k e m

from-twice : (t : Tree) → Fits t → (g : Gathered) → g.twice ≡ false → ((e : TheElement) → In e t → repeats e.ins ≡ false) → (gathered_all g t).twice ≡ false
unfolding gathered_all
from-twice [] f g h k = h
from-twice (x ∷ xs) f g h k =
    let now = twice-step g x ∙ neither h ((line-twice x (f x (here refl))).1 (k x (here refl))) in
    from-twice xs (λ e m. f e (there m)) (gathered g (element_is x)) now (λ e m. k e (there m))

pub twice-are : (t : Tree) → Fits t → ((gathered_all none_gathered t).twice ≡ false) ↔ ((e : TheElement) → In e t → repeats e.ins ≡ false)
twice-are t f = (λ h. (twice-from t f none_gathered h).1, λ k. from-twice t f none_gathered refl k)

-- ---- an input of two boxes
-- the boxes of t share no input, neither with each other nor with those before
record Alone (g : Gathered) (t : Tree) : Type 0 where
  so_far : g.shared ≡ false
  new : (e : TheElement) → In e t → is_box e.sort ≡ true → (v : ℕ) → In v e.ins → has g.boxed v ≡ false
  one-box : OneBox t

module _ (x : TheElement) (xs : Tree) (f : Fits (x ∷ xs)) (g : Gathered) where
  own : (v : ℕ) → (v ∈ BoxIns x) ↔ ((is_box x.sort ≡ true) × In v x.ins)
  own = box-input x (f x (here refl))

  module _ (a : Alone (gathered g (element_is x)) xs) where
    unshared : (g.shared ≡ false) × (not (eqb (g.boxed ∩ BoxIns x) 0) ≡ false)
    unshared = or-false g.shared (not (eqb (g.boxed ∩ BoxIns x) 0)) (sym (shared_step g x) ∙ a.so_far)

    nothing-shared : g.boxed ∩ BoxIns x ≡ 0
    nothing-shared = eqb-true (g.boxed ∩ BoxIns x) 0 (not-not (eqb (g.boxed ∩ BoxIns x) 0) unshared.1)

    later : (e : TheElement) → In e xs → is_box e.sort ≡ true → (v : ℕ) → In v e.ins → (has g.boxed v ≡ false) × (has (BoxIns x) v ≡ false)
    later e m c v i = not-or g.boxed (BoxIns x) v (ap (λ s. has s v) (sym (boxed-step g x)) ∙ a.new e m c v i)

    now-new : (e : TheElement) → In e (x ∷ xs) → is_box e.sort ≡ true → (v : ℕ) → In v e.ins → has g.boxed v ≡ false
    now-new e (here q) c v i =
        let o = (own v).1 (subst (λ (y : TheElement). is_box y.sort ≡ true) q c, subst (λ (y : TheElement). In v y.ins) q i) in
        not_so (has g.boxed v) (λ h. none_in v (subst (λ s. v ∈ s) nothing-shared (and_in g.boxed (BoxIns x) v h o)))
    now-new e (there m) c v i = (later e m c v i).0

    -- x shares no input with a later box
    not-later : (d e : TheElement) → d ≡ x → In e xs → is_box d.sort ≡ true → is_box e.sort ≡ true → (v : ℕ) → In v d.ins → In v e.ins → ⊥
    not-later d e q n b c v i j =
        let o = (own v).1 (subst (λ (y : TheElement). is_box y.sort ≡ true) q b, subst (λ (y : TheElement). In v y.ins) q i) in
        true≢false (sym o ∙ (later e n c v j).1)

    now-same : (d e : TheElement) → In d (x ∷ xs) → In e (x ∷ xs) → is_box d.sort ≡ true → is_box e.sort ≡ true
        → (v : ℕ) → In v d.ins → In v e.ins → d.number ≡ e.number
    now-same d e (here p) (here q) b c v i j = ap (λ (y : TheElement). y.number) (p ∙ sym q)
    now-same d e (here p) (there n) b c v i j = absurd (not-later d e p n b c v i j)
    now-same d e (there m) (here q) b c v i j = absurd (not-later e d q m c b v j i)
    now-same d e (there m) (there n) b c v i j = a.one-box.same d e m n b c v i j

    alone-more : Alone g (x ∷ xs)
    alone-more = record { so_far = unshared.0; new = now-new; one-box = record { same = now-same } }

  alone-less : Ascending (suc x.number) xs → Alone g (x ∷ xs) → Alone (gathered g (element_is x)) xs
  alone-less up a = record {
    so_far = shared_step g x ∙ neither a.so_far (ap not (eq-eqb (g.boxed ∩ BoxIns x) 0 nothing));
    new = λ e m c v i. ap (λ s. has s v) (boxed-step g x) ∙ or-not g.boxed (BoxIns x) v (a.new e (there m) c v i) (not_so (has (BoxIns x) v) (λ h.
        let p = (own v).0 h in
        let z = a.one-box.same x e (here refl) (there m) p.0 c v p.1 i in
        let l = low-enough up e m in
        omega (arith, z, l)));
    one-box = record { same = λ d e m n. a.one-box.same d e (there m) (there n) };
  }
    where
      both : (v : ℕ) → (v ∈ g.boxed) × (v ∈ BoxIns x) → ⊥
      both v h = let p = (own v).0 h.1 in true≢false (sym h.0 ∙ a.new x (here refl) p.0 v p.1)

      nothing : g.boxed ∩ BoxIns x ≡ 0
      nothing = no_member (g.boxed ∩ BoxIns x) (λ v h. both v (in_and g.boxed (BoxIns x) v h))

shared-alone : (t : Tree) → Fits t → (g : Gathered) → (gathered_all g t).shared ≡ false → Alone g t
unfolding gathered_all
shared-alone [] f g h = record { so_far = h; new = λ e m. absurd (in-none m); one-box = record { same = λ d e m. absurd (in-none m) } }
shared-alone (x ∷ xs) f g h = alone-more x xs f g (shared-alone xs (λ e m. f e (there m)) (gathered g (element_is x)) h)

alone-shared : {low : ℕ} (t : Tree) → Ascending low t → Fits t → (g : Gathered) → Alone g t → (gathered_all g t).shared ≡ false
unfolding gathered_all
alone-shared [] up f g a = a.so_far
alone-shared (x ∷ xs) (line h up) f g a = alone-shared xs up (λ e m. f e (there m)) (gathered g (element_is x)) (alone-less x xs f g up a)

pub shared-are : {low : ℕ} (t : Tree) → Ascending low t → Fits t → ((gathered_all none_gathered t).shared ≡ false) ↔ OneBox t
shared-are t up f = (
  λ h. (shared-alone t f none_gathered h).one-box,
  λ o. alone-shared t up f none_gathered (record { so_far = refl; new = λ e m c v i. not_so (has 0 v) (none_in v); one-box = o }),
)
