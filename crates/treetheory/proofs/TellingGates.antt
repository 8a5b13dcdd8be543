-- What AND, OR and PAND have told, and how they count their inputs: antt computes it from every state.
use mathlib.Core.Path.{◌≡◌, refl, sym, ◌∙◌, ap}
use mathlib.Core.Logic.{◌≢◌, ◌⊎◌, inl, inr}
use mathlib.Core.Option.{Option, none, some, some_inj}
use mathlib.Core.Bool.{Bool, true, false, false≢true, cond}
use mathlib.Core.List.Memᴰ.{head as here}
use mathlib.Core.List.Memᴰ.{not-nil as in-none}
use mathlib.Core.List.Memᴰ.{tail as there}
use mathlib.Core.List.{List, [], ◌∷◌, Memᴰ as In}
use Prim.Native.Nat.{ℕ, ◌+◌, ◌/◌, ◌%◌, ◌≤◌, ◌<◌}
use native.Mathlib.Omega.{arith}
use lib.Dec.{eqb, leb}
use borrow.Author.Tests.{eqb-true, eq-eqb, ne_eqb, le-leb}
use Rattle.laws.specs.Fold.{all, all_from}
use Rattle.laws.specs.Search.{map_some}
use Rattle.laws.proofs.FoldLaws.{all_true}
use Rattle.laws.proofs.SearchLaws.{no-some}
use Rattle.trees.specs.Module.{Move}
use Rattle.trees.specs.Tree.{and-sort, or-sort, pand-sort, Element, among, f, u, Meaning}
use Rattle.trees.specs.Modules.{plain_move, GateRole, own-f, own-u, f0, u0, f1, u1, tick, gate_kind, told, gate_role, pand_role, count_move, pand_move}
use Rattle.trees.proofs.Gates.{every_role, at-role}
use Rattle.trees.proofs.Owners.{is_urgent, urgent_signal, gate-part, pand-part}
use Rattle.treetheory.specs.AsDrawn.{down_in, first_of, second_of}
use Rattle.treetheory.proofs.Colours.{told_as, Peaceful}
use Rattle.treetheory.proofs.Roles.{Moved, by-role, by-none}
use Rattle.treetheory.proofs.TameGates.{From, gate-from, pand-from}
use Rattle.treetheory.proofs.Owned.{gate-f, gate-u, pand-as-gate}
use Rattle.treetheory.proofs.Telling.{fine_in, told_in, ToldStep, not-f-u, not-u-f, barred, telling, tellings, settled, settleds, told-step, settled_at}

abbrev pub count_go : ℕ → ℕ → GateRole → Option Move
count_go n s p = map_some plain_move (count_move n (s / 6) (s / 3 % 2) (s % 3) p)

abbrev pub pand_go : ℕ → GateRole → Option Move
pand_go s p = map_some plain_move (pand_move (s / 10) (s / 5 % 2) (s % 5) p)

-- ---- telling
abbrev tells : GateRole → Option Bool
tells own-f = some true
tells own-u = some false
tells f0 = none
tells u0 = none
tells f1 = none
tells u1 = none
tells tick = none

-- what must not be enabled: a repair to be told where a failure is heard, and the other way round
abbrev bars : GateRole → List GateRole
bars own-f = []
bars own-u = []
bars f0 = own-u ∷ []
bars u0 = own-f ∷ []
bars f1 = own-u ∷ []
bars u1 = own-f ∷ []
bars tick = []

and-tells : tellings every_role (fine_in and-sort) (told_in and-sort) (count_go 2) tells bars 12 ≡ true
unfolding tellings telling barred every_role all all_from among
and-tells = refl

or-tells : tellings every_role (fine_in or-sort) (told_in or-sort) (count_go 1) tells bars 12 ≡ true
unfolding tellings telling barred every_role all all_from among
or-tells = refl

pand-tells : tellings every_role (fine_in pand-sort) (told_in pand-sort) pand_go tells bars 20 ≡ true
unfolding tellings telling barred every_role all all_from among
pand-tells = refl

abbrev own : List GateRole
own = own-f ∷ own-u ∷ []

and-settles : settleds every_role (fine_in and-sort) (told_in and-sort) (count_go 2) (down_in and-sort) own 12 ≡ true
unfolding settleds settled barred all all_from among
and-settles = refl

or_settles : settleds every_role (fine_in or-sort) (told_in or-sort) (count_go 1) (down_in or-sort) own 12 ≡ true
unfolding settleds settled barred all all_from among
or_settles = refl

pand-settles : settleds every_role (fine_in pand-sort) (told_in pand-sort) pand_go (down_in pand-sort) own 20 ≡ true
unfolding settleds settled barred all all_from among
pand-settles = refl

-- ---- counting: k is the count, in which the first input has weight a and the second b
abbrev counts : ℕ → ℕ → GateRole → ℕ → ℕ → Bool
counts a b own-f k l = eqb l k
counts a b own-u k l = eqb l k
counts a b f0 k l = cond (leb k b) (eqb l (k + a)) true
counts a b u0 k l = cond (leb a k) (eqb (l + a) k) true
counts a b f1 k l = cond (leb k a) (eqb l (k + b)) true
counts a b u1 k l = cond (leb b k) (eqb (l + b) k) true
counts a b tick k l = eqb l k

abbrev onto : (ℕ → Bool) → Option Move → Bool
onto h none = true
onto h (some v) = h v.target

unfoldable counting : ℕ → (ℕ → GateRole → Option Move) → (ℕ → ℕ) → ℕ → ℕ → Bool
counting n to k a b = all (λ s. every_role (λ p. onto (λ v. counts a b p (k s) (k v)) (to s p))) 0 n

and-counts : counting 12 (count_go 2) (λ x. x % 3) 1 1 ≡ true
unfolding counting every_role all all_from
and-counts = refl

or-counts : counting 12 (count_go 1) (λ x. x % 3) 1 1 ≡ true
unfolding counting every_role all all_from
or-counts = refl

first-flag : counting 20 pand_go (λ x. x / 10) 1 0 ≡ true
unfolding counting every_role all all_from
first-flag = refl

second-flag : counting 20 pand_go (λ x. x / 5 % 2) 0 1 ≡ true
unfolding counting every_role all all_from
second-flag = refl

-- by an action that means y, from count k to l
pub data CountStep (e : Element) (y : Meaning) (a b k l : ℕ) : Type 0 where
  first-fails : y.of ≡ first_of e → y.signal ≡ f → (k ≤ b → l ≡ k + a) → CountStep e y a b k l
  first-mends : y.of ≡ first_of e → y.signal ≡ u → (a ≤ k → l + a ≡ k) → CountStep e y a b k l
  second-fails : y.of ≡ second_of e → y.signal ≡ f → (k ≤ a → l ≡ k + b) → CountStep e y a b k l
  second-mends : y.of ≡ second_of e → y.signal ≡ u → (b ≤ k → l + b ≡ k) → CountStep e y a b k l
  unheard : (y.of ≡ first_of e → (b : Bool) → y.signal ≡ told_as b → ⊥) → (y.of ≡ second_of e → (b : Bool) → y.signal ≡ told_as b → ⊥) → l ≡ k
      → CountStep e y a b k l

-- ---- any gate
urgent-told : (b : Bool) → urgent_signal (told_as b) ≡ true
urgent-told true = refl
urgent-told false = refl

heard-role : (e : Element) (y : Meaning) (b : Bool) → y.signal ≡ told_as b → y.of ≢ e.number → (y.of ≡ first_of e) ⊎ (y.of ≡ second_of e)
    → gate_role e y ≡ none → ⊥
unfolding gate_role
heard-role e y b s ne w h =
    go (eqb y.of (first_of e)) (eqb y.of (second_of e)) refl refl w
    (ap (λ c. cond c (told own-f own-u y.signal) (cond (eqb y.of (first_of e)) (told f0 u0 y.signal)
    (cond (eqb y.of (second_of e)) (told f1 u1 y.signal) none))) (sym (ne_eqb y.of e.number ne)) ∙ h)
  where
    some-told : (p q : GateRole) (b : Bool) → y.signal ≡ told_as b → told p q y.signal ≡ none → ⊥
    some-told p q true s h = no-some h (ap (told p q) s)
    some-told p q false s h = no-some h (ap (told p q) s)

    go : (c d : Bool) → eqb y.of (first_of e) ≡ c → eqb y.of (second_of e) ≡ d → (y.of ≡ first_of e) ⊎ (y.of ≡ second_of e)
        → cond c (told f0 u0 y.signal) (cond d (told f1 u1 y.signal) none) ≡ none → ⊥
    go true d i j w h = some-told f0 u0 b s h
    go false true i j w h = some-told f1 u1 b s h
    go false false i j (inl w) h = false≢true (sym i ∙ eq-eqb y.of (first_of e) w)
    go false false i j (inr w) h = false≢true (sym j ∙ eq-eqb y.of (second_of e) w)

module _ (e : Element) (g : Meaning → Option GateRole) (n : ℕ) (to : ℕ → GateRole → Option Move)
    (from : (x : Meaning) (p : GateRole) → g x ≡ some p → is_urgent (gate_kind p) ≡ true → From e x p)
    (urgency : (x : Meaning) (p : GateRole) → g x ≡ some p → is_urgent (gate_kind p) ≡ urgent_signal x.signal)
    (as-gate : (x : Meaning) (b : Bool) → x.signal ≡ told_as b → g x ≡ gate_role e x) where
  role-f : (y : Meaning) → y.of ≡ e.number → y.signal ≡ f → g y ≡ some own-f
  role-f y w h = as-gate y true h ∙ gate-f e y w h

  role-u : (y : Meaning) → y.of ≡ e.number → y.signal ≡ u → g y ≡ some own-u
  role-u y w h = as-gate y false h ∙ gate-u e y w h

  teller : (y : Meaning) (p : GateRole) (b : Bool) → g y ≡ some p → tells p ≡ some b → (y.of ≡ e.number) × (y.signal ≡ told_as b)
  teller y own-f b i h = let k = from y own-f i refl in (k.of, k.signal ∙ ap told_as (some_inj.0 h))
  teller y own-u b i h = let k = from y own-u i refl in (k.of, k.signal ∙ ap told_as (some_inj.0 h))
  teller y f0 b i h = absurd (no-some refl h)
  teller y u0 b i h = absurd (no-some refl h)
  teller y f1 b i h = absurd (no-some refl h)
  teller y u1 b i h = absurd (no-some refl h)
  teller y tick b i h = absurd (no-some refl h)

  abbrev Barred : Meaning → GateRole → Type 0
  Barred y b = ((b ≡ own-f) × (Peaceful y.signal f → ⊥)) ⊎ ((b ≡ own-u) × (Peaceful y.signal u → ⊥))

  at-failure : (y : Meaning) (b : GateRole) → y.signal ≡ f → In b (own-u ∷ []) → Barred y b
  at-failure y b s (here h) = inr (h, λ q. not-f-u (rw s at q))
  at-failure y b s (there m) = absurd (in-none m)

  at-repair : (y : Meaning) (b : GateRole) → y.signal ≡ u → In b (own-f ∷ []) → Barred y b
  at-repair y b s (here h) = inl (h, λ q. not-u-f (rw s at q))
  at-repair y b s (there m) = absurd (in-none m)

  barring : (y : Meaning) (p b : GateRole) → g y ≡ some p → In b (bars p) → Barred y b
  barring y own-f b i m = absurd (in-none m)
  barring y own-u b i m = absurd (in-none m)
  barring y f0 b i m = at-failure y b (from y f0 i refl).signal m
  barring y u0 b i m = at-repair y b (from y u0 i refl).signal m
  barring y f1 b i m = at-failure y b (from y f1 i refl).signal m
  barring y u1 b i m = at-repair y b (from y u1 i refl).signal m
  barring y tick b i m = absurd (in-none m)

  gate-told : (fine told : ℕ → Bool) → tellings every_role fine told to tells bars n ≡ true → (y : Meaning) (x z : ℕ) → fine x ≡ true
      → ((Peaceful y.signal f → ⊥) → to x own-f ≡ none) → ((Peaceful y.signal u → ⊥) → to x own-u ≡ none)
      → Moved g gate_kind n to y x z → (fine z ≡ true) × ToldStep e y (told x) (told z)
  gate-told fine told test = told-step every_role fine told to at-role e g gate_kind n tells bars own-f own-u test role-f refl role-u refl teller barring

  -- ---- the count, where the element is none of its inputs
  module _ (apart-first : first_of e ≢ e.number) (apart-second : second_of e ≢ e.number) (k : ℕ → ℕ) (a b : ℕ) (test : counting n to k a b ≡ true) where
    at : (s : ℕ) (p : GateRole) (v : Move) → s < n → to s p ≡ some v → counts a b p (k s) (k v.target) ≡ true
    unfolding counting
    at s p v h i =
        let z = at-role (λ p. onto (λ v. counts a b p (k s) (k v)) (to s p))
        (all_true (λ s. every_role (λ p. onto (λ v. counts a b p (k s) (k v)) (to s p))) 0 n test s (omega arith) h) p in
        sym (ap (onto (λ v. counts a b p (k s) (k v))) i) ∙ z

    own-unheard : (y : Meaning) (l m : ℕ) → y.of ≡ e.number → l ≡ m → CountStep e y a b m l
    own-unheard y l m w h = unheard (λ v c s. apart-first (sym v ∙ w)) (λ v c s. apart-second (sym v ∙ w)) h

    step : (y : Meaning) (p : GateRole) (x z : ℕ) → g y ≡ some p → counts a b p (k x) (k z) ≡ true → CountStep e y a b (k x) (k z)
    step y own-f x z i h = own-unheard y (k z) (k x) (from y own-f i refl).of (eqb-true (k z) (k x) h)
    step y own-u x z i h = own-unheard y (k z) (k x) (from y own-u i refl).of (eqb-true (k z) (k x) h)
    step y f0 x z i h = let q = from y f0 i refl in first-fails q.of q.signal (λ l. eqb-true (k z) (k x + a) (rw (le-leb (k x) b l) at h))
    step y u0 x z i h = let q = from y u0 i refl in first-mends q.of q.signal (λ l. eqb-true (k z + a) (k x) (rw (le-leb a (k x) l) at h))
    step y f1 x z i h = let q = from y f1 i refl in second-fails q.of q.signal (λ l. eqb-true (k z) (k x + b) (rw (le-leb (k x) a l) at h))
    step y u1 x z i h = let q = from y u1 i refl in second-mends q.of q.signal (λ l. eqb-true (k z + b) (k x) (rw (le-leb b (k x) l) at h))
    step y tick x z i h =
        let q : (c : Bool) → y.signal ≡ told_as c → ⊥ = λ c s. false≢true (urgency y tick i ∙ ap urgent_signal s ∙ urgent-told c) in
        unheard (λ v. q) (λ v. q) (eqb-true (k z) (k x) h)

    gate-counts : (y : Meaning) (x z : ℕ) → Moved g gate_kind n to y x z → CountStep e y a b (k x) (k z)
    gate-counts y x z (by-role {p} {v} i h d w) = rw (← w) (step y p x v.target i (at x p v h d))
    gate-counts y x z (by-none i w) = unheard
        (λ v c s. heard-role e y c s (λ q. apart-first (sym v ∙ q)) (inl v) (sym (as-gate y c s) ∙ i))
        (λ v c s. heard-role e y c s (λ q. apart-second (sym v ∙ q)) (inr v) (sym (as-gate y c s) ∙ i))
        (ap k (sym w))

-- ---- each gate
module _ (e : Element) where
  pand-gate : (x : Meaning) (b : Bool) → x.signal ≡ told_as b → pand_role e x ≡ gate_role e x
  pand-gate x true s = pand-as-gate e x f s refl
  pand-gate x false s = pand-as-gate e x u s refl

  pub own-role-f : (y : Meaning) → y.of ≡ e.number → y.signal ≡ f → (gate_role e y ≡ some own-f) × (pand_role e y ≡ some own-f)
  own-role-f y w h = (gate-f e y w h, pand-gate y true h ∙ gate-f e y w h)

  pub own-role-u : (y : Meaning) → y.of ≡ e.number → y.signal ≡ u → (gate_role e y ≡ some own-u) × (pand_role e y ≡ some own-u)
  own-role-u y w h = (gate-u e y w h, pand-gate y false h ∙ gate-u e y w h)

  module _ (y : Meaning) (x z : ℕ) where
    pub and-told : fine_in and-sort x ≡ true → ((Peaceful y.signal f → ⊥) → count_go 2 x own-f ≡ none)
        → ((Peaceful y.signal u → ⊥) → count_go 2 x own-u ≡ none)
        → Moved (gate_role e) gate_kind 12 (count_go 2) y x z → (fine_in and-sort z ≡ true) × ToldStep e y (told_in and-sort x) (told_in and-sort z)
    and-told =
        gate-told e (gate_role e) 12 (count_go 2) (λ x p i h. gate-from e x p i) (λ x p i. (gate-part e x p i).urgency) (λ x b s. refl) (fine_in and-sort)
        (told_in and-sort) and-tells y x z

    pub or-told : fine_in or-sort x ≡ true → ((Peaceful y.signal f → ⊥) → count_go 1 x own-f ≡ none)
        → ((Peaceful y.signal u → ⊥) → count_go 1 x own-u ≡ none)
        → Moved (gate_role e) gate_kind 12 (count_go 1) y x z → (fine_in or-sort z ≡ true) × ToldStep e y (told_in or-sort x) (told_in or-sort z)
    or-told =
        gate-told e (gate_role e) 12 (count_go 1) (λ x p i h. gate-from e x p i) (λ x p i. (gate-part e x p i).urgency) (λ x b s. refl) (fine_in or-sort)
        (told_in or-sort) or-tells y x z

    pub pand-told : fine_in pand-sort x ≡ true → ((Peaceful y.signal f → ⊥) → pand_go x own-f ≡ none) → ((Peaceful y.signal u → ⊥) → pand_go x own-u ≡ none)
        → Moved (pand_role e) gate_kind 20 pand_go y x z → (fine_in pand-sort z ≡ true) × ToldStep e y (told_in pand-sort x) (told_in pand-sort z)
    pand-told =
        gate-told e (pand_role e) 20 pand_go (pand-from e) (λ x p i. (pand-part e x p i).urgency) pand-gate (fine_in pand-sort) (told_in pand-sort) pand-tells y x z

    module _ (apart-first : first_of e ≢ e.number) (apart-second : second_of e ≢ e.number) where
      pub and-counted : Moved (gate_role e) gate_kind 12 (count_go 2) y x z → CountStep e y 1 1 (x % 3) (z % 3)
      and-counted =
          gate-counts e (gate_role e) 12 (count_go 2) (λ x p i h. gate-from e x p i) (λ x p i. (gate-part e x p i).urgency)
          (λ x b s. refl) apart-first apart-second (λ x. x % 3) 1 1 and-counts y x z

      pub or-counted : Moved (gate_role e) gate_kind 12 (count_go 1) y x z → CountStep e y 1 1 (x % 3) (z % 3)
      or-counted =
          gate-counts e (gate_role e) 12 (count_go 1) (λ x p i h. gate-from e x p i) (λ x p i. (gate-part e x p i).urgency)
          (λ x b s. refl) apart-first apart-second (λ x. x % 3) 1 1 or-counts y x z

      pub first_counted : Moved (pand_role e) gate_kind 20 pand_go y x z → CountStep e y 1 0 (x / 10) (z / 10)
      first_counted =
          gate-counts e (pand_role e) 20 pand_go (pand-from e) (λ x p i. (pand-part e x p i).urgency) pand-gate apart-first apart-second
          (λ x. x / 10) 1 0 first-flag y x z

      pub second-counted : Moved (pand_role e) gate_kind 20 pand_go y x z → CountStep e y 0 1 (x / 5 % 2) (z / 5 % 2)
      second-counted =
          gate-counts e (pand_role e) 20 pand_go (pand-from e) (λ x p i. (pand-part e x p i).urgency) pand-gate apart-first apart-second
          (λ x. x / 5 % 2) 0 1 second-flag y x z

-- ---- at rest
both-none : (to : ℕ → GateRole → Option Move) (x : ℕ) → to x own-f ≡ none → to x own-u ≡ none → (b : GateRole) → In b own → to x b ≡ none
both-none to x i j b (here h) = ap (to x) h ∙ i
both-none to x i j b (there (here h)) = ap (to x) h ∙ j
both-none to x i j b (there (there m)) = absurd (in-none m)

module _ (x : ℕ) where
  pub and-rests : x < 12 → fine_in and-sort x ≡ true → count_go 2 x own-f ≡ none → count_go 2 x own-u ≡ none → told_in and-sort x ≡ down_in and-sort x
  and-rests h k i j =
      settled_at every_role (fine_in and-sort) (told_in and-sort) (count_go 2) (down_in and-sort) own 12 and-settles x h k (both-none (count_go 2) x i j)

  pub or-rests : x < 12 → fine_in or-sort x ≡ true → count_go 1 x own-f ≡ none → count_go 1 x own-u ≡ none → told_in or-sort x ≡ down_in or-sort x
  or-rests h k i j = settled_at every_role (fine_in or-sort) (told_in or-sort) (count_go 1) (down_in or-sort) own 12 or_settles x h k (both-none (count_go 1) x i j)

  pub pand-rests : x < 20 → fine_in pand-sort x ≡ true → pand_go x own-f ≡ none → pand_go x own-u ≡ none → told_in pand-sort x ≡ down_in pand-sort x
  pand-rests h k i j = settled_at every_role (fine_in pand-sort) (told_in pand-sort) pand_go (down_in pand-sort) own 20 pand-settles x h k (both-none pand_go x i j)
