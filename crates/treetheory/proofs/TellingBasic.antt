-- What a basic element has told.
use mathlib.Core.Path.{◌≡◌, refl, ◌∙◌, ap}
use mathlib.Core.Logic.{◌⊎◌, inl, inr}
use mathlib.Core.Option.{Option, none, some, some_inj}
use mathlib.Core.Bool.{Bool, true, false, ◌&&◌}
use mathlib.Core.List.Memᴰ.{head as here}
use mathlib.Core.List.Memᴰ.{not-nil as in-none}
use mathlib.Core.List.Memᴰ.{tail as there}
use mathlib.Core.List.{List, [], ◌∷◌, Memᴰ as In}
use Prim.Native.Nat.{ℕ, ◌/◌, ◌%◌, ◌<◌}
use borrow.Author.Tests.{eq-eqb}
use Rattle.laws.specs.Fold.{all, all_from}
use Rattle.laws.specs.Search.{when}
use Rattle.laws.proofs.SearchLaws.{no-some}
use Rattle.laws.proofs.TestLaws.{and-true}
use Rattle.trees.specs.Module.{Move}
use Rattle.trees.specs.Tree.{be-sort, Element, among, Signal, fl, up, f, u, r, Meaning}
use Rattle.trees.specs.Modules.{be_kind, be_move, be_role}
use Rattle.treetheory.specs.AsDrawn.{down_in}
use Rattle.treetheory.proofs.Colours.{told_as, Peaceful}
use Rattle.treetheory.proofs.Roles.{Moved}
use Rattle.treetheory.proofs.TameBasic.{be-from}
use Rattle.treetheory.proofs.Telling.{fine_in, told_in, ToldStep, not-fl, not-up, barred, telling, tellings, settled, settleds, told-step, settled_at}

abbrev pub be_go : ℕ → ℕ → Signal → Option Move
be_go k s p = be_move k (s / 3) (s % 3) p

unfoldable pub every_signal : (Signal → Bool) → Bool
every_signal h = h fl && (h up && (h f && (h u && h r)))

pub at-signal : (h : Signal → Bool) → every_signal h ≡ true → (p : Signal) → h p ≡ true
unfolding every_signal
at-signal h e fl = (and-true (h fl) _ e).0
at-signal h e up = (and-true (h up) _ (and-true (h fl) _ e).1).0
at-signal h e f = let a = (and-true (h up) _ (and-true (h fl) _ e).1).1 in (and-true (h f) _ a).0
at-signal h e u = let a = (and-true (h up) _ (and-true (h fl) _ e).1).1 in (and-true (h u) _ (and-true (h f) _ a).1).0
at-signal h e r = let a = (and-true (h up) _ (and-true (h fl) _ e).1).1 in (and-true (h u) _ (and-true (h f) _ a).1).1

abbrev tells : Signal → Option Bool
tells fl = none
tells up = none
tells f = some true
tells u = some false
tells r = none

-- a clock goes on where nothing is to be told
abbrev bars : Signal → List Signal
bars fl = f ∷ u ∷ []
bars up = f ∷ u ∷ []
bars f = []
bars u = []
bars r = []

be-tells : (k : ℕ) → tellings every_signal (fine_in be-sort) (told_in be-sort) (be_go k) tells bars 9 ≡ true
unfolding tellings telling barred every_signal all all_from among
be-tells k = refl

be-settles : (k : ℕ) → settleds every_signal (fine_in be-sort) (told_in be-sort) (be_go k) (down_in be-sort) (f ∷ u ∷ []) 9 ≡ true
unfolding settleds settled barred all all_from among
be-settles k = refl

module _ (e : Element) where
  pub own-signal : (y : Meaning) (s : Signal) → y.of ≡ e.number → y.signal ≡ s → be_role e y ≡ some s
  unfolding be_role
  own-signal y s w h = ap (λ b. when b y.signal) (eq-eqb y.of e.number w) ∙ ap some h

  teller : (y : Meaning) (p : Signal) (b : Bool) → be_role e y ≡ some p → tells p ≡ some b → (y.of ≡ e.number) × (y.signal ≡ told_as b)
  teller y fl b i h = absurd (no-some refl h)
  teller y up b i h = absurd (no-some refl h)
  teller y f b i h = let k = be-from e y f i in (k.0, k.1 ∙ ap told_as (some_inj.0 h))
  teller y u b i h = let k = be-from e y u i in (k.0, k.1 ∙ ap told_as (some_inj.0 h))
  teller y r b i h = absurd (no-some refl h)

  abbrev Barred : Meaning → Signal → Type 0
  Barred y b = ((b ≡ f) × (Peaceful y.signal f → ⊥)) ⊎ ((b ≡ u) × (Peaceful y.signal u → ⊥))

  barred-both : (y : Meaning) (b : Signal) → (Peaceful y.signal f → ⊥) → (Peaceful y.signal u → ⊥) → In b (f ∷ u ∷ []) → Barred y b
  barred-both y b i j (here h) = inl (h, i)
  barred-both y b i j (there (here h)) = inr (h, j)
  barred-both y b i j (there (there m)) = absurd (in-none m)

  barring : (y : Meaning) (p b : Signal) → be_role e y ≡ some p → In b (bars p) → Barred y b
  barring y fl b i m = let s = (be-from e y fl i).1 in barred-both y b (λ q. not-fl (rw s at q)) (λ q. not-fl (rw s at q)) m
  barring y up b i m = let s = (be-from e y up i).1 in barred-both y b (λ q. not-up (rw s at q)) (λ q. not-up (rw s at q)) m
  barring y f b i m = absurd (in-none m)
  barring y u b i m = absurd (in-none m)
  barring y r b i m = absurd (in-none m)

  pub be-told : (k : ℕ) (y : Meaning) (x z : ℕ) → fine_in be-sort x ≡ true → ((Peaceful y.signal f → ⊥) → be_go k x f ≡ none)
      → ((Peaceful y.signal u → ⊥) → be_go k x u ≡ none)
      → Moved (be_role e) be_kind 9 (be_go k) y x z → (fine_in be-sort z ≡ true) × ToldStep e y (told_in be-sort x) (told_in be-sort z)
  be-told k = told-step every_signal (fine_in be-sort) (told_in be-sort) (be_go k) at-signal e (be_role e) be_kind 9 tells bars f u (be-tells k)
      (λ y w h. own-signal y f w h) refl (λ y w h. own-signal y u w h) refl teller barring

pub be-rests : (k x : ℕ) → x < 9 → fine_in be-sort x ≡ true → be_go k x f ≡ none → be_go k x u ≡ none → told_in be-sort x ≡ down_in be-sort x
be-rests k x h fi i j = settled_at every_signal (fine_in be-sort) (told_in be-sort) (be_go k) (down_in be-sort) (f ∷ u ∷ []) 9 (be-settles k) x h fi both
  where
    both : (b : Signal) → In b (f ∷ u ∷ []) → be_go k x b ≡ none
    both b (here w) = ap (be_go k x) w ∙ i
    both b (there (here w)) = ap (be_go k x) w ∙ j
    both b (there (there m)) = absurd (in-none m)
