-- "Together they answer what the old call did" (02, 10/13): of every table `accept` answers the first refusal of the components in turn,
-- and then what `compatible` answers.
use mathlib.Core.Path.{◌≡◌, refl, ◌∙◌, ap}
use mathlib.Core.Bool.{Bool, true, false}
use mathlib.Core.Option.{Option, none, some}
use mathlib.Core.List.{List}
use Prim.Native.Nat.{ℕ, zero, suc, ◌<◌}
use native.Mathlib.Omega.{arith}
use lib.ListN.{length}
use Rattle.laws.specs.Search.{seek, or_else}
use Rattle.laws.proofs.SearchLaws.{seek-some, seek-none}
use Rattle.answer.specs.Told.{Told, answered, refused, says_checked}
use Rattle.answer.specs.Told.{Checked}
use Rattle.std.specs.Prelude.{Ok, Err}
use Rattle.answer.specs.declared.Refusal.{Refusal}
use Rattle.answer.proofs.SaysFixes.{checked-fixed}
use Rattle.model.specs.Model.{Model}
use Rattle.iosa.specs.Checks.{component_of, compatible_of, accept_of}
use Rattle.iosa.specs.Step.{unless}
use Rattle.iosa.proofs.Acceptance.InHalves.{accept-in-turn}
use Rattle.layout.specs.Image.{model_of, no_image}
use Rattle.table.specs.IsImage.{is_image}
use Rattle.table.specs.OnTable.{check_on}
use Rattle.table.proofs.OnTableLaws.{on-image, on-no-image}
use Rattle.admit.specs.Admit.{ByItself, Compatibly, Accepted}
use Rattle.admit.specs.Together.{FirstRefusal, of-component, of-last}

-- ---- what an answer that says this is
is-fine : (r : Checked) → says_checked r ≡ some (answered tt) → r ≡ (Ok tt)
unfolding says_checked
is-fine r s = checked-fixed r (Ok tt) (answered tt) s refl

is-refused : (r : Checked) (f : Told) → says_checked r ≡ some (refused f) → (q : Refusal) × (r ≡ Err q)
unfolding says_checked
is-refused (Ok tt) f s = let z : ◌≡◌ {A = ℕ} 0 1 = cc in absurd (omega arith)
is-refused (Err q) f s = (q, refl)

-- ---- by whether the table is an image
module _ (t : List ℕ) (check : Model → Option Told) (r : Checked) (s : says_checked r ≡ some (check_on t check)) where
  on-model : is_image t ≡ true → says_checked r ≡ some (unless (check (model_of t)) tt)
  on-model e = s ∙ ap some (on-image t (λ m. unless (check m) tt) e)

  on_none : is_image t ≡ false → says_checked r ≡ some (refused no_image)
  on_none e = s ∙ ap some (on-no-image t (λ m. unless (check m) tt) e)

-- each i is what `component` answers of i, last what `compatible` does, and r what `accept` does
module _ (t : List ℕ) (each : ℕ → Checked) (last r : Checked)
    (own : (i : ℕ) → i < length (model_of t) → ByItself t i (each i))
    (both : Compatibly t last) (all : Accepted t r) where
  abbrev m : Model
  m = model_of t

  abbrev n : ℕ
  n = length (model_of t)

  -- a component that refuses, all before it fine, refuses as `accept` does
  first : (i : ℕ) (f : Told) → i < n → ((j : ℕ) → j < i → each j ≡ (Ok tt))
      → says_checked (each i) ≡ some (refused f) → says_checked r ≡ some (refused f) → FirstRefusal n each last r
  first i f h before s u = let q = is-refused (each i) f s in of-component h before q.1 (checked-fixed r (each i) (refused f) u s ∙ q.1)

  no-image : is_image t ≡ false → FirstRefusal n each last r
  no-image e = go n refl
    where
      go : (k : ℕ) → n ≡ k → FirstRefusal n each last r
      go zero z =
          let s = on_none t compatible_of last both e in
          of-last (λ j h. absurd (omega arith)) (checked-fixed r last (refused no_image) (on_none t accept_of r all e) s)
      go (suc k) z =
          let h : 0 < n = omega arith in
          first 0 no_image h (λ j l. absurd (omega arith)) (on_none t (λ x. component_of x 0) (each 0) (own 0 h) e) (on_none t accept_of r all e)

  module _ (e : is_image t ≡ true) where
    of-each : (i : ℕ) → i < n → says_checked (each i) ≡ some (unless (component_of m i) tt)
    of-each i h = on-model t (λ x. component_of x i) (each i) (own i h) e

    passed : (i : ℕ) → i < n → component_of m i ≡ none → each i ≡ (Ok tt)
    passed i h z = is-fine (each i) (of-each i h ∙ ap (λ o. some (unless o tt)) z)

    of-all : says_checked r ≡ some (unless (or_else (seek (component_of m) 0 n) (compatible_of m)) tt)
    of-all = on-model t accept_of r all e ∙ ap (λ o. some (unless o tt)) (accept-in-turn m)

    image : (o : Option Told) → seek (component_of m) 0 n ≡ o → FirstRefusal n each last r
    image none z =
        let s = of-all ∙ ap (λ o. some (unless (or_else o (compatible_of m)) tt)) z in
        let u = on-model t compatible_of last both e in
        of-last (λ j h. passed j h (seek-none (component_of m) 0 n z j (omega arith) h)) (checked-fixed r last (unless (compatible_of m) tt) s u)
    image (some f) z =
        let s = of-all ∙ ap (λ o. some (unless (or_else o (compatible_of m)) tt)) z in
        let p = seek-some (component_of m) 0 n f z in
        first p.place f p.below (λ j h. passed j (omega (arith, p.below)) (p.least j (omega arith) h))
        (of-each p.place p.below ∙ ap (λ o. some (unless o tt)) p.here) s

  pub together : FirstRefusal (length (model_of t)) each last r
  together = go (is_image t) refl
    where
      go : (b : Bool) → is_image t ≡ b → FirstRefusal n each last r
      go true e = image e (seek (component_of m) 0 n) refl
      go false e = no-image e
