-- What 18 says of an accepted table, and what is printed of it: `confluent` where it passes, and else its place tells the clash.
use mathlib.Core.Path.{◌≡◌, refl, sym, ◌∙◌, ap, subst}
use mathlib.Core.Option.{Option, none, some}
use mathlib.Core.List.{List, [], ◌∷◌, ◌++◌}
use Prim.Native.Nat.{ℕ, ◌<◌}
use native.Mathlib.Omega.{arith}
use lib.ListN.{length}
use Rattle.answer.specs.Limits.{max_actions}
use Rattle.answer.specs.Told.{Told, tell, told, Answer, answered, refused, says_checked, values_at}
use Rattle.answer.specs.declared.Refusal.{Refusal}
use Rattle.answer.specs.declared.Place.{Place}
use Rattle.answer.specs.declared.Place.TheVariants.{Clash as ClashAt}
use Rattle.std.specs.Prelude.{Ok, Err}
use Rattle.answer.proofs.SaysFixes.{tells}
use Rattle.answer.proofs.ToldFixes.{told-fixes}
use Rattle.model.specs.Model.{Comp, Model, comp_at}
use Rattle.iosa.specs.Faults.{Clash, clash}
use Rattle.model.specs.Text.{lf, fields_after}
use Rattle.iosa.specs.Step.{unless}
use Rattle.iosa.specs.Checks.{accept_of, clash_among}
use Rattle.iosa.proofs.Acceptance.Accepted.{accepted-exactly}
use Rattle.iosa.proofs.Acceptance.Rows.{from-below, urgent-below}
use Rattle.answering.proofs.Answers.Models.{confluent-decided}
use Rattle.layout.specs.Layout.{count_of, block_word}
use Rattle.layout.specs.Image.{Image, comp_of, model_of}
use Rattle.layout.proofs.ModelOf.{model-length, comp-at}
use Rattle.layout.proofs.RowsOfRange.{well-formed}
use Rattle.parts.specs.Faults.{Says}
use Rattle.whys.specs.Explanation.{confluent_word, confluent_line, explain_clash, explain_at, explain_meeting, explain_accepted, explain_model}
use Rattle.clashing.specs.Placed.{ClashPlace}

-- ---- the answer of 18
abbrev done : Unit {0}
done = tt

pub stands : (o : Option Told) (f : Told) → unless o done ≡ refused f → o ≡ some f
stands none f e = absurd (let z : ◌≡◌ {A = ℕ} 0 1 = cc in omega arith)
stands (some g) f e = let w : g ≡ f = cc in ap some w

passes : (o : Option Told) → ◌≡◌ {A = Option (Answer (Unit {0}))} (some (answered tt)) (some (unless o tt)) → o ≡ none
passes none e = refl
passes (some f) e = absurd (let z : ◌≡◌ {A = ℕ} 0 1 = cc in omega arith)

-- ---- an accepted table
module _ (t : List ℕ) (im : Image t) (ok : accept_of (model_of t) ≡ none) where
  abbrev m : Model
  m = model_of t

  explained-as : explain_model m ≡ explain_meeting m (clash_among 0 m)
  unfolding explain_model
  explained-as = ap (explain_accepted m) ok

  pub says-confluent : Says (Ok tt) (clash_among 0 m) → confluent_line ≡ explain_model m
  unfolding says_checked
  says-confluent e = sym (explained-as ∙ ap (explain_meeting m) (passes (clash_among 0 m) e))

  told-18 : (i s a b : ℕ) → told (record { number = 18; place = ClashAt i s a b }) ≡ some (tell 18 (i ∷ s ∷ a ∷ b ∷ []))
  unfolding told
  told-18 i s a b = refl

  -- a place of the model's is one of the table's
  placed : (i s a b : ℕ) → i < length m → s < (comp_at m i).states → a < max_actions → b < max_actions → ClashPlace t (ClashAt i s a b)
  unfolding comp_of
  placed i s a b h k la lb =
      let p : i < count_of t = omega (arith, h, model-length t) in
      let q : s < (comp_of t i).states = subst (λ (c : Comp). s < c.states) (comp-at t i p) k in
      record {
        component = i;
        state = s;
        lower = a;
        higher = b;
        here = refl;
        inside = p;
        state-there = q;
        lower-there = la;
        higher-there = lb;
      }

  abbrev Shown : Refusal → Type 0
  Shown z = ClashPlace t z.place × (explain_at m (values_at z.place) ≡ explain_model m)

  shown : (q : Refusal) (z : List ℕ) (f : Told) → Clash m z f → told q ≡ some f → clash_among 0 m ≡ some f → Shown q
  shown q z f (clash {i} {s} {a} {b} h k) e c =
      let v = (well-formed t im).each i h in
      subst Shown (sym (told-fixes q (record { number = 18; place = ClashAt i s a b }) f e (told-18 i s a b))) (
        placed i s a b h (from-below (comp_at m i) v k.row) (urgent-below (comp_at m i) v a k.lower) (urgent-below (comp_at m i) v b k.higher),
        sym (explained-as ∙ ap (explain_meeting m) c),
      )

  pub says-clash : (q : Refusal) → Says (Err q) (clash_among 0 m) → Shown q
  unfolding says_checked
  says-clash q e =
      let w = well-formed t im in
      let p = tells q (unless (clash_among 0 m) tt) e in
      let c = stands (clash_among 0 m) p.0 p.2 in
      let f = ((confluent-decided m w ((accepted-exactly m w).0 ok)).told p.0).0 c in
      shown q f.rank p.0 f.here p.1 c

-- ---- such a place
pub there : (t : List ℕ) (p : Place) → ClashPlace t p → (i s a b : ℕ) → p ≡ ClashAt i s a b
    → (i < count_of t) × (s < block_word t i 0) × (a < max_actions) × (b < max_actions)
there t p k i s a b e =
    let f : ClashAt k.component k.state k.lower k.higher ≡ ClashAt i s a b = sym k.here ∙ e in
    let x : k.component ≡ i = cc in
    let y : k.state ≡ s = cc in
    let z : k.lower ≡ a = cc in
    let v : k.higher ≡ b = cc in (
      omega (arith, k.inside, x),
      omega (arith, subst (λ n. k.state < block_word t n 0) x k.state-there, y),
      omega (arith, k.lower-there, z),
      omega (arith, k.higher-there, v),
    )

pub clash-at : (t : List ℕ) (p : Place) (i s a b : ℕ) → p ≡ ClashAt i s a b → i < count_of t
    → explain_clash (comp_of t i) i s a b ≡ explain_at (model_of t) (values_at p)
clash-at t p i s a b e h =
    sym (ap (λ q. explain_at (model_of t) (values_at q)) e ∙ ap (λ c. explain_clash c i s a b) (comp-at t i h))

-- ---- the word
pub confluent-parts : confluent_line ≡ confluent_word ++ (lf ∷ [])
unfolding confluent_line fields_after
confluent-parts = refl
