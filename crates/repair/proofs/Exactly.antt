-- Where the contract of `repair` says done, the lent table holds the repaired model, and that never earns 12.
use mathlib.Core.Path.{◌≡◌, sym, ◌∙◌, ap}
use mathlib.Core.Bool.{◌||◌}
use mathlib.Core.Option.{Option, none, some, some_inj}
use mathlib.Core.List.{List, [], ◌∷◌, ◌++◌}
use Prim.Native.Nat.{ℕ, ◌*◌}
use native.Mathlib.Omega.{arith}
use lib.ListN.{length, take, drop}
use lib.Seq.{take_at}
use lib.Dec.{ltb}
use Rattle.laws.specs.Search.{when, or_else}
use Rattle.answer.specs.Limits.{max_rows, max_bytes}
use Rattle.answer.specs.Told.{Told, tell, Answer, answered, refused, says_written}
use Rattle.std.specs.Prelude.{Ok}
use Rattle.model.specs.Model.{Comp, Model, row_count}
use Rattle.model.specs.Text.{text_of}
use Rattle.model.specs.WellFormed.{WellFormed}
use Rattle.iosa.specs.Checks.{component_of, accept_of}
use Rattle.iosa.specs.InOrder.{refuses, passes, gives}
use Rattle.layout.specs.Layout.{image_words}
use Rattle.layout.specs.Image.{Image, image_of, model_of}
use Rattle.layout.specs.OnImage.{Holds, OnImage, is20, of-model}
use Rattle.layout.proofs.ReadBack.{length-of-image}
use Rattle.layout.proofs.ModelOfImage.{model_is}
use Rattle.lacking.specs.Repair.{repaired_of, added_to}
use Rattle.lacking.specs.Repaired.{Mended, Small}
use Rattle.lacking.specs.Walk.{cell_bytes}
use Rattle.lacking.proofs.RepairedModels.{only-mended, repaired-well-formed, repaired-accept-never-12, repaired-component-never-12}
use Rattle.repair.specs.Repairing.{repair_of, number_in, table_with, Repairing}
use Rattle.repair.specs.RepairExactly.{RepairAnswer, of-repaired}
use Rattle.repair.proofs.Answers.{repair-answers-exactly}

never : {A : Type 0} {x : A} {f : Told} → ◌≡◌ {A = Answer A} (answered x) (refused f) → ⊥
never e = let z : ◌≡◌ {A = ℕ} 0 1 = cc in omega arith

-- the table held a model, and holds the repaired one
pub record Done (t t' : List ℕ) : Type 0 where
  pub model : Model
  pub held : Holds t model
  pub well : WellFormed (repaired_of model)
  pub now-held : model_of t' ≡ repaired_of model
  pub image : Image t'

module _ (t l t' l' : List ℕ) (n : ℕ) (g : Repairing t l (Ok n) t' l') where
  told : (a : Answer Mended) → says_written (Ok n) ≡ some (number_in a) → answered n ≡ number_in a
  unfolding says_written
  told a e = some_inj.0 e

  pub repair-done : Done t t'
  repair-done = let k = (repair-answers-exactly t l (Ok n) t' l').0 g in of_image k.answer k.right (told k.answer k.left.answer)
      k.left.table
    where
      fine : (c : Comp) (cs : List Comp) → Holds t (c ∷ cs) → Small (repaired_of (c ∷ cs)) → t' ≡ image_of (repaired_of (c ∷ cs)) ++ drop image_words t → Done t t'
      fine c cs h s e =
          let w = repaired-well-formed (c ∷ cs) h.well s in
          let f = ap (take image_words) e ∙ take_at (image_of (repaired_of (c ∷ cs))) (drop image_words t) image_words (length-of-image (repaired_of (c ∷ cs)) w) in
          record {
            model = c ∷ cs;
            held = h;
            well = w;
            now-held = model_is (repaired_of (c ∷ cs)) t' w f;
            image = record { model = repaired_of (c ∷ cs); well = w; front = f };
          }

      of-answer : (c : Comp) (cs : List Comp) → Holds t (c ∷ cs) → (a : Answer Mended) → RepairAnswer (length l) c cs a → answered n ≡ number_in a
          → t' ≡ table_with a t → Done t t'
      of-answer c cs h a (of-repaired r (refuses p)) e q = absurd (never e)
      of-answer c cs h a (of-repaired r (passes p (refuses u))) e q = absurd (never e)
      of-answer c cs h a (of-repaired {d = d} r (passes p (passes s (gives {x = x} y)))) e q =
          let z : x ≡ record { model = repaired_of (c ∷ cs); added = added_to (c ∷ cs) } = y ∙ only-mended (c ∷ cs) h.well d r in
          let v : d.model ≡ repaired_of (c ∷ cs) = ap (λ b. b.model) (only-mended (c ∷ cs) h.well d r) in
          fine c cs h (rw v at s) (q ∙ ap (λ b. image_of b.model ++ drop image_words t) z)

      of_image : (a : Answer Mended) → OnImage t (RepairAnswer (length l)) a → answered n ≡ number_in a → t' ≡ table_with a t → Done t t'
      of_image a (is20 nowhere) e q = absurd (never e)
      of_image a (of-model {c = c} {cs = cs} h r) e q = of-answer c cs h a r e q

  -- "The result is proved never to earn 12"
  pub repair-never-12 : (f : Told) → accept_of (model_of t') ≡ some f → f.number ≡ 12 → ⊥
  repair-never-12 f e k = let d = repair-done in repaired-accept-never-12 d.model d.held.well d.well f (ap accept_of (sym d.now-held) ∙ e) k

  pub repair-component-never-12 : (i : ℕ) (f : Told) → component_of (model_of t') i ≡ some f → f.number ≡ 12 → ⊥
  repair-component-never-12 i f e k =
      let d = repair-done in
      repaired-component-never-12 d.model d.held.well d.well i f (ap (λ m. component_of m i) (sym d.now-held) ∙ e) k

-- what is answered of a model is the repaired one
pub answered-is : (bytes : ℕ) (m : Model) (d : Mended) → repair_of bytes m ≡ answered d → d.model ≡ repaired_of m
unfolding repair_of
answered-is bytes m d e =
    go (or_else (when (ltb bytes (cell_bytes * length (added_to m))) (tell 24 (cell_bytes * length (added_to m) ∷ [])))
    (when (ltb max_rows (row_count (repaired_of m)) || ltb max_bytes (length (text_of (repaired_of m)))) (tell 26 (0 ∷ [])))) e
  where
    go : (o : Option Told) → (elim o as (λ _. Answer Mended) [ some t ↦ refused t | none ↦ answered (record { model = repaired_of m; added = added_to m }) ])
        ≡ answered d → d.model ≡ repaired_of m
    go none q = let z : record { model = repaired_of m; added = added_to m } ≡ d = same q in ap (λ x. x.model) (sym z)
      where
        same : {x y : Mended} → answered x ≡ answered y → x ≡ y
        same e = cc
    go (some t) q = absurd (never (sym q))
