-- `start` answers exactly for the image of a model, and then the start of the model's product.
use mathlib.Core.Path.{◌≡◌, refl, sym, ◌∙◌, ap}
use mathlib.Core.Logic.{◌↔◌}
use mathlib.Core.Bool.{Bool, true, false}
use mathlib.Core.List.{List, [], ◌∷◌}
use Prim.Native.Nat.{ℕ}
use native.Mathlib.Omega.{arith}
use lib.ListN.{length}
use Rattle.std.specs.Prelude.{Result, Ok}
use Rattle.answer.specs.Told.{answered}
use Rattle.answer.specs.State.{parts_of}
use Rattle.answer.specs.declared.Refusal.{Refusal}
use Rattle.model.specs.Model.{Model}
use Rattle.iosa.specs.Start.{Beginning, start_all, start_of}
use Rattle.iosa.proofs.Settling.Start.{start-exactly}
use Rattle.layout.specs.Image.{Image, model_of}
use Rattle.layout.proofs.RowsOfRange.{well-formed}
use Rattle.layout.proofs.ImageIsSane.{count-below}
use Rattle.table.specs.IsImage.{is_image}
use Rattle.table.proofs.OnTableLaws.{on-image, on-no-image}
use Rattle.table.proofs.ImageExactly.{image-exactly}
use Rattle.words.specs.Bytes.{state_of}
use Rattle.words.proofs.Laid.{state-numbers}
use Rattle.outset.specs.declared.Outset.{Outset}
use Rattle.outset.specs.Start.{start_on, StartGives, StartCall, BeginsAs}
use Rattle.outset.proofs.Called.{as_many}
use Rattle.outset.proofs.Determined.{start-determined}

module _ (t : List ℕ) where
  fine-image : (o : Outset) → StartCall t (Ok o) → Image t
  fine-image o says = go (is_image t) refl
    where
      go : (b : Bool) → is_image t ≡ b → Image t
      go true h = (image-exactly t).0 h
      go false h = absurd (rw (on-no-image t (λ m. answered (start_of m)) h) at says)

  module _ (im : Image t) where
    of-model : start_on t ≡ answered (start_of (model_of t))
    of-model = on-image t (λ m. answered (start_of m)) ((image-exactly t).1 im)

    gives : (o : Outset) → StartCall t (Ok o) → StartGives (start_of (model_of t)) o
    gives o says = rw of-model at says

    numbers : (o : Outset) → StartCall t (Ok o) → parts_of o.state ≡ start_all (model_of t)
    numbers o says = ap parts_of (gives o says).state ∙ state-numbers (start_all (model_of t)) (omega (arith, as_many t im, count-below t im))

    begins : (o : Outset) → StartCall t (Ok o) → (m : Model) → model_of t ≡ m → BeginsAs t o
    begins o says [] e = absurd (omega (arith, (well-formed t im).some, ap length e))
    begins o says (c ∷ cs) e =
        let s = numbers o says ∙ ap start_all e in
        let k = (gives o says).started ∙ ap (λ m. (start_of m).started) e in
        record {
          image = im;
          first = c;
          others = cs;
          model = e;
          start =
              (start-exactly c cs (rw e at (well-formed t im)) (record { state = parts_of o.state; started = o.started })).1
              (λ i. record { state = s i; started = k i });
          places = (gives o says).state ∙ ap state_of (sym (numbers o says));
        }

  -- what begins as the model does is what is answered
  as-answered : (o : Outset) → BeginsAs t o → StartCall t (Ok o)
  as-answered o b =
      let w = rw b.model at (well-formed t b.image) in
      let e = (start-exactly b.first b.others w (record { state = parts_of o.state; started = o.started })).0 b.start in
      let m = e ∙ sym (ap start_of b.model) in
      rw (of-model b.image) (record { started = ap (λ (x : Beginning). x.started) m; state = b.places ∙ ap (λ (x : Beginning). state_of x.state) m })

  pub start-fine-exactly : (r : Result Outset Refusal) → StartCall t r → (o : Outset) → (r ≡ Ok o) ↔ BeginsAs t o
  start-fine-exactly r says o = (
    λ e. let s = rw e at says in let im = fine-image o s in begins im o s (model_of t) refl,
    λ b. start-determined t r (Ok o) says (as-answered o b),
  )
