-- The table while a good text is taken into it, before each line and behind the last.
use mathlib.Core.Path.{◌≡◌, refl, sym, ◌∙◌, ap}
use mathlib.Core.Option.{none}
use mathlib.Core.List.{List, [], ◌∷◌, ◌++◌, reverse}
use Prim.Native.Nat.{ℕ, ◌+◌, ◌-◌, ◌≤◌, ◌<◌}
use native.Mathlib.Omega.{arith}
use lib.ListN.{length, take, drop, length-drop, take-append-drop}
use lib.Seq.{ext_get_or, get_or-drop}
use Rattle.answer.specs.Told.{Told, answered, refused}
use Rattle.model.specs.Model.{Model, Comp}
use Rattle.model.specs.Reading.{Progress, stops, entry, fault_of, finish, lines_from, at_start, read_of}
use Rattle.model.proofs.Reading.Faults.{read_short, model-read}
use Rattle.lines.specs.declared.Line.{Line}
use Rattle.lines.specs.Lines.{line_of}
use Rattle.judge.specs.declared.Progress.{Progress as CodeProgress}
use Rattle.judge.specs.declared.Fault.{Fault}
use Rattle.std.specs.Prelude.{Ok, Err}
use Rattle.judge.specs.Judged.{number_of, numbered, standing, beginning, step_of}
use Rattle.judge.proofs.StepIs.{next}
use Rattle.layout.specs.Layout.{image_words}
use Rattle.layout.specs.Image.{image_of}
use Rattle.reading.specs.Changes.{Filled}
use Rattle.reading.specs.Laid.{Laid}
use Rattle.reading.proofs.LaidComp.{laid_none}
use Rattle.reading.proofs.TakenIn.{read-image}
use Rattle.survey.proofs.Turns.{Stands, stands-first, Read, no_line, at-end, line-fault, line-faultless, line_taken}
use Rattle.intake.specs.Change.{Change, Fits}
use Rattle.intake.proofs.LineTaken.{Bounded, bounded-first, bounded-next, line-fits, line-taken-in, rest-kept}

pub record Building (text old : List ℕ) (p : CodeProgress) (at : ℕ) (t : List ℕ) : Type 0 where
  pub so_far : Progress
  pub line : ℕ
  pub stands : Stands text so_far p at line
  pub bounded : Bounded so_far.comps
  pub laid : Laid t so_far.comps
  pub rest : drop image_words t ≡ drop image_words old
  pub long : length t ≡ length old

-- what was behind the image stays, once the image is filled with noughts
pub filled-rest : (old t : List ℕ) → Filled old 0 image_words 0 t → drop image_words t ≡ drop image_words old
filled-rest old t f =
    ext_get_or 0 (drop image_words t) (drop image_words old) (length-drop image_words t ∙ ap (λ n. n - image_words) f.long ∙ sym (length-drop image_words old))
    (λ i h. get_or-drop image_words t i 0 ∙ f.behind (image_words + i) (omega arith) ∙ sym (get_or-drop image_words old i 0))

pub building-first : (text old t : List ℕ) (p : CodeProgress) → image_words ≤ length old → Filled old 0 image_words 0 t → p ≡ beginning → Building text t p 0 t
building-first text old t p h f e =
    let s = stands-first text in
    record {
      so_far = at_start;
      line = 1;
      stands = record { kept = e ∙ s.kept; begun = s.begun; same = s.same; count = s.count };
      bounded = bounded-first;
      laid = laid_none old t h f;
      rest = refl;
      long = refl;
    }

-- a text that is read is refused nowhere
lines-answered : (text : List ℕ) (m : Model) → read_of text ≡ answered m → lines_from (length text) 1 at_start text ≡ answered m
lines-answered text m e = sym (read_short text (model-read text m e).short) ∙ e

never : (text : List ℕ) (m : Model) (f : Told) → read_of text ≡ answered m → lines_from (length text) 1 at_start text ≡ refused f → ⊥
never text m f e h = let g = lines-answered text m e in let z : ◌≡◌ {A = ℕ} 0 1 = cc in absurd (omega arith)

finished : (m : Model) (cs : List Comp) → finish cs ≡ answered m → m ≡ reverse cs
finished m [] e = let z : ◌≡◌ {A = ℕ} 0 1 = cc in absurd (omega arith)
finished m (c ∷ cs) e = let i : reverse (c ∷ cs) ≡ m = cc in sym i

module _ {text old : List ℕ} {p : CodeProgress} {at : ℕ} {t : List ℕ} (b : Building text old p at t) where
  module _ (m : Model) (good : read_of text ≡ answered m) where
    pub has-line : (cs : List ℕ) → at < length text → entry (drop at text) ≡ stops cs → ⊥
    has-line cs h e = never text m _ good (no_line b.stands cs h e)

    pub no-fault : (l : Line) (to : ℕ) → Read text at l to → (f : Fault) → step_of p l ≡ Err f → ⊥
    no-fault l to r f e = never text m _ good (line-fault b.stands l to r (number_of f) (ap numbered e)).0

    pub built : length text ≤ at → t ≡ image_of m ++ drop image_words old
    built h =
        let cs = b.so_far.comps in
        let e : m ≡ reverse cs = finished m cs (sym (at-end b.stands h) ∙ lines-answered text m good) in
        let f : take image_words t ≡ image_of m = rw e (read-image text t cs (good ∙ ap answered e) b.laid) in
        sym (take-append-drop image_words t) ∙ ap (λ v. v ++ drop image_words t) f ∙ ap (λ v. image_of m ++ v) b.rest

  module _ (l : Line) (to : ℕ) (r : Read text at l to) (p' : CodeProgress) (e : step_of p l ≡ Ok p') where
    abbrev q : Progress
    q = b.so_far

    faultless : fault_of q r.it ≡ none
    faultless = line-faultless b.stands l to r p' e

    pub turn-fits : Fits t p l
    turn-fits = rw (b.stands.kept, ← r.line) (line-fits t q r.it b.laid b.stands.begun b.bounded faultless)

    pub turn-taken : (t' : List ℕ) → Change t p l t' → Building text old p' to t'
    turn-taken t' c =
        let kept = rest-kept t t' p l turn-fits c in
        let d : Change t (standing q) (line_of r.it) t' = rw (← b.stands.kept, r.line) c in
        record {
          so_far = next q r.it;
          line = b.line + 1;
          stands = line_taken b.stands l to r p' e;
          bounded = bounded-next q r.it b.bounded faultless;
          laid = line-taken-in t t' q r.it b.laid b.stands.begun b.bounded faultless d;
          rest = kept.0 ∙ b.rest;
          long = kept.1 ∙ b.long;
        }
