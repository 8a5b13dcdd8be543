-- Where a path leads on a table: the checks in their order, then the walk; and what stands ready where it led.
use mathlib.Core.Path.{◌≡◌, refl, sym, ◌∙◌, ap, ap₂, subst}
use mathlib.Core.Bool.{Bool, true, false}
use mathlib.Core.Option.{Option, none, some}
use mathlib.Core.List.{List, [], ◌∷◌}
use Prim.Native.Nat.{ℕ}
use native.Mathlib.Omega.{arith}
use Rattle.laws.specs.Search.{or_else}
use Rattle.laws.proofs.SearchLaws.{or_else_none}
use Rattle.answer.specs.Told.{Told, told, Answer, answered, refused, says_checked}
use Rattle.answer.specs.State.{parts_of}
use Rattle.answer.specs.declared.State.{State}
use Rattle.answer.specs.Told.{Checked}
use Rattle.std.specs.Prelude.{Result, Ok, Err}
use Rattle.answer.specs.declared.Refusal.{Refusal}
use Rattle.model.specs.Model.{Model}
use Rattle.model.specs.WellFormed.{WellFormed}
use Rattle.iosa.specs.Automaton.{Conforming, Joinable}
use Rattle.iosa.specs.Product.{Within}
use Rattle.iosa.specs.Checks.{accept_of}
use Rattle.iosa.specs.Start.{start_all}
use Rattle.iosa.proofs.Settling.Called.{no_answer, answers-exactly}
use Rattle.iosa.proofs.Settling.Parts.{within-length}
use Rattle.layout.specs.Image.{Image, model_of}
use Rattle.layout.proofs.RowsOfRange.{well-formed}
use Rattle.table.specs.IsImage.{is_image}
use Rattle.table.proofs.OnTableLaws.{on-image, on-no-image}
use Rattle.table.proofs.CheckedLaws.{fine-passes, refused-tells, call-refuses}
use Rattle.table.proofs.ImageExactly.{image-exactly}
use Rattle.words.specs.Bytes.{state_of}
use Rattle.words.proofs.Laid.{state-numbers}
use Rattle.parts.specs.Faults.{Says}
use Rattle.parts.proofs.Saying.{fine-none}
use Rattle.settling.specs.Gives.{Ready}
use Rattle.triggering.specs.Test.{entry_of}
use Rattle.walkable.proofs.Orderly.{entry-exactly}
use Rattle.orderly.specs.Calls.{MayWalk}
use Rattle.orderly.proofs.Exactly.{walk_fine}
use Rattle.paths.specs.Path.{walk, long_path}
use Rattle.paths.proofs.Walked.{walked-exactly}
use Rattle.walking.specs.Walks.{Walks}
use Rattle.after.specs.After.{path_fault, walk_of}
use Rattle.after.specs.Calls.{walked_on}
use Rattle.after.proofs.Order.{refused-fault}

-- ---- of a model, refusal by refusal
module _ (m : Model) (p : List ℕ) where
  abbrev pick : Option Told → Answer (List ℕ)
  pick o = elim o as (λ _. Answer (List ℕ)) [ some t ↦ refused t | none ↦ walk m 0 p (start_all m) ]

  walk_first : (f : Told) → entry_of m ≡ some f → walk_of m p ≡ refused f
  unfolding walk_of path_fault
  walk_first f e = ap (λ o. pick (or_else o (long_path p))) e

  walk-long : (f : Told) → entry_of m ≡ none → long_path p ≡ some f → walk_of m p ≡ refused f
  unfolding walk_of path_fault
  walk-long f e g = ap₂ (λ o q. pick (or_else o q)) e g

  walk-goes : entry_of m ≡ none → long_path p ≡ none → walk_of m p ≡ walk m 0 p (start_all m)
  unfolding walk_of path_fault
  walk-goes e g = ap₂ (λ o q. pick (or_else o q)) e g

  walk-answered : (s : List ℕ) → walk_of m p ≡ answered s → (entry_of m ≡ none) × (walk m 0 p (start_all m) ≡ answered s)
  unfolding walk_of path_fault
  walk-answered s e =
      let a = (answers-exactly (or_else (entry_of m) (long_path p)) (walk m 0 p (start_all m)) s).0 e in
      ((or_else_none (entry_of m) (long_path p) a.0).0, a.1)

-- ---- the checks, then the walk
leads-nowhere : (v : Answer (List ℕ)) (q : Refusal) (f : Told) → told q ≡ some f → v ≡ refused f → Walks v (Err q)
leads-nowhere v q f t e = subst (λ (u : Answer (List ℕ)). Walks u (Err q)) (sym e) t

module _ (t p : List ℕ) (a : Checked) (may : MayWalk t a) where
  abbrev call : Model → Answer (List ℕ)
  call m = walk_of m p

  pub lead-unfit : (q : Refusal) → a ≡ Err q → Walks (walked_on t p) (Err q)
  lead-unfit q e =
      let y = refused-tells t entry_of q (ap says_checked (sym e) ∙ may) in
      leads-nowhere (walked_on t p) q y.0 y.1 (call-refuses t entry_of call (λ m f e. walk_first m p f e) y.0 y.2)

  module _ (fine : a ≡ (Ok tt)) (b : Checked) (short : Says b (long_path p)) where
    pub lead-long : (q : Refusal) → b ≡ Err q → Walks (walked_on t p) (Err q)
    lead-long q e =
        let ok = fine-passes t entry_of (ap says_checked (sym fine) ∙ may) in
        let z = refused-fault q (long_path p) (ap says_checked (sym e) ∙ short) in
        leads-nowhere (walked_on t p) q z.0 z.1 (on-image t call ok.0 ∙ walk-long (model_of t) p z.0 ok.1 z.2)

    pub lead-goes : b ≡ (Ok tt) → (r : Result State Refusal) → Walks (walk (model_of t) 0 p (start_all (model_of t))) r → Walks (walked_on t p) r
    lead-goes e r h =
        let ok = fine-passes t entry_of (ap says_checked (sym fine) ∙ may) in
        let few = fine-none (long_path p) (ap says_checked (sym e) ∙ short) in
        subst (λ (v : Answer (List ℕ)). Walks v r) (sym (on-image t call ok.0 ∙ walk-goes (model_of t) p ok.1 few)) h

  pub lead-begins : a ≡ (Ok tt) → Image t × (accept_of (model_of t) ≡ none)
  lead-begins e = let k = walk_fine t (ap says_checked (sym e) ∙ may) in (k.image, k.accepted)

-- ---- where it led
walk-within : (m : Model) → WellFormed m → Conforming m → Joinable m → (p s : List ℕ) → walk m 0 p (start_all m) ≡ answered s → Within m s
walk-within [] well good fit p s e = absurd (omega (arith, well.some))
walk-within (c ∷ cs) well good fit p s e = ((walked-exactly c cs well good fit p s).0 e).1

pub record Arrived (t p : List ℕ) (x : State) : Type 0 where
  pub there : List ℕ
  pub walked : walked_on t p ≡ answered there
  pub ready : Ready t x
  pub parts : parts_of x ≡ there
  pub zeros : x ≡ state_of (parts_of x)

module _ (t p : List ℕ) (r : Result State Refusal) (leads : Walks (walked_on t p) r) where
  pub arrived : (x : State) → r ≡ Ok x → Arrived t p x
  arrived x fine = go (walked_on t p) refl (subst (Walks (walked_on t p)) fine leads)
    where
      here : (s : List ℕ) → walked_on t p ≡ answered s → x ≡ state_of s → (b : Bool) → is_image t ≡ b → Arrived t p x
      here s e q false h = absurd (no_answer (sym (on-no-image t (λ m. walk_of m p) h) ∙ e))
      here s e q true h =
          let m = model_of t in
          let im = (image-exactly t).0 h in
          let well = well-formed t im in
          let a = walk-answered m p s (sym (on-image t (λ m. walk_of m p) h) ∙ e) in
          let k = (entry-exactly m well).0 a.0 in
          let w = walk-within m well k.conforms k.joins p s a.1 in
          let parts : parts_of x ≡ s = ap parts_of q ∙ state-numbers s (omega (arith, within-length m s w, well.components)) in
          record {
            there = s;
            walked = e;
            ready = record { standing = record { image = im; within = rw parts w }; conforming = k.conforms; joinable = k.joins };
            parts = parts;
            zeros = q ∙ ap state_of (sym parts);
          }

      same : (s : List ℕ) → ◌≡◌ {A = Result State Refusal} (Ok x) (Ok (state_of s)) → x ≡ state_of s
      same s e = cc

      go : (v : Answer (List ℕ)) → walked_on t p ≡ v → Walks v (Ok x) → Arrived t p x
      go (answered s) e h = here s e (same s h) (is_image t) refl
      go (refused f) e h = absurd h

  pub led-nowhere : (q : Refusal) → r ≡ Err q → (f : Told) × (told q ≡ some f) × (walked_on t p ≡ refused f)
  led-nowhere q e = go (walked_on t p) refl (subst (Walks (walked_on t p)) e leads)
    where
      never : (s : List ℕ) → ◌≡◌ {A = Result State Refusal} (Err q) (Ok (state_of s)) → ◌≡◌ {A = ℕ} 0 1
      never s x = cc

      go : (v : Answer (List ℕ)) → walked_on t p ≡ v → Walks v (Err q) → (f : Told) × (told q ≡ some f) × (walked_on t p ≡ refused f)
      go (answered s) w h = let z : ◌≡◌ {A = ℕ} 0 1 = never s h in absurd (omega arith)
      go (refused f) w h = (f, h, w)
