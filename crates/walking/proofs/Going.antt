-- Where the walk of a path stands: the state so far, and what is left of the path from there is what there was from the start.
use mathlib.Core.Path.{◌≡◌, sym, ◌∙◌, ap, ap₂, subst}
use mathlib.Core.Option.{none, some}
use mathlib.Core.List.{List, [], ◌∷◌}
use Prim.Native.Nat.{ℕ, suc, ◌+◌, ◌*◌, ◌<◌}
use native.Mathlib.Omega.{arith}
use lib.ListN.{length, get_or, drop, drop_of_length-le}
use lib.Seq.{drop-cons}
use Rattle.std.specs.Prelude.{Some, None, Ok, Err}
use Rattle.answer.specs.Told.{tell, told, Answer, answered, refused}
use Rattle.answer.specs.declared.Refusal.{Refusal}
use Rattle.answer.specs.State.{parts_of}
use Rattle.answer.specs.declared.State.{State}
use Rattle.answer.proofs.StateLaws.{with-parts}
use Rattle.model.specs.Model.{Model}
use Rattle.iosa.specs.Checks.{accept_of}
use Rattle.iosa.specs.Start.{start_all}
use Rattle.iosa.proofs.Acceptance.Accepted.{accepted-exactly}
use Rattle.iosa.proofs.Settling.Parts.{within-length}
use Rattle.iosa.proofs.Settling.Start.{start-length, start-in-range}
use Rattle.layout.specs.Image.{Image, model_of}
use Rattle.layout.proofs.RowsOfRange.{well-formed}
use Rattle.words.specs.Bytes.{state_of}
use Rattle.words.proofs.Laid.{state-numbers}
use Rattle.words.proofs.Zeros.{with-zeros}
use Rattle.moves.proofs.Ready.{count-model, count-few}
use Rattle.settling.specs.Gives.{Ready}
use Rattle.paths.specs.Path.{path_step, walk_on, walk}
use Rattle.walking.specs.Walks.{Trod, not_possible_at, Walks}
use Rattle.walking.proofs.Pacing.{step-within, trod-on, trod-no-further}

-- ---- the walk, two bytes more, or at an end
module _ (m : Model) (i : ℕ) (l s : List ℕ) where
  two_bytes : 2 * i + 1 < length l → drop (2 * i) l ≡ get_or l (2 * i) 0 ∷ get_or l (2 * i + 1) 0 ∷ drop (2 * (i + 1)) l
  two_bytes h =
      let e : suc (2 * i) ≡ 2 * i + 1 = omega arith in
      let f : suc (2 * i + 1) ≡ 2 * (i + 1) = omega arith in
      drop-cons l (2 * i) 0 (omega arith)
      ∙ ap (λ n. get_or l (2 * i) 0 ∷ drop n l) e
      ∙ ap (λ r. get_or l (2 * i) 0 ∷ r) (drop-cons l (2 * i + 1) 0 h ∙ ap (λ n. get_or l (2 * i + 1) 0 ∷ drop n l) f)

  walk-two : 2 * i + 1 < length l
      → walk m i (drop (2 * i) l) s ≡ walk_on (walk m (suc i) (drop (2 * (i + 1)) l)) i (path_step m s (get_or l (2 * i) 0) (get_or l (2 * i + 1) 0))
  unfolding walk
  walk-two h = ap (λ r. walk m i r s) (two_bytes h)

  walk_end : 2 * i ≡ length l → walk m i (drop (2 * i) l) s ≡ answered s
  unfolding walk
  walk_end h = ap (λ r. walk m i r s) (drop_of_length-le l {i = 2 * i} (omega arith))

  walk-odd : 2 * i + 1 ≡ length l → walk m i (drop (2 * i) l) s ≡ refused (tell 46 (i ∷ []))
  unfolding walk
  walk-odd h =
      ap (λ r. walk m i r s) (drop-cons l (2 * i) 0 (omega arith) ∙ ap (λ r. get_or l (2 * i) 0 ∷ r)
      (drop_of_length-le l {i = suc (2 * i)} (omega arith)))

-- ---- as the code answers it
pub says-stops : (o : Answer (List ℕ)) (i : ℕ) → o ≡ refused (tell 46 (i ∷ [])) → (q : Refusal) → q ≡ not_possible_at i → Walks o (Err q)
unfolding told
says-stops o i e q f = let h : told q ≡ some (tell 46 (i ∷ [])) = ap told f in subst (λ (v : Answer (List ℕ)). Walks v (Err q)) (sym e) h

pub says-through : (o : Answer (List ℕ)) (x : State) → o ≡ answered (parts_of x) → x ≡ state_of (parts_of x) → Walks o (Ok x)
says-through o x e z = subst (λ (v : Answer (List ℕ)). Walks v (Ok x)) (sym e) (ap (λ y. Ok y) z)

-- ---- the loop
pub record Going (t path : List ℕ) (cur : State) (i : ℕ) : Type 0 where
  pub ready : Ready t cur
  pub zeros : cur ≡ state_of (parts_of cur)
  pub rest : walk (model_of t) i (drop (2 * i) path) (parts_of cur) ≡ walk (model_of t) 0 path (start_all (model_of t))

pub going-first : (t path : List ℕ) → Image t → accept_of (model_of t) ≡ none → (x : State) → x ≡ state_of (start_all (model_of t)) → Going t path x 0
going-first t path im acc x e =
    let m = model_of t in
    let well = well-formed t im in
    let k = (accepted-exactly m well).0 acc in
    let parts : parts_of x ≡ start_all m = ap parts_of e ∙ state-numbers (start_all m) (omega (arith, start-length m, well.components)) in
    record {
      ready = record { standing = record { image = im; within = rw parts (start-in-range m well) }; conforming = k.0; joinable = k.1 };
      zeros = e ∙ sym (ap state_of parts);
      rest = ap (walk m 0 path) parts;
    }

module _ (t path : List ℕ) (cur : State) (i : ℕ) (at : Going t path cur i) where
  module _ (two : 2 * i + 1 < length path) where
    pub going_on : (next : State) → Trod (path_step (model_of t) (parts_of cur) (get_or path (2 * i) 0) (get_or path (2 * i + 1) 0)) cur (Some next)
        → Going t path next (i + 1)
    going_on next p =
        let m = model_of t in
        let well = well-formed t at.ready.standing.image in
        let a = get_or path (2 * i) 0 in
        let g = get_or path (2 * i + 1) 0 in
        let q = trod-on (path_step m (parts_of cur) a g) cur next p in
        let u = q.0 in
        let within = step-within m well at.ready.conforming at.ready.joinable (parts_of cur) at.ready.standing.within a g u q.1 in
        let long : length u ≡ cur.count = within-length m u within ∙ sym (count-model t cur at.ready.standing) in
        let parts : parts_of next ≡ u = ap parts_of q.2 ∙ with-parts cur u long in
        let n : i + 1 ≡ suc i = omega arith in
        record {
          ready = record {
            standing = record { image = at.ready.standing.image; within = rw parts within };
            conforming = at.ready.conforming;
            joinable = at.ready.joinable;
          };
          zeros = q.2 ∙ with-zeros cur u at.zeros long (count-few t cur at.ready.standing) ∙ ap state_of (sym parts);
          rest =
              ap₂ (λ k v. walk m k (drop (2 * (i + 1)) path) v) n parts
              ∙ ap (walk_on (walk m (suc i) (drop (2 * (i + 1)) path)) i) (sym q.1)
              ∙ sym (walk-two m i path (parts_of cur) two)
              ∙ at.rest;
        }

    pub going-stopped : Trod (path_step (model_of t) (parts_of cur) (get_or path (2 * i) 0) (get_or path (2 * i + 1) 0)) cur None
        → walk (model_of t) 0 path (start_all (model_of t)) ≡ refused (tell 46 (i ∷ []))
    going-stopped p =
        let m = model_of t in
        let o = path_step m (parts_of cur) (get_or path (2 * i) 0) (get_or path (2 * i + 1) 0) in
        sym at.rest ∙ walk-two m i path (parts_of cur) two ∙ ap (walk_on (walk m (suc i) (drop (2 * (i + 1)) path)) i) (trod-no-further o cur p)

  pub going-odd : 2 * i + 1 ≡ length path → walk (model_of t) 0 path (start_all (model_of t)) ≡ refused (tell 46 (i ∷ []))
  going-odd e = sym at.rest ∙ walk-odd (model_of t) i path (parts_of cur) e

  pub going-through : 2 * i ≡ length path → walk (model_of t) 0 path (start_all (model_of t)) ≡ answered (parts_of cur)
  going-through e = sym at.rest ∙ walk_end (model_of t) i path (parts_of cur) e
