-- Models merged: either way to merge three neighbours gives one model; a composed state in range has its pairs in range; and what is known of a merged model.
use mathlib.Core.Path.{◌≡◌, refl, sym, ◌∙◌, ap, subst}
use mathlib.Core.Option.{Option, none}
use mathlib.Core.List.{List, [], ◌∷◌}
use Prim.Native.Nat.{ℕ, zero, suc, ◌<◌}
use native.Mathlib.Omega.{arith}
use lib.ListN.{length}
use Rattle.laws.proofs.PairLaws.{pair-below}
use Rattle.answer.specs.Told.{Told, Answer, answered}
use Rattle.model.specs.Model.{Model}
use Rattle.model.specs.WellFormed.{WellFormed}
use Rattle.iosa.specs.Automaton.{Conforming, Joinable}
use Rattle.iosa.specs.Product.{Within}
use Rattle.merged.specs.Merge.{merged, merged_at, merge_of}
use Rattle.merged.specs.MergedAs.{Replaced, Small, MergedAnswer, is25, is26, is-merged}
use Rattle.merged.specs.MergedExactly.{MergedModel, MergeAnswer, small-enough, paired_at}
use Rattle.iosa.proofs.Acceptance.Accepted.{accepted-exactly}
use Rattle.merged.proofs.Merging.Models.{merge-exactly, merge-answered, merging-is-exact}
use Rattle.merged.proofs.Merging.Accepted.{merged-model-conforms}
use Rattle.answering.proofs.Answers.Merged.{merged-answers-exactly}
use Rattle.alike.specs.Alike.{MergedInto}
use Rattle.alike.proofs.Associative.{merged-regroups}

-- at i and then at i, or at i+1 and then at i
pub models-regroup : (i : ℕ) (m : Model) → suc (suc i) < length m → merged_at (merged_at m i) i ≡ merged_at (merged_at m (suc i)) i
unfolding merged_at
models-regroup i [] h = absurd (omega arith)
models-regroup i (c ∷ []) h = absurd (omega arith)
models-regroup zero (c ∷ d ∷ []) h = absurd (omega arith)
models-regroup zero (c ∷ d ∷ e ∷ cs) h = ap (λ x. x ∷ cs) (merged-regroups c d e)
models-regroup (suc i) (c ∷ d ∷ cs) h = ap (λ l. c ∷ l) (models-regroup i (d ∷ cs) (omega arith))

pub pairs-within : (i : ℕ) (m : Model) → suc i < length m → (s : List ℕ) → Within m s → Within (merged_at m i) (paired_at m i s)
unfolding merged_at merged
pairs-within i [] h s ok = absurd (omega arith)
pairs-within i (c ∷ cs) h [] ok = absurd ok
pairs-within zero (c ∷ []) h (s ∷ ss) ok = absurd (omega arith)
pairs-within zero (c ∷ d ∷ cs) h (s ∷ []) ok = absurd ok.1
pairs-within zero (c ∷ d ∷ cs) h (s ∷ t ∷ ss) ok = (pair-below c.states d.states ok.0 ok.1.0, ok.1.1)
pairs-within (suc i) (c ∷ cs) h (s ∷ ss) ok = (ok.0, pairs-within i cs (omega arith) ss ok.1)

-- what merging answers is merged into
pub answered-into : (m : Model) (i : ℕ) (room : Option Told) (n : Model) → WellFormed m → merge_of m i room ≡ answered n → MergedInto m i n
answered-into m i room n w e =
    let a = merge-answered m i room n w e in
    go ((merged-answers-exactly m i w (a.conforming, a.joinable) (answered n)).0
    (subst (λ x. MergeAnswer m i (answered x)) a.model (small-enough a.neighbour a.fits))) refl
  where
    go : {x : Answer Model} → MergedAnswer m i x → x ≡ answered n → MergedInto m i n
    go (is25 h) z = absurd (let y : ◌≡◌ {A = ℕ} 0 1 = cc in omega arith)
    go (is26 p h) z = absurd (let y : ◌≡◌ {A = ℕ} 0 1 = cc in omega arith)
    go (is-merged {n = x} p s) z =
        let y : x ≡ n = cc in
        record { replaced = subst (Replaced m i) y p; small = subst (λ v. Small v i) y s }

-- ---- what is known of n, which m is merged into
pub record Known (m : Model) (i : ℕ) (n : Model) : Type 0 where
  pub neighbour : suc i < length m
  pub model : merged_at m i ≡ n
  pub answers : merge_of m i none ≡ answered n
  pub exact : MergedModel m i n
  pub conforming : Conforming n
  pub joinable : Joinable n

pub known : (m : Model) (i : ℕ) (n : Model) → WellFormed m → Conforming m → Joinable m → MergedInto m i n → Known m i n
known m i n w o j r =
    let e = (merge-exactly m i ((accepted-exactly m w).1 (o, j)) (answered n)).1
    ((merged-answers-exactly m i w (o, j) (answered n)).1 (is-merged r.replaced r.small)) in
    let a = merge-answered m i none n w e in
    let x = merging-is-exact m i none n w e in
    let k = merged-model-conforms m i n w o j x in
    record { neighbour = a.neighbour; model = a.model; answers = e; exact = x; conforming = k.0; joinable = k.1 }

-- m is merged into n at i and n into p at i, or m into k at i+1 and k into q at i
pub either_way : (m : Model) (i : ℕ) (n p k q : Model) → WellFormed m → Conforming m → Joinable m → MergedInto m i n → MergedInto n i p
    → MergedInto m (suc i) k → MergedInto k i q → p ≡ q
either_way m i n p k q w o j a b d e =
    let x = known m i n w o j a in
    let y = known n i p x.exact.well-formed x.conforming x.joinable b in
    let z = known m (suc i) k w o j d in
    let v = known k i q z.exact.well-formed z.conforming z.joinable e in
    sym y.model
    ∙ ap (λ l. merged_at l i) (sym x.model)
    ∙ models-regroup i m z.neighbour
    ∙ ap (λ l. merged_at l i) z.model
    ∙ v.model
