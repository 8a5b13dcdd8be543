-- Demand 3, and that merging keeps the system, with nothing in them that computes.
use mathlib.Core.Path.{◌≡◌}
use mathlib.Core.Logic.{◌↔◌}
use mathlib.Core.Option.{none}
use mathlib.Core.List.{List, ◌∷◌}
use Prim.Native.Nat.{ℕ}
use Rattle.answer.specs.Told.{answered}
use Rattle.model.specs.Model.{Comp}
use Rattle.model.specs.WellFormed.{WellFormed}
use Rattle.iosa.specs.Automaton.{Conforming, Joinable, AllConfluent}
use Rattle.iosa.specs.Thesis.{AllDefinition41}
use Rattle.iosa.specs.Product.{product, state_of, Within, Reached, Series}
use Rattle.iosa.specs.Orders.{OneEnd}
use Rattle.merged.specs.Merge.{merge_of}
use Rattle.merged.specs.MergedAs.{Replaced, Small, is-merged}
use Rattle.merged.specs.MergedExactly.{paired_at}
use Rattle.iosa.proofs.Acceptance.Accepted.{accepted-exactly}
use Rattle.iosa.proofs.Settling.ProductOfMany.{wells}
use Rattle.iosa.proofs.Reaching.Keeps.{reached-within}
use Rattle.iosa.proofs.Thesis.Proposition41.{conforming-definition, accepted-is-definition-4-1}
use Rattle.merged.proofs.Merging.Models.{merge-exactly, merging-is-exact}
use Rattle.merged.proofs.Merging.Accepted.{merging-keeps-acceptance}
use Rattle.merged.proofs.Merging.SameRuns.{merging-keeps-the-rows, merging-keeps-the-series}
use Rattle.answering.proofs.Answers.Models.{orders-agree}
use Rattle.answering.proofs.Answers.Merged.{merged-answers-exactly}

-- from every composed state made of reached parts, of an accepted model of components that are confluent where they can get
pub demand-3-by-itself : (c : Comp) (cs : List Comp) → WellFormed (c ∷ cs) → AllDefinition41 (c ∷ cs) → Joinable (c ∷ cs) → AllConfluent (c ∷ cs)
    → (s : List ℕ) → Reached (c ∷ cs) s → OneEnd (product c cs) (state_of c cs s)
demand-3-by-itself c cs well d join al s r =
    orders-agree c cs well s ((conforming-definition (c ∷ cs) well).1 d, join) al (reached-within (c ∷ cs) s (wells (c ∷ cs) well) r) r

-- ---- the model e, es has the product of the components i and i+1 of c, cs in their place, and keeps the limits
module _ (c : Comp) (cs : List Comp) (well : WellFormed (c ∷ cs)) (d : AllDefinition41 (c ∷ cs)) (join : Joinable (c ∷ cs))
    (i : ℕ) (e : Comp) (es : List Comp) (r : Replaced (c ∷ cs) i (e ∷ es)) (small : Small (e ∷ es) i) where
  conf : Conforming (c ∷ cs)
  conf = (conforming-definition (c ∷ cs) well).1 d

  answers : merge_of (c ∷ cs) i none ≡ answered (e ∷ es)
  answers = (merge-exactly (c ∷ cs) i ((accepted-exactly (c ∷ cs) well).1 (conf, join)) (answered (e ∷ es))).1
      ((merged-answers-exactly (c ∷ cs) i well (conf, join) (answered (e ∷ es))).1 (is-merged r small))

  -- a row of the product before is one after, between the states with the pair where the two were, and back
  pub the-rows-stay : (a C R : ℕ) (s t : List ℕ) → Within (c ∷ cs) s → Within (c ∷ cs) t
      → (product c cs).Row (state_of c cs s) C a R (state_of c cs t)
      ↔ (product e es).Row (state_of e es (paired_at (c ∷ cs) i s)) C a R (state_of e es (paired_at (c ∷ cs) i t))
  the-rows-stay = merging-keeps-the-rows c cs i none e es well answers

  -- "a series of urgent steps" before is one after, with the same actions and resets
  pub the-series-stay : (s t l : List ℕ) (R : ℕ) → Within (c ∷ cs) s → Within (c ∷ cs) t → Series (product c cs) (state_of c cs s) l R (state_of c cs t)
      → Series (product e es) (state_of e es (paired_at (c ∷ cs) i s)) l R (state_of e es (paired_at (c ∷ cs) i t))
  the-series-stay = merging-keeps-the-series c cs i none e es well answers

  -- and the merged model is accepted again
  pub the-model-conforms : AllDefinition41 (e ∷ es) × Joinable (e ∷ es)
  the-model-conforms =
      let w = (merging-is-exact (c ∷ cs) i none (e ∷ es) well answers).well-formed in
      (accepted-is-definition-4-1 (e ∷ es) w).0 (merging-keeps-acceptance (c ∷ cs) i none (e ∷ es) well answers)
