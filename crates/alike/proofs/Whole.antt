-- Merging does not matter, with nothing in it that computes: 18, series, stability, settling by rule and by list, and the way in which three are merged.
use mathlib.Core.Path.{◌≡◌, refl, sym, ◌∙◌, ap, subst}
use mathlib.Core.Logic.{◌↔◌}
use mathlib.Core.Option.{none}
use mathlib.Core.List.{List, ◌∷◌}
use Prim.Native.Nat.{ℕ, suc}
use Rattle.laws.specs.Search.{map_some}
use Rattle.laws.proofs.SearchLaws.{map-some}
use Rattle.answer.specs.Told.{Answer}
use Rattle.model.specs.Model.{Comp, Model}
use Rattle.model.specs.WellFormed.{WellComp, WellFormed}
use Rattle.iosa.specs.Automaton.{UrgentRow, Stable, Conforming, Joinable, AllConfluent}
use Rattle.iosa.specs.Thesis.{AllDefinition41}
use Rattle.iosa.specs.Product.{product, state_of, Within, Reached, Series, over, next}
use Rattle.iosa.specs.Checks.{confluent_of}
use Rattle.iosa.specs.Step.{urgent_step, is_stable}
use Rattle.iosa.specs.Settle.{begin_fault, settle_of, settle_list_of}
use Rattle.iosa.specs.Orders.{Settling}
use Rattle.merged.specs.Merge.{merged_at}
use Rattle.merged.specs.MergedExactly.{paired_at}
use Rattle.answering.specs.Answers.{SettleAnswer, SettleListAnswer}
use Rattle.iosa.proofs.Acceptance.Accepted.{accepted-exactly}
use Rattle.iosa.proofs.Acceptance.ConfluentExactly.{confluent-exactly}
use Rattle.iosa.proofs.Settling.Each.{All}
use Rattle.iosa.proofs.Settling.Called.{begin-faultless}
use Rattle.iosa.proofs.Settling.Descent.{Keeps}
use Rattle.iosa.proofs.Settling.ProductOfMany.{wells}
use Rattle.iosa.proofs.Settling.Steps.{step-is-a-row, row-is-a-step, steps-keep-the-range, stable-exactly}
use Rattle.merged.proofs.Merging.SameRuns.{merging-keeps-the-series}
use Rattle.iosa.proofs.Reaching.Keeps.{reached-within}
use Rattle.iosa.proofs.Reaching.Refused19.{reach-faultless}
use Rattle.iosa.proofs.Thesis.Proposition41.{conforming-definition}
use Rattle.answering.proofs.Answers.Models.{settle-model-exactly, settle-list-model-exactly}
use Rattle.alike.specs.Alike.{MergedInto, SameAnswer, SeriesBefore}
use Rattle.alike.proofs.Moves.{gone_into, steps-of-pairs}
use Rattle.alike.proofs.Settling.{answer_into, merged-stable-alike, settle-alike, listing-alike, same-into}
use Rattle.alike.proofs.Confluence.{merged-model-stays-confluent, merging-keeps-confluence}
use Rattle.alike.proofs.Models.{pairs-within, Known, known, either_way}

-- settling may begin in a state made of reached parts
begins : (m : Model) → WellFormed m → (s : List ℕ) → Reached m s → begin_fault m s ≡ none
begins m w s r = let ok = reached-within m s (wells m w) r in (begin-faultless m s).1 (ok, (reach-faultless m s (wells m w) ok).1 r)

-- ---- the model e, es has the product of the components i and i+1 of c, cs in their place, and keeps the limits
module _ (c : Comp) (cs : List Comp) (well : WellFormed (c ∷ cs)) (d : AllDefinition41 (c ∷ cs)) (join : Joinable (c ∷ cs))
    (i : ℕ) (e : Comp) (es : List Comp) (r : MergedInto (c ∷ cs) i (e ∷ es)) where
  abbrev m : Model
  m = c ∷ cs

  conf : Conforming (c ∷ cs)
  conf = (conforming-definition (c ∷ cs) well).1 d

  k : Known (c ∷ cs) i (e ∷ es)
  k = known (c ∷ cs) i (e ∷ es) well conf join r

  well-again : WellFormed (e ∷ es)
  well-again = k.exact.well-formed

  each-well : All WellComp (c ∷ cs)
  each-well = wells (c ∷ cs) well

  -- "Where it passed 18 before, so does the merged one"
  pub the-model-stays-confluent : AllConfluent (c ∷ cs) → AllConfluent (e ∷ es)
  the-model-stays-confluent = merged-model-stays-confluent m i (e ∷ es) well conf join k.exact

  -- ---- steps
  again : (s : List ℕ) → Within (c ∷ cs) s → Within (e ∷ es) (paired_at (c ∷ cs) i s)
  again s ok = subst (λ n. Within n (paired_at m i s)) k.model (pairs-within i m k.neighbour s ok)

  keeps : Keeps (urgent_step (c ∷ cs)) (Within (c ∷ cs))
  keeps = steps-keep-the-range c cs well conf join

  step-again : (s : List ℕ) → Within (c ∷ cs) s → (a : ℕ)
      → urgent_step (e ∷ es) (paired_at (c ∷ cs) i s) a ≡ map_some (gone_into (paired_at (c ∷ cs) i)) (urgent_step (c ∷ cs) s a)
  step-again s ok a =
      subst (λ n. urgent_step n (paired_at m i s) a ≡ map_some (gone_into (paired_at m i)) (urgent_step m s a)) k.model
      (steps-of-pairs i m each-well k.neighbour s ok a)

  -- an urgent row of the merged system is one of the system
  record RowBefore (s : List ℕ) (a R : ℕ) (y : (product e es).State) : Type 0 where
    after : List ℕ
    within : Within (c ∷ cs) after
    state : y ≡ state_of e es (paired_at (c ∷ cs) i after)
    row : UrgentRow (product c cs) (state_of c cs s) 0 a R (state_of c cs after)

  row_back_lem : (s : List ℕ) → Within (c ∷ cs) s → {C a R : ℕ} (y : (product e es).State) → UrgentRow (product e es) (state_of e es (paired_at (c ∷ cs) i s)) C a R y
      → RowBefore s a R y
  row_back_lem s ok {a = a} {R = R} y u =
      let p = row-is-a-step e es well-again k.conforming k.joinable (paired_at m i s) (again s ok) y u in
      let g = map-some (gone_into (paired_at m i)) (urgent_step m s a) (record { resets = R; after = p.after }) (sym (step-again s ok a) ∙ p.step) in
      let q = step-is-a-row c cs well conf join s ok a g.0 g.1 in
      let v : UrgentRow (product c cs) (state_of c cs s) 0 a R (state_of c cs g.0.after) =
      subst (λ n. UrgentRow (product c cs) (state_of c cs s) 0 a n (state_of c cs g.0.after)) (ap (λ x. x.resets) g.2) q.0 in
      record { after = g.0.after; within = q.1; state = p.state ∙ ap (state_of e es) (sym (ap (λ x. x.after) g.2)); row = v }

  series-off : {x y : (product e es).State} {l : List ℕ} {R : ℕ} → Series (product e es) x l R y → (s : List ℕ) → Within (c ∷ cs) s
      → x ≡ state_of e es (paired_at (c ∷ cs) i s) → SeriesBefore c cs i e es s l R y
  series-off over s ok z = record { last = s; within = ok; state = z; series = over }
  series-off (next {y = y} {C = C} {a = a} {R = R} u rest) s ok z =
      let p = row_back_lem s ok {C = C} {a = a} {R = R} y (rw (← z) u) in
      let n = series-off rest p.after p.within p.state in
      record { last = n.last; within = n.within; state = n.state; series = next p.row n.series }

  series-again : (s l : List ℕ) (R : ℕ) (y : (product e es).State) → Within (c ∷ cs) s → SeriesBefore c cs i e es s l R y
      → Series (product e es) (state_of e es (paired_at (c ∷ cs) i s)) l R y
  series-again s l R y ok b =
      subst (Series (product e es) (state_of e es (paired_at m i s)) l R) (sym b.state)
      (merging-keeps-the-series c cs i none e es well k.answers s b.last l R ok b.within b.series)

  -- a series of the merged system, from the pairs of s, is one of the system, from s, and back
  pub the-series-stay-both-ways : (s l : List ℕ) (R : ℕ) (y : (product e es).State) → Within (c ∷ cs) s
      → Series (product e es) (state_of e es (paired_at (c ∷ cs) i s)) l R y ↔ SeriesBefore c cs i e es s l R y
  the-series-stay-both-ways s l R y ok = (λ q. series-off q s ok refl, series-again s l R y ok)

  -- stable before is stable after, and back
  pub the-stable-stay : (s : List ℕ) → Within (c ∷ cs) s → Stable (product c cs) (state_of c cs s) ↔ Stable (product e es) (state_of e es (paired_at (c ∷ cs) i s))
  the-stable-stay s ok =
      let p = stable-exactly c cs well conf join s ok in
      let q = stable-exactly e es well-again k.conforming k.joinable (paired_at m i s) (again s ok) in
      let same : is_stable (e ∷ es) (paired_at m i s) ≡ is_stable m s =
      subst (λ n. is_stable n (paired_at m i s) ≡ is_stable m s) k.model (merged-stable-alike m i each-well k.neighbour keeps s ok) in
      (λ st. q.0 (same ∙ p.1 st), λ st. p.0 (sym same ∙ q.1 st))

  -- ---- "settling from a composed state that both accept"
  module _ (al : AllConfluent (c ∷ cs)) (s : List ℕ) (before : Reached (c ∷ cs) s) (after : Reached (e ∷ es) (paired_at (c ∷ cs) i s)) where
    ok : Within (c ∷ cs) s
    ok = reached-within m s each-well before

    passed : confluent_of (c ∷ cs) ≡ none
    passed = (confluent-exactly m well ((accepted-exactly m well).1 (conf, join))).1 al

    passed-again : confluent_of (merged_at (c ∷ cs) i) ≡ none
    passed-again = subst (λ n. confluent_of n ≡ none) (sym k.model) (merging-keeps-confluence m i none (e ∷ es) well k.answers passed)

    begins-again : begin_fault (merged_at (c ∷ cs) i) (paired_at (c ∷ cs) i s) ≡ none
    begins-again = subst (λ n. begin_fault n (paired_at m i s) ≡ none) (sym k.model) (begins (e ∷ es) well-again (paired_at m i s) after)

    so : (a b : Answer (Settling (List ℕ))) → b ≡ answer_into (paired_at (c ∷ cs) i) a → SameAnswer (c ∷ cs) i a b
    so a b z = subst (SameAnswer m i a) (sym z) (same-into m i a)

    -- "gives the same verdict, count, resets and trace, the end state read through the pair numbering"; 22 and 24 too are the same
    pub the-settling-stays : (budget trace : ℕ) (a b : Answer (Settling (List ℕ))) → SettleAnswer c cs s budget trace a
        → SettleAnswer e es (paired_at (c ∷ cs) i s) budget trace b → SameAnswer (c ∷ cs) i a b
    the-settling-stays budget trace a b p q =
        let x = (settle-model-exactly c cs well s budget trace a).1 p in
        let y = (settle-model-exactly e es well-again (paired_at m i s) budget trace b).1 q in
        let z = subst (λ n. settle_of n (paired_at m i s) budget trace ≡ answer_into (paired_at m i) (settle_of m s budget trace)) k.model
        (settle-alike m i each-well k.neighbour keeps passed passed-again s ok (begins m well s before) begins-again budget trace) in
        so a b (sym y ∙ z ∙ ap (answer_into (paired_at m i)) x)

    -- by list likewise, or 23 at the same index
    pub the-listing-stays : (l : List ℕ) (a b : Answer (Settling (List ℕ))) → SettleListAnswer c cs s l a → SettleListAnswer e es (paired_at (c ∷ cs) i s) l b
        → SameAnswer (c ∷ cs) i a b
    the-listing-stays l a b p q =
        let x = (settle-list-model-exactly c cs well s l a).1 p in
        let y = (settle-list-model-exactly e es well-again (paired_at m i s) l b).1 q in
        let z = subst (λ n. settle_list_of n (paired_at m i s) l ≡ answer_into (paired_at m i) (settle_list_of m s l)) k.model
        (listing-alike m i each-well k.neighbour keeps passed passed-again s ok (begins m well s before) begins-again l) in
        so a b (sym y ∙ z ∙ ap (answer_into (paired_at m i)) x)

-- "Merging (first, second), third and first, (second, third) give equal components where neither is refused": m is merged into n at i and n into p at i,
-- or m into k at i+1 and k into q at i
pub either-way-is-one : (m : Model) (i : ℕ) (n p k q : Model) → WellFormed m → AllDefinition41 m → Joinable m → MergedInto m i n → MergedInto n i p
    → MergedInto m (suc i) k → MergedInto k i q → p ≡ q
either-way-is-one m i n p k q w d j = either_way m i n p k q w ((conforming-definition m w).1 d) j
