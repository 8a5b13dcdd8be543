-- The tables that are learnt are those of the definitions, and keep their length; what leads on, exactly.
use mathlib.Core.Path.{◌≡◌, refl}
use mathlib.Core.List.{List}
use Prim.Native.Nat.{ℕ}
use native.Mathlib.Omega.{arith}
use lib.ListN.{length}
use Rattle.laws.specs.Sets.{only, ◌∖◌}
use Rattle.laws.specs.Fold.{tab}
use Rattle.laws.proofs.FoldLaws.{tab-length}
use Rattle.laws.proofs.UnionLaws.{over-keeps}
use Rattle.answer.specs.Limits.{max_actions}
use Rattle.model.specs.Model.{Model, comp_at}
use Rattle.model.specs.WellFormed.{WellFormed}
use Rattle.marks.specs.Marks.{ClosedSets}
use Rattle.triggering.specs.Test.{crossed, nothing, triggers_in, sets_in, wakers_in, triggers_of, leads_of}
use Rattle.triggering.specs.Test.{starts_of, sets_of, wakers_of, own_of, sharing, elsewhere, together_of}
use Rattle.triggering.proofs.Leading.{ways-exactly, leads-exactly}
use Rattle.leads.specs.declared.Kind.{Kind}
use Rattle.leads.specs.declared.Kind.TheVariants.{Triggers, Sets, Wakers}
use Rattle.leads.specs.Learning.{to_of, new_of, learn_in, learn_of}
use Rattle.leads.proofs.Standing.{crossed-length}
use Rattle.linking.specs.Linking.{LeadTable}
use Rattle.linking.proofs.Walking.{comp-length}

-- ---- lengths
pub none-length : length nothing ≡ max_actions
unfolding nothing
none-length = tab-length {A = ℕ} (λ a. 0) 0 max_actions

pub system-length : (k : Kind) (m : Model) (T : List ℕ) → length T ≡ max_actions → length (learn_of k m T) ≡ max_actions
unfolding learn_of
system-length k m T h = over-keeps (λ i. learn_in k (comp_at m i)) (λ T. length T ≡ max_actions) 0 (length m) T (λ i U a b l. comp-length k (comp_at m i) U l) h

-- ---- what is learnt
module _ (m : Model) where
  pub learnt-triggers : learn_of Triggers m (tab only 0 max_actions) ≡ triggers_of m
  unfolding learn_of learn_in to_of new_of triggers_of triggers_in
  learnt-triggers = refl

  learnt-sets : (T : List ℕ) → learn_of Sets m T ≡ sets_of m T
  unfolding learn_of learn_in to_of new_of sets_of sets_in
  learnt-sets T = refl

  pub learnt-wakers : learn_of Wakers m nothing ≡ wakers_of m
  unfolding learn_of learn_in to_of new_of wakers_of wakers_in
  learnt-wakers = refl

  pub wakers-length : length (wakers_of m) ≡ max_actions
  wakers-length = rw learnt-wakers at (system-length Wakers m nothing none-length)

  -- from the start's set on
  pub together-is : (T : List ℕ) → T ≡ crossed (starts_of m) (starts_of m) nothing → elsewhere m (wakers_of m) (learn_of Sets m T) ≡ together_of m
  unfolding together_of
  together-is T e = rw (e, learnt-sets (crossed (starts_of m) (starts_of m) nothing))

  pub together-length : length (together_of m) ≡ max_actions
  unfolding together_of elsewhere
  together-length = over-keeps (λ a. crossed (only a) (sharing (wakers_of m) a ∖ own_of m a)) (λ T. length T ≡ max_actions) 0 max_actions
      (sets_of m (crossed (starts_of m) (starts_of m) nothing)) (λ a U p q l. crossed-length (only a) (sharing (wakers_of m) a ∖ own_of m a) U)
      (rw (learnt-sets (crossed (starts_of m) (starts_of m) nothing)) at (system-length Sets m
      (crossed (starts_of m) (starts_of m) nothing) (crossed-length (starts_of m) (starts_of m) nothing)))

  -- ---- exactly
  module _ (w : WellFormed m) where
    pub lead-table-is : (r : List ℕ) → ClosedSets (triggers_of m) r → LeadTable m r
    unfolding leads_of
    lead-table-is r c = record {
      places = c.places;
      leads = λ a b h k.
          let x = ways-exactly (triggers_of m) max_actions (omega arith) a b h k in
          let y = leads-exactly m w a b h k in
          (λ e. y.0 (x.1 ((c.ways a b h k).0 e)), λ l. (c.ways a b h k).1 (x.0 (y.1 l)));
    }
