-- Theorem 4.5 of document 000, as demand 3: a closed system that passes the test settles alike in every order, from every composed state that is reached
-- from the start.
use mathlib.Core.Path.{◌≡◌, refl, sym, ◌∙◌}
use mathlib.Core.Logic.{◌≢◌, ◌⊎◌, inl, inr, ⊎_elim}
use mathlib.Core.Bool.{Bool, true, false, true≢false}
use mathlib.Core.List.{List, [], ◌∷◌}
use Prim.Native.Nat.{ℕ, zero, suc, ◌<◌}
use native.Mathlib.Omega.{arith}
use lib.ListN.{length, get_or}
use Rattle.laws.specs.Sets.{has, ◌∈◌}
use Rattle.laws.proofs.SetLaws.{or-in-r, in-or}
use Rattle.model.specs.Model.{Comp, Model, comp_at, inputs, outputs, urgents, acts}
use Rattle.model.specs.WellFormed.{WellFormed}
use Rattle.iosa.specs.Automaton.{alphabet, auto_of, Stable, Reachable, at-start, by_row, ReachedIn, MeetsAt, Meets, Confluent, Conforming, Joinable}
use Rattle.iosa.specs.Product.{product, state_of, EachPart, Within, Reached}
use Rattle.iosa.specs.Parts.{GoAll}
use Rattle.iosa.specs.Start.{start_all}
use Rattle.iosa.specs.Step.{urgent_step}
use Rattle.iosa.specs.Demand3.{Demand3}
use Rattle.iosa.proofs.Acceptance.Rows.{Single}
use Rattle.iosa.proofs.Settling.Each.{Any, all-each}
use Rattle.iosa.proofs.Settling.Parts.{go-row, row-parts, within-length, label-parts, parts-label, action-parts}
use Rattle.iosa.proofs.Settling.ProductOfMany.{joinable-pairwise, wells, system-own}
use Rattle.iosa.proofs.Settling.Moves.{go-within}
use Rattle.iosa.proofs.Settling.UrgentOutputs.{urgent-everywhere}
use Rattle.iosa.proofs.Settling.SystemConfluent.{system-meets-at}
use Rattle.iosa.proofs.Settling.Start.{start-in-range, start-of-the-product}
use Rattle.iosa.proofs.Settling.Steps.{step-is-a-row, state-is-one-list}
use Rattle.iosa.proofs.Settling.Descent.{Keeps}
use Rattle.iosa.proofs.Settling.Commute.{confluent-steps-commute}
use Rattle.iosa.proofs.Settling.Demand3.{commuting-steps-settle}
use Rattle.iosa.proofs.Reaching.Keeps.{reached-within, stable-parts, row-keeps-reached-parts, reached-state-has-reached-parts}
use Rattle.iosa.proofs.Reaching.Refused19.{part-at}
use Rattle.triggering.specs.Triggering.{part, Passes, NoOpenInput}
use Rattle.triggering.proofs.Known.{On, AllLed, go-at, start-led, urgent-led, calm-led}

-- what holds of some component, by index, and back
pub any_at : (P : Comp → Type 0) (m : Model) → Any P m → (i : ℕ) × (i < length m) × P (comp_at m i)
any_at P [] u = absurd u
any_at P (c ∷ cs) (inl h) = (0, omega arith, h)
any_at P (c ∷ cs) (inr h) = let x = any_at P cs h in (suc x.0, omega (arith, x.1), x.2)

pub at-any : (P : Comp → Type 0) (m : Model) (i : ℕ) → i < length m → P (comp_at m i) → Any P m
at-any P [] i h p = absurd (omega arith)
at-any P (c ∷ cs) zero h p = inl p
at-any P (c ∷ cs) (suc i) h p = inr (at-any P cs i (omega arith) p)

pub at-parts : (P : Comp → ℕ → Type 0) (m : Model) (s : List ℕ) → length s ≡ length m → ((i : ℕ) → i < length m → P (comp_at m i) (get_or s i 0)) → EachPart P m s
at-parts P [] [] e f = tt
at-parts P [] (s ∷ ss) e f = absurd (omega arith)
at-parts P (c ∷ cs) [] e f = absurd (omega arith)
at-parts P (c ∷ cs) (s ∷ ss) e f = (f 0 (omega arith), at-parts P cs ss (omega arith) (λ i h. f (suc i) (omega arith)))

-- a state of the product is made of reached parts, and every two urgent outputs that are enabled in them are led to
pub record Known (c : Comp) (cs : List Comp) (y : (product c cs).State) : Type 0 where
  pub list : List ℕ
  pub parts : Reached (c ∷ cs) list
  pub state : y ≡ state_of c cs list
  pub led : AllLed (c ∷ cs) list

module _ (c : Comp) (cs : List Comp) (well : WellFormed (c ∷ cs)) (conf : Conforming (c ∷ cs)) (join : Joinable (c ∷ cs)) where
  abbrev m : Model
  m = c ∷ cs

  single : (i : ℕ) → i < length m → Single (comp_at m i)
  single i h = record { cond_a = (conf.each i h).cond_a; cond_e = (conf.each i h).cond_e }

  by_index : (s : List ℕ) → Reached m s → (i : ℕ) → i < length m → Reachable (part m i) (get_or s i 0)
  by_index s r = part-at ReachedIn m s r

  range : (s : List ℕ) → Reached m s → Within m s
  range s r = reached-within m s (wells m well) r

  same-list : (s t : List ℕ) → Within m s → Within m t → state_of c cs s ≡ state_of c cs t → s ≡ t
  same-list s t v w e = state-is-one-list c cs s t (within-length m s v) (within-length m t w) e

  -- an action that is urgent in the product is so wherever it is known
  everywhere : (a : ℕ) → a ∈ (product c cs).urgent → (i : ℕ) → i < length m → a ∈ alphabet (part m i) → a ∈ (part m i).urgent
  everywhere a u = all-each (λ d. a ∈ acts d → a ∈ urgents d) m
      (urgent-everywhere m a (joinable-pairwise m join) (label-parts (λ A. A.urgent) (λ A B. refl) cs (auto_of c) a u))

  module _ (closed : NoOpenInput m) where
    -- somebody outputs what somebody knows
    output-of : (a : ℕ) → a ∈ alphabet (product c cs) → (i : ℕ) × (i < length m) × (a ∈ outputs (comp_at m i))
    output-of a h =
        let x = any_at (λ d. a ∈ acts d) m (action-parts c cs a h) in
        ⊎_elim
        (λ k. closed.answered x.0 x.1 a k)
        (λ k. (x.0, x.1, k))
        (in-or (inputs (comp_at m x.0)) (outputs (comp_at m x.0)) a x.2)

    -- so an urgent action that is taken was enabled
    taken-on : {a C R : ℕ} {s t : List ℕ} → GoAll a m s C R t → a ∈ alphabet (product c cs) → a ∈ (product c cs).urgent → On m s a
    taken-on {a} {t = t} g h u =
        let o = output-of a h in
        let i = o.0 in
        let k = or-in-r (inputs (comp_at m i)) (outputs (comp_at m i)) a o.2 in
        let x = go-at g i o.1 in
        record {
          index = i;
          inside = o.1;
          enabled = record {
            guard = x.0;
            resets = x.1;
            target = get_or t i 0;
            row = record { output = o.2; urgent = everywhere a u i o.1 k; row = go-row (part m i) k x.2 };
          };
        }

    -- ---- a row keeps what is known
    led_on : {a C R : ℕ} (s t : List ℕ) → Reached m s → a ∈ alphabet (product c cs) → (a ∈ (product c cs).urgent) ⊎ Stable (product c cs) (state_of c cs s)
        → GoAll a m s C R t → AllLed m s → AllLed m t
    led_on {a} s t r h way g kn = go (has (product c cs).urgent a) refl way
      where
        urgently : a ∈ (product c cs).urgent → AllLed m t
        urgently u = urgent-led m single s t a (go-at g) (by_index s r) (everywhere a u) kn (taken-on g h u)

        go : (b : Bool) → has (product c cs).urgent a ≡ b → (a ∈ (product c cs).urgent) ⊎ Stable (product c cs) (state_of c cs s) → AllLed m t
        go true u v = urgently u
        go false n (inl u) = urgently u
        go false n (inr st) =
            calm-led m single s t a (go-at g) (by_index s r)
            (λ i k u. true≢false (sym (parts-label (λ A. A.urgent) (λ A B. refl) cs (auto_of c) a (at-any (λ d. a ∈ urgents d) m i k u)) ∙ n))
            (part-at (λ d x. Stable (auto_of d) x) m s (stable-parts c cs well conf join s (range s r) st))

    pub row-keeps-known : (C a R : ℕ) (y z : (product c cs).State) → (a ∈ (product c cs).urgent) ⊎ Stable (product c cs) y → (product c cs).Row y C a R z
        → Known c cs y → Known c cs z
    row-keeps-known C a R y z way row n =
        let w = range n.list n.parts in
        let h = ((system-own c cs well).rows row).action in
        let p = row-parts c cs a {C = C} {R = R} n.list z (within-length m n.list w) h (rw n.state at row) in
        let q = row-keeps-reached-parts c cs well conf join C a R y z way row (record { list = n.list; parts = n.parts; state = n.state }) in
        let e = same-list q.list p.0 (range q.list q.parts) (go-within m a (wells m well) p.1).1 (sym q.state ∙ p.2) in
        record {
          list = p.0;
          parts = rw e at q.parts;
          state = p.2;
          led = led_on n.list p.0 n.parts h (rw n.state at way) p.1 n.led;
        }

    pub reached-known : {y : (product c cs).State} → Reachable (product c cs) y → Known c cs y
    reached-known at-start =
        let n = reached-state-has-reached-parts c cs well conf join at-start in
        let o = (start-of-the-product c cs).0 in
        let e = same-list n.list (start_all m) (range n.list n.parts) (start-in-range m well) (sym n.state ∙ sym o) in
        record { list = start_all m; parts = rw e at n.parts; state = sym o; led = start-led m }
    reached-known (by_row {s = y} {t = z} {C = C} {a = a} {R = R} r way row) = row-keeps-known C a R y z way row (reached-known r)

    -- ---- where the test passes, two urgent actions of a known state meet again
    row_on : (C a R : ℕ) {y : (product c cs).State} (z : (product c cs).State) (n : Known c cs y) → a ∈ (product c cs).urgent
        → (product c cs).Row y C a R z → On m n.list a
    row_on C a R z n u row =
        let h = ((system-own c cs well).rows row).action in
        let p = row-parts c cs a {C = C} {R = R} n.list z (within-length m n.list (range n.list n.parts)) h (rw n.state at row) in
        taken-on p.1 h u

    known-meet : Passes m → {a b : ℕ} {y : (product c cs).State} (n : Known c cs y) → a ≢ b → On m n.list a → On m n.list b → MeetsAt (product c cs) y a b
    known-meet test {a} {b} n ne x z = rw n.state (system-meets-at c cs well n.list a b
        (at-parts (λ d x. Meets (auto_of d) x a b) m n.list (within-length m n.list (range n.list n.parts))
        (λ i h ka kb. (test.confluent ne (n.led a b x z) i h).meets (get_or n.list i 0) (by_index n.list n.parts i h))))

    pub known-confluent : Passes m → Confluent (product c cs) (Known c cs)
    known-confluent test = record {
      pair =
          λ a b ne ua ub. record {
            meets = λ y n. record {
              meet = λ {R} {Q} {t} {u} p q. (known-meet test n ne (row_on 0 a R t n ua p) (row_on 0 b Q u n ub q)).meet p q;
            };
          };
    }

    -- ---- demand 3
    abbrev Sure : List ℕ → Type 0
    Sure s = Within m s × Known c cs (state_of c cs s)

    pub steps-keep-known : Keeps (urgent_step m) Sure
    steps-keep-known s a g ok e =
        let p = step-is-a-row c cs well conf join s ok.0 a g e in
        (p.1, row-keeps-known 0 a g.resets (state_of c cs s) (state_of c cs g.after) (inl p.0.urgent) p.0.row ok.1)

    -- "demand 3 is proved from every composed state reached from the start by steps of which each non-urgent one leaves a stable state"
    pub demand-3-where-reached : Passes m → (s : List ℕ) → Within m s → Reachable (product c cs) (state_of c cs s) → Demand3 c cs s
    demand-3-where-reached test s w r = commuting-steps-settle c cs well conf join Sure steps-keep-known
        (confluent-steps-commute c cs well conf join (Known c cs) (known-confluent test)) s w (w, reached-known r)
