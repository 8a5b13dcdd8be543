-- What one component's rows trigger and enable, exactly.
use mathlib.Core.Path.{◌≡◌, sym, ◌∙◌}
use mathlib.Core.Logic.{◌≢◌, ◌↔◌}
use mathlib.Core.Bool.{false, ◌&&◌, not, true≢false}
use Prim.Native.Nat.{ℕ, ◌<◌}
use lib.ListN.{length}
use borrow.Author.Tests.{not-true}
use Rattle.laws.specs.Sets.{has, ◌∈◌, ◌∖◌, only}
use Rattle.laws.proofs.SetLaws.{in_without, without_in, in_one, one_in}
use Rattle.laws.proofs.TestLaws.{and-true, not_so}
use Rattle.model.specs.Model.{Row, Comp, row_at, urgents}
use Rattle.model.specs.WellFormed.{WellComp}
use Rattle.iosa.specs.Automaton.{auto_of, Stable, Reachable}
use Rattle.iosa.specs.Checks.{unstable, reach_of}
use Rattle.iosa.proofs.Acceptance.Rows.{leads-at}
use Rattle.iosa.proofs.Acceptance.Enabled.{stable-test, test-stable}
use Rattle.iosa.proofs.Reaching.ReachExactly.{reach-exactly}
use Rattle.triggering.specs.Triggering.{Enabled, Triggers, Woken}
use Rattle.triggering.specs.Test.{uouts_at, stirred, woken, triggers_in, sets_in, wakers_in}
use Rattle.triggering.proofs.Tables.{cond-in, Grows, grows-as, grows-crossed, grows-over}
use Rattle.triggering.proofs.Enabling.{uouts-exactly}

-- a and b are enabled by one row
pub record InOneSet (c : Comp) (a b : ℕ) : Type 0 where
  pub action : ℕ
  pub target : ℕ
  pub wakes : Woken (auto_of c) action target
  pub left : Enabled (auto_of c) target a
  pub right : Enabled (auto_of c) target b

-- e enables a
pub record Wakes (c : Comp) (a e : ℕ) : Type 0 where
  pub target : ℕ
  pub wakes : Woken (auto_of c) e target
  pub enabled : Enabled (auto_of c) target a

module _ (c : Comp) (w : WellComp c) where
  -- ---- triggers
  module _ (k : ℕ) (h : k < length c.rows) where
    abbrev r : Row
    r = row_at c k

    -- but for its own action, what was enabled before
    before : (b : ℕ) → (has (uouts_at c r.from ∖ only r.action) b ≡ false) ↔ (r.action ≢ b → Enabled (auto_of c) r.from b → ⊥)
    before b = (
      λ e ne x. true≢false (sym (without_in (uouts_at c r.from) (only r.action) b ((uouts-exactly c w r.from b).1 x)
          (not_so (has (only r.action) b) (λ o. ne (sym (one_in r.action b o))))) ∙ e),
      λ f. not_so (has (uouts_at c r.from ∖ only r.action) b) (λ x.
          let p = in_without (uouts_at c r.from) (only r.action) b x in
          f (λ e. true≢false (sym (rw e (in_one b)) ∙ p.1)) ((uouts-exactly c w r.from b).0 p.0)),
    )

    pub stirred-triggers : (b : ℕ) → b ∈ stirred c r → Triggers (auto_of c) r.action b
    unfolding stirred
    stirred-triggers b x =
        let p = (cond-in (has (urgents c) r.action && reach_of c r.from) (uouts_at c r.target ∖ (uouts_at c r.from ∖ only r.action)) b).0 x in
        let q = and-true (has (urgents c) r.action) (reach_of c r.from) p.0 in
        let n = in_without (uouts_at c r.target) (uouts_at c r.from ∖ only r.action) b p.1 in
        record {
          from = r.from;
          to = r.target;
          guard = _;
          resets = _;
          reached = (reach-exactly c w r.from (w.rows k h).from).0 q.1;
          urgent = q.0;
          row = leads-at c k h;
          enabled = (uouts-exactly c w r.target b).0 n.0;
          new = (before b).0 n.1;
        }

    pub triggers-stirred : (b : ℕ) → r.action ∈ urgents c → Reachable (auto_of c) r.from → Enabled (auto_of c) r.target b
        → (r.action ≢ b → Enabled (auto_of c) r.from b → ⊥) → b ∈ stirred c r
    unfolding stirred
    triggers-stirred b u re en new =
        (cond-in (has (urgents c) r.action && reach_of c r.from) (uouts_at c r.target ∖ (uouts_at c r.from ∖ only r.action)) b).1 (
          simp (u, (reach-exactly c w r.from (w.rows k h).from).1 re),
          without_in (uouts_at c r.target) (uouts_at c r.from ∖ only r.action) b ((uouts-exactly c w r.target b).1 en) ((before b).1 new),
        )

    -- ---- what it enables
    pub woken-wakes : (b : ℕ) → b ∈ woken c r → Woken (auto_of c) r.action r.target × Enabled (auto_of c) r.target b
    unfolding woken
    woken-wakes b x =
        let p = (cond-in (not (has (urgents c) r.action) && (reach_of c r.from && not (unstable c r.from))) (uouts_at c r.target) b).0 x in
        let q = and-true (not (has (urgents c) r.action)) (reach_of c r.from && not (unstable c r.from)) p.0 in
        let s = and-true (reach_of c r.from) (not (unstable c r.from)) q.1 in (
          record {
            from = r.from;
            guard = _;
            resets = _;
            reached = (reach-exactly c w r.from (w.rows k h).from).0 s.0;
            stable = test-stable c w r.from (not-true (unstable c r.from) s.1);
            calm = λ u. true≢false (sym u ∙ not-true (has (urgents c) r.action) q.0);
            row = leads-at c k h;
          },
          (uouts-exactly c w r.target b).0 p.1,
        )

    pub wakes-woken : (b : ℕ) → (r.action ∈ urgents c → ⊥) → Reachable (auto_of c) r.from → Stable (auto_of c) r.from → Enabled (auto_of c) r.target b
        → b ∈ woken c r
    unfolding woken
    wakes-woken b calm re st en =
        (cond-in (not (has (urgents c) r.action) && (reach_of c r.from && not (unstable c r.from))) (uouts_at c r.target) b).1 (
          simp (not_so (has (urgents c) r.action) calm, (reach-exactly c w r.from (w.rows k h).from).1 re, stable-test c w r.from st),
          (uouts-exactly c w r.target b).1 en,
        )

  -- a set that e enables, by the row that gives it
  woken-by : {e t b : ℕ} (x : Woken (auto_of c) e t) → Enabled (auto_of c) t b → b ∈ woken c (row_at c x.row.place)
  woken-by {e} {t} {b} x en =
      let l = x.row in
      wakes-woken l.place l.inside b (rw l.action x.calm) (rw l.from x.reached) (rw l.from x.stable) (rw l.target en)

  -- ---- the tables
  pub grows-triggers : Grows (triggers_in c) (λ a b. Triggers (auto_of c) a b)
  unfolding triggers_in
  grows-triggers = grows-as (λ a b h. (
    λ p. rw (one_in (row_at c p.0).action a p.2.0) (stirred-triggers p.0 p.1 b p.2.1),
    λ t.
        let l = t.row in (
          l.place,
          l.inside,
          (
            rw l.action (in_one a),
            triggers-stirred l.place l.inside b (rw l.action t.urgent) (rw l.from t.reached) (rw l.target t.enabled)
                (rw (l.action, l.from) t.new),
          ),
        ),
  )) (grows-over (λ k. _) (λ k a b. _) (length c.rows) (λ k h. grows-crossed (only (row_at c k).action) (stirred c (row_at c k))))

  pub grows-sets : Grows (sets_in c) (InOneSet c)
  unfolding sets_in
  grows-sets = grows-as (λ a b h. (
    λ p.
        let x = woken-wakes p.0 p.1 a p.2.0 in
        let y = woken-wakes p.0 p.1 b p.2.1 in
        record { action = _; target = _; wakes = x.0; left = x.1; right = y.1 },
    λ t. (t.wakes.row.place, t.wakes.row.inside, (woken-by t.wakes t.left, woken-by t.wakes t.right)),
  )) (grows-over (λ k. _) (λ k a b. _) (length c.rows) (λ k h. grows-crossed (woken c (row_at c k)) (woken c (row_at c k))))

  pub grows-wakers : Grows (wakers_in c) (Wakes c)
  unfolding wakers_in
  grows-wakers = grows-as (λ a e h. (
    λ p.
        let x = woken-wakes p.0 p.1 a p.2.0 in
        rw (one_in (row_at c p.0).action e p.2.1) (record { target = _; wakes = x.0; enabled = x.1 }),
    λ t. (t.wakes.row.place, t.wakes.row.inside, (woken-by t.wakes t.enabled, rw t.wakes.row.action (in_one e))),
  )) (grows-over (λ k. _) (λ k a b. _) (length c.rows) (λ k h. grows-crossed (woken c (row_at c k)) (only (row_at c k).action)))
