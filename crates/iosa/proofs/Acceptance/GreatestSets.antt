-- (f) by the greatest sets: they are determined, and sets that will do can be given exactly if these will.
use mathlib.Core.Path.{◌≡◌, refl, sym, subst}
use mathlib.Core.Logic.{◌↔◌, ⊎_elim}
use mathlib.Core.Bool.{Bool, true, false, cond, true≢false, false≢true}
use Prim.Native.Nat.{ℕ, ◌<◌}
use lib.ListN.{length}
use lib.Dec.{eqb}
use borrow.Author.Tests.{eqb-true, eq-eqb}
use Rattle.laws.specs.Sets.{has, ◌∪◌, ◌∩◌, ◌∖◌, within, ◌∈◌, ◌⊆◌}
use Rattle.laws.proofs.SetLaws.{in-or, or-in-l, or-in-r, in_and, and_in, in_without, without_in, has-ext}
use Rattle.model.specs.Model.{Comp, row_at, guard_set}
use Rattle.model.specs.WellFormed.{WellComp}
use Rattle.iosa.specs.Automaton.{auto_of, Active, CondF}
use Rattle.iosa.specs.Checks.{enabling_of, unstable, allowed}
use Rattle.iosa.specs.Greatest.{handed, Allows, Above, Greatest}
use Rattle.iosa.proofs.Acceptance.Rows.{leads-at}
use Rattle.iosa.proofs.Acceptance.Enabled.{enabling-row, row-enabling, stable-test, test-stable}

-- ---- sets that will do, and sets that the rows allow
pick : (b : Bool) (u v x : ℕ) → (b ≡ true → x ∈ u) → (b ≡ false → x ∈ v) → x ∈ cond b u v
pick true u v x f g = f refl
pick false u v x f g = g refl

picked : (b : Bool) (u v x : ℕ) → x ∈ cond b u v → (b ≡ true → x ∈ u) × (b ≡ false → x ∈ v)
picked true u v x h = (λ e. h, λ e. absurd (true≢false e))
picked false u v x h = (λ e. absurd (false≢true e), λ e. h)

abbrev start_part : Comp → ℕ → ℕ
start_part c s = cond (eqb s c.start) c.started c.clocks

abbrev rest_part : Comp → ℕ → ℕ
rest_part c s = cond (unstable c s) c.clocks (enabling_of c s)

module _ (c : Comp) where
  parts-allowed : (s x : ℕ) → x ∈ c.clocks → x ∈ start_part c s → x ∈ rest_part c s → x ∈ allowed c s
  unfolding allowed
  parts-allowed s x p q r = and_in c.clocks (start_part c s ∩ rest_part c s) x p (and_in (start_part c s) (rest_part c s) x q r)

  allowed-parts : (s x : ℕ) → x ∈ allowed c s → (x ∈ c.clocks) × (x ∈ start_part c s) × (x ∈ rest_part c s)
  unfolding allowed
  allowed-parts s x h =
      let p = in_and c.clocks (start_part c s ∩ rest_part c s) x h in
      let q = in_and (start_part c s) (rest_part c s) x p.1 in
      (p.0, q.0, q.1)

handed-grows : (t u C R : ℕ) → t ⊆ u → (t ∖ C ∪ R) ⊆ (u ∖ C ∪ R)
handed-grows t u C R f x h = ⊎_elim
    (λ p. let w = in_without t C x p in or-in-l (u ∖ C) R x (without_in u C x (f x w.0) w.1))
    (or-in-r (u ∖ C) R x)
    (in-or (t ∖ C) R x h)

module _ (c : Comp) (w : WellComp c) where
  pub active-allows : (A : ℕ → ℕ) → Active (auto_of c) A → Allows c A
  active-allows A ac = record {
    within = λ s h x k. parts-allowed c s x (ac.own s h x k)
        (pick (eqb s c.start) c.started c.clocks x (λ e. ac.first x (subst (λ n. x ∈ A n) (eqb-true s c.start e) k)) (λ e. ac.own s h x k))
        (pick (unstable c s) c.clocks (enabling_of c s) x (λ e. ac.own s h x k) (λ e. row-enabling c s x (ac.equal s h (test-stable c w s e) x k)));
    kept = λ k h. ac.kept (leads-at c k h);
  }

  pub allows-active : (A : ℕ → ℕ) → Allows c A → ((s : ℕ) → s < c.states → enabling_of c s ⊆ A s) → Active (auto_of c) A
  allows-active A al en = record {
    own = λ s h x k. (allowed-parts c s x (al.within s h x k)).0;
    first =
        λ x k. (picked (eqb c.start c.start) c.started c.clocks x
        (allowed-parts c c.start x (al.within c.start w.start x k)).1).0 (eq-eqb c.start c.start refl);
    enabled = λ s h x e. en s h x (row-enabling c s x e);
    equal =
        λ s h st x k. enabling-row c s x ((picked (unstable c s) c.clocks (enabling_of c s) x (allowed-parts c s x (al.within s h x k)).2).1
        (stable-test c w s st));
    kept = λ l. rw (l.from, l.guard, l.resets, l.target) at (al.kept l.place l.inside);
  }

  -- ---- (f) by the greatest sets
  pub greatest-decides : (A : ℕ → ℕ) → Greatest c A → CondF (auto_of c) ↔ ((s : ℕ) → s < c.states → enabling_of c s ⊆ A s)
  greatest-decides A g = (
    λ f s h x k. g.above.all f.0 (active-allows f.0 f.1) s h x (f.1.enabled s h x (enabling-row c s x k)),
    λ en. (A, allows-active A g.allows en),
  )

  pub greatest-determined : (A B : ℕ → ℕ) → Greatest c A → Greatest c B → (s : ℕ) → s < c.states → A s ≡ B s
  greatest-determined A B g h s k =
      has-ext (A s) (B s) (λ x. same (has (A s) x) (has (B s) x) (h.above.all A g.allows s k x) (g.above.all B h.allows s k x))
    where
      same : (a b : Bool) → (a ≡ true → b ≡ true) → (b ≡ true → a ≡ true) → a ≡ b
      same true b f g = sym (f refl)
      same false true f g = g refl
      same false false f g = refl

  -- ---- narrowing: what stands above all sets that the rows allow still does where a target keeps what a row hands on

  pub above-handed : (A B : ℕ → ℕ) → Above c A → Allows c B → (k : ℕ) → k < length c.rows → B (row_at c k).target ⊆ A (row_at c k).target ∩ handed
      A (row_at c k)
  above-handed A B ab al k h x m =
      let r = row_at c k in
      and_in (A r.target) (handed A r) x (ab.all B al r.target (w.rows k h).target x m)
      (handed-grows (B r.from) (A r.from) (guard_set r.guard) r.resets (ab.all B al r.from (w.rows k h).from) x (al.kept k h x m))
