-- 11 "(c) broken": the test of a row, and that the search finds none exactly if (c) holds.
use mathlib.Core.Path.{◌≡◌, sym, ◌∙◌}
use mathlib.Core.Logic.{◌≢◌, ◌↔◌}
use mathlib.Core.Bool.{true, ◌&&◌, not, true≢false}
use mathlib.Core.Option.{none}
use Prim.Native.Nat.{ℕ, suc, ◌<◌}
use native.Mathlib.Omega.{arith}
use lib.ListN.{length}
use lib.Dec.{eqb}
use borrow.Author.Tests.{eqb-true, eqb-false, eq-eqb, ne_eqb, not-true}
use Rattle.laws.specs.Sets.{◌∈◌}
use Rattle.laws.proofs.SearchLaws.{least-none, none-least, any-true, true-any}
use Rattle.laws.proofs.TestLaws.{and-true, not_so, apart-cases}
use Rattle.laws.proofs.SetLaws.{in_one}
use Rattle.model.specs.Model.{Row, Comp, row_at}
use Rattle.model.specs.WellFormed.{WellComp}
use Rattle.iosa.specs.Automaton.{Leads, auto_of, CondC}
use Rattle.iosa.specs.Checks.{same_clock, repeats, check11}
use Rattle.iosa.specs.Faults.{Broken11}
use Rattle.iosa.proofs.Acceptance.Guards.{guard-some, guard-in, in-guard, guard-same}
use Rattle.iosa.proofs.Acceptance.Order.{rows-differ}
use Rattle.iosa.proofs.Acceptance.Rows.{leads-at, row-eq, same_place}

same-clock : (r q : Row) (x : ℕ) → r.guard ≡ suc x → q.guard ≡ suc x → r.from ≡ q.from → same_clock r q ≡ true
same-clock r q x g h f = simp (ne_eqb r.guard 0 (λ z. omega arith), eq-eqb r.guard q.guard (g ∙ sym h), eq-eqb r.from q.from f)

clock-same : (r q : Row) → same_clock r q ≡ true → (r.guard ≢ 0) × (r.guard ≡ q.guard) × (r.from ≡ q.from)
clock-same r q e =
    let p = and-true (not (eqb r.guard 0)) (eqb r.guard q.guard && eqb r.from q.from) e in
    let s = and-true (eqb r.guard q.guard) (eqb r.from q.from) p.1 in
    (eqb-false r.guard 0 (not-true (eqb r.guard 0) p.0), eqb-true r.guard q.guard s.0, eqb-true r.from q.from s.1)

module _ (c : Comp) where
  -- ---- the test of a row
  pub repeat-broken : (k : ℕ) → k < length c.rows → repeats c k ≡ true → Broken11 c k
  unfolding repeats
  repeat-broken k h e =
      let j = any-true (λ j. same_clock (row_at c j) (row_at c k)) k e in
      let p = clock-same (row_at c j.0) (row_at c k) j.2 in
      let x = guard-some (row_at c j.0).guard p.0 in
      record {
        inside = h;
        earlier = j.0;
        above = j.1;
        from = p.2;
        clock = x.0;
        first = rw x.1 (in_one x.0);
        again = in-guard (row_at c k).guard x.0 (sym p.1 ∙ guard-in (row_at c j.0).guard x.0 (rw x.1 (in_one x.0)));
      }

  pub broken-repeat : (k : ℕ) → Broken11 c k → repeats c k ≡ true
  unfolding repeats
  broken-repeat k b =
      true-any (λ j. same_clock (row_at c j) (row_at c k)) k b.earlier b.above
      (same-clock (row_at c b.earlier) (row_at c k) b.clock (guard-in (row_at c b.earlier).guard b.clock b.first)
      (guard-in (row_at c k).guard b.clock b.again) b.from)

  -- ---- the search
  unrepeated : check11 c ≡ none → (k : ℕ) → Broken11 c k → ⊥
  unfolding check11
  unrepeated e k b = true≢false (sym (broken-repeat k b) ∙ least-none (repeats c) (length c.rows) e k b.inside)

  -- two rows of the relation with a clock in common: the later one repeats it
  later : (x : ℕ) {s C D a b R Q t u : ℕ} → x ∈ C → x ∈ D → (l : Leads c s C a R t) (m : Leads c s D b Q u) → l.place < m.place → Broken11 c m.place
  later x p q l m h = record {
    inside = m.inside;
    earlier = l.place;
    above = h;
    from = l.from ∙ sym m.from;
    clock = x;
    first = rw l.guard p;
    again = rw m.guard q;
  }

  module _ (w : WellComp c) where
    refuted : CondC (auto_of c) → (k : ℕ) → Broken11 c k → ⊥
    refuted cc k b =
        let s = cc.same b.clock b.first b.again (rw b.from at (leads-at c b.earlier (omega (arith, b.above, b.inside))))
        (leads-at c k b.inside) in
        rows-differ c w b.earlier k b.above b.inside
        (row-eq (row_at c b.earlier) (row_at c k) b.from (guard-same (row_at c b.earlier).guard (row_at c k).guard s.0) s.1 s.2 s.3)

    pub check11-exactly : (check11 c ≡ none) ↔ CondC (auto_of c)
    unfolding check11
    check11-exactly = (
      λ e. record {
        same =
            λ x p q l m. apart-cases l.place m.place (same_place l m) (λ h. absurd (unrepeated e m.place (later x p q l m h)))
            (λ h. absurd (unrepeated e l.place (later x q p m l h)));
      },
      λ cc. none-least (repeats c) (length c.rows) (λ k h. not_so (repeats c k) (λ e. refuted cc k (repeat-broken k h e))),
    )
