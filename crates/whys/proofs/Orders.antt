-- The two orders of a clash, exactly: they are there, they are the rows', and they are unequal.
use mathlib.Core.Path.{◌≡◌, refl, sym, ◌∙◌, ap, subst}
use mathlib.Core.Logic.{◌↔◌}
use mathlib.Core.Option.{Option, none, some, some_inj}
use Prim.Native.Nat.{ℕ}
use Rattle.laws.specs.Sets.{◌∈◌}
use Rattle.laws.proofs.SearchLaws.{no-some}
use Rattle.model.specs.Model.{Row, Comp, urgents}
use Rattle.iosa.specs.Automaton.{Leads}
use Rattle.iosa.specs.Checks.{row_for}
use Rattle.iosa.specs.Faults.{Broken18}
use Rattle.iosa.specs.Stepped.{Gone}
use Rattle.iosa.proofs.Acceptance.Rows.{Single, row-leads, leads-row, row-missing, urgent-unclocked}
use Rattle.whys.specs.Way.{Order, Follows, follows, misses, InOrder, Unequal, first-misses, second-misses, differ, step_by, order_from, order_of}

module _ (c : Comp) (one : Single c) where
  -- ---- the second step
  step_follows : (s b : ℕ) → b ∈ urgents c → Follows c s b (step_by (row_for c s b))
  step_follows s b u = go (row_for c s b) refl
    where
      go : (o : Option Row) → row_for c s b ≡ o → Follows c s b (step_by o)
      go none e = misses (λ C R t l. row-missing c s b e l)
      go (some r) e = follows (row-leads c one s b (urgent-unclocked c b u) r e)

  follows-step : (s b : ℕ) → b ∈ urgents c → (o : Option (Gone ℕ)) → Follows c s b o → step_by (row_for c s b) ≡ o
  follows-step s b u none (misses n) = go (row_for c s b) refl
    where
      go : (o : Option Row) → row_for c s b ≡ o → step_by o ≡ none
      go none e = refl
      go (some r) e = absurd (n 0 r.resets r.target (row-leads c one s b (urgent-unclocked c b u) r e))
  follows-step s b u (some g) (follows l) =
      let f = leads-row c one s b (urgent-unclocked c b u) l in
      ap step_by f.1 ∙ rw (f.2, f.3)

  -- ---- an order
  pub order-exactly : (s a b : ℕ) → a ∈ urgents c → b ∈ urgents c → (o : Order) → (order_of c s a b ≡ some o) ↔ InOrder c s a b o
  unfolding order_of
  order-exactly s a b ua ub o = (there (row_for c s a) refl, back)
    where
      there : (q : Option Row) → row_for c s a ≡ q → order_from c b q ≡ some o → InOrder c s a b o
      there none e d = absurd (no-some refl d)
      there (some r) e d =
          subst (InOrder c s a b) (some_inj.0 d)
          (record { one = row-leads c one s a (urgent-unclocked c a ua) r e; two = step_follows r.target b ub })

      back : InOrder c s a b o → order_from c b (row_for c s a) ≡ some o
      back p =
          let f = leads-row c one s a (urgent-unclocked c a ua) p.one in
          let t = follows-step o.one.after b ub o.two p.two in
          ap (order_from c b) f.1 ∙ rw (f.2, f.3, t)

  pub order-there : (s a b : ℕ) → a ∈ urgents c → {C R t : ℕ} → Leads c s C a R t → (o : Order) × (order_of c s a b ≡ some o)
  unfolding order_of
  order-there s a b ua l = let f = leads-row c one s a (urgent-unclocked c a ua) l in (_, ap (order_from c b) f.1)

  -- ---- "the orders unequal"
  pub clash-shown : (s a b : ℕ) → Broken18 c s a b → (x y : Order) → InOrder c s a b x → InOrder c s b a y → Unequal x y
  clash-shown s a b k x y p q = go x.two y.two refl refl
    where
      un-a : a ∈ urgents c
      un-a = k.lower

      un-b : b ∈ urgents c
      un-b = k.higher

      go : (o o' : Option (Gone ℕ)) → x.two ≡ o → y.two ≡ o' → Unequal x y
      go none o' e d = first-misses e
      go (some g) none e d = second-misses d
      go (some g) (some h) e d =
          differ e d (λ i r r'. apart (subst (Follows c x.one.after b) e p.two) (subst (Follows c y.one.after a) d q.two) i r r')
        where
          apart : Follows c x.one.after b (some g) → Follows c y.one.after a (some h) → g.after ≡ h.after → g.resets ≡ y.one.resets
              → h.resets ≡ x.one.resets → ⊥
          apart (follows l) (follows m) i r r' =
              let fa = leads-row c one s a (urgent-unclocked c a un-a) k.row in
              let fa' = leads-row c one s a (urgent-unclocked c a un-a) p.one in
              let fb = leads-row c one s b (urgent-unclocked c b un-b) k.other in
              let fb' = leads-row c one s b (urgent-unclocked c b un-b) q.one in
              let sa = some_inj.0 (sym fa.1 ∙ fa'.1) in
              let sb = some_inj.0 (sym fb.1 ∙ fb'.1) in
              let ra : x.one.resets ≡ k.resets = sym fa'.2 ∙ ap (λ z. z.resets) (sym sa) ∙ fa.2 in
              let ta : x.one.after ≡ k.target = sym fa'.3 ∙ ap (λ z. z.target) (sym sa) ∙ fa.3 in
              let rb : y.one.resets ≡ k.resets' = sym fb'.2 ∙ ap (λ z. z.resets) (sym sb) ∙ fb.2 in
              let tb : y.one.after ≡ k.target' = sym fb'.3 ∙ ap (λ z. z.target) (sym sb) ∙ fb.3 in
              k.parted (rw (ta, r ∙ rb) at l) (rw (tb, r' ∙ ra, sym i) at m)
