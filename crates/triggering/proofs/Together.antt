-- Which urgent outputs are together, and which pairs are led to, exactly.
use mathlib.Core.Path.{◌≡◌, sym, ◌∙◌}
use mathlib.Core.Logic.{◌≢◌, ◌↔◌, ◌⊎◌, inl, inr, ⊎_elim}
use mathlib.Core.Bool.{not, cond, true≢false}
use mathlib.Core.List.{List}
use Prim.Native.Nat.{ℕ, ◌<◌}
use lib.ListN.{length, get_or}
use lib.Dec.{eqb}
use borrow.Author.Tests.{eqb-false, ne_eqb, not-true}
use Rattle.laws.specs.Sets.{has, ◌∩◌, ◌∖◌, ◌∈◌, only}
use Rattle.laws.proofs.SetLaws.{in_and, and_in, in_without, without_in, or-in-r, in_one, one_in, none_in}
use Rattle.laws.proofs.TestLaws.{not_so, apart-cases}
use Rattle.answer.specs.Limits.{max_actions}
use Rattle.model.specs.Model.{Model, comp_at, outputs}
use Rattle.model.specs.WellFormed.{WellFormed}
use Rattle.iosa.specs.Automaton.{Joinable}
use Rattle.iosa.proofs.Acceptance.Enabled.{urgent-output}
use Rattle.triggering.specs.Triggering.{Enabled, part, LeadsOn, AtStart, Together, start, in_one_set, in_two_parts, Led}
use Rattle.triggering.specs.Test.{crossed, uouts_at, sets_in, wakers_in, leads_of, starts_of, sets_of, wakers_of, own_of, sharing, elsewhere}
use Rattle.triggering.specs.Test.{together_of, spread_by, led_by, led_of}
use Rattle.triggering.proofs.Tables.{cond-in, in-joined, Grows, grows-as, grows-crossed, grows-over, grown, some-member}
use Rattle.triggering.proofs.Enabling.{uouts-exactly, enabled-below}
use Rattle.triggering.proofs.Rows.{InOneSet, grows-sets, Wakes, grows-wakers}
use Rattle.triggering.proofs.Leading.{leads-exactly}

module _ (m : Model) (w : WellFormed m) where
  -- ---- at the start
  pub starts-exactly : (b : ℕ) → (b ∈ starts_of m) ↔ AtStart m b
  unfolding starts_of
  starts-exactly b =
      let p = in-joined (λ i. uouts_at (comp_at m i) (comp_at m i).start) (length m) b in (
        λ h. let x =
            p.0 h in record {
              index = x.0;
              inside = x.1;
              enabled = (uouts-exactly (comp_at m x.0) (w.each x.0 x.1) (comp_at m x.0).start b).0 x.2;
            },
        λ e. p.1 (e.index, e.inside, (uouts-exactly (comp_at m e.index) (w.each e.index e.inside) (comp_at m e.index).start b).1 e.enabled),
      )

  -- ---- in one set
  abbrev OneSet : ℕ → ℕ → Type 0
  OneSet a b = (i : ℕ) × (i < length m) × InOneSet (comp_at m i) a b

  grows-sets-of : Grows (sets_of m) OneSet
  unfolding sets_of
  grows-sets-of = grows-over (λ i. sets_in (comp_at m i)) (λ i. InOneSet (comp_at m i)) (length m) (λ i h. grows-sets (comp_at m i) (w.each i h))

  -- ---- by the same action in two components
  wakers-exactly : (a e : ℕ) → a < max_actions → (e ∈ get_or (wakers_of m) a 0) ↔ ((i : ℕ) × (i < length m) × Wakes (comp_at m i) a e)
  unfolding wakers_of
  wakers-exactly = grown (grows-over (λ i. wakers_in (comp_at m i)) (λ i. Wakes (comp_at m i)) (length m) (λ i h. grows-wakers (comp_at m i) (w.each i h)))

  sharing-exactly : (K : List ℕ) (a b : ℕ) → (b ∈ sharing K a) ↔ (b < max_actions) × ((e : ℕ) × (e ∈ get_or K a 0) × (e ∈ get_or K b 0))
  unfolding sharing
  sharing-exactly K a b =
      let p = in-joined (λ d. cond (not (eqb (get_or K a 0 ∩ get_or K d 0) 0)) (only d) 0) max_actions b in
      (λ h. there (p.0 h), λ x. p.1 (b, x.0, back x.1))
    where
      there : (d : ℕ) × (d < max_actions) × (b ∈ cond (not (eqb (get_or K a 0 ∩ get_or K d 0) 0)) (only d) 0)
          → (b < max_actions) × ((e : ℕ) × (e ∈ get_or K a 0) × (e ∈ get_or K b 0))
      there (d, h, x) =
          let q = (cond-in (not (eqb (get_or K a 0 ∩ get_or K d 0) 0)) (only d) b).0 x in
          let e : b ≡ d = one_in d b q.1 in
          let y = some-member (get_or K a 0 ∩ get_or K d 0) (eqb-false (get_or K a 0 ∩ get_or K d 0) 0 (not-true (eqb (get_or K a 0 ∩ get_or K d 0) 0) q.0)) in
          let z = in_and (get_or K a 0) (get_or K d 0) y.0 y.1 in
          rw e (h, (y.0, z.0, z.1))

      back : (e : ℕ) × (e ∈ get_or K a 0) × (e ∈ get_or K b 0) → b ∈ cond (not (eqb (get_or K a 0 ∩ get_or K b 0) 0)) (only b) 0
      back (e, x, y) = (cond-in (not (eqb (get_or K a 0 ∩ get_or K b 0) 0)) (only b) b).1 (
        rw (ne_eqb (get_or K a 0 ∩ get_or K b 0) 0 (λ z. none_in e (rw z at (and_in (get_or K a 0) (get_or K b 0) e x y)))),
        in_one b,
      )

  own-exactly : (a b : ℕ) → (b ∈ own_of m a) ↔ ((i : ℕ) × (i < length m) × (a ∈ (comp_at m i).uouts) × (b ∈ (comp_at m i).uouts))
  unfolding own_of
  own-exactly a b =
      let p = in-joined (λ i. cond (has (comp_at m i).uouts a) (comp_at m i).uouts 0) (length m) b in (
        λ h. let x = p.0 h in let y = (cond-in (has (comp_at m x.0).uouts a) (comp_at m x.0).uouts b).0 x.2 in (x.0, x.1, y.0, y.1),
        λ x. p.1 (x.0, x.1, (cond-in (has (comp_at m x.0).uouts a) (comp_at m x.0).uouts b).1 (x.2, x.3)),
      )

  uout-of : {i s b : ℕ} → i < length m → Enabled (part m i) s b → b ∈ (comp_at m i).uouts
  uout-of {i} {s} {b} h e = urgent-output (comp_at m i) (w.each i h) b e.row.output e.row.urgent

  module _ (join : Joinable m) where
    -- an action is an output of one component at most
    one-owner : (a i j : ℕ) → i < length m → j < length m → a ∈ (comp_at m i).uouts → a ∈ (comp_at m j).uouts → i ≡ j
    one-owner a i j h k p q =
        apart-cases i j (λ e. e) (λ l. absurd ((join.pair i j l k).outputs a (output i p) (output j q)))
        (λ l. absurd ((join.pair j i l h).outputs a (output j q) (output i p)))
      where
        output : (i : ℕ) → a ∈ (comp_at m i).uouts → a ∈ outputs (comp_at m i)
        output i p = or-in-r (comp_at m i).outs (comp_at m i).uouts a p

    -- one action enables a in one component and b in another
    record Elsewhere (a b : ℕ) : Type 0 where
      action : ℕ
      left : ℕ
      right : ℕ
      left_in : left < length m
      right-in : right < length m
      apart : left ≢ right
      here : Wakes (comp_at m left) a action
      there : Wakes (comp_at m right) b action

    shared-elsewhere : (a b : ℕ) → a < max_actions → b ∈ sharing (wakers_of m) a ∖ own_of m a → Elsewhere a b
    shared-elsewhere a b h x =
        let p = in_without (sharing (wakers_of m) a) (own_of m a) b x in
        let q = (sharing-exactly (wakers_of m) a b).0 p.0 in
        let y = (wakers-exactly a q.1.0 h).0 q.1.1 in
        let z = (wakers-exactly b q.1.0 q.0).0 q.1.2 in
        record {
          action = q.1.0;
          left = y.0;
          right = z.0;
          left_in = y.1;
          right-in = z.1;
          apart = λ e. true≢false (sym ((own-exactly a b).1 (z.0, z.1, rw e at (uout-of y.1 y.2.enabled), uout-of z.1 z.2.enabled)) ∙ p.1);
          here = y.2;
          there = z.2;
        }

    elsewhere-shared : (a b : ℕ) → a < max_actions → Elsewhere a b → b ∈ sharing (wakers_of m) a ∖ own_of m a
    elsewhere-shared a b h x =
        let k = enabled-below (comp_at m x.right) (w.each x.right x.right-in) x.there.enabled in
        without_in (sharing (wakers_of m) a) (own_of m a) b
        ((sharing-exactly (wakers_of m) a b).1 (
          k,
          (
            x.action,
            (wakers-exactly a x.action h).1 (x.left, x.left_in, x.here),
            (wakers-exactly b x.action k).1 (x.right, x.right-in, x.there),
          ),
        ))
        (not_so (has (own_of m a) b) (λ o.
        let p = (own-exactly a b).0 o in
        x.apart (sym (one-owner a p.0 x.left p.1 x.left_in p.2 (uout-of x.left_in x.here.enabled))
        ∙ one-owner b p.0 x.right p.1 x.right-in p.3 (uout-of x.right-in x.there.enabled))))

    grows-elsewhere : Grows (elsewhere m (wakers_of m)) Elsewhere
    unfolding elsewhere
    grows-elsewhere = grows-as (λ a b h. (
      λ p. shared-elsewhere a b h (rw (sym (one_in p.0 a p.2.0)) at p.2.1),
      λ x. (a, h, (in_one a, elsewhere-shared a b h x)),
    )) (grows-over (λ k. _) (λ k a b. _) max_actions (λ k h. grows-crossed (only k) (sharing (wakers_of m) k ∖ own_of m k)))

    -- ---- together
    pub together-exactly : (a b : ℕ) → a < max_actions → (b ∈ get_or (together_of m) a 0) ↔ Together m a b
    unfolding together_of
    together-exactly a b h =
        let S = starts_of m in
        let first = grown (grows-crossed S S) a b h in
        let sets = grows-sets-of.at (crossed S S _) a b h in
        let all = grows-elsewhere.at (sets_of m (crossed S S _)) a b h in (
          λ x. ⊎_elim
              (λ y. ⊎_elim (λ z. at-start (first.0 z)) (λ p. in_one_set p.0 p.1 p.2.wakes p.2.left p.2.right) (sets.0 y))
              (λ e. in_two_parts e.left e.right e.left_in e.right-in e.apart e.here.wakes e.there.wakes e.here.enabled
              e.there.enabled)
              (all.0 x),
          λ t. all.1 (back t (λ p. sets.1 (inl (first.1 p))) (λ p. sets.1 (inr p))),
        )
      where
        at-start : (a ∈ starts_of m) × (b ∈ starts_of m) → Together m a b
        at-start p = start ((starts-exactly a).0 p.0) ((starts-exactly b).0 p.1)

        back : {X : Type 0} → Together m a b → ((a ∈ starts_of m) × (b ∈ starts_of m) → X) → (OneSet a b → X) → X ⊎ Elsewhere a b
        back (start x y) f g = inl (f ((starts-exactly a).1 x, (starts-exactly b).1 y))
        back (in_one_set {e} {t} i l x y z) f g = inl (g (i, l, record { action = e; target = t; wakes = x; left = y; right = z }))
        back (in_two_parts {e} {t} {u} i j l k n x y p q) f g = inr (record {
          action = e;
          left = i;
          right = j;
          left_in = l;
          right-in = k;
          apart = n;
          here = record { target = t; wakes = x; enabled = p };
          there = record { target = u; wakes = y; enabled = q };
        })

    -- ---- led to
    pub together-below : {a b : ℕ} → Together m a b → (a < max_actions) × (b < max_actions)
    together-below (start x y) = (
      enabled-below (comp_at m x.index) (w.each x.index x.inside) x.enabled,
      enabled-below (comp_at m y.index) (w.each y.index y.inside) y.enabled,
    )
    together-below (in_one_set i l x y z) = (enabled-below (comp_at m i) (w.each i l) y, enabled-below (comp_at m i) (w.each i l) z)
    together-below (in_two_parts i j l k n x y p q) = (enabled-below (comp_at m i) (w.each i l) p, enabled-below (comp_at m j) (w.each j k) q)

    pub spread-exactly : (L : List ℕ) (X b : ℕ) → (b ∈ spread_by L X) ↔ ((d : ℕ) × (d < max_actions) × (d ∈ X) × (b ∈ get_or L d 0))
    unfolding spread_by
    spread-exactly L X b =
        let p = in-joined (λ d. cond (has X d) (get_or L d 0) 0) max_actions b in (
          λ h. let x = p.0 h in let y = (cond-in (has X x.0) (get_or L x.0 0) b).0 x.2 in (x.0, x.1, y.0, y.1),
          λ x. p.1 (x.0, x.1, (cond-in (has X x.0) (get_or L x.0 0) b).1 (x.2, x.3)),
        )

    -- of any table that says what leads on to what
    module _ (L : List ℕ) (leads : (a b : ℕ) → a < max_actions → b < max_actions → (b ∈ get_or L a 0) ↔ LeadsOn m a b) where
      led-by-exactly : (a b : ℕ) → a < max_actions → b < max_actions → (b ∈ get_or (led_by L (together_of m)) a 0) ↔ Led m a b
      unfolding led_by
      led-by-exactly a b h k =
          let W = together_of m in
          let g = grown (grows-over (λ x. crossed (get_or L x 0) (spread_by L (get_or W x 0))) (λ x a b. _) max_actions
          (λ x l. grows-crossed (get_or L x 0) (spread_by L (get_or W x 0)))) a b h in (
            λ e.
                let p = g.0 e in
                let q = (spread-exactly L (get_or W p.0 0) b).0 p.2.1 in
                record {
                  left = p.0;
                  right = q.0;
                  both = (together-exactly p.0 q.0 p.1).0 q.2;
                  leftward = (leads p.0 a p.1 h).0 p.2.0;
                  rightward = (leads q.0 b q.1 k).0 q.3;
                },
            λ l.
                let n = together-below l.both in
                g.1 (
                  l.left,
                  n.0,
                  (
                    (leads l.left a n.0 h).1 l.leftward,
                    (spread-exactly L (get_or W l.left 0) b).1
                        (l.right, n.1, (together-exactly l.left l.right n.0).1 l.both, (leads l.right b n.1 k).1 l.rightward),
                  ),
                ),
          )

    pub led-exactly : (a b : ℕ) → a < max_actions → b < max_actions → (b ∈ get_or (led_of m) a 0) ↔ Led m a b
    unfolding led_of
    led-exactly = led-by-exactly (leads_of m) (leads-exactly m w)
