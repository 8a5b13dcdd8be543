-- Random descent: where each action leads one way, and two different actions of one state commute, every series of steps from a state
-- that can stop at all stops after the same number of steps, in the same state, with the same actions and the same resets.
-- Over any states and any predicate of them that steps keep: `step s a` is the one step of action a from s, with what it resets.
use mathlib.Core.Path.{◌≡◌, refl, sym, ◌∙◌, ap}
use mathlib.Core.Logic.{◌≢◌}
use mathlib.Core.Bool.{Bool, true, false}
use mathlib.Core.Option.{Option, none, some}
use mathlib.Core.List.{List, [], ◌∷◌}
use Prim.Native.Nat.{ℕ, suc, ◌+◌, ◌≤◌}
use native.Mathlib.Decide.{ℕ_discrete}
use native.Mathlib.Omega.{arith}
use lib.ListN.{length}
use lib.Bits.{or_comm, or_zero_r}
use lib.Dec.{eqb}
use Rattle.laws.specs.Sets.{◌∪◌}
use Rattle.laws.proofs.SetLaws.{or_assoc}
use Rattle.laws.proofs.SearchLaws.{no-some}
use Rattle.iosa.specs.Product.{count}
use Rattle.iosa.specs.Stepped.{Gone}

left_comm : (a b c : ℕ) → a ∪ (b ∪ c) ≡ b ∪ (a ∪ c)
left_comm a b c = sym (or_assoc a b c) ∙ ap (λ n. n ∪ c) (or_comm a b) ∙ or_assoc b a c

-- one action more counts once, or not at all, whatever follows
count-one : (b a : ℕ) (l : List ℕ) → count b (a ∷ l) ≡ count b (a ∷ []) + count b l
unfolding count
count-one b a l = go (eqb a b)
  where
    go : (t : Bool) → (elim t as (λ _. ℕ) [ true ↦ suc (count b l) | false ↦ count b l ]) ≡ (elim t as (λ _. ℕ) [ true ↦ 1 | false ↦ 0 ]) + count b l
    go true = omega arith
    go false = omega arith

module _ {S : Type 0} (step : S → ℕ → Option (Gone S)) where
  -- a series of steps: its actions, the clocks reset at least once, and where it ends
  pub data Run : S → List ℕ → ℕ → S → Type 0 where
    stop : {s : S} → Run s [] 0 s
    then : {s u : S} {l : List ℕ} {r : ℕ} (a : ℕ) (g : Gone S) → step s a ≡ some g → Run g.after l r u → Run s (a ∷ l) (g.resets ∪ r) u

  -- no step leaves s
  abbrev pub Stuck : S → Type 0
  Stuck s = (a : ℕ) → step s a ≡ none

  -- steps keep P
  abbrev pub Keeps : (S → Type 0) → Type 0
  Keeps P = (s : S) (a : ℕ) (g : Gone S) → P s → step s a ≡ some g → P g.after

  -- where P holds, two different actions of one state commute, and each resets the same after the other
  abbrev pub Diamond : (S → Type 0) → Type 0
  Diamond P = (s : S) (a b : ℕ) (g h : Gone S) → P s → a ≢ b → step s a ≡ some g → step s b ≡ some h
      → (v : S) × (step g.after b ≡ some (record { resets = h.resets; after = v })) × (step h.after a ≡ some (record { resets = g.resets; after = v }))

  -- what is left of a series l with resets r, once another, k with resets q, was taken instead: a series from t to u, and the actions of l are
  -- those of k and of what is left together
  pub record Rest (l k : List ℕ) (r q : ℕ) (t u : S) : Type 0 where
    pub more : List ℕ
    pub sets : ℕ
    pub run : Run t more sets u
    pub steps : length l ≡ length k + length more
    pub acts : (b : ℕ) → count b l ≡ count b k + count b more
    pub joined : r ≡ q ∪ sets

  -- two series that stop are alike
  pub record Alike (l k : List ℕ) (r q : ℕ) (u t : S) : Type 0 where
    pub steps : length k ≡ length l
    pub acts : (b : ℕ) → count b k ≡ count b l
    pub resets : q ≡ r
    pub state : t ≡ u

  stuck-run : {t u : S} {m : List ℕ} {q : ℕ} → Stuck t → Run t m q u → (m ≡ []) × (q ≡ 0) × (t ≡ u)
  stuck-run st stop = (refl, refl, refl)
  stuck-run st (then a g e next) = absurd (no-some (st a) e)

  module _ (P : S → Type 0) (keeps : Keeps P) (dia : Diamond P) where
    -- a step may be taken first: what is left of a series that stops is a series from there
    rest-step : {s u : S} {l : List ℕ} {r : ℕ} → Stuck u → P s → Run s l r u → (a : ℕ) (g : Gone S) → step s a ≡ some g
        → Rest l (a ∷ []) r g.resets g.after u
    rest-step st ok stop a g e = absurd (no-some (st a) e)
    rest-step st ok (then {s = s} {u = u} {l = l} {r = r} b h f run) a g e = elim (ℕ_discrete a b) [
      | yes p ↦
          let q : g ≡ h = cc in
          rw (p, q) (record { more = l; sets = r; run = run; steps = omega arith; acts = λ c. count-one c b l; joined = refl })
      | no p ↦
          let d = dia s a b g h ok p e f in
          let i = rest-step st (keeps s b h ok f) run a (record { resets = g.resets; after = d.0 }) d.2 in
          record {
            more = b ∷ i.more;
            sets = h.resets ∪ i.sets;
            run = then b (record { resets = h.resets; after = d.0 }) d.1 i.run;
            steps = omega (arith, i.steps);
            acts = λ c. omega (arith, i.acts c, count-one c b l, count-one c b i.more);
            joined = ap (λ n. h.resets ∪ n) i.joined ∙ left_comm h.resets g.resets i.sets;
          }
    ]

    -- any series may be taken first
    pub rest : {s t u : S} {l k : List ℕ} {r q : ℕ} → Stuck u → P s → Run s l r u → Run s k q t → Rest l k r q t u
    unfolding count
    rest {l} {r} st ok run stop = record { more = l; sets = r; run = run; steps = omega arith; acts = λ c. omega arith; joined = refl }
    rest st ok run (then {s = s} {l = m} {r = q} a g e next) =
        let i = rest-step st ok run a g e in
        let j = rest st (keeps s a g ok e) i.run next in
        record {
          more = j.more;
          sets = j.sets;
          run = j.run;
          steps = omega (arith, i.steps, j.steps);
          acts = λ c. omega (arith, i.acts c, j.acts c, count-one c a m);
          joined = i.joined ∙ ap (λ n. g.resets ∪ n) j.joined ∙ sym (or_assoc g.resets q j.sets);
        }

    -- if a series from s stops, no series from s is longer
    pub none-is-longer : {s t u : S} {l k : List ℕ} {r q : ℕ} → Stuck u → P s → Run s l r u → Run s k q t → length k ≤ length l
    none-is-longer st ok run other = omega (arith, (rest st ok run other).steps)

    -- and all that stop are alike
    pub all-that-stop-are-alike : {s t u : S} {l k : List ℕ} {r q : ℕ} → Stuck u → P s → Run s l r u → Stuck t → Run s k q t → Alike l k r q u t
    unfolding count
    all-that-stop-are-alike {l} {k} {r} {q} st ok run st' other =
        let i = rest st ok run other in
        let z = stuck-run st' i.run in
        record {
          steps = omega (arith, i.steps, ap length z.0);
          acts = λ b. omega (arith, i.acts b, ap (count b) z.0);
          resets = sym (i.joined ∙ ap (λ n. q ∪ n) z.1 ∙ or_zero_r q);
          state = z.2;
        }
