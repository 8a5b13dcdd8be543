-- The samples of a line, one after the other: what the loop's turns do, and what is left at each cursor.
use mathlib.Core.Path.{◌≡◌, refl, sym, ◌∙◌, ap}
use mathlib.Core.Bool.{Bool, true, false, cond}
use mathlib.Core.List.{List, [], ◌∷◌}
use Prim.Native.Nat.{ℕ, zero, suc, ◌+◌, ◌-◌, ◌≤◌, ◌<◌}
use native.Mathlib.Nat.{le_refl}
use native.Mathlib.Omega.{arith}
use lib.ListN.{length, get_or, drop, drop_of_length-le, length-drop}
use lib.Dec.{eqb}
use borrow.Author.Tests.{eq-eqb, ne_eqb, eqb-true}
use Rattle.model.specs.Text.{lf, tab}
use Rattle.model.specs.Reading.{Scan, is, stops, got, then, exactly, the_byte, field, number}
use Rattle.fields.proofs.ScanLaws.{exactly-end, exactly-stop, byte-here, byte-other, then-stops, then_is}
use Rattle.fields.specs.declared.Cursor.{Cursor}
use Rattle.std.specs.Prelude.{Result, Ok, Err}
use Rattle.fields.specs.Fields.{got_number}
use Rattle.simulation.specs.Samples.{sample_at, samples_at, line_at}
use Rattle.samples.specs.Lines.{done, Left, over, more, LineIs, LineBad}
use Rattle.samples.proofs.SampleLaws.{sample-shortens}

abbrev value_or : Scan (List ℕ) → List ℕ
value_or (is g) = g.value
value_or (stops cs) = []

pub same-value : (ns ms bs cs : List ℕ) → got ns bs ≡ got ms cs → ns ≡ ms
same-value ns ms bs cs e = ap value_or e

abbrev rest_or : Scan (Unit {0}) → List ℕ
rest_or (is g) = g.rest
rest_or (stops cs) = []

-- ---- one turn: at LF, before a sample, and where neither stands
at-lf : (k : ℕ) (bs cs : List ℕ) → the_byte lf bs ≡ got tt cs → samples_at k bs ≡ got [] cs
unfolding samples_at
at-lf zero bs cs e = then_is (λ _ ds. got [] ds) e
at-lf (suc k) bs cs e = rw (e, samples_at)

at-sample : (k n : ℕ) (bs ds cs : List ℕ) → the_byte lf bs ≡ stops ds → field sample_at bs ≡ got n cs
    → samples_at (suc k) bs ≡ then (samples_at k cs) (λ ns es. got (n ∷ ns) es)
unfolding samples_at
at-sample k n bs ds cs e f = rw (e, samples_at) (then_is (λ n ds. then (samples_at k ds) (λ ns es. got (n ∷ ns) es)) f)

at-stop : (k : ℕ) (bs ds cs : List ℕ) → the_byte lf bs ≡ stops ds → field sample_at bs ≡ stops cs → samples_at (suc k) bs ≡ stops cs
unfolding samples_at
at-stop k bs ds cs e f = rw (e, samples_at) (then-stops (λ n ds. then (samples_at k ds) (λ ns es. got (n ∷ ns) es)) f)

pub field-nil : field sample_at [] ≡ stops []
field-nil = then-stops (λ _ cs. sample_at cs) (exactly-end tab [])

at-end : (k : ℕ) → samples_at k [] ≡ stops []
unfolding samples_at
at-end zero = then-stops (λ _ ds. got [] ds) (exactly-end lf [])
at-end (suc k) = at-stop k [] [] [] (exactly-end lf []) field-nil

done-then : (n : ℕ) (o : Scan (List ℕ)) → done (then o (λ ns es. got (n ∷ ns) es)) ≡ done o
done-then n (is g) = refl
done-then n (stops cs) = refl

-- ---- the loop: what is done from here on is what is done from the beginning on
pub record Turns (t : List ℕ) (at₀ at : ℕ) : Type 0 where
  pub turns : ℕ
  pub enough : length (drop at t) ≤ turns
  pub same : done (samples_at turns (drop at t)) ≡ done (samples_at (length (drop at₀ t)) (drop at₀ t))

pub turns-none : (t : List ℕ) (at : ℕ) → Turns t at at
turns-none t at = record { turns = length (drop at t); enough = le_refl (length (drop at t)); same = refl }

module _ (t : List ℕ) (at₀ at : ℕ) (w : Turns t at₀ at) where
  pub turns-end : length t ≤ at → stops (drop at t) ≡ done (samples_at (length (drop at₀ t)) (drop at₀ t))
  turns-end h = let e : samples_at w.turns (drop at t) ≡ stops (drop at t) = rw (drop_of_length-le t h) (at-end w.turns) in sym (ap done e) ∙ w.same

  pub turns-lf : at < length t → get_or t at 0 ≡ lf → got tt (drop (at + 1) t) ≡ done (samples_at (length (drop at₀ t)) (drop at₀ t))
  turns-lf h e = sym (ap done (at-lf w.turns (drop at t) (drop (at + 1) t) (byte-here t at lf h e))) ∙ w.same

  module _ (h : at < length t) (e : get_or t at 0 ≡ lf → ⊥) (r : Result (Cursor × ℕ) Cursor) (scan : got_number t r ≡ field sample_at (drop at t)) where
    pub turns-missing : (m : Cursor) → r ≡ Err m → stops (drop m.at t) ≡ done (samples_at (length (drop at₀ t)) (drop at₀ t))
    turns-missing m q = go w.turns w.enough w.same
      where
        go : (k : ℕ) → length (drop at t) ≤ k → done (samples_at k (drop at t)) ≡ done (samples_at (length (drop at₀ t)) (drop at₀ t))
            → stops (drop m.at t) ≡ done (samples_at (length (drop at₀ t)) (drop at₀ t))
        go zero l s = absurd (omega (arith, length-drop at t))
        go (suc k) l s = sym (ap done (at-stop k (drop at t) (drop at t) (drop m.at t) (byte-other t at lf h e) (sym scan ∙ ap (got_number t) q))) ∙ s

    module _ (n : ℕ) (next : Cursor) (q : r ≡ Ok (next, n)) where
      read : field sample_at (drop at t) ≡ got n (drop next.at t)
      read = sym scan ∙ ap (got_number t) q

      pub turns-less : length t - next.at < length t - at
      turns-less = omega (arith, sample-shortens (drop at t) n (drop next.at t) read, length-drop at t, length-drop next.at t)

      pub turns_more : Turns t at₀ next.at
      turns_more = go w.turns w.enough w.same
        where
          go : (k : ℕ) → length (drop at t) ≤ k → done (samples_at k (drop at t)) ≡ done (samples_at (length (drop at₀ t)) (drop at₀ t)) → Turns t at₀ next.at
          go zero l s = absurd (omega (arith, length-drop at t))
          go (suc k) l s = record {
            turns = k;
            enough = omega (arith, sample-shortens (drop at t) n (drop next.at t) read, length-drop at t);
            same =
                sym (done-then n (samples_at k (drop next.at t)))
                ∙ sym (ap done (at-sample k n (drop at t) (drop at t) (drop next.at t) (byte-other t at lf h e) read))
                ∙ s;
          }

-- ---- the samples that a line has stand at its cursor
no-tab : (bs cs : List ℕ) → the_byte lf bs ≡ got tt cs → (ds : List ℕ) × (field sample_at bs ≡ stops ds)
unfolding exactly
no-tab [] cs e = ([], field-nil)
no-tab (b ∷ bs) cs e = go (eqb lf b) refl e
  where
    go : (x : Bool) → eqb lf b ≡ x → ◌≡◌ {A = Scan (Unit {0})} (elim x as (λ _. Scan (Unit {0})) [ true ↦ exactly [] bs | false ↦ stops (b ∷ bs) ]) (got tt cs)
        → (ds : List ℕ) × (field sample_at (b ∷ bs) ≡ stops ds)
    go true q e = (b ∷ bs, then-stops (λ _ cs. sample_at cs) (exactly-stop tab b [] bs (λ h. omega (arith, eqb-true lf b q))))
    go false q e = let z : ◌≡◌ {A = ℕ} 0 1 = cc in absurd (omega arith)

pub left-of : (k : ℕ) (bs ns rest : List ℕ) → samples_at k bs ≡ got ns rest → Left bs ns
unfolding samples_at
left-of zero bs ns rest e = go (the_byte lf bs) refl e
  where
    go : (o : Scan (Unit {0})) → the_byte lf bs ≡ o → then o (λ _ cs. got [] cs) ≡ got ns rest → Left bs ns
    go (is g) q e = rw (← same-value [] ns g.rest rest e) (over (no-tab bs g.rest q).1)
    go (stops cs) q e = let z : ◌≡◌ {A = ℕ} 0 1 = cc in absurd (omega arith)
left-of (suc k) bs ns rest e = first (the_byte lf bs) refl (field sample_at bs) refl (left-of k)
  where
    behind : (n : ℕ) (cs : List ℕ) → field sample_at bs ≡ got n cs → (o : Scan (List ℕ)) → samples_at k cs ≡ o → then o (λ ns es. got (n ∷ ns) es) ≡ got ns rest
        → ((bs ns rest : List ℕ) → samples_at k bs ≡ got ns rest → Left bs ns) → Left bs ns
    behind n cs f (is g) q e rec = rw (← same-value (n ∷ g.value) ns g.rest rest e) (more f (rec cs g.value g.rest q))
    behind n cs f (stops ds) q e rec = let z : ◌≡◌ {A = ℕ} 0 1 = cc in absurd (omega arith)

    first : (o : Scan (Unit {0})) → the_byte lf bs ≡ o → (s : Scan ℕ) → field sample_at bs ≡ s
        → ((bs ns rest : List ℕ) → samples_at k bs ≡ got ns rest → Left bs ns) → Left bs ns
    first (is g) q s f rec = rw (← same-value [] ns g.rest rest (sym (at-lf (suc k) bs g.rest q) ∙ e)) (over (no-tab bs g.rest q).1)
    first (stops ds) q (is g) f rec = behind g.value g.rest f (samples_at k g.rest) refl (sym (at-sample k g.value bs ds g.rest q f) ∙ e) rec
    first (stops ds) q (stops cs) f rec = let z : ◌≡◌ {A = ℕ} 0 1 = cc (at-stop k bs ds cs q f) in absurd (omega arith)

-- ---- a line
module _ (x : ℕ) (t : List ℕ) (at : ℕ) where
  pub line-none : (cs : List ℕ) → number (drop at t) ≡ stops cs → LineBad x t at
  unfolding line_at
  line-none cs e = record { stop = cs; line = then-stops (λ y cs. cond (eqb y x) (samples_at (length cs) cs) (stops (drop at t))) e }

  module _ (n b : ℕ) (e : number (drop at t) ≡ got n (drop b t)) where
    line-is : line_at x (drop at t) ≡ cond (eqb n x) (samples_at (length (drop b t)) (drop b t)) (stops (drop at t))
    unfolding line_at
    line-is = then_is (λ y cs. cond (eqb y x) (samples_at (length cs) cs) (stops (drop at t))) e

    pub line_other : (n ≡ x → ⊥) → LineBad x t at
    line_other h = record { stop = drop at t; line = line-is ∙ rw (ne_eqb n x h) }

    module _ (h : n ≡ x) where
      here : line_at x (drop at t) ≡ samples_at (length (drop b t)) (drop b t)
      here = line-is ∙ rw (eq-eqb n x h)

      pub line-bad : (cs : List ℕ) → stops cs ≡ done (samples_at (length (drop b t)) (drop b t)) → LineBad x t at
      line-bad cs d = go (samples_at (length (drop b t)) (drop b t)) refl d
        where
          go : (o : Scan (List ℕ)) → samples_at (length (drop b t)) (drop b t) ≡ o → stops cs ≡ done o → LineBad x t at
          go (is g) q d = let z : ◌≡◌ {A = ℕ} 0 1 = cc in absurd (omega arith)
          go (stops ds) q d = record { stop = ds; line = here ∙ q }

      pub line-good : (f : ℕ) → got tt (drop f t) ≡ done (samples_at (length (drop b t)) (drop b t)) → LineIs x t at b f
      line-good f d = go (samples_at (length (drop b t)) (drop b t)) refl d
        where
          go : (o : Scan (List ℕ)) → samples_at (length (drop b t)) (drop b t) ≡ o → got tt (drop f t) ≡ done o → LineIs x t at b f
          go (is g) q d =
              let r : drop f t ≡ g.rest = ap rest_or d in
              record { samples = g.value; line = here ∙ q ∙ ap (got g.value) (sym r); left = left-of (length (drop b t)) (drop b t) g.value g.rest q }
          go (stops cs) q d = let z : ◌≡◌ {A = ℕ} 0 1 = cc in absurd (omega arith)
