-- The lines of a text of the second form in their turn: where reading comes to a line, what it tells of it, and of a name that nothing uses.
use mathlib.Core.Path.{◌≡◌, refl, sym, ◌∙◌, ap, subst}
use mathlib.Core.Logic.{◌⊎◌, inl, inr, ⊎_elim, ◌↔◌}
use mathlib.Core.Option.{Option, none, some, some_inj}
use mathlib.Core.Bool.{Bool, true, false, not, true≢false}
use mathlib.Core.List.{List, [], ◌∷◌, ◌++◌}
use Prim.Native.Nat.{ℕ, ◌+◌, ◌≤◌, ◌<◌}
use native.Mathlib.Nat.{le_refl}
use native.Mathlib.Omega.{arith}
use lib.ListN.{length, length-append}
use borrow.Author.Tests.{not-false}
use Rattle.laws.specs.Sets.{has, ◌∈◌}
use Rattle.laws.specs.Lowest.{Lowest}
use Rattle.laws.specs.Search.{when, or_else}
use Rattle.laws.proofs.SearchLaws.{no-some, when-none, or_else_none}
use Rattle.laws.proofs.TestLaws.{apart-cases}
use Rattle.answer.specs.Told.{tell, Answer, refused}
use Rattle.model.specs.Reading.{Scan, is, stops, got, stop_column}
use Rattle.model.proofs.Reading.Scans.{no-is}
use Rattle.named.specs.NamedText.{Sheet, NameLine, Line, line}
use Rattle.named.specs.ReadNamed.{Progress₂, Read, fault_named, behind_line, unused, lines_from₂}
use Rattle.named.proofs.Onward.{lines-shapeless, lines-fault}
use Rattle.namedfaults.specs.NamedFaults.{LineFault₂, wrong-shape, out-of-turn, is_out_of_range, not_named, is_out_of_order, bad-name, not_known, is_too_many}
use Rattle.namedfaults.specs.NamedFaults.{Carries₂, wrong_byte, UnusedAt}
use Rattle.namedfaults.proofs.LowestNamed.{line-at, at-line, no-fault, fault-lowest, fault-none}
use Rattle.namedfaults.proofs.WrongNamed.{wrong-byte-here}
use Rattle.namedfaults.proofs.Carried.{carries, one-column}

-- ---- a line that is refused
-- what reading tells of the line at the front of these bytes, and that there is nothing else to be told of it
pub record Refusing (p : Progress₂) (bs : List ℕ) (f : ℕ) (column : List ℕ) : Type 0 where
  pub lowest : Lowest (LineFault₂ p bs) f
  pub carried : Carries₂ p bs f column

fault-number : {p : Progress₂} {bs : List ℕ} {n : ℕ} → LineFault₂ p bs n → 2 ≤ n
fault-number (wrong-shape e h) = omega arith
fault-number (out-of-turn e h w) = omega arith
fault-number (is_out_of_range e h w) = omega arith
fault-number (not_named e h w) = omega arith
fault-number (is_out_of_order e h w) = omega arith
fault-number (bad-name e h w) = omega arith
fault-number (not_known e h w) = omega arith
fault-number (is_too_many e h w) = omega arith

pub shapeless : (p : Progress₂) (bs cs : List ℕ) → line bs ≡ stops cs → Refusing p bs 2 (stop_column bs cs ∷ [])
shapeless p bs cs e = record {
  lowest = record { here = wrong-shape refl (λ l ds h. no-is e (line-at h)); before = λ m h w. omega (arith, fault-number w) };
  carried = wrong_byte refl (wrong-byte-here bs cs e) refl;
}

pub faulty : (p : Progress₂) (bs : List ℕ) (l : Line) (cs : List ℕ) (f : ℕ) → line bs ≡ got l cs → fault_named p l ≡ some f → Refusing p bs f (behind_line p f l)
faulty p bs l cs f read h =
    let w = fault-lowest p bs l cs (at-line read) f h in
    record { lowest = w; carried = carries p bs l cs (at-line read) f w.here }

one-refusal : {p : Progress₂} {bs : List ℕ} {m n : ℕ} {a b : List ℕ} → Refusing p bs m a → Refusing p bs n b → (m ≡ n) × (a ≡ b)
one-refusal {p} {bs} {m} {n} {a} {b} x y =
    let e : m ≡ n = apart-cases m n (λ e. e) (λ h. absurd (y.lowest.before m h x.lowest.here)) (λ h. absurd (x.lowest.before n h y.lowest.here)) in
    (e, one-column x.carried (subst (λ i. Carries₂ p bs i b) (sym e) y.carried))

told-alike : (k : ℕ) {m n : ℕ} {a b : List ℕ} → (m ≡ n) × (a ≡ b) → ◌≡◌ {A = Answer Read} (refused (tell m (k ∷ a))) (refused (tell n (k ∷ b)))
told-alike k p = λ i. refused (tell (p.0 i) (k ∷ p.1 i))

-- reading refuses with that
pub line_refused : (k : ℕ) (p : Progress₂) (bs : List ℕ) (f : ℕ) (column : List ℕ) → ¬ (bs ≡ []) → Refusing p bs f column
    → lines_from₂ (length bs) k p bs ≡ refused (tell f (k ∷ column))
line_refused k p bs f column h x = go (line bs) refl
  where
    go : (o : Scan Line) → line bs ≡ o → lines_from₂ (length bs) k p bs ≡ refused (tell f (k ∷ column))
    go (stops cs) read = lines-shapeless k p (length bs) bs cs h (le_refl _) read ∙ told-alike k (one-refusal (shapeless p bs cs read) x)
    go (is g) read = judged (fault_named p g.value) refl
      where
        judged : (o : Option ℕ) → fault_named p g.value ≡ o → lines_from₂ (length bs) k p bs ≡ refused (tell f (k ∷ column))
        judged (some n) e =
            lines-fault k p g.value g.rest (length bs) bs n (le_refl _) read e ∙ told-alike k (one-refusal (faulty p bs g.value g.rest n read e) x)
        judged none e =
            let q = fault-none p g.value e in
            absurd (no-fault p bs g.value g.rest (at-line read) f (λ _. q.in-turn) (λ _. q.in-range) (λ _. q.named) (λ _. q.in_order)
            (λ _. q.well-named)
            (λ _. q.known) (λ _. q.room) x.lowest.here)

-- ---- a name that nothing uses
tails : {a b : NameLine} {l k : Sheet} → ◌≡◌ {A = Sheet} (a ∷ l) (b ∷ k) → l ≡ k
tails {l = l} e = ap (λ (z : Sheet). elim z as (λ _. Sheet) [ [] ↦ l | x ∷ xs ↦ xs ]) e

heads : {a b : NameLine} {l k : Sheet} → ◌≡◌ {A = Sheet} (a ∷ l) (b ∷ k) → a ≡ b
heads {a} e = ap (λ (z : Sheet). elim z as (λ _. NameLine) [ [] ↦ a | x ∷ xs ↦ x ]) e

module _ (d : ℕ) where
  -- it is the last line, or stands before it
  split : (e : NameLine) (sheet : Sheet) (k : ℕ) → UnusedAt d (e ∷ sheet) k → ((k ≡ length sheet + 2) × ¬ (e.number ∈ d)) ⊎ UnusedAt d sheet k
  split e sheet k u = go u.later u.lines
    where
      go : (later : Sheet) → e ∷ sheet ≡ later ++ u.unused ∷ u.earlier → ((k ≡ length sheet + 2) × ¬ (e.number ∈ d)) ⊎ UnusedAt d sheet k
      go [] q = inl (u.at ∙ ap (λ (l : Sheet). length l + 2) (sym (tails q)), λ h. u.not_in (subst (λ (x : NameLine). x.number ∈ d) (heads q) h))
      go (x ∷ later) q = inr (record { later = later; unused = u.unused; earlier = u.earlier; lines = tails q; not_in = u.not_in; at = u.at })

  behind : (e : NameLine) (sheet : Sheet) (k : ℕ) → UnusedAt d sheet k → UnusedAt d (e ∷ sheet) k
  behind e sheet k u =
      record { later = e ∷ u.later; unused = u.unused; earlier = u.earlier; lines = ap {B = Sheet} (λ l. e ∷ l) u.lines; not_in = u.not_in; at = u.at }

  inside : (sheet : Sheet) (k : ℕ) → UnusedAt d sheet k → k < length sheet + 2
  inside sheet k u = omega (arith, u.at, ap length u.lines, length-append u.later (u.unused ∷ u.earlier))

  step : (e : NameLine) (sheet : Sheet) → unused d (e ∷ sheet) ≡ or_else (unused d sheet) (when (not (has d e.number)) (length sheet + 2))
  unfolding unused
  step e sheet = refl

  nothing : unused d [] ≡ none
  unfolding unused
  nothing = refl

  none-unused : (sheet : Sheet) → unused d sheet ≡ none → (k : ℕ) → UnusedAt d sheet k → ⊥
  none-unused [] h k u = let l = inside [] k u in omega (arith, u.at)
  none-unused (e ∷ sheet) h k u =
      let q = or_else_none (unused d sheet) _ (sym (step e sheet) ∙ h) in
      ⊎_elim (λ x. x.1 (not-false (has d e.number) (when-none (not (has d e.number)) (length sheet + 2) q.1))) (none-unused sheet q.0 k)
      (split e sheet k u)

  unused-first : (sheet : Sheet) (k : ℕ) → unused d sheet ≡ some k → Lowest (UnusedAt d sheet) k
  unused-first [] k h = absurd (no-some nothing h)
  unused-first (e ∷ sheet) k h = go (unused-first sheet) (unused d sheet) refl (sym (step e sheet) ∙ h)
    where
      last : (b : Bool) → has d e.number ≡ b → unused d sheet ≡ none → when (not b) (length sheet + 2) ≡ some k → Lowest (UnusedAt d (e ∷ sheet)) k
      last true q n z = absurd (no-some refl z)
      last false q n z =
          let at : length sheet + 2 ≡ k = some_inj.0 z in
          record {
            here = record { later = []; unused = e; earlier = sheet; lines = refl; not_in = λ i. true≢false (sym i ∙ q); at = sym at };
            before = λ y l u. ⊎_elim (λ x. omega (arith, x.0)) (none-unused sheet n y) (split e sheet y u);
          }

      go : ((j : ℕ) → unused d sheet ≡ some j → Lowest (UnusedAt d sheet) j) → (o : Option ℕ) → unused d sheet ≡ o
          → or_else o (when (not (has d e.number)) (length sheet + 2)) ≡ some k → Lowest (UnusedAt d (e ∷ sheet)) k
      go ih none q z = last (has d e.number) refl q z
      go ih (some j) q z =
          let w = ih k (q ∙ z) in
          record {
            here = behind e sheet k w.here;
            before = λ y l u. ⊎_elim (λ x. omega (arith, x.0, inside sheet k w.here)) (w.before y l) (split e sheet y u);
          }

  pub first-unused : (sheet : Sheet) (k : ℕ) → (unused d sheet ≡ some k) ↔ Lowest (UnusedAt d sheet) k
  first-unused sheet k = (unused-first sheet k, λ w. back (unused d sheet) refl w)
    where
      back : (o : Option ℕ) → unused d sheet ≡ o → Lowest (UnusedAt d sheet) k → o ≡ some k
      back none q w = absurd (none-unused sheet q k w.here)
      back (some j) q w =
          let v = unused-first sheet j q in
          ap some (apart-cases j k (λ e. e) (λ h. absurd (w.before j h v.here)) (λ h. absurd (v.before k h w.here)))
