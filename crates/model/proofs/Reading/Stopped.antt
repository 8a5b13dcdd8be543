-- The wrong byte of a line, whatever lines there are: where a line's scan stops, up to there a line is begun, and no byte behind matters, the scan
-- stops at the wrong byte.
use mathlib.Core.Path.{◌≡◌, refl, sym, ◌∙◌, ap, subst}
use mathlib.Core.List.{List, [], ◌∷◌, ◌++◌, append_assoc, append-nil}
use Prim.Native.Nat.{ℕ, suc, ◌<◌}
use native.Mathlib.Omega.{arith}
use lib.ListN.{length, length-append}
use Rattle.laws.proofs.TestLaws.{apart-cases}
use Rattle.model.specs.Reading.{Scan, stops, stop_column}
use Rattle.model.specs.Line.{Any, Exact}
use Rattle.model.specs.Column.{BeginsOf, NoneWithOf, WrongByteOf}
use Rattle.model.proofs.Reading.Scans.{no-is}
use Rattle.model.proofs.Reading.Local.{StopLocal}

longer-begins : (f m g n : List ℕ) → f ++ m ≡ g ++ n → length f < length g → (b : ℕ) × (k : List ℕ) × (l : List ℕ) × (m ≡ b ∷ k) × (g ≡ (f ++ b ∷ []) ++ l)
longer-begins f m [] n e h = absurd (omega arith)
longer-begins [] m (y ∷ g) n e h = (y, g ++ n, g, e, refl)
longer-begins (x ∷ f) m (y ∷ g) n e h =
    let t = longer-begins f m g n (tails e) (omega arith) in
    (t.0, t.1, t.2, t.3, ap {B = List ℕ} (λ z. z ∷ g) (sym (heads e)) ∙ ap {B = List ℕ} (λ l. x ∷ l) t.4)
  where
    tails : {a b : ℕ} {l k : List ℕ} → a ∷ l ≡ b ∷ k → l ≡ k
    tails {l = l} e = ap (λ (z : List ℕ). elim z as (λ _. List ℕ) [ [] ↦ l | x ∷ xs ↦ xs ]) e

    heads : {a b : ℕ} {l k : List ℕ} → a ∷ l ≡ b ∷ k → a ≡ b
    heads {a} e = ap (λ (z : List ℕ). elim z as (λ _. ℕ) [ [] ↦ a | x ∷ xs ↦ x ]) e

module _ {A : Type 0} (print : A → List ℕ) (Fits : A → Type 0) where
  pub front-begins : (a b : List ℕ) → BeginsOf print Fits (a ++ b) → BeginsOf print Fits a
  front-begins a b h = record { line = h.line; fits = h.fits; rest = b ++ h.rest; printed = h.printed ∙ append_assoc a b h.rest }

  -- there is no other
  no-earlier : {bs : List ℕ} {j k : ℕ} (a : WrongByteOf print Fits bs j) (b : WrongByteOf print Fits bs k) → length a.before < length b.before → ⊥
  no-earlier a b h =
      let t = longer-begins a.before a.behind b.before b.behind (sym a.bytes ∙ b.bytes) h in
      subst (NoneWithOf print Fits a.before) t.3 a.none-with
      (front-begins (a.before ++ t.0 ∷ []) t.2 (subst (BeginsOf print Fits) t.4 b.begins))

  pub one-wrong : {bs : List ℕ} {j k : ℕ} → WrongByteOf print Fits bs j → WrongByteOf print Fits bs k → j ≡ k
  one-wrong a b =
      apart-cases (length a.before) (length b.before) (λ e. a.at ∙ ap suc e ∙ sym b.at) (λ h. absurd (no-earlier a b h))
      (λ h. absurd (no-earlier b a h))

module _ {A : Type 0} (scan : List ℕ → Scan A) (print : A → List ℕ) (Fits : A → Type 0) (exact : Exact scan print Fits Any) (local : StopLocal scan)
    (begins : (bs m : List ℕ) → scan bs ≡ stops m → (f : List ℕ) × (bs ≡ f ++ m) × BeginsOf print Fits f) where
  -- a line with its LF, whatever is behind it, is read
  no_more : (f : List ℕ) (b : ℕ) (cs : List ℕ) → scan (f ++ b ∷ cs) ≡ stops (b ∷ cs) → ¬ BeginsOf print Fits (f ++ b ∷ [])
  no_more f b cs e h =
      let bytes : print h.line ++ [] ≡ f ++ b ∷ h.rest = append-nil (print h.line) ∙ h.printed ∙ append_assoc f (b ∷ []) h.rest in
      let stopped : scan (f ++ b ∷ h.rest) ≡ stops (b ∷ h.rest) = local.same f b cs h.rest [] e in
      no-is stopped (ap scan (sym bytes) ∙ exact.printed h.line [] h.fits tt)

  none-with : (f cs : List ℕ) → scan (f ++ cs) ≡ stops cs → NoneWithOf print Fits f cs
  none-with f [] e = tt
  none-with f (b ∷ cs) e = no_more f b cs e

  pub stop-is-wrong : (bs cs : List ℕ) → scan bs ≡ stops cs → WrongByteOf print Fits bs (stop_column bs cs)
  stop-is-wrong bs cs e =
      let t = begins bs cs e in
      record {
        before = t.0;
        behind = cs;
        bytes = t.1;
        begins = t.2;
        none-with = none-with t.0 cs (ap scan (sym t.1) ∙ e);
        at = let l = ap length t.1 in let k = length-append t.0 cs in omega arith;
      }
