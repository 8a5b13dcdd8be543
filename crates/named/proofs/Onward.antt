-- How reading the second form goes on from a line, whatever its bound on lines, if that is no less than the bytes left.
use mathlib.Core.Path.{◌≡◌, refl, sym, ◌∙◌, ap}
use mathlib.Core.Option.{Option, none, some}
use mathlib.Core.List.{List, [], ◌∷◌, cons≢nil}
use Prim.Native.Nat.{ℕ, zero, suc, ◌≤◌, ◌<◌}
use native.Mathlib.Omega.{arith}
use lib.ListN.{length, length-append}
use Rattle.answer.specs.Told.{tell, refused}
use Rattle.model.specs.Reading.{Got, Scan, is, stops, got, exactly, shorter, comp-entry, act-entry, clk-entry, row-entry, entry, stop_column}
use Rattle.model.specs.Line.{line_of}
use Rattle.model.proofs.Reading.Scans.{no-is}
use Rattle.named.specs.NamedText.{Line, form-line, name-line, act-line, row-line, plain-line, line, line_text}
use Rattle.named.specs.ReadNamed.{Progress₂, fault_named, behind_line, taken, finish_named, lines_from₂}
use Rattle.named.proofs.Scanned.{line-exact}

line-nothing : line [] ≡ stops []
unfolding line entry exactly shorter
line-nothing = refl

line-long : (l : Line) → 1 ≤ length (line_text l)
unfolding line_text line_of
line-long form-line = omega arith
line-long (name-line n w) = omega arith
line-long (act-line w k) = omega arith
line-long (row-line s g w r t) = omega arith
line-long (plain-line (comp-entry n s)) = omega arith
line-long (plain-line (act-entry a k)) = omega arith
line-long (plain-line (clk-entry x b)) = omega arith
line-long (plain-line (row-entry s g a r t)) = omega arith

pub line-shortens : (bs : List ℕ) (g : Got Line) → line bs ≡ is g → length g.rest < length bs
line-shortens bs g h = omega (arith, ap length (line-exact.scanned bs g h).0, length-append (line_text g.value) g.rest, line-long g.value)

module _ (k : ℕ) (p : Progress₂) where
  pub lines_end : (f : ℕ) → lines_from₂ f k p [] ≡ finish_named p p.model.comps
  unfolding lines_from₂
  lines_end zero = refl
  lines_end (suc f) = refl

  -- a line of wrong shape
  pub lines-shapeless : (f : ℕ) (bs cs : List ℕ) → ¬ (bs ≡ []) → length bs ≤ f → line bs ≡ stops cs
      → lines_from₂ f k p bs ≡ refused (tell 2 (k ∷ stop_column bs cs ∷ []))
  unfolding lines_from₂
  lines-shapeless f [] cs w l read = absurd (w refl)
  lines-shapeless zero (b ∷ bs) cs w l read = absurd (omega arith)
  lines-shapeless (suc f) (b ∷ bs) cs w l read = rw (read, lines_from₂)

  module _ (e : Line) (cs : List ℕ) where
    -- a line of good shape that has a fault
    pub lines-fault : (f : ℕ) (bs : List ℕ) (n : ℕ) → length bs ≤ f → line bs ≡ got e cs → fault_named p e ≡ some n
        → lines_from₂ f k p bs ≡ refused (tell n (k ∷ behind_line p n e))
    unfolding lines_from₂
    lines-fault f [] n l read h = absurd (no-is line-nothing read)
    lines-fault zero (b ∷ bs) n l read h = absurd (omega arith)
    lines-fault (suc f) (b ∷ bs) n l read h = rw (read, lines_from₂) (rw h)

    taken_in_lem : (f : ℕ) (b : ℕ) (bs : List ℕ) → line (b ∷ bs) ≡ got e cs → fault_named p e ≡ none
        → lines_from₂ (suc f) k p (b ∷ bs) ≡ lines_from₂ f (suc k) (taken p e) cs
    unfolding lines_from₂
    taken_in_lem f b bs read h = rw (read, lines_from₂) (rw h)

-- the bound does not matter
pub lines-bound : (f g k : ℕ) (p : Progress₂) (bs : List ℕ) → length bs ≤ f → length bs ≤ g → lines_from₂ f k p bs ≡ lines_from₂ g k p bs
lines-bound zero g k p [] l m = lines_end k p zero ∙ sym (lines_end k p g)
lines-bound zero g k p (b ∷ bs) l m = absurd (omega arith)
lines-bound (suc f) g k p [] l m = lines_end k p (suc f) ∙ sym (lines_end k p g)
lines-bound (suc f) zero k p (b ∷ bs) l m = absurd (omega arith)
lines-bound (suc f) (suc g) k p (b ∷ bs) l m = go (λ q cs l m. lines-bound f g (suc k) q cs l m) (line (b ∷ bs)) refl
  where
    go : ((q : Progress₂) (cs : List ℕ) → length cs ≤ f → length cs ≤ g → lines_from₂ f (suc k) q cs ≡ lines_from₂ g (suc k) q cs) → (o : Scan Line)
        → line (b ∷ bs) ≡ o
        → lines_from₂ (suc f) k p (b ∷ bs) ≡ lines_from₂ (suc g) k p (b ∷ bs)
    go ih (stops cs) read = lines-shapeless k p (suc f) (b ∷ bs) cs cons≢nil l read ∙ sym (lines-shapeless k p (suc g) (b ∷ bs) cs cons≢nil m read)
    go ih (is r) read = judged (fault_named p r.value) refl
      where
        judged : (o : Option ℕ) → fault_named p r.value ≡ o → lines_from₂ (suc f) k p (b ∷ bs) ≡ lines_from₂ (suc g) k p (b ∷ bs)
        judged (some n) h = lines-fault k p r.value r.rest (suc f) (b ∷ bs) n l read h
            ∙ sym (lines-fault k p r.value r.rest (suc g) (b ∷ bs) n m read h)
        judged none h =
            let s = line-shortens (b ∷ bs) r read in
            taken_in_lem k p r.value r.rest f b bs read h ∙ ih (taken p r.value) r.rest (omega arith) (omega arith)
            ∙ sym (taken_in_lem k p r.value r.rest g b bs read h)

-- a faultless line is taken in, and reading goes on behind it
pub lines_next : (k : ℕ) (p : Progress₂) (e : Line) (cs : List ℕ) (f g : ℕ) (bs : List ℕ)
    → length bs ≤ f → length cs ≤ g → line bs ≡ got e cs → fault_named p e ≡ none
    → lines_from₂ f k p bs ≡ lines_from₂ g (suc k) (taken p e) cs
lines_next k p e cs f g [] l m read h = absurd (no-is line-nothing read)
lines_next k p e cs zero g (b ∷ bs) l m read h = absurd (omega arith)
lines_next k p e cs (suc f) g (b ∷ bs) l m read h =
    taken_in_lem k p e cs f b bs read h ∙ lines-bound f g (suc k) (taken p e) cs (omega (arith, line-shortens (b ∷ bs) (record { value = e; rest = cs }) read)) m
