-- How reading goes on from a line, whatever its bound on lines, if that is no less than the bytes left.
use mathlib.Core.Path.{◌≡◌, refl, sym, ◌∙◌, ap}
use mathlib.Core.Option.{Option, none, some}
use mathlib.Core.List.{List, [], ◌∷◌, cons≢nil}
use Prim.Native.Nat.{ℕ, zero, suc, ◌≤◌, ◌<◌}
use native.Mathlib.Omega.{arith}
use lib.ListN.{length, length-append}
use Rattle.answer.specs.Told.{tell, refused}
use Rattle.model.specs.Reading.{Got, Scan, is, stops, got, exactly, shorter, Entry, comp-entry, act-entry, clk-entry, row-entry, entry}
use Rattle.model.specs.Reading.{Progress, current, fault_of, column_of, stop_column, finish, lines_from}
use Rattle.model.specs.Line.{line_of}
use Rattle.model.specs.Faulty.{with_line}
use Rattle.model.proofs.Reading.Scans.{no-is}
use Rattle.model.proofs.Reading.Lines.{entry-exact}

entry-nothing : entry [] ≡ stops []
unfolding entry exactly shorter
entry-nothing = refl

line-long : (e : Entry) → 1 ≤ length (line_of e)
unfolding line_of
line-long (comp-entry n s) = omega arith
line-long (act-entry a k) = omega arith
line-long (clk-entry x b) = omega arith
line-long (row-entry s g a r t) = omega arith

pub entry-shortens : (bs : List ℕ) (g : Got Entry) → entry bs ≡ is g → length g.rest < length bs
entry-shortens bs g h = omega (arith, ap length (entry-exact.scanned bs g h).0, length-append (line_of g.value) g.rest, line-long g.value)

module _ (k : ℕ) (p : Progress) where
  pub lines_end : (f : ℕ) → lines_from f k p [] ≡ finish p.comps
  unfolding lines_from
  lines_end zero = refl
  lines_end (suc f) = refl

  -- a line of wrong shape
  pub lines-shapeless : (f : ℕ) (bs cs : List ℕ) → ¬ (bs ≡ []) → length bs ≤ f → entry bs ≡ stops cs
      → lines_from f k p bs ≡ refused (tell 2 (k ∷ stop_column bs cs ∷ []))
  unfolding lines_from
  lines-shapeless f [] cs w l read = absurd (w refl)
  lines-shapeless zero (b ∷ bs) cs w l read = absurd (omega arith)
  lines-shapeless (suc f) (b ∷ bs) cs w l read = rw (read, lines_from)

  module _ (e : Entry) (cs : List ℕ) where
    -- a line of good shape that has a fault
    pub lines-fault : (f : ℕ) (bs : List ℕ) (n : ℕ) → length bs ≤ f → entry bs ≡ got e cs → fault_of p e ≡ some n
        → lines_from f k p bs ≡ refused (tell n (k ∷ column_of (current p) n e))
    unfolding lines_from
    lines-fault f [] n l read h = absurd (no-is entry-nothing read)
    lines-fault zero (b ∷ bs) n l read h = absurd (omega arith)
    lines-fault (suc f) (b ∷ bs) n l read h = rw (read, lines_from) (rw h)

    taken_in_lem : (f : ℕ) (b : ℕ) (bs : List ℕ) → entry (b ∷ bs) ≡ got e cs → fault_of p e ≡ none → lines_from (suc f) k p (b ∷ bs)
        ≡ lines_from f (suc k) (with_line p e) cs
    unfolding lines_from
    taken_in_lem f b bs read h = rw (read, lines_from) (rw h)

-- the bound does not matter
pub lines-bound : (f g k : ℕ) (p : Progress) (bs : List ℕ) → length bs ≤ f → length bs ≤ g → lines_from f k p bs ≡ lines_from g k p bs
lines-bound zero g k p [] l m = lines_end k p zero ∙ sym (lines_end k p g)
lines-bound zero g k p (b ∷ bs) l m = absurd (omega arith)
lines-bound (suc f) g k p [] l m = lines_end k p (suc f) ∙ sym (lines_end k p g)
lines-bound (suc f) zero k p (b ∷ bs) l m = absurd (omega arith)
lines-bound (suc f) (suc g) k p (b ∷ bs) l m = go (λ q cs l m. lines-bound f g (suc k) q cs l m) (entry (b ∷ bs)) refl
  where
    go : ((q : Progress) (cs : List ℕ) → length cs ≤ f → length cs ≤ g → lines_from f (suc k) q cs ≡ lines_from g (suc k) q cs) → (o : Scan Entry)
        → entry (b ∷ bs) ≡ o
        → lines_from (suc f) k p (b ∷ bs) ≡ lines_from (suc g) k p (b ∷ bs)
    go ih (stops cs) read = lines-shapeless k p (suc f) (b ∷ bs) cs cons≢nil l read ∙ sym (lines-shapeless k p (suc g) (b ∷ bs) cs cons≢nil m read)
    go ih (is r) read = line (fault_of p r.value) refl
      where
        line : (o : Option ℕ) → fault_of p r.value ≡ o → lines_from (suc f) k p (b ∷ bs) ≡ lines_from (suc g) k p (b ∷ bs)
        line (some n) h =
            lines-fault k p r.value r.rest (suc f) (b ∷ bs) n l read h ∙ sym (lines-fault k p r.value r.rest (suc g) (b ∷ bs) n m read h)
        line none h =
            let s = entry-shortens (b ∷ bs) r read in
            taken_in_lem k p r.value r.rest f b bs read h ∙ ih (with_line p r.value) r.rest (omega arith) (omega arith)
            ∙ sym (taken_in_lem k p r.value r.rest g b bs read h)

-- a faultless line is taken in, and reading goes on behind it
pub lines_next : (k : ℕ) (p : Progress) (e : Entry) (cs : List ℕ) (f g : ℕ) (bs : List ℕ) → length bs ≤ f → length cs ≤ g → entry bs ≡ got e cs
    → fault_of p e ≡ none
    → lines_from f k p bs ≡ lines_from g (suc k) (with_line p e) cs
lines_next k p e cs f g [] l m read h = absurd (no-is entry-nothing read)
lines_next k p e cs zero g (b ∷ bs) l m read h = absurd (omega arith)
lines_next k p e cs (suc f) g (b ∷ bs) l m read h =
    taken_in_lem k p e cs f b bs read h ∙ lines-bound f g (suc k) (with_line p e) cs
    (omega (arith, entry-shortens (b ∷ bs) (record { value = e; rest = cs }) read)) m
