-- Lines read one after the other: a component on its way, and the lines of the members of a set.
use mathlib.Core.Path.{◌≡◌, refl, ◌∙◌, ap, subst, subst₂}
use mathlib.Core.Option.{some}
use mathlib.Core.Bool.{Bool, true, false}
use mathlib.Core.List.{List, [], ◌∷◌, ◌++◌, append_assoc}
use Prim.Native.Nat.{ℕ, zero, suc, ◌+◌, ◌<◌}
use native.Mathlib.Omega.{arith}
use Rattle.laws.specs.Fold.{spread}
use Rattle.model.specs.Model.{Comp}
use Rattle.model.specs.Reading.{Entry, Progress, take_in}
use Rattle.model.specs.Line.{line_of, LineFits}
use Rattle.model.specs.Faulty.{Faultless, with_line, Reaches, next-line}

-- a line as printed is read and taken in
pub line_on : {t : List ℕ} {k : ℕ} {p : Progress} {bs : List ℕ} (e : Entry) (cs : List ℕ) → Reaches t k p bs → bs ≡ line_of e ++ cs → LineFits e
    → Faultless p e → Reaches t (suc k) (with_line p e) cs
line_on e cs r q l f = next-line r (record { fits = l; printed = q }) f

-- the component c is being read, behind the components m, and d was its last line
pub record At (t : List ℕ) (c : Comp) (m : List Comp) (d : Entry) (bs : List ℕ) : Type 0 where
  pub line : ℕ
  pub reached : Reaches t line (record { comps = c ∷ m; last = some d }) bs

pub move : {t : List ℕ} {c e : Comp} {m : List Comp} {d : Entry} {bs cs : List ℕ} → c ≡ e → bs ≡ cs → At t c m d bs → At t e m d cs
move {t} {m =
    m} {d} p q a = record {
      line = a.line;
      reached = subst₂ (λ c bs. Reaches t a.line (record { comps = c ∷ m; last = some d }) bs) p q a.reached;
    }

-- a line for each member of a set of numbers below top, ascending, behind the components m
pub record Series (m : List Comp) (top : ℕ) : Type 1 where
  -- whether the place a has a line, the line, and the text of the place
  pub member : ℕ → Bool
  pub line : ℕ → Entry
  pub part : ℕ → List ℕ
  -- the component when the places below a are read, and what its last line may be then
  pub up_to : ℕ → Comp
  pub Last : ℕ → Entry → Type 0
  pub later : (a : ℕ) (d : Entry) → Last a d → Last (suc a) d
  pub none-part : (a : ℕ) → member a ≡ false → part a ≡ []
  pub none_more : (a : ℕ) → member a ≡ false → up_to a ≡ up_to (suc a)
  pub one-part : (a : ℕ) → member a ≡ true → part a ≡ line_of (line a)
  pub one_more : (a : ℕ) → member a ≡ true → take_in (up_to a ∷ m) (line a) ≡ up_to (suc a) ∷ m
  pub one_last : (a : ℕ) → Last (suc a) (line a)
  pub fits : (a : ℕ) → a < top → LineFits (line a)
  pub faultless : (a : ℕ) (d : Entry) → a < top → Last a d → Faultless (record { comps = up_to a ∷ m; last = some d }) (line a)

pub series-read : {t : List ℕ} {m : List Comp} {top : ℕ} (S : Series m top) (n a : ℕ) (d : Entry) (bs : List ℕ) → a + n ≡ top → S.Last a d
    → At t (S.up_to a) m d (spread S.part a n ++ bs)
    → (e : Entry) × S.Last top e × At t (S.up_to top) m e bs
series-read {top = top} S zero a d bs q h r = let e : a ≡ top = omega arith in (d, subst (λ a. S.Last a d) e h, move (ap S.up_to e) refl r)
series-read {t} {m} {top} S (suc n) a d bs q h r = go (series-read S n (suc a)) (S.member a) refl
  where
    rest : List ℕ
    rest = spread S.part (suc a) n ++ bs

    front : (l : List ℕ) → S.part a ≡ l → spread S.part a (suc n) ++ bs ≡ l ++ rest
    front l e = append_assoc (S.part a) (spread S.part (suc a) n) bs ∙ ap (λ (l : List ℕ). l ++ rest) e

    go : ((d : Entry) (bs : List ℕ) → suc a + n ≡ top → S.Last (suc a) d → At t (S.up_to (suc a)) m d (spread S.part (suc a) n ++ bs)
        → (e : Entry) × S.Last top e × At t (S.up_to top) m e bs)
        → (b : Bool) → S.member a ≡ b → (e : Entry) × S.Last top e × At t (S.up_to top) m e bs
    go ih false e = ih d bs (omega arith) (S.later a d h) (move (S.none_more a e) (front [] (S.none-part a e)) r)
    go ih true e = ih (S.line a) bs (omega arith) (S.one_last a) (record {
      line = suc r.line;
      reached =
          subst (λ (cs : List Comp). Reaches t (suc r.line) (record { comps = cs; last = some (S.line a) }) rest) (S.one_more a e)
          (line_on (S.line a) rest r.reached (front (line_of (S.line a)) (S.one-part a e)) (S.fits a (omega arith)) (S.faultless a d (omega arith) h));
    })
