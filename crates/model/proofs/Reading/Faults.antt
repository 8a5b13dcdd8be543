-- Reading by its faults: a text is refused with a number at a line, and the column that the number carries, exactly when every line before it is
-- faultless in its turn and the number is that line's lowest fault.
use mathlib.Core.Path.{◌≡◌, refl, sym, ◌∙◌, ap, ap₂, subst}
use mathlib.Core.Logic.{◌⊎◌, inl, inr, ◌↔◌, ⊎_elim, by_cases}
use mathlib.Core.Option.{Option, none, some}
use mathlib.Core.List.{List, [], ◌∷◌, cons≢nil, head-eq_of_cons-eq, reverse}
use Prim.Native.Nat.{ℕ, zero, suc, ◌≤◌, ◌<◌}
use native.Mathlib.Omega.{arith}
use native.Mathlib.Decide.{dec_lt}
use lib.ListN.{length}
use borrow.Author.Tests.{lt-ltb, le-ltb}
use Rattle.laws.specs.Lowest.{Lowest}
use Rattle.answer.specs.Limits.{max_bytes}
use Rattle.answer.specs.Told.{Told, tell, Answer, answered, refused}
use Rattle.model.specs.Model.{Comp, Model}
use Rattle.model.specs.Reading.{Got, Scan, is, stops, Entry, comp-entry, act-entry, clk-entry, row-entry, entry, Progress, current, at_start}
use Rattle.model.specs.Reading.{turn, fault_of, column_of, stop_column, row_of, with_act, with_clk, with_row, on_last, take_in, finish, lines_from}
use Rattle.model.specs.Reading.{read_of}
use Rattle.model.specs.Faulty.{LineFault, InTurn, Carries, with_line, Reaches, first-line, next-line, LineFaultAt, ReadsAs, is-model}
use Rattle.model.specs.Faulty.{is-too-long, is-empty, has-fault}
use Rattle.model.proofs.Reading.Lines.{line-exactly}
use Rattle.model.proofs.Reading.LowestFault.{no-fault, fault-some, fault-carries, fault-none, none-fault, one-lowest, fault-number, shapeless}
use Rattle.model.proofs.Reading.LowestFault.{shapeless-carries, one-column}
use Rattle.model.proofs.Reading.LinesFrom.{entry-shortens, lines_end, lines-shapeless, lines-fault, lines_next}

-- ---- the lines in their turn
pub reading-goes-on : {t : List ℕ} {k : ℕ} {p : Progress} {bs : List ℕ} → Reaches t k p bs → lines_from (length t) 1 at_start t ≡ lines_from (length bs) k p bs
reading-goes-on first-line = refl
reading-goes-on (next-line {k} {p} {bs} {e} {cs} r read h) =
    reading-goes-on r
    ∙ lines_next k p e cs (length bs) (length cs) bs (omega arith) (omega arith) ((line-exactly bs e cs).1 read) (none-fault p e h)

-- how reading ends: behind the last line, or at the first line that has a fault
data End (t : List ℕ) (a : Answer Model) : Type 0 where
  at-end : {k : ℕ} {p : Progress} → Reaches t k p [] → a ≡ finish p.comps → End t a
  at-fault : {k : ℕ} {p : Progress} {bs : List ℕ} {n : ℕ} {column : List ℕ} → Reaches t k p bs → ¬ (bs ≡ []) → Lowest (LineFault p bs) n → Carries p bs n column
      → a ≡ refused (tell n (k ∷ column))
      → End t a

-- the line at the front of the bytes: of wrong shape, faulty, or faultless
data Line (p : Progress) (bs : List ℕ) : Type 0 where
  line-shapeless : (cs : List ℕ) → entry bs ≡ stops cs → Line p bs
  line-faulty : (g : Got Entry) (n : ℕ) → entry bs ≡ is g → fault_of p g.value ≡ some n → Line p bs
  line-faultless : (g : Got Entry) → entry bs ≡ is g → fault_of p g.value ≡ none → Line p bs

line-is : (p : Progress) (bs : List ℕ) → Line p bs
line-is p bs = go (entry bs) refl
  where
    go : (o : Scan Entry) → entry bs ≡ o → Line p bs
    go (stops cs) read = line-shapeless cs read
    go (is g) read = judged (fault_of p g.value) refl
      where
        judged : (o : Option ℕ) → fault_of p g.value ≡ o → Line p bs
        judged none h = line-faultless g read h
        judged (some n) h = line-faulty g n read h

reading-ends : (f : ℕ) {t : List ℕ} {k : ℕ} {p : Progress} (bs : List ℕ) → Reaches t k p bs → length bs ≤ f → End t (lines_from f k p bs)
reading-ends zero {k = k} {p} [] r l = at-end r (lines_end k p zero)
reading-ends zero (b ∷ bs) r l = absurd (omega arith)
reading-ends (suc f) {k = k} {p} [] r l = at-end r (lines_end k p (suc f))
reading-ends (suc f) {t} {k} {p} (b ∷ bs) r l = go (λ q cs r h. reading-ends f cs r h) (line-is p (b ∷ bs))
  where
    go : ((q : Progress) (cs : List ℕ) → Reaches t (suc k) q cs → length cs ≤ f → End t (lines_from f (suc k) q cs)) → Line p (b ∷ bs)
        → End t (lines_from (suc f) k p (b ∷ bs))
    go ih (line-shapeless cs read) =
        at-fault r cons≢nil (shapeless p (b ∷ bs) cs read) (shapeless-carries p (b ∷ bs) cs read) (lines-shapeless k p (suc f) (b ∷ bs) cs cons≢nil l read)
    go ih (line-faulty g n read h) =
        at-fault r cons≢nil (fault-some p (b ∷ bs) g.value g.rest read n h) (fault-carries p (b ∷ bs) g.value g.rest read n h)
        (lines-fault k p g.value g.rest (suc f) (b ∷ bs) n l read h)
    go ih (line-faultless g read h) =
        let s = entry-shortens (b ∷ bs) g read in
        subst (End t) (sym (lines_next k p g.value g.rest (suc f) f (b ∷ bs) l (omega arith) read h))
        (ih (with_line p g.value) g.rest (next-line r ((line-exactly (b ∷ bs) g.value g.rest).0 read)
        (fault-none p (b ∷ bs) g.value g.rest read h)) (omega arith))

-- a line that has a fault is refused with its lowest, and the column that this carries
line_refused : (k : ℕ) (p : Progress) (bs : List ℕ) (n : ℕ) (column : List ℕ) → ¬ (bs ≡ []) → Lowest (LineFault p bs) n → Carries p bs n column
    → lines_from (length bs) k p bs ≡ refused (tell n (k ∷ column))
line_refused k p bs n column w h c = go (line-is p bs)
  where
    told : (m : ℕ) (l : List ℕ) → Lowest (LineFault p bs) m → Carries p bs m l
        → ◌≡◌ {A = Answer Model} (refused (tell m (k ∷ l))) (refused (tell n (k ∷ column)))
    told m l a d =
        let e = one-lowest p bs m n a h in
        ap₂ {C = Answer Model} (λ m l. refused (tell m (k ∷ l))) e (one-column (subst (λ m. Carries p bs m l) e d) c)

    go : Line p bs → lines_from (length bs) k p bs ≡ refused (tell n (k ∷ column))
    go (line-shapeless cs read) =
        lines-shapeless k p (length bs) bs cs w (omega arith) read ∙ told 2 (stop_column bs cs ∷ []) (shapeless p bs cs read) (shapeless-carries p bs cs read)
    go (line-faulty g m read e) =
        lines-fault k p g.value g.rest (length bs) bs m (omega arith) read e
        ∙ told m (column_of (current p) m g.value) (fault-some p bs g.value g.rest read m e) (fault-carries p bs g.value g.rest read m e)
    go (line-faultless g read e) =
        let q = fault-none p bs g.value g.rest read e in
        absurd (no-fault p bs g.value g.rest read n (λ _. q.in-turn) (λ _. q.in-range) (λ _. q.named) (λ _. q.in_order) (λ _. q.room) h.here)

-- ---- the whole text
pub read_short : (t : List ℕ) → length t ≤ max_bytes → read_of t ≡ lines_from (length t) 1 at_start t
unfolding read_of
read_short t h = rw (le-ltb max_bytes (length t) h, read_of)

read-long : (t : List ℕ) → max_bytes < length t → read_of t ≡ refused (tell 1 (0 ∷ []))
unfolding read_of
read-long t h = rw (lt-ltb max_bytes (length t) h, read_of)

read-ends : (t : List ℕ) → length t ≤ max_bytes → End t (read_of t)
read-ends t h = rw (read_short t h) (reading-ends (length t) t first-line (omega arith))

-- nothing is taken in only where nothing was read
on-last-none : (f : Comp → Comp) (m : List Comp) → on_last f m ≡ [] → m ≡ []
on-last-none f [] e = refl
on-last-none f (c ∷ cs) e = absurd (cons≢nil e)

take-in-none : (p : Progress) (e : Entry) → take_in p.comps e ≡ [] → (p.comps ≡ []) × (1 ≤ turn e)
unfolding take_in
take-in-none p (comp-entry n s) h = absurd (cons≢nil h)
take-in-none p (act-entry a k) h = (on-last-none (λ c. with_act c a k) p.comps h, omega arith)
take-in-none p (clk-entry x b) h = (on-last-none (λ c. with_clk c x b) p.comps h, omega arith)
take-in-none p (row-entry s g a r t) h = (on-last-none (λ c. with_row c (row_of s g a r t)) p.comps h, omega arith)

none-taken : {t : List ℕ} {k : ℕ} {p : Progress} {bs : List ℕ} → Reaches t k p bs → p.comps ≡ [] → (p.last ≡ none) × (bs ≡ t)
none-taken first-line e = (refl, refl)
none-taken (next-line {p = p} {e = e} r read h) w =
    let q = take-in-none p e w in
    let z : turn e ≡ 0 = subst (λ l. InTurn l e) (none-taken r q.0).0 h.in-turn in
    absurd (omega (arith, q.1))

-- answers told apart
same-told : {m n : ℕ} {a b : List ℕ} → ◌≡◌ {A = Answer Model} (refused (tell m a)) (refused (tell n b)) → (m ≡ n) × (a ≡ b)
same-told {m} {n} {a} {b} e = let z : tell m a ≡ tell n b = cc in (ap (λ (t : Told). t.number) z, ap (λ (t : Told). t.place) z)

not-refused : {m : Model} {t : Told} → ◌≡◌ {A = Answer Model} (answered m) (refused t) → ⊥
not-refused e = let z : ◌≡◌ {A = ℕ} 0 1 = cc in omega arith

-- what stands behind the line in a place
tails : {j k : ℕ} {a b : List ℕ} → j ∷ a ≡ k ∷ b → a ≡ b
tails {a = a} e = ap (λ (l : List ℕ). elim l as (λ _. List ℕ) [ [] ↦ a | x ∷ xs ↦ xs ]) e

-- a refusal that is neither 1 nor 8 is of a line; 8 is of the end
abbrev AtLine : List ℕ → ℕ → ℕ → List ℕ → Type 0
AtLine t n k column = (p : Progress) × (bs : List ℕ) × Reaches t k p bs × ¬ (bs ≡ []) × Lowest (LineFault p bs) n × Carries p bs n column

refused-at : {t : List ℕ} (a : Answer Model) (n k : ℕ) (column : List ℕ) → End t a → a ≡ refused (tell n (k ∷ column))
    → ((n ≡ 8) × (t ≡ [])) ⊎ AtLine t n k column
refused-at {t} a n k column (at-end {p = p} r e) h = go p.comps refl
  where
    go : (m : List Comp) → p.comps ≡ m → ((n ≡ 8) × (t ≡ [])) ⊎ AtLine t n k column
    go [] w = inl (sym (same-told {a = 0 ∷ []} (ap finish (sym w) ∙ sym e ∙ h)).0, sym (none-taken r w).1)
    go (c ∷ cs) w = absurd (not-refused (ap finish (sym w) ∙ sym e ∙ h))
refused-at {t} a n k column (at-fault {p = p} {bs = bs} {column = l} r w f c e) h =
    let z = same-told (sym e ∙ h) in
    inr (
      p,
      bs,
      subst (λ i. Reaches t i p bs) (head-eq_of_cons-eq z.1) r,
      w,
      subst (Lowest (LineFault p bs)) z.0 f,
      subst (Carries p bs n) (tails z.1) (subst (λ i. Carries p bs i l) z.0 c),
    )

-- 1 "text over 32,768 bytes", 8 "no component": place 0
pub too-long-exactly : (t : List ℕ) → (read_of t ≡ refused (tell 1 (0 ∷ []))) ↔ (max_bytes < length t)
too-long-exactly t = (there, read-long t)
  where
    there : read_of t ≡ refused (tell 1 (0 ∷ [])) → max_bytes < length t
    there e = by_cases (dec_lt max_bytes (length t)) (λ h. h) (λ h.
        ⊎_elim (λ q. absurd (let z : 1 ≡ 8 = q.0 in omega arith)) (λ q. absurd (omega (arith, (fault-number q.4.here).0)))
        (refused-at (read_of t) 1 0 [] (read-ends t (omega arith)) e))

pub no-component-exactly : (t : List ℕ) → (read_of t ≡ refused (tell 8 (0 ∷ []))) ↔ (t ≡ [])
unfolding read_of lines_from
no-component-exactly t = (there, λ e. rw e)
  where
    there : read_of t ≡ refused (tell 8 (0 ∷ [])) → t ≡ []
    there e = by_cases (dec_lt max_bytes (length t))
        (λ h. absurd (let z : 1 ≡ 8 = (same-told (sym (read-long t h) ∙ e)).0 in omega arith))
        (λ h. ⊎_elim (λ q. q.1) (λ q. absurd (omega (arith, (fault-number q.4.here).1))) (refused-at (read_of t) 8 0 [] (read-ends t (omega arith)) e))

-- 2 to 7
pub fault-exactly : (t : List ℕ) (n k : ℕ) (column : List ℕ) → 2 ≤ n → n ≤ 7 → (read_of t ≡ refused (tell n (k ∷ column))) ↔ LineFaultAt t n k column
fault-exactly t n k column l h = (there, back)
  where
    there : read_of t ≡ refused (tell n (k ∷ column)) → LineFaultAt t n k column
    there e = by_cases (dec_lt max_bytes (length t))
        (λ w. absurd (omega (arith, (same-told (sym (read-long t w) ∙ e)).0)))
        (λ w. ⊎_elim (λ q. absurd (omega (arith, q.0)))
        (λ q. record { short = omega arith; progress = q.0; bytes = q.1; reached = q.2; line = q.3; lowest = q.4; carries = q.5 })
        (refused-at (read_of t) n k column (read-ends t (omega arith)) e))

    back : LineFaultAt t n k column → read_of t ≡ refused (tell n (k ∷ column))
    back a = read_short t a.short ∙ reading-goes-on a.reached ∙ line_refused k a.progress a.bytes n column a.line a.lowest a.carries

-- every answer: a model, or one of these refusals
pub read-answers : (t : List ℕ) → ReadsAs t (read_of t)
read-answers t = by_cases (dec_lt max_bytes (length t)) (λ h. is-too-long h (read-long t h)) (λ h. go (omega arith) (read-ends t (omega arith)))
  where
    go : length t ≤ max_bytes → End t (read_of t) → ReadsAs t (read_of t)
    go s (at-end {p = p} r e) = ended p.comps refl
      where
        ended : (m : List Comp) → p.comps ≡ m → ReadsAs t (read_of t)
        ended [] w = is-empty (sym (none-taken r w).1) (e ∙ ap finish w)
        ended (c ∷ cs) w = is-model (reverse (c ∷ cs)) (e ∙ ap finish w)
    go s (at-fault {k} {p} {bs} {n} {column} r w l c e) = has-fault n k column
        (record { short = s; progress = p; bytes = bs; reached = r; line = w; lowest = l; carries = c }) e

-- a model that was read: every line is faultless in its turn, and nothing is left
pub record ReadModel (t : List ℕ) (m : Model) : Type 0 where
  pub short : length t ≤ max_bytes
  pub lines : ℕ
  pub progress : Progress
  pub reached : Reaches t lines progress []
  pub some : 1 ≤ length progress.comps
  pub model : m ≡ reverse progress.comps

pub model-read : (t : List ℕ) (m : Model) → read_of t ≡ answered m → ReadModel t m
model-read t m e = by_cases (dec_lt max_bytes (length t)) (λ h. absurd (not-refused (sym e ∙ read-long t h))) (λ h. go (omega arith) (read-ends t (omega arith)))
  where
    go : length t ≤ max_bytes → End t (read_of t) → ReadModel t m
    go s (at-fault r w l c f) = absurd (not-refused (sym e ∙ f))
    go s (at-end {k} {p} r f) = ended p.comps refl
      where
        ended : (cs : List Comp) → p.comps ≡ cs → ReadModel t m
        ended [] w = absurd (not-refused (sym e ∙ f ∙ ap finish w))
        ended (c ∷ cs) w =
            record {
              short = s;
              lines = k;
              progress = p;
              reached = r;
              some = omega (arith, ap length w);
              model =
                  let q : ◌≡◌ {A = Answer Model} (answered m) (answered (reverse (c ∷ cs))) = sym e ∙ f ∙ ap finish w in
                  let z : m ≡ reverse (c ∷ cs) = cc in
                  z ∙ ap reverse (sym w);
            }

pub read-model : (t : List ℕ) (m : Model) → ReadModel t m → read_of t ≡ answered m
read-model t m r =
    read_short t r.short ∙ reading-goes-on r.reached ∙ lines_end r.lines r.progress 0 ∙ finished r.progress.comps r.some ∙ ap {B =
    Answer Model} answered (sym r.model)
  where
    finished : (cs : List Comp) → 1 ≤ length cs → finish cs ≡ answered (reverse cs)
    finished [] h = absurd (omega arith)
    finished (c ∷ cs) h = refl
