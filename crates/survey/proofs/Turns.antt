-- One turn of reading: how what the code keeps stands to what the definition keeps, before a line and behind it.
use mathlib.Core.Path.{◌≡◌, refl, sym, ◌∙◌, ap}
use mathlib.Core.Option.{Option, none, some}
use mathlib.Core.List.{List, [], ◌∷◌}
use Prim.Native.Nat.{ℕ, zero, suc, ◌+◌, ◌≤◌, ◌<◌}
use native.Mathlib.Numerals.{add-one}
use native.Mathlib.Nat.{le_refl}
use native.Mathlib.Omega.{arith}
use borrow.Author.Tests.{ne_eqb}
use Rattle.laws.proofs.SearchLaws.{no-some}
use lib.ListN.{length, drop, drop_of_length-le, length-drop}
use Rattle.answer.specs.declared.Place.TheVariants.{Whole, Spot}
use Rattle.std.specs.Prelude.{Ok, Err}
use Rattle.answer.specs.Told.{told, tell, Answer, refused, as_refused, says_checked, done_of}
use Rattle.model.specs.Model.{Model, Comp, row_count}
use Rattle.model.specs.Reading.{stops, got, Entry, comp-entry, act-entry, clk-entry, row-entry, entry, Progress, current, turn, out_of_turn, fault_of}
use Rattle.model.specs.Reading.{column_of, stop_column, states_by, first_column, outside, unnamed, row_of, with_act, with_clk, with_row, on_last, take_in}
use Rattle.model.specs.Reading.{finish, lines_from, at_start}
use Rattle.model.proofs.Reading.LinesFrom.{entry-shortens, lines_end, lines-shapeless, lines-fault, lines_next}
use Rattle.fields.specs.Resets.{valued}
use Rattle.lines.specs.declared.Line.{Line as CodeLine}
use Rattle.lines.specs.Lines.{line_of}
use Rattle.lines.proofs.LineLaws.{valued-is}
use Rattle.columns.specs.Columns.{value_column, beyond}
use Rattle.columns.proofs.ValueColumn.{value-column-is}
use Rattle.judge.specs.declared.Progress.{Progress as CodeProgress}
use Rattle.judge.specs.Judged.{numbered, standing, beginning, step_of}
use Rattle.judge.proofs.StepIs.{next, judged_of, Begun, step_is}
use Rattle.survey.specs.Places.{allowed_of, place_of}
use Rattle.survey.proofs.AllowedLaws.{three-on, range-as, names-as}

pub record Stands (t : List ℕ) (q : Progress) (p : CodeProgress) (at n : ℕ) : Type 0 where
  pub kept : p ≡ standing q
  pub begun : Begun q
  pub same : lines_from (length (drop at t)) n q (drop at t) ≡ lines_from (length t) 1 at_start t
  pub count : n + length (drop at t) ≤ 1 + length t

pub stands-first : (t : List ℕ) → Stands t at_start beginning 0 1
unfolding row_count
stands-first t =
    record { kept = refl; begun = record { some-comp = λ d e. let z : ◌≡◌ {A = ℕ} 0 1 = cc in absurd (omega arith) }; same = refl; count = le_refl _ }

left : (t : List ℕ) (at : ℕ) → at < length t → (drop at t ≡ [] → ⊥)
left t at h e = omega (arith, length-drop at t, ap length e)

judged-fault : (o : Option ℕ) (q : Progress) (f : ℕ) → judged_of o q ≡ Err f → o ≡ some f
judged-fault none q f e = let z : ◌≡◌ {A = ℕ} 0 1 = cc in absurd (omega arith)
judged-fault (some g) q f e = cc

judged-taken : (o : Option ℕ) (q : Progress) (p : CodeProgress) → judged_of o q ≡ Ok p → (o ≡ none) × (p ≡ standing q)
judged-taken none q p e = (refl, cc)
judged-taken (some g) q p e = let z : ◌≡◌ {A = ℕ} 0 1 = cc in absurd (omega arith)

-- behind a line that was taken in there is a component
on-last : (f : Comp → Comp) (m : List Comp) → length (on_last f m) ≡ length m
on-last f [] = refl
on-last f (c ∷ cs) = refl

in-turn : (m : List Comp) (l : Option Entry) (e : Entry) → (turn e ≡ 0 → ⊥) → fault_of (record { comps = m; last = l }) e ≡ none
    → Begun (record { comps = m; last = l }) → 1 ≤ length m
unfolding fault_of out_of_turn
in-turn m none e w h b = let f : fault_of (record { comps = m; last = none }) e ≡ some 3 = rw (ne_eqb (turn e) 0 w, fault_of, out_of_turn) in absurd (no-some h f)
in-turn m (some d) e w h b = b.some-comp d refl

grown : (m : List Comp) (l : Option Entry) (e : Entry) → fault_of (record { comps = m; last = l }) e ≡ none → Begun (record { comps = m; last = l })
    → 1 ≤ length (take_in m e)
unfolding take_in
grown m l (comp-entry n s) h b = omega arith
grown m l (act-entry a k) h b = omega (arith, on-last (λ c. with_act c a k) m, in-turn m l (act-entry a k) (λ z. omega arith) h b)
grown m l (clk-entry x y) h b = omega (arith, on-last (λ c. with_clk c x y) m, in-turn m l (clk-entry x y) (λ z. omega arith) h b)
grown m l (row-entry s g a r t) h b = omega (arith, on-last (λ c. with_row c (row_of s g a r t)) m, in-turn m l (row-entry s g a r t) (λ z. omega arith) h b)

-- the line that a scan found, as an entry
pub record Read (t : List ℕ) (at : ℕ) (l : CodeLine) (to : ℕ) : Type 0 where
  pub it : Entry
  pub here : entry (drop at t) ≡ got it (drop to t)
  pub line : line_of it ≡ l

pub read-line : (t : List ℕ) (at : ℕ) (l : CodeLine) (to : ℕ) → valued line_of (entry (drop at t)) ≡ got l (drop to t) → Read t at l to
read-line t at l to e = let v = valued-is line_of (entry (drop at t)) e in record { it = v.0; here = v.1; line = v.2 }

pub read-on : {t : List ℕ} {at : ℕ} {l : CodeLine} {to : ℕ} → Read t at l to → length (drop to t) < length (drop at t)
read-on {t} {at} {l} {to} r = entry-shortens (drop at t) (record { value = r.it; rest = drop to t }) r.here

module _ {t : List ℕ} {q : Progress} {p : CodeProgress} {at n : ℕ} (s : Stands t q p at n) where
  pub no_line : (cs : List ℕ) → at < length t → entry (drop at t) ≡ stops cs
      → lines_from (length t) 1 at_start t ≡ refused (tell 2 (n ∷ stop_column (drop at t) cs ∷ []))
  no_line cs h e = sym s.same ∙ lines-shapeless n q (length (drop at t)) (drop at t) cs (left t at h) (le_refl _) e

  pub at-end : length t ≤ at → lines_from (length t) 1 at_start t ≡ finish q.comps
  at-end h = sym s.same ∙ rw (drop_of_length-le t h) (lines_end n q 0)

  module _ (l : CodeLine) (to : ℕ) (r : Read t at l to) where
    judged : numbered (step_of p l) ≡ judged_of (fault_of q r.it) (next q r.it)
    judged = rw (s.kept, ← r.line) (step_is q r.it s.begun)

    found : (f : ℕ) → numbered (step_of p l) ≡ Err f → fault_of q r.it ≡ some f
    found f e = judged-fault (fault_of q r.it) (next q r.it) f (sym judged ∙ e)

    pub line-fault : (f : ℕ) → numbered (step_of p l) ≡ Err f
        → (lines_from (length t) 1 at_start t ≡ refused (tell f (n ∷ column_of (current q) f r.it))) × (3 ≤ f) × (f ≤ 7)
    line-fault f e =
        let h = found f e in
        let w = three-on q (drop at t) r.it (drop to t) r.here f h in
        (sym s.same ∙ lines-fault n q r.it (drop to t) (length (drop at t)) (drop at t) f (le_refl _) r.here h, w.0, w.1)

    -- the column that the code finds is the one that 4 and 5 carry
    pub line-column : (f k : ℕ) → numbered (step_of p l) ≡ Err f → k ≡ value_column t at (allowed_of p f) l
        → (f ≡ 4 → k ≡ first_column (outside (states_by (current q) r.it)) r.it) × (f ≡ 5 → k ≡ first_column (unnamed (current q)) r.it)
    line-column f k e c =
        let g = c ∙ ap (value_column t at (allowed_of p f)) (sym r.line) ∙ value-column-is t at (allowed_of p f) r.it (drop to t) r.here in (
          λ z. g ∙ ap (λ i. first_column (beyond (allowed_of p i)) r.it) z ∙ ap (λ (x : CodeProgress). first_column (beyond (allowed_of x 4)) r.it) s.kept
              ∙ range-as (current q) r.it,
          λ z.
              g ∙ ap (λ i. first_column (beyond (allowed_of p i)) r.it) z ∙ ap (λ (x : CodeProgress). first_column (beyond (allowed_of x 5)) r.it) s.kept
              ∙ names-as q (drop at t) r.it (drop to t) r.here (found f e ∙ ap some z),
        )

    line-judged : (p' : CodeProgress) → step_of p l ≡ Ok p' → (fault_of q r.it ≡ none) × (p' ≡ standing (next q r.it))
    line-judged p' e = judged-taken (fault_of q r.it) (next q r.it) p' (sym judged ∙ ap numbered e)

    pub line-faultless : (p' : CodeProgress) → step_of p l ≡ Ok p' → fault_of q r.it ≡ none
    line-faultless p' e = (line-judged p' e).0

    pub line_taken : (p' : CodeProgress) → step_of p l ≡ Ok p' → Stands t (next q r.it) p' to (n + 1)
    line_taken p' e =
        let h = line-judged p' e in
        record {
          kept = h.1;
          begun = record { some-comp = λ d x. grown q.comps q.last r.it h.0 s.begun };
          same =
              rw add-one (sym (lines_next n q r.it (drop to t) (length (drop at t)) (length (drop to t)) (drop at t) (le_refl _) (le_refl _)
              r.here h.0) ∙ s.same);
          count = omega (arith, read-on r, s.count);
        }

-- what a refusal at a line tells
told_line : (c : Comp) (e : Entry) (f n k : ℕ) → 3 ≤ f → f ≤ 7 → (f ≡ 4 → k ≡ first_column (outside (states_by c e)) e) → (f ≡ 5 → k ≡ first_column (unnamed c) e)
    → told (record { number = f; place = place_of n f k }) ≡ some (tell f (n ∷ column_of c f e))
unfolding told column_of
told_line c e zero n k h l a b = absurd (omega arith)
told_line c e (suc zero) n k h l a b = absurd (omega arith)
told_line c e (suc (suc zero)) n k h l a b = absurd (omega arith)
told_line c e (suc (suc (suc zero))) n k h l a b = refl
told_line c e (suc (suc (suc (suc zero)))) n k h l a b = ap (λ k. some (tell 4 (n ∷ k ∷ []))) (a refl)
told_line c e (suc (suc (suc (suc (suc zero))))) n k h l a b = ap (λ k. some (tell 5 (n ∷ k ∷ []))) (b refl)
told_line c e (suc (suc (suc (suc (suc (suc zero)))))) n k h l a b = refl
told_line c e (suc (suc (suc (suc (suc (suc (suc zero))))))) n k h l a b = refl
told_line c e (suc (suc (suc (suc (suc (suc (suc (suc f)))))))) n k h l a b = absurd (omega arith)

pub says-line : (c : Comp) (e : Entry) (f n k : ℕ) (o : Answer Model) → o ≡ refused (tell f (n ∷ column_of c f e)) → 3 ≤ f → f ≤ 7
    → (f ≡ 4 → k ≡ first_column (outside (states_by c e)) e) → (f ≡ 5 → k ≡ first_column (unnamed c) e)
    → says_checked (Err (record { number = f; place = place_of n f k })) ≡ some (done_of o)
unfolding says_checked
says-line c e f n k o q h l a b = ap as_refused (told_line c e f n k h l a b) ∙ ap (λ a. some (done_of a)) (sym q)

-- 2
pub says-shape : (n k : ℕ) (o : Answer Model) → o ≡ refused (tell 2 (n ∷ k ∷ []))
    → says_checked (Err (record { number = 2; place = Spot n k })) ≡ some (done_of o)
unfolding says_checked told
says-shape n k o e = ap (λ a. some (done_of a)) (sym e)

pub says_none : (o : Answer Model) (m : List Comp) → o ≡ finish m → length m ≡ 0 → says_checked (Err (record { number = 8; place = Whole }))
    ≡ some (done_of o)
unfolding says_checked told
says_none o [] e h = ap (λ a. some (done_of a)) (sym e)
says_none o (c ∷ cs) e h = absurd (omega arith)

pub says-fine : (o : Answer Model) (m : List Comp) → o ≡ finish m → (length m ≡ 0 → ⊥) → says_checked (Ok tt) ≡ some (done_of o)
unfolding says_checked
says-fine o [] e h = absurd (h refl)
says-fine o (c ∷ cs) e h = ap (λ a. some (done_of a)) (sym e)

pub says-long : (o : Answer Model) → o ≡ refused (tell 1 (0 ∷ [])) → says_checked (Err (record { number = 1; place = Whole })) ≡ some (done_of o)
unfolding says_checked told
says-long o e = ap (λ a. some (done_of a)) (sym e)
