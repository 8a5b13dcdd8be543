-- A line of the second form, cut at its name, is the old line.
use mathlib.Core.Path.{◌≡◌, refl, sym, ◌∙◌, ap}
use mathlib.Core.Option.{Option, none, some}
use Rattle.std.specs.Prelude.{Some, None}
use mathlib.Core.List.{List, [], ◌∷◌, ◌++◌, append_assoc, append-nil}
use Prim.Native.Nat.{ℕ, ◌+◌, ◌≤◌, ◌<◌}
use native.Mathlib.Omega.{arith}
use lib.ListN.{length, drop, length-append, length-drop}
use lib.Seq.{slice, slice_empty}
use Rattle.laws.specs.Search.{map_some}
use Rattle.model.specs.Text.{tab, lf, act_word, row_word, Kind, kind_word, decimal, guard_field, fields_after}
use Rattle.model.specs.Reading.{got, guard_of, Entry, act-entry, row-entry}
use Rattle.model.specs.Line.{list_field, line_of}
use Rattle.named.specs.NamedText.{Name, Line, form-line, name-line, act-line, row-line, plain-line, line, line_text}
use Rattle.named.specs.ReadNamed.{resolve_by}
use Rattle.named.proofs.Scanned.{line-exact}
use Rattle.named.proofs.Onward.{line-shortens}
use Rattle.namefields.specs.NameFields.{name_from, number_by}
use Rattle.namelines.specs.NamedLines.{code_of, before_name}
use Rattle.namelaws.specs.OldLines.{old_of}
use Rattle.namelaws.proofs.NameTurns.{name-in-act, name-in-row, row-front}
use Rattle.cutlaws.specs.Cutting.{HasName, IsPlain, NoOld, CutIs}
use Rattle.cutlaws.proofs.CutLaws.{part-is, behind-is, next-is}

-- a line by its name w: the bytes before it, and those behind it; and the old line with a number there
record Named (l : Line) (e : Entry) (a : ℕ) (w : Name) : Type 0 where
  front : List ℕ
  back : List ℕ
  text : line_text l ≡ front ++ (w ++ back)
  old : line_of e ≡ front ++ (decimal a ++ back)
  before : length front ≡ before_name (code_of l)

act-named : (w : Name) (k : Kind) (a : ℕ) → Named (act-line w k) (act-entry a k) a w
unfolding line_text line_of fields_after
act-named w k a = record { front = act_word ++ (tab ∷ []); back = tab ∷ (kind_word k ++ (lf ∷ [])); text = refl; old = refl; before = refl }

row_named : (s : ℕ) (g : Option ℕ) (w : Name) (r : List ℕ) (u a : ℕ) → Named (row-line s g w r u) (row-entry s g a r u) a w
unfolding line_text line_of fields_after
row_named s g w r u a = record {
  front = row_word ++ (tab ∷ (decimal s ++ (tab ∷ (guard_field (guard_of g) ++ (tab ∷ [])))));
  back = tab ∷ (list_field r ++ (tab ∷ (decimal u ++ (lf ∷ []))));
  text = simp append_assoc;
  old = simp append_assoc;
  before = row-front [] 0 [] s g;
}

plain-bytes : (e : Entry) → line_text (plain-line e) ≡ line_of e
unfolding line_text
plain-bytes e = refl

nothing-more : (a b : List ℕ) → b ≡ [] → a ++ [] ++ b ≡ a
nothing-more a b e = ap (λ (x : List ℕ). a ++ [] ++ x) e ∙ simp append-nil

module _ (t P : List ℕ) (at next : ℕ) (l : Line) (read : line (drop at t) ≡ got l (drop next t)) (start : at ≤ length t) (end : next ≤ length t) where
  bytes : drop at t ≡ line_text l ++ drop next t
  bytes = (line-exact.scanned (drop at t) (record { value = l; rest = drop next t }) read).0

  ends : next ≡ at + length (line_text l)
  ends = next-is t at next (line_text l) bytes start end

  less : at < next
  less = let h = line-shortens (drop at t) (record { value = l; rest = drop next t }) read in omega (arith, h, length-drop at t, length-drop next t)

  old-is : (e : Entry) → resolve_by (number_by t P) l ≡ some e → old_of (number_by t P) (line (drop at t)) ≡ some (record { value = e; rest = drop next t })
  old-is e h = ap (old_of (number_by t P)) read ∙ ap (map_some (λ x. record { value = x; rest = drop next t })) h

  pub nothing-old : resolve_by (number_by t P) l ≡ none → old_of (number_by t P) (line (drop at t)) ≡ none
  nothing-old h = ap (old_of (number_by t P)) read ∙ ap (map_some (λ x. record { value = x; rest = drop next t })) h

  -- a line without a name is itself
  pub plain-cut : (e : Entry) → l ≡ plain-line e → CutIs t P at next next next None
  plain-cut e z = record {
    old = e;
    read = old-is e (ap (resolve_by (number_by t P)) z);
    bytes =
        nothing-more (slice at next t) (slice next next t) (slice_empty next t)
        ∙ part-is t at next (line_text l) (drop next t) bytes ends ∙ ap line_text z ∙ plain-bytes e;
    ordered = record { first = omega (arith, less); name = omega arith; last = omega arith; more = less; inside = end };
  }

  -- a line with a name
  name-cut : (e : Entry) (a stop go : ℕ) (w : Name) → Named l e a w → resolve_by (number_by t P) l ≡ some e
      → stop ≡ at + before_name (code_of l) → name_from t stop ≡ w
      → go ≡ stop + length (name_from t stop) → CutIs t P at stop go next (Some a)
  name-cut e a stop go w n h p name q =
      let F = n.front in
      let R = n.back in
      let all : drop at t ≡ F ++ (w ++ (R ++ drop next t)) =
      bytes ∙ ap (λ (x : List ℕ). x ++ drop next t) n.text ∙ append_assoc F (w ++ R) (drop next t)
      ∙ ap (λ (x : List ℕ). F ++ x) (append_assoc w R (drop next t)) in
      let s1 : stop ≡ at + length F = omega (arith, p, n.before) in
      let d1 : drop stop t ≡ w ++ (R ++ drop next t) = behind-is t at stop F (w ++ (R ++ drop next t)) all s1 in
      let s2 : go ≡ stop + length w = q ∙ ap (λ (x : Name). stop + length x) name in
      let d2 : drop go t ≡ R ++ drop next t = behind-is t stop go w (R ++ drop next t) d1 s2 in
      let long = ap length n.text in
      let s3 : next ≡ go + length R = omega (arith, ends, long, length-append F (w ++ R), length-append w R, s1, s2) in
      let one = part-is t at stop F (w ++ (R ++ drop next t)) all s1 in
      let two = part-is t go next R (drop next t) d2 s3 in
      record {
        old = e;
        read = old-is e h;
        bytes = (λ i. one i ++ decimal a ++ two i) ∙ append_assoc F (decimal a) R ∙ sym n.old;
        ordered = record { first = omega (arith, s1); name = omega (arith, s2); last = omega (arith, s3); more = less; inside = end };
      }

-- ---- by the line that the code has
module _ (t P : List ℕ) (at next : ℕ) (start : at ≤ length t) (end : next ≤ length t) where
  pub cut-plain : (x : Line) → line (drop at t) ≡ got x (drop next t) → IsPlain (code_of x) → CutIs t P at next next next None
  cut-plain form-line read h = absurd h
  cut-plain (name-line n w) read h = absurd h
  cut-plain (act-line w k) read h = absurd h
  cut-plain (row-line s g w r u) read h = absurd h
  cut-plain (plain-line e) read h = plain-cut t P at next (plain-line e) read start end e refl

  pub cut-none : (x : Line) → line (drop at t) ≡ got x (drop next t) → NoOld (code_of x) → old_of (number_by t P) (line (drop at t)) ≡ none
  cut-none form-line read h = nothing-old t P at next form-line read start end refl
  cut-none (name-line n w) read h = nothing-old t P at next (name-line n w) read start end refl
  cut-none (act-line w k) read h = absurd h
  cut-none (row-line s g w r u) read h = absurd h
  cut-none (plain-line e) read h = absurd h

  module _ (stop : ℕ) where
    abbrev Stands : Line → Type 0
    Stands x = stop ≡ at + before_name (code_of x)

    pub cut-unknown : (x : Line) → line (drop at t) ≡ got x (drop next t) → HasName (code_of x) → Stands x → number_by t P (name_from t stop) ≡ none
        → old_of (number_by t P) (line (drop at t)) ≡ none
    cut-unknown form-line read h p f = absurd h
    cut-unknown (name-line n w) read h p f = absurd h
    cut-unknown (act-line w k) read h p f =
        let name : name_from t stop ≡ w = ap (name_from t) p ∙ (name-in-act t at (drop next t) w k read).name in
        nothing-old t P at next (act-line w k) read start end (ap (map_some (λ a. act-entry a k)) (ap (number_by t P) (sym name) ∙ f))
    cut-unknown (row-line s g w r u) read h p f =
        let name : name_from t stop ≡ w = ap (name_from t) p ∙ (name-in-row t at (drop next t) s g w r u read).name in
        nothing-old t P at next (row-line s g w r u) read start end (ap (map_some (λ a. row-entry s g a r u)) (ap (number_by t P) (sym name) ∙ f))
    cut-unknown (plain-line e) read h p f = absurd h

    pub cut-named : (a go : ℕ) (x : Line) → line (drop at t) ≡ got x (drop next t) → HasName (code_of x) → Stands x → number_by t P (name_from t stop) ≡ some a
        → go ≡ stop + length (name_from t stop) → CutIs t P at stop go next (Some a)
    cut-named a go form-line read h p f q = absurd h
    cut-named a go (name-line n w) read h p f q = absurd h
    cut-named a go (act-line w k) read h p f q =
        let name : name_from t stop ≡ w = ap (name_from t) p ∙ (name-in-act t at (drop next t) w k read).name in
        name-cut t P at next (act-line w k) read start end (act-entry a k) a stop go w (act-named w k a)
        (ap (map_some (λ a. act-entry a k)) (ap (number_by t P) (sym name) ∙ f)) p name q
    cut-named a go (row-line s g w r u) read h p f q =
        let name : name_from t stop ≡ w = ap (name_from t) p ∙ (name-in-row t at (drop next t) s g w r u read).name in
        name-cut t P at next (row-line s g w r u) read start end (row-entry s g a r u) a stop go w (row_named s g w r u a)
        (ap (map_some (λ a. row-entry s g a r u)) (ap (number_by t P) (sym name) ∙ f)) p name q
    cut-named a go (plain-line e) read h p f q = absurd h
