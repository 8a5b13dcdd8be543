-- The old lines of a text, cut by cut: how many bytes they are, and that they are copied.
use mathlib.Core.Path.{◌≡◌, refl, sym, ◌∙◌, ap}
use mathlib.Core.Option.{Option, none, some}
use Rattle.std.specs.Prelude.{Some, None}
use mathlib.Core.List.{List, [], ◌∷◌, ◌++◌}
use Prim.Native.Nat.{ℕ, zero, suc, ◌+◌, ◌-◌, ◌*◌, ◌≤◌, ◌<◌}
use native.Mathlib.Omega.{arith}
use native.Mathlib.Nat.{le_refl}
use lib.ListN.{length, drop, length-append, drop_of_length-le}
use lib.Seq.{slice, length-slice}
use Rattle.model.specs.Reading.{Got, Scan, is, stops, Entry, entry, exactly, shorter}
use Rattle.measure.proofs.Fields.{width-most}
use Rattle.named.specs.NamedText.{Name, Line, line, lines_text}
use Rattle.named.specs.ReadNamed.{resolve_by}
use Rattle.named.proofs.Onward.{line-shortens}
use Rattle.laws.proofs.SearchLaws.{no-some, map-some}
use Rattle.namefields.specs.NameFields.{number_by, Found}
use Rattle.namelaws.specs.OldLines.{old_of, old_from, old_lines}
use Rattle.namelaws.proofs.OldLaws.{old-next}
use Rattle.cutlaws.specs.Cutting.{number_part, cut_bytes, CutIs}

-- ---- the bound on lines does not matter
old-stop : (f : Name → Option ℕ) (k : ℕ) (bs : List ℕ) → old_of f (line bs) ≡ none → old_from f k bs ≡ []
unfolding old_from
old-stop f zero bs h = refl
old-stop f (suc k) bs h = rw (h, old_from)

old-shortens : (f : Name → Option ℕ) (bs : List ℕ) (g : Got Entry) → old_of f (line bs) ≡ some g → length g.rest < length bs
old-shortens f bs g h = go (line bs) refl h
  where
    go : (o : Scan Line) → line bs ≡ o → old_of f o ≡ some g → length g.rest < length bs
    go (stops cs) e h = absurd (no-some refl h)
    go (is l) e h =
        let m = map-some (λ x. record { value = x; rest = l.rest }) (resolve_by f l.value) g h in
        let q : l.rest ≡ g.rest = ap (λ (x : Got Entry). x.rest) m.2 in
        omega (arith, line-shortens bs l e, ap length q)

nothing-old : (f : Name → Option ℕ) → old_of f (line []) ≡ none
unfolding line entry exactly shorter
nothing-old f = refl

old-bound : (f : Name → Option ℕ) (k j : ℕ) (bs : List ℕ) → length bs ≤ k → length bs ≤ j → old_from f k bs ≡ old_from f j bs
old-bound f zero j [] l m = old-stop f zero [] (nothing-old f) ∙ sym (old-stop f j [] (nothing-old f))
old-bound f zero j (b ∷ bs) l m = absurd (omega arith)
old-bound f (suc k) zero [] l m = old-stop f (suc k) [] (nothing-old f) ∙ sym (old-stop f zero [] (nothing-old f))
old-bound f (suc k) zero (b ∷ bs) l m = absurd (omega arith)
old-bound f (suc k) (suc j) bs l m = go (λ cs l m. old-bound f k j cs l m) (old_of f (line bs)) refl
  where
    go : ((cs : List ℕ) → length cs ≤ k → length cs ≤ j → old_from f k cs ≡ old_from f j cs) → (o : Option (Got Entry))
        → old_of f (line bs) ≡ o → old_from f (suc k) bs ≡ old_from f (suc j) bs
    go ih none h = old-stop f (suc k) bs h ∙ sym (old-stop f (suc j) bs h)
    go ih (some g) h =
        let s = old-shortens f bs g h in
        old-next f k bs g.value g.rest h ∙ ap {B = List Entry} (λ x. g.value ∷ x) (ih g.rest (omega arith) (omega arith))
        ∙ sym (old-next f j bs g.value g.rest h)

-- ---- one line more
module _ (t P : List ℕ) (at : ℕ) where
  pub lines-stop : old_of (number_by t P) (line (drop at t)) ≡ none → lines_text (old_lines t P at) ≡ []
  unfolding lines_text
  lines-stop h = ap lines_text (old-stop (number_by t P) (length (drop at t)) (drop at t) h)

  pub lines-over : length t ≤ at → lines_text (old_lines t P at) ≡ []
  lines-over h = lines-stop (ap (λ (b : List ℕ). old_of (number_by t P) (line b)) (drop_of_length-le t {i = at} h) ∙ nothing-old (number_by t P))

  lines-old : (next : ℕ) (e : Entry) → old_of (number_by t P) (line (drop at t)) ≡ some (record { value = e; rest = drop next t })
      → old_lines t P at ≡ e ∷ old_lines t P next
  lines-old next e h =
      let f = number_by t P in
      let s = old-shortens f (drop at t) (record { value = e; rest = drop next t }) h in
      old-bound f (length (drop at t)) (suc (length (drop at t))) (drop at t) (le_refl _) (omega arith)
      ∙ old-next f (length (drop at t)) (drop at t) e (drop next t) h
      ∙ ap {B = List Entry} (λ x. e ∷ x) (old-bound f (length (drop at t)) (length (drop next t)) (drop next t) (omega arith) (le_refl _))

  module _ (stop go next : ℕ) (a : Found) (c : CutIs t P at stop go next a) where
    pub lines_cut : lines_text (old_lines t P at) ≡ cut_bytes t at stop go next a ++ lines_text (old_lines t P next)
    unfolding lines_text
    lines_cut = ap lines_text (lines-old next c.old c.read) ∙ ap (λ (x : List ℕ). x ++ lines_text (old_lines t P next)) (sym c.bytes)

    number-most : (b : Found) → length (number_part b) ≤ 5
    number-most (Some b) = width-most b
    number-most None = omega arith

    pub cut-length : length (cut_bytes t at stop go next a) ≡ (stop - at) + length (number_part a) + (next - go)
    cut-length =
        let o = c.ordered in
        let h : stop ≤ length t = omega (arith, o.name, o.last, o.inside) in
        omega (
          arith,
          length-append (slice at stop t ++ number_part a) (slice go next t),
          length-append (slice at stop t) (number_part a),
          length-slice at stop t h,
          length-slice go next t o.inside,
        )

    pub cut_most : length (cut_bytes t at stop go next a) + 6 * at ≤ 6 * next
    cut_most = let o = c.ordered in omega (arith, cut-length, number-most a, o.first, o.name, o.last, o.more)

-- ---- how long they are: the loop
pub record Measured (t P : List ℕ) (from at sum : ℕ) : Type 0 where
  pub same : sum + length (lines_text (old_lines t P at)) ≡ length (lines_text (old_lines t P from))
  pub most : sum ≤ 6 * at
  pub inside : at ≤ length t

pub measured-first : (t P : List ℕ) (from : ℕ) → from ≤ length t → Measured t P from from 0
measured-first t P from h = record { same = omega arith; most = omega arith; inside = h }

module _ (t P : List ℕ) (from at sum : ℕ) (m : Measured t P from at sum) where
  pub measured-stop : old_of (number_by t P) (line (drop at t)) ≡ none → sum ≡ length (lines_text (old_lines t P from))
  measured-stop h = omega (arith, m.same, ap length (lines-stop t P at h))

  pub measured-over : length t ≤ at → sum ≡ length (lines_text (old_lines t P from))
  measured-over h = omega (arith, m.same, ap length (lines-over t P at h))

  pub measured-next : (stop go next : ℕ) (a : Found) (sum' : ℕ) → CutIs t P at stop go next a
      → sum' ≡ sum + (stop - at) + length (number_part a) + (next - go)
      → Measured t P from next sum'
  measured-next stop go next a sum' c e =
      let l = cut-length t P at stop go next a c in
      record {
        same =
            omega (
              arith,
              m.same,
              e,
              l,
              ap length (lines_cut t P at stop go next a c),
              length-append (cut_bytes t at stop go next a) (lines_text (old_lines t P next)),
            );
        most = omega (arith, m.most, e, l, cut_most t P at stop go next a c);
        inside = c.ordered.inside;
      }
