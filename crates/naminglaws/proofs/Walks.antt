-- A pass over the lines of an old text: what they declare, and how long they are by default names.
use mathlib.Core.Path.{◌≡◌, refl, sym, ◌∙◌, ap}
use mathlib.Core.List.{List, [], ◌∷◌, ◌++◌}
use Prim.Native.Nat.{ℕ, zero, suc, ◌+◌, ◌-◌, ◌*◌, ◌≤◌, ◌<◌}
use native.Mathlib.Omega.{arith}
use lib.ListN.{length, length-append}
use lib.Seq.{slice, length-slice}
use lib.Bits.{or_comm, or_zero_r}
use Rattle.laws.specs.Sets.{◌∪◌}
use Rattle.laws.proofs.SetLaws.{or_assoc}
use Rattle.model.specs.Reading.{Entry}
use Rattle.lines.specs.Lines.{line_of as code_of}
use Rattle.naminglaws.specs.Naming.{entries_at, line_set, set_in, set_of, default_line, default_lines, letter_part, line_bytes, PartIs, Sums}
use Rattle.naminglaws.proofs.LineLaws.{entries_next, line-is, line-more, place_inside}

nothing-or : (s : ℕ) → (0 ∪ s) ≡ s
nothing-or s = or_comm 0 s ∙ or_zero_r s

or_nothing : (s : ℕ) → (s ∪ 0) ≡ s
or_nothing s = or_zero_r s

set-none : set_in [] ≡ 0
unfolding set_in
set-none = refl

set-one : (e : Entry) (es : List Entry) → set_in (e ∷ es) ≡ line_set (code_of e) ∪ set_in es
unfolding set_in
set-one e es = refl

-- ---- one line: the bytes that are put, and the lines behind it
pub lines_none : default_lines [] ≡ []
unfolding default_lines
lines_none = refl

lines-one : (e : Entry) (es : List Entry) → default_lines (e ∷ es) ≡ default_line e ++ default_lines es
unfolding default_lines
lines-one e es = refl

letter-most : (n : ℕ) → length (letter_part n) ≤ 1
letter-most zero = omega arith
letter-most (suc n) = omega arith

module _ (t : List ℕ) (at place declares next : ℕ) (p : PartIs t at place declares next) where
  pub part-more : at < next
  part-more = line-more t at next p.line p.read p.start p.inside

  pub part-inside : at + place ≤ next
  part-inside = omega (arith, p.place_is, place_inside t at next p.line p.read p.start p.inside)

  pub lines_next : default_lines (entries_at t at) ≡ line_bytes t at place next ++ default_lines (entries_at t next)
  lines_next =
      let bytes = ap (λ k. line_bytes t at k next) p.place_is ∙ line-is t at next p.line p.read p.start p.inside in
      ap default_lines (entries_next t at next p.line p.read) ∙ lines-one p.line (entries_at t next)
      ∙ ap (λ (x : List ℕ). x ++ default_lines (entries_at t next)) (sym bytes)

  pub part_length : length (line_bytes t at place next) ≡ (next - at) + length (letter_part place)
  part_length =
      omega (
        arith,
        part-inside,
        length-append (slice at (at + place) t ++ letter_part place) (slice (at + place) next t),
        length-append (slice at (at + place) t) (letter_part place),
        length-slice at (at + place) t (omega (arith, part-inside, p.inside)),
        length-slice (at + place) next t p.inside,
      )

  pub part-most : (next - at) + length (letter_part place) + 2 * at ≤ 2 * next
  part-most = omega (arith, letter-most place, part-more)

  set_next : set_in (entries_at t at) ≡ declares ∪ set_in (entries_at t next)
  set_next =
      ap set_in (entries_next t at next p.line p.read) ∙ set-one p.line (entries_at t next) ∙ ap (λ s. s ∪ set_in (entries_at t next)) (sym p.set_is)

-- ---- a pass over all lines: what was added up, with the lines from here on, is all
pub record Summed (t : List ℕ) (at declared sum : ℕ) : Type 0 where
  pub set : (declared ∪ set_in (entries_at t at)) ≡ set_of t
  pub same : sum + length (default_lines (entries_at t at)) ≡ length (default_lines (entries_at t 0))
  pub most : sum ≤ 2 * at
  pub inside : at ≤ length t

pub summed-first : (t : List ℕ) → Summed t 0 0 0
summed-first t = record { set = nothing-or (set_of t); same = omega arith; most = omega arith; inside = omega arith }

module _ (t : List ℕ) (at declared sum : ℕ) (s : Summed t at declared sum) where
  pub summed-none : entries_at t at ≡ [] → Sums t declared sum
  summed-none e =
      record {
        set = sym (or_nothing declared) ∙ ap (λ x. declared ∪ x) (sym (ap set_in e ∙ set-none)) ∙ s.set;
        long = omega (arith, s.same, ap length (ap default_lines e ∙ lines_none));
        most = omega (arith, s.most, s.inside);
      }

  pub summed-next : (place declares next declared' sum' : ℕ) → PartIs t at place declares next → declared' ≡ declared ∪ declares
      → sum' ≡ sum + (next - at) + length (letter_part place) → Summed t next declared' sum'
  summed-next place declares next declared' sum' p d q =
      record {
        set =
            ap (λ x. x ∪ set_in (entries_at t next)) d ∙ or_assoc declared declares (set_in (entries_at t next))
            ∙ ap (λ x. declared ∪ x) (sym (set_next t at place declares next p)) ∙ s.set;
        same =
            omega (
              arith,
              s.same,
              q,
              part_length t at place declares next p,
              ap length (lines_next t at place declares next p),
              length-append (line_bytes t at place next) (default_lines (entries_at t next)),
            );
        most = omega (arith, s.most, q, part-most t at place declares next p);
        inside = p.inside;
      }
