-- The next sample of a list: what is read at a cursor is the first of what is left, and the rest stands behind it.
use mathlib.Core.Path.{◌≡◌, refl, sym, ◌∙◌, ap, subst}
use mathlib.Core.Option.{Option}
use mathlib.Core.List.{List, [], ◌∷◌}
use Prim.Native.Nat.{ℕ, suc, ◌+◌, ◌^◌, ◌≤◌, ◌<◌}
use native.Mathlib.Omega.{arith}
use lib.ListN.{drop}
use Rattle.answer.specs.Limits.{max_ticks}
use Rattle.model.specs.Reading.{Scan, is, stops, got, field}
use Rattle.simulation.specs.Samples.{sample_at, nth}
use Rattle.samples.specs.Lines.{Left, over, more}
use Rattle.samples.proofs.SampleLaws.{field_is}
use Rattle.feed.specs.declared.Source.{Source}
use Rattle.feed.specs.declared.Source.TheVariants.{Lists}
use Rattle.std.specs.Prelude.{Some, None}
use Rattle.feed.specs.Supply.{lent, InList, ListTakes, Taking, Gives, Small, TakeCall}
use Rattle.feed.specs.declared.Taken.{Taken}

abbrev rest_or : Scan ℕ → List ℕ
rest_or (is g) = g.rest
rest_or (stops cs) = cs

abbrev value_or : Scan ℕ → ℕ
value_or (is g) = g.value
value_or (stops cs) = 0

-- ---- by what is left
first-of : {bs ns : List ℕ} → Left bs ns → (n : ℕ) (cs : List ℕ) → field sample_at bs ≡ got n cs → (ms : List ℕ) × (ns ≡ n ∷ ms) × Left cs ms
first-of (over e) n cs f = let z : ◌≡◌ {A = ℕ} 0 1 = cc in absurd (omega arith)
first-of (more {n = m} {cs = ds} {ns = ms} e l) n cs f =
    let p : m ≡ n = ap value_or (sym e ∙ f) in
    let q : ds ≡ cs = ap rest_or (sym e ∙ f) in
    (ms, ap (λ i. i ∷ ms) p, subst (λ b. Left b ms) q l)

none_of : {bs ns : List ℕ} → Left bs ns → (cs : List ℕ) → field sample_at bs ≡ stops cs → ns ≡ []
none_of (over e) cs f = refl
none_of (more e l) cs f = let z : ◌≡◌ {A = ℕ} 0 1 = cc in absurd (omega arith)

module _ (t ns : List ℕ) (x at used : ℕ) where
  gives-listed : (r : Taking) → ListTakes t at r → (g : ℕ → Option ℕ) (k : ℕ) → InList t at g k → Gives (lent Lists t ns) x g k r
  unfolding nth
  gives-listed (Some v) e g k s =
      let f = first-of s.left v.ticks (drop v.at t) e in
      let zero-on : k ≡ k + 0 = omega arith in
      record {
        next = ap g zero-on ∙ s.each 0 ∙ ap (λ l. nth l 0) f.1;
        stands = record {
          samples = f.0;
          left = f.2;
          each = λ j. let on : suc k + j ≡ k + suc j = omega arith in ap g on ∙ s.each (suc j) ∙ ap (λ l. nth l (suc j)) f.1;
        };
      }
  gives-listed None e g k s =
      let zero-on : k ≡ k + 0 = omega arith in
      ap g zero-on ∙ s.each 0 ∙ ap (λ l. nth l 0) (none_of s.left e.0 e.1)

  small-listed : (r : Taking) → ListTakes t at r → Small r
  small-listed (Some v) e = (field_is (drop at t) v.ticks (drop v.at t) e).most
  small-listed None e = tt

  pub takes-listed : (from : Source) → from ≡ Lists → (r : Taking) → ListTakes t at r → TakeCall (lent from t ns) x at used r
  takes-listed from q r e = subst (λ s. TakeCall (lent s t ns) x at used r) (sym q) (record { small = small-listed r e; gives = gives-listed r e })

-- a sample taken fits a clock's value
pub takes-small : (r : Taking) → Small r → (s : Taken) → r ≡ Some s → s.ticks < 2 ^ 63
takes-small r h s e = go (subst Small e h)
  where
    go : s.ticks ≤ max_ticks → s.ticks < 2 ^ 63
    go h = omega arith
