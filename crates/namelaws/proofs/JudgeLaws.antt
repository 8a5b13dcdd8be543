-- Judging a line behind the `name` lines by what the code keeps is judging it by the definition.
use mathlib.Core.Path.{◌≡◌, refl, sym, ◌∙◌, ap, subst}
use mathlib.Core.Option.{Option, none, some}
use mathlib.Core.Bool.{Bool, true, false, cond}
use mathlib.Core.List.{List, [], ◌∷◌}
use Prim.Native.Nat.{ℕ, ◌≤◌}
use native.Mathlib.Omega.{arith}
use lib.ListN.{length}
use lib.Dec.{ltb}
use borrow.Author.Tests.{ne_eqb}
use Rattle.laws.specs.Sets.{◌∪◌}
use Rattle.laws.specs.Search.{map_some}
use Rattle.laws.proofs.SearchLaws.{no-some}
use Rattle.model.specs.Model.{Comp, row_count}
use Rattle.model.specs.Text.{Kind}
use Rattle.model.specs.Reading.{Entry, comp-entry, act-entry, clk-entry, row-entry, Progress, turn}
use Rattle.model.specs.Reading.{out_of_turn, fault_of, row_of, with_act, with_clk, with_row, on_last, take_in}
use Rattle.lines.specs.Lines.{line_of}
use Rattle.judge.specs.declared.Progress.{Progress as CodeProgress}
use Rattle.std.specs.Prelude.{Result, Err}
use Rattle.judge.specs.Judged.{numbered, standing, last_of, step_of}
use Rattle.judge.proofs.StepIs.{next, judged_of, Begun, step_is}
use Rattle.named.specs.NamedText.{Name, Sheet, number_of, declared_by, Line, form-line, name-line, act-line, row-line, plain-line, LineFits₂}
use Rattle.named.specs.ReadNamed.{Progress₂, without_acts, fault_named, with_old, taken}
use Rattle.named.proofs.Resolved.{act-unknown, row-unknown, unknown-faulty, resolved-fault}
use Rattle.namelines.specs.NamedLines.{code_of}
use Rattle.namelaws.specs.Judging.{actless, step_named, declared_named}

-- ---- a component without actions
pub standing-actless : (m : Progress) → standing (without_acts m) ≡ actless (standing m)
unfolding row_count
standing-actless m = go m.comps m.last
  where
    go : (cs : List Comp) (l : Option Entry) → standing (without_acts (record { comps = cs; last = l })) ≡ actless (standing (record { comps = cs; last = l }))
    go [] l = refl
    go (c ∷ cs) l = refl

begun-actless : (m : Progress) → Begun m → Begun (without_acts m)
begun-actless m b = record { some-comp = λ d e. go m.comps (b.some-comp d e) }
  where
    go : (cs : List Comp) → 1 ≤ length cs → 1 ≤ length (on_last Rattle.named.specs.ReadNamed.actless cs)
    go [] h = absurd (omega arith)
    go (c ∷ cs) h = omega arith

-- ---- out of turn
last_turn : (d : Entry) → (last_of (some d)).turn ≡ turn d
last_turn (comp-entry n s) = refl
last_turn (act-entry a k) = refl
last_turn (clk-entry x b) = refl
last_turn (row-entry s g a r t) = refl

turn-act : (o : Option Entry) (k : Kind) → ltb 1 (last_of o).turn ≡ out_of_turn o (act-entry 0 k)
unfolding out_of_turn
turn-act none k = refl
turn-act (some d) k = ap (ltb 1) (last_turn d)

-- ---- the action that the code looked up; a `name` line behind a line
abbrev pub Looked : Sheet → Line → Option ℕ → Type 0
Looked s form-line o = Unit {0}
Looked s (name-line n w) o = Unit {0}
Looked s (act-line w k) o = o ≡ number_of s w
Looked s (row-line z g w r u) o = o ≡ number_of s w
Looked s (plain-line e) o = Unit {0}

abbrev pub Later : Progress₂ → Line → Type 0
Later q form-line = Unit {0}
Later q (name-line n w) = (d : Entry) × (q.model.last ≡ some d)
Later q (act-line w k) = Unit {0}
Later q (row-line z g w r u) = Unit {0}
Later q (plain-line e) = Unit {0}

-- a line that has a number is judged as the old line
old-judged : (q : Progress₂) (e : Entry) (o : Option ℕ) (r : Progress₂) → Begun q.model → o ≡ fault_of q.model e → r ≡ with_old q (some e)
    → numbered (step_of (standing q.model) (line_of e)) ≡ judged_of o r.model
old-judged q e o r b f g = step_is q.model e b ∙ ap (λ x. judged_of x (next q.model e)) (sym f) ∙ ap (λ (x : Progress₂). judged_of o x.model) (sym g)

pub name-later : (q : Progress₂) (n : ℕ) (w : Name) (d : Entry) → q.model.last ≡ some d → fault_named q (name-line n w) ≡ some 3
unfolding fault_named
name-later q n w d e = rw (e, fault_named)

pub form-later : (q : Progress₂) → fault_named q form-line ≡ some 3
unfolding fault_named
form-later q = refl

module _ (q : Progress₂) (b : Begun q.model) where
  turned : (c : Bool) (x : Progress) → cond {A = Result CodeProgress ℕ} c (Err 3) (Err 44) ≡ judged_of (cond c (some 3) (some 44)) x
  turned true x = refl
  turned false x = refl

  faulty : (f : Option ℕ) (x y : Progress) → (f ≡ none → ⊥) → judged_of f x ≡ judged_of f y
  faulty none x y h = absurd (h refl)
  faulty (some f) x y h = refl

  pub judged-is : (l : Line) (o : Option ℕ) → Looked q.sheet l o → Later q l
      → step_named (standing q.model) (code_of l) o ≡ judged_of (fault_named q l) (taken q l).model
  judged-is form-line o h k = ap (λ x. judged_of x (taken q form-line).model) (sym (form-later q))
  judged-is (name-line n w) o h k = ap (λ x. judged_of x (taken q (name-line n w)).model) (sym (name-later q n w k.0 k.1))
  judged-is (act-line w k) none h z =
      ap (λ c. cond {A = Result CodeProgress ℕ} c (Err 3) (Err 44)) (turn-act q.model.last k)
      ∙ turned (out_of_turn q.model.last (act-entry 0 k)) (taken q (act-line w k)).model
      ∙ ap (λ x. judged_of x (taken q (act-line w k)).model) (sym (act-unknown q w k (sym h)))
  judged-is (act-line w k) (some a) h z =
      let v = resolved-fault q (act-line w k) (act-entry a k) (ap (map_some (λ a. act-entry a k)) (sym h)) in
      old-judged q (act-entry a k) (fault_named q (act-line w k)) (taken q (act-line w k)) b v.0 v.1
  judged-is (row-line s g w r u) none h z =
      let e = row-entry s g 0 r u in
      let m = without_acts q.model in
      ap (λ (p : CodeProgress). numbered (step_of p (line_of e))) (sym (standing-actless q.model)) ∙ step_is m e (begun-actless q.model b)
      ∙ faulty (fault_of m e) (next m e) (taken q (row-line s g w r u)).model (λ x. unknown-faulty q.model s g r u x)
      ∙ ap (λ x. judged_of x (taken q (row-line s g w r u)).model) (sym (row-unknown q s g w r u (sym h)))
  judged-is (row-line s g w r u) (some a) h z =
      let v = resolved-fault q (row-line s g w r u) (row-entry s g a r u) (ap (map_some (λ a. row-entry s g a r u)) (sym h)) in
      old-judged q (row-entry s g a r u) (fault_named q (row-line s g w r u)) (taken q (row-line s g w r u)) b v.0 v.1
  judged-is (plain-line e) o h z =
      let v = resolved-fault q (plain-line e) e refl in
      old-judged q e (fault_named q (plain-line e)) (taken q (plain-line e)) b v.0 v.1

-- ---- behind a line that was taken in there is a component, and it is the last line
on-last : (f : Comp → Comp) (m : List Comp) → length (on_last f m) ≡ length m
on-last f [] = refl
on-last f (c ∷ cs) = refl

in-turn : (m : List Comp) (l : Option Entry) (e : Entry) → (turn e ≡ 0 → ⊥) → fault_of (record { comps = m; last = l }) e ≡ none
    → Begun (record { comps = m; last = l }) → 1 ≤ length m
unfolding fault_of out_of_turn
in-turn m none e w h b = let f : fault_of (record { comps = m; last = none }) e ≡ some 3 = rw (ne_eqb (turn e) 0 w, fault_of, out_of_turn) in
    absurd (no-some h f)
in-turn m (some d) e w h b = b.some-comp d refl

grown : (m : List Comp) (l : Option Entry) (e : Entry) → fault_of (record { comps = m; last = l }) e ≡ none
    → Begun (record { comps = m; last = l }) → 1 ≤ length (take_in m e)
unfolding take_in
grown m l (comp-entry n s) h b = omega arith
grown m l (act-entry a k) h b = omega (arith, on-last (λ c. with_act c a k) m, in-turn m l (act-entry a k) (λ z. omega arith) h b)
grown m l (clk-entry x y) h b = omega (arith, on-last (λ c. with_clk c x y) m, in-turn m l (clk-entry x y) (λ z. omega arith) h b)
grown m l (row-entry s g a r t) h b = omega (arith, on-last (λ c. with_row c (row_of s g a r t)) m, in-turn m l (row-entry s g a r t) (λ z. omega arith) h b)

-- what a faultless line leaves
pub record Onward (q r : Progress₂) (d : ℕ) : Type 0 where
  pub sheet : r.sheet ≡ q.sheet
  pub begun : Begun r.model
  pub last : r.model.last ≡ none → ⊥
  pub declared : r.declared ≡ q.declared ∪ d

with-old : (q : Progress₂) (e : Entry) (d : ℕ) → Begun q.model → fault_of q.model e ≡ none → declared_by e ≡ d → Onward q (with_old q (some e)) d
with-old q e d b f h = record {
  sheet = refl;
  begun = record { some-comp = λ x y. grown q.model.comps q.model.last e f b };
  last = λ z. no-some z refl;
  declared = ap (λ s. q.declared ∪ s) h;
}

module _ (q : Progress₂) (b : Begun q.model) where
  no-turn : (c : Bool) → cond {A = Option ℕ} c (some 3) (some 44) ≡ none → ⊥
  no-turn true e = no-some e refl
  no-turn false e = no-some e refl

  moved : (l : Line) (e : Entry) (d : ℕ) → (fault_named q l ≡ fault_of q.model e) × (taken q l ≡ with_old q (some e))
      → fault_named q l ≡ none → declared_by e ≡ d → Onward q (taken q l) d
  moved l e d v f h = subst (λ x. Onward q x d) (sym v.1) (with-old q e d b (sym v.0 ∙ f) h)

  pub onward-is : (l : Line) (o : Option ℕ) → LineFits₂ l → Looked q.sheet l o → Later q l
      → fault_named q l ≡ none → Onward q (taken q l) (declared_named (code_of l) o)
  onward-is form-line o s h k f = absurd (no-some f (form-later q))
  onward-is (name-line n w) o s h k f = absurd (no-some f (name-later q n w k.0 k.1))
  onward-is (act-line w k) none s h z f = absurd (no-turn (out_of_turn q.model.last (act-entry 0 k)) (sym (act-unknown q w k (sym h)) ∙ f))
  onward-is (act-line w k) (some a) s h z f =
      moved (act-line w k) (act-entry a k) _ (resolved-fault q (act-line w k) (act-entry a k) (ap (map_some (λ a. act-entry a k)) (sym h))) f refl
  onward-is (row-line x g w r u) none s h z f = absurd (unknown-faulty q.model x g r u (sym (row-unknown q x g w r u (sym h)) ∙ f))
  onward-is (row-line x g w r u) (some a) s h z f =
      moved (row-line x g w r u) (row-entry x g a r u) _
      (resolved-fault q (row-line x g w r u) (row-entry x g a r u) (ap (map_some (λ a. row-entry x g a r u)) (sym h))) f refl
  onward-is (plain-line (comp-entry n x)) o s h z f =
      moved (plain-line (comp-entry n x)) (comp-entry n x) _ (resolved-fault q (plain-line (comp-entry n x)) (comp-entry n x) refl) f refl
  onward-is (plain-line (act-entry a k)) o s h z f = absurd s.1
  onward-is (plain-line (clk-entry x y)) o s h z f =
      moved (plain-line (clk-entry x y)) (clk-entry x y) _ (resolved-fault q (plain-line (clk-entry x y)) (clk-entry x y) refl) f refl
  onward-is (plain-line (row-entry x g a r u)) o s h z f = absurd s.1
