-- The values that the code allows a line are those that 4, and then 5, ask for.
use mathlib.Core.Path.{◌≡◌, refl, sym, ◌∙◌, ap, subst}
use mathlib.Core.Option.{Option, none, some}
use mathlib.Core.Bool.{Bool, true, false, not, cond, true≢false}
use mathlib.Core.List.{List, [], ◌∷◌}
use Prim.Native.Nat.{ℕ, suc, ◌+◌, ◌-◌, ◌^◌, ◌≤◌, ◌<◌}
use native.Mathlib.Omega.{arith}
use lib.ListN.{length}
use borrow.Author.Tests.{lt-ltb}
use Rattle.laws.proofs.ListLaws.{All}
use Rattle.sets.specs.Members.{word_bits}
use Rattle.answer.specs.Limits.{max_clocks}
use Rattle.model.specs.Model.{Comp, acts}
use Rattle.model.specs.Reading.{got, Entry, comp-entry, act-entry, clk-entry, row-entry, entry, Progress, current, out_of_range, fault_of}
use Rattle.model.specs.Reading.{Value, states-value, state-value, action-value, clock-value, set_value, dash-value, value_text, guard_value}
use Rattle.model.specs.Reading.{reset_values, last_values, values_of, first_bad, first_column, outside, unnamed, states_by}
use Rattle.model.specs.Faulty.{Each, GuardIs, InRange, Named, LineFault, wrong-shape, out-of-turn, is_out_of_range, not_named, is_out_of_order, is_too_many}
use Rattle.model.proofs.Reading.Lines.{line-exactly}
use Rattle.model.proofs.Reading.Scans.{is-inj}
use Rattle.model.proofs.Reading.Tests.{range-decided}
use Rattle.model.proofs.Reading.LowestFault.{fault-some, fault-number}
use Rattle.columns.specs.declared.Allowed.{Allowed}
use Rattle.columns.specs.Columns.{beyond}
use Rattle.columns.proofs.MemberLaws.{member-all}

-- ---- a fault of a line of good shape is 3 or above
module _ (q : Progress) (bs : List ℕ) (e : Entry) (cs : List ℕ) (read : entry bs ≡ got e cs) where
  pub three-on : (f : ℕ) → fault_of q e ≡ some f → (3 ≤ f) × (f ≤ 7)
  three-on f h = let l = fault-some q bs e cs read f h in (go l.here, (fault-number l.here).1)
    where
      go : LineFault q bs f → 3 ≤ f
      go (wrong-shape z w) = absurd (w e cs ((line-exactly bs e cs).0 read))
      go (out-of-turn z a w) = omega arith
      go (is_out_of_range z a w) = omega arith
      go (not_named z a w) = omega arith
      go (is_out_of_order z a w) = omega arith
      go (is_too_many z a w) = omega arith

  -- where the fault is 5, the line is in range, and lacks something
  in-range : fault_of q e ≡ some 5 → InRange (current q) e
  in-range h = go (out_of_range (current q) e) refl
    where
      go : (b : Bool) → out_of_range (current q) e ≡ b → InRange (current q) e
      go false w = (range-decided (current q) e).0 w
      go true w =
          absurd ((fault-some q bs e cs read 5 h).before 4 (omega arith)
          (is_out_of_range refl ((line-exactly bs e cs).0 read) (λ r. true≢false (sym w ∙ (range-decided (current q) e).1 r))))

  lacks-one : fault_of q e ≡ some 5 → ¬ Named (current q) e
  lacks-one h = go (fault-some q bs e cs read 5 h).here
    where
      go : LineFault q bs 5 → ¬ Named (current q) e
      go (wrong-shape z w) = absurd (omega arith)
      go (out-of-turn z a w) = absurd (omega arith)
      go (is_out_of_range z a w) = absurd (omega arith)
      go (not_named {e = d} {cs = ds} z a w) =
          λ r. w (subst (Named (current q)) (ap (λ g. g.value) (is-inj (sym read ∙ (line-exactly bs d ds).1 a))) r)
      go (is_out_of_order z a w) = absurd (omega arith)
      go (is_too_many z a w) = absurd (omega arith)

-- ---- tests that agree on every value find the same
same_first : (P : Value → Type 0) (a b : Value → Bool) → ((v : Value) → P v → a v ≡ b v) → (k : ℕ) (vs : List Value) → All P vs
    → first_bad a k vs ≡ first_bad b k vs
unfolding first_bad
same_first P a b h k [] p = refl
same_first P a b h k (v ∷ []) p = refl
same_first P a b h k (v ∷ w ∷ vs) p = rw (h v p.0) (ap (cond (b v) k) (same_first P a b h (k + suc (length (value_text v))) (w ∷ vs) p.1))

-- 4
any_value : (vs : List Value) → All (λ _. Unit {0}) vs
any_value [] = tt
any_value (v ∷ vs) = (tt, any_value vs)

abbrev every : Comp → Allowed
every c = record { states = c.states; acts = 2 ^ word_bits - 1; clocks = 2 ^ word_bits - 1 }

range-value : (c : Comp) (v : Value) → Unit {0} → beyond (every c) v ≡ outside c.states v
range-value c (states-value n) u = refl
range-value c (state-value s) u = refl
range-value c (action-value a) u = ap not (member-all a)
range-value c (clock-value x) u = ap not (member-all x)
range-value c (set_value b) u = refl
range-value c dash-value u = refl

pub range-as : (c : Comp) (e : Entry) → first_column (beyond (every c)) e ≡ first_column (outside (states_by c e)) e
unfolding first_bad
range-as c (comp-entry n s) = refl
range-as c (act-entry a k) =
    same_first (λ _. Unit {0}) (beyond (every c)) (outside c.states) (range-value c) 5 (values_of (act-entry a k)) (any_value (values_of (act-entry a k)))
range-as c (clk-entry x b) =
    same_first (λ _. Unit {0}) (beyond (every c)) (outside c.states) (range-value c) 5 (values_of (clk-entry x b)) (any_value (values_of (clk-entry x b)))
range-as c (row-entry s g a r t) =
    same_first (λ _. Unit {0}) (beyond (every c)) (outside c.states) (range-value c) 5 (values_of (row-entry s g a r t)) (any_value (values_of
    (row-entry s g a r t)))

-- 5
abbrev own : Comp → Allowed
own c = record { states = c.states; acts = acts c; clocks = c.clocks }

abbrev OfRow : Comp → Value → Type 0
OfRow c (states-value n) = ⊥
OfRow c (state-value s) = s < c.states
OfRow c (action-value a) = a < word_bits
OfRow c (clock-value x) = x < word_bits
OfRow c (set_value b) = ⊥
OfRow c dash-value = Unit {0}

name-value : (c : Comp) (v : Value) → OfRow c v → beyond (own c) v ≡ unnamed c v
name-value c (states-value n) h = absurd h
name-value c (state-value s) h = rw (lt-ltb s c.states h)
name-value c (action-value a) h = rw (lt-ltb a word_bits h)
name-value c (clock-value x) h = rw (lt-ltb x word_bits h)
name-value c (set_value b) h = absurd h
name-value c dash-value h = refl

resets-of-row : (c : Comp) (r : List ℕ) (t : ℕ) → Each (λ x. x < max_clocks) r → t < c.states → All (OfRow c) (reset_values r (state-value t))
unfolding reset_values
resets-of-row c [] t h l = (l, tt)
resets-of-row c (x ∷ xs) t h l = (h.0, resets-of-row c xs t h.1 l)

last-of-row : (c : Comp) (r : List ℕ) (t : ℕ) → Each (λ x. x < max_clocks) r → t < c.states → All (OfRow c) (last_values r (state-value t))
last-of-row c [] t h l = (tt, (l, tt))
last-of-row c (x ∷ xs) t h l = resets-of-row c (x ∷ xs) t h l

guard-of-row : (c : Comp) (g : Option ℕ) → GuardIs (λ x. x < max_clocks) g → OfRow c (guard_value g)
guard-of-row c none h = tt
guard-of-row c (some x) h = h

named-as : (c : Comp) (e : Entry) → InRange c e → ¬ Named c e → first_column (beyond (own c)) e ≡ first_column (unnamed c) e
named-as c (comp-entry n s) r w = absurd (w tt)
named-as c (act-entry a k) r w = absurd (w tt)
named-as c (clk-entry x b) r w = absurd (w tt)
named-as c (row-entry s g a r t) h w =
    same_first (OfRow c) (beyond (own c)) (unnamed c) (name-value c) 5 (values_of (row-entry s g a r t))
    (h.0, (guard-of-row c g h.1, (h.2, last-of-row c r t h.3 h.4)))

pub names-as : (q : Progress) (bs : List ℕ) (e : Entry) (cs : List ℕ) → entry bs ≡ got e cs → fault_of q e ≡ some 5
    → first_column (beyond (own (current q))) e ≡ first_column (unnamed (current q)) e
names-as q bs e cs read h = named-as (current q) e (in-range q bs e cs read h) (lacks-one q bs e cs read h)
