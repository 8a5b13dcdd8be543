-- The `act` lines of a component are read, one after the other.
use mathlib.Core.Path.{◌≡◌, refl, sym, ap}
use mathlib.Core.Logic.{inr, ⊎_elim}
use mathlib.Core.Bool.{false}
use mathlib.Core.List.{List, [], ◌∷◌, ◌++◌}
use Prim.Native.Nat.{ℕ, suc, ◌%◌, ◌^◌, ◌≤◌, ◌<◌}
use native.Mathlib.Omega.{arith}
use Rattle.laws.specs.Sets.{has, ◌∪◌, only, ◌∈◌}
use Rattle.laws.specs.Fold.{spread}
use Rattle.laws.proofs.SetLaws.{in-or}
use Rattle.laws.proofs.TestLaws.{not_so}
use Rattle.laws.proofs.GrowLaws.{below_in, below_out}
use Rattle.answer.specs.Limits.{max_actions}
use Rattle.model.specs.Model.{Comp, acts}
use Rattle.model.specs.Text.{Kind, in-kind, act_line, kind_of, act_part}
use Rattle.model.specs.WellFormed.{WellComp}
use Rattle.model.specs.Reading.{Entry, comp-entry, act-entry, clk-entry, row-entry, turn, with_act, take_in}
use Rattle.model.specs.Line.{line_of}
use Rattle.model.specs.Faulty.{After}
use Rattle.model.proofs.Reading.GrowActs.{no_kind}
use Rattle.model.proofs.Reading.Phases.{At, Series, series-read}

-- c with these actions, and no clock and no row yet
abbrev pub with_kinds : Comp → ℕ → ℕ → ℕ → ℕ → Comp
with_kinds c i o ui uo = record { states = c.states; start = c.start; ins = i; outs = o; uins = ui; uouts = uo; clocks = 0; started = 0; rows = [] }

-- c with its actions below a
abbrev pub acts_up_to : Comp → ℕ → Comp
acts_up_to c a = with_kinds c (c.ins % 2 ^ a) (c.outs % 2 ^ a) (c.uins % 2 ^ a) (c.uouts % 2 ^ a)

pub same-kinds : (c : Comp) {i j o q u v x y : ℕ} → i ≡ j → o ≡ q → u ≡ v → x ≡ y → with_kinds c i o u x ≡ with_kinds c j q v y
same-kinds c a b d e = λ k. with_kinds c (a k) (b k) (d k) (e k)

acts-none : (c : Comp) (a : ℕ) → has (acts c) a ≡ false → acts_up_to c a ≡ acts_up_to c (suc a)
acts-none c a h =
    let n = no_kind c a h in
    same-kinds c (sym (below_out c.ins a n.ins)) (sym (below_out c.outs a n.outs)) (sym (below_out c.uins a n.uins))
    (sym (below_out c.uouts a n.uouts))

acts-one : (c : Comp) (a : ℕ) → WellComp c → a ∈ acts c → with_act (acts_up_to c a) a (kind_of c a) ≡ acts_up_to c (suc a)
unfolding kind_of
acts-one c a w h = ⊎_elim
    (λ h. ⊎_elim is-in is-uin (in-or c.ins c.uins a h))
    (λ h. ⊎_elim is-out is-uout (in-or c.outs c.uouts a h))
    (in-or (c.ins ∪ c.uins) (c.outs ∪ c.uouts) a h)
  where
    no : (s : ℕ) → (a ∈ s → ⊥) → has s a ≡ false
    no s f = not_so (has s a) f

    keep : (s : ℕ) → (a ∈ s → ⊥) → s % 2 ^ a ≡ s % 2 ^ suc a
    keep s f = sym (below_out s a (no s f))

    grow : (s : ℕ) → a ∈ s → (s % 2 ^ a) ∪ only a ≡ s % 2 ^ suc a
    grow s m = sym (below_in s a m)

    is-in : a ∈ c.ins → with_act (acts_up_to c a) a (kind_of c a) ≡ acts_up_to c (suc a)
    is-in m = rw m (same-kinds c (grow c.ins m) (keep c.outs (w.ins-outs a m)) (keep c.uins (w.ins-uins a m)) (keep c.uouts (w.ins-uouts a m)))

    is-out : a ∈ c.outs → with_act (acts_up_to c a) a (kind_of c a) ≡ acts_up_to c (suc a)
    is-out m =
        rw (no c.ins (λ i. w.ins-outs a i m), m)
        (same-kinds c (keep c.ins (λ i. w.ins-outs a i m)) (grow c.outs m) (keep c.uins (w.outs-uins a m)) (keep c.uouts (w.outs-uouts a m)))

    is-uin : a ∈ c.uins → with_act (acts_up_to c a) a (kind_of c a) ≡ acts_up_to c (suc a)
    is-uin m =
        rw (no c.ins (λ i. w.ins-uins a i m), no c.outs (λ o. w.outs-uins a o m), m)
        (same-kinds c (keep c.ins (λ i. w.ins-uins a i m)) (keep c.outs (λ o. w.outs-uins a o m)) (grow c.uins m)
        (keep c.uouts (w.uins-uouts a m)))

    is-uout : a ∈ c.uouts → with_act (acts_up_to c a) a (kind_of c a) ≡ acts_up_to c (suc a)
    is-uout m =
        rw (no c.ins (λ i. w.ins-uouts a i m), no c.outs (λ o. w.outs-uouts a o m), no c.uins (λ u. w.uins-uouts a u m))
        (same-kinds c (keep c.ins (λ i. w.ins-uouts a i m)) (keep c.outs (λ o. w.outs-uouts a o m))
        (keep c.uins (λ u. w.uins-uouts a u m)) (grow c.uouts m))

-- the last line is a `comp` line, or that of an action below a
abbrev pub ActLast : ℕ → Entry → Type 0
ActLast a (comp-entry n s) = Unit {0}
ActLast a (act-entry b k) = b < a
ActLast a (clk-entry x b) = ⊥
ActLast a (row-entry s g b r t) = ⊥

act-follows : (a : ℕ) (k : Kind) (d : Entry) → ActLast a d → (turn d ≤ 1) × After d (act-entry a k) × ActLast (suc a) d
act-follows a k (comp-entry n s) h = (omega arith, tt, tt)
act-follows a k (act-entry b j) h = (omega arith, h, omega arith)
act-follows a k (clk-entry x b) h = absurd h
act-follows a k (row-entry s g b r t) h = absurd h

act-series : (c : Comp) (m : List Comp) → WellComp c → Series m max_actions
unfolding act_part act_line line_of take_in
act-series c m w =
    record {
      member = has (acts c);
      line = λ a. act-entry a (kind_of c a);
      part = act_part c;
      up_to = acts_up_to c;
      Last = ActLast;
      later = λ a d h. (act-follows a in-kind d h).2;
      none-part = λ a e. rw e;
      none_more = acts-none c;
      one-part = λ a e. rw e;
      one_more = λ a e. ap {B = List Comp} (λ d. d ∷ m) (acts-one c a w e);
      one_last = λ a. omega arith;
      fits = λ a h. omega arith;
      faultless =
          λ a d h l. let f = act-follows a (kind_of c a) d l in record {
            in-turn = inr f.0;
            in-range = h;
            named = tt;
            in_order = (
              f.1,
              tt,
            );
            room = tt;
          };
    }

pub acts-read : {t : List ℕ} (c : Comp) (m : List Comp) (d : Entry) (bs : List ℕ) → WellComp c → ActLast 0 d
    → At t (acts_up_to c 0) m d (spread (act_part c) 0 max_actions ++ bs)
    → (e : Entry) × ActLast max_actions e × At t (acts_up_to c max_actions) m e bs
unfolding act-series
acts-read c m d bs w h r = series-read (act-series c m w) max_actions 0 d bs refl h r
