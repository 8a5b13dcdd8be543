-- Accepted exactly: no refusal of 10 to 17 exactly if each component meets (a) to (f) and the system is compatible; and each half by itself.
use mathlib.Core.Path.{◌≡◌, sym, ◌∙◌}
use mathlib.Core.Logic.{◌↔◌}
use mathlib.Core.Option.{none}
use mathlib.Core.List.{[], ◌∷◌}
use Prim.Native.Nat.{ℕ, ◌+◌, ◌<◌}
use native.Mathlib.Omega.{arith}
use lib.ListN.{length, take}
use Rattle.laws.specs.Search.{seek, map_some}
use Rattle.laws.proofs.SearchLaws.{seek-none, none-seek, when-none, or_else_none, map-none}
use Rattle.answer.specs.Told.{tell}
use Rattle.model.specs.Model.{Comp, Model, comp_at, row_count}
use Rattle.model.specs.WellFormed.{WellComp, WellFormed}
use Rattle.iosa.specs.Automaton.{auto_of, Conditions, Conforming, Joinable}
use Rattle.iosa.specs.Checks.{check10, check11, check12, check13, check14, check15, check16, check17, fault_at, component_of, compatible_of, accept_of}
use Rattle.iosa.proofs.Acceptance.Check10.{check10-exactly}
use Rattle.iosa.proofs.Acceptance.Check11.{check11-exactly}
use Rattle.iosa.proofs.Acceptance.Check12.{check12-exactly}
use Rattle.iosa.proofs.Acceptance.Check13.{check13-exactly}
use Rattle.iosa.proofs.Acceptance.Check14.{check14-exactly}
use Rattle.iosa.proofs.Acceptance.Pairs.{pairs-compatible, compatible-15, compatible-16, compatible-17}
use Rattle.iosa.proofs.Acceptance.InHalves.{there-own, faultless-there, accept-in-turn}

-- ---- 10 to 14 of a component
pub faultless-conforms : (c : Comp) → WellComp c → (i n : ℕ) → fault_at i n c ≡ none → Conditions (auto_of c)
unfolding fault_at
faultless-conforms c w i n e =
    let p = or_else_none (map_some (λ k. tell 10 ((n + k) ∷ [])) (check10 c)) _ e in
    let q = or_else_none (map_some (λ k. tell 11 ((n + k) ∷ [])) (check11 c)) _ p.1 in
    let r = or_else_none (map_some (λ x. tell 12 (i ∷ x)) (check12 c)) _ q.1 in
    let s = or_else_none (map_some (λ x. tell 13 (i ∷ x)) (check13 c)) _ r.1 in
    let ab = (check10-exactly c w).0 (map-none (λ k. tell 10 ((n + k) ∷ [])) (check10 c) p.0) in
    record {
      cond_a = ab.0;
      cond_b = ab.1;
      cond_c = (check11-exactly c w).0 (map-none (λ k. tell 11 ((n + k) ∷ [])) (check11 c) q.0);
      cond_d = (check12-exactly c w ab.0).0 (map-none (λ x. tell 12 (i ∷ x)) (check12 c) r.0);
      cond_e = (check13-exactly c w).0 (map-none (λ x. tell 13 (i ∷ x)) (check13 c) s.0);
      cond_f = (check14-exactly c w).0 (when-none (check14 c) (tell 14 (i ∷ [])) s.1);
    }

pub conforms-faultless : (c : Comp) → WellComp c → (i n : ℕ) → Conditions (auto_of c) → fault_at i n c ≡ none
unfolding fault_at
conforms-faultless c w i n k = simp (
  (check10-exactly c w).1 (k.cond_a, k.cond_b),
  (check11-exactly c w).1 k.cond_c,
  (check12-exactly c w k.cond_a).1 k.cond_d,
  (check13-exactly c w).1 k.cond_e,
  (check14-exactly c w).1 k.cond_f,
)

-- ---- one component by itself: it is there and meets the conditions
pub conditions-exactly : (m : Model) → WellFormed m → (i : ℕ) → (component_of m i ≡ none) ↔ (i < length m) × Conditions (auto_of (comp_at m i))
conditions-exactly m w i = (
  λ e.
      let h = faultless-there m i e in
      (h, faultless-conforms (comp_at m i) (w.each i h) i (row_count (take i m)) (sym (there-own m i h) ∙ e)),
  λ p. there-own m i p.0 ∙ conforms-faultless (comp_at m i) (w.each i p.0) i (row_count (take i m)) p.1,
)

-- ---- 15 to 17 by themselves
pub joinable-exactly : (m : Model) → WellFormed m → (compatible_of m ≡ none) ↔ Joinable m
joinable-exactly m w = (
  λ e.
      let p = or_else_none (map_some (tell 15) (check15 m)) _ e in
      let q = or_else_none (map_some (tell 16) (check16 m)) _ p.1 in
      pairs-compatible m w (map-none (tell 15) (check15 m) p.0) (map-none (tell 16) (check16 m) q.0) (map-none (tell 17) (check17 m) q.1),
  λ j. simp (compatible-15 m w j, compatible-16 m w j, compatible-17 m w j),
)

-- ---- both
pub accepted-exactly : (m : Model) → WellFormed m → (accept_of m ≡ none) ↔ Conforming m × Joinable m
accepted-exactly m w = (
  λ e.
      let p = or_else_none (seek (component_of m) 0 (length m)) (compatible_of m) (sym (accept-in-turn m) ∙ e) in (
        record { each = λ i h. ((conditions-exactly m w i).0 (seek-none (component_of m) 0 (length m) p.0 i (omega arith) h)).1 },
        (joinable-exactly m w).0 p.1,
      ),
  λ p.
      let each = none-seek (component_of m) 0 (length m) (λ i _ h. (conditions-exactly m w i).1 (h, p.0.each i h)) in
      accept-in-turn m ∙ rw each ((joinable-exactly m w).1 p.1),
)
