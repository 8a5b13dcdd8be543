-- One instant at one element: a PAND hears that a clock ended, then failures alone or repairs alone; a basic element fails, is repaired, or stays.
use mathlib.Core.Path.{◌≡◌, refl, sym, ◌∙◌, ap}
use mathlib.Core.Logic.{◌≢◌, ◌⊎◌, inl, inr}
use mathlib.Core.Option.{Option, none, some, some_inj}
use mathlib.Core.Bool.{Bool, true, false, ◌&&◌, ◌||◌, not, cond}
use mathlib.Core.List.{List, [], ◌∷◌}
use Prim.Native.Nat.{ℕ, ◌/◌, ◌%◌, ◌<◌}
use native.Mathlib.Omega.{arith}
use lib.Dec.{eqb}
use Rattle.laws.specs.Fold.{all, all_from}
use Rattle.laws.specs.Search.{is_some}
use Rattle.laws.proofs.FoldLaws.{all_true}
use Rattle.laws.proofs.SearchLaws.{no-some}
use Rattle.laws.proofs.TestLaws.{and-true}
use Rattle.trees.specs.Module.{Move}
use Rattle.trees.specs.Tree.{be-sort, pand-sort, Element, among, Signal, fl, up, f, u, r, Meaning}
use Rattle.trees.specs.Modules.{be_kind, be_role, GateRole, own-f, own-u, tick, gate_kind, ticked, gate_role, pand_role}
use Rattle.trees.proofs.Gates.{every_role, at-role}
use Rattle.trees.proofs.Basic.{when-some}
use Rattle.trees.proofs.Owners.{is_urgent, urgent_signal, pand-part}
use Rattle.treetheory.specs.AsDrawn.{down_in, mending_in}
use Rattle.treetheory.proofs.Colours.{code_of, told_as, same, alike}
use Rattle.treetheory.proofs.Roles.{Moved, by-role, by-none}
use Rattle.treetheory.proofs.TameGates.{fails, pand-from}
use Rattle.treetheory.proofs.TameBasic.{be-from}
use Rattle.treetheory.proofs.Telling.{fine_in}
use Rattle.treetheory.proofs.TellingGates.{pand_go}
use Rattle.treetheory.proofs.TellingBasic.{be_go, own-signal, every_signal, at-signal}

-- what is told in an instant that begins with fl or with up
pub data During (b : Bool) (s : Signal) : Type 0 where
  tells : s ≡ told_as b → During b s
  orders : s ≡ r → During b s

pub during-urgent : (b : Bool) {s : Signal} → During b s → urgent_signal s ≡ true
during-urgent true (tells h) = ap urgent_signal h
during-urgent false (tells h) = ap urgent_signal h
during-urgent b (orders h) = ap urgent_signal h

-- ---- PAND: the states of an instant that begins at rest in x
abbrev after_failure : ℕ → List ℕ
after_failure x =
    cond (eqb x 0) (0 ∷ 5 ∷ 10 ∷ 16 ∷ 17 ∷ []) (cond (eqb x 10) (10 ∷ 16 ∷ 17 ∷ []) (cond (eqb x 7) (7 ∷ 17 ∷ []) (cond (eqb x 17) (17 ∷ []) (9 ∷ 19 ∷ []))))

abbrev after_repair : ℕ → List ℕ
after_repair x =
    cond (eqb x 0) (0 ∷ []) (cond (eqb x 10) (0 ∷ 10 ∷ []) (cond (eqb x 7) (0 ∷ 3 ∷ 7 ∷ [])
    (cond (eqb x 17) (0 ∷ 3 ∷ 7 ∷ 10 ∷ 13 ∷ 17 ∷ []) (cond (eqb x 19) (0 ∷ 9 ∷ 10 ∷ 19 ∷ []) (0 ∷ 9 ∷ [])))))

abbrev pub in_instant : Bool → ℕ → ℕ → Bool
in_instant b x z = among z (cond b (after_failure x) (after_repair x))

-- at rest: a state that a tree gets to, with nothing to tell
abbrev still : ℕ → Bool
still x = fine_in pand-sort x && (not (is_some (pand_go x own-f)) && not (is_some (pand_go x own-u)))

abbrev onto : (ℕ → Bool) → Option Move → Bool
onto h none = true
onto h (some v) = h v.target

abbrev pub first_flag : ℕ → Bool
first_flag x = eqb (x / 10) 1

abbrev pub second_flag : ℕ → Bool
second_flag x = eqb (x / 5 % 2) 1

unfoldable beginning : Bool → ℕ → Bool
beginning b x = cond (still x) (onto (in_instant b x) (pand_go x tick)) true

unfoldable going : Bool → ℕ → ℕ → GateRole → Bool
going b x z p = cond (in_instant b x z && (is_urgent (gate_kind p) && same (fails p) b)) (onto (in_instant b x) (pand_go z p)) true

-- down after it: while the second is, if it was down before, or the second went down where the first is down
abbrev pub down_after : ℕ → ℕ → Bool
down_after x z = second_flag z && (down_in pand-sort x || (not (second_flag x) && first_flag z))

unfoldable ending : Bool → ℕ → ℕ → Bool
ending b x z = cond (still x && (in_instant b x z && still z)) (same (down_in pand-sort z) (down_after x z)) true

unfoldable instants : Bool → Bool
instants b = all (λ x. beginning b x && all (λ z. ending b x z && every_role (going b x z)) 0 20) 0 20

failure-instants : instants true ≡ true
unfolding instants beginning going ending every_role all all_from among
failure-instants = refl

repair-instants : instants false ≡ true
unfolding instants beginning going ending every_role all all_from among
repair-instants = refl

each-instant : (b : Bool) → instants b ≡ true
each-instant true = failure-instants
each-instant false = repair-instants

module _ (b : Bool) (x : ℕ) (hx : x < 20) where
  at_x : (beginning b x && all (λ z. ending b x z && every_role (going b x z)) 0 20) ≡ true
  unfolding instants
  at_x = all_true (λ x. beginning b x && all (λ z. ending b x z && every_role (going b x z)) 0 20) 0 20 (each-instant b) x (omega arith) hx

  at-z : (z : ℕ) → z < 20 → (ending b x z ≡ true) × (every_role (going b x z) ≡ true)
  at-z z hz =
      let k = (and-true (beginning b x) (all (λ z. ending b x z && every_role (going b x z)) 0 20) at_x).1 in
      and-true (ending b x z) (every_role (going b x z)) (all_true (λ z. ending b x z && every_role (going b x z)) 0 20 k z (omega arith) hz)

  -- a clock ends somewhere in the tree
  begin-at : (v : Move) → fine_in pand-sort x ≡ true → pand_go x own-f ≡ none → pand_go x own-u ≡ none → pand_go x tick ≡ some v → in_instant b x v.target ≡ true
  unfolding beginning
  begin-at v fi nf nu i =
      let k = (and-true (beginning b x) (all (λ z. ending b x z && every_role (going b x z)) 0 20) at_x).0 in
      ap (λ (m : Move). in_instant b x m.target) (sym (some_inj.0 i)) ∙ (rw (fi, nf, nu) at k)

  go-at : (z : ℕ) (p : GateRole) (v : Move) → z < 20 → in_instant b x z ≡ true → is_urgent (gate_kind p) ≡ true → same (fails p) b ≡ true → pand_go z p ≡ some v
      → in_instant b x v.target ≡ true
  unfolding going
  go-at z p v hz w a s i = let k = at-role (going b x z) (at-z z hz).1 p in rw (w, a, s, i) at k

  pub end-at : (z : ℕ) → z < 20 → in_instant b x z ≡ true → fine_in pand-sort x ≡ true → pand_go x own-f ≡ none → pand_go x own-u ≡ none
      → fine_in pand-sort z ≡ true → pand_go z own-f ≡ none → pand_go z own-u ≡ none → down_in pand-sort z ≡ down_after x z
  unfolding ending
  end-at z hz w fx i j fz k l = let q = (at-z z hz).0 in alike (down_in pand-sort z) (down_after x z) (rw (fx, i, j, w, fz, k, l) at q)

clock-tick : (e : Element) (y : Meaning) → (y.signal ≡ fl) ⊎ (y.signal ≡ up) → pand_role e y ≡ some tick
unfolding pand_role
clock-tick e y (inl h) = ap (λ o. elim o as (λ _. Option GateRole) [ some q ↦ some q | none ↦ gate_role e y ]) (ap ticked h)
clock-tick e y (inr h) = ap (λ o. elim o as (λ _. Option GateRole) [ some q ↦ some q | none ↦ gate_role e y ]) (ap ticked h)

same_refl : (b c : Bool) → b ≡ c → same b c ≡ true
same_refl true c h = sym h
same_refl false c h = ap not (sym h)

told-one : (b c : Bool) → told_as b ≡ told_as c → b ≡ c
told-one true true h = refl
told-one true false h = absurd (omega (arith, ap code_of h))
told-one false true h = absurd (omega (arith, ap code_of h))
told-one false false h = refl

never-order : (b : Bool) → r ≡ told_as b → ⊥
never-order true h = omega (arith, ap code_of h)
never-order false h = omega (arith, ap code_of h)

module _ (e : Element) (b : Bool) (x : ℕ) (hx : x < 20) where
  pub pand-begins : (y : Meaning) (z : ℕ) → (y.signal ≡ fl) ⊎ (y.signal ≡ up) → fine_in pand-sort x ≡ true → pand_go x own-f ≡ none → pand_go x own-u ≡ none
      → Moved (pand_role e) gate_kind 20 pand_go y x z → in_instant b x z ≡ true
  pand-begins y z s fi nf nu (by-role {p} {v} i h d w) =
      let k : p ≡ tick = some_inj.0 (sym i ∙ clock-tick e y s) in
      ap (in_instant b x) (sym w) ∙ begin-at b x hx v fi nf nu (ap (pand_go x) (sym k) ∙ d)
  pand-begins y z s fi nf nu (by-none i w) = absurd (no-some i (clock-tick e y s))

  pub pand-goes : (y : Meaning) (k z : ℕ) → During b y.signal → in_instant b x k ≡ true → Moved (pand_role e) gate_kind 20 pand_go y k z → in_instant b x z ≡ true
  pand-goes y k z wi ok (by-role {p} {v} i h d w) =
      let a = (pand-part e y p i).urgency ∙ during-urgent b wi in
      let q = (pand-from e y p i a).signal in
      ap (in_instant b x) (sym w) ∙ go-at b x hx k p v h ok a (same_refl (fails p) b (agrees wi (fails p) q)) d
    where
      agrees : {s : Signal} → During b s → (c : Bool) → s ≡ told_as c → c ≡ b
      agrees (tells j) c q = told-one c b (sym q ∙ j)
      agrees (orders j) c q = absurd (never-order c (sym j ∙ q))
  pand-goes y k z wi ok (by-none i w) = ap (in_instant b x) (sym w) ∙ ok

-- ---- a basic element
unfoldable stays-down : (k s : ℕ) → Signal → Bool
stays-down k s p = cond (is_urgent (be_kind p)) (onto (λ v. same (down_in be-sort v) (down_in be-sort s)) (be_go k s p)) true

staying : (k : ℕ) → all (λ s. every_signal (stays-down k s)) 0 9 ≡ true
unfolding stays-down every_signal all all_from
staying k = refl

module _ (e : Element) (k : ℕ) where
  pub be-goes : (y : Meaning) (x z : ℕ) → urgent_signal y.signal ≡ true → Moved (be_role e) be_kind 9 (be_go k) y x z → down_in be-sort z ≡ down_in be-sort x
  unfolding stays-down
  be-goes y x z a (by-role {p} {v} i h d w) =
      let o = at-signal (stays-down k x) (all_true (λ s. every_signal (stays-down k s)) 0 9 (staying k) x (omega arith) h) p in
      let c : is_urgent (be_kind p) ≡ true = urgent-kind p ∙ ap urgent_signal (sym (be-from e y p i).1) ∙ a in
      ap (down_in be-sort) (sym w) ∙ alike (down_in be-sort v.target) (down_in be-sort x) (rw (c, d) at o)
    where
      urgent-kind : (p : Signal) → is_urgent (be_kind p) ≡ urgent_signal p
      urgent-kind fl = refl
      urgent-kind up = refl
      urgent-kind f = refl
      urgent-kind u = refl
      urgent-kind r = refl
  be-goes y x z a (by-none i w) = ap (down_in be-sort) (sym w)

  pub be-fails : (y : Meaning) (x z : ℕ) → y.of ≡ e.number → y.signal ≡ fl → Moved (be_role e) be_kind 9 (be_go k) y x z → down_in be-sort z ≡ true
  be-fails y x z n s (by-role {p} {v} i h d w) =
      let q : p ≡ fl = some_inj.0 (sym i ∙ own-signal e y fl n s) in
      let c = when-some (eqb (x % 3) 0) _ (ap (be_go k x) (sym q) ∙ d) in
      ap (down_in be-sort) (sym w) ∙ ap (λ (m : Move). down_in be-sort m.target) (sym c.1)
  be-fails y x z n s (by-none i w) = absurd (no-some i (own-signal e y fl n s))

  pub be-mends : (y : Meaning) (x z : ℕ) → y.of ≡ e.number → y.signal ≡ up → Moved (be_role e) be_kind 9 (be_go k) y x z → down_in be-sort z ≡ false
  be-mends y x z n s (by-role {p} {v} i h d w) =
      let q : p ≡ up = some_inj.0 (sym i ∙ own-signal e y up n s) in
      let c = when-some (eqb (x % 3) 2) _ (ap (be_go k x) (sym q) ∙ d) in
      ap (down_in be-sort) (sym w) ∙ ap (λ (m : Move). down_in be-sort m.target) (sym c.1)
  be-mends y x z n s (by-none i w) = absurd (no-some i (own-signal e y up n s))

  pub be-repaired : (y : Meaning) (x z : ℕ) → y.of ≡ e.number → y.signal ≡ up → Moved (be_role e) be_kind 9 (be_go k) y x z → mending_in be-sort x ≡ true
  be-repaired y x z n s (by-role {p} {v} i h d w) =
      let q : p ≡ up = some_inj.0 (sym i ∙ own-signal e y up n s) in
      (when-some (eqb (x % 3) 2) _ (ap (be_go k x) (sym q) ∙ d)).0
  be-repaired y x z n s (by-none i w) = absurd (no-some i (own-signal e y up n s))

  pub be-keeps : (y : Meaning) (x z : ℕ) → y.of ≢ e.number → Moved (be_role e) be_kind 9 (be_go k) y x z → down_in be-sort z ≡ down_in be-sort x
  be-keeps y x z ne (by-role {p} {v} i h d w) = absurd (ne (be-from e y p i).0)
  be-keeps y x z ne (by-none i w) = ap (down_in be-sort) (sym w)
