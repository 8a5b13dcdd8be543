-- A step of the system, at one element: the states are kept, what it has told changes by its own f and u, and a gate counts what it hears.
use mathlib.Core.Path.{◌≡◌, refl, sym, ◌∙◌, ap, subst}
use mathlib.Core.Logic.{◌≢◌, ⊎_elim}
use mathlib.Core.Option.{Option, none, some}
use mathlib.Core.Bool.{Bool, true, false}
use mathlib.Core.List.Memᴰ.{head as here}
use mathlib.Core.List.Memᴰ.{not-nil as in-none}
use mathlib.Core.List.Memᴰ.{tail as there}
use mathlib.Core.List.{Memᴰ as In}
use Prim.Native.Nat.{ℕ, suc, ◌/◌, ◌%◌, ◌^◌, ◌<◌}
use native.Mathlib.Omega.{arith}
use lib.ListN.{length}
use Rattle.laws.specs.Search.{map_some}
use Rattle.laws.proofs.ListLaws.{pairwise-two}
use Rattle.answer.specs.Limits.{max_actions}
use Rattle.model.specs.Text.{Kind}
use Rattle.iosa.specs.Automaton.{auto_of, Stable}
use Rattle.iosa.specs.Parts.{Go}
use Rattle.trees.specs.Module.{Move, Module, is_uout, comp_by, Sound}
use Rattle.trees.specs.Tree.{Sort, be-sort, and-sort, or-sort, pand-sort, rbox-sort, Element, Tree, boxed, Signal, fl, f, u, Meaning, signals_of, meaning_of}
use Rattle.trees.specs.Modules.{of_meaning, bound, be_kind, be_role, own-f, own-u, gate_kind, gate_role, pand_role, box-r, box_kind, box_role, clockless}
use Rattle.trees.specs.Modules.{be_module, count_module, pand_module, box_module, module_for}
use Rattle.trees.proofs.Numbers.{has-number}
use Rattle.trees.proofs.Owners.{Has, has_part}
use Rattle.trees.proofs.Accepted.{Good}
use Rattle.treetheory.specs.AsDrawn.{down_in, first_of, second_of}
use Rattle.treetheory.proofs.Colours.{Peaceful, Clear}
use Rattle.treetheory.proofs.Owned.{named}
use Rattle.treetheory.proofs.Roles.{Moved, go-moved, clear_none}
use Rattle.treetheory.proofs.Telling.{fine_in, told_in, ToldStep, stays, not-fl}
use Rattle.treetheory.proofs.TellingGates.{count_go, pand_go, CountStep, own-role-f, own-role-u, and-told, or-told, pand-told, and-counted}
use Rattle.treetheory.proofs.TellingGates.{or-counted, first_counted, second-counted, and-rests, or-rests, pand-rests}
use Rattle.treetheory.proofs.Mending.{box_go}
use Rattle.treetheory.proofs.TellingBasic.{be_go, own-signal, be-told, be-rests}

-- what a gate counts: AND and OR how many inputs are down, PAND each of them apart
abbrev pub Counts : Sort → Element → Meaning → ℕ → ℕ → Type 0
Counts be-sort e y x z = Unit {0}
Counts and-sort e y x z = CountStep e y 1 1 (x % 3) (z % 3)
Counts or-sort e y x z = CountStep e y 1 1 (x % 3) (z % 3)
Counts pand-sort e y x z = CountStep e y 1 0 (x / 10) (z / 10) × CountStep e y 0 1 (x / 5 % 2) (z / 5 % 2)
Counts rbox-sort e y x z = Unit {0}

pub record Lawful (q : Sort) (e : Element) (y : Meaning) (x z : ℕ) : Type 0 where
  pub fine : fine_in q z ≡ true
  pub told : ToldStep e y (told_in q x) (told_in q z)
  pub counts : Counts q e y x z

abbrev pub is_gate : Sort → Bool
is_gate be-sort = false
is_gate and-sort = true
is_gate or-sort = true
is_gate pand-sort = true
is_gate rbox-sort = false

-- no input of a gate is the gate, and they differ
pub record Apart (e : Element) : Type 0 where
  pub first : first_of e ≢ e.number
  pub second : second_of e ≢ e.number
  pub both : first_of e ≢ second_of e

-- where a component rests, only it is clear what may be enabled: nothing
pub stable-clear : (t : Tree) (m : Module) (x : ℕ) → Stable (auto_of (comp_by m)) x → Clear t (auto_of (comp_by m)) x fl
stable-clear t m x st = record { peace = λ n. absurd (st.rests n.row) }

module _ (t : Tree) (g : Good t) where
  -- the number of a signal of a line
  own-number : (e : Element) → In e t → (s : Signal) → In s (signals_of e.sort (boxed t e.number))
      → (b : ℕ) × (b < max_actions) × (meaning_of t b ≡ some (record { of = e.number; signal = s }))
  own-number e l s m = let p = has-number t e s l m in (p.0, omega (arith, p.1, g.few), p.2)

  pub same_line : (d e : Element) → In d t → In e t → d.number ≡ e.number → d ≡ e
  same_line d e k l w =
      ⊎_elim (λ z. z) (λ z. ⊎_elim (λ h. absurd (omega (arith, h, w))) (λ h. absurd (omega (arith, h, w))) z)
      (pairwise-two (λ (x y : Element). x.number < y.number) t g.ascends k l)

  -- a box has no signal of its own
  box-silent : (e : Element) → In e t → e.sort ≡ rbox-sort → (a : ℕ) {y : Meaning} → meaning_of t a ≡ some y → y.of ≡ e.number → ⊥
  box-silent e l q a {y} means w =
      let n = named t a means in
      let z = same_line n.element e n.line l (sym n.number ∙ w) in
      in-none (subst (λ d. In y.signal (signals_of d (boxed t n.element.number))) (ap (λ (x : Element). x.sort) z ∙ q) n.signal)

  -- ---- one module by its roles
  module _ (e : Element) (listed : In e t) (m : Module) {A : Type 0} (gr : Meaning → Option A) (kind_of : A → Kind) (to : ℕ → A → Option Move)
      (kinds : (a : ℕ) → m.kind a ≡ map_some kind_of (of_meaning gr (meaning_of t a)))
      (moves : (s a : ℕ) → m.move s a ≡ bound (of_meaning gr (meaning_of t a)) (to s))
      (parts : (a : ℕ) (k : Kind) → m.kind a ≡ some k → Has t e a k)
      (below : (s a : ℕ) (v : Move) → s < m.states → m.move s a ≡ some v → v.target < m.states) where
    free : (s : Signal) (p : A) → In s (signals_of e.sort (boxed t e.number)) → is_uout (some (kind_of p)) ≡ true
        → gr (record { of = e.number; signal = s }) ≡ some p
        → (x : ℕ) {c : Signal} → x < m.states → Clear t (auto_of (comp_by m)) x c → (Peaceful c s → ⊥) → to x p ≡ none
    free s p k o i x hx clear w =
        let n = own-number e listed s k in
        clear_none t g.ascends e m gr kind_of to kinds moves parts below n.2 i o hx n.1 clear w

    moved : {a x C R z : ℕ} {y : Meaning} → meaning_of t a ≡ some y → a < max_actions → Go (auto_of (comp_by m)) a x C R z → Moved gr kind_of m.states to y x z
    moved means ha go = go-moved t g.ascends e m gr kind_of to kinds moves parts below means ha go

  -- ---- every element
  part_of : (q : Sort) (n : ℕ) (e : Element) → e.sort ≡ q → (a : ℕ) (k : Kind) → (module_for q t n e).kind a ≡ some k → Has t e a k
  part_of q n e w a k h = has_part t n e a k (ap (λ q. (module_for q t n e).kind a) w ∙ h)

  be-signals : (e : Element) → e.sort ≡ be-sort → In f (signals_of e.sort (boxed t e.number)) × In u (signals_of e.sort (boxed t e.number))
  be-signals e w = rw w (go (boxed t e.number))
    where
      go : (b : Bool) → In f (signals_of be-sort b) × In u (signals_of be-sort b)
      go true = (there (there (here refl)), there (there (there (here refl))))
      go false = (there (there (here refl)), there (there (there (here refl))))

  and-signals : (e : Element) → e.sort ≡ and-sort → In f (signals_of e.sort (boxed t e.number)) × In u (signals_of e.sort (boxed t e.number))
  and-signals e w = rw w (here refl, there (here refl))

  or-signals : (e : Element) → e.sort ≡ or-sort → In f (signals_of e.sort (boxed t e.number)) × In u (signals_of e.sort (boxed t e.number))
  or-signals e w = rw w (here refl, there (here refl))

  pand-signals : (e : Element) → e.sort ≡ pand-sort → In f (signals_of e.sort (boxed t e.number)) × In u (signals_of e.sort (boxed t e.number))
  pand-signals e w = rw w (here refl, there (here refl))

  module _ (n : ℕ) (e : Element) (listed : In e t) (x : ℕ) where
    be-free : e.sort ≡ be-sort → Sound (be_module t n e) → x < 9 → {c : Signal} → Clear t (auto_of (comp_by (be_module t n e))) x c
        → ((Peaceful c f → ⊥) → be_go n x f ≡ none) × ((Peaceful c u → ⊥) → be_go n x u ≡ none)
    unfolding be_module
    be-free w o hx clear =
        let k = be-signals e w in (
          free e listed (be_module t n e) (be_role e) be_kind (be_go n) (λ a. refl) (λ s a. refl) (part_of be-sort n e w) (λ s a v. o.target_below) f f k.0 refl
              (own-signal e _ f refl refl) x hx clear,
          free e listed (be_module t n e) (be_role e) be_kind (be_go n) (λ a. refl) (λ s a. refl) (part_of be-sort n e w) (λ s a v. o.target_below) u u k.1 refl
              (own-signal e _ u refl refl) x hx clear,
        )

    and-free : e.sort ≡ and-sort → Sound (count_module 2 t e) → x < 12 → {c : Signal} → Clear t (auto_of (comp_by (count_module 2 t e))) x c
        → ((Peaceful c f → ⊥) → count_go 2 x own-f ≡ none) × ((Peaceful c u → ⊥) → count_go 2 x own-u ≡ none)
    unfolding count_module clockless
    and-free w o hx clear =
        let k = and-signals e w in (
          free e listed (count_module 2 t e) (gate_role e) gate_kind (count_go 2) (λ a. refl) (λ s a. refl) (part_of and-sort n e w)
              (λ s a v. o.target_below) f own-f k.0 refl (own-role-f e _ refl refl).0 x hx clear,
          free e listed (count_module 2 t e) (gate_role e) gate_kind (count_go 2) (λ a. refl) (λ s a. refl) (part_of and-sort n e w)
              (λ s a v. o.target_below) u own-u k.1 refl (own-role-u e _ refl refl).0 x hx clear,
        )

    or-free : e.sort ≡ or-sort → Sound (count_module 1 t e) → x < 12 → {c : Signal} → Clear t (auto_of (comp_by (count_module 1 t e))) x c
        → ((Peaceful c f → ⊥) → count_go 1 x own-f ≡ none) × ((Peaceful c u → ⊥) → count_go 1 x own-u ≡ none)
    unfolding count_module clockless
    or-free w o hx clear =
        let k = or-signals e w in (
          free e listed (count_module 1 t e) (gate_role e) gate_kind (count_go 1) (λ a. refl) (λ s a. refl) (part_of or-sort n e w)
              (λ s a v. o.target_below) f own-f k.0 refl (own-role-f e _ refl refl).0 x hx clear,
          free e listed (count_module 1 t e) (gate_role e) gate_kind (count_go 1) (λ a. refl) (λ s a. refl) (part_of or-sort n e w)
              (λ s a v. o.target_below) u own-u k.1 refl (own-role-u e _ refl refl).0 x hx clear,
        )

    pand-free : e.sort ≡ pand-sort → Sound (pand_module t e) → x < 20 → {c : Signal} → Clear t (auto_of (comp_by (pand_module t e))) x c
        → ((Peaceful c f → ⊥) → pand_go x own-f ≡ none) × ((Peaceful c u → ⊥) → pand_go x own-u ≡ none)
    unfolding pand_module clockless
    pand-free w o hx clear =
        let k = pand-signals e w in (
          free e listed (pand_module t e) (pand_role e) gate_kind pand_go (λ a. refl) (λ s a. refl) (part_of pand-sort n e w) (λ s a v. o.target_below) f own-f
              k.0 refl (own-role-f e _ refl refl).1 x hx clear,
          free e listed (pand_module t e) (pand_role e) gate_kind pand_go (λ a. refl) (λ s a. refl) (part_of pand-sort n e w) (λ s a v. o.target_below) u own-u
              k.1 refl (own-role-u e _ refl refl).1 x hx clear,
        )

    -- a step
    pub lawful : (q : Sort) → e.sort ≡ q → Sound (module_for q t n e) → x < (comp_by (module_for q t n e)).states → (is_gate q ≡ true → Apart e)
        → {a C R z : ℕ} {y : Meaning} → meaning_of t a ≡ some y → a < max_actions
        → Go (auto_of (comp_by (module_for q t n e))) a x C R z → fine_in q x ≡ true → Clear t (auto_of (comp_by (module_for q t n e))) x y.signal
        → Lawful q e y x z
    unfolding comp_by be_module count_module pand_module clockless
    lawful be-sort w o hx far {z = z} {y = y} means ha go fi clear =
        let k = be-free w o hx clear in
        let mv = moved e listed (be_module t n e) (be_role e) be_kind (be_go n) (λ a. refl) (λ s a. refl) (part_of be-sort n e w)
        (λ s a v. o.target_below) means ha go in
        let l = be-told e n y x z fi k.0 k.1 mv in
        record { fine = l.0; told = l.1; counts = tt }
    lawful and-sort w o hx far {z = z} {y = y} means ha go fi clear =
        let k = and-free w o hx clear in
        let mv = moved e listed (count_module 2 t e) (gate_role e) gate_kind (count_go 2) (λ a. refl) (λ s a. refl) (part_of and-sort n e w)
        (λ s a v. o.target_below) means ha go in
        let l = and-told e y x z fi k.0 k.1 mv in
        record { fine = l.0; told = l.1; counts = and-counted e y x z (far refl).first (far refl).second mv }
    lawful or-sort w o hx far {z = z} {y = y} means ha go fi clear =
        let k = or-free w o hx clear in
        let mv = moved e listed (count_module 1 t e) (gate_role e) gate_kind (count_go 1) (λ a. refl) (λ s a. refl) (part_of or-sort n e w)
        (λ s a v. o.target_below) means ha go in
        let l = or-told e y x z fi k.0 k.1 mv in
        record { fine = l.0; told = l.1; counts = or-counted e y x z (far refl).first (far refl).second mv }
    lawful pand-sort w o hx far {z = z} {y = y} means ha go fi clear =
        let k = pand-free w o hx clear in
        let mv = moved e listed (pand_module t e) (pand_role e) gate_kind pand_go (λ a. refl) (λ s a. refl) (part_of pand-sort n e w)
        (λ s a v. o.target_below) means ha go in
        let l = pand-told e y x z fi k.0 k.1 mv in
        record {
          fine = l.0;
          told = l.1;
          counts = (
            first_counted e y x z (far refl).first (far refl).second mv,
            second-counted e y x z (far refl).first (far refl).second mv,
          );
        }
    lawful rbox-sort w o hx far {a = a} means ha go fi clear = record {
      fine = refl;
      told = stays (λ v s. box-silent e listed w a means v) (λ v s. box-silent e listed w a means v) refl;
      counts = tt;
    }

    -- the moves of a PAND and of a basic element
    pub pand-moved : e.sort ≡ pand-sort → Sound (pand_module t e) → {a C R z : ℕ} {y : Meaning} → meaning_of t a ≡ some y → a < max_actions
        → Go (auto_of (comp_by (pand_module t e))) a x C R z
        → Moved (pand_role e) gate_kind 20 pand_go y x z
    unfolding pand_module clockless
    pand-moved w o means ha go =
        moved e listed (pand_module t e) (pand_role e) gate_kind pand_go (λ a. refl) (λ s a. refl) (part_of pand-sort n e w) (λ s a v. o.target_below) means ha go

    pub be-moved : e.sort ≡ be-sort → Sound (be_module t n e) → {a C R z : ℕ} {y : Meaning} → meaning_of t a ≡ some y → a < max_actions
        → Go (auto_of (comp_by (be_module t n e))) a x C R z
        → Moved (be_role e) be_kind 9 (be_go n) y x z
    unfolding be_module
    be-moved w o means ha go =
        moved e listed (be_module t n e) (be_role e) be_kind (be_go n) (λ a. refl) (λ s a. refl) (part_of be-sort n e w) (λ s a v. o.target_below) means ha go

    pub box-moved : e.sort ≡ rbox-sort → Sound (box_module t e) → {a C R z : ℕ} {y : Meaning} → meaning_of t a ≡ some y → a < max_actions
        → Go (auto_of (comp_by (box_module t e))) a x C R z
        → Moved (box_role e) box_kind (2 ^ suc (length e.ins)) (box_go (length e.ins)) y x z
    unfolding box_module clockless
    box-moved w o means ha go =
        moved e listed (box_module t e) (box_role e) box_kind (box_go (length e.ins)) (λ a. refl) (λ s a. refl) (part_of rbox-sort n e w)
        (λ s a v. o.target_below) means ha go

    -- a box at rest orders nothing
    pub box-quiet : e.sort ≡ rbox-sort → Sound (box_module t e) → x < (comp_by (box_module t e)).states → Stable (auto_of (comp_by (box_module t e))) x
        → (b : ℕ) {y : Meaning} (k : ℕ) → meaning_of t b ≡ some y → b < max_actions → box_role e y ≡ some (box-r k) → box_go (length e.ins) x (box-r k) ≡ none
    unfolding comp_by box_module clockless
    box-quiet w o hx st b k means hb i =
        clear_none t g.ascends e (box_module t e) (box_role e) box_kind (box_go (length e.ins)) (λ a. refl) (λ s a. refl) (part_of rbox-sort n e w)
        (λ s a v. o.target_below)
        means i refl hx hb (stable-clear t (box_module t e) x st) not-fl

    -- a PAND at rest has nothing to tell
    pub pand-quiet : e.sort ≡ pand-sort → Sound (pand_module t e) → x < (comp_by (pand_module t e)).states → Stable (auto_of (comp_by (pand_module t e))) x
        → (x < 20) × (pand_go x own-f ≡ none) × (pand_go x own-u ≡ none)
    unfolding comp_by pand_module clockless
    pand-quiet w o hx st = let k = pand-free w o hx (stable-clear t (pand_module t e) x st) in (hx, k.0 not-fl, k.1 not-fl)

    -- at rest what is told is what is
    pub resting : (q : Sort) → e.sort ≡ q → Sound (module_for q t n e) → x < (comp_by (module_for q t n e)).states → fine_in q x ≡ true
        → Stable (auto_of (comp_by (module_for q t n e))) x
        → told_in q x ≡ down_in q x
    unfolding comp_by be_module count_module pand_module clockless
    resting be-sort w o hx fi st = let k = be-free w o hx (stable-clear t (be_module t n e) x st) in be-rests n x hx fi (k.0 not-fl) (k.1 not-fl)
    resting and-sort w o hx fi st = let k = and-free w o hx (stable-clear t (count_module 2 t e) x st) in and-rests x hx fi (k.0 not-fl) (k.1 not-fl)
    resting or-sort w o hx fi st = let k = or-free w o hx (stable-clear t (count_module 1 t e) x st) in or-rests x hx fi (k.0 not-fl) (k.1 not-fl)
    resting pand-sort w o hx fi st = let k = pand-free w o hx (stable-clear t (pand_module t e) x st) in pand-rests x hx fi (k.0 not-fl) (k.1 not-fl)
    resting rbox-sort w o hx fi st = refl
