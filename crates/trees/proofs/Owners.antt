-- Who has an action: its signal tells whether it is urgent, and one element alone puts it out.
use mathlib.Core.Path.{◌≡◌, refl, sym, ap}
use mathlib.Core.Option.{Option, none, some, some_inj}
use mathlib.Core.Bool.{Bool, true, false, false≢true, cond, ◌||◌}
use mathlib.Core.List.{List, [], ◌∷◌}
use Prim.Native.Nat.{ℕ, suc}
use lib.Dec.{eqb}
use lib.ListN.{get_or}
use borrow.Author.Tests.{eqb-true}
use Rattle.laws.specs.Search.{when, map_some}
use Rattle.laws.proofs.SearchLaws.{no-some}
use Rattle.model.specs.Text.{Kind, in-kind, out-kind, uin-kind, uout-kind}
use Rattle.trees.specs.Tree.{Sort, be-sort, and-sort, or-sort, pand-sort, rbox-sort, Element, Tree, is_box, among, Signal, fl, up, f, u, r}
use Rattle.trees.specs.Tree.{Meaning, meaning_of}
use Rattle.trees.specs.Modules.{be_kind, be_role, GateRole, own-f, own-u, f0, u0, f1, u1, tick, gate_kind, gate_role, told, ticked, pand_role}
use Rattle.trees.specs.Modules.{BoxRole, box-fl, box-up, box-r, box_kind, box_hears, box_role, place_of, of_meaning, clockless, be_module}
use Rattle.trees.specs.Modules.{count_module, pand_module, box_module, module_for}

abbrev pub urgent_signal : Signal → Bool
urgent_signal fl = false
urgent_signal up = false
urgent_signal f = true
urgent_signal u = true
urgent_signal r = true

abbrev repair_signal : Signal → Bool
repair_signal fl = false
repair_signal up = false
repair_signal f = false
repair_signal u = false
repair_signal r = true

abbrev pub is_urgent : Kind → Bool
is_urgent in-kind = false
is_urgent out-kind = false
is_urgent uin-kind = true
is_urgent uout-kind = true

abbrev pub is_output : Kind → Bool
is_output in-kind = false
is_output out-kind = true
is_output uin-kind = false
is_output uout-kind = true

-- e puts x out: a signal of its own, or, of a box, the start of a repair of one of its inputs
pub data Owns (e : Element) (x : Meaning) : Type 0 where
  tells : repair_signal x.signal ≡ false → x.of ≡ e.number → Owns e x
  repairs : repair_signal x.signal ≡ true → is_box e.sort ≡ true → among x.of e.ins ≡ true → Owns e x

pub record Part (e : Element) (x : Meaning) (k : Kind) : Type 0 where
  pub urgency : is_urgent k ≡ urgent_signal x.signal
  pub owner : is_output k ≡ true → Owns e x

-- ---- basic elements
be-part : (e : Element) (x : Meaning) (y : Signal) → be_role e x ≡ some y → Part e x (be_kind y)
unfolding be_role
be-part e x y h = go (eqb x.of e.number) refl h
  where
    by-signal : (s : Signal) → x.signal ≡ s → x.of ≡ e.number → Part e x (be_kind s)
    by-signal fl h w = record { urgency = rw h; owner = λ o. tells (rw h) w }
    by-signal up h w = record { urgency = rw h; owner = λ o. tells (rw h) w }
    by-signal f h w = record { urgency = rw h; owner = λ o. tells (rw h) w }
    by-signal u h w = record { urgency = rw h; owner = λ o. tells (rw h) w }
    by-signal r h w = record { urgency = rw h; owner = λ o. absurd (false≢true o) }

    go : (b : Bool) → eqb x.of e.number ≡ b → when b x.signal ≡ some y → Part e x (be_kind y)
    go true w h = by-signal y (some_inj.0 h) (eqb-true x.of e.number w)
    go false w h = absurd (no-some refl h)

-- ---- gates
own-part : (e : Element) (x : Meaning) (y : GateRole) (s : Signal) → x.signal ≡ s → x.of ≡ e.number → told own-f own-u s ≡ some y → Part e x (gate_kind y)
own-part e x y fl h w k = absurd (no-some refl k)
own-part e x y up h w k = absurd (no-some refl k)
own-part e x y f h w k = let z : own-f ≡ y = some_inj.0 k in rw (← z) (record { urgency = rw h; owner = λ o. tells (rw h) w })
own-part e x y u h w k = let z : own-u ≡ y = some_inj.0 k in rw (← z) (record { urgency = rw h; owner = λ o. tells (rw h) w })
own-part e x y r h w k = absurd (no-some refl k)

-- an urgent input
heard-part : (e : Element) (x : Meaning) (y a b : GateRole) (s : Signal) → gate_kind a ≡ uin-kind → gate_kind b ≡ uin-kind → x.signal ≡ s
    → told a b s ≡ some y → Part e x (gate_kind y)
heard-part e x y a b fl p q h k = absurd (no-some refl k)
heard-part e x y a b up p q h k = absurd (no-some refl k)
heard-part e x y a b f p q h k = let z : a ≡ y = some_inj.0 k in rw (← z, p) (record { urgency = rw h; owner = λ o. absurd (false≢true o) })
heard-part e x y a b u p q h k = let z : b ≡ y = some_inj.0 k in rw (← z, q) (record { urgency = rw h; owner = λ o. absurd (false≢true o) })
heard-part e x y a b r p q h k = absurd (no-some refl k)

pub gate-part : (e : Element) (x : Meaning) (y : GateRole) → gate_role e x ≡ some y → Part e x (gate_kind y)
unfolding gate_role
gate-part e x y h = go (eqb x.of e.number) refl (eqb x.of (get_or e.ins 0 0)) (eqb x.of (get_or e.ins 1 0)) h
  where
    go : (b : Bool) → eqb x.of e.number ≡ b → (c d : Bool)
        → cond b (told own-f own-u x.signal) (cond c (told f0 u0 x.signal) (cond d (told f1 u1 x.signal) none)) ≡ some y → Part e x (gate_kind y)
    go true w c d h = own-part e x y x.signal refl (eqb-true x.of e.number w) h
    go false w true d h = heard-part e x y f0 u0 x.signal refl refl refl h
    go false w false true h = heard-part e x y f1 u1 x.signal refl refl refl h
    go false w false false h = absurd (no-some refl h)

pub pand-part : (e : Element) (x : Meaning) (y : GateRole) → pand_role e x ≡ some y → Part e x (gate_kind y)
unfolding pand_role
pand-part e x y h = go x.signal refl h
  where
    ticks : (s : Signal) → x.signal ≡ s → urgent_signal s ≡ false → tick ≡ y → Part e x (gate_kind y)
    ticks s h w z = rw (← z) (record { urgency = rw h (sym w); owner = λ o. absurd (false≢true o) })

    go : (s : Signal) → x.signal ≡ s → (elim (ticked s) as (λ _. Option GateRole) [ some t ↦ some t | none ↦ gate_role e x ]) ≡ some y → Part e x (gate_kind y)
    go fl w h = ticks fl w refl (some_inj.0 h)
    go up w h = ticks up w refl (some_inj.0 h)
    go f w h = gate-part e x y h
    go u w h = gate-part e x y h
    go r w h = gate-part e x y h

-- ---- boxes
place-among : (v : ℕ) (xs : List ℕ) (i : ℕ) → place_of v xs ≡ some i → among v xs ≡ true
unfolding place_of among
place-among v [] i h = absurd (no-some refl h)
place-among v (x ∷ xs) i h = go (λ j. place-among v xs j) (eqb v x) h
  where
    further : ((j : ℕ) → place_of v xs ≡ some j → among v xs ≡ true) → (o : Option ℕ) → place_of v xs ≡ o → map_some suc o ≡ some i → among v xs ≡ true
    further ih none w h = absurd (no-some refl h)
    further ih (some j) w h = ih j w

    go : ((j : ℕ) → place_of v xs ≡ some j → among v xs ≡ true) → (b : Bool)
        → (elim b as (λ _. Option ℕ) [ true ↦ some 0 | false ↦ map_some suc (place_of v xs) ]) ≡ some i → (b || among v xs) ≡ true
    go ih true h = refl
    go ih false h = further ih (place_of v xs) refl h

box-part : (e : Element) (x : Meaning) (y : BoxRole) → is_box e.sort ≡ true → box_role e x ≡ some y → Part e x (box_kind y)
unfolding box_role
box-part e x y b h = go (place_of x.of e.ins) refl h
  where
    by-signal : (s : Signal) (i : ℕ) → x.signal ≡ s → among x.of e.ins ≡ true → box_hears s i ≡ some y → Part e x (box_kind y)
    by-signal fl i w m h = let z : box-fl i ≡ y = some_inj.0 h in rw (← z) (record { urgency = rw w; owner = λ o. absurd (false≢true o) })
    by-signal up i w m h = let z : box-up i ≡ y = some_inj.0 h in rw (← z) (record { urgency = rw w; owner = λ o. absurd (false≢true o) })
    by-signal f i w m h = absurd (no-some refl h)
    by-signal u i w m h = absurd (no-some refl h)
    by-signal r i w m h = let z : box-r i ≡ y = some_inj.0 h in rw (← z) (record { urgency = rw w; owner = λ o. repairs (rw w) b m })

    go : (o : Option ℕ) → place_of x.of e.ins ≡ o → (elim o as (λ _. Option BoxRole) [ none ↦ none | some i ↦ box_hears x.signal i ]) ≡ some y
        → Part e x (box_kind y)
    go none w h = absurd (no-some refl h)
    go (some i) w h = by-signal x.signal i refl (place-among x.of e.ins i w) h

-- ---- every module
pub record Has (t : Tree) (e : Element) (a : ℕ) (k : Kind) : Type 0 where
  pub x : Meaning
  pub means : meaning_of t a ≡ some x
  pub part : Part e x k

by-role : {A : Type 0} (t : Tree) (e : Element) (g : Meaning → Option A) (kind_of : A → Kind) → ((x : Meaning) (y : A) → g x ≡ some y → Part e x (kind_of y))
    → (a : ℕ) (k : Kind) → map_some kind_of (of_meaning g (meaning_of t a)) ≡ some k → Has t e a k
by-role {A} t e g kind_of p a k h = go (meaning_of t a) refl h
  where
    at-role : (x : Meaning) → meaning_of t a ≡ some x → (o : Option A) → g x ≡ o → map_some kind_of o ≡ some k → Has t e a k
    at-role x w none q h = absurd (no-some refl h)
    at-role x w (some y) q h = let z : kind_of y ≡ k = some_inj.0 h in record { x = x; means = w; part = rw (← z) (p x y q) }

    go : (o : Option Meaning) → meaning_of t a ≡ o → map_some kind_of (of_meaning g o) ≡ some k → Has t e a k
    go none w h = absurd (no-some refl h)
    go (some x) w h = at-role x w (g x) refl h

has_of : (q : Sort) (t : Tree) (n : ℕ) (e : Element) → e.sort ≡ q → (a : ℕ) (k : Kind) → (module_for q t n e).kind a ≡ some k → Has t e a k
unfolding be_module count_module pand_module box_module clockless
has_of be-sort t n e w a k h = by-role t e (be_role e) be_kind (be-part e) a k h
has_of and-sort t n e w a k h = by-role t e (gate_role e) gate_kind (gate-part e) a k h
has_of or-sort t n e w a k h = by-role t e (gate_role e) gate_kind (gate-part e) a k h
has_of pand-sort t n e w a k h = by-role t e (pand_role e) gate_kind (pand-part e) a k h
has_of rbox-sort t n e w a k h = by-role t e (box_role e) box_kind (λ x y. box-part e x y (ap is_box w)) a k h

pub has_part : (t : Tree) (n : ℕ) (e : Element) (a : ℕ) (k : Kind) → (module_for e.sort t n e).kind a ≡ some k → Has t e a k
has_part t n e a k h = has_of e.sort t n e refl a k h
