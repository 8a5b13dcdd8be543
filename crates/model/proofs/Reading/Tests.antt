-- The tests of reading decide the predicates of a faultless line.
use mathlib.Core.Path.{◌≡◌, refl}
use mathlib.Core.Logic.{inl, inr, ◌↔◌}
use mathlib.Core.Option.{Option, none, some}
use mathlib.Core.Bool.{Bool, true, false, ◌&&◌, not}
use mathlib.Core.List.{List, [], ◌∷◌}
use Prim.Native.Nat.{ℕ, ◌≤◌, ◌<◌}
use lib.ListN.{length}
use lib.Dec.{eqb, ltb, leb}
use borrow.Author.Tests.{ltb-true, ltb-false, leb-true, leb-false, eqb-true, lt-ltb, le-ltb, le-leb, lt-leb, eq-eqb, not-false}
use Rattle.laws.specs.Sets.{has, ◌∈◌}
use Rattle.laws.proofs.TestLaws.{and-true}
use Rattle.answer.specs.Limits.{max_components, max_rows, max_states, max_actions, max_clocks}
use Rattle.model.specs.Model.{Comp, acts, row_count}
use Rattle.model.specs.Reading.{Entry, comp-entry, act-entry, clk-entry, row-entry, turn, out_of_turn, all_below, guard_below, out_of_range, all_in}
use Rattle.model.specs.Reading.{guard_in, lacks, ascending, follows, resets_ascend, out_of_order, too_many}
use Rattle.model.specs.Reading.{Value, states-value, state-value, action-value, clock-value, set_value, dash-value, outside, unnamed}
use Rattle.model.specs.Column.{Ranged, Owned}
use Rattle.model.specs.Faulty.{Each, GuardIs, InTurn, InRange, Named, After, Ascends, ResetsAscend, InOrder, Room}

-- ---- tests joined
test-and : {A B : Type 0} (a b : Bool) → (a ≡ true) ↔ A → (b ≡ true) ↔ B → ((a && b) ≡ true) ↔ (A × B)
test-and a b p q = (λ h. let r = and-true a b h in (p.0 r.0, q.0 r.1), λ h. rw (p.1 h.0) (q.1 h.1))

no-fault : {A : Type 0} (b : Bool) → (b ≡ true) ↔ A → (not b ≡ false) ↔ A
no-fault b p = (λ h. p.0 (not-false b h), λ h. rw (p.1 h))

same : {A : Type 0} → A ↔ A
same = (λ h. h, λ h. h)

always : (true ≡ true) ↔ Unit {0}
always = (λ h. tt, λ h. refl)

never : (false ≡ false) ↔ Unit {0}
never = (λ h. tt, λ h. refl)

less : (a b : ℕ) → (ltb a b ≡ true) ↔ (a < b)
less a b = (ltb-true a b, lt-ltb a b)

most : (a b : ℕ) → (leb a b ≡ true) ↔ (a ≤ b)
most a b = (leb-true a b, le-leb a b)

-- ---- 3
pub turn-decided : (l : Option Entry) (e : Entry) → (out_of_turn l e ≡ false) ↔ InTurn l e
unfolding out_of_turn
turn-decided none e = no-fault (eqb (turn e) 0) (eqb-true (turn e) 0, eq-eqb (turn e) 0)
turn-decided (some d) e = (go (eqb (turn e) 0) refl, back)
  where
    go : (b : Bool) → eqb (turn e) 0 ≡ b → (not b && ltb (turn e) (turn d)) ≡ false → InTurn (some d) e
    go true q h = inl (eqb-true (turn e) 0 q)
    go false q h = inr (ltb-false (turn e) (turn d) h)

    stop : (a : Bool) → (a && false) ≡ false
    stop true = refl
    stop false = refl

    back : InTurn (some d) e → (not (eqb (turn e) 0) && ltb (turn e) (turn d)) ≡ false
    back (inl h) = rw (eq-eqb (turn e) 0 h)
    back (inr h) = rw (le-ltb (turn e) (turn d) h) (stop (not (eqb (turn e) 0)))

-- ---- lists and guards
pub below-decided : (m : ℕ) (xs : List ℕ) → (all_below m xs ≡ true) ↔ Each (λ x. x < m) xs
unfolding all_below
below-decided m [] = always
below-decided m (x ∷ xs) = test-and (ltb x m) (all_below m xs) (less x m) (below-decided m xs)

pub in-decided : (s : ℕ) (xs : List ℕ) → (all_in s xs ≡ true) ↔ Each (λ x. x ∈ s) xs
unfolding all_in
in-decided s [] = always
in-decided s (x ∷ xs) = test-and (has s x) (all_in s xs) same (in-decided s xs)

guard-below-decided : (g : Option ℕ) → (guard_below g ≡ true) ↔ GuardIs (λ x. x < max_clocks) g
guard-below-decided none = always
guard-below-decided (some x) = less x max_clocks

guard-in-decided : (s : ℕ) (g : Option ℕ) → (guard_in s g ≡ true) ↔ GuardIs (λ x. x ∈ s) g
guard-in-decided s none = always
guard-in-decided s (some x) = same

pub ascends-decided : (xs : List ℕ) → (ascending xs ≡ true) ↔ Ascends xs
unfolding ascending
ascends-decided [] = always
ascends-decided (x ∷ []) = always
ascends-decided (x ∷ y ∷ ys) = test-and (ltb x y) (ascending (y ∷ ys)) (less x y) (ascends-decided (y ∷ ys))

-- ---- 4
pub range-decided : (c : Comp) (e : Entry) → (out_of_range c e ≡ false) ↔ InRange c e
unfolding out_of_range
range-decided c (comp-entry n s) =
    let r = no-fault (leb 1 n && (leb n max_states && ltb s n)) (test-and (leb 1 n) (leb n max_states && ltb s n) (most 1 n)
    (test-and (leb n max_states) (ltb s n) (most n max_states) (less s n))) in
    (λ h. let q = r.0 h in (q.0, q.1.0, q.1.1), λ h. r.1 (h.0, (h.1, h.2)))
range-decided c (act-entry a k) = no-fault (ltb a max_actions) (less a max_actions)
range-decided c (clk-entry x b) = no-fault (ltb x max_clocks && leb b 1) (test-and (ltb x max_clocks) (leb b 1) (less x max_clocks) (most b 1))
range-decided c (row-entry s g a r t) =
    let ends = test-and (all_below max_clocks r) (ltb t c.states) (below-decided max_clocks r) (less t c.states) in
    let mids = test-and (ltb a max_actions) (all_below max_clocks r && ltb t c.states) (less a max_actions) ends in
    let more = test-and (guard_below g) (ltb a max_actions && (all_below max_clocks r && ltb t c.states)) (guard-below-decided g) mids in
    let all = test-and (ltb s c.states) (guard_below g && (ltb a max_actions && (all_below max_clocks r && ltb t c.states))) (less s c.states) more in
    let d = no-fault (ltb s c.states && (guard_below g && (ltb a max_actions && (all_below max_clocks r && ltb t c.states)))) all in
    (λ h. let q = d.0 h in (q.0, q.1.0, q.1.1.0, q.1.1.1.0, q.1.1.1.1), λ h. d.1 (h.0, (h.1, (h.2, (h.3, h.4)))))

-- ---- 5
pub names-decided : (c : Comp) (e : Entry) → (lacks c e ≡ false) ↔ Named c e
unfolding lacks
names-decided c (comp-entry n s) = never
names-decided c (act-entry a k) = never
names-decided c (clk-entry x b) = never
names-decided c (row-entry s g a r t) =
    let more = test-and (has (acts c) a) (all_in c.clocks r) same (in-decided c.clocks r) in
    let d = no-fault (guard_in c.clocks g && (has (acts c) a && all_in c.clocks r))
    (test-and (guard_in c.clocks g) (has (acts c) a && all_in c.clocks r) (guard-in-decided c.clocks g) more) in
    (λ h. let q = d.0 h in (q.0, q.1.0, q.1.1), λ h. d.1 (h.0, (h.1, h.2)))

-- ---- 4 and 5, of one value
pub ranged-decided : (n : ℕ) (v : Value) → (outside n v ≡ false) ↔ Ranged n v
ranged-decided n (states-value m) = no-fault (leb 1 m && leb m max_states) (test-and (leb 1 m) (leb m max_states) (most 1 m) (most m max_states))
ranged-decided n (state-value s) = no-fault (ltb s n) (less s n)
ranged-decided n (action-value a) = no-fault (ltb a max_actions) (less a max_actions)
ranged-decided n (clock-value x) = no-fault (ltb x max_clocks) (less x max_clocks)
ranged-decided n (set_value b) = no-fault (leb b 1) (most b 1)
ranged-decided n dash-value = never

pub owned-decided : (c : Comp) (v : Value) → (unnamed c v ≡ false) ↔ Owned c v
owned-decided c (states-value m) = never
owned-decided c (state-value s) = never
owned-decided c (action-value a) = no-fault (has (acts c) a) same
owned-decided c (clock-value x) = no-fault (has c.clocks x) same
owned-decided c (set_value b) = never
owned-decided c dash-value = never

-- ---- 6
after-decided : (d e : Entry) → (follows (some d) e ≡ true) ↔ After d e
unfolding follows
after-decided d (comp-entry n s) = always
after-decided (comp-entry n s) (act-entry a k) = always
after-decided (act-entry b j) (act-entry a k) = less b a
after-decided (clk-entry x b) (act-entry a k) = always
after-decided (row-entry s g b r t) (act-entry a k) = always
after-decided (comp-entry n s) (clk-entry x b) = always
after-decided (act-entry a k) (clk-entry x b) = always
after-decided (clk-entry y j) (clk-entry x b) = less y x
after-decided (row-entry s g a r t) (clk-entry x b) = always
after-decided (comp-entry n z) (row-entry s g a r t) = always
after-decided (act-entry b k) (row-entry s g a r t) = always
after-decided (clk-entry x b) (row-entry s g a r t) = always
after-decided (row-entry s₀ g₀ a₀ r₀ t₀) (row-entry s g a r t) = same

resets-decided : (e : Entry) → (resets_ascend e ≡ true) ↔ ResetsAscend e
resets-decided (comp-entry n s) = always
resets-decided (act-entry a k) = always
resets-decided (clk-entry x b) = always
resets-decided (row-entry s g a r t) = ascends-decided r

pub order-decided : (l : Option Entry) (e : Entry) → (out_of_order l e ≡ false) ↔ InOrder l e
unfolding out_of_order follows
order-decided none e = no-fault (resets_ascend e) (resets-decided e)
order-decided (some d) e =
    no-fault (follows (some d) e && resets_ascend e) (test-and (follows (some d) e) (resets_ascend e) (after-decided d e) (resets-decided e))

-- ---- 7
pub room-decided : (m : List Comp) (e : Entry) → (too_many m e ≡ false) ↔ Room m e
unfolding too_many
room-decided m (comp-entry n s) = (leb-false max_components (length m), lt-leb max_components (length m))
room-decided m (act-entry a k) = never
room-decided m (clk-entry x b) = never
room-decided m (row-entry s g a r t) = (leb-false max_rows (row_count m), lt-leb max_rows (row_count m))
