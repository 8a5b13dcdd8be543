-- Judging by what the code keeps is judging by the definition: the same fault, or the line taken in.
use mathlib.Core.Path.{◌≡◌, refl, sym, ◌∙◌, ap}
use mathlib.Core.Option.{Option, none, some}
use mathlib.Core.Bool.{Bool, true, false, ◌&&◌, not, cond}
use mathlib.Core.List.{List, [], ◌∷◌}
use Prim.Native.Nat.{ℕ, suc, ◌+◌, ◌≤◌}
use native.Mathlib.Numerals.{add-one}
use native.Mathlib.Omega.{arith}
use lib.ListN.{length, length-append}
use lib.Dec.{eqb, ltb, leb}
use borrow.Author.Tests.{le-leb, ltb-true}
use Rattle.laws.specs.Sets.{has, ◌∪◌, only}
use Rattle.laws.specs.Search.{when, or_else}
use Rattle.laws.proofs.SetLaws.{bit-or, bit-ext, or_assoc}
use Rattle.laws.proofs.TestLaws.{and-true}
use Rattle.answer.specs.Limits.{max_components, max_rows, max_states, max_actions, max_clocks}
use Rattle.model.specs.Model.{Row, Comp, acts, row_count}
use Rattle.model.specs.Text.{Kind, in-kind, out-kind, uin-kind, uout-kind}
use Rattle.model.specs.Reading.{Entry, comp-entry, act-entry, clk-entry, row-entry, Progress, current, turn, out_of_turn, out_of_range, lacks, follows}
use Rattle.model.specs.Reading.{out_of_order, too_many, fault_of, guard_below, guard_in, guard_of, row_of, all_below, all_in, ascending, with_act}
use Rattle.model.specs.Reading.{with_clk, with_row, new_comp, take_in}
use Rattle.std.specs.Prelude.{Result, Ok, Err}
use Rattle.lines.specs.Lines.{line_of, guard_is}
use Rattle.fields.specs.Resets.{summary}
use Rattle.judge.specs.declared.Key.{Key}
use Rattle.judge.specs.declared.Progress.{Progress as CodeProgress}
use Rattle.judge.specs.declared.Fault.{Fault}
use Rattle.judge.specs.declared.Fault.TheVariants as OfFault
use Rattle.judge.specs.Judged.{numbered, last_of, last_plain, key_of, standing, after, guard_number, key_before, in_range}
use Rattle.judge.specs.Judged.{guard_named, named, comp_step, act_step}
use Rattle.judge.specs.Judged.{clk_step, row_step, step_of}
use Rattle.judge.proofs.SummaryLaws.{summary-clocks, summary-ascend, summary-set, within_all, and_one}

-- what stands behind a line that is taken in
abbrev pub next : Progress → Entry → Progress
next q e = record { comps = take_in q.comps e; last = some e }

abbrev pub judged_of : Option ℕ → Progress → Result CodeProgress ℕ
judged_of none q = Ok (standing q)
judged_of (some f) q = Err f

-- behind a line there is a component
pub record Begun (q : Progress) : Type 0 where
  pub some-comp : (d : Entry) → q.last ≡ some d → 1 ≤ length q.comps

-- ---- the five tests in their order
abbrev chain : Bool → Bool → Bool → Bool → Bool → Result CodeProgress Fault → Result CodeProgress Fault
chain t r n o m x = cond t (Err OfFault.Turn) (cond r (cond n (cond o (cond m (Err OfFault.Many) x) (Err OfFault.Order)) (Err OfFault.Name))
    (Err OfFault.Range))

chain-is : (t r n o m : Bool) (q : Progress)
    → numbered (chain t r n o m (Ok (standing q))) ≡ judged_of
    (or_else (when t 3) (or_else (when (not r) 4) (or_else (when (not n) 5) (or_else (when (not o) 6) (when m 7))))) q
chain-is true r n o m q = refl
chain-is false false n o m q = refl
chain-is false true false o m q = refl
chain-is false true true false m q = refl
chain-is false true true true true q = refl
chain-is false true true true false q = refl

-- where a line is out of range nothing further is asked of it
chain_same : (t r n o m n' o' : Bool) (x x' : Result CodeProgress Fault) → (r ≡ true → n' ≡ n) → (r ≡ true → o' ≡ o)
    → (t ≡ false → r ≡ true → x' ≡ x)
    → chain t r n' o' m x' ≡ chain t r n o m x
chain_same true r n o m n' o' x x' f g h = refl
chain_same false false n o m n' o' x x' f g h = refl
chain_same false true n o m n' o' x x' f g h =
    ap (λ b. cond b (cond o' (cond m (Err OfFault.Many) x') (Err OfFault.Order)) (Err OfFault.Name)) (f refl)
    ∙ ap (λ b. cond n (cond b (cond m (Err OfFault.Many) x') (Err OfFault.Order)) (Err OfFault.Name)) (g refl)
    ∙ ap (λ y. cond n (cond o (cond m (Err OfFault.Many) y) (Err OfFault.Order)) (Err OfFault.Name)) (h refl refl)

-- ---- the last line
last_turn : (d : Entry) → (last_of (some d)).turn ≡ turn d
last_turn (comp-entry n s) = refl
last_turn (act-entry a k) = refl
last_turn (clk-entry x b) = refl
last_turn (row-entry s g a r t) = refl

turn-act : (o : Option Entry) (a : ℕ) (k : Kind) → ltb 1 (last_of o).turn ≡ out_of_turn o (act-entry a k)
unfolding out_of_turn
turn-act none a k = refl
turn-act (some d) a k = ap (ltb 1) (last_turn d)

turn-clk : (o : Option Entry) (x b : ℕ) → ltb 2 (last_of o).turn ≡ out_of_turn o (clk-entry x b)
unfolding out_of_turn
turn-clk none x b = refl
turn-clk (some d) x b = ap (ltb 2) (last_turn d)

turn-row : (o : Option Entry) (s : ℕ) (g : Option ℕ) (a : ℕ) (r : List ℕ) (t : ℕ)
    → ltb 3 (last_of o).turn ≡ out_of_turn o (row-entry s g a r t)
unfolding out_of_turn
turn-row none s g a r t = refl
turn-row (some d) s g a r t = ap (ltb 3) (last_turn d)

turn-comp : (o : Option Entry) (n s : ℕ) → out_of_turn o (comp-entry n s) ≡ false
unfolding out_of_turn
turn-comp none n s = refl
turn-comp (some d) n s = refl

follows-comp : (o : Option Entry) (n s : ℕ) → follows o (comp-entry n s) ≡ true
unfolding follows
follows-comp none n s = refl
follows-comp (some d) n s = refl

follows-act : (o : Option Entry) (a : ℕ) (k : Kind) → after (last_of o) 1 a ≡ follows o (act-entry a k)
unfolding follows
follows-act none a k = refl
follows-act (some (comp-entry n s)) a k = refl
follows-act (some (act-entry b j)) a k = refl
follows-act (some (clk-entry x b)) a k = refl
follows-act (some (row-entry s g b r t)) a k = refl

follows-clk : (o : Option Entry) (x b : ℕ) → after (last_of o) 2 x ≡ follows o (clk-entry x b)
unfolding follows
follows-clk none x b = refl
follows-clk (some (comp-entry n s)) x b = refl
follows-clk (some (act-entry a k)) x b = refl
follows-clk (some (clk-entry y j)) x b = refl
follows-clk (some (row-entry s g a r t)) x b = refl

follows-row : (o : Option Entry) (s : ℕ) (g : Option ℕ) (a : ℕ) (r : List ℕ) (t : ℕ)
    → cond (eqb (last_of o).turn 3) (key_before (last_of o).key (key_of (row_of s g a r t))) true ≡ follows o (row-entry s g a r t)
unfolding follows key_before
follows-row none s g a r t = refl
follows-row (some (comp-entry n z)) s g a r t = refl
follows-row (some (act-entry b k)) s g a r t = refl
follows-row (some (clk-entry x b)) s g a r t = refl
follows-row (some (row-entry s₀ g₀ a₀ r₀ t₀)) s g a r t = refl

-- in turn, so that there is a component
begun : (k : ℕ) (l : Option Entry) (m : List Comp) → ltb k 4 ≡ true → Begun (record { comps = m; last = l })
    → ltb k (last_of l).turn ≡ false → 1 ≤ length m
begun k none m f b h = let z : ◌≡◌ {A = ℕ} 0 1 = cc in absurd (omega arith)
begun k (some d) m f b h = b.some-comp d refl

-- ---- a line taken in
or_swap : (a b s : ℕ) → ((a ∪ b) ∪ s) ≡ ((a ∪ s) ∪ b)
or_swap a b s = bit-ext ((a ∪ b) ∪ s) ((a ∪ s) ∪ b) (λ x. rw (bit-or (a ∪ b) s x, bit-or a b x, bit-or (a ∪ s) b x, bit-or a s x) (omega arith))

-- one of the four sets has a member more
acts-with : (c : Comp) (a : ℕ) (k : Kind) → (acts c ∪ only a) ≡ acts (with_act c a k)
acts-with c a in-kind = or_swap (c.ins ∪ c.uins) (c.outs ∪ c.uouts) (only a) ∙ ap (λ s. s ∪ (c.outs ∪ c.uouts)) (or_swap c.ins c.uins (only a))
acts-with c a out-kind = or_assoc (c.ins ∪ c.uins) (c.outs ∪ c.uouts) (only a) ∙ ap (λ s. (c.ins ∪ c.uins) ∪ s) (or_swap c.outs c.uouts (only a))
acts-with c a uin-kind = or_swap (c.ins ∪ c.uins) (c.outs ∪ c.uouts) (only a) ∙ ap (λ s. s ∪ (c.outs ∪ c.uouts)) (or_assoc c.ins c.uins (only a))
acts-with c a uout-kind = or_assoc (c.ins ∪ c.uins) (c.outs ∪ c.uouts) (only a) ∙ ap (λ s. (c.ins ∪ c.uins) ∪ s) (or_assoc c.outs c.uouts (only a))

-- a line but `comp` changes the last component only
module _ (c : Comp) (cs : List Comp) where
  act-length : (a : ℕ) (k : Kind) → row_count (with_act c a k ∷ cs) ≡ row_count (c ∷ cs)
  unfolding row_count
  act-length a in-kind = refl
  act-length a out-kind = refl
  act-length a uin-kind = refl
  act-length a uout-kind = refl

  act-states : (a : ℕ) (k : Kind) → (with_act c a k).states ≡ c.states
  act-states a in-kind = refl
  act-states a out-kind = refl
  act-states a uin-kind = refl
  act-states a uout-kind = refl

  act-clocks : (a : ℕ) (k : Kind) → (with_act c a k).clocks ≡ c.clocks
  act-clocks a in-kind = refl
  act-clocks a out-kind = refl
  act-clocks a uin-kind = refl
  act-clocks a uout-kind = refl

  clk-length : (x b : ℕ) → row_count (with_clk c x b ∷ cs) ≡ row_count (c ∷ cs)
  unfolding row_count
  clk-length x b = refl

  row-length : (r : Row) → row_count (with_row c r ∷ cs) ≡ row_count (c ∷ cs) + 1
  unfolding row_count
  row-length r = omega (arith, length-append c.rows (r ∷ []))

-- what the code keeps behind a line, from what it kept before it
abbrev at : List Comp → Option Entry → Progress
at m l = record { comps = m; last = l }

abbrev with_action : CodeProgress → ℕ → CodeProgress
with_action p a =
    record { components = p.components; rows = p.rows; states = p.states; acts = p.acts ∪ only a; clocks = p.clocks; last = last_plain 1 a }

abbrev with_clock : CodeProgress → ℕ → CodeProgress
with_clock p x =
    record { components = p.components; rows = p.rows; states = p.states; acts = p.acts; clocks = p.clocks ∪ only x; last = last_plain 2 x }

abbrev with_key : CodeProgress → Key → CodeProgress
with_key p k = record {
  components = p.components;
  rows = p.rows + 1;
  states = p.states;
  acts = p.acts;
  clocks = p.clocks;
  last = record { turn = 3; number = 0; key = k };
}

abbrev with_comp : CodeProgress → ℕ → CodeProgress
with_comp p n = record { components = p.components + 1; rows = p.rows; states = n; acts = 0; clocks = 0; last = last_plain 0 0 }

act-taken : (m : List Comp) (l : Option Entry) (a : ℕ) (k : Kind) → 1 ≤ length m
    → with_action (standing (at m l)) a ≡ standing (next (at m l) (act-entry a k))
unfolding take_in
act-taken [] l a k h = absurd (omega arith)
act-taken (c ∷ cs) l a k h = rw (act-length c cs a k, act-states c cs a k, act-clocks c cs a k, ← acts-with c a k)

clk-taken : (m : List Comp) (l : Option Entry) (x b : ℕ) → 1 ≤ length m → with_clock (standing (at m l)) x ≡ standing (next (at m l) (clk-entry x b))
unfolding take_in
clk-taken [] l x b h = absurd (omega arith)
clk-taken (c ∷ cs) l x b h = rw (clk-length c cs x b)

row-taken : (m : List Comp) (l : Option Entry) (s : ℕ) (g : Option ℕ) (a : ℕ) (r : List ℕ) (t : ℕ) → 1 ≤ length m
    → with_key (standing (at m l)) (key_of (row_of s g a r t)) ≡ standing (next (at m l) (row-entry s g a r t))
unfolding take_in
row-taken [] l s g a r t h = absurd (omega arith)
row-taken (c ∷ cs) l s g a r t h = rw (row-length c cs (row_of s g a r t))

comp-taken : (m : List Comp) (l : Option Entry) (n s : ℕ) → with_comp (standing (at m l)) n ≡ standing (next (at m l) (comp-entry n s))
unfolding take_in row_count
comp-taken m l n s =
    let e : length m + 1 ≡ suc (length m) = omega arith in
    let f : row_count m ≡ 0 + row_count m = omega arith in
    let z : 0 ≡ acts (new_comp n s) = refl in
    λ i. record { components = e i; rows = f i; states = n; acts = z i; clocks = 0; last = last_plain 0 0 }

-- ---- a row's fields as numbers
guard-below : (g : Option ℕ) → leb (guard_number (guard_is g)) max_clocks ≡ guard_below g
guard-below none = refl
guard-below (some x) = go (ltb x max_clocks) refl
  where
    go : (b : Bool) → ltb x max_clocks ≡ b → leb (cond (ltb x max_clocks) (x + 1) (max_clocks + 1)) max_clocks ≡ ltb x max_clocks
    go true e = rw e (le-leb (x + 1) max_clocks (omega (arith, ltb-true x max_clocks e)))
    go false e = rw e

guard_number_lem : (g : Option ℕ) → guard_below g ≡ true → guard_number (guard_is g) ≡ guard_of g
guard_number_lem none h = refl
guard_number_lem (some x) h = rw (h) (add-one x)

guard-in : (s : ℕ) (g : Option ℕ) → guard_named s (guard_of g) ≡ guard_in s g
unfolding guard_named
guard-in s none = refl
guard-in s (some x) = refl

-- ---- every kind of line
module _ (m : List Comp) (l : Option Entry) where
  comp-is : (n s : ℕ) → numbered (comp_step (standing (at m l)) n s) ≡ judged_of (fault_of (at m l) (comp-entry n s)) (next (at m l) (comp-entry n s))
  unfolding comp_step fault_of out_of_range lacks out_of_order too_many
  comp-is n s =
      rw (turn-comp l n s, follows-comp l n s, comp-taken m l n s)
      (chain-is false (leb 1 n && (leb n max_states && ltb s n)) true true (leb max_components (length m)) (next (at m l) (comp-entry n s)))

  act-is : (a : ℕ) (k : Kind) → Begun (at m l)
      → numbered (act_step (standing (at m l)) a) ≡ judged_of (fault_of (at m l) (act-entry a k)) (next (at m l) (act-entry a k))
  unfolding act_step fault_of out_of_range lacks out_of_order too_many
  act-is a k b =
      let e : after (last_of l) 1 a ≡ (follows l (act-entry a k) && true) = follows-act l a k ∙ sym (and_one (follows l (act-entry a k))) in
      ap numbered (chain_same (ltb 1 (last_of l).turn) (ltb a max_actions) true (after (last_of l) 1 a) false true (after (last_of l) 1 a)
      (Ok (standing (next (at m l) (act-entry a k)))) (Ok (with_action (standing (at m l)) a))
      (λ _. refl) (λ _. refl) (λ h _. ap (λ x. Ok x) (act-taken m l a k (begun 1 l m refl b h))))
      ∙ rw (e, turn-act l a k) (chain-is (out_of_turn l (act-entry a k)) (ltb a max_actions) true (follows l (act-entry a k) && true) false
      (next (at m l) (act-entry a k)))

  clk-is : (x b : ℕ) → Begun (at m l)
      → numbered (clk_step (standing (at m l)) x b) ≡ judged_of (fault_of (at m l) (clk-entry x b)) (next (at m l) (clk-entry x b))
  unfolding clk_step fault_of out_of_range lacks out_of_order too_many
  clk-is x b g =
      let e : after (last_of l) 2 x ≡ (follows l (clk-entry x b) && true) = follows-clk l x b ∙ sym (and_one (follows l (clk-entry x b))) in
      let r : Bool = ltb x max_clocks && leb b 1 in
      ap numbered (chain_same (ltb 2 (last_of l).turn) r true (after (last_of l) 2 x) false true (after (last_of l) 2 x)
      (Ok (standing (next (at m l) (clk-entry x b)))) (Ok (with_clock (standing (at m l)) x))
      (λ _. refl) (λ _. refl) (λ h _. ap (λ x. Ok x) (clk-taken m l x b (begun 2 l m refl g h))))
      ∙ rw (e, turn-clk l x b) (chain-is (out_of_turn l (clk-entry x b)) r true (follows l (clk-entry x b) && true) false (next (at m l) (clk-entry x b)))

  module _ (s : ℕ) (g : Option ℕ) (a : ℕ) (r : List ℕ) (t : ℕ) where
    abbrev e : Entry
    e = row-entry s g a r t

    -- the key as the code has it
    abbrev key : Key
    key = record { from = s; action = a; guard = guard_number (guard_is g); resets = (summary r).set; target = t }

    abbrev n : ℕ
    n = (current (at m l)).states

    abbrev k : ℕ
    k = (current (at m l)).clocks

    abbrev ranged : Bool
    ranged = ltb s n && (guard_below g && (ltb a max_actions && (all_below max_clocks r && ltb t n)))

    abbrev ordered : Key → Bool
    ordered q = cond (eqb (last_of l).turn 3) (key_before (last_of l).key q) true && (summary r).ascend

    range-is : in_range n key (summary r).clocks ≡ ranged
    unfolding in_range
    range-is = rw (guard-below g, summary-clocks r)

    key-is : ranged ≡ true → key ≡ key_of (row_of s g a r t)
    key-is h =
        let p = and-true (ltb s n) (guard_below g && (ltb a max_actions && (all_below max_clocks r && ltb t n))) h in
        let q = and-true (guard_below g) (ltb a max_actions && (all_below max_clocks r && ltb t n)) p.1 in
        let u = and-true (ltb a max_actions) (all_below max_clocks r && ltb t n) q.1 in
        let v = and-true (all_below max_clocks r) (ltb t n) u.1 in
        rw (guard_number_lem g q.0, summary-set r v.0)

    named-is : ranged ≡ true → named (standing (at m l)) key ≡ (guard_in k g && (has (acts (current (at m l))) a && all_in k r))
    unfolding named
    named-is h = ap (named (standing (at m l))) (key-is h) ∙ rw (guard-in k g, within_all k r)

    order_is : ranged ≡ true → ordered key ≡ (follows l e && ascending r)
    order_is h = rw (key-is h, follows-row l s g a r t, summary-ascend r)

    row_is : Begun (at m l)
        → numbered (row_step (standing (at m l)) key (summary r).clocks (summary r).ascend) ≡ judged_of (fault_of (at m l) e) (next (at m l) e)
    unfolding row_step fault_of out_of_range lacks out_of_order too_many
    row_is b =
        rw range-is
        (ap numbered (chain_same (ltb 3 (last_of l).turn) ranged (guard_in k g && (has (acts (current (at m l))) a && all_in k r))
        (follows l e && ascending r)
        (leb max_rows (row_count m))
        (named (standing (at m l)) key) (ordered key)
        (Ok (standing (next (at m l) e))) (Ok (with_key (standing (at m l)) key))
        named-is order_is
        (λ h c. ap (λ q. Ok (with_key (standing (at m l)) q)) (key-is c) ∙ ap (λ x. Ok x) (row-taken m l s g a r t (begun 3 l m refl b h))))
        ∙ rw (turn-row l s g a r t)
        (chain-is (out_of_turn l e) ranged (guard_in k g && (has (acts (current (at m l))) a && all_in k r)) (follows l e && ascending r)
        (leb max_rows (row_count m)) (next (at m l) e)))

-- judging a line by what the code keeps is judging it by the definition
pub step_is : (q : Progress) (e : Entry) → Begun q → numbered (step_of (standing q) (line_of e)) ≡ judged_of (fault_of q e) (next q e)
step_is q (comp-entry n s) b = comp-is q.comps q.last n s
step_is q (act-entry a k) b = act-is q.comps q.last a k b
step_is q (clk-entry x c) b = clk-is q.comps q.last x c b
step_is q (row-entry s g a r t) b = row_is q.comps q.last s g a r t b
