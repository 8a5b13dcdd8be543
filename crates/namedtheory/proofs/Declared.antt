-- Every action that a line of a model names is declared by an `act` line.
use mathlib.Core.Path.{◌≡◌, refl, sym, ◌∙◌}
use mathlib.Core.Logic.{⊎_elim}
use mathlib.Core.Bool.{Bool, true, false, cond}
use mathlib.Core.List.Memᴰ.{head as here}
use mathlib.Core.List.Memᴰ.{tail as there}
use mathlib.Core.List.{List, [], ◌∷◌, ◌++◌, Memᴰ as In}
use mathlib.Core.List.Memᴰ.{append_cases}
use mathlib.Core.List.Memᴰ.{append_left as in_left}
use mathlib.Core.List.Memᴰ.{not-nil as in-none}
use Prim.Native.Nat.{ℕ, ◌<◌}
use native.Mathlib.Omega.{arith}
use Rattle.laws.specs.Sets.{has, ◌∈◌}
use Rattle.laws.specs.Fold.{spread}
use Rattle.laws.proofs.SetLaws.{or-in-l, or-in-r, in-or, in_one, one_in, none_in}
use Rattle.laws.proofs.ListLaws.{in-spread, spread-in, All, at_all}
use Rattle.answer.specs.Limits.{max_actions, max_clocks}
use Rattle.model.specs.Model.{Row, Comp, Model, no_row, acts}
use Rattle.model.specs.Text.{kind_of}
use Rattle.model.specs.WellFormed.{WellRow, WellComp}
use Rattle.model.specs.Reading.{Entry, comp-entry, act-entry, clk-entry, row-entry}
use Rattle.named.specs.NamedText.{act_part, clk_part, row_entries, comp_entries, entries_of, declared_by, declared_in}
use Rattle.named.proofs.Entries.{act-below}

-- the action that a line names, if it names one
abbrev pub Names' : Entry → ℕ → Type 0
Names' (comp-entry n s) a = ⊥
Names' (act-entry b k) a = b ≡ a
Names' (clk-entry x b) a = ⊥
Names' (row-entry s g b r t) a = b ≡ a

declares : (e : Entry) (es : List Entry) → In e es → (a : ℕ) → a ∈ declared_by e → a ∈ declared_in es
unfolding declared_in
declares e (d ∷ es) (here q) a h = or-in-l (declared_by d) (declared_in es) a (rw (← q) h)
declares e (d ∷ es) (there m) a h = or-in-r (declared_by d) (declared_in es) a (declares e es m a h)
declares e [] m a h = elim m [ ]

-- an action of a component has its `act` line
act-there : (c : Comp) (a : ℕ) → a ∈ acts c → a < max_actions → In (act-entry a (kind_of c a)) (comp_entries c)
unfolding comp_entries
act-there c a m l =
    there (in_left (row_entries c.rows)
    (in_left (spread (clk_part c) 0 max_clocks) (in-spread (act_part c) 0 max_actions a (omega arith) (omega arith) (rw m (here refl)))))

in_rows : (c : Comp) (rs : List Row) → All (WellRow c) rs → (e : Entry) → In e (row_entries rs) → (a : ℕ) → Names' e a → a ∈ acts c
unfolding row_entries
in_rows c [] h e m a n = absurd (in-none m)
in_rows c (r ∷ rs) h (comp-entry x s) (here q) a n = absurd n
in_rows c (r ∷ rs) h (act-entry x s) (here q) a n = let z : ◌≡◌ {A = ℕ} 0 1 = cc in absurd (omega arith)
in_rows c (r ∷ rs) h (clk-entry x s) (here q) a n = absurd n
in_rows c (r ∷ rs) h (row-entry s g b x t) (here q) a n = let z : b ≡ r.action = cc in rw (← n) (rw z h.0.action)
in_rows c (r ∷ rs) h e (there m) a n = in_rows c rs h.1 e m a n

in-acts : (c : Comp) (j : ℕ) (e : Entry) → In e (act_part c j) → (a : ℕ) → Names' e a → a ∈ acts c
in-acts c j e m a n = go (has (acts c) j) refl m
  where
    one : (e : Entry) → In e (act-entry j (kind_of c j) ∷ []) → Names' e a → j ≡ a
    one (comp-entry x s) m n = absurd n
    one (act-entry x s) (here q) n = let z : x ≡ j = cc in sym z ∙ n
    one (act-entry x s) (there m) n = absurd (in-none m)
    one (clk-entry x s) m n = absurd n
    one (row-entry s g b x t) (here q) n = let z : ◌≡◌ {A = ℕ} 0 1 = cc in absurd (omega arith)
    one (row-entry s g b x t) (there m) n = absurd (in-none m)

    go : (b : Bool) → has (acts c) j ≡ b → In e (cond b (act-entry j (kind_of c j) ∷ []) []) → a ∈ acts c
    go true h m = rw (← (one e m n)) h
    go false h m = absurd (in-none m)

in-clks : (c : Comp) (j : ℕ) (e : Entry) → In e (clk_part c j) → (a : ℕ) → Names' e a → ⊥
in-clks c j e m a n = go (has c.clocks j) m
  where
    one : (v : ℕ) (e : Entry) → In e (clk-entry j v ∷ []) → Names' e a → ⊥
    one v (comp-entry x s) m n = n
    one v (act-entry x s) (here q) n = let z : ◌≡◌ {A = ℕ} 0 1 = cc in omega arith
    one v (act-entry x s) (there m) n = in-none m
    one v (clk-entry x s) m n = n
    one v (row-entry s g b x t) (here q) n = let z : ◌≡◌ {A = ℕ} 0 1 = cc in omega arith
    one v (row-entry s g b x t) (there m) n = in-none m

    go : (b : Bool) → In e (cond b (clk-entry j (cond (has c.started j) 1 0) ∷ []) []) → ⊥
    go true m = one (cond (has c.started j) 1 0) e m n
    go false m = in-none m

no-comp : (e : Entry) (x s a : ℕ) → e ≡ comp-entry x s → Names' e a → ⊥
no-comp (comp-entry y z) x s a q n = n
no-comp (act-entry y k) x s a q n = let z : ◌≡◌ {A = ℕ} 0 1 = cc in omega arith
no-comp (clk-entry y b) x s a q n = n
no-comp (row-entry y g b r t) x s a q n = let z : ◌≡◌ {A = ℕ} 0 1 = cc in omega arith

in-comp : (c : Comp) → WellComp c → (e : Entry) → In e (comp_entries c) → (a : ℕ) → Names' e a → a ∈ acts c
unfolding comp_entries
in-comp c w e (here q) a n = absurd (no-comp e c.states c.start a q n)
in-comp c w e (there m) a n =
    ⊎_elim (λ m. ⊎_elim
    (λ m. let j = spread-in (act_part c) 0 max_actions m in in-acts c j.0 e j.3 a n)
    (λ m. let j = spread-in (clk_part c) 0 max_clocks m in absurd (in-clks c j.0 e j.3 a n)) (append_cases (spread (act_part c) 0 max_actions) m))
    (λ m. in_rows c c.rows (at_all (WellRow c) no_row c.rows w.rows) e m a n)
    (append_cases (spread (act_part c) 0 max_actions ++ spread (clk_part c) 0 max_clocks) m)

later : (xs ys : List Entry) (a : ℕ) → a ∈ declared_in ys → a ∈ declared_in (xs ++ ys)
unfolding declared_in
later [] ys a h = h
later (x ∷ xs) ys a h = or-in-r (declared_by x) (declared_in (xs ++ ys)) a (later xs ys a h)

pub named-declared : (m : Model) → All WellComp m → (e : Entry) → In e (entries_of m) → (a : ℕ) → Names' e a → a ∈ declared_in (entries_of m)
unfolding entries_of
named-declared [] h e i a n = absurd (in-none i)
named-declared (c ∷ cs) h e i a n =
    ⊎_elim
    (λ i. let k = in-comp c h.0 e i a n in
    declares (act-entry a (kind_of c a)) (comp_entries c ++ entries_of cs) (in_left (entries_of cs) (act-there c a k (act-below c h.0 a k))) a (in_one a))
    (λ i. later (comp_entries c) (entries_of cs) a (named-declared cs h.1 e i a n)) (append_cases (comp_entries c) i)

-- ---- an action that is declared is below 64
named_small : (m : Model) → All WellComp m → (e : Entry) → In e (entries_of m) → (a : ℕ) → Names' e a → a < max_actions
unfolding entries_of
named_small [] h e i a n = absurd (in-none i)
named_small (c ∷ cs) h e i a n =
    ⊎_elim (λ i. act-below c h.0 a (in-comp c h.0 e i a n)) (λ i. named_small cs h.1 e i a n) (append_cases (comp_entries c) i)

small-in : (es : List Entry) → ((e : Entry) → In e es → (a : ℕ) → Names' e a → a < max_actions) → (a : ℕ) → a ∈ declared_in es → a < max_actions
unfolding declared_in
small-in [] h a m = absurd (none_in a m)
small-in (e ∷ es) h a m = ⊎_elim (one e (λ n. h e (here refl) a n)) (small-in es (λ d i. h d (there i)) a) (in-or (declared_by e) (declared_in es) a m)
  where
    one : (e : Entry) → (Names' e a → a < max_actions) → a ∈ declared_by e → a < max_actions
    one (comp-entry n s) k z = absurd (none_in a z)
    one (act-entry b j) k z = k (sym (one_in b a z))
    one (clk-entry x b) k z = absurd (none_in a z)
    one (row-entry s g b r t) k z = absurd (none_in a z)

pub declared-below : (m : Model) → All WellComp m → (a : ℕ) → a ∈ declared_in (entries_of m) → a < max_actions
declared-below m h a i = small-in (entries_of m) (named_small m h) a i
