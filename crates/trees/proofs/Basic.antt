-- A basic element is sound.
use mathlib.Core.Path.{◌≡◌, refl, sym, ◌∙◌, ap}
use mathlib.Core.Logic.{◌⊎◌, inl, inr, ⊎_elim}
use mathlib.Core.Option.{Option, none, some, some_inj}
use mathlib.Core.Bool.{Bool, true, false, false≢true, true≢false, cond}
use mathlib.Core.List.Memᴰ.{append_left as in_left}
use mathlib.Core.List.Memᴰ.{head as here}
use mathlib.Core.List.Memᴰ.{tail as there}
use mathlib.Core.List.{List, [], ◌∷◌, ◌++◌, Memᴰ as In}
use Prim.Native.Nat.{ℕ, suc, ◌+◌, ◌*◌, ◌/◌, ◌%◌, ◌≤◌, ◌<◌}
use native.Mathlib.Omega.{arith}
use lib.Bits.{or_lt}
use lib.Pow.{pow-lt}
use lib.Dec.{eqb}
use lib.ListN.{length}
use borrow.Author.Tests.{eqb-true, eq-eqb}
use Rattle.laws.specs.Sets.{has, ◌∪◌, ◌∖◌, only, ◌∈◌, ◌⊆◌}
use Rattle.laws.specs.Search.{when, map_some}
use Rattle.laws.proofs.SearchLaws.{no-some}
use Rattle.laws.proofs.SetLaws.{or-in-l, or-in-r, in_one, one_in, none_in, without_in}
use Rattle.laws.proofs.TestLaws.{not_so}
use Rattle.answer.specs.Limits.{max_actions, max_clocks}
use Rattle.model.specs.Model.{guard_set}
use Rattle.trees.specs.Module.{Move, is_in, is_out, is_uin, Sound}
use Rattle.trees.specs.Tree.{be-sort, Element, Tree, Signal, fl, up, f, u, r, Meaning, boxed, signals_of, meanings, meaning_of}
use Rattle.trees.specs.Modules.{plain_move, be_state, be_kind, be_move, be_role, of_meaning, bound, be_module}
use Rattle.trees.proofs.Numbers.{Ascends, one_number, has-number}

-- the clocks that the value of broken waits for
abbrev awaited : ℕ → ℕ → ℕ
awaited k broken = cond (eqb broken 0) (only (2 * k)) (cond (eqb broken 2) (only (2 * k + 1)) 0)

-- ---- the moves of a signal
record Deed (k signal broken : ℕ) (x : Signal) (v : Move) : Type 0 where
  below : signal < 3 → broken < 3 → v.target < 9
  resets : v.resets ⊆ only (2 * k) ∪ only (2 * k + 1)
  plain : is_out (some (be_kind x)) ≡ false → v.guard ≡ 0
  clocked : is_out (some (be_kind x)) ≡ true → (y : ℕ) × (v.guard ≡ suc y) × (y ∈ only (2 * k) ∪ only (2 * k + 1))
  waited : (y : ℕ) → v.guard ≡ suc y → y ∈ awaited k broken
  kept : signal < 3 → broken < 3 → awaited k (v.target % 3) ⊆ awaited k broken ∖ guard_set v.guard ∪ v.resets

pub when-some : {A : Type 0} (b : Bool) (x : A) {y : A} → when b x ≡ some y → (b ≡ true) × (x ≡ y)
when-some true x e = (refl, some_inj.0 e)
when-some false x e = absurd (no-some refl e)

-- with neither guard nor resets the same clocks are kept
all-kept : (s : ℕ) → s ⊆ s ∖ 0 ∪ 0
all-kept s x h = or-in-l (s ∖ 0) 0 x (without_in s 0 x h (not_so (has 0 x) (none_in x)))

rest_of : (s b : ℕ) → b < 3 → (s * 3 + b) % 3 ≡ b
rest_of s b h = omega arith

module _ (k signal broken : ℕ) where
  -- a move with no clock to a state with the same value of broken
  still : (x : Signal) (t : ℕ) → is_out (some (be_kind x)) ≡ false → (signal < 3 → broken < 3 → t < 9) → (signal < 3 → broken < 3 → t % 3 ≡ broken)
      → Deed k signal broken x (plain_move t)
  still x t c b h = record {
    below = b;
    resets = λ y i. absurd (none_in y i);
    plain = λ e. refl;
    clocked = λ e. absurd (false≢true (sym c ∙ e));
    waited = λ y e. absurd (omega (arith, e));
    kept = λ p q. let w = h p q in rw w (all-kept (awaited k broken));
  }

  fails : broken ≡ 0 → Deed k signal broken fl (record { guard = suc (2 * k); resets = 0; target = be_state 1 1 })
  fails z = record {
    below = λ p q. omega arith;
    resets = λ y i. absurd (none_in y i);
    plain = λ e. absurd (true≢false e);
    clocked = λ e. (2 * k, refl, or-in-l (only (2 * k)) (only (2 * k + 1)) (2 * k) (in_one (2 * k)));
    waited = λ y e. let w : 2 * k ≡ y = omega (arith, e) in rw (z, ← w) (in_one (2 * k));
    kept = λ p q y i. absurd (none_in y i);
  }

  mended : broken ≡ 2 → Deed k signal broken up (record { guard = suc (2 * k + 1); resets = only (2 * k); target = be_state 2 0 })
  mended z = record {
    below = λ p q. omega arith;
    resets = λ y i. or-in-l (only (2 * k)) (only (2 * k + 1)) y i;
    plain = λ e. absurd (true≢false e);
    clocked = λ e. (2 * k + 1, refl, or-in-r (only (2 * k)) (only (2 * k + 1)) (2 * k + 1) (in_one (2 * k + 1)));
    waited = λ y e. let w : 2 * k + 1 ≡ y = omega (arith, e) in rw (z, ← w) (in_one (2 * k + 1));
    kept = λ p q y i. or-in-r (awaited k broken ∖ only (2 * k + 1)) (only (2 * k)) y i;
  }

  begins : Deed k signal broken r (record { guard = 0; resets = only (2 * k + 1); target = be_state signal 2 })
  begins = record {
    below = λ p q. omega arith;
    resets = λ y i. or-in-r (only (2 * k)) (only (2 * k + 1)) y i;
    plain = λ e. refl;
    clocked = λ e. absurd (false≢true e);
    waited = λ y e. absurd (omega (arith, e));
    kept = λ p q y i. let w = rest_of signal 2 (omega arith) in or-in-r (awaited k broken ∖ 0) (only (2 * k + 1)) y (rw w at i);
  }

  deed : (x : Signal) (v : Move) → be_move k signal broken x ≡ some v → Deed k signal broken x v
  deed fl v e = let p = when-some (eqb broken 0) _ e in rw (← p.1) (fails (eqb-true broken 0 p.0))
  deed up v e = let p = when-some (eqb broken 2) _ e in rw (← p.1) (mended (eqb-true broken 2 p.0))
  deed f v e = let p = when-some (eqb signal 1) _ e in rw (← p.1) (still f (be_state 0 broken) refl (λ a b. omega arith) (λ a b. rest_of 0 broken b))
  deed u v e = let p = when-some (eqb signal 2) _ e in rw (← p.1) (still u (be_state 0 broken) refl (λ a b. omega arith) (λ a b. rest_of 0 broken b))
  deed r v e = go (eqb broken 1) (some_inj.0 e)
    where
      go : (b : Bool) → cond b (record { guard = 0; resets = only (2 * k + 1); target = be_state signal 2 }) (plain_move (be_state signal broken)) ≡ v
          → Deed k signal broken r v
      go true w = rw (← w) begins
      go false w = rw (← w) (still r (be_state signal broken) refl (λ a b. omega arith) (λ a b. rest_of signal broken b))

-- ---- the module's moves
module _ (t : Tree) (k : ℕ) (e : Element) where
  -- action a is signal x of this element, and leads so
  record Acts (s a : ℕ) (v : Move) : Type 0 where
    x : Signal
    is-role : of_meaning (be_role e) (meaning_of t a) ≡ some x
    is_move : be_move k (s / 3) (s % 3) x ≡ some v

  acts : (s a : ℕ) {v : Move} → (be_module t k e).move s a ≡ some v → Acts s a v
  unfolding be_module
  acts s a {v} h = go (of_meaning (be_role e) (meaning_of t a)) refl h
    where
      go : (o : Option Signal) → of_meaning (be_role e) (meaning_of t a) ≡ o → bound o (be_move k (s / 3) (s % 3)) ≡ some v → Acts s a v
      go none i h = absurd (no-some refl h)
      go (some x) i h = record { x = x; is-role = i; is_move = h }

  kind-of : (a : ℕ) (x : Signal) → of_meaning (be_role e) (meaning_of t a) ≡ some x → (be_module t k e).kind a ≡ some (be_kind x)
  unfolding be_module
  kind-of a x h = rw h

  -- a role is a meaning of this element
  role-meaning : (a : ℕ) (x : Signal) → of_meaning (be_role e) (meaning_of t a) ≡ some x → (y : Meaning) × (meaning_of t a ≡ some y) × (y.of ≡ e.number)
      × (y.signal ≡ x)
  unfolding be_role
  role-meaning a x h = go (meaning_of t a) refl h
    where
      go : (o : Option Meaning) → meaning_of t a ≡ o → of_meaning (λ y. when (eqb y.of e.number) y.signal) o ≡ some x
          → (y : Meaning) × (meaning_of t a ≡ some y) × (y.of ≡ e.number) × (y.signal ≡ x)
      go none i h = absurd (no-some refl h)
      go (some y) i h = let p = when-some (eqb y.of e.number) y.signal h in (y, i, eqb-true y.of e.number p.0, p.1)

  meaning-role : (a : ℕ) (x : Signal) → meaning_of t a ≡ some (record { of = e.number; signal = x }) → of_meaning (be_role e) (meaning_of t a) ≡ some x
  unfolding be_role
  meaning-role a x h = rw (h, eq-eqb e.number e.number refl)

  -- an action that is heard
  heard : (a s : ℕ) → is_uin ((be_module t k e).kind a) ≡ true → (v : Move) × ((be_module t k e).move s a ≡ some v)
  unfolding be_module
  heard a s h = go (of_meaning (be_role e) (meaning_of t a)) h
    where
      go : (o : Option Signal) → is_uin (map_some be_kind o) ≡ true → (v : Move) × (bound o (be_move k (s / 3) (s % 3)) ≡ some v)
      go none h = absurd (false≢true h)
      go (some fl) h = absurd (false≢true h)
      go (some up) h = absurd (false≢true h)
      go (some f) h = absurd (false≢true h)
      go (some u) h = absurd (false≢true h)
      go (some r) h = (_, refl)

  never-in : (a : ℕ) → is_in ((be_module t k e).kind a) ≡ true → ⊥
  unfolding be_module
  never-in a h = go (of_meaning (be_role e) (meaning_of t a)) h
    where
      go : (o : Option Signal) → is_in (map_some be_kind o) ≡ true → ⊥
      go none h = false≢true h
      go (some fl) h = false≢true h
      go (some up) h = false≢true h
      go (some f) h = false≢true h
      go (some u) h = false≢true h
      go (some r) h = false≢true h

-- the clock tells the signal
clock-of : (k signal broken : ℕ) (x : Signal) (v : Move) (c : ℕ) → be_move k signal broken x ≡ some v → v.guard ≡ suc c
    → ((x ≡ fl) × (c ≡ 2 * k)) ⊎ ((x ≡ up) × (c ≡ 2 * k + 1))
clock-of k signal broken fl v c e g = let p = when-some (eqb broken 0) _ e in inl (refl, omega (arith, g, ap (λ w. w.guard) p.1))
clock-of k signal broken up v c e g = let p = when-some (eqb broken 2) _ e in inr (refl, omega (arith, g, ap (λ w. w.guard) p.1))
clock-of k signal broken f v c e g = let p = when-some (eqb signal 1) _ e in absurd (omega (arith, g, ap (λ w. w.guard) p.1))
clock-of k signal broken u v c e g = let p = when-some (eqb signal 2) _ e in absurd (omega (arith, g, ap (λ w. w.guard) p.1))
clock-of k signal broken r v c e g = absurd (omega (arith, g, (deed k signal broken r v e).plain refl))

clock-tells : (k signal broken : ℕ) (x y : Signal) (v w : Move) (c : ℕ) → be_move k signal broken x ≡ some v → be_move k signal broken y ≡ some w
    → v.guard ≡ suc c → w.guard ≡ suc c → x ≡ y
clock-tells k signal broken x y v w c e h g l =
    ⊎_elim
    (λ p. ⊎_elim (λ q. p.0 ∙ sym q.0) (λ q. absurd (omega (arith, p.1, q.1))) (clock-of k signal broken y w c h l))
    (λ p. ⊎_elim (λ q. absurd (omega (arith, p.1, q.1))) (λ q. p.0 ∙ sym q.0) (clock-of k signal broken y w c h l))
    (clock-of k signal broken x v c e g)

own-clocks : (k broken : ℕ) → awaited k broken ⊆ only (2 * k) ∪ only (2 * k + 1)
own-clocks k broken x h = go (eqb broken 0) (eqb broken 2) h
  where
    go : (b c : Bool) → x ∈ cond b (only (2 * k)) (cond c (only (2 * k + 1)) 0) → x ∈ only (2 * k) ∪ only (2 * k + 1)
    go true c h = or-in-l (only (2 * k)) (only (2 * k + 1)) x h
    go false true h = or-in-r (only (2 * k)) (only (2 * k + 1)) x h
    go false false h = absurd (none_in x h)

module _ (t : Tree) (k : ℕ) (e : Element) (asc : Ascends t) (listed : In e t) (is-be : e.sort ≡ be-sort) (few : length (meanings t) ≤ max_actions)
    (clocks : 2 * k + 1 < max_clocks) where
  numbered : (x : Signal) → In x (fl ∷ up ∷ f ∷ u ∷ []) → (a : ℕ) × (a < max_actions) × (of_meaning (be_role e) (meaning_of t a) ≡ some x)
  numbered x m = let p = has-number t e x listed (among-signals (boxed t e.number)) in (p.0, omega (arith, p.1), meaning-role t k e p.0 x p.2)
    where
      more : (xs : List Signal) → In x xs → In x (xs ++ (r ∷ []))
      more xs m = in_left {s = xs} (r ∷ []) m

      among-signals : (b : Bool) → In x (signals_of e.sort b)
      among-signals true = rw is-be (more (fl ∷ up ∷ f ∷ u ∷ []) m)
      among-signals false = rw is-be m

  waiting : (s x : ℕ) → x ∈ awaited k (s % 3) → (a : ℕ) × (v : Move) × (a < max_actions) × (is_out ((be_module t k e).kind a) ≡ true)
      × ((be_module t k e).move s a ≡ some v) × (v.guard ≡ suc x)
  unfolding be_module
  waiting s x i = go (eqb (s % 3) 0) (eqb (s % 3) 2) refl refl i
    where
      go : (b c : Bool) → eqb (s % 3) 0 ≡ b → eqb (s % 3) 2 ≡ c → x ∈ cond b (only (2 * k)) (cond c (only (2 * k + 1)) 0)
          → (a : ℕ) × (v : Move) × (a < max_actions) × (is_out ((be_module t k e).kind a) ≡ true) × ((be_module t k e).move s a ≡ some v) × (v.guard ≡ suc x)
      go true c p q i =
          let n = numbered fl (here refl) in
          (n.0, record { guard = suc (2 * k); resets = 0; target = be_state 1 1 }, n.1, rw n.2, rw (n.2, p), ap suc (sym (one_in (2 * k) x i)))
      go false true p q i =
          let n = numbered up (there (here refl)) in (
            n.0,
            record { guard = suc (2 * k + 1); resets = only (2 * k); target = be_state 2 0 },
            n.1,
            rw n.2,
            rw (n.2, q),
            ap suc (sym (one_in (2 * k + 1) x i)),
          )
      go false false p q i = absurd (none_in x i)

  pub be-is-sound : Sound (be_module t k e)
  unfolding be_module
  be-is-sound = record {
    some-state = omega arith;
    few = omega arith;
    clocks-below =
        or_lt max_clocks (only (2 * k)) (only (2 * k + 1)) (pow-lt {i = 2 * k} {j = max_clocks} (omega arith))
        (pow-lt {i = 2 * k + 1} {j = max_clocks} clocks);
    started-own = λ x h. or-in-l (only (2 * k)) (only (2 * k + 1)) x h;
    target_below = λ {s} {a} {v} h m. let p = acts t k e s a m in (deed k (s / 3) (s % 3) p.x v p.is_move).below (omega arith) (omega arith);
    resets-own = λ {s} {a} {v} h m. let p = acts t k e s a m in (deed k (s / 3) (s % 3) p.x v p.is_move).resets;
    plain =
        λ {s} {a} {v} h c m. let p = acts t k e s a m in (deed k (s / 3) (s % 3) p.x v p.is_move).plain
        (sym (ap is_out (kind-of t k e a p.x p.is-role)) ∙ c);
    clocked =
        λ {s} {a} {v} h c m. let p = acts t k e s a m in (deed k (s / 3) (s % 3) p.x v p.is_move).clocked
        (sym (ap is_out (kind-of t k e a p.x p.is-role)) ∙ c);
    one-clock = λ {s} {a} {b} {x} {v} {w} h m n g l.
        let p = acts t k e s a m in
        let q = acts t k e s b n in
        let y = role-meaning t k e a p.x p.is-role in
        let z = role-meaning t k e b q.x q.is-role in
        one_number t asc a b y.1 z.1 (y.2 ∙ sym z.2) (y.3 ∙ clock-tells k (s / 3) (s % 3) p.x q.x v w x p.is_move q.is_move g l
        ∙ sym z.3);
    hears = λ {s} {a} h c. absurd (never-in t k e a c);
    hears-urgent = λ {s} {a} h c. heard t k e a s c;
    waits = λ s. awaited k (s % 3);
    own = λ s. own-clocks k (s % 3);
    first = λ x h. h;
    waited = λ {s} {a} {x} {v} h m. let p = acts t k e s a m in (deed k (s / 3) (s % 3) p.x v p.is_move).waited x;
    no_more = λ {s} {x} h i. waiting s x i;
    kept = λ {s} {a} {v} h m. let p = acts t k e s a m in (deed k (s / 3) (s % 3) p.x v p.is_move).kept (omega arith) (omega arith);
  }
