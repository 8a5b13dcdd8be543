-- A module with no clock is sound where its moves stay among its states and every input has one.
use mathlib.Core.Path.{◌≡◌, refl, sym, ◌∙◌, ap}
use mathlib.Core.Option.{Option, none, some, some_inj}
use mathlib.Core.Bool.{Bool, true, false, false≢true}
use Prim.Native.Nat.{ℕ, ◌≤◌, ◌<◌}
use native.Mathlib.Omega.{arith}
use Rattle.laws.specs.Search.{map_some}
use Rattle.laws.proofs.SearchLaws.{no-some}
use Rattle.laws.proofs.SetLaws.{none_in}
use Rattle.answer.specs.Limits.{max_states}
use Rattle.model.specs.Text.{Kind}
use Rattle.trees.specs.Module.{Move, is_in, is_out, is_uin, Sound}
use Rattle.trees.specs.Modules.{plain_move, bound, clockless}

-- the move of a role
module _ {A : Type 0} (n : ℕ) (role : ℕ → Option A) (kind_of : A → Kind) (to : ℕ → A → Option ℕ) where
  -- by role x, to t
  record Moves (s a : ℕ) (v : Move) : Type 0 where
    x : A
    t : ℕ
    is-role : role a ≡ some x
    is-to : to s x ≡ some t
    is_move : v ≡ plain_move t

  moves : (s a : ℕ) {v : Move} → (clockless n role kind_of to).move s a ≡ some v → Moves s a v
  unfolding clockless
  moves s a {v} e = go (role a) refl e
    where
      at-role : (x : A) → role a ≡ some x → (o : Option ℕ) → to s x ≡ o → map_some plain_move o ≡ some v → Moves s a v
      at-role x h none k e = absurd (no-some refl e)
      at-role x h (some t) k e = record { x = x; t = t; is-role = h; is-to = k; is_move = sym (some_inj.0 e) }

      go : (o : Option A) → role a ≡ o → bound o (λ x. map_some plain_move (to s x)) ≡ some v → Moves s a v
      go none h e = absurd (no-some refl e)
      go (some x) h e = at-role x h (to s x) refl e

  -- an input's role, and its move
  input-moves : (g : Option Kind → Bool) → g none ≡ false → (s a : ℕ) → ((x : A) → g (some (kind_of x)) ≡ true → (t : ℕ) × (to s x ≡ some t))
      → g ((clockless n role kind_of to).kind a) ≡ true → (v : Move) × ((clockless n role kind_of to).move s a ≡ some v)
  unfolding clockless
  input-moves g z s a h e = go (role a) e
    where
      go : (o : Option A) → g (map_some kind_of o) ≡ true → (v : Move) × (bound o (λ x. map_some plain_move (to s x)) ≡ some v)
      go none e = absurd (false≢true (sym z ∙ e))
      go (some x) e = let p = h x e in (plain_move p.0, ap (map_some plain_move) p.1)

  no-out : ((x : A) → is_out (some (kind_of x)) ≡ false) → (a : ℕ) → is_out ((clockless n role kind_of to).kind a) ≡ true → ⊥
  unfolding clockless
  no-out h a e = go (role a) e
    where
      go : (o : Option A) → is_out (map_some kind_of o) ≡ true → ⊥
      go none e = false≢true e
      go (some x) e = false≢true (sym (h x) ∙ e)

  pub clockless-is-sound : 1 ≤ n → n ≤ max_states
      → ((x : A) → is_out (some (kind_of x)) ≡ false)
      → ((s a t : ℕ) (x : A) → s < n → role a ≡ some x → to s x ≡ some t → t < n)
      → ((s : ℕ) (x : A) → s < n → is_in (some (kind_of x)) ≡ true → (t : ℕ) × (to s x ≡ some t))
      → ((s : ℕ) (x : A) → s < n → is_uin (some (kind_of x)) ≡ true → (t : ℕ) × (to s x ≡ some t))
      → Sound (clockless n role kind_of to)
  unfolding clockless
  clockless-is-sound one few out below ins uins = record {
    some-state = one;
    few = few;
    clocks-below = omega arith;
    started-own = λ x h. h;
    target_below = λ {s} {a} h e. let p = moves s a e in rw p.is_move (below s a p.t p.x h p.is-role p.is-to);
    resets-own = λ {s} {a} h e x i. let p = moves s a e in absurd (none_in x (rw p.is_move at i));
    plain = λ {s} {a} h k e. let p = moves s a e in ap (λ v. v.guard) p.is_move;
    clocked = λ {s} {a} h k e. absurd (no-out out a k);
    one-clock = λ {s} {a} {b} {x} h e f g k. let p = moves s a e in absurd (omega (arith, g, ap (λ v. v.guard) p.is_move));
    hears = λ {s} {a} h k. input-moves is_in refl s a (λ x. ins s x h) k;
    hears-urgent = λ {s} {a} h k. input-moves is_uin refl s a (λ x. uins s x h) k;
    waits = λ s. 0;
    own = λ s x h. h;
    first = λ x h. h;
    waited = λ {s} {a} {x} h e g. let p = moves s a e in absurd (omega (arith, g, ap (λ v. v.guard) p.is_move));
    no_more = λ {s} {x} h i. absurd (none_in x i);
    kept = λ h e x i. absurd (none_in x i);
  }
