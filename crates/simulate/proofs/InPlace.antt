-- A loop that replaces each value of a list, one after the other, by what f makes of it.
use mathlib.Core.Path.{◌≡◌, refl, sym, ◌∙◌, ap}
use mathlib.Core.Logic.{by_cases}
use mathlib.Core.List.{List}
use Prim.Native.Nat.{ℕ, ◌+◌, ◌≤◌, ◌<◌}
use native.Mathlib.Decide.{ℕ_discrete}
use native.Mathlib.Omega.{arith}
use lib.ListN.{length, get_or, set, length-set}
use lib.Seq.{ext_get_or, get_or-set_same, get_or-set_other}
use Rattle.simulation.specs.Simulate.{each_from}
use Rattle.simulation.proofs.Each.{each-length, each_at}

-- the values below k are replaced, the others stand as they were
pub record Placed {A : Type 0} (f : ℕ → A → A) (d : A) (old : List A) (k : ℕ) (new : List A) : Type 0 where
  pub size : length new ≡ length old
  pub done : (y : ℕ) → y < k → get_or new y d ≡ f y (get_or old y d)
  pub rest : (y : ℕ) → k ≤ y → get_or new y d ≡ get_or old y d

module _ {A : Type 0} (f : ℕ → A → A) (d : A) (old : List A) where
  pub placed-none : Placed f d old 0 old
  placed-none = record { size = refl; done = λ y h. absurd (omega arith); rest = λ y h. refl }

  module _ (k : ℕ) (new : List A) (w : Placed f d old k new) where
    pub placed-more : (v : A) → k < length old → v ≡ f k (get_or old k d) → Placed f d old (k + 1) (set new k v)
    placed-more v h e = record {
      size = length-set new k v ∙ w.size;
      done = λ y l. by_cases (ℕ_discrete y k) here (λ n. get_or-set_other new k y v d n ∙ w.done y (omega arith));
      rest = λ y l. get_or-set_other new k y v d (λ q. omega arith) ∙ w.rest y (omega arith);
    }
      where
        here : {y : ℕ} → y ≡ k → get_or (set new k v) y d ≡ f y (get_or old y d)
        here {y} q = ap (λ n. get_or (set new k v) n d) q ∙ get_or-set_same new k v d (omega (arith, w.size)) ∙ e ∙ sym (ap (λ n. f n (get_or old n d)) q)

    pub placed-all : length old ≤ k → new ≡ each_from f 0 old
    placed-all h =
        ext_get_or d new (each_from f 0 old) (w.size ∙ sym (each-length f d 0 old)) (λ y l.
        w.done y (omega (arith, w.size)) ∙ sym (each_at f d old y (omega (arith, w.size))))
