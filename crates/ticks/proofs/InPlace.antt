-- A walk that replaces the value of each declared clock by what it is after v ticks.
use mathlib.Core.Path.{◌≡◌, refl, sym, ap, ap₂, ◌∙◌}
use mathlib.Core.Logic.{by_cases}
use mathlib.Core.Bool.{false, cond, true≢false}
use mathlib.Core.List.{List, [], ◌∷◌}
use Prim.Native.Nat.{ℕ, suc, ◌+◌, ◌^◌, ◌<◌}
use native.Mathlib.Decide.{ℕ_discrete}
use native.Mathlib.Omega.{arith}
use lib.ListN.{length, set, length-set}
use lib.Seq.{get_or-set_same, get_or-set_other}
use lib.IntN.{ℤ, pos}
use Rattle.laws.specs.Sets.{has, ◌∈◌}
use Rattle.answer.specs.Limits.{max_clocks}
use Rattle.timing.specs.Timed.{fallen, aged_from}
use Rattle.iosa.specs.TimedExactly.{value_of}
use Rattle.sets.specs.Members.{word_bits}
use Rattle.members.proofs.Walk.{Front, Rest, none_left}
use Rattle.ticks.specs.Ticks.{aged_one}

-- values that are each what they are after v ticks
aged-all : (d : ℕ) (v : ℤ) (k : ℕ) (zs us : List ℤ) → length us ≡ length zs
    → ((j : ℕ) → j < length zs → value_of us j ≡ aged_one d v (k + j) (value_of zs j)) → us ≡ aged_from d v k zs
unfolding aged_from aged_one
aged-all d v k [] [] c h = refl
aged-all d v k [] (u ∷ us) c h = absurd (omega arith)
aged-all d v k (z ∷ zs) [] c h = absurd (omega arith)
aged-all d v k (z ∷ zs) (u ∷ us) c h =
    let e : k + 0 ≡ k = omega arith in
    ap₂ (λ y ys. y ∷ ys) (h 0 (omega arith) ∙ ap (λ n. aged_one d v n z) e) (aged-all d v (suc k) zs us (omega arith) (λ j l.
    let q : k + suc j ≡ suc k + j = omega arith in h (suc j) (omega arith) ∙ ap (λ n. aged_one d v n (value_of zs j)) q))

module _ (d : ℕ) (v : ℤ) (was : List ℤ) where
  -- the clocks that are left stand as they were, the others are as after v ticks
  pub record Aging (left : ℕ) (vs : List ℤ) : Type 0 where
    pub fits : left < 2 ^ word_bits
    pub within : (y : ℕ) → y ∈ left → y ∈ d
    pub size : length vs ≡ length was
    pub stays : (y : ℕ) → y ∈ left → value_of vs y ≡ value_of was y
    pub aged : (y : ℕ) → has left y ≡ false → value_of vs y ≡ aged_one d v y (value_of was y)

  pub aging-first : d < 2 ^ word_bits → Aging d was
  unfolding aged_one
  aging-first f = record {
    fits = f;
    within = λ y h. h;
    size = refl;
    stays = λ y h. refl;
    aged = λ y h. sym (ap (λ b. cond b (fallen v (value_of was y)) (value_of was y)) h);
  }

  module _ (left : ℕ) (vs : List ℤ) (w : Aging left vs) where
    pub aging-next : length was ≡ max_clocks → (x t : ℕ) → Front left x → Rest left x t → (z : ℤ) → z ≡ aged_one d v x (value_of was x) → Aging t (set vs x z)
    aging-next c x t i r z e = record {
      fits = r.fits;
      within = λ y h. w.within y (in_left y h);
      size = length-set vs x z ∙ w.size;
      stays = λ y h. get_or-set_other vs x y z (pos 0) (λ q. true≢false (sym h ∙ ap (has t) q ∙ r.gone)) ∙ w.stays y (in_left y h);
      aged = λ y h. by_cases (ℕ_discrete y x) here (λ n. get_or-set_other vs x y z (pos 0) n ∙ w.aged y (sym (r.same y n) ∙ h));
    }
      where
        in_left : (y : ℕ) → y ∈ t → y ∈ left
        in_left y h = sym (r.same y (λ q. true≢false (sym h ∙ ap (has t) q ∙ r.gone))) ∙ h

        here : {y : ℕ} → y ≡ x → value_of (set vs x z) y ≡ aged_one d v y (value_of was y)
        here {y} q =
            ap (value_of (set vs x z)) q ∙ get_or-set_same vs x z (pos 0) (omega (arith, w.size, i.below)) ∙ e
            ∙ sym (ap (λ n. aged_one d v n (value_of was n)) q)

    pub aging-end : left ≡ 0 → vs ≡ aged_from d v 0 was
    aging-end z = aged-all d v 0 was vs w.size (λ j h. let e : 0 + j ≡ j = omega arith in
        w.aged j (none_left left j z) ∙ sym (ap (λ n. aged_one d v n (value_of was j)) e))
