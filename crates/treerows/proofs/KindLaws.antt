-- Four sets grow by one action at a time.
use mathlib.Core.Path.{◌≡◌, refl, sym, ◌∙◌, ap}
use mathlib.Core.Option.{Option, none, some}
use Prim.Native.Nat.{ℕ, suc, ◌+◌}
use native.Mathlib.Omega.{arith}
use lib.Bits.{or_comm, or_zero_r}
use Rattle.laws.specs.Sets.{◌∪◌}
use Rattle.model.specs.Text.{Kind, in-kind, out-kind, uin-kind, uout-kind}
use Rattle.trees.specs.Module.{those, is_in, is_out, is_uin, is_uout}
use Rattle.treerows.specs.declared.Kinds.{Kinds}
use Rattle.treerows.specs.KindSets.{kinds_below, kinds_on}

none_first : (s : ℕ) → 0 ∪ s ≡ s
none_first s = or_comm 0 s ∙ or_zero_r s

pub kinds-none : (f : ℕ → Option Kind) → record { ins = 0; outs = 0; uins = 0; uouts = 0 } ≡ kinds_below f 0
unfolding kinds_below those
kinds-none f = refl

kinds-next : (f : ℕ → Option Kind) (a : ℕ) (o : Option Kind) → f a ≡ o → kinds_below f (suc a) ≡ kinds_on (kinds_below f a) a o
unfolding kinds_below those
kinds-next f a none e =
    rw (
      e,
      none_first (those (λ x. is_in (f x)) a),
      none_first (those (λ x. is_out (f x)) a),
      none_first (those (λ x. is_uin (f x)) a),
      none_first (those (λ x. is_uout (f x)) a),
    )
kinds-next f a (some in-kind) e =
    rw (e, none_first (those (λ x. is_out (f x)) a), none_first (those (λ x. is_uin (f x)) a), none_first (those (λ x. is_uout (f x)) a))
kinds-next f a (some out-kind) e =
    rw (e, none_first (those (λ x. is_in (f x)) a), none_first (those (λ x. is_uin (f x)) a), none_first (those (λ x. is_uout (f x)) a))
kinds-next f a (some uin-kind) e =
    rw (e, none_first (those (λ x. is_in (f x)) a), none_first (those (λ x. is_out (f x)) a), none_first (those (λ x. is_uout (f x)) a))
kinds-next f a (some uout-kind) e =
    rw (e, none_first (those (λ x. is_in (f x)) a), none_first (those (λ x. is_out (f x)) a), none_first (those (λ x. is_uin (f x)) a))

-- as the loop has them
pub kinds-on : (f : ℕ → Option Kind) (a : ℕ) (h r : Kinds) (o : Option Kind) → h ≡ kinds_below f a → o ≡ f a → r ≡ kinds_on h a o → r ≡ kinds_below f (a + 1)
kinds-on f a h r o e q g =
    let z : suc a ≡ a + 1 = omega arith in
    g ∙ ap (λ x. kinds_on x a o) e ∙ sym (kinds-next f a o (sym q)) ∙ ap (kinds_below f) z
