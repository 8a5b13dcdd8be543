-- The loop that joins the enabling clocks: what is left from component i on, by one component more.
use mathlib.Core.Path.{◌≡◌, sym, ◌∙◌, ap}
use mathlib.Core.List.{List}
use Prim.Native.Nat.{ℕ, ◌+◌, ◌≤◌, ◌<◌}
use lib.ListN.{length, get_or, drop, drop_of_length-le}
use lib.Bits.{or_zero_r}
use Rattle.laws.specs.Sets.{◌∪◌}
use Rattle.laws.proofs.SetLaws.{or_assoc}
use Rattle.model.specs.Model.{Model, comp_at}
use Rattle.iosa.specs.Checks.{enabling_of}
use Rattle.timing.specs.Timed.{enabling_all}
use Rattle.moves.proofs.Along.{heads}

pub enabling-next : (m : Model) (i : ℕ) → i < length m → (ss : List ℕ) → i < length ss → (r : ℕ)
    → r ∪ enabling_all (drop i m) (drop i ss) ≡ (r ∪ enabling_of (comp_at m i) (get_or ss i 0)) ∪ enabling_all (drop (i + 1) m) (drop (i + 1) ss)
unfolding enabling_all
enabling-next m i p ss q r =
    ap (λ n. r ∪ n) (heads m ss i p q enabling_all)
    ∙ sym (or_assoc r (enabling_of (comp_at m i) (get_or ss i 0)) (enabling_all (drop (i + 1) m) (drop (i + 1) ss)))

pub enabling-end : (m : Model) (ss : List ℕ) (i r : ℕ) → length m ≤ i → r ≡ r ∪ enabling_all (drop i m) (drop i ss)
unfolding enabling_all
enabling-end m ss i r h = sym (or_zero_r r) ∙ ap (λ k. r ∪ enabling_all k (drop i ss)) (sym (drop_of_length-le m h))
