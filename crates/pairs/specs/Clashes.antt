-- 15 to 17 by sets: two components clash where the left of one meets the right of the other (01, "Conditions on a component", compatibility).
use Rattle.std.specs.Prelude.{List, ℕ, ◌+◌}
use Rattle.std.proofs.Math.Option.{Option}
use Rattle.laws.specs.Sets.{has, ◌∪◌, ◌∩◌}
use Rattle.laws.specs.Search.{seek, when, map_some}
use Rattle.laws.specs.Fold.{over}
use Rattle.answer.specs.Told.{Told, tell}
use Rattle.model.specs.Model.{Comp, Model, outputs, urgents}
use Rattle.iosa.specs.Checks.{calm_acts, check15, check16, check17}
use Rattle.layout.specs.Layout.{count_of}
use Rattle.layout.specs.Image.{comp_of}
use Rattle.pairs.specs.declared.Shared.{Shared}
use Rattle.pairs.specs.declared.Shared.TheVariants.{Outputs, Clocks, Urgency}

abbrev pub number_of : Shared → ℕ
number_of Outputs = 15
number_of Clocks = 16
number_of Urgency = 17

unfoldable pub shared_fault : Shared → Model → Option Told
shared_fault Outputs m = map_some (tell 15) (check15 m)
shared_fault Clocks m = map_some (tell 16) (check16 m)
shared_fault Urgency m = map_some (tell 17) (check17 m)

-- outputs against outputs, clocks against clocks, urgent actions against those that are not
unfoldable pub left_of : Shared → Comp → ℕ
left_of Outputs c = outputs c
left_of Clocks c = c.clocks
left_of Urgency c = urgents c

unfoldable pub right_of : Shared → Comp → ℕ
right_of Outputs c = outputs c
right_of Clocks c = c.clocks
right_of Urgency c = calm_acts c

-- what two components clash by
unfoldable pub clash_of : Shared → Comp → Comp → ℕ
clash_of k c d = (left_of k c ∩ right_of k d) ∪ (right_of k c ∩ left_of k d)

-- the left and the right of the components below n
unfoldable pub left_below : Shared → List ℕ → ℕ → ℕ
left_below k t n = over (λ i s. s ∪ left_of k (comp_of t i)) 0 n 0

unfoldable pub right_below : Shared → List ℕ → ℕ → ℕ
right_below k t n = over (λ i s. s ∪ right_of k (comp_of t i)) 0 n 0

-- what component j clashes by with some component below it, and all of it
unfoldable pub clash_at : Shared → List ℕ → ℕ → ℕ
clash_at k t j = (left_below k t j ∩ right_of k (comp_of t j)) ∪ (right_below k t j ∩ left_of k (comp_of t j))

unfoldable pub clash_set : Shared → List ℕ → ℕ
clash_set k t = over (λ j s. s ∪ clash_at k t j) 0 (count_of t) 0

-- the first component after i that clashes with it by x
unfoldable pub partner_of : Shared → List ℕ → ℕ → ℕ → Option ℕ
partner_of k t x i = seek (λ j. when (has (clash_of k (comp_of t i) (comp_of t j)) x) j) (i + 1) (count_of t)
