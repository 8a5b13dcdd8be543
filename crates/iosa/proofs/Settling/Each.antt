-- What holds of every component of a model, and of some.
use mathlib.Core.Logic.{◌⊎◌, inl, inr}
use mathlib.Core.List.{[], ◌∷◌}
use Prim.Native.Nat.{ℕ, zero, suc, ◌<◌}
use native.Mathlib.Omega.{arith}
use lib.ListN.{length}
use Rattle.model.specs.Model.{Comp, Model, comp_at}

-- P holds of every component
abbrev pub All : (Comp → Type 0) → Model → Type 0
All P [] = Unit {0}
All P (c ∷ cs) = P c × All P cs

-- P holds of some component
abbrev pub Any : (Comp → Type 0) → Model → Type 0
Any P [] = ⊥
Any P (c ∷ cs) = P c ⊎ Any P cs

pub each_all : (P : Comp → Type 0) (m : Model) → ((i : ℕ) → i < length m → P (comp_at m i)) → All P m
each_all P [] f = tt
each_all P (c ∷ cs) f = (f 0 (omega arith), each_all P cs (λ i h. f (suc i) (omega arith)))

pub all-each : (P : Comp → Type 0) (m : Model) → All P m → (i : ℕ) → i < length m → P (comp_at m i)
all-each P [] al i h = absurd (omega arith)
all-each P (c ∷ cs) al zero h = al.0
all-each P (c ∷ cs) al (suc i) h = all-each P cs al.1 i (omega arith)

pub all_map : {P Q : Comp → Type 0} (m : Model) → ((c : Comp) → P c → Q c) → All P m → All Q m
all_map [] f al = tt
all_map (c ∷ cs) f al = (f c al.0, all_map cs f al.1)

pub all-zip : {P Q R : Comp → Type 0} (m : Model) → ((c : Comp) → P c → Q c → R c) → All P m → All Q m → All R m
all-zip [] f al bl = tt
all-zip (c ∷ cs) f al bl = (f c al.0 bl.0, all-zip cs f al.1 bl.1)

pub any-map : {P Q : Comp → Type 0} (m : Model) → ((c : Comp) → P c → Q c) → Any P m → Any Q m
any-map [] f u = absurd u
any-map (c ∷ cs) f (inl h) = inl (f c h)
any-map (c ∷ cs) f (inr h) = inr (any-map cs f h)

pub any-zip : {P Q R : Comp → Type 0} (m : Model) → ((c : Comp) → P c → Q c → R c) → All P m → Any Q m → Any R m
any-zip [] f al u = absurd u
any-zip (c ∷ cs) f al (inl h) = inl (f c al.0 h)
any-zip (c ∷ cs) f al (inr h) = inr (any-zip cs f al.1 h)
