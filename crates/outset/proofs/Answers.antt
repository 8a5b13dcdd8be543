-- The contract of `start` says exactly that: 20, or where the product begins.
use mathlib.Core.Path.{◌≡◌, refl, sym, ap, subst}
use mathlib.Core.Logic.{◌↔◌}
use mathlib.Core.List.{List, ◌∷◌}
use Prim.Native.Nat.{ℕ}
use Rattle.answer.specs.Told.{Answer, answered}
use Rattle.model.specs.Model.{Comp}
use Rattle.model.specs.WellFormed.{WellFormed}
use Rattle.iosa.specs.InOrder.{Gives, gives}
use Rattle.iosa.specs.Start.{Beginning, start_of, StartOf}
use Rattle.iosa.proofs.Settling.Start.{start-exactly}
use Rattle.table.proofs.OnImageExactly.{on-table-leaves}
use Rattle.std.specs.Prelude.{Result}
use Rattle.answer.specs.declared.Refusal.{Refusal}
use Rattle.outset.specs.declared.Outset.{Outset}
use Rattle.outset.specs.Start.{StartCall, StartLeaves}
use Rattle.outset.specs.StartExactly.{StartExactly}

back : (c : Comp) (cs : List Comp) → WellFormed (c ∷ cs) → {a : Answer Beginning} → Gives (StartOf c cs) a → answered (start_of (c ∷ cs)) ≡ a
back c cs w (gives {x = b} h) = ap answered (sym ((start-exactly c cs w b).0 h))

model-exactly : (c : Comp) (cs : List Comp) → WellFormed (c ∷ cs) → (a : Answer Beginning) → (answered (start_of (c ∷ cs)) ≡ a) ↔ Gives (StartOf c cs) a
model-exactly c cs w a = (λ e. subst (Gives (StartOf c cs)) e (gives ((start-exactly c cs w (start_of (c ∷ cs))).1 refl)), back c cs w)

pub start-answers-exactly : (t : List ℕ) (r : Result Outset Refusal) → StartCall t r ↔ StartExactly t r
start-answers-exactly t r = on-table-leaves t (λ m. answered (start_of m)) (λ c cs. Gives (StartOf c cs)) model-exactly (StartLeaves r)
