-- Settling after a listed path (02, 8/13), of a model: "22 for a longer path, then 46 .., both in place of 21 and 19".
use Rattle.std.proofs.Math.Option.{Option, none, some}
use Rattle.std.specs.Prelude.{List, ℕ, length}
use Rattle.laws.specs.Search.{or_else}
use Rattle.answer.specs.Told.{Told, Answer, answered, refused}
use Rattle.model.specs.Model.{Model}
use Rattle.iosa.specs.Step.{urgent_step, unless}
use Rattle.iosa.specs.Settle.{settle, play, budget_fault, trace_fault}
use Rattle.iosa.specs.Orders.{Settling}
use Rattle.iosa.specs.Start.{start_all}
use Rattle.triggering.specs.Test.{entry_of}
use Rattle.paths.specs.Path.{walk, long_path}

-- what stands before the first step of a path: as acceptance, check 18 or else 45 and 18; then 22 for more than 4,096 steps
unfoldable pub path_fault : Model → List ℕ → Option Told
path_fault m p = let b = long_path p in or_else (entry_of m) b

-- where the path leads from the start; else 46
unfoldable pub walk_of : Model → List ℕ → Answer (List ℕ)
walk_of m p = let x = walk m 0 p (start_all m) in elim (path_fault m p) [ some t ↦ refused t | none ↦ x ]

-- what follows a path that is possible
abbrev pub after_path : {A : Type 0} → (List ℕ → Answer A) → Answer (List ℕ) → Answer A
after_path f (refused t) = refused t
after_path f (answered s) = f s

-- then the call's own, with a trace of `room` bytes: 22 for the budget, 24, and settling
abbrev pub settle_fault : ℕ → ℕ → Option Told
settle_fault budget room = or_else (budget_fault budget) (trace_fault budget room)

unfoldable pub settle_from : Model → ℕ → ℕ → List ℕ → Answer (Settling (List ℕ))
settle_from m budget room s = unless (settle_fault budget room) (settle (urgent_step m) budget s)

unfoldable pub settle_after_of : Model → List ℕ → ℕ → ℕ → Answer (Settling (List ℕ))
settle_after_of m p budget room = after_path (settle_from m budget room) (walk_of m p)

-- 22 for the list, and settling by it; 23
unfoldable pub list_from : Model → List ℕ → List ℕ → Answer (Settling (List ℕ))
list_from m l s = let x = play m 0 l s in elim (budget_fault (length l)) [ some t ↦ refused t | none ↦ x ]

unfoldable pub settle_list_after_of : Model → List ℕ → List ℕ → Answer (Settling (List ℕ))
settle_list_after_of m p l = after_path (list_from m l) (walk_of m p)
