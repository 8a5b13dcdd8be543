-- Demand 3 stands behind whatever the promises of `settle` and `settle_list` allow, unless it is a refusal.
use mathlib.Core.List.{List}
use Prim.Native.Nat.{ℕ}
use Rattle.std.specs.Prelude.{Ok}
use lib.ListN.{length}
use Rattle.answer.specs.Told.{Answer}
use Rattle.answer.specs.State.{parts_of}
use Rattle.answer.specs.declared.State.{State}
use Rattle.answer.specs.declared.Settled.{Settled}
use Rattle.iosa.specs.Orders.{Settling}
use Rattle.iosa.specs.InOrder.{refuses, passes, gives}
use Rattle.answering.specs.Answers.{SettleAnswer, SettleListAnswer, is23, is-series}
use Rattle.layout.specs.OnImage.{OnImage, is20, of-model}
use Rattle.settling.specs.Gives.{SettleAnswers}
use Rattle.run.specs.Calls.{SettleCall, SettleListCall}
use Rattle.run.specs.RunExactly.{SettleLeaves}
use Rattle.run.specs.Demand3.{SettledFrom}
use Rattle.run.proofs.Exactly.{settle-answers-exactly, settle-list-answers-exactly}

module _ (t : List ℕ) (x : State) (v : Settled) where
  settled : (budget : ℕ) (old new : List ℕ) {a : Answer (Settling (List ℕ))} → OnImage t (λ c cs. SettleAnswer c cs (parts_of x) budget (length old)) a
      → SettleLeaves x old new (Ok v) a → SettledFrom t x
  settled budget old new (is20 n) l = absurd l.answer
  settled budget old new (of-model h (refuses q)) l = absurd l.answer
  settled budget old new (of-model h (passes k (refuses q))) l = absurd l.answer
  settled budget old new (of-model h (passes k (passes al (refuses q)))) l = absurd l.answer
  settled budget old new (of-model h (passes k (passes al (passes w (refuses q))))) l = absurd l.answer
  settled budget old new (of-model h (passes k (passes al (passes w (passes p (refuses q)))))) l = absurd l.answer
  settled budget old new (of-model h (passes k (passes al (passes w (passes p (passes n (refuses q))))))) l = absurd l.answer
  settled budget old new (of-model {c = c} {cs = cs} h (passes k (passes al (passes w (passes p (passes n (passes m (gives g)))))))) l =
      record { first = c; others = cs; holds = h; definition = k.0; joinable = k.1; confluent = al; reached = p; orders = g.orders }

  pub demand-3-of-settle : (budget : ℕ) (old new : List ℕ) → SettleCall t x budget old new (Ok v) → SettledFrom t x
  demand-3-of-settle budget old new call = let e = (settle-answers-exactly t x budget old new (Ok v)).0 call in settled budget old new e.right e.left

  listed : (l : List ℕ) {a : Answer (Settling (List ℕ))} → OnImage t (λ c cs. SettleListAnswer c cs (parts_of x) l) a → SettleAnswers a x (Ok v)
      → SettledFrom t x
  listed l (is20 n) g = absurd g
  listed l (of-model h (refuses q)) g = absurd g
  listed l (of-model h (passes k (refuses q))) g = absurd g
  listed l (of-model h (passes k (passes al (refuses q)))) g = absurd g
  listed l (of-model h (passes k (passes al (passes w (refuses q))))) g = absurd g
  listed l (of-model h (passes k (passes al (passes w (passes p (refuses q)))))) g = absurd g
  listed l (of-model h (passes k (passes al (passes w (passes p (passes n (is23 q))))))) g = absurd g
  listed l (of-model {c = c} {cs = cs} h (passes k (passes al (passes w (passes p (passes n (is-series s))))))) g =
      record { first = c; others = cs; holds = h; definition = k.0; joinable = k.1; confluent = al; reached = p; orders = s.orders }

  pub demand-3-of-settle-list : (l : List ℕ) → SettleListCall t x l (Ok v) → SettledFrom t x
  demand-3-of-settle-list l call = let e = (settle-list-answers-exactly t x l (Ok v)).0 call in listed l e.right e.left
