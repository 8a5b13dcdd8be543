-- Demand 3 stands behind whatever the promises of `settle_after` and `settle_list_after` allow, unless it is a refusal.
use mathlib.Core.List.{List, ◌∷◌}
use Prim.Native.Nat.{ℕ}
use Rattle.std.specs.Prelude.{Ok}
use lib.ListN.{length}
use Rattle.answer.specs.Told.{Answer}
use Rattle.answer.specs.declared.Settled.{Settled}
use Rattle.model.specs.Model.{Comp}
use Rattle.iosa.specs.Automaton.{at-start}
use Rattle.iosa.specs.Product.{product, state_of, Within}
use Rattle.iosa.specs.Orders.{OneEnd, Settling}
use Rattle.iosa.specs.InOrder.{refuses, passes, gives, accepted}
use Rattle.answering.specs.Answers.{is23, is-series}
use Rattle.layout.specs.OnImage.{Holds, OnImage, is20, of-model}
use Rattle.walkable.specs.Entry.{settles}
use Rattle.paths.specs.Path.{Path}
use Rattle.paths.proofs.Walked.{path-reaches}
use Rattle.after.specs.Calls.{AfterAnswers, SettleAfterCall, SettleListAfterCall}
use Rattle.after.specs.AfterExactly.{is46, leads, SettleAfterAnswer, SettleListAfterAnswer, AfterLeaves}
use Rattle.after.specs.Demand3.{SettledAfter}
use Rattle.after.proofs.Exactly.{settle-after-answers-exactly, settle-list-after-answers-exactly}

module _ (t p : List ℕ) (v : Settled) where
  stands : (c : Comp) (cs : List Comp) (s : List ℕ) → Holds t (c ∷ cs) → (accepted (c ∷ cs)).Passes → (settles (c ∷ cs)).Passes
      → Path (product c cs) (product c cs).start p (state_of c cs s) → Within (c ∷ cs) s → OneEnd (product c cs) (state_of c cs s) → SettledAfter t p
  stands c cs s h k e path w o = record {
    first = c;
    others = cs;
    holds = h;
    definition = k.0;
    joinable = k.1;
    either = e;
    there = s;
    within = w;
    path = path;
    reached = path-reaches (product c cs) at-start path;
    orders = o;
  }

  settled : (budget : ℕ) (old new : List ℕ) {a : Answer (Settling (List ℕ))} → OnImage t (λ c cs. SettleAfterAnswer c cs p budget (length old)) a
      → AfterLeaves old new (Ok v) a → SettledAfter t p
  settled budget old new (is20 n) l = absurd l.answer
  settled budget old new (of-model h (refuses q)) l = absurd l.answer
  settled budget old new (of-model h (passes k (refuses q))) l = absurd l.answer
  settled budget old new (of-model h (passes k (passes e (refuses q)))) l = absurd l.answer
  settled budget old new (of-model h (passes k (passes e (passes n (is46 q))))) l = absurd l.answer
  settled budget old new (of-model h (passes k (passes e (passes n (leads path w (refuses q)))))) l = absurd l.answer
  settled budget old new (of-model h (passes k (passes e (passes n (leads path w (passes i (refuses q))))))) l = absurd l.answer
  settled budget old new (of-model {c = c} {cs = cs} h (passes k (passes e (passes n (leads {s = s} path w (passes i (passes j (gives g)))))))) l =
      stands c cs s h k e path w g.orders

  pub demand-3-of-settle-after : (budget : ℕ) (old new : List ℕ) → SettleAfterCall t p budget old new (Ok v) → SettledAfter t p
  demand-3-of-settle-after budget old new call =
      let e = (settle-after-answers-exactly t p budget old new (Ok v)).0 call in
      settled budget old new e.right e.left

  listed : (l : List ℕ) {a : Answer (Settling (List ℕ))} → OnImage t (λ c cs. SettleListAfterAnswer c cs p l) a → AfterAnswers a (Ok v) → SettledAfter t p
  listed l (is20 n) g = absurd g
  listed l (of-model h (refuses q)) g = absurd g
  listed l (of-model h (passes k (refuses q))) g = absurd g
  listed l (of-model h (passes k (passes e (refuses q)))) g = absurd g
  listed l (of-model h (passes k (passes e (passes n (is46 q))))) g = absurd g
  listed l (of-model h (passes k (passes e (passes n (leads path w (refuses q)))))) g = absurd g
  listed l (of-model h (passes k (passes e (passes n (leads path w (passes i (is23 q))))))) g = absurd g
  listed l (of-model {c = c} {cs = cs} h (passes k (passes e (passes n (leads {s = s} path w (passes i (is-series d))))))) g =
      stands c cs s h k e path w d.orders

  pub demand-3-of-settle-list-after : (l : List ℕ) → SettleListAfterCall t p l (Ok v) → SettledAfter t p
  demand-3-of-settle-list-after l call = let e = (settle-list-after-answers-exactly t p l (Ok v)).0 call in listed l e.right e.left
