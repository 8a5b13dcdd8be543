-- The contract of `repair` says exactly what is said of any model that is the repaired one.
use mathlib.Core.Path.{◌≡◌, sym, ◌∙◌, subst}
use mathlib.Core.Logic.{◌↔◌}
use mathlib.Core.Bool.{false, ◌||◌}
use mathlib.Core.List.{List, [], ◌∷◌}
use Prim.Native.Nat.{ℕ, ◌*◌}
use lib.ListN.{length}
use lib.Dec.{ltb}
use borrow.Author.Tests.{ltb-false, le-ltb}
use Rattle.laws.specs.Search.{when, or_else}
use Rattle.laws.proofs.TestLaws.{or-false}
use Rattle.answer.specs.Limits.{max_rows, max_bytes}
use Rattle.answer.specs.Told.{tell, Answer, answered}
use Rattle.answer.specs.Told.{Written}
use Rattle.model.specs.Model.{Comp, Model, row_count}
use Rattle.model.specs.Text.{text_of}
use Rattle.model.specs.WellFormed.{WellFormed}
use Rattle.iosa.specs.InOrder.{Gives, needs, room}
use Rattle.answering.proofs.Answers.InOrder.{refused_or, either, or-refused, check-exactly, gives-exactly, room-decided, needs-decided}
use Rattle.table.proofs.OnImageExactly.{on-table-leaves}
use Rattle.lacking.specs.Repair.{repaired_of, added_to}
use Rattle.lacking.specs.Repaired.{Mended, Small}
use Rattle.lacking.specs.Walk.{cell_bytes}
use Rattle.lacking.proofs.RepairedModels.{mended-as, only-mended}
use Rattle.repair.specs.Repairing.{repair_of, repair_on, Repairing}
use Rattle.repair.specs.RepairExactly.{RepairChain, RepairAnswer, of-repaired, Mends, RepairExactly}

pub small-exactly : (n : Model) → ((ltb max_rows (row_count n) || ltb max_bytes (length (text_of n))) ≡ false) ↔ Small n
small-exactly n = (
  λ e. let p = or-false (ltb max_rows (row_count n)) (ltb max_bytes (length (text_of n))) e in
      record { rows = ltb-false max_rows (row_count n) p.0; bytes = ltb-false max_bytes (length (text_of n)) p.1 },
  λ s. rw (le-ltb max_rows (row_count n) s.rows, le-ltb max_bytes (length (text_of n)) s.bytes),
)

module _ (bytes : ℕ) (c : Comp) (cs : List Comp) (w : WellFormed (c ∷ cs)) where
  m : Model
  m = c ∷ cs

  abbrev D : Mended
  D = record { model = repaired_of (c ∷ cs); added = added_to (c ∷ cs) }

  chain : (a : Answer Mended) → (repair_of bytes (c ∷ cs) ≡ a) ↔ RepairChain bytes D a
  unfolding repair_of
  chain a =
      let needed = cell_bytes * length (added_to (c ∷ cs)) in
      let big = ltb max_rows (row_count (repaired_of (c ∷ cs))) || ltb max_bytes (length (text_of (repaired_of (c ∷ cs)))) in
      let b = when (ltb bytes needed) (tell 24 (needed ∷ [])) in
      let d = when big (tell 26 (0 ∷ [])) in
      let e = either (or_else b d) (answered D) ∙ or-refused b d (answered D) in
      rw e (check-exactly (room needed bytes) b (room-decided needed bytes) (refused_or d (answered D)) _ (λ p.
      check-exactly (needs 26 (Small (repaired_of (c ∷ cs)))) d (needs-decided 26 (Small (repaired_of (c ∷ cs))) big (small-exactly (repaired_of (c ∷ cs))))
      (answered D) (Gives (λ x. x ≡ D)) (λ q.
      gives-exactly D (λ x. x ≡ D) (λ y. (sym, sym)))) a)

  model-exactly : (a : Answer Mended) → (repair_of bytes (c ∷ cs) ≡ a) ↔ RepairAnswer bytes c cs a
  model-exactly a = (λ e. of-repaired (mended-as (c ∷ cs) w) ((chain a).0 e), back)
    where
      back : {a : Answer Mended} → RepairAnswer bytes c cs a → repair_of bytes (c ∷ cs) ≡ a
      back (of-repaired {d = d} {a = b} r k) = (chain b).1 (subst (λ x. RepairChain bytes x b) (only-mended (c ∷ cs) w d r) k)

pub repair-answers-exactly : (t l : List ℕ) (r : Written) (t' l' : List ℕ) → Repairing t l r t' l' ↔ RepairExactly t l r t' l'
unfolding repair_on
repair-answers-exactly t l r t' l' =
    let e = on-table-leaves t (repair_of (length l)) (RepairAnswer (length l)) (λ c cs w. model-exactly (length l) c cs w) (Mends t l r t' l') in (
      λ g. e.0 (record { answer = g.answer; table = g.table; list = g.list }),
      λ g. let k = e.1 g in record { answer = k.answer; table = k.table; list = k.list },
    )
