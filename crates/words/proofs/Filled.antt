-- A state filled place by place with the numbers of a list: one place more, and all.
use mathlib.Core.Path.{◌≡◌, sym, ◌∙◌, ap}
use mathlib.Core.List.{List}
use Prim.Native.Nat.{ℕ, ◌+◌, ◌<◌, ◌≤◌}
use native.Mathlib.Omega.{arith}
use borrow.Author.Count.{below_more}
use lib.ListN.{length, get_or, set}
use lib.Seq.{ext_get_or, get_or-set_same, get_or-set_other}
use Rattle.answer.specs.Limits.{max_components}
use Rattle.answer.specs.State.{numbers_from, parts_of}
use Rattle.answer.specs.declared.State.{State}
use Rattle.answer.proofs.StateLaws.{parts-length, parts_at}
use Rattle.words.specs.Bytes.{state_of}

-- one place more is filled
pub filled : (bs ps : List ℕ) (i v : ℕ) → i < length ps → v ≡ get_or bs i 0 → ((k : ℕ) → k < i → get_or ps k 0 ≡ get_or bs k 0)
    → (k : ℕ) → k < i + 1 → get_or (set ps i v) k 0 ≡ get_or bs k 0
filled bs ps i v h e all =
    below_more
    (λ k. get_or (set ps i v) k 0 ≡ get_or bs k 0)
    i
    (λ k l. get_or-set_other ps i k v 0 (λ q. omega arith) ∙ all k l)
    (get_or-set_same ps i v 0 h ∙ e)

-- where all are filled, the state is made
pub made : (bs ps : List ℕ) (i : ℕ) → length ps ≡ max_components → max_components ≤ i → ((k : ℕ) → k < i → get_or ps k 0 ≡ get_or bs k 0)
    → ◌≡◌ {A = State} (record { count = length bs; parts = ps }) (state_of bs)
unfolding state_of parts_of
made bs ps i e h all =
    let x : State = record { count = max_components; parts = bs } in
    ap (λ (l : List ℕ). record { count = length bs; parts = l }) (ext_get_or 0 ps (numbers_from bs 0 max_components) (e ∙ sym (parts-length x)) (λ k l.
    all k (omega arith) ∙ sym (parts_at x k (omega arith))))
