-- Any two outcomes that the contract of a C function allows are equal: the words, and every lent buffer.
use mathlib.Core.Path.{◌≡◌, sym, ◌∙◌}
use mathlib.Core.Bool.{Bool}
use mathlib.Core.List.{List}
use Prim.Native.Nat.{ℕ}
use lib.IntN.{ℤ}
use Rattle.answer.specs.Told.{Answer, done_of}
use Rattle.answer.specs.declared.State.{State}
use Rattle.model.specs.Reading.{read_of}
use Rattle.iosa.specs.Stepped.{Stepping}
use Rattle.iosa.specs.Orders.{Settling}
use Rattle.layout.specs.Lent.{table_after}
use Rattle.table.specs.IsImage.{is_image}
use Rattle.reading.specs.Read.{read_on}
use Rattle.plant.specs.ReadTreeCall.{read_tree_on}
use Rattle.names.specs.Names.{numbers_on, numbers_left}
use Rattle.text.specs.Write.{write_on, text_after}
use Rattle.merge.specs.Merging.{merge_on}
use Rattle.repair.specs.Repairing.{repair_on, number_in, table_with, list_with}
use Rattle.report.specs.Reported.{length_told, report_in}
use Rattle.explain.specs.Explain.{text_explained, table_explained, length_in, buffer_with}
use Rattle.run.specs.Calls.{step_on, step_by_on, settle_on, settle_list_on, trace_after}
use Rattle.words.specs.Words.{checked_words, written_words}
use Rattle.words.specs.Bytes.{state_of}
use Rattle.outset.specs.Start.{start_on}
use Rattle.floodneedle.specs.Told.{component_on, compatible_on, accept_on, confluent_on, orderly_on, timed_on, TimingTold}
use Rattle.floodneedle.specs.Told.{StartTold, StepTold, AdvanceTold, SettlingTold, AfterTold, SimulationTold}
use Rattle.after.specs.Calls.{settle_after_on, settle_list_after_on}
use Rattle.simulate.specs.Simulate.{simulate_on}
use Rattle.simulate_drawn.specs.SimulateDrawn.{simulate_drawn_on}

-- one value for two that are it
one : {A : Type 0} {x y z : A} → x ≡ z → y ≡ z → x ≡ y
one e f = e ∙ sym f

step-told : (v : Answer Stepping) (x : State) (b d p q : List ℕ) → StepTold v x b p → StepTold v x d q → (b ≡ d) × (p ≡ q)
step-told v x b d p q g h = (one g.state h.state, one g.words h.words)

settling-told : (v : Answer (Settling (List ℕ))) (x : State) (b d p q : List ℕ) → SettlingTold v x b p → SettlingTold v x d q → (b ≡ d) × (p ≡ q)
settling-told v x b d p q g h = (one g.state h.state, one g.words h.words)

-- the answer's words p and q, the bytes or words b and d that a buffer holds after the call
module _ (t : List ℕ) (p q b d : List ℕ) where
  pub floodneedle_recognise-determined : (r s : Bool) → r ≡ is_image t → s ≡ is_image t → r ≡ s
  floodneedle_recognise-determined r s e f = one e f

  pub floodneedle_check_text-determined : p ≡ checked_words (done_of (read_of t)) → q ≡ checked_words (done_of (read_of t)) → p ≡ q
  floodneedle_check_text-determined e f = one e f

  pub floodneedle_start-determined : StartTold (start_on t) b p → StartTold (start_on t) d q → (b ≡ d) × (p ≡ q)
  floodneedle_start-determined e f = (one e.state f.state, one e.words f.words)

  pub floodneedle_component-determined : (i : ℕ) → p ≡ checked_words (component_on t i) → q ≡ checked_words (component_on t i) → p ≡ q
  floodneedle_component-determined i e f = one e f

  pub floodneedle_compatible-determined : p ≡ checked_words (compatible_on t) → q ≡ checked_words (compatible_on t) → p ≡ q
  floodneedle_compatible-determined e f = one e f

  pub floodneedle_accept-determined : p ≡ checked_words (accept_on t) → q ≡ checked_words (accept_on t) → p ≡ q
  floodneedle_accept-determined e f = one e f

  pub floodneedle_confluent-determined : p ≡ checked_words (confluent_on t) → q ≡ checked_words (confluent_on t) → p ≡ q
  floodneedle_confluent-determined e f = one e f

  pub floodneedle_orderly-determined : p ≡ checked_words (orderly_on t) → q ≡ checked_words (orderly_on t) → p ≡ q
  floodneedle_orderly-determined e f = one e f

  module _ (old : List ℕ) where
    pub floodneedle_read-determined : (p ≡ checked_words (done_of (read_on t old))) × (b ≡ table_after (read_on t old) old)
        → (q ≡ checked_words (done_of (read_on t old))) × (d ≡ table_after (read_on t old) old) → (p ≡ q) × (b ≡ d)
    floodneedle_read-determined e f = (one e.0 f.0, one e.1 f.1)

    pub floodneedle_read_tree-determined : (p ≡ checked_words (done_of (read_tree_on t old))) × (b ≡ table_after (read_tree_on t old) old)
        → (q ≡ checked_words (done_of (read_tree_on t old))) × (d ≡ table_after (read_tree_on t old) old) → (p ≡ q) × (b ≡ d)
    floodneedle_read_tree-determined e f = (one e.0 f.0, one e.1 f.1)

    pub floodneedle_to_numbers-determined : (p ≡ written_words (numbers_on t old)) × (b ≡ numbers_left t old) → (q ≡ written_words (numbers_on t old)) × (d ≡ numbers_left t old)
        → (p ≡ q) × (b ≡ d)
    floodneedle_to_numbers-determined e f = (one e.0 f.0, one e.1 f.1)

    pub floodneedle_write-determined : (p ≡ written_words (write_on t old)) × (b ≡ text_after (write_on t old) t old)
        → (q ≡ written_words (write_on t old)) × (d ≡ text_after (write_on t old) t old) → (p ≡ q) × (b ≡ d)
    floodneedle_write-determined e f = (one e.0 f.0, one e.1 f.1)

    pub floodneedle_report-determined : (p ≡ written_words (length_told t old)) × (b ≡ report_in t old)
        → (q ≡ written_words (length_told t old)) × (d ≡ report_in t old) → (p ≡ q) × (b ≡ d)
    floodneedle_report-determined e f = (one e.0 f.0, one e.1 f.1)

    pub floodneedle_explain-determined : (p ≡ written_words (length_in (text_explained t old))) × (b ≡ buffer_with (text_explained t old) old)
        → (q ≡ written_words (length_in (text_explained t old))) × (d ≡ buffer_with (text_explained t old) old) → (p ≡ q) × (b ≡ d)
    floodneedle_explain-determined e f = (one e.0 f.0, one e.1 f.1)

    pub floodneedle_explain_table-determined : (p ≡ written_words (length_in (table_explained t old))) × (b ≡ buffer_with (table_explained t old) old)
        → (q ≡ written_words (length_in (table_explained t old))) × (d ≡ buffer_with (table_explained t old) old) → (p ≡ q) × (b ≡ d)
    floodneedle_explain_table-determined e f = (one e.0 f.0, one e.1 f.1)

    pub floodneedle_merge-determined : (i : ℕ) → (p ≡ checked_words (done_of (merge_on t i old))) × (b ≡ table_after (merge_on t i old) old)
        → (q ≡ checked_words (done_of (merge_on t i old))) × (d ≡ table_after (merge_on t i old) old) → (p ≡ q) × (b ≡ d)
    floodneedle_merge-determined i e f = (one e.0 f.0, one e.1 f.1)

    pub floodneedle_repair-determined : (l k : List ℕ) → (p ≡ written_words (number_in (repair_on t old)))
        × (b ≡ table_with (repair_on t old) t) × (l ≡ list_with (repair_on t old) old)
        → (q ≡ written_words (number_in (repair_on t old))) × (d ≡ table_with (repair_on t old) t)
        × (k ≡ list_with (repair_on t old) old) → (p ≡ q) × (b ≡ d) × (l ≡ k)
    floodneedle_repair-determined l k e f = (one e.0 f.0, one e.1 f.1, one e.2 f.2)

  -- s is the state that was lent
  module _ (s : List ℕ) where
    pub floodneedle_step-determined : StepTold (step_on t (state_of s)) (state_of s) b p → StepTold (step_on t (state_of s)) (state_of s) d q → (b ≡ d) × (p ≡ q)
    floodneedle_step-determined g h = step-told (step_on t (state_of s)) (state_of s) b d p q g h

    pub floodneedle_step_by-determined : (a : ℕ) → StepTold (step_by_on t (state_of s) a) (state_of s) b p
        → StepTold (step_by_on t (state_of s) a) (state_of s) d q → (b ≡ d) × (p ≡ q)
    floodneedle_step_by-determined a g h = step-told (step_by_on t (state_of s) a) (state_of s) b d p q g h

    pub floodneedle_advance-determined : AdvanceTold (step_on t (state_of s)) s b p → AdvanceTold (step_on t (state_of s)) s d q → (b ≡ d) × (p ≡ q)
    floodneedle_advance-determined g h = (one g.state h.state, one g.words h.words)

    pub floodneedle_settle_list-determined : (l : List ℕ) → SettlingTold (settle_list_on t (state_of s) l) (state_of s) b p
        → SettlingTold (settle_list_on t (state_of s) l) (state_of s) d q → (b ≡ d) × (p ≡ q)
    floodneedle_settle_list-determined l g h = settling-told (settle_list_on t (state_of s) l) (state_of s) b d p q g h

    -- u and v are the trace after the call
    pub floodneedle_settle-determined : (budget : ℕ) (old u v : List ℕ)
        → SettlingTold (settle_on t (state_of s) budget old) (state_of s) b p × (u ≡ trace_after (settle_on t (state_of s) budget old) old)
        → SettlingTold (settle_on t (state_of s) budget old) (state_of s) d q × (v ≡ trace_after (settle_on t (state_of s) budget old) old)
        → (b ≡ d) × (p ≡ q) × (u ≡ v)
    floodneedle_settle-determined budget old u v g h =
        let r = settling-told (settle_on t (state_of s) budget old) (state_of s) b d p q g.0 h.0 in (r.0, r.1, one g.1 h.1)

    -- s is the path
    pub floodneedle_settle_list_after-determined : (l : List ℕ) → AfterTold (settle_list_after_on t s l) b p → AfterTold (settle_list_after_on t s l) d q
        → (b ≡ d) × (p ≡ q)
    floodneedle_settle_list_after-determined l g h = (one g.state h.state, one g.words h.words)

    -- s is the path, u and v are the trace after the call
    pub floodneedle_settle_after-determined : (budget : ℕ) (old u v : List ℕ)
        → AfterTold (settle_after_on t s budget old) b p × (u ≡ trace_after (settle_after_on t s budget old) old)
        → AfterTold (settle_after_on t s budget old) d q × (v ≡ trace_after (settle_after_on t s budget old) old) → (b ≡ d) × (p ≡ q) × (u ≡ v)
    floodneedle_settle_after-determined budget old u v g h =
        (one g.0.state h.0.state, one g.0.words h.0.words, one g.1 h.1)

    -- u and v are the clock values after the call
    pub floodneedle_timed_step-determined : (was u v : List ℤ) → TimingTold (timed_on t (state_of s) was) (state_of s) was u b p
        → TimingTold (timed_on t (state_of s) was) (state_of s) was v d q → (b ≡ d) × (p ≡ q) × (u ≡ v)
    floodneedle_timed_step-determined was u v g h = (one g.state h.state, one g.words h.words, one g.values h.values)

    -- s is the sample text
    pub floodneedle_simulate-determined : (n : ℕ) (was u v : List ℤ) → SimulationTold (simulate_on t s n was) was u b p
        → SimulationTold (simulate_on t s n was) was v d q
        → (b ≡ d) × (p ≡ q) × (u ≡ v)
    floodneedle_simulate-determined n was u v g h = (one g.state h.state, one g.words h.words, one g.values h.values)

    -- s is the file of distributions, ns the lent numbers
    pub floodneedle_simulate_drawn-determined : (ns : List ℕ) (n : ℕ) (was u v : List ℤ) → SimulationTold (simulate_drawn_on t s ns n was) was u b p
        → SimulationTold (simulate_drawn_on t s ns n was) was v d q → (b ≡ d) × (p ≡ q) × (u ≡ v)
    floodneedle_simulate_drawn-determined ns n was u v g h = (one g.state h.state, one g.words h.words, one g.values h.values)
