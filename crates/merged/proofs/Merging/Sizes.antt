-- The bytes of the model after merging, from those before: what 26 has to count before anything is written.
use mathlib.Core.Path.{◌≡◌}
use Prim.Native.Nat.{ℕ, suc, ◌+◌, ◌<◌}
use lib.ListN.{length, length-append}
use Rattle.laws.proofs.ListLaws.{joined-count}
use Rattle.model.specs.Model.{Model, no_comp, comp_at}
use Rattle.model.specs.Text.{comp_text, text_of}
use Rattle.merged.specs.Merge.{merged, merged_at}

module _ (m : Model) (i : ℕ) (h : suc i < length m) where
  pub merged-byte-count : length (text_of (merged_at m i)) + (length (comp_text (comp_at m i)) + length (comp_text (comp_at m (suc i))))
      ≡ length (text_of m) + length (comp_text (merged (comp_at m i) (comp_at m (suc i))))
  unfolding merged_at text_of
  merged-byte-count =
      joined-count no_comp (merged (comp_at m i) (comp_at m (suc i))) m i h (λ c. length (comp_text c)) (λ n. length (text_of n))
      (λ c cs. length-append (comp_text c) (text_of cs))
