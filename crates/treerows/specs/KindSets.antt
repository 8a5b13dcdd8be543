-- The actions of a component as four sets, one action after the other.
use Rattle.std.proofs.Math.Option.{Option, none, some}
use Rattle.std.specs.Prelude.{List, ℕ, get_or}
use Rattle.laws.specs.Sets.{◌∪◌, only}
use Rattle.model.specs.Text.{Kind, in-kind, out-kind, uin-kind, uout-kind}
use Rattle.trees.specs.Module.{those, is_in, is_out, is_uin, is_uout}
use Rattle.trees.specs.Tree.{Element}
use Rattle.elements.specs.Parts.{meaning_at, kind_by}
use Rattle.treerows.specs.declared.Kinds.{Kinds}

-- the sets of comp_by, of the actions below n
unfoldable pub kinds_below : (ℕ → Option Kind) → ℕ → Kinds
kinds_below f n = record {
  ins = those (λ a. is_in (f a)) n;
  outs = those (λ a. is_out (f a)) n;
  uins = those (λ a. is_uin (f a)) n;
  uouts = those (λ a. is_uout (f a)) n;
}

abbrev pub kinds_on : Kinds → ℕ → Option Kind → Kinds
kinds_on h a none = h
kinds_on h a (some in-kind) = record { ins = only a ∪ h.ins; outs = h.outs; uins = h.uins; uouts = h.uouts }
kinds_on h a (some out-kind) = record { ins = h.ins; outs = only a ∪ h.outs; uins = h.uins; uouts = h.uouts }
kinds_on h a (some uin-kind) = record { ins = h.ins; outs = h.outs; uins = only a ∪ h.uins; uouts = h.uouts }
kinds_on h a (some uout-kind) = record { ins = h.ins; outs = h.outs; uins = h.uins; uouts = only a ∪ h.uouts }

-- what the action of a word is to an element
unfoldable pub word_kind : List ℕ → Element → ℕ → Option Kind
word_kind words e a = kind_by e (meaning_at (get_or words a 0))
