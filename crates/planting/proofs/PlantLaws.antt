-- An element's component by the words of the actions is the one of its module.
use mathlib.Core.Path.{◌≡◌, refl}
use mathlib.Core.List.{List}
use Prim.Native.Nat.{ℕ}
use lib.ListN.{length}
use Rattle.trees.specs.Module.{is_in, is_out, is_uin, is_uout, comp_by}
use Rattle.trees.specs.Tree.{Sort, be-sort, and-sort, or-sort, pand-sort, rbox-sort, Element, Tree, meanings}
use Rattle.trees.specs.Modules.{be_module, count_module, pand_module, box_module, clockless, module_for}
use Rattle.elements.specs.Parts.{states_by}
use Rattle.merging.specs.declared.Head.{Head}
use Rattle.merging.specs.Heads.{as_head}
use Rattle.treerows.specs.declared.Kinds.{Kinds}
use Rattle.treerows.specs.KindSets.{kinds_below, word_kind}
use Rattle.treerows.proofs.ModuleLaws.{module-states, element-rows}
use Rattle.treesize.specs.Size.{clocks_for, Hold}
use Rattle.treesize.proofs.SizeLaws.{kinds-whole, clocks-are}
use Rattle.planting.specs.Planted.{started_for, plant_of}

module _ (t : Tree) (words : List ℕ) (h : Hold t words) (k : ℕ) (e : Element) where
  started-are : (q : Sort) → (module_for q t k e).started ≡ started_for q k
  unfolding be_module count_module pand_module box_module clockless
  started-are be-sort = refl
  started-are and-sort = refl
  started-are or-sort = refl
  started-are pand-sort = refl
  started-are rbox-sort = refl

  pub plant-is : comp_by (module_for e.sort t k e) ≡ plant_of words (length (meanings t)) e k
  unfolding comp_by plant_of kinds_below
  plant-is =
      rw (
        module-states t k e e.sort,
        clocks-are t words h k e e.sort,
        started-are e.sort,
        kinds-whole t words h k e is_in refl,
        kinds-whole t words h k e is_out refl,
        kinds-whole t words h k e is_uin refl,
        kinds-whole t words h k e is_uout refl,
        element-rows t words (record { few = h.few; means = h.means }) k e,
      )

-- beside its rows, as the code has it
pub head-by : (words : List ℕ) (count : ℕ) (e : Element) (k : ℕ) (h : Kinds) (states clocks started : ℕ) → h ≡ kinds_below (word_kind words e) count
    → states ≡ states_by e → clocks ≡ clocks_for e.sort k
    → started ≡ started_for e.sort k
    → ◌≡◌ {A =
    Head} (record {
      states = states;
      start = 0;
      ins = h.ins;
      outs = h.outs;
      uins = h.uins;
      uouts = h.uouts;
      clocks = clocks;
      started = started;
    }) (as_head (plant_of words count e k))
unfolding as_head plant_of
head-by words count e k h states clocks started p q r s = rw (p, q, r, s)
