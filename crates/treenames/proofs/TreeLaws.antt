-- 2, 4 and 6 first: what the lines are refused for is answered; else there is a tree.
use mathlib.Core.Path.{◌≡◌, refl}
use mathlib.Core.Option.{Option, none, some}
use mathlib.Core.List.{List}
use Prim.Native.Nat.{ℕ}
use native.Mathlib.Omega.{arith}
use lib.ListN.{length}
use Rattle.answer.specs.declared.Refusal.{Refusal}
use Rattle.std.specs.Prelude.{Ok, Err}
use Rattle.answer.specs.Told.{Told, told, Answer, answered, refused, as_refused, says_checked, done_of}
use Rattle.trees.specs.Tree.{Tree}
use Rattle.trees.specs.TreeText.{all_known, lines_from, tree_of}
use Rattle.treenames.specs.Names.{LinesOf}

refused-first : (o : Option Told) (a : Answer Tree) → as_refused o ≡ some (done_of a) → as_refused {A = Unit {0}} o ≡ some (done_of (all_known a))
refused-first none a e = absurd (let z : ◌≡◌ {A = ℕ} 0 1 = cc in omega arith)
refused-first (some f) (answered t) e = absurd (let z : ◌≡◌ {A = ℕ} 0 1 = cc in omega arith)
refused-first (some f) (refused g) e = e

pub lines-refused : (text : List ℕ) (q : Refusal) → says_checked (Err q) ≡ some (done_of (lines_from (length text) 1 0 text))
    → says_checked (Err q) ≡ some (done_of (tree_of text))
unfolding says_checked tree_of
lines-refused text q e = refused-first (told q) (lines_from (length text) 1 0 text) e

pub lines-fine : (text : List ℕ) → says_checked (Ok tt) ≡ some (done_of (lines_from (length text) 1 0 text)) → (t : Tree) × LinesOf text t
unfolding says_checked
lines-fine text e = go (lines_from (length text) 1 0 text) refl e
  where
    go : (a : Answer Tree) → lines_from (length text) 1 0 text ≡ a → some (answered tt) ≡ some (done_of a) → (t : Tree) × LinesOf text t
    go (answered t) q e = (t, q)
    go (refused f) q e = absurd (let z : ◌≡◌ {A = ℕ} 0 1 = cc in omega arith)
