-- `tell::put_numbers` meets its contract: what is put, and the numbers that are left, make the whole.
use mathlib.Core.Path.{◌≡◌, ◌∙◌, ap, sym}
use mathlib.Core.List.{List, [], ◌∷◌, ◌++◌}
use Prim.Native.Nat.{ℕ, ◌+◌, ◌≤◌, ◌<◌}
use native.Mathlib.Numerals.{add-one}
use lib.ListN.{length, get_or, drop, drop_of_length-le}
use lib.Seq.{drop-cons}
use Rattle.model.specs.Text.{comma, decimal, joined}
use Rattle.print.specs.Put.{Room, Put}
use Rattle.print.proofs.LaidLaws.{Left, Next, left-all, left_as, left-room, left-next, left-none, left-last, last-room}
use Rattle.print.proofs.PrintLaws.{each, joined-each}
use Rattle.tell.proofs.put_numbers.Goals as goal

-- the first number, and the others behind it
module _ (o : List ℕ) (at n : ℕ) (ns : List ℕ) (r : Room o at (joined (n ∷ ns))) where
  first : Next o at (joined (n ∷ ns)) o at (decimal n) (each ns)
  first = left_as (left-all o at (joined (n ∷ ns)) r) (decimal n) (each ns) (joined-each n ns)

  others : {o1 : List ℕ} {p1 : ℕ} → Put o at (decimal n) o1 p1 → Left o at (joined (n ∷ ns)) o1 p1 (each ns)
  others p = left-next first p

-- a further number, in the loop
further : (ns : List ℕ) (i : ℕ) {o : List ℕ} {at : ℕ} {whole m : List ℕ} {here : ℕ} → Left o at whole m here (each (drop i ns)) → i < length ns
    → Next o at whole m here (comma ∷ decimal (get_or ns i 0)) (each (drop (i + 1) ns))
unfolding each
further ns i l h =
    left_as l (comma ∷ decimal (get_or ns i 0)) (each (drop (i + 1) ns))
    (ap each (drop-cons ns i 0 h) ∙ ap (λ k. (comma ∷ decimal (get_or ns i 0)) ++ each (drop k ns)) (sym (add-one i)))

none_further : (ns : List ℕ) (i : ℕ) → length ns ≤ i → each (drop i ns) ≡ []
unfolding each
none_further ns i h = ap each (drop_of_length-le ns h)

pub put_decimal-next-requires : goal.put_decimal-next-requires
put_decimal-next-requires c = left-room (first c.args.out.now c.args.at c.args.first c.args.rest.now c.requires)

pub loop-n-init : goal.loop-n-init
loop-n-init c = left-all _ _ _ (last-room (others c.args.out.now c.args.at c.args.first c.args.rest.now c.requires c.put_decimal-next.ensures))

pub put_behind-next-requires : goal.put_behind-next-requires
put_behind-next-requires c = left-room (further c.args.rest.now c.loop-n.n-index c.loop-n.invariant c.loop-n-test.true)

pub loop-n-preserved : goal.loop-n-preserved
loop-n-preserved c = left-next (further c.args.rest.now c.loop-n.n-index c.loop-n.invariant c.loop-n-test.true) c.put_behind-next.ensures

pub returns : goal.returns
returns c =
    left-last (others c.args.out.now c.args.at c.args.first c.args.rest.now c.requires c.put_decimal-next.ensures)
    (left-none c.loop-n.invariant (none_further c.args.rest.now c.loop-n.n-index c.loop-n-test.false))
