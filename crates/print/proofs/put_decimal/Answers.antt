-- `print::put_decimal` meets its contract: digit by digit.
use mathlib.Core.List.{List, [], ◌∷◌, ◌++◌}
use Prim.Native.Nat.{ℕ, ◌+◌, ◌%◌}
use native.Mathlib.Omega.{arith}
use Rattle.model.specs.Text.{byte0, decimal}
use Rattle.print.specs.Put.{Room, Put, leading}
use Rattle.print.proofs.LaidLaws.{Left, left-parts, part_room, part-put, left-last, last-room}
use Rattle.print.proofs.PrintLaws.{decimal-parts}
use Rattle.print.proofs.put_decimal.Goals as goal

-- what is left of the number behind each digit
abbrev r4 : ℕ → List ℕ
r4 n = (byte0 + n % 10) ∷ []

abbrev r3 : ℕ → List ℕ
r3 n = leading n 10 ++ r4 n

abbrev r2 : ℕ → List ℕ
r2 n = leading n 100 ++ r3 n

abbrev r1 : ℕ → List ℕ
r1 n = leading n 1000 ++ r2 n

module _ (o : List ℕ) (at n : ℕ) (r : Room o at (decimal n)) where
  l0 : Left o at (decimal n) o at (leading n 10000 ++ r1 n)
  l0 = left-parts _ _ _ (decimal-parts n) r

  l1 : {o1 : List ℕ} {a : ℕ} → Put o at (leading n 10000) o1 a → Left o at (decimal n) o1 a (r1 n)
  l1 p = part-put (leading n 10000) _ l0 p

  l2 : {o1 o2 : List ℕ} {a b : ℕ} → Put o at (leading n 10000) o1 a → Put o1 a (leading n 1000) o2 b → Left o at (decimal n) o2 b (r2 n)
  l2 p q = part-put (leading n 1000) _ (l1 p) q

  l3 : {o1 o2 o3 : List ℕ} {a b d : ℕ} → Put o at (leading n 10000) o1 a → Put o1 a (leading n 1000) o2 b → Put o2 b (leading n 100) o3 d
      → Left o at (decimal n) o3 d (r3 n)
  l3 p q s = part-put (leading n 100) _ (l2 p q) s

  l4 : {o1 o2 o3 o4 : List ℕ} {a b d e : ℕ} → Put o at (leading n 10000) o1 a → Put o1 a (leading n 1000) o2 b → Put o2 b (leading n 100) o3 d
      → Put o3 d (leading n 10) o4 e → Left o at (decimal n) o4 e (r4 n)
  l4 p q s t = part-put (leading n 10) _ (l3 p q s) t

pub put_leading-a-requires : goal.put_leading-a-requires
put_leading-a-requires c = (omega arith, part_room (leading c.args.n 10000) _ (l0 c.args.out.now c.args.at c.args.n c.requires))

pub put_leading-b-requires : goal.put_leading-b-requires
put_leading-b-requires c =
    (omega arith, part_room (leading c.args.n 1000) _ (l1 c.args.out.now c.args.at c.args.n c.requires c.put_leading-a.ensures))

pub put_leading-c-requires : goal.put_leading-c-requires
put_leading-c-requires c =
    (omega arith, part_room (leading c.args.n 100) _ (l2 c.args.out.now c.args.at c.args.n c.requires c.put_leading-a.ensures c.put_leading-b.ensures))

pub put_leading-d-requires : goal.put_leading-d-requires
put_leading-d-requires c = (
  omega arith,
  part_room (leading c.args.n 10) _
      (l3 c.args.out.now c.args.at c.args.n c.requires c.put_leading-a.ensures c.put_leading-b.ensures c.put_leading-c.ensures),
)

pub put_byte-requires : goal.put_byte-requires
put_byte-requires c =
    let l = l4 c.args.out.now c.args.at c.args.n c.requires c.put_leading-a.ensures c.put_leading-b.ensures c.put_leading-c.ensures
    c.put_leading-d.ensures in
    omega (arith, last-room l)

pub returns : goal.returns
returns c =
    left-last (l4 c.args.out.now c.args.at c.args.n c.requires c.put_leading-a.ensures c.put_leading-b.ensures c.put_leading-c.ensures
    c.put_leading-d.ensures) c.put_byte.ensures
