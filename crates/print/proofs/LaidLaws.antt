-- Putting bytes one after the other is putting them joined: the one law by which a text is put together from its fields, its lines and its parts.
use mathlib.Core.Path.{◌≡◌, refl, sym, ◌∙◌, ap, ap₂}
use mathlib.Core.List.{List, [], ◌∷◌, ◌++◌, append_assoc, append-nil}
use Prim.Native.Nat.{ℕ, suc, ◌+◌, ◌<◌}
use native.Mathlib.Omega.{arith}
use lib.ListN.{length, take, drop, set, length-append, length-drop, take-append-drop}
use lib.Seq.{length-take-le, take_at, drop_at, drop-drop, set_split}
use Rattle.print.specs.Put.{laid, Room, Put}

-- what stands before the place, with the bytes
front_length : (old : List ℕ) (at : ℕ) (bytes : List ℕ) → Room old at bytes → length (take at old ++ bytes) ≡ at + length bytes
front_length old at bytes h = omega (arith, length-append (take at old) bytes, length-take-le at old (omega arith))

pub laid-length : (old : List ℕ) (at : ℕ) (bytes : List ℕ) → Room old at bytes → length (laid old at bytes) ≡ length old
unfolding laid
laid-length old at bytes h =
    omega (arith, length-append (take at old ++ bytes) (drop (at + length bytes) old), front_length old at bytes h, length-drop (at + length bytes) old)

pub laid_none : (old : List ℕ) (at : ℕ) → laid old at [] ≡ old
unfolding laid
laid_none old at = let e : at + 0 ≡ at = omega arith in rw (e, append-nil) (take-append-drop at old)

-- bytes behind bytes
pub laid_more : (old : List ℕ) (at : ℕ) (a b : List ℕ) → Room old at a → laid (laid old at a) (at + length a) b ≡ laid old at (a ++ b)
unfolding laid
laid_more old at a b h =
    let n = at + length a in
    let f = front_length old at a h in
    let p = take at old ++ a in
    let e : n + length b ≡ at + length (a ++ b) = omega (arith, length-append a b) in
    let later : drop (n + length b) (p ++ drop n old) ≡ drop (at + length (a ++ b)) old =
    sym (drop-drop (length b) n (p ++ drop n old)) ∙ ap (drop (length b)) (drop_at p (drop n old) n f) ∙ drop-drop (length b) n old
    ∙ ap (λ k. drop k old) e in
    ap₂ (λ q r. q ++ b ++ r) (take_at p (drop n old) n f) later ∙ ap (λ q. q ++ drop (at + length (a ++ b)) old) (append_assoc (take at old) a b)

-- a store is one byte put
pub stored : (old : List ℕ) (at v next : ℕ) → at < length old → next ≡ at + 1 → Put old at (v ∷ []) (set old at v) next
unfolding laid
stored old at v next h e =
    let n : suc at ≡ at + 1 = omega arith in
    record {
      buffer = set_split old at v h ∙ ap (λ k. take at old ++ v ∷ drop k old) n ∙ sym (append_assoc (take at old) (v ∷ []) (drop (at + 1) old));
      place = e;
    }

pub nothing_put : (old : List ℕ) (at : ℕ) → Put old at [] old at
nothing_put old at = record { buffer = sym (laid_none old at); place = omega arith }

-- in whatever way the bytes are written
pub put_as : {old : List ℕ} {at : ℕ} {bytes new : List ℕ} {next : ℕ}
    → Put old at bytes new next → (other : List ℕ) → bytes ≡ other → Put old at other new next
put_as p other e = rw e at p

-- ---- what is left to put: with the rest put here, the whole is put where it began
pub record Left (old : List ℕ) (at : ℕ) (whole now : List ℕ) (here : ℕ) (rest : List ℕ) : Type 0 where
  pub room : Room old at whole
  pub same : laid now here rest ≡ laid old at whole
  pub end : here + length rest ≡ at + length whole
  pub long : length now ≡ length old

pub left-all : (old : List ℕ) (at : ℕ) (whole : List ℕ) → Room old at whole → Left old at whole old at whole
left-all old at whole h = record { room = h; same = refl; end = refl; long = refl }

-- what is put next, a, and what is left behind it, b
pub record Next (old : List ℕ) (at : ℕ) (whole now : List ℕ) (here : ℕ) (a b : List ℕ) : Type 0 where
  pub both : Left old at whole now here (a ++ b)

pub left_as : {old : List ℕ} {at : ℕ} {whole now : List ℕ} {here : ℕ} {rest : List ℕ}
    → Left old at whole now here rest → (a b : List ℕ) → rest ≡ a ++ b → Next old at whole now here a b
left_as l a b e = record { both = rw e at l }

module _ {old : List ℕ} {at : ℕ} {whole now : List ℕ} {here : ℕ} {a b : List ℕ} (l : Next old at whole now here a b) where
  pub left-room : Room now here a
  left-room = omega (arith, l.both.room, l.both.end, l.both.long, length-append a b)

  pub left-next : {new : List ℕ} {next : ℕ} → Put now here a new next → Left old at whole new next b
  left-next {new} {next} p =
      record {
        room = l.both.room;
        same = rw (p.buffer, p.place) (laid_more now here a b left-room) ∙ l.both.same;
        end = omega (arith, l.both.end, p.place, length-append a b);
        long = ap length p.buffer ∙ laid-length now here a left-room ∙ l.both.long;
      }

pub left-none : {old : List ℕ} {at : ℕ} {whole now : List ℕ} {here : ℕ} {rest : List ℕ}
    → Left old at whole now here rest → rest ≡ [] → Put old at whole now here
left-none {old} {at} {whole} {now} {here} {rest} l e =
    record { buffer = sym (laid_none now here) ∙ ap (laid now here) (sym e) ∙ l.same; place = omega (arith, l.end, ap length e) }

-- what is left is the last part
pub left-last : {old : List ℕ} {at : ℕ} {whole now : List ℕ} {here : ℕ} {a : List ℕ}
    → Left old at whole now here a → {new : List ℕ} {next : ℕ} → Put now here a new next → Put old at whole new next
left-last {a = a} l p = left-none (left-next (left_as l a [] (sym (append-nil a))) p) refl

pub last-room : {old : List ℕ} {at : ℕ} {whole now : List ℕ} {here : ℕ} {a : List ℕ} → Left old at whole now here a → Room now here a
last-room l = omega (arith, l.room, l.end, l.long)

-- ---- parts put one after the other: what is left is a part and what stands behind it
pub left_is : {old : List ℕ} {at : ℕ} {whole now : List ℕ} {here : ℕ} {rest : List ℕ}
    → Left old at whole now here rest → (other : List ℕ) → rest ≡ other → Left old at whole now here other
left_is l other e = rw e at l

-- nothing is put yet, and the whole is these parts
pub left-parts : {whole : List ℕ} (old : List ℕ) (at : ℕ) (parts : List ℕ) → whole ≡ parts → Room old at whole → Left old at whole old at parts
left-parts {whole} old at parts e h = left_is (left-all old at whole h) parts e

module _ {old : List ℕ} {at : ℕ} {whole now : List ℕ} {here : ℕ} (a r : List ℕ) (l : Left old at whole now here (a ++ r)) where
  pub part_room : Room now here a
  part_room = left-room {a = a} {b = r} (record { both = l })

  pub part-put : {new : List ℕ} {next : ℕ} → Put now here a new next → Left old at whole new next r
  part-put p = left-next {a = a} {b = r} (record { both = l }) p

pub put-length : {old : List ℕ} {at : ℕ} {bytes new : List ℕ} {next : ℕ} → Put old at bytes new next → Room old at bytes → length new ≡ length old
put-length {old} {at} {bytes} p h = ap length p.buffer ∙ laid-length old at bytes h
