-- Draws from the distributions of a file are 1 to 2^40.
use mathlib.Core.Path.{◌≡◌, refl, subst}
use mathlib.Core.Option.{Option, none, some, some_inj}
use mathlib.Core.List.{List, [], ◌∷◌}
use Prim.Native.Nat.{ℕ, zero, suc, ◌+◌, ◌*◌, ◌≤◌}
use lib.ListN.{get_or}
use lib.Dec.{T}
use Rattle.laws.proofs.SearchLaws.{no-some}
use Rattle.answer.specs.Limits.{max_ticks}
use Rattle.answer.specs.Told.{answered}
use Rattle.simulation.specs.Free.{Fair}
use Rattle.draw.specs.declared.Law.{Law}
use Rattle.draw.specs.declared.Law.TheVariants.{Uniform, Mixture}
use Rattle.draw.specs.Draw.{lawful}
use Rattle.draw.proofs.Cases.{law-between}
use Rattle.drawing.specs.File.{GoodFrom, FileAnswer, are}
use Rattle.drawing.specs.Draws.{lent, by_two, draw_from, takes, draw_at, draw_of, draws}

two-ticks : (l : Law) (o p : Option ℕ) (n : ℕ) → T (lawful l) → by_two l o p ≡ some n → (1 ≤ n) × (n ≤ max_ticks)
two-ticks l none p n h e = absurd (no-some refl e)
two-ticks l (some a) none n h e = absurd (no-some refl e)
two-ticks l (some a) (some b) n h e =
    let k = law-between l a b h in
    subst (λ y. (1 ≤ y) × (y ≤ max_ticks)) (some_inj.0 e) (k.one-at-least, k.in-ticks)

pub draw-ticks : (l : Law) (f : ℕ → Option ℕ) (u n : ℕ) → T (lawful l) → draw_from l f u ≡ some n → (1 ≤ n) × (n ≤ max_ticks)
unfolding draw_from
draw-ticks (Uniform a b) f u n h e = two-ticks (Uniform a b) (f u) (f u) n h e
draw-ticks (Mixture w a b c d) f u n h e = two-ticks (Mixture w a b c d) (f u) (f (u + 1)) n h e

clock-ticks : (d x : ℕ) (ls : List (Option Law)) → GoodFrom d x ls → (y : ℕ) (f : ℕ → Option ℕ) (j n : ℕ) → draw_of (get_or ls y none) f j ≡ some n
    → (1 ≤ n) × (n ≤ max_ticks)
unfolding draw_at
clock-ticks d x [] g y f j n e = absurd (no-some refl e)
clock-ticks d x (none ∷ os) g zero f j n e = absurd (no-some refl e)
clock-ticks d x (some l ∷ os) g zero f j n e = draw-ticks l f (takes l * j) n g.0.1.within e
clock-ticks d x (o ∷ os) g (suc y) f j n e = clock-ticks d (suc x) os g.1 y f j n e

pub draws-fair : {d : ℕ} {t : List ℕ} {ls : List (Option Law)} → FileAnswer d t (answered ls) → (ns : List ℕ) → Fair (draws ls ns)
draws-fair {d} {ls = ls} (are k) ns = record {
  least = λ x j n e. (clock-ticks d 0 ls k.good x (lent ns x) j n e).0;
  most = λ x j n e. (clock-ticks d 0 ls k.good x (lent ns x) j n e).1;
}
