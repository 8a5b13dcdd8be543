-- The lines of a simulation by the parts in which they are put.
use mathlib.Core.Path.{◌≡◌, refl, sym, ◌∙◌, ap}
use mathlib.Core.Bool.{Bool, true, false, cond}
use mathlib.Core.List.{List, [], ◌∷◌, ◌++◌}
use Prim.Native.Nat.{ℕ}
use lib.IntN.{ℤ, pos, nat_abs}
use lib.Signed.{lt_z}
use Rattle.laws.specs.Sets.{has}
use Rattle.model.specs.Text.{tab, lf, dash, decimal, joined, guard_field, set_field, fields_after}
use Rattle.iosa.specs.TimedExactly.{value_of}
use Rattle.roundlines.specs.Lines.{long, signed, done_word, clock_word, done_line, clock_with, clock_line, clock_part, clock_lines, ended_text, fired_of, stood_of, round_line}

pub below_parts : (b : Bool) (n : ℕ) → b ≡ true → signed b n ≡ (dash ∷ []) ++ long n
unfolding signed
below_parts b n e = rw (e, signed) refl

pub own-parts : (b : Bool) (n : ℕ) → b ≡ false → signed b n ≡ long n
unfolding signed
own-parts b n e = rw (e, signed) refl

pub clock-parts : (x : ℕ) (v : List ℕ) → clock_with x v ≡ clock_word ++ ((tab ∷ decimal x) ++ ((tab ∷ []) ++ (v ++ (lf ∷ []))))
unfolding clock_with fields_after
clock-parts x v = refl

pub done-parts : (k : ℕ) (s : List ℕ) → done_line k s ≡ done_word ++ ((tab ∷ decimal k) ++ ((tab ∷ []) ++ (joined s ++ (lf ∷ []))))
unfolding done_line fields_after
done-parts k s = refl

pub fired-parts : (k v g : ℕ) → fired_of k v g ≡ decimal k ++ ((tab ∷ []) ++ (long v ++ ((tab ∷ []) ++ guard_field g)))
unfolding fired_of
fired-parts k v g = refl

pub stood-parts : (s : List ℕ) (w : ℕ) → stood_of s w ≡ (tab ∷ []) ++ (joined s ++ ((tab ∷ []) ++ (set_field w ++ (lf ∷ []))))
unfolding stood_of fields_after
stood-parts s w = refl

pub round-parts : (k v g : ℕ) (s : List ℕ) (w : ℕ) → round_line k v g s w ≡ fired_of k v g ++ stood_of s w
unfolding round_line
round-parts k v g s w = refl

pub ended-parts : (k : ℕ) (s : List ℕ) (d : ℕ) (vs : List ℤ) → ended_text k s d vs ≡ done_line k s ++ clock_lines d vs
unfolding ended_text
ended-parts k s d vs = refl

pub no-clock : (d : ℕ) (vs : List ℤ) (x : ℕ) → has d x ≡ false → clock_part d vs x ≡ []
unfolding clock_part
no-clock d vs x e = rw (e, clock_part) refl

pub its-clock : (d : ℕ) (vs : List ℤ) (x : ℕ) → has d x ≡ true → clock_part d vs x ≡ clock_line x (value_of vs x)
unfolding clock_part
its-clock d vs x e = rw (e, clock_part) refl

-- with the value through a machine's word, and its size
pub clock-as : (d : ℕ) (vs : List ℤ) (x : ℕ) → has d x ≡ true → (y : ℤ) (n : ℕ) → y ≡ value_of vs x → n ≡ nat_abs y
    → clock_part d vs x ≡ clock_with x (signed (lt_z y (pos 0)) n)
clock-as d vs x h y n e f =
    its-clock d vs x h ∙ ap (λ (z : ℤ). clock_with x (signed (lt_z z (pos 0)) (nat_abs z))) (sym e)
    ∙ ap (λ k. clock_with x (signed (lt_z y (pos 0)) k)) (sym f)
