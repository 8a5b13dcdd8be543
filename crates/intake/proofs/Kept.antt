-- What a change of words keeps: the length of the table, and the words behind those that it changes.
use mathlib.Core.Path.{◌≡◌, refl, sym, ◌∙◌, ap}
use mathlib.Core.List.{List, [], ◌∷◌}
use Prim.Native.Nat.{ℕ, suc, ◌+◌, ◌-◌, ◌≤◌, ◌<◌}
use native.Mathlib.Omega.{arith}
use lib.ListN.{length, get_or, set, drop, length-set, length-drop}
use lib.Seq.{sets, drop-set-lt, get_or-drop, ext_get_or}
use Rattle.laws.specs.Sets.{◌∪◌, only}
use Rattle.fields.specs.declared.Kind.{Kind}
use Rattle.fields.specs.declared.Kind.TheVariants as OfKind
use Rattle.reading.specs.Changes.{Joined, Raised, Filled}
use Rattle.intake.specs.Change.{set_word}

pub set-word-most : (k : Kind) → set_word k ≤ 5
set-word-most OfKind.In = omega arith
set-word-most OfKind.Out = omega arith
set-word-most OfKind.Uin = omega arith
set-word-most OfKind.Uout = omega arith

-- the words from n on are as they were, and none is more or less
pub record Kept (n : ℕ) (d d' : List ℕ) : Type 0 where
  pub rest : drop n d' ≡ drop n d
  pub long : length d' ≡ length d

pub kept_on : {n : ℕ} {d e f : List ℕ} → Kept n d e → Kept n e f → Kept n d f
kept_on a b = record { rest = b.rest ∙ a.rest; long = b.long ∙ a.long }

pub kept_by : (n : ℕ) (d d' : List ℕ) → length d' ≡ length d → ((j : ℕ) → n ≤ j → get_or d' j 0 ≡ get_or d j 0) → Kept n d d'
kept_by n d d' l f = record {
  rest =
      ext_get_or 0 (drop n d') (drop n d) (length-drop n d' ∙ ap (λ k. k - n) l ∙ sym (length-drop n d))
      (λ i h. get_or-drop n d' i 0 ∙ f (n + i) (omega arith) ∙ sym (get_or-drop n d i 0));
  long = l;
}

pub set-kept : (n : ℕ) (d : List ℕ) (at v : ℕ) → at < n → Kept n d (set d at v)
set-kept n d at v h = record { rest = drop-set-lt n d at v h; long = length-set d at v }

pub sets-kept : (n : ℕ) (d : List ℕ) (at : ℕ) (vs : List ℕ) → at + length vs ≤ n → Kept n d (sets d at vs)
sets-kept n d at [] h = record { rest = refl; long = refl }
sets-kept n d at (v ∷ vs) h = kept_on (set-kept n d at v (omega arith)) (sets-kept n (set d at v) (suc at) vs (omega arith))

pub joined-kept : {n : ℕ} {d : List ℕ} {at x : ℕ} {d' : List ℕ} → Joined d at x d' → at < n → Kept n d d'
joined-kept {n} {d} {at} {x} j h = rw j.words (set-kept n d at (get_or d at 0 ∪ only x) h)

pub filled-kept : {n : ℕ} {d : List ℕ} {lo hi v : ℕ} {d' : List ℕ} → Filled d lo hi v d' → hi ≤ n → Kept n d d'
filled-kept {n} {d} {d' = d'} f h = kept_by n d d' f.long (λ j l. f.behind j (omega arith))

pub raised-kept : {n : ℕ} {d : List ℕ} {lo hi : ℕ} {d' : List ℕ} → Raised d lo hi d' → hi ≤ n → Kept n d d'
raised-kept {n} {d} {d' = d'} f h = kept_by n d d' f.long (λ j l. f.behind j (omega arith))
