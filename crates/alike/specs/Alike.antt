-- What stays as it was where two neighbours of a system are merged (02, 11/13: "Merging must not matter").
use Rattle.std.specs.Prelude.{◌≡◌, List, ◌∷◌, ℕ}
use Rattle.answer.specs.Told.{Told, Answer, answered, refused}
use Rattle.model.specs.Model.{Comp, Model}
use Rattle.iosa.specs.Product.{product, state_of, Within, Series}
use Rattle.iosa.specs.Orders.{Settling}
use Rattle.merged.specs.MergedAs.{Replaced, Small}
use Rattle.merged.specs.MergedExactly.{paired_at}

-- "where the merge isn't refused": n is m with the product of i and i+1 in their place, and keeps the limits
pub record MergedInto (m : Model) (i : ℕ) (n : Model) : Type 0 where
  pub replaced : Replaced m i n
  pub small : Small n i

-- "the same verdict, count, resets and trace, the end state read through the pair numbering": d is of m, and e of m merged at i
pub record SameSettling (m : Model) (i : ℕ) (d e : Settling (List ℕ)) : Type 0 where
  pub verdict : e.stable ≡ d.stable
  pub count : e.steps ≡ d.steps
  pub resets : e.resets ≡ d.resets
  pub trace : e.trace ≡ d.trace
  pub end : e.state ≡ paired_at m i d.state

-- both settle, and the same; or both are refused, with one number and place
pub data SameAnswer (m : Model) (i : ℕ) : Answer (Settling (List ℕ)) → Answer (Settling (List ℕ)) → Type 0 where
  both_settle : {d e : Settling (List ℕ)} → SameSettling m i d e → SameAnswer m i (answered d) (answered e)
  both-refuse : {t : Told} → SameAnswer m i (refused t) (refused t)

-- a series of the merged e, es from the pairs of s to y is one of c, cs, to the state whose pairs y has
pub record SeriesBefore (c : Comp) (cs : List Comp) (i : ℕ) (e : Comp) (es : List Comp) (s l : List ℕ) (R : ℕ) (y : (product e es).State) : Type 0 where
  pub last : List ℕ
  pub within : Within (c ∷ cs) last
  pub state : y ≡ state_of e es (paired_at (c ∷ cs) i last)
  pub series : Series (product c cs) (state_of c cs s) l R (state_of c cs last)
