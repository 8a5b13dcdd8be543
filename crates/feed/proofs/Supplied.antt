-- Cursors at the first samples of lists supply what the lists do, and places of distributions what draws do; and how it is told that samples ran out.
use mathlib.Core.Path.{◌≡◌, refl, sym, ap}
use mathlib.Core.Option.{Option, some}
use mathlib.Core.List.{List, [], ◌∷◌}
use Prim.Native.Nat.{ℕ, ◌+◌}
use native.Mathlib.Nat.{mul-zero}
use native.Mathlib.Omega.{arith}
use lib.ListN.{get_or, length-replicate, get_or-replicate}
use Rattle.answer.specs.Limits.{max_clocks}
use Rattle.answer.specs.Told.{tell, told}
use Rattle.answer.specs.declared.Place.TheVariants as OfPlace
use Rattle.simulation.specs.Simulate.{none_taken}
use Rattle.simulation.specs.Samples.{nth, recorded}
use Rattle.samples.specs.Text.{Feeds}
use Rattle.draw.specs.declared.Law.{Law}
use Rattle.drawing.specs.Draws.{lent as numbers_of, draw_of, draws}
use Rattle.distributions.specs.Found.{law_in}
use Rattle.distributions.specs.Text.{Placed}
use Rattle.sampling.specs.Sampling.{takes_of}
use Rattle.feed.specs.declared.Source.{Source}
use Rattle.feed.specs.declared.Source.TheVariants.{Lists, Draws}
use Rattle.feed.specs.Supply.{lent, ran_out_of, Supplies}

pub supplied-first : (t ns : List ℕ) (ls : List (List ℕ)) (at used : List ℕ) → Feeds t ls at → Supplies (lent Lists t ns) (recorded ls) none_taken at used
unfolding none_taken
supplied-first t ns ls at used b = record {
  counted = length-replicate {A = ℕ} max_clocks 0;
  number = refl;
  each = λ x h. rw (get_or-replicate {A = ℕ} max_clocks x 0 0 h) (record { samples = get_or ls x []; left = b.each x h; each = λ j. let e : 0 + j ≡ j = omega arith in ap (λ n. nth (get_or ls x []) n) e });
}

-- places of distributions, no number used yet, supply what draws do
pub supplied-drawn : (t ns : List ℕ) (ls : List (Option Law)) (at : List ℕ) → Placed t ls at → Supplies (lent Draws t ns) (draws ls ns) none_taken at none_taken
unfolding none_taken
supplied-drawn t ns ls at b = record {
  counted = length-replicate {A = ℕ} max_clocks 0;
  number = refl;
  each = λ x h. rw (get_or-replicate {A = ℕ} max_clocks x 0 0 h) (record {
    taken = sym (mul-zero (takes_of (law_in t (get_or at x 0))));
    each = λ j. ap (λ o. draw_of o (numbers_of ns x) j) (sym (b.each x h));
  });
}

-- at a clock
pub ran-out-told : (from : Source) (x : ℕ) → told (record { number = ran_out_of from; place = OfPlace.Clock x }) ≡ some (tell (ran_out_of from) (x ∷ []))
unfolding told
ran-out-told Lists x = refl
ran-out-told Draws x = refl
