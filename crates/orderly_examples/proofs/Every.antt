-- The examples of 02, 8/13, all of them as one table: every case asks and answers as it says.
use mathlib.Core.Path.{◌∙◌, sym, ap₂}
use mathlib.Core.List.{List, ◌++◌, map-append}
use Rattle.orderly_examples.specs.Examples.{Case, Hold, examples, confluent_systems, let_through, let_through_too, walked, settled_after}
use Rattle.orderly_examples.specs.Examples.{refused_by_both, must_be_refused, must_be_refused_too}
use Rattle.orderly_examples.proofs.Passing.{confluent-systems-hold, let-through-hold, let-through-too-hold}
use Rattle.orderly_examples.proofs.Refusing.{refused-by-both-hold, must-be-refused-hold, must-be-refused-too-hold}
use Rattle.orderly_examples.proofs.Paths.{walked-hold, settled-after-hold}

-- one table behind the other
both : (cs ds : List Case) → Hold cs → Hold ds → Hold (cs ++ ds)
both cs ds p q = map-append _ cs ds ∙ ap₂ ◌++◌ p q ∙ sym (map-append _ cs ds)

pub examples-hold : Hold examples
examples-hold =
    let b = both confluent_systems let_through confluent-systems-hold let-through-hold in
    let c = both (confluent_systems ++ let_through) let_through_too b let-through-too-hold in
    let d = both (confluent_systems ++ let_through ++ let_through_too) refused_by_both c refused-by-both-hold in
    let e = both (confluent_systems ++ let_through ++ let_through_too ++ refused_by_both) must_be_refused d must-be-refused-hold in
    let f = both (confluent_systems ++ let_through ++ let_through_too ++ refused_by_both ++ must_be_refused) must_be_refused_too e must-be-refused-too-hold in
    let g = both (confluent_systems ++ let_through ++ let_through_too ++ refused_by_both ++ must_be_refused ++ must_be_refused_too) walked f walked-hold in
    both (confluent_systems ++ let_through ++ let_through_too ++ refused_by_both ++ must_be_refused ++ must_be_refused_too ++ walked) settled_after g settled-after-hold
