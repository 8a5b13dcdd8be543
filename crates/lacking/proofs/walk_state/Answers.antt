-- `lacking::walk_state`: nothing where nothing lacks, else the set.
use mathlib.Core.Path.{sym, ◌∙◌, ap, subst}
use native.Mathlib.Omega.{arith}
use Rattle.rows.proofs.Ready.{next-ready}
use Rattle.lacking.specs.Walk.{Roomy, walked, out_of, cells_in}
use Rattle.lacking.proofs.WalkLaws.{nothing-lacks}
use Rattle.lacking.proofs.walk_state.Goals as goal

pub lacking_at-lacking-requires : goal.lacking_at-lacking-requires
lacking_at-lacking-requires c = (c.requires.0, c.requires.1, c.requires.2)

pub returns-then-lacking-eq0 : goal.returns-then-lacking-eq0
returns-then-lacking-eq0 c = sym (nothing-lacks _ _ _ _ _ (sym c.lacking_at-lacking.ensures ∙ c.if-lacking-eq0.true))

pub walk_set-requires : goal.walk_set-requires
walk_set-requires c = let r = next-ready _ c.requires.0 _ c.requires.1 _ c.requires.2 in (
  r.1,
  omega (arith, r.2),
  subst (λ l. Roomy c.args.write
      (walked c.args.write (cells_in l c.args.i c.args.s) (out_of c.args.n c.args.list.now)))
      (sym c.lacking_at-lacking.ensures) c.requires.3,
)

pub returns : goal.returns
returns c = c.walk_set.ensures ∙ ap (λ x. walked c.args.write (cells_in x c.args.i c.args.s) (out_of c.args.n c.args.list.now))
    c.lacking_at-lacking.ensures
