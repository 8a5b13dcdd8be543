-- `converting::put_converted`: the converted text stands there already, or the line of the refusal is put.
use mathlib.Core.Path.{subst}
use mathlib.Core.List.{List}
use Prim.Native.Nat.{ℕ}
use Rattle.tell.specs.Tell.{refused_text}
use Rattle.printout.specs.Printed.{Printed}
use Rattle.printout.proofs.Printing.{printed-line}
use Rattle.converting.proofs.ConvertedLaws.{Goes, goes, length-printed, refusal-there}
use Rattle.converting.proofs.put_converted.Goals as goal

pub returns-in-Ok : goal.returns-in-Ok
returns-in-Ok c o old h g = let new = c.args.out.now in
    length-printed o old new _ (subst (Goes o old new) c.in-Ok.is (goes o old new h _ g))

pub returns-in-Err : goal.returns-in-Err
returns-in-Err c o old h g = let new = c.args.out.now in
    let r = refusal-there o old new c.in-Err.f (subst (Goes o old new) c.in-Err.is (goes o old new h _ g)) in
    printed-line c.in-Err.f r.tells _ r.says r.line
    (subst (λ (b : List ℕ). Printed (refused_text c.in-Err.f) b c.put_refusal.new.out c.put_refusal.result) r.same c.put_refusal.ensures)
