-- Signals, roles, kinds and moves as the code has them, and what they are in the definitions.
use Rattle.std.proofs.Math.Option.{Option, none, some}
use Rattle.std.specs.Prelude.{List, [], ◌∷◌, ℕ, Option as Answered, Some, None}
use Rattle.model.specs.Text.{Kind as TheKind, in-kind, out-kind, uin-kind, uout-kind}
use Rattle.trees.specs.Module.{Move as TheMove}
use Rattle.trees.specs.Tree.{Element, and-sort, Signal as TheSignal, fl, up, f, u, r, Meaning}
use Rattle.trees.specs.Modules.{GateRole as TheGateRole, own-f, own-u, f0, u0, f1, u1, tick}
use Rattle.roles.specs.declared.Signal.{Signal}
use Rattle.roles.specs.declared.Signal.TheVariants as OfSignal
use Rattle.roles.specs.declared.Kind.{Kind}
use Rattle.roles.specs.declared.Kind.TheVariants as OfKind
use Rattle.roles.specs.declared.GateRole.{GateRole}
use Rattle.roles.specs.declared.GateRole.TheVariants as OfRole
use Rattle.roles.specs.declared.Move.{Move}

abbrev pub signal_is : Signal → TheSignal
signal_is OfSignal.Fl = fl
signal_is OfSignal.Up = up
signal_is OfSignal.F = f
signal_is OfSignal.U = u
signal_is OfSignal.R = r

abbrev pub kind_as : Kind → TheKind
kind_as OfKind.In = in-kind
kind_as OfKind.Out = out-kind
kind_as OfKind.Uin = uin-kind
kind_as OfKind.Uout = uout-kind

-- a kind, or none of a module's actions
abbrev pub kind_is : Answered Kind → Option TheKind
kind_is None = none
kind_is (Some k) = some (kind_as k)

abbrev pub move_as : Move → TheMove
move_as m = record { guard = m.guard; resets = m.resets; target = m.target }

-- where an action leads, if it leads anywhere
abbrev pub move_is : Answered Move → Option TheMove
move_is None = none
move_is (Some m) = some (move_as m)

abbrev pub gate_as : GateRole → TheGateRole
gate_as OfRole.OwnF = own-f
gate_as OfRole.OwnU = own-u
gate_as OfRole.F0 = f0
gate_as OfRole.U0 = u0
gate_as OfRole.F1 = f1
gate_as OfRole.U1 = u1
gate_as OfRole.Tick = tick

abbrev pub gate_is : Answered GateRole → Option TheGateRole
gate_is None = none
gate_is (Some x) = some (gate_as x)

abbrev pub told_as : GateRole → GateRole → Signal → Answered GateRole
told_as a b OfSignal.Fl = None
told_as a b OfSignal.Up = None
told_as a b OfSignal.F = Some a
told_as a b OfSignal.U = Some b
told_as a b OfSignal.R = None

-- a gate by its number and its inputs; its role asks for nothing else
abbrev pub gate_of : ℕ → ℕ → ℕ → Element
gate_of number first second = record { sort = and-sort; number = number; ins = first ∷ second ∷ [] }

abbrev pub meant_as : ℕ → Signal → Meaning
meant_as of signal = record { of = of; signal = signal_is signal }
