use Rattle.std.proofs.Common.{◌≤◌, length, take}
use Rattle.std.specs.Prelude.{vec_capacity}
use Rattle.state_update.specs.Events.{Runs}
use Rattle.state_update.proofs.sliced.SlicedState.run_in_turn.Given as goal

-- the events so far ran, and there is room for the report of each
abbrev pub invariant-events : goal.invariant-events
invariant-events l = record { room : length l.list ≤ vec_capacity l.reports; runs : Runs l.fn.self (take l.e-index l.list) l.reports.items l.self }
