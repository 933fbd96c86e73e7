use Rattle.state_update.proofs.RunLemmas.{run_input, run_accepted, run_before, run_entries, run_entries_before}
use Rattle.state_update.proofs.sliced.SlicedState.run_events.Goals as goal

pub returns-clause-input : goal.returns-clause-input
returns-clause-input c = let h = c.run_in_turn-answer.ensures in run_input c.args.self.now c.run_in_turn-answer.new.self c.args.list.now (λ rs. rs.items) c.run_in_turn-answer.result h.runs h.stops

pub returns-clause-accepted : goal.returns-clause-accepted
returns-clause-accepted c = run_accepted c.args.self.now c.run_in_turn-answer.new.self c.args.list.now (λ rs. rs.items) c.run_in_turn-answer.result c.run_in_turn-answer.ensures.runs

pub returns-clause-accepted_before : goal.returns-clause-accepted_before
returns-clause-accepted_before c = run_before c.args.self.now c.run_in_turn-answer.new.self c.args.list.now c.run_in_turn-answer.result c.run_in_turn-answer.ensures.stops

pub returns-clause-entries : goal.returns-clause-entries
returns-clause-entries c = run_entries c.args.self.now c.run_in_turn-answer.new.self c.args.list.now (λ rs. rs.items) c.run_in_turn-answer.result c.run_in_turn-answer.ensures.runs

pub returns-clause-entries_before : goal.returns-clause-entries_before
returns-clause-entries_before c = run_entries_before c.args.self.now c.run_in_turn-answer.new.self c.args.list.now c.run_in_turn-answer.result c.run_in_turn-answer.ensures.stops
