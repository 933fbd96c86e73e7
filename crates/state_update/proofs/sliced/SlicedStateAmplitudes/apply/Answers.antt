use Rattle.state_update.proofs.sliced.SlicedStateAmplitudes.apply.Goals as goal

pub returns-clause-accepts : goal.returns-clause-accepts
returns-clause-accepts c = c.proceed.ensures.accepts

pub returns-clause-stops : goal.returns-clause-stops
returns-clause-stops c = c.proceed.ensures.stops

pub returns-clause-in_force : goal.returns-clause-in_force
returns-clause-in_force c = c.proceed.ensures.in_force

pub returns-clause-refused : goal.returns-clause-refused
returns-clause-refused c = c.proceed.ensures.refused

pub returns-clause-order : goal.returns-clause-order
returns-clause-order c = c.proceed.ensures.order

pub returns-clause-after_reclaim : goal.returns-clause-after_reclaim
returns-clause-after_reclaim c = c.proceed.ensures.after_reclaim
