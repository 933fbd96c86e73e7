use Rattle.std.proofs.Common.{[]}
use Rattle.bit_lists.proofs.Places.{listed}
use Rattle.bit_lists.proofs.bits.Bits.at_place.Goals as goal

pub returns-clause-long : goal.returns-clause-long
returns-clause-long c = (listed c.args.count c.args.place [] c.requires.below).0

pub returns-clause-place : goal.returns-clause-place
returns-clause-place c = (listed c.args.count c.args.place [] c.requires.below).1
