use Rattle.std.proofs.Common.{true, false, ap, sym, ◌∙◌}
use Rattle.snapshot.specs.Sheets.{node_text}
use Rattle.snapshot.specs.Private.{parts_line}
use Rattle.snapshot.proofs.Listing.{some_line, none_line}
use Rattle.snapshot.proofs.saving.line_of.Goals as goal

pub number-low-requires : goal.number-low-requires
number-low-requires c = c.requires.kept.closed c.args.n.0 c.in-Some.parts false c.requires.there (sym c.parts_of.ensures.parts ∙ c.in-Some.is)

pub number-high-requires : goal.number-high-requires
number-high-requires c = c.requires.kept.closed c.args.n.0 c.in-Some.parts true c.requires.there (sym c.parts_of.ensures.parts ∙ c.in-Some.is)

pub returns-in-Some : goal.returns-in-Some
returns-in-Some c =
    c.node_line.ensures ∙ ap node_text (some_line c.args.seen.now.nodes c.in-Some.parts c.number-low.result c.number-high.result c.number-low.ensures c.number-high.ensures ∙ ap (parts_line c.args.seen.now.nodes) (sym (sym c.parts_of.ensures.parts ∙ c.in-Some.is)))

pub returns-in-None : goal.returns-in-None
returns-in-None c = c.node_line-in-None.ensures ∙ ap node_text (none_line c.args.seen.now.nodes ∙ ap (parts_line c.args.seen.now.nodes) (sym (sym c.parts_of.ensures.parts ∙ c.in-None.is)))
