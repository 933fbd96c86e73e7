use Rattle.std.proofs.Common.{◌≡◌, ◌≤◌, ◌+◌, length, sym, ◌∙◌, ap, arith}
use Rattle.std.specs.Option.{option_copied, ForSome}
use Rattle.std.proofs.lemmas.List.Sums.{count_by-le-length}
use Rattle.circuit_model.specs.Working.{work}
use Rattle.bit_lists.specs.Lists.{place_of}
use Rattle.probabilities.specs.Outcomes.{measured_count}
use Rattle.probabilities.specs.Private.{place_behind, place_or_end}
use Rattle.probabilities.proofs.PossibleLemmas.{behind_place, behind_long, behind_as, none_skipped, one_skipped, found_next, found_none}
use Rattle.probabilities.proofs.next.next_outcome_dense.Goals as goal

pub first_behind-next-requires-clause-few : goal.first_behind-next-requires-clause-few
first_behind-next-requires-clause-few c = omega (arith, c.measured_count.ensures, count_by-le-length (λ b. b) c.args.measured.now, c.len-few.ensures.value, c.len-few.ensures.few)

pub outcomes-init : goal.outcomes-init
outcomes-init c =
    let m = c.args.measured.now in
    let start = behind_as (option_copied c.args.after) c.first_behind-next.result c.measured_count.result (measured_count m) c.measured_count.ensures c.first_behind-next.ensures in
    record {
      skipped = none_skipped m (work c.args.s.now.gates c.args.s.now.input).entries (option_copied c.args.after) c.requires.given (place_or_end (measured_count m) c.first_behind-next.result) start.place;
      from = omega (arith, start.place);
      long = start.long;
    }

pub returns-then-is_possible-clause-found : goal.returns-then-is_possible-clause-found
returns-then-is_possible-clause-found c =
    let m = c.args.measured.now in
    let y = c.in-Some.y in
    let n = measured_count m in
    let so_far = c.outcomes.invariant in
    let place : place_or_end n c.outcomes.next ≡ place_of y = ap (place_or_end n) c.in-Some.is in
    found_next m (work c.args.s.now.gates c.args.s.now.input).entries (option_copied c.args.after) c.requires.given y (place_or_end n c.outcomes.next)
    (so_far.long y c.in-Some.is) place so_far.from (c.is_possible.ensures.yes c.if-is_possible.true) so_far.skipped

pub outcomes-preserved : goal.outcomes-preserved
outcomes-preserved c =
    let m = c.args.measured.now in
    let y = c.in-Some.y in
    let n = measured_count m in
    let so_far = c.outcomes.invariant in
    let long = so_far.long y c.in-Some.is in
    let place : place_or_end n c.outcomes.next ≡ place_of y = ap (place_or_end n) c.in-Some.is in
    let further : place_or_end n c.next_lex-next.result ≡ place_of y + 1 = behind_place n y c.next_lex-next.result long c.next_lex-next.ensures.place c.next_lex-next.ensures.none in
    record {
      skipped = one_skipped m (work c.args.s.now.gates c.args.s.now.input).entries (option_copied c.args.after) c.requires.given y (place_or_end n c.outcomes.next) (place_or_end n c.next_lex-next.result)
          long place further (c.is_possible.ensures.no c.if-is_possible.false) so_far.skipped;
      from = omega (arith, so_far.from, place, further);
      long = behind_long n y c.next_lex-next.result long c.next_lex-next.ensures.next;
    }

pub returns-clause-none : goal.returns-clause-none
returns-clause-none c =
    let m = c.args.measured.now in
    let n = measured_count m in
    found_none m (work c.args.s.now.gates c.args.s.now.input).entries (option_copied c.args.after) c.requires.given (place_or_end n c.outcomes.next)
    (ap (place_or_end n) c.in_default.is) c.outcomes.invariant.skipped
