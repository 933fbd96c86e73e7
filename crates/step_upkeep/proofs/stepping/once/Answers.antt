use Rattle.step_upkeep.proofs.stepping.once.Goals as goal

pub returns : goal.returns
returns c = record {
  told = record {
    settled = c.step-answer.ensures.settled;
    fits = c.step-answer.ensures.fits;
    narrow = c.step-answer.ensures.narrow;
    unfit = c.step-answer.ensures.width;
    refused = c.step-answer.ensures.refused;
    kept = c.step-answer.ensures.kept;
    stands = c.step-answer.ensures.stands;
  };
  full = c.step-answer.ensures.full;
  grows = c.step-answer.ensures.grows;
}
