-- The steps of a comparison all fit a width, or there is one first step that doesn't.
use Rattle.std.proofs.Common.{◌⊎◌, ℕ, ◌+◌, List}
use Rattle.circuit_model.proofs.FitLemmas.{fits_or_not}
use Rattle.circuit_model.proofs.PrefixLemmas.{each_or_first}
use Rattle.comparison.specs.Products.{Step, raw_matrix, work_matrix, RawStepFits, AllStepsFit, IsFirstUnfitStep}

pub steps_fit_or_first_unfit : (width n : ℕ) (steps : List Step) → AllStepsFit width n steps ⊎ ((number : ℕ) × IsFirstUnfitStep width n steps number)
steps_fit_or_first_unfit width n steps =
    each_or_first (RawStepFits width n) (λ front s. fits_or_not (n + n) width (raw_matrix n (work_matrix n front) s).entries) steps
