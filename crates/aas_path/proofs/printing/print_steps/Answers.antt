use Rattle.std.proofs.Common.{sym, subst}
use Rattle.std.specs.Str.{IsUtf8}
use Rattle.aas_path.specs.PathText.{path_text}
use Rattle.aas_path.proofs.Utf8.{steps_utf8}
use Rattle.aas_path.proofs.printing.print_steps.Goals as goal

pub returns-in_ok-print_further_steps-clause-utf8 : goal.returns-in_ok-print_further_steps-clause-utf8
returns-in_ok-print_further_steps-clause-utf8 c =
    subst (λ p. IsUtf8 (path_text p)) (sym c.in-Some.ensures.cases.0)
    (steps_utf8 _ _ c.in_ok-print_first_step.ensures.utf8 c.in_ok-print_further_steps.ensures.utf8)
