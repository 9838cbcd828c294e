use Rattle.std.proofs.Common.{sym, subst}
use Rattle.std.specs.Str.{IsUtf8}
use Rattle.aas_path.specs.PathText.{step_text}
use Rattle.aas_path.proofs.Utf8.{dotted_utf8}
use Rattle.aas_path.proofs.printing.print_step.Goals as goal

pub returns-in_ok-extend_from_slice-in-Name-2-clause-utf8 : goal.returns-in_ok-extend_from_slice-in-Name-2-clause-utf8
returns-in_ok-extend_from_slice-in-Name-2-clause-utf8 c =
    subst (λ s. IsUtf8 (step_text s)) (sym c.in-Name.is) (dotted_utf8 _ (subst IsUtf8 c.as_str.ensures.bytes c.as_str.utf8))
