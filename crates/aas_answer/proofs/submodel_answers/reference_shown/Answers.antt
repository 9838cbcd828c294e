use Rattle.std.proofs.Common.{⊎_elim, inl, inr, Err, sym, ap}
use Rattle.aas_answer.proofs.Found.{no_reference, reference_lost}
use Rattle.aas_answer.proofs.submodel_answers.reference_shown.Goals as goal

pub returns-in-Err-Missing : goal.returns-in-Err-Missing
returns-in-Err-Missing c =
    let m = (c.in-Err-Missing.ensures.missing c.in-Err-Missing.missing).0 (ap Err c.in-Err-Missing.field-0-is) in
    ⊎_elim
    (λ memory. inl (ap Err memory))
    (λ is. inr
    (sym (reference_lost c.args.submodel.now c.args.path.now.steps c.in-Err-Missing.missing _
    (no_reference c.args.submodel.now c.args.path.now.steps m.0 m.1) m.2 is)))
    c.not_found.ensures
