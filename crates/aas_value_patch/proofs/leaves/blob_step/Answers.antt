use Rattle.std.proofs.Common.{refl}
use Rattle.serde_json.specs.View.{view}
use Rattle.aas_model.specs.declared.payload.Payload.TheVariants as p
use Rattle.aas_value_patch.proofs.Attributes.{refused, blob_takes}
use Rattle.aas_value_patch.proofs.leaves.blob_step.Goals as goal

pub returns-in_err-content_type : goal.returns-in_err-content_type
returns-in_err-content_type c = λ xs order.
    refused c.from_residual.result c.in_err-content_type.field-0.0
    (p.Blob c.args.content_type.now c.args.value.now) xs (view c.args.sent.now) _
    c.from_residual.ensures.0 c.from_residual.ensures.1 (c.in_err-content_type.ensures order xs) (λ misfits. misfits)

pub returns : goal.returns
returns c = λ xs order.
    let taken = c.in_ok-content_type.ensures order in
    record { fits = taken.fits xs; takes = blob_takes _ _ _ _ _ taken.takes; kids = refl }
