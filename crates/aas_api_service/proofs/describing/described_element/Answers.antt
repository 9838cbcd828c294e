use Rattle.std.proofs.Common.{Err, ap, inl, inr, subst}
use Rattle.aas_model.specs.declared.element.Element.{Element}
use Rattle.aas_api_service.specs.Described.{PutsElement}
use Rattle.aas_api_service.proofs.WellDescribed.{described_found, described_lost}
use Rattle.aas_api_service.proofs.describing.described_element.Goals as goal

pub returns-in-Ok : goal.returns-in-Ok
returns-in-Ok g c =
    let d = g.S.Store.documents c.args.store.now in
    let Puts : Element → Type 0 = λ m.
    PutsElement c.args.submodel c.args.path m c.in-Ok.element c.described_by.result in
    elim c.described_by.ensures [
      | inl none ↦ inl none
      | inr puts ↦ inr (described_found d c.args.submodel c.args.path c.args.form.now
          c.described_by.result c.in-Ok.element c.as_str.result.now c.as_str.ensures.bytes
          c.in-Ok.ensures.found (subst Puts c.get.ensures puts))
    ]

pub returns-in-Err : goal.returns-in-Err
returns-in-Err g c =
    let d = g.S.Store.documents c.args.store.now in
    described_lost d c.args.submodel c.args.path c.args.form.now c.in-Err.lack
    c.refusal_of.result c.as_str.result.now c.as_str.ensures.bytes
    (λ is. c.in-Err.ensures.no_submodel.0 (ap Err is))
    (λ missing is. (c.in-Err.ensures.no_element missing).0 (ap Err is)) c.refusal_of.ensures
