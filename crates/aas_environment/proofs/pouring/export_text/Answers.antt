use Rattle.std.proofs.Common.{◌≡◌, IsUtf8, string_bytes, subst, sym, ap}
use Rattle.std.proofs.lemmas.Str.{IsUtf8-string_bytes}
use Rattle.aas_json_mapping.specs.Trees.{environments}
use Rattle.aas_json_spelling.specs.Spells.{canonical_text}
use Rattle.aas_out.proofs.TextPoured.{text_poured}
use Rattle.aas_environment.specs.Environments.{environment_of}
use Rattle.aas_environment.proofs.pouring.export_text.Goals as goal

pub returns-in-Going-clause-text : goal.returns-in-Going-clause-text
returns-in-Going-clause-text g c =
    let whole = canonical_text environments (environment_of (g.S.Store.documents c.args.store.now)) in
    let poured : string_bytes c.pour_environment.new.out.text ≡ whole =
    text_poured (string_bytes c.new-out.result.text)
    (string_bytes c.pour_environment.new.out.text) c.new-out.result.faults c.pour_environment.new.out.faults
    c.pour_environment.result whole c.pour_environment.ensures c.new-out.ensures c.in-Going.is in
    cc

pub returns-in-Going-clause-utf8 : goal.returns-in-Going-clause-utf8
returns-in-Going-clause-utf8 g c =
    subst IsUtf8 (sym (ap (λ v. v.items) c.into_bytes.ensures.value)) (IsUtf8-string_bytes c.into_text.result)
