use Rattle.std.proofs.Common.{◌≡◌, IsUtf8, string_bytes, subst, sym, ap}
use Rattle.std.proofs.lemmas.Str.{IsUtf8-string_bytes}
use Rattle.serde_json.specs.Written.{compact_text}
use Rattle.aas_out.proofs.TextPoured.{text_poured}
use Rattle.aas_json_write.proofs.text.poured_text.Goals as goal

pub returns-in-Going-clause-text : goal.returns-in-Going-clause-text
returns-in-Going-clause-text g c =
    let poured : string_bytes c.pour.new.out.text ≡ compact_text (g.P.Poured.spell c.args.tree.now) =
    text_poured (string_bytes c.new-out.result.text) (string_bytes c.pour.new.out.text) c.new-out.result.faults
    c.pour.new.out.faults c.pour.result _ c.pour.ensures c.new-out.ensures c.in-Going.is in
    cc

pub returns-in-Going-clause-utf8 : goal.returns-in-Going-clause-utf8
returns-in-Going-clause-utf8 g c =
    subst IsUtf8 (sym (ap (λ v. v.items) c.into_bytes.ensures.value)) (IsUtf8-string_bytes c.into_text.result)
