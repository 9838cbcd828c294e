use Rattle.std.specs.Str.{encode_utf8_all}
use Rattle.aas_lexical.specs.Values.{HasForm}
use Rattle.aas_constraint_rules.specs.Decided.{has_form}
use Rattle.aas_constraint_rules.proofs.Forms.{form_tells}
use Rattle.aas_constraint_parts.proofs.Told.{told}
use Rattle.aas_constraint_parts.proofs.texts.has_form.Goals as goal

pub returns : goal.returns
returns c =
    let t = c.args.value_type in
    let s = c.args.text.now in
    told (HasForm t) s c.as_str.result.now c.fits.result (has_form t s) c.as_str.ensures.bytes c.fits.ensures (form_tells t (encode_utf8_all s))
