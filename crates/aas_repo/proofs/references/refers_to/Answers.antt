use Rattle.std.proofs.Common.{[], ◌∷◌, List, length, sym, ap, arith}
use Rattle.std.specs.Prelude.{not}
use Rattle.std.proofs.lemmas.Bool.{and_right}
use Rattle.aas_model.specs.declared.reference.Key.{Key}
use Rattle.aas_model.specs.declared.reference.Reference.{out-Reference}
use Rattle.aas_model_names.specs.declared.kind.KeyType.TheVariants as key_type
use Rattle.aas_reference.proofs.Sameness.{same_keys_other}
use Rattle.aas_reference.specs.Rules.{is_external}
use Rattle.aas_repo.proofs.references.refers_to.Goals as goal

pub returns-in_default-2 : goal.returns-in_default-2
returns-in_default-2 c =
    let r = out-Reference c.args.reference.now in
    let wanted : List Key = record { key_type = key_type.Submodel; value = c.args.submodel.now } ∷ [] in
    let read = ap length c.as_slice.ensures in
    sym (and_right (not (is_external r.ref_type)) _
    (same_keys_other r.keys wanted (λ same. omega (arith, same, read, c.in_default.len_at_least))))
