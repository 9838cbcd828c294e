use Rattle.std.proofs.Common.{sym, ap, ◌∙◌, arith, rules}
use Rattle.std.proofs.lemmas.Int.{ints, to_z-of_z}
use Rattle.std.specs.Int.{w64}
use Rattle.std.specs.Fmt.{signed_decimal}
use Rattle.aas_value_patch.proofs.Natives.{unsigned_written, negative_written}
use Rattle.aas_value_patch.proofs.slots.number_from.Goals as goal

pub returns-in_ok-from_str-in-Some-clause-taken : goal.returns-in_ok-from_str-in-Some-clause-taken
returns-in_ok-from_str-in-Some-clause-taken c =
    unsigned_written c.args.value_type c.in-Some.whole c.args.sent.now.n c.in_ok-from_str-in-Some.field-0
    (sym c.is_numeric.ensures ∙ search rules)
    (omega arith) c.in-Some.ensures
    (c.in_ok-from_str-in-Some.ensures.bytes ∙ c.format.ensures.text)

pub returns-in_ok-from_str-in-Some-as_i64-clause-taken : goal.returns-in_ok-from_str-in-Some-as_i64-clause-taken
returns-in_ok-from_str-in-Some-as_i64-clause-taken c =
    negative_written c.args.value_type c.in-Some-as_i64.whole c.args.sent.now.n c.in_ok-from_str-in-Some-as_i64.field-0
    (sym c.is_numeric.ensures ∙ search rules) (omega (arith, ints), omega (arith, ints))
    c.args.sent.now.valid c.in-None.ensures c.in-Some-as_i64.ensures
    (c.in_ok-from_str-in-Some-as_i64.ensures.bytes ∙ c.format-in-Some-as_i64.ensures.text
    ∙ ap signed_decimal (to_z-of_z w64 c.in-Some-as_i64.whole (omega (arith, ints))))
