use Rattle.std.proofs.Common.{Some, sym, ap, ◌∙◌}
use Rattle.std.specs.List.{list_all}
use Rattle.aas_reference.specs.Rules.{is_digit}
use Rattle.aas_resolve.proofs.Numbers.{read}
use Rattle.aas_resolve.proofs.resolution.number.Goals as goal

pub returns : goal.returns
returns c =
    let spelled = c.as_str-digits.ensures in
    let all = ap (list_all is_digit) (sym spelled.characters) ∙ sym c.are_digits.ensures ∙ c.if-not-are_digits.false in
    let some = sym c.is_empty.ensures ∙ c.if-is_empty.false in
    ap (λ n. Some n) c.unwrap_or.ensures
    ∙ read c.args.text.now c.as_str-digits.result.now c.parse.result spelled.bytes all some c.parse.ensures.value.0
