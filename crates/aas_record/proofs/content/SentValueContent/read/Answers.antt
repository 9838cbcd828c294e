use Rattle.std.proofs.Common.{rules, ◌≡◌, ◌∙◌, Some, ap, sym, subst}
use Rattle.std.specs.Str.{IsUtf8}
use Rattle.std.specs.Cmp.Lexicographic.{same_text, other_text}
use Rattle.serde_json.specs.Written.{compact_text}
use Rattle.aas_json_spelling.specs.Values.{HasWholeNumbers}
use Rattle.aas_command.specs.Commands.{IsSendable}
use Rattle.aas_command.proofs.Sendable.{read_sendable}
use Rattle.aas_record.proofs.Values.{not_whole, unread, written_otherwise}
use Rattle.aas_record.proofs.content.SentValueContent.read.Goals as goal

pub returns-then-eq : goal.returns-then-eq
returns-then-eq c =
    let is = c.new-value.ensures in
    let whole : HasWholeNumbers c.new-value.result = c.if-not-has_whole_numbers.ensures in
    let sendable : IsSendable c.new-value.result = read_sendable _ _ (c.in-Ok.ensures ∙ ap Some (sym is)) whole in
    let read = c.as_slice.ensures.value in
    let written = same_text _ _ (sym c.if-eq.true ∙ c.eq.ensures) in
    let same : c.args.bytes.now ≡ compact_text c.new-value.result = sym written ∙ read ∙ c.in_ok-text.ensures.text in
    let utf8 : IsUtf8 c.args.bytes.now = subst IsUtf8 (sym read ∙ written) c.in_ok-text.ensures.utf8 in
    (sendable, (utf8, (c.new-value.result, sendable, same)), same)

pub returns-else-eq : goal.returns-else-eq
returns-else-eq c =
    written_otherwise _ _ c.new-value.result (c.in-Ok.ensures ∙ ap Some (sym c.new-value.ensures))
    (c.as_slice.ensures.value ∙ c.in_ok-text.ensures.text)
    (other_text _ _ (sym c.if-eq.false ∙ c.eq.ensures))

pub returns-then-not-has_whole_numbers : goal.returns-then-not-has_whole_numbers
returns-then-not-has_whole_numbers c =
    not_whole _ c.new-value.result
    (c.in-Ok.ensures ∙ ap Some (sym c.new-value.ensures)) c.if-not-has_whole_numbers.ensures

pub returns-in-Err-NotJson : goal.returns-in-Err-NotJson
returns-in-Err-NotJson c = unread _ (search rules)
