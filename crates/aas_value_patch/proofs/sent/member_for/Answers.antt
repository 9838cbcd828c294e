use Rattle.std.proofs.Common.{sym, ap, ◌∙◌}
use Rattle.serde_json.specs.Data.{object}
use Rattle.serde_json.specs.Find.{get_member}
use Rattle.serde_json.specs.View.{members_view}
use Rattle.aas_value_patch.proofs.Children.{under_formless, under_unnamed, under_kid}
use Rattle.aas_value_patch.proofs.sent.member_for.Goals as goal

pub returns-then-not-has_form : goal.returns-then-not-has_form
returns-then-not-has_form c =
    under_formless (object (members_view c.args.members.now.entries)) c.args.kid.now
    (sym c.has_form.ensures ∙ c.if-not-has_form.true)

pub returns-in-Some : goal.returns-in-Some
returns-in-Some c =
    c.member.ensures ∙ ap (λ n. get_member n (members_view c.args.members.now.entries)) c.as_str.ensures.bytes
    ∙ under_kid (members_view c.args.members.now.entries) c.args.kid.now c.in-Some.name
    (sym c.has_form.ensures ∙ c.if-not-has_form.false) c.in-Some.is

pub returns-in-None : goal.returns-in-None
returns-in-None c =
    under_unnamed (object (members_view c.args.members.now.entries)) c.args.kid.now c.has_form.result
    (sym c.has_form.ensures) c.in-None.is
