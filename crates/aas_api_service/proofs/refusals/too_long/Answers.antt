use Rattle.std.proofs.Common.{ℕ, List, false, ap, ◌∙◌}
use Rattle.std.proofs.lemmas.Str.{chars-nil}
use Rattle.aas_http.specs.declared.replies.Reply.{Reply}
use Rattle.aas_api_service.specs.Replies.{reply_too_long}
use Rattle.aas_api_service.proofs.refusals.too_long.Goals as goal

abbrev Long : List ℕ → List ℕ → Reply
Long body allow = record { status = 500; body = body; later = 0; allow = allow; close = false }

pub returns-clause-reply : goal.returns-clause-reply
unfolding reply_too_long
returns-clause-reply c =
    ap (λ (body : List ℕ). Long body c.in_ok-from_str.field-0) c.in_ok-message_body.ensures
    ∙ ap (λ (allow : List ℕ). Long _ allow) (c.in_ok-from_str.ensures.characters ∙ chars-nil)
