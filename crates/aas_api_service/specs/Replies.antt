-- The replies of refusals, with their statuses and bodies (IDTA-01002-3-0, class Result with its messages). Which
-- status a refusal has is this profile's own rule, by RFC 9110, section 15.
use Rattle.std.specs.Prelude.{ℕ, List, [], codes, decimal, false}
use Rattle.serde_json.specs.Data.{Data, string, array, object, no_items, item, no_members, member}
use Rattle.serde_json.specs.Written.{compact_text}
use Rattle.aas_command.specs.Refusals.{code_of, text_of}
use Rattle.aas_command.specs.declared.refusal.Refusal.{Refusal}
use Rattle.aas_command.specs.declared.refusal.Refusal.TheVariants as refusal
use Rattle.aas_http.specs.declared.replies.Reply.{Reply}

abbrev pub status_of : Refusal → ℕ
status_of refusal.NoRoute = 404
status_of (refusal.NotAllowed allow) = 405
status_of (refusal.NotFound what) = 404
status_of refusal.Conflict = 409
status_of refusal.TooLarge = 413
status_of refusal.StorageFault = 500
status_of refusal.NotImplemented = 501
status_of refusal.NoMemory = 503
status_of refusal.StorageFull = 507
status_of r = 400

abbrev pub allow_of : Refusal → List ℕ
allow_of (refusal.NotAllowed allow) = allow
allow_of r = []

-- one message
abbrev pub message : ℕ → List ℕ → Data
message code text = object (
    member (codes "code") (string (decimal code))
    (member (codes "messageType") (string (codes "Error"))
    (member (codes "text") (string text) no_members)))

abbrev pub messages : ℕ → List ℕ → Data
messages code text = object (member (codes "messages") (array (item (message code text) no_items)) no_members)

unfoldable pub refusal_reply : Refusal → Reply
refusal_reply r = record {
  status = status_of r;
  body = compact_text (messages (code_of r) (text_of r));
  later = 0;
  allow = allow_of r;
  close = false;
}

-- the answer to a question would have 2^64 bytes or more
unfoldable pub reply_too_long : Reply
reply_too_long = record {
  status = 500;
  body = compact_text (messages 25 (codes "reply too long"));
  later = 0;
  allow = [];
  close = false;
}
