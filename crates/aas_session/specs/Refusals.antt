-- The replies that the server gives by itself, without memory.
-- The connection closes behind each. This profile's own rule.
use Rattle.std.specs.Prelude.{ℕ, List, [], ◌++◌, codes, decimal, true}
use Rattle.aas_http.specs.declared.replies.Reply.{Reply}
use Rattle.aas_http.specs.ReplyText.{reply_text}

-- A result with one message (IDTA-01002-3-0), whose text has no character that JSON escapes.
abbrev pub message_body : ℕ → List ℕ → List ℕ
message_body code text =
    codes "{\"messages\":[{\"code\":\"" ++ decimal code
    ++ codes "\",\"messageType\":\"Error\",\"text\":\"" ++ text ++ codes "\"}]}"

abbrev pub closing_refusal : (status code : ℕ) → List ℕ → Reply
closing_refusal status code text =
    record { status = status; body = message_body code text; later = 0; allow = []; close = true }

unfoldable pub out_of_memory : List ℕ
out_of_memory = reply_text (closing_refusal 503 0 (codes "out of memory"))

unfoldable pub bad_request : List ℕ
bad_request = reply_text (closing_refusal 400 1 (codes "bad request"))

unfoldable pub too_large : List ℕ
too_large = reply_text (closing_refusal 413 2 (codes "too large"))

unfoldable pub not_implemented : List ℕ
not_implemented = reply_text (closing_refusal 501 3 (codes "not implemented"))

unfoldable pub storage_fault : List ℕ
storage_fault = reply_text (closing_refusal 500 22 (codes "storage fault"))
