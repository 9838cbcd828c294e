-- The text of a reply. HTTP/1.1 (RFC 9112), in the form of this profile.
use Rattle.std.specs.Prelude.{◌==◌, ◌+◌, ℕ, Bool, List, [], ◌++◌, length, decimal, codes, if◌then◌else◌, Option, Some}
use Rattle.std.specs.Prelude.{None, unwrap_or}
use Rattle.std.specs.Str.{encode_utf8_all}
use Rattle.aas_http.specs.declared.replies.Reply.{Reply}

-- the statuses of this profile, with their phrases
abbrev pub phrase : ℕ → Option (List ℕ)
phrase status =
    if status == 200 then Some (codes "OK") else (
    if status == 201 then Some (codes "Created") else (
    if status == 204 then Some (codes "No Content") else (
    if status == 400 then Some (codes "Bad Request") else (
    if status == 404 then Some (codes "Not Found") else (
    if status == 405 then Some (codes "Method Not Allowed") else (
    if status == 409 then Some (codes "Conflict") else (
    if status == 413 then Some (codes "Payload Too Large") else (
    if status == 500 then Some (codes "Internal Server Error") else (
    if status == 501 then Some (codes "Not Implemented") else (
    if status == 503 then Some (codes "Service Unavailable") else (
    if status == 507 then Some (codes "Insufficient Storage") else None)))))))))))

abbrev pub crlf : List ℕ
crlf = codes "\r\n"

abbrev pub status_line : ℕ → List ℕ
status_line status = codes "HTTP/1.1 " ++ decimal status ++ codes " " ++ unwrap_or (phrase status) [] ++ crlf

-- the length is that of the body and of what follows it; none on 204, which has no body
abbrev pub content_fields : ℕ → List ℕ → ℕ → List ℕ
content_fields status body later =
    if status == 204 then []
    else codes "Content-Type: application/json\r\nContent-Length: " ++ decimal (length body + later) ++ crlf

-- the methods, on 405
abbrev pub allow_field : ℕ → List ℕ → List ℕ
allow_field status methods = if status == 405 then codes "Allow: " ++ encode_utf8_all methods ++ crlf else []

abbrev pub connection_field : Bool → List ℕ
connection_field close = if close then codes "Connection: close" ++ crlf else []

abbrev pub body_bytes : ℕ → List ℕ → List ℕ
body_bytes status body = if status == 204 then [] else body

-- the status line, the fields, an empty line and the body
unfoldable pub reply_text : Reply → List ℕ
reply_text reply =
    status_line reply.status ++ content_fields reply.status reply.body reply.later
    ++ allow_field reply.status reply.allow
    ++ connection_field reply.close ++ crlf ++ body_bytes reply.status reply.body
