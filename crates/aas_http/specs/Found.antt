-- Where a head was found.
use Rattle.std.specs.Prelude.{◌≡◌, ◌≤◌, ℕ, List, drop, length, map, All}
use Rattle.httparse.specs.declared.spans.HeaderSpan.{HeaderSpan}
use Rattle.httparse.specs.declared.spans.RequestSpans.{RequestSpans}
use Rattle.httparse.specs.Grammar.{RequestHead}
use Rattle.httparse.specs.Spans.{IsWithin, IsHeaderWithin, span_bytes, header_bytes}
use Rattle.aas_http.specs.Head.{Admits, fields_of}
use Rattle.aas_http.specs.FirstRequest.{IsBlank}

-- The bytes begin with a head, whose parts the spans cover in the front.
pub record IsFound (bytes front : List ℕ) (spans : RequestSpans) (fields : List HeaderSpan) : Type 0 where
  pub head : RequestHead
  pub admits : Admits bytes head (drop spans.len bytes)
  pub some : ¬ (IsBlank bytes)
  pub within : spans.len ≤ length bytes
  pub method_fits : IsWithin (length front) spans.method
  pub path_fits : IsWithin (length front) spans.path
  pub fields_fit : All (IsHeaderWithin (length front)) fields
  pub method : span_bytes front spans.method ≡ head.method
  pub target : span_bytes front spans.path ≡ head.target
  pub version : spans.version ≡ head.minor
  pub fields_are : map (header_bytes front) fields ≡ fields_of head
