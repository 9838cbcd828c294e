use Rattle.std.proofs.Common.{map, take}
use Rattle.httparse.specs.Spans.{header_bytes}
use Rattle.http1.specs.Fields.{values_named}
use Rattle.aas_http.specs.OnlyValue.{IsOnlyValue}
use Rattle.aas_http.proofs.fields.only_value.Given as goal

abbrev pub invariant-loop-header : goal.invariant-loop-header
invariant-loop-header l =
    IsOnlyValue l.found (values_named l.name (map (header_bytes l.bytes) (take l.header-index l.headers)))
