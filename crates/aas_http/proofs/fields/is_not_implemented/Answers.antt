use Rattle.std.proofs.Common.{◌≡◌, map, refl, rules}
use Rattle.std.specs.Prelude.{bytes_eq, codes}
use Rattle.httparse.specs.Spans.{header_bytes}
use Rattle.http1.specs.Fields.{values_named}
use Rattle.aas_http.proofs.Values.{left_out}
use Rattle.aas_http.proofs.fields.is_not_implemented.Goals as goal

pub returns : goal.returns
returns c =
    let fields = map (header_bytes c.args.bytes.now) c.args.headers.now in
    let head : c.eq-head.result ≡ bytes_eq c.args.method.now (codes "HEAD") = search rules in
    let connect : c.eq-connect.result ≡ bytes_eq c.args.method.now (codes "CONNECT") = search rules in
    left_out c.args.method.now fields (values_named (codes "transfer-encoding") fields)
    c.is_coded-coded.result c.eq-head.result c.eq-connect.result refl c.is_coded-coded.ensures head connect
