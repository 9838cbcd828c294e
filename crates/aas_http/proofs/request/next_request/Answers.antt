use Rattle.std.proofs.Common.{◌≡◌, ◌≤◌, ℕ, length, take, min, inl, true, ap, arith, rules}
use Rattle.std.proofs.lemmas.List.{length-take}
use Rattle.std.proofs.lemmas.List.Elements.{All-weaker}
use Rattle.httparse.specs.Spans.{IsRequestOf, IsRequestWithin, IsHeaderWithin, RequestOverflows}
use Rattle.httparse.specs.Grammar.{HasNoRequest}
use Rattle.aas_http.specs.Head.{head_limit}
use Rattle.aas_http.specs.FirstRequest.{IsBlank}
use Rattle.aas_http.proofs.Firsts.{by_none, none_over, none_past, admits, blank_none}
use Rattle.aas_http.proofs.request.next_request.Goals as goal

pub returns-then-is_blank : goal.returns-then-is_blank
returns-then-is_blank c =
    let blank : IsBlank c.args.bytes.now = search rules in
    inl (record { short = blank.short; none = blank_none c.args.bytes.now blank; may = inl blank })

pub judge-requires : goal.judge-requires
judge-requires c =
    let b = c.args.bytes.now in let front = take c.min.result b in
    let found : IsRequestOf front c.parse_request.new.headers c.in-Ok-Complete.head = search rules in
    let within : IsRequestWithin front c.parse_request.new.headers c.in-Ok-Complete.head = search rules in
    let at = found.1 in
    let kept : front ≡ take (min (length b) head_limit) b = ap (λ (n : ℕ). take n b) c.min.ensures in
    let room : length c.parse_request.new.headers ≡ 64 = search rules in
    let fits : c.in-Ok-Complete.head.len ≤ length front = within.section.len_fits in
    record {
      head = found.0;
      admits =
          admits b front kept found.0 c.in-Ok-Complete.head.len c.in-Ok-Complete.head.headers
          c.parse_request.new.headers at.reads at.len fits at.fields room;
      some = λ blank. let yes : c.is_blank.result ≡ true = c.is_blank.ensures.1 blank in cc;
      within = omega (arith, fits, ap length kept, length-take (min (length b) head_limit) b);
      method_fits = (within.method.0, omega (arith, within.method.1, within.section.len_fits));
      path_fits = (within.path.0, omega (arith, within.path.1, within.section.len_fits));
      fields_fit =
          All-weaker (IsHeaderWithin c.in-Ok-Complete.head.len) (IsHeaderWithin (length front))
          (λ h w. ((w.0.0, omega (arith, w.0.1, fits)), (w.1.0, omega (arith, w.1.1, fits))))
          _ within.section.headers_fit;
      method = at.method;
      target = at.path;
      version = at.version;
      fields_are = at.fields;
    }

pub returns-else-bytes-lt-HEAD_LIMIT : goal.returns-else-bytes-lt-HEAD_LIMIT
returns-else-bytes-lt-HEAD_LIMIT c =
    let b = c.args.bytes.now in let front = take c.min.result b in
    let none : HasNoRequest front = search rules in
    let some : ¬ (IsBlank b) = λ blank. let yes : c.is_blank.result ≡ true = c.is_blank.ensures.1 blank in cc in
    let kept : front ≡ take (min (length b) head_limit) b = ap (λ (n : ℕ). take n b) c.min.ensures in
    λ more. by_none b more some (none_past b front kept (omega (arith, c.if-bytes-lt-HEAD_LIMIT.false)) none more)

pub returns-in-Err : goal.returns-in-Err
returns-in-Err c =
    let b = c.args.bytes.now in let front = take c.min.result b in
    let over : RequestOverflows 64 front = c.in-Err.ensures.no_room in
    let some : ¬ (IsBlank b) = λ blank. let yes : c.is_blank.result ≡ true = c.is_blank.ensures.1 blank in cc in
    let kept : front ≡ take (min (length b) head_limit) b = ap (λ (n : ℕ). take n b) c.min.ensures in
    λ more. by_none b more some (none_over b front kept over more)
