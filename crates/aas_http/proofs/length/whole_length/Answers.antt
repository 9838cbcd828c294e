use Rattle.std.proofs.Common.{◌≡◌, ℕ, length, drop, take, min, Some, None, sym, ap, ◌∙◌, arith, rules}
use Rattle.httparse.specs.Spans.{IsRequestOf, IsRequestWithin}
use Rattle.httparse.specs.Grammar.{HasNoRequest}
use Rattle.aas_http.specs.Head.{head_limit}
use Rattle.aas_http.specs.BodyLength.{body_length}
use Rattle.aas_http.proofs.Awaiting.{over, unfinished, known, whole_is}
use Rattle.aas_http.proofs.Firsts.{admits}
use Rattle.aas_http.proofs.length.whole_length.Goals as goal

pub returns-in-Ok-Partial : goal.returns-in-Ok-Partial
returns-in-Ok-Partial c =
    let b = c.args.bytes.now in
    let kept : take c.min.result b ≡ take (min (length b) head_limit) b = ap (λ (n : ℕ). take n b) c.min.ensures in
    let none : HasNoRequest (take c.min.result b) = search rules in
    unfinished b c.requires (take c.min.result b) kept none

pub returns-in-Err : goal.returns-in-Err
returns-in-Err c =
    let b = c.args.bytes.now in
    let kept : take c.min.result b ≡ take (min (length b) head_limit) b = ap (λ (n : ℕ). take n b) c.min.ensures in
    over b c.requires (take c.min.result b) kept c.in-Err.ensures.no_room

pub returns-in_err-size : goal.returns-in_err-size
returns-in_err-size c =
    let b = c.args.bytes.now in let front = take c.min.result b in
    let kept : front ≡ take (min (length b) head_limit) b = ap (λ (n : ℕ). take n b) c.min.ensures in
    let found : IsRequestOf front c.parse_request.new.headers c.in-Ok-Complete.head = search rules in
    let within : IsRequestWithin front c.parse_request.new.headers c.in-Ok-Complete.head = search rules in
    let at = found.1 in
    let room : length c.parse_request.new.headers ≡ 64 = search rules in
    let K = known b c.requires found.0 (drop c.in-Ok-Complete.head.len b)
    (admits b front kept found.0 c.in-Ok-Complete.head.len c.in-Ok-Complete.head.headers
    c.parse_request.new.headers at.reads at.len within.section.len_fits at.fields room) in
    let none : c.body_length.result ≡ None = search rules in
    absurd (let no : None ≡ Some K.size = sym none ∙ c.body_length.ensures ∙ ap body_length at.fields ∙ K.said in cc)

pub overflow_add-result : goal.overflow_add-result
overflow_add-result c =
    let b = c.args.bytes.now in let front = take c.min.result b in
    let kept : front ≡ take (min (length b) head_limit) b = ap (λ (n : ℕ). take n b) c.min.ensures in
    let found : IsRequestOf front c.parse_request.new.headers c.in-Ok-Complete.head = search rules in
    let within : IsRequestWithin front c.parse_request.new.headers c.in-Ok-Complete.head = search rules in
    let at = found.1 in
    let room : length c.parse_request.new.headers ≡ 64 = search rules in
    let K = known b c.requires found.0 (drop c.in-Ok-Complete.head.len b)
    (admits b front kept found.0 c.in-Ok-Complete.head.len c.in-Ok-Complete.head.headers
    c.parse_request.new.headers at.reads at.len within.section.len_fits at.fields room) in
    let some : Some c.in_ok-size.size ≡ Some K.size =
    sym c.in_ok-size.was ∙ c.body_length.ensures ∙ ap body_length at.fields ∙ K.said in
    let whole = whole_is b c.requires found.0
    (drop c.in-Ok-Complete.head.len b) K c.in-Ok-Complete.head.len c.in_ok-size.size at.len some in
    omega (arith, whole.1)

pub returns : goal.returns
returns c =
    let b = c.args.bytes.now in let front = take c.min.result b in
    let kept : front ≡ take (min (length b) head_limit) b = ap (λ (n : ℕ). take n b) c.min.ensures in
    let found : IsRequestOf front c.parse_request.new.headers c.in-Ok-Complete.head = search rules in
    let within : IsRequestWithin front c.parse_request.new.headers c.in-Ok-Complete.head = search rules in
    let at = found.1 in
    let room : length c.parse_request.new.headers ≡ 64 = search rules in
    let K = known b c.requires found.0 (drop c.in-Ok-Complete.head.len b)
    (admits b front kept found.0 c.in-Ok-Complete.head.len c.in-Ok-Complete.head.headers
    c.parse_request.new.headers at.reads at.len within.section.len_fits at.fields room) in
    let some : Some c.in_ok-size.size ≡ Some K.size =
    sym c.in_ok-size.was ∙ c.body_length.ensures ∙ ap body_length at.fields ∙ K.said in
    whole_is b c.requires found.0
    (drop c.in-Ok-Complete.head.len b) K c.in-Ok-Complete.head.len c.in_ok-size.size at.len some
