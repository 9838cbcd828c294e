use Rattle.std.proofs.Common.{◌≡◌, ◌-◌, subst, length-drop, ◌≤◌, ℕ, List, length, drop, take, map, Some, None, true}
use Rattle.std.proofs.Common.{false, sym, ap, ◌∙◌, arith, rules}
use Rattle.std.specs.Str.{IsUtf8}
use Rattle.std.proofs.lemmas.List.{take_rest}
use Rattle.httparse.specs.Spans.{header_bytes}
use Rattle.aas_http.proofs.Firsts.{length_is, not_implemented_is, bad, too_large, not_implemented, whole, message_is}
use Rattle.aas_http.proofs.Firsts.{is_text, closing}
use Rattle.aas_http.proofs.request.judge.Goals as goal

pub returns-in_default : goal.returns-in_default
returns-in_default c =
    let b = c.args.bytes.now in
    let front = c.args.front.now in
    let spans = c.args.head.now in
    let fields = c.args.fields.now in
    let none : c.body_length.result ≡ None = search rules in
    bad b front spans fields c.requires
    (length_is b front spans fields c.requires None (sym none ∙ c.body_length.ensures))

pub returns-then-size-gt-BODY_LIMIT : goal.returns-then-size-gt-BODY_LIMIT
returns-then-size-gt-BODY_LIMIT c =
    let b = c.args.bytes.now in
    let front = c.args.front.now in
    let spans = c.args.head.now in
    let fields = c.args.fields.now in
    too_large b front spans fields c.requires c.in-Some.size
    (length_is b front spans fields c.requires (Some c.in-Some.size) (sym c.in-Some.is ∙ c.body_length.ensures))
    (omega arith)

pub returns-then-is_not_implemented : goal.returns-then-is_not_implemented
returns-then-is_not_implemented c =
    let b = c.args.bytes.now in
    let front = c.args.front.now in
    let spans = c.args.head.now in
    let fields = c.args.fields.now in
    let yes : c.is_not_implemented.result ≡ true = search rules in
    not_implemented b front spans fields c.requires c.in-Some.size
    (length_is b front spans fields c.requires (Some c.in-Some.size) (sym c.in-Some.is ∙ c.body_length.ensures))
    (omega arith)
    (not_implemented_is b front spans fields c.requires true c.of-method.result.now c.of-method.ensures
    (sym yes ∙ c.is_not_implemented.ensures))

pub returns-in_default-from_utf8 : goal.returns-in_default-from_utf8
returns-in_default-from_utf8 c =
    let F = c.requires in
    let text : IsUtf8 c.of-method.result.now =
    subst (λ (l : List ℕ). IsUtf8 l) (sym (c.of-method.ensures ∙ F.method)) (is_text F.head F.admits.reads.0.method) in
    absurd (c.in_default-from_utf8.ensures.cases.0 text)

pub returns : goal.returns
returns c =
    let b = c.args.bytes.now in
    let front = c.args.front.now in
    let spans = c.args.head.now in
    let fields = c.args.fields.now in
    let no : c.is_not_implemented.result ≡ false = search rules in
    let same : take (length b - spans.len) (drop spans.len b) ≡ drop spans.len b = take_rest b spans.len in
    let long : c.in-Some.size ≤ length (drop spans.len b) = omega (arith, c.if-rest-size.false, ap length same) in (
      omega (arith, long, length-drop spans.len b, c.requires.within),
      whole b front spans fields c.requires c.in-Some.size
          (length_is b front spans fields c.requires (Some c.in-Some.size) (sym c.in-Some.is ∙ c.body_length.ensures))
          (omega (arith, c.if-size-gt-BODY_LIMIT.false))
          (not_implemented_is b front spans fields c.requires false c.of-method.result.now c.of-method.ensures
          (sym no ∙ c.is_not_implemented.ensures))
          long _ (message_is b front spans fields c.requires c.in-Ok.method.now c.of.result.now _ _ c.in-Some.size
          (c.in-Ok.ensures.cases.0 ∙ c.of-method.ensures) c.of.ensures (ap (λ (l : List ℕ). take c.in-Some.size l) same)
          (closing spans.version
          (map (header_bytes front) fields) c.from_spans-known.result c.from_spans-known.ensures)),
    )
