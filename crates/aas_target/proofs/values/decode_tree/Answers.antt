use Rattle.std.proofs.Common.{◌≡◌, List, ℕ, rules, subst}
use Rattle.base64.specs.GeneralPurpose.{IsBytes}
use Rattle.aas_page.specs.Segment.{IsBase64Url}
use Rattle.aas_target.proofs.Coded.{none_spelled}
use Rattle.aas_target.proofs.values.decode_tree.Goals as goal

pub returns-in-Some-clause-none : goal.returns-in-Some-clause-none
returns-in-Some-clause-none g c =
    let decoded = rw c.in-Some.is at c.in_ok-bytes.ensures.some in
    let bytes : c.in-Some.bytes.items ≡ c.deref.result.now = search rules in
    let text : c.as_bytes.result.now ≡ c.args.text.now = search rules in
    let coded : IsBase64Url c.args.text.now c.in-Some.bytes.items =
    subst (λ (t : List ℕ). IsBase64Url t c.in-Some.bytes.items) text decoded.1 in
    none_spelled g.T.Coded.trees c.args.text.now c.deref.result.now (subst IsBytes bytes decoded.0)
    (subst (λ (b : List ℕ). IsBase64Url c.args.text.now b) bytes coded) c.read_tree.result c.read_tree.ensures.each
    c.read_or_none.result c.read_or_none.ensures.none
