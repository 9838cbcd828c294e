use Rattle.std.proofs.Common.{◌≡◌, List, ℕ, rules, subst}
use Rattle.base64.specs.GeneralPurpose.{IsBytes}
use Rattle.aas_page.specs.Segment.{IsBase64Url}
use Rattle.aas_page.proofs.Coding.{none_coded}
use Rattle.aas_page.proofs.segment.id_from_base64url.Goals as goal

pub returns-in-Some-clause-none : goal.returns-in-Some-clause-none
returns-in-Some-clause-none c =
    let text = c.args.text.now in
    let decoded = rw c.in-Some.is at c.in_ok-utf8.ensures.some in
    let read : c.in-Some.utf8.items ≡ c.deref.result.now = search rules in
    none_coded text c.deref.result.now (subst IsBytes read decoded.0) (subst (λ (b : List ℕ). IsBase64Url text b) read decoded.1)
    c.identifier.result c.identifier.ensures.none
