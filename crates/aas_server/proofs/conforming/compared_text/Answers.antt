use Rattle.std.proofs.Common.{◌≡◌, ℕ, List, Result, Ok, Err, IfErr, sym, ap₂, ◌∙◌}
use Rattle.std.specs.Prelude.{◌≢◌}
use Rattle.std.specs.Str.{encode_utf8_all}
use Rattle.aas_command.specs.declared.refusal.Refusal.TheVariants.{NoMemory}
use Rattle.aas_store.specs.Documents.{Documents}
use Rattle.aas_server.specs.Conforming.{IsConformAnswer, IsUnfit, compared_answer, not_a_template}
use Rattle.aas_server.specs.declared.conforming.Unfit.{Unfit}
use Rattle.aas_server.specs.declared.conforming.Unfit.TheVariants.{NotTemplate, Refused}
use Rattle.aas_server.proofs.ConformAnswers.{compared}
use Rattle.aas_server.proofs.conforming.compared_text.Goals as goal

-- where nothing but want of memory and another kind comes
of_another_kind : {T P : Type 0} (result : Result T Unfit) (template instance : List ℕ) (d : Documents)
    → (P → IsConformAnswer template instance d not_a_template)
    → IfErr result (λ u. u ≢ Refused NoMemory → (u ≡ NotTemplate) × P) → IfErr result (IsUnfit template instance d)
of_another_kind (Ok t) template instance d answers is = tt
of_another_kind (Err (Refused r)) template instance d answers is = λ some.
    let same = (is (λ none. let no : r ≡ NoMemory = cc in some no)).0 in absurd (cc)
of_another_kind (Err NotTemplate) template instance d answers is = answers (is (λ none. cc)).1

pub comparison-text-requires : goal.comparison-text-requires
comparison-text-requires g c =
    c.valid_siblings_differ.ensures c.in_ok-wanted.wanted
    (c.requires.submodels (encode_utf8_all c.in_ok-template_id.template_id)
    c.in_ok-wanted.wanted c.in_ok-wanted.ensures.ok).valid.faultless

pub returns-clause-unfit : goal.returns-clause-unfit
returns-clause-unfit g c =
    let d = g.S.Store.documents c.args.store.now in
    of_another_kind c.comparison-text.result c.args.template.now c.args.instance.now d
    (λ is. compared c.args.template.now c.args.instance.now d c.in_ok-template_id.template_id
    c.in_ok-instance_id.instance_id c.in_ok-template_id.ensures.ok c.in_ok-instance_id.ensures.ok
    not_a_template (is ∙ sym (ap₂ compared_answer c.in_ok-wanted.ensures.ok c.in-Ok.ensures.ok)))
    c.comparison-text.ensures.unfit
