use Rattle.std.specs.Cmp.Lexicographic.{other_text}
use Rattle.std.proofs.Common.{◌∙◌, subst, sym}
use Rattle.aas_record.proofs.Canonical.{IsOfInput, a_fault, another_tree}
use Rattle.aas_record.proofs.content.read_canonical.Goals as goal

pub returns-else-eq : goal.returns-else-eq
returns-else-eq g c =
    another_tree g.T.Tree.trees _ c.are_mapped.ensures _ (g.met.T.Tree.within _ c.requires) _ _ c.read.ensures.each _ _
    c.in-Ok.is (c.as_slice.ensures.value ∙ c.in_ok-text.ensures.text)
    (other_text _ _ (sym c.if-eq.false ∙ c.eq.ensures))

pub returns-in-Err-NotJson : goal.returns-in-Err-NotJson
returns-in-Err-NotJson g c =
    a_fault g.T.Tree.trees _ c.are_mapped.ensures _ (g.met.T.Tree.within _ c.requires) _ _ c.read.ensures.each _
    c.in-Err-NotJson.is (subst IsOfInput (sym c.in-Err-NotJson.field-0-is) tt)

pub returns-in-Err-NotMapping : goal.returns-in-Err-NotMapping
returns-in-Err-NotMapping g c =
    a_fault g.T.Tree.trees _ c.are_mapped.ensures _ (g.met.T.Tree.within _ c.requires) _ _ c.read.ensures.each _
    c.in-Err-NotMapping.is (subst IsOfInput (sym c.in-Err-NotMapping.field-0-is) tt)

pub returns-in-Err-TooDeep : goal.returns-in-Err-TooDeep
returns-in-Err-TooDeep g c =
    a_fault g.T.Tree.trees _ c.are_mapped.ensures _ (g.met.T.Tree.within _ c.requires) _ _ c.read.ensures.each _
    c.in-Err-TooDeep.is (subst IsOfInput (sym c.in-Err-TooDeep.field-0-is) tt)
