use Rattle.std.proofs.Common.{◌∷◌, [], codes}
use Rattle.aas_json_write_members.specs.Puts.{own_fields}
use Rattle.aas_json_write_members.proofs.Lacking.{no_before_qualifiers}
use Rattle.aas_json_write_members.proofs.Putting.{fields_both, put_lacking, put_none, put_own}
use Rattle.aas_json_write_members.proofs.own.put_before_qualifiers.Goals as goal

pub returns-in-BasicEventElement : goal.returns-in-BasicEventElement
returns-in-BasicEventElement g c =
    put_own c.args.payload.now (codes "observed" ∷ codes "orderRelevant" ∷ []) c.in-BasicEventElement.is
    (fields_both c.put_optional.ensures
    (put_none c.put_optional.result (g.O.TextEnd.told c.put_optional.new.out) (codes "orderRelevant")))

pub returns-in-SubmodelElementList : goal.returns-in-SubmodelElementList
returns-in-SubmodelElementList g c =
    put_own c.args.payload.now (codes "observed" ∷ codes "orderRelevant" ∷ []) c.in-SubmodelElementList.is
    (fields_both (put_none c.args.pen (g.O.TextEnd.told c.args.out.now) (codes "observed")) c.put_optional_flag.ensures)

pub returns-in_default : goal.returns-in_default
returns-in_default g c =
    put_lacking c.args.pen (g.O.TextEnd.told c.args.out.now)
    (own_fields c.args.payload.now (codes "observed" ∷ codes "orderRelevant" ∷ []))
    (codes "observed" ∷ codes "orderRelevant" ∷ [])
    (no_before_qualifiers c.args.payload.now c.in_default.not-BasicEventElement c.in_default.not-SubmodelElementList)
