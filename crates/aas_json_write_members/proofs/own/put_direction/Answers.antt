use Rattle.std.proofs.Common.{◌∷◌, [], codes}
use Rattle.aas_json_write_members.specs.Puts.{own_fields}
use Rattle.aas_json_write_members.proofs.Lacking.{no_direction}
use Rattle.aas_json_write_members.proofs.Putting.{put_lacking, put_own}
use Rattle.aas_json_write_members.proofs.own.put_direction.Goals as goal

pub returns-in-BasicEventElement : goal.returns-in-BasicEventElement
returns-in-BasicEventElement g c =
    put_own c.args.payload.now (codes "direction" ∷ []) c.in-BasicEventElement.is c.put_word.ensures

pub returns-in_default : goal.returns-in_default
returns-in_default g c =
    put_lacking c.args.pen (g.O.TextEnd.told c.args.out.now) (own_fields c.args.payload.now (codes "direction" ∷ []))
    (codes "direction" ∷ []) (no_direction c.args.payload.now c.in_default.not-BasicEventElement)
