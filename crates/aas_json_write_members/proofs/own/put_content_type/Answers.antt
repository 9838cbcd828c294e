use Rattle.std.proofs.Common.{◌∷◌, [], codes}
use Rattle.aas_json_write_members.specs.Puts.{own_fields}
use Rattle.aas_json_write_members.proofs.Lacking.{no_content_type}
use Rattle.aas_json_write_members.proofs.Putting.{put_lacking, put_own}
use Rattle.aas_json_write_members.proofs.own.put_content_type.Goals as goal

pub returns-in-File : goal.returns-in-File
returns-in-File g c = put_own c.args.payload.now (codes "contentType" ∷ []) c.in-File.is c.put_optional.ensures

pub returns-in-Blob : goal.returns-in-Blob
returns-in-Blob g c = put_own c.args.payload.now (codes "contentType" ∷ []) c.in-Blob.is c.put_optional-in-Blob.ensures

pub returns-in_default : goal.returns-in_default
returns-in_default g c =
    put_lacking c.args.pen (g.O.TextEnd.told c.args.out.now) (own_fields c.args.payload.now (codes "contentType" ∷ []))
    (codes "contentType" ∷ []) (no_content_type c.args.payload.now c.in_default.not-File c.in_default.not-Blob)
