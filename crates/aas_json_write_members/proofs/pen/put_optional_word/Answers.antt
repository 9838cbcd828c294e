use Rattle.serde_json.specs.Data.{string}
use Rattle.aas_json_write_members.specs.Keys.{name_in}
use Rattle.aas_json_write_members.proofs.Putting.{put_missing}
use Rattle.aas_json_write_members.proofs.pen.put_optional_word.Goals as goal

pub returns-in-None : goal.returns-in-None
returns-in-None g c =
    put_missing (λ v. string (g.V.Named.name_of v)) c.args.pen
    (g.O.TextEnd.told c.args.out.now) (name_in c.args.key.now) c.args.value c.in-None.is
