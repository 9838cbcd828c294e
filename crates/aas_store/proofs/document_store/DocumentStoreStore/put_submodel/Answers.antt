use Rattle.std.proofs.Common.{ap}
use Rattle.std.specs.Str.{encode_utf8_all}
use Rattle.aas_store.proofs.Changed.{put_if}
use Rattle.aas_store.proofs.document_store.DocumentStoreStore.put_submodel.Goals as goal

pub returns-clause-ok : goal.returns-clause-ok
returns-clause-ok g c =
    put_if g.T.Table.kept c.args.self.now c.put.result c.put.new.self (encode_utf8_all c.in_ok-id.id) c.in_ok-table.table c.args.submodel c.in_ok-table.ensures (ap encode_utf8_all c.in_ok-id.ensures) c.put.ensures.ok
