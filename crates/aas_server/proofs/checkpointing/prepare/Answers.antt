use Rattle.std.proofs.Common.{◌+◌, length, ap, ◌∙◌}
use Rattle.aas_server.specs.Making.{size_line}
use Rattle.aas_server.proofs.Whole.{whole_replays}
use Rattle.aas_server.proofs.checkpointing.prepare.Goals as goal

pub returns : goal.returns
returns g c = record {
  record_is = c.in_ok-record.ensures.payload;
  line_is =
      c.in_ok-line.ensures
      ∙ ap (λ n. size_line (n + 14)) (c.len.ensures.value ∙ ap length c.in_ok-record.ensures.payload);
  replays =
      whole_replays c.exports_come_back.ensures
      (g.S.Store.documents c.args.store.now) c.requires c.in_ok-record.ensures.fields;
}
