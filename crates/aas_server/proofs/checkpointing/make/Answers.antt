use Rattle.std.proofs.Common.{ℕ, List, [], ◌∷◌, sym, subst}
use Rattle.aas_journal.specs.Shown.{disk_of}
use Rattle.aas_repo_replay.specs.Replay.{Replays}
use Rattle.aas_server.specs.Checkpointing.{IsOneRecord}
use Rattle.aas_server.proofs.Checkpointed.{either_opens}
use Rattle.aas_server.proofs.checkpointing.make.Goals as goal

pub returns-in_err-checkpoint-clause-stays : goal.returns-in_err-checkpoint-clause-stays
returns-in_err-checkpoint-clause-stays g c = λ d payloads prepared replays settled t since until image left.
    let whole = rw c.in_ok-record.was at prepared in
    either_opens d payloads c.in_ok-record.field-0.record image replays
    (subst (λ (payload : List ℕ). Replays (payload ∷ []) d) (sym whole.record_is) whole.replays)
    (c.checkpoint.ensures.meanwhile payloads settled t since until image left)

pub returns-clause-made : goal.returns-clause-made
returns-clause-made g c = λ d payloads prepared keeps.
    let D = g.D.Disk in
    let whole = rw c.in_ok-record.was at prepared in (
      whole.line_is,
      subst (λ (payload : List ℕ).
          IsOneRecord payload (D.state (disk_of c.args.journal.now))
          (D.state (disk_of c.checkpoint.new.self)))
          whole.record_is
          (record {
            seen = (c.in_ok-checkpoint.ensures.puts payloads keeps).bytes;
            images = (c.in_ok-checkpoint.ensures.puts payloads keeps).settled.alone;
          }),
    )

pub returns-clause-stays : goal.returns-clause-stays
returns-clause-stays g c = λ d payloads prepared replays settled t since until image left.
    let whole = rw c.in_ok-record.was at prepared in
    either_opens d payloads c.in_ok-record.field-0.record image replays
    (subst (λ (payload : List ℕ). Replays (payload ∷ []) d) (sym whole.record_is) whole.replays)
    (c.checkpoint.ensures.meanwhile payloads settled t since until image left)
