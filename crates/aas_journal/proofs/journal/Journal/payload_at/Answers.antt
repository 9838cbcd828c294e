use Rattle.std.proofs.Common.{◌≡◌, ◌∙◌, [], ◌++◌, ◌+◌, ◌≤◌, Some, refl, sym, ap, ℕ, List, length, get_or, arith}
use Rattle.std.proofs.lemmas.Option.{slice_get-get_or}
use Rattle.aas_outside_disk.specs.Files.{file}
use Rattle.aas_journal.specs.Image.{gate_of}
use Rattle.aas_journal.proofs.Disks.{known}
use Rattle.aas_journal.proofs.Initial.{where_told}
use Rattle.aas_journal.proofs.PayloadsRead.{image_told, is_last, next_gate_of, next_within, not_last, read_length}
use Rattle.aas_journal.proofs.PayloadsRead.{read_payload, record_at}
use Rattle.aas_journal.proofs.journal.Journal.payload_at.Goals as goal

pub returns-then-at-self-clause-given : goal.returns-then-at-self-clause-given
returns-then-at-self-clause-given g c = λ payloads n kept gate.
    (is_last payloads n c.args.at c.args.self.now.gate gate.within gate.at_is kept.gate_is c.if-at-self.true, refl)

pub read_at-requires : goal.read_at-requires
read_at-requires g c =
    let D = g.D.Disk in
    let self = c.args.self.now in
    where_told (D.state self.disk).seen _ (λ files told.
    let at = known files (D.state self.disk).seen _ told c.requires in
    let below = not_last at.0 at.2 c.args.at self.gate at.3.within at.3.at_is at.1.gate_is c.if-at-self.false in
    let image =
    image_told (D.state self.disk).seen ((D.state self.disk).left_at (D.state self.disk).moment) self.part self.gate at.0 files told at.1 in
    let it = record_at at.0 at.2 below (file self.part files) c.args.at image at.3.at_is in
    omega (arith, it.enough))

pub append_from-requires : goal.append_from-requires
append_from-requires g c =
    let D = g.D.Disk in
    let self = c.args.self.now in
    where_told (D.state c.read_at.new.self).seen _ (λ files now_told.
    let told : (D.state self.disk).seen ≡ Some files = sym c.read_at.ensures.reads.seen ∙ now_told in
    let at = known files (D.state self.disk).seen _ told c.requires in
    let below = not_last at.0 at.2 c.args.at self.gate at.3.within at.3.at_is at.1.gate_is c.if-at-self.false in
    let image =
    image_told (D.state self.disk).seen ((D.state self.disk).left_at (D.state self.disk).moment) self.part self.gate at.0 files told at.1 in
    let it = record_at at.0 at.2 below (file self.part files) c.args.at image at.3.at_is in
    let count : c.length_in-length.result ≡ length (get_or at.0 at.2 []) =
    c.length_in-length.ensures.value
    ∙ read_length (file self.part files) c.args.at (get_or at.0 at.2 []) it c.read_at.new.buf
    (known files (D.state self.disk).seen _ told c.in_ok-read_at.ensures.value) in
    omega (arith, it.enough, count, c.saturating_add-from.ensures))

pub returns-clause-given : goal.returns-clause-given
returns-clause-given g c = λ payloads n kept gate.
    let D = g.D.Disk in
    let self = c.args.self.now in
    let files = kept.files in
    let told = kept.told in
    let below = not_last payloads n c.args.at self.gate gate.within gate.at_is kept.gate_is c.if-at-self.false in
    let image = image_told (D.state self.disk).seen
    ((D.state self.disk).left_at (D.state self.disk).moment) self.part self.gate payloads files told kept in
    let payload = get_or payloads n [] in
    let it = record_at payloads n below (file self.part files) c.args.at image gate.at_is in
    let count : c.length_in-length.result ≡ length payload =
    c.length_in-length.ensures.value
    ∙ read_length (file self.part files) c.args.at payload it c.read_at.new.buf
    (known files (D.state self.disk).seen _ told c.in_ok-read_at.ensures.value) in
    let within : c.args.at + (5 + length payload) ≤ self.gate =
    omega (arith, next_within payloads n below, gate.at_is, kept.gate_is) in
    let from : c.saturating_add-from.result ≡ c.args.at + 5 = omega (arith, c.saturating_add-from.ensures, within) in
    let next : c.saturating_add.result ≡ gate_of payloads (n + 1) =
    omega (arith, c.saturating_add.ensures, from, count, within, next_gate_of payloads n below, gate.at_is) in (
      payload,
      slice_get-get_or payloads n [] below,
      known files (D.state c.read_at.new.self).seen _ (c.read_at.ensures.reads.seen ∙ told) c.in_ok-append_from.ensures.appended
          ∙ ap (λ (l : List ℕ). c.args.out.now.items ++ l)
          (read_payload (file self.part files) c.args.at payload
          it c.saturating_add-from.result c.length_in-length.result from count),
      next,
    )
