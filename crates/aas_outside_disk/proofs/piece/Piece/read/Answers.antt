use Rattle.std.proofs.Common.{◌≡◌, ◌∙◌, ◌≤◌, ◌-◌, ℕ, length, take, drop, ap, arith, rules}
use Rattle.std.proofs.lemmas.List.{length-take}
use Rattle.std.proofs.lemmas.Option.{IfSome_then}
use Rattle.aas_outside_disk.specs.Files.{file}
use Rattle.aas_outside_disk.proofs.Pieces.{front_read}
use Rattle.aas_outside_disk.proofs.piece.Piece.read.Goals as goal

pub returns-clause-value : goal.returns-clause-value
returns-clause-value g c =
    let count = c.args.count in
    let storage = c.self.inside.storage in
    let within : count ≤ storage.len = omega (arith, c.self.invariant.0, storage.ok.0, c.requires.room) in
    let size : length (take (count - 0) c.deref_mut.result.now) ≡ count =
    omega (
      arith,
      within,
      storage.ok.0,
      ap length c.deref_mut.ensures.value,
      length-take (count - 0) c.deref_mut.result.now,
    ) in
    let whole : length c.read_at.new.buf ≡ length (take (count - 0) c.deref_mut.result.now) = search rules in
    IfSome_then (g.D.Disk.state c.args.disk.now).seen c.in_ok-read_at.ensures.value (λ files told.
    let bytes = file c.args.part files in
    front_read c.args.part c.args.at count storage.len c.read_at.new.buf _ _ bytes (whole ∙ size) within
    (told ∙ ap (λ (n : ℕ). take n (drop c.args.at bytes)) size))
