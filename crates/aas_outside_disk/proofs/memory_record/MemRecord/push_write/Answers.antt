use Rattle.std.proofs.Common.{◌≡◌, ◌≤◌, ◌+◌, ◌∙◌, ap, arith, length, length-append, List, ℕ, [], ◌∷◌}
use Rattle.std.specs.Prelude.{sum_by}
use Rattle.aas_outside_disk.specs.declared.memory_record.Entry.{Entry}
use Rattle.std.proofs.lemmas.Bool.{ltb-true, leb-true}
use Rattle.std.proofs.lemmas.List.{take_all}
use Rattle.aas_outside_disk.specs.declared.memory_record.Entry.TheVariants.{Wrote}
use Rattle.aas_outside_disk.specs.FileState.{wrote}
use Rattle.aas_outside_disk.specs.MemRecord.{bytes_of_steps}
use Rattle.aas_outside_disk.proofs.Records.{sizes, view-push, sum_by-push}
use Rattle.aas_outside_disk.specs.MemRecordInside.{entry_size}
use Rattle.aas_outside_disk.proofs.memory_record.MemRecord.push_write.Goals as goal

pub push_reserved-requires : goal.push_reserved-requires
push_reserved-requires c =
    let s = sizes c.self.inside c.args.self.now c.self.view_is c.self.invariant in
    omega (
      arith,
      s.steps,
      c.self.invariant.entries_room,
      c.self.inside.entries.ok.0,
      ltb-true (length c.args.self.now.steps) 4096 c.requires.step_room,
    )

pub append_reserved-requires : goal.append_reserved-requires
append_reserved-requires c =
    let s = sizes c.self.inside c.args.self.now c.self.view_is c.self.invariant in
    let fits : bytes_of_steps c.args.self.now.steps + length c.args.bytes.now ≤ c.args.self.now.capacity =
    leb-true _ _ c.requires.bytes_room in
    omega (arith, s.bytes, s.capacity, c.self.invariant.bytes_room, c.self.inside.bytes.ok.0, fits)

pub invariant_of-self : goal.invariant_of-self
invariant_of-self c =
    let s = sizes c.self.inside c.args.self.now c.self.view_is c.self.invariant in
    let fits : bytes_of_steps c.args.self.now.steps + length c.args.bytes.now ≤ c.args.self.now.capacity =
    leb-true _ _ c.requires.bytes_room in
    let size : length c.append_reserved.new.list.items ≡ length c.self.inside.bytes.items + length c.args.bytes.now =
    ap length c.append_reserved.ensures.items ∙ length-append c.self.inside.bytes.items c.args.bytes.now in
    let entries_size : sum_by entry_size c.push_reserved.new.self.items
    ≡ sum_by entry_size c.self.inside.entries.items + length c.args.bytes.now =
    ap (λ (l : List Entry). sum_by entry_size l) c.push_reserved.ensures.items
    ∙ sum_by-push entry_size c.self.inside.entries.items (Wrote c.args.part c.args.at (length c.args.bytes.now)) in
    record {
      whole = omega (arith, size, c.self.invariant.whole, entries_size);
      within = omega (arith, size, s.bytes, s.capacity, fits);
      bytes_room = omega (arith, c.self.invariant.bytes_room, c.append_reserved.ensures.capacity);
      entries_room = omega (arith, c.self.invariant.entries_room, c.push_reserved.ensures.capacity);
    }

pub returns : goal.returns
returns c =
    view-push c.self.inside c.self.invariant (Wrote c.args.part c.args.at (length c.args.bytes.now)) c.args.bytes.now
    (wrote c.args.part c.args.at c.args.bytes.now ∷ [])
    (ap (λ (l : List ℕ). wrote c.args.part c.args.at l ∷ [])
    (take_all (length c.args.bytes.now) c.args.bytes.now (omega arith)))
    c.push_reserved.new.self c.append_reserved.new.list c.args.self.now
    c.self.view_is c.push_reserved.ensures.items c.append_reserved.ensures.items
