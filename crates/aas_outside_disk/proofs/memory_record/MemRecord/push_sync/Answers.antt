use Rattle.std.proofs.Common.{arith, length, sym, refl, []}
use Rattle.std.proofs.lemmas.Bool.{ltb-true}
use Rattle.std.proofs.lemmas.List.{append-nil}
use Rattle.aas_outside_disk.specs.declared.memory_record.Entry.TheVariants.{Synced}
use Rattle.aas_outside_disk.proofs.Records.{sizes, view-push}
use Rattle.aas_outside_disk.proofs.memory_record.MemRecord.push_sync.Goals as goal

pub push_reserved-requires : goal.push_reserved-requires
push_reserved-requires c =
    let s = sizes c.self.inside c.args.self.now c.self.view_is c.self.invariant in
    omega (
      arith,
      s.steps,
      c.self.invariant.entries_room,
      c.self.inside.entries.ok.0,
      ltb-true (length c.args.self.now.steps) 4096 c.requires,
    )

pub returns : goal.returns
returns c =
    view-push c.self.inside c.self.invariant (Synced c.args.part) [] _ refl
    c.push_reserved.new.self c.self.inside.bytes c.args.self.now c.self.view_is c.push_reserved.ensures.items
    (sym (append-nil c.self.inside.bytes.items))
