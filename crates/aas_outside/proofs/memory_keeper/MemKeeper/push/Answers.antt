use Rattle.std.proofs.Common.{ap, ap₂, ◌≡◌, ◌+◌, length, arith, sym, ◌∙◌, subst, List, ℕ, length-append, [], ◌∷◌, ◌++◌}
use Rattle.std.specs.Prelude.{IsTrue, sum}
use Rattle.aas_outside.specs.MemKeeper.{MemKeeperState, has_room_behind, pieces}
use Rattle.aas_outside.proofs.Pieces.{room_gives, pieces_more, sum_more}
use Rattle.aas_outside.proofs.memory_keeper.MemKeeper.push.Goals as goal

pub append_reserved-requires : goal.append_reserved-requires
append_reserved-requires c =
    let at = c.self.inside in
    let room = room_gives at.lengths.items at.bytes.items at.capacity (length c.args.payload.now) c.self.invariant.0
    (subst (λ (k : MemKeeperState). IsTrue (has_room_behind k.capacity k.payloads (length c.args.payload.now)))
    (sym c.self.view_is) c.requires) in
    omega (arith, room, c.self.invariant.2, at.bytes.ok.0)

pub push_reserved-requires : goal.push_reserved-requires
push_reserved-requires c =
    let at = c.self.inside in
    let room = room_gives at.lengths.items at.bytes.items at.capacity (length c.args.payload.now) c.self.invariant.0
    (subst (λ (k : MemKeeperState). IsTrue (has_room_behind k.capacity k.payloads (length c.args.payload.now)))
    (sym c.self.view_is) c.requires) in
    omega (arith, room, c.self.invariant.3, at.lengths.ok.0)

pub invariant_of-self : goal.invariant_of-self
invariant_of-self c =
    let at = c.self.inside in
    let n = length c.args.payload.now in
    let room = room_gives at.lengths.items at.bytes.items at.capacity n c.self.invariant.0
    (subst (λ (k : MemKeeperState). IsTrue (has_room_behind k.capacity k.payloads n))
    (sym c.self.view_is) c.requires) in
    let bytes_size = ap length c.append_reserved.ensures.items ∙ length-append at.bytes.items c.args.payload.now in
    let lengths_size = ap length c.push_reserved.ensures.items ∙ length-append at.lengths.items (n ∷ []) in
    let total : sum c.push_reserved.new.self.items ≡ sum at.lengths.items + n =
    ap sum c.push_reserved.ensures.items ∙ sum_more at.lengths.items n in (
      omega (arith, total, bytes_size, c.self.invariant.0),
      omega (arith, room, bytes_size, lengths_size),
      omega (arith, c.self.invariant.2, c.append_reserved.ensures.capacity),
      omega (arith, c.self.invariant.3, c.push_reserved.ensures.capacity),
    )

pub returns : goal.returns
returns c =
    let at = c.self.inside in
    let n = length c.args.payload.now in
    let more : pieces c.push_reserved.new.self.items c.append_reserved.new.list.items
    ≡ c.args.self.now.payloads ++ c.args.payload.now ∷ [] =
    ap₂ (λ (ls bs : List ℕ). pieces ls bs) c.push_reserved.ensures.items c.append_reserved.ensures.items
    ∙ pieces_more at.lengths.items at.bytes.items c.args.payload.now c.self.invariant.0
    ∙ ap (λ (k : MemKeeperState). k.payloads ++ c.args.payload.now ∷ []) c.self.view_is in
    λ i. record {
      payloads = more i;
      capacity = (c.self.view_is i).capacity;
      calls = (c.self.view_is i).calls;
      faults = (c.self.view_is i).faults;
    }
