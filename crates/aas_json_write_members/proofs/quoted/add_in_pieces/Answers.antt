use Rattle.std.proofs.Common.{List, ℕ, take, drop, subst, sym}
use Rattle.json.specs.Print.{escape}
use Rattle.aas_json_write_members.proofs.Putting.{Front, front_more, front_none}
use Rattle.aas_json_write_members.proofs.Quoting.{escape_parts}
use Rattle.aas_json_write_members.proofs.quoted.add_in_pieces.Goals as goal

pub loop-rest-init : goal.loop-rest-init
loop-rest-init g c = (c.utf8.text, front_none c.args.so_far (g.O.TextEnd.told c.args.out.now) (escape c.args.text.now))

pub loop-rest-preserved : goal.loop-rest-preserved
loop-rest-preserved g c =
    let n = c.add_piece-piece.result.length in
    let rest = c.loop-rest.rest.now in (
      c.range_from-rest.utf8,
      subst (λ (r : List ℕ). Front c.args.so_far c.add_piece-piece.result.state (g.O.TextEnd.told c.args.out.now)
          (g.O.TextEnd.told c.add_piece-piece.new.out) (escape c.args.text.now) (escape r))
          (sym c.range_from-rest.ensures.value)
          (front_more c.add_piece-piece.result.state (g.O.TextEnd.told c.add_piece-piece.new.out) (escape (take n rest))
          (escape (drop n rest)) c.loop-rest.invariant.1 c.add_piece-piece.ensures.text (escape_parts n rest)),
    )
