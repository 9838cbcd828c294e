use Rattle.std.proofs.Common.{codes, subst, sym, Bool, if◌then◌else◌, None, option_map, ◌∷◌, []}
use Rattle.serde_json.specs.Written.{compact_text}
use Rattle.aas_json_table.specs.Spelled.{text_of}
use Rattle.aas_json_write_members.specs.Puts.{PutsFields}
use Rattle.aas_json_write_members.proofs.Putting.{put_none}
use Rattle.aas_json_write_members.proofs.own.put_blob.Goals as goal

pub returns-then-blobs : goal.returns-then-blobs
returns-then-blobs g c =
    subst (λ (b : Bool). PutsFields c.args.pen c.put_optional.result
    (g.O.TextEnd.told c.args.out.now) (g.O.TextEnd.told c.put_optional.new.out)
    ((codes "value", option_map compact_text (option_map text_of (if b then c.args.value.now else None))) ∷ []))
    (sym c.if-blobs.true) c.put_optional.ensures

pub returns-else-blobs : goal.returns-else-blobs
returns-else-blobs g c =
    subst (λ (b : Bool).
    PutsFields c.args.pen c.args.pen (g.O.TextEnd.told c.args.out.now) (g.O.TextEnd.told c.args.out.now)
    ((codes "value", option_map compact_text (option_map text_of (if b then c.args.value.now else None))) ∷ []))
    (sym c.if-blobs.false) (put_none c.args.pen (g.O.TextEnd.told c.args.out.now) (codes "value"))
