use Rattle.std.proofs.Common.{codes, ap, sym, subst, option_map}
use Rattle.serde_json.specs.Written.{compact_text}
use Rattle.aas_json_table.specs.Table.{parts, reference}
use Rattle.aas_model.specs.declared.reference.Reference.{Reference, out-Reference}
use Rattle.aas_out.specs.Adds.{Adds}
use Rattle.aas_out.proofs.Adding.{adds_same}
use Rattle.aas_reference.specs.Spelling.{spell_reference}
use Rattle.aas_reference.proofs.Levels.{attributes_at}
use Rattle.aas_json_write_members.proofs.OneLevel.{spelled_out}
use Rattle.aas_json_write_members.proofs.Putting.{object_ended, object_more, put_missing, put_present, put_value}
use Rattle.aas_json_write_members.proofs.references.+reference.Goals as goal

pub pour_reference-returns : goal.pour_reference-returns
pour_reference-returns g t c =
    let r = out-Reference c.args.reference.now in
    adds_same c.args.so_far c.end_object.result
    (g.O.TextEnd.told c.args.out.now) (g.O.TextEnd.told c.end_object.new.out) _ _
    (object_ended (parts reference) (attributes_at r.ref_type r.keys (option_map spell_reference r.referred))
    c.end_object.result (g.O.TextEnd.told c.end_object.new.out)
    (object_more
    (object_more (object_more c.begin_object-begun.ensures c.put_list-keyed.ensures) c.put_referred-referring.ensures)
    c.put_word-typed.ensures)
    c.end_object.ensures)
    (ap compact_text (sym (spelled_out c.args.reference.now)))

pub put_referred-returns-in-Some : goal.put_referred-returns-in-Some
put_referred-returns-in-Some g t c =
    let named = c.add_key-named in
    put_present spell_reference c.args.referred.now c.in-Some.boxed c.in-Some.is
    (put_value c.args.pen.later c.args.pen.state c.add_key-named.result c.pour_reference.result
    (g.O.TextEnd.told c.args.out.now) (g.O.TextEnd.told c.add_key-named.new.out)
    (g.O.TextEnd.told c.pour_reference.new.out) (codes "referredSemanticId")
    (compact_text (spell_reference c.in-Some.boxed))
    c.add_key-named.ensures (subst (λ (r : Reference).
    Adds c.add_key-named.result c.pour_reference.result (g.O.TextEnd.told c.add_key-named.new.out)
    (g.O.TextEnd.told c.pour_reference.new.out) (compact_text (spell_reference r)))
    c.get.ensures c.pour_reference.ensures))

pub put_referred-returns-in-None : goal.put_referred-returns-in-None
put_referred-returns-in-None g t c =
    put_missing spell_reference c.args.pen (g.O.TextEnd.told c.args.out.now)
    (codes "referredSemanticId") c.args.referred.now c.in-None.is
