-- The parts of an element's members, as they are put.
use Rattle.std.proofs.Common.{◌≡◌, Bool, true, false, List, [], Option, Some, None, refl, sym, ap, ◌∙◌, subst}
use Rattle.aas_model.specs.declared.common.Common.{Common}
use Rattle.aas_model.specs.declared.payload.Payload.{Payload}
use Rattle.aas_model.specs.declared.payload.Payload.TheVariants as p
use Rattle.aas_rows.specs.Rows.{Line}
use Rattle.aas_json_write_members.specs.Members.{Field, fields_text, later_after, names, part, shown_payload}
use Rattle.aas_json_write_members.specs.Puts.{PutsFields, element_fields}
use Rattle.aas_json_write_members.specs.declared.members.Pen.{Pen}
use Rattle.aas_json_write_members.specs.declared.members.Show.{Show}
use Rattle.aas_json_write_members.specs.declared.stops.Stop.{Stop}
use Rattle.aas_json_write_members.specs.declared.stops.Stop.TheVariants as stop
use Rattle.aas_out.specs.Adds.{Adds}
use Rattle.aas_out.specs.Told.{Told}
use Rattle.aas_out.proofs.Adding.{adds_nothing}

-- the parts before the stops have no value in them, and are shown as they are
alike : (b : Bool) (c : Common) (x : Payload) (s : Stop)
    → element_fields c (shown_payload b x) (names (Some s)) ≡ element_fields c x (names (Some s))
alike true c x s = refl
alike false c p.Capability s = refl
alike false c x stop.Annotations = refl
alike false c x stop.InoutputVariables = refl
alike false c x stop.InputVariables = refl
alike false c x stop.OutputVariables = refl
alike false c x stop.Statements = refl
alike false c x stop.Value = refl

part_before : (w : Show) (r : Line) (s : Stop)
    → element_fields r.common r.payload (names (Some s)) ≡ part w r (Some s)
unfolding part
part_before w r s = sym (alike w.blobs r.common r.payload s)

last_part : (w : Show) (r : Line)
    → element_fields r.common (shown_payload w.blobs r.payload) (names None) ≡ part w r None
unfolding part
last_part w r = refl

-- the members of the part before a stop were put, as the trait's contract has it
abbrev PutsPart : {K : Type 0} → Pen → Pen → Told K → Told K → List Field → Type 0
PutsPart p q a b fs = record {
  text : Adds p.state q.state a b (fields_text p.later fs);
  later : q.later ≡ later_after p.later fs;
}

-- what puts the members of a part puts the part
puts_part : {K : Type 0} {p q : Pen} {a b : Told K} {fs : List Field}
    (w : Show) (r : Line) (next known : Option Stop)
    → next ≡ known → fs ≡ part w r known → PutsFields p q a b fs → PutsPart p q a b (part w r next)
puts_part {p = p} {q = q} {a = a} {b = b} w r next known at same h =
    let put = subst (PutsFields p q a b) (same ∙ ap (part w r) (sym at)) h in
    record { text = put.text; later = put.later }

pub puts_before : {K : Type 0} {p q : Pen} {a b : Told K} {next : Option Stop} (w : Show) (r : Line) (s : Stop)
    → next ≡ Some s → PutsFields p q a b (element_fields r.common r.payload (names (Some s)))
    → PutsPart p q a b (part w r next)
puts_before {next = next} w r s at h = puts_part w r next (Some s) at (part_before w r s) h

pub puts_last : {K : Type 0} {p q : Pen} {a b : Told K} {next : Option Stop} (w : Show) (r : Line)
    → next ≡ None → PutsFields p q a b (element_fields r.common (shown_payload w.blobs r.payload) (names None))
    → PutsPart p q a b (part w r next)
puts_last {next = next} w r at h = puts_part w r next None at (last_part w r) h

pub put_nothing : {K : Type 0} (p : Pen) (a : Told K) → PutsFields p p a a []
put_nothing p a = record { text = adds_nothing p.state a; later = refl }
