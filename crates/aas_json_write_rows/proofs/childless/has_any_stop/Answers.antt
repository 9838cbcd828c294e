use Rattle.std.proofs.Common.{◌≡◌, ◌||◌, Bool, true, false, refl}
use Rattle.aas_json_write_members.specs.Members.{has_stop}
use Rattle.aas_json_write_members.specs.declared.stops.Stop.TheVariants as stop
use Rattle.aas_json_write_rows.proofs.childless.has_any_stop.Goals as goal

-- one test stands for those of all variables
said_once : (a v s m : Bool) → (((a || v) || s) || m) ≡ (a || (v || (v || (v || (s || (m || false))))))
said_once true v s m = refl
said_once false true s m = refl
said_once false false true m = refl
said_once false false false true = refl
said_once false false false false = refl

pub returns : goal.returns
unfolding has_stop
returns c =
    let p = c.args.payload.now in
    rw (c.has_stop.ensures, c.has_stop-2.ensures, c.has_stop-3.ensures, c.has_stop-4.ensures)
    (said_once (has_stop stop.Annotations p) (has_stop stop.OutputVariables p) (has_stop stop.Statements p)
    (has_stop stop.Value p))
