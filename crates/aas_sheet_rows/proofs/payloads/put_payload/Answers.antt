use Rattle.aas_sheet_rows.proofs.Putting.{put_at}
use Rattle.aas_sheet_rows.proofs.payloads.put_payload.Goals as goal

pub returns : goal.returns
returns c =
    let put = put_at c.args.rows.now c.args.place c.args.payload.now c.index-rows-place.result c.requires in
    let made = c.swap_payload.ensures in
    let is = c.index-rows-place.is in
    cc
