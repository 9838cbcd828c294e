use Rattle.std.proofs.Common.{◌≡◌, ◌≤◌, length, map, take}
use Rattle.std.specs.Prelude.{filter}
use Rattle.std.specs.Str.{encode_utf8_all}
use Rattle.aas_discovery.specs.Finding.{has_all}
use Rattle.aas_discovery.proofs.finding.page_among.Given as goal

abbrev pub invariant-loop-id : goal.invariant-loop-id
invariant-loop-id g l = record {
  so_far : map encode_utf8_all l.listed ≡ filter (has_all (g.S.Store.documents l.store).shells l.wanted)
      (map encode_utf8_all (take l.id-index l.ids));
  few : length l.listed ≤ l.limit;
}
