use Rattle.std.proofs.Common.{◌≡◌, ◌≤◌, ◌++◌, length, map}
use Rattle.std.specs.Option.{option_copied}
use Rattle.std.specs.Str.{encode_utf8_all}
use Rattle.aas_page.proofs.Paged.{count_behind, passing}
use Rattle.aas_page.proofs.paging.page.Given as goal

abbrev pub invariant-loop-id : goal.invariant-loop-id
invariant-loop-id g l = record {
  so_far : passing l.collection l.filter (option_copied l.fn.after) (g.S.Store.documents l.store)
      ≡ map encode_utf8_all l.ids ++ passing l.collection l.filter (option_copied l.last) (g.S.Store.documents l.store);
  few : length l.ids ≤ l.limit;
}

abbrev pub decreases-loop-id : goal.decreases-loop-id
decreases-loop-id g l = count_behind l.collection (option_copied l.last) (g.S.Store.documents l.store)
