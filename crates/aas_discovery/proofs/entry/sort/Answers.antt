use Rattle.std.proofs.Common.{List, length, sym, ap, ◌∙◌, subst}
use Rattle.std.specs.List.Sorted.{IsPermutation}
use Rattle.std.proofs.lemmas.List.Sorted.{list_any-IsPermutation}
use Rattle.aas_discovery.specs.Entries.{is_entry, lists}
use Rattle.aas_discovery.specs.declared.entry.Entry.{Entry}
use Rattle.aas_discovery.proofs.Listed.{filled_whole}
use Rattle.aas_discovery.proofs.entry.sort.Goals as goal

pub returns : goal.returns
returns c = λ n v k.
    let old = c.args.entries.now in
    let new = c.sort_unstable_by.new.self in
    ap (λ (es : List Entry). lists es n v k) (filled_whole old new
    (c.sort_unstable_by.ensures.len ∙ ap length c.as_mut_slice.ensures.value))
    ∙ sym (list_any-IsPermutation (is_entry n v k) old new
    (subst (λ (es : List Entry). IsPermutation es new) c.as_mut_slice.ensures.value
    c.sort_unstable_by.ensures.permutation))
