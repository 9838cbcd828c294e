use Rattle.std.proofs.Common.{◌≡◌, ◌≤◌, ◌+◌, ◌-◌, ◌++◌, ℕ, List, length, take, sym, ap, ◌∙◌, arith}
use Rattle.std.specs.List.{remove_range, slice_range}
use Rattle.aas_model_text.specs.Many.{filled}
use Rattle.aas_sheet_index.proofs.Spliced.{filled_all, moved_long, parts, spliced}
use Rattle.aas_sheet_index.proofs.splicing.splice.Goals as goal

pub returns : goal.returns
returns g c =
    let first : ℕ = c.args.first in
    let end : ℕ = c.args.end in
    let added : ℕ = c.args.added in
    let next : ℕ = first + (c.len-3.result - added) in
    let behind : ℕ = next + (end - first) in
    let count : ℕ = c.len-2.result - (end - first) in
    let xs : List g.row.T.Denot = c.args.items.now in
    let one : List g.row.T.Denot = c.move_to_end.new.items in
    let two : List g.row.T.Denot = c.move_to_end-2.new.items in
    let next_is : next ≡ first + (length xs - added) = ap (λ n. first + (n - added)) c.len-3.ensures in
    let one_is : one ≡ remove_range xs first added ++ slice_range xs first added = c.move_to_end.ensures
    ∙ ap (λ (ys : List g.row.T.Denot). remove_range ys first added ++ slice_range ys first added)
    c.as_mut_slice.ensures.value in
    let one_long : length one ≡ length xs = ap length one_is
    ∙ moved_long xs first added (omega (arith, c.requires.ordered, c.requires.before)) c.requires.within in
    let one_whole : filled xs one ≡ one = filled_all xs one one_long in
    let two_is : two ≡ remove_range one next behind ++ slice_range one next behind =
    c.move_to_end-2.ensures
    ∙ ap (λ (ys : List g.row.T.Denot). remove_range ys next behind ++ slice_range ys next behind)
    (c.as_mut_slice-2.ensures.value ∙ one_whole) in
    let inside : behind ≤ length one =
    omega (arith, next_is, one_long, c.requires.ordered, c.requires.before, c.requires.within) in
    let two_long : length two ≡ length one = ap length two_is ∙ moved_long one next behind (omega arith) inside in
    let two_whole : filled (filled xs one) two ≡ two =
    filled_all (filled xs one) two (two_long ∙ sym (ap length one_whole)) in
    c.truncate.ensures ∙ ap (take count) two_whole
    ∙ spliced xs one two first end added count next
    (parts xs first end added c.requires.ordered c.requires.before c.requires.within)
    (ap (λ n. n - (end - first)) c.len-2.ensures) next_is one_is two_is
