use Rattle.std.proofs.Common.{◌+◌, take, option_map, arith, refl, sym, ap, ap₂, ◌∙◌, rules}
use Rattle.std.proofs.lemmas.Option.{slice_get_read}
use Rattle.aas_path_trees.specs.ElementAt.{place_of}
use Rattle.aas_rows.specs.Edits.{rank_among}
use Rattle.aas_store.proofs.Listed.{as_many_of_all, size_at, size_front, size_out}
use Rattle.aas_store.proofs.Paths.{child_there, no_steps, rank_ends, rank_goes_on}
use Rattle.aas_store.proofs.spots.+find_among.Goals as goal

pub returns-in_err-rank : goal.returns-in_err-rank
returns-in_err-rank t c =
    let fewer = size_front c.args.kids.now c.in_ok-place.place in
    let more = c.in_err-rank.ensures in
    absurd (omega (arith, fewer, more, c.requires))

pub overflow_add-rank : goal.overflow_add-rank
overflow_add-rank t c =
    let fewer = size_front c.args.kids.now c.in_ok-place.place in
    let rank = c.in_ok-rank.ensures in
    omega (arith, fewer, rank, c.requires)

pub find_among-requires : goal.find_among-requires
find_among-requires t c =
    let kid = sym (slice_get_read c.args.kids.now _ c.in_ok-place.place c.in_ok-kid.kid.now refl c.in_ok-kid.ensures.lookup.3.0 c.in_ok-kid.ensures.lookup.1) in
    let inside = size_at c.args.kids.now c.in_ok-place.place c.in_ok-kid.kid.now (sym kid) in
    let own = size_out c.in_ok-kid.kid.now c.as_slice.result.now c.as_slice.ensures in
    let rank = c.in_ok-rank.ensures in
    (search rules, omega (arith, inside, own, rank, c.requires))

pub returns-in-None : goal.returns-in-None
returns-in-None t c =
    let ks = c.args.kids.now in
    let place = c.in_ok-place.ensures ∙ ap (λ s. place_of c.args.in_list s ks) c.step_ref.ensures in
    let kid = sym (slice_get_read ks _ c.in_ok-place.place c.in_ok-kid.kid.now refl c.in_ok-kid.ensures.lookup.3.0 c.in_ok-kid.ensures.lookup.1) in
    rank_ends c.args.in_list c.args.step.now c.args.path.now ks (c.in_ok-place.place, c.in_ok-kid.kid.now) c.args.first c.in_ok-rank.rank
    (child_there c.args.in_list c.args.step.now ks c.in_ok-place.place c.in_ok-kid.kid.now place kid)
    (c.in_ok-rank.ensures ∙ ap (λ n. c.args.first + n) (as_many_of_all (take c.in_ok-place.place ks))) (no_steps c.args.path.now c.in-None.ensures.cases)

pub returns-in-Some : goal.returns-in-Some
returns-in-Some t c =
    let ks = c.args.kids.now in
    let k = c.in_ok-kid.kid.now in
    let place = c.in_ok-place.ensures ∙ ap (λ s. place_of c.args.in_list s ks) c.step_ref.ensures in
    let kid = sym (slice_get_read ks _ c.in_ok-place.place k refl c.in_ok-kid.ensures.lookup.3.0 c.in_ok-kid.ensures.lookup.1) in
    c.find_among.ensures
    ∙ ap₂ (λ l ks. option_map (λ r. c.in_ok-rank.rank + 1 + r) (rank_among l c.in-Some.next.now c.in-Some.rest.now ks)) c.is_list.ensures c.as_slice.ensures
    ∙ rank_goes_on c.args.in_list c.args.step.now c.in-Some.next.now c.args.path.now c.in-Some.rest.now ks (c.in_ok-place.place, k) c.args.first c.in_ok-rank.rank
    (child_there c.args.in_list c.args.step.now ks c.in_ok-place.place k place kid)
    (c.in_ok-rank.ensures ∙ ap (λ n. c.args.first + n) (as_many_of_all (take c.in_ok-place.place ks))) c.in-Some.ensures.cases.0
