use Rattle.std.proofs.Common.{◌≡◌, ◌+◌, List, ℕ, [], ◌∷◌, ◌++◌, Some, length, map, arith, sym, ap, ◌∙◌}
use Rattle.std.specs.Option.{option_copied}
use Rattle.std.specs.Str.{encode_utf8_all}
use Rattle.std.proofs.lemmas.List.{length-append, length-map, map-append}
use Rattle.aas_store.specs.Documents.{Identifier}
use Rattle.aas_page.proofs.Paged.{fewer_behind, next_passed_over, next_passes, next_taken, no_next, page_is_all, page_is_full, passing}
use Rattle.aas_page.proofs.Open.{next_is_there}
use Rattle.aas_page.proofs.paging.page.Goals as goal
use Rattle.aas_page.proofs.paging.page.Goals.{then-passes+else-len-limit+in_ok-from_str+in_ok-push, else-passes}

-- with one more text
listed : (ids new : List (List ℕ)) (text : List ℕ) (id : Identifier) → new ≡ ids ++ text ∷ [] → encode_utf8_all text ≡ id
    → map encode_utf8_all new ≡ map encode_utf8_all ids ++ id ∷ []
listed ids new text id added same =
    ap (map encode_utf8_all) added ∙ map-append encode_utf8_all ids (text ∷ []) ∙ ap (λ id. map encode_utf8_all ids ++ id ∷ []) same

longer : (ids new : List (List ℕ)) (text : List ℕ) → new ≡ ids ++ text ∷ [] → length new ≡ length ids + 1
longer ids new text added = ap length added ∙ length-append ids (text ∷ [])

pub returns-then-len-limit : goal.returns-then-len-limit
returns-then-len-limit g c =
    let d = g.S.Store.documents c.args.store.now in
    let k = c.args.collection in
    let f = c.args.filter.now in
    let after = option_copied c.args.after in
    let last = option_copied c.loop-id.last in
    let id = c.in-Some.id.now in
    let ids = c.loop-id.ids in
    let taken = map encode_utf8_all ids in
    let long = length-map ids encode_utf8_all in
    let passed = sym c.passes.ensures ∙ c.if-passes.true in
    page_is_full k f after c.args.limit d taken id (passing k f (Some id) d)
    (next_passes k f d (passing k f after d) taken last id c.loop-id.invariant.so_far (sym c.in-Some.ensures) passed)
    (omega (arith, long))

pub passes-requires : goal.passes-requires
passes-requires g c =
    next_is_there c.args.collection (option_copied c.loop-id.last) (g.S.Store.documents c.args.store.now) c.in-Some.id.now (sym c.in-Some.ensures)

pub loop-id-smaller : goal.loop-id-smaller
loop-id-smaller g c =
    let d = g.S.Store.documents c.args.store.now in
    fewer_behind c.args.collection (option_copied c.loop-id.last) d c.in-Some.id.now (sym c.in-Some.ensures)

pub loop-id-preserved : goal.loop-id-preserved
loop-id-preserved g c =
    let d = g.S.Store.documents c.args.store.now in
    let k = c.args.collection in
    let f = c.args.filter.now in
    let all = passing k f (option_copied c.args.after) d in
    let id = c.in-Some.id.now in
    let last = option_copied c.loop-id.last in
    let ids = c.loop-id.ids in
    let more = c.if-passes.ids in
    let taken = map encode_utf8_all ids in
    let so_far = c.loop-id.invariant.so_far in
    let next = sym c.in-Some.ensures in
    let test = sym c.passes.ensures in
    elim c.if-passes.branch [
      | then-passes+else-len-limit+in_ok-from_str+in_ok-push w ↦
          let added = w.ids-is ∙ w.in_ok-push.ensures.ok in
          let told = listed ids more _ id added w.in_ok-from_str.ensures.bytes in
          let long = longer ids more _ added in record {
            so_far = next_taken k f d all taken last id (map encode_utf8_all more) so_far next (test ∙ w.if-passes.true) told;
            few = omega (arith, long);
          }
      | else-passes w ↦ rw w.ids-is (record {
        so_far = next_passed_over k f d all taken last id so_far next (test ∙ w.if-passes.false);
        few = c.loop-id.invariant.few;
      })
    ]

pub returns : goal.returns
returns g c =
    let d = g.S.Store.documents c.args.store.now in
    let k = c.args.collection in
    let f = c.args.filter.now in
    let after = option_copied c.args.after in
    let taken = map encode_utf8_all c.loop-id.ids in
    let long = length-map c.loop-id.ids encode_utf8_all in
    let none = no_next k f (option_copied c.loop-id.last) d (sym c.in_default.ensures) in
    let all = c.loop-id.invariant.so_far ∙ ap (λ ids. taken ++ ids) none in
    page_is_all k f after c.args.limit d taken all (omega (arith, long, c.loop-id.invariant.few))
