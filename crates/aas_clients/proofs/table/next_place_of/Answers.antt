use Rattle.std.proofs.Common.{length, sym, ◌∙◌}
use Rattle.aas_clients.proofs.Places.{among_full, among_less, next_same}
use Rattle.aas_clients.proofs.table.next_place_of.Goals as goal

pub returns-in-Some : goal.returns-in-Some
returns-in-Some g c = next_same c.args.places.now _ (sym c.in-Some.is ∙ c.free_place.ensures)

pub returns-then-places-lt-PLACES : goal.returns-then-places-lt-PLACES
returns-then-places-lt-PLACES g c =
    let places = c.args.places.now in
    sym (among_less (length places) c.if-places-lt-PLACES.true)
    ∙ next_same places _ (sym c.in-None.is ∙ c.free_place.ensures)

pub returns-else-places-lt-PLACES : goal.returns-else-places-lt-PLACES
returns-else-places-lt-PLACES g c =
    let places = c.args.places.now in
    sym (among_full (length places) c.if-places-lt-PLACES.false)
    ∙ next_same places _ (sym c.in-None.is ∙ c.free_place.ensures)
