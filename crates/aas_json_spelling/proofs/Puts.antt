-- Members that are put in one after another, in rising order, stand in that order.
use Rattle.std.proofs.Common.{◌≡◌, ℕ, List, Less, Greater, nat_cmp, refl, ap, ◌∙◌}
use Rattle.std.specs.Cmp.Lexicographic.{slice_cmp}
use Rattle.std.specs.Ordering.{ordering_reverse}
use Rattle.std.proofs.lemmas.Cmp.{nat_list_cmp_total}
use Rattle.serde_json.specs.Data.{Data, Members, no_members, member, put}
use Rattle.aas_json_spelling.specs.Values.{AreAbove}

-- members before others
abbrev pub then_members : Members → Members → Members
then_members no_members ms = ms
then_members (member k d before) ms = member k d (then_members before ms)

pub then_none : (before : Members) → then_members before no_members ≡ before
then_none no_members = refl
then_none (member k d before) = ap (member k d) (then_none before)

pub then_one_more : (before : Members) (k : List ℕ) (d : Data) (ms : Members) → then_members (then_members before (member k d no_members)) ms ≡ then_members before (member k d ms)
then_one_more no_members k d ms = refl
then_one_more (member l e before) k d ms = ap (member l e) (then_one_more before k d ms)

-- k is above each name of the members
abbrev pub IsBelow : Members → List ℕ → Type 0
IsBelow no_members k = Unit {0}
IsBelow (member l e ms) k = (slice_cmp nat_cmp k l ≡ Greater) × IsBelow ms k

-- each name of the later members is above each name of those before
abbrev pub AllBelow : Members → Members → Type 0
AllBelow before no_members = Unit {0}
AllBelow before (member k d ms) = IsBelow before k × AllBelow before ms

pub none_below : (ms : Members) → AllBelow no_members ms
none_below no_members = tt
none_below (member k d ms) = (tt, none_below ms)

pub put_after : (before : Members) (k : List ℕ) (d : Data) → IsBelow before k → put k d before ≡ then_members before (member k d no_members)
put_after no_members k d h = refl
put_after (member l e before) k d h = rw h.0 (ap (member l e) (put_after before k d h.1))

below_more : (before : Members) (k l : List ℕ) (d : Data) → IsBelow before l → slice_cmp nat_cmp k l ≡ Less → IsBelow (then_members before (member k d no_members)) l
below_more no_members k l d h less = (nat_list_cmp_total.antisymm l k ∙ ap ordering_reverse less, tt)
below_more (member m e before) k l d h less = (h.0, below_more before k l d h.1 less)

pub all_below_more : (before ms : Members) (k : List ℕ) (d : Data) → AllBelow before ms → AreAbove k ms → AllBelow (then_members before (member k d no_members)) ms
all_below_more before no_members k d h above = tt
all_below_more before (member l e ms) k d h above = (below_more before k l d h.0 above.0, all_below_more before ms k d h.1 above.1)
