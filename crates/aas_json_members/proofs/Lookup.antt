-- The member of a name.
use Rattle.std.proofs.Common.{◌≡◌, ℕ, List, Option, Some, None, option_map, IfSome, Ordering, Less, Equal, Greater, nat_cmp, Bor, sym, ap, max, ◌≤◌, arith}
use Rattle.std.specs.Cmp.Lexicographic.{slice_cmp}
use Rattle.std.specs.Ordering.{match_ordering}
use Rattle.std.proofs.lemmas.Option.{none-some}
use Rattle.serde_json.specs.Data.{Data, Members, no_members, member, depth, members_depth}
use Rattle.serde_json.specs.Find.{get_member}
use Rattle.serde_json.specs.View.{view}
use Rattle.serde_json.specs.declared.value.Value.{Value}
-- what a member says is what the value under its name says
pub use Rattle.aas_json_spelling.proofs.Objects.{canonical_member_is}

at_most : (o : Ordering) (n : ℕ) (a : Option Data) (d e : Data) → (a ≡ Some e → depth e ≤ n) → match_ordering o a (Some d) a ≡ Some e → depth e ≤ max (depth d) n
at_most Less n a d e h is = let below : depth e ≤ n = h is in omega arith
at_most Equal n a d e h is = let same : d ≡ e = cc in omega (arith, ap depth same)
at_most Greater n a d e h is = let below : depth e ≤ n = h is in omega arith

-- a member is no deeper than the members
pub member_depth : (n : List ℕ) (ms : Members) (e : Data) → get_member n ms ≡ Some e → depth e ≤ members_depth ms
member_depth n no_members e h = absurd (none-some e h)
member_depth n (member k d ms) e h = at_most (slice_cmp nat_cmp n k) (members_depth ms) (get_member n ms) d e (member_depth n ms e) h

-- what was found is no deeper than the members
pub found_depth : (n : List ℕ) (ms : Members) (r : Option (Bor Value)) → option_map (λ v. view v.now) r ≡ get_member n ms → IfSome r (λ v. depth (view v.now) ≤ members_depth ms)
found_depth n ms None e = tt
found_depth n ms (Some v) e = member_depth n ms (view v.now) (sym e)
