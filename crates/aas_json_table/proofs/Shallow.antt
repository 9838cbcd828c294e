-- A value in which no other lies is passed over, where kept data has a level left.
use Rattle.std.proofs.Common.{◌≡◌, ℕ, zero, suc, List, true, nat_lt, Option, None, Some, option_map, refl, ap}
use Rattle.serde_json.specs.Data.{Data, null, boolean, number, string, array, object, Members, member}
use Rattle.aas_json_table.specs.Table.{MemberType, plain, Row}
use Rattle.aas_json_table.specs.Rows.{Pointer, below, first_of, in_member, row_named}
use Rattle.aas_json_table.specs.TooDeep.{Levels, is_shallow, spend, too_deep, too_deep_member, too_deep_members, within}

spent : (n : ℕ) (inside : ℕ → Levels) → nat_lt 0 n ≡ true → within (option_map inside (spend n)) (λ _. None) ≡ None
spent zero inside e = absurd (cc)
spent (suc n) inside e = refl

none_deep : (f : MemberType) (d : Data) (l : Levels) → is_shallow d l ≡ true → too_deep f d l ≡ None
none_deep f (array ds) l e = absurd (cc)
none_deep f (object ms) l e = absurd (cc)
none_deep plain null l e = spent l.kept (λ n. record l { kept = n }) e
none_deep plain (boolean b) l e = spent l.kept (λ n. record l { kept = n }) e
none_deep plain (number x) l e = spent l.kept (λ n. record l { kept = n }) e
none_deep plain (string s) l e = spent l.kept (λ n. record l { kept = n }) e
none_deep f d l e = refl

none_within : (k : List ℕ) (r : Option Row) (d : Data) (l : Levels) → is_shallow d l ≡ true → too_deep_member k r (λ f. too_deep f d l) ≡ None
none_within k None d l e = refl
none_within k (Some r) d l e = ap (below (in_member k)) (none_deep r.member_type d l e)

pub shallow_member : (k : List ℕ) (d : Data) (ms : Members) (rows : List Row) (l : Levels) → is_shallow d l ≡ true → too_deep_members (member k d ms) rows l ≡ too_deep_members ms rows l
shallow_member k d ms rows l e = ap (λ (p : Option Pointer). first_of p (too_deep_members ms rows l)) (none_within k (row_named k rows) d l e)
