-- Values that may be sent, and what they send for the children of an element.
use Rattle.std.proofs.Common.{◌≡◌, ℕ, Bool, true, false, List, [], ◌∷◌, codes, Option, Some, None, is_some}
use Rattle.std.proofs.Common.{option_and_then, refl, sym, ◌∙◌, subst}
use Rattle.std.specs.Prelude.{bytes_eq, if◌then◌else◌}
use Rattle.std.specs.Str.{encode_utf8_all}
use Rattle.serde_json.specs.Data.{Data, array, object, Items, no_items, item, Members, no_members, member}
use Rattle.serde_json.specs.Find.{get, get_member}
use Rattle.aas_json_spelling.specs.Values.{IsText, HasTexts, IsOrdered, HasWholeNumbers, MembersHaveWholeNumbers}
use Rattle.aas_model.specs.declared.payload.Payload.{Payload}
use Rattle.aas_model.specs.declared.payload.Payload.TheVariants as p
use Rattle.aas_value.specs.Children.{Child}
use Rattle.aas_value.specs.Parts.{Part, is_called, children, entry}
use Rattle.aas_value_update.specs.Shape.{by_names, next_item, in_turn, by_entries, items_in, nothing_sent, if_sent}
use Rattle.aas_value_update.specs.Shape.{sent}
use Rattle.aas_value_update.proofs.Members.{get_here, get_past}
use Rattle.aas_value_update.proofs.WholeOwn.{member_ordered}

-- texts, names that rise, and whole numbers
pub record IsSendable (d : Data) : Type 0 where
  pub text : IsText d
  pub order : IsOrdered d
  pub numbers : HasWholeNumbers d

abbrev pub IfSendable : Option Data → Type 0
IfSendable None = Unit {0}
IfSendable (Some d) = IsSendable d

-- ---- members

-- what holds of all members holds of each
member_has : (P : Data → Type 0) (Q : Members → Type 0)
    → ((k : List ℕ) (d : Data) (ms : Members) → Q (member k d ms) → P d × Q ms)
    → (n : List ℕ) (ms : Members) (d : Data) → Q ms → get_member n ms ≡ Some d → P d
member_has P Q out n no_members d all found = absurd (cc)
member_has P Q out n (member k v ms) d all found =
    by_test (bytes_eq n k) refl (member_has P Q out n ms d (out k v ms all).1)
  where
    by_test : (b : Bool) → bytes_eq n k ≡ b → (get_member n ms ≡ Some d → P d) → P d
    by_test true is more =
        let same : Some v ≡ Some d = sym (get_here n k v ms is) ∙ found in
        let values : v ≡ d = cc in
        subst P values (out k v ms all).0
    by_test false is more = more (sym (get_past n k v ms is) ∙ found)

member_sendable : (n : List ℕ) (ms : Members) (d : Data) → IsSendable (object ms) → get_member n ms ≡ Some d
    → IsSendable d
member_sendable n ms d good found = record {
  text = member_has IsText HasTexts (λ k d ms all. (all.1, all.2)) n ms d good.text found;
  order = member_ordered n ms d good.order found;
  numbers = member_has HasWholeNumbers MembersHaveWholeNumbers (λ k d ms all. all) n ms d good.numbers found;
}

pub found_sendable : (n : List ℕ) (v : Data) → IsSendable v → IfSendable (get n v)
found_sendable n (object ms) good = by_found (get_member n ms) refl
  where
    by_found : (s : Option Data) → get_member n ms ≡ s → IfSendable s
    by_found None found = tt
    by_found (Some d) found = member_sendable n ms d good found
found_sendable n v good = tt

-- ---- items

pub items_sendable : (d : Data) (ds : Items) → IsSendable (array (item d ds)) → IsSendable d × IsSendable (array ds)
items_sendable d ds good = (
  record { text = good.text.0; order = good.order.0; numbers = good.numbers.0 },
  record { text = good.text.1; order = good.order.1; numbers = good.numbers.1 },
)

items_in_sendable : (d : Data) → IsSendable d → IsSendable (array (items_in d))
items_in_sendable (array ds) good = good
items_in_sendable d good = record { text = tt; order = tt; numbers = tt }

-- ---- children

-- for each part what may be sent is sent, or nothing
abbrev pub AreSent : List Part → List (Option Data) → Type 0
AreSent [] [] = Unit {0}
AreSent (x ∷ xs) (s ∷ ss) = IfSendable s × AreSent xs ss
AreSent xs ss = ⊥

nothing_is_sent : (xs : List Part) → AreSent xs (nothing_sent (children xs))
nothing_is_sent [] = tt
nothing_is_sent (x ∷ xs) = (tt, nothing_is_sent xs)

named_sendable : (v : Data) → IsSendable v → (b : Bool) (o : Option (List ℕ))
    → IfSendable (if b then option_and_then (λ n. get (encode_utf8_all n) v) o else None)
named_sendable v good false o = tt
named_sendable v good true None = tt
named_sendable v good true (Some n) = found_sendable (encode_utf8_all n) v good

names_sent : (xs : List Part) (v : Data) → IsSendable v → AreSent xs (by_names (children xs) v)
names_sent [] v good = tt
names_sent (x ∷ xs) v good = (named_sendable v good (is_some x.child.form) x.child.name, names_sent xs v good)

turn_sent : (xs : List Part) (ds : Items) → IsSendable (array ds) → AreSent xs (in_turn (children xs) ds)
turn_sent [] ds good = tt
turn_sent (x ∷ xs) ds good = by_form (is_some x.child.form) ds good (turn_sent xs)
  where
    by_form : (b : Bool) (ds : Items) → IsSendable (array ds)
        → ((es : Items) → IsSendable (array es) → AreSent xs (in_turn (children xs) es))
        → AreSent (x ∷ xs) (if b then next_item (in_turn (children xs)) ds else None ∷ in_turn (children xs) ds)
    by_form true no_items good more = (tt, more no_items good)
    by_form true (item d es) good more = let both = items_sendable d es good in (both.0, more es both.1)
    by_form false es good more = (tt, more es good)

entry_sendable : (c : Child) (ds : Items) → IsSendable (array ds)
    → IfSendable (entry c ds).0 × IsSendable (array (entry c ds).1)
entry_sendable c (item (object (member n d no_members)) ds) good = by_name (is_called n c)
  where
    chosen : Bool → Option Data × Items
    chosen b = if b then (Some d, ds) else (None, item (object (member n d no_members)) ds)

    by_name : (b : Bool) → IfSendable (chosen b).0 × IsSendable (array (chosen b).1)
    by_name true = (
      record { text = good.text.0.1; order = good.order.0.1; numbers = good.numbers.0.0 },
      (items_sendable (object (member n d no_members)) ds good).1,
    )
    by_name false = (tt, good)
entry_sendable c ds good = (tt, good)

entries_sent : (xs : List Part) (ds : Items) → IsSendable (array ds) → AreSent xs (by_entries (children xs) ds)
entries_sent [] ds good = tt
entries_sent (x ∷ xs) ds good =
    let e = entry_sendable x.child ds good in (e.0, entries_sent xs (entry x.child ds).1 e.1)

pub are_sent : (x : Payload) (xs : List Part) (v : Data) → IsSendable v → AreSent xs (sent x (children xs) v)
are_sent p.SubmodelElementCollection xs v good = names_sent xs v good
are_sent (p.Entity t g ids) xs v good =
    by_sent (get (codes "statements") v) (found_sendable (codes "statements") v good)
  where
    by_sent : (s : Option Data) → IfSendable s → AreSent xs (if_sent (by_names (children xs)) (children xs) s)
    by_sent None o = nothing_is_sent xs
    by_sent (Some d) o = names_sent xs d o
are_sent (p.AnnotatedRelationshipElement a b) xs v good =
    by_sent (get (codes "annotations") v) (found_sendable (codes "annotations") v good)
  where
    by_sent : (s : Option Data) → IfSendable s
        → AreSent xs (if_sent (λ d. by_entries (children xs) (items_in d)) (children xs) s)
    by_sent None o = nothing_is_sent xs
    by_sent (Some d) o = entries_sent xs (items_in d) (items_in_sendable d o)
are_sent (p.SubmodelElementList o s t a) xs v good = turn_sent xs (items_in v) (items_in_sendable v good)
are_sent p.Capability xs v good = nothing_is_sent xs
are_sent _ xs v good = nothing_is_sent xs
