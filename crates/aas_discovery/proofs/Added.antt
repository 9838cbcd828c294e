-- What is added to an index and taken from it, call by call.
use Rattle.std.proofs.Common.{◌≡◌, ℕ, Bool, true, false, not, ◌&&◌, ◌||◌, List, [], ◌∷◌, Some, None, is_some}
use Rattle.std.proofs.Common.{Result, Ok, Err, OnOk, OnErr, refl, sym, ap, ◌∙◌, true≢false}
use Rattle.std.specs.Prelude.{bytes_eq, map, ⊤}
use Rattle.std.specs.FinMap as fin
use Rattle.std.specs.FinMap.{empty_of_len, get-empty, get-entries}
use Rattle.std.specs.Option.{option_map_or}
use Rattle.std.specs.Str.{encode_utf8_all}
use Rattle.aas_store.specs.Documents.{Identifier, Map}
use Rattle.aas_store.proofs.Ordered.{order}
use Rattle.aas_store.proofs.Shelves.{inserted_same}
use Rattle.aas_discovery.specs.Carriers.{if_any}
use Rattle.aas_discovery.specs.Index.{Index, Values, bears, stands}
use Rattle.aas_discovery.proofs.Held.{has_put, has_without, put_at, put_in_place, put_new}
use Rattle.aas_discovery.proofs.Held.{taken_in_place}

-- ---- calls that are refused

pub same_at : {X A B : Type 0} (r : Result A B) (m : Map X) (key : Identifier) (old new : X) → fin.get m key ≡ Some old
    → OnErr r (new ≡ old)
    → OnErr r (fin.insert m key new ≡ m)
same_at (Ok a) m key old new is same = tt
same_at (Err b) m key old new is same = ap (fin.insert m key) same ∙ inserted_same m key old is

-- ---- under a value

abbrev pub has : Identifier → Map ⊤ → Bool
has k ids = fin.contains_key ids k

pub more_under : {A B : Type 0} (r : Result A B) (values : Values) (key value id : List ℕ) (old new : Map ⊤)
    → key ≡ value → fin.get values key ≡ Some old
    → OnOk r (new ≡ fin.insert old id tt)
    → OnOk r ((v : List ℕ) (k : Identifier) → stands (fin.insert values key new) v k
    ≡ (stands values v k || (bytes_eq value v && bytes_eq id k)))
more_under (Ok a) values key value id old new same is ok = λ v k.
    put_in_place (has k) values key old new v (bytes_eq id k) is (ap (has k) ok ∙ has_put old id k)
    ∙ ap (λ n. stands values v k || (bytes_eq n v && bytes_eq id k)) same
more_under (Err b) values key value id old new same is ok = tt

pub new_under : {A B : Type 0} (r : Result A B) (values new_values : Values) (key other value id : List ℕ) (ids : Map ⊤)
    → key ≡ value → other ≡ value
    → fin.get values key ≡ None → ids ≡ fin.insert fin.empty id tt → OnOk r (new_values ≡ fin.insert values other ids)
    → OnOk r ((v : List ℕ) (k : Identifier) → stands new_values v k
    ≡ (stands values v k || (bytes_eq value v && bytes_eq id k)))
new_under (Ok a) values new_values key other value id ids same again none one ok = λ v k.
    ap (λ (m : Values). stands m v k) (ok ∙ ap (λ n. fin.insert values n ids) again)
    ∙ put_new (has k) values value ids v (bytes_eq id k) (ap (fin.get values) (sym same) ∙ none)
    (ap (has k) one ∙ has_put fin.empty id k ∙ ap (λ o. is_some o || bytes_eq id k) (get-empty order k))
new_under (Err b) values new_values key other value id ids same again none one ok = tt

-- ---- under a name

pub more_named : {A B : Type 0} (r : Result A B) (index : Index) (key name value id : List ℕ) (old new : Values)
    → key ≡ name → fin.get index key ≡ Some old
    → OnOk r ((v : List ℕ) (k : Identifier) → stands new v k ≡ (stands old v k || (bytes_eq value v && bytes_eq id k)))
    → OnOk r ((n v : List ℕ) (k : Identifier) → bears (fin.insert index key new) n v k
    ≡ (bears index n v k || (bytes_eq name n && (bytes_eq value v && bytes_eq id k))))
more_named (Ok a) index key name value id old new same is ok = λ n v k.
    put_in_place (λ values. stands values v k) index key old new n (bytes_eq value v && bytes_eq id k) is (ok v k)
    ∙ ap (λ m. bears index n v k || (bytes_eq m n && (bytes_eq value v && bytes_eq id k))) same
more_named (Err b) index key name value id old new same is ok = tt

none_stand : (values : Values) (v : List ℕ) (k : Identifier) → values ≡ fin.empty → stands values v k ≡ false
none_stand values v k none = ap (λ (m : Values). stands m v k) none
    ∙ ap (λ o. option_map_or (has k) o false) (get-empty order v)

pub new_named : {A B : Type 0} (r : Result A B) (index new_index : Index) (key other name value id : List ℕ)
    (none values : Values) → key ≡ name → other ≡ name
    → fin.get index key ≡ None → none ≡ fin.empty
    → ((v : List ℕ) (k : Identifier) → stands values v k ≡ (stands none v k || (bytes_eq value v && bytes_eq id k)))
    → OnOk r (new_index ≡ fin.insert index other values)
    → OnOk r ((n v : List ℕ) (k : Identifier) → bears new_index n v k
    ≡ (bears index n v k || (bytes_eq name n && (bytes_eq value v && bytes_eq id k))))
new_named (Ok a) index new_index key other name value id none values same again absent empty one ok = λ n v k.
    ap (λ (m : Index). bears m n v k) (ok ∙ ap (λ n. fin.insert index n values) again)
    ∙ put_new (λ values. stands values v k) index name values n (bytes_eq value v && bytes_eq id k)
    (ap (fin.get index) (sym same) ∙ absent)
    (one v k ∙ ap (λ b. b || (bytes_eq value v && bytes_eq id k)) (none_stand none v k empty))
new_named (Err b) index new_index key other name value id none values same again absent empty one ok = tt

-- ---- taken away

pub less_under : (values : Values) (value id : List ℕ) (old new : Map ⊤) → fin.get values value ≡ Some old
    → new ≡ fin.remove old id
    → (v : List ℕ) (k : Identifier) → stands (fin.insert values value new) v k
    ≡ (stands values v k && not (bytes_eq value v && bytes_eq id k))
less_under values value id old new is less v k =
    taken_in_place (has k) values value old new v (bytes_eq id k) is (ap (has k) less ∙ has_without old id k)

pub less_named : (index : Index) (name value id : List ℕ) (old new : Values) → fin.get index name ≡ Some old
    → ((v : List ℕ) (k : Identifier) → stands new v k ≡ (stands old v k && not (bytes_eq value v && bytes_eq id k)))
    → (n v : List ℕ) (k : Identifier) → bears (fin.insert index name new) n v k
    ≡ (bears index n v k && not (bytes_eq name n && (bytes_eq value v && bytes_eq id k)))
less_named index name value id old new is less n v k =
    taken_in_place (λ values. stands values v k) index name old new n (bytes_eq value v && bytes_eq id k) is (less v k)

-- an empty list is that of no identifiers
pub none_left : (texts : List (List ℕ)) (ids : Map ⊤) (values : Values) (value : List ℕ)
    → map encode_utf8_all texts ≡ fin.keys ids → texts ≡ []
    → (k : Identifier) → stands (fin.insert values value ids) value k ≡ false
none_left texts ids values value same none k =
    put_here ∙ no_key
  where
    keyless : (es : List (Identifier × ⊤)) → [] ≡ map (λ (e : Identifier × ⊤). e.0) es → fin.find order k es ≡ None
    keyless [] e = refl
    keyless (x ∷ es) e = absurd (cc)

    no_key : has k ids ≡ false
    no_key = ap is_some (get-entries ids k ∙ keyless (fin.entries ids) (ap (map encode_utf8_all) (sym none) ∙ same))

    put_here : stands (fin.insert values value ids) value k ≡ has k ids
    put_here = put_at (has k) values value ids

-- a name of no values
pub no_value_left : (index : Index) (name : List ℕ) (values : Values) → fin.len values ≡ 0
    → (v : List ℕ) (k : Identifier) → bears (fin.insert index name values) name v k ≡ false
no_value_left index name values none v k =
    put_at (λ values. stands values v k) index name values ∙ none_stand values v k (empty_of_len values none)

-- a list of identifiers, where there are any
pub some_if_any : (texts : List (List ℕ)) (ids : List (List ℕ)) (b : Bool) → map encode_utf8_all texts ≡ ids
    → (texts ≡ [] → b ≡ true) → b ≡ false
    → Some (map encode_utf8_all texts) ≡ if_any ids
some_if_any [] ids b is empty other = absurd (true≢false (sym (empty refl) ∙ other))
some_if_any (t ∷ ts) ids b is empty other = ap if_any is
