-- What is listed and settled, step by step.
use Rattle.std.proofs.Common.{◌≡◌, ℕ, ◌+◌, ◌<◌, Bool, true, false, not, ◌&&◌, ◌||◌, List, [], ◌∷◌, ◌++◌, length, take}
use Rattle.std.proofs.Common.{drop, get_or, Some, None, Option, Result, Ok, Err, OnOk, refl, sym, ap, ap₂, ◌∙◌, arith}
use Rattle.std.specs.Prelude.{bytes_eq, codes}
use Rattle.std.specs.FinMap as fin
use Rattle.std.specs.List.{list_any}
use Rattle.std.specs.Option.{option_map_or}
use Rattle.std.specs.Str.{encode_utf8_all}
use Rattle.std.proofs.lemmas.Bool.{and_parts}
use Rattle.std.proofs.lemmas.List.{append-nil, drop_all, take-append-drop, take_all}
use Rattle.aas_lemmas.proofs.Truth.{bytes_eq-turned, bytes_eq-unlike}
use Rattle.std.proofs.lemmas.List.Folds.{list_any-append, list_any_more}
use Rattle.std.proofs.lemmas.Slice.Eq.{bytes_eq-Decides}
use Rattle.aas_model.specs.declared.documents.Shell.{Shell}
use Rattle.aas_page.specs.Filters.{carries, is_global, is_same_text}
use Rattle.aas_store.specs.Documents.{Identifier, Map}
use Rattle.aas_discovery.specs.Entries.{IsGrown, is_entry, lists}
use Rattle.aas_discovery.specs.Index.{Index, bears, carried}
use Rattle.aas_discovery.specs.declared.entry.Entry.{Entry}

-- ---- truth values

pub nothing_more : (a b : Bool) → a ≡ (a || (b && false))
nothing_more true b = refl
nothing_more false true = refl
nothing_more false false = refl

pub one_more : (a b l x y : Bool) → ((a || (b && l)) || ((x && (y && b)) || false)) ≡ (a || (b && (l || (x && y))))
one_more true b l x y = refl
one_more false true true x y = refl
one_more false true false true true = refl
one_more false true false true false = refl
one_more false true false false y = refl
one_more false false l true true = refl
one_more false false l true false = refl
one_more false false l false y = refl

pub both_more : (a b x y : Bool) → ((a || (b && x)) || (b && y)) ≡ (a || (b && (x || y)))
both_more true b x y = refl
both_more false true x y = refl
both_more false false x y = refl

-- ---- lists of entries

pub pushed : (entries new : List Entry) (e : Entry) (n v : List ℕ) (k : Identifier) → new ≡ entries ++ e ∷ []
    → lists new n v k ≡ (lists entries n v k || (is_entry n v k e || false))
pushed entries new e n v k is = ap (list_any (is_entry n v k)) is ∙ list_any-append (is_entry n v k) entries (e ∷ [])

pub some_taken : {X : Type 0} (p : X → Bool) (xs : List X) (i : ℕ) → list_any p (take i xs) ≡ true
    → list_any p xs ≡ true
some_taken p xs i has =
    ap (list_any p) (sym (take-append-drop i xs)) ∙ list_any-append p (take i xs) (drop i xs)
    ∙ ap (λ b. b || list_any p (drop i xs)) has

-- what an index has of the first entries that were put in
pub grown_by : (old new : Index) (entries : List Entry) (i : ℕ)
    → ((n v : List ℕ) (k : Identifier) → bears new n v k ≡ (bears old n v k || lists (take i entries) n v k))
    → IsGrown old entries new
grown_by old new entries i is = record {
  keeps = λ n v k has. is n v k ∙ ap (λ b. b || lists (take i entries) n v k) has;
  gets = λ n v k has. weaker (bears old n v k) (lists (take i entries) n v k) (lists entries n v k)
      (some_taken (is_entry n v k) entries i) (sym (is n v k) ∙ has);
}
  where
    weaker : (a b c : Bool) → (b ≡ true → c ≡ true) → (a || b) ≡ true → (a || c) ≡ true
    weaker true b c to h = refl
    weaker false b c to h = to h

-- an entry says where it stands
pub carried_there : (shells : Map Shell) (e : Entry) (n v : List ℕ) (k : Identifier) → is_entry n v k e ≡ true
    → carried shells n v k ≡ carried shells (encode_utf8_all e.name) (encode_utf8_all e.value) (encode_utf8_all e.id)
carried_there shells e n v k is =
    let first = and_parts (bytes_eq (encode_utf8_all e.name) n)
    (bytes_eq (encode_utf8_all e.value) v && bytes_eq (encode_utf8_all e.id) k) is in
    let second = and_parts (bytes_eq (encode_utf8_all e.value) v) (bytes_eq (encode_utf8_all e.id) k) first.1 in
    ap (λ n. carried shells n v k) (sym ((bytes_eq-Decides (encode_utf8_all e.name) n).0 first.0))
    ∙ ap (λ v. carried shells (encode_utf8_all e.name) v k)
    (sym ((bytes_eq-Decides (encode_utf8_all e.value) v).0 second.0))
    ∙ ap (λ k. carried shells (encode_utf8_all e.name) (encode_utf8_all e.value) k)
    (sym ((bytes_eq-Decides (encode_utf8_all e.id) k).0 second.1))

-- one entry more is settled: it stays where it is carried, and is taken out where it isn't
settled_step : (stays b l e c : Bool) → (e ≡ true → c ≡ stays) → (new : Bool)
    → new ≡ ((b && not (l && not c)) && not (e && not stays))
    → new ≡ (b && not ((l || e) && not c))
settled_step true b l true c same new is = is ∙ by b l c (same refl)
  where
    by : (b l c : Bool) → c ≡ true → ((b && not (l && not c)) && not (true && not true))
        ≡ (b && not ((l || true) && not c))
    by false l c e = refl
    by true true true e = refl
    by true false true e = refl
    by true l false e = absurd (cc)
settled_step false b l true c same new is = is ∙ by b l c (same refl)
  where
    by : (b l c : Bool) → c ≡ false → ((b && not (l && not c)) && not (true && not false))
        ≡ (b && not ((l || true) && not c))
    by false l c e = refl
    by true true false e = refl
    by true false false e = refl
    by true l true e = absurd (cc)
settled_step stays b l false c same new is = is ∙ by b l c stays
  where
    by : (b l c s : Bool) → ((b && not (l && not c)) && not (false && not s)) ≡ (b && not ((l || false) && not c))
    by false l c s = refl
    by true true true s = refl
    by true true false s = refl
    by true false c s = refl

pub settled_more : (shells : Map Shell) (entries : List Entry) (i : ℕ) (e : Entry) (old index new : Index)
    (stays : Bool) → i < length entries
    → get_or entries i e ≡ e
    → stays ≡ carried shells (encode_utf8_all e.name) (encode_utf8_all e.value) (encode_utf8_all e.id)
    → ((n v : List ℕ) (k : Identifier) → bears index n v k
    ≡ (bears old n v k && not (lists (take i entries) n v k && not (carried shells n v k))))
    → ((n v : List ℕ) (k : Identifier) → bears new n v k ≡ (bears index n v k && not (is_entry n v k e && not stays)))
    → (n v : List ℕ) (k : Identifier) → bears new n v k
    ≡ (bears old n v k && not (lists (take (i + 1) entries) n v k && not (carried shells n v k)))
settled_more shells entries i e old index new stays lt at is so_far step n v k =
    settled_step stays (bears old n v k) (lists (take i entries) n v k) (is_entry n v k e) (carried shells n v k)
    (λ there. carried_there shells e n v k there ∙ sym is) (bears new n v k)
    (step n v k ∙ ap (λ b. b && not (is_entry n v k e && not stays)) (so_far n v k))
    ∙ ap (λ l. bears old n v k && not (l && not (carried shells n v k)))
    (sym (list_any_more (is_entry n v k) entries i e lt
    ∙ ap (λ x. lists (take i entries) n v k || is_entry n v k x) at))

-- where an entry is carried, the index stays
pub unsettled : (index : Index) (e : Entry) (stays : Bool) → stays ≡ true
    → (n v : List ℕ) (k : Identifier) → bears index n v k ≡ (bears index n v k && not (is_entry n v k e && not stays))
unsettled index e stays is n v k = by (bears index n v k) (is_entry n v k e) stays is
  where
    by : (b e s : Bool) → s ≡ true → b ≡ (b && not (e && not s))
    by false e s is = refl
    by true true true is = refl
    by true false true is = refl
    by true e false is = absurd (cc)

-- ---- a shell's own entries and those of the one before it

pub touched_by : (shells : Map Shell) (id : Identifier) (old : Shell) (a c : Bool) (n v : List ℕ) (k : Identifier)
    → fin.get shells id ≡ Some old
    → ((a || (bytes_eq id k && carries old.asset n v)) || (bytes_eq id k && c))
    ≡ (a || (bytes_eq id k && (carried shells n v k || c)))
touched_by shells id old a c n v k is = by (bytes_eq id k) refl
  where
    by : (b : Bool) → bytes_eq id k ≡ b → ((a || (b && carries old.asset n v)) || (b && c))
        ≡ (a || (b && (carried shells n v k || c)))
    by true same =
        both_more a true (carries old.asset n v) c
        ∙ ap (λ x. a || (true && (x || c)))
        (sym (ap (λ k. carried shells n v k) (sym ((bytes_eq-Decides id k).0 same))
        ∙ ap (λ o. option_map_or (λ (s : Shell). carries s.asset n v) o false) is))
    by false other = both_more a false (carries old.asset n v) c

pub touched_new : (shells : Map Shell) (id : Identifier) (a c : Bool) (n v : List ℕ) (k : Identifier)
    → fin.get shells id ≡ None
    → (a || (bytes_eq id k && c)) ≡ (a || (bytes_eq id k && (carried shells n v k || c)))
touched_new shells id a c n v k none = by (bytes_eq id k) refl
  where
    by : (b : Bool) → bytes_eq id k ≡ b → (a || (b && c)) ≡ (a || (b && (carried shells n v k || c)))
    by true same =
        ap (λ x. a || (true && (x || c)))
        (sym (ap (λ k. carried shells n v k) (sym ((bytes_eq-Decides id k).0 same))
        ∙ ap (λ o. option_map_or (λ (s : Shell). carries s.asset n v) o false) none))
    by false other = refl

-- ---- calls

pub on_ok : {A B P Q : Type 0} (r : Result A B) → (P → Q) → OnOk r P → OnOk r Q
on_ok (Ok a) f p = f p
on_ok (Err b) f p = tt

turned : (a b : List ℕ) → bytes_eq a b ≡ bytes_eq b a
turned a b = by (bytes_eq b a) refl
  where
    by : (c : Bool) → bytes_eq b a ≡ c → bytes_eq a b ≡ c
    by true e = bytes_eq-turned b a e
    by false e = bytes_eq-unlike b a e

-- the entry of a global asset id
pub global_pushed : {A B : Type 0} (r : Result A B) (entries new : List Entry) (e : Entry) (name value id : List ℕ)
    (own : Option (List ℕ))
    → encode_utf8_all e.name ≡ name → name ≡ codes "globalAssetId" → e.value ≡ value → e.id ≡ id → own ≡ Some value
    → OnOk r (new ≡ entries ++ e ∷ [])
    → OnOk r ((n v : List ℕ) (k : Identifier) → lists new n v k
    ≡ (lists entries n v k || (bytes_eq (encode_utf8_all id) k && (is_global n && is_same_text v own))))
global_pushed r entries new e name value id own is_name is_global_name is_value is_id is_own pushes = on_ok r
    (λ is n v k.
    pushed entries new e n v k is
    ∙ ap (λ (x : List ℕ). lists entries n v k || ((bytes_eq x n
    && (bytes_eq (encode_utf8_all e.value) v && bytes_eq (encode_utf8_all e.id) k)) || false))
    (is_name ∙ is_global_name)
    ∙ ap (λ x. lists entries n v k || ((x && (bytes_eq (encode_utf8_all e.value) v
    && bytes_eq (encode_utf8_all e.id) k)) || false)) (turned (codes "globalAssetId") n)
    ∙ ap₂ (λ (x y : List ℕ). lists entries n v k || ((is_global n
    && (bytes_eq (encode_utf8_all x) v && bytes_eq (encode_utf8_all y) k)) || false)) is_value is_id
    ∙ ap (λ a. a || ((is_global n && (bytes_eq (encode_utf8_all value) v && bytes_eq (encode_utf8_all id) k)) || false))
    (nothing_more (lists entries n v k) (bytes_eq (encode_utf8_all id) k))
    ∙ one_more (lists entries n v k) (bytes_eq (encode_utf8_all id) k) false (is_global n)
    (bytes_eq (encode_utf8_all value) v)
    ∙ ap (λ o. lists entries n v k || (bytes_eq (encode_utf8_all id) k && (is_global n && is_same_text v o)))
    (sym is_own)) pushes

-- it is taken away
pub global_forgotten : (old new : Index) (name value id : List ℕ) (own : Option (List ℕ)) (text : List ℕ)
    → name ≡ codes "globalAssetId" → value ≡ encode_utf8_all text → own ≡ Some text
    → ((n v : List ℕ) (k : Identifier) → bears new n v k
    ≡ (bears old n v k && not (bytes_eq name n && (bytes_eq value v && bytes_eq id k))))
    → (n v : List ℕ) (k : Identifier) → bears new n v k
    ≡ (bears old n v k && not (bytes_eq id k && (is_global n && is_same_text v own)))
global_forgotten old new name value id own text is_name is_value is_own less n v k =
    less n v k
    ∙ ap₂ (λ (x y : List ℕ). bears old n v k && not (bytes_eq x n && (bytes_eq y v && bytes_eq id k))) is_name is_value
    ∙ ap (λ x. bears old n v k && not (x && (bytes_eq (encode_utf8_all text) v && bytes_eq id k)))
    (turned (codes "globalAssetId") n)
    ∙ moved (bears old n v k) (is_global n) (bytes_eq (encode_utf8_all text) v) (bytes_eq id k)
    ∙ ap (λ o. bears old n v k && not (bytes_eq id k && (is_global n && is_same_text v o))) (sym is_own)
  where
    moved : (a x y b : Bool) → (a && not (x && (y && b))) ≡ (a && not (b && (x && y)))
    moved false x y b = refl
    moved true true true true = refl
    moved true true true false = refl
    moved true true false true = refl
    moved true true false false = refl
    moved true false y true = refl
    moved true false y false = refl

-- a list that was lent whole
pub filled_whole : {X : Type 0} (old new : List X) → length new ≡ length old
    → take (length old) (new ++ drop (length new) old) ≡ new
filled_whole old new long =
    ap (λ ys. take (length old) (new ++ ys)) (drop_all (length new) old (omega (arith, long)))
    ∙ ap (take (length old)) (append-nil new) ∙ take_all (length old) new (omega (arith, long))

-- an entry that isn't carried is taken out
pub taken_out : (index new : Index) (e : Entry) (name value id : List ℕ) (stays : Bool) → name ≡ encode_utf8_all e.name
    → value ≡ encode_utf8_all e.value → id ≡ encode_utf8_all e.id
    → stays ≡ false
    → ((n v : List ℕ) (k : Identifier) → bears new n v k
    ≡ (bears index n v k && not (bytes_eq name n && (bytes_eq value v && bytes_eq id k))))
    → (n v : List ℕ) (k : Identifier) → bears new n v k ≡ (bears index n v k && not (is_entry n v k e && not stays))
taken_out index new e name value id stays is_name is_value is_id goes less n v k =
    less n v k
    ∙ ap₂ (λ (x y : List ℕ). bears index n v k && not (bytes_eq x n && (bytes_eq y v && bytes_eq id k))) is_name
    is_value
    ∙ ap (λ (z : List ℕ). bears index n v k && not (bytes_eq (encode_utf8_all e.name) n
    && (bytes_eq (encode_utf8_all e.value) v && bytes_eq z k))) is_id
    ∙ by (bears index n v k) (is_entry n v k e)
    ∙ ap (λ s. bears index n v k && not (is_entry n v k e && not s)) (sym goes)
  where
    by : (b e : Bool) → (b && not e) ≡ (b && not (e && not false))
    by false e = refl
    by true true = refl
    by true false = refl
