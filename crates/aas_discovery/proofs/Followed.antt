-- An index follows the shells of a store.
use Rattle.std.proofs.Common.{◌≡◌, ◌⊎◌, inl, inr, ℕ, Bool, true, false, cond, not, ◌&&◌, ◌||◌, List, [], ◌∷◌}
use Rattle.std.proofs.Common.{Some, None, Result, Ok, Err, OnOk, OnErr, refl, sym, ap, ◌∙◌, subst, true≢false}
use Rattle.std.specs.Prelude.{bytes_eq}
use Rattle.std.specs.FinMap as fin
use Rattle.std.specs.FinMap.{get-empty}
use Rattle.std.specs.List.{list_any}
use Rattle.std.specs.Option.{option_map_or}
use Rattle.std.specs.Str.{encode_utf8_all}
use Rattle.std.proofs.lemmas.Slice.Eq.{bytes_eq-Decides}
use Rattle.aas_model.specs.declared.documents.Shell.{Shell}
use Rattle.aas_page.specs.Filters.{carries}
use Rattle.aas_store.specs.Documents.{Documents, Identifier, Map, empty, with_all, with_shell, without}
use Rattle.aas_store.specs.Merged.{with_each}
use Rattle.aas_store.proofs.Ordered.{order}
use Rattle.aas_store.proofs.PutOver.{all_put}
use Rattle.aas_store.proofs.Shelves.{removed_absent}
use Rattle.aas_model_names.specs.declared.collection.Collection.{Collection}
use Rattle.aas_model_names.specs.declared.collection.Collection.TheVariants.{Shells, Submodels, Concepts}
use Rattle.aas_model.specs.declared.documents.Environment.{Environment}
use Rattle.aas_discovery.specs.Entries.{IsGrown, lists, touches}
use Rattle.aas_discovery.specs.Index.{Index, IsIndexOf, bears, carried, stands}
use Rattle.aas_discovery.specs.declared.entry.Entry.{Entry}
use Rattle.std.proofs.Math.Bool.{and-true, or-false}
use Rattle.std.proofs.lemmas.Bool.{or_parts}
use Rattle.aas_discovery.proofs.Held.{get_put, get_without}

abbrev pub id_of : Shell → Identifier
id_of s = encode_utf8_all s.head.id

-- ---- what shells carry after a change

abbrev test : List ℕ → List ℕ → Shell → Bool
test name value s = carries s.asset name value

-- a shell that doesn't touch a name and a value changes nothing there
one_put : (known m : Map Shell) (s : Shell) (n v : List ℕ) (k : Identifier) → touches known n v k s ≡ false
    → carried m n v k ≡ carried known n v k → carried (fin.insert m (id_of s) s) n v k ≡ carried known n v k
one_put known m s n v k apart so_far = ap (λ o. option_map_or (test n v) o false) (get_put m (id_of s) s k)
    ∙ by (bytes_eq (id_of s) k) apart
  where
    both : (a b : Bool) → (a || b) ≡ false → b ≡ a
    both true b e = absurd (true≢false e)
    both false b e = e

    by : (b : Bool) → (b && (carried known n v k || test n v s)) ≡ false
        → option_map_or (test n v) (cond b (Some s) (fin.get m k)) false ≡ carried known n v k
    by true e = both (carried known n v k) (test n v s) e
    by false e = so_far

each_put : (known m : Map Shell) (ss : List Shell) (n v : List ℕ) (k : Identifier)
    → list_any (touches known n v k) ss ≡ false
    → carried m n v k ≡ carried known n v k → carried (with_each id_of m ss) n v k ≡ carried known n v k
each_put known m [] n v k apart so_far = so_far
each_put known m (s ∷ ss) n v k apart so_far =
    let both = or_parts (touches known n v k s) (list_any (touches known n v k) ss) apart in
    each_put known (fin.insert m (id_of s) s) ss n v k both.1 (one_put known m s n v k both.0 so_far)

pub same_elsewhere : (m : Map Shell) (s : Shell) (n v : List ℕ) (k : Identifier) → touches m n v k s ≡ false
    → carried (fin.insert m (id_of s) s) n v k ≡ carried m n v k
same_elsewhere m s n v k apart = one_put m m s n v k apart refl

pub all_same_elsewhere : (m : Map Shell) (ss : List Shell) (n v : List ℕ) (k : Identifier)
    → list_any (touches m n v k) ss ≡ false
    → carried (with_each id_of m ss) n v k ≡ carried m n v k
all_same_elsewhere m ss n v k apart = each_put m m ss n v k apart refl

-- ---- the index after a change

-- entries were listed, put in, and taken out again where they aren't carried
pub record IsSettled (old grown new : Index) (entries : List Entry) (before after : Map Shell) : Type 0 where
  pub follows : IsIndexOf old before
  pub more : IsGrown old entries grown
  pub left : (n v : List ℕ) (k : Identifier) → bears new n v k
      ≡ (bears grown n v k && not (lists entries n v k && not (carried after n v k)))

-- what the entries don't list stays
elsewhere : (old grown new : Index) (entries : List Entry) (before after : Map Shell)
    → IsSettled old grown new entries before after
    → (n v : List ℕ) (k : Identifier) → lists entries n v k ≡ false → bears new n v k ≡ carried before n v k
elsewhere old grown new entries before after is n v k apart =
    is.left n v k
    ∙ ap (λ b. bears grown n v k && not (b && not (carried after n v k))) apart
    ∙ and-true (bears grown n v k)
    ∙ same (bears old n v k) (bears grown n v k) (is.more.keeps n v k)
    (λ e. sym (or-false (bears old n v k)) ∙ (ap (λ b. bears old n v k || b) (sym apart) ∙ is.more.gets n v k e))
    ∙ is.follows n v k
  where
    same : (a b : Bool) → (a ≡ true → b ≡ true) → (b ≡ true → a ≡ true) → b ≡ a
    same true b to from = to refl
    same false true to from = sym (from refl)
    same false false to from = refl

-- at an entry that is in, it stands exactly where it is carried
pub here : (old grown new : Index) (entries : List Entry) (before after : Map Shell)
    → IsSettled old grown new entries before after
    → (n v : List ℕ) (k : Identifier) → lists entries n v k ≡ true
    → (carried after n v k ≡ true → bears grown n v k ≡ true)
    → bears new n v k ≡ carried after n v k
here old grown new entries before after is n v k listed has =
    is.left n v k ∙ ap (λ b. bears grown n v k && not (b && not (carried after n v k))) listed
    ∙ by (bears grown n v k) (carried after n v k) has
  where
    by : (a b : Bool) → (b ≡ true → a ≡ true) → (a && not (true && not b)) ≡ b
    by true true e = refl
    by true false e = refl
    by false true e = e refl
    by false false e = refl

-- the entries were all put in, or the shells are what they were
pub followed : (old grown new : Index) (entries : List Entry) (before after : Map Shell)
    → IsSettled old grown new entries before after
    → ((n v : List ℕ) (k : Identifier) → lists entries n v k ≡ true → carried after n v k ≡ true
    → bears grown n v k ≡ true)
    → ((n v : List ℕ) (k : Identifier) → lists entries n v k ≡ false → carried after n v k ≡ carried before n v k)
    → IsIndexOf new after
followed old grown new entries before after is has apart = λ n v k. by n v k (lists entries n v k) refl
  where
    by : (n v : List ℕ) (k : Identifier) (b : Bool) → lists entries n v k ≡ b → bears new n v k ≡ carried after n v k
    by n v k true listed = here old grown new entries before after is n v k listed (has n v k listed)
    by n v k false not_listed = elsewhere old grown new entries before after is n v k not_listed
        ∙ sym (apart n v k not_listed)

-- a shell is taken away with what it carries
pub followed_without : (old new : Index) (m : Map Shell) (id : Identifier) (s : Shell) → IsIndexOf old m
    → fin.get m id ≡ Some s
    → ((n v : List ℕ) (k : Identifier) → bears new n v k
    ≡ (bears old n v k && not (bytes_eq id k && carries s.asset n v)))
    → IsIndexOf new (fin.remove m id)
followed_without old new m id s follows is taken = λ n v k.
    taken n v k ∙ ap (λ b. b && not (bytes_eq id k && test n v s)) (follows n v k)
    ∙ by n v k (bytes_eq id k) refl
    ∙ sym (ap (λ o. option_map_or (test n v) o false) (get_without m id k))
  where
    never : (b : Bool) → (b && not b) ≡ false
    never true = refl
    never false = refl

    by : (n v : List ℕ) (k : Identifier) (b : Bool) → bytes_eq id k ≡ b
        → (carried m n v k && not (b && test n v s)) ≡ option_map_or (test n v) (cond b None (fin.get m k)) false
    by n v k true same =
        let own : carried m n v k ≡ test n v s =
        ap (λ k. carried m n v k) (sym ((bytes_eq-Decides id k).0 same))
        ∙ ap (λ o. option_map_or (test n v) o false) is in
        ap (λ b. b && not (test n v s)) own ∙ never (test n v s)
    by n v k false other = and-true (carried m n v k)

-- ---- calls

-- an index without entries is that of no shells
pub none_followed : (index : Index) (d : Documents) → index ≡ fin.empty → d ≡ empty → IsIndexOf index d.shells
none_followed index d is none = λ n v k.
    ap (λ (m : Index). bears m n v k) is ∙ ap (λ o. option_map_or (λ values. stands values v k) o false)
    (get-empty order n)
    ∙ sym (ap (λ (d : Documents). carried d.shells n v k) none
    ∙ ap (λ o. option_map_or (test n v) o false) (get-empty order k))

shells_of_all : (d : Documents) (e : Environment) → (with_all d e).shells ≡ with_each id_of d.shells e.shells
shells_of_all d e =
    ap (λ (d : Documents). d.shells)
    (sym (all_put d e _ _ _ refl refl refl))

-- ---- the calls that change shells

-- entries are listed, put in and settled
pub settled : (old grown mid new : Index) (start listed first second : List Entry) (before after joined : Documents)
    (touch : List ℕ → List ℕ → Identifier → Bool)
    → IsIndexOf old before.shells → mid ≡ grown → joined ≡ after → start ≡ [] → first ≡ listed → second ≡ listed
    → IsGrown old first grown
    → ((n v : List ℕ) (k : Identifier) → lists listed n v k ≡ (lists start n v k || touch n v k))
    → ((n v : List ℕ) (k : Identifier) → bears new n v k
    ≡ (bears mid n v k && not (lists second n v k && not (carried joined.shells n v k))))
    → ((n v : List ℕ) (k : Identifier) → lists first n v k ≡ true → carried after.shells n v k ≡ true
    → bears grown n v k ≡ true)
    → ((n v : List ℕ) (k : Identifier) → touch n v k ≡ false → carried after.shells n v k ≡ carried before.shells n v k)
    → IsIndexOf new joined.shells
settled old grown mid new start listed first second before after joined touch follows mid_is joined_is start_is first_is
    second_is more lists_them left has apart =
    let is : IsSettled old grown new listed before.shells after.shells = record {
      follows = follows;
      more = subst (λ (es : List Entry). IsGrown old es grown) first_is more;
      left = λ n v k. left n v k
          ∙ ap (λ (m : Index). bears m n v k && not (lists second n v k && not (carried joined.shells n v k))) mid_is
          ∙ ap (λ (es : List Entry). bears grown n v k && not (lists es n v k && not (carried joined.shells n v k)))
          second_is
          ∙ ap (λ (d : Documents). bears grown n v k && not (lists listed n v k && not (carried d.shells n v k)))
          joined_is;
    } in
    subst (λ (d : Documents). IsIndexOf new d.shells) (sym joined_is)
    (followed old grown new listed before.shells after.shells is
    (λ n v k l there. has n v k (ap (λ (es : List Entry). lists es n v k) first_is ∙ l) there)
    (λ n v k none. apart n v k (sym (lists_them n v k ∙ ap (λ (es : List Entry). lists es n v k || touch n v k)
    start_is) ∙ none)))

-- what isn't touched stays
pub put_apart : {A B : Type 0} (r : Result A B) (before after : Documents) (s : Shell)
    → OnOk r (after ≡ with_shell before s) → OnErr r (after ≡ before)
    → (n v : List ℕ) (k : Identifier) → touches before.shells n v k s ≡ false
    → carried after.shells n v k ≡ carried before.shells n v k
put_apart (Ok a) before after s ok err n v k apart = ap (λ (d : Documents). carried d.shells n v k) ok
    ∙ same_elsewhere before.shells s n v k apart
put_apart (Err b) before after s ok err n v k apart = ap (λ (d : Documents). carried d.shells n v k) err

pub all_apart : {A B : Type 0} (r : Result A B) (before after : Documents) (e : Environment) (ss : List Shell)
    → ss ≡ e.shells → OnOk r (after ≡ with_all before e) → OnErr r (after ≡ before)
    → (n v : List ℕ) (k : Identifier) → list_any (touches before.shells n v k) ss ≡ false
    → carried after.shells n v k ≡ carried before.shells n v k
all_apart (Ok a) before after e ss same ok err n v k apart =
    ap (λ (m : Map Shell). carried m n v k) (ap (λ (d : Documents). d.shells) ok ∙ shells_of_all before e)
    ∙ all_same_elsewhere before.shells e.shells n v k (ap (list_any (touches before.shells n v k)) (sym same) ∙ apart)
all_apart (Err b) before after e ss same ok err n v k apart = ap (λ (d : Documents). carried d.shells n v k) err

-- what is carried is in, where nothing was put in
pub still_in : (old grown : Index) (first : List Entry) (shells : Map Shell) → IsIndexOf old shells
    → IsGrown old first grown
    → (n v : List ℕ) (k : Identifier) → lists first n v k ≡ true → carried shells n v k ≡ true
    → bears grown n v k ≡ true
still_in old grown first shells follows more n v k l there = more.keeps n v k (follows n v k ∙ there)

-- the shell of an identifier is deleted
pub deleted_shell : (old mid index : Index) (before joined after : Documents) (c : Collection) (id : Identifier)
    (s : Shell)
    → IsIndexOf old before.shells → mid ≡ index → joined ≡ before → c ≡ Shells → fin.get before.shells id ≡ Some s
    → ((n v : List ℕ) (k : Identifier) → bears index n v k
    ≡ (bears old n v k && not (bytes_eq id k && carries s.asset n v)))
    → after ≡ without c id joined → IsIndexOf mid after.shells
deleted_shell old mid index before joined after c id s follows mid_is joined_is is_shells there taken is = λ n v k.
    ap (λ (m : Index). bears m n v k) mid_is ∙ followed_without old index before.shells id s follows there taken n v k
    ∙ ap (λ (d : Documents). carried d.shells n v k) (sym
    (is ∙ ap (λ c. without c id joined) is_shells ∙ ap (without Shells id) joined_is))

-- there was none
pub deleted_none : (old mid : Index) (before joined after : Documents) (c : Collection) (id : Identifier)
    → IsIndexOf old before.shells → mid ≡ old → joined ≡ before → c ≡ Shells → fin.get before.shells id ≡ None
    → after ≡ without c id joined → IsIndexOf mid after.shells
deleted_none old mid before joined after c id follows mid_is joined_is is_shells none is = λ n v k.
    ap (λ (m : Index). bears m n v k) mid_is ∙ follows n v k
    ∙ ap (λ (m : Map Shell). carried m n v k) (removed_absent before.shells id none)
    ∙ ap (λ (d : Documents). carried d.shells n v k) (sym
    (is ∙ ap (λ c. without c id joined) is_shells ∙ ap (without Shells id) joined_is))

-- a document of another collection is deleted
pub deleted_other : (old mid : Index) (before joined after : Documents) (c : Collection) (id : Identifier)
    → IsIndexOf old before.shells → mid ≡ old → joined ≡ before
    → (c ≡ Submodels) ⊎ (c ≡ Concepts) → after ≡ without c id joined → IsIndexOf mid after.shells
deleted_other old mid before joined after c id follows mid_is joined_is (inl other) is = λ n v k.
    ap (λ (m : Index). bears m n v k) mid_is ∙ follows n v k
    ∙ ap (λ (d : Documents). carried d.shells n v k) (sym
    (is ∙ ap (λ c. without c id joined) other ∙ ap (without Submodels id) joined_is))
deleted_other old mid before joined after c id follows mid_is joined_is (inr other) is = λ n v k.
    ap (λ (m : Index). bears m n v k) mid_is ∙ follows n v k
    ∙ ap (λ (d : Documents). carried d.shells n v k) (sym
    (is ∙ ap (λ c. without c id joined) other ∙ ap (without Concepts id) joined_is))
