-- Parts laid over parts: what the form of the parts is afterwards.
use Rattle.std.proofs.Common.{◌≡◌, ℕ, Bool, true, false, ◌&&◌, List, [], ◌∷◌, map, Option, Some, None, is_some}
use Rattle.std.proofs.Common.{option_map, refl, sym, ap, ap₂, ◌∙◌, subst, true≢false}
use Rattle.std.specs.Prelude.{bytes_eq, if◌then◌else◌}
use Rattle.std.specs.Str.{encode_utf8_all}
use Rattle.std.specs.List.{cons_option}
use Rattle.std.proofs.lemmas.Option.{none-some}
use Rattle.serde_json.specs.Data.{Data, object, put, Items, no_items, item, Members, no_members, member}
use Rattle.serde_json.specs.Find.{get_member}
use Rattle.serde_json.proofs.Views.{get_member-put, get_member-put_other}
use Rattle.aas_lemmas.proofs.Truth.{and_left, and_right}
use Rattle.aas_json_table.specs.Spelled.{onto}
use Rattle.aas_value.specs.Children.{Child, put_child, put_children, named, forms_of, annotation_value}
use Rattle.aas_value.specs.Parts.{Part, name_is, is_called, by_name, children, later, over, over_one, laid, laid_items}
use Rattle.aas_value.specs.Parts.{laid_entries, laid_item, entry, put_entry, members_fit, item_fits, items_fit}
use Rattle.aas_value.specs.Parts.{entries_fit}
use Rattle.aas_value_update.specs.Shape.{under_name, next_item, in_turn, by_entries}
use Rattle.aas_value_update.specs.Took.{TookOne, Took, AreNamed}
use Rattle.aas_value_update.proofs.Members.{Rises, put_rises, same_name, name_itself, get_here, get_past, known}

-- ---- the members, items and entries of a value form

abbrev pub form_members : List Part → Members
form_members xs = put_children (children xs) no_members

abbrev pub form_items : List Part → Items
form_items xs = onto (forms_of (children xs)) no_items

-- with a first one before those of the parts
abbrev pub items_with : Option Data → List Part → Items
items_with o xs = onto (cons_option o (forms_of (children xs))) no_items

abbrev pub form_entries : List Part → Items
form_entries xs = onto (forms_of (map annotation_value (children xs))) no_items

-- a first part's item laid, where it has one, and the others
abbrev pub laid_first : Bool → (Data → Data → Data) → (Items → Items → Items) → Items → Items → Items
laid_first b f more ws vs = if b then laid_item f more ws vs else more ws vs

-- and what fits it
abbrev pub fits_first : Bool → (Data → Bool) → (Items → Bool) → Items → Bool
fits_first b test more ds = if b then item_fits test more ds else more ds

-- ---- under a name

-- what may be sent under a name, and how it is laid
abbrev pub fits_named : List ℕ → List Part → Data → Bool
fits_named n xs = by_name n (λ x. x.fits) xs (λ d. false)

abbrev pub lay_named : List ℕ → List Part → Data → Data → Data
lay_named n xs = by_name n (λ x. x.lay) xs later

abbrev pub form : Part → Option Data
form x = x.child.form

put_called : (n m : List ℕ) (d : Data) (ms : Members) (b : Bool)
    → bytes_eq n m ≡ b → get_member n (put m d ms) ≡ (if b then Some d else get_member n ms)
put_called n m d ms true e = ap (λ x. get_member n (put x d ms)) (sym (same_name n m e)) ∙ get_member-put n d ms
put_called n m d ms false e =
    get_member-put_other n m d ms (λ same. true≢false (sym (name_itself n) ∙ ap (bytes_eq n) same ∙ e))

get_put_child : (n : List ℕ) (o : Option (List ℕ)) (f : Option Data) (ms : Members)
    → get_member n (put_child o f ms) ≡ (if name_is n o && is_some f then f else get_member n ms)
get_put_child n None f ms = refl
get_put_child n (Some m) None ms = no_form (name_is n (Some m))
  where
    no_form : (b : Bool) → get_member n ms ≡ (if b && false then None else get_member n ms)
    no_form true = refl
    no_form false = refl
get_put_child n (Some m) (Some d) ms =
    put_called n (encode_utf8_all m) d ms (bytes_eq n (encode_utf8_all m)) refl
    ∙ with_form (bytes_eq n (encode_utf8_all m))
  where
    with_form : (b : Bool) → (if b then Some d else get_member n ms) ≡ (if b && true then Some d else get_member n ms)
    with_form true = refl
    with_form false = refl

-- what stands under a name is the form of the last part of this name
pub get_children : (n : List ℕ) (xs : List Part) (ms : Members)
    → get_member n (put_children (children xs) ms) ≡ by_name n form xs (get_member n ms)
get_children n [] ms = refl
get_children n (x ∷ xs) ms =
    get_children n xs (put_child x.child.name x.child.form ms)
    ∙ ap (by_name n form xs) (get_put_child n x.child.name x.child.form ms)

pub get_laid : (n : List ℕ) (xs : List Part) (ws vs : Members)
    → get_member n (laid xs ws vs) ≡ over (by_name n (λ x. x.lay) xs later) (get_member n ws) (get_member n vs)
get_laid n xs ws no_members = none_sent (get_member n ws)
  where
    none_sent : (o : Option Data) → o ≡ over (by_name n (λ x. x.lay) xs later) o None
    none_sent None = refl
    none_sent (Some w) = refl
get_laid n xs ws (member m v vs) = by_test (bytes_eq n m) refl (get_laid n xs ws vs)
  where
    one : (f : Data → Data → Data) (o : Option Data) → Some (over_one f o v) ≡ over f o (Some v)
    one f None = refl
    one f (Some w) = refl

    by_test : (b : Bool) → bytes_eq n m ≡ b
        → get_member n (laid xs ws vs) ≡ over (by_name n (λ x. x.lay) xs later) (get_member n ws) (get_member n vs)
        → get_member n (put m (over_one (by_name m (λ x. x.lay) xs later) (get_member m ws) v) (laid xs ws vs))
        ≡ over (by_name n (λ x. x.lay) xs later) (get_member n ws) (get_member n (member m v vs))
    by_test true e rest =
        put_called n m _ (laid xs ws vs) true e
        ∙ ap (λ k. Some (over_one (by_name k (λ x. x.lay) xs later) (get_member k ws) v)) (sym (same_name n m e))
        ∙ one (by_name n (λ x. x.lay) xs later) (get_member n ws)
        ∙ sym (ap (over (by_name n (λ x. x.lay) xs later) (get_member n ws)) (get_here n m v vs e))
    by_test false e rest =
        put_called n m _ (laid xs ws vs) false e ∙ rest
        ∙ sym (ap (over (by_name n (λ x. x.lay) xs later) (get_member n ws)) (get_past n m v vs e))

-- what fits and stands under a name fits the part of the name
pub sent_fits : (n : List ℕ) (xs : List Part) (ms : Members) (d : Data)
    → members_fit xs ms ≡ true → get_member n ms ≡ Some d → by_name n (λ x. x.fits) xs (λ e. false) d ≡ true
sent_fits n xs no_members d f e = absurd (cc)
sent_fits n xs (member m v vs) d f e = by_test (bytes_eq n m) refl (sent_fits n xs vs d (and_right _ _ f))
  where
    by_test : (b : Bool)
        → bytes_eq n m ≡ b → (get_member n vs ≡ Some d → by_name n (λ x. x.fits) xs (λ e. false) d ≡ true)
        → by_name n (λ x. x.fits) xs (λ e. false) d ≡ true
    by_test true is rest =
        let same : Some v ≡ Some d = sym (get_here n m v vs is) ∙ e in
        let values : v ≡ d = cc in
        ap₂ (λ k z. by_name k (λ x. x.fits) xs (λ e. false) z) (same_name n m is) (sym values) ∙ and_left _ _ f
    by_test false is rest = rest (sym (get_past n m v vs is) ∙ e)

-- ---- objects

-- either the form is what was sent laid over the old one, or nothing may be sent
data Settled (t : Data → Bool) (f : Data → Data → Data) (o new : Option Data) (d : Data) : Type 0 where
  is_laid : new ≡ over f o (Some d) → Settled t f o new d
  is_refused : t d ≡ false → Settled t f o new d

-- one part more, of which a name, a form and what is sent are known
settle_called : (n : List ℕ) (d w : Data) (x : Part) (t : Data → Bool) (f : Data → Data → Data) (o new : Option Data)
    → Settled t f o new d
    → (b : Bool) (q : Option Data) → (b ≡ true → q ≡ Some d)
    → Settled (if b && true then x.fits else t) (if b && true then x.lay else f) (if b && true then Some w else o)
    (if b && is_some (over x.lay (Some w) q) then over x.lay (Some w) q else new) d
settle_called n d w x t f o new s false q h = s
settle_called n d w x t f o new s true None h = absurd (none-some d (h refl))
settle_called n d w x t f o new s true (Some v) h = is_laid (ap (λ q. over x.lay (Some w) q) (h refl))

settle_one : (n : List ℕ) (ms : Members) (d : Data) → get_member n ms ≡ Some d
    → (x : Part) (t : Data → Bool) (f : Data → Data → Data) (o new : Option Data) → Settled t f o new d
    → (a : Option (List ℕ)) (g : Option Data) (c : Child)
    → c ≡ record { name = a; form = over x.lay g (under_name (object ms) (record { name = a; form = g })) }
    → Settled (if is_called n (record { name = a; form = g }) then x.fits else t)
    (if is_called n (record { name = a; form = g }) then x.lay else f)
    (if is_called n (record { name = a; form = g }) then g else o) (if is_called n c then c.form else new) d
settle_one n ms d e x t f o new s a g c is = subst (λ (z : Child).
    Settled (if is_called n (record { name = a; form = g }) then x.fits else t)
    (if is_called n (record { name = a; form = g }) then x.lay else f)
    (if is_called n (record { name = a; form = g }) then g else o) (if is_called n z then z.form else new) d) (sym is)
    (by_child a g)
  where
    no_form : (b : Bool)
        → Settled (if b && false then x.fits else t) (if b && false then x.lay else f)
        (if b && false then None else o) (if b && false then None else new) d
    no_form true = s
    no_form false = s

    by_child : (a : Option (List ℕ)) (g : Option Data) → let c : Child =
        record { name = a; form = over x.lay g (under_name (object ms) (record { name = a; form = g })) } in
        Settled (if is_called n (record { name = a; form = g }) then x.fits else t)
        (if is_called n (record { name = a; form = g }) then x.lay else f)
        (if is_called n (record { name = a; form = g }) then g else o) (if is_called n c then c.form else new) d
    by_child None g = s
    by_child (Some m) None = no_form (bytes_eq n (encode_utf8_all m))
    by_child (Some m) (Some w) =
        settle_called n d w x t f o new s (bytes_eq n (encode_utf8_all m)) (get_member (encode_utf8_all m) ms) (λ b.
        ap (λ k. get_member k ms) (sym (same_name n (encode_utf8_all m) b)) ∙ e)

settle : (n : List ℕ) (ms : Members) (xs ys : List Part) (d : Data)
    → get_member n ms ≡ Some d → Took xs (map (under_name (object ms)) (children xs)) ys
    → (t : Data → Bool) (f : Data → Data → Data) (o new : Option Data) → Settled t f o new d
    → Settled (by_name n (λ x. x.fits) xs t) (by_name n (λ x. x.lay) xs f)
    (by_name n form xs o) (by_name n form ys new) d
settle n ms [] [] d e took t f o new s = s
settle n ms [] (y ∷ ys) d e took t f o new s = absurd took
settle n ms (x ∷ xs) [] d e took t f o new s = absurd took
settle n ms (x ∷ xs) (y ∷ ys) d e took t f o new s =
    settle n ms xs ys d e took.1 _ _ _ _ (settle_one n ms d e x t f o new s x.child.name x.child.form y.child took.0)

-- what isn't sent stays
unsent_one : (n : List ℕ) (ms : Members)
    → get_member n ms ≡ None → (x : Part) (o : Option Data) (a : Option (List ℕ)) (g : Option Data) (c : Child)
    → c ≡ record { name = a; form = over x.lay g (under_name (object ms) (record { name = a; form = g })) }
    → (if is_called n c then c.form else o) ≡ (if is_called n (record { name = a; form = g }) then g else o)
unsent_one n ms e x o a g c is = ap (λ (z : Child). if is_called n z then z.form else o) is ∙ by_child a g
  where
    no_form : (b : Bool) → (if b && false then None else o) ≡ (if b && false then None else o)
    no_form b = refl

    called : (w : Data) (b : Bool) (q : Option Data) → (b ≡ true → q ≡ None)
        → (if b && is_some (over x.lay (Some w) q) then over x.lay (Some w) q else o)
        ≡ (if b && true then Some w else o)
    called w false q h = refl
    called w true None h = refl
    called w true (Some v) h = absurd (some_none v (h refl))
      where
        some_none : (e : Data) → ◌≡◌ {A = Option Data} (Some e) None → ⊥
        some_none e p = cc

    by_child : (a : Option (List ℕ)) (g : Option Data) → let c : Child =
        record { name = a; form = over x.lay g (under_name (object ms) (record { name = a; form = g })) } in
        (if is_called n c then c.form else o) ≡ (if is_called n (record { name = a; form = g }) then g else o)
    by_child None g = refl
    by_child (Some m) None = no_form (bytes_eq n (encode_utf8_all m))
    by_child (Some m) (Some w) = called w (bytes_eq n (encode_utf8_all m)) (get_member (encode_utf8_all m) ms) (λ b.
        ap (λ k. get_member k ms) (sym (same_name n (encode_utf8_all m) b)) ∙ e)

unsent : (n : List ℕ) (ms : Members) (xs ys : List Part)
    → get_member n ms ≡ None → Took xs (map (under_name (object ms)) (children xs)) ys → (o new : Option Data)
    → new ≡ o → by_name n form ys new ≡ by_name n form xs o
unsent n ms [] [] e took o new s = s
unsent n ms [] (y ∷ ys) e took o new s = absurd took
unsent n ms (x ∷ xs) [] e took o new s = absurd took
unsent n ms (x ∷ xs) (y ∷ ys) e took o new s =
    unsent n ms xs ys e took.1 _ _
    (ap (λ q. if is_called n y.child then y.child.form else q) s
    ∙ unsent_one n ms e x o x.child.name x.child.form y.child took.0)

pub children_rise : (xs : List Part) (ms : Members) → Rises ms → Rises (put_children (children xs) ms)
children_rise [] ms h = h
children_rise (x ∷ xs) ms h =
    children_rise xs (put_child x.child.name x.child.form ms) (child_rises x.child.name x.child.form)
  where
    child_rises : (o : Option (List ℕ)) (f : Option Data) → Rises (put_child o f ms)
    child_rises None f = h
    child_rises (Some m) None = h
    child_rises (Some m) (Some d) = put_rises (encode_utf8_all m) d ms h

pub laid_rises : (xs : List Part) (ws vs : Members) → Rises ws → Rises (laid xs ws vs)
laid_rises xs ws no_members h = h
laid_rises xs ws (member n v vs) h = put_rises n _ (laid xs ws vs) (laid_rises xs ws vs h)

settled_is : (t : Data → Bool) (f : Data → Data → Data) (o new : Option Data) (d : Data)
    → t d ≡ true → Settled t f o new d → new ≡ over f o (Some d)
settled_is t f o new d passes (is_laid h) = h
settled_is t f o new d passes (is_refused h) = absurd (true≢false (sym passes ∙ h))

pub over_none : (f : Data → Data → Data) (o : Option Data) → o ≡ over f o None
over_none f None = refl
over_none f (Some w) = refl

-- Parts that take what is sent under their names make the object with this laid over the old one.
pub named_laid : (xs ys : List Part) (ms : Members)
    → members_fit xs ms ≡ true → Took xs (map (under_name (object ms)) (children xs)) ys
    → named (children ys) ≡ object (laid xs (put_children (children xs) no_members) ms)
named_laid xs ys ms fits took = ap object (known (put_children (children ys) no_members)
    (laid xs (put_children (children xs) no_members) ms) (children_rise ys no_members tt)
    (laid_rises xs (put_children (children xs) no_members) ms (children_rise xs no_members tt)) (λ n.
    get_children n ys no_members ∙ by_sent n (get_member n ms) refl
    ∙ ap (λ w. over (by_name n (λ x. x.lay) xs later) w (get_member n ms)) (sym (get_children n xs no_members))
    ∙ sym (get_laid n xs (put_children (children xs) no_members) ms)))
  where
    by_sent : (n : List ℕ) (s : Option Data) → get_member n ms ≡ s
        → by_name n form ys None ≡ over (by_name n (λ x. x.lay) xs later) (by_name n form xs None) (get_member n ms)
    by_sent n None e =
        unsent n ms xs ys e took None None refl ∙ over_none (by_name n (λ x. x.lay) xs later) (by_name n form xs None)
        ∙ ap (over (by_name n (λ x. x.lay) xs later) (by_name n form xs None)) (sym e)
    by_sent n (Some d) e =
        settled_is (by_name n (λ x. x.fits) xs (λ e. false)) (by_name n (λ x. x.lay) xs later)
        (by_name n form xs None) (by_name n form ys None) d (sent_fits n xs ms d fits e)
        (settle n ms xs ys d e took (λ e. false) later None None (is_refused refl))
        ∙ ap (over (by_name n (λ x. x.lay) xs later) (by_name n form xs None)) (sym e)

-- ---- lists

-- the form of a part that took something, before others
took_before : (x y : Part) (s : Option Data) (f : Option Data) → TookOne x s y → x.child.form ≡ f → (ds : List Data)
    → onto (cons_option y.child.form ds) no_items ≡ onto (cons_option (over x.lay f s) ds) no_items
took_before x y s f took e ds =
    ap (λ (c : Child). onto (cons_option c.form ds) no_items) took
    ∙ ap (λ g. onto (cons_option (over x.lay g s) ds) no_items) e

-- Parts that take the items that are sent in turn make the array with them laid over the old ones.
pub items_laid : (xs ys : List Part) (ds : Items) → items_fit xs ds ≡ true → Took xs (in_turn (children xs) ds) ys
    → onto (forms_of (children ys)) no_items ≡ laid_items xs (onto (forms_of (children xs)) no_items) ds
items_laid [] [] no_items fits took = refl
items_laid [] [] (item d ds) fits took = absurd (true≢false (sym fits))
items_laid [] (y ∷ ys) ds fits took = absurd took
items_laid (x ∷ xs) ys ds fits took =
    by_form x.child.form refl ys ds
    (ap (λ f. if is_some f then item_fits x.fits (items_fit xs) ds else items_fit xs ds) refl ∙ fits) took
    (λ zs es. items_laid xs zs es)
  where
    by_form : (f : Option Data) → x.child.form ≡ f → (ys : List Part) (ds : Items)
        → (if is_some f then item_fits x.fits (items_fit xs) ds else items_fit xs ds) ≡ true
        → Took (x ∷ xs) (if is_some f then next_item (in_turn (children xs)) ds else None ∷ in_turn (children xs) ds) ys
        → ((zs : List Part) (es : Items) → items_fit xs es ≡ true → Took xs (in_turn (children xs) es) zs
        → onto (forms_of (children zs)) no_items ≡ laid_items xs (onto (forms_of (children xs)) no_items) es)
        → onto (forms_of (children ys)) no_items
        ≡ (if is_some f then laid_item x.lay (laid_items xs) (onto (cons_option f (forms_of (children xs))) no_items) ds
        else laid_items xs (onto (cons_option f (forms_of (children xs))) no_items) ds)
    by_form None e [] ds fits took more = absurd took
    by_form None e (y ∷ ys) ds fits took more =
        took_before x y None None took.0 e (forms_of (children ys)) ∙ more ys ds fits took.1
    by_form (Some w) e ys no_items fits took more = absurd (true≢false (sym fits))
    by_form (Some w) e [] (item d ds) fits took more = absurd took
    by_form (Some w) e (y ∷ ys) (item d ds) fits took more =
        took_before x y (Some d) (Some w) took.0 e (forms_of (children ys))
        ∙ ap (item (x.lay w d)) (more ys ds (and_right _ _ fits) took.1)

-- ---- entries

pub called_alike : (n : List ℕ) (c d : Child)
    → c.name ≡ d.name → is_some c.form ≡ is_some d.form → is_called n c ≡ is_called n d
called_alike n c d name there = ap₂ (λ m b. name_is n m && b) name there

pub entry_alike : (c d : Child)
    → c.name ≡ d.name → is_some c.form ≡ is_some d.form → (ds : Items) → entry c ds ≡ entry d ds
entry_alike c d name there (item (object (member n v no_members)) ds) =
    ap (λ (b : Bool). if b then (Some v, ds) else (None, item (object (member n v no_members)) ds))
    (called_alike n c d name there)
entry_alike c d name there ds = refl

pub put_entry_named : (c d : Child) → c.name ≡ d.name → (o : Option Data) (ds : Items)
    → put_entry c o ds ≡ put_entry d o ds
put_entry_named c d name None ds = refl
put_entry_named c d name (Some v) ds =
    ap (λ (m : Option (List ℕ)). item (named (record { name = m; form = Some v } ∷ [])) ds) name

pub entry_before : (c : Child) (ds : List Data)
    → onto (cons_option (annotation_value c).form ds) no_items ≡ put_entry c c.form (onto ds no_items)
entry_before c ds = by_form c.form refl
  where
    by_form : (f : Option Data) → c.form ≡ f
        → onto (cons_option (option_map (λ (d : Data). named (c ∷ [])) f) ds) no_items
        ≡ put_entry c f (onto ds no_items)
    by_form None e = refl
    by_form (Some d) e =
        ap (λ (g : Option Data). item (named (record { name = c.name; form = g } ∷ [])) (onto ds no_items)) e

-- for a part without a form nothing stands
no_entry : (n : List ℕ) (d : Data) (ds : Items) (b : Bool)
    → ◌≡◌ {A = Option Data × Items}
    (if b && false then (Some d, ds) else (None, item (object (member n d no_members)) ds))
    (None, item (object (member n d no_members)) ds)
no_entry n d ds true = refl
no_entry n d ds false = refl

entry_none : (o : Option (List ℕ)) (ds : Items) → entry (record { name = o; form = None }) ds ≡ (None, ds)
entry_none o (item (object (member n d no_members)) ds) = no_entry n d ds (name_is n o)
entry_none o ds = refl

-- a part's own entry stands for it
entry_own : (n : List ℕ) (o : Option (List ℕ)) (f : Option Data) → o ≡ Some n → (rest : Items)
    → entry (record { name = o; form = f }) (put_entry (record { name = o; form = f }) f rest) ≡ (f, rest)
entry_own n None f e rest = cc
entry_own n (Some m) None e rest = entry_none (Some m) rest
entry_own n (Some m) (Some d) e rest = ap chosen (name_itself (encode_utf8_all m))
  where
    chosen : Bool → Option Data × Items
    chosen b =
        if b && true then (Some d, rest) else (None, item (object (member (encode_utf8_all m) d no_members)) rest)

-- and stands at the front of its value form
pub own_entry : (n : List ℕ) (x : Part) (xs : List Part) → x.child.name ≡ Some n
    → entry x.child (form_entries (x ∷ xs)) ≡ (form x, form_entries xs)
own_entry n x xs name =
    ap (entry x.child) (entry_before x.child (forms_of (map annotation_value (children xs))))
    ∙ entry_own n x.child.name (form x) name (form_entries xs)

renamed : (c : Child) (f : Option Data) (rest : Items)
    → put_entry (record { name = c.name; form = f }) f rest ≡ put_entry c f rest
renamed c None rest = refl
renamed c (Some d) rest = refl

-- Parts that take the entries that are sent make the array with them laid over the old ones.
pub entries_laid : (xs ys : List Part) (ds : Items)
    → AreNamed xs → entries_fit xs ds ≡ true → Took xs (by_entries (children xs) ds) ys
    → onto (forms_of (map annotation_value (children ys))) no_items
    ≡ laid_entries xs (onto (forms_of (map annotation_value (children xs))) no_items) ds
entries_laid [] [] ds names fits took = refl
entries_laid [] (y ∷ ys) ds names fits took = absurd took
entries_laid (x ∷ xs) [] ds names fits took = absurd took
entries_laid (x ∷ xs) (y ∷ ys) ds names fits took =
    let e = entry x.child ds in
    let new = onto (forms_of (map annotation_value (children ys))) no_items in
    let mine = own_entry names.0.0 x xs names.0.1 in
    entry_before y.child (forms_of (map annotation_value (children ys)))
    ∙ ap (λ (c : Child). put_entry c c.form new) took.0
    ∙ renamed x.child (over x.lay x.child.form e.0) new
    ∙ ap (put_entry x.child (over x.lay x.child.form e.0)) (entries_laid xs ys e.1 names.1 (and_right _ _ fits) took.1)
    ∙ sym (ap (λ (w : Option Data × Items). put_entry x.child (over x.lay w.0 e.0) (laid_entries xs w.1 e.1)) mine)
