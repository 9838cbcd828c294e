-- The laws of spelling of the trees of a sort, from five facts about them.
use Rattle.std.proofs.Common.{◌≡◌, ◌⊎◌, ℕ, List, Option, Some, None, IsSome, Result, Ok, Err, IsUtf8, inl, inr, refl, sym, ap, subst}
use Rattle.std.proofs.lemmas.Str.{is_utf8-from_IsUtf8}
use Rattle.serde_json.specs.Data.{Data}
use Rattle.serde_json.specs.Read.{read}
use Rattle.serde_json.specs.Written.{compact_text}
use Rattle.aas_json_table.specs.Table.{one}
use Rattle.aas_json_table.specs.Rows.{Pointer}
use Rattle.aas_json_table.specs.Misfit.{misfit}
use Rattle.aas_json_table.specs.TooDeep.{Levels, too_deep}
use Rattle.aas_json_table.specs.Canonical.{canonical}
use Rattle.aas_model.specs.declared.read_fault.ReadFault.{ReadFault}
use Rattle.aas_model.specs.declared.read_fault.ReadFault.TheVariants.{NotJson, NotMapping, TooDeep, NoMemory}
use Rattle.aas_json_spelling.specs.Values.{IsText, IsOrdered, IsValue}
use Rattle.aas_json_spelling.specs.Mapped.{IsMapped}
use Rattle.aas_json_spelling.specs.Spells.{Trees, Spells, SpellsOne, ExactlyOne, IsWithinLimits, ReadsBack, canonical_text}
use Rattle.aas_json_spelling.specs.Good.{Good}
use Rattle.aas_json_spelling.specs.Reading.{reading}
use Rattle.aas_json_spelling.specs.Reads.{IsPointer, Reads, ReadsEach, ReadsIf, ReadsEachIf, ReadsBytes, ReadsEachOfBytes}
use Rattle.aas_json_spelling.proofs.Fits.{fits_one}
use Rattle.aas_json_spelling.proofs.Canonicals.{canonical_good}
use Rattle.aas_json_spelling.proofs.Exists.{IsSpelled, there}
use Rattle.aas_json_spelling.proofs.Nesting.{fits_whole, nests}
use Rattle.aas_json_spelling.proofs.Back.{read_back}

-- What is to be shown of the trees of a sort. The shape of a tree is what its spelling doesn't show.
pub record Laws {A : Type 0} (trees : Trees A) (Shape : A → Type 0) : Type 0 where
  -- a whole tree has its shape
  pub shaped : (l : Levels) (t : A) → trees.IsWhole l t → Shape t
  -- a whole tree spells what is good
  pub good : (l : Levels) (t : A) → trees.IsWhole l t → Good l (one trees.sort) (Some (trees.spell t))
  -- what spells what is good is whole
  pub back : (l : Levels) (t : A) → Shape t → Good l (one trees.sort) (Some (trees.spell t)) → trees.IsWhole l t
  -- trees that spell the same are the same
  pub same : (t u : A) → Shape t → Shape u → trees.spell t ≡ trees.spell u → t ≡ u
  -- what a value says is spelled by a tree
  pub found : (j : Data) → IsText j → IsSpelled (λ (t : (t : A) × Shape t). trees.spell t.0) (canonical (one trees.sort) j)

module _ {A : Type 0} (trees : Trees A) (Shape : A → Type 0) (laws : Laws trees Shape) where
  -- The spelling of a whole tree spells it.
  pub spells_itself : (l : Levels) (t : A) → trees.IsWhole l t → Spells trees l (trees.spell t) t
  spells_itself l t w = let g = laws.good l t w in record { fits = g.fits; shallow = g.low; says = g.again; whole = w }

  same_said : (o : Option Data) (t u : A) → Shape t → Shape u → o ≡ Some (trees.spell t) → o ≡ Some (trees.spell u) → t ≡ u
  same_said o t u s r a b = let same : trees.spell t ≡ trees.spell u = cc in laws.same t u s r same

  -- A value spells one tree at most.
  pub one_tree : (l : Levels) (j : Data) (t u : A) → Spells trees l j t → Spells trees l j u → t ≡ u
  one_tree l j t u s r = same_said (canonical (one trees.sort) j) t u (laws.shaped l t s.whole) (laws.shaped l u r.whole) s.says r.says

  -- A tree that a value says is whole, where nothing in the value is too deep.
  said_whole : (l : Levels) (j : Data) (t : A) → IsOrdered j → Shape t → too_deep (one trees.sort) j l ≡ None → canonical (one trees.sort) j ≡ Some (trees.spell t) → trees.IsWhole l t
  said_whole l j t o s low says = laws.back l t s (subst (λ x. Good l (one trees.sort) x) says (canonical_good j (one trees.sort) l o low))

  -- What a value says spells it, where the value fits and is not too deep.
  pub spells_said : (l : Levels) (j : Data) (t : A) → IsOrdered j → Shape t → misfit (one trees.sort) j ≡ None → too_deep (one trees.sort) j l ≡ None → canonical (one trees.sort) j ≡ Some (trees.spell t)
      → Spells trees l j t
  spells_said l j t o s fits low says =
      record { fits = fits; shallow = low; says = says; whole = said_whole l j t o s low says }

  -- A value that fits, and is not too deep, spells one tree.
  pub spells_one : (l : Levels) (j : Data) → IsValue j → misfit (one trees.sort) j ≡ None → too_deep (one trees.sort) j l ≡ None → SpellsOne trees l j
  spells_one l j v fits low =
      let found = there (λ (t : (t : A) × Shape t). trees.spell t.0) (canonical (one trees.sort) j) (laws.found j v.text) (fits_one trees.sort j fits) in
      let spelled = spells_said l j found.0.0 v.order found.0.1 fits low found.1 in
      record { tree = found.0.0; spelled = spelled; only = λ t s. one_tree l j t found.0.0 s spelled }

  pub exactly_one : ExactlyOne trees
  exactly_one l j v = by_faults (misfit (one trees.sort) j) (too_deep (one trees.sort) j l) refl refl
    where
      by_faults : (m p : Option Pointer) → misfit (one trees.sort) j ≡ m → too_deep (one trees.sort) j l ≡ p → SpellsOne trees l j ⊎ IsSome m ⊎ ((m ≡ None) × IsSome p)
      by_faults (Some m) p a b = inr (inl refl)
      by_faults None (Some p) a b = inr (inr (refl, refl))
      by_faults None None a b = inl (spells_one l j v a b)

  -- The canonical text of a whole tree reads back.
  pub reads_back : ReadsBack trees
  reads_back l t h w u =
      let g = laws.good l t w in
      let d = trees.spell t in
      let back : read (compact_text d) ≡ Some d = read_back d g.order (fits_whole d (one trees.sort) g.fits) (nests d trees.sort l h.elements h.references h.kept g.fits g.low) in
      (d, rw (is_utf8-from_IsUtf8 (compact_text d) u) back, spells_itself l t w)

  -- ---- readers

  no_fault : (o : Option Pointer) (p : List ℕ) → IsPointer o p → o ≡ None → ⊥
  no_fault o p is none = cc

  -- What a reader answers is each tree that is spelled.
  pub reads_each : (l : Levels) (result : Result A ReadFault) (j : Data) → Reads trees l result j → ReadsEach trees l result j
  reads_each l (Ok u) j r t s = inl (ap Ok (one_tree l j u t r s))
  reads_each l (Err NotJson) j r t s = absurd r
  reads_each l (Err (NotMapping p)) j r t s = absurd (no_fault (misfit (one trees.sort) j) p r s.fits)
  reads_each l (Err (TooDeep p)) j r t s = absurd (no_fault (too_deep (one trees.sort) j l) p r.1 s.shallow)
  reads_each l (Err NoMemory) j r t s = inr refl

  pub reads_each_if : (l : Levels) (result : Result A ReadFault) (o : Option Data) → ReadsIf trees l result o → ReadsEachIf trees l result o
  reads_each_if l result None r = tt
  reads_each_if l result (Some j) r = reads_each l result j r

  -- The same of bytes.
  pub reads_each_of_bytes : (l : Levels) (result : Result A ReadFault) (bytes : List ℕ) → ReadsBytes trees l result bytes → ReadsEachOfBytes trees l result bytes
  reads_each_of_bytes l result bytes r = reads_each_if l result (reading bytes) r

  -- A reader of bytes answers the tree whose canonical text it is given.
  answered : (l : Levels) (t : A) (result : Result A ReadFault) → IsWithinLimits l → trees.IsWhole l t → IsUtf8 (canonical_text trees t) → ReadsEachOfBytes trees l result (canonical_text trees t)
      → (result ≡ Ok t) ⊎ (result ≡ Err NoMemory)
  answered l t result h w u each = let back = reads_back l t h w u in (subst (λ o. ReadsEachIf trees l result o) back.1 each) t back.2

  -- All the laws of a mapping.
  pub mapped : IsMapped trees Shape
  mapped = record { spells_itself = spells_itself; reads_back = reads_back; answered = answered; said_once = laws.same; said_whole = said_whole; exactly_one = exactly_one }

-- what is read of a value is read of its bytes
pub reads_value : {A : Type 0} (trees : Trees A) (l : Levels) (result : Result A ReadFault) (bytes : List ℕ) (j : Data) → reading bytes ≡ Some j → Reads trees l result j → ReadsBytes trees l result bytes
reads_value trees l result bytes j is r = subst (λ o. ReadsIf trees l result o) (sym is) r
