-- Texts of steps, one behind the other, and the paths that they write.
use Rattle.std.proofs.Common.{◌≡◌, ℕ, suc, ◌+◌, ◌-◌, ◌<◌, ◌≤◌, ◌⊎◌, List, [], ◌∷◌, ◌++◌, length, take, drop, refl, sym, ap, ◌∙◌, subst, inl, inr, arith, append_assoc, append-nil, length-append, codes, decimal}
use Rattle.std.proofs.Math.Numerals.{add-one}
use Rattle.std.proofs.Math.Seq.{take-add, take-append_seam, drop-append_seam}
use Rattle.std.proofs.lemmas.Fmt.{decimal_injective}
use Rattle.std.proofs.lemmas.List.Concat.{flat_map-append}
use Rattle.std.specs.Char.{is_ascii_digit}
use Rattle.std.specs.List.{AllByRecursion, flat_map}
use Rattle.std.specs.Str.{encode_utf8_all}
use Rattle.aas_lemmas.proofs.Lists.{same_tails}
use Rattle.aas_model.specs.declared.path.PathStep.{PathStep}
use Rattle.aas_model.specs.declared.path.PathStep.TheVariants.{Name, Place}
use Rattle.aas_path.specs.ParseFaults.{IsStepFault, IsPathFault, behind}
use Rattle.aas_path.specs.PathText.{step_text, path_text, IsPath, BeginsPath, IsNoPath}
use Rattle.aas_path.specs.StepText.{EndsStep, IsStep, IsNoStep}
use Rattle.aas_path.specs.declared.path_fault.PathFault.{PathFault}
use Rattle.aas_path.specs.declared.path_fault.PathFault.TheVariants.{BadPath, NoMemory}
use Rattle.aas_path.proofs.NameSteps.{dot_no_bracket, NameStep, dotted, end_stops_name}
use Rattle.aas_path.proofs.PlaceSteps.{PlaceStep, bracketed}
use Rattle.aas_path.proofs.RunsFound.{same_front}
use Rattle.aas_lexical.specs.Names.{is_name_character}
use Rattle.aas_path_trees.specs.PathRule.{StepKeepsRule, KeepsRule}

abbrev Keep : List PathStep → Type 0
Keep p = AllByRecursion StepKeepsRule p

abbrev steps_text : List PathStep → List ℕ
steps_text p = flat_map step_text p

-- ---- a path is steps, but for its first dot

path_dotted : (p : List PathStep) → KeepsRule p → (46 ∷ path_text p ≡ steps_text p) × Keep p
path_dotted [] keeps = absurd keeps
path_dotted (Name n ∷ p) keeps = (refl, keeps)
path_dotted (Place i ∷ p) keeps = absurd keeps

something : (x : List ℕ) → 46 ∷ x ≡ [] → ⊥
something x e = absurd (cc)

path_undotted : (p : List PathStep) (text : List ℕ) → 46 ∷ text ≡ steps_text p → Keep p → IsPath text p
path_undotted [] text e keep = absurd (something text e)
path_undotted (Name n ∷ p) text e keep = (same_tails 46 46 text (encode_utf8_all n ++ steps_text p) e, keep)
path_undotted (Place i ∷ p) text e keep = absurd (dot_no_bracket text ((decimal i ++ codes "]") ++ steps_text p) e)

-- ---- one step alone stands at the front of a text

same_name : (text : List ℕ) (s t : PathStep) (y z : List ℕ) → EndsStep y → EndsStep z → NameStep text s y → NameStep text t z → (s ≡ t) × (y ≡ z)
same_name text s t y z p q a b =
    let same = same_front is_name_character a.name b.name y z a.good.all b.good.all (end_stops_name y p) (end_stops_name z q) (sym a.whole ∙ b.whole) in
    (a.is ∙ ap (λ (n : List ℕ). Name n) same.0 ∙ sym b.is, same.1)

same_place : (text : List ℕ) (s t : PathStep) (y z : List ℕ) → PlaceStep text s y → PlaceStep text t z → (s ≡ t) × (y ≡ z)
same_place text s t y z a b =
    let same = same_front is_ascii_digit a.digits b.digits (93 ∷ y) (93 ∷ z) a.good.all b.good.all refl refl (sym a.whole ∙ b.whole) in
    let place : a.place ≡ b.place = decimal_injective a.place b.place (omega (arith, a.small)) (omega (arith, b.small)) (sym a.writes ∙ same.0 ∙ b.writes) in
    (a.is ∙ ap (λ (n : ℕ). Place n) place ∙ sym b.is, same_tails 93 93 y z same.1)

-- by what the step begins with
same_step_by : (c : ℕ) (text : List ℕ) (s t : PathStep) (y z : List ℕ) → (c ≡ 46) ⊎ (c ≡ 91) → IsStep (c ∷ text) s y → IsStep (c ∷ text) t z → (s ≡ t) × (y ≡ z)
same_step_by c text s t y z (inl e) a b =
    let a' : IsStep (46 ∷ text) s y = subst (λ (c : ℕ). IsStep (c ∷ text) s y) e a in
    let b' : IsStep (46 ∷ text) t z = subst (λ (c : ℕ). IsStep (c ∷ text) t z) e b in
    same_name text s t y z a.ends b.ends (dotted text s y a') (dotted text t z b')
same_step_by c text s t y z (inr e) a b =
    let a' : IsStep (91 ∷ text) s y = subst (λ (c : ℕ). IsStep (c ∷ text) s y) e a in
    let b' : IsStep (91 ∷ text) t z = subst (λ (c : ℕ). IsStep (c ∷ text) t z) e b in
    same_place text s t y z (bracketed text s y a') (bracketed text t z b')

-- the byte with which a step begins
record Begun (s : PathStep) : Type 0 where
  lead : ℕ
  rest : List ℕ
  is : step_text s ≡ lead ∷ rest
  leads : (lead ≡ 46) ⊎ (lead ≡ 91)

begun : (s : PathStep) → Begun s
begun (Name n) = record { lead = 46; rest = encode_utf8_all n; is = refl; leads = inl refl }
begun (Place i) = record { lead = 91; rest = decimal i ++ codes "]"; is = refl; leads = inr refl }

same_step : (text : List ℕ) (s t : PathStep) (y z : List ℕ) → IsStep text s y → IsStep text t z → (s ≡ t) × (y ≡ z)
same_step text s t y z a b =
    let first = begun s in
    let whole : text ≡ first.lead ∷ (first.rest ++ y) = a.whole ∙ ap (λ (x : List ℕ). x ++ y) first.is in
    same_step_by first.lead (first.rest ++ y) s t y z first.leads (subst (λ (x : List ℕ). IsStep x s y) whole a) (subst (λ (x : List ℕ). IsStep x t z) whole b)

-- ---- steps behind others

ends_text : (s : PathStep) (x : List ℕ) → EndsStep (step_text s ++ x)
ends_text (Name n) x = inl refl
ends_text (Place i) x = inr refl

ends_steps : (p : List PathStep) (y : List ℕ) → EndsStep y → EndsStep (steps_text p ++ y)
ends_steps [] y e = e
ends_steps (s ∷ p) y e = subst EndsStep (sym (append_assoc (step_text s) (steps_text p) y)) (ends_text s (steps_text p ++ y))

ends_all : (p : List PathStep) → EndsStep (steps_text p)
ends_all p = subst EndsStep (append-nil (steps_text p)) (ends_steps p [] tt)

some_text : (s : PathStep) (x : List ℕ) → step_text s ++ x ≡ [] → ⊥
some_text (Name n) x e = absurd (nothing 46 (encode_utf8_all n ++ x) e)
  where
    nothing : (c : ℕ) (x : List ℕ) → c ∷ x ≡ [] → ⊥
    nothing c x e = absurd (cc)
some_text (Place i) x e = absurd (nothing 91 ((decimal i ++ codes "]") ++ x) e)
  where
    nothing : (c : ℕ) (x : List ℕ) → c ∷ x ≡ [] → ⊥
    nothing c x e = absurd (cc)

-- steps that write what others write and then more are those and then more
record Further (p q : List PathStep) (y : List ℕ) : Type 0 where
  more : List PathStep
  steps : q ≡ p ++ more
  text : steps_text more ≡ y
  keep : Keep more

further : (p q : List PathStep) (y : List ℕ) → Keep p → Keep q → EndsStep y → steps_text q ≡ steps_text p ++ y → Further p q y
further [] q y a b e is = record { more = q; steps = refl; text = is; keep = b }
further (s ∷ p) [] y a b e is = absurd (some_text s (steps_text p ++ y) (sym (is ∙ append_assoc (step_text s) (steps_text p) y)))
further (s ∷ p) (t ∷ q) y a b e is =
    let text : List ℕ = step_text t ++ steps_text q in
    let whole : text ≡ step_text s ++ (steps_text p ++ y) = is ∙ append_assoc (step_text s) (steps_text p) y in
    let first = same_step text t s (steps_text q) (steps_text p ++ y) (record { whole = refl; keeps = b.0; ends = ends_all q }) (record { whole = whole; keeps = a.0; ends = ends_steps p y e }) in
    let rest = further p q y a.1 b.1 e first.1 in
    let step : t ≡ s = first.0 in
    let steps : q ≡ p ++ rest.more = rest.steps in
    record { more = rest.more; steps = (λ i. step i ∷ steps i); text = rest.text; keep = rest.keep }

-- ---- reading a path from its front

-- the steps that were read, and the text that is left behind the byte with which a step begins
pub record Read (text : List ℕ) (steps : List PathStep) (lead : ℕ) (rest : List ℕ) : Type 0 where
  pub whole : 46 ∷ text ≡ steps_text steps ++ lead ∷ rest
  pub keep : Keep steps
  pub leads : (lead ≡ 46) ⊎ (lead ≡ 91)

-- a path that goes on from what was read
on_from : (steps p : List PathStep) (c : ℕ) (x : List ℕ) → Keep steps → (c ≡ 46) ⊎ (c ≡ 91) → KeepsRule p → 46 ∷ path_text p ≡ steps_text steps ++ c ∷ x
    → (s : PathStep) × (r : List ℕ) × IsStep (c ∷ x) s r
on_from steps p c x keep ends rule is =
    let dots = path_dotted p rule in
    let f = further steps p (c ∷ x) keep dots.1 ends (sym dots.0 ∙ is) in
    next f.more f.text f.keep
  where
    next : (m : List PathStep) → steps_text m ≡ c ∷ x → Keep m → (s : PathStep) × (r : List ℕ) × IsStep (c ∷ x) s r
    next [] e k = absurd (nothing c x e)
      where
        nothing : (c : ℕ) (x : List ℕ) → [] ≡ c ∷ x → ⊥
        nothing c x e = absurd (cc)
    next (s ∷ m) e k = (s, steps_text m, record { whole = sym e; keeps = k.0; ends = ends_all m })

read_none : (text : List ℕ) (steps : List PathStep) (lead : ℕ) (rest : List ℕ) (n : ℕ) → Read text steps lead rest → IsNoStep (lead ∷ rest) (n + 1) → (p : List PathStep) → ¬ IsPath text p
read_none text steps lead rest n r bad p path =
    let s = on_from steps p lead rest r.keep r.leads path.1 (ap (λ (t : List ℕ). 46 ∷ t) (sym path.0) ∙ r.whole) in
    bad.none s.0 s.1 s.2

pub read_length : (text : List ℕ) (steps : List PathStep) (lead : ℕ) (rest : List ℕ) → Read text steps lead rest → length text ≡ length (steps_text steps) + length rest
read_length text steps lead rest r = omega (arith, ap length r.whole, length-append (steps_text steps) (lead ∷ rest))

-- a part of the text, and what goes on there
part_of : (text : List ℕ) (steps : List PathStep) (lead : ℕ) (rest more : List ℕ) (n k : ℕ) → Read text steps lead rest → n ≡ length (steps_text steps) + k
    → 46 ∷ (take n text ++ more) ≡ steps_text steps ++ (take (k + 1) (lead ∷ rest) ++ more)
part_of text steps lead rest more n k r is =
    let far : suc n ≡ length (steps_text steps) + (k + 1) = omega arith in
    let front : 46 ∷ take n text ≡ steps_text steps ++ take (k + 1) (lead ∷ rest) =
    ap (λ (j : ℕ). take j (46 ∷ text)) far ∙ ap (take (length (steps_text steps) + (k + 1))) r.whole ∙ take-add (length (steps_text steps)) (k + 1) (steps_text steps ++ lead ∷ rest)
    ∙ (λ i. take-append_seam (steps_text steps) (lead ∷ rest) i ++ take (k + 1) (drop-append_seam (steps_text steps) (lead ∷ rest) i)) in
    ap (λ (x : List ℕ). x ++ more) front ∙ append_assoc (steps_text steps) (take (k + 1) (lead ∷ rest)) more

steps-append : (p q : List PathStep) → steps_text (p ++ q) ≡ steps_text p ++ steps_text q
steps-append p q = flat_map-append step_text p q

keep-append : (p : List PathStep) (s : PathStep) → Keep p → StepKeepsRule s → Keep (p ++ s ∷ [])
keep-append [] s k h = (h, tt)
keep-append (t ∷ p) s k h = (k.0, keep-append p s k.1 h)

read_begins : (text : List ℕ) (steps : List PathStep) (lead : ℕ) (rest : List ℕ) (n k : ℕ) → Read text steps lead rest → n ≡ length (steps_text steps) + k → IsNoStep (lead ∷ rest) (k + 1) → BeginsPath (take n text)
read_begins text steps lead rest n k r is bad =
    let s : PathStep = bad.begins.0 in
    let more : List ℕ = bad.begins.1 in
    let whole : 46 ∷ (take n text ++ more) ≡ steps_text (steps ++ s ∷ []) =
    part_of text steps lead rest more n k r is ∙ ap (λ (x : List ℕ). steps_text steps ++ x) (bad.begins.3 ∙ sym (append-nil (step_text s))) ∙ sym (steps-append steps (s ∷ [])) in
    (more, steps ++ s ∷ [], path_undotted (steps ++ s ∷ []) (take n text ++ more) whole (keep-append steps s r.keep bad.begins.2))

read_no_longer : (text : List ℕ) (steps : List PathStep) (lead : ℕ) (rest : List ℕ) (n k m : ℕ) → Read text steps lead rest → n ≡ length (steps_text steps) + k → IsNoStep (lead ∷ rest) (k + 1) → n < m → m ≤ length text → ¬ BeginsPath (take m text)
read_no_longer text steps lead rest n k m r is bad lt le h =
    let more : List ℕ = h.0 in
    let size : length text ≡ length (steps_text steps) + length rest = read_length text steps lead rest r in
    let j : ℕ = m - n - 1 in
    let far : m ≡ length (steps_text steps) + (k + 1 + j) = omega arith in
    let split : k + 1 + j + 1 ≡ k + 1 + 1 + j = omega arith in
    let parts : take (k + 1 + j + 1) (lead ∷ rest) ≡ take (k + 1 + 1) (lead ∷ rest) ++ take j (drop (k + 1 + 1) (lead ∷ rest)) = ap (λ (i : ℕ). take i (lead ∷ rest)) split ∙ take-add (k + 1 + 1) j (lead ∷ rest) in
    let behind : List ℕ = take j (drop (k + 1 + 1) (lead ∷ rest)) ++ more in
    let first : take (k + 1 + 1) (lead ∷ rest) ≡ lead ∷ take (k + 1) rest = ap (λ (i : ℕ). take i (lead ∷ rest)) (add-one (k + 1)) in
    let whole : 46 ∷ (take m text ++ more) ≡ steps_text steps ++ lead ∷ (take (k + 1) rest ++ behind) =
    part_of text steps lead rest more m (k + 1 + j) r far
    ∙ ap (λ (x : List ℕ). steps_text steps ++ (x ++ more)) parts
    ∙ ap (λ (x : List ℕ). steps_text steps ++ x) (append_assoc (take (k + 1 + 1) (lead ∷ rest)) (take j (drop (k + 1 + 1) (lead ∷ rest))) more ∙ ap (λ (x : List ℕ). x ++ behind) first) in
    let s = on_from steps h.1 lead (take (k + 1) rest ++ behind) r.keep r.leads h.2.1 (ap (λ (t : List ℕ). 46 ∷ t) (sym h.2.0) ∙ whole) in
    bad.no_longer (omega arith) behind s.0 s.1 (subst (λ (x : List ℕ). IsStep (x ++ behind) s.0 s.1) (sym first) s.2)

read_fault : (text : List ℕ) (steps : List PathStep) (lead : ℕ) (rest : List ℕ) (n k : ℕ) → Read text steps lead rest → n ≡ length text - length rest + k → IsNoStep (lead ∷ rest) (k + 1) → IsNoPath text n
read_fault text steps lead rest n k r is bad =
    let size : length text ≡ length (steps_text steps) + length rest = read_length text steps lead rest r in
    let at : n ≡ length (steps_text steps) + k = omega arith in record {
      none = read_none text steps lead rest k r bad;
      within = omega (arith, bad.within);
      begins = read_begins text steps lead rest n k r at bad;
      no_longer = λ m lt le. read_no_longer text steps lead rest n k m r at bad lt le;
    }

pub read_fails : (text : List ℕ) (steps : List PathStep) (lead : ℕ) (rest : List ℕ) (fault : PathFault) → Read text steps lead rest → IsStepFault lead rest fault → IsPathFault text (behind (length text - length rest) fault)
read_fails text steps lead rest (BadPath k) r bad = read_fault text steps lead rest (length text - length rest + k) k r refl bad
read_fails text steps lead rest NoMemory r bad = tt

push : (p : List PathStep) (s : PathStep) → steps_text (p ++ s ∷ []) ≡ steps_text p ++ step_text s
push p s = steps-append p (s ∷ []) ∙ ap (λ (x : List ℕ). steps_text p ++ x) (append-nil (step_text s))

read_step : (text : List ℕ) (steps : List PathStep) (lead : ℕ) (rest : List ℕ) (s : PathStep) (behind : List ℕ) → Read text steps lead rest → IsStep (lead ∷ rest) s behind → 46 ∷ text ≡ steps_text (steps ++ s ∷ []) ++ behind
read_step text steps lead rest s behind r step =
    r.whole ∙ ap (λ (x : List ℕ). steps_text steps ++ x) step.whole ∙ sym (append_assoc (steps_text steps) (step_text s) behind) ∙ ap (λ (x : List ℕ). x ++ behind) (sym (push steps s))

-- the last step
pub read_all : (text : List ℕ) (steps : List PathStep) (lead : ℕ) (rest : List ℕ) (s : PathStep) → Read text steps lead rest → IsStep (lead ∷ rest) s [] → IsPath text (steps ++ s ∷ [])
read_all text steps lead rest s r step = path_undotted (steps ++ s ∷ []) text (read_step text steps lead rest s [] r step ∙ append-nil (steps_text (steps ++ s ∷ []))) (keep-append steps s r.keep step.keeps)

nothing_written : (p : List PathStep) → steps_text p ≡ [] → p ≡ []
nothing_written [] e = refl
nothing_written (s ∷ p) e = absurd (some_text s (steps_text p) e)

-- a text writes one path at most
pub one_path : (text : List ℕ) (p q : List PathStep) → IsPath text p → IsPath text q → p ≡ q
one_path text p q a b =
    let dots_p = path_dotted p a.1 in
    let dots_q = path_dotted q b.1 in
    let same : steps_text p ≡ steps_text q ++ [] = sym dots_p.0 ∙ ap (λ (t : List ℕ). 46 ∷ t) (sym a.0 ∙ b.0) ∙ dots_q.0 ∙ sym (append-nil (steps_text q)) in
    let f = further q p [] dots_q.1 dots_p.1 tt same in
    f.steps ∙ ap (λ (r : List PathStep). q ++ r) (nothing_written f.more f.text) ∙ append-nil q
