-- What was given to the console, and with which status a run ends.
use Rattle.std.proofs.Common.{◌≡◌, ◌≢◌, ◌⊎◌, ⊎_elim, ℕ, zero, suc, List, [], ◌∷◌, Option, refl, subst, sym, ◌∙◌, inl}
use Rattle.std.proofs.Common.{inr, arith, lit<}
use Rattle.std.specs.Prelude.{Contains}
use Rattle.std.specs.Io.KnownBytes.{append_known}
use Rattle.aas_command.specs.declared.refusal.Refusal.{Refusal}
use Rattle.aas_command.specs.declared.refusal.Refusal.TheVariants as refusal
use Rattle.aas_outside.specs.Faults.{Rose}
use Rattle.aas_outside.specs.Link.{GivesFront, LinkState}
use Rattle.aas_server.specs.Answer.{Answer, GivesFrontOf, Says, damage, refused}
use Rattle.aas_server.specs.Telling.{statuses_with}

-- after a call that gave nothing, of a text that is another's
pub front_moved : (old mid new : Option (List ℕ)) (text items : List ℕ)
    → mid ≡ old → text ≡ items → GivesFront mid new text → GivesFront old new items
front_moved old mid new text items nothing same front =
    subst (λ (before : Option (List ℕ)). GivesFront before new items) nothing
    (subst (λ (bytes : List ℕ). GivesFront mid new bytes) same front)

-- ---- what was said

front_weaker : (P Q : Answer → Type 0) (old new : Option (List ℕ))
    → ((answer : Answer) → P answer → Q answer) → GivesFrontOf P old new → GivesFrontOf Q old new
front_weaker P Q old new then (inl nothing) = inl nothing
front_weaker P Q old new then (inr (answer, is, front)) = inr (answer, then answer is, front)

pub says_weaker : (P Q : Answer → Type 0) (status : ℕ) (old new : LinkState)
    → ((answer : Answer) → P answer → Q answer)
    → Says P status old new → Says Q status old new
says_weaker P Q status old new then says = record {
  given = λ not3 not10. let given = says.given not3 not10 in (given.0, then given.0 given.1, given.2, given.3);
  front = λ is. front_weaker P Q old.sent new.sent then (says.front is);
  fault = says.fault;
  memory = says.memory;
}

three_or_ten : (n : ℕ) → n ≡ 3 → n ≡ 10 → ⊥
three_or_ten n three ten = cc

-- nothing is said for want of memory
pub says_nothing : (P : Answer → Type 0) (old : LinkState) → Says P 10 old old
says_nothing P old = record {
  given = λ not3 not10. absurd (not10 refl);
  front = λ is. absurd (three_or_ten 10 is refl);
  fault = λ is. absurd (three_or_ten 10 is refl);
  memory = λ is. refl;
}

-- a line that takes no memory
pub says_line : (answer : Answer) (status : ℕ) (old new : LinkState) → answer.status ≢ 10
    → (status ≢ 3 → (status ≡ answer.status) × (new.sent ≡ append_known old.sent answer.text))
    → (status ≡ 3 → GivesFront old.sent new.sent answer.text)
    → (status ≡ 3 → Rose old.faults new.faults) → (status ≡ 3) ⊎ (status ≡ answer.status)
    → Says (λ said. said ≡ answer) status old new
says_line answer status old new never given front fault statuses = record {
  given = λ not3 not10. let all = given not3 in (answer, refl, all.0, all.1);
  front = λ is. inr (answer, refl, front is);
  fault = fault;
  memory = λ ten. absurd (⊎_elim (λ three. three_or_ten status three ten) (λ is. never (sym is ∙ ten)) statuses);
}

pub says_damage : (at status : ℕ) (old new : LinkState)
    → (status ≡ 6 → new.sent ≡ append_known old.sent (damage at).text)
    → (status ≡ 3 → GivesFront old.sent new.sent (damage at).text)
    → (status ≡ 3 → Rose old.faults new.faults) → (status ≡ 10 → new.sent ≡ old.sent)
    → (status ≡ 3) ⊎ (status ≡ 6) ⊎ (status ≡ 10) → Says (λ said. said ≡ damage at) status old new
says_damage at status old new given front fault silent statuses = record {
  given = λ not3 not10.
      let six : status ≡ 6 =
      ⊎_elim (λ three. absurd (not3 three)) (λ rest. ⊎_elim (λ six. six) (λ ten. absurd (not10 ten)) rest) statuses in
      (damage at, refl, six, given six);
  front = λ is. inr (damage at, refl, front is);
  fault = fault;
  memory = silent;
}

pub says_refused : (r : Refusal) (status : ℕ) (old new : LinkState)
    → (status ≡ 7 → (r ≢ refusal.NoMemory) × (new.sent ≡ append_known old.sent (refused r).text))
    → (status ≡ 3 → (r ≢ refusal.NoMemory) × GivesFront old.sent new.sent (refused r).text)
    → (status ≡ 3 → Rose old.faults new.faults)
    → (status ≡ 10 → new.sent ≡ old.sent) → (status ≡ 3) ⊎ (status ≡ 7) ⊎ (status ≡ 10)
    → Says (λ said. said ≡ refused r) status old new
says_refused r status old new given front fault silent statuses = record {
  given = λ not3 not10.
      let seven : status ≡ 7 = ⊎_elim (λ three. absurd (not3 three))
      (λ rest. ⊎_elim (λ seven. seven) (λ ten. absurd (not10 ten)) rest) statuses in
      (refused r, refl, seven, (given seven).1);
  front = λ is. inr (refused r, refl, (front is).1);
  fault = fault;
  memory = silent;
}

-- ---- statuses

pub refused_status : (n : ℕ) → (n ≡ 3) ⊎ (n ≡ 7) ⊎ (n ≡ 10) → Contains (0 ∷ 3 ∷ 7 ∷ 10 ∷ []) n
refused_status n (inl is) = (1, lit< tt, sym is)
refused_status n (inr (inl is)) = (2, lit< tt, sym is)
refused_status n (inr (inr is)) = (3, lit< tt, sym is)

-- a text that is made is given without memory
pub never_ten : (n : ℕ) → (n ≡ 3) ⊎ (n ≡ 0) → n ≡ 10 → ⊥
never_ten n (inl is) ten = cc
never_ten n (inr is) ten = cc

pub done_status : (n : ℕ) → (n ≡ 3) ⊎ (n ≡ 0) → Contains (0 ∷ 3 ∷ 7 ∷ 10 ∷ []) n
done_status n (inl is) = (1, lit< tt, sym is)
done_status n (inr is) = (0, lit< tt, sym is)

pub made_status : (n : ℕ) → (n ≡ 3) ⊎ (n ≡ 0) → Contains (0 ∷ 3 ∷ 4 ∷ 8 ∷ []) n
made_status n (inl is) = (1, lit< tt, sym is)
made_status n (inr is) = (0, lit< tt, sym is)

pub there_status : (n : ℕ) → (n ≡ 3) ⊎ (n ≡ 8) → Contains (0 ∷ 3 ∷ 4 ∷ 8 ∷ []) n
there_status n (inl is) = (1, lit< tt, sym is)
there_status n (inr is) = (3, lit< tt, sym is)

-- where no repository is begun
pub telling_status : (others : List ℕ) (n : ℕ) → Contains (statuses_with []) n → Contains (statuses_with others) n
telling_status others n (zero, low, is) = (0, omega arith, is)
telling_status others n (suc zero, low, is) = (1, omega arith, is)
telling_status others n (suc (suc zero), low, is) = (2, omega arith, is)
telling_status others n (suc (suc (suc zero)), low, is) = (3, omega arith, is)
telling_status others n (suc (suc (suc (suc zero))), low, is) = (4, omega arith, is)
telling_status others n (suc (suc (suc (suc (suc zero)))), low, is) = (5, omega arith, is)
telling_status others n (suc (suc (suc (suc (suc (suc k))))), low, is) = absurd (omega (arith, low))

pub early_status : (n : ℕ) → Contains (0 ∷ 3 ∷ 4 ∷ 5 ∷ 6 ∷ 10 ∷ []) n → Contains (0 ∷ 3 ∷ 4 ∷ 5 ∷ 6 ∷ 9 ∷ 10 ∷ []) n
early_status n (zero, low, is) = (0, lit< tt, is)
early_status n (suc zero, low, is) = (1, lit< tt, is)
early_status n (suc (suc zero), low, is) = (2, lit< tt, is)
early_status n (suc (suc (suc zero)), low, is) = (3, lit< tt, is)
early_status n (suc (suc (suc (suc zero))), low, is) = (4, lit< tt, is)
early_status n (suc (suc (suc (suc (suc zero)))), low, is) = (6, lit< tt, is)
early_status n (suc (suc (suc (suc (suc (suc k))))), low, is) = absurd (omega (arith, low))

pub early_import_status : (n : ℕ)
    → Contains (0 ∷ 3 ∷ 4 ∷ 5 ∷ 6 ∷ 10 ∷ []) n → Contains (0 ∷ 3 ∷ 4 ∷ 5 ∷ 6 ∷ 7 ∷ 9 ∷ 10 ∷ []) n
early_import_status n (zero, low, is) = (0, lit< tt, is)
early_import_status n (suc zero, low, is) = (1, lit< tt, is)
early_import_status n (suc (suc zero), low, is) = (2, lit< tt, is)
early_import_status n (suc (suc (suc zero)), low, is) = (3, lit< tt, is)
early_import_status n (suc (suc (suc (suc zero))), low, is) = (4, lit< tt, is)
early_import_status n (suc (suc (suc (suc (suc zero)))), low, is) = (7, lit< tt, is)
early_import_status n (suc (suc (suc (suc (suc (suc k))))), low, is) = absurd (omega (arith, low))

pub refused_import_status : (n : ℕ) → (n ≡ 3) ⊎ (n ≡ 7) ⊎ (n ≡ 10) → Contains (0 ∷ 3 ∷ 4 ∷ 5 ∷ 6 ∷ 7 ∷ 9 ∷ 10 ∷ []) n
refused_import_status n (inl is) = (1, lit< tt, sym is)
refused_import_status n (inr (inl is)) = (5, lit< tt, sym is)
refused_import_status n (inr (inr is)) = (7, lit< tt, sym is)

pub done_import_status : (n : ℕ) → (n ≡ 3) ⊎ (n ≡ 0) → Contains (0 ∷ 3 ∷ 4 ∷ 5 ∷ 6 ∷ 7 ∷ 9 ∷ 10 ∷ []) n
done_import_status n (inl is) = (1, lit< tt, sym is)
done_import_status n (inr is) = (0, lit< tt, sym is)

pub full_import_status : (n : ℕ) → (n ≡ 3) ⊎ (n ≡ 9) → Contains (0 ∷ 3 ∷ 4 ∷ 5 ∷ 6 ∷ 7 ∷ 9 ∷ 10 ∷ []) n
full_import_status n (inl is) = (1, lit< tt, sym is)
full_import_status n (inr is) = (6, lit< tt, sym is)

pub done_demo_status : (n : ℕ) → (n ≡ 3) ⊎ (n ≡ 0) → Contains (0 ∷ 3 ∷ 4 ∷ 5 ∷ 6 ∷ 9 ∷ 10 ∷ []) n
done_demo_status n (inl is) = (1, lit< tt, sym is)
done_demo_status n (inr is) = (0, lit< tt, sym is)

-- of an import that isn't refused
pub demo_status : (n : ℕ)
    → (n ≡ 7 → ⊥) → Contains (0 ∷ 3 ∷ 4 ∷ 5 ∷ 6 ∷ 7 ∷ 9 ∷ 10 ∷ []) n → Contains (0 ∷ 3 ∷ 4 ∷ 5 ∷ 6 ∷ 9 ∷ 10 ∷ []) n
demo_status n never (zero, low, is) = (0, lit< tt, is)
demo_status n never (suc zero, low, is) = (1, lit< tt, is)
demo_status n never (suc (suc zero), low, is) = (2, lit< tt, is)
demo_status n never (suc (suc (suc zero)), low, is) = (3, lit< tt, is)
demo_status n never (suc (suc (suc (suc zero))), low, is) = (4, lit< tt, is)
demo_status n never (suc (suc (suc (suc (suc zero)))), low, is) = absurd (never (sym is))
demo_status n never (suc (suc (suc (suc (suc (suc zero))))), low, is) = (5, lit< tt, is)
demo_status n never (suc (suc (suc (suc (suc (suc (suc zero)))))), low, is) = (6, lit< tt, is)
demo_status n never (suc (suc (suc (suc (suc (suc (suc (suc k))))))), low, is) = absurd (omega (arith, low))
