-- A reply, and what is poured behind its body.
use Rattle.std.proofs.Common.{◌≡◌, ◌⊎◌, inl, inr, ℕ, ◌+◌, Bool, true, false, List, [], ◌++◌, length, Option, Some, None}
use Rattle.std.proofs.Common.{Result, Ok, Err, refl, sym, ap, ap₂, ◌∙◌, subst, if◌then◌else◌, append_assoc, arith}
use Rattle.std.proofs.lemmas.List.{length-append}
use Rattle.std.specs.Prelude.{◌==◌, IsSome, codes, decimal}
use Rattle.aas_http.specs.ReplyText.{allow_field, body_bytes, connection_field, crlf, reply_text, status_line}
use Rattle.aas_http.specs.declared.replies.Reply.{Reply}
use Rattle.aas_out.specs.Adds.{Adds}
use Rattle.aas_out.specs.Told.{Told, Puts, Wrote, WroteFront}
use Rattle.aas_out.specs.declared.pouring.Pouring.TheVariants as pouring
use Rattle.aas_out.proofs.Adding.{adds_both, wrote_nothing}
use Rattle.aas_session.specs.WholeReply.{IsMeasured, poured_of, whole_reply}
use Rattle.aas_session.specs.declared.machine.Answer.{Answer}

body_then : (none : Bool) (body more : List ℕ)
    → (more ≡ []) ⊎ (none ≡ false) → (if none then [] else body) ++ more ≡ (if none then [] else body ++ more)
body_then false body more fits = refl
body_then true body more (inl empty) = empty
body_then true body more (inr some) = absurd (cc)

-- what stands before the body of a reply whose Content-Length is this
abbrev head : Reply → ℕ → List ℕ
head r size =
    status_line r.status
    ++ (if r.status == 204 then []
    else codes "Content-Type: application/json\r\nContent-Length: " ++ decimal size ++ crlf)
    ++ allow_field r.status r.allow ++ connection_field r.close ++ crlf

-- bytes behind the text of a reply that counts them are as its body's
text_behind : (r : Reply) (more : List ℕ) → r.later ≡ length more → (more ≡ []) ⊎ ((r.status == 204) ≡ false)
    → reply_text r ++ more ≡ reply_text (record r { body = r.body ++ more; later = 0 })
unfolding reply_text
text_behind r more counted fits =
    append_assoc (head r (length r.body + r.later)) (body_bytes r.status r.body) more
    ∙ ap₂ (λ (n : ℕ) (l : List ℕ). head r n ++ l) (omega (arith, length-append r.body more, counted))
    (body_then (r.status == 204) r.body more fits)

has_body : {P : Type 0} (poured : P → List ℕ) (plan : Option P) (status : ℕ)
    → (IsSome plan → status ≡ 200) → (poured_of poured plan ≡ []) ⊎ ((status == 204) ≡ false)
has_body poured None status success = inl refl
has_body poured (Some p) status success = inr (ap (λ (s : ℕ). s == 204) (success refl))

whole_text : {P : Type 0} (poured : P → List ℕ) (answer : Answer P) → IsMeasured poured answer
    → reply_text answer.reply ++ poured_of poured answer.plan ≡ reply_text (whole_reply poured answer)
whole_text poured answer measured =
    text_behind answer.reply (poured_of poured answer.plan) measured.counted
    (has_body poured answer.plan answer.reply.status measured.status)

-- what was put by a pouring that went on, and then by what gave this result
puts_then : {K T E : Type 0} (result : Result T E) (a b c : Told K) (first more : List ℕ)
    → Adds pouring.Going pouring.Going a b first → Puts b c result more → Puts a c result (first ++ more)
unfolding Adds
puts_then (Ok v) a b c first more h g = adds_both pouring.Going pouring.Going pouring.Going a b c first more h g
puts_then (Err e) a b c first more h g = adds_both pouring.Going pouring.Going pouring.Stopped a b c first more h g

module _ {K P : Type 0} (poured : P → List ℕ) (answer : Answer P)
    (measured : IsMeasured poured answer) (a b : Told K) where
  -- the reply was put, and then what is poured behind it
  pub puts_whole : {T E : Type 0} (result : Result T E) (c : Told K) (more : List ℕ)
      → poured_of poured answer.plan ≡ more
      → Adds pouring.Going pouring.Going a b (reply_text answer.reply) → Puts b c result more
      → Puts a c result (reply_text (whole_reply poured answer))
  puts_whole result c more is h g =
      subst (λ (l : List ℕ). Puts a c result l)
      (ap (λ (l : List ℕ). reply_text answer.reply ++ l) (sym is) ∙ whole_text poured answer measured)
      (puts_then result a b c (reply_text answer.reply) more h g)

  -- nothing is poured behind it
  pub wrote_whole : poured_of poured answer.plan ≡ [] → Adds pouring.Going pouring.Going a b (reply_text answer.reply)
      → Wrote a b (reply_text (whole_reply poured answer))
  wrote_whole none h = puts_whole {T = Unit {0}} {E = Unit {0}} (Ok tt) b [] none h (wrote_nothing b)

  -- a front of it was put
  pub front_whole : Adds pouring.Going pouring.Stopped a b (reply_text answer.reply)
      → WroteFront a b (reply_text (whole_reply poured answer))
  unfolding Adds
  front_whole h =
      subst (λ (l : List ℕ). WroteFront a b l) (whole_text poured answer measured)
      (adds_both pouring.Going pouring.Stopped pouring.Stopped a b b
      (reply_text answer.reply) (poured_of poured answer.plan) h (refl, refl))
