-- Texts that are poured into memory.
use Rattle.std.proofs.Common.{◌≡◌, ℕ, List, [], ◌++◌, refl}
use Rattle.std.proofs.lemmas.Option.{same_Some}
use Rattle.aas_out.specs.Adds.{Adds}
use Rattle.aas_out.specs.TextTold.{text_told}
use Rattle.aas_out.specs.declared.pouring.Pouring.{Pouring}
use Rattle.aas_out.specs.declared.pouring.Pouring.TheVariants.{Going, Stopped}
use Rattle.aas_out.proofs.Adding.{adds_both}
use Rattle.aas_out.proofs.TextPoured.{text_poured}

-- where a pouring went on, it did before too, and put all
pub put_whole : (before after : Pouring) (old new : List ℕ) (f g : ℕ) (text : List ℕ)
    → Adds before after (text_told old f) (text_told new g) text → after ≡ Going
    → (before ≡ Going) × (new ≡ old ++ text)
unfolding Adds
put_whole Going Going old new f g text put went = (refl, same_Some new (old ++ text) put.sent)
put_whole Going Stopped old new f g text put went = absurd (cc)
put_whole Stopped after old new f g text put went = let stopped = put.0 in absurd (cc)

-- a beginning and then all else
pub put_behind : (old mid new : List ℕ) (f g h : ℕ) (a b : Pouring) (begin rest : List ℕ) → old ≡ []
    → Adds Going a (text_told old f) (text_told mid g) begin → Adds a b (text_told mid g) (text_told new h) rest
    → b ≡ Going → new ≡ begin ++ rest
put_behind old mid new f g h a b begin rest none first then went =
    text_poured old new f h b (begin ++ rest)
    (adds_both Going a b (text_told old f) (text_told mid g) (text_told new h) begin rest first then) none went
