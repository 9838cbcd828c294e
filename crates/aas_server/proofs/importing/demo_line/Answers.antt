use Rattle.std.proofs.Common.{◌≡◌, ◌∙◌, ℕ, ◌+◌, List, [], ◌++◌, codes, decimal, ap, arith}
use Rattle.std.proofs.lemmas.Grind.{common_steps}
use Rattle.aas_server.specs.Answer.{line}
use Rattle.aas_server.proofs.importing.demo_line.Goals as goal

lines : (a b c d e f g h count sum size n s k : List ℕ)
    → count ≡ n → sum ≡ s → size ≡ k → a ≡ [] → b ≡ a ++ codes "elements " → c ≡ b ++ count
    → d ≡ c ++ codes "\nsum " → e ≡ d ++ sum → f ≡ e ++ codes "\nbytes " → g ≡ f ++ size → h ≡ g ++ codes "\n"
    → h ≡ line (codes "elements " ++ n) ++ line (codes "sum " ++ s) ++ line (codes "bytes " ++ k)
lines a b c d e f g h count sum size n s k is_n is_s is_k at_a at_b at_c at_d at_e at_f at_g at_h =
    grind (arith, common_steps)

pub returns : goal.returns
returns c =
    lines c.new-line.result.bytes c.push_str.new.self.bytes c.push_str-2.new.self.bytes c.push_str-3.new.self.bytes
    c.push_str-4.new.self.bytes c.push_str-5.new.self.bytes c.push_str-6.new.self.bytes c.push_str-7.new.self.bytes
    c.format.result.now c.format-2.result.now c.format-3.result.now _ _ _
    c.format.ensures.text (c.format-2.ensures.text ∙ ap decimal c.sum_of.ensures)
    (c.format-3.ensures.text ∙ ap (λ size. decimal (size + 1)) c.requires.bytes)
    c.new-line.ensures c.push_str.ensures.bytes c.push_str-2.ensures.bytes
    c.push_str-3.ensures.bytes c.push_str-4.ensures.bytes
    c.push_str-5.ensures.bytes c.push_str-6.ensures.bytes c.push_str-7.ensures.bytes
