-- The law of the grammar of replies.
use Rattle.std.specs.Prelude.{◌≡◌, ℕ, List, ◌++◌}
use Rattle.febe_data.specs.Plain.{PlainReply}
use Rattle.febe_reply.specs.ReplyGrammar.{SpellsReply}

-- no spelling begins another, and each spells one reply
abbrev pub OneReply : Type 0
OneReply = (a b x y : List ℕ) (r s : PlainReply) → SpellsReply a r → SpellsReply b s → a ++ x ≡ b ++ y → (a ≡ b) × (r ≡ s)
