-- What reading a reply says.
use Rattle.std.specs.Prelude.{ℕ, ◌≤◌, List, length, take}
use Rattle.febe_data.specs.Plain.{PlainReply, plain_reply}
use Rattle.febe_fields.specs.Prefixes.{IsUnfinished, IsBadAt}
use Rattle.febe_reply.specs.declared.got.GotReply.{GotReply}
use Rattle.febe_reply.specs.declared.got.GotReply.TheVariants as got_answers
use Rattle.febe_reply.specs.ReplyGrammar.{SpellsReply, IsSpelledReply}

-- the first bytes, as many as were used, spell the reply
pub record IsReadReply (bytes : List ℕ) (reply : PlainReply) (used : ℕ) : Type 0 where
  pub within : used ≤ length bytes
  pub spells : SpellsReply (take used bytes) reply

-- What was got is so: a reply is spelled by the bytes that it used; more is wanted where the bytes are
-- a proper prefix of a reply; they are bad where they are no prefix of one and begin with none.
abbrev pub IsGotReply : List ℕ → GotReply → Type 0
IsGotReply bytes (got_answers.Reply reply used) = IsReadReply bytes (plain_reply reply) used
IsGotReply bytes got_answers.More = IsUnfinished IsSpelledReply bytes
IsGotReply bytes (got_answers.Bad at) = IsBadAt IsSpelledReply bytes at
