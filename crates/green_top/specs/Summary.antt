-- The summary of a generated session.
use Rattle.std.specs.Prelude.{ℕ, ◌+◌, ◌*◌, ◌%◌, ◌^◌, Bool, false, true, List, ◌++◌, length, map, count_by, codes, decimal}
use Rattle.std.specs.List.{fold, flat_map}
use Rattle.febe_data.specs.Plain.{PlainReply, refused}
use Rattle.febe_reply.specs.ReplyGrammar.{spell_reply}
use Rattle.world_rules.specs.World.{World}
use Rattle.world_rules.specs.Legal.{Exchange}

-- a line: a name, a space, a number in decimal, and a newline
abbrev pub summary_line : (name : List ℕ) (number : ℕ) → List ℕ
summary_line name number = name ++ codes " " ++ decimal number ++ codes "\n"

-- the seven lines: what the generator started from, how many requests it made, how many of them were refused, how many
-- documents, content bytes and links the world has afterwards, and the sum of the replies
abbrev pub summary_lines : (start refusals documents bytes links replies : ℕ) → List ℕ
summary_lines start refusals documents bytes links replies =
    summary_line (codes "start") start
    ++ summary_line (codes "requests") 2010
    ++ summary_line (codes "refused") refusals
    ++ summary_line (codes "documents") documents
    ++ summary_line (codes "bytes") bytes
    ++ summary_line (codes "links") links
    ++ summary_line (codes "replies") replies

-- the reply is a refusal
abbrev pub is_refusal : PlainReply → Bool
is_refusal (refused refusal) = true
is_refusal other = false

-- how many of the replies are refusals
abbrev pub refusals_in : List PlainReply → ℕ
refusals_in replies = count_by is_refusal replies

-- one byte more makes a sum 31 times as great, and that byte more, in 64 bits
abbrev pub sum_after : (sum byte : ℕ) → ℕ
sum_after sum byte = (sum * 31 + byte) % 2 ^ 64

-- the sum of bytes, which is 0 where there is none
abbrev pub replies_sum : List ℕ → ℕ
replies_sum bytes = fold sum_after 0 bytes

-- the replies of exchanges
abbrev pub replies_of : List Exchange → List PlainReply
replies_of exchanges = map (λ (e : Exchange). e.reply) exchanges

-- the summary of a session that was generated from this start, had these replies and left this world
abbrev pub summary_of : (start : ℕ) → List PlainReply → World → List ℕ
summary_of start replies world =
    summary_lines start (refusals_in replies) (length world.documents) (length world.bytes) (length world.links) (replies_sum (flat_map spell_reply replies))
