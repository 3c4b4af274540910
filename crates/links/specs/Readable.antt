-- Which links may be read: those whose home passes a test.
use Rattle.std.specs.Prelude.{ℕ, Bool, false, List, filter, Option, Some, None}
use Rattle.world_rules.specs.World.{LinkRow}
use Rattle.links.specs.LinkLists.{link_in}

-- the links whose home may be read
abbrev pub links_read : (List ℕ → Bool) → List LinkRow → List LinkRow
links_read may links = filter (λ (link : LinkRow). may link.home) links

-- there is a link, and its home may be read
abbrev pub is_read : (List ℕ → Bool) → Option LinkRow → Bool
is_read may None = false
is_read may (Some link) = may link.home

-- of these ids, those of such links
abbrev pub ids_read : (List ℕ → Bool) → List LinkRow → List (List ℕ) → List (List ℕ)
ids_read may links ids = filter (λ id. is_read may (link_in links id)) ids
