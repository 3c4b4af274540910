-- What the laws say of one world.
use Rattle.std.proofs.Common.{◌≡◌, ℕ, List, map, refl, sym, subst}
use Rattle.std.specs.Prelude.{filter, IsTrue}
use Rattle.std.specs.List.{All, list_any}
use Rattle.febe_data.specs.Plain.{PlainEntry}
use Rattle.world_rules.specs.declared.rows.Row.{Row}
use Rattle.world_rules.specs.declared.rows.ByteRow.{ByteRow}
use Rattle.world_rules.specs.World.{World, LinkRow, is_same, has_document, link_address, links_made_in}
use Rattle.world_rules.specs.Laws.{numbers_from, text_rows, link_rows}
use Rattle.world_elders.specs.Whole.{HasElders, IsByteThere, IsLinkThere}

-- elders and homes are there, links are numbered, and bytes and links that are shown are in the lists
pub record IsKept (world : World) : Type 0 where
  pub elders : HasElders world
  pub homes : All (λ (link : LinkRow). IsTrue (has_document world link.home)) world.links
  pub numbered : (home : List ℕ) → map (λ (link : LinkRow). link.id) (filter (λ (link : LinkRow). is_same link.home home) world.links) ≡ map (link_address home) (numbers_from 1 (links_made_in world home))
  pub owned : All (λ (b : ByteRow). IsByteThere world b.address) world.bytes
  pub bytes : (address : List ℕ) → IsByteThere world address → IsTrue (list_any (λ (b : ByteRow). is_same b.address address) world.bytes)
  pub shown : (document : List ℕ) → All (λ (row : Row). IsByteThere world row.address) (text_rows world document)
  pub named : (document : List ℕ) → All (λ (row : Row). IsLinkThere world row.address) (link_rows world document)
  pub links : (address : List ℕ) → IsLinkThere world address → IsTrue (list_any (λ (link : LinkRow). is_same link.id address) world.links)
