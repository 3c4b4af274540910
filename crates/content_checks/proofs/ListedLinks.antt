-- Which links are listed.
use Rattle.std.proofs.Common.{◌≡◌, ◌≢◌, ◌↔◌, ℕ, ◌+◌, ◌-◌, ◌<◌, Bool, true, false, IsTrue, List, [], ◌∷◌, length, map, get_or, refl, arith, ap, sym, subst, ◌∙◌, nat_cmp, nat_eq}
use Rattle.std.specs.List.{All, Contains}
use Rattle.std.specs.List.Sorted.{IsStrictlySortedBy, IsPartitionPoint}
use Rattle.std.specs.Cmp.Lexicographic.{slice_cmp, pointwise, same_text}
use Rattle.std.proofs.lemmas.List.{length-map, get_or-map, get_or_default}
use Rattle.std.proofs.lemmas.List.Elements.{All-get_or, All-from_get_or}
use Rattle.tumbler.specs.Places.{comes_before}
use Rattle.page_tables.specs.declared.tables.TableLink.{TableLink}
use Rattle.page_tables.specs.Plain.{plain_link}
use Rattle.poom.specs.declared.piece.Piece.{Piece}
use Rattle.poom.specs.Pieces.{IsPiece, address_in, piece_addresses}
use Rattle.poom.proofs.Back.{length-addresses}
use Rattle.content_checks.specs.Listed.{AreLinks, listed_ids}
use Rattle.content_checks.proofs.ListedBytes.{at_number}
use Rattle.content_checks.proofs.Tested.{same_itself}
use Rattle.content_checks.proofs.Sought.{absent}

abbrev pub id_of : TableLink → List ℕ
id_of link = link.id

pub same_ids : (links : List TableLink) → listed_ids (map plain_link links) ≡ map id_of links
same_ids [] = refl
same_ids (link ∷ links) = ap (λ (ids : List (List ℕ)). link.id ∷ ids) (same_ids links)

pub ascending : (links : List TableLink) → AreLinks (map plain_link links) → IsStrictlySortedBy (slice_cmp nat_cmp) (map id_of links)
ascending links are = subst (IsStrictlySortedBy (slice_cmp nat_cmp)) (same_ids links) are.ascend

-- ---- all links of a piece are listed where the last one is

module _ (links : List TableLink) (piece : Piece) (right : IsPiece piece) (are : AreLinks (map plain_link links)) where
  abbrev pub ids : List (List ℕ)
  ids = listed_ids (map plain_link links)

  abbrev pub end : List ℕ
  end = address_in 2 piece.document (piece.first + (piece.count - 1))

  pub last_there : All (Contains ids) (piece_addresses 2 piece) → Contains ids end
  last_there all =
      let filled = right.filled in
      let long = length-addresses 2 piece.document piece.first piece.count in
      let at = All-get_or (Contains ids) (piece_addresses 2 piece) (piece.count - 1) [] (omega arith) all in
      subst (Contains ids) (at_number 2 piece.document piece.first piece.count (piece.count - 1) [] (omega arith)) at

  pub all_there : Contains ids end → All (Contains ids) (piece_addresses 2 piece)
  all_there there =
      let one = right.from_one in
      let long = length-addresses 2 piece.document piece.first piece.count in
      All-from_get_or (Contains ids) (piece_addresses 2 piece) []
      (λ i lt.
      let within : i < piece.count = omega (arith, lt, long) in
      subst (Contains ids) (sym (at_number 2 piece.document piece.first piece.count i [] within))
      (are.numbered piece.document (piece.first + (piece.count - 1)) (piece.first + i) there (omega arith) (omega arith)))

  pub not_there : (at : ℕ) (last : List ℕ) → last ≡ end → IsPartitionPoint (λ link. comes_before link.id last ≡ true) (λ link. comes_before link.id last ≡ false) links at
      → ((d : TableLink) → at < length links → (get_or links at d).id ≢ last) → IsTrue false ↔ All (Contains ids) (piece_addresses 2 piece)
  not_there at last is point other = (
    λ never. absurd cc,
    λ all.
        let found = subst (λ (l : List (List ℕ)). Contains l end) (same_ids links) (last_there all) in
        let within : found.0 < length links = omega (arith, found.1, length-map links id_of) in
        let d = some_link links found.0 within in
        absurd (absent id_of links (ascending links are) last at point other found.0 d within (sym (get_or-map id_of links found.0 d end within) ∙ (found.2 ∙ sym is))),
  )
    where
      some_link : (links : List TableLink) (k : ℕ) → k < length links → TableLink
      some_link [] k lt = absurd (omega (arith, lt))
      some_link (link ∷ links) k lt = link

  pub is_there : (at : ℕ) (link : TableLink) (last : List ℕ) → last ≡ end → at < length links → link ≡ get_or links at link → link.id ≡ last → All (Contains ids) (piece_addresses 2 piece)
  is_there at link last is lt here own =
      all_there (subst (λ (l : List (List ℕ)). Contains l end) (sym (same_ids links))
      (at, omega (arith, lt, length-map links id_of), get_or-map id_of links at link end lt ∙ (ap id_of (sym here) ∙ (own ∙ is))))

  pub there_or_not : (at : ℕ) (link : TableLink) (last : List ℕ) (b : Bool) → last ≡ end → IsPartitionPoint (λ link. comes_before link.id last ≡ true) (λ link. comes_before link.id last ≡ false) links at
      → at < length links → link ≡ get_or links at link → b ≡ pointwise nat_eq link.id last → IsTrue b ↔ All (Contains ids) (piece_addresses 2 piece)
  there_or_not at link last true is point lt here test = (λ yes. is_there at link last is lt here (same_text link.id last test), λ all. refl)
  there_or_not at link last false is point lt here test =
      not_there at last is point
      (λ d within same.
      let one : link.id ≡ last = ap id_of (here ∙ get_or_default links at link d lt) ∙ same in
      let both : pointwise nat_eq link.id last ≡ true = ap (pointwise nat_eq link.id) (sym one) ∙ same_itself link.id in
      absurd (let other : false ≡ true = test ∙ both in cc))
