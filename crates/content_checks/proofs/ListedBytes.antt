-- Which bytes are listed.
use Rattle.std.proofs.Common.{◌≡◌, ◌≢◌, ◌↔◌, ℕ, zero, suc, ◌+◌, ◌-◌, ◌<◌, ◌≤◌, true, false, IsTrue, nat_le, List, [], ◌∷◌, length, get_or, refl, arith, ap, sym, subst, ◌∙◌, inl, inr}
use Rattle.std.specs.List.{All, Contains}
use Rattle.std.specs.List.Sorted.{IsPartitionPoint}
use Rattle.std.proofs.lemmas.List.{get_or_default}
use Rattle.std.proofs.lemmas.List.Elements.{All-get_or, All-from_get_or, Contains-append_left, Contains-append_right, Contains-append_cases}
use Rattle.std.proofs.lemmas.Bool.Decides.{nat_tests}
use Rattle.tumbler.specs.Places.{comes_before}
use Rattle.page_tables.specs.declared.tables.TableDocument.{TableDocument}
use Rattle.poom.specs.declared.piece.Piece.{Piece}
use Rattle.poom.specs.Pieces.{IsPiece, address_in, addresses_from, piece_addresses}
use Rattle.poom.proofs.Back.{length-addresses}
use Rattle.content_checks.specs.Listed.{AreDocuments, bytes_of, listed_bytes}
use Rattle.content_checks.proofs.DocumentBytes.{one_address}
use Rattle.content_checks.proofs.Sought.{one_place, absent}

-- ---- among addresses that follow each other

pub at_number : (part : ℕ) (document : List ℕ) (first count k : ℕ) (d : List ℕ) → k < count → get_or (addresses_from part document first count) k d ≡ address_in part document (first + k)
at_number part document first zero k d lt = absurd (omega (arith, lt))
at_number part document first (suc count) zero d lt = let at : first ≡ first + 0 = omega arith in ap (address_in part document) at
at_number part document first (suc count) (suc k) d lt =
    let at : (first + 1) + k ≡ first + suc k = omega arith in
    at_number part document (first + 1) count k d (omega (arith, lt)) ∙ ap (address_in part document) at

-- the number of an address among them
pub record IsNumber (part : ℕ) (document : List ℕ) (first count : ℕ) (address : List ℕ) : Type 0 where
  pub offset : ℕ
  pub within : offset < count
  pub is : address ≡ address_in part document (first + offset)

number_there : (part : ℕ) (document : List ℕ) (first count : ℕ) (address : List ℕ) → Contains (addresses_from part document first count) address → IsNumber part document first count address
number_there part document first count address there =
    let lt : there.0 < count = let long = length-addresses part document first count in let within = there.1 in omega arith in
    record { offset = there.0; within = lt; is = sym there.2 ∙ at_number part document first count there.0 address lt }

there_is : (part : ℕ) (document : List ℕ) (first count k : ℕ) → k < count → Contains (addresses_from part document first count) (address_in part document (first + k))
there_is part document first count k lt =
    let long = length-addresses part document first count in
    (k, omega arith, at_number part document first count k (address_in part document (first + k)) lt)

-- ---- a document has a byte of this number

pub record HasNumber (documents : List TableDocument) (document : List ℕ) (n : ℕ) : Type 0 where
  pub k : ℕ
  pub row : TableDocument
  pub there : k < length documents
  pub is : get_or documents k row ≡ row
  pub own : row.document ≡ document
  pub from_one : 1 ≤ n
  pub upto : n ≤ row.content

behind_first : (first : TableDocument) (documents : List TableDocument) (document : List ℕ) (n : ℕ) → HasNumber documents document n → HasNumber (first ∷ documents) document n
behind_first first documents document n has = record { k = suc has.k; row = has.row; there = let lt = has.there in omega arith; is = has.is; own = has.own; from_one = has.from_one; upto = has.upto }

number_listed : (documents : List TableDocument) (document : List ℕ) (n : ℕ) → Contains (listed_bytes documents) (address_in 1 document n) → HasNumber documents document n
number_listed [] document n there = absurd (omega (arith, there.1))
number_listed (row ∷ documents) document n there = elim (Contains-append_cases (bytes_of row) (listed_bytes documents) (address_in 1 document n) there) [
  | inl own ↦
      let number = number_there 1 row.document 1 row.content (address_in 1 document n) own in
      let same = one_address 1 1 n (1 + number.offset) document row.document number.is in
      let within = number.within in
      let is = same.2 in
      record { k = 0; row = row; there = omega arith; is = refl; own = sym same.0; from_one = omega arith; upto = omega arith }
  | inr others ↦ behind_first row documents document n (number_listed documents document n others)
]

listed_at : (documents : List TableDocument) (k : ℕ) (row : TableDocument) (n : ℕ) → k < length documents → get_or documents k row ≡ row → 1 ≤ n → n ≤ row.content → Contains (listed_bytes documents) (address_in 1 row.document n)
listed_at [] k row n lt at one upto = absurd (omega (arith, lt))
listed_at (r ∷ documents) zero row n lt at one upto =
    let number : 1 + (n - 1) ≡ n = omega arith in
    let here = subst (λ (d : TableDocument). Contains (bytes_of d) (address_in 1 row.document (1 + (n - 1)))) (sym at) (there_is 1 row.document 1 row.content (n - 1) (omega arith)) in
    Contains-append_left (bytes_of r) (listed_bytes documents) (address_in 1 row.document n) (subst (λ (m : ℕ). Contains (bytes_of r) (address_in 1 row.document m)) number here)
listed_at (r ∷ documents) (suc k) row n lt at one upto = Contains-append_right (bytes_of r) (listed_bytes documents) (address_in 1 row.document n) (listed_at documents k row n (omega (arith, lt)) at one upto)

pub listed_number : (documents : List TableDocument) (document : List ℕ) (n : ℕ) → HasNumber documents document n → Contains (listed_bytes documents) (address_in 1 document n)
listed_number documents document n has = subst (λ (d : List ℕ). Contains (listed_bytes documents) (address_in 1 d n)) has.own (listed_at documents has.k has.row n has.there has.is has.from_one has.upto)

-- ---- all bytes of a piece are listed where the last one is

module _ (documents : List TableDocument) (piece : Piece) (right : IsPiece piece) where
  pub last_listed : All (Contains (listed_bytes documents)) (piece_addresses 1 piece) → HasNumber documents piece.document (piece.first + (piece.count - 1))
  last_listed all =
      let filled = right.filled in
      let long = length-addresses 1 piece.document piece.first piece.count in
      let at = All-get_or (Contains (listed_bytes documents)) (piece_addresses 1 piece) (piece.count - 1) [] (omega arith) all in
      number_listed documents piece.document (piece.first + (piece.count - 1)) (subst (Contains (listed_bytes documents)) (at_number 1 piece.document piece.first piece.count (piece.count - 1) [] (omega arith)) at)

  pub all_listed : HasNumber documents piece.document (piece.first + (piece.count - 1)) → All (Contains (listed_bytes documents)) (piece_addresses 1 piece)
  all_listed has =
      let one = right.from_one in
      let upto = has.upto in
      let long = length-addresses 1 piece.document piece.first piece.count in
      All-from_get_or (Contains (listed_bytes documents)) (piece_addresses 1 piece) []
      (λ i lt.
      let within : i < piece.count = omega (arith, lt, long) in
      let number : HasNumber documents piece.document (piece.first + i) = record { k = has.k; row = has.row; there = has.there; is = has.is; own = has.own; from_one = omega arith; upto = omega arith } in
      subst (Contains (listed_bytes documents)) (sym (at_number 1 piece.document piece.first piece.count i [] within)) (listed_number documents piece.document (piece.first + i) number))

  -- the document is not listed
  pub not_listed : (at : ℕ) → AreDocuments documents → IsPartitionPoint (λ row. comes_before row.document piece.document ≡ true) (λ row. comes_before row.document piece.document ≡ false) documents at
      → ((d : TableDocument) → at < length documents → (get_or documents at d).document ≢ piece.document) → IsTrue false ↔ All (Contains (listed_bytes documents)) (piece_addresses 1 piece)
  not_listed at are point other = (
    λ never. absurd cc,
    λ all.
        let has = last_listed all in
        absurd (absent (λ (row : TableDocument). row.document) documents are.ascend piece.document at point other has.k has.row has.there (ap (λ (row : TableDocument). row.document) has.is ∙ has.own)),
  )

  -- it is, and has so many bytes
  pub is_listed : (at : ℕ) (row : TableDocument) → AreDocuments documents → at < length documents → row ≡ get_or documents at row → row.document ≡ piece.document
      → IsTrue (nat_le (piece.first + (piece.count - 1)) row.content) ↔ All (Contains (listed_bytes documents)) (piece_addresses 1 piece)
  is_listed at row are lt is own = (
    λ yes.
        let one = right.from_one in
        all_listed (record { k = at; row = row; there = lt; is = sym is; own = own; from_one = omega arith; upto = le_is (piece.first + (piece.count - 1)) row.content yes }),
    λ all.
        let has = last_listed all in
        let here = ap (λ (r : TableDocument). r.document) (get_or_default documents at has.row row lt ∙ sym is) ∙ own in
        let same = one_place (λ (r : TableDocument). r.document) documents are.ascend has.k at has.row piece.document has.there lt (ap (λ (r : TableDocument). r.document) has.is ∙ has.own) here in
        let one = sym has.is ∙ (ap (λ (j : ℕ). get_or documents j has.row) same ∙ (get_or_default documents at has.row row lt ∙ sym is)) in
        le_true (piece.first + (piece.count - 1)) row.content (subst (λ (r : TableDocument). piece.first + (piece.count - 1) ≤ r.content) one has.upto),
  )
    where
      le_is : (a b : ℕ) → nat_le a b ≡ true → a ≤ b
      le_is a b e = grind (arith, nat_tests)

      le_true : (a b : ℕ) → a ≤ b → nat_le a b ≡ true
      le_true a b e = grind (arith, nat_tests)
