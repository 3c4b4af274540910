-- The bytes of documents, one document after another.
use Rattle.std.proofs.Common.{◌≡◌, ◌≢◌, ◌↔◌, ℕ, zero, suc, ◌+◌, ◌<◌, ◌≤◌, Bool, false, IsTrue, eqb, List, [], ◌∷◌, ◌++◌, length, drop, get_or, Less, refl, arith, ap, sym, subst, ◌∙◌, append_assoc, drop-cons, add-one, nat_cmp, eq-eqb}
use Rattle.std.specs.List.{All}
use Rattle.std.specs.List.Sorted.{IsStrictlySortedBy}
use Rattle.std.specs.Ordering.{ordering_reverse}
use Rattle.std.specs.Cmp.Lexicographic.{slice_cmp, nat_list_cmp_total}
use Rattle.std.proofs.lemmas.Map.Keys.{sorted_tail}
use Rattle.std.proofs.lemmas.Map.Views.{All-after_first}
use Rattle.std.proofs.lemmas.List.{same_from_push, drop_all}
use Rattle.std.proofs.lemmas.List.Elements.{All-nil, All-head, All-tail, All-weaker, All-get_or}
use Rattle.tumbler.specs.Address.{IsDocument}
use Rattle.tumbler.proofs.Alls.{All-unmapped}
use Rattle.granfilade.specs.Puts.{IsLeaf}
use Rattle.page_tables.specs.declared.tables.TableDocument.{TableDocument}
use Rattle.poom.specs.Pieces.{address_in, addresses_from}
use Rattle.content_checks.specs.Listed.{AreDocuments, bytes_of, listed_bytes, listed_documents}
use Rattle.content_checks.specs.Sound.{byte_addresses}
use Rattle.content_checks.specs.inside.Steps.{HaveBytes, BeginsElsewhere, HaveInFront, HaveNotInFront}
use Rattle.content_checks.proofs.ByteRows.{ByteRow, rows_addresses}
use Rattle.content_checks.proofs.Tested.{nothing_there}

-- ---- an address is of one document

pub three : (part n : ℕ) (document : List ℕ) → address_in part document n ≡ ((document ++ 0 ∷ []) ++ part ∷ []) ++ n ∷ []
three part n document = sym (append_assoc (document ++ 0 ∷ []) (part ∷ []) (n ∷ []) ∙ append_assoc document (0 ∷ []) (part ∷ n ∷ []))

pub one_address : (part other n m : ℕ) (document of : List ℕ) → address_in part document n ≡ address_in other of m → (document ≡ of) × (part ≡ other) × (n ≡ m)
one_address part other n m document of e =
    let last = same_from_push ((document ++ 0 ∷ []) ++ part ∷ []) ((of ++ 0 ∷ []) ++ other ∷ []) n m (sym (three part n document) ∙ (e ∙ three other m of)) in
    let middle = same_from_push (document ++ 0 ∷ []) (of ++ 0 ∷ []) part other last.0 in
    let front = same_from_push document of 0 0 middle.0 in
    (front.0, middle.1, last.1)

-- ---- documents behind one are others

pub never_before_itself : (a b : List ℕ) → slice_cmp nat_cmp a b ≡ Less → b ≢ a
never_before_itself a b less same =
    let at : slice_cmp nat_cmp a a ≡ Less = subst (λ (x : List ℕ). slice_cmp nat_cmp a x ≡ Less) same less in
    let turned : slice_cmp nat_cmp a a ≡ ordering_reverse (slice_cmp nat_cmp a a) = nat_list_cmp_total.antisymm a a in
    let both : Less ≡ ordering_reverse Less = sym at ∙ (turned ∙ ap ordering_reverse at) in
    cc

pub others_behind : (documents : List TableDocument) (i : ℕ) (item : TableDocument) → IsStrictlySortedBy (slice_cmp nat_cmp) (listed_documents documents) → i < length documents → item ≡ get_or documents i item
    → All (λ (row : TableDocument). row.document ≢ item.document) (drop (suc i) documents)
others_behind [] i item sorted lt at = absurd (omega (arith, lt))
others_behind (r ∷ documents) zero item sorted lt at =
    let after = All-unmapped (λ (q : List ℕ). slice_cmp nat_cmp r.document q ≡ Less) (λ (row : TableDocument). row.document) documents (All-after_first (slice_cmp nat_cmp) r.document (listed_documents documents) sorted) in
    All-weaker (λ (row : TableDocument). slice_cmp nat_cmp r.document row.document ≡ Less) (λ (row : TableDocument). row.document ≢ item.document)
    (λ row less same. never_before_itself r.document row.document less (same ∙ ap (λ (row : TableDocument). row.document) at)) documents after
others_behind (r ∷ documents) (suc i) item sorted lt at = others_behind documents i item (sorted_tail (slice_cmp nat_cmp) r.document (listed_documents documents) sorted) (omega (arith, lt)) at

begins_with : (document of : List ℕ) (count n : ℕ) (back rest : List (List ℕ)) → of ≢ document → (back ≢ address_in 1 document n ∷ rest) → addresses_from 1 of 1 count ++ back ≢ address_in 1 document n ∷ rest
begins_with document of zero n back rest other none e = none e
begins_with document of (suc count) n back rest other none e =
    let head : address_in 1 of 1 ≡ address_in 1 document n = cc in
    other (one_address 1 1 1 n of document head).0

elsewhere : (document : List ℕ) (documents : List TableDocument) → All (λ (row : TableDocument). row.document ≢ document) documents → BeginsElsewhere document (listed_bytes documents)
elsewhere document [] all n rest e = cc
elsewhere document (row ∷ documents) all n rest e =
    begins_with document row.document row.content n (listed_bytes documents) rest (All-head (λ (row : TableDocument). row.document ≢ document) row documents all)
    (elsewhere document documents (All-tail (λ (row : TableDocument). row.document ≢ document) row documents all) n rest) e

-- ---- gone through

pub is_document : (documents : List TableDocument) (i : ℕ) (item : TableDocument) → AreDocuments documents → i < length documents → item ≡ get_or documents i item → IsDocument item.document
is_document documents i item are lt at = subst (λ (row : TableDocument). IsDocument row.document) (sym at) (All-get_or (λ (row : TableDocument). IsDocument row.document) documents i item lt are.addresses)

rest_listed : (documents : List TableDocument) (i : ℕ) (item : TableDocument) → i < length documents → item ≡ get_or documents i item → listed_bytes (drop i documents) ≡ bytes_of item ++ listed_bytes (drop (i + 1) documents)
rest_listed documents i item lt at =
    let here : drop i documents ≡ item ∷ drop (suc i) documents = drop-cons documents i item lt ∙ ap (λ (d : TableDocument). d ∷ drop (suc i) documents) (sym at) in
    ap listed_bytes here ∙ ap (λ (k : ℕ). bytes_of item ++ listed_bytes (drop k documents)) (sym (add-one i))

pub behind_one : (documents : List TableDocument) (i : ℕ) (item : TableDocument) (rows rest behind : List ByteRow) → i < length documents → item ≡ get_or documents i item
    → HaveBytes rows (listed_bytes documents) ↔ HaveBytes rest (listed_bytes (drop i documents)) → HaveInFront (bytes_of item) rest behind
    → HaveBytes rows (listed_bytes documents) ↔ HaveBytes behind (listed_bytes (drop (i + 1) documents))
behind_one documents i item rows rest behind lt at so_far has =
    let more = listed_bytes (drop (i + 1) documents) in
    let is = rest_listed documents i item lt at in
    let step = has more in
    (λ have. step.0 (subst (HaveBytes rest) is (so_far.0 have)), λ have. so_far.1 (subst (HaveBytes rest) (sym is) (step.1 have)))

pub not_there : (documents : List TableDocument) (i : ℕ) (item : TableDocument) (rows rest : List ByteRow) → AreDocuments documents → i < length documents → item ≡ get_or documents i item
    → HaveBytes rows (listed_bytes documents) ↔ HaveBytes rest (listed_bytes (drop i documents)) → HaveNotInFront item rest → IsTrue false ↔ HaveBytes rows (listed_bytes documents)
not_there documents i item rows rest are lt at so_far none =
    let others = elsewhere item.document (drop (i + 1) documents) (subst (λ (k : ℕ). All (λ (row : TableDocument). row.document ≢ item.document) (drop k documents)) (sym (add-one i)) (others_behind documents i item are.ascend lt at)) in
    (λ never. absurd cc, λ have. absurd (none (listed_bytes (drop (i + 1) documents)) others (subst (HaveBytes rest) (rest_listed documents i item lt at) (so_far.0 have))))

nothing_left : (rest : List ByteRow) → HaveBytes rest [] → rest ≡ []
nothing_left [] have = refl
nothing_left (row ∷ rest) have =
    let leaf = All-head IsLeaf row rest have.leaves in
    absurd (begun leaf.document leaf.address.number (length row.leaf.items) (byte_addresses rest) leaf.filled (sym (rows_addresses leaf.document leaf.address.number row rest leaf.address.parts) ∙ have.are))
  where
    begun : (document : List ℕ) (n count : ℕ) (back : List (List ℕ)) → 0 < count → addresses_from 1 document n count ++ back ≡ [] → ⊥
    begun document n zero back some e = omega (arith, some)
    begun document n (suc count) back some e = cc

none_left : HaveBytes [] []
none_left = record { leaves = All-nil IsLeaf; are = refl }

pub at_end : (documents : List TableDocument) (i : ℕ) (rows rest : List ByteRow) (b : Bool) → length documents ≤ i → b ≡ eqb (length rest) 0
    → HaveBytes rows (listed_bytes documents) ↔ HaveBytes rest (listed_bytes (drop i documents)) → IsTrue b ↔ HaveBytes rows (listed_bytes documents)
at_end documents i rows rest b le is so_far =
    let none : listed_bytes (drop i documents) ≡ [] = ap listed_bytes (drop_all i documents le) in (
      λ yes. so_far.1 (subst (λ (r : List ByteRow). HaveBytes r (listed_bytes (drop i documents))) (sym (nothing_there rest (sym is ∙ yes))) (subst (HaveBytes []) (sym none) none_left)),
      λ have. is ∙ eq-eqb (length rest) 0 (ap length (nothing_left rest (subst (HaveBytes rest) none (so_far.0 have)))),
    )
