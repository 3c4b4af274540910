-- Rows that have the bytes of documents, one after another.
use Rattle.std.proofs.Common.{◌≡◌, ◌↔◌, ℕ, zero, suc, ◌+◌, ◌-◌, ◌<◌, ◌≤◌, List, [], ◌∷◌, ◌++◌, length, map, refl, arith, ap, sym, subst, ◌∙◌, append_assoc, inl, inr}
use Rattle.std.proofs.lemmas.Bool.{cases_lt}
use Rattle.std.proofs.lemmas.List.{map-append, append_cancel_left}
use Rattle.std.proofs.lemmas.List.Elements.{All-cons, All-head, All-tail}
use Rattle.tumbler.specs.ListView.{ListView}
use Rattle.tumbler.specs.Address.{IsDocument}
use Rattle.enfilade_core.specs.declared.tree.Row.{Row}
use Rattle.granfilade.specs.Content.{ByteAt, so_far_on, laid_from, laid_row, laid_out}
use Rattle.granfilade.specs.Puts.{IsLeaf}
use Rattle.granfilade.proofs.Documents.{step-last}
use Rattle.page_tables.specs.declared.tables.TableDocument.{TableDocument}
use Rattle.poom.specs.Pieces.{address_in, addresses_from}
use Rattle.content_checks.specs.Listed.{bytes_of}
use Rattle.content_checks.specs.Sound.{byte_addresses}
use Rattle.content_checks.specs.inside.Steps.{HaveBytes, HasNext, BeginsElsewhere, HaveInFront, HaveNotInFront}

abbrev pub ByteRow : Type 0
ByteRow = Row (ListView ℕ)

-- ---- addresses one after another

pub addresses-append : (part : ℕ) (document : List ℕ) (n a b c : ℕ) → c ≡ a + b → addresses_from part document n c ≡ addresses_from part document n a ++ addresses_from part document (n + a) b
addresses-append part document n zero b c e =
    let same : c ≡ b = omega (arith, e) in
    let at : n ≡ n + 0 = omega arith in
    ap (addresses_from part document n) same ∙ ap (λ (m : ℕ). addresses_from part document m b) at
addresses-append part document n (suc a) b zero e = absurd (omega (arith, e))
addresses-append part document n (suc a) b (suc c) e =
    let less : c ≡ a + b = omega (arith, e) in
    let at : (n + 1) + a ≡ n + suc a = omega arith in
    ap (λ (rest : List (List ℕ)). address_in part document n ∷ rest)
    (addresses-append part document (n + 1) a b c less ∙ ap (λ (m : ℕ). addresses_from part document (n + 1) a ++ addresses_from part document m b) at)

pub step_address : (document : List ℕ) (n k : ℕ) → so_far_on (address_in 1 document n) k ≡ address_in 1 document (n + k)
step_address document n k =
    ap (λ (a : List ℕ). so_far_on a k) (sym (append_assoc document (0 ∷ 1 ∷ []) (n ∷ [])))
    ∙ (step-last (document ++ 0 ∷ 1 ∷ []) n k ∙ append_assoc document (0 ∷ 1 ∷ []) ((n + k) ∷ []))

-- the bytes of a row, from one of them on
laid_addresses : (document start : List ℕ) (n k : ℕ) (bytes : List ℕ) → start ≡ address_in 1 document n → map (λ (at : ByteAt). at.address) (laid_from start k bytes) ≡ addresses_from 1 document (n + k) (length bytes)
laid_addresses document start n k [] e = refl
laid_addresses document start n k (byte ∷ bytes) e =
    let at : n + (k + 1) ≡ (n + k) + 1 = omega arith in
    let here : so_far_on start k ≡ address_in 1 document (n + k) = ap (λ (a : List ℕ). so_far_on a k) e ∙ step_address document n k in
    ap (λ (a : List ℕ). a ∷ map (λ (at : ByteAt). at.address) (laid_from start (k + 1) bytes)) here
    ∙ ap (λ (rest : List (List ℕ)). address_in 1 document (n + k) ∷ rest) (laid_addresses document start n (k + 1) bytes e ∙ ap (λ (m : ℕ). addresses_from 1 document m (length bytes)) at)

pub row_addresses : (document : List ℕ) (n : ℕ) (row : ByteRow) → row.first ≡ address_in 1 document n → map (λ (at : ByteAt). at.address) (laid_row row) ≡ addresses_from 1 document n (length row.leaf.items)
row_addresses document n row e =
    let at : n + 0 ≡ n = omega arith in
    laid_addresses document row.first n 0 row.leaf.items e ∙ ap (λ (m : ℕ). addresses_from 1 document m (length row.leaf.items)) at

-- the bytes of rows: those of the first, and then the others'
pub rows_addresses : (document : List ℕ) (n : ℕ) (row : ByteRow) (rows : List ByteRow) → row.first ≡ address_in 1 document n
    → byte_addresses (row ∷ rows) ≡ addresses_from 1 document n (length row.leaf.items) ++ byte_addresses rows
rows_addresses document n row rows e =
    map-append (λ (at : ByteAt). at.address) (laid_row row) (laid_out rows)
    ∙ ap (λ (front : List (List ℕ)). front ++ byte_addresses rows) (row_addresses document n row e)

-- ---- a row that has a document's next bytes

module _ (document : TableDocument) (done now : ℕ) (row : ByteRow) (rows : List ByteRow) (more : List (List ℕ)) (has : HasNext document done row now) where
  parted : addresses_from 1 document.document (done + 1) (document.content - done) ++ more
      ≡ addresses_from 1 document.document (done + 1) (length row.leaf.items) ++ (addresses_from 1 document.document (now + 1) (document.content - now) ++ more)
  parted =
      let now_is = has.now_is in
      let fits = has.fits in
      let whole : document.content - done ≡ length row.leaf.items + (document.content - now) = omega arith in
      let at : (done + 1) + length row.leaf.items ≡ now + 1 = omega arith in
      ap (λ (front : List (List ℕ)). front ++ more)
      (addresses-append 1 document.document (done + 1) (length row.leaf.items) (document.content - now) (document.content - done) whole
      ∙ ap (λ (m : ℕ). addresses_from 1 document.document (done + 1) (length row.leaf.items) ++ addresses_from 1 document.document m (document.content - now)) at)
      ∙ append_assoc (addresses_from 1 document.document (done + 1) (length row.leaf.items)) (addresses_from 1 document.document (now + 1) (document.content - now)) more

  pub next_leaf : IsDocument document.document → IsLeaf row
  next_leaf is = record {
    document = document.document;
    address = record { number = done + 1; parts = has.first; counted = omega arith; document_address = is };
    second = has.second;
    filled = has.filled;
    short = has.short;
  }

  pub next_row : IsDocument document.document
      → HaveBytes (row ∷ rows) (addresses_from 1 document.document (done + 1) (document.content - done) ++ more) ↔ HaveBytes rows (addresses_from 1 document.document (now + 1) (document.content - now) ++ more)
  next_row is =
      let front = addresses_from 1 document.document (done + 1) (length row.leaf.items) in
      let back = addresses_from 1 document.document (now + 1) (document.content - now) ++ more in
      let here = rows_addresses document.document (done + 1) row rows has.first in (
        λ (h : HaveBytes (row ∷ rows) (addresses_from 1 document.document (done + 1) (document.content - done) ++ more)). record {
          leaves = All-tail IsLeaf row rows h.leaves;
          are = append_cancel_left front (byte_addresses rows) back (sym here ∙ (h.are ∙ parted));
        },
        λ (h : HaveBytes rows back). record {
          leaves = All-cons IsLeaf row rows (next_leaf is) h.leaves;
          are = here ∙ (ap (λ (b : List (List ℕ)). front ++ b) h.are ∙ sym parted);
        },
      )

-- ---- only such a row may stand there

some_left : (document : List ℕ) (n count : ℕ) → 0 < count → addresses_from 1 document n count ≡ address_in 1 document n ∷ addresses_from 1 document (n + 1) (count - 1)
some_left document n zero h = absurd (omega (arith, h))
some_left document n (suc count) h = let same : count ≡ suc count - 1 = omega arith in ap (λ (m : ℕ). address_in 1 document n ∷ addresses_from 1 document (n + 1) m) same

heads : {X : Type 0} (x y : X) (xs ys : List X) → x ∷ xs ≡ y ∷ ys → x ≡ y
heads x y xs ys e = cc

module _ (document : TableDocument) (done : ℕ) (row : ByteRow) (rows : List ByteRow) (more : List (List ℕ)) (less : done < document.content) (elsewhere : BeginsElsewhere document.document more)
    (have : HaveBytes (row ∷ rows) (addresses_from 1 document.document (done + 1) (document.content - done) ++ more)) where
  leaf : IsLeaf row
  leaf = All-head IsLeaf row rows have.leaves

  only_first : row.first ≡ address_in 1 document.document (done + 1)
  only_first =
      let n = leaf.address.number in
      let count = length row.leaf.items in
      let filled = leaf.filled in
      let own = rows_addresses leaf.document n row rows leaf.address.parts ∙ ap (λ (front : List (List ℕ)). front ++ byte_addresses rows) (some_left leaf.document n count filled) in
      let wanted = ap (λ (front : List (List ℕ)). front ++ more) (some_left document.document (done + 1) (document.content - done) (omega arith)) in
      leaf.address.parts
      ∙ heads (address_in 1 leaf.document n) (address_in 1 document.document (done + 1)) (addresses_from 1 leaf.document (n + 1) (count - 1) ++ byte_addresses rows) (addresses_from 1 document.document (done + 1 + 1) (document.content - done - 1) ++ more)
      (sym own ∙ (have.are ∙ wanted))

  too_many : document.content < done + length row.leaf.items → ⊥
  too_many past =
      let count = length row.leaf.items in
      let wanted = document.content - done in
      let whole : count ≡ wanted + (count - wanted) = omega arith in
      let at : (done + 1) + wanted ≡ document.content + 1 = omega arith in
      let front = addresses_from 1 document.document (done + 1) wanted in
      let over = addresses_from 1 document.document (document.content + 1) (count - wanted) in
      let parts : addresses_from 1 document.document (done + 1) count ≡ front ++ over =
      addresses-append 1 document.document (done + 1) wanted (count - wanted) count whole ∙ ap (λ (m : ℕ). front ++ addresses_from 1 document.document m (count - wanted)) at in
      let own : byte_addresses (row ∷ rows) ≡ front ++ (over ++ byte_addresses rows) =
      rows_addresses document.document (done + 1) row rows only_first ∙ (ap (λ (a : List (List ℕ)). a ++ byte_addresses rows) parts ∙ append_assoc front over (byte_addresses rows)) in
      let rest : over ++ byte_addresses rows ≡ more = append_cancel_left front (over ++ byte_addresses rows) more (sym own ∙ have.are) in
      let begins = ap (λ (a : List (List ℕ)). a ++ byte_addresses rows) (some_left document.document (document.content + 1) (count - wanted) (omega arith)) in
      elsewhere (document.content + 1) (addresses_from 1 document.document (document.content + 1 + 1) (count - wanted - 1) ++ byte_addresses rows) (sym rest ∙ begins)

  pub only_next : HasNext document done row (done + length row.leaf.items)
  only_next = record {
    first = only_first;
    second = leaf.second;
    filled = leaf.filled;
    short = leaf.short;
    now_is = refl;
    fits = elim (cases_lt document.content (done + length row.leaf.items)) [
      | inl past ↦ absurd (too_many past)
      | inr le ↦ le
    ];
  }

none_there : (document : List ℕ) (n count : ℕ) (more : List (List ℕ)) → 0 < count → HaveBytes [] (addresses_from 1 document n count ++ more) → ⊥
none_there document n zero more h have = omega (arith, h)
none_there document n (suc count) more h have = let e = have.are in cc

-- ---- gone through

-- behind so many bytes of a document, the rest of the rows has what the rows have behind those
pub record GoesOn (document : TableDocument) (done : ℕ) (rows rest : List ByteRow) : Type 0 where
  pub upto : done ≤ document.content
  pub same : (more : List (List ℕ)) → HaveBytes rows (bytes_of document ++ more) ↔ HaveBytes rest (addresses_from 1 document.document (done + 1) (document.content - done) ++ more)

pub begins : (document : TableDocument) (rows : List ByteRow) → GoesOn document 0 rows rows
begins document rows = record {
  upto = omega arith;
  same = λ more.
      let all : document.content ≡ document.content - 0 = omega arith in
      let is : bytes_of document ++ more ≡ addresses_from 1 document.document (0 + 1) (document.content - 0) ++ more = ap (λ (count : ℕ). addresses_from 1 document.document 1 count ++ more) all in
      (λ have. subst (HaveBytes rows) is have, λ have. subst (HaveBytes rows) (sym is) have);
}

pub goes_on : (document : TableDocument) (done now : ℕ) (row : ByteRow) (rows rest behind : List ByteRow) → IsDocument document.document → rest ≡ row ∷ behind → HasNext document done row now → GoesOn document done rows rest → GoesOn document now rows behind
goes_on document done now row rows rest behind is parts has on = record {
  upto = has.fits;
  same = λ more.
      let step = next_row document done now row behind more has is in
      let here = on.same more in
      let wanted = addresses_from 1 document.document (done + 1) (document.content - done) ++ more in (
        λ have. step.0 (subst (λ (r : List ByteRow). HaveBytes r wanted) parts (here.0 have)),
        λ have. here.1 (subst (λ (r : List ByteRow). HaveBytes r wanted) (sym parts) (step.1 have)),
      );
}

pub all_there : (document : TableDocument) (done : ℕ) (rows rest : List ByteRow) → document.content ≤ done → GoesOn document done rows rest → HaveInFront (bytes_of document) rows rest
all_there document done rows rest all on more =
    let none : document.content - done ≡ 0 = omega arith in
    let is : addresses_from 1 document.document (done + 1) (document.content - done) ++ more ≡ more = ap (λ (count : ℕ). addresses_from 1 document.document (done + 1) count ++ more) none in
    let here = on.same more in
    (λ have. subst (HaveBytes rest) is (here.0 have), λ have. here.1 (subst (HaveBytes rest) (sym is) have))

pub no_row : (document : TableDocument) (done : ℕ) (rows rest : List ByteRow) → done < document.content → rest ≡ [] → GoesOn document done rows rest → HaveNotInFront document rows
no_row document done rows rest less none on more elsewhere have =
    let wanted = addresses_from 1 document.document (done + 1) (document.content - done) ++ more in
    none_there document.document (done + 1) (document.content - done) more (omega arith) (subst (λ (r : List ByteRow). HaveBytes r wanted) none ((on.same more).0 have))

pub other_row : (document : TableDocument) (done : ℕ) (row : ByteRow) (rows rest behind : List ByteRow) → done < document.content → rest ≡ row ∷ behind → ((now : ℕ) → ¬ HasNext document done row now) → GoesOn document done rows rest → HaveNotInFront document rows
other_row document done row rows rest behind less parts not on more elsewhere have =
    let wanted = addresses_from 1 document.document (done + 1) (document.content - done) ++ more in
    not (done + length row.leaf.items) (only_next document done row behind more less elsewhere (subst (λ (r : List ByteRow). HaveBytes r wanted) parts ((on.same more).0 have)))

pub ruleset gone_through = (begins, goes_on, all_there, no_row, other_row)
