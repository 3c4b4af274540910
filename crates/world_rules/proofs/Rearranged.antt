-- What a rearrange makes of the rows of each document.
use Rattle.std.proofs.Common.{◌≡◌, ℕ, ◌+◌, ◌-◌, ◌≤◌, ◌∙◌, ◌&&◌, Bool, true, false, not, cond, List, [], ◌∷◌, ◌++◌, length, map, take, drop, ap, sym, refl, subst, arith, append_assoc, append-nil}
use Rattle.std.specs.Prelude.{filter, nat_le, nat_lt, Some, None}
use Rattle.std.proofs.lemmas.Bool.{and_parts, leb-true}
use Rattle.std.proofs.lemmas.List.{map-append, length-take-le, length-map}
use Rattle.std.proofs.lemmas.List.Elements.{filter-append}
use Rattle.std.proofs.lemmas.List.Sums.{length-filter}
use Rattle.febe_data.specs.Plain.{blocks_swapped}
use Rattle.world_rules.specs.declared.rows.Row.{Row}
use Rattle.world_rules.specs.World.{World, is_same, is_text_of, is_link_of, text_length}
use Rattle.world_rules.specs.Picking.{addresses_of}
use Rattle.world_rules.specs.Edits.{Cuts, cuts_of, up_by, down_by, moves_up, is_in_block, block, rows_swapped}
use Rattle.world_rules.specs.Apply.{change_world}
use Rattle.world_rules.specs.Laws.{text_rows, between, in_other_order, ArePlaces, IsRearranged, Rearranges}
use Rattle.world_rules.proofs.Filters.{stay, move, all_stay, none_stay, none_move}
use Rattle.world_rules.proofs.InRow.{InRow, row_from, row_append, row_take, row_drop, row_map, early_rows, late_rows, rows_between, row_between, length-between}
use Rattle.world_rules.proofs.Shown.{reads_same, moved_addresses}
use Rattle.world_rules.proofs.RowsWith.{links_apart, of_another, with_test}
use Rattle.world_rules.proofs.Inserted.{text_in_row, text_numbered}

-- ---- five parts

-- how far what is between the blocks moves
abbrev pub across : Cuts → Row → Row
across cuts row = down_by (cuts.second - cuts.first) (up_by (cuts.fourth - cuts.third) row)

pub filter-five : {X : Type 0} (p : X → Bool) (a b c d e : List X) → filter p (a ++ b ++ c ++ d ++ e) ≡ filter p a ++ (filter p b ++ (filter p c ++ (filter p d ++ filter p e)))
filter-five p a b c d e =
    ap (filter p) (append_assoc (a ++ b ++ c) d e ∙ append_assoc (a ++ b) c (d ++ e) ∙ append_assoc a b (c ++ (d ++ e)))
    ∙ filter-append p a (b ++ (c ++ (d ++ e)))
    ∙ ap (λ ys. filter p a ++ ys) (filter-append p b (c ++ (d ++ e)))
    ∙ ap (λ ys. filter p a ++ (filter p b ++ ys)) (filter-append p c (d ++ e))
    ∙ ap (λ ys. filter p a ++ (filter p b ++ (filter p c ++ ys))) (filter-append p d e)

-- ---- rows that are none of the document's text

not_in_block : (p : Row → Bool) (document : List ℕ) → ((row : Row) → p row ≡ true → is_text_of document row ≡ false) → (low high : ℕ) (row : Row) → p row ≡ true → is_in_block document low high row ≡ false
not_in_block p document apart low high row e = rw (apart row e) refl

from_last : (p : Row → Bool) (document : List ℕ) → ((row : Row) → p row ≡ true → is_text_of document row ≡ false) → (n : ℕ) (row : Row) → p row ≡ true → moves_up document n row ≡ false
from_last p document apart n row e = rw (apart row e) refl

pub others_swapped : (p : Row → Bool) (document : List ℕ) → ((row : Row) → p row ≡ true → is_text_of document row ≡ false) → ((n : ℕ) (row : Row) → p (record row { n = n }) ≡ p row)
    → (rows : List Row) (cuts : Cuts) → filter p (rows_swapped rows document cuts) ≡ filter p rows
others_swapped p document apart same rows cuts =
    filter-five p (filter (λ row. not (moves_up document cuts.first row)) rows)
    (map (down_by (cuts.third - cuts.first)) (block rows document cuts.third cuts.fourth))
    (map (across cuts) (block rows document cuts.second cuts.third))
    (map (up_by (cuts.fourth - cuts.second)) (block rows document cuts.first cuts.second))
    (filter (moves_up document cuts.fourth) rows)
    ∙ (λ i. all_stay p (λ row. not (moves_up document cuts.first row)) (λ row e. ap not (from_last p document apart cuts.first row e)) rows i
    ++ (none_move p (is_in_block document cuts.third cuts.fourth) (not_in_block p document apart cuts.third cuts.fourth) (down_by (cuts.third - cuts.first)) (λ row. same (row.n - (cuts.third - cuts.first)) row) rows i
    ++ (none_move p (is_in_block document cuts.second cuts.third) (not_in_block p document apart cuts.second cuts.third) (across cuts) (λ row. same (row.n + (cuts.fourth - cuts.third) - (cuts.second - cuts.first)) row) rows i
    ++ (none_move p (is_in_block document cuts.first cuts.second) (not_in_block p document apart cuts.first cuts.second) (up_by (cuts.fourth - cuts.second)) (λ row. same (row.n + (cuts.fourth - cuts.second)) row) rows i
    ++ none_stay p (moves_up document cuts.fourth) (from_last p document apart cuts.fourth) rows i))))
    ∙ append-nil (filter p rows)

-- ---- the document's text

block_move : (document : List ℕ) (low high : ℕ) (f : Row → Row) → ((row : Row) → is_text_of document (f row) ≡ is_text_of document row) → (rows : List Row)
    → filter (is_text_of document) (map f (block rows document low high)) ≡ map f (filter (λ (row : Row). nat_le low row.n && nat_lt row.n high) (filter (is_text_of document) rows))
block_move document low high f unseen rows =
    move (is_text_of document) f unseen (is_in_block document low high) (λ row. nat_le low row.n && nat_lt row.n high) (λ row e. rw e refl) rows

-- the cuts stand in order, from 1 to one more than the rows
pub record InOrder (cuts : Cuts) (count : ℕ) : Type 0 where
  pub from_one : 1 ≤ cuts.first
  pub to_second : cuts.first ≤ cuts.second
  pub to_third : cuts.second ≤ cuts.third
  pub to_fourth : cuts.third ≤ cuts.fourth
  pub to_end : cuts.fourth ≤ count + 1

-- the blocks of a row in the other order, each moved to where it then stands
abbrev pub swapped : Cuts → List Row → List Row
swapped cuts xs =
    take (cuts.first - 1) xs
    ++ (map (down_by (cuts.third - cuts.first)) (between cuts.third cuts.fourth xs)
    ++ (map (across cuts) (between cuts.second cuts.third xs) ++ (map (up_by (cuts.fourth - cuts.second)) (between cuts.first cuts.second xs) ++ drop (cuts.fourth - 1) xs)))

pub text_swapped : (rows : List Row) (document : List ℕ) (cuts : Cuts) → InOrder cuts (length (filter (is_text_of document) rows)) → InRow 1 (filter (is_text_of document) rows)
    → filter (is_text_of document) (rows_swapped rows document cuts) ≡ swapped cuts (filter (is_text_of document) rows)
text_swapped rows document cuts order row =
    let p : Row → Bool = is_text_of document in
    let old : List Row = filter (is_text_of document) rows in
    let one : 1 ≤ cuts.first = order.from_one in
    let two : cuts.first ≤ cuts.second = order.to_second in
    let three : cuts.second ≤ cuts.third = order.to_third in
    let four : cuts.third ≤ cuts.fourth = order.to_fourth in
    filter-five p (filter (λ row. not (moves_up document cuts.first row)) rows)
    (map (down_by (cuts.third - cuts.first)) (block rows document cuts.third cuts.fourth))
    (map (across cuts) (block rows document cuts.second cuts.third))
    (map (up_by (cuts.fourth - cuts.second)) (block rows document cuts.first cuts.second))
    (filter (moves_up document cuts.fourth) rows)
    ∙ (λ i. (stay p (λ row. not (moves_up document cuts.first row)) (λ row. not (nat_le cuts.first row.n)) (λ row e. ap not (with_test p (λ r. nat_le cuts.first r.n) row e)) rows ∙ early_rows cuts.first 1 (cuts.first - 1) old (omega arith) row) i
    ++ ((block_move document cuts.third cuts.fourth (down_by (cuts.third - cuts.first)) (λ r. refl) rows ∙ ap (map (down_by (cuts.third - cuts.first))) (rows_between cuts.third cuts.fourth old (omega arith) four row)) i
    ++ ((block_move document cuts.second cuts.third (across cuts) (λ r. refl) rows ∙ ap (map (across cuts)) (rows_between cuts.second cuts.third old (omega arith) three row)) i
    ++ ((block_move document cuts.first cuts.second (up_by (cuts.fourth - cuts.second)) (λ r. refl) rows ∙ ap (map (up_by (cuts.fourth - cuts.second))) (rows_between cuts.first cuts.second old one two row)) i
    ++ (stay p (moves_up document cuts.fourth) (λ row. nat_le cuts.fourth row.n) (with_test p (λ r. nat_le cuts.fourth r.n)) rows ∙ late_rows cuts.fourth 1 (cuts.fourth - 1) old (omega arith) row) i))))

-- it stands in a row again
pub swapped_in_row : (cuts : Cuts) (xs : List Row) → InOrder cuts (length xs) → InRow 1 xs → InRow 1 (swapped cuts xs)
swapped_in_row cuts xs order row =
    let one : 1 ≤ cuts.first = order.from_one in
    let two : cuts.first ≤ cuts.second = order.to_second in
    let three : cuts.second ≤ cuts.third = order.to_third in
    let four : cuts.third ≤ cuts.fourth = order.to_fourth in
    let end : cuts.fourth ≤ length xs + 1 = order.to_end in
    let a : List Row = take (cuts.first - 1) xs in
    let b : List Row = map (down_by (cuts.third - cuts.first)) (between cuts.third cuts.fourth xs) in
    let c : List Row = map (across cuts) (between cuts.second cuts.third xs) in
    let d : List Row = map (up_by (cuts.fourth - cuts.second)) (between cuts.first cuts.second xs) in
    let e : List Row = drop (cuts.fourth - 1) xs in
    let long_a : length (take (cuts.first - 1) xs) ≡ cuts.first - 1 = length-take-le (cuts.first - 1) xs (omega arith) in
    let long_b : length (map (down_by (cuts.third - cuts.first)) (between cuts.third cuts.fourth xs)) ≡ cuts.fourth - cuts.third = length-map (between cuts.third cuts.fourth xs) (down_by (cuts.third - cuts.first)) ∙ length-between cuts.third cuts.fourth xs (omega arith) four end in
    let long_c : length (map (across cuts) (between cuts.second cuts.third xs)) ≡ cuts.third - cuts.second = length-map (between cuts.second cuts.third xs) (across cuts) ∙ length-between cuts.second cuts.third xs (omega arith) three (omega arith) in
    let long_d : length (map (up_by (cuts.fourth - cuts.second)) (between cuts.first cuts.second xs)) ≡ cuts.second - cuts.first = length-map (between cuts.first cuts.second xs) (up_by (cuts.fourth - cuts.second)) ∙ length-between cuts.first cuts.second xs one two (omega arith) in
    let at_c : ℕ = cuts.first + (cuts.fourth - cuts.third) in
    let at_d : ℕ = cuts.first + (cuts.fourth - cuts.second) in
    let row_b : InRow cuts.first b = row_map (down_by (cuts.third - cuts.first)) cuts.third cuts.first (between cuts.third cuts.fourth xs) (λ r i h. omega arith) (row_between cuts.third cuts.fourth xs (omega arith) (omega arith) row) in
    let row_c : InRow at_c c = row_map (across cuts) cuts.second at_c (between cuts.second cuts.third xs) (λ r i h. omega arith) (row_between cuts.second cuts.third xs (omega arith) (omega arith) row) in
    let row_d : InRow at_d d = row_map (up_by (cuts.fourth - cuts.second)) cuts.first at_d (between cuts.first cuts.second xs) (λ r i h. omega arith) (row_between cuts.first cuts.second xs one (omega arith) row) in
    let row_e : InRow cuts.fourth e = row_from (1 + (cuts.fourth - 1)) cuts.fourth e (omega arith) (row_drop 1 (cuts.fourth - 1) xs (omega arith) row) in
    let from_d : InRow at_d (d ++ e) = row_append at_d d e row_d (row_from cuts.fourth (at_d + length d) e (omega arith) row_e) in
    let from_c : InRow at_c (c ++ (d ++ e)) = row_append at_c c (d ++ e) row_c (row_from at_d (at_c + length c) (d ++ e) (omega arith) from_d) in
    let from_b : InRow cuts.first (b ++ (c ++ (d ++ e))) = row_append cuts.first b (c ++ (d ++ e)) row_b (row_from at_c (cuts.first + length b) (c ++ (d ++ e)) (omega arith) from_c) in
    row_append 1 a (b ++ (c ++ (d ++ e))) (row_take 1 (cuts.first - 1) xs row) (row_from cuts.first (1 + length a) (b ++ (c ++ (d ++ e))) (omega arith) from_b)

-- ---- what it shows

addresses-five : (a b c d e : List Row) → addresses_of (a ++ (b ++ (c ++ (d ++ e)))) ≡ addresses_of a ++ (addresses_of b ++ (addresses_of c ++ (addresses_of d ++ addresses_of e)))
addresses-five a b c d e =
    let address : Row → List ℕ = λ row. row.address in
    map-append address a (b ++ (c ++ (d ++ e)))
    ∙ ap (λ (ys : List (List ℕ)). addresses_of a ++ ys) (map-append address b (c ++ (d ++ e)))
    ∙ ap (λ (ys : List (List ℕ)). addresses_of a ++ (addresses_of b ++ ys)) (map-append address c (d ++ e))
    ∙ ap (λ (ys : List (List ℕ)). addresses_of a ++ (addresses_of b ++ (addresses_of c ++ ys))) (map-append address d e)

pub swapped_addresses : (cuts : Cuts) (xs : List Row) → addresses_of (swapped cuts xs) ≡ addresses_of (in_other_order cuts xs)
swapped_addresses cuts xs =
    let a : List Row = take (cuts.first - 1) xs in
    let b : List Row = between cuts.third cuts.fourth xs in
    let c : List Row = between cuts.second cuts.third xs in
    let d : List Row = between cuts.first cuts.second xs in
    let e : List Row = drop (cuts.fourth - 1) xs in
    addresses-five a (map (down_by (cuts.third - cuts.first)) b) (map (across cuts) c) (map (up_by (cuts.fourth - cuts.second)) d) e
    ∙ (λ i. addresses_of a
    ++ (moved_addresses (down_by (cuts.third - cuts.first)) (λ r. refl) b i
    ++ (moved_addresses (across cuts) (λ r. refl) c i
    ++ (moved_addresses (up_by (cuts.fourth - cuts.second)) (λ r. refl) d i ++ addresses_of e))))
    ∙ sym (addresses-five a b c d e)

-- ---- cuts

pub three_test : (test : Bool) (a b c : ℕ) (bounds : Cuts) → cond test (Some (record { first = a; second = b; third = b; fourth = c })) None ≡ Some bounds → (test ≡ true) × (bounds ≡ record { first = a; second = b; third = b; fourth = c })
three_test true a b c bounds e = (refl, cc)
three_test false a b c bounds e = cc

pub four_test : (test : Bool) (a b c d : ℕ) (bounds : Cuts) → cond test (Some (record { first = a; second = b; third = c; fourth = d })) None ≡ Some bounds → (test ≡ true) × (bounds ≡ record { first = a; second = b; third = c; fourth = d })
four_test true a b c d bounds e = (refl, cc)
four_test false a b c d bounds e = cc

-- what cuts are is in order
pub record Ascend (cuts : Cuts) : Type 0 where
  pub to_second : cuts.first ≤ cuts.second
  pub to_third : cuts.second ≤ cuts.third
  pub to_fourth : cuts.third ≤ cuts.fourth

pub cuts_ascend : (cuts : List ℕ) (bounds : Cuts) → cuts_of cuts ≡ Some bounds → Ascend bounds
cuts_ascend [] bounds e = cc
cuts_ascend (a ∷ []) bounds e = cc
cuts_ascend (a ∷ b ∷ []) bounds e = cc
cuts_ascend (a ∷ b ∷ c ∷ []) bounds e =
    let given = three_test (nat_le a b && nat_le b c) a b c bounds e in
    let parts = and_parts (nat_le a b) (nat_le b c) given.0 in
    subst Ascend (sym given.1) (record { to_second = leb-true a b parts.0; to_third = omega arith; to_fourth = leb-true b c parts.1 })
cuts_ascend (a ∷ b ∷ c ∷ d ∷ []) bounds e =
    let given = four_test (nat_le a b && nat_le b c && nat_le c d) a b c d bounds e in
    let parts = and_parts (nat_le a b && nat_le b c) (nat_le c d) given.0 in
    let more = and_parts (nat_le a b) (nat_le b c) parts.0 in
    subst Ascend (sym given.1) (record { to_second = leb-true a b more.0; to_third = leb-true b c more.1; to_fourth = leb-true c d parts.1 })
cuts_ascend (a ∷ b ∷ c ∷ d ∷ e ∷ more) bounds is = cc

in_order : (world : World) (document : List ℕ) (cuts : Cuts) → Ascend cuts → 1 ≤ cuts.first → cuts.fourth ≤ text_length world document + 1 → InOrder cuts (length (text_rows world document))
in_order world document cuts up from_one to_end = record {
  from_one = from_one;
  to_second = up.to_second;
  to_third = up.to_third;
  to_fourth = up.to_fourth;
  to_end = subst (λ (n : ℕ). cuts.fourth ≤ n + 1) (sym (length-filter (is_text_of document) world.rows)) to_end;
}

pub rearranged : (world after : World) (document : List ℕ) (cuts : Cuts) → Ascend cuts → ArePlaces world document cuts → after.rows ≡ rows_swapped world.rows document cuts → after.documents ≡ world.documents → after.bytes ≡ world.bytes → after.links ≡ world.links
    → after.published ≡ world.published → IsRearranged world document cuts after
rearranged world after document cuts up places rows documents bytes links published =
    let order : InOrder cuts (length (text_rows world document)) = in_order world document cuts up places.from_one places.to_end in
    let row : InRow 1 (text_rows world document) = text_in_row world document places.numbered in
    let text : text_rows after document ≡ swapped cuts (text_rows world document) = ap (filter (is_text_of document)) rows ∙ text_swapped world.rows document cuts order row in
    let order_is : addresses_of (text_rows after document) ≡ addresses_of (in_other_order cuts (text_rows world document)) = ap addresses_of text ∙ swapped_addresses cuts (text_rows world document) in
    record {
      numbered = text_numbered after document (subst (InRow 1) (sym text) (swapped_in_row cuts (text_rows world document) order row));
      order = order_is;
      reads = reads_same world after (text_rows after document) (in_other_order cuts (text_rows world document)) bytes order_is;
      links = ap (filter (is_link_of document)) rows ∙ others_swapped (is_link_of document) document (links_apart document document) (λ n r. refl) world.rows cuts;
      others = λ other differs. ap (filter (λ (r : Row). is_same r.document other)) rows ∙ others_swapped (λ (r : Row). is_same r.document other) document (of_another document other differs) (λ n r. refl) world.rows cuts;
      same_documents = documents;
      same_bytes = bytes;
      same_links = links;
      same_published = published;
    }

pub rearranges : Rearranges
rearranges world session document cuts bounds is places =
    let after : World = change_world world session (blocks_swapped document cuts) in
    rearranged world after document bounds (cuts_ascend cuts bounds is) places (rw is refl) (rw is refl) (rw is refl) (rw is refl) (rw is refl)
