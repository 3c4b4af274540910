-- An index of runs, one more run at a time.
use Rattle.std.proofs.Common.{◌≡◌, ℕ, ◌∙◌, ◌||◌, ◌&&◌, ◌+◌, ◌++◌, ◌∷◌, [], Bool, true, false, List, length, take, get_or, ◌<◌, ◌≤◌, ap, sym, refl, Some, None, cond}
use Rattle.std.proofs.Math.Bool.{or-false, or_assoc}
use Rattle.std.proofs.lemmas.List.{take_all}
use Rattle.std.specs.Bool.{one_answer}
use Rattle.std.specs.Prelude.{nat_le, nat_lt}
use Rattle.std.specs.List.{list_any}
use Rattle.std.specs.BTreeMap.{BTreeMap, Updates, get}
use Rattle.std.specs.Ordering.{nat_cmp}
use Rattle.std.specs.Cmp.Lexicographic.{slice_cmp, texts_ties}
use Rattle.std.proofs.lemmas.List.Folds.{list_any-append, list_any_more}
use Rattle.std.proofs.lemmas.Slice.Eq.{bytes_eq-Decides}
use Rattle.febe_data.specs.ListView.{ListView}
use Rattle.febe_data.specs.declared.run.Run.{Run}
use Rattle.flat_rows.specs.declared.end_index.Piece.{Piece}
use Rattle.world_rules.specs.World.{is_same}
use Rattle.world_rules.specs.Picking.{content_of, number_of, is_in_run, is_in_runs}
use Rattle.flat_rows.specs.declared.links.LinkRow.{LinkRow}
use Rattle.flat_rows.specs.EndIndex.{is_in_piece, items_of_pieces, pieces_of, is_indexed, Indexes, IndexesMore}

-- two addresses are the same, from either side
same_back : (a b : List ℕ) → is_same a b ≡ is_same b a
same_back a b = one_answer (is_same a b) (is_same b a) (bytes_eq-Decides a b) ((λ yes. sym ((bytes_eq-Decides b a).0 yes)), (λ e. (bytes_eq-Decides b a).1 (sym e)))

and_assoc : (a b c : Bool) → ((a && b) && c) ≡ (a && (b && c))
and_assoc true b c = refl
and_assoc false b c = refl

abbrev piece_of : Run → Piece
piece_of run = record { first = run.first; length = run.length }

in_run : (address : List ℕ) (run : Run) → is_in_run address run ≡ (is_same run.content (content_of address) && is_in_piece (number_of address) (piece_of run))
in_run address run =
    and_assoc (is_same (content_of address) run.content) (nat_le run.first (number_of address)) (nat_lt (number_of address) (run.first + run.length))
    ∙ ap (λ (same : Bool). same && is_in_piece (number_of address) (piece_of run)) (same_back (content_of address) run.content)

pub run_added : (old mid new : BTreeMap (List ℕ) (ListView Piece)) (run : Run) (pieces : ListView Piece) (taken : List Piece)
    → taken ≡ pieces_of old run.content → pieces.items ≡ taken ++ piece_of run ∷ []
    → Updates (slice_cmp nat_cmp) old mid run.content None → Updates (slice_cmp nat_cmp) mid new run.content (Some pieces)
    → (address : List ℕ) → is_indexed new address ≡ (is_indexed old address || is_in_run address run)
run_added old mid new run pieces taken was pushed out back address =
    by_case (is_same run.content (content_of address)) refl ∙ ap (λ (found : Bool). is_indexed old address || found) (sym (in_run address run))
  where
    by_case : (same : Bool) → is_same run.content (content_of address) ≡ same → is_indexed new address ≡ (is_indexed old address || (is_same run.content (content_of address) && is_in_piece (number_of address) (piece_of run)))
    by_case true e =
        let here : get (slice_cmp nat_cmp) new (content_of address) ≡ Some pieces = back.0 (content_of address) ∙ ap (λ (b : Bool). cond b (Some pieces) (get (slice_cmp nat_cmp) mid (content_of address))) (sym (texts_ties run.content (content_of address)) ∙ e) in
        let same : run.content ≡ content_of address = (bytes_eq-Decides run.content (content_of address)).0 e in
        ap (λ found. list_any (is_in_piece (number_of address)) (items_of_pieces found)) here
        ∙ ap (list_any (is_in_piece (number_of address))) (pushed ∙ ap (λ (before : List Piece). before ++ piece_of run ∷ []) (was ∙ ap (pieces_of old) same))
        ∙ list_any-append (is_in_piece (number_of address)) (pieces_of old (content_of address)) (piece_of run ∷ [])
        ∙ ap (λ (found : Bool). is_indexed old address || found) (or-false (is_in_piece (number_of address) (piece_of run)) ∙ ap (λ (b : Bool). b && is_in_piece (number_of address) (piece_of run)) (sym e))
    by_case false e =
        let gone : get (slice_cmp nat_cmp) new (content_of address) ≡ get (slice_cmp nat_cmp) mid (content_of address) = back.0 (content_of address) ∙ ap (λ (b : Bool). cond b (Some pieces) (get (slice_cmp nat_cmp) mid (content_of address))) (sym (texts_ties run.content (content_of address)) ∙ e) in
        let kept : get (slice_cmp nat_cmp) mid (content_of address) ≡ get (slice_cmp nat_cmp) old (content_of address) = out.0 (content_of address) ∙ ap (λ (b : Bool). cond b None (get (slice_cmp nat_cmp) old (content_of address))) (sym (texts_ties run.content (content_of address)) ∙ e) in
        ap (λ found. list_any (is_in_piece (number_of address)) (items_of_pieces found)) (gone ∙ kept)
        ∙ sym (or-false (is_indexed old address))
        ∙ ap (λ (b : Bool). is_indexed old address || (b && is_in_piece (number_of address) (piece_of run))) (sym e)

-- after one more of several, and after all
pub runs_more : (first old new : BTreeMap (List ℕ) (ListView Piece)) (runs : List Run) (i : ℕ) (run : Run) → i < length runs → run ≡ get_or runs i run
    → IndexesMore (is_in_runs (take i runs)) first old → IndexesMore (λ address. is_in_run address run) old new → IndexesMore (is_in_runs (take (i + 1) runs)) first new
runs_more first old new runs i run lt here before added address =
    added address ∙ ap (λ (found : Bool). found || is_in_run address run) (before address) ∙ or_assoc (is_indexed first address) (is_in_runs (take i runs) address) (is_in_run address run)
    ∙ ap (λ (found : Bool). is_indexed first address || found) (ap (λ (r : Run). is_in_runs (take i runs) address || is_in_run address r) here ∙ sym (list_any_more (is_in_run address) runs i run lt))

pub runs_all : (first new : BTreeMap (List ℕ) (ListView Piece)) (runs : List Run) (i : ℕ) → length runs ≤ i → IndexesMore (is_in_runs (take i runs)) first new → IndexesMore (is_in_runs runs) first new
runs_all first new runs i past before address = before address ∙ ap (λ (rs : List Run). is_indexed first address || is_in_runs rs address) (take_all i runs past)

-- ---- one end more, of a link that is read or is not

pub none_more : (reads : Bool) (test : List ℕ → Bool) (index : BTreeMap (List ℕ) (ListView Piece)) → reads ≡ false → IndexesMore (λ address. reads && test address) index index
none_more reads test index hidden address = sym (ap (λ (b : Bool). is_indexed index address || (b && test address)) hidden ∙ or-false (is_indexed index address))

pub all_more : (reads : Bool) (test : List ℕ → Bool) (old new : BTreeMap (List ℕ) (ListView Piece)) → reads ≡ true → IndexesMore test old new → IndexesMore (λ address. reads && test address) old new
all_more reads test old new seen more address = more address ∙ ap (λ (b : Bool). is_indexed old address || (b && test address)) (sym seen)

pub ends_more : (test : LinkRow → List ℕ → Bool) (old new : BTreeMap (List ℕ) (ListView Piece)) (links : List LinkRow) (i : ℕ) (link : LinkRow) → i < length links → link ≡ get_or links i link
    → Indexes (λ address. list_any (λ (l : LinkRow). test l address) (take i links)) old → IndexesMore (test link) old new → Indexes (λ address. list_any (λ (l : LinkRow). test l address) (take (i + 1) links)) new
ends_more test old new links i link lt here before added address =
    added address ∙ ap (λ (found : Bool). found || test link address) (before address)
    ∙ ap (λ (l : LinkRow). list_any (λ (k : LinkRow). test k address) (take i links) || test l address) here ∙ sym (list_any_more (λ (k : LinkRow). test k address) links i link lt)

pub ruleset end_steps = (none_more, all_more)
