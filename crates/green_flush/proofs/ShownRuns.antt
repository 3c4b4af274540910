-- What documents show, as runs.
use Rattle.std.proofs.Common.{◌≡◌, ℕ, ◌+◌, ◌<◌, arith, length, take, get_or, List, [], ◌∷◌, ◌++◌, All, refl, sym, ap, ◌∙◌, subst, append_assoc}
use Rattle.std.specs.Prelude.{◌↔◌}
use Rattle.std.specs.List.{Contains}
use Rattle.std.proofs.lemmas.List.{append-nil, take_more}
use Rattle.std.proofs.lemmas.List.Elements.{All-nil, All-cons, All-head, All-tail, All-append, All-weaker, All-contains, All-contains_itself, Contains-append_left, Contains-append_right}
use Rattle.febe_data.specs.declared.run.Run.{Run}
use Rattle.enfilade_core.specs.Rows.{Shape, rows_of}
use Rattle.links.specs.LinkLists.{IsRun}
use Rattle.page_tables.specs.declared.tables.TableDocument.{TableDocument}
use Rattle.poom.specs.Edited.{IsContentRun, run_addresses}
use Rattle.poom.specs.Laid.{texts}
use Rattle.poom.specs.Picked.{picked_from}
use Rattle.poom.specs.Pieces.{addresses_from}
use Rattle.spanfilade.specs.Index.{IndexTree}
use Rattle.index_checks.specs.Covered.{IsCovered, IsRunCovered}
use Rattle.green_flush.specs.Sound.{CoversText}
use Rattle.green_flush.specs.inside.Showing.{whole_text, AreTextRuns, AreRunsOf}

-- ---- lists

pub front-all : {X : Type 0} (P : X → Type 0) (xs ys : List X) → All P (xs ++ ys) → All P xs
front-all P xs ys all = All-weaker (Contains xs) P (λ x in_front. All-contains P (xs ++ ys) x all (Contains-append_left xs ys x in_front)) xs (All-contains_itself xs)

pub back-all : {X : Type 0} (P : X → Type 0) (xs ys : List X) → All P (xs ++ ys) → All P ys
back-all P xs ys all = All-weaker (Contains ys) P (λ x behind. All-contains P (xs ++ ys) x all (Contains-append_right xs ys x behind)) ys (All-contains_itself ys)

-- ---- all of a document's text

pub whole_picked : (n : ℕ) (addresses : List (List ℕ)) → picked_from 1 whole_text n addresses ≡ addresses
whole_picked n [] = refl
whole_picked n (address ∷ addresses) = ap (λ xs. address ∷ xs) (whole_picked (n + 1) addresses)

-- ---- documents so far

pub runs-more : (nodes : List (Shape ℕ)) (rows : List TableDocument) (row : TableDocument) (runs own : List Run) → AreRunsOf nodes rows runs → AreTextRuns nodes row own → AreRunsOf nodes (rows ++ row ∷ []) (runs ++ own)
runs-more nodes [] row runs own so text = (own, [], text, refl, ap (λ (x : List Run). x ++ own) so ∙ sym (append-nil own))
runs-more nodes (first ∷ rows) row runs own so text =
    (so.0, so.1 ++ own, so.2, runs-more nodes rows row so.1 own so.3 text, ap (λ (x : List Run). x ++ own) so.4 ∙ append_assoc so.0 so.1 own)

pub runs-step : (nodes : List (Shape ℕ)) (rows : List TableDocument) (k : ℕ) (row : TableDocument) (root : ℕ) (runs own new : List Run) →
    k < length rows → row ≡ get_or rows k row → root ≡ row.root → AreRunsOf nodes (take k rows) runs →
    run_addresses own ≡ texts (rows_of nodes root) → All (λ (run : Run). run.origin ≡ row.document) own → All IsContentRun own → new ≡ runs ++ own → AreRunsOf nodes (take (k + 1) rows) new
runs-step nodes rows k row root runs own new lt is same so bytes origin content all =
    let text : AreTextRuns nodes row own = record { bytes = bytes ∙ ap (λ (x : ℕ). texts (rows_of nodes x)) same; origin = origin; content = content } in
    let more : take (k + 1) rows ≡ take k rows ++ row ∷ [] = take_more rows k row lt ∙ ap (λ (x : TableDocument). take k rows ++ x ∷ []) (sym is) in
    subst (λ (x : List TableDocument). AreRunsOf nodes x new) (sym more) (subst (AreRunsOf nodes (take k rows ++ row ∷ [])) (sym all) (runs-more nodes (take k rows) row runs own so text))

-- each run of content is a run that an index may have
content-run : (run : Run) → IsContentRun run → IsRun run
content-run run right = record { content = right.document; counted = omega (arith, right.from_one); some = omega (arith, right.filled); small = right.fits }

pub are-runs : (nodes : List (Shape ℕ)) (rows : List TableDocument) (runs : List Run) → AreRunsOf nodes rows runs → All IsRun runs
are-runs nodes [] runs so = subst (All IsRun) (sym so) (All-nil IsRun)
are-runs nodes (row ∷ rows) runs so =
    subst (All IsRun) (sym so.4) (All-append IsRun so.0 so.1 (All-weaker IsContentRun IsRun content-run so.0 so.2.content) (are-runs nodes rows so.1 so.3))

-- ---- what covers them

abbrev addresses : Run → List (List ℕ)
addresses run = addresses_from 1 run.content run.first run.length

run-to : (index : IndexTree) (document : List ℕ) (runs : List Run) → All (λ (run : Run). run.origin ≡ document) runs → All (IsRunCovered index) runs → All (IsCovered index document) (run_addresses runs)
run-to index document [] origin all = All-nil (IsCovered index document)
run-to index document (run ∷ runs) origin all =
    All-append (IsCovered index document) (addresses run) (run_addresses runs)
    (subst (λ (x : List ℕ). All (IsCovered index x) (addresses run)) (All-head (λ (r : Run). r.origin ≡ document) run runs origin) (All-head (IsRunCovered index) run runs all))
    (run-to index document runs (All-tail (λ (r : Run). r.origin ≡ document) run runs origin) (All-tail (IsRunCovered index) run runs all))

run-from : (index : IndexTree) (document : List ℕ) (runs : List Run) → All (λ (run : Run). run.origin ≡ document) runs → All (IsCovered index document) (run_addresses runs) → All (IsRunCovered index) runs
run-from index document [] origin all = All-nil (IsRunCovered index)
run-from index document (run ∷ runs) origin all =
    All-cons (IsRunCovered index) run runs
    (subst (λ (x : List ℕ). All (IsCovered index x) (addresses run)) (sym (All-head (λ (r : Run). r.origin ≡ document) run runs origin)) (front-all (IsCovered index document) (addresses run) (run_addresses runs) all))
    (run-from index document runs (All-tail (λ (r : Run). r.origin ≡ document) run runs origin) (back-all (IsCovered index document) (addresses run) (run_addresses runs) all))

own-covers : (index : IndexTree) (nodes : List (Shape ℕ)) (row : TableDocument) (own : List Run) → AreTextRuns nodes row own → All (IsRunCovered index) own ↔ CoversText index nodes row
own-covers index nodes row own text = (
  λ all. subst (All (IsCovered index row.document)) text.bytes (run-to index row.document own text.origin all),
  λ all. run-from index row.document own text.origin (subst (All (IsCovered index row.document)) (sym text.bytes) all),
)

pub covers : (index : IndexTree) (nodes : List (Shape ℕ)) (rows : List TableDocument) (runs : List Run) → AreRunsOf nodes rows runs → All (IsRunCovered index) runs ↔ All (CoversText index nodes) rows
covers index nodes [] runs so = (λ all. All-nil (CoversText index nodes), λ all. subst (All (IsRunCovered index)) (sym so) (All-nil (IsRunCovered index)))
covers index nodes (row ∷ rows) runs so =
    let own = own-covers index nodes row so.0 so.2 in
    let more = covers index nodes rows so.1 so.3 in (
      λ all.
          let both = subst (All (IsRunCovered index)) so.4 all in
          All-cons (CoversText index nodes) row rows (own.0 (front-all (IsRunCovered index) so.0 so.1 both)) (more.0 (back-all (IsRunCovered index) so.0 so.1 both)),
      λ all.
          subst (All (IsRunCovered index)) (sym so.4)
          (All-append (IsRunCovered index) so.0 so.1 (own.1 (All-head (CoversText index nodes) row rows all)) (more.1 (All-tail (CoversText index nodes) row rows all))),
    )
