-- Marks of documents whose trees may allow a step of the balancer: what stays of them, and what they tell.
use Rattle.std.proofs.Common.{◌≡◌, ◌∙◌, ℕ, zero, suc, ◌+◌, ◌-◌, ◌<◌, ◌≤◌, ◌||◌, Bool, true, false, cond, List, [], ◌∷◌, ◌++◌, length, take, drop, map, slice_get, Option, Some, None, refl, sym, ap, subst, true≢false, arith, take-append-drop, nat_lt, max}
use Rattle.std.specs.Prelude.{IsTrue, not}
use Rattle.std.specs.List.{find, list_any}
use Rattle.std.specs.Option.{option_map}
use Rattle.std.proofs.lemmas.Bool.Decides.{nat_tests}
use Rattle.std.proofs.lemmas.List.{get_or_append_left}
use Rattle.std.proofs.lemmas.List.Folds.{list_any-append}
use Rattle.std.proofs.lemmas.Map.Keys.{any_passes_from_place}
use Rattle.std.proofs.lemmas.Option.{slice_get-map}
use Rattle.enfilade_core.specs.declared.tree.Node.{Node}
use Rattle.enfilade_core.specs.Rows.{Shape, Rows, rows_of}
use Rattle.enfilade_core.specs.BalanceState.{no_balance_state, balance_state_in, has_lone_child, tree_debt, tree_allows}
use Rattle.enfilade_core.specs.Edits.{KeepsRows}
use Rattle.enfilade_core.specs.Exchange.{Grows}
use Rattle.enfilade_core.proofs.Tables.{table-later}
use Rattle.enfilade_balance.specs.declared.balance.Balance.{Balance}
use Rattle.enfilade_balance.specs.Steps.{root_after, is_idle}
use Rattle.enfilade_balance.specs.Laws.{DebtsStay}
use Rattle.enfilade_sweep.specs.Sweep.{numbers}
use Rattle.poom.specs.Laid.{IsRoot}
use Rattle.doc_table.specs.declared.rows.DocumentRow.{DocumentRow}
use Rattle.doc_table.specs.DocumentRows.{is_of, has_in, root_in, added, with_root, with_roots, with_content}
use Rattle.world_rules.specs.World.{is_same}
use Rattle.tree_world.specs.Trees.{root_allows, document_allows, is_marked, AreDue}
use Rattle.tree_world.specs.Undone.{MarksStay}
use Rattle.tree_world.specs.Condition.{roots_in, documents_allow}
use Rattle.tree_world.specs.inside.Marked.{AreIdle, IsLastDue, IsDueTree}
use Rattle.tree_world.proofs.Options.{none_there, one_value}
use Rattle.tree_world.proofs.Found.{either_none, false_when, address_is, address_alike}
use Rattle.tree_world.proofs.Tables.{root_set, root_added, content_roots}
use Rattle.tree_world.proofs.Roots.{RootsStand, root_stands}
use Rattle.tree_world.proofs.Balanced.{Ascend, root_there, allows_there, IsStep}

-- ---- marks

either_true : (b : Bool) → (b || true) ≡ true
either_true true = refl
either_true false = refl

pub stay_self : (due : List (List ℕ)) → MarksStay due due
stay_self due = record { stay = λ d h. h }

pub room_for_mark : (spare now : ℕ) → now ≡ max spare 1 → 0 < now
room_for_mark zero now is = omega (arith, is)
room_for_mark (suc spare) now is = omega (arith, is)

-- where it was reserved for a mark, all is as before
pub stay_from : (due reserved now : List (List ℕ)) → reserved ≡ due → MarksStay reserved now → MarksStay due now
stay_from due reserved now is stays = subst (λ marks. MarksStay marks now) is stays

-- one more mark
pub marks_more : (due now : List (List ℕ)) (document : List ℕ) → now ≡ due ++ document ∷ [] → MarksStay due now
marks_more due now document is = record {
  stay = λ d h. ap (λ marks. is_marked marks d) is ∙ list_any-append (λ mark. is_same mark d) due (document ∷ []) ∙ ap (λ b. b || is_marked (document ∷ []) d) h;
}

pub marked_more : (due now : List (List ℕ)) (document : List ℕ) → now ≡ due ++ document ∷ [] → IsTrue (is_marked now document)
marked_more due now document is =
    ap (λ marks. is_marked marks document) is ∙ list_any-append (λ mark. is_same mark document) due (document ∷ []) ∙ ap (λ b. is_marked due document || (b || false)) (address_alike document) ∙ either_true (is_marked due document)

-- ---- nodes come in, and what trees allow stays

allows_later : (nodes more : List (Shape ℕ)) (k : ℕ) → k < length nodes → tree_allows (nodes ++ more) k ≡ tree_allows nodes k
allows_later nodes more k lt = λ i. (table-later balance_state_in nodes more k no_balance_state lt i).allows || has_lone_child (get_or_append_left nodes more (Rows []) k lt i)

pub allows_grown : (nodes more : List (Shape ℕ)) (k : ℕ) → Grows nodes more → k < length nodes → tree_allows more k ≡ tree_allows nodes k
allows_grown nodes more k grows lt = ap (λ ns. tree_allows ns k) grows.is ∙ allows_later nodes grows.more k lt

pub due_grown : (nodes more : List (Shape ℕ)) (rows : List (DocumentRow Node)) (due : List (List ℕ)) → Grows nodes more → RootsStand nodes rows → AreDue nodes rows due → AreDue more rows due
due_grown nodes more rows due grows stand is = record { marked = λ d allows. is.marked d (sym (still d (root_in rows d) refl) ∙ allows) }
  where
    still : (d : List ℕ) (found : Option Node) → root_in rows d ≡ found → root_allows more found ≡ root_allows nodes found
    still d None e = refl
    still d (Some root) e = allows_grown nodes more root.0 grows (root_stands nodes rows d root stand e).there

-- ---- the same of values that are equal to these

pub due_same : (nodes more : List (Shape ℕ)) (rows now : List (DocumentRow Node)) (due marks : List (List ℕ)) → more ≡ nodes → now ≡ rows → marks ≡ due → AreDue nodes rows due → AreDue more now marks
due_same nodes more rows now due marks e f g is = subst (λ ns. AreDue ns now marks) (sym e) (subst (λ rs. AreDue nodes rs marks) (sym f) (subst (AreDue nodes rows) (sym g) is))

pub due_stay : (nodes : List (Shape ℕ)) (rows : List (DocumentRow Node)) (due now : List (List ℕ)) → MarksStay due now → AreDue nodes rows due → AreDue nodes rows now
due_stay nodes rows due now stays is = record { marked = λ d allows. stays.stay d (is.marked d allows) }

-- ---- a document has this root, and others have theirs

module _ (nodes : List (Shape ℕ)) (rows now : List (DocumentRow Node)) (document : List ℕ) (made : Node) (due marks : List (List ℕ)) where
  due_given : ((d : List ℕ) → root_in now d ≡ cond (is_same d document) (Some made) (root_in rows d)) → AreDue nodes rows due → MarksStay due marks → (tree_allows nodes made.0 ≡ true → IsTrue (is_marked marks document)) → AreDue nodes now marks
  due_given gives is stays marked = record { marked = λ d allows. step d (is_same d document) refl allows }
    where
      given : (d : List ℕ) (b : Bool) → is_same d document ≡ b → document_allows nodes now d ≡ root_allows nodes (cond b (Some made) (root_in rows d))
      given d b e = ap (root_allows nodes) (gives d ∙ ap (λ c. cond c (Some made) (root_in rows d)) e)

      step : (d : List ℕ) (b : Bool) → is_same d document ≡ b → document_allows nodes now d ≡ true → IsTrue (is_marked marks d)
      step d true e allows = subst (λ a. IsTrue (is_marked marks a)) (sym (address_is d document e)) (marked (sym (given d true e) ∙ allows))
      step d false e allows = stays.stay d (is.marked d (sym (given d false e) ∙ allows))

  pub due_rooted : (old : Node) → root_in rows document ≡ Some old → now ≡ with_root rows document made → AreDue nodes rows due → MarksStay due marks → (tree_allows nodes made.0 ≡ true → IsTrue (is_marked marks document)) → AreDue nodes now marks
  due_rooted old was set = due_given (λ d. ap (λ rs. root_in rs d) set ∙ root_set rows document made old was d)

  pub due_added : has_in rows document ≡ false → now ≡ added rows document made → AreDue nodes rows due → MarksStay due marks → (tree_allows nodes made.0 ≡ true → IsTrue (is_marked marks document)) → AreDue nodes now marks
  due_added none come = due_given (λ d. ap (λ rs. root_in rs d) come ∙ root_added rows document made none d)

-- where the root of before allows a step the document is marked
pub marked_before : (nodes : List (Shape ℕ)) (rows : List (DocumentRow Node)) (document : List ℕ) (old : Node) (due : List (List ℕ)) → root_in rows document ≡ Some old → tree_allows nodes old.0 ≡ true → AreDue nodes rows due → IsTrue (is_marked due document)
marked_before nodes rows document old due was allows is = is.marked document (ap (root_allows nodes) was ∙ allows)

pub due_filled : (nodes : List (Shape ℕ)) (rows now : List (DocumentRow Node)) (document : List ℕ) (bytes : ℕ) (due : List (List ℕ)) → now ≡ with_content rows document bytes → AreDue nodes rows due → AreDue nodes now due
due_filled nodes rows now document bytes due filled is = record { marked = λ d allows. is.marked d (sym (ap (root_allows nodes) (ap (λ rs. root_in rs d) filled ∙ content_roots rows document bytes d)) ∙ allows) }

-- ---- all documents have other roots, of which each allows a step where the one before did

abbrev head_of : List Bool → Bool
head_of [] = false
head_of (b ∷ bs) = b

abbrev tail_of : List Bool → List Bool
tail_of [] = []
tail_of (b ∷ bs) = bs

abbrev is_nil : List Bool → Bool
is_nil [] = true
is_nil (b ∷ bs) = false

abbrev root_of : Option (DocumentRow Node) → Option Node
root_of found = option_map (λ (r : DocumentRow Node). r.root) found

abbrev pub AllowedAlike : (old new : List (Shape ℕ)) → List (DocumentRow Node) → List Node → Type 0
AllowedAlike old new rows made = map (tree_allows new) (numbers made) ≡ map (tree_allows old) (roots_in rows)

allowed_alike : (old new : List (Shape ℕ)) (rows : List (DocumentRow Node)) (made : List Node) → AllowedAlike old new rows made → (d : List ℕ) → document_allows new (with_roots made rows) d ≡ document_allows old rows d
allowed_alike old new [] [] same d = refl
allowed_alike old new (row ∷ rows) [] same d = absurd (true≢false (ap is_nil same))
allowed_alike old new [] (m ∷ made) same d = refl
allowed_alike old new (row ∷ rows) (m ∷ made) same d = step (is_of d row) (allowed_alike old new rows made (ap tail_of same) d)
  where
    step : (b : Bool) → document_allows new (with_roots made rows) d ≡ document_allows old rows d
        → root_allows new (root_of (cond b (Some (record row { root = m })) (find (is_of d) (with_roots made rows)))) ≡ root_allows old (root_of (cond b (Some row) (find (is_of d) rows)))
    step true rest = ap head_of same
    step false rest = rest

pub due_swept : (old new : List (Shape ℕ)) (rows now : List (DocumentRow Node)) (made : List Node) (due : List (List ℕ)) → now ≡ with_roots made rows → AllowedAlike old new rows made → AreDue old rows due → AreDue new now due
due_swept old new rows now made due set same is = record { marked = λ d allows. is.marked d (sym (ap (λ rs. document_allows new rs d) set ∙ allowed_alike old new rows made same d) ∙ allows) }

-- ---- marks of documents whose trees allow no step

idle_marked : (nodes : List (Shape ℕ)) (rows : List (DocumentRow Node)) (due : List (List ℕ)) (document : List ℕ) → IsTrue (is_marked due document) → AreIdle nodes rows due → document_allows nodes rows document ≡ false
idle_marked nodes rows [] document is idle = absurd (true≢false (sym is))
idle_marked nodes rows (mark ∷ due) document is idle =
    let parts = either_none (document_allows nodes rows mark) (list_any (document_allows nodes rows) due) idle in
    step (is_same mark document) refl parts.0 is (λ h. idle_marked nodes rows due document h parts.1)
  where
    step : (b : Bool) → is_same mark document ≡ b → document_allows nodes rows mark ≡ false → (b || is_marked due document) ≡ true → (is_marked due document ≡ true → document_allows nodes rows document ≡ false) → document_allows nodes rows document ≡ false
    step true e none h rest = subst (λ a. document_allows nodes rows a ≡ false) (address_is mark document e) none
    step false e none h rest = rest h

-- such marks may go
pub due_left : (nodes : List (Shape ℕ)) (rows : List (DocumentRow Node)) (due : List (List ℕ)) (n : ℕ) → AreIdle nodes rows (drop n due) → AreDue nodes rows due → AreDue nodes rows (take n due)
due_left nodes rows due n idle is = record {
  marked = λ d allows. step d allows (is_marked (take n due) d) refl (sym (list_any-append (λ mark. is_same mark d) (take n due) (drop n due)) ∙ ap (λ marks. is_marked marks d) (take-append-drop n due) ∙ is.marked d allows);
}
  where
    step : (d : List ℕ) → document_allows nodes rows d ≡ true → (b : Bool) → is_marked (take n due) d ≡ b → (b || is_marked (drop n due) d) ≡ true → b ≡ true
    step d allows true e h = refl
    step d allows false e h = absurd (true≢false (sym allows ∙ idle_marked nodes rows (drop n due) d h idle))

-- ---- whether some document's tree allows a step

record Allowing (nodes : List (Shape ℕ)) (rows : List (DocumentRow Node)) : Type 0 where
  k : ℕ
  row : DocumentRow Node
  here : slice_get rows k ≡ Some row
  allows : tree_allows nodes row.root.0 ≡ true

allowing : (nodes : List (Shape ℕ)) (rows : List (DocumentRow Node)) → documents_allow nodes rows ≡ true → Allowing nodes rows
allowing nodes [] e = absurd (true≢false (sym e))
allowing nodes (row ∷ rows) e = step (tree_allows nodes row.root.0) refl e (allowing nodes rows)
  where
    step : (b : Bool) → tree_allows nodes row.root.0 ≡ b → (b || documents_allow nodes rows) ≡ true → (documents_allow nodes rows ≡ true → Allowing nodes rows) → Allowing nodes (row ∷ rows)
    step true own h rest = record { k = zero; row = row; here = refl; allows = own }
    step false own h rest = let behind = rest h in record { k = suc behind.k; row = behind.row; here = behind.here; allows = behind.allows }

none_allow : (nodes : List (Shape ℕ)) (rows : List (DocumentRow Node)) (due : List (List ℕ)) → Ascend rows → AreDue nodes rows due → AreIdle nodes rows due → documents_allow nodes rows ≡ false
none_allow nodes rows due ascend is idle = false_when (documents_allow nodes rows) (λ some. none (allowing nodes rows some))
  where
    none : Allowing nodes rows → ⊥
    none at =
        let allows : document_allows nodes rows at.row.document ≡ true = ap (root_allows nodes) (root_there rows at.k at.row ascend at.here) ∙ at.allows in
        true≢false (sym allows ∙ idle_marked nodes rows due at.row.document (is.marked at.row.document allows) idle)

-- the row of a document whose root is known
pub record FoundAt (rows : List (DocumentRow Node)) (document : List ℕ) (root : Node) : Type 0 where
  pub k : ℕ
  pub row : DocumentRow Node
  pub here : slice_get rows k ≡ Some row
  pub own : row.document ≡ document
  pub is : row.root ≡ root

pub found_row : (rows : List (DocumentRow Node)) (document : List ℕ) (root : Node) → root_in rows document ≡ Some root → FoundAt rows document root
found_row [] document root e = absurd (none_there root (sym e))
found_row (row ∷ rows) document root e = step (is_of document row) refl e (found_row rows document root)
  where
    step : (b : Bool) → is_of document row ≡ b → option_map (λ (r : DocumentRow Node). r.root) (cond b (Some row) (find (is_of document) rows)) ≡ Some root → (root_in rows document ≡ Some root → FoundAt rows document root) → FoundAt (row ∷ rows) document root
    step true own h rest = record { k = zero; row = row; here = refl; own = address_is row.document document own; is = one_value row.root root h }
    step false own h rest = let behind = rest h in record { k = suc behind.k; row = behind.row; here = behind.here; own = behind.own; is = behind.is }

-- the root of a document whose tree allows a step
pub record RootAllows (nodes : List (Shape ℕ)) (rows : List (DocumentRow Node)) (document : List ℕ) : Type 0 where
  pub root : Node
  pub there : root_in rows document ≡ Some root
  pub allows : tree_allows nodes root.0 ≡ true

pub root_allowing : (nodes : List (Shape ℕ)) (rows : List (DocumentRow Node)) (document : List ℕ) → document_allows nodes rows document ≡ true → RootAllows nodes rows document
root_allowing nodes rows document allows = step (root_in rows document) refl allows
  where
    step : (found : Option Node) → root_in rows document ≡ found → root_allows nodes found ≡ true → RootAllows nodes rows document
    step None e h = absurd (true≢false (sym h))
    step (Some root) e h = record { root = root; there = e; allows = h }

some_allow : (nodes : List (Shape ℕ)) (rows : List (DocumentRow Node)) (document : List ℕ) → document_allows nodes rows document ≡ true → documents_allow nodes rows ≡ true
some_allow nodes rows document allows =
    let tree = root_allowing nodes rows document allows in
    let at = found_row rows document tree.root tree.there in
    allows_there nodes rows at.k at.row at.here (ap (λ (n : Node). tree_allows nodes n.0) at.is ∙ tree.allows)

-- ---- as the functions have it

pub some_row : (nodes : List (Shape ℕ)) (rows : List (DocumentRow Node)) (document : List ℕ) (root : Node) → root_in rows document ≡ Some root → tree_allows nodes root.0 ≡ true → documents_allow nodes rows ≡ true
some_row nodes rows document root there allows = some_allow nodes rows document (ap (root_allows nodes) there ∙ allows)

positive : (n : ℕ) → nat_lt 0 (suc n) ≡ true
positive n = grind (arith, nat_tests)

pub some_left : (nodes : List (Shape ℕ)) (rows : List (DocumentRow Node)) (due : List (List ℕ)) (left : ℕ) → Ascend rows → AreDue nodes rows due → AreIdle nodes rows (drop left due) → (0 < left → IsLastDue nodes rows due left) → nat_lt 0 left ≡ documents_allow nodes rows
some_left nodes rows due zero ascend is idle last = sym (none_allow nodes rows due ascend is idle)
some_left nodes rows due (suc n) ascend is idle last = let it = last (omega arith) in positive n ∙ sym (some_allow nodes rows it.document it.allows)

pub none_left : (nodes : List (Shape ℕ)) (rows : List (DocumentRow Node)) (due : List (List ℕ)) (left : ℕ) → Ascend rows → AreDue nodes rows due → AreIdle nodes rows (drop left due) → left ≡ 0 → documents_allow nodes rows ≡ false
none_left nodes rows due left ascend is idle none = none_allow nodes rows due ascend is (subst (λ n. AreIdle nodes rows (drop n due)) none idle)

-- the last mark that is left
pub last_left : (nodes : List (Shape ℕ)) (rows : List (DocumentRow Node)) (due : List (List ℕ)) (left : ℕ) (it : IsLastDue nodes rows due left) → slice_get (take left due) (left - 1) ≡ Some it.document
last_left nodes rows due left it = subst (λ n. slice_get (take n due) (n - 1) ≡ Some it.document) (sym it.is) (subst (λ k. slice_get (take (it.before + 1) due) k ≡ Some it.document) (omega arith) (taken due it.before (it.before + 1) (omega arith) it.last))
  where
    taken : (marks : List (List ℕ)) (k n : ℕ) → k < n → slice_get marks k ≡ Some it.document → slice_get (take n marks) k ≡ Some it.document
    taken [] k n lt e = absurd (none_there it.document (sym e))
    taken (m ∷ marks) k zero lt e = absurd (omega (arith, lt))
    taken (m ∷ marks) zero (suc n) lt e = e
    taken (m ∷ marks) (suc k) (suc n) lt e = taken marks k n (omega (arith, lt)) e

pub marked_at : (due : List (List ℕ)) (k : ℕ) (document : List ℕ) → slice_get due k ≡ Some document → IsTrue (is_marked due document)
marked_at due k document e = any_passes_from_place (λ mark. is_same mark document) due k document e (address_alike document)

-- marks behind the last that is left go, and the document of that one has a root
module _ (nodes : List (Shape ℕ)) (rows : List (DocumentRow Node)) (due seen now : List (List ℕ)) (left : ℕ) (same : seen ≡ due) (cut : now ≡ take left due) where
  pub due_cut : AreIdle nodes rows (drop left seen) → AreDue nodes rows due → AreDue nodes rows now
  due_cut idle is = subst (AreDue nodes rows) (sym cut) (due_left nodes rows due left (subst (λ marks. AreIdle nodes rows (drop left marks)) same idle) is)

  pub none_due : Ascend rows → AreIdle nodes rows (drop left seen) → AreDue nodes rows due → left ≡ 0 → documents_allow nodes rows ≡ false
  none_due ascend idle is none = none_left nodes rows due left ascend is (subst (λ marks. AreIdle nodes rows (drop left marks)) same idle) none

  module _ (last : 0 < left → IsLastDue nodes rows seen left) (some : 0 < left) (document : List ℕ) (read : Some document ≡ slice_get now (left - 1)) where
    pub last_allows : document_allows nodes rows document ≡ true
    last_allows =
        let it = last some in
        ap (document_allows nodes rows) (one_value document it.document (read ∙ ap (λ marks. slice_get marks (left - 1)) (cut ∙ ap (take left) (sym same)) ∙ last_left nodes rows seen left it)) ∙ it.allows

    pub has_root : (found : Option Node) → found ≡ root_in rows document → found ≡ None → ⊥
    has_root found is none = true≢false (sym last_allows ∙ ap (root_allows nodes) (sym is ∙ none))

    pub due_found : (copy : List ℕ) (root : Node) → copy ≡ document → Some root ≡ root_in rows document → IsDueTree nodes rows now (copy, root)
    due_found copy root alike there = record {
      root = ap (root_in rows) alike ∙ sym there;
      allows = ap (root_allows nodes) there ∙ last_allows;
      marked = subst (λ a. IsTrue (is_marked now a)) (sym alike) (marked_at now (left - 1) document (sym read));
    }

-- ---- a step of the balancer in a marked document's tree

module _ (nodes more : List (Shape ℕ)) (rows : List (DocumentRow Node)) (document : List ℕ) (root : Node) (made : Balance) (there : root_in rows document ≡ Some root) (allows : tree_allows nodes root.0 ≡ true) where
  pub place : ℕ
  place = (found_row rows document root there).k

  pub step_found : RootsStand nodes rows → Ascend rows → DebtsStay nodes → KeepsRows nodes more → Grows nodes more → rows_of more (root_after root made).0 ≡ rows_of nodes root.0 → (IsRoot nodes root.0 → IsRoot more (root_after root made).0)
      → (is_idle made ≡ false → tree_debt more (root_after root made).0 + 1 ≤ tree_debt nodes root.0) → is_idle made ≡ not (tree_allows nodes root.0) → IsStep nodes more rows place document root made
  unfolding place
  step_found stand ascend stay kept grows rows_same document_is lowers idle =
      let at = found_row rows document root there in
      record {
        stand = stand;
        ascend = ascend;
        stay = stay;
        read_root = sym (ap (option_map (λ (row : DocumentRow Node). row.root)) at.here ∙ ap Some at.is);
        read_document = sym (slice_get-map (λ (row : DocumentRow Node). row.document) rows at.k ∙ ap (option_map (λ (row : DocumentRow Node). row.document)) at.here ∙ ap Some at.own);
        allows = (at.row, at.here, ap (λ (n : Node). tree_allows nodes n.0) at.is ∙ allows);
        kept = kept;
        grows = grows;
        rows_same = rows_same;
        document_is = document_is;
        lowers = lowers;
        idle = idle;
      }
