-- What tests ask: whether an id is new, and what stands at a mark after a link came in.
use Rattle.std.proofs.Common.{◌≡◌, ◌∙◌, ◌||◌, ◌≤◌, ℕ, Bool, true, false, List, [], ◌∷◌, ◌++◌, length, take, Option, Some, None, refl, sym, ap, subst}
use Rattle.std.specs.Prelude.{cond, not, is_none}
use Rattle.std.specs.List.{All, find, list_any}
use Rattle.std.proofs.lemmas.List.Elements.{All-push}
use Rattle.tumbler.specs.declared.span.Span.{Span}
use Rattle.tumbler.specs.Span.{SpanFits}
use Rattle.febe_data.specs.declared.run.Run.{Run}
use Rattle.enfilade_core.specs.declared.tree.TreeMark.{TreeMark}
use Rattle.enfilade_core.specs.Exchange.{Grows}
use Rattle.spanfilade.specs.Index.{IndexTree, mark_of, at_mark}
use Rattle.world_rules.specs.World.{LinkRow}
use Rattle.links.specs.declared.row.LinkMarks.{LinkMarks}
use Rattle.links.specs.LinkLists.{LinkLists, AllGrow, HoldsRuns, IsRun, is_of, has_in, link_in, added, removed, marks_of, at_marks}
use Rattle.links.proofs.EndsKept.{added_removed, marked_within}

found_or_not : {X : Type 0} (p : X → Bool) (xs : List X) → not (is_none (find p xs)) ≡ list_any p xs
found_or_not p [] = refl
found_or_not {X} p (x ∷ xs) = step (p x) (found_or_not p xs)
  where
    step : (b : Bool) → not (is_none (find p xs)) ≡ list_any p xs → not (is_none (cond b (Some x) (find p xs))) ≡ (b || list_any p xs)
    step true rest = refl
    step false rest = rest

pub is_new : (links : List LinkRow) (id : List ℕ) → None ≡ link_in links id → has_in links id ≡ false
is_new links id none = sym (found_or_not (is_of id) links) ∙ sym (ap (λ (found : Option LinkRow). not (is_none found)) none)

front_is : {X : Type 0} (xs ys : List X) → take (length xs) (xs ++ ys) ≡ xs
front_is [] ys = refl
front_is {X} (x ∷ xs) ys = ap (λ (l : List X). x ∷ l) (front_is xs ys)

at_own_mark : (old new : IndexTree) → Grows old.nodes new.nodes → at_mark (mark_of old) new ≡ old
at_own_mark old new grows = λ i. record { nodes = (ap (take (length old.nodes)) grows.is ∙ front_is old.nodes grows.more) i; root = old.root }

again : (end : ℕ) (mark : TreeMark) (links now : List LinkRow) (old new : IndexTree) → now ≡ links → mark ≡ mark_of old → Grows old.nodes new.nodes → HoldsRuns end links old → HoldsRuns end now (at_mark mark new)
again end mark links now old new same at grows holds =
    subst (HoldsRuns end now) (sym (ap (λ (m : TreeMark). at_mark m new) at ∙ at_own_mark old new grows)) (subst (λ (ls : List LinkRow). HoldsRuns end ls old) (sym same) holds)

-- a link came in, and goes again
module _ (link : LinkRow) (id : List ℕ) (marks : LinkMarks) (old new : LinkLists) (own : id ≡ link.id) (lacks : has_in old.links link.id ≡ false) (at : marks ≡ marks_of old) (came : new.links ≡ added old.links link) where
  gone : removed new.links id ≡ old.links
  gone = ap (λ (ls : List LinkRow). removed ls id) came ∙ ap (removed (added old.links link)) own ∙ added_removed old.links link lacks

  pub links_again : (back : LinkLists) → back ≡ at_marks id marks new → back.links ≡ old.links
  links_again back is = ap (λ (lists : LinkLists). lists.links) is ∙ gone

  module _ (grow : AllGrow old new) where
    pub counted_again : (marks.from.count ≤ length new.from.nodes) × (marks.to.count ≤ length new.to.nodes) × (marks.three.count ≤ length new.three.nodes)
    counted_again = (
      marked_within old.from new.from marks.from grow.from (ap (λ (m : LinkMarks). m.from) at),
      marked_within old.to new.to marks.to grow.to (ap (λ (m : LinkMarks). m.to) at),
      marked_within old.three new.three marks.three grow.three (ap (λ (m : LinkMarks). m.three) at),
    )

    pub from_again : HoldsRuns 1 old.links old.from → HoldsRuns 1 (removed new.links id) (at_mark marks.from new.from)
    from_again holds = again 1 marks.from old.links (removed new.links id) old.from new.from gone (ap (λ (m : LinkMarks). m.from) at) grow.from holds

    pub to_again : HoldsRuns 2 old.links old.to → HoldsRuns 2 (removed new.links id) (at_mark marks.to new.to)
    to_again holds = again 2 marks.to old.links (removed new.links id) old.to new.to gone (ap (λ (m : LinkMarks). m.to) at) grow.to holds

    pub three_again : HoldsRuns 3 old.links old.three → HoldsRuns 3 (removed new.links id) (at_mark marks.three new.three)
    three_again holds = again 3 marks.three old.links (removed new.links id) old.three new.three gone (ap (λ (m : LinkMarks). m.three) at) grow.three holds

pub runs_more : (runs now : List Run) (run : Run) → now ≡ runs ++ run ∷ [] → All IsRun runs → IsRun run → All IsRun now
runs_more runs now run is each right = subst (All IsRun) (sym is) (All-push IsRun runs run each right)

pub spans_more : (spans now : List Span) (span : Span) → now ≡ spans ++ span ∷ [] → All SpanFits spans → SpanFits span → All SpanFits now
spans_more spans now span is each right = subst (All SpanFits) (sym is) (All-push SpanFits spans span each right)

pub ruleset trials = (is_new)

pub ruleset goes_again = (links_again, counted_again, from_again, to_again, three_again)
