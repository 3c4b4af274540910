-- Ends with joined spans ask for the same.
use Rattle.std.proofs.Common.{◌≡◌, ◌≢◌, ℕ, zero, suc, ◌+◌, ◌<◌, Bool, ◌&&◌, ◌||◌, cond, Some, List, [], ◌∷◌, length, take, filter, refl, sym, ap, ◌∙◌, arith, length-append}
use Rattle.tumbler.specs.Places.{width_at, comes_before}
use Rattle.tumbler.specs.declared.span.Span.{Span}
use Rattle.febe_data.specs.declared.run.Run.{Run}
use Rattle.enfilade_core.specs.declared.tree.Row.{Row}
use Rattle.spanfilade.specs.Index.{row_of}
use Rattle.spanfilade.specs.Keys.{is_met_by}
use Rattle.world_rules.specs.World.{LinkRow, content_address}
use Rattle.world_rules.specs.Finding.{is_home_wanted}
use Rattle.links.specs.declared.row.WantedEnds.{WantedEnds}
use Rattle.links.specs.LinkLists.{IsRun, run_span, ids_in}
use Rattle.links.specs.Finding.{is_end_met, is_wanted, found_in}
use Rattle.links.specs.inside.Joined.{AsksTheSame, WantsTheSame}

-- spans that meet the same rows meet the same runs
pub asks_the_same : (made spans : List Span) → ((row : Row (List ℕ)) → is_met_by made row ≡ is_met_by spans row) → (runs : List Run) → is_end_met (Some made) runs ≡ is_end_met (Some spans) runs
asks_the_same made spans met [] = refl
asks_the_same made spans met (run ∷ runs) = λ i. met (row_of (run_span run) []) i || asks_the_same made spans met runs i

pub wants_the_same : (one other : WantedEnds) → AsksTheSame one.from other.from → AsksTheSame one.to other.to → AsksTheSame one.three other.three → WantsTheSame one other
wants_the_same one other from to three homes link = λ i. is_home_wanted homes link.home && from link.from i && to link.to i && three link.three i

filter_same : (p q : LinkRow → Bool) → ((link : LinkRow) → p link ≡ q link) → (links : List LinkRow) → filter p links ≡ filter q links
filter_same p q same [] = refl
filter_same p q same (link ∷ links) = λ i. cond (same link i) (link ∷ filter_same p q same links i) (filter_same p q same links i)

pub found_the_same : (links : List LinkRow) (homes : List Span) (one other : WantedEnds) (after : List ℕ) (limit : ℕ) → WantsTheSame one other → found_in links homes one after limit ≡ found_in links homes other after limit
found_the_same links homes one other after limit same =
    ap (λ (ls : List LinkRow). take limit (filter (λ id. comes_before after id) (ids_in ls))) (filter_same (is_wanted homes one) (is_wanted homes other) (same homes) links)

-- ---- a run takes up some places

some_width : (long n : ℕ) → 0 < long → 0 < n → width_at long n ≢ []
some_width zero n some filled e = absurd (omega arith)
some_width (suc long) zero some filled e = absurd (omega arith)
some_width (suc zero) (suc n) some filled e = cc
some_width (suc (suc long)) (suc n) some filled e = cc

address_long : (document : List ℕ) (n : ℕ) → 0 < length (content_address document n)
address_long document n = let long : length (content_address document n) ≡ length document + 3 = length-append document (0 ∷ 1 ∷ n ∷ []) in omega arith

pub run_wide_at : (run : Run) (start slice width : List ℕ) → IsRun run → start ≡ content_address run.content run.first → slice ≡ start → width ≡ width_at (length slice) run.length → width ≢ []
run_wide_at run start slice width is starts slices widths e =
    some_width (length (content_address run.content run.first)) run.length (address_long run.content run.first) is.some (ap (λ (xs : List ℕ). width_at (length xs) run.length) (sym starts ∙ sym slices) ∙ sym widths ∙ e)
