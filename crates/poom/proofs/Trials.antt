-- What tests know of runs that they make or pick, of cuts, and of roots that stay.
use Rattle.std.proofs.Common.{◌≡◌, ℕ, ◌+◌, ◌^◌, ◌<◌, ◌≤◌, Bool, true, false, if◌then◌else◌, List, [], ◌∷◌, ◌++◌, length, ap, subst, sym, ◌∙◌, append-nil, arith, refl}
use Rattle.std.specs.List.{All}
use Rattle.std.proofs.lemmas.List.Elements.{All-nil, All-cons}
use Rattle.std.proofs.lemmas.List.{length-append}
use Rattle.tumbler.specs.Address.{IsDocument}
use Rattle.tumbler.specs.declared.span.Span.{Span}
use Rattle.enfilade_core.specs.Rows.{Shape}
use Rattle.enfilade_core.specs.Edits.{KeepsRows}
use Rattle.enfilade_core.specs.Exchange.{Grows}
use Rattle.febe_data.specs.declared.run.Run.{Run}
use Rattle.poom.specs.Pieces.{addresses_from}
use Rattle.poom.specs.Edited.{IsContentRun, run_addresses}
use Rattle.poom.specs.Laid.{IsRoot, IsOneDocument, AreCuts}
use Rattle.poom.specs.Picked.{is_picked, picked_from}
use Rattle.poom.proofs.Back.{length-addresses}

pub one_content : (run : Run) (none runs : List Run) → none ≡ [] → runs ≡ none ++ run ∷ [] → IsDocument run.content → 1 ≤ run.first → 1 ≤ run.length → run.first + run.length < 2 ^ 32 → All IsContentRun runs
one_content run none runs n e document one filled fits =
    subst (All IsContentRun) (sym (e ∙ ap (λ (front : List Run). front ++ run ∷ []) n)) (All-cons IsContentRun run [] (record { document = document; from_one = one; filled = filled; fits = fits }) (All-nil IsContentRun))

pub one_long : (run : Run) (none runs : List Run) → none ≡ [] → runs ≡ none ++ run ∷ [] → length (run_addresses runs) ≡ run.length
one_long run none runs n e =
    ap (λ (rs : List Run). length (run_addresses rs)) (e ∙ ap (λ (front : List Run). front ++ run ∷ []) n)
    ∙ (ap length (append-nil (addresses_from 1 run.content run.first run.length)) ∙ length-addresses 1 run.content run.first run.length)

pub ruleset trials = (one_content, one_long)

-- ---- a root stays one while nodes come in

pub root_stays : (old new : List (Shape ℕ)) (k : ℕ) → IsRoot old k → KeepsRows old new → Grows old new → IsRoot new k
root_stays old new k root kept grows = record {
  there = let there = root.there in let long = ap length grows.is in omega (arith, there, long, length-append old grows.more);
  document = subst IsOneDocument (sym (kept k root.there)) root.document;
}

pub nothing_changes : (nodes : List (Shape ℕ)) → KeepsRows nodes nodes
nothing_changes nodes k below = refl

pub ruleset staying = (root_stays, nothing_changes)

-- ---- a span picks no more than there is

picked_few : (part : ℕ) (span : Span) (n : ℕ) (xs : List (List ℕ)) → length (picked_from part span n xs) ≤ length xs
picked_few part span n [] = omega arith
picked_few part span n (x ∷ xs) = step (is_picked span (part ∷ n ∷ [])) (picked_few part span (n + 1) xs)
  where
    step : (b : Bool) → length (picked_from part span (n + 1) xs) ≤ length xs → length (if b then x ∷ picked_from part span (n + 1) xs else picked_from part span (n + 1) xs) ≤ length (x ∷ xs)
    step true h = omega (arith, h)
    step false h = omega (arith, h)

pub picked_within : (span : Span) (xs found : List (List ℕ)) (long most : ℕ) → found ≡ picked_from 1 span 1 xs → long ≡ length xs → long ≤ most → length found ≤ most
picked_within span xs found long most is e within =
    let few = picked_few 1 span 1 xs in
    let same = ap length is in
    omega (arith, few, same, e, within)

-- ---- cuts

pub three_cuts : (a b c end : ℕ) (cuts : List ℕ) → cuts ≡ a ∷ b ∷ c ∷ [] → 1 ≤ a → a ≤ b → b ≤ c → c ≤ end → AreCuts cuts end
three_cuts a b c end cuts is one ab bc to = subst (λ xs. AreCuts xs end) (sym is) (one, ab, bc, to)

pub four_cuts : (a b c d end : ℕ) (cuts : List ℕ) → cuts ≡ a ∷ b ∷ c ∷ d ∷ [] → 1 ≤ a → a ≤ b → b ≤ c → c ≤ d → d ≤ end → AreCuts cuts end
four_cuts a b c d end cuts is one ab bc cd to = subst (λ xs. AreCuts xs end) (sym is) (one, ab, bc, cd, to)

pub ruleset cutting = (three_cuts, four_cuts)
