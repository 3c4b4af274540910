-- What is left where what a span picks has gone.
use Rattle.std.proofs.Common.{◌≡◌, ◌≢◌, ℕ, zero, suc, ◌+◌, ◌-◌, ◌<◌, ◌≤◌, ◌&&◌, not, Bool, true, false, List, [], ◌∷◌, ◌++◌, length, take, drop, refl, arith, ap, sym, subst, ◌∙◌, inl, inr}
use Rattle.std.specs.Prelude.{◌⊎◌}
use Rattle.std.proofs.lemmas.List.{length-append}
use Rattle.std.proofs.lemmas.List.Elements.{All-nil, All-head}
use Rattle.std.specs.List.{All}
use Rattle.tumbler.specs.declared.span.Span.{Span}
use Rattle.tumbler.specs.Places.{comes_before}
use Rattle.tumbler.specs.Span.{end_of}
use Rattle.enfilade_core.specs.declared.tree.Row.{Row}
use Rattle.enfilade_core.specs.Rows.{Shape, rows_of}
use Rattle.enfilade_core.specs.Planes.{text_widths}
use Rattle.enfilade_balance.specs.Depth.{KeepsDepth}
use Rattle.enfilade_core.specs.Edits.{KeepsRows}
use Rattle.enfilade_core.specs.Exchange.{Grows}
use Rattle.poom.specs.declared.part.Part.{Part}
use Rattle.poom.specs.declared.part.Part.TheVariants.{Text, Links}
use Rattle.poom.specs.declared.piece.Piece.{Piece}
use Rattle.poom.specs.Pieces.{IsPiece, addresses_from, laid, rows_from, pieces_in}
use Rattle.poom.specs.Laid.{part_number, most_in, standing_in, texts, links, exchanged_at, IsRoot, IsOneDocument}
use Rattle.poom.specs.Picked.{is_picked, left_from}
use Rattle.poom.specs.Bounds.{IsBound}
use Rattle.poom.proofs.Places.{if_true, if_false}
use Rattle.poom.proofs.Looks.{fits_in}

-- positions from n on, as long as there are some: the span picks exactly those from a on and before b
pub record Picks (part : ℕ) (span : Span) (a b n long : ℕ) : Type 0 where
  pub inside : (m : ℕ) → n ≤ m → m < n + long → a ≤ m → m < b → is_picked span (part ∷ m ∷ []) ≡ true
  pub front : (m : ℕ) → n ≤ m → m < n + long → m < a → is_picked span (part ∷ m ∷ []) ≡ false
  pub back : (m : ℕ) → n ≤ m → m < n + long → b ≤ m → is_picked span (part ∷ m ∷ []) ≡ false

pub later_picks : (part : ℕ) (span : Span) (a b n long : ℕ) → Picks part span a b n (suc long) → Picks part span a b (n + 1) long
later_picks part span a b n long p = record {
  inside = λ m h l from to. p.inside m (omega arith) (omega arith) from to;
  front = λ m h l to. p.front m (omega arith) (omega arith) to;
  back = λ m h l from. p.back m (omega arith) (omega arith) from;
}

nothing_left : (i j : ℕ) → take {A = List ℕ} i [] ++ drop j [] ≡ []
nothing_left zero zero = refl
nothing_left zero (suc j) = refl
nothing_left (suc i) zero = refl
nothing_left (suc i) (suc j) = refl

-- what is left, position by position
pub left-is : (part : ℕ) (span : Span) (a b n : ℕ) (xs : List (List ℕ)) → a ≤ b → Picks part span a b n (length xs) → left_from part span n xs ≡ take (a - n) xs ++ drop (b - n) xs
left-is part span a b n [] h p = sym (nothing_left (a - n) (b - n))
left-is part span a b n (x ∷ xs) h p =
    let rest = left-is part span a b (n + 1) xs h (later_picks part span a b n (length xs) p) in
    let gone = left_from part span (n + 1) xs in
    let test = is_picked span (part ∷ n ∷ []) in
    let split : (n < a) ⊎ (a ≤ n) = grind arith in
    let split_again : (n < b) ⊎ (b ≤ n) = grind arith in
    elim split [
      | inl front ↦
          let ea : a - n ≡ suc (a - (n + 1)) = omega arith in
          let eb : b - n ≡ suc (b - (n + 1)) = omega arith in
          if_false test gone (x ∷ gone) (p.front n (omega arith) (omega arith) front)
          ∙ (ap (λ (more : List (List ℕ)). x ∷ more) rest
          ∙ sym (ap (λ (i : ℕ). take i (x ∷ xs) ++ drop (b - n) (x ∷ xs)) ea ∙ ap (λ (j : ℕ). take (suc (a - (n + 1))) (x ∷ xs) ++ drop j (x ∷ xs)) eb))
      | inr from ↦ elim split_again [
        | inl to ↦
            let ea : a - n ≡ 0 = omega arith in
            let ez : a - (n + 1) ≡ 0 = omega arith in
            let eb : b - n ≡ suc (b - (n + 1)) = omega arith in
            if_true test gone (x ∷ gone) (p.inside n (omega arith) (omega arith) from to)
            ∙ (rest
            ∙ (ap (λ (i : ℕ). take i xs ++ drop (b - (n + 1)) xs) ez
            ∙ sym (ap (λ (i : ℕ). take i (x ∷ xs) ++ drop (b - n) (x ∷ xs)) ea ∙ ap (λ (j : ℕ). take 0 (x ∷ xs) ++ drop j (x ∷ xs)) eb)))
        | inr back ↦
            let ea : a - n ≡ 0 = omega arith in
            let ez : a - (n + 1) ≡ 0 = omega arith in
            let eb : b - n ≡ 0 = omega arith in
            let ey : b - (n + 1) ≡ 0 = omega arith in
            if_false test gone (x ∷ gone) (p.back n (omega arith) (omega arith) back)
            ∙ (ap (λ (more : List (List ℕ)). x ∷ more) (rest ∙ (ap (λ (i : ℕ). take i xs ++ drop (b - (n + 1)) xs) ez ∙ ap (λ (j : ℕ). take 0 xs ++ drop j xs) ey))
            ∙ sym (ap (λ (i : ℕ). take i (x ∷ xs) ++ drop (b - n) (x ∷ xs)) ea ∙ ap (λ (j : ℕ). take 0 (x ∷ xs) ++ drop j (x ∷ xs)) eb))
      ]
    ]

left_all : (part : ℕ) (span : Span) (n : ℕ) (xs : List (List ℕ)) → ((m : ℕ) → n ≤ m → m < n + length xs → is_picked span (part ∷ m ∷ []) ≡ false) → left_from part span n xs ≡ xs
left_all part span n [] h = refl
left_all part span n (x ∷ xs) h =
    if_false (is_picked span (part ∷ n ∷ [])) (left_from part span (n + 1) xs) (x ∷ left_from part span (n + 1) xs) (h n (omega arith) (omega arith))
    ∙ ap (λ (more : List (List ℕ)). x ∷ more) (left_all part span (n + 1) xs (λ m from to. h m (omega arith) (omega arith)))

both_true : (x y : Bool) → x ≡ false → y ≡ true → (not x && y) ≡ true
both_true false true e f = refl
both_true true y e f = cc
both_true false false e f = cc

first_false : (x y : Bool) → x ≡ true → (not x && y) ≡ false
first_false true y e = refl
first_false false y e = cc

second_false : (x y : Bool) → y ≡ false → (not x && y) ≡ false
second_false true y e = refl
second_false false false e = refl
second_false false true e = cc

pub picks_by : (part : ℕ) (span : Span) (end : List ℕ) (long a b : ℕ) → end ≡ end_of span → IsBound part span.start long a → IsBound part end long b → Picks part span a b 1 long
picks_by part span end long a b e f t =
    let to : IsBound part (end_of span) long b = subst (λ (s : List ℕ). IsBound part s long b) e t in
    record {
      inside = λ m h l from up. both_true (comes_before (part ∷ m ∷ []) span.start) (comes_before (part ∷ m ∷ []) (end_of span)) (f.past m from (omega arith)) (to.before m (omega arith) up);
      front = λ m h l up. first_false (comes_before (part ∷ m ∷ []) span.start) (comes_before (part ∷ m ∷ []) (end_of span)) (f.before m (omega arith) up);
      back = λ m h l from. second_false (comes_before (part ∷ m ∷ []) span.start) (comes_before (part ∷ m ∷ []) (end_of span)) (to.past m from (omega arith));
    }

pub left_between : (part a b : ℕ) (span : Span) (end : List ℕ) (long : ℕ) (S now : List (List ℕ)) → end ≡ end_of span → IsBound part span.start long a → IsBound part end long b → long ≡ length S → a < b
    → now ≡ exchanged_at a b (laid part []) S → now ≡ left_from part span 1 S
left_between part a b span end long S now e f t same h is =
    let p : Picks part span a b 1 (length S) = subst (Picks part span a b 1) same (picks_by part span end long a b e f t) in
    is ∙ sym (left-is part span a b 1 S (omega arith) p)

pub all_left : (part a b : ℕ) (span : Span) (end : List ℕ) (long : ℕ) (S : List (List ℕ)) → end ≡ end_of span → IsBound part span.start long a → IsBound part end long b → long ≡ length S → b ≤ a → S ≡ left_from part span 1 S
all_left part a b span end long S e f t same h =
    let p : Picks part span a b 1 (length S) = subst (Picks part span a b 1) same (picks_by part span end long a b e f t) in
    let split : (m : ℕ) → (m < a) ⊎ (b ≤ m) = (λ m. grind arith) in
    sym (left_all part span 1 S (λ m from to. elim (split m) [
      | inl front ↦ p.front m from to front
      | inr back ↦ p.back m from to back
    ]))

most_fits : (part : Part) (nodes : List (Shape ℕ)) (k : ℕ) → IsRoot nodes k → length (standing_in part (rows_of nodes k)) ≤ most_in part
most_fits Text nodes k root = root.document.text_fits
most_fits Links nodes k root = root.document.links_fit

up_to_most : (a b c : ℕ) → a ≤ b → b ≤ c → a ≤ c
up_to_most a b c h l = omega arith

shorter : {X : Type 0} (i j : ℕ) (xs : List X) → i ≤ j → length (take i xs ++ drop j xs) ≤ length xs
shorter zero zero xs h = omega arith
shorter zero (suc j) [] h = omega arith
shorter zero (suc j) (x ∷ xs) h = let rest = shorter zero j xs (omega arith) in omega arith
shorter (suc i) zero xs h = absurd (omega arith)
shorter (suc i) (suc j) [] h = omega arith
shorter (suc i) (suc j) (x ∷ xs) h = let rest = shorter i j xs (omega arith) in omega arith

pub deleted_fits : (part : Part) (nodes : List (Shape ℕ)) (k a b : ℕ) → IsRoot nodes k → a < b → length (exchanged_at a b (laid (part_number part) []) (standing_in part (rows_of nodes k))) ≤ most_in part
deleted_fits part nodes k a b root h =
    let S = standing_in part (rows_of nodes k) in
    let less : a - 1 ≤ b - 1 = omega arith in
    let short : length (take (a - 1) S ++ drop (b - 1) S) ≤ length S = shorter (a - 1) (b - 1) S less in
    up_to_most (length (take (a - 1) S ++ drop (b - 1) S)) (length S) (most_in part) short (most_fits part nodes k root)

pub no_piece : All IsPiece []
no_piece = All-nil IsPiece

pub bound_from_one : (part long n : ℕ) (s : List ℕ) → IsBound part s long n → 1 ≤ n
bound_from_one part long n s b = b.from_one

pub bound_to_end : (part long n : ℕ) (s : List ℕ) → IsBound part s long n → n ≤ 1 + long
bound_to_end part long n s b = let h = b.to_end in omega arith

pub ruleset deletes = (left_between, all_left, deleted_fits, no_piece, bound_from_one, bound_to_end, fits_in)

-- ---- two edits, one after another

pub rows_kept : (old mid new : List (Shape ℕ)) → KeepsRows old mid → Grows old mid → KeepsRows mid new → (k : ℕ) → k < length old → rows_of new k ≡ rows_of old k
rows_kept old mid new a g b k h =
    let long = ap length g.is in
    let sum = length-append old g.more in
    b k (omega arith) ∙ a k h

pub text_twice : (span : Span) (first second third : List (List ℕ)) → second ≡ left_from 1 span 1 first → third ≡ second → third ≡ left_from 1 span 1 first
text_twice span first second third a b = b ∙ a

pub links_twice : (span : Span) (first second third : List (List ℕ)) → second ≡ first → third ≡ left_from 2 span 1 second → third ≡ left_from 2 span 1 first
links_twice span first second third a b = b ∙ ap (left_from 2 span 1) a

-- pieces that lay out no address are none
none_laid : (part : ℕ) (pieces : List Piece) → All IsPiece pieces → laid part pieces ≡ [] → pieces ≡ []
none_laid part [] each none = refl
none_laid part (piece ∷ pieces) each none = absurd (by_count piece.count (All-head IsPiece piece pieces each).filled none)
  where
    by_count : (n : ℕ) → 1 ≤ n → addresses_from part piece.document piece.first n ++ laid part pieces ≡ [] → ⊥
    by_count zero filled e = omega (arith, filled)
    by_count (suc n) filled e = let never : ⊥ = cc in never

both_none : (xs ys : List (List ℕ)) → xs ++ ys ≡ [] → (xs ≡ []) × (ys ≡ [])
both_none [] ys e = (refl, e)
both_none (x ∷ xs) ys e = let never : ⊥ = cc in absurd never

-- a document that has rows has text or links
some_stands : (rows : List (Row ℕ)) → IsOneDocument rows → rows ≢ [] → texts rows ++ links rows ≢ []
some_stands rows document some none =
    let both = both_none (texts rows) (links rows) none in
    some (document.gapless ∙ (λ i. rows_from 1 1 (none_laid 1 (pieces_in 1 rows) document.text_pieces both.0 i) ++ rows_from 2 1 (none_laid 2 (pieces_in 2 rows) document.link_pieces both.1 i)))

-- a tree that has rows at the end had some between
pub level_twice : (old mid new : List (Shape ℕ)) (root middle made : ℕ) (span : Span) → KeepsDepth text_widths old root mid middle → KeepsDepth text_widths mid middle new made → texts (rows_of new made) ≡ texts (rows_of mid middle) → links (rows_of new made) ≡ left_from 2 span 1 (links (rows_of mid middle)) → IsRoot new made
    → KeepsDepth text_widths old root new made
level_twice old mid new root middle made span first second text link document some =
    let there : rows_of mid middle ≢ [] = λ none. some_stands (rows_of new made) document.document some (ap (λ xs. xs ++ links (rows_of new made)) (text ∙ ap texts none) ∙ link ∙ ap (λ rows. left_from 2 span 1 (links rows)) none) in
    second some ∙ first there

pub ruleset deleted = (rows_kept, text_twice, links_twice, level_twice)
