-- What stands in a text whose blocks change places.
use Rattle.std.proofs.Common.{◌≡◌, ℕ, ◌+◌, ◌-◌, ◌≤◌, List, ◌++◌, length, take, drop, arith, ap, sym, subst, ◌∙◌}
use Rattle.std.proofs.lemmas.List.{length-append, length-take-le, length-drop}
use Rattle.poom.specs.declared.piece.Piece.{Piece}
use Rattle.poom.specs.Pieces.{laid}
use Rattle.poom.specs.Laid.{exchanged_at, between, swapped_at}

pub record AreBlocks (first second third fourth : ℕ) (S : List (List ℕ)) (last middle front joined all : List Piece) : Type 0 where
  pub last_is : laid 1 last ≡ between third fourth S
  pub middle_is : laid 1 middle ≡ between second third S
  pub joined_is : (part : ℕ) → laid part joined ≡ laid part last ++ laid part middle
  pub front_is : laid 1 front ≡ between first second S
  pub all_is : (part : ℕ) → laid part all ≡ laid part joined ++ laid part front

blocks : (first second third fourth : ℕ) (S : List (List ℕ)) (last middle front joined all : List Piece) → AreBlocks first second third fourth S last middle front joined all
    → laid 1 all ≡ between third fourth S ++ between second third S ++ between first second S
blocks first second third fourth S last middle front joined all b =
    b.all_is 1
    ∙ (ap (λ (f : List (List ℕ)). f ++ laid 1 front) (b.joined_is 1 ∙ (ap (λ (f : List (List ℕ)). f ++ laid 1 middle) b.last_is ∙ ap (λ (m : List (List ℕ)). between third fourth S ++ m) b.middle_is))
    ∙ ap (λ (m : List (List ℕ)). (between third fourth S ++ between second third S) ++ m) b.front_is)

up : {first : ℕ} (n : ℕ) → 1 ≤ first → first ≤ n → 1 ≤ n
up n h l = omega arith

up_to : (a b c : ℕ) → a ≤ b → b ≤ c → a ≤ c
up_to a b c h l = omega arith

long-between : (a b : ℕ) (S : List (List ℕ)) → 1 ≤ a → a ≤ b → b ≤ 1 + length S → length (between a b S) + a ≡ b
long-between a b S h l m =
    let rest = length-drop (a - 1) S in
    let short : b - a ≤ length (drop (a - 1) S) = omega arith in
    let long = length-take-le (b - a) (drop (a - 1) S) short in
    omega arith

long-front : (a : ℕ) (S : List (List ℕ)) → 1 ≤ a → a ≤ 1 + length S → length (take (a - 1) S) + 1 ≡ a
long-front a S h l = let short : a - 1 ≤ length S = omega arith in let long = length-take-le (a - 1) S short in omega arith

long-back : (b : ℕ) (S : List (List ℕ)) → 1 ≤ b → b ≤ 1 + length S → length (drop (b - 1) S) + b ≡ length S + 1
long-back b S h l = let long = length-drop (b - 1) S in omega arith

sum_of : (w x y z k l m all first second third fourth long : ℕ) → w ≡ x + y → y ≡ all + z → all ≡ (k + l) + m → k + third ≡ fourth → l + second ≡ third → m + first ≡ second → x + 1 ≡ first → z + fourth ≡ long + 1 → long ≤ 1073741824 → w ≤ 1073741824
sum_of w x y z k l m all first second third fourth long a b c d e f g h i = omega arith

pub swapped_fits : (first second third fourth : ℕ) (S : List (List ℕ)) (last middle front joined all : List Piece) → laid 1 last ≡ between third fourth S → laid 1 middle ≡ between second third S → ((part : ℕ) → laid part joined ≡ laid part last ++ laid part middle)
    → laid 1 front ≡ between first second S → ((part : ℕ) → laid part all ≡ laid part joined ++ laid part front) → 1 ≤ first → first ≤ second → second ≤ third → third ≤ fourth → fourth ≤ 1 + length S → length S ≤ 1073741824
    → length (exchanged_at first fourth (laid 1 all) S) ≤ 1073741824
swapped_fits first second third fourth S last middle front joined all a b c d e one x y z end few =
    let whole : laid 1 all ≡ between third fourth S ++ between second third S ++ between first second S = blocks first second third fourth S last middle front joined all (record { last_is = a; middle_is = b; joined_is = c; front_is = d; all_is = e }) in
    sum_of (length (exchanged_at first fourth (laid 1 all) S)) (length (take (first - 1) S)) (length (laid 1 all ++ drop (fourth - 1) S)) (length (drop (fourth - 1) S)) (length (between third fourth S)) (length (between second third S)) (length (between first second S)) (length (laid 1 all)) first second third fourth (length S)
    (length-append (take (first - 1) S) (laid 1 all ++ drop (fourth - 1) S))
    (length-append (laid 1 all) (drop (fourth - 1) S))
    (ap length whole ∙ (length-append (between third fourth S ++ between second third S) (between first second S) ∙ ap (λ (n : ℕ). n + length (between first second S)) (length-append (between third fourth S) (between second third S))))
    (long-between third fourth S (up third one (up_to first second third x y)) z end)
    (long-between second third S (up second one x) y (up_to third fourth (1 + length S) z end))
    (long-between first second S one x (up_to second third (1 + length S) y (up_to third fourth (1 + length S) z end)))
    (long-front first S one (up_to first second (1 + length S) x (up_to second third (1 + length S) y (up_to third fourth (1 + length S) z end))))
    (long-back fourth S (up fourth one (up_to first second fourth x (up_to second third fourth y z))) end)
    few

pub swapped_text : (first second third fourth : ℕ) (S now : List (List ℕ)) (last middle front joined all : List Piece) → laid 1 last ≡ between third fourth S → laid 1 middle ≡ between second third S → ((part : ℕ) → laid part joined ≡ laid part last ++ laid part middle)
    → laid 1 front ≡ between first second S → ((part : ℕ) → laid part all ≡ laid part joined ++ laid part front) → now ≡ exchanged_at first fourth (laid 1 all) S → now ≡ swapped_at first second third fourth S
swapped_text first second third fourth S now last middle front joined all a b c d e is =
    is ∙ ap (λ (new : List (List ℕ)). exchanged_at first fourth new S) (blocks first second third fourth S last middle front joined all (record { last_is = a; middle_is = b; joined_is = c; front_is = d; all_is = e }))

pub ruleset swaps = (swapped_fits, swapped_text)

-- the same, where the lists are read as slices
pub swapped_room : (first second third fourth : ℕ) (S : List (List ℕ)) (last middle front joined all more most whole : List Piece) → laid 1 last ≡ between third fourth S → laid 1 middle ≡ between second third S → ((part : ℕ) → laid part joined ≡ laid part last ++ laid part more)
    → laid 1 front ≡ between first second S → ((part : ℕ) → laid part all ≡ laid part joined ++ laid part most) → more ≡ middle → most ≡ front → whole ≡ all → 1 ≤ first → first ≤ second → second ≤ third → third ≤ fourth → fourth ≤ 1 + length S → length S ≤ 1073741824
    → length (exchanged_at first fourth (laid 1 whole) S) ≤ 1073741824
swapped_room first second third fourth S last middle front joined all more most whole a b c d e m f w one x y z end few =
    subst (λ (ps : List Piece). length (exchanged_at first fourth (laid 1 ps) S) ≤ 1073741824) (sym w)
    (swapped_fits first second third fourth S last middle front joined all a b
    (λ part. c part ∙ ap (λ (ps : List Piece). laid part last ++ laid part ps) m) d
    (λ part. e part ∙ ap (λ (ps : List Piece). laid part joined ++ laid part ps) f) one x y z end few)
