-- In how many exchanges the count of disk faults rose.
use Rattle.std.proofs.Common.{◌≡◌, ℕ, ◌+◌, ◌≤◌, Bool, true, false, List, [], ◌∷◌, ◌++◌, length, ap, ◌∙◌, refl, arith}
use Rattle.std.specs.Prelude.{filter}
use Rattle.std.proofs.lemmas.Bool.{leb-true}
use Rattle.std.proofs.lemmas.List.{length-append}
use Rattle.std.proofs.lemmas.List.Elements.{filter-append}
use Rattle.world_rules.specs.Legal.{Exchange}
use Rattle.green_io.specs.Outside.{HasRisen}
use Rattle.green_store.specs.Durable.{has_risen}
use Rattle.green_top.specs.Transcript.{rises_in, RisesWithin}

pub risen : (before after : ℕ) → has_risen before after ≡ true → HasRisen before after
risen before after is = leb-true _ after is

abbrev rose : Exchange → Bool
rose e = e.rose

one_more : (es : List Exchange) (e : Exchange) → rises_in (es ++ e ∷ []) ≡ rises_in es + rises_in (e ∷ [])
one_more es e = ap length (filter-append rose es (e ∷ [])) ∙ length-append (filter rose es) (filter rose (e ∷ []))

in_one : (e : Exchange) (b : Bool) → e.rose ≡ b → rises_in (e ∷ []) ≡ rises_in ((record e { rose = b }) ∷ [])
in_one e b is = rw is refl

-- no exchange
pub rises_not : (before after : ℕ) → before ≤ after → RisesWithin [] before after
rises_not before after le below = omega (arith, le)

-- one exchange more
pub rises_push : (es : List Exchange) (e : Exchange) (a b c : ℕ) → RisesWithin es a b → b ≤ c → e.rose ≡ has_risen b c → RisesWithin (es ++ e ∷ []) a c
rises_push es e a b c within le is below = by (has_risen b c) refl
  where
    by : (r : Bool) → has_risen b c ≡ r → a + rises_in (es ++ e ∷ []) ≤ c
    by true r =
        let one : rises_in (e ∷ []) ≡ 1 = in_one e true (is ∙ r) in
        omega (arith, within (omega (arith, le, below)), risen b c r, below, one_more es e, one)
    by false r =
        let none : rises_in (e ∷ []) ≡ 0 = in_one e false (is ∙ r) in
        omega (arith, within (omega (arith, le, below)), le, one_more es e, none)

-- seen from an earlier moment, and to a later one
pub rises_wider : (es : List Exchange) (a b c d : ℕ) → a ≤ b → c ≤ d → RisesWithin es b c → RisesWithin es a d
rises_wider es a b c d first last within below = omega (arith, first, last, below, within (omega (arith, last, below)))
