-- Pages are cut into a group for one commit, and what is left.
use Rattle.std.proofs.Common.{◌≡◌, ◌≢◌, ℕ, ◌≤◌, ◌==◌, min, Bool, true, false, List, [], ◌∷◌, ◌++◌, length, take, drop, map, refl, ap, ◌∙◌, sym, subst, arith, eqb-true}
use Rattle.std.specs.List.{AllByRecursion}
use Rattle.std.proofs.lemmas.List.{map-append, take-append-drop, length-map, length-take}
use Rattle.page_journal.specs.declared.page_write.PageWrite.{PageWrite}
use Rattle.page_journal.specs.JournalBytes.{IsWrite, AreWrites, write_of, writes_of}
use Rattle.page_journal.specs.Pages.{PageBytes, Writes}

pub cut-writes : (rest group behind : List PageWrite) (n : ℕ) → group ≡ take n rest → behind ≡ drop n rest → writes_of rest ≡ writes_of group ++ writes_of behind
cut-writes rest group behind n front back =
    let whole : group ++ behind ≡ rest = ap (λ (x : List PageWrite). x ++ behind) front ∙ ap (λ (x : List PageWrite). take n rest ++ x) back ∙ take-append-drop n rest in
    ap writes_of (sym whole) ∙ map-append write_of group behind

pub each-front : (a b : Writes) → AllByRecursion IsWrite (a ++ b) → AllByRecursion IsWrite a
each-front [] b each = tt
each-front (w ∷ ws) b each = (each.0, each-front ws b each.1)

pub each-back : (a b : Writes) → AllByRecursion IsWrite (a ++ b) → AllByRecursion IsWrite b
each-back [] b each = each
each-back (w ∷ ws) b each = each-back ws b each.1

-- copies of the first pages are what one commit may write, and with the pages behind them they are all
pub record IsGroup (rest behind : List PageWrite) (copies : Writes) : Type 0 where
  pub parts : writes_of rest ≡ copies ++ writes_of behind
  pub are : AreWrites copies
  pub some : copies ≢ []

not-none : (writes : Writes) → 1 ≤ length writes → writes ≢ []
not-none [] some = absurd (omega (arith, some))
not-none (w ∷ ws) some = λ none. absurd (omega (arith, ap length none))

some-left : (rest : List PageWrite) (b : Bool) → b ≡ (length rest == 0) → b ≡ false → 1 ≤ length rest
some-left [] b is not = (let never : true ≡ false = sym is ∙ not in absurd cc)
some-left (page ∷ pages) b is not = omega arith

pub none-left : (rest : List PageWrite) (b : Bool) → b ≡ (length rest == 0) → b ≡ true → writes_of rest ≡ []
none-left [] b is empty = refl
none-left (page ∷ pages) b is empty = let none : length (page ∷ pages) ≡ 0 = eqb-true (length (page ∷ pages)) 0 (sym is ∙ empty) in absurd (omega (arith, none))

pub is-group : (rest group behind : List PageWrite) (copies : Writes) (n : ℕ) (b : Bool) → b ≡ (length rest == 0) → b ≡ false → n ≡ min 1024 (length rest) → group ≡ take n rest → behind ≡ drop n rest → copies ≡ writes_of group
    → AllByRecursion IsWrite (writes_of rest) → IsGroup rest behind copies
is-group rest group behind copies n b is not least front back same each =
    let some : 1 ≤ length rest = some-left rest b is not in
    let parts : writes_of rest ≡ copies ++ writes_of behind = cut-writes rest group behind n front back ∙ ap (λ (x : Writes). x ++ writes_of behind) (sym same) in
    let long : length copies ≡ n = ap length same ∙ length-map group write_of ∙ ap length front ∙ length-take n rest ∙ omega (arith, least) in
    record {
      parts = parts;
      are = record {
        some = omega (arith, long, least, some);
        few = omega (arith, long, least);
        each = each-front copies (writes_of behind) (subst (AllByRecursion IsWrite) parts each);
      };
      some = not-none copies (omega (arith, long, least, some));
    }
