-- Bytes of an area that are read piece by piece, and a page that is read whole.
use Rattle.std.proofs.Common.{◌≡◌, ℕ, ◌+◌, ◌-◌, ◌*◌, ◌^◌, ◌<◌, ◌≤◌, min, Bool, true, false, [], ◌++◌, length, take, drop, Option, None, Some, IsTrue, nat_eq, refl, sym, ◌∙◌, ap, ap₂, subst, arith, length-append, length-drop, length-take, take-take, take-add, drop-drop, take_all, eq-eqb, eqb-true}
use Rattle.green_io.specs.declared.disk.Area.{Area}
use Rattle.green_io.specs.declared.source.ReadAnswer.TheVariants as reads
use Rattle.green_io.specs.Areas.{Areas, area_of}
use Rattle.green_io.specs.Disk.{WhereTold, ReadsAt}
use Rattle.page_journal.specs.Pages.{Bytes, pages_of}
use Rattle.page_journal.specs.Answers.{IsPage}
use Rattle.page_journal.specs.inside.Reading.{ReadsOn}
use Rattle.page_journal.proofs.PageMaps.{page_there, page_past}

piece_on : (area old into new : Bytes) (at n m : ℕ) → m ≤ n → at + length old + n ≤ length area → take n into ≡ take n (drop (at + length old) area) → new ≡ old ++ take m into → old ≡ take (length old) (drop at area) → new ≡ take (length new) (drop at area)
piece_on area old into new at n m few fits read is was =
    let behind : drop (at + length old) area ≡ drop (length old) (drop at area) = sym (drop-drop (length old) at area) in
    let got : take m into ≡ take m (drop (at + length old) area) = sym (take-take m n into few) ∙ ap (take m) read ∙ take-take m n (drop (at + length old) area) few in
    let long : length new ≡ length old + m = omega (arith, ap length is, length-append old (take m into), ap length got, length-take m (drop (at + length old) area), length-drop (at + length old) area) in
    is
    ∙ ap₂ (λ (a b : Bytes). a ++ b) was (got ∙ ap (take m) behind)
    ∙ sym (take-add (length old) m (drop at area))
    ∙ ap (λ (k : ℕ). take k (drop at area)) (sym long)

-- a piece that was read of an area, where the disk tells what it reads
pub piece_where : (told : Option Areas) (a : Area) (old into new : Bytes) (at from n m : ℕ) → from ≡ at + length old → m ≤ n → new ≡ old ++ take m into → WhereTold told (λ areas. ReadsAt (reads.Got n) from (area_of a areas) into) → WhereTold told (λ areas. ReadsOn true at old new (area_of a areas))
piece_where None a old into new at from n m from_is few is read = tt
piece_where (Some areas) a old into new at from n m from_is few is read = λ was.
    let got = subst (λ (k : ℕ). ReadsAt (reads.Got n) k (area_of a areas) into) from_is read in
    piece_on (area_of a areas) old into new at n m few got.0 got.1 is was

-- the end of an area
pub end_where : (told : Option Areas) (a : Area) (old into : Bytes) (at from : ℕ) → from ≡ at + length old → WhereTold told (λ areas. ReadsAt reads.End from (area_of a areas) into) → WhereTold told (λ areas. ReadsOn false at old old (area_of a areas))
end_where None a old into at from from_is read = tt
end_where (Some areas) a old into at from from_is read = (subst (λ (k : ℕ). length (area_of a areas) ≤ k) from_is read, refl)

-- what was read so far is the front of what stands there
abbrev pub IsFront : ℕ → Bytes → Bytes → Type 0
IsFront at bytes area = bytes ≡ take (length bytes) (drop at area)

pub front_none : (told : Option Areas) (a : Area) (at : ℕ) (bytes : Bytes) → bytes ≡ [] → WhereTold told (λ areas. IsFront at bytes (area_of a areas))
front_none None a at bytes none = tt
front_none (Some areas) a at bytes none = subst (λ (l : Bytes). IsFront at l (area_of a areas)) (sym none) refl

pub front_more : (told now : Option Areas) (a : Area) (at : ℕ) (old new : Bytes) → now ≡ told → WhereTold told (λ areas. IsFront at old (area_of a areas)) → WhereTold now (λ areas. ReadsOn true at old new (area_of a areas)) → WhereTold told (λ areas. IsFront at new (area_of a areas))
front_more None now a at old new same was more = tt
front_more (Some areas) now a at old new same was more =
    (subst (λ (r : Option Areas). WhereTold r (λ areas. ReadsOn true at old new (area_of a areas))) same more) was

-- all that is wanted was read, and maybe more
pub front_cut : (told : Option Areas) (a : Area) (at count : ℕ) (bytes new : Bytes) → count ≤ length bytes → new ≡ take count bytes → WhereTold told (λ areas. IsFront at bytes (area_of a areas)) → WhereTold told (λ areas. new ≡ take count (drop at (area_of a areas)))
front_cut None a at count bytes new long is was = tt
front_cut (Some areas) a at count bytes new long is was =
    is ∙ ap (take count) was ∙ take-take count (length bytes) (drop at (area_of a areas)) long

-- the area has no more
pub front_end : (told now : Option Areas) (a : Area) (at count : ℕ) (old new : Bytes) → now ≡ told → length old ≤ count → WhereTold told (λ areas. IsFront at old (area_of a areas)) → WhereTold now (λ areas. ReadsOn false at old new (area_of a areas)) → WhereTold told (λ areas. new ≡ take count (drop at (area_of a areas)))
front_end None now a at count old new same few was end = tt
front_end (Some areas) now a at count old new same few was end =
    let ends = subst (λ (r : Option Areas). WhereTold r (λ areas. ReadsOn false at old new (area_of a areas))) same end in
    let short : length (drop at (area_of a areas)) ≤ length old = omega (arith, length-drop at (area_of a areas), ends.0) in
    ends.1 ∙ was ∙ take_all (length old) (drop at (area_of a areas)) short ∙ sym (take_all count (drop at (area_of a areas)) (omega (arith, short, few)))

-- a page that is not wholly there
pub past_where : (told : Option Areas) (n at number : ℕ) (page : Bytes) → WhereTold told (λ areas. n ≡ length areas.home) → at ≡ min (number * 4096) (2 ^ 64 - 1) → n < 2 ^ 64 → n - at < 4096 → WhereTold told (λ areas. IsPage false page (pages_of areas.home number))
past_where None n at number page long at_is small past = tt
past_where (Some areas) n at number page long at_is small past = page_past areas.home number (subst (λ (k : ℕ). k < 4096 * number + 4096) long (beyond n at number at_is small past))
  where
    beyond : (n at number : ℕ) → at ≡ min (number * 4096) (2 ^ 64 - 1) → n < 2 ^ 64 → n - at < 4096 → n < 4096 * number + 4096
    beyond n at number at_is small past = omega arith

-- a page that is, and was read
pub page_where : (told now : Option Areas) (n at number : ℕ) (page : Bytes) (there : Bool) → now ≡ told → there ≡ nat_eq (length page) 4096 → WhereTold told (λ areas. n ≡ length areas.home) → at ≡ min (number * 4096) (2 ^ 64 - 1) → n < 2 ^ 64 → 4096 ≤ n - at → WhereTold now (λ areas. page ≡ take 4096 (drop at areas.home)) → WhereTold told (λ areas. IsPage there page (pages_of areas.home number))
page_where None now n at number page there same tested long at_is small fits read = tt
page_where (Some areas) now n at number page there same tested long at_is small fits read =
    let place : at ≡ 4096 * number = at_place n at number at_is small fits in
    let is : page ≡ take 4096 (drop (4096 * number) areas.home) = subst (λ (r : Option Areas). WhereTold r (λ areas. page ≡ take 4096 (drop at areas.home))) same read ∙ ap (λ (k : ℕ). take 4096 (drop k areas.home)) place in
    let whole : 4096 * number + 4096 ≤ length areas.home = omega (arith, long, fits, place) in
    let size : length page ≡ 4096 = omega (arith, ap length is, length-take 4096 (drop (4096 * number) areas.home), length-drop (4096 * number) areas.home, whole) in
    subst (λ (b : Bool). IsPage b page (pages_of areas.home number)) (sym (tested ∙ eq-eqb (length page) 4096 size))
    (page_there areas.home number whole ∙ ap (λ (p : Bytes). Some p) (sym is))
  where
    at_place : (n at number : ℕ) → at ≡ min (number * 4096) (2 ^ 64 - 1) → n < 2 ^ 64 → 4096 ≤ n - at → at ≡ 4096 * number
    at_place n at number at_is small fits = omega arith

pub whole_where : (told : Option Areas) (page : Bytes) (n : ℕ) → n ≡ length page → WhereTold told (λ areas. IsTrue (nat_eq n 4096) → length page ≡ 4096)
whole_where None page n is = tt
whole_where (Some areas) page n is = λ tested. sym is ∙ eqb-true n 4096 tested

pub ruleset range_steps = (front_none, front_more, front_cut, front_end)
