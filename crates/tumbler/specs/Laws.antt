-- The laws of tumblers: their order, sums and differences.
use Rattle.std.specs.Prelude.{◌≡◌, ◌≢◌, ℕ, true, ◌+◌, ◌-◌, ◌<◌, ◌↔◌, List, [], ◌∷◌, ◌++◌, map, length, All}
use Rattle.tumbler.specs.Address.{IsAccount, account_test}
use Rattle.tumbler.specs.Places.{place, place_bound, EndsWell, IsTumbler, IsBefore, IsUpTo, sum, Fits, difference, just_before}
use Rattle.tumbler.specs.Reach.{lead, greater, reach, HasRoom, IsCovered}

-- what leads from a to b is a tumbler, and adding it to a fits and gives b
pub record LeadsTo (a b : List ℕ) : Type 0 where
  pub is_tumbler : IsTumbler (difference b a)
  pub fits_back : Fits a (difference b a)
  pub adds_back : sum a (difference b a) ≡ b

-- for tumblers, of which a is up to b: their difference, added to a, gives b
abbrev pub DifferenceAddsBack : Type 0
DifferenceAddsBack = (a b : List ℕ) → IsTumbler a → IsTumbler b → IsUpTo a b → LeadsTo a b

-- the difference takes back what a sum added
abbrev pub DifferenceUndoesSum : Type 0
DifferenceUndoesSum = (a d : List ℕ) → EndsWell d → difference (sum a d) a ≡ d

-- adding d and then e is adding their sum
abbrev pub SumsAssociate : Type 0
SumsAssociate = (a d e : List ℕ) → sum (sum a d) e ≡ sum a (sum d e)

-- where a plus d fits, adding e too fits where adding the sum of d and e does
abbrev pub SumsFitTogether : Type 0
SumsFitTogether = (a d e : List ℕ) → Fits a d → (Fits (sum a d) e ↔ (Fits d e × Fits a (sum d e)))

-- of two displacements the greater one leads further, if it does not end in 0
abbrev pub SumsKeepOrder : Type 0
SumsKeepOrder = (a d e : List ℕ) → EndsWell e → IsBefore d e → IsBefore (sum a d) (sum a e)

-- two displacements that lead to one place are the same, if neither ends in 0
abbrev pub SumsCancel : Type 0
SumsCancel = (a d e : List ℕ) → EndsWell d → EndsWell e → sum a d ≡ sum a e → d ≡ e

-- a displacement that is not zero, and does not end in 0, leads further
abbrev pub SumComesAfter : Type 0
SumComesAfter = (a d : List ℕ) → EndsWell d → d ≢ [] → IsBefore a (sum a d)

-- a sum of tumblers that fits is a tumbler
abbrev pub SumIsATumbler : Type 0
SumIsATumbler = (a d : List ℕ) → IsTumbler a → IsTumbler d → Fits a d → IsTumbler (sum a d)

-- for tumblers, a displacement fits exactly where the sum is a tumbler
abbrev pub FitsExactly : Type 0
FitsExactly = (a d : List ℕ) → IsTumbler a → IsTumbler d → (Fits a d ↔ IsTumbler (sum a d))

-- where a is up to b, what leads from a to b plus e is what leads from a to b, plus e
abbrev pub DifferenceOfSum : Type 0
DifferenceOfSum = (a b e : List ℕ) → IsUpTo a b → EndsWell e → difference (sum b e) a ≡ sum (difference b a) e

-- at the first place where a and b differ, a has the lesser
pub record IsFirstLess (a b : List ℕ) : Type 0 where
  pub at : ℕ
  pub same : (j : ℕ) → j < at → place a j ≡ place b j
  pub less : place a at < place b at

-- the order is place by place, where a missing place counts as 0, if b does not end in 0
abbrev pub OrderByPlaces : Type 0
OrderByPlaces = (a b : List ℕ) → EndsWell b → (IsBefore a b ↔ IsFirstLess a b)

-- k is the first place of d that is not 0
pub record IsFirstNonzero (d : List ℕ) (k : ℕ) : Type 0 where
  pub before : (j : ℕ) → j < k → place d j ≡ 0
  pub here : place d k ≢ 0

-- s has the places of a before k, the sum of both at k, and the places of d after k, and is as long as d
pub record AddsAt (a d s : List ℕ) (k : ℕ) : Type 0 where
  pub before : (j : ℕ) → j < k → place s j ≡ place a j
  pub here : place s k ≡ place a k + place d k
  pub after : (j : ℕ) → k < j → place s j ≡ place d j
  pub as_long : length s ≡ length d

-- the sum, said by its places: it adds at the first place of d that is not 0
abbrev pub SumByPlaces : Type 0
SumByPlaces = (a d : List ℕ) (k : ℕ) → IsFirstNonzero d k → AddsAt a d (sum a d) k

-- k is the first place where a and b differ
pub record IsFirstOther (a b : List ℕ) (k : ℕ) : Type 0 where
  pub before : (j : ℕ) → j < k → place a j ≡ place b j
  pub here : place a k ≢ place b k

-- d is 0 before k, the difference of both at k, and has the places of b after k, and is as long as b
pub record TakesAt (a b d : List ℕ) (k : ℕ) : Type 0 where
  pub before : (j : ℕ) → j < k → place d j ≡ 0
  pub here : place d k ≡ place b k - place a k
  pub after : (j : ℕ) → k < j → place d j ≡ place b j
  pub as_long : length d ≡ length b

-- the difference, said by its places: it takes away at the first place where a and b differ
abbrev pub DifferenceByPlaces : Type 0
DifferenceByPlaces = (a b : List ℕ) (k : ℕ) → IsUpTo a b → IsFirstOther a b k → TakesAt a b (difference b a) k

-- the test of an account is true exactly of accounts
abbrev pub AccountTested : Type 0
AccountTested = (places : List ℕ) → (account_test places ≡ true) ↔ IsAccount places

-- a base leaves room for the reach of some places exactly where each of them fits after it
abbrev pub ReachIsExact : Type 0
ReachIsExact = (a : List ℕ) (several : List (List ℕ)) → All (λ p. p < place_bound) a → (All (Fits a) several ↔ HasRoom a (reach several))

-- moved by d, and with d itself beside them, places reach what they did plus the lead of d
abbrev pub ReachIsMoved : Type 0
ReachIsMoved = (d : List ℕ) (several : List (List ℕ)) → reach (d ∷ map (sum d) several) ≡ sum (reach several) (lead d)

-- the reach of two lists of places is place by place the greater one
abbrev pub ReachIsJoined : Type 0
ReachIsJoined = (several more : List (List ℕ)) → reach (several ++ more) ≡ greater (reach several) (reach more)

-- what comes up to d fits after a where the lead of d covers a and the sum of a and d is a tumbler
abbrev pub CoveredFits : Type 0
CoveredFits = (a e d : List ℕ) → IsTumbler e → IsTumbler (sum a d) → IsUpTo e d → IsCovered a d → Fits a e

-- a is a tumbler that is up to b, and before b where b is not zero
pub record StandsBefore (a b : List ℕ) : Type 0 where
  pub is_tumbler : IsTumbler a
  pub up_to : IsUpTo a b
  pub before : b ≢ [] → IsBefore a b

-- the place just before a tumbler stands before it
abbrev pub JustBeforeStands : Type 0
JustBeforeStands = (b : List ℕ) → IsTumbler b → StandsBefore (just_before b) b
