-- What fits adds up to a tumbler, and reaches are raised one after another.
use Rattle.std.proofs.Common.{◌≡◌, ℕ, List}
use Rattle.tumbler.specs.Places.{IsTumbler, sum, Fits}
use Rattle.tumbler.specs.Reach.{greater}
use Rattle.tumbler.proofs.Reaches.{greater_assoc}
use Rattle.tumbler.proofs.Tumblers.{sum-is_tumbler}
use Rattle.tumbler.proofs.SumOrder.{fits_if_tumbler as fits_back}

pub tumbler_if_fits : (a d : List ℕ) → IsTumbler a → IsTumbler d → Fits a d → IsTumbler (sum a d)
tumbler_if_fits a d t u f = sum-is_tumbler a d t u f

pub fits_if_tumbler : (a d : List ℕ) → IsTumbler (sum a d) → Fits a d
fits_if_tumbler a d t = fits_back a d t

pub ruleset fitting = (tumbler_if_fits, fits_if_tumbler)

pub greater_in_turn : (a b c : List ℕ) → greater (greater a b) c ≡ greater a (greater b c)
greater_in_turn a b c = greater_assoc a b c

pub ruleset row_reaches = (tumbler_if_fits, fits_if_tumbler, greater_in_turn)
