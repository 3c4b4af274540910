-- A search that is given up past a limit. Only private functions cite this.
use Rattle.std.specs.Prelude.{◌≡◌, ◌⊎◌, ℕ, ◌<◌, List, length}

-- what is held is all of it, or is more than the limit, as all of it is
abbrev pub HoldsUpTo : {X : Type 0} → ℕ → (all held : List X) → Type 0
HoldsUpTo limit all held = (held ≡ all) ⊎ ((limit < length held) × (limit < length all))
