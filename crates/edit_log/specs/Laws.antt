-- A log is read in one way.
use Rattle.std.specs.Prelude.{◌≡◌, ℕ, List}
use Rattle.entry_codec.specs.Logged.{PlainLogged}
use Rattle.entry_codec.specs.declared.format.LogFormat.{LogFormat}
use Rattle.green_io.specs.Areas.{Areas}
use Rattle.edit_log.specs.Second.{ReadsIn, IsDamagedIn}

-- one list of entries is read, in one format, or there is one place where the logged area is damaged, and never both
pub record OneReading (areas : Areas) : Type 0 where
  pub rows : (f g : LogFormat) (a b : List PlainLogged) → ReadsIn f a areas → ReadsIn g b areas → (f ≡ g) × (a ≡ b)
  pub place : (f g : LogFormat) (a b : ℕ) → IsDamagedIn f a areas → IsDamagedIn g b areas → (f ≡ g) × (a ≡ b)
  pub apart : (f g : LogFormat) (rows : List PlainLogged) (place : ℕ) → ReadsIn f rows areas → ¬ IsDamagedIn g place areas

abbrev pub EachHasOneReading : Type 0
EachHasOneReading = (areas : Areas) → OneReading areas
