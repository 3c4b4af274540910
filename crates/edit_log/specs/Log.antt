-- The bytes of a log: gates and bodies, of either format.
use Rattle.std.specs.Prelude.{◌≡◌, ◌≢◌, ◌⊎◌, ℕ, ◌<◌, ◌≤◌, List, [], ◌∷◌, ◌++◌, length, drop}
use Rattle.std.specs.List.{AllByRecursion}
use Rattle.entry_codec.specs.Bodies.{HasBody, BeginsWithBody}
use Rattle.entry_codec.specs.Format.{body_of}
use Rattle.entry_codec.specs.Logged.{PlainLogged, entries_of}
use Rattle.entry_codec.specs.declared.format.LogFormat.{LogFormat}
use Rattle.entry_fits.specs.Fits.{Fits, AllFit}

-- how many entries a log has at most
abbrev pub most_entries : ℕ
most_entries = 4194304

-- the body of each entry behind an open gate, a byte 1
abbrev pub gated : LogFormat → List PlainLogged → List ℕ
gated format [] = []
gated format (row ∷ rows) = 1 ∷ body_of format row ++ gated format rows

-- Behind its entries a log ends where nothing is, at a gate that is not 1, and at a last byte.
abbrev pub IsEnd : List ℕ → Type 0
IsEnd [] = Unit {0}
IsEnd (gate ∷ rest) = (gate ≢ 1) ⊎ (rest ≡ [])

-- the log has these entries, each with a body, and no more of them than a log may have; this is behind them
pub record HasEntries (format : LogFormat) (rows : List PlainLogged) (end log : List ℕ) : Type 0 where
  pub parts : log ≡ gated format rows ++ end
  pub spelled : AllByRecursion (HasBody format) rows
  pub few : length rows ≤ most_entries

-- these are the entries of the log as it is read: it ends behind them
pub record ReadsAs (format : LogFormat) (rows : List PlainLogged) (log : List ℕ) : Type 0 where
  pub end : List ℕ
  pub has : HasEntries format rows end log
  pub ends : IsEnd end

-- These are the entries of the old log as it is read. The new log has the same bytes but for a gate 0 at its end, in place
-- of the gate that stood there, or behind them where none did.
pub record HasEndClosed (format : LogFormat) (rows : List PlainLogged) (old new : List ℕ) : Type 0 where
  pub end : List ℕ
  pub has : HasEntries format rows end old
  pub ends : IsEnd end
  pub closed : new ≡ gated format rows ++ (0 ∷ drop 1 end)

-- The log cannot be read past the gate at this place, behind its first entries: the gate is 1, more bytes come
-- behind it, and they begin with no body, or the log has as many entries as it may have.
pub record IsDamagedAt (format : LogFormat) (offset : ℕ) (log : List ℕ) : Type 0 where
  pub rows : List PlainLogged
  pub rest : List ℕ
  pub has : HasEntries format rows (1 ∷ rest) log
  pub at : offset ≡ length (gated format rows)
  pub more : rest ≢ []
  pub wrong : (¬ BeginsWithBody format rest) ⊎ (length rows ≡ most_entries)

-- one more entry may come behind these
pub record IsNext (format : LogFormat) (rows : List PlainLogged) (row : PlainLogged) : Type 0 where
  pub spelled : HasBody format row
  pub fits : Fits (entries_of rows) row.entry
  pub room : length rows < most_entries

-- the body of an entry that may come next, and then a byte 0
pub record HasNext (format : LogFormat) (rows : List PlainLogged) (rest : List ℕ) : Type 0 where
  pub row : PlainLogged
  pub behind : List ℕ
  pub next : IsNext format rows row
  pub parts : rest ≡ body_of format row ++ (0 ∷ behind)

-- The end of a whole log: no gate, a gate 0, a last byte, or a gate that hides the body of one more entry.
abbrev pub IsWholeEnd : LogFormat → List PlainLogged → List ℕ → Type 0
IsWholeEnd format rows [] = Unit {0}
IsWholeEnd format rows (gate ∷ rest) = (gate ≡ 0) ⊎ (rest ≡ []) ⊎ HasNext format rows rest

-- a whole log with these entries: they fit one after another, and it ends behind them as a whole log does
pub record IsWhole (format : LogFormat) (rows : List PlainLogged) (log : List ℕ) : Type 0 where
  pub end : List ℕ
  pub has : HasEntries format rows end log
  pub fit : AllFit [] (entries_of rows)
  pub ends : IsEnd end
  pub whole : IsWholeEnd format rows end
