-- The laws of bodies.
use Rattle.std.specs.Prelude.{◌≡◌, ℕ, ◌+◌, ◌<◌, List, ◌++◌, length, take}
use Rattle.std.specs.Int.{w32, w64, from_be_bytes}
use Rattle.febe_data.specs.Plain.{PlainEntry}
use Rattle.entry_codec.specs.Logged.{PlainLogged, made_at_moment, untimed}
use Rattle.entry_codec.specs.Format.{body_of}
use Rattle.entry_codec.specs.Bodies.{IsBodyOf, IsBody, HasBody}
use Rattle.entry_codec.specs.declared.format.LogFormat.{LogFormat}
use Rattle.entry_codec.specs.declared.format.LogFormat.TheVariants.{Old, New}

-- in each format no body begins another, and each is the body of one entry with one moment
abbrev pub OneBody : Type 0
OneBody = (format : LogFormat) (a b x y : List ℕ) (e f : PlainLogged) → IsBodyOf format e a → IsBodyOf format f b → a ++ x ≡ b ++ y → (a ≡ b) × (e ≡ f)

-- how many bytes a body has, as its first bytes say
abbrev pub said_length : LogFormat → List ℕ → ℕ
said_length Old body = 4 + from_be_bytes w32 (take 4 body)
said_length New body = 8 + from_be_bytes w64 (take 8 body)

-- The first bytes of a body say how many more it has. All together are below 2 ^ 33, since its fields have bounds.
pub record SaysLength (format : LogFormat) (body : List ℕ) : Type 0 where
  pub whole : length body ≡ said_length format body
  pub short : length body < 8589934592

abbrev pub BodySaysLength : Type 0
BodySaysLength = (format : LogFormat) (body : List ℕ) → IsBody format body → SaysLength format body

-- what has a body in the old format has one in the new
abbrev pub OldHasNew : Type 0
OldHasNew = (row : PlainLogged) → HasBody Old row → HasBody New row

-- a body is as long whatever its moment is
abbrev pub MomentsAreAsLong : Type 0
MomentsAreAsLong = (format : LogFormat) (entry : PlainEntry) (moment : ℕ) → length (body_of format (made_at_moment entry moment)) ≡ length (body_of format (untimed entry))
