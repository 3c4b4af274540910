-- A body is read as the entry and the moment that it is of, and no body begins another.
use Rattle.std.proofs.Common.{◌≡◌, ℕ, ◌+◌, ◌<◌, ◌≤◌, ◌==◌, Bool, true, false, cond, List, [], ◌∷◌, ◌++◌, length, take, drop, Option, Some, None, Result, Ok, Err, refl, sym, ap, subst, ◌∙◌, append_assoc, arith}
use Rattle.std.specs.Prelude.{IfOk, nat_lt}
use Rattle.std.specs.Int.{w32, w64, from_be_bytes}
use Rattle.std.proofs.lemmas.Bool.{eqb-true, ltb-false}
use Rattle.std.proofs.lemmas.Bool.Decides.{nat_tests}
use Rattle.std.proofs.lemmas.Nat.{from_be_bytes-to_be_bytes_4, from_be_bytes-to_be_bytes_8}
use Rattle.std.proofs.lemmas.Option.{cond_some, some_pair_parts, same_Some}
use Rattle.std.proofs.lemmas.List.{append-nil, length-append, length-drop, take_at, take-append-drop}
use Rattle.tumbler.specs.declared.memory.Memory.{Memory}
use Rattle.febe_data.specs.Plain.{PlainChange, PlainEntry}
use Rattle.febe_fields.specs.Reading.{◌>>=◌, ReadsIfOk}
use Rattle.febe_fields.proofs.FieldLaws.{bind_some, cond_none}
use Rattle.febe_fields.proofs.ListLaws.{ReadsAgain}
use Rattle.entry_codec.specs.Logged.{PlainLogged, plain_logged, made_at_moment, untimed}
use Rattle.entry_codec.specs.Format.{u32_bytes, u64_bytes, length_bytes, length_size, kind_of, change_bytes, head_bytes, logged_bytes, body_of}
use Rattle.entry_codec.specs.Bodies.{IsU32, IsU64, IsEncodable, IsMoment, HasBody, IsBodyOf, IsBody, IsDecoded, BeginsWithBody, IsOnlyFront}
use Rattle.entry_codec.specs.Laws.{OneBody, BodySaysLength, said_length, OldHasNew}
use Rattle.entry_codec.specs.Reading.{u8_at, u32_at, u64_at, length_at, change_at, made_at, moment_at, head_at, row_at, body_row}
use Rattle.entry_codec.specs.declared.format.LogFormat.{LogFormat}
use Rattle.entry_codec.specs.declared.format.LogFormat.TheVariants.{Old, New}
use Rattle.entry_codec.specs.declared.logged.Logged.{Logged}
use Rattle.entry_codec.proofs.FieldLaws.{AreBytes, ReadsRight, field, u8_right, u8_again, u64_right, u64_again, IsLength, is_length, length_right, length_again}
use Rattle.entry_codec.proofs.ChangeLaws.{IsChange, change_right, change_again}
use Rattle.entry_codec.proofs.Lengths.{logged_short, body_is}

-- ---- what is read

no_bytes : (bytes : List ℕ) → length bytes ≡ 0 → bytes ≡ []
no_bytes [] e = refl
no_bytes (b ∷ bytes) e = absurd (omega arith)

-- where a test had to hold, what comes then
if_so : {A : Type 0} (b : Bool) (r : Option A) (y : A) → cond b r None ≡ Some y → (b ≡ true) × (r ≡ Some y)
if_so true r y e = (refl, e)
if_so false r y e = absurd cc

kind_split : (format : LogFormat) (bytes behind rest : List ℕ) (kind : ℕ) (change : PlainChange) → bytes ≡ kind ∷ behind → IsChange format kind behind rest change → length rest ≡ 0 → bytes ≡ kind_of change ∷ change_bytes format change
kind_split format bytes behind rest kind change e is ended =
    e ∙ ap (λ (k : ℕ). k ∷ behind) is.kind_is ∙ ap (λ (ds : List ℕ). kind_of change ∷ ds) (is.split ∙ ap (λ (ds : List ℕ). change_bytes format change ++ ds) (no_bytes rest ended) ∙ append-nil (change_bytes format change))

-- what stands behind the head of a body
abbrev made_bytes : LogFormat → PlainEntry → List ℕ
made_bytes format entry = u64_bytes entry.session ++ (u64_bytes entry.serial ++ (kind_of entry.change ∷ change_bytes format entry.change))

-- the entry that it spells
record Made (format : LogFormat) (bytes : List ℕ) (entry : PlainEntry) : Type 0 where
  split : bytes ≡ made_bytes format entry
  session : IsU64 entry.session
  serial : IsU64 entry.serial
  change : IsEncodable entry.change

made_right : (format : LogFormat) (bytes : List ℕ) (entry : PlainEntry) → AreBytes bytes → made_at format bytes ≡ Some entry → Made format bytes entry
unfolding made_at
made_right format bytes entry are e =
    let session = field IsU64 u64_at u64_bytes u64_right bytes are (λ session. u64_at session.1 >>= λ serial. u8_at serial.1 >>= λ kind. change_at format kind.0 kind.1 >>= λ change. cond (length change.1 == 0) (Some (record { session = session.0; serial = serial.0; change = change.0 })) None) entry e in
    let serial = field IsU64 u64_at u64_bytes u64_right session.rest session.are (λ serial. u8_at serial.1 >>= λ kind. change_at format kind.0 kind.1 >>= λ change. cond (length change.1 == 0) (Some (record { session = session.value; serial = serial.0; change = change.0 })) None) entry session.goes in
    let kind = field (λ n. n < 256) u8_at (λ n. n ∷ []) u8_right serial.rest serial.are (λ kind. change_at format kind.0 kind.1 >>= λ change. cond (length change.1 == 0) (Some (record { session = session.value; serial = serial.value; change = change.0 })) None) entry serial.goes in
    let change = bind_some (change_at format kind.value kind.rest) (λ change. cond (length change.1 == 0) (Some (record { session = session.value; serial = serial.value; change = change.0 })) None) entry kind.goes in
    let made : PlainEntry = record { session = session.value; serial = serial.value; change = change.0.0 } in
    let g = cond_some (length change.0.1 == 0) made entry change.2 in
    let is = change_right format kind.value kind.rest change.0.1 change.0.0 kind.are change.1 in
    let behind = kind_split format serial.rest kind.rest change.0.1 kind.value change.0.0 kind.split is (eqb-true _ _ g.0) in
    subst (Made format bytes) g.1 (record {
      split = session.split ∙ ap (λ (ds : List ℕ). u64_bytes session.value ++ ds) (serial.split ∙ ap (λ (ds : List ℕ). u64_bytes serial.value ++ ds) behind);
      session = session.right;
      serial = serial.right;
      change = is.right;
    })

head_right : (format : LogFormat) → ReadsRight (IsMoment format) (head_at format) (head_bytes format)
unfolding head_at moment_at
head_right Old bytes rest moment are e =
    let number = field (λ n. n < 256) u8_at (λ n. n ∷ []) u8_right bytes are (λ number. cond (number.0 == 1) (Some (0, number.1)) None) (moment, rest) e in
    let g = cond_some (number.value == 1) (0, number.rest) (moment, rest) number.goes in
    (number.split ∙ ap (λ (k : ℕ). k ∷ number.rest) (eqb-true _ _ g.0) ∙ ap (λ (p : ℕ × List ℕ). 1 ∷ p.1) g.1, sym (ap (λ (p : ℕ × List ℕ). p.0) g.1))
head_right New bytes rest moment are e =
    let number = field (λ n. n < 256) u8_at (λ n. n ∷ []) u8_right bytes are (λ number. cond (number.0 == 2) (u64_at number.1) None) (moment, rest) e in
    let g = if_so (number.value == 2) (u64_at number.rest) (moment, rest) number.goes in
    let is = u64_right number.rest rest moment number.are g.1 in
    (number.split ∙ ap (λ (k : ℕ). k ∷ number.rest) (eqb-true _ _ g.0) ∙ ap (λ (ds : List ℕ). 2 ∷ ds) is.0, is.1)

row_right : (format : LogFormat) (bytes : List ℕ) (row : PlainLogged) → AreBytes bytes → row_at format bytes ≡ Some row → (bytes ≡ logged_bytes format row) × HasBody format row
unfolding row_at
row_right format bytes row are e =
    let head = field (IsMoment format) (head_at format) (head_bytes format) (head_right format) bytes are (λ head. made_at format head.1 >>= λ entry. Some (made_at_moment entry head.0)) row e in
    let entry = bind_some (made_at format head.rest) (λ entry. Some (made_at_moment entry head.value)) row head.goes in
    let made = made_right format head.rest entry.0 head.are entry.1 in
    subst (λ (r : PlainLogged). (bytes ≡ logged_bytes format r) × HasBody format r) (same_Some (made_at_moment entry.0 head.value) row entry.2) (
      head.split ∙ ap (λ (ds : List ℕ). head_bytes format head.value ++ ds) made.split,
      record { session = made.session; serial = made.serial; change = made.change; moment = head.right },
    )

pub body_right : (format : LogFormat) (bytes : List ℕ) (row : PlainLogged) → AreBytes bytes → body_row format bytes ≡ Some row → IsBodyOf format row bytes
unfolding body_row
body_right format bytes row are e =
    let len = field (IsLength format) (length_at format) (length_bytes format) (length_right format) bytes are (λ len. cond (len.0 == length len.1) (row_at format len.1) None) row e in
    let g = if_so (len.value == length len.rest) (row_at format len.rest) row len.goes in
    let t = row_right format len.rest row len.are g.1 in
    record {
      valid = t.1;
      spelled = len.split ∙ ap (λ (n : ℕ). length_bytes format n ++ len.rest) (eqb-true _ _ g.0) ∙ ap (λ (ds : List ℕ). length_bytes format (length ds) ++ ds) t.0;
    }

-- ---- what is read again

made_again : (format : LogFormat) (entry : PlainEntry) → IsU64 entry.session → IsU64 entry.serial → IsEncodable entry.change → made_at format (made_bytes format entry) ≡ Some entry
unfolding made_at
made_again format entry session serial encodable =
    let k : ℕ = kind_of entry.change in
    let fields : List ℕ = change_bytes format entry.change in
    let change : change_at format k fields ≡ Some (entry.change, []) = ap (change_at format k) (sym (append-nil fields)) ∙ change_again format entry.change [] encodable in
    rw (u64_again entry.session (u64_bytes entry.serial ++ (k ∷ fields)) session, u64_again entry.serial (k ∷ fields) serial, u8_again k fields, change) refl

head_again : (format : LogFormat) → ReadsAgain (IsMoment format) (head_at format) (head_bytes format)
unfolding head_at moment_at
head_again Old moment rest h = rw (u8_again 1 rest) (ap (λ (m : ℕ). Some (m, rest)) (sym h))
head_again New moment rest h = rw (u8_again 2 (u64_bytes moment ++ rest)) (u64_again moment rest h)

row_again : (format : LogFormat) (row : PlainLogged) → HasBody format row → row_at format (logged_bytes format row) ≡ Some row
unfolding row_at
row_again format row h =
    rw (head_again format row.moment (made_bytes format row.entry) h.moment, made_again format row.entry h.session h.serial h.change) refl

-- the length of a body in front of bytes
size_again : (format : LogFormat) (row : PlainLogged) → HasBody format row → IsLength format (length (logged_bytes format row))
size_again format row h = is_length format (length (logged_bytes format row)) (omega (arith, logged_short format row h))

front_again : (format : LogFormat) (row : PlainLogged) (rest : List ℕ) → HasBody format row → length_at format (body_of format row ++ rest) ≡ Some (length (logged_bytes format row), logged_bytes format row ++ rest)
front_again format row rest h =
    ap (length_at format) (append_assoc (length_bytes format (length (logged_bytes format row))) (logged_bytes format row) rest)
    ∙ length_again format (length (logged_bytes format row)) (logged_bytes format row ++ rest) (size_again format row h)

body_again_from : (format : LogFormat) (bytes : List ℕ) (n : ℕ) (row : PlainLogged) → IsLength format n → n ≡ length bytes → row_at format bytes ≡ Some row → body_row format (length_bytes format n ++ bytes) ≡ Some row
unfolding body_row
body_again_from format bytes n row small counted e = rw (length_again format n bytes small, eqb-same n (length bytes) counted) e
  where
    eqb-same : (a b : ℕ) → a ≡ b → (a == b) ≡ true
    eqb-same a b e = grind (arith, nat_tests)

pub body_again : (format : LogFormat) (bytes : List ℕ) (row : PlainLogged) → IsBodyOf format row bytes → body_row format bytes ≡ Some row
body_again format bytes row h =
    ap (body_row format) h.spelled ∙ body_again_from format (logged_bytes format row) (length (logged_bytes format row)) row (size_again format row h.valid) refl (row_again format row h.valid)

-- ---- what is decoded

pub none_decoded : (format : LogFormat) (bytes : List ℕ) → body_row format bytes ≡ None → ¬ IsBody format bytes
none_decoded format bytes none is = absurd (none_is (body_row format bytes) is.row none (body_again format bytes is.row is.body))
  where
    none_is : (o : Option PlainLogged) (row : PlainLogged) → o ≡ None → o ≡ Some row → ⊥
    none_is o row none some = cc

pub decoded : (result : Result (Option Logged) Memory) (bytes : List ℕ) → AreBytes bytes → ReadsIfOk plain_logged result (body_row New bytes) → IfOk result (λ logged. IsDecoded bytes logged)
decoded (Ok (Some logged)) bytes are read = body_right New bytes (plain_logged logged) are read
decoded (Ok None) bytes are read = none_decoded New bytes read
decoded (Err memory) bytes are read = tt

-- the old format has no moment but 0
pub old_decoded : (bytes : List ℕ) (entry : PlainEntry) (moment : ℕ) → AreBytes bytes → body_row Old bytes ≡ Some (made_at_moment entry moment) → IsBodyOf Old (untimed entry) bytes
old_decoded bytes entry moment are read =
    let is = body_right Old bytes (made_at_moment entry moment) are read in
    subst (λ (m : ℕ). IsBodyOf Old (made_at_moment entry m) bytes) is.valid.moment is

-- ---- one body

pub one_body : OneBody
one_body format a b x y e f one other same =
    let m : ℕ = length (logged_bytes format e) in
    let n : ℕ = length (logged_bytes format f) in
    let whole : body_of format e ++ x ≡ body_of format f ++ y = ap (λ (ds : List ℕ). ds ++ x) (sym one.spelled) ∙ same ∙ ap (λ (ds : List ℕ). ds ++ y) other.spelled in
    let p = some_pair_parts m n (logged_bytes format e ++ x) (logged_bytes format f ++ y) (sym (front_again format e x one.valid) ∙ ap (length_at format) whole ∙ front_again format f y other.valid) in
    let rows : logged_bytes format e ≡ logged_bytes format f = sym (take_at (logged_bytes format e) x m refl) ∙ ap (take m) p.1 ∙ take_at (logged_bytes format f) y m (sym p.0) in
    let alike : a ≡ b = one.spelled ∙ ap (λ (ds : List ℕ). length_bytes format (length ds) ++ ds) rows ∙ sym other.spelled in
    let both : Some e ≡ Some f = sym (body_again format a e one) ∙ ap (body_row format) alike ∙ body_again format b f other in
    (alike, same_Some e f both)

-- ---- the length in front

four_in_front : (n : ℕ) (front rest : List ℕ) → IsU32 n → front ≡ u32_bytes n → from_be_bytes w32 (take 4 (front ++ rest)) ≡ n
four_in_front n front rest small e =
    ap (from_be_bytes w32) (take_at front rest 4 (ap length e) ∙ e) ∙ from_be_bytes-to_be_bytes_4 n small

eight_in_front : (n : ℕ) (front rest : List ℕ) → IsU64 n → front ≡ u64_bytes n → from_be_bytes w64 (take 8 (front ++ rest)) ≡ n
eight_in_front n front rest small e =
    ap (from_be_bytes w64) (take_at front rest 8 (ap length e) ∙ e) ∙ from_be_bytes-to_be_bytes_8 n small

said_in_front : (format : LogFormat) (n : ℕ) (rest : List ℕ) → IsLength format n → said_length format (length_bytes format n ++ rest) ≡ length_size format + n
said_in_front Old n rest small = ap (λ (k : ℕ). 4 + k) (four_in_front n (u32_bytes n) rest small refl)
said_in_front New n rest small = ap (λ (k : ℕ). 8 + k) (eight_in_front n (u64_bytes n) rest small refl)

size_short : (format : LogFormat) → length_size format ≤ 8
size_short Old = omega arith
size_short New = omega arith

pub body_says_length : BodySaysLength
body_says_length format body is =
    let row : PlainLogged = is.row in
    let n : ℕ = length (logged_bytes format row) in
    let counted : length body ≡ length_size format + n = ap length is.body.spelled ∙ body_is format row in
    let said : said_length format body ≡ length_size format + n = ap (said_length format) is.body.spelled ∙ said_in_front format n (logged_bytes format row) (size_again format row is.body.valid) in
    record { whole = counted ∙ sym said; short = omega (arith, counted, size_short format, logged_short format row is.body.valid) }

pub old_has_new : OldHasNew
old_has_new row h =
    let none : row.moment ≡ 0 = h.moment in
    record { session = h.session; serial = h.serial; change = h.change; moment = omega (arith, none) }

-- ---- the body that begins bytes

-- what a body in front makes of the first number
pub record Begun (format : LogFormat) (bytes body : List ℕ) : Type 0 where
  pub number : ℕ
  pub behind : List ℕ
  pub read : length_at format bytes ≡ Some (number, behind)
  pub long : length body ≡ length_size format + number
  pub enough : number ≤ length behind

begun : (format : LogFormat) (bytes body rest : List ℕ) → IsBody format body → bytes ≡ body ++ rest → Begun format bytes body
begun format bytes body rest is e =
    let row : PlainLogged = is.row in
    record {
      number = length (logged_bytes format row);
      behind = logged_bytes format row ++ rest;
      read = ap (length_at format) (e ∙ ap (λ (ds : List ℕ). ds ++ rest) is.body.spelled) ∙ front_again format row rest is.body.valid;
      long = ap length is.body.spelled ∙ body_is format row;
      enough = omega (arith, length-append (logged_bytes format row) rest);
    }

pub none_in_front : (format : LogFormat) (bytes : List ℕ) → length_at format bytes ≡ None → ¬ BeginsWithBody format bytes
none_in_front format bytes none begins =
    let b = begun format bytes begins.body begins.rest begins.is_body begins.split in
    absurd (cc (none, b.read))

pub too_short : (format : LogFormat) (bytes rest : List ℕ) (n : ℕ) → length_at format bytes ≡ Some (n, rest) → length rest < n → ¬ BeginsWithBody format bytes
too_short format bytes rest n read short begins =
    let b = begun format bytes begins.body begins.rest begins.is_body begins.split in
    let p = some_pair_parts n b.number rest b.behind (sym read ∙ b.read) in
    absurd (omega (arith, short, b.enough, p.0, ap length p.1))

pub within : (format : LogFormat) (bytes rest : List ℕ) (n : ℕ) → length_at format bytes ≡ Some (n, rest) → n ≤ length rest → length_size format + n ≤ length bytes
unfolding length_at u32_at u64_at
within Old bytes rest n read enough =
    let g = cond_none (nat_lt (length bytes) 4) (from_be_bytes w32 (take 4 bytes), drop 4 bytes) (n, rest) read in
    let behind : drop 4 bytes ≡ rest = ap (λ (p : ℕ × List ℕ). p.1) g.1 in
    omega (arith, ltb-false _ _ g.0, ap length behind, length-drop 4 bytes, enough)
within New bytes rest n read enough =
    let g = cond_none (nat_lt (length bytes) 8) (from_be_bytes w64 (take 8 bytes), drop 8 bytes) (n, rest) read in
    let behind : drop 8 bytes ≡ rest = ap (λ (p : ℕ × List ℕ). p.1) g.1 in
    omega (arith, ltb-false _ _ g.0, ap length behind, length-drop 8 bytes, enough)

pub only_front : (format : LogFormat) (bytes rest front behind : List ℕ) (n size : ℕ) → length_at format bytes ≡ Some (n, rest) → size ≡ length_size format + n → front ≡ take size bytes → behind ≡ drop size bytes → IsOnlyFront format bytes front behind
only_front format bytes rest front behind n size read is_size is_front is_behind = record {
  split = sym (take-append-drop size bytes) ∙ (λ i. sym is_front i ++ sym is_behind i);
  only = λ body more is e.
      let b = begun format bytes body more is e in
      let p = some_pair_parts n b.number rest b.behind (sym read ∙ b.read) in
      sym (take_at body more size (b.long ∙ ap (λ (k : ℕ). length_size format + k) (sym p.0) ∙ sym is_size)) ∙ ap (take size) (sym e) ∙ sym is_front;
}
