-- Entries that others added leave a session as it was.
use Rattle.std.proofs.Common.{◌≡◌, ◌≢◌, ℕ, ◌==◌, Bool, true, false, List, [], ◌∷◌, refl, ◌∙◌}
use Rattle.std.specs.Prelude.{fold}
use Rattle.std.proofs.lemmas.Bool.{true≢false}
use Rattle.std.proofs.lemmas.List.Sums.{fold-append}
use Rattle.febe_data.specs.Plain.{PlainChange, PlainEntry, restarted, began, ended}
use Rattle.history_lock.specs.Histories as lock
use Rattle.world_rules.specs.History.{is_live, live_after, entries_of}
use Rattle.green_store.specs.Marks.{owner_of}
use Rattle.green_top.specs.inside.Play.{IsOthers}

abbrev owned_by : ℕ → List PlainEntry → List PlainEntry
owned_by number entries = lock.entries_of owner_of number entries

-- where none is left, the first is not of this number, and none of the rest is
first_out : (number : ℕ) (e : PlainEntry) (es : List PlainEntry) (own : Bool) → (owner_of e == number) ≡ own → owned_by number (e ∷ es) ≡ [] → own ≡ false
first_out number e es true is none = let no = rw is at none in cc
first_out number e es false is none = refl

rest_out : (number : ℕ) (e : PlainEntry) (es : List PlainEntry) → (owner_of e == number) ≡ false → owned_by number (e ∷ es) ≡ [] → owned_by number es ≡ []
rest_out number e es is none = rw is at none

module _ (session : ℕ) where
  not_own : (maker serial : ℕ) (change : PlainChange) → (owner_of (record { session = maker; serial = serial; change = change }) == 0) ≡ false
      → (owner_of (record { session = maker; serial = serial; change = change }) == session) ≡ false → (maker == session) ≡ false
  not_own maker serial restarted some other = absurd (true≢false some)
  not_own maker serial change some other = other

  lives_on : (maker serial : ℕ) (change : PlainChange) (live : Bool) → (owner_of (record { session = maker; serial = serial; change = change }) == 0) ≡ false
      → (owner_of (record { session = maker; serial = serial; change = change }) == session) ≡ false → live_after session live (record { session = maker; serial = serial; change = change }) ≡ live
  lives_on maker serial restarted live some other = absurd (true≢false some)
  lives_on maker serial began live some other = rw other refl
  lives_on maker serial ended live some other = rw other refl
  lives_on maker serial change live some other = refl

  none_own : (past : List PlainEntry) → owned_by 0 past ≡ [] → owned_by session past ≡ [] → entries_of session past ≡ []
  none_own [] zero own = refl
  none_own (e ∷ past) zero own =
      let some = first_out 0 e past (owner_of e == 0) refl zero in
      let other = first_out session e past (owner_of e == session) refl own in
      rw (not_own e.session e.serial e.change some other) (none_own past (rest_out 0 e past some zero) (rest_out session e past other own))

  live_on : (past : List PlainEntry) (live : Bool) → owned_by 0 past ≡ [] → owned_by session past ≡ [] → fold (live_after session) live past ≡ live
  live_on [] live zero own = refl
  live_on (e ∷ past) live zero own =
      let some = first_out 0 e past (owner_of e == 0) refl zero in
      let other = first_out session e past (owner_of e == session) refl own in
      live_on past (live_after session live e) (rest_out 0 e past some zero) (rest_out session e past other own) ∙ lives_on e.session e.serial e.change live some other

  pub are_others : (past : List PlainEntry) → owned_by 0 past ≡ [] → owned_by session past ≡ [] → IsOthers session past
  are_others past zero own = record {
    none_own = none_own past zero own;
    live_stays = λ history. fold-append (live_after session) false history past ∙ live_on past (is_live history session) zero own;
  }
