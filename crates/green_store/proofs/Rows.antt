-- The rows of a log: their entries and their moments, in two lists and in one.
use Rattle.std.proofs.Common.{◌≡◌, ◌∙◌, ℕ, zero, suc, ◌+◌, ◌-◌, ◌<◌, List, [], ◌∷◌, ◌++◌, length, take, drop, get_or, set, refl, sym, ap, subst, arith, append_assoc, length-append}
use Rattle.std.specs.List.{AllByRecursion}
use Rattle.std.proofs.lemmas.List.{take-map, map-append, map_more, length-map, drop_more, drop-set-lt}
use Rattle.febe_data.specs.declared.entry.Entry.{Entry}
use Rattle.febe_data.specs.Plain.{PlainEntry, plain_entry, plain_history}
use Rattle.entry_codec.specs.Bodies.{HasBody}
use Rattle.entry_codec.specs.Format.{body_of}
use Rattle.entry_codec.specs.Laws.{MomentsAreAsLong, OldHasNew}
use Rattle.entry_codec.specs.Logged.{PlainLogged, untimed, plain_logged, plain_log, entries_of, moments_of, timed}
use Rattle.entry_codec.specs.declared.format.LogFormat.{LogFormat}
use Rattle.entry_codec.specs.declared.format.LogFormat.TheVariants.{Old, New}
use Rattle.entry_codec.specs.declared.logged.Logged.{Logged}
use Rattle.edit_log.specs.Log.{gated}
use Rattle.green_store.specs.Opening.{gate_place, untimed_all}

-- ---- two lists make the rows again

pub timed_rows : (rows : List PlainLogged) → timed (entries_of rows) (moments_of rows) ≡ rows
timed_rows [] = refl
timed_rows (row ∷ rows) = ap (λ (rest : List PlainLogged). row ∷ rest) (timed_rows rows)

pub timed_again : (rows : List PlainLogged) (entries : List PlainEntry) (moments : List ℕ) → entries ≡ entries_of rows → moments ≡ moments_of rows → timed entries moments ≡ rows
timed_again rows entries moments es ms = ap (λ (x : List PlainEntry). timed x moments) es ∙ ap (timed (entries_of rows)) ms ∙ timed_rows rows

pub as_many : (rows : List PlainLogged) (entries : List PlainEntry) (moments : List ℕ) → entries ≡ entries_of rows → moments ≡ moments_of rows → length moments ≡ length entries
as_many rows entries moments es ms =
    omega (arith, ap length es, ap length ms, length-map rows (λ (row : PlainLogged). row.entry), length-map rows (λ (row : PlainLogged). row.moment))

-- ---- the moments do not matter for where a gate stands

untimed_front : (rows : List PlainLogged) (count : ℕ) → untimed_all (take count (entries_of rows)) ≡ untimed_all (entries_of (take count rows))
untimed_front rows count = ap untimed_all (take-map (λ (row : PlainLogged). row.entry) count rows)

as_long : MomentsAreAsLong → (format : LogFormat) (rows : List PlainLogged) → length (gated format (untimed_all (entries_of rows))) ≡ length (gated format rows)
as_long law format [] = refl
as_long law format (row ∷ rows) =
    omega (
      arith,
      law format row.entry row.moment,
      as_long law format rows,
      length-append (body_of format (untimed row.entry)) (gated format (untimed_all (entries_of rows))),
      length-append (body_of format row) (gated format rows),
    )

-- the place that was counted is the gate's behind these rows
pub place_is : MomentsAreAsLong → (format : LogFormat) (rows : List PlainLogged) (count : ℕ) (front : List PlainEntry) (at : ℕ) → front ≡ take count (entries_of rows) → at ≡ gate_place format (untimed_all front) → at ≡ gate_place format (take count rows)
place_is law format rows count front at is counted =
    omega (arith, counted, ap (λ (es : List PlainEntry). length (gated format (untimed_all es))) is, ap (λ (rs : List PlainLogged). length (gated format rs)) (untimed_front rows count), as_long law format (take count rows))

-- ---- and hardly for whether there is a body

untimed_has : (format : LogFormat) (row : PlainLogged) → HasBody format row → HasBody format (untimed row.entry)
untimed_has Old row has = record { session = has.session; serial = has.serial; change = has.change; moment = refl }
untimed_has New row has = record { session = has.session; serial = has.serial; change = has.change; moment = omega arith }

pub untimed_have : (format : LogFormat) (rows : List PlainLogged) → AllByRecursion (HasBody format) rows → AllByRecursion (HasBody format) (untimed_all (entries_of rows))
untimed_have format [] spelled = tt
untimed_have format (row ∷ rows) spelled = (untimed_has format row spelled.0, untimed_have format rows spelled.1)

-- the entries in front of one are those of the rows in front of it
pub front_is : (slice items front : List Entry) (rows : List PlainLogged) (count : ℕ) → slice ≡ items → front ≡ take count slice → plain_history items ≡ entries_of rows → plain_history front ≡ take count (entries_of rows)
front_is slice items front rows count same is entries = ap plain_history (is ∙ ap (take count) same) ∙ sym (take-map plain_entry count items) ∙ ap (take count) entries

some_front : (format : LogFormat) (count : ℕ) (entries : List PlainEntry) → AllByRecursion (HasBody format) (untimed_all entries) → AllByRecursion (HasBody format) (untimed_all (take count entries))
some_front format zero entries spelled = tt
some_front format (suc count) [] spelled = tt
some_front format (suc count) (first ∷ entries) spelled = (spelled.0, some_front format count entries spelled.1)

pub front_have : (format : LogFormat) (rows : List PlainLogged) (count : ℕ) (front : List PlainEntry) → front ≡ take count (entries_of rows) → AllByRecursion (HasBody format) rows → AllByRecursion (HasBody format) (untimed_all front)
front_have format rows count front is spelled =
    subst (λ (es : List PlainEntry). AllByRecursion (HasBody format) (untimed_all es)) (sym is) (some_front format count (entries_of rows) (untimed_have format rows spelled))

-- what has a body in either format has one in the new
pub all_new : OldHasNew → (format : LogFormat) (rows : List PlainLogged) → AllByRecursion (HasBody format) rows → AllByRecursion (HasBody New) rows
all_new law Old [] spelled = tt
all_new law Old (row ∷ rows) spelled = (law row spelled.0, all_new law Old rows spelled.1)
all_new law New rows spelled = spelled

-- ---- rows are taken apart

-- the row at this place, and those behind it, are as they were
next_row : (now old : List Logged) (k : ℕ) (d e : Logged) → k < length now → k < length old → drop k now ≡ drop k old → (get_or now k d ≡ get_or old k e) × (drop (k + 1) now ≡ drop (k + 1) old)
next_row now old k d e here there same = both (get_or now k d) (get_or old k e) (drop (k + 1) now) (drop (k + 1) old) (sym (drop_more now k d here) ∙ same ∙ drop_more old k e there)
  where
    both : (a b : Logged) (x y : List Logged) → a ∷ x ≡ b ∷ y → (a ≡ b) × (x ≡ y)
    both a b x y is = (cc, cc)

entries_more : (rows : List Logged) (k : ℕ) (d : Logged) → k < length rows → entries_of (plain_log (take (k + 1) rows)) ≡ entries_of (plain_log (take k rows)) ++ plain_entry (get_or rows k d).entry ∷ []
entries_more rows k d within = ap entries_of (map_more plain_logged rows k d within) ∙ map-append (λ (row : PlainLogged). row.entry) (plain_log (take k rows)) (plain_logged (get_or rows k d) ∷ [])

moments_more : (rows : List Logged) (k : ℕ) (d : Logged) → k < length rows → moments_of (plain_log (take (k + 1) rows)) ≡ moments_of (plain_log (take k rows)) ++ (get_or rows k d).moment ∷ []
moments_more rows k d within = ap moments_of (map_more plain_logged rows k d within) ∙ map-append (λ (row : PlainLogged). row.moment) (plain_log (take k rows)) (plain_logged (get_or rows k d) ∷ [])

pub entry_moved : (first held more : List Entry) (now old : List Logged) (k : ℕ) (d : Logged) (e : Entry) → k < length now → k < length old → drop k now ≡ drop k old → e ≡ (get_or now k d).entry → more ≡ held ++ e ∷ []
    → plain_history held ≡ plain_history first ++ entries_of (plain_log (take k old)) → plain_history more ≡ plain_history first ++ entries_of (plain_log (take (k + 1) old))
entry_moved first held more now old k d e here there same is grows told =
    ap plain_history grows
    ∙ map-append plain_entry held (e ∷ [])
    ∙ ap (λ (es : List PlainEntry). es ++ plain_entry e ∷ []) told
    ∙ append_assoc (plain_history first) (entries_of (plain_log (take k old))) (plain_entry e ∷ [])
    ∙ ap (λ (x : Entry). plain_history first ++ (entries_of (plain_log (take k old)) ++ plain_entry x ∷ [])) (is ∙ ap (λ (row : Logged). row.entry) (next_row now old k d d here there same).0)
    ∙ ap (λ (es : List PlainEntry). plain_history first ++ es) (sym (entries_more old k d there))

pub moment_moved : (first held more : List ℕ) (now old : List Logged) (k : ℕ) (d : Logged) → k < length now → k < length old → drop k now ≡ drop k old → more ≡ held ++ (get_or now k d).moment ∷ []
    → held ≡ first ++ moments_of (plain_log (take k old)) → more ≡ first ++ moments_of (plain_log (take (k + 1) old))
moment_moved first held more now old k d here there same grows told =
    grows
    ∙ ap (λ (ms : List ℕ). ms ++ (get_or now k d).moment ∷ []) told
    ∙ append_assoc first (moments_of (plain_log (take k old))) ((get_or now k d).moment ∷ [])
    ∙ ap (λ (row : Logged). first ++ (moments_of (plain_log (take k old)) ++ row.moment ∷ [])) (next_row now old k d d here there same).0
    ∙ ap (λ (ms : List ℕ). first ++ ms) (sym (moments_more old k d there))

pub rest_stays : (now old : List Logged) (k : ℕ) (d row : Logged) → k < length now → k < length old → drop k now ≡ drop k old → drop (k + 1) (set now k row) ≡ drop (k + 1) old
rest_stays now old k d row here there same = drop-set-lt (k + 1) now k row (omega arith) ∙ (next_row now old k d d here there same).1
