-- The entries of a log, of which some were passed.
use Rattle.std.proofs.Common.{◌≡◌, ℕ, zero, suc, ◌+◌, ◌^◌, ◌<◌, ◌≤◌, Bool, false, List, [], ◌∷◌, ◌++◌, length, take, drop, get_or, sym, ◌∙◌, ap, subst, arith, length-append}
use Rattle.std.specs.Prelude.{◌↔◌, IsTrue}
use Rattle.std.specs.List.{AllByRecursion}
use Rattle.std.proofs.lemmas.List.{take-append-drop, take-map, drop_more, length-take, map_more, map-append, length-map}
use Rattle.febe_data.specs.declared.entry.Entry.{Entry}
use Rattle.febe_data.specs.Plain.{PlainEntry, plain_entry, plain_history}
use Rattle.entry_codec.specs.Bodies.{HasBody}
use Rattle.entry_codec.specs.Format.{body_of}
use Rattle.entry_codec.specs.Laws.{BodySaysLength}
use Rattle.entry_codec.specs.Logged.{PlainLogged, untimed}
use Rattle.entry_codec.specs.declared.format.LogFormat.{LogFormat}
use Rattle.entry_codec.specs.declared.format.LogFormat.TheVariants.{Old, New}
use Rattle.entry_fits.specs.Fits.{Fits, AllFit}
use Rattle.edit_log.specs.Log.{gated, most_entries}
use Rattle.edit_log.specs.Second.{begins_at}
use Rattle.edit_log.proofs.Wholes.{gated-push, end_is_small}
use Rattle.green_store.specs.Opening.{IsUnfitBehind, gate_place, untimed_all}

-- ---- the entries that were passed

-- one entry more was passed
pub passed : (entries : List Entry) (i : ℕ) (e : Entry) → i < length entries → e ≡ get_or entries i e → plain_history (take (i + 1) entries) ≡ plain_history (take i entries) ++ plain_entry e ∷ []
passed entries i e within is = map_more plain_entry entries i e within ∙ ap (λ (x : Entry). plain_history (take i entries) ++ plain_entry x ∷ []) (sym is)

-- these entries are in front of it, and others behind it
pub parted : (entries : List Entry) (i : ℕ) (e : Entry) → i < length entries → e ≡ get_or entries i e → plain_history entries ≡ plain_history (take i entries) ++ plain_entry e ∷ plain_history (drop (i + 1) entries)
parted entries i e within is =
    let split : entries ≡ take i entries ++ get_or entries i e ∷ drop (i + 1) entries = sym (take-append-drop i entries) ∙ ap (λ (es : List Entry). take i entries ++ es) (drop_more entries i e within) in
    ap plain_history split
    ∙ map-append plain_entry (take i entries) (get_or entries i e ∷ drop (i + 1) entries)
    ∙ ap (λ (x : Entry). plain_history (take i entries) ++ plain_entry x ∷ plain_history (drop (i + 1) entries)) (sym is)

-- the same with no moments
untimed_more : (entries : List Entry) (i : ℕ) (e : Entry) → i < length entries → e ≡ get_or entries i e
    → untimed_all (plain_history (take (i + 1) entries)) ≡ untimed_all (plain_history (take i entries)) ++ untimed (plain_entry e) ∷ []
untimed_more entries i e within is = ap untimed_all (passed entries i e within is) ∙ map-append untimed (plain_history (take i entries)) (plain_entry e ∷ [])

spelled_front : (format : LogFormat) (entries : List Entry) (i : ℕ) → AllByRecursion (HasBody format) (untimed_all (plain_history entries)) → AllByRecursion (HasBody format) (untimed_all (plain_history (take i entries)))
spelled_front format entries zero spelled = tt
spelled_front format [] (suc i) spelled = tt
spelled_front format (first ∷ entries) (suc i) spelled = (spelled.0, spelled_front format entries i spelled.1)

pub spelled_at : (format : LogFormat) (entries : List Entry) (i : ℕ) (e : Entry) → i < length entries → e ≡ get_or entries i e → AllByRecursion (HasBody format) (untimed_all (plain_history entries)) → HasBody format (untimed (plain_entry e))
spelled_at format [] i e within is spelled = absurd (omega arith)
spelled_at format (first ∷ entries) zero e within is spelled = subst (λ (x : Entry). HasBody format (untimed (plain_entry x))) (sym is) spelled.0
spelled_at format (first ∷ entries) (suc i) e within is spelled = spelled_at format entries i e (omega arith) is spelled.1

-- ---- where a gate stands

pub first_place : (format : LogFormat) (at : ℕ) → at ≡ begins_at format → at ≡ gate_place format []
first_place format at is = omega (arith, is)

pub place_more : (format : LogFormat) (entries : List Entry) (i : ℕ) (e : Entry) (at : ℕ) → i < length entries → e ≡ get_or entries i e → at ≡ gate_place format (untimed_all (plain_history (take i entries)))
    → at + (1 + length (body_of format (untimed (plain_entry e)))) ≡ gate_place format (untimed_all (plain_history (take (i + 1) entries)))
place_more format entries i e at within is before =
    let past : List PlainLogged = untimed_all (plain_history (take i entries)) in
    let body : List ℕ = body_of format (untimed (plain_entry e)) in
    let grows : gated format (untimed_all (plain_history (take (i + 1) entries))) ≡ gated format past ++ (1 ∷ body) = ap (gated format) (untimed_more entries i e within is) ∙ gated-push format past (untimed (plain_entry e)) in
    omega (arith, before, ap length grows, length-append (gated format past) (1 ∷ body))

beginning_small : (format : LogFormat) → begins_at format ≤ 1
beginning_small Old = omega arith
beginning_small New = omega arith

pub place_small : BodySaysLength → (format : LogFormat) (entries : List Entry) (i : ℕ) → AllByRecursion (HasBody format) (untimed_all (plain_history entries)) → length entries ≤ most_entries
    → gate_place format (untimed_all (plain_history (take i entries))) ≤ 2 ^ 63
place_small says format entries i spelled few =
    let past : List PlainLogged = untimed_all (plain_history (take i entries)) in
    let long : length past ≤ most_entries =
    omega (arith, length-map (plain_history (take i entries)) untimed, length-map (take i entries) plain_entry, length-take i entries, few) in
    omega (arith, beginning_small format, end_is_small says format past (spelled_front format entries i spelled) long)

-- ---- the first entry that does not fit

pub unfit_at : (entries : List Entry) (i : ℕ) (e : Entry) (fits : Bool) → i < length entries → e ≡ get_or entries i e → AllFit [] (plain_history (take i entries))
    → (IsTrue fits ↔ Fits (plain_history (take i entries)) (plain_entry e)) → fits ≡ false → (i < length (plain_history entries)) × IsUnfitBehind (take i (plain_history entries)) (plain_history entries)
unfit_at entries i e fits within is fit exact none = (
  omega (arith, length-map entries plain_entry),
  subst (λ (front : List PlainEntry). IsUnfitBehind front (plain_history entries)) (sym (take-map plain_entry i entries)) record {
    entry = plain_entry e;
    behind = plain_history (drop (i + 1) entries);
    parts = parted entries i e within is;
    fit = fit;
    unfit = λ it_fits. cc (none, exact.1 it_fits);
  },
)
