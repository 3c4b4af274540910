-- Kept entries with their moments, and one more of both.
use Rattle.std.proofs.Common.{◌≡◌, ◌∙◌, inl, inr, ℕ, ◌<◌, true, false, List, [], ◌∷◌, ◌++◌, length, Result, Ok, Err, ap, refl, sym, subst, arith}
use Rattle.std.specs.Prelude.{OnOk}
use Rattle.std.proofs.lemmas.List.{length-append}
use Rattle.tumbler.specs.declared.memory.Memory.{Memory as NoMemory}
use Rattle.febe_data.specs.declared.reply.Reply.{Reply}
use Rattle.febe_data.specs.Plain.{PlainEntry}
use Rattle.entry_codec.specs.Logged.{PlainLogged, made_at_moment, entries_of, timed}
use Rattle.entry_codec.specs.declared.format.LogFormat.TheVariants.{New}
use Rattle.world_rules.specs.History.{durable_entries, is_durable, next_serial}
use Rattle.world_rules.specs.Effects.{Effect}
use Rattle.world_rules.specs.Legal.{entry_after}
use Rattle.entry_fits.specs.Fits.{Fits}
use Rattle.edit_log.specs.Images.{AreEntries}
use Rattle.edit_log.specs.Log.{IsNext, most_entries}
use Rattle.edit_log.proofs.Wholes.{entries_push}
use Rattle.green_store.specs.inside.{MayBeKept}
use Rattle.green_store.specs.StoreView.{StoreView, with_one, StandsStill}
use Rattle.green_store.specs.TimedStep.{IsTimedStep}
use Rattle.green_store.proofs.Regulars.{kept_counted, kept_other}

-- ---- entries and moments

pub timed_push : (entries : List PlainEntry) (moments : List ℕ) (entry : PlainEntry) (moment : ℕ) → length moments ≡ length entries
    → timed (entries ++ entry ∷ []) (moments ++ moment ∷ []) ≡ timed entries moments ++ made_at_moment entry moment ∷ []
timed_push [] [] entry moment same = refl
timed_push [] (m ∷ moments) entry moment same = absurd (omega (arith, same))
timed_push (e ∷ entries) [] entry moment same = absurd (omega (arith, same))
timed_push (e ∷ entries) (m ∷ moments) entry moment same = ap (λ (rows : List PlainLogged). made_at_moment e m ∷ rows) (timed_push entries moments entry moment (omega (arith, same)))

pub entries_of_timed : (entries : List PlainEntry) (moments : List ℕ) → length moments ≡ length entries → entries_of (timed entries moments) ≡ entries
entries_of_timed [] moments same = refl
entries_of_timed (e ∷ entries) [] same = absurd (omega (arith, same))
entries_of_timed (e ∷ entries) (m ∷ moments) same = ap (λ (es : List PlainEntry). e ∷ es) (entries_of_timed entries moments (omega (arith, same)))

pub length_timed : (entries : List PlainEntry) (moments : List ℕ) → length moments ≡ length entries → length (timed entries moments) ≡ length entries
length_timed [] moments same = refl
length_timed (e ∷ entries) [] same = absurd (omega (arith, same))
length_timed (e ∷ entries) (m ∷ moments) same = let rest = length_timed entries moments (omega (arith, same)) in omega (arith, rest)

-- ---- those of a store

-- each kept entry has its moment, and with these they may be a log's
abbrev pub AreTimed : List PlainEntry → List ℕ → Type 0
AreTimed entries moments = (length moments ≡ length entries) × AreEntries (timed entries moments)

pub timed_other : (h : List PlainEntry) (moments : List ℕ) (e : PlainEntry) → is_durable e.change ≡ false → AreTimed (durable_entries h) moments → AreTimed (durable_entries (h ++ e ∷ [])) moments
timed_other h moments e is are = subst (λ (es : List PlainEntry). AreTimed es moments) (sym (kept_other h e is)) are

one_more_timed : (entries : List PlainEntry) (moments : List ℕ) (e : PlainEntry) (moment : ℕ) → IsNext New (timed entries moments) (made_at_moment e moment) → AreTimed entries moments → AreTimed (entries ++ e ∷ []) (moments ++ moment ∷ [])
one_more_timed entries moments e moment next are = (
  omega (arith, length-append moments (moment ∷ []), length-append entries (e ∷ []), are.0),
  subst AreEntries (sym (timed_push entries moments e moment are.0)) (entries_push (timed entries moments) (made_at_moment e moment) are.1 next),
)

pub timed_counted : (h : List PlainEntry) (moments : List ℕ) (e : PlainEntry) (moment : ℕ) → is_durable e.change ≡ true → IsNext New (timed (durable_entries h) moments) (made_at_moment e moment) → AreTimed (durable_entries h) moments
    → AreTimed (durable_entries (h ++ e ∷ [])) (moments ++ moment ∷ [])
timed_counted h moments e moment is next are = subst (λ (es : List PlainEntry). AreTimed es (moments ++ moment ∷ [])) (sym (kept_counted h e is)) (one_more_timed (durable_entries h) moments e moment next are)

-- what may be kept may come next in the log, whenever it is made
pub may_come : (h : List PlainEntry) (moments : List ℕ) (session : ℕ) (made : Effect) (moment : ℕ) → MayBeKept h session made → length moments ≡ length (durable_entries h)
    → session < 18446744073709551616 → next_serial h session < 18446744073709551616 → moment < 18446744073709551616
    → IsNext New (timed (durable_entries h) moments) (made_at_moment (entry_after h session made) moment)
may_come h moments session made moment may same number serial small = record {
  spelled = record { session = number; serial = serial; change = may.logged; moment = small };
  fits = subst (λ (es : List PlainEntry). Fits es (entry_after h session made)) (sym (entries_of_timed (durable_entries h) moments same)) may.fits;
  room = subst (λ (n : ℕ). n < most_entries) (sym (length_timed (durable_entries h) moments same)) may.room;
}

-- ---- what steps do to them

pub none_comes : (before after : StoreView) (moment : ℕ) → durable_entries after.history ≡ durable_entries before.history → after.moments ≡ before.moments → IsTimedStep before moment after
none_comes before after moment kept moments = inl record { none_kept = kept; moments_stay = moments }

pub still_timed : (before after : StoreView) (moment : ℕ) → StandsStill before after → IsTimedStep before moment after
still_timed before after moment still = none_comes before after moment (ap durable_entries still.history) still.moments

pub as_it_was_timed : (before after : StoreView) (moment : ℕ) → after ≡ before → IsTimedStep before moment after
as_it_was_timed before after moment stays = none_comes before after moment (ap (λ (v : StoreView). durable_entries v.history) stays) (ap (λ (v : StoreView). v.moments) stays)

pub other_timed : (before after : StoreView) (entry : PlainEntry) (moment : ℕ) → is_durable entry.change ≡ false → after ≡ with_one before entry → IsTimedStep before moment after
other_timed before after entry moment other grows =
    none_comes before after moment (ap (λ (v : StoreView). durable_entries v.history) grows ∙ kept_other before.history entry other) (ap (λ (v : StoreView). v.moments) grows)

pub made_timed : (before after : StoreView) (r : Result Reply NoMemory) (entry : PlainEntry) (moment : ℕ) → is_durable entry.change ≡ false → OnOk r (after ≡ with_one before entry) → OnOk r (IsTimedStep before moment after)
made_timed before after (Ok reply) entry moment other ok = other_timed before after entry moment other ok
made_timed before after (Err error) entry moment other ok = tt

pub kept_timed : (before after : StoreView) (entry : PlainEntry) (moment : ℕ) → is_durable entry.change ≡ true → after.history ≡ before.history ++ entry ∷ [] → after.moments ≡ before.moments ++ moment ∷ [] → IsTimedStep before moment after
kept_timed before after entry moment counted grows comes = inr record { entry = entry; one_kept = ap durable_entries grows ∙ kept_counted before.history entry counted; moment_comes = comes }

-- where no entry was kept, none of the moments is new
pub moments_stay : (before after : StoreView) (moment : ℕ) → IsTimedStep before moment after → durable_entries after.history ≡ durable_entries before.history → after.moments ≡ before.moments
moments_stay before after moment (inl none) same = none.moments_stay
moments_stay before after moment (inr one) same = absurd (one_longer (durable_entries before.history) one.entry (sym one.one_kept ∙ same))
  where
    one_longer : (es : List PlainEntry) (e : PlainEntry) → es ++ e ∷ [] ≡ es → ⊥
    one_longer es e is = omega (arith, length-append es (e ∷ []), ap length is)
