-- Logs that are whole.
use Rattle.std.proofs.Common.{◌≡◌, ◌≢◌, ◌⊎◌, inl, inr, ⊎_elim, ℕ, suc, ◌+◌, ◌*◌, ◌^◌, ◌<◌, ◌≤◌, List, [], ◌∷◌, ◌++◌, length, refl, sym, ◌∙◌, ap, subst, arith, append_assoc, length-append}
use Rattle.std.proofs.lemmas.Bool.{cases_eq}
use Rattle.std.proofs.lemmas.List.{append-nil, map-append}
use Rattle.std.specs.List.{AllByRecursion}
use Rattle.febe_data.specs.Plain.{PlainEntry}
use Rattle.entry_codec.specs.Bodies.{HasBody}
use Rattle.entry_codec.specs.Format.{body_of}
use Rattle.entry_codec.specs.Logged.{PlainLogged, entries_of}
use Rattle.entry_codec.specs.Laws.{BodySaysLength}
use Rattle.entry_codec.specs.declared.format.LogFormat.{LogFormat}
use Rattle.entry_codec.specs.declared.format.LogFormat.TheVariants.{New}
use Rattle.entry_fits.specs.Fits.{Fits, AllFit}
use Rattle.green_io.specs.Areas.{Areas}
use Rattle.edit_log.specs.Log.{gated, most_entries, IsNext, IsWhole}
use Rattle.edit_log.specs.Second.{front_of, HoldsWhole}
use Rattle.edit_log.specs.Images.{IsShut, IsAjar, AreEntries, HasGate, HoldsEither}
use Rattle.edit_log.specs.declared.pending.Pending.{Pending}
use Rattle.edit_log.specs.declared.pending.Pending.TheVariants.{Nothing, Shut, Gated}

pub gated-push : (format : LogFormat) (rows : List PlainLogged) (row : PlainLogged) → gated format (rows ++ row ∷ []) ≡ gated format rows ++ (1 ∷ body_of format row)
gated-push format [] row = ap (λ (l : List ℕ). 1 ∷ l) (append-nil (body_of format row))
gated-push format (first ∷ rows) row =
    ap (λ (l : List ℕ). 1 ∷ l)
    (ap (λ (l : List ℕ). body_of format first ++ l) (gated-push format rows row) ∙ sym (append_assoc (body_of format first) (gated format rows) (1 ∷ body_of format row)))

-- the same, with something behind
pub gated-push-append : (format : LogFormat) (rows : List PlainLogged) (row : PlainLogged) (rest : List ℕ) → gated format (rows ++ row ∷ []) ++ rest ≡ gated format rows ++ (1 ∷ (body_of format row ++ rest))
gated-push-append format rows row rest =
    ap (λ (l : List ℕ). l ++ rest) (gated-push format rows row) ∙ append_assoc (gated format rows) (1 ∷ body_of format row) rest

-- a body is far shorter than a file
body_short : BodySaysLength → (format : LogFormat) (row : PlainLogged) → HasBody format row → length (body_of format row) < 8589934592
body_short says format row has = (says format (body_of format row) record { row = row; body = record { valid = has; spelled = refl } }).short

gated_short : BodySaysLength → (format : LogFormat) (rows : List PlainLogged) → AllByRecursion (HasBody format) rows → length (gated format rows) ≤ length rows * (2 ^ 34)
gated_short says format [] all = omega arith
gated_short says format (row ∷ rows) all =
    longer (length (gated format rows)) (length rows) (length (body_of format row)) _ (length-append (body_of format row) (gated format rows)) (gated_short says format rows all.1) (body_short says format row all.0)
  where
    longer : (g n b whole : ℕ) → whole ≡ b + g → g ≤ n * (2 ^ 34) → b < 8589934592 → suc whole ≤ suc n * (2 ^ 34)
    longer g n b whole is small short = omega arith

-- the end of a log stays far below the greatest number of 64 bits
pub end_is_small : BodySaysLength → (format : LogFormat) (rows : List PlainLogged) → AllByRecursion (HasBody format) rows → length rows ≤ most_entries → length (gated format rows) < 2 ^ 62
end_is_small says format rows spelled few = omega (arith, gated_short says format rows spelled, few)

pub all_push : (format : LogFormat) (rows : List PlainLogged) (row : PlainLogged) → AllByRecursion (HasBody format) rows → HasBody format row → AllByRecursion (HasBody format) (rows ++ row ∷ [])
all_push format [] row all last = (last, tt)
all_push format (first ∷ rows) row all last = (all.0, all_push format rows row all.1 last)

fit_push : (before entries : List PlainEntry) (entry : PlainEntry) → AllFit before entries → Fits (before ++ entries) entry → AllFit before (entries ++ entry ∷ [])
fit_push before [] entry fit last = (subst (λ (l : List PlainEntry). Fits l entry) (append-nil before) last, tt)
fit_push before (first ∷ entries) entry fit last =
    (fit.0, fit_push (before ++ first ∷ []) entries entry fit.1 (subst (λ (l : List PlainEntry). Fits l entry) (sym (append_assoc before (first ∷ []) entries)) last))

-- one more entry that may come next
pub entries_push : (rows : List PlainLogged) (row : PlainLogged) → AreEntries rows → IsNext New rows row → AreEntries (rows ++ row ∷ [])
entries_push rows row are next = record {
  spelled = all_push New rows row are.spelled next.spelled;
  few = omega (arith, length-append rows (row ∷ []), next.room);
  fit = subst (AllFit []) (sym (map-append (λ (r : PlainLogged). r.entry) rows (row ∷ []))) (fit_push [] (entries_of rows) row.entry are.fit next.fits);
}

-- what is put behind something is not nothing
pub some_behind : (front : List ℕ) (byte : ℕ) (behind : List ℕ) → front ++ (byte ∷ behind) ≢ []
some_behind front byte behind none = absurd (omega (arith, ap length none, length-append front (byte ∷ behind)))

-- a byte 0 ends a whole log, whatever stands behind it
pub shut_log : (rows : List PlainLogged) (log : List ℕ) → AreEntries rows → IsShut (gated New rows) log → IsWhole New rows log
shut_log rows log are (behind, is) = record {
  end = 0 ∷ behind;
  has = record { parts = is; spelled = are.spelled; few = are.few };
  fit = are.fit;
  ends = inl (λ e. absurd (omega arith));
  whole = inl refl;
}

-- whatever byte the gate in front of one more body is, the log is whole, with this entry or without it
pub ajar_log : (rows : List PlainLogged) (row : PlainLogged) (log : List ℕ) → AreEntries rows → IsNext New rows row → IsAjar (gated New rows) (body_of New row) log → IsWhole New rows log ⊎ IsWhole New (rows ++ row ∷ []) log
ajar_log rows row log are next (gate, behind, is) = elim (cases_eq gate 1) [
  | inl opened ↦ inr (shut_log (rows ++ row ∷ []) log (entries_push rows row are next)
      (behind, is ∙ ap (λ (k : ℕ). gated New rows ++ (k ∷ (body_of New row ++ (0 ∷ behind)))) opened ∙ sym (gated-push-append New rows row (0 ∷ behind))))
  | inr other ↦ inl record {
    end = gate ∷ (body_of New row ++ (0 ∷ behind));
    has = record { parts = is; spelled = are.spelled; few = are.few };
    fit = are.fit;
    ends = inl other;
    whole = inr (inr record { row = row; behind = behind; next = next; parts = refl });
  }
]

-- a whole log behind an open gate of the second area
pub holds_behind : (rows : List PlainLogged) (rest : List ℕ) (image : Areas) → image.second ≡ 1 ∷ rest → rest ≢ [] → IsWhole New rows rest → HoldsWhole rows image
holds_behind rows rest image parts more whole = inr record { rest = rest; parts = parts; more = more; has = whole }

-- so where a byte 0 ends the second area's log
pub shut_whole : (rows : List PlainLogged) (image : Areas) → AreEntries rows → IsShut (front_of rows) image.second → HoldsWhole rows image
shut_whole rows image are (behind, is) =
    holds_behind rows (gated New rows ++ (0 ∷ behind)) image is (some_behind (gated New rows) 0 behind) (shut_log rows (gated New rows ++ (0 ∷ behind)) are (behind, refl))

-- and where any byte is the gate of one more body
pub ajar_whole : (rows : List PlainLogged) (row : PlainLogged) (image : Areas) → AreEntries rows → IsNext New rows row → IsAjar (front_of rows) (body_of New row) image.second → HoldsEither rows row image
ajar_whole rows row image are next (gate, behind, is) =
    let rest : List ℕ = gated New rows ++ (gate ∷ (body_of New row ++ (0 ∷ behind))) in
    let more = some_behind (gated New rows) gate (body_of New row ++ (0 ∷ behind)) in
    ⊎_elim
    (λ without. inl (holds_behind rows rest image is more without))
    (λ with_it. inr (holds_behind (rows ++ row ∷ []) rest image is more with_it))
    (ajar_log rows row rest are next (gate, behind, refl))

-- so it is while an edit is pending
pub pending_whole : (pending : Pending) (rows : List PlainLogged) (row : PlainLogged) (image : Areas) → AreEntries rows → IsNext New rows row → HasGate pending rows row image.second → HoldsEither rows row image
pending_whole Nothing rows row image are next is = absurd is
pending_whole Shut rows row image are next is = inl (shut_whole rows image are is)
pending_whole Gated rows row image are next is = ajar_whole rows row image are next is
