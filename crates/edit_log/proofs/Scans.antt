-- The entries that a scan has passed.
use Rattle.std.proofs.Common.{◌≡◌, ℕ, ◌+◌, ◌<◌, ◌≤◌, List, [], ◌∷◌, ◌++◌, length, drop, sym, ◌∙◌, ap, arith, length-append}
use Rattle.std.proofs.lemmas.List.{drop-drop, drop_at}
use Rattle.entry_codec.specs.Bodies.{HasBody, IsBodyOf}
use Rattle.entry_codec.specs.Format.{body_of}
use Rattle.entry_codec.specs.Logged.{PlainLogged}
use Rattle.entry_codec.specs.declared.format.LogFormat.{LogFormat}
use Rattle.edit_log.specs.Log.{gated, most_entries, HasEntries}
use Rattle.edit_log.proofs.Wholes.{gated-push, gated-push-append, all_push}

-- one entry more
pub has_more : (format : LogFormat) (bytes : List ℕ) (at n : ℕ) (rows : List PlainLogged) (row : PlainLogged) → HasEntries format rows (drop at bytes) bytes → HasBody format row → length rows < most_entries → drop at bytes ≡ 1 ∷ body_of format row ++ drop n (drop at bytes) → HasEntries format (rows ++ row ∷ []) (drop (at + n) bytes) bytes
has_more format bytes at n rows row has body room is = record {
  parts =
      has.parts
      ∙ ap (λ (l : List ℕ). gated format rows ++ l) (is ∙ ap (λ (l : List ℕ). 1 ∷ body_of format row ++ l) (drop-drop n at bytes))
      ∙ sym (gated-push-append format rows row (drop (at + n) bytes));
  spelled = all_push format rows row has.spelled body;
  few = omega (arith, length-append rows (row ∷ []), room);
}

pub at_more : (format : LogFormat) (at n : ℕ) (rows : List PlainLogged) (row : PlainLogged) → at ≡ length (gated format rows) → n ≡ length (body_of format row) + 1 → at + n ≡ length (gated format (rows ++ row ∷ []))
at_more format at n rows row is long = omega (arith, ap length (gated-push format rows row), length-append (gated format rows) (1 ∷ body_of format row))

-- an open gate, and the body behind it
pub steps_over : (format : LogFormat) (count gate : ℕ) (rest behind body more : List ℕ) (row : PlainLogged) → rest ≡ gate ∷ behind → gate ≡ 1 → behind ≡ body ++ more → IsBodyOf format row body → count < most_entries → HasBody format row × (count < most_entries) × (1 ≤ 1 + length body) × (1 + length body ≤ length rest) × (rest ≡ 1 ∷ body_of format row ++ drop (1 + length body) rest) × (1 + length body ≡ length (body_of format row) + 1)
steps_over format count gate rest behind body more row is opened split of room =
    let whole : rest ≡ (1 ∷ body) ++ more = is ∙ ap (λ (g : ℕ). g ∷ behind) opened ∙ ap (λ (l : List ℕ). 1 ∷ l) split in
    let after : drop (1 + length body) rest ≡ more = ap (drop (1 + length body)) whole ∙ drop_at (1 ∷ body) more (1 + length body) (omega arith) in (
      of.valid,
      room,
      omega arith,
      omega (arith, ap length whole, length-append body more),
      whole ∙ ap (λ (l : List ℕ). 1 ∷ l ++ more) of.spelled ∙ ap (λ (l : List ℕ). 1 ∷ body_of format row ++ l) (sym after),
      omega (arith, ap length of.spelled),
    )
