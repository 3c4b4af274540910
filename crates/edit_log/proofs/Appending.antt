-- What the phases of an append and a mend say of whole logs.
use Rattle.std.proofs.Common.{◌≡◌, inl, ℕ, ◌+◌, ◌-◌, ◌^◌, ◌<◌, min, List, [], ◌∷◌, ◌++◌, length, sym, ◌∙◌, ap, subst, arith, length-append}
use Rattle.entry_codec.specs.Format.{body_of}
use Rattle.entry_codec.specs.Logged.{PlainLogged}
use Rattle.entry_codec.specs.Laws.{BodySaysLength}
use Rattle.entry_codec.specs.declared.format.LogFormat.TheVariants.{New}
use Rattle.green_io.specs.Disk.{DiskState, LeavesOnly}
use Rattle.green_io.proofs.Crash.{weaker, same}
use Rattle.edit_log.specs.declared.pending.Pending.TheVariants.{Gated}
use Rattle.edit_log.specs.LogView.{LogView}
use Rattle.edit_log.specs.Log.{IsNext}
use Rattle.edit_log.specs.Second.{front_of}
use Rattle.edit_log.specs.Images.{IsShut, IsAjar, AreEntries, IsAppendable, HoldsEither, HasGate, InSecond, SecondImages, IsPending}
use Rattle.edit_log.proofs.Wholes.{gated-push, shut_whole, ajar_whole, entries_push, end_is_small}

-- while the gate is a stable 0
pub shut_holds : (a b : DiskState) (rows : List PlainLogged) (row : PlainLogged) → AreEntries rows → LeavesOnly a b (InSecond (IsShut (front_of rows))) → LeavesOnly a b (HoldsEither rows row)
shut_holds a b rows row are leaves =
    weaker a b (InSecond (IsShut (front_of rows))) (HoldsEither rows row) leaves (λ image shut. inl (shut_whole rows image are shut))

-- while the gate may have any byte
pub ajar_holds : (a b : DiskState) (rows : List PlainLogged) (row : PlainLogged) → AreEntries rows → IsNext New rows row → LeavesOnly a b (InSecond (IsAjar (front_of rows) (body_of New row))) → LeavesOnly a b (HoldsEither rows row)
ajar_holds a b rows row are next leaves =
    weaker a b (InSecond (IsAjar (front_of rows) (body_of New row))) (HoldsEither rows row) leaves (λ image ajar. ajar_whole rows row image are next ajar)

-- first the one and then the other
pub append_holds : (a b c : DiskState) (rows : List PlainLogged) (row : PlainLogged) → AreEntries rows → IsNext New rows row → LeavesOnly a b (InSecond (IsShut (front_of rows))) → LeavesOnly b c (InSecond (IsAjar (front_of rows) (body_of New row))) → LeavesOnly a c (HoldsEither rows row)
append_holds a b c rows row are next first then =
    same a b c (HoldsEither rows row) (shut_holds a b rows row are first) (ajar_holds b c rows row are next then)

-- the place where a log ends stays below 2 ^ 63
pub small_end : BodySaysLength → (rows : List PlainLogged) → AreEntries rows → length (front_of rows) < 2 ^ 63
small_end says rows are = omega (arith, end_is_small says New rows are.spelled are.few)

-- one more entry comes behind the second area's others
pub front-push : (rows : List PlainLogged) (row : PlainLogged) → front_of (rows ++ row ∷ []) ≡ front_of rows ++ (1 ∷ body_of New row)
front-push rows row = ap (λ (l : List ℕ). 1 ∷ l) (gated-push New rows row)

-- where the log ends once one more entry is in it
pub appended : (disk : DiskState) (end sum : ℕ) (rows : List PlainLogged) (row : PlainLogged) (bytes : List ℕ) → BodySaysLength → IsAppendable rows row bytes → end ≡ length (front_of rows) → sum ≡ min (end + length bytes) (2 ^ 64 - 1) → SecondImages disk (length (front_of rows ++ (1 ∷ body_of New row))) (front_of rows ++ (1 ∷ body_of New row)) (IsShut (front_of rows ++ (1 ∷ body_of New row))) → SecondImages disk sum (front_of (rows ++ row ∷ [])) (IsShut (front_of (rows ++ row ∷ [])))
appended disk end sum rows row bytes says appendable at is images =
    let front : List ℕ = front_of rows in
    let body : List ℕ = body_of New row in
    let push = front-push rows row in
    let long : length (front ++ (1 ∷ body)) ≡ length front + (length body + 1) = omega (arith, length-append front (1 ∷ body)) in
    let bytes_long : length bytes ≡ length body + 1 = ap length appendable.parts ∙ length-append body (0 ∷ []) in
    let small : length (front ++ (1 ∷ body)) < 2 ^ 63 = subst (λ (l : List ℕ). length l < 2 ^ 63) push (small_end says (rows ++ row ∷ []) (entries_push rows row appendable.before appendable.next)) in
    let sum_is : sum ≡ length (front ++ (1 ∷ body)) = sums end sum (length front) (length body) (length bytes) _ at is bytes_long long small in
    subst (λ (l : List ℕ). SecondImages disk sum l (IsShut l)) (sym push)
    record { told = images.told; at_end = sum_is; each = images.each }
  where
    sums : (end sum g b n whole : ℕ) → end ≡ g → sum ≡ min (end + n) (2 ^ 64 - 1) → n ≡ b + 1 → whole ≡ g + (b + 1) → whole < 2 ^ 63 → sum ≡ whole
    sums end sum g b n whole at is long all small = omega arith

-- an edit whose gate may be open is pending at images that have any byte there
pub gated_images : (disk : DiskState) (log : LogView) (rows : List PlainLogged) (row : PlainLogged) → log.pending ≡ Gated → IsPending disk log rows row → SecondImages disk log.end (front_of rows) (IsAjar (front_of rows) (body_of New row))
gated_images disk log rows row is pending = subst (λ p. SecondImages disk log.end (front_of rows) (HasGate p rows row)) is pending.images
