-- The record of a commit, and what is read in it.
use Rattle.std.proofs.Common.{◌≡◌, ℕ, zero, suc, ◌+◌, ◌*◌, ◌≤◌, Bool, true, ◌&&◌, [], ◌∷◌, ◌++◌, length, take, drop, refl, sym, ◌∙◌, ap, ap₂, subst, arith, append_assoc, append-nil, length-append, length-drop, take_at, drop_at, length-take-le, flat_map, nat_le, le-leb, leb-true, lt-ltb, ltb-true}
use Rattle.std.proofs.lemmas.Bool.{and_from, and_parts, cond-true}
use Rattle.std.proofs.lemmas.Nat.{from_be_bytes-to_be_bytes_4, from_be_bytes-to_be_bytes_8}
use Rattle.std.specs.List.{AllByRecursion}
use Rattle.std.specs.Int.{w32, w64, to_be_bytes, from_be_bytes}
use Rattle.page_journal.specs.Pages.{Bytes, PageBytes, page_bytes, Writes}
use Rattle.page_journal.specs.JournalBytes.{IsWrite, AreWrites, entry_bytes, record_of, count_of, entries, writes_at, all_low, begins_with_record, staged}
use Rattle.page_journal.specs.JournalView.{IsRecordOf}
use Rattle.page_journal.specs.inside.Phases.{IsRun, IsStaged}

entries_front : (n : ℕ) (front page rest : Bytes) → length front ≡ 8 → length page ≡ 4096 → entries (suc n) ((front ++ page) ++ rest) ≡ page_bytes (from_be_bytes w64 front) page ∷ entries n rest
entries_front n front page rest eight whole =
    let parts : (front ++ page) ++ rest ≡ front ++ (page ++ rest) = append_assoc front page rest in
    let number : take 8 ((front ++ page) ++ rest) ≡ front = ap (take 8) parts ∙ take_at front (page ++ rest) 8 eight in
    let bytes : take 4096 (drop 8 ((front ++ page) ++ rest)) ≡ page = ap (λ (l : Bytes). take 4096 (drop 8 l)) parts ∙ ap (take 4096) (drop_at front (page ++ rest) 8 eight) ∙ take_at page rest 4096 whole in
    let behind : drop 4104 ((front ++ page) ++ rest) ≡ rest = drop_at (front ++ page) rest 4104 (omega (arith, length-append front page)) in
    ap₂ (λ (w : PageBytes) (l : Writes). w ∷ l) (ap₂ page_bytes (ap (from_be_bytes w64) number) bytes) (ap (entries n) behind)

entries_next : (n : ℕ) (write : PageBytes) (rest : Bytes) → IsWrite write → entries (suc n) (entry_bytes write ++ rest) ≡ write ∷ entries n rest
entries_next n write rest is =
    entries_front n (to_be_bytes w64 write.number) write.bytes rest refl is.whole
    ∙ ap (λ (k : ℕ). page_bytes k write.bytes ∷ entries n rest) (from_be_bytes-to_be_bytes_8 write.number (omega (arith, is.low)))

entries_spelled : (writes : Writes) (rest : Bytes) → AllByRecursion IsWrite writes → entries (length writes) (flat_map entry_bytes writes ++ rest) ≡ writes
entries_spelled [] rest are = refl
entries_spelled (write ∷ writes) rest are =
    ap (entries (suc (length writes))) (append_assoc (entry_bytes write) (flat_map entry_bytes writes) rest)
    ∙ entries_next (length writes) write (flat_map entry_bytes writes ++ rest) are.0
    ∙ ap (λ (l : Writes). write ∷ l) (entries_spelled writes rest are.1)

long_entry : (front page rest : Bytes) → length front ≡ 8 → length page ≡ 4096 → length ((front ++ page) ++ rest) ≡ 4104 + length rest
long_entry front page rest eight whole = omega (arith, length-append (front ++ page) rest, length-append front page)

long_pages : (writes : Writes) → AllByRecursion IsWrite writes → length (flat_map entry_bytes writes) ≡ 4104 * length writes
long_pages [] are = refl
long_pages (write ∷ writes) are =
    let rest : 4104 + length (flat_map entry_bytes writes) ≡ 4104 * suc (length writes) = omega (arith, long_pages writes are.1) in
    long_entry (to_be_bytes w64 write.number) write.bytes (flat_map entry_bytes writes) refl are.0.whole ∙ rest

lows : (writes : Writes) → AllByRecursion IsWrite writes → all_low writes ≡ true
lows [] are = refl
lows (write ∷ writes) are = and_from _ _ (lt-ltb write.number 1099511627776 are.0.low) (lows writes are.1)

staged_from : (bytes body : Bytes) (writes : Writes) → 4 ≤ length bytes → count_of bytes ≡ length writes → drop 4 bytes ≡ body → 4104 * length writes ≤ length body → entries (length writes) body ≡ writes → AreWrites writes → IsStaged bytes writes
unfolding begins_with_record writes_at
staged_from bytes body writes long count rest fits is are =
    let read : entries (count_of bytes) (drop 4 bytes) ≡ writes = ap (λ (n : ℕ). entries n (drop 4 bytes)) count ∙ ap (entries (length writes)) rest ∙ is in
    let enough : 4104 * count_of bytes ≤ length (drop 4 bytes) = subst (λ (n : ℕ). 4104 * n ≤ length (drop 4 bytes)) (sym count) (subst (λ (l : Bytes). 4104 * length writes ≤ length l) (sym rest) fits) in
    record {
      whole = and_from _ _ (le-leb 4 (length bytes) long)
          (and_from _ _ (le-leb 1 (count_of bytes) (subst (λ (n : ℕ). 1 ≤ n) (sym count) are.some))
          (and_from _ _ (le-leb (count_of bytes) 1024 (subst (λ (n : ℕ). n ≤ 1024) (sym count) are.few))
          (and_from _ _ (le-leb (4104 * count_of bytes) (length (drop 4 bytes)) enough)
          (ap all_low read ∙ lows writes are.each))));
      are = read;
    }

count_front : (front body rest : Bytes) → length front ≡ 4 → take 4 ((front ++ body) ++ rest) ≡ front
count_front front body rest four = ap (take 4) (append_assoc front body rest) ∙ take_at front (body ++ rest) 4 four

count_behind : (front body rest : Bytes) → length front ≡ 4 → drop 4 ((front ++ body) ++ rest) ≡ body ++ rest
count_behind front body rest four = ap (drop 4) (append_assoc front body rest) ∙ drop_at front (body ++ rest) 4 four

count_long : (front body rest : Bytes) → length front ≡ 4 → 4 ≤ length ((front ++ body) ++ rest)
count_long front body rest four = omega (arith, length-append (front ++ body) rest, length-append front body)

-- what stands behind a record does not matter
pub record_staged : (writes : Writes) (rest : Bytes) → AreWrites writes → IsStaged (record_of writes ++ rest) writes
unfolding record_of
record_staged writes rest are =
    let front : Bytes = to_be_bytes w32 (length writes) in
    let body : Bytes = flat_map entry_bytes writes in
    let count : count_of ((front ++ body) ++ rest) ≡ length writes = ap (from_be_bytes w32) (count_front front body rest refl) ∙ from_be_bytes-to_be_bytes_4 (length writes) (omega (arith, are.few)) in
    let fits : 4104 * length writes ≤ length (body ++ rest) = omega (arith, length-append body rest, long_pages writes are.each) in
    staged_from ((front ++ body) ++ rest) (body ++ rest) writes (count_long front body rest refl) count (count_behind front body rest refl) fits (entries_spelled writes rest are.each) are

-- what is staged is what a whole record says
pub staged_is : (bytes : Bytes) (writes : Writes) → IsStaged bytes writes → staged bytes ≡ writes
unfolding staged
staged_is bytes writes is = cond-true (begins_with_record bytes) (writes_at bytes) [] is.whole ∙ is.are

pub kept_staged : (kept rest : Bytes) (writes : Writes) → IsRecordOf kept writes → staged (kept ++ rest) ≡ writes
kept_staged kept rest writes is =
    staged_is (kept ++ rest) writes (subst (λ (l : Bytes). IsStaged (l ++ rest) writes) (sym is.spelled) (record_staged writes rest is.are))

pub record_is_staged : (kept : Bytes) (writes : Writes) → IsRecordOf kept writes → IsStaged kept writes
record_is_staged kept writes is =
    subst (λ (l : Bytes). IsStaged l writes) (append-nil kept)
    (subst (λ (l : Bytes). IsStaged (l ++ []) writes) (sym is.spelled) (record_staged writes [] is.are))

run_writes : (n : ℕ) (bytes : Bytes) → 4104 * n ≤ length bytes → all_low (entries n bytes) ≡ true → AllByRecursion IsWrite (entries n bytes)
run_writes zero bytes long low = tt
run_writes (suc n) bytes long low =
    let parts = and_parts _ _ low in (
      record {
        low = ltb-true _ _ parts.0;
        whole = length-take-le 4096 (drop 8 bytes) (omega (arith, length-drop 8 bytes, long));
      },
      run_writes n (drop 4104 bytes) (omega (arith, length-drop 4104 bytes, long)) parts.1,
    )

-- the pages of a whole record
pub staged_run : (kept : Bytes) (writes : Writes) → IsStaged kept writes → IsRun (count_of kept) (drop 4 kept) writes
unfolding begins_with_record writes_at
staged_run kept writes is =
    let last : Bool = all_low (entries (count_of kept) (drop 4 kept)) in
    let long : Bool = nat_le (4104 * count_of kept) (length (drop 4 kept)) in
    let few : Bool = nat_le (count_of kept) 1024 in
    let some : Bool = nat_le 1 (count_of kept) in
    let a = and_parts (nat_le 4 (length kept)) (some && (few && (long && last))) is.whole in
    let b = and_parts some (few && (long && last)) a.1 in
    let c = and_parts few (long && last) b.1 in
    let d = and_parts long last c.1 in
    record { long = leb-true _ _ d.0; are = is.are; low = sym (ap all_low is.are) ∙ d.1 }

pub staged_long : (kept : Bytes) (writes : Writes) → IsStaged kept writes → 4 ≤ length kept
unfolding begins_with_record
staged_long kept writes is =
    let a = and_parts (nat_le 4 (length kept)) (nat_le 1 (count_of kept) && (nat_le (count_of kept) 1024 && (nat_le (4104 * count_of kept) (length (drop 4 kept)) && all_low (entries (count_of kept) (drop 4 kept))))) is.whole in
    leb-true _ _ a.0

pub run_each : (count : ℕ) (bytes : Bytes) (writes : Writes) → IsRun count bytes writes → AllByRecursion IsWrite writes
run_each count bytes writes run = subst (AllByRecursion IsWrite) run.are (run_writes count bytes run.long (ap all_low run.are ∙ run.low))

-- each of the pages of a whole record may be written
pub staged_each : (kept : Bytes) (writes : Writes) → IsStaged kept writes → AllByRecursion IsWrite writes
staged_each kept writes is = run_each (count_of kept) (drop 4 kept) writes (staged_run kept writes is)

-- the same for what was split off its front
pub run_at : (count : ℕ) (pages kept : Bytes) (writes : Writes) → count ≡ count_of kept → pages ≡ drop 4 kept → IsStaged kept writes → IsRun count pages writes
run_at count pages kept writes count_is pages_are is =
    subst (λ (n : ℕ). IsRun n pages writes) (sym count_is)
    (subst (λ (l : Bytes). IsRun (count_of kept) l writes) (sym pages_are) (staged_run kept writes is))
