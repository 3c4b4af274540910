-- What writes, whole or torn, leave of the Journal.
use Rattle.std.proofs.Common.{◌≡◌, ◌⊎◌, inl, inr, ⊎_elim, ℕ, ◌+◌, ◌-◌, ◌≤◌, [], ◌∷◌, ◌++◌, length, take, drop, replicate, refl, sym, ◌∙◌, ap, arith, append-nil, length-append, nat_eq}
use Rattle.std.proofs.lemmas.Bool.{cases_cond}
use Rattle.green_io.specs.Disk.{Written, Torn}
use Rattle.page_journal.specs.Pages.{Bytes, Writes}
use Rattle.page_journal.specs.JournalBytes.{staged, replayed}
use Rattle.page_journal.specs.Images.{IsShut, IsAjar, IsGated}
use Rattle.page_journal.proofs.Ranges.{written_drop}

-- a torn write of the record leaves the gate
pub torn_shut : (n : ℕ) (old new : Bytes) → IsShut old → Torn 4096 n old new → IsShut new
torn_shut n old new (behind, is) torn =
    (take 4095 behind ++ torn.any ++ drop (4096 + n) old, torn.bytes ∙ ap (λ (l : Bytes). take 4096 l ++ torn.any ++ drop (4096 + n) old) is)

-- a record stands where it was written
pub written_staged : (kept old new : Bytes) (writes : Writes) → IsShut old → Written 4096 kept old new → ((rest : Bytes) → staged (kept ++ rest) ≡ writes) → IsAjar writes new
written_staged kept old new writes (behind, is) written says =
    let rest : Bytes = drop (4096 + length kept) old in
    let now : Bytes = take 4095 behind ++ replicate (4096 - length old) 0 ++ kept ++ rest in
    let parts : new ≡ 0 ∷ now = written ∙ ap (λ (l : Bytes). take 4096 l ++ replicate (4096 - length old) 0 ++ kept ++ rest) is in
    let at : drop 4095 now ≡ kept ++ rest = sym (ap (drop 4096) parts) ∙ written_drop 4096 kept old new written in
    record { gate = 0; behind = now; parts = parts; has = ap staged at ∙ says rest }

one_byte : (bytes : Bytes) → length bytes ≡ 1 → (byte : ℕ) × (bytes ≡ byte ∷ [])
one_byte [] long = absurd (omega arith)
one_byte (byte ∷ []) long = (byte, refl)
one_byte (byte ∷ more ∷ rest) long = absurd (omega arith)

-- a torn write of a gate that is there leaves some byte there
pub torn_front : (gate : ℕ) (behind old new : Bytes) → old ≡ gate ∷ behind → Torn 0 1 old new → (byte : ℕ) × (new ≡ byte ∷ behind)
torn_front gate behind old new is torn =
    let now : new ≡ torn.any ++ behind = torn.bytes ∙ ap (λ (l : Bytes). torn.any ++ drop 1 l) is in
    let whole : length new ≡ length torn.any + length behind = ap length now ∙ length-append torn.any behind in
    let was : length old ≡ length behind + 1 = ap length is ∙ one_more behind in
    let byte = one_byte torn.any (omega (arith, torn.no_shorter, torn.no_longer, whole, was)) in
    (byte.0, now ∙ ap (λ (l : Bytes). l ++ behind) byte.1)
  where
    one_more : (l : Bytes) → length (0 ∷ l) ≡ length l + 1
    one_more l = omega arith

-- the gate is written
pub written_front : (byte : ℕ) (old new : Bytes) → Written 0 (byte ∷ []) old new → new ≡ byte ∷ drop 1 old
written_front byte old new written =
    let none : 0 - length old ≡ 0 = omega arith in
    written ∙ ap (λ (k : ℕ). replicate k 0 ++ (byte ∷ []) ++ drop 1 old) none

pub torn_ajar : (writes : Writes) (old new : Bytes) → IsAjar writes old → Torn 0 1 old new → IsAjar writes new
torn_ajar writes old new ajar torn =
    let found = torn_front ajar.gate ajar.behind old new ajar.parts torn in
    record { gate = found.0; behind = ajar.behind; parts = found.1; has = ajar.has }

pub written_gated : (writes : Writes) (old new : Bytes) → IsAjar writes old → Written 0 (1 ∷ []) old new → IsGated writes new
written_gated writes old new ajar written =
    record { behind = ajar.behind; parts = written_front 1 old new written ∙ ap (λ (l : Bytes). 1 ∷ drop 1 l) ajar.parts; has = ajar.has }

pub written_shut : (old new : Bytes) → Written 0 (0 ∷ []) old new → IsShut new
written_shut old new written = (drop 1 old, written_front 0 old new written)

pub gated_ajar : (writes : Writes) (journal : Bytes) → IsGated writes journal → IsAjar writes journal
gated_ajar writes journal gated = record { gate = 1; behind = gated.behind; parts = gated.parts; has = gated.has }

-- what is laid over Home behind each gate
pub replayed_shut : (journal : Bytes) → IsShut journal → replayed journal ≡ []
replayed_shut journal (behind, is) = ap replayed is

pub replayed_gated : (writes : Writes) (journal : Bytes) → IsGated writes journal → replayed journal ≡ writes
replayed_gated writes journal gated = ap replayed gated.parts ∙ gated.has

pub replayed_ajar : (writes : Writes) (journal : Bytes) → IsAjar writes journal → (replayed journal ≡ []) ⊎ (replayed journal ≡ writes)
replayed_ajar writes journal ajar =
    ⊎_elim
    (λ (all : replayed journal ≡ staged (drop 4095 ajar.behind)). inr (all ∙ ajar.has))
    (λ (none : replayed journal ≡ []). inl none)
    (cases_cond (nat_eq ajar.gate 1) (staged (drop 4095 ajar.behind)) [] (replayed journal) (ap replayed ajar.parts))

at_most_one : (bytes : Bytes) → length bytes ≤ 1 → (bytes ≡ []) ⊎ ((byte : ℕ) × (bytes ≡ byte ∷ []))
at_most_one [] few = inl refl
at_most_one (byte ∷ []) few = inr (byte, refl)
at_most_one (byte ∷ more ∷ rest) few = absurd (omega arith)

-- a torn write of any gate: nothing is laid over Home, or what is staged is
pub torn_any : (old new : Bytes) → Torn 0 1 old new → (replayed new ≡ []) ⊎ (replayed new ≡ staged (drop 4096 old))
torn_any [] new torn =
    let now : new ≡ torn.any = torn.bytes ∙ append-nil torn.any in
    let few : length torn.any ≤ 1 = omega (arith, torn.no_longer, ap length now) in
    ⊎_elim
    (λ (none : torn.any ≡ []). inl (ap replayed (now ∙ none)))
    (λ (one : (byte : ℕ) × (torn.any ≡ byte ∷ [])). by_test one.0 (now ∙ one.1))
    (at_most_one torn.any few)
  where
    by_test : (byte : ℕ) → new ≡ byte ∷ [] → (replayed new ≡ []) ⊎ (replayed new ≡ staged [])
    by_test byte is =
        ⊎_elim
        (λ (all : replayed new ≡ staged []). inr all)
        (λ (none : replayed new ≡ []). inl none)
        (cases_cond (nat_eq byte 1) (staged []) [] (replayed new) (ap replayed is))
torn_any (gate ∷ behind) new torn =
    let found = torn_front gate behind (gate ∷ behind) new refl torn in
    ⊎_elim
    (λ (all : replayed new ≡ staged (drop 4095 behind)). inr all)
    (λ (none : replayed new ≡ []). inl none)
    (cases_cond (nat_eq found.0 1) (staged (drop 4095 behind)) [] (replayed new) (ap replayed found.1))
