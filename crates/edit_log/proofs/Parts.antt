-- What writes, whole or torn, leave of a log.
use Rattle.std.proofs.Common.{◌≡◌, ℕ, ◌+◌, ◌-◌, List, [], ◌∷◌, ◌++◌, length, take, drop, replicate, refl, sym, ◌∙◌, ap, arith, append_assoc, length-append}
use Rattle.std.proofs.lemmas.List.{take_at, drop_at, drop_all, append-nil}
use Rattle.green_io.specs.Disk.{Written, Torn}
use Rattle.edit_log.specs.Images.{IsShut, IsAjar}

-- the write of a torn or whole run of bytes behind a place that stays
pub torn_behind : (front : List ℕ) (rest old new : List ℕ) (at n : ℕ) → old ≡ front ++ rest → length front ≡ at → Torn at n old new → (behind : List ℕ) × (new ≡ front ++ behind)
torn_behind front rest old new at n is long torn = (
  torn.any ++ drop (at + n) old,
  torn.bytes
      ∙ ap (λ (l : List ℕ). l ++ torn.any ++ drop (at + n) old) (ap (take at) is ∙ take_at front rest at long)
      ∙ append_assoc front torn.any (drop (at + n) old),
)

-- A torn write behind the byte 0 leaves it.
pub torn_shut : (front : List ℕ) (n : ℕ) (old new : List ℕ) → IsShut front old → Torn (length front + 1) n old new → IsShut front new
torn_shut front n old new (behind, is) torn =
    let found = torn_behind (front ++ 0 ∷ []) behind old new (length front + 1) n (is ∙ sym (append_assoc (front) (0 ∷ []) behind)) (length-append (front) (0 ∷ [])) torn in
    (found.0, found.1 ∙ append_assoc (front) (0 ∷ []) found.0)

-- a write within or at the end of what is there
pub written_at : (front mid rest old new bytes : List ℕ) (at : ℕ) → old ≡ front ++ (mid ++ rest) → length front ≡ at → length mid ≡ length bytes → Written at bytes old new → new ≡ front ++ (bytes ++ rest)
written_at front mid rest old new bytes at is long same written =
    let none : at - length old ≡ 0 = omega (arith, ap length is, length-append front (mid ++ rest)) in
    let before : take at old ≡ front = ap (take at) is ∙ take_at front (mid ++ rest) at long in
    let whole : old ≡ (front ++ mid) ++ rest = is ∙ sym (append_assoc front mid rest) in
    let after : drop (at + length bytes) old ≡ rest = ap (drop (at + length bytes)) whole ∙ drop_at (front ++ mid) rest (at + length bytes) (omega (arith, length-append front mid)) in
    written
    ∙ ap (λ (l : List ℕ). l ++ replicate (at - length old) 0 ++ bytes ++ drop (at + length bytes) old) before
    ∙ ap (λ (k : ℕ). front ++ replicate k 0 ++ bytes ++ drop (at + length bytes) old) none
    ∙ ap (λ (l : List ℕ). l ++ bytes ++ drop (at + length bytes) old) (append-nil front)
    ∙ ap (λ (l : List ℕ). front ++ bytes ++ l) after
    ∙ append_assoc front bytes rest

-- a write at the end of what is there
pub written_last : (front old new bytes : List ℕ) → old ≡ front → Written (length front) bytes old new → new ≡ front ++ bytes
written_last front old new bytes is written =
    let at = length front in
    let none : at - length old ≡ 0 = omega (arith, ap length is) in
    let before : take at old ≡ front = ap (take at) (is ∙ sym (append-nil front)) ∙ take_at front [] at refl in
    let after : drop (at + length bytes) old ≡ [] = drop_all (at + length bytes) old (omega (arith, ap length is)) in
    written
    ∙ ap (λ (l : List ℕ). l ++ replicate (at - length old) 0 ++ bytes ++ drop (at + length bytes) old) before
    ∙ ap (λ (k : ℕ). front ++ replicate k 0 ++ bytes ++ drop (at + length bytes) old) none
    ∙ ap (λ (l : List ℕ). l ++ bytes ++ drop (at + length bytes) old) (append-nil front)
    ∙ ap (λ (l : List ℕ). front ++ bytes ++ l) after
    ∙ append-nil (front ++ bytes)

-- a write that begins right behind what is given, over any bytes
pub written_behind : (front rest old new bytes : List ℕ) (at : ℕ) → old ≡ front ++ rest → length front ≡ at → Written at bytes old new → (behind : List ℕ) × (new ≡ front ++ (bytes ++ behind))
written_behind front rest old new bytes at is long written =
    let none : at - length old ≡ 0 = omega (arith, ap length is, length-append front rest) in
    let before : take at old ≡ front = ap (take at) is ∙ take_at front rest at long in
    let behind = drop (at + length bytes) old in (
      behind,
      written
          ∙ ap (λ (l : List ℕ). l ++ replicate (at - length old) 0 ++ bytes ++ behind) before
          ∙ ap (λ (k : ℕ). front ++ replicate k 0 ++ bytes ++ behind) none
          ∙ ap (λ (l : List ℕ). l ++ bytes ++ behind) (append-nil front)
          ∙ append_assoc front bytes behind,
    )

-- a body and a byte 0 come behind the byte 0
pub written_ajar : (front : List ℕ) (body bytes old new : List ℕ) → bytes ≡ body ++ (0 ∷ []) → IsShut front old → Written (length front + 1) bytes old new → IsAjar front body new
written_ajar front body bytes old new parts (rest, is) written =
    let found = written_behind (front ++ 0 ∷ []) rest old new bytes (length front + 1) (is ∙ sym (append_assoc (front) (0 ∷ []) rest)) (length-append (front) (0 ∷ [])) written in
    let joined : bytes ++ found.0 ≡ body ++ (0 ∷ found.0) = ap (λ (l : List ℕ). l ++ found.0) parts ∙ append_assoc body (0 ∷ []) found.0 in
    (0, found.0, found.1 ∙ append_assoc (front) (0 ∷ []) (bytes ++ found.0) ∙ ap (λ (l : List ℕ). front ++ (0 ∷ l)) joined)

-- a byte is written to the gate
pub written_gate : (front : List ℕ) (body old new : List ℕ) (gate : ℕ) → IsAjar front body old → Written (length front) (gate ∷ []) old new → (behind : List ℕ) × (new ≡ front ++ (gate ∷ (body ++ (0 ∷ behind))))
written_gate front body old new gate (was, behind, is) written =
    (behind, written_at (front) (was ∷ []) (body ++ (0 ∷ behind)) old new (gate ∷ []) (length front) is refl refl written)

-- the gate is opened
pub written_open : (front : List ℕ) (body old new : List ℕ) → IsAjar front body old → Written (length front) (1 ∷ []) old new → IsShut (front ++ (1 ∷ body)) new
written_open front body old new ajar written =
    let found = written_gate front body old new 1 ajar written in
    (found.0, found.1 ∙ sym (append_assoc front (1 ∷ body) (0 ∷ found.0)))

-- the gate is closed
pub written_shut : (front : List ℕ) (body old new : List ℕ) → IsAjar front body old → Written (length front) (0 ∷ []) old new → IsShut front new
written_shut front body old new ajar written =
    let found = written_gate front body old new 0 ajar written in (body ++ (0 ∷ found.0), found.1)

one_byte : (bytes : List ℕ) → length bytes ≡ 1 → (byte : ℕ) × (bytes ≡ byte ∷ [])
one_byte [] long = absurd (omega arith)
one_byte (byte ∷ []) long = (byte, refl)
one_byte (byte ∷ more ∷ rest) long = absurd (omega arith)

-- a torn write of one byte that is there
pub torn_gate : (front : List ℕ) (was : ℕ) (rest old new : List ℕ) → old ≡ front ++ (was ∷ rest) → Torn (length front) 1 old new → (byte : ℕ) × (new ≡ front ++ (byte ∷ rest))
torn_gate front was rest old new is torn =
    let before : take (length front) old ≡ front = ap (take (length front)) is ∙ take_at front (was ∷ rest) (length front) refl in
    let whole : old ≡ (front ++ was ∷ []) ++ rest = is ∙ sym (append_assoc front (was ∷ []) rest) in
    let after : drop (length front + 1) old ≡ rest = ap (drop (length front + 1)) whole ∙ drop_at (front ++ was ∷ []) rest (length front + 1) (length-append front (was ∷ [])) in
    let now : new ≡ front ++ (torn.any ++ rest) = torn.bytes ∙ ap (λ (l : List ℕ). l ++ torn.any ++ drop (length front + 1) old) before ∙ ap (λ (l : List ℕ). front ++ torn.any ++ l) after ∙ append_assoc front torn.any rest in
    let long : length torn.any ≡ 1 = omega (arith, torn.no_shorter, torn.no_longer, ap length is, ap length now, length-append front (was ∷ rest), length-append front (torn.any ++ rest), length-append torn.any rest) in
    let byte = one_byte torn.any long in
    (byte.0, now ∙ ap (λ (l : List ℕ). front ++ (l ++ rest)) byte.1)

-- a torn write of the gate leaves any byte there
pub torn_ajar : (front : List ℕ) (body old new : List ℕ) → IsAjar front body old → Torn (length front) 1 old new → IsAjar front body new
torn_ajar front body old new (was, behind, is) torn =
    let found = torn_gate front was (body ++ (0 ∷ behind)) old new is torn in (found.0, behind, found.1)
