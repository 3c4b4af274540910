-- What opening finds, and what it leaves of it.
use Rattle.std.proofs.Common.{◌≡◌, ◌⊎◌, inl, inr, ⊎_elim, ℕ, ◌-◌, ◌≤◌, Bool, true, false, cond, [], ◌∷◌, length, take, drop, Option, None, Some, IsSome, nat_eq, refl, sym, ◌∙◌, ap, subst, arith, length-drop, take_all, ne_eqb, Result, Ok, Err, IfOk}
use Rattle.std.proofs.lemmas.Bool.{cond-false}
use Rattle.std.specs.List.{AllByRecursion}
use Rattle.green_io.specs.declared.disk.Area.TheVariants as area
use Rattle.green_io.specs.Areas.{Areas}
use Rattle.green_io.specs.Disk.{DiskState, IsDisk, WhereTold, images_now, LeavesOnly, Nothing, IsStable}
use Rattle.green_io.proofs.Crash.{weaker, nothing_new, nothing_then, now_was}
use Rattle.page_journal.specs.declared.opening.Gate.TheVariants as gates
use Rattle.page_journal.specs.declared.opening.Found.{Found}
use Rattle.page_journal.specs.declared.opening.Found.TheVariants as founds
use Rattle.page_journal.specs.Pages.{Bytes, Writes, pages_of, laid, home_after, Extends}
use Rattle.page_journal.specs.JournalBytes.{IsWrite, begins_with_record, writes_at, staged, replayed, opened}
use Rattle.page_journal.specs.Images.{IsShut, IsGated, HomeIs, IsMidway, AllHave, GivesSettled}
use Rattle.page_journal.specs.JournalView.{JournalView, IsSettled, IsClean}
use Rattle.page_journal.specs.Answers.{OnDiskFault}
use Rattle.page_journal.specs.declared.page_fault.PageFault.{PageFault}
use Rattle.page_journal.specs.declared.page_fault.PageFault.TheVariants as faults
use Rattle.page_journal.specs.declared.stage.Stage.TheVariants as stages
use Rattle.green_io.specs.Outside.{HasRisen}
use Rattle.page_journal.proofs.Joining.{settled_over}
use Rattle.page_journal.proofs.Steps.{home_reads}
use Rattle.page_journal.specs.inside.Phases.{IsStaged}
use Rattle.page_journal.specs.inside.Courses.{GivesLaid}
use Rattle.page_journal.specs.inside.Opening.{AreAreas, IsGate, IsOpenAt, IsFound, IsRecordFound}
use Rattle.page_journal.proofs.Gives.{opened_is}
use Rattle.page_journal.proofs.Journals.{replayed_shut}
use Rattle.page_journal.proofs.PageMaps.{laid_over_itself}
use Rattle.page_journal.proofs.Recorded.{staged_is, staged_each}

-- both areas are stable
pub settled_areas : (told : Option Areas) (b c : DiskState) → IsDisk c → b.reads ≡ told → c.reads ≡ b.reads → IsStable area.Home told (images_now b) → IsStable area.Journal b.reads (images_now c) → LeavesOnly b c Nothing → WhereTold told (λ areas. AllHave c (AreAreas areas))
settled_areas None b c disk was same home journal leaves = tt
settled_areas (Some x) b c disk was same home journal leaves =
    let stable_journal : IsStable area.Journal (Some x) (images_now c) = subst (λ (r : Option Areas). IsStable area.Journal r (images_now c)) was journal in
    record {
      told = subst (λ (r : Option Areas). IsSome r) (sym (same ∙ was)) refl;
      each = λ i is. record { home_is = home i (now_was b c disk leaves i is); journal_has = stable_journal i is };
    }

same_gate : (gate : ℕ) (behind journal : Bytes) → gate ∷ behind ≡ take 1 journal → (rest : Bytes) × (journal ≡ gate ∷ rest)
same_gate gate behind [] is = absurd (cc is)
same_gate gate behind (byte ∷ rest) is = let e : byte ≡ gate = cc is in (rest, ap (λ (b : ℕ). b ∷ rest) e)

no_gate : (journal : Bytes) → [] ≡ take 1 journal → journal ≡ []
no_gate [] is = refl
no_gate (byte ∷ rest) is = absurd (cc is)

pub shut_where : (told : Option Areas) (front : Bytes) → IsGate gates.Shut front → WhereTold told (λ areas. front ≡ take 1 (drop 0 areas.journal)) → WhereTold told (λ areas. IsFound founds.Shut areas.journal)
shut_where None front (behind, is) read = tt
shut_where (Some x) front (behind, is) read = same_gate 0 behind x.journal (sym is ∙ read)

not_open : (gate : ℕ) (rest journal : Bytes) → (gate ≡ 1 → ⊥) → journal ≡ gate ∷ rest → replayed journal ≡ []
not_open gate rest journal other is = ap replayed is ∙ cond-false (nat_eq gate 1) (staged (drop 4095 rest)) [] (ne_eqb gate 1 other)

pub torn_where : (told : Option Areas) (front : Bytes) → IsGate gates.Torn front → WhereTold told (λ areas. front ≡ take 1 (drop 0 areas.journal)) → WhereTold told (λ areas. IsFound founds.Torn areas.journal)
torn_where None front torn read = tt
torn_where (Some x) front (inl none) read = ap replayed (no_gate x.journal (sym none ∙ read))
torn_where (Some x) front (inr other) read =
    let found = same_gate other.0 other.1 x.journal (sym other.3 ∙ read) in
    not_open other.0 found.0 x.journal other.2 found.1

pub open_where : (told : Option Areas) (now : Option Areas) (found : Found) (front : Bytes) → now ≡ told → IsGate gates.Open front → WhereTold told (λ areas. front ≡ take 1 (drop 0 areas.journal)) → WhereTold now (λ areas. IsRecordFound found areas.journal) → WhereTold told (λ areas. IsFound found areas.journal)
open_where None now found front same (behind, is) read has = tt
open_where (Some x) now found front same (behind, is) read has =
    let gate = same_gate 1 behind x.journal (sym is ∙ read) in
    (subst (λ (r : Option Areas). WhereTold r (λ areas. IsRecordFound found areas.journal)) same has) gate.0 gate.1

-- what was read from the record on
all_kept : (n : ℕ) (kept journal behind : Bytes) → n ≡ length journal → kept ≡ take (n - 4096) (drop 4096 journal) → journal ≡ 1 ∷ behind → kept ≡ drop 4095 behind
all_kept n kept journal behind long is parts =
    is ∙ take_all (n - 4096) (drop 4096 journal) (omega (arith, long, length-drop 4096 journal)) ∙ ap (drop 4096) parts

pub record_where : (told now : Option Areas) (n count : ℕ) (kept : Bytes) (found : Found) → count ≡ n - 4096 → now ≡ told → WhereTold told (λ areas. n ≡ length areas.journal) → WhereTold now (λ areas. kept ≡ take count (drop 4096 areas.journal)) → ((journal behind : Bytes) → journal ≡ 1 ∷ behind → kept ≡ drop 4095 behind → IsFound found journal) → WhereTold told (λ areas. IsRecordFound found areas.journal)
record_where None now n count kept found count_is same long read makes = tt
record_where (Some x) now n count kept found count_is same long read makes = λ behind parts.
    let is = subst (λ (r : Option Areas). WhereTold r (λ areas. kept ≡ take count (drop 4096 areas.journal))) same read ∙ ap (λ (k : ℕ). take k (drop 4096 x.journal)) count_is in
    makes x.journal behind parts (all_kept n kept x.journal behind long is parts)

pub no_record : (kept journal behind : Bytes) → begins_with_record kept ≡ false → journal ≡ 1 ∷ behind → kept ≡ drop 4095 behind → replayed journal ≡ []
unfolding staged
no_record kept journal behind none parts is =
    ap replayed parts ∙ ap staged (sym is) ∙ cond-false (begins_with_record kept) (writes_at kept) [] none

-- pages that are staged may be written
pub staged_all : (bytes : Bytes) → AllByRecursion IsWrite (staged bytes)
unfolding staged
staged_all bytes = by_test (begins_with_record bytes) refl
  where
    by_test : (t : Bool) → begins_with_record bytes ≡ t → AllByRecursion IsWrite (cond t (writes_at bytes) [])
    by_test true e = staged_each bytes (writes_at bytes) record { whole = e; are = refl }
    by_test false e = tt

-- a gate is written at which nothing is laid over Home
pub torn_settles : (areas image : Areas) → replayed areas.journal ≡ [] → HomeIs areas.home (λ journal. (replayed journal ≡ []) ⊎ (replayed journal ≡ staged (drop 4096 areas.journal))) image → GivesSettled areas image
torn_settles areas image nothing has =
    ⊎_elim
    (λ (none : replayed image.journal ≡ []). inl (λ k. ap (λ p. p k) (opened_is image areas.home [] has.home_is none ∙ sym (opened_is areas areas.home [] refl nothing))))
    (λ (all : replayed image.journal ≡ staged (drop 4096 areas.journal)). inr (subst (Extends (laid (staged (drop 4096 areas.journal)) (pages_of areas.home))) (sym (opened_is image areas.home (staged (drop 4096 areas.journal)) has.home_is all)) (laid_over_itself (staged (drop 4096 areas.journal)) areas.home (staged_all (drop 4096 areas.journal)))))
    has.journal_has

-- the pages of a record that was found
pub found_staged : (kept journal : Bytes) → IsOpenAt kept journal → IsStaged kept (writes_at kept)
found_staged kept journal found = record { whole = found.whole; are = refl }

pub found_behind : (kept journal : Bytes) → IsOpenAt kept journal → staged (drop 4096 journal) ≡ writes_at kept
found_behind kept journal found =
    ap (λ (j : Bytes). staged (drop 4096 j)) found.parts ∙ ap staged (sym found.kept_is) ∙ staged_is kept (writes_at kept) (found_staged kept journal found)

pub found_gated : (kept journal : Bytes) → IsOpenAt kept journal → IsGated (writes_at kept) journal
found_gated kept journal found = record {
  behind = found.behind;
  parts = found.parts;
  has = ap staged (sym found.kept_is) ∙ staged_is kept (writes_at kept) (found_staged kept journal found);
}

pub found_replayed : (kept journal : Bytes) → IsOpenAt kept journal → replayed journal ≡ writes_at kept
found_replayed kept journal found = ap replayed found.parts ∙ ap staged (sym found.kept_is) ∙ staged_is kept (writes_at kept) (found_staged kept journal found)

pub found_midway : (a : DiskState) (areas : Areas) (kept : Bytes) → IsOpenAt kept areas.journal → AllHave a (AreAreas areas) → AllHave a (IsMidway (writes_at kept) areas.home)
found_midway a areas kept found have = record {
  told = have.told;
  each = λ i is. record {
    spared = λ k page apart there. ap (λ (h : Bytes). pages_of h k) (have.each i is).home_is ∙ there;
    gated = subst (IsGated (writes_at kept)) (sym (have.each i is).journal_has) (found_gated kept areas.journal found);
  };
}

pub found_gives : (a b : DiskState) (areas : Areas) (kept : Bytes) → IsOpenAt kept areas.journal → LeavesOnly a b (GivesLaid (pages_of areas.home) (writes_at kept)) → LeavesOnly a b (GivesSettled areas)
found_gives a b areas kept found leaves =
    weaker a b (GivesLaid (pages_of areas.home) (writes_at kept)) (GivesSettled areas) leaves
    (λ i has. inr (subst (λ (w : Writes). Extends (laid w (pages_of areas.home)) (opened i)) (sym (found_behind kept areas.journal found)) has))

pub shut_settled : (a : DiskState) (areas : Areas) → IsShut areas.journal → AllHave a (AreAreas areas) → IsSettled a (home_after (replayed areas.journal) areas.home)
shut_settled a areas shut have =
    subst (λ (w : Writes). IsSettled a (home_after w areas.home)) (sym (replayed_shut areas.journal shut))
    record {
      told = have.told;
      each = λ i is. record { home_is = (have.each i is).home_is; journal_has = subst IsShut (sym (have.each i is).journal_has) shut };
    }

-- calls that leave nothing new
pub nothing_settles : (told : Option Areas) (a b : DiskState) → LeavesOnly a b Nothing → WhereTold told (λ areas. LeavesOnly a b (GivesSettled areas))
nothing_settles None a b leaves = tt
nothing_settles (Some x) a b leaves = nothing_new a b (GivesSettled x) leaves

still : (a b : DiskState) (areas : Areas) → IsDisk b → b.reads ≡ a.reads → LeavesOnly a b Nothing → AllHave a (AreAreas areas) → AllHave b (AreAreas areas)
still a b areas disk same leaves have = record {
  told = subst (λ (r : Option Areas). IsSome r) (sym same) have.told;
  each = λ i is. have.each i (now_was a b disk leaves i is);
}

-- what was found is closed, behind calls that leave nothing new
pub settles : (told between : Option Areas) (a s b c : DiskState) (found : Found) → IsDisk b → between ≡ told → b.reads ≡ s.reads → LeavesOnly s b Nothing → LeavesOnly a b Nothing → WhereTold told (λ areas. AllHave s (AreAreas areas)) → WhereTold between (λ areas. IsFound found areas.journal) → ((areas : Areas) → AllHave b (AreAreas areas) → IsFound found areas.journal → LeavesOnly b c (GivesSettled areas)) → WhereTold told (λ areas. LeavesOnly a c (GivesSettled areas))
settles None between a s b c found disk was same since leaves stable has closes = tt
settles (Some x) between a s b c found disk was same since leaves stable has closes =
    let is = subst (λ (r : Option Areas). WhereTold r (λ areas. IsFound found areas.journal)) was has in
    nothing_then a b c (GivesSettled x) leaves (closes x (still s b x disk same since stable) is)

pub stands : (told between : Option Areas) (s b c : DiskState) (found : Found) (journal : JournalView) → IsDisk b → between ≡ told → b.reads ≡ s.reads → LeavesOnly s b Nothing → journal.stage ≡ stages.Clean → WhereTold told (λ areas. AllHave s (AreAreas areas)) → WhereTold between (λ areas. IsFound found areas.journal) → ((areas : Areas) → AllHave b (AreAreas areas) → IsFound found areas.journal → IsSettled c (home_after (replayed areas.journal) areas.home)) → WhereTold told (λ areas. IsClean c journal (home_after (replayed areas.journal) areas.home))
stands None between s b c found journal disk was same since idle stable has closes = tt
stands (Some x) between s b c found journal disk was same since idle stable has closes = record {
  idle = idle;
  images = closes x (still s b x disk same since stable) (subst (λ (r : Option Areas). WhereTold r (λ areas. IsFound found areas.journal)) was has);
}

pub torn_closed : (c : DiskState) (areas : Areas) → replayed areas.journal ≡ [] → IsSettled c areas.home → IsSettled c (home_after (replayed areas.journal) areas.home)
torn_closed c areas nothing settled = subst (λ (w : Writes). IsSettled c (home_after w areas.home)) (sym nothing) settled

pub found_settled : (a c : DiskState) (areas : Areas) (kept : Bytes) → IsOpenAt kept areas.journal → IsDisk a → AllHave a (AreAreas areas) → WhereTold a.reads (λ x. IsSettled c (home_after (writes_at kept) x.home)) → IsSettled c (home_after (replayed areas.journal) areas.home)
found_settled a c areas kept found disk have settled =
    subst (λ (w : Writes). IsSettled c (home_after w areas.home)) (sym (found_replayed kept areas.journal found))
    (settled_over a.reads c areas.home (writes_at kept) have.told (home_reads a areas.home (λ journal. journal ≡ areas.journal) disk have) settled)

-- what holds on an answer follows from what holds on it
pub if_ok_then : {T E : Type 0} (r : Result T E) (P Q : T → Type 0) → IfOk r P → ((x : T) → P x → Q x) → IfOk r Q
if_ok_then (Ok x) P Q has follows = follows x has
if_ok_then (Err e) P Q has follows = tt

pub fault_then : {T : Type 0} (r : Result T PageFault) (A C : Type 0) → OnDiskFault r A → (A → C) → OnDiskFault r C
fault_then (Ok x) A C has follows = tt
fault_then (Err faults.Disk) A C has follows = follows has
fault_then (Err faults.Memory) A C has follows = tt

pub risen : (a b c : ℕ) → a ≤ b → HasRisen b c → HasRisen a c
risen a b c le more = omega arith
