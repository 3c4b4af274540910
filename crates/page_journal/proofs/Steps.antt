-- What one write of the Journal and its sync, and a sync of Home, leave of the images.
use Rattle.std.proofs.Common.{◌≡◌, ℕ, Option, None, Some, IsSome, refl, sym, ◌∙◌, subst}
use Rattle.green_io.specs.declared.disk.Area.TheVariants as area
use Rattle.green_io.specs.Areas.{Areas}
use Rattle.green_io.specs.Disk.{DiskState, IsDisk, WhereTold, images_now, Written, Torn, Changes, LeftBy, LeavesOnly, IsStable}
use Rattle.green_io.proofs.Crash.{by_step, now_has}
use Rattle.page_journal.specs.Pages.{Bytes, Writes, home_after}
use Rattle.page_journal.specs.Images.{IsGated, HomeIs, IsMidway, AllHave}
use Rattle.page_journal.specs.inside.Phases.{LaidHome}

-- what a crash leaves while the Journal is written
pub torn_journal : (a b : DiskState) (home : Bytes) (at n : ℕ) (P Q : Bytes → Type 0) → AllHave a (HomeIs home P) → LeavesOnly a b (LeftBy area.Journal (Torn at n) (images_now a)) → ((old new : Bytes) → P old → Torn at n old new → Q new) → LeavesOnly a b (HomeIs home Q)
torn_journal a b home at n P Q have leaves follows =
    by_step a b area.Journal (Torn at n) (HomeIs home P) (HomeIs home Q) leaves have.each
    (λ i j has step. record {
      home_is = step.1 area.Home refl ∙ has.home_is;
      journal_has = follows i.journal j.journal has.journal_has step.0;
    })

-- where calls keep what every image has, it stays
pub kept_all : (a b : DiskState) (fact : Areas → Type 0) → IsDisk b → AllHave a fact → (IsSome a.reads → IsSome b.reads) → LeavesOnly a b fact → AllHave b fact
kept_all a b fact disk have told leaves = record {
  told = told have.told;
  each = now_has a b fact disk leaves have.each;
}

journal_now : (old new : Option Areas) (home : Bytes) (at : ℕ) (bytes : Bytes) (before after : Areas → Type 0) (P Q : Bytes → Type 0) → IsSome old → WhereTold old before → ((i : Areas) → before i → HomeIs home P i) → Changes area.Journal (Written at bytes) old new → IsStable area.Journal new after → ((x y : Bytes) → P x → Written at bytes x y → Q y) → (i : Areas) → after i → Q i.journal
journal_now None new home at bytes before after P Q told reads each changes durable follows i is = absurd (cc told)
journal_now (Some x) None home at bytes before after P Q told reads each changes durable follows i is = absurd changes
journal_now (Some x) (Some y) home at bytes before after P Q told reads each changes durable follows i is =
    subst Q (sym (durable i is)) (follows x.journal y.journal (each x reads).journal_has changes.0)

-- what every image has once the write has succeeded and is stable
pub written_journal : (a b : DiskState) (home : Bytes) (at n : ℕ) (bytes : Bytes) (P Q : Bytes → Type 0) → IsDisk a → IsDisk b → AllHave a (HomeIs home P) → (IsSome a.reads → IsSome b.reads) → LeavesOnly a b (LeftBy area.Journal (Torn at n) (images_now a)) → Changes area.Journal (Written at bytes) a.reads b.reads → IsStable area.Journal b.reads (images_now b) → ((old new : Bytes) → P old → Written at bytes old new → Q new) → AllHave b (HomeIs home Q)
written_journal a b home at n bytes P Q before after have told leaves changes durable follows =
    let loose : LeavesOnly a b (HomeIs home (λ journal. Unit {0})) = torn_journal a b home at n P (λ journal. Unit {0}) have leaves (λ old new has torn. tt) in
    record {
      told = told have.told;
      each = λ i is. record {
        home_is = (now_has a b (HomeIs home (λ journal. Unit {0})) after loose (λ j was. record { home_is = (have.each j was).home_is; journal_has = tt }) i is).home_is;
        journal_has = journal_now a.reads b.reads home at bytes (images_now a) (images_now b) P Q have.told before.as_it_reads have.each changes durable follows i is;
      };
    }

-- what every image has once Home is stable, with all pages laid over it
pub laid_settled : (old now : Option Areas) (writes : Writes) (before : Bytes) (c : DiskState) → c.reads ≡ now → IsSome c.reads → LaidHome writes old now → IsStable area.Home now (images_now c) → ((i : Areas) → images_now c i → IsMidway writes before i) → WhereTold old (λ areas. AllHave c (HomeIs (home_after writes areas.home) (IsGated writes)))
laid_settled None now writes before c is told laid durable each = tt
laid_settled (Some x) None writes before c is told laid durable each = absurd laid
laid_settled (Some x) (Some y) writes before c is told laid durable each =
    record {
      told = told;
      each = λ i im. record { home_is = durable i im ∙ laid; journal_has = (each i im).gated };
    }

reads_has : (reads : Option Areas) (images : Areas → Type 0) (home : Bytes) (fact : Bytes → Type 0) → WhereTold reads images → ((i : Areas) → images i → HomeIs home fact i) → WhereTold reads (λ areas. areas.home ≡ home)
reads_has None images home fact reads each = tt
reads_has (Some x) images home fact reads each = (each x reads).home_is

-- where every image has these bytes in Home, it reads them
pub home_reads : (a : DiskState) (home : Bytes) (fact : Bytes → Type 0) → IsDisk a → AllHave a (HomeIs home fact) → WhereTold a.reads (λ areas. areas.home ≡ home)
home_reads a home fact disk have = reads_has a.reads (images_now a) home fact disk.as_it_reads have.each
