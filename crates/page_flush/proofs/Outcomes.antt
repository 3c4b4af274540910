-- What a save leaves, from what its parts leave.
use Rattle.std.proofs.Common.{◌≡◌, ◌⊎◌, inl, inr, ⊎_elim, ℕ, ◌<◌, ◌≤◌, Bool, true, false, List, [], ◌∷◌, length, Option, None, Some, is_some, refl, ap, ◌∙◌, sym, subst, arith}
use Rattle.std.proofs.lemmas.Bool.{both_ways}
use Rattle.green_io.specs.Areas.{Areas}
use Rattle.green_io.specs.Disk.{DiskState, LeavesOnly}
use Rattle.green_io.proofs.Crash.{same, weaker, none_called}
use Rattle.page_journal.specs.JournalView.{JournalView}
use Rattle.page_journal.specs.JournalBytes.{opened}
use Rattle.page_journal.specs.Pages.{Writes}
use Rattle.page_chains.specs.Chains.{PlainChain, pages_in, is_in}
use Rattle.page_chains.specs.inside.Walks.{HaveSame}
use Rattle.page_saves.specs.Courses.{Saved, Aside, Blank, Kept, Holds, Leads, GivesOne, GivesOneOf, begun}
use Rattle.page_saves.specs.Plans.{kept_chains}
use Rattle.page_saves.specs.Resting.{RestsOn, IsSettledOn}
use Rattle.page_flush.specs.declared.stream_bytes.StreamBytes.{StreamBytes}
use Rattle.page_flush.specs.FlushView.{StreamView, FlushView, AreKept, AreSpared, KnowsChains, Keeps, Knows, kept_pages, kept_streams}
use Rattle.page_flush.specs.Saving.{blank_page, MayBeGiven, streams_after, bytes_in, Save, save_of, MayHold, GivesAny, IsSaved, IsStopped}
use Rattle.page_flush.specs.inside.Blanks.{GivesBegun, IsBegun, IsNotBegun}
use Rattle.page_flush.specs.inside.Fresh.{HasAlso}
use Rattle.page_flush.specs.inside.Spells.{IsPrepared}
use Rattle.page_flush.proofs.Leadings.{Leading, leading, IsBegun as IsUnderWay}
use Rattle.page_flush.proofs.SparedPages.{kept_are, also_spares, also_keeps, spared_then}

-- more pages are spared, and no stream is kept that was not
pub knows_more : (flush now : FlushView) (saved : Saved) → now.needs_blank ≡ flush.needs_blank → AreSpared flush.spared now.spared → (now.kept ≡ flush.kept) ⊎ (now.kept ≡ None) → Knows flush saved → Knows now saved
knows_more flush now (Aside found) needs spares kept knows = (needs ∙ knows.0, ⊎_elim (λ (e : now.kept ≡ flush.kept). e ∙ knows.1) (λ (e : now.kept ≡ None). e) kept)
knows_more flush now (Blank header) needs spares kept knows = ⊎_elim (λ (e : now.kept ≡ flush.kept). e ∙ knows) (λ (e : now.kept ≡ None). e) kept
knows_more flush now (Kept chains position) needs spares kept knows = record {
  made = needs ∙ knows.made;
  spared = spared_then (pages_in chains) flush.spared now.spared knows.spared spares;
  kept = ⊎_elim
      (λ (e : now.kept ≡ flush.kept). subst (λ (k : Option (List StreamView)). Keeps k chains) (sym e) knows.kept)
      (λ (e : now.kept ≡ None). subst (λ (k : Option (List StreamView)). Keeps k chains) (sym e) tt)
      kept;
}

-- A save that is under way: what the pages hold, or come to, once a blank start is made where one is needed.
pub record UnderWay (disk : DiskState) (journal : JournalView) (flush : FlushView) (save : Save) : Type 0 where
  pub was : Saved
  pub saved : Saved
  pub may_was : MayHold save was
  pub may : MayHold save saved
  pub rests : RestsOn disk journal was saved
  pub begun : IsUnderWay saved
  pub knows : Knows flush saved
  pub chains : kept_chains saved ≡ kept_chains save.saved

pub under_way : (disk : DiskState) (journal : JournalView) (was saved : Saved) (flush : FlushView) (given : List StreamBytes) (position : ℕ) (needs : Bool) → flush.needs_blank ≡ needs → Knows flush saved → IsBegun disk journal was saved needs → UnderWay disk journal flush (save_of was saved flush given position)
under_way disk journal was (Aside found) flush given position true is knows done =
    (let u : UnderWay disk journal flush (save_of was (Aside found) flush given position) = record { was = Blank blank_page; saved = Blank blank_page; may_was = inr (inl (is, refl)); may = inr (inl (is, refl)); rests = done; begun = tt; knows = knows.1; chains = refl } in u)
under_way disk journal was (Blank header) flush given position true is knows done =
    (let u : UnderWay disk journal flush (save_of was (Blank header) flush given position) = record { was = Blank blank_page; saved = Blank blank_page; may_was = inr (inl (is, refl)); may = inr (inl (is, refl)); rests = done; begun = tt; knows = knows; chains = refl } in u)
under_way disk journal was (Kept chains place) flush given position true is knows done = absurd (both_ways flush.needs_blank knows.made is)
under_way disk journal was (Aside found) flush given position false is knows done = absurd (both_ways flush.needs_blank is knows.0)
under_way disk journal was (Blank header) flush given position false is knows done =
    record { was = was; saved = Blank header; may_was = inl (inl refl); may = inl (inr refl); rests = done; begun = tt; knows = knows; chains = refl }
under_way disk journal was (Kept chains place) flush given position false is knows done =
    record { was = was; saved = Kept chains place; may_was = inl (inl refl); may = inl (inr refl); rests = done; begun = tt; knows = knows; chains = refl }

gives_begun : (was saved : Saved) (flush : FlushView) (given : List StreamBytes) (position : ℕ) (image : Areas) → GivesBegun was saved flush.needs_blank image → GivesAny (save_of was saved flush given position) image
gives_begun was saved flush given position image gives = ⊎_elim
    (λ (one : GivesOne was saved image). ⊎_elim
    (λ (held : Holds was (opened image)). (was, inl (inl refl), held))
    (λ (held : Holds saved (opened image)). (saved, inl (inr refl), held))
    one)
    (λ (blank : (flush.needs_blank ≡ true) × Holds (Blank blank_page) (opened image)). (Blank blank_page, inr (inl (blank.0, refl)), blank.1))
    gives

-- a blank start leaves what a save may leave
pub begun_leaves : (a b : DiskState) (was saved : Saved) (flush : FlushView) (given : List StreamBytes) (position : ℕ) → LeavesOnly a b (GivesBegun was saved flush.needs_blank) → LeavesOnly a b (GivesAny (save_of was saved flush given position))
begun_leaves a b was saved flush given position leaves = weaker a b (GivesBegun was saved flush.needs_blank) (GivesAny (save_of was saved flush given position)) leaves (λ i gives. gives_begun was saved flush given position i gives)

gives_of : (save : Save) (was saved next : Saved) (image : Areas) → MayHold save was → MayHold save saved → MayHold save next → GivesOneOf was saved next image → GivesAny save image
gives_of save was saved next image may_was may may_next gives = ⊎_elim
    (λ (one : GivesOne was saved image). ⊎_elim
    (λ (held : Holds was (opened image)). (was, may_was, held))
    (λ (held : Holds saved (opened image)). (saved, may, held))
    one)
    (λ (held : Holds next (opened image)). (next, may_next, held))
    gives

-- what is prepared, over a save that is under way
pub record Course (disk : DiskState) (journal : JournalView) (flush : FlushView) (save : Save) (streams : List StreamView) (pages header : Writes) : Type 0 where
  pub way : UnderWay disk journal flush save
  pub chains : List PlainChain
  pub streams_are : bytes_in chains ≡ save.streams
  pub leads : Leads way.saved pages header (Kept chains save.position)
  pub kept : AreKept streams chains

pub course : (disk : DiskState) (journal : JournalView) (was saved : Saved) (flush : FlushView) (given : List StreamBytes) (position : ℕ) (streams : List StreamView) (reached : List ℕ) (pages header : Writes) → Knows flush saved → IsBegun disk journal was saved flush.needs_blank
    → length given ≡ 7 → MayBeGiven flush.kept given → IsPrepared flush.spared (kept_streams flush.kept) given position streams reached pages header
    → Course disk journal flush (save_of was saved flush given position) streams pages header
course disk journal was saved flush given position streams reached pages header knows done seven may is =
    let way = under_way disk journal was saved flush given position flush.needs_blank refl knows done in
    let lead = leading way.saved disk journal way.was flush given position streams reached pages header way.begun way.knows way.rests seven may is in
    record { way = way; chains = lead.chains; streams_are = lead.streams_are ∙ ap (λ (c : List PlainChain). streams_after c given) way.chains; leads = lead.leads; kept = lead.kept }

next_may : {disk : DiskState} {journal : JournalView} {flush : FlushView} {save : Save} {streams : List StreamView} {pages header : Writes} → (c : Course disk journal flush save streams pages header) → MayHold save (Kept c.chains save.position)
next_may c = inr (inr (c.streams_are, refl))

abbrev pub AnyMoment : DiskState → DiskState → JournalView → Writes → Writes → Type 0
AnyMoment b c journal pages header = (was saved next : Saved) → Leads saved pages header next → RestsOn b journal was saved → LeavesOnly b c (GivesOneOf was saved next)

abbrev pub Done : DiskState → DiskState → JournalView → JournalView → Writes → Writes → Type 0
Done b c journal now pages header = (was saved next : Saved) → Leads saved pages header next → RestsOn b journal was saved → IsSettledOn c now (begun next)

abbrev pub Fails : DiskState → DiskState → JournalView → JournalView → Writes → Writes → Type 0
Fails b c journal now pages header = (was saved next : Saved) → Leads saved pages header next → RestsOn b journal was saved → RestsOn c now was saved ⊎ RestsOn c now saved next

-- a save leaves what it may leave
pub save_leaves : (a b c : DiskState) (journal : JournalView) (was saved : Saved) (flush : FlushView) (given : List StreamBytes) (position : ℕ) (streams : List StreamView) (pages header : Writes) → LeavesOnly a b (GivesBegun was saved flush.needs_blank)
    → Course b journal flush (save_of was saved flush given position) streams pages header → AnyMoment b c journal pages header → LeavesOnly a c (GivesAny (save_of was saved flush given position))
save_leaves a b c journal was saved flush given position streams pages header first o any =
    let save = save_of was saved flush given position in
    let next : Saved = Kept o.chains position in
    same a b c (GivesAny save) (begun_leaves a b was saved flush given position first)
    (weaker b c (GivesOneOf o.way.was o.way.saved next) (GivesAny save) (any o.way.was o.way.saved next o.leads o.way.rests) (λ i gives. gives_of save o.way.was o.way.saved next i o.way.may_was o.way.may (next_may o) gives))

-- a save that was made
pub save_done : (b c : DiskState) (journal now : JournalView) (was saved : Saved) (flush : FlushView) (given : List StreamBytes) (position : ℕ) (streams : List StreamView) (reached : List ℕ) (pages header : Writes)
    → Course b journal flush (save_of was saved flush given position) streams pages header → HaveSame reached (kept_pages streams) → Done b c journal now pages header
    → (after : FlushView) → after.journal ≡ now → after.needs_blank ≡ false → after.spared ≡ reached → after.kept ≡ Some streams → IsSaved c after (save_of was saved flush given position)
save_done b c journal now was saved flush given position streams reached pages header o same done after journal_is made spared kept =
    let next : Saved = Kept o.chains position in
    let pages_are : HaveSame after.spared (pages_in o.chains) = λ k. ap (is_in k) spared ∙ same k ∙ ap (is_in k) (kept_are streams o.chains o.kept) in
    record {
      chains = o.chains;
      streams = o.streams_are;
      settled = subst (λ (j : JournalView). IsSettledOn c j (begun next)) (sym journal_is) (done o.way.was o.way.saved next o.leads o.way.rests);
      knows = record {
        made = made;
        spared = λ k among. pages_are k ∙ among;
        kept = subst (λ (k : Option (List StreamView)). Keeps k o.chains) (sym kept) o.kept;
      };
      goes_on = ap is_some kept;
      spared = pages_are;
    }

known_by : (flush after : FlushView) (saved : Saved) → IsUnderWay saved → after.needs_blank ≡ false → AreSpared flush.spared after.spared → after.kept ≡ None → Knows flush saved → Knows after saved
known_by flush after (Aside found) begun made spares kept knows = absurd begun
known_by flush after (Blank header) begun made spares kept knows = kept
known_by flush after (Kept chains place) begun made spares kept knows = record {
  made = made;
  spared = spared_then (pages_in chains) flush.spared after.spared knows.spared spares;
  kept = subst (λ (k : Option (List StreamView)). Keeps k chains) (sym kept) tt;
}

-- a save that failed once it was under way
pub save_fails : (b c : DiskState) (journal now : JournalView) (was saved : Saved) (flush : FlushView) (given : List StreamBytes) (position : ℕ) (streams : List StreamView) (pages header : Writes)
    → Course b journal flush (save_of was saved flush given position) streams pages header → Fails b c journal now pages header
    → (after : FlushView) → after.journal ≡ now → after.needs_blank ≡ false → HasAlso (kept_pages streams) flush.spared after.spared → after.kept ≡ None → IsStopped c after (save_of was saved flush given position)
save_fails b c journal now was saved flush given position streams pages header o fails after journal_is made spared kept =
    let next : Saved = Kept o.chains position in
    let news : AreSpared (pages_in o.chains) after.spared = λ k among. also_spares (kept_pages streams) flush.spared after.spared spared k (ap (is_in k) (kept_are streams o.chains o.kept) ∙ among) in
    let next_known : Knows after next = record { made = made; spared = news; kept = subst (λ (k : Option (List StreamView)). Keeps k o.chains) (sym kept) tt } in
    ⊎_elim
    (λ (still : RestsOn c now o.way.was o.way.saved). (let s : IsStopped c after (save_of was saved flush given position) = record {
      was = o.way.was;
      saved = o.way.saved;
      may_was = o.way.may_was;
      may = o.way.may;
      rests = subst (λ (j : JournalView). RestsOn c j o.way.was o.way.saved) (sym journal_is) still;
      knows = known_by flush after o.way.saved o.way.begun made (also_keeps (kept_pages streams) flush.spared after.spared spared) kept o.way.knows;
    } in s))
    (λ (new : RestsOn c now o.way.saved next). (let s : IsStopped c after (save_of was saved flush given position) = record {
      was = o.way.saved;
      saved = next;
      may_was = o.way.may;
      may = next_may o;
      rests = subst (λ (j : JournalView). RestsOn c j o.way.saved next) (sym journal_is) new;
      knows = next_known;
    } in s))
    (fails o.way.was o.way.saved next o.leads o.way.rests)

-- a save that failed before anything was written
pub save_refused : (a : DiskState) (was saved : Saved) (flush : FlushView) (given : List StreamBytes) (position : ℕ) → RestsOn a flush.journal was saved → Knows flush saved
    → (after : FlushView) → after.journal ≡ flush.journal → after.needs_blank ≡ flush.needs_blank → AreSpared flush.spared after.spared → after.kept ≡ flush.kept → IsStopped a after (save_of was saved flush given position)
save_refused a was saved flush given position rests knows after journal_is needs spares kept = record {
  was = was;
  saved = saved;
  may_was = inl (inl refl);
  may = inl (inr refl);
  rests = subst (λ (j : JournalView). RestsOn a j was saved) (sym journal_is) rests;
  knows = knows_more flush after saved needs spares (inl kept) knows;
}

-- a save that failed at the blank start
pub save_unbegun : (b : DiskState) (now : JournalView) (was saved : Saved) (flush : FlushView) (given : List StreamBytes) (position : ℕ) → Knows flush saved → IsNotBegun b now was saved flush.needs_blank
    → (after : FlushView) → after.journal ≡ now → after.needs_blank ≡ flush.needs_blank → AreSpared flush.spared after.spared → after.kept ≡ None → IsStopped b after (save_of was saved flush given position)
save_unbegun b now was saved flush given position knows left after journal_is needs spares kept = ⊎_elim
    (λ (still : RestsOn b now was saved). (let s : IsStopped b after (save_of was saved flush given position) = record {
      was = was;
      saved = saved;
      may_was = inl (inl refl);
      may = inl (inr refl);
      rests = subst (λ (j : JournalView). RestsOn b j was saved) (sym journal_is) still;
      knows = knows_more flush after saved needs spares (inr kept) knows;
    } in s))
    (λ (new : RestsOn b now saved (Blank blank_page)). (let s : IsStopped b after (save_of was saved flush given position) = record {
      was = saved;
      saved = Blank blank_page;
      may_was = inl (inr refl);
      may = inr (inl (left.0, refl));
      rests = subst (λ (j : JournalView). RestsOn b j saved (Blank blank_page)) (sym journal_is) new;
      knows = kept;
    } in s))
    left.1
