-- What is prepared, and what it is made of.
use Rattle.std.proofs.Common.{◌≡◌, ℕ, suc, ◌+◌, ◌<◌, ◌≤◌, true, false, List, [], ◌∷◌, ◌++◌, length, map, Option, Some, None, refl, ap, ◌∙◌, sym, subst, arith}
use Rattle.std.specs.List.{AllByRecursion}
use Rattle.page_journal.specs.declared.page_write.PageWrite.{PageWrite}
use Rattle.page_journal.specs.JournalBytes.{IsWrite, AreWrites, write_of, writes_of}
use Rattle.page_journal.specs.Pages.{Bytes, Writes, page_bytes}
use Rattle.page_chains.specs.declared.start.Start.{Start}
use Rattle.page_chains.specs.Chains.{is_in, PlainChain, pages_in}
use Rattle.page_chains.specs.inside.Walks.{HaveSame}
use Rattle.page_chains.specs.Spelled.{chain_writes, header_page}
use Rattle.page_chains.proofs.Writing.{writes_whole}
use Rattle.page_flush.specs.declared.stream_bytes.StreamBytes.{StreamBytes}
use Rattle.page_flush.specs.declared.stream_bytes.StreamBytes.TheVariants.{Anew, More}
use Rattle.page_flush.specs.FlushView.{StreamView, FlushView, AreKept, KnowsChains, Keeps, kept_pages, start_of}
use Rattle.page_flush.specs.inside.Fresh.{HasAlso}
use Rattle.page_flush.specs.inside.Spells.{written_of, IsSpelled, IsOneSpelled, AreSpelled, IsHeaderSpelled}
use Rattle.page_flush.proofs.SparedPages.{also_spares, kept_are}

all_writes : (a b : Writes) → AllByRecursion IsWrite a → AllByRecursion IsWrite b → AllByRecursion IsWrite (a ++ b)
all_writes [] b one other = other
all_writes (w ∷ a) b one other = (one.0, all_writes a b one.1 other)

stream_writes : (spared : List ℕ) (from to : ℕ) (had : List ℕ) (bytes : Bytes) (count : ℕ) (stream : StreamView) (before after : Writes) → IsSpelled spared from to had bytes count stream before after → AllByRecursion IsWrite before → AllByRecursion IsWrite after
stream_writes spared from to had bytes count stream before after s are =
    subst (AllByRecursion IsWrite) (sym s.pages) (all_writes before (chain_writes (written_of had s.fresh) bytes) are (writes_whole (written_of had s.fresh) bytes s.in_use))

one_writes : (spared : List ℕ) (from to : ℕ) (kept : Option StreamView) (given : StreamBytes) (stream : StreamView) (before after : Writes) → IsOneSpelled spared from to kept given stream before after → AllByRecursion IsWrite before → AllByRecursion IsWrite after
one_writes spared from to None (Anew b) stream before after is are = stream_writes spared from to [] b.items (length b.items) stream before after is are
one_writes spared from to None (More b) stream before after is are = stream_writes spared from to [] b.items (length b.items) stream before after is are
one_writes spared from to (Some k) (Anew b) stream before after is are = stream_writes spared from to [] b.items (length b.items) stream before after is are
one_writes spared from to (Some k) (More b) stream before after is are = stream_writes spared from to k.numbers (k.last ++ b.items) (k.count + length b.items) stream before after is are

-- each page that is spelled is one that a commit may write
pub spelled_writes : (spared : List ℕ) (from to : ℕ) (kept : List StreamView) (given : List StreamBytes) (streams : List StreamView) (before after : Writes) → AreSpelled spared from to kept given streams before after → AllByRecursion IsWrite before → AllByRecursion IsWrite after
spelled_writes spared from to [] [] [] before after is are = subst (AllByRecursion IsWrite) (sym is.1) are
spelled_writes spared from to (k ∷ ks) [] [] before after is are = subst (AllByRecursion IsWrite) (sym is.1) are
spelled_writes spared from to [] [] (s ∷ ss) before after is are = absurd is
spelled_writes spared from to (k ∷ ks) [] (s ∷ ss) before after is are = absurd is
spelled_writes spared from to [] (g ∷ gs) [] before after is are = absurd is
spelled_writes spared from to (k ∷ ks) (g ∷ gs) [] before after is are = absurd is
spelled_writes spared from to [] (g ∷ gs) (s ∷ ss) before after is are =
    spelled_writes spared is.number to [] gs ss is.pages after is.rest (one_writes spared from is.number None g s before is.pages is.first are)
spelled_writes spared from to (k ∷ ks) (g ∷ gs) (s ∷ ss) before after is are =
    spelled_writes spared is.number to ks gs ss is.pages after is.rest (one_writes spared from is.number (Some k) g s before is.pages is.first are)

-- as many streams are spelled as are given
pub spelled_long : (spared : List ℕ) (from to : ℕ) (kept : List StreamView) (given : List StreamBytes) (streams : List StreamView) (before after : Writes) → AreSpelled spared from to kept given streams before after → length streams ≡ length given
spelled_long spared from to [] [] [] before after is = refl
spelled_long spared from to (k ∷ ks) [] [] before after is = refl
spelled_long spared from to [] [] (s ∷ ss) before after is = absurd is
spelled_long spared from to (k ∷ ks) [] (s ∷ ss) before after is = absurd is
spelled_long spared from to [] (g ∷ gs) [] before after is = absurd is
spelled_long spared from to (k ∷ ks) (g ∷ gs) [] before after is = absurd is
spelled_long spared from to [] (g ∷ gs) (s ∷ ss) before after is = ap (λ (n : ℕ). suc n) (spelled_long spared is.number to [] gs ss is.pages after is.rest)
spelled_long spared from to (k ∷ ks) (g ∷ gs) (s ∷ ss) before after is = ap (λ (n : ℕ). suc n) (spelled_long spared is.number to ks gs ss is.pages after is.rest)

-- chains that were read are known
pub chains_known : (flush : FlushView) (streams : List StreamView) (chains : List PlainChain) → AreKept streams chains → HasAlso (kept_pages streams) [] flush.spared → flush.needs_blank ≡ false → flush.kept ≡ Some streams → KnowsChains flush chains
chains_known flush streams chains are also made kept = record {
  made = made;
  spared = λ k among. also_spares (kept_pages streams) [] flush.spared also k (ap (is_in k) (kept_are streams chains are) ∙ among);
  kept = subst (λ (l : Option (List StreamView)). Keeps l chains) (sym kept) are;
}
