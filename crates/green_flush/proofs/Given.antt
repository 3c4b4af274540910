-- Streams that are given spell the trees, once they are saved.
use Rattle.std.proofs.Common.{◌≡◌, Bool, false, List, [], ◌∷◌, length, refl, ◌∙◌, sym, subst}
use Rattle.page_chains.specs.Chains.{PlainChain}
use Rattle.page_flush.specs.declared.stream_bytes.StreamBytes.{StreamBytes}
use Rattle.page_flush.specs.Saving.{stream_after, streams_after, bytes_in}
use Rattle.page_journal.specs.Pages.{Bytes}
use Rattle.page_tables.specs.TableBytes.{AreTablesOf}
use Rattle.page_trees.specs.Trees.{PlainTrees, AreContents, AreTexts, AreKeys, AreStreams, stream}
use Rattle.green_flush.specs.declared.flush.NodeCounts.{NodeCounts}
use Rattle.green_flush.specs.Standing.{AreCounts, HaveGrown}
use Rattle.green_flush.specs.inside.Streaming.{Arenas, AreStreamsOf}

-- the streams of these seven chains
record AreSeven (chains : List PlainChain) (a b c d e f g : Bytes) : Type 0 where
  seven : length chains ≡ 7
  first : stream chains 0 ≡ a
  second : stream chains 1 ≡ b
  third : stream chains 2 ≡ c
  fourth : stream chains 3 ≡ d
  fifth : stream chains 4 ≡ e
  sixth : stream chains 5 ≡ f
  seventh : stream chains 6 ≡ g

seven : (chains : List PlainChain) (a b c d e f g : Bytes) → bytes_in chains ≡ a ∷ b ∷ c ∷ d ∷ e ∷ f ∷ g ∷ [] → AreSeven chains a b c d e f g
seven [] a b c d e f g is = absurd cc
seven (_ ∷ []) a b c d e f g is = absurd cc
seven (_ ∷ _ ∷ []) a b c d e f g is = absurd cc
seven (_ ∷ _ ∷ _ ∷ []) a b c d e f g is = absurd cc
seven (_ ∷ _ ∷ _ ∷ _ ∷ []) a b c d e f g is = absurd cc
seven (_ ∷ _ ∷ _ ∷ _ ∷ _ ∷ []) a b c d e f g is = absurd cc
seven (_ ∷ _ ∷ _ ∷ _ ∷ _ ∷ _ ∷ []) a b c d e f g is = absurd cc
seven (p ∷ q ∷ r ∷ s ∷ t ∷ u ∷ v ∷ []) a b c d e f g is =
    record { seven = refl; first = cc; second = cc; third = cc; fourth = cc; fifth = cc; sixth = cc; seventh = cc }
seven (_ ∷ _ ∷ _ ∷ _ ∷ _ ∷ _ ∷ _ ∷ _ ∷ _) a b c d e f g is = absurd cc

-- what each stream is after the save, by what it had
after-seven : (had : List PlainChain) (a b c d e f g : StreamBytes) →
    streams_after had (a ∷ b ∷ c ∷ d ∷ e ∷ f ∷ g ∷ []) ≡
    stream_after (stream had 0) a ∷ stream_after (stream had 1) b ∷ stream_after (stream had 2) c ∷ stream_after (stream had 3) d
    ∷ stream_after (stream had 4) e ∷ stream_after (stream had 5) f ∷ stream_after (stream had 6) g ∷ []
after-seven [] a b c d e f g = refl
after-seven (_ ∷ []) a b c d e f g = refl
after-seven (_ ∷ _ ∷ []) a b c d e f g = refl
after-seven (_ ∷ _ ∷ _ ∷ []) a b c d e f g = refl
after-seven (_ ∷ _ ∷ _ ∷ _ ∷ []) a b c d e f g = refl
after-seven (_ ∷ _ ∷ _ ∷ _ ∷ _ ∷ []) a b c d e f g = refl
after-seven (_ ∷ _ ∷ _ ∷ _ ∷ _ ∷ _ ∷ []) a b c d e f g = refl
after-seven (_ ∷ _ ∷ _ ∷ _ ∷ _ ∷ _ ∷ _ ∷ _) a b c d e f g = refl

-- each stream is given whole; or the chains spell trees that are counted, and the arenas have grown from these
pub data May (goes_on : Bool) (counts : NodeCounts) (had : List PlainChain) (trees : PlainTrees) : Type 0 where
  Whole : goes_on ≡ false → May goes_on counts had trees
  Grown : (old : PlainTrees) → AreStreams had old → AreCounts counts old → HaveGrown old trees → May goes_on counts had trees

abbrev pub arenas_in : PlainTrees → Arenas
arenas_in trees = record { granfilade = trees.granfilade; poom = trees.poom; spanfilade = trees.spanfilade; from = trees.from; to = trees.to; three = trees.three }

pub spell : (trees : PlainTrees) (tables : Bytes) (goes_on : Bool) (counts : NodeCounts) (given : List StreamBytes) (had chains : List PlainChain) →
    AreStreamsOf (arenas_in trees) tables goes_on counts given → AreTablesOf trees.tables tables → May goes_on counts had trees →
    bytes_in chains ≡ streams_after had given → AreStreams chains trees
spell trees tables goes_on counts given had chains of table (Whole whole) are =
    let list = subst (λ (x : List StreamBytes). bytes_in chains ≡ streams_after had x) of.are are ∙ after-seven had of.first of.second of.third of.fourth of.fifth of.sixth of.seventh in
    let all = seven chains (stream_after (stream had 0) of.first) (stream_after (stream had 1) of.second) (stream_after (stream had 2) of.third) (stream_after (stream had 3) of.fourth) (stream_after (stream had 4) of.fifth) (stream_after (stream had 5) of.sixth) (stream_after (stream had 6) of.seventh) list in
    record {
      seven = all.seven;
      granfilade = subst (AreContents trees.granfilade) (sym all.first) (of.granfilade.anew whole (stream had 0));
      poom = subst (AreTexts trees.poom) (sym all.second) (of.poom.anew whole (stream had 1));
      spanfilade = subst (AreKeys trees.spanfilade) (sym all.third) (of.spanfilade.anew whole (stream had 2));
      from = subst (AreKeys trees.from) (sym all.fourth) (of.from.anew whole (stream had 3));
      to = subst (AreKeys trees.to) (sym all.fifth) (of.to.anew whole (stream had 4));
      three = subst (AreKeys trees.three) (sym all.sixth) (of.three.anew whole (stream had 5));
      tables = subst (AreTablesOf trees.tables) (sym (all.seventh ∙ of.tables.after (stream had 6))) table;
    }
spell trees tables goes_on counts given had chains of table (Grown old spelled counted grown) are =
    let list = subst (λ (x : List StreamBytes). bytes_in chains ≡ streams_after had x) of.are are ∙ after-seven had of.first of.second of.third of.fourth of.fifth of.sixth of.seventh in
    let all = seven chains (stream_after (stream had 0) of.first) (stream_after (stream had 1) of.second) (stream_after (stream had 2) of.third) (stream_after (stream had 3) of.fourth) (stream_after (stream had 4) of.fifth) (stream_after (stream had 5) of.sixth) (stream_after (stream had 6) of.seventh) list in
    record {
      seven = all.seven;
      granfilade = subst (AreContents trees.granfilade) (sym all.first) (of.granfilade.more (stream had 0) old.granfilade spelled.granfilade grown.granfilade counted.granfilade);
      poom = subst (AreTexts trees.poom) (sym all.second) (of.poom.more (stream had 1) old.poom spelled.poom grown.poom counted.poom);
      spanfilade = subst (AreKeys trees.spanfilade) (sym all.third) (of.spanfilade.more (stream had 2) old.spanfilade spelled.spanfilade grown.spanfilade counted.spanfilade);
      from = subst (AreKeys trees.from) (sym all.fourth) (of.from.more (stream had 3) old.from spelled.from grown.from counted.from);
      to = subst (AreKeys trees.to) (sym all.fifth) (of.to.more (stream had 4) old.to spelled.to grown.to counted.to);
      three = subst (AreKeys trees.three) (sym all.sixth) (of.three.more (stream had 5) old.three spelled.three grown.three counted.three);
      tables = subst (AreTablesOf trees.tables) (sym (all.seventh ∙ of.tables.after (stream had 6))) table;
    }
