-- Streams spell the trees that were read, or none.
use Rattle.std.proofs.Common.{◌≡◌, ◌↔◌, Bool, true, false, IsTrue, ℕ, List, Option, None, Some, ap, ◌∙◌, subst}
use Rattle.tumbler.specs.ListView.{ListView}
use Rattle.enfilade_core.specs.Rows.{Shape}
use Rattle.enfilade_core.specs.Planes.{content_widths, text_widths, key_widths}
use Rattle.node_pages.specs.RowCodecs.{content_row_codec, text_row_codec, key_row_codec}
use Rattle.node_pages.proofs.Streaming.{one_arena}
use Rattle.page_chains.specs.Chains.{PlainChain}
use Rattle.page_tables.specs.Plain.{PlainTables}
use Rattle.page_tables.proofs.TableCodecs.{one_tables}
use Rattle.page_trees.specs.declared.trees.PageTrees.{PageTrees}
use Rattle.page_trees.specs.inside.Streams.{AreSpelled}
use Rattle.page_trees.specs.Laws.{OneTrees}
use Rattle.page_trees.specs.Trees.{PlainTrees, plain_trees, AreStreams, HaveRoots, AreTrees, AreFound, stream}

made : List (Shape (ListView ℕ)) → List (Shape ℕ) → List (Shape (List ℕ)) → List (Shape (List ℕ)) → List (Shape (List ℕ)) → List (Shape (List ℕ)) → PlainTables → PlainTrees
made a b c d e f g = record { granfilade = a; poom = b; spanfilade = c; from = d; to = e; three = f; tables = g }

same-trees : (one other : PlainTrees) → one.granfilade ≡ other.granfilade → one.poom ≡ other.poom → one.spanfilade ≡ other.spanfilade → one.from ≡ other.from → one.to ≡ other.to → one.three ≡ other.three → one.tables ≡ other.tables → one ≡ other
unfolding made
same-trees one other a b c d e f g =
    ap (λ (x : List (Shape (ListView ℕ))). made x one.poom one.spanfilade one.from one.to one.three one.tables) a
    ∙ ap (λ (x : List (Shape ℕ)). made other.granfilade x one.spanfilade one.from one.to one.three one.tables) b
    ∙ ap (λ (x : List (Shape (List ℕ))). made other.granfilade other.poom x one.from one.to one.three one.tables) c
    ∙ ap (λ (x : List (Shape (List ℕ))). made other.granfilade other.poom other.spanfilade x one.to one.three one.tables) d
    ∙ ap (λ (x : List (Shape (List ℕ))). made other.granfilade other.poom other.spanfilade other.from x one.three one.tables) e
    ∙ ap (λ (x : List (Shape (List ℕ))). made other.granfilade other.poom other.spanfilade other.from other.to x one.tables) f
    ∙ ap (λ (x : PlainTables). made other.granfilade other.poom other.spanfilade other.from other.to other.three x) g

pub one_streams : OneTrees
one_streams chains one other a b = same-trees one other
    (one_arena content_widths content_row_codec one.granfilade other.granfilade (stream chains 0) a.granfilade b.granfilade)
    (one_arena text_widths text_row_codec one.poom other.poom (stream chains 1) a.poom b.poom)
    (one_arena key_widths key_row_codec one.spanfilade other.spanfilade (stream chains 2) a.spanfilade b.spanfilade)
    (one_arena key_widths key_row_codec one.from other.from (stream chains 3) a.from b.from)
    (one_arena key_widths key_row_codec one.to other.to (stream chains 4) a.to b.to)
    (one_arena key_widths key_row_codec one.three other.three (stream chains 5) a.three b.three)
    (one_tables one.tables other.tables (stream chains 6) a.tables b.tables)

-- the streams spell no trees
pub none-spelled : (chains : List PlainChain) (position : ℕ) (found : Option PageTrees) → found ≡ None → AreSpelled chains position found → AreFound chains position None
none-spelled chains position found is spelled = λ trees are. subst (AreSpelled chains position) is spelled trees are.streams

-- they spell trees that have not their roots
pub none-rooted : (chains : List PlainChain) (position : ℕ) (found : Option PageTrees) (trees : PageTrees) (rooted : Bool) → found ≡ Some trees → AreSpelled chains position found →
    (IsTrue rooted ↔ HaveRoots (plain_trees trees)) → rooted ≡ false → AreFound chains position None
none-rooted chains position found trees rooted is spelled iff not =
    let read = subst (AreSpelled chains position) is spelled in
    λ other are.
    let same = one_streams chains other (plain_trees trees) are.streams read.0 in
    let yes : rooted ≡ true = iff.1 (subst HaveRoots same are.roots) in
    absurd cc

-- they spell trees that have them
pub trees-found : (chains : List PlainChain) (position : ℕ) (found : Option PageTrees) (trees : PageTrees) (rooted : Bool) → found ≡ Some trees → AreSpelled chains position found →
    (IsTrue rooted ↔ HaveRoots (plain_trees trees)) → rooted ≡ true → AreFound chains position (Some trees)
trees-found chains position found trees rooted is spelled iff so =
    let read = subst (AreSpelled chains position) is spelled in
    (record { streams = read.0; roots = iff.0 so }, read.1)
