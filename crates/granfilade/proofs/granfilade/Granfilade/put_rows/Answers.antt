use Rattle.std.proofs.Common.{List, map, ap, ◌∙◌, sym, subst}
use Rattle.enfilade_core.specs.Rows.{rows_of}
use Rattle.enfilade_core.specs.Plain.{plain_row}
use Rattle.enfilade_core.specs.Planes.{content_widths, plain_text}
use Rattle.enfilade_core.specs.Summary.{depth_of}
use Rattle.enfilade_core.proofs.Parts.{rows-well_formed, rows-ordered}
use Rattle.granfilade.specs.Content.{ByteAt, ContentTree, laid, content, tree_rows, laid_out}
use Rattle.granfilade.specs.Puts.{IsNext, IsContent, ComesIn, put_in}
use Rattle.granfilade.proofs.PutRows.{put-ordered, put-content, put-laid, put-comes_in}
use Rattle.granfilade.proofs.granfilade.Granfilade.put_rows.Goals as goal

pub splice-requires-clause-ordered : goal.splice-requires-clause-ordered
splice-requires-clause-ordered c =
    let nodes = c.self.inside.arena in
    let root = c.self.inside.root.0 in
    let start = c.args.start.now in
    put-ordered start c.args.bytes.now (map (plain_row plain_text) c.in_ok-rows.rows.items) (rows_of nodes root) (subst (λ (t : ContentTree). IsNext start (content t)) (sym c.self.view_is) c.requires.next)
    (rows-well_formed content_widths nodes root c.nodes_are_well_formed.ensures c.self.invariant) (rows-ordered content_widths nodes root c.nodes_are_well_formed.ensures c.self.invariant) c.in_ok-rows.ensures

pub returns-clause-bytes : goal.returns-clause-bytes
returns-clause-bytes c = λ old.
    let start = c.args.start.now in
    let bytes = c.args.bytes.now in
    ap laid_out c.in_ok-self-inside.ensures.rows
    ∙ put-laid start bytes (map (plain_row plain_text) c.in_ok-rows.rows.items) (rows_of c.self.inside.arena c.self.inside.root.0) (subst (λ (t : ContentTree). IsNext start (content t)) (sym c.self.view_is) c.requires.next)
    c.in_ok-rows.ensures (subst (λ (t : ContentTree). IsContent (tree_rows t)) (sym c.self.view_is) old)
    ∙ ap (λ (t : ContentTree). put_in start (laid start bytes) (content t)) c.self.view_is

pub returns-clause-rows : goal.returns-clause-rows
returns-clause-rows c = λ old.
    let nodes = c.self.inside.arena in
    let root = c.self.inside.root.0 in
    let start = c.args.start.now in
    subst IsContent (sym c.in_ok-self-inside.ensures.rows)
    (put-content start c.args.bytes.now (map (plain_row plain_text) c.in_ok-rows.rows.items) (rows_of nodes root) (subst (λ (t : ContentTree). IsNext start (content t)) (sym c.self.view_is) c.requires.next)
    (rows-ordered content_widths nodes root c.nodes_are_well_formed.ensures c.self.invariant) c.in_ok-rows.ensures (subst (λ (t : ContentTree). IsContent (tree_rows t)) (sym c.self.view_is) old))

pub returns-clause-added : goal.returns-clause-added
returns-clause-added c =
    let start = c.args.start.now in
    let bytes = c.args.bytes.now in
    let new = map (plain_row plain_text) c.in_ok-rows.rows.items in
    let rows = rows_of c.self.inside.arena c.self.inside.root.0 in
    let made = rows_of c.splice.new.self c.in_ok-self-inside.field-0.0 in
    subst (λ (t : ContentTree). ComesIn (laid start bytes) (content t) (laid_out made)) c.self.view_is
    (subst (λ (bs : List ByteAt). ComesIn bs (laid_out rows) (laid_out made)) c.in_ok-rows.ensures.are_laid (subst (λ (rs : List _). ComesIn (laid_out new) (laid_out rows) (laid_out rs)) (sym c.in_ok-self-inside.ensures.rows) (put-comes_in start new rows)))

pub returns-clause-level : goal.returns-clause-level
returns-clause-level c = λ some. c.in_ok-self-inside.ensures.level some ∙ ap (λ (t : ContentTree). depth_of content_widths t.nodes t.root) c.self.view_is
