use Rattle.std.proofs.Common.{◌≡◌, ◌≢◌, ℕ, Option, List, [], map, rules, refl, ap, ◌∙◌, sym, subst}
use Rattle.std.specs.Prelude.{IfSome, OnOk}
use Rattle.tumbler.specs.Places.{IsUpTo}
use Rattle.enfilade_core.specs.Rows.{rows_of}
use Rattle.enfilade_core.specs.Plain.{plain_row}
use Rattle.enfilade_core.specs.Planes.{content_widths, plain_text}
use Rattle.enfilade_core.specs.Summary.{depth_of}
use Rattle.enfilade_balance.proofs.Over.{depth-grown}
use Rattle.enfilade_core.proofs.Parts.{rows-well_formed, rows-ordered}
use Rattle.granfilade.specs.Content.{ContentTree, laid, content, tree_rows, laid_out}
use Rattle.granfilade.specs.Puts.{IsNext, IsContent, ComesIn, put_in}
use Rattle.granfilade.specs.Lengthening.{Lengthens}
use Rattle.granfilade.specs.declared.lengthened.Lengthened.{Lengthened}
use Rattle.granfilade.proofs.PutRows.{first_up_to_end}
use Rattle.granfilade.proofs.LongerRow.{longer, longer-room, longer-well_formed, longer-content, longer-laid, longer-comes_in, one_taken}
use Rattle.granfilade.proofs.Putting.{RowOf}
use Rattle.granfilade.proofs.granfilade.Granfilade.put.Goals as goal

pub leaves_of-requires-clause-address : goal.leaves_of-requires-clause-address
leaves_of-requires-clause-address c =
    let nodes = c.self.inside.arena in
    let root = c.self.inside.root.0 in
    let l : Lengthens c.args.start.now c.args.bytes.now (rows_of nodes root) c.in-Some.longer =
    subst (λ (o : Option Lengthened). IfSome o (λ made. Lengthens c.args.start.now c.args.bytes.now (rows_of c.self.inside.arena c.self.inside.root.0) made)) c.in-Some.is c.in_ok-longer.ensures in
    (longer-room c.args.start.now c.args.bytes.now (rows_of nodes root) c.in-Some.longer c.in-Some.longer.text.items (subst (λ (t : ContentTree). IsNext c.args.start.now (content t)) (sym c.self.view_is) c.requires.next)
    (rows-well_formed content_widths nodes root c.nodes_are_well_formed.ensures c.self.invariant) (rows-ordered content_widths nodes root c.nodes_are_well_formed.ensures c.self.invariant) l refl c.requires.room).address

pub leaves_of-requires-clause-room : goal.leaves_of-requires-clause-room
leaves_of-requires-clause-room c =
    let nodes = c.self.inside.arena in
    let root = c.self.inside.root.0 in
    let l : Lengthens c.args.start.now c.args.bytes.now (rows_of nodes root) c.in-Some.longer =
    subst (λ (o : Option Lengthened). IfSome o (λ made. Lengthens c.args.start.now c.args.bytes.now (rows_of c.self.inside.arena c.self.inside.root.0) made)) c.in-Some.is c.in_ok-longer.ensures in
    (longer-room c.args.start.now c.args.bytes.now (rows_of nodes root) c.in-Some.longer c.in-Some.longer.text.items (subst (λ (t : ContentTree). IsNext c.args.start.now (content t)) (sym c.self.view_is) c.requires.next)
    (rows-well_formed content_widths nodes root c.nodes_are_well_formed.ensures c.self.invariant) (rows-ordered content_widths nodes root c.nodes_are_well_formed.ensures c.self.invariant) l refl c.requires.room).room

pub exchange-requires-clause-up_to : goal.exchange-requires-clause-up_to
exchange-requires-clause-up_to c =
    let l : Lengthens c.args.start.now c.args.bytes.now (rows_of c.self.inside.arena c.self.inside.root.0) c.in-Some.longer =
    subst (λ (o : Option Lengthened). IfSome o (λ made. Lengthens c.args.start.now c.args.bytes.now (rows_of c.self.inside.arena c.self.inside.root.0) made)) c.in-Some.is c.in_ok-longer.ensures in
    subst (λ a. IsUpTo a c.copy.result) (sym l.place) (subst (IsUpTo l.row.first) (l.ends ∙ sym c.copy.ensures) (first_up_to_end l.row))

pub exchange-requires-clause-well_formed : goal.exchange-requires-clause-well_formed
exchange-requires-clause-well_formed c =
    let nodes = c.self.inside.arena in
    let root = c.self.inside.root.0 in
    let start = c.args.start.now in
    let bytes = c.args.bytes.now in
    let rows = rows_of nodes root in
    let new = map (plain_row plain_text) c.in_ok-rows.rows.items in
    let l : Lengthens c.args.start.now c.args.bytes.now (rows_of c.self.inside.arena c.self.inside.root.0) c.in-Some.longer =
    subst (λ (o : Option Lengthened). IfSome o (λ made. Lengthens c.args.start.now c.args.bytes.now (rows_of c.self.inside.arena c.self.inside.root.0) made)) c.in-Some.is c.in_ok-longer.ensures in
    let h = longer start bytes rows c.in-Some.longer c.in-Some.longer.text.items new (subst (λ (t : ContentTree). IsNext start (content t)) (sym c.self.view_is) c.requires.next)
    (rows-well_formed content_widths nodes root c.nodes_are_well_formed.ensures c.self.invariant) (rows-ordered content_widths nodes root c.nodes_are_well_formed.ensures c.self.invariant) l refl c.in_ok-rows.ensures in
    longer-well_formed start bytes rows l.row new h (record { from = c.in-Some.longer.from; to = c.copy.result; onto = c.copy-2.result }) l.place c.copy.ensures c.copy-2.ensures

pub returns-clause-bytes : goal.returns-clause-bytes
returns-clause-bytes c = λ old.
    let nodes = c.self.inside.arena in
    let root = c.self.inside.root.0 in
    let start = c.args.start.now in
    let bytes = c.args.bytes.now in
    let rows = rows_of nodes root in
    let new = map (plain_row plain_text) c.in_ok-rows.rows.items in
    let l : Lengthens c.args.start.now c.args.bytes.now (rows_of c.self.inside.arena c.self.inside.root.0) c.in-Some.longer =
    subst (λ (o : Option Lengthened). IfSome o (λ made. Lengthens c.args.start.now c.args.bytes.now (rows_of c.self.inside.arena c.self.inside.root.0) made)) c.in-Some.is c.in_ok-longer.ensures in
    let h = longer start bytes rows c.in-Some.longer c.in-Some.longer.text.items new (subst (λ (t : ContentTree). IsNext start (content t)) (sym c.self.view_is) c.requires.next)
    (rows-well_formed content_widths nodes root c.nodes_are_well_formed.ensures c.self.invariant) (rows-ordered content_widths nodes root c.nodes_are_well_formed.ensures c.self.invariant) l refl c.in_ok-rows.ensures in
    ap laid_out c.in_ok-made.ensures.rows
    ∙ longer-laid start bytes rows l.row new h (record { from = c.in-Some.longer.from; to = c.copy.result; onto = c.copy-2.result }) l.place c.copy.ensures c.copy-2.ensures
    (subst (λ (t : ContentTree). IsContent (tree_rows t)) (sym c.self.view_is) old)
    ∙ ap (λ (t : ContentTree). put_in start (laid start bytes) (content t)) c.self.view_is

pub returns-clause-rows : goal.returns-clause-rows
returns-clause-rows c = λ old.
    let nodes = c.self.inside.arena in
    let root = c.self.inside.root.0 in
    let start = c.args.start.now in
    let bytes = c.args.bytes.now in
    let rows = rows_of nodes root in
    let new = map (plain_row plain_text) c.in_ok-rows.rows.items in
    let l : Lengthens c.args.start.now c.args.bytes.now (rows_of c.self.inside.arena c.self.inside.root.0) c.in-Some.longer =
    subst (λ (o : Option Lengthened). IfSome o (λ made. Lengthens c.args.start.now c.args.bytes.now (rows_of c.self.inside.arena c.self.inside.root.0) made)) c.in-Some.is c.in_ok-longer.ensures in
    let h = longer start bytes rows c.in-Some.longer c.in-Some.longer.text.items new (subst (λ (t : ContentTree). IsNext start (content t)) (sym c.self.view_is) c.requires.next)
    (rows-well_formed content_widths nodes root c.nodes_are_well_formed.ensures c.self.invariant) (rows-ordered content_widths nodes root c.nodes_are_well_formed.ensures c.self.invariant) l refl c.in_ok-rows.ensures in
    subst IsContent (sym c.in_ok-made.ensures.rows)
    (longer-content start bytes rows l.row new h (record { from = c.in-Some.longer.from; to = c.copy.result; onto = c.copy-2.result }) l.place c.copy.ensures c.copy-2.ensures
    (subst (λ (t : ContentTree). IsContent (tree_rows t)) (sym c.self.view_is) old))

pub returns-clause-added : goal.returns-clause-added
returns-clause-added c =
    let nodes = c.self.inside.arena in
    let root = c.self.inside.root.0 in
    let start = c.args.start.now in
    let bytes = c.args.bytes.now in
    let rows = rows_of nodes root in
    let new = map (plain_row plain_text) c.in_ok-rows.rows.items in
    let l : Lengthens c.args.start.now c.args.bytes.now (rows_of c.self.inside.arena c.self.inside.root.0) c.in-Some.longer =
    subst (λ (o : Option Lengthened). IfSome o (λ made. Lengthens c.args.start.now c.args.bytes.now (rows_of c.self.inside.arena c.self.inside.root.0) made)) c.in-Some.is c.in_ok-longer.ensures in
    let h = longer start bytes rows c.in-Some.longer c.in-Some.longer.text.items new (subst (λ (t : ContentTree). IsNext start (content t)) (sym c.self.view_is) c.requires.next)
    (rows-well_formed content_widths nodes root c.nodes_are_well_formed.ensures c.self.invariant) (rows-ordered content_widths nodes root c.nodes_are_well_formed.ensures c.self.invariant) l refl c.in_ok-rows.ensures in
    let one : c.len.result ≡ 1 = search rules in
    let alone = one_taken (plain_row plain_text) c.in_ok-made.made.out.items c.len.result c.in-Some.longer.from c.copy.result l.row.first start rows c.in_ok-made.ensures.out l.place c.copy.ensures c.len.ensures one in
    subst (λ (t : ContentTree). ComesIn (laid start bytes) (content t) (laid_out (rows_of c.exchange.new.self c.in_ok-made.made.root.0))) c.self.view_is
    (subst (λ (rs : List RowOf). ComesIn (laid start bytes) (laid_out rows) (laid_out rs)) (sym c.in_ok-made.ensures.rows)
    (longer-comes_in start bytes rows l.row new h (record { from = c.in-Some.longer.from; to = c.copy.result; onto = c.copy-2.result }) l.place c.copy.ensures c.copy-2.ensures alone))

pub returns-then-len-ne1-clause-level : goal.returns-then-len-ne1-clause-level
returns-then-len-ne1-clause-level c =
    let now = c.put_rows-then-len-ne1.new.self in
    subst (λ (n : ℕ). OnOk c.put_rows-then-len-ne1.result (rows_of now.nodes now.root ≢ [] → depth_of content_widths now.nodes now.root ≡ n))
    (depth-grown content_widths c.self.inside.arena c.exchange.new.self c.self.inside.root.0 c.exchange.ensures.grows c.self.invariant ∙ ap (λ (t : ContentTree). depth_of content_widths t.nodes t.root) c.self.view_is)
    c.put_rows-then-len-ne1.ensures.level
