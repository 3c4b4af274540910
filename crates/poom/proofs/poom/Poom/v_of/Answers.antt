use Rattle.poom.proofs.Showing.{rows_found, both_shown}
use Rattle.poom.proofs.poom.Poom.v_of.Goals as goal

pub show-requires-clause-rows : goal.show-requires-clause-rows
show-requires-clause-rows c = rows_found c.args.self.now c.self.inside.arena c.args.root.0 c.args.span.now c.in_ok-rows.rows.items c.as_slice.result.now c.self.view_is c.requires.root c.in_ok-rows.ensures c.as_slice.ensures

pub show-requires-2-clause-rows : goal.show-requires-2-clause-rows
show-requires-2-clause-rows c = rows_found c.args.self.now c.self.inside.arena c.args.root.0 c.args.span.now c.in_ok-rows.rows.items c.as_slice-2.result.now c.self.view_is c.requires.root c.in_ok-rows.ensures c.as_slice-2.ensures

pub returns : goal.returns
returns c =
    both_shown c.args.self.now c.self.inside.arena c.args.root.0 c.args.span.now c.in_ok-rows.rows.items c.as_slice.result.now c.as_slice-2.result.now c.new-spans.result.items c.show.new.spans.items c.show-2.new.spans.items c.self.view_is c.requires.root
    c.is_tumbler.ensures c.in_ok-rows.ensures c.new-spans.ensures.items c.as_slice.ensures c.as_slice-2.ensures c.in_ok-show.ensures c.in_ok-show-2.ensures
