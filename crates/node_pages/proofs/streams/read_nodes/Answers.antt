use Rattle.std.proofs.Common.{length, arith}
use Rattle.disk_fields.proofs.FieldLaws.{are_bytes}
use Rattle.enfilade_core.specs.Plain.{shape}
use Rattle.enfilade_core.proofs.ToldReach.{no-reaches, reaches-in_front, one-more}
use Rattle.node_pages.proofs.Streaming.{none_read, one_more, none_next, none_formed, all_read, shorter, some_left, none_left, not_so}
use Rattle.node_pages.proofs.streams.read_nodes.Goals as goal

pub loop-rest-init : goal.loop-rest-init
loop-rest-init g c = record {
  stream = none_read g.P.Plane.widths g.P.PagedPlane.is_row g.P.PagedPlane.row_bytes c.args.bytes.now _ c.new-arena.ensures (are_bytes c.args.bytes.now (λ i. omega (arith, c.type_inv.bytes i)));
  reaches = no-reaches g.P.Plane.widths _ _ c.new-arena.ensures c.new-reaches.ensures.items;
}

pub returns-in_default : goal.returns-in_default
returns-in_default g c =
    none_next g.P.Plane.widths g.met.P.PagedPlane.rows_read_as_written c.args.bytes.now c.loop-rest.arena c.loop-rest.rest.now c.loop-rest.invariant.stream (some_left c.loop-rest.rest.now _ c.is_empty.ensures c.loop-rest-test.true)
    (rw c.in_default.is at c.in_ok-children.ensures)

pub returns-then-not-is_well_formed : goal.returns-then-not-is_well_formed
returns-then-not-is_well_formed g c =
    none_formed g.P.Plane.widths g.met.P.PagedPlane.rows_read_as_written c.args.bytes.now c.loop-rest.arena c.loop-rest.rest.now (shape g.P.Plane.plain c.in-Some.children) c.in-Some.behind.now c.loop-rest.invariant.stream
    (some_left c.loop-rest.rest.now _ c.is_empty.ensures c.loop-rest-test.true) (rw c.in-Some.is at c.in_ok-children.ensures) (not_so _ c.is_well_formed_by-is_well_formed.ensures c.if-not-is_well_formed.true)

pub loop-rest-smaller : goal.loop-rest-smaller
loop-rest-smaller g c =
    shorter g.met.P.PagedPlane.rows_read_as_written (length c.loop-rest.arena) c.loop-rest.rest.now (shape g.P.Plane.plain c.in-Some.children) c.in-Some.behind.now c.loop-rest.invariant.stream.are (rw c.in-Some.is at c.in_ok-children.ensures)

pub add_reach-requires : goal.add_reach-requires
add_reach-requires g c =
    let node = shape g.P.Plane.plain c.in-Some.children in
    record {
      last = one-more c.loop-rest.arena c.add_node.new.self node c.in_ok-node.node.0 c.in_ok-node.ensures.ok c.in_ok-node.ensures.made;
      before = reaches-in_front g.P.Plane.widths c.loop-rest.arena c.add_node.new.self node c.in_ok-node.node.0 c.loop-rest.reaches.items c.loop-rest.invariant.reaches c.in_ok-node.ensures.ok c.in_ok-node.ensures.made;
    }

pub loop-rest-preserved : goal.loop-rest-preserved
loop-rest-preserved g c = record {
  stream = rw c.in_ok-node.ensures.ok
      (one_more g.P.Plane.widths g.met.P.PagedPlane.rows_read_as_written c.args.bytes.now c.loop-rest.arena c.loop-rest.rest.now (shape g.P.Plane.plain c.in-Some.children) c.in-Some.behind.now c.loop-rest.invariant.stream
      (some_left c.loop-rest.rest.now _ c.is_empty.ensures c.loop-rest-test.true) (rw c.in-Some.is at c.in_ok-children.ensures));
  reaches = c.in_ok-add_reach.ensures.ok;
}

pub returns : goal.returns
returns g c =
    all_read g.P.Plane.widths g.P.PagedPlane.is_row g.P.PagedPlane.row_bytes c.args.bytes.now c.loop-rest.arena c.loop-rest.rest.now c.loop-rest.invariant.stream
    (none_left c.loop-rest.rest.now _ c.is_empty.ensures c.loop-rest-test.false) c.allocator-alloc.ensures.well_formed
