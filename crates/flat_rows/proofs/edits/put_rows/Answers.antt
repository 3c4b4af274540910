use Rattle.std.proofs.Common.{◌≡◌, ◌++◌, not, length, map, refl, sym, append_assoc}
use Rattle.std.specs.Prelude.{filter}
use Rattle.world_rules.specs.declared.rows.Row.{Row}
use Rattle.world_rules.specs.Edits.{moves_up, up_by, new_rows}
use Rattle.flat_rows.proofs.edits.put_rows.Goals as goal

pub returns-clause-ok : goal.returns-clause-ok
returns-clause-ok c =
    let rows = c.args.rows.now.items in
    let document = c.args.document.now in
    let n = c.args.n in
    let addresses = c.args.addresses.now in
    let staying : c.keep_staying.new.rows.items ≡ filter (λ (row : Row). not (moves_up document n row)) rows = rw c.in_ok-reserve.ensures.items at c.keep_staying.ensures.rows in
    let behind : c.as_slice-2.result.now ≡ new_rows document n addresses ++ map (up_by (length addresses)) (filter (moves_up document n) rows) =
    rw (c.as_slice-2.ensures, c.in_ok-behind.ensures, c.as_slice.ensures) refl in
    rw (c.append_rows.ensures, staying, behind) (sym (append_assoc (filter (λ (row : Row). not (moves_up document n row)) rows) (new_rows document n addresses) (map (up_by (length addresses)) (filter (moves_up document n) rows))))
