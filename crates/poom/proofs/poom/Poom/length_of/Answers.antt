use Rattle.std.proofs.Common.{◌≡◌, ◌∙◌, length, sym, ap, subst, arith, List, ℕ}
use Rattle.tumbler.specs.Places.{place}
use Rattle.enfilade_core.specs.Rows.{Shape, rows_of}
use Rattle.poom.specs.Laid.{part_number}
use Rattle.poom.proofs.Extents.{end_of_rows, none_at, long_at, from_one_at}
use Rattle.poom.proofs.poom.Poom.length_of.Goals as goal

pub returns-then-places-lt2 : goal.returns-then-places-lt2
returns-then-places-lt2 c =
    let end = c.first_extent-end.result in
    let is = subst (λ (nodes : List (Shape ℕ)). end ≡ end_of_rows (rows_of nodes c.args.root.0)) c.self.view_is c.first_extent-end.ensures in
    none_at c.args.part c.args.self.now c.args.root.0 end c.requires.document is (omega (arith, ap length c.places-places.ensures.value, c.if-places-lt2.true))

pub overflow_sub-result : goal.overflow_sub-result
overflow_sub-result c =
    let end = c.first_extent-end.result in
    let is = subst (λ (nodes : List (Shape ℕ)). end ≡ end_of_rows (rows_of nodes c.args.root.0)) c.self.view_is c.first_extent-end.ensures in
    let here : place end 0 ≡ part_number c.args.part =
    ap (λ (e : List ℕ). place e 0) (sym c.places-places.ensures.value) ∙ c.if-places-number.false ∙ c.number.ensures in
    let least = from_one_at c.args.part c.args.self.now c.args.root.0 end c.requires.document is here in
    omega (arith, least, ap (λ (e : List ℕ). place e 1) c.places-places.ensures.value)

pub returns : goal.returns
returns c =
    let end = c.first_extent-end.result in
    let is = subst (λ (nodes : List (Shape ℕ)). end ≡ end_of_rows (rows_of nodes c.args.root.0)) c.self.view_is c.first_extent-end.ensures in
    let here : place end 0 ≡ part_number c.args.part =
    ap (λ (e : List ℕ). place e 0) (sym c.places-places.ensures.value) ∙ c.if-places-number.false ∙ c.number.ensures in
    let told = long_at c.args.part c.args.self.now c.args.root.0 end c.requires.document is here in
    omega (arith, told, ap (λ (e : List ℕ). place e 1) c.places-places.ensures.value)
