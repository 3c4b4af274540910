-- What the last test of a change or an entry decides, where the tests before it have held.
use Rattle.std.proofs.Common.{◌≡◌, ◌∙◌, ◌↔◌, ℕ, ◌+◌, ◌<◌, ◌≤◌, Bool, IsTrue, List, length, All, sym, subst, arith}
use Rattle.febe_data.specs.Plain.{PlainSpec, PlainEntry}
use Rattle.world_rules.specs.World.{World, has_document, text_length}
use Rattle.world_rules.specs.Picking.{picked_addresses, runs_of}
use Rattle.world_rules.specs.FlatView.{view_of}
use Rattle.world_rules.specs.Refusals.{runs_in_all}
use Rattle.world_rules.specs.Placed.{IsLinkedAt}
use Rattle.world_rules.proofs.Folded.{folds_to_world}
use Rattle.entry_fits.specs.Fits.{SpecFits, CopyFits, LinkFits, ChangeFits, Fits}
use Rattle.entry_fits.specs.Greatest.{greatest_serial}
use Rattle.entry_fits.proofs.Greatest.{above_all, above_greatest}

pub copy_decided : (world : World) (document : List ℕ) (at : ℕ) (specs : List PlainSpec) (len picked : ℕ) (fits has : Bool)
    → has ≡ has_document world document → IsTrue has → len ≡ text_length world document → (1 ≤ at) × (at ≤ len + 1) → All (SpecFits world) specs
    → length (runs_of world specs) ≤ 65536 → picked ≡ length (picked_addresses world specs) → IsTrue fits ↔ len + picked ≤ 1073741824
    → IsTrue fits ↔ CopyFits world document at specs
copy_decided world document at specs len picked fits has tells there is place each few picks iff = (
  (λ yes. record {
    comes_in = record { there = sym tells ∙ there; from_one = place.0; to_end = omega (arith, is, place.1) };
    each = each;
    runs = few;
    positions = omega (arith, is, picks, iff.0 yes);
  }),
  (λ copy. iff.1 (omega (arith, is, picks, copy.positions))),
)

pub ends_decided : (world : World) (from to three : List PlainSpec) (few : Bool) → All (SpecFits world) from → All (SpecFits world) to → All (SpecFits world) three → IsTrue few ↔ runs_in_all world from to three ≤ 65536
    → IsTrue few ↔ All (SpecFits world) from × All (SpecFits world) to × All (SpecFits world) three × (runs_in_all world from to three ≤ 65536)
ends_decided world from to three few a b d iff = ((λ yes. (a, b, d, iff.0 yes)), (λ all. iff.1 all.3))

pub link_decided : (world : World) (home : List ℕ) (number place : ℕ) (from to three : List PlainSpec) (fits linked : Bool) → IsTrue linked ↔ IsLinkedAt world home number place → IsTrue linked
    → IsTrue fits ↔ All (SpecFits world) from × All (SpecFits world) to × All (SpecFits world) three × (runs_in_all world from to three ≤ 65536)
    → IsTrue fits ↔ LinkFits world home number place from to three
link_decided world home number place from to three fits linked at there iff = (
  (λ yes. let all = iff.0 yes in record { comes_in = at.0 there; from_each = all.0; to_each = all.1; three_each = all.2; runs = all.3 }),
  (λ link. iff.1 (link.from_each, link.to_each, link.three_each, link.runs)),
)

pub entry_decided : (past : List PlainEntry) (entry : PlainEntry) (greatest : ℕ) (fits : Bool) → greatest ≡ greatest_serial past entry.session → 1 ≤ entry.session → greatest < entry.serial
    → IsTrue fits ↔ ChangeFits (view_of past).world entry.change → IsTrue fits ↔ Fits past entry
entry_decided past entry greatest fits is session above iff = (
  (λ yes. record {
    session = session;
    serial = omega (arith, above);
    is_new = above_all past entry.session entry.serial (omega (arith, is, above));
    change = subst (λ (w : World). ChangeFits w entry.change) (folds_to_world past) (iff.0 yes);
  }),
  (λ all. iff.1 (subst (λ (w : World). ChangeFits w entry.change) (sym (folds_to_world past)) all.change)),
)

-- an entry whose serial is not above those of its session
pub serial_decided : (past : List PlainEntry) (entry : PlainEntry) (greatest : ℕ) → greatest ≡ greatest_serial past entry.session → entry.serial ≤ greatest → Fits past entry → ⊥
serial_decided past entry greatest is below all = omega (arith, is, below, above_greatest past entry.session entry.serial all.serial all.is_new)
