-- Widths stay where rows are moved.
use Rattle.std.proofs.Common.{ℕ, length, refl, ap}
use Rattle.tumbler.specs.Places.{width_at}
use Rattle.tumbler.proofs.SumOrder.{length-sum_filled}
use Rattle.enfilade_core.specs.Axes.{WidthsStay}
use Rattle.enfilade_core.specs.Planes.{as_place, content_widths, text_widths, key_widths}

pub content_widths_stay : WidthsStay content_widths
content_widths_stay a b row e g off = (ap (λ (n : ℕ). width_at n (as_place (length row.leaf.items))) (length-sum_filled a row.first e (off.first refl)), refl)

pub text_widths_stay : WidthsStay text_widths
text_widths_stay a b row e g off = (refl, ap (λ (n : ℕ). width_at n row.leaf) (length-sum_filled b row.second g (off.second refl)))

pub key_widths_stay : WidthsStay key_widths
key_widths_stay a b row e g off = (refl, refl)
