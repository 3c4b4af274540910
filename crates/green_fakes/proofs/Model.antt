-- What a crash may leave is what the disk model says in words.
use Rattle.std.proofs.Common.{◌≡◌, ◌⊎◌, inl, inr, ⊎_elim, ℕ, ◌+◌, ◌-◌, ◌<◌, ◌≤◌, min, max, Bool, true, false, if◌then◌else◌, List, [], ◌∷◌, ◌++◌, length, take, drop, get_or, refl, sym, ap, ◌∙◌, arith, append_assoc, length-append, length-take, length-drop}
use Rattle.std.proofs.lemmas.List.{get_or-take, get_or-drop, get_or_append_left, get_or-append_right, get_or_default, same_lists}
use Rattle.std.proofs.lemmas.Bool.{cases_lt}
use Rattle.green_io.specs.declared.disk.Area.{Area}
use Rattle.green_io.specs.Areas.{is_same}
use Rattle.green_io.specs.Disk.{Torn, PartlyCut}
use Rattle.green_fakes.specs.DiskView.{bytes_after}
use Rattle.green_fakes.specs.DiskImages.{is_sync, IsLeftByStep, IsLeftWhere, IsLeft, synced_after}
use Rattle.green_fakes.specs.DiskModel.{IsSameAt, StaysBeside, StaysBefore, CallsAreModelled, least_by, greatest_by, least_end, greatest_end, IsWithin, IsWrittenBy, IsWrittenWhere, IsWritten, ImagesAreModelled}
use Rattle.green_fakes.specs.declared.change.Step.{Step}
use Rattle.green_fakes.specs.declared.change.Step.TheVariants.{Write, FailedWrite, Cut, FailedCut, Sync}
use Rattle.green_fakes.specs.declared.change.Change.{Change}

parts_long : (at n : ℕ) (old any new : List ℕ) → new ≡ take at old ++ any ++ drop (at + n) old → length new ≡ min at (length old) + length any + (length old - (at + n))
parts_long at n old any new is = omega (
  arith,
  ap length is,
  length-append (take at old ++ any) (drop (at + n) old),
  length-append (take at old) any,
  length-take at old,
  length-drop (at + n) old,
)

-- bytes in front of what was to be written
in_front : (at n i : ℕ) (old any new : List ℕ) → new ≡ take at old ++ any ++ drop (at + n) old → i < length old → i < at → IsSameAt old new i
in_front at n i old any new is in_range before =
    ap (λ (l : List ℕ). get_or l i 0) (is ∙ append_assoc (take at old) any (drop (at + n) old))
    ∙ get_or_append_left (take at old) (any ++ drop (at + n) old) 0 i (omega (arith, length-take at old, in_range, before))
    ∙ get_or-take at old i 0 before

-- bytes behind it
behind_it : (at n i : ℕ) (old any new : List ℕ) → new ≡ take at old ++ any ++ drop (at + n) old → length new ≤ max (length old) (at + n) → length old ≤ length new → i < length old → at + n ≤ i → IsSameAt old new i
behind_it at n i old any new is most least in_range behind =
    let long = parts_long at n old any new is in
    let front_long : length (take at old ++ any) ≡ at + n = omega (arith, length-append (take at old) any, length-take at old, long, most, least, in_range, behind) in
    ap (λ (l : List ℕ). get_or l i 0) is
    ∙ get_or-append_right (take at old ++ any) (drop (at + n) old) (at + n) i 0 front_long behind
    ∙ get_or-drop (at + n) old (i - (at + n)) 0
    ∙ ap (λ k. get_or old k 0) (omega (arith, behind))

torn_stays : (at n : ℕ) (old new : List ℕ) → Torn at n old new → StaysBeside at n old new
torn_stays at n old new torn = record {
  no_shorter = torn.no_shorter;
  no_longer = torn.no_longer;
  stays = λ i in_range beside. ⊎_elim
      (λ before. in_front at n i old torn.any new torn.bytes in_range before)
      (λ behind. behind_it at n i old torn.any new torn.bytes torn.no_longer torn.no_shorter in_range behind)
      beside;
}

-- what stands in the place of the range
abbrev between : (at n : ℕ) (old new : List ℕ) → List ℕ
between at n old new = take (length new - min at (length old) - (length old - (at + n))) (drop (min at (length old)) new)

between_long : (at n : ℕ) (old new : List ℕ) → length old ≤ length new → length (between at n old new) ≡ length new - min at (length old) - (length old - (at + n))
between_long at n old new least = omega (
  arith,
  length-take (length new - min at (length old) - (length old - (at + n))) (drop (min at (length old)) new),
  length-drop (min at (length old)) new,
  least,
)

pub stays_torn_at : (at n : ℕ) (old new : List ℕ) → StaysBeside at n old new → Torn at n old new
stays_torn_at at n old new stays = record {
  any = between at n old new;
  bytes = same_lists new (take at old ++ between at n old new ++ drop (at + n) old) long each;
  no_shorter = stays.no_shorter;
  no_longer = stays.no_longer;
}
  where
    long : length new ≡ length (take at old ++ between at n old new ++ drop (at + n) old)
    long = omega (
      arith,
      parts_long at n old (between at n old new) (take at old ++ between at n old new ++ drop (at + n) old) refl,
      between_long at n old new stays.no_shorter,
      stays.no_shorter,
    )

    low : ℕ
    low = min at (length old)

    -- the same at any other byte that stands for none
    same_at : (k d : ℕ) → k < length new → k < length old → IsSameAt old new k → get_or old k d ≡ get_or new k d
    same_at k d here there same = get_or_default old k d 0 there ∙ sym same ∙ get_or_default new k 0 d here

    front : (k d : ℕ) → k < length new → k < low → get_or (take at old ++ between at n old new ++ drop (at + n) old) k d ≡ get_or new k d
    front k d here before =
        ap (λ (l : List ℕ). get_or l k d) (append_assoc (take at old) (between at n old new) (drop (at + n) old))
        ∙ get_or_append_left (take at old) (between at n old new ++ drop (at + n) old) d k (omega (arith, length-take at old, before))
        ∙ get_or-take at old k d (omega (arith, before))
        ∙ same_at k d here (omega (arith, before)) (stays.stays k (omega (arith, before)) (inl (omega (arith, before))))

    middle : (k d : ℕ) → k < length new → low ≤ k → k < low + length (between at n old new) → get_or (take at old ++ between at n old new ++ drop (at + n) old) k d ≡ get_or new k d
    middle k d here after before =
        get_or_append_left (take at old ++ between at n old new) (drop (at + n) old) d k (omega (arith, length-append (take at old) (between at n old new), length-take at old, before))
        ∙ get_or-append_right (take at old) (between at n old new) low k d (length-take at old) after
        ∙ get_or-take (length new - low - (length old - (at + n))) (drop low new) (k - low) d (omega (arith, between_long at n old new stays.no_shorter, before, after))
        ∙ get_or-drop low new (k - low) d
        ∙ ap (λ (j : ℕ). get_or new j d) (omega (arith, after))

    back : (k d : ℕ) → k < length new → low + length (between at n old new) ≤ k → get_or (take at old ++ between at n old new ++ drop (at + n) old) k d ≡ get_or new k d
    back k d here after =
        let mid = between_long at n old new stays.no_shorter in
        let past : at + n < length old = omega (arith, mid, after, here, stays.no_shorter, stays.no_longer) in
        let whole : length new ≡ length old = omega (arith, past, stays.no_shorter, stays.no_longer) in
        let long : length (take at old ++ between at n old new) ≡ at + n = omega (arith, length-append (take at old) (between at n old new), length-take at old, mid, past, whole) in
        get_or-append_right (take at old ++ between at n old new) (drop (at + n) old) (at + n) k d long (omega (arith, mid, after, past, whole))
        ∙ get_or-drop (at + n) old (k - (at + n)) d
        ∙ ap (λ (j : ℕ). get_or old j d) (omega (arith, mid, after, past, whole))
        ∙ same_at k d here (omega (arith, here, whole)) (stays.stays k (omega (arith, here, whole)) (inr (omega (arith, mid, after, past, whole))))

    each : (k d : ℕ) → k < length new → get_or new k d ≡ get_or (take at old ++ between at n old new ++ drop (at + n) old) k d
    each k d here =
        sym (⊎_elim (λ before. front k d here before)
        (λ after. ⊎_elim (λ before. middle k d here after before) (λ past. back k d here past) (cases_lt k (low + length (between at n old new))))
        (cases_lt k low))

cut_stays : (n : ℕ) (old new : List ℕ) → PartlyCut n old new → StaysBefore n old new
cut_stays n old new cut = record {
  no_shorter = cut.no_shorter;
  no_longer = omega (arith, ap length cut.front, length-take (length new) old);
  stays = λ i here. ap (λ (l : List ℕ). get_or l i 0) (sym cut.front) ∙ get_or-take (length new) old i 0 here;
}

stays_cut : (n : ℕ) (old new : List ℕ) → StaysBefore n old new → PartlyCut n old new
stays_cut n old new stays = record {
  front = same_lists (take (length new) old) new long
      (λ k d here. get_or-take (length new) old k d (omega (arith, long, here))
      ∙ get_or_default old k d 0 (omega (arith, long, here, stays.no_longer))
      ∙ sym (stays.stays k (omega (arith, long, here)))
      ∙ get_or_default new k 0 d (omega (arith, long, here)));
  no_shorter = stays.no_shorter;
}
  where
    long : length (take (length new) old) ≡ length new
    long = omega (arith, length-take (length new) old, stays.no_longer)

pub calls_are_modelled : CallsAreModelled
calls_are_modelled = record {
  writes = λ at n old new. (torn_stays at n old new, stays_torn_at at n old new);
  cuts = λ n old new. (cut_stays n old new, stays_cut n old new);
}

-- what is said of an image, of its ends, of what was written and of what was stable
abbrev pub Says : ℕ → ℕ → (ℕ → Type 0) → List ℕ → List ℕ → Type 0
Says least greatest written stable image =
    (least ≤ length image) × (length image ≤ greatest) × ((i : ℕ) → i < length image → written i ⊎ ((i < length stable) × IsSameAt stable image i))

-- one write more
says_torn : (at n least greatest : ℕ) (written : ℕ → Type 0) (stable old image : List ℕ) → Says least greatest written stable old → Torn at n old image → Says least (max greatest (at + n)) (λ i. IsWithin at n least i ⊎ written i) stable image
says_torn at n least greatest written stable old image said torn =
    (omega (arith, said.0, beside.no_shorter), omega (arith, said.1, beside.no_longer), each)
  where
    beside : StaysBeside at n old image
    beside = torn_stays at n old image torn

    kept : (i : ℕ) → i < length old → IsSameAt old image i → (IsWithin at n least i ⊎ written i) ⊎ ((i < length stable) × IsSameAt stable image i)
    kept i here same = ⊎_elim (λ was. inl (inr was)) (λ was. inr (was.0, same ∙ was.1)) (said.2 i here)

    each : (i : ℕ) → i < length image → (IsWithin at n least i ⊎ written i) ⊎ ((i < length stable) × IsSameAt stable image i)
    each i here =
        ⊎_elim
        (λ before. kept i (omega (arith, before, said.0)) (beside.stays i (omega (arith, before, said.0)) (inl (omega (arith, before)))))
        (λ after. ⊎_elim
        (λ inside. inl (inl (after, inside)))
        (λ behind. kept i (omega (arith, here, behind, beside.no_longer)) (beside.stays i (omega (arith, here, behind, beside.no_longer)) (inr behind)))
        (cases_lt i (at + n)))
        (cases_lt i (min at least))

-- one cut more
says_cut : (to least greatest : ℕ) (written : ℕ → Type 0) (stable old image : List ℕ) → Says least greatest written stable old → PartlyCut to old image → Says (min to least) greatest written stable image
says_cut to least greatest written stable old image said cut =
    (omega (arith, said.0, before.no_shorter), omega (arith, said.1, before.no_longer), each)
  where
    before : StaysBefore to old image
    before = cut_stays to old image cut

    each : (i : ℕ) → i < length image → written i ⊎ ((i < length stable) × IsSameAt stable image i)
    each i here = ⊎_elim (λ was. inl was) (λ was. inr (was.0, before.stays i here ∙ was.1)) (said.2 i (omega (arith, here, before.no_longer)))

-- nothing but what is stable
says_same : (written : ℕ → Type 0) (stable image : List ℕ) → image ≡ stable → Says (length stable) (length stable) written stable image
says_same written stable image is =
    (omega (arith, ap length is), omega (arith, ap length is), λ i here. inr (omega (arith, here, ap length is), ap (λ (l : List ℕ). get_or l i 0) is))

-- one step more of the area
says_step : (step : Step) (least greatest : ℕ) (written : ℕ → Type 0) (stable reads image : List ℕ) (left : List ℕ → Type 0) → ((old : List ℕ) → left old → Says least greatest written stable old) → IsLeftByStep (is_sync step) step reads left image → Says (least_by step least reads) (greatest_by step greatest reads) (IsWrittenBy step least written) (if is_sync step then reads else stable) image
says_step (Write at bytes) least greatest written stable reads image left said (old, was, torn) = says_torn at (length bytes.items) least greatest written stable old image (said old was) torn
says_step (FailedWrite at count) least greatest written stable reads image left said (old, was, torn) = says_torn at count least greatest written stable old image (said old was) torn
says_step (Cut to) least greatest written stable reads image left said (old, was, cut) = says_cut to least greatest written stable old image (said old was) cut
says_step (FailedCut to) least greatest written stable reads image left said (old, was, cut) = says_cut to least greatest written stable old image (said old was) cut
says_step Sync least greatest written stable reads image left said is = says_same (λ i. ⊥) reads image is

-- one step more of some area
says_where : (same : Bool) (step : Step) (least greatest : ℕ) (written : ℕ → Type 0) (stable reads image : List ℕ) (left : List ℕ → Type 0) → ((old : List ℕ) → left old → Says least greatest written stable old) → IsLeftWhere same step reads left image → Says (if same then least_by step least reads else least) (if same then greatest_by step greatest reads else greatest) (IsWrittenWhere same step least written) (if same then (if is_sync step then reads else stable) else stable) image
says_where true step least greatest written stable reads image left said is = says_step step least greatest written stable reads image left said is
says_where false step least greatest written stable reads image left said is = said image is

says_all : (area : Area) (first : List ℕ) (changes : List Change) (image : List ℕ) → IsLeft area first changes image → Says (least_end area first changes) (greatest_end area first changes) (IsWritten area first changes) (synced_after area first changes) image
says_all area first [] image is = says_same (λ i. ⊥) first image is
says_all area first (change ∷ before) image is =
    says_where (is_same change.area area) change.step (least_end area first before) (greatest_end area first before) (IsWritten area first before) (synced_after area first before) (bytes_after area first before) image (IsLeft area first before)
    (λ old was. says_all area first before old was) is

pub images_are_modelled : ImagesAreModelled
images_are_modelled area first changes image is =
    let said = says_all area first changes image is in
    record { no_shorter = said.0; no_longer = said.1; stays = said.2 }
