-- Each content that the disk model allows, a crash may leave, where no cut stands since the area was made stable.
use Rattle.std.proofs.Common.{◌≡◌, ◌⊎◌, inl, inr, ⊎_elim, ℕ, ◌+◌, ◌-◌, ◌<◌, ◌≤◌, min, max, Bool, true, false, if◌then◌else◌, List, [], ◌∷◌, ◌++◌, length, take, drop, get_or, refl, sym, ap, ◌∙◌, arith, append_assoc, length-append, length-take, length-drop}
use Rattle.std.proofs.lemmas.List.{get_or-take, get_or-drop, get_or_append_left, get_or-append_right, get_or_default, same_lists}
use Rattle.std.proofs.lemmas.Bool.{cases_lt}
use Rattle.green_io.specs.declared.disk.Area.{Area}
use Rattle.green_io.specs.Areas.{is_same}
use Rattle.green_io.specs.Disk.{Torn}
use Rattle.green_fakes.specs.DiskView.{bytes_after}
use Rattle.green_fakes.specs.DiskImages.{is_sync, IsLeftByStep, IsLeftWhere, IsLeft, synced_after}
use Rattle.green_fakes.specs.DiskLaws.{unwritten_torn}
use Rattle.green_fakes.specs.DiskModel.{IsSameAt, least_by, greatest_by, least_end, greatest_end, IsWithin, IsWrittenBy, IsWrittenWhere, IsWritten, IsUncutBy, IsUncutWhere, IsUncut, ModelledAreImages}
use Rattle.green_fakes.proofs.Model.{Says, stays_torn_at}
use Rattle.green_fakes.specs.declared.change.Step.{Step}
use Rattle.green_fakes.specs.declared.change.Step.TheVariants.{Write, FailedWrite, Cut, FailedCut, Sync}
use Rattle.green_fakes.specs.declared.change.Change.{Change}

-- other bytes between two places
abbrev spliced : ℕ → ℕ → List ℕ → List ℕ → List ℕ
spliced a e image stable = take a image ++ take (e - a) (drop a stable) ++ drop e image

spliced_long : (a e : ℕ) (image stable : List ℕ) → a ≤ e → e ≤ length image → e ≤ length stable → length (spliced a e image stable) ≡ length image
spliced_long a e image stable up within inside = omega (
  arith,
  length-append (take a image ++ take (e - a) (drop a stable)) (drop e image),
  length-append (take a image) (take (e - a) (drop a stable)),
  length-take a image,
  length-take (e - a) (drop a stable),
  length-drop a stable,
  length-drop e image,
  up,
  within,
  inside,
)

spliced_front : (a e i : ℕ) (image stable : List ℕ) → a ≤ length image → i < a → IsSameAt (spliced a e image stable) image i
spliced_front a e i image stable within before = sym (
    ap (λ (l : List ℕ). get_or l i 0) (append_assoc (take a image) (take (e - a) (drop a stable)) (drop e image))
    ∙ get_or_append_left (take a image) (take (e - a) (drop a stable) ++ drop e image) 0 i (omega (arith, length-take a image, within, before))
    ∙ get_or-take a image i 0 before)

spliced_middle : (a e i : ℕ) (image stable : List ℕ) → a ≤ e → e ≤ length image → e ≤ length stable → a ≤ i → i < e → IsSameAt stable (spliced a e image stable) i
spliced_middle a e i image stable up within inside after before =
    get_or_append_left (take a image ++ take (e - a) (drop a stable)) (drop e image) 0 i
    (omega (arith, length-append (take a image) (take (e - a) (drop a stable)), length-take a image, length-take (e - a) (drop a stable), length-drop a stable, up, within, inside, before))
    ∙ get_or-append_right (take a image) (take (e - a) (drop a stable)) a i 0 (omega (arith, length-take a image, up, within)) after
    ∙ get_or-take (e - a) (drop a stable) (i - a) 0 (omega (arith, after, before))
    ∙ get_or-drop a stable (i - a) 0
    ∙ ap (λ (j : ℕ). get_or stable j 0) (omega (arith, after))

spliced_back : (a e i : ℕ) (image stable : List ℕ) → a ≤ e → e ≤ length image → e ≤ length stable → e ≤ i → IsSameAt (spliced a e image stable) image i
spliced_back a e i image stable up within inside behind = sym (
    get_or-append_right (take a image ++ take (e - a) (drop a stable)) (drop e image) e i 0
    (omega (arith, length-append (take a image) (take (e - a) (drop a stable)), length-take a image, length-take (e - a) (drop a stable), length-drop a stable, up, within, inside))
    behind
    ∙ get_or-drop e image (i - e) 0
    ∙ ap (λ (j : ℕ). get_or image j 0) (omega (arith, behind)))

-- a front, and then other bytes
abbrev joined : ℕ → List ℕ → List ℕ → List ℕ
joined a image stable = take a image ++ drop a stable

joined_long : (a : ℕ) (image stable : List ℕ) → a ≤ length image → a ≤ length stable → length (joined a image stable) ≡ length stable
joined_long a image stable within inside = omega (arith, length-append (take a image) (drop a stable), length-take a image, length-drop a stable, within, inside)

joined_front : (a i : ℕ) (image stable : List ℕ) → a ≤ length image → i < a → IsSameAt (joined a image stable) image i
joined_front a i image stable within before = sym (
    get_or_append_left (take a image) (drop a stable) 0 i (omega (arith, length-take a image, within, before)) ∙ get_or-take a image i 0 before)

joined_back : (a i : ℕ) (image stable : List ℕ) → a ≤ length image → a ≤ i → IsSameAt stable (joined a image stable) i
joined_back a i image stable within after =
    get_or-append_right (take a image) (drop a stable) a i 0 (omega (arith, length-take a image, within)) after
    ∙ get_or-drop a stable (i - a) 0
    ∙ ap (λ (j : ℕ). get_or stable j 0) (omega (arith, after))

-- without a cut the least end is that of what was stable, and all that is past it was written
abbrev Full : ℕ → ℕ → (ℕ → Type 0) → List ℕ → Type 0
Full least greatest written stable = (least ≡ length stable) × (least ≤ greatest) × ((i : ℕ) → least ≤ i → i < greatest → written i)

full_write : (at n least greatest : ℕ) (written : ℕ → Type 0) (stable : List ℕ) → Full least greatest written stable → Full least (max greatest (at + n)) (λ i. IsWithin at n least i ⊎ written i) stable
full_write at n least greatest written stable full = (
  full.0,
  omega (arith, full.1),
  λ i after before.
      ⊎_elim (λ inside. inr (full.2 i after inside)) (λ outside. inl (omega (arith, after), omega (arith, before, outside))) (cases_lt i greatest),
)

full_none : (stable : List ℕ) → Full (length stable) (length stable) (λ i. ⊥) stable
full_none stable = (refl, omega arith, λ i after before. absurd (omega (arith, after, before)))

full_step : (step : Step) (rest : Type 0) (least greatest : ℕ) (written : ℕ → Type 0) (stable reads : List ℕ) → IsUncutBy step rest → (rest → Full least greatest written stable) → Full (least_by step least reads) (greatest_by step greatest reads) (IsWrittenBy step least written) (if is_sync step then reads else stable)
full_step (Write at bytes) rest least greatest written stable reads uncut full = full_write at (length bytes.items) least greatest written stable (full uncut)
full_step (FailedWrite at count) rest least greatest written stable reads uncut full = full_write at count least greatest written stable (full uncut)
full_step (Cut to) rest least greatest written stable reads uncut full = absurd uncut
full_step (FailedCut to) rest least greatest written stable reads uncut full = absurd uncut
full_step Sync rest least greatest written stable reads uncut full = full_none reads

full_where : (same : Bool) (step : Step) (rest : Type 0) (least greatest : ℕ) (written : ℕ → Type 0) (stable reads : List ℕ) → IsUncutWhere same step rest → (rest → Full least greatest written stable) → Full (if same then least_by step least reads else least) (if same then greatest_by step greatest reads else greatest) (IsWrittenWhere same step least written) (if same then (if is_sync step then reads else stable) else stable)
full_where true step rest least greatest written stable reads uncut full = full_step step rest least greatest written stable reads uncut full
full_where false step rest least greatest written stable reads uncut full = full uncut

full_all : (area : Area) (first : List ℕ) (changes : List Change) → IsUncut area changes → Full (least_end area first changes) (greatest_end area first changes) (IsWritten area first changes) (synced_after area first changes)
full_all area first [] uncut = full_none first
full_all area first (change ∷ before) uncut =
    full_where (is_same change.area area) change.step (IsUncut area before) (least_end area first before) (greatest_end area first before) (IsWritten area first before) (synced_after area first before) (bytes_after area first before) uncut
    (λ rest. full_all area first before rest)

-- what the model allows behind a write is what it allows before it, torn by the write
before_write : (at n least greatest : ℕ) (written : ℕ → Type 0) (stable image : List ℕ) → Full least greatest written stable → Says least (max greatest (at + n)) (λ i. IsWithin at n least i ⊎ written i) stable image → (old : List ℕ) × Says least greatest written stable old × Torn at n old image
before_write at n least greatest written stable image full said =
    ⊎_elim (λ past. ⊎_elim (λ low. inside low past) (λ high. untouched high past) (cases_lt at least)) short (cases_lt (at + n) (length image))
  where
    Goal : Type 0
    Goal = (old : List ℕ) × Says least greatest written stable old × Torn at n old image

    -- a byte that no write before may have touched is the stable one
    kept : (i : ℕ) → i < length image → (IsWithin at n least i → written i) → written i ⊎ ((i < length stable) × IsSameAt stable image i)
    kept i here within = ⊎_elim (λ was. inl (⊎_elim within (λ earlier. earlier) was)) (λ same. inr same) (said.2 i here)

    untouched : least ≤ at → at + n < length image → Goal
    untouched high past = (
      image,
      (said.0, omega (arith, said.1, past), λ i here. kept i here (λ within. full.2 i (omega (arith, high, within.0)) (omega (arith, within.1, past, said.1)))),
      unwritten_torn at n image,
    )

    e : ℕ
    e = min (at + n) least

    inside : at < least → at + n < length image → Goal
    inside low past =
        let up : at ≤ e = omega (arith, low) in
        let within : e ≤ length image = omega (arith, said.0) in
        let in_stable : e ≤ length stable = omega (arith, full.0) in
        let long = spliced_long at e image stable up within in_stable in
        let front : (i : ℕ) → i < at → IsSameAt (spliced at e image stable) image i = λ i before. spliced_front at e i image stable (omega (arith, up, within)) before in
        let middle : (i : ℕ) → at ≤ i → i < e → IsSameAt stable (spliced at e image stable) i = λ i after before. spliced_middle at e i image stable up within in_stable after before in
        let back : (i : ℕ) → e ≤ i → IsSameAt (spliced at e image stable) image i = λ i behind. spliced_back at e i image stable up within in_stable behind in
        let same_as : (i : ℕ) → IsSameAt (spliced at e image stable) image i → (written i ⊎ ((i < length stable) × IsSameAt stable image i)) → written i ⊎ ((i < length stable) × IsSameAt stable (spliced at e image stable) i) = λ i same was. ⊎_elim (λ w. inl w) (λ s. inr (s.0, sym same ∙ s.1)) was in (
          spliced at e image stable,
          (
            omega (arith, long, said.0),
            omega (arith, long, said.1, past),
            λ i here.
                ⊎_elim
                (λ before. same_as i (front i before) (kept i (omega (arith, here, long)) (λ w. absurd (omega (arith, w.0, before, low)))))
                (λ after. ⊎_elim
                (λ before. inr (omega (arith, before, in_stable), middle i after before))
                (λ behind. same_as i (back i behind) (kept i (omega (arith, here, long)) (λ w. full.2 i (omega (arith, behind, w.1)) (omega (arith, here, long, said.1, past)))))
                (cases_lt i e))
                (cases_lt i at),
          ),
          stays_torn_at at n (spliced at e image stable) image record {
            no_shorter = omega (arith, long);
            no_longer = omega (arith, long);
            stays = λ i here beside. ⊎_elim (λ before. front i before) (λ behind. back i (omega (arith, behind))) beside;
          },
        )

    m : ℕ
    m = min at least

    short : length image ≤ at + n → Goal
    short most =
        let within : m ≤ length image = omega (arith, said.0) in
        let in_stable : m ≤ length stable = omega (arith, full.0) in
        let long = joined_long m image stable within in_stable in (
          joined m image stable,
          (
            omega (arith, long, full.0),
            omega (arith, long, full.0, full.1),
            λ i here.
                ⊎_elim
                (λ before. ⊎_elim (λ w. inl w) (λ s. inr (s.0, sym (joined_front m i image stable within before) ∙ s.1)) (kept i (omega (arith, before, within)) (λ w. absurd (omega (arith, w.0, before)))))
                (λ after. inr (omega (arith, here, long), joined_back m i image stable within after))
                (cases_lt i m),
          ),
          stays_torn_at at n (joined m image stable) image record {
            no_shorter = omega (arith, long, full.0, said.0);
            no_longer = omega (arith, most);
            stays = λ i here beside. ⊎_elim
                (λ before. joined_front m i image stable within (omega (arith, before, here, long, full.0)))
                (λ behind. absurd (omega (arith, behind, here, long, full.0, said.0, most)))
                beside;
          },
        )

-- where nothing was written, only what is stable is allowed
is_stable : (stable image : List ℕ) → Says (length stable) (length stable) (λ i. ⊥) stable image → image ≡ stable
is_stable stable image said = same_lists image stable (omega (arith, said.0, said.1))
    (λ k d here. ⊎_elim (λ none. absurd none)
    (λ same. get_or_default image k d 0 here ∙ same.1 ∙ get_or_default stable k 0 d same.0)
    (said.2 k here))

left_step : (step : Step) (rest : Type 0) (least greatest : ℕ) (written : ℕ → Type 0) (stable reads image : List ℕ) (left : List ℕ → Type 0) → IsUncutBy step rest → (rest → Full least greatest written stable) → (rest → (old : List ℕ) → Says least greatest written stable old → left old) → Says (least_by step least reads) (greatest_by step greatest reads) (IsWrittenBy step least written) (if is_sync step then reads else stable) image → IsLeftByStep (is_sync step) step reads left image
left_step (Write at bytes) rest least greatest written stable reads image left uncut full are said =
    let was = before_write at (length bytes.items) least greatest written stable image (full uncut) said in
    (was.0, are uncut was.0 was.1, was.2)
left_step (FailedWrite at count) rest least greatest written stable reads image left uncut full are said =
    let was = before_write at count least greatest written stable image (full uncut) said in
    (was.0, are uncut was.0 was.1, was.2)
left_step (Cut to) rest least greatest written stable reads image left uncut full are said = absurd uncut
left_step (FailedCut to) rest least greatest written stable reads image left uncut full are said = absurd uncut
left_step Sync rest least greatest written stable reads image left uncut full are said = is_stable reads image said

left_where : (same : Bool) (step : Step) (rest : Type 0) (least greatest : ℕ) (written : ℕ → Type 0) (stable reads image : List ℕ) (left : List ℕ → Type 0) → IsUncutWhere same step rest → (rest → Full least greatest written stable) → (rest → (old : List ℕ) → Says least greatest written stable old → left old) → Says (if same then least_by step least reads else least) (if same then greatest_by step greatest reads else greatest) (IsWrittenWhere same step least written) (if same then (if is_sync step then reads else stable) else stable) image → IsLeftWhere same step reads left image
left_where true step rest least greatest written stable reads image left uncut full are said = left_step step rest least greatest written stable reads image left uncut full are said
left_where false step rest least greatest written stable reads image left uncut full are said = are uncut image said

left_all : (area : Area) (first : List ℕ) (changes : List Change) (image : List ℕ) → IsUncut area changes → Says (least_end area first changes) (greatest_end area first changes) (IsWritten area first changes) (synced_after area first changes) image → IsLeft area first changes image
left_all area first [] image uncut said = is_stable first image said
left_all area first (change ∷ before) image uncut said =
    left_where (is_same change.area area) change.step (IsUncut area before) (least_end area first before) (greatest_end area first before) (IsWritten area first before) (synced_after area first before) (bytes_after area first before) image (IsLeft area first before) uncut
    (λ rest. full_all area first before rest)
    (λ rest old was. left_all area first before old rest was) said

pub modelled_are_images : ModelledAreImages
modelled_are_images area first changes image uncut is = left_all area first changes image uncut (is.no_shorter, is.no_longer, is.stays)
