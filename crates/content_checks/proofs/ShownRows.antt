-- What a row's second place tells.
use Rattle.std.proofs.Common.{◌≡◌, ◌≢◌, ◌⊎◌, ℕ, ◌+◌, ◌-◌, ◌<◌, ◌≤◌, List, [], ◌∷◌, ◌++◌, length, refl, arith, ap, sym, ◌∙◌}
use Rattle.std.proofs.lemmas.List.{length-append, same_from_push}
use Rattle.tumbler.specs.Places.{IsTumbler}
use Rattle.tumbler.specs.Address.{IsMadeIn}
use Rattle.enfilade_core.specs.declared.tree.Row.{Row}
use Rattle.poom.specs.declared.piece.Piece.{Piece}
use Rattle.poom.specs.Pieces.{address_in}
use Rattle.content_checks.specs.inside.Steps.{Shows}
use Rattle.content_checks.proofs.DocumentBytes.{three}

-- ---- too few places

pub no_places : (part : ℕ) (row : Row ℕ) (piece : Piece) → length row.second ≡ 0 → Shows part row piece → ⊥
no_places part row piece none shows =
    let is = ap length shows.place in
    let long = length-append piece.document (0 ∷ part ∷ piece.first ∷ []) in
    omega arith

pub one_place : (part : ℕ) (row : Row ℕ) (piece : Piece) (front : List ℕ) (first : ℕ) → row.second ≡ front ++ first ∷ [] → length front ≡ 0 → Shows part row piece → ⊥
one_place part row piece front first parts none shows =
    let is = ap length shows.place in
    let long = length-append piece.document (0 ∷ part ∷ piece.first ∷ []) in
    let read = ap length parts in
    let short = length-append front (first ∷ []) in
    omega arith

-- ---- the last two places

pub record LastTwo (second : List ℕ) (at first : ℕ) : Type 0 where
  pub more : List ℕ
  pub are : second ≡ (more ++ at ∷ []) ++ first ∷ []

pub last_two : (second front more : List ℕ) (at first : ℕ) → second ≡ front ++ first ∷ [] → front ≡ more ++ at ∷ [] → LastTwo second at first
last_two second front more at first parts others = record { more = more; are = parts ∙ ap (λ (f : List ℕ). f ++ first ∷ []) others }

pub record SameTwo (part n at first : ℕ) : Type 0 where
  pub part_is : part ≡ at
  pub number_is : n ≡ first

pub same_two : (part n at first : ℕ) (document second : List ℕ) → LastTwo second at first → second ≡ address_in part document n → SameTwo part n at first
same_two part n at first document second two is =
    let outer = same_from_push ((document ++ 0 ∷ []) ++ part ∷ []) (two.more ++ at ∷ []) n first (sym (three part n document) ∙ (sym is ∙ two.are)) in
    let inner = same_from_push (document ++ 0 ∷ []) two.more part at outer.0 in
    record { part_is = inner.1; number_is = outer.1 }

pub other_part : (part at first : ℕ) (row : Row ℕ) (piece : Piece) → LastTwo row.second at first → at ≢ part → Shows part row piece → ⊥
other_part part at first row piece two other shows = other (sym (same_two part piece.first at first piece.document row.second two shows.place).part_is)

-- ---- the piece

pub made_in : (part : ℕ) (row : Row ℕ) (piece : Piece) → (part ≡ 1) ⊎ (part ≡ 2) → Shows part row piece → IsMadeIn row.second piece.document
made_in part row piece is shows = record {
  part = part;
  number = piece.first;
  parts = shows.place;
  byte_or_link = is;
  counted = let one = shows.right.from_one in omega arith;
  document_address = shows.right.document;
}

pub none_shown : (part : ℕ) (row : Row ℕ) (piece : Piece) → row.leaf ≡ 0 → Shows part row piece → ⊥
none_shown part row piece none shows = let filled = shows.right.filled in let leaf = shows.leaf in omega arith

pub too_far : (part at first : ℕ) (row : Row ℕ) (piece : Piece) → LastTwo row.second at first → 4294967295 - first < row.leaf → Shows part row piece → ⊥
too_far part at first row piece two over shows =
    let fits : piece.first + piece.count < 4294967296 = shows.right.fits in
    let leaf = shows.leaf in
    let same = (same_two part piece.first at first piece.document row.second two shows.place).number_is in
    omega arith

pub shown_right : (part at first : ℕ) (row : Row ℕ) (document : List ℕ) → LastTwo row.second at first → at ≡ part → IsMadeIn row.second document → IsTumbler document → row.leaf ≢ 0 → row.leaf ≤ 4294967295 - first
    → Shows part row (record { document = document; first = first; count = row.leaf })
shown_right part at first row document two here made tumbler some fits =
    let same = same_two made.part made.number at first document row.second two made.parts in
    let part_is : made.part ≡ part = same.part_is ∙ here in
    let number : made.number ≡ first = same.number_is in
    let counted_from = made.counted in
    record {
      place = made.parts ∙ (ap (λ (p : ℕ). address_in p document made.number) part_is ∙ ap (address_in part document) number);
      leaf = refl;
      right = record {
        document = made.document_address;
        is_tumbler = tumbler;
        from_one = omega arith;
        filled = omega arith;
        fits = omega arith;
      };
    }
