-- The addresses of content bytes: which document they are in, and what stands between them.
use Rattle.std.proofs.Common.{◌≡◌, ◌≢◌, ℕ, zero, suc, ◌+◌, ◌<◌, List, [], ◌∷◌, ◌++◌, length, refl, arith, ap, ◌∙◌, sym, subst, inl, inr, append_assoc}
use Rattle.tumbler.specs.Address.{IsDocument}
use Rattle.tumbler.specs.Places.{IsBefore, IsUpTo, sum}
use Rattle.tumbler.proofs.Addresses.{one_cut}
use Rattle.tumbler.proofs.Order.{before_cases, upto_cases}
use Rattle.tumbler.proofs.Before.{never_before_none}
use Rattle.tumbler.proofs.DocumentFields.{fields}
use Rattle.tumbler.proofs.Widths.{width_at-none}
use Rattle.granfilade.specs.Content.{so_far_on}
use Rattle.granfilade.specs.Steps.{last_of}
use Rattle.granfilade.specs.Puts.{IsByteOf, IsBelow}

-- ---- steps on the last place

pub step-none : (a : List ℕ) → so_far_on a 0 ≡ a
step-none a = ap (sum a) (width_at-none (length a))

pub not_nil : (front : List ℕ) (l : ℕ) → front ++ l ∷ [] ≢ []
not_nil [] l e = cc
not_nil (x ∷ front) l e = cc

step-cons : (x : ℕ) (xs : List ℕ) (k : ℕ) → xs ≢ [] → so_far_on (x ∷ xs) (suc k) ≡ x ∷ so_far_on xs (suc k)
step-cons x [] k some = absurd (some refl)
step-cons x (y ∷ xs) k some = refl

pub step-last : (front : List ℕ) (l k : ℕ) → so_far_on (front ++ l ∷ []) k ≡ front ++ (l + k) ∷ []
step-last front l zero = let e : l ≡ l + 0 = omega arith in step-none (front ++ l ∷ []) ∙ ap (λ n. front ++ n ∷ []) e
step-last [] l (suc k) = refl
step-last (x ∷ front) l (suc k) = step-cons x (front ++ l ∷ []) k (not_nil front l) ∙ ap (λ xs. x ∷ xs) (step-last front l (suc k))

pub last_of-last : (front : List ℕ) (l : ℕ) → last_of (front ++ l ∷ []) ≡ l
last_of-last [] l = refl
last_of-last (x ∷ []) l = refl
last_of-last (x ∷ y ∷ front) l = last_of-last (y ∷ front) l

-- ---- between two places that begin alike

pub record BeginsSo (front places : List ℕ) : Type 0 where
  pub rest : List ℕ
  pub is : places ≡ front ++ rest

pub between : (front a b s : List ℕ) → IsUpTo (front ++ a) s → IsUpTo s (front ++ b) → BeginsSo front s
between [] a b s le ge = record { rest = s; is = refl }
between (x ∷ front) a b [] le ge = absurd (le refl)
between (x ∷ front) a b (y ∷ s) le ge = elim (upto_cases x y (front ++ a) s le) [
  | inl lt ↦ elim (upto_cases y x s (front ++ b) ge) [
    | inl gt ↦ absurd (omega (arith, lt, gt))
    | inr same ↦ absurd (omega (arith, lt, same.0))
  ]
  | inr one ↦ elim (upto_cases y x s (front ++ b) ge) [
    | inl gt ↦ absurd (omega (arith, gt, one.0))
    | inr two ↦ let more = between front a b s one.1 two.1 in record { rest = more.rest; is = ap (λ z. z ∷ s) (sym one.0) ∙ ap (λ zs. x ∷ zs) more.is }
  ]
]

pub less_if_before : (front : List ℕ) (m n : ℕ) → IsBefore (front ++ m ∷ []) (front ++ n ∷ []) → m < n
less_if_before [] m n h = elim (before_cases m n [] [] h) [
  | inl lt ↦ lt
  | inr same ↦ absurd (never_before_none [] same.1)
]
less_if_before (x ∷ front) m n h = elim (before_cases x x (front ++ m ∷ []) (front ++ n ∷ []) h) [
  | inl lt ↦ absurd (omega (arith, lt))
  | inr same ↦ less_if_before front m n same.1
]

-- ---- a content byte's document

one_document : (document other rest : List ℕ) (n : ℕ) → IsDocument document → IsDocument other → document ++ 0 ∷ 1 ∷ n ∷ [] ≡ other ++ 0 ∷ 1 ∷ rest → document ≡ other
one_document document other rest n h g e =
    let f = fields document h in
    let k = fields other g in
    let nodes = one_cut f.node k.node (f.user ++ (0 ∷ (f.field ++ (0 ∷ 1 ∷ n ∷ [])))) (k.user ++ (0 ∷ (k.field ++ (0 ∷ 1 ∷ rest)))) f.node_full k.node_full (sym (f.with_tail (0 ∷ 1 ∷ n ∷ [])) ∙ e ∙ k.with_tail (0 ∷ 1 ∷ rest)) in
    let users = one_cut f.user k.user (f.field ++ (0 ∷ 1 ∷ n ∷ [])) (k.field ++ (0 ∷ 1 ∷ rest)) f.user_full k.user_full nodes.1 in
    let last = one_cut f.field k.field (1 ∷ n ∷ []) (1 ∷ rest) f.field_full k.field_full users.1 in
    f.whole ∙ ap (λ p. p ++ (0 ∷ (f.user ++ (0 ∷ f.field)))) nodes.0 ∙ ap (λ p. k.node ++ (0 ∷ (p ++ (0 ∷ f.field)))) users.0 ∙ ap (λ p. k.node ++ (0 ∷ (k.user ++ (0 ∷ p)))) last.0 ∙ sym k.whole

-- ---- content bytes in a row

-- what all content bytes of a document begin with
abbrev pub part_of : List ℕ → List ℕ
part_of document = document ++ 0 ∷ 1 ∷ []

pub address-last : (x document : List ℕ) (b : IsByteOf x document) → x ≡ part_of document ++ b.number ∷ []
address-last x document b = b.parts ∙ sym (append_assoc document (0 ∷ 1 ∷ []) (b.number ∷ []))

pub step-in : (x document : List ℕ) (b : IsByteOf x document) (k : ℕ) → so_far_on x k ≡ part_of document ++ (b.number + k) ∷ []
step-in x document b k = ap (λ a. so_far_on a k) (address-last x document b) ∙ step-last (part_of document) b.number k

pub step-byte : (x document : List ℕ) (b : IsByteOf x document) (k : ℕ) → IsByteOf (so_far_on x k) document
step-byte x document b k = record {
  number = b.number + k;
  parts = step-in x document b k ∙ append_assoc document (0 ∷ 1 ∷ []) ((b.number + k) ∷ []);
  counted = omega (arith, b.counted);
  document_address = b.document_address;
}

pub step-twice : (x document : List ℕ) (b : IsByteOf x document) (j k : ℕ) → so_far_on (so_far_on x j) k ≡ so_far_on x (j + k)
unfolding step-byte
step-twice x document b j k =
    let e : b.number + j + k ≡ b.number + (j + k) = omega arith in
    step-in (so_far_on x j) document (step-byte x document b j) k ∙ ap (λ n. part_of document ++ n ∷ []) e ∙ sym (step-in x document b (j + k))

pub last-number : (x document : List ℕ) (b : IsByteOf x document) → last_of x ≡ b.number
last-number x document b = ap last_of (address-last x document b) ∙ last_of-last (part_of document) b.number

pub last-step : (x document : List ℕ) (b : IsByteOf x document) (k : ℕ) → last_of (so_far_on x k) ≡ last_of x + k
last-step x document b k = ap last_of (step-in x document b k) ∙ last_of-last (part_of document) (b.number + k) ∙ ap (λ n. n + k) (sym (last-number x document b))

pub below-byte : (x document : List ℕ) → IsByteOf x document → IsBelow x document
below-byte x document b = record { rest = b.number ∷ []; parts = b.parts }

-- what stands between a content byte and one behind it begins as they do
pub below-between : (x document s : List ℕ) (b : IsByteOf x document) (k : ℕ) → IsUpTo x s → IsUpTo s (so_far_on x k) → IsBelow s document
below-between x document s b k le ge =
    let so = between (part_of document) (b.number ∷ []) ((b.number + k) ∷ []) s (subst (λ a. IsUpTo a s) (address-last x document b) le) (subst (IsUpTo s) (step-in x document b k) ge) in
    record { rest = so.rest; parts = so.is ∙ append_assoc document (0 ∷ 1 ∷ []) so.rest }

-- a content byte between two of one document is of that document
pub document-between : (x other s document : List ℕ) (b : IsByteOf x other) → IsByteOf s document → (k : ℕ) → IsUpTo x s → IsUpTo s (so_far_on x k) → document ≡ other
document-between x other s document b c k le ge =
    let so = below-between x other s b k le ge in
    one_document document other so.rest c.number c.document_address b.document_address (sym c.parts ∙ so.parts)
