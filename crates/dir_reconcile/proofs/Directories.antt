-- The join of two directories is a directory.
use Rattle.std.proofs.Common.{◌≡◌, ℕ, suc, ◌^◌, ◌%◌, ◌==◌, ◌<◌, true, List, [], ◌∷◌, length, refl, sym, ap, ◌∙◌, subst, arith}
use Rattle.std.specs.List.{AllByRecursion}
use Rattle.std.specs.Ordering.{nat_cmp}
use Rattle.std.specs.declared.cmp.Ordering.{Ordering}
use Rattle.std.specs.declared.cmp.Ordering.TheVariants.{Less, Equal, Greater}
use Rattle.std.proofs.lemmas.Map.Lookups.{exact_unsigned}
use Rattle.dir_format.specs.of_version_vector.Counters.{joined}
use Rattle.dir_format.specs.declared.entry.Entry.{Entry}
use Rattle.dir_format.specs.Entries.{entry_cmp, is_live, nothing_seen, IsVector, IsEntry, IsDir, Ascends, OneKind, HasKindOf}
use Rattle.dir_format.proofs.Tests.{all_weaker}
use Rattle.dir_format.proofs.Orders.{entry_total}
use Rattle.dir_reconcile.specs.Joins.{joined_by, joined_entry, joined_dirs, AgreeOnKinds}
use Rattle.dir_reconcile.proofs.Steps.{joined_so}
use Rattle.dir_reconcile.proofs.JoinLaws.{back}

-- what holds of the entries of both, and of two joined where it holds of each, holds of all
module _ (P : Entry → Type 0) (of_two : (x y : Entry) → P x → P y → P (joined_entry x y)) where
  all_so : (x y : Entry) (xs ys : List Entry) (o : Ordering) → P x → P y → AllByRecursion P ys → (others : (zs : List Entry) → AllByRecursion P zs → AllByRecursion P (joined_dirs xs zs)) → AllByRecursion P (joined_dirs (x ∷ xs) ys)
      → AllByRecursion P (joined_so x y xs ys o)
  all_so x y xs ys Less px py h others rest = (px, others (y ∷ ys) (py, h))
  all_so x y xs ys Equal px py h others rest = (of_two x y px py, others ys h)
  all_so x y xs ys Greater px py h others rest = (py, rest)

  all_from : (x : Entry) (xs ys : List Entry) → P x → AllByRecursion P ys → (others : (zs : List Entry) → AllByRecursion P zs → AllByRecursion P (joined_dirs xs zs)) → AllByRecursion P (joined_dirs (x ∷ xs) ys)
  all_from x xs [] px h others = (px, others [] tt)
  all_from x xs (y ∷ ys) px h others = all_so x y xs ys (entry_cmp x y) px h.0 h.1 others (all_from x xs ys px h.1 others)

  pub all_joined : (xs ys : List Entry) → AllByRecursion P xs → AllByRecursion P ys → AllByRecursion P (joined_dirs xs ys)
  all_joined [] ys h k = k
  all_joined (x ∷ xs) ys h k = all_from x xs ys h.0 k (λ zs l. all_joined xs zs h.1 l)

-- vectors
length-joined : (v w : List ℕ) → length v ≡ length w → length (joined v w) ≡ length v
length-joined [] w e = sym e
length-joined (a ∷ v) [] e = refl
length-joined (a ∷ v) (b ∷ w) e = ap suc (length-joined v w (omega (arith, e)))

counters-joined : (v w : List ℕ) → AllByRecursion (λ (n : ℕ). n < 2 ^ 32) v → AllByRecursion (λ (n : ℕ). n < 2 ^ 32) w → AllByRecursion (λ (n : ℕ). n < 2 ^ 32) (joined v w)
counters-joined [] w h k = k
counters-joined (a ∷ v) [] h k = h
counters-joined (a ∷ v) (b ∷ w) h k = (omega (arith, h.0, k.0), counters-joined v w h.1 k.1)

vector-joined : (v w : List ℕ) → IsVector v → IsVector w → IsVector (joined v w)
vector-joined v w h k = record { sites = length-joined v w (h.sites ∙ sym k.sites) ∙ h.sites; counters = counters-joined v w h.counters k.counters }

live_too : (x y : Entry) → nat_cmp x.count y.count ≡ Equal → is_live x ≡ true → is_live y ≡ true
live_too x y e h = subst (λ (n : ℕ). ((n % 2) == 1) ≡ true) (exact_unsigned x.count y.count e) h

nothing_by_both : (v w : List ℕ) → v ≡ nothing_seen → w ≡ nothing_seen → joined v w ≡ nothing_seen
nothing_by_both v w e f = rw (e, f) refl

fits_by : (x y : Entry) (o : Ordering) → nat_cmp x.count y.count ≡ o → IsEntry x → IsEntry y → IsEntry (joined_by o x y)
fits_by x y Less e h k = k
fits_by x y Equal e h k = record {
  name = h.name;
  ino = h.ino;
  count = h.count;
  seen = vector-joined x.seen y.seen h.seen k.seen;
  live = λ l. nothing_by_both x.seen y.seen (h.live l) (k.live (live_too x y e l));
}
fits_by x y Greater e h k = h

after_by : (z x y : Entry) (o : Ordering) → entry_cmp z x ≡ Less → entry_cmp z y ≡ Less → entry_cmp z (joined_by o x y) ≡ Less
after_by z x y Less h k = k
after_by z x y Equal h k = h
after_by z x y Greater h k = h

kind_by : (z x y : Entry) (o : Ordering) → (x.ino ≡ z.ino → x.kind ≡ z.kind) → (y.ino ≡ z.ino → y.kind ≡ z.kind) → (joined_by o x y).ino ≡ z.ino → (joined_by o x y).kind ≡ z.kind
kind_by z x y Less h k = k
kind_by z x y Equal h k = h
kind_by z x y Greater h k = h

all_after : (z : Entry) (xs ys : List Entry) → AllByRecursion (λ e. entry_cmp z e ≡ Less) xs → AllByRecursion (λ e. entry_cmp z e ≡ Less) ys → AllByRecursion (λ e. entry_cmp z e ≡ Less) (joined_dirs xs ys)
all_after z = all_joined (λ e. entry_cmp z e ≡ Less) (λ x y h k. after_by z x y (nat_cmp x.count y.count) h k)

-- order
less_all : (a b : Entry) (es : List Entry) → entry_cmp a b ≡ Less → AllByRecursion (λ e. entry_cmp b e ≡ Less) es → AllByRecursion (λ e. entry_cmp a e ≡ Less) es
less_all a b es lt h = all_weaker (λ e k. entry_total.trans a b e lt k) es h

same_all : (a b : Entry) (es : List Entry) → entry_cmp a b ≡ Equal → AllByRecursion (λ e. entry_cmp b e ≡ Less) es → AllByRecursion (λ e. entry_cmp a e ≡ Less) es
same_all a b es same h = all_weaker (λ e k. entry_total.congr a b e same ∙ k) es h

joined_before : (x y : Entry) (es : List Entry) (o : Ordering) → entry_cmp x y ≡ Equal → AllByRecursion (λ e. entry_cmp x e ≡ Less) es → AllByRecursion (λ e. entry_cmp (joined_by o x y) e ≡ Less) es
joined_before x y es Less same h = same_all y x es (back x y Equal same) h
joined_before x y es Equal same h = h
joined_before x y es Greater same h = h

ascends_so : (x y : Entry) (xs ys : List Entry) (o : Ordering) → entry_cmp x y ≡ o → Ascends (x ∷ xs) → Ascends (y ∷ ys) → ((zs : List Entry) → Ascends zs → Ascends (joined_dirs xs zs)) → Ascends (joined_dirs (x ∷ xs) ys)
    → Ascends (joined_so x y xs ys o)
ascends_so x y xs ys Less e h k others rest = (all_after x xs (y ∷ ys) h.0 (e, less_all x y ys e k.0), others (y ∷ ys) k)
ascends_so x y xs ys Equal e h k others rest = (joined_before x y (joined_dirs xs ys) (nat_cmp x.count y.count) e (all_after x xs ys h.0 (same_all x y ys e k.0)), others ys k.1)
ascends_so x y xs ys Greater e h k others rest = (all_after y (x ∷ xs) ys (back x y Greater e, less_all y x xs (back x y Greater e) h.0) k.0, rest)

ascends_from : (x : Entry) (xs ys : List Entry) → Ascends (x ∷ xs) → Ascends ys → ((zs : List Entry) → Ascends zs → Ascends (joined_dirs xs zs)) → Ascends (joined_dirs (x ∷ xs) ys)
ascends_from x xs [] h k others = (all_after x xs [] h.0 tt, others [] tt)
ascends_from x xs (y ∷ ys) h k others = ascends_so x y xs ys (entry_cmp x y) refl h k others (ascends_from x xs ys h k.1 others)

ascends_joined : (xs ys : List Entry) → Ascends xs → Ascends ys → Ascends (joined_dirs xs ys)
ascends_joined [] ys h k = k
ascends_joined (x ∷ xs) ys h k = ascends_from x xs ys h k (λ zs l. ascends_joined xs zs h.1 l)

-- kinds
kinds_all : (z : Entry) (xs ys : List Entry) → HasKindOf z xs → HasKindOf z ys → HasKindOf z (joined_dirs xs ys)
kinds_all z = all_joined (λ e. e.ino ≡ z.ino → e.kind ≡ z.kind) (λ x y h k. kind_by z x y (nat_cmp x.count y.count) h k)

agree_after : (xs ys : List Entry) (y : Entry) → AgreeOnKinds xs (y ∷ ys) → AgreeOnKinds xs ys
agree_after [] ys y h = tt
agree_after (x ∷ xs) ys y h = (h.0.1, agree_after xs ys y h.1)

agree_with : (xs ys : List Entry) (y : Entry) → AgreeOnKinds xs (y ∷ ys) → HasKindOf y xs
agree_with [] ys y h = tt
agree_with (x ∷ xs) ys y h = ((λ same. sym (h.0.0 (sym same))), agree_with xs ys y h.1)

joined_kind : (x y : Entry) (es : List Entry) (o : Ordering) → HasKindOf x es → HasKindOf y es → HasKindOf (joined_by o x y) es
joined_kind x y es Less h k = k
joined_kind x y es Equal h k = h
joined_kind x y es Greater h k = h

kinds_so : (x y : Entry) (xs ys : List Entry) (o : Ordering) → OneKind (x ∷ xs) → OneKind (y ∷ ys) → AgreeOnKinds (x ∷ xs) (y ∷ ys) → ((zs : List Entry) → OneKind zs → AgreeOnKinds xs zs → OneKind (joined_dirs xs zs))
    → OneKind (joined_dirs (x ∷ xs) ys) → OneKind (joined_so x y xs ys o)
kinds_so x y xs ys Less h k a others rest = (kinds_all x xs (y ∷ ys) h.0 a.0, others (y ∷ ys) k a.1)
kinds_so x y xs ys Equal h k a others rest =
    (joined_kind x y (joined_dirs xs ys) (nat_cmp x.count y.count) (kinds_all x xs ys h.0 a.0.1) (kinds_all y xs ys (agree_with xs ys y a.1) k.0), others ys k.1 (agree_after xs ys y a.1))
kinds_so x y xs ys Greater h k a others rest = (kinds_all y (x ∷ xs) ys (agree_with (x ∷ xs) ys y a) k.0, rest)

kinds_from : (x : Entry) (xs ys : List Entry) → OneKind (x ∷ xs) → OneKind ys → AgreeOnKinds (x ∷ xs) ys → ((zs : List Entry) → OneKind zs → AgreeOnKinds xs zs → OneKind (joined_dirs xs zs)) → OneKind (joined_dirs (x ∷ xs) ys)
kinds_from x xs [] h k a others = (kinds_all x xs [] h.0 tt, others [] tt a.1)
kinds_from x xs (y ∷ ys) h k a others = kinds_so x y xs ys (entry_cmp x y) h k a others (kinds_from x xs ys h k.1 (agree_after (x ∷ xs) ys y a) others)

kinds_joined : (xs ys : List Entry) → OneKind xs → OneKind ys → AgreeOnKinds xs ys → OneKind (joined_dirs xs ys)
kinds_joined [] ys h k a = k
kinds_joined (x ∷ xs) ys h k a = kinds_from x xs ys h k a (λ zs l b. kinds_joined xs zs h.1 l b)

pub dir_joined : (xs ys : List Entry) → IsDir xs → IsDir ys → AgreeOnKinds xs ys → IsDir (joined_dirs xs ys)
dir_joined xs ys h k a = record {
  entries = all_joined IsEntry (λ x y f g. fits_by x y (nat_cmp x.count y.count) refl f g) xs ys h.entries k.entries;
  order = ascends_joined xs ys h.order k.order;
  kinds = kinds_joined xs ys h.kinds k.kinds a;
}
