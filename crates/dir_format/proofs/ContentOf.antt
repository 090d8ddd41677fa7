-- The entries of a content, computed, are those that are read.
use Rattle.std.proofs.Common.{◌≡◌, ℕ, zero, suc, ◌+◌, ◌^◌, ◌<◌, ◌≤◌, ◌==◌, leb, Bool, true, false, not, ◌&&◌, ◌||◌, cond, List, [], ◌∷◌, ◌++◌, length, take, drop, get_or, refl, sym, ap, ◌∙◌, append_assoc, Err, arith, ◌*◌}
use Rattle.std.proofs.lemmas.Bool.{false≢true}
use Rattle.std.proofs.lemmas.Bool.Decides.{nat_tests}
use Rattle.std.proofs.lemmas.List.{take_at, drop_at, drop-drop, get_or-drop}
use Rattle.std.proofs.lemmas.Nat.{from_be_bytes-to_be_bytes_2, from_be_bytes-to_be_bytes_4}
use Rattle.std.proofs.lemmas.Slice.Eq.{bytes_eq-Decides}
use Rattle.std.specs.Int.{to_be_bytes, from_be_bytes, w16, w32}
use Rattle.std.specs.List.{list_all, AllByRecursion}
use Rattle.std.specs.Ordering.{is_lt}
use Rattle.std.specs.Str.{bytes_eq}
use Rattle.std.specs.declared.cmp.Ordering.{Ordering}
use Rattle.std.specs.declared.cmp.Ordering.TheVariants.{Less, Equal, Greater}
use Rattle.field_codec.specs.of_locus_ids.Sizes.{sites_max, inodes_max}
use Rattle.field_codec.specs.of_locus_ids.declared.ids.Kind.{Kind}
use Rattle.field_codec.specs.of_locus_ids.declared.ids.Kind.TheVariants.{File, Dir}
use Rattle.field_codec.specs.declared.faults.FieldFault.{FieldFault}
use Rattle.dir_format.specs.declared.entry.Entry.{Entry}
use Rattle.dir_format.specs.Entries.{is_live, nothing_seen, max_count, entry_cmp, IsVector, IsEntry, IsDir, Ascends, OneKind}
use Rattle.dir_format.specs.Grammar.{kind_byte, kind_of, vector_bytes, seen_bytes, dir_bytes, IsDirectory, read_dir}
use Rattle.dir_format.specs.Contents.{counters, seen_at, count_at, is_odd, entry_at, width_at, entries_from, is_entry, ascends, has_one_kind, is_dir, entries_where, entries_of}
use Rattle.dir_format.proofs.Tests.{both, both_back, or_other, in_range, in_range_back, all_tell, all_told}
use Rattle.dir_format.proofs.Following.{kinds_tell, kinds_told}
use Rattle.dir_format.proofs.Filtering.{seen_long}
use Rattle.dir_format.proofs.Whole.{no_fault, some_bytes}

-- the tests tell

vector_tells : (v : List ℕ) → ((length v == sites_max) && list_all (λ n. leb n max_count) v) ≡ true → IsVector v
vector_tells v h =
    let two = both (length v == sites_max) (list_all (λ n. leb n max_count) v) h in
    let sites : length v ≡ sites_max = grind (arith, nat_tests, two.0) in
    record { sites = sites; counters = all_tell (λ (n : ℕ). leb n max_count) (λ (n : ℕ). n < 2 ^ 32) small v two.1 } where
      small : (n : ℕ) → leb n max_count ≡ true → n < 2 ^ 32
      small n k = grind (arith, nat_tests)

vector_told : (v : List ℕ) → IsVector v → ((length v == sites_max) && list_all (λ n. leb n max_count) v) ≡ true
vector_told v h =
    let sites : (length v == sites_max) ≡ true = sixteen (length v) h.sites in
    both_back (length v == sites_max) (list_all (λ n. leb n max_count) v) sites (all_told (λ (n : ℕ). leb n max_count) (λ (n : ℕ). n < 2 ^ 32) small v h.counters) where
      small : (n : ℕ) → n < 2 ^ 32 → leb n max_count ≡ true
      small n k = grind (arith, nat_tests)

      sixteen : (n : ℕ) → n ≡ sites_max → (n == sites_max) ≡ true
      sixteen n k = grind (arith, nat_tests)

entry_tells : (d : Entry) → is_entry d ≡ true → IsEntry d
entry_tells d h =
    let a = both _ _ h in
    let b = both _ _ a.1 in
    let c = both _ _ b.1 in
    let e = both ((length d.seen == sites_max) && list_all (λ n. leb n max_count) d.seen) (not (is_live d) || bytes_eq d.seen nothing_seen) c.1 in
    let count = in_range 1 max_count d.count c.0 in
    record {
      name = a.0;
      ino = in_range 1 inodes_max d.ino b.0;
      count = (count.0, omega (arith, count.1));
      seen = vector_tells d.seen e.0;
      live = λ l. (bytes_eq-Decides d.seen nothing_seen).0 (or_other (is_live d) (bytes_eq d.seen nothing_seen) e.1 l);
    }

live_told : (b : Bool) (seen : List ℕ) → (b ≡ true → seen ≡ nothing_seen) → (not b || bytes_eq seen nothing_seen) ≡ true
live_told true seen h = (bytes_eq-Decides seen nothing_seen).1 (h refl)
live_told false seen h = refl

entry_told : (d : Entry) → IsEntry d → is_entry d ≡ true
entry_told d h =
    both_back _ _ h.name
    (both_back _ _ (in_range_back 1 inodes_max d.ino h.ino.0 h.ino.1)
    (both_back _ _ (in_range_back 1 max_count d.count h.count.0 (omega (arith, h.count.1)))
    (both_back _ _ (vector_told d.seen h.seen) (live_told (is_live d) d.seen h.live))))

less_tells : (o : Ordering) → is_lt o ≡ true → o ≡ Less
less_tells Less h = refl
less_tells Equal h = absurd (false≢true h)
less_tells Greater h = absurd (false≢true h)

ascends_tells : (ds : List Entry) → ascends ds ≡ true → Ascends ds
ascends_tells [] h = tt
ascends_tells (d ∷ ds) h =
    let two = both (list_all (λ e. is_lt (entry_cmp d e)) ds) (ascends ds) h in
    (all_tell (λ e. is_lt (entry_cmp d e)) (λ e. entry_cmp d e ≡ Less) (λ e. less_tells (entry_cmp d e)) ds two.0, ascends_tells ds two.1)

ascends_told : (ds : List Entry) → Ascends ds → ascends ds ≡ true
ascends_told [] h = refl
ascends_told (d ∷ ds) h =
    both_back (list_all (λ e. is_lt (entry_cmp d e)) ds) (ascends ds) (all_told (λ e. is_lt (entry_cmp d e)) (λ e. entry_cmp d e ≡ Less) (λ e k. ap is_lt k) ds h.0) (ascends_told ds h.1)

one_kind_tells : (ds : List Entry) → has_one_kind ds ≡ true → OneKind ds
one_kind_tells [] h = tt
one_kind_tells (d ∷ ds) h =
    let two = both (list_all (λ e. not (e.ino == d.ino) || (kind_byte e.kind == kind_byte d.kind)) ds) (has_one_kind ds) h in
    (kinds_tell d.ino d.kind ds two.0, one_kind_tells ds two.1)

one_kind_told : (ds : List Entry) → OneKind ds → has_one_kind ds ≡ true
one_kind_told [] h = refl
one_kind_told (d ∷ ds) h =
    both_back (list_all (λ e. not (e.ino == d.ino) || (kind_byte e.kind == kind_byte d.kind)) ds) (has_one_kind ds) (kinds_told d.ino d.kind ds h.0) (one_kind_told ds h.1)

pub dir_tells : (ds : List Entry) → is_dir ds ≡ true → IsDir ds
dir_tells ds h =
    let a = both (list_all is_entry ds) (ascends ds && has_one_kind ds) h in
    let b = both (ascends ds) (has_one_kind ds) a.1 in
    record { entries = all_tell is_entry IsEntry entry_tells ds a.0; order = ascends_tells ds b.0; kinds = one_kind_tells ds b.1 }

dir_told : (ds : List Entry) → IsDir ds → is_dir ds ≡ true
dir_told ds h =
    both_back (list_all is_entry ds) (ascends ds && has_one_kind ds) (all_told is_entry IsEntry entry_told ds h.entries)
    (both_back (ascends ds) (has_one_kind ds) (ascends_told ds h.order) (one_kind_told ds h.kinds))

-- the entries of any bytes, where they spell some

counters-back : (v rest : List ℕ) → AllByRecursion (λ (n : ℕ). n < 2 ^ 32) v → counters (length v) (vector_bytes v ++ rest) ≡ v
counters-back [] rest h = refl
counters-back (n ∷ v) rest h = rw (from_be_bytes-to_be_bytes_4 n h.0) (ap (λ (l : List ℕ). n ∷ l) (counters-back v rest h.1))

kind-back : (k : Kind) → kind_of (kind_byte k) ≡ k
kind-back File = refl
kind-back Dir = refl

seen_back : (b : Bool) (seen rest : List ℕ) → IsVector seen → (b ≡ true → seen ≡ nothing_seen) → seen_at b (seen_bytes b seen ++ rest) ≡ seen
seen_back true seen rest h live = sym (live refl)
seen_back false seen rest h live = ap (λ (n : ℕ). counters n (vector_bytes seen ++ rest)) (sym h.sites) ∙ counters-back seen rest h.counters

seen_past : (b : Bool) (seen rest : List ℕ) → IsVector seen → drop (cond b 0 (4 * sites_max)) (seen_bytes b seen ++ rest) ≡ rest
seen_past true seen rest h = refl
seen_past false seen rest h = drop_at (vector_bytes seen) rest (4 * sites_max) (omega (arith, seen_long seen, h.sites))

module _ (d : Entry) (rest : List ℕ) (h : IsEntry d) where
  abbrev text : List ℕ
  text = to_be_bytes w16 d.ino ++ (kind_byte d.kind ∷ [] ++ (to_be_bytes w32 d.count ++ seen_bytes (is_live d) d.seen))

  abbrev all : List ℕ
  all = d.name ++ (text ++ rest)

  dropped : drop (length d.name) all ≡ text ++ rest
  dropped = drop_at d.name (text ++ rest) (length d.name) refl

  dropped_more : (m : ℕ) → drop (length d.name + m) all ≡ drop m (text ++ rest)
  dropped_more m = sym (drop-drop m (length d.name) all) ∙ ap (λ (l : List ℕ). drop m l) dropped

  ino_is : from_be_bytes w16 (take 2 (drop (length d.name) all)) ≡ d.ino
  ino_is = ap (λ (l : List ℕ). from_be_bytes w16 (take 2 l)) dropped ∙ from_be_bytes-to_be_bytes_2 d.ino (omega (arith, h.ino.1))

  kind_is : kind_of (get_or all (length d.name + 2) 0) ≡ d.kind
  kind_is = ap kind_of (sym (get_or-drop (length d.name) all 2 0) ∙ ap (λ (l : List ℕ). get_or l 2 0) dropped) ∙ kind-back d.kind

  count_is : count_at (length d.name) all ≡ d.count
  count_is = ap (λ (l : List ℕ). from_be_bytes w32 (take 4 l)) (dropped_more 3) ∙ from_be_bytes-to_be_bytes_4 d.count h.count.1

  seen_is : seen_at (is_odd (count_at (length d.name) all)) (drop (length d.name + 7) all) ≡ d.seen
  seen_is =
      ap (λ (n : ℕ). seen_at (is_odd n) (drop (length d.name + 7) all)) count_is ∙ ap (λ (l : List ℕ). seen_at (is_live d) l) (dropped_more 7)
      ∙ seen_back (is_live d) d.seen rest h.seen h.live

  made : (name : List ℕ) (ino : ℕ) (kind : Kind) (count : ℕ) (seen : List ℕ) → name ≡ d.name → ino ≡ d.ino → kind ≡ d.kind → count ≡ d.count → seen ≡ d.seen
      → (let e : Entry = record { name = name; ino = ino; kind = kind; count = count; seen = seen } in e) ≡ d
  made name ino kind count seen a b c e f = rw (a, b, c, e, f) refl

  entry_is : entry_at (length d.name) all ≡ d
  entry_is = made _ _ _ _ _ (take_at d.name (text ++ rest) (length d.name) refl) ino_is kind_is count_is seen_is

  past_is : drop (width_at (length d.name) all) all ≡ rest
  past_is =
      ap (λ (n : ℕ). drop (length d.name + (7 + cond (is_odd n) 0 (4 * sites_max))) all) count_is
      ∙ dropped_more (7 + cond (is_live d) 0 (4 * sites_max))
      ∙ sym (drop-drop (cond (is_live d) 0 (4 * sites_max)) 7 (text ++ rest))
      ∙ seen_past (is_live d) d.seen rest h.seen

entries_back : (ds : List Entry) (most : ℕ) → AllByRecursion IsEntry ds → length (dir_bytes ds) ≤ most → entries_from most (dir_bytes ds) ≡ ds
entries_back [] zero h long = refl
entries_back [] (suc most) h long = refl
entries_back (d ∷ ds) zero h long = absurd (omega (arith, some_bytes d (dir_bytes ds), long))
entries_back (d ∷ ds) (suc most) h long =
    ap (λ (l : List ℕ). entry_at (length d.name) l ∷ entries_from most (drop (width_at (length d.name) l) l)) (append_assoc d.name (text d (dir_bytes ds) h.0) (dir_bytes ds))
    ∙ ap (λ (e : Entry). e ∷ entries_from most (drop (width_at (length d.name) (all d (dir_bytes ds) h.0)) (all d (dir_bytes ds) h.0))) (entry_is d (dir_bytes ds) h.0)
    ∙ ap (λ (l : List ℕ). d ∷ entries_from most l) (past_is d (dir_bytes ds) h.0)
    ∙ ap (λ (l : List Entry). d ∷ l) (entries_back ds most h.1 (omega (arith, some_bytes d (dir_bytes ds), long)))

where_told : (bytes : List ℕ) (ds : List Entry) → dir_bytes ds ≡ bytes → is_dir ds ≡ true → entries_where bytes ds ≡ ds
where_told bytes ds e h = rw (both_back (bytes_eq (dir_bytes ds) bytes) (is_dir ds) ((bytes_eq-Decides (dir_bytes ds) bytes).1 e) h) refl

-- the entries of a directory's content
pub content_is : (bytes : List ℕ) (ds : List Entry) → IsDirectory bytes ds → entries_of bytes ≡ ds
content_is bytes ds h =
    ap entries_of h.spelled ∙ ap (λ (l : List Entry). entries_where (dir_bytes ds) l) (entries_back ds (length (dir_bytes ds)) h.fits.entries (omega arith))
    ∙ where_told (dir_bytes ds) ds refl (dir_told ds h.fits)

none_by : (bytes : List ℕ) (ds : List Entry) (fault : FieldFault) (b : Bool) → (bytes_eq (dir_bytes ds) bytes && is_dir ds) ≡ b → read_dir bytes ≡ Err fault → cond b ds [] ≡ []
none_by bytes ds fault true e k =
    let two = both (bytes_eq (dir_bytes ds) bytes) (is_dir ds) e in
    absurd (no_fault bytes ds fault (record { spelled = sym ((bytes_eq-Decides (dir_bytes ds) bytes).0 two.0); fits = dir_tells ds two.1 }) k)
none_by bytes ds fault false e k = refl

-- bytes that are no directory's have none
pub no_content : (bytes : List ℕ) (fault : FieldFault) → read_dir bytes ≡ Err fault → entries_of bytes ≡ []
no_content bytes fault k =
    none_by bytes (entries_from (length bytes) bytes) fault (bytes_eq (dir_bytes (entries_from (length bytes) bytes)) bytes && is_dir (entries_from (length bytes) bytes)) refl k
