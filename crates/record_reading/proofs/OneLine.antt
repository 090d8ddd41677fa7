-- The text of a well-formed record has no line feed, so that a line of a trace is one record.
use Rattle.std.proofs.Common.{◌≡◌, ℕ, ◌<◌, ◌^◌, ◌==◌, true, codes, List, [], ◌∷◌, ◌++◌, refl, arith, lit<, cond, Bool, false, ◌∙◌}
use Rattle.std.specs.Prelude.{◌&&◌, not}
use Rattle.std.proofs.lemmas.List.Folds.{list_all-append}
use Rattle.line_text.proofs.CallForms.{and_both}
use Rattle.std.specs.Fmt.{decimal}
use Rattle.std.specs.List.{flat_map, join_by, list_all}
use Rattle.std.proofs.lemmas.Bool.{and_parts}
use Rattle.locus_ids.specs.Sizes.{inodes_max, sites_max}
use Rattle.locus_ids.specs.declared.ids.EpochId.{EpochId}
use Rattle.locus_ids.specs.declared.ids.FileId.{FileId}
use Rattle.locus_ids.specs.declared.ids.Kind.{Kind}
use Rattle.locus_ids.specs.declared.ids.Kind.TheVariants as kind
use Rattle.locus_ids.specs.declared.ids.Stamp.{Stamp}
use Rattle.locus_ids.specs.declared.refusal.Refusal.{Refusal}
use Rattle.locus_ids.specs.declared.refusal.Refusal.TheVariants as refusal
use Rattle.trace_book.specs.Text.{epoch_text, file_text, gap, hex_text, kind_text, refusal_text, stamp_text}
use Rattle.schedule_lines.specs.Ranges.{is_between}
use Rattle.line_text.specs.Words.{is_lower_digit}
use Rattle.line_text.proofs.NumberTexts.{between_parts}
use Rattle.record_words.specs.Order.{agrees, number_max}
use Rattle.record_reading.specs.Ranges.{is_any_site, is_counted, is_data, is_epoch, is_file, is_group, is_inode, is_process, is_refusal, is_short, is_stamp}
use Rattle.record_reading.proofs.Bytes.{all_append, decimal_free, each_is, free}
use Rattle.record_reading.proofs.DataForms.{digit_is, hex_digits, some_of}
use Rattle.record_reading.proofs.NameForms.{component_line}

pub two : (a b : List ℕ) → free 10 a ≡ true → free 10 b ≡ true → free 10 (a ++ b) ≡ true
two a b ha hb = all_append (λ c. not (c == 10)) a b ha hb

-- words with a space before each but the first

pub j1 : (l a : List ℕ) → free 10 l ≡ true → free 10 a ≡ true → free 10 (l ++ a) ≡ true
j1 l a hl ha = two (l) a (hl) ha

pub j2 : (l a b : List ℕ) → free 10 l ≡ true → free 10 a ≡ true → free 10 b ≡ true → free 10 (l ++ a ++ gap ++ b) ≡ true
j2 l a b hl ha hb = two (l ++ a ++ gap) b (two (l ++ a) gap (two (l) a (hl) ha) refl) hb

pub j3 : (l a b c : List ℕ) → free 10 l ≡ true → free 10 a ≡ true → free 10 b ≡ true → free 10 c ≡ true → free 10 (l ++ a ++ gap ++ b ++ gap ++ c) ≡ true
j3 l a b c hl ha hb hc = two (l ++ a ++ gap ++ b ++ gap) c (two (l ++ a ++ gap ++ b) gap (two (l ++ a ++ gap) b (two (l ++ a) gap (two (l) a (hl) ha) refl) hb) refl) hc

pub j4 : (l a b c d : List ℕ) → free 10 l ≡ true → free 10 a ≡ true → free 10 b ≡ true → free 10 c ≡ true → free 10 d ≡ true → free 10 (l ++ a ++ gap ++ b ++ gap ++ c ++ gap ++ d) ≡ true
j4 l a b c d hl ha hb hc hd = two (l ++ a ++ gap ++ b ++ gap ++ c ++ gap) d (two (l ++ a ++ gap ++ b ++ gap ++ c) gap (two (l ++ a ++ gap ++ b ++ gap) c (two (l ++ a ++ gap ++ b) gap (two (l ++ a ++ gap) b (two (l ++ a) gap (two (l) a (hl) ha) refl) hb) refl) hc) refl) hd

pub j5 : (l a b c d e : List ℕ) → free 10 l ≡ true → free 10 a ≡ true → free 10 b ≡ true → free 10 c ≡ true → free 10 d ≡ true → free 10 e ≡ true → free 10 (l ++ a ++ gap ++ b ++ gap ++ c ++ gap ++ d ++ gap ++ e) ≡ true
j5 l a b c d e hl ha hb hc hd he = two (l ++ a ++ gap ++ b ++ gap ++ c ++ gap ++ d ++ gap) e (two (l ++ a ++ gap ++ b ++ gap ++ c ++ gap ++ d) gap (two (l ++ a ++ gap ++ b ++ gap ++ c ++ gap) d (two (l ++ a ++ gap ++ b ++ gap ++ c) gap (two (l ++ a ++ gap ++ b ++ gap) c (two (l ++ a ++ gap ++ b) gap (two (l ++ a ++ gap) b (two (l ++ a) gap (two (l) a (hl) ha) refl) hb) refl) hc) refl) hd) refl) he

pub j6 : (l a b c d e f : List ℕ) → free 10 l ≡ true → free 10 a ≡ true → free 10 b ≡ true → free 10 c ≡ true → free 10 d ≡ true → free 10 e ≡ true → free 10 f ≡ true → free 10 (l ++ a ++ gap ++ b ++ gap ++ c ++ gap ++ d ++ gap ++ e ++ gap ++ f) ≡ true
j6 l a b c d e f hl ha hb hc hd he hf = two (l ++ a ++ gap ++ b ++ gap ++ c ++ gap ++ d ++ gap ++ e ++ gap) f (two (l ++ a ++ gap ++ b ++ gap ++ c ++ gap ++ d ++ gap ++ e) gap (two (l ++ a ++ gap ++ b ++ gap ++ c ++ gap ++ d ++ gap) e (two (l ++ a ++ gap ++ b ++ gap ++ c ++ gap ++ d) gap (two (l ++ a ++ gap ++ b ++ gap ++ c ++ gap) d (two (l ++ a ++ gap ++ b ++ gap ++ c) gap (two (l ++ a ++ gap ++ b ++ gap) c (two (l ++ a ++ gap ++ b) gap (two (l ++ a ++ gap) b (two (l ++ a) gap (two (l) a (hl) ha) refl) hb) refl) hc) refl) hd) refl) he) refl) hf

pub j7 : (l a b c d e f g : List ℕ) → free 10 l ≡ true → free 10 a ≡ true → free 10 b ≡ true → free 10 c ≡ true → free 10 d ≡ true → free 10 e ≡ true → free 10 f ≡ true → free 10 g ≡ true → free 10 (l ++ a ++ gap ++ b ++ gap ++ c ++ gap ++ d ++ gap ++ e ++ gap ++ f ++ gap ++ g) ≡ true
j7 l a b c d e f g hl ha hb hc hd he hf hg = two (l ++ a ++ gap ++ b ++ gap ++ c ++ gap ++ d ++ gap ++ e ++ gap ++ f ++ gap) g (two (l ++ a ++ gap ++ b ++ gap ++ c ++ gap ++ d ++ gap ++ e ++ gap ++ f) gap (two (l ++ a ++ gap ++ b ++ gap ++ c ++ gap ++ d ++ gap ++ e ++ gap) f (two (l ++ a ++ gap ++ b ++ gap ++ c ++ gap ++ d ++ gap ++ e) gap (two (l ++ a ++ gap ++ b ++ gap ++ c ++ gap ++ d ++ gap) e (two (l ++ a ++ gap ++ b ++ gap ++ c ++ gap ++ d) gap (two (l ++ a ++ gap ++ b ++ gap ++ c ++ gap) d (two (l ++ a ++ gap ++ b ++ gap ++ c) gap (two (l ++ a ++ gap ++ b ++ gap) c (two (l ++ a ++ gap ++ b) gap (two (l ++ a ++ gap) b (two (l ++ a) gap (two (l) a (hl) ha) refl) hb) refl) hc) refl) hd) refl) he) refl) hf) refl) hg

pub j8 : (l a b c d e f g h : List ℕ) → free 10 l ≡ true → free 10 a ≡ true → free 10 b ≡ true → free 10 c ≡ true → free 10 d ≡ true → free 10 e ≡ true → free 10 f ≡ true → free 10 g ≡ true → free 10 h ≡ true → free 10 (l ++ a ++ gap ++ b ++ gap ++ c ++ gap ++ d ++ gap ++ e ++ gap ++ f ++ gap ++ g ++ gap ++ h) ≡ true
j8 l a b c d e f g h hl ha hb hc hd he hf hg hh = two (l ++ a ++ gap ++ b ++ gap ++ c ++ gap ++ d ++ gap ++ e ++ gap ++ f ++ gap ++ g ++ gap) h (two (l ++ a ++ gap ++ b ++ gap ++ c ++ gap ++ d ++ gap ++ e ++ gap ++ f ++ gap ++ g) gap (two (l ++ a ++ gap ++ b ++ gap ++ c ++ gap ++ d ++ gap ++ e ++ gap ++ f ++ gap) g (two (l ++ a ++ gap ++ b ++ gap ++ c ++ gap ++ d ++ gap ++ e ++ gap ++ f) gap (two (l ++ a ++ gap ++ b ++ gap ++ c ++ gap ++ d ++ gap ++ e ++ gap) f (two (l ++ a ++ gap ++ b ++ gap ++ c ++ gap ++ d ++ gap ++ e) gap (two (l ++ a ++ gap ++ b ++ gap ++ c ++ gap ++ d ++ gap) e (two (l ++ a ++ gap ++ b ++ gap ++ c ++ gap ++ d) gap (two (l ++ a ++ gap ++ b ++ gap ++ c ++ gap) d (two (l ++ a ++ gap ++ b ++ gap ++ c) gap (two (l ++ a ++ gap ++ b ++ gap) c (two (l ++ a ++ gap ++ b) gap (two (l ++ a ++ gap) b (two (l ++ a) gap (two (l) a (hl) ha) refl) hb) refl) hc) refl) hd) refl) he) refl) hf) refl) hg) refl) hh

-- ---- words

pub number_line : (low high n : ℕ) → high < 2 ^ 32 → is_between low high n ≡ true → free 10 (decimal n) ≡ true
number_line low high n top h = let r = between_parts low high n h in decimal_free 10 n refl (omega (arith, r.1))

pub dotted : (a b c : List ℕ) → free 10 a ≡ true → free 10 b ≡ true → free 10 c ≡ true → free 10 (a ++ b ++ c) ≡ true
dotted a b c ha hb hc = two (a ++ b) c (two a b ha hb) hc

pub stamp_line : (s : Stamp) → is_stamp s ≡ true → free 10 (stamp_text s) ≡ true
stamp_line s h =
    let p = and_parts (is_between 0 sites_max s.site && is_between 0 number_max s.n) (agrees s.site s.n) h in
    let q = and_parts (is_between 0 sites_max s.site) (is_between 0 number_max s.n) p.0 in
    dotted (decimal s.site) (codes ".") (decimal s.n) (number_line 0 sites_max s.site (lit< tt) q.0) refl (number_line 0 number_max s.n (lit< tt) q.1)

pub file_line : (f : FileId) → is_file f ≡ true → free 10 (file_text f) ≡ true
file_line f h =
    let q = and_parts (is_group f.group) (is_inode f.ino) h in
    dotted (decimal f.group) (codes ".") (decimal f.ino) (number_line 0 3 f.group (lit< tt) q.0) refl (number_line 1 inodes_max f.ino (lit< tt) q.1)

pub epoch_line : (e : EpochId) → is_epoch e ≡ true → free 10 (epoch_text e) ≡ true
epoch_line e h =
    let p = and_parts (is_counted e.number) (is_any_site e.site && is_counted e.boot) h in
    let q = and_parts (is_any_site e.site) (is_counted e.boot) p.1 in
    dotted (codes "e" ++ decimal e.number ++ codes "." ++ decimal e.site) (codes ".") (decimal e.boot)
    (dotted (codes "e" ++ decimal e.number) (codes ".") (decimal e.site) (two (codes "e") (decimal e.number) refl (number_line 1 number_max e.number (lit< tt) p.0)) refl (number_line 1 sites_max e.site (lit< tt) q.0)) refl (number_line 1 number_max e.boot (lit< tt) q.1)

pub data_line : (most : ℕ) (bytes : List ℕ) → is_data most bytes ≡ true → free 10 (hex_text bytes) ≡ true
data_line most [] h = refl
data_line most (b ∷ bs) h = each_is is_lower_digit (λ c. not (c == 10)) (digit_is 10 refl) (hex_text (b ∷ bs)) (hex_digits most (b ∷ bs) (some_of most b bs h))

pub kind_line : (k : Kind) → free 10 (kind_text k) ≡ true
kind_line kind.File = refl
kind_line kind.Dir = refl

pub refusal_line : (why : Refusal) → is_refusal why ≡ true → free 10 (refusal_text why) ≡ true
refusal_line (refusal.Busy site process) h = let p = and_parts (is_any_site site) (is_process process) h in j2 (codes "busy ") (decimal site) (decimal process) refl (number_line 1 sites_max site (lit< tt) p.0) (number_line 0 8 process (lit< tt) p.1)
refusal_line (refusal.Absent name) h = j1 (codes "absent ") name refl (component_line name h)
refusal_line (refusal.NotDir name) h = j1 (codes "notdir ") name refl (component_line name h)
refusal_line refusal.IsDir h = refl
refusal_line (refusal.Exists ino) h = j1 (codes "exists ") (decimal ino) refl (number_line 1 inodes_max ino (lit< tt) h)
refusal_line (refusal.NotEmpty name) h = j1 (codes "notempty ") name refl (component_line name h)
refusal_line (refusal.Conflict a b) h = let p = and_parts (is_stamp a) (is_stamp b) h in j2 (codes "conflict ") (stamp_text a) (stamp_text b) refl (stamp_line a p.0) (stamp_line b p.1)
refusal_line (refusal.Ambiguous a b) h = let p = and_parts (is_inode a) (is_inode b) h in j2 (codes "ambiguous ") (decimal a) (decimal b) refl (number_line 1 inodes_max a (lit< tt) p.0) (number_line 1 inodes_max b (lit< tt) p.1)
refusal_line refusal.NoStorage h = refl
refusal_line refusal.NoPartition h = refl
refusal_line (refusal.Changed epoch) h = j1 (codes "changed ") (epoch_text epoch) refl (epoch_line epoch h)
refusal_line refusal.BadDescriptor h = refl
refusal_line (refusal.Stale epoch) h = j1 (codes "stale ") (epoch_text epoch) refl (epoch_line epoch h)
refusal_line refusal.TooLong h = refl
refusal_line (refusal.NoSpace needed free) h = let p = and_parts (is_short needed) (is_short free) h in j2 (codes "nospace ") (decimal needed) (decimal free) refl (number_line 0 65535 needed (lit< tt) p.0) (number_line 0 65535 free (lit< tt) p.1)
refusal_line refusal.NoInode h = refl
refusal_line refusal.BadName h = refl
refusal_line refusal.ReadOnly h = refl
refusal_line refusal.NoDescriptor h = refl
refusal_line refusal.Spent h = refl
refusal_line refusal.NoConflict h = refl

-- ---- lists

pub row_line : {X : Type 0} (t : X → List ℕ) (p : X → Bool) (sep : List ℕ) → free 10 sep ≡ true → ((x : X) → p x ≡ true → free 10 (t x) ≡ true) → (xs : List X) → list_all p xs ≡ true → free 10 (flat_map (λ y. sep ++ t y) xs) ≡ true
row_line t p sep s f [] h = refl
row_line t p sep s f (x ∷ xs) h =
    let q = and_parts (p x) (list_all p xs) h in
    two (sep ++ t x) (flat_map (λ y. sep ++ t y) xs) (two sep (t x) s (f x q.0)) (row_line t p sep s f xs q.1)

pub join_line : {X : Type 0} (t : X → List ℕ) (p : X → Bool) (sep : List ℕ) → free 10 sep ≡ true → ((x : X) → p x ≡ true → free 10 (t x) ≡ true) → (xs : List X) → list_all p xs ≡ true → free 10 (join_by t sep xs) ≡ true
join_line t p sep s f [] h = refl
join_line t p sep s f (x ∷ xs) h =
    let q = and_parts (p x) (list_all p xs) h in
    two (t x) (flat_map (λ y. sep ++ t y) xs) (f x q.0) (row_line t p sep s f xs q.1)

pub either_list : {X : Type 0} (p : X → Bool) (b : Bool) (xs ys : List X) → list_all p xs ≡ true → list_all p ys ≡ true → list_all p (cond b xs ys) ≡ true
either_list p true xs ys hx hy = hx
either_list p false xs ys hx hy = hy

pub end_list : {X : Type 0} (p : X → Bool) (xs ys : List X) → list_all p xs ≡ true → list_all p ys ≡ true → list_all p (xs ++ ys) ≡ true
end_list p xs ys hx hy = list_all-append p xs ys ∙ and_both (list_all p xs) (list_all p ys) hx hy
