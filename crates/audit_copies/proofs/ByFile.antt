-- Known versions, file by file: one more is put where it belongs, and those of a file are all in one place.
use Rattle.std.proofs.Common.{◌≡◌, ℕ, zero, suc, ◌==◌, ◌<◌, ◌≤◌, Bool, true, false, not, ◌&&◌, ◌||◌, cond, List, [], ◌∷◌, ◌++◌, length, filter, get_or, drop, insert, slice_set, refl, sym, subst, ap, ◌∙◌, append-nil, append_assoc, arith}
use Rattle.std.specs.Prelude.{nat_lt}
use Rattle.std.specs.List.{list_all, list_any}
use Rattle.std.specs.List.Sorted.{IsPartitionedBy, IsPartitionPoint}
use Rattle.std.proofs.lemmas.List.Folds.{list_all-append}
use Rattle.std.proofs.lemmas.Bool.Decides.{nat_tests}
use Rattle.locus_ids.specs.declared.ids.FileId.{FileId}
use Rattle.commit_graph.specs.Versions.{is_stamp_below, same_file, same_stamp}
use Rattle.past_laws.specs.of_promises.Past.{Copy}
use Rattle.past_laws.specs.of_promises.After.{is_copy_below, with_known}
use Rattle.past_laws.specs.Agreement.{ascends}
use Rattle.past_laws.proofs.Names.{false_true, both, both_parts, file_eq, file_own}
use Rattle.past_laws.proofs.TreesLists.{all_more}
use Rattle.past_laws.proofs.TreesSorted.{known_ascends}
use Rattle.row_lists.proofs.Reversed.{filter_append}
use Rattle.audit_copies.specs.Below.{is_file_below, is_version_of}
use Rattle.audit_copies.specs.Files.{AreByFile, FileCopies, IsOfFile, all_copies, copies_of, file_count, is_file_at, with_copy}
use Rattle.audit_copies.proofs.Noting.{put_here, put_later}
use Rattle.audit_copies.proofs.Splitting.{all_at}
use Rattle.audit_copies.proofs.Tops.{file_ascends, stamps}

-- by numbers
low_below : (a b c d : ℕ) (rest : Bool) → (nat_lt a c || ((a == c) && nat_lt b d)) ≡ true → (nat_lt a c || ((a == c) && (nat_lt b d || ((b == d) && rest)))) ≡ true
low_below a b c d rest h = grind (arith, nat_tests)

low_through : (a b c d f i : ℕ) → (nat_lt a c || ((a == c) && nat_lt b d)) ≡ true → (nat_lt c f || ((c == f) && nat_lt d i)) ≡ true → (nat_lt a f || ((a == f) && nat_lt b i)) ≡ true
low_through a b c d f i h k = grind (arith, nat_tests)

low_third : (a b c d : ℕ) → (nat_lt a c || ((a == c) && nat_lt b d)) ≡ false → ((a == c) && (b == d)) ≡ false → (nat_lt c a || ((c == a) && nat_lt d b)) ≡ true
low_third a b c d h k = grind (arith, nat_tests)

low_differs : (a b c d : ℕ) → (nat_lt a c || ((a == c) && nat_lt b d)) ≡ true → ((a == c) && (b == d)) ≡ false
low_differs a b c d h = grind (arith, nat_tests)

high_differs : (a b c d : ℕ) → (nat_lt a c || ((a == c) && nat_lt b d)) ≡ true → ((c == a) && (d == b)) ≡ false
high_differs a b c d h = grind (arith, nat_tests)

-- of files
copies_below : (a b : Copy) → is_file_below a.file b.file ≡ true → is_copy_below a b ≡ true
copies_below a b h = low_below a.file.group a.file.ino b.file.group b.file.ino _ h

through : (a b c : FileId) → is_file_below a b ≡ true → is_file_below b c ≡ true → is_file_below a c ≡ true
through a b c h k = low_through a.group a.ino b.group b.ino c.group c.ino h k

third : (a b : FileId) → is_file_below a b ≡ false → same_file a b ≡ false → is_file_below b a ≡ true
third a b h k = low_third a.group a.ino b.group b.ino h k

below_differs : (a b : FileId) → is_file_below a b ≡ true → same_file a b ≡ false
below_differs a b h = low_differs a.group a.ino b.group b.ino h

above_differs : (a b : FileId) → is_file_below a b ≡ true → same_file b a ≡ false
above_differs a b h = high_differs a.group a.ino b.group b.ino h

-- a test of files holds of all versions of a file that passes
own_pass : (q : FileId → Bool) (f : FileCopies) → IsOfFile f → q f.file ≡ true → list_all (λ (x : Copy). q x.file) f.copies ≡ true
own_pass q f h e = all_more (λ (x : Copy). same_file x.file f.file) (λ x. q x.file) (λ x k. ap q (file_eq x.file f.file k) ∙ e) f.copies h.own

all_pass : (q : FileId → Bool) (fs : List FileCopies) → AreByFile fs → list_all (λ (f : FileCopies). q f.file) fs ≡ true → list_all (λ (x : Copy). q x.file) (all_copies fs) ≡ true
all_pass q [] h e = refl
all_pass q (f ∷ fs) h e =
    let parts : (q f.file ≡ true) × (list_all (λ (g : FileCopies). q g.file) fs ≡ true) = both_parts (q f.file) (list_all (λ (g : FileCopies). q g.file) fs) e in
    list_all-append (λ (x : Copy). q x.file) f.copies (all_copies fs)
    ∙ both (list_all (λ (x : Copy). q x.file) f.copies) (list_all (λ (x : Copy). q x.file) (all_copies fs)) (own_pass q f h.0 parts.0) (all_pass q fs h.1.1 parts.1)

-- files that are above one are above all below it
above_too : (a b : FileId) (fs : List FileCopies) → is_file_below a b ≡ true → list_all (λ (g : FileCopies). is_file_below b g.file) fs ≡ true → list_all (λ (g : FileCopies). is_file_below a g.file) fs ≡ true
above_too a b fs e h = all_more (λ (g : FileCopies). is_file_below b g.file) (λ g. is_file_below a g.file) (λ g k. through a b g.file e k) fs h

-- What is known with one more.

past_low : (v : Copy) (xs ys : List Copy) → list_all (λ x. is_copy_below x v) xs ≡ true → with_known v (xs ++ ys) ≡ xs ++ with_known v ys
past_low v [] ys h = refl
past_low v (x ∷ xs) ys h =
    let parts : (is_copy_below x v ≡ true) × (list_all (λ x. is_copy_below x v) xs ≡ true) = both_parts (is_copy_below x v) (list_all (λ x. is_copy_below x v) xs) h in
    put_later v x (xs ++ ys) parts.0 ∙ ap (λ zs. x ∷ zs) (past_low v xs ys parts.1)

before_high : (v : Copy) (xs ys : List Copy) → list_all (is_copy_below v) ys ≡ true → with_known v (xs ++ ys) ≡ with_known v xs ++ ys
before_high v [] [] h = refl
before_high v [] (y ∷ ys) h = put_here v y ys (both_parts (is_copy_below v y) (list_all (is_copy_below v) ys) h).0
before_high v (x ∷ xs) ys h = at (is_copy_below v x) (is_copy_below x v) (before_high v xs ys h)
  where
    at : (b c : Bool) → with_known v (xs ++ ys) ≡ with_known v xs ++ ys → cond b (v ∷ x ∷ (xs ++ ys)) (cond c (x ∷ with_known v (xs ++ ys)) (x ∷ (xs ++ ys))) ≡ cond b (v ∷ x ∷ xs) (cond c (x ∷ with_known v xs) (x ∷ xs)) ++ ys
    at true c e = refl
    at false true e = ap (λ zs. x ∷ zs) e
    at false false e = refl

copies_above : (v : Copy) (fs : List FileCopies) → AreByFile fs → list_all (λ (g : FileCopies). is_file_below v.file g.file) fs ≡ true → list_all (is_copy_below v) (all_copies fs) ≡ true
copies_above v fs h e = all_more (λ (x : Copy). is_file_below v.file x.file) (is_copy_below v) (λ x k. copies_below v x k) (all_copies fs) (all_pass (is_file_below v.file) fs h e)

-- a file that is neither below nor the same is above, with all after it
rest_above : (file : FileId) (f : FileCopies) (fs : List FileCopies) → list_all (λ (g : FileCopies). is_file_below f.file g.file) fs ≡ true → is_file_below f.file file ≡ false → same_file f.file file ≡ false → list_all (λ (g : FileCopies). is_file_below file g.file) (f ∷ fs) ≡ true
rest_above file f fs up e k =
    let low : is_file_below file f.file ≡ true = third f.file file e k in
    both (is_file_below file f.file) (list_all (λ (g : FileCopies). is_file_below file g.file) fs) low (above_too file f.file fs low up)

same_above : (file : FileId) (f : FileCopies) (fs : List FileCopies) → list_all (λ (g : FileCopies). is_file_below f.file g.file) fs ≡ true → same_file f.file file ≡ true → list_all (λ (g : FileCopies). is_file_below file g.file) fs ≡ true
same_above file f fs up k = ap (λ (a : FileId). list_all (λ (g : FileCopies). is_file_below a g.file) fs) (sym (file_eq f.file file k)) ∙ up

abbrev pub alone : Copy → FileCopies
alone v = record { file = v.file; copies = v ∷ [] }

abbrev pub grown : Copy → FileCopies → FileCopies
grown v f = record f { copies = with_known v f.copies }

pub known_so : (v : Copy) (fs : List FileCopies) → AreByFile fs → all_copies (with_copy v fs) ≡ with_known v (all_copies fs)
known_so v [] h = refl
known_so v (f ∷ fs) h = at (is_file_below f.file v.file) refl (same_file f.file v.file) refl (known_so v fs h.1.1)
  where
    at : (b : Bool) → is_file_below f.file v.file ≡ b → (c : Bool) → same_file f.file v.file ≡ c → all_copies (with_copy v fs) ≡ with_known v (all_copies fs)
        → all_copies (cond b (f ∷ with_copy v fs) (cond c (record f { copies = with_known v f.copies } ∷ fs) (record { file = v.file; copies = v ∷ [] } ∷ f ∷ fs))) ≡ with_known v (f.copies ++ all_copies fs)
    at true e c k before =
        ap (λ ys. f.copies ++ ys) before
        ∙ sym (past_low v f.copies (all_copies fs) (all_more (λ (x : Copy). is_file_below x.file v.file) (λ x. is_copy_below x v) (λ x l. copies_below x v l) f.copies (own_pass (λ g. is_file_below g v.file) f h.0 e)))
    at false e true k before = sym (before_high v f.copies (all_copies fs) (copies_above v fs h.1.1 (same_above v.file f fs h.1.0 k)))
    at false e false k before = sym (before_high v [] (f.copies ++ all_copies fs) (copies_above v (f ∷ fs) h (rest_above v.file f fs h.1.0 e k)))

alone_so : (v : Copy) → IsOfFile (alone v)
alone_so v = record { own = both (same_file v.file v.file) true (file_own v.file) refl; up = refl }

known_pass : (q : Copy → Bool) (v : Copy) (xs : List Copy) → q v ≡ true → list_all q xs ≡ true → list_all q (with_known v xs) ≡ true
known_pass q v [] e h = both (q v) true e refl
known_pass q v (x ∷ xs) e h = at (is_copy_below v x) (is_copy_below x v) (known_pass q v xs e parts.1)
  where
    parts : (q x ≡ true) × (list_all q xs ≡ true)
    parts = both_parts (q x) (list_all q xs) h

    at : (b c : Bool) → list_all q (with_known v xs) ≡ true → list_all q (cond b (v ∷ x ∷ xs) (cond c (x ∷ with_known v xs) (x ∷ xs))) ≡ true
    at true c later = both (q v) (q x && list_all q xs) e h
    at false true later = both (q x) (list_all q (with_known v xs)) parts.0 later
    at false false later = h

more_so : (v : Copy) (f : FileCopies) → IsOfFile f → same_file f.file v.file ≡ true → IsOfFile (grown v f)
more_so v f h k = record {
  own = known_pass (λ (x : Copy). same_file x.file f.file) v f.copies (ap (same_file v.file) (file_eq f.file v.file k) ∙ file_own v.file) h.own;
  up = known_ascends v f.copies h.up;
}

above_with : (a : FileId) (v : Copy) (fs : List FileCopies) → is_file_below a v.file ≡ true → list_all (λ (g : FileCopies). is_file_below a g.file) fs ≡ true → list_all (λ (g : FileCopies). is_file_below a g.file) (with_copy v fs) ≡ true
above_with a v [] e h = both (is_file_below a v.file) true e refl
above_with a v (f ∷ fs) e h = at (is_file_below f.file v.file) (same_file f.file v.file) (above_with a v fs e parts.1)
  where
    parts : (is_file_below a f.file ≡ true) × (list_all (λ (g : FileCopies). is_file_below a g.file) fs ≡ true)
    parts = both_parts (is_file_below a f.file) (list_all (λ (g : FileCopies). is_file_below a g.file) fs) h

    at : (b c : Bool) → list_all (λ (g : FileCopies). is_file_below a g.file) (with_copy v fs) ≡ true → list_all (λ (g : FileCopies). is_file_below a g.file) (cond b (f ∷ with_copy v fs) (cond c (record f { copies = with_known v f.copies } ∷ fs) (record { file = v.file; copies = v ∷ [] } ∷ f ∷ fs))) ≡ true
    at true c later = both (is_file_below a f.file) (list_all (λ (g : FileCopies). is_file_below a g.file) (with_copy v fs)) parts.0 later
    at false true later = h
    at false false later = both (is_file_below a v.file) (is_file_below a f.file && list_all (λ (g : FileCopies). is_file_below a g.file) fs) e h

pub known_ordered : (v : Copy) (fs : List FileCopies) → AreByFile fs → AreByFile (with_copy v fs)
known_ordered v [] h = (alone_so v, (refl, tt))
known_ordered v (f ∷ fs) h = at (is_file_below f.file v.file) refl (same_file f.file v.file) refl (known_ordered v fs h.1.1)
  where
    at : (b : Bool) → is_file_below f.file v.file ≡ b → (c : Bool) → same_file f.file v.file ≡ c → AreByFile (with_copy v fs)
        → AreByFile (cond b (f ∷ with_copy v fs) (cond c (record f { copies = with_known v f.copies } ∷ fs) (record { file = v.file; copies = v ∷ [] } ∷ f ∷ fs)))
    at true e c k before = (h.0, (above_with f.file v fs e h.1.0, before))
    at false e true k before = (more_so v f h.0 k, (h.1.0, h.1.1))
    at false e false k before = (alone_so v, (rest_above v.file f fs h.1.0 e k, h))

-- Those of a file.

pass_all : (q : Copy → Bool) (xs : List Copy) → list_all q xs ≡ true → filter q xs ≡ xs
pass_all q [] h = refl
pass_all q (x ∷ xs) h =
    let parts : (q x ≡ true) × (list_all q xs ≡ true) = both_parts (q x) (list_all q xs) h in
    ap (λ b. cond b (x ∷ filter q xs) (filter q xs)) parts.0 ∙ ap (λ ys. x ∷ ys) (pass_all q xs parts.1)

pass_none : (q : Copy → Bool) (xs : List Copy) → list_all (λ x. not (q x)) xs ≡ true → filter q xs ≡ []
pass_none q [] h = refl
pass_none q (x ∷ xs) h = at (q x) refl (pass_none q xs parts.1)
  where
    parts : (not (q x) ≡ true) × (list_all (λ x. not (q x)) xs ≡ true)
    parts = both_parts (not (q x)) (list_all (λ x. not (q x)) xs) h

    at : (b : Bool) → q x ≡ b → filter q xs ≡ [] → cond b (x ∷ filter q xs) (filter q xs) ≡ []
    at true e later = absurd (false_true (ap not (sym e) ∙ parts.0))
    at false e later = later

none_above : (file : FileId) (fs : List FileCopies) → AreByFile fs → list_all (λ (g : FileCopies). is_file_below file g.file) fs ≡ true → filter (λ (x : Copy). same_file x.file file) (all_copies fs) ≡ []
none_above file fs h e = pass_none (λ (x : Copy). same_file x.file file) (all_copies fs) (all_more (λ (x : Copy). is_file_below file x.file) (λ x. not (same_file x.file file)) (λ x k. ap not (above_differs file x.file k)) (all_copies fs) (all_pass (is_file_below file) fs h e))

pub file_so : (file : FileId) (fs : List FileCopies) → AreByFile fs → copies_of file fs ≡ filter (λ (x : Copy). same_file x.file file) (all_copies fs)
file_so file [] h = refl
file_so file (f ∷ fs) h = at (same_file f.file file) refl (file_so file fs h.1.1) ∙ sym (filter_append (λ (x : Copy). same_file x.file file) f.copies (all_copies fs))
  where
    at : (b : Bool) → same_file f.file file ≡ b → copies_of file fs ≡ filter (λ (x : Copy). same_file x.file file) (all_copies fs) → cond b f.copies (copies_of file fs) ≡ filter (λ (x : Copy). same_file x.file file) f.copies ++ filter (λ (x : Copy). same_file x.file file) (all_copies fs)
    at true k later =
        sym (ap (λ ys. ys ++ filter (λ (x : Copy). same_file x.file file) (all_copies fs)) (pass_all (λ (x : Copy). same_file x.file file) f.copies (own_pass (λ g. same_file g file) f h.0 k))
        ∙ (ap (λ ys. f.copies ++ ys) (none_above file fs h.1.1 (same_above file f fs h.1.0 k)) ∙ append-nil f.copies))
    at false k later =
        later
        ∙ ap (λ ys. ys ++ filter (λ (x : Copy). same_file x.file file) (all_copies fs)) (sym (pass_none (λ (x : Copy). same_file x.file file) f.copies (own_pass (λ g. not (same_file g file)) f h.0 (ap not k))))

-- the versions of a file ascend
pub file_up : (file : FileId) (fs : List FileCopies) → AreByFile fs → ascends is_copy_below (copies_of file fs) ≡ true
file_up file [] h = refl
file_up file (f ∷ fs) h = at (same_file f.file file) (file_up file fs h.1.1)
  where
    at : (b : Bool) → ascends is_copy_below (copies_of file fs) ≡ true → ascends is_copy_below (cond b f.copies (copies_of file fs)) ≡ true
    at true later = h.0.up
    at false later = later

pub stamps_up : (file : FileId) (fs : List FileCopies) → AreByFile fs → ascends is_stamp_below (stamps (copies_of file fs)) ≡ true
stamps_up file [] h = refl
stamps_up file (f ∷ fs) h = at (same_file f.file file) (stamps_up file fs h.1.1)
  where
    at : (b : Bool) → ascends is_stamp_below (stamps (copies_of file fs)) ≡ true → ascends is_stamp_below (stamps (cond b f.copies (copies_of file fs))) ≡ true
    at true later = ap (λ (vs : List Copy). ascends is_stamp_below (stamps vs)) (sym (pass_all (λ (x : Copy). same_file x.file f.file) f.copies h.0.own)) ∙ file_ascends f.file f.copies h.0.up
    at false later = later

-- a version is among all exactly where it is among those of its file
pub any_of_file : (v : Copy) (xs : List Copy) → list_any (is_version_of v) (filter (λ (w : Copy). same_file w.file v.file) xs) ≡ list_any (is_version_of v) xs
any_of_file v [] = refl
any_of_file v (w ∷ ws) = at (same_file w.file v.file) refl (any_of_file v ws)
  where
    at : (b : Bool) → same_file w.file v.file ≡ b → list_any (is_version_of v) (filter (λ (x : Copy). same_file x.file v.file) ws) ≡ list_any (is_version_of v) ws
        → list_any (is_version_of v) (cond b (w ∷ filter (λ (x : Copy). same_file x.file v.file) ws) (filter (λ (x : Copy). same_file x.file v.file) ws)) ≡ (is_version_of v w || list_any (is_version_of v) ws)
    at true k before = ap (λ b. is_version_of v w || b) before
    at false k before = before ∙ sym (ap (λ b. (b && same_stamp w.stamp v.stamp) || list_any (is_version_of v) ws) k)

-- Places of files.

files_parted : (file : FileId) (fs : List FileCopies) → AreByFile fs → IsPartitionedBy (λ (g : FileCopies). is_file_below g.file file) fs
files_parted file [] h i j d le l t = absurd (omega (arith, l))
files_parted file (f ∷ fs) h zero zero d le l t = t
files_parted file (f ∷ fs) h zero (suc j) d le l t = through f.file (get_or fs j d).file file (all_at (λ (g : FileCopies). is_file_below f.file g.file) fs j d (omega (arith, l)) h.1.0) t
files_parted file (f ∷ fs) h (suc i) zero d le l t = absurd (omega (arith, le))
files_parted file (f ∷ fs) h (suc i) (suc j) d le l t = files_parted file fs h.1.1 i j d (omega (arith, le)) (omega (arith, l)) t

counted : (file : FileId) (fs : List FileCopies) (k : ℕ) → k ≤ length fs → ((i : ℕ) (d : FileCopies) → i < k → is_file_below (get_or fs i d).file file ≡ true) → ((i : ℕ) (d : FileCopies) → k ≤ i → i < length fs → is_file_below (get_or fs i d).file file ≡ false) → k ≡ file_count file fs
counted file [] zero l t o = refl
counted file [] (suc k) l t o = absurd (omega (arith, l))
counted file (f ∷ fs) zero l t o = sym (ap (λ b. cond b (suc (file_count file fs)) 0) (o 0 f (omega arith) (omega arith)))
counted file (f ∷ fs) (suc k) l t o =
    ap suc (counted file fs k (omega (arith, l)) (λ i d a. t (suc i) d (omega (arith, a))) (λ i d a b. o (suc i) d (omega (arith, a)) (omega (arith, b))))
    ∙ sym (ap (λ b. cond b (suc (file_count file fs)) 0) (t 0 f (omega arith)))

pub count_so : (file : FileId) (fs : List FileCopies) (k : ℕ) → k ≤ length fs
    → (IsPartitionedBy (λ (g : FileCopies). is_file_below g.file file) fs → IsPartitionPoint (λ (g : FileCopies). is_file_below g.file file ≡ true) (λ g. is_file_below g.file file ≡ false) fs k) → AreByFile fs → k ≡ file_count file fs
count_so file fs k l point h =
    let two = point (files_parted file fs h) in
    counted file fs k l (λ i d a. two.0 i d (omega arith) a) (λ i d a b. two.1 i d a b)

-- the row at the place of a file takes the version
pub put_more : (v : Copy) (fs : List FileCopies) (d : FileCopies) → is_file_at fs (file_count v.file fs) v.file ≡ true
    → slice_set fs (file_count v.file fs) (record (get_or fs (file_count v.file fs) d) { copies = with_known v (get_or fs (file_count v.file fs) d).copies }) ≡ with_copy v fs
put_more v [] d h = absurd (false_true h)
put_more v (f ∷ fs) d h = at (is_file_below f.file v.file) h (put_more v fs d)
  where
    at : (b : Bool) → is_file_at (f ∷ fs) (cond b (suc (file_count v.file fs)) 0) v.file ≡ true
        → (is_file_at fs (file_count v.file fs) v.file ≡ true → slice_set fs (file_count v.file fs) (record (get_or fs (file_count v.file fs) d) { copies = with_known v (get_or fs (file_count v.file fs) d).copies }) ≡ with_copy v fs)
        → slice_set (f ∷ fs) (cond b (suc (file_count v.file fs)) 0) (record (get_or (f ∷ fs) (cond b (suc (file_count v.file fs)) 0) d) { copies = with_known v (get_or (f ∷ fs) (cond b (suc (file_count v.file fs)) 0) d).copies }) ≡ cond b (f ∷ with_copy v fs) (cond (same_file f.file v.file) (record f { copies = with_known v f.copies } ∷ fs) (record { file = v.file; copies = v ∷ [] } ∷ f ∷ fs))
    at true g before = ap (λ gs. f ∷ gs) (before g)
    at false g before = sym (ap (λ c. cond c (record f { copies = with_known v f.copies } ∷ fs) (record { file = v.file; copies = v ∷ [] } ∷ f ∷ fs)) g)

-- where the file has no row, one with the version alone comes there
pub put_alone : (v : Copy) (fs : List FileCopies) → is_file_at fs (file_count v.file fs) v.file ≡ false → insert fs (file_count v.file fs) (record { file = v.file; copies = v ∷ [] }) ≡ with_copy v fs
put_alone v [] h = refl
put_alone v (f ∷ fs) h = at (is_file_below f.file v.file) h (put_alone v fs)
  where
    at : (b : Bool) → is_file_at (f ∷ fs) (cond b (suc (file_count v.file fs)) 0) v.file ≡ false
        → (is_file_at fs (file_count v.file fs) v.file ≡ false → insert fs (file_count v.file fs) (record { file = v.file; copies = v ∷ [] }) ≡ with_copy v fs)
        → insert (f ∷ fs) (cond b (suc (file_count v.file fs)) 0) (record { file = v.file; copies = v ∷ [] }) ≡ cond b (f ∷ with_copy v fs) (cond (same_file f.file v.file) (record f { copies = with_known v f.copies } ∷ fs) (record { file = v.file; copies = v ∷ [] } ∷ f ∷ fs))
    at true g before = ap (λ gs. f ∷ gs) (before g)
    at false g before = sym (ap (λ c. cond c (record f { copies = with_known v f.copies } ∷ fs) (record { file = v.file; copies = v ∷ [] } ∷ f ∷ fs)) g)

-- the row at the place of a file has its versions
pub copies_there : (file : FileId) (fs : List FileCopies) (d : FileCopies) → is_file_at fs (file_count file fs) file ≡ true → (get_or fs (file_count file fs) d).copies ≡ copies_of file fs
copies_there file [] d h = absurd (false_true h)
copies_there file (f ∷ fs) d h = at (is_file_below f.file file) refl h (copies_there file fs d)
  where
    at : (b : Bool) → is_file_below f.file file ≡ b → is_file_at (f ∷ fs) (cond b (suc (file_count file fs)) 0) file ≡ true → (is_file_at fs (file_count file fs) file ≡ true → (get_or fs (file_count file fs) d).copies ≡ copies_of file fs) → (get_or (f ∷ fs) (cond b (suc (file_count file fs)) 0) d).copies ≡ cond (same_file f.file file) f.copies (copies_of file fs)
    at true e g later = later g ∙ sym (ap (λ c. cond c f.copies (copies_of file fs)) (below_differs f.file file e))
    at false e g later = sym (ap (λ c. cond c f.copies (copies_of file fs)) g)

no_copies : (file : FileId) (fs : List FileCopies) → list_all (λ (g : FileCopies). is_file_below file g.file) fs ≡ true → [] ≡ copies_of file fs
no_copies file [] h = refl
no_copies file (f ∷ fs) h =
    let parts : (is_file_below file f.file ≡ true) × (list_all (λ (g : FileCopies). is_file_below file g.file) fs ≡ true) = both_parts (is_file_below file f.file) (list_all (λ (g : FileCopies). is_file_below file g.file) fs) h in
    no_copies file fs parts.1 ∙ sym (ap (λ c. cond c f.copies (copies_of file fs)) (above_differs file f.file parts.0))

pub copies_nowhere : (file : FileId) (fs : List FileCopies) → AreByFile fs → is_file_at fs (file_count file fs) file ≡ false → [] ≡ copies_of file fs
copies_nowhere file [] h k = refl
copies_nowhere file (f ∷ fs) h k = at (is_file_below f.file file) refl k (copies_nowhere file fs h.1.1)
  where
    at : (b : Bool) → is_file_below f.file file ≡ b → is_file_at (f ∷ fs) (cond b (suc (file_count file fs)) 0) file ≡ false → (is_file_at fs (file_count file fs) file ≡ false → [] ≡ copies_of file fs) → [] ≡ cond (same_file f.file file) f.copies (copies_of file fs)
    at true e g later = later g ∙ sym (ap (λ c. cond c f.copies (copies_of file fs)) (below_differs f.file file e))
    at false e g later = no_copies file fs (both_parts (is_file_below file f.file) (list_all (λ (g : FileCopies). is_file_below file g.file) fs) (rest_above file f fs h.1.0 e g)).1 ∙ sym (ap (λ c. cond c f.copies (copies_of file fs)) g)

-- What stands at a place.

pub at_within : (fs : List FileCopies) (k : ℕ) (file : FileId) → is_file_at fs k file ≡ true → k < length fs
at_within [] k file h = absurd (false_true h)
at_within (f ∷ fs) zero file h = omega arith
at_within (f ∷ fs) (suc k) file h = let l : k < length fs = at_within fs k file h in omega arith

pub at_beyond : (fs : List FileCopies) (k : ℕ) (file : FileId) → length fs ≤ k → false ≡ is_file_at fs k file
at_beyond [] k file l = refl
at_beyond (f ∷ fs) zero file l = absurd (omega (arith, l))
at_beyond (f ∷ fs) (suc k) file l = at_beyond fs k file (omega (arith, l))

pub at_there : (fs : List FileCopies) (k : ℕ) (file : FileId) (g : FileCopies) → k < length fs → g ≡ get_or fs k g → same_file g.file file ≡ is_file_at fs k file
at_there [] k file g l e = absurd (omega (arith, l))
at_there (f ∷ fs) zero file g l e = ap (λ (h : FileCopies). same_file h.file file) e
at_there (f ∷ fs) (suc k) file g l e = at_there fs k file g (omega (arith, l)) e

pub up_at : (fs : List FileCopies) (k : ℕ) (g : FileCopies) → k < length fs → g ≡ get_or fs k g → AreByFile fs → ascends is_copy_below g.copies ≡ true
up_at [] k g l e h = absurd (omega (arith, l))
up_at (f ∷ fs) zero g l e h = ap (λ (k : FileCopies). ascends is_copy_below k.copies) e ∙ h.0.up
up_at (f ∷ fs) (suc k) g l e h = up_at fs k g (omega (arith, l)) e h.1.1

-- the versions of a group
pub group_so : (group : ℕ) (f : FileCopies) → IsOfFile f → filter (λ (v : Copy). v.file.group == group) f.copies ≡ cond (f.file.group == group) f.copies []
group_so group f h = at (f.file.group == group) refl
  where
    at : (b : Bool) → (f.file.group == group) ≡ b → filter (λ (v : Copy). v.file.group == group) f.copies ≡ cond b f.copies []
    at true e = pass_all (λ (v : Copy). v.file.group == group) f.copies (own_pass (λ g. g.group == group) f h e)
    at false e = pass_none (λ (v : Copy). v.file.group == group) f.copies (own_pass (λ g. not (g.group == group)) f h (ap not e))

group_part : (group : ℕ) (fs : List FileCopies) (i : ℕ) (g : FileCopies) → i < length fs → g ≡ get_or fs i g → AreByFile fs
    → filter (λ (v : Copy). v.file.group == group) (all_copies (drop i fs)) ≡ cond (g.file.group == group) g.copies [] ++ filter (λ (v : Copy). v.file.group == group) (all_copies (drop (suc i) fs))
group_part group [] i g l e h = absurd (omega (arith, l))
group_part group (f ∷ fs) zero g l e h =
    filter_append (λ (v : Copy). v.file.group == group) f.copies (all_copies fs)
    ∙ ap (λ ys. ys ++ filter (λ (v : Copy). v.file.group == group) (all_copies fs)) (group_so group f h.0 ∙ ap (λ (k : FileCopies). cond (k.file.group == group) k.copies []) (sym e))
group_part group (f ∷ fs) (suc i) g l e h = group_part group fs i g (omega (arith, l)) e h.1.1

pub group_on : (group : ℕ) (fs : List FileCopies) (i next : ℕ) (g : FileCopies) (made more whole : List Copy) → i < length fs → next ≡ suc i → g ≡ get_or fs i g → AreByFile fs
    → more ≡ made ++ cond (g.file.group == group) g.copies [] → made ++ filter (λ (v : Copy). v.file.group == group) (all_copies (drop i fs)) ≡ whole
    → more ++ filter (λ (v : Copy). v.file.group == group) (all_copies (drop next fs)) ≡ whole
group_on group fs i next g made more whole l behind e h added before =
    ap (λ n. more ++ filter (λ (v : Copy). v.file.group == group) (all_copies (drop n fs))) behind
    ∙ (ap (λ ys. ys ++ filter (λ (v : Copy). v.file.group == group) (all_copies (drop (suc i) fs))) added
    ∙ (append_assoc made (cond (g.file.group == group) g.copies []) (filter (λ (v : Copy). v.file.group == group) (all_copies (drop (suc i) fs)))
    ∙ (ap (λ ys. made ++ ys) (sym (group_part group fs i g l e h)) ∙ before)))

-- where the files of a group begin, and where they end
low_group : (a b g : ℕ) → (nat_lt a g || ((a == g) && nat_lt b 0)) ≡ true → (a == g) ≡ false
low_group a b g h = grind (arith, nat_tests)

high_group : (a b c d g : ℕ) → g < a → (nat_lt a c || ((a == c) && nat_lt b d)) ≡ true → not (c == g) ≡ true
high_group a b c d g l h = grind (arith, nat_tests)

other_group : (a g : ℕ) → g < a → (a == g) ≡ false
other_group a g l = grind (arith, nat_tests)

abbrev pub group_low : ℕ → FileId
group_low group = record { group = group; ino = 0 }

pub group_from : (group : ℕ) (fs : List FileCopies) (k : ℕ) → AreByFile fs → k ≡ file_count (group_low group) fs → filter (λ (v : Copy). v.file.group == group) (all_copies (drop k fs)) ≡ filter (λ (v : Copy). v.file.group == group) (all_copies fs)
group_from group fs k h e = ap (λ n. filter (λ (v : Copy). v.file.group == group) (all_copies (drop n fs))) e ∙ counted_from fs h
  where
    counted_from : (gs : List FileCopies) → AreByFile gs → filter (λ (v : Copy). v.file.group == group) (all_copies (drop (file_count (group_low group) gs) gs)) ≡ filter (λ (v : Copy). v.file.group == group) (all_copies gs)
    counted_from [] o = refl
    counted_from (f ∷ gs) o = at (is_file_below f.file (group_low group)) refl (counted_from gs o.1.1)
      where
        at : (b : Bool) → is_file_below f.file (group_low group) ≡ b → filter (λ (v : Copy). v.file.group == group) (all_copies (drop (file_count (group_low group) gs) gs)) ≡ filter (λ (v : Copy). v.file.group == group) (all_copies gs)
            → filter (λ (v : Copy). v.file.group == group) (all_copies (drop (cond b (suc (file_count (group_low group) gs)) 0) (f ∷ gs))) ≡ filter (λ (v : Copy). v.file.group == group) (all_copies (f ∷ gs))
        at true below later =
            later
            ∙ sym (filter_append (λ (v : Copy). v.file.group == group) f.copies (all_copies gs)
            ∙ ap (λ ys. ys ++ filter (λ (v : Copy). v.file.group == group) (all_copies gs)) (group_so group f o.0 ∙ ap (λ b. cond b f.copies []) (low_group f.file.group f.file.ino group below)))
        at false below later = refl

pub group_ends : (group : ℕ) (fs : List FileCopies) (k : ℕ) (g : FileCopies) → k < length fs → g ≡ get_or fs k g → AreByFile fs → group < g.file.group → filter (λ (v : Copy). v.file.group == group) (all_copies (drop k fs)) ≡ []
group_ends group [] k g l e h above = absurd (omega (arith, l))
group_ends group (f ∷ fs) zero g l e h above =
    let first : group < f.file.group = subst (λ (x : FileCopies). group < x.file.group) e above in
    let later : list_all (λ (x : Copy). not (x.file.group == group)) (all_copies fs) ≡ true =
    all_pass (λ x. not (x.group == group)) fs h.1.1 (all_more (λ (x : FileCopies). is_file_below f.file x.file) (λ (x : FileCopies). not (x.file.group == group)) (λ x b. high_group f.file.group f.file.ino x.file.group x.file.ino group first b) fs h.1.0) in
    filter_append (λ (v : Copy). v.file.group == group) f.copies (all_copies fs)
    ∙ (ap (λ ys. ys ++ filter (λ (v : Copy). v.file.group == group) (all_copies fs)) (group_so group f h.0 ∙ ap (λ b. cond b f.copies []) (other_group f.file.group group first))
    ∙ pass_none (λ (v : Copy). v.file.group == group) (all_copies fs) later)
group_ends group (f ∷ fs) (suc k) g l e h above = group_ends group fs k g (omega (arith, l)) e h.1.1 above

-- The same at a place that is where the file belongs.

pub put_at : (v : Copy) (fs : List FileCopies) (k : ℕ) (row new : FileCopies) → is_file_at fs k v.file ≡ true → k ≡ file_count v.file fs → row ≡ get_or fs k row → new ≡ grown v row → slice_set fs k new ≡ with_copy v fs
put_at v fs k row new there count is e =
    ap (slice_set fs k) (e ∙ ap (grown v) is)
    ∙ (ap (λ j. slice_set fs j (grown v (get_or fs j row))) count ∙ put_more v fs row (ap (λ j. is_file_at fs j v.file) (sym count) ∙ there))

pub put_beside : (v : Copy) (fs after : List FileCopies) (k : ℕ) (row : FileCopies) → is_file_at fs k v.file ≡ false → k ≡ file_count v.file fs → row ≡ alone v → after ≡ insert fs k row → after ≡ with_copy v fs
put_beside v fs after k row nowhere count e put =
    put ∙ (ap (insert fs k) e ∙ (ap (λ j. insert fs j (alone v)) count ∙ put_alone v fs (ap (λ j. is_file_at fs j v.file) (sym count) ∙ nowhere)))

pub copies_at : (file : FileId) (fs : List FileCopies) (k : ℕ) (g : FileCopies) → k ≡ file_count file fs → g ≡ get_or fs k g → is_file_at fs k file ≡ true → g.copies ≡ copies_of file fs
copies_at file fs k g count e there =
    ap (λ (f : FileCopies). f.copies) (e ∙ ap (λ j. get_or fs j g) count) ∙ copies_there file fs g (ap (λ j. is_file_at fs j file) (sym count) ∙ there)
