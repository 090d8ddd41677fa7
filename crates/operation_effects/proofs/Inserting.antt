-- A directory with one entry more, where its pair of name and inode is new.
use Rattle.std.proofs.Common.{◌≡◌, ℕ, zero, suc, ◌+◌, ◌==◌, ◌≤◌, Bool, true, false, not, ◌&&◌, ◌||◌, cond, ltb, List, [], ◌∷◌, ◌++◌, length, refl, sym, ap, ◌∙◌, subst, Some, None, length-append, arith}
use Rattle.std.specs.Prelude.{Option}
use Rattle.std.specs.List.{list_any, list_all, find, AllByRecursion}
use Rattle.std.specs.Str.{bytes_eq}
use Rattle.std.specs.declared.cmp.Ordering.{Ordering}
use Rattle.std.specs.declared.cmp.Ordering.TheVariants.{Less, Equal, Greater}
use Rattle.std.proofs.lemmas.Bool.{false≢true}
use Rattle.std.proofs.lemmas.Bool.Decides.{nat_tests}
use Rattle.std.proofs.lemmas.Slice.Eq.{bytes_eq-Decides}
use Rattle.locus_ids.specs.Sizes.{directory_bytes_max, inodes_max}
use Rattle.locus_ids.specs.declared.ids.Kind.{Kind}
use Rattle.trace_book.specs.Names.{is_name}
use Rattle.dir_format.specs.declared.entry.Entry.{Entry}
use Rattle.dir_format.specs.Entries.{entry_cmp, is_pair, pair_in, placed, with_entry, HasKind, OneKind, IsDir, IsEntry}
use Rattle.dir_format.specs.Grammar.{kind_byte, entry_bytes, dir_bytes, IsDirectory}
use Rattle.dir_format.specs.Contents.{is_dir, is_entry, ascends, has_one_kind, entries_from, entries_of}
use Rattle.dir_format.specs.Effects.{DirEffect, size_of, live_entry, insert_beside, insert_effect}
use Rattle.locus_ids.specs.declared.refusal.Refusal.TheVariants as refusal
use Rattle.trace_book.specs.declared.operation.Outcome.{Outcome}
use Rattle.trace_book.specs.declared.operation.Outcome.TheVariants as outcome
use Rattle.file_content.specs.Pages.{pages_replaced}
use Rattle.role_steps.specs.of_file_effects.Effects.{Effect, in_directory}
use Rattle.operation_effects.specs.Settling.{effect_by, effects_by, left_or}
use Rattle.dir_format.proofs.Filtering.{live_long}
use Rattle.dir_format.proofs.Tests.{both}
use Rattle.dir_format.proofs.Following.{kinds_tell, vector_of_nothing}
use Rattle.dir_format.proofs.ContentOf.{content_is}
use Rattle.dir_reconcile.proofs.JoinLaws.{same_name, same_ino}

-- a directory's entries pass the test

dir_by : (bytes : List ℕ) (xs ds : List Entry) (b : Bool) → (bytes_eq (dir_bytes xs) bytes && is_dir xs) ≡ b → cond b xs [] ≡ ds → is_dir ds ≡ true
dir_by bytes xs ds true e is = subst (λ (ys : List Entry). is_dir ys ≡ true) is (both (bytes_eq (dir_bytes xs) bytes) (is_dir xs) e).1
dir_by bytes xs ds false e is = subst (λ (ys : List Entry). is_dir ys ≡ true) is refl

pub dir_told : (ds : List Entry) → IsDir ds → is_dir ds ≡ true
dir_told ds h =
    let bytes : List ℕ = dir_bytes ds in
    dir_by bytes (entries_from (length bytes) bytes) ds (bytes_eq (dir_bytes (entries_from (length bytes) bytes)) bytes && is_dir (entries_from (length bytes) bytes)) refl
    (content_is bytes ds (record { spelled = refl; fits = h }))

one_kind_tells : (ds : List Entry) → has_one_kind ds ≡ true → OneKind ds
one_kind_tells [] h = tt
one_kind_tells (d ∷ ds) h =
    let two = both (list_all (λ e. not (e.ino == d.ino) || (kind_byte e.kind == kind_byte d.kind)) ds) (has_one_kind ds) h in
    (kinds_tell d.ino d.kind ds two.0, one_kind_tells ds two.1)

kinds_of_dir : (ds : List Entry) → is_dir ds ≡ true → OneKind ds
kinds_of_dir ds h = one_kind_tells ds (both (ascends ds) (has_one_kind ds) (both (list_all is_entry ds) (ascends ds && has_one_kind ds) h).1).1

-- which pairs stand

some_by : (b : Bool) (x : Entry) (later : Option Entry) → cond b (Some x) later ≡ None → (b ≡ false) × (later ≡ None)
some_by true x later h = absurd cc
some_by false x later h = (refl, h)

none_before : (p : Entry → Bool) (x : Entry) (xs : List Entry) → find p (x ∷ xs) ≡ None → (p x ≡ false) × (find p xs ≡ None)
none_before p x xs h = some_by (p x) x (find p xs) h

any_by : (b : Bool) (x : Entry) (any : Bool) (later : Option Entry) → (b || any) ≡ false → (any ≡ false → later ≡ None) → cond b (Some x) later ≡ None
any_by true x any later h rest = absurd (false≢true (sym h))
any_by false x any later h rest = rest h

pub none_found : (p : Entry → Bool) (xs : List Entry) → list_any p xs ≡ false → find p xs ≡ None
none_found p [] h = refl
none_found p (x ∷ xs) h = any_by (p x) x (list_any p xs) (find p xs) h (none_found p xs)

stands_by : (name : List ℕ) (ino : ℕ) (kind : Kind) (ds : List Entry) (b : Bool) (x : Entry) (any : Bool) (later : Option Entry) → (b || any) ≡ true → (any ≡ true → insert_beside name ino kind ds later ≡ None)
    → insert_beside name ino kind ds (cond b (Some x) later) ≡ None
stands_by name ino kind ds true x any later h rest = refl
stands_by name ino kind ds false x any later h rest = rest h

-- a pair that stands is never inserted
pub stands : (name : List ℕ) (ino : ℕ) (kind : Kind) (ds : List Entry) (p : Entry → Bool) (xs : List Entry) → list_any p xs ≡ true → insert_beside name ino kind ds (find p xs) ≡ None
stands name ino kind ds p [] h = absurd (false≢true h)
stands name ino kind ds p (x ∷ xs) h = stands_by name ino kind ds (p x) x (list_any p xs) (find p xs) h (stands name ino kind ds p xs)

same_number : (a b : ℕ) → a ≡ b → (b == a) ≡ true
same_number a b e = grind (arith, nat_tests)

pair_of_equal : (e d : Entry) → entry_cmp e d ≡ Equal → is_pair e.name e.ino d ≡ true
pair_of_equal e d h = rw ((bytes_eq-Decides d.name e.name).1 (sym (same_name e d h))) (same_number e.ino d.ino (same_ino e d h))

not_equal : (e d : Entry) → entry_cmp e d ≡ Equal → is_pair e.name e.ino d ≡ false → ⊥
not_equal e d h k = false≢true (sym k ∙ pair_of_equal e d h)

-- the size

size_by : (o : Ordering) (e d : Entry) (ds : List Entry) → entry_cmp e d ≡ o → is_pair e.name e.ino d ≡ false → size_of (with_entry e ds) ≡ length (entry_bytes e) + size_of ds
    → size_of (placed o e d ds (with_entry e ds)) ≡ length (entry_bytes e) + size_of (d ∷ ds)
size_by Less e d ds is new h = length-append (entry_bytes e) (dir_bytes (d ∷ ds))
size_by Equal e d ds is new h = absurd (not_equal e d is new)
size_by Greater e d ds is new h = omega (arith, length-append (entry_bytes d) (dir_bytes (with_entry e ds)), length-append (entry_bytes d) (dir_bytes ds), h)

pub size_with : (e : Entry) (ds : List Entry) → find (is_pair e.name e.ino) ds ≡ None → size_of (with_entry e ds) ≡ length (entry_bytes e) + size_of ds
size_with e [] h = length-append (entry_bytes e) []
size_with e (d ∷ ds) h =
    let two = none_before (is_pair e.name e.ino) d ds h in
    size_by (entry_cmp e d) e d ds refl two.0 (size_with e ds two.1)

-- the kinds

there_by : (P : Entry → Type 0) (o : Ordering) (e d : Entry) (ds : List Entry) → AllByRecursion P (placed o e d ds (with_entry e ds)) → (AllByRecursion P (with_entry e ds) → P e) → P e
there_by P Less e d ds h rest = h.0
there_by P Equal e d ds h rest = h.0
there_by P Greater e d ds h rest = rest h.1

there : (P : Entry → Type 0) (e : Entry) (ds : List Entry) → AllByRecursion P (with_entry e ds) → P e
there P e [] h = h.0
there P e (d ∷ ds) h = there_by P (entry_cmp e d) e d ds h (there P e ds)

kinds_by : (o : Ordering) (e d : Entry) (ds : List Entry) → entry_cmp e d ≡ o → is_pair e.name e.ino d ≡ false → OneKind (placed o e d ds (with_entry e ds)) → (OneKind (with_entry e ds) → HasKind e.ino e.kind ds) → HasKind e.ino e.kind (d ∷ ds)
kinds_by Less e d ds is new h rest = h.0
kinds_by Equal e d ds is new h rest = absurd (not_equal e d is new)
kinds_by Greater e d ds is new h rest = ((λ same. sym (there (λ x. x.ino ≡ d.ino → x.kind ≡ d.kind) e ds h.0 (sym same))), rest h.1)

kinds_before : (e : Entry) (ds : List Entry) → find (is_pair e.name e.ino) ds ≡ None → OneKind (with_entry e ds) → HasKind e.ino e.kind ds
kinds_before e [] n h = tt
kinds_before e (d ∷ ds) n h =
    let two = none_before (is_pair e.name e.ino) d ds n in
    kinds_by (entry_cmp e d) e d ds refl two.0 h (kinds_before e ds two.1)

no_dir_by : (e : Entry) (ds : List Entry) (b : Bool) → is_dir (with_entry e ds) ≡ b → find (is_pair e.name e.ino) ds ≡ None → (HasKind e.ino e.kind ds → ⊥) → b ≡ false
no_dir_by e ds true is n h = absurd (h (kinds_before e ds n (kinds_of_dir (with_entry e ds) is)))
no_dir_by e ds false is n h = refl

-- with an inode of the other kind it is no directory
pub no_dir : (e : Entry) (ds : List Entry) → find (is_pair e.name e.ino) ds ≡ None → (HasKind e.ino e.kind ds → ⊥) → is_dir (with_entry e ds) ≡ false
no_dir e ds n h = no_dir_by e ds (is_dir (with_entry e ds)) refl n h

-- numbers that no inode has

number_by : (name : List ℕ) (ino : ℕ) (d : Entry) (b : Bool) → (d.ino == ino) ≡ b → ((1 ≤ d.ino) × (d.ino ≤ inodes_max)) → ((1 ≤ ino) × (ino ≤ inodes_max) → ⊥) → b ≡ false
number_by name ino d true is h out = let same : d.ino ≡ ino = grind (arith, nat_tests) in absurd (out (subst (λ (n : ℕ). (1 ≤ n) × (n ≤ inodes_max)) same h))
number_by name ino d false is h out = refl

and_false : (a b : Bool) → b ≡ false → (a && b) ≡ false
and_false true b h = h
and_false false b h = refl

pub out_of_range : (name : List ℕ) (ino : ℕ) (ds : List Entry) → AllByRecursion IsEntry ds → ((1 ≤ ino) × (ino ≤ inodes_max) → ⊥) → pair_in name ino ds ≡ None
out_of_range name ino [] h out = refl
out_of_range name ino (d ∷ ds) h out =
    let other : is_pair name ino d ≡ false = and_false (bytes_eq d.name name) (d.ino == ino) (number_by name ino d (d.ino == ino) refl h.0.ino out) in
    rw other (out_of_range name ino ds h.1 out)

-- what an insert gives with an inode of the other kind

pub refused_other : (name : List ℕ) (ino : ℕ) (kind : Kind) (ds : List Entry) (content : List ℕ) → IsDir ds → IsEntry (live_entry name ino kind 1)
    → pair_in name ino ds ≡ None → ltb directory_bytes_max ((length name + 8) + size_of ds) ≡ true
    → effects_by content (Some (record { outcome = outcome.No refusal.TooLong; left = None; counts = false; spent = false })) ≡ in_directory content (insert_effect name ino kind ds)
refused_other name ino kind ds content h fits new long =
    let size : size_of (with_entry (live_entry name ino kind 1) ds) ≡ (length name + 8) + size_of ds = size_with (live_entry name ino kind 1) ds new ∙ ap (λ (n : ℕ). n + size_of ds) (sym (live_long (live_entry name ino kind 1) fits refl)) in
    let over : ltb directory_bytes_max (size_of (with_entry (live_entry name ino kind 1) ds)) ≡ true = ap (ltb directory_bytes_max) size ∙ long in
    rw (new, over, dir_told ds h) refl

pub no_other : (name : List ℕ) (ino : ℕ) (kind : Kind) (ds : List Entry) (content : List ℕ) → IsEntry (live_entry name ino kind 1) → (HasKind ino kind ds → ⊥)
    → pair_in name ino ds ≡ None → ltb directory_bytes_max ((length name + 8) + size_of ds) ≡ false
    → None ≡ in_directory content (insert_effect name ino kind ds)
no_other name ino kind ds content fits other new long =
    let size : size_of (with_entry (live_entry name ino kind 1) ds) ≡ (length name + 8) + size_of ds = size_with (live_entry name ino kind 1) ds new ∙ ap (λ (n : ℕ). n + size_of ds) (sym (live_long (live_entry name ino kind 1) fits refl)) in
    let within : ltb directory_bytes_max (size_of (with_entry (live_entry name ino kind 1) ds)) ≡ false = ap (ltb directory_bytes_max) size ∙ long in
    let broken : is_dir (with_entry (live_entry name ino kind 1) ds) ≡ false = no_dir (live_entry name ino kind 1) ds new other in
    rw (new, within, broken) refl

pub stands_so : (name : List ℕ) (ino : ℕ) (kind : Kind) (ds : List Entry) (content : List ℕ) → list_any (is_pair name ino) ds ≡ true → None ≡ in_directory content (insert_effect name ino kind ds)
stands_so name ino kind ds content h = rw (stands name ino kind ds (is_pair name ino) ds h) refl

-- what an operation on a directory gives

abbrev leaving : Outcome → List ℕ → Bool → Bool → List ℕ → Effect
leaving o content counts spent new = record { result = o; content = new; pages = pages_replaced content new; counts = counts; spent = spent }

pub one_is : (ds : List Entry) (o : Outcome) (counts spent : Bool) (left : Option (List ℕ)) (content : List ℕ) → IsDir ds → left_or content left ≡ cond counts (dir_bytes ds) content
    → Some (effect_by content (record { outcome = o; left = left; counts = counts; spent = spent })) ≡ in_directory content (Some (record { outcome = o; entries = ds; counts = counts; spent = spent }))
one_is ds o counts spent left content h is =
    ap (λ (new : List ℕ). Some (leaving o content counts spent new)) is ∙ rw (dir_told ds h) refl

-- an entry of a new pair

pub new_entry : (name : List ℕ) (ino : ℕ) (kind : Kind) → is_name name ≡ true → 1 ≤ ino → ino ≤ inodes_max → IsEntry (live_entry name ino kind 1)
new_entry name ino kind h low high = record { name = h; ino = (low, high); count = (omega arith, omega arith); seen = vector_of_nothing; live = λ _. refl }
