-- What an operation on a directory leaves is a directory.
use Rattle.std.proofs.Common.{◌≡◌, ℕ, suc, ◌+◌, ◌%◌, ◌==◌, ◌<◌, ◌≤◌, ◌^◌, Bool, true, false, ◌&&◌, cond, nat_lt, List, [], ◌∷◌, length, Option, Some, None, refl, sym, ap, subst, arith}
use Rattle.std.proofs.lemmas.Bool.Decides.{nat_tests}
use Rattle.std.specs.List.{find, AllByRecursion}
use Rattle.std.specs.Str.{bytes_eq}
use Rattle.role_steps.proofs.of_plain_facts.Numbers.{equal}
use Rattle.locus_ids.specs.declared.ids.Kind.{Kind}
use Rattle.locus_ids.specs.declared.refusal.Refusal.TheVariants as refusal
use Rattle.locus_ids.specs.Sizes.{directory_bytes_max, inodes_max}
use Rattle.trace_book.specs.Names.{is_name}
use Rattle.trace_book.specs.declared.operation.Outcome.TheVariants as outcome
use Rattle.dir_format.specs.declared.entry.Entry.{Entry}
use Rattle.dir_format.specs.declared.looking.LookResult.{LookResult}
use Rattle.dir_format.specs.declared.looking.LookResult.TheVariants as look
use Rattle.dir_format.specs.Contents.{entries_from, entries_of, is_dir}
use Rattle.dir_format.specs.Effects.{DirEffect, becomes, find_by, find_effect, empty_among, empty_effect, insert_beside, insert_effect, is_spent, live_entry, moved, probe_beside, probe_effect, removed, rename_beside, rename_by, rename_effect, rename_entry, size_of}
use Rattle.dir_format.specs.Entries.{HasKind, HasKindOf, IsDir, IsEntry, IsVector, is_live, is_pair, max_count, nothing_seen, pair_in, with_entry}
use Rattle.dir_format.specs.Grammar.{dir_bytes}
use Rattle.dir_format.specs.Lookups.{has_name, is_meant, lookup, shown_names}
use Rattle.dir_format.proofs.ContentOf.{content_is, dir_tells}
use Rattle.dir_format.proofs.FirstOf.{find_has, find_passes, kind_of_found, meant_is_live, removed_where_free}
use Rattle.dir_format.proofs.Following.{vector_of_nothing}
use Rattle.dir_format.proofs.Placing.{all_with, dir_with, kind-removed}
use Rattle.dir_format.proofs.Tests.{both}

-- ---- the entries of a content ----

dir_by : (bytes : List ℕ) (xs ds : List Entry) (b : Bool) → (bytes_eq (dir_bytes xs) bytes && is_dir xs) ≡ b → cond b xs [] ≡ ds → is_dir ds ≡ true
dir_by bytes xs ds true e is = subst (λ (ys : List Entry). is_dir ys ≡ true) is (both (bytes_eq (dir_bytes xs) bytes) (is_dir xs) e).1
dir_by bytes xs ds false e is = subst (λ (ys : List Entry). is_dir ys ≡ true) is refl

-- a directory's entries pass the test
pub dir_told : (ds : List Entry) → IsDir ds → is_dir ds ≡ true
dir_told ds h = (let bytes : List ℕ = dir_bytes ds in
    dir_by bytes (entries_from (length bytes) bytes) ds (bytes_eq (dir_bytes (entries_from (length bytes) bytes)) bytes && is_dir (entries_from (length bytes) bytes)) refl (content_is bytes ds (record { spelled = refl; fits = h })))

-- the entries of any content are those of a directory
pub entries_pass : (bytes : List ℕ) → is_dir (entries_of bytes) ≡ true
entries_pass bytes = dir_by bytes (entries_from (length bytes) bytes) (entries_of bytes) (bytes_eq (dir_bytes (entries_from (length bytes) bytes)) bytes && is_dir (entries_from (length bytes) bytes)) refl refl

pub entries_dir : (bytes : List ℕ) → IsDir (entries_of bytes)
entries_dir bytes = dir_tells (entries_of bytes) (entries_pass bytes)

-- ---- what stays ----

probe_same : (name : List ℕ) (ds : List Entry) (o : Option Entry) → (probe_beside name ds o).entries ≡ ds
probe_same name ds (Some d) = refl
probe_same name ds None = over (nat_lt directory_bytes_max (size_of ds + (length name + 8)))
  where
    over : (b : Bool) → (cond {A = DirEffect} b (record { outcome = outcome.No refusal.TooLong; entries = ds; counts = false; spent = false }) (record { outcome = outcome.Done; entries = ds; counts = false; spent = false })).entries ≡ ds
    over true = refl
    over false = refl

find_same : (component : List ℕ) (ds : List Entry) (r : LookResult) → (find_by component ds r).entries ≡ ds
find_same component ds (look.Found ino kind) = refl
find_same component ds look.Absent = refl
find_same component ds (look.Ambiguous a b) = refl

empty_same : (ds : List Entry) (names : List (List ℕ)) → (empty_among ds names).entries ≡ ds
empty_same ds [] = refl
empty_same ds (n ∷ ns) = refl

passes_as : (ds es : List Entry) → es ≡ ds → IsDir ds → is_dir es ≡ true
passes_as ds es same h = subst (λ (xs : List Entry). is_dir xs ≡ true) (sym same) (dir_told ds h)

pub probe_passes : (name : List ℕ) (ds : List Entry) → IsDir ds → is_dir (probe_effect name ds).entries ≡ true
probe_passes name ds h = passes_as ds (probe_effect name ds).entries (probe_same name ds (find (has_name name) ds)) h

pub find_leaves : (component : List ℕ) (ds : List Entry) → IsDir ds → is_dir (find_effect component ds).entries ≡ true
find_leaves component ds h = passes_as ds (find_effect component ds).entries (find_same component ds (lookup ds component)) h

pub empty_leaves : (ds : List Entry) → IsDir ds → is_dir (empty_effect ds).entries ≡ true
empty_leaves ds h = passes_as ds (empty_effect ds).entries (empty_same ds (shown_names ds)) h

-- ---- one entry more, or another ----

pub becomes_passes : (ds after : List Entry) (spent : Bool) → IsDir ds → IsDir after → is_dir (becomes ds after spent).entries ≡ true
becomes_passes ds after spent h k = over (nat_lt directory_bytes_max (size_of after))
  where
    over : (b : Bool) → is_dir (cond {A = DirEffect} b (record { outcome = outcome.No refusal.TooLong; entries = ds; counts = false; spent = false }) (record { outcome = outcome.Done; entries = after; counts = true; spent = spent })).entries ≡ true
    over true = dir_told ds h
    over false = dir_told after k

-- a removed entry
odd_then : (n : ℕ) → ((n % 2) == 1) ≡ true → ((suc n % 2) == 1) ≡ true → ⊥
odd_then n h k = grind (arith, nat_tests)

below_max : (n : ℕ) → (n == max_count) ≡ false → n < 2 ^ 32 → suc n < 2 ^ 32
below_max n h k = grind (arith, nat_tests)

removed_entry : (d : Entry) (seen : List ℕ) → IsEntry d → is_live d ≡ true → IsVector seen → IsEntry (removed d seen)
removed_entry d seen h live v = over (is_spent d) refl
  where
    over : (b : Bool) → is_spent d ≡ b → IsEntry (cond b d (record { name = d.name; ino = d.ino; kind = d.kind; count = suc d.count; seen = seen }))
    over true e = h
    over false e = record { name = h.name; ino = h.ino; count = (omega arith, below_max d.count e h.count.1); seen = v; live = λ l. absurd (odd_then d.count live l) }

pub removed_ino : (d : Entry) (seen : List ℕ) → (removed d seen).ino ≡ d.ino
removed_ino d seen = over (is_spent d)
  where
    over : (b : Bool) → (cond b d (record { name = d.name; ino = d.ino; kind = d.kind; count = suc d.count; seen = seen })).ino ≡ d.ino
    over true = refl
    over false = refl

has_kind_as : (d e : Entry) (ds : List Entry) → e.ino ≡ d.ino → e.kind ≡ d.kind → HasKindOf d ds → HasKindOf e ds
has_kind_as d e ds ino kind h = subst (λ (n : ℕ). HasKind n e.kind ds) (sym ino) (subst (λ (k : Kind). HasKind d.ino k ds) (sym kind) h)

-- ---- remove ----

pub remove_passes : (d : Entry) (seen : List ℕ) (ds : List Entry) → IsDir ds → IsEntry d → is_live d ≡ true → HasKindOf d ds → IsVector seen → is_dir (becomes ds (with_entry (removed d seen) ds) (is_spent d)).entries ≡ true
remove_passes d seen ds h fits live kinds v = becomes_passes ds (with_entry (removed d seen) ds) (is_spent d) h
    (dir_with (removed d seen) ds (removed_entry d seen fits live v) (has_kind_as d (removed d seen) ds (removed_ino d seen) (kind-removed d seen) kinds) h)

-- ---- insert ----

new_entry : (name : List ℕ) (ino : ℕ) (kind : Kind) → is_name name ≡ true → 1 ≤ ino → ino ≤ inodes_max → IsEntry (live_entry name ino kind 1)
new_entry name ino kind h low high = record { name = h; ino = (low, high); count = (omega arith, omega arith); seen = vector_of_nothing; live = λ _. refl }

-- no entry is of this number
abbrev pub Lacks : ℕ → List Entry → Type 0
Lacks ino ds = AllByRecursion (λ (d : Entry). d.ino ≡ ino → ⊥) ds

lacks_kind : (ino : ℕ) (kind : Kind) (ds : List Entry) → Lacks ino ds → HasKind ino kind ds
lacks_kind ino kind [] h = tt
lacks_kind ino kind (d ∷ ds) h = ((λ same. absurd (h.0 same)), lacks_kind ino kind ds h.1)

lacks_pair : (name : List ℕ) (ino : ℕ) (ds : List Entry) → Lacks ino ds → pair_in name ino ds ≡ None
lacks_pair name ino [] h = refl
lacks_pair name ino (d ∷ ds) h = over (lacks_pair name ino ds h.1) (is_pair name ino d) refl
  where
    over : pair_in name ino ds ≡ None → (b : Bool) → is_pair name ino d ≡ b → cond b (Some d) (pair_in name ino ds) ≡ None
    over later true e = absurd (h.0 (equal d.ino ino (both (bytes_eq d.name name) (d.ino == ino) e).1))
    over later false e = later

pub insert_passes : (name : List ℕ) (ino : ℕ) (kind : Kind) (ds : List Entry) → IsDir ds → is_name name ≡ true → 1 ≤ ino → ino ≤ inodes_max → Lacks ino ds → (d : DirEffect) × (insert_effect name ino kind ds ≡ Some d) × (is_dir d.entries ≡ true)
insert_passes name ino kind ds h named low high lacks = (
  becomes ds (with_entry (live_entry name ino kind 1) ds) false,
  ap (insert_beside name ino kind ds) (lacks_pair name ino ds lacks),
  becomes_passes ds (with_entry (live_entry name ino kind 1) ds) false h (dir_with (live_entry name ino kind 1) ds (new_entry name ino kind named low high) (lacks_kind ino kind ds lacks) h),
)

-- ---- rename ----

even_below : (n : ℕ) → ((n % 2) == 1) ≡ false → n < 2 ^ 32 → suc n < 2 ^ 32
even_below n h k = grind (arith, nat_tests)

module _ (component name : List ℕ) (ds : List Entry) (h : IsDir ds) (named : is_name name ≡ true) where
  moved_entry : (d : Entry) → IsEntry d → find (has_name name) ds ≡ None → (o : Option Entry) → pair_in name d.ino ds ≡ o → IsEntry (moved d name o)
  moved_entry d fits free None e = record { name = named; ino = fits.ino; count = (omega arith, omega arith); seen = vector_of_nothing; live = λ _. refl }
  moved_entry d fits free (Some x) e = record { name = named; ino = fits.ino; count = (omega arith, even_below x.count gone (find_has IsEntry (is_pair name d.ino) ds x e h.entries).count.1); seen = vector_of_nothing; live = λ _. refl }
    where
      gone : is_live x ≡ false
      gone = removed_where_free name d.ino ds x free e

  moved_ino : (d : Entry) (o : Option Entry) → (moved d name o).ino ≡ d.ino
  moved_ino d None = refl
  moved_ino d (Some x) = refl

  moved_kind : (d : Entry) (o : Option Entry) → (moved d name o).kind ≡ d.kind
  moved_kind d None = refl
  moved_kind d (Some x) = refl

  renames : (d : Entry) → find (is_meant component) ds ≡ Some d → (o : Option Entry) → find (has_name name) ds ≡ o → is_dir (rename_beside d name ds o).entries ≡ true
  renames d e (Some x) free = dir_told ds h
  renames d e None free = becomes_passes ds (with_entry new (with_entry gone ds)) (is_spent d) h
      (dir_with new (with_entry gone ds) (moved_entry d fits free (pair_in name d.ino ds) refl)
      (has_kind_as d new (with_entry gone ds) (moved_ino d (pair_in name d.ino ds)) (moved_kind d (pair_in name d.ino ds)) (all_with (λ x. x.ino ≡ d.ino → x.kind ≡ d.kind) gone ds (λ _. kind-removed d nothing_seen) kinds))
      (dir_with gone ds (removed_entry d nothing_seen fits live vector_of_nothing) (has_kind_as d gone ds (removed_ino d nothing_seen) (kind-removed d nothing_seen) kinds) h))
    where
      gone : Entry
      gone = removed d nothing_seen

      new : Entry
      new = moved d name (pair_in name d.ino ds)

      fits : IsEntry d
      fits = find_has IsEntry (is_meant component) ds d e h.entries

      live : is_live d ≡ true
      live = meant_is_live (is_live d) _ (find_passes (is_meant component) ds d e)

      kinds : HasKindOf d ds
      kinds = kind_of_found (is_meant component) ds d e h.kinds

  renames_found : (o : Option Entry) → find (is_meant component) ds ≡ o → is_dir (rename_entry component name ds o).entries ≡ true
  renames_found None e = dir_told ds h
  renames_found (Some d) e = renames d e (find (has_name name) ds) refl

  renames_by : (r : LookResult) → is_dir (rename_by component name ds r).entries ≡ true
  renames_by (look.Found ino kind) = renames_found (find (is_meant component) ds) refl
  renames_by look.Absent = dir_told ds h
  renames_by (look.Ambiguous a b) = dir_told ds h

pub rename_passes : (component name : List ℕ) (ds : List Entry) → IsDir ds → is_name name ≡ true → is_dir (rename_effect component name ds).entries ≡ true
rename_passes component name ds h named = renames_by component name ds h named (lookup ds component)
