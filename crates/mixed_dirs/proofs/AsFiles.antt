-- That an entry is a file or a directory has no part in a join or a rescue but to stay what it is.
use Rattle.std.proofs.Common.{◌≡◌, ℕ, suc, length, ◌&&◌, ◌||◌, not, Bool, true, false, cond, List, [], ◌∷◌, Option, None, Some, refl, sym, ap, ◌∙◌, map}
use Rattle.std.specs.List.{AllByRecursion, list_any, find}
use Rattle.std.specs.Option.{option_map}
use Rattle.std.specs.Ordering.{nat_cmp}
use Rattle.std.specs.declared.cmp.Ordering.{Ordering}
use Rattle.std.specs.declared.cmp.Ordering.TheVariants.{Less, Equal, Greater}
use Rattle.dir_format.specs.declared.entry.Entry.{Entry}
use Rattle.locus_ids.specs.declared.ids.Kind.{Kind}
use Rattle.locus_ids.specs.declared.ids.Kind.TheVariants.{File}
use Rattle.dir_format.specs.Entries.{Ascends, IsEntry, IsDir, OneKind, entry_cmp, is_live, nothing_seen}
use Rattle.dir_format.specs.Grammar.{dir_bytes}
use Rattle.dir_reconcile.specs.declared.kept.KeptVector.{KeptVector}
use Rattle.dir_reconcile.specs.Joins.{joined_by, joined_dirs, joined_entry, AgreeOnKinds}
use Rattle.dir_reconcile.specs.Rescues.{all_seen, chosen, either_entry, entry_after_rescue, has_live, is_of, is_that, is_to_rescue, is_unseen, rescue_wanted, rescued, revived, saw_something, seen_from, seen_with, wants_rescue}
use Rattle.dir_reconcile.proofs.Directories.{dir_joined}
use Rattle.mixed_dirs.specs.Mixed.{IsMixed, as_file, with_kinds}

-- Joins.

entry_as_file : (o : Ordering) (a b : Entry) → joined_by o (as_file a) (as_file b) ≡ as_file (joined_by o a b)
entry_as_file Less a b = refl
entry_as_file Equal a b = refl
entry_as_file Greater a b = refl

from_as_file : (a : Entry) (xs : List Entry) → ((zs : List Entry) → joined_dirs (map as_file xs) (map as_file zs) ≡ map as_file (joined_dirs xs zs)) → (ys : List Entry)
    → joined_dirs (as_file a ∷ map as_file xs) (map as_file ys) ≡ map as_file (joined_dirs (a ∷ xs) ys)
from_as_file a xs others [] = ap (λ (zs : List Entry). as_file a ∷ zs) (others [])
from_as_file a xs others (b ∷ ys) = by (entry_cmp a b) (from_as_file a xs others ys)
  where
    by : (o : Ordering) → joined_dirs (as_file a ∷ map as_file xs) (map as_file ys) ≡ map as_file (joined_dirs (a ∷ xs) ys)
        → elim o [
          | Less ↦ as_file a ∷ joined_dirs (map as_file xs) (map as_file (b ∷ ys))
          | Equal ↦ joined_entry (as_file a) (as_file b) ∷ joined_dirs (map as_file xs) (map as_file ys)
          | Greater ↦ as_file b ∷ joined_dirs (as_file a ∷ map as_file xs) (map as_file ys)
        ] ≡ map as_file (elim o [
          | Less ↦ a ∷ joined_dirs xs (b ∷ ys)
          | Equal ↦ joined_entry a b ∷ joined_dirs xs ys
          | Greater ↦ b ∷ joined_dirs (a ∷ xs) ys
        ])
    by Less rest = ap (λ (zs : List Entry). as_file a ∷ zs) (others (b ∷ ys))
    by Equal rest = ap (λ (z : Entry). z ∷ joined_dirs (map as_file xs) (map as_file ys)) (entry_as_file (nat_cmp a.count b.count) a b) ∙ ap (λ (zs : List Entry). as_file (joined_entry a b) ∷ zs) (others ys)
    by Greater rest = ap (λ (zs : List Entry). as_file b ∷ zs) rest

pub joined_as_files : (xs ys : List Entry) → joined_dirs (map as_file xs) (map as_file ys) ≡ map as_file (joined_dirs xs ys)
joined_as_files [] ys = refl
joined_as_files (x ∷ xs) ys = from_as_file x xs (joined_as_files xs) ys

files_agree_with : (x : Entry) (ys : List Entry) → AllByRecursion (λ b. b.ino ≡ x.ino → b.kind ≡ (as_file x).kind) (map as_file ys)
files_agree_with x [] = tt
files_agree_with x (y ∷ ys) = ((λ same. refl), files_agree_with x ys)

files_agree : (xs ys : List Entry) → AgreeOnKinds (map as_file xs) (map as_file ys)
files_agree [] ys = tt
files_agree (x ∷ xs) ys = (files_agree_with x ys, files_agree xs ys)

pub mixed_joined : (xs ys : List Entry) → IsMixed xs → IsMixed ys → IsMixed (joined_dirs xs ys)
mixed_joined xs ys h k = rw (← joined_as_files xs ys) (dir_joined (map as_file xs) (map as_file ys) h k (files_agree xs ys))

-- A directory is one of these.

-- with any kind
pub entry_of_kind : (d : Entry) (kind : Kind) → IsEntry d → IsEntry (record d { kind = kind })
entry_of_kind d kind h = record { name = h.name; ino = h.ino; count = h.count; seen = h.seen; live = h.live }

entries_of_files : (ds : List Entry) → AllByRecursion IsEntry ds → AllByRecursion IsEntry (map as_file ds)
entries_of_files [] h = tt
entries_of_files (d ∷ ds) h = (entry_of_kind d File h.0, entries_of_files ds h.1)

all_before : (d : Entry) (ds : List Entry) → AllByRecursion (λ e. entry_cmp d e ≡ Less) ds → AllByRecursion (λ e. entry_cmp (as_file d) e ≡ Less) (map as_file ds)
all_before d [] h = tt
all_before d (e ∷ ds) h = (h.0, all_before d ds h.1)

order_of_files : (ds : List Entry) → Ascends ds → Ascends (map as_file ds)
order_of_files [] h = tt
order_of_files (d ∷ ds) h = (all_before d ds h.0, order_of_files ds h.1)

kinds_of_files : (ds : List Entry) → OneKind (map as_file ds)
kinds_of_files [] = tt
kinds_of_files (d ∷ ds) = (files_agree_with d ds, kinds_of_files ds)

pub mixed_dir : (ds : List Entry) → IsDir ds → IsMixed ds
mixed_dir ds h = record { entries = entries_of_files ds h.entries; order = order_of_files ds h.order; kinds = kinds_of_files ds }

pub dir_of_one : (d : Entry) → IsEntry d → IsDir (d ∷ [])
dir_of_one d h = record { entries = (h, tt); order = (tt, tt); kinds = (tt, tt) }

-- Rescues.

live_as_files : (ino : ℕ) (ds : List Entry) → has_live ino (map as_file ds) ≡ has_live ino ds
live_as_files ino [] = refl
live_as_files ino (d ∷ ds) = ap (λ b. (is_of ino d && is_live d) || b) (live_as_files ino ds)

seen_as_files : (ino : ℕ) (v : List ℕ) (ds : List Entry) → seen_from ino v (map as_file ds) ≡ seen_from ino v ds
seen_as_files ino v [] = refl
seen_as_files ino v (d ∷ ds) = seen_as_files ino (seen_with ino v d) ds

wants_as_files : (ds : List Entry) (kept : List KeptVector) (ino : ℕ) → wants_rescue (map as_file ds) kept ino ≡ wants_rescue ds kept ino
wants_as_files ds kept ino =
    ap (λ b. not b && list_any (is_unseen ino (all_seen ino (map as_file ds))) kept) (live_as_files ino ds)
    ∙ ap (λ v. not (has_live ino ds) && list_any (is_unseen ino v) kept) (seen_as_files ino nothing_seen ds)

found_as_files : (p : Entry → Bool) → ((d : Entry) → p (as_file d) ≡ p d) → (ds : List Entry) → find p (map as_file ds) ≡ option_map as_file (find p ds)
found_as_files p same [] = refl
found_as_files p same (d ∷ ds) = ap (λ b. cond b (Some (as_file d)) (find p (map as_file ds))) (same d) ∙ by (found_as_files p same ds) (p d)
  where
    by : find p (map as_file ds) ≡ option_map as_file (find p ds) → (b : Bool) → cond b (Some (as_file d)) (find p (map as_file ds)) ≡ option_map as_file (cond b (Some d) (find p ds))
    by others true = refl
    by others false = others

that_as_files : (o : Option Entry) (d : Entry) → is_that (option_map as_file o) (as_file d) ≡ is_that o d
that_as_files None d = refl
that_as_files (Some e) d = refl

either_as_files : (a b : Option Entry) → either_entry (option_map as_file a) (option_map as_file b) ≡ option_map as_file (either_entry a b)
either_as_files None b = refl
either_as_files (Some d) b = refl

chosen_as_files : (ino : ℕ) (ds : List Entry) → chosen ino (map as_file ds) ≡ option_map as_file (chosen ino ds)
chosen_as_files ino ds =
    ap (λ o. either_entry o (find (is_of ino) (map as_file ds))) (found_as_files (λ d. is_of ino d && saw_something d) (λ d. refl) ds)
    ∙ ap (either_entry (option_map as_file (find (λ d. is_of ino d && saw_something d) ds))) (found_as_files (is_of ino) (λ d. refl) ds)
    ∙ either_as_files (find (λ d. is_of ino d && saw_something d) ds) (find (is_of ino) ds)

module _ (ds : List Entry) (kept : List KeptVector) where
  rescue_as_files : (d : Entry) → is_to_rescue (map as_file ds) kept (as_file d) ≡ is_to_rescue ds kept d
  rescue_as_files d =
      ap (λ b. not (is_live d) && (b && is_that (chosen d.ino (map as_file ds)) (as_file d))) (wants_as_files ds kept d.ino)
      ∙ ap (λ b. not (is_live d) && (wants_rescue ds kept d.ino && b)) (ap (λ o. is_that o (as_file d)) (chosen_as_files d.ino ds) ∙ that_as_files (chosen d.ino ds) d)

  after_as_files : (d : Entry) → entry_after_rescue (map as_file ds) kept (as_file d) ≡ as_file (entry_after_rescue ds kept d)
  after_as_files d = ap (λ b. cond b (revived (as_file d)) (as_file d)) (rescue_as_files d) ∙ by (is_to_rescue ds kept d)
    where
      by : (b : Bool) → cond b (revived (as_file d)) (as_file d) ≡ as_file (cond b (revived d) d)
      by true = refl
      by false = refl

  all_after : (es : List Entry) → map (entry_after_rescue (map as_file ds) kept) (map as_file es) ≡ map as_file (map (entry_after_rescue ds kept) es)
  all_after [] = refl
  all_after (e ∷ es) =
      ap (λ (x : Entry). x ∷ map (entry_after_rescue (map as_file ds) kept) (map as_file es)) (after_as_files e)
      ∙ ap (λ (xs : List Entry). as_file (entry_after_rescue ds kept e) ∷ xs) (all_after es)

  wanted_among : (es : List Entry) → list_any (λ d. not (is_live d) && wants_rescue (map as_file ds) kept d.ino) (map as_file es) ≡ list_any (λ d. not (is_live d) && wants_rescue ds kept d.ino) es
  wanted_among [] = refl
  wanted_among (e ∷ es) =
      ap (λ b. (not (is_live e) && b) || list_any (λ d. not (is_live d) && wants_rescue (map as_file ds) kept d.ino) (map as_file es)) (wants_as_files ds kept e.ino)
      ∙ ap (λ b. (not (is_live e) && wants_rescue ds kept e.ino) || b) (wanted_among es)

  pub rescue_wanted_as_files : rescue_wanted (map as_file ds) kept ≡ rescue_wanted ds kept
  rescue_wanted_as_files = wanted_among ds

  -- a rescue leaves each its kind
  kinds_by : (b : Bool) (d : Entry) → (let made : Entry = record (as_file (cond b (revived d) d)) { kind = d.kind } in made) ≡ cond b (revived d) d
  kinds_by true d = refl
  kinds_by false d = refl

  kinds_back : (es : List Entry) → with_kinds es (map as_file (map (entry_after_rescue ds kept) es)) ≡ map (entry_after_rescue ds kept) es
  kinds_back [] = refl
  kinds_back (e ∷ es) =
      ap (λ (x : Entry). x ∷ with_kinds es (map as_file (map (entry_after_rescue ds kept) es))) (kinds_by (is_to_rescue ds kept e) e)
      ∙ ap (λ (xs : List Entry). entry_after_rescue ds kept e ∷ xs) (kinds_back es)

  pub rescued_with_kinds : with_kinds ds (rescued (map as_file ds) kept) ≡ rescued ds kept
  rescued_with_kinds = ap (with_kinds ds) (all_after ds) ∙ kinds_back ds

  length_rescued : (es fs : List Entry) → length (map (entry_after_rescue fs kept) (map as_file es)) ≡ length es
  length_rescued [] fs = refl
  length_rescued (e ∷ es) fs = ap suc (length_rescued es fs)

  pub as_many : length ds ≡ length (rescued (map as_file ds) kept)
  as_many = sym (length_rescued ds (map as_file ds))

-- The same of what was made.

pub wanted_so : (ds files : List Entry) (kept : List KeptVector) (wants : Bool) → files ≡ map as_file ds → wants ≡ rescue_wanted files kept → wants ≡ rescue_wanted ds kept
wanted_so ds files kept wants is e = e ∙ ap (λ fs. rescue_wanted fs kept) is ∙ rescue_wanted_as_files ds kept

pub as_many_so : (ds files after : List Entry) (kept : List KeptVector) → files ≡ map as_file ds → after ≡ rescued files kept → length ds ≡ length after
as_many_so ds files after kept is e = as_many ds kept ∙ ap (λ fs. length (rescued fs kept)) (sym is) ∙ ap length (sym e)

pub bytes_so : (ds files after : List Entry) (kept : List KeptVector) (bytes : List ℕ) → files ≡ map as_file ds → after ≡ rescued files kept → bytes ≡ dir_bytes (with_kinds ds after) → bytes ≡ dir_bytes (rescued ds kept)
bytes_so ds files after kept bytes is e b = b ∙ ap (λ es. dir_bytes (with_kinds ds es)) (e ∙ ap (λ fs. rescued fs kept) is) ∙ ap dir_bytes (rescued_with_kinds ds kept)
