-- What each operation on a directory gives, and the entries after it, where there is room.
use Rattle.std.specs.Prelude.{ℕ, suc, ◌+◌, ◌==◌, Bool, true, false, cond, List, [], ◌∷◌, length, nat_lt, Option, None, Some}
use Rattle.std.specs.List.{find}
use Rattle.field_codec.specs.of_locus_ids.Sizes.{directory_bytes_max}
use Rattle.field_codec.specs.of_locus_ids.declared.ids.Kind.{Kind}
use Rattle.field_codec.specs.of_locus_ids.declared.refusal.Refusal.{Refusal}
use Rattle.field_codec.specs.of_locus_ids.declared.refusal.Refusal.TheVariants as refusal
use Rattle.trace_book.specs.declared.operation.Op.{Op}
use Rattle.trace_book.specs.declared.operation.Op.TheVariants as op
use Rattle.trace_book.specs.declared.operation.Outcome.{Outcome}
use Rattle.trace_book.specs.declared.operation.Outcome.TheVariants.{Done, Found, No}
use Rattle.dir_format.specs.declared.entry.Entry.{Entry}
use Rattle.dir_format.specs.declared.looking.LookResult.{LookResult}
use Rattle.dir_format.specs.declared.looking.LookResult.TheVariants as look
use Rattle.dir_format.specs.Entries.{is_live, nothing_seen, max_count, pair_in, with_entry}
use Rattle.dir_format.specs.Grammar.{dir_bytes}
use Rattle.dir_format.specs.Lookups.{has_name, is_meant, lookup, shown_names}

-- what an operation on a directory gives: its outcome, the entries after it, whether it counts as a change of the content,
-- and whether a count that had to rise has its greatest value, where it stands still
pub record DirEffect : Type 0 where
  pub outcome : Outcome
  pub entries : List Entry
  pub counts : Bool
  pub spent : Bool

-- an answer that leaves the directory as it is
abbrev pub answers : Outcome → List Entry → DirEffect
answers outcome ds = record { outcome = outcome; entries = ds; counts = false; spent = false }

abbrev pub refuses : Refusal → List Entry → DirEffect
refuses why ds = answers (No why) ds

abbrev pub size_of : List Entry → ℕ
size_of ds = length (dir_bytes ds)

-- the directory becomes this one, unless that is too long
abbrev pub becomes : List Entry → List Entry → Bool → DirEffect
becomes ds after spent = cond (nat_lt directory_bytes_max (size_of after)) (refuses refusal.TooLong ds) (record { outcome = Done; entries = after; counts = true; spent = spent })

-- a live entry of this count
abbrev pub live_entry : List ℕ → ℕ → Kind → ℕ → Entry
live_entry name ino kind count = record { name = name; ino = ino; kind = kind; count = count; seen = nothing_seen }

-- the count of the entry can't rise
abbrev pub is_spent : Entry → Bool
is_spent d = d.count == max_count

-- the live entry as removed by one who saw this version; its count rises by one, or stands still at the greatest
abbrev pub removed : Entry → List ℕ → Entry
removed d seen = cond (is_spent d) d (record { name = d.name; ino = d.ino; kind = d.kind; count = suc d.count; seen = seen })

-- probe: the name has no live entry, and an entry of it fits
abbrev pub probe_beside : List ℕ → List Entry → Option Entry → DirEffect
probe_beside name ds None = cond (nat_lt directory_bytes_max (size_of ds + (length name + 8))) (refuses refusal.TooLong ds) (answers Done ds)
probe_beside name ds (Some d) = refuses (refusal.Exists d.ino) ds

abbrev pub probe_effect : List ℕ → List Entry → DirEffect
probe_effect name ds = probe_beside name ds (find (has_name name) ds)

-- find: the only live entry that the component means
abbrev pub find_by : List ℕ → List Entry → LookResult → DirEffect
find_by component ds (look.Found ino kind) = answers (Found ino kind) ds
find_by component ds look.Absent = refuses (refusal.Absent component) ds
find_by component ds (look.Ambiguous a b) = refuses (refusal.Ambiguous a b) ds

abbrev pub find_effect : List ℕ → List Entry → DirEffect
find_effect component ds = find_by component ds (lookup ds component)

-- insert: a new pair of name and inode, live with count 1; one that stands, live or removed, is never inserted
abbrev pub insert_beside : List ℕ → ℕ → Kind → List Entry → Option Entry → Option DirEffect
insert_beside name ino kind ds None = Some (becomes ds (with_entry (live_entry name ino kind 1) ds) false)
insert_beside name ino kind ds (Some d) = None

abbrev pub insert_effect : List ℕ → ℕ → Kind → List Entry → Option DirEffect
insert_effect name ino kind ds = insert_beside name ino kind ds (pair_in name ino ds)

-- remove: the pair, which is live, is removed by one who saw this version
abbrev pub live_one : Option Entry → Option Entry
live_one None = None
live_one (Some d) = cond (is_live d) (Some d) None

abbrev pub remove_entry : List ℕ → List Entry → Option Entry → Option DirEffect
remove_entry seen ds None = None
remove_entry seen ds (Some d) = Some (becomes ds (with_entry (removed d seen) ds) (is_spent d))

abbrev pub remove_effect : List ℕ → ℕ → List ℕ → List Entry → Option DirEffect
remove_effect name ino seen ds = remove_entry seen ds (live_one (pair_in name ino ds))

-- the pair of a new name and the inode of the moved entry, live: new, or once more where it stands as removed
abbrev pub moved : Entry → List ℕ → Option Entry → Entry
moved d name None = live_entry name d.ino d.kind 1
moved d name (Some e) = live_entry name d.ino d.kind (suc e.count)

-- rename: the old pair is removed by one who saw nothing, and the pair with the new name is live
abbrev pub rename_beside : Entry → List ℕ → List Entry → Option Entry → DirEffect
rename_beside d name ds None = becomes ds (with_entry (moved d name (pair_in name d.ino ds)) (with_entry (removed d nothing_seen) ds)) (is_spent d)
rename_beside d name ds (Some e) = refuses (refusal.Exists e.ino) ds

abbrev pub rename_entry : List ℕ → List ℕ → List Entry → Option Entry → DirEffect
rename_entry component name ds None = refuses (refusal.Absent component) ds
rename_entry component name ds (Some d) = rename_beside d name ds (find (has_name name) ds)

abbrev pub rename_by : List ℕ → List ℕ → List Entry → LookResult → DirEffect
rename_by component name ds (look.Found ino kind) = rename_entry component name ds (find (is_meant component) ds)
rename_by component name ds look.Absent = refuses (refusal.Absent component) ds
rename_by component name ds (look.Ambiguous a b) = refuses (refusal.Ambiguous a b) ds

abbrev pub rename_effect : List ℕ → List ℕ → List Entry → DirEffect
rename_effect component name ds = rename_by component name ds (lookup ds component)

-- empty: the directory shows no name
abbrev pub empty_among : List Entry → List (List ℕ) → DirEffect
empty_among ds [] = answers Done ds
empty_among ds (shown ∷ others) = refuses (refusal.NotEmpty shown) ds

abbrev pub empty_effect : List Entry → DirEffect
empty_effect ds = empty_among ds (shown_names ds)

-- what an operation gives on a directory, where a removal sees this vector; none where it isn't lawful there, or is no
-- operation on a directory
abbrev pub dir_effect : Op → List ℕ → List Entry → Option DirEffect
dir_effect (op.Probe name) seen ds = Some (probe_effect name ds)
dir_effect (op.Find component) seen ds = Some (find_effect component ds)
dir_effect (op.Insert name ino kind) seen ds = insert_effect name ino kind ds
dir_effect (op.Remove name ino) seen ds = remove_effect name ino seen ds
dir_effect (op.Rename component name) seen ds = Some (rename_effect component name ds)
dir_effect op.Empty seen ds = Some (empty_effect ds)
dir_effect _ seen ds = None
