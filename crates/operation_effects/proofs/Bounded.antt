-- What operations on a directory leave is no longer than a file may be.
use Rattle.std.proofs.Common.{◌≡◌, ℕ, ◌+◌, ◌≤◌, Bool, true, false, cond, ltb, List, [], ◌∷◌, length, refl, sym, subst, Some, None, arith}
use Rattle.std.specs.Prelude.{Option, filter}
use Rattle.std.specs.List.{find}
use Rattle.std.proofs.lemmas.Bool.{false≢true}
use Rattle.std.proofs.lemmas.Bool.Decides.{nat_tests}
use Rattle.locus_ids.specs.Sizes.{directory_bytes_max}
use Rattle.locus_ids.specs.declared.ids.Kind.{Kind}
use Rattle.locus_ids.specs.declared.refusal.Refusal.TheVariants as refusal
use Rattle.trace_book.specs.declared.operation.Outcome.TheVariants.{Done}
use Rattle.dir_format.specs.declared.entry.Entry.{Entry}
use Rattle.dir_format.specs.declared.looking.LookResult.{LookResult}
use Rattle.dir_format.specs.declared.looking.LookResult.TheVariants as look
use Rattle.dir_format.specs.Entries.{pair_in, with_entry, nothing_seen}
use Rattle.dir_format.specs.Grammar.{dir_bytes}
use Rattle.dir_format.specs.Lookups.{has_name, is_meant, lookup, shown_names}
use Rattle.dir_format.specs.Effects.{DirEffect, refuses, becomes, size_of, probe_beside, probe_effect, find_by, find_effect, insert_beside, insert_effect, live_one, live_entry, remove_entry, remove_effect, removed, is_spent, moved, rename_beside, rename_entry, rename_by, rename_effect, empty_among, empty_effect}
use Rattle.operation_effects.specs.Settling.{IsBounded, AreBounded}

becomes_by : (ds after : List Entry) (spent b : Bool) → ltb directory_bytes_max (size_of after) ≡ b → IsBounded (cond b (refuses refusal.TooLong ds) (record { outcome = Done; entries = after; counts = true; spent = spent }))
becomes_by ds after spent true e h = absurd (false≢true h)
becomes_by ds after spent false e h = grind (arith, nat_tests)

bounded_becomes : (ds after : List Entry) (spent : Bool) → IsBounded (becomes ds after spent)
bounded_becomes ds after spent = becomes_by ds after spent (ltb directory_bytes_max (size_of after)) refl

probe_by : (ds : List Entry) (b : Bool) → IsBounded (cond b (refuses refusal.TooLong ds) (record { outcome = Done; entries = ds; counts = false; spent = false }))
probe_by ds true h = absurd (false≢true h)
probe_by ds false h = absurd (false≢true h)

probe_in : (name : List ℕ) (ds : List Entry) (found : Option Entry) → IsBounded (probe_beside name ds found)
probe_in name ds None = probe_by ds (ltb directory_bytes_max (size_of ds + (length name + 8)))
probe_in name ds (Some d) = λ h. absurd (false≢true h)

pub bounded_probe : (name : List ℕ) (ds : List Entry) → IsBounded (probe_effect name ds)
bounded_probe name ds = probe_in name ds (find (has_name name) ds)

found_by : (component : List ℕ) (ds : List Entry) (l : LookResult) → IsBounded (find_by component ds l)
found_by component ds (look.Found ino kind) h = absurd (false≢true h)
found_by component ds look.Absent h = absurd (false≢true h)
found_by component ds (look.Ambiguous a b) h = absurd (false≢true h)

pub bounded_find : (component : List ℕ) (ds : List Entry) → IsBounded (find_effect component ds)
bounded_find component ds = found_by component ds (lookup ds component)

empty_by : (ds : List Entry) (names : List (List ℕ)) → IsBounded (empty_among ds names)
empty_by ds [] h = absurd (false≢true h)
empty_by ds (name ∷ names) h = absurd (false≢true h)

pub bounded_empty : (ds : List Entry) → IsBounded (empty_effect ds)
bounded_empty ds = empty_by ds (shown_names ds)

insert_by : (name : List ℕ) (ino : ℕ) (kind : Kind) (ds : List Entry) (found : Option Entry) → AreBounded (insert_beside name ino kind ds found)
insert_by name ino kind ds None = bounded_becomes ds (with_entry (live_entry name ino kind 1) ds) false
insert_by name ino kind ds (Some d) = tt

pub bounded_insert : (name : List ℕ) (ino : ℕ) (kind : Kind) (ds : List Entry) → AreBounded (insert_effect name ino kind ds)
bounded_insert name ino kind ds = insert_by name ino kind ds (pair_in name ino ds)

remove_by : (seen : List ℕ) (ds : List Entry) (found : Option Entry) → AreBounded (remove_entry seen ds found)
remove_by seen ds None = tt
remove_by seen ds (Some d) = bounded_becomes ds (with_entry (removed d seen) ds) (is_spent d)

pub bounded_remove : (name : List ℕ) (ino : ℕ) (seen : List ℕ) (ds : List Entry) → AreBounded (remove_effect name ino seen ds)
bounded_remove name ino seen ds = remove_by seen ds (live_one (pair_in name ino ds))

beside_by : (d : Entry) (name : List ℕ) (ds : List Entry) (found : Option Entry) → IsBounded (rename_beside d name ds found)
beside_by d name ds None = bounded_becomes ds (with_entry (moved d name (pair_in name d.ino ds)) (with_entry (removed d nothing_seen) ds)) (is_spent d)
beside_by d name ds (Some e) = λ h. absurd (false≢true h)

entry_by : (component name : List ℕ) (ds : List Entry) (found : Option Entry) → IsBounded (rename_entry component name ds found)
entry_by component name ds None = λ h. absurd (false≢true h)
entry_by component name ds (Some d) = beside_by d name ds (find (has_name name) ds)

rename_so : (component name : List ℕ) (ds : List Entry) (l : LookResult) → IsBounded (rename_by component name ds l)
rename_so component name ds (look.Found ino kind) = entry_by component name ds (find (is_meant component) ds)
rename_so component name ds look.Absent = λ h. absurd (false≢true h)
rename_so component name ds (look.Ambiguous a b) = λ h. absurd (false≢true h)

pub bounded_rename : (component name : List ℕ) (ds : List Entry) → IsBounded (rename_effect component name ds)
bounded_rename component name ds = rename_so component name ds (lookup ds component)
