-- What an operation does to the entries of a directory: each keeps its number and kind, and only an insert adds one.
use Rattle.std.proofs.Common.{◌≡◌, ℕ, suc, ◌+◌, Bool, true, false, cond, ◌&&◌, List, [], ◌∷◌, length, map, Option, None, Some, refl, sym, subst}
use Rattle.std.specs.List.{AllByRecursion, find}
use Rattle.std.specs.Ordering.{nat_cmp}
use Rattle.std.specs.Prelude.{nat_lt}
use Rattle.std.specs.Str.{bytes_eq}
use Rattle.std.specs.declared.cmp.Ordering.{Ordering}
use Rattle.std.specs.declared.cmp.Ordering.TheVariants.{Less, Equal, Greater}
use Rattle.role_steps.proofs.of_plain_facts.Options.{none_some, some_same}
use Rattle.locus_ids.specs.declared.ids.Kind.{Kind}
use Rattle.locus_ids.specs.declared.refusal.Refusal.TheVariants as refusal
use Rattle.locus_ids.specs.Sizes.{directory_bytes_max}
use Rattle.trace_book.specs.declared.operation.Op.{Op}
use Rattle.trace_book.specs.declared.operation.Op.TheVariants as op
use Rattle.trace_book.specs.declared.operation.Outcome.TheVariants as outcome
use Rattle.dir_format.specs.declared.entry.Entry.{Entry}
use Rattle.dir_format.specs.declared.looking.LookResult.{LookResult}
use Rattle.dir_format.specs.declared.looking.LookResult.TheVariants as look
use Rattle.dir_format.specs.Contents.{entries_from, entries_of, is_dir}
use Rattle.dir_format.specs.Effects.{DirEffect, dir_effect, becomes, empty_among, find_by, insert_beside, is_spent, live_entry, live_one, moved, probe_beside, remove_entry, removed, rename_beside, rename_by, rename_entry, size_of}
use Rattle.dir_format.specs.Entries.{IsDir, is_live, nothing_seen, pair_in, is_pair, with_entry}
use Rattle.dir_format.specs.Grammar.{dir_bytes}
use Rattle.dir_format.specs.Lookups.{has_name, is_meant, lookup, shown_names}
use Rattle.dir_format.proofs.ContentOf.{content_is, dir_tells}
use Rattle.dir_format.proofs.Placing.{all_with}
use Rattle.dir_reconcile.specs.Joins.{AgreeOnKinds, joined_by, joined_dirs}
use Rattle.dir_reconcile.specs.Rescues.{entry_after_rescue, is_to_rescue, rescued, revived}
use Rattle.dir_reconcile.specs.declared.kept.KeptVector.{KeptVector}
use Rattle.dir_reconcile.proofs.Directories.{all_joined, dir_joined}
use Rattle.dir_reconcile.proofs.Revived.{dir_rescued}
use Rattle.file_content.specs.Pages.{pages_replaced}
use Rattle.file_effects.specs.Effects.{As, Deed, Effect, Mends, Removes, effect, in_directory, is_worded, on_directory, puts, tells}
use Rattle.tree_laws.proofs.Orders.Lists.{all_found}

-- each entry has a number and a kind of this sort
abbrev pub AllNamed : (ℕ → Kind → Type 0) → List Entry → Type 0
AllNamed N ds = AllByRecursion (λ (d : Entry). N d.ino d.kind) ds

-- each entry of the content
abbrev pub ContentNames : (ℕ → Kind → Type 0) → List ℕ → Type 0
ContentNames N content = AllNamed N (entries_of content)

-- ---- the entries of a content ----

-- they are those of a directory
pub content_dir : (bytes : List ℕ) → IsDir (entries_of bytes)
content_dir bytes = over (bytes_eq (dir_bytes ds) bytes) (is_dir ds) refl
  where
    ds : List Entry
    ds = entries_from (length bytes) bytes

    none : IsDir []
    none = record { entries = tt; order = tt; kinds = tt }

    over : (a b : Bool) → is_dir ds ≡ b → IsDir (cond (a && b) ds [])
    over true true e = dir_tells ds e
    over true false e = none
    over false b e = none

-- those that are written are read
pub written_names : (N : ℕ → Kind → Type 0) (ds : List Entry) → IsDir ds → AllNamed N ds → ContentNames N (dir_bytes ds)
written_names N ds dir k = subst (AllNamed N) (sym (content_is (dir_bytes ds) ds (record { spelled = refl; fits = dir }))) k

-- ---- an operation on a directory ----

-- what it leaves, where it is lawful
abbrev LeavesNamed : (ℕ → Kind → Type 0) → Option DirEffect → Type 0
LeavesNamed N None = Unit {0}
LeavesNamed N (Some d) = AllNamed N d.entries

-- the entry that an insert adds
abbrev AddsNamed : (ℕ → Kind → Type 0) → Op → Type 0
AddsNamed N (op.Insert name ino kind) = N ino kind
AddsNamed N _ = Unit {0}

module _ (N : ℕ → Kind → Type 0) (ds : List Entry) (k : AllNamed N ds) where
  abbrev Named : Entry → Type 0
  Named d = N d.ino d.kind

  becomes_named : (after : List Entry) (spent : Bool) → AllNamed N after → AllNamed N (becomes ds after spent).entries
  becomes_named after spent new = over (nat_lt directory_bytes_max (size_of after))
    where
      over : (b : Bool) → AllNamed N (cond {A = DirEffect} b (record { outcome = outcome.No refusal.TooLong; entries = ds; counts = false; spent = false }) (record { outcome = outcome.Done; entries = after; counts = true; spent = spent })).entries
      over true = k
      over false = new

  removed_named : (d : Entry) (seen : List ℕ) → Named d → Named (removed d seen)
  removed_named d seen n = over (is_spent d)
    where
      over : (b : Bool) → Named (cond b d (record { name = d.name; ino = d.ino; kind = d.kind; count = suc d.count; seen = seen }))
      over true = n
      over false = n

  moved_named : (d : Entry) (name : List ℕ) (o : Option Entry) → Named d → Named (moved d name o)
  moved_named d name None n = n
  moved_named d name (Some e) n = n

  probe_named : (name : List ℕ) (o : Option Entry) → AllNamed N (probe_beside name ds o).entries
  probe_named name None = over (nat_lt directory_bytes_max (size_of ds + (length name + 8)))
    where
      over : (b : Bool) → AllNamed N (cond {A = DirEffect} b (record { outcome = outcome.No refusal.TooLong; entries = ds; counts = false; spent = false }) (record { outcome = outcome.Done; entries = ds; counts = false; spent = false })).entries
      over true = k
      over false = k
  probe_named name (Some d) = k

  find_named : (component : List ℕ) (r : LookResult) → AllNamed N (find_by component ds r).entries
  find_named component (look.Found ino kind) = k
  find_named component look.Absent = k
  find_named component (look.Ambiguous a b) = k

  insert_named : (name : List ℕ) (ino : ℕ) (kind : Kind) (o : Option Entry) → N ino kind → LeavesNamed N (insert_beside name ino kind ds o)
  insert_named name ino kind None n = becomes_named (with_entry (live_entry name ino kind 1) ds) false (all_with Named (live_entry name ino kind 1) ds n k)
  insert_named name ino kind (Some d) n = tt

  remove_named : (seen : List ℕ) (o : Option Entry) → ((d : Entry) → o ≡ Some d → Named d) → LeavesNamed N (remove_entry seen ds (live_one o))
  remove_named seen None each = tt
  remove_named seen (Some d) each = over (is_live d)
    where
      over : (b : Bool) → LeavesNamed N (remove_entry seen ds (cond b (Some d) None))
      over true = becomes_named (with_entry (removed d seen) ds) (is_spent d) (all_with Named (removed d seen) ds (removed_named d seen (each d refl)) k)
      over false = tt

  rename_beside_named : (d : Entry) (name : List ℕ) (o : Option Entry) → Named d → AllNamed N (rename_beside d name ds o).entries
  rename_beside_named d name None n = becomes_named (with_entry (moved d name (pair_in name d.ino ds)) (with_entry (removed d nothing_seen) ds)) (is_spent d)
      (all_with Named (moved d name (pair_in name d.ino ds)) (with_entry (removed d nothing_seen) ds) (moved_named d name (pair_in name d.ino ds) n)
      (all_with Named (removed d nothing_seen) ds (removed_named d nothing_seen n) k))
  rename_beside_named d name (Some e) n = k

  rename_entry_named : (component name : List ℕ) (o : Option Entry) → ((d : Entry) → o ≡ Some d → Named d) → AllNamed N (rename_entry component name ds o).entries
  rename_entry_named component name None each = k
  rename_entry_named component name (Some d) each = rename_beside_named d name (find (has_name name) ds) (each d refl)

  rename_named : (component name : List ℕ) (r : LookResult) → AllNamed N (rename_by component name ds r).entries
  rename_named component name (look.Found ino kind) = rename_entry_named component name (find (is_meant component) ds) (λ d e. all_found Named (is_meant component) ds d k e)
  rename_named component name look.Absent = k
  rename_named component name (look.Ambiguous a b) = k

  empty_named : (shown : List (List ℕ)) → AllNamed N (empty_among ds shown).entries
  empty_named [] = k
  empty_named (name ∷ others) = k

  dir_named : (o : Op) (seen : List ℕ) → AddsNamed N o → LeavesNamed N (dir_effect o seen ds)
  dir_named (op.Probe name) seen n = probe_named name (find (has_name name) ds)
  dir_named (op.Find component) seen n = find_named component (lookup ds component)
  dir_named (op.Insert name ino kind) seen n = insert_named name ino kind (pair_in name ino ds) n
  dir_named (op.Remove name ino) seen n = remove_named seen (pair_in name ino ds) (λ d e. all_found Named (is_pair name ino) ds d k e)
  dir_named (op.Rename component name) seen n = rename_named component name (lookup ds component)
  dir_named op.Empty seen n = empty_named (shown_names ds)
  dir_named op.Mend seen n = tt
  dir_named op.Commit seen n = tt
  dir_named op.Abort seen n = tt
  dir_named (op.Read at len) seen n = tt
  dir_named (op.Write at bytes) seen n = tt
  dir_named (op.Cut len) seen n = tt

-- ---- an operation on a content ----

-- An operation may be done on a directory: an insert names what may be named, a mend puts in place what may be named, and nothing is
-- written or cut.
abbrev pub MayDo : (ℕ → Kind → Type 0) → Deed → Type 0
MayDo N (As (op.Insert name ino kind)) = N ino kind
MayDo N (As (op.Write at bytes)) = ⊥
MayDo N (As (op.Cut len)) = ⊥
MayDo N (As _) = Unit {0}
MayDo N (Removes name ino seen) = Unit {0}
MayDo N (Mends several joined) = ContentNames N joined

module _ (N : ℕ → Kind → Type 0) (content : List ℕ) (k : ContentNames N content) where
  in_named : (o : Option DirEffect) → LeavesNamed N o → (e : Effect) → in_directory content o ≡ Some e → ContentNames N e.content
  in_named None n e q = absurd (none_some e q)
  in_named (Some d) n e q = over (is_dir d.entries) refl q
    where
      left : is_dir d.entries ≡ true → (b : Bool) → ContentNames N (cond b (dir_bytes d.entries) content)
      left dir true = written_names N d.entries (dir_tells d.entries dir) n
      left dir false = k

      over : (b : Bool) → is_dir d.entries ≡ b → cond b (Some (on_directory content d)) None ≡ Some e → ContentNames N e.content
      over true dir q = subst (λ (x : Effect). ContentNames N x.content) (some_same (on_directory content d) e q) (left dir d.counts)
      over false dir q = absurd (none_some e q)

  worded_named : (o : Op) → AddsNamed N o → (e : Effect) → cond (is_worded o) (in_directory content (dir_effect o [] (entries_of content))) None ≡ Some e → ContentNames N e.content
  worded_named o n e q = over (is_worded o) q
    where
      over : (b : Bool) → cond b (in_directory content (dir_effect o [] (entries_of content))) None ≡ Some e → ContentNames N e.content
      over true q = in_named (dir_effect o [] (entries_of content)) (dir_named N (entries_of content) k o [] n) e q
      over false q = absurd (none_some e q)

  puts_named : (new : List ℕ) (counts : Bool) → ContentNames N new → ContentNames N (puts content new counts).content
  puts_named new counts n = over (nat_lt directory_bytes_max (length new))
    where
      over : (b : Bool) → ContentNames N (cond b (tells content (outcome.No refusal.TooLong)) (record { result = outcome.Done; content = new; pages = pages_replaced content new; counts = counts; spent = false })).content
      over true = k
      over false = n

  pub effect_named : (d : Deed) → MayDo N d → (e : Effect) → effect d content ≡ Some e → ContentNames N e.content
  effect_named (As (op.Read at len)) n e q = subst (λ (x : Effect). ContentNames N x.content) (some_same _ e q) k
  effect_named (As (op.Write at bytes)) n e q = absurd n
  effect_named (As (op.Cut len)) n e q = absurd n
  effect_named (As (op.Remove name ino)) n e q = absurd (none_some e q)
  effect_named (As op.Mend) n e q = absurd (none_some e q)
  effect_named (As op.Commit) n e q = absurd (none_some e q)
  effect_named (As op.Abort) n e q = absurd (none_some e q)
  effect_named (As (op.Probe name)) n e q = worded_named (op.Probe name) tt e q
  effect_named (As (op.Find component)) n e q = worded_named (op.Find component) tt e q
  effect_named (As (op.Insert name ino kind)) n e q = worded_named (op.Insert name ino kind) n e q
  effect_named (As (op.Rename component name)) n e q = worded_named (op.Rename component name) tt e q
  effect_named (As op.Empty) n e q = worded_named op.Empty tt e q
  effect_named (Removes name ino seen) n e q = in_named (dir_effect (op.Remove name ino) seen (entries_of content)) (dir_named N (entries_of content) k (op.Remove name ino) seen tt) e q
  effect_named (Mends several joined) n e q = subst (λ (x : Effect). ContentNames N x.content) (some_same _ e q) (puts_named joined _ n)

-- ---- a mend ----

module _ (N : ℕ → Kind → Type 0) (one : (ino : ℕ) (a b : Kind) → N ino a → N ino b → a ≡ b) where
  agree_with : (d : Entry) (ds : List Entry) → N d.ino d.kind → AllNamed N ds → AllByRecursion (λ (e : Entry). e.ino ≡ d.ino → e.kind ≡ d.kind) ds
  agree_with d [] n k = tt
  agree_with d (e ∷ ds) n k = ((λ same. one d.ino e.kind d.kind (subst (λ (i : ℕ). N i e.kind) same k.0) n), agree_with d ds n k.1)

  -- entries that name the same have one kind
  pub agree : (xs ys : List Entry) → AllNamed N xs → AllNamed N ys → AgreeOnKinds xs ys
  agree [] ys n k = tt
  agree (x ∷ xs) ys n k = (agree_with x ys n.0 k, agree xs ys n.1 k)

  pub joined_named : (xs ys : List Entry) → AllNamed N xs → AllNamed N ys → AllNamed N (joined_dirs xs ys)
  joined_named xs ys n k = all_joined (λ (d : Entry). N d.ino d.kind) (λ x y a b. over x y (nat_cmp x.count y.count) a b) xs ys n k
    where
      over : (x y : Entry) (o : Ordering) → N x.ino x.kind → N y.ino y.kind → N (joined_by o x y).ino (joined_by o x y).kind
      over x y Less a b = b
      over x y Equal a b = a
      over x y Greater a b = a

  -- the join of such directories is one
  pub joined_two : (xs ys : List Entry) → IsDir xs → IsDir ys → AllNamed N xs → AllNamed N ys → IsDir (joined_dirs xs ys) × AllNamed N (joined_dirs xs ys)
  joined_two xs ys a b n k = (dir_joined xs ys a b (agree xs ys n k), joined_named xs ys n k)

-- a rescue keeps the number and kind of each entry
pub rescued_named : (N : ℕ → Kind → Type 0) (ds : List Entry) (kept : List KeptVector) → AllNamed N ds → AllNamed N (rescued ds kept)
rescued_named N ds kept k = each ds k
  where
    over : (d : Entry) (b : Bool) → N d.ino d.kind → N (cond b (revived d) d).ino (cond b (revived d) d).kind
    over d true n = n
    over d false n = n

    each : (xs : List Entry) → AllNamed N xs → AllNamed N (map (entry_after_rescue ds kept) xs)
    each [] n = tt
    each (x ∷ xs) n = (over x (is_to_rescue ds kept x) n.0, each xs n.1)

-- the content that a rescued directory is written as
pub rescued_written : (N : ℕ → Kind → Type 0) (ds : List Entry) (kept : List KeptVector) → IsDir ds → AllNamed N ds → ContentNames N (dir_bytes (rescued ds kept))
rescued_written N ds kept dir k = written_names N (rescued ds kept) (dir_rescued ds kept dir) (rescued_named N ds kept k)
