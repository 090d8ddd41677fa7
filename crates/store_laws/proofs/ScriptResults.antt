-- What operations on directories and contents give: no refusal says that the epoch was left, and a number that is found is at least 1.
use Rattle.std.proofs.Common.{◌≡◌, ℕ, ◌≤◌, ◌==◌, nat_le, nat_lt, ◌+◌, not, Bool, true, false, cond, ◌&&◌, ◌||◌, List, [], ◌∷◌, length, Option, Some, None, refl, sym, subst, arith}
use Rattle.std.proofs.lemmas.Bool.Decides.{nat_tests}
use Rattle.std.specs.List.{find, list_all, filter}
use Rattle.locus_ids.specs.declared.refusal.Refusal.{Refusal}
use Rattle.locus_ids.specs.declared.refusal.Refusal.TheVariants as refusal
use Rattle.locus_ids.specs.declared.ids.Kind.{Kind}
use Rattle.locus_ids.specs.declared.ids.Stamp.{Stamp}
use Rattle.trace_book.specs.declared.operation.Op.{Op}
use Rattle.trace_book.specs.declared.operation.Op.TheVariants as op
use Rattle.trace_book.specs.declared.operation.Outcome.{Outcome}
use Rattle.trace_book.specs.declared.operation.Outcome.TheVariants as outcome
use Rattle.std.specs.Str.{bytes_eq}
use Rattle.role_steps.proofs.of_plain_facts.Numbers.{equal}
use Rattle.role_steps.proofs.of_plain_facts.Options.{some_same}
use Rattle.role_steps.proofs.of_plain_facts.Tests.{and_first, and_second, true_false}
use Rattle.trace_book.specs.Names.{is_name}
use Rattle.dir_format.specs.declared.entry.Entry.{Entry}
use Rattle.dir_format.specs.declared.looking.LookResult.{LookResult}
use Rattle.dir_format.specs.declared.looking.LookResult.TheVariants as look
use Rattle.dir_format.specs.Contents.{is_entry, is_dir, entries_from, entries_of, has_one_kind, ascends}
use Rattle.dir_format.specs.Effects.{DirEffect, becomes, probe_beside, probe_effect, rename_effect, find_by, find_effect, insert_beside, insert_effect, remove_entry, live_one, rename_beside, rename_entry, rename_by, empty_among, empty_effect, size_of}
use Rattle.dir_format.specs.Entries.{pair_in}
use Rattle.dir_format.specs.Grammar.{dir_bytes}
use Rattle.dir_format.specs.Lookups.{has_name, is_meant, look_among, lookup, shown_names}
use Rattle.file_effects.specs.Effects.{As, Removes, Mends, Effect, effect, in_directory, on_directory, is_worded, is_refusal}
use Rattle.file_content.specs.Pages.{pages_needed}
use Rattle.file_effects.specs.declared.work.Work.{Work}
use Rattle.file_effects.specs.Works.{result_in, commit_result}
use Rattle.commit_graph.specs.declared.history.Version.{Version}
use Rattle.commit_graph.specs.Vectors.{vector_of}
use Rattle.locus_ids.specs.declared.ids.Serial.{Serial}
use Rattle.locus_ids.specs.Sizes.{directory_bytes_max, file_bytes_max, inodes_max}
use Rattle.file_content.specs.Pages.{pages_replaced}
use Rattle.file_effects.specs.Effects.{tells, writes}
use Rattle.tree_model.specs.declared.instance.Instance.{Instance}
use Rattle.tree_model.specs.Given.{gives_act, instance_gives}
use Rattle.tree_model.specs.Mending.{joined_content}
use Rattle.tree_model.specs.Same.{same_kind, same_outcome, same_refusal, is_given}
use Rattle.tree_model.specs.State.{TreeState, instance_in, kept_of}
use Rattle.tree_model.specs.Working.{are_several, effect_of, effect_on, free_pages, in_room, is_spent, is_target, result_on, sees}
use Rattle.role_steps.specs.Own.{Every}
use Rattle.tree_laws.proofs.Boots.{every_filter}
use Rattle.store_laws.proofs.ScriptFitting.{NotChanged}

-- ---- numbers in directories ----

abbrev Numbered : Entry → Type 0
Numbered d = 1 ≤ d.ino

-- a number that is found is at least 1
abbrev pub FoundRight : LookResult → Type 0
FoundRight (look.Found ino kind) = 1 ≤ ino
FoundRight _ = Unit {0}

from_one : (n : ℕ) → nat_le 1 n ≡ true → 1 ≤ n
from_one n e = grind (arith, nat_tests)

entry_numbered : (d : Entry) → is_entry d ≡ true → Numbered d
entry_numbered d e = from_one d.ino (and_first (nat_le 1 d.ino) (nat_le d.ino inodes_max) (and_first (nat_le 1 d.ino && nat_le d.ino inodes_max) _ (and_second (is_name d.name) _ e)))

all_numbered : (ds : List Entry) → list_all is_entry ds ≡ true → Every Numbered ds
all_numbered [] e = tt
all_numbered (d ∷ ds) e = (entry_numbered d (and_first (is_entry d) (list_all is_entry ds) e), all_numbered ds (and_second (is_entry d) (list_all is_entry ds) e))

entries_numbered : (bytes : List ℕ) → Every Numbered (entries_of bytes)
entries_numbered bytes = over (bytes_eq (dir_bytes ds) bytes) (is_dir ds) refl
  where
    ds : List Entry
    ds = entries_from (length bytes) bytes

    over : (a b : Bool) → is_dir ds ≡ b → Every Numbered (cond (a && b) ds [])
    over true true e = all_numbered ds (and_first (list_all is_entry ds) (ascends ds && has_one_kind ds) e)
    over true false e = tt
    over false b e = tt

among_right : (ds : List Entry) → Every Numbered ds → FoundRight (look_among ds)
among_right [] h = tt
among_right (d ∷ []) h = h.0
among_right (d ∷ other ∷ others) h = tt

-- what is found in a content
pub found_right : (bytes component : List ℕ) → FoundRight (lookup (entries_of bytes) component)
found_right bytes component = among_right (filter (is_meant component) (entries_of bytes)) (every_filter Numbered (is_meant component) (entries_of bytes) (entries_numbered bytes))

-- ---- operations on directories ----

-- no refusal says that the epoch was left, and what is found has a number
abbrev pub ResultRight : Op → Outcome → Type 0
ResultRight o (outcome.No why) = NotChanged why
ResultRight (op.Find component) (outcome.Found ino kind) = 1 ≤ ino
ResultRight (op.Find component) _ = ⊥
ResultRight _ _ = Unit {0}

-- no refusal says so
abbrev pub OutcomeRight : Outcome → Type 0
OutcomeRight (outcome.No why) = NotChanged why
OutcomeRight _ = Unit {0}

-- no operation but find finds a number
abbrev NotFind : Op → Type 0
NotFind (op.Find component) = ⊥
NotFind _ = Unit {0}

widen : (o : Op) → NotFind o → (r : Outcome) → OutcomeRight r → ResultRight o r
widen o other (outcome.No why) h = h
widen (op.Find component) other r h = absurd other
widen o other r h = tt

becomes_right : (ds after : List Entry) (spent : Bool) → OutcomeRight (becomes ds after spent).outcome
becomes_right ds after spent = over (nat_lt directory_bytes_max (size_of after))
  where
    over : (b : Bool) → OutcomeRight (cond {A = DirEffect} b (record { outcome = outcome.No refusal.TooLong; entries = ds; counts = false; spent = false }) (record { outcome = outcome.Done; entries = after; counts = true; spent = spent })).outcome
    over true = tt
    over false = tt

probe_right : (name : List ℕ) (ds : List Entry) (o : Option Entry) → OutcomeRight (probe_beside name ds o).outcome
probe_right name ds (Some d) = tt
probe_right name ds None = over (nat_lt directory_bytes_max (size_of ds + (length name + 8)))
  where
    over : (b : Bool) → OutcomeRight (cond {A = DirEffect} b (record { outcome = outcome.No refusal.TooLong; entries = ds; counts = false; spent = false }) (record { outcome = outcome.Done; entries = ds; counts = false; spent = false })).outcome
    over true = tt
    over false = tt

find_right : (component : List ℕ) (ds : List Entry) (r : LookResult) → FoundRight r → ResultRight (op.Find component) (find_by component ds r).outcome
find_right component ds (look.Found ino kind) h = h
find_right component ds look.Absent h = tt
find_right component ds (look.Ambiguous a b) h = tt

rename_found : (component name : List ℕ) (ds : List Entry) (d : Entry) (o : Option Entry) → OutcomeRight (rename_beside d name ds o).outcome
rename_found component name ds d None = becomes_right ds _ _
rename_found component name ds d (Some e) = tt

rename_right : (component name : List ℕ) (ds : List Entry) (r : LookResult) → OutcomeRight (rename_by component name ds r).outcome
rename_right component name ds (look.Found ino kind) = over (find (is_meant component) ds)
  where
    over : (o : Option Entry) → OutcomeRight (rename_entry component name ds o).outcome
    over None = tt
    over (Some d) = rename_found component name ds d (find (has_name name) ds)
rename_right component name ds look.Absent = tt
rename_right component name ds (look.Ambiguous a b) = tt

empty_right : (ds : List Entry) (names : List (List ℕ)) → OutcomeRight (empty_among ds names).outcome
empty_right ds [] = tt
empty_right ds (n ∷ ns) = tt

-- ---- operations on contents ----

abbrev EffectRight : (Outcome → Type 0) → Option Effect → Type 0
EffectRight P None = Unit {0}
EffectRight P (Some e) = P e.result

in_right : (P : Outcome → Type 0) (content : List ℕ) (o : Option DirEffect) → ((d : DirEffect) → o ≡ Some d → P d.outcome) → EffectRight P (in_directory content o)
in_right P content None h = tt
in_right P content (Some d) h = over (is_dir d.entries)
  where
    over : (b : Bool) → EffectRight P (cond b (Some (on_directory content d)) None)
    over true = h d refl
    over false = tt

some_right : (P : Outcome → Type 0) (d e : DirEffect) → P d.outcome → ◌≡◌ {A = Option DirEffect} (Some d) (Some e) → P e.outcome
some_right P d e h k = subst (λ (x : DirEffect). P x.outcome) (some_same d e k) h

worded_right : (P : Outcome → Type 0) (w : Bool) (o : Option Effect) → EffectRight P o → EffectRight P (cond w o None)
worded_right P true o h = h
worded_right P false o h = tt

insert_right : (name : List ℕ) (ino : ℕ) (kind : Kind) (ds : List Entry) (o : Option Entry) (d : DirEffect) → insert_beside name ino kind ds o ≡ Some d → OutcomeRight d.outcome
insert_right name ino kind ds None d e = some_right OutcomeRight _ d (becomes_right ds _ _) e
insert_right name ino kind ds (Some x) d e = absurd (none d e)
  where
    none : (d : DirEffect) → ◌≡◌ {A = Option DirEffect} None (Some d) → ⊥
    none d e = cc

remove_right : (seen : List ℕ) (ds : List Entry) (o : Option Entry) (d : DirEffect) → remove_entry seen ds o ≡ Some d → OutcomeRight d.outcome
remove_right seen ds (Some x) d e = some_right OutcomeRight _ d (becomes_right ds _ _) e
remove_right seen ds None d e = absurd (none d e)
  where
    none : (d : DirEffect) → ◌≡◌ {A = Option DirEffect} None (Some d) → ⊥
    none d e = cc

dir_right : (o : Op) (content : List ℕ) (d : Option DirEffect) → ((x : DirEffect) → d ≡ Some x → ResultRight o x.outcome) → EffectRight (ResultRight o) (cond (is_worded o) (in_directory content d) None)
dir_right o content d h = worded_right (ResultRight o) (is_worded o) (in_directory content d) (in_right (ResultRight o) content d h)

some_dir : (o : Op) (content : List ℕ) (x : DirEffect) → ResultRight o x.outcome → EffectRight (ResultRight o) (cond (is_worded o) (in_directory content (Some x)) None)
some_dir o content x h = dir_right o content (Some x) (λ y e. some_right (ResultRight o) x y h e)

write_right : (at : ℕ) (bytes content : List ℕ) (b : Bool) → EffectRight (ResultRight (op.Write at bytes)) (cond b (Some (writes content at bytes)) None)
write_right at bytes content true = tt
write_right at bytes content false = tt

-- what an operation by its words gives
pub as_right : (o : Op) (content : List ℕ) → EffectRight (ResultRight o) (effect (As o) content)
as_right (op.Read at len) content = tt
as_right (op.Write at bytes) content = write_right at bytes content (nat_le (at + length bytes) file_bytes_max)
as_right (op.Cut len) content = tt
as_right (op.Remove name ino) content = tt
as_right op.Mend content = tt
as_right op.Commit content = tt
as_right op.Abort content = tt
as_right (op.Probe name) content = some_dir (op.Probe name) content (probe_effect name (entries_of content)) (widen (op.Probe name) tt (probe_effect name (entries_of content)).outcome (probe_right name (entries_of content) (find (has_name name) (entries_of content))))
as_right (op.Find component) content = some_dir (op.Find component) content (find_effect component (entries_of content)) (find_right component (entries_of content) (lookup (entries_of content) component) (found_right content component))
as_right (op.Insert name ino kind) content = dir_right (op.Insert name ino kind) content (insert_effect name ino kind (entries_of content)) (λ d e. widen (op.Insert name ino kind) tt d.outcome (insert_right name ino kind (entries_of content) (pair_in name ino (entries_of content)) d e))
as_right (op.Rename component name) content = some_dir (op.Rename component name) content (rename_effect component name (entries_of content)) (widen (op.Rename component name) tt (rename_effect component name (entries_of content)).outcome (rename_right component name (entries_of content) (lookup (entries_of content) component)))
as_right op.Empty content = some_dir op.Empty content (empty_effect (entries_of content)) (widen op.Empty tt (empty_effect (entries_of content)).outcome (empty_right (entries_of content) (shown_names (entries_of content))))

removes_right : (name : List ℕ) (ino : ℕ) (seen content : List ℕ) → EffectRight OutcomeRight (effect (Removes name ino seen) content)
removes_right name ino seen content = in_right OutcomeRight content _ (λ d e. remove_right seen (entries_of content) (live_one (pair_in name ino (entries_of content))) d e)

mends_right : (several : Bool) (joined content : List ℕ) → EffectRight OutcomeRight (effect (Mends several joined) content)
mends_right several joined content = over (nat_lt directory_bytes_max (length joined))
  where
    over : (b : Bool) → OutcomeRight (cond b (tells content (outcome.No refusal.TooLong)) (record { result = outcome.Done; content = joined; pages = pages_replaced content joined; counts = several || not (bytes_eq joined content); spent = false })).result
    over true = tt
    over false = tt

-- the room, and counts that are at their end
in_result : (P : Outcome → Type 0) (free : ℕ) (changed : List ℕ) (e : Effect) → ((why : Refusal) → NotChanged why → P (outcome.No why)) → P e.result → P (result_in free changed e)
in_result P free changed e refusing h = over (is_refusal e.result) (nat_lt free (pages_needed e.pages changed)) e.spent
  where
    over : (a b s : Bool) → P (cond a e.result (cond b (outcome.No (refusal.NoSpace (pages_needed e.pages changed) free)) (cond s (outcome.No refusal.Spent) e.result)))
    over true b s = h
    over false true s = refusing _ tt
    over false false true = refusing _ tt
    over false false false = h

-- ---- what is given ----

same_not_changed : (r why : Refusal) → NotChanged r → same_refusal r why ≡ true → NotChanged why
same_not_changed (refusal.Changed a) why h e = absurd h
same_not_changed r (refusal.Changed b) h e = absurd (true_false (sym e))
same_not_changed r why h e = tt

pub refusal_right : (r why : Refusal) → NotChanged r → same_refusal r why ≡ true → NotChanged why
refusal_right r why h e = same_not_changed r why h e

same_right : (o : Op) (r result : Outcome) → same_outcome r result ≡ true → ResultRight o r → ResultRight o result
same_right o (outcome.No r) (outcome.No why) e h = same_not_changed r why h e
same_right o (outcome.No r) result e h = absurd (true_false (sym e))
same_right o r (outcome.No why) e h = absurd (true_false (sym e))
same_right (op.Find component) (outcome.Found ino kind) (outcome.Found i k) e h = subst (λ (n : ℕ). 1 ≤ n) (equal ino i (and_first (ino == i) (same_kind kind k) e)) h
same_right (op.Find component) (outcome.Found ino kind) result e h = absurd (true_false (sym e))
same_right (op.Find component) r result e h = absurd h
same_right o r result e h = tt

abbrev GivenRight : (Outcome → Type 0) → Option Outcome → Type 0
GivenRight P None = Unit {0}
GivenRight P (Some r) = P r

given_right : (o : Op) (r : Option Outcome) (result : Outcome) → is_given r result ≡ true → GivenRight (ResultRight o) r → ResultRight o result
given_right o None result e h = absurd (true_false (sym e))
given_right o (Some r) result e h = same_right o r result e h

-- ---- on an open instance ----

effect_widen : (o : Op) → NotFind o → (e : Option Effect) → EffectRight OutcomeRight e → EffectRight (ResultRight o) e
effect_widen o other None h = tt
effect_widen o other (Some e) h = widen o other e.result h

no_right : (o : Op) (why : Refusal) → NotChanged why → ResultRight o (outcome.No why)
no_right o why h = h

room_right : (o : Op) (free : ℕ) (changed : List ℕ) (e : Option Effect) → EffectRight (ResultRight o) e → GivenRight (ResultRight o) (in_room free changed e)
room_right o free changed None h = tt
room_right o free changed (Some e) h = in_result (ResultRight o) free changed e (no_right o) h

commit_right : (spent : Bool) (w : Work) → GivenRight (ResultRight op.Commit) (commit_result spent w)
commit_right spent w = over w.owes w.last spent
  where
    over : (a : Bool) (l : Option Stamp) (s : Bool) → GivenRight (ResultRight op.Commit) (commit_result s (record w { owes = a; last = l }))
    over true l true = tt
    over true l false = tt
    over false None s = tt
    over false (Some stamp) s = tt

removed_right : (h : List Version) (name : List ℕ) (ino : ℕ) (content : List ℕ) (o : Option Instance) → EffectRight (ResultRight (op.Remove name ino)) (effect_of (sees h name ino o) content)
removed_right h name ino content None = tt
removed_right h name ino content (Some x) = over x.work.last
  where
    over : (l : Option Stamp) → EffectRight (ResultRight (op.Remove name ino)) (effect_of (sees h name ino (Some (record x { work = record x.work { last = l } }))) content)
    over None = tt
    over (Some s) = effect_widen (op.Remove name ino) tt (effect (Removes name ino (vector_of h x.grant.file s)) content) (removes_right name ino (vector_of h x.grant.file s) content)

room : (h : List Version) (t : TreeState) (o : Op) (x : Instance) → EffectRight (ResultRight o) (effect_on h t o x) → GivenRight (ResultRight o) (in_room (free_pages h t x.grant.ss) x.work.changed (effect_on h t o x))
room h t o x k = room_right o (free_pages h t x.grant.ss) x.work.changed (effect_on h t o x) k

result_right : (h : List Version) (t : TreeState) (o : Op) (x : Instance) → GivenRight (ResultRight o) (result_on h t o x)
result_right h t op.Commit x = commit_right (is_spent h t x) x.work
result_right h t op.Abort x = tt
result_right h t (op.Remove name ino) x = room h t (op.Remove name ino) x (removed_right h name ino x.work.content (find (is_target x.grant.call ino) t.instances))
result_right h t op.Mend x = room h t op.Mend x (effect_widen op.Mend tt (effect (Mends (are_several (kept_of h t x.grant.file)) (joined_content h t x.grant.file)) x.work.content) (mends_right (are_several (kept_of h t x.grant.file)) (joined_content h t x.grant.file) x.work.content))
result_right h t o x = room h t o x (as_right o x.work.content)

-- what the tree gives of an operation
pub act_right : (h : List Version) (t : TreeState) (i : Serial) (n : ℕ) (o : Op) (result : Outcome) → gives_act h t i n o result ≡ true → ResultRight o result
act_right h t i n o result e = over (instance_in t i) e
  where
    over : (x : Option Instance) → instance_gives h t n o result x ≡ true → ResultRight o result
    over None e = absurd (true_false (sym e))
    over (Some x) e = given_right o (result_on h t o x) result (and_second (n == x.work.ops + 1) (is_given (result_on h t o x) result) e) (result_right h t o x)
