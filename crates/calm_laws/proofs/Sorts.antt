-- The result of an operation is of the sort that the operation gives, or a refusal.
use Rattle.std.proofs.Common.{◌≡◌, ℕ, ◌+◌, nat_lt, nat_le, Bool, true, false, cond, not, ◌||◌, List, [], ◌∷◌, length, Option, Some, None, refl, subst}
use Rattle.std.specs.List.{find}
use Rattle.locus_ids.specs.declared.refusal.Refusal.TheVariants as refusal
use Rattle.locus_ids.specs.Sizes.{directory_bytes_max, file_bytes_max}
use Rattle.trace_book.specs.declared.operation.Op.{Op}
use Rattle.trace_book.specs.declared.operation.Op.TheVariants as op
use Rattle.trace_book.specs.declared.operation.Outcome.{Outcome as Result}
use Rattle.trace_book.specs.declared.operation.Outcome.TheVariants as result
use Rattle.dir_format.specs.Contents.{entries_of, is_dir}
use Rattle.dir_format.specs.Effects.{DirEffect, answers, becomes, dir_effect, empty_among, find_by, insert_beside, is_spent, live_one, probe_beside, remove_entry, removed, rename_beside, rename_by, rename_entry, size_of}
use Rattle.dir_format.specs.Entries.{pair_in, with_entry}
use Rattle.dir_format.specs.Lookups.{has_name, is_meant, lookup, shown_names}
use Rattle.dir_format.specs.declared.entry.Entry.{Entry}
use Rattle.dir_format.specs.declared.looking.LookResult.{LookResult}
use Rattle.dir_format.specs.declared.looking.LookResult.TheVariants as look
use Rattle.file_effects.specs.Effects.{As, Deed, Effect, Mends, Removes, effect, in_directory, is_refusal, is_worded, on_directory, tells, writes}
use Rattle.file_effects.specs.Works.{result_in}
use Rattle.file_content.specs.Pages.{pages_needed, pages_replaced}
use Rattle.std.specs.Str.{bytes_eq}
use Rattle.role_steps.proofs.of_plain_facts.Options.{none_some, some_same}
use Rattle.role_steps.specs.Using.{answers_op}

-- a refusal, or done
abbrev pub IsPlain : Result → Type 0
IsPlain result.Done = Unit {0}
IsPlain (result.No why) = Unit {0}
IsPlain _ = ⊥

-- ---- operations on directories ----

becomes_plain : (ds after : List Entry) (spent : Bool) → IsPlain (becomes ds after spent).outcome
becomes_plain ds after spent = over (nat_lt directory_bytes_max (size_of after))
  where
    over : (b : Bool) → IsPlain (cond {A = DirEffect} b (record { outcome = result.No refusal.TooLong; entries = ds; counts = false; spent = false }) (record { outcome = result.Done; entries = after; counts = true; spent = spent })).outcome
    over true = tt
    over false = tt

probe_plain : (name : List ℕ) (ds : List Entry) (o : Option Entry) → IsPlain (probe_beside name ds o).outcome
probe_plain name ds (Some d) = tt
probe_plain name ds None = over (nat_lt directory_bytes_max (size_of ds + (length name + 8)))
  where
    over : (b : Bool) → IsPlain (cond {A = DirEffect} b (answers (result.No refusal.TooLong) ds) (answers result.Done ds)).outcome
    over true = tt
    over false = tt

find_sort : (component : List ℕ) (ds : List Entry) (r : LookResult) → answers_op (op.Find component) (find_by component ds r).outcome ≡ true
find_sort component ds (look.Found ino kind) = refl
find_sort component ds look.Absent = refl
find_sort component ds (look.Ambiguous a b) = refl

rename_plain : (component name : List ℕ) (ds : List Entry) (r : LookResult) → IsPlain (rename_by component name ds r).outcome
rename_plain component name ds look.Absent = tt
rename_plain component name ds (look.Ambiguous a b) = tt
rename_plain component name ds (look.Found ino kind) = entry (find (is_meant component) ds)
  where
    beside : (d : Entry) (o : Option Entry) → IsPlain (rename_beside d name ds o).outcome
    beside d None = becomes_plain ds _ (is_spent d)
    beside d (Some e) = tt

    entry : (o : Option Entry) → IsPlain (rename_entry component name ds o).outcome
    entry None = tt
    entry (Some d) = beside d (find (has_name name) ds)

empty_plain : (ds : List Entry) (names : List (List ℕ)) → IsPlain (empty_among ds names).outcome
empty_plain ds [] = tt
empty_plain ds (shown ∷ others) = tt

-- ---- all operations ----

pub no_answers : (o : Op) (why : _) → answers_op o (result.No why) ≡ true
no_answers (op.Find component) why = refl
no_answers (op.Read at len) why = refl
no_answers op.Commit why = refl
no_answers _ why = refl

-- the operation gives no more than that it is done
abbrev pub IsDeed : Op → Type 0
IsDeed (op.Find component) = ⊥
IsDeed (op.Read at len) = ⊥
IsDeed op.Commit = ⊥
IsDeed _ = Unit {0}

done_answers : (o : Op) → IsDeed o → answers_op o result.Done ≡ true
done_answers (op.Find component) h = absurd h
done_answers (op.Read at len) h = absurd h
done_answers op.Commit h = absurd h
done_answers _ h = refl

plain_answers : (o : Op) (r : Result) → IsDeed o → IsPlain r → answers_op o r ≡ true
plain_answers o result.Done h k = done_answers o h
plain_answers o (result.No why) h k = no_answers o why
plain_answers o (result.Found ino kind) h k = absurd k
plain_answers o (result.Data bytes) h k = absurd k
plain_answers o (result.Committed stamp) h k = absurd k

dir_sort : (o : Op) (seen : List ℕ) (ds : List Entry) (d : DirEffect) → dir_effect o seen ds ≡ Some d → answers_op o d.outcome ≡ true
dir_sort (op.Probe name) seen ds d e = subst (λ (z : DirEffect). answers_op (op.Probe name) z.outcome ≡ true) (some_same _ d e) (plain_answers (op.Probe name) _ tt (probe_plain name ds (find (has_name name) ds)))
dir_sort (op.Find component) seen ds d e = subst (λ (z : DirEffect). answers_op (op.Find component) z.outcome ≡ true) (some_same _ d e) (find_sort component ds (lookup ds component))
dir_sort (op.Insert name ino kind) seen ds d e = insert (pair_in name ino ds) e
  where
    insert : (o : Option Entry) → insert_beside name ino kind ds o ≡ Some d → answers_op (op.Insert name ino kind) d.outcome ≡ true
    insert None k = subst (λ (z : DirEffect). answers_op (op.Insert name ino kind) z.outcome ≡ true) (some_same _ d k) (plain_answers (op.Insert name ino kind) _ tt (becomes_plain ds _ false))
    insert (Some x) k = absurd (none_some d k)
dir_sort (op.Remove name ino) seen ds d e = remove (live_one (pair_in name ino ds)) e
  where
    remove : (o : Option Entry) → remove_entry seen ds o ≡ Some d → answers_op (op.Remove name ino) d.outcome ≡ true
    remove None k = absurd (none_some d k)
    remove (Some x) k = subst (λ (z : DirEffect). answers_op (op.Remove name ino) z.outcome ≡ true) (some_same _ d k) (plain_answers (op.Remove name ino) _ tt (becomes_plain ds (with_entry (removed x seen) ds) (is_spent x)))
dir_sort (op.Rename component name) seen ds d e = subst (λ (z : DirEffect). answers_op (op.Rename component name) z.outcome ≡ true) (some_same _ d e) (plain_answers (op.Rename component name) _ tt (rename_plain component name ds (lookup ds component)))
dir_sort op.Empty seen ds d e = subst (λ (z : DirEffect). answers_op op.Empty z.outcome ≡ true) (some_same _ d e) (plain_answers op.Empty _ tt (empty_plain ds (shown_names ds)))
dir_sort _ seen ds d e = absurd (none_some d e)

in_sort : (o : Op) (content : List ℕ) (x : Option DirEffect) (e : Effect) → ((d : DirEffect) → x ≡ Some d → answers_op o d.outcome ≡ true) → in_directory content x ≡ Some e → answers_op o e.result ≡ true
in_sort o content None e h k = absurd (none_some e k)
in_sort o content (Some d) e h k = over (is_dir d.entries) k
  where
    over : (b : Bool) → ◌≡◌ {A = Option Effect} (cond b (Some (on_directory content d)) None) (Some e) → answers_op o e.result ≡ true
    over true q = subst (λ (z : Effect). answers_op o z.result ≡ true) (some_same (on_directory content d) e q) (h d refl)
    over false q = absurd (none_some e q)

-- the operation of a deed
abbrev pub op_of : Deed → Op
op_of (As o) = o
op_of (Removes name ino seen) = op.Remove name ino
op_of (Mends several joined) = op.Mend

worded_sort : (o : Op) (content : List ℕ) (e : Effect) → ◌≡◌ {A = Option Effect} (cond (is_worded o) (in_directory content (dir_effect o [] (entries_of content))) None) (Some e) → answers_op o e.result ≡ true
worded_sort o content e k = over (is_worded o) k
  where
    over : (b : Bool) → ◌≡◌ {A = Option Effect} (cond b (in_directory content (dir_effect o [] (entries_of content))) None) (Some e) → answers_op o e.result ≡ true
    over true q = in_sort o content (dir_effect o [] (entries_of content)) e (dir_sort o [] (entries_of content)) q
    over false q = absurd (none_some e q)

pub effect_sort : (d : Deed) (content : List ℕ) (e : Effect) → effect d content ≡ Some e → answers_op (op_of d) e.result ≡ true
effect_sort (As (op.Read at len)) content e k = subst (λ (z : Effect). answers_op (op.Read at len) z.result ≡ true) (some_same _ e k) refl
effect_sort (As (op.Write at bytes)) content e k = over (nat_le (at + length bytes) file_bytes_max) k
  where
    over : (b : Bool) → ◌≡◌ {A = Option Effect} (cond b (Some (writes content at bytes)) None) (Some e) → answers_op (op.Write at bytes) e.result ≡ true
    over true q = subst (λ (z : Effect). answers_op (op.Write at bytes) z.result ≡ true) (some_same (writes content at bytes) e q) refl
    over false q = absurd (none_some e q)
effect_sort (As (op.Cut len)) content e k = subst (λ (z : Effect). answers_op (op.Cut len) z.result ≡ true) (some_same _ e k) refl
effect_sort (As (op.Remove name ino)) content e k = absurd (none_some e k)
effect_sort (As op.Mend) content e k = absurd (none_some e k)
effect_sort (As op.Commit) content e k = absurd (none_some e k)
effect_sort (As op.Abort) content e k = absurd (none_some e k)
effect_sort (As (op.Probe name)) content e k = worded_sort (op.Probe name) content e k
effect_sort (As (op.Find component)) content e k = worded_sort (op.Find component) content e k
effect_sort (As (op.Insert name ino kind)) content e k = worded_sort (op.Insert name ino kind) content e k
effect_sort (As (op.Rename component name)) content e k = worded_sort (op.Rename component name) content e k
effect_sort (As op.Empty) content e k = worded_sort op.Empty content e k
effect_sort (Removes name ino seen) content e k = in_sort (op.Remove name ino) content (dir_effect (op.Remove name ino) seen (entries_of content)) e (dir_sort (op.Remove name ino) seen (entries_of content)) k
effect_sort (Mends several joined) content e k = subst (λ (z : Effect). answers_op op.Mend z.result ≡ true) (some_same _ e k) (over (nat_lt directory_bytes_max (length joined)))
  where
    over : (b : Bool) → answers_op op.Mend (cond {A = Effect} b (tells content (result.No refusal.TooLong)) (record { result = result.Done; content = joined; pages = pages_replaced content joined; counts = several || not (bytes_eq joined content); spent = false })).result ≡ true
    over true = refl
    over false = refl

-- room and counts refuse, or leave the result
pub result_sort : (o : Op) (free : ℕ) (changed : List ℕ) (e : Effect) → answers_op o e.result ≡ true → answers_op o (result_in free changed e) ≡ true
result_sort o free changed e h = over (is_refusal e.result)
  where
    spent : (b : Bool) → answers_op o (cond b (result.No refusal.Spent) e.result) ≡ true
    spent true = no_answers o refusal.Spent
    spent false = h

    room : (b : Bool) (needed : ℕ) → answers_op o (cond b (result.No (refusal.NoSpace needed free)) (cond e.spent (result.No refusal.Spent) e.result)) ≡ true
    room true needed = no_answers o (refusal.NoSpace needed free)
    room false needed = spent e.spent

    over : (b : Bool) → answers_op o (cond b e.result (cond (nat_lt free (pages_needed e.pages changed)) (result.No (refusal.NoSpace (pages_needed e.pages changed) free)) (cond e.spent (result.No refusal.Spent) e.result))) ≡ true
    over true = h
    over false = room (nat_lt free (pages_needed e.pages changed)) (pages_needed e.pages changed)
