-- What operations give is what records of them may say, and the contents that they leave are bytes, and no more than files may have.
use Rattle.std.proofs.Common.{◌≡◌, ◌≤◌, ℕ, zero, suc, ◌+◌, ◌-◌, ◌/◌, min, nat_lt, Bool, true, false, cond, not, ◌&&◌, List, [], ◌∷◌, ◌++◌, drop, filter, length, replicate, take, Option, None, Some, refl, arith}
use Rattle.std.proofs.Common.{length-append}
use Rattle.std.proofs.lemmas.Bool.Decides.{nat_tests}
use Rattle.std.proofs.lemmas.List.{length-drop, length-replicate, length-take, length-take-le}
use Rattle.std.specs.List.{find, list_all}
use Rattle.std.specs.Prelude.{nat_le}
use Rattle.locus_ids.specs.Sizes.{file_bytes_max, directory_bytes_max, page_bytes}
use Rattle.locus_ids.specs.declared.ids.Kind.{Kind}
use Rattle.locus_ids.specs.declared.refusal.Refusal.TheVariants as refusal
use Rattle.schedule_lines.specs.Ranges.{is_byte}
use Rattle.trace_book.specs.declared.operation.Op.{Op}
use Rattle.trace_book.specs.declared.operation.Op.TheVariants as op
use Rattle.trace_book.specs.declared.operation.Outcome.{Outcome}
use Rattle.trace_book.specs.declared.operation.Outcome.TheVariants as outcome
use Rattle.dir_format.specs.Contents.{entries_of, is_dir, is_entry}
use Rattle.dir_format.specs.Effects.{DirEffect, is_spent, live_entry, live_one, moved, removed, answers, refuses, becomes, dir_effect, empty_among, find_by, insert_beside, probe_beside, remove_entry, rename_beside, rename_by, rename_entry, size_of}
use Rattle.dir_format.specs.Entries.{nothing_seen, pair_in, with_entry}
use Rattle.dir_format.specs.Grammar.{dir_bytes}
use Rattle.dir_format.specs.Lookups.{has_name, is_meant, lookup, shown_names}
use Rattle.dir_format.specs.declared.entry.Entry.{Entry}
use Rattle.dir_format.specs.declared.looking.LookResult.{LookResult}
use Rattle.dir_format.specs.declared.looking.LookResult.TheVariants as found
use Rattle.file_effects.specs.of_file_content.Contents.{written, part, cut}
use Rattle.file_effects.specs.of_file_content.Pages.{has_page, is_replaced, pages_between, pages_from, pages_needed, pages_of, pages_replaced}
use Rattle.file_effects.specs.Effects.{Deed, As, Removes, Mends, Effect, cuts, directory_left, effect, in_directory, is_worded, on_directory, puts, tells, writes}
use Rattle.wire_fields.specs.Components.{is_component}
use Rattle.record_reading.specs.Ranges.{is_committed, is_data, is_done, is_found, is_inode, is_read, is_some_data}
use Rattle.text_laws.specs.CallTexts.Wants.{is_asked_op}
use Rattle.past_laws.proofs.Alls.{all_joined, all_more, all_first}
use Rattle.past_laws.proofs.Names.{both, both_parts}
use Rattle.text_laws.proofs.TreeTexts.Contents.{are_bytes, entries_are, is_dir_are}
use Rattle.text_laws.proofs.TreeTexts.Lookups.{is_result, find_inode, lookup_text}
use Rattle.text_laws.proofs.TreeTexts.Shown.{shown_text}

-- what an operation of this kind may give
abbrev pub may_give : Op → Outcome → Bool
may_give (op.Find component) o = is_found o
may_give (op.Read at len) o = is_read o
may_give op.Commit o = is_committed o
may_give _ o = is_done o

pub record EffectText (o : Op) (e : Effect) : Type 0 where
  pub result : may_give o e.result ≡ true
  pub content : is_data file_bytes_max e.content ≡ true
  pub pages : length e.pages ≤ 65535

abbrev pub EffectIfAny : Op → Option Effect → Type 0
EffectIfAny o None = Unit {0}
EffectIfAny o (Some e) = EffectText o e

-- ---- pages ----

from_length : (first count : ℕ) → length (pages_from first count) ≡ count
from_length first zero = refl
from_length first (suc more) = let h : length (pages_from (first + 1) more) ≡ more = from_length (first + 1) more in omega (arith, h)

filter_most : (test : ℕ → Bool) (xs : List ℕ) → length (filter test xs) ≤ length xs
filter_most test [] = omega arith
filter_most test (x ∷ xs) = over (test x) (filter_most test xs)
  where
    over : (b : Bool) → length (filter test xs) ≤ length xs → length (cond b (x ∷ filter test xs) (filter test xs)) ≤ length (x ∷ xs)
    over true h = omega (arith, h)
    over false h = omega (arith, h)

pub needed_few : (pages changed : List ℕ) → length pages ≤ 65535 → pages_needed pages changed ≤ 65535
needed_few pages changed few = let a : pages_needed pages changed ≤ length pages = filter_most (λ (page : ℕ). not (has_page changed page)) pages in omega (arith, a, few)

replaced_few : (old new : List ℕ) → length new ≤ file_bytes_max → length (pages_replaced old new) ≤ 65535
replaced_few old new small =
    let a : length (pages_replaced old new) ≤ length (pages_from 0 (pages_of (length new))) = filter_most (is_replaced old new) (pages_from 0 (pages_of (length new))) in
    let b : length (pages_from 0 (pages_of (length new))) ≡ pages_of (length new) = from_length 0 (pages_of (length new)) in
    few (length new) (length (pages_from 0 (pages_of (length new)))) (length (pages_replaced old new)) small b a
  where
    few : (n p q : ℕ) → n ≤ file_bytes_max → p ≡ (n + (page_bytes - 1)) / page_bytes → q ≤ p → q ≤ 65535
    few n p q s e le = omega (arith, s, e, le)

between_few : (from end : ℕ) → end ≤ file_bytes_max → length (pages_between from end) ≤ 65535
between_few from end small = over (nat_lt from end)
  where
    few : (n p : ℕ) → n ≤ file_bytes_max → (n + (page_bytes - 1)) / page_bytes - p ≤ 65535
    few n p s = omega (arith, s)

    over : (b : Bool) → length (cond b (pages_from (from / page_bytes) (pages_of end - from / page_bytes)) []) ≤ 65535
    over true = let e : length (pages_from (from / page_bytes) (pages_of end - from / page_bytes)) ≡ pages_of end - from / page_bytes = from_length (from / page_bytes) (pages_of end - from / page_bytes) in omega (arith, e, few end (from / page_bytes) small)
    over false = omega arith

-- ---- contents ----

data_of : (most : ℕ) (bytes : List ℕ) → length bytes ≤ most → are_bytes bytes ≡ true → is_data most bytes ≡ true
data_of most bytes few h = both (nat_le (length bytes) most) (are_bytes bytes) (test (length bytes) most few) h
  where
    test : (n m : ℕ) → n ≤ m → nat_le n m ≡ true
    test n m k = grind (arith, nat_tests)

pub record DataIs (most : ℕ) (content : List ℕ) : Type 0 where
  pub few : length content ≤ most
  pub bytes : are_bytes content ≡ true

pub data_is : (most : ℕ) (bytes : List ℕ) → is_data most bytes ≡ true → DataIs most bytes
data_is most bytes h = let parts = both_parts (nat_le (length bytes) most) (are_bytes bytes) h in record { few = test (length bytes) most parts.0; bytes = parts.1 }
  where
    test : (n m : ℕ) → nat_le n m ≡ true → n ≤ m
    test n m k = grind (arith, nat_tests)

take_bytes : (n : ℕ) (bytes : List ℕ) → are_bytes bytes ≡ true → are_bytes (take n bytes) ≡ true
take_bytes zero bytes h = refl
take_bytes (suc n) [] h = refl
take_bytes (suc n) (b ∷ bytes) h = let parts = all_first is_byte b bytes h in all_more is_byte b (take n bytes) parts.0 (take_bytes n bytes parts.1)

drop_bytes : (n : ℕ) (bytes : List ℕ) → are_bytes bytes ≡ true → are_bytes (drop n bytes) ≡ true
drop_bytes zero bytes h = h
drop_bytes (suc n) [] h = refl
drop_bytes (suc n) (b ∷ bytes) h = drop_bytes n bytes (all_first is_byte b bytes h).1

zeros_bytes : (n : ℕ) → are_bytes (replicate n 0) ≡ true
zeros_bytes zero = refl
zeros_bytes (suc n) = zeros_bytes n

-- ---- directories ----

-- what it gives, and what it leaves where it counts as a change
record DirText (o : Op) (d : DirEffect) : Type 0 where
  outcome : may_give o d.outcome ≡ true
  few : d.counts ≡ true → length (dir_bytes d.entries) ≤ file_bytes_max

abbrev DirIfAny : Op → Option DirEffect → Type 0
DirIfAny o None = Unit {0}
DirIfAny o (Some d) = DirText o d

answers_text : (o : Op) (r : Outcome) (ds : List Entry) → may_give o r ≡ true → DirText o (answers r ds)
answers_text o r ds h = record { outcome = h; few = λ e. absurd (cc) }

becomes_text : (o : Op) (ds after : List Entry) (spent : Bool) → may_give o (outcome.No refusal.TooLong) ≡ true → may_give o outcome.Done ≡ true → DirText o (becomes ds after spent)
becomes_text o ds after spent long done = over (nat_lt directory_bytes_max (size_of after)) refl
  where
    short : nat_lt directory_bytes_max (size_of after) ≡ false → length (dir_bytes after) ≤ file_bytes_max
    short e = grind (arith, nat_tests)

    over : (b : Bool) → nat_lt directory_bytes_max (size_of after) ≡ b → DirText o (cond b (refuses refusal.TooLong ds) (record { outcome = outcome.Done; entries = after; counts = true; spent = spent }))
    over true e = answers_text o (outcome.No refusal.TooLong) ds long
    over false e = record { outcome = done; few = λ c. short e }

probe_text : (name : List ℕ) (ds : List Entry) (x : Option Entry) → ((d : Entry) → x ≡ Some d → is_inode d.ino ≡ true) → DirText (op.Probe name) (probe_beside name ds x)
probe_text name ds None h = over (nat_lt directory_bytes_max (size_of ds + (length name + 8)))
  where
    over : (b : Bool) → DirText (op.Probe name) (cond b (refuses refusal.TooLong ds) (answers outcome.Done ds))
    over true = answers_text (op.Probe name) (outcome.No refusal.TooLong) ds refl
    over false = answers_text (op.Probe name) outcome.Done ds refl
probe_text name ds (Some d) h = answers_text (op.Probe name) (outcome.No (refusal.Exists d.ino)) ds (h d refl)

find_by_text : (component : List ℕ) (ds : List Entry) (r : LookResult) → is_component component ≡ true → is_result r ≡ true → DirText (op.Find component) (find_by component ds r)
find_by_text component ds (found.Found ino kind) k h = answers_text (op.Find component) (outcome.Found ino kind) ds h
find_by_text component ds found.Absent k h = answers_text (op.Find component) (outcome.No (refusal.Absent component)) ds k
find_by_text component ds (found.Ambiguous a b) k h = answers_text (op.Find component) (outcome.No (refusal.Ambiguous a b)) ds h

insert_text : (name : List ℕ) (ino : ℕ) (kind : Kind) (ds : List Entry) (x : Option Entry) → DirIfAny (op.Insert name ino kind) (insert_beside name ino kind ds x)
insert_text name ino kind ds None = becomes_text (op.Insert name ino kind) ds (with_entry (live_entry name ino kind 1) ds) false refl refl
insert_text name ino kind ds (Some d) = tt

remove_text : (name : List ℕ) (ino : ℕ) (seen : List ℕ) (ds : List Entry) (x : Option Entry) → DirIfAny (op.Remove name ino) (remove_entry seen ds x)
remove_text name ino seen ds None = tt
remove_text name ino seen ds (Some d) = becomes_text (op.Remove name ino) ds (with_entry (removed d seen) ds) (is_spent d) refl refl

beside_text : (component name : List ℕ) (d : Entry) (ds : List Entry) (x : Option Entry) → ((e : Entry) → x ≡ Some e → is_inode e.ino ≡ true) → DirText (op.Rename component name) (rename_beside d name ds x)
beside_text component name d ds None h = becomes_text (op.Rename component name) ds (with_entry (moved d name (pair_in name d.ino ds)) (with_entry (removed d nothing_seen) ds)) (is_spent d) refl refl
beside_text component name d ds (Some e) h = answers_text (op.Rename component name) (outcome.No (refusal.Exists e.ino)) ds (h e refl)

rename_entry_text : (component name : List ℕ) (ds : List Entry) (x : Option Entry) → is_component component ≡ true → list_all is_entry ds ≡ true → DirText (op.Rename component name) (rename_entry component name ds x)
rename_entry_text component name ds None k h = answers_text (op.Rename component name) (outcome.No (refusal.Absent component)) ds k
rename_entry_text component name ds (Some d) k h = beside_text component name d ds (find (has_name name) ds) (λ e f. find_inode (has_name name) ds e h f)

rename_by_text : (component name : List ℕ) (ds : List Entry) (r : LookResult) → is_component component ≡ true → list_all is_entry ds ≡ true → is_result r ≡ true → DirText (op.Rename component name) (rename_by component name ds r)
rename_by_text component name ds (found.Found ino kind) k h r = rename_entry_text component name ds (find (is_meant component) ds) k h
rename_by_text component name ds found.Absent k h r = answers_text (op.Rename component name) (outcome.No (refusal.Absent component)) ds k
rename_by_text component name ds (found.Ambiguous a b) k h r = answers_text (op.Rename component name) (outcome.No (refusal.Ambiguous a b)) ds r

empty_text : (ds : List Entry) (names : List (List ℕ)) → list_all is_component names ≡ true → DirText op.Empty (empty_among ds names)
empty_text ds [] h = answers_text op.Empty outcome.Done ds refl
empty_text ds (shown ∷ others) h = answers_text op.Empty (outcome.No (refusal.NotEmpty shown)) ds (all_first is_component shown others h).0

-- ---- one operation ----

-- what a deed adds to the words of its operation
abbrev pub DeedText : Op → Deed → Type 0
DeedText o (As a) = (a ≡ o) × (is_asked_op o ≡ true)
DeedText o (Removes name ino seen) = o ≡ op.Remove name ino
DeedText o (Mends several joined) = (o ≡ op.Mend) × (are_bytes joined ≡ true)

module _ (content : List ℕ) (data_here : DataIs file_bytes_max content) where
  tells_text : (o : Op) (r : Outcome) → may_give o r ≡ true → EffectText o (tells content r)
  tells_text o r h = record { result = h; content = data_of file_bytes_max content data_here.few data_here.bytes; pages = omega arith }

  puts_text : (new : List ℕ) (counts : Bool) → are_bytes new ≡ true → EffectText op.Mend (puts content new counts)
  puts_text new counts k = over (nat_lt directory_bytes_max (length new)) refl
    where
      short : nat_lt directory_bytes_max (length new) ≡ false → length new ≤ file_bytes_max
      short e = grind (arith, nat_tests)

      over : (b : Bool) → nat_lt directory_bytes_max (length new) ≡ b → EffectText op.Mend (cond b (tells content (outcome.No refusal.TooLong)) (record { result = outcome.Done; content = new; pages = pages_replaced content new; counts = counts; spent = false }))
      over true e = tells_text op.Mend (outcome.No refusal.TooLong) refl
      over false e = record { result = refl; content = data_of file_bytes_max new (short e) k; pages = replaced_few content new (short e) }

  directory_text : (o : Op) (d : DirEffect) → is_dir d.entries ≡ true → DirText o d → EffectText o (on_directory content d)
  directory_text o d dir h = record { result = h.outcome; content = data_of file_bytes_max (directory_left content d) (left d.counts refl) (bytes d.counts); pages = replaced_few content (directory_left content d) (left d.counts refl) }
    where
      left : (b : Bool) → d.counts ≡ b → length (cond b (dir_bytes d.entries) content) ≤ file_bytes_max
      left true e = h.few e
      left false e = data_here.few

      bytes : (b : Bool) → are_bytes (cond b (dir_bytes d.entries) content) ≡ true
      bytes true = is_dir_are d.entries dir
      bytes false = data_here.bytes

  in_directory_text : (o : Op) (x : Option DirEffect) → DirIfAny o x → EffectIfAny o (in_directory content x)
  in_directory_text o None h = tt
  in_directory_text o (Some d) h = over (is_dir d.entries) refl
    where
      over : (b : Bool) → is_dir d.entries ≡ b → EffectIfAny o (cond b (Some (on_directory content d)) None)
      over true e = directory_text o d e h
      over false e = tt

  worded_text : (o : Op) → DirIfAny o (dir_effect o [] (entries_of content)) → EffectIfAny o (cond (is_worded o) (in_directory content (dir_effect o [] (entries_of content))) None)
  worded_text o h = over (is_worded o)
    where
      over : (b : Bool) → EffectIfAny o (cond b (in_directory content (dir_effect o [] (entries_of content))) None)
      over true = in_directory_text o (dir_effect o [] (entries_of content)) h
      over false = tt

  read_text : (at len : ℕ) → len ≤ 4096 → is_data 4096 (part content at len) ≡ true
  read_text at len le = let e : length (take len (drop at content)) ≡ min len (length (drop at content)) = length-take len (drop at content) in data_of 4096 (part content at len) (omega (arith, e, le)) (take_bytes len (drop at content) (drop_bytes at content data_here.bytes))

  written_small : (at : ℕ) (bytes : List ℕ) → at + length bytes ≤ file_bytes_max → length (written content at bytes) ≤ file_bytes_max
  written_small at bytes fits =
      let zeros : List ℕ = replicate (at - length content) 0 in
      let filled : List ℕ = content ++ zeros in
      let a : length filled ≡ length content + length zeros = length-append content zeros in
      let b : length zeros ≡ at - length content = length-replicate (at - length content) 0 in
      let front : length (take at filled) ≡ at = length-take-le at filled (omega (arith, a, b)) in
      let l : length (take at filled ++ bytes ++ drop (at + length bytes) content) ≡ length (take at filled ++ bytes) + length (drop (at + length bytes) content) = length-append (take at filled ++ bytes) (drop (at + length bytes) content) in
      let m : length (take at filled ++ bytes) ≡ length (take at filled) + length bytes = length-append (take at filled) bytes in
      let d : length (drop (at + length bytes) content) ≡ length content - (at + length bytes) = length-drop (at + length bytes) content in
      let small : length content ≤ file_bytes_max = data_here.few in
      omega (arith, l, m, d, front, small, fits)

  written_bytes : (at : ℕ) (bytes : List ℕ) → are_bytes bytes ≡ true → are_bytes (written content at bytes) ≡ true
  written_bytes at bytes h =
      let front : are_bytes (take at (content ++ replicate (at - length content) 0)) ≡ true = take_bytes at (content ++ replicate (at - length content) 0) (all_joined is_byte content (replicate (at - length content) 0) data_here.bytes (zeros_bytes (at - length content))) in
      let filled : are_bytes (take at (content ++ replicate (at - length content) 0) ++ bytes) ≡ true = all_joined is_byte (take at (content ++ replicate (at - length content) 0)) bytes front h in
      all_joined is_byte (take at (content ++ replicate (at - length content) 0) ++ bytes) (drop (at + length bytes) content) filled (drop_bytes (at + length bytes) content data_here.bytes)

  write_text : (at : ℕ) (bytes : List ℕ) → are_bytes bytes ≡ true → EffectIfAny (op.Write at bytes) (cond (nat_le (at + length bytes) file_bytes_max) (Some (writes content at bytes)) None)
  write_text at bytes k = over (nat_le (at + length bytes) file_bytes_max) refl
    where
      inside : nat_le (at + length bytes) file_bytes_max ≡ true → at + length bytes ≤ file_bytes_max
      inside e = grind (arith, nat_tests)

      over : (b : Bool) → nat_le (at + length bytes) file_bytes_max ≡ b → EffectIfAny (op.Write at bytes) (cond b (Some (writes content at bytes)) None)
      over true e = record { result = refl; content = data_of file_bytes_max (written content at bytes) (written_small at bytes (inside e)) (written_bytes at bytes k); pages = between_few (min at (length content)) (at + length bytes) (inside e) }
      over false e = tt

  cut_text : (len : ℕ) → EffectText (op.Cut len) (cuts content len)
  cut_text len = record { result = refl; content = data_of file_bytes_max (cut content len) less (take_bytes len content data_here.bytes); pages = omega arith }
    where
      less : length (take len content) ≤ file_bytes_max
      less = let e : length (take len content) ≡ min len (length content) = length-take len content in let small : length content ≤ file_bytes_max = data_here.few in omega (arith, e, small)

  pub as_text : (o : Op) → is_asked_op o ≡ true → EffectIfAny o (effect (As o) content)
  as_text (op.Probe name) k = worded_text (op.Probe name) (probe_text name (entries_of content) (find (has_name name) (entries_of content)) (λ d f. find_inode (has_name name) (entries_of content) d (entries_are content) f))
  as_text (op.Find component) k = worded_text (op.Find component) (find_by_text component (entries_of content) (lookup (entries_of content) component) k (lookup_text (entries_of content) component (entries_are content)))
  as_text (op.Insert name ino kind) k = worded_text (op.Insert name ino kind) (insert_text name ino kind (entries_of content) (pair_in name ino (entries_of content)))
  as_text (op.Remove name ino) k = tt
  as_text (op.Rename component name) k = worded_text (op.Rename component name) (rename_by_text component name (entries_of content) (lookup (entries_of content) component) (both_parts (is_component component) _ k).0 (entries_are content) (lookup_text (entries_of content) component (entries_are content)))
  as_text op.Empty k = worded_text op.Empty (empty_text (entries_of content) (shown_names (entries_of content)) (shown_text content))
  as_text (op.Read at len) k = tells_text (op.Read at len) (outcome.Data (part content at len)) (read_text at len (most len (both_parts _ (nat_le 0 len && nat_le len 4096) k).1))
    where
      most : (n : ℕ) → (nat_le 0 n && nat_le n 4096) ≡ true → n ≤ 4096
      most n e = grind (arith, nat_tests)
  as_text (op.Write at bytes) k = write_text at bytes (both_parts (nat_le 1 (length bytes) && nat_le (length bytes) 4096) (are_bytes bytes) (both_parts _ (is_some_data 4096 bytes) k).1).1
  as_text (op.Cut len) k = cut_text len
  as_text op.Commit k = tt
  as_text op.Abort k = tt
  as_text op.Mend k = tt

  pub removes_text : (name : List ℕ) (ino : ℕ) (seen : List ℕ) → EffectIfAny (op.Remove name ino) (effect (Removes name ino seen) content)
  removes_text name ino seen = in_directory_text (op.Remove name ino) (dir_effect (op.Remove name ino) seen (entries_of content)) (remove_text name ino seen (entries_of content) (live_one (pair_in name ino (entries_of content))))

  pub mends_text : (several : Bool) (joined : List ℕ) → are_bytes joined ≡ true → EffectIfAny op.Mend (effect (Mends several joined) content)
  mends_text several joined k = puts_text joined _ k
