-- What operations give is of the format, and the contents that they leave are no longer than files may be.
use Rattle.std.proofs.Common.{◌≡◌, ◌≤◌, ◌<◌, ◌^◌, ℕ, zero, suc, ◌+◌, ◌-◌, ◌/◌, min, nat_lt, Bool, true, false, cond, not, List, [], ◌∷◌, ◌++◌, drop, filter, length, replicate, take, Option, None, Some, refl, arith}
use Rattle.std.proofs.Common.{length-append}
use Rattle.std.proofs.lemmas.Bool.Decides.{nat_tests}
use Rattle.std.proofs.lemmas.List.{length-drop, length-replicate, length-take, length-take-le}
use Rattle.std.specs.List.{find}
use Rattle.std.specs.Prelude.{nat_le}
use Rattle.locus_ids.specs.declared.ids.Kind.{Kind}
use Rattle.locus_ids.specs.declared.refusal.Refusal.TheVariants as refusal
use Rattle.locus_ids.specs.Sizes.{file_bytes_max, directory_bytes_max, pack_pages, page_bytes}
use Rattle.dir_format.specs.Contents.{entries_of, is_dir}
use Rattle.dir_format.specs.Effects.{DirEffect, is_spent, live_entry, moved, removed, answers, live_one, refuses, becomes, dir_effect, empty_among, find_by, insert_beside, probe_beside, remove_entry, rename_beside, rename_by, rename_entry, size_of}
use Rattle.dir_format.specs.Entries.{IsEntry, nothing_seen, pair_in, with_entry}
use Rattle.dir_format.specs.Grammar.{dir_bytes}
use Rattle.dir_format.specs.Lookups.{has_name, is_meant, lookup, shown_names}
use Rattle.dir_format.specs.declared.entry.Entry.{Entry}
use Rattle.dir_format.specs.declared.looking.LookResult.{LookResult}
use Rattle.dir_format.specs.declared.looking.LookResult.TheVariants as found
use Rattle.file_content.specs.Pages.{has_page, is_replaced, pages_between, pages_from, pages_needed, pages_of, pages_replaced}
use Rattle.file_effects.specs.Effects.{Effect, cuts, directory_left, in_directory, is_refusal, is_worded, mends, on_directory, puts, tells, writes}
use Rattle.file_effects.specs.Works.{result_in}
use Rattle.operation_effects.specs.Settling.{AreBounded, IsBounded}
use Rattle.operation_effects.proofs.Bounded.{bounded_empty, bounded_find, bounded_insert, bounded_probe, bounded_remove, bounded_rename}
use Rattle.trace_book.specs.declared.operation.Op.{Op}
use Rattle.trace_book.specs.declared.operation.Op.TheVariants as op
use Rattle.trace_book.specs.declared.operation.Outcome.{Outcome}
use Rattle.trace_book.specs.declared.operation.Outcome.TheVariants as outcome
use Rattle.wire_fields.specs.Parts.{components}
use Rattle.wire_fields.specs.declared.asked.Asked.TheVariants as asked
use Rattle.wire_fields.specs.declared.asked.Gave.TheVariants as gave
use Rattle.wire_fields.specs.Operations.{ops, outcomes}
use Rattle.wire_fields.proofs.Members.{range}
use Rattle.role_steps.specs.OperationEffects.{Mending, effect_of, or_spent}
use Rattle.role_steps.specs.Own.{Every}
use Rattle.the_run.proofs.InsideSync.{Found}
use Rattle.packet_laws.proofs.Values.Entries.{ResultFits, entries_fit, entry_ino, find_fits, lookup_fits}
use Rattle.packet_laws.proofs.Values.Fields.{kind_fits}

pub record EffectFits (e : Effect) : Type 0 where
  pub result : outcomes.Fits (gave.Outcome e.result)
  pub size : length e.content ≤ file_bytes_max
  pub pages : length e.pages ≤ 65535

abbrev pub EffectIfAny : Option Effect → Type 0
EffectIfAny None = Unit {0}
EffectIfAny (Some e) = EffectFits e

-- ---- pages ----

pub from_length : (first count : ℕ) → length (pages_from first count) ≡ count
from_length first zero = refl
from_length first (suc more) = let h : length (pages_from (first + 1) more) ≡ more = from_length (first + 1) more in omega (arith, h)

pub filter_most : (test : ℕ → Bool) (xs : List ℕ) → length (filter test xs) ≤ length xs
filter_most test [] = omega arith
filter_most test (x ∷ xs) = over (test x) (filter_most test xs)
  where
    over : (b : Bool) → length (filter test xs) ≤ length xs → length (cond b (x ∷ filter test xs) (filter test xs)) ≤ length (x ∷ xs)
    over true h = omega (arith, h)
    over false h = omega (arith, h)

replaced_few : (old new : List ℕ) → length new ≤ file_bytes_max → length (pages_replaced old new) ≤ 65535
replaced_few old new small =
    let a : length (pages_replaced old new) ≤ length (pages_from 0 (pages_of (length new))) = filter_most (is_replaced old new) (pages_from 0 (pages_of (length new))) in
    let b : length (pages_from 0 (pages_of (length new))) ≡ pages_of (length new) = from_length 0 (pages_of (length new)) in
    few (length new) (length (pages_from 0 (pages_of (length new)))) (length (pages_replaced old new)) small b a
  where
    few : (n p q : ℕ) → n ≤ file_bytes_max → p ≡ (n + (page_bytes - 1)) / page_bytes → q ≤ p → q ≤ 65535
    few n p q s e le = omega (arith, s, e, le)

between_few : (from end : ℕ) → end ≤ file_bytes_max → length (pages_between from end) ≤ 65535
between_few from end small = over (nat_lt from end)
  where
    few : (n p : ℕ) → n ≤ file_bytes_max → (n + (page_bytes - 1)) / page_bytes - p ≤ 65535
    few n p s = omega (arith, s)

    over : (b : Bool) → length (cond b (pages_from (from / page_bytes) (pages_of end - from / page_bytes)) []) ≤ 65535
    over true = let e : length (pages_from (from / page_bytes) (pages_of end - from / page_bytes)) ≡ pages_of end - from / page_bytes = from_length (from / page_bytes) (pages_of end - from / page_bytes) in omega (arith, e, few end (from / page_bytes) small)
    over false = omega arith

-- ---- directories ----

abbrev DirFits : DirEffect → Type 0
DirFits d = outcomes.Fits (gave.Outcome d.outcome)

abbrev DirIfAny : Option DirEffect → Type 0
DirIfAny None = Unit {0}
DirIfAny (Some d) = DirFits d

becomes_fits : (ds after : List Entry) (spent : Bool) → DirFits (becomes ds after spent)
becomes_fits ds after spent = over (nat_lt directory_bytes_max (size_of after))
  where
    over : (b : Bool) → DirFits (cond b (refuses refusal.TooLong ds) (record { outcome = outcome.Done; entries = after; counts = true; spent = spent }))
    over true = tt
    over false = tt

probe_fits : (name : List ℕ) (ds : List Entry) (o : Option Entry) → Found IsEntry o → DirFits (probe_beside name ds o)
probe_fits name ds None h = over (nat_lt directory_bytes_max (size_of ds + (length name + 8)))
  where
    over : (b : Bool) → DirFits (cond b (refuses refusal.TooLong ds) (answers outcome.Done ds))
    over true = tt
    over false = tt
probe_fits name ds (Some d) h = entry_ino d h

find_by_fits : (component : List ℕ) (ds : List Entry) (r : LookResult) → components.Fits component → ResultFits r → DirFits (find_by component ds r)
find_by_fits component ds (found.Found ino kind) k h = (h, kind_fits kind)
find_by_fits component ds found.Absent k h = k
find_by_fits component ds (found.Ambiguous a b) k h = h

insert_fits : (name : List ℕ) (ino : ℕ) (kind : Kind) (ds : List Entry) (o : Option Entry) → DirIfAny (insert_beside name ino kind ds o)
insert_fits name ino kind ds None = becomes_fits ds (with_entry (live_entry name ino kind 1) ds) false
insert_fits name ino kind ds (Some d) = tt

remove_fits : (seen : List ℕ) (ds : List Entry) (o : Option Entry) → DirIfAny (remove_entry seen ds o)
remove_fits seen ds None = tt
remove_fits seen ds (Some d) = becomes_fits ds (with_entry (removed d seen) ds) (is_spent d)

beside_fits : (d : Entry) (name : List ℕ) (ds : List Entry) (o : Option Entry) → Found IsEntry o → DirFits (rename_beside d name ds o)
beside_fits d name ds None h = becomes_fits ds (with_entry (moved d name (pair_in name d.ino ds)) (with_entry (removed d nothing_seen) ds)) (is_spent d)
beside_fits d name ds (Some e) h = entry_ino e h

rename_entry_fits : (component name : List ℕ) (ds : List Entry) (o : Option Entry) → components.Fits component → Every IsEntry ds → DirFits (rename_entry component name ds o)
rename_entry_fits component name ds None k h = k
rename_entry_fits component name ds (Some d) k h = beside_fits d name ds (find (has_name name) ds) (find_fits (has_name name) ds h)

rename_by_fits : (component name : List ℕ) (ds : List Entry) (r : LookResult) → components.Fits component → Every IsEntry ds → ResultFits r → DirFits (rename_by component name ds r)
rename_by_fits component name ds (found.Found ino kind) k h r = rename_entry_fits component name ds (find (is_meant component) ds) k h
rename_by_fits component name ds found.Absent k h r = k
rename_by_fits component name ds (found.Ambiguous a b) k h r = r

empty_fits : (ds : List Entry) (names : List (List ℕ)) → Every components.Fits names → DirFits (empty_among ds names)
empty_fits ds [] h = tt
empty_fits ds (shown ∷ others) h = h.0

-- ---- one operation ----

module _ (content : List ℕ) (small : length content ≤ file_bytes_max) where
  tells_fit : (r : Outcome) → outcomes.Fits (gave.Outcome r) → EffectFits (tells content r)
  tells_fit r h = record { result = h; size = small; pages = omega arith }

  puts_fit : (new : List ℕ) (counts : Bool) → EffectFits (puts content new counts)
  puts_fit new counts = over (nat_lt directory_bytes_max (length new)) refl
    where
      short : nat_lt directory_bytes_max (length new) ≡ false → length new ≤ file_bytes_max
      short e = grind (arith, nat_tests)

      over : (b : Bool) → nat_lt directory_bytes_max (length new) ≡ b → EffectFits (cond b (tells content (outcome.No refusal.TooLong)) (record { result = outcome.Done; content = new; pages = pages_replaced content new; counts = counts; spent = false }))
      over true e = tells_fit (outcome.No refusal.TooLong) tt
      over false e = record { result = tt; size = short e; pages = replaced_few content new (short e) }

  directory_fits : (d : DirEffect) → IsBounded d → DirFits d → EffectFits (on_directory content d)
  directory_fits d bounded h = record { result = h; size = left; pages = replaced_few content (directory_left content d) left }
    where
      over : (b : Bool) → d.counts ≡ b → length (cond b (dir_bytes d.entries) content) ≤ file_bytes_max
      over true e = bounded e
      over false e = small

      left : length (directory_left content d) ≤ file_bytes_max
      left = over d.counts refl

  in_directory_fits : (o : Option DirEffect) → AreBounded o → DirIfAny o → EffectIfAny (in_directory content o)
  in_directory_fits None bounded h = tt
  in_directory_fits (Some d) bounded h = over (is_dir d.entries)
    where
      over : (b : Bool) → EffectIfAny (cond b (Some (on_directory content d)) None)
      over true = directory_fits d bounded h
      over false = tt

  worded_fits : (o : Op) → AreBounded (dir_effect o [] (entries_of content)) → DirIfAny (dir_effect o [] (entries_of content)) → EffectIfAny (cond (is_worded o) (in_directory content (dir_effect o [] (entries_of content))) None)
  worded_fits o bounded h = over (is_worded o)
    where
      over : (b : Bool) → EffectIfAny (cond b (in_directory content (dir_effect o [] (entries_of content))) None)
      over true = in_directory_fits (dir_effect o [] (entries_of content)) bounded h
      over false = tt

  read_fits : (at len : ℕ) → len ≤ 4096 → outcomes.Fits (gave.Outcome (outcome.Data (take len (drop at content))))
  read_fits at len le = let e : length (take len (drop at content)) ≡ min len (length (drop at content)) = length-take len (drop at content) in omega (arith, e, le)

  written_small : (at : ℕ) (bytes : List ℕ) → at + length bytes ≤ file_bytes_max → length (take at (content ++ replicate (at - length content) 0) ++ bytes ++ drop (at + length bytes) content) ≤ file_bytes_max
  written_small at bytes fits =
      let zeros : List ℕ = replicate (at - length content) 0 in
      let filled : List ℕ = content ++ zeros in
      let a : length filled ≡ length content + length zeros = length-append content zeros in
      let b : length zeros ≡ at - length content = length-replicate (at - length content) 0 in
      let front : length (take at filled) ≡ at = length-take-le at filled (omega (arith, a, b)) in
      let l : length (take at filled ++ bytes ++ drop (at + length bytes) content) ≡ length (take at filled ++ bytes) + length (drop (at + length bytes) content) = length-append (take at filled ++ bytes) (drop (at + length bytes) content) in
      let m : length (take at filled ++ bytes) ≡ length (take at filled) + length bytes = length-append (take at filled) bytes in
      let d : length (drop (at + length bytes) content) ≡ length content - (at + length bytes) = length-drop (at + length bytes) content in
      omega (arith, l, m, d, front, small, fits)

  write_fits : (at : ℕ) (bytes : List ℕ) → EffectIfAny (cond (nat_le (at + length bytes) file_bytes_max) (Some (writes content at bytes)) None)
  write_fits at bytes = over (nat_le (at + length bytes) file_bytes_max) refl
    where
      inside : nat_le (at + length bytes) file_bytes_max ≡ true → at + length bytes ≤ file_bytes_max
      inside e = grind (arith, nat_tests)

      over : (b : Bool) → nat_le (at + length bytes) file_bytes_max ≡ b → EffectIfAny (cond b (Some (writes content at bytes)) None)
      over true e = record { result = tt; size = written_small at bytes (inside e); pages = between_few (min at (length content)) (at + length bytes) (inside e) }
      over false e = tt

  cut_fits : (len : ℕ) → EffectFits (cuts content len)
  cut_fits len = record { result = tt; size = less; pages = omega arith }
    where
      less : length (take len content) ≤ file_bytes_max
      less = let e : length (take len content) ≡ min len (length content) = length-take len content in omega (arith, e, small)

  spent_fits : (spent : Bool) (o : Option Effect) → EffectIfAny o → EffectIfAny (or_spent spent o)
  spent_fits spent None h = tt
  spent_fits spent (Some e) h = record { result = h.result; size = h.size; pages = h.pages }

  pub effect_of_fits : ((ds : List Entry) → Every IsEntry ds → Every components.Fits (shown_names ds)) → (o : Op) (seen : List ℕ) (m : Mending) → ops.Fits (asked.Op o seen) → EffectIfAny (effect_of o seen m content)
  effect_of_fits shown (op.Probe name) seen m k = worded_fits (op.Probe name) (bounded_probe name (entries_of content)) (probe_fits name (entries_of content) (find (has_name name) (entries_of content)) (find_fits (has_name name) (entries_of content) (entries_fit content)))
  effect_of_fits shown (op.Find component) seen m k = worded_fits (op.Find component) (bounded_find component (entries_of content)) (find_by_fits component (entries_of content) (lookup (entries_of content) component) k.0 (lookup_fits (entries_of content) component (entries_fit content)))
  effect_of_fits shown (op.Insert name ino kind) seen m k = worded_fits (op.Insert name ino kind) (bounded_insert name ino kind (entries_of content)) (insert_fits name ino kind (entries_of content) (pair_in name ino (entries_of content)))
  effect_of_fits shown (op.Rename component name) seen m k = worded_fits (op.Rename component name) (bounded_rename component name (entries_of content)) (rename_by_fits component name (entries_of content) (lookup (entries_of content) component) k.0.0 (entries_fit content) (lookup_fits (entries_of content) component (entries_fit content)))
  effect_of_fits shown op.Empty seen m k = worded_fits op.Empty (bounded_empty (entries_of content)) (empty_fits (entries_of content) (shown_names (entries_of content)) (shown (entries_of content) (entries_fit content)))
  effect_of_fits shown (op.Remove name ino) seen m k = in_directory_fits (dir_effect (op.Remove name ino) seen (entries_of content)) (bounded_remove name ino seen (entries_of content)) (remove_fits seen (entries_of content) (live_one (pair_in name ino (entries_of content))))
  effect_of_fits shown (op.Read at len) seen m k = tells_fit (outcome.Data (take len (drop at content))) (read_fits at len (range 0 4096 len k.0.1.0).1)
  effect_of_fits shown (op.Write at bytes) seen m k = write_fits at bytes
  effect_of_fits shown (op.Cut len) seen m k = cut_fits len
  effect_of_fits shown op.Commit seen m k = tt
  effect_of_fits shown op.Abort seen m k = tt
  effect_of_fits shown op.Mend seen m k = spent_fits _ (Some (mends content _ _)) (puts_fit _ _)

-- ---- in the room that is left ----

pub result_fits : (free : ℕ) (changed : List ℕ) (e : Effect) → free ≤ pack_pages → EffectFits e → outcomes.Fits (gave.Outcome (result_in free changed e))
result_fits free changed e low h =
    (elim (is_refusal e.result) as (λ a. is_refusal e.result ≡ a → outcomes.Fits (gave.Outcome (result_in free changed e))) [
      | true ↦ λ p. rw p h.result
      | false ↦ λ p. (elim (nat_lt free (pages_needed e.pages changed)) as (λ b. nat_lt free (pages_needed e.pages changed) ≡ b → outcomes.Fits (gave.Outcome (result_in free changed e))) [
        | true ↦ λ q. rw (p, q) (few, least)
        | false ↦ λ q. (elim e.spent as (λ d. e.spent ≡ d → outcomes.Fits (gave.Outcome (result_in free changed e))) [
          | true ↦ λ r. rw (p, q, r) tt
          | false ↦ λ r. rw (p, q, r) h.result
        ]) refl
      ]) refl
    ]) refl
  where
    few : pages_needed e.pages changed < 2 ^ 16
    few = let a : pages_needed e.pages changed ≤ length e.pages = filter_most (λ (page : ℕ). not (has_page changed page)) e.pages in omega (arith, a, h.pages)

    least : free < 2 ^ 16
    least = omega (arith, low)
