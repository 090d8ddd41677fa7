-- What a cut leaves of a disk in memory, after a write to it while nothing waits for a sync.
use Rattle.std.proofs.Common.{◌≡◌, ⊎_elim, ℕ, zero, suc, ◌+◌, ◌-◌, ◌≤◌, ◌<◌, Bool, true, false, cond, ◌||◌, List, [], ◌∷◌, ◌++◌, length, replicate, get_or, refl, sym, ◌∙◌, ap, arith, ltb}
use Rattle.std.specs.Prelude.{Ok, Err, Option, Some, None}
use Rattle.std.proofs.lemmas.Bool.{cases_Bool, true≢false, false≢true}
use Rattle.std.proofs.lemmas.Bool.Decides.{nat_tests}
use Rattle.std.proofs.lemmas.List.{same_lists, get_or_default, length-replicate, get_or-replicate}
use Rattle.disk_model.specs.declared.store.Span.{Span}
use Rattle.disk_model.specs.declared.disk.DiskFault.{DiskFault}
use Rattle.disk_model.specs.declared.script.Leave.{Leave}
use Rattle.disk_model.specs.declared.script.Leave.TheVariants.{Old, New, Byte}
use Rattle.disk_model.specs.declared.script.Fired.{Fired}
use Rattle.disk_model.specs.declared.script.Fired.TheVariants.{No, Stop, Fault}
use Rattle.disk_model.specs.declared.script.Armed.{Armed}
use Rattle.disk_model.specs.declared.script.Armed.TheVariants.{Nothing, StopAfter, FaultAfter}
use Rattle.disk_model.specs.declared.script.Turn.{Turn}
use Rattle.disk_model.specs.declared.script.Turn.TheVariants as turn
use Rattle.disk_model.specs.declared.script.Script.{Script}
use Rattle.disk_model.specs.declared.script_disk.ScriptDisk.{ScriptDisk}
use Rattle.disk_model.specs.Cut.{Cut, Stops, Fails, left_by, left_in_write}
use Rattle.disk_model.specs.Disk.{Only, Passing, Untold, All, Exactly, CutsWrite}
use Rattle.disk_model.specs.Images.{overwritten, is_within, covers, Torn, IsImage}
use Rattle.disk_model.specs.Store.{unsynced_max, SameOutside, left_in, with_room, durable_with_room}
use Rattle.disk_model.specs.Script.{turn_at, turn_of, passing_at, how_at, how_of, writes_after, after_write}
use Rattle.disk_model.specs.ScriptDisk.{seen, unsynced, durable, spoiled_from, crashed, crashed_by, moment}
use Rattle.disk_model.specs.ScriptLaws.{length-spoiled}
use Rattle.disk_model.proofs.Spans.{within_bounds, put_within, put_outside, length-overwritten, covers-append, covers-one}
use Rattle.disk_model.proofs.Images.{torn_overwritten, torn_left, room_none}

-- a call changes nothing in how the script cuts
how_stays : (fired : Fired) (writes : Armed) → how_at (writes_after fired writes) ≡ how_at writes
how_stays No Nothing = refl
how_stays No (StopAfter calls leave) = refl
how_stays No (FaultAfter calls) = refl
how_stays Stop writes = refl
how_stays Fault writes = refl

pub how_after : (script new : Script) → new ≡ after_write script → how_of new ≡ how_of script
how_after script new is = ap (λ (s : Script). how_of s) is ∙ how_stays script.fired script.writes

-- a call that stops is cut so
abbrev is_stop : Turn → Bool
is_stop turn.Passes = false
is_stop (turn.Stops leave) = true
is_stop turn.Fails = false

abbrev cut_at : Turn → Cut
cut_at turn.Passes = Fails
cut_at (turn.Stops leave) = Stops leave
cut_at turn.Fails = Fails

how_stopped : (fired : Fired) (writes : Armed) (leave : Leave) → turn_at fired writes ≡ turn.Stops leave → how_at writes ≡ Stops leave
how_stopped No Nothing leave is = absurd (false≢true (ap is_stop is))
how_stopped No (StopAfter zero other) leave is = ap cut_at is
how_stopped No (StopAfter (suc calls) other) leave is = absurd (false≢true (ap is_stop is))
how_stopped No (FaultAfter zero) leave is = absurd (false≢true (ap is_stop is))
how_stopped No (FaultAfter (suc calls)) leave is = absurd (false≢true (ap is_stop is))
how_stopped Stop writes leave is = absurd (false≢true (ap is_stop is))
how_stopped Fault writes leave is = absurd (false≢true (ap is_stop is))

-- a call that passes isn't told to fail
abbrev is_none : Passing → Bool
is_none Untold = false
is_none All = false
is_none (Exactly zero) = true
is_none (Exactly (suc calls)) = false

abbrev passes : Turn → Bool
passes turn.Passes = true
passes (turn.Stops leave) = false
passes turn.Fails = false

passes_some : (fired : Fired) (reads : Option ℕ) (writes : Armed) → turn_at fired writes ≡ turn.Passes → passing_at fired reads writes ≡ Exactly zero → ⊥
passes_some No None Nothing is none = false≢true (ap is_none none)
passes_some No None (StopAfter zero leave) is none = false≢true (ap passes is)
passes_some No None (StopAfter (suc calls) leave) is none = false≢true (ap is_none none)
passes_some No None (FaultAfter zero) is none = false≢true (ap passes is)
passes_some No None (FaultAfter (suc calls)) is none = false≢true (ap is_none none)
passes_some No (Some reads) writes is none = false≢true (ap is_none none)
passes_some Stop reads writes is none = false≢true (ap is_none none)
passes_some Fault reads writes is none = false≢true (ap is_none none)

-- each byte, with one in its place in the ranges
spoiled_at : (k : ℕ) (spans : List Span) (byte : ℕ) (xs : List ℕ) (i : ℕ) → i < length xs → get_or (spoiled_from k spans byte xs) i 0 ≡ cond (covers spans (k + i)) byte (get_or xs i 0)
spoiled_at k spans byte [] i lt = absurd (omega arith)
spoiled_at k spans byte (x ∷ xs) zero lt = (let e : k ≡ k + zero = omega arith in ap (λ (n : ℕ). cond (covers spans n) byte x) e)
spoiled_at k spans byte (x ∷ xs) (suc i) lt = spoiled_at (suc k) spans byte xs i (omega arith) ∙ (let e : suc k + i ≡ k + suc i = omega arith in ap (λ (n : ℕ). cond (covers spans n) byte (get_or xs i 0)) e)

spoiled_in : (spans : List Span) (byte : ℕ) (xs : List ℕ) (i : ℕ) → i < length xs → get_or (spoiled_from 0 spans byte xs) i 0 ≡ cond (covers spans i) byte (get_or xs i 0)
spoiled_in spans byte xs i lt = spoiled_at 0 spans byte xs i lt ∙ (let e : 0 + i ≡ i = omega arith in ap (λ (n : ℕ). cond (covers spans n) byte (get_or xs i 0)) e)

-- a crash that spoils the ranges leaves what was read, with all of it spoiled
pub spoil_is : (byte : ℕ) (spans : List Span) (read new : List ℕ) → length new ≡ length read → ((k : ℕ) → get_or new k 0 ≡ cond (covers spans k) byte (get_or read k 0)) → new ≡ spoiled_from 0 spans byte read
spoil_is byte spans read new long each =
    let same = length-spoiled 0 spans byte read in
    same_lists new (spoiled_from 0 spans byte read) (long ∙ sym same) (λ k d lt.
    get_or_default new k d 0 lt ∙ each k ∙ sym (spoiled_in spans byte read k (omega (arith, long))) ∙ get_or_default (spoiled_from 0 spans byte read) k 0 d (omega (arith, long, same)))

-- nothing waits for a sync
module _ (spans : List Span) (read : List ℕ) (only : Only read (IsImage spans read)) where
  outside_one : (k j : ℕ) → covers spans k ≡ true → covers spans j ≡ false → is_within k 1 j ≡ false
  outside_one k j is none = ⊎_elim
      (λ (in_it : is_within k 1 j ≡ true).
      let low = (within_bounds k 1 j in_it).0 in
      let high = (within_bounds k 1 j in_it).1 in
      let e : j ≡ k = omega arith in
      absurd (true≢false (sym is ∙ ap (λ (n : ℕ). covers spans n) (sym e) ∙ none)))
      (λ (out : is_within k 1 j ≡ false). out)
      (cases_Bool (is_within k 1 j))

  -- a byte that waits might be another
  another : (k : ℕ) → k < length read → covers spans k ≡ true → ⊥
  another k lt is =
      let more : List ℕ = suc (get_or read k 0) ∷ [] in
      let image = overwritten read k more in
      let within : is_within k 1 k ≡ true = is_inside k in
      let put : get_or image k 0 ≡ get_or more (k - k) 0 = put_within k read more k (omega arith) within in
      let first : get_or more (k - k) 0 ≡ suc (get_or read k 0) = (let e : k - k ≡ 0 = omega arith in ap (λ (n : ℕ). get_or more n 0) e) in
      let same : image ≡ read = only image (record { long = length-overwritten read k more (omega arith); outside = λ j none. put_outside k read more j (omega arith) (outside_one k j is none) }) in
      let e : suc (get_or read k 0) ≡ get_or read k 0 = sym first ∙ sym put ∙ ap (λ (l : List ℕ). get_or l k 0) same in
      absurd (omega (arith, e))
    where
      is_inside : (k : ℕ) → is_within k 1 k ≡ true
      is_inside k = grind (arith, nat_tests)

  pub none_waits : (k : ℕ) → k < length read → covers spans k ≡ false
  none_waits k lt = ⊎_elim (λ (is : covers spans k ≡ true). absurd (another k lt is)) (λ (is : covers spans k ≡ false). is) (cases_Bool (covers spans k))

  -- so all is durable
  pub all_durable : (kept : List ℕ) → length kept ≡ length read → SameOutside spans kept read → kept ≡ read
  all_durable kept long same = same_lists kept read long (λ k d lt.
      get_or_default kept k d 0 lt ∙ same k (none_waits k (omega (arith, long))) ∙ get_or_default read k 0 d (omega (arith, long)))

  pub durable_in_room : (kept : List ℕ) → length kept ≡ length read → SameOutside spans kept read → durable_with_room spans kept read ≡ read
  durable_in_room kept long same = ap (λ (l : List ℕ). cond (ltb (length spans) unsynced_max) l read) (all_durable kept long same) ∙ by (ltb (length spans) unsynced_max)
    where
      by : (b : Bool) → cond b read read ≡ read
      by true = refl
      by false = refl

  -- a write of which the range waits
  module _ (at : ℕ) (bytes : List ℕ) (fits : at + length bytes ≤ length read) where
    abbrev waiting : List Span
    waiting = with_room spans ++ record { at = at; len = length bytes } ∷ []

    covered : (k : ℕ) → k < length read → covers waiting k ≡ is_within at (length bytes) k
    covered k lt =
        covers-append (with_room spans) (record { at = at; len = length bytes } ∷ []) k
        ∙ ap (λ (b : Bool). b || covers (record { at = at; len = length bytes } ∷ []) k) (room_none spans k (none_waits k lt))
        ∙ covers-one (record { at = at; len = length bytes }) k

    spoil_written : (byte : ℕ) (after : List ℕ) → Torn at (length bytes) read after → spoiled_from 0 waiting byte after ≡ overwritten read at (replicate (length bytes) byte)
    spoil_written byte after torn =
        let filled : length (replicate (length bytes) byte) ≡ length bytes = length-replicate (length bytes) byte in
        let same = length-spoiled 0 waiting byte after in
        let long : length (overwritten read at (replicate (length bytes) byte)) ≡ length read = length-overwritten read at (replicate (length bytes) byte) (omega (arith, filled)) in
        same_lists (spoiled_from 0 waiting byte after) (overwritten read at (replicate (length bytes) byte)) (same ∙ torn.long ∙ sym long) (λ k d lt.
        get_or_default (spoiled_from 0 waiting byte after) k d 0 lt
        ∙ spoiled_in waiting byte after k (omega (arith, same))
        ∙ ap (λ (b : Bool). cond b byte (get_or after k 0)) (covered k (omega (arith, same, torn.long)))
        ∙ here k byte after torn filled
        ∙ get_or_default (overwritten read at (replicate (length bytes) byte)) k 0 d (omega (arith, same, torn.long, long)))
      where
        here : (k byte : ℕ) (after : List ℕ) → Torn at (length bytes) read after → length (replicate (length bytes) byte) ≡ length bytes → cond (is_within at (length bytes) k) byte (get_or after k 0) ≡ get_or (overwritten read at (replicate (length bytes) byte)) k 0
        here k byte after torn filled = ⊎_elim
            (λ (is : is_within at (length bytes) k ≡ true).
            let low = (within_bounds at (length bytes) k is).0 in
            let high = (within_bounds at (length bytes) k is).1 in
            ap (λ (b : Bool). cond b byte (get_or after k 0)) is
            ∙ sym (put_within at read (replicate (length bytes) byte) k (omega (arith, filled)) (ap (λ (n : ℕ). is_within at n k) filled ∙ is) ∙ get_or-replicate (length bytes) (k - at) byte 0 (omega arith)))
            (λ (out : is_within at (length bytes) k ≡ false).
            ap (λ (b : Bool). cond b byte (get_or after k 0)) out
            ∙ torn.outside k out
            ∙ sym (put_outside at read (replicate (length bytes) byte) k (omega (arith, filled)) (ap (λ (n : ℕ). is_within at n k) filled ∙ out)))
            (cases_Bool (is_within at (length bytes) k))

    pub crashed_passed : (how : Cut) (kept : List ℕ) → kept ≡ read → crashed_by how waiting kept (overwritten read at bytes) ≡ left_by how read at bytes
    crashed_passed (Stops Old) kept is = is
    crashed_passed (Stops New) kept is = refl
    crashed_passed (Stops (Byte byte)) kept is = spoil_written byte (overwritten read at bytes) (torn_overwritten read at bytes fits)
    crashed_passed Fails kept is = refl

    pub crashed_stopped : (leave : Leave) (kept : List ℕ) → kept ≡ read → crashed leave waiting kept (left_in leave read at bytes) ≡ left_in leave read at bytes
    crashed_stopped Old kept is = is
    crashed_stopped New kept is = refl
    crashed_stopped (Byte byte) kept is = spoil_written byte (left_in (Byte byte) read at bytes) (torn_left (Byte byte) read at bytes fits)

-- a write that passes
pub passed_cut : (old new : ScriptDisk) (at : ℕ) (bytes : List ℕ) → at + length bytes ≤ length (seen old) → turn_of old.script ≡ turn.Passes → new.script ≡ after_write old.script
    → seen new ≡ overwritten (seen old) at bytes → durable new ≡ durable_with_room (unsynced old) (durable old) (seen old) → unsynced new ≡ with_room (unsynced old) ++ record { at = at; len = length bytes } ∷ []
    → CutsWrite {T = Unit {0}} {E = DiskFault} at bytes (moment old) (moment new) (Ok tt)
passed_cut old new at bytes fits is script read kept waits = record {
  how = how_after old.script new.script script;
  passed = λ settled.
      ap (λ (h : Cut). crashed_by h (unsynced new) (durable new) (seen new)) (how_after old.script new.script script)
      ∙ (λ i. crashed_by (how_of old.script) (waits i) (kept i) (read i))
      ∙ crashed_passed (unsynced old) (seen old) settled at bytes fits (how_of old.script) _ (durable_in_room (unsynced old) (seen old) settled (durable old) old.store.same_length old.store.synced);
  cut = λ settled none. absurd (passes_some old.script.fired old.script.reads old.script.writes is none);
}

-- a write that stops
pub stopped_cut : (old new : ScriptDisk) (at : ℕ) (bytes : List ℕ) (leave : Leave) → at + length bytes ≤ length (seen old) → turn_of old.script ≡ turn.Stops leave → new.script ≡ after_write old.script
    → seen new ≡ left_in leave (seen old) at bytes → durable new ≡ durable_with_room (unsynced old) (durable old) (seen old) → unsynced new ≡ with_room (unsynced old) ++ record { at = at; len = length bytes } ∷ []
    → (fault : DiskFault) → CutsWrite {T = Unit {0}} {E = DiskFault} at bytes (moment old) (moment new) (Err fault)
stopped_cut old new at bytes leave fits is script read kept waits fault =
    let how = how_stopped old.script.fired old.script.writes leave is in
    record {
      how = how_after old.script new.script script;
      passed = λ settled. tt;
      cut = λ settled none.
          ap (λ (h : Cut). crashed_by h (unsynced new) (durable new) (seen new)) (how_after old.script new.script script ∙ how)
          ∙ (λ i. crashed leave (waits i) (kept i) (read i))
          ∙ crashed_stopped (unsynced old) (seen old) settled at bytes fits leave _ (durable_in_room (unsynced old) (seen old) settled (durable old) old.store.same_length old.store.synced)
          ∙ sym (ap (λ (h : Cut). left_in_write h (seen old) at bytes) how);
    }
