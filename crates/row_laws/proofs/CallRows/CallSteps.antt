-- A using site accepts a call, and leaves an epoch.
use Rattle.locus_ids.specs.declared.config.Config.{Config}
use Rattle.std.proofs.Common.{◌≡◌, ◌≤◌, ◌<◌, ℕ, ◌+◌, ◌*◌, true, false, List, [], ◌∷◌, Option, Some, None, refl, sym, ◌∙◌, ap, subst, inl, inr, arith}
use Rattle.role_steps.proofs.of_plain_facts.Options.{none_some, some_same}
use Rattle.locus_ids.specs.declared.ids.CallId.{CallId}
use Rattle.locus_ids.specs.declared.ids.EpochId.{EpochId}
use Rattle.locus_ids.specs.declared.ids.Serial.{Serial}
use Rattle.trace_book.specs.declared.call.Call.{Call}
use Rattle.trace_book.specs.declared.call.Call.TheVariants as call
use Rattle.trace_book.specs.declared.descriptor.Beginning.{Beginning}
use Rattle.trace_book.specs.declared.descriptor.Beginning.TheVariants as begins
use Rattle.trace_book.specs.declared.descriptor.Descriptor.{Descriptor}
use Rattle.trace_book.specs.declared.record.Record.TheVariants as says
use Rattle.call_rules.specs.Descriptors.{lowest_free, is_in, begins_close, beginning}
use Rattle.call_rules.specs.declared.want.Want.{Want}
use Rattle.call_rules.specs.declared.want.Want.TheVariants as want
use Rattle.role_steps.specs.Own.{Every}
use Rattle.role_steps.specs.Tables.{row}
use Rattle.role_steps.specs.Views.{Frame, Users, Shown}
use Rattle.role_steps.specs.Requests.{waiting_of, waiting_key, instance_serial, user_instance, fd_key, descriptor_key, descriptor_in, descriptors_of, without_descriptor, waiting_span}
use Rattle.role_steps.specs.of_page_cache.Cached.{CachedPages}
use Rattle.role_steps.specs.Using.{own_call, is_packed, next_want, goes_on, frees, accepted, with_copied, accepted_call, counted_users, on_call, changed_records, users_leave}
use Rattle.role_steps.specs.declared.users.WaitingCall.{WaitingCall}
use Rattle.role_steps.specs.declared.users.DescriptorRow.{DescriptorRow}
use Rattle.tree_model.specs.Folds.{Trace}
use Rattle.the_run.specs.Kept.{Among}
use Rattle.row_laws.specs.Shown.{with_told}
use Rattle.row_laws.specs.CallRows.Scripts.{BeginsWith, HoldsOpened, Starts, OnDescriptor}
use Rattle.row_laws.specs.CallRows.Serials.{BeginsOn, Frees, Own, Holds, serial_of, IsOpenIn, HasInstance, Owned}
use Rattle.row_laws.specs.CallRows.Waiting.{after, AllAccepted, OfSite, KeyedAs, Waits, Goes}
use Rattle.row_laws.specs.CallRows.Standing.{UsersDo}
use Rattle.row_laws.proofs.CallRows.Rising.{row_found, row_there}
use Rattle.row_laws.proofs.CallRows.Starts.{wants_starts, begins_close_there, begins_there}
use Rattle.row_laws.proofs.CallRows.Going.{Idle, accept_goes, accept_row, leave_waits}
use Rattle.row_laws.proofs.CallRows.Owning.{counts_owned, leave_owned, freed_old, freed_owned}
use Rattle.row_laws.proofs.CallRows.UserSteps.{Lost, Ready, goes_do}

-- ---- the descriptor of a call ----

-- the row of an open descriptor, and its serial number
record OnRow (now : Option EpochId) (u : Users) (process fd s : ℕ) : Type 0 where
  row : DescriptorRow
  there : Among row u.descriptors
  key : descriptor_key row ≡ fd_key process fd
  open_now : IsOpenIn now row
  serial : serial_of row ≡ s

row_of : (now : Option EpochId) (u : Users) (process fd : ℕ) (i : Serial) → OnDescriptor now (descriptors_of u process fd) i → OnRow now u process fd i.serial
row_of now u process fd i h = by_row (row descriptor_key (fd_key process fd) u.descriptors) refl h.is
  where
    by_row : (o : Option DescriptorRow) → row descriptor_key (fd_key process fd) u.descriptors ≡ o → descriptor_in o ≡ Some h.descriptor → OnRow now u process fd i.serial
    by_row None e f = absurd (none_some h.descriptor f)
    by_row (Some r) e f =
        let k : Among r u.descriptors × (descriptor_key r ≡ fd_key process fd) = row_found descriptor_key (fd_key process fd) u.descriptors r e in
        let same : r.descriptor ≡ h.descriptor = some_same r.descriptor h.descriptor f in
        record {
          row = r;
          there = k.0;
          key = k.1;
          open_now = subst (λ (d : Descriptor). is_in now d.epoch ≡ true) (sym same) h.open_now;
          serial = ap (λ (d : Descriptor). d.inst.serial) same ∙ ap (λ (j : Serial). j.serial) h.inst_is;
        }

begins_serial : (s : ℕ) (b : Beginning) → BeginsOn s b → (i : Serial) × (BeginsWith b i × (i.serial ≡ s))
begins_serial s (begins.Uses e i) h = (i, ((e, refl), h))
begins_serial s (begins.Denied why) h = absurd h
begins_serial s (begins.Walks id) h = absurd h
begins_serial s (begins.Reopens version last) h = absurd h
begins_serial s begins.Frees h = absurd h

freed_row : (now : Option EpochId) (u : Users) (process fd s : ℕ) → Frees s (call.Close fd) (begins_close now (descriptors_of u process fd)) → OnRow now u process fd s
freed_row now u process fd s h =
    let k : (i : Serial) × (BeginsWith (begins_close now (descriptors_of u process fd)) i × (i.serial ≡ s)) = begins_serial s (begins_close now (descriptors_of u process fd)) h in
    subst (OnRow now u process fd) k.1.1 (row_of now u process fd k.0 (begins_close_there now (descriptors_of u process fd) k.0 k.1.0))

-- ---- a new call is asked something, or it is given its reply ----

lost_none : (b : Beginning) (u : Users) (x : Want) → Starts b x → ((i : Serial) → BeginsWith b i → user_instance u i.serial ≡ None → ⊥) → Lost u x → ⊥
lost_none b u (want.Do i o) s f l = f i s l
lost_none b u (want.Close i) s f l = f i s l
lost_none b u want.Never s f l = s
lost_none b u (want.Look file what) s f l = l
lost_none b u (want.Open file how) s f l = l
lost_none b u (want.OpenToMend file) s f l = l
lost_none b u (want.Make group kind sites) s f l = l
lost_none b u (want.Give r) s f l = l

begun_has : (K : EpochId → Type 0) (now : Option EpochId) (u : Users) (process : ℕ) (id : CallId) (words : Call) (i : Serial) → Owned K now u → BeginsWith (beginning (descriptors_of u process) now id words) i → user_instance u i.serial ≡ None → ⊥
begun_has K now u process id words i o h none =
    let k : (fd : ℕ) × OnDescriptor now (descriptors_of u process fd) i = begins_there (descriptors_of u process) now id words i h in
    let r : OnRow now u process k.0 i.serial = row_of now u process k.0 i k.1 in
    let has : HasInstance (serial_of r.row) u = o.there r.row r.there r.open_now in
    row_there instance_serial i.serial u.instances has.0 has.1.0 (has.1.1 ∙ r.serial) none

-- ---- a call is accepted ----

unopened : {A : Type 0} → HoldsOpened [] → A
unopened (inl e) = absurd e
unopened (inr e) = absurd e

-- a call that closes no descriptor holds nothing yet
other_ready : (c : Config) (K : EpochId → Type 0) (f : Frame) (now : Option EpochId) (t : Trace) (u : Users) (pages : CachedPages) (copied : Option (List ℕ)) (process n : ℕ) (words : Call) → ((s : ℕ) → Frees s words (beginning (descriptors_of u process) now (own_call f.me f.boot n) words) → ⊥) → Owned K now u →
    Ready c K f now t (record u { calls = n; cache = pages }) (with_copied copied (accepted process n words (beginning (descriptors_of u process) now (own_call f.me f.boot n) words)))
other_ready c K f now t u pages copied process n words none o = record {
  low = λ s k. absurd (held s k);
  calls = λ x s a k l. absurd (held s l);
  rows = λ d a p k. held (serial_of d) k;
  opened = λ e. unopened e;
  stays = λ l. absurd (lost_none b v (next_want f w v) (wants_starts f.config.mounts (is_packed f) (lowest_free (descriptors_of u process)) (descriptors_of u process) now (own_call f.me f.boot n) words) (λ i h. begun_has K now u process (own_call f.me f.boot n) words i o h) l);
}
  where
    b : Beginning
    b = beginning (descriptors_of u process) now (own_call f.me f.boot n) words

    w : WaitingCall
    w = with_copied copied (accepted process n words b)

    v : Users
    v = record u { calls = n; cache = pages }

    held : (s : ℕ) → Own s w → ⊥
    held s (inl k) = k
    held s (inr k) = none s k

-- a close holds what its descriptor held
close_ready : (c : Config) (K : EpochId → Type 0) (f : Frame) (now : Option EpochId) (t : Trace) (u : Users) (pages : CachedPages) (copied : Option (List ℕ)) (process n fd : ℕ) → Owned K now u →
    Ready c K f now t (without_descriptor process fd (record u { calls = n; cache = pages })) (with_copied copied (accepted process n (call.Close fd) (beginning (descriptors_of u process) now (own_call f.me f.boot n) (call.Close fd))))
close_ready c K f now t u pages copied process n fd o = record {
  low = λ s k. (let r : OnRow now u process fd s = held s k in let l : serial_of r.row ≤ u.serials = o.low r.row r.there in subst (λ (x : ℕ). x ≤ u.serials) r.serial l);
  calls = λ x s a k l. (let r : OnRow now u process fd s = held s l in absurd (o.no_call r.row x r.there r.open_now a (subst (λ (y : ℕ). Holds y x) (sym r.serial) k)));
  rows = λ d a p k. (let r : OnRow now u process fd (serial_of d) = held (serial_of d) k in let old : Among d u.descriptors × (descriptor_key d ≡ fd_key process fd → ⊥) = freed_old K now process fd u o d a in old.1 (o.one_descriptor d r.row old.0 r.there p r.open_now (sym r.serial) ∙ r.key));
  opened = λ e. unopened e;
  stays = λ l. absurd (lost_none b v (next_want f w v) (wants_starts f.config.mounts (is_packed f) (lowest_free (descriptors_of v process)) (descriptors_of u process) now (own_call f.me f.boot n) (call.Close fd)) (λ i h. begun_has K now u process (own_call f.me f.boot n) (call.Close fd) i o h) l);
}
  where
    b : Beginning
    b = beginning (descriptors_of u process) now (own_call f.me f.boot n) (call.Close fd)

    w : WaitingCall
    w = with_copied copied (accepted process n (call.Close fd) b)

    v : Users
    v = without_descriptor process fd (record u { calls = n; cache = pages })

    held : (s : ℕ) → Own s w → OnRow now u process fd s
    held s (inl k) = absurd k
    held s (inr k) = freed_row now u process fd s k

-- the call as it goes on, with what it frees
accepted_do : (c : Config) (K : EpochId → Type 0) (f : Frame) (now : Option EpochId) (m process : ℕ) (t : Trace) (words : Call) (u : Users) (pages : CachedPages) (copied : Option (List ℕ)) → Owned K now u → Goes c f.me f.boot t (u.calls + 1) u.waiting (with_copied copied (accepted process (u.calls + 1) words (beginning (descriptors_of u process) now (own_call f.me f.boot (u.calls + 1)) words))) →
    UsersDo c K f.me f.boot now m t (goes_on f (with_copied copied (accepted process (u.calls + 1) words (beginning (descriptors_of u process) now (own_call f.me f.boot (u.calls + 1)) words))) (frees process words (record u { calls = u.calls + 1; cache = pages })))
accepted_do c K f now m process t (call.Close fd) u pages copied o g =
    goes_do c K f now m t (without_descriptor process fd (record u { calls = u.calls + 1; cache = pages })) (with_copied copied (accepted process (u.calls + 1) (call.Close fd) (beginning (descriptors_of u process) now (own_call f.me f.boot (u.calls + 1)) (call.Close fd)))) g
    (freed_owned K now process fd (record u { calls = u.calls + 1; cache = pages }) (counts_owned K now (u.calls + 1) pages u o)) (close_ready c K f now t u pages copied process (u.calls + 1) fd o)
accepted_do c K f now m process t words u pages copied o g =
    goes_do c K f now m t (record u { calls = u.calls + 1; cache = pages }) (with_copied copied (accepted process (u.calls + 1) words (beginning (descriptors_of u process) now (own_call f.me f.boot (u.calls + 1)) words))) g
    (counts_owned K now (u.calls + 1) pages u o) (other_ready c K f now t u pages copied process (u.calls + 1) words (λ s h. h) o)

pub on_call_do : (c : Config) (K : EpochId → Type 0) (f : Frame) (now : Option EpochId) (m process : ℕ) (t : Trace) (words : Call) (u : Users) → ((r : WaitingCall) → Among r u.waiting → waiting_key r ≡ waiting_of process words → ⊥) → KeyedAs process words → Idle process words u.waiting →
    Waits c f.me f.boot t u.calls u.waiting → Owned K now u → UsersDo c K f.me f.boot now m t (on_call f now process words u)
on_call_do c K f now m process t words u alone keyed idle h o =
    let w : WaitingCall = accepted_call f now process words u in
    let counted : Users = counted_users f now process words u in
    let d : UsersDo c K f.me f.boot now m next (goes_on f w (frees process words counted)) = accepted_do c K f now m process next words u counted.cache w.copied o (accept_goes c f.me f.boot m u.calls process t u.waiting words w.begins w.copied o.waiting alone keyed h) in
    record { waits = d.waits; owned = d.owned; rows = (accept_row c f.me f.boot u.calls process t u.waiting words idle h, d.rows); own = (refl, d.own); none = d.none }
  where
    next : Trace
    next = with_told m (Shown (says.Accept f.me process (own_call f.me f.boot (u.calls + 1)) words)) t

-- ---- the keys of new calls ----

-- a call that a process makes
abbrev pub IsPlain : Call → Type 0
IsPlain (call.Mend file) = ⊥
IsPlain _ = Unit {0}

plain_keyed : (process : ℕ) (words : Call) → IsPlain words → 1 ≤ process → KeyedAs process words
plain_keyed process (call.Mend file) p one = absurd p
plain_keyed process _ p one = one

plain_key : (process : ℕ) (words : Call) → IsPlain words → waiting_of process words ≡ waiting_span * process
plain_key process (call.Mend file) p = absurd p
plain_key process _ p = refl

plain_idle : (process : ℕ) (words : Call) (rows : List WaitingCall) → ((r : WaitingCall) → Among r rows → r.process ≡ process → ⊥) → Idle process words rows
plain_idle process (call.Mend file) rows idle = tt
plain_idle process _ rows idle = idle

-- a mend's key is its group, any other's is 16 times its process
apart_keys : (process other : ℕ) (words : Call) → KeyedAs other words → 1 ≤ process → (other ≡ process → ⊥) → waiting_of other words ≡ waiting_span * process → ⊥
apart_keys process other (call.Mend file) k one ne e = (let low : file.group < waiting_span = k in omega (arith, low, e, one))
apart_keys process other _ k one ne e = ne (omega (arith, e))

-- a process that waits for nothing makes a call
pub process_call_do : (c : Config) (K : EpochId → Type 0) (f : Frame) (now : Option EpochId) (m process : ℕ) (t : Trace) (words : Call) (u : Users) → IsPlain words → 1 ≤ process → ((r : WaitingCall) → Among r u.waiting → r.process ≡ process → ⊥) →
    Waits c f.me f.boot t u.calls u.waiting → Owned K now u → UsersDo c K f.me f.boot now m t (on_call f now process words u)
process_call_do c K f now m process t words u plain one idle h o =
    on_call_do c K f now m process t words u (λ r a e. apart_keys process r.process r.words (h.keyed r a) one (idle r a) (e ∙ plain_key process words plain)) (plain_keyed process words plain one) (plain_idle process words u.waiting idle) h o

-- ---- the epoch is left ----

answers_rows : (c : Config) (s boot m : ℕ) (e : EpochId) (t : Trace) (rows : List WaitingCall) → AllAccepted c m (changed_records s boot e rows) t × Every (OfSite s) (changed_records s boot e rows)
answers_rows c s boot m e t [] = (tt, tt)
answers_rows c s boot m e t (w ∷ ws) = (let k : AllAccepted c m (changed_records s boot e ws) (after m (changed_records s boot e (w ∷ [])) t) × Every (OfSite s) (changed_records s boot e ws) = answers_rows c s boot m e (after m (changed_records s boot e (w ∷ [])) t) ws in ((tt, k.0), (refl, k.1)))

pub users_leave_do : (c : Config) (K : EpochId → Type 0) (s boot m : ℕ) (now : Option EpochId) (e : EpochId) (t : Trace) (u : Users) → Waits c s boot t u.calls u.waiting → Owned K now u → UsersDo c K s boot None m t (users_leave s boot e u)
users_leave_do c K s boot m now e t u h o =
    let k : AllAccepted c m (changed_records s boot e u.waiting) t × Every (OfSite s) (changed_records s boot e u.waiting) = answers_rows c s boot m e t u.waiting in
    record { waits = leave_waits c s boot m u.calls e t u.waiting h; owned = leave_owned K now u o; rows = k.0; own = k.1; none = refl }
