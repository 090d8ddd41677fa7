-- How the waiting calls of a running site stand by the records so far.
use Rattle.locus_ids.specs.declared.config.Config.{Config}
use Rattle.std.specs.Prelude.{ℕ, ◌≡◌, ◌≤◌, ◌<◌, ◌⊎◌, true, List, [], ◌∷◌}
use Rattle.trace_book.specs.declared.call.Call.{Call}
use Rattle.trace_book.specs.declared.call.Call.TheVariants as call
use Rattle.trace_book.specs.declared.record.Record.{Record}
use Rattle.trace_book.specs.declared.record.Record.TheVariants as says
use Rattle.role_steps.specs.Views.{Told, Shown}
use Rattle.role_steps.specs.Requests.{waiting_key, waiting_span}
use Rattle.role_steps.specs.Using.{own_call}
use Rattle.role_steps.specs.declared.users.WaitingCall.{WaitingCall}
use Rattle.tree_model.specs.declared.accepted.Waiting.{Waiting}
use Rattle.tree_model.specs.Folds.{Trace}
use Rattle.tree_model.specs.Epochs.{is_up, boot_of, calls_accepted}
use Rattle.tree_model.specs.Calls.{waiting}
use Rattle.the_run.specs.Kept.{Among}
use Rattle.row_laws.specs.Shown.{with_told}
use Rattle.row_laws.specs.CallRows.Accepting.{AcceptRecord}
use Rattle.row_laws.specs.CallRows.Serials.{Rises}

-- ---- what is told in an event ----

-- the records after these are told in the line with this number
abbrev pub after : ℕ → List Told → Trace → Trace
after m [] now = now
after m (x ∷ xs) now = after m xs (with_told m x now)

abbrev pub AcceptTold : Config → Trace → Told → Type 0
AcceptTold c now (Shown r) = AcceptRecord c now r
AcceptTold c now _ = Unit {0}

-- each call that is accepted comes as it may
abbrev pub AllAccepted : Config → ℕ → List Told → Trace → Type 0
AllAccepted c m [] now = Unit {0}
AllAccepted c m (x ∷ xs) now = AcceptTold c now x × AllAccepted c m xs (with_told m x now)

-- nothing is told of calls, boots and stops, but for calls of this site
abbrev pub OfSiteRecord : ℕ → Record → Type 0
OfSiteRecord s (says.Up site boot) = ⊥
OfSiteRecord s (says.Stopped site why) = ⊥
OfSiteRecord s (says.Accept site process id words) = site ≡ s
OfSiteRecord s (says.Answer site process id r) = id.site ≡ s
OfSiteRecord s _ = Unit {0}

abbrev pub OfSite : ℕ → Told → Type 0
OfSite s (Shown r) = OfSiteRecord s r
OfSite s _ = Unit {0}

-- ---- waiting calls ----

-- the row is of the waiting call
abbrev pub Matches : ℕ → ℕ → Waiting → WaitingCall → Type 0
Matches s boot x r = (x.process ≡ r.process) × (x.call ≡ own_call s boot r.call)

-- the call of the row waits, by the records
abbrev pub IsWaiting : ℕ → ℕ → Trace → WaitingCall → Type 0
IsWaiting s boot now r = (x : Waiting) × (Among x (waiting now) × ((x.site ≡ s) × Matches s boot x r))

-- the waiting call has its row
abbrev pub HasRow : ℕ → ℕ → Waiting → List WaitingCall → Type 0
HasRow s boot x rows = (r : WaitingCall) × (Among r rows × Matches s boot x r)

-- mends are of groups below 16, and no other call is of process 0: their keys are apart
abbrev pub KeyedAs : ℕ → Call → Type 0
KeyedAs process (call.Mend file) = file.group < waiting_span
KeyedAs process _ = 1 ≤ process

abbrev pub Keyed : WaitingCall → Type 0
Keyed r = KeyedAs r.process r.words

-- The site runs in this boot, has accepted so many calls, and exactly those of these rows wait.
pub record Waits (c : Config) (s boot : ℕ) (now : Trace) (calls : ℕ) (rows : List WaitingCall) : Type 0 where
  pub up : is_up c now s ≡ true
  pub boot_is : boot_of now s ≡ boot
  pub counted : calls_accepted now s ≡ calls
  pub there : (x : Waiting) → Among x (waiting now) → x.site ≡ s → HasRow s boot x rows
  pub back : (r : WaitingCall) → Among r rows → IsWaiting s boot now r
  pub low : (r : WaitingCall) → Among r rows → r.call ≤ calls
  pub apart : (r q : WaitingCall) → Among r rows → Among q rows → r.call ≡ q.call → waiting_key r ≡ waiting_key q
  pub keyed : (r : WaitingCall) → Among r rows → Keyed r

-- no call waits at the site, as after a stop
abbrev pub NoneWaits : ℕ → Trace → Type 0
NoneWaits s now = (x : Waiting) → Among x (waiting now) → x.site ≡ s → ⊥

-- ---- a call that goes on ----

-- the row is of another call
abbrev pub IsOther : WaitingCall → WaitingCall → Type 0
IsOther w r = waiting_key r ≡ waiting_key w → ⊥

-- The call waits by the records. Its row is still to be put, or to be replaced; all others have theirs.
pub record Goes (c : Config) (s boot : ℕ) (now : Trace) (calls : ℕ) (rows : List WaitingCall) (w : WaitingCall) : Type 0 where
  pub up : is_up c now s ≡ true
  pub boot_is : boot_of now s ≡ boot
  pub counted : calls_accepted now s ≡ calls
  pub rises : Rises waiting_key 0 rows
  pub there : (x : Waiting) → Among x (waiting now) → x.site ≡ s → Matches s boot x w ⊎ ((r : WaitingCall) × (Among r rows × (IsOther w r × Matches s boot x r)))
  pub back : (r : WaitingCall) → Among r rows → IsOther w r → IsWaiting s boot now r
  pub waits : IsWaiting s boot now w
  pub low : (r : WaitingCall) → Among r rows → r.call ≤ calls
  pub own_low : w.call ≤ calls
  pub apart : (r q : WaitingCall) → Among r rows → Among q rows → r.call ≡ q.call → waiting_key r ≡ waiting_key q
  pub own_apart : (r : WaitingCall) → Among r rows → r.call ≡ w.call → waiting_key r ≡ waiting_key w
  pub keyed : (r : WaitingCall) → Among r rows → Keyed r
  pub own_keyed : Keyed w

-- two stages of one call
pub record SameCall (v w : WaitingCall) : Type 0 where
  pub same_process : v.process ≡ w.process
  pub same_number : v.call ≡ w.call
  pub same_words : v.words ≡ w.words

-- ---- what is told of no call ----

-- the record tells of no call, boot or stop
abbrev pub CallFreeRecord : Record → Type 0
CallFreeRecord (says.Up site boot) = ⊥
CallFreeRecord (says.Stopped site why) = ⊥
CallFreeRecord (says.Accept site process id words) = ⊥
CallFreeRecord (says.Answer site process id r) = ⊥
CallFreeRecord _ = Unit {0}

abbrev pub CallFree : Told → Type 0
CallFree (Shown r) = CallFreeRecord r
CallFree _ = Unit {0}
