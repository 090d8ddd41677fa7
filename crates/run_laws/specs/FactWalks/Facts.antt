-- Laws of facts: what packets, views and disks carry of what was told, and what an event owes of it.
use Rattle.std.specs.Prelude.{ℕ, ◌≡◌, List, [], ◌∷◌, map, Option, Some, None}
use Rattle.locus_ids.specs.declared.ids.EpochId.{EpochId}
use Rattle.trace_book.specs.declared.record.Record.{Record}
use Rattle.trace_book.specs.declared.record.Record.TheVariants as says
use Rattle.wire_messages.specs.declared.packet.Packet.{Packet}
use Rattle.wire_messages.specs.declared.body.Body.{Body}
use Rattle.the_run.specs.of_role_steps.Own.{Every}
use Rattle.the_run.specs.of_role_steps.Views.{SiteView, Told, Shown, Promises, DiskWrite, Event, Receives, Outcome}
use Rattle.the_run.specs.of_role_steps.declared.copies.FileCopy.{FileCopy}
use Rattle.the_run.specs.of_role_steps.declared.pulls.Pull.{Pull}
use Rattle.the_run.specs.Worlds.{World, Place, Running, Stopped, Numbered, Line, place_at}
use Rattle.run_laws.specs.Naming.{Good}
pub use Rattle.the_run.specs.Roles.{IsOfForming}

-- ---- what was told ----

abbrev pub line_told : Line → Told
line_told x = x.told

-- all that was told, the newest first
abbrev pub past_of : List Line → List Told
past_of trace = map line_told trace

-- what was told before and in the event, the newest first
abbrev pub onto : List Told → List Told → List Told
onto [] past = past
onto (x ∷ xs) past = onto xs (x ∷ past)

-- ---- a law of facts ----

pub record Facts : Type 1 where
  -- what it may suppose of all that was told, where a packet comes
  pub assumes : List Told → Type 0
  -- what a body carries, by the sender, the receiver and the epoch
  pub carries : List Told → ℕ → ℕ → EpochId → Body → Type 0
  pub pull : List Told → Pull → Type 0
  -- what a running site of this number knows
  pub view : List Told → ℕ → SiteView → Type 0
  -- what the copies on a disk are, where its site is stopped
  pub disk : List Told → List FileCopy → Type 0
  -- what goes before each thing that is told
  pub told : List Told → Told → Type 0
  -- of the version that is written, which its record tells before all else of the event
  pub written : List Told → DiskWrite → Type 0

abbrev pub PacketIn : Facts → List Told → Packet → Type 0
PacketIn facts past p = facts.carries past p.from p.to p.epoch p.body

-- ---- an event ----

abbrev pub AllTold : Facts → List Told → List Told → Type 0
AllTold facts past [] = Unit {0}
AllTold facts past (x ∷ xs) = facts.told past x × AllTold facts (x ∷ past) xs

abbrev pub WrittenIn : Facts → List Told → Option DiskWrite → Type 0
WrittenIn facts past None = Unit {0}
WrittenIn facts past (Some d) = facts.written past d

-- what an outcome owes, whose view has these facts
pub record Fine {V : Type 0} (facts : Facts) (F : List Told → V → Type 0) (past : List Told) (o : Outcome V) : Type 0 where
  pub view : F (onto o.told past) o.view
  pub sent : Every (PacketIn facts (onto o.told past)) o.sent
  pub told : AllTold facts past o.told
  pub written : WrittenIn facts past o.written

abbrev pub FineAt : Facts → ℕ → List Told → Outcome SiteView → Type 0
FineAt facts me past o = Fine facts (λ now v. facts.view now me v) past o

-- what the packet of an event carries to this site
abbrev pub EventIn : Facts → List Told → ℕ → Event → Type 0
EventIn facts past me (Receives p) = facts.carries past p.from me p.epoch p.body
EventIn facts past me _ = Unit {0}

-- ---- what the walk sees to itself ----

-- it tells how a site stands, or what a line of the schedule brings
abbrev pub IsOutsideRecord : Record → Type 0
IsOutsideRecord (says.Up site boot) = Unit {0}
IsOutsideRecord (says.Stopped site cause) = Unit {0}
IsOutsideRecord (says.Leave site epoch) = Unit {0}
IsOutsideRecord (says.Join site epoch members) = Unit {0}
IsOutsideRecord (says.Packet number from to kind) = Unit {0}
IsOutsideRecord says.Void = Unit {0}
IsOutsideRecord says.Budget = Unit {0}
IsOutsideRecord _ = ⊥

abbrev pub IsOutside : Told → Type 0
IsOutside (Shown r) = IsOutsideRecord r
IsOutside (Promises site id reach) = Unit {0}
IsOutside _ = ⊥

-- ---- the world ----

-- each thing that was told comes after what goes before it
abbrev pub ToldWell : Facts → List Told → Type 0
ToldWell facts [] = Unit {0}
ToldWell facts (x ∷ older) = facts.told older x × ToldWell facts older

abbrev pub copies_on : Place → List FileCopy
copies_on (Running v) = v.store.copies
copies_on (Stopped d) = d.copies

abbrev pub PlaceIn : Facts → List Told → ℕ → Place → Type 0
PlaceIn facts past s (Running v) = facts.view past s v
PlaceIn facts past s (Stopped d) = facts.disk past d.copies

abbrev pub NumberedIn : Facts → List Told → Numbered → Type 0
NumberedIn facts past x = PacketIn facts past x.packet

pub record WorldIn (facts : Facts) (w : World) : Type 0 where
  pub told : ToldWell facts (past_of w.trace)
  pub places : (s : ℕ) (p : Place) → place_at w s ≡ Some p → PlaceIn facts (past_of w.trace) s p
  pub packets : Every (NumberedIn facts (past_of w.trace)) w.sent
  pub underway : Every (NumberedIn facts (past_of w.trace)) w.underway

-- the facts hold, where what they suppose does
abbrev pub Standing : Facts → World → Type 0
Standing facts w = Good w × (facts.assumes (past_of w.trace) → WorldIn facts w)
