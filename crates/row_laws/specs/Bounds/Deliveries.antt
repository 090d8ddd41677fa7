-- What one delivery sends for calls: one packet at most, besides the opens of mends that start.
use Rattle.std.specs.Prelude.{ℕ, ◌≡◌, ◌+◌, ◌≤◌, ◌==◌, ◌&&◌, Bool, true, false, not, cond, List, [], ◌∷◌, ◌++◌, map, Some}
use Rattle.locus_ids.specs.declared.config.Config.{Config}
use Rattle.wire_messages.specs.declared.packet.Packet.{Packet}
use Rattle.wire_messages.specs.declared.body.Body.{Body}
use Rattle.wire_messages.specs.declared.body.Body.TheVariants as body
use Rattle.wire_messages.specs.declared.body.Opening.TheVariants as how
use Rattle.role_steps.specs.Own.{Every}
use Rattle.role_steps.specs.Views.{SiteView}
use Rattle.role_steps.specs.declared.synchronizing.LastLook.{LastLook}
use Rattle.role_steps.specs.declared.synchronizing.SyncTable.{SyncTable}
use Rattle.the_run.specs.Worlds.{World, Running, Numbered, place_at}
use Rattle.the_run.specs.Runs.{arrives}

-- ---- packets ----

-- the packet is of an open, an operation, a close or a look, at any of its stages
abbrev pub serves_call : Body → Bool
serves_call (body.Open serial call process request file how) = true
serves_call (body.OpenSs inst file mode set kind base vector parents) = true
serves_call (body.Opened inst answer) = true
serves_call (body.OpenDone serial answer) = true
serves_call (body.Op serial n o seen) = true
serves_call (body.ReadHeld serial n at len) = true
serves_call (body.OpDone serial n result) = true
serves_call (body.AsHeld serial n len) = true
serves_call (body.Close serial) = true
serves_call (body.Closed inst made) = true
serves_call (body.ClosedOk inst) = true
serves_call (body.CloseDone serial answer) = true
serves_call (body.Look call process request take file what) = true
serves_call (body.LookSs us call process request take file what serve) = true
serves_call (body.LookDone call request take answer) = true
serves_call _ = false

-- it opens a directory of the group to mend it, as a mend does that starts
abbrev pub opens_mend_in : ℕ → Body → Bool
opens_mend_in group (body.Open serial call process request file how.Mend) = file.group == group
opens_mend_in group _ = false

abbrev pub opens_mend : Body → Bool
opens_mend (body.Open serial call process request file how.Mend) = true
opens_mend _ = false

-- it serves a call, and doesn't open a directory to mend it
abbrev pub serves_other : Body → Bool
serves_other b = serves_call b && not (opens_mend b)

-- so many of the packets are such
abbrev pub count : (Body → Bool) → List Packet → ℕ
count test [] = 0
count test (p ∷ ps) = cond (test p.body) 1 0 + count test ps

-- at most one packet serves a call, besides at most one Open for each group, of a mend that starts
pub record SendsOne (ps : List Packet) : Type 0 where
  pub calls : count serves_other ps ≤ 1
  pub mends : (group : ℕ) → count (opens_mend_in group) ps ≤ 1

-- ---- deliveries ----

abbrev pub packet_of : Numbered → Packet
packet_of x = x.packet

-- the later world has sent such packets more
pub record SendsOneMore (w u : World) : Type 0 where
  pub more : List Numbered
  pub sent : u.sent ≡ more ++ w.sent
  pub one : SendsOne (map packet_of more)

abbrev pub is_report : Body → Bool
is_report (body.Report group copies) = true
is_report _ = false

-- so does each delivery at this moment, of any packet but a Report, which may let a group start
abbrev pub DeliveriesSendOne : Config → World → Type 0
DeliveriesSendOne c w = (n : ℕ) (x : Numbered) → is_report x.packet.body ≡ false → SendsOneMore w (arrives c n x w)

-- ---- what is kept ----

-- what a synchronization site keeps to answer a repeated look with opens no mend
abbrev pub OpensNone : LastLook → Type 0
OpensNone l = opens_mend l.body ≡ false

abbrev pub LooksOpenNone : SyncTable → Type 0
LooksOpenNone t = Every OpensNone t.looks

-- so it is with each table of each running site
abbrev pub KeptLooksOpenNone : World → Type 0
KeptLooksOpenNone w = (s : ℕ) (v : SiteView) → place_at w s ≡ Some (Running v) → Every LooksOpenNone v.tables
