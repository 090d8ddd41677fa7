-- Which part of a site takes a packet of its epoch.
use Rattle.std.specs.Prelude.{ℕ}
use Rattle.role_steps.specs.of_wire_messages.declared.body.Body.{Body}
use Rattle.role_steps.specs.of_wire_messages.declared.body.Body.TheVariants as body
use Rattle.role_steps.specs.Views.{Frame, SiteView, Outcome, quiet}
use Rattle.the_run.specs.Steps.{takes_inside}

-- a table of a synchronization site
abbrev pub IsForTable : Body → Type 0
IsForTable (body.Report group copies) = Unit {0}
IsForTable (body.Open serial call process request file how) = Unit {0}
IsForTable (body.Opened inst answer) = Unit {0}
IsForTable (body.Closed inst made) = Unit {0}
IsForTable (body.Look call process request take file what) = Unit {0}
IsForTable (body.Have file stamp) = Unit {0}
IsForTable _ = ⊥

-- the instances of a storage site
abbrev pub IsForStore : Body → Type 0
IsForStore (body.OpenSs inst file mode set kind base vector parents) = Unit {0}
IsForStore (body.Op serial n o seen) = Unit {0}
IsForStore (body.ReadHeld serial n at len) = Unit {0}
IsForStore (body.Close serial) = Unit {0}
IsForStore (body.ClosedOk inst) = Unit {0}
IsForStore _ = ⊥

-- a storage site, which answers it and is left as it is
abbrev pub IsForReader : Body → Type 0
IsForReader (body.LookSs us call process request take file what serve) = Unit {0}
IsForReader (body.Pull file stamp page) = Unit {0}
IsForReader (body.Want file wanted own) = Unit {0}
IsForReader _ = ⊥

-- the waiting calls of a using site
abbrev pub IsForUser : Body → Type 0
IsForUser (body.OpenDone serial answer) = Unit {0}
IsForUser (body.OpDone serial n result) = Unit {0}
IsForUser (body.AsHeld serial n len) = Unit {0}
IsForUser (body.CloseDone serial answer) = Unit {0}
IsForUser (body.LookDone call request take answer) = Unit {0}
IsForUser _ = ⊥

-- the pulls of a storage site
abbrev pub IsForPull : Body → Type 0
IsForPull (body.Notify file kind set size stamp vector holder) = Unit {0}
IsForPull (body.Page file stamp page bytes) = Unit {0}
IsForPull (body.Delta file wanted pages) = Unit {0}
IsForPull _ = ⊥

-- none: by such a packet sites agree on an epoch
abbrev pub IsOfForming : Body → Type 0
IsOfForming body.Poll = Unit {0}
IsOfForming (body.Promise reach) = Unit {0}
IsOfForming (body.Refuse promised) = Unit {0}
IsOfForming (body.Install members) = Unit {0}
IsOfForming body.Joined = Unit {0}
IsOfForming _ = ⊥

-- it holds of what each part makes of its packets
pub record ByRole (Q : Body → Outcome SiteView → Type 0) (f : Frame) (from : ℕ) (v : SiteView) : Type 0 where
  pub tables : (x : Body) → IsForTable x → Q x (takes_inside f from x v)
  pub stores : (x : Body) → IsForStore x → Q x (takes_inside f from x v)
  pub readers : (x : Body) → IsForReader x → Q x (takes_inside f from x v)
  pub users : (x : Body) → IsForUser x → Q x (takes_inside f from x v)
  pub pulls : (x : Body) → IsForPull x → Q x (takes_inside f from x v)
  -- a report is answered: it isn't sent again
  pub reported : (group : ℕ) → Q (body.ReportOk group) (takes_inside f from (body.ReportOk group) v)
  pub forming : (x : Body) → IsOfForming x → Q x (quiet v)
