-- New once acknowledged, and what refuses a commit or a close.
use Rattle.std.specs.Prelude.{ℕ, ◌≡◌, ◌⊎◌, true, List, ◌∷◌, ◌++◌, Some}
use Rattle.std.specs.List.{find}
use Rattle.locus_ids.specs.declared.config.Config.{Config}
use Rattle.locus_ids.specs.declared.ids.CallId.{CallId}
use Rattle.locus_ids.specs.declared.ids.EpochId.{EpochId}
use Rattle.locus_ids.specs.declared.ids.FileId.{FileId}
use Rattle.locus_ids.specs.declared.ids.Serial.{Serial}
use Rattle.locus_ids.specs.declared.ids.Stamp.{Stamp}
use Rattle.locus_ids.specs.declared.refusal.Refusal.{Refusal}
use Rattle.locus_ids.specs.declared.refusal.Refusal.TheVariants.{Changed}
use Rattle.trace_book.specs.declared.descriptor.Beginning.TheVariants.{Uses}
use Rattle.trace_book.specs.declared.record.Record.TheVariants.{Answer, Commit}
use Rattle.trace_book.specs.declared.reply.Reply.{Reply}
use Rattle.trace_book.specs.declared.reply.Reply.TheVariants as reply
use Rattle.call_rules.specs.declared.want.Want.TheVariants.{Give}
use Rattle.the_run.specs.Kept.{Among}
use Rattle.tree_model.specs.declared.accepted.Waiting.{Waiting}
use Rattle.tree_model.specs.Calls.{waiting}
use Rattle.tree_model.specs.Folds.{Trace}
use Rattle.tree_model.specs.Histories.{format_stamp}
use Rattle.lawful_trace.specs.CallRows.{is_this}
use Rattle.lawful_trace.specs.Progress.{now_wants}
use Rattle.lawful_trace.specs.Tables.{begun}
use Rattle.headline_laws.specs.Promises.Acknowledging.{IsGrantedOn, acknowledges}
use Rattle.headline_laws.specs.Promises.Holding.{HoldsAtLeast}

-- the call's script gives this stamp as its reply, whose text the reply has
abbrev pub TellsStamp : Config → Trace → Waiting → Stamp → Type 0
TellsStamp c before caller stamp = (now_wants c before caller ≡ Give (reply.Committed stamp)) ⊎ (now_wants c before caller ≡ Give (reply.Closed (Some stamp)))

-- the call was accepted in the epoch, on a descriptor of an instance that was granted on this file
pub record IsCallOn (before : Trace) (caller : Waiting) (f : FileId) : Type 0 where
  pub epoch : EpochId
  pub made_in : caller.epoch ≡ Some epoch
  pub named_in : EpochId
  pub instance : Serial
  pub begins : begun before caller.call ≡ Some (Uses named_in instance)
  pub granted : IsGrantedOn before epoch instance f

-- a commit record tells the version
pub record WasCommitted (before : Trace) (f : FileId) (stamp : Stamp) : Type 0 where
  pub line : ℕ
  pub parents : List Stamp
  pub content : List ℕ
  pub there : Among (record { line = line; what = Commit f stamp.site stamp parents content }) before

-- a root directory as the format made it
abbrev pub IsOfFormat : FileId → Stamp → Type 0
IsOfFormat f stamp = (f.ino ≡ 1) × (stamp ≡ format_stamp)

-- The stamp names a commit of the call's file before its reply, and by the later records the site that made it holds it or a version
-- above it. A root directory of which nothing was committed has the format's.
pub record IsNew (c : Config) (before now : Trace) (caller : Waiting) (stamp : Stamp) : Type 0 where
  pub file : FileId
  pub on : IsCallOn before caller file
  pub stands : (WasCommitted before file stamp × HoldsAtLeast c now stamp.site file stamp) ⊎ IsOfFormat file stamp

-- What a commit or a close is answered with is new from its reply on.
abbrev pub NewOnceAcknowledged : Config → Trace → Type 0
NewOnceAcknowledged c trace = (later since before : Trace) (line site process : ℕ) (d : CallId) (r : Reply) (caller : Waiting) (stamp : Stamp) →
    trace ≡ later ++ (since ++ record { line = line; what = Answer site process d r } ∷ before) → find (is_this site process d) (waiting before) ≡ Some caller → acknowledges caller.words ≡ true → TellsStamp c before caller stamp →
    IsNew c before (since ++ record { line = line; what = Answer site process d r } ∷ before) caller stamp

-- A commit or a close of an open instance is refused only since its site has left the epoch.
abbrev pub OnlyChangedRefuses : Config → Trace → Type 0
OnlyChangedRefuses c trace = (later before : Trace) (line site process : ℕ) (d : CallId) (r : Reply) (caller : Waiting) (e : EpochId) (i : Serial) (why : Refusal) →
    trace ≡ later ++ record { line = line; what = Answer site process d r } ∷ before → find (is_this site process d) (waiting before) ≡ Some caller → acknowledges caller.words ≡ true → begun before caller.call ≡ Some (Uses e i) →
    now_wants c before caller ≡ Give (reply.No why) → (f : EpochId) × (why ≡ Changed f)
