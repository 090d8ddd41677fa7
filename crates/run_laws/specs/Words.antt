-- What roles tell inside an epoch, apart from what a site tells of itself.
use Rattle.std.specs.Prelude.{◌≡◌, Option, Some, None}
use Rattle.trace_book.specs.declared.record.Record.{Record}
use Rattle.trace_book.specs.declared.record.Record.TheVariants as says
use Rattle.the_run.specs.of_role_steps.Own.{Every}
use Rattle.the_run.specs.of_role_steps.Views.{Told, Shown, Promises, DiskWrite, Outcome}

-- the record doesn't say how its site stands: that it boots, stops, joins or leaves
abbrev pub InsideRecord : Record → Type 0
InsideRecord (says.Up site boot) = ⊥
InsideRecord (says.Stopped site cause) = ⊥
InsideRecord (says.Join site epoch members) = ⊥
InsideRecord (says.Leave site epoch) = ⊥
InsideRecord _ = Unit {0}

abbrev pub Inside : Told → Type 0
Inside (Shown r) = InsideRecord r
Inside (Promises site id reach) = ⊥
Inside _ = Unit {0}

-- nor does it say that a version is on a disk
abbrev pub TalkRecord : Record → Type 0
TalkRecord (says.Commit file site stamp parents content) = ⊥
TalkRecord (says.Adopt file site stamp) = ⊥
TalkRecord r = InsideRecord r

abbrev pub Talk : Told → Type 0
Talk (Shown r) = TalkRecord r
Talk (Promises site id reach) = ⊥
Talk _ = Unit {0}

-- the outcome writes nothing, and tells nothing of its site
abbrev pub Talks : {V : Type 0} → Outcome V → Type 0
Talks o = Every Talk o.told × (o.written ≡ None)

abbrev pub InsideWrite : Option DiskWrite → Type 0
InsideWrite None = Unit {0}
InsideWrite (Some d) = InsideRecord d.says

-- the outcome tells nothing of its site but what it writes
abbrev pub Works : {V : Type 0} → Outcome V → Type 0
Works o = Every Inside o.told × InsideWrite o.written
