-- What a record tells of.
use Rattle.trace_book.specs.declared.record.Record.{Record}
use Rattle.trace_book.specs.declared.record.Record.TheVariants.{Up, Stopped, Leave, Join, Start, Accept, Look, Grant, Refuse, Act, Commit, Release, Adopt, Answer, Packet, Void, Budget}
use Rattle.trace_audit.specs.declared.kinds.RecordKind.{RecordKind}
use Rattle.trace_audit.specs.declared.kinds.RecordKind.TheVariants.{OfCall, OfCommit, OfGrant, OfLook, OfNothing, OfOperation, OfRefusal, OfRelease, OfSite}

abbrev pub kind_of : Record → RecordKind
kind_of (Up site boot) = OfSite
kind_of (Stopped site cause) = OfSite
kind_of (Leave site epoch) = OfSite
kind_of (Join site epoch members) = OfSite
kind_of (Start epoch group copies) = OfSite
kind_of (Accept site process call words) = OfCall
kind_of (Look epoch call request file what result) = OfLook
kind_of (Grant epoch call request inst mode file stamp ss) = OfGrant
kind_of (Refuse epoch call request inst mode file why) = OfRefusal
kind_of (Act epoch inst n op result) = OfOperation
kind_of (Commit file site stamp parents content) = OfCommit
kind_of (Release epoch inst file stamp) = OfRelease
kind_of (Adopt file site stamp) = OfSite
kind_of (Answer site process call reply) = OfCall
kind_of (Packet n from to kind) = OfNothing
kind_of Void = OfNothing
kind_of Budget = OfNothing
