-- What records speak of is there: sites of the cluster, boots that these have had, epochs and calls of theirs.
use Rattle.std.specs.Prelude.{ℕ, ◌≡◌, ◌≤◌, true}
use Rattle.locus_ids.specs.declared.config.Config.{Config}
use Rattle.locus_ids.specs.declared.ids.CallId.{CallId}
use Rattle.locus_ids.specs.declared.ids.EpochId.{EpochId}
use Rattle.locus_ids.specs.declared.sites.Members.{Members}
use Rattle.trace_book.specs.declared.call.Call.{Call}
use Rattle.trace_book.specs.declared.call.Call.TheVariants as call
use Rattle.trace_book.specs.declared.entry.Entry.{Entry}
use Rattle.trace_book.specs.declared.record.Record.{Record}
use Rattle.trace_book.specs.declared.record.Record.TheVariants as says
use Rattle.schedule_lines.specs.Ranges.{fits_call, is_between, is_site}
use Rattle.tree_model.specs.Epochs.{boot_of}
use Rattle.tree_model.specs.Folds.{Trace}
use Rattle.tree_model.specs.Packs.{boot_in}

-- it is one of the sites of the cluster
abbrev pub IsSite : Config → ℕ → Type 0
IsSite c site = is_site c.sites site ≡ true

-- a site of the cluster has had this boot number by the records so far
pub record HasHad (c : Config) (before : Trace) (site boot : ℕ) : Type 0 where
  pub there : IsSite c site
  pub from : 1 ≤ boot
  pub to : boot ≤ boot_of before site

-- the id of the epoch is of a site, in a boot of it
abbrev pub IsEpoch : Config → Trace → EpochId → Type 0
IsEpoch c before e = HasHad c before e.site e.boot

-- the name of the call is of a site, in a boot of it
pub record IsCaller (c : Config) (before : Trace) (id : CallId) : Type 0 where
  pub boot : HasHad c before id.site id.boot
  pub number : 1 ≤ id.n

-- who is listed with a boot number has had it
abbrev pub AreMembers : Config → Trace → Members → Type 0
AreMembers c before members = (site : ℕ) → 1 ≤ boot_in members site → HasHad c before site (boot_in members site)

-- a mend is of process 0; a call that a line asks is of process 1 to 8, with words that a line may have
abbrev pub IsOfProcess : Config → ℕ → Call → Type 0
IsOfProcess c process (call.Mend file) = process ≡ 0
IsOfProcess c process words = (is_between 1 8 process ≡ true) × (fits_call c.sites words ≡ true)

-- Which packets a pending line lists is the run's.
abbrev pub RecordSpeaks : Config → Trace → Record → Type 0
RecordSpeaks c before (says.Up site boot) = IsSite c site
RecordSpeaks c before (says.Stopped site cause) = IsSite c site
RecordSpeaks c before (says.Leave site e) = IsSite c site × IsEpoch c before e
RecordSpeaks c before (says.Join site e members) = IsSite c site × IsEpoch c before e × AreMembers c before members
RecordSpeaks c before (says.Start e group copies) = IsEpoch c before e
RecordSpeaks c before (says.Accept site process id words) = IsSite c site × IsCaller c before id × IsOfProcess c process words
RecordSpeaks c before (says.Look e id request f what result) = IsEpoch c before e × IsCaller c before id
RecordSpeaks c before (says.Grant e id request i m f stamp ss) = IsEpoch c before e × IsCaller c before id × IsSite c ss
RecordSpeaks c before (says.Refuse e id request i m f why) = IsEpoch c before e × IsCaller c before id
RecordSpeaks c before (says.Act e i n o result) = IsEpoch c before e
RecordSpeaks c before (says.Commit f site stamp parents content) = IsSite c site × (stamp.site ≡ site)
RecordSpeaks c before (says.Release e i f stamp) = IsEpoch c before e
RecordSpeaks c before (says.Adopt f site stamp) = IsSite c site
RecordSpeaks c before (says.Answer site process id r) = IsSite c site × IsCaller c before id
RecordSpeaks c before _ = Unit {0}

abbrev pub SpeaksOfWhatIs : Config → Trace → Entry → Type 0
SpeaksOfWhatIs c before r = RecordSpeaks c before r.what
