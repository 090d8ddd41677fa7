-- What a record makes of an epoch.
use Rattle.std.specs.Prelude.{ℕ, ◌+◌, ◌==◌, Bool, false, not, ◌&&◌, cond, List, [], ◌∷◌, ◌++◌, filter, map, sum_by, fold, Option, None, Some}
use Rattle.std.specs.List.{list_any}
use Rattle.locus_ids.specs.declared.ids.FileId.{FileId}
use Rattle.locus_ids.specs.declared.ids.Stamp.{Stamp}
use Rattle.locus_ids.specs.declared.ids.EpochId.{EpochId}
use Rattle.locus_ids.specs.declared.ids.CallId.{CallId}
use Rattle.locus_ids.specs.declared.ids.Serial.{Serial}
use Rattle.locus_ids.specs.declared.ids.Mode.{Mode}
use Rattle.commit_graph.specs.Versions.{same_file}
use Rattle.trace_book.specs.Same.{same_call, same_epoch, same_serial}
use Rattle.trace_book.specs.declared.call.Call.{Call}
use Rattle.trace_book.specs.declared.descriptor.Beginning.{Beginning}
use Rattle.trace_book.specs.declared.descriptor.Beginning.TheVariants as begins
use Rattle.trace_book.specs.declared.operation.Op.{Op}
use Rattle.trace_book.specs.declared.operation.Outcome.{Outcome}
use Rattle.role_steps.specs.of_file_effects.declared.work.Work.{Work}
use Rattle.role_steps.specs.of_file_effects.Works.{begun}
use Rattle.tree_model.specs.declared.instance.Granted.{Granted}
use Rattle.tree_model.specs.Epochs.{is_in}
use Rattle.tree_model.specs.State.{is_make}
use Rattle.tree_model.specs.Working.{list_of}
use Rattle.promises.specs.Past.{Epoch, Instance, Copy, Make, is_close, is_named, is_writer}
use Rattle.promises.specs.After.{change, uses, begun_make, with_all_known}
use Rattle.audit_instances.specs.Rows.{with_work, held_again, once_named, used_once, commits}

-- the epoch that a site is in, where it is in one
abbrev pub is_home : Option EpochId → Epoch → Bool
is_home home t = is_in home t.id

-- a site leaves it, and had these versions
abbrev pub leaves : ℕ → List Copy → Epoch → Epoch
leaves site held t = record t { left = record { site = site; held = held } ∷ t.left }

-- a site joins it, and brings these
abbrev pub joins : ℕ → List Copy → Epoch → Epoch
joins site held t = record t { joined = site ∷ t.joined; known = with_all_known held t.known }

-- a group starts
abbrev pub starts : ℕ → Epoch → Epoch
starts group t = record t { started = group ∷ t.started }

-- a call that begins so is accepted: it uses an instance by its descriptor, or none
abbrev pub accepts : Beginning → Call → Epoch → Epoch
accepts begins words t = record t { opened = change (uses begins words t.id) used_once t.opened }

-- the instance as it is granted on a version of this content
abbrev pub begun_instance : Granted → Option Stamp → List ℕ → Instance
begun_instance g stamp content = record { grant = g; work = begun g.mode stamp content; named = false; again = false; uses = 0 }

abbrev pub grants : Granted → Option Stamp → List ℕ → Epoch → Epoch
grants g stamp content t = record t { granted = g ∷ t.granted; opened = t.opened ++ begun_instance g stamp content ∷ [] }

-- an open is refused: a make of that call is over
abbrev pub refuses : CallId → Mode → FileId → Epoch → Epoch
refuses call m f t = record t { makes = filter (λ (k : Make). not (is_make m && ((k.group == f.group) && same_call k.call call))) t.makes }

-- this has become of an open instance
abbrev pub works : Serial → Work → Epoch → Epoch
works i w t = record t { opened = change (is_named i) (with_work w) t.opened }

-- an operation with this result leaves this of an open instance, and a probe that finds its name free begins a make
abbrev pub acts_so : Serial → Op → Outcome → Work → Epoch → Epoch
acts_so i o result w t = record t {
  opened = change (is_named i) (with_work w) t.opened;
  makes = fold (λ old x. begun_make o result x ++ old) t.makes (filter (is_named i) t.opened);
}

-- the make of the call of an open instance is underway
abbrev pub begins_make : Serial → Epoch → Epoch
begins_make i t = record t { makes = fold (λ old (x : Instance). record { call = x.grant.call; group = x.grant.file.group } ∷ old) t.makes (filter (is_named i) t.opened) }

-- where the operation is a probe that finds its name free
abbrev pub begins_make_by : Serial → Op → Outcome → Epoch → Epoch
begins_make_by i o result t = record t { makes = fold (λ old x. begun_make o result x ++ old) t.makes (filter (is_named i) t.opened) }

-- the make of the call of an open instance is over
abbrev pub ends_make : Serial → ℕ → Epoch → Epoch
ends_make i group t = record t { makes = filter (λ (m : Make). not ((m.group == group) && list_any (λ (x : Instance). is_named i x && (is_make x.grant.mode && same_call x.grant.call m.call)) t.opened)) t.makes }

-- the version of the file, where there is one, is known from now on
abbrev pub knows : FileId → Option Stamp → Epoch → Epoch
knows f stamp t = record t { known = with_all_known (map (λ s. record { file = f; stamp = s }) (list_of stamp)) t.known }

-- the file is committed at the site as this version
abbrev pub publishes : FileId → ℕ → Stamp → Epoch → Epoch
publishes f site stamp t = record t { opened = change (is_writer f site) (commits stamp) t.opened }

-- a descriptor names an open instance
abbrev pub names : Serial → Epoch → Epoch
names i t = record t { opened = change (is_named i) once_named t.opened }

-- a read of a steady descriptor has opened it
abbrev pub holds_again : Serial → Epoch → Epoch
holds_again i t = record t { opened = change (is_named i) held_again t.opened }

-- a mend of the directory was refused for good
abbrev pub unmends : FileId → Epoch → Epoch
unmends f t = record t { unmended = f ∷ t.unmended }

-- which use of its instance a call is that begins so
abbrev pub turn_in : Beginning → Call → Epoch → ℕ
turn_in begins words t = sum_by (λ (x : Instance). x.uses + 1) (filter (uses begins words t.id) t.opened)

-- the instance of the epoch that a call uses which begins so
abbrev pub used_by : Beginning → Call → EpochId → Option Serial
used_by (begins.Uses epoch inst) words e = cond (same_epoch epoch e && not (is_close words)) (Some inst) None
used_by (begins.Denied why) words e = None
used_by (begins.Walks id) words e = None
used_by (begins.Reopens version last) words e = None
used_by begins.Frees words e = None

-- which use of the instance the next one is; 0 where it isn't open
abbrev pub next_use : Serial → Epoch → ℕ
next_use i t = sum_by (λ (x : Instance). x.uses + 1) (filter (is_named i) t.opened)

abbrev pub turn_among : List Epoch → Beginning → Call → ℕ
turn_among ts begins words = sum_by (turn_in begins words) ts

-- some grant names the instance; some grant is of the file
abbrev pub is_granted : List Granted → Serial → Bool
is_granted gs i = list_any (λ (g : Granted). same_serial g.inst i) gs

abbrev pub is_taken : List Granted → FileId → Bool
is_taken gs f = list_any (λ (g : Granted). same_file g.file f) gs
