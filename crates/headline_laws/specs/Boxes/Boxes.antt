-- The law of boxes. A box is a directory, and a message is a file in it whose name tells the call that put it there. So boxes merge as
-- directories do, and a merged box has each message that was put into one of those that it was merged from and wasn't taken out, once.
use Rattle.std.specs.Prelude.{ℕ, ◌≡◌, Bool, true, false, not, ◌&&◌, ◌||◌, cond, nat_le, List, [], ◌∷◌, ◌++◌, filter, length, Option, Some}
use Rattle.std.specs.List.{flat_map, list_all, list_any}
use Rattle.std.specs.Ordering.{nat_cmp}
use Rattle.std.specs.Cmp.Lexicographic.{slice_cmp}
use Rattle.std.specs.Str.{bytes_eq}
use Rattle.std.specs.declared.cmp.Ordering.{Ordering}
use Rattle.std.specs.declared.cmp.Ordering.TheVariants.{Less, Equal, Greater}
use Rattle.locus_ids.specs.declared.config.Config.{Config}
use Rattle.locus_ids.specs.declared.ids.EpochId.{EpochId}
use Rattle.locus_ids.specs.declared.ids.FileId.{FileId}
use Rattle.locus_ids.specs.declared.ids.Kind.TheVariants.{Dir}
use Rattle.locus_ids.specs.declared.ids.Serial.{Serial}
use Rattle.locus_ids.specs.declared.ids.Stamp.{Stamp}
use Rattle.commit_graph.specs.declared.history.Version.{Version}
use Rattle.commit_graph.specs.Versions.{content_of, is_in, is_version, same_file}
use Rattle.trace_book.specs.Messages.{is_message, messages}
use Rattle.trace_book.specs.Names.{plain_name}
use Rattle.trace_book.specs.Same.{same_epoch, same_serial}
use Rattle.trace_book.specs.declared.call.Call.{Call}
use Rattle.trace_book.specs.declared.call.Call.TheVariants as call
use Rattle.trace_book.specs.declared.operation.Op.{Op}
use Rattle.trace_book.specs.declared.operation.Op.TheVariants as op
use Rattle.trace_book.specs.declared.record.Record.{Record}
use Rattle.trace_book.specs.declared.record.Record.TheVariants.{Act, Commit, Grant}
use Rattle.dir_format.specs.Contents.{entries_of}
use Rattle.dir_format.specs.Lookups.{shown_names}
use Rattle.file_effects.specs.Effects.{is_refusal}
use Rattle.tree_model.specs.declared.instance.Instance.{Instance}
use Rattle.tree_model.specs.Epochs.{epoch_of}
use Rattle.tree_model.specs.Files.{committing, kind_of_file, words_named}
use Rattle.tree_model.specs.Folds.{Trace, over}
use Rattle.tree_model.specs.Histories.{history}
use Rattle.lawful_trace.specs.Tables.{call_of_act}
use Rattle.lawful_trace.specs.TreeRows.{granted_group}

-- What was done for a version.

-- an abort undoes what was done before it
abbrev pub done_after : Op → List Op → List Op
done_after op.Abort before = []
done_after o before = o ∷ before

abbrev pub deeds_after : Record → EpochId → Serial → List Op → List Op
deeds_after (Grant at request_of request inst m f stamp ss) e i old = cond (same_epoch at e && same_serial inst i) [] old
deeds_after (Act at inst n o result) e i old = cond ((same_epoch at e && same_serial inst i) && not (is_refusal result)) (done_after o old) old
deeds_after _ e i old = old

-- the operations that were done on the instance since its grant, the latest first
abbrev pub deeds : Trace → EpochId → Serial → List Op
deeds trace e i = over [] (λ r before old. deeds_after r.what e i old) trace

abbrev pub deeds_by : Trace → Option EpochId → Option Instance → List Op
deeds_by before (Some e) (Some x) = deeds before e x.grant.inst
deeds_by before _ _ = []

-- A version with what was done on its instance before its commit.
pub record Made : Type 0 where
  pub version : Version
  pub deeds : List Op

abbrev pub made_after : Record → Config → Trace → List Made → List Made
made_after (Commit f site stamp parents content) c before old =
    record { version = record { file = f; site = site; stamp = stamp; parents = parents; content = content }; deeds = deeds_by before (epoch_of before site) (committing c before f site) } ∷ old
made_after _ c before old = old

-- each commit, the newest first
abbrev pub makings : Config → Trace → List Made
makings c trace = over [] (λ r before old. made_after r.what c before old) trace

-- What a box has.

abbrev pub names_inserted : List Op → List (List ℕ)
names_inserted [] = []
names_inserted (op.Insert name ino kind ∷ before) = name ∷ names_inserted before
names_inserted (_ ∷ before) = names_inserted before

abbrev pub names_removed : List Op → List (List ℕ)
names_removed [] = []
names_removed (op.Remove name ino ∷ before) = name ∷ names_removed before
names_removed (_ ∷ before) = names_removed before

-- the names of deeds in the version, or in an ancestor of a parent by the versions that stand before it
abbrev pub named_in : (List Op → List (List ℕ)) → List Made → FileId → Stamp → List (List ℕ)
named_in names [] file stamp = []
named_in names (m ∷ older) file stamp = cond (is_version file stamp m.version)
    (names m.deeds ++ flat_map (named_in names older file) m.version.parents)
    (named_in names older file stamp)

-- the names that were inserted in the version or in an ancestor of it, and those that were removed in one of these
abbrev pub inserted : List Made → FileId → Stamp → List (List ℕ)
inserted made file stamp = named_in names_inserted made file stamp

abbrev pub removed : List Made → FileId → Stamp → List (List ℕ)
removed made file stamp = named_in names_removed made file stamp

abbrev pub is_among : List (List ℕ) → List ℕ → Bool
is_among names name = list_any (bytes_eq name) names

-- a name at its place in the order of bytes, among names of which each stands once
abbrev pub at_place : Ordering → List ℕ → List ℕ → List (List ℕ) → List (List ℕ) → List (List ℕ)
at_place Less name other others with_others = name ∷ other ∷ others
at_place Equal name other others with_others = other ∷ others
at_place Greater name other others with_others = other ∷ with_others

abbrev pub with_name : List ℕ → List (List ℕ) → List (List ℕ)
with_name name [] = name ∷ []
with_name name (other ∷ others) = at_place (slice_cmp nat_cmp name other) name other others (with_name name others)

-- the names in the order of bytes, each once
abbrev pub in_order : List (List ℕ) → List (List ℕ)
in_order [] = []
in_order (name ∷ names) = with_name name (in_order names)

-- the messages that were inserted in the version or in an ancestor of it and removed in none of these
abbrev pub boxed : List Made → FileId → Stamp → List (List ℕ)
boxed made file stamp = in_order (filter (λ name. is_message name && not (is_among (removed made file stamp) name)) (inserted made file stamp))

-- Which traces the law speaks of.

abbrev pub is_mail : Option Call → Bool
is_mail (Some (call.Mail path bytes)) = true
is_mail _ = false

abbrev pub is_unlink : Option Call → Bool
is_unlink (Some (call.Unlink path)) = true
is_unlink _ = false

-- the operation puts no message into a directory and takes none out, or it is mail that puts it in or unlink that takes it out
abbrev pub handles : Option Call → Op → Bool
handles words (op.Insert name ino kind) = not (is_message name) || is_mail words
handles words (op.Remove name ino) = not (is_message name) || is_unlink words
handles words (op.Rename component name) = not (is_message name) && not (is_message (plain_name component))
handles words _ = true

abbrev pub is_handled : Trace → Record → Bool
is_handled before (Act e i n o result) = is_refusal result || handles (words_named before (call_of_act before e i n)) o
is_handled before _ = true

-- messages are put into directories by mail alone, and taken out by unlink alone
abbrev pub are_handled : Trace → Bool
are_handled trace = over true (λ r before old. is_handled before r.what && old) trace

-- the file that the record puts into a directory under a message's name
abbrev pub put_by : Record → Trace → List FileId
put_by (Act e i n (op.Insert name ino kind) result) before = cond (is_message name && not (is_refusal result)) (record { group = granted_group before e i; ino = ino } ∷ []) []
put_by _ before = []

-- the files of messages
abbrev pub message_files : Trace → List FileId
message_files trace = over [] (λ r before old. put_by r.what before ++ old) trace

abbrev pub is_made_once : List Version → FileId → Bool
is_made_once versions file = nat_le (length (filter (λ (v : Version). same_file v.file file) versions)) 1

pub record KeepsToMail (c : Config) (trace : Trace) : Type 0 where
  pub handled : are_handled trace ≡ true
  -- no message's file has a commit after the one of its making
  pub once : list_all (is_made_once (history c trace)) (message_files trace) ≡ true

-- The law.

-- the messages that the version of a directory shows are those that were put into it and not taken out, each once and under its plain name
abbrev pub IsBox : Config → Trace → FileId → Stamp → Type 0
IsBox c trace f stamp = messages (shown_names (entries_of (content_of (history c trace) f stamp))) ≡ boxed (makings c trace) f stamp

-- each version of each directory is a box
abbrev pub AreBoxes : Config → Trace → Type 0
AreBoxes c trace = (f : FileId) (stamp : Stamp) → is_in (history c trace) f stamp ≡ true → kind_of_file c trace f ≡ Dir → IsBox c trace f stamp

abbrev pub Boxed : Config → Trace → Type 0
Boxed c trace = KeepsToMail c trace → AreBoxes c trace
