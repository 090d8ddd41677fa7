-- The headline: for every schedule the program reads, whatever packets are lost, repeated or late and wherever sites stop
-- inside disk writes.
use Rattle.std.specs.Prelude.{ℕ, ◌≡◌, ◌==◌, Bool, true, not, ◌&&◌, ◌||◌, List, [], ◌∷◌, ◌++◌, filter, fold, map, take}
use Rattle.std.specs.List.{list_any, list_all}
use Rattle.locus_ids.specs.declared.config.Config.{Config}
use Rattle.locus_ids.specs.declared.ids.FileId.{FileId}
use Rattle.locus_ids.specs.declared.ids.Stamp.{Stamp}
use Rattle.locus_ids.specs.declared.ids.Mode.TheVariants as mode
use Rattle.locus_ids.specs.declared.refusal.Refusal.TheVariants.{Conflict}
use Rattle.commit_graph.specs.declared.history.Version.{Version}
use Rattle.commit_graph.specs.Versions.{same_file, same_stamp, is_in, is_ancestor}
use Rattle.trace_book.specs.Text.{entry_text}
use Rattle.trace_book.specs.declared.entry.Entry.{Entry}
use Rattle.trace_book.specs.declared.record.Record.{Record}
use Rattle.trace_book.specs.declared.record.Record.TheVariants as rec
use Rattle.trace_book.specs.declared.call.Call.{Call}
use Rattle.trace_book.specs.declared.call.Call.TheVariants as call
use Rattle.trace_book.specs.declared.reply.Reply.{Reply}
use Rattle.trace_book.specs.declared.reply.Reply.TheVariants as reply
use Rattle.trace_book.specs.declared.operation.What.TheVariants as what
use Rattle.trace_book.specs.declared.operation.Served.TheVariants as served
use Rattle.schedule_lines.specs.declared.line.ScheduleLine.{ScheduleLine}
use Rattle.schedule_lines.specs.Cluster.{config_of}
use Rattle.lawful_trace.specs.of_tree_model.declared.instance.Granted.{Granted}
use Rattle.lawful_trace.specs.of_tree_model.Working.{list_of}
use Rattle.promises.specs.Past.{Past, Site, Epoch, CallSoFar, Copy, nothing_yet, site_at, epoch_at, candidates, kept_in, is_on}
use Rattle.promises.specs.After.{after, is_id}
use Rattle.promises.specs.Same.{same_list}
use Rattle.promises.specs.Traces.{each, is_one_tree}

-- after each record what is told passes
abbrev pub always : (Past → Bool) → Config → List Entry → Bool
always passes c trace = each (λ p r. passes (after c r p)) c (nothing_yet c) trace

-- Wholly old or new.

abbrev pub is_version : Past → Copy → Bool
is_version p v = is_in p.history v.file v.stamp

-- what each site has of each file is one version, whole: a commit, or what the format made
abbrev pub has_whole_files : Past → Bool
has_whole_files p = list_all (λ (s : Site). list_all (is_version p) s.held) p.sites

-- what is served or opened is one version, whole
abbrev pub serves_whole_files : Past → Record → Bool
serves_whole_files p (rec.Look e id request f w (served.At stamp)) = is_version p (record { file = f; stamp = stamp })
serves_whole_files p (rec.Grant e id request i m f stamp ss) = list_all (λ s. is_version p (record { file = f; stamp = s })) (list_of stamp)
serves_whole_files p _ = true

-- New once acknowledged.

-- the site that committed the version has it, or one above it
abbrev pub is_held_at_home : Past → Copy → Bool
is_held_at_home p v = list_any (λ (w : Copy). same_file w.file v.file && is_ancestor p.history v.file v.stamp w.stamp) (site_at p v.stamp.site).held

-- the stamp in a reply to commit or close
abbrev pub stamps_in : Call → Reply → List Stamp
stamps_in (call.Commit fd) (reply.Committed stamp) = stamp ∷ []
stamps_in (call.Close fd) (reply.Closed stamp) = list_of stamp
stamps_in _ _ = []

-- the files of the instance that the call works on
abbrev pub files_of : Past → CallSoFar → List FileId
files_of p k = fold (λ old (t : Epoch). map (λ (g : Granted). g.file) (filter (λ (g : Granted). is_on k.begins t.id g.inst) t.granted) ++ old) [] p.epochs

-- the versions that a reply acknowledges
abbrev pub acknowledged_by : Past → Record → List Copy
acknowledged_by p (rec.Answer site process id r) = fold (λ old k. fold (λ more f. map (λ s. record { file = f; stamp = s }) (stamps_in k.words r) ++ more) old (files_of p k)) [] (filter (is_id id) p.calls)
acknowledged_by p _ = []

-- each acknowledged version is one, from its reply on, and the site that committed it, if one did, has it or one above it; so it is with
-- those of later replies
abbrev pub keeps_acknowledged : Config → Past → List Copy → List Entry → Bool
keeps_acknowledged c p known [] = true
keeps_acknowledged c p known (r ∷ rest) =
    list_all (λ v. is_version (after c r.what p) v && ((v.stamp.site == 0) || is_held_at_home (after c r.what p) v)) (acknowledged_by p r.what ++ known)
    && keeps_acknowledged c (after c r.what p) (acknowledged_by p r.what ++ known) rest

-- Every commit is an ancestor of a kept version.

-- in this epoch the version is an ancestor of a kept one, if it or a descendant of it was brought or published there
abbrev pub is_kept_under : Past → Version → Epoch → Bool
is_kept_under p v t = not (list_any (is_ancestor p.history v.file v.stamp) (candidates t v.file)) || list_any (is_ancestor p.history v.file v.stamp) (kept_in p t v.file)

-- so it is with every commit in every epoch; and everywhere and always its own site has it or one above it
abbrev pub loses_nothing : Past → Bool
loses_nothing p = list_all (λ (v : Version). list_all (is_kept_under p v) p.epochs && ((v.site == 0) || is_held_at_home p (record { file = v.file; stamp = v.stamp }))) p.history

-- Flagged exactly when two kept versions are concurrent.

-- neither of two versions is an ancestor of the other
abbrev pub are_concurrent : List Version → FileId → Stamp → Stamp → Bool
are_concurrent h f a b = not (is_ancestor h f a b) && not (is_ancestor h f b a)

abbrev pub has_concurrent : Past → Epoch → FileId → Bool
has_concurrent p t f = list_any (λ a. list_any (are_concurrent p.history f a) (kept_in p t f)) (kept_in p t f)

-- two kept versions are concurrent, and these are the two least
abbrev pub is_conflict : Past → Epoch → FileId → Stamp → Stamp → Bool
is_conflict p t f a b = has_concurrent p t f && same_list same_stamp (a ∷ b ∷ []) (take 2 (kept_in p t f))

-- Conflict is answered only where two kept versions are concurrent, and names the two least; and where they are, nothing is opened to
-- read or write, and nothing served but a whole version that the look names. (What else a flagged file is refused for, the rows say.)
abbrev pub flags_rightly : Past → Record → Bool
flags_rightly p (rec.Look e id request f w (served.No (Conflict a b))) = is_conflict p (epoch_at p e) f a b
flags_rightly p (rec.Look e id request f (what.Whole asked) (served.At stamp)) = true
flags_rightly p (rec.Look e id request f w (served.At stamp)) = not (has_concurrent p (epoch_at p e) f)
flags_rightly p (rec.Grant e id request i mode.Read f stamp ss) = not (has_concurrent p (epoch_at p e) f)
flags_rightly p (rec.Grant e id request i mode.Write f stamp ss) = not (has_concurrent p (epoch_at p e) f)
flags_rightly p (rec.Refuse e id request i m f (Conflict a b)) = is_conflict p (epoch_at p e) f a b
flags_rightly p _ = true

-- What holds of the trace of a run in the cluster of its lines.
pub record Headline (lines : List ScheduleLine) (trace : List Entry) : Type 0 where
  -- replies in an agreed partition are those of one tree of its members' commits
  pub one_tree : is_one_tree (config_of lines) trace ≡ true
  -- each file comes back wholly old or wholly new
  pub whole : always has_whole_files (config_of lines) trace ≡ true
  pub served : each serves_whole_files (config_of lines) (nothing_yet (config_of lines)) trace ≡ true
  -- new once acknowledged
  pub acknowledged : keeps_acknowledged (config_of lines) (nothing_yet (config_of lines)) [] trace ≡ true
  -- every commit is an ancestor of a kept version
  pub kept : always loses_nothing (config_of lines) trace ≡ true
  -- a file is flagged exactly when two versions kept there are concurrent
  pub flagged : each flags_rightly (config_of lines) (nothing_yet (config_of lines)) trace ≡ true
