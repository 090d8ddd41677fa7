-- What a file is, by the records so far: its kind and the sites that it is for, as the call that made its first version
-- tells; and what a site has of it.
use Rattle.std.specs.Prelude.{ℕ, ◌==◌, cond, List, Option, None, Some}
use Rattle.std.specs.List.{find}
use Rattle.std.specs.Option.{option_map, option_or}
use Rattle.locus_ids.specs.declared.config.Config.{Config}
use Rattle.locus_ids.specs.declared.sites.Sites.{Sites}
use Rattle.locus_ids.specs.declared.ids.FileId.{FileId}
use Rattle.locus_ids.specs.declared.ids.Stamp.{Stamp}
use Rattle.locus_ids.specs.declared.ids.CallId.{CallId}
use Rattle.locus_ids.specs.declared.ids.EpochId.{EpochId}
use Rattle.locus_ids.specs.declared.ids.Kind.{Kind}
use Rattle.locus_ids.specs.declared.ids.Kind.TheVariants.{File, Dir}
use Rattle.commit_graph.specs.Versions.{same_file, content_of}
use Rattle.commit_graph.specs.Vectors.{vector_of}
use Rattle.dir_reconcile.specs.of_trace_book.declared.record.Record.{Record}
use Rattle.dir_reconcile.specs.of_trace_book.declared.record.Record.TheVariants.{Commit}
use Rattle.dir_reconcile.specs.of_trace_book.declared.call.Call.{Call}
use Rattle.dir_reconcile.specs.of_trace_book.declared.call.Call.TheVariants as call
use Rattle.tree_model.specs.declared.instance.Instance.{Instance}
use Rattle.tree_model.specs.declared.accepted.Waiting.{Waiting}
use Rattle.tree_model.specs.Folds.{Trace, over}
use Rattle.tree_model.specs.Epochs.{epoch_of}
use Rattle.tree_model.specs.Packs.{packs_of}
use Rattle.tree_model.specs.Histories.{history, held}
use Rattle.tree_model.specs.Calls.{call_named}
use Rattle.tree_model.specs.State.{is_writer}
use Rattle.tree_model.specs.Opening.{sites_made}
use Rattle.tree_model.specs.Tree.{tree_of}

-- the open instance by which the file is committed at the site, in the epoch that the site is in
abbrev pub committing_in : Config → Trace → FileId → ℕ → Option EpochId → Option Instance
committing_in c before f site None = None
committing_in c before f site (Some e) = find (is_writer f site) (tree_of c e f.group before).instances

abbrev pub committing : Config → Trace → FileId → ℕ → Option Instance
committing c before f site = committing_in c before f site (epoch_of before site)

abbrev pub first_call_after : Record → Config → Trace → FileId → Option CallId → Option CallId
first_call_after (Commit g site stamp parents content) c before f old = option_or old (cond (same_file g f) (option_map (λ (x : Instance). x.grant.call) (committing c before f site)) None)
first_call_after _ c before f old = old

-- the call whose instance committed the first version of the file
abbrev pub first_call : Config → Trace → FileId → Option CallId
first_call c trace f = over None (λ r before old. first_call_after r.what c before f old) trace

abbrev pub words_named : Trace → Option CallId → Option Call
words_named before None = None
words_named before (Some c) = option_map (λ (w : Waiting). w.words) (call_named before c)

-- the words of the call that made the file
abbrev pub making_words : Config → Trace → FileId → Option Call
making_words c before f = words_named before (first_call c before f)

abbrev pub kind_made : Option Call → Kind
kind_made (Some (call.MakeDir path)) = Dir
kind_made _ = File

-- the root of a group is a directory
abbrev pub kind_of_file : Config → Trace → FileId → Kind
kind_of_file c before f = cond (f.ino == 1) Dir (kind_made (making_words c before f))

-- the sites that the file is for: those that its making gave, or all that have a pack of its group
abbrev pub set_of_file : Config → Trace → FileId → Sites
set_of_file c before f = cond (f.ino == 1) (packs_of c f.group) (sites_made (packs_of c f.group) (making_words c before f))

-- what a site has of a file, as its disk has to give it
pub record HeldVersion : Type 0 where
  pub kind : Kind
  pub set : Sites
  pub stamp : Stamp
  -- its written vector
  pub vector : List ℕ
  pub content : List ℕ

abbrev pub version_of : Config → Trace → FileId → Stamp → HeldVersion
version_of c before f stamp = record {
  kind = kind_of_file c before f;
  set = set_of_file c before f;
  stamp = stamp;
  vector = vector_of (history c before) f stamp;
  content = content_of (history c before) f stamp;
}

-- the version that the site has of the file, if it has one
abbrev pub held_version : Config → Trace → ℕ → FileId → Option HeldVersion
held_version c before site f = option_map (version_of c before f) (held c before site f)
