-- What open instances and versions of directories name, and who inserts an entry.
use Rattle.std.proofs.Common.{◌≡◌, ◌≤◌, ℕ, List, None, Some, ◌⊎◌, inl, inr}
use Rattle.std.specs.List.{AllByRecursion}
use Rattle.locus_ids.specs.declared.config.Config.{Config}
use Rattle.locus_ids.specs.declared.ids.CallId.{CallId}
use Rattle.locus_ids.specs.declared.ids.EpochId.{EpochId}
use Rattle.locus_ids.specs.declared.ids.FileId.{FileId}
use Rattle.locus_ids.specs.declared.ids.Kind.{Kind}
use Rattle.locus_ids.specs.declared.ids.Kind.TheVariants.{Dir}
use Rattle.locus_ids.specs.declared.ids.Serial.{Serial}
use Rattle.locus_ids.specs.declared.ids.Stamp.{Stamp}
use Rattle.locus_ids.specs.Sizes.{inodes_max}
use Rattle.commit_graph.specs.Versions.{content_of}
use Rattle.trace_book.specs.declared.operation.Op.TheVariants as op
use Rattle.dir_format.specs.declared.entry.Entry.{Entry}
use Rattle.dir_format.specs.Contents.{entries_of}
use Rattle.dir_format.specs.Entries.{IsEntry}
use Rattle.call_rules.specs.declared.want.Want.TheVariants as want
use Rattle.the_run.specs.Worlds.{Line}
use Rattle.tree_model.specs.declared.instance.Instance.{Instance}
use Rattle.tree_model.specs.Files.{first_call, kind_of_file}
use Rattle.tree_model.specs.Epochs.{epoch_of}
use Rattle.tree_model.specs.Histories.{history}
use Rattle.tree_model.specs.State.{is_named}
use Rattle.tree_model.specs.Tree.{tree_of}
use Rattle.lawful_trace.specs.TreeRows.{IsCallIn, granted_group}
use Rattle.tree_laws.specs.Calls.{Asks}
use Rattle.tree_laws.specs.Following.{IsFollowed}
use Rattle.tree_laws.specs.Instances.{instance_now}
use Rattle.tree_laws.specs.Printed.{entries}
use Rattle.tree_laws.proofs.Fresh.{IsNamed}
use Rattle.tree_laws.specs.Orders.Joining.{PacksAreOfSites}
use Rattle.tree_laws.proofs.Orders.Lists.{all_found, all_then}
use Rattle.store_laws.proofs.Holdings.OneVersionFirsts.{IsFirst, MakesFirst, makes_first, uncalled}
use Rattle.rest_laws.specs.Fits.EntryEntries.{EntriesName, IsLeftMessage, MakesMessage, NamesFile}
use Rattle.rest_laws.proofs.Fits.EntryActing.{inserted_first, inserted_named}
use Rattle.rest_laws.proofs.Fits.EntryContents.{content_dir}
use Rattle.rest_laws.proofs.Fits.EntryFacts.{SoundAt, dir_file, dir_sound, message_kind}
use Rattle.rest_laws.proofs.Fits.EntryHeard.{Heard}
use Rattle.rest_laws.proofs.Fits.EntryNamed.{trace_named}

pub versions_name : (c : Config) (trace : List Line) → PacksAreOfSites c → IsFollowed c trace → (f : FileId) (stamp : Stamp) → kind_of_file c (entries trace) f ≡ Dir → EntriesName c trace f.group (content_of (history c (entries trace)) f stamp)
versions_name c trace packs h f stamp dir = dir_sound c trace f (content_of (history c (entries trace)) f stamp) dir ((trace_named c packs trace h).versions f stamp)

pub instances_name : (c : Config) (trace : List Line) → PacksAreOfSites c → IsFollowed c trace → (e : EpochId) (i : Serial) (x : Instance) → instance_now c trace e i ≡ Some x → kind_of_file c (entries trace) x.grant.file ≡ Dir → EntriesName c trace x.grant.file.group x.work.content ⊎ IsLeftMessage trace e x.grant
instances_name c trace packs h e i x found dir = over (all_found (SoundAt c trace) (is_named i) (tree_of c e (granted_group (entries trace) e i) (entries trace)).instances x ((trace_named c packs trace h).instances e (granted_group (entries trace) e i)) found)
  where
    first : MakesFirst c (entries trace) e x
    first = all_found (MakesFirst c (entries trace) e) (is_named i) (tree_of c e (granted_group (entries trace) e i) (entries trace)).instances x (makes_first c trace packs h e (granted_group (entries trace) e i)) found

    -- while its storage site is in the epoch nobody else makes a file under a message's number
    called : IsFirst c (entries trace) x.grant.file x.grant.call → (first_call c (entries trace) x.grant.file ≡ None) ⊎ (first_call c (entries trace) x.grant.file ≡ Some x.grant.call)
    called (inl none) = inl (uncalled c (entries trace) x.grant.file none)
    called (inr is) = inr is

    no_dir : MakesMessage trace x.grant → epoch_of (entries trace) x.grant.ss ≡ Some e → ⊥
    no_dir m inside = dir_file (kind_of_file c (entries trace) x.grant.file) dir (message_kind c trace x.grant (first m.mode_is).0 m (called ((first m.mode_is).1 inside)))

    over : SoundAt c trace x → EntriesName c trace x.grant.file.group x.work.content ⊎ IsLeftMessage trace e x.grant
    over (inl k) = inl (dir_sound c trace x.grant.file x.work.content dir k)
    over (inr m) = inr (m, no_dir m)

-- each entry of a content has the number of an inode
pub entries_numbered : (content : List ℕ) → AllByRecursion (λ (d : Entry). (1 ≤ d.ino) × (d.ino ≤ inodes_max)) (entries_of content)
entries_numbered content = all_then IsEntry (λ (d : Entry). (1 ≤ d.ino) × (d.ino ≤ inodes_max)) (λ d k. k.ino) (entries_of content) (content_dir content).entries

pub inserter_made : (c : Config) (trace : List Line) → PacksAreOfSites c → IsFollowed c trace → (e : EpochId) (d : CallId) → IsCallIn (entries trace) e d → (i : Serial) (name : List ℕ) (ino : ℕ) (kind : Kind) → Asks c trace d (want.Do i (op.Insert name ino kind)) → (x : Instance) → instance_now c trace e i ≡ Some x →
    NamesFile c trace x.grant.file.group ino kind × (first_call c (entries trace) (record { group = x.grant.file.group; ino = ino }) ≡ Some d)
inserter_made c trace packs h e d inside i name ino kind asks x found = (let heard : (d : CallId) → IsNamed (entries trace) d → Heard c trace d = (trace_named c packs trace h).calls in
    (inserted_named c trace h heard packs e d inside i name ino kind asks x found, inserted_first c trace h heard packs e d inside i name ino kind asks x found))
