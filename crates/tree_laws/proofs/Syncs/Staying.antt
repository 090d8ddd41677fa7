-- What a table has stays when a line is told that comes as it may and doesn't change it.
use Rattle.std.proofs.Common.{◌≡◌, ℕ, ◌==◌, Bool, true, false, ◌&&◌, List, Option, Some, None, refl, sym, ◌∙◌, inl, inr}
use Rattle.role_steps.proofs.of_plain_facts.Numbers.{equal}
use Rattle.locus_ids.specs.declared.config.Config.{Config}
use Rattle.locus_ids.specs.declared.ids.CallId.{CallId}
use Rattle.locus_ids.specs.declared.ids.EpochId.{EpochId}
use Rattle.locus_ids.specs.declared.ids.FileId.{FileId}
use Rattle.trace_book.specs.Same.{same_epoch}
use Rattle.trace_book.specs.declared.record.Record.TheVariants as says
use Rattle.role_steps.specs.Views.{Frame, Told, Shown, packet}
use Rattle.role_steps.specs.declared.synchronizing.Early.{Early}
use Rattle.role_steps.specs.declared.synchronizing.FileRow.{FileRow}
use Rattle.role_steps.specs.declared.synchronizing.LastLook.{LastLook}
use Rattle.role_steps.specs.declared.synchronizing.SyncTable.{SyncTable}
use Rattle.the_run.specs.Worlds.{Line}
use Rattle.tree_model.specs.declared.accepted.Waiting.{Waiting}
use Rattle.tree_model.specs.Calls.{call_named}
use Rattle.tree_model.specs.Histories.{history}
use Rattle.tree_model.specs.Tree.{tree_of}
use Rattle.role_steps.specs.Own.{Every}
use Rattle.tree_laws.specs.Following.{MayTell, IsFollowed}
use Rattle.tree_laws.specs.Frames.{AllStay, VersionsStay}
use Rattle.tree_laws.specs.Packets.{PacketFact, file_in}
use Rattle.tree_laws.specs.Printed.{entries}
use Rattle.tree_laws.specs.Tables.{AreRising, FileFact, FilesFact, RowFact, TableFact, early_packet, is_look_of, last_turn, tree_openers}
use Rattle.tree_laws.proofs.Boots.{every_both}
use Rattle.tree_laws.proofs.Carried.{packet_stays}
use Rattle.tree_laws.proofs.CarriedLooks.{More}
use Rattle.tree_laws.proofs.Kinship.{tree_epoch_is, tree_group_is}
use Rattle.tree_laws.proofs.Names.{same_epoch_eq}
use Rattle.tree_laws.proofs.Versions.{versions_stay}
use Rattle.tree_laws.specs.Syncs.Staying.{Starts, Looks, Names, Releases, TouchesTable, FilesStay}
use Rattle.tree_laws.proofs.Syncs.Trees.{openers_same}
use Rattle.tree_laws.proofs.Syncs.Files.{file_row_stays, started_told, files_stay}
use Rattle.tree_laws.proofs.Syncs.OpensStay.{open_row_stays, names_here, names_stay}

module _ (c : Config) (n : ℕ) (older : List Line) (f : Frame) (group : ℕ) where
  openers_told : (x : Told) → (Names f group x → ⊥) → (Releases f group x → ⊥) → (file : FileId) → tree_openers (tree_of c f.epoch group (entries (More n x older))) file ≡ tree_openers (tree_of c f.epoch group (entries older)) file
  openers_told (Shown r) unnamed unreleased file = openers_same (history c (entries older)) (tree_of c f.epoch group (entries older)) f group (tree_epoch_is c f.epoch group (entries older)) (tree_group_is c f.epoch group (entries older)) r file unnamed unreleased
  openers_told _ unnamed unreleased file = refl

  -- a look of another table
  other_look : (at : EpochId) (d : CallId) (file : FileId) (us process : ℕ) (o : Option Waiting) → ((at ≡ f.epoch) × (file.group ≡ group) → ⊥) → is_look_of older f.epoch group us at d file o process ≡ false
  other_look at d file us process None apart = refl
  other_look at d file us process (Some w) apart = over (same_epoch at f.epoch) (file.group == group) refl refl
    where
      over : (a b : Bool) → same_epoch at f.epoch ≡ a → (file.group == group) ≡ b → a && (b && ((d.site == us) && (w.process == process))) ≡ false
      over true true p q = absurd (apart (same_epoch_eq at f.epoch p, equal file.group group q))
      over true false p q = refl
      over false b p q = refl

  pub turn_told_same : (x : Told) → (Looks f group x → ⊥) → (us process : ℕ) → last_turn (More n x older) f.epoch group us process ≡ last_turn older f.epoch group us process
  turn_told_same (Shown (says.Look at d request file what result)) apart us process = rw (other_look at d file us process (call_named (entries older) d) apart) refl
  turn_told_same (Shown r) apart us process = refl
  turn_told_same _ apart us process = refl

-- what is told of files may change what a table has of files: the rest of it stays, whatever is noted
pub table_with : (c : Config) (n : ℕ) (x : Told) (older : List Line) → IsFollowed c older → MayTell c older x → AllStay c older (More n x older) x → (f : Frame) (t : SyncTable) → TableFact c older f t →
    (Starts f t.group x → ⊥) → (Looks f t.group x → ⊥) → (Names f t.group x → ⊥) → (Releases f t.group x → ⊥) → (files : List FileRow) → Every (FileFact c (More n x older) f.epoch t.group) files → AreRising files → FilesFact c (More n x older) f (record t { files = files }) t.started →
    TableFact c (More n x older) f (record t { files = files })
table_with c n x older h may stay f t k unstarted unlooked unnamed unreleased files rows rise now = record {
  started = k.started ∙ sym (started_told c n older h f t.group x unstarted);
  early = every_both (λ (e : Early). PacketFact c older (early_packet f e)) (λ (e : Early). PacketFact c (More n x older) (early_packet f e)) t.early (λ e p. packet_stays c n x older h may stay (early_packet f e) p) k.early;
  early_here = k.early_here;
  early_only = k.early_only;
  all = k.all;
  rows = rows;
  rise = rise;
  files = now;
  opens = every_both (RowFact c older f.epoch t.group) (RowFact c (More n x older) f.epoch t.group) t.opens (λ r k. open_row_stays c n x older h may v f t.group unreleased r (λ p. unnamed (names_here older f t.group r.inst x p)) k) k.opens;
  apart = k.apart;
  has = λ i w. k.has i (names_stay n older f t.group x unnamed i w);
  openers_are = λ ino some. k.openers_are ino some ∙ sym (openers_told c n older f t.group x unnamed unreleased (file_in t.group ino));
  turns = λ us process small. k.turns us process small ∙ sym (turn_told_same c n older f t.group x unlooked us process);
  looks = every_both (λ (l : LastLook). PacketFact c older (packet f l.to l.body)) (λ (l : LastLook). PacketFact c (More n x older) (packet f l.to l.body)) t.looks (λ l p. packet_stays c n x older h may stay (packet f l.to l.body) p) k.looks;
}
  where
    v : VersionsStay c older (More n x older)
    v = versions_stay c n x older h may stay.fresh stay.order

pub table_stays : (c : Config) (n : ℕ) (x : Told) (older : List Line) → IsFollowed c older → MayTell c older x → FilesStay c older (More n x older) x → (f : Frame) (t : SyncTable) → TableFact c older f t → (TouchesTable f t.group x → ⊥) → TableFact c (More n x older) f t
table_stays c n x older h may stay f t k apart =
    table_with c n x older h may stay.stay f t k (λ k. apart (inl k)) (λ k. apart (inr (inl k))) (λ k. apart (inr (inr (inl k)))) unreleased t.files
    (every_both (FileFact c older f.epoch t.group) (FileFact c (More n x older) f.epoch t.group) t.files (file_row_stays c older (More n x older) (versions_stay c n x older h may stay.stay.fresh stay.stay.order) f.epoch t.group) k.rows) k.rise
    (files_stay c n x older h may stay f t unreleased (λ k. apart (inr (inr (inr (inr k))))) t.started (sym k.started) k.files)
  where
    unreleased : Releases f t.group x → ⊥
    unreleased k = apart (inr (inr (inr (inl k))))
