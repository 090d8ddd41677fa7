-- What a table has of a group after a line is told of an open of it: the rest of it stays, whatever becomes of its opens and files.
use Rattle.std.proofs.Common.{◌≡◌, ℕ, true, List, sym, ◌∙◌}
use Rattle.std.specs.Option.{is_some}
use Rattle.locus_ids.specs.declared.config.Config.{Config}
use Rattle.locus_ids.specs.declared.ids.Serial.{Serial}
use Rattle.role_steps.specs.Opens.{open_key, open_row}
use Rattle.role_steps.specs.Own.{Every}
use Rattle.role_steps.specs.Views.{Frame, Told, packet}
use Rattle.role_steps.specs.declared.synchronizing.Early.{Early}
use Rattle.role_steps.specs.declared.synchronizing.FileRow.{FileRow}
use Rattle.role_steps.specs.declared.synchronizing.LastLook.{LastLook}
use Rattle.role_steps.specs.declared.synchronizing.OpenRow.{OpenRow}
use Rattle.role_steps.specs.declared.synchronizing.SyncTable.{SyncTable}
use Rattle.the_run.specs.Worlds.{Line}
use Rattle.tree_model.specs.Tree.{tree_of}
use Rattle.tree_laws.specs.Following.{MayTell, IsFollowed}
use Rattle.tree_laws.specs.Frames.{AllStay}
use Rattle.tree_laws.specs.Packets.{PacketFact, file_in}
use Rattle.tree_laws.specs.Past.{WasNamedIn}
use Rattle.tree_laws.specs.Printed.{entries}
use Rattle.tree_laws.specs.Stores.{AreApart}
use Rattle.tree_laws.specs.Tables.{AreRising, FileFact, FilesFact, RowFact, TableFact, early_packet, named_openers, tree_openers}
use Rattle.tree_laws.proofs.Boots.{every_both}
use Rattle.tree_laws.proofs.Carried.{packet_stays}
use Rattle.store_laws.specs.of_tree_laws.Syncs.Staying.{Looks, Starts}
use Rattle.store_laws.proofs.of_tree_laws.Syncs.Files.{started_told}
use Rattle.store_laws.proofs.of_tree_laws.Syncs.Staying.{turn_told_same}
use Rattle.store_laws.specs.OneTree.Rest.{more}

-- what a table has of its opens and files by the trace
pub record HasNow (c : Config) (trace : List Line) (f : Frame) (t : SyncTable) : Type 0 where
  pub rows : Every (FileFact c trace f.epoch t.group) t.files
  pub rise : AreRising t.files
  pub files : FilesFact c trace f t t.started
  pub opens : Every (RowFact c trace f.epoch t.group) t.opens
  pub apart : AreApart open_key t.opens
  pub has : (i : Serial) → WasNamedIn trace f.epoch t.group i → is_some (open_row t i) ≡ true
  pub openers_are : (ino : ℕ) → (ino ≡ 0 → ⊥) → named_openers t (file_in t.group ino) ≡ tree_openers (tree_of c f.epoch t.group (entries trace)) (file_in t.group ino)

pub table_put : (c : Config) (n : ℕ) (x : Told) (older : List Line) → IsFollowed c older → MayTell c older x → AllStay c older (more n x older) x → (f : Frame) (t : SyncTable) → TableFact c older f t →
    (Starts f t.group x → ⊥) → (Looks f t.group x → ⊥) → (files : List FileRow) (opens : List OpenRow) → HasNow c (more n x older) f (record t { files = files; opens = opens }) → TableFact c (more n x older) f (record t { files = files; opens = opens })
table_put c n x older h may stay f t k unstarted unlooked files opens now = record {
  started = k.started ∙ sym (started_told c n older h f t.group x unstarted);
  early = every_both (λ (e : Early). PacketFact c older (early_packet f e)) (λ (e : Early). PacketFact c (more n x older) (early_packet f e)) t.early (λ e p. packet_stays c n x older h may stay (early_packet f e) p) k.early;
  early_here = k.early_here;
  early_only = k.early_only;
  all = k.all;
  rows = now.rows;
  rise = now.rise;
  files = now.files;
  opens = now.opens;
  apart = now.apart;
  has = now.has;
  openers_are = now.openers_are;
  turns = λ us process small. k.turns us process small ∙ sym (turn_told_same c n older f t.group x unlooked us process);
  looks = every_both (λ (l : LastLook). PacketFact c older (packet f l.to l.body)) (λ (l : LastLook). PacketFact c (more n x older) (packet f l.to l.body)) t.looks (λ l p. packet_stays c n x older h may stay (packet f l.to l.body) p) k.looks;
}
