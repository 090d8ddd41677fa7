-- What the steps of a storage site rest on is so: put together from the laws of the one tree.
use Rattle.std.proofs.Common.{ℕ, ◌≡◌, List, Option, ◌∙◌, ◌⊎◌, inl, inr}
use Rattle.locus_ids.specs.declared.config.Config.{Config}
use Rattle.locus_ids.specs.declared.ids.EpochId.{EpochId}
use Rattle.locus_ids.specs.declared.ids.FileId.{FileId}
use Rattle.locus_ids.specs.declared.ids.Mode.{Mode}
use Rattle.locus_ids.specs.declared.ids.Serial.{Serial}
use Rattle.locus_ids.specs.declared.ids.Stamp.{Stamp}
use Rattle.role_steps.specs.Storage.{free_pages}
use Rattle.role_steps.specs.Views.{Frame, Store}
use Rattle.the_run.specs.Worlds.{Line}
use Rattle.tree_model.specs.declared.instance.Instance.{Instance}
use Rattle.tree_model.specs.Histories.{history}
use Rattle.tree_model.specs.Tree.{tree_of}
use Rattle.tree_model.specs.Working.{free_pages as tree_free}
use Rattle.tree_model.specs.State.{is_named}
use Rattle.lawful_trace.specs.TreeRows.{granted_group}
use Rattle.tree_laws.specs.Printed.{entries}
use Rattle.tree_laws.specs.Doing.{FrameFact, StoreHeld}
use Rattle.tree_laws.specs.Following.{IsFollowed}
use Rattle.tree_laws.specs.Past.{WasBegun}
use Rattle.tree_laws.proofs.Rows.{followed_rows}
use Rattle.store_laws.specs.Holdings.Below.{LawsBelow}
use Rattle.store_laws.specs.Holdings.Granted.{IsAsGranted as WaitsSo}
use Rattle.store_laws.specs.Holdings.Held.{StandsOnHeld as StandsSo}
use Rattle.store_laws.proofs.Holdings.Begun.{waits_as_granted}
use Rattle.store_laws.proofs.Holdings.Below.{commits_new, packs_hold}
use Rattle.store_laws.proofs.Holdings.OneVersionFirsts.{open_make_first}
use Rattle.store_laws.proofs.Holdings.Holding.{sites_hold, stands_on_held}
use Rattle.store_laws.proofs.Holdings.OneVersionHomes.{home_holds}
use Rattle.store_laws.proofs.Holdings.Released.{released_shut}
use Rattle.store_laws.proofs.Holdings.RoomRoom.{room_same}
use Rattle.store_laws.specs.Works.Working.{Works}
use Rattle.store_laws.proofs.Works.Working.{trace_works}
use Rattle.tree_laws.proofs.Orders.Lists.{all_found}
use Rattle.tree_laws.proofs.Syncs.Members.{members_name_boots, table_boot}
use Rattle.store_laws.specs.Rests.{IsAsGranted, StandsOnHeld, StoreRests}
use Rattle.store_laws.specs.StoragePlain.{PlainRests}

as_granted : (c : Config) (trace : List Line) (e : EpochId) (i : Serial) (m : Mode) (f : FileId) (stamp : Option Stamp) (ss : ℕ) → WasBegun trace ss e i f ⊎ WaitsSo c trace e i m f stamp ss → WasBegun trace ss e i f ⊎ IsAsGranted c trace e i m f stamp ss
as_granted c trace e i m f stamp ss (inl k) = inl k
as_granted c trace e i m f stamp ss (inr k) = inr (record { at = k.at; open_at = k.open_at; file_is = k.file_is; mode_is = k.mode_is; work_is = k.work_is; holds = k.held_is })

stands_so : (c : Config) (trace : List Line) (e : EpochId) (x : Instance) → StandsSo c (entries trace) e x → StandsOnHeld c trace e x
stands_so c trace e x k = record { last_is = k.last_is; made = k.made }

pub rests_hold : (c : Config) (trace : List Line) → IsFollowed c trace → LawsBelow c trace → PlainRests c trace → StoreRests c trace
rests_hold c trace h laws plain = record {
  narrow = plain.narrow;
  places = plain.places;
  sites = plain.sites;
  boots = λ e d members k are. table_boot members d.site ∙ members_name_boots c trace h e d members k are;
  inside = (sites_hold c (entries trace) (packs_hold c trace laws.packed)).now;
  homes = λ site f stamp stands given. home_holds c (entries trace) (followed_rows c trace h) f stamp site given stands;
  granted = λ e d request i m f stamp ss k. as_granted c trace e i m f stamp ss (waits_as_granted c trace h (commits_new c trace h laws.once) e d request i m f stamp ss k);
  released = λ e i x k found. released_shut c trace h e i x k found;
  stands = λ e i x found. stands_so c trace e x (stands_on_held c trace h e i x found);
  works = λ e i x found. all_found (Works (history c (entries trace))) (is_named i) (tree_of c e (granted_group (entries trace) e i) (entries trace)).instances x ((trace_works c trace h laws).1 e (granted_group (entries trace) e i)) found;
  first = λ e i x found make inside. open_make_first c trace laws.packs h e i x found make inside;
}

pub room_is : (c : Config) (trace : List Line) → IsFollowed c trace → LawsBelow c trace → PlainRests c trace → (f : Frame) → FrameFact c trace f → (s : Store) → StoreHeld c f trace s → (group : ℕ) → free_pages s group ≡ tree_free (history c (entries trace)) (tree_of c f.epoch group (entries trace)) f.me
room_is c trace h laws plain f frame s kept group = room_same c trace f s h (record { laws = laws; narrow = plain.narrow; sites = plain.sites }) frame kept group
