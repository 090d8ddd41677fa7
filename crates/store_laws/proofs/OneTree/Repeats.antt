-- What a site sends again at a tick carries its fact.
use Rattle.std.proofs.Common.{ℕ, List, [], ◌∷◌, ◌++◌, Option, Some, None}
use Rattle.std.specs.List.{flat_map}
use Rattle.locus_ids.specs.declared.config.Config.{Config}
use Rattle.wire_messages.specs.declared.packet.Packet.{Packet}
use Rattle.role_steps.specs.Epochs.{frame_in, all_reports, poll_packet, poll_repeats, install_packet, install_repeats, unanswered}
use Rattle.role_steps.specs.Own.{Every}
use Rattle.role_steps.specs.Pulling.{pull_repeats}
use Rattle.role_steps.specs.Reports.{sync_repeats}
use Rattle.role_steps.specs.Requests.{request_packets}
use Rattle.role_steps.specs.Storage.{store_repeats}
use Rattle.role_steps.specs.Views.{Frame, SiteView}
use Rattle.role_steps.specs.declared.rounds.InEpoch.{InEpoch}
use Rattle.role_steps.specs.declared.rounds.Round.{Round}
use Rattle.role_steps.specs.declared.synchronizing.SyncTable.{SyncTable}
use Rattle.role_steps.specs.declared.users.WaitingCall.{WaitingCall}
use Rattle.role_steps.proofs.Sending.{every_append, every_map}
use Rattle.the_run.specs.Steps.{repeats_inside, repeats_of, repeats}
use Rattle.the_run.specs.Worlds.{Line}
use Rattle.the_run.proofs.StepSends.{order_sent}
use Rattle.tree_laws.specs.Packets.{PacketFact}
use Rattle.tree_laws.specs.Tables.{TableFact}
use Rattle.tree_laws.specs.Users.{WaitingFact}
use Rattle.store_laws.specs.OneTree.Places.{InsideFact, SiteFact, SiteIn}
use Rattle.store_laws.specs.OneTree.Rest.{Past}
use Rattle.store_laws.specs.OneTree.Roles.{Ready, RolesDo}
use Rattle.store_laws.proofs.OneTree.Parts.{Synced, synced_each}

pub every_flat : {A B : Type 0} (P : B → Type 0) (g : A → List B) (xs : List A) → Every (λ (x : A). Every P (g x)) xs → Every P (flat_map g xs)
every_flat P g [] h = tt
every_flat P g (x ∷ xs) h = every_append P (g x) (flat_map g xs) h.0 (every_flat P g xs h.1)

polls_again : (c : Config) (t : List Line) (me : ℕ) (v : SiteView) (o : Option Round) → Every (PacketFact c t) (poll_repeats me v o)
polls_again c t me v None = tt
polls_again c t me v (Some r) = every_map (PacketFact c t) (poll_packet me v.boot r.id r.polled) (unanswered r) (λ s. tt)

waiting_again : (c : Config) (t : List Line) (f : Frame) (ws : List WaitingCall) → Every (WaitingFact c t f) ws → Every (λ (w : WaitingCall). Every (PacketFact c t) (request_packets f w w.asking)) ws
waiting_again c t f [] h = tt
waiting_again c t f (w ∷ ws) h = (h.0.sent, waiting_again c t f ws h.1)

tables_again : (c : Config) → RolesDo c → (t : List Line) (f : Frame) (tables : List SyncTable) → Ready c t f → Every (Synced f) tables → Every (TableFact c t f) tables → Every (λ (x : SyncTable). Every (PacketFact c t) (sync_repeats f x)) tables
tables_again c roles t f [] ready s h = tt
tables_again c roles t f (x ∷ xs) ready s h = (roles.tables.repeats t f x ready (record { synced = s.0; fact = h.0 }), tables_again c roles t f xs ready s.1 h.1)

inside_again : (c : Config) → RolesDo c → (t : List Line) (me : ℕ) (e : InEpoch) (v : SiteView) → Ready c t (frame_in c me v.boot e) → InsideFact c (frame_in c me v.boot e) t v → Every (PacketFact c t) (repeats_inside (frame_in c me v.boot e) e v)
inside_again c roles t me e v ready h =
    let f : Frame = frame_in c me v.boot e in
    let P : Packet → Type 0 = PacketFact c t in
    every_append P _ _ (order_sent P (all_reports f v) (roles.epochs.reports t f v ready h))
    (every_append P _ _ (every_flat P (λ (w : WaitingCall). request_packets f w w.asking) v.users.waiting (waiting_again c t f v.users.waiting h.users.inside.inside.calls))
    (every_append P _ _ (order_sent P (store_repeats f v.store) (roles.stores.repeats t f v.store ready h.store))
    (every_append P _ _ (order_sent P (pull_repeats f v.pulls) (roles.pulls.repeats t f v.pulls ready h.pulls))
    (order_sent P (flat_map (sync_repeats f) v.tables) (every_flat P (sync_repeats f) v.tables (tables_again c roles t f v.tables ready (synced_each f v.tables h.groups) h.tables))))))

again : (c : Config) → RolesDo c → (t : List Line) (me : ℕ) (o : Option InEpoch) (v : SiteView) → Past c t → SiteIn c me t v o → Every (PacketFact c t) (repeats_of c me o v)
again c roles t me None v followed h = order_sent (PacketFact c t) (poll_repeats me v v.round) (polls_again c t me v v.round)
again c roles t me (Some e) v followed h = every_append (PacketFact c t) _ _
    (order_sent (PacketFact c t) (poll_repeats me v v.round ++ install_repeats me v e) (every_append (PacketFact c t) (poll_repeats me v v.round) (install_repeats me v e) (polls_again c t me v v.round) (every_map (PacketFact c t) (install_packet me v.boot e.id e.members) v.installs (λ s. tt))))
    (inside_again c roles t me e v (record { past = followed; frame = h.frame }) h)

pub repeats_fine : (c : Config) → RolesDo c → (t : List Line) (me : ℕ) (v : SiteView) → Past c t → SiteFact c me t v → Every (PacketFact c t) (repeats c me v)
repeats_fine c roles t me v followed h = again c roles t me v.epoch v followed h
