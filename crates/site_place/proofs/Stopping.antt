-- A stop of a site is that of the run.
use Rattle.std.proofs.Common.{◌≡◌, ℕ, List, [], ◌∷◌, sym, ◌∙◌, ap, subst}
use Rattle.std.specs.Prelude.{Option, None, Some}
use Rattle.locus_ids.specs.declared.config.Config.{Config}
use Rattle.trace_book.specs.declared.record.Record.TheVariants as says
use Rattle.trace_book.specs.declared.record.StopCause.TheVariants as cause
use Rattle.wire_messages.specs.Outboxes.{Outgoing}
use Rattle.the_run.specs.Disks.{Disk, Armed}
use Rattle.the_run.specs.Worlds.{Running, Stopped, disk_of}
use Rattle.site_packs.specs.Copies.{copies_on}
use Rattle.site_packs.specs.Cutting.{both_open_on}
use Rattle.site_packs.specs.Packs.{groups_of, groups_at}
use Rattle.site_disk.specs.Image.{label_on, one_half}
use Rattle.site_disk.specs.Run.{as_label, disk_on}
use Rattle.site_node.specs.declared.node.SiteNode.{SiteNode}
use Rattle.site_node.specs.Views.{view_of}
use Rattle.site_place.specs.Places.{PlaceState, Gives, stops_in, stops_at}
use Rattle.site_place.specs.Views.{place_in}
use Rattle.site_place.proofs.Fitting.{given_at}
use Rattle.site_place.proofs.Happening.{state_at, nothing_given, nothing_out}

stop_shown : (groups : List ℕ) (s : ℕ) (n : SiteNode) (image : List ℕ) (armed : Option Armed) (b : PlaceState) (out : Outgoing) → groups_of n.packs ≡ groups → label_on image ≡ one_half n.epochs.boot → both_open_on (groups_of n.packs) image ≡ []
    → out ≡ record { packets = []; records = says.Stopped s cause.Asked ∷ [] } → Gives (stops_at s armed (Running (view_of n image))) b (record b { place = Stopped (disk_on groups image); armed = None }) out
stop_shown groups s n image armed b out same label shut told =
    let copies = ap (λ (gs : List ℕ). copies_on gs image) (sym same) in
    let files : both_open_on groups image ≡ [] = ap (λ (gs : List ℕ). both_open_on gs image) (sym same) ∙ shut in
    let disk : disk_on groups image ≡ disk_of (view_of n image) = (λ i. record { copies = copies i; both_open = files i; label = as_label (label i) }) in
    record {
      state = ap (λ (d : Disk). record b { place = Stopped d; armed = None }) disk;
      packets = ap (λ (g : Outgoing). g.packets) told;
      records = ap (λ (g : Outgoing). g.records) told;
    }

pub stop_given : (config : Config) (me : ℕ) (n : SiteNode) (node left : Option SiteNode) (old now : List ℕ) (armed : Option Armed) (state : PlaceState) (out : Outgoing)
    → state_at config me (place_in (groups_at config me) node old) armed ≡ state → node ≡ Some n → left ≡ None → now ≡ old → groups_of n.packs ≡ groups_at config me → label_on old ≡ one_half n.epochs.boot → both_open_on (groups_of n.packs) old ≡ []
    → out ≡ record { packets = []; records = says.Stopped me cause.Asked ∷ [] } → Gives (stops_in state) state (state_at config me (place_in (groups_at config me) left now) None) out
stop_given config me n node left old now armed state out shown is none same groups label shut told =
    let gs = groups_at config me in
    let before = state_at config me (Running (view_of n old)) armed in
    given_at stops_in gs config me node (Some n) old armed state (state_at config me (place_in gs left now) None) out shown is
    (subst (λ (k : Option SiteNode). Gives (stops_in before) before (state_at config me (place_in gs k now) None) out) (sym none)
    (subst (λ (l : List ℕ). Gives (stops_in before) before (state_at config me (place_in gs None l) None) out) (sym same)
    (stop_shown gs me n old armed before out groups label shut told)))

-- where the site doesn't run nothing happens
pub stop_nothing : (config : Config) (me : ℕ) (node : Option SiteNode) (old : List ℕ) (armed : Option Armed) (state : PlaceState) (out : Outgoing) → state_at config me (place_in (groups_at config me) node old) armed ≡ state → node ≡ None → out ≡ nothing_out
    → Gives (stops_in state) state state out
stop_nothing config me node old armed state out shown none empty =
    let gs = groups_at config me in
    subst (λ (k : PlaceState). Gives (stops_in k) k k out) shown
    (subst (λ (k : Option SiteNode). Gives (stops_in (state_at config me (place_in gs k old) armed)) (state_at config me (place_in gs k old) armed) (state_at config me (place_in gs k old) armed) out) (sym none)
    (nothing_given config me (Stopped (disk_on gs old)) armed out empty))
