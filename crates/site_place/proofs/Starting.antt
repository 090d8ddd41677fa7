-- A start of a stopped site: its place after it, and what it tells.
use Rattle.std.proofs.Common.{◌≡◌, ℕ, ◌<◌, Bool, true, false, List, [], ◌∷◌, refl, sym, ◌∙◌, subst}
use Rattle.std.specs.Prelude.{Option, None, Some, is_some, Result, Err, OnErr}
use Rattle.std.proofs.lemmas.Bool.{false≢true, true≢false}
use Rattle.locus_ids.specs.declared.config.Config.{Config}
use Rattle.disk_model.specs.declared.script.Script.{Script}
use Rattle.trace_book.specs.declared.record.Record.TheVariants as says
use Rattle.wire_messages.specs.Outboxes.{Outgoing}
use Rattle.the_run.specs.Disks.{Armed}
use Rattle.the_run.specs.Worlds.{Running, Stopped, fresh, cause_of}
use Rattle.site_packs.specs.Copies.{copies_on}
use Rattle.site_packs.specs.Mounting.{AreSound}
use Rattle.site_label.specs.Image.{label_number}
use Rattle.site_label.specs.Raising.{IsRaised}
use Rattle.site_disk.specs.declared.boot_fault.BootFault.{BootFault}
use Rattle.site_disk.specs.declared.boot_fault.BootFault.TheVariants.{Disk as BootDisk}
use Rattle.site_disk.specs.Boots.{boot_calls, IsCutBoot, TellsBoot, disk_answer}
use Rattle.disk_model.specs.declared.disk.DiskFault.{DiskFault}
use Rattle.disk_model.specs.declared.disk.DiskFault.TheVariants.{Failed}
use Rattle.disk_model.specs.Disk.{Passing}
use Rattle.disk_model.specs.Moments.{TellsMany}
use Rattle.site_disk.specs.Run.{as_cut, disk_on}
use Rattle.site_node.specs.declared.node.SiteNode.{SiteNode}
use Rattle.site_node.specs.Views.{view_of}
use Rattle.site_place.specs.declared.script.DiskScript.{DiskScript}
use Rattle.site_place.specs.Counts.{counted, armed_by_script, waiting}
use Rattle.site_place.specs.Places.{PlaceState, Gives, cut_by, boots_in}
use Rattle.site_place.specs.Views.{armed_in, place_in}
use Rattle.site_place.proofs.Booting.{boots_up, boot_cut}
use Rattle.site_place.proofs.Fitting.{given_at}
use Rattle.site_place.proofs.Happening.{state_at, nothing_given, nothing_out}
use Rattle.site_place.proofs.Scripts.{AllPassed, with_count}

pub not_running : (x : Option SiteNode) (b : Bool) → b ≡ is_some x → b ≡ false → x ≡ None
not_running None b e f = refl
not_running (Some n) b e f = absurd (true≢false (sym e ∙ f))

-- where the site runs nothing happens
pub start_nothing : (gs : List ℕ) (config : Config) (me : ℕ) (x : Option SiteNode) (image : List ℕ) (armed : Option Armed) (state : PlaceState) (out : Outgoing) (b : Bool) → state_at config me (place_in gs x image) armed ≡ state → b ≡ is_some x → b ≡ true → out ≡ nothing_out → Gives (boots_in state) state state out
start_nothing gs config me None image armed state out b shown e t empty = absurd (false≢true (sym e ∙ t))
start_nothing gs config me (Some n) image armed state out b shown e t empty =
    subst (λ (k : PlaceState). Gives (boots_in k) k k out) shown (nothing_given config me (Running (view_of n image)) armed out empty)

pub start_up : (gs : List ℕ) (config : Config) (me : ℕ) (x y : Option SiteNode) (n : SiteNode) (image now : List ℕ) (armed later : Option DiskScript) (boot left : ℕ) (state : PlaceState) (out : Outgoing)
    → state_at config me (place_in gs x image) (armed_in armed) ≡ state → x ≡ None → y ≡ Some n → later ≡ with_count left armed → IsRaised me image boot → AllPassed armed (boot_calls gs image) left
    → view_of n now ≡ fresh boot (copies_on gs image) → out ≡ record { packets = []; records = says.Up me boot ∷ [] }
    → Gives (boots_in state) state (state_at config me (place_in gs y now) (armed_in later)) out
start_up gs config me x y n image now armed later boot left state out shown none up armed_is raised passed view told =
    let before = state_at config me (Stopped (disk_on gs image)) (armed_in armed) in
    given_at boots_in gs config me x None image (armed_in armed) state (state_at config me (place_in gs y now) (armed_in later)) out shown none
    (subst (λ (k : Option SiteNode). Gives (boots_in before) before (state_at config me (place_in gs k now) (armed_in later)) out) (sym up)
    (subst (λ (k : Option DiskScript). Gives (boots_in before) before (state_at config me (place_in gs (Some n) now) (armed_in k)) out) (sym armed_is)
    (boots_up gs me me boot left n image now armed before out raised passed view told)))

pub start_cut : (gs : List ℕ) (config : Config) (me : ℕ) (x : Option SiteNode) (image left : List ℕ) (armed : Option DiskScript) (script : DiskScript) (state : PlaceState) (out : Outgoing)
    → state_at config me (place_in gs x image) (armed_in armed) ≡ state → x ≡ None → armed ≡ Some script → AreSound me gs image → script.left < boot_calls gs image
    → IsCutBoot me gs (as_cut (cut_by script.how)) (label_number image) script.left image left → out ≡ record { packets = []; records = says.Stopped me (cause_of (cut_by script.how)) ∷ [] }
    → Gives (boots_in state) state (state_at config me (place_in gs x left) None) out
start_cut gs config me x image left armed script state out shown none is sound few cut told =
    let before = state_at config me (Stopped (disk_on gs image)) in
    given_at boots_in gs config me x None image (armed_in armed) state (state_at config me (place_in gs x left) None) out shown none
    (subst (λ (k : Option SiteNode). Gives (boots_in (before (armed_in armed))) (before (armed_in armed)) (state_at config me (place_in gs k left) None) out) (sym none)
    (subst (λ (k : Option DiskScript). Gives (boots_in (before (armed_in k))) (before (armed_in k)) (state_at config me (place_in gs None left) None) out) (sym is)
    (boot_cut gs me me image left script (before (armed_in (Some script))) out sound few cut told)))

-- the count is that of the disk
pub count_is : (s : Script) (left kept : ℕ) → left ≡ kept → counted s kept ≡ kept → counted s left ≡ left
count_is s left kept same is = subst (λ (k : ℕ). counted s k ≡ k) (sym same) is

pub armed_same : (s : Script) (one other : Option DiskScript) → s ≡ waiting (armed_by_script one) s.faults → one ≡ other → s ≡ waiting (armed_by_script other) s.faults
armed_same s one other is same = subst (λ (k : Option DiskScript). s ≡ waiting (armed_by_script k) s.faults) same is

-- a boot that the disk failed
pub tells_failed : {T : Type 0} (r : Result T BootFault) (n : ℕ) (p q : Passing) (fault : BootFault) → fault ≡ BootDisk → TellsBoot {T = T} n p q (Err fault) → TellsMany {T = Unit {0}} {E = DiskFault} n p q (Err Failed)
tells_failed {T} r n p q fault is tells = subst (λ (f : BootFault). TellsBoot {T = T} n p q (Err f)) is tells

pub cut_failed : {T : Type 0} (r : Result T BootFault) (fault : BootFault) (X : Type 0) → fault ≡ BootDisk → OnErr (disk_answer {T = T} (Err fault)) X → X
cut_failed {T} r fault X is cut = subst (λ (f : BootFault). OnErr (disk_answer {T = T} (Err f)) X) is cut
