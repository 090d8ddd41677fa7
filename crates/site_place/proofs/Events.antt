-- An event of a site that runs is that of the run: whole, or cut off in its write.
use Rattle.std.proofs.Common.{◌≡◌, ℕ, ◌-◌, Bool, true, false, cond, List, [], ◌∷◌, ◌++◌, length, refl, sym, ◌∙◌, ap, subst, arith}
use Rattle.std.specs.Prelude.{◌<◌, nat_lt, is_some, Option, None, Some}
use Rattle.std.proofs.lemmas.Bool.{lt-ltb, le-ltb}
use Rattle.disk_model.specs.Disk.{Moment, Exactly}
use Rattle.trace_book.specs.declared.record.Record.{Record}
use Rattle.trace_book.specs.declared.record.Record.TheVariants as says
use Rattle.wire_messages.specs.Outboxes.{Outgoing}
use Rattle.role_steps.specs.Storage.{copy_of}
use Rattle.role_steps.specs.Views.{Store, SiteView, Outcome, DiskWrite, Shown}
use Rattle.site_node.specs.of_site_frame.Printed.{printed}
use Rattle.disk_model.specs.Cut.{Cut as DiskCut}
use Rattle.the_run.specs.Disks.{Disk, Armed, Cut, new_gate, blocks, writing_of, write_calls, cut_disk}
use Rattle.the_run.specs.Worlds.{Stopped, cause_of, cut_told}
use Rattle.site_packs.specs.declared.faults.WriteSize.{WriteSize}
use Rattle.site_packs.specs.Packs.{groups_of}
use Rattle.site_packs.specs.Cutting.{IsCut}
use Rattle.site_packs.specs.Committing.{blocks_over, calls_of}
use Rattle.site_node.specs.of_store_instances.Writes.{blocks_in, calls_in}
use Rattle.site_disk.specs.Image.{label_on, one_half}
use Rattle.site_disk.specs.Run.{as_cut, disk_on}
use Rattle.site_disk.proofs.CutCommits.{cut_commits, same_blocks}
use Rattle.site_node.specs.declared.node.SiteNode.{SiteNode}
use Rattle.site_node.specs.Views.{view_of}
use Rattle.site_node.specs.Writing.{IsCutIn}
use Rattle.site_place.specs.declared.script.DiskScript.{DiskScript}
use Rattle.site_place.specs.Places.{PlaceState, Happening, Gives, armed_by, cut_by, runs_in, cut_in, writes_armed_in, acts_in}
use Rattle.site_place.specs.Views.{armed_in}
use Rattle.site_place.proofs.Scripts.{AllPassed, with_count}

-- ---- whole ----

same_left : (x : DiskScript) (left : ℕ) → left ≡ x.left → Some (armed_by (record x { left = left })) ≡ Some (armed_by x)
same_left x left is = ap (λ (k : ℕ). Some (armed_by (record x { left = k }))) is

runs_when : (me : ℕ) (v : SiteView) (o : Outcome SiteView) (d : DiskWrite) (a : Armed) (calls : ℕ) → nat_lt a.left calls ≡ false → writes_armed_in me v o d a calls ≡ runs_in o (Some (record a { left = a.left - calls }))
runs_when me v o d a calls is = ap (λ (b : Bool). elim b [ true ↦ cut_in me v d a | false ↦ runs_in o (Some (record a { left = a.left - calls })) ]) is

cut_when : (me : ℕ) (v : SiteView) (o : Outcome SiteView) (d : DiskWrite) (a : Armed) (calls : ℕ) → nat_lt a.left calls ≡ true → writes_armed_in me v o d a calls ≡ cut_in me v d a
cut_when me v o d a calls is = ap (λ (b : Bool). elim b [ true ↦ cut_in me v d a | false ↦ runs_in o (Some (record a { left = a.left - calls })) ]) is

-- a write makes as many calls as the run counts
same_calls : (before : Store) (d : DiskWrite) → calls_of (blocks_over (copy_of before d.copy.file) d.copy.content d.pages) (is_some (copy_of before d.copy.file)) ≡ write_calls before d
same_calls before d = ap (λ (k : ℕ). calls_of k (is_some (copy_of before d.copy.file))) (same_blocks before d)

-- an event whose calls all passed leaves what the run leaves, with so many calls fewer
pub acts_whole : (me : ℕ) (n : SiteNode) (image : List ℕ) (o : Outcome SiteView) (w : Option DiskWrite) (armed : Option DiskScript) (left : ℕ) → AllPassed armed (calls_in n.packs image w) left
    → acts_in me (view_of n image) o w (armed_in armed) ≡ runs_in o (armed_in (with_count left armed))
acts_whole me n image o None None left passed = refl
acts_whole me n image o None (Some x) left passed =
    let e = passed.1 in
    let all : left ≡ x.left = omega (arith, e) in
    ap (λ (a : Option Armed). runs_in o a) (sym (same_left x left all))
acts_whole me n image o (Some d) None left passed = refl
acts_whole me n image o (Some d) (Some x) left passed =
    let v = view_of n image in
    let calls = write_calls v.store d in
    let all : AllPassed (Some x) calls left = subst (λ (k : ℕ). AllPassed (Some x) k left) (same_calls v.store d) passed in
    runs_when me v o d (armed_by x) calls (le-ltb x.left calls all.0)
    ∙ ap (λ (k : ℕ). runs_in o (Some (armed_by (record x { left = k })))) (sym all.1)

-- ---- cut off ----

-- what is told of an event that was cut off
abbrev pub cut_records : ℕ → ℕ → DiskScript → List Record → List Record
cut_records me written x told = cond (new_gate written (cut_by x.how) x.left) told [] ++ says.Stopped me (cause_of (cut_by x.how)) ∷ []

told_by : (open_now : Bool) (me : ℕ) (d : DiskWrite) (how : Cut) → cond open_now (d.says ∷ []) [] ++ says.Stopped me (cause_of how) ∷ [] ≡ printed (cond open_now (Shown d.says ∷ Shown (says.Stopped me (cause_of how)) ∷ []) (Shown (says.Stopped me (cause_of how)) ∷ []))
told_by true me d how = refl
told_by false me d how = refl

told_cut : (me : ℕ) (before : Store) (d : DiskWrite) (x : DiskScript) (written : ℕ) (told : List Record) → written ≡ blocks (writing_of before d) → told ≡ d.says ∷ [] → cut_records me written x told ≡ printed (cut_told me before d (cut_by x.how) x.left)
told_cut me before d x written told same is =
    ap (λ (l : List Record). cut_records me written x l) is
    ∙ (ap (λ (k : ℕ). cut_records me k x (d.says ∷ [])) same
    ∙ told_by (new_gate (blocks (writing_of before d)) (cut_by x.how) x.left) me d (cut_by x.how))

-- an event that was cut off leaves and tells what the run does
pub acts_cut : (groups : List ℕ) (me : ℕ) (n : SiteNode) (old new : Moment) (o : Outcome SiteView) (w : Option DiskWrite) (x : DiskScript) (size : WriteSize) (before own after : Outgoing) (left : List ℕ) (b : PlaceState)
    → groups_of n.packs ≡ groups → label_on left ≡ one_half n.epochs.boot → old.passing ≡ Exactly x.left → old.how ≡ as_cut (cut_by x.how) → left ≡ new.left → before.records ≡ []
    → IsCutIn w n.packs size old new before own → after ≡ record { packets = []; records = cut_records me size.blocks x own.records }
    → Gives (acts_in me (view_of n old.seen) o w (Some (armed_by x))) b (record b { place = Stopped (disk_on groups left); armed = None }) after
acts_cut groups me n old new o None x size before own after left b same label passing how is empty cut told = absurd cut
acts_cut groups me n old new o (Some d) x size before own after left b same label passing how is empty cut told =
    let v = view_of n old.seen in
    let calls = write_calls v.store d in
    let few : nat_lt x.left calls ≡ true = lt-ltb x.left calls (subst (λ (k : ℕ). x.left < k) (same_calls v.store d) (cut.early x.left passing)) in
    let gate : IsCut n.packs d.copy (blocks_in n.packs old.seen d) (as_cut (cut_by x.how)) x.left old.seen left =
    subst (λ (l : List ℕ). IsCut n.packs d.copy (blocks_in n.packs old.seen d) (as_cut (cut_by x.how)) x.left old.seen l) (sym is)
    (subst (λ (h : DiskCut). IsCut n.packs d.copy (blocks_in n.packs old.seen d) h x.left old.seen new.left) how (cut.left x.left passing)) in
    let disk : disk_on groups left ≡ cut_disk v.boot v.store d (cut_by x.how) x.left =
    ap (λ (gs : List ℕ). disk_on gs left) (sym same) ∙ cut_commits n.packs v.boot v.store d (cut_by x.how) x.left old.seen left gate refl label in
    let records : own.records ≡ d.says ∷ [] = cut.records ∙ ap (λ (l : List Record). l ++ d.says ∷ []) empty in
    let says_all = told_cut me v.store d x size.blocks own.records (cut.blocks ∙ same_blocks v.store d) records in
    subst (λ (h : Happening). Gives h b (record b { place = Stopped (disk_on groups left); armed = None }) after) (sym (cut_when me v o d (armed_by x) calls few)) (record {
      state = ap (λ (k : Disk). record b { place = Stopped k; armed = None }) disk;
      packets = ap (λ (g : Outgoing). g.packets) told;
      records = ap (λ (g : Outgoing). g.records) told ∙ says_all;
    })
