use Rattle.std.proofs.Common.{ℕ, ◌*◌, ◌+◌, ◌≤◌, List, length, sym, ◌∙◌, ap, subst}
use Rattle.std.specs.Prelude.{None, Some, Ok}
use Rattle.locus_ids.specs.declared.config.Config.{Config}
use Rattle.disk_model.specs.declared.disk.DiskFault.{DiskFault}
use Rattle.disk_model.specs.declared.script.Script.{Script}
use Rattle.disk_model.specs.Disk.{Passing}
use Rattle.disk_model.specs.Moments.{TellsMany}
use Rattle.disk_model.specs.Script.{passing_of}
use Rattle.disk_model.specs.ScriptDisk.{seen, moment}
use Rattle.role_steps.specs.declared.copies.FileCopy.{FileCopy}
use Rattle.the_run.specs.Worlds.{Running, fresh}
use Rattle.site_packs.specs.Copies.{copies_on}
use Rattle.site_packs.specs.Packs.{groups_at}
use Rattle.site_disk.specs.Image.{disk_length}
use Rattle.site_disk.proofs.Runs.{formatted_same}
use Rattle.site_place.specs.Standing.{IsPlace}
use Rattle.site_place.proofs.Images.{has_number}
use Rattle.site_place.proofs.Running.{long_enough, runs_fresh}
use Rattle.site_place.proofs.Refusing.{format_failed}
use Rattle.site_place.proofs.Scripts.{all_script, not_failed}
use Rattle.site_place.proofs.place.SitePlace.new.Goals as goal

pub format-requires : goal.format-requires
format-requires c = long_enough c.args.config.now c.args.me c.length.result (seen c.in_ok-disk.disk.disk) c.length.ensures c.in_ok-disk.ensures.read

-- all calls pass where nothing is armed
pub unreachable-requires : goal.unreachable-requires
unreachable-requires c =
    let n = 2 + 131 * length (groups_at c.args.config.now c.args.me) in
    let old = passing_of c.in_ok-disk.disk.disk.script in
    let now = passing_of c.format.new.disk.disk.script in
    not_failed n old now (ap (λ (k : Script). passing_of k) c.in_ok-disk.ensures.script) (format_failed c.format.result n old now c.in-Err-Disk.field-0 c.in-Err-Disk.field-0-is c.in-Err-Disk.ensures.tells)

pub invariant_of-result : goal.invariant_of-result
invariant_of-result c =
    let config = c.args.config.now in
    let me = c.args.me in
    let made = c.in-Ok.ensures in
    let old = c.in_ok-disk.disk.disk in
    let now = c.format.new.disk.disk in
    let image = seen now in
    let told = subst (λ (k : Passing). TellsMany {T = Unit {0}} {E = DiskFault} (2 + 131 * length (groups_at config me)) k (passing_of now.script) (Ok tt)) (ap (λ (s : Script). passing_of s) c.in_ok-disk.ensures.script) made.tells in
    let long : disk_length config me ≤ length image = subst (λ (k : ℕ). disk_length config me ≤ k) (sym made.outside.long) (long_enough config me c.length.result (seen old) c.length.ensures c.in_ok-disk.ensures.read) in
    let n = c.fresh-node.result in
    let fresh_is = c.fresh-node.ensures in
    let runs = runs_fresh config me 1 n c.in-Ok.packs _ (moment now) made.stands made.groups made.site fresh_is.packs (fresh_is.config ∙ c.in_ok-own.ensures) fresh_is.site (fresh_is.view image) made.label in
    subst (λ (k : Config). IsPlace (record { alloc = c.args.alloc; config = k; me = me; node = Some n; disk = c.format.new.disk; armed = None })) (sym c.in_ok-cluster.ensures)
    (record {
      settled = made.stands.settled;
      whole = record { long = long; label = has_number me 1 image made.boot; sound = made.sound };
      script = all_script now.script told.1;
      node = runs;
    })

pub returns : goal.returns
returns c =
    let config = c.args.config.now in
    let me = c.args.me in
    let made = c.in-Ok.ensures in
    let image = seen c.format.new.disk.disk in
    let copies = ap (λ (gs : List ℕ). copies_on gs image) made.groups ∙ made.copies ∙ formatted_same config me in
    let view = c.fresh-node.ensures.view image ∙ ap (λ (k : List FileCopy). fresh 1 k) copies in
    (λ i. record { config = c.in_ok-cluster.ensures i; site = me; place = Running (view i); armed = None })
