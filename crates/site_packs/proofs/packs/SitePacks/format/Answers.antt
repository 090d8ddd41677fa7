use Rattle.std.proofs.Common.{◌≡◌, ◌*◌, ℕ, List, length, ap, subst, arith}
use Rattle.std.specs.Prelude.{OnOk}
use Rattle.disk_model.specs.Disk.{Goes}
use Rattle.disk_model.specs.Images.{Torn}
use Rattle.disk_model.specs.Moments.{TellsMany}
use Rattle.pack_layout.specs.Layout.{area_length}
use Rattle.role_steps.specs.Views.{all_groups}
use Rattle.site_packs.specs.Packs.{groups_at}
use Rattle.site_packs.specs.Copies.{copies_on}
use Rattle.site_packs.specs.Mounting.{AreSound, new_copies, mount_calls}
use Rattle.site_packs.specs.Formatting.{AreNew, stored_among}
use Rattle.site_packs.proofs.Stored.{on_ok_map}
use Rattle.site_packs.proofs.Formatted.{stored_all}
use Rattle.site_packs.proofs.packs.SitePacks.format.Goals as goal

pub format_behind-requires-clause-area : goal.format_behind-requires-clause-area
format_behind-requires-clause-area g c =
    let room = c.requires in
    let e = ap (λ (l : List ℕ). length l) (stored_all c.args.config.now c.args.site) in
    omega arith

pub returns-clause-copies : goal.returns-clause-copies
returns-clause-copies g c =
    let M = g.D.Disk.moment in
    let config = c.args.config.now in
    let site = c.args.site in
    let e = stored_all config site in
    let new = (M c.format_behind.new.disk).seen in
    on_ok_map c.format_behind.result (AreNew 0 config site (stored_among config site all_groups) new) (copies_on (groups_at config site) new ≡ new_copies config site)
    (λ made. (subst (λ (l : List ℕ). AreNew 0 config site l new) e made).copies)
    c.format_behind.ensures.made

pub returns-clause-sound : goal.returns-clause-sound
returns-clause-sound g c =
    let M = g.D.Disk.moment in
    let config = c.args.config.now in
    let site = c.args.site in
    let e = stored_all config site in
    let new = (M c.format_behind.new.disk).seen in
    on_ok_map c.format_behind.result (AreNew 0 config site (stored_among config site all_groups) new) (AreSound site (groups_at config site) new)
    (λ made. (subst (λ (l : List ℕ). AreNew 0 config site l new) e made).sound)
    c.format_behind.ensures.made

pub returns-clause-shut : goal.returns-clause-shut
returns-clause-shut g c =
    let M = g.D.Disk.moment in
    let config = c.args.config.now in
    let site = c.args.site in
    let e = stored_all config site in
    let new = (M c.format_behind.new.disk).seen in
    on_ok_map c.format_behind.result (AreNew 0 config site (stored_among config site all_groups) new) (mount_calls (groups_at config site) new ≡ 0)
    (λ made. ap (λ (n : ℕ). 2 * n) (subst (λ (l : List ℕ). AreNew 0 config site l new) e made).shut)
    c.format_behind.ensures.made

pub returns-clause-outside : goal.returns-clause-outside
returns-clause-outside g c =
    let M = g.D.Disk.moment in
    let config = c.args.config.now in
    let site = c.args.site in
    let e = stored_all config site in
    subst (λ (l : List ℕ). OnOk c.format_behind.result (Torn 1024 (area_length * length l) (M c.args.disk.now).seen (M c.format_behind.new.disk).seen)) e c.format_behind.ensures.outside

pub returns-clause-crash : goal.returns-clause-crash
returns-clause-crash g c =
    let M = g.D.Disk.moment in
    let config = c.args.config.now in
    let site = c.args.site in
    let e = stored_all config site in
    subst (λ (l : List ℕ). Goes (Torn 1024 (area_length * length l)) (M c.args.disk.now) (M c.format_behind.new.disk)) e c.format_behind.ensures.crash

pub returns-clause-tells : goal.returns-clause-tells
returns-clause-tells g c =
    let M = g.D.Disk.moment in
    let config = c.args.config.now in
    let site = c.args.site in
    let e = stored_all config site in
    subst (λ (l : List ℕ). TellsMany (131 * length l) (M c.args.disk.now).passing (M c.format_behind.new.disk).passing c.format_behind.result) e c.format_behind.ensures.tells
