use Rattle.std.proofs.Common.{◌≡◌, ◌+◌, ◌-◌, ◌*◌, true, ℕ, suc, List, ◌∷◌, length, take, drop, get_or, ap, sym, subst, arith, rules}
use Rattle.std.specs.Prelude.{OnOk}
use Rattle.locus_ids.specs.Sites.{has}
use Rattle.disk_model.specs.Disk.{Goes}
use Rattle.disk_model.specs.Images.{Torn}
use Rattle.disk_model.specs.Moments.{TellsMany}
use Rattle.pack_layout.specs.Layout.{area_length, area_at}
use Rattle.role_steps.specs.Views.{pack_sites}
use Rattle.site_packs.specs.Formatting.{HasRootAlone, AreNew, stored_among}
use Rattle.site_packs.proofs.Mounts.{split_first, not_empty}
use Rattle.site_packs.proofs.Stored.{on_ok_map}
use Rattle.site_packs.proofs.NewPacks.{new_first}
use Rattle.site_packs.proofs.Formatted.{Within, within_more, goes_first, goes_rest, tells_rest, stored_here, known_rest, on_ok_both}
use Rattle.site_packs.proofs.formatting.+format_behind.Goals as goal

pub returns-in_err-format_pack-clause-crash : goal.returns-in_err-format_pack-clause-crash
returns-in_err-format_pack-clause-crash g t c =
    let M = g.D.Disk.moment in
    let config = c.args.config.now in
    let site = c.args.site in
    let groups = c.args.groups.now in
    let nth = c.args.nth in
    let first = get_or groups 0 0 in
    let rest = take (length groups - 1) (drop 1 groups) in
    let is = split_first groups (not_empty groups c.is_empty.result c.is_empty.ensures c.if-is_empty.false) in
    let stored : has (pack_sites config first) site ≡ true = search rules in
    let e = stored_here config site first groups rest is stored in
    let n = length (stored_among config site rest) in
    subst (λ (l : List ℕ). Goes (Torn (area_at nth) (area_length * length l)) (M c.args.disk.now) (M c.format_pack.new.disk)) (sym e)
    (goes_first M nth n c.args.disk.now c.format_pack.new.disk (subst (λ (b : ℕ). Goes (Torn b area_length) (M c.args.disk.now) (M c.format_pack.new.disk)) c.area_at.ensures c.format_pack.ensures.crash))

pub format_behind-requires-2 : goal.format_behind-requires-2
format_behind-requires-2 g t c κs within =
    let M = g.D.Disk.moment in
    let config = c.args.config.now in
    let site = c.args.site in
    let groups = c.args.groups.now in
    let nth = c.args.nth in
    let first = get_or groups 0 0 in
    let rest = take (length groups - 1) (drop 1 groups) in
    let is = split_first groups (not_empty groups c.is_empty.result c.is_empty.ensures c.if-is_empty.false) in
    let stored : has (pack_sites config first) site ≡ true = search rules in
    let e = stored_here config site first groups rest is stored in
    let n = length (stored_among config site rest) in
    let more = ap (λ (l : List ℕ). length l) e in
    let long = c.in_ok-format_pack.ensures.outside.long in
    let room = c.requires.area in
    (search rules, (search rules, (search rules, (known_rest first groups rest is c.requires.known, omega arith))))

pub returns-clause-made : goal.returns-clause-made
returns-clause-made g t c =
    let M = g.D.Disk.moment in
    let config = c.args.config.now in
    let site = c.args.site in
    let groups = c.args.groups.now in
    let nth = c.args.nth in
    let first = get_or groups 0 0 in
    let rest = take (length groups - 1) (drop 1 groups) in
    let is = split_first groups (not_empty groups c.is_empty.result c.is_empty.ensures c.if-is_empty.false) in
    let stored : has (pack_sites config first) site ≡ true = search rules in
    let e = stored_here config site first groups rest is stored in
    let n = length (stored_among config site rest) in
    let d = c.args.disk.now in
    let mid = c.format_pack.new.disk in
    let new = c.format_behind-2.new.disk in
    let result = c.format_behind-2.result in
    let S = stored_among config site rest in
    let whose = subst (λ (k : ℕ). HasRootAlone c.area_at.result first site (pack_sites config k) (M mid).seen) c.from.ensures c.in_ok-format_pack.ensures.made in
    let here = subst (λ (b : ℕ). HasRootAlone b first site (pack_sites config first) (M mid).seen) c.area_at.ensures whose in
    subst (λ (l : List ℕ). OnOk result (AreNew nth config site l (M new).seen)) (sym e)
    (on_ok_both result (Torn (area_at (nth + 1)) (area_length * n) (M mid).seen (M new).seen) (AreNew (nth + 1) config site S (M new).seen) (AreNew nth config site (first ∷ S) (M new).seen)
    (λ torn rest. new_first nth config site first S (M mid).seen (M new).seen here torn rest)
    c.format_behind-2.ensures.outside c.format_behind-2.ensures.made)

pub returns-clause-outside : goal.returns-clause-outside
returns-clause-outside g t c =
    let M = g.D.Disk.moment in
    let config = c.args.config.now in
    let site = c.args.site in
    let groups = c.args.groups.now in
    let nth = c.args.nth in
    let first = get_or groups 0 0 in
    let rest = take (length groups - 1) (drop 1 groups) in
    let is = split_first groups (not_empty groups c.is_empty.result c.is_empty.ensures c.if-is_empty.false) in
    let stored : has (pack_sites config first) site ≡ true = search rules in
    let e = stored_here config site first groups rest is stored in
    let n = length (stored_among config site rest) in
    let d = c.args.disk.now in
    let mid = c.format_pack.new.disk in
    let new = c.format_behind-2.new.disk in
    let result = c.format_behind-2.result in
    let S = stored_among config site rest in
    let one = subst (λ (b : ℕ). Torn b area_length (M d).seen (M mid).seen) c.area_at.ensures c.in_ok-format_pack.ensures.outside in
    subst (λ (l : List ℕ). OnOk result (Torn (area_at nth) (area_length * length l) (M d).seen (M new).seen)) (sym e)
    (on_ok_map result (Within (nth + 1) n (M mid).seen (M new).seen) (Within nth (suc n) (M d).seen (M new).seen)
    (λ rest. within_more nth n (M d).seen (M mid).seen (M new).seen one rest)
    c.format_behind-2.ensures.outside)

pub returns-clause-crash : goal.returns-clause-crash
returns-clause-crash g t c =
    let M = g.D.Disk.moment in
    let config = c.args.config.now in
    let site = c.args.site in
    let groups = c.args.groups.now in
    let nth = c.args.nth in
    let first = get_or groups 0 0 in
    let rest = take (length groups - 1) (drop 1 groups) in
    let is = split_first groups (not_empty groups c.is_empty.result c.is_empty.ensures c.if-is_empty.false) in
    let stored : has (pack_sites config first) site ≡ true = search rules in
    let e = stored_here config site first groups rest is stored in
    let n = length (stored_among config site rest) in
    let d = c.args.disk.now in
    let mid = c.format_pack.new.disk in
    let new = c.format_behind-2.new.disk in
    let result = c.format_behind-2.result in
    let S = stored_among config site rest in
    let one = subst (λ (b : ℕ). Goes (Torn b area_length) (M d) (M mid)) c.area_at.ensures c.format_pack.ensures.crash in
    subst (λ (l : List ℕ). Goes (Torn (area_at nth) (area_length * length l)) (M d) (M new)) (sym e)
    (goes_rest M nth n d mid new one c.format_behind-2.ensures.crash)

pub returns-clause-tells : goal.returns-clause-tells
returns-clause-tells g t c =
    let M = g.D.Disk.moment in
    let config = c.args.config.now in
    let site = c.args.site in
    let groups = c.args.groups.now in
    let nth = c.args.nth in
    let first = get_or groups 0 0 in
    let rest = take (length groups - 1) (drop 1 groups) in
    let is = split_first groups (not_empty groups c.is_empty.result c.is_empty.ensures c.if-is_empty.false) in
    let stored : has (pack_sites config first) site ≡ true = search rules in
    let e = stored_here config site first groups rest is stored in
    let n = length (stored_among config site rest) in
    let d = c.args.disk.now in
    let mid = c.format_pack.new.disk in
    let new = c.format_behind-2.new.disk in
    let result = c.format_behind-2.result in
    let S = stored_among config site rest in
    subst (λ (l : List ℕ). TellsMany (131 * length l) (M d).passing (M new).passing result) (sym e)
    (tells_rest n (M d).passing (M mid).passing (M new).passing result c.in_ok-format_pack.ensures.tells c.format_behind-2.ensures.tells)
