use Rattle.std.proofs.Common.{◌≡◌, false, ◌∙◌, ◌++◌, ℕ, List, length, replicate, ap, subst, sym, arith, length-append}
use Rattle.disk_model.specs.Images.{overwritten, bytes_at, Torn, Same}
use Rattle.disk_model.proofs.Moments.{goes_more, goes_wider, on_ok}
use Rattle.gate_switch.proofs.Pieces.{torn_overwritten}
use Rattle.gate_switch.proofs.Tearing.{torn_stays, torn_joins, written_there}
use Rattle.site_label.specs.Label.{label_bytes, half_bytes, HasBoot, IsNew}
use Rattle.site_label.proofs.Halves.{length-half}
use Rattle.site_label.specs.Raising.{are_open}
use Rattle.site_label.proofs.Stages.{new_label}
use Rattle.site_label.proofs.Cutting.{new_alone}
use Rattle.site_label.proofs.label.Label.format.Given.{Over}
use Rattle.site_label.proofs.label.Label.format.Goals as goal

long : (bytes : List ℕ) (site : ℕ) → bytes ≡ half_bytes site 1 ++ replicate 512 0 → length bytes ≡ label_bytes
long bytes site is = let l = length-half site 1 in omega (arith, ap (λ (l : List ℕ). length l) is, length-append (half_bytes site 1) (replicate 512 0))

made : (g : Over) (c : goal.After-sync g) → IsNew c.args.site (g.D.Disk.moment c.sync.new.self).seen
made g c =
    let old = (g.D.Disk.moment c.args.disk.now).seen in
    let bytes = c.new_label.result in
    let count = long bytes c.args.site c.new_label.ensures in
    let fits = c.requires in
    ap (λ (l : List ℕ). bytes_at l 0 label_bytes) (c.sync.ensures.seen ∙ c.in_ok-write_at.ensures.written)
    ∙ ap (λ (n : ℕ). bytes_at (overwritten old 0 bytes) 0 n) (sym count)
    ∙ written_there old 0 bytes (omega arith) ∙ c.new_label.ensures

pub returns-clause-formatted : goal.returns-clause-formatted
returns-clause-formatted g c = on_ok c.sync.result _ (IsNew c.args.site (g.D.Disk.moment c.sync.new.self).seen) (λ _. made g c) c.sync.ensures.durable

pub returns-clause-boot : goal.returns-clause-boot
returns-clause-boot g c = on_ok c.sync.result _ (HasBoot c.args.site 1 (g.D.Disk.moment c.sync.new.self).seen) (λ _. new_label c.args.site (g.D.Disk.moment c.sync.new.self).seen (made g c)) c.sync.ensures.durable

pub returns-clause-crash : goal.returns-clause-crash
returns-clause-crash g c =
    let M = g.D.Disk.moment in
    let old = c.args.disk.now in
    let count = long c.new_label.result c.args.site c.new_label.ensures in
    goes_more M Same (Torn 0 label_bytes) old c.write_at.new.self c.sync.new.self (λ a b same. subst (λ (l : List ℕ). Torn 0 label_bytes a l) (sym same) (torn_stays 0 label_bytes a)) (torn_joins 0 label_bytes)
    (goes_wider M (Torn 0 (length c.new_label.result)) (Torn 0 label_bytes) old c.write_at.new.self (λ a b torn. subst (λ (n : ℕ). Torn 0 n a b) count torn) c.write_at.ensures.crash)
    c.sync.ensures.crash

pub returns-clause-alone : goal.returns-clause-alone
returns-clause-alone g c = on_ok c.sync.result _ (are_open (g.D.Disk.moment c.sync.new.self).seen ≡ false) (λ _. new_alone c.args.site (g.D.Disk.moment c.sync.new.self).seen (made g c)) c.sync.ensures.durable

pub returns-clause-outside : goal.returns-clause-outside
returns-clause-outside g c =
    let old = (g.D.Disk.moment c.args.disk.now).seen in
    let bytes = c.new_label.result in
    let count = long bytes c.args.site c.new_label.ensures in
    let fits = c.requires in
    on_ok c.sync.result _ (Torn 0 label_bytes old (g.D.Disk.moment c.sync.new.self).seen)
    (λ _. subst (λ (l : List ℕ). Torn 0 label_bytes old l) (sym (c.sync.ensures.seen ∙ c.in_ok-write_at.ensures.written)) (subst (λ (n : ℕ). Torn 0 n old (overwritten old 0 bytes)) count (torn_overwritten old 0 bytes (omega arith))))
    c.sync.ensures.durable
