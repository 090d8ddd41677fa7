-- The mounts of a cluster are of groups, under names.
use Rattle.std.proofs.Common.{◌≡◌, ℕ, Bool, true, false, ◌&&◌, not, List, [], ◌∷◌, ◌++◌, refl, sym, ◌∙◌, subst, append_assoc, arith}
use Rattle.std.proofs.lemmas.Bool.Decides.{nat_tests}
use Rattle.std.proofs.lemmas.List.{append-nil}
use Rattle.std.proofs.lemmas.List.Folds.{list_all-append}
use Rattle.std.proofs.lemmas.List.Sums.{fold-append}
use Rattle.std.specs.List.{list_all}
use Rattle.plain_facts.proofs.Tests.{and_true, both_true, false_true}
use Rattle.locus_ids.specs.declared.config.Config.{Config}
use Rattle.locus_ids.specs.declared.config.Mount.{Mount}
use Rattle.trace_book.specs.Names.{is_name}
use Rattle.schedule_lines.specs.Cluster.{config_of, has_packs, is_mount_name, is_mounted, may_join, no_cluster, with_header, with_line}
use Rattle.schedule_lines.specs.Ranges.{is_between}
use Rattle.schedule_lines.specs.Schedule.{AreInOrder, MayFollow, has_begun}
use Rattle.schedule_lines.specs.declared.header.HeaderLine.{HeaderLine}
use Rattle.schedule_lines.specs.declared.header.HeaderLine.TheVariants as header
use Rattle.schedule_lines.specs.declared.line.ScheduleLine.{ScheduleLine}
use Rattle.schedule_lines.specs.declared.line.ScheduleLine.TheVariants.{Passed, Header, Event}
use Rattle.record_reading.specs.Ranges.{is_group}
use Rattle.text_laws.specs.CallTexts.Wants.{is_mount}

abbrev AreMounts : Config → Type 0
AreMounts c = list_all is_mount c.mounts ≡ true

five : (a b x y z : Bool) → (a && b && x && y && z) ≡ true → (a ≡ true) × (y ≡ true)
five true true true true true h = (refl, refl)
five true true true true false h = absurd (false_true h)
five true true true false z h = absurd (false_true h)
five true true false y z h = absurd (false_true h)
five true false x y z h = absurd (false_true h)
five false b x y z h = absurd (false_true h)

lower : (group : ℕ) → is_between 1 3 group ≡ true → is_group group ≡ true
lower group h = grind (arith, nat_tests)

joined : (c : Config) (h : HeaderLine) → may_join c h ≡ true → AreMounts c → AreMounts (with_header c h)
joined c (header.Sites count) may k = k
joined c (header.Group group set) may k = k
joined c (header.Mount group name) may k =
    let parts = five (is_between 1 3 group) (has_packs c group) (not (is_mounted c group)) (is_name name) (not (is_mount_name c name)) may in
    let more : Mount = record { group = group; name = name } in
    list_all-append is_mount c.mounts (more ∷ []) ∙ and_true (list_all is_mount c.mounts) (list_all is_mount (more ∷ [])) k (and_true (is_mount more) true (and_true (is_group group) (is_name name) (lower group parts.0) parts.1) refl)

one_more : (earlier : List ScheduleLine) (l : ScheduleLine) → MayFollow earlier (l ∷ []) → AreMounts (config_of earlier) → AreMounts (config_of (earlier ++ l ∷ []))
one_more earlier l may k = subst AreMounts (sym (fold-append with_line no_cluster earlier (l ∷ []))) (by l may)
  where
    by : (x : ScheduleLine) → MayFollow earlier (x ∷ []) → AreMounts (with_line (config_of earlier) x)
    by Passed h = k
    by (Header x) h = joined (config_of earlier) x (both_true (not (has_begun earlier)) (may_join (config_of earlier) x) h.0).1 k
    by (Event x) h = k

all_from : (earlier lines : List ScheduleLine) → MayFollow earlier lines → AreMounts (config_of earlier) → AreMounts (config_of (earlier ++ lines))
all_from earlier [] may k = subst (λ (ls : List ScheduleLine). AreMounts (config_of ls)) (sym (append-nil earlier)) k
all_from earlier (l ∷ lines) may k = subst (λ (ls : List ScheduleLine). AreMounts (config_of ls)) (append_assoc earlier (l ∷ []) lines) (all_from (earlier ++ l ∷ []) lines may.1 (one_more earlier l (may.0, tt) k))

pub mounts_are_texts : (lines : List ScheduleLine) → AreInOrder lines → list_all is_mount (config_of lines).mounts ≡ true
mounts_are_texts lines order = all_from [] lines order refl
