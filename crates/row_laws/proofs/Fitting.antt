-- The lines of a schedule are in range for its cluster.
use Rattle.std.proofs.Common.{◌≡◌, ◌≤◌, ℕ, zero, suc, ◌==◌, Bool, true, false, ◌||◌, ◌&&◌, not, List, [], ◌∷◌, ◌++◌, slice_index_or, refl, sym, ◌∙◌, ap, subst, append_assoc, arith}
use Rattle.std.proofs.lemmas.Bool.Decides.{nat_tests}
use Rattle.std.proofs.lemmas.List.Sums.{fold-append}
use Rattle.role_steps.proofs.of_plain_facts.Tests.{both_true, false_true, or_true}
use Rattle.locus_ids.specs.declared.config.Config.{Config}
use Rattle.locus_ids.specs.Sizes.{sites_max}
use Rattle.schedule_lines.specs.Cluster.{no_cluster, with_line, config_of, is_whole, may_join}
use Rattle.schedule_lines.specs.Ranges.{is_between, are_two_sites, fits_event}
use Rattle.schedule_lines.specs.Schedule.{is_event, has_begun, MayStand, MayFollow, AreInOrder}
use Rattle.schedule_lines.specs.declared.header.HeaderLine.TheVariants as header
use Rattle.schedule_lines.specs.declared.line.Line.{Line as LineWords}
use Rattle.schedule_lines.specs.declared.line.Line.TheVariants as line
use Rattle.schedule_lines.specs.declared.line.ScheduleLine.{ScheduleLine}
use Rattle.schedule_lines.specs.declared.line.ScheduleLine.TheVariants.{Passed, Header, Event}
use Rattle.row_laws.specs.Voids.{LinesFit, CutsNoSelf}

-- the cluster with one line more
config_more : (earlier : List ScheduleLine) (l : ScheduleLine) → config_of (earlier ++ l ∷ []) ≡ with_line (config_of earlier) l
config_more earlier l = fold-append with_line no_cluster earlier (l ∷ [])

begun_more : (earlier : List ScheduleLine) (l : ScheduleLine) → has_begun (earlier ++ l ∷ []) ≡ (has_begun earlier || is_event l)
begun_more [] l = no_more (is_event l)
  where
    no_more : (b : Bool) → (b || false) ≡ b
    no_more true = refl
    no_more false = refl
begun_more (x ∷ xs) l = ap (λ (b : Bool). is_event x || b) (begun_more xs l) ∙ shift (is_event x) (has_begun xs) (is_event l)
  where
    shift : (a b c : Bool) → (a || (b || c)) ≡ ((a || b) || c)
    shift true b c = refl
    shift false b c = refl

-- once an event line stands there, no line changes the cluster
line_steady : (earlier : List ScheduleLine) (l : ScheduleLine) → MayStand earlier l → has_begun earlier ≡ true → with_line (config_of earlier) l ≡ config_of earlier
line_steady earlier Passed h begun = refl
line_steady earlier (Event e) h begun = refl
line_steady earlier (Header x) h begun = absurd (false_true (sym (ap not begun) ∙ (both_true (not (has_begun earlier)) (may_join (config_of earlier) x) h).0))

steady : (earlier later : List ScheduleLine) → MayFollow earlier later → has_begun earlier ≡ true → config_of (earlier ++ later) ≡ config_of earlier
steady earlier [] h begun = fold-append with_line no_cluster earlier []
steady earlier (l ∷ later) h begun =
    ap config_of (sym (append_assoc earlier (l ∷ []) later))
    ∙ (steady (earlier ++ l ∷ []) later h.1 (begun_more earlier l ∙ ap (λ (b : Bool). b || is_event l) begun)
    ∙ (config_more earlier l ∙ line_steady earlier l h.0 begun))

event_fits : (earlier later : List ScheduleLine) (e : LineWords) → MayFollow earlier (Event e ∷ later) → fits_event (config_of (earlier ++ Event e ∷ later)).sites e ≡ true
event_fits earlier later e h =
    ap (λ (c : Config). fits_event c.sites e)
    (ap config_of (sym (append_assoc earlier (Event e ∷ []) later))
    ∙ (steady (earlier ++ Event e ∷ []) later h.1 (begun_more earlier (Event e) ∙ or_true (has_begun earlier)) ∙ config_more earlier (Event e)))
    ∙ (both_true (is_whole (config_of earlier)) (fits_event (config_of earlier).sites e) h.0).1

passed_event : (l : LineWords) → Passed ≡ Event l → ⊥
passed_event l e = cc

each_fits : (earlier later : List ScheduleLine) → MayFollow earlier later → (k : ℕ) (l : LineWords) → slice_index_or later k Passed ≡ Event l → fits_event (config_of (earlier ++ later)).sites l ≡ true
each_fits earlier [] h k l e = absurd (passed_event l e)
each_fits earlier (x ∷ later) h zero l e =
    subst (λ (y : ScheduleLine). MayFollow earlier (y ∷ later) → fits_event (config_of (earlier ++ y ∷ later)).sites l ≡ true) (sym e) (event_fits earlier later l) h
each_fits earlier (x ∷ later) h (suc k) l e = ap (λ (ls : List ScheduleLine). fits_event (config_of ls).sites l) (sym (append_assoc earlier (x ∷ []) later)) ∙ each_fits (earlier ++ x ∷ []) later h.1 k l e

pub schedule_fits : (lines : List ScheduleLine) → AreInOrder lines → LinesFit (config_of lines) lines
schedule_fits lines h zero l e = absurd (passed_event l e)
schedule_fits lines h (suc n) l e = each_fits [] lines h n l e

two_sites : (n s : ℕ) → are_two_sites n s s ≡ true → ⊥
two_sites n s h = grind (arith, nat_tests)

-- a circuit is between two sites
pub cuts_none : (c : Config) (lines : List ScheduleLine) → LinesFit c lines → CutsNoSelf lines
cuts_none c lines fit n s is = two_sites c.sites s (fit n (line.Down s s) is)

-- ---- how many sites ----

few_line : (earlier : List ScheduleLine) (l : ScheduleLine) → MayStand earlier l → (config_of earlier).sites ≤ sites_max → (with_line (config_of earlier) l).sites ≤ sites_max
few_line earlier (Header (header.Sites count)) h few = within ((config_of earlier).sites == 0) (both_true (not (has_begun earlier)) ((config_of earlier).sites == 0 && is_between 1 sites_max count) h).1
  where
    within : (b : Bool) → (b && is_between 1 sites_max count) ≡ true → count ≤ sites_max
    within true e = grind (arith, nat_tests)
    within false e = absurd (false_true e)
few_line earlier (Header (header.Group group set)) h few = few
few_line earlier (Header (header.Mount group name)) h few = few
few_line earlier Passed h few = few
few_line earlier (Event e) h few = few

few_sites : (earlier later : List ScheduleLine) → MayFollow earlier later → (config_of earlier).sites ≤ sites_max → (config_of (earlier ++ later)).sites ≤ sites_max
few_sites earlier [] h few = subst (λ (c : Config). c.sites ≤ sites_max) (sym (fold-append with_line no_cluster earlier [])) few
few_sites earlier (l ∷ later) h few =
    subst (λ (ls : List ScheduleLine). (config_of ls).sites ≤ sites_max) (append_assoc earlier (l ∷ []) later)
    (few_sites (earlier ++ l ∷ []) later h.1 (subst (λ (c : Config). c.sites ≤ sites_max) (sym (config_more earlier l)) (few_line earlier l h.0 few)))

-- no cluster has more sites than there may be
pub schedule_few : (lines : List ScheduleLine) → AreInOrder lines → (config_of lines).sites ≤ sites_max
schedule_few lines h = few_sites [] lines h (omega arith)
