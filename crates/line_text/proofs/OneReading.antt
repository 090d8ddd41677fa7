-- No bytes are two lines, and no lines of bytes two schedules.
use Rattle.std.proofs.Common.{◌≡◌, ℕ, Bool, true, false, not, List, [], ◌∷◌, ◌++◌, Some, refl, sym, ap, subst, ◌∙◌}
use Rattle.std.specs.Prelude.{◌&&◌}
use Rattle.std.proofs.lemmas.Bool.{and_parts, false≢true}
use Rattle.locus_ids.specs.declared.config.Config.{Config}
use Rattle.schedule_lines.specs.Cluster.{config_of, is_whole, may_join}
use Rattle.schedule_lines.specs.Ranges.{fits_event}
use Rattle.schedule_lines.specs.Schedule.{Reads, ReadsAfter, has_begun}
use Rattle.schedule_lines.specs.Spelling.{event_spelling, header_spelling, is_passed}
use Rattle.schedule_lines.specs.declared.header.HeaderLine.{HeaderLine}
use Rattle.schedule_lines.specs.declared.header.HeaderLine.TheVariants as header
use Rattle.schedule_lines.specs.declared.line.Line.{Line}
use Rattle.schedule_lines.specs.declared.line.Line.TheVariants as event
use Rattle.schedule_lines.specs.declared.line.ScheduleLine.{ScheduleLine}
use Rattle.schedule_lines.specs.declared.line.ScheduleLine.TheVariants as line
use Rattle.line_text.specs.EventReader.{event_in}
use Rattle.line_text.specs.HeaderReader.{begins_header, header_in}
use Rattle.line_text.proofs.EventForms.{event_complete}
use Rattle.line_text.proofs.HeaderForms.{header_complete}
use Rattle.line_text.proofs.ReaderSteps.{header_begins, event_begins}

same_some : {X : Type 0} (x y : X) → Some x ≡ Some y → x ≡ y
same_some x y e = cc

one_event : (n : ℕ) (l m : Line) → fits_event n l ≡ true → fits_event n m ≡ true → event_spelling l ≡ event_spelling m → l ≡ m
one_event n l m f g e = same_some l m (sym (event_complete n l f) ∙ (ap (event_in n) e ∙ event_complete n m g))

one_header : (c : Config) (l m : HeaderLine) → may_join c l ≡ true → may_join c m ≡ true → header_spelling l ≡ header_spelling m → l ≡ m
one_header c l m f g e = same_some l m (sym (header_complete c l f) ∙ (ap (header_in c.sites) e ∙ header_complete c m g))

header_counts : (h : HeaderLine) → is_passed (header_spelling h) ≡ false
header_counts (header.Sites count) = refl
header_counts (header.Group group sites) = refl
header_counts (header.Mount group name) = refl

event_counts : (e : Line) → is_passed (event_spelling e) ≡ false
event_counts (event.Call site process call) = refl
event_counts (event.Deliver packet) = refl
event_counts (event.Lose packet) = refl
event_counts (event.Tick site) = refl
event_counts (event.Down one other) = refl
event_counts (event.Up one other) = refl
event_counts (event.Part site) = refl
event_counts (event.Merge site) = refl
event_counts (event.GiveUp site) = refl
event_counts (event.Stop site) = refl
event_counts (event.ArmStop site calls leave) = refl
event_counts (event.ArmFail site calls) = refl
event_counts (event.Boot site) = refl
event_counts (event.Settle most) = refl
event_counts event.Pending = refl

not_passed : (bytes spelled : List ℕ) → is_passed spelled ≡ false → bytes ≡ spelled → is_passed bytes ≡ true → ⊥
not_passed bytes spelled f e p = false≢true (sym f ∙ (ap is_passed (sym e) ∙ p))

not_both : (bytes : List ℕ) (h : HeaderLine) (e : Line) → bytes ≡ header_spelling h → bytes ≡ event_spelling e → ⊥
not_both bytes h e p q = false≢true (sym (event_begins e) ∙ (ap begins_header (sym q ∙ p) ∙ header_begins h))

-- the bytes are one line alone that may stand there
pub one_line : (earlier : List ScheduleLine) (bytes : List ℕ) (l m : ScheduleLine) → Reads earlier bytes l → Reads earlier bytes m → l ≡ m
one_line earlier bytes line.Passed line.Passed p q = refl
one_line earlier bytes line.Passed (line.Header h) p q = absurd (not_passed bytes (header_spelling h) (header_counts h) q.0 p.0)
one_line earlier bytes line.Passed (line.Event e) p q = absurd (not_passed bytes (event_spelling e) (event_counts e) q.0 p.0)
one_line earlier bytes (line.Header h) line.Passed p q = absurd (not_passed bytes (header_spelling h) (header_counts h) p.0 q.0)
one_line earlier bytes (line.Header h) (line.Header k) p q =
    let c = config_of earlier in
    ap (λ (x : HeaderLine). line.Header x) (one_header c h k (and_parts (not (has_begun earlier)) (may_join c h) p.1).1 (and_parts (not (has_begun earlier)) (may_join c k) q.1).1 (sym p.0 ∙ q.0))
one_line earlier bytes (line.Header h) (line.Event e) p q = absurd (not_both bytes h e p.0 q.0)
one_line earlier bytes (line.Event e) line.Passed p q = absurd (not_passed bytes (event_spelling e) (event_counts e) p.0 q.0)
one_line earlier bytes (line.Event e) (line.Header h) p q = absurd (not_both bytes h e q.0 p.0)
one_line earlier bytes (line.Event e) (line.Event f) p q =
    let c = config_of earlier in
    ap (λ (x : Line). line.Event x) (one_event c.sites e f (and_parts (is_whole c) (fits_event c.sites e) p.1).1 (and_parts (is_whole c) (fits_event c.sites f) q.1).1 (sym p.0 ∙ q.0))

lines_after : (bytes : List (List ℕ)) (earlier ls ms : List ScheduleLine) → ReadsAfter earlier bytes ls → ReadsAfter earlier bytes ms → ls ≡ ms
lines_after [] earlier [] [] p q = refl
lines_after [] earlier [] (m ∷ ms) p q = absurd q
lines_after [] earlier (l ∷ ls) ms p q = absurd p
lines_after (b ∷ bs) earlier [] ms p q = absurd p
lines_after (b ∷ bs) earlier (l ∷ ls) [] p q = absurd q
lines_after (b ∷ bs) earlier (l ∷ ls) (m ∷ ms) p q =
    let e = one_line earlier b l m p.0 q.0 in
    let rest = lines_after bs (earlier ++ l ∷ []) ls ms p.1 (subst (λ (x : ScheduleLine). ReadsAfter (earlier ++ x ∷ []) bs ms) (sym e) q.1) in
    ap (λ (x : ScheduleLine). x ∷ ls) e ∙ ap (λ (xs : List ScheduleLine). m ∷ xs) rest

-- the lines of bytes are one schedule alone
pub one_schedule : (bytes : List (List ℕ)) (ls ms : List ScheduleLine) → ReadsAfter [] bytes ls → ReadsAfter [] bytes ms → ls ≡ ms
one_schedule bytes ls ms p q = lines_after bytes [] ls ms p q
